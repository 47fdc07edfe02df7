use Rattle.std.proofs.Common.{◌≡◌, Some, sym, ap, ◌∙◌, subst}
use Rattle.ff_ids.specs.declared.Group.{Group}
use Rattle.records.specs.declared.keys.Key.TheVariants as keys
use Rattle.epoch_store.specs.declared.Stored.{Stored}
use Rattle.epoch_store.specs.Calls.{StoreState}
use Rattle.secrets.specs.Secrets.{nonce_seed, world_secret}
use Rattle.sign_keys.specs.Keys.{KeySecret, index_count, public_key, secret_of}
use Rattle.signer.specs.Signing.{SignerState}
use Rattle.detector.specs.Silence.{nonce}
use Rattle.node_core.specs.Begins.{IsKit}
use Rattle.node_core.specs.declared.kit.Kit.{Kit}
use Rattle.node_core.specs.Playing as node
use Rattle.node_core.specs.Rolls.{recs_of}
use Rattle.world_rules.specs.Disks.{seat_of}
use Rattle.world_rules.specs.Keys.{owner_key}
use Rattle.world_host.proofs.StartLemmas.{answer-is, begins-by, nonces-are, start-going}
use Rattle.world_host.proofs.WorldLemmas.{indexes-are, own-indexes, own-kit}
use Rattle.world_host.proofs.starting.begin_node.Goals as goal

pub start-requires-clause-kit : goal.start-requires-clause-kit
start-requires-clause-kit c =
    let key : c.open-signer.result.key ≡ secret_of c.args.key = ap (λ (x : SignerState). x.key) c.open-signer.ensures.value in
    subst (λ (k : KeySecret). IsKit c.in_ok-kit.kit (public_key k)) (sym key) (c.in_ok-kit.ensures.sound c.requires.place.0 (public_key (secret_of c.args.key)) c.requires.place.1)

pub returns-clause-going : goal.returns-clause-going
returns-clause-going c =
    let kit : Kit = c.in_ok-kit.kit in
    let signer : SignerState = c.open-signer.result in
    start-going (node.setting_of kit.group kit.heal kit.me kit.authority signer.key) (public_key signer.key) (nonce kit.nonce_seed) (recs_of kit.certificates.items) signer.state c.args.events.now c.start.new.events c.start.result c.start_of.result
    c.start.ensures.starts c.start.ensures.vouchable c.start.ensures.going c.start_of.ensures

pub returns-clause-begins : goal.returns-clause-begins
returns-clause-begins c = λ s kinds tag e w certified key_is store_is h none.
    let g : Group = c.args.authority.now.group in
    let m = c.args.member in
    let kit : Kit = c.in_ok-kit.kit in
    let signer : SignerState = c.open-signer.result in
    let kit_is = c.in_ok-kit.ensures in
    let opened = c.open-signer.ensures.value in
    let stored : c.state.result ≡ e.state = c.state.ensures.value ∙ ap (λ (x : StoreState). x.state) store_is in
    let state : signer.state ≡ e.state = ap (λ (x : SignerState). x.state) opened ∙ ap (λ (x : StoreState). x.state) store_is in
    let seat : signer.seat ≡ seat_of tag e = ap (λ (x : SignerState). x.seat) opened ∙ ap (λ (x : StoreState). x.seat) store_is in
    let key : signer.key ≡ owner_key g kinds (Some m) = ap (λ (x : SignerState). x.key) opened ∙ key_is in
    let leaves : index_count signer.key ≡ s.indexes = ap index_count key ∙ own-indexes g kinds m ∙ sym (indexes-are s g kinds w) in
    let seeded : nonce kit.nonce_seed ≡ s.nonces m e.state.next = ap nonce (kit_is.seed ∙ ap (λ (k : Stored). nonce_seed (world_secret g.tag m) k.next) stored) ∙ sym (nonces-are s g kinds m e.state.next w) in
    answer-is s tag m e c.start.new.disk c.start.new.events c.start.result c.start_of.result
    (begins-by s g kit.group kinds m kit.me tag (nonce kit.nonce_seed) (public_key signer.key) (recs_of kit.certificates.items) e c.args.disk.now c.start.new.disk signer (node.setting_of kit.group kit.heal kit.me kit.authority signer.key)
    c.args.events.now c.start.new.events c.start.result w h seeded (ap recs_of kit_is.certificates ∙ certified.certified) none kit_is.group kit_is.me state seat leaves
    (own-kit s g kit.group kinds m kit.me kit.authority signer.key kit.heal w (ap keys.Lms kit_is.authority ∙ certified.key) kit_is.group kit_is.me key (kit_is.heal ∙ certified.heal))
    c.start.ensures.starts c.start.ensures.vouchable c.start.ensures.going c.start.ensures.closed c.start.ensures.seat c.start.ensures.cause c.start.ensures.puts)
    c.start_of.ensures
