use Rattle.std.proofs.Common.{◌≡◌, refl, ap, ◌∙◌, subst, sym, rules}
use Rattle.std.proofs.lemmas.Bool.{false≢true}
use Rattle.datagram.specs.declared.Datagram.TheVariants as kinds
use Rattle.datagram.specs.Spelling.{HasContent}
use Rattle.node_rules.specs.Deliveries.{hears}
use Rattle.node_core.specs.Playing.{Plays, Stops}
use Rattle.std.specs.Prelude.{Ok}
use Rattle.node_core.proofs.HandleLemmas.{all-heard}
use Rattle.node_core.proofs.SpendLemmas.{spends-none}
use Rattle.std.proofs.Common.{false, List}
use Rattle.std.specs.Prelude.{is_err, fold}
use Rattle.records.specs.declared.Record.{Record}
use Rattle.datagram.specs.declared.Datagram.{Datagram}
use Rattle.epoch_store.specs.Placed.{PlacedStore}
use Rattle.node_rules.specs.OnDisks.{OnDisk, handles_on, hears_on}
use Rattle.node_rules.proofs.GoingOn.{on-hears}
use Rattle.node_core.specs.Hears.{brings_records}
use Rattle.node_core.specs.OnDisks.{ComesTo, on_disk, storage}
use Rattle.node_core.proofs.DiskLemmas.{comes-heard}
use Rattle.node_core.proofs.Node.hear.Goals as goal

pub hear_summary-requires : goal.hear_summary-requires
hear_summary-requires g c =
    let is : c.args.datagram ≡ kinds.Summary c.in-Summary.from c.in-Summary.flag c.in-Summary.summary = search rules in
    (subst HasContent is c.requires.writable.content).page

pub returns-in-Ping-clause-plays : goal.returns-in-Ping-clause-plays
returns-in-Ping-clause-plays g c = λ s es os call p.
    let is : c.args.datagram ≡ kinds.Ping c.in-Ping.from c.in-Ping.nonce = search rules in
    subst (λ d. Plays s es os c.hear_ping.new.self (hears s (Ok d) call)) (sym is) (c.hear_ping.ensures.plays s es os call p)

pub returns-in-Pong-clause-plays : goal.returns-in-Pong-clause-plays
returns-in-Pong-clause-plays g c = λ s es os call p.
    let is : c.args.datagram ≡ kinds.Pong c.in-Pong.from c.in-Pong.nonce = search rules in
    subst (λ d. Plays s es os c.hear_pong.new.self (hears s (Ok d) call)) (sym is) (c.hear_pong.ensures.plays s es os call p)

pub returns-in-Summary-clause-plays : goal.returns-in-Summary-clause-plays
returns-in-Summary-clause-plays g c = λ s es os call p.
    let is : c.args.datagram ≡ kinds.Summary c.in-Summary.from c.in-Summary.flag c.in-Summary.summary = search rules in
    subst (λ d. Plays s es os c.hear_summary.new.self (hears s (Ok d) call)) (sym is) (c.hear_summary.ensures.plays s es os call p)

pub returns-in-Records-clause-plays : goal.returns-in-Records-clause-plays
returns-in-Records-clause-plays g c = λ s es os call p.
    let is : c.args.datagram ≡ kinds.Records c.in-Records.from c.in-Records.records = search rules in
    all-heard (Plays s es os c.handle_all.new.self) (Stops s es os c.handle_all.new.self) s c.args.datagram c.in-Records.from c.in-Records.records c.into_vec.result.items call c.handle_all.result is c.into_vec.ensures (c.handle_all.ensures.plays s es os call p)

pub returns-in-Ping-clause-spends : goal.returns-in-Ping-clause-spends
returns-in-Ping-clause-spends g c = spends-none c.args.self.now c.hear_ping.new.self _ c.hear_ping.ensures.signs_nothing

pub returns-in-Pong-clause-spends : goal.returns-in-Pong-clause-spends
returns-in-Pong-clause-spends g c = spends-none c.args.self.now c.hear_pong.new.self _ c.hear_pong.ensures.signs_nothing

pub returns-in-Summary-clause-spends : goal.returns-in-Summary-clause-spends
returns-in-Summary-clause-spends g c = spends-none c.args.self.now c.hear_summary.new.self _ c.hear_summary.ensures.signs_nothing

pub returns-in-Ping-clause-follows : goal.returns-in-Ping-clause-follows
returns-in-Ping-clause-follows g c = λ s es os call d p on at fine.
    let is : c.args.datagram ≡ kinds.Ping c.in-Ping.from c.in-Ping.nonce = search rules in
    let heard : Datagram = kinds.Ping c.in-Ping.from c.in-Ping.nonce in
    let x = (g.D.Disk.state c.args.disk.now).model in
    subst (λ (z : Datagram). ComesTo s es os c.hear_ping.new.self x false (hears_on storage s (Ok z) (on_disk call d c.args.self.now.signer.seat))) (sym is)
    (comes-heard s es os c.args.self.now c.hear_ping.new.self x call (hears s (Ok heard) call) d c.hear_ping.ensures.signs_nothing ((c.hear_ping.ensures.plays s es os call p).at fine) (on-hears s (Ok heard) call) on at)

pub returns-in-Pong-clause-follows : goal.returns-in-Pong-clause-follows
returns-in-Pong-clause-follows g c = λ s es os call d p on at fine.
    let is : c.args.datagram ≡ kinds.Pong c.in-Pong.from c.in-Pong.nonce = search rules in
    let heard : Datagram = kinds.Pong c.in-Pong.from c.in-Pong.nonce in
    let x = (g.D.Disk.state c.args.disk.now).model in
    subst (λ (z : Datagram). ComesTo s es os c.hear_pong.new.self x false (hears_on storage s (Ok z) (on_disk call d c.args.self.now.signer.seat))) (sym is)
    (comes-heard s es os c.args.self.now c.hear_pong.new.self x call (hears s (Ok heard) call) d c.hear_pong.ensures.signs_nothing ((c.hear_pong.ensures.plays s es os call p).at fine) (on-hears s (Ok heard) call) on at)

pub returns-in-Summary-clause-follows : goal.returns-in-Summary-clause-follows
returns-in-Summary-clause-follows g c = λ s es os call d p on at fine.
    let is : c.args.datagram ≡ kinds.Summary c.in-Summary.from c.in-Summary.flag c.in-Summary.summary = search rules in
    let heard : Datagram = kinds.Summary c.in-Summary.from c.in-Summary.flag c.in-Summary.summary in
    let x = (g.D.Disk.state c.args.disk.now).model in
    subst (λ (z : Datagram). ComesTo s es os c.hear_summary.new.self x false (hears_on storage s (Ok z) (on_disk call d c.args.self.now.signer.seat))) (sym is)
    (comes-heard s es os c.args.self.now c.hear_summary.new.self x call (hears s (Ok heard) call) d c.hear_summary.ensures.signs_nothing ((c.hear_summary.ensures.plays s es os call p).at fine) (on-hears s (Ok heard) call) on at)

pub returns-in-Records-clause-follows : goal.returns-in-Records-clause-follows
returns-in-Records-clause-follows g c = λ s es os call d p on at fine.
    let is : c.args.datagram ≡ kinds.Records c.in-Records.from c.in-Records.records = search rules in
    let y = (g.D.Disk.state c.handle_all.new.disk).model in
    let o : OnDisk PlacedStore = on_disk call d c.args.self.now.signer.seat in
    subst (λ (z : Datagram). ComesTo s es os c.handle_all.new.self y (is_err c.handle_all.result) (hears_on storage s (Ok z) o)) (sym is)
    (subst (λ (xs : List Record). ComesTo s es os c.handle_all.new.self y (is_err c.handle_all.result) (fold (handles_on storage s) o xs)) c.into_vec.ensures
    (c.handle_all.ensures.follows s es os call d p on at fine))

pub returns-in-Ping-clause-unsigned : goal.returns-in-Ping-clause-unsigned
returns-in-Ping-clause-unsigned g c = λ none. (c.hear_ping.ensures.signs_nothing.signer, refl)

pub returns-in-Pong-clause-unsigned : goal.returns-in-Pong-clause-unsigned
returns-in-Pong-clause-unsigned g c = λ none. (c.hear_pong.ensures.signs_nothing.signer, refl)

pub returns-in-Summary-clause-unsigned : goal.returns-in-Summary-clause-unsigned
returns-in-Summary-clause-unsigned g c = λ none. (c.hear_summary.ensures.signs_nothing.signer, refl)

pub returns-in-Records-clause-unsigned : goal.returns-in-Records-clause-unsigned
returns-in-Records-clause-unsigned g c = λ none.
    let is : c.args.datagram ≡ kinds.Records c.in-Records.from c.in-Records.records = search rules in
    absurd (false≢true (sym none ∙ ap (λ (d : Datagram). brings_records (Ok d)) is))
