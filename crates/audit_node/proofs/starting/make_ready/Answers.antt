use Rattle.audit_node.specs.Told.{Tellings}
use Rattle.signer.specs.Signing.{stored_after}
use Rattle.records.specs.declared.Body.TheVariants.{Note}
use Rattle.node_rules.specs.Replies.{first_mask}
use Rattle.detector.specs.Silence.{nonce}
use Rattle.std.proofs.Common.{◌≡◌, ◌+◌, ℕ, List, ap, sym, subst, ◌∙◌, arith, ◌≤◌, true}
use Rattle.epoch_store.specs.declared.Stored.{Stored}
use Rattle.ff_ids.specs.Masks.{good_mask}
use Rattle.ff_ids.specs.declared.summary.RecordKey.{RecordKey}
use Rattle.node_rules.proofs.Allowed.{good-allowed}
use Rattle.audit_set.specs.declared.known.Unseen.{Unseen}
use Rattle.audit_node.specs.declared.starting.Parts.{Parts}
use Rattle.audit_node.specs.declared.starting.Ready.{Ready}
use Rattle.audit_node.specs.Begins.{kept_by, kept_in}
use Rattle.audit_node.specs.Rolls.{recs_of}
use Rattle.audit_node.proofs.BeginLemmas.{may-begin, own-joined, own-unnoted}
use Rattle.audit_node.proofs.CertificateLemmas.{all-certificates}
use Rattle.audit_node.proofs.starting.make_ready.Goals as goal

pub open_parts-requires-clause-certificates : goal.open_parts-requires-clause-certificates
open_parts-requires-clause-certificates c = all-certificates c.args.kit.certificates.items c.requires.kit.certificates.apart

pub returns-clause-ready : goal.returns-clause-ready
returns-clause-ready c =
    let k = c.requires.kit in
    let p : Parts = c.in_ok-roll.field-0 in
    let left : c.args.kit.stored.next + 1 ≤ c.args.kit.indexes = grind (arith, c.requires.left) in
    let next : c.stored_after-stored.result.next ≡ c.args.kit.stored.next + 1 = ap (λ (x : Stored). x.next) c.stored_after-stored.ensures in
    let epoch : c.stored_after-stored.result.epoch ≡ c.args.kit.stored.epoch + 1 = ap (λ (x : Stored). x.epoch) c.stored_after-stored.ensures ∙ c.new.ensures in
    let mask : c.stored_after-stored.result.mask.0 ≡ c.first_mask.result.0 = ap (λ (x : Stored). x.mask.0) c.stored_after-stored.ensures in
    let risen : c.stored_after-stored.result.epoch ≤ c.stored_after-stored.result.next = grind (arith, epoch, next, k.stored.risen) in
    record {
      some = k.group.some;
      few = k.group.few;
      period = k.group.period;
      timeout = k.group.waits;
      membership_group = c.in_ok-roll.ensures.groups.membership;
      detector_group = c.in_ok-roll.ensures.groups.detector;
      within = subst (λ (n : ℕ). n ≤ c.args.kit.indexes) (sym next) left;
      risen = risen;
      joined = own-joined c.args.kit (nonce c.args.kit.nonce_seed) (recs_of c.args.kit.certificates.items) p (record { me = c.note_is_spelled.ensures.member_number; own_length = k.own_length }) (c.in_ok-roll.ensures.opened (nonce c.args.kit.nonce_seed)) k.certificates.apart k.certificates.among;
      allowed = good-allowed c.args.kit.group.t c.stored_after-stored.result.mask.0 (subst (λ (m : ℕ). good_mask c.args.kit.group.t m ≡ true) (sym mask) c.first_mask.ensures.good);
      notes = c.in_ok-roll.ensures.notes;
      newest_own = own-unnoted c.args.kit (nonce c.args.kit.nonce_seed) (recs_of c.args.kit.certificates.items) p (record { me = c.note_is_spelled.ensures.member_number; own_length = k.own_length }) (c.in_ok-roll.ensures.opened (nonce c.args.kit.nonce_seed)) k.certificates.apart;
    }

pub returns-clause-begins : goal.returns-clause-begins
returns-clause-begins c = λ s nonces setting.
    let p : Parts = c.in_ok-roll.field-0 in
    let r : Ready =
    record {
      group = c.args.kit.group;
      heal = c.args.kit.heal;
      me = c.args.kit.me;
      authority = c.args.kit.authority;
      indexes = c.args.kit.indexes;
      stored = c.stored_after-stored.result;
      roll = p.roll;
      detector = p.detector;
      news = c.new-2.result;
      since = c.stored_after-stored.result.epoch;
      changes = p.changes;
      found = p.found;
      own = c.own_of-own.result;
      note = record { member = c.args.kit.me; epoch = c.new.result; mask = c.first_mask.result };
    } in
    let epoch : c.stored_after-stored.result.epoch ≡ c.args.kit.stored.epoch + 1 = ap (λ (x : Stored). x.epoch) c.stored_after-stored.ensures ∙ c.new.ensures in
    let long : r.own.length ≡ c.args.kit.own_length = ap (λ (o : Unseen). o.length) c.own_of-own.ensures in
    let kept : (t : Tellings) → record (kept_in c.args.kit p t) { stored = r.stored } ≡ kept_by r t =
    λ t. ap (λ (x : ℕ). record (kept_in c.args.kit p t) { stored = r.stored; since = x }) (sym epoch)
    ∙ ap (λ (x : List RecordKey). record (kept_in c.args.kit p t) { stored = r.stored; since = r.since; news = x }) (sym c.new-2.ensures.items)
    ∙ ap (λ (x : ℕ). record (kept_in c.args.kit p t) { stored = r.stored; since = r.since; news = r.news.items; own_length = x }) (sym long) in
    let stored : r.stored ≡ stored_after c.args.kit.stored (Note r.note) = search in
    let note : r.note ≡ record { member = c.args.kit.me; epoch = c.args.kit.stored.epoch + 1; mask = record { 0 = first_mask c.args.kit.group.t c.args.kit.stored.mask.0 } } =
    ap (λ (e : ℕ). record { member = c.args.kit.me; epoch = e; mask = c.first_mask.result }) c.new.ensures
    ∙ ap (λ (m : ℕ). record { member = c.args.kit.me; epoch = c.args.kit.stored.epoch + 1; mask = record { 0 = m } }) c.first_mask.ensures.value in
    let index : r.own.index ≡ c.args.kit.stored.next = search in
    let body : r.own.body ≡ Note r.note = ap (λ (o : Unseen). o.body) c.own_of-own.ensures in
    may-begin s nonces (recs_of c.args.kit.certificates.items) c.args.kit r p (record { me = c.note_is_spelled.ensures.member_number; own_length = c.requires.kit.own_length }) setting (c.in_ok-roll.ensures.opened nonces) kept stored note index long body c.note_is_spelled.ensures
