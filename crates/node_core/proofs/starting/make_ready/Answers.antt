use Rattle.records.specs.declared.keys.Key.TheVariants as keys
use Rattle.std.proofs.Common.{◌≡◌, ◌+◌, refl, ap, ◌∙◌}
use Rattle.epoch_store.specs.declared.Stored.{Stored}
use Rattle.detector.specs.Silence.{nonce}
use Rattle.node_rules.proofs.Allowed.{good-allowed}
use Rattle.node_core.specs.Rolls.{recs_of}
use Rattle.node_core.specs.declared.starting.Ready.{Ready}
use Rattle.node_core.proofs.BeginLemmas.{may-begin, first-own, first-epoch, own-joined, own-unnoted}
use Rattle.node_core.specs.declared.NodeFault.TheVariants as faults
use Rattle.node_core.proofs.SpendLemmas.{lives-same, unsigned-untold}
use Rattle.node_core.proofs.CertificateLemmas.{for-tolerance}
use Rattle.node_core.proofs.starting.make_ready.Goals as goal

pub returns-clause-ready : goal.returns-clause-ready
returns-clause-ready g c =
    let k = c.requires.kit in
    let first = c.in_ok-first.ensures.signed in
    record {
      some = k.group.some;
      few = k.group.few;
      period = k.group.period;
      timeout = k.group.waits;
      membership_group = c.in-Ok.ensures.groups.membership;
      detector_group = c.in-Ok.ensures.groups.detector;
      signer_group = first.group ∙ c.requires.signer;
      joined = own-joined c.args.kit.group c.args.kit.me c.args.kit.authority c.args.signer (nonce c.args.kit.nonce_seed) (recs_of c.args.kit.certificates.items) c.in-Ok.parts c.in-Ok.ensures.opened k.certificates.apart k.certificates.among;
      allowed = good-allowed c.args.kit.group.t c.sign_first.new.signer.state.mask.0 first.good;
      notes = c.in-Ok.ensures.notes;
      newest_own = own-unnoted c.args.kit.group c.args.kit.me c.args.kit.authority c.args.signer (nonce c.args.kit.nonce_seed) (recs_of c.args.kit.certificates.items) c.in-Ok.parts c.in-Ok.ensures.opened k.certificates.apart;
      is_open = first.closed ∙ c.requires.open;
    }

pub returns-clause-begins : goal.returns-clause-begins
returns-clause-begins g c = λ s setting.
    let first = c.in_ok-first.ensures.signed in
    let since : c.state-since.result.epoch ≡ c.args.signer.state.epoch + 1 =
    ap (λ (k : Stored). k.epoch) c.state-since.ensures ∙ first-epoch c.args.signer c.sign_first.new.signer c.args.kit.group.t c.args.kit.me c.in_ok-first.first first in
    let r : Ready =
    record {
      group = c.args.kit.group;
      heal = c.args.kit.heal;
      me = c.args.kit.me;
      authority = c.args.kit.authority;
      signer = c.sign_first.new.signer;
      roll = c.in-Ok.parts.roll;
      detector = c.in-Ok.parts.detector;
      news = c.new.result;
      since = c.state-since.result.epoch;
      changes = c.in-Ok.parts.changes;
      found = c.in-Ok.parts.found;
      index = c.in_ok-first.first.index;
      note = c.in_ok-first.first.note;
      rec = c.in_ok-first.first.rec;
    } in
    may-begin s (nonce c.args.kit.nonce_seed) (recs_of c.args.kit.certificates.items) r c.in-Ok.parts c.args.signer c.in_ok-first.first setting c.in-Ok.ensures.opened first c.requires.signer refl refl
    c.new.ensures.items since refl refl refl

pub returns-in_default-clause-untold : goal.returns-in_default-clause-untold
returns-in_default-clause-untold g c = unsigned-untold faults.OutOfMemory c.args.signer c.args.signer _ _ (lives-same c.args.signer c.args.signer _ refl)

pub open_parts-requires-clause-certificates : goal.open_parts-requires-clause-certificates
open_parts-requires-clause-certificates g c =
    let kit = c.requires.kit in for-tolerance c.args.kit.group (keys.Lms c.args.kit.authority) c.args.kit.certificates.items kit.checked kit.certificates.apart

pub returns-clause-own : goal.returns-clause-own
returns-clause-own g c = first-own c.args.signer c.sign_first.new.signer c.args.kit.group.t c.args.kit.me c.in_ok-first.first c.in_ok-first.ensures.signed
