use Rattle.std.proofs.Common.{IsSome, ap, sym, subst}
use Rattle.ff_ids.specs.declared.summary.RecordKey.{RecordKey}
use Rattle.record_set.specs.Held.{Held, held_under, key_of}
use Rattle.record_set.proofs.KeyLemmas.{held-here, held-kept}
use Rattle.membership_tests.proofs.held_records.put.Goals as goal

pub returns-clause-held : goal.returns-clause-held
returns-clause-held g c =
    let rec = c.in_ok-rec.rec in
    let P : Held → Type 0 = λ h. IsSome (held_under h (key_of rec.rec.body)) in
    let Q : RecordKey → Type 0 = λ k. IsSome (held_under c.put.new.self k) in
    subst Q (ap key_of c.in_ok-rec.ensures.body) (subst P (sym c.put.ensures.held) (held-here c.args.set.now (key_of rec.rec.body) rec))

pub returns-clause-kept : goal.returns-clause-kept
returns-clause-kept g c k some =
    let rec = c.in_ok-rec.rec in
    let P : Held → Type 0 = λ h. IsSome (held_under h k) in
    subst P (sym c.put.ensures.held) (held-kept c.args.set.now (key_of rec.rec.body) k rec some)
