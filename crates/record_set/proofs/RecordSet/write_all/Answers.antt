use Rattle.std.proofs.Common.{◌≡◌, ◌++◌, List, Some, All, take, ap, sym, subst, ◌∙◌, arith}
use Rattle.std.specs.Option.{option_copied}
use Rattle.std.proofs.lemmas.List.Elements.{All-push}
use Rattle.records.specs.Spelling.{record_bytes}
use Rattle.records.specs.Signing.{CheckedRecord, IsChecked}
use Rattle.record_slots.proofs.PickLemmas.{one_more}
use Rattle.record_set.specs.Held.{held_under}
use Rattle.record_set.specs.Picks.{held_all}
use Rattle.record_set.proofs.PickLemmas.{written_more, front_so_far, anyway}
use Rattle.record_set.proofs.RecordSet.write_all.Goals as goal

pub loop-key-preserved : goal.loop-key-preserved
loop-key-preserved c =
    let set = c.args.self.now in
    let ks = c.args.keys.now in
    let i = c.loop-key.key-index in
    let k = c.key-item.result in
    let r : CheckedRecord = c.unwrap.result.now in
    let has : held_under set k ≡ Some r = ap (λ h. held_under h k) (sym c.self.view_is) ∙ sym c.get.ensures.value ∙ ap (λ o. option_copied o) c.unwrap.ensures in
    let grown = c.in_ok-write_record.ensures.ok ∙ ap (λ x. c.loop-key.out.items ++ record_bytes x) c.rec.ensures.value in
    let P : List CheckedRecord → Type 0 = λ rs. All IsChecked rs in
    record {
      grown = written_more set ks i k r c.args.out.now.items c.loop-key.out.items _ c.loop-key-test.true c.key-item.is has c.loop-key.invariant.grown grown;
      checked = subst P (sym (one_more set ks i k r c.loop-key-test.true c.key-item.is has)) (All-push IsChecked (held_all set (take i ks)) r c.loop-key.invariant.checked c.rec.ensures.checked);
    }

pub returns-in_err-write_record-clause-front : goal.returns-in_err-write_record-clause-front
returns-in_err-write_record-clause-front c =
    anyway c.from_residual.result (front_so_far c.args.self.now c.args.keys.now c.loop-key.key-index c.args.out.now.items c.write_record.new.out.items c.requires (omega (arith, c.loop-key-test.true)) (c.in_err-write_record.ensures.refused ∙ c.loop-key.invariant.grown))
