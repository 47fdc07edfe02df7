use Rattle.std.proofs.Common.{ℕ, ◌≤◌, ◌++◌, List, All, ap, sym, subst, ◌∙◌}
use Rattle.records.specs.Signing.{CheckedRecord, IsChecked}
use Rattle.record_slots.proofs.PickLemmas.{first_held}
use Rattle.record_set.specs.Held.{Held}
use Rattle.record_set.specs.Picks.{held_all, spelled, IsLongestFit, IsFront}
use Rattle.record_set.proofs.PickLemmas.{longest_is, fitting-few, front_of_first, anyway}
use Rattle.record_set.proofs.RecordSet.pick.Goals as goal

pub returns-in_err-write_all-clause-front : goal.returns-in_err-write_all-clause-front
returns-in_err-write_all-clause-front c =
    let n = c.fitting-count.result in
    let set = c.args.self.now in
    let ks = c.args.keys.now in
    let P : List CheckedRecord → Type 0 = λ rs. IsFront c.args.out.now.items c.write_all.new.out.items rs in
    anyway c.from_residual.result (front_of_first c.args.out.now.items c.write_all.new.out.items (held_all set ks) n (subst P (sym (first_held set ks n c.requires)) c.in_err-write_all.ensures.front))

pub returns-clause-bytes : goal.returns-clause-bytes
returns-clause-bytes c =
    c.in_ok-write_all.ensures.bytes ∙ ap (λ (rs : List CheckedRecord). c.args.out.now.items ++ spelled rs) (sym (first_held c.args.self.now c.args.keys.now c.fitting-count.result c.requires))

pub returns-clause-few : goal.returns-clause-few
returns-clause-few c =
    let P : ℕ → Type 0 = λ n. n ≤ c.args.room in
    subst P (sym c.fitting-count.ensures.count) (fitting-few c.args.room (held_all c.self.inside.slots c.args.keys.now))

pub returns-clause-longest : goal.returns-clause-longest
returns-clause-longest c =
    let P : Held → Type 0 = λ h. IsLongestFit c.args.room (held_all h c.args.keys.now) c.fitting-count.result in
    subst P c.self.view_is (longest_is c.args.room (held_all c.self.inside.slots c.args.keys.now) c.fitting-count.result c.fitting-count.ensures.longest)

pub returns-clause-checked : goal.returns-clause-checked
returns-clause-checked c =
    let P : List CheckedRecord → Type 0 = λ rs. All IsChecked rs in
    subst P (sym (first_held c.args.self.now c.args.keys.now c.fitting-count.result c.requires)) c.in_ok-write_all.ensures.checked
