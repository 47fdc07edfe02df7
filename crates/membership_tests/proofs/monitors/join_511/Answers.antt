use Rattle.std.proofs.Common.{◌≡◌, ℕ, ◌+◌, Bool, true, false, cond, eqb, List, [], ◌∷◌, length, refl, ap, ◌∙◌, arith}
use Rattle.std.specs.Prelude.{nat_le}
use Rattle.std.proofs.lemmas.Bool.{ne_eqb, or_from, or_parts}
use Rattle.ff_ids.specs.Views.{Member}
use Rattle.monitor_rule.specs.Joined.{Joined, is_joined, with_member}
use Rattle.monitor_rule.proofs.SlotLemmas.{length-with_member}
use Rattle.membership_tests.proofs.monitors.join_511.Goals as goal

absent_either : (b : Bool) (x y : Member) (ms ns : List Member) (m : ℕ) → eqb x.number m ≡ false → eqb y.number m ≡ false → is_joined ms m ≡ false → is_joined ns m ≡ false → is_joined (cond b (x ∷ y ∷ ms) (y ∷ ns)) m ≡ false
absent_either true x y ms ns m own first rest more = or_from (eqb x.number m) (is_joined (y ∷ ms) m) own (or_from (eqb y.number m) (is_joined ms m) first rest)
absent_either false x y ms ns m own first rest more = or_from (eqb y.number m) (is_joined ns m) first more

absent_still : (x : Member) (ms : List Member) (m : ℕ) → eqb x.number m ≡ false → is_joined ms m ≡ false → is_joined (with_member x ms) m ≡ false
absent_still x [] m own h = or_from (eqb x.number m) false own refl
absent_still x (y ∷ ms) m own h =
    let parts = or_parts (eqb y.number m) (is_joined ms m) h in
    absent_either (nat_le x.number y.number) x y ms (with_member x ms) m own parts.0 parts.1 (absent_still x ms m own parts.1)

pub loop-number-preserved : goal.loop-number-preserved
loop-number-preserved c =
    let x : Member = record { number = c.new.result; places = c.number_places.result } in
    let before = c.loop-number.rings.members in
    let after : c.join.new.self.members ≡ with_member x before = ap (λ (j : Joined). j.members) c.join.ensures in
    let number : x.number ≡ c.loop-number.number = c.new.ensures in
    record {
      rings = ap (λ (j : Joined). j.rings) c.join.ensures ∙ c.loop-number.invariant.rings;
      many = ap length after ∙ length-with_member x before ∙ ap (λ n. n + 1) c.loop-number.invariant.many;
      absent = λ m from. ap (λ ms. is_joined ms m) after ∙ absent_still x before m (ne_eqb x.number m (λ e. absurd (omega arith))) (c.loop-number.invariant.absent m (omega arith));
    }
