use Rattle.std.proofs.Common.{◌≡◌, ◌<◌, ℕ, length, drop, nat_eq, get_or, arith, false, [], List, sym}
use Rattle.std.specs.List.{common_prefix_len}
use Rattle.std.proofs.lemmas.List.{drop_all}
use Rattle.std.proofs.lemmas.List.Sums.{common_prefix_len-drop_no, common_prefix_len-le}
use Rattle.std.proofs.lemmas.Bool.{ne_eqb}
use Rattle.epoch_store.proofs.entry.common_prefix.Goals as goal
use Rattle.epoch_store.proofs.entry.common_prefix.Goals.{then-place-b-via-then-place-b, then-place-b-via-else-place-b+then-b-place}

-- behind the end of the one nothing is the same
none_past : (a b : List ℕ) (place : ℕ) → length b ≡ place → common_prefix_len nat_eq (drop place a) (drop place b) ≡ 0
none_past a b place at =
    let bound = common_prefix_len-le nat_eq (drop place a) (drop place b) in
    let none : drop place b ≡ [] = drop_all place b (omega (arith, at)) in
    let size : length (drop place b) ≡ 0 = rw none (omega arith) in
    omega (arith, bound.1, size)

pub returns-then-place-b : goal.returns-then-place-b
returns-then-place-b c =
    elim c.then-place-b.branch [
      | then-place-b-via-then-place-b w ↦
          let none = none_past c.args.a.now c.args.b.now c.loop-place.place (omega arith) in
          omega (arith, c.loop-place.invariant.so_far, none)
      | then-place-b-via-else-place-b+then-b-place w ↦
          let in_a : c.loop-place.place < length c.args.a.now = omega arith in
          let in_b : c.loop-place.place < length c.args.b.now = omega arith in
          let other : nat_eq (get_or c.args.a.now c.loop-place.place 0) (get_or c.args.b.now c.loop-place.place 0) ≡ false =
          ne_eqb _ _ (λ same. w.if-b-place.true (sym same)) in
          let none = common_prefix_len-drop_no nat_eq c.args.a.now c.args.b.now c.loop-place.place 0 0 in_a in_b other in
          omega (arith, c.loop-place.invariant.so_far, none)
    ]
