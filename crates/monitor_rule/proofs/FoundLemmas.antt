-- A member that is at an index, with the place that is looked for.
use Rattle.std.proofs.Common.{◌≡◌, ℕ, ◌-◌, ◌^◌, ◌<◌, false, List, Option, [], length, get_or, inl, inr, sym, ap, ◌∙◌, subst, arith}
use Rattle.std.specs.Option.{unwrap_or}
use Rattle.std.proofs.lemmas.Bool.{cases_lt}
use Rattle.ff_ids.specs.Rings.{Key, is_below}
use Rattle.ff_ids.specs.Views.{key_at}
use Rattle.monitor_rule.specs.Sorted.{RingOrder, places_at, key_in, key_of_index, hint_on, IsRow, IsBetween}
use Rattle.monitor_rule.proofs.OrderLemmas.{is_below-itself, is_below-one_way, not_true}
use Rattle.monitor_rule.proofs.SlotsLemmas.{told_place}

-- where the key at an index is the one that is looked for, that index is its place
pub found-here : (slots : List (Option (List (List ℕ)))) (row : RingOrder) (q : Key) (index : ℕ) → IsRow slots row → index < length row.order → key_of_index slots row index ≡ q → IsBetween slots row q index index
found-here slots row q index h lt same =
    subst (λ (k : Key). IsBetween slots row k index index) same (record {
      ordered = omega arith;
      within = omega arith;
      below = λ i up. h.rising i index up lt;
      above = λ i from in'.
          elim (cases_lt index i) [
            | inl later ↦
                not_true (is_below (key_of_index slots row i) (key_of_index slots row index)) (λ g.
                is_below-one_way (key_of_index slots row index) (key_of_index slots row i) (h.rising index i later in') g)
            | inr earlier ↦
                let e : index ≡ i = omega arith in
                subst (λ (j : ℕ). is_below (key_of_index slots row j) (key_of_index slots row index) ≡ false) e (is_below-itself (key_of_index slots row index))
          ];
    })

-- a hint that tells is that of one place
pub same-key : (slots : List (Option (List (List ℕ)))) (row : RingOrder) (places : List (List ℕ)) (member other hint index : ℕ) → get_or row.order index 0 ≡ other → other ≡ member → hint ≡ hint_on row.ring (unwrap_or (places_at slots other) [])
    → hint < 2 ^ 32 - 1 → hint ≡ hint_on row.ring places → key_of_index slots row index ≡ key_at row.ring places member
same-key slots row places member other hint index here is own tells hinted =
    let place : get_or (unwrap_or (places_at slots other) []) row.ring [] ≡ get_or places row.ring [] =
    sym (told_place (get_or (unwrap_or (places_at slots other) []) row.ring []) hint own tells) ∙ told_place (get_or places row.ring []) hint hinted tells in
    ap (λ n. key_in slots row.ring n) here ∙ ap (λ (p : List ℕ). record { place = p; number = other }) place ∙ ap (λ n. record { place = get_or places row.ring []; number = n }) is
