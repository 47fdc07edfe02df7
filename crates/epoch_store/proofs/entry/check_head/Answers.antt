use Rattle.std.proofs.Common.{◌≡◌, ◌-◌, ℕ, List, Bool, true, false, cond, ap, sym, ◌∙◌, arith, drop, nat_le, nat_lt, length, length-drop, codes, nat_eq, Some, Ok, Err}
use Rattle.std.specs.List.{common_prefix_len, slice_get}
use Rattle.std.proofs.lemmas.Bool.{le-leb, le-ltb}
use Rattle.std.proofs.lemmas.List.{take_all}
use Rattle.epoch_store.specs.Seat.{first_seat}
use Rattle.epoch_store.specs.Reading.{head_by, width_of}
use Rattle.epoch_store.proofs.entry.check_head.Goals as goal

pub returns : goal.returns
returns c =
    let head = c.args.head.now in
    let good = common_prefix_len nat_eq (codes "FFSTORE") head in
    let wide = c.in-Some.wide in
    let letters : nat_le 7 good ≡ true = le-leb 7 good (omega (arith, c.common_prefix-good.ensures, c.if-good-lt7.false)) in
    let told : width_of (slice_get head 7) ≡ Some wide = ap width_of (sym c.byte_at.ensures) ∙ sym c.width_told.ensures ∙ c.in-Some.is in
    let long : nat_lt (length head) 40 ≡ false = le-ltb (length head) 40 (omega arith) in
    let tag : c.copy_from_slice.new.self ≡ drop 8 head = c.copy_from_slice.ensures.after ∙ take_all (length head - 8) (drop 8 head) (omega (arith, length-drop 8 head)) in
    (λ i. head_by (letters i) (told i) head good)
    ∙ ap (λ (short : Bool). cond short (Err (length head)) (Ok (first_seat wide (drop 8 head)))) long
    ∙ ap (λ (t : List ℕ). Ok (first_seat wide t)) (sym tag)
    ∙ ap Ok (sym c.first.ensures)
