use Rattle.std.proofs.Common.{◌≡◌, ℕ, List, [], length, ap, sym, ◌∙◌, arith, length-take, length-append, ◌++◌, append-nil, refl}
use Rattle.std.specs.Int.{w64, to_be_bytes}
use Rattle.std.proofs.lemmas.List.{nil_from_length}
use Rattle.epoch_store.proofs.entry.read_moved.Goals as goal

pub copy_from_slice-requires : goal.copy_from_slice-requires
copy_from_slice-requires c = grind (arith, ap length c.in_ok-bytes.ensures.value, length-take 32 c.args.bytes.now, c.in_ok-bytes.ensures.short)

pub returns-clause-spelled : goal.returns-clause-spelled
returns-clause-spelled c =
    let left : List ℕ = c.u64.new.self.left in
    let whole : c.args.bytes.now ≡ c.copy_from_slice.new.self ++ (to_be_bytes w64 c.in_ok-u64.field-0 ++ left) =
    sym (ap (λ r. r.left) c.new-reader.ensures) ∙ c.in_ok-bytes.ensures.spelled ∙ ap (λ (b : List ℕ). b ++ c.bytes.new.self.left) (sym c.copy_from_slice.ensures.after) ∙ ap (λ (b : List ℕ). c.copy_from_slice.new.self ++ b) c.in_ok-u64.ensures.spelled in
    let none : left ≡ [] = nil_from_length left (omega (arith, ap length whole, length-append c.copy_from_slice.new.self (to_be_bytes w64 c.in_ok-u64.field-0 ++ left), length-append (to_be_bytes w64 c.in_ok-u64.field-0) left)) in
    record {
      tag = c.copy_from_slice.new.self;
      is = refl;
      next = refl;
      epoch = refl;
      spell = whole ∙ ap (λ (b : List ℕ). c.copy_from_slice.new.self ++ (to_be_bytes w64 c.in_ok-u64.field-0 ++ b)) none ∙ ap (λ (b : List ℕ). c.copy_from_slice.new.self ++ b) (append-nil (to_be_bytes w64 c.in_ok-u64.field-0));
      tag_long = omega arith;
      mask_fits = omega arith;
    }
