use Rattle.std.proofs.Common.{rules, ◌≡◌, ◌<◌, ◌+◌, ◌*◌, ◌++◌, ◌∷◌, [], ◌/◌, ◌%◌, length, take, get_or, ℕ, List, ap, ◌∙◌, append_assoc, arith, length-append}
use Rattle.std.specs.Prelude.{slice_index}
use Rattle.hex.specs.Hex.{encode_lower, encode_with, lower_digits}
use Rattle.ff_ids.proofs.HexLemmas.{encode_lower-more}
use Rattle.command_line.proofs.forged.add_digits.Goals as goal

pub loop-byte-init : goal.loop-byte-init
unfolding encode_with
loop-byte-init c = search rules

two_more : (old out one new before after a b : List ℕ) → out ≡ old ++ before → one ≡ out ++ a → new ≡ one ++ b → before ++ (a ++ b) ≡ after → new ≡ old ++ after
two_more old out one new before after a b so_far is_one is_new grown =
    is_new ∙ ap (λ (x : List ℕ). x ++ b) is_one ∙ ap (λ (x : List ℕ). (x ++ a) ++ b) so_far ∙ append_assoc (old ++ before) a b ∙ append_assoc old before (a ++ b)
    ∙ ap (λ (x : List ℕ). old ++ x) grown

two_longer : (out one new : List ℕ) (x y old i : ℕ) → length out ≡ old + 2 * i → one ≡ out ++ x ∷ [] → new ≡ one ++ y ∷ [] → length new ≡ old + 2 * (i + 1)
two_longer out one new x y old i so_far is_one is_new =
    omega (arith, so_far, ap length is_one ∙ length-append out (x ∷ []), ap length is_new ∙ length-append one (y ∷ []))

pub loop-byte-preserved : goal.loop-byte-preserved
loop-byte-preserved c =
    let i = c.loop-byte.byte-index in
    let bytes = c.args.bytes.now in
    let within : i < length bytes = search rules in
    let one : c.push.new.self.bytes ≡ c.loop-byte.text.bytes ++ slice_index lower_digits (get_or bytes i 0 / 16) ∷ [] = c.push.ensures.bytes ∙ ap (λ (x : List ℕ). c.loop-byte.text.bytes ++ x) c.digit.ensures in
    let two : c.push-in-loop-byte.new.self.bytes ≡ c.push.new.self.bytes ++ slice_index lower_digits (get_or bytes i 0 % 16) ∷ [] = c.push-in-loop-byte.ensures.bytes ∙ ap (λ (x : List ℕ). c.push.new.self.bytes ++ x) c.digit-in-loop-byte.ensures in
    record {
      written = two_more c.args.text.now.bytes c.loop-byte.text.bytes c.push.new.self.bytes c.push-in-loop-byte.new.self.bytes (encode_lower (take i bytes)) (encode_lower (take (i + 1) bytes)) _ _ c.loop-byte.invariant.written one two (encode_lower-more bytes i within);
      short = two_longer c.loop-byte.text.bytes c.push.new.self.bytes c.push-in-loop-byte.new.self.bytes _ _ (length c.args.text.now.bytes) i c.loop-byte.invariant.short one two;
    }
