-- Signatures that are too short or too long.
use Rattle.std.proofs.Common.{◌≡◌, ℕ, ◌<◌, ◌/◌, ◌&&◌, Bool, true, false, cond, leb, List, length, Option, Some, None, refl, ◌∙◌, arith}
use Rattle.std.specs.Prelude.{is_ok}
use Rattle.std.proofs.lemmas.Bool.{lt-leb}
use Rattle.hex.specs.Hex.{decode_of}
use Rattle.line_text.specs.declared.bad_word.BadWord.{BadWord}
use Rattle.line_text.specs.declared.bad_word.BadWord.TheVariants as bad
use Rattle.line_text.proofs.HexWords.{spells}
use Rattle.schedule_texts.specs.KitRows.{signature}

pub too_short : (word : List ℕ) → true ≡ is_ok (decode_of word) → length word / 2 ≡ 0 → signature word ≡ Some bad.Limit
too_short word ok none =
    let s = spells word ok in
    let empty : length s.bytes ≡ 0 = s.half ∙ none in
    rw s.decoded (rw empty refl)

abbrev none_bad : Option BadWord
none_bad = None

neither : (b : Bool) → cond (b && false) none_bad (Some bad.Limit) ≡ Some bad.Limit
neither true = refl
neither false = refl

pub too_long : (word : List ℕ) → true ≡ is_ok (decode_of word) → 9004 < length word / 2 → signature word ≡ Some bad.Limit
too_long word ok many =
    let s = spells word ok in
    let above : 9004 < length s.bytes = omega (arith, s.half, many) in
    rw s.decoded (rw (lt-leb (length s.bytes) 9004 above) (neither (leb 1 (length s.bytes))))
