use Rattle.std.proofs.Common.{◌≡◌, true, is_ok, rules}
use Rattle.hex.specs.Hex.{decode_of}
use Rattle.line_text.specs.Frame.{first_word}
use Rattle.schedule_texts.proofs.KitReadingLemmas.{too_long, too_short}
use Rattle.schedule_texts.proofs.kit_cert.take_signature.Goals as goal
use Rattle.schedule_texts.proofs.kit_cert.take_signature.Goals.{then-length-eq0-via-then-length-eq0, then-length-eq0-via-else-length-eq0+then-length-gt-LONGEST}

pub returns-then-length-eq0-clause-refused : goal.returns-then-length-eq0-clause-refused
returns-then-length-eq0-clause-refused c =
    let same : first_word c.args.words.now ≡ c.unwrap_or-word.result.now = search rules in
    let ok : true ≡ is_ok (decode_of (first_word c.args.words.now)) = search rules in
    let ok_word : true ≡ is_ok (decode_of c.unwrap_or-word.result.now) = rw same at ok in
    elim c.then-length-eq0.branch [
      | then-length-eq0-via-then-length-eq0 w ↦ rw same (too_short c.unwrap_or-word.result.now ok_word w.if-length-eq0.true)
      | then-length-eq0-via-else-length-eq0+then-length-gt-LONGEST w ↦ rw same (too_long c.unwrap_or-word.result.now ok_word w.if-length-gt-LONGEST.true)
    ]
