use Rattle.std.proofs.Common.{sym}
use Rattle.line_text.proofs.HexWords.{other-many}
use Rattle.line_text.proofs.digits.exact_bytes.Goals as goal

pub returns-in-Err-clause-refused : goal.returns-in-Err-clause-refused
returns-in-Err-clause-refused g c =
    other-many c.args.word.now g.row.N c.in-Err.field-0 c.if-not-is_hex.ensures (sym c.in-Err.ensures)
