use Rattle.std.proofs.Common.{sym}
use Rattle.journal.proofs.HexWords.{is_decoded}
use Rattle.journal.proofs.hex_word.key_of_length.Goals as goal

pub returns-in-Err : goal.returns-in-Err
returns-in-Err g c = is_decoded c.args.word.now g.row.N c.in-Err.field-0 c.requires.spelled c.requires.long (sym c.in-Err.ensures)
