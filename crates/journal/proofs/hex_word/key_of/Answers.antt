use Rattle.std.proofs.Common.{sym}
use Rattle.journal.proofs.HexWords.{no_key}
use Rattle.journal.proofs.hex_word.key_of.Goals as goal

pub returns : goal.returns
returns c = no_key c.args.word.now (sym c.if-not-is_spelled.ensures) c.if-word-eq112.false c.if-word-eq120.false
