-- The question that the lines of a text ask.
use Rattle.std.specs.Prelude.{ℕ, List}
use Rattle.verify_text.specs.declared.line.VerifyLine.{VerifyLine}
use Rattle.verify_text.specs.declared.line.VerifyLine.TheVariants as lines
use Rattle.verify_text.specs.declared.question.Asked.{Asked}
use Rattle.verify_text.specs.declared.question.Asked.TheVariants as asked

-- a message behind what was asked
abbrev pub with_message : List ℕ → Asked → Asked
with_message message (asked.Key key) = asked.Message key message
with_message message a = a

abbrev pub with_signature : List ℕ → Asked → Asked
with_signature signature (asked.Message key message) = asked.Question (record { key = key; message = message; signature = signature })
with_signature signature a = a

-- what the lines have asked with this line behind them
abbrev pub asked_after : Asked → VerifyLine → Asked
asked_after a (lines.Key key) = asked.Key key
asked_after a (lines.Message message) = with_message message a
asked_after a (lines.Signature signature) = with_signature signature a
asked_after a _ = a
