-- The text of a question, and what a run over one brings.
use Rattle.std.specs.Prelude.{◌≡◌, ◌↔◌, ℕ, ◌≤◌, ◌<◌, List, [], ◌∷◌, ◌++◌, length, take, Result, Ok, Err, codes}
use Rattle.std.specs.Io.KnownBytes.{Appends, Consumes}
use Rattle.std.specs.List.{join_with_byte}
use Rattle.line_text.specs.declared.bad_word.BadWord.{BadWord}
use Rattle.line_text.specs.Digits.{SpellsBytes}
use Rattle.line_text.specs.Spellings.{SpellsOrDash}
use Rattle.play.specs.Plays.{IoState}
use Rattle.play.specs.declared.stop.Stop.{Stop}
use Rattle.play.specs.declared.stop.Stop.TheVariants as stop
use Rattle.ports.specs.Contents.{IsUsedUp}
use Rattle.records.specs.Keys.{IsKey, Verifies, key_bytes}
use Rattle.verify_text.specs.declared.question.Question.{Question}
use Rattle.verify_text.specs.Rows.{message_bytes, signature_bytes}

-- a line of these words
abbrev pub line_of : List (List ℕ) → List ℕ
line_of words = join_with_byte 32 words ++ 10 ∷ []

-- The text is these five lines, whose words spell the question's bytes in digits of either case.
pub record IsText (text : List ℕ) (q : Question) : Type 0 where
  pub key_word : List ℕ
  pub message_word : List ℕ
  pub signature_word : List ℕ
  pub lines : text
      ≡ line_of (codes "fireflies" ∷ codes "1" ∷ codes "verify" ∷ [])
      ++ (line_of (codes "key" ∷ key_word ∷ [])
      ++ (line_of (codes "message" ∷ message_word ∷ [])
      ++ (line_of (codes "signature" ∷ signature_word ∷ [])
      ++ line_of (codes "end" ∷ []))))
  pub key : SpellsBytes key_word (key_bytes q.key)
  pub is_key : IsKey q.key
  pub message : SpellsOrDash message_word q.message
  pub message_few : length q.message ≤ message_bytes
  pub signature : SpellsOrDash signature_word q.signature
  pub signature_few : length q.signature ≤ signature_bytes

-- The text asks a question, and this is its answer: that the signature is good exactly where it verifies.
pub record IsAnswer (text answer : List ℕ) : Type 0 where
  pub question : Question
  pub asks : IsText text question
  pub good : (answer ≡ codes "signature good" ++ 10 ∷ []) ↔ Verifies question.key question.message question.signature

-- The whole text was taken, and its answer was written.
pub record IsAnswered (was now : IoState) : Type 0 where
  pub text : List ℕ
  pub answer : List ℕ
  pub read : Consumes was.left now.left text
  pub used_up : IsUsedUp now.left
  pub answers : IsAnswer text answer
  pub wrote : Appends was.taken now.taken answer

-- The whole text was taken, and of its answer a front was written, and not all.
pub record IsCutShort (was now : IoState) : Type 0 where
  pub text : List ℕ
  pub answer : List ℕ
  pub count : ℕ
  pub read : Consumes was.left now.left text
  pub used_up : IsUsedUp now.left
  pub answers : IsAnswer text answer
  pub short : count < length answer
  pub wrote : Appends was.taken now.taken (take count answer)

-- What a run brings: the answer; a front of it, where a write failed; or nothing.
abbrev pub Brings : IoState → IoState → Result (Unit {0}) (Stop BadWord) → Type 0
Brings was now (Ok _) = IsAnswered was now
Brings was now (Err (stop.Refused line w)) = Appends was.taken now.taken []
Brings was now (Err stop.ReadFault) = Appends was.taken now.taken []
Brings was now (Err stop.WriteFault) = IsCutShort was now
Brings was now (Err stop.OutOfMemory) = Appends was.taken now.taken []
