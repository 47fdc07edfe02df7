-- What is answered to a question.
use Rattle.std.specs.Prelude.{ℕ, List, [], ◌∷◌, ◌++◌, Result, Ok, Err, codes}
use Rattle.lms_tree.specs.declared.kind.SigFault.{SigFault}
use Rattle.lms_tree.specs.declared.kind.SigFault.TheVariants as part_faults
use Rattle.hss.specs.declared.verifying.HssFault.{HssFault}
use Rattle.hss.specs.declared.verifying.HssFault.TheVariants as two_level_faults
use Rattle.records.specs.declared.keys.RecordFault.{RecordFault}
use Rattle.records.specs.declared.keys.RecordFault.TheVariants as faults
use Rattle.records.specs.Keys.{verdict_of}
pub use Rattle.verify_text.specs.declared.question.Question.{Question}

-- a fault of a signature of one level, and of either part of one of two
abbrev pub part_text : SigFault → List ℕ
part_text (part_faults.Length found) = codes "length"
part_text (part_faults.TreeType found) = codes "tree-type"
part_text (part_faults.OtsType found) = codes "ots-type"
part_text (part_faults.Index q) = codes "index"
part_text part_faults.Root = codes "root"

-- that of the top key's signature of the bottom key
abbrev pub top_text : SigFault → List ℕ
top_text fault = codes "top " ++ part_text fault

-- that of the bottom key's signature of the message
abbrev pub bottom_text : SigFault → List ℕ
bottom_text fault = codes "bottom " ++ part_text fault

abbrev pub two_level_text : HssFault → List ℕ
two_level_text (two_level_faults.Length found) = codes "length"
two_level_text (two_level_faults.Levels found) = codes "levels"
two_level_text two_level_faults.KeyType = codes "key-type"
two_level_text (two_level_faults.Top fault) = top_text fault
two_level_text (two_level_faults.Bottom fault) = bottom_text fault

abbrev pub fault_text : RecordFault → List ℕ
fault_text (faults.Lms fault) = part_text fault
fault_text (faults.Hss fault) = two_level_text fault

-- the line for a fault of this text
abbrev pub refused_line : List ℕ → List ℕ
refused_line text = codes "signature refused " ++ text ++ 10 ∷ []

abbrev pub verdict_line : Result (Unit {0}) RecordFault → List ℕ
verdict_line (Ok _) = codes "signature good" ++ 10 ∷ []
verdict_line (Err fault) = refused_line (fault_text fault)

-- The line that answers a question: whether the signature is good, or the first reason why it is not.
unfoldable pub answer_line : Question → List ℕ
answer_line q = verdict_line (verdict_of q.key q.message q.signature)
