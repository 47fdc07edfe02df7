-- The summary of a workload, line by line.
use Rattle.std.specs.Prelude.{ℕ, List, [], ◌∷◌, ◌++◌, codes, decimal}
use Rattle.world.specs.declared.counts.Counts.{Counts}

-- a word and a count
abbrev pub count_line : List ℕ → ℕ → List ℕ
count_line word count = word ++ codes " " ++ decimal count ++ 10 ∷ []

abbrev pub workload_line : ℕ → ℕ → ℕ → List ℕ
workload_line seed nodes rounds = codes "soak " ++ decimal seed ++ codes " " ++ decimal nodes ++ codes " " ++ decimal rounds ++ 10 ∷ []

abbrev pub removed_line : ℕ → ℕ → List ℕ
removed_line removed correct = codes "removed " ++ decimal removed ++ codes " correct " ++ decimal correct ++ 10 ∷ []

abbrev pub taken_text : Counts → List ℕ
taken_text c = count_line (codes "notes") c.notes ++ count_line (codes "accusations") c.accusations ++ count_line (codes "refused") c.refused

abbrev pub counts_text : Counts → List ℕ
counts_text c = count_line (codes "sent") c.sent ++ taken_text c ++ (removed_line c.removed c.removed_correct ++ count_line (codes "spent") c.spent)

-- The summary of a workload, line by line.
abbrev pub summary_text : ℕ → ℕ → ℕ → ℕ → Counts → List ℕ
summary_text seed nodes rounds lines c = (workload_line seed nodes rounds ++ count_line (codes "lines") lines) ++ counts_text c ++ (codes "end" ++ 10 ∷ [])
