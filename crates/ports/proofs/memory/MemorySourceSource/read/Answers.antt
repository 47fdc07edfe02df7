use Rattle.std.proofs.Common.{◌≡◌, ℕ, ◌≤◌, List, length, ◌+◌, ◌-◌, ◌++◌, take, drop, ap, sym, refl, ◌∙◌, arith, length-drop, length-take}
use Rattle.std.proofs.lemmas.List.{take_at, take-append-drop, drop-drop}
use Rattle.ports.specs.Memory.{SourceState}
use Rattle.ports.proofs.memory.MemorySourceSource.read.Goals as goal

-- the bytes left are those in front of the buffer, and then those from the new place on
moved : (bytes whole part rest : List ℕ) (place n : ℕ) → place + n ≤ length bytes → whole ≡ bytes → part ≡ take (place + n - place) (drop place whole) → drop place bytes ≡ take n (part ++ rest) ++ drop (place + n) bytes
moved bytes whole part rest place n fits same is =
    let count : place + n - place ≡ n = omega arith in
    let taken : part ≡ take n (drop place bytes) = rw (is, same, count) refl in
    let size : length part ≡ n = ap length taken ∙ simp (length-take, length-drop) (omega arith) in
    let front = take_at part rest n size in
    let behind = drop-drop n place bytes in
    rw (front, taken, ← behind) (sym (take-append-drop n (drop place bytes)))

pub returns-clause-reads : goal.returns-clause-reads
returns-clause-reads c =
    let left = ap (λ (source : SourceState). source.unread) c.self.view_is in
    let all = moved c.self.inside.bytes.items _ _ _ _ c.min-count.result (omega arith) c.deref.ensures.value c.copy_from_slice.ensures.after in
    sym left ∙ all
