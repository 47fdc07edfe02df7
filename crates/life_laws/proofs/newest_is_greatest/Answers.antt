use Rattle.std.proofs.Common.{◌≡◌, ℕ, false, List, Option, Some, None, MatchOption}
use Rattle.std.specs.List.{All}
use Rattle.std.proofs.lemmas.List.Elements.{All-from_recursion}
use Rattle.std.specs.Prelude.{◌≢◌}
use Rattle.ff_ids.specs.declared.NoteBody.{NoteBody}
use Rattle.ff_ids.specs.Notes.{newest}
use Rattle.life_laws.specs.Newest.{IsGreatest}
use Rattle.life_laws.proofs.Lists.{All-from_In, Contains-from_In}
use Rattle.life_laws.proofs.NoteLemmas.{below, Greatest, Greatest-newest}
use Rattle.life_laws.proofs.newest_is_greatest.Goals as goal

by_index : (ns : List NoteBody) (m : ℕ) (o : Option NoteBody) → Greatest ns m o → MatchOption o (All (λ n. n.member ≢ m) ns) (IsGreatest ns m)
by_index ns m None h = All-from_recursion _ ns (All-from_In (λ x. x.member ≡ m → ⊥) ns (λ x i e. h x i e))
by_index ns m (Some n) h =
    record {
      listed = Contains-from_In ns n h.0;
      of_member = h.1;
      greatest = All-from_recursion _ ns (All-from_In (λ x. x.member ≡ m → below n x ≡ false) ns (λ x i e. h.2 x i e));
    }

pub returns : goal.returns
returns c = λ notes m. by_index notes m (newest notes m) (Greatest-newest notes m)
