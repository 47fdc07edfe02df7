-- What a line brings to what is kept.
use Rattle.std.proofs.Common.{◌≡◌, ℕ, List, [], ◌∷◌, ◌++◌, Option, Some, None, Result, Ok, Err, refl, ap, sym, ◌∙◌, subst, append-nil}
use Rattle.schedule_world.specs.declared.line.WorldLine.{WorldLine}
use Rattle.world_rules.specs.Settings.{Setting}
use Rattle.world_rules.specs.Worlds.{World as ModelWorld}
use Rattle.world_rules.specs.Steps.{Answer, NodeEvent}
use Rattle.world_rules.specs.Walk as walk
use Rattle.world_rules.specs.Walk.{Brought, Lists, Plays, just, listed, setting_in, stepped}
use Rattle.world_text.specs.Lines.{line_text}
use Rattle.world.specs.Answers.{Steps}
use Rattle.world.specs.Holding.{Kept}
use Rattle.world.specs.declared.fault.WorldFault.{WorldFault}
use Rattle.world.specs.declared.fault.WorldFault.TheVariants as faults
use Rattle.world_replay.specs.declared.stage.Stage.{Stage}
use Rattle.world_replay.specs.declared.stage.Stage.TheVariants as stages
use Rattle.world_replay.specs.Stages.{HoldsStage, IsBehind, Takes, brought_text}

-- a line that a world plays
played : (s : Setting) (w : ModelWorld) (told : List NodeEvent) (line : WorldLine) (later : Kept) (old new : List ℕ) (r : Result (Unit {0}) WorldFault) → Steps s w told line later old new r → Takes (Plays s w) told line (stages.Plays later) old new r
played s w told line later old new (Ok done) h =
    let a : Answer = h.0 in
    let b : Brought = record { stage = Plays s a.world; verdict = a.verdict; told = a.told } in
    (b, ap (stepped s) h.1.0, record { holds = h.1.1.holds; written = h.1.1.written })
played s w told line later old new (Err (faults.Forged who body)) h = (ap (stepped s) h.0, h.1)
played s w told line later old new (Err faults.OutOfMemory) h = h

pub takes-played : (stage : walk.Stage) (told : List NodeEvent) (line : WorldLine) (kept later : Kept) (old new : List ℕ) (r : Result (Unit {0}) WorldFault)
    → ((s : Setting) (w : ModelWorld) → HoldsStage (Plays s w) told (stages.Plays kept) → Steps s w told line later old new r) → HoldsStage stage told (stages.Plays kept) → Takes stage told line (stages.Plays later) old new r
takes-played (Lists r) told line kept later old new result steps h = absurd h
takes-played (Plays s w) told line kept later old new result steps h = played s w told line later old new result (steps s w h)

-- what is kept behind a line of a roster
abbrev pub kept_behind : walk.Roster → Option Kept → Stage
kept_behind roster None = stages.Lists roster
kept_behind roster (Some world) = stages.Plays world

holds-behind : (stage : walk.Stage) (told : List NodeEvent) (later : walk.Roster) (begun : Option Kept) → told ≡ [] → IsBehind stage later begun → HoldsStage stage told (kept_behind later begun)
holds-behind (Lists r) told later None none h = (h, none)
holds-behind (Lists r) told later (Some world) none h = absurd h
holds-behind (Plays s w) told later None none h = absurd h
holds-behind (Plays s w) told later (Some world) none h = rw none h

alone-is : (line : WorldLine) (stage : walk.Stage) → line_text line ++ 10 ∷ [] ≡ brought_text line (just stage)
alone-is line stage = sym (append-nil ((line_text line ++ []) ++ 10 ∷ []) ∙ ap (λ (xs : List ℕ). xs ++ 10 ∷ []) (append-nil (line_text line)))

pub takes-listed : (stage : walk.Stage) (told : List NodeEvent) (line : WorldLine) (kept later : walk.Roster) (begun : Option Kept) (old new : List ℕ)
    → IsBehind (listed setting_in kept line) later begun → new ≡ old ++ (line_text line ++ 10 ∷ []) → HoldsStage stage told (stages.Lists kept) → Takes stage told line (kept_behind later begun) old new (Ok tt)
takes-listed (Lists r) told line kept later begun old new behind written h =
    let none : told ++ [] ≡ [] = ap (λ (t : List NodeEvent). t ++ []) h.1 in
    let holds = holds-behind (listed setting_in r line) (told ++ []) later begun none (subst (λ (x : walk.Roster). IsBehind (listed setting_in x line) later begun) h.0 behind) in
    (just (listed setting_in r line), refl, record { holds = holds; written = written ∙ ap (λ (xs : List ℕ). old ++ xs) (alone-is line (listed setting_in r line)) })
takes-listed (Plays s w) told line kept later begun old new behind written h = absurd h
