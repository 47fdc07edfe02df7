-- The line that is named as forged is the one behind those that were taken.
use Rattle.std.proofs.Common.{◌≡◌, ℕ, ◌+◌, ◌<◌, ◌≤◌, zero, suc, Bool, true, List, [], ◌∷◌, ◌++◌, length, Option, Some, Ok, Err, refl, sym, subst, ◌∙◌, ap, arith, inl, inr}
use Rattle.std.specs.List.{slice_get}
use Rattle.play.specs.declared.stop.Stop.TheVariants as stop
use Rattle.text_trace.specs.Lines.{seen}
use Rattle.text_trace.specs.Trace.{Trace, Writes}
use Rattle.schedule_world.specs.Grammar.{opening}
use Rattle.world_rules.specs.Forgeries.{Forgery}
use Rattle.world_rules.specs.Walk.{Lists, no_roster}
use Rattle.world_laws.specs.Texts.{IsForgedAt}
use Rattle.world_laws.proofs.ForgedLines.{taken-past, texts-hand-over}
use Rattle.world_text.specs.Lines.{line_text}
use Rattle.world_rules.specs.declared.cause.Cause.{Cause}
use Rattle.world_rules.specs.declared.cause.Cause.TheVariants as causes
use Rattle.world_replay.specs.Causes as world
use Rattle.world_replay.specs.Causes.{IsJudged}
use Rattle.command_line.specs.Causes.{RunEnd}
use Rattle.command_line.specs.Ends.{Is}
use Rattle.command_line.specs.Headline.{OnForged}
use Rattle.command_line.specs.Replayed.{is_world, replayed, replayed_as}
use Rattle.command_line.specs.Traced.{IsCause, IsFirst, IsNumber, IsRefusedAt}
use Rattle.command_line.specs.WorldWritten.{world_walk}

below_length : {X : Type 0} (xs : List X) (place : ℕ) (x : X) → slice_get xs place ≡ Some x → place < length xs
below_length [] place x e = cc
below_length (y ∷ xs) zero x e = omega arith
below_length (y ∷ xs) (suc place) x e = let few = below_length xs place x e in omega (arith, few)

-- the lines before the one that is refused are taken
taken-before : (front rest : List (List ℕ)) (text : List ℕ) → is_world (front ++ rest) ≡ true → Writes Cause (Is replayed) front text → length front ≤ length (world_walk (front ++ rest)).taken
taken-before [] rest text head writes = omega arith
taken-before (line ∷ front) rest text head writes =
    let goes = writes replayed refl in
    taken-past world.grammar (line ∷ front) rest opening (Lists no_roster)
    (λ c all. goes.owes.unrefused c tt (λ more.
    let same : replayed ((line ∷ front) ++ more) ≡ world.replayed ((line ∷ front) ++ more) = ap (λ (b : Bool). replayed_as b ((line ∷ front) ++ more)) head in
    sym (ap (λ (t : Trace Cause). t.cause) (goes.same more)) ∙ ap (λ (t : Trace Cause). t.cause) same ∙ all more))

number-is : (bytes text : List ℕ) (left : Option (List ℕ)) (number : ℕ) (c : Cause) → is_world (seen bytes) ≡ true → IsRefusedAt replayed bytes text number → IsNumber bytes left (Err (stop.Refused number c)) → length (world_walk (seen bytes)).taken < length (seen bytes) → number ≡ length (world_walk (seen bytes)).taken + 1
number-is bytes text left number c head at counted below =
    let same : seen bytes ≡ seen at.front ++ seen at.part = ap seen at.parts ∙ at.whole.first at.part in
    let past : length (seen at.front) ≤ length (world_walk (seen bytes)).taken =
    subst (λ ls. length (seen at.front) ≤ length (world_walk ls).taken) (sym same) (taken-before (seen at.front) (seen at.part) text (sym (ap is_world same) ∙ head) at.writes) in
    elim counted [
      | inl is ↦ omega (arith, past, below, at.counted, is)
      | inr end ↦ omega (arith, past, below, at.counted, end.0)
    ]

pub forged-at : (bytes text : List ℕ) (left : Option (List ℕ)) (r : RunEnd Cause) → is_world (seen bytes) ≡ true → IsCause (replayed (seen bytes)).cause r → IsNumber bytes left r → IsFirst IsJudged replayed bytes text left r → OnForged r (IsForgedAt world.grammar (seen bytes) (world_walk (seen bytes)))
forged-at bytes text left (Ok _) head is number first = tt
forged-at bytes text left (Err (stop.Refused line (causes.Bad w))) head is number first = tt
forged-at bytes text left (Err (stop.Refused line (causes.Forged who body))) head is number first =
    let f : Forgery = record { who = who; body = body } in
    let same : replayed (seen bytes) ≡ world.replayed (seen bytes) = ap (λ (b : Bool). replayed_as b (seen bytes)) head in
    let so : (world.replayed (seen bytes)).cause ≡ Some (causes.Forged who body) = sym (ap (λ (t : Trace Cause). t.cause) same) ∙ is in
    let x = texts-hand-over line_text (seen bytes) f so in
    let below = below_length (seen bytes) (length (world_walk (seen bytes)).taken) x.stops.bytes x.stops.there in
    subst (λ n. IsForgedAt world.grammar (seen bytes) (world_walk (seen bytes)) n f) (sym (number-is bytes text left line (causes.Forged who body) head first number below)) x
forged-at bytes text left (Err stop.ReadFault) head is number first = tt
forged-at bytes text left (Err stop.WriteFault) head is number first = tt
forged-at bytes text left (Err stop.OutOfMemory) head is number first = tt
