-- What the forged record in a datagram is: the first one that is forged, for the first of those whose keys are kept.
use Rattle.std.specs.Prelude.{◌≡◌, ℕ, ◌<◌, ◌≤◌, true, false, List, ◌∷◌, ◌++◌, Some, None, Ok, Err}
use Rattle.std.specs.List.{AllByRecursion, slice_get}
use Rattle.records.specs.declared.Record.{Record}
use Rattle.datagram.specs.declared.Datagram.TheVariants as kinds
use Rattle.datagram.specs.Grammar.{read_of}
use Rattle.schedule_world.specs.declared.line.WorldLine.{WorldLine}
use Rattle.schedule_world.specs.declared.line.WorldLine.TheVariants as lines
use Rattle.world_rules.specs.Settings.{Owner, Setting, Signed, is_node, same_body}
use Rattle.world_rules.specs.Worlds.{Named, World, is_running, named_so, spent_of}
use Rattle.world_rules.specs.Forgeries.{Forgery, forgery}
use Rattle.world_rules.specs.Steps.{Answer, given_bytes, step}
use Rattle.world_rules.specs.Laws.{IsSetting}

-- For the authority nobody else may sign, nor for a node.
abbrev pub IsProtected : Setting → Owner → Type 0
IsProtected s None = Unit {0}
IsProtected s (Some m) = is_node s m ≡ true

-- The authority comes before all nodes, and a node before those of higher numbers.
abbrev pub ComesBefore : Owner → Owner → Type 0
ComesBefore None (Some m) = Unit {0}
ComesBefore (Some k) (Some m) = k < m
ComesBefore other None = ⊥

-- The record verifies under the owner's key, whose owner has spent no index on its body.
pub record IsForgedFor (s : Setting) (w : World) (r : Record) (who : Owner) : Type 0 where
  pub protected : IsProtected s who
  pub verifies : s.verifies (s.key who) r ≡ true
  pub unsigned : AllByRecursion (λ x. same_body x.body r.body ≡ false) (spent_of w who)

-- It is so for nobody.
abbrev pub IsUnforged : Setting → World → Record → Type 0
IsUnforged s w r = (who : Owner) → ¬ (IsForgedFor s w r who)

-- Among the records of the datagram this one is forged, and none before it; and of those for whom it is, this is the
-- first.
pub record IsFirstForged (s : Setting) (w : World) (bytes : List ℕ) (f : Forgery) : Type 0 where
  pub from : ℕ
  pub before : List Record
  pub forged : Record
  pub behind : List Record
  pub read : read_of bytes ≡ Ok (kinds.Records from (before ++ forged ∷ behind))
  pub none_before : AllByRecursion (IsUnforged s w) before
  pub is_forged : IsForgedFor s w forged f.who
  pub first : (other : Owner) → ComesBefore other f.who → ¬ (IsForgedFor s w forged other)
  pub says : f.body ≡ forged.body

-- That is what is found to be forged in the bytes of a datagram, and nothing else is.
abbrev pub ForgeriesAreFirst : Type 0
ForgeriesAreFirst = (s : Setting) (w : World) (bytes : List ℕ) (f : Forgery) → IsSetting s → (forgery s w bytes ≡ Some f → IsFirstForged s w bytes f) × (IsFirstForged s w bytes f → forgery s w bytes ≡ Some f)

-- ---- lines that end so

-- The bytes are those of the datagram that comes next behind a shorter flow, in which nothing is forged; no flow had taken
-- it, and its addressee runs there.
pub record FlowsNext (s : Setting) (w v : World) (most : ℕ) (bytes : List ℕ) : Type 0 where
  pub before : ℕ
  pub fewer : before < most
  pub flown : Answer
  pub flows : step s w (lines.Flow before) ≡ Ok flown
  pub there : v ≡ flown.world
  pub untaken : w.flowed ≤ v.flowed
  pub to : ℕ
  pub next : slice_get v.sent v.flowed ≡ Some (to, bytes)
  pub runs : is_running v to ≡ true

-- The line hands over the bytes while the world is v: those that it says; those of the datagram that was sent under its
-- number; those of a datagram that a flow takes; or those of what is kept under its name, where all nodes are given the same,
-- and nothing is forged in it for a later one if it isn't for the first. No other line hands over anything.
abbrev pub HandsOver : Setting → World → World → WorldLine → List ℕ → Type 0
HandsOver s w v (lines.Raw m said) bytes = (v ≡ w) × (bytes ≡ said)
HandsOver s w v (lines.Deliver number m) bytes = (v ≡ w) × (to : ℕ) × (slice_get w.sent number ≡ Some (to, bytes))
HandsOver s w v (lines.Flow most) bytes = FlowsNext s w v most bytes
HandsOver s w v (lines.Give name m) bytes = (v ≡ w) × (x : Named) × (named_so w name ≡ Some x) × (bytes ≡ given_bytes x)
HandsOver s w v (lines.GiveAll name) bytes = (v ≡ w) × (x : Named) × (named_so w name ≡ Some x) × (bytes ≡ given_bytes x)
HandsOver s w v line bytes = ⊥

-- This was found in bytes that the line hands over, by when these signatures more were made than in the world.
pub record IsForgedIn (s : Setting) (w : World) (line : WorldLine) (f : Forgery) : Type 0 where
  pub later : World
  pub more : List Signed
  pub signed : later.signed ≡ w.signed ++ more
  pub bytes : List ℕ
  pub handed : HandsOver s w later line bytes
  pub first : IsFirstForged s later bytes f

-- A line ends as forged only where it hands over such bytes.
abbrev pub ForgedLinesHandItOver : Type 0
ForgedLinesHandItOver = (s : Setting) (w : World) (line : WorldLine) (f : Forgery) → IsSetting s → step s w line ≡ Err f → IsForgedIn s w line f
