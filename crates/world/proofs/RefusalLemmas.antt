-- Which row of the table holds first.
use Rattle.std.proofs.Common.{◌≡◌, ℕ, Bool, true, false, not, eqb, cond, List, [], ◌∷◌, Option, Some, None, length, inl, inr, refl, ap, ◌∙◌}
use Rattle.std.specs.Prelude.{is_some, nat_lt}
use Rattle.std.specs.Option.{option_and_then, option_map_or}
use Rattle.std.proofs.lemmas.Bool.{cases_Bool}
use Rattle.schedule_world.specs.declared.line.WorldLine.TheVariants as lines
use Rattle.schedule_world.specs.declared.line.WorldLine.{WorldLine}
use Rattle.world_rules.specs.Settings.{Setting, is_liar, is_node}
use Rattle.world_rules.specs.Worlds.{World as ModelWorld, is_running, named_so, next_of_liar}
use Rattle.world_rules.specs.declared.verdict.RefusalReason.{RefusalReason}
use Rattle.world_rules.specs.declared.verdict.RefusalReason.TheVariants as whys
use Rattle.world_rules.specs.Refusals.{asks_for_unknown, datagram_named, first_row, has_left, holds_of, key_named, leaver_named, name_named, newest_signed, next_index, node_named, noted_named, runner_named, starter_named, why_not}
use Rattle.world.specs.Courses.{before_opening, key_used_up, last_rows}

-- ---- rows

abbrev no_node : Setting → WorldLine → Bool
no_node s line = holds_of (λ m. not (is_node s m)) (node_named line)

abbrev no_liar : Setting → WorldLine → Bool
no_liar s line = holds_of (λ key. not (is_liar s key)) (key_named line)

abbrev no_record : ModelWorld → WorldLine → Bool
no_record w line = holds_of (λ name. not (is_some (named_so w name))) (name_named line)

abbrev no_datagram : ModelWorld → WorldLine → Bool
no_datagram w line = holds_of (λ number. not (nat_lt number (length w.sent))) (datagram_named line)

abbrev starts_running : ModelWorld → WorldLine → Bool
starts_running w line = holds_of (is_running w) (starter_named line)

abbrev names_stopped : ModelWorld → WorldLine → Bool
names_stopped w line = holds_of (λ m. not (is_running w m)) (runner_named line)

abbrev names_left : Setting → ModelWorld → WorldLine → Bool
names_left s w line = holds_of (has_left s w) (leaver_named line)

-- ---- a row that is seen before a store is opened

pub before-node : (line : WorldLine) → before_opening line (Some whys.NotNode) ≡ Some whys.NotNode
before-node (lines.Start m) = refl
before-node line = refl

pub before-liar : (line : WorldLine) → before_opening line (Some whys.NotLiar) ≡ Some whys.NotLiar
before-liar (lines.Start m) = refl
before-liar line = refl

pub before-name : (line : WorldLine) → before_opening line (Some whys.NoName) ≡ Some whys.NoName
before-name (lines.Start m) = refl
before-name line = refl

pub before-datagram : (line : WorldLine) → before_opening line (Some whys.NoDatagram) ≡ Some whys.NoDatagram
before-datagram (lines.Start m) = refl
before-datagram line = refl

pub before-running : (line : WorldLine) → before_opening line (Some whys.Running) ≡ Some whys.Running
before-running (lines.Start m) = refl
before-running line = refl

pub before-stopped : (line : WorldLine) → before_opening line (Some whys.NotRunning) ≡ Some whys.NotRunning
before-stopped (lines.Start m) = refl
before-stopped line = refl

pub before-left : (line : WorldLine) → before_opening line (Some whys.Left) ≡ Some whys.Left
before-left (lines.Start m) = refl
before-left line = refl

-- ---- the first seven rows

pub first-node : (s : Setting) (w : ModelWorld) (line : WorldLine) → no_node s line ≡ true → before_opening line (why_not s w line) ≡ Some whys.NotNode
unfolding why_not
first-node s w line e = rw e (before-node line)

pub first-liar : (s : Setting) (w : ModelWorld) (line : WorldLine) → no_node s line ≡ false → no_liar s line ≡ true → before_opening line (why_not s w line) ≡ Some whys.NotLiar
unfolding why_not
first-liar s w line a e = rw (a, e) (before-liar line)

pub first-name : (s : Setting) (w : ModelWorld) (line : WorldLine) → no_node s line ≡ false → no_liar s line ≡ false → no_record w line ≡ true → before_opening line (why_not s w line) ≡ Some whys.NoName
unfolding why_not
first-name s w line a b e = rw (a, b, e) (before-name line)

pub first-datagram : (s : Setting) (w : ModelWorld) (line : WorldLine) → no_node s line ≡ false → no_liar s line ≡ false → no_record w line ≡ false → no_datagram w line ≡ true
    → before_opening line (why_not s w line) ≡ Some whys.NoDatagram
unfolding why_not
first-datagram s w line a b d e = rw (a, b, d, e) (before-datagram line)

pub first-running : (s : Setting) (w : ModelWorld) (line : WorldLine) → no_node s line ≡ false → no_liar s line ≡ false → no_record w line ≡ false → no_datagram w line ≡ false → starts_running w line ≡ true
    → before_opening line (why_not s w line) ≡ Some whys.Running
unfolding why_not
first-running s w line a b d f e = rw (a, b, d, f, e) (before-running line)

pub first-stopped : (s : Setting) (w : ModelWorld) (line : WorldLine) → no_node s line ≡ false → no_liar s line ≡ false → no_record w line ≡ false → no_datagram w line ≡ false → starts_running w line ≡ false → names_stopped w line ≡ true
    → before_opening line (why_not s w line) ≡ Some whys.NotRunning
unfolding why_not
first-stopped s w line a b d f g e = rw (a, b, d, f, g, e) (before-stopped line)

pub first-left : (s : Setting) (w : ModelWorld) (line : WorldLine) → no_node s line ≡ false → no_liar s line ≡ false → no_record w line ≡ false → no_datagram w line ≡ false → starts_running w line ≡ false → names_stopped w line ≡ false
    → names_left s w line ≡ true → before_opening line (why_not s w line) ≡ Some whys.Left
unfolding why_not
first-left s w line a b d f g h e = rw (a, b, d, f, g, h, e) (before-left line)

-- ---- the other rows

abbrev why_not_last : Setting → ModelWorld → WorldLine → Option RefusalReason
why_not_last s w line =
    first_row ((holds_of (λ m. not (is_some (newest_signed w m))) (noted_named line), whys.NoNote)
    ∷ (holds_of (λ first. eqb first s.indexes) (next_index w line), whys.UsedUp (option_map_or (λ first. first) (next_index w line) 0))
    ∷ (asks_for_unknown w line, whys.UnknownMember)
    ∷ [])

last-line : (s : Setting) (w : ModelWorld) (line : WorldLine) → before_opening line (why_not_last s w line) ≡ first_row (last_rows s w line)
last-line s w (lines.Start m) = by_test (eqb (w.hosts m).disk.state.next s.indexes) (w.hosts m).disk.state.next
  where
    by_test : (b : Bool) (first : ℕ) → before_opening (lines.Start m) (cond b (Some (whys.UsedUp first)) None) ≡ None
    by_test true first = refl
    by_test false first = refl
last-line s w line = refl

pub last-first : (s : Setting) (w : ModelWorld) (line : WorldLine) → no_node s line ≡ false → no_liar s line ≡ false → no_record w line ≡ false → no_datagram w line ≡ false → starts_running w line ≡ false → names_stopped w line ≡ false
    → names_left s w line ≡ false → before_opening line (why_not s w line) ≡ first_row (last_rows s w line)
unfolding why_not
last-first s w line a b d f g h i = rw (a, b, d, f, g, h, i) (last-line s w line)

-- ---- a liar's key that is used up

used-row : (o : Option ℕ) (used : ℕ → Bool) (next : ℕ → ℕ) (rows : List (Bool × RefusalReason)) → first_row ((holds_of used o, whys.UsedUp (option_map_or next o 0)) ∷ rows)
    ≡ option_map_or (λ (first : ℕ). Some (whys.UsedUp first)) (option_and_then (λ key. cond (used key) (Some (next key)) None) o) (first_row rows)
used-row None used next rows = refl
used-row (Some key) used next rows = elim (cases_Bool (used key)) [ inl holds ↦ rw holds refl | inr fails ↦ rw fails refl ]

pub last-note : (s : Setting) (w : ModelWorld) (line : WorldLine) → holds_of (λ m. not (is_some (newest_signed w m))) (noted_named line) ≡ true → first_row (last_rows s w line) ≡ Some whys.NoNote
last-note s w line e = rw e refl

pub last-used : (s : Setting) (w : ModelWorld) (line : WorldLine) (first : ℕ) → holds_of (λ m. not (is_some (newest_signed w m))) (noted_named line) ≡ false → option_and_then (key_used_up s w) (key_named line) ≡ Some first
    → first_row (last_rows s w line) ≡ Some (whys.UsedUp first)
last-used s w line first a e =
    rw a (used-row (key_named line) (λ key. eqb (next_of_liar w key) s.indexes) (next_of_liar w) ((asks_for_unknown w line, whys.UnknownMember) ∷ [])
    ∙ ap (λ (o : Option ℕ). option_map_or (λ (n : ℕ). Some (whys.UsedUp n)) o (first_row ((asks_for_unknown w line, whys.UnknownMember) ∷ []))) e)

last-asks : (s : Setting) (w : ModelWorld) (line : WorldLine) → holds_of (λ m. not (is_some (newest_signed w m))) (noted_named line) ≡ false → option_and_then (key_used_up s w) (key_named line) ≡ None
    → first_row (last_rows s w line) ≡ first_row ((asks_for_unknown w line, whys.UnknownMember) ∷ [])
last-asks s w line a e =
    rw a (used-row (key_named line) (λ key. eqb (next_of_liar w key) s.indexes) (next_of_liar w) ((asks_for_unknown w line, whys.UnknownMember) ∷ [])
    ∙ ap (λ (o : Option ℕ). option_map_or (λ (n : ℕ). Some (whys.UsedUp n)) o (first_row ((asks_for_unknown w line, whys.UnknownMember) ∷ []))) e)

pub last-unknown : (s : Setting) (w : ModelWorld) (line : WorldLine) → holds_of (λ m. not (is_some (newest_signed w m))) (noted_named line) ≡ false → option_and_then (key_used_up s w) (key_named line) ≡ None → asks_for_unknown w line ≡ true
    → first_row (last_rows s w line) ≡ Some whys.UnknownMember
last-unknown s w line a e f = last-asks s w line a e ∙ rw f refl

pub last-none : (s : Setting) (w : ModelWorld) (line : WorldLine) → holds_of (λ m. not (is_some (newest_signed w m))) (noted_named line) ≡ false → option_and_then (key_used_up s w) (key_named line) ≡ None → asks_for_unknown w line ≡ false
    → first_row (last_rows s w line) ≡ None
last-none s w line a e f = last-asks s w line a e ∙ rw f refl
