-- What is known of the roster of a schedule, by how far that was read.
use Rattle.std.specs.Prelude.{◌≡◌, ◌<◌, ◌≤◌, ◌+◌, ◌==◌, ℕ, Bool, true, List, [], length}
use Rattle.std.specs.List.{list_any}
use Rattle.lms_tree.specs.Kinds.{height}
use Rattle.node_core.specs.Begins.{IsGroup}
use Rattle.schedule_world.specs.declared.text.WorldText.{WorldText}
use Rattle.schedule_world.specs.declared.text.WorldText.TheVariants as form
use Rattle.schedule_world.specs.Rows.{most_members}
use Rattle.sign_keys.specs.Kinds.{is_in_profile}
use Rattle.world_rules.specs.Settings.{Setting}
use Rattle.world_rules.specs.Walk.{Lists, Plays, Roster, Stage}
use Rattle.world.specs.Opening.{IsApart}

-- Nobody is listed.
pub record IsUnlisted (r : Roster) : Type 0 where
  pub nodes : r.correct ≡ []
  pub liars : r.liars ≡ []

abbrev pub is_listed : List ℕ → ℕ → Bool
is_listed listed m = list_any (λ x. x == m) listed

-- All of these have been named.
abbrev pub AreNamed : List ℕ → List ℕ → Type 0
AreNamed names listed = (m : ℕ) → is_listed listed m ≡ true → is_listed names m ≡ true

-- The group, with this t, and the kinds are those of a world. Who is listed is who was named, each once, a node among them where
-- one was.
pub record IsListed (t : ℕ) (names : List ℕ) (node : Bool) (r : Roster) : Type 0 where
  pub group : IsGroup r.group
  pub tolerance : r.group.t ≡ t
  pub kinds : height r.kinds.tree ≤ 10
  pub profile : is_in_profile r.kinds ≡ true
  pub some : node ≡ true → 0 < length r.correct
  pub count : length r.correct + length r.liars ≡ length names
  pub few : length names ≤ most_members
  pub nodes : AreNamed names r.correct
  pub liars : AreNamed names r.liars
  pub apart : IsApart r.correct r.liars

-- So much of the roster was read. Behind the line `begin` there is none, but a world.
abbrev pub IsRead : WorldText → Roster → Type 0
IsRead form.Start r = IsUnlisted r
IsRead form.Headed r = IsUnlisted r
IsRead (form.Grouped t) r = IsUnlisted r × IsGroup r.group × (r.group.t ≡ t)
IsRead (form.Roster t heal names node) r = IsListed t names node r
IsRead (form.Body t ticks) r = ⊥
IsRead form.Ended r = ⊥

-- The lines behind `begin` are read for a group of the world's t.
abbrev pub IsPlaying : WorldText → Setting → Type 0
IsPlaying (form.Body t ticks) s = s.group.t ≡ t
IsPlaying form.Ended s = Unit {0}
IsPlaying w s = ⊥

-- What has come of the text fits how far it was read.
abbrev pub Fits : WorldText → Stage → Type 0
Fits form (Lists r) = IsRead form r
Fits form (Plays s w) = IsPlaying form s
