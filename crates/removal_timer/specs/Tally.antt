-- Tally: how many of the entries are against each member, and how many by it; and the rings on which one is against it.
use Rattle.std.specs.Prelude.{◌≡◌, ℕ, ◌+◌, ◌-◌, ◌^◌, ◌<◌, Bool, ◌==◌, ◌&&◌, List, length, filter, slice_index_or, slice_set}
use Rattle.std.specs.List.{list_any}
use Rattle.ff_ids.specs.declared.TheConstants.{MEMBERS, MAX_RINGS}
use Rattle.ff_ids.specs.declared.AccBody.{AccBody}
use Rattle.ff_ids.specs.Masks.{bits_where}
use Rattle.removal_timer.specs.declared.tally.Tallies.{Tallies}

abbrev pub is_against : ℕ → AccBody × ℕ → Bool
is_against m p = p.0.accused == m

abbrev pub is_by : ℕ → AccBody × ℕ → Bool
is_by m p = p.0.accuser == m

-- The rings on which an entry is against the member, as a bit for each.
abbrev pub rings_against : ℕ → List (AccBody × ℕ) → ℕ
rings_against m entries = bits_where (λ r. list_any (λ p. (p.0.accused == m) && (p.0.ring.0 == r)) entries) MAX_RINGS

-- The counts and marks with one accusation more.
abbrev pub one_more : AccBody → Tallies → Tallies
one_more a t =
    record {
      against = slice_set t.against a.accused (slice_index_or t.against a.accused 0 + 1);
      by = slice_set t.by a.accuser (slice_index_or t.by a.accuser 0 + 1);
      marks = slice_set t.marks a.accused (slice_index_or t.marks a.accused 0 + 2 ^ a.ring.0);
    }

-- The counts and marks with one accusation less.
abbrev pub one_less : AccBody → Tallies → Tallies
one_less a t =
    record {
      against = slice_set t.against a.accused (slice_index_or t.against a.accused 0 - 1);
      by = slice_set t.by a.accuser (slice_index_or t.by a.accuser 0 - 1);
      marks = slice_set t.marks a.accused (slice_index_or t.marks a.accused 0 - 2 ^ a.ring.0);
    }

-- There is a count for each member, of the entries against it, and one of those by it; and the rings of the first are marked.
pub record AreTallied (entries : List (AccBody × ℕ)) (tallies : Tallies) : Type 0 where
  pub against_long : length tallies.against ≡ MEMBERS
  pub by_long : length tallies.by ≡ MEMBERS
  pub against : (m : ℕ) → m < MEMBERS → slice_index_or tallies.against m 0 ≡ length (filter (is_against m) entries)
  pub by : (m : ℕ) → m < MEMBERS → slice_index_or tallies.by m 0 ≡ length (filter (is_by m) entries)
  pub marks_long : length tallies.marks ≡ MEMBERS
  pub marks : (m : ℕ) → m < MEMBERS → slice_index_or tallies.marks m 0 ≡ rings_against m entries
