-- What a membership keeps of one life, which is far less than the state that it stands for.
use Rattle.std.specs.Prelude.{◌≡◌, ◌<◌, ◌≤◌, ℕ, Bool, ◌&&◌, List, Option, None, is_some, IfSome, length}
use Rattle.std.specs.FinMap.{get, insert, contains_key}
use Rattle.ff_ids.specs.declared.TheConstants.{MEMBERS, MAX_TOLERANCE}
use Rattle.ff_ids.specs.declared.Group.{Group}
use Rattle.ff_ids.specs.declared.AccBody.{AccBody}
use Rattle.ff_ids.specs.declared.NoteBody.{NoteBody}
use Rattle.ff_ids.specs.declared.Fault.{Fault}
use Rattle.ff_ids.specs.Masks.{ring_count}
use Rattle.ff_ids.specs.Rings.{Key, nearest_before, nearest_after}
use Rattle.ff_ids.specs.Views.{key_at}
use Rattle.ff_ids.specs.Faults.{Facts, note_fault_by, accusation_fault_by}
use Rattle.monitor_rule.specs.Joined.{Joined, keys_on}
use Rattle.removal_timer.specs.Kept.{Kept as Timed, IsInOrder, AreUntil, entry_at}
use Rattle.membership.specs.Kept.{ByNumber, places_at, expired_at, is_live_at, live_members, effect_by}
use Rattle.membership.specs.declared.kept.NoteEffect.{NoteEffect}

-- What is kept: the group, the ticks so far, by number the places, the newest note and the greatest epoch that
-- expired, and the accusations kept, each with the tick of its acceptance.
pub record Life : Type 0 where
  pub group : Group
  pub moment : ℕ
  pub places : ByNumber (List (List ℕ))
  pub notes : ByNumber NoteBody
  pub expired : ByNumber ℕ
  pub kept : List (AccBody × ℕ)

-- The number has joined.
abbrev pub has_joined : Life → ℕ → Bool
has_joined l m = contains_key l.places m

-- The number is a member's, with a place on each ring.
pub record IsPlaced (rings m : ℕ) (places : List (List ℕ)) : Type 0 where
  pub number : m < MEMBERS
  pub on_each : length places ≡ rings

-- Each member has a place on each ring, only members have notes, and the rings have the live members.
pub record IsSound (group : Group) (places : ByNumber (List (List ℕ))) (notes : ByNumber NoteBody) (expired : ByNumber ℕ) (view : Joined) : Type 0 where
  pub tolerance : group.t ≤ MAX_TOLERANCE
  pub placed : (m : ℕ) → IfSome (get places m) (IsPlaced (ring_count group.t) m)
  pub noted : (m : ℕ) → get places m ≡ None → get notes m ≡ None
  pub rings : view.rings ≡ ring_count group.t
  pub viewed : view.members ≡ live_members places notes expired

-- What it is opened with goes for the timers too, which keep their order, and in which nothing stands since later than
-- now.
pub record IsTimed (group : Group) (moment : ℕ) (timers : Timed) : Type 0 where
  pub rings_same : timers.rings ≡ ring_count group.t
  pub timeout_same : timers.timeout ≡ group.timeout
  pub in_order : IsInOrder (ring_count group.t) timers.entries
  pub past : AreUntil moment timers.entries

pub record IsConsistent (group : Group) (moment : ℕ) (places : ByNumber (List (List ℕ))) (notes : ByNumber NoteBody) (expired : ByNumber ℕ) (view : Joined) (timers : Timed) : Type 0 where
  pub sound : IsSound group places notes expired view
  pub timed : IsTimed group moment timers

-- How many members are live.
abbrev pub live_count : Life → ℕ
live_count l = length (live_members l.places l.notes l.expired)

-- The keys on the ring of the live members.
abbrev pub live_keys : Life → ℕ → List Key
live_keys l ring = keys_on ring (live_members l.places l.notes l.expired)

abbrev pub own_key : Life → ℕ → ℕ → Key
own_key l ring m = key_at ring (places_at l.places m) m

abbrev pub live_monitor : Life → ℕ → ℕ → Option ℕ
live_monitor l ring m = nearest_before (live_keys l ring) (own_key l ring m)

abbrev pub live_successor : Life → ℕ → ℕ → Option ℕ
live_successor l ring m = nearest_after (live_keys l ring) (own_key l ring m)

-- Why a note is refused, by what is kept.
abbrev pub note_fault_in : Life → NoteBody → Option Fault
note_fault_in l n = note_fault_by l.group.t (has_joined l n.member) (get l.notes n.member) n

-- What is asked about an accusation, by what is kept.
abbrev pub facts_in : Life → AccBody → Facts
facts_in l a =
    record {
      both_joined = has_joined l a.accuser && has_joined l a.accused;
      newest_note = get l.notes a.accused;
      viewed = is_live_at l.notes l.expired a.accused;
      ring_monitor = live_monitor l a.ring.0 a.accused;
      is_standing = is_some (entry_at a.accused a.ring.0 l.kept);
    }

abbrev pub accusation_fault_in : Life → AccBody → Option Fault
accusation_fault_in l a = accusation_fault_by l.group.t (facts_in l a) a

-- What the note does to its member's place in the view.
abbrev pub effect_in : Life → NoteBody → NoteEffect
effect_in l n = effect_by (expired_at l.expired n.member) (get l.notes n.member) n

-- The life with the note as the newest of its member.
abbrev pub with_note : Life → NoteBody → Life
with_note l n = record l { notes = insert l.notes n.member n }
