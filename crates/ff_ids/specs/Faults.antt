-- Faults: why a note or an accusation is refused, the first condition that holds being the answer.
use Rattle.std.specs.Prelude.{ℕ, Bool, ◌&&◌, not, ◌==◌, nat_le, if◌then◌else◌, Option, Some, None}
use Rattle.std.specs.List.{list_any}
use Rattle.std.specs.declared.cmp.Ordering.{Ordering}
use Rattle.std.specs.declared.cmp.Ordering.TheVariants.{Less, Equal, Greater}
use Rattle.ff_ids.specs.declared.NoteBody.{NoteBody}
use Rattle.ff_ids.specs.declared.AccBody.{AccBody}
use Rattle.ff_ids.specs.declared.Fault.{Fault}
use Rattle.ff_ids.specs.declared.Fault.TheVariants as faults
use Rattle.ff_ids.specs.Masks.{ring_count, enables, note_mask}
use Rattle.ff_ids.specs.Notes.{note_cmp, newest}
use Rattle.ff_ids.specs.Views.{State, is_member, in_view, monitor, is_number}

-- How a note compares with the newest decides: a smaller one is older, an equal one is known.
abbrev pub fault_beside : NoteBody → Ordering → Option Fault
fault_beside kept Less = Some (faults.Older kept.epoch kept.mask)
fault_beside kept Equal = Some faults.Known
fault_beside kept Greater = None

abbrev pub fault_after : Option NoteBody → NoteBody → Option Fault
fault_after None n = None
fault_after (Some kept) n = fault_beside kept (note_cmp n kept)

-- Why a note is refused, in a group of tolerance t, given whether its member has joined and the newest note of it.
abbrev pub note_fault_by : ℕ → Bool → Option NoteBody → NoteBody → Option Fault
note_fault_by t has_joined kept n =
    if not has_joined then Some faults.UnknownMember
    else (if not (note_mask t n.mask.0) then Some faults.BadMask
    else fault_after kept n)

-- The first fault of a note in a state, or none.
abbrev pub note_fault : ℕ → State → NoteBody → Option Fault
note_fault t s n = note_fault_by t (is_member s n.member) (newest s.notes n.member) n

-- What is asked about an accusation: whether accuser and accused have joined, the newest note of the accused,
-- whether the accused is in the view, its monitor on the ring, and whether the same accusation is kept.
pub record Facts : Type 0 where
  pub both_joined : Bool
  pub newest_note : Option NoteBody
  pub viewed : Bool
  pub ring_monitor : Option ℕ
  pub is_standing : Bool

-- Why an accusation is refused whose numbers are in order, given the newest note of the accused.
abbrev pub fault_under : Facts → AccBody → Option NoteBody → Option Fault
fault_under f a None = Some faults.NoNote
fault_under f a (Some n) =
    if not (n.epoch == a.epoch) then Some (faults.OtherEpoch n.epoch)
    else (if not f.viewed then Some faults.NotInView
    else (if not (enables n.mask.0 a.ring.0) then Some faults.RingDisabled
    else (if not (is_number f.ring_monitor a.accuser) then Some (faults.NotMonitor f.ring_monitor)
    else (if f.is_standing then Some faults.Standing else None))))

-- Why an accusation is refused, in a group of tolerance t, given the facts.
abbrev pub accusation_fault_by : ℕ → Facts → AccBody → Option Fault
accusation_fault_by t f a =
    if not f.both_joined then Some faults.UnknownMember
    else (if a.accuser == a.accused then Some faults.SelfAccusation
    else (if nat_le (ring_count t) a.ring.0 then Some faults.BadRing
    else fault_under f a f.newest_note))

-- The two say the same.
abbrev pub same_accusation : AccBody → AccBody → Bool
same_accusation a b = (a.accuser == b.accuser) && (a.accused == b.accused) && (a.epoch == b.epoch) && (a.ring.0 == b.ring.0)

-- The same accusation is kept.
abbrev pub is_kept : State → AccBody → Bool
is_kept s a = list_any (λ p. same_accusation p.0 a) s.kept

-- The facts of a state.
abbrev pub facts_of : State → AccBody → Facts
facts_of s a =
    record {
      both_joined = is_member s a.accuser && is_member s a.accused;
      newest_note = newest s.notes a.accused;
      viewed = in_view s a.accused;
      ring_monitor = monitor s a.ring.0 a.accused;
      is_standing = is_kept s a;
    }

-- The first fault of an accusation in a state, or none.
abbrev pub accusation_fault : ℕ → State → AccBody → Option Fault
accusation_fault t s a = accusation_fault_by t (facts_of s a) a

-- Why a number is not added.
abbrev pub join_fault : State → ℕ → Option Fault
join_fault s m = if is_member s m then Some faults.AlreadyMember else None
