-- What an accusation without a fault has.
use Rattle.std.proofs.Common.{◌≡◌, ℕ, Bool, true, false, cond, not, eqb, Option, Some, None, refl, sym}
use Rattle.std.specs.Prelude.{nat_le}
use Rattle.std.proofs.lemmas.Bool.{and_from}
use Rattle.ff_ids.specs.declared.AccBody.{AccBody}
use Rattle.ff_ids.specs.declared.NoteBody.{NoteBody}
use Rattle.ff_ids.specs.declared.Fault.TheVariants as faults
use Rattle.ff_ids.specs.Masks.{ring_count, enables}
use Rattle.ff_ids.specs.Views.{is_number, is_unanswered_by}
use Rattle.ff_ids.specs.Faults.{Facts, fault_under, accusation_fault_by}

-- a condition that is none: its test is false, and the rest is none
pub passed : {X : Type 0} (b : Bool) (x : X) (rest : Option X) → cond b (Some x) rest ≡ None → (b ≡ false) × (rest ≡ None)
passed true x rest h = cc
passed false x rest h = (refl, h)

pub not_false : (b : Bool) → not b ≡ false → b ≡ true
not_false true e = refl
not_false false e = sym e

-- fact by fact
pub record Passes (t : ℕ) (f : Facts) (a : AccBody) : Type 0 where
  pub joined : f.both_joined ≡ true
  pub ring : nat_le (ring_count t) a.ring.0 ≡ false
  pub note : NoteBody
  pub newest : f.newest_note ≡ Some note
  pub unanswered : is_unanswered_by a note ≡ true
  pub viewed : f.viewed ≡ true
  pub monitored : is_number f.ring_monitor a.accuser ≡ true
  pub free : f.is_standing ≡ false

passes_under : (t : ℕ) (f : Facts) (a : AccBody) (o : Option NoteBody) → f.both_joined ≡ true → nat_le (ring_count t) a.ring.0 ≡ false → f.newest_note ≡ o → fault_under f a o ≡ None → Passes t f a
passes_under t f a None joined ring note h = cc
passes_under t f a (Some n) joined ring note h =
    let epoch = passed (not (eqb n.epoch a.epoch)) (faults.OtherEpoch n.epoch) _ h in
    let viewed = passed (not f.viewed) faults.NotInView _ epoch.1 in
    let enabled = passed (not (enables n.mask.0 a.ring.0)) faults.RingDisabled _ viewed.1 in
    let monitored = passed (not (is_number f.ring_monitor a.accuser)) (faults.NotMonitor f.ring_monitor) _ enabled.1 in
    let free = passed f.is_standing faults.Standing _ monitored.1 in
    record {
      joined = joined;
      ring = ring;
      note = n;
      newest = note;
      unanswered = and_from _ _ (not_false _ epoch.0) (not_false _ enabled.0);
      viewed = not_false _ viewed.0;
      monitored = not_false _ monitored.0;
      free = free.0;
    }

pub passes : (t : ℕ) (f : Facts) (a : AccBody) → accusation_fault_by t f a ≡ None → Passes t f a
passes t f a h =
    let joined = passed (not f.both_joined) faults.UnknownMember _ h in
    let other = passed (eqb a.accuser a.accused) faults.SelfAccusation _ joined.1 in
    let ring = passed (nat_le (ring_count t) a.ring.0) faults.BadRing _ other.1 in
    passes_under t f a f.newest_note (not_false _ joined.0) ring.0 refl ring.1
