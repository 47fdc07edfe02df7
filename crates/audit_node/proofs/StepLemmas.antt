-- A step of the membership is one of the definitions.
use Rattle.std.proofs.Common.{◌≡◌, ℕ, Bool, true, false, cond, List, Option, Some, None, refl, sym, subst, Result, Ok, Err, OnOk, OnErr}
use Rattle.ff_ids.specs.declared.Group.{Group}
use Rattle.ff_ids.specs.declared.NoteBody.{NoteBody}
use Rattle.ff_ids.specs.declared.AccBody.{AccBody}
use Rattle.ff_ids.specs.declared.Fault.{Fault}
use Rattle.ff_ids.specs.declared.Fault.TheVariants as faults
use Rattle.ff_ids.specs.Views.{State, is_member}
use Rattle.ff_ids.specs.Faults.{note_fault, accusation_fault, join_fault}
use Rattle.ff_ids.specs.Steps.{Event, Joins, Notes, Accuses, Ticks, Report, Stepped, step, after_note, after_accusation, after_tick, joined, unless_fault, unchanged, nothing}
use Rattle.membership.specs.Life.{Life}
use Rattle.membership.specs.Holds.{Holds}
use Rattle.membership.specs.Reports.{Answers}

-- What a step of the membership makes of the life, and what it reports.
pub record Steps (g : Group) (e : Event) (life next : Life) (r : Report) : Type 0 where
  pub holds : (st : State) → Holds life st → Holds next (step g st e).state
  pub reports : (st : State) → Holds life st → r ≡ (step g st e).report

record Unlessed (fault : Option Fault) (st : State) (next : Stepped) (life after : Life) (r : Report) : Type 0 where
  holds : Holds after (unless_fault fault st next).state
  reports : r ≡ (unless_fault fault st next).report

unlessed : (fault : Option Fault) (answer : Result (Unit {0}) Fault) (st : State) (next : Stepped) (life after : Life) (r : Report)
    → Answers fault answer → OnOk answer (Holds after next.state) → OnOk answer (r ≡ next.report) → OnErr answer (after ≡ life) → OnErr answer (r ≡ nothing) → Holds life st → Unlessed fault st next life after r
unlessed None answer st next life after r is ok told same emptied h =
    record { holds = subst (λ a. OnOk a (Holds after next.state)) is ok; reports = subst (λ a. OnOk a (r ≡ next.report)) is told }
unlessed (Some fault) answer st next life after r is ok told same emptied h =
    let stays : after ≡ life = subst (λ a. OnErr a (after ≡ life)) is same in
    record { holds = subst (λ x. Holds x st) (sym stays) h; reports = subst (λ a. OnErr a (r ≡ nothing)) is emptied }

pub note-steps : (g : Group) (life next : Life) (r : Report) (n : NoteBody) (answer : Result (Unit {0}) Fault) → life.group ≡ g
    → ((st : State) → Holds life st → Answers (note_fault life.group.t st n) answer)
    → ((st : State) → Holds life st → OnOk answer (Holds next (after_note st n).state))
    → ((st : State) → Holds life st → OnOk answer (r ≡ (after_note st n).report))
    → OnErr answer (next ≡ life) → OnErr answer (r ≡ nothing) → Steps g (Notes n) life next r
note-steps g life next r n answer same is ok told stays emptied =
    record {
      holds = λ st h. (unlessed (note_fault g.t st n) answer st (after_note st n) life next r (faults st h) (ok st h) (told st h) stays emptied h).holds;
      reports = λ st h. (unlessed (note_fault g.t st n) answer st (after_note st n) life next r (faults st h) (ok st h) (told st h) stays emptied h).reports;
    }
  where
    faults : (st : State) → Holds life st → Answers (note_fault g.t st n) answer
    faults st h = subst (λ (x : Group). Answers (note_fault x.t st n) answer) same (is st h)

pub accusation-steps : (g : Group) (life next : Life) (a : AccBody) (answer : Result (Unit {0}) Fault) → life.group ≡ g
    → ((st : State) → Holds life st → Answers (accusation_fault life.group.t st a) answer)
    → ((st : State) → Holds life st → OnOk answer (Holds next (after_accusation st a)))
    → OnErr answer (next ≡ life) → Steps g (Accuses a) life next nothing
accusation-steps g life next a answer same is ok stays =
    record { holds = λ st h. (all st h).holds; reports = λ st h. (all st h).reports }
  where
    both : (answer : Result (Unit {0}) Fault) → OnOk answer (nothing ≡ nothing)
    both (Ok x) = refl
    both (Err e) = tt

    neither : (answer : Result (Unit {0}) Fault) → OnErr answer (nothing ≡ nothing)
    neither (Ok x) = tt
    neither (Err e) = refl

    all : (st : State) → Holds life st → Unlessed (accusation_fault g.t st a) st (unchanged (after_accusation st a)) life next nothing
    all st h = unlessed (accusation_fault g.t st a) answer st (unchanged (after_accusation st a)) life next nothing (subst (λ (x : Group). Answers (accusation_fault x.t st a) answer) same (is st h)) (ok st h) (both answer) stays (neither answer) h

pub tick-steps : (g : Group) (life next : Life) (r : Report) → life.group ≡ g
    → ((st : State) → Holds life st → Holds next (after_tick life.group.timeout st).state)
    → ((st : State) → Holds life st → r ≡ (after_tick life.group.timeout st).report) → Steps g Ticks life next r
tick-steps g life next r same ok told =
    record {
      holds = λ st h. subst (λ (x : Group). Holds next (after_tick x.timeout st).state) same (ok st h);
      reports = λ st h. subst (λ (x : Group). r ≡ (after_tick x.timeout st).report) same (told st h);
    }

pub join-steps : (g : Group) (life next : Life) (m : ℕ) (places : List (List ℕ)) (answer : Result (Unit {0}) Fault)
    → ((st : State) → Holds life st → Answers (join_fault st m) answer)
    → ((st : State) → Holds life st → OnOk answer (Holds next (joined st m places)))
    → OnErr answer (next ≡ life) → Steps g (Joins m places) life next nothing
join-steps g life next m places answer is ok stays =
    record { holds = λ st h. (all st h (is_member st m) refl).0; reports = λ st h. (all st h (is_member st m) refl).1 }
  where
    all : (st : State) → Holds life st → (b : Bool) → is_member st m ≡ b → Holds next (step g st (Joins m places)).state × (nothing ≡ (step g st (Joins m places)).report)
    all st h true e =
        let err : answer ≡ Err faults.AlreadyMember = subst (λ b. Answers (cond b (Some faults.AlreadyMember) None) answer) e (is st h) in
        let stays2 : next ≡ life = subst (λ a. OnErr a (next ≡ life)) err stays in
        (rw e (subst (λ x. Holds x st) (sym stays2) h), rw e refl)
    all st h false e =
        let fine : answer ≡ Ok tt = subst (λ b. Answers (cond b (Some faults.AlreadyMember) None) answer) e (is st h) in
        (rw e (subst (λ a. OnOk a (Holds next (joined st m places))) fine (ok st h)), rw e refl)
