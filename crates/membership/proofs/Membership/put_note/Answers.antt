use Rattle.std.proofs.Common.{◌≡◌, ◌∙◌, ap, sym, subst, refl, length, arith, List, [], ℕ}
use Rattle.ff_ids.specs.declared.AccBody.{AccBody}
use Rattle.ff_ids.specs.Masks.{ring_count}
use Rattle.ff_ids.specs.Steps.{Report, after_note}
use Rattle.removal_timer.proofs.KeptLemmas.{length-in_order}
use Rattle.membership.specs.declared.kept.NoteEffect.{NoteEffect}
use Rattle.membership.specs.declared.kept.NoteEffect.TheVariants.{Enters, Leaves, Stays}
use Rattle.membership.specs.Life.{Life, with_note, effect_in}
use Rattle.membership.specs.Ends.{AreTheirs, Ends, is_ended_by}
use Rattle.membership.specs.Holds.{Holds}
use Rattle.membership.specs.Reports.{Moves, told_of}
use Rattle.membership.proofs.HoldLemmas.{note_fault-held, answers-fault, answers-none}
use Rattle.membership.proofs.SoundLemmas.{NoFault, no_fault}
use Rattle.membership.proofs.NoteLemmas.{Accepts, Noted, Noted-by, Moves-told, theirs-noted, effect-enters, effect-leaves, effect-stays}
use Rattle.membership.proofs.EndLemmas.{Ended, Ended-from}
use Rattle.membership.proofs.Membership.put_note.Goals as goal

pub returns-in-Some-clause-fault : goal.returns-in-Some-clause-fault
returns-in-Some-clause-fault c = λ s h.
    answers-fault _ _ c.in-Some.fault (note_fault-held c.args.self.now s c.args.note h) (sym c.fault_of_note.ensures ∙ c.in-Some.is)

none_fell : (effect : NoteEffect) (m : ℕ) → (told_of effect m).fell ≡ []
none_fell Enters m = refl
none_fell Leaves m = refl
none_fell Stays m = refl

pub end_by_note-requires : goal.end_by_note-requires
end_by_note-requires c =
    let l = c.args.self.now in
    let all = length-in_order (ring_count l.group.t) l.kept c.accept-effect.ensures.few c.accept-effect.ensures.in_order in
    let kept = ap (λ (k : Life). length k.kept) c.accept-effect.ensures.kept in
    let told = ap (λ (r : Report). length r.fell) c.report_effect.ensures ∙ ap (λ (xs : List AccBody). length xs) (none_fell c.accept-effect.result c.args.note.member) in
    omega (arith, all, kept, told)

pub returns-clause-fault : goal.returns-clause-fault
returns-clause-fault c = λ s h.
    answers-none _ _ (note_fault-held c.args.self.now s c.args.note h) (sym c.fault_of_note.ensures ∙ c.in_default.is)

fine : (c : goal.After-end_by_note) → NoFault c.args.self.now c.args.note
fine c = no_fault c.args.self.now c.args.note (sym c.fault_of_note.ensures ∙ c.in_default.is)

accepts : (c : goal.After-end_by_note) → Accepts c.args.self.now c.args.note
accepts c = record { below = c.accept-effect.ensures.range; positive = c.accept-effect.ensures.positive; newer = (fine c).newer }

ended : (c : goal.After-end_by_note) (s : _) → Holds c.args.self.now s → Ended (is_ended_by (with_note c.args.self.now c.args.note) c.args.note c.accept-effect.result) c.args.self.now.kept c.end_by_note.new.self.kept c.end_by_note.new.out.fell
ended c s h =
    let l = c.args.self.now in
    let n = c.args.note in
    let effect = c.accept-effect.result in
    let theirs : effect ≡ Leaves → AreTheirs c.accept-effect.new.self n.member c.accept-effect.new.self.kept = λ leaves.
    subst (λ (k : Life). AreTheirs k n.member k.kept) (sym c.accept-effect.ensures.kept) (theirs-noted l s n h (accepts c) (fine c).joined c.accept-effect.ensures.in_order (sym c.accept-effect.ensures.value ∙ leaves)) in
    let ends = subst (λ (k : Life). Ends (ring_count k.group.t) (is_ended_by k n effect) k.kept c.report_effect.new.self.fell c.end_by_note.new.self.kept c.end_by_note.new.out.fell) c.accept-effect.ensures.kept (c.end_by_note.ensures.ends theirs) in
    let empty = ap (λ (r : Report). r.fell) c.report_effect.ensures ∙ none_fell effect n.member in
    Ended-from (ring_count l.group.t) (is_ended_by (with_note l n) n effect) l.kept c.end_by_note.new.self.kept c.report_effect.new.self.fell c.end_by_note.new.out.fell c.accept-effect.ensures.in_order empty ends

noted : (c : goal.After-end_by_note) (s : _) → Holds c.args.self.now s → Noted c.args.self.now s c.args.note c.accept-effect.result c.end_by_note.new.self.kept c.end_by_note.new.out.fell
noted c s h =
    Noted-by c.args.self.now s c.args.note c.accept-effect.result c.end_by_note.new.self.kept c.end_by_note.new.out.fell h (accepts c) (fine c).joined c.accept-effect.ensures.in_order (sym c.accept-effect.ensures.value) (ended c s h)

pub returns-clause-step : goal.returns-clause-step
returns-clause-step c = λ s h.
    let life = c.end_by_note.ensures.rest ∙ ap (λ (l : Life). record l { kept = c.end_by_note.new.self.kept }) c.accept-effect.ensures.kept in
    subst (λ (l : Life). Holds l (after_note s c.args.note).state) (sym life) (noted c s h).holds

told : (c : goal.After-end_by_note) → c.end_by_note.new.out ≡ record (told_of c.accept-effect.result c.args.note.member) { fell = c.end_by_note.new.out.fell }
told c = c.end_by_note.ensures.report ∙ ap (λ (r : Report). record r { fell = c.end_by_note.new.out.fell }) c.report_effect.ensures

pub returns-clause-changes : goal.returns-clause-changes
returns-clause-changes c = λ s h. told c ∙ (noted c s h).report

moves : (c : goal.After-end_by_note) (is : NoteEffect) → effect_in c.args.self.now c.args.note ≡ is → Moves c.end_by_note.new.out (told_of is c.args.note.member).entered (told_of is c.args.note.member).removed
moves c is e = Moves-told c.end_by_note.new.out c.accept-effect.result is c.args.note.member c.end_by_note.new.out.fell (told c) (c.accept-effect.ensures.value ∙ e)

pub returns-clause-enters : goal.returns-clause-enters
returns-clause-enters c = λ s h by. moves c Enters (effect-enters c.args.self.now s c.args.note h (accepts c) by)

pub returns-clause-leaves : goal.returns-clause-leaves
returns-clause-leaves c = λ s h by. moves c Leaves (effect-leaves c.args.self.now s c.args.note h (accepts c) by)

pub returns-clause-stays : goal.returns-clause-stays
returns-clause-stays c = λ s h e f. moves c Stays (effect-stays c.args.self.now s c.args.note h (accepts c) e f)
