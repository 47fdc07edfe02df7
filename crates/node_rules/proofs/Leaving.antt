-- What a node does as it leaves: what it reports and sends, what its life gains, and that it is out of its own view.
use Rattle.std.proofs.Common.{◌≡◌, ℕ, true, false, eqb, [], ◌∷◌, Some, refl, ap, ◌∙◌}
use Rattle.std.proofs.lemmas.Bool.{cond_both}
use Rattle.ff_ids.specs.declared.NoteBody.{NoteBody}
use Rattle.ff_ids.specs.Notes.{newest}
use Rattle.ff_ids.specs.Views.{State, has_expired, viewed_by, in_view}
use Rattle.ff_ids.proofs.ViewLemmas.{in_view_by-left}
use Rattle.journal.specs.declared.event.What.TheVariants as told
use Rattle.node_rules.specs.Nodes.{Setting, Node, state_of, neighbours}
use Rattle.node_rules.specs.Calls.{Call, begun, signs, is_used_up}
use Rattle.node_rules.specs.Leaving.{leaving, leaves, left}
use Rattle.node_rules.specs.Lives.{KeepsOwnNote, OwnLeavingIsAccepted}
use Rattle.node_rules.specs.Verdicts.{all_at, is_apart}
use Rattle.node_rules.specs.Outgoing.{LeavingSends, LeavingTells}
use Rattle.node_rules.specs.Gaining.{LeavingIsLived}
use Rattle.node_rules.proofs.Small.{stored-signs}
use Rattle.node_rules.proofs.Handling.{apart-over, node-wants, picked, sent-wants, that-wants}
use Rattle.node_rules.proofs.Gains.{lived-wants}
use Rattle.node_rules.proofs.OwnNote.{next_own-fine, own-leaves}

pub leaving-sends : LeavingSends
unfolding left leaves
leaving-sends s n = sent-wants s (leaving s n.stored) (neighbours s) (begun n)

pub leaving-tells : LeavingTells
unfolding left leaves
leaving-tells s n =
    let moment : ℕ = (state_of s n).moment in
    that-wants is_apart true s (leaving s n.stored) (neighbours s) (begun n) apart-over
    ∙ cond_both (eqb n.stored.next s.indexes) (told.Exhausted n.stored.next) (told.Spent n.stored.next (leaving s n.stored)) (λ w. picked is_apart moment (w ∷ []) ≡ all_at moment (w ∷ []))
    (λ up. refl) (λ index. refl)

pub leaving-lived : LeavingIsLived
unfolding left leaves
leaving-lived s n = lived-wants s (leaving s n.stored) (neighbours s) (begun n)

left-signs : (s : Setting) (n : Node) → is_used_up s n ≡ false → (left s n).node ≡ (signs s (leaving s n.stored) (begun n)).node
unfolding left leaves
left-signs s n index = node-wants true s (leaving s n.stored) (neighbours s) (begun n) ∙ rw index refl

-- who has a leaving note for the newest is out of the view
left-out : (st : State) (m : ℕ) (note : NoteBody) → newest st.notes m ≡ Some note → eqb note.mask.0 0 ≡ true → in_view st m ≡ false
left-out st m note is none = ap (viewed_by st.expired) is ∙ in_view_by-left note (has_expired st.expired note) none

pub leaving-accepted : OwnLeavingIsAccepted
leaving-accepted s n own =
    let c : Call = signs s (leaving s n.stored) (begun n) in
    let kept : KeepsOwnNote s c.node = own-leaves s (begun n) own in
    record {
      no_fault = next_own-fine s n 0 own refl;
      out = λ index. ap (λ x. in_view (state_of s x) s.me) (left-signs s n index)
          ∙ left-out (state_of s c.node) s.me _ kept.own (ap (λ k. eqb k.mask.0 0) (stored-signs s (leaving s n.stored) (begun n)));
    }
