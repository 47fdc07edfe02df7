-- What the accusation of a silent member brings.
use Rattle.std.proofs.Common.{◌≡◌, ℕ, suc, zero, ◌+◌, ◌-◌, ◌<◌, Bool, true, false, cond, List, [], ◌∷◌, ◌++◌, Option, Some, None, refl, ap, sym, subst, inl, inr, ◌∙◌, arith}
use Rattle.std.specs.Prelude.{filter, ◌&&◌, ◌||◌}
use Rattle.std.specs.List.{list_any, range_with_len, slice_get}
use Rattle.std.specs.Option.{option_map_or}
use Rattle.std.proofs.Common.{Result, Ok, Err}
use Rattle.ff_ids.specs.declared.Group.{Group}
use Rattle.ff_ids.specs.declared.RingNo.{RingNo}
use Rattle.ff_ids.specs.declared.NoteBody.{NoteBody}
use Rattle.ff_ids.specs.Masks.{ring_count, enabled}
use Rattle.ff_ids.specs.Notes.{newest}
use Rattle.ff_ids.specs.Views.{State, monitor, is_number}
use Rattle.membership.specs.Reports.{kept_against}
use Rattle.records.specs.declared.Body.TheVariants.{Accusation}
use Rattle.journal.specs.declared.event.What.TheVariants as told
use Rattle.node_rules.specs.Nodes.{Setting, Node, state_of}
use Rattle.node_rules.specs.Calls.{Call, tells}
use Rattle.node_rules.specs.Ticking.{is_by, has_accused, monitored_rings, ring_for as ring_of, accusation_on, wants_accusation, accuses, accuses_all}
use Rattle.node_core.specs.declared.NodeFault.{NodeFault}
use Rattle.journal.specs.declared.event.Event as journal
use Rattle.node_core.specs.Ticks.{accusing, RunsAccusing}
use Rattle.node_core.specs.Signatures.{StopsAt}
use Rattle.std.proofs.Common.{length}
use Rattle.std.proofs.lemmas.Bool.{cases_Bool, false≢true}
use Rattle.std.specs.Prelude.{take}
use Rattle.std.specs.Prelude.{IsErr}
use Rattle.node_core.specs.Playing.{Kept, IsNode, Plays, Extends}
use Rattle.node_core.proofs.PlayLemmas.{setting-group, setting-me, grows-refl}
use Rattle.node_core.proofs.ExtendLemmas.{extends-accuses_all, extends-wants_accusation}
use Rattle.node_core.proofs.DueLemmas.{behind-extends, from-fine}

-- ---- what the definitions say of a silent member

pub accused-same : (s : Setting) (v : Kept) (n : Node) (m : ℕ) → IsNode s v n → v.membership.group ≡ v.group
    → list_any (λ ring. is_by v.me (kept_against (state_of s n).kept m ring)) (range_with_len 0 (ring_count v.membership.group.t)) ≡ has_accused s (state_of s n) m
accused-same s v n m is same =
    let g : s.group ≡ v.group = setting-group s v.group v.heal v.me v.authority v.signer.key is.setting in
    let me : s.me ≡ v.me = setting-me s v.group v.heal v.me v.authority v.signer.key is.setting in
    ap (λ (x : ℕ). list_any (λ ring. is_by x (kept_against (state_of s n).kept m ring)) (range_with_len 0 (ring_count v.membership.group.t))) (sym me)
    ∙ ap (λ (x : Group). list_any (λ ring. is_by s.me (kept_against (state_of s n).kept m ring)) (range_with_len 0 (ring_count x.t))) (same ∙ sym g)

pub accuses-kept : (s : Setting) (c : Call) (m : ℕ) → has_accused s (state_of s c.node) m ≡ true → accuses true s c m ≡ c
unfolding accuses
accuses-kept s c m is = rw is refl

pub accuses-wanted : (works : Bool) (s : Setting) (c : Call) (m : ℕ) → has_accused s (state_of s c.node) m ≡ false
    → accuses works s c m ≡ wants_accusation works s m (ring_of s (state_of s c.node) m) (tells s (told.Silent m) c)
unfolding accuses
accuses-wanted works s c m fails = rw fails refl

pub no-note : (s : Setting) (st : State) (m : ℕ) → newest st.notes m ≡ None → ring_of s st m ≡ None
no-note s st m none = rw none refl

pub ring-of_note : (s : Setting) (st : State) (m : ℕ) (note : NoteBody) → newest st.notes m ≡ Some note → ring_of s st m ≡ slice_get (monitored_rings s st m note) 0
ring-of_note s st m note is = rw is refl

pub rings-same : (s : Setting) (v : Kept) (n : Node) (m : ℕ) (note : NoteBody) → IsNode s v n → v.membership.group ≡ v.group
    → slice_get (filter (λ ring. is_number (monitor (state_of s n) ring m) v.me) (enabled (ring_count v.membership.group.t) note.mask.0)) 0 ≡ slice_get (monitored_rings s (state_of s n) m note) 0
rings-same s v n m note is same =
    let g : s.group ≡ v.group = setting-group s v.group v.heal v.me v.authority v.signer.key is.setting in
    let me : s.me ≡ v.me = setting-me s v.group v.heal v.me v.authority v.signer.key is.setting in
    ap (λ (x : ℕ). slice_get (filter (λ ring. is_number (monitor (state_of s n) ring m) x) (enabled (ring_count v.membership.group.t) note.mask.0)) 0) (sym me)
    ∙ ap (λ (x : Group). slice_get (filter (λ ring. is_number (monitor (state_of s n) ring m) s.me) (enabled (ring_count x.t) note.mask.0)) 0) (same ∙ sym g)

pub body-is : (s : Setting) (st : State) (m me : ℕ) (note : NoteBody) (ring : RingNo) → s.me ≡ me → newest st.notes m ≡ Some note
    → Accusation (record { accuser = me; accused = m; epoch = note.epoch; ring = ring }) ≡ accusation_on s st m ring.0
body-is s st m me note ring who is =
    ap (λ (x : ℕ). Accusation (record { accuser = x; accused = m; epoch = note.epoch; ring = ring })) (sym who)
    ∙ ap (λ (e : ℕ). Accusation (record { accuser = s.me; accused = m; epoch = e; ring = ring })) (sym (ap (λ (o : Option NoteBody). option_map_or (λ n. n.epoch) o 0) is))

-- one that is silent, and that no ring is for
pub wanted-if : (s : Setting) (es : List journal.Event) (os : List (ℕ × List ℕ)) (v : Kept) (c : Call) (m : ℕ) → has_accused s (state_of s c.node) m ≡ false → Plays s es os v (tells s (told.Silent m) c)
    → (v.telling.failed ≡ false → ring_of s (state_of s c.node) m ≡ None) → Plays s es os v (accuses true s c m)
wanted-if s es os v c m fails p none =
    let c1 : Call = tells s (told.Silent m) c in
    let ring : Option ℕ = ring_of s (state_of s c.node) m in
    subst (Plays s es os v) (sym (accuses-wanted true s c m fails))
    (from-fine s es os v v c1 (wants_accusation true s m ring c1) p (grows-refl v) (extends-wants_accusation s m ring c1) (λ h.
    elim (cases_Bool v.telling.failed) [
      | inl failed ↦ record { at = λ fine. absurd (false≢true (sym fine ∙ failed)); due = behind-extends es os v c1 (wants_accusation true s m ring c1) p.due (extends-wants_accusation s m ring c1) }
      | inr fine ↦ subst (Plays s es os v) (ap (λ (o : Option ℕ). wants_accusation true s m o c1) (sym (none fine))) p
    ]))

-- the accusations behind these extend the call
pub accuses-further : (s : Setting) (c : Call) (done rest : List ℕ) (m : ℕ) → Extends (accuses true s (accuses_all s done c) m) (accuses_all s (done ++ m ∷ rest) c)
accuses-further s c [] rest m = extends-accuses_all s rest (accuses true s c m)
accuses-further s c (x ∷ done) rest m = accuses-further s (accuses true s c x) done rest m

-- ---- several

-- one behind these
pub record IsFoundBehind (xs done : List ℕ) (m : ℕ) : Type 0 where
  pub found : slice_get xs (length done) ≡ Some m
  pub front : take (length done) xs ≡ done

pub found-behind : (done rest : List ℕ) (m : ℕ) → IsFoundBehind (done ++ m ∷ rest) done m
found-behind [] rest m = record { found = refl; front = refl }
found-behind (x ∷ done) rest m = let h = found-behind done rest m in record { found = h.found; front = ap (λ xs. x ∷ xs) h.front }

pub err-accusing : (P : Call → Type 0) (Q : Call → Call → Type 0) (s : Setting) (silent : List ℕ) (c : Call) (answer : Result (Unit {0}) NodeFault) → IsErr answer → StopsAt Q (accusing s) silent (accuses_all s silent c) c → RunsAccusing P Q s silent c answer
err-accusing P Q s silent c (Ok x) err h = absurd (false≢true err)
err-accusing P Q s silent c (Err e) err h = h
