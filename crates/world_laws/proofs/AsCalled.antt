-- A note of no ring is signed with a node's key only as the node is called to leave; and each node that is removed had signed what
-- it is removed by, or the note that is accused.
use Rattle.std.proofs.Common.{◌≡◌, ℕ, ◌<◌, true, eqb, List, [], ◌∷◌, ◌++◌, Some, inl, inr, refl, ap, sym, ◌∙◌, subst, arith}
use Rattle.std.specs.List.{slice_get}
use Rattle.ff_ids.specs.declared.NoteBody.{NoteBody}
use Rattle.ff_ids.specs.Lives.{opening, LeavesBy}
use Rattle.ff_ids.specs.Notes.{is_leaving}
use Rattle.ff_ids.specs.Steps.{Event, Joins, Notes, Accuses, Ticks}
use Rattle.life_laws.proofs.Lists.{All-at, All-from_In, Contains-from_In, In, In-append_left, In-append_right, In-from_Contains}
use Rattle.std.proofs.lemmas.List.{append_assoc}
use Rattle.records.specs.declared.Body.TheVariants.{Note}
use Rattle.signer.specs.Lives.{IsRising, Spent, epochs_of, note_epochs}
use Rattle.node_rules.proofs.Accusations.{In-from_filter_map}
use Rattle.std.proofs.lemmas.Bool.{eq-eqb}
use Rattle.world_rules.specs.Settings.{Setting, is_node}
use Rattle.world_rules.specs.Worlds.{Life, World, lives_of, spent_of}
use Rattle.world_rules.specs.Steps.{NodeEvent}
use Rattle.world_rules.specs.Laws.{IsSetting, Reached}
use Rattle.world_rules.proofs.Once.{nodes-once}
use Rattle.world_laws.specs.Signing.{HasSpentOn, SignsLeaving}
use Rattle.world_laws.specs.Telling.{IsSignedIn, IsSpentAsTold, IsToldBehind, IsToldSigned, said_in, spending, spent_if_told}
use Rattle.world_laws.specs.Laws.{IsNoteSignedByThen, NodesLeaveAsCalled, RemovesRightly, TheRemovedHadSigned}
use Rattle.world_laws.proofs.InWorlds.{nil-right}
use Rattle.world_laws.proofs.Living.{accepted-lived}
use Rattle.world_laws.proofs.OwnBodies.{own-signed}
use Rattle.world_laws.proofs.Signed.{spent-from, spent-in}
use Rattle.world_laws.proofs.SignedBefore.{Known, note-signed, rests-on, signed-in, told-by, told-place, told-spent}
use Rattle.world_laws.proofs.SignedFirst.{spent-event}
use Rattle.world_laws.proofs.Verified.{HasCome, reached-verified}
use Rattle.world_laws.proofs.Written.{spending-told}

-- ---- a note is signed once

abbrev of_note : ℕ → NoteBody → Spent
of_note index n = record { index = index; body = Note n }

rising-behind : (es fs : List ℕ) → IsRising (es ++ fs) → IsRising fs
rising-behind [] fs h = h
rising-behind (e ∷ es) fs h = rising-behind es fs h.1

epoch-in : (spent : List Spent) (index : ℕ) (n : NoteBody) → In spent (of_note index n) → In (note_epochs spent) n.epoch
epoch-in [] index n i = absurd i
epoch-in (x ∷ spent) index n (inl e) = subst (λ (y : Spent). In (epochs_of y.body ++ note_epochs spent) n.epoch) (sym e) (inl refl)
epoch-in (x ∷ spent) index n (inr i) = In-append_right (epochs_of x.body) (note_epochs spent) n.epoch (epoch-in spent index n i)

-- What comes behind a note has other epochs.
not-again : {A : Type 0} (x : Spent) (spent : List Spent) (i j : ℕ) (n : NoteBody) → IsRising (note_epochs (x ∷ spent)) → x ≡ of_note i n → In spent (of_note j n) → A
not-again x spent i j n rise is later =
    let here : IsRising (n.epoch ∷ note_epochs spent) = subst (λ (y : Spent). IsRising (epochs_of y.body ++ note_epochs spent)) is rise in
    let less : n.epoch < n.epoch = All-at (λ e. n.epoch < e) (note_epochs spent) n.epoch here.0 (epoch-in spent j n later) in
    absurd (omega (arith, less))

once-in : (spent : List Spent) (i j : ℕ) (n : NoteBody) → IsRising (note_epochs spent) → In spent (of_note i n) → In spent (of_note j n) → i ≡ j
once-in [] i j n rise h k = absurd h
once-in (x ∷ spent) i j n rise (inl h) (inl k) = ap (λ (y : Spent). y.index) (sym h ∙ k)
once-in (x ∷ spent) i j n rise (inl h) (inr k) = not-again x spent i j n rise h k
once-in (x ∷ spent) i j n rise (inr h) (inl k) = not-again x spent j i n rise k h
once-in (x ∷ spent) i j n rise (inr h) (inr k) = once-in spent i j n (rising-behind (epochs_of x.body) (note_epochs spent) rise) h k

-- ---- the law

said-note : (e : Event) (n : NoteBody) → said_in e ≡ Some (Note n) → e ≡ Notes n
said-note (Joins number places) n h = cc
said-note (Notes x) n h = ap (λ y. Notes y) (inner x n h)
  where
    inner : (x y : NoteBody) → Some (Note x) ≡ Some (Note y) → x ≡ y
    inner x y e = cc
said-note (Accuses a) n h = cc
said-note Ticks n h = cc

-- What the key spent on the note is reported.
told-of : (w : World) (told : List NodeEvent) (m index : ℕ) (n : NoteBody) → IsSpentAsTold w told m → In (spent_of w (Some m)) (of_note index n) → (moment : ℕ) × In told (spending m moment index (Note n))
told-of w told m index n as_told spent =
    let t = In-from_filter_map (spent_if_told m) told (of_note index n) (subst (λ xs. In xs (of_note index n)) (sym as_told) spent) in
    (t.0.event.moment, subst (In told) (spent-event t.0 m (of_note index n) (eqb t.0.who m) refl t.1.1) t.1.0)

-- The note came in at this place as the node was called to leave, with whatever index it was spent on.
signs-leaving : (s : Setting) (w : World) (told : List NodeEvent) (m index : ℕ) (n : NoteBody) (life : Life) (place : ℕ) → Known s w told → is_node s m ≡ true → n.member ≡ m → In (spent_of w (Some m)) (of_note index n) → HasCome s w.signed m life place (Note n) → SignsLeaving s m life place index n
signs-leaving s w told m index n life place k is mine spent (inl accepted) = absurd (accepted.foreign mine)
signs-leaving s w told m index n life place k is mine spent (inr own) =
    let again : In (spent_of w (Some m)) (of_note own.index n) = spent-in w (Some m) own.index (Note n) (eq-eqb m m refl) own.spent in
    subst (λ (x : ℕ). SignsLeaving s m life place x n) (once-in (spent_of w (Some m)) own.index index n (nodes-once s w told m k.fits k.reached is).epochs_rise again spent) own.leaves

-- So it is at the place that the report of its signature is of.
called-there : (s : Setting) (w : World) (told events : List NodeEvent) (m index : ℕ) (n : NoteBody) → Known s w told → is_node s m ≡ true → n.member ≡ m → is_leaving n ≡ true → In (spent_of w (Some m)) (of_note index n) → (x : IsSignedIn w events m index (Note n))
    → (SignsLeaving s m x.life x.place index n) × ((In (lives_of w m) x.life) × (slice_get x.life.node.lived x.place ≡ Some (Notes n)))
called-there s w told events m index n k is mine leaving spent x =
    let stays : slice_get x.life.node.lived x.place ≡ Some (Notes n) = x.here.there ∙ ap (λ (e : Event). Some e) (said-note x.here.event n x.here.says) in
    let i : In (lives_of w m) x.life = subst (λ xs. In xs x.life) (sym x.here.lives) (In-append_right x.here.past (x.life ∷ x.here.rest) x.life (inl refl)) in
    (signs-leaving s w told m index n x.life x.place k is mine spent (((reached-verified s w told k.fits k.reached).hosts m).lived x.life i x.place (Note n) leaving stays), (i, stays))

pub leave-as-called : NodesLeaveAsCalled
leave-as-called s w told m index n fits reached is has_spent leaving =
    let k : Known s w told = record { fits = fits; reached = reached } in
    let spent : In (spent_of w (Some m)) (of_note index n) = In-from_Contains _ _ has_spent in
    let mine : n.member ≡ m = own-signed s w told fits reached (record { who = Some m; index = index; body = Note n }) m (spent-from w (Some m) index (Note n) spent) refl is in
    let t = told-of w told m index n (spending-told s w told m fits reached is) spent in
    let x : IsSignedIn w told m index (Note n) = signed-in w told told [] m t.0 index (Note n) refl (accepted-lived s w told m reached) (sym (nil-right told)) t.1 in
    let r = called-there s w told told m index n k is mine leaving spent x in
    (mine, record { life = x.life; lived = Contains-from_In _ _ r.1.0; place = x.place; signs = r.0; stays = r.1.1 })

-- ---- who is removed had signed the note

-- The note by which a node left was signed by it by then, as it was called to leave.
left-by : (s : Setting) (w : World) (told : List NodeEvent) (who : ℕ) (life : Life) (place m : ℕ) (n : NoteBody) → Known s w told → In (lives_of w who) life → is_node s m ≡ true → LeavesBy s.group (opening []) life.node.lived place m n
    → IsNoteSignedByThen s w told who life place n
left-by s w told who life place m n k i is leaves =
    let node : is_node s n.member ≡ true = ap (is_node s) leaves.of_member ∙ is in
    let r : IsToldBehind w told who life place (Note n) = told-place w told who life place (Notes n) (Note n) (accepted-lived s w told who k.reached) i leaves.accepted.event refl in
    let how = told-by who r.report (Note n) (eqb r.report.who who) refl r.here.reports in
    let till : List NodeEvent = r.earlier ++ r.report ∷ [] in
    let whole : told ≡ till ++ r.later = r.among ∙ sym (append_assoc r.earlier (r.report ∷ []) r.later) in
    let x : IsToldSigned till n.member (Note n) = note-signed s w told who life n till r.later r.report k i whole (In-append_right r.earlier (r.report ∷ []) r.report (inl refl)) node how.0 how.1 in
    let here : In till (spending n.member x.moment x.index (Note n)) = In-from_Contains _ _ x.among in
    let all : In told (spending n.member x.moment x.index (Note n)) = subst (λ xs. In xs (spending n.member x.moment x.index (Note n))) (sym whole) (In-append_left till r.later _ here) in
    let spent : HasSpentOn w (Some n.member) x.index (Note n) = told-spent w told n.member x.moment x.index (Note n) (spending-told s w told n.member k.fits k.reached node) all in
    let signed : IsSignedIn w till n.member x.index (Note n) = signed-in w told till r.later n.member x.moment x.index (Note n) refl (accepted-lived s w told n.member k.reached) whole here in
    record { accepted = r; index = x.index; signed = signed; spent = spent; as_called = (called-there s w told till n.member x.index n k node refl leaves.leaving (In-from_Contains _ _ spent) signed).0 }

pub removes : (s : Setting) (w : World) (told : List NodeEvent) (who : ℕ) → IsSetting s → Reached s w told → (life : Life) → In (lives_of w who) life → RemovesRightly s w told who life
removes s w told who fits reached life i =
    let k : Known s w told = record { fits = fits; reached = reached } in
    record {
      accused = λ j m place a rests is. rests-on s w told who life j m place a k i is rests;
      left = λ j m n leaves is. left-by s w told who life j m n k i is leaves;
    }

pub removed-signed : TheRemovedHadSigned
removed-signed s w told who fits reached = All-from_In _ (lives_of w who) (removes s w told who fits reached)
