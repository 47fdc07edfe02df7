-- The node's newest note is the one that its store keeps.
use Rattle.std.proofs.Common.{◌≡◌, ℕ, ◌+◌, ◌≤◌, Bool, true, false, eqb, inl, inr, List, [], ◌∷◌, Option, Some, None, refl, ap, sym, ◌∙◌, subst, arith, eq-eqb}
use Rattle.std.proofs.lemmas.Bool.{cond_both, or_right, cases_Bool, eqb-true, and_parts}
use Rattle.ff_ids.specs.declared.NoteBody.{NoteBody}
use Rattle.ff_ids.specs.declared.AccBody.{AccBody}
use Rattle.ff_ids.specs.declared.Group.{Group}
use Rattle.ff_ids.specs.declared.Fault.{Fault}
use Rattle.std.specs.Option.{option_or}
use Rattle.std.specs.Ordering.{nat_cmp}
use Rattle.std.specs.Cmp.{nat_cmp_is}
use Rattle.std.specs.declared.cmp.Ordering.{Ordering}
use Rattle.std.specs.declared.cmp.Ordering.TheVariants.{Greater}
use Rattle.ff_ids.specs.Masks.{all_rings, good_mask, note_mask, enables}
use Rattle.ff_ids.specs.Notes.{newest, note_cmp, greater_note}
use Rattle.ff_ids.specs.Views.{State, is_member}
use Rattle.ff_ids.specs.Faults.{note_fault, accusation_fault, fault_beside, fault_after, note_fault_by, facts_of}
use Rattle.epoch_store.specs.declared.Stored.{Stored}
use Rattle.std.specs.Prelude.{fold, ◌||◌}
use Rattle.std.specs.List.{AllByRecursion, list_any}
use Rattle.records.specs.declared.CertBody.{CertBody}
use Rattle.records.specs.declared.Body.{Body}
use Rattle.records.specs.declared.Body.TheVariants.{Certificate, Note, Accusation}
use Rattle.records.specs.declared.Record.{Record}
use Rattle.datagram.specs.declared.Datagram.{Datagram}
use Rattle.validate.specs.Table.{own_ahead}
use Rattle.node_rules.specs.Nodes.{Setting, Node, state_of, event_of}
use Rattle.node_rules.specs.Refusals.{refusal, refusal_of}
use Rattle.node_rules.specs.Calls.{Call, begun, lives, takes, signs, spends, sends, own_record}
use Rattle.detector.specs.Silence.{History}
use Rattle.rebuttal.proofs.Answering.{IsAsked}
use Rattle.rebuttal.specs.Rebuttals.{answering_mask}
use Rattle.node_rules.specs.Replies.{first_mask}
use Rattle.node_rules.specs.Deliveries.{answering_note, answer_to, returning_note}
use Rattle.node_rules.specs.Leaving.{leaving}
use Rattle.node_rules.specs.Starting.{blank, opened, started}
use Rattle.node_rules.specs.Lives.{is_certificate_for, stored_note, KeepsOwnNote, Input, call_of, after_calls}
use Rattle.rebuttal.proofs.Masks.{answering-good}
use Rattle.node_rules.proofs.Allowed.{good-allowed, good-enabling}
use Rattle.node_rules.proofs.Keeping.{Keeps, keeps-call}
use Rattle.ff_ids.proofs.FaultLemmas.{passes}
use Rattle.node_rules.proofs.Small.{state_of-lives, state-takes, state-signs, stored-signs, stored-takes}
use Rattle.ff_ids.specs.Steps.{Event, Joins, Notes, Accuses, Ticks, Stepped, after_note, after_accusation, unchanged, unless_fault, step}

-- The member's newest note is the same, and it is still a member.
pub record SameOwn (me : ℕ) (st next : State) : Type 0 where
  pub note : newest next.notes me ≡ newest st.notes me
  pub member : is_member st me ≡ true → is_member next me ≡ true

abbrev pub IsNotOwn : ℕ → Event → Type 0
IsNotOwn me (Notes n) = eqb n.member me ≡ false
IsNotOwn me (Joins number places) = Unit {0}
IsNotOwn me (Accuses a) = Unit {0}
IsNotOwn me Ticks = Unit {0}

unless-same : (me : ℕ) (fault : Option Fault) (st : State) (next : Stepped) → SameOwn me st next.state → SameOwn me st (unless_fault fault st next).state
unless-same me (Some fault) st next h = record { note = refl; member = λ m. m }
unless-same me None st next h = h

pub step-same : (g : Group) (me : ℕ) (st : State) (e : Event) → IsNotOwn me e → SameOwn me st (step g st e).state
step-same g me st (Joins number places) h =
    cond_both (is_member st number) (unchanged st) (unchanged _) (λ x. SameOwn me st x.state)
    (λ yes. record { note = refl; member = λ m. m })
    (λ no. record { note = refl; member = λ m. or_right (eqb number me) (is_member st me) m })
step-same g me st (Notes n) h = unless-same me (note_fault g.t st n) st (after_note st n) (record { note = rw h refl; member = λ m. m })
step-same g me st (Accuses a) h = unless-same me (accusation_fault g.t st a) st (unchanged (after_accusation st a)) (record { note = refl; member = λ m. m })
step-same g me st Ticks h = record { note = refl; member = λ m. m }

-- ---- the own note of the next epoch

cmp-next : (e : ℕ) → nat_cmp (e + 1) e ≡ Greater
cmp-next e = sym (nat_cmp_is (e + 1) e Greater (omega arith))

pub option_or-none : {T : Type 0} (a b : Option T) → option_or a b ≡ None → (a ≡ None) × (b ≡ None)
option_or-none None b h = (refl, h)
option_or-none (Some x) b h = cc

abbrev next_own : Setting → Stored → ℕ → NoteBody
next_own s kept mask = record { member = s.me; epoch = kept.epoch + 1; mask = record { 0 = mask } }

beside : (kept n : NoteBody) (o : Ordering) → nat_cmp n.epoch kept.epoch ≡ o → o ≡ Greater → fault_beside kept (note_cmp n kept) ≡ None
beside kept n o e g = rw (e ∙ g) refl

fault_by-none : (t : ℕ) (joined : Bool) (newest_note : Option NoteBody) (n : NoteBody) → joined ≡ true → note_mask t n.mask.0 ≡ true → fault_after newest_note n ≡ None → note_fault_by t joined newest_note n ≡ None
fault_by-none t joined newest_note n j g h = rw (j, g) h

-- the node's note of the next epoch is accepted
pub next_own-fine : (s : Setting) (n : Node) (mask : ℕ) → KeepsOwnNote s n → note_mask s.group.t mask ≡ true → note_fault s.group.t (state_of s n) (next_own s n.stored mask) ≡ None
next_own-fine s n mask h allowed =
    let note : NoteBody = next_own s n.stored mask in
    let later : fault_after (newest (state_of s n).notes s.me) note ≡ None = ap (λ o. fault_after o note) h.own ∙ beside (stored_note s n.stored) note Greater (cmp-next n.stored.epoch) refl in
    fault_by-none s.group.t (is_member (state_of s n) s.me) (newest (state_of s n).notes s.me) note h.joined allowed later

greater-next : (s : Setting) (kept : Stored) (mask : ℕ) → greater_note (next_own s kept mask) (Some (stored_note s kept)) ≡ next_own s kept mask
greater-next s kept mask = rw (cmp-next kept.epoch) refl

-- and is its newest then
newest-next : (s : Setting) (n : Node) (mask : ℕ) → newest (state_of s n).notes s.me ≡ Some (stored_note s n.stored) → newest (next_own s n.stored mask ∷ (state_of s n).notes) s.me ≡ Some (next_own s n.stored mask)
newest-next s n mask h = rw (eq-eqb s.me s.me refl, h) (ap (λ x. Some x) (greater-next s n.stored mask))

-- ---- a record of somebody else

own_ahead-some : (me : ℕ) (kept : Option NoteBody) (n : NoteBody) (stored : NoteBody) → kept ≡ Some stored → eqb n.member me ≡ true → own_ahead me kept n ≡ None → ⊥
own_ahead-some me kept n stored k e h = cc

-- an accepted note is another's
pub note-is_other : (s : Setting) (n : Node) (r : Record) (note : NoteBody) → KeepsOwnNote s n → r.body ≡ Note note → refusal s n r ≡ None → eqb note.member s.me ≡ false
unfolding refusal
note-is_other s n r note own is fine =
    let fine2 : refusal_of s n r (Note note) ≡ None = sym (ap (refusal_of s n r) is) ∙ fine in
    let later = (option_or-none _ _ fine2).1 in
    let last = (option_or-none _ _ later).1 in
    elim (cases_Bool (eqb note.member s.me)) [
      | inl same ↦ absurd (own_ahead-some s.me (newest (state_of s n).notes s.me) note (stored_note s n.stored) own.own same last)
      | inr apart ↦ apart
    ]

event-is_other : (s : Setting) (n : Node) (r : Record) (b : Body) → KeepsOwnNote s n → r.body ≡ b → refusal s n r ≡ None → IsNotOwn s.me (event_of s b)
event-is_other s n r (Certificate c) own is fine = tt
event-is_other s n r (Note note) own is fine = note-is_other s n r note own is fine
event-is_other s n r (Accusation a) own is fine = tt

-- ---- the steps of a call

transported : (s : Setting) (n m : Node) → KeepsOwnNote s n → SameOwn s.me (state_of s n) (state_of s m) → m.stored ≡ n.stored → KeepsOwnNote s m
transported s n m h same stored =
    record {
      joined = same.member h.joined;
      own = same.note ∙ h.own ∙ ap (λ k. Some (stored_note s k)) (sym stored);
      allowed = ap (λ k. note_mask s.group.t k.mask.0) stored ∙ h.allowed;
    }

by_step : (s : Setting) (e : Event) (c : Call) → IsNotOwn s.me e → SameOwn s.me (state_of s c.node) (state_of s (lives s e c).node)
by_step s e c other = subst (λ x. SameOwn s.me (state_of s c.node) x) (sym (state_of-lives s e c)) (step-same s.group s.me (state_of s c.node) e other)

pub stored-lives : (s : Setting) (e : Event) (c : Call) → (lives s e c).node.stored ≡ c.node.stored
unfolding lives
stored-lives s e c = refl

own-lives : (s : Setting) (e : Event) (c : Call) → IsNotOwn s.me e → KeepsOwnNote s c.node → KeepsOwnNote s (lives s e c).node
own-lives s e c other h = transported s c.node (lives s e c).node h (by_step s e c other) (stored-lives s e c)

own-sends : (s : Setting) (d : Datagram) (c : Call) (to : ℕ) → KeepsOwnNote s c.node → KeepsOwnNote s (sends s d c to).node
unfolding sends
own-sends s d c to h = h

own-takes : (s : Setting) (r : Record) (c : Call) → IsNotOwn s.me (event_of s r.body) → KeepsOwnNote s c.node → KeepsOwnNote s (takes s r c).node
unfolding takes state_of
own-takes s r c other h = let k = own-lives s (event_of s r.body) c other h in record { joined = k.joined; own = k.own; allowed = k.allowed }

-- a signed accusation leaves the own note
own-accuses : (s : Setting) (a : AccBody) (c : Call) → KeepsOwnNote s c.node → KeepsOwnNote s (signs s (Accusation a) c).node
unfolding signs state_of
own-accuses s a c h = own-takes s (own_record s c.node (Accusation a)) (spends s (Accusation a) c) tt (record { joined = h.joined; own = h.own; allowed = h.allowed })

unless-none : (fault : Option Fault) (st : State) (next : Stepped) → fault ≡ None → unless_fault fault st next ≡ next
unless-none fault st next h = rw h refl

-- the own note of the next epoch takes its place
pub own-signs_note : (s : Setting) (mask : ℕ) (c : Call) → KeepsOwnNote s c.node → note_mask s.group.t mask ≡ true → KeepsOwnNote s (signs s (Note (next_own s c.node.stored mask)) c).node
own-signs_note s mask c h allowed =
    let note : NoteBody = next_own s c.node.stored mask in
    let st : State = state_of s c.node in
    let fine : note_fault s.group.t st note ≡ None = next_own-fine s c.node mask h allowed in
    let at : state_of s (signs s (Note note) c).node ≡ (step s.group st (Notes note)).state = state-signs s (Note note) c in
    let step-is : (step s.group st (Notes note)).state ≡ (after_note st note).state = ap (λ x. x.state) (unless-none (note_fault s.group.t st note) st (after_note st note) fine) in
    let whole = at ∙ step-is in
    record {
      joined = ap (λ x. is_member x s.me) whole ∙ h.joined;
      own = ap (λ x. newest x.notes s.me) whole ∙ newest-next s c.node mask h.own ∙ ap (λ k. Some (stored_note s k)) (sym (stored-signs s (Note note) c));
      allowed = ap (λ k. note_mask s.group.t k.mask.0) (stored-signs s (Note note) c) ∙ allowed;
    }

-- the note by which the node leaves is one of them
pub own-leaves : (s : Setting) (c : Call) → KeepsOwnNote s c.node → KeepsOwnNote s (signs s (leaving s c.node.stored) c).node
own-leaves s c h = own-signs_note s 0 c h refl

-- and so is the note by which the node comes back
own-returns : (s : Setting) (c : Call) → KeepsOwnNote s c.node → KeepsOwnNote s (signs s (Note (returning_note s c.node.stored)) c).node
own-returns s c h = own-signs_note s c.node.stored.mask.0 c h h.allowed

pub return-fine : (s : Setting) (n : Node) → KeepsOwnNote s n → note_fault s.group.t (state_of s n) (returning_note s n.stored) ≡ None
return-fine s n h = next_own-fine s n n.stored.mask.0 h h.allowed

-- ---- an accusation against the node, and its answer

some-injective : {T : Type 0} (x y : T) → Some x ≡ Some y → x ≡ y
some-injective x y h = cc

-- an accepted accusation against the node is on a ring that its own note enables
pub accused-asks : (s : Setting) (n : Node) (r : Record) (a : AccBody) → 1 ≤ s.group.t → KeepsOwnNote s n → refusal s n r ≡ None → r.body ≡ Accusation a → eqb a.accused s.me ≡ true → IsAsked s.group.t n.stored.mask.0 a.ring.0
unfolding refusal
accused-asks s n r a some own fine is me =
    let fine2 : refusal_of s n r (Accusation a) ≡ None = sym (ap (refusal_of s n r) is) ∙ fine in
    let st : State = state_of s n in
    let p = passes s.group.t (facts_of st a) a (option_or-none _ _ fine2).0 in
    let who : a.accused ≡ s.me = eqb-true _ _ me in
    let note-is : p.note ≡ stored_note s n.stored = some-injective _ _ (sym p.newest ∙ ap (newest st.notes) who ∙ own.own) in
    let lit : enables p.note.mask.0 a.ring.0 ≡ true = (and_parts _ _ p.unanswered).1 in
    let on : enables n.stored.mask.0 a.ring.0 ≡ true = sym (ap (λ (x : NoteBody). enables x.mask.0 a.ring.0) note-is) ∙ lit in
    record { some = some; good = good-enabling s.group.t n.stored.mask.0 a.ring.0 own.allowed on; on = on }

pub own-answers : (s : Setting) (r : Record) (a : AccBody) (c : Call) → 1 ≤ s.group.t → refusal s c.node r ≡ None → r.body ≡ Accusation a → eqb a.accused s.me ≡ true → KeepsOwnNote s c.node
    → KeepsOwnNote s (signs s (answer_to s (takes s r c).node.stored a) (takes s r c)).node
own-answers s r a c some fine is me h =
    let asked = accused-asks s c.node r a some h fine is me in
    let c1 : Call = takes s r c in
    let h1 : KeepsOwnNote s c1.node = own-takes s r c (event-is_other s c.node r r.body h refl fine) h in
    let good : good_mask s.group.t (answering_mask s.group.t c1.node.stored.mask.0 a.ring.0) ≡ true =
    ap (λ k. good_mask s.group.t (answering_mask s.group.t k.mask.0 a.ring.0)) (stored-takes s r c) ∙ answering-good s.group.t c.node.stored.mask.0 a.ring.0 asked in
    own-signs_note s (answering_mask s.group.t c1.node.stored.mask.0 a.ring.0) c1 h1 (good-allowed s.group.t (answering_mask s.group.t c1.node.stored.mask.0 a.ring.0) good)

pub answer-fine : (s : Setting) (r : Record) (a : AccBody) (c : Call) → 1 ≤ s.group.t → refusal s c.node r ≡ None → r.body ≡ Accusation a → eqb a.accused s.me ≡ true → KeepsOwnNote s c.node
    → note_fault s.group.t (state_of s (takes s r c).node) (answering_note s (takes s r c).node.stored a) ≡ None
answer-fine s r a c some fine is me h =
    let asked = accused-asks s c.node r a some h fine is me in
    let c1 : Call = takes s r c in
    let h1 : KeepsOwnNote s c1.node = own-takes s r c (event-is_other s c.node r r.body h refl fine) h in
    let good : good_mask s.group.t (answering_mask s.group.t c1.node.stored.mask.0 a.ring.0) ≡ true =
    ap (λ k. good_mask s.group.t (answering_mask s.group.t k.mask.0 a.ring.0)) (stored-takes s r c) ∙ answering-good s.group.t c.node.stored.mask.0 a.ring.0 asked in
    next_own-fine s c1.node (answering_mask s.group.t c1.node.stored.mask.0 a.ring.0) h1 (good-allowed s.group.t _ good)

-- ---- calls

with_probes : (s : Setting) (n : Node) (p : History) → KeepsOwnNote s n → KeepsOwnNote s (record n { probes = p })
unfolding state_of
with_probes s n p h = record { joined = h.joined; own = h.own; allowed = h.allowed }

with_span : (s : Setting) (n : Node) → KeepsOwnNote s n → KeepsOwnNote s (record n { since = n.stored.epoch })
unfolding state_of
with_span s n h = record { joined = h.joined; own = h.own; allowed = h.allowed }

without_news : (s : Setting) (n : Node) → KeepsOwnNote s n → KeepsOwnNote s (record n { news = [] })
unfolding state_of
without_news s n h = record { joined = h.joined; own = h.own; allowed = h.allowed }

pub keeping : (s : Setting) → 1 ≤ s.group.t → Keeps s (λ c. KeepsOwnNote s c.node)
keeping s some =
    record {
      told = λ what c other h. h;
      sent = λ d c to h. own-sends s d c to h;
      taken = λ r c fine h. own-takes s r c (event-is_other s c.node r r.body h refl fine) h;
      answered = λ r a c fine is me may left h. own-answers s r a c some fine is me h;
      returned = λ r a c asks may left h. own-returns s c h;
      accused = λ a c by left h. own-accuses s a c h;
      departed = λ c left h. own-leaves s c h;
      stopped = λ c h. h;
      passed = λ c h. own-lives s Ticks c tt h;
      probed = λ p c h. with_probes s c.node p h;
      spanned = λ c h. with_span s c.node h;
      spread = λ c h. without_news s c.node h;
    }

pub own-call : (s : Setting) (n : Node) (i : Input) → 1 ≤ s.group.t → KeepsOwnNote s n → KeepsOwnNote s (call_of s n i).node
own-call s n i some h = keeps-call s (λ c. KeepsOwnNote s c.node) (keeping s some) n i h

pub own-calls : (s : Setting) (n : Node) (inputs : List Input) → 1 ≤ s.group.t → KeepsOwnNote s n → KeepsOwnNote s (after_calls s n inputs)
own-calls s n [] some h = h
own-calls s n (i ∷ inputs) some h = own-calls s (call_of s n i).node inputs some (own-call s n i some h)

-- ---- the start

pub or-second : (x y : Bool) → (x || y) ≡ true → x ≡ false → y ≡ true
or-second true y h e = cc
or-second false y h e = h

step-joins-notes : (g : Group) (st : State) (number : ℕ) (places : List (List ℕ)) → (step g st (Joins number places)).state.notes ≡ st.notes
step-joins-notes g st number places = cond_both (is_member st number) (unchanged st) (unchanged _) (λ x. x.state.notes ≡ st.notes) (λ it. refl) (λ other. refl)

joins-member : (g : Group) (st : State) (number : ℕ) (places : List (List ℕ)) → is_member (step g st (Joins number places)).state number ≡ true
joins-member g st number places =
    cond_both (is_member st number) (unchanged st) (unchanged _) (λ x. is_member x.state number ≡ true) (λ it. it) (λ other. rw (eq-eqb number number refl) refl)

abbrev takes_all : Setting → List Record → Call → Call
takes_all s records c = fold (λ c r. takes s r c) c records

no_notes : (s : Setting) (records : List Record) (c : Call) → AllByRecursion (λ r. (x : CertBody) × (r.body ≡ Certificate x)) records → (state_of s c.node).notes ≡ [] → (state_of s (takes_all s records c).node).notes ≡ []
no_notes s [] c all h = h
no_notes s (r ∷ records) c all h =
    let x : CertBody = all.0.0 in
    let at = state-takes s r c ∙ ap (λ b. (step s.group (state_of s c.node) (event_of s b)).state) all.0.1 in
    no_notes s records (takes s r c) all.1 (ap (λ st. st.notes) at ∙ step-joins-notes s.group (state_of s c.node) x.member (s.places x.member) ∙ h)

stays_member : (s : Setting) (records : List Record) (c : Call) → AllByRecursion (λ r. (x : CertBody) × (r.body ≡ Certificate x)) records → is_member (state_of s c.node) s.me ≡ true → is_member (state_of s (takes_all s records c).node) s.me ≡ true
stays_member s [] c all h = h
stays_member s (r ∷ records) c all h =
    let x : CertBody = all.0.0 in
    let at = state-takes s r c ∙ ap (λ b. (step s.group (state_of s c.node) (event_of s b)).state) all.0.1 in
    stays_member s records (takes s r c) all.1 (ap (λ st. is_member st s.me) at ∙ (step-same s.group s.me (state_of s c.node) (Joins x.member (s.places x.member)) tt).member h)

pub becomes_member : (s : Setting) (records : List Record) (c : Call) → AllByRecursion (λ r. (x : CertBody) × (r.body ≡ Certificate x)) records → list_any (λ r. is_certificate_for s.me r.body) records ≡ true → is_member (state_of s (takes_all s records c).node) s.me ≡ true
becomes_member s [] c all h = cc
becomes_member s (r ∷ records) c all h =
    let x : CertBody = all.0.0 in
    let at = state-takes s r c ∙ ap (λ b. (step s.group (state_of s c.node) (event_of s b)).state) all.0.1 in
    elim (cases_Bool (is_certificate_for s.me r.body)) [
      | inl mine ↦
          let who : x.member ≡ s.me = eqb-true _ _ (sym (ap (is_certificate_for s.me) all.0.1) ∙ mine) in
          let joined : is_member (state_of s (takes s r c).node) s.me ≡ true =
          ap (λ st. is_member st s.me) at ∙ sym (ap (is_member (step s.group (state_of s c.node) (Joins x.member (s.places x.member))).state) who) ∙ joins-member s.group (state_of s c.node) x.member (s.places x.member) in
          stays_member s records (takes s r c) all.1 joined
      | inr others ↦ becomes_member s records (takes s r c) all.1 (or-second (is_certificate_for s.me r.body) _ h others)
    ]

stored-takes_all : (s : Setting) (records : List Record) (c : Call) → (takes_all s records c).node.stored ≡ c.node.stored
stored-takes_all s [] c = refl
stored-takes_all s (r ∷ records) c = stored-takes_all s records (takes s r c) ∙ stored-takes s r c

fault-none : (t : ℕ) (joined : Bool) (newest_note : Option NoteBody) (n : NoteBody) → joined ≡ true → note_mask t n.mask.0 ≡ true → newest_note ≡ None → note_fault_by t joined newest_note n ≡ None
fault-none t joined newest_note n j g h = rw (j, g, h) refl

first-good : (t stored : ℕ) → good_mask t (all_rings t) ≡ true → good_mask t (first_mask t stored) ≡ true
first-good t stored all = cond_both (good_mask t stored) stored (all_rings t) (λ m. good_mask t m ≡ true) (λ it. it) (λ other. all)

pub own-started : (s : Setting) (nonces : ℕ → ℕ) (certificates : List Record) (stored : Stored) → good_mask s.group.t (all_rings s.group.t) ≡ true
    → AllByRecursion (λ r. (x : CertBody) × (r.body ≡ Certificate x)) certificates → list_any (λ r. is_certificate_for s.me r.body) certificates ≡ true → KeepsOwnNote s (started s nonces certificates stored).node
unfolding started state_of
own-started s nonces certificates stored all_good all mine =
    let c : Call = opened s nonces certificates stored in
    let note : NoteBody = record { member = s.me; epoch = stored.epoch + 1; mask = record { 0 = first_mask s.group.t stored.mask.0 } } in
    let st : State = state_of s c.node in
    let none : st.notes ≡ [] = no_notes s certificates (begun (blank s nonces stored)) all (blank-notes s nonces stored) in
    let joined : is_member st s.me ≡ true = becomes_member s certificates (begun (blank s nonces stored)) all mine in
    let allowed : note_mask s.group.t (first_mask s.group.t stored.mask.0) ≡ true = good-allowed s.group.t (first_mask s.group.t stored.mask.0) (first-good s.group.t stored.mask.0 all_good) in
    let fine : note_fault s.group.t st note ≡ None = fault-none s.group.t (is_member st s.me) (newest st.notes s.me) note joined allowed (ap (λ ns. newest ns s.me) none) in
    let at : state_of s (signs s (Note note) c).node ≡ (step s.group st (Notes note)).state = state-signs s (Note note) c in
    let step-is : (step s.group st (Notes note)).state ≡ (after_note st note).state = ap (λ x. x.state) (unless-none (note_fault s.group.t st note) st (after_note st note) fine) in
    let whole = at ∙ step-is in
    let one : newest (note ∷ st.notes) s.me ≡ Some note = rw (none, eq-eqb s.me s.me refl) refl in
    record {
      joined = ap (λ x. is_member x s.me) whole ∙ joined;
      own = ap (λ x. newest x.notes s.me) whole ∙ one ∙ ap (λ k. Some (stored_note s k)) (sym (stored-signs s (Note note) c));
      allowed = ap (λ k. note_mask s.group.t k.mask.0) (stored-signs s (Note note) c) ∙ allowed;
    }
  where
    blank-notes : (s : Setting) (nonces : ℕ → ℕ) (stored : Stored) → (state_of s (blank s nonces stored)).notes ≡ []
    blank-notes s nonces stored = refl
