-- A member that was removed comes back.
use Rattle.std.proofs.Common.{◌≡◌, ◌⊎◌, ℕ, ◌+◌, ◌≤◌, ◌<◌, Bool, true, false, cond, not, eqb, inl, inr, List, [], ◌∷◌, ◌++◌, Option, Some, None, refl, ap, sym, ◌∙◌, subst, arith, eq-eqb, map, filter}
use Rattle.std.specs.Prelude.{nat_le, is_some, option_map, ◌&&◌, filter_map}
use Rattle.std.specs.Option.{option_or, option_map_or}
use Rattle.std.specs.Ordering.{eq_by_cmp, nat_cmp, is_lt}
use Rattle.std.specs.Cmp.{nat_cmp_is}
use Rattle.std.specs.declared.cmp.Ordering.TheVariants.{Greater}
use Rattle.std.proofs.lemmas.Bool.{cond_both, eqb-true, false≢true, and_parts, and_from, false_from_ne_true}
use Rattle.std.proofs.lemmas.List.Elements.{filter_map-append}
use Rattle.std.proofs.lemmas.Bool.Decides.{nat_tests}
use Rattle.ff_ids.specs.declared.AccBody.{AccBody}
use Rattle.ff_ids.specs.declared.NoteBody.{NoteBody}
use Rattle.ff_ids.specs.declared.Group.{Group}
use Rattle.ff_ids.specs.declared.Fault.{Fault}
use Rattle.ff_ids.specs.declared.Fault.TheVariants as faults
use Rattle.ff_ids.specs.declared.summary.RecordKey.{RecordKey}
use Rattle.ff_ids.specs.declared.summary.RecordKey.TheVariants as keys
use Rattle.ff_ids.specs.declared.summary.Summary.{Summary}
use Rattle.ff_ids.specs.Masks.{ring_count, enables}
use Rattle.ff_ids.specs.Notes.{newest, note_cmp}
use Rattle.ff_ids.specs.Views.{State, in_view, in_view_by, viewed_by, is_member, is_number, has_expired, is_unanswered_by, stands}
use Rattle.ff_ids.specs.Faults.{Facts, facts_of, note_fault, accusation_fault, accusation_fault_by}
use Rattle.ff_ids.specs.Steps.{Event, Joins, Notes, Accuses, Ticks, Stepped, joined, is_due, after_note, after_accusation, unchanged, unless_fault, step}
use Rattle.ff_ids.specs.Lives.{opening, after}
use Rattle.ff_ids.proofs.ViewLemmas.{in_view_by-fresh}
use Rattle.life_laws.proofs.Lists.{In, In-from_filter, In-from_map, In-append_cases, some_passes}
use Rattle.life_laws.proofs.ViewLemmas.{AllJoined, IsStanding, IsStanding-from, not_below-epoch}
use Rattle.life_laws.proofs.StepLemmas.{AllStand, steps}
use Rattle.records.specs.declared.keys.Key.{Key}
use Rattle.records.specs.declared.CertBody.{CertBody}
use Rattle.records.specs.declared.Body.{Body}
use Rattle.records.specs.declared.Body.TheVariants.{Note}
use Rattle.records.specs.declared.Record.{Record}
use Rattle.record_set.specs.Held.{key_cmp, key_of}
use Rattle.record_set.proofs.KeyLemmas.{is_key-same}
use Rattle.signer.specs.Signing.{stored_after}
use Rattle.datagram.specs.declared.Datagram.TheVariants as kinds
use Rattle.datagram.specs.Spelling.{IsDatagram}
use Rattle.datagram.proofs.Readings.{read_again}
use Rattle.validate.specs.Table.{signature_fault}
use Rattle.journal.specs.declared.event.What.TheVariants as told
use Rattle.gossip.specs.Differ.{differ}
use Rattle.node_rules.specs.Nodes.{Setting, Node, Holding, state_of, event_of, neighbours, certificate_of, public_key_of, without_removal}
use Rattle.node_rules.specs.Pages.{page}
use Rattle.node_rules.specs.Refusals.{refusal, refusal_of}
use Rattle.node_rules.specs.Calls.{Call, begun, tells, lives, takes, signs, signs_and_sends, wants, is_used_up, own_record}
use Rattle.node_rules.specs.Deliveries.{asked_with, asked_of, gives_note, settles, judged, handles, hears, is_of_place, is_told, answering_note, returning_note, may_rise, delivered}
use Rattle.node_rules.specs.Verdicts.{when_handled}
use Rattle.node_rules.specs.Answering.{asked_by, to_each, answer_sent}
use Rattle.node_rules.specs.Lives.{KeepsOwnNote, stored_note, Input, Delivers}
use Rattle.node_rules.specs.OneExchange.{Life, node_after, IsCorrect, IsKnownAmong, all_lacking}
use Rattle.node_rules.specs.ComingBack.{IsTold, ComesBack, IsNext, HasBack}
use Rattle.node_rules.proofs.Small.{state-takes, stored-signs, stored-settles, node-sends_to_all}
use Rattle.node_rules.proofs.OwnNote.{option_or-none, own-call}
use Rattle.node_rules.proofs.Growth.{known-more}
use Rattle.node_rules.proofs.Correctness.{all-life}
use Rattle.node_rules.proofs.Accusers.{holds-life}
use Rattle.node_rules.proofs.Handling.{sent-delivered, nil-right}
use Rattle.node_rules.proofs.OneExchange.{calls-append}

-- ---- what a member lacks

pub told-last : (n : Node) (m : ℕ) (theirs : Summary) (r : Record) → n.held (keys.Removal m) ≡ Some r
    → all_lacking n m theirs ≡ filter_map n.held (differ (page n theirs.page).listed theirs.listed) ++ r ∷ []
told-last n m theirs r is =
    let k : RecordKey = keys.Removal m in
    let listed : List RecordKey = differ (page n theirs.page).listed theirs.listed in
    filter_map-append n.held listed (k ∷ []) ∙ ap (λ rs. filter_map n.held listed ++ rs) (one n.held k r is)
  where
    one : (held : Holding) (k : RecordKey) (r : Record) → held k ≡ Some r → filter_map held (k ∷ []) ≡ r ∷ []
    one held k r is = rw is refl

-- ---- the fault of what the node is told

-- There is none, or it is one of place.
abbrev IsPlace : Option Fault → Type 0
IsPlace o = (o ≡ None) ⊎ ((f : Fault) × ((o ≡ Some f) × (is_of_place f ≡ true)))

by-view : (viewed monitored : Bool) (m : Option ℕ)
    → IsPlace (option_or (cond (not viewed) (Some faults.NotInView) (cond (not monitored) (Some (faults.NotMonitor m)) (cond false (Some faults.Standing) None))) None)
by-view false monitored m = inr (faults.NotInView, (refl, refl))
by-view true false m = inr (faults.NotMonitor m, (refl, refl))
by-view true true m = inl refl

by-facts : (t : ℕ) (f : Facts) (a : AccBody) (n : NoteBody) (rest : Option Fault) → f.both_joined ≡ true → eqb a.accuser a.accused ≡ false
    → nat_le (ring_count t) a.ring.0 ≡ false → f.newest_note ≡ Some n → eqb n.epoch a.epoch ≡ true → enables n.mask.0 a.ring.0 ≡ true
    → f.is_standing ≡ false → rest ≡ None → IsPlace (option_or (accusation_fault_by t f a) rest)
by-facts t f a n rest both other ring here epoch on free fine =
    rw (both, other, ring, here, epoch, on, free, fine) (by-view f.viewed (is_number f.ring_monitor a.accuser) f.ring_monitor)

signed-fine : (verifies : Key → Record → Bool) (key : Option Key) (r : Record) → option_map_or (λ k. verifies k r) key false ≡ true
    → signature_fault verifies key r ≡ None
signed-fine verifies None r h = absurd (false≢true h)
signed-fine verifies (Some key) r h = rw h refl

has-certificate : (verifies : Key → Record → Bool) (c : Option CertBody) (r : Record)
    → option_map_or (λ k. verifies k r) (option_map (λ x. x.key) c) false ≡ true → is_some c ≡ true
has-certificate verifies None r h = absurd (false≢true h)
has-certificate verifies (Some c) r h = refl

not-below : (rings ring : ℕ) → ring < rings → nat_le rings ring ≡ false
not-below rings ring h = grind (arith, nat_tests, h)

told-place : (s : Setting) (n : Node) (r : Record) (a : AccBody) → KeepsOwnNote s n → is_member (state_of s n) a.accuser ≡ true
    → IsTold s n r a → IsPlace (refusal s n r)
unfolding refusal
told-place s n r a own member h =
    let st : State = state_of s n in
    let both : (is_member st a.accuser && is_member st a.accused) ≡ true = and_from _ _ member (ap (is_member st) h.of_node ∙ own.joined) in
    let other : eqb a.accuser a.accused ≡ false = ap (eqb a.accuser) h.of_node ∙ h.by_other in
    let here : newest st.notes a.accused ≡ Some (stored_note s n.stored) = ap (newest st.notes) h.of_node ∙ own.own in
    subst (λ b. IsPlace (refusal_of s n r b)) (sym h.says)
    (by-facts s.group.t (facts_of st a) a (stored_note s n.stored) (signature_fault s.verifies (public_key_of n a.accuser) r) both other
    (not-below (ring_count s.group.t) a.ring.0 h.on_ring) here (eq-eqb n.stored.epoch a.epoch (sym h.epoch)) h.enabled h.not_kept
    (signed-fine s.verifies (public_key_of n a.accuser) r h.verifies))

-- ---- the note that is asked

-- It is the node's of the next epoch.
pub record AsksNext (s : Setting) (n : Node) (asked : Option NoteBody) : Type 0 where
  pub note : NoteBody
  pub is : asked ≡ Some note
  pub mine : note.member ≡ s.me
  pub next : note.epoch ≡ n.stored.epoch + 1

is-told : (s : Setting) (n : Node) (r : Record) (a : AccBody) (f : Fault) → IsTold s n r a → is_of_place f ≡ true → is_told s n f a r ≡ true
is-told s n r a f h place = rw (h.option, place, h.enabled, h.verifies) refl

asked-of : (s : Setting) (n : Node) (r : Record) (a : AccBody) (o : Option Fault) → IsTold s n r a → IsPlace o → AsksNext s n (asked_of s n o a r)
asked-of s n r a None h p = record { note = answering_note s n.stored a; is = refl; mine = refl; next = refl }
asked-of s n r a (Some f) h (inl e) = absurd (some-none f e)
  where
    some-none : (f : Fault) → Some f ≡ None → ⊥
    some-none f e = cc
asked-of s n r a (Some f) h (inr p) =
    let place : is_of_place f ≡ true = ap is_of_place (same f p.0 p.1.0) ∙ p.1.1 in
    record {
      note = returning_note s n.stored;
      is = ap (λ b. cond b (Some (returning_note s n.stored)) None) (is-told s n r a f h place);
      mine = refl;
      next = refl;
    }
  where
    same : (f g : Fault) → Some f ≡ Some g → f ≡ g
    same f g e = cc

asks-next : (s : Setting) (n : Node) (r : Record) (a : AccBody) → KeepsOwnNote s n → is_member (state_of s n) a.accuser ≡ true → IsTold s n r a
    → AsksNext s n (asked_by s n r)
asks-next s n r a own member h =
    let o : Option Fault = refusal s n r in
    let may : (eqb a.accused s.me && may_rise s.heal n) ≡ true = and_from _ _ (eq-eqb a.accused s.me h.of_node) h.may in
    let is : asked_by s n r ≡ asked_of s n o a r =
    ap (λ b. asked_with s n o b r) h.says ∙ ap (λ b. cond b (asked_of s n o a r) None) may in
    subst (AsksNext s n) (sym is) (asked-of s n r a o h (told-place s n r a own member h))

-- ---- what the node does

stored-wants : (s : Setting) (body : Body) (c : Call) → is_used_up s c.node ≡ false
    → (wants true s body (neighbours s) c).node.stored ≡ stored_after c.node.stored body
unfolding wants signs_and_sends
stored-wants s body c left =
    rw left (ap (λ (n : Node). n.stored) (node-sends_to_all s (neighbours s (state_of s (signs s body c).node)) (kinds.Records s.me (own_record s c.node body ∷ [])) (signs s body c))
    ∙ stored-signs s body c)

stored-handled : (s : Setting) (n : Node) (r : Record) (note : NoteBody) → asked_by s n r ≡ Some note → is_used_up s n ≡ false
    → (when_handled s n r).stored ≡ stored_after n.stored (Note note)
unfolding handles
stored-handled s n r note asked left =
    let c : Call = settles s (refusal s n r) r (begun n) in
    let same : c.node.stored ≡ n.stored = stored-settles s (refusal s n r) r (begun n) in
    ap (λ o. (gives_note true s o c).node.stored) asked
    ∙ stored-wants s (Note note) c (ap (λ k. eqb k.next s.indexes) same ∙ left)
    ∙ ap (λ k. stored_after k (Note note)) same

delivered-one : (s : Setting) (n : Node) (bytes : List ℕ) (from : ℕ) (r : Record) → IsDatagram bytes (kinds.Records from (r ∷ []))
    → delivered s n bytes ≡ handles true s (begun n) r
unfolding delivered
delivered-one s n bytes from r is = ap (λ d. hears s d (begun n)) (read_again bytes (kinds.Records from (r ∷ [])) is)

pub comes-back : (l : Life) (inputs : List Input) (from : ℕ) (r : Record) (a : AccBody) (bytes : List ℕ) → IsCorrect l
    → IsDatagram bytes (kinds.Records from (r ∷ [])) → IsTold l.setting (node_after l inputs) r a
    → ComesBack l.setting (node_after l inputs) (delivered l.setting (node_after l inputs) bytes)
comes-back l inputs from r a bytes correct is h =
    let s : Setting = l.setting in
    let n : Node = node_after l inputs in
    let own : KeepsOwnNote s n = (all-life l inputs correct).own_note in
    let member : is_member (state_of s n) a.accuser ≡ true =
    sym ((holds-life l inputs correct).members a.accuser) ∙ has-certificate s.verifies (certificate_of n a.accuser) r h.verifies in
    let asked : AsksNext s n (asked_by s n r) = asks-next s n r a own member h in
    let note : NoteBody = asked.note in
    let node : (delivered s n bytes).node ≡ when_handled s n r = ap (λ (c : Call). c.node) (delivered-one s n bytes from r is) in
    let later : KeepsOwnNote s (delivered s n bytes).node = own-call s n (Delivers bytes) correct.rings.some own in
    let stored : (delivered s n bytes).node.stored ≡ stored_after n.stored (Note note) =
    ap (λ (x : Node). x.stored) node ∙ stored-handled s n r note asked.is h.left in
    record {
      note = note;
      next = asked.next;
      is_newest = later.own ∙ ap (λ k. Some (stored_note s k)) stored ∙ ap (λ m. Some (record { member = m; epoch = note.epoch; mask = note.mask })) (sym asked.mine);
      sent = sent-delivered s n bytes from (r ∷ []) (read_again bytes (kinds.Records from (r ∷ [])) is)
          ∙ nil-right _ ∙ goes-out s n (when_handled s n r) (asked_by s n r) note asked.is h.left
          ∙ ap (λ (x : Node). to_each (neighbours s (state_of s x)) (kinds.Records s.me (own_record s n (Note note) ∷ []))) (sym node);
    }
  where
    goes-out : (s : Setting) (n later : Node) (o : Option NoteBody) (note : NoteBody) → o ≡ Some note → is_used_up s n ≡ false
        → answer_sent s n later o ≡ to_each (neighbours s (state_of s later)) (kinds.Records s.me (own_record s n (Note note) ∷ []))
    goes-out s n later o note is left = rw (is, left) refl

-- ---- what expired is of no epoch beyond the newest

-- Its accused has a newest note, of its epoch at least.
abbrev Reached : List NoteBody → AccBody → Type 0
Reached notes a = (n : NoteBody) × ((newest notes a.accused ≡ Some n) × (a.epoch ≤ n.epoch))

abbrev HasReached : State → Type 0
HasReached st = (a : AccBody) → In st.expired a → Reached st.notes a

still-reached : (a : AccBody) (xs ys : List NoteBody) → IsKnownAmong a.accused xs ys → Reached xs a → Reached ys a
still-reached a xs ys known h =
    let k = known h.0 h.1.0 in
    (k.kept, (k.is_newest, omega (arith, h.1.1, not_below-epoch k.kept h.0 k.not_less)))

not-less : (x y : ℕ) → eqb x y ≡ true → y ≤ x
not-less x y e = grind (arith, nat_tests, e)

unanswered-reached : (a : AccBody) (notes : List NoteBody) (o : Option NoteBody) → newest notes a.accused ≡ o
    → option_map_or (is_unanswered_by a) o false ≡ true → Reached notes a
unanswered-reached a notes None e h = absurd (false≢true h)
unanswered-reached a notes (Some n) e h = (n, (e, not-less n.epoch a.epoch (and_parts _ _ h).0))

reached-step : (g : Group) (st : State) (e : Event) → AllStand st → HasReached st → HasReached (step g st e).state
reached-step g st (Joins number places) stand h =
    cond_both (is_member st number) (unchanged st) (unchanged (joined st number places)) (λ x. HasReached x.state) (λ old. h) (λ new. h)
reached-step g st (Notes n) stand h = by-fault (note_fault g.t st n)
  where
    by-fault : (f : Option Fault) → HasReached (unless_fault f st (after_note st n)).state
    by-fault (Some f) = h
    by-fault None = λ a i. still-reached a st.notes (n ∷ st.notes) (known-more a.accused n st.notes) (h a i)
reached-step g st (Accuses b) stand h = by-fault (accusation_fault g.t st b)
  where
    by-fault : (f : Option Fault) → HasReached (unless_fault f st (unchanged (after_accusation st b))).state
    by-fault (Some f) = h
    by-fault None = h
reached-step g st Ticks stand h = λ a i.
    let late : AccBody × ℕ → Bool = is_due g.timeout (st.moment + 1) in
    elim (In-append_cases (map (λ (p : AccBody × ℕ). p.0) (filter late st.kept)) st.expired a i) [
      | inl due ↦
          let q = In-from_map (λ (p : AccBody × ℕ). p.0) (filter late st.kept) a due in
          let stood : stands st q.0.0 ≡ true = stand q.0 (In-from_filter late st.kept q.0 q.1.0).0 in
          let standing : IsStanding st a = IsStanding-from st a (subst (λ (x : AccBody). stands st x ≡ true) q.1.1 stood) in
          unanswered-reached a st.notes (newest st.notes a.accused) refl standing.unanswered
      | inr before ↦ h a before
    ]

reached-after : (g : Group) (events : List Event) (st : State) → AllJoined st → AllStand st → HasReached st → HasReached (after g st events)
reached-after g [] st known stand h = h
reached-after g (e ∷ events) st known stand h =
    let next = steps g st e known stand in
    reached-after g events (step g st e).state next.all_joined (λ q i. (next.kept q i).0) (reached-step g st e stand h)

reached : (s : Setting) (n : Node) → HasReached (state_of s n)
unfolding state_of
reached s n = reached-after s.group n.lived (opening []) (λ x i. absurd i) (λ q i. absurd i) (λ a i. absurd i)

-- So nothing expired rules a note out that is greater than the newest.
none-expired : (st : State) (note kept : NoteBody) → HasReached st → newest st.notes note.member ≡ Some kept → kept.epoch < note.epoch
    → has_expired st.expired note ≡ false
none-expired st note kept h is greater =
    false_from_ne_true _ (λ gone.
    let x = some_passes (λ a. (eqb a.accused note.member) && nat_le note.epoch a.epoch) st.expired gone in
    let tests = and_parts _ _ x.1.1 in
    let r = h x.0 x.1.0 in
    let same : Some r.0 ≡ Some kept = sym r.1.0 ∙ ap (newest st.notes) (eqb-true _ _ tests.0) ∙ is in
    too-great r.0 kept x.0.epoch note.epoch (some-is r.0 kept same) r.1.1 tests.1 greater)
  where
    some-is : (x y : NoteBody) → Some x ≡ Some y → x ≡ y
    some-is x y e = cc

    too-great : (x y : NoteBody) (accused noted : ℕ) → x ≡ y → accused ≤ x.epoch → nat_le noted accused ≡ true → y.epoch < noted → ⊥
    too-great x y accused noted same below above greater =
        let here : x.epoch ≡ y.epoch = ap (λ (z : NoteBody). z.epoch) same in
        let over : noted ≤ accused = grind (arith, nat_tests, above) in
        absurd (omega (arith, here, below, over, greater))

-- ---- the note of a member that comes back

is-greater : (note kept : NoteBody) → kept.epoch < note.epoch → is_lt (note_cmp note kept) ≡ false
is-greater note kept h =
    let cmp : nat_cmp note.epoch kept.epoch ≡ Greater = sym (nat_cmp_is note.epoch kept.epoch Greater h) in
    rw cmp refl

then-newest : (notes : List NoteBody) (note kept : NoteBody) → newest notes note.member ≡ Some kept → kept.epoch < note.epoch
    → newest (note ∷ notes) note.member ≡ Some note
then-newest notes note kept is h = rw (eq-eqb note.member note.member refl, is, is-greater note kept h) refl

state-noted : (g : Group) (st : State) (note : NoteBody) → note_fault g.t st note ≡ None → step g st (Notes note) ≡ after_note st note
state-noted g st note fine = ap (λ f. unless_fault f st (after_note st note)) fine

noted : (s : Setting) (c : Call) (r : Record) (note : NoteBody) → refusal s c.node r ≡ None → r.body ≡ Note note
    → handles true s c r ≡ takes s r (tells s (told.Took r.body None) c)
unfolding handles
noted s c r note fine says =
    ap (λ o. judged true s o r c) fine
    ∙ ap (λ b. gives_note true s (asked_with s c.node None b r) (takes s r (tells s (told.Took r.body None) c))) says

-- The removal that is held of it ends.
ended : (s : Setting) (r : Record) (note : NoteBody) (c : Call) → r.body ≡ Note note → (takes s r c).node.held (keys.Removal note.member) ≡ None
unfolding takes
ended s r note c says =
    let held : Holding = (lives s (event_of s r.body) c).node.held in
    let k = keys.Removal note.member in
    ap (λ b. cond (eq_by_cmp key_cmp k (key_of b)) (Some r) (without_removal b held k)) says ∙ ap (λ b. cond b None (held k)) (is_key-same k)

pub brings-back : (l : Life) (inputs : List Input) (from : ℕ) (r : Record) (note : NoteBody) (bytes : List ℕ) → IsCorrect l
    → IsDatagram bytes (kinds.Records from (r ∷ [])) → IsNext l inputs r note
    → HasBack l.setting (node_after l (inputs ++ Delivers bytes ∷ [])) note.member
unfolding refusal
brings-back l inputs from r note bytes correct is h =
    let s : Setting = l.setting in
    let n : Node = node_after l inputs in
    let st : State = state_of s n in
    let c : Call = tells s (told.Took r.body None) (begun n) in
    let call : delivered s n bytes ≡ takes s r c = delivered-one s n bytes from r is ∙ noted s (begun n) r note h.accepted h.says in
    let last : node_after l (inputs ++ Delivers bytes ∷ []) ≡ (delivered s n bytes).node = calls-append s (node_after l []) inputs (Delivers bytes ∷ []) in
    let node : node_after l (inputs ++ Delivers bytes ∷ []) ≡ (takes s r c).node = last ∙ ap (λ (x : Call). x.node) call in
    let fine : note_fault s.group.t st note ≡ None = (option_or-none _ _ (sym (ap (refusal_of s n r) h.says) ∙ h.accepted)).0 in
    let state : state_of s (takes s r c).node ≡ (after_note st note).state =
    state-takes s r c ∙ ap (λ b. (step s.group st (event_of s b)).state) h.says ∙ ap (λ (x : Stepped). x.state) (state-noted s.group st note fine) in
    let newer : newest (note ∷ st.notes) note.member ≡ Some note = then-newest st.notes note h.kept h.was_newest h.greater in
    let viewed : in_view (after_note st note).state note.member ≡ true =
    ap (viewed_by st.expired) newer ∙ ap (in_view_by note) (none-expired st note h.kept (reached s n) h.was_newest h.greater) ∙ in_view_by-fresh note h.stays in
    record {
      viewed = ap (λ (x : Node). in_view (state_of s x) note.member) node ∙ ap (λ (x : State). in_view x note.member) state ∙ viewed;
      ended = ap (λ (x : Node). x.held (keys.Removal note.member)) node ∙ ended s r note c h.says;
    }
