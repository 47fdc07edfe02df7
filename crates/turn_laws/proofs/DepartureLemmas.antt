-- What a call reports of removals, and what each has for its cause.
use Rattle.std.proofs.Common.{◌≡◌, ◌≢◌, ℕ, ◌≤◌, ◌<◌, Bool, true, false, cond, eqb, List, [], ◌∷◌, ◌++◌, length, take, Option, Some, None, inl, inr, refl, ap, sym, ◌∙◌, subst, append_assoc, arith}
use Rattle.std.specs.Prelude.{Result, Ok, Err, Contains}
use Rattle.std.specs.List.{slice_get}
use Rattle.std.proofs.lemmas.Bool.{eq-eqb, false≢true}
use Rattle.std.proofs.lemmas.Bool.Decides.{nat_tests}
use Rattle.ff_ids.specs.declared.AccBody.{AccBody}
use Rattle.ff_ids.specs.declared.Fault.{Fault}
use Rattle.ff_ids.specs.declared.Group.{Group}
use Rattle.ff_ids.specs.declared.NoteBody.{NoteBody}
use Rattle.ff_ids.specs.Faults.{note_fault}
use Rattle.ff_ids.specs.Lives.{after, opening, IsRemovedAt}
use Rattle.ff_ids.specs.Notes.{is_leaving}
use Rattle.ff_ids.specs.Steps.{Event, Notes, Accuses, after_note, step, unless_fault}
use Rattle.ff_ids.specs.Views.{State}
use Rattle.life_laws.proofs.Lists.{In, Contains-from_In, In-from_filter}
use Rattle.records.specs.declared.keys.Key.{Key}
use Rattle.records.specs.declared.Body.{Body}
use Rattle.records.specs.declared.Body.TheVariants.{Certificate, Note, Accusation}
use Rattle.records.specs.declared.Record.{Record}
use Rattle.datagram.specs.declared.Datagram.{Datagram}
use Rattle.datagram.specs.declared.Datagram.TheVariants as kinds
use Rattle.datagram.specs.Grammar.{read_of}
use Rattle.journal.specs.declared.event.Event as journal
use Rattle.journal.specs.declared.event.What.TheVariants as told
use Rattle.rebuttal.proofs.Masks.{answering-good}
use Rattle.trace.proofs.UprightLemmas.{left-by}
use Rattle.node_rules.specs.Nodes.{Setting, Node, event_of, public_key_of, state_of}
use Rattle.node_rules.specs.Refusals.{refusal}
use Rattle.node_rules.specs.Calls.{Call, begun, is_used_up}
use Rattle.node_rules.specs.Deliveries.{answering_note, delivered, handles, handles_all}
use Rattle.node_rules.specs.Leaving.{leaving, leaving_note, left}
use Rattle.node_rules.specs.OnDisks.{IsCut, called}
use Rattle.node_rules.specs.Lives.{Input, Delivers, Ticks, Leaves, KeepsOwnNote, call_of}
use Rattle.node_rules.specs.Verdicts.{all_at, is_apart, records_in, told_that, when_all_handled, when_handled}
use Rattle.node_rules.proofs.Called.{ComesSoFar, called-so_far, delivered_until, left_until, split-at}
use Rattle.node_rules.proofs.Handling.{moment-handles, node-all, node-handles}
use Rattle.node_rules.proofs.Keeping.{keeps-handles, keeps-handles_all}
use Rattle.node_rules.proofs.Leaving.{leaving-tells}
use Rattle.node_rules.proofs.OwnKey.{KeepsKey}
use Rattle.node_rules.proofs.OwnNote.{accused-asks, keeping, note-is_other, own-call}
use Rattle.node_rules.proofs.Telling.{call-tells, delivered_until-tells, left_until-tells}
use Rattle.turn_rules.specs.Turns.{Act, Calls}
use Rattle.turn_rules.specs.Courses.{node_behind}
use Rattle.node_rules.specs.Claims.{ClaimedVerify}
use Rattle.turn_rules.specs.Departures.{Departs, AtTick, ByNote, ByItself, LeavesByNote, LeavesItself}
use Rattle.turn_laws.proofs.OriginLemmas.{key-kept, node-kept}
use Rattle.turn_laws.proofs.RemovalLemmas.{IsFound, IsGrown, IsRemoving, Suits, TicksTell, back-stays, event-not, found, good-stays, grown-handles, grown-heard, grown-left, grown-left_until, grown-same, removal, removal-by, removed-last, removes, reported, same-note, ticked-told, ticked_until-told, ticks-away, told-removed}
use Rattle.turn_laws.proofs.ReplyLemmas.{IsAmong, TakesNow, accepts, nil-right, takes-among}

-- ## The note of a member that leaves

-- The event is the note of a record among these, which was accepted at the end of this life, and by which the member leaves.
record IsOfLeaver (s : Setting) (n : Node) (records : List Record) (m : ℕ) (life : List Event) (x : Event) : Type 0 where
  note : NoteBody
  is : x ≡ Notes note
  of_member : note.member ≡ m
  leaving : is_leaving note ≡ true
  other : m ≢ s.me
  among : IsAmong s n records (Note note)
  here : (when_all_handled s n among.earlier).lived ≡ life

-- What removes the member is such a note.
abbrev Leavers : Setting → Node → List Record → ℕ → List Event → Event → Type 0
Leavers s n records m life x = IsRemoving m x → IsOfLeaver s n records m life x

notes-body : (s : Setting) (b : Body) (note : NoteBody) → event_of s b ≡ Notes note → b ≡ Note note
notes-body s (Certificate c) note e = cc
notes-body s (Note n) note e = ap (λ (x : NoteBody). Note x) (same-note n note e)
notes-body s (Accusation a) note e = cc

-- The answer to an accusation enables a ring.
leaver-suits : (s : Setting) (n : Node) (all done : List Record) (r : Record) (rest : List Record) (m : ℕ) → all ≡ done ++ r ∷ rest → 1 ≤ s.group.t → KeepsOwnNote s (when_all_handled s n done) → Suits (Leavers s n all m) s (when_all_handled s n done) r
leaver-suits s n all done r rest m split some own = record { taken = taken; answered = answered; returned = λ a asks x. absurd (back-stays s (when_all_handled s n done) r a asks m x) }
  where
    here : Node
    here = when_all_handled s n done

    taken : refusal s here r ≡ None → IsRemoving m (event_of s r.body) → IsOfLeaver s n all m here.lived (event_of s r.body)
    taken fine (inl tick) = absurd (event-not s r.body tick)
    taken fine (inr x) = record {
      note = x.note;
      is = x.is;
      of_member = x.of_member;
      leaving = x.leaving;
      other = λ e. false≢true (sym (note-is_other s here r x.note own (notes-body s r.body x.note x.is) fine) ∙ eq-eqb x.note.member s.me (x.of_member ∙ e));
      among = record { earlier = done; taken = r; later = rest; split = split; says = notes-body s r.body x.note x.is; no_fault = fine };
      here = refl;
    }

    answered : (a : AccBody) → refusal s here r ≡ None → r.body ≡ Accusation a → eqb a.accused s.me ≡ true → IsRemoving m (Notes (answering_note s here.stored a))
        → IsOfLeaver s n all m (here.lived ++ event_of s r.body ∷ []) (Notes (answering_note s here.stored a))
    answered a fine is me x = absurd (good-stays s.group.t (answering_note s here.stored a) (answering-good s.group.t here.stored.mask.0 a.ring.0 (accused-asks s here r a some own fine is me)) m x)

handled-next : (s : Setting) (done : List Record) (n : Node) (r : Record) → when_all_handled s n (done ++ r ∷ []) ≡ when_handled s (when_all_handled s n done) r
handled-next s [] n r = refl
handled-next s (x ∷ done) n r = handled-next s done (when_handled s n x) r

-- the next record, in the node as those before it have left it
leavers-next : (works : Bool) (s : Setting) (n : Node) (all done : List Record) (r : Record) (rest : List Record) (m : ℕ) (c : Call) → all ≡ done ++ r ∷ rest → c.node ≡ when_all_handled s n done → 1 ≤ s.group.t → KeepsOwnNote s c.node
    → IsGrown (Leavers s n all m) n.lived c.node → IsGrown (Leavers s n all m) n.lived (handles works s c r).node
leavers-next works s n all done r rest m c split at some own h =
    grown-handles (Leavers s n all m) works s n.lived c r
    (subst (λ (x : Node). Suits (Leavers s n all m) s x r) (sym at) (leaver-suits s n all done r rest m split some (subst (KeepsOwnNote s) at own))) h

leavers-all : (s : Setting) (n : Node) (all records done rest : List Record) (m : ℕ) (c : Call) → all ≡ done ++ (records ++ rest) → c.node ≡ when_all_handled s n done → 1 ≤ s.group.t → KeepsOwnNote s c.node → IsGrown (Leavers s n all m) n.lived c.node
    → IsGrown (Leavers s n all m) n.lived (handles_all s records c).node
leavers-all s n all [] done rest m c split at some own h = h
leavers-all s n all (r ∷ records) done rest m c split at some own h =
    let c1 : Call = handles true s c r in
    leavers-all s n all records (done ++ r ∷ []) rest m c1 (split ∙ sym (append_assoc done (r ∷ []) (records ++ rest)))
    (node-handles true s c r ∙ ap (λ (x : Node). when_handled s x r) at ∙ sym (handled-next s done n r)) some (keeps-handles s (λ (x : Call). KeepsOwnNote s x.node) (keeping s some) true c r own)
    (leavers-next true s n all done r (records ++ rest) m c split at some own h)

leavers-delivered : (s : Setting) (n : Node) (bytes : List ℕ) (m : ℕ) → 1 ≤ s.group.t → KeepsOwnNote s n → IsGrown (Leavers s n (records_in (read_of bytes)) m) n.lived (delivered s n bytes).node
leavers-delivered s n bytes m some own =
    let all : List Record = records_in (read_of bytes) in
    let Q = Leavers s n all m in
    grown-heard Q s n bytes (read_of bytes) refl
    (λ from records is. leavers-all s n all records [] [] m (begun n) (ap records_in is ∙ sym (nil-right records)) refl some own (grown-same Q n.lived n refl))

-- of a delivery in which the disk fails
leavers-until : (s : Setting) (n : Node) (front : List Record) (r : Record) (m : ℕ) → 1 ≤ s.group.t → KeepsOwnNote s n → IsGrown (Leavers s n (front ++ r ∷ []) m) n.lived (delivered_until s n front r).node
unfolding delivered_until
leavers-until s n front r m some own =
    let all : List Record = front ++ r ∷ [] in
    leavers-next false s n all front r [] m (handles_all s front (begun n)) refl (node-all s front (begun n)) some (keeps-handles_all s (λ (x : Call). KeepsOwnNote s x.node) (keeping s some) front (begun n) own)
    (leavers-all s n all front [] (r ∷ []) m (begun n) refl refl some own (grown-same (Leavers s n all m) n.lived n refl))

-- ## A delivery that removes

-- The call is a delivery, which accepts the note by which the member leaves; that removes it, at this moment.
record LeavesNow (s : Setting) (n : Node) (i : Input) (at m : ℕ) : Type 0 where
  note : NoteBody
  of_member : note.member ≡ m
  leaving : is_leaving note ≡ true
  other : m ≢ s.me
  takes : TakesNow s n i at (Note note)
  removed : IsRemovedAt s.group (opening []) ((when_all_handled s n takes.earlier).lived ++ Notes note ∷ []) (length (when_all_handled s n takes.earlier).lived) m

-- a note leaves the moment
note-moment : (g : Group) (st : State) (note : NoteBody) → (step g st (Notes note)).state.moment ≡ st.moment
note-moment g st note = by (note_fault g.t st note)
  where
    by : (f : Option Fault) → (unless_fault f st (after_note st note)).state.moment ≡ st.moment
    by (Some fault) = refl
    by None = refl

records-moment : (s : Setting) (records : List Record) (n : Node) → (state_of s (when_all_handled s n records)).moment ≡ (state_of s n).moment
records-moment s [] n = refl
records-moment s (r ∷ records) n = records-moment s records (when_handled s n r) ∙ moment-handles true s (begun n) r

-- The note removes the member at the end of this life.
record NoteRemoves (s : Setting) (life : List Event) (note : NoteBody) (at m : ℕ) : Type 0 where
  removed : IsRemovedAt s.group (opening []) (life ++ Notes note ∷ []) (length life) m
  brings : (after s.group (opening []) life).moment ≡ at

note-removes : (s : Setting) (life : List Event) (note : NoteBody) (at m : ℕ) → In (reported s.group (after s.group (opening []) life) (Notes note)) (removal at m) → NoteRemoves s life note at m
note-removes s life note at m i =
    let st = after s.group (opening []) life in
    let r = told-removed _ _ at m i in
    record { removed = removed-last s.group life (Notes note) m (left-by s.group st (Notes note) m r.removed); brings = sym (note-moment s.group st note) ∙ r.brings }

same-moment : (s : Setting) (n : Node) (earlier : List Record) (at : ℕ) → (after s.group (opening []) (when_all_handled s n earlier).lived).moment ≡ at → (state_of s n).moment ≡ at
unfolding state_of
same-moment s n earlier at is = sym (records-moment s earlier n) ∙ is

leaves-now : (s : Setting) (n : Node) (bytes : List ℕ) (from : ℕ) (records more : List Record) (at m : ℕ) → read_of bytes ≡ Ok (kinds.Records from (records ++ more)) → IsFound (Leavers s n records m) (IsRemoving m) s (removal at m) → LeavesNow s n (Delivers bytes) at m
unfolding takes-among
leaves-now s n bytes from records more at m read x =
    let l = x.fits x.kind in
    let said = subst (λ (y : Event). In (reported s.group (after s.group (opening []) x.life) y) (removal at m)) l.is x.told in
    let r = note-removes s (when_all_handled s n l.among.earlier).lived l.note at m
    (subst (λ (life : List Event). In (reported s.group (after s.group (opening []) life) (Notes l.note)) (removal at m)) (sym l.here) said) in
    record {
      note = l.note;
      of_member = l.of_member;
      leaving = l.leaving;
      other = l.other;
      takes = takes-among s n bytes from records more at (Note l.note) read (same-moment s n l.among.earlier at r.brings) l.among;
      removed = r.removed;
    }

none-among : {A : Type 0} (s : Setting) (n : Node) (body : Body) → IsAmong s n [] body → A
none-among s n body x = absurd (empty-not x.earlier x.taken x.later x.split)
  where
    empty-not : (xs : List Record) (y : Record) (ys : List Record) → [] ≡ xs ++ y ∷ ys → ⊥
    empty-not [] y ys e = cc
    empty-not (x ∷ xs) y ys e = cc

heard-leaves : (s : Setting) (n : Node) (bytes : List ℕ) (came : Result Datagram ℕ) (at m : ℕ) → read_of bytes ≡ came → IsFound (Leavers s n (records_in came) m) (IsRemoving m) s (removal at m) → LeavesNow s n (Delivers bytes) at m
heard-leaves s n bytes (Err place) at m read x = none-among s n _ (x.fits x.kind).among
heard-leaves s n bytes (Ok (kinds.Ping from nonce)) at m read x = none-among s n _ (x.fits x.kind).among
heard-leaves s n bytes (Ok (kinds.Pong from nonce)) at m read x = none-among s n _ (x.fits x.kind).among
heard-leaves s n bytes (Ok (kinds.Summary from flag theirs)) at m read x = none-among s n _ (x.fits x.kind).among
heard-leaves s n bytes (Ok (kinds.Records from records)) at m read x = leaves-now s n bytes from records [] at m (read ∙ ap (λ (rs : List Record). Ok (kinds.Records from rs)) (sym (nil-right records))) x

by-note : (s : Setting) (start : Node) (acts before behind : List Act) (i : Input) (at m : ℕ) → acts ≡ before ++ Calls i ∷ behind → LeavesNow s (node_behind s start before) i at m → LeavesByNote s start acts at m
unfolding accepts
by-note s start acts before behind i at m split x = record { note = x.note; of_member = x.of_member; leaving = x.leaving; other = x.other; accepts = accepts s start acts before behind i at (Note x.note) split x.takes; removed = x.removed }

-- ## A node that leaves

-- At the end of this life the event is the note by which the node leaves, for which its key has an index.
abbrev IsOwn : Setting → Node → List Event → Event → Type 0
IsOwn s n life x = (life ≡ n.lived) × ((x ≡ Notes (leaving_note s n.stored)) × (is_used_up s n ≡ false))

own-member : (s : Setting) (n : Node) (m : ℕ) (x : Event) → x ≡ Notes (leaving_note s n.stored) → IsRemoving m x → m ≡ s.me
own-member s n m x is (inl tick) = absurd (event-not s (leaving s n.stored) (sym is ∙ tick))
own-member s n m x is (inr note) = sym note.of_member ∙ ap (λ (y : NoteBody). y.member) (same-note note.note (leaving_note s n.stored) (sym note.is ∙ is))

leaving-spent : (s : Setting) (n : Node) → is_used_up s n ≡ false → told_that is_apart (left s n) ≡ all_at (state_of s n).moment (told.Spent n.stored.next (leaving s n.stored) ∷ [])
leaving-spent s n index =
    leaving-tells s n ∙ ap (λ b. all_at (state_of s n).moment ((cond b (told.Exhausted n.stored.next) (told.Spent n.stored.next (leaving s n.stored))) ∷ [])) index

spent-among : (s : Setting) (n : Node) (at : ℕ) → is_used_up s n ≡ false → (state_of s n).moment ≡ at → Contains (left s n).told (record { moment = at; what = told.Spent n.stored.next (leaving s n.stored) })
spent-among s n at index same =
    let e : journal.Event = record { moment = at; what = told.Spent n.stored.next (leaving s n.stored) } in
    let among : In (told_that is_apart (left s n)) e =
    subst (λ (es : List journal.Event). In es e) (sym (leaving-spent s n index)) (inl (ap (λ (k : ℕ). let made : journal.Event = record { moment = k; what = told.Spent n.stored.next (leaving s n.stored) } in made) same)) in
    Contains-from_In (left s n).told e (In-from_filter (λ (x : journal.Event). is_apart x.what) (left s n).told e among).0

index-left : (s : Setting) (n : Node) → is_used_up s n ≡ false → n.stored.next ≤ s.indexes → n.stored.next < s.indexes
index-left s n left within = grind (arith, nat_tests, left, within)

own-moment : (s : Setting) (n : Node) (at : ℕ) → (after s.group (opening []) n.lived).moment ≡ at → (state_of s n).moment ≡ at
unfolding state_of
own-moment s n at is = is

itself : (claimed : ℕ → Body → Bool) (s : Setting) (own : Key) (start : Node) (acts before behind : List Act) (at m : ℕ) → ClaimedVerify claimed s own → KeepsKey s own (node_behind s start before) → acts ≡ before ++ Calls Leaves ∷ behind
    → In (left s (node_behind s start before)).told (removal at m) → LeavesItself claimed s start acts at m
itself claimed s own start acts before behind at m sign v split i =
    let n = node_behind s start before in
    let x = found (IsOwn s n) (IsRemoving m) s n (left s n) (removal at m) (removal-by at m) (call-tells s n Leaves) (grown-left (IsOwn s n) s n (λ index. (refl, (refl, index)))) i in
    let said = subst (λ (y : Event). In (reported s.group (after s.group (opening []) x.life) y) (removal at m)) x.fits.1.0 x.told in
    let r = note-removes s n.lived (leaving_note s n.stored) at m (subst (λ (life : List Event). In (reported s.group (after s.group (opening []) life) (Notes (leaving_note s n.stored))) (removal at m)) x.fits.0 said) in
    let same = own-moment s n at r.brings in
    let me = own-member s n m x.event x.fits.1.0 x.kind in
    record {
      before = before;
      behind = behind;
      called = split;
      at = same;
      own = me;
      index = n.stored.next;
      spent = spent-among s n at x.fits.1.1 same;
      verified = λ shown. record { key = own; author_is = ap (public_key_of n) me ∙ v.own_key; verifies = sign n.stored.next (leaving s n.stored) shown (index-left s n x.fits.1.1 v.within) };
      removed = r.removed;
    }

-- ## A removal of a course

-- What a life begins with, so that each of its removals has its cause.
pub record IsRooted (claimed : ℕ → Body → Bool) (s : Setting) (own : Key) (start : Node) : Type 0 where
  pub some : 1 ≤ s.group.t
  pub sign : ClaimedVerify claimed s own
  pub vouched : KeepsKey s own start
  pub unaccused : (place : ℕ) (a : AccBody) → slice_get start.lived place ≡ Some (Accuses a) → ⊥
  pub kept : KeepsOwnNote s start

accuses-stay : (m : ℕ) (a : AccBody) → IsRemoving m (Accuses a) → ⊥
accuses-stay m a (inl tick) = absurd cc
accuses-stay m a (inr note) = apart note.note note.is
  where
    apart : (n : NoteBody) → Accuses a ≡ Notes n → ⊥
    apart n e = cc

own-behind : (claimed : ℕ → Body → Bool) (s : Setting) (own : Key) (start : Node) (acts : List Act) → IsRooted claimed s own start → KeepsOwnNote s (node_behind s start acts)
own-behind claimed s own start acts f = node-kept s (KeepsOwnNote s) (λ n i h. own-call s n i f.some h) acts start f.kept

-- at a tick
away : (claimed : ℕ → Body → Bool) (s : Setting) (own : Key) (start : Node) (acts done later : List Act) (at m : ℕ) → IsRooted claimed s own start → acts ≡ done ++ Calls Ticks ∷ later → TicksTell s (node_behind s start done) (removal at m) → Departs claimed s start acts at m
away claimed s own start acts done later at m f split told = AtTick (removes claimed s own start acts done later at m f.sign f.vouched f.unaccused split (ticks-away s (node_behind s start done) at m told))

pub called-departs : (claimed : ℕ → Body → Bool) (s : Setting) (own : Key) (start : Node) (acts done later : List Act) (i : Input) (at m : ℕ) → IsRooted claimed s own start → acts ≡ done ++ Calls i ∷ later → In (call_of s (node_behind s start done) i).told (removal at m) → Departs claimed s start acts at m
called-departs claimed s own start acts done later (Delivers bytes) at m f split among =
    let n = node_behind s start done in
    let Q = Leavers s n (records_in (read_of bytes)) m in
    let x = found Q (IsRemoving m) s n (delivered s n bytes) (removal at m) (removal-by at m) (call-tells s n (Delivers bytes)) (leavers-delivered s n bytes m f.some (own-behind claimed s own start done f)) among in
    ByNote (by-note s start acts done later (Delivers bytes) at m split (heard-leaves s n bytes (read_of bytes) at m refl x))
called-departs claimed s own start acts done later Leaves at m f split among = ByItself (itself claimed s own start acts done later at m f.sign (key-kept s own done start f.vouched) split among)
called-departs claimed s own start acts done later Ticks at m f split among = away claimed s own start acts done later at m f split (ticked-told (IsRemoving m) s (node_behind s start done) (removal at m) (removal-by at m) (accuses-stay m) among)

abbrev IsNone : List Event → Event → Type 0
IsNone life x = ⊥

-- the same of a call in which the disk fails
pub cut-departs : (claimed : ℕ → Body → Bool) (s : Setting) (own : Key) (start : Node) (acts done later : List Act) (i : Input) (c : Call) (at m : ℕ) → IsRooted claimed s own start → acts ≡ done ++ Calls i ∷ later → IsCut s (node_behind s start done) i c → In c.told (removal at m)
    → Departs claimed s start acts at m
cut-departs claimed s own start acts done later i c at m f split cut among = by i split (called s n i (Some cut.put)) (called-so_far s n i (Some cut.put)) (subst (λ (x : Call). In x.told (removal at m)) cut.is among)
  where
    n : Node
    n = node_behind s start done

    e : journal.Event
    e = removal at m

    by : (i : Input) → acts ≡ done ++ Calls i ∷ later → (c : Call) → ComesSoFar s n i c → In c.told e → Departs claimed s start acts at m
    by (Delivers bytes) split c (inl whole) j = called-departs claimed s own start acts done later (Delivers bytes) at m f split (subst (λ (x : Call). In x.told e) whole.is j)
    by (Delivers bytes) split c (inr h) j =
        let front : List Record = take h.place h.records in
        let rest = split-at h.records h.place h.at h.found in
        let read = h.read ∙ ap (λ (rs : List Record). Ok (kinds.Records h.from rs)) (rest.1 ∙ sym (append_assoc front (h.at ∷ []) rest.0)) in
        let Q = Leavers s n (front ++ h.at ∷ []) m in
        let x = found Q (IsRemoving m) s n (delivered_until s n front h.at) e (removal-by at m) (delivered_until-tells s n front h.at) (leavers-until s n front h.at m f.some (own-behind claimed s own start done f)) (subst (λ (x : Call). In x.told e) h.is j) in
        ByNote (by-note s start acts done later (Delivers bytes) at m split (leaves-now s n bytes h.from (front ++ h.at ∷ []) rest.0 at m read x))
    by Ticks split c (inl whole) j = called-departs claimed s own start acts done later Ticks at m f split (subst (λ (x : Call). In x.told e) whole.is j)
    by Ticks split c (inr h) j = away claimed s own start acts done later at m f split (ticked_until-told (IsRemoving m) s n _ _ e (removal-by at m) (accuses-stay m) (subst (λ (x : Call). In x.told e) h.is j))
    by Leaves split c (inl whole) j = called-departs claimed s own start acts done later Leaves at m f split (subst (λ (x : Call). In x.told e) whole.is j)
    by Leaves split c (inr h) j =
        let x = found IsNone (IsRemoving m) s n (left_until s n) e (removal-by at m) (left_until-tells s n) (grown-left_until IsNone s n) (subst (λ (x : Call). In x.told e) h.is j) in absurd x.fits
