-- Each accusation and each leaving note in a life of a world has come of a record which verifies under the key of who signed it.
use Rattle.std.proofs.Common.{◌≡◌, ◌⊎◌, ℕ, ◌<◌, ◌≤◌, Bool, true, false, eqb, cond, List, [], ◌∷◌, ◌++◌, length, filter, Option, Some, None, inl, inr, refl, ap, sym, ◌∙◌, subst, arith}
use Rattle.std.specs.Prelude.{◌&&◌, Ok, fold, is_some, option_map, option_to_list}
use Rattle.std.specs.List.{list_any, range_with_len, slice_get}
use Rattle.std.proofs.lemmas.Bool.{and_parts, cases_Bool, cond_both, eq-eqb, eqb-true, false≢true}
use Rattle.std.proofs.lemmas.Bool.Decides.{nat_tests}
use Rattle.std.proofs.lemmas.List.{append_assoc}
use Rattle.ff_ids.specs.declared.AccBody.{AccBody}
use Rattle.ff_ids.specs.declared.NoteBody.{NoteBody}
use Rattle.ff_ids.specs.declared.Fault.{Fault}
use Rattle.ff_ids.specs.Faults.{accusation_fault, note_fault}
use Rattle.ff_ids.specs.Masks.{all_rings, enabled, enables, good_mask, ring_count}
use Rattle.ff_ids.specs.Notes.{is_leaving}
use Rattle.ff_ids.specs.Steps.{Event, Accuses, Notes}
use Rattle.life_laws.proofs.Lists.{In, Contains-from_In, In-append_left, In-append_right, In-append_cases, any_from_In}
use Rattle.records.specs.declared.keys.Key.{Key}
use Rattle.records.specs.declared.Body.{Body}
use Rattle.records.specs.declared.Body.TheVariants.{Certificate, Note, Accusation}
use Rattle.records.specs.declared.Record.{Record}
use Rattle.epoch_store.specs.declared.Stored.{Stored}
use Rattle.signer.specs.Lives.{Spent}
use Rattle.datagram.specs.declared.Datagram.TheVariants as kinds
use Rattle.validate.specs.Table.{signature_fault}
use Rattle.rebuttal.specs.Rebuttals.{answering_mask}
use Rattle.rebuttal.proofs.Answering.{good_parts, none_above}
use Rattle.rebuttal.proofs.Masks.{all_rings-good, answering-good}
use Rattle.journal.specs.declared.event.Event as journal
use Rattle.node_rules.specs.Nodes as node
use Rattle.node_rules.specs.Nodes.{Node, state_of, event_of, public_key_of}
use Rattle.node_rules.specs.Refusals.{refusal, refusal_of}
use Rattle.node_rules.specs.Calls.{Call, begun, takes, signs}
use Rattle.node_rules.specs.Deliveries.{returning_note, may_rise, is_of_place, verifies_for, is_told, asked_of, asked_with, handles_all}
use Rattle.node_rules.specs.Replies.{first_mask}
use Rattle.node_rules.specs.Starting.{blank, opened, first_note, started}
use Rattle.node_rules.specs.Leaving.{leaving, leaving_note}
use Rattle.node_rules.specs.Lives.{Input, Delivers, Ticks, Leaves, AreCertificates, KeepsOwnNote}
use Rattle.node_rules.specs.Verdicts.{when_all_handled}
use Rattle.node_rules.specs.Vouching.{IsVouchedFor}
use Rattle.node_rules.proofs.Accusations.{In-filter_map}
use Rattle.node_rules.proofs.Keeping.{keeps-handles_all}
use Rattle.node_rules.proofs.OwnNote.{accused-asks, keeping, option_or-none}
use Rattle.world_rules.specs.Settings.{Setting, Signed, is_node, members, certificate, certificates, record_of, setting_of}
use Rattle.world_rules.specs.Disks.{Disk}
use Rattle.world_rules.specs.Calls.{OnDisk, called_on}
use Rattle.world_rules.specs.Worlds.{Life, Host, World, begun_world, lives_of, next_of_liar, spent_of, with_host}
use Rattle.world_rules.specs.Steps.{NodeEvent, first_call, first_life, life_over, host_after, signed_if_spent, signed_in, with_disk, with_input}
use Rattle.world_rules.specs.Laws.{IsSetting, Reached}
use Rattle.world_rules.proofs.OnDisks.{next-after}
use Rattle.world_rules.proofs.SoFar.{so_far}
use Rattle.world_rules.proofs.LineSteps.{IsFree, HasIndexLeft, Keeps, keeps-reached}
use Rattle.world_rules.proofs.Once.{Rises, Stands, at-host, one-started, stands-kept, stands-first}
use Rattle.world_laws.specs.Signing.{KeepsRoster, SignsAtTick, SignsLeaving, node_after}
use Rattle.world_laws.specs.Origins.{HasComeOf, HasLeftBy, IsAcceptedBehind, node_behind}
use Rattle.world_laws.specs.Laws.{SignaturesVerify}
use Rattle.world_laws.proofs.Handing.{In-at, hands-handles_all}
use Rattle.world_laws.proofs.Rosters.{kit-all, member-listed, roster-key}
use Rattle.world_laws.proofs.Signed.{IsGenuine, IsStatement, spent-in}
use Rattle.world_laws.proofs.Rightly.{Knows, Verifies, own-note-refused, signature-verifies}
use Rattle.world_laws.proofs.InCalls.{GoesOn, InLife, IsOfWorld, going-on, handed, knows}
use Rattle.world_laws.proofs.InWorlds.{Holds, lives_at, signs-later}
use Rattle.world_laws.proofs.Reaching.{after-current, after-lives, current-in, holds-first, holds-kept, in-last, in-life, lives-over, signs-here}
use Rattle.world_laws.proofs.Bounded.{IsWithin, bounded-called}
use Rattle.world_laws.proofs.Origins.{ComesOfInput, ComesOfOne, ComesOfRecord, IsAddedOwn, IsLeaving, NoneAnswers, all-handled, body-brought, called-in, lived-signs, lived-takes, no-note-added}

-- ---- masks

none-pass : (p : ℕ → Bool) (xs : List ℕ) → ((x : ℕ) → p x ≡ false) → length (filter p xs) ≡ 0
none-pass p [] none = refl
none-pass p (x ∷ xs) none = rw (none x) (none-pass p xs none)

-- A mask of no ring isn't good.
good-not_none : (t : ℕ) → good_mask t 0 ≡ true → ⊥
good-not_none t good =
    let none : length (enabled (ring_count t) 0) ≡ 0 = none-pass (enables 0) (range_with_len 0 (ring_count t)) (λ ring. none_above 0 0 ring (omega arith) (omega arith)) in
    absurd (omega (arith, none, (good_parts t 0 good).enough))

-- A mask that is good, or that enables a ring, is of some ring.
good-some : (t mask : ℕ) → good_mask t mask ≡ true → eqb mask 0 ≡ false
good-some t mask good =
    elim (cases_Bool (eqb mask 0)) [
      | inl none ↦ absurd (good-not_none t (sym (ap (good_mask t) (eqb-true mask 0 none)) ∙ good))
      | inr some ↦ some
    ]

enabling-some : (mask ring : ℕ) → enables mask ring ≡ true → eqb mask 0 ≡ false
enabling-some mask ring on =
    elim (cases_Bool (eqb mask 0)) [
      | inl none ↦ absurd (false≢true (sym (none_above 0 0 ring (omega arith) (omega arith)) ∙ sym (ap (λ (k : ℕ). enables k ring) (eqb-true mask 0 none)) ∙ on))
      | inr some ↦ some
    ]

-- ---- what removes, and what verifies

-- A note by which its member leaves, or an accusation.
abbrev pub IsRemoving : Body → Type 0
IsRemoving (Certificate c) = ⊥
IsRemoving (Note n) = is_leaving n ≡ true
IsRemoving (Accusation a) = Unit {0}

is-statement : (b : Body) → IsRemoving b → IsStatement b
is-statement (Certificate c) removing = removing
is-statement (Note n) removing = tt
is-statement (Accusation a) removing = tt

-- Whose signature it has: a note its member's, an accusation its accuser's.
abbrev pub author_of : Body → ℕ
author_of (Certificate c) = c.member
author_of (Note n) = n.member
author_of (Accusation a) = a.accuser

-- The author is a member.
abbrev IsListed : Setting → Body → Type 0
IsListed s b = list_any (λ k. eqb k (author_of b)) (members s) ≡ true

-- The author is a member, and the record verifies under its key.
pub record Verified (s : Setting) (b : Body) (r : Record) : Type 0 where
  pub listed : IsListed s b
  pub verifies : s.verifies (s.key (Some (author_of b))) r ≡ true

listed-of : (s : Setting) (k : ℕ) (key : Key) (listed : Bool) → option_map (λ c. c.key) (cond listed (Some (certificate s k)) None) ≡ Some key → listed ≡ true
listed-of s k key true e = refl
listed-of s k key false e = cc

-- Whose key a node has by its roster is a member.
roster-listed : (s : Setting) (n : Node) (k : ℕ) (key : Key) → KeepsRoster s n → public_key_of n k ≡ Some key → list_any (λ m. eqb m k) (members s) ≡ true
roster-listed s n k key keeps e = listed-of s k key (list_any (λ m. eqb m k) (members s)) (sym (ap (λ o. option_map (λ c. c.key) o) (keeps k)) ∙ e)

verified-by : (s : Setting) (m : ℕ) (n : Node) (r : Record) (b : Body) → KeepsRoster s n → signature_fault (setting_of s m).verifies (public_key_of n (author_of b)) r ≡ None → Verified s b r
verified-by s m n r b keeps none =
    let own : node.Setting = setting_of s m in
    let k : ℕ = author_of b in
    let v : Verifies own (public_key_of n k) r = signature-verifies own (public_key_of n k) r none in
    record {
      listed = roster-listed s n k v.key keeps v.author_is;
      verifies = sym (ap (λ key. s.verifies key r) (roster-key s n k v.key keeps v.author_is)) ∙ v.verifies;
    }

accepted-verified : (s : Setting) (m : ℕ) (n : Node) (r : Record) (b : Body) → IsRemoving b → r.body ≡ b → KeepsRoster s n → refusal (setting_of s m) n r ≡ None → Verified s b r
unfolding refusal
accepted-verified s m n r (Certificate c) removing is keeps fine = absurd removing
accepted-verified s m n r (Note note) removing is keeps fine =
    let own : node.Setting = setting_of s m in
    let rest = (option_or-none (note_fault s.group.t (state_of own n) note) _ (sym (ap (refusal_of own n r) is) ∙ fine)).1 in
    verified-by s m n r (Note note) keeps (option_or-none (signature_fault own.verifies (public_key_of n note.member) r) _ rest).0
accepted-verified s m n r (Accusation a) removing is keeps fine =
    let own : node.Setting = setting_of s m in
    verified-by s m n r (Accusation a) keeps (option_or-none (accusation_fault s.group.t (state_of own n) a) _ (sym (ap (refusal_of own n r) is) ∙ fine)).1

-- ---- where it has come from

-- It is of another member, where it is a note.
abbrev pub IsForeign : ℕ → Body → Type 0
IsForeign m (Note n) = n.member ≡ m → ⊥
IsForeign m body = Unit {0}

-- The node has accepted the record at this place of the life, and it verifies; it is no note of the node's own.
pub record WasAccepted (s : Setting) (m : ℕ) (life : Life) (place : ℕ) (b : Body) : Type 0 where
  pub witness : Record
  pub accepted : IsAcceptedBehind s m life place witness
  pub says : witness.body ≡ b
  pub verified : Verified s b witness
  pub foreign : IsForeign m b

-- The node, which is the accuser, signed it at a tick, with an index that is among what was signed.
pub record IsByItself (s : Setting) (signed : List Signed) (m : ℕ) (life : Life) (place : ℕ) (a : AccBody) : Type 0 where
  pub by : a.accuser ≡ m
  pub is : is_node s m ≡ true
  pub index : ℕ
  pub at_tick : SignsAtTick s m life place index a
  pub spent : In signed (record { who = Some m; index = index; body = Accusation a })

-- The node signed it as it was called to leave, with the next index, which is among what was signed.
pub record LeftItself (s : Setting) (signed : List Signed) (m : ℕ) (life : Life) (place : ℕ) (note : NoteBody) : Type 0 where
  pub is : is_node s m ≡ true
  pub index : ℕ
  pub leaves : SignsLeaving s m life place index note
  pub spent : In signed (record { who = Some m; index = index; body = Note note })

abbrev pub IsOwn : Setting → List Signed → ℕ → Life → ℕ → Body → Type 0
IsOwn s signed m life place (Certificate c) = ⊥
IsOwn s signed m life place (Note n) = LeftItself s signed m life place n
IsOwn s signed m life place (Accusation a) = IsByItself s signed m life place a

abbrev pub HasCome : Setting → List Signed → ℕ → Life → ℕ → Body → Type 0
HasCome s signed m life place b = WasAccepted s m life place b ⊎ IsOwn s signed m life place b

own-more : (s : Setting) (signed more : List Signed) (m : ℕ) (life : Life) (place : ℕ) (b : Body) → IsOwn s signed m life place b → IsOwn s (signed ++ more) m life place b
own-more s signed more m life place (Certificate c) own = own
own-more s signed more m life place (Note n) own =
    record { is = own.is; index = own.index; leaves = own.leaves; spent = In-append_left signed more _ own.spent }
own-more s signed more m life place (Accusation a) own =
    record { by = own.by; is = own.is; index = own.index; at_tick = own.at_tick; spent = In-append_left signed more _ own.spent }

come-more : (s : Setting) (signed more : List Signed) (m : ℕ) (life : Life) (place : ℕ) (b : Body) → HasCome s signed m life place b → HasCome s (signed ++ more) m life place b
come-more s signed more m life place b (inl h) = inl h
come-more s signed more m life place b (inr own) = inr (own-more s signed more m life place b own)

own-later : (s : Setting) (signed : List Signed) (m : ℕ) (life : Life) (i : Input) (n : Node) (place : ℕ) (b : Body) → IsOwn s signed m life place b → IsOwn s signed m (with_input life i n) place b
own-later s signed m life i n place (Certificate c) own = own
own-later s signed m life i n place (Note note) own =
    let x : SignsLeaving s m life place own.index note = own.leaves in
    record {
      is = own.is;
      index = own.index;
      leaves = record {
        before = x.before;
        behind = x.behind ++ i ∷ [];
        called = ap (λ xs. xs ++ i ∷ []) x.called ∙ append_assoc x.before (Leaves ∷ x.behind) (i ∷ []);
        at = x.at;
        is = x.is;
        spends = x.spends;
      };
      spent = own.spent;
    }
own-later s signed m life i n place (Accusation a) own =
    record {
      by = own.by;
      is = own.is;
      index = own.index;
      at_tick = signs-later s m place own.index a life (with_input life i n) (i ∷ []) refl refl own.at_tick;
      spent = own.spent;
    }

accepted-later : (s : Setting) (signed : List Signed) (m : ℕ) (life : Life) (i : Input) (n : Node) (place : ℕ) (b : Body) → HasCome s signed m life place b → HasCome s signed m (with_input life i n) place b
accepted-later s signed m life i n place b (inr own) = inr (own-later s signed m life i n place b own)
accepted-later s signed m life i n place b (inl h) =
    let x : IsAcceptedBehind s m life place h.witness = h.accepted in
    inl (record {
      witness = h.witness;
      accepted = record {
        before = x.before;
        bytes = x.bytes;
        behind = x.behind ++ i ∷ [];
        delivered = ap (λ xs. xs ++ i ∷ []) x.delivered ∙ append_assoc x.before (Delivers x.bytes ∷ x.behind) (i ∷ []);
        from = x.from;
        earlier = x.earlier;
        later = x.later;
        read = x.read;
        at = x.at;
        no_fault = x.no_fault;
      };
      says = h.says;
      verified = h.verified;
      foreign = h.foreign;
    })

-- What the node knows as the records before it have been handled.
known-behind : (s : Setting) (w : World) (m : ℕ) (n : Node) (records : List Record) → IsOfWorld s w m → ((r : Record) → In records r → IsGenuine s w r) → InLife s w m n → Knows s w m (handles_all (setting_of s m) records (begun n)).node
known-behind s w m n records of free h =
    knows s w m (handles_all (setting_of s m) records (begun n)) of
    (hands-handles_all (setting_of s m) (IsGenuine s w) (GoesOn s w m) (going-on s w m of) records (begun n) free
    (record { roster = h.roster; own = h.own; so_far = record { within = h.within; lived = h.lived; told = λ e none. absurd none } }))

foreign-accepted : (s : Setting) (w : World) (m : ℕ) (n : Node) (r : Record) (b : Body) → Knows s w m n → IsGenuine s w r → refusal (setting_of s m) n r ≡ None → r.body ≡ b → IsForeign m b
foreign-accepted s w m n r (Certificate c) k free fine is = tt
foreign-accepted s w m n r (Note note) k free fine is = λ mine. own-note-refused s w m n r note k free fine is mine
foreign-accepted s w m n r (Accusation a) k free fine is = tt

accepted-here : (s : Setting) (w : World) (m : ℕ) (life : Life) (bytes : List ℕ) (next : Node) (place : ℕ) (b : Body) → IsRemoving b → IsOfWorld s w m → IsFree s w (Delivers bytes) → InLife s w m life.node → life.node ≡ node_after s m life.found life.inputs
    → ComesOfRecord (setting_of s m) life.node bytes place (event_of (setting_of s m) b) → WasAccepted s m (with_input life (Delivers bytes) next) place b
accepted-here s w m life bytes next place b removing of free h after x =
    let own : node.Setting = setting_of s m in
    let one : ComesOfOne own (begun life.node) x.records place (event_of own b) = x.one in
    let n : Node = (handles_all own one.earlier (begun life.node)).node in
    let says : one.taken.body ≡ b = body-brought own one.taken.body b (is-statement b removing) one.says in
    let same : n ≡ node_behind s m life life.inputs one.earlier = all-handled own one.earlier (begun life.node) ∙ ap (λ k. when_all_handled own k one.earlier) after in
    let all : (r : Record) → In x.records r → IsGenuine s w r = handed s w (Delivers bytes) free x.from x.records x.read in
    let known : Knows s w m n = known-behind s w m life.node one.earlier of (λ r i. all r (subst (λ xs. In xs r) (sym one.among) (In-append_left one.earlier (one.taken ∷ one.later) r i))) h in
    let genuine : IsGenuine s w one.taken = all one.taken (subst (λ xs. In xs one.taken) (sym one.among) (In-append_right one.earlier (one.taken ∷ one.later) one.taken (inl refl))) in
    record {
      witness = one.taken;
      accepted = record {
        before = life.inputs;
        bytes = bytes;
        behind = [];
        delivered = refl;
        from = x.from;
        earlier = one.earlier;
        later = one.later;
        read = x.read ∙ ap (λ xs. Ok (kinds.Records x.from xs)) one.among;
        at = ap (λ (k : Node). length k.lived) (sym same) ∙ one.at;
        no_fault = subst (λ k. refusal own k one.taken ≡ None) same one.no_fault;
      };
      says = says;
      verified = accepted-verified s m n one.taken b removing says known.roster one.no_fault;
      foreign = foreign-accepted s w m n one.taken b known genuine one.no_fault says;
    }

own-here : (s : Setting) (signed : List Signed) (m : ℕ) (life : Life) (d : Disk) (next : Node) (place : ℕ) (a : AccBody) → is_node s m ≡ true → life.node ≡ node_after s m life.found life.inputs → life.node.stored ≡ d.state
    → let c = (called_on (setting_of s m) life.node Ticks d).call in IsAddedOwn (setting_of s m) life.node c place (Accusation a) → slice_get c.node.lived place ≡ Some (Accuses a) → IsByItself s (signed ++ signed_in m c.told) m (with_input life Ticks next) place a
own-here s signed m life d next place a is after runs x found =
    let c : Call = (called_on (setting_of s m) life.node Ticks d).call in
    record {
      by = x.by;
      is = is;
      index = x.index;
      at_tick = (signs-here s m place x.index a life Ticks d x.moment next after runs x.spent x.since found).1;
      spent = In-append_right signed (signed_in m c.told) _ (In-filter_map (λ (e : journal.Event). signed_if_spent m e.what) c.told _ (record { who = Some m; index = x.index; body = Accusation a }) x.spent refl);
    }

note-of : (x y : NoteBody) → Notes x ≡ Notes y → x ≡ y
note-of x y e = cc

note-not : (n : NoteBody) (a : AccBody) → Notes n ≡ Accuses a → ⊥
note-not n a e = cc

left-here : (s : Setting) (signed : List Signed) (m : ℕ) (life : Life) (d : Disk) (next : Node) (place : ℕ) (note : NoteBody) → is_node s m ≡ true → life.node ≡ node_after s m life.found life.inputs
    → let c = (called_on (setting_of s m) life.node Leaves d).call in IsLeaving (setting_of s m) life.node c place (Notes note) → LeftItself s (signed ++ signed_in m c.told) m (with_input life Leaves next) place note
left-here s signed m life d next place note is after x =
    let own : node.Setting = setting_of s m in
    let c : Call = (called_on own life.node Leaves d).call in
    let same : leaving_note own life.node.stored ≡ note = note-of (leaving_note own life.node.stored) note x.is in
    let all : List Signed = signed ++ signed_in m c.told in
    let spent : In all (record { who = Some m; index = life.node.stored.next; body = leaving own life.node.stored }) =
    In-append_right signed (signed_in m c.told) _ (In-filter_map (λ (e : journal.Event). signed_if_spent m e.what) c.told _ (record { who = Some m; index = life.node.stored.next; body = leaving own life.node.stored }) x.spent refl) in
    record {
      is = is;
      index = life.node.stored.next;
      leaves = record {
        before = life.inputs;
        behind = [];
        called = refl;
        at = ap (λ (k : Node). length k.lived) (sym after) ∙ sym x.at;
        is = sym same ∙ ap (λ (k : Node). leaving_note own k.stored) after;
        spends = ap (λ (k : Node). k.stored.next) after;
      };
      spent = subst (λ (y : NoteBody). In all (record { who = Some m; index = life.node.stored.next; body = Note y })) same spent;
    }

-- A node that runs in the world, over this disk.
record Runs (s : Setting) (w : World) (m : ℕ) (life : Life) (d : Disk) : Type 0 where
  of : IsOfWorld s w m
  in_life : InLife s w m life.node
  after : life.node ≡ node_after s m life.found life.inputs
  runs : life.node.stored ≡ d.state

input-here : (s : Setting) (w : World) (m : ℕ) (life : Life) (i : Input) (d : Disk) (next : Node) (place : ℕ) (b : Body) → IsRemoving b → Runs s w m life d → IsFree s w i
    → let c = (called_on (setting_of s m) life.node i d).call in ComesOfInput (setting_of s m) life.node i c place b → slice_get c.node.lived place ≡ Some (event_of (setting_of s m) b) → HasCome s (w.signed ++ signed_in m c.told) m (with_input life i next) place b
input-here s w m life (Delivers bytes) d next place b removing h free x found = inl (accepted-here s w m life bytes next place b removing h.of free h.in_life h.after x)
input-here s w m life Ticks d next place (Certificate c) removing h free x found = absurd removing
input-here s w m life Ticks d next place (Note note) removing h free x found =
    absurd (no-note-added (setting_of s m) life.node (called_on (setting_of s m) life.node Ticks d).call place note (so_far (setting_of s m) life.node Ticks d) x)
input-here s w m life Ticks d next place (Accusation a) removing h free x found = inr (own-here s w.signed m life d next place a h.of.is h.after h.runs x found)
input-here s w m life Leaves d next place (Certificate c) removing h free x found = absurd removing
input-here s w m life Leaves d next place (Note note) removing h free x found = inr (left-here s w.signed m life d next place note h.of.is h.after x)
input-here s w m life Leaves d next place (Accusation a) removing h free x found = absurd (note-not _ a x.is)

-- ---- notes that are asked

-- By it nobody leaves, where it is a note.
abbrev Stays : Option NoteBody → Type 0
Stays None = Unit {0}
Stays (Some note) = is_leaving note ≡ false

told-ring : (a b c d : Bool) → (a && b && c && d) ≡ true → c ≡ true
told-ring a b true d h = refl
told-ring true true false d h = cc
told-ring true false false d h = cc
told-ring false b false d h = cc

asked_of-stays : (s : node.Setting) (n : Node) (f : Option Fault) (a : AccBody) (r : Record) → 1 ≤ s.group.t → KeepsOwnNote s n → refusal s n r ≡ f → r.body ≡ Accusation a → eqb a.accused s.me ≡ true → Stays (asked_of s n f a r)
asked_of-stays s n None a r some own fine is me =
    good-some s.group.t (answering_mask s.group.t n.stored.mask.0 a.ring.0) (answering-good s.group.t n.stored.mask.0 a.ring.0 (accused-asks s n r a some own fine is me))
asked_of-stays s n (Some fault) a r some own fine is me =
    cond_both (is_told s n fault a r) (Some (returning_note s n.stored)) None Stays
    (λ heard. enabling-some n.stored.mask.0 a.ring.0 (told-ring (is_some s.heal) (is_of_place fault) (enables n.stored.mask.0 a.ring.0) (verifies_for s n a.accuser r) heard))
    (λ no. tt)

asked-stays : (s : node.Setting) (n : Node) (f : Option Fault) (b : Body) (r : Record) → 1 ≤ s.group.t → KeepsOwnNote s n → refusal s n r ≡ f → r.body ≡ b → Stays (asked_with s n f b r)
asked-stays s n f (Certificate c) r some own fine is = tt
asked-stays s n f (Note note) r some own fine is = tt
asked-stays s n f (Accusation a) r some own fine is =
    cond_both (eqb a.accused s.me && may_rise s.heal n) (asked_of s n f a r) None Stays
    (λ yes. asked_of-stays s n f a r some own fine is (and_parts _ _ yes).0)
    (λ no. tt)

-- No note that is asked of the node is one by which it leaves, whatever records it has handled.
none-answers : (s : Setting) (m : ℕ) (n : Node) (b : Body) → IsRemoving b → 1 ≤ s.group.t → KeepsOwnNote (setting_of s m) n → NoneAnswers (setting_of s m) (event_of (setting_of s m) b) (begun n)
none-answers s m n (Certificate c) removing some own = absurd removing
none-answers s m n (Accusation a) removing some own = λ earlier r note asked e. note-not _ a e
none-answers s m n (Note left) removing some own = λ earlier r note asked e.
    let mine : node.Setting = setting_of s m in
    let k : Node = (handles_all mine earlier (begun n)).node in
    let kept : KeepsOwnNote mine k = keeps-handles_all mine (λ c. KeepsOwnNote mine c.node) (keeping mine some) earlier (begun n) own in
    let stays : is_leaving note ≡ false = subst Stays asked (asked-stays mine k (refusal mine k r) r.body r some kept refl refl) in
    absurd (false≢true (sym stays ∙ ap is_leaving (note-of note left e) ∙ removing))

-- Behind one more call too each has come from there.
called-come : (s : Setting) (w : World) (m : ℕ) (life : Life) (i : Input) (d : Disk) (place : ℕ) (b : Body) → IsRemoving b → Runs s w m life d → IsFree s w i
    → (slice_get life.node.lived place ≡ Some (event_of (setting_of s m) b) → HasCome s w.signed m life place b)
    → let c = (called_on (setting_of s m) life.node i d).call in slice_get c.node.lived place ≡ Some (event_of (setting_of s m) b) → HasCome s (w.signed ++ signed_in m c.told) m (with_input life i c.node) place b
called-come s w m life i d place b removing h free old found =
    let own : node.Setting = setting_of s m in
    let c : Call = (called_on own life.node i d).call in
    elim (called-in own life.node i d place b (is-statement b removing) (none-answers s m life.node b removing h.of.fits.some h.in_life.own) found) [
      | inl before ↦ come-more s w.signed (signed_in m c.told) m (with_input life i c.node) place b (accepted-later s w.signed m life i c.node place b (old before))
      | inr came ↦ input-here s w m life i d c.node place b removing h free came found
    ]

-- ---- the start

-- No accusation, and no note by which its member leaves.
abbrev IsQuiet : Event → Type 0
IsQuiet (Accuses a) = ⊥
IsQuiet (Notes n) = is_leaving n ≡ false
IsQuiet event = Unit {0}

quiet-not : (own : node.Setting) (e : Event) (b : Body) → IsRemoving b → IsQuiet e → e ≡ event_of own b → ⊥
quiet-not own e (Certificate c) removing quiet is = removing
quiet-not own e (Note n) removing quiet is = false≢true (sym (subst IsQuiet is quiet) ∙ removing)
quiet-not own e (Accusation a) removing quiet is = subst IsQuiet is quiet

more : (own : node.Setting) (n next : Node) (e : Event) → next.lived ≡ n.lived ++ e ∷ [] → IsQuiet e → ((x : Event) → In n.lived x → IsQuiet x) → (x : Event) → In next.lived x → IsQuiet x
more own n next e lived new old x i =
    elim (In-append_cases n.lived (e ∷ []) x (subst (λ xs. In xs x) lived i)) [
      | inl j ↦ old x j
      | inr (inl is) ↦ subst IsQuiet is new
      | inr (inr none) ↦ absurd none
    ]

kit-quiet : (own : node.Setting) (records : List Record) (c : Call) → AreCertificates records → ((e : Event) → In c.node.lived e → IsQuiet e) → (e : Event) → In (fold (λ c r. takes own r c) c records).node.lived e → IsQuiet e
kit-quiet own [] c all h = h
kit-quiet own (r ∷ records) c all h =
    kit-quiet own records (takes own r c) all.1 (more own c.node (takes own r c).node (event_of own r.body) (lived-takes own r c) (subst (λ b. IsQuiet (event_of own b)) (sym all.0.1) tt) h)

first-good : (t stored : ℕ) → good_mask t (first_mask t stored) ≡ true
first-good t stored = cond_both (good_mask t stored) stored (all_rings t) (λ mask. good_mask t mask ≡ true) (λ good. good) (λ bad. all_rings-good t)

first-some : (t stored : ℕ) → eqb (first_mask t stored) 0 ≡ false
first-some t stored = good-some t (first_mask t stored) (first-good t stored)

started-quiet : (s : Setting) (m : ℕ) (kept : Stored) (e : Event) → In (first_call s m kept).node.lived e → IsQuiet e
unfolding started
started-quiet s m kept =
    let own : node.Setting = setting_of s m in
    let c : Call = opened own (s.nonces m kept.next) (certificates s) kept in
    more own c.node (signs own (first_note own kept) c).node (event_of own (first_note own kept)) (lived-signs own (first_note own kept) c) (first-some s.group.t kept.mask.0)
    (kit-quiet own (certificates s) (begun (blank own (s.nonces m kept.next) kept)) (kit-all s) (λ e none. absurd none))

none-first : {A : Type 0} (s : Setting) (m : ℕ) (kept : Stored) (place : ℕ) (b : Body) → IsRemoving b → slice_get (first_call s m kept).node.lived place ≡ Some (event_of (setting_of s m) b) → A
none-first s m kept place b removing found =
    let e : Event = event_of (setting_of s m) b in
    absurd (quiet-not (setting_of s m) e b removing (started-quiet s m kept e (In-at (first_call s m kept).node.lived place e found)) refl)

pub first-left : (s : Setting) (host : Host) → HasIndexLeft s host → host.disk.state.next ≤ s.indexes → host.disk.state.next < s.indexes
first-left s host left within = grind (arith, nat_tests, left, within)

first-bounded : (s : Setting) (m : ℕ) (host : Host) → HasIndexLeft s host → host.disk.state.next ≤ s.indexes → (first_call s m host.disk.state).node.stored.next ≤ s.indexes
first-bounded s m host left within =
    let kept : Stored = host.disk.state in
    let one = one-started (setting_of s m) (s.nonces m kept.next) (certificates s) kept in
    subst (λ (k : Stored). k.next ≤ s.indexes) (sym one.stored) (omega (arith, next-after kept (first_note (setting_of s m) kept), first-left s host left within))

-- ---- the world

abbrev pub AllHaveCome : Setting → List Signed → ℕ → Life → Type 0
AllHaveCome s signed m life = (place : ℕ) (b : Body) → IsRemoving b → slice_get life.node.lived place ≡ Some (event_of (setting_of s m) b) → HasCome s signed m life place b

pub record IsVerifiedAt (s : Setting) (signed : List Signed) (m : ℕ) (host : Host) : Type 0 where
  pub disk : host.disk.state.next ≤ s.indexes
  pub running : (life : Life) → host.current ≡ Some life → life.node.stored.next ≤ s.indexes
  pub lived : (life : Life) → In (lives_at host) life → AllHaveCome s signed m life

pub record AllVerified (s : Setting) (w : World) (told : List NodeEvent) : Type 0 where
  pub holds : Holds s w told
  pub hosts : (m : ℕ) → IsVerifiedAt s w.signed m (w.hosts m)

-- More was signed.
at-more : (s : Setting) (signed more : List Signed) (m : ℕ) (host : Host) → IsVerifiedAt s signed m host → IsVerifiedAt s (signed ++ more) m host
at-more s signed more m host h =
    record { disk = h.disk; running = h.running; lived = λ life i place b removing found. come-more s signed more m life place b (h.lived life i place b removing found) }

put : (s : Setting) (signed : List Signed) (m : ℕ) (host : Host) (w : World) → IsVerifiedAt s signed m host → ((k : ℕ) → IsVerifiedAt s signed k (w.hosts k)) → (k : ℕ) → IsVerifiedAt s signed k ((with_host m host w).hosts k)
put s signed m host w here others k = at-host k m host w (IsVerifiedAt s signed k) (λ e. subst (λ z. IsVerifiedAt s signed z host) e here) (λ apart. others k)

some-is : {X : Type 0} (x y : X) → Some x ≡ Some y → x ≡ y
some-is x y e = cc

none-some : {X A : Type 0} (x : X) → None ≡ Some x → A
none-some x e = cc

after-disk : (host : Host) (life : Life) (d : OnDisk) → (host_after host life d).disk ≡ d.disk
after-disk host life d = cond_both {A = Host} d.call.ended _ _ (λ x. x.disk ≡ d.disk) (λ over. refl) (λ going. refl)

called-at : (s : Setting) (w : World) (told : List NodeEvent) (m : ℕ) (i : Input) (life : Life) → IsSetting s → (w.hosts m).current ≡ Some life → IsFree s w i → AllVerified s w told
    → let d = called_on (setting_of s m) life.node i (w.hosts m).disk in IsVerifiedAt s (w.signed ++ signed_in m d.call.told) m (host_after (w.hosts m) (with_input life i d.call.node) d)
called-at s w told m i life fits running free h =
    let own : node.Setting = setting_of s m in
    let host : Host = w.hosts m in
    let d : OnDisk = called_on own life.node i host.disk in
    let made : List Signed = signed_in m d.call.told in
    let after : Life = with_input life i d.call.node in
    let at : IsVerifiedAt s w.signed m host = h.hosts m in
    let of : IsOfWorld s w m = record { fits = fits; is = (h.holds.hosts m).is life running; only = h.holds.only } in
    let bound : IsWithin own d = bounded-called own life.node i host.disk (at.running life running) at.disk in
    let runs : Runs s w m life host.disk = record { of = of; in_life = in-life s w told m life running h.holds; after = (h.holds.hosts m).after life running; runs = (h.holds.notes m of.is).runs life running } in
    let come : AllHaveCome s (w.signed ++ made) m after = λ place b removing found. called-come s w m life i host.disk place b removing runs free (at.lived life (current-in host life running) place b removing) found in
    record {
      disk = subst (λ (x : Disk). x.state.next ≤ s.indexes) (sym (after-disk host after d)) bound.disk;
      running = λ l e. subst (λ (x : Life). x.node.stored.next ≤ s.indexes) (after-current host after d l e).1 bound.node;
      lived = λ l j. elim (after-lives host after d l j) [
        | inl old ↦ (at-more s w.signed made m host at).lived l (In-append_left host.past (option_to_list host.current) l old)
        | inr is ↦ subst (AllHaveCome s (w.signed ++ made) m) is come
      ];
    }

began-at : (s : Setting) (signed : List Signed) (m : ℕ) (d : Disk) (host : Host) → HasIndexLeft s host → d.state ≡ (first_call s m host.disk.state).node.stored → IsVerifiedAt s signed m host
    → IsVerifiedAt s signed m (record { disk = d; past = host.past; current = Some (first_life host.disk.state (first_call s m host.disk.state)) })
began-at s signed m d host left same h =
    let kept : Stored = host.disk.state in
    let call : Call = first_call s m kept in
    let bound : call.node.stored.next ≤ s.indexes = first-bounded s m host left h.disk in
    let first : AllHaveCome s signed m (first_life kept call) = λ place b removing found. none-first s m kept place b removing found in
    record {
      disk = subst (λ (k : Stored). k.next ≤ s.indexes) (sym same) bound;
      running = λ l e. subst (λ (x : Life). x.node.stored.next ≤ s.indexes) (some-is _ l e) bound;
      lived = λ l j. elim (in-last host.past (first_life kept call) l j) [
        | inl old ↦ h.lived l (In-append_left host.past (option_to_list host.current) l old)
        | inr is ↦ subst (AllHaveCome s signed m) is first
      ];
    }

disk-at : (s : Setting) (signed : List Signed) (m : ℕ) (host : Host) (d : Disk) → d.state.next ≤ s.indexes → IsVerifiedAt s signed m host → IsVerifiedAt s signed m (with_disk host d)
disk-at s signed m host d bound h = record { disk = bound; running = h.running; lived = h.lived }

tried-at : (s : Setting) (signed : List Signed) (m : ℕ) (host : Host) (d : Disk) → HasIndexLeft s host → (d.state ≡ host.disk.state) ⊎ (d.state ≡ (first_call s m host.disk.state).node.stored) → IsVerifiedAt s signed m host → d.state.next ≤ s.indexes
tried-at s signed m host d left (inl same) h = subst (λ (k : Stored). k.next ≤ s.indexes) (sym same) h.disk
tried-at s signed m host d left (inr after) h = subst (λ (k : Stored). k.next ≤ s.indexes) (sym after) (first-bounded s m host left h.disk)

over-at : (s : Setting) (signed : List Signed) (m : ℕ) (host : Host) (life : Life) → host.current ≡ Some life → IsVerifiedAt s signed m host → IsVerifiedAt s signed m (life_over host (Some life))
over-at s signed m host life running h =
    record {
      disk = h.disk;
      running = λ l none. none-some {X = Life} l none;
      lived = λ l i. h.lived l (subst (λ xs. In xs l) (lives-over host life running) i);
    }

pub verified-kept : (s : Setting) → IsSetting s → Keeps s (AllVerified s)
verified-kept s fits =
    let k : Keeps s (Holds s) = holds-kept s fits in
    record {
      called = λ m i life c running free h.
          let made : List Signed = signed_in m (called_on (setting_of s m) life.node i (c.world.hosts m).disk).call.told in
          record {
            holds = k.called m i life c running free h.holds;
            hosts = put s (c.world.signed ++ made) m _ c.world (called-at s c.world c.told m i life fits running free h) (λ j. at-more s c.world.signed made j (c.world.hosts j) (h.hosts j));
          };
      began = λ m d c is idle left same h.
          let made : List Signed = signed_in m (first_call s m (c.world.hosts m).disk.state).told in
          let all : (j : ℕ) → IsVerifiedAt s (c.world.signed ++ made) j (c.world.hosts j) = λ j. at-more s c.world.signed made j (c.world.hosts j) (h.hosts j) in
          record { holds = k.began m d c is idle left same h.holds; hosts = put s (c.world.signed ++ made) m _ c.world (began-at s (c.world.signed ++ made) m d (c.world.hosts m) left same (all m)) all };
      tried = λ m d w told idle left may h.
          record { holds = k.tried m d w told idle left may h.holds; hosts = put s w.signed m _ w (disk-at s w.signed m (w.hosts m) d (tried-at s w.signed m (w.hosts m) d left may (h.hosts m)) (h.hosts m)) h.hosts };
      disked = λ m d w told same h.
          record { holds = k.disked m d w told same h.holds; hosts = put s w.signed m _ w (disk-at s w.signed m (w.hosts m) d (subst (λ (x : Stored). x.next ≤ s.indexes) (sym same) (h.hosts m).disk) (h.hosts m)) h.hosts };
      ended = λ m life w told running h. record { holds = k.ended m life w told running h.holds; hosts = put s w.signed m _ w (over-at s w.signed m (w.hosts m) life running (h.hosts m)) h.hosts };
      got = λ m moment number w told h. record { holds = k.got m moment number w told h.holds; hosts = h.hosts };
      flowed = λ number w told h. record { holds = k.flowed number w told h.holds; hosts = h.hosts };
      lied = λ key body name w told liar h.
          record { holds = k.lied key body name w told liar h.holds; hosts = λ j. at-more s w.signed (record { who = Some key; index = next_of_liar w key; body = body } ∷ []) j (w.hosts j) (h.hosts j) };
    }

pub verified-first : (s : Setting) → AllVerified s (begun_world s) []
unfolding begun_world
verified-first s =
    record {
      holds = holds-first s;
      hosts = λ m. record { disk = omega arith; running = λ l none. none-some {X = Life} l none; lived = λ l none. absurd none };
    }

pub reached-verified : (s : Setting) (w : World) (told : List NodeEvent) → IsSetting s → Reached s w told → AllVerified s w told
reached-verified s w told fits reached = keeps-reached s (AllVerified s) (verified-kept s fits) (verified-first s) w told reached

-- ---- what it says

entry-key : (s : Setting) (k : ℕ) (listed : Bool) → listed ≡ true → option_map (λ c. c.key) (cond listed (Some (certificate s k)) None) ≡ Some (s.key (Some k))
entry-key s k true e = refl
entry-key s k false e = cc

-- What the node's key has spent is below what its store keeps.
abbrev IndexesBelow : Stored → List Spent → Type 0
IndexesBelow kept spent = (x : Spent) → In spent x → x.index < kept.next

below-rises : Rises IndexesBelow
below-rises =
    record {
      first = λ kept x none. absurd none;
      push = λ kept body spent may h x i. elim (In-append_cases spent _ x i) [
        | inl old ↦ omega (arith, h x old, next-after kept body)
        | inr (inl is) ↦ omega (arith, ap (λ (y : Spent). y.index) is, next-after kept body)
        | inr (inr none) ↦ absurd none
      ];
      later = λ kept body spent may h x i. omega (arith, h x i, next-after kept body);
    }

spent-below : (s : Setting) (w : World) (told : List NodeEvent) (m : ℕ) → IsSetting s → is_node s m ≡ true → Reached s w told → IndexesBelow (w.hosts m).disk.state (spent_of w (Some m))
spent-below s w told m fits is reached = (keeps-reached s (Stands IndexesBelow m) (stands-kept IndexesBelow below-rises s m fits is) (stands-first IndexesBelow below-rises s m) w told reached).holds

vouched-by : (s : Setting) (m : ℕ) (n : Node) (b : Body) (r : Record) → KeepsRoster s n → r.body ≡ b → Verified s b r → IsVouchedFor (setting_of s m) (public_key_of n (author_of b)) b
vouched-by s m n b r keeps says v =
    let k : ℕ = author_of b in
    record {
      witness = r;
      key = s.key (Some k);
      says = says;
      author_is = ap (λ o. option_map (λ c. c.key) o) (keeps k) ∙ entry-key s k (list_any (λ x. eqb x k) (members s)) v.listed;
      verifies = v.verifies;
    }

-- It has come of this record.
abbrev pub ComesOf : Setting → World → ℕ → Life → ℕ → Body → Record → Type 0
ComesOf s w m life place (Certificate c) r = ⊥
ComesOf s w m life place (Note n) r = HasLeftBy s w m life place n r
ComesOf s w m life place (Accusation a) r = HasComeOf s w m life place a r

-- The record verifies, from which it has come.
pub record IsVouchedAt (s : Setting) (w : World) (m : ℕ) (life : Life) (place : ℕ) (b : Body) : Type 0 where
  pub verified : IsVouchedFor (setting_of s m) (public_key_of life.node (author_of b)) b
  pub came : ComesOf s w m life place b verified.witness

-- All that is known of a world.
record Known (s : Setting) (w : World) (told : List NodeEvent) : Type 0 where
  fits : IsSetting s
  verify : SignaturesVerify s
  reached : Reached s w told
  all : AllVerified s w told

-- What the node's key has spent verifies under it.
own-verified : (s : Setting) (w : World) (told : List NodeEvent) (m index : ℕ) (b : Body) → Known s w told → is_node s m ≡ true → author_of b ≡ m → In (spent_of w (Some m)) (record { index = index; body = b }) → Verified s b (record_of s (record { who = Some m; index = index; body = b }))
own-verified s w told m index b k is by spent =
    let below : index < (w.hosts m).disk.state.next = spent-below s w told m k.fits is k.reached (record { index = index; body = b }) spent in
    let left : index < s.indexes = omega (arith, below, (k.all.hosts m).disk) in
    let r : Record = record_of s (record { who = Some m; index = index; body = b }) in
    record {
      listed = any_from_In (λ x. eqb x (author_of b)) (members s) m (member-listed s m k.fits is) (eq-eqb m (author_of b) (sym by));
      verifies = subst (λ z. s.verifies (s.key (Some z)) r ≡ true) (sym by) (k.verify (Some m) index b left);
    }

own-vouched : (s : Setting) (w : World) (told : List NodeEvent) (m : ℕ) (life : Life) (place : ℕ) (a : AccBody) → Known s w told → KeepsRoster s life.node → IsByItself s w.signed m life place a → IsVouchedAt s w m life place (Accusation a)
unfolding vouched-by
own-vouched s w told m life place a k keeps own =
    let spent : In (spent_of w (Some m)) (record { index = own.index; body = Accusation a }) = spent-in w (Some m) own.index (Accusation a) (eq-eqb m m refl) own.spent in
    let r : Record = record_of s (record { who = Some m; index = own.index; body = Accusation a }) in
    record {
      verified = vouched-by s m life.node (Accusation a) r keeps refl (own-verified s w told m own.index (Accusation a) k own.is own.by spent);
      came = inr (record { by = own.by; index = own.index; at_tick = own.at_tick; spent = Contains-from_In _ _ spent; signed = refl });
    }

left-vouched : (s : Setting) (w : World) (told : List NodeEvent) (m : ℕ) (life : Life) (place : ℕ) (note : NoteBody) → Known s w told → KeepsRoster s life.node → LeftItself s w.signed m life place note → IsVouchedAt s w m life place (Note note)
unfolding vouched-by
left-vouched s w told m life place note k keeps own =
    let spent : In (spent_of w (Some m)) (record { index = own.index; body = Note note }) = spent-in w (Some m) own.index (Note note) (eq-eqb m m refl) own.spent in
    let r : Record = record_of s (record { who = Some m; index = own.index; body = Note note }) in
    record {
      verified = vouched-by s m life.node (Note note) r keeps refl (own-verified s w told m own.index (Note note) k own.is (ap (λ (y : NoteBody). y.member) own.leaves.is) spent);
      came = inr (record { index = own.index; leaves = own.leaves; spent = Contains-from_In _ _ spent; signed = refl });
    }

come-vouched : (s : Setting) (w : World) (told : List NodeEvent) (m : ℕ) (life : Life) (place : ℕ) (b : Body) → IsRemoving b → Known s w told → KeepsRoster s life.node → HasCome s w.signed m life place b → IsVouchedAt s w m life place b
unfolding vouched-by
come-vouched s w told m life place (Certificate c) removing k keeps x = absurd removing
come-vouched s w told m life place (Note n) removing k keeps (inl x) = record { verified = vouched-by s m life.node (Note n) x.witness keeps x.says x.verified; came = inl x.accepted }
come-vouched s w told m life place (Note n) removing k keeps (inr own) = left-vouched s w told m life place n k keeps own
come-vouched s w told m life place (Accusation a) removing k keeps (inl x) = record { verified = vouched-by s m life.node (Accusation a) x.witness keeps x.says x.verified; came = inl x.accepted }
come-vouched s w told m life place (Accusation a) removing k keeps (inr own) = own-vouched s w told m life place a k keeps own

-- The record from which an accusation or a leaving note in a life has come verifies under the key of the certificate of who signed it.
pub vouched : (s : Setting) (w : World) (told : List NodeEvent) (m : ℕ) (life : Life) (place : ℕ) (b : Body) → IsRemoving b → IsSetting s → SignaturesVerify s → Reached s w told → In (lives_of w m) life → slice_get life.node.lived place ≡ Some (event_of (setting_of s m) b)
    → IsVouchedAt s w m life place b
vouched s w told m life place b removing fits verify reached i found =
    let all : AllVerified s w told = reached-verified s w told fits reached in
    come-vouched s w told m life place b removing (record { fits = fits; verify = verify; reached = reached; all = all }) ((all.holds.hosts m).rosters life i) ((all.hosts m).lived life i place b removing found)
