-- What is held was gathered, and nothing else is sent.
use Rattle.std.proofs.Common.{◌≡◌, ℕ, ◌-◌, Bool, true, false, cond, List, [], ◌∷◌, ◌++◌, Option, Some, None, length, map, inl, inr, ◌⊎◌, refl, ap, sym, ◌∙◌, subst}
use Rattle.std.specs.Prelude.{Result, Ok, Err, is_some, nat_le, filter_map, fold}
use Rattle.std.specs.List.{Contains}
use Rattle.std.specs.Ordering.{eq_by_cmp}
use Rattle.std.proofs.lemmas.Bool.{cond_both, cases_Bool}
use Rattle.std.proofs.lemmas.List.Elements.{filter_map-append}
use Rattle.ff_ids.specs.declared.AccBody.{AccBody}
use Rattle.ff_ids.specs.declared.NoteBody.{NoteBody}
use Rattle.ff_ids.specs.declared.Fault.{Fault}
use Rattle.ff_ids.specs.declared.summary.RecordKey.{RecordKey}
use Rattle.ff_ids.specs.declared.summary.RecordKey.TheVariants as keys
use Rattle.ff_ids.specs.declared.summary.Summary.{Summary}
use Rattle.ff_ids.specs.Heals.{Heal}
use Rattle.ff_ids.specs.Views.{State}
use Rattle.ff_ids.specs.Steps.{Event, Ticks as Passes, Report, step}
use Rattle.life_laws.proofs.Lists.{In, Contains-from_In, All-from_In, In-append_left, In-append_right, In-append_cases}
use Rattle.records.specs.declared.Body.{Body}
use Rattle.records.specs.declared.Body.TheVariants.{Certificate, Note, Accusation}
use Rattle.records.specs.declared.Record.{Record}
use Rattle.records.specs.Spelling.{record_bytes}
use Rattle.epoch_store.specs.declared.Stored.{Stored}
use Rattle.record_set.specs.Held.{key_cmp, key_of}
use Rattle.datagram.specs.declared.Datagram.{Datagram}
use Rattle.datagram.specs.declared.Datagram.TheVariants as kinds
use Rattle.datagram.specs.Spelling.{datagram_bytes}
use Rattle.datagram.specs.Grammar.{read_of}
use Rattle.detector.specs.Silence.{counts}
use Rattle.journal.specs.declared.event.Event as journal
use Rattle.journal.specs.declared.event.What as whats
use Rattle.journal.specs.declared.event.What.TheVariants as told
use Rattle.node_rules.specs.Nodes.{Setting, Node, Holding, state_of, event_of, without, without_removal, key_of_accusation, retired, moved, retires, neighbours, neighbours_and}
use Rattle.node_rules.specs.Pages.{page, partner, page_number, room, wanted, lacking, fitting}
use Rattle.node_rules.specs.Refusals.{refusal}
use Rattle.node_rules.specs.Calls.{Call, begun, tells, lives, takes, spends, signs, signs_and_sends, wants, stops, sends, sends_to_all, is_used_up, own_record}
use Rattle.node_rules.specs.Deliveries.{asked_with, gives_note, settles, judged, handles, handles_all, is_other, gives, replies, exchanges, pinged, ponged_by, hears, delivered}
use Rattle.node_rules.specs.Ticking.{accusation_on, ring_for, has_accused, wants_accusation, accuses, accuses_all, fresh, spreads_all, spreads, is_due, silent_in, pings_in, pings_all, summary_to, round_of, passed, probed_at, spread_at, due_tick, ticked}
use Rattle.node_rules.specs.Starting.{blank, opened, started, first_note}
use Rattle.node_rules.specs.Leaving.{leaving, leaves, left}
use Rattle.node_rules.specs.Lives.{Input, Delivers, Ticks, call_of, after_calls, Leaves}
use Rattle.node_rules.specs.Verdicts.{records_in, when_handled}
use Rattle.node_rules.specs.Known.{made_by, signed_in, accepted_of, accepted_in, gathered, records_of, IsOfKnown, SendsKnown}
use Rattle.node_rules.proofs.Called.{delivered_until, ticked_until, left_until}
use Rattle.node_rules.proofs.Accusations.{In-from_filter_map}
use Rattle.node_rules.proofs.Handling.{nil-right, node-handles}

-- ---- what a call has signed grows

-- Among these, or signed in the call.
abbrev pub IsIn : List Record → Setting → Call → Record → Type 0
IsIn xs s c r = In xs r ⊎ In (signed_in s c) r

-- What the one has signed the other has.
pub record Grown (s : Setting) (c d : Call) : Type 0 where
  pub signed : (r : Record) → In (signed_in s c) r → In (signed_in s d) r

signed-more : (s : Setting) (before news : List journal.Event) (r : Record) → In (filter_map (λ (e : journal.Event). made_by s e.what) before) r → In (filter_map (λ (e : journal.Event). made_by s e.what) (before ++ news)) r
signed-more s before news r i = subst (λ xs. In xs r) (sym (filter_map-append (λ (e : journal.Event). made_by s e.what) before news)) (In-append_left _ _ r i)

signed-last : (s : Setting) (before news : List journal.Event) (r : Record) → In (filter_map (λ (e : journal.Event). made_by s e.what) news) r → In (filter_map (λ (e : journal.Event). made_by s e.what) (before ++ news)) r
signed-last s before news r i = subst (λ xs. In xs r) (sym (filter_map-append (λ (e : journal.Event). made_by s e.what) before news)) (In-append_right _ _ r i)

pub grown-tells : (s : Setting) (what : whats.What) (c : Call) → Grown s c (tells s what c)
grown-tells s what c = record { signed = λ r i. signed-more s c.told _ r i }

pub grown-lives : (s : Setting) (e : Event) (c : Call) → Grown s c (lives s e c)
unfolding lives
grown-lives s e c = record { signed = λ r i. signed-more s c.told _ r i }

pub grown-takes : (s : Setting) (r : Record) (c : Call) → Grown s c (takes s r c)
unfolding takes
grown-takes s r c = record { signed = (grown-lives s (event_of s r.body) c).signed }

pub grown-sends : (s : Setting) (d : Datagram) (c : Call) (to : ℕ) → Grown s c (sends s d c to)
unfolding sends
grown-sends s d c to = record { signed = λ r i. signed-more s c.told _ r i }

pub in-more : (s : Setting) (c d : Call) (xs : List Record) (r : Record) → Grown s c d → IsIn xs s c r → IsIn xs s d r
in-more s c d xs r g h = elim h [ inl i ↦ inl i | inr i ↦ inr (g.signed r i) ]

-- ---- a call that holds and sends known records alone

-- The bytes are a datagram's whose records are known, or signed in the call.
pub record Fits (s : Setting) (known : List Record) (c : Call) (bytes : List ℕ) : Type 0 where
  pub datagram : Datagram
  pub spelled : bytes ≡ datagram_bytes datagram
  pub each : (r : Record) → In (records_of datagram) r → IsIn known s c r

-- What the call's node holds is among the second, and what the call has sent is of the first; or it is signed in it.
pub record Knows (s : Setting) (known base : List Record) (c : Call) : Type 0 where
  pub held : (k : RecordKey) (r : Record) → c.node.held k ≡ Some r → IsIn base s c r
  pub sent : (d : ℕ × List ℕ) → In c.sent d → Fits s known c d.1

fits-more : (s : Setting) (known : List Record) (c d : Call) (bytes : List ℕ) → Grown s c d → Fits s known c bytes → Fits s known d bytes
fits-more s known c d bytes g f = record { datagram = f.datagram; spelled = f.spelled; each = λ r i. in-more s c d known r g (f.each r i) }

knows-tells : (s : Setting) (known base : List Record) (what : whats.What) (c : Call) → Knows s known base c → Knows s known base (tells s what c)
knows-tells s known base what c h =
    let g = grown-tells s what c in
    record { held = λ k r e. in-more s c (tells s what c) base r g (h.held k r e); sent = λ d i. fits-more s known c (tells s what c) d.1 g (h.sent d i) }

-- the same reported, sent and held
knows-same : (s : Setting) (known base : List Record) (c d : Call) → ((k : RecordKey) → d.node.held k ≡ c.node.held k) → d.sent ≡ c.sent → d.told ≡ c.told → Knows s known base c → Knows s known base d
knows-same s known base c d held sent told h =
    let signed : signed_in s c ≡ signed_in s d = ap (filter_map (λ (e : journal.Event). made_by s e.what)) (sym told) in
    let g : Grown s c d = record { signed = λ r i. subst (λ xs. In xs r) signed i } in
    record {
      held = λ k r e. in-more s c d base r g (h.held k r (sym (held k) ∙ e));
      sent = λ x i. fits-more s known c d x.1 g (h.sent x (subst (λ xs. In xs x) sent i));
    }

-- Under some key the record is held.
abbrev pub IsHeld : Node → Record → Type 0
IsHeld n r = (k : RecordKey) × (n.held k ≡ Some r)

unless : (b : Bool) (o : Option Record) (x : Record) → cond b None o ≡ Some x → o ≡ Some x
unless true o x h = cc
unless false o x h = h

-- nothing that ends is held again
without-some : (gone : List AccBody) (held : Holding) (k : RecordKey) (r : Record) → fold without held (map key_of_accusation gone) k ≡ Some r → held k ≡ Some r
without-some [] held k r e = e
without-some (a ∷ gone) held k r e = unless (eq_by_cmp key_cmp k (key_of_accusation a)) (held k) r (without-some gone (without held (key_of_accusation a)) k r e)

-- what is held as that by which a member was removed was held as an accusation
retired-some : (held : Holding) (a : AccBody) (k : RecordKey) (r : Record) → retired held a k ≡ Some r → (before : RecordKey) × (held before ≡ Some r)
retired-some held a k r e =
    let pick : Bool → Option Record = λ b. cond b (held (key_of_accusation a)) (held k) in
    elim (cases_Bool (eq_by_cmp key_cmp k (keys.Removal a.accused))) [
      | inl here ↦ (key_of_accusation a, sym (ap pick here) ∙ e)
      | inr apart ↦ (k, sym (ap pick apart) ∙ e)
    ]

moved-some : (gone : List AccBody) (held : Holding) (k : RecordKey) (r : Record) → fold moved held gone k ≡ Some r → (before : RecordKey) × (held before ≡ Some r)
moved-some [] held k r e = (k, e)
moved-some (a ∷ gone) held k r e =
    let h = moved-some gone (moved held a) k r e in
    retired-some held a h.0 r (unless (eq_by_cmp key_cmp h.0 (key_of_accusation a)) (retired held a h.0) r h.1)

retires-some : (heal : Option Heal) (rep : Report) (held : Holding) (k : RecordKey) (r : Record) → retires heal rep held k ≡ Some r → (before : RecordKey) × (held before ≡ Some r)
retires-some None rep held k r e = (k, e)
retires-some (Some heal) rep held k r e = moved-some rep.expired held k r e

pub held-lives : (s : Setting) (e : Event) (c : Call) (k : RecordKey) (r : Record) → (lives s e c).node.held k ≡ Some r → IsHeld c.node r
unfolding lives
held-lives s e c k r h =
    let rep : Report = (step s.group (state_of s c.node) e).report in
    retires-some s.heal rep c.node.held k r (without-some (rep.expired ++ rep.fell) (retires s.heal rep c.node.held) k r h)

sent-lives : (s : Setting) (e : Event) (c : Call) → (lives s e c).sent ≡ c.sent
unfolding lives
sent-lives s e c = refl

knows-lives : (s : Setting) (known base : List Record) (e : Event) (c : Call) → Knows s known base c → Knows s known base (lives s e c)
knows-lives s known base e c h =
    let g = grown-lives s e c in
    record {
      held = λ k r is. let before = held-lives s e c k r is in in-more s c (lives s e c) base r g (h.held before.0 r before.1);
      sent = λ d i. fits-more s known c (lives s e c) d.1 g (h.sent d (subst (λ xs. In xs d) (sent-lives s e c) i));
    }

removal-some : (b : Body) (held : Holding) (k : RecordKey) (r : Record) → without_removal b held k ≡ Some r → held k ≡ Some r
removal-some (Certificate x) held k r e = e
removal-some (Note n) held k r e = unless (eq_by_cmp key_cmp k (keys.Removal n.member)) (held k) r e
removal-some (Accusation a) held k r e = e

pub held-takes : (s : Setting) (r : Record) (c : Call) (k : RecordKey) (x : Record) → (takes s r c).node.held k ≡ Some x → (r ≡ x) ⊎ IsHeld c.node x
unfolding takes
held-takes s r c k x h =
    let lived : Holding = (lives s (event_of s r.body) c).node.held in
    elim (by_test (eq_by_cmp key_cmp k (key_of r.body)) (without_removal r.body lived k) h) [
      | inl e ↦ inl e
      | inr e ↦ inr (held-lives s (event_of s r.body) c k x (removal-some r.body lived k x e))
    ]
  where
    by_test : (b : Bool) (o : Option Record) → cond b (Some r) o ≡ Some x → (r ≡ x) ⊎ (o ≡ Some x)
    by_test true o e = inl cc
    by_test false o e = inr e

sent-takes : (s : Setting) (r : Record) (c : Call) → (takes s r c).sent ≡ c.sent
unfolding takes
sent-takes s r c = sent-lives s (event_of s r.body) c

knows-takes : (s : Setting) (known base : List Record) (r : Record) (c : Call) → IsIn base s c r → Knows s known base c → Knows s known base (takes s r c)
knows-takes s known base r c here h =
    let g = grown-takes s r c in
    record {
      held = λ k x is. elim (held-takes s r c k x is) [ inl e ↦ in-more s c (takes s r c) base x g (subst (IsIn base s c) e here) | inr e ↦ in-more s c (takes s r c) base x g (h.held e.0 x e.1) ];
      sent = λ d i. fits-more s known c (takes s r c) d.1 g (h.sent d (subst (λ xs. In xs d) (sent-takes s r c) i));
    }

knows-spends : (s : Setting) (known base : List Record) (body : Body) (c : Call) → Knows s known base c → Knows s known base (spends s body c)
knows-spends s known base body c h =
    let what : whats.What = told.Spent c.node.stored.next body in
    knows-same s known base (tells s what c) (spends s body c) (λ k. refl) refl refl (knows-tells s known base what c h)

-- the own record is among those that the call has signed
pub own-signed : (s : Setting) (body : Body) (c : Call) → In (signed_in s (spends s body c)) (own_record s c.node body)
own-signed s body c = signed-last s c.told (record { moment = (state_of s c.node).moment; what = told.Spent c.node.stored.next body } ∷ []) (own_record s c.node body) (inl refl)

knows-signs : (s : Setting) (known base : List Record) (body : Body) (c : Call) → Knows s known base c → Knows s known base (signs s body c)
unfolding signs
knows-signs s known base body c h = knows-takes s known base (own_record s c.node body) (spends s body c) (inr (own-signed s body c)) (knows-spends s known base body c h)

still-signed : (s : Setting) (body : Body) (c : Call) → In (signed_in s (signs s body c)) (own_record s c.node body)
unfolding signs
still-signed s body c = (grown-takes s (own_record s c.node body) (spends s body c)).signed (own_record s c.node body) (own-signed s body c)

held-sends : (s : Setting) (d : Datagram) (c : Call) (to : ℕ) (k : RecordKey) → (sends s d c to).node.held k ≡ c.node.held k
unfolding sends
held-sends s d c to k = refl

sent-sends : (s : Setting) (d : Datagram) (c : Call) (to : ℕ) → (sends s d c to).sent ≡ c.sent ++ (to, datagram_bytes d) ∷ []
unfolding sends
sent-sends s d c to = refl

knows-sends : (s : Setting) (known base : List Record) (d : Datagram) (c : Call) (to : ℕ) → ((r : Record) → In (records_of d) r → IsIn known s c r) → Knows s known base c → Knows s known base (sends s d c to)
knows-sends s known base d c to all h =
    let g = grown-sends s d c to in
    let c1 : Call = sends s d c to in
    let fits : Fits s known c1 (datagram_bytes d) = record { datagram = d; spelled = refl; each = λ r i. in-more s c c1 known r g (all r i) } in
    record {
      held = λ k r is. in-more s c c1 base r g (h.held k r (sym (held-sends s d c to k) ∙ is));
      sent = λ x i. elim (In-append_cases c.sent ((to, datagram_bytes d) ∷ []) x (subst (λ xs. In xs x) (sent-sends s d c to) i)) [
        | inl j ↦ fits-more s known c c1 x.1 g (h.sent x j)
        | inr j ↦ elim j [ inl e ↦ subst (λ (y : ℕ × List ℕ). Fits s known c1 y.1) e fits | inr none ↦ absurd none ]
      ];
    }

knows-sends_to_all : (s : Setting) (known base : List Record) (addressees : List ℕ) (d : Datagram) (c : Call) → ((r : Record) → In (records_of d) r → IsIn known s c r) → Knows s known base c → Knows s known base (sends_to_all s addressees d c)
knows-sends_to_all s known base [] d c all h = h
knows-sends_to_all s known base (to ∷ addressees) d c all h =
    knows-sends_to_all s known base addressees d (sends s d c to) (λ r i. in-more s c (sends s d c to) known r (grown-sends s d c to) (all r i)) (knows-sends s known base d c to all h)

-- ---- wanted signatures

knows-wants : (s : Setting) (known base : List Record) (works : Bool) (body : Body) (addressees : State → List ℕ) (c : Call) → Knows s known base c → Knows s known base (wants works s body addressees c)
unfolding wants signs_and_sends
knows-wants s known base works body addressees c h =
    let c1 : Call = signs s body c in
    let all : List ℕ = addressees (state_of s c1.node) in
    let d : Datagram = kinds.Records s.me (own_record s c.node body ∷ []) in
    let stopped : Knows s known base (stops s c) = knows-same s known base (tells s told.Stopped c) (stops s c) (λ k. refl) refl refl (knows-tells s known base told.Stopped c h) in
    cond_both (is_used_up s c.node) (tells s (told.Exhausted c.node.stored.next) c) (cond works (sends_to_all s all d c1) (stops s c)) (Knows s known base)
    (λ up. knows-tells s known base (told.Exhausted c.node.stored.next) c h)
    (λ left. cond_both works (sends_to_all s all d c1) (stops s c) (Knows s known base)
    (λ yes. knows-sends_to_all s known base all d c1 (λ r i. elim i [ inl e ↦ inr (subst (In (signed_in s c1)) e (still-signed s body c)) | inr none ↦ absurd none ]) (knows-signs s known base body c h))
    (λ no. stopped))

-- ---- records

knows-gives_note : (s : Setting) (known base : List Record) (works : Bool) (note : Option NoteBody) (c : Call) → Knows s known base c → Knows s known base (gives_note works s note c)
knows-gives_note s known base works None c h = h
knows-gives_note s known base works (Some note) c h = knows-wants s known base works (Note note) (neighbours s) c h

knows-settles : (s : Setting) (known base : List Record) (f : Option Fault) (r : Record) (c : Call) → (f ≡ None → In base r) → Knows s known base c → Knows s known base (settles s f r c)
knows-settles s known base (Some f) r c here h = knows-tells s known base (told.Took r.body (Some f)) c h
knows-settles s known base None r c here h =
    let what : whats.What = told.Took r.body None in
    knows-takes s known base r (tells s what c) (inl (here refl)) (knows-tells s known base what c h)

knows-judged : (s : Setting) (known base : List Record) (works : Bool) (f : Option Fault) (r : Record) (c : Call) → (f ≡ None → In base r) → Knows s known base c → Knows s known base (judged works s f r c)
knows-judged s known base works f r c here h =
    knows-gives_note s known base works (asked_with s c.node f r.body r) (settles s f r c) (knows-settles s known base f r c here h)

knows-handles : (s : Setting) (known base : List Record) (works : Bool) (c : Call) (r : Record) → (refusal s c.node r ≡ None → In base r) → Knows s known base c → Knows s known base (handles works s c r)
unfolding handles
knows-handles s known base works c r here h = knows-judged s known base works (refusal s c.node r) r c here h

pub accepted-here : (s : Setting) (n : Node) (r : Record) (records : List Record) → refusal s n r ≡ None → In (accepted_of s n (r ∷ records)) r
accepted-here s n r records fine = rw fine (inl refl)

pub accepted-later : (s : Setting) (n : Node) (r x : Record) (records : List Record) → In (accepted_of s (when_handled s n r) records) x → In (accepted_of s n (r ∷ records)) x
accepted-later s n r x records i = In-append_right (cond (is_some (refusal s n r)) [] (r ∷ [])) (accepted_of s (when_handled s n r) records) x i

knows-handles_all : (s : Setting) (known base : List Record) (records : List Record) (c : Call) → ((r : Record) → In (accepted_of s c.node records) r → In base r) → Knows s known base c → Knows s known base (handles_all s records c)
knows-handles_all s known base [] c all h = h
knows-handles_all s known base (r ∷ records) c all h =
    let later : (handles true s c r).node ≡ when_handled s c.node r = node-handles true s c r in
    knows-handles_all s known base records (handles true s c r)
    (λ x i. all x (accepted-later s c.node r x records (subst (λ n. In (accepted_of s n records) x) later i)))
    (knows-handles s known base true c r (λ fine. all r (accepted-here s c.node r records fine)) h)

-- ---- what is given of what is held

in-fitting : (records : List Record) (room : ℕ) (r : Record) → In (fitting room records) r → In records r
in-fitting [] room r = λ i. i
in-fitting (x ∷ records) room r =
    let left : ℕ = room - length (record_bytes x) in
    cond_both (nat_le (length (record_bytes x)) room) (x ∷ fitting left records) [] (λ xs. In xs r → In (x ∷ records) r)
    (λ fits i. elim i [ inl e ↦ inl e | inr j ↦ inr (in-fitting records left r j) ])
    (λ full i. absurd i)

-- ---- what is done with a datagram

abbrev pub HeldIn : List Record → Node → Type 0
HeldIn known n = (k : RecordKey) (r : Record) → n.held k ≡ Some r → In known r

lacking-known : (n : Node) (from : ℕ) (theirs : Summary) (known : List Record) → HeldIn known n → (r : Record) → In (lacking n from theirs) r → In known r
unfolding lacking
lacking-known n from theirs known h r i =
    let all : List RecordKey = wanted n from theirs in
    let k = In-from_filter_map n.held all r (in-fitting (filter_map n.held all) room r i) in
    h k.0 r k.1.1

knows-gives : (s : Setting) (known base : List Record) (to : ℕ) (records : List Record) (c : Call) → ((r : Record) → In records r → In known r) → Knows s known base c → Knows s known base (gives s to records c)
knows-gives s known base to [] c all h = h
knows-gives s known base to (r ∷ records) c all h = knows-sends s known base (kinds.Records s.me (r ∷ records)) c to (λ x i. inl (all x i)) h

knows-replies : (s : Setting) (known base : List Record) (to : ℕ) (flag : Bool) (number : ℕ) (c : Call) → Knows s known base c → Knows s known base (replies s to flag number c)
knows-replies s known base to true number c h = h
knows-replies s known base to false number c h = knows-sends s known base (kinds.Summary s.me true (page c.node number)) c to (λ r i. absurd i) h

knows-pinged : (s : Setting) (known base : List Record) (from nonce : ℕ) (c : Call) → Knows s known base c → Knows s known base (pinged s from nonce c)
knows-pinged s known base from nonce c h =
    let c1 : Call = tells s (told.Ping from nonce) c in
    let h1 : Knows s known base c1 = knows-tells s known base (told.Ping from nonce) c h in
    cond_both (is_other s c.node from) (sends s (kinds.Pong s.me nonce) c1 from) c1 (Knows s known base) (λ yes. knows-sends s known base (kinds.Pong s.me nonce) c1 from (λ r i. absurd i) h1) (λ no. h1)

knows-ponged : (s : Setting) (known base : List Record) (from nonce : ℕ) (c : Call) → Knows s known base c → Knows s known base (ponged_by s from nonce c)
knows-ponged s known base from nonce c h =
    let what : whats.What = told.Pong from nonce (counts c.node.probes from nonce) in
    knows-same s known base (tells s what c) (ponged_by s from nonce c) (λ k. refl) refl refl (knows-tells s known base what c h)

knows-exchanges : (s : Setting) (known base : List Record) (from : ℕ) (flag : Bool) (theirs : Summary) (c : Call) → HeldIn known c.node → Knows s known base c → Knows s known base (exchanges s from flag theirs c)
knows-exchanges s known base from flag theirs c held h =
    let c1 : Call = tells s (told.Summary from theirs.page flag) c in
    let h1 : Knows s known base c1 = knows-tells s known base (told.Summary from theirs.page flag) c h in
    let c2 : Call = gives s from (lacking c.node from theirs) c1 in
    let h2 : Knows s known base c2 = knows-gives s known base from (lacking c.node from theirs) c1 (lacking-known c.node from theirs known held) h1 in
    cond_both (is_other s c.node from) (replies s from flag theirs.page c2) c1 (Knows s known base) (λ yes. knows-replies s known base from flag theirs.page c2 h2) (λ no. h1)

knows-hears : (s : Setting) (known base : List Record) (d : Result Datagram ℕ) (n : Node) → HeldIn known n → ((r : Record) → In (accepted_of s n (records_in d)) r → In base r) → Knows s known base (begun n) → Knows s known base (hears s d (begun n))
knows-hears s known base (Err place) n held all h = knows-tells s known base (told.BadForm place) (begun n) h
knows-hears s known base (Ok (kinds.Ping from nonce)) n held all h = knows-pinged s known base from nonce (begun n) h
knows-hears s known base (Ok (kinds.Pong from nonce)) n held all h = knows-ponged s known base from nonce (begun n) h
knows-hears s known base (Ok (kinds.Summary from flag theirs)) n held all h = knows-exchanges s known base from flag theirs (begun n) held h
knows-hears s known base (Ok (kinds.Records from records)) n held all h = knows-handles_all s known base records (begun n) all h

knows-delivered : (s : Setting) (known base : List Record) (bytes : List ℕ) (n : Node) → HeldIn known n → ((r : Record) → In (accepted_of s n (records_in (read_of bytes))) r → In base r) → Knows s known base (begun n) → Knows s known base (delivered s n bytes)
unfolding delivered
knows-delivered s known base bytes n held all h = knows-hears s known base (read_of bytes) n held all h

-- ---- ticks

knows-accuses : (s : Setting) (known base : List Record) (works : Bool) (c : Call) (m : ℕ) → Knows s known base c → Knows s known base (accuses works s c m)
unfolding accuses
knows-accuses s known base works c m h =
    cond_both (has_accused s (state_of s c.node) m) c (wants_accusation works s m (ring_for s (state_of s c.node) m) (tells s (told.Silent m) c)) (Knows s known base)
    (λ yes. h) (λ no. on (ring_for s (state_of s c.node) m) (tells s (told.Silent m) c) (knows-tells s known base (told.Silent m) c h))
  where
    on : (ring : Option ℕ) (x : Call) → Knows s known base x → Knows s known base (wants_accusation works s m ring x)
    on None x k = k
    on (Some ring) x k = knows-wants s known base works (accusation_on s (state_of s x.node) m ring) (neighbours_and s m) x k

knows-accuses_all : (s : Setting) (known base : List Record) (silent : List ℕ) (c : Call) → Knows s known base c → Knows s known base (accuses_all s silent c)
knows-accuses_all s known base [] c h = h
knows-accuses_all s known base (m ∷ silent) c h = knows-accuses_all s known base silent (accuses true s c m) (knows-accuses s known base true c m h)

knows-pings_all : (s : Setting) (known base : List Record) (pings : List (ℕ × ℕ)) (c : Call) → Knows s known base c → Knows s known base (pings_all s pings c)
knows-pings_all s known base [] c h = h
knows-pings_all s known base (p ∷ pings) c h = knows-pings_all s known base pings (sends s (kinds.Ping s.me p.1) c p.0) (knows-sends s known base (kinds.Ping s.me p.1) c p.0 (λ r i. absurd i) h)

knows-summary : (s : Setting) (known base : List Record) (round : ℕ) (to : Option ℕ) (c : Call) → Knows s known base c → Knows s known base (summary_to s round to c)
knows-summary s known base round None c h = h
knows-summary s known base round (Some to) c h = knows-sends s known base (kinds.Summary s.me false (page c.node (page_number s c.node round))) c to (λ r i. absurd i) h

knows-probed : (s : Setting) (known base : List Record) (n : Node) → Knows s known base (begun n) → Knows s known base (probed_at s n)
unfolding probed_at passed
knows-probed s known base n h = knows-same s known base (lives s Passes (begun n)) (probed_at s n) (λ k. refl) refl refl (knows-lives s known base Passes (begun n) h)

-- what is fresh is held
fresh-held : (n : Node) (r : Record) → In (fresh n) r → IsHeld n r
unfolding fresh
fresh-held n r i =
    let k = In-from_filter_map n.held n.news r (in-fitting (filter_map n.held n.news) room r i) in
    (k.0, k.1.1)

knows-spreads_all : (s : Setting) (known base : List Record) (records : List Record) (c : Call) → ((r : Record) → In records r → IsIn known s c r) → Knows s known base c → Knows s known base (spreads_all s records c)
knows-spreads_all s known base [] c all h = h
knows-spreads_all s known base (r ∷ records) c all h = knows-sends_to_all s known base (neighbours s (state_of s c.node)) (kinds.Records s.me (r ∷ records)) c all h

knows-spreads : (s : Setting) (known base : List Record) (c : Call) → ((r : Record) → In base r → In known r) → Knows s known base c → Knows s known base (spreads s c)
unfolding spreads
knows-spreads s known base c all h =
    let c1 : Call = spreads_all s (fresh c.node) c in
    let here : (r : Record) → In (fresh c.node) r → IsIn known s c r =
    λ r i. let k = fresh-held c.node r i in elim (h.held k.0 r k.1) [ inl j ↦ inl (all r j) | inr j ↦ inr j ] in
    knows-same s known base c1 (record c1 { node = record c1.node { news = [] } }) (λ k. refl) refl refl (knows-spreads_all s known base (fresh c.node) c here h)

knows-spread : (s : Setting) (known base : List Record) (n : Node) → ((r : Record) → In base r → In known r) → Knows s known base (begun n) → Knows s known base (spread_at s n)
unfolding spread_at
knows-spread s known base n all h = knows-spreads s known base (probed_at s n) all (knows-probed s known base n h)

knows-due : (s : Setting) (known base : List Record) (accused : List ℕ) (pings : List (ℕ × ℕ)) (round : ℕ) (c : Call) → ((r : Record) → In base r → In known r) → Knows s known base c → Knows s known base (due_tick s accused pings round c)
unfolding due_tick
knows-due s known base accused pings round c all h =
    let c0 : Call = spreads s c in
    let c1 : Call = accuses_all s accused c0 in
    let c2 : Call = pings_all s pings c1 in
    knows-summary s known base round (partner s c2.node round) c2 (knows-pings_all s known base pings c1 (knows-accuses_all s known base accused c0 (knows-spreads s known base c all h)))

knows-ticked : (s : Setting) (known base : List Record) (n : Node) → ((r : Record) → In base r → In known r) → Knows s known base (begun n) → Knows s known base (ticked s n)
unfolding ticked
knows-ticked s known base n all h =
    let p : Node = (passed s n).node in
    let st : State = state_of s p in
    let h1 : Knows s known base (probed_at s n) = knows-probed s known base n h in
    cond_both (is_due s st) (due_tick s (silent_in s p st) (pings_in s p st) (round_of s st) (probed_at s n)) (probed_at s n) (Knows s known base)
    (λ due. knows-due s known base (silent_in s p st) (pings_in s p st) (round_of s st) (probed_at s n) all h1)
    (λ never. h1)

-- ---- leaving

knows-leaves : (s : Setting) (known base : List Record) (works : Bool) (c : Call) → Knows s known base c → Knows s known base (leaves works s c)
unfolding leaves
knows-leaves s known base works c h = knows-wants s known base works (leaving s c.node.stored) (neighbours s) c h

knows-left : (s : Setting) (known base : List Record) (n : Node) → Knows s known base (begun n) → Knows s known base (left s n)
unfolding left
knows-left s known base n h = knows-leaves s known base true (begun n) h

-- ---- calls, and lives

knows-begun : (s : Setting) (known base : List Record) (n : Node) → HeldIn known n → ((r : Record) → In known r → In base r) → Knows s known base (begun n)
knows-begun s known base n held all = record { held = λ k r e. inl (all r (held k r e)); sent = λ d i. absurd i }

knows-call : (s : Setting) (known : List Record) (n : Node) (i : Input) → HeldIn known n → Knows s known (known ++ accepted_in s n i) (call_of s n i)
knows-call s known n (Delivers bytes) held =
    let accepted : List Record = accepted_of s n (records_in (read_of bytes)) in
    knows-delivered s known (known ++ accepted) bytes n held (λ r i. In-append_right known accepted r i) (knows-begun s known (known ++ accepted) n held (λ r i. In-append_left known accepted r i))
knows-call s known n Ticks held = knows-ticked s known (known ++ []) n (λ r i. subst (λ xs. In xs r) (nil-right known) i) (knows-begun s known (known ++ []) n held (λ r i. In-append_left known [] r i))
knows-call s known n Leaves held = knows-left s known (known ++ []) n (knows-begun s known (known ++ []) n held (λ r i. In-append_left known [] r i))

pub in-both : (xs : List Record) (s : Setting) (c : Call) (r : Record) → IsIn xs s c r → In (xs ++ signed_in s c) r
in-both xs s c r h = elim h [ inl i ↦ In-append_left xs (signed_in s c) r i | inr i ↦ In-append_right xs (signed_in s c) r i ]

held-call : (s : Setting) (known base : List Record) (c : Call) → Knows s known base c → HeldIn (base ++ signed_in s c) c.node
held-call s known base c h = λ k r e. in-both base s c r (h.held k r e)

pub sends-known : (s : Setting) (known base : List Record) (c : Call) → Knows s known base c → SendsKnown s known c
sends-known s known base c h =
    All-from_In (λ d. IsOfKnown (known ++ signed_in s c) d.1) c.sent
    (λ d i.
    let f = h.sent d i in
    record {
      datagram = f.datagram;
      spelled = f.spelled;
      records = All-from_In (Contains (known ++ signed_in s c)) (records_of f.datagram) (λ r j. Contains-from_In (known ++ signed_in s c) r (in-both known s c r (f.each r j)));
    })

held-calls : (s : Setting) (n : Node) (known : List Record) (inputs : List Input) → HeldIn known n → HeldIn (gathered s n known inputs) (after_calls s n inputs)
held-calls s n known [] held = held
held-calls s n known (i ∷ inputs) held =
    held-calls s (call_of s n i).node (known ++ accepted_in s n i ++ signed_in s (call_of s n i)) inputs (held-call s known (known ++ accepted_in s n i) (call_of s n i) (knows-call s known n i held))

abbrev takes_all : Setting → List Record → Call → Call
takes_all s records c = fold (λ c r. takes s r c) c records

knows-takes_all : (s : Setting) (known base records : List Record) (c : Call) → ((r : Record) → In records r → In base r) → Knows s known base c → Knows s known base (takes_all s records c)
knows-takes_all s known base [] c all h = h
knows-takes_all s known base (r ∷ records) c all h = knows-takes_all s known base records (takes s r c) (λ x i. all x (inr i)) (knows-takes s known base r c (inl (all r (inl refl))) h)

held-started : (s : Setting) (nonces : ℕ → ℕ) (certificates : List Record) (stored : Stored) → HeldIn (certificates ++ signed_in s (started s nonces certificates stored)) (started s nonces certificates stored).node
unfolding started
held-started s nonces certificates stored =
    let c0 : Call = begun (blank s nonces stored) in
    let nothing : Knows s certificates certificates c0 = record { held = λ k r e. none r e; sent = λ d i. absurd i } in
    let c : Call = opened s nonces certificates stored in
    held-call s certificates certificates (signs s (first_note s stored) c)
    (knows-signs s certificates certificates (first_note s stored) c (knows-takes_all s certificates certificates certificates c0 (λ r i. i) nothing))
  where
    none : (r : Record) → None ≡ Some r → IsIn certificates s (begun (blank s nonces stored)) r
    none r e = cc

pub held-life : (s : Setting) (nonces : ℕ → ℕ) (certificates : List Record) (stored : Stored) (inputs : List Input)
    → HeldIn (gathered s (started s nonces certificates stored).node (certificates ++ signed_in s (started s nonces certificates stored)) inputs) (after_calls s (started s nonces certificates stored).node inputs)
held-life s nonces certificates stored inputs =
    held-calls s (started s nonces certificates stored).node (certificates ++ signed_in s (started s nonces certificates stored)) inputs (held-started s nonces certificates stored)

pub call-sends : (s : Setting) (known : List Record) (n : Node) (i : Input) → HeldIn known n → SendsKnown s known (call_of s n i)
call-sends s known n i held = sends-known s known (known ++ accepted_in s n i) (call_of s n i) (knows-call s known n i held)

pub delivered_until-sends : (s : Setting) (known : List Record) (n : Node) (records : List Record) (r : Record) → HeldIn known n → SendsKnown s known (delivered_until s n records r)
unfolding delivered_until
delivered_until-sends s known n records r held =
    let accepted : List Record = accepted_of s n records in
    let last : List Record = r ∷ [] in
    let base : List Record = (known ++ accepted) ++ last in
    let c : Call = handles_all s records (begun n) in
    let begins : Knows s known base (begun n) = knows-begun s known base n held (λ x i. In-append_left (known ++ accepted) last x (In-append_left known accepted x i)) in
    let front : Knows s known base c = knows-handles_all s known base records (begun n) (λ x i. In-append_left (known ++ accepted) last x (In-append_right known accepted x i)) begins in
    sends-known s known base (handles false s c r) (knows-handles s known base false c r (λ fine. In-append_right (known ++ accepted) last r (inl refl)) front)

pub ticked_until-sends : (s : Setting) (known : List Record) (n : Node) (silent : List ℕ) (m : ℕ) → HeldIn known n → SendsKnown s known (ticked_until s n silent m)
unfolding ticked_until
ticked_until-sends s known n silent m held =
    let begins : Knows s known known (begun n) = knows-begun s known known n held (λ x i. i) in
    let c : Call = accuses_all s silent (spread_at s n) in
    let front : Knows s known known c = knows-accuses_all s known known silent (spread_at s n) (knows-spread s known known n (λ x i. i) begins) in
    sends-known s known known (accuses false s c m) (knows-accuses s known known false c m front)

pub left_until-sends : (s : Setting) (known : List Record) (n : Node) → HeldIn known n → SendsKnown s known (left_until s n)
unfolding left_until
left_until-sends s known n held = sends-known s known known (leaves false s (begun n)) (knows-leaves s known known false (begun n) (knows-begun s known known n held (λ x i. i)))
