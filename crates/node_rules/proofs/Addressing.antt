-- Datagrams go to other members whose certificates are held, and to no one else.
use Rattle.std.proofs.Common.{◌≡◌, ℕ, zero, suc, ◌+◌, ◌%◌, Bool, true, false, not, cond, eqb, List, [], ◌∷◌, ◌++◌, Option, Some, None, is_some, map, filter, inl, inr, refl, ap, sym, ◌∙◌, subst, arith}
use Rattle.std.specs.Prelude.{◌/◌, Result, Ok, Err, fold, find}
use Rattle.std.specs.List.{AllByRecursion, slice_get}
use Rattle.std.specs.Option.{option_and_then, option_or}
use Rattle.std.proofs.lemmas.Bool.{cond_both, false≢true, and_parts, and_from, not-true, not_from_false}
use Rattle.std.proofs.lemmas.Bool.Decides.{nat_tests}
use Rattle.ff_ids.specs.declared.AccBody.{AccBody}
use Rattle.ff_ids.specs.declared.NoteBody.{NoteBody}
use Rattle.ff_ids.specs.declared.Group.{Group}
use Rattle.ff_ids.specs.declared.Fault.{Fault}
use Rattle.ff_ids.specs.declared.summary.Summary.{Summary}
use Rattle.ff_ids.specs.declared.summary.RecordKey.{RecordKey}
use Rattle.ff_ids.specs.declared.summary.RecordKey.TheVariants as keys
use Rattle.ff_ids.specs.Heals.{Heal}
use Rattle.ff_ids.specs.Lives.{opening, after}
use Rattle.ff_ids.specs.Masks.{ring_count}
use Rattle.ff_ids.specs.Rings.{Key, others, none_between}
use Rattle.ff_ids.specs.Views.{State, all_numbers, is_member, in_view, view, key_of, monitor, successor}
use Rattle.ff_ids.specs.Faults.{note_fault, accusation_fault}
use Rattle.ff_ids.specs.Steps.{Event, Notes, Accuses, Ticks as Passes, after_note, after_accusation, unchanged, unless_fault, step}
use Rattle.life_laws.proofs.Lists.{In, Contains-from_In, All-from_In, In-from_filter, In-from_map, In-append_cases}
use Rattle.life_laws.proofs.NoteLemmas.{newest-fits}
use Rattle.life_laws.proofs.ViewLemmas.{joined-viewed}
use Rattle.detector.specs.declared.watch.Watched.{Watched}
use Rattle.detector.specs.Watching.{is_watched, as_watched}
use Rattle.detector.specs.Silence.{counts, pings_from, sent_in}
use Rattle.records.specs.declared.Body.{Body}
use Rattle.records.specs.declared.Body.TheVariants.{Certificate, Note, Accusation}
use Rattle.records.specs.declared.CertBody.{CertBody}
use Rattle.records.specs.declared.Record.{Record}
use Rattle.records.specs.Spelling.{IsBody}
use Rattle.datagram.specs.Spelling.{datagram_bytes, IsSignedRecord}
use Rattle.epoch_store.specs.declared.Stored.{Stored}
use Rattle.gossip.specs.Partners as gossip
use Rattle.datagram.specs.declared.Datagram.{Datagram}
use Rattle.datagram.specs.declared.Datagram.TheVariants as kinds
use Rattle.datagram.specs.Grammar.{read_of}
use Rattle.journal.specs.declared.event.What as whats
use Rattle.journal.specs.declared.event.What.TheVariants as told
use Rattle.node_rules.specs.Nodes.{Setting, Node, Holding, state_of, event_of, certificate_in, certificate_of, is_certified, certified, neighbours, neighbours_and}
use Rattle.node_rules.specs.Pages.{page, partner, page_number, lacking}
use Rattle.node_rules.specs.Refusals.{refusal}
use Rattle.node_rules.specs.Calls.{Call, begun, tells, lives, takes, spends, signs, signs_and_sends, wants, stops, sends, sends_to_all, is_used_up, own_record}
use Rattle.node_rules.specs.Deliveries.{asked_with, gives_note, settles, judged, handles, handles_all, is_other, gives, replies, exchanges, pinged, ponged_by, hears, delivered}
use Rattle.node_rules.specs.Ticking.{accusation_on, ring_for, has_accused, wants_accusation, accuses, accuses_all, fresh, spreads_all, spreads, is_due, silent_in, watched_by, pings_in, pings_all, summary_to, round_of, passed, probed_at, spread_at, due_tick, ticked}
use Rattle.node_rules.specs.Starting.{blank, opened, started, first_note}
use Rattle.node_rules.specs.Leaving.{leaving, leaves, left}
use Rattle.node_rules.specs.Lives.{Input, Delivers, Ticks, call_of, after_calls, Leaves}
use Rattle.node_rules.specs.OnRings.{Succeeds}
use Rattle.node_rules.specs.OneExchange.{Life, node_after, IsCorrect, IsWithinRanges, IsOfBytes}
use Rattle.node_rules.specs.Addressing.{AddressesOthers, HasPort}
use Rattle.node_rules.proofs.Called.{delivered_until, ticked_until, left_until}
use Rattle.node_rules.proofs.Small.{state_of-lives, state-takes, node-sends, node-spreads}
use Rattle.node_rules.proofs.Accusations.{found, found-number, lively, watches, listed-viewed}
use Rattle.node_rules.proofs.RingLemmas.{ring-lowest, neighbours-are, accused-addressed}
use Rattle.node_rules.proofs.Growth.{held-takes, certificate-takes, certificate-lives, certificate-signs, note-is_none, accusation-is_none, Follows, follows-itself, following}
use Rattle.node_rules.proofs.Upholding.{certificate-certificate, IsJoined, joins-member, chosen-member}
use Rattle.node_rules.proofs.Exchanges.{certified-kept}
use Rattle.node_rules.proofs.Keeping.{keeps-accuses_all}
use Rattle.node_rules.proofs.OneExchange.{calls-append, sendable}

-- ---- what holds of a call so far

-- Whoever has joined has a certificate.
abbrev AreCertified : Setting → Node → Type 0
AreCertified s n = (m : ℕ) → is_member (state_of s n) m ≡ true → is_certified n m ≡ true

-- So it is, and what the call has sent went to other members with certificates.
pub record Addresses (s : Setting) (c : Call) : Type 0 where
  pub members : AreCertified s c.node
  pub sent : (d : ℕ × List ℕ) → In c.sent d → is_other s c.node d.0 ≡ true

-- a certified member is another one, where it is not the node itself
other-from : (s : Setting) (n : Node) (m : ℕ) → is_certified n m ≡ true → eqb m s.me ≡ false → is_other s n m ≡ true
other-from s n m known apart = and_from _ _ known (not_from_false _ apart)

-- who is another stays another, where certificates stay
other-later : (s : Setting) (n later : Node) (m : ℕ) → (is_certified n m ≡ true → is_certified later m ≡ true) → is_other s n m ≡ true → is_other s later m ≡ true
other-later s n later m stays h = let parts = and_parts _ _ h in and_from _ _ (stays parts.0) parts.1

-- The same members, certificates and datagrams.
addresses-same : (s : Setting) (c d : Call) → ((m : ℕ) → is_member (state_of s d.node) m ≡ is_member (state_of s c.node) m) → ((m : ℕ) → certificate_of d.node m ≡ certificate_of c.node m) → d.sent ≡ c.sent → Addresses s c → Addresses s d
addresses-same s c d members certificates sent h =
    record {
      members = λ m is. ap is_some (certificates m) ∙ h.members m (sym (members m) ∙ is);
      sent = λ x i. other-later s c.node d.node x.0 (λ known. ap is_some (certificates x.0) ∙ known) (h.sent x (subst (λ xs. In xs x) sent i));
    }

addresses-tells : (s : Setting) (what : whats.What) (c : Call) → Addresses s c → Addresses s (tells s what c)
addresses-tells s what c h = record { members = h.members; sent = h.sent }

addresses-stops : (s : Setting) (c : Call) → Addresses s c → Addresses s (stops s c)
addresses-stops s c h = record { members = h.members; sent = h.sent }

-- The same life, records and datagrams.
addresses-apart : (s : Setting) (c d : Call) → d.node.lived ≡ c.node.lived → d.node.held ≡ c.node.held → d.sent ≡ c.sent → Addresses s c → Addresses s d
unfolding state_of certificate_of
addresses-apart s c d lived held sent h =
    addresses-same s c d (λ m. ap (λ (xs : List Event). is_member (after s.group (opening []) xs) m) lived)
    (λ m. ap (λ (x : Holding). option_and_then (λ r. certificate_in r.body) (x (keys.Certificate m))) held) sent h

-- ---- one event, one record

sent-lives : (s : Setting) (e : Event) (c : Call) → (lives s e c).sent ≡ c.sent
unfolding lives
sent-lives s e c = refl

addresses-passes : (s : Setting) (c : Call) → Addresses s c → Addresses s (lives s Passes c)
addresses-passes s c h =
    addresses-same s c (lives s Passes c) (λ m. ap (λ (st : State). is_member st m) (state_of-lives s Passes c)) (λ m. certificate-lives s Passes c m) (sent-lives s Passes c) h

sent-takes : (s : Setting) (r : Record) (c : Call) → (takes s r c).sent ≡ c.sent
unfolding takes
sent-takes s r c = sent-lives s (event_of s r.body) c

noted-members : (g : Group) (st : State) (x : NoteBody) (m : ℕ) → is_member (step g st (Notes x)).state m ≡ is_member st m
noted-members g st x m = by_fault (note_fault g.t st x)
  where
    by_fault : (f : Option Fault) → is_member (unless_fault f st (after_note st x)).state m ≡ is_member st m
    by_fault None = refl
    by_fault (Some f) = refl

accused-members : (g : Group) (st : State) (a : AccBody) (m : ℕ) → is_member (step g st (Accuses a)).state m ≡ is_member st m
accused-members g st a m = by_fault (accusation_fault g.t st a)
  where
    by_fault : (f : Option Fault) → is_member (unless_fault f st (unchanged (after_accusation st a))).state m ≡ is_member st m
    by_fault None = refl
    by_fault (Some f) = refl

certified-takes : (s : Setting) (r : Record) (x : CertBody) (c : Call) (m : ℕ) → r.body ≡ Certificate x → is_certified (takes s r c).node m ≡ cond (eqb x.member m) true (is_certified c.node m)
unfolding certificate_of
certified-takes s r x c m is =
    ap (λ o. is_some (option_and_then (λ y. certificate_in y.body) o)) (held-takes s r c (keys.Certificate m) tt ∙ certificate-certificate r c.node.held x m is)
    ∙ chosen-member (eqb x.member m) r x (c.node.held (keys.Certificate m)) (is_some (option_and_then (λ y. certificate_in y.body) (c.node.held (keys.Certificate m)))) is refl

unless-new : (b known : Bool) → known ≡ true → cond b true known ≡ true
unless-new true known h = refl
unless-new false known h = h

if-joined : (b known joined : Bool) → (joined ≡ true → known ≡ true) → cond b true joined ≡ true → cond b true known ≡ true
if-joined true known joined h is = refl
if-joined false known joined h is = h is

addresses-certificate : (s : Setting) (r : Record) (x : CertBody) (c : Call) → r.body ≡ Certificate x → Addresses s c → Addresses s (takes s r c)
addresses-certificate s r x c is h =
    let st : State = state_of s c.node in
    let at = state-takes s r c ∙ ap (λ b. (step s.group st (event_of s b)).state) is in
    let joins : IsJoined st (state_of s (takes s r c).node) x.member = subst (λ y. IsJoined st y x.member) (sym at) (joins-member s.group st x.member (s.places x.member)) in
    record {
      members = λ m joined. certified-takes s r x c m is ∙ if-joined (eqb x.member m) (is_certified c.node m) (is_member st m) (h.members m) (sym (joins.member m) ∙ joined);
      sent = λ d i. other-later s c.node (takes s r c).node d.0 (λ known. certified-takes s r x c d.0 is ∙ unless-new (eqb x.member d.0) (is_certified c.node d.0) known) (h.sent d (subst (λ xs. In xs d) (sent-takes s r c) i));
    }

addresses-body : (s : Setting) (r : Record) (b : Body) (c : Call) → r.body ≡ b → Addresses s c → Addresses s (takes s r c)
addresses-body s r (Certificate x) c is h = addresses-certificate s r x c is h
addresses-body s r (Note x) c is h =
    addresses-same s c (takes s r c)
    (λ m. ap (λ (st : State). is_member st m) (state-takes s r c ∙ ap (λ b. (step s.group (state_of s c.node) (event_of s b)).state) is) ∙ noted-members s.group (state_of s c.node) x m)
    (λ m. certificate-takes s r c m (λ y e who. note-is_none x y (sym is ∙ e))) (sent-takes s r c) h
addresses-body s r (Accusation a) c is h =
    addresses-same s c (takes s r c)
    (λ m. ap (λ (st : State). is_member st m) (state-takes s r c ∙ ap (λ b. (step s.group (state_of s c.node) (event_of s b)).state) is) ∙ accused-members s.group (state_of s c.node) a m)
    (λ m. certificate-takes s r c m (λ y e who. accusation-is_none a y (sym is ∙ e))) (sent-takes s r c) h

addresses-takes : (s : Setting) (r : Record) (c : Call) → Addresses s c → Addresses s (takes s r c)
addresses-takes s r c h = addresses-body s r r.body c refl h

addresses-signs : (s : Setting) (b : Body) (c : Call) → Addresses s c → Addresses s (signs s b c)
unfolding signs
addresses-signs s b c h = addresses-takes s (own_record s c.node b) (spends s b c) (addresses-apart s c (spends s b c) refl refl refl h)

-- ---- datagrams

sent-sends : (s : Setting) (d : Datagram) (c : Call) (to : ℕ) → (sends s d c to).sent ≡ c.sent ++ (to, datagram_bytes d) ∷ []
unfolding sends
sent-sends s d c to = refl

addresses-sends : (s : Setting) (d : Datagram) (c : Call) (to : ℕ) → is_other s c.node to ≡ true → Addresses s c → Addresses s (sends s d c to)
addresses-sends s d c to here h =
    let same : (sends s d c to).node ≡ c.node = node-sends s d c to in
    record {
      members = subst (AreCertified s) (sym same) h.members;
      sent = λ x i.
          subst (λ n. is_other s n x.0 ≡ true) (sym same)
          (elim (In-append_cases c.sent ((to, datagram_bytes d) ∷ []) x (subst (λ xs. In xs x) (sent-sends s d c to) i)) [
            | inl j ↦ h.sent x j
            | inr j ↦ elim j [ inl e ↦ subst (λ (y : ℕ × List ℕ). is_other s c.node y.0 ≡ true) e here | inr none ↦ absurd none ]
          ]);
    }

addresses-sends_to_all : (s : Setting) (addressees : List ℕ) (d : Datagram) (c : Call) → ((to : ℕ) → In addressees to → is_other s c.node to ≡ true) → Addresses s c → Addresses s (sends_to_all s addressees d c)
addresses-sends_to_all s [] d c all h = h
addresses-sends_to_all s (to ∷ addressees) d c all h =
    addresses-sends_to_all s addressees d (sends s d c to) (λ x i. subst (λ n. is_other s n x ≡ true) (sym (node-sends s d c to)) (all x (inr i))) (addresses-sends s d c to (all to (inl refl)) h)

-- ---- who is found on the rings

-- In the view, and not the one from which it was found.
record IsFound (st : State) (from v : ℕ) : Type 0 where
  viewed : in_view st v ≡ true
  apart : eqb v from ≡ false

found-apart : (st : State) (ring from v : ℕ) (k : Key) → In (others from (map (key_of st ring) (view st))) k → k.number ≡ v → IsFound st from v
found-apart st ring from v k i is =
    let f = In-from_filter (λ k. not (eqb k.number from)) (map (key_of st ring) (view st)) k i in
    record { viewed = listed-viewed st ring v k f.0 is; apart = ap (λ x. eqb x from) (sym is) ∙ not-true _ f.1 }

successor-found : (st : State) (ring m v : ℕ) → successor st ring m ≡ Some v → IsFound st m v
successor-found st ring m v h =
    let keys : List Key = map (key_of st ring) (view st) in
    let nearest : Key → Bool = λ k. none_between (others m keys) (key_of st ring m) k in
    let r = found-number (find nearest (others m keys)) v h in
    found-apart st ring m v r.0 (found nearest (others m keys) r.0 r.1.0).0 r.1.1

monitor-found : (st : State) (ring m v : ℕ) → monitor st ring m ≡ Some v → IsFound st m v
monitor-found st ring m v h =
    let keys : List Key = map (key_of st ring) (view st) in
    let nearest : Key → Bool = λ k. none_between (others m keys) k (key_of st ring m) in
    let r = found-number (find nearest (others m keys)) v h in
    found-apart st ring m v r.0 (found nearest (others m keys) r.0 r.1.0).0 r.1.1

-- who is in the view has joined, and so has a certificate
viewed-certified : (s : Setting) (n : Node) (m : ℕ) → AreCertified s n → in_view (state_of s n) m ≡ true → is_certified n m ≡ true
viewed-certified s n m members viewed = members m (joined-viewed (state_of s n) m (lively s n).joined viewed)

successor-other : (s : Setting) (n : Node) (ring m : ℕ) → AreCertified s n → successor (state_of s n) ring s.me ≡ Some m → is_other s n m ≡ true
successor-other s n ring m members h =
    let f = successor-found (state_of s n) ring s.me m h in
    other-from s n m (viewed-certified s n m members f.viewed) f.apart

neighbour-other : (s : Setting) (n : Node) (to : ℕ) → AreCertified s n → In (neighbours s (state_of s n)) to → is_other s n to ≡ true
neighbour-other s n to members i =
    let h : Succeeds s (state_of s n) to = (neighbours-are s (state_of s n)).1 to (Contains-from_In (neighbours s (state_of s n)) to i) in
    successor-other s n h.ring to members h.follows

-- the accused is another, since the node is its monitor, and has a note
accused-other : (s : Setting) (n : Node) (m ring : ℕ) → AreCertified s n → ring_for s (state_of s n) m ≡ Some ring → is_other s n m ≡ true
accused-other s n m ring members h =
    let st : State = state_of s n in
    let first = ring-lowest s st m ring h in
    let noted = newest-fits st.notes m first.note first.is_newest in
    let joined : is_member st m ≡ true = subst (λ k. is_member st k ≡ true) noted.1 ((lively s n).joined first.note noted.0) in
    let f = monitor-found st ring m s.me first.here.monitors in
    other-from s n m (members m joined) (turned s.me m f.apart)
  where
    turned : (x y : ℕ) → eqb x y ≡ false → eqb y x ≡ false
    turned x y h = grind (arith, nat_tests, h)

-- ---- wanted signatures

addresses-wants : (s : Setting) (works : Bool) (body : Body) (addressees : State → List ℕ) (c : Call)
    → (Addresses s (signs s body c) → (to : ℕ) → In (addressees (state_of s (signs s body c).node)) to → is_other s (signs s body c).node to ≡ true) → Addresses s c → Addresses s (wants works s body addressees c)
unfolding wants signs_and_sends
addresses-wants s works body addressees c known h =
    let c1 : Call = signs s body c in
    let all : List ℕ = addressees (state_of s c1.node) in
    let d : Datagram = kinds.Records s.me (own_record s c.node body ∷ []) in
    let h1 : Addresses s c1 = addresses-signs s body c h in
    cond_both (is_used_up s c.node) (tells s (told.Exhausted c.node.stored.next) c) (cond works (sends_to_all s all d c1) (stops s c)) (Addresses s)
    (λ up. addresses-tells s (told.Exhausted c.node.stored.next) c h)
    (λ left. cond_both works (sends_to_all s all d c1) (stops s c) (Addresses s) (λ yes. addresses-sends_to_all s all d c1 (known h1) h1) (λ no. addresses-stops s c h))

-- ---- records

addresses-gives_note : (s : Setting) (works : Bool) (note : Option NoteBody) (c : Call) → Addresses s c → Addresses s (gives_note works s note c)
addresses-gives_note s works None c h = h
addresses-gives_note s works (Some note) c h = addresses-wants s works (Note note) (neighbours s) c (λ h1 to i. neighbour-other s (signs s (Note note) c).node to h1.members i) h

addresses-settles : (s : Setting) (f : Option Fault) (r : Record) (c : Call) → Addresses s c → Addresses s (settles s f r c)
addresses-settles s (Some f) r c h = addresses-tells s (told.Took r.body (Some f)) c h
addresses-settles s None r c h = let what : whats.What = told.Took r.body None in addresses-takes s r (tells s what c) (addresses-tells s what c h)

addresses-judged : (s : Setting) (works : Bool) (f : Option Fault) (r : Record) (c : Call) → Addresses s c → Addresses s (judged works s f r c)
addresses-judged s works f r c h = addresses-gives_note s works (asked_with s c.node f r.body r) (settles s f r c) (addresses-settles s f r c h)

addresses-handles : (s : Setting) (works : Bool) (c : Call) (r : Record) → Addresses s c → Addresses s (handles works s c r)
unfolding handles
addresses-handles s works c r h = addresses-judged s works (refusal s c.node r) r c h

addresses-handles_all : (s : Setting) (records : List Record) (c : Call) → Addresses s c → Addresses s (handles_all s records c)
addresses-handles_all s [] c h = h
addresses-handles_all s (r ∷ records) c h = addresses-handles_all s records (handles true s c r) (addresses-handles s true c r h)

-- ---- probes and summaries

addresses-gives : (s : Setting) (to : ℕ) (records : List Record) (c : Call) → is_other s c.node to ≡ true → Addresses s c → Addresses s (gives s to records c)
addresses-gives s to [] c other h = h
addresses-gives s to (r ∷ records) c other h = addresses-sends s (kinds.Records s.me (r ∷ records)) c to other h

other-gives : (s : Setting) (to : ℕ) (records : List Record) (c : Call) → is_other s c.node to ≡ true → is_other s (gives s to records c).node to ≡ true
other-gives s to [] c other = other
other-gives s to (r ∷ records) c other = subst (λ n. is_other s n to ≡ true) (sym (node-sends s (kinds.Records s.me (r ∷ records)) c to)) other

addresses-replies : (s : Setting) (to : ℕ) (flag : Bool) (number : ℕ) (c : Call) → is_other s c.node to ≡ true → Addresses s c → Addresses s (replies s to flag number c)
addresses-replies s to true number c other h = h
addresses-replies s to false number c other h = addresses-sends s (kinds.Summary s.me true (page c.node number)) c to other h

addresses-pinged : (s : Setting) (from nonce : ℕ) (c : Call) → Addresses s c → Addresses s (pinged s from nonce c)
addresses-pinged s from nonce c h =
    let c1 : Call = tells s (told.Ping from nonce) c in
    let h1 : Addresses s c1 = addresses-tells s (told.Ping from nonce) c h in
    cond_both (is_other s c.node from) (sends s (kinds.Pong s.me nonce) c1 from) c1 (Addresses s) (λ yes. addresses-sends s (kinds.Pong s.me nonce) c1 from yes h1) (λ no. h1)

addresses-ponged : (s : Setting) (from nonce : ℕ) (c : Call) → Addresses s c → Addresses s (ponged_by s from nonce c)
addresses-ponged s from nonce c h =
    let what : whats.What = told.Pong from nonce (counts c.node.probes from nonce) in
    addresses-apart s (tells s what c) (ponged_by s from nonce c) refl refl refl (addresses-tells s what c h)

addresses-exchanges : (s : Setting) (from : ℕ) (flag : Bool) (theirs : Summary) (c : Call) → Addresses s c → Addresses s (exchanges s from flag theirs c)
addresses-exchanges s from flag theirs c h =
    let c1 : Call = tells s (told.Summary from theirs.page flag) c in
    let h1 : Addresses s c1 = addresses-tells s (told.Summary from theirs.page flag) c h in
    let c2 : Call = gives s from (lacking c.node from theirs) c1 in
    cond_both (is_other s c.node from) (replies s from flag theirs.page c2) c1 (Addresses s)
    (λ yes. addresses-replies s from flag theirs.page c2 (other-gives s from (lacking c.node from theirs) c1 yes) (addresses-gives s from (lacking c.node from theirs) c1 yes h1))
    (λ no. h1)

addresses-hears : (s : Setting) (d : Result Datagram ℕ) (c : Call) → Addresses s c → Addresses s (hears s d c)
addresses-hears s (Err place) c h = addresses-tells s (told.BadForm place) c h
addresses-hears s (Ok (kinds.Ping from nonce)) c h = addresses-pinged s from nonce c h
addresses-hears s (Ok (kinds.Pong from nonce)) c h = addresses-ponged s from nonce c h
addresses-hears s (Ok (kinds.Summary from flag theirs)) c h = addresses-exchanges s from flag theirs c h
addresses-hears s (Ok (kinds.Records from records)) c h = addresses-handles_all s records c h

addresses-delivered : (s : Setting) (n : Node) (bytes : List ℕ) → Addresses s (begun n) → Addresses s (delivered s n bytes)
unfolding delivered
addresses-delivered s n bytes h = addresses-hears s (read_of bytes) (begun n) h

-- ---- ticks

addresses-accuses : (s : Setting) (works : Bool) (c : Call) (m : ℕ) → Addresses s c → Addresses s (accuses works s c m)
unfolding accuses
addresses-accuses s works c m h =
    cond_both (has_accused s (state_of s c.node) m) c (wants_accusation works s m (ring_for s (state_of s c.node) m) (tells s (told.Silent m) c)) (Addresses s)
    (λ yes. h) (λ no. on (ring_for s (state_of s c.node) m) (tells s (told.Silent m) c) refl (addresses-tells s (told.Silent m) c h))
  where
    on : (ring : Option ℕ) (x : Call) → ring_for s (state_of s x.node) m ≡ ring → Addresses s x → Addresses s (wants_accusation works s m ring x)
    on None x e k = k
    on (Some ring) x e k =
        let b : Body = accusation_on s (state_of s x.node) m ring in
        let later : Node = (signs s b x).node in
        let there : is_other s later m ≡ true = other-later s x.node later m (λ known. ap is_some (certificate-signs s b x m (accusation-is_none _)) ∙ known) (accused-other s x.node m ring k.members e) in
        addresses-wants s works b (neighbours_and s m) x
        (λ h1 to i.
        elim ((accused-addressed s (state_of s later) m).1 to (Contains-from_In (neighbours_and s m (state_of s later)) to i)) [
          | inl me ↦ subst (λ y. is_other s later y ≡ true) (sym me) there
          | inr next ↦ successor-other s later next.ring to h1.members next.follows
        ]) k

addresses-accuses_all : (s : Setting) (silent : List ℕ) (c : Call) → Addresses s c → Addresses s (accuses_all s silent c)
addresses-accuses_all s [] c h = h
addresses-accuses_all s (m ∷ silent) c h = addresses-accuses_all s silent (accuses true s c m) (addresses-accuses s true c m h)

addresses-pings_all : (s : Setting) (pings : List (ℕ × ℕ)) (c : Call) → ((p : ℕ × ℕ) → In pings p → is_other s c.node p.0 ≡ true) → Addresses s c → Addresses s (pings_all s pings c)
addresses-pings_all s [] c all h = h
addresses-pings_all s (p ∷ pings) c all h =
    let c1 : Call = sends s (kinds.Ping s.me p.1) c p.0 in
    addresses-pings_all s pings c1 (λ q i. subst (λ n. is_other s n q.0 ≡ true) (sym (node-sends s (kinds.Ping s.me p.1) c p.0)) (all q (inr i))) (addresses-sends s (kinds.Ping s.me p.1) c p.0 (all p (inl refl)) h)

In-at : {X : Type 0} (xs : List X) (place : ℕ) (x : X) → slice_get xs place ≡ Some x → In xs x
In-at [] place x h = cc
In-at (y ∷ ys) zero x h = inl (cc)
In-at (y ∷ ys) (suc k) x h = inr (In-at ys k x h)

-- the others with a certificate
listed-other : (s : Setting) (n : Node) (m : ℕ) → In (gossip.others (certified n) s.me) m → is_other s n m ≡ true
listed-other s n m i =
    let f = In-from_filter (λ x. not (eqb x s.me)) (certified n) m i in
    and_from _ _ (In-from_filter (is_certified n) all_numbers m f.0).1 f.1

-- of these is who is out of the view, and the round is for
outsider-other : (s : Setting) (n : Node) (heal : Option Heal) (round to : ℕ) → gossip.outsider_with heal (state_of s n) (certified n) s.me round ≡ Some to → is_other s n to ≡ true
outsider-other s n None round to h = cc
outsider-other s n (Some heal) round to h =
    let st : State = state_of s n in
    let share : ℕ = gossip.share heal st in
    let out : List ℕ = gossip.outsiders st (certified n) s.me in
    cond_both (gossip.is_outward share round) (gossip.in_turn out (round / share)) None (λ o. o ≡ Some to → is_other s n to ≡ true)
    (λ yes e. listed-other s n to (In-from_filter (λ m. not (in_view st m)) (gossip.others (certified n) s.me) to (In-at out _ to e)).0)
    (λ no e. cc)
    h

-- the partner is out of the view, the successor on a ring, or another of those with a certificate
partner-other : (s : Setting) (n : Node) (round to : ℕ) → AreCertified s n → partner s n round ≡ Some to → is_other s n to ≡ true
unfolding partner
partner-other s n round to members h = by (gossip.outsider_with s.heal (state_of s n) (certified n) s.me round) refl h
  where
    plain : ℕ
    plain = gossip.plain_round s.heal (state_of s n) round

    ring : ℕ
    ring = plain % ring_count s.group.t

    in_plain : (o : Option ℕ) → successor (state_of s n) ring s.me ≡ o → option_or o (gossip.in_turn (gossip.others (certified n) s.me) plain) ≡ Some to → is_other s n to ≡ true
    in_plain (Some v) e is = successor-other s n ring to members (e ∙ is)
    in_plain None e is = listed-other s n to (In-at (gossip.others (certified n) s.me) _ to is)

    by : (o : Option ℕ) → gossip.outsider_with s.heal (state_of s n) (certified n) s.me round ≡ o → option_or o (gossip.partner s.group.t (state_of s n) (certified n) s.me plain) ≡ Some to → is_other s n to ≡ true
    by (Some v) e is = outsider-other s n s.heal round to (e ∙ is)
    by None e is = in_plain (successor (state_of s n) ring s.me) refl is

addresses-summary : (s : Setting) (round : ℕ) (to : Option ℕ) (c : Call) → partner s c.node round ≡ to → Addresses s c → Addresses s (summary_to s round to c)
addresses-summary s round None c e h = h
addresses-summary s round (Some to) c e h = addresses-sends s (kinds.Summary s.me false (page c.node (page_number s c.node round))) c to (partner-other s c.node round to h.members e) h

addresses-probed : (s : Setting) (n : Node) → Addresses s (begun n) → Addresses s (probed_at s n)
unfolding probed_at passed
addresses-probed s n h =
    addresses-apart s (lives s Passes (begun n)) (probed_at s n) refl refl refl (addresses-passes s (begun n) h)

addresses-spreads_all : (s : Setting) (records : List Record) (c : Call) → Addresses s c → Addresses s (spreads_all s records c)
addresses-spreads_all s [] c h = h
addresses-spreads_all s (r ∷ records) c h =
    addresses-sends_to_all s (neighbours s (state_of s c.node)) (kinds.Records s.me (r ∷ records)) c (λ to i. neighbour-other s c.node to h.members i) h

addresses-spreads : (s : Setting) (c : Call) → Addresses s c → Addresses s (spreads s c)
unfolding spreads
addresses-spreads s c h =
    let c1 : Call = spreads_all s (fresh c.node) c in
    addresses-apart s c1 (record c1 { node = record c1.node { news = [] } }) refl refl refl (addresses-spreads_all s (fresh c.node) c h)

addresses-spread : (s : Setting) (n : Node) → Addresses s (begun n) → Addresses s (spread_at s n)
unfolding spread_at
addresses-spread s n h = addresses-spreads s (probed_at s n) (addresses-probed s n h)

certificate-spreads : (s : Setting) (c : Call) (m : ℕ) → certificate_of (spreads s c).node m ≡ certificate_of c.node m
unfolding certificate_of
certificate-spreads s c m = ap (λ (n : Node). option_and_then (λ r. certificate_in r.body) (n.held (keys.Certificate m))) (node-spreads s c)

addresses-due : (s : Setting) (accused : List ℕ) (pings : List (ℕ × ℕ)) (round : ℕ) (c : Call) → ((p : ℕ × ℕ) → In pings p → is_other s c.node p.0 ≡ true) → Addresses s c → Addresses s (due_tick s accused pings round c)
unfolding due_tick
addresses-due s accused pings round c all h =
    let c0 : Call = spreads s c in
    let c1 : Call = accuses_all s accused c0 in
    let c2 : Call = pings_all s pings c1 in
    let follows = keeps-accuses_all s (λ x. Follows s c0.node x.node) (following s c0.node) accused c0 (follows-itself s c0.node) in
    let all0 : (p : ℕ × ℕ) → In pings p → is_other s c0.node p.0 ≡ true = λ p i. other-later s c.node c0.node p.0 (λ known. ap is_some (certificate-spreads s c p.0) ∙ known) (all p i) in
    let all1 : (p : ℕ × ℕ) → In pings p → is_other s c1.node p.0 ≡ true = λ p i. other-later s c0.node c1.node p.0 (certified-kept s c0.node c1.node p.0 follows) (all0 p i) in
    addresses-summary s round (partner s c2.node round) c2 refl (addresses-pings_all s pings c1 all1 (addresses-accuses_all s accused c0 (addresses-spreads s c h)))

-- each ping is of one that is watched
In-pings_from : (nonces : ℕ → ℕ) (k : ℕ) (watched : List Watched) (p : ℕ × ℕ) → In (pings_from nonces k watched) p → (w : Watched) × (In watched w × (w.member ≡ p.0))
In-pings_from nonces k [] p i = absurd i
In-pings_from nonces k (w ∷ watched) p i =
    elim i [
      | inl e ↦ (w, (inl refl, ap (λ (q : ℕ × ℕ). q.0) e))
      | inr j ↦ let r = In-pings_from nonces (k + 1) watched p j in (r.0, (inr r.1.0, r.1.1))
    ]

watched-other : (s : Setting) (n : Node) (w : Watched) → AreCertified s n → In (watched_by s (state_of s n)) w → is_other s n w.member ≡ true
watched-other s n w members i =
    let st : State = state_of s n in
    let x = In-from_map (as_watched st) (filter (is_watched s.group.t st s.me) all_numbers) w i in
    let here = In-from_filter (is_watched s.group.t st s.me) all_numbers x.0 x.1.0 in
    let is : is_watched s.group.t st s.me w.member ≡ true = subst (λ k. is_watched s.group.t st s.me k ≡ true) (ap (λ (y : Watched). y.member) x.1.1) here.1 in
    let h = watches s st w.member is in
    other-from s n w.member (viewed-certified s n w.member members h.viewed) h.other

pinged-other : (s : Setting) (n : Node) (p : ℕ × ℕ) → AreCertified s n → In (pings_in s n (state_of s n)) p → is_other s n p.0 ≡ true
pinged-other s n p members =
    let st : State = state_of s n in
    let all : List (ℕ × ℕ) = pings_from n.probes.nonces (sent_in n.probes.happened) (watched_by s st) in
    cond_both (is_due s st) all [] (λ xs. In xs p → is_other s n p.0 ≡ true)
    (λ due i. let r = In-pings_from n.probes.nonces (sent_in n.probes.happened) (watched_by s st) p i in subst (λ m. is_other s n m ≡ true) r.1.1 (watched-other s n r.0 members r.1.0))
    (λ never i. absurd i)

addresses-passed : (s : Setting) (n : Node) → Addresses s (begun n) → Addresses s (passed s n)
unfolding passed
addresses-passed s n h = addresses-passes s (begun n) h

other-probed : (s : Setting) (n : Node) (m : ℕ) → is_other s (passed s n).node m ≡ true → is_other s (probed_at s n).node m ≡ true
unfolding probed_at certificate_of
other-probed s n m h = h

addresses-ticked : (s : Setting) (n : Node) → Addresses s (begun n) → Addresses s (ticked s n)
unfolding ticked
addresses-ticked s n h =
    let p : Node = (passed s n).node in
    let st : State = state_of s p in
    let h0 : Addresses s (passed s n) = addresses-passed s n h in
    let h1 : Addresses s (probed_at s n) = addresses-probed s n h in
    cond_both (is_due s st) (due_tick s (silent_in s p st) (pings_in s p st) (round_of s st) (probed_at s n)) (probed_at s n) (Addresses s)
    (λ due. addresses-due s (silent_in s p st) (pings_in s p st) (round_of s st) (probed_at s n) (λ q i. other-probed s n q.0 (pinged-other s p q h0.members i)) h1)
    (λ never. h1)

-- ---- leaving

addresses-leaves : (s : Setting) (works : Bool) (c : Call) → Addresses s c → Addresses s (leaves works s c)
unfolding leaves
addresses-leaves s works c h =
    let b : Body = leaving s c.node.stored in
    addresses-wants s works b (neighbours s) c (λ h1 to i. neighbour-other s (signs s b c).node to h1.members i) h

addresses-left : (s : Setting) (n : Node) → Addresses s (begun n) → Addresses s (left s n)
unfolding left
addresses-left s n h = addresses-leaves s true (begun n) h

-- ---- calls, and lives

addresses-begun : (s : Setting) (n : Node) → AreCertified s n → Addresses s (begun n)
addresses-begun s n members = record { members = members; sent = λ d i. absurd i }

addresses-call : (s : Setting) (n : Node) (i : Input) → AreCertified s n → Addresses s (call_of s n i)
addresses-call s n (Delivers bytes) members = addresses-delivered s n bytes (addresses-begun s n members)
addresses-call s n Ticks members = addresses-ticked s n (addresses-begun s n members)
addresses-call s n Leaves members = addresses-left s n (addresses-begun s n members)

certified-calls : (s : Setting) (n : Node) (inputs : List Input) → AreCertified s n → AreCertified s (after_calls s n inputs)
certified-calls s n [] members = members
certified-calls s n (i ∷ inputs) members = certified-calls s (call_of s n i).node inputs (addresses-call s n i members).members

addresses-opened : (s : Setting) (records : List Record) (c : Call) → Addresses s c → Addresses s (fold (λ c r. takes s r c) c records)
addresses-opened s [] c h = h
addresses-opened s (r ∷ records) c h = addresses-opened s records (takes s r c) (addresses-takes s r c h)

blank-certified : (s : Setting) (nonces : ℕ → ℕ) (stored : Stored) → AreCertified s (blank s nonces stored)
unfolding state_of
blank-certified s nonces stored m is = absurd (false≢true is)

started-certified : (s : Setting) (nonces : ℕ → ℕ) (certificates : List Record) (stored : Stored) → AreCertified s (started s nonces certificates stored).node
unfolding started
started-certified s nonces certificates stored =
    let c : Call = opened s nonces certificates stored in
    let h : Addresses s c = addresses-opened s certificates (begun (blank s nonces stored)) (addresses-begun s (blank s nonces stored) (blank-certified s nonces stored)) in
    (addresses-signs s (first_note s stored) c h).members

certified-life : (s : Setting) (nonces : ℕ → ℕ) (certificates : List Record) (stored : Stored) (inputs : List Input) → AreCertified s (after_calls s (started s nonces certificates stored).node inputs)
certified-life s nonces certificates stored inputs = certified-calls s (started s nonces certificates stored).node inputs (started-certified s nonces certificates stored)

all-addressed : (s : Setting) (c : Call) → Addresses s c → AddressesOthers s c
all-addressed s c h = All-from_In (λ d. is_other s c.node d.0 ≡ true) c.sent h.sent

pub call-addresses : (s : Setting) (nonces : ℕ → ℕ) (certificates : List Record) (stored : Stored) (inputs : List Input) (i : Input)
    → AddressesOthers s (call_of s (after_calls s (started s nonces certificates stored).node inputs) i)
call-addresses s nonces certificates stored inputs i =
    let n : Node = after_calls s (started s nonces certificates stored).node inputs in
    all-addressed s (call_of s n i) (addresses-call s n i (certified-life s nonces certificates stored inputs))

pub delivered_until-addresses : (s : Setting) (nonces : ℕ → ℕ) (certificates : List Record) (stored : Stored) (inputs : List Input) (records : List Record) (r : Record)
    → AddressesOthers s (delivered_until s (after_calls s (started s nonces certificates stored).node inputs) records r)
unfolding delivered_until
delivered_until-addresses s nonces certificates stored inputs records r =
    let n : Node = after_calls s (started s nonces certificates stored).node inputs in
    let c : Call = handles_all s records (begun n) in
    all-addressed s (handles false s c r) (addresses-handles s false c r (addresses-handles_all s records (begun n) (addresses-begun s n (certified-life s nonces certificates stored inputs))))

pub ticked_until-addresses : (s : Setting) (nonces : ℕ → ℕ) (certificates : List Record) (stored : Stored) (inputs : List Input) (silent : List ℕ) (m : ℕ)
    → AddressesOthers s (ticked_until s (after_calls s (started s nonces certificates stored).node inputs) silent m)
unfolding ticked_until
ticked_until-addresses s nonces certificates stored inputs silent m =
    let n : Node = after_calls s (started s nonces certificates stored).node inputs in
    let c : Call = accuses_all s silent (spread_at s n) in
    all-addressed s (accuses false s c m) (addresses-accuses s false c m (addresses-accuses_all s silent (spread_at s n) (addresses-spread s n (addresses-begun s n (certified-life s nonces certificates stored inputs)))))

pub left_until-addresses : (s : Setting) (nonces : ℕ → ℕ) (certificates : List Record) (stored : Stored) (inputs : List Input) → AddressesOthers s (left_until s (after_calls s (started s nonces certificates stored).node inputs))
unfolding left_until
left_until-addresses s nonces certificates stored inputs =
    let n : Node = after_calls s (started s nonces certificates stored).node inputs in
    all-addressed s (leaves false s (begun n)) (addresses-leaves s false (begun n) (addresses-begun s n (certified-life s nonces certificates stored inputs)))

-- ---- ports

certified-is : (o : Option CertBody) → is_some o ≡ true → (x : CertBody) × (o ≡ Some x)
certified-is None h = absurd (false≢true h)
certified-is (Some x) h = (x, refl)

-- what is held where a certificate is found
held-certificate : (o : Option Record) (x : CertBody) → option_and_then (λ r. certificate_in r.body) o ≡ Some x → (r : Record) × ((o ≡ Some r) × (r.body ≡ Certificate x))
held-certificate None x h = cc
held-certificate (Some r) x h = (r, (refl, by r.body refl h))
  where
    by : (b : Body) → r.body ≡ b → certificate_in b ≡ Some x → r.body ≡ Certificate x
    by (Certificate y) e is = e ∙ cc
    by (Note y) e is = cc
    by (Accusation y) e is = cc

has-port : (n : Node) (m : ℕ) → ((k : RecordKey) (r : Record) → n.held k ≡ Some r → IsSignedRecord r) → is_certified n m ≡ true → HasPort n m
unfolding certificate_of
has-port n m formed known =
    let c = certified-is (certificate_of n m) known in
    let r = held-certificate (n.held (keys.Certificate m)) c.0 c.1 in
    let body : IsBody (Certificate c.0) = subst IsBody r.1.1 (formed (keys.Certificate m) r.0 r.1.0).body in
    record { certificate = c.0; held = c.1; port = body.has_port }

all-and : {X : Type 0} (P : X → Type 0) (xs : List X) (x : X) → AllByRecursion P xs → P x → AllByRecursion P (xs ++ x ∷ [])
all-and P [] x all h = (h, tt)
all-and P (y ∷ ys) x all h = (all.0, all-and P ys x all.1 h)

pub addressees-ports : (l : Life) (inputs : List Input) (i : Input) → IsCorrect l → IsWithinRanges l → AllByRecursion IsOfBytes inputs → IsOfBytes i
    → AllByRecursion (λ d. HasPort (call_of l.setting (node_after l inputs) i).node d.0) (call_of l.setting (node_after l inputs) i).sent
addressees-ports l inputs i correct ranges bytes last =
    let s : Setting = l.setting in
    let c : Call = call_of s (node_after l inputs) i in
    let later : node_after l (inputs ++ i ∷ []) ≡ c.node = calls-append s (node_after l []) inputs (i ∷ []) in
    let formed = (sendable l (inputs ++ i ∷ []) correct ranges (all-and IsOfBytes inputs i bytes last)).held in
    let h : Addresses s c = addresses-call s (node_after l inputs) i (certified-life s l.nonces l.certificates l.stored inputs) in
    All-from_In (λ d. HasPort c.node d.0) c.sent (λ d j. subst (λ n. HasPort n d.0) later (has-port (node_after l (inputs ++ i ∷ [])) d.0 formed (subst (λ n. is_certified n d.0 ≡ true) (sym later) (and_parts _ _ (h.sent d j)).0)))
