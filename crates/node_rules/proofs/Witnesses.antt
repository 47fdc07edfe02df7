-- Each event of a life comes of a record that the life has come by.
use Rattle.std.proofs.Common.{◌≡◌, ℕ, ◌+◌, ◌≤◌, ◌<◌, Bool, true, false, eqb, inl, inr, List, [], ◌∷◌, ◌++◌, Option, Some, None, refl, ap, sym, ◌∙◌, subst}
use Rattle.std.specs.Prelude.{◌&&◌, Result, Ok, Err, filter_map, option_map}
use Rattle.std.specs.List.{AllByRecursion, list_any}
use Rattle.std.proofs.lemmas.Bool.{cond_both, and_parts}
use Rattle.ff_ids.specs.declared.AccBody.{AccBody}
use Rattle.ff_ids.specs.declared.NoteBody.{NoteBody}
use Rattle.ff_ids.specs.declared.Fault.{Fault}
use Rattle.ff_ids.specs.declared.summary.Summary.{Summary}
use Rattle.ff_ids.specs.Views.{State}
use Rattle.ff_ids.specs.Faults.{note_fault, accusation_fault}
use Rattle.ff_ids.specs.Steps.{Event, Joins, Notes, Accuses, Ticks as Passes}
use Rattle.life_laws.proofs.Lists.{In, In-from_Contains, Contains-from_In, In-append_left, In-append_right}
use Rattle.records.specs.declared.keys.Key.{Key}
use Rattle.records.specs.declared.Body.{Body}
use Rattle.records.specs.declared.Body.TheVariants.{Certificate, Note, Accusation}
use Rattle.records.specs.declared.CertBody.{CertBody}
use Rattle.records.specs.declared.Record.{Record}
use Rattle.epoch_store.specs.declared.Stored.{Stored}
use Rattle.datagram.specs.declared.Datagram.{Datagram}
use Rattle.datagram.specs.declared.Datagram.TheVariants as kinds
use Rattle.datagram.specs.Grammar.{read_of}
use Rattle.detector.specs.Silence.{History, counts, ponged, ticked as probed}
use Rattle.journal.specs.declared.event.Event as journal
use Rattle.journal.specs.declared.event.What as whats
use Rattle.journal.specs.declared.event.What.TheVariants as told
use Rattle.validate.specs.Table.{certificate_fault, signature_fault}
use Rattle.node_rules.specs.Nodes.{Setting, Node, state_of, event_of, certificate_of, public_key_of, neighbours, neighbours_and}
use Rattle.node_rules.specs.Pages.{page, partner, page_number, lacking}
use Rattle.node_rules.specs.Refusals.{refusal, refusal_of}
use Rattle.node_rules.specs.Calls.{Call, begun, tells, lives, takes, spends, signs, signs_and_sends, wants, stops, sends, sends_to_all, is_used_up, own_record}
use Rattle.node_rules.specs.Deliveries.{answer_to, answering_note, returning_note, may_rise, is_told, asked_of, asked_with, gives_note, judged, handles, handles_all, is_other, gives, replies, exchanges, pinged, ponged_by, hears, delivered}
use Rattle.node_rules.specs.Ticking.{accusation_on, ring_for, has_accused, wants_accusation, accuses, accuses_all, fresh, spreads_all, spreads, is_due, begins_span, watched_by, silent_in, pings_in, pings_all, summary_to, round_of, passed, probed_at, due_tick, ticked}
use Rattle.node_rules.specs.Replies.{first_mask}
use Rattle.node_rules.specs.Starting.{blank, opened, started}
use Rattle.node_rules.specs.Leaving.{leaving, leaves, left}
use Rattle.node_rules.specs.Lives.{is_certificate_for, Input, Delivers, Ticks, call_of, after_calls, Leaves}
use Rattle.node_rules.specs.Vouching.{IsVouchedAmong, IsVouched, OwnSignaturesVerify, IsCertifiedBy}
use Rattle.node_rules.specs.Verdicts.{records_in, when_handled}
use Rattle.node_rules.specs.Known.{made_by, signed_in, accepted_of, accepted_in, gathered}
use Rattle.node_rules.proofs.Small.{stored-takes}
use Rattle.node_rules.proofs.OwnNote.{option_or-none}
use Rattle.node_rules.proofs.Carrying.{AsksBack}
use Rattle.node_rules.proofs.Accusations.{own_accusation}
use Rattle.node_rules.proofs.Handling.{node-handles}
use Rattle.node_rules.proofs.OwnKey.{stored-opened}
use Rattle.node_rules.proofs.Growth.{Follows, follows-itself, following, follows-signs, certificate-signs, note-is_none}
use Rattle.node_rules.proofs.Gathering.{IsIn, Grown, grown-tells, grown-lives, grown-takes, grown-sends, in-more, own-signed, accepted-here, accepted-later, in-both}
use Rattle.node_rules.proofs.Correctness.{KeepsAll, Verifies, verified, key-follows, index-left, keeping-all, all-started, Certifies, takes_all}

-- ---- a witness

-- A record that is known, or signed in the call, has this body and verifies under the author's key.
record Witness (s : Setting) (base : List Record) (c : Call) (author : Option Key) (body : Body) : Type 0 where
  rec : Record
  here : IsIn base s c rec
  says : rec.body ≡ body
  key : Key
  author_is : author ≡ Some key
  verifies : s.verifies key rec ≡ true

-- Each event but a tick has one.
abbrev Witnessed : Setting → List Record → Call → Event → Type 0
Witnessed s base c (Joins number places) = (x : CertBody) × ((x.member ≡ number) × Witness s base c (Some s.authority) (Certificate x))
Witnessed s base c (Notes note) = Witness s base c (public_key_of c.node note.member) (Note note)
Witnessed s base c (Accuses a) = Witness s base c (public_key_of c.node a.accuser) (Accusation a)
Witnessed s base c Passes = Unit {0}

-- A correct node's call, of whose life each event has one.
record Vouched (s : Setting) (own : Key) (base : List Record) (c : Call) : Type 0 where
  all : KeepsAll s own c.node
  events : AllByRecursion (Witnessed s base c) c.node.lived

witness-more : (s : Setting) (base : List Record) (c d : Call) (author later : Option Key) (body : Body) → Grown s c d → ((key : Key) → author ≡ Some key → later ≡ Some key) → Witness s base c author body → Witness s base d later body
witness-more s base c d author later body g stays w =
    record { rec = w.rec; here = in-more s c d base w.rec g w.here; says = w.says; key = w.key; author_is = stays w.key w.author_is; verifies = w.verifies }

witnessed-more : (s : Setting) (base : List Record) (c d : Call) → Grown s c d → Follows s c.node d.node → (e : Event) → Witnessed s base c e → Witnessed s base d e
witnessed-more s base c d g f (Joins number places) w = (w.0, (w.1.0, witness-more s base c d (Some s.authority) (Some s.authority) (Certificate w.0) g (λ key e. e) w.1.1))
witnessed-more s base c d g f (Notes note) w = witness-more s base c d (public_key_of c.node note.member) (public_key_of d.node note.member) (Note note) g (λ key e. key-follows s c.node d.node note.member key f e) w
witnessed-more s base c d g f (Accuses a) w = witness-more s base c d (public_key_of c.node a.accuser) (public_key_of d.node a.accuser) (Accusation a) g (λ key e. key-follows s c.node d.node a.accuser key f e) w
witnessed-more s base c d g f Passes w = tt

all-more : (s : Setting) (base : List Record) (c d : Call) → Grown s c d → Follows s c.node d.node → (events : List Event) → AllByRecursion (Witnessed s base c) events → AllByRecursion (Witnessed s base d) events
all-more s base c d g f [] all = tt
all-more s base c d g f (e ∷ events) all = (witnessed-more s base c d g f e all.0, all-more s base c d g f events all.1)

all-push : {X : Type 0} (P : X → Type 0) (xs : List X) (x : X) → AllByRecursion P xs → P x → AllByRecursion P (xs ++ x ∷ [])
all-push P [] x all h = (h, tt)
all-push P (y ∷ xs) x all h = (all.0, all-push P xs x all.1 h)

-- The life is the same.
vouched-same : (s : Setting) (own : Key) (base : List Record) (c d : Call) → Grown s c d → Follows s c.node d.node → KeepsAll s own d.node → d.node.lived ≡ c.node.lived → Vouched s own base c → Vouched s own base d
vouched-same s own base c d g f all lived h = record { all = all; events = subst (AllByRecursion (Witnessed s base d)) (sym lived) (all-more s base c d g f c.node.lived h.events) }

-- The life has one event more.
vouched-event : (s : Setting) (own : Key) (base : List Record) (e : Event) (c d : Call) → Grown s c d → Follows s c.node d.node → KeepsAll s own d.node → d.node.lived ≡ c.node.lived ++ e ∷ [] → Witnessed s base d e
    → Vouched s own base c → Vouched s own base d
vouched-event s own base e c d g f all lived w h =
    record { all = all; events = subst (AllByRecursion (Witnessed s base d)) (sym lived) (all-push (Witnessed s base d) c.node.lived e (all-more s base c d g f c.node.lived h.events) w) }

-- ---- what a correct node is, for these steps

record Signs (s : Setting) (own : Key) : Type 0 where
  some : 1 ≤ s.group.t
  sign : OwnSignaturesVerify s own

vouched-tells : (s : Setting) (own : Key) (base : List Record) (what : whats.What) (c : Call) → Vouched s own base c → Vouched s own base (tells s what c)
vouched-tells s own base what c h = vouched-same s own base c (tells s what c) (grown-tells s what c) (follows-itself s c.node) h.all refl h

grown-again : (s : Setting) (c d : Call) → d.told ≡ c.told → Grown s c d
grown-again s c d e = record { signed = λ r i. subst (λ xs. In xs r) (ap (filter_map (λ (e : journal.Event). made_by s e.what)) (sym e)) i }

vouched-stops : (s : Setting) (own : Key) (base : List Record) (c : Call) → Vouched s own base c → Vouched s own base (stops s c)
vouched-stops s own base c h =
    let c1 : Call = tells s told.Stopped c in
    let h1 : Vouched s own base c1 = vouched-tells s own base told.Stopped c h in
    vouched-same s own base c1 (stops s c) (grown-again s c1 (stops s c) refl) (follows-itself s c.node) h1.all refl h1

lived-sends : (s : Setting) (d : Datagram) (c : Call) (to : ℕ) → (sends s d c to).node.lived ≡ c.node.lived
unfolding sends
lived-sends s d c to = refl

vouched-sends : (s : Setting) (own : Key) (base : List Record) → Signs s own → (d : Datagram) (c : Call) (to : ℕ) → Vouched s own base c → Vouched s own base (sends s d c to)
vouched-sends s own base k d c to h =
    vouched-same s own base c (sends s d c to) (grown-sends s d c to) ((following s c.node).sent d c to (follows-itself s c.node)) ((keeping-all s own k.some k.sign).sent d c to h.all) (lived-sends s d c to) h

vouched-sends_to_all : (s : Setting) (own : Key) (base : List Record) → Signs s own → (addressees : List ℕ) (d : Datagram) (c : Call) → Vouched s own base c → Vouched s own base (sends_to_all s addressees d c)
vouched-sends_to_all s own base k [] d c h = h
vouched-sends_to_all s own base k (to ∷ addressees) d c h = vouched-sends_to_all s own base k addressees d (sends s d c to) (vouched-sends s own base k d c to h)

vouched-probes : (s : Setting) (own : Key) (base : List Record) → Signs s own → (p : History) (c : Call) → Vouched s own base c → Vouched s own base (record c { node = record c.node { probes = p } })
vouched-probes s own base k p c h =
    let d : Call = record c { node = record c.node { probes = p } } in
    vouched-same s own base c d (grown-again s c d refl) ((following s c.node).probed p c (follows-itself s c.node)) ((keeping-all s own k.some k.sign).probed p c h.all) refl h

vouched-spanned : (s : Setting) (own : Key) (base : List Record) → Signs s own → (c : Call) → Vouched s own base c → Vouched s own base (record c { node = record c.node { since = c.node.stored.epoch } })
vouched-spanned s own base k c h =
    let d : Call = record c { node = record c.node { since = c.node.stored.epoch } } in
    vouched-same s own base c d (grown-again s c d refl) ((following s c.node).spanned c (follows-itself s c.node)) ((keeping-all s own k.some k.sign).spanned c h.all) refl h

vouched-spread : (s : Setting) (own : Key) (base : List Record) → Signs s own → (c : Call) → Vouched s own base c → Vouched s own base (record c { node = record c.node { news = [] } })
vouched-spread s own base k c h =
    let d : Call = record c { node = record c.node { news = [] } } in
    vouched-same s own base c d (grown-again s c d refl) ((following s c.node).spread c (follows-itself s c.node)) ((keeping-all s own k.some k.sign).spread c h.all) refl h

lived-lives : (s : Setting) (e : Event) (c : Call) → (lives s e c).node.lived ≡ c.node.lived ++ e ∷ []
unfolding lives
lived-lives s e c = refl

vouched-passes : (s : Setting) (own : Key) (base : List Record) → Signs s own → (c : Call) → Vouched s own base c → Vouched s own base (lives s Passes c)
vouched-passes s own base k c h =
    vouched-event s own base Passes c (lives s Passes c) (grown-lives s Passes c) ((following s c.node).passed c (follows-itself s c.node)) ((keeping-all s own k.some k.sign).passed c h.all) (lived-lives s Passes c) tt h

-- ---- an accepted record

lived-takes : (s : Setting) (r : Record) (c : Call) → (takes s r c).node.lived ≡ c.node.lived ++ event_of s r.body ∷ []
unfolding takes lives
lived-takes s r c = refl

witness-of : (s : Setting) (base : List Record) (c : Call) (author later : Option Key) (r : Record) (b : Body) → IsIn base s c r → r.body ≡ b → Verifies s author r → ((key : Key) → author ≡ Some key → later ≡ Some key) → Witness s base c later b
witness-of s base c author later r b here is v stays = record { rec = r; here = here; says = is; key = v.key; author_is = stays v.key v.author_is; verifies = v.verifies }

accepted-witnessed : (s : Setting) (base : List Record) (n : Node) (d : Call) (r : Record) (b : Body) → r.body ≡ b → refusal s n r ≡ None → Follows s n d.node → IsIn base s d r → Witnessed s base d (event_of s b)
unfolding refusal
accepted-witnessed s base n d r (Certificate x) is fine f here =
    let fine2 : refusal_of s n r (Certificate x) ≡ None = sym (ap (refusal_of s n r) is) ∙ fine in
    (x, (refl, witness-of s base d (Some s.authority) (Some s.authority) r (Certificate x) here is (verified s (Some s.authority) r (option_or-none (certificate_fault (certificate_of n x.member) x) _ fine2).1) (λ key e. e)))
accepted-witnessed s base n d r (Note x) is fine f here =
    let fine2 : refusal_of s n r (Note x) ≡ None = sym (ap (refusal_of s n r) is) ∙ fine in
    let parts = option_or-none (note_fault s.group.t (state_of s n) x) _ fine2 in
    witness-of s base d (public_key_of n x.member) (public_key_of d.node x.member) r (Note x) here is (verified s (public_key_of n x.member) r (option_or-none (signature_fault s.verifies (public_key_of n x.member) r) _ parts.1).0) (λ key e. key-follows s n d.node x.member key f e)
accepted-witnessed s base n d r (Accusation a) is fine f here =
    let fine2 : refusal_of s n r (Accusation a) ≡ None = sym (ap (refusal_of s n r) is) ∙ fine in
    witness-of s base d (public_key_of n a.accuser) (public_key_of d.node a.accuser) r (Accusation a) here is (verified s (public_key_of n a.accuser) r (option_or-none (accusation_fault s.group.t (state_of s n) a) _ fine2).1) (λ key e. key-follows s n d.node a.accuser key f e)

vouched-takes : (s : Setting) (own : Key) (base : List Record) → Signs s own → (r : Record) (c : Call) → refusal s c.node r ≡ None → IsIn base s c r → Vouched s own base c → Vouched s own base (takes s r c)
vouched-takes s own base k r c fine here h =
    let d : Call = takes s r c in
    let g : Grown s c d = grown-takes s r c in
    let f : Follows s c.node d.node = (following s c.node).taken r c fine (follows-itself s c.node) in
    vouched-event s own base (event_of s r.body) c d g f ((keeping-all s own k.some k.sign).taken r c fine h.all) (lived-takes s r c) (accepted-witnessed s base c.node d r r.body refl fine f (in-more s c d base r g here)) h

-- ---- an own signature

IsOwnBody : Setting → Body → Type 0
IsOwnBody s (Certificate c) = ⊥
IsOwnBody s (Note note) = note.member ≡ s.me
IsOwnBody s (Accusation a) = a.accuser ≡ s.me

lived-signs : (s : Setting) (b : Body) (c : Call) → (signs s b c).node.lived ≡ c.node.lived ++ event_of s b ∷ []
unfolding signs takes lives
lived-signs s b c = refl

grown-then : (s : Setting) (c d e : Call) → Grown s c d → Grown s d e → Grown s c e
grown-then s c d e g h = record { signed = λ r i. h.signed r (g.signed r i) }

grown-spends : (s : Setting) (b : Body) (c : Call) → Grown s c (spends s b c)
grown-spends s b c = grown-then s c (tells s (told.Spent c.node.stored.next b) c) (spends s b c) (grown-tells s (told.Spent c.node.stored.next b) c) (grown-again s (tells s (told.Spent c.node.stored.next b) c) (spends s b c) refl)

grown-signs : (s : Setting) (b : Body) (c : Call) → Grown s c (signs s b c)
unfolding signs
grown-signs s b c = grown-then s c (spends s b c) (takes s (own_record s c.node b) (spends s b c)) (grown-spends s b c) (grown-takes s (own_record s c.node b) (spends s b c))

own-in : (s : Setting) (base : List Record) (b : Body) (c : Call) → IsIn base s (signs s b c) (own_record s c.node b)
unfolding signs
own-in s base b c = inr ((grown-takes s (own_record s c.node b) (spends s b c)).signed (own_record s c.node b) (own-signed s b c))

own-witnessed : (s : Setting) (own : Key) (base : List Record) → Signs s own → (b : Body) (c d : Call) → IsOwnBody s b → c.node.stored.next < s.indexes → public_key_of c.node s.me ≡ Some own → Follows s c.node d.node → IsIn base s d (own_record s c.node b)
    → Witnessed s base d (event_of s b)
unfolding IsOwnBody
own-witnessed s own base k (Certificate x) c d mine left key f here = absurd mine
own-witnessed s own base k (Note x) c d mine left key f here =
    record { rec = own_record s c.node (Note x); here = here; says = refl; key = own; author_is = key-follows s c.node d.node x.member own f (ap (public_key_of c.node) mine ∙ key); verifies = k.sign c.node.stored.next (Note x) left }
own-witnessed s own base k (Accusation a) c d mine left key f here =
    record { rec = own_record s c.node (Accusation a); here = here; says = refl; key = own; author_is = key-follows s c.node d.node a.accuser own f (ap (public_key_of c.node) mine ∙ key); verifies = k.sign c.node.stored.next (Accusation a) left }

not_own_certificate : (s : Setting) (b : Body) (x : CertBody) → IsOwnBody s b → b ≡ Certificate x → ⊥
unfolding IsOwnBody
not_own_certificate s (Certificate c) x mine is = mine
not_own_certificate s (Note note) x mine is = cc
not_own_certificate s (Accusation a) x mine is = cc

-- a signature with an index that is left; that the node stays correct is known otherwise
vouched-signs : (s : Setting) (own : Key) (base : List Record) → Signs s own → (b : Body) (c : Call) → IsOwnBody s b → is_used_up s c.node ≡ false → KeepsAll s own (signs s b c).node → Vouched s own base c → Vouched s own base (signs s b c)
vouched-signs s own base k b c mine left all h =
    let d : Call = signs s b c in
    let f : Follows s c.node d.node = follows-signs s c.node b c (λ x is. not_own_certificate s b x mine is) (follows-itself s c.node) in
    vouched-event s own base (event_of s b) c d (grown-signs s b c) f all (lived-signs s b c) (own-witnessed s own base k b c d mine (index-left s c.node left h.all.within) h.all.own_key f (own-in s base b c)) h

vouched-wants : (s : Setting) (own : Key) (base : List Record) → Signs s own → (body : Body) (addressees : State → List ℕ) (c : Call) → (is_used_up s c.node ≡ false → Vouched s own base (signs s body c)) → Vouched s own base c
    → Vouched s own base (wants true s body addressees c)
unfolding wants signs_and_sends
vouched-wants s own base k body addressees c signed h =
    let c1 : Call = signs s body c in
    let all : List ℕ = addressees (state_of s c1.node) in
    let d : Datagram = kinds.Records s.me (own_record s c.node body ∷ []) in
    cond_both (is_used_up s c.node) (tells s (told.Exhausted c.node.stored.next) c) (sends_to_all s all d c1) (Vouched s own base)
    (λ up. vouched-tells s own base (told.Exhausted c.node.stored.next) c h)
    (λ left. vouched-sends_to_all s own base k all d c1 (signed left))

-- ---- records

own-answer : (s : Setting) (stored : Stored) (a : AccBody) → IsOwnBody s (answer_to s stored a)
unfolding IsOwnBody
own-answer s stored a = refl

own-return : (s : Setting) (stored : Stored) → IsOwnBody s (Note (returning_note s stored))
unfolding IsOwnBody
own-return s stored = refl

vouched-accepted : (s : Setting) (own : Key) (base : List Record) → Signs s own → (r : Record) (b : Body) (c : Call) → r.body ≡ b → refusal s c.node r ≡ None → IsIn base s c r → Vouched s own base c
    → Vouched s own base (gives_note true s (asked_with s c.node None b r) (takes s r c))
vouched-accepted s own base k r (Certificate x) c is fine here h = vouched-takes s own base k r c fine here h
vouched-accepted s own base k r (Note x) c is fine here h = vouched-takes s own base k r c fine here h
vouched-accepted s own base k r (Accusation a) c is fine here h =
    let c1 : Call = takes s r c in
    let h1 : Vouched s own base c1 = vouched-takes s own base k r c fine here h in
    let kept : c1.node.stored ≡ c.node.stored = stored-takes s r c in
    cond_both (eqb a.accused s.me && may_rise s.heal c.node) (Some (answering_note s c.node.stored a)) None (λ o. Vouched s own base (gives_note true s o c1))
    (λ yes.
    let both = and_parts _ _ yes in
    vouched-wants s own base k (answer_to s c.node.stored a) (neighbours s) c1
    (λ left. subst (λ (x : Stored). Vouched s own base (signs s (answer_to s x a) c1)) kept
    (vouched-signs s own base k (answer_to s c1.node.stored a) c1 (own-answer s c1.node.stored a) left ((keeping-all s own k.some k.sign).answered r a c fine is both.0 both.1 left h.all) h1)) h1)
    (λ other. h1)

vouched-refused : (s : Setting) (own : Key) (base : List Record) → Signs s own → (fault : Fault) (r : Record) (b : Body) (c : Call) → r.body ≡ b → refusal s c.node r ≡ Some fault → Vouched s own base c
    → Vouched s own base (gives_note true s (asked_with s c.node (Some fault) b r) c)
vouched-refused s own base k fault r (Certificate x) c is e h = h
vouched-refused s own base k fault r (Note x) c is e h = h
vouched-refused s own base k fault r (Accusation a) c is e h =
    let note : NoteBody = returning_note s c.node.stored in
    cond_both (eqb a.accused s.me && may_rise s.heal c.node) (asked_of s c.node (Some fault) a r) None (λ o. Vouched s own base (gives_note true s o c))
    (λ yes.
    let both = and_parts _ _ yes in
    cond_both (is_told s c.node fault a r) (Some note) None (λ o. Vouched s own base (gives_note true s o c))
    (λ heard.
    let asks : AsksBack s c.node r a = record { fault = fault; refused = e; is = is; me = both.0; told = heard } in
    vouched-wants s own base k (Note note) (neighbours s) c
    (λ left. vouched-signs s own base k (Note note) c (own-return s c.node.stored) left ((keeping-all s own k.some k.sign).returned r a c asks both.1 left h.all) h) h)
    (λ apart. h))
    (λ other. h)

vouched-judged : (s : Setting) (own : Key) (base : List Record) → Signs s own → (f : Option Fault) (r : Record) (c : Call) → refusal s c.node r ≡ f → (f ≡ None → In base r) → Vouched s own base c → Vouched s own base (judged true s f r c)
vouched-judged s own base k (Some f) r c e here h =
    let c1 : Call = tells s (told.Took r.body (Some f)) c in
    vouched-refused s own base k f r r.body c1 refl e (vouched-tells s own base (told.Took r.body (Some f)) c h)
vouched-judged s own base k None r c e here h = vouched-accepted s own base k r r.body (tells s (told.Took r.body None) c) refl e (inl (here refl)) (vouched-tells s own base (told.Took r.body None) c h)

vouched-handles : (s : Setting) (own : Key) (base : List Record) → Signs s own → (c : Call) (r : Record) → (refusal s c.node r ≡ None → In base r) → Vouched s own base c → Vouched s own base (handles true s c r)
unfolding handles
vouched-handles s own base k c r here h = vouched-judged s own base k (refusal s c.node r) r c refl here h

vouched-handles_all : (s : Setting) (own : Key) (base : List Record) → Signs s own → (records : List Record) (c : Call) → ((r : Record) → In (accepted_of s c.node records) r → In base r) → Vouched s own base c → Vouched s own base (handles_all s records c)
vouched-handles_all s own base k [] c all h = h
vouched-handles_all s own base k (r ∷ records) c all h =
    let later : (handles true s c r).node ≡ when_handled s c.node r = node-handles true s c r in
    vouched-handles_all s own base k records (handles true s c r)
    (λ x i. all x (accepted-later s c.node r x records (subst (λ n. In (accepted_of s n records) x) later i)))
    (vouched-handles s own base k c r (λ fine. all r (accepted-here s c.node r records fine)) h)

-- ---- probes and summaries

vouched-gives : (s : Setting) (own : Key) (base : List Record) → Signs s own → (to : ℕ) (records : List Record) (c : Call) → Vouched s own base c → Vouched s own base (gives s to records c)
vouched-gives s own base k to [] c h = h
vouched-gives s own base k to (r ∷ records) c h = vouched-sends s own base k (kinds.Records s.me (r ∷ records)) c to h

vouched-replies : (s : Setting) (own : Key) (base : List Record) → Signs s own → (to : ℕ) (flag : Bool) (number : ℕ) (c : Call) → Vouched s own base c → Vouched s own base (replies s to flag number c)
vouched-replies s own base k to true number c h = h
vouched-replies s own base k to false number c h = vouched-sends s own base k (kinds.Summary s.me true (page c.node number)) c to h

vouched-pinged : (s : Setting) (own : Key) (base : List Record) → Signs s own → (from nonce : ℕ) (c : Call) → Vouched s own base c → Vouched s own base (pinged s from nonce c)
vouched-pinged s own base k from nonce c h =
    let c1 : Call = tells s (told.Ping from nonce) c in
    let h1 : Vouched s own base c1 = vouched-tells s own base (told.Ping from nonce) c h in
    cond_both (is_other s c.node from) (sends s (kinds.Pong s.me nonce) c1 from) c1 (Vouched s own base) (λ yes. vouched-sends s own base k (kinds.Pong s.me nonce) c1 from h1) (λ no. h1)

vouched-ponged : (s : Setting) (own : Key) (base : List Record) → Signs s own → (from nonce : ℕ) (c : Call) → Vouched s own base c → Vouched s own base (ponged_by s from nonce c)
vouched-ponged s own base k from nonce c h =
    let what : whats.What = told.Pong from nonce (counts c.node.probes from nonce) in
    vouched-probes s own base k (ponged c.node.probes from nonce) (tells s what c) (vouched-tells s own base what c h)

vouched-exchanges : (s : Setting) (own : Key) (base : List Record) → Signs s own → (from : ℕ) (flag : Bool) (theirs : Summary) (c : Call) → Vouched s own base c → Vouched s own base (exchanges s from flag theirs c)
vouched-exchanges s own base k from flag theirs c h =
    let c1 : Call = tells s (told.Summary from theirs.page flag) c in
    let h1 : Vouched s own base c1 = vouched-tells s own base (told.Summary from theirs.page flag) c h in
    let c2 : Call = gives s from (lacking c.node from theirs) c1 in
    cond_both (is_other s c.node from) (replies s from flag theirs.page c2) c1 (Vouched s own base) (λ yes. vouched-replies s own base k from flag theirs.page c2 (vouched-gives s own base k from (lacking c.node from theirs) c1 h1)) (λ no. h1)

vouched-hears : (s : Setting) (own : Key) (base : List Record) → Signs s own → (d : Result Datagram ℕ) (c : Call) → ((r : Record) → In (accepted_of s c.node (records_in d)) r → In base r) → Vouched s own base c → Vouched s own base (hears s d c)
vouched-hears s own base k (Err place) c all h = vouched-tells s own base (told.BadForm place) c h
vouched-hears s own base k (Ok (kinds.Ping from nonce)) c all h = vouched-pinged s own base k from nonce c h
vouched-hears s own base k (Ok (kinds.Pong from nonce)) c all h = vouched-ponged s own base k from nonce c h
vouched-hears s own base k (Ok (kinds.Summary from flag theirs)) c all h = vouched-exchanges s own base k from flag theirs c h
vouched-hears s own base k (Ok (kinds.Records from records)) c all h = vouched-handles_all s own base k records c all h

vouched-delivered : (s : Setting) (own : Key) (base : List Record) → Signs s own → (n : Node) (bytes : List ℕ) → ((r : Record) → In (accepted_of s n (records_in (read_of bytes))) r → In base r) → Vouched s own base (begun n) → Vouched s own base (delivered s n bytes)
unfolding delivered
vouched-delivered s own base k n bytes all h = vouched-hears s own base k (read_of bytes) (begun n) all h

-- ---- ticks

own-accuser : (s : Setting) (st : State) (m ring : ℕ) → IsOwnBody s (accusation_on s st m ring)
unfolding IsOwnBody
own-accuser s st m ring = refl

vouched-accuses : (s : Setting) (own : Key) (base : List Record) → Signs s own → (c : Call) (m : ℕ) → Vouched s own base c → Vouched s own base (accuses true s c m)
unfolding accuses
vouched-accuses s own base k c m h =
    cond_both (has_accused s (state_of s c.node) m) c (wants_accusation true s m (ring_for s (state_of s c.node) m) (tells s (told.Silent m) c)) (Vouched s own base)
    (λ yes. h) (λ no. on (ring_for s (state_of s c.node) m) (tells s (told.Silent m) c) (vouched-tells s own base (told.Silent m) c h))
  where
    on : (ring : Option ℕ) (x : Call) → Vouched s own base x → Vouched s own base (wants_accusation true s m ring x)
    on None x v = v
    on (Some ring) x v =
        let b : Body = accusation_on s (state_of s x.node) m ring in
        vouched-wants s own base k b (neighbours_and s m) x (λ left. vouched-signs s own base k b x (own-accuser s (state_of s x.node) m ring) left ((keeping-all s own k.some k.sign).accused (own_accusation s (state_of s x.node) m ring) x refl left v.all) v) v

vouched-accuses_all : (s : Setting) (own : Key) (base : List Record) → Signs s own → (silent : List ℕ) (c : Call) → Vouched s own base c → Vouched s own base (accuses_all s silent c)
vouched-accuses_all s own base k [] c h = h
vouched-accuses_all s own base k (m ∷ silent) c h = vouched-accuses_all s own base k silent (accuses true s c m) (vouched-accuses s own base k c m h)

vouched-spreads_all : (s : Setting) (own : Key) (base : List Record) → Signs s own → (records : List Record) (c : Call) → Vouched s own base c → Vouched s own base (spreads_all s records c)
vouched-spreads_all s own base k [] c h = h
vouched-spreads_all s own base k (r ∷ records) c h = vouched-sends_to_all s own base k (neighbours s (state_of s c.node)) (kinds.Records s.me (r ∷ records)) c h

vouched-spreads : (s : Setting) (own : Key) (base : List Record) → Signs s own → (c : Call) → Vouched s own base c → Vouched s own base (spreads s c)
unfolding spreads
vouched-spreads s own base k c h = vouched-spread s own base k (spreads_all s (fresh c.node) c) (vouched-spreads_all s own base k (fresh c.node) c h)

vouched-pings_all : (s : Setting) (own : Key) (base : List Record) → Signs s own → (pings : List (ℕ × ℕ)) (c : Call) → Vouched s own base c → Vouched s own base (pings_all s pings c)
vouched-pings_all s own base k [] c h = h
vouched-pings_all s own base k (p ∷ pings) c h = vouched-pings_all s own base k pings (sends s (kinds.Ping s.me p.1) c p.0) (vouched-sends s own base k (kinds.Ping s.me p.1) c p.0 h)

vouched-summary : (s : Setting) (own : Key) (base : List Record) → Signs s own → (round : ℕ) (to : Option ℕ) (c : Call) → Vouched s own base c → Vouched s own base (summary_to s round to c)
vouched-summary s own base k round None c h = h
vouched-summary s own base k round (Some to) c h = vouched-sends s own base k (kinds.Summary s.me false (page c.node (page_number s c.node round))) c to h

vouched-probed : (s : Setting) (own : Key) (base : List Record) → Signs s own → (n : Node) → Vouched s own base (begun n) → Vouched s own base (probed_at s n)
unfolding probed_at passed
vouched-probed s own base k n h =
    let c : Call = lives s Passes (begun n) in
    let st : State = state_of s c.node in
    let probes : History = probed c.node.probes (is_due s st) (watched_by s st) in
    let c1 : Call = record c { node = record c.node { probes = probes } } in
    let h1 : Vouched s own base c1 = vouched-probes s own base k probes c (vouched-passes s own base k (begun n) h) in
    cond_both (begins_span s st) c.node.stored.epoch c.node.since (λ since. Vouched s own base (record c1 { node = record c1.node { since = since } })) (λ yes. vouched-spanned s own base k c1 h1) (λ no. h1)

vouched-due : (s : Setting) (own : Key) (base : List Record) → Signs s own → (accused : List ℕ) (pings : List (ℕ × ℕ)) (round : ℕ) (c : Call) → Vouched s own base c → Vouched s own base (due_tick s accused pings round c)
unfolding due_tick
vouched-due s own base k accused pings round c h =
    let c0 : Call = spreads s c in
    let c1 : Call = accuses_all s accused c0 in
    let c2 : Call = pings_all s pings c1 in
    vouched-summary s own base k round (partner s c2.node round) c2 (vouched-pings_all s own base k pings c1 (vouched-accuses_all s own base k accused c0 (vouched-spreads s own base k c h)))

vouched-ticked : (s : Setting) (own : Key) (base : List Record) → Signs s own → (n : Node) → Vouched s own base (begun n) → Vouched s own base (ticked s n)
unfolding ticked
vouched-ticked s own base k n h =
    let p : Node = (passed s n).node in
    let st : State = state_of s p in
    let h1 : Vouched s own base (probed_at s n) = vouched-probed s own base k n h in
    cond_both (is_due s st) (due_tick s (silent_in s p st) (pings_in s p st) (round_of s st) (probed_at s n)) (probed_at s n) (Vouched s own base)
    (λ due. vouched-due s own base k (silent_in s p st) (pings_in s p st) (round_of s st) (probed_at s n) h1)
    (λ never. h1)

-- ---- leaving

own-leaving : (s : Setting) (stored : Stored) → IsOwnBody s (leaving s stored)
unfolding IsOwnBody
own-leaving s stored = refl

vouched-left : (s : Setting) (own : Key) (base : List Record) → Signs s own → (n : Node) → Vouched s own base (begun n) → Vouched s own base (left s n)
unfolding left leaves
vouched-left s own base k n h =
    let c : Call = begun n in
    let b : Body = leaving s n.stored in
    vouched-wants s own base k b (neighbours s) c (λ left. vouched-signs s own base k b c (own-leaving s n.stored) left ((keeping-all s own k.some k.sign).departed c left h.all) h) h

-- ---- lives

-- A correct node, of whose life each event comes of one of these records.
record Comes (s : Setting) (own : Key) (known : List Record) (n : Node) : Type 0 where
  all : KeepsAll s own n
  events : AllByRecursion (IsVouched s known n) n.lived

among : (s : Setting) (base : List Record) (c : Call) (author : Option Key) (b : Body) → Witness s base c author b → IsVouchedAmong s (base ++ signed_in s c) author b
among s base c author b w =
    record {
      vouched = record { witness = w.rec; key = w.key; says = w.says; author_is = w.author_is; verifies = w.verifies };
      come_by = Contains-from_In (base ++ signed_in s c) w.rec (in-both base s c w.rec w.here);
    }

witnessed-vouched : (s : Setting) (base : List Record) (c : Call) (e : Event) → Witnessed s base c e → IsVouched s (base ++ signed_in s c) c.node e
witnessed-vouched s base c (Joins number places) w = (w.0, (w.1.0, among s base c (Some s.authority) (Certificate w.0) w.1.1))
witnessed-vouched s base c (Notes note) w = among s base c (public_key_of c.node note.member) (Note note) w
witnessed-vouched s base c (Accuses a) w = among s base c (public_key_of c.node a.accuser) (Accusation a) w
witnessed-vouched s base c Passes w = tt

all-vouched : (s : Setting) (base : List Record) (c : Call) (events : List Event) → AllByRecursion (Witnessed s base c) events → AllByRecursion (IsVouched s (base ++ signed_in s c) c.node) events
all-vouched s base c [] all = tt
all-vouched s base c (e ∷ events) all = (witnessed-vouched s base c e all.0, all-vouched s base c events all.1)

comes-call : (s : Setting) (own : Key) (base : List Record) (c : Call) → Vouched s own base c → Comes s own (base ++ signed_in s c) c.node
comes-call s own base c h = record { all = h.all; events = all-vouched s base c c.node.lived h.events }

-- as a call begins
witnessed-begun : (s : Setting) (known base : List Record) (n : Node) → ((r : Record) → In known r → In base r) → (e : Event) → IsVouched s known n e → Witnessed s base (begun n) e
witnessed-begun s known base n within (Joins number places) v = (v.0, (v.1.0, from (Some s.authority) (Certificate v.0) v.1.1))
  where
    from : (author : Option Key) (b : Body) → IsVouchedAmong s known author b → Witness s base (begun n) author b
    from author b w =
        let f = w.vouched in
        record { rec = f.witness; here = inl (within f.witness (In-from_Contains known f.witness w.come_by)); says = f.says; key = f.key; author_is = f.author_is; verifies = f.verifies }
witnessed-begun s known base n within (Notes note) v =
    let f = v.vouched in
    record { rec = f.witness; here = inl (within f.witness (In-from_Contains known f.witness v.come_by)); says = f.says; key = f.key; author_is = f.author_is; verifies = f.verifies }
witnessed-begun s known base n within (Accuses a) v =
    let f = v.vouched in
    record { rec = f.witness; here = inl (within f.witness (In-from_Contains known f.witness v.come_by)); says = f.says; key = f.key; author_is = f.author_is; verifies = f.verifies }
witnessed-begun s known base n within Passes v = tt

all-begun : (s : Setting) (known base : List Record) (n : Node) → ((r : Record) → In known r → In base r) → (events : List Event) → AllByRecursion (IsVouched s known n) events → AllByRecursion (Witnessed s base (begun n)) events
all-begun s known base n within [] all = tt
all-begun s known base n within (e ∷ events) all = (witnessed-begun s known base n within e all.0, all-begun s known base n within events all.1)

vouched-begun : (s : Setting) (own : Key) (known base : List Record) (n : Node) → ((r : Record) → In known r → In base r) → Comes s own known n → Vouched s own base (begun n)
vouched-begun s own known base n within h = record { all = h.all; events = all-begun s known base n within n.lived h.events }

vouched-call : (s : Setting) (own : Key) (known : List Record) → Signs s own → (n : Node) (i : Input) → Comes s own known n → Vouched s own (known ++ accepted_in s n i) (call_of s n i)
vouched-call s own known k n (Delivers bytes) h =
    let accepted : List Record = accepted_of s n (records_in (read_of bytes)) in
    vouched-delivered s own (known ++ accepted) k n bytes (λ r i. In-append_right known accepted r i) (vouched-begun s own known (known ++ accepted) n (λ r i. In-append_left known accepted r i) h)
vouched-call s own known k n Ticks h = vouched-ticked s own (known ++ []) k n (vouched-begun s own known (known ++ []) n (λ r i. In-append_left known [] r i) h)
vouched-call s own known k n Leaves h = vouched-left s own (known ++ []) k n (vouched-begun s own known (known ++ []) n (λ r i. In-append_left known [] r i) h)

comes-calls : (s : Setting) (own : Key) (known : List Record) → Signs s own → (n : Node) (inputs : List Input) → Comes s own known n → Comes s own (gathered s n known inputs) (after_calls s n inputs)
comes-calls s own known k n [] h = h
comes-calls s own known k n (i ∷ inputs) h =
    let c : Call = call_of s n i in
    let next : List Record = known ++ accepted_in s n i ++ signed_in s c in
    comes-calls s own next k c.node inputs (comes-call s own (known ++ accepted_in s n i) c (vouched-call s own known k n i h))

-- ---- the start

-- A joining comes of a certificate of these, which the authority has signed.
abbrev JoinOf : Setting → List Record → Event → Type 0
JoinOf s base (Joins number places) = (x : CertBody) × ((x.member ≡ number) × ((r : Record) × (In base r × ((r.body ≡ Certificate x) × (s.verifies s.authority r ≡ true)))))
JoinOf s base (Notes note) = ⊥
JoinOf s base (Accuses a) = ⊥
JoinOf s base Passes = ⊥

kit-joins : (s : Setting) (own : Key) (base records : List Record) (c : Call) → ((r : Record) → In records r → In base r) → AllByRecursion Certifies records → AllByRecursion (IsCertifiedBy s own) records
    → AllByRecursion (JoinOf s base) c.node.lived → AllByRecursion (JoinOf s base) (takes_all s records c).node.lived
kit-joins s own base [] c within all good h = h
kit-joins s own base (r ∷ records) c within all good h =
    let x : CertBody = all.0.0 in
    let event : Event = Joins x.member (s.places x.member) in
    let lived : (takes s r c).node.lived ≡ c.node.lived ++ event ∷ [] = lived-takes s r c ∙ ap (λ b. c.node.lived ++ event_of s b ∷ []) all.0.1 in
    let v : JoinOf s base event = (x, (refl, (r, (within r (inl refl), (all.0.1, good.0.0))))) in
    kit-joins s own base records (takes s r c) (λ y i. within y (inr i)) all.1 good.1 (subst (AllByRecursion (JoinOf s base)) (sym lived) (all-push (JoinOf s base) c.node.lived event h v))

join-witnessed : (s : Setting) (base : List Record) (d : Call) (e : Event) → JoinOf s base e → Witnessed s base d e
join-witnessed s base d (Joins number places) j =
    let r = j.1.1 in
    (j.0, (j.1.0, record { rec = r.0; here = inl r.1.0; says = r.1.1.0; key = s.authority; author_is = refl; verifies = r.1.1.1 }))
join-witnessed s base d (Notes note) j = absurd j
join-witnessed s base d (Accuses a) j = absurd j
join-witnessed s base d Passes j = absurd j

joins-witnessed : (s : Setting) (base : List Record) (d : Call) (events : List Event) → AllByRecursion (JoinOf s base) events → AllByRecursion (Witnessed s base d) events
joins-witnessed s base d [] all = tt
joins-witnessed s base d (e ∷ events) all = (join-witnessed s base d e all.0, joins-witnessed s base d events all.1)

comes-started : (s : Setting) (own : Key) (nonces : ℕ → ℕ) (certificates : List Record) (stored : Stored) → Signs s own → AllByRecursion Certifies certificates → list_any (λ r. is_certificate_for s.me r.body) certificates ≡ true
    → AllByRecursion (IsCertifiedBy s own) certificates → stored.next < s.indexes → Comes s own (certificates ++ signed_in s (started s nonces certificates stored)) (started s nonces certificates stored).node
unfolding started IsOwnBody
comes-started s own nonces certificates stored k all mine good left =
    let c : Call = opened s nonces certificates stored in
    let x : NoteBody = record { member = s.me; epoch = stored.epoch + 1; mask = record { 0 = first_mask s.group.t stored.mask.0 } } in
    let b : Body = Note x in
    let d : Call = signs s b c in
    let a : KeepsAll s own d.node = all-started s own nonces certificates stored all mine good k.sign left in
    let key : public_key_of c.node s.me ≡ Some own = sym (ap (option_map (λ y. y.key)) (certificate-signs s b c s.me (note-is_none x))) ∙ a.own_key in
    let index : c.node.stored.next < s.indexes = subst (λ (x : Stored). x.next < s.indexes) (sym (stored-opened s nonces certificates stored)) left in
    let f : Follows s c.node d.node = follows-signs s c.node b c (note-is_none x) (follows-itself s c.node) in
    let joins = kit-joins s own certificates certificates (begun (blank s nonces stored)) (λ r i. i) all good tt in
    comes-call s own certificates d
    record {
      all = a;
      events = subst (AllByRecursion (Witnessed s certificates d)) (sym (lived-signs s b c))
          (all-push (Witnessed s certificates d) c.node.lived (event_of s b) (joins-witnessed s certificates d c.node.lived joins) (own-witnessed s own certificates k b c d refl index key f (own-in s certificates b c)));
    }

pub vouched-life : (s : Setting) (own : Key) (nonces : ℕ → ℕ) (certificates : List Record) (stored : Stored) (inputs : List Input) → 1 ≤ s.group.t → AllByRecursion Certifies certificates
    → list_any (λ r. is_certificate_for s.me r.body) certificates ≡ true → AllByRecursion (IsCertifiedBy s own) certificates → OwnSignaturesVerify s own → stored.next < s.indexes
    → AllByRecursion (IsVouched s (gathered s (started s nonces certificates stored).node (certificates ++ signed_in s (started s nonces certificates stored)) inputs) (after_calls s (started s nonces certificates stored).node inputs))
    (after_calls s (started s nonces certificates stored).node inputs).lived
vouched-life s own nonces certificates stored inputs some all mine good sign left =
    let k : Signs s own = record { some = some; sign = sign } in
    let known : List Record = certificates ++ signed_in s (started s nonces certificates stored) in
    (comes-calls s own known k (started s nonces certificates stored).node inputs (comes-started s own nonces certificates stored k all mine good left)).events
