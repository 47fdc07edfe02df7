-- The small steps of a call: what each spends.
use Rattle.std.proofs.Common.{◌≡◌, ◌⊎◌, ℕ, ◌+◌, ◌^◌, ◌<◌, Bool, true, false, eqb, cond, List, [], ◌∷◌, ◌++◌, Option, Some, None, inl, inr, refl, ap, sym, ◌∙◌, subst, map, arith}
use Rattle.std.specs.Prelude.{◌&&◌, Result, Ok, Err}
use Rattle.std.specs.List.{cons_option}
use Rattle.std.proofs.lemmas.Bool.{cases_Bool, cond_both}
use Rattle.std.proofs.lemmas.List.Elements.{filter_map-append}
use Rattle.ff_ids.specs.declared.AccBody.{AccBody}
use Rattle.ff_ids.specs.declared.NoteBody.{NoteBody}
use Rattle.ff_ids.specs.declared.Fault.{Fault}
use Rattle.ff_ids.specs.declared.summary.Summary.{Summary}
use Rattle.ff_ids.specs.Masks.{bits_where, ring_count}
use Rattle.ff_ids.specs.Views.{State}
use Rattle.ff_ids.specs.Steps.{Event, Report, Ticks as Passes, step}
use Rattle.records.specs.declared.Body.{Body}
use Rattle.records.specs.declared.Body.TheVariants.{Certificate, Note, Accusation}
use Rattle.records.specs.declared.Record.{Record}
use Rattle.epoch_store.specs.declared.Stored.{Stored}
use Rattle.signer.specs.Signing.{stored_after}
use Rattle.datagram.specs.declared.Datagram.{Datagram}
use Rattle.datagram.specs.declared.Datagram.TheVariants as kinds
use Rattle.datagram.specs.Spelling.{datagram_bytes}
use Rattle.detector.specs.Silence.{counts}
use Rattle.journal.specs.declared.event.Event as journal
use Rattle.journal.specs.declared.event.What as whats
use Rattle.journal.specs.declared.event.What.TheVariants as told
use Rattle.node_rules.specs.Nodes.{Setting, Node, state_of, event_of, neighbours, neighbours_and}
use Rattle.node_rules.specs.Pages.{page, partner, page_number, lacking}
use Rattle.ff_ids.proofs.BitLemmas.{bits-below}
use Rattle.rebuttal.specs.Rebuttals.{answering_mask, is_enabled_by_answer}
use Rattle.node_rules.specs.Refusals.{refusal}
use Rattle.node_rules.specs.Calls.{Call, begun, tells, told_of, lives, takes, spends, signs, signs_and_sends, wants, stops, sends, sends_to_all, is_used_up, own_record}
use Rattle.node_rules.specs.Deliveries.{answering_note, returning_note, may_rise, is_told, asked_of, asked_with, gives_note, settles, judged, handles, is_other, gives, replies, exchanges, pinged, ponged_by, hears}
use Rattle.node_rules.specs.Ticking.{accusation_on, ring_for, has_accused, wants_accusation, accuses, fresh, spreads_all, spreads, pings_all, summary_to, gossips, passed, probed_at}
use Rattle.node_rules.specs.Leaving.{leaving, leaves}
use Rattle.world_rules.specs.Settings.{Signed}
use Rattle.world_rules.specs.Steps.{signed_if_spent, signed_in}

-- Nothing is spent from the one call so far to the other.
pub record SpendsNothing (s : Setting) (c d : Call) : Type 0 where
  pub signed : signed_in s.me d.told ≡ signed_in s.me c.told
  pub stored : d.node.stored ≡ c.node.stored
  pub ended : d.ended ≡ c.ended

-- One index is spent, on this body.
pub record SpendsOne (s : Setting) (c d : Call) (body : Body) : Type 0 where
  pub signed : signed_in s.me d.told ≡ signed_in s.me c.told ++ record { who = Some s.me; index = c.node.stored.next; body = body } ∷ []
  pub stored : d.node.stored ≡ stored_after c.node.stored body
  pub ended : d.ended ≡ c.ended

pub nothing-same : (s : Setting) (c : Call) → SpendsNothing s c c
nothing-same s c = record { signed = refl; stored = refl; ended = refl }

pub nothing-then : (s : Setting) (c d e : Call) → SpendsNothing s c d → SpendsNothing s d e → SpendsNothing s c e
nothing-then s c d e x y = record { signed = y.signed ∙ x.signed; stored = y.stored ∙ x.stored; ended = y.ended ∙ x.ended }

pub one-then : (s : Setting) (c d e : Call) (body : Body) → SpendsOne s c d body → SpendsNothing s d e → SpendsOne s c e body
one-then s c d e body x y = record { signed = y.signed ∙ x.signed; stored = y.stored ∙ x.stored; ended = y.ended ∙ x.ended }

pub one-behind : (s : Setting) (c d e : Call) (body : Body) → SpendsNothing s c d → SpendsOne s d e body → SpendsOne s c e body
one-behind s c d e body x y =
    record {
      signed = y.signed ∙ ap (λ xs. xs ++ record { who = Some s.me; index = d.node.stored.next; body = body } ∷ []) x.signed
          ∙ ap (λ (k : Stored). signed_in s.me c.told ++ record { who = Some s.me; index = k.next; body = body } ∷ []) x.stored;
      stored = y.stored ∙ ap (λ k. stored_after k body) x.stored;
      ended = y.ended ∙ x.ended;
    }

nil-right : {A : Type 0} (xs : List A) → xs ++ [] ≡ xs
nil-right [] = refl
nil-right (x ∷ xs) = ap (λ ys. x ∷ ys) (nil-right xs)

signed-push : (m : ℕ) (told : List journal.Event) (e : journal.Event) → signed_in m (told ++ e ∷ []) ≡ signed_in m told ++ cons_option (signed_if_spent m e.what) []
signed-push m told e = filter_map-append (λ (x : journal.Event). signed_if_spent m x.what) told (e ∷ [])

pub nothing-tells : (s : Setting) (what : whats.What) (c : Call) → signed_if_spent s.me what ≡ None → SpendsNothing s c (tells s what c)
nothing-tells s what c none =
    record {
      signed = signed-push s.me c.told (record { moment = (state_of s c.node).moment; what = what })
          ∙ ap (λ o. signed_in s.me c.told ++ cons_option o []) none ∙ nil-right (signed_in s.me c.told);
      stored = refl;
      ended = refl;
    }

-- ---- the life

map-signed : {X : Type 0} (m moment : ℕ) (f : X → whats.What) (xs : List X) → ((x : X) → signed_if_spent m (f x) ≡ None)
    → signed_in m (map (λ what. record { moment = moment; what = what }) (map f xs)) ≡ []
map-signed m moment f [] none = refl
map-signed m moment f (x ∷ xs) none = rw (none x) (map-signed m moment f xs none)

both-signed : (m moment : ℕ) (xs ys : List whats.What) → signed_in m (map (λ what. record { moment = moment; what = what }) xs) ≡ [] → signed_in m (map (λ what. record { moment = moment; what = what }) ys) ≡ []
    → signed_in m (map (λ what. record { moment = moment; what = what }) (xs ++ ys)) ≡ []
both-signed m moment [] ys h k = k
both-signed m moment (x ∷ xs) ys h k =
    elim (cases_of (signed_if_spent m x)) [
      | inl none ↦ rw none (both-signed m moment xs ys (sym (ap (λ o. cons_option o (signed_in m (map (λ what. record { moment = moment; what = what }) xs))) none) ∙ h) k)
      | inr some ↦ absurd (not-none (signed_if_spent m x) some.0 _ some.1 h)
    ]
  where
    cases_of : (o : Option Signed) → (o ≡ None) ⊎ ((x : Signed) × (o ≡ Some x))
    cases_of None = inl refl
    cases_of (Some x) = inr (x, refl)

    not-none : (o : Option Signed) (x : Signed) (xs : List Signed) → o ≡ Some x → cons_option o xs ≡ [] → ⊥
    not-none o x xs e h = cc

report-signed : (m moment : ℕ) (r : Report) → signed_in m (told_of moment r) ≡ []
report-signed m moment r =
    both-signed m moment (map told.Expired r.expired ++ map told.Removed r.removed ++ map told.Entered r.entered) (map told.Fell r.fell)
    (both-signed m moment (map told.Expired r.expired ++ map told.Removed r.removed) (map told.Entered r.entered)
    (both-signed m moment (map told.Expired r.expired) (map told.Removed r.removed) (map-signed m moment told.Expired r.expired (λ x. refl)) (map-signed m moment told.Removed r.removed (λ x. refl)))
    (map-signed m moment told.Entered r.entered (λ x. refl)))
    (map-signed m moment told.Fell r.fell (λ x. refl))

pub nothing-lives : (s : Setting) (e : Event) (c : Call) → SpendsNothing s c (lives s e c)
unfolding lives
nothing-lives s e c =
    let moment : ℕ = (step s.group (state_of s c.node) e).state.moment in
    let report : Report = (step s.group (state_of s c.node) e).report in
    record {
      signed = filter_map-append (λ (x : journal.Event). signed_if_spent s.me x.what) c.told (told_of moment report)
          ∙ ap (λ xs. signed_in s.me c.told ++ xs) (report-signed s.me moment report) ∙ nil-right (signed_in s.me c.told);
      stored = refl;
      ended = refl;
    }

pub nothing-takes : (s : Setting) (r : Record) (c : Call) → SpendsNothing s c (takes s r c)
unfolding takes
nothing-takes s r c = let h = nothing-lives s (event_of s r.body) c in record { signed = h.signed; stored = h.stored; ended = h.ended }

-- ---- what is sent

pub nothing-sends : (s : Setting) (d : Datagram) (c : Call) (to : ℕ) → SpendsNothing s c (sends s d c to)
unfolding sends
nothing-sends s d c to = let h = nothing-tells s (told.Sent _ to (datagram_bytes d)) c refl in record { signed = h.signed; stored = h.stored; ended = h.ended }

nothing-sends_to_all : (s : Setting) (addressees : List ℕ) (d : Datagram) (c : Call) → SpendsNothing s c (sends_to_all s addressees d c)
nothing-sends_to_all s [] d c = nothing-same s c
nothing-sends_to_all s (to ∷ addressees) d c = nothing-then s c (sends s d c to) _ (nothing-sends s d c to) (nothing-sends_to_all s addressees d (sends s d c to))

-- ---- signatures

one-spends : (s : Setting) (body : Body) (c : Call) → SpendsOne s c (spends s body c) body
one-spends s body c = record { signed = signed-push s.me c.told _; stored = refl; ended = refl }

pub one-signs : (s : Setting) (body : Body) (c : Call) → SpendsOne s c (signs s body c) body
unfolding signs
one-signs s body c = one-then s c (spends s body c) _ body (one-spends s body c) (nothing-takes s (own_record s c.node body) (spends s body c))

pub one-signs_and_sends : (s : Setting) (body : Body) (to : State → List ℕ) (c : Call) → SpendsOne s c (signs_and_sends s body to c) body
unfolding signs_and_sends
one-signs_and_sends s body to c = one-then s c (signs s body c) _ body (one-signs s body c)
    (nothing-sends_to_all s (to (state_of s (signs s body c).node)) (kinds.Records s.me (own_record s c.node body ∷ [])) (signs s body c))

-- ---- steps

-- What may follow a store's state.
abbrev pub MayFollow : Stored → Body → Type 0
MayFollow kept (Certificate c) = Unit {0}
MayFollow kept (Note n) = n.epoch ≡ kept.epoch + 1
MayFollow kept (Accusation a) = Unit {0}

-- A note enables the rings that the stored one does, or none beyond those of a group of this tolerance.
abbrev pub IsOnRings : ℕ → Stored → Body → Type 0
IsOnRings t kept (Certificate c) = Unit {0}
IsOnRings t kept (Note n) = (n.mask ≡ kept.mask) ⊎ (n.mask.0 < 2 ^ ring_count t)
IsOnRings t kept (Accusation a) = Unit {0}

-- What a node may sign next: it may follow what the store keeps, which has an index left.
pub record MaySign (s : Setting) (kept : Stored) (body : Body) : Type 0 where
  pub follows : MayFollow kept body
  pub left : eqb kept.next s.indexes ≡ false
  pub rings : IsOnRings s.group.t kept body

-- A step spends nothing where the disk works, or it wants one signature: that is made where the disk works, and else the
-- life is over.
pub data StepIs (s : Setting) (c : Call) (f : Bool → Call) : Type 0 where
  plain : SpendsNothing s c (f true) → StepIs s c f
  signing : (d : Call) (body : Body) (to : State → List ℕ) → SpendsNothing s c d → MaySign s d.node.stored body → f true ≡ signs_and_sends s body to d → f false ≡ stops s d → StepIs s c f

step-wants : (s : Setting) (c d : Call) (body : Body) (to : State → List ℕ) → SpendsNothing s c d → MayFollow d.node.stored body → IsOnRings s.group.t d.node.stored body
    → StepIs s c (λ works. wants works s body to d)
unfolding wants
step-wants s c d body to h may rings =
    elim (cases_Bool (is_used_up s d.node)) [
      | inl up ↦ plain (subst (SpendsNothing s c) (sym (used _ _ _ up)) (nothing-then s c d _ h (nothing-tells s (told.Exhausted d.node.stored.next) d refl)))
      | inr left ↦ signing d body to h (record { follows = may; left = left; rings = rings }) (unused _ _ _ left) (unused _ _ _ left)
    ]
  where
    used : (b : Bool) (x y : Call) → b ≡ true → cond b x y ≡ x
    used true x y e = refl
    used false x y e = cc

    unused : (b : Bool) (x y : Call) → b ≡ false → cond b x y ≡ y
    unused true x y e = cc
    unused false x y e = refl

-- what a record may ask
abbrev AsksFit : Setting → Stored → Option NoteBody → Type 0
AsksFit s kept None = Unit {0}
AsksFit s kept (Some note) = MayFollow kept (Note note) × IsOnRings s.group.t kept (Note note)

answer-rings : (s : Setting) (kept : Stored) (a : AccBody) → (answering_note s kept a).mask.0 < 2 ^ ring_count s.group.t
unfolding answering_mask
answer-rings s kept a = bits-below (is_enabled_by_answer s.group.t kept.mask.0 a.ring.0) (ring_count s.group.t)

asked_of-fit : (s : Setting) (n : Node) (fault : Option Fault) (a : AccBody) (r : Record) → AsksFit s n.stored (asked_of s n fault a r)
asked_of-fit s n None a r = (refl, inr (answer-rings s n.stored a))
asked_of-fit s n (Some fault) a r = cond_both (is_told s n fault a r) (Some (returning_note s n.stored)) None (AsksFit s n.stored) (λ yes. (refl, inl refl)) (λ no. tt)

asked-fit : (s : Setting) (n : Node) (fault : Option Fault) (body : Body) (r : Record) → AsksFit s n.stored (asked_with s n fault body r)
asked-fit s n fault (Certificate x) r = tt
asked-fit s n fault (Note x) r = tt
asked-fit s n fault (Accusation a) r =
    cond_both (eqb a.accused s.me && may_rise s.heal n) (asked_of s n fault a r) None (AsksFit s n.stored) (λ yes. asked_of-fit s n fault a r) (λ no. tt)

step-gives_note : (s : Setting) (c d : Call) (note : Option NoteBody) → SpendsNothing s c d → AsksFit s d.node.stored note → StepIs s c (λ works. gives_note works s note d)
step-gives_note s c d None h fit = plain h
step-gives_note s c d (Some note) h fit = step-wants s c d (Note note) (neighbours s) h fit.0 fit.1

nothing-settles : (s : Setting) (fault : Option Fault) (r : Record) (c : Call) → SpendsNothing s c (settles s fault r c)
nothing-settles s (Some fault) r c = nothing-tells s (told.Took r.body (Some fault)) c refl
nothing-settles s None r c =
    let c1 : Call = tells s (told.Took r.body None) c in
    nothing-then s c c1 (takes s r c1) (nothing-tells s (told.Took r.body None) c refl) (nothing-takes s r c1)

step-judged : (s : Setting) (c : Call) (fault : Option Fault) (r : Record) → StepIs s c (λ works. judged works s fault r c)
step-judged s c fault r =
    let note : Option NoteBody = asked_with s c.node fault r.body r in
    let h : SpendsNothing s c (settles s fault r c) = nothing-settles s fault r c in
    step-gives_note s c (settles s fault r c) note h (subst (λ (k : Stored). AsksFit s k note) (sym h.stored) (asked-fit s c.node fault r.body r))

pub step-handles : (s : Setting) (c : Call) (r : Record) → StepIs s c (λ works. handles works s c r)
unfolding handles
step-handles s c r = step-judged s c (refusal s c.node r) r

step-wants_accusation : (s : Setting) (c d : Call) (m : ℕ) (ring : Option ℕ) → SpendsNothing s c d → StepIs s c (λ works. wants_accusation works s m ring d)
step-wants_accusation s c d m None h = plain h
step-wants_accusation s c d m (Some ring) h = step-wants s c d (accusation_on s (state_of s d.node) m ring) (neighbours_and s m) h tt tt

step-unless : (s : Setting) (c : Call) (b : Bool) (f : Bool → Call) → StepIs s c f → StepIs s c (λ works. cond b c (f works))
step-unless s c true f k = plain (nothing-same s c)
step-unless s c false f k = k

pub step-accuses : (s : Setting) (c : Call) (m : ℕ) → StepIs s c (λ works. accuses works s c m)
unfolding accuses
step-accuses s c m =
    step-unless s c (has_accused s (state_of s c.node) m) (λ works. wants_accusation works s m (ring_for s (state_of s c.node) m) (tells s (told.Silent m) c))
    (step-wants_accusation s c (tells s (told.Silent m) c) m (ring_for s (state_of s c.node) m) (nothing-tells s (told.Silent m) c refl))

some-ring : (t : ℕ) → 0 < 2 ^ ring_count t
some-ring t = let fits : bits_where (λ ring. false) (ring_count t) < 2 ^ ring_count t = bits-below (λ ring. false) (ring_count t) in omega (arith, fits)

pub step-leaves : (s : Setting) (c : Call) → StepIs s c (λ works. leaves works s c)
unfolding leaves
step-leaves s c = step-wants s c c (leaving s c.node.stored) (neighbours s) (nothing-same s c) refl (inr (some-ring s.group.t))

-- ---- the other parts of a call

nothing-gives : (s : Setting) (to : ℕ) (records : List Record) (c : Call) → SpendsNothing s c (gives s to records c)
nothing-gives s to [] c = nothing-same s c
nothing-gives s to (r ∷ records) c = nothing-sends s (kinds.Records s.me (r ∷ records)) c to

nothing-replies : (s : Setting) (to : ℕ) (flag : Bool) (number : ℕ) (c : Call) → SpendsNothing s c (replies s to flag number c)
nothing-replies s to true number c = nothing-same s c
nothing-replies s to false number c = nothing-sends s (kinds.Summary s.me true (page c.node number)) c to

nothing-exchanges : (s : Setting) (from : ℕ) (flag : Bool) (theirs : Summary) (c : Call) → SpendsNothing s c (exchanges s from flag theirs c)
nothing-exchanges s from flag theirs c =
    let c1 : Call = tells s (told.Summary from theirs.page flag) c in
    let h1 : SpendsNothing s c c1 = nothing-tells s (told.Summary from theirs.page flag) c refl in
    let c2 : Call = gives s from (lacking c.node from theirs) c1 in
    cond_both (is_other s c.node from) (replies s from flag theirs.page c2) c1 (SpendsNothing s c)
    (λ yes. nothing-then s c c1 _ h1 (nothing-then s c1 c2 _ (nothing-gives s from (lacking c.node from theirs) c1) (nothing-replies s from flag theirs.page c2)))
    (λ no. h1)

nothing-pinged : (s : Setting) (from nonce : ℕ) (c : Call) → SpendsNothing s c (pinged s from nonce c)
nothing-pinged s from nonce c =
    let c1 : Call = tells s (told.Ping from nonce) c in
    let h1 : SpendsNothing s c c1 = nothing-tells s (told.Ping from nonce) c refl in
    cond_both (is_other s c.node from) (sends s (kinds.Pong s.me nonce) c1 from) c1 (SpendsNothing s c)
    (λ yes. nothing-then s c c1 _ h1 (nothing-sends s (kinds.Pong s.me nonce) c1 from))
    (λ no. h1)

nothing-ponged : (s : Setting) (from nonce : ℕ) (c : Call) → SpendsNothing s c (ponged_by s from nonce c)
nothing-ponged s from nonce c =
    let h = nothing-tells s (told.Pong from nonce (counts c.node.probes from nonce)) c refl in
    record { signed = h.signed; stored = h.stored; ended = h.ended }

-- It is no datagram of records.
abbrev pub IsPlain : Result Datagram ℕ → Type 0
IsPlain (Ok (kinds.Records from records)) = ⊥
IsPlain _ = Unit {0}

pub nothing-hears : (s : Setting) (heard : Result Datagram ℕ) (c : Call) → IsPlain heard → SpendsNothing s c (hears s heard c)
nothing-hears s (Err place) c other = nothing-tells s (told.BadForm place) c refl
nothing-hears s (Ok (kinds.Ping from nonce)) c other = nothing-pinged s from nonce c
nothing-hears s (Ok (kinds.Pong from nonce)) c other = nothing-ponged s from nonce c
nothing-hears s (Ok (kinds.Summary from flag theirs)) c other = nothing-exchanges s from flag theirs c
nothing-hears s (Ok (kinds.Records from records)) c other = absurd other

nothing-spreads_all : (s : Setting) (records : List Record) (c : Call) → SpendsNothing s c (spreads_all s records c)
nothing-spreads_all s [] c = nothing-same s c
nothing-spreads_all s (r ∷ records) c = nothing-sends_to_all s (neighbours s (state_of s c.node)) (kinds.Records s.me (r ∷ records)) c

pub nothing-spreads : (s : Setting) (c : Call) → SpendsNothing s c (spreads s c)
unfolding spreads
nothing-spreads s c = let h = nothing-spreads_all s (fresh c.node) c in record { signed = h.signed; stored = h.stored; ended = h.ended }

nothing-pings_all : (s : Setting) (sent : List (ℕ × ℕ)) (c : Call) → SpendsNothing s c (pings_all s sent c)
nothing-pings_all s [] c = nothing-same s c
nothing-pings_all s (p ∷ sent) c = nothing-then s c (sends s (kinds.Ping s.me p.1) c p.0) _ (nothing-sends s (kinds.Ping s.me p.1) c p.0) (nothing-pings_all s sent _)

nothing-summary_to : (s : Setting) (round : ℕ) (to : Option ℕ) (c : Call) → SpendsNothing s c (summary_to s round to c)
nothing-summary_to s round None c = nothing-same s c
nothing-summary_to s round (Some to) c = nothing-sends s (kinds.Summary s.me false (page c.node (page_number s c.node round))) c to

pub nothing-gossips : (s : Setting) (round : ℕ) (sent : List (ℕ × ℕ)) (c : Call) → SpendsNothing s c (gossips s round (pings_all s sent c))
nothing-gossips s round sent c =
    let c1 : Call = pings_all s sent c in
    nothing-then s c c1 _ (nothing-pings_all s sent c) (nothing-summary_to s round (partner s c1.node round) c1)

pub nothing-probed_at : (s : Setting) (n : Node) → SpendsNothing s (begun n) (probed_at s n)
unfolding probed_at passed
nothing-probed_at s n = let h = nothing-lives s Passes (begun n) in record { signed = h.signed; stored = h.stored; ended = h.ended }
