-- What a call gives to one who learns the nonces of its pings behind it.
use Rattle.std.proofs.Common.{◌≡◌, ℕ, ◌+◌, Bool, true, false, cond, eqb, List, [], ◌∷◌, ◌++◌, length, filter, map, get_or, drop, refl, ap, sym, ◌∙◌, subst, arith, eq-eqb}
use Rattle.std.specs.Prelude.{◌||◌}
use Rattle.std.specs.List.{AllByRecursion, list_any}
use Rattle.std.proofs.lemmas.Bool.{false≢true}
use Rattle.datagram.specs.declared.Datagram.TheVariants as kinds
use Rattle.datagram.specs.Spelling.{datagram_bytes}
use Rattle.detector.specs.declared.watch.Watched.{Watched}
use Rattle.detector.specs.Silence.{AreTo, Happening, History, Ticked, is_pinged, pings_from as pings_drawn, sent_in, with_nonce, with_nonces}
use Rattle.detector.proofs.NonceLemmas.{learned-each}
use Rattle.journal.specs.declared.event.Event as journal
use Rattle.journal.specs.declared.event.What as whats
use Rattle.journal.specs.declared.event.What.TheVariants as told
use Rattle.node_rules.specs.Nodes.{Setting, Node, state_of}
use Rattle.node_rules.specs.Calls.{Call, lives}
use Rattle.node_rules.specs.Ticking.{is_due, passed, ticked, watched_by}
use Rattle.node_rules.specs.OtherNonces.{drawn, is_ping, is_ping_sent, probes_with, renonced as with_nonces_told, ticked_sending, with_nonce_in, HaveSameMembers}
use Rattle.node_rules.specs.OtherNonces as others
use Rattle.node_rules.specs.Outgoing.{at_tick, pings_out}
use Rattle.node_rules.specs.Sending.{sendings}
use Rattle.node_rules.specs.Verdicts.{all_at}
use Rattle.node_rules.proofs.LearnedLives.{draws}
use Rattle.node_rules.proofs.PingsTold.{node-differs, pings-apart, told-pings, told-renonced}
use Rattle.node_rules.proofs.Sources.{with_probes}
use Rattle.audit_node.specs.declared.owing.Owed.{Owed}
use Rattle.audit_node.specs.declared.owing.Owed.TheVariants as owings
use Rattle.audit_node.specs.declared.owing.OwedEvent.{OwedEvent}
use Rattle.audit_node.specs.Answers.{Owes}
use Rattle.audit_node.specs.Learning.{Gives, IsSound, WasPinged, owed_from, ping_with, pings_from, place_behind, renonced_all, what_with}
use Rattle.audit_node.specs.Owing.{item_of, reported, told_by, what_of}
use Rattle.audit_node.specs.Playing.{IsMirror, Kept}
use Rattle.audit_node.specs.Sendable.{AreFair, IsFair}
use Rattle.audit_node.proofs.UnpingedLemmas.{HasDrawn, IsUnpinged}

-- ---- what is owed is sound

pub all-sound : (s : Setting) (owed : List OwedEvent) → AreFair s owed → AllByRecursion (IsSound s) owed
all-sound s [] fair = tt
all-sound s (o ∷ owed) fair = (fair.0.sound, all-sound s owed fair.1)

-- ---- a call with no pings

abbrev IsUnasked : Owed → Type 0
IsUnasked (owings.What what) = Unit {0}
IsUnasked (owings.Ping number to drawn) = ⊥
IsUnasked (owings.Records number to items) = Unit {0}

abbrev AreUnasked : List OwedEvent → Type 0
AreUnasked owed = AllByRecursion (λ (o : OwedEvent). IsUnasked o.owed) owed

unasked-one : (s : Setting) (w : Owed) → is_ping_sent (what_of s w) ≡ false → IsUnasked w
unasked-one s (owings.What what) none = tt
unasked-one s (owings.Ping number to nonce) none = false≢true (sym none ∙ pings-apart (kinds.Ping s.me nonce))
unasked-one s (owings.Records number to items) none = tt

unasked-all : (s : Setting) (owed : List OwedEvent) → AllByRecursion IsUnpinged (told_by s owed) → AreUnasked owed
unasked-all s [] none = tt
unasked-all s (o ∷ owed) none = (unasked-one s o.owed none.0, unasked-all s owed none.1)

same-what : (s : Setting) (nonce : ℕ) (w : Owed) → IsUnasked w → what_with s nonce w ≡ what_of s w
same-what s nonce (owings.What what) none = refl
same-what s nonce (owings.Ping number to drawn) none = absurd none
same-what s nonce (owings.Records number to items) none = refl

same-place : (place : ℕ) (w : Owed) → IsUnasked w → place_behind place w ≡ place
same-place place (owings.What what) none = refl
same-place place (owings.Ping number to drawn) none = absurd none
same-place place (owings.Records number to items) none = refl

no-ping : (nonce : ℕ) (w : Owed) → IsUnasked w → ping_with nonce w ≡ []
no-ping nonce (owings.What what) none = refl
no-ping nonce (owings.Ping number to drawn) none = absurd none
no-ping nonce (owings.Records number to items) none = refl

owed-unasked : (s : Setting) (nonces : ℕ → ℕ) (place : ℕ) (owed : List OwedEvent) → AreUnasked owed → owed_from s nonces place owed ≡ told_by s owed
owed-unasked s nonces place [] none = refl
owed-unasked s nonces place (o ∷ owed) none =
    ap (λ (w : whats.What). record { moment = o.moment; what = w } ∷ owed_from s nonces (place_behind place o.owed) owed) (same-what s (nonces place) o.owed none.0)
    ∙ ap (λ (k : ℕ). reported s o ∷ owed_from s nonces k owed) (same-place place o.owed none.0)
    ∙ ap (λ (xs : List journal.Event). reported s o ∷ xs) (owed-unasked s nonces place owed none.1)

pings-unasked : (nonces : ℕ → ℕ) (place : ℕ) (owed : List OwedEvent) → AreUnasked owed → pings_from nonces place owed ≡ []
pings-unasked nonces place [] none = refl
pings-unasked nonces place (o ∷ owed) none =
    ap (λ (xs : List (ℕ × ℕ)). xs ++ pings_from nonces (place_behind place o.owed) owed) (no-ping (nonces place) o.owed none.0)
    ∙ ap (λ (k : ℕ). pings_from nonces k owed) (same-place place o.owed none.0)
    ∙ pings-unasked nonces place owed none.1

-- Such a call gives what it owes.
pub gives-unasked : (s : Setting) (n : Node) (v : Kept) (old new : List OwedEvent) (c : Call) → HasDrawn n.probes c.node.probes → AllByRecursion IsUnpinged c.told → Owes s v old new c → Gives s n v old new c
gives-unasked s n v old new c drew unpinged o =
    let none : AreUnasked o.added = unasked-all s o.added (subst (AllByRecursion IsUnpinged) (sym o.owes) unpinged) in
    let place : ℕ = sent_in n.probes.happened in
    let pings : pings_from c.node.probes.nonces place o.added ≡ [] = pings-unasked c.node.probes.nonces place o.added none in
    let happened : List Happening = c.node.probes.happened in
    record {
      added = o.added;
      grew = o.grew;
      owes = owed-unasked s n.probes.nonces place o.added none ∙ o.owes;
      same_source = drew.source;
      sound = all-sound s o.added o.fair;
      stands = record {
        happened = happened;
        is = o.is;
        learned = ap (λ (ps : List (ℕ × ℕ)). renonced_all ps happened) (sym pings);
        pinged = subst (AllByRecursion (λ (p : ℕ × ℕ). WasPinged p.0 happened)) (sym pings) tt;
        count = drew.count ∙ zero-more place ∙ ap (λ (ps : List (ℕ × ℕ)). place + length ps) (sym pings);
      };
    }
  where
    zero-more : (k : ℕ) → k ≡ k + 0
    zero-more k = omega arith

-- ---- the pings of a tick

-- to whom they go
abbrev asked_one : Owed → List ℕ
asked_one (owings.What what) = []
asked_one (owings.Ping number to drawn) = to ∷ []
asked_one (owings.Records number to items) = []

abbrev asked : List OwedEvent → List ℕ
asked [] = []
asked (o ∷ owed) = asked_one o.owed ++ asked owed

abbrev to_of : whats.What → ℕ
to_of (told.Sent number to bytes) = to
to_of other = 0

abbrev to_in : List journal.Event → List ℕ
to_in events = map (λ (e : journal.Event). to_of e.what) events

abbrev pings_of : List journal.Event → List journal.Event
pings_of events = filter (λ (e : journal.Event). is_ping_sent e.what) events

to-cond : (b : Bool) (e : journal.Event) (xs : List journal.Event) → to_in (cond b (e ∷ xs) xs) ≡ cond b (to_of e.what ∷ []) [] ++ to_in xs
to-cond true e xs = refl
to-cond false e xs = refl

one-asked : (s : Setting) (w : Owed) → IsFair s w → cond (is_ping_sent (what_of s w)) (to_of (what_of s w) ∷ []) [] ≡ asked_one w
one-asked s (owings.What what) fair = ap (λ b. cond b (to_of what ∷ []) []) fair.named
one-asked s (owings.Ping number to nonce) fair = ap (λ b. cond b (to ∷ []) []) (pings-apart (kinds.Ping s.me nonce))
one-asked s (owings.Records number to items) fair = ap (λ b. cond b (to ∷ []) []) (pings-apart (kinds.Records s.me (map (item_of s) items.items)))

asked-told : (s : Setting) (owed : List OwedEvent) → AreFair s owed → to_in (pings_of (told_by s owed)) ≡ asked owed
asked-told s [] fair = refl
asked-told s (o ∷ owed) fair =
    to-cond (is_ping_sent (what_of s o.owed)) (reported s o) (pings_of (told_by s owed))
    ∙ ap (λ (xs : List ℕ). xs ++ to_in (pings_of (told_by s owed))) (one-asked s o.owed fair.0)
    ∙ ap (λ (xs : List ℕ). asked_one o.owed ++ xs) (asked-told s owed fair.1)

to-pings : (s : Setting) (moment place : ℕ) (sent : List (ℕ × ℕ)) → to_in (all_at moment (sendings place (pings_out s sent))) ≡ map (λ (p : ℕ × ℕ). p.0) sent
to-pings s moment place [] = refl
to-pings s moment place (p ∷ sent) = ap (λ (xs : List ℕ). p.0 ∷ xs) (to-pings s moment (place + 1) sent)

no-more : (p : ℕ) (ps : List ℕ) → p ∷ ps ≡ [] → ⊥
no-more p ps e = cc

-- They have the nonces that are drawn.
abbrev DrawnFrom : (ℕ → ℕ) → List OwedEvent → Type 0
DrawnFrom nonces owed = (place : ℕ) (sent : List (ℕ × ℕ)) → asked owed ≡ map (λ (p : ℕ × ℕ). p.0) sent → others.Gives nonces place sent → pings_from nonces place owed ≡ sent

one-drawn : (nonces : ℕ → ℕ) (place : ℕ) (w : Owed) (owed : List OwedEvent) (sent : List (ℕ × ℕ)) → DrawnFrom nonces owed → asked_one w ++ asked owed ≡ map (λ (p : ℕ × ℕ). p.0) sent → others.Gives nonces place sent
    → ping_with (nonces place) w ++ pings_from nonces (place_behind place w) owed ≡ sent
one-drawn nonces place (owings.What what) owed sent rest same gives = rest place sent same gives
one-drawn nonces place (owings.Ping number to nonce) owed [] rest same gives = absurd (no-more to (asked owed) same)
one-drawn nonces place (owings.Ping number to nonce) owed (p ∷ sent) rest same gives =
    let here : to ≡ p.0 = cc in
    let others_same : asked owed ≡ map (λ (q : ℕ × ℕ). q.0) sent = cc in
    ap (λ (m : ℕ). (m, nonces place) ∷ pings_from nonces (place + 1) owed) here
    ∙ ap (λ (x : ℕ). (p.0, x) ∷ pings_from nonces (place + 1) owed) gives.0
    ∙ ap (λ (xs : List (ℕ × ℕ)). p ∷ xs) (rest (place + 1) sent others_same gives.1)
one-drawn nonces place (owings.Records number to items) owed sent rest same gives = rest place sent same gives

asked-drawn : (nonces : ℕ → ℕ) (place : ℕ) (owed : List OwedEvent) (sent : List (ℕ × ℕ)) → asked owed ≡ map (λ (p : ℕ × ℕ). p.0) sent → others.Gives nonces place sent → pings_from nonces place owed ≡ sent
asked-drawn nonces place [] [] same gives = refl
asked-drawn nonces place [] (p ∷ sent) same gives = absurd (no-more p.0 (map (λ (p : ℕ × ℕ). p.0) sent) (sym same))
asked-drawn nonces place (o ∷ owed) sent same gives = one-drawn nonces place o.owed owed sent (λ k ps e g. asked-drawn nonces k owed ps e g) same gives

-- What is told of them has their nonces.
abbrev nonces_in : List (ℕ × ℕ) → List ℕ
nonces_in sent = map (λ (p : ℕ × ℕ). p.1) sent

renonced-ping : (s : Setting) (b : Bool) (e x : journal.Event) (xs ys : List journal.Event) → b ≡ true → cond b (x ∷ xs) (e ∷ ys) ≡ x ∷ xs
renonced-ping s true e x xs ys is = refl
renonced-ping s false e x xs ys is = absurd (false≢true is)

renonced-other : (s : Setting) (b : Bool) (e : journal.Event) (xs ys : List journal.Event) → b ≡ false → cond b xs (e ∷ ys) ≡ e ∷ ys
renonced-other s true e xs ys is = absurd (false≢true (sym is))
renonced-other s false e xs ys is = refl

abbrev ToldFrom : Setting → (ℕ → ℕ) → List OwedEvent → Type 0
ToldFrom s nonces owed = (place : ℕ) → with_nonces_told s (told_by s owed) (nonces_in (pings_from nonces place owed)) ≡ owed_from s nonces place owed

one-renonced : (s : Setting) (nonces : ℕ → ℕ) (place moment : ℕ) (w : Owed) (owed : List OwedEvent) → IsFair s w → ToldFrom s nonces owed
    → with_nonces_told s (record { moment = moment; what = what_of s w } ∷ told_by s owed) (nonces_in (ping_with (nonces place) w ++ pings_from nonces (place_behind place w) owed))
    ≡ record { moment = moment; what = what_with s (nonces place) w } ∷ owed_from s nonces (place_behind place w) owed
one-renonced s nonces place moment (owings.What what) owed h rest =
    let e : journal.Event = record { moment = moment; what = what } in
    let ns : List ℕ = nonces_in (pings_from nonces place owed) in
    renonced-other s (is_ping_sent what) e (record e { what = with_nonce_in s (get_or ns 0 0) what } ∷ with_nonces_told s (told_by s owed) (drop 1 ns)) (with_nonces_told s (told_by s owed) ns) h.named
    ∙ ap (λ (xs : List journal.Event). e ∷ xs) (rest place)
one-renonced s nonces place moment (owings.Ping number to nonce) owed h rest =
    let e : ℕ → journal.Event = λ x. record { moment = moment; what = told.Sent number to (datagram_bytes (kinds.Ping s.me x)) } in
    let ns : List ℕ = nonces_in (pings_from nonces (place + 1) owed) in
    renonced-ping s (is_ping (datagram_bytes (kinds.Ping s.me nonce))) (e nonce) (e (nonces place)) (with_nonces_told s (told_by s owed) ns) (with_nonces_told s (told_by s owed) (nonces place ∷ ns)) (pings-apart (kinds.Ping s.me nonce))
    ∙ ap (λ (xs : List journal.Event). e (nonces place) ∷ xs) (rest (place + 1))
one-renonced s nonces place moment (owings.Records number to items) owed h rest =
    let e : journal.Event = record { moment = moment; what = what_of s (owings.Records number to items) } in
    let ns : List ℕ = nonces_in (pings_from nonces place owed) in
    renonced-other s (is_ping_sent e.what) e (record e { what = with_nonce_in s (get_or ns 0 0) e.what } ∷ with_nonces_told s (told_by s owed) (drop 1 ns)) (with_nonces_told s (told_by s owed) ns)
    (pings-apart (kinds.Records s.me (map (item_of s) items.items)))
    ∙ ap (λ (xs : List journal.Event). e ∷ xs) (rest place)

renonced-owed : (s : Setting) (nonces : ℕ → ℕ) (place : ℕ) (owed : List OwedEvent) → AreFair s owed → with_nonces_told s (told_by s owed) (nonces_in (pings_from nonces place owed)) ≡ owed_from s nonces place owed
renonced-owed s nonces place [] fair = refl
renonced-owed s nonces place (o ∷ owed) fair = one-renonced s nonces place o.moment o.owed owed fair.0 (λ k. renonced-owed s nonces k owed fair.1)

-- ---- pings that are learned

all-learned : (learned : List (ℕ × ℕ)) (watched : List Watched) (sent : List (ℕ × ℕ)) (before : List Happening) → renonced_all learned (Ticked watched sent ∷ before) ≡ Ticked watched (with_nonces learned sent) ∷ before
all-learned [] watched sent before = refl
all-learned (p ∷ learned) watched sent before = all-learned learned watched (with_nonce p.0 p.1 sent) before

any-member : (m : ℕ) (front rest : List ℕ) → list_any (λ x. eqb x m) (front ++ m ∷ rest) ≡ true
any-member m [] rest = ap (λ b. b || list_any (λ x. eqb x m) rest) (eq-eqb m m refl)
any-member m (x ∷ front) rest = ap (λ b. eqb x m || b) (any-member m front rest) ∙ or-true (eqb x m)
  where
    or-true : (b : Bool) → (b || true) ≡ true
    or-true true = refl
    or-true false = refl

any-pinged : (m : ℕ) (sent : List (ℕ × ℕ)) → is_pinged m sent ≡ list_any (λ x. eqb x m) (map (λ (p : ℕ × ℕ). p.0) sent)
any-pinged m [] = refl
any-pinged m (p ∷ sent) = ap (λ b. eqb p.0 m || b) (any-pinged m sent)

each-pinged : (sent : List (ℕ × ℕ)) (front : List ℕ) (rest : List (ℕ × ℕ)) → map (λ (p : ℕ × ℕ). p.0) sent ≡ front ++ map (λ (p : ℕ × ℕ). p.0) rest → AllByRecursion (λ (p : ℕ × ℕ). is_pinged p.0 sent ≡ true) rest
each-pinged sent front [] same = tt
each-pinged sent front (p ∷ rest) same = (
  any-pinged p.0 sent ∙ ap (list_any (λ x. eqb x p.0)) same ∙ any-member p.0 front (map (λ (q : ℕ × ℕ). q.0) rest),
  each-pinged sent (front ++ p.0 ∷ []) rest (same ∙ sym (shift front)),
)
  where
    shift : (front : List ℕ) → (front ++ p.0 ∷ []) ++ map (λ (q : ℕ × ℕ). q.0) rest ≡ front ++ p.0 ∷ map (λ (q : ℕ × ℕ). q.0) rest
    shift [] = refl
    shift (x ∷ front) = ap (λ (xs : List ℕ). x ∷ xs) (shift front)

-- ---- a tick

abbrev now_of : Setting → Node → Bool
now_of s n = is_due s (state_of s (at_tick s n))

abbrev watched_at : Setting → Node → List Watched
watched_at s n = watched_by s (state_of s (at_tick s n))

drawn-is : (s : Setting) (n : Node) → drawn s n ≡ cond (now_of s n) (pings_drawn n.probes.nonces (sent_in n.probes.happened) (watched_at s n)) []
unfolding drawn passed lives
drawn-is s n = refl

none-sent : (sent : List (ℕ × ℕ)) → map (λ (p : ℕ × ℕ). p.0) sent ≡ [] → sent ≡ []
none-sent [] same = refl
none-sent (p ∷ sent) same = absurd (no-more p.0 (map (λ (q : ℕ × ℕ). q.0) sent) same)

to-drawn : (nonces : ℕ → ℕ) (place : ℕ) (watched : List Watched) → AreTo watched (pings_drawn nonces place watched)
to-drawn nonces place [] = refl
to-drawn nonces place (w ∷ watched) = ap (λ (ms : List ℕ). w.member ∷ ms) (to-drawn nonces (place + 1) watched)

learned-drawn : (s : Setting) (n : Node) (b : Bool) (nonces : ℕ → ℕ) (place : ℕ) (sent : List (ℕ × ℕ))
    → HaveSameMembers (cond b (pings_drawn nonces place (watched_at s n)) []) sent → with_nonces (cond b (pings_drawn nonces place (watched_at s n)) []) sent ≡ cond b (pings_drawn nonces place (watched_at s n)) []
learned-drawn s n true nonces place sent same =
    learned-each s.group.t place s.me (state_of s (at_tick s n)) nonces sent (sym same ∙ to-drawn nonces place (watched_at s n))
learned-drawn s n false nonces place sent same = none-sent sent (sym same)

members-told : (s : Setting) (n : Node) (b : Bool) (sent : List (ℕ × ℕ)) (moment place : ℕ) (other : ℕ → ℕ) (k : ℕ) → HaveSameMembers (cond b (pings_drawn other k (watched_at s n)) []) sent
    → to_in (cond b (all_at moment (sendings place (pings_out s sent))) []) ≡ map (λ (p : ℕ × ℕ). p.0) (cond b (pings_drawn other k (watched_at s n)) [])
members-told s n true sent moment place other k same = to-pings s moment place sent ∙ sym same
members-told s n false sent moment place other k same = refl

-- A tick gives what is owed of one with pings to the same members.
pub gives-ticked : (s : Setting) (n : Node) (v : Kept) (old new : List OwedEvent) (sent : List (ℕ × ℕ)) → HaveSameMembers (drawn s n) sent → Owes s v old new (ticked_sending s n sent) → Gives s n v old new (ticked s n)
gives-ticked s n v old new sent same o =
    let place : ℕ = sent_in n.probes.happened in
    let nonces : ℕ → ℕ = n.probes.nonces in
    let ps : List (ℕ × ℕ) = drawn s n in
    let due : Bool = now_of s n in
    let watched : List Watched = watched_at s n in
    let is : ps ≡ cond due (pings_drawn nonces place watched) [] = drawn-is s n in
    let same1 : HaveSameMembers (cond due (pings_drawn nonces place watched) []) sent = subst (λ xs. HaveSameMembers xs sent) is same in
    let members : asked o.added ≡ map (λ (p : ℕ × ℕ). p.0) ps =
    sym (asked-told s o.added o.fair) ∙ ap (λ xs. to_in (pings_of xs)) o.owes ∙ ap to_in (told-pings s n sent)
    ∙ members-told s n due sent _ _ nonces place same1 ∙ ap (map (λ (p : ℕ × ℕ). p.0)) (sym is) in
    let pings : pings_from nonces place o.added ≡ ps = asked-drawn nonces place o.added ps members (draws s n).given in
    let last : Node = (ticked_sending s n sent).node in
    let happened : List Happening = Ticked watched sent ∷ n.probes.happened in
    let at : ticked s n ≡ ticked_sending s n ps = (draws s n).is in
    let node : (ticked s n).node ≡ with_probes (probes_with s n ps) last = ap (λ (c : Call). c.node) at ∙ node-differs s n sent ps in
    let own : last ≡ with_probes (probes_with s n sent) last = node-differs s n sent sent in
    let probes : (ticked s n).node.probes ≡ probes_with s n ps = ap (λ (m : Node). m.probes) node in
    let source : (ticked s n).node.probes.nonces ≡ nonces = ap (λ (h : History). h.nonces) probes in
    let behind : pings_from (ticked s n).node.probes.nonces place o.added ≡ ps = ap (λ f. pings_from f place o.added) source ∙ pings in
    let learned : with_nonces ps sent ≡ ps = subst (λ xs. with_nonces xs sent ≡ xs) (sym is) (learned-drawn s n due nonces place sent same1) in
    record {
      added = o.added;
      grew = o.grew;
      owes = sym (renonced-owed s nonces place o.added o.fair) ∙ ap (λ xs. with_nonces_told s (told_by s o.added) (nonces_in xs)) pings
          ∙ ap (λ xs. with_nonces_told s xs (nonces_in ps)) o.owes ∙ sym (told-renonced s n sent ps (sym same)) ∙ sym (ap (λ (c : Call). c.told) at);
      same_source = source;
      sound = all-sound s o.added o.fair;
      stands = record {
        happened = happened;
        is = subst (IsMirror s v) (own ∙ sym (ap (λ (m : Node). record m { probes = record m.probes { happened = happened } }) node)) o.is;
        learned = ap (λ (h : History). h.happened) probes ∙ ap (λ xs. Ticked watched xs ∷ n.probes.happened) (sym learned)
            ∙ sym (all-learned ps watched sent n.probes.happened) ∙ ap (λ xs. renonced_all xs happened) (sym behind);
        pinged = subst (AllByRecursion (λ (p : ℕ × ℕ). WasPinged p.0 happened)) (sym behind) (each-pinged sent [] ps (sym same));
        count = ap (λ (h : History). sent_in h.happened) probes ∙ more (length ps) place ∙ ap (λ (xs : List (ℕ × ℕ)). place + length xs) (sym behind);
      };
    }
  where
    more : (a b : ℕ) → a + b ≡ b + a
    more a b = omega arith
