-- That no call but a tick tells of a ping, or draws a nonce.
use Rattle.std.proofs.Common.{◌≡◌, ℕ, ◌+◌, Bool, true, false, cond, List, [], ◌∷◌, ◌++◌, filter, map, Option, Some, None, Result, Ok, Err, refl, ap, sym, subst}
use Rattle.std.specs.List.{AllByRecursion}
use Rattle.std.proofs.lemmas.Bool.{cond_both, false≢true}
use Rattle.ff_ids.specs.declared.NoteBody.{NoteBody}
use Rattle.ff_ids.specs.declared.summary.Summary.{Summary}
use Rattle.records.specs.declared.Body.TheVariants.{Note}
use Rattle.records.specs.declared.Record.{Record}
use Rattle.epoch_store.specs.declared.Stored.{Stored}
use Rattle.datagram.specs.declared.Datagram.{Datagram}
use Rattle.datagram.specs.declared.Datagram.TheVariants as kinds
use Rattle.datagram.specs.Spelling.{datagram_bytes}
use Rattle.datagram.specs.Grammar.{read_of}
use Rattle.detector.specs.Silence.{History, sent_in}
use Rattle.journal.specs.declared.event.Event as journal
use Rattle.journal.specs.declared.event.What as whats
use Rattle.journal.specs.declared.event.What.TheVariants as told
use Rattle.node_rules.specs.Nodes.{Setting, Node, state_of, neighbours}
use Rattle.node_rules.specs.Pages.{lacking, page}
use Rattle.node_rules.specs.Calls.{Call, begun, is_used_up, own_record}
use Rattle.node_rules.specs.Answering.{answer_sent, answers_sent, asked_by, to_each}
use Rattle.node_rules.specs.Deliveries.{delivered, exchanges, handles_all, hears, is_other, pinged}
use Rattle.node_rules.specs.Leaving.{leaves, leaving, left}
use Rattle.node_rules.specs.Lives.{Delivers, Leaves}
use Rattle.node_rules.specs.OtherNonces.{is_ping, is_ping_sent}
use Rattle.node_rules.specs.Sending.{given, is_sent, reply, sendings, TellsSendings}
use Rattle.node_rules.specs.Starting.{blank, first_note, started}
use Rattle.node_rules.specs.Verdicts.{when_handled}
use Rattle.node_rules.proofs.Handling.{sent-delivered, unread}
use Rattle.node_rules.proofs.Leaving.{leaving-sends}
use Rattle.node_rules.proofs.PingsTold.{pings-apart}
use Rattle.node_rules.proofs.Sendings.{ping-brings, pong-brings, summary-brings}
use Rattle.node_rules.proofs.Sources.{keeps-probes, over-exchanges, over-handles_all, over-leaves, over-pinged, over-started, starts}
use Rattle.node_rules.proofs.Told.{all-append, calls-sendings, starts-tell}

-- ---- what is sent

abbrev IsNoPing : ℕ × List ℕ → Type 0
IsNoPing d = is_ping d.1 ≡ false

abbrev NoPings : List (ℕ × List ℕ) → Type 0
NoPings sent = AllByRecursion IsNoPing sent

each-none : (addressees : List ℕ) (d : Datagram) → is_ping (datagram_bytes d) ≡ false → NoPings (to_each addressees d)
each-none [] d none = tt
each-none (to ∷ addressees) d none = (none, each-none addressees d none)

given-none : (s : Setting) (to : ℕ) (records : List Record) → NoPings (given s to records)
given-none s to [] = tt
given-none s to (r ∷ records) = (pings-apart (kinds.Records s.me (r ∷ records)), tt)

reply-none : (s : Setting) (n : Node) (to : ℕ) (flag : Bool) (number : ℕ) → NoPings (reply s n to flag number)
reply-none s n to true number = tt
reply-none s n to false number = (pings-apart (kinds.Summary s.me true (page n number)), tt)

answer-none : (s : Setting) (n later : Node) (note : Option NoteBody) → NoPings (answer_sent s n later note)
answer-none s n later None = tt
answer-none s n later (Some note) =
    let d : Datagram = kinds.Records s.me (own_record s n (Note note) ∷ []) in
    cond_both (is_used_up s n) [] (to_each (neighbours s (state_of s later)) d) NoPings (λ up. tt) (λ free. each-none (neighbours s (state_of s later)) d (pings-apart d))

answers-none : (s : Setting) (n : Node) (records : List Record) → NoPings (answers_sent s n records)
answers-none s n [] = tt
answers-none s n (r ∷ records) =
    all-append IsNoPing (answer_sent s n (when_handled s n r) (asked_by s n r)) (answers_sent s (when_handled s n r) records)
    (answer-none s n (when_handled s n r) (asked_by s n r)) (answers-none s (when_handled s n r) records)

exchanged-none : (s : Setting) (n : Node) (from : ℕ) (flag : Bool) (theirs : Summary)
    → NoPings (cond (is_other s n from) (given s from (lacking n from theirs) ++ reply s n from flag theirs.page) [])
exchanged-none s n from flag theirs =
    cond_both (is_other s n from) (given s from (lacking n from theirs) ++ reply s n from flag theirs.page) [] NoPings
    (λ other. all-append IsNoPing (given s from (lacking n from theirs)) (reply s n from flag theirs.page) (given-none s from (lacking n from theirs)) (reply-none s n from flag theirs.page))
    (λ not. tt)

ponged-none : (s : Setting) (n : Node) (from nonce : ℕ) → NoPings (cond (is_other s n from) ((from, datagram_bytes (kinds.Pong s.me nonce)) ∷ []) [])
ponged-none s n from nonce =
    cond_both (is_other s n from) ((from, datagram_bytes (kinds.Pong s.me nonce)) ∷ []) [] NoPings (λ other. (pings-apart (kinds.Pong s.me nonce), tt)) (λ not. tt)

delivered-none : (s : Setting) (n : Node) (bytes : List ℕ) (read : Result Datagram ℕ) → read_of bytes ≡ read → NoPings (delivered s n bytes).sent
delivered-none s n bytes (Err place) is = subst NoPings (sym (unread s n bytes place is).sent) tt
delivered-none s n bytes (Ok (kinds.Ping from nonce)) is = subst NoPings (sym (ping-brings s n bytes from nonce is).sent_so) (ponged-none s n from nonce)
delivered-none s n bytes (Ok (kinds.Pong from nonce)) is = subst NoPings (sym (pong-brings s n bytes from nonce is).sent_so) tt
delivered-none s n bytes (Ok (kinds.Summary from flag theirs)) is = subst NoPings (sym (summary-brings s n bytes from flag theirs is).sent_so) (exchanged-none s n from flag theirs)
delivered-none s n bytes (Ok (kinds.Records from records)) is = subst NoPings (sym (sent-delivered s n bytes from records is)) (answers-none s n records)

left-none : (s : Setting) (n : Node) → NoPings (left s n).sent
left-none s n =
    let d : Datagram = kinds.Records s.me (own_record s n (leaving s n.stored) ∷ []) in
    let all : List ℕ = neighbours s (state_of s (left s n).node) in
    subst NoPings (sym (leaving-sends s n)) (cond_both (is_used_up s n) [] (to_each all d) NoPings (λ up. tt) (λ free. each-none all d (pings-apart d)))

-- ---- what is told

abbrev pub IsUnpinged : journal.Event → Type 0
IsUnpinged e = is_ping_sent e.what ≡ false

sendings-none : (place : ℕ) (sent : List (ℕ × List ℕ)) → NoPings sent → AllByRecursion (λ w. is_ping_sent w ≡ false) (sendings place sent)
sendings-none place [] all = tt
sendings-none place (d ∷ sent) all = (all.0, sendings-none (place + 1) sent all.1)

unsent-none : (w : whats.What) → is_sent w ≡ false → is_ping_sent w ≡ false
unsent-none (told.Sent number to bytes) h = absurd (false≢true (sym h))
unsent-none other h = refl

in-front : (b : Bool) (e : journal.Event) (rest : List journal.Event) → is_sent e.what ≡ b → AllByRecursion (λ w. is_ping_sent w ≡ false) (map (λ (x : journal.Event). x.what) (cond b (e ∷ rest) rest))
    → IsUnpinged e × AllByRecursion (λ w. is_ping_sent w ≡ false) (map (λ (x : journal.Event). x.what) rest)
in-front true e rest is all = (all.0, all.1)
in-front false e rest is all = (unsent-none e.what is, all)

all-told : (events : List journal.Event) → AllByRecursion (λ w. is_ping_sent w ≡ false) (map (λ (e : journal.Event). e.what) (filter (λ (e : journal.Event). is_sent e.what) events)) → AllByRecursion IsUnpinged events
all-told [] all = tt
all-told (e ∷ events) all =
    let both = in-front (is_sent e.what) e (filter (λ (x : journal.Event). is_sent x.what) events) refl all in
    (both.0, all-told events both.1)

told-none : (c : Call) → TellsSendings c → NoPings c.sent → AllByRecursion IsUnpinged c.told
told-none c tells none = all-told c.told (subst (AllByRecursion (λ w. is_ping_sent w ≡ false)) (sym tells) (sendings-none 0 c.sent none))

pub unpinged-delivered : (s : Setting) (n : Node) (bytes : List ℕ) → AllByRecursion IsUnpinged (delivered s n bytes).told
unpinged-delivered s n bytes = told-none (delivered s n bytes) (calls-sendings s n (Delivers bytes)) (delivered-none s n bytes (read_of bytes) refl)

pub unpinged-left : (s : Setting) (n : Node) → AllByRecursion IsUnpinged (left s n).told
unpinged-left s n = told-none (left s n) (calls-sendings s n Leaves) (left-none s n)

all-unsent : (events : List journal.Event) → AllByRecursion (λ (e : journal.Event). is_sent e.what ≡ false) events → AllByRecursion IsUnpinged events
all-unsent [] all = tt
all-unsent (e ∷ events) all = (unsent-none e.what all.0, all-unsent events all.1)

pub unpinged-started : (s : Setting) (nonces : ℕ → ℕ) (certificates : List Record) (stored : Stored) → AllByRecursion IsUnpinged (started s nonces certificates stored).told
unpinged-started s nonces certificates stored = all-unsent (started s nonces certificates stored).told (starts-tell s nonces certificates stored).unsent

-- ---- what the probes saw

-- It has the same source, and has drawn as many nonces.
pub record HasDrawn (old new : History) : Type 0 where
  pub source : new.nonces ≡ old.nonces
  pub count : sent_in new.happened ≡ sent_in old.happened

drawn-same : (old new : History) → new ≡ old → HasDrawn old new
drawn-same old new same = record { source = ap (λ (h : History). h.nonces) same; count = ap (λ (h : History). sent_in h.happened) same }

heard-drawn : (s : Setting) (d : Result Datagram ℕ) (c : Call) → HasDrawn c.node.probes (hears s d c).node.probes
heard-drawn s (Err place) c = record { source = refl; count = refl }
heard-drawn s (Ok (kinds.Ping from nonce)) c = drawn-same _ _ (keeps-probes (pinged s from nonce) (over-pinged s from nonce) c)
heard-drawn s (Ok (kinds.Pong from nonce)) c = record { source = refl; count = refl }
heard-drawn s (Ok (kinds.Summary from flag theirs)) c = drawn-same _ _ (keeps-probes (exchanges s from flag theirs) (over-exchanges s from flag theirs) c)
heard-drawn s (Ok (kinds.Records from records)) c = drawn-same _ _ (keeps-probes (handles_all s records) (over-handles_all s records) c)

pub delivered-drawn : (s : Setting) (n : Node) (bytes : List ℕ) → HasDrawn n.probes (delivered s n bytes).node.probes
unfolding delivered
delivered-drawn s n bytes = heard-drawn s (read_of bytes) (begun n)

pub left-drawn : (s : Setting) (n : Node) → HasDrawn n.probes (left s n).node.probes
unfolding left
left-drawn s n = drawn-same _ _ (keeps-probes (leaves true s) (over-leaves true s) (begun n))

pub started-drawn : (s : Setting) (nonces : ℕ → ℕ) (certificates : List Record) (stored : Stored)
    → HasDrawn (blank s nonces stored).probes (started s nonces certificates stored).node.probes
unfolding started
started-drawn s nonces certificates stored =
    drawn-same _ _ (keeps-probes (starts s (first_note s stored) certificates) (over-started s (first_note s stored) certificates) (begun (blank s nonces stored)))
