-- A call in which the disk works doesn't end the life.
use Rattle.std.proofs.Common.{◌≡◌, ℕ, Bool, true, false, List, [], ◌∷◌, Option, Some, None, refl, ◌∙◌}
use Rattle.std.specs.Prelude.{Result, Ok, Err}
use Rattle.std.proofs.lemmas.Bool.{cond_both}
use Rattle.ff_ids.specs.declared.Fault.{Fault}
use Rattle.ff_ids.specs.declared.NoteBody.{NoteBody}
use Rattle.ff_ids.specs.Views.{State}
use Rattle.records.specs.declared.Body.{Body}
use Rattle.records.specs.declared.Body.TheVariants.{Note}
use Rattle.records.specs.declared.Record.{Record}
use Rattle.datagram.specs.declared.Datagram.{Datagram}
use Rattle.datagram.specs.declared.Datagram.TheVariants as kinds
use Rattle.datagram.specs.Grammar.{read_of}
use Rattle.journal.specs.declared.event.What.TheVariants as told
use Rattle.node_rules.specs.Nodes.{Setting, Node, state_of, neighbours, neighbours_and}
use Rattle.node_rules.specs.Pages.{page, partner, page_number, lacking}
use Rattle.node_rules.specs.Refusals.{refusal}
use Rattle.node_rules.specs.Calls.{Call, begun, tells, lives, takes, signs, signs_and_sends, wants, sends, sends_to_all, is_used_up, own_record}
use Rattle.node_rules.specs.Deliveries.{asked_with, gives_note, settles, judged, handles, handles_all, is_other, gives, replies, hears, delivered}
use Rattle.node_rules.specs.Ticking.{accusation_on, ring_for, has_accused, wants_accusation, accuses, accuses_all, fresh, spreads_all, spreads, is_due, silent_in, pings_in, round_of, pings_all, summary_to, passed, probed_at, spread_at, due_tick, ticked}
use Rattle.node_rules.specs.Leaving.{leaving, leaves, left}
use Rattle.node_rules.specs.Lives.{Input, Delivers, Ticks, Leaves, call_of}

-- The life goes on in the second where it does in the first.
abbrev pub GoesOn : Call → Call → Type 0
GoesOn c d = d.ended ≡ c.ended

on-sends : (s : Setting) (d : Datagram) (c : Call) (to : ℕ) → GoesOn c (sends s d c to)
unfolding sends
on-sends s d c to = refl

on-takes : (s : Setting) (r : Record) (c : Call) → GoesOn c (takes s r c)
unfolding takes lives
on-takes s r c = refl

on-signs : (s : Setting) (body : Body) (c : Call) → GoesOn c (signs s body c)
unfolding signs takes lives
on-signs s body c = refl

on-sends_to_all : (s : Setting) (addressees : List ℕ) (d : Datagram) (c : Call) → GoesOn c (sends_to_all s addressees d c)
on-sends_to_all s [] d c = refl
on-sends_to_all s (to ∷ addressees) d c = on-sends_to_all s addressees d (sends s d c to) ∙ on-sends s d c to

on-wants : (s : Setting) (body : Body) (addressees : State → List ℕ) (c : Call) → GoesOn c (wants true s body addressees c)
unfolding wants signs_and_sends
on-wants s body addressees c =
    let c1 : Call = signs s body c in
    let all : List ℕ = addressees (state_of s c1.node) in
    let d : Datagram = kinds.Records s.me (own_record s c.node body ∷ []) in
    cond_both (is_used_up s c.node) (tells s (told.Exhausted c.node.stored.next) c) (sends_to_all s all d c1) (GoesOn c) (λ up. refl) (λ left. on-sends_to_all s all d c1 ∙ on-signs s body c)

-- ---- deliveries

on-gives_note : (s : Setting) (note : Option NoteBody) (c : Call) → GoesOn c (gives_note true s note c)
on-gives_note s None c = refl
on-gives_note s (Some note) c = on-wants s (Note note) (neighbours s) c

pub on-settles : (s : Setting) (f : Option Fault) (r : Record) (c : Call) → GoesOn c (settles s f r c)
on-settles s (Some f) r c = refl
on-settles s None r c = on-takes s r (tells s (told.Took r.body None) c)

on-judged : (s : Setting) (f : Option Fault) (r : Record) (c : Call) → GoesOn c (judged true s f r c)
on-judged s f r c = on-gives_note s (asked_with s c.node f r.body r) (settles s f r c) ∙ on-settles s f r c

pub on-handles : (s : Setting) (c : Call) (r : Record) → GoesOn c (handles true s c r)
unfolding handles
on-handles s c r = on-judged s (refusal s c.node r) r c

on-handles_all : (s : Setting) (records : List Record) (c : Call) → GoesOn c (handles_all s records c)
on-handles_all s [] c = refl
on-handles_all s (r ∷ records) c = on-handles_all s records (handles true s c r) ∙ on-handles s c r

on-gives : (s : Setting) (to : ℕ) (records : List Record) (c : Call) → GoesOn c (gives s to records c)
on-gives s to [] c = refl
on-gives s to (r ∷ records) c = on-sends s (kinds.Records s.me (r ∷ records)) c to

on-replies : (s : Setting) (to : ℕ) (flag : Bool) (number : ℕ) (c : Call) → GoesOn c (replies s to flag number c)
on-replies s to true number c = refl
on-replies s to false number c = on-sends s (kinds.Summary s.me true (page c.node number)) c to

pub on-hears : (s : Setting) (d : Result Datagram ℕ) (c : Call) → GoesOn c (hears s d c)
on-hears s (Err place) c = refl
on-hears s (Ok (kinds.Ping from nonce)) c =
    let c1 : Call = tells s (told.Ping from nonce) c in
    cond_both (is_other s c.node from) (sends s (kinds.Pong s.me nonce) c1 from) c1 (GoesOn c) (λ yes. on-sends s (kinds.Pong s.me nonce) c1 from) (λ no. refl)
on-hears s (Ok (kinds.Pong from nonce)) c = refl
on-hears s (Ok (kinds.Summary from flag theirs)) c =
    let c1 : Call = tells s (told.Summary from theirs.page flag) c in
    let c2 : Call = gives s from (lacking c.node from theirs) c1 in
    cond_both (is_other s c.node from) (replies s from flag theirs.page c2) c1 (GoesOn c) (λ yes. on-replies s from flag theirs.page c2 ∙ on-gives s from (lacking c.node from theirs) c1) (λ no. refl)
on-hears s (Ok (kinds.Records from records)) c = on-handles_all s records c

on-delivered : (s : Setting) (n : Node) (bytes : List ℕ) → (delivered s n bytes).ended ≡ false
unfolding delivered
on-delivered s n bytes = on-hears s (read_of bytes) (begun n)

-- ---- ticks

on-accusation : (s : Setting) (m : ℕ) (ring : Option ℕ) (c : Call) → GoesOn c (wants_accusation true s m ring c)
on-accusation s m None c = refl
on-accusation s m (Some ring) c = on-wants s (accusation_on s (state_of s c.node) m ring) (neighbours_and s m) c

pub on-accuses : (s : Setting) (c : Call) (m : ℕ) → GoesOn c (accuses true s c m)
unfolding accuses
on-accuses s c m =
    let c1 : Call = tells s (told.Silent m) c in
    let ring : Option ℕ = ring_for s (state_of s c.node) m in
    cond_both (has_accused s (state_of s c.node) m) c (wants_accusation true s m ring c1) (GoesOn c) (λ yes. refl) (λ no. on-accusation s m ring c1)

on-accuses_all : (s : Setting) (silent : List ℕ) (c : Call) → GoesOn c (accuses_all s silent c)
on-accuses_all s [] c = refl
on-accuses_all s (m ∷ silent) c = on-accuses_all s silent (accuses true s c m) ∙ on-accuses s c m

pub on-pings_all : (s : Setting) (pings : List (ℕ × ℕ)) (c : Call) → GoesOn c (pings_all s pings c)
on-pings_all s [] c = refl
on-pings_all s (p ∷ pings) c = on-pings_all s pings (sends s (kinds.Ping s.me p.1) c p.0) ∙ on-sends s (kinds.Ping s.me p.1) c p.0

pub on-summary : (s : Setting) (round : ℕ) (to : Option ℕ) (c : Call) → GoesOn c (summary_to s round to c)
on-summary s round None c = refl
on-summary s round (Some to) c = on-sends s (kinds.Summary s.me false (page c.node (page_number s c.node round))) c to

on-spreads_all : (s : Setting) (records : List Record) (c : Call) → GoesOn c (spreads_all s records c)
on-spreads_all s [] c = refl
on-spreads_all s (r ∷ records) c = on-sends_to_all s (neighbours s (state_of s c.node)) (kinds.Records s.me (r ∷ records)) c

on-spreads : (s : Setting) (c : Call) → GoesOn c (spreads s c)
unfolding spreads
on-spreads s c = on-spreads_all s (fresh c.node) c

on-due : (s : Setting) (accused : List ℕ) (pings : List (ℕ × ℕ)) (round : ℕ) (c : Call) → GoesOn c (due_tick s accused pings round c)
unfolding due_tick
on-due s accused pings round c =
    let c0 : Call = spreads s c in
    let c1 : Call = accuses_all s accused c0 in
    let c2 : Call = pings_all s pings c1 in
    on-summary s round (partner s c2.node round) c2 ∙ on-pings_all s pings c1 ∙ on-accuses_all s accused c0 ∙ on-spreads s c

pub on-probed : (s : Setting) (n : Node) → (probed_at s n).ended ≡ false
unfolding probed_at passed lives
on-probed s n = refl

pub on-spread : (s : Setting) (n : Node) → (spread_at s n).ended ≡ false
unfolding spread_at
on-spread s n = on-spreads s (probed_at s n) ∙ on-probed s n

on-ticked : (s : Setting) (n : Node) → (ticked s n).ended ≡ false
unfolding ticked
on-ticked s n =
    let p : Node = (passed s n).node in
    let st : State = state_of s p in
    let due_one : Call = due_tick s (silent_in s p st) (pings_in s p st) (round_of s st) (probed_at s n) in
    cond_both (is_due s st) due_one (probed_at s n) (λ c. c.ended ≡ false) (λ due. on-due s (silent_in s p st) (pings_in s p st) (round_of s st) (probed_at s n) ∙ on-probed s n) (λ never. on-probed s n)

-- ---- leaving

pub on-leaves : (s : Setting) (c : Call) → GoesOn c (leaves true s c)
unfolding leaves
on-leaves s c = on-wants s (leaving s c.node.stored) (neighbours s) c

on-left : (s : Setting) (n : Node) → (left s n).ended ≡ false
unfolding left
on-left s n = on-leaves s (begun n)

pub whole-goes_on : (s : Setting) (n : Node) (i : Input) → (call_of s n i).ended ≡ false
whole-goes_on s n (Delivers bytes) = on-delivered s n bytes
whole-goes_on s n Ticks = on-ticked s n
whole-goes_on s n Leaves = on-left s n
