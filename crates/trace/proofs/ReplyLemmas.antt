-- How the lives of a walk go on, from one line to a later one.
use Rattle.std.proofs.Common.{◌≡◌, ℕ, zero, suc, ◌<◌, ◌⊎◌, inl, inr, List, [], ◌∷◌, ◌++◌, Option, Some, Result, Ok, Err, refl, ap, sym, ◌∙◌, subst, append_assoc, arith}
use Rattle.std.specs.List.{slice_get}
use Rattle.std.proofs.lemmas.List.{append-nil}
use Rattle.ff_ids.specs.Steps.{Accuses, Event, Joins, Notes, Ticks}
use Rattle.line_text.specs.declared.bad_word.BadWord.{BadWord}
use Rattle.schedule_direct.specs.declared.line.DirectLine.{DirectLine}
use Rattle.schedule_direct.specs.declared.line.DirectLine.TheVariants as lines
use Rattle.line_text.specs.Answers.{Progress}
use Rattle.schedule_direct.specs.declared.direct.Direct.{Direct}
use Rattle.schedule_direct.specs.Grammar as grammar
use Rattle.trace.specs.Answers.{Answer, Recorded, answer, answer_in, next_life, places_at, with_event, with_ticks}
use Rattle.trace.specs.Walk.{Taken, Walk, from_line, onto, walk}

pub some-same : {X : Type 0} → (x y : X) → Some x ≡ Some y → x ≡ y
some-same x y same = cc

-- the same life, with more events
pub record Extends (a b : Recorded) : Type 0 where
  pub group : b.group ≡ a.group
  pub life : b.life ≡ a.life
  pub members : b.members ≡ a.members
  pub more : List Event
  pub events : b.events ≡ a.events ++ more

-- the same life, or one after it
abbrev pub Later : Recorded → Recorded → Type 0
Later a b = (a.life < b.life) ⊎ Extends a b

extends-none : (a : Recorded) → Extends a a
extends-none a = record { group = refl; life = refl; members = refl; more = []; events = sym (append-nil a.events) }

extends-more : (a b c : Recorded) → Extends a b → Extends b c → Extends a c
extends-more a b c x y = record {
  group = y.group ∙ x.group;
  life = y.life ∙ x.life;
  members = y.members ∙ x.members;
  more = x.more ++ y.more;
  events = y.events ∙ ap (λ (es : List Event). es ++ y.more) x.events ∙ append_assoc a.events x.more y.more;
}

later-more : (a b c : Recorded) → Later a b → Later b c → Later a c
later-more a b c (inl x) (inl y) = inl (omega arith)
later-more a b c (inl x) (inr y) = inl (omega (arith, x, y.life))
later-more a b c (inr x) (inl y) = inl (omega (arith, x.life, y))
later-more a b c (inr x) (inr y) = inr (extends-more a b c x y)

extends-event : (r : Recorded) (e : Event) → Extends r (with_event r e)
extends-event r e = record { group = refl; life = refl; members = refl; more = e ∷ []; events = refl }

pub extends-ticks : (n : ℕ) (r : Recorded) → Extends r (with_ticks n r)
extends-ticks zero r = extends-none r
extends-ticks (suc n) r = extends-more r (with_ticks n r) (with_ticks (suc n) r) (extends-ticks n r) (extends-event (with_ticks n r) Ticks)

-- the life behind a line
record Goes (r : Recorded) (a : Answer) : Type 0 where
  next : Recorded
  is : a.recorded ≡ Some next
  later : Later r next

goes : (r : Recorded) (line : DirectLine) → Goes r (answer_in r line)
goes r lines.Header = record { next = r; is = refl; later = inr (extends-none r) }
goes r (lines.Group t timeout) = record { next = r; is = refl; later = inr (extends-none r) }
goes r (lines.Member m places) = record { next = with_event r (Joins m (places_at places)); is = refl; later = inr (extends-event r (Joins m (places_at places))) }
goes r (lines.Note note) = record { next = with_event r (Notes note); is = refl; later = inr (extends-event r (Notes note)) }
goes r (lines.Accuse a) = record { next = with_event r (Accuses a); is = refl; later = inr (extends-event r (Accuses a)) }
goes r (lines.Tick n) = record { next = with_ticks n r; is = refl; later = inr (extends-ticks n r) }
goes r lines.View = record { next = r; is = refl; later = inr (extends-none r) }
goes r (lines.Monitor ring m) = record { next = r; is = refl; later = inr (extends-none r) }
goes r lines.Life = record { next = next_life r; is = refl; later = inl (omega arith) }
goes r lines.End = record { next = r; is = refl; later = inr (extends-none r) }

-- ## Along a walk

-- each line finds the life that was being recorded at the start, or one that it became
abbrev AllLater : Recorded → List Taken → Type 0
AllLater r taken = (j : ℕ) (t : Taken) (other : Recorded) → slice_get taken j ≡ Some t → t.before ≡ Some other → Later r other

later-judged : (r : Recorded) (bytes : List ℕ) (judged : Result DirectLine BadWord) (rest : DirectLine → Walk) → ((l : DirectLine) → AllLater (goes r l).next (rest l).taken) → AllLater r (from_line (Some r) bytes judged rest).taken
later-judged r bytes (Err w) rest h = λ j t other at before. cc
later-judged r bytes (Ok l) rest h = λ j t other at before. later-step r bytes l (rest l) (h l) j t other at before
  where
    later-step : (r : Recorded) (bytes : List ℕ) (l : DirectLine) (w : Walk) → AllLater (goes r l).next w.taken → (j : ℕ) (t : Taken) (other : Recorded) → slice_get (from_line (Some r) bytes (Ok l) (λ k. w)).taken j ≡ Some t → t.before ≡ Some other → Later r other
    later-step r bytes l w h zero t other at before =
        let same : Some r ≡ Some other = ap (λ (x : Taken). x.before) (some-same _ t at) ∙ before in
        subst (Later r) (some-same r other same) (inr (extends-none r))
    later-step r bytes l w h (suc j) t other at before = later-more r (goes r l).next other (goes r l).later (h j t other at before)

all-later : (lines : List (List ℕ)) (p : Progress Direct) (r : Recorded) → AllLater r (walk lines p (Some r)).taken
all-later [] p r = λ j t other at before. cc
all-later (bytes ∷ lines) p r =
    later-judged r bytes (grammar.judge p bytes) (λ l. walk lines (grammar.behind p l) (answer_in r l).recorded)
    (λ l. subst (λ (recorded : Option Recorded). AllLater (goes r l).next (walk lines (grammar.behind p l) recorded).taken) (sym (goes r l).is) (all-later lines (grammar.behind p l) (goes r l).next))

-- what a line brought is its answer
abbrev AllAnswered : List Taken → Type 0
AllAnswered taken = (j : ℕ) (t : Taken) → slice_get taken j ≡ Some t → t.answer ≡ answer t.before t.line

answered-onto : (first : Taken) (w : Walk) → first.answer ≡ answer first.before first.line → AllAnswered w.taken → AllAnswered (onto first w).taken
answered-onto first w is h zero t at = subst (λ (x : Taken). x.answer ≡ answer x.before x.line) (some-same first t at) is
answered-onto first w is h (suc j) t at = h j t at

answered-judged : (recorded : Option Recorded) (bytes : List ℕ) (judged : Result DirectLine BadWord) (rest : DirectLine → Walk) → ((l : DirectLine) → AllAnswered (rest l).taken) → AllAnswered (from_line recorded bytes judged rest).taken
answered-judged recorded bytes (Err w) rest h = λ j t at. cc
answered-judged recorded bytes (Ok l) rest h = answered-onto (record { bytes = bytes; before = recorded; line = l; answer = answer recorded l }) (rest l) refl (h l)

pub all-answered : (lines : List (List ℕ)) (p : Progress Direct) (recorded : Option Recorded) → AllAnswered (walk lines p recorded).taken
all-answered [] p recorded = λ j t at. cc
all-answered (bytes ∷ lines) p recorded =
    answered-judged recorded bytes (grammar.judge p bytes) (λ l. walk lines (grammar.behind p l) (answer recorded l).recorded)
    (λ l. all-answered lines (grammar.behind p l) (answer recorded l).recorded)

-- what is recorded behind a line goes on to what a later line finds
abbrev GoesOnTo : List Taken → Type 0
GoesOnTo taken = (i j : ℕ) (t u : Taken) (r other : Recorded) → i < j → slice_get taken i ≡ Some t → slice_get taken j ≡ Some u → t.answer.recorded ≡ Some r → u.before ≡ Some other → Later r other

goes-onto : (first : Taken) (w : Walk) → ((r : Recorded) → first.answer.recorded ≡ Some r → AllLater r w.taken) → GoesOnTo w.taken → GoesOnTo (onto first w).taken
goes-onto first w here h i zero t u r other less at_i at_j is before = absurd (omega arith)
goes-onto first w here h zero (suc j) t u r other less at_i at_j is before =
    here r (ap (λ (x : Taken). x.answer.recorded) (some-same first t at_i) ∙ is) j u other at_j before
goes-onto first w here h (suc i) (suc j) t u r other less at_i at_j is before = h i j t u r other (omega arith) at_i at_j is before

goes-judged : (recorded : Option Recorded) (bytes : List ℕ) (judged : Result DirectLine BadWord) (rest : DirectLine → Walk) → ((l : DirectLine) (r : Recorded) → (answer recorded l).recorded ≡ Some r → AllLater r (rest l).taken) → ((l : DirectLine) → GoesOnTo (rest l).taken) → GoesOnTo (from_line recorded bytes judged rest).taken
goes-judged recorded bytes (Err w) rest here h = λ i j t u r other less at_i at_j is before. cc
goes-judged recorded bytes (Ok l) rest here h = goes-onto (record { bytes = bytes; before = recorded; line = l; answer = answer recorded l }) (rest l) (here l) (h l)

pub goes-on-to : (lines : List (List ℕ)) (p : Progress Direct) (recorded : Option Recorded) → GoesOnTo (walk lines p recorded).taken
goes-on-to [] p recorded = λ i j t u r other less at_i at_j is before. cc
goes-on-to (bytes ∷ lines) p recorded =
    goes-judged recorded bytes (grammar.judge p bytes) (λ l. walk lines (grammar.behind p l) (answer recorded l).recorded)
    (λ l r is. subst (λ (behind : Option Recorded). AllLater r (walk lines (grammar.behind p l) behind).taken) (sym is) (all-later lines (grammar.behind p l) r))
    (λ l. goes-on-to lines (grammar.behind p l) (answer recorded l).recorded)
