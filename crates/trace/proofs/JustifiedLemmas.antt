-- Each whole line of what was written that gives a removal is the report of an event of a life, of a leaving note or of a
-- tick, resting on an accusation; and each removal of a life is such a line.
use Rattle.std.proofs.Common.{◌≡◌, ℕ, zero, suc, ◌+◌, ◌-◌, ◌<◌, ◌⊎◌, inl, inr, true, not, eqb, append-nil, List, [], ◌∷◌, ◌++◌, length, map, take, drop, get_or, Some, None, refl, ap, sym, ◌∙◌, subst, append_assoc, arith, length-append}
use Rattle.std.specs.Prelude.{codes, flat_map}
use Rattle.std.specs.List.{AllByRecursion, concat, join_with_byte, slice_get}
use Rattle.std.specs.Fmt.{decimal}
use Rattle.std.proofs.lemmas.Bool.{and_from, and_parts}
use Rattle.ff_ids.specs.declared.AccBody.{AccBody}
use Rattle.ff_ids.specs.declared.Group.{Group}
use Rattle.ff_ids.specs.Lives.{opening, reports, state_at}
use Rattle.ff_ids.specs.Steps.{Event, Report, step}
use Rattle.ff_ids.specs.Views.{State}
use Rattle.life_events.specs.declared.event.Event as reported
use Rattle.life_events.specs.declared.event.What.{What}
use Rattle.life_events.specs.declared.event.What.TheVariants as what
use Rattle.life_events.specs.Events.{what_text}
use Rattle.life_laws.proofs.Lists.{In, In-append_cases, In-append_left, In-append_right, In-from_Contains, Contains-from_In, In-from_map}
use Rattle.schedule_direct.specs.declared.line.DirectLine.{DirectLine}
use Rattle.schedule_direct.specs.declared.line.DirectLine.TheVariants as lines
use Rattle.schedule_direct.specs.Grammar as grammar
use Rattle.schedule_direct.specs.Grammar.{spelled_words}
use Rattle.text_trace.specs.Lines.{has_no_feed}
use Rattle.trace.specs.Answers.{Recorded, events_of, verdict_text}
use Rattle.trace.specs.Lives.{reported_from, reported_in}
use Rattle.trace.specs.Walk.{Taken, events_in, lives_in, replayed, walk_over}
use Rattle.trace.specs.Written.{IsJustified, IsLineOf, IsTold, IsWholeLine, removal_line}
use Rattle.trace.proofs.TextLemmas.{ends-fed, same-fronts, unspaced-decimal}
use Rattle.trace.proofs.UprightLemmas.{justified-walk}
use Rattle.trace.proofs.WalkLemmas.{are-of-lives}
use Rattle.trace.proofs.WrittenLemmas.{IsTakenLine, all-taken, event_line, front-of, output-pieces, pieces, pieces_of, told_line, whole-pieces}

-- ## Whole lines of whole lines

-- two texts that begin with a whole line have the same one
same-line : (p q x y : List ℕ) → IsWholeLine p → IsWholeLine q → p ++ x ≡ q ++ y → (p ≡ q) × (x ≡ y)
same-line p q x y a b e =
    let left : p ++ x ≡ a.front ++ 10 ∷ x = ap (λ (l : List ℕ). l ++ x) a.ended ∙ append_assoc a.front (10 ∷ []) x in
    let right : q ++ y ≡ b.front ++ 10 ∷ y = ap (λ (l : List ℕ). l ++ y) b.ended ∙ append_assoc b.front (10 ∷ []) y in
    let s = same-fronts 10 a.front b.front x y a.clear b.clear (sym left ∙ e ∙ right) in
    (a.ended ∙ ap (λ (f : List ℕ). f ++ 10 ∷ []) s.fronts ∙ sym b.ended, s.rests)

no-line : (p x : List ℕ) → IsWholeLine p → [] ≡ p ++ x → ⊥
no-line p x a e = absurd (omega (arith, ap length e, length-append p x, ap length a.ended, length-append a.front (10 ∷ [])))

-- a whole line in whole lines is one of them
among : (ps earlier : List (List ℕ)) (line after : List ℕ) → AllByRecursion IsWholeLine ps → AllByRecursion IsWholeLine earlier → IsWholeLine line → (rest : List ℕ) → concat ps ≡ concat earlier ++ (line ++ after) → In ps line
among [] [] line after a b here rest e = absurd (no-line line after here e)
among [] (f ∷ earlier) line after a b here rest e = absurd (no-line f (concat earlier ++ (line ++ after)) b.0 (e ∙ append_assoc f (concat earlier) (line ++ after)))
among (p ∷ ps) [] line after a b here rest e = inl (same-line p line (concat ps) after a.0 here e).0
among (p ∷ ps) (f ∷ earlier) line after a b here rest e =
    let s = same-line p f (concat ps) (concat earlier ++ (line ++ after)) a.0 b.0 (e ∙ append_assoc f (concat earlier) (line ++ after)) in
    inr (among ps earlier line after a.1 b.1 here rest s.1)

-- a whole line of a front of whole lines is one of them
pub line-among : (ps : List (List ℕ)) (line written rest : List ℕ) → AllByRecursion IsWholeLine ps → concat ps ≡ written ++ rest → IsLineOf line written → In ps line
line-among ps line written rest all same l =
    among ps l.earlier line (l.after ++ rest) all l.whole l.here rest
    (same ∙ ap (λ (w : List ℕ). w ++ rest) l.parts ∙ append_assoc (concat l.earlier) (line ++ l.after) rest ∙ ap (λ (x : List ℕ). concat l.earlier ++ x) (append_assoc line l.after rest))

-- one of the whole lines is a whole line of them
pub split : (ps : List (List ℕ)) (line : List ℕ) → AllByRecursion IsWholeLine ps → In ps line → IsLineOf line (concat ps)
split [] line all i = absurd i
split (p ∷ ps) line all (inl e) = record { earlier = []; after = concat ps; whole = tt; here = subst IsWholeLine e all.0; parts = ap (λ (l : List ℕ). l ++ concat ps) e }
split (p ∷ ps) line all (inr i) =
    let s = split ps line all.1 i in
    record {
      earlier = p ∷ s.earlier;
      after = s.after;
      whole = (all.0, s.whole);
      here = s.here;
      parts = ap (λ (x : List ℕ). p ++ x) s.parts ∙ sym (append_assoc p (concat s.earlier) (line ++ s.after));
    }

-- ## No line of the input gives a removal

abbrev NotAt : List ℕ → Type 0
NotAt text = (get_or text 0 0 ≡ 97) → (get_or text 1 0 ≡ 116) → ⊥

not-at : (l : DirectLine) (rest : List ℕ) → NotAt (join_with_byte 32 (spelled_words l) ++ rest)
not-at lines.Header rest a t = absurd (omega (arith, a))
not-at (lines.Group g timeout) rest a t = absurd (omega (arith, a))
not-at (lines.Member m ps) rest a t = absurd (omega (arith, a))
not-at (lines.Note n) rest a t = absurd (omega (arith, a))
not-at (lines.Accuse b) rest a t = absurd (omega (arith, t))
not-at (lines.Tick n) rest a t = absurd (omega (arith, a))
not-at lines.View rest a t = absurd (omega (arith, a))
not-at (lines.Monitor r m) rest a t = absurd (omega (arith, a))
not-at lines.Life rest a t = absurd (omega (arith, a))
not-at lines.End rest a t = absurd (omega (arith, a))

no-removal : (t : Taken) (moment m : ℕ) → IsTakenLine t → told_line t ≡ removal_line moment m → ⊥
no-removal t moment m is e =
    let rest = verdict_text t.answer.verdict ++ 10 ∷ [] in
    let begins : told_line t ≡ join_with_byte 32 (spelled_words t.line) ++ rest =
    append_assoc (take (length t.bytes - 1) t.bytes) (verdict_text t.answer.verdict) (10 ∷ []) ∙ ap (λ (x : List ℕ). x ++ rest) (front-of t is) in
    let same : join_with_byte 32 (spelled_words t.line) ++ rest ≡ removal_line moment m = sym begins ∙ e in
    not-at t.line rest (ap (λ (x : List ℕ). get_or x 0 0) same) (ap (λ (x : List ℕ). get_or x 1 0) same)

-- ## Which event a line gives

-- an event whose line gives a removal is one
first-byte : (w : What) (m : ℕ) → what_text w ++ 10 ∷ [] ≡ (codes "removed " ++ decimal m) ++ 10 ∷ [] → (k : ℕ) × (w ≡ what.Removed k)
first-byte (what.Entered k) m e = absurd (omega (arith, ap (λ (x : List ℕ). get_or x 0 0) e))
first-byte (what.Expired a) m e = absurd (omega (arith, ap (λ (x : List ℕ). get_or x 0 0) e))
first-byte (what.Removed k) m e = (k, refl)
first-byte (what.Fell a) m e = absurd (omega (arith, ap (λ (x : List ℕ). get_or x 0 0) e))

-- the text behind the word `at` and a space
behind-at : (e : reported.Event) → event_line e ≡ codes "at " ++ (decimal e.moment ++ 32 ∷ (what_text e.what ++ 10 ∷ []))
behind-at e =
    append_assoc ((codes "at " ++ decimal e.moment) ++ codes " ") (what_text e.what) (10 ∷ [])
    ∙ append_assoc (codes "at " ++ decimal e.moment) (codes " ") (what_text e.what ++ 10 ∷ [])
    ∙ append_assoc (codes "at ") (decimal e.moment) (32 ∷ (what_text e.what ++ 10 ∷ []))

drop-at : (x y : List ℕ) → codes "at " ++ x ≡ codes "at " ++ y → x ≡ y
drop-at x y e = ap (λ (t : List ℕ). drop 3 t) e

removal-event : (e : reported.Event) (moment m : ℕ) → event_line e ≡ removal_line moment m → (k : ℕ) × (e.what ≡ what.Removed k)
removal-event e moment m same =
    let other : reported.Event = record { moment = moment; what = what.Removed m } in
    let behind = drop-at _ _ (sym (behind-at e) ∙ same ∙ behind-at other) in
    let s = same-fronts 32 (decimal e.moment) (decimal moment) _ _ (unspaced-decimal e.moment) (unspaced-decimal moment) behind in
    first-byte e.what m s.rests

-- ## The lines of a walk

in-pieces : (taken : List Taken) (line : List ℕ) → AllByRecursion IsTakenLine taken → In (pieces taken) line → ((t : Taken) × (IsTakenLine t × (told_line t ≡ line))) ⊎ ((e : reported.Event) × (In (flat_map (λ t. t.answer.events) taken) e × (event_line e ≡ line)))
in-pieces [] line all i = absurd i
in-pieces (t ∷ taken) line all i =
    elim (In-append_cases (pieces_of t) (pieces taken) line i) [
      | inl (inl told) ↦ inl (t, (all.0, told))
      | inl (inr event) ↦
          let x = In-from_map event_line t.answer.events line event in
          inr (x.0, (In-append_left t.answer.events (flat_map (λ t. t.answer.events) taken) x.0 x.1.0, x.1.1))
      | inr later ↦
          elim (in-pieces taken line all.1 later) [
            | inl told ↦ inl told
            | inr event ↦ inr (event.0, (In-append_right t.answer.events (flat_map (λ t. t.answer.events) taken) event.0 event.1.0, event.1.1))
          ]
    ]

event-in : (taken : List Taken) (e : reported.Event) → In (flat_map (λ t. t.answer.events) taken) e → In (pieces taken) (event_line e)
event-in [] e i = absurd i
event-in (t ∷ taken) e i =
    elim (In-append_cases t.answer.events (flat_map (λ t. t.answer.events) taken) e i) [
      | inl here ↦ In-append_left (pieces_of t) (pieces taken) (event_line e) (inr (mapped t.answer.events e here))
      | inr later ↦ In-append_right (pieces_of t) (pieces taken) (event_line e) (event-in taken e later)
    ]
  where
    mapped : (events : List reported.Event) (e : reported.Event) → In events e → In (map event_line events) (event_line e)
    mapped [] e i = absurd i
    mapped (x ∷ events) e (inl same) = inl (ap event_line same)
    mapped (x ∷ events) e (inr i) = inr (mapped events e i)

-- each whole line of a front of what is written for lines that gives a removal is the report of an event of a life, and has
-- its cause in it
pub justified-written : (ls : List (List ℕ)) (written rest : List ℕ) → (replayed ls).output ≡ written ++ rest → IsJustified ls written
justified-written ls written rest same moment m line =
    let w = walk_over ls in
    let all = all-taken ls grammar.opening None in
    let i = line-among (pieces w.taken) (removal_line moment m) written rest (whole-pieces w.taken all) (sym (output-pieces w.taken) ∙ same) line in
    elim (in-pieces w.taken (removal_line moment m) all i) [
      | inl told ↦ absurd (no-removal told.0 moment m told.1.0 told.1.1)
      | inr event ↦
          let e = event.0 in
          let k = removal-event e moment m event.1.1 in
          let given : e ≡ record { moment = e.moment; what = what.Removed k.0 } = ap (λ (x : What). record { moment = e.moment; what = x }) k.1 in
          let there = justified-walk ls e.moment k.0 (Contains-from_In (events_in w) _ (subst (In (events_in w)) given event.1.0)) in
          record { life = there.0; moment = e.moment; member = k.0; recorded = there.1; spelled = sym event.1.1 ∙ ap event_line given; removal = there.2 }
    ]

-- ## A line of another kind behind what is written

-- a line, or a part of one without its line feed
abbrev pub IsTail : List ℕ → Type 0
IsTail last = (has_no_feed last ≡ true) ⊎ IsWholeLine last

-- no whole line stands in front of more in a tail
tail-alone : (last f x : List ℕ) → IsTail last → IsWholeLine f → last ≡ f ++ x → x ≡ []
tail-alone last f x (inl clear) whole e =
    let split : last ≡ whole.front ++ 10 ∷ x = e ∙ ap (λ (l : List ℕ). l ++ x) whole.ended ∙ append_assoc whole.front (10 ∷ []) x in
    absurd (ends-fed whole.front x (subst (λ (l : List ℕ). has_no_feed l ≡ true) split clear))
tail-alone last f x (inr line) whole e = sym (same-line last f [] x line whole (append-nil last ∙ e)).1

first-of : (line after : List ℕ) → IsWholeLine line → get_or (line ++ after) 0 0 ≡ get_or line 0 0
first-of [] after whole = absurd (no-line [] [] whole refl)
first-of (b ∷ line) after whole = refl

-- a whole line of whole lines and a tail is one of them, or begins as the tail
pub among-tail : (ps earlier : List (List ℕ)) (line after last : List ℕ) → AllByRecursion IsWholeLine ps → AllByRecursion IsWholeLine earlier → IsWholeLine line → IsTail last → concat ps ++ last ≡ concat earlier ++ (line ++ after)
    → In ps line ⊎ (get_or last 0 0 ≡ get_or line 0 0)
among-tail [] [] line after last a b here tail e = inr (ap (λ (x : List ℕ). get_or x 0 0) e ∙ first-of line after here)
among-tail [] (f ∷ earlier) line after last a b here tail e =
    let none = tail-alone last f (concat earlier ++ (line ++ after)) tail b.0 (e ∙ append_assoc f (concat earlier) (line ++ after)) in
    absurd (omega (arith, ap length none, length-append (concat earlier) (line ++ after), length-append line after, ap length here.ended, length-append here.front (10 ∷ [])))
among-tail (p ∷ ps) [] line after last a b here tail e = inl (inl (same-line p line (concat ps ++ last) after a.0 here (sym (append_assoc p (concat ps) last) ∙ e)).0)
among-tail (p ∷ ps) (f ∷ earlier) line after last a b here tail e =
    let s = same-line p f (concat ps ++ last) (concat earlier ++ (line ++ after)) a.0 b.0 (sym (append_assoc p (concat ps) last) ∙ e ∙ append_assoc f (concat earlier) (line ++ after)) in
    elim (among-tail ps earlier line after last a.1 b.1 here tail s.1) [ inl i ↦ inl (inr i) | inr begins ↦ inr begins ]

-- behind all that is written for lines, a tail that begins otherwise than an event gives no removal
pub justified-behind : (ls : List (List ℕ)) (last : List ℕ) → IsTail last → (get_or last 0 0 ≡ 97 → ⊥) → IsJustified ls ((replayed ls).output ++ last)
justified-behind ls last tail other moment m line =
    let w = walk_over ls in
    let all = whole-pieces w.taken (all-taken ls grammar.opening None) in
    let same : concat (pieces w.taken) ++ last ≡ concat line.earlier ++ (removal_line moment m ++ line.after) = ap (λ (x : List ℕ). x ++ last) (sym (output-pieces w.taken)) ∙ line.parts in
    elim (among-tail (pieces w.taken) line.earlier (removal_line moment m) line.after last all line.whole line.here tail same) [
      | inl i ↦ justified-written ls (replayed ls).output [] (sym (append-nil (replayed ls).output)) moment m
          (subst (IsLineOf (removal_line moment m)) (sym (output-pieces w.taken)) (split (pieces w.taken) (removal_line moment m) all i))
      | inr begins ↦ absurd (other begins)
    ]

-- a front of a line has no line feed
pub clear-front : (front : List ℕ) (count : ℕ) → has_no_feed front ≡ true → count < length (front ++ 10 ∷ []) → has_no_feed (take count (front ++ 10 ∷ [])) ≡ true
clear-front front zero clear short = refl
clear-front [] (suc count) clear short = absurd (omega (arith, short))
clear-front (b ∷ front) (suc count) clear short =
    let parts = and_parts (not (eqb b 10)) (has_no_feed front) clear in
    and_from (not (eqb b 10)) (has_no_feed (take count (front ++ 10 ∷ []))) parts.0 (clear-front front count parts.1 (omega (arith, short)))

-- ## Each removal of a life is reported

pub in-map : {X Y : Type 0} (f : X → Y) (xs : List X) (x : X) → In xs x → In (map f xs) (f x)
in-map f [] x i = absurd i
in-map f (y ∷ ys) x (inl e) = inl (ap f e)
in-map f (y ∷ ys) x (inr i) = inr (in-map f ys x i)

reported-at : (g : Group) (s : State) (events : List Event) (place : ℕ) (report : Report) (m : ℕ) → slice_get (reports g s events) place ≡ Some report → In report.removed m → In (reported_from g s events) (record { moment = (state_at g s events (place + 1)).moment; what = what.Removed m })
reported-at g s [] place report m at i = absurd cc
reported-at g s (e ∷ events) zero report m at i =
    let st = step g s e in
    let same : st.report ≡ report = cc in
    let ev : ℕ → reported.Event = λ k. record { moment = st.state.moment; what = what.Removed k } in
    let removed : In (map ev st.report.removed) (ev m) = in-map ev st.report.removed m (subst (λ (r : Report). In r.removed m) (sym same) i) in
    let expired : List reported.Event = map (λ (a : AccBody). record { moment = st.state.moment; what = what.Expired a }) st.report.expired in
    let entered : List reported.Event = map (λ (k : ℕ). record { moment = st.state.moment; what = what.Entered k }) st.report.entered in
    let fell : List reported.Event = map (λ (a : AccBody). record { moment = st.state.moment; what = what.Fell a }) st.report.fell in
    let gone = map ev st.report.removed in
    In-append_left (events_of st) (reported_from g st.state events) (ev m)
    (In-append_left ((expired ++ gone) ++ entered) fell (ev m) (In-append_left (expired ++ gone) entered (ev m) (In-append_right expired gone (ev m) removed)))
reported-at g s (e ∷ events) (suc place) report m at i =
    let inner = reported-at g (step g s e).state events place report m at i in
    let more : suc place + 1 ≡ suc (place + 1) = omega arith in
    subst (λ (k : ℕ). In (reported_from g s (e ∷ events)) (record { moment = (state_at g s (e ∷ events) k).moment; what = what.Removed m })) (sym more)
    (In-append_right (events_of (step g s e)) (reported_from g (step g s e).state events) _ inner)

in-flat : (lives : List Recorded) (r : Recorded) (e : reported.Event) → In lives r → In (reported_in r) e → In (flat_map reported_in lives) e
in-flat [] r e i j = absurd i
in-flat (x ∷ lives) r e (inl same) j = In-append_left (reported_in x) (flat_map reported_in lives) e (subst (λ (y : Recorded). In (reported_in y) e) (sym same) j)
in-flat (x ∷ lives) r e (inr i) j = In-append_right (reported_in x) (flat_map reported_in lives) e (in-flat lives r e i j)

-- each removal that a life of the walk over lines reports is a line of what is written for them
pub told-written : (ls : List (List ℕ)) → IsTold ls (replayed ls).output
told-written ls r moment m recorded removal =
    let w = walk_over ls in
    let ev : ℕ → reported.Event = λ k. record { moment = k; what = what.Removed m } in
    let here : In (reported_in r) (ev (state_at r.group (opening r.members) r.events (removal.place + 1)).moment) =
    reported-at r.group (opening r.members) r.events removal.place removal.report m removal.reported (In-from_Contains removal.report.removed m removal.removed) in
    let at : In (reported_in r) (ev moment) = subst (λ (k : ℕ). In (reported_in r) (ev k)) removal.at here in
    let flat : In (flat_map reported_in (lives_in w)) (ev moment) = in-flat (lives_in w) r (ev moment) (In-from_Contains (lives_in w) r recorded) at in
    let events : In (events_in w) (ev moment) = subst (λ (es : List reported.Event). In es (ev moment)) (sym (are-of-lives ls)) flat in
    let line = split (pieces w.taken) (event_line (ev moment)) (whole-pieces w.taken (all-taken ls grammar.opening None)) (event-in w.taken (ev moment) events) in
    subst (IsLineOf (removal_line moment m)) (sym (output-pieces w.taken)) line
