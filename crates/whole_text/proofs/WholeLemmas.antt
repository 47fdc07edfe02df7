-- A text that was read to its end, and one that wasn't.
use Rattle.std.proofs.Common.{◌≡◌, ℕ, ◌<◌, ◌+◌, ◌-◌, Bool, true, false, cond, List, [], ◌∷◌, ◌++◌, length, Option, Some, None, refl, sym, ap, subst, ◌∙◌, append-nil, Result, Ok, Err, inl, inr, arith}
use Rattle.std.specs.Io.KnownBytes.{Appends}
use Rattle.line_text.specs.declared.bad_word.BadWord.{BadWord}
use Rattle.line_text.specs.declared.bad_word.BadWord.TheVariants as bad
use Rattle.line_text.specs.Answers.{Progress, moved}
use Rattle.line_text.proofs.FrameLemmas.{line-unfed}
use Rattle.play.specs.declared.stop.Stop.{Stop}
use Rattle.play.specs.declared.stop.Stop.TheVariants as stop
use Rattle.play.specs.Plays.{ConsumedLines, Follows, IoState, IsAdmitted, Runs, Starved, Unwritten, has_written}
use Rattle.text_trace.specs.Lines.{has_no_feed, text_lines}
use Rattle.text_trace.specs.Trace.{Admits, before, Every, Continuation, Refuses, Trace, Writes}
use Rattle.text_trace.proofs.TraceLemmas.{free-as}
use Rattle.whole_text.specs.Gathered.{IsUnfinished, IsWhole, Judging, Leads, behind_these, judged_then, lines_from, nothing, owed_from, owed_whole, told_of, unread}
use Rattle.whole_text.specs.Laws.{told-silent}
use Rattle.whole_text.proofs.GatherLemmas.{Spelled, judged_at, line-is}

abbrev output_of : Trace BadWord → List ℕ
output_of t = t.output

abbrev cause_of : Trace BadWord → Option BadWord
cause_of t = t.cause

no-front : (front rest : List ℕ) → front ++ rest ≡ [] → front ≡ []
no-front [] rest none = refl
no-front (b ∷ front) rest none = cc

no-back : (front rest : List ℕ) → front ++ rest ≡ [] → rest ≡ []
no-back [] rest none = none
no-back (b ∷ front) rest none = cc

-- ## To its end

abbrev no_lines : {L : Type 0} → Result (List L) BadWord
no_lines = Ok []

ended-none : {L : Type 0} (b : Bool) → (told_of {L = L} nothing (cond b (Ok []) (Err bad.End))).cause ≡ None → cond b (Ok []) (Err bad.End) ≡ no_lines {L = L}
ended-none true e = refl
ended-none false e = cc

of-none : {L : Type 0} (r : Result (List L) BadWord) → behind_these [] r ≡ r
of-none (Ok lines) = refl
of-none (Err v) = refl

-- the text is written of which the trace is this
text-none : {L : Type 0} (r : Result (List L) BadWord) (text : List ℕ) (cause : Option BadWord) → told_of nothing r ≡ record { output = text; cause = cause } → text ≡ []
text-none r text cause is = sym (ap output_of is) ∙ told-silent r

pub whole : {F L : Type 0} (j : Judging F L) (form : F) (p q : Progress F) (known lines : List L) (later : ℕ) (was now : IoState)
    → p ≡ unread form → known ≡ [] → ConsumedLines (λ taken. Leads j p known taken q lines) (text_lines + 1 - p.number) later was.left now.left → Admits BadWord Every (λ f. f ≡ owed_from j q nothing) [] None
    → Runs BadWord Every (λ f. f ≡ owed_from j p nothing) (text_lines + 1 - p.number) was now (Ok tt) → IsWhole j form was now lines
whole j form p q known lines later was now start none came ended finished =
    let first : p.number ≡ 1 = ap (λ x. x.number) start in
    let last = ended-none (j.is_ended q.form) (ended (owed_from j q nothing) refl) in
    let leads = came.reaches [] in
    let ends : behind_these known (lines_from j p (came.lines ++ [])) ≡ Ok (lines ++ []) = leads ∙ ap (behind_these lines) last in
    let all : lines_from j p came.lines ≡ Ok lines =
    sym (of-none (lines_from j p came.lines)) ∙ ap (λ (ls : List (List ℕ)). behind_these [] (lines_from j p ls)) (sym (append-nil came.lines))
    ∙ ap (λ k. behind_these k (lines_from j p (came.lines ++ []))) (sym none) ∙ ends ∙ ap Ok (append-nil lines) in
    record {
      seen_lines = came.lines;
      bytes = came.bytes;
      taken = record { whole = came.whole; few = omega (arith, came.few, first) };
      read = came.read;
      used_up = finished.used_up;
      are = ap (λ x. lines_from j x came.lines) (sym start) ∙ all;
      wrote = subst (Appends was.taken now.taken) (text-none (lines_from j p finished.lines) finished.text None (finished.ends (owed_from j p nothing) refl)) finished.wrote;
      unfailed = finished.unfailed;
    }

-- ## Not to its end

refused-told : {L : Type 0} (tell : List L → List ℕ) (r : Result (List L) BadWord) (text : List ℕ) (w : BadWord) → told_of nothing r ≡ record { output = text; cause = Some w } → told_of tell r ≡ record { output = text; cause = Some w }
refused-told tell (Ok lines) text w is = let e : None ≡ Some w = ap cause_of is in cc
refused-told tell (Err v) text w is = is

refuses-told : {F L : Type 0} (j : Judging F L) (form : F) (tell : List L → List ℕ) (lines : List (List ℕ)) (last : Option (List ℕ)) (text : List ℕ) (w : BadWord) → Refuses BadWord (λ f. f ≡ owed_whole j form nothing) lines last text w → Refuses BadWord (λ f. f ≡ owed_whole j form tell) lines last text w
refuses-told j form tell lines (Some line) text w refuses = λ f same rest.
    ap (λ (g : Continuation BadWord). g (lines ++ line ∷ rest)) same ∙ refused-told tell (lines_from j (unread form) (lines ++ line ∷ rest)) text w (refuses (owed_whole j form nothing) refl rest)
refuses-told j form tell lines None text w refuses = λ f same.
    ap (λ (g : Continuation BadWord). g lines) same ∙ refused-told tell (lines_from j (unread form) lines) text w (refuses (owed_whole j form nothing) refl)

same-cause : {L : Type 0} (tell : List L → List ℕ) (r : Result (List L) BadWord) → (told_of tell r).cause ≡ (told_of nothing r).cause
same-cause tell (Ok lines) = refl
same-cause tell (Err v) = refl

-- a text in which a line isn't ended is refused
record IsRefused {L : Type 0} (r : Result (List L) BadWord) : Type 0 where
  word : BadWord
  is : r ≡ Err word

refused-behind : {L : Type 0} (l : L) (r : Result (List L) BadWord) → IsRefused r → IsRefused (behind_these (l ∷ []) r)
refused-behind l r h = record { word = h.word; is = ap (behind_these (l ∷ [])) h.is }

then-refused : {L : Type 0} (r : Result L BadWord) (more : L → Result (List L) BadWord) → ((l : L) → IsRefused (more l)) → IsRefused (judged_then r more)
then-refused (Ok l) more h = refused-behind l (more l) (h l)
then-refused (Err word) more h = record { word = word; is = refl }

unfed_one : {F L : Type 0} (j : Judging F L) (Spells : F → List (List ℕ) → L → Type 0) (spelled : Spelled j Spells) (p : Progress F) (line : List ℕ) (r : Result L BadWord) (more : L → Result (List L) BadWord) → has_no_feed line ≡ true → judged_at j p line ≡ r → IsRefused (judged_then r more)
unfed_one j Spells spelled p line (Ok l) more clear is = absurd (line-unfed (j.is_ended p.form) p.number (Spells p.form) line l (line-is j Spells spelled p line l is) clear)
unfed_one j Spells spelled p line (Err word) more clear is = record { word = word; is = refl }

unfed-refused : {F L : Type 0} (j : Judging F L) (Spells : F → List (List ℕ) → L → Type 0) (spelled : Spelled j Spells) (lines : List (List ℕ)) (p : Progress F) (line : List ℕ) (rest : List (List ℕ)) → has_no_feed line ≡ true → IsRefused (lines_from j p (lines ++ line ∷ rest))
unfed-refused j Spells spelled [] p line rest clear = unfed_one j Spells spelled p line (judged_at j p line) (λ l. lines_from j (moved j.after p l) rest) clear refl
unfed-refused j Spells spelled (b ∷ lines) p line rest clear = then-refused (judged_at j p b) (λ l. lines_from j (moved j.after p l) (lines ++ line ∷ rest)) (λ l. unfed-refused j Spells spelled lines (moved j.after p l) line rest clear)

told-refused : {L : Type 0} (tell : List L → List ℕ) (r : Result (List L) BadWord) → IsRefused r → (told_of tell r).output ≡ []
told-refused tell r h = ap (λ x. (told_of tell x).output) h.is

writes-told : {F L : Type 0} (j : Judging F L) (Spells : F → List (List ℕ) → L → Type 0) (spelled : Spelled j Spells) (form : F) (tell : List L → List ℕ) (lines : List (List ℕ)) (text : List ℕ) → Writes BadWord (λ f. f ≡ owed_whole j form nothing) lines text → Writes BadWord (λ f. f ≡ owed_whole j form tell) lines text
writes-told j Spells spelled form tell lines text writes = λ f same.
    let goes = writes (owed_whole j form nothing) refl in
    let none : text ≡ [] = no-front text (goes.later []).output (sym (ap output_of (goes.same [])) ∙ told-silent (lines_from j (unread form) (lines ++ []))) in
    let cause : (rest : List (List ℕ)) → (f (lines ++ rest)).cause ≡ (goes.later rest).cause = λ rest.
    ap (λ (g : Continuation BadWord). (g (lines ++ rest)).cause) same ∙ same-cause tell (lines_from j (unread form) (lines ++ rest)) ∙ ap cause_of (goes.same rest) in
    record {
      later = λ rest. f (lines ++ rest);
      owes = record {
        silent = λ line rest clear. ap (λ (g : Continuation BadWord). (g (lines ++ line ∷ rest)).output) same ∙ told-refused tell (lines_from j (unread form) (lines ++ line ∷ rest)) (unfed-refused j Spells spelled lines (unread form) line rest clear);
        unrefused = free-as BadWord Every (λ rest. f (lines ++ rest)) goes.later cause goes.owes.unrefused;
      };
      same = λ rest. ap (λ (t : List ℕ). before t (f (lines ++ rest))) (sym none);
    }

admitted-told : {F L : Type 0} (j : Judging F L) (form : F) (tell : List L → List ℕ) (lines : List (List ℕ)) (last left : Option (List ℕ)) → IsAdmitted BadWord Every (λ f. f ≡ owed_whole j form nothing) lines last left → IsAdmitted BadWord Every (λ f. f ≡ owed_whole j form tell) lines last left
admitted-told j form tell lines (Some line) left is = (
  is.0,
  λ f same.
      free-as BadWord Every (λ rest. f (lines ++ line ∷ rest)) (λ rest. owed_whole j form nothing (lines ++ line ∷ rest))
      (λ rest. ap (λ (g : Continuation BadWord). (g (lines ++ line ∷ rest)).cause) same ∙ same-cause tell (lines_from j (unread form) (lines ++ line ∷ rest)))
      (is.1 (owed_whole j form nothing) refl),
)
admitted-told j form tell lines None left is = (
  is.0,
  λ f same. ap (λ (g : Continuation BadWord). (g lines).cause) same ∙ same-cause tell (lines_from j (unread form) lines) ∙ is.1 (owed_whole j form nothing) refl,
)

starved-told : {F L : Type 0} (j : Judging F L) (Spells : F → List (List ℕ) → L → Type 0) (spelled : Spelled j Spells) (form : F) (tell : List L → List ℕ) (was now : IoState) → Starved BadWord Every (λ f. f ≡ owed_whole j form nothing) text_lines was now → Starved BadWord Every (λ f. f ≡ owed_whole j form tell) text_lines was now
starved-told j Spells spelled form tell was now h = record {
  lines = h.lines;
  bytes = h.bytes;
  last = h.last;
  text = h.text;
  taken = h.taken;
  read = h.read;
  admitted = admitted-told j form tell h.lines h.last now.left h.admitted;
  wrote = h.wrote;
  writes = writes-told j Spells spelled form tell h.lines h.text h.writes;
  unfailed = h.unfailed;
}

follows-none : {F L : Type 0} (j : Judging F L) (form : F) (lines : List (List ℕ)) (last : Option (List ℕ)) (text : List ℕ) → Follows BadWord (λ f. f ≡ owed_whole j form nothing) lines last text → text ≡ []
follows-none j form lines (Some line) text h =
    let goes = h.1 (owed_whole j form nothing) refl in
    no-front text (goes.later []).output (sym (ap output_of (goes.same [])) ∙ told-silent (lines_from j (unread form) ((lines ++ line ∷ []) ++ [])))
follows-none j form lines None text h = text-none (lines_from j (unread form) lines) text None (h (owed_whole j form nothing) refl)

-- nothing is written, so that no write fails
pub never-unwritten : {F L : Type 0} (j : Judging F L) (form : F) (was now : IoState) → Unwritten BadWord (λ f. f ≡ owed_whole j form nothing) text_lines was now → ⊥
never-unwritten j form was now h =
    let none : h.more ≡ [] = no-back h.text h.more (follows-none j form h.lines h.last (h.text ++ h.more) h.follows) in
    let few : h.count < length h.more = h.short in
    let zero : length h.more ≡ 0 = ap length none in
    omega arith

unfinished-from : {F L : Type 0} (j : Judging F L) (Spells : F → List (List ℕ) → L → Type 0) (spelled : Spelled j Spells) (form : F) (was now : IoState) (s : Stop BadWord) → Runs BadWord Every (λ f. f ≡ owed_whole j form nothing) text_lines was now (Err s) → IsUnfinished j form was now s
unfinished-from j Spells spelled form was now (stop.Refused line cause) h = λ tell. record {
  lines = h.lines;
  bytes = h.bytes;
  last = h.last;
  text = h.text;
  taken = h.taken;
  counted = h.counted;
  read = h.read;
  stands = h.stands;
  wrote = h.wrote;
  writes = writes-told j Spells spelled form tell h.lines h.text h.writes;
  refuses = refuses-told j form tell h.lines h.last h.text cause h.refuses;
  unfailed = h.unfailed;
}
unfinished-from j Spells spelled form was now stop.ReadFault h = λ tell. record {
  lines = h.lines;
  bytes = h.bytes;
  part = h.part;
  text = h.text;
  taken = h.taken;
  read = h.read;
  clear = h.clear;
  short = h.short;
  wrote = h.wrote;
  writes = writes-told j Spells spelled form tell h.lines h.text h.writes;
  failed = h.failed;
  kept = h.kept;
}
unfinished-from j Spells spelled form was now stop.WriteFault h = absurd (never-unwritten j form was now h)
unfinished-from j Spells spelled form was now stop.OutOfMemory h = λ tell. elim h [ inl same ↦ inl same | inr starved ↦ inr (starved-told j Spells spelled form tell was now starved) ]

pub unfinished : {F L : Type 0} (j : Judging F L) (Spells : F → List (List ℕ) → L → Type 0) (spelled : Spelled j Spells) (form : F) (p : Progress F) (was now : IoState) (s : Stop BadWord) → p ≡ unread form → Runs BadWord Every (λ f. f ≡ owed_from j p nothing) (text_lines + 1 - p.number) was now (Err s) → IsUnfinished j form was now s
unfinished j Spells spelled form p was now s start h =
    unfinished-from j Spells spelled form was now s (subst (λ x. Runs BadWord Every (λ f. f ≡ owed_from j x nothing) (text_lines + 1 - x.number) was now (Err s)) start h)

-- the sink may be written to
pub writable : {F L : Type 0} (j : Judging F L) (form : F) (p : Progress F) (was now : IoState) (r : Result (Unit {0}) (Stop BadWord)) → p ≡ unread form → Runs BadWord Every (λ f. f ≡ owed_from j p nothing) (text_lines + 1 - p.number) was now r → has_written r ≡ true
writable j form p was now (Ok _) start h = refl
writable j form p was now (Err (stop.Refused line cause)) start h = refl
writable j form p was now (Err stop.ReadFault) start h = refl
writable j form p was now (Err stop.WriteFault) start h = absurd (never-unwritten j form was now (subst (λ x. Unwritten BadWord (λ f. f ≡ owed_from j x nothing) (text_lines + 1 - x.number) was now) start h))
writable j form p was now (Err stop.OutOfMemory) start h = refl
