-- A text that is answered is the five lines of a question.
use Rattle.std.proofs.Common.{◌≡◌, ◌↔◌, ℕ, ◌+◌, ◌<◌, ◌≤◌, Bool, true, false, List, [], ◌∷◌, ◌++◌, length, take, get_or, Option, Some, None, Result, Ok, Err, inl, inr, refl, sym, ap, subst, ◌∙◌, arith, codes}
use Rattle.std.specs.List.{concat}
use Rattle.std.specs.Io.KnownBytes.{Appends, Consumes}
use Rattle.std.proofs.KnownBytes.{Appends-nil}
use Rattle.std.proofs.lemmas.List.{append-nil}
use Rattle.line_text.specs.declared.bad_word.BadWord.{BadWord}
use Rattle.line_text.specs.declared.bad_word.BadWord.TheVariants as bad
use Rattle.line_text.specs.Answers.{Progress}
use Rattle.line_text.specs.Digits.{SpellsBytes}
use Rattle.line_text.specs.Spellings.{SpellsOrDash}
use Rattle.line_text.proofs.SpellingLemmas.{below_256}
use Rattle.records.specs.declared.keys.Key.{Key}
use Rattle.records.specs.Keys.{IsKey, Verifies, key_bytes}
use Rattle.play.specs.Plays.{Finished, Follows, IoState, IsLast, Runs, Starved, bytes_of}
use Rattle.play.specs.declared.stop.Stop.{Stop}
use Rattle.play.specs.declared.stop.Stop.TheVariants as stop
use Rattle.text_trace.specs.Lines.{AreWhole, text_lines}
use Rattle.text_trace.specs.Trace.{Every, Continuation, Refuses, Trace, Writes}
use Rattle.verify_text.specs.declared.line.VerifyLine.{VerifyLine}
use Rattle.verify_text.specs.declared.line.VerifyLine.TheVariants as lines
use Rattle.verify_text.specs.declared.question.Asked.{Asked}
use Rattle.verify_text.specs.declared.question.Asked.TheVariants as asked
use Rattle.verify_text.specs.declared.verify.Verify.{Verify}
use Rattle.verify_text.specs.declared.verify.Verify.TheVariants as verify
use Rattle.verify_text.specs.declared.question.Question.{Question}
use Rattle.verify_text.specs.Answering.{answer_line}
use Rattle.verify_text.specs.Asking.{asked_after}
use Rattle.verify_text.specs.Grammar.{IsLine, behind, judge, opening}
use Rattle.verify_text.specs.Rows.{is_ended, message_bytes, signature_bytes}
use Rattle.verifier.specs.Answered.{answered, at_end, from_judged, verified}
use Rattle.verifier.specs.Laws.{line-is, unfed-silent}
use Rattle.verifier.specs.Verified.{Brings, IsAnswer, IsAnswered, IsCutShort, line_of}
use Rattle.verifier.proofs.VerdictLemmas.{answer-good}

-- ## Nothing is written before the end

abbrev trace : List ℕ → Option BadWord → Trace BadWord
trace text cause = record { output = text; cause = cause }

output_same : (a b : Trace BadWord) → a ≡ b → a.output ≡ b.output
output_same a b e = ap (λ (t : Trace BadWord). t.output) e

abbrev there_none : Option BadWord
there_none = None

no_cause : (text : List ℕ) (w : BadWord) (a : List ℕ) → trace a None ≡ trace text (Some w) → ⊥
no_cause text w a e = let c : there_none ≡ Some w = ap (λ (t : Trace BadWord). t.cause) e in cc

some_cause : (text : List ℕ) (w : BadWord) (a : List ℕ) → trace a (Some w) ≡ trace text None → ⊥
some_cause text w a e = let c : there_none ≡ Some w = ap (λ (t : Trace BadWord). t.cause) (sym e) in cc

asked_caused : (a : Asked) (text : List ℕ) (w : BadWord) → at_end true a ≡ trace text (Some w) → text ≡ []
asked_caused asked.Nothing text w e = sym (output_same _ _ e)
asked_caused (asked.Key k) text w e = sym (output_same _ _ e)
asked_caused (asked.Message k m) text w e = sym (output_same _ _ e)
asked_caused (asked.Question q) text w e = absurd (no_cause text w (answer_line q) e)

end_caused : (b : Bool) (a : Asked) (text : List ℕ) (w : BadWord) → at_end b a ≡ trace text (Some w) → text ≡ []
end_caused true a text w e = asked_caused a text w e
end_caused false a text w e = sym (output_same _ _ e)

judged_caused : (r : Result VerifyLine BadWord) (rest : VerifyLine → Trace BadWord) (text : List ℕ) (w : BadWord) → ((l : VerifyLine) → rest l ≡ trace text (Some w) → text ≡ []) → from_judged r rest ≡ trace text (Some w) → text ≡ []
judged_caused (Ok l) rest text w next e = next l e
judged_caused (Err v) rest text w next e = sym (output_same _ _ e)

-- Nothing is written for a text that is refused.
caused_silent : (ls : List (List ℕ)) (p : Progress Verify) (a : Asked) (text : List ℕ) (w : BadWord) → answered p a ls ≡ trace text (Some w) → text ≡ []
caused_silent [] p a text w e = end_caused (is_ended p.form) a text w e
caused_silent (b ∷ ls) p a text w e =
    judged_caused (judge p b) (λ l. answered (behind p l) (asked_after a l) ls) text w (λ l k. caused_silent ls (behind p l) (asked_after a l) text w k) e

refused_silent : (ls : List (List ℕ)) (last : Option (List ℕ)) (text : List ℕ) (w : BadWord) → Refuses BadWord (λ f. f ≡ verified) ls last text w → text ≡ []
refused_silent ls None text w h = caused_silent ls opening asked.Nothing text w (h verified refl)
refused_silent ls (Some line) text w h = caused_silent (ls ++ line ∷ []) opening asked.Nothing text w (h verified refl [])

-- Nothing is written for whole lines before the end.
written_silent : (ls : List (List ℕ)) (text : List ℕ) → Writes BadWord (λ f. f ≡ verified) ls text → text ≡ []
written_silent ls text h =
    let g = h verified refl in
    let unfed : List (List ℕ) = (0 ∷ []) ∷ [] in
    let none : (g.later unfed).output ≡ [] = g.owes.silent (0 ∷ []) [] refl in
    let all : (verified (ls ++ unfed)).output ≡ [] = unfed-silent ls opening asked.Nothing (0 ∷ []) [] refl in
    let same : (verified (ls ++ unfed)).output ≡ text ++ (g.later unfed).output = output_same _ _ (g.same unfed) in
    sym (append-nil text) ∙ ap (λ (t : List ℕ). text ++ t) (sym none) ∙ sym same ∙ all

-- ## The five lines

record Next (p : Progress Verify) (a : Asked) (bytes : List ℕ) (ls : List (List ℕ)) (text : List ℕ) : Type 0 where
  line : VerifyLine
  is : IsLine p bytes line
  rest : answered (behind p line) (asked_after a line) ls ≡ trace text None

next_of : (p : Progress Verify) (a : Asked) (bytes : List ℕ) (ls : List (List ℕ)) (text : List ℕ) (r : Result VerifyLine BadWord) → judge p bytes ≡ r → from_judged r (λ l. answered (behind p l) (asked_after a l) ls) ≡ trace text None → Next p a bytes ls text
next_of p a bytes ls text (Ok l) is e = record { line = l; is = line-is p bytes l is; rest = e }
next_of p a bytes ls text (Err w) is e = absurd (some_cause text w [] e)

next : (p : Progress Verify) (a : Asked) (bytes : List ℕ) (ls : List (List ℕ)) (text : List ℕ) → answered p a (bytes ∷ ls) ≡ trace text None → Next p a bytes ls text
next p a bytes ls text e = next_of p a bytes ls text (judge p bytes) refl e

abbrev at : ℕ → Verify → Progress Verify
at n v = record { number = n; form = v }

joined : (b x y : List ℕ) (ls : List (List ℕ)) → b ≡ x → concat ls ≡ y → concat (b ∷ ls) ≡ x ++ y
joined b x y ls e f = ap (λ (c : List ℕ). c ++ concat ls) e ∙ ap (λ (c : List ℕ). x ++ c) f

-- behind `end`
record Over (ls : List (List ℕ)) (q : Question) (text : List ℕ) : Type 0 where
  none : ls ≡ []
  answer : text ≡ answer_line q

over : (n : ℕ) (q : Question) (ls : List (List ℕ)) (text : List ℕ) → answered (at n verify.Ended) (asked.Question q) ls ≡ trace text None → Over ls q text
over n q [] text e = record { none = refl; answer = sym (output_same _ _ e) }
over n q (b ∷ ls) text e =
    let s = next (at n verify.Ended) (asked.Question q) b ls text e in
    absurd (let open_still = s.is.going in cc)

-- `end`
record Last (left : List ℕ) (q : Question) (text : List ℕ) : Type 0 where
  line : left ≡ line_of (codes "end" ∷ [])
  answer : text ≡ answer_line q

last_line : (n : ℕ) (q : Question) (b : List ℕ) (ls : List (List ℕ)) (text : List ℕ) (l : VerifyLine) → IsLine (at n verify.Signed) b l → answered (behind (at n verify.Signed) l) (asked_after (asked.Question q) l) ls ≡ trace text None → Last (concat (b ∷ ls)) q text
last_line n q b ls text lines.End is e =
    let o = over (n + 1) q ls text e in
    let line : b ≡ line_of (codes "end" ∷ []) = is.spaced ∙ ap line_of (is.spells.words ∙ ap (λ args. codes "end" ∷ args) is.spells.spells) in
    record { line = joined b _ [] ls line (ap concat o.none) ∙ append-nil _; answer = o.answer }
last_line n q b ls text lines.Header is e = absurd (let s = is.spells.stands in cc)
last_line n q b ls text (lines.Key k) is e = absurd (let s = is.spells.stands in cc)
last_line n q b ls text (lines.Message m) is e = absurd (let s = is.spells.stands in cc)
last_line n q b ls text (lines.Signature m) is e = absurd (let s = is.spells.stands in cc)

last : (n : ℕ) (q : Question) (ls : List (List ℕ)) (text : List ℕ) → answered (at n verify.Signed) (asked.Question q) ls ≡ trace text None → Last (concat ls) q text
last n q [] text e = absurd (some_cause text bad.End [] e)
last n q (b ∷ ls) text e = let s = next (at n verify.Signed) (asked.Question q) b ls text e in last_line n q b ls text s.line s.is s.rest

-- `signature HEX`
record FromSignature (left : List ℕ) (k : Key) (m text : List ℕ) : Type 0 where
  word : List ℕ
  signature : List ℕ
  line : left ≡ line_of (codes "signature" ∷ word ∷ []) ++ line_of (codes "end" ∷ [])
  spells : SpellsOrDash word signature
  few : length signature ≤ signature_bytes
  answer : text ≡ answer_line (record { key = k; message = m; signature = signature })

signature_line : (n : ℕ) (k : Key) (m b : List ℕ) (ls : List (List ℕ)) (text : List ℕ) (l : VerifyLine) → IsLine (at n verify.Worded) b l → answered (behind (at n verify.Worded) l) (asked_after (asked.Message k m) l) ls ≡ trace text None → FromSignature (concat (b ∷ ls)) k m text
signature_line n k m b ls text (lines.Signature s) is e =
    let o = last (n + 1) (record { key = k; message = m; signature = s }) ls text e in
    let w = is.spells.spells in
    let ws = is.spells.words ∙ ap (λ args. codes "signature" ∷ args) (w.same ∙ ap (λ args. w.word ∷ args) w.rest) in
    record {
      word = w.word;
      signature = s;
      line = joined b (line_of (codes "signature" ∷ w.word ∷ [])) (line_of (codes "end" ∷ [])) ls (is.spaced ∙ ap line_of ws) o.line;
      spells = w.is.digits;
      few = w.is.few;
      answer = o.answer;
    }
signature_line n k m b ls text lines.Header is e = absurd (let s = is.spells.stands in cc)
signature_line n k m b ls text (lines.Key j) is e = absurd (let s = is.spells.stands in cc)
signature_line n k m b ls text (lines.Message j) is e = absurd (let s = is.spells.stands in cc)
signature_line n k m b ls text lines.End is e = absurd (let s = is.spells.stands in cc)

from_signature : (n : ℕ) (k : Key) (m : List ℕ) (ls : List (List ℕ)) (text : List ℕ) → answered (at n verify.Worded) (asked.Message k m) ls ≡ trace text None → FromSignature (concat ls) k m text
from_signature n k m [] text e = absurd (some_cause text bad.End [] e)
from_signature n k m (b ∷ ls) text e = let s = next (at n verify.Worded) (asked.Message k m) b ls text e in signature_line n k m b ls text s.line s.is s.rest

-- `message HEX`
record FromMessage (left : List ℕ) (k : Key) (text : List ℕ) : Type 0 where
  word : List ℕ
  message : List ℕ
  others : List ℕ
  line : left ≡ line_of (codes "message" ∷ word ∷ []) ++ others
  spells : SpellsOrDash word message
  few : length message ≤ message_bytes
  rest : FromSignature others k message text

message_line : (n : ℕ) (k : Key) (b : List ℕ) (ls : List (List ℕ)) (text : List ℕ) (l : VerifyLine) → IsLine (at n verify.Keyed) b l → answered (behind (at n verify.Keyed) l) (asked_after (asked.Key k) l) ls ≡ trace text None → FromMessage (concat (b ∷ ls)) k text
message_line n k b ls text (lines.Message m) is e =
    let w = is.spells.spells in
    let ws = is.spells.words ∙ ap (λ args. codes "message" ∷ args) (w.same ∙ ap (λ args. w.word ∷ args) w.rest) in
    record {
      word = w.word;
      message = m;
      others = concat ls;
      line = joined b (line_of (codes "message" ∷ w.word ∷ [])) (concat ls) ls (is.spaced ∙ ap line_of ws) refl;
      spells = w.is.digits;
      few = w.is.few;
      rest = from_signature (n + 1) k m ls text e;
    }
message_line n k b ls text lines.Header is e = absurd (let s = is.spells.stands in cc)
message_line n k b ls text (lines.Key j) is e = absurd (let s = is.spells.stands in cc)
message_line n k b ls text (lines.Signature j) is e = absurd (let s = is.spells.stands in cc)
message_line n k b ls text lines.End is e = absurd (let s = is.spells.stands in cc)

from_message : (n : ℕ) (k : Key) (ls : List (List ℕ)) (text : List ℕ) → answered (at n verify.Keyed) (asked.Key k) ls ≡ trace text None → FromMessage (concat ls) k text
from_message n k [] text e = absurd (some_cause text bad.End [] e)
from_message n k (b ∷ ls) text e = let s = next (at n verify.Keyed) (asked.Key k) b ls text e in message_line n k b ls text s.line s.is s.rest

-- `key HEX`
record FromKey (left text : List ℕ) : Type 0 where
  word : List ℕ
  key : Key
  others : List ℕ
  line : left ≡ line_of (codes "key" ∷ word ∷ []) ++ others
  spells : SpellsBytes word (key_bytes key)
  parts : IsKey key
  rest : FromMessage others key text

key_line : (n : ℕ) (b : List ℕ) (ls : List (List ℕ)) (text : List ℕ) (l : VerifyLine) → IsLine (at n verify.Headed) b l → answered (behind (at n verify.Headed) l) (asked_after asked.Nothing l) ls ≡ trace text None → FromKey (concat (b ∷ ls)) text
key_line n b ls text (lines.Key k) is e =
    let w = is.spells.spells in
    let ws = is.spells.words ∙ ap (λ args. codes "key" ∷ args) (w.same ∙ ap (λ args. w.word ∷ args) w.rest) in
    record {
      word = w.word;
      key = k;
      others = concat ls;
      line = joined b (line_of (codes "key" ∷ w.word ∷ [])) (concat ls) ls (is.spaced ∙ ap line_of ws) refl;
      spells = subst (SpellsBytes w.word) w.is.are.spelled w.is.digits;
      parts = w.is.are.parts;
      rest = from_message (n + 1) k ls text e;
    }
key_line n b ls text lines.Header is e = absurd (let s = is.spells.stands in cc)
key_line n b ls text (lines.Message j) is e = absurd (let s = is.spells.stands in cc)
key_line n b ls text (lines.Signature j) is e = absurd (let s = is.spells.stands in cc)
key_line n b ls text lines.End is e = absurd (let s = is.spells.stands in cc)

from_key : (n : ℕ) (ls : List (List ℕ)) (text : List ℕ) → answered (at n verify.Headed) asked.Nothing ls ≡ trace text None → FromKey (concat ls) text
from_key n [] text e = absurd (some_cause text bad.End [] e)
from_key n (b ∷ ls) text e = let s = next (at n verify.Headed) asked.Nothing b ls text e in key_line n b ls text s.line s.is s.rest

-- the header
record FromHeader (left text : List ℕ) : Type 0 where
  others : List ℕ
  line : left ≡ line_of (codes "fireflies" ∷ codes "1" ∷ codes "verify" ∷ []) ++ others
  rest : FromKey others text

header_line : (n : ℕ) (b : List ℕ) (ls : List (List ℕ)) (text : List ℕ) (l : VerifyLine) → IsLine (at n verify.Start) b l → answered (behind (at n verify.Start) l) (asked_after asked.Nothing l) ls ≡ trace text None → FromHeader (concat (b ∷ ls)) text
header_line n b ls text lines.Header is e =
    record {
      others = concat ls;
      line = joined b (line_of (codes "fireflies" ∷ codes "1" ∷ codes "verify" ∷ [])) (concat ls) ls (is.spaced ∙ ap line_of is.spells.words) refl;
      rest = from_key (n + 1) ls text e;
    }
header_line n b ls text (lines.Key j) is e = absurd (let s = is.spells.stands in cc)
header_line n b ls text (lines.Message j) is e = absurd (let s = is.spells.stands in cc)
header_line n b ls text (lines.Signature j) is e = absurd (let s = is.spells.stands in cc)
header_line n b ls text lines.End is e = absurd (let s = is.spells.stands in cc)

from_header : (ls : List (List ℕ)) (text : List ℕ) → verified ls ≡ trace text None → FromHeader (concat ls) text
from_header [] text e = absurd (some_cause text bad.End [] e)
from_header (b ∷ ls) text e = let s = next opening asked.Nothing b ls text e in header_line 1 b ls text s.line s.is s.rest

signature_below : (word bytes : List ℕ) → SpellsOrDash word bytes → (k : ℕ) → get_or bytes k 0 < 256
signature_below word bytes (inl h) k = subst (λ (b : List ℕ). get_or b k 0 < 256) (sym h.1) (omega arith)
signature_below word bytes (inr h) k = below_256 word bytes h k

-- ## What a run brings

nothing_written : (was now : Option (List ℕ)) (text : List ℕ) → Appends was now text → text ≡ [] → Appends was now []
nothing_written was now text h e = subst (Appends was now) e h

asks_this : (lines : List (List ℕ)) (bytes text : List ℕ) → AreWhole lines bytes → verified lines ≡ trace text None → IsAnswer bytes text
asks_this lines bytes text whole e =
    let h = from_header lines text e in
    let k = h.rest in
    let m = k.rest in
    let s = m.rest in
    let q : Question = record { key = k.key; message = m.message; signature = s.signature } in
    record {
      question = q;
      asks = record {
        key_word = k.word;
        message_word = m.word;
        signature_word = s.word;
        lines = sym whole.joined ∙ h.line
            ∙ ap (λ (x : List ℕ). line_of (codes "fireflies" ∷ codes "1" ∷ codes "verify" ∷ []) ++ x) (k.line
            ∙ ap (λ (x : List ℕ). line_of (codes "key" ∷ k.word ∷ []) ++ x) (m.line
            ∙ ap (λ (x : List ℕ). line_of (codes "message" ∷ m.word ∷ []) ++ x) s.line));
        key = k.spells;
        is_key = k.parts;
        message = m.spells;
        message_few = m.few;
        signature = s.spells;
        signature_few = s.few;
      };
      good = subst (λ (t : List ℕ). (t ≡ codes "signature good" ++ 10 ∷ []) ↔ Verifies q.key q.message q.signature) (sym s.answer) (answer-good q k.parts (signature_below s.word s.signature s.spells));
    }

abbrev Asks : Continuation BadWord → Type 0
Asks f = f ≡ verified

finished : (was now : IoState) → Finished BadWord Asks text_lines was now → IsAnswered was now
finished was now f = record {
  text = f.bytes;
  answer = f.text;
  read = f.read;
  used_up = f.used_up;
  answers = asks_this f.lines f.bytes f.text f.taken.whole (f.ends verified refl);
  wrote = f.wrote;
}

nothing_more : (text more : List ℕ) (count : ℕ) → text ++ more ≡ [] → count < length more → ⊥
nothing_more text [] count none short = absurd (omega (arith, short))
nothing_more [] (b ∷ more) count none short = cc
nothing_more (a ∷ text) (b ∷ more) count none short = cc

-- A write can fail at the end of the text alone.
cut : (was now : IoState) (lines : List (List ℕ)) (bytes : List ℕ) (last : Option (List ℕ)) (text more : List ℕ) (count : ℕ) → AreWhole lines bytes → Consumes was.left now.left (bytes ++ bytes_of last) → IsLast last now.left → text ≡ [] → Follows BadWord Asks lines last (text ++ more) → count < length more
    → Appends was.taken now.taken (text ++ take count more) → IsCutShort was now
cut was now lines bytes (Some line) text more count whole read stands none follows short wrote =
    absurd (nothing_more text more count (written_silent (lines ++ line ∷ []) (text ++ more) follows.1) short)
cut was now lines bytes None text more count whole read stands none follows short wrote = record {
  text = bytes;
  answer = more;
  count = count;
  read = subst (Consumes was.left now.left) (append-nil bytes) read;
  used_up = stands;
  answers = asks_this lines bytes more whole (subst (λ (t : List ℕ). verified lines ≡ trace (t ++ more) None) none (follows verified refl));
  short = short;
  wrote = subst (λ (t : List ℕ). Appends was.taken now.taken (t ++ take count more)) none wrote;
}

starved : (was now : IoState) → Starved BadWord Every Asks text_lines was now → Appends was.taken now.taken []
starved was now h = nothing_written was.taken now.taken h.text h.wrote (written_silent h.lines h.text h.writes)

unmoved : (was now : IoState) → now ≡ was → Appends was.taken now.taken []
unmoved was now same = subst (λ (s : IoState). Appends was.taken s.taken []) (sym same) (Appends-nil was.taken)

pub run-brings : (was now : IoState) (result : Result (Unit {0}) (Stop BadWord)) → Runs BadWord Every Asks text_lines was now result → Brings was now result
run-brings was now (Ok x) h = finished was now h
run-brings was now (Err (stop.Refused line w)) h = nothing_written was.taken now.taken h.text h.wrote (refused_silent h.lines h.last h.text w h.refuses)
run-brings was now (Err stop.ReadFault) h = nothing_written was.taken now.taken h.text h.wrote (written_silent h.lines h.text h.writes)
run-brings was now (Err stop.WriteFault) h = cut was now h.lines h.bytes h.last h.text h.more h.count h.taken.whole h.read h.stands (written_silent h.lines h.text h.writes) h.follows h.short h.wrote
run-brings was now (Err stop.OutOfMemory) h = elim h [ inl same ↦ unmoved was now same | inr wanting ↦ starved was now wanting ]
