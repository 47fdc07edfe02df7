-- Lines whose end is read past, and what is shown of them.
use Rattle.std.proofs.Common.{◌≡◌, ℕ, suc, ◌-◌, ◌<◌, ◌≤◌, true, not, eqb, ltb, List, [], ◌∷◌, ◌++◌, length, map, take, drop, refl, ap, sym, ◌∙◌, append_assoc, arith, length-append}
use Rattle.std.specs.List.{All, concat}
use Rattle.std.proofs.lemmas.Bool.{and_left, and_from, and_parts, and_right, cond-false, cond-true, le-ltb, lt-ltb}
use Rattle.std.proofs.lemmas.List.{append-nil, get_or_at, map-append, take_all, take_at, take-append-drop}
use Rattle.std.proofs.lemmas.List.Folds.{concat-append, list_all-append}
use Rattle.text_trace.specs.Lines.{lines_of, seen, seen_bytes, has_no_feed, has_line_feed, IsFed, IsCut}
use Rattle.text_trace.specs.Long.{AreEnded, IsEnded, is_long, shortened, shown}
use Rattle.text_trace.proofs.LineLemmas.{lines_of-fed, lines_of-rest}
use Rattle.text_trace.proofs.WholeLemmas.{unfed}

-- ## What was taken

-- no lines are no bytes
pub ended-none : AreEnded [] []
ended-none = record { joined = refl; first = λ rest. refl }

-- lines behind others
pub ended-join : (lines others : List (List ℕ)) (bytes more : List ℕ) → AreEnded lines bytes → AreEnded others more → AreEnded (lines ++ others) (bytes ++ more)
ended-join lines others bytes more a b = record {
  joined = concat-append lines others ∙ ap (λ (x : List ℕ). x ++ concat others) a.joined ∙ ap (λ (x : List ℕ). bytes ++ x) b.joined;
  first = λ rest.
      ap lines_of (append_assoc bytes more rest) ∙ a.first (more ++ rest) ∙ ap (λ (x : List (List ℕ)). lines ++ x) (b.first rest)
      ∙ sym (append_assoc lines others (lines_of rest));
}

-- a line with its line feed
pub ended-one : (line : List ℕ) → IsEnded line → AreEnded (line ∷ []) line
ended-one line e = record {
  joined = append-nil line;
  first = λ rest. ap (λ (l : List ℕ). lines_of (l ++ rest)) e.ended ∙ lines_of-fed e.front rest e.clear ∙ ap (λ (l : List ℕ). l ∷ lines_of rest) (sym e.ended);
}

-- a line that may be taken is one with its line feed
pub ended-fed : (line : List ℕ) → IsFed line → IsEnded line
ended-fed line f = record { front = f.front; clear = f.clear; ended = f.ended }

-- a line that was cut, and the rest of it
pub ended-cut : (line rest : List ℕ) → has_no_feed line ≡ true → IsEnded rest → IsEnded (line ++ rest)
ended-cut line rest clear e = record {
  front = line ++ e.front;
  clear = clear-join line e.front clear e.clear;
  ended = ap (λ (l : List ℕ). line ++ l) e.ended ∙ sym (append_assoc line e.front (10 ∷ []));
}
  where
    clear-join : (line more : List ℕ) → has_no_feed line ≡ true → has_no_feed more ≡ true → has_no_feed (line ++ more) ≡ true
    clear-join line more a b = list_all-append (λ c. not (eqb c 10)) line more ∙ and_from (has_no_feed line) (has_no_feed more) a b

-- ## What is shown of a line

feed-last : (front : List ℕ) → has_line_feed (front ++ 10 ∷ []) ≡ true
feed-last front =
    let many = length-append front (10 ∷ []) in
    let last = get_or_at front 10 [] 0 (length (front ++ 10 ∷ []) - 1) (omega (arith, many)) in
    rw (lt-ltb 0 (length (front ++ 10 ∷ [])) (omega (arith, many)), last) refl

-- a line with its line feed
pub has-feed : (line : List ℕ) → IsEnded line → has_line_feed line ≡ true
has-feed line e = ap has_line_feed e.ended ∙ feed-last e.front

-- a line that is not long is shown as it is seen
pub shown-short : (line : List ℕ) → length line ≤ seen_bytes → shortened line ≡ line
shown-short line short =
    cond-false (is_long line) _ _ (and_right (has_line_feed line) (ltb seen_bytes (length line)) (le-ltb seen_bytes (length line) short))
    ∙ take_all seen_bytes line short

-- so is one without a line feed
pub shown-unfed : (line : List ℕ) → has_no_feed line ≡ true → shortened line ≡ take seen_bytes line
shown-unfed line clear = cond-false (is_long line) _ _ (and_left (has_line_feed line) (ltb seen_bytes (length line)) (unfed line clear))

-- of a line that was cut, and has no line feed behind that, as much as was seen
pub shown-cut : (line rest : List ℕ) → IsCut line → has_no_feed (line ++ rest) ≡ true → shortened (line ++ rest) ≡ line
shown-cut line rest cut clear = shown-unfed (line ++ rest) clear ∙ take_at line rest seen_bytes cut.long

-- of a line that was cut, and has its line feed behind that, as much as was seen, and the line feed
pub shown-long : (line rest : List ℕ) → IsCut line → IsEnded rest → shortened (line ++ rest) ≡ line ++ 10 ∷ []
shown-long line rest cut e =
    let fed = has-feed (line ++ rest) (ended-cut line rest cut.clear e) in
    let many : seen_bytes < length (line ++ rest) = omega (arith, cut.long, length-append line rest, ap length e.ended, length-append e.front (10 ∷ [])) in
    cond-true (is_long (line ++ rest)) _ _ (and_from (has_line_feed (line ++ rest)) (ltb seen_bytes (length (line ++ rest))) fed (lt-ltb seen_bytes (length (line ++ rest)) many))
    ∙ ap (λ (l : List ℕ). l ++ 10 ∷ []) (take_at line rest seen_bytes cut.long)

-- bytes without a line feed show none
pub shown-clear : (line : List ℕ) → has_no_feed line ≡ true → has_no_feed (shortened line) ≡ true
shown-clear line clear = ap has_no_feed (shown-unfed line clear) ∙ front-clear seen_bytes line clear
  where
    front-clear : (n : ℕ) (line : List ℕ) → has_no_feed line ≡ true → has_no_feed (take n line) ≡ true
    front-clear n line clear = (and_parts (has_no_feed (take n line)) (has_no_feed (drop n line)) (sym (list_all-append (λ c. not (eqb c 10)) (take n line) (drop n line)) ∙ ap has_no_feed (take-append-drop n line) ∙ clear)).0

-- ## What is shown of a text

-- a text with no long line is shown as it is seen
pub shown-as-seen : (text : List ℕ) → All (λ line. length line ≤ seen_bytes) (lines_of text) → shown text ≡ seen text
shown-as-seen text short = each (lines_of text) short
  where
    each : (lines : List (List ℕ)) → All (λ line. length line ≤ seen_bytes) lines → map shortened lines ≡ map (take seen_bytes) lines
    each [] short = refl
    each (line ∷ lines) short =
        let one : length line ≤ seen_bytes = short 0 [] (omega arith) in
        rw (shown-short line one ∙ sym (take_all seen_bytes line one), each lines (λ k d below. short (suc k) d (omega (arith, below)))) refl

-- lines that were taken are shown first
pub shown-first : (lines : List (List ℕ)) (bytes rest : List ℕ) → AreEnded lines bytes → shown (bytes ++ rest) ≡ map shortened lines ++ shown rest
shown-first lines bytes rest ended = ap (map shortened) (ended.first rest) ∙ map-append shortened lines (lines_of rest)

-- bytes without a line feed at the end of a text are shown last
pub shown-rest : (line : List ℕ) → has_no_feed line ≡ true → 0 < length line → shown line ≡ shortened line ∷ []
shown-rest [] clear some = absurd (omega arith)
shown-rest (b ∷ rest) clear some = ap (map shortened) (lines_of-rest b rest clear)
