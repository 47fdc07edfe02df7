-- Whole lines, and what stands behind them.
use Rattle.std.proofs.Common.{◌≡◌, ℕ, ◌-◌, ◌<◌, ◌≤◌, Bool, true, false, not, eqb, ltb, List, [], ◌∷◌, ◌++◌, length, map, take, get_or, refl, ap, sym, ◌∙◌, append_assoc, arith, length-append}
use Rattle.std.specs.List.{concat}
use Rattle.std.proofs.lemmas.Bool.{and_parts, false≢true, ltb-true}
use Rattle.std.proofs.lemmas.List.{append-nil, take_all, take_at}
use Rattle.std.proofs.lemmas.List.Folds.{concat-append}
use Rattle.std.proofs.lemmas.List.Sums.{AllPass-from_list_all}
use Rattle.text_trace.specs.Lines.{lines_of, line_bytes, seen, seen_bytes, has_no_feed, has_line_feed, AreWhole, IsFed, IsCut, IsNext}
use Rattle.text_trace.proofs.LineLemmas.{lines_of-fed, lines_of-rest, lines_of-begun}

-- no lines are no bytes
pub whole-none : AreWhole [] []
whole-none = record { joined = refl; first = λ rest. refl }

-- whole lines behind others
pub whole-join : (lines others : List (List ℕ)) (bytes more : List ℕ) → AreWhole lines bytes → AreWhole others more → AreWhole (lines ++ others) (bytes ++ more)
whole-join lines others bytes more a b = record {
  joined = concat-append lines others ∙ ap (λ (x : List ℕ). x ++ concat others) a.joined ∙ ap (λ (x : List ℕ). bytes ++ x) b.joined;
  first = λ rest.
      ap seen (append_assoc bytes more rest) ∙ a.first (more ++ rest) ∙ ap (λ (x : List (List ℕ)). lines ++ x) (b.first rest)
      ∙ sym (append_assoc lines others (seen rest));
}

pub fed-length : (line : List ℕ) → IsFed line → length line ≤ seen_bytes
fed-length line f = omega (arith, f.short, ap length f.ended, length-append f.front (10 ∷ []))

-- a line with its line feed is whole
pub whole-one : (line : List ℕ) → IsFed line → AreWhole (line ∷ []) line
whole-one line f = record {
  joined = append-nil line;
  first = λ rest.
      let same : lines_of (line ++ rest) ≡ line ∷ lines_of rest =
      ap (λ (l : List ℕ). lines_of (l ++ rest)) f.ended ∙ lines_of-fed f.front rest f.clear ∙ ap (λ (l : List ℕ). l ∷ lines_of rest) (sym f.ended) in
      ap (λ (ls : List (List ℕ)). map (take seen_bytes) ls) same ∙ ap (λ (l : List ℕ). l ∷ seen rest) (take_all seen_bytes line (fed-length line f));
}

-- a line that is cut is what is seen first
pub cut-next : (line rest : List ℕ) → IsCut line → IsNext line (seen (line ++ rest))
cut-next [] rest f = absurd (omega (arith, f.long))
cut-next (b ∷ front) rest f =
    let g = lines_of-begun b front rest f.clear in
    record {
      others = map (take seen_bytes) g.others;
      same = ap (λ (ls : List (List ℕ)). map (take seen_bytes) ls) g.same ∙ ap (λ (l : List ℕ). l ∷ map (take seen_bytes) g.others) (take_at (b ∷ front) g.more seen_bytes f.long);
    }

-- bytes without a line feed at the end of a text are what is seen last
pub rest-next : (line : List ℕ) → has_no_feed line ≡ true → 0 < length line → length line ≤ line_bytes → IsNext line (seen line)
rest-next [] clear some short = absurd (omega arith)
rest-next (b ∷ front) clear some short = record {
  others = [];
  same = ap (λ (ls : List (List ℕ)). map (take seen_bytes) ls) (lines_of-rest b front clear) ∙ ap (λ (l : List ℕ). l ∷ []) (take_all seen_bytes (b ∷ front) (omega (arith, short)));
}

-- a line with its line feed is what is seen first
pub fed-next : (line rest : List ℕ) → IsFed line → IsNext line (seen (line ++ rest))
fed-next line rest f = record { others = seen rest; same = (whole-one line f).first rest }

not-both : (b : Bool) → (b ≡ true → ⊥) → b ≡ false
not-both true h = absurd (h refl)
not-both false h = refl

-- bytes without a line feed don't end with one
pub feed_apart : (line : List ℕ) → has_no_feed line ≡ true → has_line_feed line ≡ true → ⊥
feed_apart line clear fed =
    let parts = and_parts (ltb 0 (length line)) (eqb (get_or line (length line - 1) 0) 10) fed in
    let some = ltb-true 0 (length line) parts.0 in
    let last : length line - 1 < length line = omega (arith, some) in
    let other : not (eqb (get_or line (length line - 1) 0) 10) ≡ true = AllPass-from_list_all (λ b. not (eqb b 10)) line clear (length line - 1) 0 last in
    let same : not (eqb (get_or line (length line - 1) 0) 10) ≡ false = ap not parts.1 in
    false≢true (sym same ∙ other)

pub unfed : (line : List ℕ) → has_no_feed line ≡ true → has_line_feed line ≡ false
unfed line clear = not-both (has_line_feed line) (feed_apart line clear)
