-- How bytes that are passed over join, call after call.
use Rattle.std.proofs.Common.{◌≡◌, ℕ, ◌<◌, true, not, eqb, List, [], ◌∷◌, ◌++◌, length, take, get_or, Option, refl, ap, subst, ◌∙◌, arith}
use Rattle.std.specs.Io.KnownBytes.{Consumes, Keeps}
use Rattle.std.proofs.KnownBytes.{Consumes-kept, Consumes-nil, Consumes-trans}
use Rattle.std.proofs.lemmas.Bool.{and_from, ne_eqb}
use Rattle.std.proofs.lemmas.List.{take_all}
use Rattle.std.proofs.lemmas.List.Folds.{list_all-append}
use Rattle.text_trace.specs.Lines.{has_no_feed}
use Rattle.text_trace.proofs.LongLemmas.{ended-cut}
use Rattle.ports.specs.LineReading.{PassesLine, PassesPart}

-- nothing was passed over yet
pub passes-none : (left : Option (List ℕ)) → PassesPart left left
passes-none left = record { bytes = []; front = Consumes-nil left; clear = refl }

-- nothing was taken
pub passes-kept : (before after : Option (List ℕ)) → Keeps before after → PassesPart before after
passes-kept before after kept = record { bytes = []; front = Consumes-kept before before after [] (Consumes-nil before) kept; clear = refl }

-- some bytes, and then others
pub passes-join : (first before after : Option (List ℕ)) → PassesPart first before → PassesPart before after → PassesPart first after
passes-join first before after a b = record {
  bytes = a.bytes ++ b.bytes;
  front = Consumes-trans first before after a.bytes b.bytes a.front b.front;
  clear = list_all-append (λ c. not (eqb c 10)) a.bytes b.bytes ∙ and_from (has_no_feed a.bytes) (has_no_feed b.bytes) a.clear b.clear;
}

-- some bytes, and then those up to a line feed
pub passes-end : (first before after : Option (List ℕ)) → PassesPart first before → PassesLine before after → PassesLine first after
passes-end first before after a b = record {
  bytes = a.bytes ++ b.bytes;
  front = Consumes-trans first before after a.bytes b.bytes a.front b.front;
  ended = ended-cut a.bytes b.bytes a.clear b.ended;
}

one-byte : (buf : List ℕ) (n : ℕ) → length buf ≡ 1 → 0 < n → take n buf ≡ get_or buf 0 0 ∷ []
one-byte [] n one some = absurd (omega (arith, one))
one-byte (b ∷ []) n one some = take_all n (b ∷ []) (omega (arith, one, some))
one-byte (b ∷ c ∷ buf) n one some = absurd (omega (arith, one))

-- a byte that is no line feed
pub passes-byte : (before after : Option (List ℕ)) (buf : List ℕ) (n : ℕ) → Consumes before after (take n buf) → length buf ≡ 1 → 0 < n → (get_or buf 0 0 ≡ 10 → ⊥) → PassesPart before after
passes-byte before after buf n took one some other = record {
  bytes = get_or buf 0 0 ∷ [];
  front = subst (Consumes before after) (one-byte buf n one some) took;
  clear = and_from (not (eqb (get_or buf 0 0) 10)) true (ap not (ne_eqb (get_or buf 0 0) 10 other)) refl;
}

-- a line feed
pub passes-feed : (before after : Option (List ℕ)) (buf : List ℕ) (n : ℕ) → Consumes before after (take n buf) → length buf ≡ 1 → 0 < n → get_or buf 0 0 ≡ 10 → PassesLine before after
passes-feed before after buf n took one some feed = record {
  bytes = 10 ∷ [];
  front = subst (Consumes before after) (one-byte buf n one some ∙ ap (λ (b : ℕ). b ∷ []) feed) took;
  ended = record { front = []; clear = refl; ended = refl };
}
