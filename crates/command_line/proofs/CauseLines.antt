-- The lines of causes: each is one whole line, and begins otherwise than the line of an event.
use Rattle.std.proofs.Common.{◌≡◌, ◌<◌, ℕ, zero, suc, true, false, Bool, length, List, [], ◌∷◌, ◌++◌, get_or, take, Option, Some, None, refl, sym, subst, ◌∙◌, ap, inl, inr, arith}
use Rattle.std.specs.Prelude.{codes}
use Rattle.std.specs.Fmt.{decimal}
use Rattle.journal.specs.Texts.{body_text}
use Rattle.line_text.specs.Texts.{bad_word_text}
use Rattle.line_text.specs.declared.bad_word.BadWord.{BadWord}
use Rattle.line_text.specs.declared.bad_word.BadWord.TheVariants as bad
use Rattle.records.specs.declared.Body.{Body}
use Rattle.text_trace.specs.Lines.{has_no_feed}
use Rattle.trace.specs.Written.{IsWholeLine}
use Rattle.trace.proofs.JustifiedLemmas.{IsTail, clear-front}
use Rattle.trace.proofs.TextLemmas.{clear-append, clear-decimal}
use Rattle.node_command.proofs.LineLemmas.{clear-body}
use Rattle.world_rules.specs.Walk.{owner_text}
use Rattle.command_line.specs.Causes.{IsWritten, byte_text, cause_line}
use Rattle.command_line.specs.declared.status.Status.TheVariants as status

-- a line that begins otherwise than that of an event, be it in a life or in a world
pub record IsOther (line : List ℕ) : Type 0 where
  pub front : List ℕ
  pub clear : has_no_feed front ≡ true
  pub ended : line ≡ front ++ 10 ∷ []
  pub begins : get_or line 0 0 ≡ 97 → ⊥
  pub unsigned : get_or line 0 0 ≡ 64 → ⊥

-- ## Each of them

clear-word : (w : BadWord) → has_no_feed (bad_word_text w) ≡ true
clear-word bad.AfterEnd = refl
clear-word bad.Long = refl
clear-word bad.LineFeed = refl
clear-word bad.Lines = refl
clear-word bad.Spaces = refl
clear-word bad.Header = refl
clear-word bad.Word = refl
clear-word bad.NotBuilt = refl
clear-word bad.Order = refl
clear-word bad.Count = refl
clear-word bad.Number = refl
clear-word bad.Hex = refl
clear-word bad.Name = refl
clear-word bad.Limit = refl
clear-word bad.Cert = refl
clear-word bad.OwnKey = refl
clear-word bad.End = refl

clear-number : (word : List ℕ) (n : ℕ) → has_no_feed word ≡ true → has_no_feed (word ++ decimal n) ≡ true
clear-number word n h = clear-append word (decimal n) h (clear-decimal n)

pub bad-line : (number : ℕ) (w : BadWord) → IsOther (cause_line (status.BadInput number w))
bad-line number w = record {
  front = codes "bad " ++ decimal number ++ 32 ∷ [] ++ bad_word_text w;
  clear = clear-append ((codes "bad " ++ decimal number) ++ 32 ∷ []) (bad_word_text w) (clear-append (codes "bad " ++ decimal number) (32 ∷ []) (clear-number (codes "bad ") number refl) refl) (clear-word w);
  ended = refl;
  begins = λ e. absurd (omega (arith, e));
  unsigned = λ e. absurd (omega (arith, e));
}

clear-owner : (who : Option ℕ) → has_no_feed (owner_text who) ≡ true
clear-owner None = refl
clear-owner (Some m) = clear-decimal m

pub forged-line : (number : ℕ) (who : Option ℕ) (body : Body) → IsOther (cause_line (status.Forged number who body))
forged-line number who body =
    let line = codes "forged " ++ decimal number in
    let owner = (line ++ codes " ") ++ owner_text who in
    record {
      front = (owner ++ codes " ") ++ body_text body;
      clear =
          clear-append (owner ++ codes " ") (body_text body)
          (clear-append owner (codes " ") (clear-append (line ++ codes " ") (owner_text who) (clear-append line (codes " ") (clear-number (codes "forged ") number refl) refl) (clear-owner who)) refl)
          (clear-body body);
      ended = refl;
      begins = λ e. absurd (omega (arith, e));
      unsigned = λ e. absurd (omega (arith, e));
    }

pub fault-line : IsOther (cause_line status.ReadFault)
fault-line = record { front = codes "read fault"; clear = refl; ended = refl; begins = λ e. absurd (omega (arith, e)); unsigned = λ e. absurd (omega (arith, e)) }

pub store-line : IsOther (cause_line status.StoreFault)
store-line = record { front = codes "store fault"; clear = refl; ended = refl; begins = λ e. absurd (omega (arith, e)); unsigned = λ e. absurd (omega (arith, e)) }

pub link-line : IsOther (cause_line status.LinkFault)
link-line = record { front = codes "link fault"; clear = refl; ended = refl; begins = λ e. absurd (omega (arith, e)); unsigned = λ e. absurd (omega (arith, e)) }

pub used-line : (next : ℕ) → IsOther (cause_line (status.Exhausted next))
used-line next = record {
  front = codes "exhausted " ++ decimal next;
  clear = clear-number (codes "exhausted ") next refl;
  ended = refl;
  begins = λ e. absurd (omega (arith, e));
  unsigned = λ e. absurd (omega (arith, e));
}

clear-byte : (byte : Option ℕ) → has_no_feed (byte_text byte) ≡ true
clear-byte None = refl
clear-byte (Some byte) = clear-decimal byte

pub broken-line : (place : ℕ) (byte : Option ℕ) → IsOther (cause_line (status.StoreBroken place byte))
broken-line place byte = record {
  front = codes "store broken " ++ decimal place ++ 32 ∷ [] ++ byte_text byte;
  clear =
      clear-append ((codes "store broken " ++ decimal place) ++ 32 ∷ []) (byte_text byte)
      (clear-append (codes "store broken " ++ decimal place) (32 ∷ []) (clear-number (codes "store broken ") place refl) refl) (clear-byte byte);
  ended = refl;
  begins = λ e. absurd (omega (arith, e));
  unsigned = λ e. absurd (omega (arith, e));
}

-- ## All of one, or a front of it

pub tail-of : (whole line : List ℕ) (failed : Bool) → IsOther whole → IsWritten failed whole line → IsTail line
tail-of whole line false other is = inr (subst IsWholeLine (sym is) (record { front = other.front; clear = other.clear; ended = other.ended }))
tail-of whole line true other is =
    let short : is.count < length (other.front ++ 10 ∷ []) = subst (λ (l : List ℕ). is.count < length l) other.ended is.short in
    let clear : has_no_feed (take is.count whole) ≡ true = subst (λ (l : List ℕ). has_no_feed (take is.count l) ≡ true) (sym other.ended) (clear-front other.front is.count other.clear short) in
    inl (subst (λ (l : List ℕ). has_no_feed l ≡ true) (sym is.same) clear)

begins-front : (first : ℕ) (text : List ℕ) (count : ℕ) → (0 ≡ first → ⊥) → (get_or text 0 0 ≡ first → ⊥) → get_or (take count text) 0 0 ≡ first → ⊥
begins-front first text zero some other e = some e
begins-front first [] (suc count) some other e = some e
begins-front first (b ∷ text) (suc count) some other e = other e

begins-of : (first : ℕ) (whole line : List ℕ) (failed : Bool) → (0 ≡ first → ⊥) → (get_or whole 0 0 ≡ first → ⊥) → IsWritten failed whole line → get_or line 0 0 ≡ first → ⊥
begins-of first whole line false some other is e = other (sym (ap (λ (l : List ℕ). get_or l 0 0) is) ∙ e)
begins-of first whole line true some other is e = begins-front first whole is.count some other (sym (ap (λ (l : List ℕ). get_or l 0 0) is.same) ∙ e)

pub begins-other : (whole line : List ℕ) (failed : Bool) → IsOther whole → IsWritten failed whole line → get_or line 0 0 ≡ 97 → ⊥
begins-other whole line failed other is = begins-of 97 whole line failed (λ e. absurd (omega (arith, e))) other.begins is

pub unsigned-other : (whole line : List ℕ) (failed : Bool) → IsOther whole → IsWritten failed whole line → get_or line 0 0 ≡ 64 → ⊥
unsigned-other whole line failed other is = begins-of 64 whole line failed (λ e. absurd (omega (arith, e))) other.unsigned is
