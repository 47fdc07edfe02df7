use Rattle.std.proofs.Common.{◌≡◌, ◌≢◌, ℕ, ◌+◌, true, false, true≢false, get_or, sym, refl, ap, ◌∙◌, arith, rules}
use Rattle.std.proofs.lemmas.Bool.{eq-eqb, ne_eqb}
use Rattle.std.proofs.lemmas.List.Sums.{count_by_more_yes, count_by_more_no}
use Rattle.line_text.specs.Words.{is_printable, is_space}
use Rattle.line_text.proofs.SpacedLemmas.{spaced-whole, early-space, other-byte, behind-space, behind-byte, at-end, counted-words}
use Rattle.line_text.proofs.words.count_words.Goals.{else-is_printable+then-byte-eq32+else-not-has_begun, then-is_printable}
use Rattle.line_text.proofs.words.count_words.Goals as goal

pub loop-byte-init : goal.loop-byte-init
loop-byte-init c = record { spaced = sym (spaced-whole c.args.text.now); spaces = refl; few = omega arith }

pub returns-then-not-has_begun-clause-spaced : goal.returns-then-not-has_begun-clause-spaced
returns-then-not-has_begun-clause-spaced c =
    early-space c.loop-byte.byte-index c.args.text.now c.loop-byte-test.true (search rules) (rw c.if-not-has_begun.true at c.loop-byte.invariant.spaced)

pub returns-else-byte-eq32-clause-spaced : goal.returns-else-byte-eq32-clause-spaced
returns-else-byte-eq32-clause-spaced c =
    other-byte c.loop-byte.has_begun c.loop-byte.byte-index c.args.text.now c.loop-byte-test.true (search rules) (search rules) c.loop-byte.invariant.spaced

-- A printable byte is no space.
no_space : (byte : ℕ) → is_printable byte ≡ true → byte ≢ 32
no_space byte printed e = true≢false (sym printed ∙ ap is_printable e)

pub loop-byte-preserved : goal.loop-byte-preserved
loop-byte-preserved c =
    let text = c.args.text.now in
    let i = c.loop-byte.byte-index in
    let h = c.loop-byte-test.true in
    elim c.if-is_printable.branch [
      | else-is_printable+then-byte-eq32+else-not-has_begun w ↦
          let behind = behind-space i text h w.if-byte-eq32.true (rw w.if-not-has_begun.false at c.loop-byte.invariant.spaced) in
          let more = count_by_more_yes is_space text i 0 h (eq-eqb (get_or text i 0) 32 w.if-byte-eq32.true) in
          record {
            spaced = rw w.has_begun-is behind;
            spaces = w.spaces-is ∙ ap (λ (n : ℕ). n + 1) c.loop-byte.invariant.spaces ∙ sym more;
            few = omega (arith, w.spaces-is, c.loop-byte.invariant.few);
          }
      | then-is_printable w ↦
          let printed : is_printable (get_or text i 0) ≡ true = search rules in
          let apart = no_space (get_or text i 0) printed in
          let behind = behind-byte c.loop-byte.has_begun i text h apart printed c.loop-byte.invariant.spaced in
          let same = count_by_more_no is_space text i 0 h (ne_eqb (get_or text i 0) 32 apart) in
          record {
            spaced = rw w.has_begun-is behind;
            spaces = w.spaces-is ∙ c.loop-byte.invariant.spaces ∙ sym same;
            few = omega (arith, w.spaces-is, c.loop-byte.invariant.few);
          }
    ]

pub returns-then-has_begun-clause-spaced : goal.returns-then-has_begun-clause-spaced
returns-then-has_begun-clause-spaced c = at-end true c.loop-byte.byte-index c.args.text.now (omega (arith, c.loop-byte-test.false)) (rw c.if-has_begun.true at c.loop-byte.invariant.spaced)

pub returns-then-has_begun-clause-count : goal.returns-then-has_begun-clause-count
returns-then-has_begun-clause-count c = counted-words c.loop-byte.spaces c.loop-byte.byte-index c.args.text.now (omega (arith, c.loop-byte-test.false)) c.loop-byte.invariant.spaces

pub returns-else-has_begun-clause-spaced : goal.returns-else-has_begun-clause-spaced
returns-else-has_begun-clause-spaced c = at-end false c.loop-byte.byte-index c.args.text.now (omega (arith, c.loop-byte-test.false)) (rw c.if-has_begun.false at c.loop-byte.invariant.spaced)
