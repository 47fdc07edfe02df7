use Rattle.std.proofs.Common.{◌≡◌, ℕ, List, ◌+◌, take, rules, arith, sym, ap, subst, ◌∙◌, true}
use Rattle.std.specs.List.{list_all}
use Rattle.std.specs.Char.{is_ascii_digit}
use Rattle.std.proofs.lemmas.List.{take_all, take_rest}
use Rattle.line_text.specs.Frame.{behind, first_word}
use Rattle.line_text.specs.Numbers.{number_of}
use Rattle.line_text.proofs.HeadLemmas.{numeral, parts_digits, parts_head}
use Rattle.line_text.proofs.numbers.head_number.Goals as goal

pub returns-then-end-text-clause-number : goal.returns-then-end-text-clause-number
returns-then-end-text-clause-number c =
    let h = c.head_digits-number in
    let whole = take_all h.result.1 c.args.text.now (omega (arith, c.if-end-text.true)) in
    let parted = parts_digits c.args.text.now (subst (λ (t : List ℕ). list_all is_ascii_digit t ≡ true) whole h.ensures.digits) in
    let n = numeral (take h.result.1 c.args.text.now) h.result.0 (search rules) h.ensures.digits h.ensures.value (search rules) in
    ap (λ ps. number_of (first_word ps)) parted ∙ ap number_of (sym whole) ∙ n

pub returns-then-end-text-clause-left : goal.returns-then-end-text-clause-left
returns-then-end-text-clause-left c =
    let h = c.head_digits-number in
    let whole = take_all h.result.1 c.args.text.now (omega (arith, c.if-end-text.true)) in
    let parted = parts_digits c.args.text.now (subst (λ (t : List ℕ). list_all is_ascii_digit t ≡ true) whole h.ensures.digits) in
    sym (ap behind parted)

pub returns-then-text-end-eq32-clause-number : goal.returns-then-text-end-eq32-clause-number
returns-then-text-end-eq32-clause-number c =
    let h = c.head_digits-number in
    let parted = parts_head c.args.text.now h.result.1 (omega (arith, c.if-end-text.false, h.ensures.within)) h.ensures.digits c.if-text-end-eq32.true in
    let n = numeral (take h.result.1 c.args.text.now) h.result.0 (search rules) h.ensures.digits h.ensures.value (search rules) in
    ap (λ ps. number_of (first_word ps)) parted ∙ n

pub returns-then-text-end-eq32-clause-left : goal.returns-then-text-end-eq32-clause-left
returns-then-text-end-eq32-clause-left c =
    let h = c.head_digits-number in
    let parted = parts_head c.args.text.now h.result.1 (omega (arith, c.if-end-text.false, h.ensures.within)) h.ensures.digits c.if-text-end-eq32.true in
    rw (take_rest c.args.text.now (h.result.1 + 1)) (sym (ap behind parted))
