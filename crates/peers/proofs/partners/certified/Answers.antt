use Rattle.std.proofs.Common.{◌≡◌, ℕ, List, Bool, cond, [], ◌∷◌, ◌++◌, ap, ◌∙◌, arith, is_some, filter}
use Rattle.std.specs.List.{range_with_len}
use Rattle.ff_ids.specs.declared.TheConstants.{MEMBERS}
use Rattle.ff_ids.specs.Views.{all_numbers}
use Rattle.validate.specs.Certified.{certificate_of}
use Rattle.peers.proofs.RangeLemmas.{filter-more}
use Rattle.peers.proofs.partners.certified.Goals as goal

pub loop-number-preserved : goal.loop-number-preserved
loop-number-preserved c =
    let q : ℕ → Bool = λ m. is_some (certificate_of c.args.roster.now m) in
    let n : ℕ = c.loop-number.number in
    c.in_ok-list_certified.ensures ∙ ap (λ (m : ℕ). cond (q m) (c.loop-number.listed.items ++ m ∷ []) c.loop-number.listed.items) c.new.ensures
    ∙ ap (λ (xs : List ℕ). cond (q n) (xs ++ n ∷ []) xs) c.loop-number.invariant ∙ filter-more q n

pub returns : goal.returns
unfolding all_numbers
returns c =
    let last : c.loop-number.number ≡ MEMBERS = omega (arith, c.loop-number-test.false, c.loop-number.auto.number-end) in
    c.loop-number.invariant ∙ ap (λ (k : ℕ). filter (λ m. is_some (certificate_of c.args.roster.now m)) (range_with_len 0 k)) last
