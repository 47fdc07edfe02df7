use Rattle.std.proofs.Common.{◌≡◌, ℕ, suc, ◌+◌, true, false, List, Option, drop, ap, sym, ◌∙◌, arith}
use Rattle.records.specs.declared.Record.{Record}
use Rattle.world_rules.specs.Forgeries.{first_forgery, forgery_by}
use Rattle.std.specs.Prelude.{is_err}
use Rattle.std.specs.Option.{option_or}
use Rattle.world_rules.specs.Forgeries.{Forgery}
use Rattle.world.proofs.ForgeryLemmas.{first-at, first-past, tests-as, tests-fine, tests-first}
use Rattle.world.proofs.World.test_all.Goals as goal

pub returns-then-is_err-clause-tests : goal.returns-then-is_err-clause-tests
returns-then-is_err-clause-tests c = λ s w told h.
    let records : List Record = c.args.records.now in
    let i : ℕ = c.loop-rec.rec-index in
    let r : Record = c.rec-item.result in
    let so = c.loop-rec.invariant.1 s w told h in
    let err : is_err c.test_record-tested.result ≡ true = sym c.is_err.ensures.value ∙ c.if-is_err.true in
    tests-as s w told c.test_record-tested.new.self (first_forgery s w records) (option_or (forgery_by s w r) (first_forgery s w (drop (suc i) records))) c.test_record-tested.result
    (so.0 ∙ first-at s w records i r c.loop-rec-test.true c.rec-item.is)
    (tests-first s w told c.test_record-tested.new.self (forgery_by s w r) (first_forgery s w (drop (suc i) records)) c.test_record-tested.result err (c.test_record-tested.ensures.tests s w told so.1))

pub loop-rec-preserved : goal.loop-rec-preserved
loop-rec-preserved c = (
  c.test_record-tested.ensures.numbers ∙ c.loop-rec.invariant.0,
  λ s w told h.
      let records : List Record = c.args.records.now in
      let i : ℕ = c.loop-rec.rec-index in
      let r : Record = c.rec-item.result in
      let so = c.loop-rec.invariant.1 s w told h in
      let next : i + 1 ≡ suc i = omega arith in
      let err : is_err c.test_record-tested.result ≡ false = sym c.is_err.ensures.value ∙ c.if-is_err.false in
      let fine = tests-fine s w told c.test_record-tested.new.self (forgery_by s w r) c.test_record-tested.result err (c.test_record-tested.ensures.tests s w told so.1) in
      (so.0 ∙ first-at s w records i r c.loop-rec-test.true c.rec-item.is ∙ ap (λ (o : Option Forgery). option_or o (first_forgery s w (drop (suc i) records))) fine.0 ∙ ap (λ (k : ℕ). first_forgery s w (drop k records)) (sym next), fine.1),
)

pub returns-clause-tests : goal.returns-clause-tests
returns-clause-tests c = λ s w told h.
    let so = c.loop-rec.invariant.1 s w told h in
    (so.0 ∙ first-past s w c.args.records.now c.loop-rec.rec-index c.loop-rec-test.false, so.1)
