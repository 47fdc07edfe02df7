use Rattle.std.proofs.Common.{◌≡◌, ℕ, true, List, None, ap, sym, ◌∙◌, subst, rules}
use Rattle.std.specs.Option.{option_and_then}
use Rattle.records.specs.Spelling.{record_bytes}
use Rattle.world_rules.specs.Forgeries.{forgery_by}
use Rattle.world.specs.contracts.World.{the_view}
use Rattle.world.specs.Holding.{Holds, Kept}
use Rattle.world.specs.Testing.{forged_in}
use Rattle.std.specs.List.{list_any}
use Rattle.std.specs.Prelude.{bytes_eq}
use Rattle.world.proofs.ForgeryLemmas.{tested-clean, tests-fault, tests-put}
use Rattle.world.proofs.World.test_record.Goals as goal

pub returns-then-contains-clause-tests : goal.returns-then-contains-clause-tests
returns-then-contains-clause-tests c = λ s w told h.
    let bytes : List ℕ = c.deref.result.now in
    let is : bytes ≡ record_bytes c.args.rec.now = c.deref.ensures.value ∙ c.in_ok-spelled.ensures in
    let found : list_any (bytes_eq bytes) c.args.self.now.tested ≡ true = sym (ap (λ (v : Kept). list_any (bytes_eq bytes) v.tested) c.self.view_is) ∙ sym c.contains.ensures ∙ c.if-contains.true in
    (tested-clean s w told c.args.self.now c.args.rec.now bytes h c.requires.signed is found, h)

pub returns-in-Some-clause-tests : goal.returns-in-Some-clause-tests
returns-in-Some-clause-tests c = λ s w told h. tests-fault s w told c.args.self.now (forgery_by s w c.args.rec.now) c.in-Some.forged c.in-Some.ensures.cause (c.in-Some.ensures.value s w told h)

pub returns-clause-tests : goal.returns-clause-tests
returns-clause-tests c = λ s w told h.
    let v : Kept = the_view c.self.inside in
    let none : c.forgery_of.result ≡ None = search rules in
    let fine : forgery_by s w c.args.rec.now ≡ None = sym (c.forgery_of.ensures.value s w told h) ∙ ap (option_and_then forged_in) none in (
      fine,
      subst (λ (z : List (List ℕ)). Holds s w told (record v { tested = z })) (sym c.in_ok-put.ensures)
          (tests-put s w told v c.args.rec.now c.in_ok-spelled.spelled.items (subst (Holds s w told) (sym c.self.view_is) h) c.requires.signed c.in_ok-spelled.ensures fine),
    )
