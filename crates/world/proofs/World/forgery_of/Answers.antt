use Rattle.std.proofs.Common.{ap, sym, ◌∙◌}
use Rattle.std.specs.Option.{option_and_then}
use Rattle.world.specs.Testing.{forged_in}
use Rattle.world.proofs.ForgeryLemmas.{forgery-node, forgery-none, node_forgery}
use Rattle.world.proofs.World.forgery_of.Goals as goal

pub returns-then-is_forged_for_authority-clause-value : goal.returns-then-is_forged_for_authority-clause-value
returns-then-is_forged_for_authority-clause-value c = λ s w told h. sym (forgery-none s w c.args.rec.now (sym (c.is_forged_for_authority.ensures s w told h) ∙ c.if-is_forged_for_authority.true))

pub returns-in_err-who-clause-value : goal.returns-in_err-who-clause-value
returns-in_err-who-clause-value c = λ s w told h.
    ap (option_and_then forged_in) c.from_residual.ensures
    ∙ sym (forgery-node s w c.args.rec.now (sym (c.is_forged_for_authority.ensures s w told h) ∙ c.if-is_forged_for_authority.false) ∙ ap (node_forgery c.args.rec.now) (sym (c.in_err-who.ensures s w told h)))

pub returns-clause-value : goal.returns-clause-value
returns-clause-value c = λ s w told h.
    sym (forgery-node s w c.args.rec.now (sym (c.is_forged_for_authority.ensures s w told h) ∙ c.if-is_forged_for_authority.false) ∙ ap (node_forgery c.args.rec.now) (sym (c.in_ok-who.ensures s w told h)))
