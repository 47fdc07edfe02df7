use Rattle.std.proofs.Common.{refl, sym, ap, ◌∙◌}
use Rattle.std.specs.Prelude.{option_to_list}
use Rattle.node_loop.proofs.ExpectLemmas.{below-more, below-none, tells-more, tells-none, tells-so}
use Rattle.node_loop.proofs.expecting.expect_certified.Goals as goal

pub loop-number-init : goal.loop-number-init
loop-number-init g c = record {
  tells = tells-so (g.E.Expects.told c.args.link.now) (g.E.Expects.told c.args.link.now) _ _ (sym (below-none c.args.node.now.roster)) (tells-none (g.E.Expects.told c.args.link.now));
  same = refl;
}

pub loop-number-preserved : goal.loop-number-preserved
loop-number-preserved g c =
    let told = g.E.Expects.told in
    record {
      tells =
          tells-so (told c.args.link.now) (told c.tell_of.new.link) _ _ (below-more c.args.node.now.roster c.loop-number.number)
          (tells-more (told c.args.link.now) (told c.loop-number.link) (told c.tell_of.new.link) _ _ c.loop-number.invariant.tells
          (tells-so (told c.loop-number.link) (told c.tell_of.new.link) _ _ (ap option_to_list c.certified.ensures) c.tell_of.ensures.tells));
      same = c.tell_of.ensures.same ∙ c.loop-number.invariant.same;
    }
