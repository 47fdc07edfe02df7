use Rattle.std.proofs.Common.{◌*◌, ◌+◌, ◌%◌, ap, sym, ◌∙◌}
use Rattle.std.specs.Option.{option_or}
use Rattle.ff_ids.specs.Views.{successor}
use Rattle.gossip.specs.Partners.{others, in_turn}
use Rattle.gossip.proofs.partners.successor_or_other.Goals as goal

pub returns-in-None : goal.returns-in-None
returns-in-None c s holds =
    let me = c.args.me in
    let others_turn = in_turn (others c.args.certified.now me) c.args.round in
    c.in_turn.ensures s holds
    ∙ ap (λ o. option_or o others_turn) (sym c.in-None.is ∙ c.successor.ensures s holds)
    ∙ ap (λ g. option_or (successor s (c.args.round % (2 * g.t + 1)) me) others_turn) c.group.ensures
