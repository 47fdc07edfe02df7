use Rattle.std.proofs.Common.{ap, ◌∙◌, bytes_eq}
use Rattle.std.specs.List.{list_any}
use Rattle.world.proofs.ForgeryLemmas.{any-mapped}
use Rattle.world.proofs.forgery.Tested.contains.Goals as goal

pub returns : goal.returns
returns c =
    c.contains.ensures ∙ any-mapped (λ k. k.items) (bytes_eq c.args.spelled.now) c.self.inside.spelled.keys ∙ ap (list_any (bytes_eq c.args.spelled.now)) c.self.view_is
