use Rattle.std.proofs.Common.{◌∙◌, ap}
use Rattle.std.specs.FinMap.{from_entries, insert}
use Rattle.membership.specs.Slots.{map_of}
use Rattle.membership.proofs.by_member.ByMember.set.Goals as goal

pub returns-clause-value : goal.returns-clause-value
returns-clause-value g c =
    c.fill.ensures.value
    ∙ ap (λ m. insert (map_of c.reach.new.slots.items) m c.args.value) c.get-index.ensures.value
    ∙ ap (λ m. insert m c.args.member c.args.value) (ap from_entries c.reach.ensures.same ∙ c.self.view_is)
