use Rattle.std.proofs.Common.{◌+◌, ◌*◌, ◌^◌, sym, ap, ◌∙◌, arith}
use Rattle.std.proofs.lemmas.Nat.{div-add-mod'}
use Rattle.ring_order.specs.Ranks.{Ranked}
use Rattle.ring_order.proofs.HintLemmas.{hinted_count}
use Rattle.ring_order.proofs.rank.Rank.precedes.Goals as goal

pub returns-clause-value : goal.returns-clause-value
returns-clause-value g c =
    let own = sym (div-add-mod' c.self.inside.bits (2 ^ 16)) ∙ ap (λ (r : Ranked). r.hint * 2 ^ 16 + r.number) c.self.view_is in
    let other = sym (div-add-mod' c.other.inside.bits (2 ^ 16)) ∙ ap (λ (r : Ranked). r.hint * 2 ^ 16 + r.number) c.other.view_is in
    λ j k hint number other_hint other_number.
    hinted_count c.args.self.hint c.args.other.hint c.args.self.number c.args.other.number c.self.inside.bits c.other.inside.bits j k own other hint number other_hint other_number (omega (arith, ap (λ (r : Ranked). r.number) c.self.view_is)) (omega (arith, ap (λ (r : Ranked). r.number) c.other.view_is)) c.requires.own_tells c.requires.other_tells
