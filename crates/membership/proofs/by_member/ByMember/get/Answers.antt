use Rattle.std.proofs.Common.{◌<◌, ◌≤◌, ◌∙◌, ap, sym, None, length, get_or, arith}
use Rattle.std.proofs.lemmas.List.{get_or_default, get_or_past}
use Rattle.std.specs.FinMap.{get}
use Rattle.membership.proofs.SlotLemmas.{get-map_of}
use Rattle.membership.proofs.by_member.ByMember.get.Goals as goal

pub returns-then-index-len : goal.returns-then-index-len
returns-then-index-len g c =
    let inside = c.self.inside.slots.items in
    let below : c.get-index.result < length inside = omega (arith, c.if-index-len.true, c.len.ensures) in
    c.as_ref.ensures.value ∙ c.index.ensures ∙ get_or_default inside c.get-index.result _ None below
    ∙ ap (λ m. get_or inside m None) c.get-index.ensures.value ∙ sym (get-map_of inside c.args.member) ∙ ap (λ m. get m c.args.member) c.self.view_is

pub returns-else-index-len : goal.returns-else-index-len
returns-else-index-len g c =
    let inside = c.self.inside.slots.items in
    let behind : length inside ≤ c.get-index.result = omega (arith, c.if-index-len.false, c.len.ensures) in
    sym (get_or_past inside c.get-index.result None behind)
    ∙ ap (λ m. get_or inside m None) c.get-index.ensures.value ∙ sym (get-map_of inside c.args.member) ∙ ap (λ m. get m c.args.member) c.self.view_is
