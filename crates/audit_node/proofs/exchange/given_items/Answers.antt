use Rattle.std.proofs.Common.{◌≡◌, ℕ, List, map, take, ap, ◌∙◌}
use Rattle.ff_ids.specs.declared.summary.RecordKey.{RecordKey}
use Rattle.record_slots.specs.Picks.{fitting, held_all}
use Rattle.audit_set.specs.declared.known.Known.{Known}
use Rattle.audit_set.specs.Knowns.{long}
use Rattle.audit_node.specs.declared.owing.Item.{Item}
use Rattle.audit_node.specs.Exchanging.{item_as}
use Rattle.audit_node.proofs.GivenLemmas.{take-map}
use Rattle.audit_node.proofs.exchange.given_items.Goals as goal

pub returns : goal.returns
returns c =
    let set = c.args.records.now in
    let ks : List RecordKey = c.args.keys.now in
    let all : List Known = held_all set ks in
    let n : ℕ = c.fitting-count.result in
    let held = λ (xs : List RecordKey). held_all set xs in
    let count : n ≡ fitting long 32760 all = c.fitting-count.ensures.count ∙ ap (fitting long 32760) (ap held c.deref.ensures.value ∙ c.in_ok-held.ensures.same) in
    let items : c.in_ok-items.items.items ≡ map item_as all = c.in_ok-items.ensures ∙ ap (map item_as) (ap held c.deref-2.ensures.value ∙ c.in_ok-held.ensures.same) in
    c.truncate.ensures.items ∙ ap (λ (xs : List Item). take n xs) items ∙ take-map item_as n all ∙ ap (λ (k : ℕ). map item_as (take k all)) count
