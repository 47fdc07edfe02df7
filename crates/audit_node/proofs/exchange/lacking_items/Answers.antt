use Rattle.std.proofs.Common.{◌≡◌, List, [], ◌∷◌, ◌++◌, IfOk, subst, ap, ◌∙◌}
use Rattle.ff_ids.specs.declared.summary.Summary.{Summary}
use Rattle.ff_ids.specs.declared.summary.RecordKey.{RecordKey}
use Rattle.ff_ids.specs.declared.summary.RecordKey.TheVariants as keys
use Rattle.gossip.specs.Differ.{differ}
use Rattle.audit_node.specs.Exchanging.{items_of, wanted}
use Rattle.audit_node.proofs.exchange.lacking_items.Goals as goal

pub returns : goal.returns
returns c =
    let theirs : Summary = c.args.theirs.now in
    let set = c.args.records.now in
    let last : List RecordKey = keys.Removal c.args.to ∷ [] in
    let these : c.deref.result.now ≡ wanted set c.args.to theirs =
    c.deref.ensures.value ∙ c.in_ok-push.ensures.items
    ∙ ap (λ (ks : List RecordKey). ks ++ last)
    (c.in_ok-lacks.ensures.ok ∙ ap (λ (ks : List RecordKey). ks ++ differ c.page.new.out.listed theirs.listed) c.new-keys.ensures.items
    ∙ ap (λ (m : Summary). differ m.listed theirs.listed) c.page.ensures) in
    subst (λ ks. IfOk c.given_items.result (λ xs. xs.items ≡ items_of set ks)) these c.given_items.ensures
