use Rattle.std.proofs.Common.{rules, ◌≡◌, [], ◌∷◌, ◌++◌, not, ap, subst, sym, ◌∙◌}
use Rattle.std.specs.List.{list_any}
use Rattle.std.specs.Ordering.{eq_by_cmp}
use Rattle.record_slots.specs.Held.{key_cmp}
use Rattle.audit_node.specs.News.{with_fresh}
use Rattle.audit_node.specs.Playing.{Kept, Plays}
use Rattle.audit_node.specs.contracts.Mirror.{the_view}
use Rattle.audit_node.proofs.PlayLemmas.{fresh-plays}
use Rattle.audit_node.proofs.SpreadLemmas.{fresh-off, fresh-known, fresh-more}
use Rattle.audit_node.proofs.Mirror.add_news.Goals as goal

pub returns-then-is_none-clause-plays : goal.returns-then-is_none-clause-plays
returns-then-is_none-clause-plays c = λ s es call p.
    let v : Kept = the_view c.self.inside in
    let same = fresh-off v.heal c.args.key v.news (c.is_none.ensures ∙ ap not c.if-is_none.true) in
    subst (λ w. Plays s es w (with_fresh s c.args.key call)) c.self.view_is
    (fresh-plays s es v call c.args.key v.news same (subst (λ w. Plays s es w call) (sym c.self.view_is) p))

pub returns-then-is_listed-clause-plays : goal.returns-then-is_listed-clause-plays
returns-then-is_listed-clause-plays c = λ s es call p.
    let v : Kept = the_view c.self.inside in
    let same =
    fresh-known v.heal c.args.key v.news
    (ap (λ ks. list_any (eq_by_cmp key_cmp c.args.key) ks) (sym c.deref.ensures.value) ∙ sym c.is_listed.ensures ∙ c.if-is_listed.true) in
    subst (λ w. Plays s es w (with_fresh s c.args.key call)) c.self.view_is
    (fresh-plays s es v call c.args.key v.news same (subst (λ w. Plays s es w call) (sym c.self.view_is) p))

pub returns-else-is_err-clause-plays : goal.returns-else-is_err-clause-plays
returns-else-is_err-clause-plays c = λ s es call p.
    let v : Kept = the_view c.self.inside in
    let more =
    fresh-more v.heal c.args.key v.news (c.is_none.ensures ∙ ap not c.if-is_none.false)
    (ap (λ ks. list_any (eq_by_cmp key_cmp c.args.key) ks) (sym c.deref.ensures.value) ∙ sym c.is_listed.ensures ∙ c.if-is_listed.false) in
    let pushed : c.push.new.self.items ≡ c.self.inside.news.items ++ c.args.key ∷ [] = search rules in
    fresh-plays s es v call c.args.key c.push.new.self.items (pushed ∙ more)
    (subst (λ w. Plays s es w call) (sym c.self.view_is) p)
