use Rattle.std.proofs.Common.{◌≡◌, ℕ, List, take, Ok, subst, sym, ◌∙◌, rules}
use Rattle.journal.specs.declared.turn.Heard.TheVariants as heard
use Rattle.node_loop.specs.Writing.{Hears}
use Rattle.node_loop.proofs.LinkLemmas.{hears-got}
use Rattle.node_loop.proofs.turns.hear.Goals as goal

pub returns-in-Ok-clause-hears : goal.returns-in-Ok-clause-hears
returns-in-Ok-clause-hears g c =
    let items : c.in-Ok.bytes.items ≡ take c.in-Got.count c.receive.new.buf = search rules in
    subst (λ (xs : List ℕ). Hears (g.L.Link.state c.args.link.now).contents (g.L.Link.state c.receive.new.self).contents (Ok (heard.Got xs))) (sym (c.from_vec.ensures ∙ items))
    (hears-got (g.L.Link.state c.args.link.now).contents (g.L.Link.state c.receive.new.self).contents c.args.buf.now c.receive.new.buf c.in-Got.count c.requires c.in-Got.ensures.receives)
