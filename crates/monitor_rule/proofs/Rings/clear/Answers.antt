use Rattle.std.proofs.Common.{◌≡◌, [], ◌++◌, length, map, take, drop, ap, ◌∙◌}
use Rattle.monitor_rule.specs.Sorted.{emptied}
use Rattle.monitor_rule.proofs.KeptLemmas.{Rekept, Rekept-cleared, written}
use Rattle.monitor_rule.proofs.Rings.clear.Goals as goal

abbrev cleared : goal.After-clear → Type 0
cleared c =
    Rekept c.forget.new.self (take c.self.inside.rows.len (c.clear_each.new.rows ++ drop (length c.clear_each.new.rows) c.self.inside.rows.items)) c.clear.new.self (record c.args.self.now { members = [] })

is_cleared : (c : goal.After-clear) → cleared c
is_cleared c =
    let rows : c.clear_each.new.rows ≡ map emptied c.self.inside.rows.items = c.clear_each.ensures ∙ ap (map emptied) c.deref_mut.ensures.value in
    let put_rows = written c.self.inside.rows.len c.self.inside.rows.items c.clear_each.new.rows (c.clear_each.auto.rows ∙ ap length c.deref_mut.ensures.value) c.self.inside.rows.ok.0 in
    rw (put_rows, rows, c.clear.ensures) (Rekept-cleared c.self.inside.slots c.forget.new.self c.self.inside.rows.items c.self.inside.numbers c.args.self.now (record { kept = c.self.invariant.0; numbers_same = c.self.invariant.1; view = c.self.view_is }) c.forget.ensures.long c.forget.ensures.none)

pub invariant_of-self : goal.invariant_of-self
invariant_of-self c = ((is_cleared c).kept, (is_cleared c).numbers_same)

pub returns : goal.returns
returns c = (is_cleared c).view
