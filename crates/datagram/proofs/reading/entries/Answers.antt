use Rattle.std.proofs.Common.{◌<◌, ◌≤◌, [], ◌∷◌, ◌∙◌, ap, length, arith, rules}
use Rattle.std.proofs.lemmas.List.{length-append}
use Rattle.std.proofs.lemmas.Result.{err_from_is_err_and}
use Rattle.datagram.specs.Grammar.{entry_at, next_member}
use Rattle.datagram.proofs.Items.{items_on}
use Rattle.datagram.proofs.Loops.{entries_stopped, entries_done}
use Rattle.datagram.proofs.reading.entries.Goals as goal

pub returns-in_err-entry : goal.returns-in_err-entry
returns-in_err-entry c =
    let p = err_from_is_err_and c.from_residual.result c.from_residual.ensures.1 in
    let lt : c.loop-entry._entry < c.args.count = search rules in
    rw (p.1, p.2) (entries_stopped c.args.wide c.args.page c.args.count c.args.reader.now c.loop-entry._entry c.loop-entry.least c.loop-entry.summary.listed c.loop-entry.reader _ lt c.in_err-entry.ensures c.loop-entry.invariant.same)

pub loop-entry-preserved : goal.loop-entry-preserved
loop-entry-preserved c =
    let lt : c.loop-entry._entry < c.args.count = search rules in
    record {
      same = rw (c.push.ensures.pushed, c.get-least.ensures.value) (items_on (entry_at c.args.wide c.args.page) next_member c.args.count c.loop-entry._entry c.loop-entry.least c.loop-entry.summary.listed c.loop-entry.reader c.in_ok-entry.entry c.entry.new.reader _ lt c.in_ok-entry.ensures c.loop-entry.invariant.same);
      page = c.push.ensures.page ∙ c.loop-entry.invariant.page;
      many = omega (arith, ap length c.push.ensures.pushed, length-append c.loop-entry.summary.listed (c.in_ok-entry.entry ∷ []), c.loop-entry.invariant.many);
    }

pub returns : goal.returns
returns c =
    let le : c.args.count ≤ c.loop-entry._entry = search rules in
    entries_done c.args.wide c.args.page c.args.count c.args.reader.now c.loop-entry._entry c.loop-entry.least c.loop-entry.summary c.loop-entry.reader le c.loop-entry.invariant.page c.loop-entry.invariant.same
