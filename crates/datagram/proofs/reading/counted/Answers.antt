use Rattle.std.proofs.Common.{◌<◌, ◌≤◌, [], ◌∷◌, ap, length, arith, rules}
use Rattle.std.proofs.lemmas.List.{length-append}
use Rattle.std.proofs.lemmas.Result.{err_from_is_err_and}
use Rattle.datagram.specs.Grammar.{any_record, nothing_kept}
use Rattle.datagram.proofs.Items.{items_on}
use Rattle.datagram.proofs.Loops.{counted_refused, counted_given}
use Rattle.datagram.proofs.reading.counted.Goals as goal

pub returns-in_err-next_record : goal.returns-in_err-next_record
returns-in_err-next_record c =
    let p = err_from_is_err_and c.from_residual-in_err-next_record.result c.from_residual-in_err-next_record.ensures.1 in
    let lt : c.loop-record._record < c.args.count = search rules in
    rw (p.1, p.2) (counted_refused c.args.count c.args.reader.now c.loop-record._record c.loop-record.records.items c.loop-record.reader c.next_record.new.reader c.in_err-next_record.field-0.0 lt c.in_err-next_record.ensures c.loop-record.invariant.same)

pub loop-record-preserved : goal.loop-record-preserved
loop-record-preserved c =
    let lt : c.loop-record._record < c.args.count = search rules in
    record {
      same = rw c.push_reserved.ensures.items (items_on any_record nothing_kept c.args.count c.loop-record._record 0 c.loop-record.records.items c.loop-record.reader c.in_ok-next_record.field-0 c.next_record.new.reader _ lt c.in_ok-next_record.ensures c.loop-record.invariant.same);
      many = omega (arith, ap length c.push_reserved.ensures.items, length-append c.loop-record.records.items (c.in_ok-next_record.field-0 ∷ []), c.loop-record.invariant.many);
      room = omega (arith, c.push_reserved.ensures.capacity, c.loop-record.invariant.room);
    }

pub returns : goal.returns
returns c =
    let le : c.args.count ≤ c.loop-record._record = search rules in
    counted_given c.args.count c.args.reader.now c.loop-record._record c.loop-record.records.items c.loop-record.reader c.from_vec.result le c.from_vec.ensures c.loop-record.invariant.same
