use Rattle.std.proofs.Common.{◌<◌, ◌≤◌, rules}
use Rattle.std.proofs.lemmas.Result.{err_from_is_err_and}
use Rattle.datagram.proofs.Loops.{record_passed, records_stopped, records_passed}
use Rattle.datagram.proofs.reading.pass_records.Goals as goal

pub returns-in_err-pass_record : goal.returns-in_err-pass_record
returns-in_err-pass_record c =
    let p = err_from_is_err_and c.from_residual-in_err-pass_record.result c.from_residual-in_err-pass_record.ensures.1 in
    let lt : c.loop-record._record < c.in_ok-count.count = search rules in
    rw (p.1, p.2) (records_stopped c.args.reader.now c.in_ok-count.count c.u16_within.new.reader c.loop-record._record c.loop-record.invariant.0 c.loop-record.reader _ c.in_ok-count.ensures.reads lt c.in_err-pass_record.ensures c.loop-record.invariant.1)

pub loop-record-preserved : goal.loop-record-preserved
loop-record-preserved c =
    let lt : c.loop-record._record < c.in_ok-count.count = search rules in
    record_passed c.in_ok-count.count c.u16_within.new.reader c.loop-record._record c.loop-record.invariant.0 c.loop-record.reader c.pass_record.new.reader lt c.in_ok-pass_record.ensures c.loop-record.invariant.1

pub returns : goal.returns
returns c =
    let le : c.in_ok-count.count ≤ c.loop-record._record = search rules in
    records_passed c.args.reader.now c.in_ok-count.count c.u16_within.new.reader c.loop-record._record c.loop-record.invariant.0 c.loop-record.reader c.in_ok-count.ensures.reads le c.loop-record.invariant.1
