use Rattle.std.proofs.Common.{◌≡◌, ◌-◌, ◌≤◌, [], length}
use Rattle.std.specs.Prelude.{vec_capacity}
use Rattle.datagram.specs.Grammar.{items_at, any_record, nothing_kept}
use Rattle.datagram.proofs.reading.counted.Given as goal

abbrev pub invariant-loop-record : goal.invariant-loop-record
invariant-loop-record l =
    record {
      same : items_at any_record nothing_kept (l.count - l._record) 0 l.records.items l.reader ≡ items_at any_record nothing_kept l.count 0 [] l.fn.reader;
      many : length l.records.items ≡ l._record;
      room : l.count ≤ vec_capacity l.records;
    }
