use Rattle.std.proofs.Common.{◌≡◌, ◌-◌, List, []}
use Rattle.records.specs.declared.Record.{Record}
use Rattle.datagram.specs.Grammar.{items_at, any_record, nothing_kept}
use Rattle.datagram.proofs.reading.pass_records.Given as goal

abbrev pub invariant-loop-record : goal.invariant-loop-record
invariant-loop-record l =
    (before : List Record) × (items_at any_record nothing_kept (l.count - l._record) 0 before l.reader ≡ items_at any_record nothing_kept l.count 0 [] l.initial.reader)
