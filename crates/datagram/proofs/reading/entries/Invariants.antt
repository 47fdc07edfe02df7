use Rattle.std.proofs.Common.{◌≡◌, ◌-◌, ◌*◌, [], length}
use Rattle.datagram.specs.Grammar.{items_at, entry_at, next_member}
use Rattle.datagram.proofs.reading.entries.Given as goal

abbrev pub invariant-loop-entry : goal.invariant-loop-entry
invariant-loop-entry l =
    record {
      same : items_at (entry_at l.wide l.page) next_member (l.count - l._entry) l.least l.summary.listed l.reader ≡ items_at (entry_at l.wide l.page) next_member l.count (32 * l.page) [] l.fn.reader;
      page : l.summary.page ≡ l.page;
      many : length l.summary.listed ≡ l._entry;
    }
