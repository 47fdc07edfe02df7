use Rattle.std.proofs.Common.{◌≡◌, ◌++◌, All, take}
use Rattle.records.specs.Signing.{IsChecked}
use Rattle.record_set.specs.Picks.{held_all, spelled}
use Rattle.record_set.proofs.RecordSet.write_all.Given as goal

abbrev pub invariant-loop-key : goal.invariant-loop-key
invariant-loop-key l =
    record {
      grown : l.out.items ≡ l.initial.out.items ++ spelled (held_all l.self (take l.key-index l.keys));
      checked : All IsChecked (held_all l.self (take l.key-index l.keys));
    }
