use Rattle.std.proofs.Common.{◌≤◌, length, vec_capacity}
use Rattle.ports.specs.MemoryDisk.{now_of}
use Rattle.signer.specs.Played.{told}
use Rattle.signer.proofs.PlayLemmas.{Plays}
use Rattle.signer.proofs.key_lives.play_on.Given as goal

abbrev pub invariant-loop-act : goal.invariant-loop-act
invariant-loop-act l = record {
  plays : Plays l.holder (now_of l.initial.disk.start l.initial.disk.log).image l.signer (told l.disk) l.records.items;
  few : length l.records.items ≤ l.act-index;
  room : length l.acts ≤ vec_capacity l.records;
}
