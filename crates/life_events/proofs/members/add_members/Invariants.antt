use Rattle.std.proofs.Common.{◌≡◌, ◌++◌, length, take}
use Rattle.std.specs.Prelude.{codes, decimal, flat_map}
use Rattle.life_events.proofs.members.add_members.Given as goal

-- The first number is written, and then a space and each of the numbers so far.
abbrev pub invariant-loop-member : goal.invariant-loop-member
invariant-loop-member l = record {
  written : l.out.items ≡ l.initial.out.items ++ flat_map (λ m. codes " " ++ decimal m) (take l.member-index l.others);
  begun : take (length l.fn.out.items) l.out.items ≡ l.fn.out.items;
}
