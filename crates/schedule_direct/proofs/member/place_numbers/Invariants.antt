use Rattle.std.proofs.Common.{◌≡◌, ◌+◌, ◌++◌, length, map, replicate, take}
use Rattle.ff_ids.specs.declared.TheConstants.{MAX_RINGS}
use Rattle.line_text.specs.Fields.{number_32, number_in}
use Rattle.line_text.specs.Frame.{first_of, word_tests}
use Rattle.schedule_direct.proofs.member.place_numbers.Given as goal

abbrev pub invariant-loop-words : goal.invariant-loop-words
invariant-loop-words l = record {
  tests : first_of (word_tests (replicate (length l.words) number_32) l.words) ≡ first_of (word_tests (replicate (length l.fn.words) number_32) l.fn.words);
  long : l.many + length l.words ≡ length l.fn.words;
  read : take l.many l.places ++ map number_in l.words ≡ map number_in l.fn.words;
  room : length l.places ≡ MAX_RINGS;
}

abbrev pub decreases-loop-words : goal.decreases-loop-words
decreases-loop-words l = length l.words
