use Rattle.std.proofs.Common.{◌≡◌, ◌≤◌, take, drop}
use Rattle.std.specs.List.{count_by}
use Rattle.line_text.specs.Words.{is_space, is_spaced}
use Rattle.line_text.proofs.SpacedLemmas.{spaced_from}
use Rattle.line_text.proofs.words.count_words.Given as goal

abbrev pub invariant-loop-byte : goal.invariant-loop-byte
invariant-loop-byte l = record {
  spaced : spaced_from l.has_begun (drop l.byte-index l.text) ≡ is_spaced l.text;
  spaces : l.spaces ≡ count_by is_space (take l.byte-index l.text);
  few : l.spaces ≤ l.byte-index;
}
