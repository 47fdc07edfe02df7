use Rattle.std.proofs.Common.{◌≡◌, ◌<◌, ◌==◌, false, length, rules, arith, ◌∙◌}
use Rattle.ff_ids.specs.declared.TheConstants.{MAX_RINGS}
use Rattle.schedule_direct.proofs.PlaceLemmas.{long_more, read_more, room_left, tests_more}
use Rattle.schedule_direct.proofs.member.place_numbers.Goals as goal

pub loop-words-preserved : goal.loop-words-preserved
loop-words-preserved c =
    let words = c.loop-words.words in
    let places = c.loop-words.places in
    let many = c.loop-words.many in
    let some : (length words == 0) ≡ false = search rules in
    let fits = room_left many (length c.args.words) MAX_RINGS words some c.loop-words.invariant.long (search rules) in
    let inside : many < length places = omega (arith, fits, c.loop-words.invariant.room) in
    let tests = tests_more words some (search rules) ∙ c.loop-words.invariant.tests in
    let long = long_more many (length c.args.words) words some c.loop-words.invariant.long in
    let read = read_more places many c.in_ok-places.field-0 words some inside (search rules) ∙ c.loop-words.invariant.read in
    let moved = c.number_32.ensures.moved in
    record {
      tests = rw moved tests;
      long = rw moved long;
      read = rw moved read;
      room = search (rules, c.loop-words.invariant.room);
    }
