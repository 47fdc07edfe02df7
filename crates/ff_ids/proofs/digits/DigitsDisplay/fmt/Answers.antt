use Rattle.std.proofs.Common.{◌<◌, length, rules, refl}
use Rattle.std.proofs.lemmas.Grind.{put_three}
use Rattle.hex.specs.Hex.{encode_with}
use Rattle.ff_ids.proofs.HexLemmas.{encode_lower-more}
use Rattle.ff_ids.proofs.digits.DigitsDisplay.fmt.Goals as goal

pub loop-byte-init : goal.loop-byte-init
unfolding encode_with
loop-byte-init g c = search rules

pub loop-byte-preserved : goal.loop-byte-preserved
loop-byte-preserved g c p =
    let before = c.loop-byte.invariant p in
    let high = c.in_ok-write_char.ensures.writes before.plain refl in
    let low = c.in_ok-write_char-2.ensures.writes high.plain refl in
    let within : c.loop-byte.byte-index < length c.args.self.now.0.now = search rules in
    let grown = encode_lower-more c.args.self.now.0.now c.loop-byte.byte-index within in
    put_three _ _ _ _ _ _ _ _ _ before high low (rw (c.digit.ensures, c.digit-in-loop-byte.ensures) grown)
