use Rattle.ff_ids.proofs.HexLemmas.{digit_is_one_byte}
use Rattle.ff_ids.proofs.digits.digit.Goals as goal

pub returns : goal.returns
returns c = rw (c.from.ensures, c.digit_byte.ensures) (digit_is_one_byte c.args.value)
