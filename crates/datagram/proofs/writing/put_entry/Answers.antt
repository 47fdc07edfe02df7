use Rattle.std.proofs.Common.{ℕ, ◌++◌, ◌∙◌, ap}
use Rattle.std.specs.Int.{w16, to_be_bytes}
use Rattle.datagram.specs.Spelling.{entry_bytes}
use Rattle.datagram.proofs.Puts.{four_puts}
use Rattle.datagram.proofs.writing.put_entry.Goals as goal

pub returns : goal.returns
unfolding entry_bytes
returns c =
    let member = c.in_ok-put_u16.ensures.put ∙ ap (λ (n : ℕ). c.args.writer.now ++ to_be_bytes w16 n) c.get.ensures.value in
    four_puts _ _ _ _ _ _ _ _ _ member c.in_ok-put_u64.ensures.put c.in_ok-put_bits.ensures c.in_ok-put_bits-2.ensures
