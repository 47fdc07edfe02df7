use Rattle.std.proofs.Common.{◌≡◌, ℕ, List, [], ◌∷◌, ◌++◌, ap, sym, ◌∙◌, append-nil}
use Rattle.std.specs.Int.{w16, to_be_bytes}
use Rattle.datagram.proofs.Readings.{headed}
use Rattle.datagram.specs.Spelling.{head_bytes}
use Rattle.records.specs.declared.Record.{Record}
use Rattle.records.specs.Spelling.{record_bytes}
use Rattle.world.proofs.liar.Given.of.Goals as goal

pub returns : goal.returns
returns c =
    let r : Record = c.args.checked.now.rec in
    let head : List ℕ = head_bytes 4 c.args.from ++ to_be_bytes w16 1 in
    let first : c.write_record.new.out.items ≡ head ++ record_bytes r =
    c.in_ok-write_record.ensures.ok ∙ ap (λ (x : Record). c.extend_from_slice.new.self.items ++ record_bytes x) c.rec.ensures.value
    ∙ ap (λ (xs : List ℕ). xs ++ record_bytes r) (c.in_ok-extend_from_slice.ensures.items ∙ ap (λ (xs : List ℕ). xs ++ c.records_head.result) c.new-bytes.ensures.items ∙ c.records_head.ensures) in
    c.from_vec.ensures ∙ first ∙ ap (λ (xs : List ℕ). head ++ xs) (sym (append-nil (record_bytes r))) ∙ headed c.args.from (r ∷ [])
