use Rattle.std.proofs.Common.{◌≡◌, true, false, Ok, rules, sym, ◌∙◌, ap}
use Rattle.std.specs.Prelude.{bytes_eq, codes}
use Rattle.line_text.proofs.HexWords.{dash, spells, up-bad, up-few, up-many}
use Rattle.line_text.proofs.digits.bytes_up_to.Goals as goal

pub returns-then-eq : goal.returns-then-eq
returns-then-eq c =
    let is : bytes_eq c.args.word.now (codes "-") ≡ true = search rules in
    dash c.args.most c.args.word.now is ∙ ap Ok (sym c.new.ensures.items ∙ sym c.from_vec.ensures)

pub returns-then-not-is_hex : goal.returns-then-not-is_hex
returns-then-not-is_hex c =
    let apart : bytes_eq c.args.word.now (codes "-") ≡ false = search rules in
    up-bad c.args.most c.args.word.now apart c.if-not-is_hex.ensures

pub returns-then-word-most : goal.returns-then-word-most
returns-then-word-most c =
    let apart : bytes_eq c.args.word.now (codes "-") ≡ false = search rules in
    up-many c.args.most c.args.word.now apart (spells c.args.word.now c.if-not-is_hex.ensures) c.if-word-most.true

pub returns-in-Ok : goal.returns-in-Ok
returns-in-Ok c =
    let apart : bytes_eq c.args.word.now (codes "-") ≡ false = search rules in
    let s = spells c.args.word.now c.if-not-is_hex.ensures in
    let few = up-few c.args.most c.args.word.now apart s c.if-word-most.false in
    let decoded = s.decoded in
    let ok = c.in-Ok.ensures.ok in
    few ∙ ap Ok (cc (decoded, ok, c.from_vec-in-Ok.ensures))

pub returns-in-Err : goal.returns-in-Err
returns-in-Err c =
    let apart : bytes_eq c.args.word.now (codes "-") ≡ false = search rules in
    let few = up-few c.args.most c.args.word.now apart (spells c.args.word.now c.if-not-is_hex.ensures) c.if-word-most.false in
    rw few tt
