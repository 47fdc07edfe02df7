use Rattle.std.proofs.Common.{◌≡◌, length, drop, refl, ◌∙◌, ap, sym, arith}
use Rattle.std.proofs.lemmas.List.{take_at}
use Rattle.hss.specs.Pairs.{bottom_secret, front_of}
use Rattle.hss.proofs.Pairs.{front-made, length-front, public-kinds}
use Rattle.hss.proofs.bottom.Bottom.make.Goals as goal

pub put_front-requires-clause-long : goal.put_front-requires-clause-long
put_front-requires-clause-long c =
    let kinds = public-kinds c.args.top.now in
    let long = c.signature_length.ensures in
    omega (arith, c.deref_mut.ensures.len, c.in_ok-front.ensures.len, rw c.public.ensures at long, kinds)

pub returns-clause-made : goal.returns-clause-made
returns-clause-made c =
    let secret = c.args.secret.now in
    let number = c.args.number in
    let front = c.put_front.new.front in
    let tree : c.split-tree.result.0 ≡ bottom_secret secret number =
    cc (c.split-tree.ensures.tree, c.in_ok-key.ensures, c.bottom_id-id.ensures, c.bottom_seed-seed.ensures) in
    let made : front ≡ front_of secret number =
    front-made secret number c.take_leaf-leaf.result.index front c.args.top.now c.split-tree.result.0 c.public-2.result c.requires.top tree
    (ap (λ l. l.index) c.take_leaf-leaf.ensures.leaf) c.public-2.ensures c.put_front.ensures in
    let kinds = public-kinds c.args.top.now in
    let long = c.signature_length.ensures in
    let room : length front ≡ c.in_ok-front.front.len =
    omega (arith, ap length made, length-front secret number c.requires.within, c.in_ok-front.ensures.len, rw c.public.ensures at long, kinds, ap (λ s. s.tree) c.requires.top) in
    record {
      number_is = refl;
      tree = record {
        tree = tree;
        leaves = ap (λ l. l.key) c.split-tree.ensures.leaves ∙ sym c.split-tree.ensures.tree ∙ tree;
        front = take_at front (drop (length front) c.in_ok-front.front.items) c.in_ok-front.front.len room ∙ made;
      };
      whole = ap (λ l. l.next) c.split-tree.ensures.leaves;
    }
