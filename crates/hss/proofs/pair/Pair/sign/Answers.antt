use Rattle.std.proofs.Common.{◌≡◌, ◌++◌, true, sym, subst, ◌∙◌, ap}
use Rattle.lms_tree.specs.Lms as lms
use Rattle.hss.specs.Keys.{is_in_profile}
use Rattle.hss.specs.Hss.{HssVerifies}
use Rattle.hss.specs.Pairs.{TopSigns, public_of, signature_length, signature_of, tree_of}
use Rattle.hss.specs.Trees.{IsHeld}
use Rattle.hss.proofs.Pairs.{hand-is, hand-long, hand-signs, pair-verifies, top-signs-one-key}
use Rattle.hss.proofs.pair.Pair.sign.Goals as goal

pub sign-requires-clause-long : goal.sign-requires-clause-long
sign-requires-clause-long c =
    let pair = c.args.leaf.key in
    let same : c.self.inside.secret ≡ pair = ap (λ v. v.key) c.self.view_is ∙ sym c.requires.key in
    let made = ap (λ v. v.made) c.self.view_is ∙ c.requires.made in
    let held : IsHeld pair c.self.inside.next c.self.inside.top_leaves.next c.self.inside.hand =
    subst (λ p. IsHeld p c.self.inside.next c.self.inside.top_leaves.next c.self.inside.hand) same c.self.invariant.5 in
    let hand = hand-is pair c.self.inside.next c.self.inside.top_leaves.next c.args.leaf.index c.self.inside.hand c.in-Some.hand held c.in-Some.is made in
    c.requires.long ∙ ap signature_length (sym c.requires.key) ∙ sym (hand-long pair c.args.leaf.index c.in-Some.hand hand c.spend.ensures.bound)

pub returns-clause-signed : goal.returns-clause-signed
returns-clause-signed c =
    let pair = c.args.leaf.key in
    let same : c.self.inside.secret ≡ pair = ap (λ v. v.key) c.self.view_is ∙ sym c.requires.key in
    let made = ap (λ v. v.made) c.self.view_is ∙ c.requires.made in
    let held : IsHeld pair c.self.inside.next c.self.inside.top_leaves.next c.self.inside.hand =
    subst (λ p. IsHeld p c.self.inside.next c.self.inside.top_leaves.next c.self.inside.hand) same c.self.invariant.5 in
    let hand = hand-is pair c.self.inside.next c.self.inside.top_leaves.next c.args.leaf.index c.self.inside.hand c.in-Some.hand held c.in-Some.is made in
    c.sign.ensures
    ∙ ap (λ i. c.in-Some.hand.front.items ++ lms.signature_of c.in-Some.hand.tree i c.args.message.now) (ap (λ l. l.index) c.spend.ensures.leaf)
    ∙ hand-signs pair c.args.leaf.index c.in-Some.hand c.args.message.now hand
    ∙ ap (λ p. signature_of p c.args.leaf.index c.args.message.now) c.requires.key

pub returns-clause-verifies : goal.returns-clause-verifies
returns-clause-verifies c =
    let pair = c.args.leaf.key in
    let same : c.self.inside.secret ≡ pair = ap (λ v. v.key) c.self.view_is ∙ sym c.requires.key in
    let made = ap (λ v. v.made) c.self.view_is ∙ c.requires.made in
    let held : IsHeld pair c.self.inside.next c.self.inside.top_leaves.next c.self.inside.hand =
    subst (λ p. IsHeld p c.self.inside.next c.self.inside.top_leaves.next c.self.inside.hand) same c.self.invariant.5 in
    let hand = hand-is pair c.self.inside.next c.self.inside.top_leaves.next c.args.leaf.index c.self.inside.hand c.in-Some.hand held c.in-Some.is made in
    let out : c.sign.new.out ≡ signature_of pair c.args.leaf.index c.args.message.now =
    c.sign.ensures
    ∙ ap (λ i. c.in-Some.hand.front.items ++ lms.signature_of c.in-Some.hand.tree i c.args.message.now) (ap (λ l. l.index) c.spend.ensures.leaf)
    ∙ hand-signs pair c.args.leaf.index c.in-Some.hand c.args.message.now hand in
    let profile : is_in_profile pair.ots ≡ true = ap (λ p. is_in_profile p.ots) (sym same) ∙ c.self.invariant.1 in
    let good = pair-verifies pair c.args.leaf.index c.args.message.now c.spend.ensures.bound profile in
    subst (λ p. HssVerifies (public_of p) c.args.message.now c.sign.new.out) c.requires.key
    (subst (λ s. HssVerifies (public_of pair) c.args.message.now s) (sym out) good)

pub returns-clause-top : goal.returns-clause-top
returns-clause-top c =
    let pair = c.args.leaf.key in
    let same : c.self.inside.secret ≡ pair = ap (λ v. v.key) c.self.view_is ∙ sym c.requires.key in
    let made = ap (λ v. v.made) c.self.view_is ∙ c.requires.made in
    let held : IsHeld pair c.self.inside.next c.self.inside.top_leaves.next c.self.inside.hand =
    subst (λ p. IsHeld p c.self.inside.next c.self.inside.top_leaves.next c.self.inside.hand) same c.self.invariant.5 in
    let hand = hand-is pair c.self.inside.next c.self.inside.top_leaves.next c.args.leaf.index c.self.inside.hand c.in-Some.hand held c.in-Some.is made in
    let out : c.sign.new.out ≡ signature_of pair c.args.leaf.index c.args.message.now =
    c.sign.ensures
    ∙ ap (λ i. c.in-Some.hand.front.items ++ lms.signature_of c.in-Some.hand.tree i c.args.message.now) (ap (λ l. l.index) c.spend.ensures.leaf)
    ∙ hand-signs pair c.args.leaf.index c.in-Some.hand c.args.message.now hand in
    let top : TopSigns pair (tree_of pair c.args.leaf.index) c.sign.new.out =
    subst (TopSigns pair (tree_of pair c.args.leaf.index)) (sym out) (top-signs-one-key pair c.args.leaf.index c.args.message.now c.spend.ensures.bound) in
    subst (λ p. TopSigns p (tree_of p c.args.leaf.index) c.sign.new.out) c.requires.key top
