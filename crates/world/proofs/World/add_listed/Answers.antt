use Rattle.std.proofs.Common.{◌≡◌, ℕ, ◌+◌, true, false, List, sym, ◌∙◌}
use Rattle.sign_keys.specs.declared.kinds.Kinds.{Kinds}
use Rattle.world_rules.specs.Settings.{is_liar, is_node}
use Rattle.world_host.specs.Holding.{IsWorld}
use Rattle.world.specs.Holding.{Kept}
use Rattle.world.specs.Opening.{AddsLiar, AddsNode, Builds}
use Rattle.world.proofs.LeafLemmas.{listed-liar, listed-node}
use Rattle.world.proofs.OpeningLemmas.{both-ok, builds-liar, builds-node, builds-none, is-apart, is-liar-made, is-node-made, is-world}
use Rattle.world.proofs.World.add_listed.Goals as goal

pub add_node-requires-clause-left : goal.add_node-requires-clause-left
add_node-requires-clause-left c = c.requires.left (listed-node c.args.nodes.now c.args.liars.now c.args.member (sym c.contains.ensures.value ∙ c.if-contains.true))

pub add_liar-requires-clause-left : goal.add_liar-requires-clause-left
add_liar-requires-clause-left c = c.requires.left (listed-liar c.args.nodes.now c.args.liars.now c.args.member (sym c.contains-2.ensures.value ∙ c.if-contains-2.true))

pub returns-then-contains-clause-builds : goal.returns-then-contains-clause-builds
returns-then-contains-clause-builds c = λ s is apart h.
    let v : Kept = c.args.self.now in
    let kinds : Kinds = c.args.kinds in
    let correct : List ℕ = c.args.nodes.now in
    let liars : List ℕ = c.args.liars.now in
    let m : ℕ = c.args.member in
    let world : IsWorld s v.authority.group kinds = is-world v.authority.group kinds v.authority.heal correct liars s is c.requires.few c.requires.profile in
    let node : is_node s m ≡ true = is-node-made v.authority.group kinds v.authority.heal correct liars s is m true (sym c.if-contains.true ∙ c.contains.ensures.value) in
    let honest : is_liar s m ≡ false = is-apart v.authority.group kinds v.authority.heal correct liars s is apart m node in
    both-ok c.add_node.result (AddsNode v c.add_node.new.self c.args.signing.now kinds m) (c.add_node.new.signing ≡ record c.args.signing.now { next = c.args.signing.now.next + 1 }) (Builds s kinds (m + 1) c.add_node.new.signing c.add_node.new.self)
    (λ adds step. builds-node s kinds m c.args.signing.now c.add_node.new.signing v c.add_node.new.self world node honest adds step h) c.add_node.ensures.ok c.add_node.ensures.next

pub returns-then-contains-2-clause-builds : goal.returns-then-contains-2-clause-builds
returns-then-contains-2-clause-builds c = λ s is apart h.
    let v : Kept = c.args.self.now in
    let kinds : Kinds = c.args.kinds in
    let correct : List ℕ = c.args.nodes.now in
    let liars : List ℕ = c.args.liars.now in
    let m : ℕ = c.args.member in
    let world : IsWorld s v.authority.group kinds = is-world v.authority.group kinds v.authority.heal correct liars s is c.requires.few c.requires.profile in
    let other : is_node s m ≡ false = is-node-made v.authority.group kinds v.authority.heal correct liars s is m false (sym c.if-contains.false ∙ c.contains.ensures.value) in
    let lies : is_liar s m ≡ true = is-liar-made v.authority.group kinds v.authority.heal correct liars s is m true (sym c.if-contains-2.true ∙ c.contains-2.ensures.value) in
    both-ok c.add_liar.result (AddsLiar v c.add_liar.new.self c.args.signing.now kinds m) (c.add_liar.new.signing ≡ record c.args.signing.now { next = c.args.signing.now.next + 1 }) (Builds s kinds (m + 1) c.add_liar.new.signing c.add_liar.new.self)
    (λ adds step. builds-liar s kinds m c.args.signing.now c.add_liar.new.signing v c.add_liar.new.self world other lies adds step h) c.add_liar.ensures.ok c.add_liar.ensures.next

pub returns-clause-builds : goal.returns-clause-builds
returns-clause-builds c = λ s is apart h.
    let v : Kept = c.args.self.now in
    let kinds : Kinds = c.args.kinds in
    let correct : List ℕ = c.args.nodes.now in
    let liars : List ℕ = c.args.liars.now in
    let m : ℕ = c.args.member in
    let other : is_node s m ≡ false = is-node-made v.authority.group kinds v.authority.heal correct liars s is m false (sym c.if-contains.false ∙ c.contains.ensures.value) in
    let honest : is_liar s m ≡ false = is-liar-made v.authority.group kinds v.authority.heal correct liars s is m false (sym c.if-contains-2.false ∙ c.contains-2.ensures.value) in
    builds-none s kinds m c.args.signing.now v other honest h
