use Rattle.std.proofs.Common.{◌≡◌, ℕ, ◌+◌, List, Option, refl, ap, sym, ◌∙◌, subst, arith}
use Rattle.ff_ids.specs.declared.TheConstants.{MEMBERS}
use Rattle.ff_ids.specs.declared.Group.{Group}
use Rattle.ff_ids.specs.Heals.{Heal}
use Rattle.sign_keys.specs.declared.kinds.Kinds.{Kinds}
use Rattle.node_core.specs.Begins.{IsGroup}
use Rattle.world_rules.specs.Keys.{setting_for}
use Rattle.world_rules.specs.Settings.{Setting}
use Rattle.world_host.specs.Certifying.{Certifying}
use Rattle.world_host.specs.Holding.{IsWorld}
use Rattle.world.specs.Holding.{Kept}
use Rattle.records.specs.declared.keys.Key.TheVariants as keys
use Rattle.world.specs.Opening.{Builds, kinds_with}
use Rattle.world.proofs.LeafLemmas.{has-leaf}
use Rattle.world.proofs.OpeningLemmas.{builds-first, holds-built, is-apart, is-world, mapped-none}
use Rattle.world.proofs.World.open.Goals as goal

pub loop-number-init : goal.loop-number-init
loop-number-init c =
    let kinds : Kinds = kinds_with c.args.ots c.args.tree c.args.bottom in
    let made = c.in_ok-signing.ensures in (
      ap keys.Lms (ap (λ a. a.key) c.new.ensures) ∙ made.public,
      ap (λ a. a.group) c.new.ensures,
      ap (λ a. a.heal) c.new.ensures,
      builds-first c.args.group kinds c.args.heal c.args.nodes.now c.args.liars.now c.in_ok-signing.signing c.in_ok-signing.public _
          (ap (λ k. k.key) (made.key c.args.bottom))
          (ap (λ k. k.next) (made.key c.args.bottom))
          made.public
          c.new.ensures
          c.new-2.ensures.items
          c.new-3.ensures.items
          c.new-4.ensures
          refl
          (mapped-none _ _ c.new-5.ensures.empty)
          c.new-6.ensures
          c.new-7.ensures,
    )

pub add_listed-requires-clause-left : goal.add_listed-requires-clause-left
add_listed-requires-clause-left c =
    let g : Group = c.args.group in
    let kinds : Kinds = kinds_with c.args.ots c.args.tree c.args.bottom in
    let correct : List ℕ = c.args.nodes.now in
    let liars : List ℕ = c.args.liars.now in
    has-leaf g kinds c.args.heal correct liars c.new-member.result c.loop-number.signing c.loop-number.world c.requires.few
    (subst (λ (n : ℕ). Builds (setting_for g kinds c.args.heal correct liars) kinds n c.loop-number.signing c.loop-number.world) (sym c.new-member.ensures) c.loop-number.invariant.3)

pub loop-number-preserved : goal.loop-number-preserved
loop-number-preserved c =
    let g : Group = c.args.group in
    let kinds : Kinds = kinds_with c.args.ots c.args.tree c.args.bottom in
    let correct : List ℕ = c.args.nodes.now in
    let liars : List ℕ = c.args.liars.now in
    let s : Setting = setting_for g kinds c.args.heal correct liars in
    let so = c.loop-number.invariant in
    let a : Certifying = c.loop-number.world.authority in
    let is : s ≡ setting_for a.group kinds a.heal correct liars =
    ap (λ (z : Group). setting_for z kinds c.args.heal correct liars) (sym so.1) ∙ ap (λ (o : Option Heal). setting_for a.group kinds o correct liars) (sym so.2) in
    let here : Builds s kinds c.new-member.result c.loop-number.signing c.loop-number.world =
    subst (λ (n : ℕ). Builds s kinds n c.loop-number.signing c.loop-number.world) (sym c.new-member.ensures) so.3 in (
      c.in_ok-add_listed.ensures.key,
      c.in_ok-add_listed.ensures.group ∙ so.1,
      c.in_ok-add_listed.ensures.heal ∙ so.2,
      subst (λ (n : ℕ). Builds s kinds (n + 1) c.add_listed.new.signing c.add_listed.new.self) c.new-member.ensures (c.in_ok-add_listed.ensures.builds s is c.requires.apart here),
    )

pub returns : goal.returns
returns c =
    let g : Group = c.args.group in
    let kinds : Kinds = kinds_with c.args.ots c.args.tree c.args.bottom in
    let correct : List ℕ = c.args.nodes.now in
    let liars : List ℕ = c.args.liars.now in
    let s : Setting = setting_for g kinds c.args.heal correct liars in
    let v : Kept = c.loop-number.world in
    let so = c.loop-number.invariant in
    let all : c.loop-number.number ≡ MEMBERS = omega (arith, c.loop-number-test.false, c.loop-number.auto) in
    let world : IsWorld s v.authority.group kinds = subst (λ (z : Group). IsWorld s z kinds) (sym so.1) (is-world g kinds c.args.heal correct liars s refl c.requires.group.few c.requires.profile) in
    holds-built s kinds c.loop-number.number c.loop-number.signing v all world (subst IsGroup (sym so.1) c.requires.group) (is-apart g kinds c.args.heal correct liars s refl c.requires.apart) so.3
