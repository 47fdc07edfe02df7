use Rattle.std.proofs.Common.{◌≡◌, ℕ, Some, length, refl, subst, sym, ap, ◌∙◌, arith}
use Rattle.std.specs.Prelude.{codes}
use Rattle.std.proofs.lemmas.Bool.{false≢true}
use Rattle.ff_ids.specs.Masks.{all_rings}
use Rattle.ff_ids.specs.declared.Group.{Group}
use Rattle.ff_ids.specs.declared.Mask.{Mask}
use Rattle.secrets.specs.Secrets.{key_from, store_tag, world_secret}
use Rattle.sign_keys.specs.Keys.{IsNew, KeySecret, public_key}
use Rattle.world_host.specs.Held.{HoldsDisk}
use Rattle.world_rules.specs.Disks.{made_disk}
use Rattle.world_rules.specs.Keys.{owner_key}
use Rattle.world_host.proofs.OpenLemmas.{always-made, made-so}
use Rattle.world_host.proofs.WorldLemmas.{group-is, indexes-are, made-untaken, own-public}
use Rattle.world_host.proofs.host.Host.open.Goals as goal

pub unreachable-requires : goal.unreachable-requires
unreachable-requires c =
    let long : length c.store_tag-tag.result ≡ 32 = omega arith in
    false≢true (sym (c.if-is_err.ensures.value
    ∙ always-made c.store_tag-tag.result (codes "store") c.index_count_of.result c.in_ok-disk.disk c.make.new.disk c.all_rings.result c.make.result c.in_ok-disk.ensures long c.all_rings.ensures.small c.make.ensures.taken c.make.ensures.follows))

pub invariant_of-result : goal.invariant_of-result
invariant_of-result c =
    let new : IsNew c.in_ok-key.key (owner_key c.args.group.now c.args.kinds (Some c.args.member)) = subst (λ (n : ℕ). IsNew c.in_ok-key.key (key_from c.args.kinds (world_secret c.args.group.now.tag n))) c.get.ensures.value c.in_ok-key.ensures in (
      c.requires.profile,
      made-untaken c.args.group.now c.args.kinds c.args.member c.in_ok-key.key c.public-public.result new c.public-public.ensures,
      tt,
    )

pub returns-clause-public : goal.returns-clause-public
returns-clause-public c =
    let new : IsNew c.in_ok-key.key (owner_key c.args.group.now c.args.kinds (Some c.args.member)) = subst (λ (n : ℕ). IsNew c.in_ok-key.key (key_from c.args.kinds (world_secret c.args.group.now.tag n))) c.get.ensures.value c.in_ok-key.ensures in
    c.public-public.ensures ∙ ap public_key new.is

pub returns-clause-holds : goal.returns-clause-holds
returns-clause-holds c = λ s w.
    let g : Group = c.args.group.now in
    let same : s.group ≡ g = group-is s g c.args.kinds w in
    let new : IsNew c.in_ok-key.key (owner_key g c.args.kinds (Some c.args.member)) = subst (λ (n : ℕ). IsNew c.in_ok-key.key (key_from c.args.kinds (world_secret g.tag n))) c.get.ensures.value c.in_ok-key.ensures in
    let public : c.public-public.result ≡ public_key (owner_key g c.args.kinds (Some c.args.member)) = c.public-public.ensures ∙ ap public_key new.is in
    let leaves : c.index_count_of.result ≡ s.indexes = c.index_count_of.ensures.value ∙ sym (indexes-are s g c.args.kinds w) in
    let long : length c.store_tag-tag.result ≡ 32 = omega arith in
    let mask : c.all_rings.result ≡ record { 0 = all_rings s.group.t } = c.all_rings.ensures.value ∙ ap (λ (x : Group). record { 0 = all_rings x.t }) (sym same) in
    let made = made-so c.store_tag-tag.result (codes "store") c.index_count_of.result c.in_ok-disk.disk c.make.new.disk c.all_rings.result c.make.result c.in_ok-disk.ensures long c.all_rings.ensures.small (sym c.if-is_err.ensures.value) c.make.ensures.follows in
    record {
      kinds_are = refl;
      public = public ∙ sym (own-public s g c.args.kinds c.args.member w);
      key = record { is = new.is ∙ ap (λ (x : Group). owner_key x c.args.kinds (Some c.args.member)) (sym same); first = new.first; one = new.one; unmade = new.unmade };
      tag = c.store_tag-tag.ensures ∙ ap (λ (k : KeySecret). store_tag g k) new.is ∙ ap (λ (x : Group). store_tag x (owner_key x c.args.kinds (Some c.args.member))) (sym same);
      disk = subst (λ (n : ℕ). HoldsDisk c.store_tag-tag.result n c.make.new.disk (made_disk (record { 0 = all_rings s.group.t }))) leaves
          (subst (λ (m : Mask). HoldsDisk c.store_tag-tag.result c.index_count_of.result c.make.new.disk (made_disk m)) mask made);
      lives = refl;
      current = tt;
      signed = c.new.ensures.items;
    }
