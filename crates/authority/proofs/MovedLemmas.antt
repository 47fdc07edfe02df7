-- A text that moves a store, and that is whole, sets something up.
use Rattle.std.proofs.Common.{◌≡◌, ℕ, true, List, ◌∷◌, Some, None, Ok, refl, sym, subst, ◌∙◌}
use Rattle.line_text.specs.Answers.{Progress, moved}
use Rattle.line_text.proofs.ShapeLemmas.{all-in_range}
use Rattle.ff_ids.specs.declared.Group.{Group}
use Rattle.schedule_texts.specs.declared.line.SecretLine.{SecretLine}
use Rattle.schedule_texts.specs.declared.line.SecretLine.TheVariants as told
use Rattle.schedule_texts.specs.declared.migrate.MigrateText.{MigrateText}
use Rattle.schedule_texts.specs.declared.migrate.MigrateText.TheVariants as migrate
use Rattle.schedule_texts.specs.declared.secret.SecretText.TheVariants as secret
use Rattle.schedule_texts.specs.MigrateGrammar.{IsMigrate}
use Rattle.schedule_texts.specs.MigrateLaws.{IsAnother, group-whole, migrate-kinds, migrate-spelled}
use Rattle.schedule_texts.specs.Shared.{IsGroup, group_shape, group_values}
use Rattle.schedule_texts.proofs.FieldLemmas.{group-is}
use Rattle.play.specs.Plays.{IoState}
use Rattle.sign_keys.specs.declared.kinds.Kinds.{Kinds}
use Rattle.sign_keys.specs.Kinds.{is_in_profile}
use Rattle.whole_text.specs.Gathered.{IsWhole, lines_from, unread}
use Rattle.whole_text.proofs.GatherLemmas.{line-is}
use Rattle.whole_text.proofs.ShapeLemmas.{IsNext, next-line}
use Rattle.authority.specs.declared.moving.Moving.{Moving}
use Rattle.authority.specs.Moved.{IsMigration, migrate_judging, migrate_setting}

-- the lines set this up
pub record SetsUp (lines : List SecretLine) : Type 0 where
  pub moving : Moving
  pub is : migrate_setting lines ≡ Some moving
  pub left : IsGroup moving.from
  pub group : IsGroup moving.setting.group
  pub another : IsAnother moving.from moving.setting.group
  pub kinds : is_in_profile moving.setting.kinds ≡ true

-- a line that stands here
abbrev At : MigrateText → SecretLine → Type 0
At form l = (ws : List (List ℕ)) × IsMigrate form ws l

at : (p : Progress MigrateText) (seen : List (List ℕ)) (lines : List SecretLine) (n : IsNext migrate_judging p seen lines) → At p.form n.line
at p seen lines n = let h = line-is migrate_judging IsMigrate migrate-spelled p n.bytes n.line n.is in (h.first ∷ h.others, h.spells)

-- two groups of which the second is another
record AreGroups (from g : Group) : Type 0 where
  left : IsGroup from
  group : IsGroup g
  another : IsAnother from g

behind-kinds : (from g : Group) (k : Kinds) (l : SecretLine) (more : List SecretLine) → AreGroups from g → is_in_profile k ≡ true → At (migrate.Moved secret.Kinded) l → SetsUp (told.Header ∷ told.Group from ∷ told.Group g ∷ told.Kinds k ∷ l ∷ more)
behind-kinds from g k (told.Secret s) more are kinds is = record {
  moving = record { from = from; setting = record { group = g; kinds = k; secret = s } };
  is = refl;
  left = are.left;
  group = are.group;
  another = are.another;
  kinds = kinds;
}
behind-kinds from g k _ more are kinds is = absurd (let e = is.1.stands in cc)

behind-second : (from g : Group) (l : SecretLine) (rest : List (List ℕ)) (more : List SecretLine) → AreGroups from g → At (migrate.Moved secret.Grouped) l
    → lines_from migrate_judging (moved migrate_judging.after (record { number = 4; form = migrate.Moved secret.Grouped }) l) rest ≡ Ok more → SetsUp (told.Header ∷ told.Group from ∷ told.Group g ∷ l ∷ more)
behind-second from g (told.Kinds k) rest more are is later =
    let n = next-line migrate_judging (record { number = 5; form = migrate.Moved secret.Kinded }) rest more later refl in
    subst (λ ls. SetsUp (told.Header ∷ told.Group from ∷ told.Group g ∷ told.Kinds k ∷ ls)) (sym n.lines_are) (behind-kinds from g k n.line n.more are (migrate-kinds (migrate.Moved secret.Grouped) is.0 k is.1) (at _ _ _ n))
behind-second from g _ rest more are is later = absurd (let e = is.1.stands in cc)

behind-first : (from : Group) (l : SecretLine) (rest : List (List ℕ)) (more : List SecretLine) → IsGroup from → At (migrate.Left from) l
    → lines_from migrate_judging (moved migrate_judging.after (record { number = 3; form = migrate.Left from }) l) rest ≡ Ok more → SetsUp (told.Header ∷ told.Group from ∷ l ∷ more)
behind-first from (told.Group g) rest more group is later =
    let n = next-line migrate_judging (record { number = 4; form = migrate.Moved secret.Grouped }) rest more later refl in
    let are : AreGroups from g = record {
      left = group;
      group = group-is g (all-in_range group_shape is.1.args (group_values g) is.1.spells);
      another = group-whole from g is.1.whole;
    } in
    subst (λ ls. SetsUp (told.Header ∷ told.Group from ∷ told.Group g ∷ ls)) (sym n.lines_are) (behind-second from g n.line n.rest n.more are (at _ _ _ n) n.later)
behind-first from _ rest more group is later = absurd (let e = is.1.stands in cc)

behind-header : (l : SecretLine) (rest : List (List ℕ)) (more : List SecretLine) → At migrate.Headed l → lines_from migrate_judging (moved migrate_judging.after (record { number = 2; form = migrate.Headed }) l) rest ≡ Ok more → SetsUp (told.Header ∷ l ∷ more)
behind-header (told.Group g) rest more is later =
    let n = next-line migrate_judging (record { number = 3; form = migrate.Left g }) rest more later refl in
    subst (λ ls. SetsUp (told.Header ∷ told.Group g ∷ ls)) (sym n.lines_are) (behind-first g n.line n.rest n.more (group-is g (all-in_range group_shape is.1.args (group_values g) is.1.spells)) (at _ _ _ n) n.later)
behind-header _ rest more is later = absurd (let e = is.1.stands in cc)

behind-start : (l : SecretLine) (rest : List (List ℕ)) (more : List SecretLine) → At migrate.Start l → lines_from migrate_judging (moved migrate_judging.after (unread migrate.Start) l) rest ≡ Ok more → SetsUp (l ∷ more)
behind-start told.Header rest more is later =
    let n = next-line migrate_judging (record { number = 2; form = migrate.Headed }) rest more later refl in
    subst (λ ls. SetsUp (told.Header ∷ ls)) (sym n.lines_are) (behind-header n.line n.rest n.more (at _ _ _ n) n.later)
behind-start _ rest more is later = absurd (let e = is.1.stands in cc)

pub sets-up : (seen : List (List ℕ)) (lines : List SecretLine) → lines_from migrate_judging (unread migrate.Start) seen ≡ Ok lines → SetsUp lines
sets-up seen lines e =
    let n = next-line migrate_judging (unread migrate.Start) seen lines e refl in
    subst SetsUp (sym n.lines_are) (behind-start n.line n.rest n.more (at _ _ _ n) n.later)

pub migration-read : (was now : IoState) (lines : List SecretLine) (m : Moving) → IsWhole migrate_judging migrate.Start was now lines → migrate_setting lines ≡ Some m → IsMigration was now m
migration-read was now lines m whole is =
    let up = sets-up whole.seen_lines lines whole.are in
    let one : Some up.moving ≡ Some m = sym up.is ∙ is in
    let same : up.moving ≡ m = cc in
    record {
      lines = lines;
      whole = whole;
      moving = is;
      left = subst (λ x. IsGroup x.from) same up.left;
      group = subst (λ x. IsGroup x.setting.group) same up.group;
      another = subst (λ x. IsAnother x.from x.setting.group) same up.another;
      kinds = subst (λ x. is_in_profile x.setting.kinds ≡ true) same up.kinds;
    }

pub never-unset : (was now : IoState) (lines : List SecretLine) → IsWhole migrate_judging migrate.Start was now lines → migrate_setting lines ≡ None → ⊥
never-unset was now lines whole is =
    let up = sets-up whole.seen_lines lines whole.are in
    let one : Some up.moving ≡ None = sym up.is ∙ is in cc
