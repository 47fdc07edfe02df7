-- A secret's text that is whole sets something up.
use Rattle.std.proofs.Common.{◌≡◌, ℕ, true, List, ◌∷◌, Some, None, Ok, refl, sym, subst, ◌∙◌}
use Rattle.line_text.specs.Answers.{Progress, moved}
use Rattle.line_text.proofs.ShapeLemmas.{all-in_range}
use Rattle.ff_ids.specs.declared.Group.{Group}
use Rattle.schedule_texts.specs.declared.line.SecretLine.{SecretLine}
use Rattle.schedule_texts.specs.declared.line.SecretLine.TheVariants as told
use Rattle.schedule_texts.specs.declared.secret.SecretText.{SecretText}
use Rattle.schedule_texts.specs.declared.secret.SecretText.TheVariants as secret
use Rattle.schedule_texts.specs.SecretGrammar.{IsSecret}
use Rattle.schedule_texts.specs.SecretLaws.{secret-kinds, secret-spelled}
use Rattle.schedule_texts.specs.Shared.{IsGroup, group_shape, group_values}
use Rattle.schedule_texts.proofs.FieldLemmas.{group-is}
use Rattle.play.specs.Plays.{IoState}
use Rattle.sign_keys.specs.declared.kinds.Kinds.{Kinds}
use Rattle.sign_keys.specs.Kinds.{is_in_profile}
use Rattle.whole_text.specs.Gathered.{IsWhole, lines_from, unread}
use Rattle.whole_text.proofs.GatherLemmas.{line-is}
use Rattle.whole_text.proofs.ShapeLemmas.{IsNext, next-line}
use Rattle.authority.specs.declared.setting.Setting.{Setting}
use Rattle.authority.specs.Settings.{secret_judging, secret_setting}
use Rattle.authority.specs.Texts as Text

-- the lines set this up
pub record SetsUp (lines : List SecretLine) : Type 0 where
  pub setting : Setting
  pub is : secret_setting lines ≡ Some setting
  pub group : IsGroup setting.group
  pub kinds : is_in_profile setting.kinds ≡ true

-- a line that stands here
abbrev At : SecretText → SecretLine → Type 0
At form l = (ws : List (List ℕ)) × IsSecret form ws l

at : (p : Progress SecretText) (seen : List (List ℕ)) (lines : List SecretLine) (n : IsNext secret_judging p seen lines) → At p.form n.line
at p seen lines n = let h = line-is secret_judging IsSecret secret-spelled p n.bytes n.line n.is in (h.first ∷ h.others, h.spells)

behind-kinds : (g : Group) (k : Kinds) (l : SecretLine) (more : List SecretLine) → IsGroup g → is_in_profile k ≡ true → At secret.Kinded l → SetsUp (told.Header ∷ told.Group g ∷ told.Kinds k ∷ l ∷ more)
behind-kinds g k (told.Secret s) more group kinds is = record { setting = record { group = g; kinds = k; secret = s }; is = refl; group = group; kinds = kinds }
behind-kinds g k _ more group kinds is = absurd (let e = is.1.stands in cc)

behind-group : (g : Group) (l : SecretLine) (rest : List (List ℕ)) (more : List SecretLine) → IsGroup g → At secret.Grouped l → lines_from secret_judging (moved secret_judging.after (record { number = 3; form = secret.Grouped }) l) rest ≡ Ok more → SetsUp (told.Header ∷ told.Group g ∷ l ∷ more)
behind-group g (told.Kinds k) rest more group is later =
    let n = next-line secret_judging (record { number = 4; form = secret.Kinded }) rest more later refl in
    subst (λ ls. SetsUp (told.Header ∷ told.Group g ∷ told.Kinds k ∷ ls)) (sym n.lines_are) (behind-kinds g k n.line n.more group (secret-kinds secret.Grouped is.0 k is.1) (at _ _ _ n))
behind-group g _ rest more group is later = absurd (let e = is.1.stands in cc)

behind-header : (l : SecretLine) (rest : List (List ℕ)) (more : List SecretLine) → At secret.Headed l → lines_from secret_judging (moved secret_judging.after (record { number = 2; form = secret.Headed }) l) rest ≡ Ok more → SetsUp (told.Header ∷ l ∷ more)
behind-header (told.Group g) rest more is later =
    let n = next-line secret_judging (record { number = 3; form = secret.Grouped }) rest more later refl in
    subst (λ ls. SetsUp (told.Header ∷ told.Group g ∷ ls)) (sym n.lines_are) (behind-group g n.line n.rest n.more (group-is g (all-in_range group_shape is.1.args (group_values g) is.1.spells)) (at _ _ _ n) n.later)
behind-header _ rest more is later = absurd (let e = is.1.stands in cc)

behind-start : (l : SecretLine) (rest : List (List ℕ)) (more : List SecretLine) → At secret.Start l → lines_from secret_judging (moved secret_judging.after (unread secret.Start) l) rest ≡ Ok more → SetsUp (l ∷ more)
behind-start told.Header rest more is later =
    let n = next-line secret_judging (record { number = 2; form = secret.Headed }) rest more later refl in
    subst (λ ls. SetsUp (told.Header ∷ ls)) (sym n.lines_are) (behind-header n.line n.rest n.more (at _ _ _ n) n.later)
behind-start _ rest more is later = absurd (let e = is.1.stands in cc)

pub sets-up : (seen : List (List ℕ)) (lines : List SecretLine) → lines_from secret_judging (unread secret.Start) seen ≡ Ok lines → SetsUp lines
sets-up seen lines e =
    let n = next-line secret_judging (unread secret.Start) seen lines e refl in
    subst SetsUp (sym n.lines_are) (behind-start n.line n.rest n.more (at _ _ _ n) n.later)

pub secret-read : (was now : IoState) (lines : List SecretLine) (s : Setting) → IsWhole secret_judging secret.Start was now lines → secret_setting lines ≡ Some s → Text.IsSecret was now s
secret-read was now lines s whole is =
    let up = sets-up whole.seen_lines lines whole.are in
    let one : Some up.setting ≡ Some s = sym up.is ∙ is in
    let same : up.setting ≡ s = cc in
    record { lines = lines; whole = whole; setting = is; group = subst (λ x. IsGroup x.group) same up.group; kinds = subst (λ x. is_in_profile x.kinds ≡ true) same up.kinds }

pub never-unset : (was now : IoState) (lines : List SecretLine) → IsWhole secret_judging secret.Start was now lines → secret_setting lines ≡ None → ⊥
never-unset was now lines whole is =
    let up = sets-up whole.seen_lines lines whole.are in
    let one : Some up.setting ≡ None = sym up.is ∙ is in cc
