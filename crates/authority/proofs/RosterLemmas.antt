-- A roster that is whole sets something up.
use Rattle.std.proofs.Common.{◌≡◌, ℕ, List, ◌∷◌, Some, None, Ok, refl, sym, subst, ◌∙◌, arith}
use Rattle.line_text.specs.Answers.{Progress, moved}
use Rattle.line_text.proofs.ShapeLemmas.{all-in_range}
use Rattle.ff_ids.specs.declared.Group.{Group}
use Rattle.schedule_texts.specs.declared.line.RosterLine.{RosterLine}
use Rattle.schedule_texts.specs.declared.line.RosterLine.TheVariants as asked
use Rattle.schedule_texts.specs.declared.roster.RosterText.{RosterText}
use Rattle.schedule_texts.specs.declared.roster.RosterText.TheVariants as roster
use Rattle.schedule_texts.specs.RosterGrammar.{IsRoster}
use Rattle.schedule_texts.specs.RosterLaws.{roster-kinds, roster-spelled}
use Rattle.schedule_texts.specs.Shared.{IsGroup, group_shape, group_values}
use Rattle.schedule_texts.proofs.FieldLemmas.{group-is}
use Rattle.play.specs.Plays.{IoState}
use Rattle.sign_keys.specs.declared.kinds.Kinds.{Kinds}
use Rattle.whole_text.specs.Gathered.{IsWhole, lines_from, unread}
use Rattle.whole_text.proofs.GatherLemmas.{line-is}
use Rattle.whole_text.proofs.ShapeLemmas.{IsNext, each-line, next-line}
use Rattle.authority.specs.declared.setting.Setting.{Setting}
use Rattle.authority.specs.Settings.{roster_judging, roster_setting}
use Rattle.authority.specs.Texts as Text
use Rattle.authority.specs.Texts.{HasPort, HavePorts}

-- the lines set this up
pub record SetsUp (lines : List RosterLine) : Type 0 where
  pub setting : Setting
  pub is : roster_setting lines ≡ Some setting
  pub group : IsGroup setting.group
  pub one : setting.kinds.bottom ≡ None

-- a line that stands here
abbrev At : RosterText → RosterLine → Type 0
At form l = (ws : List (List ℕ)) × IsRoster form ws l

at : (p : Progress RosterText) (seen : List (List ℕ)) (lines : List RosterLine) (n : IsNext roster_judging p seen lines) → At p.form n.line
at p seen lines n = let h = line-is roster_judging IsRoster roster-spelled p n.bytes n.line n.is in (h.first ∷ h.others, h.spells)

behind-kinds : (g : Group) (k : Kinds) (l : RosterLine) (more : List RosterLine) → IsGroup g → k.bottom ≡ None → At roster.Kinded l → SetsUp (asked.Header ∷ asked.Group g ∷ asked.Kinds k ∷ l ∷ more)
behind-kinds g k (asked.Secret s) more group one is = record { setting = record { group = g; kinds = k; secret = s }; is = refl; group = group; one = one }
behind-kinds g k _ more group one is = absurd (let e = is.1.stands in cc)

behind-group : (g : Group) (l : RosterLine) (rest : List (List ℕ)) (more : List RosterLine) → IsGroup g → At roster.Grouped l → lines_from roster_judging (moved roster_judging.after (record { number = 3; form = roster.Grouped }) l) rest ≡ Ok more → SetsUp (asked.Header ∷ asked.Group g ∷ l ∷ more)
behind-group g (asked.Kinds k) rest more group is later =
    let n = next-line roster_judging (record { number = 4; form = roster.Kinded }) rest more later refl in
    subst (λ ls. SetsUp (asked.Header ∷ asked.Group g ∷ asked.Kinds k ∷ ls)) (sym n.lines_are) (behind-kinds g k n.line n.more group (roster-kinds roster.Grouped is.0 k is.1) (at _ _ _ n))
behind-group g _ rest more group is later = absurd (let e = is.1.stands in cc)

behind-header : (l : RosterLine) (rest : List (List ℕ)) (more : List RosterLine) → At roster.Headed l → lines_from roster_judging (moved roster_judging.after (record { number = 2; form = roster.Headed }) l) rest ≡ Ok more → SetsUp (asked.Header ∷ l ∷ more)
behind-header (asked.Group g) rest more is later =
    let n = next-line roster_judging (record { number = 3; form = roster.Grouped }) rest more later refl in
    subst (λ ls. SetsUp (asked.Header ∷ asked.Group g ∷ ls)) (sym n.lines_are) (behind-group g n.line n.rest n.more (group-is g (all-in_range group_shape is.1.args (group_values g) is.1.spells)) (at _ _ _ n) n.later)
behind-header _ rest more is later = absurd (let e = is.1.stands in cc)

behind-start : (l : RosterLine) (rest : List (List ℕ)) (more : List RosterLine) → At roster.Start l → lines_from roster_judging (moved roster_judging.after (unread roster.Start) l) rest ≡ Ok more → SetsUp (l ∷ more)
behind-start asked.Header rest more is later =
    let n = next-line roster_judging (record { number = 2; form = roster.Headed }) rest more later refl in
    subst (λ ls. SetsUp (asked.Header ∷ ls)) (sym n.lines_are) (behind-header n.line n.rest n.more (at _ _ _ n) n.later)
behind-start _ rest more is later = absurd (let e = is.1.stands in cc)

pub sets-up : (seen : List (List ℕ)) (lines : List RosterLine) → lines_from roster_judging (unread roster.Start) seen ≡ Ok lines → SetsUp lines
sets-up seen lines e =
    let n = next-line roster_judging (unread roster.Start) seen lines e refl in
    subst SetsUp (sym n.lines_are) (behind-start n.line n.rest n.more (at _ _ _ n) n.later)

has-port : (form : RosterText) (ws : List (List ℕ)) (l : RosterLine) → IsRoster form ws l → HasPort l
has-port form ws (asked.Cert c) is = omega (arith, is.spells.rest.is.low)
has-port form ws _ is = tt

pub have-ports : (seen : List (List ℕ)) (lines : List RosterLine) → lines_from roster_judging (unread roster.Start) seen ≡ Ok lines → HavePorts lines
have-ports seen lines e = each-line roster_judging IsRoster roster-spelled HasPort has-port seen (unread roster.Start) lines e

pub roster-read : (was now : IoState) (lines : List RosterLine) (s : Setting) → IsWhole roster_judging roster.Start was now lines → roster_setting lines ≡ Some s → Text.IsRoster was now s lines
roster-read was now lines s whole is =
    let up = sets-up whole.seen_lines lines whole.are in
    let one : Some up.setting ≡ Some s = sym up.is ∙ is in
    let same : up.setting ≡ s = cc in
    record { whole = whole; setting = is; group = subst (λ x. IsGroup x.group) same up.group; one = subst (λ x. x.kinds.bottom ≡ None) same up.one; ports = have-ports whole.seen_lines lines whole.are }

pub never-unset : (was now : IoState) (lines : List RosterLine) → IsWhole roster_judging roster.Start was now lines → roster_setting lines ≡ None → ⊥
never-unset was now lines whole is =
    let up = sets-up whole.seen_lines lines whole.are in
    let one : Some up.setting ≡ None = sym up.is ∙ is in cc
