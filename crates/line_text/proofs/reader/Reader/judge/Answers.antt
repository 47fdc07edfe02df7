use Rattle.std.proofs.Common.{Ok, rules, subst, ap, ◌∙◌, ◌≡◌, List, ℕ}
use Rattle.line_text.specs.Answers.{AnswersBy, next_line, Progress}
use Rattle.line_text.specs.Frame.{behind, row_line}
use Rattle.line_text.specs.Words.{parts}
use Rattle.line_text.proofs.FrameLemmas.{frame-bad, frame-good, spaces-bad}
use Rattle.line_text.proofs.reader.Reader.judge.Goals as goal

pub returns-in_err-text-clause-answer : goal.returns-in_err-text-clause-answer
returns-in_err-text-clause-answer g c =
    let next = next_line g.F.Form.is_ended g.F.Form.row_for c.args.self.now in
    let ended = c.is_ended.ensures ∙ ap (λ (p : Progress g.row.F.Denot). g.F.Form.is_ended p.form) c.self.view_is in
    let number = ap (λ (p : Progress g.row.F.Denot). p.number) c.self.view_is in
    let refused = frame-bad next c.is_ended.result c.self.inside.number c.args.bytes.now c.in_err-text.field-0.0 ended number c.in_err-text.ensures.refused in
    search (rules, refused)

pub returns-in-Some-clause-answer : goal.returns-in-Some-clause-answer
returns-in-Some-clause-answer g c =
    let next = next_line g.F.Form.is_ended g.F.Form.row_for c.args.self.now in
    let ended = c.is_ended.ensures ∙ ap (λ (p : Progress g.row.F.Denot). g.F.Form.is_ended p.form) c.self.view_is in
    let number = ap (λ (p : Progress g.row.F.Denot). p.number) c.self.view_is in
    let text = c.in_ok-text.text.now in
    let seen = subst (λ (p : Progress g.row.F.Denot). row_line (g.F.Form.row_for p.form (parts text)) (behind (parts text)) ≡ Ok c.in-Some.line) c.self.view_is c.in-Some.ensures.line in
    frame-good next c.is_ended.result c.self.inside.number c.args.bytes.now text ended number c.in_ok-text.ensures.refused c.in_ok-text.ensures.text c.in-Some.ensures.spaced ∙ seen

pub returns-in_err-words-clause-answer : goal.returns-in_err-words-clause-answer
returns-in_err-words-clause-answer g c =
    let next = next_line g.F.Form.is_ended g.F.Form.row_for c.args.self.now in
    let ended = c.is_ended.ensures ∙ ap (λ (p : Progress g.row.F.Denot). g.F.Form.is_ended p.form) c.self.view_is in
    let number = ap (λ (p : Progress g.row.F.Denot). p.number) c.self.view_is in
    let refused = spaces-bad next c.is_ended.result c.self.inside.number c.args.bytes.now c.in_ok-text.text.now c.in_err-words.field-0.0 ended number c.in_ok-text.ensures.refused c.in_ok-text.ensures.text c.in_err-words.ensures.refused in
    search (rules, refused)

pub returns-clause-answer : goal.returns-clause-answer
returns-clause-answer g c =
    let next = next_line g.F.Form.is_ended g.F.Form.row_for c.args.self.now in
    let ended = c.is_ended.ensures ∙ ap (λ (p : Progress g.row.F.Denot). g.F.Form.is_ended p.form) c.self.view_is in
    let number = ap (λ (p : Progress g.row.F.Denot). p.number) c.self.view_is in
    let text = c.in_ok-text.text.now in
    let good = frame-good next c.is_ended.result c.self.inside.number c.args.bytes.now text ended number c.in_ok-text.ensures.refused c.in_ok-text.ensures.text c.in_ok-words.ensures.spaced in
    let found = subst (λ (p : Progress g.row.F.Denot). AnswersBy g.F.Form.takes_memory (row_line (g.F.Form.row_for p.form c.in_ok-words.words) (behind c.in_ok-words.words)) c.judge.result) c.self.view_is c.judge.ensures in
    let here = subst (λ (ws : List (List ℕ)). AnswersBy g.F.Form.takes_memory (row_line (next.row ws) (behind ws)) c.judge.result) c.in_ok-words.ensures.words found in
    rw good here
