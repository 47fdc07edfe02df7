use Rattle.std.proofs.Common.{◌∷◌, Ok, sym, subst, rules}
use Rattle.line_text.specs.Answers.{next_line, Progress}
use Rattle.line_text.specs.Frame.{judge}
use Rattle.line_text.proofs.FrameLemmas.{answer-refuses, answer-that, judge-spelled, judge-taken}
use Rattle.line_text.proofs.reader.Reader.line.Goals as goal

pub returns-in_err-line-clause-refused : goal.returns-in_err-line-clause-refused
returns-in_err-line-clause-refused g c =
    let next = next_line g.F.Form.is_ended g.F.Form.row_for c.args.self.now in
    let x = answer-refuses g.F.Form.takes_memory next c.args.bytes.now c.judge.result c.judge.ensures.answer in
    search (rules, x)

pub returns-in_err-line-clause-taken : goal.returns-in_err-line-clause-taken
returns-in_err-line-clause-taken g c l h =
    let next = next_line g.F.Form.is_ended g.F.Form.row_for c.args.self.now in
    let s = c.args.self.now.form in
    let sound = subst (λ (p : Progress g.row.F.Denot). g.F.Form.is_sound p.form) c.self.view_is c.self.invariant.1 in
    let judged = judge-taken next (g.F.Form.spells s) (λ first others m k. g.met.F.Form.taken s first others m sound k) c.args.bytes.now l h in
    let x = answer-that g.F.Form.takes_memory (judge next c.args.bytes.now) l c.judge.result judged c.judge.ensures.answer in
    search (rules, x)

pub advance-requires-clause-stands : goal.advance-requires-clause-stands
advance-requires-clause-stands g c =
    let next = next_line g.F.Form.is_ended g.F.Form.row_for c.args.self.now in
    let s = c.args.self.now.form in
    let line = judge-spelled next (g.F.Form.spells s) (λ first others m k. g.met.F.Form.spelled s first others m k) c.args.bytes.now c.in_ok-line.line c.in_ok-line.ensures.answer in
    (line.first ∷ line.others, subst (λ (p : Progress g.row.F.Denot). g.F.Form.spells p.form (line.first ∷ line.others) c.in_ok-line.line) (sym c.self.view_is) line.spells)

pub returns-clause-refused : goal.returns-clause-refused
returns-clause-refused g c =
    let next = next_line g.F.Form.is_ended g.F.Form.row_for c.args.self.now in
    answer-refuses g.F.Form.takes_memory next c.args.bytes.now (Ok c.in_ok-line.line) c.in_ok-line.ensures.answer

pub returns-clause-line : goal.returns-clause-line
returns-clause-line g c =
    let next = next_line g.F.Form.is_ended g.F.Form.row_for c.args.self.now in
    let s = c.args.self.now.form in
    judge-spelled next (g.F.Form.spells s) (λ first others m k. g.met.F.Form.spelled s first others m k) c.args.bytes.now c.in_ok-line.line c.in_ok-line.ensures.answer

pub returns-clause-taken : goal.returns-clause-taken
returns-clause-taken g c l h =
    let next = next_line g.F.Form.is_ended g.F.Form.row_for c.args.self.now in
    let s = c.args.self.now.form in
    let sound = subst (λ (p : Progress g.row.F.Denot). g.F.Form.is_sound p.form) c.self.view_is c.self.invariant.1 in
    let judged = judge-taken next (g.F.Form.spells s) (λ first others m k. g.met.F.Form.taken s first others m sound k) c.args.bytes.now l h in
    answer-that g.F.Form.takes_memory (judge next c.args.bytes.now) l (Ok c.in_ok-line.line) judged c.in_ok-line.ensures.answer
