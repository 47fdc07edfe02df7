use Rattle.std.proofs.Common.{[], ◌∷◌, sym, subst}
use Rattle.line_text.specs.declared.bad_word.BadWord.{BadWord}
use Rattle.line_text.specs.Answers.{Progress}
use Rattle.line_text.proofs.TableLemmas.{table-in_range, table-stands}
use Rattle.schedule_direct.specs.declared.direct.Direct.{Direct}
use Rattle.schedule_direct.specs.Rows.{direct_table}
use Rattle.text_trace.specs.Trace.{Steps}
use Rattle.replay.specs.Playing.{Owes}
use Rattle.replay.proofs.LineLemmas.{judged-fed, line-steps, read-starved, told-starved}
use Rattle.replay.proofs.PlaceLemmas.{fits, placed-after}
use Rattle.replay.proofs.player.PlayerScript.line.Goals as goal

pub tell-requires-clause-fits : goal.tell-requires-clause-fits
tell-requires-clause-fits c =
    let owes = c.requires.owing.is in
    let d = c.args.self.now.lines.form in
    let l = c.in-Ok.ensures.line in
    let ws = l.first ∷ l.others in
    fits c.args.self.now.lines.form c.args.self.now.lines.number c.args.self.now.life owes.recorded c.in-Ok.line owes.plays owes.placed (table-stands direct_table d ws c.in-Ok.line l.spells) (table-in_range direct_table d ws c.in-Ok.line l.spells) l.few

pub returns-in-Ok-tell-clause-line : goal.returns-in-Ok-tell-clause-line
returns-in-Ok-tell-clause-line c =
    let p = c.args.self.now.lines in
    let l = c.in-Ok.ensures.line in
    let ws = l.first ∷ l.others in
    let fed = judged-fed p c.args.bytes.now c.in-Ok.line c.in-Ok.ensures.answer in
    let steps = line-steps p c.args.self.now.life c.tell.new.life c.args.bytes.now c.tell.new.text.items c.in-Ok.line c.in-Ok.ensures.answer
    c.in-Ok-tell.ensures.plays c.in-Ok-tell.ensures.text
    (λ r placed. placed-after p.form p.number r c.in-Ok.line placed (table-stands direct_table p.form ws c.in-Ok.line l.spells) (table-in_range direct_table p.form ws c.in-Ok.line l.spells)) in
    (fed, subst (λ (q : Progress Direct). Steps BadWord (Owes p c.args.self.now.life) (Owes q c.tell.new.life) (c.args.bytes.now ∷ []) c.tell.new.text.items) (sym c.in-Ok.ensures.progress) steps)

pub returns-in-Err-OutOfMemory-clause-line : goal.returns-in-Err-OutOfMemory-clause-line
returns-in-Err-OutOfMemory-clause-line c = read-starved c.args.self.now.lines c.args.self.now.life c.args.bytes.now (rw c.in-Err-OutOfMemory.field-0-is at c.in-Err-OutOfMemory.ensures.answer)

pub returns-in-Err-clause-line : goal.returns-in-Err-clause-line
returns-in-Err-clause-line c = told-starved c.args.self.now.lines c.args.self.now.life c.args.bytes.now c.in-Ok.line c.in-Ok.ensures.answer
