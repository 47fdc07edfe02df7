use Rattle.std.proofs.Common.{rules, []}
use Rattle.text_tests.proofs.copying.CopierScript.line.Goals as goal

pub returns-then-is_err-clause-line : goal.returns-then-is_err-clause-line
returns-then-is_err-clause-line c = (
  search rules,
  λ f same cause judged all.
      let none = rw same at (all []) in
      search (rules, none),
)
