use Rattle.std.proofs.Common.{◌∙◌, ap, sym, ℕ, None, cond, is_some}
use Rattle.std.specs.Option.{option_copied}
use Rattle.ff_ids.specs.declared.TheConstants.{MAX_RINGS}
use Rattle.membership.specs.Life.{Life, has_joined, live_successor}
use Rattle.membership.proofs.EndLemmas.{none_at}
use Rattle.membership.proofs.Membership.next_after_last.Goals as goal

pub returns-in-None-clause-each : goal.returns-in-None-clause-each
returns-in-None-clause-each c = λ ring below.
    let gone = sym (ap (λ (l : Life). has_joined l c.args.member) c.self.view_is) ∙ ap is_some (sym c.get.ensures ∙ ap option_copied c.in-None.is) in
    none_at {X = ℕ} MAX_RINGS ring ∙ sym (ap (λ b. cond b (live_successor c.args.self.now ring c.args.member) None) gone)
