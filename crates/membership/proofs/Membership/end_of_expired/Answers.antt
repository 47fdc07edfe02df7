use Rattle.std.proofs.Common.{◌≡◌, ◌∙◌, ◌+◌, ◌<◌, ◌||◌, not, eqb, ap, sym, subst, arith, take, length, get_or, List}
use Rattle.std.specs.List.{All}
use Rattle.std.proofs.lemmas.List.{take_all}
use Rattle.std.proofs.lemmas.List.Folds.{list_any_more}
use Rattle.ff_ids.specs.declared.AccBody.{AccBody}
use Rattle.ff_ids.specs.Masks.{ring_count}
use Rattle.removal_timer.proofs.KeptLemmas.{All-filter}
use Rattle.ff_ids.specs.Steps.{Report}
use Rattle.membership.specs.Life.{Life}
use Rattle.membership.specs.Ends.{AreTheirs, IsAgain, Ends, is_of, is_of_any}
use Rattle.membership.proofs.EndLemmas.{is_of-again, Ends-agree, Ends-then, Ended, Ended-from}
use Rattle.membership.proofs.Membership.end_of_expired.Goals as goal
use Rattle.membership.proofs.Membership.end_of_expired.Goals.{then-not-is_again, else-not-is_again}

pub loop-index-preserved : goal.loop-index-preserved
loop-index-preserved c =
    let l = c.args.self.now in
    let rings = ring_count l.group.t in
    let due = c.args.out.now.expired in
    let i = c.loop-index.index in
    let before = c.loop-index.invariant in
    let end = ap (λ (xs : List AccBody). length xs) c.expired-index-end.ensures in
    let below : i < length due = omega (arith, c.loop-index-test.true, end) in
    elim c.if-not-is_again.branch [
      | then-not-is_again w ↦
          let d = w.index-expired-index.result in
          let a = get_or w.expired-then-not-is_again.result.now i d in
          let told = w.expired-then-not-is_again.ensures ∙ ap (λ (r : Report). r.expired) before.report in
          let item : a ≡ get_or due i d = ap (λ (xs : List AccBody). get_or xs i d) told in
          let of = λ (theirs : All (λ a. AreTheirs l a.accused l.kept) due).
          let ended = Ended-from rings (is_of_any l (take i due)) l.kept c.loop-index.self.kept c.args.out.now.fell c.loop-index.out.fell c.requires.in_order c.requires.empty (before.ends theirs) in
          let own : AreTheirs l a.accused l.kept = subst (λ (b : AccBody). AreTheirs l b.accused l.kept) (sym item) (theirs i d below) in
          let left : AreTheirs l a.accused c.loop-index.self.kept = subst (AreTheirs l a.accused) (sym ended.left) (All-filter (λ p. is_of l a.accused p ≡ (eqb a.accused p.0.accused || eqb a.accused p.0.accuser)) (λ p. not (is_of_any l (take i due) p)) l.kept own) in
          subst (λ (k : Life). Ends (ring_count k.group.t) (is_of k a.accused) c.loop-index.self.kept c.loop-index.out.fell w.end_of.new.self.kept w.end_of.new.out.fell) before.life (w.end_of.ensures.ends (subst (λ (k : Life). AreTheirs k a.accused c.loop-index.self.kept) (sym before.life) left)) in
          let both = λ (theirs : All (λ a. AreTheirs l a.accused l.kept) due). Ends-then rings (is_of_any l (take i due)) (is_of l a.accused) l.kept c.loop-index.self.kept w.end_of.new.self.kept c.args.out.now.fell c.loop-index.out.fell w.end_of.new.out.fell (before.ends theirs) (of theirs) in
          rw (w.self-is, w.out-is) (record {
            ends = λ theirs. Ends-agree rings (λ p. is_of_any l (take i due) p || is_of l a.accused p) (is_of_any l (take (i + 1) due)) l.kept w.end_of.new.self.kept c.args.out.now.fell w.end_of.new.out.fell (λ p _. ap (λ (b : AccBody). is_of_any l (take i due) p || is_of l b.accused p) item ∙ sym (list_any_more (λ b. is_of l b.accused p) due i d below)) (both theirs);
            life = w.end_of.ensures.rest ∙ ap (λ (k : Life). record k { kept = w.end_of.new.self.kept }) before.life;
            report = w.end_of.ensures.report ∙ ap (λ (r : Report). record r { fell = w.end_of.new.out.fell }) before.report;
            room = w.end_of.ensures.room;
          })
      | else-not-is_again w ↦
          let told = c.expired.ensures ∙ ap (λ (r : Report). r.expired) before.report in
          let again : IsAgain due i = subst (λ (xs : List AccBody). IsAgain xs i) told w.if-not-is_again.ensures in
          rw (w.self-is, w.out-is) (record {
            ends = λ theirs. Ends-agree rings (is_of_any l (take i due)) (is_of_any l (take (i + 1) due)) l.kept c.loop-index.self.kept c.args.out.now.fell c.loop-index.out.fell (λ p _. is_of-again l due i p again below) (before.ends theirs);
            life = before.life;
            report = before.report;
            room = before.room;
          })
    ]

ended : (c : goal.After-loop-index) → All (λ a. AreTheirs c.args.self.now a.accused c.args.self.now.kept) c.args.out.now.expired → Ended (is_of_any c.args.self.now c.args.out.now.expired) c.args.self.now.kept c.loop-index.self.kept c.loop-index.out.fell
ended c theirs =
    let l = c.args.self.now in
    let due = c.args.out.now.expired in
    let end = ap (λ (xs : List AccBody). length xs) c.expired-index-end.ensures in
    let all : take c.loop-index.index due ≡ due = take_all c.loop-index.index due (omega (arith, c.loop-index-test.false, end)) in
    let ends = subst (λ (xs : List AccBody). Ends (ring_count l.group.t) (is_of_any l xs) l.kept c.args.out.now.fell c.loop-index.self.kept c.loop-index.out.fell) all (c.loop-index.invariant.ends theirs) in
    Ended-from (ring_count l.group.t) (is_of_any l due) l.kept c.loop-index.self.kept c.args.out.now.fell c.loop-index.out.fell c.requires.in_order c.requires.empty ends

pub returns-clause-kept : goal.returns-clause-kept
returns-clause-kept c = λ theirs. (ended c theirs).left

pub returns-clause-fell : goal.returns-clause-fell
returns-clause-fell c = λ theirs. (ended c theirs).told
