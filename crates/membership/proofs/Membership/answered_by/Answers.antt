use Rattle.std.proofs.Common.{◌≡◌, ℕ, zero, suc, ◌<◌, Option, None, inl, inr, length, get_or, set, replicate, refl, sym, ap, ◌∙◌, arith, rules, length-set, get_or-set_same, get_or-set_other}
use Rattle.std.proofs.lemmas.Bool.{cases_eq, cases_lt}
use Rattle.ff_ids.specs.declared.TheConstants.{MAX_RINGS}
use Rattle.removal_timer.specs.Kept.{entry_at}
use Rattle.membership.specs.Ends.{answered_on}
use Rattle.membership.proofs.Membership.answered_by.Goals as goal

abbrev nobody : Option ℕ
nobody = None

nobody-at : (n ring : ℕ) → get_or (replicate n nobody) ring nobody ≡ nobody
nobody-at zero ring = refl
nobody-at (suc n) zero = refl
nobody-at (suc n) (suc ring) = nobody-at n ring

pub loop-ring-init : goal.loop-ring-init
loop-ring-init c = record { long = search rules; each = λ k lt. absurd (omega arith); beyond = λ k past. nobody-at MAX_RINGS k }

pub loop-ring-preserved : goal.loop-ring-preserved
loop-ring-preserved c =
    let named = c.loop-ring.named in
    let ring = c.loop-ring.ring in
    let before = c.loop-ring.invariant in
    let within : ring < length named = omega (arith, before.long, c.loop-ring-test.true, c.requires.most) in
    record {
      long = length-set named ring c.answered_at.result ∙ before.long;
      each = λ k lt. elim (cases_eq k ring) [
        | inl here ↦ ap (λ i. get_or (set named ring c.answered_at.result) i nobody) here ∙ get_or-set_same named ring c.answered_at.result nobody within ∙ c.answered_at.ensures ∙ ap (answered_on c.args.self.now c.args.note.now) (sym here)
        | inr apart ↦ get_or-set_other named ring k c.answered_at.result nobody apart ∙ before.each k (omega arith)
      ];
      beyond = λ k past. get_or-set_other named ring k c.answered_at.result nobody (λ e. absurd (omega (arith, e, past))) ∙ before.beyond k (omega (arith, past));
    }

pub returns-clause-each : goal.returns-clause-each
returns-clause-each c = λ ring lt.
    elim (cases_lt ring c.loop-ring.ring) [
      | inl below ↦ c.loop-ring.invariant.each ring below
      | inr past ↦
          let nothing : entry_at c.args.note.now.member ring c.args.self.now.kept ≡ None = c.requires.none ring (omega (arith, past, c.loop-ring-test.false)) lt in
          rw nothing (c.loop-ring.invariant.beyond ring past)
    ]
