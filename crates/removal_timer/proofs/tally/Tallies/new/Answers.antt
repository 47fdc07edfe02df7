use Rattle.std.proofs.Common.{refl, sym, false, ◌∙◌}
use Rattle.ff_ids.specs.declared.TheConstants.{MAX_RINGS}
use Rattle.ff_ids.proofs.BitLemmas.{bits-no}
use Rattle.removal_timer.proofs.tally.Tallies.new.Goals as goal

pub returns : goal.returns
returns c =
    record {
      against_long = c.in_ok-new.ensures.long;
      by_long = c.in_ok-new-2.ensures.long;
      against = λ m lt. c.in_ok-new.ensures.zero m;
      by = λ m lt. c.in_ok-new-2.ensures.zero m;
      marks_long = c.in_ok-new-3.ensures.long;
      marks = λ m lt. c.in_ok-new-3.ensures.zero m ∙ sym (bits-no (λ r. false) MAX_RINGS (λ r. refl));
    }
