use Rattle.audit_laws.proofs.LearnedLemmas.{fates-learned, leaving-added, leaving-learned, pings-learned, signatures-learned, turns-added, turns-learned}
use Rattle.audit_laws.proofs.what_is_learned.Goals as goal

pub returns : goal.returns
returns c =
    record {
      fates = fates-learned;
      pings = pings-learned;
      turns = turns-learned;
      added = turns-added;
      leaving = leaving-learned;
      left = leaving-added;
      signatures = signatures-learned;
    }
