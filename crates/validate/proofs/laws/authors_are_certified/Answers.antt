use Rattle.validate.proofs.TableLemmas.{note_certified, accuser_certified}
use Rattle.validate.proofs.laws.authors_are_certified.Goals as goal

pub returns-clause-notes : goal.returns-clause-notes
returns-clause-notes c = note_certified

pub returns-clause-accusations : goal.returns-clause-accusations
returns-clause-accusations c = accuser_certified
