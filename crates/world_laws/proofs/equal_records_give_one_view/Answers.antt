use Rattle.world_laws.proofs.Viewed.{equal-records, texts-answer}
use Rattle.world_laws.proofs.equal_records_give_one_view.Goals as goal

pub returns-clause-lives : goal.returns-clause-lives
returns-clause-lives c = equal-records

pub returns-clause-answers : goal.returns-clause-answers
returns-clause-answers c = texts-answer
