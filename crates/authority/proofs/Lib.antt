pub mod SecretLemmas
pub mod RosterLemmas
pub mod MakingLemmas
pub mod SigningLemmas
pub mod OpeningLemmas
pub mod EnrolLemmas
pub mod MovedLemmas
pub mod MigratingLemmas
