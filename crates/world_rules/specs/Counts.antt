-- How often things came in a world.
use Rattle.std.specs.Prelude.{ℕ, ◌+◌, if◌then◌else◌, List, Some, None, fold}
use Rattle.records.specs.declared.Body.TheVariants.{Note, Accusation}
use Rattle.journal.specs.declared.event.What.{What}
use Rattle.journal.specs.declared.event.What.TheVariants as happened
use Rattle.world_rules.specs.Settings.{Setting, is_node}
use Rattle.world_rules.specs.Steps.{NodeEvent}

-- Datagrams that nodes sent, notes and accusations that were accepted as they were delivered, records that were refused,
-- members that were removed from a view, those of them that are nodes, and indexes that nodes spent.
pub record Counts : Type 0 where
  pub sent : ℕ
  pub notes : ℕ
  pub accusations : ℕ
  pub refused : ℕ
  pub removed : ℕ
  pub removed_correct : ℕ
  pub spent : ℕ

abbrev pub nothing_counted : Counts
nothing_counted = record { sent = 0; notes = 0; accusations = 0; refused = 0; removed = 0; removed_correct = 0; spent = 0 }

abbrev pub with_event : Setting → Counts → What → Counts
with_event s c (happened.Sent number to bytes) = record c { sent = c.sent + 1 }
with_event s c (happened.Took (Note n) None) = record c { notes = c.notes + 1 }
with_event s c (happened.Took (Accusation a) None) = record c { accusations = c.accusations + 1 }
with_event s c (happened.Took body (Some fault)) = record c { refused = c.refused + 1 }
with_event s c (happened.Removed m) = record c { removed = c.removed + 1; removed_correct = if is_node s m then c.removed_correct + 1 else c.removed_correct }
with_event s c (happened.Spent index body) = record c { spent = c.spent + 1 }
with_event s c _ = c

-- The counts of these events.
abbrev pub counts_of : Setting → List NodeEvent → Counts
counts_of s told = fold (λ c t. with_event s c t.event.what) nothing_counted told
