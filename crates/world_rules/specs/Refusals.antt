-- Why a line can't be done: the first row of a table that holds.
use Rattle.std.specs.Prelude.{ℕ, Bool, false, not, ◌==◌, nat_lt, if◌then◌else◌, List, [], ◌∷◌, length, Option, Some, None, is_some, filter_map, fold, max}
use Rattle.std.specs.Option.{option_map_or}
use Rattle.records.specs.declared.Body.{Body}
use Rattle.records.specs.declared.Body.TheVariants.{Note}
use Rattle.ff_ids.specs.Notes.{is_leaving, newest}
use Rattle.node_rules.specs.Nodes.{is_certified, state_of}
use Rattle.schedule_world.specs.declared.line.WorldLine.TheVariants as lines
use Rattle.schedule_world.specs.declared.line.WorldLine.{WorldLine}
use Rattle.world_rules.specs.Settings.{Setting, is_node, is_liar, setting_of}
use Rattle.world_rules.specs.Worlds.{Life, World, is_running, named_so, next_of_liar, spent_of}
use Rattle.world_rules.specs.declared.verdict.RefusalReason.{RefusalReason}
use Rattle.world_rules.specs.declared.verdict.RefusalReason.TheVariants as why

-- ---- what a line names

-- The member that is to be a node.
abbrev pub node_named : WorldLine → Option ℕ
node_named (lines.Start m) = Some m
node_named (lines.Stop m outcome) = Some m
node_named (lines.Arm m calls outcome) = Some m
node_named (lines.Tick m ticks) = Some m
node_named (lines.Leave m) = Some m
node_named (lines.Deliver datagram m) = Some m
node_named (lines.Raw m bytes) = Some m
node_named (lines.Give name m) = Some m
node_named (lines.View m) = Some m
node_named (lines.Monitor m ring of) = Some m
node_named _ = None

-- The member that is to run.
abbrev pub runner_named : WorldLine → Option ℕ
runner_named (lines.Stop m outcome) = Some m
runner_named (lines.Tick m ticks) = Some m
runner_named (lines.Leave m) = Some m
runner_named (lines.Deliver datagram m) = Some m
runner_named (lines.Raw m bytes) = Some m
runner_named (lines.Give name m) = Some m
runner_named (lines.View m) = Some m
runner_named (lines.Monitor m ring of) = Some m
runner_named _ = None

-- The member that is to leave.
abbrev pub leaver_named : WorldLine → Option ℕ
leaver_named (lines.Leave m) = Some m
leaver_named _ = None

-- The member that is to start.
abbrev pub starter_named : WorldLine → Option ℕ
starter_named (lines.Start m) = Some m
starter_named _ = None

-- The owner of the key that is to be a liar.
abbrev pub key_named : WorldLine → Option ℕ
key_named (lines.SignNote key note name) = Some key
key_named (lines.SignAccusation key accuser accused epoch ring name) = Some key
key_named _ = None

-- The name under which a record is to be kept.
abbrev pub name_named : WorldLine → Option (List ℕ)
name_named (lines.Give name m) = Some name
name_named (lines.GiveAll name) = Some name
name_named _ = None

abbrev pub datagram_named : WorldLine → Option ℕ
datagram_named (lines.Deliver datagram m) = Some datagram
datagram_named _ = None

-- Whose newest note is asked for.
abbrev pub noted_named : WorldLine → Option ℕ
noted_named (lines.SignAccusation key accuser accused None ring name) = Some accused
noted_named _ = None

-- ---- the newest note that was signed

-- The epoch, if it is a note of the member.
abbrev pub epoch_of_note : ℕ → Body → Option ℕ
epoch_of_note m (Note n) = if n.member == m then Some n.epoch else None
epoch_of_note m _ = None

abbrev pub greatest : List ℕ → Option ℕ
greatest [] = None
greatest (n ∷ ns) = Some (fold max n ns)

-- The greatest epoch among the notes of the member that its own key has signed.
abbrev pub newest_signed : World → ℕ → Option ℕ
newest_signed w m = greatest (filter_map (λ x. epoch_of_note m x.body) (spent_of w (Some m)))

-- ---- who has left

-- The newest note that the node of this life has of itself is a leaving one.
abbrev pub has_left_in : Setting → ℕ → Life → Bool
has_left_in s m life = option_map_or is_leaving (newest (state_of (setting_of s m) life.node).notes m) false

-- The node runs, and has left.
abbrev pub has_left : Setting → World → ℕ → Bool
has_left s w m = option_map_or (has_left_in s m) (w.hosts m).current false

-- ---- the table

-- The member's store has its next index, and a liar's key too.
abbrev pub next_index : World → WorldLine → Option ℕ
next_index w (lines.Start m) = Some (w.hosts m).disk.state.next
next_index w (lines.SignNote key note name) = Some (next_of_liar w key)
next_index w (lines.SignAccusation key accuser accused epoch ring name) = Some (next_of_liar w key)
next_index w _ = None

-- The one whose monitor is asked for has no certificate that the node holds.
abbrev pub asks_for_unknown : World → WorldLine → Bool
asks_for_unknown w (lines.Monitor m ring of) = option_map_or (λ life. not (is_certified life.node of)) (w.hosts m).current false
asks_for_unknown w _ = false

abbrev pub holds_of : {X : Type 0} → (X → Bool) → Option X → Bool
holds_of test x = option_map_or test x false

-- A row: whether it holds, and what is then said.
abbrev pub first_row : List (Bool × RefusalReason) → Option RefusalReason
first_row [] = None
first_row (row ∷ rows) = if row.0 then Some row.1 else first_row rows

abbrev pub table : Setting → World → WorldLine → List (Bool × RefusalReason)
table s w line =
    (holds_of (λ m. not (is_node s m)) (node_named line), why.NotNode)
    ∷ (holds_of (λ key. not (is_liar s key)) (key_named line), why.NotLiar)
    ∷ (holds_of (λ name. not (is_some (named_so w name))) (name_named line), why.NoName)
    ∷ (holds_of (λ number. not (nat_lt number (length w.sent))) (datagram_named line), why.NoDatagram)
    ∷ (holds_of (is_running w) (starter_named line), why.Running)
    ∷ (holds_of (λ m. not (is_running w m)) (runner_named line), why.NotRunning)
    ∷ (holds_of (has_left s w) (leaver_named line), why.Left)
    ∷ (holds_of (λ m. not (is_some (newest_signed w m))) (noted_named line), why.NoNote)
    ∷ (holds_of (λ first. first == s.indexes) (next_index w line), why.UsedUp (option_map_or (λ first. first) (next_index w line) 0))
    ∷ (asks_for_unknown w line, why.UnknownMember)
    ∷ []

-- Why the line can't be done, if it can't.
unfoldable pub why_not : Setting → World → WorldLine → Option RefusalReason
why_not s w line = first_row (table s w line)
