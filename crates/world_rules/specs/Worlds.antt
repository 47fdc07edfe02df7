-- A world: what its nodes have come to, the datagrams that were sent, the records that are kept under names, and the
-- signatures that were made.
use Rattle.std.specs.Prelude.{ℕ, Bool, not, ◌==◌, if◌then◌else◌, bytes_eq, List, [], ◌∷◌, ◌++◌, length, Option, Some, None, is_some, filter, filter_map, find, option_to_list}
use Rattle.ff_ids.specs.Masks.{all_rings}
use Rattle.records.specs.declared.Record.{Record}
use Rattle.epoch_store.specs.declared.Stored.{Stored}
use Rattle.signer.specs.Lives.{Spent}
use Rattle.node_rules.specs.Nodes as node
use Rattle.node_rules.specs.Lives.{Input}
use Rattle.ff_ids.specs.Masks.{all_rings}
use Rattle.world_rules.specs.Settings.{Owner, Setting, Signed, by_authority, nodes, same_owner}
use Rattle.world_rules.specs.Disks.{Disk, made_disk}

-- A life: what the store kept as it began, the calls that it has had, and what the node has come to.
pub record Life : Type 0 where
  pub found : Stored
  pub inputs : List Input
  pub node : node.Node

-- A node's place in the world: its disk, its lives that are over, the first one first, and the one that runs.
pub record Host : Type 0 where
  pub disk : Disk
  pub past : List Life
  pub current : Option Life

-- A record of a liar's making, which is kept under a name.
pub record Named : Type 0 where
  pub name : List ℕ
  pub key : ℕ
  pub kept : Record

-- The nodes by number; the datagrams that were sent, each with its addressee, in order; how many of them were taken by a
-- flow, which takes them in order; the named records; and the signatures that were made, in order.
pub record World : Type 0 where
  pub hosts : ℕ → Host
  pub sent : List (ℕ × List ℕ)
  pub flowed : ℕ
  pub named : List Named
  pub signed : List Signed

-- ---- the beginning

-- All certificates are signed, and each node's store is made, with all rings enabled.
unfoldable pub begun_world : Setting → World
begun_world s =
    let host : Host = record { disk = made_disk (record { 0 = all_rings s.group.t }); past = []; current = None } in
    record { hosts = λ m. host; sent = []; flowed = 0; named = []; signed = by_authority s }

-- ---- what is read off

abbrev pub is_running : World → ℕ → Bool
is_running w m = is_some (w.hosts m).current

-- The running nodes, in order of number.
abbrev pub running : Setting → World → List ℕ
running s w = filter (is_running w) (nodes s)

-- A node's lives, in order.
abbrev pub lives_of : World → ℕ → List Life
lives_of w m = (w.hosts m).past ++ option_to_list (w.hosts m).current

abbrev pub spent_if_by : Owner → Signed → Option Spent
spent_if_by who x = if same_owner x.who who then Some (record { index = x.index; body = x.body }) else None

-- What a key has spent over all its lives, in order.
abbrev pub spent_of : World → Owner → List Spent
spent_of w who = filter_map (spent_if_by who) w.signed

-- A liar's indexes rise from 0.
abbrev pub next_of_liar : World → ℕ → ℕ
next_of_liar w key = length (spent_of w (Some key))

abbrev pub named_so : World → List ℕ → Option Named
named_so w name = find (λ x. bytes_eq x.name name) w.named

-- ---- small changes

abbrev pub with_host : ℕ → Host → World → World
with_host m host w = record w { hosts = λ k. if k == m then host else w.hosts k }

-- What was kept under the name is replaced.
abbrev pub with_named : Named → World → World
with_named x w = record w { named = x ∷ filter (λ y. not (bytes_eq y.name x.name)) w.named }
