-- What a world keeps, and which world of the definitions it stands for.
use Rattle.std.specs.Prelude.{◌≡◌, ℕ, true, false, List, [], Option, Some, None, bytes_eq, find, map}
use Rattle.std.specs.List.{AllByRecursion}
use Rattle.std.specs.Option.{option_map}
use Rattle.sign_keys.specs.declared.kinds.Kinds.{Kinds}
use Rattle.node_core.specs.Begins.{IsGroup}
use Rattle.node_rules.specs.Nodes.{in_order}
use Rattle.world_rules.specs.Settings.{Setting, certificates, is_liar, is_node, nodes}
use Rattle.world_rules.specs.Keys.{owner_key}
use Rattle.world_rules.specs.Worlds.{World as ModelWorld, named_so, next_of_liar, spent_of}
use Rattle.world_rules.specs.Counts.{counts_of}
use Rattle.world_rules.specs.Steps.{NodeEvent, given_bytes}
use Rattle.world_host.specs.Certifying.{Certifying}
use Rattle.world_host.specs.Hosts.{HostState}
use Rattle.world_host.specs.Holding.{Certifies, HoldsHost, IsWorld}
use Rattle.world.specs.declared.counts.Counts.{Counts}
use Rattle.world.specs.declared.liar.Liar.{Liar}
use Rattle.world.specs.Counting.{AreKept}
use Rattle.world.specs.Testing.{IsClean}

-- What a world keeps: its authority, the hosts and the liars in order of number, the datagrams that were sent and how
-- many of them a flow has taken, what is given under a name, the spellings of the records that were tested, and the counts.
pub record Kept : Type 0 where
  pub authority : Certifying
  pub hosts : List HostState
  pub liars : List Liar
  pub sent : List (ℕ × List ℕ)
  pub flowed : ℕ
  pub named : List (List ℕ × List ℕ)
  pub tested : List (List ℕ)
  pub counts : Counts

-- The hosts' numbers.
abbrev pub numbers : Kept → List ℕ
numbers v = map (λ x. x.member) v.hosts

abbrev pub liar_numbers : Kept → List ℕ
liar_numbers v = map (λ x. x.member) v.liars

-- What is given under a name.
abbrev pub given_under : List (List ℕ × List ℕ) → List ℕ → Option (List ℕ)
given_under named name = option_map (λ p. p.1) (find (λ p. bytes_eq name p.0) named)

-- The host of a node is as it is in the world.
abbrev pub HoldsPlace : Setting → Kinds → ModelWorld → HostState → Type 0
HoldsPlace s kinds w x = HoldsHost s kinds (w.hosts x.member) (spent_of w (Some x.member)) x

pub record HoldsLiar (s : Setting) (kinds : Kinds) (w : ModelWorld) (x : Liar) : Type 0 where
  pub key : x.key.key ≡ owner_key s.group kinds (Some x.member)
  pub next : x.key.next ≡ next_of_liar w x.member
  pub signed : x.signed.items ≡ map (λ y. y.body) (spent_of w (Some x.member))

-- What is kept stands for this world, after these events were reported. The group's numbers are in their ranges. Nobody is
-- both a node and a liar, nobody runs who is no node, nobody signs who is neither a node nor a liar, and the authority signs
-- nothing but certificates.
pub record Holds (s : Setting) (w : ModelWorld) (told : List NodeEvent) (v : Kept) : Type 0 where
  pub kinds : Kinds
  pub world : IsWorld s v.authority.group kinds
  pub ranges : IsGroup v.authority.group
  pub authority : Certifies s v.authority
  pub issued : map (λ y. y.body) (spent_of w None) ≡ map (λ r. r.body) (certificates s)
  pub apart : (m : ℕ) → is_node s m ≡ true → is_liar s m ≡ false
  pub idle : (m : ℕ) → is_node s m ≡ false → (w.hosts m).current ≡ None
  pub silent : (m : ℕ) → is_node s m ≡ false → is_liar s m ≡ false → spent_of w (Some m) ≡ []
  pub nodes : map (λ x. x.member) v.hosts ≡ nodes s
  pub hosts : AllByRecursion (HoldsPlace s kinds w) v.hosts
  pub lying : map (λ x. x.member) v.liars ≡ in_order s.liars
  pub liars : AllByRecursion (HoldsLiar s kinds w) v.liars
  pub sent : v.sent ≡ w.sent
  pub flowed : v.flowed ≡ w.flowed
  pub named : (name : List ℕ) → given_under v.named name ≡ option_map given_bytes (named_so w name)
  pub tested : AllByRecursion (IsClean s w) v.tested
  pub counts : AreKept v.counts (counts_of s told)

-- What is kept stands for some world.
pub record StandsForWorld (v : Kept) : Type 0 where
  pub setting : Setting
  pub world : ModelWorld
  pub told : List NodeEvent
  pub holds : Holds setting world told v
