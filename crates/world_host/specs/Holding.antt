-- Which place of the rules a node's place stands for.
use Rattle.std.specs.Prelude.{◌≡◌, ℕ, ◌≤◌, true, false, List, [], ◌++◌, Option, Some, None, IfSome, length, map, option_to_list}
use Rattle.ff_ids.specs.declared.TheConstants.{MAX_TOLERANCE}
use Rattle.ff_ids.specs.Masks.{all_rings}
use Rattle.ff_ids.specs.declared.Group.{Group}
use Rattle.sign_keys.specs.declared.kinds.Kinds.{Kinds}
use Rattle.records.specs.declared.keys.Key.{Key}
use Rattle.records.specs.declared.keys.Key.TheVariants as keys
use Rattle.secrets.specs.Secrets.{store_tag}
use Rattle.sign_keys.specs.Keys.{IsNew, public_key}
use Rattle.sign_keys.specs.Kinds.{is_in_profile}
use Rattle.signer.specs.Lives.{Spent}
use Rattle.node_core.specs.Begins.{IsGroup}
use Rattle.node_core.specs.Playing as node
use Rattle.node_core.specs.Rolls.{recs_of}
use Rattle.world_host.specs.Held.{HoldsDisk}
use Rattle.world_rules.specs.Settings.{Setting, certificates, is_node, setting_of}
use Rattle.world_rules.specs.Keys.{owner_key, setting_for}
use Rattle.world_rules.specs.Disks.{Disk, made_disk, seat_of}
use Rattle.world_rules.specs.Worlds.{Life, Host}
use Rattle.world_host.specs.Certifying.{Certifying}
use Rattle.world_host.specs.Hosts.{HostState}

-- The world is of this group, with keys of these kinds, of which there are keys.
pub record IsWorld (s : Setting) (g : Group) (kinds : Kinds) : Type 0 where
  pub made : s ≡ setting_for g kinds s.heal s.correct s.liars
  pub few : g.t ≤ MAX_TOLERANCE
  pub profile : is_in_profile kinds ≡ true

-- The authority is the world's, with its option, and has certified all its members.
pub record Certifies (s : Setting) (a : Certifying) : Type 0 where
  pub heal : a.heal ≡ s.heal
  pub key : keys.Lms a.key ≡ s.key None
  pub certified : recs_of a.certificates ≡ certificates s

-- The member is a node of a world that the authority has certified, with keys of these kinds, whose group's numbers are in
-- their ranges, and this is the public half of its key.
pub record IsPlaceOf (a : Certifying) (kinds : Kinds) (m : ℕ) (own : Key) : Type 0 where
  pub setting : Setting
  pub world : IsWorld setting a.group kinds
  pub authority : Certifies setting a
  pub group : IsGroup a.group
  pub node : is_node setting m ≡ true
  pub public : own ≡ public_key (owner_key a.group kinds (Some m))

-- A place of which no life has begun.
abbrev pub made_place : Setting → Host
made_place s = record { disk = made_disk (record { 0 = all_rings s.group.t }); past = []; current = None }

-- The node that runs is where the life is, over this disk, whose store has this tag.
pub record HoldsLife (s : Setting) (tag : List ℕ) (e : Disk) (m : ℕ) (v : node.Kept) (life : Life) : Type 0 where
  pub is : node.IsNode (setting_of s m) v life.node
  pub going : v.ended ≡ false
  pub open_ : v.signer.closed ≡ false
  pub seat : v.signer.seat ≡ seat_of tag e
  pub stored : e.state ≡ life.node.stored

abbrev pub HoldsCurrent : Setting → List ℕ → Disk → ℕ → Option node.Kept → Option Life → Type 0
HoldsCurrent s tag e m None None = Unit {0}
HoldsCurrent s tag e m (Some v) (Some life) = HoldsLife s tag e m v life
HoldsCurrent s tag e m _ _ = ⊥

-- A node's place stands for this one, after its key has spent this.
pub record HoldsHost (s : Setting) (kinds : Kinds) (place : Host) (spent : List Spent) (x : HostState) : Type 0 where
  pub kinds_are : x.kinds ≡ kinds
  pub public : x.public ≡ s.key (Some x.member)
  pub key : IfSome x.key (λ k. IsNew k (owner_key s.group kinds (Some x.member)))
  pub tag : x.tag ≡ store_tag s.group (owner_key s.group kinds (Some x.member))
  pub disk : HoldsDisk x.tag s.indexes x.disk place.disk
  pub lives : x.lives ≡ length (place.past ++ option_to_list place.current)
  pub current : HoldsCurrent s x.tag place.disk x.member x.node place.current
  pub signed : x.signed ≡ map (λ y. y.body) spent
