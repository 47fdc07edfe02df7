-- What is read off a host.
use Rattle.std.proofs.Common.{◌≡◌, ℕ, true, false, not, List, Option, Some, None, refl, ap, sym, ◌∙◌, subst}
use Rattle.std.specs.Prelude.{IfSome, is_some}
use Rattle.std.specs.List.{slice_get}
use Rattle.std.specs.Option.{option_map, option_map_or}
use Rattle.std.proofs.lemmas.Option.{slice_get-map}
use Rattle.ff_ids.specs.declared.RingNo.{RingNo}
use Rattle.schedule_world.specs.declared.line.WorldLine.TheVariants as lines
use Rattle.schedule_world.specs.declared.line.WorldLine.{WorldLine}
use Rattle.records.specs.declared.CertBody.{CertBody}
use Rattle.validate.specs.Certified.{certificate_of as kept_certificate}
use Rattle.node_core.specs.Playing as node
use Rattle.node_rules.specs.Nodes as rules
use Rattle.node_rules.specs.Nodes.{is_certified}
use Rattle.sign_keys.specs.declared.kinds.Kinds.{Kinds}
use Rattle.sign_keys.specs.Keys.{public_key}
use Rattle.world_rules.specs.Disks as disks
use Rattle.world_rules.specs.Keys.{owner_key}
use Rattle.world_rules.specs.Refusals.{node_named}
use Rattle.world_rules.specs.Settings.{Setting}
use Rattle.world_rules.specs.Worlds.{Life, World as ModelWorld, is_running}
use Rattle.world_rules.specs.Steps.{NodeEvent, moment_of}
use Rattle.world_host.specs.Hosts.{HostState}
use Rattle.world_host.specs.Holding.{HoldsCurrent, IsPlaceOf, IsWorld}
use Rattle.world_host.proofs.WorldLemmas.{group-is, own-public}
use Rattle.world.specs.Courses.{CanTell, CanTellAt, KnowsAt, place_of}
use Rattle.world.specs.Holding.{Holds, Kept, numbers}
use Rattle.world.proofs.ChangeLemmas.{number-at}
use Rattle.world.proofs.HostLemmas.{host-at}
use Rattle.world.proofs.PlaceLemmas.{place-node}

pub moment-is : (s : Setting) (tag : List ℕ) (e : disks.Disk) (m : ℕ) (v : Option node.Kept) (current : Option Life) → HoldsCurrent s tag e m v current → option_map_or (λ n. n.membership.moment) v 0 ≡ moment_of s m current
moment-is s tag e m None None h = refl
moment-is s tag e m (Some v) (Some life) h = sym h.is.holds.moment_same
moment-is s tag e m None (Some life) h = absurd h
moment-is s tag e m (Some v) None h = absurd h

pub running-is : (s : Setting) (tag : List ℕ) (e : disks.Disk) (m : ℕ) (v : Option node.Kept) (current : Option Life) → HoldsCurrent s tag e m v current → is_some v ≡ is_some current
running-is s tag e m None None h = refl
running-is s tag e m (Some v) (Some life) h = refl
running-is s tag e m None (Some life) h = absurd h
running-is s tag e m (Some v) None h = absurd h

none-mapped : {X Y : Type 0} (f : X → Y) (o : Option X) → is_some (option_map f o) ≡ is_some o
none-mapped f None = refl
none-mapped f (Some x) = refl

pub certified-is : (s : Setting) (tag : List ℕ) (e : disks.Disk) (m of : ℕ) (v : node.Kept) (current : Option Life) → HoldsCurrent s tag e m (Some v) current
    → not (is_some (option_map (λ (c : CertBody). c.port) (kept_certificate v.roster of))) ≡ option_map_or (λ (life : Life). not (is_certified life.node of)) current false
certified-is s tag e m of v (Some life) h = ap not (none-mapped (λ (c : CertBody). c.port) (kept_certificate v.roster of) ∙ ap is_some (h.is.roster of))
certified-is s tag e m of v None h = absurd h

pub current-at : (s : Setting) (w : ModelWorld) (told : List NodeEvent) (v : Kept) (m at : ℕ) (x : HostState) → Holds s w told v → slice_get (numbers v) at ≡ Some m → slice_get v.hosts at ≡ Some x
    → HoldsCurrent s x.tag (w.hosts m).disk m x.node (w.hosts m).current
current-at s w told v m at x h is found =
    let own : x.member ≡ m = number-at v.hosts m at x is found in
    subst (λ (k : ℕ). HoldsCurrent s x.tag (w.hosts k).disk k x.node (w.hosts k).current) own (host-at s h.kinds w at v.hosts x found h.hosts).current

pub runs-at : (s : Setting) (w : ModelWorld) (told : List NodeEvent) (v : Kept) (m at : ℕ) (x : HostState) → Holds s w told v → slice_get (numbers v) at ≡ Some m → slice_get v.hosts at ≡ Some x → is_some x.node ≡ is_running w m
runs-at s w told v m at x h is found = running-is s x.tag (w.hosts m).disk m x.node (w.hosts m).current (current-at s w told v m at x h is found)

-- ---- a node's place

pub is-place : (s : Setting) (w : ModelWorld) (told : List NodeEvent) (v : Kept) (at : ℕ) (x : HostState) → Holds s w told v → slice_get v.hosts at ≡ Some x → IsPlaceOf v.authority x.kinds x.member x.public
is-place s w told v at x h found =
    let there : slice_get (numbers v) at ≡ Some x.member = slice_get-map (λ (y : HostState). y.member) v.hosts at ∙ ap (option_map (λ (y : HostState). y.member)) found in
    let host = host-at s h.kinds w at v.hosts x found h.hosts in
    record {
      setting = s;
      world = subst (IsWorld s v.authority.group) (sym host.kinds_are) h.world;
      authority = h.authority;
      group = h.ranges;
      node = place-node s (numbers v) x.member at h.nodes there;
      public = host.public ∙ own-public s v.authority.group h.kinds x.member h.world ∙ ap (λ (k : Kinds). public_key (owner_key v.authority.group k (Some x.member))) (sym host.kinds_are);
    }

-- ---- a node that is asked about a monitor

-- The authority's group is the world's.
pub authority-group : (s : Setting) (w : ModelWorld) (told : List NodeEvent) (v : Kept) → Holds s w told v → v.authority.group ≡ s.group
authority-group s w told v h = sym (group-is s v.authority.group h.kinds h.world)

current-group : (s : Setting) (tag : List ℕ) (e : disks.Disk) (m : ℕ) (n : node.Kept) (current : Option Life) → HoldsCurrent s tag e m (Some n) current → n.group ≡ s.group
unfolding node.setting_of
current-group s tag e m n (Some life) h = sym (ap (λ (x : rules.Setting). x.group) h.is.setting)
current-group s tag e m n None h = absurd h

-- The group of a node that runs is the authority's.
pub node-group : (s : Setting) (w : ModelWorld) (told : List NodeEvent) (v : Kept) (at : ℕ) (x : HostState) (n : node.Kept) → Holds s w told v → slice_get v.hosts at ≡ Some x → Some n ≡ x.node → n.group ≡ v.authority.group
node-group s w told v at x n h found runs =
    let host = host-at s h.kinds w at v.hosts x found h.hosts in
    let e : disks.Disk = (w.hosts x.member).disk in
    let current : HoldsCurrent s x.tag e x.member (Some n) (w.hosts x.member).current = subst (λ (o : Option node.Kept). HoldsCurrent s x.tag e x.member o (w.hosts x.member).current) (sym runs) host.current in
    current-group s x.tag e x.member n (w.hosts x.member).current current ∙ sym (authority-group s w told v h)

-- What is known at a place, by the node there.
pub known-there : (v : Kept) (of at : ℕ) (x : HostState) (n : node.Kept) → KnowsAt v of (Some at) → slice_get v.hosts at ≡ Some x → Some n ≡ x.node → is_some (kept_certificate n.roster of) ≡ true
known-there v of at x n known found runs =
    let there : IfSome x.node (λ k. is_some (kept_certificate k.roster of) ≡ true) = subst (λ (o : Option HostState). IfSome o (λ y. IfSome y.node (λ k. is_some (kept_certificate k.roster of) ≡ true))) found known in
    subst (λ (o : Option node.Kept). IfSome o (λ k. is_some (kept_certificate k.roster of) ≡ true)) (sym runs) there

pub knows-there : (v : Kept) (of at : ℕ) (x : HostState) (n : node.Kept) → slice_get v.hosts at ≡ Some x → Some n ≡ x.node → is_some (kept_certificate n.roster of) ≡ true → KnowsAt v of (Some at)
knows-there v of at x n found runs has =
    let there : IfSome x.node (λ k. is_some (kept_certificate k.roster of) ≡ true) = subst (λ (o : Option node.Kept). IfSome o (λ k. is_some (kept_certificate k.roster of) ≡ true)) runs has in
    subst (λ (o : Option HostState). IfSome o (λ y. IfSome y.node (λ k. is_some (kept_certificate k.roster of) ≡ true))) (sym found) there

pub knows-idle : (v : Kept) (of at : ℕ) (x : HostState) → slice_get v.hosts at ≡ Some x → None ≡ x.node → KnowsAt v of (Some at)
knows-idle v of at x found idle =
    let there : IfSome x.node (λ k. is_some (kept_certificate k.roster of) ≡ true) = subst (λ (o : Option node.Kept). IfSome o (λ k. is_some (kept_certificate k.roster of) ≡ true)) idle tt in
    subst (λ (o : Option HostState). IfSome o (λ y. IfSome y.node (λ k. is_some (kept_certificate k.roster of) ≡ true))) (sym found) there

-- A line that asks nothing can be answered.
pub asks-nothing : (v : Kept) (line : WorldLine) → ((a : ℕ) (ring : RingNo) (of : ℕ) → line ≡ lines.Monitor a ring of → ⊥) → CanTell v line
asks-nothing v (lines.Monitor a ring of) none = absurd (none a ring of refl)
asks-nothing v line none = tt

pub tells-at : (v : Kept) (line : WorldLine) (m at : ℕ) → node_named line ≡ Some m → Some at ≡ place_of v m → CanTell v line → CanTellAt v at line
tells-at v (lines.Monitor k ring of) m at named is can = subst (KnowsAt v of) (ap (place_of v) (same k m named) ∙ sym is) can
  where
    same : (a b : ℕ) → Some a ≡ Some b → a ≡ b
    same a b e = cc
tells-at v line m at named is can = tt
