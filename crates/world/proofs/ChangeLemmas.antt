-- What is kept behind a change of one node's place in the world.
use Rattle.std.proofs.Common.{◌≡◌, ℕ, false, eqb, List, [], ◌∷◌, ◌++◌, Option, Some, None, map, length, refl, ap, sym, ◌∙◌, subst, append-nil}
use Rattle.std.proofs.Math.ListN.{set}
use Rattle.std.specs.Prelude.{option_to_list, filter_map}
use Rattle.std.specs.List.{AllByRecursion, slice_get}
use Rattle.std.specs.Option.{option_map}
use Rattle.std.proofs.lemmas.Option.{slice_get-map}
use Rattle.std.proofs.lemmas.Bool.{eq-eqb, false≢true}
use Rattle.sign_keys.specs.declared.kinds.Kinds.{Kinds}
use Rattle.signer.specs.Lives.{Spent}
use Rattle.world_host.specs.Held.{HoldsDisk, armed_as, crashed}
use Rattle.world_host.proofs.DiskOpening.{crash_as_told, arm_as_told}
use Rattle.world_rules.specs.Disks.{ArmedStop, Disk}
use Rattle.node_core.specs.Playing as node
use Rattle.node_rules.specs.OnRings.{Rises}
use Rattle.world_rules.specs.Settings.{Setting, Signed, is_node}
use Rattle.world_rules.specs.Worlds as worlds
use Rattle.world_rules.specs.Worlds.{Life, World as ModelWorld, lives_of, spent_if_by, spent_of, with_host}
use Rattle.world_rules.specs.Steps.{NodeEvent, arms, life_over, stops, with_disk}
use Rattle.world_rules.proofs.Once.{at-host}
use Rattle.world_host.specs.Hosts.{HostState}
use Rattle.world_host.specs.Holding.{HoldsCurrent, HoldsHost}
use Rattle.world.specs.declared.liar.Liar.{Liar}
use Rattle.world.specs.Holding.{Holds, HoldsLiar, HoldsPlace, Kept, numbers}
use Rattle.world.proofs.Clean.{all_clean_still}
use Rattle.world.proofs.PlaceLemmas.{nodes-rise, place-node}
use Rattle.world.proofs.HostLemmas.{StaysElse, host-changes, host-at, numbers-set}

-- ---- a host by itself

pub at-place : (s : Setting) (kinds : Kinds) (w : ModelWorld) (place : worlds.Host) (x : HostState) → w.hosts x.member ≡ place → HoldsHost s kinds place (spent_of w (Some x.member)) x → HoldsPlace s kinds w x
at-place s kinds w place x is h = subst (λ (z : worlds.Host). HoldsHost s kinds z (spent_of w (Some x.member)) x) (sym is) h

-- ---- a host stops, or is armed

over-past : (past : List Life) (current : Option Life) (place : worlds.Host) → place.past ≡ past → place.current ≡ current
    → length ((life_over place current).past ++ option_to_list (life_over place current).current) ≡ length (past ++ option_to_list current)
over-past past None place p c = ap (λ (z : List Life). length (z ++ option_to_list place.current)) p ∙ ap (λ (z : Option Life). length (past ++ option_to_list z)) c
over-past past (Some life) place p c = ap length (append-nil (place.past ++ life ∷ [])) ∙ ap (λ (z : List Life). length (z ++ life ∷ [])) p

over-disk : (current : Option Life) (place : worlds.Host) → (life_over place current).disk ≡ place.disk
over-disk None place = refl
over-disk (Some life) place = refl

over-current : (current : Option Life) (place : worlds.Host) → place.current ≡ current → (life_over place current).current ≡ None
over-current None place is = is
over-current (Some life) place is = refl

stops-stands : (s : Setting) (kinds : Kinds) (place : worlds.Host) (spent : List Spent) (x : HostState) (outcome : ℕ) → HoldsHost s kinds place spent x
    → HoldsHost s kinds (life_over place place.current) spent (record x { node = None; disk = crashed outcome x.disk })
stops-stands s kinds place spent x outcome h =
    record {
      kinds_are = h.kinds_are;
      public = h.public;
      key = h.key;
      tag = h.tag;
      disk = subst (λ (e : Disk). HoldsDisk x.tag s.indexes (crashed outcome x.disk) e) (sym (over-disk place.current place)) (crash_as_told x.tag s.indexes outcome x.disk place.disk h.disk);
      lives = h.lives ∙ sym (over-past place.past place.current place refl refl);
      current = subst (λ (z : Option Life). HoldsCurrent s x.tag (life_over place place.current).disk x.member None z) (sym (over-current place.current place refl)) tt;
      signed = h.signed;
    }

-- a stop that is armed is nothing to a life
armed-current : (s : Setting) (tag : List ℕ) (e : Disk) (stop : ArmedStop) (m : ℕ) (v : Option node.Kept) (current : Option Life) → HoldsCurrent s tag e m v current → HoldsCurrent s tag (record e { armed = Some stop }) m v current
armed-current s tag e stop m None None h = tt
armed-current s tag e stop m (Some v) (Some life) h = record { is = h.is; going = h.going; open_ = h.open_; seat = h.seat; stored = h.stored }
armed-current s tag e stop m None (Some life) h = h
armed-current s tag e stop m (Some v) None h = h

arms-stands : (s : Setting) (kinds : Kinds) (place : worlds.Host) (spent : List Spent) (x : HostState) (stop : ArmedStop) → HoldsHost s kinds place spent x
    → HoldsHost s kinds (with_disk place (record place.disk { armed = Some stop })) spent (record x { disk = record x.disk { armed = armed_as (Some stop) } })
arms-stands s kinds place spent x stop h =
    record {
      kinds_are = h.kinds_are;
      public = h.public;
      key = h.key;
      tag = h.tag;
      disk = arm_as_told x.tag s.indexes x.disk place.disk stop h.disk;
      lives = h.lives;
      current = armed-current s x.tag place.disk stop x.member x.node place.current h.current;
      signed = h.signed;
    }

-- ---- the whole

pub number-at : (xs : List HostState) (m at : ℕ) (x : HostState) → slice_get (map (λ y. y.member) xs) at ≡ Some m → slice_get xs at ≡ Some x → x.member ≡ m
number-at xs m at x is found = some-same x.member m (sym (slice_get-map (λ (y : HostState). y.member) xs at ∙ ap (option_map (λ (y : HostState). y.member)) found) ∙ is)
  where
    some-same : (a b : ℕ) → Some a ≡ Some b → a ≡ b
    some-same a b e = cc

pub liars-stay : (s : Setting) (kinds : Kinds) (w later : ModelWorld) (xs : List Liar) → later.signed ≡ w.signed → AllByRecursion (HoldsLiar s kinds w) xs → AllByRecursion (HoldsLiar s kinds later) xs
liars-stay s kinds w later [] same h = tt
liars-stay s kinds w later (x ∷ xs) same h = (
  record {
    key = h.0.key;
    next = h.0.next ∙ sym (ap (λ (z : List Signed). length (filter_map (spent_if_by (Some x.member)) z)) same);
    signed = h.0.signed ∙ sym (ap (λ (z : List Signed). map (λ y. y.body) (filter_map (spent_if_by (Some x.member)) z)) same);
  },
  liars-stay s kinds w later xs same h.1,
)

other-number : (k m : ℕ) → eqb k m ≡ false → (k ≡ m → ⊥)
other-number k m apart same = false≢true (sym apart ∙ eq-eqb k m same)

pub at-own : (k m : ℕ) (place : worlds.Host) (w : ModelWorld) → k ≡ m → (with_host m place w).hosts k ≡ place
at-own k m place w same = at-host k m place w (λ (z : worlds.Host). z ≡ place) (λ e. refl) (λ apart. absurd (other-number m k apart (sym same)))

pub at-other : (k m : ℕ) (place : worlds.Host) (w : ModelWorld) → eqb k m ≡ false → (with_host m place w).hosts k ≡ w.hosts k
at-other k m place w apart = at-host k m place w (λ (z : worlds.Host). z ≡ w.hosts k) (λ e. absurd (other-number k m apart (sym e))) (λ e. refl)

pub changed-else : (m : ℕ) (place : worlds.Host) (w : ModelWorld) → StaysElse w (with_host m place w) m
changed-else m place w = record { others = λ k apart. record { host = at-other k m place w apart; spent = refl } }

-- one place changes, and what was signed, sent and named stays
pub holds-changed : (s : Setting) (w : ModelWorld) (told : List NodeEvent) (v : Kept) (m at : ℕ) (x : HostState) (place : worlds.Host) → (h : Holds s w told v) → slice_get (numbers v) at ≡ Some m → x.member ≡ m
    → HoldsHost s h.kinds place (spent_of w (Some x.member)) x
    → Holds s (with_host m place w) told (record v { hosts = set v.hosts at x })
holds-changed s w told v m at x place h is own new =
    let later : ModelWorld = with_host m place w in
    let numbers_rise = subst (Rises 0) (sym h.nodes) (nodes-rise s) in
    record {
      kinds = h.kinds;
      world = h.world;
      ranges = h.ranges;
      authority = h.authority;
      issued = h.issued;
      apart = h.apart;
      idle = λ k not. at-host k m place w (λ (z : worlds.Host). z.current ≡ None) (λ same. absurd (false≢true (sym not ∙ ap (is_node s) (sym same) ∙ place-node s (numbers v) m at h.nodes is))) (λ apart. h.idle k not);
      silent = h.silent;
      nodes = numbers-set v.hosts at x (is ∙ ap (λ (k : ℕ). Some k) (sym own)) ∙ h.nodes;
      hosts = host-changes s h.kinds w later m 0 at v.hosts x numbers_rise is (changed-else m place w)
          (at-place s h.kinds later place x (at-own x.member m place w own) new) h.hosts;
      lying = h.lying;
      liars = liars-stay s h.kinds w later v.liars refl h.liars;
      sent = h.sent;
      flowed = h.flowed;
      named = h.named;
      tested = all_clean_still s w later v.tested (record { more = []; is = sym (append-nil w.signed) }) h.tested;
      counts = h.counts;
    }

pub stops-holds : (s : Setting) (w : ModelWorld) (told : List NodeEvent) (v : Kept) (m at outcome : ℕ) (x : HostState) → Holds s w told v → slice_get (numbers v) at ≡ Some m → slice_get v.hosts at ≡ Some x
    → Holds s (stops m w) told (record v { hosts = set v.hosts at (record x { node = None; disk = crashed outcome x.disk }) })
stops-holds s w told v m at outcome x h is found =
    let own : x.member ≡ m = number-at v.hosts m at x is found in
    let later : HostState = record x { node = None; disk = crashed outcome x.disk } in
    let there = host-at s h.kinds w at v.hosts x found h.hosts in
    holds-changed s w told v m at later (life_over (w.hosts m) (w.hosts m).current) h is own
    (subst (λ (k : ℕ). HoldsHost s h.kinds (life_over (w.hosts k) (w.hosts k).current) (spent_of w (Some x.member)) later) own
    (stops-stands s h.kinds (w.hosts x.member) (spent_of w (Some x.member)) x outcome there))

pub arms-holds : (s : Setting) (w : ModelWorld) (told : List NodeEvent) (v : Kept) (m at : ℕ) (stop : ArmedStop) (x : HostState) → Holds s w told v → slice_get (numbers v) at ≡ Some m → slice_get v.hosts at ≡ Some x
    → Holds s (arms m stop w) told (record v { hosts = set v.hosts at (record x { disk = record x.disk { armed = armed_as (Some stop) } }) })
arms-holds s w told v m at stop x h is found =
    let own : x.member ≡ m = number-at v.hosts m at x is found in
    let later : HostState = record x { disk = record x.disk { armed = armed_as (Some stop) } } in
    let there = host-at s h.kinds w at v.hosts x found h.hosts in
    holds-changed s w told v m at later (with_disk (w.hosts m) (record (w.hosts m).disk { armed = Some stop })) h is own
    (subst (λ (k : ℕ). HoldsHost s h.kinds (with_disk (w.hosts k) (record (w.hosts k).disk { armed = Some stop })) (spent_of w (Some x.member)) later) own
    (arms-stands s h.kinds (w.hosts x.member) (spent_of w (Some x.member)) x stop there))
