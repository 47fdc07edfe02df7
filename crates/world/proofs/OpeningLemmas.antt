-- A world that is being opened, member by member.
use Rattle.std.proofs.Common.{◌≡◌, ℕ, zero, suc, ◌+◌, ◌≤◌, Bool, true, false, ◌||◌, cond, eqb, List, [], ◌∷◌, ◌++◌, Option, Some, None, map, filter, length, inl, inr, refl, ap, sym, ◌∙◌, subst, arith, append-nil}
use Rattle.std.specs.Prelude.{OnOk, filter_map, Result, Ok, Err}
use Rattle.std.specs.List.{AllByRecursion, list_any, range_with_len}
use Rattle.std.proofs.lemmas.Bool.{cases_Bool}
use Rattle.std.proofs.lemmas.List.Elements.{filter-append}
use Rattle.ff_ids.specs.declared.TheConstants.{MAX_TOLERANCE, MEMBERS}
use Rattle.ff_ids.specs.declared.Group.{Group}
use Rattle.ff_ids.specs.Heals.{Heal}
use Rattle.sign_keys.specs.declared.kinds.Kinds.{Kinds}
use Rattle.lms_tree.specs.declared.key.PublicKey.{PublicKey}
use Rattle.records.specs.declared.Record.{Record}
use Rattle.records.specs.declared.Body.{Body}
use Rattle.records.specs.declared.Body.TheVariants.{Certificate}
use Rattle.records.specs.Signing.{CheckedRecord}
use Rattle.membership.proofs.NumberLemmas.{all_length}
use Rattle.node_core.specs.Begins.{IsGroup}
use Rattle.node_core.specs.Rolls.{recs_of}
use Rattle.node_rules.specs.Nodes.{in_order}
use Rattle.signer.specs.Lives.{Spent}
use Rattle.records.specs.declared.keys.Key.TheVariants as keys
use Rattle.sign_keys.specs.Keys.{KeySecret, public_key}
use Rattle.sign_keys.specs.Kinds.{is_in_profile}
use Rattle.world_rules.specs.Counts.{nothing_counted}
use Rattle.world_rules.specs.Keys.{owner_key, setting_for}
use Rattle.world_rules.specs.Settings.{Setting, Signed, certificate, certificates, certified_from, is_liar, is_node, by_authority, members, nodes, record_of}
use Rattle.world_rules.specs.Worlds.{begun_world, spent_if_by, spent_of}
use Rattle.world_rules.proofs.Once.{authority-spent}
use Rattle.world_host.specs.Certifying.{Certifying}
use Rattle.world.specs.declared.liar.Liar.{Liar}
use Rattle.world_host.specs.Hosts.{HostState}
use Rattle.world_host.specs.KeySigning.{KeyState}
use Rattle.world_host.specs.Holding.{HoldsHost, IsWorld, made_place}
use Rattle.world.specs.Counting.{AreKept}
use Rattle.world.specs.Holding.{Holds, HoldsLiar, HoldsPlace, Kept, given_under}
use Rattle.world.specs.Testing.{IsClean}
use Rattle.world.specs.Opening.{AddsLiar, AddsNode, Builds, IsApart, IsNewLiar, listed_below, new_certificate, own_half, with_certificate}

-- ---- the numbers below one more

range-push : (a n : ℕ) → range_with_len a (suc n) ≡ range_with_len a n ++ (a + n) ∷ []
range-push a zero = ap (λ (k : ℕ). k ∷ []) (same a)
  where
    same : (a : ℕ) → a ≡ a + 0
    same a = omega arith
range-push a (suc n) = ap (λ (xs : List ℕ). a ∷ xs) (range-push (a + 1) n ∙ ap (λ (k : ℕ). range_with_len (a + 1) n ++ k ∷ []) (moved a n))
  where
    moved : (a n : ℕ) → a + 1 + n ≡ a + suc n
    moved a n = omega arith

pub kept-next : (p : ℕ → Bool) (n : ℕ) → filter p (range_with_len 0 (n + 1)) ≡ filter p (range_with_len 0 n) ++ cond (p n) (n ∷ []) []
kept-next p n =
    let more : range_with_len 0 (n + 1) ≡ range_with_len 0 n ++ n ∷ [] = ap (range_with_len 0) (next n) ∙ range-push 0 n ∙ ap (λ (k : ℕ). range_with_len 0 n ++ k ∷ []) (from-zero n) in
    ap (filter p) more ∙ filter-append p (range_with_len 0 n) (n ∷ [])
  where
    next : (n : ℕ) → n + 1 ≡ suc n
    next n = omega arith

    from-zero : (n : ℕ) → 0 + n ≡ n
    from-zero n = omega arith

pub listed-next : (listed : List ℕ) (n : ℕ) → listed_below listed (n + 1) ≡ listed_below listed n ++ cond (list_any (λ x. eqb x n) listed) (n ∷ []) []
listed-next listed n = kept-next (λ m. list_any (λ x. eqb x m) listed) n

pub any-either : (p : ℕ → Bool) (xs ys : List ℕ) → list_any p (xs ++ ys) ≡ (list_any p xs || list_any p ys)
any-either p [] ys = refl
any-either p (x ∷ xs) ys = elim (cases_Bool (p x)) [ inl holds ↦ rw holds refl | inr fails ↦ rw fails (any-either p xs ys) ]

-- ---- certificates

certified-push : (s : Setting) (i : ℕ) (ms : List ℕ) (m : ℕ) → certified_from s i (ms ++ m ∷ []) ≡ certified_from s i ms ++ record { who = None; index = i + length ms; body = Certificate (certificate s m) } ∷ []
certified-push s i [] m = ap (λ (k : ℕ). record { who = None; index = k; body = Certificate (certificate s m) } ∷ []) (same i)
  where
    same : (a : ℕ) → a ≡ a + 0
    same a = omega arith
certified-push s i (k ∷ ms) m =
    ap (λ (xs : List Signed). record { who = None; index = i; body = Certificate (certificate s k) } ∷ xs)
    (certified-push s (i + 1) ms m ∙ ap (λ (j : ℕ). certified_from s (i + 1) ms ++ record { who = None; index = j; body = Certificate (certificate s m) } ∷ []) (moved i (length ms)))
  where
    moved : (a n : ℕ) → a + 1 + n ≡ a + suc n
    moved a n = omega arith

-- ---- what is new

-- a host where no life has begun stands in the world that is begun
new-host : (s : Setting) (kinds : Kinds) (x : HostState) → HoldsHost s kinds (made_place s) [] x → HoldsPlace s kinds (begun_world s) x
unfolding begun_world
new-host s kinds x h = subst (λ (z : List Spent). HoldsHost s kinds (made_place s) z x) (sym (authority-spent s x.member)) h

-- and so does a liar that has signed nothing
new-liar : (s : Setting) (kinds : Kinds) (m : ℕ) (secret : KeySecret) (x : Liar) → IsNewLiar m secret x → secret ≡ owner_key s.group kinds (Some m) → HoldsLiar s kinds (begun_world s) x
unfolding begun_world
new-liar s kinds m secret x h own =
    record {
      key = ap (λ k. k.key) h.key ∙ own ∙ ap (λ (k : ℕ). owner_key s.group kinds (Some k)) (sym h.member);
      next = ap (λ k. k.next) h.key ∙ sym (ap length (authority-spent s x.member));
      signed = h.signed ∙ sym (ap (map (λ y. y.body)) (authority-spent s x.member));
    }

-- the record of the new certificate is the one that the setting tells
new-record : (g : Group) (kinds : Kinds) (heal : Option Heal) (correct liars : List ℕ) (a : Certifying) (signing : KeyState) (m index : ℕ) (secret : KeySecret) → a.group ≡ g → signing.key ≡ owner_key g kinds None → signing.next ≡ index → secret ≡ owner_key g kinds (Some m)
    → (new_certificate a signing m (public_key secret)).rec ≡ record_of (setting_for g kinds heal correct liars) (record { who = None; index = index; body = Certificate (certificate (setting_for g kinds heal correct liars) m) })
unfolding setting_for
new-record g kinds heal correct liars a signing m index secret group key next own = rw (group, key, next, own) refl

all-push : {X : Type 0} (P : X → Type 0) (xs : List X) (x : X) → AllByRecursion P xs → P x → AllByRecursion P (xs ++ x ∷ [])
all-push P [] x h new = (new, tt)
all-push P (y ∷ xs) x h new = (h.0, all-push P xs x h.1 new)

map-push : {X Y : Type 0} (f : X → Y) (xs : List X) (x : X) → map f (xs ++ x ∷ []) ≡ map f xs ++ f x ∷ []
map-push f [] x = refl
map-push {Y = Y} f (y ∷ xs) x = ap (λ (zs : List Y). f y ∷ zs) (map-push f xs x)

length-push : {X : Type 0} (xs : List X) (x : X) → length (xs ++ x ∷ []) ≡ length xs + 1
length-push [] x = refl
length-push (y ∷ xs) x = omega (arith, length-push xs x)

-- ---- one more member

-- The lists below the next number, where the member is listed so.
both-listed : (s : Setting) (m : ℕ) → (is_node s m || is_liar s m) ≡ true → listed_below (s.correct ++ s.liars) (m + 1) ≡ listed_below (s.correct ++ s.liars) m ++ m ∷ []
both-listed s m is =
    listed-next (s.correct ++ s.liars) m
    ∙ ap (λ (b : Bool). listed_below (s.correct ++ s.liars) m ++ cond b (m ∷ []) []) (any-either (λ x. eqb x m) s.correct s.liars ∙ is)

pub none-listed : (listed : List ℕ) (m : ℕ) → list_any (λ x. eqb x m) listed ≡ false → listed_below listed (m + 1) ≡ listed_below listed m
none-listed listed m not = listed-next listed m ∙ ap (λ (b : Bool). listed_below listed m ++ cond b (m ∷ []) []) not ∙ append-nil (listed_below listed m)

pub one-listed : (listed : List ℕ) (m : ℕ) → list_any (λ x. eqb x m) listed ≡ true → listed_below listed (m + 1) ≡ listed_below listed m ++ m ∷ []
one-listed listed m is = listed-next listed m ∙ ap (λ (b : Bool). listed_below listed m ++ cond b (m ∷ []) []) is

certified-more : (s : Setting) (kinds : Kinds) (m : ℕ) (signing : KeyState) (v : Kept) → s ≡ setting_for v.authority.group kinds s.heal s.correct s.liars
    → (is_node s m || is_liar s m) ≡ true → Builds s kinds m signing v
    → recs_of (with_certificate v signing m (own_half v kinds m)).authority.certificates ≡ map (record_of s) (certified_from s 0 (listed_below (s.correct ++ s.liars) (m + 1)))
certified-more s kinds m signing v made is h =
    let listed : List ℕ = listed_below (s.correct ++ s.liars) m in
    let signed : Signed = record { who = None; index = 0 + length listed; body = Certificate (certificate s m) } in
    let made_so : (new_certificate v.authority signing m (own_half v kinds m)).rec ≡ record_of s signed =
    subst (λ (z : Setting). (new_certificate v.authority signing m (own_half v kinds m)).rec ≡ record_of z (record { who = None; index = 0 + length listed; body = Certificate (certificate z m) })) (sym made)
    (new-record v.authority.group kinds s.heal s.correct s.liars v.authority signing m (0 + length listed) (owner_key v.authority.group kinds (Some m)) refl (h.key ∙ ap (λ (g : Group). owner_key g kinds None) (sym h.group)) (h.next ∙ from-zero (length listed)) refl) in
    map-push (λ (x : CheckedRecord). x.rec) v.authority.certificates (new_certificate v.authority signing m (own_half v kinds m))
    ∙ ap (λ (z : List Record). z ++ (new_certificate v.authority signing m (own_half v kinds m)).rec ∷ []) h.certified
    ∙ ap (λ (z : Record). map (record_of s) (certified_from s 0 listed) ++ z ∷ []) made_so
    ∙ sym (map-push (record_of s) (certified_from s 0 listed) signed)
    ∙ ap (map (record_of s)) (sym (certified-push s 0 listed m))
    ∙ ap (λ (z : List ℕ). map (record_of s) (certified_from s 0 z)) (sym (both-listed s m is))
  where
    from-zero : (n : ℕ) → n ≡ 0 + n
    from-zero n = omega arith

next-more : (s : Setting) (kinds : Kinds) (m : ℕ) (signing later : KeyState) (v : Kept) → later ≡ record signing { next = signing.next + 1 } → (is_node s m || is_liar s m) ≡ true → Builds s kinds m signing v
    → later.next ≡ length (listed_below (s.correct ++ s.liars) (m + 1))
next-more s kinds m signing later v step is h =
    ap (λ k. k.next) step ∙ ap (λ (n : ℕ). n + 1) h.next ∙ sym (length-push (listed_below (s.correct ++ s.liars) m) m) ∙ ap length (sym (both-listed s m is))

node-either : (s : Setting) (m : ℕ) → is_node s m ≡ true → (is_node s m || is_liar s m) ≡ true
node-either s m is = rw is refl

liar-either : (s : Setting) (m : ℕ) → is_liar s m ≡ true → (is_node s m || is_liar s m) ≡ true
liar-either s m is = elim (cases_Bool (is_node s m)) [ inl holds ↦ rw holds refl | inr fails ↦ rw fails is ]

pub builds-node : (s : Setting) (kinds : Kinds) (m : ℕ) (signing later : KeyState) (v new : Kept) → IsWorld s v.authority.group kinds → is_node s m ≡ true → is_liar s m ≡ false
    → AddsNode v new signing kinds m → later ≡ record signing { next = signing.next + 1 } → Builds s kinds m signing v → Builds s kinds (m + 1) later new
builds-node s kinds m signing later v new world node not a step h =
    subst (Builds s kinds (m + 1) later) (sym a.added)
    (record {
      key = ap (λ k. k.key) step ∙ h.key;
      next = next-more s kinds m signing later v step (node-either s m node) h;
      group = h.group;
      heal = h.heal;
      authority = h.authority;
      certified = certified-more s kinds m signing v world.made (node-either s m node) h;
      nodes = map-push (λ (x : HostState). x.member) v.hosts a.host ∙ ap (λ (z : List ℕ). z ++ a.host.member ∷ []) h.nodes ∙ ap (λ (k : ℕ). listed_below s.correct m ++ k ∷ []) a.member ∙ sym (one-listed s.correct m node);
      hosts = all-push (HoldsPlace s kinds (begun_world s)) v.hosts a.host h.hosts (new-host s kinds a.host (a.holds s world));
      lying = h.lying ∙ sym (none-listed s.liars m not);
      liars = h.liars;
      sent = h.sent;
      flowed = h.flowed;
      named = h.named;
      tested = h.tested;
      counts = h.counts;
    })

pub builds-liar : (s : Setting) (kinds : Kinds) (m : ℕ) (signing later : KeyState) (v new : Kept) → IsWorld s v.authority.group kinds → is_node s m ≡ false → is_liar s m ≡ true
    → AddsLiar v new signing kinds m → later ≡ record signing { next = signing.next + 1 } → Builds s kinds m signing v → Builds s kinds (m + 1) later new
builds-liar s kinds m signing later v new world not liar a step h =
    subst (Builds s kinds (m + 1) later) (sym a.added)
    (record {
      key = ap (λ k. k.key) step ∙ h.key;
      next = next-more s kinds m signing later v step (liar-either s m liar) h;
      group = h.group;
      heal = h.heal;
      authority = h.authority;
      certified = certified-more s kinds m signing v world.made (liar-either s m liar) h;
      nodes = h.nodes ∙ sym (none-listed s.correct m not);
      hosts = h.hosts;
      lying = map-push (λ (x : Liar). x.member) v.liars a.liar ∙ ap (λ (z : List ℕ). z ++ a.liar.member ∷ []) h.lying ∙ ap (λ (k : ℕ). listed_below s.liars m ++ k ∷ []) a.is_new.member ∙ sym (one-listed s.liars m liar);
      liars = all-push (HoldsLiar s kinds (begun_world s)) v.liars a.liar h.liars (new-liar s kinds m (owner_key v.authority.group kinds (Some m)) a.liar a.is_new (ap (λ (g : Group). owner_key g kinds (Some m)) h.group));
      sent = h.sent;
      flowed = h.flowed;
      named = h.named;
      tested = h.tested;
      counts = h.counts;
    })

pub builds-none : (s : Setting) (kinds : Kinds) (m : ℕ) (signing : KeyState) (v : Kept) → is_node s m ≡ false → is_liar s m ≡ false → Builds s kinds m signing v → Builds s kinds (m + 1) signing v
builds-none s kinds m signing v no_node no_liar h =
    record {
      key = h.key;
      next = h.next ∙ ap length (sym nobody);
      group = h.group;
      heal = h.heal;
      authority = h.authority;
      certified = h.certified ∙ ap (λ (z : List ℕ). map (record_of s) (certified_from s 0 z)) (sym nobody);
      nodes = h.nodes ∙ sym (none-listed s.correct m no_node);
      hosts = h.hosts;
      lying = h.lying ∙ sym (none-listed s.liars m no_liar);
      liars = h.liars;
      sent = h.sent;
      flowed = h.flowed;
      named = h.named;
      tested = h.tested;
      counts = h.counts;
    }
  where
    nobody : listed_below (s.correct ++ s.liars) (m + 1) ≡ listed_below (s.correct ++ s.liars) m
    nobody = none-listed (s.correct ++ s.liars) m (any-either (λ x. eqb x m) s.correct s.liars ∙ rw no_node no_liar)

-- ---- answers

pub both-ok : {T E : Type 0} (r : Result T E) (P Q R : Type 0) → (P → Q → R) → OnOk r P → OnOk r Q → OnOk r R
both-ok (Ok value) P Q R f p q = f p q
both-ok (Err fault) P Q R f p q = tt

pub mapped-none : {X Y : Type 0} (f : X → Y) (xs : List X) → xs ≡ [] → map f xs ≡ []
mapped-none f xs none = ap (map f) none

-- ---- the setting that is opened

node-made : (g : Group) (kinds : Kinds) (heal : Option Heal) (correct liars : List ℕ) (m : ℕ) → is_node (setting_for g kinds heal correct liars) m ≡ list_any (λ x. eqb x m) correct
unfolding setting_for
node-made g kinds heal correct liars m = refl

pub is-node-made : (g : Group) (kinds : Kinds) (heal : Option Heal) (correct liars : List ℕ) (s : Setting) → s ≡ setting_for g kinds heal correct liars → (m : ℕ) (b : Bool) → b ≡ list_any (λ x. eqb x m) correct → is_node s m ≡ b
is-node-made g kinds heal correct liars s is m b here = ap (λ (z : Setting). is_node z m) is ∙ node-made g kinds heal correct liars m ∙ sym here

liar-made : (g : Group) (kinds : Kinds) (heal : Option Heal) (correct liars : List ℕ) (m : ℕ) → is_liar (setting_for g kinds heal correct liars) m ≡ list_any (λ x. eqb x m) liars
unfolding setting_for
liar-made g kinds heal correct liars m = refl

pub is-liar-made : (g : Group) (kinds : Kinds) (heal : Option Heal) (correct liars : List ℕ) (s : Setting) → s ≡ setting_for g kinds heal correct liars → (m : ℕ) (b : Bool) → b ≡ list_any (λ x. eqb x m) liars → is_liar s m ≡ b
is-liar-made g kinds heal correct liars s is m b here = ap (λ (z : Setting). is_liar z m) is ∙ liar-made g kinds heal correct liars m ∙ sym here

pub is-apart : (g : Group) (kinds : Kinds) (heal : Option Heal) (correct liars : List ℕ) (s : Setting) → s ≡ setting_for g kinds heal correct liars → IsApart correct liars → (m : ℕ) → is_node s m ≡ true → is_liar s m ≡ false
is-apart g kinds heal correct liars s is apart m node =
    is-liar-made g kinds heal correct liars s is m false (sym (apart m (sym (is-node-made g kinds heal correct liars s is m (list_any (λ x. eqb x m) correct) refl) ∙ node)))

made-so : (g : Group) (kinds : Kinds) (heal : Option Heal) (correct liars : List ℕ) → setting_for g kinds heal correct liars ≡ setting_for g kinds (setting_for g kinds heal correct liars).heal (setting_for g kinds heal correct liars).correct (setting_for g kinds heal correct liars).liars
unfolding setting_for
made-so g kinds heal correct liars = refl

pub is-world : (g : Group) (kinds : Kinds) (heal : Option Heal) (correct liars : List ℕ) (s : Setting) → s ≡ setting_for g kinds heal correct liars → g.t ≤ MAX_TOLERANCE → is_in_profile kinds ≡ true → IsWorld s g kinds
is-world g kinds heal correct liars s is few profile = subst (λ (z : Setting). IsWorld z g kinds) (sym is) (record { made = made-so g kinds heal correct liars; few = few; profile = profile })

-- ---- the beginning and the end

-- An authority that has certified nobody.
abbrev pub new_authority : Group → Option Heal → PublicKey → Certifying
new_authority g heal key = record { group = g; heal = heal; key = key; certificates = [] }

-- Below 0 there is nobody.
pub builds-first : (g : Group) (kinds : Kinds) (heal : Option Heal) (correct liars : List ℕ) (signing : KeyState) (public : PublicKey) (v : Kept) → signing.key ≡ owner_key g kinds None → signing.next ≡ 0 → keys.Lms public ≡ public_key signing.key → v.authority ≡ new_authority g heal public
    → v.hosts ≡ [] → v.liars ≡ [] → v.sent ≡ [] → v.flowed ≡ 0 → v.named ≡ [] → v.tested ≡ [] → AreKept v.counts nothing_counted → Builds (setting_for g kinds heal correct liars) kinds 0 signing v
unfolding setting_for
builds-first g kinds heal correct liars signing public v key next half authority nobody no_liar sent flowed named tested counts =
    record {
      key = key;
      next = next;
      group = ap (λ a. a.group) authority;
      heal = ap (λ a. a.heal) authority;
      authority = ap keys.Lms (ap (λ a. a.key) authority) ∙ half ∙ ap public_key key;
      certified = ap (λ a. recs_of a.certificates) authority;
      nodes = ap (map (λ x. x.member)) nobody;
      hosts = subst (AllByRecursion (HoldsPlace (setting_for g kinds heal correct liars) kinds (begun_world (setting_for g kinds heal correct liars)))) (sym nobody) tt;
      lying = ap (map (λ x. x.member)) no_liar;
      liars = subst (AllByRecursion (HoldsLiar (setting_for g kinds heal correct liars) kinds (begun_world (setting_for g kinds heal correct liars)))) (sym no_liar) tt;
      sent = sent;
      flowed = flowed;
      named = named;
      tested = tested;
      counts = counts;
    }

-- all numbers are below the last one
listed-all : (listed : List ℕ) (n : ℕ) → n ≡ MEMBERS → in_order listed ≡ listed_below listed n
listed-all listed n all = ap (filter (λ m. list_any (λ x. eqb x m) listed)) all_length.1.are ∙ ap (listed_below listed) (all_length.1.long ∙ sym all)

all-nodes : (s : Setting) (n : ℕ) → n ≡ MEMBERS → nodes s ≡ listed_below s.correct n
unfolding nodes
all-nodes s n all = listed-all s.correct n all

all-certified : (s : Setting) (n : ℕ) → n ≡ MEMBERS → certificates s ≡ map (record_of s) (certified_from s 0 (listed_below (s.correct ++ s.liars) n))
unfolding by_authority members
all-certified s n all = ap (λ (ms : List ℕ). map (record_of s) (certified_from s 0 ms)) (listed-all (s.correct ++ s.liars) n all)

-- the authority has signed the bodies of the certificates
bodies-issued : (s : Setting) (i : ℕ) (ms : List ℕ) → map (λ y. y.body) (filter_map (spent_if_by None) (certified_from s i ms)) ≡ map (λ r. r.body) (map (record_of s) (certified_from s i ms))
bodies-issued s i [] = refl
bodies-issued s i (m ∷ ms) = ap (λ (bodies : List Body). Certificate (certificate s m) ∷ bodies) (bodies-issued s (i + 1) ms)

first-issued : (s : Setting) → map (λ y. y.body) (spent_of (begun_world s) None) ≡ map (λ r. r.body) (certificates s)
unfolding by_authority begun_world
first-issued s = bodies-issued s 0 (members s)

-- What is built of all members is the world that is begun.
pub holds-built : (s : Setting) (kinds : Kinds) (n : ℕ) (signing : KeyState) (v : Kept) → n ≡ MEMBERS → IsWorld s v.authority.group kinds → IsGroup v.authority.group → ((m : ℕ) → is_node s m ≡ true → is_liar s m ≡ false) → Builds s kinds n signing v → Holds s (begun_world s) [] v
unfolding begun_world
holds-built s kinds n signing v all world ranges apart h =
    record {
      kinds = kinds;
      world = world;
      ranges = ranges;
      authority = record { heal = h.heal; key = h.authority; certified = h.certified ∙ sym (all-certified s n all) };
      issued = first-issued s;
      apart = apart;
      idle = λ m other. refl;
      silent = λ m other honest. authority-spent s m;
      nodes = h.nodes ∙ sym (all-nodes s n all);
      hosts = h.hosts;
      lying = h.lying ∙ sym (listed-all s.liars n all);
      liars = h.liars;
      sent = h.sent;
      flowed = h.flowed;
      named = λ name. ap (λ (z : List (List ℕ × List ℕ)). given_under z name) h.named;
      tested = subst (AllByRecursion (IsClean s (begun_world s))) (sym h.tested) tt;
      counts = h.counts;
    }
