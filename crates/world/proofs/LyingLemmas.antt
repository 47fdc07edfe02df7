-- What is kept where a liar signs.
use Rattle.std.proofs.Common.{◌≡◌, ℕ, zero, suc, ◌+◌, ◌<◌, ◌≤◌, Bool, true, false, ◌||◌, eqb, List, [], ◌∷◌, ◌++◌, Option, Some, None, map, length, inl, inr, refl, ap, sym, ◌∙◌, subst, arith}
use Rattle.std.proofs.Math.ListN.{set}
use Rattle.std.specs.Prelude.{filter_map}
use Rattle.std.specs.List.{AllByRecursion, list_any, slice_get}
use Rattle.std.specs.Option.{option_map}
use Rattle.std.proofs.lemmas.Bool.{cases_Bool, eqb-true, eq-eqb, false≢true}
use Rattle.std.proofs.lemmas.Bool.Decides.{nat_tests}
use Rattle.std.proofs.lemmas.Option.{slice_get-map}
use Rattle.std.specs.Prelude.{Vec}
use Rattle.std.specs.Global.{Global}
use Rattle.ff_ids.specs.declared.Group.{Group}
use Rattle.ff_ids.specs.Heals.{Heal}
use Rattle.sign_keys.specs.declared.kinds.Kinds.{Kinds}
use Rattle.sign_keys.specs.Keys.{KeySecret}
use Rattle.datagram.specs.Spelling.{datagram_bytes}
use Rattle.datagram.specs.declared.Datagram.TheVariants as datagrams
use Rattle.records.specs.declared.Body.{Body}
use Rattle.records.specs.declared.Record.{Record}
use Rattle.records.specs.Signing.{CheckedRecord}
use Rattle.node_rules.specs.OnRings.{Rises}
use Rattle.signer.specs.Lives.{Spent}
use Rattle.signer.specs.Signing.{signed_by}
use Rattle.world_rules.specs.Keys.{owner_key, setting_for}
use Rattle.world_rules.specs.Settings.{Owner, Setting, Signed, is_liar, record_of, same_owner}
use Rattle.world_rules.specs.Worlds.{Named, World as ModelWorld, named_so, next_of_liar, spent_if_by, spent_of}
use Rattle.world_rules.specs.Steps.{NodeEvent, given_bytes, lies}
use Rattle.world_rules.proofs.Once.{own-push}
use Rattle.world.specs.declared.liar.Given.{Given}
use Rattle.world.specs.declared.liar.Liar.{Liar}
use Rattle.world_host.specs.Hosts.{HostState}
use Rattle.world.specs.Lying.{Lied}
use Rattle.world.specs.Holding.{Holds, HoldsLiar, HoldsPlace, Kept, given_under}
use Rattle.world.proofs.Clean.{all_clean_still}
use Rattle.world.proofs.NameLemmas.{Entries, entries_of, put, put-named}
use Rattle.world.proofs.PlaceLemmas.{kept-listed, listed-node, rises-in_order}
use Rattle.world.proofs.HostLemmas.{host-stays}

-- ---- signatures

signs_other : (who : Owner) (x : Signed) (signed : List Signed) → same_owner x.who who ≡ false → filter_map (spent_if_by who) (signed ++ x ∷ []) ≡ filter_map (spent_if_by who) signed
signs_other who x [] apart = rw apart refl
signs_other who x (y ∷ signed) apart =
    elim (cases_Bool (same_owner y.who who)) [
      | inl own ↦ rw own (ap (λ (z : List Spent). record { index = y.index; body = y.body } ∷ z) (signs_other who x signed apart))
      | inr other ↦ rw other (signs_other who x signed apart)
    ]

-- ---- liars

some-same : (x m : ℕ) → Some x ≡ Some m → x ≡ m
some-same x m e = cc

lied-holds : (s : Setting) (kinds : Kinds) (w : ModelWorld) (x later : Liar) (body : Body) (name : List ℕ) → Lied x later body → HoldsLiar s kinds w x → HoldsLiar s kinds (lies s x.member body name w).world later
lied-holds s kinds w x later body name l h =
    let index : ℕ = next_of_liar w x.member in
    let grown = own-push x.member index body w.signed in
    let after : ModelWorld = (lies s x.member body name w).world in
    let spent : spent_of after (Some later.member) ≡ spent_of w (Some x.member) ++ record { index = index; body = body } ∷ [] = ap (λ (k : ℕ). spent_of after (Some k)) l.member ∙ grown in
    record {
      key = ap (λ k. k.key) l.key ∙ h.key ∙ ap (λ (k : ℕ). owner_key s.group kinds (Some k)) (sym l.member);
      next = ap (λ k. k.next) l.key ∙ ap (λ (n : ℕ). n + 1) h.next ∙ sym (ap length spent ∙ length-push (spent_of w (Some x.member)) _);
      signed = l.signed ∙ ap (λ (z : List Body). z ++ body ∷ []) h.signed ∙ sym (ap (map (λ y. y.body)) spent ∙ map-push (λ (y : Spent). y.body) (spent_of w (Some x.member)) _);
    }
  where
    length-push : (xs : List Spent) (y : Spent) → length (xs ++ y ∷ []) ≡ length xs + 1
    length-push [] y = refl
    length-push (z ∷ xs) y = omega (arith, length-push xs y)

    map-push : (f : Spent → Body) (xs : List Spent) (y : Spent) → map f (xs ++ y ∷ []) ≡ map f xs ++ f y ∷ []
    map-push f [] y = refl
    map-push f (z ∷ xs) y = ap (λ (zs : List Body). f z ∷ zs) (map-push f xs y)

-- Nothing becomes of what this liar has spent.
liar-stays : (s : Setting) (kinds : Kinds) (w later : ModelWorld) (x : Liar) → spent_of later (Some x.member) ≡ spent_of w (Some x.member) → HoldsLiar s kinds w x → HoldsLiar s kinds later x
liar-stays s kinds w later x same h =
    record { key = h.key; next = h.next ∙ sym (ap length same); signed = h.signed ∙ sym (ap (map (λ y. y.body)) same) }

liars-stay-above : (s : Setting) (kinds : Kinds) (w later : ModelWorld) (m low : ℕ) (xs : List Liar) → m < low → Rises low (map (λ x. x.member) xs) → ((k : ℕ) → eqb k m ≡ false → spent_of later (Some k) ≡ spent_of w (Some k))
    → AllByRecursion (HoldsLiar s kinds w) xs → AllByRecursion (HoldsLiar s kinds later) xs
liars-stay-above s kinds w later m low [] above rises same h = tt
liars-stay-above s kinds w later m low (x ∷ xs) above rises same h =
    let apart : eqb x.member m ≡ false = other x.member m (omega (arith, rises.0)) in
    (liar-stays s kinds w later x (same x.member apart) h.0, liars-stay-above s kinds w later m (x.member + 1) xs (omega (arith, rises.0)) rises.1 same h.1)
  where
    other : (a b : ℕ) → b < a → eqb a b ≡ false
    other a b l = grind (arith, nat_tests)

above-first : (low m at : ℕ) (numbers : List ℕ) → Rises low numbers → slice_get numbers at ≡ Some m → low ≤ m
above-first low m at [] rises is = cc
above-first low m zero (x ∷ numbers) rises is = let same : x ≡ m = some-same x m is in omega (arith, rises.0, same)
above-first low m (suc at) (x ∷ numbers) rises is = let h = above-first (x + 1) m at numbers rises.1 is in omega (arith, rises.0, h)

liar-changes : (s : Setting) (kinds : Kinds) (w later : ModelWorld) (m low at : ℕ) (xs : List Liar) (x : Liar) → Rises low (map (λ x. x.member) xs) → slice_get (map (λ x. x.member) xs) at ≡ Some m
    → ((k : ℕ) → eqb k m ≡ false → spent_of later (Some k) ≡ spent_of w (Some k)) → HoldsLiar s kinds later x → AllByRecursion (HoldsLiar s kinds w) xs → AllByRecursion (HoldsLiar s kinds later) (set xs at x)
liar-changes s kinds w later m low at [] x rises is same new h = cc
liar-changes s kinds w later m low zero (y ∷ xs) x rises is same new h =
    let here : y.member ≡ m = some-same y.member m is in
    (new, liars-stay-above s kinds w later m (y.member + 1) xs (omega (arith, here)) rises.1 same h.1)
liar-changes s kinds w later m low (suc at) (y ∷ xs) x rises is same new h =
    let above : y.member + 1 ≤ m = above-first (y.member + 1) m at (map (λ x. x.member) xs) rises.1 is in
    let apart : eqb y.member m ≡ false = below y.member m above in
    (liar-stays s kinds w later y (same y.member apart) h.0, liar-changes s kinds w later m (y.member + 1) at xs x rises.1 is same new h.1)
  where
    below : (a b : ℕ) → a + 1 ≤ b → eqb a b ≡ false
    below a b l = grind (arith, nat_tests)

pub liar-at : (s : Setting) (kinds : Kinds) (w : ModelWorld) (at : ℕ) (xs : List Liar) (x : Liar) → slice_get xs at ≡ Some x → AllByRecursion (HoldsLiar s kinds w) xs → HoldsLiar s kinds w x
liar-at s kinds w at [] x is h = cc
liar-at s kinds w zero (y ∷ xs) x is h = subst (HoldsLiar s kinds w) (same y x is) h.0
  where
    same : (a b : Liar) → Some a ≡ Some b → a ≡ b
    same a b e = cc
liar-at s kinds w (suc at) (y ∷ xs) x is h = liar-at s kinds w at xs x is h.1

pub liar-number : (xs : List Liar) (m at : ℕ) (x : Liar) → slice_get (map (λ y. y.member) xs) at ≡ Some m → slice_get xs at ≡ Some x → x.member ≡ m
liar-number xs m at x is found = some-same x.member m (sym (slice_get-map (λ (y : Liar). y.member) xs at ∙ ap (option_map (λ (y : Liar). y.member)) found) ∙ is)

members-set : (xs : List Liar) (at : ℕ) (x : Liar) → slice_get (map (λ y. y.member) xs) at ≡ Some x.member → map (λ y. y.member) (set xs at x) ≡ map (λ y. y.member) xs
members-set [] at x is = refl
members-set (y ∷ xs) zero x is = ap (λ (k : ℕ). k ∷ map (λ y. y.member) xs) (sym (some-same y.member x.member is))
members-set (y ∷ xs) (suc at) x is = ap (λ (ks : List ℕ). y.member ∷ ks) (members-set xs at x is)

-- ---- nodes are others

hosts-same : (s : Setting) (kinds : Kinds) (w later : ModelWorld) (key : ℕ) (xs : List HostState) → ((k : ℕ) → later.hosts k ≡ w.hosts k) → ((k : ℕ) → eqb k key ≡ false → spent_of later (Some k) ≡ spent_of w (Some k))
    → list_any (λ k. eqb k key) (map (λ x. x.member) xs) ≡ false → AllByRecursion (HoldsPlace s kinds w) xs → AllByRecursion (HoldsPlace s kinds later) xs
hosts-same s kinds w later key [] places same none h = tt
hosts-same s kinds w later key (x ∷ xs) places same none h =
    let parts = both-fail (eqb x.member key) (list_any (λ k. eqb k key) (map (λ x. x.member) xs)) none in
    (host-stays s kinds w later x (record { host = places x.member; spent = same x.member parts.0 }) h.0, hosts-same s kinds w later key xs places same parts.1 h.1)
  where
    both-fail : (a b : Bool) → (a || b) ≡ false → (a ≡ false) × (b ≡ false)
    both-fail true b e = absurd (false≢true (sym e))
    both-fail false b e = (refl, e)

-- ---- the whole

pub holds-lied : (s : Setting) (w : ModelWorld) (told : List NodeEvent) (v : Kept) (key at : ℕ) (x later : Liar) (body : Body) (name : List ℕ) (named : List (List ℕ × List ℕ)) → Holds s w told v → slice_get (map (λ y. y.member) v.liars) at ≡ Some key
    → slice_get v.liars at ≡ Some x → Lied x later body → ((other : List ℕ) → given_under named other ≡ option_map given_bytes (named_so (lies s key body name w).world other))
    → Holds s (lies s key body name w).world told (record v { liars = set v.liars at later; named = named })
holds-lied s w told v key at x later body name named h is found lied under =
    let signed : Signed = record { who = Some key; index = next_of_liar w key; body = body } in
    let after : ModelWorld = (lies s key body name w).world in
    let own : x.member ≡ key = some-same x.member key (sym (slice_get-map (λ (y : Liar). y.member) v.liars at ∙ ap (option_map (λ (y : Liar). y.member)) found) ∙ is) in
    let liar : is_liar s key ≡ true = kept-listed s.liars (map (λ y. y.member) v.liars) key at h.lying is in
    let others : (k : ℕ) → eqb k key ≡ false → spent_of after (Some k) ≡ spent_of w (Some k) = λ k apart. signs_other (Some k) signed w.signed (swapped k key apart) in
    record {
      kinds = h.kinds;
      world = h.world;
      ranges = h.ranges;
      authority = h.authority;
      issued = ap (map (λ y. y.body)) (signs_other None signed w.signed refl) ∙ h.issued;
      apart = h.apart;
      idle = h.idle;
      silent = λ k no_node no_liar. others k (differ k key no_liar liar) ∙ h.silent k no_node no_liar;
      nodes = h.nodes;
      hosts = hosts-same s h.kinds w after key v.hosts (λ k. refl) others (no-node key liar) h.hosts;
      lying = members-set v.liars at later (is ∙ ap (λ (k : ℕ). Some k) (sym (lied.member ∙ own))) ∙ h.lying;
      liars = liar-changes s h.kinds w after key 0 at v.liars later (subst (Rises 0) (sym h.lying) (rises-in_order s.liars)) is others
          (subst (λ (k : ℕ). HoldsLiar s h.kinds (lies s k body name w).world later) own (lied-holds s h.kinds w x later body name lied (liar-at s h.kinds w at v.liars x found h.liars))) h.liars;
      sent = h.sent;
      flowed = h.flowed;
      named = under;
      tested = all_clean_still s w after v.tested (record { more = signed ∷ []; is = refl }) h.tested;
      counts = h.counts;
    }
  where
    swapped : (a b : ℕ) → eqb a b ≡ false → eqb b a ≡ false
    swapped a b e = elim (cases_Bool (eqb b a)) [ inl same ↦ absurd (false≢true (sym e ∙ eq-eqb a b (sym (eqb-true b a same)))) | inr apart ↦ apart ]

    differ : (k key : ℕ) → is_liar s k ≡ false → is_liar s key ≡ true → eqb k key ≡ false
    differ k key fails holds = elim (cases_Bool (eqb k key)) [ inl same ↦ absurd (false≢true (sym fails ∙ ap (is_liar s) (eqb-true k key same) ∙ holds)) | inr apart ↦ apart ]

    no-node : (key : ℕ) → is_liar s key ≡ true → list_any (λ k. eqb k key) (map (λ x. x.member) v.hosts) ≡ false
    no-node key holds =
        elim (cases_Bool (list_any (λ k. eqb k key) (map (λ x. x.member) v.hosts))) [
          | inl there ↦ absurd (false≢true (sym (h.apart key (listed-node s (map (λ x. x.member) v.hosts) key h.nodes there)) ∙ holds))
          | inr apart ↦ apart
        ]

-- ---- the record

-- The record of a signature is the one that the setting tells.
own-record : (g : Group) (kinds : Kinds) (heal : Option Heal) (correct liars : List ℕ) (who : Owner) (key : KeySecret) (next index : ℕ) (body : Body) → key ≡ owner_key (setting_for g kinds heal correct liars).group kinds who → next ≡ index
    → (signed_by g key next body).rec ≡ record_of (setting_for g kinds heal correct liars) (record { who = who; index = index; body = body })
unfolding setting_for
own-record g kinds heal correct liars who key next index body own same = rw (own, same) refl

signed-record : (s : Setting) (g : Group) (kinds : Kinds) (who : Owner) (key : KeySecret) (next index : ℕ) (body : Body) → s ≡ setting_for g kinds s.heal s.correct s.liars → key ≡ owner_key s.group kinds who → next ≡ index
    → (signed_by g key next body).rec ≡ record_of s (record { who = who; index = index; body = body })
signed-record s g kinds who key next index body made own same =
    subst (λ (z : Setting). (signed_by g key next body).rec ≡ record_of z (record { who = who; index = index; body = body })) (sym made)
    (own-record g kinds s.heal s.correct s.liars who key next index body (own ∙ ap (λ (z : Setting). owner_key z.group kinds who) made) same)

-- What a liar signs and keeps.
pub record Signs (v : Kept) (at : ℕ) (x later : Liar) (body : Body) (checked : CheckedRecord) (name : List ℕ) (k : Vec ℕ Global) (g : Given) : Type 0 where
  pub found : slice_get v.liars at ≡ Some x
  pub lied : Lied x later body
  pub signed : checked ≡ signed_by v.authority.group x.key.key x.key.next body
  pub bytes : g.bytes ≡ datagram_bytes (datagrams.Records later.member (checked.rec ∷ []))
  pub key : k.items ≡ name

pub lie-holds : (s : Setting) (w : ModelWorld) (told : List NodeEvent) (v : Kept) (key at : ℕ) (x later : Liar) (body : Body) (checked : CheckedRecord) (name : List ℕ) (k : Vec ℕ Global) (g : Given) (es : Entries) → Holds s w told v
    → slice_get (map (λ y. y.member) v.liars) at ≡ Some key → v.named ≡ entries_of es → Signs v at x later body checked name k g
    → (x.key.next ≡ next_of_liar w key) × Holds s (lies s key body name w).world told (record v { liars = set v.liars at later; named = entries_of (put es k g) })
lie-holds s w told v key at x later body checked name k g es h is kept signs =
    let index : ℕ = next_of_liar w key in
    let signed : Signed = record { who = Some key; index = index; body = body } in
    let new : Named = record { name = name; key = key; kept = record_of s signed } in
    let own : x.member ≡ key = liar-number v.liars key at x is signs.found in
    let liar : HoldsLiar s h.kinds w x = liar-at s h.kinds w at v.liars x signs.found h.liars in
    let next : x.key.next ≡ index = liar.next ∙ ap (next_of_liar w) own in
    let secret : x.key.key ≡ owner_key s.group h.kinds (Some key) = liar.key ∙ ap (λ (m : ℕ). owner_key s.group h.kinds (Some m)) own in
    let made : checked.rec ≡ record_of s signed =
    ap (λ (r : CheckedRecord). r.rec) signs.signed ∙ signed-record s v.authority.group h.kinds (Some key) x.key.key x.key.next index body h.world.made secret next in
    let bytes : g.bytes ≡ given_bytes new =
    signs.bytes ∙ ap (λ (m : ℕ). datagram_bytes (datagrams.Records m (checked.rec ∷ []))) (signs.lied.member ∙ own) ∙ ap (λ (r : Record). datagram_bytes (datagrams.Records key (r ∷ []))) made in
    let before : (other : List ℕ) → given_under (entries_of es) other ≡ option_map given_bytes (named_so w other) = λ other. ap (λ (z : List (List ℕ × List ℕ)). given_under z other) (sym kept) ∙ h.named other in
    (next, holds-lied s w told v key at x later body name (entries_of (put es k g)) h is signs.found signs.lied (put-named es k g new w.named signs.key bytes before))
