-- What is read off those who sign.
use Rattle.std.proofs.Common.{◌≡◌, ℕ, true, false, eqb, List, [], ◌∷◌, Option, Some, None, map, refl, ap, sym, ◌∙◌, subst}
use Rattle.std.specs.Prelude.{filter_map}
use Rattle.std.specs.List.{cons_option, slice_get}
use Rattle.records.specs.declared.Body.{Body}
use Rattle.sign_keys.specs.Keys.{index_count}
use Rattle.signer.specs.Lives.{Spent}
use Rattle.world_rules.specs.Refusals.{epoch_of_note, greatest, newest_signed}
use Rattle.world_rules.specs.Settings.{Setting}
use Rattle.world_rules.specs.Steps.{NodeEvent}
use Rattle.world_rules.specs.Worlds.{World as ModelWorld, next_of_liar, spent_of}
use Rattle.world.specs.declared.liar.Liar.{Liar}
use Rattle.world_host.specs.Hosts.{HostState}
use Rattle.world_host.proofs.WorldLemmas.{indexes-are, own-indexes}
use Rattle.world.specs.Holding.{Holds, Kept, liar_numbers, numbers}
use Rattle.world.specs.Courses.{key_used_up}
use Rattle.world.proofs.ChangeLemmas.{number-at}
use Rattle.world.proofs.LyingLemmas.{liar-at, liar-number}
use Rattle.world.proofs.HostLemmas.{host-at}

-- ---- the newest note

through-map : {X Y Z : Type 0} (f : X → Y) (g : Y → Option Z) (xs : List X) → filter_map g (map f xs) ≡ filter_map (λ x. g (f x)) xs
through-map f g [] = refl
through-map {Z = Z} f g (x ∷ xs) = ap (cons_option (g (f x))) (through-map f g xs)

pub newest-of : (w : ModelWorld) (m : ℕ) (bodies : List Body) → bodies ≡ map (λ y. y.body) (spent_of w (Some m)) → greatest (filter_map (epoch_of_note m) bodies) ≡ newest_signed w m
newest-of w m bodies is = ap (λ (z : List Body). greatest (filter_map (epoch_of_note m) z)) is ∙ ap greatest (through-map (λ (y : Spent). y.body) (epoch_of_note m) (spent_of w (Some m)))

pub newest-host : (s : Setting) (w : ModelWorld) (told : List NodeEvent) (v : Kept) (m at : ℕ) (x : HostState) → Holds s w told v → slice_get (numbers v) at ≡ Some m → slice_get v.hosts at ≡ Some x
    → greatest (filter_map (epoch_of_note x.member) x.signed) ≡ newest_signed w m
newest-host s w told v m at x h is found =
    newest-of w x.member x.signed (host-at s h.kinds w at v.hosts x found h.hosts).signed ∙ ap (newest_signed w) (number-at v.hosts m at x is found)

pub newest-liar : (s : Setting) (w : ModelWorld) (told : List NodeEvent) (v : Kept) (m at : ℕ) (x : Liar) → Holds s w told v → slice_get (liar_numbers v) at ≡ Some m → slice_get v.liars at ≡ Some x
    → greatest (filter_map (epoch_of_note m) x.signed.items) ≡ newest_signed w m
newest-liar s w told v m at x h is found =
    let own : x.member ≡ m = liar-number v.liars m at x is found in
    newest-of w m x.signed.items ((liar-at s h.kinds w at v.liars x found h.liars).signed ∙ ap (λ (k : ℕ). map (λ y. y.body) (spent_of w (Some k))) own)

pub newest-none : (w : ModelWorld) (m : ℕ) → spent_of w (Some m) ≡ [] → newest_signed w m ≡ None
newest-none w m is = ap (λ (z : List Spent). greatest (filter_map (λ x. epoch_of_note m x.body) z)) is

pub liar-next : (s : Setting) (w : ModelWorld) (told : List NodeEvent) (v : Kept) (m at : ℕ) (x : Liar) → Holds s w told v → slice_get (liar_numbers v) at ≡ Some m → slice_get v.liars at ≡ Some x → x.key.next ≡ next_of_liar w m
liar-next s w told v m at x h is found = (liar-at s h.kinds w at v.liars x found h.liars).next ∙ ap (next_of_liar w) (liar-number v.liars m at x is found)

-- a liar's key has as many indexes as all
pub liar-leaves : (s : Setting) (w : ModelWorld) (told : List NodeEvent) (v : Kept) (m at : ℕ) (x : Liar) → Holds s w told v → slice_get (liar_numbers v) at ≡ Some m → slice_get v.liars at ≡ Some x → index_count x.key.key ≡ s.indexes
liar-leaves s w told v m at x h is found =
    ap index_count (liar-at s h.kinds w at v.liars x found h.liars).key ∙ own-indexes s.group h.kinds x.member ∙ sym (indexes-are s v.authority.group h.kinds h.world)

pub used-true : (s : Setting) (w : ModelWorld) (key next read leaves : ℕ) → next ≡ next_of_liar w key → leaves ≡ s.indexes → read ≡ next → eqb next leaves ≡ true → Some read ≡ key_used_up s w key
used-true s w key next read leaves is all same used =
    let test : eqb (next_of_liar w key) s.indexes ≡ true = subst (λ (n : ℕ). eqb n s.indexes ≡ true) is (subst (λ (n : ℕ). eqb next n ≡ true) all used) in
    rw test (ap (λ (n : ℕ). Some n) (same ∙ is))

pub used-false : (s : Setting) (w : ModelWorld) (key next leaves : ℕ) → next ≡ next_of_liar w key → leaves ≡ s.indexes → eqb next leaves ≡ false → None ≡ key_used_up s w key
used-false s w key next leaves is all left =
    let test : eqb (next_of_liar w key) s.indexes ≡ false = subst (λ (n : ℕ). eqb n s.indexes ≡ false) is (subst (λ (n : ℕ). eqb next n ≡ false) all left) in
    rw test refl
