-- Who has signed what, and for whom a record is forged.
use Rattle.std.proofs.Common.{◌≡◌, ℕ, zero, suc, ◌<◌, ◌≤◌, arith, drop, drop-cons, get_or, length, Bool, true, false, ◌&&◌, ◌||◌, not, List, [], ◌∷◌, ◌++◌, Option, Some, None, map, inl, inr, refl, ap, sym, ◌∙◌, subst}
use Rattle.std.specs.Prelude.{filter_map, find, bytes_eq, is_err, Result, Ok, Err}
use Rattle.std.proofs.lemmas.Slice.Eq.{bytes_eq-Decides}
use Rattle.std.specs.List.{list_any, AllByRecursion, slice_get}
use Rattle.std.specs.Option.{option_map, option_or}
use Rattle.std.specs.Result.{is_ok}
use Rattle.std.proofs.lemmas.Bool.{cases_Bool, false≢true}
use Rattle.ff_ids.specs.declared.Group.{Group}
use Rattle.ff_ids.specs.Heals.{Heal}
use Rattle.sign_keys.specs.declared.kinds.Kinds.{Kinds}
use Rattle.records.specs.declared.keys.Key.{Key}
use Rattle.records.specs.Keys.{verdict_of}
use Rattle.records.specs.declared.Body.{Body}
use Rattle.records.specs.declared.Record.{Record}
use Rattle.records.specs.Signing.{CheckedRecord, signed_bytes}
use Rattle.records.specs.Spelling.{IsRecord, record_bytes}
use Rattle.records.specs.declared.fault.FormFault.TheVariants as forms
use Rattle.records.proofs.Records.{records_one}
use Rattle.datagram.specs.declared.Datagram.{Datagram}
use Rattle.datagram.specs.Grammar.{GivesDatagram, read_of}
use Rattle.datagram.specs.Spelling.{IsSignedRecord}
use Rattle.node_core.specs.Rolls.{recs_of}
use Rattle.world_rules.specs.Keys.{setting_for}
use Rattle.world_rules.specs.Settings.{Owner, Setting, Signed, nodes, same_body, same_owner}
use Rattle.world_rules.specs.Worlds.{World as ModelWorld, spent_if_by, spent_of}
use Rattle.world_rules.specs.Forgeries.{Forgery, first_forgery, forgery, forgery_by, forgery_in, has_signed, is_forged_for}
use Rattle.world_rules.specs.Steps.{NodeEvent}
use Rattle.world.specs.declared.fault.WorldFault.{WorldFault}
use Rattle.world.specs.declared.fault.WorldFault.TheVariants as faults
use Rattle.world.specs.Testing.{IsClean, IsForged, forged_in}
use Rattle.world.specs.Holding.{Holds, Kept}
use Rattle.world.specs.Courses.{Tests}
use Rattle.world.proofs.WorldLemmas.{holds-tested}
use Rattle.world_host.specs.Bodies.{is_among}

-- ---- who has signed

any-spent : (who : Owner) (body : Body) (signed : List Signed) → list_any (λ x. same_owner x.who who && same_body x.body body) signed ≡ is_among (map (λ y. y.body) (filter_map (spent_if_by who) signed)) body
any-spent who body [] = refl
any-spent who body (x ∷ signed) =
    elim (cases_Bool (same_owner x.who who)) [
      | inl own ↦ rw own (ap (λ (b : Bool). same_body x.body body || b) (any-spent who body signed))
      | inr other ↦ rw other (any-spent who body signed)
    ]

pub signed-is : (w : ModelWorld) (who : Owner) (body : Body) (bodies : List Body) → bodies ≡ map (λ y. y.body) (spent_of w who) → is_among bodies body ≡ has_signed w who body
signed-is w who body bodies is = ap (λ (z : List Body). is_among z body) is ∙ sym (any-spent who body w.signed)

recs-bodies : (xs : List CheckedRecord) → map (λ x. x.rec.body) xs ≡ map (λ r. r.body) (recs_of xs)
recs-bodies [] = refl
recs-bodies (x ∷ xs) = ap (λ (z : List Body). x.rec.body ∷ z) (recs-bodies xs)

pub authority-signed : (s : Setting) (w : ModelWorld) (told : List NodeEvent) (v : Kept) (body : Body) → Holds s w told v → is_among (map (λ x. x.rec.body) v.authority.certificates) body ≡ has_signed w None body
authority-signed s w told v body h = signed-is w None body _ (recs-bodies v.authority.certificates ∙ ap (map (λ r. r.body)) h.authority.certified ∙ sym h.issued)

-- ---- what verifies

pub setting-verifies : (s : Setting) (g : Group) (kinds : Kinds) (heal : Option Heal) (correct liars : List ℕ) (key : Key) (r : Record) → s ≡ setting_for g kinds heal correct liars → is_ok (verdict_of key (signed_bytes g.tag g.t r.body) r.signature) ≡ s.verifies key r
unfolding setting_for
setting-verifies s g kinds heal correct liars key r is = ap (λ (z : Setting). z.verifies key r) (sym is)

swapped-test : (a b : Bool) → (not a && b) ≡ (b && not a)
swapped-test true true = refl
swapped-test true false = refl
swapped-test false true = refl
swapped-test false false = refl

pub forged-is : (s : Setting) (w : ModelWorld) (r : Record) (who : Owner) (signed verifies : Bool) → signed ≡ has_signed w who r.body → verifies ≡ s.verifies (s.key who) r → (not signed && verifies) ≡ is_forged_for s w r who
forged-is s w r who signed verifies is can = rw (is, can) (swapped-test (has_signed w who r.body) (s.verifies (s.key who) r))

-- ---- the first

find-some : (p : Owner → Bool) (ms : List ℕ) → find p (map (λ (m : ℕ). Some m) ms) ≡ option_map (λ (m : ℕ). Some m) (find (λ m. p (Some m)) ms)
find-some p [] = refl
find-some p (m ∷ ms) =
    elim (cases_Bool (p (Some m))) [
      | inl here ↦ rw here refl
      | inr later ↦ rw later (find-some p ms)
    ]

pub forgery-none : (s : Setting) (w : ModelWorld) (r : Record) → is_forged_for s w r None ≡ true → forgery_by s w r ≡ Some (record { who = None; body = r.body })
forgery-none s w r h = rw h refl

abbrev pub node_forgery : Record → Option ℕ → Option Forgery
node_forgery r None = None
node_forgery r (Some m) = Some (record { who = Some m; body = r.body })

mapped : (r : Record) (o : Option ℕ) (f : Owner → Forgery) → f ≡ (λ who. record { who = who; body = r.body }) → option_map f (option_map (λ (m : ℕ). Some m) o) ≡ node_forgery r o
mapped r None f is = refl
mapped r (Some m) f is = ap (λ (g : Owner → Forgery). Some (g (Some m))) is

pub forgery-node : (s : Setting) (w : ModelWorld) (r : Record) → is_forged_for s w r None ≡ false → forgery_by s w r ≡ node_forgery r (find (λ m. is_forged_for s w r (Some m)) (nodes s))
forgery-node s w r h =
    let p : Owner → Bool = is_forged_for s w r in
    let f : Owner → Forgery = λ who. record { who = who; body = r.body } in
    rw h (ap (option_map f) (find-some p (nodes s)) ∙ mapped r (find (λ m. p (Some m)) (nodes s)) f refl)

-- ---- spellings

pub any-mapped : {X Y : Type 0} (f : X → Y) (p : Y → Bool) (xs : List X) → list_any (λ x. p (f x)) xs ≡ list_any p (map f xs)
any-mapped f p [] = refl
any-mapped f p (x ∷ xs) = rw (any-mapped f p xs) refl

pub items-push : {X Y : Type 0} (f : X → Y) (xs : List X) (x : X) → map f (xs ++ x ∷ []) ≡ map f xs ++ f x ∷ []
items-push f [] x = refl
items-push {Y = Y} f (y ∷ xs) x = ap (λ (zs : List Y). f y ∷ zs) (items-push f xs x)

-- ---- tests

pub verifies-as : (s : Setting) (g group : Group) (kinds : Kinds) (key k : Key) (r : Record) (b : Bool) → b ≡ is_ok (verdict_of key (signed_bytes group.tag group.t r.body) r.signature) → group ≡ g → key ≡ k
    → s ≡ setting_for g kinds s.heal s.correct s.liars → b ≡ s.verifies k r
verifies-as s g group kinds key k r b is same_group same_key made =
    is ∙ ap (λ (z : Group). is_ok (verdict_of key (signed_bytes z.tag z.t r.body) r.signature)) same_group
    ∙ ap (λ (z : Key). is_ok (verdict_of z (signed_bytes g.tag g.t r.body) r.signature)) same_key ∙ setting-verifies s g kinds s.heal s.correct s.liars k r made

pub forged-then : (s : Setting) (w : ModelWorld) (r : Record) (who : Owner) (signed verifies : Bool) → signed ≡ has_signed w who r.body → verifies ≡ s.verifies (s.key who) r → signed ≡ false → verifies ≡ is_forged_for s w r who
forged-then s w r who signed verifies is can fails = sym (ap (λ (b : Bool). not b && verifies) fails) ∙ forged-is s w r who signed verifies is can

pub forged-else : (s : Setting) (w : ModelWorld) (r : Record) (who : Owner) (signed : Bool) → signed ≡ has_signed w who r.body → signed ≡ true → false ≡ is_forged_for s w r who
forged-else s w r who signed is so = sym (ap (λ (b : Bool). not b && s.verifies (s.key who) r) so) ∙ forged-is s w r who signed (s.verifies (s.key who) r) is refl

-- ---- what was tested

among-clean : (s : Setting) (w : ModelWorld) (tested : List (List ℕ)) (bytes : List ℕ) → list_any (bytes_eq bytes) tested ≡ true → AllByRecursion (IsClean s w) tested → IsClean s w bytes
among-clean s w [] bytes found clean = absurd (false≢true found)
among-clean s w (x ∷ tested) bytes found clean =
    elim (cases_Bool (bytes_eq bytes x)) [
      | inl here ↦ subst (IsClean s w) (sym ((bytes_eq-Decides bytes x).0 here)) clean.0
      | inr later ↦ let rest : list_any (bytes_eq bytes) tested ≡ true = rw later at found in among-clean s w tested bytes rest clean.1
    ]

spelled-so : (r : Record) → IsSignedRecord r → IsRecord (record_bytes r) r
spelled-so r h = record { body = h.body; signature = h.signature; spelled = refl }

-- a record that was tested is not forged
pub tested-clean : (s : Setting) (w : ModelWorld) (told : List NodeEvent) (v : Kept) (r : Record) (bytes : List ℕ) → Holds s w told v → IsSignedRecord r → bytes ≡ record_bytes r → list_any (bytes_eq bytes) v.tested ≡ true → forgery_by s w r ≡ None
tested-clean s w told v r bytes h signed is found =
    among-clean s w v.tested bytes found h.tested r (subst (λ (z : List ℕ). IsRecord z r) (sym is) (spelled-so r signed))

clean-push : (s : Setting) (w : ModelWorld) (tested : List (List ℕ)) (bytes : List ℕ) → AllByRecursion (IsClean s w) tested → IsClean s w bytes → AllByRecursion (IsClean s w) (tested ++ bytes ∷ [])
clean-push s w [] bytes clean new = (new, tt)
clean-push s w (x ∷ tested) bytes clean new = (clean.0, clean-push s w tested bytes clean.1 new)

-- a spelling is that of one record
one-record : (s : Setting) (w : ModelWorld) (r : Record) (bytes : List ℕ) → IsSignedRecord r → bytes ≡ record_bytes r → forgery_by s w r ≡ None → IsClean s w bytes
one-record s w r bytes signed is fine other spelled =
    let both = records_one bytes bytes [] [] r other (subst (λ (z : List ℕ). IsRecord z r) (sym is) (spelled-so r signed)) spelled refl in
    subst (λ (z : Record). forgery_by s w z ≡ None) both.1 fine

-- and it is kept that it was tested
pub tests-put : (s : Setting) (w : ModelWorld) (told : List NodeEvent) (v : Kept) (r : Record) (bytes : List ℕ) → Holds s w told v → IsSignedRecord r → bytes ≡ record_bytes r → forgery_by s w r ≡ None → Holds s w told (record v { tested = v.tested ++ bytes ∷ [] })
tests-put s w told v r bytes h signed is fine = holds-tested s w told v (v.tested ++ bytes ∷ []) (clean-push s w v.tested bytes h.tested (one-record s w r bytes signed is fine)) h

-- ---- what is read

pub read-is : (r : Result Datagram ℕ) (d : Datagram) → GivesDatagram r (Ok d) → r ≡ Ok d
read-is (Ok e) d h = ap (λ (z : Datagram). Ok z) (sym h)
read-is (Err place) d h = cc

pub bad-is : (s : Setting) (w : ModelWorld) (r : Result Datagram ℕ) (place : ℕ) → GivesDatagram r (Err (forms.BadForm place)) → forgery_in s w r ≡ None
bad-is s w (Ok d) place h = let never : forms.BadForm place ≡ forms.OutOfMemory = h.0 in cc
bad-is s w (Err found) place h = refl

-- what a fault names is found
pub tests-fault : (s : Setting) (w : ModelWorld) (told : List NodeEvent) (v : Kept) (found : Option Forgery) (fault : WorldFault) → IsForged fault → forged_in fault ≡ found → Tests s w told v found (Err fault)
tests-fault s w told v found (faults.Forged who body) h is = sym is
tests-fault s w told v found faults.OutOfMemory h is = absurd h

-- ---- the first in a loop

pub find-next : (p : ℕ → Bool) (xs : List ℕ) (i : ℕ) → ((m : ℕ) → slice_get xs i ≡ Some m → p m ≡ false) → find p (drop i xs) ≡ find p (drop (suc i) xs)
find-next p [] zero h = refl
find-next p [] (suc i) h = refl
find-next p (x ∷ xs) zero h = rw (h x refl) refl
find-next p (x ∷ xs) (suc i) h = find-next p xs i h

pub find-here : (p : ℕ → Bool) (xs : List ℕ) (i m : ℕ) → slice_get xs i ≡ Some m → p m ≡ true → find p (drop i xs) ≡ Some m
find-here p [] i m is h = cc
find-here p (x ∷ xs) zero m is h = let same : x ≡ m = some-same x m is in let here : p x ≡ true = ap p same ∙ h in rw here is
  where
    some-same : (a b : ℕ) → Some a ≡ Some b → a ≡ b
    some-same a b e = cc
find-here p (x ∷ xs) (suc i) m is h = find-here p xs i m is h

pub find-past : (p : ℕ → Bool) (xs : List ℕ) (i : ℕ) → length xs ≤ i → find p (drop i xs) ≡ None
find-past p [] zero low = refl
find-past p [] (suc i) low = refl
find-past p (x ∷ xs) zero low = absurd (omega (arith, low))
find-past p (x ∷ xs) (suc i) low = find-past p xs i (omega (arith, low))

-- ---- records in a loop

pub first-at : (s : Setting) (w : ModelWorld) (records : List Record) (i : ℕ) (r : Record) → i < length records → r ≡ get_or records i r → first_forgery s w (drop i records) ≡ option_or (forgery_by s w r) (first_forgery s w (drop (suc i) records))
first-at s w records i r low is = ap (first_forgery s w) (drop-cons records i r low) ∙ ap (λ (z : Record). option_or (forgery_by s w z) (first_forgery s w (drop (suc i) records))) (sym is)

pub first-past : (s : Setting) (w : ModelWorld) (records : List Record) (i : ℕ) → length records ≤ i → first_forgery s w (drop i records) ≡ None
first-past s w [] zero low = refl
first-past s w [] (suc i) low = refl
first-past s w (x ∷ records) zero low = absurd (omega (arith, low))
first-past s w (x ∷ records) (suc i) low = first-past s w records i (omega (arith, low))

pub tests-first : (s : Setting) (w : ModelWorld) (told : List NodeEvent) (v : Kept) (found rest : Option Forgery) (result : Result (Unit {0}) WorldFault) → is_err result ≡ true → Tests s w told v found result → Tests s w told v (option_or found rest) result
tests-first s w told v found rest (Ok done) err h = absurd (false≢true err)
tests-first s w told v found rest (Err (faults.Forged who body)) err h = ap (λ (o : Option Forgery). option_or o rest) h
tests-first s w told v found rest (Err faults.OutOfMemory) err h = tt

pub tests-fine : (s : Setting) (w : ModelWorld) (told : List NodeEvent) (v : Kept) (found : Option Forgery) (result : Result (Unit {0}) WorldFault) → is_err result ≡ false → Tests s w told v found result → (found ≡ None) × Holds s w told v
tests-fine s w told v found (Ok done) err h = h
tests-fine s w told v found (Err fault) err h = absurd (false≢true (sym err))

pub tests-as : (s : Setting) (w : ModelWorld) (told : List NodeEvent) (v : Kept) (found other : Option Forgery) (result : Result (Unit {0}) WorldFault) → found ≡ other → Tests s w told v other result → Tests s w told v found result
tests-as s w told v found other result is h = subst (λ (o : Option Forgery). Tests s w told v o result) (sym is) h

pub read-tests : (s : Setting) (w : ModelWorld) (told : List NodeEvent) (v : Kept) (bytes : List ℕ) (d : Datagram) (result : Result (Unit {0}) WorldFault) → GivesDatagram (read_of bytes) (Ok d) → Tests s w told v (forgery_in s w (Ok d)) result → Tests s w told v (forgery s w bytes) result
unfolding forgery
read-tests s w told v bytes d result read h = tests-as s w told v (forgery_in s w (read_of bytes)) (forgery_in s w (Ok d)) result (ap (forgery_in s w) (read-is (read_of bytes) d read)) h

pub none-tests : (s : Setting) (w : ModelWorld) (told : List NodeEvent) (v : Kept) (bytes : List ℕ) (place : ℕ) → GivesDatagram (read_of bytes) (Err (forms.BadForm place)) → Holds s w told v → Tests s w told v (forgery s w bytes) (Ok tt)
unfolding forgery
none-tests s w told v bytes place read h = (bad-is s w (read_of bytes) place read, h)
