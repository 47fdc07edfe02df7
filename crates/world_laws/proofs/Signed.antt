-- Of what is not forged, and verifies under the key of a node or of the authority, the owner has signed the body.
use Rattle.std.proofs.Common.{◌≡◌, ℕ, ◌+◌, Bool, true, false, not, cond, eqb, List, [], ◌∷◌, Option, Some, None, inl, inr, refl, ap, sym, ◌∙◌, subst, map}
use Rattle.std.specs.Prelude.{◌&&◌, find, option_map, Result}
use Rattle.std.specs.List.{list_any}
use Rattle.std.specs.Option.{option_or}
use Rattle.std.proofs.lemmas.Bool.{cases_Bool, eqb-true, and_parts}
use Rattle.ff_ids.specs.declared.AccBody.{AccBody}
use Rattle.ff_ids.specs.declared.NoteBody.{NoteBody}
use Rattle.ff_ids.specs.Faults.{same_accusation}
use Rattle.life_laws.proofs.Lists.{In, some_passes, any_from_In}
use Rattle.records.specs.declared.CertBody.{CertBody}
use Rattle.records.specs.declared.Body.{Body}
use Rattle.records.specs.declared.Body.TheVariants.{Certificate, Note, Accusation}
use Rattle.records.specs.declared.Record.{Record}
use Rattle.datagram.specs.declared.Datagram.{Datagram}
use Rattle.datagram.specs.Grammar.{read_of}
use Rattle.signer.specs.Lives.{Spent}
use Rattle.node_rules.proofs.Accusations.{In-filter_map, In-from_filter_map}
use Rattle.world_rules.specs.Settings.{Owner, Setting, Signed, is_node, nodes, members, certificate, same_owner, same_body, certified_from, by_authority}
use Rattle.world_rules.specs.Worlds.{World, spent_if_by, spent_of}
use Rattle.world_rules.specs.Forgeries.{protected, has_signed, is_forged_for, forgery_by, first_forgery, forgery_in, forgery}
use Rattle.world_rules.specs.Laws.{IsSetting}
use Rattle.world_laws.proofs.Handing.{HasGiven}
use Rattle.world_laws.proofs.Rosters.{node-listed}

-- ---- what the tests decide

pub same_owner-is : (a b : Owner) → same_owner a b ≡ true → a ≡ b
same_owner-is None None e = refl
same_owner-is (Some a) (Some b) e = ap (λ k. Some k) (eqb-true a b e)
same_owner-is None (Some b) e = cc
same_owner-is (Some a) None e = cc

note-is : (a b : NoteBody) → ((eqb a.member b.member && eqb a.epoch b.epoch) && eqb a.mask.0 b.mask.0) ≡ true → a ≡ b
note-is a b e =
    let last = and_parts _ _ e in
    let first = and_parts _ _ last.0 in
    let member : a.member ≡ b.member = eqb-true _ _ first.0 in
    let epoch : a.epoch ≡ b.epoch = eqb-true _ _ first.1 in
    let mask : a.mask.0 ≡ b.mask.0 = eqb-true _ _ last.1 in
    λ i. record { member = member i; epoch = epoch i; mask = record { 0 = mask i } }

accusation-is : (a b : AccBody) → same_accusation a b ≡ true → a ≡ b
accusation-is a b e =
    let third = and_parts _ _ e in
    let second = and_parts _ _ third.0 in
    let first = and_parts _ _ second.0 in
    let accuser : a.accuser ≡ b.accuser = eqb-true _ _ first.0 in
    let accused : a.accused ≡ b.accused = eqb-true _ _ first.1 in
    let epoch : a.epoch ≡ b.epoch = eqb-true _ _ second.1 in
    let ring : a.ring.0 ≡ b.ring.0 = eqb-true _ _ third.1 in
    λ i. record { accuser = accuser i; accused = accused i; epoch = epoch i; ring = record { 0 = ring i } }

-- A note or an accusation.
abbrev pub IsStatement : Body → Type 0
IsStatement (Certificate c) = ⊥
IsStatement body = Unit {0}

-- Bodies that pass for the same are the same, but for the keys of certificates.
same_body-is : (a b : Body) → IsStatement b → same_body a b ≡ true → a ≡ b
same_body-is (Certificate c) (Certificate d) it e = absurd it
same_body-is (Certificate c) (Note m) it e = cc
same_body-is (Certificate c) (Accusation b) it e = cc
same_body-is (Note n) (Certificate d) it e = absurd it
same_body-is (Note n) (Note m) it e = ap (λ x. Note x) (note-is n m e)
same_body-is (Note n) (Accusation b) it e = cc
same_body-is (Accusation a) (Certificate d) it e = absurd it
same_body-is (Accusation a) (Note m) it e = cc
same_body-is (Accusation a) (Accusation b) it e = ap (λ x. Accusation x) (accusation-is a b e)

-- ---- what is not forged

-- Under whose key the record verifies, has signed its body.
abbrev pub IsGenuine : Setting → World → Record → Type 0
IsGenuine s w r = (who : Owner) → In (protected s) who → s.verifies (s.key who) r ≡ true → has_signed w who r.body ≡ true

pub none-found : {X : Type 0} (p : X → Bool) (xs : List X) (x : X) → find p xs ≡ None → In xs x → p x ≡ false
none-found p [] x none i = absurd i
none-found {X} p (y ∷ ys) x none i =
    elim (cases_Bool (p y)) [
      | inl fits ↦ absurd (not-none y (sym (ap (λ b. cond b (Some y) (find p ys)) fits) ∙ none))
      | inr differs ↦ elim i [
        | inl e ↦ sym (ap p e) ∙ differs
        | inr j ↦ none-found p ys x (sym (ap (λ b. cond b (Some y) (find p ys)) differs) ∙ none) j
      ]
    ]
  where
    not-none : (z : X) → Some z ≡ None → ⊥
    not-none z e = cc

pub map-none : {X Y : Type 0} (f : X → Y) (o : Option X) → option_map f o ≡ None → o ≡ None
map-none f None h = refl
map-none f (Some x) h = cc

or-none : {T : Type 0} (a b : Option T) → option_or a b ≡ None → (a ≡ None) × (b ≡ None)
or-none None b h = (refl, h)
or-none (Some x) b h = cc

unforged : (verifies signed : Bool) → (verifies && not signed) ≡ false → verifies ≡ true → signed ≡ true
unforged true true e h = refl
unforged true false e h = cc
unforged false signed e h = cc

genuine-one : (s : Setting) (w : World) (r : Record) → forgery_by s w r ≡ None → IsGenuine s w r
genuine-one s w r none =
    λ who i verifies.
    unforged (s.verifies (s.key who) r) (has_signed w who r.body) (none-found (is_forged_for s w r) (protected s) who (map-none _ (find (is_forged_for s w r) (protected s)) none) i) verifies

genuine-all : (s : Setting) (w : World) (records : List Record) → first_forgery s w records ≡ None → (r : Record) → In records r → IsGenuine s w r
genuine-all s w [] none r i = absurd i
genuine-all s w (x ∷ records) none r (inl e) = subst (IsGenuine s w) e (genuine-one s w x (or-none (forgery_by s w x) (first_forgery s w records) none).0)
genuine-all s w (x ∷ records) none r (inr i) = genuine-all s w records (or-none (forgery_by s w x) (first_forgery s w records) none).1 r i

genuine-heard : (s : Setting) (w : World) (heard : Result Datagram ℕ) → forgery_in s w heard ≡ None → HasGiven (IsGenuine s w) heard
genuine-heard s w heard none = λ from records is r i. genuine-all s w records (sym (ap (forgery_in s w) is) ∙ none) r i

-- Where nothing in the bytes is forged, each record in them is genuine.
pub genuine : (s : Setting) (w : World) (bytes : List ℕ) → forgery s w bytes ≡ None → HasGiven (IsGenuine s w) (read_of bytes)
unfolding forgery
genuine s w bytes none = genuine-heard s w (read_of bytes) none

-- ---- who has signed it

pub record SignedIn (signed : List Signed) (who : Owner) (body : Body) : Type 0 where
  pub index : ℕ
  pub among : In signed (record { who = who; index = index; body = body })

signed-by : (signed : List Signed) (who : Owner) (body : Body) → IsStatement body → list_any (λ x. same_owner x.who who && same_body x.body body) signed ≡ true → SignedIn signed who body
signed-by signed who body it some =
    let r = some_passes (λ (x : Signed). same_owner x.who who && same_body x.body body) signed some in
    let x : Signed = r.0 in
    let tests = and_parts _ _ r.1.1 in
    let owner : x.who ≡ who = same_owner-is x.who who tests.0 in
    let body-is : x.body ≡ body = same_body-is x.body body it tests.1 in
    record {
      index = x.index;
      among = subst (λ b. In signed (record { who = who; index = x.index; body = b })) body-is
          (subst (λ o. In signed (record { who = o; index = x.index; body = x.body })) owner r.1.0);
    }

pub in-mapped : {X Y : Type 0} (f : X → Y) (xs : List X) (x : X) → In xs x → In (map f xs) (f x)
in-mapped f [] x i = absurd i
in-mapped f (y ∷ ys) x (inl e) = inl (ap f e)
in-mapped f (y ∷ ys) x (inr i) = inr (in-mapped f ys x i)

pub node-protected : (s : Setting) (m : ℕ) → IsSetting s → is_node s m ≡ true → In (protected s) (Some m)
node-protected s m fits is = inr (in-mapped (λ k. Some k) (nodes s) m (node-listed s m fits is))

-- The note or accusation that verifies under a node's key was signed by it.
pub node-signed : (s : Setting) (w : World) (r : Record) (m : ℕ) (b : Body) → IsSetting s → IsGenuine s w r → is_node s m ≡ true → IsStatement b → r.body ≡ b → s.verifies (s.key (Some m)) r ≡ true → SignedIn w.signed (Some m) b
node-signed s w r m b fits free is it same verifies =
    signed-by w.signed (Some m) b it (sym (ap (has_signed w (Some m)) same) ∙ free (Some m) (node-protected s m fits is) verifies)

-- ---- the authority

-- The authority has signed the certificates of the members alone.
abbrev pub OnlyCertifies : Setting → List Signed → Type 0
OnlyCertifies s signed = (x : Signed) → In signed x → x.who ≡ None → In (by_authority s) x

certified-of : (s : Setting) (index : ℕ) (ms : List ℕ) (x : Signed) → In (certified_from s index ms) x → (m : ℕ) × (In ms m × (x.body ≡ Certificate (certificate s m)))
certified-of s index [] x i = absurd i
certified-of s index (m ∷ ms) x (inl e) = (m, (inl refl, sym (ap (λ (y : Signed). y.body) e)))
certified-of s index (m ∷ ms) x (inr i) = let r = certified-of s (index + 1) ms x i in (r.0, (inr r.1.0, r.1.1))

pub authority-of : (s : Setting) (x : Signed) → In (by_authority s) x → (m : ℕ) × (In (members s) m × (x.body ≡ Certificate (certificate s m)))
unfolding by_authority
authority-of s x i = certified-of s 0 (members s) x i

same-member : (b : Body) (m : ℕ) (s : Setting) (c : CertBody) → b ≡ Certificate (certificate s m) → same_body b (Certificate c) ≡ true → eqb m c.member ≡ true
same-member b m s c is e =
    (and_parts _ _ (and_parts _ _ (sym (ap (λ x. same_body x (Certificate c)) is) ∙ e)).0).0

-- The certificate that verifies under the authority's key is a member's.
pub authority-signed : (s : Setting) (w : World) (r : Record) (c : CertBody) → OnlyCertifies s w.signed → IsGenuine s w r → r.body ≡ Certificate c → s.verifies (s.key None) r ≡ true → list_any (λ m. eqb m c.member) (members s) ≡ true
authority-signed s w r c only free is verifies =
    let has : has_signed w None (Certificate c) ≡ true = sym (ap (has_signed w None) is) ∙ free None (inl refl) verifies in
    let x = some_passes (λ (x : Signed). same_owner x.who None && same_body x.body (Certificate c)) w.signed has in
    let tests = and_parts _ _ x.1.1 in
    let m = authority-of s x.0 (only x.0 x.1.0 (same_owner-is x.0.who None tests.0)) in
    any_from_In (λ k. eqb k c.member) (members s) m.0 m.1.0 (same-member x.0.body m.0 s c m.1.1 tests.1)

-- ---- what a key has spent

pub spent-in : (w : World) (who : Owner) (index : ℕ) (body : Body) → same_owner who who ≡ true → In w.signed (record { who = who; index = index; body = body }) → In (spent_of w who) (record { index = index; body = body })
spent-in w who index body itself i =
    In-filter_map (spent_if_by who) w.signed (record { who = who; index = index; body = body }) (record { index = index; body = body }) i (ap (λ b. cond b (Some (record { index = index; body = body })) None) itself)

pub spent-from : (w : World) (who : Owner) (index : ℕ) (body : Body) → In (spent_of w who) (record { index = index; body = body }) → In w.signed (record { who = who; index = index; body = body })
spent-from w who index body i =
    let x = In-from_filter_map (spent_if_by who) w.signed (record { index = index; body = body }) i in
    signed-as x.0 who index body x.1.0 x.1.1
  where
    spent : ℕ → Body → Spent
    spent index body = record { index = index; body = body }

    some-is : (a b : Spent) → Some a ≡ Some b → a ≡ b
    some-is a b e = cc

    as-spent : (x : Signed) (b : Bool) (who : Owner) (index : ℕ) (body : Body) → same_owner x.who who ≡ b → cond b (Some (spent x.index x.body)) None ≡ Some (spent index body) → x ≡ record { who = who; index = index; body = body }
    as-spent x true who index body e h =
        let owner : x.who ≡ who = same_owner-is x.who who e in
        let same : spent x.index x.body ≡ spent index body = some-is _ _ h in
        λ i. record { who = owner i; index = (same i).index; body = (same i).body }
    as-spent x false who index body e h = cc

    signed-as : (x : Signed) (who : Owner) (index : ℕ) (body : Body) → In w.signed x → spent_if_by who x ≡ Some (record { index = index; body = body }) → In w.signed (record { who = who; index = index; body = body })
    signed-as x who index body i h = subst (In w.signed) (as-spent x (same_owner x.who who) who index body refl h) i
