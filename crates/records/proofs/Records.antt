-- The two laws of the grammar: what is read is spelled so, and what is spelled so is read.
use Rattle.std.proofs.Common.{◌≡◌, ℕ, ◌^◌, ◌<◌, ◌≤◌, ◌⊎◌, Bool, true, false, cond, eqb, List, [], ◌∷◌, ◌++◌, length, take, Option, Some, None, Result, Ok, Err, refl, sym, ap, subst, ◌∙◌, arith, inl, inr, lit<}
use Rattle.std.specs.Int.{Width, w16, w32, w64, to_be_bytes}
use Rattle.std.proofs.lemmas.Bool.{cases_lt, eqb-true, le-leb, lt-leb}
use Rattle.std.proofs.lemmas.Bool.Decides.{nat_tests}
use Rattle.std.proofs.lemmas.List.{take_at}
use Rattle.std.specs.Prelude.{IfOk}
use Rattle.ff_ids.specs.declared.TheConstants.{LAST_MEMBER, MEMBERS}
use Rattle.fields.specs.Reading.{Reading, reading_of}
use Rattle.ff_ids.specs.declared.NoteBody.{NoteBody}
use Rattle.ff_ids.specs.declared.AccBody.{AccBody}
use Rattle.lms_ots.specs.declared.kind.OtsKind.{OtsKind}
use Rattle.lms_ots.specs.declared.kind.OtsKind.TheVariants.{W1, W2, W4, W8}
use Rattle.lms_ots.specs.Ots as ots
use Rattle.lms_tree.specs.declared.kind.TreeKind.{TreeKind}
use Rattle.lms_tree.specs.declared.kind.TreeKind.TheVariants.{H5, H10, H15}
use Rattle.lms_tree.specs.declared.key.PublicKey.{PublicKey}
use Rattle.lms_tree.specs.Kinds.{type_number}
use Rattle.lms_tree.specs.Lms.{tree_of, key_bytes as lms_bytes}
use Rattle.hss.specs.Keys.{TwoLevelKey, is_in_profile}
use Rattle.hss.specs.Hss.{key_bytes as hss_bytes}
use Rattle.records.specs.declared.CertBody.{CertBody}
use Rattle.records.specs.declared.Body.{Body}
use Rattle.records.specs.declared.Body.TheVariants.{Certificate, Note, Accusation}
use Rattle.records.specs.declared.Record.{Record}
use Rattle.records.specs.declared.keys.Key.{Key}
use Rattle.records.specs.declared.keys.Key.TheVariants as keys
use Rattle.records.specs.Keys.{HasParts, IsHssKey, IsKey, key_bytes}
use Rattle.records.specs.declared.fault.FormFault.{FormFault}
use Rattle.records.specs.Spelling.{certificate_kind, certificate_bytes, note_fields, note_bytes, accusation_bytes, body_bytes, record_bytes, IsCertificate, IsNote, IsAccusation, IsBody, HasLength, IsRecord}
use Rattle.records.specs.Grammar.{◌>>=◌, number_at, byte_at, bytes_at, any_number, member_number, nonzero, signature_length, kind_number, wide_mask, two_levels, kept_in_profile, profile_kind, key_by, key_at, top_key_at, hss_key_at, certificate_by, certificate_at, hss_certificate_at, note_by, note_at, wide_note_at, accusation_at, body_of_kind, body_at, signature_at, record_at, GivesRecord, IsGiven}
use Rattle.records.proofs.Fields.{IsBytes, bind_ok, ok_is, Takes, Takes-then, bytes_take, byte_takes, byte_again, number_takes, number_again, bytes_again, then_again, map_again, Again, IsRule, IsWide, wide16, wide32, wide64, any_rule, within_rule, nonzero_rule}

chosen : {A : Type 0} (b : Bool) (x y z : A) → cond b x y ≡ z → ((b ≡ true) × (x ≡ z)) ⊎ ((b ≡ false) × (y ≡ z))
chosen true x y z e = inl (refl, e)
chosen false x y z e = inr (refl, e)

abbrev there : {A : Type 0} → A → Option A
there x = Some x

some_is : {A : Type 0} (x y : A) → there x ≡ there y → x ≡ y
some_is x y e = cc

-- ---- rules

-- what a chain of tests on a number chose
picked : {A : Type 0} (n k : ℕ) (x y : A) (others : Option A) (code : A → ℕ) → code x ≡ k → (others ≡ Some y → n ≡ code y) → cond (eqb n k) (Some x) others ≡ Some y → n ≡ code y
picked n k x y others code is_code later e =
    elim (chosen (eqb n k) (Some x) others (Some y) e) [
      | inl p ↦ eqb-true n k p.0 ∙ sym is_code ∙ ap code (some_is x y p.1)
      | inr p ↦ later p.1
    ]

tree_back : (n : ℕ) (x : TreeKind) → tree_of n ≡ Some x → n ≡ type_number x
tree_back n x e =
    picked n 5 H5 x _ type_number refl (λ e. picked n 6 H10 x _ type_number refl (λ e. picked n 7 H15 x _ type_number refl (λ e. absurd cc) e) e) e

ots_back : (n : ℕ) (x : OtsKind) → ots.kind_of n ≡ Some x → n ≡ ots.type_number x
ots_back n x e =
    picked n 1 W1 x _ ots.type_number refl (λ e. picked n 2 W2 x _ ots.type_number refl (λ e. picked n 3 W4 x _ ots.type_number refl (λ e. picked n 4 W8 x _ ots.type_number refl (λ e. absurd cc) e) e) e) e

tree_again : (x : TreeKind) → (tree_of (type_number x) ≡ Some x) × (type_number x < 2 ^ 32)
tree_again H5 = (refl, lit< tt)
tree_again H10 = (refl, lit< tt)
tree_again H15 = (refl, lit< tt)

ots_again : (x : OtsKind) → (ots.kind_of (ots.type_number x) ≡ Some x) × (ots.type_number x < 2 ^ 32)
ots_again W1 = (refl, lit< tt)
ots_again W2 = (refl, lit< tt)
ots_again W4 = (refl, lit< tt)
ots_again W8 = (refl, lit< tt)

tree_rule : IsRule (2 ^ 32) tree_of type_number (λ _. Unit {0})
tree_rule = record { back = λ n x lt e. (tree_back n x e, tt); again = λ x good. tree_again x }

kind_rule : IsRule (2 ^ 32) ots.kind_of ots.type_number (λ _. Unit {0})
kind_rule = record { back = λ n x lt e. (ots_back n x e, tt); again = λ x good. ots_again x }

-- what is kept of a kind in the profile is the kind
profile_back : (kind : Option OtsKind) (x : OtsKind) → kept_in_profile kind ≡ Some x → (kind ≡ Some x) × (is_in_profile x ≡ true)
profile_back (Some kind) x e =
    elim (chosen (is_in_profile kind) (Some kind) None (Some x) e) [
      | inl p ↦ (p.1, ap is_in_profile (sym (some_is kind x p.1)) ∙ p.0)
      | inr p ↦ absurd cc
    ]
profile_back None x e = absurd cc

profile_again : (x : OtsKind) → is_in_profile x ≡ true → (profile_kind (ots.type_number x) ≡ Some x) × (ots.type_number x < 2 ^ 32)
profile_again W1 e = absurd cc
profile_again W2 e = absurd cc
profile_again W4 e = (refl, lit< tt)
profile_again W8 e = (refl, lit< tt)

abbrev IsInProfile : OtsKind → Type 0
IsInProfile kind = is_in_profile kind ≡ true

profile_rule : IsRule (2 ^ 32) profile_kind ots.type_number IsInProfile
profile_rule = record {
  back = λ n x lt e. let kept = profile_back (ots.kind_of n) x e in (ots_back n x kept.0, kept.1);
  again = λ x good. profile_again x good;
}

-- ---- notes

-- The numbers of a note whose mask is one of these.
record IsNoteBy (Good : ℕ → Type 0) (n : NoteBody) : Type 0 where
  pub member_number : n.member < MEMBERS
  pub has_epoch : 0 < n.epoch
  pub epoch_fits : n.epoch < 2 ^ 64
  pub mask : Good n.mask.0

note_by_takes : (width : Width) (limit : ℕ) (rule : ℕ → Option ℕ) (Good : ℕ → Type 0) → IsWide width limit → IsRule limit rule (λ n. n) Good
    → (r : Reading) (n : NoteBody) (s : Reading) → IsBytes r.left → note_by width rule r ≡ Ok (n, s) → Takes r (note_fields width n) s × IsNoteBy Good n
note_by_takes width limit rule Good wide ruled r n s fits e =
    let a = bind_ok (number_at w16 member_number r) (λ m. number_at w64 nonzero m.1 >>= λ e. number_at width rule e.1 >>= λ k. Ok (record { member = m.0; epoch = e.0; mask = record { 0 = k.0 } }, k.1)) (n, s) e in
    let b = bind_ok (number_at w64 nonzero a.0.1) (λ e. number_at width rule e.1 >>= λ k. Ok (record { member = a.0.0; epoch = e.0; mask = record { 0 = k.0 } }, k.1)) (n, s) a.2 in
    let c = bind_ok (number_at width rule b.0.1) (λ k. Ok (record { member = a.0.0; epoch = b.0.0; mask = record { 0 = k.0 } }, k.1)) (n, s) b.2 in
    let t0 = number_takes w16 (2 ^ 16) member_number (λ n. n) _ r a.0.0 a.0.1 wide16 (within_rule (2 ^ 16) 0 LAST_MEMBER (lit< tt)) fits a.1 in
    let t1 = number_takes w64 (2 ^ 64) nonzero (λ n. n) _ a.0.1 b.0.0 b.0.1 wide64 (nonzero_rule (2 ^ 64)) t0.0.fits b.1 in
    let t2 = number_takes width limit rule (λ n. n) Good b.0.1 c.0.0 c.0.1 wide ruled t1.0.fits c.1 in
    let made : NoteBody × Reading = (record { member = a.0.0; epoch = b.0.0; mask = record { 0 = c.0.0 } }, c.0.1) in
    subst (λ (y : NoteBody × Reading). Takes r (note_fields width y.0) y.1 × IsNoteBy Good y.0) (ok_is made (n, s) c.2)
    (Takes-then _ _ _ _ _ t0.0 (Takes-then _ _ _ _ _ t1.0 t2.0), record { member_number = omega (arith, t0.1); has_epoch = t1.1.0; epoch_fits = t1.1.1; mask = t2.1 })

note_by_again : (width : Width) (limit : ℕ) (rule : ℕ → Option ℕ) (Good : ℕ → Type 0) → IsWide width limit → IsRule limit rule (λ n. n) Good
    → (n : NoteBody) → IsNoteBy Good n → Again (note_by width rule) n (note_fields width n)
note_by_again width limit rule Good wide ruled n good =
    then_again (number_at w16 member_number) (λ m r. number_at w64 nonzero r >>= λ e. number_at width rule e.1 >>= λ k. Ok (record { member = m; epoch = e.0; mask = record { 0 = k.0 } }, k.1)) n.member n _ _
    (number_again w16 (2 ^ 16) member_number (λ n. n) _ n.member wide16 (within_rule (2 ^ 16) 0 LAST_MEMBER (lit< tt)) (omega arith, omega (arith, good.member_number)))
    (then_again (number_at w64 nonzero) (λ e r. number_at width rule r >>= λ k. Ok (record { member = n.member; epoch = e; mask = record { 0 = k.0 } }, k.1)) n.epoch n _ _
    (number_again w64 (2 ^ 64) nonzero (λ n. n) _ n.epoch wide64 (nonzero_rule (2 ^ 64)) (good.has_epoch, good.epoch_fits))
    (map_again (number_at width rule) (λ k. record { member = n.member; epoch = n.epoch; mask = record { 0 = k } }) n.mask.0 _
    (number_again width limit rule (λ n. n) Good n.mask.0 wide ruled good.mask)))

abbrev IsNarrow : ℕ → Type 0
IsNarrow mask = mask < 2 ^ 32

abbrev IsWideMask : ℕ → Type 0
IsWideMask mask = (4294967296 ≤ mask) × (mask ≤ 18446744073709551615)

narrow_rule : IsRule (2 ^ 32) any_number (λ n. n) IsNarrow
narrow_rule = any_rule (2 ^ 32)

wide_rule : IsRule (2 ^ 64) wide_mask (λ n. n) IsWideMask
wide_rule = within_rule (2 ^ 64) 4294967296 18446744073709551615 (lit< tt)

narrow_note : (n : NoteBody) → IsNoteBy IsNarrow n → IsNote n
narrow_note n good = record { member_number = good.member_number; has_epoch = good.has_epoch; epoch_fits = good.epoch_fits; mask_fits = omega (arith, good.mask) }

wide_note : (n : NoteBody) → IsNoteBy IsWideMask n → IsNote n
wide_note n good = record { member_number = good.member_number; has_epoch = good.has_epoch; epoch_fits = good.epoch_fits; mask_fits = omega (arith, good.mask.1) }

narrow_spelled : (n : NoteBody) → n.mask.0 < 2 ^ 32 → 2 ∷ note_fields w32 n ≡ note_bytes n
unfolding note_bytes
narrow_spelled n narrow = rw (lt-leb _ _ narrow) refl

wide_spelled : (n : NoteBody) → 2 ^ 32 ≤ n.mask.0 → 4 ∷ note_fields w64 n ≡ note_bytes n
unfolding note_bytes
wide_spelled n wide = rw (le-leb _ _ wide) refl

-- ---- accusations

accusation_fields : AccBody → List ℕ
accusation_fields a = to_be_bytes w16 a.accuser ++ (to_be_bytes w16 a.accused ++ (to_be_bytes w64 a.epoch ++ a.ring.0 ∷ []))

accusation_takes : (r : Reading) (a : AccBody) (s : Reading) → IsBytes r.left → accusation_at r ≡ Ok (a, s) → Takes r (accusation_fields a) s × IsAccusation a
unfolding accusation_at accusation_fields
accusation_takes r x s fits e =
    let a = bind_ok (number_at w16 member_number r) (λ m. number_at w16 member_number m.1 >>= λ d. number_at w64 nonzero d.1 >>= λ e. byte_at any_number e.1 >>= λ k. Ok (record { accuser = m.0; accused = d.0; epoch = e.0; ring = record { 0 = k.0 } }, k.1)) (x, s) e in
    let b = bind_ok (number_at w16 member_number a.0.1) (λ d. number_at w64 nonzero d.1 >>= λ e. byte_at any_number e.1 >>= λ k. Ok (record { accuser = a.0.0; accused = d.0; epoch = e.0; ring = record { 0 = k.0 } }, k.1)) (x, s) a.2 in
    let c = bind_ok (number_at w64 nonzero b.0.1) (λ e. byte_at any_number e.1 >>= λ k. Ok (record { accuser = a.0.0; accused = b.0.0; epoch = e.0; ring = record { 0 = k.0 } }, k.1)) (x, s) b.2 in
    let d = bind_ok (byte_at any_number c.0.1) (λ k. Ok (record { accuser = a.0.0; accused = b.0.0; epoch = c.0.0; ring = record { 0 = k.0 } }, k.1)) (x, s) c.2 in
    let t0 = number_takes w16 (2 ^ 16) member_number (λ n. n) _ r a.0.0 a.0.1 wide16 (within_rule (2 ^ 16) 0 LAST_MEMBER (lit< tt)) fits a.1 in
    let t1 = number_takes w16 (2 ^ 16) member_number (λ n. n) _ a.0.1 b.0.0 b.0.1 wide16 (within_rule (2 ^ 16) 0 LAST_MEMBER (lit< tt)) t0.0.fits b.1 in
    let t2 = number_takes w64 (2 ^ 64) nonzero (λ n. n) _ b.0.1 c.0.0 c.0.1 wide64 (nonzero_rule (2 ^ 64)) t1.0.fits c.1 in
    let t3 = byte_takes any_number c.0.1 d.0.0 d.0.1 t2.0.fits d.1 in
    let ring = subst (λ (k : ℕ). Takes c.0.1 (k ∷ []) d.0.1) (some_is t3.0 d.0.0 t3.1) t3.2 in
    let made : AccBody × Reading = (record { accuser = a.0.0; accused = b.0.0; epoch = c.0.0; ring = record { 0 = d.0.0 } }, d.0.1) in
    subst (λ (y : AccBody × Reading). Takes r (accusation_fields y.0) y.1 × IsAccusation y.0) (ok_is made (x, s) d.2)
    (Takes-then _ _ _ _ _ t0.0 (Takes-then _ _ _ _ _ t1.0 (Takes-then _ _ _ _ _ t2.0 ring)), record { accuser_number = omega (arith, t0.1); accused_number = omega (arith, t1.1); has_epoch = t2.1.0; epoch_fits = t2.1.1 })

accusation_again : (a : AccBody) → IsAccusation a → Again accusation_at a (accusation_fields a)
unfolding accusation_at accusation_fields
accusation_again a good =
    then_again (number_at w16 member_number) (λ m r. number_at w16 member_number r >>= λ d. number_at w64 nonzero d.1 >>= λ e. byte_at any_number e.1 >>= λ k. Ok (record { accuser = m; accused = d.0; epoch = e.0; ring = record { 0 = k.0 } }, k.1)) a.accuser a _ _
    (number_again w16 (2 ^ 16) member_number (λ n. n) _ a.accuser wide16 (within_rule (2 ^ 16) 0 LAST_MEMBER (lit< tt)) (omega arith, omega (arith, good.accuser_number)))
    (then_again (number_at w16 member_number) (λ d r. number_at w64 nonzero r >>= λ e. byte_at any_number e.1 >>= λ k. Ok (record { accuser = a.accuser; accused = d; epoch = e.0; ring = record { 0 = k.0 } }, k.1)) a.accused a _ _
    (number_again w16 (2 ^ 16) member_number (λ n. n) _ a.accused wide16 (within_rule (2 ^ 16) 0 LAST_MEMBER (lit< tt)) (omega arith, omega (arith, good.accused_number)))
    (then_again (number_at w64 nonzero) (λ e r. byte_at any_number r >>= λ k. Ok (record { accuser = a.accuser; accused = a.accused; epoch = e; ring = record { 0 = k.0 } }, k.1)) a.epoch a _ _
    (number_again w64 (2 ^ 64) nonzero (λ n. n) _ a.epoch wide64 (nonzero_rule (2 ^ 64)) (good.has_epoch, good.epoch_fits))
    (map_again (byte_at any_number) (λ k. record { accuser = a.accuser; accused = a.accused; epoch = a.epoch; ring = record { 0 = k } }) a.ring.0 _
    (byte_again any_number a.ring.0 a.ring.0 refl))))

-- ---- keys and certificates

key_by_takes : (rule : ℕ → Option OtsKind) (Good : OtsKind → Type 0) → IsRule (2 ^ 32) rule ots.type_number Good
    → (r : Reading) (k : PublicKey) (s : Reading) → IsBytes r.left → key_by rule r ≡ Ok (k, s) → Takes r (lms_bytes k) s × HasParts k × Good k.ots
unfolding lms_bytes
key_by_takes rule Good ruled r x s fits e =
    let a = bind_ok (number_at w32 tree_of r) (λ t. number_at w32 rule t.1 >>= λ k. bytes_at 16 k.1 >>= λ i. bytes_at 32 i.1 >>= λ o. Ok (record { tree = t.0; ots = k.0; id = i.0; root = o.0 }, o.1)) (x, s) e in
    let b = bind_ok (number_at w32 rule a.0.1) (λ k. bytes_at 16 k.1 >>= λ i. bytes_at 32 i.1 >>= λ o. Ok (record { tree = a.0.0; ots = k.0; id = i.0; root = o.0 }, o.1)) (x, s) a.2 in
    let c = bind_ok (bytes_at 16 b.0.1) (λ i. bytes_at 32 i.1 >>= λ o. Ok (record { tree = a.0.0; ots = b.0.0; id = i.0; root = o.0 }, o.1)) (x, s) b.2 in
    let d = bind_ok (bytes_at 32 c.0.1) (λ o. Ok (record { tree = a.0.0; ots = b.0.0; id = c.0.0; root = o.0 }, o.1)) (x, s) c.2 in
    let t0 = number_takes w32 (2 ^ 32) tree_of type_number _ r a.0.0 a.0.1 wide32 tree_rule fits a.1 in
    let t1 = number_takes w32 (2 ^ 32) rule ots.type_number Good a.0.1 b.0.0 b.0.1 wide32 ruled t0.0.fits b.1 in
    let t2 = bytes_take 16 b.0.1 c.0.0 c.0.1 t1.0.fits c.1 in
    let t3 = bytes_take 32 c.0.1 d.0.0 d.0.1 t2.0.fits d.1 in
    let made : PublicKey × Reading = (record { tree = a.0.0; ots = b.0.0; id = c.0.0; root = d.0.0 }, d.0.1) in
    subst (λ (y : PublicKey × Reading). Takes r (lms_bytes y.0) y.1 × HasParts y.0 × Good y.0.ots) (ok_is made (x, s) d.2)
    (Takes-then _ _ _ _ _ (Takes-then _ _ _ _ _ (Takes-then _ _ _ _ _ t0.0 t1.0) t2.0) t3.0, record { id_long = t2.1; root_long = t3.1 }, t1.1)

key_by_again : (rule : ℕ → Option OtsKind) (Good : OtsKind → Type 0) → IsRule (2 ^ 32) rule ots.type_number Good
    → (k : PublicKey) → HasParts k → Good k.ots → Again (key_by rule) k (lms_bytes k)
unfolding lms_bytes
key_by_again rule Good ruled k good kind =
    let whole : Again (key_by rule) k (to_be_bytes w32 (type_number k.tree) ++ (to_be_bytes w32 (ots.type_number k.ots) ++ (k.id ++ k.root))) =
    then_again (number_at w32 tree_of) (λ t r. number_at w32 rule r >>= λ o. bytes_at 16 o.1 >>= λ i. bytes_at 32 i.1 >>= λ b. Ok (record { tree = t; ots = o.0; id = i.0; root = b.0 }, b.1)) k.tree k (to_be_bytes w32 (type_number k.tree)) (to_be_bytes w32 (ots.type_number k.ots) ++ (k.id ++ k.root))
    (number_again w32 (2 ^ 32) tree_of type_number _ k.tree wide32 tree_rule tt)
    (then_again (number_at w32 rule) (λ o r. bytes_at 16 r >>= λ i. bytes_at 32 i.1 >>= λ b. Ok (record { tree = k.tree; ots = o; id = i.0; root = b.0 }, b.1)) k.ots k (to_be_bytes w32 (ots.type_number k.ots)) (k.id ++ k.root)
    (number_again w32 (2 ^ 32) rule ots.type_number Good k.ots wide32 ruled kind)
    (then_again (bytes_at 16) (λ i r. bytes_at 32 r >>= λ b. Ok (record { tree = k.tree; ots = k.ots; id = i; root = b.0 }, b.1)) k.id k k.id k.root
    (bytes_again k.id 16 good.id_long)
    (map_again (bytes_at 32) (λ b. record { tree = k.tree; ots = k.ots; id = k.id; root = b }) k.root k.root (bytes_again k.root 32 good.root_long)))) in
    whole

-- a step reads such a key from its bytes
abbrev TakesKey : {K : Type 0} → (K → Key) → (Reading → Result (K × Reading) ℕ) → Type 0
TakesKey {K} view step = (r : Reading) (k : K) (s : Reading) → IsBytes r.left → step r ≡ Ok (k, s) → Takes r (key_bytes (view k)) s × IsKey (view k)

lms_takes : TakesKey (λ (k : PublicKey). keys.Lms k) key_at
unfolding key_at
lms_takes r k s fits e = let t = key_by_takes ots.kind_of (λ _. Unit {0}) kind_rule r k s fits e in (t.0, t.1)

lms_again : (k : PublicKey) → HasParts k → Again key_at k (lms_bytes k)
unfolding key_at
lms_again k good = key_by_again ots.kind_of (λ _. Unit {0}) kind_rule k good tt

levels_rule : IsRule (2 ^ 32) two_levels (λ n. n) (λ n. n ≡ 2)
levels_rule = record {
  back = λ n x below e. grind (arith, nat_tests);
  again = λ x good. (grind (arith, nat_tests), omega (arith, good));
}

hss_takes : TakesKey (λ (k : TwoLevelKey). keys.Hss k) hss_key_at
unfolding hss_key_at top_key_at hss_bytes
hss_takes r x s fits e =
    let a = bind_ok (number_at w32 two_levels r) (λ l. key_by profile_kind l.1 >>= λ k. Ok (record { top = k.0 }, k.1)) (x, s) e in
    let b = bind_ok (key_by profile_kind a.0.1) (λ k. Ok (record { top = k.0 }, k.1)) (x, s) a.2 in
    let t0 = number_takes w32 (2 ^ 32) two_levels (λ n. n) (λ n. n ≡ 2) r a.0.0 a.0.1 wide32 levels_rule fits a.1 in
    let t1 = key_by_takes profile_kind IsInProfile profile_rule a.0.1 b.0.0 b.0.1 t0.0.fits b.1 in
    let front : Takes r (to_be_bytes w32 2) a.0.1 = subst (λ (n : ℕ). Takes r (to_be_bytes w32 n) a.0.1) t0.1 t0.0 in
    let made : TwoLevelKey × Reading = (record { top = b.0.0 }, b.0.1) in
    subst (λ (y : TwoLevelKey × Reading). Takes r (hss_bytes y.0) y.1 × IsHssKey y.0) (ok_is made (x, s) b.2)
    (Takes-then _ _ _ _ _ front t1.0, record { top = t1.1; in_profile = t1.2 })

hss_again : (k : TwoLevelKey) → IsHssKey k → Again hss_key_at k (hss_bytes k)
unfolding hss_key_at top_key_at hss_bytes
hss_again k good =
    then_again (number_at w32 two_levels) (λ l r. key_by profile_kind r >>= λ k. Ok (record { top = k.0 }, k.1)) 2 k (to_be_bytes w32 2) (lms_bytes k.top)
    (number_again w32 (2 ^ 32) two_levels (λ n. n) (λ n. n ≡ 2) 2 wide32 levels_rule refl)
    (map_again (key_by profile_kind) (λ (t : PublicKey). record { top = t }) k.top (lms_bytes k.top) (key_by_again profile_kind IsInProfile profile_rule k.top good.top good.in_profile))

certificate_fields : CertBody → List ℕ
certificate_fields c = to_be_bytes w16 c.member ++ (to_be_bytes w16 c.port ++ key_bytes c.key)

-- A certificate has a spelling, and is of this kind.
record IsOfKind (kind : ℕ) (c : CertBody) : Type 0 where
  pub is : IsCertificate c
  pub kind_is : certificate_kind c.key ≡ kind

certificate_by_takes : {K : Type 0} (kind : ℕ) (view : K → Key) (step : Reading → Result (K × Reading) ℕ) → TakesKey view step → ((k : K) → certificate_kind (view k) ≡ kind)
    → (r : Reading) (c : CertBody) (s : Reading) → IsBytes r.left → certificate_by view step r ≡ Ok (c, s) → Takes r (certificate_fields c) s × IsOfKind kind c
unfolding certificate_fields
certificate_by_takes {K} kind view step taken of_kind r x s fits e =
    let a = bind_ok (number_at w16 member_number r) (λ m. number_at w16 nonzero m.1 >>= λ p. step p.1 >>= λ k. Ok (record { member = m.0; port = p.0; key = view k.0 }, k.1)) (x, s) e in
    let b = bind_ok (number_at w16 nonzero a.0.1) (λ p. step p.1 >>= λ k. Ok (record { member = a.0.0; port = p.0; key = view k.0 }, k.1)) (x, s) a.2 in
    let c = bind_ok (step b.0.1) (λ k. Ok (record { member = a.0.0; port = b.0.0; key = view k.0 }, k.1)) (x, s) b.2 in
    let t0 = number_takes w16 (2 ^ 16) member_number (λ n. n) _ r a.0.0 a.0.1 wide16 (within_rule (2 ^ 16) 0 LAST_MEMBER (lit< tt)) fits a.1 in
    let t1 = number_takes w16 (2 ^ 16) nonzero (λ n. n) _ a.0.1 b.0.0 b.0.1 wide16 (nonzero_rule (2 ^ 16)) t0.0.fits b.1 in
    let t2 = taken b.0.1 c.0.0 c.0.1 t1.0.fits c.1 in
    let made : CertBody × Reading = (record { member = a.0.0; port = b.0.0; key = view c.0.0 }, c.0.1) in
    subst (λ (y : CertBody × Reading). Takes r (certificate_fields y.0) y.1 × IsOfKind kind y.0) (ok_is made (x, s) c.2) (
      Takes-then _ _ _ _ _ t0.0 (Takes-then _ _ _ _ _ t1.0 t2.0),
      record {
        is = record { member_number = omega (arith, t0.1); has_port = t1.1.0; port_fits = t1.1.1; key = t2.1 };
        kind_is = of_kind c.0.0;
      },
    )

abbrev certificate_of : ℕ → ℕ → Key → CertBody
certificate_of m p key = record { member = m; port = p; key = key }

certificate_by_again : {K : Type 0} (view : K → Key) (step : Reading → Result (K × Reading) ℕ) (m p : ℕ) (key : K) → IsCertificate (certificate_of m p (view key))
    → Again step key (key_bytes (view key)) → Again (certificate_by view step) (certificate_of m p (view key)) (certificate_fields (certificate_of m p (view key)))
unfolding certificate_fields
certificate_by_again view step m p key good again =
    let c = certificate_of m p (view key) in
    then_again (number_at w16 member_number) (λ m r. number_at w16 nonzero r >>= λ p. step p.1 >>= λ k. Ok (certificate_of m p.0 (view k.0), k.1)) m c _ _
    (number_again w16 (2 ^ 16) member_number (λ n. n) _ m wide16 (within_rule (2 ^ 16) 0 LAST_MEMBER (lit< tt)) (omega arith, omega (arith, good.member_number)))
    (then_again (number_at w16 nonzero) (λ p r. step r >>= λ k. Ok (certificate_of m p (view k.0), k.1)) p c _ _
    (number_again w16 (2 ^ 16) nonzero (λ n. n) _ p wide16 (nonzero_rule (2 ^ 16)) (good.has_port, good.port_fits))
    (map_again step (λ k. certificate_of m p (view k)) key _ again))

certificate_takes : (r : Reading) (c : CertBody) (s : Reading) → IsBytes r.left → certificate_at r ≡ Ok (c, s) → Takes r (certificate_fields c) s × IsOfKind 1 c
unfolding certificate_at
certificate_takes r c s fits e = certificate_by_takes 1 (λ (k : PublicKey). keys.Lms k) key_at lms_takes (λ k. refl) r c s fits e

hss_certificate_takes : (r : Reading) (c : CertBody) (s : Reading) → IsBytes r.left → hss_certificate_at r ≡ Ok (c, s) → Takes r (certificate_fields c) s × IsOfKind 5 c
unfolding hss_certificate_at
hss_certificate_takes r c s fits e = certificate_by_takes 5 (λ (k : TwoLevelKey). keys.Hss k) hss_key_at hss_takes (λ k. refl) r c s fits e

of_kind_spelled : (kind : ℕ) (c : CertBody) → IsOfKind kind c → kind ∷ certificate_fields c ≡ certificate_bytes c
unfolding certificate_bytes certificate_fields
of_kind_spelled kind c good = ap (λ (k : ℕ). k ∷ certificate_fields c) (sym good.kind_is)

-- ---- bodies

fifth : (kind : ℕ) → eqb kind 1 ≡ false → eqb kind 2 ≡ false → eqb kind 3 ≡ false → eqb kind 4 ≡ false → 1 ≤ kind → kind ≤ 5 → kind ≡ 5
fifth kind one two three four least most = grind (arith, nat_tests)

kind_back : (n x : ℕ) → kind_number n ≡ Some x → (n ≡ x) × (1 ≤ x) × (x ≤ 5)
kind_back n x e = grind (arith, nat_tests)

abbrev read_as : {A : Type 0} → (Reading → Result (A × Reading) ℕ) → (A → Body) → Reading → Result (Body × Reading) ℕ
read_as step view r = step r >>= λ x. Ok (view x.0, x.1)

read_as_takes : {A : Type 0} (step : Reading → Result (A × Reading) ℕ) (view : A → Body) (fields : A → List ℕ) (Good : A → Type 0) (kind : ℕ) (r mid : Reading) (b : Body) (s : Reading)
    → ((x : A) (later : Reading) → step mid ≡ Ok (x, later) → Takes mid (fields x) later × Good x)
    → ((x : A) → Good x → IsBody (view x)) → ((x : A) → Good x → kind ∷ fields x ≡ body_bytes (view x))
    → Takes r (kind ∷ []) mid → read_as step view mid ≡ Ok (b, s) → Takes r (body_bytes b) s × IsBody b
read_as_takes step view fields Good kind r mid b s taken good spelled front e =
    let a = bind_ok (step mid) (λ x. Ok (view x.0, x.1)) (b, s) e in
    let t = taken a.0.0 a.0.1 a.1 in
    subst (λ (y : Body × Reading). Takes r (body_bytes y.0) y.1 × IsBody y.0) (ok_is (view a.0.0, a.0.1) (b, s) a.2)
    (subst (λ (text : List ℕ). Takes r text a.0.1) (spelled a.0.0 t.1) (Takes-then _ _ _ _ _ front t.0), good a.0.0 t.1)

read_note_takes : (kind : ℕ) (width : Width) (limit : ℕ) (rule : ℕ → Option ℕ) (Good : ℕ → Type 0) → IsWide width limit → IsRule limit rule (λ n. n) Good
    → ((n : NoteBody) → IsNoteBy Good n → IsNote n) → ((n : NoteBody) → IsNoteBy Good n → kind ∷ note_fields width n ≡ note_bytes n)
    → (r mid : Reading) (b : Body) (s : Reading) → Takes r (kind ∷ []) mid → read_as (note_by width rule) (λ n. Note n) mid ≡ Ok (b, s) → Takes r (body_bytes b) s × IsBody b
read_note_takes kind width limit rule Good wide ruled good spelled r mid b s front e =
    read_as_takes (note_by width rule) (λ n. Note n) (note_fields width) (IsNoteBy Good) kind r mid b s (λ x later. note_by_takes width limit rule Good wide ruled mid x later front.fits) good spelled front e

body_of_kind_takes : (kind : ℕ) (r mid : Reading) (b : Body) (s : Reading) → 1 ≤ kind → kind ≤ 5 → Takes r (kind ∷ []) mid → body_of_kind kind mid ≡ Ok (b, s) → Takes r (body_bytes b) s × IsBody b
unfolding accusation_bytes accusation_fields note_at wide_note_at
body_of_kind_takes kind r mid b s least most front e =
    let at : (k : ℕ) → kind ≡ k → Takes r (k ∷ []) mid = λ k same. subst (λ (n : ℕ). Takes r (n ∷ []) mid) same front in
    let accused = read_as accusation_at (λ a. Accusation a) mid in
    let wide = read_as wide_note_at (λ n. Note n) mid in
    let two = read_as hss_certificate_at (λ c. Certificate c) mid in
    elim (chosen (eqb kind 1) (read_as certificate_at (λ c. Certificate c) mid) (cond (eqb kind 2) (read_as note_at (λ n. Note n) mid) (cond (eqb kind 3) accused (cond (eqb kind 4) wide two))) (Ok (b, s)) e) [
      | inl p ↦ read_as_takes certificate_at (λ c. Certificate c) certificate_fields (IsOfKind 1) 1 r mid b s (λ x later. certificate_takes mid x later front.fits) (λ x good. good.is) (of_kind_spelled 1) (at 1 (eqb-true kind 1 p.0)) p.1
      | inr p ↦ elim (chosen (eqb kind 2) (read_as note_at (λ n. Note n) mid) (cond (eqb kind 3) accused (cond (eqb kind 4) wide two)) (Ok (b, s)) p.1) [
        | inl q ↦ read_note_takes 2 w32 (2 ^ 32) any_number IsNarrow wide32 narrow_rule narrow_note (λ n good. narrow_spelled n good.mask) r mid b s (at 2 (eqb-true kind 2 q.0)) q.1
        | inr q ↦ elim (chosen (eqb kind 3) accused (cond (eqb kind 4) wide two) (Ok (b, s)) q.1) [
          | inl u ↦ read_as_takes accusation_at (λ a. Accusation a) accusation_fields IsAccusation 3 r mid b s (λ x later. accusation_takes mid x later front.fits) (λ x good. good) (λ x good. refl) (at 3 (eqb-true kind 3 u.0)) u.1
          | inr u ↦ elim (chosen (eqb kind 4) wide two (Ok (b, s)) u.1) [
            | inl v ↦ read_note_takes 4 w64 (2 ^ 64) wide_mask IsWideMask wide64 wide_rule wide_note (λ n good. wide_spelled n good.mask.0) r mid b s (at 4 (eqb-true kind 4 v.0)) v.1
            | inr v ↦ read_as_takes hss_certificate_at (λ c. Certificate c) certificate_fields (IsOfKind 5) 5 r mid b s (λ x later. hss_certificate_takes mid x later front.fits) (λ x good. good.is) (of_kind_spelled 5) (at 5 (fifth kind p.0 q.0 u.0 v.0 least most)) v.1
          ]
        ]
      ]
    ]

body_takes : (r : Reading) (b : Body) (s : Reading) → IsBytes r.left → body_at r ≡ Ok (b, s) → Takes r (body_bytes b) s × IsBody b
unfolding body_at
body_takes r b s fits e =
    let a = bind_ok (byte_at kind_number r) (λ kind. body_of_kind kind.0 kind.1) (b, s) e in
    let k = byte_takes kind_number r a.0.0 a.0.1 fits a.1 in
    let ruled = kind_back k.0 a.0.0 k.1 in
    body_of_kind_takes a.0.0 r a.0.1 b s ruled.1 ruled.2 (subst (λ (n : ℕ). Takes r (n ∷ []) a.0.1) ruled.0 k.2) a.2

noted : (Good : ℕ → Type 0) (n : NoteBody) → IsNote n → Good n.mask.0 → IsNoteBy Good n
noted Good n good mask = record { member_number = good.member_number; has_epoch = good.has_epoch; epoch_fits = good.epoch_fits; mask = mask }

narrow_again : (n : NoteBody) → IsNote n → n.mask.0 < 2 ^ 32 → Again body_at (Note n) (2 ∷ note_fields w32 n)
unfolding body_at note_at
narrow_again n good narrow =
    then_again (byte_at kind_number) body_of_kind 2 (Note n) (2 ∷ []) (note_fields w32 n) (byte_again kind_number 2 2 refl)
    (map_again note_at (λ n. Note n) n (note_fields w32 n) (note_by_again w32 (2 ^ 32) any_number IsNarrow wide32 narrow_rule n (noted IsNarrow n good narrow)))

wide_again : (n : NoteBody) → IsNote n → 2 ^ 32 ≤ n.mask.0 → Again body_at (Note n) (4 ∷ note_fields w64 n)
unfolding body_at wide_note_at
wide_again n good wide =
    then_again (byte_at kind_number) body_of_kind 4 (Note n) (4 ∷ []) (note_fields w64 n) (byte_again kind_number 4 4 refl)
    (map_again wide_note_at (λ n. Note n) n (note_fields w64 n) (note_by_again w64 (2 ^ 64) wide_mask IsWideMask wide64 wide_rule n (noted IsWideMask n good (omega (arith, wide), omega (arith, good.mask_fits)))))

keyed_again : (m p : ℕ) (key : Key) → IsCertificate (certificate_of m p key) → Again body_at (Certificate (certificate_of m p key)) (certificate_bytes (certificate_of m p key))
unfolding body_at certificate_at hss_certificate_at certificate_bytes certificate_fields
keyed_again m p (keys.Lms key) good =
    let c = certificate_of m p (keys.Lms key) in
    then_again (byte_at kind_number) body_of_kind 1 (Certificate c) (1 ∷ []) (certificate_fields c) (byte_again kind_number 1 1 refl)
    (map_again certificate_at (λ c. Certificate c) c (certificate_fields c) (certificate_by_again (λ (k : PublicKey). keys.Lms k) key_at m p key good (lms_again key good.key)))
keyed_again m p (keys.Hss key) good =
    let c = certificate_of m p (keys.Hss key) in
    then_again (byte_at kind_number) body_of_kind 5 (Certificate c) (5 ∷ []) (certificate_fields c) (byte_again kind_number 5 5 refl)
    (map_again hss_certificate_at (λ c. Certificate c) c (certificate_fields c) (certificate_by_again (λ (k : TwoLevelKey). keys.Hss k) hss_key_at m p key good (hss_again key good.key)))

pub body_again : (b : Body) → IsBody b → Again body_at b (body_bytes b)
unfolding body_at accusation_bytes accusation_fields
body_again (Certificate c) good = keyed_again c.member c.port c.key good
body_again (Note n) good = elim (cases_lt n.mask.0 (2 ^ 32)) [
  | inl narrow ↦ subst (Again body_at (Note n)) (narrow_spelled n narrow) (narrow_again n good narrow)
  | inr wide ↦ subst (Again body_at (Note n)) (wide_spelled n wide) (wide_again n good wide)
]
body_again (Accusation a) good =
    then_again (byte_at kind_number) body_of_kind 3 (Accusation a) (3 ∷ []) (accusation_fields a) (byte_again kind_number 3 3 refl)
    (map_again accusation_at (λ a. Accusation a) a (accusation_fields a) (accusation_again a good))

-- ---- records

signature_takes : (r : Reading) (x : List ℕ) (s : Reading) → IsBytes r.left → signature_at r ≡ Ok (x, s) → Takes r (to_be_bytes w16 (length x) ++ x) s × HasLength x
unfolding signature_at
signature_takes r x s fits e =
    let a = bind_ok (number_at w16 signature_length r) (λ n. bytes_at n.0 n.1) (x, s) e in
    let t0 = number_takes w16 (2 ^ 16) signature_length (λ n. n) _ r a.0.0 a.0.1 wide16 (within_rule (2 ^ 16) 1 9004 (lit< tt)) fits a.1 in
    let t1 = bytes_take a.0.0 a.0.1 x s t0.0.fits a.2 in
    (subst (λ (n : ℕ). Takes r (to_be_bytes w16 n ++ x) s) (sym t1.1) (Takes-then _ _ _ _ _ t0.0 t1.0), record { some = omega (arith, t0.1.0, t1.1); few = omega (arith, t0.1.1, t1.1) })

signature_again : (x : List ℕ) → HasLength x → Again signature_at x (to_be_bytes w16 (length x) ++ x)
unfolding signature_at
signature_again x good =
    then_again (number_at w16 signature_length) bytes_at (length x) x (to_be_bytes w16 (length x)) x
    (number_again w16 (2 ^ 16) signature_length (λ n. n) _ (length x) wide16 (within_rule (2 ^ 16) 1 9004 (lit< tt)) (omega (arith, good.some), good.few))
    (bytes_again x (length x) refl)

pub record_takes : (r : Reading) (x : Record) (s : Reading) → IsBytes r.left → record_at r ≡ Ok (x, s) → Takes r (record_bytes x) s × IsBody x.body × HasLength x.signature
unfolding record_at
record_takes r x s fits e =
    let a = bind_ok (body_at r) (λ body. signature_at body.1 >>= λ signature. Ok (record { body = body.0; signature = signature.0 }, signature.1)) (x, s) e in
    let b = bind_ok (signature_at a.0.1) (λ signature. Ok (record { body = a.0.0; signature = signature.0 }, signature.1)) (x, s) a.2 in
    let t0 = body_takes r a.0.0 a.0.1 fits a.1 in
    let t1 = signature_takes a.0.1 b.0.0 b.0.1 t0.0.fits b.1 in
    let made : Record × Reading = (record { body = a.0.0; signature = b.0.0 }, b.0.1) in
    subst (λ (y : Record × Reading). Takes r (record_bytes y.0) y.1 × IsBody y.0.body × HasLength y.0.signature) (ok_is made (x, s) b.2)
    (Takes-then _ _ _ _ _ t0.0 t1.0, t0.1, t1.1)

pub record_again : (x : Record) → IsBody x.body → HasLength x.signature → Again record_at x (record_bytes x)
unfolding record_at
record_again x body signature =
    then_again body_at (λ b r. signature_at r >>= λ s. Ok (record { body = b; signature = s.0 }, s.1)) x.body x (body_bytes x.body) (to_be_bytes w16 (length x.signature) ++ x.signature)
    (body_again x.body body)
    (map_again signature_at (λ s. record { body = x.body; signature = s }) x.signature _ (signature_again x.signature signature))

-- ---- what calls give

given : (read : Result (Record × Reading) ℕ) (y : Record × ℕ) → GivesRecord read (Ok y) → (x : Record × Reading) × (read ≡ Ok x) × (y ≡ (x.0, x.1.place))
given (Ok x) y h = (x, refl, h)
given (Err p) y h = absurd cc

found_at : (bytes : List ℕ) (y : Record × ℕ) → IsBytes bytes → GivesRecord (record_at (reading_of bytes)) (Ok y) → IsRecord (take y.1 bytes) y.0
found_at bytes y fits h =
    let x = given (record_at (reading_of bytes)) y h in
    let t = record_takes (reading_of bytes) x.0.0 x.0.1 fits x.1 in
    let taken : x.0.1.place ≡ length (record_bytes x.0.0) = omega (arith, t.0.place) in
    let front : take x.0.1.place bytes ≡ record_bytes x.0.0 = ap (take x.0.1.place) t.0.parts ∙ take_at (record_bytes x.0.0) x.0.1.left x.0.1.place (sym taken) in
    subst (λ (z : Record × ℕ). IsRecord (take z.1 bytes) z.0) (sym x.2) (record { body = t.1; signature = t.2; spelled = front })

pub is_found : (bytes : List ℕ) (answer : Result (Record × ℕ) FormFault) → IsBytes bytes → GivesRecord (record_at (reading_of bytes)) answer → IfOk answer (λ x. IsRecord (take x.1 bytes) x.0)
is_found bytes (Ok y) fits h = found_at bytes y fits h
is_found bytes (Err e) fits h = tt

given_again : (x : Record) (n : ℕ) (s : Reading) (answer : Result (Record × ℕ) FormFault) → s.place ≡ n → GivesRecord (Ok (x, s)) answer → IsGiven x n answer
given_again x n s (Ok y) same h = h ∙ ap (λ (k : ℕ). (x, k)) same
given_again x n s (Err e) same h = h

pub is_given : (bytes : List ℕ) (answer : Result (Record × ℕ) FormFault) → GivesRecord (record_at (reading_of bytes)) answer
    → (r : Record) (spelled rest : List ℕ) → IsRecord spelled r → bytes ≡ spelled ++ rest → IsGiven r (length spelled) answer
is_given bytes answer h r spelled rest is front =
    let a = record_again r is.body is.signature (reading_of bytes) rest (front ∙ ap (λ (t : List ℕ). t ++ rest) is.spelled) in
    let long : length spelled ≡ length (record_bytes r) = ap length is.spelled in
    given_again r (length spelled) a.0 answer (omega (arith, a.2.place, long)) (subst (λ (v : Result (Record × Reading) ℕ). GivesRecord v answer) a.1 h)

-- ---- one spelling

pub one_reading : {A : Type 0} (step : Reading → Result (A × Reading) ℕ) (a b x y : List ℕ) (r s : A) → Again step r a → Again step s b → a ++ x ≡ b ++ y → r ≡ s
one_reading step a b x y r s first second same =
    let one = first (reading_of (a ++ x)) x refl in
    let other = second (reading_of (a ++ x)) y same in
    ap (λ p. p.0) (ok_is (r, one.0) (s, other.0) (sym one.1 ∙ other.1))

pub records_one : (a b x y : List ℕ) (r s : Record) → IsRecord a r → IsRecord b s → a ++ x ≡ b ++ y → (a ≡ b) × (r ≡ s)
records_one a b x y r s is_r is_s same =
    let again : (t : List ℕ) (q : Record) → IsRecord t q → Again record_at q t = λ t q is. subst (Again record_at q) (sym is.spelled) (record_again q is.body is.signature) in
    let one = one_reading record_at a b x y r s (again a r is_r) (again b s is_s) same in
    (is_r.spelled ∙ ap record_bytes one ∙ sym is_s.spelled, one)
