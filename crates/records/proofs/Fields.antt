-- A field that is read is the field that was written, and what was written is read again.
use Rattle.std.proofs.Common.{◌≡◌, ℕ, ◌+◌, ◌^◌, ◌<◌, ◌≤◌, Bool, true, false, cond, ltb, List, [], ◌∷◌, ◌++◌, length, get_or, take, drop, Option, Some, None, Result, Ok, Err, refl, sym, ap, subst, ◌∙◌, append_assoc, arith, inl, inr}
use Rattle.std.specs.Int.{Width, w16, w32, w64, byte_len, from_be_bytes, to_be_bytes}
use Rattle.std.proofs.lemmas.Bool.{cases_lt, ltb-false, le-ltb}
use Rattle.std.proofs.lemmas.Bool.Decides.{nat_tests}
use Rattle.std.proofs.lemmas.List.{take_at, drop_at, take-append-drop, length-append, length-take, get_or-drop, get_or-take, get_or_past, take_more}
use Rattle.std.proofs.lemmas.Nat.{be_bytes_2, be_bytes_4, be_bytes_8, from_be_bytes-to_be_bytes_2, from_be_bytes-to_be_bytes_4, from_be_bytes-to_be_bytes_8}
use Rattle.fields.specs.Reading.{Reading, advanced}
use Rattle.records.specs.Grammar.{◌>>=◌, kept, number_at, byte_at, bytes_at, any_number, number_within, nonzero}

abbrev pub IsBytes : List ℕ → Type 0
IsBytes bytes = (i : ℕ) → get_or bytes i 0 < 256

pub IsBytes-drop : (n : ℕ) (bytes : List ℕ) → IsBytes bytes → IsBytes (drop n bytes)
IsBytes-drop n bytes h i = rw get_or-drop (h (n + i))

IsBytes-take : (n : ℕ) (bytes : List ℕ) → IsBytes bytes → IsBytes (take n bytes)
IsBytes-take n bytes h i =
    elim (cases_lt i n) [
      | inl lt ↦ rw (get_or-take n bytes i 0 lt) (h i)
      | inr le ↦ rw (get_or_past (take n bytes) i 0 (omega (arith, length-take n bytes))) (omega arith)
    ]

-- ---- steps

-- the value of a step that did not fail
pub bind_ok : {A B : Type 0} (r : Result A ℕ) (f : A → Result B ℕ) (y : B) → (r >>= f) ≡ Ok y → (x : A) × (r ≡ Ok x) × (f x ≡ Ok y)
bind_ok (Ok x) f y e = (x, refl, e)
bind_ok (Err d) f y e = absurd cc

abbrev done : {A : Type 0} → A → Result A ℕ
done x = Ok x

pub ok_is : {A : Type 0} (x y : A) → done x ≡ done y → x ≡ y
ok_is x y e = cc

-- a test that did not fail
guard_ok : {A : Type 0} (b : Bool) (d : ℕ) (r : Result A ℕ) (y : A) → cond b (Err d) r ≡ Ok y → (b ≡ false) × (r ≡ Ok y)
guard_ok true d r y e = absurd cc
guard_ok false d r y e = (refl, e)

kept_ok : {A : Type 0} (n : ℕ) (r : Reading) (o : Option A) (y : A × Reading) → kept n r o ≡ Ok y → (o ≡ Some y.0) × (advanced n r ≡ y.1)
kept_ok n r (Some x) y e = let same = ok_is (x, advanced n r) y e in (ap (λ p. Some p.0) same, ap (λ p. p.1) same)
kept_ok n r None y e = absurd cc

-- A step takes the text from the front of what is left.
pub record Takes (r : Reading) (text : List ℕ) (s : Reading) : Type 0 where
  pub parts : r.left ≡ text ++ s.left
  pub place : s.place ≡ r.place + length text
  pub fits : IsBytes s.left

pub Takes-then : (a : Reading) (x : List ℕ) (b : Reading) (y : List ℕ) (c : Reading) → Takes a x b → Takes b y c → Takes a (x ++ y) c
Takes-then a x b y c p q = record {
  parts = p.parts ∙ ap (λ (t : List ℕ). x ++ t) q.parts ∙ sym (append_assoc x y c.left);
  place = omega (arith, p.place, q.place, length-append x y);
  fits = q.fits;
}

-- ---- bytes

advanced-takes : (n : ℕ) (r : Reading) (text : List ℕ) → IsBytes r.left → n ≤ length r.left → text ≡ take n r.left → Takes r text (advanced n r)
advanced-takes n r text fits long front = record {
  parts = rw front (sym (take-append-drop n r.left));
  place = rw front (omega (arith, length-take n r.left));
  fits = IsBytes-drop n r.left fits;
}

pub bytes_take : (n : ℕ) (r : Reading) (x : List ℕ) (s : Reading) → IsBytes r.left → bytes_at n r ≡ Ok (x, s) → Takes r x s × (length x ≡ n)
bytes_take n r x s fits e =
    let g = guard_ok (ltb (length r.left) n) r.place (Ok (take n r.left, advanced n r)) (x, s) e in
    let long : n ≤ length r.left = ltb-false _ _ g.0 in
    let same = ok_is (take n r.left, advanced n r) (x, s) g.1 in
    subst (λ (p : List ℕ × Reading). Takes r p.0 p.1 × (length p.0 ≡ n)) same
    (advanced-takes n r (take n r.left) fits long refl, omega (arith, length-take n r.left))

-- ---- what was written is read again

-- A step goes past the text, which stood in front of the rest.
pub record Past (r : Reading) (text rest : List ℕ) (s : Reading) : Type 0 where
  pub left : s.left ≡ rest
  pub place : s.place ≡ r.place + length text

-- Where the text is at the front, the step reads the value from it.
abbrev pub Again : {A : Type 0} → (Reading → Result (A × Reading) ℕ) → A → List ℕ → Type 0
Again {A} step x text = (r : Reading) (rest : List ℕ) → r.left ≡ text ++ rest → (s : Reading) × (step r ≡ Ok (x, s)) × Past r text rest s

pub bytes_again : (x : List ℕ) (n : ℕ) → length x ≡ n → Again (bytes_at n) x x
bytes_again x n len r rest left =
    let enough : ltb (length r.left) n ≡ false = le-ltb _ _ (rw left (omega (arith, length-append x rest))) in
    let front : take n r.left ≡ x = ap (take n) left ∙ take_at x rest n len in
    let behind : drop n r.left ≡ rest = ap (drop n) left ∙ drop_at x rest n len in
    (advanced n r, rw enough (ap (λ (t : List ℕ). done (t, advanced n r)) front), record { left = behind; place = omega (arith, len) })

pub then_again : {A B : Type 0} (f : Reading → Result (A × Reading) ℕ) (g : A → Reading → Result (B × Reading) ℕ) (x : A) (y : B) (t u : List ℕ)
    → Again f x t → Again (g x) y u → Again (λ r. f r >>= λ p. g p.0 p.1) y (t ++ u)
then_again f g x y t u first second r rest left =
    let a = first r (u ++ rest) (left ∙ append_assoc t u rest) in
    let b = second a.0 rest a.2.left in
    (b.0, ap (λ v. v >>= λ p. g p.0 p.1) a.1 ∙ b.1, record { left = b.2.left; place = omega (arith, a.2.place, b.2.place, length-append t u) })

pub map_again : {A B : Type 0} (f : Reading → Result (A × Reading) ℕ) (h : A → B) (x : A) (t : List ℕ) → Again f x t → Again (λ r. f r >>= λ p. Ok (h p.0, p.1)) (h x) t
map_again f h x t first r rest left =
    let a = first r rest left in
    (a.0, ap (λ v. v >>= λ p. done (h p.0, p.1)) a.1, a.2)

-- ---- numbers

pub record IsWide (w : Width) (limit : ℕ) : Type 0 where
  pub len : (n : ℕ) → length (to_be_bytes w n) ≡ byte_len w
  pub back : (bytes : List ℕ) → length bytes ≡ byte_len w → IsBytes bytes → to_be_bytes w (from_be_bytes w bytes) ≡ bytes
  pub again : (n : ℕ) → n < limit → from_be_bytes w (to_be_bytes w n) ≡ n
  pub below : (bytes : List ℕ) → IsBytes bytes → from_be_bytes w bytes < limit

pub wide16 : IsWide w16 (2 ^ 16)
wide16 = record {
  len = λ n. refl;
  back = λ bytes len fits. be_bytes_2 bytes _ len fits refl;
  again = λ n lt. from_be_bytes-to_be_bytes_2 n lt;
  below = λ bytes fits. omega (arith, fits 0, fits 1);
}

pub wide32 : IsWide w32 (2 ^ 32)
wide32 = record {
  len = λ n. refl;
  back = λ bytes len fits. be_bytes_4 bytes _ len fits refl;
  again = λ n lt. from_be_bytes-to_be_bytes_4 n lt;
  below = λ bytes fits. omega (arith, fits 0, fits 1, fits 2, fits 3);
}

pub wide64 : IsWide w64 (2 ^ 64)
wide64 = record {
  len = λ n. refl;
  back = λ bytes len fits. be_bytes_8 bytes _ len fits refl;
  again = λ n lt. from_be_bytes-to_be_bytes_8 n lt;
  below = λ bytes fits. omega (arith, fits 0, fits 1, fits 2, fits 3, fits 4, fits 5, fits 6, fits 7);
}

-- A rule on numbers below the limit gives a value exactly where the number is the code of a good one.
pub record IsRule {A : Type 0} (limit : ℕ) (rule : ℕ → Option A) (code : A → ℕ) (Good : A → Type 0) : Type 0 where
  pub back : (n : ℕ) (x : A) → n < limit → rule n ≡ Some x → (n ≡ code x) × Good x
  pub again : (x : A) → Good x → (rule (code x) ≡ Some x) × (code x < limit)

pub number_takes : {A : Type 0} (w : Width) (limit : ℕ) (rule : ℕ → Option A) (code : A → ℕ) (Good : A → Type 0) (r : Reading) (x : A) (s : Reading)
    → IsWide w limit → IsRule limit rule code Good → IsBytes r.left → number_at w rule r ≡ Ok (x, s) → Takes r (to_be_bytes w (code x)) s × Good x
number_takes w limit rule code Good r x s wide ruled fits e =
    let field = take (byte_len w) r.left in
    let n = from_be_bytes w field in
    let g = guard_ok (ltb (length r.left) (byte_len w)) r.place (kept (byte_len w) r (rule n)) (x, s) e in
    let long : byte_len w ≤ length r.left = ltb-false _ _ g.0 in
    let k = kept_ok (byte_len w) r (rule n) (x, s) g.1 in
    let field_fits = IsBytes-take (byte_len w) r.left fits in
    let b = ruled.back n x (wide.below field field_fits) k.0 in
    let front : to_be_bytes w (code x) ≡ field = ap (to_be_bytes w) (sym b.0) ∙ wide.back field (omega (arith, length-take (byte_len w) r.left)) field_fits in
    (subst (Takes r (to_be_bytes w (code x))) k.1 (advanced-takes (byte_len w) r _ fits long front), b.1)

pub number_again : {A : Type 0} (w : Width) (limit : ℕ) (rule : ℕ → Option A) (code : A → ℕ) (Good : A → Type 0) (x : A)
    → IsWide w limit → IsRule limit rule code Good → Good x → Again (number_at w rule) x (to_be_bytes w (code x))
number_again w limit rule code Good x wide ruled good r rest left =
    let field = to_be_bytes w (code x) in
    let k = byte_len w in
    let len = wide.len (code x) in
    let a = ruled.again x good in
    let enough : ltb (length r.left) k ≡ false = le-ltb _ _ (rw left (omega (arith, length-append field rest, len))) in
    let front : take k r.left ≡ field = ap (take k) left ∙ take_at field rest k len in
    let behind : drop k r.left ≡ rest = ap (drop k) left ∙ drop_at field rest k len in
    let value : rule (from_be_bytes w (take k r.left)) ≡ Some x = ap (λ (t : List ℕ). rule (from_be_bytes w t)) front ∙ ap rule (wide.again (code x) a.1) ∙ a.0 in
    (advanced k r, rw enough (ap (kept k r) value), record { left = behind; place = omega (arith, len) })

-- ---- bytes that are numbers

pub byte_takes : {A : Type 0} (rule : ℕ → Option A) (r : Reading) (x : A) (s : Reading) → IsBytes r.left → byte_at rule r ≡ Ok (x, s)
    → (b : ℕ) × (rule b ≡ Some x) × Takes r (b ∷ []) s
byte_takes rule r x s fits e =
    let g = guard_ok (ltb (length r.left) 1) r.place (kept 1 r (rule (get_or r.left 0 0))) (x, s) e in
    let long : 1 ≤ length r.left = ltb-false _ _ g.0 in
    let k = kept_ok 1 r (rule (get_or r.left 0 0)) (x, s) g.1 in
    let front : get_or r.left 0 0 ∷ [] ≡ take 1 r.left = sym (take_more r.left 0 0 long) in
    (get_or r.left 0 0, k.0, subst (Takes r (get_or r.left 0 0 ∷ [])) k.1 (advanced-takes 1 r _ fits long front))

pub byte_again : {A : Type 0} (rule : ℕ → Option A) (x : A) (b : ℕ) → rule b ≡ Some x → Again (byte_at rule) x (b ∷ [])
byte_again rule x b good r rest left =
    let enough : ltb (length r.left) 1 ≡ false = le-ltb _ _ (rw left (omega arith)) in
    let front : get_or r.left 0 0 ≡ b = ap (λ (t : List ℕ). get_or t 0 0) left in
    let behind : drop 1 r.left ≡ rest = ap (drop 1) left in
    (advanced 1 r, rw enough (ap (kept 1 r) (ap rule front ∙ good)), record { left = behind; place = omega arith })

-- ---- rules

some_is : (n x : ℕ) → any_number n ≡ Some x → n ≡ x
some_is n x e = cc

pub any_rule : (limit : ℕ) → IsRule limit any_number (λ n. n) (λ n. n < limit)
any_rule limit = record {
  back = λ n x lt e. let same = some_is n x e in (same, subst (λ (k : ℕ). k < limit) same lt);
  again = λ x lt. (refl, lt);
}

pub within_rule : (limit least most : ℕ) → most < limit → IsRule limit (number_within least most) (λ n. n) (λ n. (least ≤ n) × (n ≤ most))
within_rule limit least most lt = record {
  back = λ n x below e. grind (arith, nat_tests);
  again = λ x good. (grind (arith, nat_tests), omega arith);
}

pub nonzero_rule : (limit : ℕ) → IsRule limit nonzero (λ n. n) (λ n. (0 < n) × (n < limit))
nonzero_rule limit = record {
  back = λ n x below e. grind (arith, nat_tests);
  again = λ x good. (grind (arith, nat_tests), good.1);
}
