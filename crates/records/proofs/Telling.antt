-- The signed bytes tell the tag, the tolerance and the body.
use Rattle.std.proofs.Common.{◌≡◌, ℕ, List, [], ◌∷◌, ◌++◌, length, sym, ap, ◌∙◌, ◌↔◌, take, drop}
use Rattle.std.proofs.lemmas.List.{take_at, drop_at}
use Rattle.records.specs.declared.Body.{Body}
use Rattle.records.specs.Spelling.{IsBody, body_bytes}
use Rattle.records.specs.Grammar.{body_at}
use Rattle.records.specs.Signing.{signed_bytes, CheckedRecord, IsChecked}
use Rattle.records.proofs.Records.{body_again, one_reading}

same_tail : (x y : ℕ) (xs ys : List ℕ) → x ∷ xs ≡ y ∷ ys → (x ≡ y) × (xs ≡ ys)
same_tail x y xs ys e = (cc, ap (drop 1) e)

pub signed-tell : (tag other : List ℕ) (t u : ℕ) (b c : Body) → length tag ≡ 16 → length other ≡ 16 → IsBody b → IsBody c
    → signed_bytes tag t b ≡ signed_bytes other u c → (tag ≡ other) × (t ≡ u) × (b ≡ c)
unfolding signed_bytes
signed-tell tag other t u b c long other_long is_b is_c e =
    let behind : tag ++ t ∷ body_bytes b ≡ other ++ u ∷ body_bytes c = ap (drop 6) e in
    let tags : tag ≡ other = sym (take_at tag (t ∷ body_bytes b) 16 long) ∙ ap (take 16) behind ∙ take_at other (u ∷ body_bytes c) 16 other_long in
    let rest : t ∷ body_bytes b ≡ u ∷ body_bytes c = sym (drop_at tag (t ∷ body_bytes b) 16 long) ∙ ap (drop 16) behind ∙ drop_at other (u ∷ body_bytes c) 16 other_long in
    let tails = same_tail t u (body_bytes b) (body_bytes c) rest in
    (tags, tails.0, one_reading body_at (body_bytes b) (body_bytes c) [] [] b c (body_again b is_b) (body_again c is_c) (ap (λ (x : List ℕ). x ++ []) tails.1))

pub serves : (c : CheckedRecord) (tag : List ℕ) (t : ℕ) → IsChecked c → length tag ≡ 16
    → (signed_bytes tag t c.rec.body ≡ signed_bytes c.tag c.t c.rec.body) ↔ ((tag ≡ c.tag) × (t ≡ c.t))
serves c tag t is long =
    (λ e. let told = signed-tell tag c.tag t c.t c.rec.body c.rec.body long is.tag_long is.body is.body e in (told.0, told.1), λ same. ap (λ (x : List ℕ). signed_bytes x t c.rec.body) same.0 ∙ ap (λ (k : ℕ). signed_bytes c.tag k c.rec.body) same.1)
