-- To whom a call sends: all that are listed, in order of number.
use Rattle.std.proofs.Common.{◌≡◌, ℕ, suc, ◌+◌, eqb, Bool, cond, List, [], ◌∷◌, ◌++◌, Option, Some, None, refl, ap, sym, ◌∙◌, map}
use Rattle.std.specs.Prelude.{fold, filter, filter_map, ◌||◌}
use Rattle.std.proofs.lemmas.Bool.{cond_both}
use Rattle.std.proofs.Common.{arith}
use Rattle.ff_ids.specs.declared.Group.{Group}
use Rattle.ff_ids.specs.Views.{State, successor, is_number, all_numbers}
use Rattle.node_rules.specs.Nodes.{Setting}
use Rattle.node_rules.specs.Calls.{Call, sends, sends_to_all}
use Rattle.datagram.specs.declared.Datagram.{Datagram}
use Rattle.node_rules.specs.Nodes.{neighbours, neighbours_and}
use Rattle.ff_ids.specs.Masks.{ring_count}
use Rattle.ff_ids.proofs.MaskLemmas.{range_with_len-push}
use Rattle.std.specs.List.{list_any, range_with_len}
use Rattle.audit_node.specs.Neighbours.{addressees}
use Rattle.audit_node.proofs.TellingLemmas.{nil-right, map-append}

any-one : (f : ℕ → Option ℕ) (rings : List ℕ) (m r : ℕ) (o : Option ℕ) → f r ≡ o → list_any (λ x. eqb x m) (filter_map f rings) ≡ list_any (λ o. is_number o m) (map f rings)
    → list_any (λ x. eqb x m) (filter_map f (r ∷ rings)) ≡ list_any (λ o. is_number o m) (map f (r ∷ rings))
any-one f rings m r None e h = rw e h
any-one f rings m r (Some x) e h = rw e (ap (λ b. eqb x m || b) h)

any-filter_map : (f : ℕ → Option ℕ) (rings : List ℕ) (m : ℕ) → list_any (λ x. eqb x m) (filter_map f rings) ≡ list_any (λ o. is_number o m) (map f rings)
any-filter_map f [] m = refl
any-filter_map f (r ∷ rings) m = any-one f rings m r (f r) refl (any-filter_map f rings m)

pub filter-same : (p q : ℕ → Bool) (xs : List ℕ) → ((x : ℕ) → p x ≡ q x) → filter p xs ≡ filter q xs
filter-same p q [] h = refl
filter-same p q (x ∷ xs) h = rw (h x) (ap (λ ys. cond (q x) (x ∷ ys) ys) (filter-same p q xs h))

abbrev pub listed_on : Group → ℕ → State → Option ℕ → List (Option ℕ)
listed_on g me st also = also ∷ map (λ ring. successor st ring me) (range_with_len 0 (ring_count g.t))

pub addressees-are : (s : Setting) (st : State) (also : Option ℕ) → filter (λ m. list_any (λ o. is_number o m) (listed_on s.group s.me st also)) all_numbers ≡ addressees s also st
unfolding neighbours neighbours_and
addressees-are s st None = filter-same _ _ all_numbers (λ m. sym (any-filter_map (λ ring. successor st ring s.me) (range_with_len 0 (ring_count s.group.t)) m))
addressees-are s st (Some x) = filter-same _ _ all_numbers (λ m. ap (λ b. eqb x m || b) (sym (any-filter_map (λ ring. successor st ring s.me) (range_with_len 0 (ring_count s.group.t)) m)))

abbrev pub wanted_of : List (Option ℕ) → ℕ → List ℕ
wanted_of listed n = filter (λ m. list_any (λ o. is_number o m) listed) (range_with_len 0 n)

pub filter-append : {X : Type 0} (p : X → Bool) (xs ys : List X) → filter p (xs ++ ys) ≡ filter p xs ++ filter p ys
filter-append p [] ys = refl
filter-append p (x ∷ xs) ys =
    cond_both (p x) (x ∷ filter p (xs ++ ys)) (filter p (xs ++ ys)) (λ zs. zs ≡ cond (p x) (x ∷ filter p xs) (filter p xs) ++ filter p ys)
    (λ it. rw it (ap (λ zs. x ∷ zs) (filter-append p xs ys)))
    (λ off. rw off (filter-append p xs ys))

fold-append : {A B : Type 0} (f : B → A → B) (b : B) (xs ys : List A) → fold f b (xs ++ ys) ≡ fold f (fold f b xs) ys
fold-append f b [] ys = refl
fold-append f b (x ∷ xs) ys = fold-append f (f b x) xs ys

pub range-more : (n : ℕ) → range_with_len 0 (n + 1) ≡ range_with_len 0 n ++ n ∷ []
range-more n =
    let next : n + 1 ≡ suc n = omega arith in
    let last : 0 + n ≡ n = omega arith in
    ap (λ (k : ℕ). range_with_len 0 k) next ∙ range_with_len-push 0 n ∙ ap (λ (k : ℕ). range_with_len 0 n ++ k ∷ []) last

pub map-more : {Y : Type 0} (f : ℕ → Y) (n : ℕ) → map f (range_with_len 0 (n + 1)) ≡ map f (range_with_len 0 n) ++ f n ∷ []
map-more f n = ap (map f) (range-more n) ∙ map-append f (range_with_len 0 n) (n ∷ [])

-- one more number
pub sends-more : (s : Setting) (listed : List (Option ℕ)) (n : ℕ) (d : Datagram) (c : Call)
    → cond (list_any (λ o. is_number o n) listed) (sends s d (sends_to_all s (wanted_of listed n) d c) n) (sends_to_all s (wanted_of listed n) d c) ≡ sends_to_all s (wanted_of listed (n + 1)) d c
sends-more s listed n d c =
    let wanted : ℕ → Bool = λ m. list_any (λ o. is_number o m) listed in
    let longer : range_with_len 0 (n + 1) ≡ range_with_len 0 n ++ n ∷ [] = range-more n in
    let split : wanted_of listed (n + 1) ≡ wanted_of listed n ++ filter wanted (n ∷ []) = ap (filter wanted) longer ∙ filter-append wanted (range_with_len 0 n) (n ∷ []) in
    cond_both (wanted n) (sends s d (sends_to_all s (wanted_of listed n) d c) n) (sends_to_all s (wanted_of listed n) d c) (λ x. x ≡ sends_to_all s (wanted_of listed (n + 1)) d c)
    (λ it. sym (ap (λ xs. sends_to_all s xs d c) (split ∙ ap (λ b. wanted_of listed n ++ cond b (n ∷ []) []) it) ∙ fold-append (sends s d) c (wanted_of listed n) (n ∷ [])))
    (λ off. sym (ap (λ xs. sends_to_all s xs d c) (split ∙ ap (λ b. wanted_of listed n ++ cond b (n ∷ []) []) off ∙ nil-right (wanted_of listed n))))
