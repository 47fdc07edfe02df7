-- What the relation `Verifies` says of the parts of a signature, and when it holds.
use Rattle.std.proofs.Common.{◌≡◌, ℕ, zero, suc, ◌+◌, ◌-◌, ◌*◌, ◌/◌, ◌<◌, ◌≤◌, ◌^◌, List, ◌++◌, length, take, drop, get_or, refl, sym, ◌∙◌, ap, arith, lit<, lit≤, length-append, append_assoc}
use Rattle.std.specs.Prelude.{slice_range}
use Rattle.std.specs.Int.{w32, to_be_bytes, from_be_bytes}
use Rattle.std.proofs.lemmas.List.{take_at, drop_at, take-take, drop-drop, append_cancel_left}
use Rattle.std.proofs.lemmas.Nat.{from_be_bytes-to_be_bytes_4}
use Rattle.lms_ots.specs.declared.kind.OtsKind.{OtsKind}
use Rattle.lms_ots.specs.declared.kind.OtsKind.TheVariants.{W1, W2, W4, W8}
use Rattle.lms_ots.specs.Ots as ots
use Rattle.lms_ots.proofs.Chains.{joined-at, length-joined, signature_length-is}
use Rattle.lms_ots.proofs.Opening.{candidate_value-laid_out}
use Rattle.lms_tree.specs.declared.kind.TreeKind.{TreeKind}
use Rattle.lms_tree.specs.declared.kind.TreeKind.TheVariants.{H5, H10, H15}
use Rattle.lms_tree.specs.declared.key.PublicKey.{PublicKey}
use Rattle.lms_tree.specs.Kinds.{type_number, height, leaf_count, signature_length}
use Rattle.lms_tree.specs.Lms.{Verifies, AreHashes, climb, index_in, one_time_in, ots_bytes, parent, root_from, root_in, sibling_in, signature_bytes, tree_type_in}
use Rattle.lms_tree.proofs.Parts.{three_parts, four_parts, front_more, joined-row, length-slice_range, middle, number-spelled}
use Rattle.lms_tree.proofs.Roots.{one_time-long}

-- ---- numbers that fit

leaf_count-small : (tree : TreeKind) → leaf_count tree < 2 ^ 32
leaf_count-small H5 = lit< tt
leaf_count-small H10 = lit< tt
leaf_count-small H15 = lit< tt

type_number-small : (tree : TreeKind) → type_number tree < 2 ^ 32
type_number-small H5 = lit< tt
type_number-small H10 = lit< tt
type_number-small H15 = lit< tt

ots_type_number-small : (kind : OtsKind) → ots.type_number kind < 2 ^ 32
ots_type_number-small W1 = lit< tt
ots_type_number-small W2 = lit< tt
ots_type_number-small W4 = lit< tt
ots_type_number-small W8 = lit< tt

-- ---- the layout of a signature

record IsLaidOut (s a o t p : List ℕ) (n : ℕ) : Type 0 where
  spelled : s ≡ a ++ o ++ t ++ p
  a_long : length a ≡ 4
  o_long : length o ≡ n
  t_long : length t ≡ 4

first-laid : (s a o t p : List ℕ) (n : ℕ) → IsLaidOut s a o t p n → slice_range s 0 4 ≡ a
first-laid s a o t p n laid =
    rw (laid.spelled, append_assoc, append_assoc) (take_at a (o ++ (t ++ p)) 4 laid.a_long)

one_time-laid : (s a o t p : List ℕ) (n : ℕ) → IsLaidOut s a o t p n → slice_range s 4 (4 + n) ≡ o
one_time-laid s a o t p n laid =
    rw (laid.spelled, append_assoc) (middle a o (t ++ p) 4 (4 + n) laid.a_long (omega (arith, laid.o_long)))

type-laid : (s a o t p : List ℕ) (n : ℕ) → IsLaidOut s a o t p n → slice_range s (4 + n) (4 + n + 4) ≡ t
type-laid s a o t p n laid =
    rw laid.spelled (middle (a ++ o) t p (4 + n) (4 + n + 4)
    (omega (arith, length-append a o, laid.a_long, laid.o_long)) (omega (arith, laid.t_long)))

path-laid : (s a o t p : List ℕ) (n : ℕ) → IsLaidOut s a o t p n → drop (8 + n) s ≡ p
path-laid s a o t p n laid =
    rw laid.spelled (drop_at (a ++ o ++ t) p (8 + n)
    (omega (arith, length-append (a ++ o) t, length-append a o, laid.a_long, laid.o_long, laid.t_long)))

length-laid : (s a o t p : List ℕ) (n : ℕ) → IsLaidOut s a o t p n → length s ≡ 8 + n + length p
length-laid s a o t p n laid =
    omega (arith, ap length laid.spelled, length-append (a ++ o ++ t) p, length-append (a ++ o) t, length-append a o, laid.a_long, laid.o_long, laid.t_long)

length-ots_bytes : (kind : OtsKind) (c : List ℕ) (y : ℕ → List ℕ) → length c ≡ 32 → AreHashes (ots.chain_count kind) y
    → length (ots_bytes kind c y) ≡ ots.signature_length kind
unfolding ots_bytes
length-ots_bytes kind c y c_long y_long =
    let t = to_be_bytes w32 (ots.type_number kind) in
    let head : length t ≡ 4 = refl in
    omega (arith, head, c_long, length-append t c, length-append (t ++ c) (ots.joined y (ots.chain_count kind)), length-joined y (ots.chain_count kind) y_long, signature_length-is kind)

-- ---- what verifies has these parts

verifies-laid : (key : PublicKey) (message signature : List ℕ) (good : Verifies key message signature)
    → IsLaidOut signature (to_be_bytes w32 good.q) (ots_bytes key.ots good.c good.y)
    (to_be_bytes w32 (type_number key.tree)) (ots.joined good.path (height key.tree)) (ots.signature_length key.ots)
unfolding signature_bytes
verifies-laid key message signature good = record {
  spelled = good.spelled;
  a_long = refl;
  o_long = length-ots_bytes key.ots good.c good.y good.c_is_hash good.y_are_hashes;
  t_long = refl;
}

pub verifies-length : (key : PublicKey) (message signature : List ℕ) → Verifies key message signature
    → length signature ≡ signature_length key.tree key.ots
verifies-length key message signature good =
    omega (arith, length-laid _ _ _ _ _ _ (verifies-laid key message signature good), length-joined good.path (height key.tree) good.path_is_hashes)

pub verifies-tree_type : (key : PublicKey) (message signature : List ℕ) → Verifies key message signature
    → tree_type_in key.ots signature ≡ type_number key.tree
verifies-tree_type key message signature good =
    ap (from_be_bytes w32) (type-laid _ _ _ _ _ _ (verifies-laid key message signature good))
    ∙ from_be_bytes-to_be_bytes_4 (type_number key.tree) (type_number-small key.tree)

pub verifies-ots_type : (key : PublicKey) (message signature : List ℕ) → Verifies key message signature
    → ots.number_at 4 signature ≡ ots.type_number key.ots
unfolding ots_bytes
verifies-ots_type key message signature good =
    let n = ots.signature_length key.ots in
    let long = one_time-long key.ots in
    let t = to_be_bytes w32 (ots.type_number key.ots) in
    let front : take 4 (slice_range signature 4 (4 + n)) ≡ slice_range signature 4 8 = take-take 4 (4 + n - 4) (drop 4 signature) (omega arith) in
    let in_front : take 4 (t ++ good.c ++ ots.joined good.y (ots.chain_count key.ots)) ≡ t = refl in
    ap (from_be_bytes w32) (sym front ∙ ap (take 4) (one_time-laid _ _ _ _ _ _ (verifies-laid key message signature good)) ∙ in_front)
    ∙ from_be_bytes-to_be_bytes_4 (ots.type_number key.ots) (ots_type_number-small key.ots)

verifies-index : (key : PublicKey) (message signature : List ℕ) (good : Verifies key message signature)
    → index_in signature ≡ good.q
verifies-index key message signature good =
    ap (from_be_bytes w32) (first-laid _ _ _ _ _ _ (verifies-laid key message signature good))
    ∙ from_be_bytes-to_be_bytes_4 good.q (omega (arith, good.has_leaf, leaf_count-small key.tree))

pub verifies-has_leaf : (key : PublicKey) (message signature : List ℕ) → Verifies key message signature
    → index_in signature < leaf_count key.tree
verifies-has_leaf key message signature good =
    omega (arith, good.has_leaf, verifies-index key message signature good)

verifies-sibling : (key : PublicKey) (message signature : List ℕ) (good : Verifies key message signature) (i : ℕ)
    → i < height key.tree → sibling_in key.ots signature i ≡ good.path i
verifies-sibling key message signature good i below =
    let n = ots.signature_length key.ots in
    let size : 8 + n + 32 * i + 32 - (8 + n + 32 * i) ≡ 32 = omega arith in
    ap (λ k. take k (drop (8 + n + 32 * i) signature)) size
    ∙ ap (take 32) (sym (drop-drop (32 * i) (8 + n) signature)
    ∙ ap (drop (32 * i)) (path-laid _ _ _ _ _ _ (verifies-laid key message signature good)))
    ∙ joined-at good.path (height key.tree) i good.path_is_hashes below

climb-ext : (id : List ℕ) (these those : ℕ → List ℕ) (n : ℕ) (value : List ℕ) (k : ℕ)
    → ((i : ℕ) → i < k → these i ≡ those i) → climb id these n value k ≡ climb id those n value k
unfolding climb
climb-ext id these those n value zero same = refl
climb-ext id these those n value (suc k) same =
    ap (λ v. parent id (n / 2 ^ k) v (these k)) (climb-ext id these those n value k (λ i below. same i (omega arith)))
    ∙ ap (parent id (n / 2 ^ k) (climb id those n value k)) (same k (omega arith))

pub root_from-ext : (tree : TreeKind) (id : List ℕ) (q : ℕ) (k : List ℕ) (these those : ℕ → List ℕ)
    → ((i : ℕ) → i < height tree → these i ≡ those i) → root_from tree id q k these ≡ root_from tree id q k those
unfolding root_from
root_from-ext tree id q k these those same = climb-ext id these those (leaf_count tree + q) _ (height tree) same

candidate-laid : (kind : OtsKind) (id : List ℕ) (q : ℕ) (message c : List ℕ) (y : ℕ → List ℕ) → length c ≡ 32
    → AreHashes (ots.chain_count kind) y
    → ots.candidate_value kind id q message (ots_bytes kind c y) ≡ ots.candidate_from kind id q message c y
unfolding ots_bytes
candidate-laid kind id q message c y c_long y_long = candidate_value-laid_out kind id q message c y c_long y_long

pub verifies-root : (key : PublicKey) (message signature : List ℕ) → Verifies key message signature
    → root_in key message signature ≡ key.root
unfolding root_in
verifies-root key message signature good =
    let one_time : one_time_in key.ots signature ≡ ots_bytes key.ots good.c good.y = one_time-laid _ _ _ _ _ _ (verifies-laid key message signature good) in
    ap (λ n. root_from key.tree key.id n (ots.candidate_value key.ots key.id n message (one_time_in key.ots signature)) (sibling_in key.ots signature)) (verifies-index key message signature good)
    ∙ ap (λ o. root_from key.tree key.id good.q (ots.candidate_value key.ots key.id good.q message o) (sibling_in key.ots signature)) one_time
    ∙ ap (λ k. root_from key.tree key.id good.q k (sibling_in key.ots signature)) (candidate-laid key.ots key.id good.q message good.c good.y good.c_is_hash good.y_are_hashes)
    ∙ root_from-ext key.tree key.id good.q _ _ _ (verifies-sibling key message signature good)
    ∙ good.opens

-- ---- what has these parts verifies

-- the hashes in a row to the end of a list
row-whole : (s : List ℕ) (at n : ℕ)
    → ots.joined (λ i. slice_range s (at + 32 * i) (at + 32 * i + 32)) n ≡ slice_range s at (at + 32 * n)
row-whole s at n =
    append_cancel_left (take at s) _ _ (joined-row s at n ∙ sym (front_more s at (at + 32 * n) (omega arith)))

row-hashes : (s : List ℕ) (at n : ℕ) → at + 32 * n ≤ length s → AreHashes n (λ i. slice_range s (at + 32 * i) (at + 32 * i + 32))
row-hashes s at n within i below =
    omega (arith, length-slice_range s (at + 32 * i) (at + 32 * i + 32) (omega arith) (omega arith))

c_in : OtsKind → List ℕ → List ℕ
c_in kind signature = slice_range (one_time_in kind signature) 4 36

y_in : OtsKind → List ℕ → ℕ → List ℕ
y_in kind signature i = slice_range (one_time_in kind signature) (36 + 32 * i) (36 + 32 * i + 32)

-- that a signature has the parts which make it good under a key
pub record HasParts (key : PublicKey) (message signature : List ℕ) : Type 0 where
  pub below : (k : ℕ) → get_or signature k 0 < 256
  pub long : length signature ≡ signature_length key.tree key.ots
  pub tree_type : tree_type_in key.ots signature ≡ type_number key.tree
  pub ots_type : ots.number_at 4 signature ≡ ots.type_number key.ots
  pub has_leaf : index_in signature < leaf_count key.tree
  pub opens : root_in key message signature ≡ key.root

length-one_time_in : (key : PublicKey) (message signature : List ℕ) → HasParts key message signature
    → length (one_time_in key.ots signature) ≡ ots.signature_length key.ots
length-one_time_in key message signature has =
    let n = ots.signature_length key.ots in
    omega (arith, has.long, length-slice_range signature 4 (4 + n) (omega arith) (omega (arith, has.long)))

one_time-spelled : (key : PublicKey) (message signature : List ℕ) → HasParts key message signature
    → ots_bytes key.ots (c_in key.ots signature) (y_in key.ots signature) ≡ one_time_in key.ots signature
unfolding ots_bytes c_in y_in
one_time-spelled key message signature has =
    let n = ots.signature_length key.ots in
    let p = ots.chain_count key.ots in
    let o = one_time_in key.ots signature in
    let room = one_time-long key.ots in
    let long : length o ≡ 36 + 32 * p = omega (arith, length-one_time_in key message signature has, signature_length-is key.ots) in
    let front : take 4 o ≡ slice_range signature 4 8 = take-take 4 (4 + n - 4) (drop 4 signature) (omega arith) in
    let t : to_be_bytes w32 (ots.type_number key.ots) ≡ take 4 o =
    ap (to_be_bytes w32) (sym has.ots_type) ∙ number-spelled signature 4 has.below (omega (arith, has.long)) ∙ sym front in
    sym (three_parts o _ _ _ 4 36 (36 + 32 * p) (lit≤ tt) (omega arith) long t refl (row-whole o 36 p))

c-long : (key : PublicKey) (message signature : List ℕ) → HasParts key message signature
    → length (c_in key.ots signature) ≡ 32
unfolding c_in
c-long key message signature has =
    let o = one_time_in key.ots signature in
    omega (arith, length-slice_range o 4 36 (lit≤ tt) (omega (arith, length-one_time_in key message signature has, one_time-long key.ots)))

y-long : (key : PublicKey) (message signature : List ℕ) → HasParts key message signature
    → AreHashes (ots.chain_count key.ots) (y_in key.ots signature)
unfolding y_in
y-long key message signature has =
    row-hashes (one_time_in key.ots signature) 36 (ots.chain_count key.ots)
    (omega (arith, length-one_time_in key message signature has, signature_length-is key.ots))

path-spelled : (key : PublicKey) (signature : List ℕ)
    → ots.joined (sibling_in key.ots signature) (height key.tree)
    ≡ slice_range signature (4 + ots.signature_length key.ots + 4) (signature_length key.tree key.ots)
path-spelled key signature =
    let n = ots.signature_length key.ots in
    let start : 4 + n + 4 ≡ 8 + n = omega arith in
    row-whole signature (8 + n) (height key.tree)
    ∙ ap (λ i. slice_range signature i (signature_length key.tree key.ots)) (sym start)

pub parts-verify : (key : PublicKey) (message signature : List ℕ) → HasParts key message signature
    → Verifies key message signature
unfolding signature_bytes root_in
parts-verify key message signature has =
    let n = ots.signature_length key.ots in
    let spelled = one_time-spelled key message signature has in
    let q : to_be_bytes w32 (index_in signature) ≡ take 4 signature = number-spelled signature 0 has.below (omega (arith, has.long)) in
    let t : to_be_bytes w32 (type_number key.tree) ≡ slice_range signature (4 + n) (4 + n + 4) =
    ap (to_be_bytes w32) (sym has.tree_type) ∙ number-spelled signature (4 + n) has.below (omega (arith, has.long)) in
    record {
      q = index_in signature;
      c = c_in key.ots signature;
      y = y_in key.ots signature;
      path = sibling_in key.ots signature;
      has_leaf = has.has_leaf;
      c_is_hash = c-long key message signature has;
      y_are_hashes = y-long key message signature has;
      path_is_hashes = row-hashes signature (8 + n) (height key.tree) (omega (arith, has.long));
      spelled = four_parts signature _ _ _ _ 4 (4 + n) (4 + n + 4) (signature_length key.tree key.ots) (omega arith) (omega arith)
          (omega arith) has.long q spelled t (path-spelled key signature);
      opens = ap (λ k. root_from key.tree key.id (index_in signature) k (sibling_in key.ots signature))
          (sym (candidate-laid key.ots key.id (index_in signature) message _ _ (c-long key message signature has) (y-long key message signature has))
          ∙ ap (ots.candidate_value key.ots key.id (index_in signature) message) spelled)
          ∙ has.opens;
    }
