-- Which keys have a record, and what is given of these.
use Rattle.std.proofs.Common.{◌≡◌, ℕ, zero, suc, ◌+◌, ◌<◌, true, false, List, [], ◌∷◌, ◌++◌, length, take, get_or, map, Option, Some, None, is_some, refl, ap, sym, ◌∙◌}
use Rattle.std.specs.Prelude.{IsSome}
use Rattle.std.specs.FinMap.{contains_key}
use Rattle.std.specs.List.{cons_option}
use Rattle.std.proofs.lemmas.List.{take_more}
use Rattle.std.proofs.lemmas.List.Elements.{filter_map-append}
use Rattle.ff_ids.specs.declared.summary.RecordKey.{RecordKey}
use Rattle.record_slots.specs.Held.{held_under}
use Rattle.record_slots.specs.Picks.{held_all}
use Rattle.audit_set.specs.declared.known.Known.{Known}
use Rattle.audit_set.specs.Sets.{HeldKnown}
use Rattle.audit_node.specs.declared.owing.Item.{Item}
use Rattle.audit_node.specs.Exchanging.{item_as}
use Rattle.audit_node.proofs.TellingLemmas.{map-append, nil-right}

-- ---- keys with a record

held-then : (set : HeldKnown) (ks : List RecordKey) (i : ℕ) (k : RecordKey) → i < length ks → k ≡ get_or ks i k
    → held_all set (take (i + 1) ks) ≡ held_all set (take i ks) ++ held_all set (k ∷ [])
held-then set ks i k within here =
    ap (held_all set) (take_more ks i k within ∙ ap (λ (x : RecordKey). take i ks ++ x ∷ []) (sym here))
    ∙ filter_map-append (held_under set) (take i ks) (k ∷ [])

pub held-one : (set : HeldKnown) (ks held : List RecordKey) (i : ℕ) (k : RecordKey) → i < length ks → k ≡ get_or ks i k
    → held_all set held ≡ held_all set (take i ks) → held_all set (held ++ k ∷ []) ≡ held_all set (take (i + 1) ks)
held-one set ks held i k within here same =
    filter_map-append (held_under set) held (k ∷ []) ∙ ap (λ cs. cs ++ held_all set (k ∷ [])) same
    ∙ sym (held-then set ks i k within here)

pub held-none : (set : HeldKnown) (ks held : List RecordKey) (i : ℕ) (k : RecordKey) → i < length ks → k ≡ get_or ks i k
    → contains_key set k ≡ false → held_all set held ≡ held_all set (take i ks) → held_all set held ≡ held_all set (take (i + 1) ks)
held-none set ks held i k within here absent same =
    same ∙ sym (held-then set ks i k within here ∙ ap (λ (o : Option Known). held_all set (take i ks) ++ cons_option o []) (none (held_under set k) absent) ∙ nil-end (held_all set (take i ks)))
  where
    none : (o : Option Known) → is_some o ≡ false → o ≡ None
    none None h = refl
    none (Some c) h = cc

    nil-end : (cs : List Known) → cs ++ [] ≡ cs
    nil-end [] = refl
    nil-end (c ∷ cs) = ap (λ xs. c ∷ xs) (nil-end cs)

pub has-record : (set : HeldKnown) (k : RecordKey) → contains_key set k ≡ true → IsSome (held_under set k)
has-record set k h = some (held_under set k) h
  where
    some : (o : Option Known) → is_some o ≡ true → IsSome o
    some None h = cc
    some (Some c) h = refl

-- ---- as they are owed

-- a key that has a record, behind others
pub item-one : (set : HeldKnown) (ks : List RecordKey) (items : List Item) (i : ℕ) (k : RecordKey) (x : Known) (it : Item) → i < length ks → k ≡ get_or ks i k
    → Some x ≡ held_under set k → it ≡ item_as x → items ≡ map item_as (held_all set (take i ks)) → items ++ it ∷ [] ≡ map item_as (held_all set (take (i + 1) ks))
item-one set ks items i k x it within here some is same =
    ap (λ (y : Item). items ++ y ∷ []) is ∙ ap (λ (ys : List Item). ys ++ item_as x ∷ []) same
    ∙ sym (ap (map item_as) (held-then set ks i k within here ∙ ap (λ (o : Option Known). held_all set (take i ks) ++ cons_option o []) (sym some)) ∙ map-append item_as (held_all set (take i ks)) (x ∷ []))

pub item-none : (set : HeldKnown) (ks : List RecordKey) (items : List Item) (i : ℕ) (k : RecordKey) → i < length ks → k ≡ get_or ks i k
    → None ≡ held_under set k → items ≡ map item_as (held_all set (take i ks)) → items ≡ map item_as (held_all set (take (i + 1) ks))
item-none set ks items i k within here none same =
    same ∙ sym (ap (map item_as) (held-then set ks i k within here ∙ ap (λ (o : Option Known). held_all set (take i ks) ++ cons_option o []) (sym none) ∙ nil-right (held_all set (take i ks))))

pub take-map : {X Y : Type 0} (f : X → Y) (n : ℕ) (xs : List X) → take n (map f xs) ≡ map f (take n xs)
take-map f zero xs = refl
take-map f (suc n) [] = refl
take-map f (suc n) (x ∷ xs) = ap (λ ys. f x ∷ ys) (take-map f n xs)
