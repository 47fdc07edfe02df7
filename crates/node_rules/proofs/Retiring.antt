-- What expires is moved, and what a step ends is held no more, under each key.
use Rattle.std.proofs.Common.{◌≡◌, ℕ, Bool, true, false, cond, List, [], ◌∷◌, ◌++◌, Option, Some, None, refl, ap, sym, ◌∙◌, map}
use Rattle.std.specs.Prelude.{◌||◌, fold}
use Rattle.std.specs.List.{list_any}
use Rattle.std.specs.Ordering.{eq_by_cmp}
use Rattle.ff_ids.specs.declared.AccBody.{AccBody}
use Rattle.ff_ids.specs.declared.summary.RecordKey.{RecordKey}
use Rattle.ff_ids.specs.declared.summary.RecordKey.TheVariants as keys
use Rattle.ff_ids.specs.Heals.{Heal}
use Rattle.ff_ids.specs.Steps.{Report}
use Rattle.records.specs.declared.Record.{Record}
use Rattle.record_set.specs.Held.{key_cmp}
use Rattle.node_rules.specs.Nodes.{Holding, without, without_ended, key_of_accusation, retired, moved, retires}

-- ---- what is dropped

-- Under a key that is dropped nothing is held, and the others are left.
without-all : (ks : List RecordKey) (held : Holding) (k : RecordKey)
    → fold without held ks k ≡ cond (list_any (eq_by_cmp key_cmp k) ks) None (held k)
without-all [] held k = refl
without-all (g ∷ ks) held k =
    without-all ks (without held g) k
    ∙ either (eq_by_cmp key_cmp k g) (list_any (eq_by_cmp key_cmp k) ks) (held k)
  where
    either : (here later : Bool) (o : Option Record) → cond later None (cond here None o) ≡ cond (here || later) None o
    either true true o = refl
    either true false o = refl
    either false later o = refl

without-twice : (ks : List RecordKey) (held : Holding) (k : RecordKey)
    → fold without (fold without held ks) ks k ≡ fold without held ks k
without-twice ks held k =
    without-all ks (fold without held ks) k ∙ ap (λ o. cond (list_any (eq_by_cmp key_cmp k) ks) None o) (without-all ks held k)
    ∙ again (list_any (eq_by_cmp key_cmp k) ks) (held k) ∙ sym (without-all ks held k)
  where
    again : (b : Bool) (o : Option Record) → cond b None (cond b None o) ≡ cond b None o
    again true o = refl
    again false o = refl

-- of what is held under other keys nothing is asked
without-same : (ks : List RecordKey) (held later : Holding) (k : RecordKey)
    → later k ≡ held k → fold without later ks k ≡ fold without held ks k
without-same ks held later k same =
    without-all ks later k ∙ ap (λ o. cond (list_any (eq_by_cmp key_cmp k) ks) None o) same ∙ sym (without-all ks held k)

without-parts : (xs ys : List AccBody) (held : Holding) (k : RecordKey)
    → fold without held (map key_of_accusation (xs ++ ys)) k
    ≡ fold without (fold without held (map key_of_accusation xs)) (map key_of_accusation ys) k
without-parts [] ys held k = refl
without-parts (x ∷ xs) ys held k = without-parts xs ys (without held (key_of_accusation x)) k

pub ended-removal : (gone : List AccBody) (held : Holding) (m : ℕ)
    → fold without held (map key_of_accusation gone) (keys.Removal m) ≡ held (keys.Removal m)
ended-removal [] held m = refl
ended-removal (a ∷ gone) held m = ended-removal gone (without held (key_of_accusation a)) m

-- ---- what is moved leaves the keys of no removal as what is dropped does

abbrev pub IsPlain : RecordKey → Type 0
IsPlain (keys.Certificate m) = Unit {0}
IsPlain (keys.Note m) = Unit {0}
IsPlain (keys.Accusation m ring) = Unit {0}
IsPlain (keys.Removal m) = ⊥

retired-plain : (held : Holding) (a : AccBody) (k : RecordKey) → IsPlain k → retired held a k ≡ held k
retired-plain held a (keys.Certificate m) plain = refl
retired-plain held a (keys.Note m) plain = refl
retired-plain held a (keys.Accusation m ring) plain = refl
retired-plain held a (keys.Removal m) plain = absurd plain

moved-plain : (gone : List AccBody) (held : Holding) (k : RecordKey) → IsPlain k
    → fold moved held gone k ≡ fold without held (map key_of_accusation gone) k
moved-plain [] held k plain = refl
moved-plain (a ∷ gone) held k plain =
    moved-plain gone (moved held a) k plain
    ∙ without-same (map key_of_accusation gone) (without held (key_of_accusation a)) (moved held a) k
    (ap (λ o. cond (eq_by_cmp key_cmp k (key_of_accusation a)) None o) (retired-plain held a k plain))

-- what is moved is dropped already
moved-gone : (gone : List AccBody) (held : Holding) (k : RecordKey) → IsPlain k
    → fold without (fold moved held gone) (map key_of_accusation gone) k ≡ fold moved held gone k
moved-gone gone held k plain =
    let ks : List RecordKey = map key_of_accusation gone in
    without-same ks (fold without held ks) (fold moved held gone) k (moved-plain gone held k plain)
    ∙ without-twice ks held k ∙ sym (moved-plain gone held k plain)

moved-once : (gone : List AccBody) (held : Holding) (k : RecordKey)
    → fold without (fold moved held gone) (map key_of_accusation gone) k ≡ fold moved held gone k
moved-once gone held (keys.Certificate m) = moved-gone gone held (keys.Certificate m) tt
moved-once gone held (keys.Note m) = moved-gone gone held (keys.Note m) tt
moved-once gone held (keys.Accusation m ring) = moved-gone gone held (keys.Accusation m ring) tt
moved-once gone held (keys.Removal m) = ended-removal gone (fold moved held gone) m

-- ---- a step

-- Once what expired is moved, a step drops only what fell.
pub retires-once : (heal : Heal) (r : Report) (held : Holding) (k : RecordKey)
    → without_ended r (retires (Some heal) r held) k ≡ fold without (fold moved held r.expired) (map key_of_accusation r.fell) k
retires-once heal r held k =
    let left : Holding = fold moved held r.expired in
    let again : Holding = fold without left (map key_of_accusation r.expired) in
    without-parts r.expired r.fell left k ∙ without-same (map key_of_accusation r.fell) left again k (moved-once r.expired held k)

-- With the option and without it, a step leaves the same under the key of no removal.
pub retires-plain : (heal : Option Heal) (r : Report) (held : Holding) (k : RecordKey) → IsPlain k
    → without_ended r (retires heal r held) k ≡ without_ended r held k
retires-plain None r held k plain = refl
retires-plain (Some heal) r held k plain =
    let dropped : Holding = fold without held (map key_of_accusation r.expired) in
    retires-once heal r held k
    ∙ without-same (map key_of_accusation r.fell) dropped (fold moved held r.expired) k (moved-plain r.expired held k plain)
    ∙ sym (without-parts r.expired r.fell held k)
