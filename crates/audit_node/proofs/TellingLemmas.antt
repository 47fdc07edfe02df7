-- What is added one after the other.
use Rattle.std.proofs.Common.{◌≡◌, ℕ, ◌+◌, ◌<◌, length, take, get_or, List, [], ◌∷◌, ◌++◌, map, refl, ap, sym, ◌∙◌}
use Rattle.std.proofs.lemmas.List.{append_assoc, take_more}
use Rattle.ff_ids.specs.Steps.{Report}
pub use Rattle.signer.proofs.OnwardLemmas.{front-after, front-trans}
use Rattle.journal.specs.declared.event.Event as journal
use Rattle.journal.specs.declared.event.What as whats
use Rattle.journal.specs.declared.event.What.TheVariants as kinds
use Rattle.node_rules.specs.Nodes.{Setting}
use Rattle.audit_node.specs.declared.owing.Owed.TheVariants as owings
use Rattle.audit_node.specs.declared.owing.OwedEvent.{OwedEvent}
use Rattle.audit_node.specs.Owing.{reported, told_by, owed_as}
use Rattle.audit_node.specs.Told.{Tellings, Adds, IsPrefix, with_event, with_report, with_each}

pub nil-right : {A : Type 0} (xs : List A) → xs ++ [] ≡ xs
nil-right [] = refl
nil-right (x ∷ xs) = ap (λ ys. x ∷ ys) (nil-right xs)

pub front-refl : {X : Type 0} (xs : List X) → IsPrefix xs xs
front-refl xs = record { more = []; is = sym (nil-right xs) }

tail-same : {X : Type 0} (x : X) (xs ys : List X) → x ∷ xs ≡ x ∷ ys → xs ≡ ys
tail-same x xs ys e = cc

-- what stands behind the same list is the same
pub append-cancel : {X : Type 0} (front xs ys : List X) → front ++ xs ≡ front ++ ys → xs ≡ ys
append-cancel [] xs ys e = e
append-cancel (x ∷ front) xs ys e = append-cancel front xs ys (tail-same x (front ++ xs) (front ++ ys) e)

-- and so is what is a front there
pub front-behind : {X : Type 0} (before xs ys now : List X) → now ≡ before ++ xs → IsPrefix now (before ++ ys) → IsPrefix xs ys
front-behind before xs ys now is h = record { more = h.more; is = append-cancel before ys (xs ++ h.more) (h.is ∙ ap (λ z. z ++ h.more) is ∙ append_assoc before xs h.more) }

pub map-append : {X Y : Type 0} (f : X → Y) (xs ys : List X) → map f (xs ++ ys) ≡ map f xs ++ map f ys
map-append f [] ys = refl
map-append f (x ∷ xs) ys = ap (λ zs. f x ∷ zs) (map-append f xs ys)

-- what only appends
pub record Appends (g : Tellings → Tellings) : Type 0 where
  pub events : (w : Tellings) → IsPrefix w.events (g w).events

-- ---- what is owed, as the node reports it

pub told-append : (s : Setting) (xs ys : List OwedEvent) → told_by s (xs ++ ys) ≡ told_by s xs ++ told_by s ys
told-append s xs ys = map-append (reported s) xs ys

pub told-as : (s : Setting) (es : List journal.Event) → told_by s (map owed_as es) ≡ es
told-as s [] = refl
told-as s (e ∷ es) = ap (λ (xs : List journal.Event). e ∷ xs) (told-as s es)

-- ---- one addition and then another

pub adds-trans : (f g : Tellings → Tellings) (a b c : Tellings) → Adds f a b → Adds g b c → Adds (λ w. g (f w)) a c
adds-trans f g a b c p q =
    record {
      going = λ ok. let r = q.going ok in let l = p.going r.0 in (l.0, r.1 ∙ ap g l.1);
      events = front-trans a.events b.events c.events p.events q.events;
    }

-- what adds the same
pub adds-same : (f g : Tellings → Tellings) (a b : Tellings) → f a ≡ g a → Adds f a b → Adds g a b
adds-same f g a b same p =
    record { going = λ ok. let l = p.going ok in (l.0, l.1 ∙ same); events = p.events }

pub adds-refl : (f : Tellings → Tellings) (a : Tellings) → a ≡ f a → Adds f a a
adds-refl f a same = record { going = λ ok. (ok, same); events = front-refl a.events }

pub each-none : {X : Type 0} (moment : ℕ) (f : X → whats.What) (w : Tellings) → w ≡ with_each moment f [] w
each-none moment f w = ap (λ xs. record w { events = xs }) (sym (nil-right w.events))

pub each-push : {X : Type 0} (moment : ℕ) (f : X → whats.What) (xs : List X) (x : X) (w : Tellings) → with_event moment (f x) (with_each moment f xs w) ≡ with_each moment f (xs ++ x ∷ []) w
each-push moment f xs x w =
    ap (λ ys. record w { events = ys }) (append_assoc w.events (map (λ y. record { moment = moment; owed = owings.What (f y) }) xs) (record { moment = moment; owed = owings.What (f x) } ∷ []) ∙ ap (λ ys. w.events ++ ys) (sym (map-append (λ y. record { moment = moment; owed = owings.What (f y) }) xs (x ∷ []))))

pub each-more : {X : Type 0} (moment : ℕ) (f : X → whats.What) (xs : List X) (i : ℕ) (x : X) (old a b : Tellings) → i < length xs → x ≡ get_or xs i x → Adds (with_each moment f (take i xs)) old a → Adds (with_event moment (f x)) a b → Adds (with_each moment f (take (i + 1) xs)) old b
each-more moment f xs i x old a b within here so_far next =
    let longer : take (i + 1) xs ≡ take i xs ++ x ∷ [] = take_more xs i x within ∙ ap (λ y. take i xs ++ y ∷ []) (sym here) in
    adds-same (λ w. with_event moment (f x) (with_each moment f (take i xs) w)) (with_each moment f (take (i + 1) xs)) old b
    (each-push moment f (take i xs) x old ∙ ap (λ ys. with_each moment f ys old) (sym longer)) (adds-trans (with_each moment f (take i xs)) (with_event moment (f x)) old a b so_far next)

map-map : {X Y Z : Type 0} (f : X → Y) (g : Y → Z) (xs : List X) → map g (map f xs) ≡ map (λ x. g (f x)) xs
map-map f g [] = refl
map-map f g (x ∷ xs) = ap (λ ys. g (f x) ∷ ys) (map-map f g xs)

report-each : (moment : ℕ) (r : Report) (w : Tellings) → with_each moment kinds.Fell r.fell (with_each moment kinds.Entered r.entered (with_each moment kinds.Removed r.removed (with_each moment kinds.Expired r.expired w))) ≡ with_report moment r w
report-each moment r w =
    let ev : whats.What → OwedEvent = λ what. record { moment = moment; owed = owings.What what } in
    let a : List whats.What = map kinds.Expired r.expired in
    let b : List whats.What = map kinds.Removed r.removed in
    let d : List whats.What = map kinds.Entered r.entered in
    let e : List whats.What = map kinds.Fell r.fell in
    let split : map ev (a ++ b ++ d ++ e) ≡ map ev a ++ map ev b ++ map ev d ++ map ev e =
    map-append ev (a ++ b ++ d) e ∙ ap (λ x. x ++ map ev e) (map-append ev (a ++ b) d ∙ ap (λ x. x ++ map ev d) (map-append ev a b)) in
    let fused : map ev a ++ map ev b ++ map ev d ++ map ev e ≡ map (λ x. ev (kinds.Expired x)) r.expired ++ map (λ x. ev (kinds.Removed x)) r.removed ++ map (λ x. ev (kinds.Entered x)) r.entered ++ map (λ x. ev (kinds.Fell x)) r.fell =
    rw (map-map kinds.Expired ev r.expired, map-map kinds.Removed ev r.removed, map-map kinds.Entered ev r.entered, map-map kinds.Fell ev r.fell) refl in
    let flat : w.events ++ map ev (a ++ b ++ d ++ e) ≡ w.events ++ map (λ x. ev (kinds.Expired x)) r.expired ++ map (λ x. ev (kinds.Removed x)) r.removed ++ map (λ x. ev (kinds.Entered x)) r.entered ++ map (λ x. ev (kinds.Fell x)) r.fell =
    ap (λ x. w.events ++ x) (split ∙ fused) ∙ flatten w.events _ _ _ _ in
    let told : whats.What → journal.Event = λ what. record { moment = moment; what = what } in
    ap (λ x. record w { events = x }) (sym (ap (λ x. w.events ++ x) (map-map told owed_as (a ++ b ++ d ++ e)) ∙ flat))
  where
    flatten : {X : Type 0} (o p q u v : List X) → o ++ (p ++ q ++ u ++ v) ≡ o ++ p ++ q ++ u ++ v
    flatten o p q u v = sym (append_assoc o (p ++ q ++ u) v) ∙ ap (λ x. x ++ v) (sym (append_assoc o (p ++ q) u) ∙ ap (λ x. x ++ u) (sym (append_assoc o p q)))

pub changes-told : (moment : ℕ) (r : Report) (t0 t1 t2 t3 t4 : Tellings) → Adds (with_each moment kinds.Expired r.expired) t0 t1 → Adds (with_each moment kinds.Removed r.removed) t1 t2
    → Adds (with_each moment kinds.Entered r.entered) t2 t3 → Adds (with_each moment kinds.Fell r.fell) t3 t4 → Adds (with_report moment r) t0 t4
changes-told moment r t0 t1 t2 t3 t4 a b d e =
    let ab = adds-trans _ _ t0 t1 t2 a b in
    let abd = adds-trans _ _ t0 t2 t3 ab d in
    let all = adds-trans _ _ t0 t3 t4 abd e in
    adds-same _ (with_report moment r) t0 t4 (report-each moment r t0) all
