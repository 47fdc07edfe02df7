use Rattle.std.proofs.Common.{◌≡◌, ℕ, ◌+◌, List, [], ◌∷◌, ◌++◌, Option, Some, None, max, filter_map, take, refl, ap, sym, ◌∙◌, append-nil}
use Rattle.std.specs.Prelude.{fold}
use Rattle.std.specs.List.{cons_option}
use Rattle.std.proofs.lemmas.List.{take_more}
use Rattle.std.proofs.lemmas.List.Elements.{filter_map-append}
use Rattle.records.specs.declared.Body.{Body}
use Rattle.world_rules.specs.Refusals.{epoch_of_note as epoch_in, greatest}
use Rattle.world_host.specs.Bodies.{later_of}
use Rattle.world_host.proofs.bodies.newest_of.Goals as goal

max-push : (x : ℕ) (ns : List ℕ) (n : ℕ) → fold max x (ns ++ n ∷ []) ≡ max (fold max x ns) n
max-push x [] n = refl
max-push x (y ∷ ns) n = max-push (max x y) ns n

greatest-push : (ns : List ℕ) (o : Option ℕ) → greatest (ns ++ cons_option o []) ≡ later_of (greatest ns) o
greatest-push [] None = refl
greatest-push [] (Some n) = refl
greatest-push (x ∷ ns) None = ap greatest (append-nil (x ∷ ns))
greatest-push (x ∷ ns) (Some n) = ap (λ (k : ℕ). Some k) (max-push x ns n)

pub loop-body-preserved : goal.loop-body-preserved
loop-body-preserved c =
    let xs : List Body = c.args.bodies.now in
    let i : ℕ = c.loop-body.body-index in
    let x : Body = c.body-item.result in
    let f : Body → Option ℕ = epoch_in c.args.member in
    let longer : take (i + 1) xs ≡ take i xs ++ x ∷ [] = take_more xs i x c.loop-body-test.true ∙ ap (λ (y : Body). take i xs ++ y ∷ []) (sym c.body-item.is) in
    let more : greatest (filter_map f (take (i + 1) xs)) ≡ later_of (greatest (filter_map f (take i xs))) (f x) =
    ap (λ (z : List Body). greatest (filter_map f z)) longer ∙ ap greatest (filter_map-append f (take i xs) (x ∷ [])) ∙ greatest-push (filter_map f (take i xs)) (f x) in
    c.later-newest.ensures ∙ ap (λ (o : Option ℕ). later_of o c.epoch_of_note.result) c.loop-body.invariant ∙ ap (later_of (greatest (filter_map f (take i xs)))) c.epoch_of_note.ensures ∙ sym more
