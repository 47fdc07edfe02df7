-- What is forged in bytes depends on what was signed alone; and where nothing is, nothing is later.
use Rattle.std.proofs.Common.{◌≡◌, ℕ, Bool, true, false, not, List, [], ◌∷◌, ◌++◌, Option, Some, None, inl, inr, refl, ap, sym, ◌∙◌}
use Rattle.std.specs.Prelude.{◌&&◌, ◌||◌, find, option_map, Result, Ok}
use Rattle.std.specs.List.{list_any}
use Rattle.std.specs.Option.{option_or}
use Rattle.std.proofs.lemmas.Bool.{cases_Bool, false≢true}
use Rattle.std.proofs.lemmas.List.Folds.{list_any-append}
use Rattle.records.specs.declared.Record.{Record}
use Rattle.datagram.specs.declared.Datagram.{Datagram}
use Rattle.datagram.specs.declared.Datagram.TheVariants as kinds
use Rattle.datagram.specs.Grammar.{read_of}
use Rattle.node_rules.proofs.OwnNote.{option_or-none}
use Rattle.world_rules.specs.Settings.{Owner, Setting, Signed, same_body, same_owner}
use Rattle.world_rules.specs.Worlds.{World}
use Rattle.world_rules.specs.Forgeries.{Forgery, first_forgery, forgery, forgery_by, forgery_in, has_signed, is_forged_for, protected}
use Rattle.world_rules.proofs.OnDisks.{chosen, other}

-- ---- the same signatures

same-by : (s : Setting) (w v : World) (r : Record) → v.signed ≡ w.signed → forgery_by s v r ≡ forgery_by s w r
same-by s w v r e =
    ap (λ (xs : List Signed). option_map (λ who. let x : Forgery = record { who = who; body = r.body } in x) (find (λ who. s.verifies (s.key who) r && not (list_any (λ x. same_owner x.who who && same_body x.body r.body) xs)) (protected s))) e

same-first : (s : Setting) (w v : World) (records : List Record) → v.signed ≡ w.signed → first_forgery s v records ≡ first_forgery s w records
same-first s w v [] e = refl
same-first s w v (r ∷ records) e =
    ap (λ o. option_or o (first_forgery s v records)) (same-by s w v r e) ∙ ap (λ o. option_or (forgery_by s w r) o) (same-first s w v records e)

same-in : (s : Setting) (w v : World) (d : Result Datagram ℕ) → v.signed ≡ w.signed → forgery_in s v d ≡ forgery_in s w d
same-in s w v (Ok (kinds.Records from records)) e = same-first s w v records e
same-in s w v _ e = refl

pub same-forgery : (s : Setting) (w v : World) (bytes : List ℕ) → v.signed ≡ w.signed → forgery s v bytes ≡ forgery s w bytes
unfolding forgery
same-forgery s w v bytes e = same-in s w v (read_of bytes) e

-- ---- more signatures

still : (verifies before later : Bool) → (before ≡ true → later ≡ true) → (verifies && not before) ≡ false → (verifies && not later) ≡ false
still false before later f h = refl
still true true later f h = ap not (f refl)
still true false later f h = absurd (false≢true (sym h))

still-signed : (w v : World) (more : List Signed) (who : Owner) (r : Record) → v.signed ≡ w.signed ++ more → has_signed w who r.body ≡ true → has_signed v who r.body ≡ true
still-signed w v more who r grown h =
    let p : Signed → Bool = λ x. same_owner x.who who && same_body x.body r.body in
    ap (list_any p) grown ∙ list_any-append p w.signed more ∙ ap (λ b. b || list_any p more) h

none-later : (p q : Owner → Bool) (xs : List Owner) → ((x : Owner) → p x ≡ false → q x ≡ false) → find p xs ≡ None → find q xs ≡ None
none-later p q [] f h = refl
none-later p q (x ∷ xs) f h =
    elim (cases_Bool (p x)) [
      | inl passes ↦ absurd (never x (sym (chosen (p x) _ _ passes) ∙ h))
      | inr fails ↦ other (q x) _ _ (f x fails) ∙ none-later p q xs f (sym (other (p x) _ _ fails) ∙ h)
    ]
  where
    never : (x : Owner) → Some x ≡ None → ⊥
    never x e = cc

map-none : (g : Owner → Forgery) (o : Option Owner) → option_map g o ≡ None → o ≡ None
map-none g None h = refl
map-none g (Some x) h = cc

spared-by : (s : Setting) (w v : World) (more : List Signed) (r : Record) → v.signed ≡ w.signed ++ more → forgery_by s w r ≡ None → forgery_by s v r ≡ None
spared-by s w v more r grown h =
    let g : Owner → Forgery = λ who. record { who = who; body = r.body } in
    ap (option_map g) (none-later (is_forged_for s w r) (is_forged_for s v r) (protected s)
    (λ who fine. still (s.verifies (s.key who) r) (has_signed w who r.body) (has_signed v who r.body) (still-signed w v more who r grown) fine)
    (map-none g (find (is_forged_for s w r) (protected s)) h))

spared-first : (s : Setting) (w v : World) (more : List Signed) (records : List Record) → v.signed ≡ w.signed ++ more → first_forgery s w records ≡ None → first_forgery s v records ≡ None
spared-first s w v more [] grown h = refl
spared-first s w v more (r ∷ records) grown h =
    let x = option_or-none (forgery_by s w r) (first_forgery s w records) h in
    ap (λ o. option_or o (first_forgery s v records)) (spared-by s w v more r grown x.0) ∙ spared-first s w v more records grown x.1

spared-in : (s : Setting) (w v : World) (more : List Signed) (d : Result Datagram ℕ) → v.signed ≡ w.signed ++ more → forgery_in s w d ≡ None → forgery_in s v d ≡ None
spared-in s w v more (Ok (kinds.Records from records)) grown h = spared-first s w v more records grown h
spared-in s w v more _ grown h = refl

pub stays-spared : (s : Setting) (w v : World) (more : List Signed) (bytes : List ℕ) → v.signed ≡ w.signed ++ more → forgery s w bytes ≡ None → forgery s v bytes ≡ None
unfolding forgery
stays-spared s w v more bytes grown h = spared-in s w v more (read_of bytes) grown h
