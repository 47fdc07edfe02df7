use Rattle.std.proofs.Common.{◌≡◌, ℕ, ◌<◌, true, false, Some, length, refl, sym, ◌∙◌, subst, rules}
use Rattle.std.specs.List.{slice_get}
use Rattle.std.proofs.lemmas.Option.{slice_get_read}
use Rattle.world.specs.contracts.World.{the_view}
use Rattle.world.specs.declared.liar.Liar.{Liar}
use Rattle.world.specs.Holding.{Holds, Kept, liar_numbers}
use Rattle.std.proofs.lemmas.Bool.{false≢true}
use Rattle.sign_keys.specs.Keys.{index_count}
use Rattle.world.proofs.SignerLemmas.{liar-leaves, liar-next, used-false, used-true}
use Rattle.world.proofs.World.used_up.Goals as goal

pub returns-in_err-at-clause-value : goal.returns-in_err-at-clause-value
returns-in_err-at-clause-value c = λ s w told h liar. absurd (false≢true (sym (c.in_err-at.ensures.place s h.lying) ∙ liar))

pub returns-then-is_used_up-clause-value : goal.returns-then-is_used_up-clause-value
returns-then-is_used_up-clause-value c = λ s w told h liar.
    let v : Kept = the_view c.self.inside in
    let at : ℕ = c.in_ok-at.at in
    let x : Liar = c.index-liar.result.now in
    let placed = c.in_ok-at.ensures.place s h.lying in
    let within : at < length v.liars = subst (λ (z : Kept). at < length z.liars) (sym c.self.view_is) c.in_ok-at.ensures.within in
    let found : slice_get v.liars at ≡ Some x = slice_get_read v.liars (length v.liars) at x refl within c.index-liar.ensures in
    let held = subst (Holds s w told) (sym c.self.view_is) h in
    let there = subst (λ (z : Kept). slice_get (liar_numbers z) at ≡ Some c.args.key) (sym c.self.view_is) placed.1 in
    let used : c.is_used_up.result ≡ true = search rules in
    used-true s w c.args.key x.key.next c.next.result (index_count x.key.key) (liar-next s w told v c.args.key at x held there found) (liar-leaves s w told v c.args.key at x held there found) c.next.ensures (sym c.is_used_up.ensures ∙ used)

pub returns-else-is_used_up-clause-value : goal.returns-else-is_used_up-clause-value
returns-else-is_used_up-clause-value c = λ s w told h liar.
    let v : Kept = the_view c.self.inside in
    let at : ℕ = c.in_ok-at.at in
    let x : Liar = c.index-liar.result.now in
    let placed = c.in_ok-at.ensures.place s h.lying in
    let within : at < length v.liars = subst (λ (z : Kept). at < length z.liars) (sym c.self.view_is) c.in_ok-at.ensures.within in
    let found : slice_get v.liars at ≡ Some x = slice_get_read v.liars (length v.liars) at x refl within c.index-liar.ensures in
    let held = subst (Holds s w told) (sym c.self.view_is) h in
    let there = subst (λ (z : Kept). slice_get (liar_numbers z) at ≡ Some c.args.key) (sym c.self.view_is) placed.1 in
    let left : c.is_used_up.result ≡ false = search rules in
    used-false s w c.args.key x.key.next (index_count x.key.key) (liar-next s w told v c.args.key at x held there found) (liar-leaves s w told v c.args.key at x held there found) (sym c.is_used_up.ensures ∙ left)
