use Rattle.std.proofs.Common.{◌≡◌, ℕ, Bool, true, false, not, Option, Some, refl, ap, sym, ◌∙◌}
use Rattle.std.specs.Option.{option_and_then}
use Rattle.std.proofs.lemmas.Bool.{false≢true}
use Rattle.world_rules.specs.Refusals.{holds_of}
use Rattle.world_rules.specs.Settings.{Setting, is_liar}
use Rattle.world.specs.Courses.{key_used_up}
use Rattle.world.proofs.World.signer_used_up.Goals as goal

liar-so : (s : Setting) (key : ℕ) (o : Option ℕ) → Some key ≡ o → holds_of (λ k. not (is_liar s k)) o ≡ false → is_liar s key ≡ true
liar-so s key o is h = not-not (is_liar s key) (ap (holds_of (λ k. not (is_liar s k))) is ∙ h)
  where
    not-not : (b : Bool) → not b ≡ false → b ≡ true
    not-not true e = refl
    not-not false e = absurd (false≢true (sym e))

pub returns-in-Some-clause-value : goal.returns-in-Some-clause-value
returns-in-Some-clause-value c = λ s w told h fine.
    c.used_up.ensures.value s w told h (liar-so s c.in-Some.key _ c.in-Some.ensures fine) ∙ ap (option_and_then (key_used_up s w)) c.in-Some.ensures
