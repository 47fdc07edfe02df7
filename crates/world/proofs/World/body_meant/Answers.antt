use Rattle.std.proofs.Common.{◌≡◌, ℕ, List, Option, Some, None, refl, ap, sym, ◌∙◌, rules}
use Rattle.std.specs.Option.{option_map}
use Rattle.ff_ids.specs.declared.AccBody.{AccBody}
use Rattle.ff_ids.specs.declared.RingNo.{RingNo}
use Rattle.records.specs.declared.Body.TheVariants.{Accusation}
use Rattle.schedule_world.specs.declared.line.WorldLine.TheVariants as lines
use Rattle.schedule_world.specs.declared.line.WorldLine.{WorldLine}
use Rattle.world_rules.specs.Steps.{epoch_meant}
use Rattle.world_rules.specs.Worlds.{World as ModelWorld}
use Rattle.world.specs.Courses.{body_in}
use Rattle.world.proofs.World.body_meant.Goals as goal

mapped-twice : (f : ℕ → AccBody) (o : Option ℕ) → option_map (λ (a : AccBody). Accusation a) (option_map f o) ≡ option_map (λ (e : ℕ). Accusation (f e)) o
mapped-twice f None = refl
mapped-twice f (Some x) = refl

accuses : (w : ModelWorld) (line : WorldLine) (key accuser accused : ℕ) (epoch : Option ℕ) (ring : RingNo) (name : List ℕ) (o : Option AccBody) → line ≡ lines.SignAccusation key accuser accused epoch ring name
    → o ≡ option_map (λ e. record { accuser = accuser; accused = accused; epoch = e; ring = ring }) (epoch_meant w accused epoch) → option_map (λ (a : AccBody). Accusation a) o ≡ body_in w line
accuses w line key accuser accused epoch ring name o same is =
    let of_epoch : ℕ → AccBody = λ e. record { accuser = accuser; accused = accused; epoch = e; ring = ring } in
    ap (option_map (λ (a : AccBody). Accusation a)) is ∙ mapped-twice of_epoch (epoch_meant w accused epoch) ∙ ap (body_in w) (sym same)

pub returns-in_err-acc-in-SignAccusation-clause-value : goal.returns-in_err-acc-in-SignAccusation-clause-value
returns-in_err-acc-in-SignAccusation-clause-value c = λ s w told h.
    let back : c.from_residual.result ≡ None = search rules in
    back
    ∙ accuses w c.args.line.now c.in-SignAccusation.key c.in-SignAccusation.accuser c.in-SignAccusation.accused c.in-SignAccusation.epoch c.in-SignAccusation.ring c.in-SignAccusation.name None c.in-SignAccusation.is
    (c.in_err-acc-in-SignAccusation.ensures s w told h)

pub returns-in_ok-acc-in-SignAccusation-clause-value : goal.returns-in_ok-acc-in-SignAccusation-clause-value
returns-in_ok-acc-in-SignAccusation-clause-value c = λ s w told h.
    accuses w c.args.line.now c.in-SignAccusation.key c.in-SignAccusation.accuser c.in-SignAccusation.accused c.in-SignAccusation.epoch c.in-SignAccusation.ring c.in-SignAccusation.name (Some c.in_ok-acc-in-SignAccusation.acc) c.in-SignAccusation.is
    (c.in_ok-acc-in-SignAccusation.ensures s w told h)
