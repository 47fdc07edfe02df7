use Rattle.std.proofs.Common.{◌≡◌, ℕ, None, ap, ◌∙◌, rules}
use Rattle.std.specs.Option.{option_map}
use Rattle.ff_ids.specs.declared.AccBody.{AccBody}
use Rattle.world.proofs.World.accusation_meant.Goals as goal

pub returns-in_err-epoch : goal.returns-in_err-epoch
returns-in_err-epoch c = λ s w told h.
    let of_epoch : ℕ → AccBody = λ e. record { accuser = c.args.accuser; accused = c.args.accused; epoch = e; ring = c.args.ring } in
    let back : c.from_residual.result ≡ None = search rules in
    back ∙ ap (option_map of_epoch) (c.in_err-epoch.ensures s w told h)

pub returns : goal.returns
returns c = λ s w told h.
    let of_epoch : ℕ → AccBody = λ e. record { accuser = c.args.accuser; accused = c.args.accused; epoch = e; ring = c.args.ring } in
    ap (option_map of_epoch) (c.in_ok-epoch.ensures s w told h)
