-- Worked lines: which form a text has. Each row is computed.
use Rattle.std.proofs.Common.{◌≡◌, ◌++◌, [], ◌∷◌, Ok, Err, refl, codes}
use Rattle.line_text.specs.declared.bad_word.BadWord.TheVariants as bad
use Rattle.line_text.specs.Frame.{judge as judge_line}
use Rattle.schedule_direct.specs.declared.line.DirectLine.TheVariants as direct
use Rattle.schedule_world.specs.declared.line.WorldLine.TheVariants as world
use Rattle.schedule_world.specs.declared.text.WorldText.TheVariants as world_form
use Rattle.schedule_texts.specs.declared.head_line.HeadLine.TheVariants as head
use Rattle.schedule_texts.specs.declared.kit_line.KitLine.TheVariants as kit
use Rattle.schedule_texts.specs.declared.line.RosterLine.TheVariants as roster
use Rattle.schedule_texts.specs.declared.line.SecretLine.TheVariants as secret
use Rattle.schedule.specs.declared.text.Command.TheVariants as commands
use Rattle.schedule.specs.declared.text.Line.TheVariants as lines
use Rattle.schedule.specs.declared.text.Text.TheVariants as texts
use Rattle.schedule.specs.Forms.{after, judge, opening}

heads : (judge (opening commands.Replay) (codes "fireflies 1 direct" ++ 10 ∷ []) ≡ Ok (lines.Direct direct.Header))
    × (judge (opening commands.Replay) (codes "fireflies 1 world" ++ 10 ∷ []) ≡ Ok (lines.World world.Header))
    × (judge (opening commands.Replay) (codes "fireflies 1 verify" ++ 10 ∷ []) ≡ Err bad.Header)
    × (judge (opening commands.Replay) (codes "fireflies 1 worlds" ++ 10 ∷ []) ≡ Err bad.Header)
    × (judge (opening commands.Verify) (codes "fireflies 1 world" ++ 10 ∷ []) ≡ Err bad.Header)
    × (after texts.Schedule (lines.World world.Header) ≡ texts.World world_form.Headed)
unfolding judge_line
heads = (refl, refl, refl, refl, refl, refl)

operators : (judge (opening commands.Secret) (codes "fireflies 1 secret" ++ 10 ∷ []) ≡ Ok (lines.Secret secret.Header))
    × (judge (opening commands.Migrate) (codes "fireflies 1 migrate" ++ 10 ∷ []) ≡ Ok (lines.Migrate secret.Header))
    × (judge (opening commands.Migrate) (codes "fireflies 1 secret" ++ 10 ∷ []) ≡ Err bad.Header)
    × (judge (opening commands.Roster) (codes "fireflies 1 roster" ++ 10 ∷ []) ≡ Ok (lines.Roster roster.Header))
    × (judge (opening commands.Kit) (codes "fireflies 1 kit" ++ 10 ∷ []) ≡ Ok (lines.Kit kit.Header))
    × (judge (opening commands.Kit) (codes "fireflies 1 roster" ++ 10 ∷ []) ≡ Err bad.Header)
    × (judge (opening commands.Audit) (codes "fireflies 1 audit" ++ 10 ∷ []) ≡ Ok (lines.Head head.Header))
    × (judge (opening commands.Audit) (codes "fireflies 1 kit" ++ 10 ∷ []) ≡ Err bad.Header)
unfolding judge_line
operators = (refl, refl, refl, refl, refl, refl, refl, refl)
