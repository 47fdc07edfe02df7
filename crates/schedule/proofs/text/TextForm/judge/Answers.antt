use Rattle.std.proofs.Common.{Err, rules}
use Rattle.line_text.specs.Frame.{behind}
use Rattle.line_text.proofs.FrameLemmas.{row_of_line-line}
use Rattle.schedule_direct.specs.Rows as direct
use Rattle.schedule_world.specs.Rows as world
use Rattle.schedule_texts.specs.SecretRows as secret
use Rattle.schedule_texts.specs.MigrateRows as migrate
use Rattle.schedule_texts.specs.RosterRows as roster
use Rattle.schedule_texts.specs.KitRows as kit
use Rattle.schedule_texts.specs.HeadRows as head
use Rattle.verify_text.specs.Rows as verify
use Rattle.schedule.specs.declared.text.Line.TheVariants as lines
use Rattle.schedule.specs.Forms.{TakesMemory}
use Rattle.schedule.proofs.FormLemmas.{answers-of}
use Rattle.schedule.proofs.text.TextForm.judge.Goals as goal

pub returns-in_err-judge-in-Direct : goal.returns-in_err-judge-in-Direct
returns-in_err-judge-in-Direct c =
    let x = answers-of lines.Direct direct.TakesMemory TakesMemory (λ l t. t) (direct.row_for c.in-Direct.direct c.args.words) (behind c.args.words) (Err c.in_err-judge-in-Direct.field-0.0) c.in_err-judge-in-Direct.ensures in
    rw c.in-Direct.is (search (rules, x))

pub returns-in_err-judge-in-Verify : goal.returns-in_err-judge-in-Verify
returns-in_err-judge-in-Verify c =
    let x = answers-of lines.Verify verify.TakesMemory TakesMemory (λ l t. t) (verify.row_for c.in-Verify.verify c.args.words) (behind c.args.words) (Err c.in_err-judge-in-Verify.field-0.0) c.in_err-judge-in-Verify.ensures in
    rw c.in-Verify.is (search (rules, x))

pub returns-in_ok-judge-in-Direct : goal.returns-in_ok-judge-in-Direct
returns-in_ok-judge-in-Direct c =
    rw c.in-Direct.is (row_of_line-line lines.Direct (direct.row_for c.in-Direct.direct c.args.words) (behind c.args.words) c.in_ok-judge-in-Direct.field-0 c.in_ok-judge-in-Direct.ensures)

pub returns-in_ok-judge-in-Verify : goal.returns-in_ok-judge-in-Verify
returns-in_ok-judge-in-Verify c =
    rw c.in-Verify.is (row_of_line-line lines.Verify (verify.row_for c.in-Verify.verify c.args.words) (behind c.args.words) c.in_ok-judge-in-Verify.field-0 c.in_ok-judge-in-Verify.ensures)

pub returns-in_err-judge-in-World : goal.returns-in_err-judge-in-World
returns-in_err-judge-in-World c =
    let x = answers-of lines.World world.TakesMemory TakesMemory (λ l t. t) (world.row_for c.in-World.world c.args.words) (behind c.args.words) (Err c.in_err-judge-in-World.field-0.0) c.in_err-judge-in-World.ensures in
    rw c.in-World.is (search (rules, x))

pub returns-in_ok-judge-in-World : goal.returns-in_ok-judge-in-World
returns-in_ok-judge-in-World c =
    rw c.in-World.is (row_of_line-line lines.World (world.row_for c.in-World.world c.args.words) (behind c.args.words) c.in_ok-judge-in-World.field-0 c.in_ok-judge-in-World.ensures)

pub returns-in_err-judge-in-Secret : goal.returns-in_err-judge-in-Secret
returns-in_err-judge-in-Secret c =
    let x = answers-of lines.Secret secret.TakesMemory TakesMemory (λ l t. t) (secret.row_for c.in-Secret.secret c.args.words) (behind c.args.words) (Err c.in_err-judge-in-Secret.field-0.0) c.in_err-judge-in-Secret.ensures in
    rw c.in-Secret.is (search (rules, x))

pub returns-in_ok-judge-in-Secret : goal.returns-in_ok-judge-in-Secret
returns-in_ok-judge-in-Secret c =
    rw c.in-Secret.is (row_of_line-line lines.Secret (secret.row_for c.in-Secret.secret c.args.words) (behind c.args.words) c.in_ok-judge-in-Secret.field-0 c.in_ok-judge-in-Secret.ensures)

pub returns-in_err-judge-in-Migrate : goal.returns-in_err-judge-in-Migrate
returns-in_err-judge-in-Migrate c =
    let x = answers-of lines.Migrate secret.TakesMemory TakesMemory (λ l t. t) (migrate.row_for c.in-Migrate.migrate c.args.words) (behind c.args.words) (Err c.in_err-judge-in-Migrate.field-0.0) c.in_err-judge-in-Migrate.ensures in
    rw c.in-Migrate.is (search (rules, x))

pub returns-in_ok-judge-in-Migrate : goal.returns-in_ok-judge-in-Migrate
returns-in_ok-judge-in-Migrate c =
    rw c.in-Migrate.is (row_of_line-line lines.Migrate (migrate.row_for c.in-Migrate.migrate c.args.words) (behind c.args.words) c.in_ok-judge-in-Migrate.field-0 c.in_ok-judge-in-Migrate.ensures)

pub returns-in_err-judge-in-Roster : goal.returns-in_err-judge-in-Roster
returns-in_err-judge-in-Roster c =
    let x = answers-of lines.Roster roster.TakesMemory TakesMemory (λ l t. t) (roster.row_for c.in-Roster.roster c.args.words) (behind c.args.words) (Err c.in_err-judge-in-Roster.field-0.0) c.in_err-judge-in-Roster.ensures in
    rw c.in-Roster.is (search (rules, x))

pub returns-in_ok-judge-in-Roster : goal.returns-in_ok-judge-in-Roster
returns-in_ok-judge-in-Roster c =
    rw c.in-Roster.is (row_of_line-line lines.Roster (roster.row_for c.in-Roster.roster c.args.words) (behind c.args.words) c.in_ok-judge-in-Roster.field-0 c.in_ok-judge-in-Roster.ensures)

pub returns-in_err-judge-in-Kit : goal.returns-in_err-judge-in-Kit
returns-in_err-judge-in-Kit c =
    let x = answers-of lines.Kit kit.TakesMemory TakesMemory (λ l t. t) (kit.row_for c.in-Kit.kit c.args.words) (behind c.args.words) (Err c.in_err-judge-in-Kit.field-0.0) c.in_err-judge-in-Kit.ensures in
    rw c.in-Kit.is (search (rules, x))

pub returns-in_ok-judge-in-Kit : goal.returns-in_ok-judge-in-Kit
returns-in_ok-judge-in-Kit c =
    rw c.in-Kit.is (row_of_line-line lines.Kit (kit.row_for c.in-Kit.kit c.args.words) (behind c.args.words) c.in_ok-judge-in-Kit.field-0 c.in_ok-judge-in-Kit.ensures)

pub returns-in_err-judge-in-Head : goal.returns-in_err-judge-in-Head
returns-in_err-judge-in-Head c =
    let x = answers-of lines.Head head.TakesMemory TakesMemory (λ l t. t) (head.row_for c.in-Head.head c.args.words) (behind c.args.words) (Err c.in_err-judge-in-Head.field-0.0) c.in_err-judge-in-Head.ensures in
    rw c.in-Head.is (search (rules, x))

pub returns-in_ok-judge-in-Head : goal.returns-in_ok-judge-in-Head
returns-in_ok-judge-in-Head c =
    rw c.in-Head.is (row_of_line-line lines.Head (head.row_for c.in-Head.head c.args.words) (behind c.args.words) c.in_ok-judge-in-Head.field-0 c.in_ok-judge-in-Head.ensures)
