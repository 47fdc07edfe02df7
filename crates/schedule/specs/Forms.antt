-- The forms of text, as one: each line and each rule is that of the form that the text has.
use Rattle.std.specs.Prelude.{ℕ, Bool, false, if◌then◌else◌, List, Option, Result, codes}
use Rattle.line_text.specs.declared.bad_word.BadWord.{BadWord}
use Rattle.line_text.specs.Answers.{Progress, next_line}
use Rattle.line_text.specs.Frame as frame
use Rattle.line_text.specs.Frame.{Row, is_header, row_of_line}
use Rattle.schedule_direct.specs.declared.direct.Direct.TheVariants as direct_form
use Rattle.schedule_direct.specs.Grammar as direct
use Rattle.schedule_direct.specs.Rows as direct_rows
use Rattle.schedule_world.specs.declared.text.WorldText.TheVariants as world_form
use Rattle.schedule_world.specs.Grammar as world
use Rattle.schedule_world.specs.Rows as world_rows
use Rattle.schedule_texts.specs.declared.secret.SecretText.TheVariants as secret_form
use Rattle.schedule_texts.specs.SecretGrammar as secret
use Rattle.schedule_texts.specs.SecretRows as secret_rows
use Rattle.schedule_texts.specs.declared.migrate.MigrateText.TheVariants as migrate_form
use Rattle.schedule_texts.specs.MigrateGrammar as migrate
use Rattle.schedule_texts.specs.MigrateRows as migrate_rows
use Rattle.schedule_texts.specs.declared.roster.RosterText.TheVariants as roster_form
use Rattle.schedule_texts.specs.RosterGrammar as roster
use Rattle.schedule_texts.specs.RosterRows as roster_rows
use Rattle.schedule_texts.specs.declared.kit.KitText.TheVariants as kit_form
use Rattle.schedule_texts.specs.KitGrammar as kit
use Rattle.schedule_texts.specs.KitRows as kit_rows
use Rattle.schedule_texts.specs.declared.head.HeadText.TheVariants as head_form
use Rattle.schedule_texts.specs.HeadGrammar as head
use Rattle.schedule_texts.specs.HeadRows as head_rows
use Rattle.verify_text.specs.declared.verify.Verify.TheVariants as verify_form
use Rattle.verify_text.specs.Grammar as verify
use Rattle.verify_text.specs.Rows as verify_rows
use Rattle.schedule.specs.declared.text.Command.{Command}
use Rattle.schedule.specs.declared.text.Command.TheVariants as commands
use Rattle.schedule.specs.declared.text.Line.{Line}
use Rattle.schedule.specs.declared.text.Line.TheVariants as lines
use Rattle.schedule.specs.declared.text.Text.{Text}
use Rattle.schedule.specs.declared.text.Text.TheVariants as texts

-- the text of a command, of which nothing has been read
abbrev pub form_of : Command → Text
form_of commands.Replay = texts.Schedule
form_of commands.Verify = texts.Verify verify_form.Start
form_of commands.Secret = texts.Secret secret_form.Start
form_of commands.Migrate = texts.Migrate migrate_form.Start
form_of commands.Roster = texts.Roster roster_form.Start
form_of commands.Kit = texts.Kit kit_form.Start
form_of commands.Audit = texts.Head head_form.Start

abbrev pub IsSound : Text → Type 0
IsSound texts.Schedule = Unit {0}
IsSound (texts.Direct d) = direct.IsSound d
IsSound (texts.World w) = world.IsSound w
IsSound (texts.Verify v) = verify.IsSound v
IsSound (texts.Secret t) = secret.IsSound t
IsSound (texts.Migrate t) = migrate.IsSound t
IsSound (texts.Roster t) = roster.IsSound t
IsSound (texts.Kit t) = kit.IsSound t
IsSound (texts.Head t) = head.IsSound t

abbrev pub is_ended : Text → Bool
is_ended texts.Schedule = false
is_ended (texts.Direct d) = direct_rows.is_ended d
is_ended (texts.World w) = world_rows.is_ended w
is_ended (texts.Verify v) = verify_rows.is_ended v
is_ended (texts.Secret t) = secret_rows.is_ended t
is_ended (texts.Migrate t) = migrate_rows.is_ended t
is_ended (texts.Roster t) = roster_rows.is_ended t
is_ended (texts.Kit t) = kit_rows.is_ended t
is_ended (texts.Head t) = head_rows.is_ended t

-- The header of a schedule is that of the world form, or else what the direct form says of it.
abbrev pub header_row : List (List ℕ) → Result (Row Line) BadWord
header_row ws =
    if is_header (codes "world") ws then row_of_line lines.World (world_rows.row_for world_form.Start ws)
    else row_of_line lines.Direct (direct_rows.row_for direct_form.Start ws)

abbrev pub row_for : Text → List (List ℕ) → Result (Row Line) BadWord
row_for texts.Schedule ws = header_row ws
row_for (texts.Direct d) ws = row_of_line lines.Direct (direct_rows.row_for d ws)
row_for (texts.World w) ws = row_of_line lines.World (world_rows.row_for w ws)
row_for (texts.Verify v) ws = row_of_line lines.Verify (verify_rows.row_for v ws)
row_for (texts.Secret t) ws = row_of_line lines.Secret (secret_rows.row_for t ws)
row_for (texts.Migrate t) ws = row_of_line lines.Migrate (migrate_rows.row_for t ws)
row_for (texts.Roster t) ws = row_of_line lines.Roster (roster_rows.row_for t ws)
row_for (texts.Kit t) ws = row_of_line lines.Kit (kit_rows.row_for t ws)
row_for (texts.Head t) ws = row_of_line lines.Head (head_rows.row_for t ws)

-- These words are this line, which may stand here, with its numbers and bytes in range.
abbrev pub Spells : Text → List (List ℕ) → Line → Type 0
Spells texts.Schedule ws (lines.Direct l) = direct.IsDirect direct_form.Start ws l
Spells texts.Schedule ws (lines.World l) = world.IsWorld world_form.Start ws l
Spells (texts.Direct d) ws (lines.Direct l) = direct.IsDirect d ws l
Spells (texts.World w) ws (lines.World l) = world.IsWorld w ws l
Spells (texts.Verify v) ws (lines.Verify l) = verify.IsVerify v ws l
Spells (texts.Secret t) ws (lines.Secret l) = secret.IsSecret t ws l
Spells (texts.Migrate t) ws (lines.Migrate l) = migrate.IsMigrate t ws l
Spells (texts.Roster t) ws (lines.Roster l) = roster.IsRoster t ws l
Spells (texts.Kit t) ws (lines.Kit l) = kit.IsKit t ws l
Spells (texts.Head t) ws (lines.Head l) = head.IsHead t ws l
Spells _ ws _ = ⊥

abbrev pub TakesMemory : Line → Type 0
TakesMemory (lines.Direct l) = direct_rows.TakesMemory l
TakesMemory (lines.World l) = world_rows.TakesMemory l
TakesMemory (lines.Verify l) = verify_rows.TakesMemory l
TakesMemory (lines.Secret l) = secret_rows.TakesMemory l
TakesMemory (lines.Migrate l) = secret_rows.TakesMemory l
TakesMemory (lines.Roster l) = roster_rows.TakesMemory l
TakesMemory (lines.Kit l) = kit_rows.TakesMemory l
TakesMemory (lines.Head l) = head_rows.TakesMemory l

abbrev pub after : Text → Line → Text
after texts.Schedule (lines.Direct l) = texts.Direct (direct.after direct_form.Start l)
after texts.Schedule (lines.World l) = texts.World (world.after world_form.Start l)
after (texts.Direct d) (lines.Direct l) = texts.Direct (direct.after d l)
after (texts.World w) (lines.World l) = texts.World (world.after w l)
after (texts.Verify v) (lines.Verify l) = texts.Verify (verify.after v l)
after (texts.Secret t) (lines.Secret l) = texts.Secret (secret.after t l)
after (texts.Migrate t) (lines.Migrate l) = texts.Migrate (migrate.after t l)
after (texts.Roster t) (lines.Roster l) = texts.Roster (roster.after t l)
after (texts.Kit t) (lines.Kit l) = texts.Kit (kit.after t l)
after (texts.Head t) (lines.Head l) = texts.Head (head.after t l)
after text _ = text

-- ## A reader

-- Nothing has been read.
abbrev pub opening : Command → Progress Text
opening command = record { number = 1; form = form_of command }

-- What the next line is, or its first bad word.
abbrev pub judge : Progress Text → List ℕ → Result Line BadWord
judge p bytes = frame.judge (next_line is_ended row_for p) bytes

abbrev pub first_bad : Progress Text → List ℕ → Option BadWord
first_bad p bytes = frame.first_bad (next_line is_ended row_for p) bytes

-- These bytes are the next line, and it is l.
abbrev pub IsLine : Progress Text → List ℕ → Line → Type 0
IsLine p bytes l = frame.IsLine (is_ended p.form) p.number (Spells p.form) bytes l
