-- What is taken as a line is one by the grammar of its form, and what is one is taken.
use Rattle.std.proofs.Common.{◌≡◌, ℕ, Bool, true, false, cond, List, ◌∷◌, Result, Ok, refl, codes, subst}
use Rattle.line_text.specs.declared.bad_word.BadWord.{BadWord}
use Rattle.line_text.specs.Frame.{Row, is_header, row_line, row_of_line}
use Rattle.line_text.proofs.FrameLemmas.{row_of_line-line, row_of_line-ok}
use Rattle.schedule_direct.specs.declared.direct.Direct.TheVariants as direct_form
use Rattle.schedule_direct.specs.declared.line.DirectLine.{DirectLine}
use Rattle.schedule_direct.specs.declared.line.DirectLine.TheVariants as direct_lines
use Rattle.schedule_direct.specs.Rows as direct_rows
use Rattle.schedule_direct.specs.Grammar as direct
use Rattle.schedule_direct.specs.Laws.{direct-spelled, direct-taken}
use Rattle.schedule_world.specs.declared.text.WorldText.TheVariants as world_form
use Rattle.schedule_world.specs.declared.line.WorldLine.{WorldLine}
use Rattle.schedule_world.specs.declared.line.WorldLine.TheVariants as world_lines
use Rattle.schedule_world.specs.Rows as world_rows
use Rattle.schedule_world.specs.Grammar as world
use Rattle.schedule_world.specs.Laws.{world-spelled, world-taken}
use Rattle.schedule_texts.specs.SecretRows as secret_rows
use Rattle.schedule_texts.specs.SecretLaws.{secret-spelled, secret-taken}
use Rattle.schedule_texts.specs.MigrateRows as migrate_rows
use Rattle.schedule_texts.specs.MigrateLaws.{migrate-spelled, migrate-taken}
use Rattle.schedule_texts.specs.RosterRows as roster_rows
use Rattle.schedule_texts.specs.RosterLaws.{roster-spelled, roster-taken}
use Rattle.schedule_texts.specs.KitRows as kit_rows
use Rattle.schedule_texts.specs.KitLaws.{kit-spelled, kit-taken}
use Rattle.schedule_texts.specs.HeadRows as head_rows
use Rattle.schedule_texts.specs.HeadLaws.{head-spelled, head-taken}
use Rattle.verify_text.specs.Rows as verify_rows
use Rattle.verify_text.specs.Laws.{verify-spelled, verify-taken}
use Rattle.schedule.specs.declared.text.Line.{Line}
use Rattle.schedule.specs.declared.text.Line.TheVariants as lines
use Rattle.schedule.specs.declared.text.Text.{Text}
use Rattle.schedule.specs.declared.text.Text.TheVariants as texts
use Rattle.schedule.specs.Forms.{IsSound, Spells, row_for}

-- ## The header of a schedule

header_spelled : (b : Bool) (first : List ℕ) (args : List (List ℕ)) (l : Line)
    → row_line (cond b (row_of_line lines.World (world_rows.row_for world_form.Start (first ∷ args))) (row_of_line lines.Direct (direct_rows.row_for direct_form.Start (first ∷ args)))) args ≡ Ok l → Spells texts.Schedule (first ∷ args) l
header_spelled true first args l e =
    let m = row_of_line-ok lines.World (world_rows.row_for world_form.Start (first ∷ args)) args l e in
    subst (Spells texts.Schedule (first ∷ args)) m.2 (world-spelled world_form.Start first args m.0 m.1)
header_spelled false first args l e =
    let m = row_of_line-ok lines.Direct (direct_rows.row_for direct_form.Start (first ∷ args)) args l e in
    subst (Spells texts.Schedule (first ∷ args)) m.2 (direct-spelled direct_form.Start first args m.0 m.1)

-- What heads a schedule in the direct form doesn't head one in the world form.
direct_apart : (ws : List (List ℕ)) (l : DirectLine) → direct.IsDirect direct_form.Start ws l → is_header (codes "world") ws ≡ false
direct_apart ws direct_lines.Header h = rw h.words refl
direct_apart ws _ h = (let s = h.stands in cc)

world_heads : (ws : List (List ℕ)) (l : WorldLine) → world.IsWorld world_form.Start ws l → is_header (codes "world") ws ≡ true
world_heads ws world_lines.Header h = rw h.words refl
world_heads ws _ h = (let s = h.stands in cc)

then_row : (b : Bool) (x y : Result (Row Line) BadWord) (args : List (List ℕ)) (r : Result Line BadWord) → b ≡ true → row_line x args ≡ r → row_line (cond b x y) args ≡ r
then_row true x y args r is h = h
then_row false x y args r is h = cc

else_row : (b : Bool) (x y : Result (Row Line) BadWord) (args : List (List ℕ)) (r : Result Line BadWord) → b ≡ false → row_line y args ≡ r → row_line (cond b x y) args ≡ r
else_row true x y args r is h = cc
else_row false x y args r is h = h

-- ## Lines of any text

-- What is taken as a line is one.
pub text-spelled : (t : Text) (first : List ℕ) (args : List (List ℕ)) (l : Line) → row_line (row_for t (first ∷ args)) args ≡ Ok l → Spells t (first ∷ args) l
text-spelled texts.Schedule first args l e = header_spelled (is_header (codes "world") (first ∷ args)) first args l e
text-spelled (texts.Direct d) first args l e =
    let m = row_of_line-ok lines.Direct (direct_rows.row_for d (first ∷ args)) args l e in
    subst (Spells (texts.Direct d) (first ∷ args)) m.2 (direct-spelled d first args m.0 m.1)
text-spelled (texts.World w) first args l e =
    let m = row_of_line-ok lines.World (world_rows.row_for w (first ∷ args)) args l e in
    subst (Spells (texts.World w) (first ∷ args)) m.2 (world-spelled w first args m.0 m.1)
text-spelled (texts.Verify v) first args l e =
    let m = row_of_line-ok lines.Verify (verify_rows.row_for v (first ∷ args)) args l e in
    subst (Spells (texts.Verify v) (first ∷ args)) m.2 (verify-spelled v first args m.0 m.1)
text-spelled (texts.Secret t) first args l e =
    let m = row_of_line-ok lines.Secret (secret_rows.row_for t (first ∷ args)) args l e in
    subst (Spells (texts.Secret t) (first ∷ args)) m.2 (secret-spelled t first args m.0 m.1)
text-spelled (texts.Migrate t) first args l e =
    let m = row_of_line-ok lines.Migrate (migrate_rows.row_for t (first ∷ args)) args l e in
    subst (Spells (texts.Migrate t) (first ∷ args)) m.2 (migrate-spelled t first args m.0 m.1)
text-spelled (texts.Roster t) first args l e =
    let m = row_of_line-ok lines.Roster (roster_rows.row_for t (first ∷ args)) args l e in
    subst (Spells (texts.Roster t) (first ∷ args)) m.2 (roster-spelled t first args m.0 m.1)
text-spelled (texts.Kit t) first args l e =
    let m = row_of_line-ok lines.Kit (kit_rows.row_for t (first ∷ args)) args l e in
    subst (Spells (texts.Kit t) (first ∷ args)) m.2 (kit-spelled t first args m.0 m.1)
text-spelled (texts.Head t) first args l e =
    let m = row_of_line-ok lines.Head (head_rows.row_for t (first ∷ args)) args l e in
    subst (Spells (texts.Head t) (first ∷ args)) m.2 (head-spelled t first args m.0 m.1)

-- What is a line is taken, as that line.
pub text-taken : (t : Text) (first : List ℕ) (args : List (List ℕ)) (l : Line) → IsSound t → Spells t (first ∷ args) l → row_line (row_for t (first ∷ args)) args ≡ Ok l
text-taken texts.Schedule first args (lines.Direct l) sound h =
    let ws : List (List ℕ) = first ∷ args in
    else_row (is_header (codes "world") ws) (row_of_line lines.World (world_rows.row_for world_form.Start ws)) (row_of_line lines.Direct (direct_rows.row_for direct_form.Start ws)) args (Ok (lines.Direct l)) (direct_apart ws l h)
    (row_of_line-line lines.Direct (direct_rows.row_for direct_form.Start ws) args l (direct-taken direct_form.Start first args l tt h))
text-taken texts.Schedule first args (lines.World l) sound h =
    let ws : List (List ℕ) = first ∷ args in
    then_row (is_header (codes "world") ws) (row_of_line lines.World (world_rows.row_for world_form.Start ws)) (row_of_line lines.Direct (direct_rows.row_for direct_form.Start ws)) args (Ok (lines.World l)) (world_heads ws l h)
    (row_of_line-line lines.World (world_rows.row_for world_form.Start ws) args l (world-taken world_form.Start first args l tt h))
text-taken (texts.Direct d) first args (lines.Direct l) sound h =
    row_of_line-line lines.Direct (direct_rows.row_for d (first ∷ args)) args l (direct-taken d first args l sound h)
text-taken (texts.World w) first args (lines.World l) sound h =
    row_of_line-line lines.World (world_rows.row_for w (first ∷ args)) args l (world-taken w first args l sound h)
text-taken (texts.Verify v) first args (lines.Verify l) sound h =
    row_of_line-line lines.Verify (verify_rows.row_for v (first ∷ args)) args l (verify-taken v first args l sound h)
text-taken (texts.Secret t) first args (lines.Secret l) sound h =
    row_of_line-line lines.Secret (secret_rows.row_for t (first ∷ args)) args l (secret-taken t first args l sound h)
text-taken (texts.Migrate t) first args (lines.Migrate l) sound h =
    row_of_line-line lines.Migrate (migrate_rows.row_for t (first ∷ args)) args l (migrate-taken t first args l sound h)
text-taken (texts.Roster t) first args (lines.Roster l) sound h =
    row_of_line-line lines.Roster (roster_rows.row_for t (first ∷ args)) args l (roster-taken t first args l sound h)
text-taken (texts.Kit t) first args (lines.Kit l) sound h =
    row_of_line-line lines.Kit (kit_rows.row_for t (first ∷ args)) args l (kit-taken t first args l sound h)
text-taken (texts.Head t) first args (lines.Head l) sound h =
    row_of_line-line lines.Head (head_rows.row_for t (first ∷ args)) args l (head-taken t first args l sound h)
text-taken _ first args _ sound h = absurd h
