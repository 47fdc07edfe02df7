-- What the lines of a text that moves a store set up, and that it was read.
use Rattle.std.specs.Prelude.{◌≡◌, true, List, Option, Some, None}
use Rattle.std.specs.List.{slice_get}
use Rattle.play.specs.Plays.{IoState}
use Rattle.schedule_texts.specs.declared.line.SecretLine.{SecretLine}
use Rattle.schedule_texts.specs.declared.line.SecretLine.TheVariants as told
use Rattle.schedule_texts.specs.declared.migrate.MigrateText.{MigrateText}
use Rattle.schedule_texts.specs.declared.migrate.MigrateText.TheVariants as migrate
use Rattle.schedule_texts.specs.MigrateGrammar as grammar
use Rattle.schedule_texts.specs.MigrateLaws.{IsAnother}
use Rattle.schedule_texts.specs.MigrateRows as rows
use Rattle.schedule_texts.specs.Shared.{IsGroup}
use Rattle.sign_keys.specs.Kinds.{is_in_profile}
use Rattle.whole_text.specs.Gathered.{IsWhole, Judging}
use Rattle.authority.specs.declared.moving.Moving.{Moving}
use Rattle.authority.specs.declared.setting.Setting.{Setting}

-- how the lines of a text that moves a store are judged
abbrev pub migrate_judging : Judging MigrateText SecretLine
migrate_judging = record { is_ended = rows.is_ended; row = rows.row_for; after = grammar.after }

abbrev pub told_moving : Option SecretLine → Option SecretLine → Option SecretLine → Option SecretLine → Option Moving
told_moving (Some (told.Group from)) (Some (told.Group g)) (Some (told.Kinds k)) (Some (told.Secret s)) =
    Some (record { from = from; setting = record { group = g; kinds = k; secret = s } })
told_moving _ _ _ _ = None

-- The lines below the header are the group in which the store is, the group to which it moves, the kinds and the secret.
abbrev pub migrate_setting : List SecretLine → Option Moving
migrate_setting lines = told_moving (slice_get lines 1) (slice_get lines 2) (slice_get lines 3) (slice_get lines 4)

-- the key in the group in which its store is
abbrev pub left_setting : Moving → Setting
left_setting m = record { group = m.from; kinds = m.setting.kinds; secret = m.setting.secret }

-- A whole text that moves a store was read, this is what it sets up, and nothing was written. The groups differ in tolerance or
-- in tag, and there are keys of its kinds.
pub record IsMigration (was now : IoState) (m : Moving) : Type 0 where
  pub lines : List SecretLine
  pub whole : IsWhole migrate_judging migrate.Start was now lines
  pub moving : migrate_setting lines ≡ Some m
  pub left : IsGroup m.from
  pub group : IsGroup m.setting.group
  pub another : IsAnother m.from m.setting.group
  pub kinds : is_in_profile m.setting.kinds ≡ true
