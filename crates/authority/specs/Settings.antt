-- What the lines of an authority's texts set up, and what follows from that: the key and the mark of its store.
use Rattle.std.specs.Prelude.{ℕ, List, [], ◌∷◌, Option, Some, None}
use Rattle.std.specs.List.{slice_get}
use Rattle.records.specs.declared.CertBody.{CertBody}
use Rattle.schedule_texts.specs.declared.line.RosterLine.{RosterLine}
use Rattle.schedule_texts.specs.declared.line.RosterLine.TheVariants as asked
use Rattle.schedule_texts.specs.declared.line.SecretLine.{SecretLine}
use Rattle.schedule_texts.specs.declared.line.SecretLine.TheVariants as told
use Rattle.schedule_texts.specs.declared.roster.RosterText.{RosterText}
use Rattle.schedule_texts.specs.declared.secret.SecretText.{SecretText}
use Rattle.schedule_texts.specs.RosterGrammar as roster
use Rattle.schedule_texts.specs.RosterRows as roster_rows
use Rattle.schedule_texts.specs.SecretGrammar as secret
use Rattle.schedule_texts.specs.SecretRows as secret_rows
use Rattle.secrets.specs.Secrets.{key_from, store_tag}
use Rattle.sign_keys.specs.Keys.{KeySecret}
use Rattle.whole_text.specs.Gathered.{Judging}
use Rattle.authority.specs.declared.setting.Setting.{Setting}

-- the key of a setting
abbrev pub key_of : Setting → KeySecret
key_of s = key_from s.kinds s.secret

-- the mark of its store
abbrev pub tag_of : Setting → List ℕ
tag_of s = store_tag s.group (key_of s)

-- how the lines of a secret's text are judged
abbrev pub secret_judging : Judging SecretText SecretLine
secret_judging = record { is_ended = secret_rows.is_ended; row = secret_rows.row_for; after = secret.after }

-- and those of a roster
abbrev pub roster_judging : Judging RosterText RosterLine
roster_judging = record { is_ended = roster_rows.is_ended; row = roster_rows.row_for; after = roster.after }

abbrev pub told_setting : Option SecretLine → Option SecretLine → Option SecretLine → Option Setting
told_setting (Some (told.Group g)) (Some (told.Kinds k)) (Some (told.Secret s)) = Some (record { group = g; kinds = k; secret = s })
told_setting _ _ _ = None

-- The lines below the header of a secret's text are the group, the kinds and the secret.
abbrev pub secret_setting : List SecretLine → Option Setting
secret_setting lines = told_setting (slice_get lines 1) (slice_get lines 2) (slice_get lines 3)

abbrev pub asked_setting : Option RosterLine → Option RosterLine → Option RosterLine → Option Setting
asked_setting (Some (asked.Group g)) (Some (asked.Kinds k)) (Some (asked.Secret s)) = Some (record { group = g; kinds = k; secret = s })
asked_setting _ _ _ = None

-- So are those of a roster.
abbrev pub roster_setting : List RosterLine → Option Setting
roster_setting lines = asked_setting (slice_get lines 1) (slice_get lines 2) (slice_get lines 3)

-- The certificates that a roster asks for, in turn.
abbrev pub asked_in : List RosterLine → List CertBody
asked_in [] = []
asked_in (asked.Cert c ∷ lines) = c ∷ asked_in lines
asked_in (_ ∷ lines) = asked_in lines

-- what is told of a setting, if there is one
abbrev pub told_for : Option Setting → (Setting → List ℕ) → List ℕ
told_for None tell = []
told_for (Some s) tell = tell s
