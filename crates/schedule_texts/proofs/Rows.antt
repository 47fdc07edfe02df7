-- Worked lines: what each is, or its first bad word. Each row is computed.
use Rattle.std.proofs.Common.{◌≡◌, ℕ, true, false, ◌++◌, [], ◌∷◌, List, Some, None, Result, Ok, Err, refl, codes}
use Rattle.std.specs.Prelude.{replicate}
use Rattle.hex.proofs.OnLiterals.{hex_on_literals}
use Rattle.ff_ids.specs.declared.Group.{Group}
use Rattle.lms_ots.specs.declared.kind.OtsKind.TheVariants.{W1, W2, W4, W8}
use Rattle.lms_tree.specs.declared.kind.TreeKind.TheVariants.{H5, H10, H15}
use Rattle.lms_tree.specs.Lms.{key_in}
use Rattle.hss.specs.Hss as hss
use Rattle.records.specs.declared.keys.Key.TheVariants as keys
use Rattle.line_text.specs.declared.bad_word.BadWord.{BadWord}
use Rattle.line_text.specs.declared.bad_word.BadWord.TheVariants as bad
use Rattle.line_text.specs.Frame.{judge as judge_line}
use Rattle.schedule_texts.specs.declared.line.SecretLine.{SecretLine}
use Rattle.schedule_texts.specs.declared.line.SecretLine.TheVariants as secret_lines
use Rattle.schedule_texts.specs.declared.line.RosterLine.{RosterLine}
use Rattle.schedule_texts.specs.declared.line.RosterLine.TheVariants as roster_lines
use Rattle.schedule_texts.specs.declared.secret.SecretText.{SecretText}
use Rattle.schedule_texts.specs.declared.secret.SecretText.TheVariants as secret
use Rattle.schedule_texts.specs.declared.roster.RosterText.{RosterText}
use Rattle.schedule_texts.specs.declared.roster.RosterText.TheVariants as roster
use Rattle.schedule_texts.specs.declared.migrate.MigrateText.{MigrateText}
use Rattle.schedule_texts.specs.declared.migrate.MigrateText.TheVariants as migrate
use Rattle.schedule_texts.specs.SecretGrammar as secret_text
use Rattle.schedule_texts.specs.MigrateGrammar as migrate_text
use Rattle.schedule_texts.specs.RosterGrammar as roster_text

-- the line with a line feed, where so much has been read
abbrev at : SecretText → List ℕ → Result SecretLine BadWord
at form text = secret_text.judge (record { number = 3; form = form }) (text ++ 10 ∷ [])

abbrev moving : MigrateText → List ℕ → Result SecretLine BadWord
moving form text = migrate_text.judge (record { number = 4; form = form }) (text ++ 10 ∷ [])

abbrev below : RosterText → List ℕ → Result RosterLine BadWord
below form text = roster_text.judge (record { number = 7; form = form }) (text ++ 10 ∷ [])

heads : (at secret.Start (codes "fireflies 1 secret") ≡ Ok secret_lines.Header)
    × (at secret.Start (codes "fireflies 1 roster") ≡ Err bad.Header)
    × (below roster.Start (codes "fireflies 1 roster") ≡ Ok roster_lines.Header)
    × (below roster.Headed (codes "fireflies 1 roster") ≡ Err bad.Word)
unfolding judge_line key_in hex_on_literals
heads = (refl, refl, refl, refl)

groups : (at secret.Headed (codes "group 1 4 1 2 00000000000000000000000000000000") ≡ Ok (secret_lines.Group (record { tag = replicate 16 0; t = 1; timeout = 4; period = 1; misses = 2 })))
    × (at secret.Headed (codes "group 32 4 1 2 00000000000000000000000000000000") ≡ Err bad.Limit)
    × (at secret.Headed (codes "group 1 10001 1 2 00000000000000000000000000000000") ≡ Err bad.Limit)
    × (at secret.Headed (codes "group 1 4 1001 2 00000000000000000000000000000000") ≡ Err bad.Limit)
    × (at secret.Headed (codes "group 1 4 1 17 00000000000000000000000000000000") ≡ Err bad.Limit)
    × (at secret.Headed (codes "group 1 4 1 0 0") ≡ Err bad.Limit)
    × (at secret.Headed (codes "group 1 4 1 02 0") ≡ Err bad.Number)
    × (at secret.Headed (codes "group 1 4 1 2 0000000000000000000000000000000") ≡ Err bad.Hex)
    × (at secret.Headed (codes "group 1 4 1 2 000000000000000000000000000000") ≡ Err bad.Limit)
    × (at secret.Headed (codes "group 1 4 1 2 -") ≡ Err bad.Hex)
    × (at secret.Headed (codes "group 1 4") ≡ Err bad.Count)
    × (at secret.Grouped (codes "group 1 4 1 2 00") ≡ Err bad.Order)
unfolding judge_line key_in hex_on_literals
groups = (refl, refl, refl, refl, refl, refl, refl, refl, refl, refl, refl, refl)

kinds : (at secret.Grouped (codes "kinds 1 5") ≡ Ok (secret_lines.Kinds (record { ots = W1; tree = H5; bottom = None })))
    × (at secret.Grouped (codes "kinds 2 10") ≡ Ok (secret_lines.Kinds (record { ots = W2; tree = H10; bottom = None })))
    × (at secret.Grouped (codes "kinds 4 15") ≡ Ok (secret_lines.Kinds (record { ots = W4; tree = H15; bottom = None })))
    × (at secret.Grouped (codes "kinds 8 15") ≡ Ok (secret_lines.Kinds (record { ots = W8; tree = H15; bottom = None })))
    × (at secret.Grouped (codes "kinds 3 5") ≡ Err bad.Limit)
    × (at secret.Grouped (codes "kinds 16 5") ≡ Err bad.Limit)
    × (at secret.Grouped (codes "kinds 8 20") ≡ Err bad.Limit)
    × (at secret.Grouped (codes "kinds 8 6") ≡ Err bad.Limit)
    × (at secret.Grouped (codes "kinds 8 x") ≡ Err bad.Number)
    × (at secret.Grouped (codes "kinds 8") ≡ Err bad.Count)
unfolding judge_line key_in hex_on_literals
kinds = (refl, refl, refl, refl, refl, refl, refl, refl, refl, refl)

-- A key of two levels has W4 or W8, and at most 15 levels in all; each word comes before them as a whole.
two_levels : (at secret.Grouped (codes "kinds 4 10 5") ≡ Ok (secret_lines.Kinds (record { ots = W4; tree = H10; bottom = Some H5 })))
    × (at secret.Grouped (codes "kinds 8 5 10") ≡ Ok (secret_lines.Kinds (record { ots = W8; tree = H5; bottom = Some H10 })))
    × (at secret.Grouped (codes "kinds 4 10 10") ≡ Err bad.Limit)
    × (at secret.Grouped (codes "kinds 1 5 5") ≡ Err bad.Limit)
    × (at secret.Grouped (codes "kinds 2 5 5") ≡ Err bad.Limit)
    × (at secret.Grouped (codes "kinds 4 15 5") ≡ Err bad.Limit)
    × (at secret.Grouped (codes "kinds 4 5 15") ≡ Err bad.Limit)
    × (at secret.Grouped (codes "kinds 4 5 7") ≡ Err bad.Limit)
    × (at secret.Grouped (codes "kinds 2 15 05") ≡ Err bad.Number)
    × (at secret.Grouped (codes "kinds 3 5 x") ≡ Err bad.Limit)
    × (at secret.Grouped (codes "kinds 4 5 5 5") ≡ Err bad.Count)
    × (at secret.Headed (codes "kinds 4 10 5") ≡ Err bad.Order)
    × (moving (migrate.Moved secret.Grouped) (codes "kinds 4 10 5") ≡ Ok (secret_lines.Kinds (record { ots = W4; tree = H10; bottom = Some H5 })))
    × (moving (migrate.Moved secret.Grouped) (codes "kinds 4 10 10") ≡ Err bad.Limit)
    × (moving (migrate.Moved secret.Grouped) (codes "kinds 4 5 5 5") ≡ Err bad.Count)
unfolding judge_line key_in hex_on_literals
two_levels = (refl, refl, refl, refl, refl, refl, refl, refl, refl, refl, refl, refl, refl, refl, refl)

-- An authority's key has one level.
authority_kinds : (below roster.Grouped (codes "kinds 4 5") ≡ Ok (roster_lines.Kinds (record { ots = W4; tree = H5; bottom = None })))
    × (below roster.Grouped (codes "kinds 4 5 5") ≡ Err bad.Count)
    × (below roster.Grouped (codes "kinds 3 5") ≡ Err bad.Limit)
    × (below roster.Kinded (codes "heal 2 1") ≡ Err bad.Word)
unfolding judge_line key_in hex_on_literals
authority_kinds = (refl, refl, refl, refl)

secrets : (at secret.Kinded (codes "secret 00000000000000000000000000000000000000000000000000000000000000fF") ≡ Ok (secret_lines.Secret (replicate 31 0 ++ 255 ∷ [])))
    × (at secret.Kinded (codes "secret 00") ≡ Err bad.Limit)
    × (at secret.Kinded (codes "secret 0") ≡ Err bad.Hex)
    × (at secret.Kinded (codes "end") ≡ Err bad.Order)
    × (at secret.Kinded (codes "heal 2 1") ≡ Err bad.Word)
    × (at secret.Given (codes "end") ≡ Ok secret_lines.End)
    × (at secret.Given (codes "cert 1 2 00") ≡ Err bad.Word)
    × (at secret.Ended (codes "end") ≡ Err bad.AfterEnd)
unfolding judge_line key_in hex_on_literals
secrets = (refl, refl, refl, refl, refl, refl, refl, refl)

-- ## A store that moves

abbrev left : Group
left = record { tag = replicate 16 0; t = 1; timeout = 4; period = 1; misses = 2 }

abbrev from_left : MigrateText
from_left = migrate.Left left

move_heads : (moving migrate.Start (codes "fireflies 1 migrate") ≡ Ok secret_lines.Header)
    × (moving migrate.Start (codes "fireflies 1 secret") ≡ Err bad.Header)
    × (at secret.Start (codes "fireflies 1 migrate") ≡ Err bad.Header)
    × (moving migrate.Headed (codes "group 1 4 1 2 00000000000000000000000000000000") ≡ Ok (secret_lines.Group left))
    × (migrate_text.after migrate.Headed (secret_lines.Group left) ≡ from_left)
unfolding judge_line key_in hex_on_literals
move_heads = (refl, refl, refl, refl, refl)

-- The group again that is left is refused at its tag, whatever its other numbers are; bad words before the tag come first.
moves : (moving from_left (codes "group 2 4 1 2 00000000000000000000000000000000") ≡ Ok (secret_lines.Group (record { tag = replicate 16 0; t = 2; timeout = 4; period = 1; misses = 2 })))
    × (moving from_left (codes "group 1 4 1 2 000000000000000000000000000000aA") ≡ Ok (secret_lines.Group (record { tag = replicate 15 0 ++ 170 ∷ []; t = 1; timeout = 4; period = 1; misses = 2 })))
    × (moving from_left (codes "group 1 4 1 2 00000000000000000000000000000000") ≡ Err bad.Limit)
    × (moving from_left (codes "group 1 5 2 3 00000000000000000000000000000000") ≡ Err bad.Limit)
    × (moving (migrate.Left (record { tag = replicate 16 170; t = 1; timeout = 4; period = 1; misses = 2 })) (codes "group 1 4 1 2 aAaAaAaAaAaAaAaAAAAAAAAAAAAAAAAA") ≡ Err bad.Limit)
    × (moving from_left (codes "group 1 4 x 2 00000000000000000000000000000000") ≡ Err bad.Number)
    × (moving from_left (codes "group 1 4 1 2 0000000000000000000000000000000") ≡ Err bad.Hex)
    × (moving from_left (codes "group 1 4 1 2") ≡ Err bad.Count)
    × (migrate_text.after from_left (secret_lines.Group (record { tag = replicate 16 0; t = 2; timeout = 4; period = 1; misses = 2 })) ≡ migrate.Moved secret.Grouped)
unfolding judge_line key_in hex_on_literals
moves = (refl, refl, refl, refl, refl, refl, refl, refl, refl)

-- The second group has a place of its own, and behind it the lines come as in a secret's text.
move_places : (moving from_left (codes "kinds 1 5") ≡ Err bad.Order)
    × (moving migrate.Headed (codes "kinds 1 5") ≡ Err bad.Order)
    × (moving (migrate.Moved secret.Grouped) (codes "kinds 1 5") ≡ Ok (secret_lines.Kinds (record { ots = W1; tree = H5; bottom = None })))
    × (moving (migrate.Moved secret.Grouped) (codes "group 1 4 1 2 00000000000000000000000000000000") ≡ Err bad.Order)
    × (moving (migrate.Moved secret.Grouped) (codes "kinds 3 5") ≡ Err bad.Limit)
    × (moving (migrate.Moved secret.Kinded) (codes "secret 00000000000000000000000000000000000000000000000000000000000000fF") ≡ Ok (secret_lines.Secret (replicate 31 0 ++ 255 ∷ [])))
    × (moving (migrate.Moved secret.Kinded) (codes "secret 00") ≡ Err bad.Limit)
    × (moving (migrate.Moved secret.Kinded) (codes "end") ≡ Err bad.Order)
    × (moving (migrate.Moved secret.Given) (codes "end") ≡ Ok secret_lines.End)
    × (moving (migrate.Moved secret.Given) (codes "cert 1 2 00") ≡ Err bad.Word)
    × (moving (migrate.Moved secret.Ended) (codes "end") ≡ Err bad.AfterEnd)
unfolding judge_line key_in hex_on_literals
move_places = (refl, refl, refl, refl, refl, refl, refl, refl, refl, refl, refl)

-- ## Certificates that are asked for

-- where member 1 is named, and 0 and 2 are not
abbrev one_named : RosterText
one_named = roster.Body (false ∷ true ∷ false ∷ [])

abbrev key_digits : List ℕ
key_digits = codes "0000000500000003a1a1a1a1a1a1a1a1a1a1a1a1a1a1a1a1b2b2b2b2b2b2b2b2b2b2b2b2b2b2b2b2b2b2b2b2b2b2b2b2b2b2b2b2b2b2b2b2"

certificates : (below one_named (codes "cert 2 1" ++ 32 ∷ key_digits) ≡ Ok (roster_lines.Cert (record { member = 2; port = 1; key = keys.Lms (record { tree = H5; ots = W4; id = replicate 16 161; root = replicate 32 178 }) })))
    × (below one_named (codes "cert 1 1" ++ 32 ∷ key_digits) ≡ Err bad.Limit)
    × (below one_named (codes "cert 1024 1" ++ 32 ∷ key_digits) ≡ Err bad.Limit)
    × (below one_named (codes "cert 2 0" ++ 32 ∷ key_digits) ≡ Err bad.Limit)
    × (below one_named (codes "cert 2 65536" ++ 32 ∷ key_digits) ≡ Err bad.Limit)
    × (below one_named (codes "cert 2 1 00000002" ++ key_digits) ≡ Ok (roster_lines.Cert (record { member = 2; port = 1; key = keys.Hss (record { top = record { tree = H5; ots = W4; id = replicate 16 161; root = replicate 32 178 } }) })))
    × (below one_named (codes "cert 2 1 00000008" ++ key_digits) ≡ Err bad.Limit)
    × (below one_named (codes "cert 2 1 000000" ++ key_digits) ≡ Err bad.Limit)
    × (below one_named (codes "cert 2 1 0000000002" ++ key_digits) ≡ Err bad.Limit)
    × (below one_named (codes "cert 2 1 0" ++ key_digits) ≡ Err bad.Hex)
    × (below one_named (codes "cert 2 1") ≡ Err bad.Count)
    × (below roster.Kinded (codes "cert 2 1 00") ≡ Err bad.Order)
    × (below one_named (codes "end") ≡ Ok roster_lines.End)
unfolding judge_line key_in hss.key_in hex_on_literals
certificates = (refl, refl, refl, refl, refl, refl, refl, refl, refl, refl, refl, refl, refl)

named : (roster_text.after one_named (roster_lines.Cert (record { member = 2; port = 1; key = keys.Lms (record { tree = H5; ots = W4; id = []; root = [] }) })) ≡ roster.Body (false ∷ true ∷ true ∷ []))
named = refl
