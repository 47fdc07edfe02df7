-- Worked lines: what each is, or its first bad word. Each row is computed.
use Rattle.std.proofs.Common.{◌≡◌, ℕ, true, false, ◌++◌, [], ◌∷◌, List, Option, Some, None, Result, Ok, Err, refl, codes}
use Rattle.std.specs.Prelude.{replicate}
use Rattle.hex.proofs.OnLiterals.{hex_on_literals}
use Rattle.ff_ids.specs.declared.Group.{Group}
use Rattle.lms_ots.specs.declared.kind.OtsKind.{OtsKind}
use Rattle.lms_ots.specs.declared.kind.OtsKind.TheVariants.{W1, W4, W8}
use Rattle.lms_tree.specs.declared.kind.TreeKind.{TreeKind}
use Rattle.lms_tree.specs.declared.kind.TreeKind.TheVariants.{H5, H10, H15}
use Rattle.records.specs.declared.CertBody.{CertBody}
use Rattle.records.specs.declared.keys.Key.{Key}
use Rattle.records.specs.declared.keys.Key.TheVariants as keys
use Rattle.lms_tree.specs.Lms.{key_in, verdict_of}
use Rattle.lms_tree.specs.declared.key.PublicKey.{PublicKey}
use Rattle.line_text.specs.declared.bad_word.BadWord.{BadWord}
use Rattle.line_text.specs.declared.bad_word.BadWord.TheVariants as bad
use Rattle.line_text.specs.Frame.{judge as judge_line}
use Rattle.schedule_texts.specs.declared.head.HeadText.{HeadText}
use Rattle.schedule_texts.specs.declared.head.HeadText.TheVariants as head
use Rattle.schedule_texts.specs.declared.head_line.HeadLine.{HeadLine}
use Rattle.schedule_texts.specs.declared.head_line.HeadLine.TheVariants as lines
use Rattle.schedule_texts.specs.HeadGrammar.{after, certifying, judge}
use Rattle.schedule_texts.specs.HeadRows.{is_ended, state_of}

-- the line with a line feed, where so much has been read
abbrev at : HeadText → List ℕ → Result HeadLine BadWord
at form text = judge (record { number = 6; form = form }) (text ++ 10 ∷ [])

abbrev group_1 : Group
group_1 = record { tag = replicate 16 0; t = 1; timeout = 4; period = 1; misses = 2 }

abbrev lms : OtsKind → TreeKind → PublicKey
lms ots tree = record { tree = tree; ots = ots; id = replicate 16 161; root = replicate 32 178 }

abbrev pair : OtsKind → TreeKind → Key
pair ots tree = keys.Hss (record { top = lms ots tree })

abbrev key_digits : List ℕ
key_digits = codes "0000000500000003a1a1a1a1a1a1a1a1a1a1a1a1a1a1a1a1b2b2b2b2b2b2b2b2b2b2b2b2b2b2b2b2b2b2b2b2b2b2b2b2b2b2b2b2b2b2b2b2"

-- below the group, and below a line `heal`
abbrev grouped : HeadText
grouped = head.Grouped group_1 false

abbrev healing : HeadText
healing = head.Grouped group_1 true

-- the head of member 2, where 1 has a certificate, and the own number this key
abbrev one_named : Option Key → HeadText
one_named own = head.Body group_1 2 (lms W4 H5) (false ∷ true ∷ false ∷ false ∷ []) own

heads : (at head.Start (codes "fireflies 1 audit") ≡ Ok lines.Header)
    × (at head.Start (codes "fireflies 1 kit") ≡ Err bad.Header)
    × (at head.Headed (codes "fireflies 1 audit") ≡ Err bad.Word)
    × (at head.Headed (codes "group 1 4 1 2 00000000000000000000000000000000") ≡ Ok (lines.Group group_1))
    × (at head.Headed (codes "group 32 4 1 2 00000000000000000000000000000000") ≡ Err bad.Limit)
    × (at head.Headed (codes "self 2") ≡ Err bad.Order)
    × (at head.Headed (codes "kinds 4 5") ≡ Err bad.Word)
unfolding judge_line key_in hex_on_literals
heads = (refl, refl, refl, refl, refl, refl, refl)

-- A line `heal` stands directly below the group alone, once.
heals : (at grouped (codes "heal 2 0") ≡ Ok (lines.Heal (record { every = 2; most = 0 })))
    × (at grouped (codes "heal 1000 1000") ≡ Ok (lines.Heal (record { every = 1000; most = 1000 })))
    × (at grouped (codes "heal 1 1") ≡ Err bad.Limit)
    × (at grouped (codes "heal 2 1001") ≡ Err bad.Limit)
    × (at grouped (codes "heal 2") ≡ Err bad.Count)
    × (at healing (codes "heal 2 0") ≡ Err bad.Order)
    × (at head.Headed (codes "heal 2 0") ≡ Err bad.Order)
    × (at (head.Owned group_1 2) (codes "heal 2 0") ≡ Err bad.Order)
    × (at (one_named None) (codes "heal 2 0") ≡ Err bad.Order)
    × (after head.Headed (lines.Group group_1) ≡ grouped)
    × (after grouped (lines.Heal (record { every = 2; most = 0 })) ≡ healing)
unfolding judge_line key_in hex_on_literals
heals = (refl, refl, refl, refl, refl, refl, refl, refl, refl, refl, refl)

owners : (at grouped (codes "self 0") ≡ Ok (lines.Own 0))
    × (at healing (codes "self 1023") ≡ Ok (lines.Own 1023))
    × (at grouped (codes "self 1024") ≡ Err bad.Limit)
    × (at grouped (codes "self x") ≡ Err bad.Number)
    × (at grouped (codes "self 1 00") ≡ Err bad.Count)
    × (at grouped (codes "authority 00") ≡ Err bad.Order)
    × (after healing (lines.Own 2) ≡ head.Owned group_1 2)
unfolding judge_line key_in hex_on_literals
owners = (refl, refl, refl, refl, refl, refl, refl)

authorities : (at (head.Owned group_1 2) (codes "authority " ++ key_digits) ≡ Ok (lines.Authority (lms W4 H5)))
    × (at (head.Owned group_1 2) (codes "authority 00000002" ++ key_digits) ≡ Err bad.Limit)
    × (at (head.Owned group_1 2) (codes "authority 0" ++ key_digits) ≡ Err bad.Hex)
    × (at (head.Owned group_1 2) (codes "state 0 0 7") ≡ Err bad.Order)
unfolding judge_line key_in hex_on_literals
authorities = (refl, refl, refl, refl)

-- A certificate is judged as in a member's text.
certificates : (at (one_named None) (codes "cert 3 1 " ++ key_digits ++ codes " 00") ≡ Err bad.Cert)
    × (at (one_named None) (codes "cert 1 1 " ++ key_digits ++ codes " 00") ≡ Err bad.Cert)
    × (at (one_named None) (codes "cert 1 0 " ++ key_digits ++ codes " 00") ≡ Err bad.Limit)
    × (at (one_named None) (codes "cert 1 1 " ++ key_digits ++ codes " -") ≡ Err bad.Hex)
    × (at (one_named None) (codes "cert 1 1 " ++ key_digits) ≡ Err bad.Count)
    × (at (head.Owned group_1 2) (codes "cert 3 1 00 00") ≡ Err bad.Order)
    × (at (head.Stated true) (codes "cert 3 1 00 00") ≡ Err bad.Order)
unfolding judge_line key_in hex_on_literals verdict_of
certificates = (refl, refl, refl, refl, refl, refl, refl)

abbrev certificate : ℕ → Key → CertBody
certificate m k = record { member = m; port = 1; key = k }

named : (certifying (certificate 2 (pair W4 H5)) (one_named None) ≡ head.Body group_1 2 (lms W4 H5) (false ∷ true ∷ true ∷ false ∷ []) (Some (pair W4 H5)))
    × (certifying (certificate 3 (keys.Lms (lms W1 H5))) (one_named (Some (pair W4 H5))) ≡ head.Body group_1 2 (lms W4 H5) (false ∷ true ∷ false ∷ true ∷ []) (Some (pair W4 H5)))
named = (refl, refl)

-- The epoch is at most the next index, and a mask has 63 bits. Of two words that are out of their range the left one counts.
states : (at (one_named None) (codes "state 0 0 7") ≡ Ok (state_of 0 0 7 None))
    × (at (one_named (Some (keys.Lms (lms W1 H15)))) (codes "state 32768 32768 9223372036854775807") ≡ Ok (state_of 32768 32768 9223372036854775807 None))
    × (at (one_named None) (codes "state 5 4 0") ≡ Ok (state_of 5 4 0 None))
    × (at (one_named None) (codes "state 32769 0 7") ≡ Err bad.Limit)
    × (at (one_named None) (codes "state 5 6 7") ≡ Err bad.Limit)
    × (at (one_named None) (codes "state 5 6 x") ≡ Err bad.Limit)
    × (at (one_named None) (codes "state x 6 7") ≡ Err bad.Number)
    × (at (one_named None) (codes "state 5 x 9223372036854775808") ≡ Err bad.Number)
    × (at (one_named None) (codes "state 5 5 9223372036854775808") ≡ Err bad.Limit)
    × (at (one_named None) (codes "state 5 5 07") ≡ Err bad.Number)
    × (at (one_named None) (codes "state 5 5") ≡ Err bad.Count)
    × (at (head.Stated true) (codes "state 0 0 7") ≡ Err bad.Order)
unfolding judge_line key_in hex_on_literals
states = (refl, refl, refl, refl, refl, refl, refl, refl, refl, refl, refl, refl)

-- H1 stands exactly where the own certificate is above and its key has two levels, and fits that key.
heights : (at (one_named (Some (pair W4 H5))) (codes "state 0 0 7 5") ≡ Ok (state_of 0 0 7 (Some H5)))
    × (at (one_named (Some (pair W8 H5))) (codes "state 3 2 7 10") ≡ Ok (state_of 3 2 7 (Some H10)))
    × (at (one_named (Some (pair W4 H10))) (codes "state 0 0 7 5") ≡ Ok (state_of 0 0 7 (Some H5)))
    × (at (one_named (Some (pair W4 H10))) (codes "state 0 0 7 10") ≡ Err bad.Limit)
    × (at (one_named (Some (pair W4 H15))) (codes "state 0 0 7 5") ≡ Err bad.Limit)
    × (at (one_named (Some (pair W4 H5))) (codes "state 0 0 7 15") ≡ Err bad.Limit)
    × (at (one_named (Some (pair W4 H5))) (codes "state 0 0 7 6") ≡ Err bad.Limit)
    × (at (one_named (Some (pair W4 H5))) (codes "state 0 1 7 x") ≡ Err bad.Limit)
    × (at (one_named (Some (pair W4 H15))) (codes "state 0 0 7 x") ≡ Err bad.Number)
    × (at (one_named (Some (pair W4 H5))) (codes "state 0 0 7") ≡ Err bad.Count)
    × (at (one_named (Some (keys.Lms (lms W4 H5)))) (codes "state 0 0 7 5") ≡ Err bad.Count)
    × (at (one_named None) (codes "state 0 0 7 5") ≡ Err bad.Count)
unfolding judge_line key_in hex_on_literals
heights = (refl, refl, refl, refl, refl, refl, refl, refl, refl, refl, refl, refl)

-- The line `journal` wants the own certificate, and ends the head.
journals : (at (head.Stated true) (codes "journal") ≡ Ok lines.Journal)
    × (at (head.Stated false) (codes "journal") ≡ Err bad.OwnKey)
    × (at (head.Stated false) (codes "journal 1") ≡ Err bad.Count)
    × (at (one_named (Some (pair W4 H5))) (codes "journal") ≡ Err bad.Order)
    × (after (one_named None) (state_of 0 0 7 None) ≡ head.Stated false)
    × (after (one_named (Some (pair W4 H5))) (state_of 0 0 7 (Some H5)) ≡ head.Stated true)
    × (after (head.Stated true) lines.Journal ≡ head.Ended)
    × (is_ended head.Ended ≡ true)
    × (is_ended (head.Stated true) ≡ false)
unfolding judge_line key_in hex_on_literals
journals = (refl, refl, refl, refl, refl, refl, refl, refl, refl)

-- The lines of a journal are none of the head's; its last one is, but stands nowhere.
strangers : (at head.Headed (codes "end") ≡ Err bad.Order)
    × (at (one_named None) (codes "end 1") ≡ Err bad.Order)
    × (at (head.Stated true) (codes "end") ≡ Err bad.Order)
    × (at (one_named None) (codes "at 0 entered 1") ≡ Err bad.Word)
    × (at (head.Stated true) (codes "turn 1 nothing ticks 0") ≡ Err bad.Word)
    × (at (one_named None) (codes "tick 1") ≡ Err bad.Word)
unfolding judge_line key_in hex_on_literals
strangers = (refl, refl, refl, refl, refl, refl)
