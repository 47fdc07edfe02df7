-- Worked lines: what each is, or its first bad word. Each row is computed.
use Rattle.std.proofs.Common.{◌≡◌, ℕ, true, false, ◌++◌, [], ◌∷◌, List, Option, Some, None, Result, Ok, Err, refl, codes}
use Rattle.std.specs.Prelude.{replicate}
use Rattle.hex.proofs.OnLiterals.{hex_on_literals}
use Rattle.ff_ids.specs.declared.Group.{Group}
use Rattle.lms_ots.specs.declared.kind.OtsKind.TheVariants.{W1, W4}
use Rattle.lms_tree.specs.declared.kind.TreeKind.TheVariants.{H5}
use Rattle.records.specs.declared.keys.Key.{Key}
use Rattle.records.specs.declared.keys.Key.TheVariants as keys
use Rattle.lms_tree.specs.Lms.{key_bytes, key_in, verdict_of}
use Rattle.lms_tree.specs.declared.key.PublicKey.{PublicKey}
use Rattle.sign_keys.specs.Keys.{new_key}
use Rattle.secrets.specs.Secrets.{key_from}
use Rattle.line_text.specs.declared.bad_word.BadWord.{BadWord}
use Rattle.line_text.specs.declared.bad_word.BadWord.TheVariants as bad
use Rattle.line_text.specs.Frame.{judge as judge_line}
use Rattle.records.specs.declared.CertBody.{CertBody}
use Rattle.schedule_texts.specs.declared.kit.KitText.{KitText}
use Rattle.schedule_texts.specs.declared.kit.KitText.TheVariants as kit
use Rattle.schedule_texts.specs.declared.kit_line.KitLine.{KitLine}
use Rattle.schedule_texts.specs.declared.kit_line.KitLine.TheVariants as lines
use Rattle.schedule_texts.specs.KitGrammar.{after, certifying, judge}

-- the line with a line feed, where so much has been read
abbrev at : KitText → List ℕ → Result KitLine BadWord
at form text = judge (record { number = 7; form = form }) (text ++ 10 ∷ [])

abbrev group_1 : Group
group_1 = record { tag = replicate 16 0; t = 1; timeout = 4; period = 1; misses = 2 }

abbrev authority : PublicKey
authority = record { tree = H5; ots = W4; id = replicate 16 161; root = replicate 32 178 }

abbrev some_key : Key
some_key = keys.Lms authority

abbrev other_key : Key
other_key = keys.Lms (record { tree = H5; ots = W1; id = replicate 16 161; root = replicate 32 178 })

abbrev key_digits : List ℕ
key_digits = codes "0000000500000003a1a1a1a1a1a1a1a1a1a1a1a1a1a1a1a1b2b2b2b2b2b2b2b2b2b2b2b2b2b2b2b2b2b2b2b2b2b2b2b2b2b2b2b2b2b2b2b2"

-- the text of member 2, where 1 has a certificate, and the own number this one
abbrev one_named : Option Key → KitText
one_named own = kit.Body (record { group = group_1; member = 2; key = some_key }) authority (false ∷ true ∷ false ∷ false ∷ []) own

abbrev certificate : ℕ → Key → CertBody
certificate m k = record { member = m; port = 1; key = k }

heads : (at kit.Start (codes "fireflies 1 kit") ≡ Ok lines.Header)
    × (at kit.Start (codes "fireflies 1 roster") ≡ Err bad.Header)
    × (at kit.Headed (codes "secret 00") ≡ Err bad.Word)
    × (at kit.Headed (codes "self 1 00") ≡ Err bad.Order)
unfolding judge_line key_in hex_on_literals
heads = (refl, refl, refl, refl)

abbrev kinded : KitText
kinded = kit.Kinded group_1 (record { ots = W1; tree = H5; bottom = None }) false

-- the kinds of a member's key come as in a secret's text
kinds : (at (kit.Grouped group_1) (codes "kinds 4 5") ≡ Ok (lines.Kinds (record { ots = W4; tree = H5; bottom = None })))
    × (at (kit.Grouped group_1) (codes "kinds 4 5 5") ≡ Ok (lines.Kinds (record { ots = W4; tree = H5; bottom = Some H5 })))
    × (at (kit.Grouped group_1) (codes "kinds 1 5 5") ≡ Err bad.Limit)
    × (at (kit.Grouped group_1) (codes "kinds 1 5 x") ≡ Err bad.Number)
    × (at (kit.Grouped group_1) (codes "kinds 4 5 5 5") ≡ Err bad.Count)
unfolding judge_line key_in hex_on_literals
kinds = (refl, refl, refl, refl, refl)

-- below a line `heal`
abbrev healing : KitText
healing = kit.Kinded group_1 (record { ots = W1; tree = H5; bottom = None }) true

heals : (at kinded (codes "heal 2 0") ≡ Ok (lines.Heal (record { every = 2; most = 0 })))
    × (at kinded (codes "heal 1000 1000") ≡ Ok (lines.Heal (record { every = 1000; most = 1000 })))
    × (at kinded (codes "heal 1 1") ≡ Err bad.Limit)
    × (at kinded (codes "heal 1001 1") ≡ Err bad.Limit)
    × (at kinded (codes "heal 2 1001") ≡ Err bad.Limit)
    × (at kinded (codes "heal x 1") ≡ Err bad.Number)
    × (at kinded (codes "heal 2 01") ≡ Err bad.Number)
    × (at kinded (codes "heal 1 x") ≡ Err bad.Limit)
    × (at kinded (codes "heal") ≡ Err bad.Count)
    × (at kinded (codes "heal 2") ≡ Err bad.Count)
    × (at kinded (codes "heal 2 1 1") ≡ Err bad.Count)
    × (at kinded (codes "Heal 2 1") ≡ Err bad.Word)
unfolding judge_line key_in hex_on_literals
heals = (refl, refl, refl, refl, refl, refl, refl, refl, refl, refl, refl, refl)

-- A line `heal` stands directly below the kinds alone, once.
heal_places : (at healing (codes "heal 2 1") ≡ Err bad.Order)
    × (at healing (codes "kinds 4 5") ≡ Err bad.Order)
    × (at healing (codes "authority 00") ≡ Err bad.Order)
    × (at kit.Headed (codes "heal 2 1") ≡ Err bad.Order)
    × (at (kit.Grouped group_1) (codes "heal 1 x") ≡ Err bad.Order)
    × (at (kit.Owned (record { group = group_1; member = 2; key = some_key })) (codes "heal 2 1") ≡ Err bad.Order)
    × (at (one_named None) (codes "heal 2 1") ≡ Err bad.Order)
    × (after (kit.Grouped group_1) (lines.Kinds (record { ots = W1; tree = H5; bottom = None })) ≡ kinded)
    × (after kinded (lines.Heal (record { every = 2; most = 1 })) ≡ healing)
unfolding judge_line key_in hex_on_literals
heal_places = (refl, refl, refl, refl, refl, refl, refl, refl, refl)

owners : (at kinded (codes "self 2 000000000000000000000000000000000000000000000000000000000000000A") ≡ Ok (lines.Own 2 (replicate 31 0 ++ 10 ∷ []) (new_key (key_from (record { ots = W1; tree = H5; bottom = None }) (replicate 31 0 ++ 10 ∷ [])))))
    × (at healing (codes "self 2 000000000000000000000000000000000000000000000000000000000000000A") ≡ Ok (lines.Own 2 (replicate 31 0 ++ 10 ∷ []) (new_key (key_from (record { ots = W1; tree = H5; bottom = None }) (replicate 31 0 ++ 10 ∷ [])))))
    × (at kinded (codes "self 1024 00") ≡ Err bad.Limit)
    × (at kinded (codes "self 1 00") ≡ Err bad.Limit)
    × (at kinded (codes "self 1 -") ≡ Err bad.Hex)
    × (at kinded (codes "self 1") ≡ Err bad.Count)
unfolding judge_line key_in hex_on_literals
owners = (refl, refl, refl, refl, refl, refl)

abbrev authorized : KitText
authorized = kit.Authorized (record { group = group_1; member = 2; key = some_key }) authority

ticks : (at authorized (codes "tick 1") ≡ Ok (lines.Tick 1))
    × (at authorized (codes "tick 60000") ≡ Ok (lines.Tick 60000))
    × (at authorized (codes "tick 0") ≡ Err bad.Limit)
    × (at authorized (codes "tick 60001") ≡ Err bad.Limit)
    × (at authorized (codes "end") ≡ Err bad.Order)
unfolding judge_line key_in hex_on_literals
ticks = (refl, refl, refl, refl, refl)

-- Each word comes before the certificate as a whole: the number that has one, and the signature that isn't good.
certificates : (at (one_named None) (codes "cert 3 1 " ++ key_digits ++ codes " 00") ≡ Err bad.Cert)
    × (at (one_named None) (codes "cert 1 1 " ++ key_digits ++ codes " 00") ≡ Err bad.Cert)
    × (at (one_named None) (codes "cert 1 0 " ++ key_digits ++ codes " 00") ≡ Err bad.Limit)
    × (at (one_named None) (codes "cert 1 1 0" ++ key_digits ++ codes " 00") ≡ Err bad.Hex)
    × (at (one_named None) (codes "cert 1 1 " ++ key_digits ++ codes " 0") ≡ Err bad.Hex)
    × (at (one_named None) (codes "cert 1 1 " ++ key_digits ++ codes " -") ≡ Err bad.Hex)
    × (at (one_named None) (codes "cert 1 1 " ++ key_digits) ≡ Err bad.Count)
    × (at (one_named None) (codes "tick 1") ≡ Err bad.Order)
unfolding judge_line key_in hex_on_literals verdict_of
certificates = (refl, refl, refl, refl, refl, refl, refl, refl)

-- A signature has at most 9,004 bytes: what is as long is read, and refused as a whole here.
longest : (at (one_named None) (codes "cert 3 1 " ++ key_digits ++ codes " " ++ replicate 18008 48) ≡ Err bad.Cert)
    × (at (one_named None) (codes "cert 3 1 " ++ key_digits ++ codes " " ++ replicate 18010 48) ≡ Err bad.Limit)
unfolding judge_line key_in hex_on_literals verdict_of
longest = (refl, refl)

-- The end wants the certificate of the own number, with the own key.
ends : (at (one_named (Some some_key)) (codes "end") ≡ Ok lines.End)
    × (at (one_named (Some other_key)) (codes "end") ≡ Err bad.OwnKey)
    × (at (one_named None) (codes "end") ≡ Err bad.OwnKey)
    × (at (one_named None) (codes "end 1") ≡ Err bad.Count)
    × (at kit.Ended (codes "end") ≡ Err bad.AfterEnd)
unfolding judge_line key_in hex_on_literals key_bytes
ends = (refl, refl, refl, refl, refl)

named : (certifying (certificate 2 some_key) (one_named None) ≡ kit.Body (record { group = group_1; member = 2; key = some_key }) authority (false ∷ true ∷ true ∷ false ∷ []) (Some some_key))
    × (certifying (certificate 3 other_key) (one_named (Some some_key)) ≡ kit.Body (record { group = group_1; member = 2; key = some_key }) authority (false ∷ true ∷ false ∷ true ∷ []) (Some some_key))
named = (refl, refl)
