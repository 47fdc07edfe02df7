-- Worked lines: what each is, or its first bad word. Each row is computed.
use Rattle.std.proofs.Common.{◌≡◌, ℕ, ◌++◌, [], ◌∷◌, List, Result, Ok, Err, refl, codes, replicate}
use Rattle.hex.proofs.OnLiterals.{hex_on_literals}
use Rattle.lms_ots.specs.declared.kind.OtsKind.TheVariants.{W4, W8}
use Rattle.lms_tree.specs.declared.kind.TreeKind.TheVariants.{H5}
use Rattle.lms_tree.specs.Lms.{key_in}
use Rattle.hss.specs.Hss as hss
use Rattle.records.specs.declared.keys.Key.TheVariants as keys
use Rattle.line_text.specs.declared.bad_word.BadWord.{BadWord}
use Rattle.line_text.specs.declared.bad_word.BadWord.TheVariants as bad
use Rattle.line_text.specs.Frame.{judge as judge_line}
use Rattle.verify_text.specs.declared.line.VerifyLine.{VerifyLine}
use Rattle.verify_text.specs.declared.line.VerifyLine.TheVariants as lines
use Rattle.verify_text.specs.declared.verify.Verify.{Verify}
use Rattle.verify_text.specs.declared.verify.Verify.TheVariants as verify
use Rattle.verify_text.specs.Grammar.{judge}

-- the line with a line feed, where so much has been read
abbrev at : Verify → List ℕ → Result VerifyLine BadWord
at v text = judge (record { number = 3; form = v }) (text ++ 10 ∷ [])

heads : (at verify.Start (codes "fireflies 1 verify") ≡ Ok lines.Header)
    × (at verify.Start (codes "fireflies 1 direct") ≡ Err bad.Header)
unfolding judge_line key_in hex_on_literals
heads = (refl, refl)

no_keys : (at verify.Headed (codes "key" ++ 32 ∷ codes "0000000800000003a1a1a1a1a1a1a1a1a1a1a1a1a1a1a1a1b2b2b2b2b2b2b2b2b2b2b2b2b2b2b2b2b2b2b2b2b2b2b2b2b2b2b2b2b2b2b2b2") ≡ Err bad.Limit)
    × (at verify.Headed (codes "key" ++ 32 ∷ codes "0000000500000005a1a1a1a1a1a1a1a1a1a1a1a1a1a1a1a1b2b2b2b2b2b2b2b2b2b2b2b2b2b2b2b2b2b2b2b2b2b2b2b2b2b2b2b2b2b2b2b2") ≡ Err bad.Limit)
    × (at verify.Headed (codes "key" ++ 32 ∷ codes "0000000500000003a1a1a1a1a1a1a1a1a1a1a1a1a1a1a1a1b2b2b2b2b2b2b2b2b2b2b2b2b2b2b2b2b2b2b2b2b2b2b2b2b2b2b2b2b2b2b2") ≡ Err bad.Limit)
    × (at verify.Headed (codes "key" ++ 32 ∷ codes "0000000500000003a1a1a1a1a1a1a1a1a1a1a1a1a1a1a1a1b2b2b2b2b2b2b2b2b2b2b2b2b2b2b2b2b2b2b2b2b2b2b2b2b2b2b2b2b2b2b2b") ≡ Err bad.Hex)
    × (at verify.Headed (codes "key -") ≡ Err bad.Hex)
    × (at verify.Headed (codes "key") ≡ Err bad.Count)
    × (at verify.Headed (codes "message 00") ≡ Err bad.Order)
    × (at verify.Headed (codes "keys 00") ≡ Err bad.Word)
unfolding judge_line key_in hex_on_literals
no_keys = (refl, refl, refl, refl, refl, refl, refl, refl)

-- a key of one level, and keys of two
read_keys : (at verify.Headed (codes "key" ++ 32 ∷ codes "0000000500000003a1a1a1a1a1a1a1a1a1a1a1a1a1a1a1a1b2b2b2b2b2b2b2b2b2b2b2b2b2b2b2b2b2b2b2b2b2b2b2b2b2b2b2b2b2b2b2b2") ≡ Ok (lines.Key (keys.Lms (record { tree = H5; ots = W4; id = replicate 16 161; root = replicate 32 178 }))))
    × (at verify.Headed (codes "key" ++ 32 ∷ codes "000000020000000500000003a1a1a1a1a1a1a1a1a1a1a1a1a1a1a1a1b2b2b2b2b2b2b2b2b2b2b2b2b2b2b2b2b2b2b2b2b2b2b2b2b2b2b2b2b2b2b2b2") ≡ Ok (lines.Key (keys.Hss (record { top = record { tree = H5; ots = W4; id = replicate 16 161; root = replicate 32 178 } }))))
    × (at verify.Headed (codes "key" ++ 32 ∷ codes "000000020000000500000004A1A1A1A1A1A1A1A1A1A1A1A1A1A1A1A1b2b2b2b2b2b2b2b2b2b2b2b2b2b2b2b2b2b2b2b2b2b2b2b2b2b2b2b2b2b2b2b2") ≡ Ok (lines.Key (keys.Hss (record { top = record { tree = H5; ots = W8; id = replicate 16 161; root = replicate 32 178 } }))))
unfolding judge_line key_in hss.key_in hex_on_literals
read_keys = (refl, refl, refl)

-- of another number of levels, of one-time signatures of W2, of no tree, and of a byte less, are no keys; an odd number of digits comes first
two_levels : (at verify.Headed (codes "key" ++ 32 ∷ codes "000000010000000500000003a1a1a1a1a1a1a1a1a1a1a1a1a1a1a1a1b2b2b2b2b2b2b2b2b2b2b2b2b2b2b2b2b2b2b2b2b2b2b2b2b2b2b2b2b2b2b2b2") ≡ Err bad.Limit)
    × (at verify.Headed (codes "key" ++ 32 ∷ codes "000000020000000500000002a1a1a1a1a1a1a1a1a1a1a1a1a1a1a1a1b2b2b2b2b2b2b2b2b2b2b2b2b2b2b2b2b2b2b2b2b2b2b2b2b2b2b2b2b2b2b2b2") ≡ Err bad.Limit)
    × (at verify.Headed (codes "key" ++ 32 ∷ codes "000000020000000800000003a1a1a1a1a1a1a1a1a1a1a1a1a1a1a1a1b2b2b2b2b2b2b2b2b2b2b2b2b2b2b2b2b2b2b2b2b2b2b2b2b2b2b2b2b2b2b2b2") ≡ Err bad.Limit)
    × (at verify.Headed (codes "key" ++ 32 ∷ codes "000000020000000500000003a1a1a1a1a1a1a1a1a1a1a1a1a1a1a1a1b2b2b2b2b2b2b2b2b2b2b2b2b2b2b2b2b2b2b2b2b2b2b2b2b2b2b2b2b2b2b2") ≡ Err bad.Limit)
    × (at verify.Headed (codes "key" ++ 32 ∷ codes "000000020000000500000003a1a1a1a1a1a1a1a1a1a1a1a1a1a1a1a1b2b2b2b2b2b2b2b2b2b2b2b2b2b2b2b2b2b2b2b2b2b2b2b2b2b2b2b2b2b2b2b") ≡ Err bad.Hex)
unfolding judge_line key_in hss.key_in hex_on_literals
two_levels = (refl, refl, refl, refl, refl)

messages : (at verify.Keyed (codes "message -") ≡ Ok (lines.Message []))
    × (at verify.Keyed (codes "message 00fFAb") ≡ Ok (lines.Message (0 ∷ 255 ∷ 171 ∷ [])))
    × (at verify.Keyed (codes "message 0g") ≡ Err bad.Hex)
    × (at verify.Keyed (codes "message 000") ≡ Err bad.Hex)
    × (at verify.Keyed (codes "message 00 00") ≡ Err bad.Count)
    × (at verify.Keyed (codes "end") ≡ Err bad.Order)
unfolding judge_line key_in hex_on_literals
messages = (refl, refl, refl, refl, refl, refl)

signatures : (at verify.Worded (codes "signature 0a") ≡ Ok (lines.Signature (10 ∷ [])))
    × (at verify.Worded (codes "signature  0a") ≡ Err bad.Spaces)
unfolding judge_line key_in hex_on_literals
signatures = (refl, refl)

ends : (at verify.Signed (codes "end") ≡ Ok lines.End)
    × (at verify.Signed (codes "end 1") ≡ Err bad.Count)
unfolding judge_line key_in hex_on_literals
ends = (refl, refl)

behind_the_end : (at verify.Ended (codes "end") ≡ Err bad.AfterEnd)
unfolding judge_line key_in hex_on_literals
behind_the_end = refl
