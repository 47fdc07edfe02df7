-- The lines of signed certificates.
use Rattle.std.specs.Prelude.{ℕ, ◌+◌, nat_lt, if◌then◌else◌, List, [], ◌∷◌, ◌++◌, codes, decimal}
use Rattle.hex.specs.Hex.{encode_lower}
use Rattle.ff_ids.specs.declared.Group.{Group}
use Rattle.line_text.specs.declared.bad_word.BadWord.{BadWord}
use Rattle.records.specs.Keys.{key_bytes}
use Rattle.records.specs.declared.Body.TheVariants.{Certificate}
use Rattle.records.specs.declared.CertBody.{CertBody}
use Rattle.schedule_texts.specs.declared.line.RosterLine.{RosterLine}
use Rattle.schedule_texts.specs.declared.roster.RosterText.TheVariants as roster
use Rattle.sign_keys.specs.Keys.{KeySecret, index_count}
use Rattle.signer.specs.Signing.{signed_by}
use Rattle.text_trace.specs.Trace.{Continuation}
use Rattle.whole_text.specs.Gathered.{owed_whole}
use Rattle.authority.specs.declared.setting.Setting.{Setting}
use Rattle.authority.specs.Settings.{asked_in, key_of, roster_judging, roster_setting, told_for}

-- the line of a certificate with this signature, as the text of a member takes it
abbrev pub cert_line : CertBody → List ℕ → List ℕ
cert_line c signature =
    codes "cert " ++ decimal c.member ++ codes " " ++ decimal c.port ++ codes " " ++ encode_lower (key_bytes c.key) ++ codes " " ++ encode_lower signature ++ 10 ∷ []

-- the line of a certificate that is signed with the leaf of this index
unfoldable pub signed_line : Group → KeySecret → ℕ → CertBody → List ℕ
signed_line group key index c = cert_line c (signed_by group key index (Certificate c)).rec.signature

-- the lines of these certificates, each signed with the index behind the one before
abbrev pub signed_lines : Group → KeySecret → ℕ → List CertBody → List ℕ
signed_lines group key index [] = []
signed_lines group key index (c ∷ certs) = signed_line group key index c ++ signed_lines group key (index + 1) certs

-- the same, as far as the key has indexes
abbrev pub lines_within : Group → KeySecret → ℕ → List CertBody → List ℕ
lines_within group key index [] = []
lines_within group key index (c ∷ certs) =
    if nat_lt index (index_count key) then signed_line group key index c ++ lines_within group key (index + 1) certs else []

-- The lines that a setting's store with this next index gives for the certificates that are asked for.
abbrev pub lines_for : ℕ → List CertBody → Setting → List ℕ
lines_for next certs s = lines_within s.group (key_of s) next certs

abbrev pub told_at_end : ℕ → List RosterLine → List ℕ
told_at_end next lines = told_for (roster_setting lines) (lines_for next (asked_in lines))

-- What a roster is owed, where the store that is found has this next index: at its end, the lines of the certificates that are
-- asked for, as far as the key has leaves.
abbrev pub enrolled : ℕ → Continuation BadWord
enrolled next = owed_whole roster_judging roster.Start (told_at_end next)
