-- The grammar of the text of a member, which its table gives.
use Rattle.std.specs.Prelude.{◌≡◌, ℕ, ◌==◌, if◌then◌else◌, true, false, List, length, replicate, Some, None, Result, slice_set}
use Rattle.ff_ids.specs.declared.TheConstants.{MEMBERS}
use Rattle.lms_tree.specs.declared.key.PublicKey.{PublicKey}
use Rattle.records.specs.declared.Body.{Body}
use Rattle.records.specs.declared.Body.TheVariants.{Certificate}
use Rattle.records.specs.declared.CertBody.{CertBody}
use Rattle.sign_keys.specs.Keys.{public_key, secret_of}
use Rattle.sign_keys.specs.Kinds.{is_in_profile}
use Rattle.line_text.specs.declared.bad_word.BadWord.{BadWord}
use Rattle.line_text.specs.Answers.{Progress, next_line}
use Rattle.line_text.specs.Frame as frame
use Rattle.line_text.specs.Tables.{Spells}
use Rattle.schedule_texts.specs.declared.kit.KitText.{KitText}
use Rattle.schedule_texts.specs.declared.kit.KitText.TheVariants as kit
use Rattle.schedule_texts.specs.declared.kit.Owner.{Owner}
use Rattle.schedule_texts.specs.declared.kit_line.KitLine.{KitLine}
use Rattle.schedule_texts.specs.declared.kit_line.KitLine.TheVariants as lines
use Rattle.schedule_texts.specs.KitRows.{is_ended, kit_table, row_for}

-- What holds of each value that a reader reaches: there are keys of the kinds, and there is a place for each number of a member.
abbrev pub IsSound : KitText → Type 0
IsSound (kit.Kinded g kinds heal) = is_in_profile kinds ≡ true
IsSound (kit.Body owner authority named own) = length named ≡ MEMBERS
IsSound _ = Unit {0}

-- These words are this line, which may stand here and which nothing refuses as a whole.
abbrev pub IsKit : KitText → List (List ℕ) → KitLine → Type 0
IsKit form ws l = Spells kit_table form ws l

-- ## Behind a line

-- no member has a certificate
abbrev pub nobody : Owner → PublicKey → KitText
nobody owner authority = kit.Body owner authority (replicate MEMBERS false) None

-- The member of the certificate has one, and where it is the owner, this is the key in it.
abbrev pub certifying : CertBody → KitText → KitText
certifying c (kit.Body owner authority named own) =
    kit.Body owner authority (slice_set named c.member true) (if c.member == owner.member then Some c.key else own)
certifying c form = form

abbrev pub certified_by : Body → KitText → KitText
certified_by (Certificate c) form = certifying c form
certified_by _ form = form

abbrev pub after : KitText → KitLine → KitText
after form lines.Header = kit.Headed
after form (lines.Group g) = kit.Grouped g
after (kit.Grouped g) (lines.Kinds kinds) = kit.Kinded g kinds false
after (kit.Kinded g kinds heal) (lines.Heal h) = kit.Kinded g kinds true
after (kit.Kinded g kinds heal) (lines.Own m secret own_key) = kit.Owned (record { group = g; member = m; key = public_key (secret_of own_key) })
after (kit.Owned owner) (lines.Authority authority) = kit.Authorized owner authority
after (kit.Authorized owner authority) (lines.Tick millis) = nobody owner authority
after form (lines.Cert c) = certified_by c.rec.body form
after form lines.End = kit.Ended
after form _ = form

-- ## A reader of the form

-- What the next line is, or its first bad word.
abbrev pub judge : Progress KitText → List ℕ → Result KitLine BadWord
judge p bytes = frame.judge (next_line is_ended row_for p) bytes
