-- The grammar of the head of a text that asks for an audit, which its table gives.
use Rattle.std.specs.Prelude.{◌≡◌, ℕ, ◌==◌, if◌then◌else◌, true, false, is_some, List, length, replicate, Some, None, Result, slice_set}
use Rattle.ff_ids.specs.declared.Group.{Group}
use Rattle.ff_ids.specs.declared.TheConstants.{MEMBERS}
use Rattle.lms_tree.specs.declared.key.PublicKey.{PublicKey}
use Rattle.records.specs.declared.Body.{Body}
use Rattle.records.specs.declared.Body.TheVariants.{Certificate}
use Rattle.records.specs.declared.CertBody.{CertBody}
use Rattle.line_text.specs.declared.bad_word.BadWord.{BadWord}
use Rattle.line_text.specs.Answers.{Progress, next_line}
use Rattle.line_text.specs.Frame as frame
use Rattle.line_text.specs.Tables.{Spells}
use Rattle.schedule_texts.specs.declared.head.HeadText.{HeadText}
use Rattle.schedule_texts.specs.declared.head.HeadText.TheVariants as head
use Rattle.schedule_texts.specs.declared.head_line.HeadLine.{HeadLine}
use Rattle.schedule_texts.specs.declared.head_line.HeadLine.TheVariants as lines
use Rattle.schedule_texts.specs.HeadRows.{head_table, is_ended, row_for}

-- What holds of each value that a reader reaches: there is a place for each number of a member.
abbrev pub IsSound : HeadText → Type 0
IsSound (head.Body g me authority named own) = length named ≡ MEMBERS
IsSound _ = Unit {0}

-- These words are this line, which may stand here and which nothing refuses as a whole.
abbrev pub IsHead : HeadText → List (List ℕ) → HeadLine → Type 0
IsHead form ws l = Spells head_table form ws l

-- ## Behind a line

-- no member has a certificate
abbrev pub nobody : Group → ℕ → PublicKey → HeadText
nobody g me authority = head.Body g me authority (replicate MEMBERS false) None

-- The member of the certificate has one, and where it is the own number, this is the key in it.
abbrev pub certifying : CertBody → HeadText → HeadText
certifying c (head.Body g me authority named own) =
    head.Body g me authority (slice_set named c.member true) (if c.member == me then Some c.key else own)
certifying c form = form

abbrev pub certified_by : Body → HeadText → HeadText
certified_by (Certificate c) form = certifying c form
certified_by _ form = form

abbrev pub after : HeadText → HeadLine → HeadText
after form lines.Header = head.Headed
after form (lines.Group g) = head.Grouped g false
after (head.Grouped g heal) (lines.Heal h) = head.Grouped g true
after (head.Grouped g heal) (lines.Own me) = head.Owned g me
after (head.Owned g me) (lines.Authority authority) = nobody g me authority
after form (lines.Cert c) = certified_by c.rec.body form
after (head.Body g me authority named own) (lines.State next epoch mask low) = head.Stated (is_some own)
after form lines.Journal = head.Ended
after form _ = form

-- ## A reader of the form

-- What the next line is, or its first bad word.
abbrev pub judge : Progress HeadText → List ℕ → Result HeadLine BadWord
judge p bytes = frame.judge (next_line is_ended row_for p) bytes
