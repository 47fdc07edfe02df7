-- What a journal that is Shown gives rests on a life, with no trust in its writer.
use Rattle.std.specs.Prelude.{ℕ, Bool, List, Contains}
use Rattle.journal.specs.declared.event.What as whats
use Rattle.journal.specs.Texts.{event_text}
use Rattle.records.specs.declared.Body.{Body}
use Rattle.records.specs.declared.keys.Key.{Key}
use Rattle.sign_keys.specs.Keys.{public_key}
use Rattle.epoch_store.specs.declared.Stored.{Stored}
use Rattle.node_rules.specs.Nodes.{Setting}
use Rattle.turn_rules.specs.Turns.{acts_of}
use Rattle.turn_rules.specs.Written.{GivesOf}
use Rattle.audit_rules.specs.declared.Head.{Head}
use Rattle.audit_rules.specs.Heads.{IsCertifiedHead}
use Rattle.audit_rules.specs.Shown.{IsShown, setting_by, start_by}
use Rattle.node_command.specs.declared.kit.Member.{Member}
use Rattle.node_command.specs.Members.{IsSoundMember, key_of}
use Rattle.shown_laws.specs.Own.{head_of}

-- That of a member which a text sets up is certified, with its key.
abbrev pub OwnHeadsAreCertified : Type 0
OwnHeadsAreCertified = (m : Member) (stored : Stored) → IsSoundMember m → IsCertifiedHead (head_of m stored) (public_key (key_of m))

-- Of the own signatures those are claimed to verify that do.
abbrev pub verify_under : Key → Setting → ℕ → Body → Bool
verify_under own s index body = s.verifies own (record { body = body; signature = s.signature index body })

-- Each line of such a journal that gives a removal, an expiry, an accepted record, an accusation of the member's own or a datagram rests
-- on the life that the journal is of. So each record that was delivered and accepted verifies; and of the own ones those do that a
-- line shows.
abbrev pub ShownJournalsRest : Type 0
ShownJournalsRest = (h : Head) (own : Key) (lines : List (List ℕ)) (moment : ℕ) (what : whats.What) → IsCertifiedHead h own → (x : IsShown h lines)
    → Contains lines (event_text (record { moment = moment; what = what }))
    → GivesOf (verify_under own (setting_by h x.source)) (setting_by h x.source) (start_by h x.source).node (acts_of x.source.turns x.source.leaves) moment what
