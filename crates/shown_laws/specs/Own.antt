-- The journal of a member's own life, as one sees it who audits it with the right head.
use Rattle.std.specs.Prelude.{◌≡◌, ℕ, ◌^◌, ◌<◌, ◌≤◌, Bool, true, List, Option, Some, None, flat_map}
use Rattle.std.specs.List.{AllByRecursion}
use Rattle.hex.specs.Hex.{IsBytes}
use Rattle.lms_tree.specs.declared.kind.TreeKind.{TreeKind}
use Rattle.ports.specs.declared.link.LinkAnswer.{LinkAnswer}
use Rattle.ports.specs.declared.link.LinkAnswer.TheVariants as answers
use Rattle.ports.specs.Link.{LinkState}
use Rattle.sign_keys.specs.Keys.{KeySecret, Lms, Hss, index_count}
use Rattle.epoch_store.specs.declared.Stored.{Stored}
use Rattle.journal.specs.declared.turn.Turn.{Turn}
use Rattle.trace.specs.Written.{IsWholeLine}
use Rattle.turn_rules.specs.Lines.{with_feed}
use Rattle.audit_rules.specs.declared.Head.{Head}
use Rattle.audit_rules.specs.Shown.{IsShown}
use Rattle.node_loop.specs.Turns.{pace_for, turns_brought}
use Rattle.node_loop.specs.Journals.{lost_on}
use Rattle.node_command.specs.declared.kit.Member.{Member}
use Rattle.node_command.specs.declared.stay.Stay.{Stay}
use Rattle.node_command.specs.Members.{IsSoundMember, key_of}
use Rattle.node_command.specs.Opening.{setting_for}
use Rattle.node_command.specs.Journal.{bound_for, journal_of}

-- ## The head

-- the kind of a key's bottom trees, which the public half doesn't show; a key of one level has none
abbrev pub bottom_of : KeySecret → Option TreeKind
bottom_of (Lms secret) = None
bottom_of (Hss pair) = Some pair.bottom

-- What the member was begun with, and what its store kept then.
abbrev pub head_of : Member → Stored → Head
head_of m stored =
    record {
      group = m.group;
      heal = m.heal;
      me = m.own.member;
      authority = m.authority;
      certificates = m.certificates;
      stored = stored;
      bottom = bottom_of (key_of m);
    }

-- ## What a life rests on

-- what comes is bytes
abbrev pub ComesAsBytes : LinkAnswer → Type 0
ComesAsBytes (answers.Got bytes) = IsBytes bytes
ComesAsBytes answers.Nothing = Unit {0}
ComesAsBytes answers.Failed = Unit {0}

-- A life is served for as many turns as a number of four bytes counts, and leaves behind one, if it does. What comes is bytes.
pub record IsServed (stay : Stay) (coming : List LinkAnswer) : Type 0 where
  pub behind_a_turn : stay.leave ≡ true → 1 ≤ stay.turns
  pub few : stay.turns < 2 ^ 32
  pub bytes : AllByRecursion ComesAsBytes coming

-- The life of a member begins with an index left, and with an epoch that isn't above the next index.
pub record MayBegin (m : Member) (stored : Stored) : Type 0 where
  pub sound : IsSoundMember m
  pub left : stored.next < index_count (key_of m)
  pub epoch : stored.epoch ≤ stored.next

-- ## Its journal

-- The text is lines, each ended by its only line feed, which from this head are Shown: by a life of these turns, of whose datagrams
-- these are lost, and which leaves behind them or doesn't.
pub record IsShownText (h : Head) (turns : List Turn) (lost : ℕ → Bool) (leaves : Bool) (text : List ℕ) : Type 0 where
  pub lines : List (List ℕ)
  pub cut : text ≡ flat_map with_feed lines
  pub whole : AllByRecursion (λ line. IsWholeLine (with_feed line)) lines
  pub shown : IsShown h lines
  pub turns_are : shown.source.turns ≡ turns
  pub lost_so : shown.source.lost ≡ lost
  pub leaves_so : shown.source.leaves ≡ leaves

-- That of a member's life, over what its link and its clock bring.
abbrev pub IsShownOf : Member → Stored → Stay → LinkState → ℕ → List ℕ → List ℕ → Type 0
IsShownOf m stored stay link reading readings text =
    IsShownText (head_of m stored) (turns_brought (pace_for (setting_for m) m.millis) stay.turns link.coming reading readings) (lost_on (bound_for m link)) stay.leave text

abbrev pub OwnJournalsAreShown : Type 0
OwnJournalsAreShown = (m : Member) (stored : Stored) (stay : Stay) (link : LinkState) (reading : ℕ) (readings : List ℕ)
    → MayBegin m stored → IsServed stay link.coming → IsShownOf m stored stay link reading readings (journal_of m stored stay link reading readings)
