-- That what is reported as sent is what is sent, and what goes out where no records are delivered.
use Rattle.std.specs.Prelude.{◌≡◌, ℕ, ◌+◌, Bool, true, false, if◌then◌else◌, List, [], ◌∷◌, ◌++◌, Option, Ok, map}
use Rattle.ff_ids.specs.declared.summary.Summary.{Summary}
use Rattle.records.specs.declared.Record.{Record}
use Rattle.datagram.specs.declared.Datagram.TheVariants as kinds
use Rattle.datagram.specs.Spelling.{datagram_bytes}
use Rattle.datagram.specs.Grammar.{read_of}
use Rattle.detector.specs.Silence.{counts, ponged}
use Rattle.journal.specs.declared.event.What as whats
use Rattle.journal.specs.declared.event.What.TheVariants as told
use Rattle.node_rules.specs.Nodes.{Setting, Node, state_of}
use Rattle.node_rules.specs.Pages.{page, lacking}
use Rattle.node_rules.specs.Calls.{Call}
use Rattle.node_rules.specs.Deliveries.{is_other, delivered}
use Rattle.node_rules.specs.OnDisks.{Input, called}
use Rattle.node_rules.specs.Verdicts.{all_at, told_that, is_apart}

-- ---- what is reported of it

abbrev pub is_sent : whats.What → Bool
is_sent (told.Sent place to bytes) = true
is_sent other = false

-- One event for each datagram, with its place, of which the first is this.
abbrev pub sendings : ℕ → List (ℕ × List ℕ) → List whats.What
sendings place [] = []
sendings place (d ∷ sent) = told.Sent place d.0 d.1 ∷ sendings (place + 1) sent

-- What the call reports as sent is what it sends, in order, each with its place among the call's.
abbrev pub TellsSendings : Call → Type 0
TellsSendings c = map (λ e. e.what) (told_that is_sent c) ≡ sendings 0 c.sent

abbrev pub SentIsTold : Type 0
SentIsTold = (s : Setting) (n : Node) (i : Input) (fails_at : Option ℕ) → TellsSendings (called s n i fails_at)

-- ---- pings, pongs and summaries

-- Beside the datagrams the call reports this alone, it sends these, and leaves its node so.
pub record Brings (s : Setting) (n : Node) (what : whats.What) (sent : List (ℕ × List ℕ)) (later : Node) (c : Call) : Type 0 where
  pub told : told_that is_apart c ≡ all_at (state_of s n).moment (what ∷ [])
  pub sent_so : c.sent ≡ sent
  pub node_so : c.node ≡ later

-- A ping brings a pong to its sender, if that is another certified member.
abbrev pub PingsBring : Type 0
PingsBring = (s : Setting) (n : Node) (bytes : List ℕ) (from nonce : ℕ) → read_of bytes ≡ Ok (kinds.Ping from nonce)
    → Brings s n (told.Ping from nonce) (if is_other s n from then (from, datagram_bytes (kinds.Pong s.me nonce)) ∷ [] else []) n (delivered s n bytes)

-- A pong is reported, with whether it counts, and the probes see it.
abbrev pub PongsBring : Type 0
PongsBring = (s : Setting) (n : Node) (bytes : List ℕ) (from nonce : ℕ) → read_of bytes ≡ Ok (kinds.Pong from nonce)
    → Brings s n (told.Pong from nonce (counts n.probes from nonce)) [] (record n { probes = ponged n.probes from nonce }) (delivered s n bytes)

-- What the sender lacks goes out in one datagram, if there is any.
abbrev pub given : Setting → ℕ → List Record → List (ℕ × List ℕ)
given s to [] = []
given s to (r ∷ records) = (to, datagram_bytes (kinds.Records s.me (r ∷ records))) ∷ []

-- A summary that answers none is answered by the same page.
abbrev pub reply : Setting → Node → ℕ → Bool → ℕ → List (ℕ × List ℕ)
reply s n to true number = []
reply s n to false number = (to, datagram_bytes (kinds.Summary s.me true (page n number))) ∷ []

-- A summary brings what its sender lacks, and then the reply, if that is another certified member.
abbrev pub SummariesBring : Type 0
SummariesBring = (s : Setting) (n : Node) (bytes : List ℕ) (from : ℕ) (flag : Bool) (theirs : Summary) → read_of bytes ≡ Ok (kinds.Summary from flag theirs)
    → Brings s n (told.Summary from theirs.page flag) (if is_other s n from then given s from (lacking n from theirs) ++ reply s n from flag theirs.page else []) n (delivered s n bytes)
