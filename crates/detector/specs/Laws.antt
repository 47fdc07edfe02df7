-- The live pings and their answers again, in the words of the rule: laws of the definitions alone.
use Rattle.std.specs.Prelude.{◌≡◌, ℕ, Bool, false, ◌&&◌, ◌==◌, List, ◌∷◌, ◌++◌, Some, All, map, find}
use Rattle.std.specs.List.{list_any}
use Rattle.detector.specs.declared.watch.Watched.{Watched}
use Rattle.detector.specs.declared.probe.Ping.{Ping}
use Rattle.detector.specs.Silence.{Happening, Ticked, Ponged, epoch_in}

-- At this tick m was watched with this epoch; a pong changes nothing of that.
abbrev pub WasWatched : ℕ → ℕ → Happening → Type 0
WasWatched m epoch (Ticked watched pings) = epoch_in watched m ≡ Some epoch
WasWatched m epoch (Ponged sender nonce) = Unit {0}

-- A ping to m with this nonce was sent at a tick; then, and at each tick since, m was watched with this epoch. What
-- has happened since is given, the latest first.
pub record IsLiveSince (happened : List Happening) (m epoch nonce : ℕ) (since : List Happening) : Type 0 where
  pub watched : List Watched
  pub pings : List (ℕ × ℕ)
  pub before : List Happening
  pub parts : happened ≡ since ++ Ticked watched pings ∷ before
  pub sent : find (λ p. p.0 == m) pings ≡ Some (m, nonce)
  pub at_sending : epoch_in watched m ≡ Some epoch
  pub at_each : All (WasWatched m epoch) since

-- It is a pong from m with this nonce.
abbrev pub is_pong : ℕ → ℕ → Happening → Bool
is_pong m nonce (Ticked watched pings) = false
is_pong m nonce (Ponged sender other) = (m == sender) && (nonce == other)

-- Each ping in the list is live.
abbrev pub IsLive : List Happening → ℕ → ℕ → Ping → Type 0
IsLive happened m epoch p = (since : List Happening) × IsLiveSince happened m epoch p.nonce since

-- The ping is live, and answered where a pong from m with its nonce has come since.
abbrev pub IsJudged : List Happening → ℕ → ℕ → Ping → Type 0
IsJudged happened m epoch p = (since : List Happening) × IsLiveSince happened m epoch p.nonce since × (p.answered ≡ list_any (is_pong m p.nonce) since)

abbrev pub nonces : List Ping → List ℕ
nonces pings = map (λ p. p.nonce) pings
