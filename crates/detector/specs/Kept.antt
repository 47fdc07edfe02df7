-- What a detector keeps, the histories that it stands for, and what a tick finds.
use Rattle.std.specs.Prelude.{◌≡◌, ℕ, zero, suc, ◌≤◌, List, [], ◌∷◌, Option, Some, None}
use Rattle.std.specs.Option.{option_map}
use Rattle.ff_ids.specs.declared.TheConstants.{MAX_TOLERANCE}
use Rattle.ff_ids.specs.declared.Group.{Group}
use Rattle.rand_chacha.specs.ChaCha.{ChaCha}
use Rattle.detector.specs.declared.watch.TheConstants.{WATCHED}
use Rattle.detector.specs.declared.probe.Ping.{Ping}
use Rattle.detector.specs.declared.probe.Probe.{Probe}
use Rattle.detector.specs.Silence.{History, live, last_epoch, nonce, sent_in}
use Rattle.detector.specs.Slots.{probe_in, at_nonce}

-- What is kept: the group, the generator of the nonces, and of each member that was watched at the last tick its pings.
pub record Kept : Type 0 where
  pub group : Group
  pub words : ChaCha
  pub probes : List Probe

-- The latest pings in so many slots, of which the others are empty.
abbrev pub slots_of : ℕ → List Ping → List (Option Ping)
slots_of zero pings = []
slots_of (suc n) [] = None ∷ slots_of n []
slots_of (suc n) (p ∷ pings) = Some p ∷ slots_of n pings

-- The slots of a member that was watched with this epoch at the last tick.
abbrev pub probe_after : History → ℕ → ℕ → Probe
probe_after h m epoch = record { member = m; epoch = epoch; slots = slots_of 16 (live h.misses h.happened m epoch) }

-- What is kept stands for the history, wherever its nonces come from.
pub record StandsFor (k : Kept) (h : History) : Type 0 where
  pub misses_same : h.misses ≡ k.group.misses
  pub each : (m : ℕ) → probe_in k.probes m ≡ option_map (probe_after h m) (last_epoch h.happened m)

-- It stands for the history, whose nonces are those of a seed, and the generator has the next of these.
pub record DrawsFor (k : Kept) (h : History) : Type 0 where
  pub stands : StandsFor k h
  pub seed : List ℕ
  pub source : h.nonces ≡ nonce seed
  pub words_next : k.words ≡ at_nonce seed (sent_in h.happened)

-- Few rings, few misses, and room for whoever is watched.
pub record IsReady (group : Group) (watched probes spare : ℕ) : Type 0 where
  pub rings : group.t ≤ MAX_TOLERANCE
  pub misses : group.misses ≤ 16
  pub watched_room : WATCHED ≤ watched
  pub probes_room : WATCHED ≤ probes
  pub spare_room : WATCHED ≤ spare

-- What a tick finds: the silent, and the pings to send, each to a member with its nonce.
pub record Findings : Type 0 where
  pub silent : List ℕ
  pub pings : List (ℕ × ℕ)

abbrev pub nothing_found : Findings
nothing_found = record { silent = []; pings = [] }

pub record HasRoom (silent pings : ℕ) : Type 0 where
  pub silent_room : WATCHED ≤ silent
  pub pings_room : WATCHED ≤ pings
