-- What a detector keeps of its history, which is far less: of each watched member the last pings, in slots.
use Rattle.std.specs.Prelude.{ℕ, ◌+◌, ◌*◌, ◌%◌, ◌^◌, Bool, false, not, ◌==◌, if◌then◌else◌, List, [], ◌∷◌, ◌++◌, Option, Some, None, map, find, take, drop, replicate}
use Rattle.std.specs.List.{list_all, list_any}
use Rattle.std.specs.Option.{option_map, option_map_or}
use Rattle.rand_chacha.specs.ChaCha.{ChaCha, word_at, key_of}
use Rattle.detector.specs.declared.watch.Watched.{Watched}
use Rattle.detector.specs.declared.probe.Ping.{Ping}
use Rattle.detector.specs.declared.probe.Probe.{Probe}
use Rattle.detector.specs.Silence.{answered_by}

-- ---- one slot, which is empty or has a ping

-- There is an unanswered ping.
abbrev pub is_missed : Option Ping → Bool
is_missed slot = option_map_or (λ p. not p.answered) slot false

abbrev pub has_nonce : ℕ → Option Ping → Bool
has_nonce nonce slot = option_map_or (λ p. p.nonce == nonce) slot false

abbrev pub slot_answered : ℕ → Option Ping → Option Ping
slot_answered nonce slot = option_map (answered_by nonce) slot

-- ---- one member

-- The member without a ping.
abbrev pub blank : Watched → Probe
blank w = record { member = w.member; epoch = w.epoch; slots = replicate 16 None }

abbrev pub with_ping : ℕ → Probe → Probe
with_ping nonce p = record p { slots = Some (record { nonce = nonce; answered = false }) ∷ take 15 p.slots }

abbrev pub all_missed : ℕ → Probe → Bool
all_missed misses p = list_all is_missed (take misses p.slots)

abbrev pub probe_has : ℕ → ℕ → Probe → Bool
probe_has misses nonce p = list_any (has_nonce nonce) (take misses p.slots)

abbrev pub probe_answered : ℕ → ℕ → Probe → Probe
probe_answered misses nonce p = record p { slots = map (slot_answered nonce) (take misses p.slots) ++ drop misses p.slots }

-- The ping with this nonce, answered as it was.
abbrev pub ping_nonced : ℕ → Ping → Ping
ping_nonced nonce p = record p { nonce = nonce }

abbrev pub slot_nonced : ℕ → Option Ping → Option Ping
slot_nonced nonce slot = option_map (ping_nonced nonce) slot

-- The latest ping, if there is one, with this nonce.
abbrev pub first_nonced : ℕ → List (Option Ping) → List (Option Ping)
first_nonced nonce [] = []
first_nonced nonce (slot ∷ slots) = slot_nonced nonce slot ∷ slots

abbrev pub probe_nonced : ℕ → Probe → Probe
probe_nonced nonce p = record p { slots = first_nonced nonce p.slots }

-- ---- all members

abbrev pub probe_in : List Probe → ℕ → Option Probe
probe_in probes m = find (λ p. p.member == m) probes

-- What was kept of the member where that was at this epoch, else nothing.
abbrev pub carried : Option Probe → Watched → Probe
carried None w = blank w
carried (Some p) w = if p.epoch == w.epoch then p else blank w

abbrev pub carried_all : List Probe → List Watched → List Probe
carried_all probes watched = map (λ w. carried (probe_in probes w.member) w) watched

abbrev pub answered_where : ℕ → ℕ → ℕ → Probe → Probe
answered_where misses sender nonce p = if p.member == sender then probe_answered misses nonce p else p

abbrev pub nonced_where : ℕ → ℕ → Probe → Probe
nonced_where m nonce p = if p.member == m then probe_nonced nonce p else p

-- ---- nonces

-- The generator where its next two words are those of the k-th nonce.
abbrev pub at_nonce : List ℕ → ℕ → ChaCha
at_nonce seed k = record { key = key_of seed; stream = 0; word_pos = 2 * k % 2 ^ 68 }

-- The nonce of the next two words, the upper first.
abbrev pub nonce_of : ChaCha → ℕ
nonce_of g = word_at 10 g.key g.stream g.word_pos * 2 ^ 32 + word_at 10 g.key g.stream ((g.word_pos + 1) % 2 ^ 68)

abbrev pub after_nonce : ChaCha → ChaCha
after_nonce g = record g { word_pos = ((g.word_pos + 1) % 2 ^ 68 + 1) % 2 ^ 68 }

-- Each with one more ping, and the pings.
abbrev pub with_pings : ChaCha → List Probe → List Probe
with_pings g [] = []
with_pings g (p ∷ probes) = with_ping (nonce_of g) p ∷ with_pings (after_nonce g) probes

abbrev pub pings_with : ChaCha → List Probe → List (ℕ × ℕ)
pings_with g [] = []
pings_with g (p ∷ probes) = (p.member, nonce_of g) ∷ pings_with (after_nonce g) probes

abbrev pub after_nonces : ChaCha → List Probe → ChaCha
after_nonces g [] = g
after_nonces g (p ∷ probes) = after_nonces (after_nonce g) probes
