-- A life's probes: the pings that are kept and judged, the pongs that answer them, and who is silent.
use Rattle.std.specs.Prelude.{◌≡◌, ℕ, ◌+◌, ◌*◌, ◌%◌, ◌^◌, Bool, true, false, ◌&&◌, not, ◌==◌, if◌then◌else◌, List, [], ◌∷◌, ◌++◌, Option, Some, None, map, filter, find, take, drop, length}
use Rattle.std.specs.List.{list_all, list_any}
use Rattle.std.specs.Option.{option_map, option_map_or}
use Rattle.ff_ids.specs.declared.Group.{Group}
use Rattle.ff_ids.specs.Views.{is_number}
use Rattle.rand_chacha.specs.ChaCha.{word_at, key_of}
use Rattle.detector.specs.declared.watch.Watched.{Watched}
use Rattle.detector.specs.declared.probe.Ping.{Ping}

-- What may happen to a life's probes: a tick at which these were watched and these pings were sent, each to a number
-- with a nonce; or a pong.
pub data Happening : Type 0 where
  Ticked : (watched : List Watched) (pings : List (ℕ × ℕ)) → Happening
  Ponged : (sender nonce : ℕ) → Happening

-- How many pings in a row make a member silent, the source of the nonces, which has one for each number from 0, and what
-- has happened, the latest first.
pub record History : Type 0 where
  pub misses : ℕ
  pub nonces : ℕ → ℕ
  pub happened : List Happening

abbrev pub opening : Group → (ℕ → ℕ) → History
opening group nonces = record { misses = group.misses; nonces = nonces; happened = [] }

-- The epoch of the newest note with which m is among the watched.
abbrev pub epoch_in : List Watched → ℕ → Option ℕ
epoch_in watched m = option_map (λ w. w.epoch) (find (λ w. w.member == m) watched)

-- The same at the last tick.
abbrev pub last_epoch : List Happening → ℕ → Option ℕ
last_epoch [] m = None
last_epoch (Ponged sender nonce ∷ before) m = last_epoch before m
last_epoch (Ticked watched pings ∷ before) m = epoch_in watched m

-- A ping that was sent just now, in front of the earlier ones.
abbrev pub with_sent : Option (ℕ × ℕ) → List Ping → List Ping
with_sent None earlier = earlier
with_sent (Some sent) earlier = record { nonce = sent.1; answered = false } ∷ earlier

abbrev pub answered_by : ℕ → Ping → Ping
answered_by nonce p = if p.nonce == nonce then record p { answered = true } else p

-- A pong answers all pings with its nonce among the latest so many.
abbrev pub with_answer : ℕ → ℕ → List Ping → List Ping
with_answer misses nonce pings = map (answered_by nonce) (take misses pings) ++ drop misses pings

-- The pings to m that are live where m is watched with this epoch, the latest first: those that were sent at the
-- latest ticks, as far back as m was watched with it at each.
abbrev pub live : ℕ → List Happening → ℕ → ℕ → List Ping
live misses [] m epoch = []
live misses (Ponged sender nonce ∷ before) m epoch =
    if m == sender then with_answer misses nonce (live misses before m epoch) else live misses before m epoch
live misses (Ticked watched pings ∷ before) m epoch =
    if is_number (epoch_in watched m) epoch then with_sent (find (λ p. p.0 == m) pings) (live misses before m epoch) else []

-- The pings to m that are kept after the last tick.
abbrev pub kept : History → ℕ → List Ping
kept h m = option_map_or (λ epoch. take h.misses (live h.misses h.happened m epoch)) (last_epoch h.happened m) []

-- A pong counts where a kept ping to its sender has its nonce.
abbrev pub counts : History → ℕ → ℕ → Bool
counts h sender nonce = list_any (λ p. p.nonce == nonce) (kept h sender)

-- The pings that are judged at the next tick, where this is one of the watched: the latest of the live ones.
abbrev pub judged : History → Watched → List Ping
judged h w = take h.misses (live h.misses h.happened w.member w.epoch)

-- As many pings as make a member silent are judged, and none of them is answered.
abbrev pub is_silent : History → Watched → Bool
is_silent h w = (length (judged h w) == h.misses) && list_all (λ p. not p.answered) (judged h w)

-- The silent at the next tick, at which these are watched.
abbrev pub silent : History → List Watched → List ℕ
silent h watched = map (λ w. w.member) (filter (is_silent h) watched)

-- The word at a place of the generator's stream, which repeats after 2^68 words.
abbrev pub word : List ℕ → ℕ → ℕ
word seed place = word_at 10 (key_of seed) 0 (place % 2 ^ 68)

-- The source of a seed: each of its nonces, from 0, is two words, the upper one first.
unfoldable pub nonce : List ℕ → ℕ → ℕ
nonce seed k = word seed (2 * k) * 2 ^ 32 + word seed (2 * k + 1)

-- How many pings were sent.
abbrev pub sent_in : List Happening → ℕ
sent_in [] = 0
sent_in (Ponged sender nonce ∷ before) = sent_in before
sent_in (Ticked watched pings ∷ before) = length pings + sent_in before

-- One ping to each with the next nonces of a source, of which the first is the k-th.
abbrev pub pings_from : (ℕ → ℕ) → ℕ → List Watched → List (ℕ × ℕ)
pings_from nonces k [] = []
pings_from nonces k (w ∷ watched) = (w.member, nonces k) ∷ pings_from nonces (k + 1) watched

-- The pings of the next tick, at which these are watched: where it is due, one to each.
abbrev pub pings : History → Bool → List Watched → List (ℕ × ℕ)
pings h due watched = if due then pings_from h.nonces (sent_in h.happened) watched else []

-- A tick at which these were watched and these pings were sent, whatever their nonces.
abbrev pub ticked_with : History → List Watched → List (ℕ × ℕ) → History
ticked_with h watched sent = record h { happened = Ticked watched sent ∷ h.happened }

abbrev pub ticked : History → Bool → List Watched → History
ticked h due watched = ticked_with h watched (pings h due watched)

abbrev pub ponged : History → ℕ → ℕ → History
ponged h sender nonce = record h { happened = Ponged sender nonce ∷ h.happened }

-- One ping to each of these, in order.
abbrev pub AreTo : List Watched → List (ℕ × ℕ) → Type 0
AreTo watched sent = map (λ p. p.0) sent ≡ map (λ w. w.member) watched

-- ---- pings whose nonces are learned behind their tick

abbrev pub is_pinged : ℕ → List (ℕ × ℕ) → Bool
is_pinged m sent = list_any (λ p. p.0 == m) sent

-- The pings, of which that to m has this nonce.
abbrev pub with_nonce : ℕ → ℕ → List (ℕ × ℕ) → List (ℕ × ℕ)
with_nonce m nonce sent = map (λ p. if p.0 == m then (p.0, nonce) else p) sent

-- The pings, of which those to the members of these have their nonces, one after the other.
abbrev pub with_nonces : List (ℕ × ℕ) → List (ℕ × ℕ) → List (ℕ × ℕ)
with_nonces [] sent = sent
with_nonces (p ∷ learned) sent = with_nonces learned (with_nonce p.0 p.1 sent)
