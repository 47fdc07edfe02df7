-- The rules at work: worked lives, computed from the definitions alone.
use Rattle.std.proofs.Common.{◌≡◌, ℕ, Bool, true, false, List, [], ◌∷◌, Option, Some, None, refl, replicate}
use Rattle.ff_ids.specs.declared.Group.{Group}
use Rattle.ff_ids.specs.Views.{State, all_numbers, in_view_by}
use Rattle.ff_ids.specs.Steps.{Event, Joins, Notes}
use Rattle.ff_ids.specs.Lives as lives
use Rattle.rand_core.specs.Steps.{u32_at}
use Rattle.rand_chacha.specs.Block.{block_word, double_rounds, diagonal_round, quarter_round, column_round}
use Rattle.detector.specs.declared.watch.Watched.{Watched}
use Rattle.detector.specs.declared.probe.Ping.{Ping}
use Rattle.detector.specs.declared.probe.Probe.{Probe}
use Rattle.detector.specs.Slots.{nonced_where}
use Rattle.detector.specs.Silence.{Happening, Ticked, Ponged, History, silent, counts, nonce, pings, with_nonce, with_nonces}
use Rattle.detector.specs.Watching.{watched}

-- The first nonce of the seed of zeros is the first eight bytes of that key stream, each word read low byte first.
first_nonce : nonce (replicate 32 0) 0 ≡ 12529216982710350240
unfolding nonce block_word double_rounds diagonal_round quarter_round column_round u32_at
first_nonce = refl

-- Two pings in a row make a member silent.
abbrev life : List Happening → History
life happened = record { misses = 2; nonces = nonce []; happened = happened }

abbrev at : ℕ → ℕ → Watched
at m epoch = record { member = m; epoch = epoch }

abbrev both : List Watched
both = at 4 1 ∷ at 9 3 ∷ []

-- Members 4 and 9 are pinged twice, the latest first.
abbrev twice : List Happening
twice = Ticked both ((4, 12) ∷ (9, 13) ∷ []) ∷ Ticked both ((4, 10) ∷ (9, 11) ∷ []) ∷ []

-- One ping alone makes nobody silent, two do, and a pong to either makes its sender heard.
two_pings : (silent (life (Ticked both ((4, 10) ∷ (9, 11) ∷ []) ∷ [])) both ≡ [])
    × (silent (life twice) both ≡ 4 ∷ 9 ∷ [])
    × (silent (life (Ponged 4 10 ∷ twice)) both ≡ 9 ∷ [])
    × (silent (life (Ponged 9 13 ∷ Ponged 4 12 ∷ twice)) both ≡ [])
two_pings = (refl, refl, refl, refl)

-- A pong with the nonce of a ping to another member counts for nobody.
wrong_nonce : (counts (life twice) 4 11 ≡ false) × (counts (life twice) 4 10 ≡ true) × (silent (life (Ponged 4 11 ∷ twice)) both ≡ 4 ∷ 9 ∷ [])
wrong_nonce = (refl, refl, refl)

-- A third ping pushes the first one out: its pong counts no more, and one that counted is forgotten with it.
abbrev thrice : List Happening
thrice = Ticked both ((4, 14) ∷ (9, 15) ∷ []) ∷ Ponged 4 10 ∷ twice

pushed_out : (silent (life thrice) both ≡ 4 ∷ 9 ∷ []) × (counts (life thrice) 4 10 ≡ false) × (counts (life thrice) 4 12 ≡ true)
pushed_out = (refl, refl, refl)

-- A pong that comes again counts again while its ping is kept.
again : (counts (life (Ponged 4 10 ∷ twice)) 4 10 ≡ true) × (counts (life (Ticked both [] ∷ thrice)) 4 10 ≡ false)
again = (refl, refl)

-- A tick that isn't due keeps the pings of those watched, and forgets those of others, or of another epoch.
not_due : (silent (life (Ticked both [] ∷ twice)) both ≡ 4 ∷ 9 ∷ [])
    × (silent (life (Ticked (at 9 3 ∷ []) [] ∷ twice)) both ≡ 9 ∷ [])
    × (silent (life (Ticked (at 4 2 ∷ at 9 3 ∷ []) [] ∷ twice)) both ≡ 9 ∷ [])
    × (silent (life twice) (at 4 2 ∷ at 9 3 ∷ []) ≡ 9 ∷ [])
    × (counts (life (Ticked (at 9 3 ∷ []) [] ∷ twice)) 4 12 ≡ false)
not_due = (refl, refl, refl, refl, refl)

-- The pings of a due tick take the nonces on from those sent before.
next_nonces : (pings (life twice) true both ≡ (4, nonce [] 4) ∷ (9, nonce [] 5) ∷ []) × (pings (life twice) false both ≡ [])
next_nonces = (refl, refl)

-- Nonces that are learned behind a tick: each ping has its own, and a pong with one that was drawn counts no more.
abbrev learned : List (ℕ × ℕ)
learned = with_nonces ((4, 20) ∷ (9, 21) ∷ []) ((4, 12) ∷ (9, 13) ∷ [])

learned_behind : (with_nonce 9 21 ((4, 12) ∷ (9, 13) ∷ []) ≡ (4, 12) ∷ (9, 21) ∷ [])
    × (learned ≡ (4, 20) ∷ (9, 21) ∷ [])
    × (counts (life (Ticked both learned ∷ [])) 4 20 ≡ true)
    × (counts (life (Ticked both learned ∷ [])) 4 12 ≡ false)
    × (silent (life (Ponged 9 21 ∷ Ticked both learned ∷ Ticked both ((4, 10) ∷ (9, 11) ∷ []) ∷ [])) both ≡ 4 ∷ [])
learned_behind = (refl, refl, refl, refl, refl)

-- Of what is kept of a member its latest ping has it, and is answered as it was.
abbrev ping : ℕ → Bool → Option Ping
ping nonce answered = Some (record { nonce = nonce; answered = answered })

abbrev probe : ℕ → List (Option Ping) → Probe
probe m slots = record { member = m; epoch = 1; slots = slots }

latest_ping : (nonced_where 4 20 (probe 4 (ping 12 true ∷ ping 10 false ∷ None ∷ [])) ≡ probe 4 (ping 20 true ∷ ping 10 false ∷ None ∷ []))
    × (nonced_where 4 20 (probe 9 (ping 13 false ∷ [])) ≡ probe 9 (ping 13 false ∷ []))
    × (nonced_where 4 20 (probe 4 (None ∷ ping 10 false ∷ [])) ≡ probe 4 (None ∷ ping 10 false ∷ []))
latest_ping = (refl, refl, refl)

-- Members 1, 2 and 3 in this order on each ring: 1 watches 2, and 2 watches 3.
abbrev group : Group
group = record { tag = replicate 16 0; t = 1; timeout = 3; period = 1; misses = 1 }

abbrev joins : ℕ → ℕ → Event
joins number place = Joins number ((place ∷ []) ∷ (place ∷ []) ∷ (place ∷ []) ∷ [])

abbrev note : ℕ → ℕ → ℕ → Event
note member epoch mask = Notes (record { member = member; epoch = epoch; mask = record { 0 = mask } })

abbrev state_of : List Event → State
state_of events = lives.after group (lives.opening []) events

abbrev three : List Event
three = joins 1 10 ∷ joins 2 20 ∷ joins 3 30 ∷ note 1 1 7 ∷ note 2 5 6 ∷ note 3 1 7 ∷ []

watchers : (watched 1 (state_of three) 1 ≡ at 2 5 ∷ []) × (watched 1 (state_of three) 2 ≡ at 3 1 ∷ []) × (watched 1 (state_of three) 3 ≡ at 1 1 ∷ [])
unfolding all_numbers in_view_by
watchers = (refl, refl, refl)

-- Who isn't in the view watches nobody, and the one before it watches the next.
abbrev two : List Event
two = joins 1 10 ∷ joins 2 20 ∷ joins 3 30 ∷ note 1 1 7 ∷ note 3 1 7 ∷ []

out_of_view : (watched 1 (state_of two) 2 ≡ []) × (watched 1 (state_of two) 1 ≡ at 3 1 ∷ [])
unfolding all_numbers in_view_by
out_of_view = (refl, refl)
