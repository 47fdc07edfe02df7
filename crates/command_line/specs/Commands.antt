-- The commands: which words name them.
use Rattle.std.specs.Prelude.{ℕ, ◌≤◌, ◌^◌, ◌-◌, Bool, true, false, ◌&&◌, not, ◌==◌, nat_le, List, [], ◌∷◌, length, Option, Some, None, codes, if◌then◌else◌}
use Rattle.std.specs.Str.{bytes_eq}
use Rattle.line_text.specs.declared.bad_word.BadWord.{BadWord}
use Rattle.line_text.specs.Fields.{number, number_in}
use Rattle.line_text.specs.Frame.{first_word}
use Rattle.line_text.specs.Words.{words_of}
use Rattle.command_line.specs.declared.command.Command.{Command}
use Rattle.command_line.specs.declared.command.Command.TheVariants.{Replay, Verify, Store, Enroll, Migrate, Node, Soak}

abbrev pub command_named : List ℕ → Option Command
command_named word =
    if bytes_eq word (codes "replay") then Some Replay
    else (if bytes_eq word (codes "verify") then Some Verify else None)

abbrev pub command_with : List ℕ → Option Command
command_with word =
    if bytes_eq word (codes "store") then Some Store
    else (if bytes_eq word (codes "enroll") then Some Enroll
    else (if bytes_eq word (codes "migrate") then Some Migrate else None))

-- a number that no word is bad for
abbrev pub unless_bad : Option BadWord → ℕ → Option ℕ
unless_bad None n = Some n
unless_bad (Some bad) n = None

abbrev pub number_among : ℕ → ℕ → Option (List (List ℕ)) → Option ℕ
number_among least most None = None
number_among least most (Some words) = if length words == 1 then unless_bad (number least most (first_word words)) (number_in (first_word words)) else None

-- The number that a word spells, from the least to the most: it is one word, without a space, and decimal digits without a
-- leading zero.
abbrev pub spelled_in : ℕ → ℕ → List ℕ → Option ℕ
spelled_in least most word = number_among least most (words_of word)

-- The turns that a word spells, from 1 to 1,000,000.
abbrev pub turns_in : List ℕ → Option ℕ
turns_in word = spelled_in 1 1000000 word

abbrev pub command_for : Bool → Option ℕ → Option Command
command_for leave None = None
command_for leave (Some turns) = Some (Node (record { turns = turns; leave = leave }))

abbrev pub command_over : List ℕ → List ℕ → Option Command
command_over word turns = if bytes_eq word (codes "node") then command_for false (turns_in turns) else None

-- so many turns, and behind them the word `leave`
abbrev pub command_leaving : List ℕ → List ℕ → Option Command
command_leaving turns last = if bytes_eq last (codes "leave") then command_for true (turns_in turns) else None

abbrev pub command_for_soak : Option ℕ → Option ℕ → Option ℕ → Option Command
command_for_soak (Some seed) (Some members) (Some rounds) = Some (Soak seed members rounds)
command_for_soak (Some seed) (Some members) None = None
command_for_soak (Some seed) None rounds = None
command_for_soak None members rounds = None

-- A seed is any number of 64 bits; there are 3 to 32 members, and 1 to 1,000 rounds.
abbrev pub command_drawn : List ℕ → List ℕ → List ℕ → List ℕ → Option Command
command_drawn word seed members rounds =
    if bytes_eq word (codes "soak") then command_for_soak (spelled_in 0 (2 ^ 64 - 1) seed) (spelled_in 3 32 members) (spelled_in 1 1000 rounds) else None

-- the name of a store has 1 to 255 bytes
abbrev pub is_store_name : List ℕ → Bool
is_store_name name = not (length name == 0) && nat_le (length name) 255

-- Three words behind the first: for `node` the name of a store, a number of turns and `leave`, else what a workload is drawn from.
abbrev pub command_behind : List ℕ → List ℕ → List ℕ → List ℕ → Option Command
command_behind word one two three =
    if bytes_eq word (codes "node") then (if is_store_name one then command_leaving two three else None) else command_drawn word one two three

-- The command is one word, alone; or one behind which the name of a store stands, and for `node` a number of turns, with or without
-- the word `leave`; or `soak`, with what its workload is drawn from.
abbrev pub command_of : List (List ℕ) → Option Command
command_of [] = None
command_of (word ∷ []) = command_named word
command_of (word ∷ name ∷ []) = if is_store_name name then command_with word else None
command_of (word ∷ name ∷ turns ∷ []) = if is_store_name name then command_over word turns else None
command_of (word ∷ one ∷ two ∷ three ∷ []) = command_behind word one two three
command_of (word ∷ one ∷ two ∷ three ∷ other ∷ words) = None

-- of four words, those of `node` have one
abbrev pub store_behind : List ℕ → List ℕ → List ℕ
store_behind word name = if bytes_eq word (codes "node") then name else []

-- the name of the store
abbrev pub store_in : List (List ℕ) → List ℕ
store_in [] = []
store_in (word ∷ []) = []
store_in (word ∷ name ∷ []) = name
store_in (word ∷ name ∷ turns ∷ []) = name
store_in (word ∷ name ∷ turns ∷ last ∷ []) = store_behind word name
store_in (word ∷ name ∷ turns ∷ last ∷ other ∷ words) = []

-- the command takes a store
abbrev pub takes_store : Command → Bool
takes_store Replay = false
takes_store Verify = false
takes_store Store = true
takes_store Enroll = true
takes_store Migrate = true
takes_store (Node stay) = true
takes_store (Soak seed members rounds) = false

abbrev pub is_over_store : Option Command → Bool
is_over_store None = false
is_over_store (Some command) = takes_store command

-- the command serves a link by a clock
abbrev pub takes_link : Command → Bool
takes_link (Node stay) = true
takes_link other = false

abbrev pub is_over_link : Option Command → Bool
is_over_link None = false
is_over_link (Some command) = takes_link command

-- the command reads a text
abbrev pub takes_text : Command → Bool
takes_text (Soak seed members rounds) = false
takes_text other = true

abbrev pub is_over_text : Option Command → Bool
is_over_text None = false
is_over_text (Some command) = takes_text command

-- The numbers of a command are in their ranges.
abbrev pub FitsCommand : Command → Type 0
FitsCommand (Soak seed members rounds) = ((3 ≤ members) × (members ≤ 32)) × ((1 ≤ rounds) × (rounds ≤ 1000))
FitsCommand other = Unit {0}
