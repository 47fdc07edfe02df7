-- A source and a sink in memory: the exact answer of each call, and what stands after it.
use Rattle.std.specs.Prelude.{ℕ, ◌-◌, ◌==◌, min, Bool, false, List, ◌++◌, length, take, drop, if◌then◌else◌}
use Rattle.std.specs.List.{list_any}
use Rattle.ports.specs.declared.Taken.{Taken}
use Rattle.ports.specs.declared.Taken.TheVariants.{Got, End, Failed}
use Rattle.ports.specs.declared.Given as given
use Rattle.ports.specs.Count.{next_count}

-- the call of this number is to fail
abbrev pub is_failing : List ℕ → ℕ → Bool
is_failing failing call = list_any (λ number. number == call) failing

-- what a source in memory holds: whether it may be read, the bytes left, the most that a call moves, the
-- numbers of the calls that fail, how many calls came, and how many failed
pub record SourceState : Type 0 where
  pub is_open : Bool
  pub unread : List ℕ
  pub step : ℕ
  pub failing : List ℕ
  pub calls : ℕ
  pub failures : ℕ

-- a read of a buffer of this length: it fails at the numbers that were given, else ends where no byte
-- is left, and else gives as many as the step, the buffer and the bytes left allow
abbrev pub read_answer : SourceState → ℕ → Taken
read_answer source size =
    if is_failing source.failing source.calls then Failed
    else (if length source.unread == 0 then End
    else Got (min source.step (min size (length source.unread))))

-- the source after that answer
abbrev pub after_read : SourceState → Taken → SourceState
after_read source (Got n) =
    record source { unread = drop n source.unread; calls = next_count source.calls }
after_read source End = record source { is_open = false; calls = next_count source.calls }
after_read source Failed =
    record source { is_open = false; calls = next_count source.calls; failures = next_count source.failures }

-- the buffer after that answer
abbrev pub filled : SourceState → List ℕ → Taken → List ℕ
filled source buffer (Got n) = take n source.unread ++ drop n buffer
filled source buffer End = buffer
filled source buffer Failed = buffer

-- what a sink in memory holds: whether it may be written to, the bytes taken, how many it has room for,
-- the most that a call moves, the numbers of the calls that fail, how many calls came, and how many failed
pub record SinkState : Type 0 where
  pub is_open : Bool
  pub written : List ℕ
  pub room : ℕ
  pub step : ℕ
  pub failing : List ℕ
  pub calls : ℕ
  pub failures : ℕ

-- how many bytes of a piece of this length fit, in one call
abbrev pub fitting : SinkState → ℕ → ℕ
fitting sink size = min sink.step (min size (sink.room - length sink.written))

-- a write of a piece of this length: it fails at the numbers that were given, and where the piece has
-- bytes and none fits; else it takes as many as the step, the piece and the room left allow
abbrev pub write_answer : SinkState → ℕ → given.Given
write_answer sink size =
    if is_failing sink.failing sink.calls then given.TheVariants.Failed
    else (if size == 0 then given.TheVariants.Took 0
    else (if fitting sink size == 0 then given.TheVariants.Failed
    else given.TheVariants.Took (fitting sink size)))

-- the sink after that answer to the piece
abbrev pub after_write : SinkState → List ℕ → given.Given → SinkState
after_write sink piece (given.TheVariants.Took n) =
    record sink { written = sink.written ++ take n piece; calls = next_count sink.calls }
after_write sink piece given.TheVariants.Failed =
    record sink { is_open = false; calls = next_count sink.calls; failures = next_count sink.failures }
