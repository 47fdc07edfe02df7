-- What is reported as handed over, and that flows take each datagram once, in order.
use Rattle.std.specs.Prelude.{◌≡◌, ℕ, ◌+◌, ◌<◌, ◌≤◌, Bool, true, false, if◌then◌else◌, List, [], length, Option, Some, None, Ok, filter_map, flat_map, map}
use Rattle.std.specs.List.{AllByRecursion, slice_get}
use Rattle.signer.specs.Lives.{IsRising}
use Rattle.journal.specs.declared.event.What as whats
use Rattle.journal.specs.declared.event.What.TheVariants as happened
use Rattle.schedule_world.specs.declared.line.WorldLine.{WorldLine}
use Rattle.schedule_world.specs.declared.line.WorldLine.TheVariants as lines
use Rattle.world_rules.specs.Settings.{Setting}
use Rattle.world_rules.specs.Worlds.{World}
use Rattle.world_rules.specs.Steps.{Answer, NodeEvent, step}
use Rattle.world_rules.specs.Walk.{Taken}
use Rattle.world_rules.specs.Laws.{Reached}

-- Which datagram is reported as handed over, by its number, and to whom.
pub record Handed : Type 0 where
  pub who : ℕ
  pub number : ℕ

abbrev pub got_in : ℕ → whats.What → Option Handed
got_in who (happened.Got number) = Some (record { who = who; number = number })
got_in who what = None

abbrev pub handed_over : List NodeEvent → List Handed
handed_over told = filter_map (λ t. got_in t.who t.event.what) told

abbrev pub numbers_of : List Handed → List ℕ
numbers_of handed = map (λ h. h.number) handed

-- The datagram was sent.
abbrev pub IsSent : World → Handed → Type 0
IsSent w h = h.number < length w.sent

-- It was sent to this member.
pub record IsSentThere (w : World) (h : Handed) : Type 0 where
  pub bytes : List ℕ
  pub sent : slice_get w.sent h.number ≡ Some (h.who, bytes)

-- Whatever is reported as handed over was sent, and flows took no more datagrams than were sent.
pub record HandsOverSent (w : World) (told : List NodeEvent) : Type 0 where
  pub sent : AllByRecursion (IsSent w) (handed_over told)
  pub flowed : w.flowed ≤ length w.sent

abbrev pub OnlySentIsHandedOver : Type 0
OnlySentIsHandedOver = (s : Setting) (w : World) (told : List NodeEvent) → Reached s w told → HandsOverSent w told

-- ---- flows

-- A flow of at most so many takes datagrams from the first that none has taken, one after another: as many, or all that
-- were sent, also meanwhile. What it hands over is among these, in order, each to its addressee.
pub record FlowsOn (most : ℕ) (w v : World) (told : List NodeEvent) : Type 0 where
  pub taken : ℕ
  pub until : v.flowed ≡ w.flowed + taken
  pub few : taken ≤ most
  pub all : taken < most → length v.sent ≤ v.flowed
  pub rise : IsRising (numbers_of (handed_over told))
  pub among : AllByRecursion (λ h. (w.flowed ≤ h.number) × (h.number < v.flowed)) (handed_over told)
  pub there : AllByRecursion (IsSentThere v) (handed_over told)

-- No other line takes any.
abbrev pub is_flow : WorldLine → Bool
is_flow (lines.Flow most) = true
is_flow line = false

abbrev pub FlowsGoOn : Type 0
FlowsGoOn = (s : Setting) (w : World) (most : ℕ) (a : Answer) → step s w (lines.Flow most) ≡ Ok a → FlowsOn most w a.world a.told

abbrev pub OthersTakeNone : Type 0
OthersTakeNone = (s : Setting) (w : World) (line : WorldLine) (a : Answer) → is_flow line ≡ false → step s w line ≡ Ok a → a.world.flowed ≡ w.flowed

-- The numbers of the datagrams that the flows among these lines hand over.
abbrev pub flowed_by : Taken → List ℕ
flowed_by t = if is_flow t.line then numbers_of (handed_over t.brought.told) else []

-- The numbers of the datagrams that the flows among these lines handed over, in order.
abbrev pub flowed_in : List Taken → List ℕ
flowed_in taken = flat_map flowed_by taken
