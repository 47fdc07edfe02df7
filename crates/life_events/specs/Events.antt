-- Texts of events and of member lists. A number is its decimal digits, and words are parted by one space.
use Rattle.std.specs.Prelude.{ℕ, List, [], ◌∷◌, ◌++◌, codes, decimal}
use Rattle.std.specs.List.{join_by}
use Rattle.ff_ids.specs.Texts.{accusation_text}
use Rattle.life_events.specs.declared.event.Event.{Event}
use Rattle.life_events.specs.declared.event.What.{What}
use Rattle.life_events.specs.declared.event.What.TheVariants as kinds

-- How an event of a life is written, without its moment.
abbrev pub what_text : What → List ℕ
what_text (kinds.Entered m) = codes "entered " ++ decimal m
what_text (kinds.Expired a) = codes "expired " ++ accusation_text a
what_text (kinds.Removed m) = codes "removed " ++ decimal m
what_text (kinds.Fell a) = codes "fell " ++ accusation_text a

-- The moment, and what happened then. No line feed ends it.
abbrev pub event_text : Event → List ℕ
event_text e = codes "at " ++ decimal e.moment ++ codes " " ++ what_text e.what

-- The numbers in the order of the list, or the word for no number at all.
abbrev pub members_text : List ℕ → List ℕ
members_text [] = codes "nobody"
members_text (m ∷ members) = join_by decimal (codes " ") (m ∷ members)
