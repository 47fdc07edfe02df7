-- The journal of a life that is served is that of the turns which its link and its clock bring.
use Rattle.std.specs.Prelude.{◌≡◌, ℕ, ◌+◌, Bool, List, length}
use Rattle.ports.specs.Link.{LinkState}
use Rattle.ports.specs.Memory.{is_failing}
use Rattle.node_rules.specs.Nodes.{Setting, Node}
use Rattle.turn_rules.specs.Turns.{AreTurns, acts_of}
use Rattle.turn_rules.specs.Lines.{bytes_of}
use Rattle.turn_rules.specs.Courses.{Course, course, course_from, number_of}
use Rattle.node_loop.specs.declared.turns.Pace.{Pace}
use Rattle.node_loop.specs.Turns.{life_acts, turns_brought}
use Rattle.node_loop.specs.Courses.{ServeState, served, served_from}

-- Those datagrams are lost whose sends the link fails, by how many the life has sent before.
abbrev pub lost_on : LinkState → ℕ → Bool
lost_on link sent = is_failing link.failing (length link.given + sent)

-- It has come to the same node, has sent as many, and has written those lines.
pub record IsOfCourse (r : ServeState) (c : Course) : Type 0 where
  pub node : r.node ≡ c.node
  pub sent : r.sent ≡ number_of c.sent
  pub text : r.text ≡ bytes_of c.lines

-- The turns are numbered from 1, none makes more than the most ticks, and the course of the life is theirs.
pub record IsOfTurns (s : Setting) (n : Node) (link : LinkState) (pace : Pace) (turns : ℕ) (leave : Bool) (reading : ℕ) (readings : List ℕ) : Type 0 where
  pub brought : AreTurns 1 (turns_brought pace turns link.coming reading readings)
  pub course : IsOfCourse (served s (life_acts pace turns leave link.coming reading readings) (served_from n link))
      (course s (lost_on link) (acts_of (turns_brought pace turns link.coming reading readings) leave) (course_from n))

abbrev pub JournalsAreOfTurns : Type 0
JournalsAreOfTurns = (s : Setting) (n : Node) (link : LinkState) (pace : Pace) (turns : ℕ) (leave : Bool) (reading : ℕ) (readings : List ℕ)
    → IsOfTurns s n link pace turns leave reading readings
