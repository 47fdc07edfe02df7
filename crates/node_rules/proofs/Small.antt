-- What the small steps of a call leave as it was.
use Rattle.std.proofs.Common.{◌≡◌, ℕ, List, [], ◌∷◌, ◌++◌, Option, Some, None, refl, ap, ◌∙◌}
use Rattle.ff_ids.specs.declared.Fault.{Fault}
use Rattle.ff_ids.specs.declared.Group.{Group}
use Rattle.ff_ids.specs.Views.{State}
use Rattle.ff_ids.specs.Steps.{Event, step}
use Rattle.ff_ids.specs.Lives.{opening, after}
use Rattle.datagram.specs.declared.Datagram.{Datagram}
use Rattle.datagram.specs.declared.Datagram.TheVariants as kinds
use Rattle.records.specs.declared.Body.{Body}
use Rattle.records.specs.declared.Record.{Record}
use Rattle.signer.specs.Signing.{stored_after}
use Rattle.journal.specs.declared.event.What.TheVariants as told
use Rattle.node_rules.specs.Nodes.{Setting, Node, state_of, event_of, neighbours}
use Rattle.node_rules.specs.Calls.{Call, tells, lives, takes, signs, sends, sends_to_all}
use Rattle.node_rules.specs.Deliveries.{settles}
use Rattle.node_rules.specs.Ticking.{fresh, spreads_all, spreads}

pub after-push : (g : Group) (st : State) (events : List Event) (e : Event) → after g st (events ++ e ∷ []) ≡ (step g (after g st events) e).state
after-push g st [] e = refl
after-push g st (x ∷ events) e = after-push g (step g st x).state events e

pub state_of-lives : (s : Setting) (e : Event) (c : Call) → state_of s (lives s e c).node ≡ (step s.group (state_of s c.node) e).state
unfolding state_of lives
state_of-lives s e c = after-push s.group (opening []) c.node.lived e

pub node-sends : (s : Setting) (d : Datagram) (c : Call) (to : ℕ) → (sends s d c to).node ≡ c.node
unfolding sends
node-sends s d c to = refl

pub node-sends_to_all : (s : Setting) (addressees : List ℕ) (d : Datagram) (c : Call) → (sends_to_all s addressees d c).node ≡ c.node
node-sends_to_all s [] d c = refl
node-sends_to_all s (to ∷ addressees) d c = node-sends_to_all s addressees d (sends s d c to) ∙ node-sends s d c to

pub node-spreads_all : (s : Setting) (records : List Record) (c : Call) → (spreads_all s records c).node ≡ c.node
node-spreads_all s [] c = refl
node-spreads_all s (r ∷ records) c = node-sends_to_all s (neighbours s (state_of s c.node)) (kinds.Records s.me (r ∷ records)) c

-- news is no more once it has gone out, and nothing else changes
pub node-spreads : (s : Setting) (c : Call) → (spreads s c).node ≡ record c.node { news = [] }
unfolding spreads
node-spreads s c = ap (λ (n : Node). record n { news = [] }) (node-spreads_all s (fresh c.node) c)

pub state-spreads : (s : Setting) (c : Call) → state_of s (spreads s c).node ≡ state_of s c.node
unfolding state_of
state-spreads s c = ap (λ (n : Node). after s.group (opening []) n.lived) (node-spreads s c)

pub stored-spreads : (s : Setting) (c : Call) → (spreads s c).node.stored ≡ c.node.stored
stored-spreads s c = ap (λ (n : Node). n.stored) (node-spreads s c)

pub state-takes : (s : Setting) (r : Record) (c : Call) → state_of s (takes s r c).node ≡ (step s.group (state_of s c.node) (event_of s r.body)).state
unfolding takes state_of lives
state-takes s r c = after-push s.group (opening []) c.node.lived (event_of s r.body)

pub stored-takes : (s : Setting) (r : Record) (c : Call) → (takes s r c).node.stored ≡ c.node.stored
unfolding takes lives
stored-takes s r c = refl

pub stored-settles : (s : Setting) (f : Option Fault) (r : Record) (c : Call) → (settles s f r c).node.stored ≡ c.node.stored
stored-settles s (Some f) r c = refl
stored-settles s None r c = stored-takes s r (tells s (told.Took r.body None) c)

pub state-signs : (s : Setting) (body : Body) (c : Call) → state_of s (signs s body c).node ≡ (step s.group (state_of s c.node) (event_of s body)).state
unfolding signs takes state_of lives
state-signs s body c = after-push s.group (opening []) c.node.lived (event_of s body)

pub stored-signs : (s : Setting) (body : Body) (c : Call) → (signs s body c).node.stored ≡ stored_after c.node.stored body
unfolding signs takes lives
stored-signs s body c = refl
