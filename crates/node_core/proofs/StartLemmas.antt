-- What the store keeps as a life begins.
use Rattle.std.proofs.Common.{◌≡◌, ℕ, List, [], ◌∷◌, refl, ap, ◌∙◌}
use Rattle.std.specs.Prelude.{fold}
use Rattle.records.specs.declared.Body.{Body}
use Rattle.records.specs.declared.Record.{Record}
use Rattle.epoch_store.specs.declared.Stored.{Stored}
use Rattle.signer.specs.Signing.{stored_after}
use Rattle.node_rules.specs.Nodes.{Setting}
use Rattle.node_rules.specs.Calls.{Call, begun, lives, signs, takes}
use Rattle.node_rules.specs.Starting.{blank, first_note, opened, started}
use Rattle.node_core.specs.OnDisks.{kept_first}
use Rattle.node_core.proofs.BeginLemmas.{started-is}

takes-stored : (s : Setting) (r : Record) (c : Call) → (takes s r c).node.stored ≡ c.node.stored
unfolding takes lives
takes-stored s r c = refl

all-stored : (s : Setting) (certificates : List Record) (c : Call) → (fold (λ (c : Call) r. takes s r c) c certificates).node.stored ≡ c.node.stored
all-stored s [] c = refl
all-stored s (r ∷ certificates) c = all-stored s certificates (takes s r c) ∙ takes-stored s r c

signs-stored : (s : Setting) (b : Body) (c : Call) → (signs s b c).node.stored ≡ stored_after c.node.stored b
unfolding signs takes lives
signs-stored s b c = refl

-- the life that starts keeps what its first note leaves
pub started-stored : (s : Setting) (nonces : ℕ → ℕ) (certificates : List Record) (stored : Stored) → (started s nonces certificates stored).node.stored ≡ kept_first s.group.t s.me stored
started-stored s nonces certificates stored =
    ap (λ (c : Call). c.node.stored) (started-is s nonces certificates stored)
    ∙ signs-stored s (first_note s stored) (opened s nonces certificates stored)
    ∙ ap (λ (k : Stored). stored_after k (first_note s stored)) (all-stored s certificates (begun (blank s nonces stored)))
