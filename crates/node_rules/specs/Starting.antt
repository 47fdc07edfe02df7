-- How a life begins.
use Rattle.std.specs.Prelude.{ℕ, ◌+◌, Bool, not, ◌==◌, List, [], fold}
use Rattle.records.specs.declared.Body.{Body}
use Rattle.records.specs.declared.Body.TheVariants.{Note}
use Rattle.records.specs.declared.Record.{Record}
use Rattle.epoch_store.specs.declared.Stored.{Stored}
use Rattle.node_rules.specs.Nodes.{Setting, Node, nothing_held}
use Rattle.detector.specs.Silence.{opening}
use Rattle.node_rules.specs.Replies.{first_mask}
use Rattle.node_rules.specs.Calls.{Call, begun, takes, signs}

-- A node with nothing but what its store keeps and the source of its nonces. Its first note comes before the first span.
abbrev pub blank : Setting → (ℕ → ℕ) → Stored → Node
blank s nonces stored =
    record {
      lived = [];
      held = nothing_held;
      stored = stored;
      probes = opening s.group nonces;
      news = [];
      since = stored.epoch + 1;
    }

-- It takes the certificates of its kit, in order.
abbrev pub opened : Setting → (ℕ → ℕ) → List Record → Stored → Call
opened s nonces certificates stored = fold (λ c r. takes s r c) (begun (blank s nonces stored)) certificates

-- Its first note has the epoch after the stored one.
abbrev pub first_note : Setting → Stored → Body
first_note s stored = Note (record { member = s.me; epoch = stored.epoch + 1; mask = record { 0 = first_mask s.group.t stored.mask.0 } })

-- A life is refused where the key is used up, and nothing is reported then.
abbrev pub may_start : Setting → Stored → Bool
may_start s stored = not (stored.next == s.indexes)

-- The first note is signed and accepted. Nothing is sent.
unfoldable pub started : Setting → (ℕ → ℕ) → List Record → Stored → Call
started s nonces certificates stored = signs s (first_note s stored) (opened s nonces certificates stored)
