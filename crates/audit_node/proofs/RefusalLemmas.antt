-- The first fault that the checks answer is the node's.
use Rattle.std.proofs.Common.{◌≡◌, ℕ, Option, ap, sym, ◌∙◌}
use Rattle.ff_ids.specs.declared.Fault.{Fault}
use Rattle.records.specs.declared.CertBody.{CertBody}
use Rattle.records.specs.declared.Record.{Record}
use Rattle.records.specs.declared.keys.Key.TheVariants as keys
use Rattle.validate.specs.Table.{first_fault, known_by, verifies_in}
use Rattle.node_rules.specs.Nodes.{Setting, Node, state_of, certificate_of}
use Rattle.node_rules.specs.Refusals.{refusal}
use Rattle.audit_rules.specs.Heads.{setting_with}
use Rattle.audit_node.specs.Playing.{Kept, IsMirror}

pub refusal-is : (s : Setting) (v : Kept) (n : Node) (r : Record) (answer : Option Fault) → IsMirror s v n
    → answer ≡ first_fault (known_by v.group (keys.Lms v.authority) v.roster (state_of s n) v.me) r → answer ≡ refusal s n r
unfolding refusal setting_with
refusal-is s v n r answer is h =
    let by : (ℕ → Option CertBody) → Option Fault =
    λ f. first_fault (record { verifies = verifies_in v.group; t = v.group.t; authority = keys.Lms v.authority; certificate = f; state = state_of s n; own = v.me }) r in
    let under : Setting → Option Fault =
    λ x. first_fault (record { verifies = x.verifies; t = x.group.t; authority = x.authority; certificate = certificate_of n; state = state_of s n; own = x.me }) r in
    h ∙ ap by (λ i m. is.roster m i) ∙ ap under (sym is.setting)
