use Rattle.std.proofs.Common.{◌≡◌, ℕ, List, length, ap, ◌∙◌, arith}
use Rattle.ff_ids.specs.Rings.{nearest_after}
use Rattle.ff_ids.specs.Views.{Member, key_at}
use Rattle.monitor_rule.specs.Joined.{Joined, keys_on}
use Rattle.monitor_rule.specs.Sorted.{members_from}
use Rattle.monitor_rule.proofs.KeptLemmas.{ring_at}
use Rattle.monitor_rule.proofs.Rings.successor_of_last_in.Goals as goal

pub after_last-requires-clause-placed : goal.after_last-requires-clause-placed
after_last-requires-clause-placed g c =
    let rings : length c.self.inside.rows.items ≡ c.args.self.now.rings = ap (λ (j : Joined). j.rings) c.self.view_is in
    let ring = ring_at c.self.inside.rows.items c.args.ring.0 c.index.result.now c.self.invariant.0.numbered (omega (arith, c.requires.ring)) c.index.ensures in
    omega (arith, ring, c.requires.ring, c.requires.placed)

pub returns : goal.returns
returns g c =
    let rings : length c.self.inside.rows.items ≡ c.args.self.now.rings = ap (λ (j : Joined). j.rings) c.self.view_is in
    let ring = ring_at c.self.inside.rows.items c.args.ring.0 c.index.result.now c.self.invariant.0.numbered (omega (arith, c.requires.ring)) c.index.ensures in
    let members : members_from 0 c.self.inside.slots ≡ c.args.self.now.members = ap (λ (j : Joined). j.members) c.self.view_is in
    let answer = λ (r : ℕ) (ms : List Member). nearest_after (keys_on r ms) (key_at r c.args.places.now c.args.member) in
    c.after_last.ensures ∙ ap (λ r. answer r (members_from 0 c.self.inside.slots)) ring ∙ ap (answer c.args.ring.0) members
