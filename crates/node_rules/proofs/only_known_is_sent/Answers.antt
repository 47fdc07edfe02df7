use Rattle.node_rules.specs.Lives.{life_of}
use Rattle.node_rules.specs.Known.{SendsKnown, known_in}
use Rattle.node_rules.proofs.Gathering.{held-life, call-sends, delivered_until-sends, ticked_until-sends, left_until-sends}
use Rattle.node_rules.proofs.Called.{holds-called}
use Rattle.node_rules.proofs.only_known_is_sent.Goals as goal

pub returns : goal.returns
returns c = λ s nonces certificates stored inputs.
    let known = known_in s nonces certificates stored inputs in
    let n = life_of s nonces certificates stored inputs in
    let held = held-life s nonces certificates stored inputs in
    holds-called s n (λ i call. SendsKnown s known call) (λ i. call-sends s known n i held) (λ bytes records r. delivered_until-sends s known n records r held) (λ silent m. ticked_until-sends s known n silent m held) (left_until-sends s known n held)
