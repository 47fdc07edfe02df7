use Rattle.node_rules.specs.Lives.{life_of}
use Rattle.node_rules.specs.Addressing.{AddressesOthers}
use Rattle.node_rules.proofs.Addressing.{call-addresses, delivered_until-addresses, ticked_until-addresses, left_until-addresses, addressees-ports}
use Rattle.node_rules.proofs.Called.{holds-called}
use Rattle.node_rules.proofs.only_certified_are_addressed.Goals as goal

pub returns-clause-others : goal.returns-clause-others
returns-clause-others c = λ s nonces certificates stored inputs.
    holds-called s (life_of s nonces certificates stored inputs) (λ i call. AddressesOthers s call) (call-addresses s nonces certificates stored inputs)
    (λ bytes. delivered_until-addresses s nonces certificates stored inputs) (ticked_until-addresses s nonces certificates stored inputs) (left_until-addresses s nonces certificates stored inputs)

pub returns-clause-ports : goal.returns-clause-ports
returns-clause-ports c = addressees-ports
