use Rattle.node_rules.proofs.SentRecords.{sent-authentic}
use Rattle.node_rules.proofs.sent_records_verify.Goals as goal

pub returns : goal.returns
returns c = λ s own nonces certificates stored inputs i fails_at rings kit good sign left.
    sent-authentic s own nonces certificates stored inputs i fails_at rings.some kit good sign left
