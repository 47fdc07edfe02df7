-- How a record is accepted: it is kept, and then it may be news.
use Rattle.std.specs.Prelude.{List, Option, Some, None}
use Rattle.ff_ids.specs.Heals.{Heal}
use Rattle.ff_ids.specs.declared.summary.RecordKey.{RecordKey}
use Rattle.records.specs.declared.Body.{Body}
use Rattle.records.specs.declared.Record.{Record}
use Rattle.node_rules.specs.Nodes.{Setting, event_of, with_key, with_record, without_removal, with_news}
use Rattle.node_rules.specs.Calls.{Call, lives}

-- It brings its event to the life, and is held.
abbrev pub keeps : Setting → Record → Call → Call
keeps s r c =
    let c1 = lives s (event_of s r.body) c in
    record c1 { node = record c1.node { held = with_record r (without_removal r.body c1.node.held) } }

-- What it says may be news.
abbrev pub heard_as_news : Setting → Body → Call → Call
heard_as_news s b c = record c { node = record c.node { news = with_news s.heal b c.node.news } }

-- With the option this key is news.
abbrev pub fresh_with : Option Heal → RecordKey → List RecordKey → List RecordKey
fresh_with None k news = news
fresh_with (Some heal) k news = with_key k news

abbrev pub with_fresh : Setting → RecordKey → Call → Call
with_fresh s k c = record c { node = record c.node { news = fresh_with s.heal k c.node.news } }
