-- Whom a record goes to.
use Rattle.std.specs.Prelude.{ℕ, List, Option, Some, None}
use Rattle.ff_ids.specs.Views.{State}
use Rattle.node_rules.specs.Nodes.{Setting, neighbours, neighbours_and}

-- The neighbours, or they and one more.
abbrev pub addressees : Setting → Option ℕ → State → List ℕ
addressees s None st = neighbours s st
addressees s (Some m) st = neighbours_and s m st
