-- What goes out of what is held, and what the other side of an exchange lacks, as bytes.
use Rattle.std.specs.Prelude.{◌≡◌, ◌≢◌, ℕ, List, [], ◌∷◌, ◌++◌, Option, Some, None, map, take, Vec}
use Rattle.std.specs.Global.{Global}
use Rattle.ff_ids.specs.declared.summary.RecordKey.{RecordKey}
use Rattle.ff_ids.specs.declared.summary.RecordKey.TheVariants as keys
use Rattle.ff_ids.specs.declared.summary.Summary.{Summary}
use Rattle.records.specs.declared.Record.{Record}
use Rattle.datagram.specs.declared.Datagram.TheVariants as kinds
use Rattle.datagram.specs.Spelling.{datagram_bytes}
use Rattle.gossip.specs.Differ.{differ}
use Rattle.record_set.specs.Held.{Held}
use Rattle.record_set.specs.Pages.{summary_of}
use Rattle.record_set.specs.Picks.{held_all, fitting}

-- The records under these keys that have one, in order, as many as fit.
abbrev pub given_of : Held → List RecordKey → List Record
given_of held ks = map (λ c. c.rec) (take (fitting 32760 (held_all held ks)) (held_all held ks))

-- The keys of what the member lacks, and that of its removal.
abbrev pub wanted : Held → ℕ → Summary → List RecordKey
wanted held to theirs = differ (summary_of held theirs.page).listed theirs.listed ++ keys.Removal to ∷ []

pub record IsGiven (from : ℕ) (held : Held) (ks : List RecordKey) (bytes : List ℕ) : Type 0 where
  pub some : given_of held ks ≢ []
  pub spelled : bytes ≡ datagram_bytes (kinds.Records from (given_of held ks))

-- There are none, or these are the bytes of their datagram.
abbrev pub IsGivenOf : ℕ → Held → List RecordKey → Option (Vec ℕ Global) → Type 0
IsGivenOf from held ks None = given_of held ks ≡ []
IsGivenOf from held ks (Some bytes) = IsGiven from held ks bytes.items

abbrev pub IsLacking : ℕ → Held → ℕ → Summary → Option (Vec ℕ Global) → Type 0
IsLacking from held to theirs bytes = IsGivenOf from held (wanted held to theirs) bytes
