-- What an audit knows of records, and what a line shows of them.
use Rattle.std.specs.Prelude.{◌≡◌, ℕ, ◌+◌, ◌==◌, if◌then◌else◌, length, refl}
use Rattle.records.specs.declared.Body.{Body}
use Rattle.records.specs.Spelling.{body_bytes, record_bytes}
use Rattle.audit_set.specs.declared.known.Known.{Known}
use Rattle.audit_set.specs.declared.known.Known.TheVariants.{Came, Own}
use Rattle.audit_set.specs.declared.known.Shown.{Shown}

-- what the record says
abbrev pub body_of : Known → Body
body_of (Came c) = c.rec.body
body_of (Own o) = o.body

-- how many bytes its spelling has, or with a signature of the length that it is taken to have
abbrev pub long : Known → ℕ
long (Came c) = length (record_bytes c.rec)
long (Own o) = length (body_bytes o.body) + 2 + o.length

-- A record of the node's own has a signature of the length that is shown, if it is that of its index.
abbrev pub shown : Shown → Known → Known
shown news (Came c) = Came c
shown news (Own o) = Own (record { index = o.index; body = o.body; length = if o.index == news.index then news.length else o.length })

-- it says the same
pub shown_body : (news : Shown) (k : Known) → body_of (shown news k) ≡ body_of k
shown_body news (Came c) = refl
shown_body news (Own o) = refl
