-- What stands as lines are gathered, and written with the line of a datagram.
use Rattle.std.proofs.Common.{◌≡◌, ◌≢◌, ℕ, IfErr, List, [], ◌∷◌, ◌++◌, Option, Result, Ok, Err, refl, sym, ap, ◌∙◌, subst, append_assoc, append-nil}
use Rattle.std.specs.Result.{result_and}
use Rattle.std.specs.Io.KnownBytes.{Appends}
use Rattle.std.proofs.KnownBytes.{Appends-nil, Appends-trans}
use Rattle.ports.specs.Count.{counted}
use Rattle.ports.specs.Disk.{Moment}
use Rattle.ports.specs.Link.{LinkState}
use Rattle.journal.specs.declared.event.Event as journal
use Rattle.signer.specs.Lives.{Spent}
use Rattle.node_core.specs.Playing.{Kept}
use Rattle.node_core.specs.Spending.{spent_by, spent_told}
use Rattle.node_core.specs.Told.{is_loss}
use Rattle.node_core.proofs.SpendLemmas.{told-append}
use Rattle.node_loop.specs.declared.fault.ServeFault.{ServeFault}
use Rattle.node_loop.specs.declared.fault.ServeFault.TheVariants as faults
use Rattle.node_loop.specs.Courses.{ServeState, writes}
use Rattle.turn_rules.specs.Lines.{line_of}
use Rattle.node_loop.specs.Gathering.{GathersLine, IsAtBut, IsOwed, OwesSpent, SpentBut, TellsBut, WritesBehind}
use Rattle.turn_rules.specs.Lines.{OfEvent, bytes_of}
use Rattle.node_loop.specs.Lines.{WritesSpent, WroteFront, spent_in}
use Rattle.node_loop.specs.Writing.{Before, Extends, IsAt, IsWithin, Standing, Tells, WritesLine, standing}
use Rattle.node_loop.proofs.CourseLemmas.{front-refl, grows-writes}
use Rattle.node_loop.proofs.TellLemmas.{keeps-refl, within-grows}
use Rattle.node_loop.proofs.LineLemmas.{bytes-append, faults-trans, front-all, front-longer, line-front, spent-append, spent-longer, spent-same}

abbrev Answer : Type 0
Answer = Result (Unit {0}) ServeFault

-- ---- what is owed

owed-more : (before after : Option (List ℕ)) (lines text line : List ℕ) → IsOwed before after lines text → IsOwed before after (lines ++ line) (text ++ line)
owed-more before after lines text line h = record { front = h.front; is = ap (λ xs. xs ++ line) h.is ∙ append_assoc h.front lines line; written = h.written }

owed-all : (before mid after : Option (List ℕ)) (lines text : List ℕ) → IsOwed before mid lines text → Appends mid after lines → Appends before after text
owed-all before mid after lines text h last = subst (Appends before after) (sym h.is) (Appends-trans before mid after h.front lines h.written last)

owed-part : (before mid after : Option (List ℕ)) (lines text : List ℕ) → IsOwed before mid lines text → WroteFront mid after lines → WroteFront before after text
owed-part before mid after lines text h last = record {
  text = h.front ++ last.text;
  front = record { more = last.front.more; is = h.is ∙ ap (λ xs. h.front ++ xs) last.front.is ∙ sym (append_assoc h.front last.text last.front.more) };
  written = Appends-trans before mid after h.front last.text h.written last.written;
}

owed-none : (before after : Option (List ℕ)) (text : List ℕ) → Appends before after text → IsOwed before after [] text
owed-none before after text h = record { front = text; is = sym (append-nil text); written = h }

-- ---- where the node, the link and the sink stand

pub but-at : (before : Before) (w : Standing) (r : ServeState) → IsAt before w r → IsAtBut before w [] r
but-at before w r at = record { knows = at.knows; link = at.link; text = owed-none before.taken w.taken r.text at.text; sent = at.sent; key = at.key }

pub but-none : (before : Before) (w : Standing) (lines : List ℕ) (r : ServeState) → lines ≡ [] → IsAt before w r → IsAtBut before w lines r
but-none before w lines r none at = subst (λ (xs : List ℕ). IsAtBut before w xs r) (sym none) (but-at before w r at)

pub but-more : (before : Before) (w : Standing) (lines line : List ℕ) (r : ServeState) → IsAtBut before w lines r → IsAtBut before w (lines ++ line) (writes line r)
but-more before w lines line r at = record { knows = at.knows; link = at.link; text = owed-more before.taken w.taken lines r.text line at.text; sent = at.sent; key = at.key }

but-written : (before : Before) (v : Kept) (link : Option LinkState) (taken after : Option (List ℕ)) (moments : List Moment) (sent : ℕ) (lines : List ℕ) (r : ServeState)
    → IsAtBut before (standing v link taken moments sent) lines r → Appends taken after lines → IsAt before (standing v link after moments sent) r
but-written before v link taken after moments sent lines r at h = record { knows = at.knows; link = at.link; text = owed-all before.taken taken after lines r.text at.text h; sent = at.sent; key = at.key }

pub but-broke : (before : Before) (v : Kept) (link : Option LinkState) (taken after : Option (List ℕ)) (moments : List Moment) (sent : ℕ) (lines : List ℕ) (r : ServeState)
    → IsAtBut before (standing v link taken moments sent) lines r → WroteFront taken after lines → IsWithin before (standing v link after moments sent) r
but-broke before v link taken after moments sent lines r at h =
    let part : WroteFront before.taken after r.text = owed-part before.taken taken after lines r.text at.text h in
    record {
      text = part.text;
      front = part.front;
      written = part.written;
      link = r.link;
      told = at.link;
      given = front-refl r.link.given;
      spent = r.spent;
      made = front-refl r.spent;
      key = at.key;
    }

tells-broke : (before : Before) (w : Standing) (r : ServeState) (e : ServeFault) → (e ≢ faults.StoreFault) → IsWithin before w r → Tells before w r (Err e)
tells-broke before w r faults.StoreFault other h = absurd (other refl)
tells-broke before w r faults.WriteFault other h = h
tells-broke before w r faults.OutOfMemory other h = h

gathers-broke : (before after : Option (List ℕ)) (old lines line : List ℕ) (e : ServeFault) → GathersLine before after old lines line (Err e) → WroteFront before after old
gathers-broke before after old lines line faults.StoreFault h = absurd h
gathers-broke before after old lines line faults.WriteFault h = h
gathers-broke before after old lines line faults.OutOfMemory h = front-all before after old h

behind-broke : (before after : Option (List ℕ)) (old line : List ℕ) (e : ServeFault) → WritesBehind before after old line (Err e) → WroteFront before after (old ++ line)
behind-broke before after old line faults.StoreFault h = absurd h
behind-broke before after old line faults.WriteFault h = h
behind-broke before after old line faults.OutOfMemory h = front-longer before after old line (front-all before after old h)

-- the line is gathered
pub gathered : (before : Before) (v : Kept) (link : Option LinkState) (taken after : Option (List ℕ)) (moments : List Moment) (sent : ℕ) (old lines line : List ℕ) (r : ServeState) (answer : Answer)
    → IsAtBut before (standing v link taken moments sent) old r → GathersLine taken after old lines line answer → IfErr answer (λ e. e ≢ faults.StoreFault)
    → TellsBut before (standing v link after moments sent) lines (writes line r) answer
gathered before v link taken after moments sent old lines line r (Ok x) at (same, is) other =
    subst (λ (t : Option (List ℕ)). IsAtBut before (standing v link t moments sent) lines (writes line r)) (sym same)
    (subst (λ (xs : List ℕ). IsAtBut before (standing v link taken moments sent) xs (writes line r)) (sym is) (but-more before (standing v link taken moments sent) old line r at))
gathered before v link taken after moments sent old lines line r (Err e) at h other =
    let w : Standing = standing v link after moments sent in
    tells-broke before w (writes line r) e other (within-grows before w r (writes line r) (but-broke before v link taken after moments sent old r at (gathers-broke taken after old lines line e h)) (grows-writes line r))

-- what was gathered is written, and the line with it
pub written-with : (before : Before) (v : Kept) (link : Option LinkState) (taken after : Option (List ℕ)) (moments : List Moment) (sent : ℕ) (old line : List ℕ) (r : ServeState) (answer : Answer)
    → IsAtBut before (standing v link taken moments sent) old r → WritesBehind taken after old line answer → IfErr answer (λ e. e ≢ faults.StoreFault)
    → Tells before (standing v link after moments sent) (writes line r) answer
written-with before v link taken after moments sent old line r (Ok x) at h other =
    but-written before v link taken after moments sent (old ++ line) (writes line r) (but-more before (standing v link taken moments sent) old line r at) h
written-with before v link taken after moments sent old line r (Err e) at h other =
    tells-broke before (standing v link after moments sent) (writes line r) e other
    (but-broke before v link taken after moments sent (old ++ line) (writes line r) (but-more before (standing v link taken moments sent) old line r at) (behind-broke taken after old line e h))

-- what was gathered is written
pub written-out : (before : Before) (v : Kept) (link : Option LinkState) (taken after : Option (List ℕ)) (moments : List Moment) (sent : ℕ) (lines : List ℕ) (r : ServeState) (answer : Answer)
    → IsAtBut before (standing v link taken moments sent) lines r → WritesLine taken after lines answer → IfErr answer (λ e. e ≡ faults.WriteFault)
    → Tells before (standing v link after moments sent) r answer
written-out before v link taken after moments sent lines r (Ok x) at h is = but-written before v link taken after moments sent lines r at h
written-out before v link taken after moments sent lines r (Err e) at h is =
    subst (λ (f : ServeFault). Tells before (standing v link after moments sent) r (Err f)) (sym is) (but-broke before v link taken after moments sent lines r at (line-front taken after lines e h))

-- ---- what was written stands

extends-front : (taken after : Option (List ℕ)) (link : Option LinkState) (bytes : List ℕ) → WroteFront taken after bytes → Extends taken after link link
extends-front taken after link bytes h = record { text = h.text; written = h.written; given = keeps-refl link }

pub extends-gathered : (taken after : Option (List ℕ)) (link : Option LinkState) (old lines line : List ℕ) (answer : Answer) → GathersLine taken after old lines line answer → Extends taken after link link
extends-gathered taken after link old lines line (Ok x) (same, is) =
    subst (λ (t : Option (List ℕ)). Extends taken t link link) (sym same) (record { text = []; written = Appends-nil taken; given = keeps-refl link })
extends-gathered taken after link old lines line (Err e) h = extends-front taken after link old (gathers-broke taken after old lines line e h)

pub extends-behind : (taken after : Option (List ℕ)) (link : Option LinkState) (old line : List ℕ) (answer : Answer) → WritesBehind taken after old line answer → Extends taken after link link
extends-behind taken after link old line (Ok x) h = record { text = old ++ line; written = h; given = keeps-refl link }
extends-behind taken after link old line (Err e) h = extends-front taken after link (old ++ line) (behind-broke taken after old line e h)

-- ---- one write

-- what was gathered is written, where memory was refused for a line behind it
pub gathers-refused : (before after : Option (List ℕ)) (old mid lines line : List ℕ) (written : Answer) → mid ≡ old → WritesLine before after mid written → IfErr written (λ e. e ≡ faults.WriteFault)
    → GathersLine before after old lines line (result_and written (Err faults.OutOfMemory))
gathers-refused before after old mid lines line (Ok x) same h is = subst (Appends before after) same h
gathers-refused before after old mid lines line (Err e) same h is =
    subst (λ (f : ServeFault). GathersLine before after old lines line (Err f)) (sym is) (subst (WroteFront before after) same (line-front before after mid e h))

pub behind-refused : (before after : Option (List ℕ)) (old mid line : List ℕ) (written : Answer) → mid ≡ old → WritesLine before after mid written → IfErr written (λ e. e ≡ faults.WriteFault)
    → WritesBehind before after old line (result_and written (Err faults.OutOfMemory))
behind-refused before after old mid line (Ok x) same h is = subst (Appends before after) same h
behind-refused before after old mid line (Err e) same h is =
    subst (λ (f : ServeFault). WritesBehind before after old line (Err f)) (sym is) (front-longer before after old line (subst (WroteFront before after) same (line-front before after mid e h)))

pub behind-added : (before after : Option (List ℕ)) (old mid line : List ℕ) (written : Answer) → mid ≡ old ++ line → WritesLine before after mid written → IfErr written (λ e. e ≡ faults.WriteFault)
    → WritesBehind before after old line written
behind-added before after old mid line (Ok x) more h is = subst (Appends before after) more h
behind-added before after old mid line (Err e) more h is =
    subst (λ (f : ServeFault). WritesBehind before after old line (Err f)) (sym is) (subst (WroteFront before after) more (line-front before after mid e h))

-- ---- the signatures that the lines give

pub owes-none : (taken : Option (List ℕ)) (lines : List ℕ) (count : ℕ) → lines ≡ [] → OwesSpent [] taken taken lines count count
owes-none taken lines count none = record { lines = []; give = refl; owed = record { front = []; is = sym none; written = Appends-nil taken }; link = refl }

-- what was owed before the first event
pub owes-first : (spent : List Spent) (before after : Option (List ℕ)) (lines : List ℕ) (count f : ℕ) → OwesSpent spent before after lines count f → OwesSpent (spent ++ spent_told []) before after lines count f
owes-first spent before after lines count f h = subst (λ (s : List Spent). OwesSpent s before after lines count f) (sym (append-nil spent)) h

owes-line : (spent : List Spent) (before after : Option (List ℕ)) (old : List ℕ) (count f f1 : ℕ) (e : journal.Event) → OwesSpent spent before after old count f → f1 ≡ counted (is_loss e.what) f
    → OwesSpent (spent ++ spent_by e.what) before after (old ++ line_of e) count f1
owes-line spent before after old count f f1 e h is = record {
  lines = h.lines ++ OfEvent e ∷ [];
  give = spent-append h.lines (OfEvent e ∷ []) ∙ ap (λ s. s ++ spent_in (OfEvent e ∷ [])) h.give ∙ ap (λ s. spent ++ s) (append-nil (spent_by e.what));
  owed =
      subst (IsOwed before after (old ++ line_of e)) (sym (bytes-append h.lines (OfEvent e ∷ []) ∙ ap (λ b. bytes_of h.lines ++ b) (append-nil (line_of e))))
      (owed-more before after old (bytes_of h.lines) (line_of e) h.owed);
  link = faults-trans h.lines (OfEvent e ∷ []) count f f1 h.link is;
}

owes-part : (spent : List Spent) (before mid after : Option (List ℕ)) (lines : List ℕ) (count f : ℕ) (e : ServeFault) → (e ≢ faults.StoreFault) → OwesSpent spent before mid lines count f → WroteFront mid after lines
    → WritesSpent spent before after count f (Err e)
owes-part spent before mid after lines count f e other h last = by e other
  where
    part : WroteFront before after (bytes_of h.lines)
    part = owed-part before mid after lines (bytes_of h.lines) h.owed last

    by : (e : ServeFault) → (e ≢ faults.StoreFault) → WritesSpent spent before after count f (Err e)
    by faults.StoreFault other = absurd (other refl)
    by faults.WriteFault other = record { lines = h.lines; give = h.give; written = part; link = h.link }
    by faults.OutOfMemory other = record { lines = h.lines; give = h.give; written = part; link = h.link }

owes-all : (spent : List Spent) (before mid after : Option (List ℕ)) (lines : List ℕ) (count f : ℕ) → OwesSpent spent before mid lines count f → Appends mid after lines → OwesSpent spent before after [] count f
owes-all spent before mid after lines count f h last = record {
  lines = h.lines;
  give = h.give;
  owed = owed-none before after (bytes_of h.lines) (owed-all before mid after lines (bytes_of h.lines) h.owed last);
  link = h.link;
}

-- a line more
pub spent-gathered : (spent : List Spent) (before mid after : Option (List ℕ)) (old lines : List ℕ) (count f f1 : ℕ) (e : journal.Event) (answer : Answer)
    → OwesSpent spent before mid old count f → GathersLine mid after old lines (line_of e) answer → IfErr answer (λ x. x ≢ faults.StoreFault) → f1 ≡ counted (is_loss e.what) f
    → SpentBut (spent ++ spent_by e.what) before after lines count f1 answer
spent-gathered spent before mid after old lines count f f1 e (Ok x) h (same, is) other counts =
    subst (λ (t : Option (List ℕ)). OwesSpent (spent ++ spent_by e.what) before t lines count f1) (sym same)
    (subst (λ (xs : List ℕ). OwesSpent (spent ++ spent_by e.what) before mid xs count f1) (sym is) (owes-line spent before mid old count f f1 e h counts))
spent-gathered spent before mid after old lines count f f1 e (Err fault) h last other counts =
    owes-part (spent ++ spent_by e.what) before mid after (old ++ line_of e) count f1 fault other (owes-line spent before mid old count f f1 e h counts) (front-longer mid after old (line_of e) (gathers-broke mid after old lines (line_of e) fault last))

-- a line that is written with what was gathered
pub spent-with : (spent : List Spent) (before mid after : Option (List ℕ)) (old : List ℕ) (count f f1 : ℕ) (e : journal.Event) (answer : Answer)
    → OwesSpent spent before mid old count f → WritesBehind mid after old (line_of e) answer → IfErr answer (λ x. x ≢ faults.StoreFault) → f1 ≡ counted (is_loss e.what) f
    → SpentBut (spent ++ spent_by e.what) before after [] count f1 answer
spent-with spent before mid after old count f f1 e (Ok x) h last other counts =
    owes-all (spent ++ spent_by e.what) before mid after (old ++ line_of e) count f1 (owes-line spent before mid old count f f1 e h counts) last
spent-with spent before mid after old count f f1 e (Err fault) h last other counts =
    owes-part (spent ++ spent_by e.what) before mid after (old ++ line_of e) count f1 fault other (owes-line spent before mid old count f f1 e h counts) (behind-broke mid after old (line_of e) fault last)

-- it gives no signature
pub owes-same : (spent : List Spent) (before after : Option (List ℕ)) (lines : List ℕ) (count f : ℕ) → lines ≡ [] → OwesSpent (spent ++ []) before after [] count f → OwesSpent spent before after lines count f
owes-same spent before after lines count f none h =
    subst (λ (xs : List ℕ). OwesSpent spent before after xs count f) (sym none) (subst (λ (s : List Spent). OwesSpent s before after [] count f) (append-nil spent) h)

-- all that was gathered is written
pub spent-out : (spent : List Spent) (before mid after : Option (List ℕ)) (lines : List ℕ) (count f : ℕ) (answer : Answer) → OwesSpent spent before mid lines count f → WritesLine mid after lines answer
    → IfErr answer (λ e. e ≡ faults.WriteFault) → WritesSpent spent before after count f answer
spent-out spent before mid after lines count f (Ok x) h last is = record { lines = h.lines; give = h.give; written = owed-all before mid after lines (bytes_of h.lines) h.owed last; link = h.link }
spent-out spent before mid after lines count f (Err e) h last is =
    subst (λ (x : ServeFault). WritesSpent spent before after count f (Err x)) (sym is)
    (record { lines = h.lines; give = h.give; written = owed-part before mid after lines (bytes_of h.lines) h.owed (line-front mid after lines e last); link = h.link })

-- memory was refused for a datagram, all of whose lines are written
pub spent-refused : (spent : List Spent) (before after : Option (List ℕ)) (count f : ℕ) → OwesSpent spent before after [] count f → WritesSpent spent before after count f (Err faults.OutOfMemory)
spent-refused spent before after count f h = record { lines = h.lines; give = h.give; written = front-all before after (bytes_of h.lines) (owed-all before after after [] (bytes_of h.lines) h.owed (Appends-nil after)); link = h.link }

-- ---- events one after another

told-longer : (done more : List journal.Event) (e : journal.Event) → more ≡ done ++ e ∷ [] → spent_told done ++ spent_by e.what ≡ spent_told more
told-longer done more e is = ap (λ s. spent_told done ++ s) (sym (append-nil (spent_by e.what))) ∙ sym (told-append done (e ∷ [])) ∙ ap spent_told (sym is)

-- one event more
pub owes-next : (spent : List Spent) (done more : List journal.Event) (e : journal.Event) (before after : Option (List ℕ)) (lines : List ℕ) (count f : ℕ) → more ≡ done ++ e ∷ []
    → OwesSpent ((spent ++ spent_told done) ++ spent_by e.what) before after lines count f → OwesSpent (spent ++ spent_told more) before after lines count f
owes-next spent done more e before after lines count f is h =
    subst (λ (s : List Spent). OwesSpent s before after lines count f) (append_assoc spent (spent_told done) (spent_by e.what) ∙ ap (λ (s : List Spent). spent ++ s) (told-longer done more e is)) h

-- one of them broke off
pub spent-part : (spent : List Spent) (done all rest : List journal.Event) (e : journal.Event) (before after : Option (List ℕ)) (count f : ℕ) (fault : ServeFault) → (fault ≢ faults.StoreFault) → all ≡ done ++ e ∷ rest
    → WritesSpent ((spent ++ spent_told done) ++ spent_by e.what) before after count f (Err fault) → WritesSpent (spent ++ spent_told all) before after count f (Err fault)
spent-part spent done all rest e before after count f fault other is h =
    let first : List Spent = (spent ++ spent_told done) ++ spent_by e.what in
    let told : (spent_told done ++ spent_by e.what) ++ spent_told rest ≡ spent_told all =
    append_assoc (spent_told done) (spent_by e.what) (spent_told rest) ∙ sym (told-append done (e ∷ rest)) ∙ ap spent_told (sym is) in
    spent-same (first ++ spent_told rest) (spent ++ spent_told all) before after count f (Err fault)
    (ap (λ (s : List Spent). s ++ spent_told rest) (append_assoc spent (spent_told done) (spent_by e.what)) ∙ append_assoc spent (spent_told done ++ spent_by e.what) (spent_told rest) ∙ ap (λ (s : List Spent). spent ++ s) told)
    (spent-longer first (spent_told rest) before after count f fault other h)
