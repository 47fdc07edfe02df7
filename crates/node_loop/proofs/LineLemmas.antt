-- Lines one behind the other, and the signatures that they give.
use Rattle.std.proofs.Common.{◌≡◌, ℕ, List, [], ◌∷◌, ◌++◌, map, Option, Some, Result, Ok, Err, refl, sym, ap, ◌∙◌, subst, append_assoc, append-nil, take, drop, take-append-drop}
use Rattle.std.specs.Io.KnownBytes.{Appends}
use Rattle.ports.specs.Count.{counted}
use Rattle.std.proofs.KnownBytes.{Appends-nil, Appends-trans}
use Rattle.std.proofs.lemmas.Bool.{false≢true}
use Rattle.std.proofs.lemmas.Grind.{flat_map-append}
use Rattle.journal.specs.declared.event.Event as journal
use Rattle.journal.specs.declared.event.What as whats
use Rattle.journal.specs.declared.event.What.TheVariants as told
use Rattle.journal.specs.declared.turn.Turn.{Turn}
use Rattle.ports.specs.Disk.{Moment}
use Rattle.signer.specs.Lives.{Spent}
use Rattle.signer.specs.Signing.{SignerState}
use Rattle.node_core.specs.declared.NodeFault.{NodeFault}
use Rattle.node_core.specs.declared.NodeFault.TheVariants as node
use Rattle.node_core.specs.Spending.{LivesOn, SpendsIn, spent_by, spent_told}
use Rattle.node_core.specs.Told.{IsPrefix}
use Rattle.node_core.proofs.SpendLemmas.{lives-same, lives-trans}
use Rattle.node_loop.specs.declared.fault.ServeFault.{ServeFault}
use Rattle.node_loop.specs.declared.fault.ServeFault.TheVariants as faults
use Rattle.turn_rules.specs.Courses.{datagram_in}
use Rattle.node_loop.specs.Lines.{GoesOn, WritesLines, WritesSpent, WroteFront, faults_behind, is_link_fault, spent_in, spent_on}
use Rattle.turn_rules.specs.Lines.{JournalLine, OfEvent, OfTurn, bytes_of, line_bytes}
use Rattle.node_loop.specs.Writing.{Answers, WritesLine, has_failed}

abbrev Answer : Type 0
Answer = Result (Unit {0}) ServeFault

-- ---- lines

pub bytes-append : (xs ys : List JournalLine) → bytes_of (xs ++ ys) ≡ bytes_of xs ++ bytes_of ys
bytes-append xs ys = flat_map-append line_bytes xs ys

pub spent-append : (xs ys : List JournalLine) → spent_in (xs ++ ys) ≡ spent_in xs ++ spent_in ys
spent-append xs ys = flat_map-append spent_on xs ys

-- the lines of events give what these report
pub events-spent : (events : List journal.Event) → spent_in (map OfEvent events) ≡ spent_told events
events-spent [] = refl
events-spent (e ∷ events) = ap (λ xs. spent_by e.what ++ xs) (events-spent events)

-- a line for each signature
abbrev given : Spent → JournalLine
given s = OfEvent (record { moment = 0; what = told.Spent s.index s.body })

given-spent : (spent : List Spent) → spent_in (map given spent) ≡ spent
given-spent [] = refl
given-spent (s ∷ spent) = ap (λ xs. s ∷ xs) (given-spent spent)

pub faults-append : (xs ys : List JournalLine) (count : ℕ) → faults_behind (xs ++ ys) count ≡ faults_behind ys (faults_behind xs count)
faults-append [] ys count = refl
faults-append (x ∷ xs) ys count = faults-append xs ys (counted (is_link_fault x) count)

pub faults-trans : (xs ys : List JournalLine) (a b c : ℕ) → b ≡ faults_behind xs a → c ≡ faults_behind ys b → c ≡ faults_behind (xs ++ ys) a
faults-trans xs ys a b c p q = q ∙ ap (faults_behind ys) p ∙ sym (faults-append xs ys a)

-- a line that gives a signature says nothing of the link
given-faults : (spent : List Spent) (count : ℕ) → faults_behind (map given spent) count ≡ count
given-faults [] count = refl
given-faults (s ∷ spent) count = given-faults spent count

faults-longer : (xs : List JournalLine) (spent : List Spent) (a b : ℕ) → b ≡ faults_behind xs a → b ≡ faults_behind (xs ++ map given spent) a
faults-longer xs spent a b is = faults-trans xs (map given spent) a b b is (sym (given-faults spent b))

-- ---- fronts

pub front-all : (before after : Option (List ℕ)) (bytes : List ℕ) → Appends before after bytes → WroteFront before after bytes
front-all before after bytes h = record { text = bytes; front = record { more = []; is = sym (append-nil bytes) }; written = h }

pub front-none : (taken : Option (List ℕ)) (bytes : List ℕ) → WroteFront taken taken bytes
front-none taken bytes = record { text = []; front = record { more = bytes; is = refl }; written = Appends-nil taken }

pub front-longer : (before after : Option (List ℕ)) (xs ys : List ℕ) → WroteFront before after xs → WroteFront before after (xs ++ ys)
front-longer before after xs ys h =
    record { text = h.text; front = record { more = h.front.more ++ ys; is = ap (λ t. t ++ ys) h.front.is ∙ append_assoc h.text h.front.more ys }; written = h.written }

pub front-behind : (before mid after : Option (List ℕ)) (xs ys : List ℕ) → Appends before mid xs → WroteFront mid after ys → WroteFront before after (xs ++ ys)
front-behind before mid after xs ys first h =
    record {
      text = xs ++ h.text;
      front = record { more = h.front.more; is = ap (λ t. xs ++ t) h.front.is ∙ sym (append_assoc xs h.text h.front.more) };
      written = Appends-trans before mid after xs h.text first h.written;
    }

-- ---- what was written

-- where it broke off, or may have
pub lines-front : (before after : Option (List ℕ)) (lines : List JournalLine) (answer : Answer) → WritesLines before after lines answer → WroteFront before after (bytes_of lines)
lines-front before after lines (Ok x) h = front-all before after (bytes_of lines) h
lines-front before after lines (Err faults.StoreFault) h = front-all before after (bytes_of lines) h
lines-front before after lines (Err faults.WriteFault) h = h
lines-front before after lines (Err faults.OutOfMemory) h = h

pub all-lines : (before after : Option (List ℕ)) (lines : List JournalLine) (answer : Answer) → Appends before after (bytes_of lines) → WritesLines before after lines answer
all-lines before after lines (Ok x) h = h
all-lines before after lines (Err faults.StoreFault) h = h
all-lines before after lines (Err faults.WriteFault) h = front-all before after (bytes_of lines) h
all-lines before after lines (Err faults.OutOfMemory) h = front-all before after (bytes_of lines) h

pub lines-trans : (before mid after : Option (List ℕ)) (xs ys : List JournalLine) (answer : Answer) → Appends before mid (bytes_of xs) → WritesLines mid after ys answer → WritesLines before after (xs ++ ys) answer
lines-trans before mid after xs ys answer first h = by answer h
  where
    whole : Appends mid after (bytes_of ys) → Appends before after (bytes_of (xs ++ ys))
    whole last = subst (Appends before after) (sym (bytes-append xs ys)) (Appends-trans before mid after (bytes_of xs) (bytes_of ys) first last)

    part : WroteFront mid after (bytes_of ys) → WroteFront before after (bytes_of (xs ++ ys))
    part last = subst (WroteFront before after) (sym (bytes-append xs ys)) (front-behind before mid after (bytes_of xs) (bytes_of ys) first last)

    by : (answer : Answer) → WritesLines mid after ys answer → WritesLines before after (xs ++ ys) answer
    by (Ok x) last = whole last
    by (Err faults.StoreFault) last = whole last
    by (Err faults.WriteFault) last = part last
    by (Err faults.OutOfMemory) last = part last

-- lines that were not come to
pub lines-longer : (before after : Option (List ℕ)) (xs ys : List JournalLine) (e : ServeFault) → (e ≡ faults.StoreFault → ⊥) → WritesLines before after xs (Err e) → WritesLines before after (xs ++ ys) (Err e)
lines-longer before after xs ys e other h = by e other h
  where
    part : WroteFront before after (bytes_of xs) → WroteFront before after (bytes_of (xs ++ ys))
    part first = subst (WroteFront before after) (sym (bytes-append xs ys)) (front-longer before after (bytes_of xs) (bytes_of ys) first)

    by : (e : ServeFault) → (e ≡ faults.StoreFault → ⊥) → WritesLines before after xs (Err e) → WritesLines before after (xs ++ ys) (Err e)
    by faults.StoreFault other first = absurd (other refl)
    by faults.WriteFault other first = part first
    by faults.OutOfMemory other first = part first

-- a line that broke off
pub line-front : (before after : Option (List ℕ)) (line : List ℕ) (e : ServeFault) → WritesLine before after line (Err e) → WroteFront before after line
line-front before after line faults.StoreFault h = absurd h
line-front before after line faults.WriteFault h = record { text = take h.count line; front = record { more = drop h.count line; is = sym (take-append-drop h.count line) }; written = h.gained }
line-front before after line faults.OutOfMemory is = subst (λ x. WroteFront before x line) (sym is) (front-none before line)

pub one-line : (before after : Option (List ℕ)) (line : JournalLine) (answer : Answer) → WritesLine before after (line_bytes line) answer → WritesLines before after (line ∷ []) answer
one-line before after line answer h = by answer h
  where
    bytes : List ℕ
    bytes = line_bytes line

    same : bytes_of (line ∷ []) ≡ bytes
    same = append-nil bytes

    by : (answer : Answer) → WritesLine before after bytes answer → WritesLines before after (line ∷ []) answer
    by (Ok x) wrote = subst (Appends before after) (sym same) wrote
    by (Err faults.StoreFault) wrote = absurd wrote
    by (Err faults.WriteFault) wrote = subst (WroteFront before after) (sym same) (line-front before after bytes faults.WriteFault wrote)
    by (Err faults.OutOfMemory) wrote = subst (WroteFront before after) (sym same) (line-front before after bytes faults.OutOfMemory wrote)

-- ---- what events report

-- an event that reports a datagram gives no signature
pub sent-none : (what : whats.What) (d : ℕ × List ℕ) → datagram_in what ≡ Some d → spent_by what ≡ []
sent-none (told.Sent number to bytes) d is = refl
sent-none (told.Spent index body) d is = cc
sent-none (told.Entered m) d is = refl
sent-none (told.Expired a) d is = refl
sent-none (told.Removed m) d is = refl
sent-none (told.Fell a) d is = refl
sent-none (told.Took body fault) d is = refl
sent-none (told.BadForm place) d is = refl
sent-none (told.Ping from_ nonce) d is = refl
sent-none (told.Pong from_ nonce counted) d is = refl
sent-none (told.Summary from_ page flag) d is = refl
sent-none (told.Silent m) d is = refl
sent-none (told.Exhausted next) d is = refl
sent-none (told.Lost number) d is = refl
sent-none (told.Got number) d is = refl
sent-none told.Stopped d is = refl

pub spent-same : (xs ys : List Spent) (before after : Option (List ℕ)) (count later : ℕ) (answer : Answer) → xs ≡ ys → WritesSpent xs before after count later answer → WritesSpent ys before after count later answer
spent-same xs ys before after count later answer is h = subst (λ (s : List Spent). WritesSpent s before after count later answer) is h

-- nothing came to be written
pub spent-unwritten : (spent : List Spent) (taken : Option (List ℕ)) (count : ℕ) → WritesSpent spent taken taken count count (Err faults.OutOfMemory)
spent-unwritten spent taken count = record { lines = map given spent; give = given-spent spent; written = front-none taken (bytes_of (map given spent)); link = sym (given-faults spent count) }

-- those that were not come to
pub spent-longer : (xs ys : List Spent) (before after : Option (List ℕ)) (a b : ℕ) (e : ServeFault) → (e ≡ faults.StoreFault → ⊥) → WritesSpent xs before after a b (Err e) → WritesSpent (xs ++ ys) before after a b (Err e)
spent-longer xs ys before after a b e other h = record {
  lines = h.lines ++ map given ys;
  give = spent-append h.lines (map given ys) ∙ ap (λ s. s ++ spent_in (map given ys)) h.give ∙ ap (λ s. xs ++ s) (given-spent ys);
  written = lines-longer before after h.lines (map given ys) e other h.written;
  link = faults-longer h.lines ys a b h.link;
}

-- whatever is answered behind it
pub spent-behind : (spent : List Spent) (before after : Option (List ℕ)) (count later : ℕ) (answer : Answer) → WritesSpent spent before after count later (Ok tt) → WritesSpent spent before after count later answer
spent-behind spent before after count later answer h = record { lines = h.lines; give = h.give; written = all-lines before after h.lines answer h.written; link = h.link }

-- ---- the key and the link

pub goes-same : (s : SignerState) (moments : List Moment) (taken : Option (List ℕ)) (count later : ℕ) (answer : Answer) → later ≡ count → GoesOn s s moments moments taken taken count later answer
goes-same s moments taken count later answer same = record { lines = []; written = all-lines taken taken [] answer (Appends-nil taken); key = lives-same s s moments refl; link = same }

-- a line of a turn gives no signature
pub goes-turn : (s : SignerState) (moments : List Moment) (before after : Option (List ℕ)) (count later : ℕ) (turn : Turn) (answer : Answer) → WritesLine before after (line_bytes (OfTurn turn)) answer → later ≡ counted (has_failed (Ok turn.heard)) count
    → GoesOn s s moments moments before after count later answer
goes-turn s moments before after count later turn answer wrote is = record { lines = OfTurn turn ∷ []; written = one-line before after (OfTurn turn) answer wrote; key = lives-same s s moments refl; link = is }

pub goes-trans : (a b c : SignerState) (x y z : List Moment) (before mid after : Option (List ℕ)) (i j k : ℕ) (answer : Answer) → GoesOn a b x y before mid i j (Ok tt) → GoesOn b c y z mid after j k answer → GoesOn a c x z before after i k answer
goes-trans a b c x y z before mid after i j k answer p q = record {
  lines = p.lines ++ q.lines;
  written = lines-trans before mid after p.lines q.lines answer p.written q.written;
  key = subst (λ (s : List Spent). LivesOn s a c x z) (sym (spent-append p.lines q.lines)) (lives-trans (spent_in p.lines) (spent_in q.lines) a b c x y z p.key q.key);
  link = faults-trans p.lines q.lines i j k p.link q.link;
}

pub goes-as : (a b : SignerState) (x y : List Moment) (before after : Option (List ℕ)) (i j : ℕ) (r answer : Answer) → r ≡ answer → GoesOn a b x y before after i j answer → GoesOn a b x y before after i j r
goes-as a b x y before after i j r answer is h = subst (λ t. GoesOn a b x y before after i j t) (sym is) h

-- from where the count was before
pub goes-from : (a b : SignerState) (x y : List Moment) (before after : Option (List ℕ)) (i i0 j : ℕ) (answer : Answer) → i ≡ i0 → GoesOn a b x y before after i j answer → GoesOn a b x y before after i0 j answer
goes-from a b x y before after i i0 j answer is h = subst (λ (k : ℕ). GoesOn a b x y before after k j answer) is h

-- to where it is behind it
pub goes-to : (a b : SignerState) (x y : List Moment) (before after : Option (List ℕ)) (i j j1 : ℕ) (answer : Answer) → j1 ≡ j → GoesOn a b x y before after i j answer → GoesOn a b x y before after i j1 answer
goes-to a b x y before after i j j1 answer is h = subst (λ (k : ℕ). GoesOn a b x y before after i k answer) (sym is) h

goes-told : (s later : SignerState) (older newer : List Moment) (spent : List Spent) (before after : Option (List ℕ)) (i j : ℕ) (answer : Answer) → LivesOn spent s later older newer → WritesSpent spent before after i j answer → GoesOn s later older newer before after i j answer
goes-told s later older newer spent before after i j answer key h =
    record { lines = h.lines; written = h.written; key = subst (λ (xs : List Spent). LivesOn xs s later older newer) (sym h.give) key; link = h.link }

-- memory was refused in the call: what was reported is a front of what was spent
starved-told : (s later : SignerState) (older newer : List Moment) (spent said : List Spent) (before after : Option (List ℕ)) (i j : ℕ) (answer : Answer) → LivesOn spent s later older newer → IsPrefix said spent
    → Answers (Err node.OutOfMemory) answer → WritesSpent said before after i j answer → GoesOn s later older newer before after i j answer
starved-told s later older newer spent said before after i j answer key front answers h = by answer answers h
  where
    further : (e : ServeFault) → (e ≡ faults.StoreFault → ⊥) → WritesSpent said before after i j (Err e) → GoesOn s later older newer before after i j (Err e)
    further e other w = goes-told s later older newer spent before after i j (Err e) key (spent-same (said ++ front.more) spent before after i j (Err e) (sym front.is) (spent-longer said front.more before after i j e other w))

    refused-other : ◌≡◌ {A = Result (Unit {0}) NodeFault} (Err node.OutOfMemory) (Err node.StoreFault) → ⊥
    refused-other is = cc

    write-other : faults.WriteFault ≡ faults.StoreFault → ⊥
    write-other is = cc

    memory-other : faults.OutOfMemory ≡ faults.StoreFault → ⊥
    memory-other is = cc

    by : (answer : Answer) → Answers (Err node.OutOfMemory) answer → WritesSpent said before after i j answer → GoesOn s later older newer before after i j answer
    by (Ok y) gave w = absurd (false≢true gave)
    by (Err faults.StoreFault) gave w = absurd (refused-other gave)
    by (Err faults.WriteFault) gave w = further faults.WriteFault write-other w
    by (Err faults.OutOfMemory) gave w = further faults.OutOfMemory memory-other w

-- What a call spent is what its events report, and those were written.
pub goes-by : (done : Result (Unit {0}) NodeFault) (s later : SignerState) (older newer : List Moment) (events : List journal.Event) (before after : Option (List ℕ)) (i j : ℕ) (answer : Answer) → SpendsIn done s later older newer [] events
    → Answers done answer → WritesSpent (spent_told events) before after i j answer → GoesOn s later older newer before after i j answer
goes-by done s later older newer events before after i j answer h answers w = by done h answers
  where
    whole : (spent : List Spent) → LivesOn spent s later older newer → spent_told events ≡ spent → GoesOn s later older newer before after i j answer
    whole spent key is = goes-told s later older newer spent before after i j answer key (spent-same (spent_told events) spent before after i j answer is w)

    by : (done : Result (Unit {0}) NodeFault) → SpendsIn done s later older newer [] events → Answers done answer → GoesOn s later older newer before after i j answer
    by (Ok x) d a = whole d.spent d.key (ap spent_told d.after_is ∙ d.tells)
    by (Err node.StoreFault) d a = whole d.spent d.key (ap spent_told d.after_is ∙ d.tells)
    by (Err node.OutOfMemory) d a =
        starved-told s later older newer d.spent (spent_told events) before after i j answer d.key
        (subst (λ es. IsPrefix (spent_told es) d.spent) (sym d.after_is) (record { more = d.tells.last; is = d.tells.is })) a w
    by (Err (node.Exhausted next)) d a = whole d.spent d.key (ap spent_told d.after_is ∙ d.tells)
    by (Err node.Ended) d a = whole d.spent d.key (ap spent_told d.after_is ∙ d.tells)
