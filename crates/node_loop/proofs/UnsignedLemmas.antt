-- What is read of bytes that bring no records, and how their delivery is served, with its turn's line in front.
use Rattle.std.proofs.Common.{◌≡◌, ◌≢◌, ℕ, true, false, IfErr, List, [], ◌∷◌, ◌++◌, Option, Result, Ok, Err, inl, refl, sym, ap, ◌∙◌, subst, append-nil}
use Rattle.std.specs.Prelude.{OnOk, is_err, slice_index}
use Rattle.fields.specs.declared.NoMemory.{NoMemory}
use Rattle.std.proofs.lemmas.Bool.{false≢true}
use Rattle.std.proofs.KnownBytes.{Appends-nil}
use Rattle.ports.specs.Count.{counted}
use Rattle.ports.specs.Disk.{Moment}
use Rattle.ports.specs.Link.{LinkState}
use Rattle.records.proofs.Fields.{IsBytes}
use Rattle.datagram.specs.declared.Datagram.{Datagram}
use Rattle.datagram.specs.declared.Datagram.TheVariants as kinds
use Rattle.datagram.specs.Grammar.{read_of}
use Rattle.datagram.specs.Spelling.{head_bytes, records_bytes}
use Rattle.datagram.proofs.Readings.{read_found}
use Rattle.journal.specs.declared.event.Event as journal
use Rattle.journal.specs.declared.turn.Heard.{Heard}
use Rattle.journal.specs.declared.turn.Turn.{Turn}
use Rattle.journal.specs.Turns.{turn_text}
use Rattle.signer.specs.Signing.{SignerState}
use Rattle.node_core.specs.Answers.{GivesCall}
use Rattle.node_core.specs.Hears.{brings_records}
use Rattle.node_core.specs.Playing.{Kept}
use Rattle.node_core.specs.Spending.{LivesOn, SpendsIn, spent_told}
use Rattle.node_rules.specs.Nodes.{Setting}
use Rattle.node_rules.specs.Calls.{Call}
use Rattle.node_rules.specs.OnDisks.{Delivers}
use Rattle.node_rules.specs.Lives.{call_of}
use Rattle.node_loop.specs.declared.fault.ServeFault.{ServeFault}
use Rattle.node_loop.specs.declared.fault.ServeFault.TheVariants as faults
use Rattle.turn_rules.specs.Turns.{Calls, Writes, delivery_of}
use Rattle.node_loop.specs.Courses.{ServeState, moves, served, tells_all, writes}
use Rattle.turn_rules.specs.Lines.{with_feed}
use Rattle.node_loop.specs.Gathering.{IsAtBut, OwesSpent}
use Rattle.node_loop.specs.Lines.{GoesOn}
use Rattle.turn_rules.specs.Lines.{OfTurn}
use Rattle.node_loop.specs.Serving.{Serves}
use Rattle.node_loop.specs.Unsigned.{IsQuiet, is_unsigned_kind}
use Rattle.node_loop.specs.Writing.{Answers, Before, IsWithin, Standing, Stands, Tells, WritesLine, has_failed, standing}
use Rattle.node_loop.proofs.CallLemmas.{lent, moved, served-one, told-settles, told-so, told-spent, whole-call}
use Rattle.node_loop.proofs.CourseLemmas.{Grows, grows-served, served-cons}
use Rattle.node_loop.proofs.GatherLemmas.{but-at, but-broke, but-more}
use Rattle.node_loop.proofs.LineLemmas.{goes-turn, line-front}
use Rattle.node_loop.proofs.ServeLemmas.{breaks-off, serves-last}

abbrev Answer : Type 0
Answer = Result (Unit {0}) ServeFault

-- ---- the bytes

kind-at : (kind from : ℕ) (rest : List ℕ) → slice_index (head_bytes kind from ++ rest) 3 ≡ kind
unfolding head_bytes
kind-at kind from rest = refl

-- what is read of them has the kind that stands there
pub brings-none : (bytes : List ℕ) → IsBytes bytes → is_unsigned_kind (slice_index bytes 3) ≡ true → brings_records (read_of bytes) ≡ false
brings-none bytes fits unsigned = by (read_of bytes) refl
  where
    by : (read : Result Datagram ℕ) → read_of bytes ≡ read → brings_records read ≡ false
    by (Ok (kinds.Ping from nonce)) is = refl
    by (Ok (kinds.Pong from nonce)) is = refl
    by (Ok (kinds.Summary from flag summary)) is = refl
    by (Ok (kinds.Records from records)) is =
        let kind : slice_index bytes 3 ≡ 4 = ap (λ (xs : List ℕ). slice_index xs 3) (read_found bytes (kinds.Records from records) fits is).spelled ∙ kind-at 4 from (records_bytes records) in
        absurd (false≢true (sym (ap is_unsigned_kind kind) ∙ unsigned))
    by (Err place) is = refl

-- ---- what was answered

pub where-ok : (answer : Result (Unit {0}) NoMemory) (P : Type 0) → OnOk answer P → is_err answer ≡ false → P
where-ok (Ok x) P h fine = h
where-ok (Err e) P h fine = absurd (false≢true (sym fine))

pub told-answers : (x : Unit {0}) (answer : Answer) → IfErr answer (λ e. e ≢ faults.StoreFault) → Answers (Ok x) answer
told-answers x (Ok y) other = refl
told-answers x (Err faults.StoreFault) other = absurd (other refl)
told-answers x (Err faults.WriteFault) other = tt
told-answers x (Err faults.OutOfMemory) other = tt

-- ---- the signatures

-- the line is owed, which gives none
pub owes-turn : (turn : Turn) (bytes lines : List ℕ) (taken : Option (List ℕ)) (count : ℕ) → IsQuiet turn bytes → lines ≡ with_feed (turn_text turn) → OwesSpent [] taken taken lines count count
owes-turn turn bytes lines taken count quiet is = record {
  lines = OfTurn turn ∷ [];
  give = refl;
  owed = record { front = []; is = append-nil (with_feed (turn_text turn)) ∙ sym is; written = Appends-nil taken };
  link = sym (ap (λ (h : Heard). counted (has_failed (Ok h)) count) quiet.got);
}

-- the line was written, or broke off, behind a call that made none
pub goes-quiet : (a b : SignerState) (x y : List Moment) (before after : Option (List ℕ)) (count : ℕ) (turn : Turn) (bytes lines : List ℕ) (answer : Answer) → IsQuiet turn bytes → lines ≡ with_feed (turn_text turn)
    → WritesLine before after lines answer → b ≡ a → y ≡ x → GoesOn a b x y before after count count answer
goes-quiet a b x y before after count turn bytes lines answer quiet is wrote signer moments =
    let line = goes-turn a x before after count count turn answer (subst (λ (xs : List ℕ). WritesLine before after xs answer) is wrote) (sym (ap (λ (h : Heard). counted (has_failed (Ok h)) count) quiet.got)) in
    subst (λ (z : SignerState). GoesOn a z x y before after count count answer) (sym signer)
    (subst (λ (z : List Moment). GoesOn a a x z before after count count answer) (sym moments) line)

-- ---- the delivery

-- the line, and then the delivery
pub quiet-serves : (s : Setting) (before : Before) (w : Standing) (r : ServeState) (turn : Turn) (bytes : List ℕ) (answer : Answer) → IsQuiet turn bytes
    → Serves s before (Calls (Delivers bytes) ∷ []) (writes (with_feed (turn_text turn)) r) w answer → Serves s before (Writes turn ∷ delivery_of turn.heard) r w answer
quiet-serves s before w r turn bytes answer quiet h =
    let acts = Calls (Delivers bytes) ∷ [] in
    subst (λ xs. Serves s before (Writes turn ∷ xs) r w answer) (sym (ap delivery_of quiet.got))
    (serves-last s before (Writes turn ∷ []) acts r w answer
    (subst (λ z. Serves s before acts z w answer) (sym (served-one s (Writes turn) r)) h))

-- the call was answered, and the line is in front of what it reported
pub serves-gathered : (s : Setting) (before : Before) (v0 v : Kept) (link later : Option LinkState) (taken after : Option (List ℕ)) (older newer : List Moment) (sent sent1 : ℕ) (r : ServeState) (line bytes : List ℕ)
    (events : List journal.Event) (out : List (ℕ × List ℕ)) (x : Unit {0}) (answer : Answer)
    → Stands s before (standing v0 link taken older sent) r → GivesCall s r.node (Delivers bytes) v (lent [] []) (lent events out) (Ok x) → SpendsIn {T = Unit {0}} (Ok x) v0.signer v.signer older newer [] events
    → IfErr answer (λ e. e ≢ faults.StoreFault)
    → ((r1 : ServeState) → IsAtBut before (standing v link taken newer sent) line r1 → Tells before (standing v later after newer sent1) (tells_all events r1) answer)
    → Serves s before (Calls (Delivers bytes) ∷ []) (writes line r) (standing v later after newer sent1) answer
serves-gathered s before v0 v link later taken after older newer sent sent1 r line bytes events out x answer st d spends other tells =
    let c : Call = call_of s r.node (Delivers bytes) in
    let r1 : ServeState = writes line r in
    let w : Standing = standing v later after newer sent1 in
    let mid : Standing = standing v link taken newer sent in
    let lives = told-spent events c.told spends.spent v0.signer v.signer older newer d.told (ap spent_told spends.after_is ∙ spends.tells) spends.key in
    let at = but-more before mid [] line (moves c r) (but-at before mid (moves c r) (moved s before v0 v link taken older newer sent r c st d.is lives)) in
    whole-call s before w r1 (Delivers bytes) c x answer refl d.is (told-answers x answer other)
    (told-so before w r1 c events answer d.told (told-settles before w (tells_all events (moves c r1)) answer (tells (moves c r1) at)))

-- the write of the line failed, behind a call that made no signature
pub quiet-broke : (s : Setting) (before : Before) (v0 v : Kept) (link : Option LinkState) (taken after : Option (List ℕ)) (older newer : List Moment) (sent : ℕ) (r : ServeState) (turn : Turn) (lines : List ℕ) (e : ServeFault)
    → Stands s before (standing v0 link taken older sent) r → v.signer ≡ v0.signer → newer ≡ older → lines ≡ with_feed (turn_text turn) → WritesLine taken after lines (Err e) → e ≡ faults.WriteFault
    → Serves s before (Writes turn ∷ delivery_of turn.heard) r (standing v link after newer sent) (Err e)
quiet-broke s before v0 v link taken after older newer sent r turn lines e st signer moments is wrote fault =
    let line = with_feed (turn_text turn) in
    let rest = delivery_of turn.heard in
    let w0 : Standing = standing v0 link taken older sent in
    let w : Standing = standing v link after newer sent in
    let r1 : ServeState = writes line r in
    let front = line-front taken after line e (subst (λ (xs : List ℕ). WritesLine taken after xs (Err e)) is wrote) in
    let h : IsWithin before (standing v0 link after older sent) r1 = but-broke before v0 link taken after older sent line r1 (but-more before w0 [] line r (but-at before w0 r st.at)) front in
    let within : IsWithin before w r1 = record {
      text = h.text;
      front = h.front;
      written = h.written;
      link = h.link;
      told = h.told;
      given = h.given;
      spent = h.spent;
      made = h.made;
      key =
          subst (λ (z : SignerState). LivesOn h.spent before.signer z before.moments newer) (sym signer)
          (subst (λ (z : List Moment). LivesOn h.spent before.signer v0.signer before.moments z) (sym moments) h.key);
    } in
    let grows : Grows r1 (served s (Writes turn ∷ rest) r) = subst (λ (z : ServeState). Grows r1 z) (sym (served-cons s (Writes turn) rest r)) (grows-served s rest r1) in
    subst (λ (f : ServeFault). Serves s before (Writes turn ∷ rest) r w (Err f)) (sym fault) (inl (breaks-off s before (Writes turn ∷ rest) r r1 w within grows))
