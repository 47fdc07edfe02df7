-- How one call of the node is served.
use Rattle.std.proofs.Common.{◌≡◌, ◌<◌, ◌≤◌, arith, ℕ, inl, inr, true, false, List, [], ◌∷◌, Option, Some, None, Result, Ok, Err, refl, sym, ap, ◌∙◌, subst, cond}
use Rattle.std.proofs.lemmas.Bool.{false≢true}
use Rattle.std.specs.Result.{is_err}
use Rattle.std.specs.Prelude.{Bool, IfErr, OnOk, nat_lt}
use Rattle.std.proofs.lemmas.Bool.Decides.{nat_tests}
use Rattle.journal.specs.declared.event.Event as journal
use Rattle.ports.specs.Disk.{Moment}
use Rattle.ports.specs.Link.{LinkState}
use Rattle.signer.specs.Lives.{Spent}
use Rattle.signer.specs.Signing.{SignerState}
use Rattle.node_core.specs.Spending.{LivesOn, SpendsIn, spent_told}
use Rattle.node_core.proofs.SpendLemmas.{lives-trans}
use Rattle.node_core.specs.declared.NodeFault.{NodeFault}
use Rattle.node_core.specs.declared.NodeFault.TheVariants as node
use Rattle.node_core.specs.Playing.{Kept, IsNode, KeepsCertificates}
use Rattle.std.specs.Option.{option_and_then, option_map}
use Rattle.ff_ids.specs.declared.summary.RecordKey.TheVariants as keys
use Rattle.records.specs.declared.CertBody.{CertBody}
use Rattle.records.specs.declared.Body.TheVariants.{Certificate}
use Rattle.records.specs.declared.Record.{Record}
use Rattle.validate.specs.Certified.{Certificates, certificate_of as kept_certificate}
use Rattle.node_core.specs.Told.{IsPrefix}
use Rattle.node_core.specs.Answers.{CallerBuffers, GivesCall}
use Rattle.node_rules.specs.Nodes.{Setting, Node, Holding, certificate_in, certificate_of, state_of}
use Rattle.node_rules.specs.Calls.{Call}
use Rattle.node_rules.specs.OnDisks.{Input, Ticks, IsCut}
use Rattle.node_rules.specs.Lives.{call_of}
use Rattle.node_loop.specs.declared.fault.ServeFault.{ServeFault}
use Rattle.node_loop.specs.declared.fault.ServeFault.TheVariants as faults
use Rattle.turn_rules.specs.Turns.{Act, Calls}
use Rattle.node_loop.specs.Courses.{ServeState, acted, gives, moves, served, tells_all}
use Rattle.turn_rules.specs.Courses.{may_tick}
use Rattle.node_loop.specs.Writing.{Answers, Before, Extends, IsAt, IsBeyond, IsWithin, Settles, Standing, Stands, Tells, standing}
use Rattle.node_loop.specs.Serving.{IsStarved, IsStopped, KeepsHeld, Serves, starves}
use Rattle.node_loop.proofs.CourseLemmas.{Grows, grows-refl, grows-tells_all, node-gives, served-cons, served-nil, tells_all-append}
use Rattle.node_loop.proofs.TellLemmas.{at-within, beyond, within-grows}
use Rattle.node_loop.proofs.ServeLemmas.{breaks-off}

-- ---- numbers

below-lt : (m k : ℕ) → m < k → nat_lt m k ≡ true
below-lt m k lt = grind (arith, nat_tests)

above-lt : (m k : ℕ) → k ≤ m → nat_lt m k ≡ false
above-lt m k le = grind (arith, nat_tests)

-- ---- what is answered

pub answered : (done : Result (Unit {0}) NodeFault) (answer : Result (Unit {0}) ServeFault) (P : Type 0) → Answers done answer → OnOk done P → OnOk answer P
answered (Ok x) (Ok y) P answers p = p
answered (Err fault) (Ok y) P answers p = absurd (false≢true answers)
answered done (Err e) P answers p = record {}

pub goes-on : (done : Result (Unit {0}) NodeFault) (answer : Result (Unit {0}) ServeFault) (ended : Bool) → Answers done answer → ended ≡ is_err done → OnOk answer (ended ≡ false)
goes-on (Ok x) (Ok y) ended answers is = is
goes-on (Err fault) (Ok y) ended answers is = absurd (false≢true answers)
goes-on done (Err e) ended answers is = record {}

pub stopped-by : (done : Result (Unit {0}) NodeFault) (answer : Result (Unit {0}) ServeFault) (P : Type 0) → Answers done answer → IfErr done (λ e. e ≡ node.StoreFault → P) → IfErr answer (λ e. e ≡ faults.StoreFault → P)
stopped-by done (Ok y) P answers p = record {}
stopped-by done (Err faults.StoreFault) P answers p = λ same. subst (λ (r : Result (Unit {0}) NodeFault). IfErr r (λ e. e ≡ node.StoreFault → P)) answers p refl
stopped-by done (Err faults.WriteFault) P answers p = λ same. cc
stopped-by done (Err faults.OutOfMemory) P answers p = λ same. cc

-- the fault of a call
pub answers-fault : (fault : NodeFault) (e : ServeFault) → (e ≡ faults.StoreFault → fault ≡ node.StoreFault) → Answers (Err fault) (Err e)
answers-fault fault faults.StoreFault same = ap Err (same refl)
answers-fault fault faults.WriteFault same = tt
answers-fault fault faults.OutOfMemory same = tt

-- what was reported broke off
pub answers-untold : (done : Result (Unit {0}) NodeFault) (e : ServeFault) → (e ≡ faults.StoreFault → ⊥) → Answers done (Err e)
answers-untold done faults.StoreFault other = absurd (other refl)
answers-untold done faults.WriteFault other = tt
answers-untold done faults.OutOfMemory other = tt

-- all was reported, whatever the answer
pub settles-at : (before : Before) (w : Standing) (r : ServeState) (answer : Result (Unit {0}) ServeFault) → IsAt before w r → Settles before w r answer
settles-at before w r (Ok x) at = at
settles-at before w r (Err faults.StoreFault) at = at
settles-at before w r (Err faults.WriteFault) at = at-within before w r at
settles-at before w r (Err faults.OutOfMemory) at = at-within before w r at

-- what was reported, or broke off
pub told-settles : (before : Before) (w : Standing) (r : ServeState) (answer : Result (Unit {0}) ServeFault) → Tells before w r answer → Settles before w r answer
told-settles before w r (Ok x) h = h
told-settles before w r (Err faults.StoreFault) h = absurd h
told-settles before w r (Err faults.WriteFault) h = h
told-settles before w r (Err faults.OutOfMemory) h = h

-- ---- what a call comes to

-- what the call reported is what its signatures are
pub told-spent : (events told : List journal.Event) (spent : List Spent) (s later : SignerState) (older newer : List Moment) → events ≡ told → spent_told events ≡ spent → LivesOn spent s later older newer → LivesOn (spent_told told) s later older newer
told-spent events told spent s later older newer e so lives = subst (λ (xs : List Spent). LivesOn xs s later older newer) (sym so ∙ ap spent_told e) lives

-- the node has come to this, and made these signatures
came-to : (s : Setting) (before : Before) (v0 v : Kept) (link : Option LinkState) (taken : Option (List ℕ)) (older newer : List Moment) (sent : ℕ) (r : ServeState) (there : Node) (spent : List Spent)
    → Stands s before (standing v0 link taken older sent) r → ((m : ℕ) → kept_certificate v.roster m ≡ certificate_of there m) → LivesOn spent v0.signer v.signer older newer
    → IsAt before (standing v link taken newer sent) (starves there spent r)
came-to s before v0 v link taken older newer sent r there spent st knows lives = record {
  knows = knows;
  link = st.at.link;
  text = st.at.text;
  sent = st.at.sent;
  key = lives-trans r.spent spent before.signer v0.signer v.signer before.moments older newer st.at.key lives;
}

-- the node stands where the call does
pub moved : (s : Setting) (before : Before) (v0 v : Kept) (link : Option LinkState) (taken : Option (List ℕ)) (older newer : List Moment) (sent : ℕ) (r : ServeState) (c : Call)
    → Stands s before (standing v0 link taken older sent) r → IsNode s v c.node → LivesOn (spent_told c.told) v0.signer v.signer older newer
    → IsAt before (standing v link taken newer sent) (moves c r)
moved s before v0 v link taken older newer sent r c st is lives = came-to s before v0 v link taken older newer sent r c.node (spent_told c.told) st is.roster lives

pub gives-is : (c : Call) (r : ServeState) → gives c r ≡ tells_all c.told (moves c r)
unfolding gives
gives-is c r = refl

pub served-one : (s : Setting) (act : Act) (r : ServeState) → served s (act ∷ []) r ≡ acted s r act
served-one s act r = served-cons s act [] r ∙ served-nil s (acted s r act)

-- what a call reported was reported
pub told-so : (before : Before) (w : Standing) (r : ServeState) (c : Call) (events : List journal.Event) (answer : Result (Unit {0}) ServeFault)
    → events ≡ c.told → Settles before w (tells_all events (moves c r)) answer → Settles before w (gives c r) answer
told-so before w r c events answer e h =
    let r1 : ServeState = moves c r in
    subst (λ x. Settles before w x answer) (ap (λ es. tells_all es r1) e ∙ sym (gives-is c r)) h

-- the node stands for that of the call
stands-gives : (s : Setting) (before : Before) (w : Standing) (r : ServeState) (c : Call) → IsNode s w.node c.node → IsAt before w (gives c r) → Stands s before w (gives c r)
stands-gives s before w r c is at = record { node = subst (λ n. IsNode s w.node n) (sym (node-gives c r)) is; at = at }

done-other : (x : Unit {0}) → ◌≡◌ {A = Result (Unit {0}) NodeFault} (Ok x) (Err node.StoreFault) → ⊥
done-other x is = cc

-- the whole call
pub whole-call : (s : Setting) (before : Before) (w : Standing) (r : ServeState) (input : Input) (c : Call) (x : Unit {0}) (answer : Result (Unit {0}) ServeFault)
    → acted s r (Calls input) ≡ gives c r → IsNode s w.node c.node → Answers (Ok x) answer → Settles before w (gives c r) answer → Serves s before (Calls input ∷ []) r w answer
whole-call s before w r input c x (Ok y) is node answers h = subst (λ z. Stands s before w z) (sym (served-one s (Calls input) r ∙ is)) (stands-gives s before w r c node h)
whole-call s before w r input c x (Err faults.StoreFault) is node answers h = absurd (done-other x answers)
whole-call s before w r input c x (Err faults.WriteFault) is node answers h =
    inl (breaks-off s before (Calls input ∷ []) r (gives c r) w h (subst (λ z. Grows (gives c r) z) (sym (served-one s (Calls input) r ∙ is)) (grows-refl (gives c r))))
whole-call s before w r input c x (Err faults.OutOfMemory) is node answers h =
    inl (breaks-off s before (Calls input ∷ []) r (gives c r) w h (subst (λ z. Grows (gives c r) z) (sym (served-one s (Calls input) r ∙ is)) (grows-refl (gives c r))))

stopped-one : (s : Setting) (r : ServeState) (input : Input) (c : Call) → IsCut s r.node input c → IsStopped s (Calls input ∷ []) r (gives c r)
stopped-one s r input c cut = record {
  done = [];
  input = input;
  later = [];
  call = c;
  split = refl;
  cut = subst (λ (z : ServeState). IsCut s z.node input c) (sym (served-nil s r)) cut;
  is = ap (gives c) (sym (served-nil s r));
}

-- the call up to where the disk failed
pub cut-call : (s : Setting) (before : Before) (w : Standing) (r : ServeState) (input : Input) (c : Call) (answer : Result (Unit {0}) ServeFault)
    → IsCut s r.node input c → IsNode s w.node c.node → Answers (Err node.StoreFault) answer → Settles before w (gives c r) answer → Serves s before (Calls input ∷ []) r w answer
cut-call s before w r input c (Ok y) cut is answers h = absurd (false≢true answers)
cut-call s before w r input c (Err faults.StoreFault) cut is answers h = record { whole = gives c r; stopped = stopped-one s r input c cut; at = stands-gives s before w r c is h }
cut-call s before w r input c (Err faults.WriteFault) cut is answers h = inl (record { whole = gives c r; is = inr (stopped-one s r input c cut); within = h })
cut-call s before w r input c (Err faults.OutOfMemory) cut is answers h = inl (record { whole = gives c r; is = inr (stopped-one s r input c cut); within = h })

-- ---- memory was refused in a call

-- a record with this certificate, which nobody has signed
unsigned : CertBody → Record
unsigned c = record { body = Certificate c; signature = [] }

-- of the records only the certificates that are kept
only-certificates : Certificates → Holding
only-certificates roster (keys.Certificate m) = option_map unsigned (kept_certificate roster m)
only-certificates roster (keys.Note m) = None
only-certificates roster (keys.Accusation m ring) = None
only-certificates roster (keys.Removal m) = None

abbrev knowing : Certificates → Node → Node
knowing roster n = record n { held = only-certificates roster }

read-back : (kept : Option CertBody) → kept ≡ option_and_then (λ (r : Record). certificate_in r.body) (option_map unsigned kept)
unfolding unsigned
read-back None = refl
read-back (Some c) = refl

knows-kept : (roster : Certificates) (n : Node) (m : ℕ) → kept_certificate roster m ≡ certificate_of (knowing roster n) m
unfolding certificate_of only-certificates
knows-kept roster n m = read-back (kept_certificate roster m)

-- what was settled broke off
untold : (before : Before) (w : Standing) (r : ServeState) (e : ServeFault) → (e ≡ faults.StoreFault → ⊥) → Settles before w r (Err e) → IsWithin before w r
untold before w r faults.StoreFault other h = absurd (other refl)
untold before w r faults.WriteFault other h = h
untold before w r faults.OutOfMemory other h = h

-- a front of the events
pub told-front : (before : Before) (w : Standing) (r : ServeState) (events all : List journal.Event) → IsPrefix events all → IsWithin before w (tells_all events r) → IsWithin before w (tells_all all r)
told-front before w r events all front h =
    within-grows before w (tells_all events r) (tells_all all r) h
    (subst (λ x. Grows (tells_all events r) x) (sym (ap (λ es. tells_all es r) front.is ∙ tells_all-append events front.more r)) (grows-tells_all front.more (tells_all events r)))

starved-one : (s : Setting) (before : Before) (w : Standing) (r : ServeState) (input : Input) (there : Node) (spent : List Spent) → w.node.ended ≡ true → IsBeyond before w r
    → ((m : ℕ) → kept_certificate w.node.roster m ≡ certificate_of there m) → KeepsHeld r w → IsWithin before w (tells_all (call_of s r.node input).told (starves there spent r)) → IsStarved s before (Calls input ∷ []) r w
starved-one s before w r input there spent over far knows holds within = record {
  done = [];
  input = input;
  later = [];
  split = refl;
  over = over;
  beyond = subst (λ z. IsBeyond before w z) (sym (served-nil s r)) far;
  there = there;
  knows = knows;
  holds = subst (λ (z : ServeState). KeepsHeld z w) (sym (served-nil s r)) holds;
  spent = spent;
  within = subst (λ (z : ServeState). IsWithin before w (tells_all (call_of s z.node input).told (starves there spent z))) (sym (served-nil s r)) within;
}

refused-other : ◌≡◌ {A = Result (Unit {0}) NodeFault} (Err node.OutOfMemory) (Err node.StoreFault) → ⊥
refused-other is = cc

write-other : faults.WriteFault ≡ faults.StoreFault → ⊥
write-other is = cc

memory-other : faults.OutOfMemory ≡ faults.StoreFault → ⊥
memory-other is = cc

starved-so : (s : Setting) (before : Before) (w : Standing) (r : ServeState) (input : Input) (answer : Result (Unit {0}) ServeFault) → Answers (Err node.OutOfMemory) answer
    → ((e : ServeFault) → (e ≡ faults.StoreFault → ⊥) → answer ≡ Err e → IsStarved s before (Calls input ∷ []) r w) → Serves s before (Calls input ∷ []) r w answer
starved-so s before w r input (Ok y) answers h = absurd (false≢true answers)
starved-so s before w r input (Err faults.StoreFault) answers h = absurd (refused-other answers)
starved-so s before w r input (Err faults.WriteFault) answers h = inr (h faults.WriteFault write-other refl)
starved-so s before w r input (Err faults.OutOfMemory) answers h = inr (h faults.OutOfMemory memory-other refl)

-- a call for which memory was refused
pub starved-call : (s : Setting) (before : Before) (v0 v : Kept) (link later : Option LinkState) (taken after : Option (List ℕ)) (older newer : List Moment) (sent sent1 : ℕ) (r : ServeState) (input : Input)
    (events : List journal.Event) (spent : List Spent) (answer : Result (Unit {0}) ServeFault)
    → Stands s before (standing v0 link taken older sent) r → KeepsCertificates v0.roster v.roster → v.ended ≡ true → LivesOn spent v0.signer v.signer older newer → IsPrefix events (call_of s r.node input).told
    → Answers (Err node.OutOfMemory) answer → Extends taken after link later
    → ((r1 : ServeState) → IsAt before (standing v link taken newer sent) r1 → Settles before (standing v later after newer sent1) (tells_all events r1) answer)
    → Serves s before (Calls input ∷ []) r (standing v later after newer sent1) answer
starved-call s before v0 v link later taken after older newer sent sent1 r input events spent answer st keeps over lives front answers more settles =
    let w : Standing = standing v later after newer sent1 in
    let there : Node = knowing v.roster r.node in
    let r1 : ServeState = starves there spent r in
    let at = came-to s before v0 v link taken older newer sent r there spent st (knows-kept v.roster r.node) lives in
    starved-so s before w r input answer answers (λ e other is.
    starved-one s before w r input there spent over (beyond before v0 v link later taken after older newer sent sent1 r spent st.at more lives) (knows-kept v.roster r.node) (λ m c held. keeps m c (st.node.roster m ∙ held))
    (told-front before w r1 events (call_of s r.node input).told front (untold before w (tells_all events r1) e other (subst (λ x. Settles before w (tells_all events r1) x) is (settles r1 at)))))

-- ---- the calls

abbrev pub lent : List journal.Event → List (ℕ × List ℕ) → CallerBuffers
lent events sent = record { events = events; sent = sent }

-- with nothing lent before
pub lent-none : (P : CallerBuffers → Type 0) (es : List journal.Event) (os : List (ℕ × List ℕ)) → es ≡ [] → os ≡ [] → P (lent es os) → P (lent [] [])
lent-none P es os no_events no_sent h = subst (λ (xs : List journal.Event). P (lent xs [])) no_events (subst (λ (xs : List (ℕ × List ℕ)). P (lent es xs)) no_sent h)

pub serves-call : (s : Setting) (before : Before) (v0 v : Kept) (link later : Option LinkState) (taken after : Option (List ℕ)) (older newer : List Moment) (sent sent1 : ℕ) (r : ServeState) (input : Input)
    (events : List journal.Event) (out : List (ℕ × List ℕ)) (done : Result (Unit {0}) NodeFault) (answer : Result (Unit {0}) ServeFault)
    → Stands s before (standing v0 link taken older sent) r → acted s r (Calls input) ≡ gives (call_of s r.node input) r → GivesCall s r.node input v (lent [] []) (lent events out) done
    → KeepsCertificates v0.roster v.roster → v.ended ≡ is_err done → SpendsIn done v0.signer v.signer older newer [] events → Answers done answer → Extends taken after link later
    → ((r1 : ServeState) → IsAt before (standing v link taken newer sent) r1 → Settles before (standing v later after newer sent1) (tells_all events r1) answer)
    → Serves s before (Calls input ∷ []) r (standing v later after newer sent1) answer
serves-call s before v0 v link later taken after older newer sent sent1 r input events out (Ok x) answer st acts d keeps over spends answers more settles =
    let c = call_of s r.node input in
    let lives = told-spent events c.told spends.spent v0.signer v.signer older newer d.told (ap spent_told spends.after_is ∙ spends.tells) spends.key in
    whole-call s before (standing v later after newer sent1) r input c x answer acts d.is answers
    (told-so before (standing v later after newer sent1) r c events answer d.told (settles (moves c r) (moved s before v0 v link taken older newer sent r c st d.is lives)))
serves-call s before v0 v link later taken after older newer sent sent1 r input events out (Err node.StoreFault) answer st acts d keeps over spends answers more settles =
    let c = d.call in
    let lives = told-spent events c.told spends.spent v0.signer v.signer older newer d.gives.told (ap spent_told spends.after_is ∙ spends.tells) spends.key in
    cut-call s before (standing v later after newer sent1) r input c answer d.cut d.gives.is answers
    (told-so before (standing v later after newer sent1) r c events answer d.gives.told (settles (moves c r) (moved s before v0 v link taken older newer sent r c st d.gives.is lives)))
serves-call s before v0 v link later taken after older newer sent sent1 r input events out (Err node.OutOfMemory) answer st acts d keeps over spends answers more settles =
    starved-call s before v0 v link later taken after older newer sent sent1 r input events spends.spent answer st keeps over spends.key
    (subst (λ es. IsPrefix es (call_of s r.node input).told) (sym d.events_added) d.events_front) answers more settles
serves-call s before v0 v link later taken after older newer sent sent1 r input events out (Err (node.Exhausted next)) answer st acts d keeps over spends answers more settles = absurd d
serves-call s before v0 v link later taken after older newer sent sent1 r input events out (Err node.Ended) answer st acts d keeps over spends answers more settles = absurd d

pub tick-acted : (s : Setting) (r : ServeState) → may_tick s r.node ≡ true → acted s r (Calls Ticks) ≡ gives (call_of s r.node Ticks) r
tick-acted s r may = ap (λ b. cond b (gives (call_of s r.node Ticks) r) r) may

-- whether a tick can be counted
pub may-count : (s : Setting) (before : Before) (w : Standing) (r : ServeState) → Stands s before w r → w.node.membership.moment < 18446744073709551615 → may_tick s r.node ≡ true
may-count s before w r at lt = let same = at.node.holds.moment_same in below-lt (state_of s r.node).moment 18446744073709551615 (omega (arith, same, lt))

pub may-not : (s : Setting) (before : Before) (w : Standing) (r : ServeState) → Stands s before w r → 18446744073709551615 ≤ w.node.membership.moment → may_tick s r.node ≡ false
may-not s before w r at le = let same = at.node.holds.moment_same in above-lt (state_of s r.node).moment 18446744073709551615 (omega (arith, same, le))

-- a tick that can't be counted is none
pub no-tick : (s : Setting) (before : Before) (w : Standing) (r : ServeState) → may_tick s r.node ≡ false → Stands s before w r → Serves s before (Calls Ticks ∷ []) r w (Ok tt)
no-tick s before w r not at =
    let is : acted s r (Calls Ticks) ≡ r = ap (λ b. cond b (gives (call_of s r.node Ticks) r) r) not in
    subst (λ z. Stands s before w z) (sym (served-one s (Calls Ticks) r ∙ is)) at
