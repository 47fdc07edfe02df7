-- What a call gives, by its answer.
use Rattle.std.proofs.Common.{◌≡◌, ℕ, Bool, true, false, inl, inr, List, ◌++◌, refl, ap, sym, ◌∙◌, subst, Result, Ok, Err, take}
use Rattle.std.specs.Prelude.{IfErr, OnOk, is_err}
use Rattle.ports.specs.Count.{counted}
use Rattle.std.proofs.lemmas.Bool.{cases_Bool}
use Rattle.datagram.specs.Grammar.{read_of}
use Rattle.node_rules.specs.Nodes.{Setting, Node}
use Rattle.node_rules.specs.Calls.{Call, begun}
use Rattle.node_rules.specs.Deliveries.{hears, handles, handles_all, delivered}
use Rattle.node_rules.specs.OnDisks.{Input, Delivers, IsCut}
use Rattle.node_rules.specs.Lives.{call_of}
use Rattle.node_rules.proofs.Called.{cut-answering, until-is}
use Rattle.validate.specs.Certified.{certificate_of as kept_certificate}
use Rattle.node_core.specs.declared.NodeFault.{NodeFault}
use Rattle.node_core.specs.declared.NodeFault.TheVariants as faults
use Rattle.node_core.specs.Playing.{Grows, Kept, KeepsCertificates, IsNode, IsAt, IsBehind, Plays, Stops}
use Rattle.node_core.specs.Hears.{RunsHearing}
use Rattle.node_core.specs.Answers.{CallerBuffers, Gives, GivesFront, MayStop, Stands, GivesCall}
use Rattle.journal.specs.declared.event.Event as journal
use Rattle.node_core.specs.Told.{IsPrefix}
use Rattle.node_core.proofs.TellingLemmas.{front-behind}

pub gives-from : (s : Setting) (v1 v2 : Kept) (old new : CallerBuffers) (c : Call) → IsAt s old.events old.sent v1 c → v2 ≡ record v1 { telling = v2.telling; ended = v2.ended }
    → new.events ≡ v1.telling.events → new.sent ≡ v1.telling.sent → Gives s v2 old new c
gives-from s v1 v2 old new c at same events sent =
    let n = at.is in
    record {
      is = subst (λ v. IsNode s v c.node) (sym same) (record { setting = n.setting; holds = n.holds; stored = n.stored; records = n.records; roster = n.roster; probes = n.probes; news = n.news; since = n.since });
      told = events ∙ at.told;
      sent = sent ∙ at.sent;
    }

delivered-is : (s : Setting) (n : Node) (bytes : List ℕ) → delivered s n bytes ≡ hears s (read_of bytes) (begun n)
unfolding delivered
delivered-is s n bytes = refl

-- a front of what was due was given
pub front-given : (v : Kept) (old new : CallerBuffers) (c : Call) → IsBehind old.events old.sent v c → new.events ≡ v.telling.events → new.sent ≡ v.telling.sent → Stands old new → GivesFront old new c
front-given v old new c behind events sent stands = record {
  events = stands.events.more;
  sent = stands.sent.more;
  events_added = stands.events.is;
  sent_added = stands.sent.is;
  events_front = front-behind old.events stands.events.more c.told new.events stands.events.is (subst (λ (xs : List journal.Event). IsPrefix xs (old.events ++ c.told)) (sym events) behind.told);
  sent_front = front-behind old.sent stands.sent.more c.sent new.sent stands.sent.is (subst (λ (xs : List (ℕ × List ℕ)). IsPrefix xs (old.sent ++ c.sent)) (sym sent) behind.sent);
}

-- A call was made, or it ended in a put that failed, if memory sufficed.
abbrev pub RunsCall : Type 0 → (Call → Type 0) → (Call → Call → Type 0) → Setting → Node → Input → Result (Unit {0}) NodeFault → Type 0
RunsCall Sufficed P Q s n i (Ok done) = P (call_of s n i)
RunsCall Sufficed P Q s n i (Err fault) = (c : Call) × ((Sufficed → IsCut s n i c) × Q (call_of s n i) c)

pub hearing-ran : (s : Setting) (es : List journal.Event) (os : List (ℕ × List ℕ)) (n : Node) (bytes : List ℕ) (v : Kept) (done : Result (Unit {0}) NodeFault)
    → RunsHearing (Plays s es os v) (Stops s es os v) s (read_of bytes) (begun n) done → RunsCall (v.telling.failed ≡ false) (Plays s es os v) (Stops s es os v) s n (Delivers bytes) done
hearing-ran s es os n bytes v (Ok x) ran = subst (Plays s es os v) (sym (delivered-is s n bytes)) ran
hearing-ran s es os n bytes v (Err e) ran =
    let c : Call = handles false s (handles_all s (take ran.place ran.records) (begun n)) ran.at in (
      c,
      (
        λ fine. cut-answering s n bytes c
            (record {
              from = ran.from;
              records = ran.records;
              read = ran.is;
              place = ran.place;
              at = ran.at;
              found = ran.found;
              is = sym (until-is s n (take ran.place ran.records) ran.at);
              over = ran.runs.ended fine;
            }),
        subst (λ (x : Call). Stops s es os v x c) (sym (delivered-is s n bytes)) ran.runs,
      ),
    )

by_answer : (s : Setting) (n : Node) (i : Input) (v1 v2 : Kept) (old new : CallerBuffers) (done : Result (Unit {0}) NodeFault)
    → RunsCall (v1.telling.failed ≡ false) (Plays s old.events old.sent v1) (Stops s old.events old.sent v1) s n i done → IfErr done (λ e. e ≡ faults.StoreFault) → v1.telling.failed ≡ false
    → v2 ≡ record v1 { telling = v2.telling; ended = v2.ended } → new.events ≡ v1.telling.events → new.sent ≡ v1.telling.sent → GivesCall s n i v2 old new done
by_answer s n i v1 v2 old new (Ok x) ran cause fine same events sent = gives-from s v1 v2 old new (call_of s n i) (ran.at fine) same events sent
by_answer s n i v1 v2 old new (Err e) ran cause fine same events sent =
    subst (λ f. GivesCall s n i v2 old new (Err f)) (sym cause)
    (record { call = ran.0; cut = ran.1.0 fine; gives = gives-from s v1 v2 old new ran.0 (ran.1.1.at fine) same events sent })

due-of : (s : Setting) (n : Node) (i : Input) (v1 : Kept) (es : List journal.Event) (os : List (ℕ × List ℕ)) (done : Result (Unit {0}) NodeFault)
    → RunsCall (v1.telling.failed ≡ false) (Plays s es os v1) (Stops s es os v1) s n i done → v1.telling.failed ≡ true → IsBehind es os v1 (call_of s n i)
due-of s n i v1 es os (Ok x) ran failed = ran.due
due-of s n i v1 es os (Err e) ran failed = ran.1.1.due failed

pub gives-by : (s : Setting) (n : Node) (i : Input) (v1 v2 : Kept) (old new : CallerBuffers) (done answer : Result (Unit {0}) NodeFault)
    → RunsCall (v1.telling.failed ≡ false) (Plays s old.events old.sent v1) (Stops s old.events old.sent v1) s n i done → IfErr done (λ e. e ≡ faults.StoreFault)
    → (v1.telling.failed ≡ true → answer ≡ Err faults.OutOfMemory) → (v1.telling.failed ≡ false → answer ≡ done)
    → v2 ≡ record v1 { telling = v2.telling; ended = v2.ended } → new.events ≡ v1.telling.events → new.sent ≡ v1.telling.sent → Stands old new → GivesCall s n i v2 old new answer
gives-by s n i v1 v2 old new done answer ran cause memory going same events sent stands =
    elim (cases_Bool v1.telling.failed) [
      | inl failed ↦ subst (λ r. GivesCall s n i v2 old new r) (sym (memory failed)) (front-given v1 old new (call_of s n i) (due-of s n i v1 old.events old.sent done ran failed) events sent stands)
      | inr fine ↦ subst (λ r. GivesCall s n i v2 old new r) (sym (going fine)) (by_answer s n i v1 v2 old new done ran cause fine same events sent)
    ]

calm-done : (done : Result (Unit {0}) NodeFault) (x y : ℕ) → y ≡ counted (is_err done) x → OnOk done (y ≡ x)
calm-done (Ok d) x y counts = counts
calm-done (Err e) x y counts = record {}

-- Where a call is answered no call of the disk has failed.
-- only a put that failed and memory that was refused stop a call that ran
pub stops-by : (done answer : Result (Unit {0}) NodeFault) (failed : Bool) → IfErr done (λ e. e ≡ faults.StoreFault)
    → (failed ≡ true → answer ≡ Err faults.OutOfMemory) → (failed ≡ false → answer ≡ done) → IfErr answer MayStop
stops-by done answer failed cause memory going =
    elim (cases_Bool failed) [
      | inl is ↦ subst (λ (r : Result (Unit {0}) NodeFault). IfErr r MayStop) (sym (memory is)) tt
      | inr fine ↦ subst (λ (r : Result (Unit {0}) NodeFault). IfErr r MayStop) (sym (going fine)) (by done cause)
    ]
  where
    by : (done : Result (Unit {0}) NodeFault) → IfErr done (λ e. e ≡ faults.StoreFault) → IfErr done MayStop
    by (Ok x) cause = record {}
    by (Err e) cause = subst MayStop (sym cause) tt

-- what the steps of a call kept is kept by the call
pub kept-by : (w v0 v1 v2 : Kept) → v0.roster ≡ w.roster → Grows v0 v1 → v2.roster ≡ v1.roster → KeepsCertificates w.roster v2.roster
kept-by w v0 v1 v2 same grows last m c is = ap (λ r. kept_certificate r m) last ∙ grows.roster m c (ap (λ r. kept_certificate r m) same ∙ is)

pub calm-by : (done answer : Result (Unit {0}) NodeFault) (failed : Bool) (x y : ℕ) → y ≡ counted (is_err done) x
    → (failed ≡ true → answer ≡ Err faults.OutOfMemory) → (failed ≡ false → answer ≡ done) → OnOk answer (y ≡ x)
calm-by done answer failed x y counts memory going =
    elim (cases_Bool failed) [
      | inl is ↦ subst (λ r. OnOk r (y ≡ x)) (sym (memory is)) (record {})
      | inr fine ↦ subst (λ r. OnOk r (y ≡ x)) (sym (going fine)) (calm-done done x y counts)
    ]
