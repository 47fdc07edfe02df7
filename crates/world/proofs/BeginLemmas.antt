-- A life that began in a world.
use Rattle.std.proofs.Common.{◌≡◌, ℕ, ◌+◌, List, [], ◌∷◌, ◌++◌, length, Some, refl, ap, sym, ◌∙◌, subst, append-nil}
use Rattle.std.specs.Prelude.{fold, Result, Ok, Err, OnOk}
use Rattle.std.proofs.Math.ListN.{set}
use Rattle.journal.specs.declared.event.Event as journal
use Rattle.node_rules.specs.Calls.{Call}
use Rattle.world_rules.specs.Settings.{Setting}
use Rattle.world_rules.specs.Counts.{Counts as Counted, counts_of, with_event}
use Rattle.world_rules.specs.Steps.{Answer, Execution, NodeEvent, begun, first_call, in_host, starts as begins_so, told_in, with_call}
use Rattle.world_rules.specs.declared.verdict.Verdict.TheVariants as verdicts
use Rattle.world_rules.specs.Walk.{behind_line}
use Rattle.world_rules.specs.Worlds.{Host, World as ModelWorld, spent_of}
use Rattle.world_host.specs.declared.starting.Started.TheVariants as starts
use Rattle.world_host.specs.Answers.{StartsNode, begun_place, opened_place, spent_in}
use Rattle.world_host.specs.Holding.{HoldsHost}
use Rattle.world_host.specs.Hosts.{HostState}
use Rattle.world.specs.declared.counts.Counts as counted
use Rattle.world.specs.declared.fault.WorldFault.{WorldFault}
use Rattle.world.specs.declared.fault.WorldFault.TheVariants as faults
use Rattle.world.specs.Counting.{AreKept, kept}
use Rattle.world.specs.Courses.{IsPlace, Replies, WritesText, began_text, behind_text, starts_if_left}
use Rattle.world.specs.Holding.{Holds, Kept}
use Rattle.world.specs.Telling.{told_lines}
use Rattle.world.proofs.CallLemmas.{holds-called}

-- The answer of the rules, the world behind it, and what is written.
pub record Begun (s : Setting) (w : ModelWorld) (before : List NodeEvent) (v : Kept) (m at life : ℕ) (later : HostState) (events : List journal.Event) (kept : counted.Counts) : Type 0 where
  pub answer : Answer
  pub same : starts_if_left s m w ≡ answer
  pub holds : Holds s answer.world (before ++ answer.told) (record v { hosts = set v.hosts at later; sent = v.sent; counts = kept })
  pub text : behind_text answer ≡ began_text life m (length v.sent) events

pub begun-so : (s : Setting) (w : ModelWorld) (before : List NodeEvent) (v : Kept) (m at life : ℕ) (later : HostState) (events : List journal.Event) (kept : counted.Counts) → (h : Holds s w (before ++ []) v) → IsPlace v at m → later.member ≡ m
    → StartsNode s h.kinds (w.hosts m) (spent_of w (Some m)) later (Ok (starts.Began life events)) → AreKept kept (fold (λ z e. with_event s z e.what) (counts_of s (before ++ [])) events) → Begun s w before v m at life later events kept
unfolding begins_so
begun-so s w before v m at life later events kept h there own st counts =
    let opened : Host = opened_place (w.hosts m) in
    let call_by : ℕ → Call = λ k. first_call s k (w.hosts m).disk.state in
    let call : Call = call_by m in
    let d : Execution = in_host m (begun_place opened call) (with_call m call (begun w)) in
    let told : events ≡ call.told = st.1.told ∙ ap (λ (k : ℕ). (call_by k).told) own in
    let sent : call.sent ≡ [] = ap (λ (k : ℕ). (call_by k).sent) (sym own) ∙ st.1.sent in
    let held : HoldsHost s h.kinds (begun_place opened call) (spent_of w (Some m) ++ spent_in m call.told) later =
    subst (λ (es : List journal.Event). HoldsHost s h.kinds (begun_place opened call) (spent_of w (Some m) ++ spent_in m es) later) told
    (subst (λ (k : ℕ). HoldsHost s h.kinds (begun_place opened (call_by k)) (spent_of w (Some m) ++ spent_in k events) later) own st.1.holds) in
    let line : ℕ → ℕ → List journal.Event → List ℕ = λ number n es. behind_line (Some (verdicts.Began number)) ++ 10 ∷ [] ++ told_lines (told_in m n es) in
    record {
      answer = record { world = d.world; verdict = Some (verdicts.Began (length opened.past + 1)); told = d.told };
      same = rw st.1.left (rw st.0 (rw st.1.passes refl));
      holds = holds-called s (begun w) before v m at later (begun_place opened call) call v.sent kept h there own held (sym (ap (λ (z : List (ℕ × List ℕ)). v.sent ++ z) sent ∙ append-nil v.sent))
          (subst (λ (es : List journal.Event). AreKept kept (fold (λ z e. with_event s z e.what) (counts_of s (before ++ [])) es)) told counts);
      text = ap (λ (n : ℕ). line n (length w.sent) call.told) (sym st.1.number) ∙ ap (λ (es : List journal.Event). line life (length w.sent) es) (sym told) ∙ ap (λ (z : List (ℕ × List ℕ)). line life (length z) events) (sym h.sent);
    }

-- ---- what was written of it

-- A life that began at a place is kept.
abbrev HoldsBegun : Setting → ModelWorld → List NodeEvent → Kept → ℕ → ℕ → HostState → List journal.Event → Type 0
HoldsBegun s w told v m life later events = (h : Holds s w told v) × StartsNode s h.kinds (w.hosts m) (spent_of w (Some m)) later (Ok (starts.Began life events))

abbrev counted_behind : Setting → List NodeEvent → List journal.Event → Counted
counted_behind s told events = fold (λ z e. with_event s z e.what) (counts_of s told) events

began-replies : (s : Setting) (w : ModelWorld) (before : List NodeEvent) (v : Kept) (old new : List ℕ) (m at life : ℕ) (later : HostState) (events : List journal.Event) (kept : counted.Counts) (result : Result (Unit {0}) WorldFault) → HoldsBegun s w (before ++ []) v m life later events
    → IsPlace v at m → later.member ≡ m → OnOk result (AreKept kept (counted_behind s (before ++ []) events)) → WritesText old new (began_text life m (length v.sent) events) result
    → Replies s before (record v { hosts = set v.hosts at later; sent = v.sent; counts = kept }) old new (Ok (starts_if_left s m w)) result
began-replies s w before v old new m at life later events kept (Ok done) h there own counts written =
    let b : Begun s w before v m at life later events kept = begun-so s w before v m at life later events kept h.0 there own h.1 counts in
    (b.answer, ap (λ (a : Answer). Ok a) b.same, record { holds = b.holds; written = written ∙ ap (λ (z : List ℕ). old ++ z) (sym b.text) })
began-replies s w before v old new m at life later events kept (Err (faults.Forged who body)) h there own counts written = absurd written
began-replies s w before v old new m at life later events kept (Err faults.OutOfMemory) h there own counts written = written

pub begun-replies : (s : Setting) (w : ModelWorld) (before : List NodeEvent) (v : Kept) (old new : List ℕ) (m at life : ℕ) (later : HostState) (events : List journal.Event) (kept : counted.Counts) (result : Result (Unit {0}) WorldFault) → (h : Holds s w before v)
    → StartsNode s h.kinds (w.hosts m) (spent_of w (Some m)) later (Ok (starts.Began life events)) → IsPlace v at m → later.member ≡ m
    → OnOk result (AreKept kept (counted_behind s before events)) → WritesText old new (began_text life m (length v.sent) events) result
    → Replies s before (record v { hosts = set v.hosts at later; sent = v.sent; counts = kept }) old new (Ok (starts_if_left s m w)) result
begun-replies s w before v old new m at life later events kept result h st there own counts written =
    let quiet : before ≡ before ++ [] = sym (append-nil before) in
    began-replies s w before v old new m at life later events kept result (subst (λ (told : List NodeEvent). HoldsBegun s w told v m life later events) quiet (h, st)) there own
    (subst (λ (told : List NodeEvent). OnOk result (AreKept kept (counted_behind s told events))) quiet counts) written
