-- A call of a node, as a part of a line.
use Rattle.std.proofs.Common.{◌≡◌, ℕ, zero, suc, List, [], ◌∷◌, ◌++◌, Option, Some, None, map, length, refl, ap, sym, ◌∙◌, subst, append-nil, append_assoc}
use Rattle.std.proofs.Math.ListN.{set}
use Rattle.std.specs.Prelude.{fold, Ok}
use Rattle.std.specs.List.{slice_get}
use Rattle.std.proofs.lemmas.List.Concat.{flat_map-append}
use Rattle.std.specs.Option.{option_map}
use Rattle.std.proofs.lemmas.Option.{slice_get-map}
use Rattle.journal.specs.declared.event.Event as journal
use Rattle.node_rules.specs.Lives.{Input}
use Rattle.world_rules.specs.Calls.{OnDisk, called_on}
use Rattle.world_rules.specs.Counts.{counts_of, with_event}
use Rattle.world_rules.specs.Settings.{Setting, setting_of}
use Rattle.world_rules.specs.Worlds.{Life, World as ModelWorld, spent_of}
use Rattle.world_rules.specs.Steps.{Execution, NodeEvent, calls, calls_running, host_after, told_in, with_input}
use Rattle.world_host.specs.Hosts.{HostState}
use Rattle.sign_keys.specs.declared.kinds.Kinds.{Kinds}
use Rattle.world_host.specs.Answers.{Calls, CallsRunning, spent_in}
use Rattle.world_host.specs.Holding.{HoldsHost}
use Rattle.world.specs.declared.counts.Counts as counted
use Rattle.world.specs.Counting.{AreKept}
use Rattle.world.specs.Telling.{call_lines, told_line, told_lines}
use Rattle.world.specs.Holding.{Holds, Kept}
use Rattle.world.specs.Courses.{At, Goes, IsPlace}
use Rattle.world.proofs.CallLemmas.{holds-called}
use Rattle.world.proofs.ChangeLemmas.{number-at}
use Rattle.world.proofs.HostLemmas.{numbers-set, host-at}
use Rattle.world.proofs.WorldLemmas.{holds-recounted}

-- What is kept behind a call of the node at this place.
abbrev pub kept_after : Kept → ℕ → HostState → List (ℕ × List ℕ) → counted.Counts → Kept
kept_after v at x sent k = record v { hosts = set v.hosts at x; sent = sent; counts = k }

set-same : (xs : List HostState) (at : ℕ) (x : HostState) → slice_get xs at ≡ Some x → set xs at x ≡ xs
set-same [] at x found = refl
set-same (y ∷ xs) zero x found = ap (λ (z : HostState). z ∷ xs) (sym (same y x found))
  where
    same : (a b : HostState) → Some a ≡ Some b → a ≡ b
    same a b e = cc
set-same (y ∷ xs) (suc at) x found = ap (λ (zs : List HostState). y ∷ zs) (set-same xs at x found)

abbrev counted_on : Setting → List NodeEvent → List journal.Event → counted.Counts → Type 0
counted_on s told events k = AreKept k (fold (λ z e. with_event s z e.what) (counts_of s told) events)

-- ---- what is kept

running-holds : (s : Setting) (before : List NodeEvent) (v : Kept) (c : Execution) (m at : ℕ) (x later : HostState) (sent : List (ℕ × List ℕ)) (k : counted.Counts) (i : Input) (events : List journal.Event) (current : Option Life) → (h : Holds s c.world (before ++ c.told) v)
    → IsPlace v at m → slice_get v.hosts at ≡ Some x → later.member ≡ m → (c.world.hosts m).current ≡ current
    → CallsRunning s h.kinds i (c.world.hosts m) (spent_of c.world (Some m)) current x later v.sent sent events → counted_on s (before ++ c.told) events k
    → let d = calls_running s m i (c.world.hosts m) current c in Holds s d.world (before ++ d.told) (kept_after v at later sent k)
running-holds s before v c m at x later sent k i events None h is found own idle called counts =
    let same : set v.hosts at later ≡ v.hosts = ap (set v.hosts at) called.2 ∙ set-same v.hosts at x found in
    let kept : counted_on s (before ++ c.told) [] k = subst (λ (z : List journal.Event). counted_on s (before ++ c.told) z k) called.0 counts in
    subst (λ (z : List HostState). Holds s c.world (before ++ c.told) (record v { hosts = z; sent = sent; counts = k })) (sym same)
    (subst (λ (z : List (ℕ × List ℕ)). Holds s c.world (before ++ c.told) (record v { sent = z; counts = k })) (sym called.1) (holds-recounted s c.world (before ++ c.told) v k kept h))
running-holds s before v c m at x later sent k i events (Some life) h is found own runs called counts =
    let d : OnDisk = called_on (setting_of s m) life.node i (c.world.hosts m).disk in
    let calls_own : Calls s h.kinds i (c.world.hosts m) (spent_of c.world (Some m)) life later v.sent sent events = called in
    let told : events ≡ d.call.told = calls_own.told ∙ ap (λ (n : ℕ). (called_on (setting_of s n) life.node i (c.world.hosts m).disk).call.told) own in
    holds-called s c before v m at later (host_after (c.world.hosts m) (with_input life i d.call.node) d) d.call sent k h is own
    (subst (λ (es : List journal.Event). HoldsHost s h.kinds (host_after (c.world.hosts m) (with_input life i d.call.node) d) (spent_of c.world (Some m) ++ spent_in m es) later) told
    (subst (λ (n : ℕ). let e = called_on (setting_of s n) life.node i (c.world.hosts m).disk in HoldsHost s h.kinds (host_after (c.world.hosts m) (with_input life i e.call.node) e) (spent_of c.world (Some m) ++ spent_in n events) later) own calls_own.holds))
    (calls_own.sent ∙ ap (λ (n : ℕ). v.sent ++ (called_on (setting_of s n) life.node i (c.world.hosts m).disk).call.sent) own)
    (subst (λ (es : List journal.Event). counted_on s (before ++ c.told) es k) told counts)

-- the events of the call are what it reports
running-told : (s : Setting) (v : Kept) (c : Execution) (m : ℕ) (kinds : Kinds) (x later : HostState) (sent : List (ℕ × List ℕ)) (i : Input) (events : List journal.Event) (current : Option Life) → later.member ≡ m → v.sent ≡ c.world.sent
    → CallsRunning s kinds i (c.world.hosts m) (spent_of c.world (Some m)) current x later v.sent sent events
    → (calls_running s m i (c.world.hosts m) current c).told ≡ c.told ++ told_in m (length v.sent) events
running-told s v c m kinds x later sent i events None own same called = sym (ap (λ (es : List journal.Event). c.told ++ told_in m (length v.sent) es) called.0 ∙ append-nil c.told)
running-told s v c m kinds x later sent i events (Some life) own same called =
    let calls_own : Calls s kinds i (c.world.hosts m) (spent_of c.world (Some m)) life later v.sent sent events = called in
    let told : events ≡ (called_on (setting_of s m) life.node i (c.world.hosts m).disk).call.told = calls_own.told ∙ ap (λ (n : ℕ). (called_on (setting_of s n) life.node i (c.world.hosts m).disk).call.told) own in
    ap (λ (es : List journal.Event). c.told ++ told_in m (length c.world.sent) es) (sym told) ∙ ap (λ (z : List (ℕ × List ℕ)). c.told ++ told_in m (length z) events) (sym same)

-- ---- what is written

lines-told : (base : List ℕ) (c d : Execution) (m n : ℕ) (events : List journal.Event) → d.told ≡ c.told ++ told_in m n events → (base ++ told_lines c.told) ++ call_lines m n events ≡ base ++ told_lines d.told
lines-told base c d m n events is =
    append_assoc base (told_lines c.told) (call_lines m n events) ∙ ap (λ (z : List ℕ). base ++ z) (sym (ap told_lines is ∙ flat_map-append told_line c.told (told_in m n events)))

-- the node was called, and what it reported is written
pub calls-goes : (s : Setting) (before : List NodeEvent) (base : List ℕ) (v : Kept) (out later_out : List ℕ) (c : Execution) (m at : ℕ) (x later : HostState) (sent : List (ℕ × List ℕ)) (k : counted.Counts) (i : Input) (events : List journal.Event) → (h : At s before base v out c)
    → IsPlace v at m → slice_get v.hosts at ≡ Some x → later.member ≡ m → CallsRunning s h.holds.kinds i (c.world.hosts m) (spent_of c.world (Some m)) (c.world.hosts m).current x later v.sent sent events
    → counted_on s (before ++ c.told) events k → later_out ≡ out ++ call_lines m (length v.sent) events → Goes s before base (kept_after v at later sent k) later_out (Ok (calls s m i c)) (Ok tt)
unfolding calls
calls-goes s before base v out later_out c m at x later sent k i events h is found own called counts written =
    let current : Option Life = (c.world.hosts m).current in
    let d : Execution = calls_running s m i (c.world.hosts m) current c in
    let told = running-told s v c m h.holds.kinds x later sent i events current own h.holds.sent called in (
      d,
      refl,
      record {
        holds = running-holds s before v c m at x later sent k i events current h.holds is found own refl called counts;
        written = written ∙ ap (λ (z : List ℕ). z ++ call_lines m (length v.sent) events) h.written ∙ lines-told base c d m (length v.sent) events told;
      },
    )

-- the numbers stay where the one at this place keeps its own
pub numbers-kept : (xs : List HostState) (at : ℕ) (x later : HostState) → slice_get xs at ≡ Some x → later.member ≡ x.member → map (λ y. y.member) (set xs at later) ≡ map (λ y. y.member) xs
numbers-kept xs at x later found own = numbers-set xs at later (slice_get-map (λ (y : HostState). y.member) xs at ∙ ap (option_map (λ (y : HostState). y.member)) found ∙ ap (λ (k : ℕ). Some k) (sym own))

-- the host at the member's place is as it is meant
pub place-holds : (s : Setting) (w : ModelWorld) (told : List NodeEvent) (v : Kept) (m at : ℕ) (x : HostState) → (h : Holds s w told v) → IsPlace v at m → slice_get v.hosts at ≡ Some x → HoldsHost s h.kinds (w.hosts m) (spent_of w (Some m)) x
place-holds s w told v m at x h is found =
    subst (λ (k : ℕ). HoldsHost s h.kinds (w.hosts k) (spent_of w (Some k)) x) (number-at v.hosts m at x is found) (host-at s h.kinds w at v.hosts x found h.hosts)

pub recounted : (s : Setting) (told : List NodeEvent) (k : counted.Counts) (es events : List journal.Event) → es ≡ events → AreKept k (fold (λ z e. with_event s z e.what) (counts_of s told) es) → AreKept k (fold (λ z e. with_event s z e.what) (counts_of s told) events)
recounted s told k es events same h = subst (λ (z : List journal.Event). AreKept k (fold (λ z e. with_event s z e.what) (counts_of s told) z)) same h
