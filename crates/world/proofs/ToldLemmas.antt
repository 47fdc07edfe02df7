-- A call of the node at a place, of which the events are told.
use Rattle.std.proofs.Common.{◌≡◌, ℕ, ◌<◌, List, ◌++◌, Some, length, map, refl, ap, sym, ◌∙◌, subst}
use Rattle.std.proofs.Math.ListN.{get_or, set}
use Rattle.std.specs.Prelude.{fold, Ok}
use Rattle.std.specs.List.{slice_get}
use Rattle.std.proofs.lemmas.Option.{slice_get_read}
use Rattle.sign_keys.specs.declared.kinds.Kinds.{Kinds}
use Rattle.ff_ids.specs.declared.Group.{Group}
use Rattle.journal.specs.declared.event.Event as journal
use Rattle.signer.specs.Lives.{Spent}
use Rattle.node_rules.specs.Lives.{Input}
use Rattle.world_rules.specs.Counts.{Counts, counts_of, with_event}
use Rattle.world_rules.specs.Settings.{Setting, nodes}
use Rattle.world_rules.specs.Worlds.{Host as Place, spent_of}
use Rattle.world_rules.specs.Steps.{Execution, NodeEvent, calls}
use Rattle.world_host.specs.Answers.{CallsNode}
use Rattle.world_host.specs.Holding.{HoldsHost, IsWorld}
use Rattle.world_host.specs.Hosts.{HostState}
use Rattle.world.specs.declared.counts.Counts as counted
use Rattle.world.specs.Counting.{AreKept}
use Rattle.world.specs.Courses.{At, Goes, IsPlace}
use Rattle.world.specs.Holding.{Holds, Kept, numbers}
use Rattle.world.specs.Telling.{call_lines}
use Rattle.world.proofs.ActLemmas.{calls-goes, kept_after, numbers-kept, place-holds, recounted}
use Rattle.world.proofs.ChangeLemmas.{number-at}

-- The host at this place of the world as it was seen became another one, with the same number.
pub record CalledAt (seen v : Kept) (at : ℕ) (x later : HostState) : Type 0 where
  pub same : v ≡ seen
  pub found : slice_get v.hosts at ≡ Some x
  pub own : later.member ≡ x.member

pub called-at : (seen v : Kept) (at : ℕ) (x later : HostState) → v ≡ seen → at < length seen.hosts → x ≡ get_or v.hosts at x → later.member ≡ x.member → CalledAt seen v at x later
called-at seen v at x later same within read own =
    let low : at < length v.hosts = subst (λ (z : Kept). at < length z.hosts) (sym same) within in
    record { same = same; found = slice_get_read v.hosts (length v.hosts) at x refl low read; own = own }

pub called-numbers : (seen v : Kept) (at : ℕ) (x later : HostState) → CalledAt seen v at x later → map (λ y. y.member) (set v.hosts at later) ≡ numbers seen
called-numbers seen v at x later h = numbers-kept v.hosts at x later h.found h.own ∙ ap numbers h.same

pub called-place : (seen v : Kept) (m at : ℕ) (x later : HostState) (sent : List (ℕ × List ℕ)) → CalledAt seen v at x later → IsPlace seen at m → IsPlace (kept_after v at later sent v.counts) at m
called-place seen v m at x later sent h place = ap (λ (z : List ℕ). slice_get z at) (called-numbers seen v at x later h) ∙ place

-- The call went as it is meant, and what it reported is told.
pub told-goes : (s : Setting) (before : List NodeEvent) (base : List ℕ) (seen v last : Kept) (out later_out : List ℕ) (k : Execution) (m at : ℕ) (x later : HostState) (sent first : List (ℕ × List ℕ)) (i : Input) (events read : List journal.Event) (counts : counted.Counts)
    → CalledAt seen v at x later → At s before base seen out k → IsPlace seen at m
    → ((g : Group) (kinds : Kinds) (place : Place) (spent : List Spent) → IsWorld s g kinds → HoldsHost s kinds place spent x → CallsNode s kinds i place spent x later v.sent sent (Ok events))
    → first ≡ v.sent → read ≡ events → last ≡ kept_after v at later sent counts
    → ((m : ℕ) → IsPlace (kept_after v at later sent v.counts) at m → later_out ≡ out ++ call_lines m (length first) read)
    → ((c : Counts) → numbers (kept_after v at later sent v.counts) ≡ nodes s → AreKept v.counts c → AreKept counts (fold (λ c e. with_event s c e.what) c read))
    → Goes s before base last later_out (Ok (calls s m i k)) (Ok tt)
told-goes s before base seen v last out later_out k m at x later sent first i events read counts h is place calls_so first_is read_is last_is lines counts_so =
    let held : Holds s k.world (before ++ k.told) v = subst (Holds s k.world (before ++ k.told)) (sym h.same) is.holds in
    let here : At s before base v out k = record { holds = held; written = is.written } in
    let there : IsPlace v at m = subst (λ (z : Kept). IsPlace z at m) (sym h.same) place in
    let own : later.member ≡ m = h.own ∙ number-at v.hosts m at x there h.found in
    let called = calls_so v.authority.group held.kinds (k.world.hosts m) (spent_of k.world (Some m)) held.world (place-holds s k.world (before ++ k.told) v m at x held there h.found) in
    let numbered : numbers (kept_after v at later sent v.counts) ≡ numbers v = numbers-kept v.hosts at x later h.found h.own in
    let written : later_out ≡ out ++ call_lines m (length v.sent) events =
    lines m (called-place seen v m at x later sent h place) ∙ ap (λ (z : List (ℕ × List ℕ)). out ++ call_lines m (length z) read) first_is ∙ ap (λ (es : List journal.Event). out ++ call_lines m (length v.sent) es) read_is in
    subst (λ (z : Kept). Goes s before base z later_out (Ok (calls s m i k)) (Ok tt)) (sym last_is)
    (calls-goes s before base v out later_out k m at x later sent counts i events here there h.found own called
    (recounted s (before ++ k.told) counts read events read_is (counts_so (counts_of s (before ++ k.told)) (numbered ∙ held.nodes) held.counts)) written)
