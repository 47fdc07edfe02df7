use Rattle.std.proofs.Common.{◌≡◌, ℕ, ◌<◌, true, false, eqb, List, Option, Some, None, length, refl, ap, sym, ◌∙◌, subst, inl, inr}
use Rattle.std.specs.Prelude.{is_some, Ok}
use Rattle.std.specs.List.{slice_get}
use Rattle.std.proofs.lemmas.Option.{slice_get_read}
use Rattle.world_rules.specs.Settings.{Setting}
use Rattle.world_rules.specs.Steps.{NodeEvent}
use Rattle.world_rules.specs.Worlds.{World as ModelWorld}
use Rattle.world.specs.contracts.World.{the_view}
use Rattle.world_host.specs.Hosts.{HostState}
use Rattle.world.specs.Holding.{Holds, Kept, numbers}
use Rattle.world.specs.Courses.{IsPlace}
use Rattle.world_rules.specs.Counts.{counts_of}
use Rattle.world_rules.specs.Worlds.{spent_of}
use Rattle.world.proofs.ActLemmas.{numbers-kept, place-holds}
use Rattle.world.proofs.ChangeLemmas.{number-at}
use Rattle.std.proofs.Math.ListN.{set}
use Rattle.world_host.specs.declared.starting.Started.{Started}
use Rattle.world_host.specs.Answers.{StartsNode, opened_place}
use Rattle.world_host.specs.Holding.{HoldsHost}
use Rattle.std.proofs.Common.{inl, inr}
use Rattle.std.proofs.lemmas.Bool.{cases_Bool}
use Rattle.world_host.specs.declared.starting.Started.TheVariants as starts
use Rattle.world_rules.specs.Disks.{lets_pass, opening_calls, put_passes, stopped, stopped_in_put}
use Rattle.world_rules.specs.Steps.{first_call, says, starts as begins_so, starts_in_vain, with_disk}
use Rattle.world_rules.specs.declared.verdict.RefusalReason.TheVariants as whys
use Rattle.world_rules.specs.declared.verdict.Verdict.{Verdict}
use Rattle.world_rules.specs.declared.verdict.Verdict.TheVariants as verdicts
use Rattle.world_rules.specs.Worlds.{Life, Host, with_host}
use Rattle.world.specs.Courses.{Replies, starts_if_left}
use Rattle.world.proofs.AnswerLemmas.{replies-same, says-replies}
use Rattle.world.proofs.BeginLemmas.{begun-replies}
use Rattle.world.proofs.ChangeLemmas.{holds-changed}
use Rattle.world.proofs.LookLemmas.{is-place}
use Rattle.world.proofs.World.start.Goals as goal

none-runs : (current : Option Life) → is_some current ≡ false → current ≡ None
none-runs None is = refl
none-runs (Some life) is = cc

-- The key is used up, which the open store says.
starts-used : (s : Setting) (m : ℕ) (w : ModelWorld) → lets_pass (w.hosts m).disk.armed (opening_calls (w.hosts m).disk) ≡ true → eqb (w.hosts m).disk.state.next s.indexes ≡ true
    → starts_if_left s m w ≡ says (verdicts.Refused (whys.UsedUp (w.hosts m).disk.state.next)) (with_host m (opened_place (w.hosts m)) w)
unfolding starts_in_vain
starts-used s m w passes used = rw used (rw passes refl)

-- The disk stopped as the store was opened, or in the put of the first note.
stops-opening : (s : Setting) (m : ℕ) (w : ModelWorld) → lets_pass (w.hosts m).disk.armed (opening_calls (w.hosts m).disk) ≡ false
    → starts_if_left s m w ≡ says verdicts.DiskStopped (with_host m (with_disk (w.hosts m) (stopped (w.hosts m).disk)) w)
unfolding begins_so starts_in_vain
stops-opening s m w stops =
    elim (cases_Bool (eqb (w.hosts m).disk.state.next s.indexes)) [
      | inl used ↦ rw used (rw stops refl)
      | inr left ↦ rw left (rw stops refl)
    ]

stops-putting : (s : Setting) (m : ℕ) (w : ModelWorld) → lets_pass (w.hosts m).disk.armed (opening_calls (w.hosts m).disk) ≡ true → eqb (w.hosts m).disk.state.next s.indexes ≡ false → put_passes (opened_place (w.hosts m)).disk ≡ false
    → starts_if_left s m w ≡ says verdicts.DiskStopped (with_host m (with_disk (opened_place (w.hosts m)) (stopped_in_put (first_call s m (w.hosts m).disk.state).node.stored (opened_place (w.hosts m)).disk)) w)
unfolding begins_so
stops-putting s m w passes left fails = rw left (rw passes (rw fails refl))

record Stopped (s : Setting) (w : ModelWorld) (before : List NodeEvent) (v : Kept) (m at : ℕ) (later : HostState) : Type 0 where
  place : Host
  same : starts_if_left s m w ≡ says verdicts.DiskStopped (with_host m place w)
  holds : Holds s (with_host m place w) before (record v { hosts = set v.hosts at later })

stops-so : (s : Setting) (w : ModelWorld) (before : List NodeEvent) (v : Kept) (m at : ℕ) (x later : HostState) → (h : Holds s w before v) → IsPlace v at m → later.member ≡ m
    → StartsNode s h.kinds (w.hosts m) (spent_of w (Some m)) later (Ok starts.DiskStopped) → Stopped s w before v m at later
stops-so s w before v m at x later h there own (inl o) =
    let place : Host = with_disk (w.hosts m) (stopped (w.hosts m).disk) in
    record {
      place = place;
      same = stops-opening s m w o.stops;
      holds = holds-changed s w before v m at later place h there own (subst (λ (k : ℕ). HoldsHost s h.kinds place (spent_of w (Some k)) later) (sym own) o.holds);
    }
stops-so s w before v m at x later h there own (inr o) =
    let opened : Host = opened_place (w.hosts m) in
    let put : ℕ → Host = λ k. with_disk opened (stopped_in_put (first_call s k (w.hosts m).disk.state).node.stored opened.disk) in
    record {
      place = put m;
      same = stops-putting s m w o.0 o.1.left o.1.stops;
      holds = holds-changed s w before v m at later (put m) h there own
          (subst (λ (k : ℕ). HoldsHost s h.kinds (put m) (spent_of w (Some k)) later) (sym own) (subst (λ (k : ℕ). HoldsHost s h.kinds (put k) (spent_of w (Some m)) later) own o.1.holds));
    }

pub start-requires : goal.start-requires
start-requires c =
    let v : Kept = the_view c.self.inside in
    let x : HostState = c.index_mut.result.now in
    let within : c.args.at < length v.hosts = subst (λ (z : Kept). c.args.at < length z.hosts) (sym c.self.view_is) c.requires.host in
    let found : slice_get v.hosts c.args.at ≡ Some x = slice_get_read v.hosts (length v.hosts) c.args.at x refl within c.index_mut.ensures.value in
    let stands = c.requires.stands in
    is-place stands.setting stands.world stands.told v c.args.at x (subst (Holds stands.setting stands.world stands.told) (sym c.self.view_is) stands.holds) found

pub returns-in_err-life-clause-numbers : goal.returns-in_err-life-clause-numbers
returns-in_err-life-clause-numbers c =
    let v : Kept = the_view c.self.inside in
    let x : HostState = c.index_mut.result.now in
    let later : HostState = c.start.new.self in
    let within : c.args.at < length v.hosts = subst (λ (z : Kept). c.args.at < length z.hosts) (sym c.self.view_is) c.requires.host in
    let found : slice_get v.hosts c.args.at ≡ Some x = slice_get_read v.hosts (length v.hosts) c.args.at x refl within c.index_mut.ensures.value in
    numbers-kept v.hosts c.args.at x later found c.start.ensures.member ∙ ap numbers c.self.view_is

pub returns-in-Began-clause-numbers : goal.returns-in-Began-clause-numbers
returns-in-Began-clause-numbers c =
    let v : Kept = the_view c.self.inside in
    let x : HostState = c.index_mut.result.now in
    let later : HostState = c.start.new.self in
    let within : c.args.at < length v.hosts = subst (λ (z : Kept). c.args.at < length z.hosts) (sym c.self.view_is) c.requires.host in
    let found : slice_get v.hosts c.args.at ≡ Some x = slice_get_read v.hosts (length v.hosts) c.args.at x refl within c.index_mut.ensures.value in
    ap numbers c.tell_began.ensures.frame ∙ numbers-kept v.hosts c.args.at x later found c.start.ensures.member ∙ ap numbers c.self.view_is

pub returns-in-Began-clause-starts : goal.returns-in-Began-clause-starts
returns-in-Began-clause-starts c = λ s w before m h place stands.
    let v : Kept = the_view c.self.inside in
    let x : HostState = c.index_mut.result.now in
    let later : HostState = c.start.new.self in
    let within : c.args.at < length v.hosts = subst (λ (z : Kept). c.args.at < length z.hosts) (sym c.self.view_is) c.requires.host in
    let found : slice_get v.hosts c.args.at ≡ Some x = slice_get_read v.hosts (length v.hosts) c.args.at x refl within c.index_mut.ensures.value in
    let held : Holds s w before v = subst (Holds s w before) (sym c.self.view_is) h in
    let there : IsPlace v c.args.at m = subst (λ (z : Kept). IsPlace z c.args.at m) (sym c.self.view_is) place in
    let own : later.member ≡ m = c.start.ensures.member ∙ number-at v.hosts m c.args.at x there found in
    let started = subst (λ (r : Started). StartsNode s held.kinds (w.hosts m) (spent_of w (Some m)) later (Ok r)) c.in-Began.is
    (c.in_ok-life.ensures.starts s held.kinds (w.hosts m) (spent_of w (Some m)) held.world held.authority (place-holds s w before v m c.args.at x held there found) (none-runs (w.hosts m).current stands)) in
    let began : Kept = record v { hosts = set v.hosts c.args.at later } in
    let numbered : numbers began ≡ numbers v = numbers-kept v.hosts c.args.at x later found c.start.ensures.member in
    let later_place : IsPlace began c.args.at m = ap (λ (z : List ℕ). slice_get z c.args.at) numbered ∙ there in
    let written = c.tell_began.ensures.lines m later_place in
    let counted = c.tell_began.ensures.counts s (counts_of s before) (numbered ∙ held.nodes) held.counts in
    subst (λ (z : Kept). Replies s before z c.args.out.now.items c.tell_began.new.out.items (Ok (starts_if_left s m w)) c.tell_began.result) (sym c.tell_began.ensures.frame)
    (begun-replies s w before v c.args.out.now.items c.tell_began.new.out.items m c.args.at c.in-Began.life later c.in-Began.events c.tell_began.new.self.counts c.tell_began.result held started there own counted written)

pub returns-in-DiskStopped-clause-numbers : goal.returns-in-DiskStopped-clause-numbers
returns-in-DiskStopped-clause-numbers c =
    let v : Kept = the_view c.self.inside in
    let x : HostState = c.index_mut.result.now in
    let later : HostState = c.start.new.self in
    let within : c.args.at < length v.hosts = subst (λ (z : Kept). c.args.at < length z.hosts) (sym c.self.view_is) c.requires.host in
    let found : slice_get v.hosts c.args.at ≡ Some x = slice_get_read v.hosts (length v.hosts) c.args.at x refl within c.index_mut.ensures.value in
    numbers-kept v.hosts c.args.at x later found c.start.ensures.member ∙ ap numbers c.self.view_is

pub returns-in-DiskStopped-clause-starts : goal.returns-in-DiskStopped-clause-starts
returns-in-DiskStopped-clause-starts c = λ s w before m h place stands.
    let v : Kept = the_view c.self.inside in
    let x : HostState = c.index_mut.result.now in
    let later : HostState = c.start.new.self in
    let within : c.args.at < length v.hosts = subst (λ (z : Kept). c.args.at < length z.hosts) (sym c.self.view_is) c.requires.host in
    let found : slice_get v.hosts c.args.at ≡ Some x = slice_get_read v.hosts (length v.hosts) c.args.at x refl within c.index_mut.ensures.value in
    let held : Holds s w before v = subst (Holds s w before) (sym c.self.view_is) h in
    let there : IsPlace v c.args.at m = subst (λ (z : Kept). IsPlace z c.args.at m) (sym c.self.view_is) place in
    let own : later.member ≡ m = c.start.ensures.member ∙ number-at v.hosts m c.args.at x there found in
    let started = subst (λ (r : Started). StartsNode s held.kinds (w.hosts m) (spent_of w (Some m)) later (Ok r)) c.in-DiskStopped.is
    (c.in_ok-life.ensures.starts s held.kinds (w.hosts m) (spent_of w (Some m)) held.world held.authority (place-holds s w before v m c.args.at x held there found) (none-runs (w.hosts m).current stands)) in
    let left = stops-so s w before v m c.args.at x later held there own started in
    let verdict : Verdict = verdicts.DiskStopped in
    let world = with_host m left.place w in
    replies-same s before _ c.args.out.now.items c.answer.new.out.items (Ok (starts_if_left s m w)) (Ok (says verdict world)) c.answer.result (ap Ok left.same)
    (says-replies s world before _ c.args.out.now.items c.answer.new.out.items verdict c.answer.result left.holds c.answer.ensures.ok c.answer.ensures.refused c.answer.ensures.cause)

pub returns-in-UsedUp-clause-numbers : goal.returns-in-UsedUp-clause-numbers
returns-in-UsedUp-clause-numbers c =
    let v : Kept = the_view c.self.inside in
    let x : HostState = c.index_mut.result.now in
    let later : HostState = c.start.new.self in
    let within : c.args.at < length v.hosts = subst (λ (z : Kept). c.args.at < length z.hosts) (sym c.self.view_is) c.requires.host in
    let found : slice_get v.hosts c.args.at ≡ Some x = slice_get_read v.hosts (length v.hosts) c.args.at x refl within c.index_mut.ensures.value in
    numbers-kept v.hosts c.args.at x later found c.start.ensures.member ∙ ap numbers c.self.view_is

pub returns-in-UsedUp-clause-starts : goal.returns-in-UsedUp-clause-starts
returns-in-UsedUp-clause-starts c = λ s w before m h place stands.
    let v : Kept = the_view c.self.inside in
    let x : HostState = c.index_mut.result.now in
    let later : HostState = c.start.new.self in
    let within : c.args.at < length v.hosts = subst (λ (z : Kept). c.args.at < length z.hosts) (sym c.self.view_is) c.requires.host in
    let found : slice_get v.hosts c.args.at ≡ Some x = slice_get_read v.hosts (length v.hosts) c.args.at x refl within c.index_mut.ensures.value in
    let held : Holds s w before v = subst (Holds s w before) (sym c.self.view_is) h in
    let there : IsPlace v c.args.at m = subst (λ (z : Kept). IsPlace z c.args.at m) (sym c.self.view_is) place in
    let own : later.member ≡ m = c.start.ensures.member ∙ number-at v.hosts m c.args.at x there found in
    let started = subst (λ (r : Started). StartsNode s held.kinds (w.hosts m) (spent_of w (Some m)) later (Ok r)) c.in-UsedUp.is
    (c.in_ok-life.ensures.starts s held.kinds (w.hosts m) (spent_of w (Some m)) held.world held.authority (place-holds s w before v m c.args.at x held there found) (none-runs (w.hosts m).current stands)) in
    let kept : HoldsHost s held.kinds (opened_place (w.hosts m)) (spent_of w (Some later.member)) later =
    subst (λ (k : ℕ). HoldsHost s held.kinds (opened_place (w.hosts m)) (spent_of w (Some k)) later) (sym own) started.1.holds in
    let world = with_host m (opened_place (w.hosts m)) w in
    let holds : Holds s world before (record v { hosts = set v.hosts c.args.at later }) = holds-changed s w before v m c.args.at later (opened_place (w.hosts m)) held there own kept in
    let verdict : Verdict = verdicts.Refused (whys.UsedUp c.in-UsedUp.next) in
    let same : starts_if_left s m w ≡ says verdict world =
    starts-used s m w started.0 started.1.none_left ∙ ap (λ (n : ℕ). says (verdicts.Refused (whys.UsedUp n)) world) (sym started.1.first) in
    replies-same s before _ c.args.out.now.items c.answer-in-UsedUp.new.out.items (Ok (starts_if_left s m w)) (Ok (says verdict world)) c.answer-in-UsedUp.result (ap Ok same)
    (says-replies s world before _ c.args.out.now.items c.answer-in-UsedUp.new.out.items verdict c.answer-in-UsedUp.result holds c.answer-in-UsedUp.ensures.ok c.answer-in-UsedUp.ensures.refused c.answer-in-UsedUp.ensures.cause)
