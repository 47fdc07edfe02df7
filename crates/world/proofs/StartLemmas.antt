-- A start of a node, as a line.
use Rattle.std.proofs.Common.{◌≡◌, ℕ, ◌+◌, Bool, true, false, cond, eqb, Some, length, refl, ap, sym, ◌∙◌}
use Rattle.world_rules.specs.Settings.{Setting}
use Rattle.world_rules.specs.Disks.{lets_pass, opening_calls, put_passes, stopped, stopped_in_put}
use Rattle.world_rules.specs.declared.verdict.RefusalReason.TheVariants as whys
use Rattle.world_rules.specs.declared.verdict.Verdict.TheVariants as verdicts
use Rattle.world_rules.specs.Worlds.{World as ModelWorld, with_host}
use Rattle.world_rules.specs.Steps.{Execution, begun, first_call, in_host, says, starts, starts_in_vain, with_call, with_disk}
use Rattle.world_host.specs.Answers.{begun_place, opened_place}
use Rattle.world.specs.Courses.{starts_if_left}

-- ---- which answer it is

starts-left : (s : Setting) (m : ℕ) (w : ModelWorld) → eqb (w.hosts m).disk.state.next s.indexes ≡ false → starts_if_left s m w ≡ starts s m w
starts-left s m w left = rw left refl

pub opening-stops : (s : Setting) (m : ℕ) (w : ModelWorld) → lets_pass (w.hosts m).disk.armed (opening_calls (w.hosts m).disk) ≡ false
    → starts_if_left s m w ≡ says verdicts.DiskStopped (with_host m (with_disk (w.hosts m) (stopped (w.hosts m).disk)) w)
unfolding starts starts_in_vain
opening-stops s m w stops = by_test (eqb (w.hosts m).disk.state.next s.indexes)
  where
    by_test : (b : Bool) → cond b (starts_in_vain m (w.hosts m).disk.state.next w) (starts s m w) ≡ says verdicts.DiskStopped (with_host m (with_disk (w.hosts m) (stopped (w.hosts m).disk)) w)
    by_test true = rw stops refl
    by_test false = rw stops refl

pub used-up : (s : Setting) (m first : ℕ) (w : ModelWorld) → lets_pass (w.hosts m).disk.armed (opening_calls (w.hosts m).disk) ≡ true → eqb (w.hosts m).disk.state.next s.indexes ≡ true → first ≡ (w.hosts m).disk.state.next
    → starts_if_left s m w ≡ says (verdicts.Refused (whys.UsedUp first)) (with_host m (opened_place (w.hosts m)) w)
unfolding starts_in_vain
used-up s m first w passes used same = rw used (rw passes (ap (λ (n : ℕ). says (verdicts.Refused (whys.UsedUp n)) (with_host m (opened_place (w.hosts m)) w)) (sym same)))

-- the course of a life that begins
abbrev pub began_course : Setting → ℕ → ModelWorld → Execution
began_course s m w =
    let place = opened_place (w.hosts m) in
    let call = first_call s m place.disk.state in
    in_host m (begun_place place call) (with_call m call (begun w))

pub begins-so : (s : Setting) (m : ℕ) (w : ModelWorld) → lets_pass (w.hosts m).disk.armed (opening_calls (w.hosts m).disk) ≡ true → eqb (w.hosts m).disk.state.next s.indexes ≡ false → put_passes (opened_place (w.hosts m)).disk ≡ true
    → starts_if_left s m w ≡ record { world = (began_course s m w).world; verdict = Some (verdicts.Began (length (w.hosts m).past + 1)); told = (began_course s m w).told }
unfolding starts
begins-so s m w passes left puts = starts-left s m w left ∙ rw passes (rw puts refl)

pub put-stops : (s : Setting) (m : ℕ) (w : ModelWorld) → lets_pass (w.hosts m).disk.armed (opening_calls (w.hosts m).disk) ≡ true → eqb (w.hosts m).disk.state.next s.indexes ≡ false → put_passes (opened_place (w.hosts m)).disk ≡ false
    → starts_if_left s m w ≡ says verdicts.DiskStopped (with_host m (with_disk (opened_place (w.hosts m)) (stopped_in_put (first_call s m (opened_place (w.hosts m)).disk.state).node.stored (opened_place (w.hosts m)).disk)) w)
unfolding starts
put-stops s m w passes left puts = starts-left s m w left ∙ rw passes (rw puts refl)
