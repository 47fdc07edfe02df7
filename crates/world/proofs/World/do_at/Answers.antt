use Rattle.std.proofs.Common.{◌≡◌, ℕ, false, Some, refl, ap, sym, ◌∙◌, subst}
use Rattle.world_rules.specs.Settings.{Setting}
use Rattle.world_rules.specs.Worlds.{World as ModelWorld, is_running}
use Rattle.schedule_world.specs.declared.line.WorldLine.TheVariants as lines
use Rattle.schedule_world.specs.declared.line.WorldLine.{WorldLine}
use Rattle.ff_ids.specs.declared.RingNo.{RingNo}
use Rattle.world_rules.specs.Refusals.{node_named}
use Rattle.world_rules.specs.Steps.{answered, begun}
use Rattle.world.specs.Courses.{CanStart, CanTellAt, HasItsRing, Replies, course_of, does_or_opens}
use Rattle.world.proofs.World.do_at.Goals as goal

same-number : (a b : ℕ) → Some a ≡ Some b → a ≡ b
same-number a b e = cc

opens-course : (s : Setting) (w : ModelWorld) (m : ℕ) (line : WorldLine) → ((a : ℕ) → line ≡ lines.Start a → ⊥) → ((a : ℕ) → line ≡ lines.View a → ⊥)
    → ((a : ℕ) (ring : RingNo) (of : ℕ) → line ≡ lines.Monitor a ring of → ⊥) → node_named line ≡ Some m → does_or_opens s w line ≡ answered (course_of s line (begun w))
opens-course s w m (lines.Start a) no-start no-view no-monitor named = absurd (no-start a refl)
opens-course s w m (lines.Stop a outcome) no-start no-view no-monitor named = refl
opens-course s w m (lines.Arm a calls outcome) no-start no-view no-monitor named = refl
opens-course s w m (lines.Tick a n) no-start no-view no-monitor named = refl
opens-course s w m (lines.Leave a) no-start no-view no-monitor named = refl
opens-course s w m (lines.Deliver number a) no-start no-view no-monitor named = refl
opens-course s w m (lines.Flow most) no-start no-view no-monitor named = refl
opens-course s w m (lines.Raw a bytes) no-start no-view no-monitor named = refl
opens-course s w m (lines.Give name a) no-start no-view no-monitor named = refl
opens-course s w m (lines.GiveAll name) no-start no-view no-monitor named = refl
opens-course s w m (lines.View a) no-start no-view no-monitor named = absurd (no-view a refl)
opens-course s w m (lines.Monitor a ring of) no-start no-view no-monitor named = absurd (no-monitor a ring of refl)
opens-course s w m (lines.SignNote key note name) no-start no-view no-monitor named = cc
opens-course s w m (lines.SignAccusation key accuser accused epoch ring name) no-start no-view no-monitor named = cc
opens-course s w m line no-start no-view no-monitor named = refl

pub returns-in-Start-clause-does : goal.returns-in-Start-clause-does
returns-in-Start-clause-does c = λ s w before m h place named idle.
    let same : c.in-Start.member ≡ m = same-number c.in-Start.member m (sym (ap node_named c.in-Start.is) ∙ named) in
    let can : is_running w c.in-Start.member ≡ false = subst (λ (l : WorldLine). CanStart w l) c.in-Start.is idle in
    let stopped : is_running w m ≡ false = subst (λ (j : ℕ). is_running w j ≡ false) same can in
    subst (λ (l : WorldLine). Replies s before c.start.new.self c.args.out.now.items c.start.new.out.items (does_or_opens s w l) c.start.result) (sym c.in-Start.is)
    (subst (λ (j : ℕ). Replies s before c.start.new.self c.args.out.now.items c.start.new.out.items (does_or_opens s w (lines.Start j)) c.start.result) (sym same) (c.start.ensures.starts s w before m h place stopped))

pub returns-in-View-clause-does : goal.returns-in-View-clause-does
returns-in-View-clause-does c = λ s w before m h place named idle.
    let same : c.in-View.member ≡ m = same-number c.in-View.member m (sym (ap node_named c.in-View.is) ∙ named) in
    subst (λ (l : WorldLine). Replies s before c.args.self.now c.args.out.now.items c.see.new.out.items (does_or_opens s w l) c.see.result) (sym c.in-View.is)
    (subst (λ (j : ℕ). Replies s before c.args.self.now c.args.out.now.items c.see.new.out.items (does_or_opens s w (lines.View j)) c.see.result) (sym same) (c.see.ensures s w before m h place))

pub returns-in-Monitor-clause-does : goal.returns-in-Monitor-clause-does
returns-in-Monitor-clause-does c = λ s w before m h place named idle.
    let same : c.in-Monitor.member ≡ m = same-number c.in-Monitor.member m (sym (ap node_named c.in-Monitor.is) ∙ named) in
    subst (λ (l : WorldLine). Replies s before c.args.self.now c.args.out.now.items c.see_monitor.new.out.items (does_or_opens s w l) c.see_monitor.result) (sym c.in-Monitor.is)
    (subst (λ (j : ℕ). Replies s before c.args.self.now c.args.out.now.items c.see_monitor.new.out.items (does_or_opens s w (lines.Monitor j c.in-Monitor.ring c.in-Monitor.of)) c.see_monitor.result) (sym same) (c.see_monitor.ensures s w before m h place))

pub returns-in_default : goal.returns-in_default
returns-in_default c = record {
  numbers = c.end_and_go.ensures.numbers;
  does = λ s w before m h place named idle.
      subst (λ z. Replies s before c.end_and_go.new.self c.args.out.now.items c.end_and_go.new.out.items z c.end_and_go.result)
      (sym (opens-course s w m c.args.line.now c.in_default.not-Start c.in_default.not-View c.in_default.not-Monitor named))
      (c.end_and_go.ensures.goes s w before m h place named);
}

pub see_monitor-requires-clause-ring : goal.see_monitor-requires-clause-ring
see_monitor-requires-clause-ring c = subst (HasItsRing c.args.self.now) c.in-Monitor.is c.requires.ring

pub see_monitor-requires-clause-known : goal.see_monitor-requires-clause-known
see_monitor-requires-clause-known c = subst (CanTellAt c.args.self.now c.args.at) c.in-Monitor.is c.requires.known
