-- A line as a whole: why it can't be done, and what it brings.
use Rattle.std.proofs.Common.{◌≡◌, ℕ, Bool, true, false, not, eqb, cond, List, [], ◌∷◌, ◌++◌, Option, Some, None, take, length, refl, ap, sym, ◌∙◌, subst, append_assoc, inl, inr}
use Rattle.std.specs.Prelude.{Result, Ok, Err}
use Rattle.std.proofs.lemmas.Bool.{cases_Bool}
use Rattle.schedule_world.specs.declared.line.WorldLine.TheVariants as lines
use Rattle.schedule_world.specs.declared.line.WorldLine.{WorldLine}
use Rattle.node_core.specs.Told.{IsPrefix}
use Rattle.signer.proofs.OnwardLemmas.{front-trans}
use Rattle.world_text.specs.Lines.{line_text}
use Rattle.world_rules.specs.Settings.{Setting, is_liar, is_node}
use Rattle.world_rules.specs.Forgeries.{Forgery}
use Rattle.world_rules.specs.declared.verdict.RefusalReason.{RefusalReason}
use Rattle.world_rules.specs.declared.verdict.RefusalReason.TheVariants as whys
use Rattle.world_rules.specs.declared.verdict.Verdict.TheVariants as verdicts
use Rattle.world_rules.specs.Worlds.{World as ModelWorld, is_running}
use Rattle.world_rules.specs.Refusals.{holds_of, key_named, node_named, why_not}
use Rattle.world_rules.specs.Steps.{Answer, NodeEvent, does, says, starts, starts_in_vain, step, step_by}
use Rattle.world_rules.specs.Walk.{behind_line}
use Rattle.world.specs.declared.fault.WorldFault.{WorldFault}
use Rattle.world.specs.declared.fault.WorldFault.TheVariants as faults
use Rattle.world_rules.specs.Laws.{goes}
use Rattle.world_laws.specs.Texts.{IsPlayed}
use Rattle.world_laws.proofs.ForgedLines.{lines-hand-over}
use Rattle.world_laws.proofs.Walking.{played-lawful}
use Rattle.world.specs.Answers.{PlaysLine, Steps, StepsLawfully}
use Rattle.world.specs.Telling.{told_lines}
use Rattle.world.specs.Holding.{Kept}
use Rattle.world.specs.Courses.{CanStart, NamesLiar, Replies, before_opening, behind_text, does_or_opens, starts_if_left}
use Rattle.world.proofs.CourseLemmas.{front-refl, front-more}
use Rattle.world.proofs.RefusalLemmas.{first-liar, first-node}

-- ---- what a line that can be done names

pub names-node : (s : Setting) (w : ModelWorld) (line : WorldLine) (m : ℕ) → before_opening line (why_not s w line) ≡ None → node_named line ≡ Some m → is_node s m ≡ false → ⊥
names-node s w line m none named not_node =
    none-some (sym (first-node s w line (ap (holds_of (λ m. not (is_node s m))) named ∙ ap not not_node)) ∙ none)
  where
    none-some : Some whys.NotNode ≡ None → ⊥
    none-some e = cc

start-rows : (s : Setting) (w : ModelWorld) (m : ℕ) → is_node s m ≡ true → is_running w m ≡ false
    → why_not s w (lines.Start m) ≡ cond (eqb (w.hosts m).disk.state.next s.indexes) (Some (whys.UsedUp (w.hosts m).disk.state.next)) None
unfolding why_not
start-rows s w m node idle = rw (node, idle) refl

start-running : (s : Setting) (w : ModelWorld) (m : ℕ) → is_node s m ≡ true → is_running w m ≡ true → why_not s w (lines.Start m) ≡ Some whys.Running
unfolding why_not
start-running s w m node runs = rw (node, runs) refl

pub starts-idle : (s : Setting) (w : ModelWorld) (m : ℕ) → before_opening (lines.Start m) (why_not s w (lines.Start m)) ≡ None → is_node s m ≡ true → is_running w m ≡ false
starts-idle s w m none node =
    elim (cases_Bool (is_running w m)) [
      | inl runs ↦ absurd (none-some (sym (ap (before_opening (lines.Start m)) (start-running s w m node runs)) ∙ none))
      | inr idle ↦ idle
    ]
  where
    none-some : Some whys.Running ≡ None → ⊥
    none-some e = cc

pub can-start : (s : Setting) (w : ModelWorld) (line : WorldLine) (m : ℕ) → before_opening line (why_not s w line) ≡ None → node_named line ≡ Some m → is_node s m ≡ true → CanStart w line
can-start s w (lines.Start k) m none named node = starts-idle s w k none (ap (is_node s) (same k m named) ∙ node)
  where
    same : (a b : ℕ) → Some a ≡ Some b → a ≡ b
    same a b e = cc
can-start s w line m none named node = tt

liar-named : (s : Setting) (w : ModelWorld) (line : WorldLine) (key : ℕ) → holds_of (λ m. not (is_node s m)) (node_named line) ≡ false → key_named line ≡ Some key → before_opening line (why_not s w line) ≡ None → is_liar s key ≡ true
liar-named s w line key no_node named none =
    elim (cases_Bool (is_liar s key)) [
      | inl holds ↦ holds
      | inr fails ↦ absurd (none-some (sym (first-liar s w line no_node (ap (holds_of (λ key. not (is_liar s key))) named ∙ ap not fails)) ∙ none))
    ]
  where
    none-some : Some whys.NotLiar ≡ None → ⊥
    none-some e = cc

pub names-liar : (s : Setting) (w : ModelWorld) (line : WorldLine) → before_opening line (why_not s w line) ≡ None → NamesLiar s line
names-liar s w (lines.SignNote key note name) none = liar-named s w (lines.SignNote key note name) key refl refl none
names-liar s w (lines.SignAccusation key accuser accused epoch ring name) none = liar-named s w (lines.SignAccusation key accuser accused epoch ring name) key refl refl none
names-liar s w line none = tt

-- ---- what it brings

starts-step : (s : Setting) (w : ModelWorld) (m : ℕ) → is_node s m ≡ true → is_running w m ≡ false → step_by s w (lines.Start m) (why_not s w (lines.Start m)) ≡ Ok (starts_if_left s m w)
starts-step s w m node idle =
    ap (step_by s w (lines.Start m)) (start-rows s w m node idle) ∙ by_test (eqb (w.hosts m).disk.state.next s.indexes)
  where
    by_test : (b : Bool) → step_by s w (lines.Start m) (cond b (Some (whys.UsedUp (w.hosts m).disk.state.next)) None) ≡ Ok (cond b (starts_in_vain m (w.hosts m).disk.state.next w) (starts s m w))
    by_test true = refl
    by_test false = refl

pub step-node : (s : Setting) (w : ModelWorld) (line : WorldLine) (m : ℕ) → before_opening line (why_not s w line) ≡ None → node_named line ≡ Some m → is_node s m ≡ true → step s w line ≡ does_or_opens s w line
unfolding step
step-node s w (lines.Start k) m none named node = let own : is_node s k ≡ true = ap (is_node s) (same k m named) ∙ node in starts-step s w k own (starts-idle s w k none own)
  where
    same : (a b : ℕ) → Some a ≡ Some b → a ≡ b
    same a b e = cc
step-node s w line m none named node = ap (step_by s w line) none

pub step-other : (s : Setting) (w : ModelWorld) (line : WorldLine) → before_opening line (why_not s w line) ≡ None → node_named line ≡ None → step s w line ≡ does s w line
unfolding step
step-other s w (lines.Start m) none named = cc
step-other s w line none named = ap (step_by s w line) none

abbrev ok_answer : Answer → Result Answer Forgery
ok_answer a = Ok a

refused-with : (w : ModelWorld) (why other : RefusalReason) → Some other ≡ Some why → ok_answer (says (verdicts.Refused other) w) ≡ Ok (says (verdicts.Refused why) w)
refused-with w why other e = ap (λ (z : RefusalReason). ok_answer (says (verdicts.Refused z) w)) (same other why e)
  where
    same : (a b : RefusalReason) → Some a ≡ Some b → a ≡ b
    same a b e = cc

refused-start : (s : Setting) (w : ModelWorld) (m : ℕ) (why : RefusalReason) (o : Option RefusalReason) → before_opening (lines.Start m) o ≡ Some why → step_by s w (lines.Start m) o ≡ Ok (says (verdicts.Refused why) w)
refused-start s w m why None e = cc
refused-start s w m why (Some (whys.UsedUp first)) e = cc
refused-start s w m why (Some whys.NotNode) e = refused-with w why whys.NotNode e
refused-start s w m why (Some whys.NotLiar) e = refused-with w why whys.NotLiar e
refused-start s w m why (Some whys.NoName) e = refused-with w why whys.NoName e
refused-start s w m why (Some whys.NoDatagram) e = refused-with w why whys.NoDatagram e
refused-start s w m why (Some whys.Running) e = refused-with w why whys.Running e
refused-start s w m why (Some whys.NotRunning) e = refused-with w why whys.NotRunning e
refused-start s w m why (Some whys.Left) e = refused-with w why whys.Left e
refused-start s w m why (Some whys.NoNote) e = refused-with w why whys.NoNote e
refused-start s w m why (Some whys.UnknownMember) e = refused-with w why whys.UnknownMember e

refused-as : (s : Setting) (w : ModelWorld) (line : WorldLine) (why : RefusalReason) (o : Option RefusalReason) → before_opening line o ≡ Some why → step_by s w line o ≡ Ok (says (verdicts.Refused why) w)
refused-as s w (lines.Start m) why o e = refused-start s w m why o e
refused-as s w line why o e = ap (step_by s w line) e

pub step-refused : (s : Setting) (w : ModelWorld) (line : WorldLine) (why : RefusalReason) → Some why ≡ before_opening line (why_not s w line) → step s w line ≡ Ok (says (verdicts.Refused why) w)
unfolding step
step-refused s w line why is = refused-as s w line why (why_not s w line) (sym is)

-- ---- a line that is played

regrouped : (a b c d : List ℕ) → (a ++ b) ++ (c ++ 10 ∷ [] ++ d) ≡ a ++ (b ++ c ++ 10 ∷ [] ++ d)
regrouped a b c d = simp append_assoc refl

pub plays-replies : (s : Setting) (before : List NodeEvent) (line : WorldLine) (v : Kept) (old middle new : List ℕ) (r : Result Answer Forgery) (result : Result (Unit {0}) WorldFault) → middle ≡ old ++ line_text line → Replies s before v middle new r result
    → PlaysLine s before line v old new r result
plays-replies s before line v old middle new r (Ok done) is h =
    (h.0, h.1, record { holds = h.2.holds; written = h.2.written ∙ ap (λ (z : List ℕ). z ++ behind_text h.0) is ∙ regrouped old (line_text line) (behind_line h.0.verdict) (told_lines h.0.told) })
plays-replies s before line v old middle new r (Err (faults.Forged who body)) is h = (h.0, front-trans old middle new (subst (IsPrefix old) (sym is) (front-more old (line_text line))) h.1)
plays-replies s before line v old middle new r (Err faults.OutOfMemory) is h =
    front-trans old middle new (subst (IsPrefix old) (sym is) (front-more old (line_text line))) h

pub plays-not : (s : Setting) (before : List NodeEvent) (line : WorldLine) (v : Kept) (old new : List ℕ) (r : Result Answer Forgery) → new ≡ old → PlaysLine s before line v old new r (Err faults.OutOfMemory)
plays-not s before line v old new r same =
    subst (IsPrefix old) (sym same) (front-refl old)

-- ---- a step

front-cut : (old more : List ℕ) → take (length old) (old ++ more) ≡ old
front-cut [] [] = refl
front-cut [] (y ∷ more) = refl
front-cut (x ∷ old) more = ap (λ (z : List ℕ). x ∷ z) (front-cut old more)

-- what is cut off behind the old text leaves that
pub cut-front : (old new : List ℕ) → IsPrefix old new → take (length old) new ≡ old
cut-front old new h = ap (take (length old)) h.is ∙ front-cut old h.more

-- behind a fault the text is as it was
pub steps-cut : (s : Setting) (w : ModelWorld) (told : List NodeEvent) (line : WorldLine) (v : Kept) (old new cut : List ℕ) (fault : WorldFault) → cut ≡ take (length old) new → PlaysLine s told line v old new (step s w line) (Err fault)
    → Steps s w told line v old cut (Err fault)
steps-cut s w told line v old new cut (faults.Forged who body) is h = (h.0, is ∙ cut-front old new h.1)
steps-cut s w told line v old new cut faults.OutOfMemory is h = is ∙ cut-front old new h

pub steps-kept : (s : Setting) (w : ModelWorld) (told : List NodeEvent) (line : WorldLine) (v : Kept) (old new : List ℕ) (done : Unit {0}) → PlaysLine s told line v old new (step s w line) (Ok done)
    → Steps s w told line v old new (Ok done)
steps-kept s w told line v old new done h = (h.0, (h.1, h.2))

-- ---- what a step is worth

pub steps-lawful : (s : Setting) (w : ModelWorld) (told : List NodeEvent) (line : WorldLine) (v : Kept) (old new : List ℕ) (r : Result (Unit {0}) WorldFault) → Steps s w told line v old new r → IsPlayed s w told → StepsLawfully s w told line v r
steps-lawful s w told line v old new (Ok done) h played =
    let a : Answer = h.0 in
    let on : IsPlayed s a.world (told ++ a.told) = record { fits = played.fits; verify = played.verify; reached = goes w told line a played.reached h.1.0 } in
    (a, record { is = h.1.0; holds = h.1.1.holds; played = on; lawful = played-lawful s a.world (told ++ a.told) on })
steps-lawful s w told line v old new (Err (faults.Forged who body)) h played =
    record { is = h.0; lawful = played-lawful s w told played; handed = lines-hand-over s w line (record { who = who; body = body }) played.fits h.0 }
steps-lawful s w told line v old new (Err faults.OutOfMemory) h played = tt
