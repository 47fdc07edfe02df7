-- How lines are answered.
use Rattle.std.proofs.Common.{◌≡◌, ℕ, true, List, [], ◌∷◌, ◌++◌, Option, Some, None, refl, ap, sym, ◌∙◌, subst, append-nil}
use Rattle.std.specs.Prelude.{Result, Ok, Err, OnOk, OnErr, IfErr, is_err}
use Rattle.std.specs.Option.{option_map}
use Rattle.std.proofs.lemmas.Bool.{false≢true}
use Rattle.ff_ids.specs.declared.RingNo.{RingNo}
use Rattle.records.specs.declared.Body.{Body}
use Rattle.records.specs.declared.Body.TheVariants.{Note, Accusation}
use Rattle.schedule_world.specs.declared.line.WorldLine.TheVariants as lines
use Rattle.schedule_world.specs.declared.line.WorldLine.{WorldLine}
use Rattle.node_core.specs.Playing as node
use Rattle.node_core.specs.Told.{IsPrefix}
use Rattle.node_rules.specs.Nodes as rules
use Rattle.world_rules.specs.Disks as disks
use Rattle.world_rules.specs.Settings.{Setting, setting_of}
use Rattle.world_rules.specs.Forgeries.{Forgery}
use Rattle.world_rules.specs.declared.verdict.Verdict.{Verdict}
use Rattle.world_rules.specs.Worlds.{Life, World as ModelWorld}
use Rattle.world_rules.specs.Steps.{Answer, NodeEvent, accuses_at, answered, begun, does, epoch_meant, of_life, quiet, says}
use Rattle.world_rules.specs.Walk.{behind_line}
use Rattle.world_text.specs.Lines.{Began}
use Rattle.world.specs.declared.fault.WorldFault.{WorldFault}
use Rattle.world.specs.declared.fault.WorldFault.TheVariants as faults
use Rattle.world.specs.Holding.{Holds, Kept}
use Rattle.world_host.specs.Holding.{HoldsCurrent, HoldsLife}
use Rattle.world.specs.Courses.{At, Replies, WritesText, body_in, course_of, signs}
use Rattle.world.proofs.CourseLemmas.{front-began, front-refl}

-- nothing is reported
pub holds-quiet : (s : Setting) (w : ModelWorld) (before : List NodeEvent) (v : Kept) → Holds s w before v → Holds s w (before ++ []) v
holds-quiet s w before v h = subst (λ (z : List NodeEvent). Holds s w z v) (sym (append-nil before)) h

-- nothing is written
pub front-same : (old new : List ℕ) → new ≡ old → IsPrefix old new
front-same old new same = subst (IsPrefix old) (sym same) (front-refl old)

-- memory was refused as the answer was to be written, and nothing is
pub memory-replies : (s : Setting) (before : List NodeEvent) (v : Kept) (old new : List ℕ) (r : Result Answer Forgery) (fault : WorldFault) → fault ≡ faults.OutOfMemory → new ≡ old → Replies s before v old new r (Err fault)
memory-replies s before v old new r fault is same = subst (λ (f : WorldFault). Replies s before v old new r (Err f)) (sym is) (front-same old new same)

-- the answer is a verdict
pub says-replies : (s : Setting) (w : ModelWorld) (before : List NodeEvent) (v : Kept) (old new : List ℕ) (verdict : Verdict) (result : Result (Unit {0}) WorldFault) → Holds s w before v
    → OnOk result (new ≡ old ++ (behind_line (Some verdict) ++ 10 ∷ [])) → OnErr result (Began old new) → IfErr result (λ fault. fault ≡ faults.OutOfMemory) → Replies s before v old new (Ok (says verdict w)) result
says-replies s w before v old new verdict (Ok done) h ok refused cause =
    (says verdict w, refl, record { holds = holds-quiet s w before v h; written = ok ∙ ap (λ (z : List ℕ). old ++ z) (sym (append-nil (behind_line (Some verdict) ++ 10 ∷ []))) })
says-replies s w before v old new verdict (Err fault) h ok refused cause = subst (λ (f : WorldFault). Replies s before v old new (Ok (says verdict w)) (Err f)) (sym cause) (front-began old new refused)

-- memory was refused as a verdict was to be written
pub refused-text : (old new text : List ℕ) (result : Result (Unit {0}) WorldFault) → is_err result ≡ true → OnErr result (Began old new) → IfErr result (λ fault. fault ≡ faults.OutOfMemory) → WritesText old new text result
refused-text old new text (Ok done) err refused cause = absurd (false≢true err)
refused-text old new text (Err fault) err refused cause = subst (λ (f : WorldFault). WritesText old new text (Err f)) (sym cause) (front-began old new refused)

-- the answer is the line's end
pub ends-replies : (s : Setting) (w : ModelWorld) (before : List NodeEvent) (v : Kept) (old new : List ℕ) (result : Result (Unit {0}) WorldFault) → Holds s w before v
    → OnOk result (new ≡ old ++ 10 ∷ []) → OnErr result (new ≡ old) → IfErr result (λ fault. fault ≡ faults.OutOfMemory) → Replies s before v old new (Ok (quiet (begun w))) result
ends-replies s w before v old new (Ok done) h ok refused cause = (quiet (begun w), refl, record { holds = holds-quiet s w before v h; written = ok })
ends-replies s w before v old new (Err fault) h ok refused cause = memory-replies s before v old new (Ok (quiet (begun w))) fault cause refused

pub replies-same : (s : Setting) (before : List NodeEvent) (v : Kept) (old new : List ℕ) (r r2 : Result Answer Forgery) (result : Result (Unit {0}) WorldFault) → r ≡ r2 → Replies s before v old new r2 result → Replies s before v old new r result
replies-same s before v old new r r2 result same h = subst (λ (z : Result Answer Forgery). Replies s before v old new z result) (sym same) h

-- ---- questions

pub asks-none : (s : Setting) (tag : List ℕ) (e : disks.Disk) (m : ℕ) (current : Option Life) (ask : rules.Setting → rules.Node → Verdict) (w : ModelWorld) → HoldsCurrent s tag e m None current → of_life s m current ask w ≡ quiet (begun w)
asks-none s tag e m None ask w h = refl
asks-none s tag e m (Some life) ask w h = absurd h

pub asks-some : (s : Setting) (tag : List ℕ) (e : disks.Disk) (m : ℕ) (v : node.Kept) (current : Option Life) (ask : rules.Setting → rules.Node → Verdict) (said : Verdict) (w : ModelWorld) → HoldsCurrent s tag e m (Some v) current
    → ((life : Life) → HoldsLife s tag e m v life → ask (setting_of s m) life.node ≡ said) → of_life s m current ask w ≡ says said w
asks-some s tag e m v (Some life) ask said w h is = ap (λ (z : Verdict). says z w) (is life h)
asks-some s tag e m v None ask said w h is = absurd h

-- ---- lines

-- The line has no verdict of its own.
abbrev pub HasNoVerdict : WorldLine → Type 0
HasNoVerdict (lines.Start m) = ⊥
HasNoVerdict (lines.View m) = ⊥
HasNoVerdict (lines.Monitor m ring of) = ⊥
HasNoVerdict (lines.SignNote key note name) = ⊥
HasNoVerdict (lines.SignAccusation key accuser accused epoch ring name) = ⊥
HasNoVerdict line = Unit {0}

-- The line has this key sign, under this name.
abbrev pub SignsSo : WorldLine → ℕ → List ℕ → Type 0
SignsSo (lines.SignNote k note n) key name = (k ≡ key) × (n ≡ name)
SignsSo (lines.SignAccusation k accuser accused epoch ring n) key name = (k ≡ key) × (n ≡ name)
SignsSo line key name = ⊥

-- A line that names a node, and no more than ends before its events come.
pub does-course : (s : Setting) (w : ModelWorld) (line : WorldLine) → HasNoVerdict line → does s w line ≡ answered (course_of s line (begun w))
does-course s w (lines.Stop m outcome) h = refl
does-course s w (lines.Arm m calls outcome) h = refl
does-course s w (lines.Tick m n) h = refl
does-course s w (lines.Leave m) h = refl
does-course s w (lines.Deliver number m) h = refl
does-course s w (lines.Flow most) h = refl
does-course s w (lines.Raw m bytes) h = refl
does-course s w (lines.Give name m) h = refl
does-course s w (lines.GiveAll name) h = refl
does-course s w (lines.Start m) h = absurd h
does-course s w (lines.View m) h = absurd h
does-course s w (lines.Monitor m ring of) h = absurd h
does-course s w (lines.SignNote key note name) h = absurd h
does-course s w (lines.SignAccusation key accuser accused epoch ring name) h = absurd h
does-course s w line h = refl

accuses-signs : (s : Setting) (w : ModelWorld) (key accuser accused : ℕ) (ring : RingNo) (name : List ℕ) (epoch : Option ℕ)
    → accuses_at s key accuser accused ring name w epoch ≡ signs s key name w (option_map (λ e. Accusation (record { accuser = accuser; accused = accused; epoch = e; ring = ring })) epoch)
accuses-signs s w key accuser accused ring name None = refl
accuses-signs s w key accuser accused ring name (Some epoch) = refl

abbrev pub ok_answer : Answer → Result Answer Forgery
ok_answer a = Ok a

signs-as : (s : Setting) (w : ModelWorld) (body : Option Body) (k key : ℕ) (n name : List ℕ) → k ≡ key → n ≡ name → ok_answer (signs s k n w body) ≡ Ok (signs s key name w body)
signs-as s w body k key n name e f = ap (λ (z : ℕ). ok_answer (signs s z n w body)) e ∙ ap (λ (z : List ℕ). ok_answer (signs s key z w body)) f

pub does-signs : (s : Setting) (w : ModelWorld) (line : WorldLine) (key : ℕ) (name : List ℕ) → SignsSo line key name → does s w line ≡ Ok (signs s key name w (body_in w line))
does-signs s w (lines.SignNote k note n) key name h = signs-as s w (Some (Note note)) k key n name h.0 h.1
does-signs s w (lines.SignAccusation k accuser accused epoch ring n) key name h =
    ap (λ (a : Answer). Ok a) (accuses-signs s w k accuser accused ring n (epoch_meant w accused epoch)) ∙ signs-as s w (body_in w (lines.SignAccusation k accuser accused epoch ring n)) k key n name h.0 h.1
does-signs s w line key name h = absurd h

-- ---- a line that has ended

pub at-ended : (s : Setting) (w : ModelWorld) (before : List NodeEvent) (v : Kept) (old out : List ℕ) → Holds s w before v → out ≡ old ++ 10 ∷ [] → At s before (old ++ 10 ∷ []) v out (begun w)
at-ended s w before v old out h is = record { holds = holds-quiet s w before v h; written = is ∙ sym (append-nil (old ++ 10 ∷ [])) }
