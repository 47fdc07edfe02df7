-- What each line keeps that each of its small steps keeps.
use Rattle.std.proofs.Common.{◌≡◌, ◌⊎◌, ℕ, ◌+◌, zero, suc, Bool, true, false, not, eqb, List, [], ◌∷◌, ◌++◌, Option, Some, None, inl, inr, refl, ap, sym, subst, length}
use Rattle.std.specs.Prelude.{Result, Ok, Err, is_some}
use Rattle.std.specs.List.{slice_get}
use Rattle.std.proofs.lemmas.Bool.{cond_both}
use Rattle.std.proofs.lemmas.List.{append_assoc}
use Rattle.ff_ids.specs.declared.NoteBody.{NoteBody}
use Rattle.ff_ids.specs.declared.RingNo.{RingNo}
use Rattle.records.specs.declared.Body.{Body}
use Rattle.records.specs.declared.Body.TheVariants.{Note}
use Rattle.epoch_store.specs.declared.Stored.{Stored}
use Rattle.journal.specs.declared.event.What.TheVariants as happened
use Rattle.node_rules.specs.Nodes as node
use Rattle.node_rules.specs.Calls.{Call}
use Rattle.node_rules.specs.Lives.{Input, Delivers, Ticks, Leaves}
use Rattle.schedule_world.specs.declared.line.WorldLine.TheVariants as lines
use Rattle.schedule_world.specs.declared.line.WorldLine.{WorldLine}
use Rattle.world_rules.specs.Settings.{Setting, is_node, is_liar, setting_of}
use Rattle.world_rules.specs.Disks.{Disk, after_calls, after_put, lets_pass, opening_calls, put_passes, stopped, stopped_in_put}
use Rattle.world_rules.specs.Calls.{OnDisk, called_on}
use Rattle.world_rules.specs.Worlds.{Life, Named, Host, World, begun_world, is_running, named_so, running, with_host}
use Rattle.world_rules.specs.Forgeries.{Forgery, forgery}
use Rattle.world_rules.specs.declared.verdict.RefusalReason.{RefusalReason}
use Rattle.world_rules.specs.declared.verdict.RefusalReason.TheVariants as whys
use Rattle.world_rules.specs.declared.verdict.Verdict.{Verdict}
use Rattle.world_rules.specs.declared.verdict.Verdict.TheVariants as verdicts
use Rattle.world_rules.specs.Refusals.{first_row, table, why_not}
use Rattle.world_rules.specs.Steps.{Answer, Execution, NodeEvent, accuses_at, and_then, answered, begins, begun, calls, calls_running, comes, does, epoch_meant, first_call, first_life, flows, flows_next, flows_one, given_bytes, gives, gives_each, hands, hands_sent, in_host, lies, life_over, monitored, of_life, opens, refuses, says, starts, starts_in_vain, step, step_by, tells_got, ticks, told_in, unless_forged, viewed, with_call, with_disk}
use Rattle.world_rules.specs.Laws.{Reached, opens_so, goes}
use Rattle.world_rules.proofs.OnDisks.{left-state}

-- What is delivered has nothing that is forged in it.
abbrev pub IsFree : Setting → World → Input → Type 0
IsFree s w (Delivers bytes) = forgery s w bytes ≡ None
IsFree s w Ticks = Unit {0}
IsFree s w Leaves = Unit {0}

-- The node begins a life.
abbrev pub begins_life : Setting → ℕ → Disk → Execution → Execution
begins_life s m d c =
    let host = c.world.hosts m in
    let call = first_call s m host.disk.state in
    in_host m (record { disk = d; past = host.past; current = Some (first_life host.disk.state call) }) (with_call m call c)

-- The key of the node has an index left, by its store.
abbrev pub HasIndexLeft : Setting → Host → Type 0
HasIndexLeft s host = eqb host.disk.state.next s.indexes ≡ false

-- Each small step of a line keeps it.
pub record Keeps (s : Setting) (J : World → List NodeEvent → Type 0) : Type 0 where
  pub called : (m : ℕ) (i : Input) (life : Life) (c : Execution) → (c.world.hosts m).current ≡ Some life → IsFree s c.world i → J c.world c.told
      → let d = comes m (c.world.hosts m) life i (called_on (setting_of s m) life.node i (c.world.hosts m).disk) c in J d.world d.told
  pub began : (m : ℕ) (d : Disk) (c : Execution) → is_node s m ≡ true → (c.world.hosts m).current ≡ None → HasIndexLeft s (c.world.hosts m) → d.state ≡ (first_call s m (c.world.hosts m).disk.state).node.stored → J c.world c.told
      → J (begins_life s m d c).world (begins_life s m d c).told
  pub tried : (m : ℕ) (d : Disk) (w : World) (told : List NodeEvent) → (w.hosts m).current ≡ None → HasIndexLeft s (w.hosts m) → (d.state ≡ (w.hosts m).disk.state) ⊎ (d.state ≡ (first_call s m (w.hosts m).disk.state).node.stored) → J w told
      → J (with_host m (with_disk (w.hosts m) d) w) told
  pub disked : (m : ℕ) (d : Disk) (w : World) (told : List NodeEvent) → d.state ≡ (w.hosts m).disk.state → J w told → J (with_host m (with_disk (w.hosts m) d) w) told
  pub ended : (m : ℕ) (life : Life) (w : World) (told : List NodeEvent) → (w.hosts m).current ≡ Some life → J w told → J (with_host m (life_over (w.hosts m) (Some life)) w) told
  pub got : (m moment number : ℕ) (w : World) (told : List NodeEvent) → J w told → J w (told ++ record { who = m; event = record { moment = moment; what = happened.Got number } } ∷ [])
  pub flowed : (number : ℕ) (w : World) (told : List NodeEvent) → J w told → J (record w { flowed = number }) told
  pub lied : (key : ℕ) (body : Body) (name : List ℕ) (w : World) (told : List NodeEvent) → is_liar s key ≡ true → J w told → J (lies s key body name w).world told

-- It holds of the line so far, behind what was reported before.
abbrev On : (World → List NodeEvent → Type 0) → List NodeEvent → Execution → Type 0
On J base c = J c.world (base ++ c.told)

abbrev OnCourse : (World → List NodeEvent → Type 0) → List NodeEvent → Result Execution Forgery → Type 0
OnCourse J base (Err found) = Unit {0}
OnCourse J base (Ok c) = On J base c

abbrev pub OnAnswer : (World → List NodeEvent → Type 0) → List NodeEvent → Result Answer Forgery → Type 0
OnAnswer J base (Err found) = Unit {0}
OnAnswer J base (Ok a) = J a.world (base ++ a.told)

nil-right : {A : Type 0} (xs : List A) → xs ++ [] ≡ xs
nil-right [] = refl
nil-right (x ∷ xs) = ap (λ ys. x ∷ ys) (nil-right xs)

-- nothing was reported
quietly : (J : World → List NodeEvent → Type 0) (base : List NodeEvent) (w : World) → J w base → J w (base ++ [])
quietly J base w h = subst (J w) (sym (nil-right base)) h

-- ---- calls

called-on : (s : Setting) (J : World → List NodeEvent → Type 0) (k : Keeps s J) (base : List NodeEvent) (m : ℕ) (i : Input) (current : Option Life) (c : Execution) → (c.world.hosts m).current ≡ current → IsFree s c.world i → On J base c
    → On J base (calls_running s m i (c.world.hosts m) current c)
called-on s J k base m i None c is free h = h
called-on s J k base m i (Some life) c is free h =
    let d : OnDisk = called_on (setting_of s m) life.node i (c.world.hosts m).disk in
    let after = comes m (c.world.hosts m) life i d c in
    subst (J after.world) (append_assoc base c.told (told_in m (length c.world.sent) d.call.told))
    (k.called m i life (record { world = c.world; told = base ++ c.told }) is free h)

keeps-calls : (s : Setting) (J : World → List NodeEvent → Type 0) (k : Keeps s J) (base : List NodeEvent) (m : ℕ) (i : Input) (c : Execution) → IsFree s c.world i → On J base c → On J base (calls s m i c)
unfolding calls
keeps-calls s J k base m i c free h = called-on s J k base m i (c.world.hosts m).current c refl free h

keeps-ticks : (s : Setting) (J : World → List NodeEvent → Type 0) (k : Keeps s J) (base : List NodeEvent) (m n : ℕ) (c : Execution) → On J base c → On J base (ticks s m n c)
keeps-ticks s J k base m zero c h = h
keeps-ticks s J k base m (suc n) c h = keeps-ticks s J k base m n (calls s m Ticks c) (keeps-calls s J k base m Ticks c tt h)

-- ---- datagrams

keeps-unless : (J : World → List NodeEvent → Type 0) (base : List NodeEvent) (found : Option Forgery) (c : Execution) → (found ≡ None → On J base c) → OnCourse J base (unless_forged found c)
keeps-unless J base (Some found) c h = tt
keeps-unless J base None c h = h refl

keeps-hands : (s : Setting) (J : World → List NodeEvent → Type 0) (k : Keeps s J) (base : List NodeEvent) (m : ℕ) (bytes : List ℕ) (c : Execution) → On J base c → OnCourse J base (hands s m bytes c)
unfolding hands
keeps-hands s J k base m bytes c h = keeps-unless J base (forgery s c.world bytes) (calls s m (Delivers bytes) c) (λ free. keeps-calls s J k base m (Delivers bytes) c free h)

keeps-then : (J : World → List NodeEvent → Type 0) (base : List NodeEvent) (r : Result Execution Forgery) (f : Execution → Result Execution Forgery) → OnCourse J base r → ((c : Execution) → On J base c → OnCourse J base (f c)) → OnCourse J base (and_then r f)
keeps-then J base (Err found) f h k = tt
keeps-then J base (Ok c) f h k = k c h

keeps-got : (s : Setting) (J : World → List NodeEvent → Type 0) (k : Keeps s J) (base : List NodeEvent) (m number : ℕ) (c : Execution) → On J base c → On J base (tells_got s m number c)
keeps-got s J k base m number c h = subst (J c.world) (append_assoc base c.told _) (k.got m _ number c.world (base ++ c.told) h)

keeps-hands_sent : (s : Setting) (J : World → List NodeEvent → Type 0) (k : Keeps s J) (base : List NodeEvent) (m number : ℕ) (d : Option (ℕ × List ℕ)) (c : Execution) → On J base c → OnCourse J base (hands_sent s m number d c)
keeps-hands_sent s J k base m number None c h = h
keeps-hands_sent s J k base m number (Some d) c h = keeps-hands s J k base m d.1 (tells_got s m number c) (keeps-got s J k base m number c h)

keeps-flows_one : (s : Setting) (J : World → List NodeEvent → Type 0) (k : Keeps s J) (base : List NodeEvent) (d : ℕ × List ℕ) (c : Execution) → On J base c → OnCourse J base (flows_one s d c)
keeps-flows_one s J k base d c h =
    let number : ℕ = c.world.flowed in
    let taken : Execution = record c { world = record c.world { flowed = number + 1 } } in
    let h1 : On J base taken = k.flowed (number + 1) c.world (base ++ c.told) h in
    cond_both (is_running c.world d.0) (hands_sent s d.0 number (Some d) taken) (Ok taken) (OnCourse J base) (λ yes. keeps-hands_sent s J k base d.0 number (Some d) taken h1) (λ no. h1)

keeps-flows_next : (s : Setting) (J : World → List NodeEvent → Type 0) (k : Keeps s J) (base : List NodeEvent) (d : Option (ℕ × List ℕ)) (rest : Execution → Result Execution Forgery) (c : Execution) → ((e : Execution) → On J base e → OnCourse J base (rest e)) → On J base c
    → OnCourse J base (flows_next s d rest c)
keeps-flows_next s J k base None rest c f h = h
keeps-flows_next s J k base (Some d) rest c f h = keeps-then J base (flows_one s d c) rest (keeps-flows_one s J k base d c h) f

keeps-flows : (s : Setting) (J : World → List NodeEvent → Type 0) (k : Keeps s J) (base : List NodeEvent) (n : ℕ) (c : Execution) → On J base c → OnCourse J base (flows s n c)
keeps-flows s J k base zero c h = h
keeps-flows s J k base (suc n) c h = keeps-flows_next s J k base (slice_get c.world.sent c.world.flowed) (flows s n) c (keeps-flows s J k base n) h

keeps-gives : (s : Setting) (J : World → List NodeEvent → Type 0) (k : Keeps s J) (base : List NodeEvent) (m : ℕ) (x : Option Named) (c : Execution) → On J base c → OnCourse J base (gives s m x c)
keeps-gives s J k base m None c h = h
keeps-gives s J k base m (Some x) c h = keeps-hands s J k base m (given_bytes x) c h

keeps-gives_each : (s : Setting) (J : World → List NodeEvent → Type 0) (k : Keeps s J) (base : List NodeEvent) (ms : List ℕ) (x : Option Named) (c : Execution) → On J base c → OnCourse J base (gives_each s ms x c)
keeps-gives_each s J k base [] x c h = h
keeps-gives_each s J k base (m ∷ ms) x c h = keeps-then J base (gives s m x c) (gives_each s ms x) (keeps-gives s J k base m x c h) (λ d. keeps-gives_each s J k base ms x d)

keeps-answered : (J : World → List NodeEvent → Type 0) (base : List NodeEvent) (r : Result Execution Forgery) → OnCourse J base r → OnAnswer J base (answered r)
keeps-answered J base (Err found) h = tt
keeps-answered J base (Ok c) h = h

-- ---- starts

keeps-begins : (s : Setting) (J : World → List NodeEvent → Type 0) (k : Keeps s J) (base : List NodeEvent) (m : ℕ) (d : Disk) (w : World) → is_node s m ≡ true → (w.hosts m).current ≡ None → HasIndexLeft s (w.hosts m) → d.state ≡ (w.hosts m).disk.state → J w base
    → OnAnswer J base (Ok (begins s m (with_disk (w.hosts m) d) (first_call s m (w.hosts m).disk.state) w))
keeps-begins s J k base m d w is idle left same h =
    let host : Host = w.hosts m in
    let call : Call = first_call s m host.disk.state in
    cond_both {A = Answer} (put_passes d) _ _ (λ a. J a.world (base ++ a.told))
    (λ yes. subst (λ (kept : Stored). J (in_host m (record { disk = after_put call.node.stored d; past = host.past; current = Some (first_life kept call) }) (with_call m call (begun w))).world (base ++ told_in m (length w.sent) call.told)) (sym same)
    (k.began m (after_put call.node.stored d) (record { world = w; told = base }) is idle left refl h))
    (λ no. quietly J base _ (k.tried m (stopped_in_put call.node.stored d) w base idle left
    (left-state d call.node.stored (λ z. (z ≡ host.disk.state) ⊎ (z ≡ call.node.stored)) (inl same) (inr refl)) h))

keeps-opens : (s : Setting) (J : World → List NodeEvent → Type 0) (k : Keeps s J) (base : List NodeEvent) (m : ℕ) (rest : Host → Answer) (w : World) → J w base
    → (J (rest (with_disk (w.hosts m) (after_calls (opening_calls (w.hosts m).disk) (w.hosts m).disk))).world (base ++ (rest (with_disk (w.hosts m) (after_calls (opening_calls (w.hosts m).disk) (w.hosts m).disk))).told))
    → OnAnswer J base (Ok (opens m (w.hosts m) rest w))
keeps-opens s J k base m rest w h then_ =
    let host : Host = w.hosts m in
    cond_both {A = Answer} (lets_pass host.disk.armed (opening_calls host.disk)) _ _ (λ a. J a.world (base ++ a.told)) (λ yes. then_)
    (λ no. quietly J base _ (k.disked m (stopped host.disk) w base refl h))

keeps-starts : (s : Setting) (J : World → List NodeEvent → Type 0) (k : Keeps s J) (base : List NodeEvent) (m : ℕ) (w : World) → is_node s m ≡ true → (w.hosts m).current ≡ None → HasIndexLeft s (w.hosts m) → J w base → OnAnswer J base (Ok (starts s m w))
unfolding starts
keeps-starts s J k base m w is idle left h =
    let host : Host = w.hosts m in
    keeps-opens s J k base m (λ opened. begins s m opened (first_call s m host.disk.state) w) w h
    (keeps-begins s J k base m (after_calls (opening_calls host.disk) host.disk) w is idle left refl h)

keeps-starts_in_vain : (s : Setting) (J : World → List NodeEvent → Type 0) (k : Keeps s J) (base : List NodeEvent) (m first : ℕ) (w : World) → J w base → OnAnswer J base (Ok (starts_in_vain m first w))
unfolding starts_in_vain
keeps-starts_in_vain s J k base m first w h =
    let host : Host = w.hosts m in
    keeps-opens s J k base m (λ opened. says (verdicts.Refused (whys.UsedUp first)) (with_host m opened w)) w h
    (quietly J base _ (k.disked m (after_calls (opening_calls host.disk) host.disk) w base refl h))

keeps-stops : (s : Setting) (J : World → List NodeEvent → Type 0) (k : Keeps s J) (base : List NodeEvent) (m : ℕ) (w : World) (current : Option Life) → (w.hosts m).current ≡ current → J w base → J (with_host m (life_over (w.hosts m) current) w) base
keeps-stops s J k base m w None is h = k.disked m (w.hosts m).disk w base refl h
keeps-stops s J k base m w (Some life) is h = k.ended m life w base is h

-- ---- refusals

row_at : List (Bool × RefusalReason) → ℕ → Bool
row_at [] i = false
row_at (row ∷ rows) zero = row.0
row_at (row ∷ rows) (suc i) = row_at rows i

none-row : (rows : List (Bool × RefusalReason)) (i : ℕ) → first_row rows ≡ None → row_at rows i ≡ false
unfolding row_at
none-row [] i e = refl
none-row ((true, why) ∷ rows) i e = cc
none-row ((false, why) ∷ rows) zero e = refl
none-row ((false, why) ∷ rows) (suc i) e = none-row rows i e

not-not : (b : Bool) → not b ≡ false → b ≡ true
not-not true e = refl
not-not false e = cc

none-current : (o : Option Life) → is_some o ≡ false → o ≡ None
none-current None e = refl
none-current (Some x) e = cc

pub start-node : (s : Setting) (w : World) (m : ℕ) → why_not s w (lines.Start m) ≡ None → is_node s m ≡ true
unfolding why_not row_at
start-node s w m e = not-not (is_node s m) (none-row (table s w (lines.Start m)) 0 e)

pub start-idle : (s : Setting) (w : World) (m : ℕ) → why_not s w (lines.Start m) ≡ None → (w.hosts m).current ≡ None
unfolding why_not row_at
start-idle s w m e = none-current (w.hosts m).current (none-row (table s w (lines.Start m)) 4 e)

pub start-left : (s : Setting) (w : World) (m : ℕ) → why_not s w (lines.Start m) ≡ None → HasIndexLeft s (w.hosts m)
unfolding why_not row_at
start-left s w m e = none-row (table s w (lines.Start m)) 8 e

note-liar : (s : Setting) (w : World) (key : ℕ) (note : NoteBody) (name : List ℕ) → why_not s w (lines.SignNote key note name) ≡ None → is_liar s key ≡ true
unfolding why_not row_at
note-liar s w key note name e = not-not (is_liar s key) (none-row (table s w (lines.SignNote key note name)) 1 e)

accusation-liar : (s : Setting) (w : World) (key accuser accused : ℕ) (epoch : Option ℕ) (ring : RingNo) (name : List ℕ) → why_not s w (lines.SignAccusation key accuser accused epoch ring name) ≡ None → is_liar s key ≡ true
unfolding why_not row_at
accusation-liar s w key accuser accused epoch ring name e = not-not (is_liar s key) (none-row (table s w (lines.SignAccusation key accuser accused epoch ring name)) 1 e)

-- ---- lines

keeps-lies : (s : Setting) (J : World → List NodeEvent → Type 0) (k : Keeps s J) (base : List NodeEvent) (key : ℕ) (body : Body) (name : List ℕ) (w : World) → is_liar s key ≡ true → J w base → OnAnswer J base (Ok (lies s key body name w))
keeps-lies s J k base key body name w liar h = quietly J base _ (k.lied key body name w base liar h)

keeps-accuses_at : (s : Setting) (J : World → List NodeEvent → Type 0) (k : Keeps s J) (base : List NodeEvent) (key accuser accused : ℕ) (ring : RingNo) (name : List ℕ) (w : World) (epoch : Option ℕ) → is_liar s key ≡ true → J w base
    → OnAnswer J base (Ok (accuses_at s key accuser accused ring name w epoch))
keeps-accuses_at s J k base key accuser accused ring name w None liar h = quietly J base w h
keeps-accuses_at s J k base key accuser accused ring name w (Some epoch) liar h = keeps-lies s J k base key _ name w liar h

keeps-of_life : (s : Setting) (J : World → List NodeEvent → Type 0) (base : List NodeEvent) (m : ℕ) (current : Option Life) (ask : node.Setting → node.Node → Verdict) (w : World) → J w base → OnAnswer J base (Ok (of_life s m current ask w))
keeps-of_life s J base m None ask w h = quietly J base w h
keeps-of_life s J base m (Some life) ask w h = quietly J base w h

keeps-does : (s : Setting) (J : World → List NodeEvent → Type 0) (k : Keeps s J) (base : List NodeEvent) (w : World) (line : WorldLine) → why_not s w line ≡ None → J w base → OnAnswer J base (does s w line)
keeps-does s J k base w (lines.Start m) can h = keeps-starts s J k base m w (start-node s w m can) (start-idle s w m can) (start-left s w m can) h
keeps-does s J k base w (lines.Stop m outcome) can h = quietly J base _ (keeps-stops s J k base m w (w.hosts m).current refl h)
keeps-does s J k base w (lines.Arm m n outcome) can h = quietly J base _ (k.disked m (record (w.hosts m).disk { armed = Some (record { calls = n; outcome = outcome }) }) w base refl h)
keeps-does s J k base w (lines.Tick m n) can h = keeps-ticks s J k base m n (begun w) (quietly J base w h)
keeps-does s J k base w (lines.Leave m) can h = keeps-calls s J k base m Leaves (begun w) tt (quietly J base w h)
keeps-does s J k base w (lines.Deliver number m) can h = keeps-answered J base _ (keeps-hands_sent s J k base m number (slice_get w.sent number) (begun w) (quietly J base w h))
keeps-does s J k base w (lines.Flow most) can h = keeps-answered J base _ (keeps-flows s J k base most (begun w) (quietly J base w h))
keeps-does s J k base w (lines.Raw m bytes) can h = keeps-answered J base _ (keeps-hands s J k base m bytes (begun w) (quietly J base w h))
keeps-does s J k base w (lines.SignNote key note name) can h = keeps-lies s J k base key (Note note) name w (note-liar s w key note name can) h
keeps-does s J k base w (lines.SignAccusation key accuser accused epoch ring name) can h =
    keeps-accuses_at s J k base key accuser accused ring name w (epoch_meant w accused epoch) (accusation-liar s w key accuser accused epoch ring name can) h
keeps-does s J k base w (lines.Give name m) can h = keeps-answered J base _ (keeps-gives s J k base m (named_so w name) (begun w) (quietly J base w h))
keeps-does s J k base w (lines.GiveAll name) can h = keeps-answered J base _ (keeps-gives_each s J k base (running s w) (named_so w name) (begun w) (quietly J base w h))
keeps-does s J k base w (lines.View m) can h = keeps-of_life s J base m (w.hosts m).current viewed w h
keeps-does s J k base w (lines.Monitor m ring of) can h = keeps-of_life s J base m (w.hosts m).current (monitored ring.0 of) w h
keeps-does s J k base w _ can h = quietly J base w h

keeps-refuses : (s : Setting) (J : World → List NodeEvent → Type 0) (k : Keeps s J) (base : List NodeEvent) (w : World) (line : WorldLine) (why : RefusalReason) → J w base → OnAnswer J base (Ok (refuses w line why))
keeps-refuses s J k base w (lines.Start m) (whys.UsedUp first) h = keeps-starts_in_vain s J k base m first w h
keeps-refuses s J k base w line why h = quietly J base w h

keeps-step_by : (s : Setting) (J : World → List NodeEvent → Type 0) (k : Keeps s J) (base : List NodeEvent) (w : World) (line : WorldLine) (why : Option RefusalReason) → why_not s w line ≡ why → J w base → OnAnswer J base (step_by s w line why)
keeps-step_by s J k base w line (Some why) is h = keeps-refuses s J k base w line why h
keeps-step_by s J k base w line None is h = keeps-does s J k base w line is h

pub keeps-step : (s : Setting) (J : World → List NodeEvent → Type 0) (k : Keeps s J) (base : List NodeEvent) (w : World) (line : WorldLine) → J w base → OnAnswer J base (step s w line)
unfolding step
keeps-step s J k base w line h = keeps-step_by s J k base w line (why_not s w line) refl h

-- What holds at first holds in each world that is reached.
pub keeps-reached : (s : Setting) (J : World → List NodeEvent → Type 0) (k : Keeps s J) → J (begun_world s) [] → (w : World) (told : List NodeEvent) → Reached s w told → J w told
keeps-reached s J k first w told opens_so = first
keeps-reached s J k first w told (goes v before line a reached is) =
    subst (OnAnswer J before) is (keeps-step s J k before v line (keeps-reached s J k first v before reached))
