-- A line ends as forged only where it hands over bytes in which something is.
use Rattle.std.proofs.Common.{◌≡◌, ℕ, ◌+◌, ◌<◌, ◌≤◌, zero, suc, true, List, [], ◌∷◌, ◌++◌, length, Option, Some, None, refl, ap, sym, ◌∙◌, subst, arith}
use Rattle.std.specs.Prelude.{Result, Ok, Err}
use Rattle.std.specs.List.{slice_get}
use Rattle.std.proofs.lemmas.Bool.{cond_both}
use Rattle.std.proofs.lemmas.List.{append_assoc}
use Rattle.line_text.specs.declared.bad_word.BadWord.{BadWord}
use Rattle.node_rules.specs.Lives.{Input, Delivers}
use Rattle.schedule_world.specs.declared.line.WorldLine.{WorldLine}
use Rattle.schedule_world.specs.declared.line.WorldLine.TheVariants as lines
use Rattle.world_rules.specs.Settings.{Setting, Signed, setting_of}
use Rattle.world_rules.specs.Calls.{called_on}
use Rattle.world_rules.specs.Worlds.{Life, Named, World, is_running, named_so, running}
use Rattle.world_rules.specs.Forgeries.{Forgery, forgery}
use Rattle.world_rules.specs.declared.verdict.RefusalReason.{RefusalReason}
use Rattle.world_rules.specs.Refusals.{why_not}
use Rattle.world_rules.specs.Steps.{Answer, Execution, NodeEvent, and_then, answered, begun, calls, calls_running, does, flows, flows_next, flows_one, given_bytes, gives, gives_each, hands, hands_sent, quiet, signed_in, step, step_by, tells_got, unless_forged}
use Rattle.world_rules.specs.declared.cause.Cause.{Cause}
use Rattle.world_rules.specs.declared.cause.Cause.TheVariants as causes
use Rattle.world_rules.specs.Walk.{Brought, Grammar, Lists, Plays, Stage, Walk, at_end, brought, events_in, from_answer, from_line, no_roster, setting_in, stepped, walk, walk_over}
use Rattle.world_rules.specs.Laws.{IsSetting}
use Rattle.world_laws.specs.Flows.{FlowsOn}
use Rattle.world_laws.specs.Forged.{FlowsNext, ForgedLinesHandItOver, HandsOver, IsForgedIn}
use Rattle.world_laws.specs.Texts.{ForgedTextsHandItOver, IsComeTo, behind_taken, world_grammar}
use Rattle.world_laws.proofs.FirstForged.{forgeries-first}
use Rattle.world_laws.proofs.Flowing.{flow-done, flows-go-on}
use Rattle.world_laws.proofs.InWorlds.{nil-right}
use Rattle.world_laws.proofs.Spared.{same-forgery, stays-spared}
use Rattle.world_laws.proofs.Walking.{texts-come}

-- ---- courses

-- The signatures of the world, and some more.
record Extends (w v : World) : Type 0 where
  more : List Signed
  signed : v.signed ≡ w.signed ++ more

extends-same : (w v : World) → v.signed ≡ w.signed → Extends w v
extends-same w v same = record { more = []; signed = same ∙ sym (nil-right w.signed) }

extends-then : (u v w : World) → Extends u v → Extends v w → Extends u w
extends-then u v w h k = record { more = h.more ++ k.more; signed = k.signed ∙ ap (λ xs. xs ++ k.more) h.signed ∙ append_assoc u.signed h.more k.more }

extends-running : (s : Setting) (m : ℕ) (i : Input) (current : Option Life) (c : Execution) → Extends c.world (calls_running s m i (c.world.hosts m) current c).world
extends-running s m i None c = extends-same c.world c.world refl
extends-running s m i (Some life) c = record { more = signed_in m (called_on (setting_of s m) life.node i (c.world.hosts m).disk).call.told; signed = refl }

extends-calls : (s : Setting) (m : ℕ) (i : Input) (c : Execution) → Extends c.world (calls s m i c).world
unfolding calls
extends-calls s m i c = extends-running s m i (c.world.hosts m).current c

-- ---- what is handed over in this world

-- What is found to be forged is so in bytes of which P holds.
record Finding (s : Setting) (w : World) (P : List ℕ → Type 0) (f : Forgery) : Type 0 where
  bytes : List ℕ
  handed : P bytes
  found : forgery s w bytes ≡ Some f

abbrev Finds : Setting → World → (List ℕ → Type 0) → Result Execution Forgery → Type 0
Finds s w P (Err f) = Finding s w P f
Finds s w P (Ok c) = Unit {0}

finds-unless : (s : Setting) (w : World) (P : List ℕ → Type 0) (bytes : List ℕ) (found : Option Forgery) (d : Execution) → forgery s w bytes ≡ found → P bytes → Finds s w P (unless_forged found d)
finds-unless s w P bytes (Some f) d is h = record { bytes = bytes; handed = h; found = is }
finds-unless s w P bytes None d is h = tt

finds-hands : (s : Setting) (P : List ℕ → Type 0) (m : ℕ) (bytes : List ℕ) (c : Execution) → P bytes → Finds s c.world P (hands s m bytes c)
unfolding hands
finds-hands s P m bytes c h = finds-unless s c.world P bytes (forgery s c.world bytes) (calls s m (Delivers bytes) c) refl h

finds-hands_sent : (s : Setting) (P : List ℕ → Type 0) (m number : ℕ) (o : Option (ℕ × List ℕ)) (c : Execution) → ((d : ℕ × List ℕ) → o ≡ Some d → P d.1) → Finds s c.world P (hands_sent s m number o c)
finds-hands_sent s P m number None c h = tt
finds-hands_sent s P m number (Some d) c h = finds-hands s P m d.1 (tells_got s m number c) (h d refl)

finds-gives : (s : Setting) (P : List ℕ → Type 0) (m : ℕ) (x : Option Named) (c : Execution) → ((y : Named) → x ≡ Some y → P (given_bytes y)) → Finds s c.world P (gives s m x c)
finds-gives s P m None c h = tt
finds-gives s P m (Some y) c h = finds-hands s P m (given_bytes y) c (h y refl)

-- ---- one after another: where the first is handed over, all are

abbrev Spares : Setting → List ℕ → Result Execution Forgery → Type 0
Spares s bytes (Err f) = ⊥
Spares s bytes (Ok c) = forgery s c.world bytes ≡ None

spares-unless : (s : Setting) (bytes : List ℕ) (found : Option Forgery) (d : Execution) → found ≡ None → forgery s d.world bytes ≡ None → Spares s bytes (unless_forged found d)
spares-unless s bytes (Some f) d none h = never f none
  where
    never : (f : Forgery) → Some f ≡ None → ⊥
    never f e = cc
spares-unless s bytes None d none h = h

spared-call : (s : Setting) (m : ℕ) (bytes : List ℕ) (c : Execution) → forgery s c.world bytes ≡ None → forgery s (calls s m (Delivers bytes) c).world bytes ≡ None
spared-call s m bytes c none =
    let d : Execution = calls s m (Delivers bytes) c in
    let x : Extends c.world d.world = extends-calls s m (Delivers bytes) c in
    stays-spared s c.world d.world x.more bytes x.signed none

spares-hands : (s : Setting) (m : ℕ) (bytes : List ℕ) (c : Execution) → forgery s c.world bytes ≡ None → Spares s bytes (hands s m bytes c)
unfolding hands
spares-hands s m bytes c none = spares-unless s bytes (forgery s c.world bytes) (calls s m (Delivers bytes) c) none (spared-call s m bytes c none)

spares-then : (s : Setting) (bytes : List ℕ) (r : Result Execution Forgery) (f : Execution → Result Execution Forgery) → Spares s bytes r → ((c : Execution) → forgery s c.world bytes ≡ None → Spares s bytes (f c)) → Spares s bytes (and_then r f)
spares-then s bytes (Err found) f h k = h
spares-then s bytes (Ok c) f h k = k c h

spares-each : (s : Setting) (ms : List ℕ) (y : Named) (c : Execution) → forgery s c.world (given_bytes y) ≡ None → Spares s (given_bytes y) (gives_each s ms (Some y) c)
spares-each s [] y c none = none
spares-each s (m ∷ ms) y c none =
    spares-then s (given_bytes y) (hands s m (given_bytes y) c) (gives_each s ms (Some y)) (spares-hands s m (given_bytes y) c none) (λ d h. spares-each s ms y d h)

finds-spared : (s : Setting) (w : World) (P : List ℕ → Type 0) (bytes : List ℕ) (r : Result Execution Forgery) → Spares s bytes r → Finds s w P r
finds-spared s w P bytes (Err f) h = absurd h
finds-spared s w P bytes (Ok c) h = tt

finds-first : (s : Setting) (P : List ℕ → Type 0) (m : ℕ) (ms : List ℕ) (y : Named) (found : Option Forgery) (c : Execution) → forgery s c.world (given_bytes y) ≡ found → P (given_bytes y)
    → Finds s c.world P (and_then (unless_forged found (calls s m (Delivers (given_bytes y)) c)) (gives_each s ms (Some y)))
finds-first s P m ms y (Some f) c is h = record { bytes = given_bytes y; handed = h; found = is }
finds-first s P m ms y None c is h =
    let d : Execution = calls s m (Delivers (given_bytes y)) c in
    finds-spared s c.world P (given_bytes y) (gives_each s ms (Some y) d) (spares-each s ms y d (spared-call s m (given_bytes y) c is))

finds-gives_each : (s : Setting) (P : List ℕ → Type 0) (ms : List ℕ) (x : Option Named) (c : Execution) → ((y : Named) → x ≡ Some y → P (given_bytes y)) → Finds s c.world P (gives_each s ms x c)
unfolding hands
finds-gives_each s P [] x c h = tt
finds-gives_each s P (m ∷ ms) None c h = finds-gives_each s P ms None c h
finds-gives_each s P (m ∷ ms) (Some y) c h = finds-first s P m ms y (forgery s c.world (given_bytes y)) c refl (h y refl)

-- ---- flows

-- What a datagram that is taken comes to.
abbrev TakesOne : Setting → ℕ × List ℕ → Execution → Result Execution Forgery → Type 0
TakesOne s d c (Err f) = (is_running c.world d.0 ≡ true) × (forgery s c.world d.1 ≡ Some f)
TakesOne s d c (Ok e) = Extends c.world e.world

one-unless : (s : Setting) (d : ℕ × List ℕ) (c e : Execution) (found : Option Forgery) → is_running c.world d.0 ≡ true → forgery s c.world d.1 ≡ found → Extends c.world e.world → TakesOne s d c (unless_forged found e)
one-unless s d c e (Some f) runs is h = (runs, is)
one-unless s d c e None runs is h = h

one-hands : (s : Setting) (d : ℕ × List ℕ) (c taken : Execution) → is_running c.world d.0 ≡ true → taken.world.signed ≡ c.world.signed → TakesOne s d c (hands s d.0 d.1 taken)
unfolding hands
one-hands s d c taken runs same =
    let e : Execution = calls s d.0 (Delivers d.1) taken in
    one-unless s d c e (forgery s taken.world d.1) runs (sym (same-forgery s c.world taken.world d.1 same))
    (extends-then c.world taken.world e.world (extends-same c.world taken.world same) (extends-calls s d.0 (Delivers d.1) taken))

takes-one : (s : Setting) (d : ℕ × List ℕ) (c : Execution) → TakesOne s d c (flows_one s d c)
takes-one s d c =
    let number : ℕ = c.world.flowed in
    let taken : Execution = record c { world = record c.world { flowed = number + 1 } } in
    cond_both (is_running c.world d.0) (hands_sent s d.0 number (Some d) taken) (Ok taken) (TakesOne s d c)
    (λ yes. one-hands s d c (tells_got s d.0 number taken) yes refl) (λ no. extends-same c.world taken.world refl)

-- The datagram that comes next behind so many, in the bytes of which this is forged.
record FlowEnds (s : Setting) (n : ℕ) (c : Execution) (f : Forgery) : Type 0 where
  before : ℕ
  fewer : before < n
  flown : Execution
  is : flows s before c ≡ Ok flown
  extends : Extends c.world flown.world
  to : ℕ
  bytes : List ℕ
  next : slice_get flown.world.sent flown.world.flowed ≡ Some (to, bytes)
  runs : is_running flown.world to ≡ true
  found : forgery s flown.world bytes ≡ Some f

abbrev FlowsSo : Setting → ℕ → Execution → Result Execution Forgery → Type 0
FlowsSo s n c (Err f) = FlowEnds s n c f
FlowsSo s n c (Ok d) = Unit {0}

flow-longer : (s : Setting) (k : ℕ) (d : ℕ × List ℕ) (c e : Execution) → slice_get c.world.sent c.world.flowed ≡ Some d → flows_one s d c ≡ Ok e → flows s (suc k) c ≡ flows s k e
flow-longer s k d c e is one = ap (λ o. flows_next s o (flows s k) c) is ∙ ap (λ r. and_then r (flows s k)) one

ends-longer : (s : Setting) (n : ℕ) (d : ℕ × List ℕ) (c e : Execution) (r : Result Execution Forgery) → slice_get c.world.sent c.world.flowed ≡ Some d → flows_one s d c ≡ Ok e → Extends c.world e.world → FlowsSo s n e r → FlowsSo s (suc n) c r
ends-longer s n d c e (Err f) is one grown h =
    record {
      before = suc h.before;
      fewer = omega (arith, h.fewer);
      flown = h.flown;
      is = flow-longer s h.before d c e is one ∙ h.is;
      extends = extends-then c.world e.world h.flown.world grown h.extends;
      to = h.to;
      bytes = h.bytes;
      next = h.next;
      runs = h.runs;
      found = h.found;
    }
ends-longer s n d c e (Ok x) is one grown h = tt

ends-then : (s : Setting) (n : ℕ) (d : ℕ × List ℕ) (c : Execution) (r : Result Execution Forgery) → slice_get c.world.sent c.world.flowed ≡ Some d → flows_one s d c ≡ r → TakesOne s d c r → ((e : Execution) → FlowsSo s n e (flows s n e)) → FlowsSo s (suc n) c (and_then r (flows s n))
ends-then s n d c (Err f) is one h rest =
    record { before = 0; fewer = omega arith; flown = c; is = refl; extends = extends-same c.world c.world refl; to = d.0; bytes = d.1; next = is; runs = h.0; found = h.1 }
ends-then s n d c (Ok e) is one h rest = ends-longer s n d c e (flows s n e) is one h (rest e)

ends-next : (s : Setting) (n : ℕ) (o : Option (ℕ × List ℕ)) (c : Execution) → slice_get c.world.sent c.world.flowed ≡ o → ((e : Execution) → FlowsSo s n e (flows s n e)) → FlowsSo s (suc n) c (flows_next s o (flows s n) c)
ends-next s n None c is rest = tt
ends-next s n (Some d) c is rest = ends-then s n d c (flows_one s d c) is refl (takes-one s d c) rest

flows-so : (s : Setting) (n : ℕ) (c : Execution) → FlowsSo s n c (flows s n c)
flows-so s zero c = tt
flows-so s (suc n) c = ends-next s n (slice_get c.world.sent c.world.flowed) c refl (flows-so s n)

-- ---- lines

abbrev FindsIn : Setting → World → WorldLine → Result Answer Forgery → Type 0
FindsIn s w line (Err f) = IsForgedIn s w line f
FindsIn s w line (Ok a) = Unit {0}

-- The line hands over such bytes as the world is what it was.
finds-answered : (s : Setting) (w : World) (line : WorldLine) (r : Result Execution Forgery) → IsSetting s → Finds s w (HandsOver s w w line) r → FindsIn s w line (answered r)
finds-answered s w line (Err f) fits h =
    record { later = w; more = []; signed = sym (nil-right w.signed); bytes = h.bytes; handed = h.handed; first = (forgeries-first s w h.bytes f fits).0 h.found }
finds-answered s w line (Ok c) fits h = tt

finds-flown : (s : Setting) (w : World) (most : ℕ) (f : Forgery) → IsSetting s → FlowEnds s most (begun w) f → IsForgedIn s w (lines.Flow most) f
finds-flown s w most f fits h =
    let v : World = h.flown.world in
    let is : step s w (lines.Flow h.before) ≡ Ok (quiet h.flown) = flow-done s w h.before ∙ ap answered h.is in
    let on : FlowsOn h.before w v h.flown.told = flows-go-on s w h.before (quiet h.flown) is in
    let handed : FlowsNext s w v most h.bytes = record { before = h.before; fewer = h.fewer; flown = quiet h.flown; flows = is; there = refl; untaken = omega (arith, on.until); to = h.to; next = h.next; runs = h.runs } in
    record { later = v; more = h.extends.more; signed = h.extends.signed; bytes = h.bytes; handed = handed; first = (forgeries-first s v h.bytes f fits).0 h.found }

finds-flow : (s : Setting) (w : World) (most : ℕ) (r : Result Execution Forgery) → IsSetting s → FlowsSo s most (begun w) r → FindsIn s w (lines.Flow most) (answered r)
finds-flow s w most (Err f) fits h = finds-flown s w most f fits h
finds-flow s w most (Ok c) fits h = tt

finds-does : (s : Setting) (w : World) (line : WorldLine) → IsSetting s → FindsIn s w line (does s w line)
finds-does s w (lines.Deliver number m) fits =
    finds-answered s w (lines.Deliver number m) (hands_sent s m number (slice_get w.sent number) (begun w)) fits
    (finds-hands_sent s (HandsOver s w w (lines.Deliver number m)) m number (slice_get w.sent number) (begun w) (λ d is. (refl, d.0, is)))
finds-does s w (lines.Flow most) fits = finds-flow s w most (flows s most (begun w)) fits (flows-so s most (begun w))
finds-does s w (lines.Raw m bytes) fits =
    finds-answered s w (lines.Raw m bytes) (hands s m bytes (begun w)) fits (finds-hands s (HandsOver s w w (lines.Raw m bytes)) m bytes (begun w) (refl, refl))
finds-does s w (lines.Give name m) fits =
    finds-answered s w (lines.Give name m) (gives s m (named_so w name) (begun w)) fits
    (finds-gives s (HandsOver s w w (lines.Give name m)) m (named_so w name) (begun w) (λ y is. (refl, y, is, refl)))
finds-does s w (lines.GiveAll name) fits =
    finds-answered s w (lines.GiveAll name) (gives_each s (running s w) (named_so w name) (begun w)) fits
    (finds-gives_each s (HandsOver s w w (lines.GiveAll name)) (running s w) (named_so w name) (begun w) (λ y is. (refl, y, is, refl)))
finds-does s w line fits = tt

finds-by : (s : Setting) (w : World) (line : WorldLine) (why : Option RefusalReason) → IsSetting s → FindsIn s w line (step_by s w line why)
finds-by s w line (Some why) fits = tt
finds-by s w line None fits = finds-does s w line fits

finds-step : (s : Setting) (w : World) (line : WorldLine) → IsSetting s → FindsIn s w line (step s w line)
unfolding step
finds-step s w line fits = finds-by s w line (why_not s w line) fits

pub lines-hand-over : ForgedLinesHandItOver
lines-hand-over s w line f fits is = subst (FindsIn s w line) is (finds-step s w line fits)

-- ---- texts

-- The line that ends the walk over this text as forged, behind as many lines as were taken.
record EndsForged {P : Type 0} (g : Grammar P) (text : List (List ℕ)) (p : P) (w : Walk) (f : Forgery) : Type 0 where
  bytes : List ℕ
  line : WorldLine
  there : slice_get text (length w.taken) ≡ Some bytes
  read : g.judge (behind_taken g p w.taken) bytes ≡ Ok line
  is : brought setting_in w.stage line ≡ Err f

forged-at_end : {P : Type 0} (g : Grammar P) (p : P) (stage : Stage) (fault : Option BadWord) (f : Forgery) → (at_end stage fault).cause ≡ Some (causes.Forged f.who f.body) → EndsForged g [] p (at_end stage fault) f
forged-at_end g p stage None f e = cc
forged-at_end g p stage (Some bad) f e = cc

-- The lines behind, where they end as forged.
abbrev Behind : {P : Type 0} → Grammar P → List (List ℕ) → P → (Stage → Walk) → Forgery → Type 0
Behind g rest p more f = (after : Stage) → (more after).cause ≡ Some (causes.Forged f.who f.body) → EndsForged g rest p (more after) f

forged-answer : {P : Type 0} (g : Grammar P) (p : P) (bytes : List ℕ) (rest : List (List ℕ)) (stage : Stage) (line : WorldLine) (r : Result Brought Forgery) (more : Stage → Walk) (f : Forgery)
    → g.judge p bytes ≡ Ok line → brought setting_in stage line ≡ r → Behind g rest (g.behind p line) more f
    → (from_answer stage line r more).cause ≡ Some (causes.Forged f.who f.body) → EndsForged g (bytes ∷ rest) p (from_answer stage line r more) f
forged-answer g p bytes rest stage line (Err found) more f read is h e = record { bytes = bytes; line = line; there = refl; read = read; is = is ∙ ap (λ x. Err x) (same found f e) }
  where
    same : (x y : Forgery) → Some (causes.Forged x.who x.body) ≡ Some (causes.Forged y.who y.body) → x ≡ y
    same x y e =
        let owner : x.who ≡ y.who = cc in
        let said : x.body ≡ y.body = cc in
        λ i. record { who = owner i; body = said i }
forged-answer g p bytes rest stage line (Ok b) more f read is h e = let x = h b.stage e in record { bytes = x.bytes; line = x.line; there = x.there; read = x.read; is = x.is }

forged-line : {P : Type 0} (g : Grammar P) (p : P) (bytes : List ℕ) (rest : List (List ℕ)) (stage : Stage) (r : Result WorldLine BadWord) (more : WorldLine → Stage → Walk) (f : Forgery)
    → g.judge p bytes ≡ r → ((line : WorldLine) → Behind g rest (g.behind p line) (more line) f)
    → (from_line setting_in stage r more).cause ≡ Some (causes.Forged f.who f.body) → EndsForged g (bytes ∷ rest) p (from_line setting_in stage r more) f
forged-line g p bytes rest stage (Err bad) more f read h e = cc
forged-line g p bytes rest stage (Ok line) more f read h e = forged-answer g p bytes rest stage line (brought setting_in stage line) (more line) f read refl (h line) e

forged-walk : {P : Type 0} (g : Grammar P) (text : List (List ℕ)) (p : P) (stage : Stage) (f : Forgery) → (walk g setting_in text p stage).cause ≡ Some (causes.Forged f.who f.body) → EndsForged g text p (walk g setting_in text p stage) f
forged-walk g [] p stage f e = forged-at_end g p stage (g.end_fault p) f e
forged-walk g (bytes ∷ rest) p stage f e =
    forged-line g p bytes rest stage (g.judge p bytes) (λ line after. walk g setting_in rest (g.behind p line) after) f refl
    (λ line after. forged-walk g rest (g.behind p line) after f) e

stepped-forged : (s : Setting) (w : World) (line : WorldLine) (r : Result Answer Forgery) (f : Forgery) → step s w line ≡ r → stepped s r ≡ Err f → step s w line ≡ Err f
stepped-forged s w line (Err found) f is e = is ∙ ap (λ x. Err x) (same found f e)
  where
    same : (x y : Forgery) → (let r : Result Brought Forgery = Err x in r) ≡ Err y → x ≡ y
    same x y e = cc
stepped-forged s w line (Ok a) f is e = cc

-- What the line ends in is a world, and it hands over what is forged there.
record InWorld (stage : Stage) (line : WorldLine) (f : Forgery) : Type 0 where
  setting : Setting
  world : World
  come : stage ≡ Plays setting world
  ends : step setting world line ≡ Err f
  handed : IsForgedIn setting world line f

forged-stage : (stage : Stage) (told : List NodeEvent) (line : WorldLine) (f : Forgery) → IsComeTo stage told → brought setting_in stage line ≡ Err f → InWorld stage line f
forged-stage (Lists r) told line f come e = cc
forged-stage (Plays s w) told line f come e =
    let is : step s w line ≡ Err f = stepped-forged s w line (step s w line) f refl e in
    record { setting = s; world = w; come = refl; ends = is; handed = lines-hand-over s w line f come.0.fits is }

pub texts-hand-over : ForgedTextsHandItOver
texts-hand-over spelled text f e =
    let g = world_grammar spelled in
    let w : Walk = walk_over g setting_in text in
    let x = forged-walk g text g.start (Lists no_roster) f e in
    let y : InWorld w.stage x.line f = forged-stage w.stage (events_in w) x.line f (texts-come spelled text) x.is in
    record {
      setting = y.setting;
      world = y.world;
      come = y.come;
      line = x.line;
      stops = record { bytes = x.bytes; behind = refl; there = x.there; read = x.read };
      ends = y.ends;
      handed = y.handed;
    }

-- ---- how many lines are taken

-- There is no cause that ends all of these walks.
abbrev NeverEnds : (List (List ℕ) → Walk) → Type 0
NeverEnds walks = (c : Cause) → ((more : List (List ℕ)) → (walks more).cause ≡ Some c) → ⊥

past-answer : (stage : Stage) (line : WorldLine) (r : Result Brought Forgery) (behind : List (List ℕ) → Stage → Walk) (rest : List (List ℕ)) (n : ℕ) → NeverEnds (λ more. from_answer stage line r (behind more))
    → ((after : Stage) → NeverEnds (λ more. behind more after) → n ≤ length (behind rest after).taken) → suc n ≤ length (from_answer stage line r (behind rest)).taken
past-answer stage line (Err found) behind rest n never later = absurd (never (causes.Forged found.who found.body) (λ more. refl))
past-answer stage line (Ok b) behind rest n never later = let few : n ≤ length (behind rest b.stage).taken = later b.stage never in omega (arith, few)

past-line : (stage : Stage) (r : Result WorldLine BadWord) (behind : List (List ℕ) → WorldLine → Stage → Walk) (rest : List (List ℕ)) (n : ℕ) → NeverEnds (λ more. from_line setting_in stage r (behind more))
    → ((line : WorldLine) (after : Stage) → NeverEnds (λ more. behind more line after) → n ≤ length (behind rest line after).taken) → suc n ≤ length (from_line setting_in stage r (behind rest)).taken
past-line stage (Err word) behind rest n never later = absurd (never (causes.Bad word) (λ more. refl))
past-line stage (Ok line) behind rest n never later = past-answer stage line (brought setting_in stage line) (λ more. behind more line) rest n never (later line)

-- Lines of which none ends all texts that they begin are taken.
pub taken-past : {P : Type 0} (g : Grammar P) (front rest : List (List ℕ)) (p : P) (stage : Stage) → NeverEnds (λ more. walk g setting_in (front ++ more) p stage) → length front ≤ length (walk g setting_in (front ++ rest) p stage).taken
taken-past g [] rest p stage never = omega arith
taken-past g (bytes ∷ front) rest p stage never =
    past-line stage (g.judge p bytes) (λ more line after. walk g setting_in (front ++ more) (g.behind p line) after) rest (length front) never
    (λ line after ends. taken-past g front rest (g.behind p line) after ends)
