-- A whole tick.
use Rattle.std.proofs.Common.{◌≡◌, ℕ, ◌-◌, Bool, true, false, cond, inl, inr, eqb, List, refl, ap, sym, ◌∙◌, subst}
use Rattle.std.specs.Prelude.{Result, Ok, Err, IsErr, take, ◌/◌, ◌%◌}
use Rattle.std.specs.List.{slice_get}
use Rattle.std.proofs.lemmas.Bool.{cases_Bool, false≢true}
use Rattle.ff_ids.specs.declared.Group.{Group}
use Rattle.ff_ids.specs.Views.{State}
use Rattle.ff_ids.specs.Steps.{Ticks}
use Rattle.membership.specs.Holds.{Holds}
use Rattle.detector.specs.Kept.{Kept as Probing, DrawsFor}
use Rattle.detector.specs.Silence.{History, silent as silent_of, pings as pings_of, ticked as probed}
use Rattle.detector.specs.Watching.{watched}
use Rattle.epoch_store.specs.declared.Stored.{Stored}
use Rattle.journal.specs.declared.event.Event as journal
use Rattle.node_rules.specs.Nodes.{Setting, Node, state_of, certificate_of}
use Rattle.node_rules.specs.Calls.{Call, begun, lives}
use Rattle.node_rules.specs.Ticking.{accuses, accuses_all, gossips, spreads, pings_all, due_tick, is_due, begins_span, watched_by, silent_at, round_of, passed, probed_at, spread_at, ticked}
use Rattle.node_rules.specs.OnDisks.{Ticks as Ticked}
use Rattle.node_rules.proofs.Called.{cut-accusing, until-ticked}
use Rattle.node_core.specs.declared.NodeFault.{NodeFault}
use Rattle.node_core.specs.Playing.{Kept, IsNode, IsAt, IsBehind, Plays, Stops, Extends, Grows}
use Rattle.node_core.specs.Told.{Tellings}
use Rattle.node_core.specs.Signatures.{StopsAt}
use Rattle.node_core.specs.Ticks.{accusing, RunsDue, RunsTick, seen}
use Rattle.node_core.proofs.PlayLemmas.{setting-group, setting-me}
use Rattle.node_core.proofs.DeliverLemmas.{RunsCall}
use Rattle.node_core.proofs.ExtendLemmas.{extends-same, extends-trans, extends-pings_all, extends-gossips, extends-due}
use Rattle.node_core.proofs.DueLemmas.{behind-extends, behind-same}

pub due-is : (s : Setting) (accused : List ℕ) (sent : List (ℕ × ℕ)) (round : ℕ) (c : Call)
    → due_tick s accused sent round c ≡ gossips s round (pings_all s sent (accuses_all s accused (spreads s c)))
unfolding due_tick
due-is s accused sent round c = refl

pub passed-is : (s : Setting) (n : Node) → passed s n ≡ lives s Ticks (begun n)
unfolding passed
passed-is s n = refl

-- the state after the life's tick
abbrev pub now_of : Setting → Node → State
now_of s n = state_of s (passed s n).node

pub ticked-idle : (s : Setting) (n : Node) → is_due s (now_of s n) ≡ false → ticked s n ≡ seen s (passed s n)
unfolding ticked probed_at
ticked-idle s n idle = rw idle refl

ticked-due : (s : Setting) (n : Node) → is_due s (now_of s n) ≡ true
    → ticked s n ≡ due_tick s (silent_of (passed s n).node.probes (watched_by s (now_of s n))) (pings_of (passed s n).node.probes true (watched_by s (now_of s n))) (round_of s (now_of s n)) (seen s (passed s n))
unfolding ticked probed_at
ticked-due s n due = rw due refl

silent-due : (s : Setting) (n : Node) → is_due s (now_of s n) ≡ true → silent_at s n ≡ silent_of (passed s n).node.probes (watched_by s (now_of s n))
unfolding silent_at
silent-due s n due = rw due refl

spread-seen : (s : Setting) (n : Node) → spread_at s n ≡ spreads s (seen s (passed s n))
unfolding spread_at probed_at
spread-seen s n = refl

-- What is found at a due tick.
pub record FindsDue (s : Setting) (n : Node) (silent : List ℕ) (pings : List (ℕ × ℕ)) (round : ℕ) : Type 0 where
  pub due : is_due s (now_of s n) ≡ true
  pub silent_is : silent ≡ silent_of (passed s n).node.probes (watched_by s (now_of s n))
  pub pings_is : pings ≡ pings_of (passed s n).node.probes true (watched_by s (now_of s n))
  pub round_is : round ≡ round_of s (now_of s n)

due-found : (s : Setting) (n : Node) (silent : List ℕ) (pings : List (ℕ × ℕ)) (round : ℕ) → FindsDue s n silent pings round → due_tick s silent pings round (seen s (passed s n)) ≡ ticked s n
due-found s n silent pings round f =
    let c : Call = seen s (passed s n) in
    ap (λ (xs : List ℕ). due_tick s xs pings round c) f.silent_is ∙ ap (λ (ps : List (ℕ × ℕ)). due_tick s (silent_of (passed s n).node.probes (watched_by s (now_of s n))) ps round c) f.pings_is
    ∙ ap (λ (k : ℕ). due_tick s (silent_of (passed s n).node.probes (watched_by s (now_of s n))) (pings_of (passed s n).node.probes true (watched_by s (now_of s n))) k c) f.round_is ∙ sym (ticked-due s n f.due)

-- the disk failed in an accusation
pub err-due : (s : Setting) (es : List journal.Event) (os : List (ℕ × List ℕ)) (v : Kept) (silent : List ℕ) (pings : List (ℕ × ℕ)) (round : ℕ) (c : Call) (answer : Result (Unit {0}) NodeFault) → IsErr answer
    → StopsAt (Stops s es os v) (accusing s) silent (accuses_all s silent (spreads s c)) (spreads s c)
    → RunsDue (Plays s es os v) (Stops s es os v) s silent pings round c answer
err-due s es os v silent pings round c (Ok x) err h = absurd (false≢true err)
err-due s es os v silent pings round c (Err e) err h =
    let ran = h.2.1 in
    let c1 : Call = accuses_all s silent (spreads s c) in
    let further : Extends c1 (due_tick s silent pings round c) = subst (Extends c1) (sym (due-is s silent pings round c))
    (extends-trans c1 (pings_all s pings c1) (gossips s round (pings_all s pings c1)) (extends-pings_all s pings c1) (extends-gossips s round (pings_all s pings c1))) in
    (h.0, h.1, (h.2.0, record { at = ran.at; ended = ran.ended; due = λ failed. behind-extends es os v c1 (due_tick s silent pings round c) (ran.due failed) further }))

-- behind the tick of the life, a tick only adds
pub ticked-due-or-not : (s : Setting) (n : Node) → Extends (seen s (passed s n)) (ticked s n)
ticked-due-or-not s n =
    let c : Call = seen s (passed s n) in
    elim (cases_Bool (is_due s (now_of s n))) [
      | inl due ↦
          let silent : List ℕ = silent_of (passed s n).node.probes (watched_by s (now_of s n)) in
          let pings : List (ℕ × ℕ) = pings_of (passed s n).node.probes true (watched_by s (now_of s n)) in
          subst (Extends c) (sym (ticked-due s n due)) (extends-due s silent pings (round_of s (now_of s n)) c)
      | inr idle ↦ subst (Extends c) (sym (ticked-idle s n idle)) (extends-same c)
    ]

-- the tick of the life was made, and memory was refused there or behind it
pub tick-refused : (s : Setting) (es : List journal.Event) (os : List (ℕ × List ℕ)) (n : Node) (v w : Kept) → w.telling.events ≡ v.telling.events → w.telling.sent ≡ v.telling.sent → Plays s es os v (passed s n) → IsBehind es os w (ticked s n)
tick-refused s es os n v w events sent p =
    let c : Call = seen s (passed s n) in
    behind-extends es os w c (ticked s n) (behind-same es os v w c events sent (record { told = p.due.told; sent = p.due.sent })) (ticked-due-or-not s n)

due-ran : (s : Setting) (es : List journal.Event) (os : List (ℕ × List ℕ)) (n : Node) (v : Kept) (silent : List ℕ) (pings : List (ℕ × ℕ)) (round : ℕ) (r : Result (Unit {0}) NodeFault)
    → RunsDue (Plays s es os v) (Stops s es os v) s silent pings round (seen s (passed s n)) r → FindsDue s n silent pings round → RunsTick (v.telling.failed ≡ false) (Plays s es os v) (Stops s es os v) s n r
due-ran s es os n v silent pings round (Ok done) h f = subst (Plays s es os v) (due-found s n silent pings round f) h
due-ran s es os n v silent pings round (Err fault) h f = (
  h.0,
  h.1,
  (
    λ fine. ap (λ (xs : List ℕ). slice_get xs h.0) (silent-due s n f.due ∙ sym f.silent_is) ∙ h.2.0,
    subst (λ x. Stops s es os v x (accuses false s (accuses_all s (take h.0 (silent_at s n)) (spread_at s n)) h.1))
        (due-found s n silent pings round f)
        (subst (λ x. Stops s es os v (due_tick s silent pings round (seen s (passed s n))) x)
        (ap (λ (xs : List ℕ). accuses false s (accuses_all s (take h.0 xs) (spreads s (seen s (passed s n)))) h.1) (f.silent_is ∙ sym (silent-due s n f.due)) ∙ ap (λ (x : Call). accuses false s (accuses_all s (take h.0 (silent_at s n)) x) h.1) (sym (spread-seen s n))) h.2.1),
  ),
)

due-stuck : (s : Setting) (es : List journal.Event) (os : List (ℕ × List ℕ)) (n : Node) (v0 v : Kept) (silent : List ℕ) (pings : List (ℕ × ℕ)) (round : ℕ) (r : Result (Unit {0}) NodeFault)
    → RunsDue (Plays s es os v) (Stops s es os v) s silent pings round (seen s (passed s n)) r → v0.telling.failed ≡ true → Grows v0 v → Plays s es os v0 (passed s n) → RunsTick (v.telling.failed ≡ false) (Plays s es os v) (Stops s es os v) s n r
due-stuck s es os n v0 v silent pings round (Ok done) h failed grows p =
    let same = grows.stuck failed in
    record {
      at = λ fine. absurd (false≢true (sym (grows.going fine) ∙ failed));
      due = tick-refused s es os n v0 v (ap (λ (t : Tellings). t.events) same) (ap (λ (t : Tellings). t.sent) same) p;
    }
due-stuck s es os n v0 v silent pings round (Err fault) h failed grows p =
    let same = grows.stuck failed in
    let never = λ (fine : v.telling.failed ≡ false). false≢true (sym (grows.going fine) ∙ failed) in (
      h.0,
      h.1,
      (
        λ fine. absurd (never fine),
        record {
          at = λ fine. absurd (never fine);
          ended = λ fine. absurd (never fine);
          due = λ again. tick-refused s es os n v0 v (ap (λ (t : Tellings). t.events) same) (ap (λ (t : Tellings). t.sent) same) p;
        },
      ),
    )

-- what a due tick brings, where it is due and was found
pub runs-due : (s : Setting) (es : List journal.Event) (os : List (ℕ × List ℕ)) (n : Node) (v0 v : Kept) (silent : List ℕ) (pings : List (ℕ × ℕ)) (round : ℕ) (r : Result (Unit {0}) NodeFault)
    → RunsDue (Plays s es os v) (Stops s es os v) s silent pings round (seen s (passed s n)) r → Grows v0 v → Plays s es os v0 (passed s n) → (IsAt s es os v0 (passed s n) → FindsDue s n silent pings round)
    → RunsTick (v.telling.failed ≡ false) (Plays s es os v) (Stops s es os v) s n r
runs-due s es os n v0 v silent pings round r h grows p finds =
    elim (cases_Bool v0.telling.failed) [
      | inl failed ↦ due-stuck s es os n v0 v silent pings round r h failed grows p
      | inr fine ↦ due-ran s es os n v silent pings round r h (finds (p.at fine))
    ]

-- the tick is due by the code as by the definition
pub due-same : (s : Setting) (v : Kept) (n : Node) (now period : ℕ) → IsNode s v n → now ≡ v.membership.moment → period ≡ v.group.period → eqb (now % period) 0 ≡ is_due s (state_of s n)
due-same s v n now period is at of =
    let g : s.group ≡ v.group = setting-group s v.group v.heal v.me v.authority v.signer.key is.setting in
    ap (λ (k : ℕ). eqb (k % period) 0) (at ∙ sym is.holds.moment_same) ∙ ap (λ (p : ℕ). eqb ((state_of s n).moment % p) 0) (of ∙ ap (λ (x : Group). x.period) (sym g))

pub round-same : (s : Setting) (v : Kept) (n : Node) (now period : ℕ) → IsNode s v n → now ≡ v.membership.moment → period ≡ v.group.period → now / period - 1 ≡ round_of s (state_of s n)
round-same s v n now period is at of =
    let g : s.group ≡ v.group = setting-group s v.group v.heal v.me v.authority v.signer.key is.setting in
    ap (λ (k : ℕ). k / period - 1) (at ∙ sym is.holds.moment_same) ∙ ap (λ (p : ℕ). (state_of s n).moment / p - 1) (of ∙ ap (λ (x : Group). x.period) (sym g))

pub watched-same : (s : Setting) (v : Kept) (n : Node) → IsNode s v n → v.detector.group ≡ v.group → watched v.detector.group.t (state_of s n) v.me ≡ watched_by s (state_of s n)
watched-same s v n is same =
    let g : s.group ≡ v.group = setting-group s v.group v.heal v.me v.authority v.signer.key is.setting in
    let me : s.me ≡ v.me = setting-me s v.group v.heal v.me v.authority v.signer.key is.setting in
    ap (λ (x : Group). watched x.t (state_of s n) v.me) (same ∙ sym g) ∙ ap (λ (m : ℕ). watched s.group.t (state_of s n) m) (sym me)

-- a span begins by the code as by the definition
pub begins-same : (s : Setting) (v : Kept) (n : Node) (now timeout : ℕ) → IsNode s v n → now ≡ v.membership.moment
    → timeout ≡ v.group.timeout → eqb (now % timeout) 0 ≡ begins_span s (state_of s n)
begins-same s v n now timeout is at of =
    let g : s.group ≡ v.group = setting-group s v.group v.heal v.me v.authority v.signer.key is.setting in
    ap (λ (k : ℕ). eqb (k % timeout) 0) (at ∙ sym is.holds.moment_same)
    ∙ ap (λ (p : ℕ). eqb ((state_of s n).moment % p) 0) (of ∙ ap (λ (x : Group). x.timeout) (sym g))

-- whatever the probes and the span were
pub grows-ticked : (a b : Kept) (d : Probing) (since : ℕ) → Grows (record a { detector = d; since = since }) b → Grows a b
grows-ticked a b d since h =
    record { going = h.going; stuck = h.stuck; events = h.events; sent = h.sent; before = h.before; ended = h.ended; group = h.group; heal = h.heal; me = h.me; roster = h.roster }

-- what the code has of a tick behind that of the life
pub record Sees (v : Kept) (s : Setting) (n : Node) (d : Probing) (since : ℕ) (due : Bool) : Type 0 where
  pub due_is : due ≡ is_due s (state_of s n)
  pub probes : (h : History) (st : State) → DrawsFor v.detector h → Holds v.membership st
      → DrawsFor d (probed h due (watched v.detector.group.t st v.me))
  pub begins : Bool
  pub begins_is : begins ≡ begins_span s (state_of s n)
  pub since_is : since ≡ cond begins v.signer.state.epoch v.since

-- the probes have seen the tick, and a span may have begun
pub seen-at : (s : Setting) (es : List journal.Event) (os : List (ℕ × List ℕ)) (v : Kept) (c : Call) (d : Probing) (since : ℕ) (due : Bool)
    → IsAt s es os v c → v.detector.group ≡ v.group → Sees v s c.node d since due
    → IsAt s es os (record v { detector = d; since = since }) (seen s c)
unfolding state_of certificate_of
seen-at s es os v c d since due at same h =
    let n = at.is in
    let begins : Bool = begins_span s (state_of s c.node) in
    let stands = h.probes c.node.probes (state_of s c.node) n.probes n.holds in
    record {
      is = record {
        setting = n.setting;
        holds = n.holds;
        stored = n.stored;
        records = n.records;
        roster = n.roster;
        probes = subst (λ (b : Bool). DrawsFor d (probed c.node.probes b (watched_by s (state_of s c.node)))) h.due_is (subst (λ ws. DrawsFor d (probed c.node.probes due ws)) (watched-same s v c.node n same) stands);
        news = n.news;
        since = h.since_is ∙ ap (λ (b : Bool). cond b v.signer.state.epoch v.since) h.begins_is ∙ ap (λ (x : Stored). cond begins x.epoch v.since) n.stored ∙ ap (λ (k : ℕ). cond begins c.node.stored.epoch k) n.since;
      };
      told = at.told;
      sent = at.sent;
      before = at.before;
    }

-- ---- what is given

pub tick-ran : (s : Setting) (es : List journal.Event) (os : List (ℕ × List ℕ)) (n : Node) (v : Kept) (done : Result (Unit {0}) NodeFault)
    → RunsTick (v.telling.failed ≡ false) (Plays s es os v) (Stops s es os v) s n done → RunsCall (v.telling.failed ≡ false) (Plays s es os v) (Stops s es os v) s n Ticked done
tick-ran s es os n v (Ok x) ran = ran
tick-ran s es os n v (Err e) ran =
    let silent : List ℕ = take ran.0 (silent_at s n) in
    let c : Call = accuses false s (accuses_all s silent (spread_at s n)) ran.1 in
    let stops : Stops s es os v (ticked s n) c = ran.2.1 in (
      c,
      (λ fine. cut-accusing s n c (record { place = ran.0; at = ran.1; found = ran.2.0 fine; is = sym (until-ticked s n silent ran.1); over = stops.ended fine }), stops),
    )
