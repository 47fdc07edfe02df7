-- A whole tick.
use Rattle.std.proofs.Common.{◌≡◌, ℕ, ◌-◌, Bool, true, false, cond, eqb, List, [], map, refl, ap, sym, ◌∙◌, subst}
use Rattle.std.specs.Prelude.{◌/◌, ◌%◌}
use Rattle.ff_ids.specs.declared.Group.{Group}
use Rattle.ff_ids.specs.Views.{State}
use Rattle.ff_ids.specs.Steps.{Ticks}
use Rattle.membership.specs.Holds.{Holds}
use Rattle.detector.specs.Kept.{Kept as Probing, StandsFor}
use Rattle.detector.specs.Silence.{AreTo, History, silent as silent_of, ticked_with}
use Rattle.detector.specs.Watching.{watched}
use Rattle.epoch_store.specs.declared.Stored.{Stored}
use Rattle.journal.specs.declared.event.Event as journal
use Rattle.node_rules.specs.Nodes.{Setting, Node, state_of, certificate_of}
use Rattle.node_rules.specs.Calls.{Call, begun, lives}
use Rattle.node_rules.specs.Ticking.{accuses_all, gossips, spreads, pings_all, due_tick, is_due, begins_span, watched_by, round_of, passed, probed_at}
use Rattle.node_rules.specs.OtherNonces.{drawn, probed_with, ticked_sending, HaveSameMembers}
use Rattle.node_rules.proofs.LearnedLives.{draws}
use Rattle.audit_node.specs.Playing.{Kept, IsMirror, IsAt, Plays, Grows}
use Rattle.audit_node.proofs.PlayLemmas.{from-fine, setting-group, setting-me}

pub due-is : (s : Setting) (accused : List ℕ) (sent : List (ℕ × ℕ)) (round : ℕ) (c : Call)
    → due_tick s accused sent round c ≡ gossips s round (pings_all s sent (accuses_all s accused (spreads s c)))
unfolding due_tick
due-is s accused sent round c = refl

pub passed-is : (s : Setting) (n : Node) → passed s n ≡ lives s Ticks (begun n)
unfolding passed
passed-is s n = refl

-- The probes of the life have seen the tick with these pings, and a span may have begun.
abbrev pub seen : Setting → List (ℕ × ℕ) → Call → Call
seen s sent c =
    let st = state_of s c.node in
    record c { node = record c.node { probes = ticked_with c.node.probes (watched_by s st) sent; since = cond (begins_span s st) c.node.stored.epoch c.node.since } }

-- the state after the life's tick
abbrev pub now_of : Setting → Node → State
now_of s n = state_of s (passed s n).node

probed-is : (s : Setting) (n : Node) (sent : List (ℕ × ℕ)) → probed_with s n sent ≡ seen s sent (passed s n)
unfolding probed_with probed_at passed lives
probed-is s n sent = refl

sending-idle : (s : Setting) (n : Node) (sent : List (ℕ × ℕ)) → is_due s (now_of s n) ≡ false → ticked_sending s n sent ≡ probed_with s n sent
unfolding ticked_sending
sending-idle s n sent idle = rw idle refl

pub ticked-idle : (s : Setting) (n : Node) (sent : List (ℕ × ℕ)) → is_due s (now_of s n) ≡ false → ticked_sending s n sent ≡ seen s sent (passed s n)
ticked-idle s n sent idle = sending-idle s n sent idle ∙ probed-is s n sent

sending-due : (s : Setting) (n : Node) (sent : List (ℕ × ℕ)) → is_due s (now_of s n) ≡ true
    → ticked_sending s n sent ≡ due_tick s (silent_of (passed s n).node.probes (watched_by s (now_of s n))) sent (round_of s (now_of s n)) (probed_with s n sent)
unfolding ticked_sending
sending-due s n sent due = rw due refl

ticked-due : (s : Setting) (n : Node) (sent : List (ℕ × ℕ)) → is_due s (now_of s n) ≡ true
    → ticked_sending s n sent ≡ due_tick s (silent_of (passed s n).node.probes (watched_by s (now_of s n))) sent (round_of s (now_of s n)) (seen s sent (passed s n))
ticked-due s n sent due =
    sending-due s n sent due ∙ ap (λ (c : Call). due_tick s (silent_of (passed s n).node.probes (watched_by s (now_of s n))) sent (round_of s (now_of s n)) c) (probed-is s n sent)

-- The pings go to those whom the node would ping.
pub same-members : (s : Setting) (n : Node) (due : Bool) (sent : List (ℕ × ℕ)) → due ≡ is_due s (now_of s n) → AreTo (cond due (watched_by s (now_of s n)) []) sent → HaveSameMembers (drawn s n) sent
same-members s n true sent is to = (draws s n).due (sym is) ∙ sym to
same-members s n false sent is to = ap (map (λ (p : ℕ × ℕ). p.0)) ((draws s n).never (sym is)) ∙ sym to

-- What is found at a due tick.
pub record FindsDue (s : Setting) (n : Node) (silent : List ℕ) (round : ℕ) : Type 0 where
  pub due : is_due s (now_of s n) ≡ true
  pub silent_is : silent ≡ silent_of (passed s n).node.probes (watched_by s (now_of s n))
  pub round_is : round ≡ round_of s (now_of s n)

due-found : (s : Setting) (n : Node) (silent : List ℕ) (sent : List (ℕ × ℕ)) (round : ℕ) → FindsDue s n silent round → due_tick s silent sent round (seen s sent (passed s n)) ≡ ticked_sending s n sent
due-found s n silent sent round f =
    let c : Call = seen s sent (passed s n) in
    ap (λ (xs : List ℕ). due_tick s xs sent round c) f.silent_is
    ∙ ap (λ (k : ℕ). due_tick s (silent_of (passed s n).node.probes (watched_by s (now_of s n))) sent k c) f.round_is ∙ sym (ticked-due s n sent f.due)

-- what a due tick brings, where it is due and was found
pub plays-due : (s : Setting) (es : List journal.Event) (n : Node) (v0 v : Kept) (silent : List ℕ) (sent : List (ℕ × ℕ)) (round : ℕ)
    → Plays s es v (due_tick s silent sent round (seen s sent (passed s n))) → Grows v0 v → Plays s es v0 (passed s n) → (IsAt s es v0 (passed s n) → FindsDue s n silent round)
    → Plays s es v (ticked_sending s n sent)
plays-due s es n v0 v silent sent round h grows p finds =
    from-fine s es v0 v (passed s n) (ticked_sending s n sent) p grows (λ at. subst (Plays s es v) (due-found s n silent sent round (finds at)) h)

-- the tick is due by the code as by the definition
pub due-same : (s : Setting) (v : Kept) (n : Node) (now period : ℕ) → IsMirror s v n → now ≡ v.membership.moment → period ≡ v.group.period → eqb (now % period) 0 ≡ is_due s (state_of s n)
due-same s v n now period is at of =
    let g : s.group ≡ v.group = setting-group s v n is in
    ap (λ (k : ℕ). eqb (k % period) 0) (at ∙ sym is.holds.moment_same) ∙ ap (λ (p : ℕ). eqb ((state_of s n).moment % p) 0) (of ∙ ap (λ (x : Group). x.period) (sym g))

pub round-same : (s : Setting) (v : Kept) (n : Node) (now period : ℕ) → IsMirror s v n → now ≡ v.membership.moment → period ≡ v.group.period → now / period - 1 ≡ round_of s (state_of s n)
round-same s v n now period is at of =
    let g : s.group ≡ v.group = setting-group s v n is in
    ap (λ (k : ℕ). k / period - 1) (at ∙ sym is.holds.moment_same) ∙ ap (λ (p : ℕ). (state_of s n).moment / p - 1) (of ∙ ap (λ (x : Group). x.period) (sym g))

pub watched-same : (s : Setting) (v : Kept) (n : Node) → IsMirror s v n → v.detector.group ≡ v.group → watched v.detector.group.t (state_of s n) v.me ≡ watched_by s (state_of s n)
watched-same s v n is same =
    let g : s.group ≡ v.group = setting-group s v n is in
    let me : s.me ≡ v.me = setting-me s v n is in
    ap (λ (x : Group). watched x.t (state_of s n) v.me) (same ∙ sym g) ∙ ap (λ (m : ℕ). watched s.group.t (state_of s n) m) (sym me)

-- a span begins by the code as by the definition
pub begins-same : (s : Setting) (v : Kept) (n : Node) (now timeout : ℕ) → IsMirror s v n → now ≡ v.membership.moment
    → timeout ≡ v.group.timeout → eqb (now % timeout) 0 ≡ begins_span s (state_of s n)
begins-same s v n now timeout is at of =
    let g : s.group ≡ v.group = setting-group s v n is in
    ap (λ (k : ℕ). eqb (k % timeout) 0) (at ∙ sym is.holds.moment_same)
    ∙ ap (λ (p : ℕ). eqb ((state_of s n).moment % p) 0) (of ∙ ap (λ (x : Group). x.timeout) (sym g))

-- whatever the probes and the span were
pub grows-ticked : (a b : Kept) (d : Probing) (since : ℕ) → Grows (record a { detector = d; since = since }) b → Grows a b
grows-ticked a b d since h =
    record { going = h.going; events = h.events; group = h.group; heal = h.heal; me = h.me }

-- what the code has of a tick behind that of the life
pub record Sees (v : Kept) (s : Setting) (n : Node) (d : Probing) (since : ℕ) (sent : List (ℕ × ℕ)) : Type 0 where
  pub probes : (h : History) (st : State) → StandsFor v.detector h → Holds v.membership st
      → StandsFor d (ticked_with h (watched v.detector.group.t st v.me) sent)
  pub begins : Bool
  pub begins_is : begins ≡ begins_span s (state_of s n)
  pub since_is : since ≡ cond begins v.stored.epoch v.since

-- the probes have seen the tick, and a span may have begun
pub seen-at : (s : Setting) (es : List journal.Event) (v : Kept) (c : Call) (d : Probing) (since : ℕ) (sent : List (ℕ × ℕ))
    → IsAt s es v c → v.detector.group ≡ v.group → Sees v s c.node d since sent
    → IsAt s es (record v { detector = d; since = since }) (seen s sent c)
unfolding state_of certificate_of
seen-at s es v c d since sent at same h =
    let n = at.is in
    let begins : Bool = begins_span s (state_of s c.node) in
    let stands = h.probes c.node.probes (state_of s c.node) n.probes n.holds in
    record {
      is = record {
        setting = n.setting;
        signs = n.signs;
        holds = n.holds;
        stored = n.stored;
        records = n.records;
        roster = n.roster;
        probes = subst (λ ws. StandsFor d (ticked_with c.node.probes ws sent)) (watched-same s v c.node n same) stands;
        news = n.news;
        since = h.since_is ∙ ap (λ (b : Bool). cond b v.stored.epoch v.since) h.begins_is ∙ ap (λ (x : Stored). cond begins x.epoch v.since) n.stored ∙ ap (λ (k : ℕ). cond begins c.node.stored.epoch k) n.since;
      };
      told = at.told;
      sent = at.sent;
    }
