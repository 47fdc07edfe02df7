-- How a life is written and served.
use Rattle.std.proofs.Common.{◌≡◌, ℕ, List, [], ◌∷◌, ◌++◌, Option, Some, Result, Err, refl, sym, ap, subst, ◌∙◌, inl, inr, append_assoc, append-nil}
use Rattle.std.specs.Io.KnownBytes.{Appends}
use Rattle.std.specs.List.{AllByRecursion}
use Rattle.std.proofs.KnownBytes.{Appends-trans}
use Rattle.journal.specs.declared.event.Event as journal
use Rattle.ports.specs.Contents.{TookFront}
use Rattle.ports.specs.Count.{Rose}
use Rattle.ports.specs.Disk.{Moment}
use Rattle.ports.specs.Link.{LinkState}
use Rattle.node_rules.specs.Nodes.{Node, Setting}
use Rattle.node_core.specs.Playing.{IsNode, Kept}
use Rattle.node_loop.specs.declared.fault.ServeFault.{ServeFault}
use Rattle.node_loop.specs.declared.fault.ServeFault.TheVariants as serve
use Rattle.turn_rules.specs.Turns.{Act}
use Rattle.node_loop.specs.Courses.{ServeState, served, served_from, tells_all, writes}
use Rattle.turn_rules.specs.Lines.{line_of}
use Rattle.node_loop.specs.Serving.{Serves}
use Rattle.node_loop.specs.Writing as loop
use Rattle.node_loop.specs.Writing.{Before, IsAt, IsWithin, Standing, Stands, Tells, before_all, standing}
use Rattle.node_loop.proofs.SendLemmas.{tells-writes}
use Rattle.node_loop.proofs.TurnLemmas.{begins-at}
use Rattle.node_command.specs.declared.halt.NodeHalt.TheVariants as halt
use Rattle.node_command.specs.Halts.{IsBehind, IsServed, halt_served, is_writable, is_write_fault}
use Rattle.node_command.specs.Journal.{Environment, IsLived, IsUnsent, IsUntold, Lives}
use Rattle.turn_rules.specs.Journals.{end_line}
use Rattle.turn_rules.specs.Lines.{lines_of}
use Rattle.ports.specs.Outside.{OfDisk}

-- ## What the start reports

pub unsent-written : (events : List journal.Event) (r : ServeState) → AllByRecursion IsUnsent events → tells_all events r ≡ writes (lines_of events) r
unsent-written [] r all = ap (λ t. record r { text = t }) (sym (append-nil r.text))
unsent-written (e ∷ events) r all =
    ap (tells_all events) (tells-writes e r all.0) ∙ unsent-written events (writes (line_of e) r) all.1
    ∙ ap (λ t. record r { text = t }) (append_assoc r.text (line_of e) (lines_of events))

-- it was reported whole
pub record IsTold (s : Setting) (n : Node) (node : Kept) (told : List journal.Event) (link : LinkState) (taken mid : Option (List ℕ)) (later : Option LinkState) : Type 0 where
  pub written : Appends taken mid (lines_of told)
  pub given : later ≡ Some link

pub told-whole : (s : Setting) (n : Node) (node : Kept) (events told : List journal.Event) (link : LinkState) (was : Option LinkState) (taken mid : Option (List ℕ)) (later : Option LinkState) (moments : List Moment) (sent sent1 : ℕ)
    → events ≡ told → AllByRecursion IsUnsent told → IsNode s node n → was ≡ Some link → sent ≡ 0
    → ((before : Before) (moments : List Moment) (r : ServeState) → IsAt before (standing node was taken moments sent) r → IsAt before (standing node later mid moments sent1) (tells_all events r))
    → IsTold s n node told link taken mid later
told-whole s n node events told link was taken mid later moments sent sent1 same unsent is link_is none tells =
    let before = before_all taken node.signer moments in
    let start : ServeState = served_from n link in
    let first = subst (λ k. IsAt before (standing node was taken moments k) start) (sym none) (begins-at s node n was taken moments link is link_is).at in
    let at = subst (λ r. IsAt before (standing node later mid moments sent1) r) (ap (λ (es : List journal.Event). tells_all es start) same ∙ unsent-written told start unsent) (tells before moments start first) in
    record { written = at.text; given = at.link }

pub told-part : (s : Setting) (n : Node) (node : Kept) (events told : List journal.Event) (acts : List Act) (link : LinkState) (was later : Option LinkState) (taken mid : Option (List ℕ)) (disk : OfDisk) (sent sent1 : ℕ) (e : ServeFault)
    → events ≡ told → AllByRecursion IsUnsent told → IsNode s node n → was ≡ Some link → sent ≡ 0
    → ((before : Before) (moments : List Moment) (r : ServeState) → IsAt before (standing node was taken moments sent) r → Tells before (standing node later mid moments sent1) (tells_all events r) (Err e))
    → Lives s node told acts (served_from n link) (record { taken = taken; link = was; disk = disk }) (record { taken = mid; link = later; disk = disk }) (Err (halt_served e))
told-part s n node events told acts link was later taken mid disk sent sent1 e same unsent is link_is none tells = by e (subst (λ r. Tells before w r (Err e)) (ap (λ (es : List journal.Event). tells_all es start) same ∙ unsent-written told start unsent) (tells before disk.moments start first))
  where
    before : Before
    before = before_all taken node.signer disk.moments

    start : ServeState
    start = served_from n link

    w : Standing
    w = standing node later mid disk.moments sent1

    first : IsAt before (standing node was taken disk.moments sent) start
    first = subst (λ k. IsAt before (standing node was taken disk.moments k) start) (sym none) (begins-at s node n was taken disk.moments link is link_is).at

    part : IsWithin before w (writes (lines_of told) start) → IsUntold told start (record { taken = taken; link = was; disk = disk }) (record { taken = mid; link = later; disk = disk })
    part h = record { text = h.text; front = h.front; written = h.written; link = h.link; tells = h.told; given = h.given; disk = refl }

    by : (e : ServeFault) → Tells before w (writes (lines_of told) start) (Err e) → Lives s node told acts start (record { taken = taken; link = was; disk = disk }) (record { taken = mid; link = later; disk = disk }) (Err (halt_served e))
    by serve.StoreFault h = absurd h
    by serve.WriteFault h = inl (part h)
    by serve.OutOfMemory h = inl (part h)

-- ## The serving

pub served-part : (s : Setting) (n : Node) (node later : Kept) (told : List journal.Event) (acts : List Act) (link : LinkState) (was : Option LinkState) (taken mid : Option (List ℕ)) (disk : OfDisk) (now : Environment) (sent : ℕ) (e : ServeFault)
    → IsTold s n node told link taken mid (Some link) → (e ≡ serve.StoreFault → Rose disk.faults now.disk.faults)
    → Serves s (before_all mid node.signer disk.moments) acts (served_from n link) (standing later now.link now.taken now.disk.moments sent) (Err e)
    → Lives s node told acts (served_from n link) (record { taken = taken; link = was; disk = disk }) now (Err (halt_served e))
served-part s n node later told acts link was taken mid disk now sent serve.StoreFault h rose served = record {
  whole = served.whole;
  stopped = served.stopped;
  kept = later;
  is = served.at.node;
  written = Appends-trans taken mid now.taken (lines_of told) served.whole.text h.written served.at.at.text;
  given = served.at.at.link;
  faults = rose refl;
  key = served.at.at.key;
}
served-part s n node later told acts link was taken mid disk now sent serve.WriteFault h rose served =
    inr (inl (record { mid = mid; first = h.written; kept = later; sent = sent; broke = served }))
served-part s n node later told acts link was taken mid disk now sent serve.OutOfMemory h rose served =
    inr (record { mid = mid; first = h.written; kept = later; sent = sent; broke = served })

pub lived-whole : (s : Setting) (n : Node) (node later : Kept) (told : List journal.Event) (acts : List Act) (link : LinkState) (was : Option LinkState) (taken mid mid2 : Option (List ℕ)) (disk : OfDisk) (now : Environment) (sent : ℕ)
    → IsTold s n node told link taken mid (Some link) → later.signer.closed ≡ node.signer.closed → now.disk.faults ≡ disk.faults
    → Stands s (before_all mid node.signer disk.moments) (standing later now.link mid2 now.disk.moments sent) (served s acts (served_from n link)) → Appends mid2 now.taken end_line
    → IsLived s node told (served s acts (served_from n link)) (record { taken = taken; link = was; disk = disk }) now
lived-whole s n node later told acts link was taken mid mid2 disk now sent h closed faults at ended =
    let r = served s acts (served_from n link) in
    let two = Appends-trans taken mid mid2 (lines_of told) r.text h.written at.at.text in
    let three = Appends-trans taken mid2 now.taken (lines_of told ++ r.text) end_line two ended in
    record {
      kept = later;
      is = at.node;
      unclosed = closed;
      written = three;
      given = at.at.link;
      faults = faults;
      key = at.at.key;
    }

pub unended : (s : Setting) (n : Node) (node later : Kept) (told : List journal.Event) (acts : List Act) (link : LinkState) (was : Option LinkState) (taken mid mid2 : Option (List ℕ)) (disk : OfDisk) (now : Environment) (sent : ℕ)
    → IsTold s n node told link taken mid (Some link)
    → Stands s (before_all mid node.signer disk.moments) (standing later now.link mid2 now.disk.moments sent) (served s acts (served_from n link)) → TookFront mid2 now.taken end_line
    → Lives s node told acts (served_from n link) (record { taken = taken; link = was; disk = disk }) now (Err halt.WriteFault)
unended s n node later told acts link was taken mid mid2 disk now sent h at cut =
    let r = served s acts (served_from n link) in
    inr (inr (record { mid = mid2; lived = later; is = at.node; written = Appends-trans taken mid mid2 (lines_of told) r.text h.written at.at.text; cut = cut; given = at.at.link; key = at.at.key }))

-- ## Causes

abbrev fault : ServeFault → Result (Unit {0}) ServeFault
fault e = Err e

pub open-so : (e : ServeFault) → loop.is_open_after (fault e) ≡ is_writable (Err (halt_served e))
open-so serve.StoreFault = refl
open-so serve.WriteFault = refl
open-so serve.OutOfMemory = refl

pub fault-so : (e : ServeFault) → loop.is_write_fault (fault e) ≡ is_write_fault (Err (halt_served e))
fault-so serve.StoreFault = refl
fault-so serve.WriteFault = refl
fault-so serve.OutOfMemory = refl

pub rose-so : (e : ServeFault) (P : Type 0) → (e ≡ serve.StoreFault → P) → halt_served e ≡ halt.StoreFault → P
rose-so serve.StoreFault P h is = h refl
rose-so serve.WriteFault P h is = absurd cc
rose-so serve.OutOfMemory P h is = absurd cc

pub bound-so : (e : ServeFault) → halt_served e ≡ halt.LinkFault → ⊥
bound-so serve.StoreFault is = cc
bound-so serve.WriteFault is = cc
bound-so serve.OutOfMemory is = cc

pub served-so : (e : ServeFault) → IsServed (halt_served e)
served-so serve.StoreFault = tt
served-so serve.WriteFault = tt
served-so serve.OutOfMemory = tt

pub behind-so : (e : ServeFault) → IsBehind (halt_served e)
behind-so serve.StoreFault = tt
behind-so serve.WriteFault = tt
behind-so serve.OutOfMemory = tt
