-- A node's call over its disk, and how it leaves its place.
use Rattle.std.proofs.Common.{◌≡◌, ℕ, Bool, true, false, List, [], ◌∷◌, ◌++◌, length, Option, Some, None, Result, Ok, Err, refl, sym, ap, ◌∙◌, subst, arith, length-append}
use Rattle.std.specs.Prelude.{IfSome, OnOk, is_err, is_some, option_to_list}
use Rattle.std.specs.FinMap.{get}
use Rattle.std.specs.Option.{option_map, option_map_or}
use Rattle.std.proofs.lemmas.Bool.{false≢true}
use Rattle.fields.specs.declared.NoMemory.{NoMemory}
use Rattle.ff_ids.specs.declared.Group.{Group}
use Rattle.ff_ids.specs.declared.NoteBody.{NoteBody}
use Rattle.ff_ids.specs.Notes.{is_leaving, newest}
use Rattle.sign_keys.specs.declared.kinds.Kinds.{Kinds}
use Rattle.ports.specs.MemoryDisk.{DiskState}
use Rattle.epoch_store.specs.Placed.{PlacedStore}
use Rattle.signer.specs.Lives.{Spent}
use Rattle.journal.specs.declared.event.Event as journal
use Rattle.node_rules.specs.Nodes.{Node, state_of}
use Rattle.node_rules.specs.Nodes as rules
use Rattle.node_rules.specs.Calls.{Call}
use Rattle.node_rules.specs.Lives.{Input, OwnNoteIsKept, after_calls, call_of, stored_note}
use Rattle.node_rules.specs.OneExchange as node_life
use Rattle.node_rules.specs.OneExchange.{IsCorrect, WhatIsHeldIsTheLife, node_after}
use Rattle.node_rules.specs.Starting.{started}
use Rattle.node_rules.specs.OnDisks as over
use Rattle.node_core.specs.declared.NodeFault.{NodeFault}
use Rattle.node_core.specs.declared.NodeFault.TheVariants as faults
use Rattle.node_core.specs.Answers.{CallerBuffers, GivesCall}
use Rattle.node_core.specs.OnDisks.{FollowsDisk, GivesOn, storage}
use Rattle.node_core.specs.Playing as playing
use Rattle.node_core.specs.Playing.{IsNode, Kept}
use Rattle.world_host.specs.Held.{HoldsDisk, crashed}
use Rattle.world_host.specs.OnDisks.{ComesTo, Keeps}
use Rattle.world_host.proofs.DiskCalling.{calls_as_told}
use Rattle.world_rules.specs.Calls.{OnDisk}
use Rattle.world_rules.specs.Refusals.{has_left_in}
use Rattle.world_rules.specs.Settings.{Setting, setting_of}
use Rattle.world_rules.specs.Disks.{Disk}
use Rattle.world_rules.specs.Worlds.{Life, Host}
use Rattle.world_rules.specs.Steps.{host_after, with_input}
use Rattle.world_host.specs.Answers.{Calls, CallsRunning, Ends, bodies_in, call_on, spent_in}
use Rattle.world_host.specs.Holding.{HoldsCurrent, HoldsLife, HoldsHost, IsWorld}
use Rattle.world_host.specs.Hosts.{HaveJoined, HostState, IsGoing}
use Rattle.world_host.proofs.SpentLemmas.{signed-behind}
use Rattle.world_host.proofs.WorldLemmas.{few-indexes, few-rings}

some-same : {T : Type 0} (x y : T) → Some x ≡ Some y → x ≡ y
some-same x y is = cc

-- ---- the place behind a call

going-place : (place : Host) (life : Life) (d : OnDisk) → d.call.ended ≡ false → host_after place life d ≡ record { disk = d.disk; past = place.past; current = Some life }
going-place place life d going = rw going refl

over-place : (place : Host) (life : Life) (d : OnDisk) → d.call.ended ≡ true → host_after place life d ≡ record { disk = d.disk; past = place.past ++ life ∷ []; current = None }
over-place place life d ended = rw ended refl

one-more : (past : List Life) (life other : Life) → length (past ++ life ∷ []) ≡ length (past ++ other ∷ [])
one-more past life other = length-append past (life ∷ []) ∙ sym (length-append past (other ∷ []))

one-over : (past : List Life) (life other : Life) → length (past ++ life ∷ []) ≡ length ((past ++ other ∷ []) ++ [])
one-over past life other = omega (arith, length-append past (life ∷ []), length-append past (other ∷ []), length-append (past ++ other ∷ []) [])

-- ---- the call over the disk in memory

abbrev pub store_on : HostState → Kept → PlacedStore
store_on x v = record { disk = x.disk; seat = v.signer.seat }

abbrev pub call_in_memory : Setting → ℕ → Input → HostState → Kept → Life → over.OnDisk PlacedStore
call_in_memory s m i x v life = over.called_on storage (setting_of s m) life.node i (store_on x v)

comes-to : (s : Setting) (g : Group) (kinds : Kinds) (i : Input) (place : Host) (spent : List Spent) (life : Life) (x : HostState) (v : Kept) → IsWorld s g kinds
    → HoldsHost s kinds place spent x → HoldsLife s x.tag place.disk x.member v life → ComesTo x.tag s.indexes (call_in_memory s x.member i x v life) (call_on s x.member i place life)
comes-to s g kinds i place spent life x v w h l =
    let keeps : Keeps x.tag s.indexes life.node.stored (store_on x v) place.disk = record { held = h.disk; state = l.stored; seat = l.seat } in
    calls_as_told x.tag (setting_of s x.member) life.node i (store_on x v) place.disk (few-rings s g kinds w) (few-indexes s g kinds w) keeps

-- ---- what a call leaves

-- It passed, and these are kept behind it.
pub passed : (s : Setting) (g : Group) (kinds : Kinds) (i : Input) (place : Host) (spent : List Spent) (life : Life) (x : HostState) (v now : Kept) (d : DiskState) (old new : CallerBuffers) → IsWorld s g kinds
    → HoldsHost s kinds place spent x → place.current ≡ Some life → HoldsLife s x.tag place.disk x.member v life → old.events ≡ []
    → GivesOn (setting_of s x.member) now old new (Some d) false (call_in_memory s x.member i x v life) → now.ended ≡ false → now.signer.closed ≡ false
    → Calls s kinds i place spent life (record x { node = Some now; disk = d; signed = x.signed ++ bodies_in new.events }) old.sent new.sent new.events
passed s g kinds i place spent life x v now d old new w h runs l none gives going free =
    let y : OnDisk = call_on s x.member i place life in
    let come : ComesTo x.tag s.indexes (call_in_memory s x.member i x v life) y = comes-to s g kinds i place spent life x v w h l in
    let on : y.call.ended ≡ false = sym (ap (λ (c : Call). c.ended) come.call) ∙ gives.ended in
    let keeps = come.going on in
    let is : IsNode (setting_of s x.member) now y.call.node = subst (λ (c : Call). IsNode (setting_of s x.member) now c.node) come.call gives.gives.is in
    let disk : HoldsDisk x.tag s.indexes d y.disk = subst (λ (k : DiskState). HoldsDisk x.tag s.indexes k y.disk) (sym (some-same _ _ gives.disk)) keeps.held in
    let lived : Life = with_input life i y.call.node in
    let told : new.events ≡ y.call.told = gives.gives.told ∙ ap (λ (es : List journal.Event). es ++ (call_in_memory s x.member i x v life).call.told) none ∙ ap (λ (c : Call). c.told) come.call in
    record {
      told = told;
      sent = gives.gives.sent ∙ ap (λ (c : Call). old.sent ++ c.sent) come.call;
      holds = subst (λ (p : Host). HoldsHost s kinds p (spent ++ spent_in x.member new.events) (record x { node = Some now; disk = d; signed = x.signed ++ bodies_in new.events })) (sym (going-place place lived y on))
          (record {
            kinds_are = h.kinds_are;
            public = h.public;
            key = h.key;
            tag = h.tag;
            disk = disk;
            lives = h.lives ∙ ap (λ (o : Option Life). length (place.past ++ option_to_list o)) runs ∙ one-more place.past life lived;
            current = record { is = is; going = going; open_ = free; seat = gives.seat ∙ keeps.seat; stored = keeps.state };
            signed = signed-behind x.member new.events spent x.signed h.signed;
          });
    }

-- The disk stopped in it, and the life is over.
pub halted : (s : Setting) (g : Group) (kinds : Kinds) (i : Input) (place : Host) (spent : List Spent) (life : Life) (x : HostState) (v now : Kept) (d : DiskState) (old new : CallerBuffers) → IsWorld s g kinds
    → HoldsHost s kinds place spent x → place.current ≡ Some life → HoldsLife s x.tag place.disk x.member v life → old.events ≡ []
    → GivesOn (setting_of s x.member) now old new (Some d) true (call_in_memory s x.member i x v life)
    → Calls s kinds i place spent life (record x { node = None; disk = crashed 0 d; signed = x.signed ++ bodies_in new.events }) old.sent new.sent new.events
halted s g kinds i place spent life x v now d old new w h runs l none gives =
    let y : OnDisk = call_on s x.member i place life in
    let come : ComesTo x.tag s.indexes (call_in_memory s x.member i x v life) y = comes-to s g kinds i place spent life x v w h l in
    let ended : y.call.ended ≡ true = sym (ap (λ (c : Call). c.ended) come.call) ∙ gives.ended in
    let disk : HoldsDisk x.tag s.indexes (crashed 0 d) y.disk = subst (λ (k : DiskState). HoldsDisk x.tag s.indexes (crashed 0 k) y.disk) (sym (some-same _ _ gives.disk)) (come.over ended) in
    let lived : Life = with_input life i y.call.node in
    let told : new.events ≡ y.call.told = gives.gives.told ∙ ap (λ (es : List journal.Event). es ++ (call_in_memory s x.member i x v life).call.told) none ∙ ap (λ (c : Call). c.told) come.call in
    record {
      told = told;
      sent = gives.gives.sent ∙ ap (λ (c : Call). old.sent ++ c.sent) come.call;
      holds = subst (λ (p : Host). HoldsHost s kinds p (spent ++ spent_in x.member new.events) (record x { node = None; disk = crashed 0 d; signed = x.signed ++ bodies_in new.events })) (sym (over-place place lived y ended))
          (record {
            kinds_are = h.kinds_are;
            public = h.public;
            key = h.key;
            tag = h.tag;
            disk = disk;
            lives = h.lives ∙ ap (λ (o : Option Life). length (place.past ++ option_to_list o)) runs ∙ one-over place.past life lived;
            current = tt;
            signed = signed-behind x.member new.events spent x.signed h.signed;
          });
    }

-- ---- whether a node runs

-- The life that runs, of a node that does.
pub record Runs (s : Setting) (tag : List ℕ) (e : Disk) (m : ℕ) (v : Kept) (current : Option Life) : Type 0 where
  pub life : Life
  pub is : current ≡ Some life
  pub holds : HoldsLife s tag e m v life

pub runs-so : (s : Setting) (tag : List ℕ) (e : Disk) (m : ℕ) (v : Kept) (node : Option Kept) (current : Option Life) → node ≡ Some v → HoldsCurrent s tag e m node current → Runs s tag e m v current
runs-so s tag e m v None current is h = cc
runs-so s tag e m v (Some v2) None is h = absurd h
runs-so s tag e m v (Some v2) (Some life) is h = record { life = life; is = refl; holds = subst (λ (k : Kept). HoldsLife s tag e m k life) (some-same v2 v is) h }

pub none-runs : (s : Setting) (tag : List ℕ) (e : Disk) (m : ℕ) (node : Option Kept) (current : Option Life) → node ≡ None → HoldsCurrent s tag e m node current → current ≡ None
none-runs s tag e m None None is h = refl
none-runs s tag e m None (Some life) is h = absurd h
none-runs s tag e m (Some v) current is h = cc

pub idle-node : (s : Setting) (tag : List ℕ) (e : Disk) (m : ℕ) (node : Option Kept) (current : Option Life) → current ≡ None → HoldsCurrent s tag e m node current → node ≡ None
idle-node s tag e m None current is h = refl
idle-node s tag e m (Some v) None is h = absurd h
idle-node s tag e m (Some v) (Some life) is h = cc

pub idle-call : (s : Setting) (kinds : Kinds) (i : Input) (place : Host) (spent : List Spent) (current : Option Life) (x : HostState) (sent : List (ℕ × List ℕ)) → current ≡ None → CallsRunning s kinds i place spent current x x sent sent []
idle-call s kinds i place spent None x sent is = (refl, refl, refl)
idle-call s kinds i place spent (Some life) x sent is = cc

-- ---- whether it has left

-- The newest note that a running node has of itself is the one that its membership keeps.
pub left-in : (s : Setting) (tag : List ℕ) (e : Disk) (m : ℕ) (v : Kept) (current : Option Life) (left : Bool) → OwnNoteIsKept → IsGoing v → HoldsCurrent s tag e m (Some v) current
    → ((note : NoteBody) → get v.membership.notes v.me ≡ Some note → left ≡ is_leaving note) → left ≡ option_map_or (has_left_in s m) current false
unfolding playing.setting_of
left-in s tag e m v None left law g h is = absurd h
left-in s tag e m v (Some life) left law g h is =
    let t : rules.Setting = g.life.setting in
    let n : Node = node_after g.life g.inputs in
    let note : NoteBody = stored_note t n.stored in
    let own = law t g.life.nonces g.life.certificates g.life.stored g.inputs g.correct.rings g.correct.kit in
    let mine : t.me ≡ v.me = ap (λ (x : rules.Setting). x.me) g.is.setting in
    let kept : get v.membership.notes v.me ≡ Some note = ap (get v.membership.notes) (sym mine) ∙ sym (g.is.holds.at_number t.me).newest_note ∙ own.own in
    let member : m ≡ v.me = ap (λ (x : rules.Setting). x.me) h.is.setting in
    let read : newest (state_of (setting_of s m) life.node).notes m ≡ Some note = (h.is.holds.at_number m).newest_note ∙ ap (get v.membership.notes) member ∙ kept in
    is note kept ∙ sym (ap (λ (o : Option NoteBody). option_map_or is_leaving o false) read)

pub none-left-in : (s : Setting) (tag : List ℕ) (e : Disk) (m : ℕ) (current : Option Life) → HoldsCurrent s tag e m None current → false ≡ option_map_or (has_left_in s m) current false
none-left-in s tag e m None h = refl
none-left-in s tag e m (Some life) h = absurd h

-- ---- the whole call

running-call : (s : Setting) (kinds : Kinds) (i : Input) (place : Host) (spent : List Spent) (life : Life) (current : Option Life) (old last : HostState) (before after : List (ℕ × List ℕ)) (events : List journal.Event) → current ≡ Some life
    → Calls s kinds i place spent life last before after events → CallsRunning s kinds i place spent current old last before after events
running-call s kinds i place spent life None old last before after events is h = cc
running-call s kinds i place spent life (Some other) old last before after events is h =
    subst (λ (l : Life). Calls s kinds i place spent l last before after events) (sym (some-same other life is)) h

abbrev Follows : Setting → Input → HostState → Kept → Kept → DiskState → CallerBuffers → CallerBuffers → Result (Unit {0}) NodeFault → Type 0
Follows s i x v now d old new called =
    (n : Node) → IsNode (setting_of s x.member) v n → v.ended ≡ false → FollowsDisk (setting_of s x.member) now old new (Some d) (over.called_on storage (setting_of s x.member) n i (store_on x v)) called

answered : (s : Setting) (g : Group) (kinds : Kinds) (i : Input) (place : Host) (spent : List Spent) (life : Life) (x after : HostState) (v now : Kept) (d : DiskState) (old new : CallerBuffers) (called : Result (Unit {0}) NodeFault) (answer : Result (Unit {0}) NoMemory)
    → IsWorld s g kinds → HoldsHost s kinds place spent x → place.current ≡ Some life → HoldsLife s x.tag place.disk x.member v life → old.events ≡ [] → Follows s i x v now d old new called
    → now.ended ≡ is_err called → OnOk called (now.signer.closed ≡ v.signer.closed) → Ends (record x { node = None; disk = d }) now after called answer → is_err answer ≡ false
    → Calls s kinds i place spent life (record after { signed = after.signed ++ bodies_in new.events }) old.sent new.sent new.events
answered s g kinds i place spent life x after v now d old new (Ok done) answer w h runs l none follows over free ends fine =
    let put : HostState → HostState = λ y. record y { signed = y.signed ++ bodies_in new.events } in
    subst (λ (y : HostState). Calls s kinds i place spent life (put y) old.sent new.sent new.events) (sym ends.1)
    (passed s g kinds i place spent life x v now d old new w h runs l none (follows life.node l.is l.going) over (free ∙ l.open_))
answered s g kinds i place spent life x after v now d old new (Err faults.StoreFault) answer w h runs l none follows over free ends fine =
    let put : HostState → HostState = λ y. record y { signed = y.signed ++ bodies_in new.events } in
    subst (λ (y : HostState). Calls s kinds i place spent life (put y) old.sent new.sent new.events) (sym ends.1)
    (halted s g kinds i place spent life x v now d old new w h runs l none (follows life.node l.is l.going))
answered s g kinds i place spent life x after v now d old new (Err faults.OutOfMemory) answer w h runs l none follows over free ends fine = absurd (false≢true (sym fine ∙ ends.0))
answered s g kinds i place spent life x after v now d old new (Err (faults.Exhausted next)) answer w h runs l none follows over free ends fine = absurd ends
answered s g kinds i place spent life x after v now d old new (Err faults.Ended) answer w h runs l none follows over free ends fine = absurd ends

-- A node was called, and the bodies that it signed are kept.
pub called-so : (s : Setting) (g : Group) (kinds : Kinds) (i : Input) (place : Host) (spent : List Spent) (x after last : HostState) (v now : Kept) (d : DiskState) (old new : CallerBuffers) (called : Result (Unit {0}) NodeFault) (answer : Result (Unit {0}) NoMemory)
    → IsWorld s g kinds → HoldsHost s kinds place spent x → x.node ≡ Some v → old.events ≡ [] → Follows s i x v now d old new called
    → now.ended ≡ is_err called → OnOk called (now.signer.closed ≡ v.signer.closed) → Ends (record x { node = None; disk = d }) now after called answer → is_err answer ≡ false
    → last ≡ record after { signed = after.signed ++ bodies_in new.events } → CallsRunning s kinds i place spent place.current x last old.sent new.sent new.events
called-so s g kinds i place spent x after last v now d old new called answer w h node none follows over free ends fine kept =
    let r = runs-so s x.tag place.disk x.member v x.node place.current node h.current in
    running-call s kinds i place spent r.life place.current x last old.sent new.sent new.events r.is
    (subst (λ (y : HostState). Calls s kinds i place spent r.life y old.sent new.sent new.events) (sym kept)
    (answered s g kinds i place spent r.life x after v now d old new called answer w h r.is r.holds none follows over free ends fine))

-- ---- a node that goes on

after-one : (s : rules.Setting) (n : Node) (inputs : List Input) (i : Input) → after_calls s n (inputs ++ i ∷ []) ≡ (call_of s (after_calls s n inputs) i).node
after-one s n [] i = refl
after-one s n (x ∷ inputs) i = after-one s (call_of s n x).node inputs i

-- It stands for what its life has come to by one call more.
pub going-on : (l : node_life.Life) (inputs : List Input) (i : Input) (v : Kept) (old new : CallerBuffers) (called : Result (Unit {0}) NodeFault) → IsCorrect l → GivesCall l.setting (node_after l inputs) i v old new called → v.ended ≡ is_err called → OnOk called (IsGoing v)
going-on l inputs i v old new (Ok done) correct gives over =
    record {
      life = l;
      inputs = inputs ++ i ∷ [];
      correct = correct;
      is = subst (IsNode l.setting v) (sym (after-one l.setting (started l.setting l.nonces l.certificates l.stored).node inputs i)) gives.is;
      going = over;
    }
going-on l inputs i v old new (Err fault) correct gives over = tt

pub some-going : (o : Option Kept) (v : Kept) → IfSome o IsGoing → o ≡ Some v → IsGoing v
some-going o v h is = subst (λ (p : Option Kept). IfSome p IsGoing) is h

-- ---- who has joined

joined-so : (v : Kept) → WhatIsHeldIsTheLife → IsGoing v → HaveJoined v
joined-so v law g = λ m has.
    let n : Node = node_after g.life g.inputs in
    let held = law g.life g.inputs g.correct in
    sym (g.is.holds.at_number m).member ∙ sym (held.members m) ∙ ap is_some (sym (g.is.roster m)) ∙ has

pub joined-in : (o : Option Kept) → WhatIsHeldIsTheLife → IfSome o IsGoing → IfSome o HaveJoined
joined-in None law g = tt
joined-in (Some v) law g = joined-so v law g

-- What holds of each that is mapped holds of what it comes of.
pub mapped-so : {X Y : Type 0} (f : X → Y) (P : Y → Type 0) (r : Option X) (o : Option Y) → option_map f r ≡ o → IfSome o P → IfSome r (λ x. P (f x))
mapped-so f P None o is h = tt
mapped-so {Y = Y} f P (Some x) o is h = subst (λ (q : Option Y). IfSome q P) (sym is) h
