-- The first note of a life, over a disk whose store is open.
use Rattle.std.proofs.Common.{◌≡◌, ℕ, ◌+◌, ◌<◌, true, false, eqb, not, List, [], ◌∷◌, ◌++◌, length, Option, Some, None, Result, Ok, Err, inr, refl, sym, ap, ◌∙◌, subst, arith, length-append}
use Rattle.std.specs.Prelude.{IfErr, IfOk, IfSome, option_to_list}
use Rattle.std.proofs.lemmas.Bool.Decides.{nat_tests}
use Rattle.fields.specs.declared.NoMemory.{NoMemory}
use Rattle.ff_ids.specs.declared.Group.{Group}
use Rattle.sign_keys.specs.declared.kinds.Kinds.{Kinds}
use Rattle.ports.specs.MemoryDisk.{DiskState}
use Rattle.ports.specs.DiskSteps.{Came, runs}
use Rattle.records.specs.declared.Record.{Record}
use Rattle.epoch_store.specs.declared.Stored.{Stored}
use Rattle.epoch_store.specs.declared.seat.Seat.{Seat}
use Rattle.epoch_store.specs.Seat.{next_seat}
use Rattle.epoch_store.specs.Asked.{put_calls}
use Rattle.secrets.specs.Secrets.{nonce_seed, world_secret}
use Rattle.signer.specs.Lives.{Spent}
use Rattle.signer.specs.Signing.{SignerState, next_note, stored_after}
use Rattle.journal.specs.declared.event.Event as journal
use Rattle.detector.specs.Silence.{nonce}
use Rattle.node_rules.specs.Calls.{Call}
use Rattle.node_rules.specs.Replies.{first_mask}
use Rattle.records.specs.declared.keys.Key.{Key}
use Rattle.sign_keys.specs.Keys.{index_count}
use Rattle.node_rules.specs.Nodes as node
use Rattle.node_core.specs.declared.NodeFault.{NodeFault}
use Rattle.node_core.specs.declared.NodeFault.TheVariants as faults
use Rattle.node_core.specs.Answers.{MayStop}
use Rattle.node_core.specs.Begins.{IsVouchable, MayRefuse, Starts}
use Rattle.node_core.specs.OnDisks.{PutsFirst, kept_first}
use Rattle.node_core.specs.Playing.{Kept}
use Rattle.world_host.specs.Held.{ComesAs, HoldsDisk, crashed}
use Rattle.world_host.proofs.DiskCalling.{one-behind, start_as_told}
use Rattle.world_host.proofs.DiskReading.{comes_failed, comes_passed}
use Rattle.world_rules.specs.Settings.{Setting, certificates, setting_of}
use Rattle.world_rules.specs.Keys.{setting_for}
use Rattle.world_rules.specs.Disks.{Disk, after_put, lets_pass, opening_calls, put_passes, seat_of, stopped_in_put}
use Rattle.world_rules.specs.Worlds.{Life, Host}
use Rattle.world_rules.specs.Steps.{first_call, first_life, with_disk}
use Rattle.world_rules.proofs.Once.{one-started}
use Rattle.world_host.specs.declared.starting.Started.{Started}
use Rattle.world_host.specs.declared.starting.Started.TheVariants as starts
use Rattle.world_host.specs.Answers.{Begins, BeginsAt, BeginsLife, BeginsNode, FailsToBegin, IsStart, StartsNode, StopsAt, bodies_in, opened_place}
use Rattle.world_host.specs.Holding.{HoldsCurrent, HoldsHost, IsWorld}
use Rattle.world_host.specs.Hosts.{HostState, IsGoing}
use Rattle.world_host.proofs.SpentLemmas.{signed-behind}
use Rattle.world_host.proofs.WorldLemmas.{few-indexes, few-rings, group-is}

some-same : {T : Type 0} (x y : T) → Some x ≡ Some y → x ≡ y
some-same x y is = cc

pub nonces-are : (s : Setting) (g : Group) (kinds : Kinds) (m first : ℕ) → IsWorld s g kinds → s.nonces m first ≡ nonce (nonce_seed (world_secret g.tag m) first)
unfolding setting_for
nonces-are s g kinds m first w = ap (λ (x : Setting). x.nonces m first) w.made

-- what the store is to keep is what the first note leaves
kept-is : (s : Setting) (g : Group) (kinds : Kinds) (m : ℕ) (stored : Stored) → IsWorld s g kinds → kept_first g.t m stored ≡ (first_call s m stored).node.stored
kept-is s g kinds m stored w =
    ap (λ (x : Group). stored_after stored (next_note stored m (record { 0 = first_mask x.t stored.mask.0 }))) (sym (group-is s g kinds w))
    ∙ sym (one-started (setting_of s m) (s.nonces m stored.next) (certificates s) stored).stored

test-left : (next indexes : ℕ) → next < indexes → eqb next indexes ≡ false
test-left next indexes left = grind (arith, nat_tests, left)

put-first : (s : Setting) (g : Group) (kinds : Kinds) (m : ℕ) (tag : List ℕ) (e : Disk) (d : DiskState) → IsWorld s g kinds → HoldsDisk tag s.indexes d e → e.state.next < s.indexes
    → let kept = (first_call s m e.state).node.stored in ComesAs tag s.indexes (runs (put_calls (seat_of tag e) kept) d) (put_passes e) (after_put kept e) (stopped_in_put kept e)
put-first s g kinds m tag e d w h left =
    start_as_told tag (s.nonces m e.state.next) (certificates s) (setting_of s m) d e (few-rings s g kinds w) (few-indexes s g kinds w) h (ap not (test-left e.state.next s.indexes left))

calls-are : (s : Setting) (g : Group) (kinds : Kinds) (m : ℕ) (seat : Seat) (tag : List ℕ) (e : Disk) (d : DiskState) (came : Came) → IsWorld s g kinds → seat ≡ seat_of tag e → Some came ≡ Some (runs (put_calls seat (kept_first g.t m e.state)) d)
    → runs (put_calls (seat_of tag e) (first_call s m e.state).node.stored) d ≡ came
calls-are s g kinds m seat tag e d came w at so =
    ap (λ (k : Stored). runs (put_calls (seat_of tag e) k) d) (sym (kept-is s g kinds m e.state w)) ∙ ap (λ (place : Seat). runs (put_calls place (kept_first g.t m e.state)) d) (sym at) ∙ sym (some-same _ _ so)

started-so : (s : Setting) (m : ℕ) (nonces : ℕ → ℕ) (records : List Record) (stored : Stored) (v : Kept) (after : List journal.Event) → nonces ≡ s.nonces m stored.next → records ≡ certificates s
    → Starts (setting_of s m) nonces records stored v [] after → Starts (setting_of s m) (s.nonces m stored.next) (certificates s) stored v [] after
started-so s m nonces records stored v after seeded certified starts =
    subst (λ (rs : List Record). Starts (setting_of s m) (s.nonces m stored.next) rs stored v [] after) certified (subst (λ (x : ℕ → ℕ). Starts (setting_of s m) x records stored v [] after) seeded starts)

pub begins-so : (s : Setting) (g : Group) (kinds : Kinds) (m : ℕ) (seat : Seat) (tag : List ℕ) (nonces : ℕ → ℕ) (records : List Record) (e : Disk) (d r : DiskState) (v : Kept) (after : List journal.Event) → IsWorld s g kinds
    → HoldsDisk tag s.indexes d e → nonces ≡ s.nonces m e.state.next → records ≡ certificates s → seat ≡ seat_of tag e → Starts (setting_of s m) nonces records e.state v [] after → e.state.next < s.indexes
    → Some (record { disk = r; failed = false }) ≡ Some (runs (put_calls seat (kept_first g.t m e.state)) d) → v.ended ≡ false → v.signer.closed ≡ false → v.signer.seat ≡ next_seat seat (kept_first g.t m e.state) → Begins s tag m e r after v
begins-so s g kinds m seat tag nonces records e d r v after w h seeded certified at starts left came going free behind =
    let kept : Stored = (first_call s m e.state).node.stored in
    let now = started-so s m nonces records e.state v after seeded certified starts in
    let came_so = comes_passed tag s.indexes _ r (put_passes e) (after_put kept e) (stopped_in_put kept e) (calls-are s g kinds m seat tag e d (record { disk = r; failed = false }) w at came) (put-first s g kinds m tag e d w h left) in
    record {
      left = test-left e.state.next s.indexes left;
      passes = came_so.0;
      disk = came_so.1;
      life = record { is = now.is; going = going; open_ = free; seat = behind ∙ ap (next_seat seat) (kept-is s g kinds m e.state w) ∙ one-behind tag e kept seat at; stored = refl };
      told = now.told;
      sent = now.sent;
    }

pub fails-so : (s : Setting) (g : Group) (kinds : Kinds) (m : ℕ) (seat : Seat) (tag : List ℕ) (e : Disk) (d r : DiskState) → IsWorld s g kinds → HoldsDisk tag s.indexes d e → seat ≡ seat_of tag e → e.state.next < s.indexes
    → Some (record { disk = r; failed = true }) ≡ Some (runs (put_calls seat (kept_first g.t m e.state)) d) → FailsToBegin s tag m e r
fails-so s g kinds m seat tag e d r w h at left came =
    let kept : Stored = (first_call s m e.state).node.stored in
    let came_so = comes_failed tag s.indexes _ r (put_passes e) (after_put kept e) (stopped_in_put kept e) (calls-are s g kinds m seat tag e d (record { disk = r; failed = true }) w at came) (put-first s g kinds m tag e d w h left) in
    record { left = test-left e.state.next s.indexes left; stops = came_so.0; disk = came_so.1 }

-- What the start of a node comes to, where memory isn't refused and the key isn't used up.
abbrev pub ComesTo : Setting → List ℕ → ℕ → Disk → DiskState → List journal.Event → Result Kept NodeFault → Type 0
ComesTo s tag m e d events (Ok v) = Begins s tag m e d events v
ComesTo s tag m e d events (Err faults.StoreFault) = FailsToBegin s tag m e d
ComesTo s tag m e d events (Err other) = Unit {0}

pub begins-by : (s : Setting) (g other : Group) (kinds : Kinds) (m me : ℕ) (tag : List ℕ) (nonces : ℕ → ℕ) (own : Key) (records : List Record) (e : Disk) (d r : DiskState) (signer : SignerState) (x : node.Setting) (before after : List journal.Event) (result : Result Kept NodeFault)
    → IsWorld s g kinds → HoldsDisk tag s.indexes d e → nonces ≡ s.nonces m e.state.next → records ≡ certificates s → before ≡ [] → other ≡ g → me ≡ m → signer.state ≡ e.state → signer.seat ≡ seat_of tag e → index_count signer.key ≡ s.indexes → setting_of s m ≡ x
    → IfOk result (λ v. (t : node.Setting) → t ≡ x → Starts t nonces records signer.state v before after) → IfOk result (λ v. (t : node.Setting) → t ≡ x → IsVouchable t own records signer.state) → IfOk result (λ v. v.ended ≡ false) → IfOk result (λ v. v.signer.closed ≡ false)
    → IfOk result (λ v. v.signer.seat ≡ next_seat signer.seat (kept_first other.t me signer.state)) → IfErr result (λ fault. MayRefuse signer fault) → PutsFirst (kept_first other.t me signer.state) signer.seat (Some d) (Some r) result → ComesTo s tag m e r after result
begins-by s g other kinds m me tag nonces own records e d r signer x before after (Ok v) w h seeded certified none group_is me_is state seat leaves is starts vouched going free behind cause puts =
    let started : Starts (setting_of s m) nonces records e.state v [] after =
    subst (λ (es : List journal.Event). Starts (setting_of s m) nonces records e.state v es after) none (subst (λ (k : Stored). Starts (setting_of s m) nonces records k v before after) state (starts (setting_of s m) is)) in
    let left : e.state.next < s.indexes = subst (λ (k : Stored). k.next < s.indexes) state (vouched (setting_of s m) is).left in
    let came : Some (record { disk = r; failed = false }) ≡ Some (runs (put_calls signer.seat (kept_first g.t m e.state)) d) =
    puts ∙ ap (λ (y : Group). Some (runs (put_calls signer.seat (kept_first y.t me signer.state)) d)) group_is ∙ ap (λ (y : ℕ). Some (runs (put_calls signer.seat (kept_first g.t y signer.state)) d)) me_is
    ∙ ap (λ (y : Stored). Some (runs (put_calls signer.seat (kept_first g.t m y)) d)) state in
    let place : v.signer.seat ≡ next_seat signer.seat (kept_first g.t m e.state) =
    behind ∙ ap (λ (y : Group). next_seat signer.seat (kept_first y.t me signer.state)) group_is ∙ ap (λ (y : ℕ). next_seat signer.seat (kept_first g.t y signer.state)) me_is
    ∙ ap (λ (y : Stored). next_seat signer.seat (kept_first g.t m y)) state in
    begins-so s g kinds m signer.seat tag nonces records e d r v after w h seeded certified seat started left came going free place
begins-by s g other kinds m me tag nonces own records e d r signer x before after (Err faults.StoreFault) w h seeded certified none group_is me_is state seat leaves is starts vouched going free behind cause puts =
    let left : e.state.next < s.indexes = subst (λ (n : ℕ). e.state.next < n) leaves (subst (λ (k : Stored). k.next < index_count signer.key) state cause) in
    let came : Some (record { disk = r; failed = true }) ≡ Some (runs (put_calls signer.seat (kept_first g.t m e.state)) d) =
    puts ∙ ap (λ (y : Group). Some (runs (put_calls signer.seat (kept_first y.t me signer.state)) d)) group_is ∙ ap (λ (y : ℕ). Some (runs (put_calls signer.seat (kept_first g.t y signer.state)) d)) me_is
    ∙ ap (λ (y : Stored). Some (runs (put_calls signer.seat (kept_first g.t m y)) d)) state in
    fails-so s g kinds m signer.seat tag e d r w h seat left came
begins-by s g other kinds m me tag nonces own records e d r signer x before after (Err faults.OutOfMemory) w h seeded certified none group_is me_is state seat leaves is starts vouched going free behind cause puts = tt
begins-by s g other kinds m me tag nonces own records e d r signer x before after (Err (faults.Exhausted next)) w h seeded certified none group_is me_is state seat leaves is starts vouched going free behind cause puts = tt
begins-by s g other kinds m me tag nonces own records e d r signer x before after (Err faults.Ended) w h seeded certified none group_is me_is state seat leaves is starts vouched going free behind cause puts = tt

-- What is answered then.
pub answer-is : (s : Setting) (tag : List ℕ) (m : ℕ) (e : Disk) (d : DiskState) (events : List journal.Event) (started : Result Kept NodeFault) (answer : Result (Option Kept) NoMemory) → ComesTo s tag m e d events started → IsStart started answer → BeginsNode s tag m e d events answer
answer-is s tag m e d events (Ok v) answer h is = subst (BeginsNode s tag m e d events) (sym is) h
answer-is s tag m e d events (Err faults.StoreFault) answer h is = subst (BeginsNode s tag m e d events) (sym is) h
answer-is s tag m e d events (Err faults.OutOfMemory) (Ok o) h is = cc
answer-is s tag m e d events (Err faults.OutOfMemory) (Err refused) h is = tt
answer-is s tag m e d events (Err (faults.Exhausted next)) answer h is = absurd is
answer-is s tag m e d events (Err faults.Ended) answer h is = absurd is

-- What starts is going.
pub start-going : (x : node.Setting) (own : Key) (nonces : ℕ → ℕ) (records : List Record) (stored : Stored) (before after : List journal.Event) (came : Result Kept NodeFault) (answer : Result (Option Kept) NoMemory)
    → IfOk came (λ v. (t : node.Setting) → t ≡ x → Starts t nonces records stored v before after) → IfOk came (λ v. (t : node.Setting) → t ≡ x → IsVouchable t own records stored)
    → IfOk came (λ v. v.ended ≡ false) → IsStart came answer → IfOk answer (λ o. IfSome o IsGoing)
start-going x own nonces records stored before after (Ok v) answer starts vouched going is =
    let w = vouched x refl in
    subst (λ (a : Result (Option Kept) NoMemory). IfOk a (λ o. IfSome o IsGoing)) (sym is) (record {
      life = record { setting = x; own = own; nonces = nonces; certificates = records; stored = stored };
      inputs = [];
      correct = record { rings = w.rings; kit = w.kit; certified = w.certified; signs = w.signatures; left = w.left };
      is = (starts x refl).is;
      going = going;
    })
start-going x own nonces records stored before after (Err faults.StoreFault) answer starts vouched going is = subst (λ (a : Result (Option Kept) NoMemory). IfOk a (λ o. IfSome o IsGoing)) (sym is) tt
start-going x own nonces records stored before after (Err faults.OutOfMemory) (Ok o) starts vouched going is = cc
start-going x own nonces records stored before after (Err faults.OutOfMemory) (Err refused) starts vouched going is = tt
start-going x own nonces records stored before after (Err (faults.Exhausted next)) answer starts vouched going is = absurd is
start-going x own nonces records stored before after (Err faults.Ended) answer starts vouched going is = absurd is

-- A key with an index left isn't used up.
pub of-start : (s : SignerState) (fault : NodeFault) → s.state.next < index_count s.key → MayRefuse s fault → MayStop fault
of-start s faults.StoreFault left cause = tt
of-start s faults.OutOfMemory left cause = tt
of-start s (faults.Exhausted next) left cause = let a = cause.0 in let b = cause.1 in absurd (omega (arith, a, b, left))
of-start s faults.Ended left cause = absurd cause

-- ---- the place

idle-lives : (past : List Life) (current : Option Life) → current ≡ None → length (past ++ option_to_list current) ≡ length past
idle-lives past None is = omega (arith, length-append past [])
idle-lives past (Some life) is = cc

-- A life began at the place.
pub begun-at : (s : Setting) (kinds : Kinds) (place : Host) (spent : List Spent) (x : HostState) (d : DiskState) (v : Kept) (events : List journal.Event) → HoldsHost s kinds place spent x → place.current ≡ None
    → Begins s x.tag x.member place.disk d events v → BeginsAt s kinds place spent (record x { key = None; disk = d; lives = x.lives + 1; node = Some v; signed = x.signed ++ bodies_in events }) (x.lives + 1) events
begun-at s kinds place spent x d v events h idle b =
    let count : x.lives ≡ length place.past = h.lives ∙ idle-lives place.past place.current idle in
    let call : Call = first_call s x.member place.disk.state in
    record {
      left = b.left;
      passes = b.passes;
      number = ap (λ (n : ℕ). n + 1) count;
      told = b.told;
      sent = b.sent;
      holds = record {
        kinds_are = h.kinds_are;
        public = h.public;
        key = tt;
        tag = h.tag;
        disk = b.disk;
        lives = ap (λ (n : ℕ). n + 1) count ∙ sym (length-append place.past (first_life place.disk.state call ∷ []));
        current = b.life;
        signed = signed-behind x.member events spent x.signed h.signed;
      };
    }

idle-current : (s : Setting) (tag : List ℕ) (e other : Disk) (m : ℕ) (node : Option Kept) (current : Option Life) → current ≡ None → HoldsCurrent s tag e m node current → HoldsCurrent s tag other m node current
idle-current s tag e other m None None is h = tt
idle-current s tag e other m (Some v) None is h = absurd h
idle-current s tag e other m kept (Some life) is h = cc

-- The place of a node that doesn't run, with another disk.
pub with-disk : (s : Setting) (kinds : Kinds) (place : Host) (spent : List Spent) (x : HostState) (d : DiskState) (e : Disk) → HoldsHost s kinds place spent x → place.current ≡ None → HoldsDisk x.tag s.indexes d e
    → HoldsHost s kinds (with_disk place e) spent (record x { disk = d })
with-disk s kinds place spent x d e h idle disk = record {
  kinds_are = h.kinds_are;
  public = h.public;
  key = h.key;
  tag = h.tag;
  disk = disk;
  lives = h.lives;
  current = idle-current s x.tag place.disk e x.member x.node place.current idle h.current;
  signed = h.signed;
}

none-left : (s : Setting) (tag : List ℕ) (e : Disk) (m : ℕ) (current : Option Life) → current ≡ None → HoldsCurrent s tag e m None current
none-left s tag e m None is = tt
none-left s tag e m (Some life) is = cc

-- The disk stopped in the put of the first note.
pub stopped-at : (s : Setting) (kinds : Kinds) (place : Host) (spent : List Spent) (x : HostState) (d : DiskState) → HoldsHost s kinds place spent x → place.current ≡ None → FailsToBegin s x.tag x.member place.disk d
    → StopsAt s kinds place spent (record x { key = None; node = None; disk = crashed 0 d })
stopped-at s kinds place spent x d h idle f = record {
  left = f.left;
  stops = f.stops;
  holds = record {
    kinds_are = h.kinds_are;
    public = h.public;
    key = tt;
    tag = h.tag;
    disk = f.disk;
    lives = h.lives;
    current = none-left s x.tag (stopped_in_put (first_call s x.member place.disk.state).node.stored place.disk) x.member place.current idle;
    signed = h.signed;
  };
}

-- ---- the whole start

pub starts-behind : (s : Setting) (kinds : Kinds) (place : Host) (spent : List Spent) (new : HostState) (result : Result Started NoMemory) → lets_pass place.disk.armed (opening_calls place.disk) ≡ true
    → BeginsLife s kinds (opened_place place) spent new result → StartsNode s kinds place spent new result
starts-behind s kinds place spent new (Ok (starts.Began life events)) passes h = (passes, h)
starts-behind s kinds place spent new (Ok starts.DiskStopped) passes h = inr (passes, h)
starts-behind s kinds place spent new (Ok (starts.UsedUp next)) passes h = absurd h
starts-behind s kinds place spent new (Err refused) passes h = tt
