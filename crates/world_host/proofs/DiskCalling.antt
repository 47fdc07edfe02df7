-- Calls of nodes over disks in memory, and the first note of a life.
use Rattle.std.proofs.Common.{◌≡◌, ℕ, ◌+◌, ◌^◌, ◌<◌, ◌≤◌, Bool, true, false, not, eqb, cond, List, refl, sym, ap, ◌∙◌, subst, arith, inl, inr}
use Rattle.ff_ids.proofs.MaskLemmas.{below-rings}
use Rattle.std.proofs.lemmas.Bool.{and_parts, cases_Bool, ltb-true}
use Rattle.std.proofs.lemmas.Bool.Decides.{nat_tests}
use Rattle.std.proofs.lemmas.Nat.{pow_pos}
use Rattle.ff_ids.specs.declared.TheConstants.{MAX_RINGS, MAX_TOLERANCE}
use Rattle.ff_ids.specs.declared.Mask.{Mask}
use Rattle.ff_ids.specs.Masks.{good_mask, ring_count}
use Rattle.ports.specs.DiskSteps.{Came, runs}
use Rattle.ports.specs.MemoryDisk.{DiskState}
use Rattle.records.specs.declared.Body.{Body}
use Rattle.records.specs.declared.Body.TheVariants.{Certificate, Note, Accusation}
use Rattle.epoch_store.specs.declared.Stored.{Stored}
use Rattle.epoch_store.specs.declared.seat.Seat.{Seat}
use Rattle.epoch_store.specs.Seat.{next_seat}
use Rattle.epoch_store.specs.Asked.{put_calls}
use Rattle.epoch_store.specs.Store.{IsEntry}
use Rattle.epoch_store.specs.Placed.{PlacedStore, put_on}
use Rattle.signer.specs.Signing.{MayComeNext, stored_after}
use Rattle.signer.proofs.StepLemmas.{next_follows, next_index, next_is_entry}
use Rattle.node_rules.specs.Nodes.{Setting}
use Rattle.node_rules.specs.Calls.{Call}
use Rattle.node_rules.specs.OnDisks.{OnDisk, called_on}
use Rattle.node_rules.specs.Replies.{first_mask}
use Rattle.node_rules.specs.Starting.{first_note}
use Rattle.world_rules.specs.Calls as rules
use Rattle.world_rules.specs.Calls.{world_storage}
use Rattle.world_rules.specs.Disks.{Disk, after_put, put_passes, seat_of, stopped_in_put}
use Rattle.world_rules.proofs.Alike.{AreAlike, called-same}
use Rattle.world_rules.proofs.CallSteps.{MaySign}
use Rattle.world_rules.proofs.Once.{one-started}
use Rattle.world_host.specs.Held.{ComesAs, HoldsDisk, crashed}
use Rattle.world_host.specs.OnDisks.{Keeps, placed}
use Rattle.world_host.specs.DiskLaws.{CallsAsTold, StartsAsTold}
use Rattle.world_host.proofs.BehindLemmas.{entry_last}
use Rattle.world_host.proofs.DiskPuts.{put_as_told}

-- ---- what may be signed next may be put

may-come : (s : Setting) (kept : Stored) (body : Body) → s.group.t ≤ MAX_TOLERANCE → IsEntry kept → MaySign s kept body → MayComeNext kept body
may-come s kept (Certificate c) few entry may = tt
may-come s kept (Note n) few entry may =
    (may.follows, elim may.rings [ inl same ↦ subst (λ (m : Mask). m.0 < 2 ^ MAX_RINGS) (sym same) entry.mask_small | inr below ↦ below-rings s.group.t n.mask.0 few below ])
may-come s kept (Accusation a) few entry may = tt

left-below : (next indexes : ℕ) → next ≤ indexes → eqb next indexes ≡ false → next < indexes
left-below next indexes within apart = grind (arith, nat_tests, within, apart)

put-next : (tag : List ℕ) (s : Setting) (body : Body) (d : DiskState) (e : Disk) → s.group.t ≤ MAX_TOLERANCE → s.indexes ≤ 32768 → HoldsDisk tag s.indexes d e → MaySign s e.state body
    → ComesAs tag s.indexes (runs (put_calls (seat_of tag e) (stored_after e.state body)) d) (put_passes e) (after_put (stored_after e.state body) e) (stopped_in_put (stored_after e.state body) e)
put-next tag s body d e few small h may =
    let entry : IsEntry e.state = entry_last tag e.state e.older h.chain in
    let next : MayComeNext e.state body = may-come s e.state body few entry may in
    let left : e.state.next < s.indexes = left-below e.state.next s.indexes h.within may.left in
    let rises : (stored_after e.state body).next ≡ e.state.next + 1 = next_index e.state body in
    put_as_told tag s.indexes d e (stored_after e.state body) h (next_is_entry e.state body entry (omega (arith, left, small)) next) (next_follows e.state body next) rises (omega (arith, rises, left))

-- ---- a store on the one disk takes what the other does

put-kept : (tag : List ℕ) (s : Setting) (kept : Stored) (body : Body) (d : PlacedStore) (e : Disk) → s.group.t ≤ MAX_TOLERANCE → s.indexes ≤ 32768 → Keeps tag s.indexes kept d e → MaySign s kept body
    → ComesAs tag s.indexes (put_on (stored_after kept body) d) (put_passes e) (after_put (stored_after kept body) e) (stopped_in_put (stored_after kept body) e)
unfolding put_on
put-kept tag s kept body d e few small k may =
    let may2 : MaySign s e.state body = subst (λ (x : Stored). MaySign s x body) (sym k.state) may in
    let came = put-next tag s body d.disk e few small k.held may2 in
    let P : Seat → Stored → Type 0 = λ g x. ComesAs tag s.indexes (runs (put_calls g (stored_after x body)) d.disk) (put_passes e) (after_put (stored_after x body) e) (stopped_in_put (stored_after x body) e) in
    subst (λ (x : Stored). P d.seat x) k.state (subst (λ (g : Seat). P g e.state) (sym k.seat) came)

takes-same : (tag : List ℕ) (n : ℕ) (came : Came) (test : Bool) (behind stop : Disk) → ComesAs tag n came test behind stop → not came.failed ≡ test
takes-same tag n came true behind stop c = ap not c.0
takes-same tag n came false behind stop c = ap not c.0

keeps-behind : (tag : List ℕ) (n : ℕ) (seat : Seat) (kept : Stored) (came : Came) (test : Bool) (behind stop : Disk) → ComesAs tag n came test behind stop → not came.failed ≡ true → behind.state ≡ kept → next_seat seat kept ≡ seat_of tag behind
    → Keeps tag n kept (record { disk = came.disk; seat = cond (not came.failed) (next_seat seat kept) seat }) (cond test behind stop)
keeps-behind tag n seat kept came true behind stop c passes state place =
    record { held = c.1; state = state; seat = ap (λ (b : Bool). cond b (next_seat seat kept) seat) passes ∙ place }
keeps-behind tag n seat kept came false behind stop c passes state place = let clash : false ≡ true = sym (ap not c.0) ∙ passes in cc

-- the seat behind one entry more
pub one-behind : (tag : List ℕ) (e : Disk) (next : Stored) (seat : Seat) → seat ≡ seat_of tag e → next_seat seat next ≡ seat_of tag (after_put next e)
one-behind tag e next seat is = ap (λ (x : Seat). next_seat x next) is

fell-behind : (tag : List ℕ) (n : ℕ) (came : Came) (test : Bool) (behind stop : Disk) → ComesAs tag n came test behind stop → not came.failed ≡ false → HoldsDisk tag n (crashed 0 came.disk) (cond test behind stop)
fell-behind tag n came true behind stop c fails = let clash : true ≡ false = sym (ap not c.0) ∙ fails in cc
fell-behind tag n came false behind stop c fails = c.1

abbrev Fell : List ℕ → ℕ → PlacedStore → Disk → Type 0
Fell tag n d e = HoldsDisk tag n (crashed 0 d.disk) e

alike : (tag : List ℕ) (s : Setting) → s.group.t ≤ MAX_TOLERANCE → s.indexes ≤ 32768 → AreAlike s placed world_storage (Keeps tag s.indexes) (Fell tag s.indexes)
alike tag s few small =
    record {
      takes = λ kept body d e k may.
          let next : Stored = stored_after kept body in
          takes-same tag s.indexes (put_on next d) (put_passes e) (after_put next e) (stopped_in_put next e) (put-kept tag s kept body d e few small k may);
      stand = λ kept body d e k may taken.
          let next : Stored = stored_after kept body in
          keeps-behind tag s.indexes d.seat next (put_on next d) (put_passes e) (after_put next e) (stopped_in_put next e) (put-kept tag s kept body d e few small k may) taken refl (one-behind tag e next d.seat k.seat);
      fell = λ kept body d e k may failed.
          let next : Stored = stored_after kept body in
          fell-behind tag s.indexes (put_on next d) (put_passes e) (after_put next e) (stopped_in_put next e) (put-kept tag s kept body d e few small k may) failed;
    }

-- ---- calls

pub calls_as_told : CallsAsTold
calls_as_told tag s n i d e few small k =
    let x : OnDisk PlacedStore = called_on placed s n i d in
    let same = called-same s placed world_storage (Keeps tag s.indexes) (Fell tag s.indexes) n i d e (alike tag s few small) k in
    record {
      call = same.call;
      going = λ on. subst (λ (c : Call). Keeps tag s.indexes c.node.stored x.disk (rules.called_on s n i e).disk) same.call (same.stand (ap (λ (c : Call). c.ended) same.call ∙ on));
      over = λ ended. same.fell (ap (λ (c : Call). c.ended) same.call ∙ ended);
    }

-- ---- the first note

first-rings : (t stored : ℕ) → first_mask t stored < 2 ^ ring_count t
first-rings t stored =
    elim (cases_Bool (good_mask t stored)) [
      | inl good ↦ rw good (ltb-true _ _ (and_parts _ _ good).0)
      | inr bad ↦ let some : 0 < 2 ^ ring_count t = pow_pos (ring_count t) in rw bad (omega (arith, some))
    ]

not-false : (b : Bool) → not b ≡ true → b ≡ false
not-false true is = sym is
not-false false is = refl

pub start_as_told : StartsAsTold
start_as_told tag nonces certificates s d e few small h may =
    let body : Body = first_note s e.state in
    let one = one-started s nonces certificates e.state in
    let signs : MaySign s e.state body = record { follows = refl; left = not-false _ may; rings = inr (first-rings s.group.t e.state.mask.0) } in
    let P : Stored → Type 0 = λ kept. ComesAs tag s.indexes (runs (put_calls (seat_of tag e) kept) d) (put_passes e) (after_put kept e) (stopped_in_put kept e) in
    subst P (sym one.stored) (put-next tag s body d e few small h signs)
