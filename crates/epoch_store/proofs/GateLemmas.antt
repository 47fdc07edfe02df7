-- How the reads of gates join into those of a store.
use Rattle.std.proofs.Common.{◌≡◌, ℕ, ◌+◌, ◌-◌, ◌<◌, ◌≤◌, inr, Bool, true, false, cond, nat_eq, nat_lt, get_or, Option, None, Some, is_some, List, [], ◌∷◌, ◌++◌, refl, sym, ap, ◌∙◌, subst, arith, append-nil, Result, Ok, Err}
use Rattle.std.specs.List.{common_prefix_len, slice_get}
use Rattle.ports.specs.Disk.{Moment}
use Rattle.ports.specs.DiskCalls.{DiskCall, ToRead, with_call, with_calls, AsFarAs}
use Rattle.ports.specs.MemoryDisk.{DiskState}
use Rattle.ports.specs.DiskSteps.{came_to, runs_on}
use Rattle.ports.proofs.RunLemmas.{then_runs, runs_none}
use Rattle.epoch_store.specs.declared.Stored.{Stored}
use Rattle.epoch_store.specs.declared.entry.Entry.{Entry}
use Rattle.epoch_store.specs.declared.entry.Gate.{Gate}
use Rattle.epoch_store.specs.declared.entry.Gate.TheVariants.{Shut, Open}
use Rattle.epoch_store.specs.declared.seat.Seat.{Seat}
use Rattle.epoch_store.specs.Seat.{behind, behind_by, header_length, moved_length, seat_from, width, width_by}
use Rattle.epoch_store.specs.declared.StoreError.{StoreError}
use Rattle.epoch_store.specs.declared.StoreError.TheVariants.{Fault, Taken, Broken, OtherKey, OutOfMemory}
use Rattle.epoch_store.specs.Reading.{Reading, Finds, Breaks, Differs, ReadsFrom, StandsIn, closes, last_kept, wrong_field}
use Rattle.epoch_store.specs.Calls.{FindsGate, IsAfter, IsBehindMark, IsNotTaken, IsPlaced, Judges, OnRead, ReadsEntries, ReadsGate, ReadsHead, StoreState, answer_of, is_fault}
use Rattle.epoch_store.specs.Store.{IsEntry}
use Rattle.epoch_store.specs.Asked.{ClosedIn, Passed, PassesIn, ReadsGates, ReadsMark, ReadsOneGate, ReadsUpTo, entry_reads, gate_reads}
use Rattle.epoch_store.specs.Followed.{ReadsGatesFrom, ReadsOneGateFrom, ReadsOnUpTo}
use Rattle.epoch_store.proofs.CallLemmas.{joined, with_calls-append}
use Rattle.epoch_store.proofs.ReadLemmas.{kept_small}

-- ---- one gate

-- what was read behind a mark
pub behind_mark_calls : (seat : Seat) (moments : List Moment) (result : Result Gate StoreError) (older middle newer : Option (List DiskCall)) → IsBehindMark seat result → ReadsMark moments seat true
    → middle ≡ with_call (ToRead seat.gate (width seat)) older → newer ≡ with_call (ToRead (seat.gate + width seat) moved_length) middle → ReadsOneGate seat moments result older newer
behind_mark_calls seat moments (Ok (Shut state)) older middle newer near marked first second = absurd near
behind_mark_calls seat moments (Ok (Open e)) older middle newer near marked first second =
    let all : newer ≡ with_calls (gate_reads seat true) older = second ∙ ap (with_call (ToRead (seat.gate + width seat) moved_length)) first in
    subst (λ (moved : Bool). newer ≡ with_calls (gate_reads seat moved) older) (sym near) all
behind_mark_calls seat moments (Err Fault) older middle newer near marked first second =
    (true, marked, record { left_out = 0; made = second ∙ ap (with_call (ToRead (seat.gate + width seat) moved_length)) first })
behind_mark_calls seat moments (Err (Taken len)) older middle newer near marked first second = near
behind_mark_calls seat moments (Err (Broken place byte)) older middle newer near marked first second =
    (true, marked, near.0, omega (arith, near.1), second ∙ ap (with_call (ToRead (seat.gate + width seat) moved_length)) first)
behind_mark_calls seat moments (Err (OtherKey place byte)) older middle newer near marked first second = near
behind_mark_calls seat moments (Err OutOfMemory) older middle newer near marked first second = near

pub behind_mark_follows : (seat : Seat) (moments : List Moment) (result : Result Gate StoreError) (older middle newer : Option DiskState) → IsBehindMark seat result → ReadsMark moments seat true
    → came_to middle false ≡ runs_on (ToRead seat.gate (width seat) ∷ []) older → came_to newer (is_fault result) ≡ runs_on (ToRead (seat.gate + width seat) moved_length ∷ []) middle → ReadsOneGateFrom seat moments result older newer
behind_mark_follows seat moments (Ok (Shut state)) older middle newer near marked first second = absurd near
behind_mark_follows seat moments (Ok (Open e)) older middle newer near marked first second =
    let all : came_to newer false ≡ runs_on (gate_reads seat true) older = then_runs (ToRead (seat.gate + width seat) moved_length ∷ []) (ToRead seat.gate (width seat) ∷ []) older middle newer false first second in
    subst (λ (moved : Bool). came_to newer false ≡ runs_on (gate_reads seat moved) older) (sym near) all
behind_mark_follows seat moments (Err Fault) older middle newer near marked first second =
    (true, marked, then_runs (ToRead (seat.gate + width seat) moved_length ∷ []) (ToRead seat.gate (width seat) ∷ []) older middle newer true first second)
behind_mark_follows seat moments (Err (Taken len)) older middle newer near marked first second = near
behind_mark_follows seat moments (Err (Broken place byte)) older middle newer near marked first second =
    (true, marked, near.0, omega (arith, near.1), then_runs (ToRead (seat.gate + width seat) moved_length ∷ []) (ToRead seat.gate (width seat) ∷ []) older middle newer false first second)
behind_mark_follows seat moments (Err (OtherKey place byte)) older middle newer near marked first second = near
behind_mark_follows seat moments (Err OutOfMemory) older middle newer near marked first second = near

-- an entry that was judged, behind a migration entry's mark
pub near_mark : (seat : Seat) (before : Option Stored) (e : Entry) (bytes : List ℕ) (result : Result Gate StoreError) → is_some e.moved ≡ true → Judges seat before e bytes result → ((at : ℕ) → wrong_field seat.wide before e ≡ Some at → at < width seat + moved_length) → IsBehindMark seat result
near_mark seat before e bytes (Ok (Shut state)) some judges small = judges
near_mark seat before e bytes (Ok (Open found)) some judges small = ap (λ (x : Entry). is_some x.moved) judges.0 ∙ some
near_mark seat before e bytes (Err Fault) some judges small = tt
near_mark seat before e bytes (Err (Taken len)) some judges small = judges
near_mark seat before e bytes (Err (Broken place byte)) some judges small = (omega (arith, judges.2), omega (arith, judges.2, small judges.0 judges.1))
near_mark seat before e bytes (Err (OtherKey place byte)) some judges small = judges
near_mark seat before e bytes (Err OutOfMemory) some judges small = judges

-- an entry that moves nothing
pub kept_calls : (seat : Seat) (moments : List Moment) (before : Option Stored) (e : Entry) (bytes : List ℕ) (result : Result Gate StoreError) (older newer : Option (List DiskCall)) → e.moved ≡ None → ReadsMark moments seat false → Judges seat before e bytes result
    → newer ≡ with_call (ToRead seat.gate (width seat)) older → ReadsOneGate seat moments result older newer
kept_calls seat moments before e bytes (Ok (Shut state)) older newer none unmarked judges is = absurd judges
kept_calls seat moments before e bytes (Ok (Open found)) older newer none unmarked judges is =
    let plain : is_some found.moved ≡ false = ap (λ (x : Entry). is_some x.moved) judges.0 ∙ ap is_some none in
    subst (λ (moved : Bool). newer ≡ with_calls (gate_reads seat moved) older) (sym plain) is
kept_calls seat moments before e bytes (Err Fault) older newer none unmarked judges is = absurd judges
kept_calls seat moments before e bytes (Err (Taken len)) older newer none unmarked judges is = judges
kept_calls seat moments before e bytes (Err (Broken place byte)) older newer none unmarked judges is =
    let small = kept_small seat.wide before e judges.0 none judges.1 in
    (false, unmarked, omega (arith, judges.2), omega (arith, judges.2, small), is)
kept_calls seat moments before e bytes (Err (OtherKey place byte)) older newer none unmarked judges is = judges
kept_calls seat moments before e bytes (Err OutOfMemory) older newer none unmarked judges is = judges

pub kept_follows : (seat : Seat) (moments : List Moment) (before : Option Stored) (e : Entry) (bytes : List ℕ) (result : Result Gate StoreError) (older newer : Option DiskState) → e.moved ≡ None → ReadsMark moments seat false → Judges seat before e bytes result
    → came_to newer false ≡ runs_on (ToRead seat.gate (width seat) ∷ []) older → ReadsOneGateFrom seat moments result older newer
kept_follows seat moments before e bytes (Ok (Shut state)) older newer none unmarked judges is = absurd judges
kept_follows seat moments before e bytes (Ok (Open found)) older newer none unmarked judges is =
    let plain : is_some found.moved ≡ false = ap (λ (x : Entry). is_some x.moved) judges.0 ∙ ap is_some none in
    subst (λ (moved : Bool). came_to newer false ≡ runs_on (gate_reads seat moved) older) (sym plain) is
kept_follows seat moments before e bytes (Err Fault) older newer none unmarked judges is = absurd judges
kept_follows seat moments before e bytes (Err (Taken len)) older newer none unmarked judges is = judges
kept_follows seat moments before e bytes (Err (Broken place byte)) older newer none unmarked judges is =
    let small = kept_small seat.wide before e judges.0 none judges.1 in
    (false, unmarked, omega (arith, judges.2), omega (arith, judges.2, small), is)
kept_follows seat moments before e bytes (Err (OtherKey place byte)) older newer none unmarked judges is = judges
kept_follows seat moments before e bytes (Err OutOfMemory) older newer none unmarked judges is = judges

-- ---- gates, one after the other

-- the gates in front of this one were read, from the first one on
pub record GatesRead (moments : List Moment) (first : Seat) (before : Option Stored) (seat : Seat) (older newer : Option (List DiskCall)) (was now : Option DiskState) : Type 0 where
  pub entries : List Entry
  pub passes : PassesIn moments first entries
  pub last : before ≡ last_kept entries
  pub ends : seat ≡ seat_from first entries
  pub made : newer ≡ with_calls (entry_reads first entries) older
  pub came : came_to now false ≡ runs_on (entry_reads first entries) was

pub none_read : (moments : List Moment) (first : Seat) (older : Option (List DiskCall)) (was : Option DiskState) → ReadsHead moments (Ok first) → GatesRead moments first None first older older was was
none_read moments first older was head = record { entries = []; passes = begins moments head; last = refl; ends = refl; made = refl; came = runs_none was }
  where
    begins : (moments : List Moment) → ReadsHead moments (Ok first) → PassesIn moments first []
    begins [] head = tt
    begins (now ∷ past) head = head

pub one_more : (moments : List Moment) (first : Seat) (before : Option Stored) (seat : Seat) (e : Entry) (older middle newer : Option (List DiskCall)) (was mid now : Option DiskState) → GatesRead moments first before seat older middle was mid
    → ReadsOneGate seat moments (Ok (Open e)) middle newer → ReadsOneGateFrom seat moments (Ok (Open e)) mid now → ReadsGate before seat moments (Ok (Open e)) → GatesRead moments first (Some e.kept) (behind seat e) older newer was now
one_more moments first before seat e older middle newer was mid now read calls follows stands =
    let more = gate_reads seat (is_some e.moved) in
    let reads = entry_reads first read.entries in
    record {
      entries = e ∷ read.entries;
      passes = further moments read.passes stands;
      last = refl;
      ends = ap (λ (z : Seat). behind z e) read.ends;
      made =
          calls
          ∙ ap (with_calls more) read.made
          ∙ sym (with_calls-append more reads older)
          ∙ ap (λ (z : Seat). with_calls (gate_reads z (is_some e.moved) ++ reads) older) read.ends;
      came = then_runs more reads was mid now false read.came follows ∙ ap (λ (z : Seat). runs_on (gate_reads z (is_some e.moved) ++ reads) was) read.ends;
    }
  where
    further : (moments : List Moment) → PassesIn moments first read.entries → ReadsGate before seat moments (Ok (Open e)) → PassesIn moments first (e ∷ read.entries)
    further [] passes stands = tt
    further (now ∷ past) passes stands =
        let here = subst (λ (b : Option Stored). StandsIn now.image b seat (Ok (Open e))) read.last stands in
        (passes, subst (λ (z : Seat). StandsIn now.image (last_kept read.entries) z (Ok (Open e))) read.ends here)

-- ---- the last gate

passed_of : (moments : List Moment) (first : Seat) (before : Option Stored) (seat : Seat) (older newer : Option (List DiskCall)) (was now : Option DiskState) → first.gate ≡ header_length → (read : GatesRead moments first before seat older newer was now) → Passed moments seat (entry_reads first read.entries)
passed_of moments first before seat older newer was now begins read = record {
  first = first;
  entries = read.entries;
  begins = begins;
  passes = read.passes;
  ends = read.ends;
  are = refl;
}

bare : (more reads : List DiskCall) (older : Option (List DiskCall)) → with_calls (more ++ reads) older ≡ with_calls (more ++ (reads ++ [])) older
bare more reads older = ap (λ (r : List DiskCall). with_calls (more ++ r) older) (sym (append-nil reads))

bare_on : (more reads : List DiskCall) (was : Option DiskState) → runs_on (more ++ reads) was ≡ runs_on (more ++ (reads ++ [])) was
bare_on more reads was = ap (λ (r : List DiskCall). runs_on (more ++ r) was) (sym (append-nil reads))

closed_in : (moments : List Moment) (before : Option Stored) (seat : Seat) (state : Stored) → ReadsGate before seat moments (Ok (Shut state)) → ClosedIn moments seat
closed_in [] before seat state stands = tt
closed_in (now ∷ past) before seat state stands = stands.0

pub up_to : (moments : List Moment) (first : Seat) (before : Option Stored) (seat : Seat) (state : Stored) (older middle newer : Option (List DiskCall)) (was mid : Option DiskState) → first.gate ≡ header_length → GatesRead moments first before seat older middle was mid
    → ReadsOneGate seat moments (Ok (Shut state)) middle newer → ReadsGate before seat moments (Ok (Shut state)) → ReadsUpTo [] moments seat older newer
up_to moments first before seat state older middle newer was mid begins read calls stands = record {
  reads = entry_reads first read.entries;
  passed = passed_of moments first before seat older middle was mid begins read;
  closed = closed_in moments before seat state stands;
  made = calls ∙ ap (with_calls (gate_reads seat false)) read.made ∙ sym (with_calls-append (gate_reads seat false) (entry_reads first read.entries) older) ∙ bare (gate_reads seat false) (entry_reads first read.entries) older;
}

pub on_up_to : (moments : List Moment) (first : Seat) (before : Option Stored) (seat : Seat) (state : Stored) (older middle : Option (List DiskCall)) (was mid now : Option DiskState) → first.gate ≡ header_length → GatesRead moments first before seat older middle was mid
    → ReadsOneGateFrom seat moments (Ok (Shut state)) mid now → ReadsGate before seat moments (Ok (Shut state)) → ReadsOnUpTo [] moments seat was now
on_up_to moments first before seat state older middle was mid now begins read follows stands = record {
  reads = entry_reads first read.entries;
  passed = passed_of moments first before seat older middle was mid begins read;
  closed = closed_in moments before seat state stands;
  came = then_runs (gate_reads seat false) (entry_reads first read.entries) was mid now false read.came follows ∙ bare_on (gate_reads seat false) (entry_reads first read.entries) was;
}

-- the answer at the closed gate
by_tag : (P : Result StoreState StoreError → Type 0) (tag : List ℕ) (state : Stored) (seat : Seat) (result : Result StoreState StoreError) → result ≡ answer_of [] (closes tag state seat)
    → ((place byte : ℕ) → P (Err (OtherKey place byte))) → P (Ok (record { state = state; seat = seat; failed = false })) → P result
by_tag P tag state seat result is other ok = one (nat_lt (common_prefix_len nat_eq tag seat.tag) 32) is
  where
    one : (differs : Bool) → result ≡ answer_of [] (cond differs (Differs (seat.tag_place + common_prefix_len nat_eq tag seat.tag) (get_or seat.tag (common_prefix_len nat_eq tag seat.tag) 0)) (Finds state seat)) → P result
    one true is = subst P (sym is) (other (seat.tag_place + common_prefix_len nat_eq tag seat.tag) (get_or seat.tag (common_prefix_len nat_eq tag seat.tag) 0))
    one false is = subst P (sym is) ok

pub closed_calls : (tag : List ℕ) (state : Stored) (seat : Seat) (moments : List Moment) (result : Result StoreState StoreError) (older newer : Option (List DiskCall)) → result ≡ answer_of [] (closes tag state seat) → ReadsUpTo [] moments seat older newer → ReadsGates [] moments result older newer
closed_calls tag state seat moments result older newer is read =
    by_tag (λ r. ReadsGates [] moments r older newer) tag state seat result is (λ place byte. (seat, read)) read

pub closed_follows : (tag : List ℕ) (state : Stored) (seat : Seat) (moments : List Moment) (result : Result StoreState StoreError) (was now : Option DiskState) → result ≡ answer_of [] (closes tag state seat) → ReadsOnUpTo [] moments seat was now → ReadsGatesFrom [] moments result was now
closed_follows tag state seat moments result was now is read =
    by_tag (λ r. ReadsGatesFrom [] moments r was now) tag state seat result is (λ place byte. (seat, read)) read

-- what an answer at the closed gate doesn't ask of the image
closes_alike : (tag image : List ℕ) (state : Stored) (seat : Seat) → answer_of [] (closes tag state seat) ≡ answer_of image (closes tag state seat)
closes_alike tag image state seat = one (nat_lt (common_prefix_len nat_eq tag seat.tag) 32)
  where
    one : (differs : Bool) → answer_of [] (cond differs (Differs (seat.tag_place + common_prefix_len nat_eq tag seat.tag) (get_or seat.tag (common_prefix_len nat_eq tag seat.tag) 0)) (Finds state seat))
        ≡ answer_of image (cond differs (Differs (seat.tag_place + common_prefix_len nat_eq tag seat.tag) (get_or seat.tag (common_prefix_len nat_eq tag seat.tag) 0)) (Finds state seat))
    one true = refl
    one false = refl

-- the file is refused at the gate, or a read fails
pub refused_calls : (error : StoreError) (moments : List Moment) (first : Seat) (before : Option Stored) (seat : Seat) (older middle newer : Option (List DiskCall)) (was mid : Option DiskState) → first.gate ≡ header_length → GatesRead moments first before seat older middle was mid
    → ReadsOneGate seat moments (Err error) middle newer → ReadsGates [] moments (Err error) older newer
refused_calls Fault moments first before seat older middle newer was mid begins read calls =
    inr (record {
      seat = seat;
      moved = calls.0;
      reads = entry_reads first read.entries;
      passed = passed_of moments first before seat older middle was mid begins read;
      marked = calls.1;
      made = subst (λ (r : List DiskCall). AsFarAs (gate_reads seat calls.0 ++ r) older newer) (sym (append-nil (entry_reads first read.entries))) (joined (gate_reads seat calls.0) (entry_reads first read.entries) older middle newer read.made calls.2);
    })
refused_calls (Taken len) moments first before seat older middle newer was mid begins read calls = calls
refused_calls (Broken place byte) moments first before seat older middle newer was mid begins read calls =
    inr (record {
      seat = seat;
      moved = calls.0;
      reads = entry_reads first read.entries;
      passed = passed_of moments first before seat older middle was mid begins read;
      marked = calls.1;
      from_gate = calls.2;
      within = calls.3;
      made = calls.4 ∙ ap (with_calls (gate_reads seat calls.0)) read.made ∙ sym (with_calls-append (gate_reads seat calls.0) (entry_reads first read.entries) older) ∙ bare (gate_reads seat calls.0) (entry_reads first read.entries) older;
    })
refused_calls (OtherKey place byte) moments first before seat older middle newer was mid begins read calls = absurd calls
refused_calls OutOfMemory moments first before seat older middle newer was mid begins read calls = absurd calls

pub refused_follows : (error : StoreError) (moments : List Moment) (first : Seat) (before : Option Stored) (seat : Seat) (older middle : Option (List DiskCall)) (was mid now : Option DiskState) → first.gate ≡ header_length → GatesRead moments first before seat older middle was mid
    → ReadsOneGateFrom seat moments (Err error) mid now → ReadsGatesFrom [] moments (Err error) was now
refused_follows Fault moments first before seat older middle was mid now begins read follows =
    inr (record {
      seat = seat;
      moved = follows.0;
      reads = entry_reads first read.entries;
      passed = passed_of moments first before seat older middle was mid begins read;
      marked = follows.1;
      came = then_runs (gate_reads seat follows.0) (entry_reads first read.entries) was mid now true read.came follows.2 ∙ bare_on (gate_reads seat follows.0) (entry_reads first read.entries) was;
    })
refused_follows (Taken len) moments first before seat older middle was mid now begins read follows = follows
refused_follows (Broken place byte) moments first before seat older middle was mid now begins read follows =
    inr (record {
      seat = seat;
      moved = follows.0;
      reads = entry_reads first read.entries;
      passed = passed_of moments first before seat older middle was mid begins read;
      marked = follows.1;
      from_gate = follows.2;
      within = follows.3;
      came = then_runs (gate_reads seat follows.0) (entry_reads first read.entries) was mid now false read.came follows.4 ∙ bare_on (gate_reads seat follows.0) (entry_reads first read.entries) was;
    })
refused_follows (OtherKey place byte) moments first before seat older middle was mid now begins read follows = absurd follows
refused_follows OutOfMemory moments first before seat older middle was mid now begins read follows = absurd follows

-- ---- what is read

-- the reading from a seat on is the reading of all
abbrev pub Continues : List ℕ → Seat → List Moment → Option Stored → Seat → Type 0
Continues tag first [] before seat = Unit {0}
Continues tag first (now ∷ past) before seat = (reading : Reading) → ReadsFrom tag now.image before seat reading → ReadsFrom tag now.image None first reading

-- how many entries may still come
abbrev pub left_of : Option Stored → ℕ
left_of None = 32770
left_of (Some e) = 32769 - e.next

pub begins : (tag : List ℕ) (first : Seat) (moments : List Moment) → Continues tag first moments None first
begins tag first [] = tt
begins tag first (now ∷ past) = λ reading reads. reads

on_answer : {T : Type 0} → (result : Result T StoreError) (P : Type 0) → P → OnRead result P
on_answer (Ok value) P p = p
on_answer (Err Fault) P p = tt
on_answer (Err (Taken len)) P p = p
on_answer (Err (Broken place byte)) P p = p
on_answer (Err (OtherKey place byte)) P p = p
on_answer (Err OutOfMemory) P p = tt

pub ends_shut : (tag : List ℕ) (first : Seat) (moments : List Moment) (before : Option Stored) (seat : Seat) (state : Stored) (result : Result StoreState StoreError) → Continues tag first moments before seat → ReadsGate before seat moments (Ok (Shut state)) → IsNotTaken result → result ≡ answer_of [] (closes tag state seat)
    → ReadsEntries tag first moments result
ends_shut tag first [] before seat state result goes stands found is = found
ends_shut tag first (now ∷ past) before seat state result goes stands found is =
    on_answer result ((reading : Reading) × ReadsFrom tag now.image None first reading × (result ≡ answer_of now.image reading))
    (closes tag state seat, goes (closes tag state seat) (ReadsFrom.ends before seat state stands), is ∙ closes_alike tag now.image state seat)

pub ends_broken : (tag : List ℕ) (first : Seat) (moments : List Moment) (before : Option Stored) (seat : Seat) (error : StoreError) → Continues tag first moments before seat → ReadsGate before seat moments (Err error) → FindsGate before (Err error)
    → ReadsEntries tag first moments (Err error)
ends_broken tag first [] before seat error goes stands found = found
ends_broken tag first (now ∷ past) before seat Fault goes stands found = tt
ends_broken tag first (now ∷ past) before seat (Taken len) goes stands found = absurd stands
ends_broken tag first (now ∷ past) before seat (Broken place byte) goes stands found =
    let shown : byte ≡ slice_get now.image (seat.gate + stands.0) = stands.3 ∙ ap (slice_get now.image) stands.2 in
    (Breaks (seat.gate + stands.0), goes (Breaks (seat.gate + stands.0)) (ReadsFrom.breaks before seat stands.0 stands.1), rw (stands.2, shown) refl)
ends_broken tag first (now ∷ past) before seat (OtherKey place byte) goes stands found = absurd stands
ends_broken tag first (now ∷ past) before seat OutOfMemory goes stands found = tt

pub goes_on : (tag : List ℕ) (first : Seat) (moments : List Moment) (before : Option Stored) (seat : Seat) (e : Entry) → Continues tag first moments before seat → ReadsGate before seat moments (Ok (Open e))
    → Continues tag first moments (Some e.kept) (behind seat e)
goes_on tag first [] before seat e goes stands = tt
goes_on tag first (now ∷ past) before seat e goes stands = λ reading reads. goes reading (ReadsFrom.goes before seat e reading stands reads)

width_few : (wide : Bool) → width_by wide ≤ 21
width_few false = omega arith
width_few true = omega arith

-- a seat that was reached is placed
further_by : (seat : Seat) (moved : Option (List ℕ)) → seat.tag_place ≤ seat.gate → ((behind_by moved seat).gate ≤ seat.gate + 61) × ((behind_by moved seat).tag_place ≤ (behind_by moved seat).gate)
further_by seat None at = let few = width_few seat.wide in (omega (arith, few), omega (arith, at))
further_by seat (Some tag) at = let few = width_few seat.wide in (omega (arith, few), omega arith)

pub placed_next : (before : Option Stored) (seat : Seat) (e : Entry) → IsPlaced before seat → IsEntry e.kept → IsAfter before e.kept → IsPlaced (Some e.kept) (behind seat e)
placed_next None seat e placed entry after =
    let further = further_by seat e.moved placed.1 in (entry, omega (arith, further.0, placed.0), further.1)
placed_next (Some b) seat e placed entry after =
    let further = further_by seat e.moved placed.2 in (entry, omega (arith, further.0, placed.1, after.next_rises), further.1)
