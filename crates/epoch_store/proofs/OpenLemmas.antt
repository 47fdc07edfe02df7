-- Opening a store.
use Rattle.std.proofs.Common.{◌≡◌, ℕ, inl, inr, Option, None, Some, List, [], ◌∷◌, ◌++◌, length, take, drop, refl, sym, ap, ◌∙◌, subst, append_assoc, Bool, true, false, Result, Ok, Err, IfOk}
use Rattle.ports.specs.DiskCalls.{DiskCall, ToOpen, ToRead, ToSync, with_call, with_calls, AsFarAs}
use Rattle.ports.specs.MemoryDisk.{DiskState}
use Rattle.ports.specs.DiskSteps.{came_to, runs_on}
use Rattle.ports.proofs.RunLemmas.{then_runs, runs_on_no_further}
use Rattle.epoch_store.specs.Seat.{header_length}
use Rattle.epoch_store.specs.declared.entry.Entry.{Entry}
use Rattle.epoch_store.specs.declared.seat.Seat.{Seat}
use Rattle.epoch_store.specs.declared.StoreError.{StoreError}
use Rattle.epoch_store.specs.declared.StoreError.TheVariants.{Fault, Taken, Broken, OtherKey, OutOfMemory}
use Rattle.epoch_store.specs.Reading.{Reading, Finds, Breaks, Differs, IsClosed, ReadsBehind, Reads, head_seat}
use Rattle.epoch_store.specs.Calls.{StoreState, SettlesAs, same, OnRead, AnswersAs, OpensAs, ReadsHead, ReadsEntries, EntriesAnswer, answer_of, IsOpened, HoldsStore, is_fault}
use Rattle.epoch_store.specs.Asked.{AsksToOpen, ClosedIn, MarkedIn, Passed, Passes, PassesIn, ReadsGates, ReadsMark, ReadsTo, ReadsUpTo, RefusedInHead, StopsReading, gate_reads, open_calls}
use Rattle.epoch_store.specs.Followed.{FailsReading, OpensFile, ReadsGatesFrom, ReadsOnTo, ReadsOnUpTo}
use Rattle.epoch_store.specs.Store.{StoreAt, IsSettled}
use Rattle.epoch_store.proofs.OnceLemmas.{reads_once}
use Rattle.epoch_store.proofs.FoundLemmas.{found_store}
use Rattle.epoch_store.proofs.CallLemmas.{joined, with_calls-append}
use Rattle.ports.specs.Disk.{Moment, Settles, settled}

-- a sync settles the file as it is
pub settles_same : (a b : List Moment) → Settles a b → SettlesAs same a b
settles_same [] b settles = settles
settles_same (now ∷ past) [] (inl is) = cc
settles_same (now ∷ past) [] (inr is) = cc (is.1)
settles_same (now ∷ past) (m ∷ later) (inl is) = cc
settles_same (now ∷ past) (m ∷ later) (inr is) = let at : m ≡ now = cc (is.1) in at ∙ is.0

on_read : {T : Type 0} → (result : Result T StoreError) (P Q : Type 0) → (P → Q) → OnRead result P → OnRead result Q
on_read (Ok value) P Q f p = f p
on_read (Err Fault) P Q f p = tt
on_read (Err (Taken len)) P Q f p = f p
on_read (Err (Broken place byte)) P Q f p = f p
on_read (Err (OtherKey place byte)) P Q f p = f p
on_read (Err OutOfMemory) P Q f p = tt

behind_head : (tag image : List ℕ) (head : Result Seat ℕ) (reading : Reading) → head_seat (take header_length image) ≡ head → ReadsBehind tag image head reading → Reads tag image reading
behind_head tag image head reading is reads = subst (λ (h : Result Seat ℕ). ReadsBehind tag image h reading) (sym is) reads

answers : (tag image : List ℕ) (result : Result StoreState StoreError) (reading : Reading) → Reads tag image reading → result ≡ answer_of image reading → AnswersAs tag image result
answers tag image result reading reads is = record {
  reading = reading;
  reads = reads;
  only = λ other more. reads_once tag image other reading more reads;
  answer = is;
}

-- a head that is none of a store
pub head_refused : (tag : List ℕ) (moments : List Moment) (error : StoreError) → ReadsHead moments (Err error) → OpensAs tag moments (Err error)
head_refused tag [] error head = tt
head_refused tag (now ∷ past) Fault head = tt
head_refused tag (now ∷ past) (Taken len) head = absurd head
head_refused tag (now ∷ past) (Broken place byte) head =
    answers tag now.image (Err (Broken place byte)) (Breaks place) (behind_head tag now.image (Err place) (Breaks place) head.0 refl) (ap (λ (b : Option ℕ). Err (Broken place b)) head.1)
head_refused tag (now ∷ past) (OtherKey place byte) head = absurd head
head_refused tag (now ∷ past) OutOfMemory head = absurd head

-- a good head, and the entries behind it
pub entries_read : (tag : List ℕ) (first : Seat) (moments : List Moment) (result : Result StoreState StoreError) → ReadsHead moments (Ok first) → ReadsEntries tag first moments result → OpensAs tag moments result
entries_read tag first [] result head entries = tt
entries_read tag first (now ∷ past) result head entries =
    on_read result (EntriesAnswer tag first now.image result) (AnswersAs tag now.image result)
    (λ found. answers tag now.image result found.0 (behind_head tag now.image (Ok first) found.0 head found.1) found.2) entries

finds_at : (tag image : List ℕ) (store : StoreState) → length tag ≡ 32 → (reading : Reading) → Reads tag image reading → Ok store ≡ answer_of image reading → StoreAt tag image store.state store.seat
finds_at tag image store size (Finds state seat) reads is =
    let found = found_store tag image state seat size reads in
    let at : store ≡ record { state = state; seat = seat; failed = false } = cc in
    let P : StoreState → Type 0 = λ s. StoreAt tag image s.state s.seat in
    subst P (sym at) found
finds_at tag image store size (Breaks place) reads is = cc
finds_at tag image store size (Differs place byte) reads is = cc

pub entries_hold : (tag : List ℕ) (first : Seat) (moments : List Moment) (result : Result StoreState StoreError) → length tag ≡ 32 → ReadsHead moments (Ok first) → ReadsEntries tag first moments result → IfOk result (λ store. HoldsStore tag store.state store.seat moments)
entries_hold tag first moments (Err error) size head entries = tt
entries_hold tag first [] (Ok store) size head entries = tt
entries_hold tag first (now ∷ past) (Ok store) size head entries = finds_at tag now.image store size entries.0 (behind_head tag now.image (Ok first) entries.0 head entries.1) entries.2

-- a sync before the reading changes nothing of the answer
pub opens_before : (tag : List ℕ) (a b : List Moment) (result : Result StoreState StoreError) → SettlesAs same a b → OpensAs tag b result → OpensAs tag a result
opens_before tag [] b result settles opens = tt
opens_before tag (was ∷ older) [] result settles opens = absurd settles
opens_before tag (was ∷ older) (now ∷ past) result settles opens =
    let image : now.image ≡ was.image = ap (λ (m : Moment). m.image) settles in
    let P : List ℕ → Type 0 = λ i. OnRead result (AnswersAs tag i result) in subst P image opens

pub settled_store : (tag : List ℕ) (a b c : List Moment) (result : Result StoreState StoreError) → SettlesAs same a b → IfOk result (λ store. HoldsStore tag store.state store.seat b) → OnRead result (c ≡ b) → IfOk result (λ store. IsSettled tag store.state store.seat c)
settled_store tag a b c (Err error) settles holds kept = tt
settled_store tag a [] c (Ok store) settles holds kept = rw kept tt
settled_store tag [] (now ∷ past) c (Ok store) settles holds kept = cc
settled_store tag (was ∷ older) (now ∷ past) c (Ok store) settles holds kept =
    let image : now.image ≡ was.image = ap (λ (m : Moment). m.image) settles in
    rw kept (settles ∙ ap settled (sym image), holds)

pub settles_on : {T : Type 0} → (a b c : List Moment) (result : Result T StoreError) → SettlesAs same a b → OnRead result (c ≡ b) → OnRead result (SettlesAs same a c)
settles_on a b c result settles kept = on_read result (c ≡ b) (SettlesAs same a c) (λ is. rw is settles) kept

-- ---- the calls

-- calls that were made after others
after_calls : (more reads first earlier : List DiskCall) (older middle : Option (List DiskCall)) → middle ≡ with_calls earlier older → with_calls (more ++ (reads ++ first)) middle ≡ with_calls (more ++ (reads ++ (first ++ earlier))) older
after_calls more reads first earlier older middle is =
    ap (with_calls (more ++ (reads ++ first))) is
    ∙ sym (with_calls-append (more ++ (reads ++ first)) earlier older)
    ∙ ap (λ (calls : List DiskCall). with_calls calls older) (append_assoc more (reads ++ first) earlier ∙ ap (λ (b : List DiskCall). more ++ b) (append_assoc reads first earlier))

up_to_after : (first earlier : List DiskCall) (moments : List Moment) (seat : Seat) (older middle newer : Option (List DiskCall)) → middle ≡ with_calls earlier older → ReadsUpTo first moments seat middle newer → ReadsUpTo (first ++ earlier) moments seat older newer
up_to_after first earlier moments seat older middle newer is read = record {
  reads = read.reads;
  passed = read.passed;
  closed = read.closed;
  made = read.made ∙ after_calls (gate_reads seat false) read.reads first earlier older middle is;
}

far_after : (first earlier : List DiskCall) (older middle newer : Option (List DiskCall)) → middle ≡ with_calls earlier older → AsFarAs first middle newer → AsFarAs (first ++ earlier) older newer
far_after first earlier older middle newer is far = joined first earlier older middle newer is far

stops_after : (first earlier : List DiskCall) (moments : List Moment) (older middle newer : Option (List DiskCall)) → middle ≡ with_calls earlier older → StopsReading first moments middle newer → StopsReading (first ++ earlier) moments older newer
stops_after first earlier moments older middle newer is (inl far) = inl (far_after first earlier older middle newer is far)
stops_after first earlier moments older middle newer is (inr read) =
    let more = gate_reads read.seat read.moved in
    let P : List DiskCall → Type 0 = λ calls. AsFarAs calls older newer in
    inr (record {
      seat = read.seat;
      moved = read.moved;
      reads = read.reads;
      passed = read.passed;
      marked = read.marked;
      made = subst P (append_assoc more (read.reads ++ first) earlier ∙ ap (λ (b : List DiskCall). more ++ b) (append_assoc read.reads first earlier)) (joined (more ++ (read.reads ++ first)) earlier older middle newer is read.made);
    })

to_after : (first earlier : List DiskCall) (moments : List Moment) (place : ℕ) (older middle newer : Option (List DiskCall)) → middle ≡ with_calls earlier older → ReadsTo first moments place middle newer → ReadsTo (first ++ earlier) moments place older newer
to_after first earlier moments place older middle newer is (inl head) = inl (head.0, head.1 ∙ ap (with_calls first) is ∙ sym (with_calls-append first earlier older))
to_after first earlier moments place older middle newer is (inr read) = inr (record {
  seat = read.seat;
  moved = read.moved;
  reads = read.reads;
  passed = read.passed;
  marked = read.marked;
  from_gate = read.from_gate;
  within = read.within;
  made = read.made ∙ after_calls (gate_reads read.seat read.moved) read.reads first earlier older middle is;
})

pub read_after : (first earlier : List DiskCall) (moments : List Moment) (result : Result StoreState StoreError) (older middle newer : Option (List DiskCall)) → middle ≡ with_calls earlier older → ReadsGates first moments result middle newer → ReadsGates (first ++ earlier) moments result older newer
read_after first earlier moments (Ok store) older middle newer is read = up_to_after first earlier moments store.seat older middle newer is read
read_after first earlier moments (Err Fault) older middle newer is read = stops_after first earlier moments older middle newer is read
read_after first earlier moments (Err (Taken len)) older middle newer is read = read
read_after first earlier moments (Err (Broken place byte)) older middle newer is read = to_after first earlier moments place older middle newer is read
read_after first earlier moments (Err (OtherKey place byte)) older middle newer is read = (read.0, up_to_after first earlier moments read.0 older middle newer is read.1)
read_after first earlier moments (Err OutOfMemory) older middle newer is read = read

-- a head that is refused
pub head_only : (error : StoreError) (moments : List Moment) (older newer : Option (List DiskCall)) → RefusedInHead {T = Seat} (Err error) → newer ≡ with_call (ToRead 0 header_length) older → ReadsGates (ToRead 0 header_length ∷ []) moments (Err error) older newer
head_only Fault moments older newer refused is = inl (record { left_out = 0; made = is })
head_only (Taken len) moments older newer refused is = refused
head_only (Broken place byte) moments older newer refused is = inl (refused, is)
head_only (OtherKey place byte) moments older newer refused is = absurd refused
head_only OutOfMemory moments older newer refused is = absurd refused

-- a file that was not opened
pub not_opened_to_read : (name : List ℕ) (error : StoreError) (moments a b : List Moment) (older newer : Option (List DiskCall)) → IsOpened a b (Err error) → newer ≡ with_call (ToOpen name) older → AsksToOpen name moments (Err error) older newer
not_opened_to_read name Fault moments a b older newer opened is = inl (record { left_out = 2; made = is })
not_opened_to_read name (Taken len) moments a b older newer opened is = opened
not_opened_to_read name (Broken place byte) moments a b older newer opened is = absurd opened
not_opened_to_read name (OtherKey place byte) moments a b older newer opened is = absurd opened
not_opened_to_read name OutOfMemory moments a b older newer opened is = is

-- a file that was opened and read
pub opened_to_read : (name : List ℕ) (moments : List Moment) (result : Result StoreState StoreError) (older newer : Option (List DiskCall)) → ReadsGates (open_calls name) moments result older newer → AsksToOpen name moments result older newer
opened_to_read name moments (Ok store) older newer read = read
opened_to_read name moments (Err Fault) older newer read = read
opened_to_read name moments (Err (Taken len)) older newer read = read
opened_to_read name moments (Err (Broken place byte)) older newer read = read
opened_to_read name moments (Err (OtherKey place byte)) older newer read = read
opened_to_read name moments (Err OutOfMemory) older newer read = absurd read

-- ---- the state of the disk

after_runs : (more reads first earlier : List DiskCall) (failed : Bool) (older middle newer : Option DiskState) → came_to middle false ≡ runs_on earlier older → came_to newer failed ≡ runs_on (more ++ (reads ++ first)) middle → came_to newer failed ≡ runs_on (more ++ (reads ++ (first ++ earlier))) older
after_runs more reads first earlier failed older middle newer is came =
    then_runs (more ++ (reads ++ first)) earlier older middle newer failed is came
    ∙ ap (λ (calls : List DiskCall). runs_on calls older) (append_assoc more (reads ++ first) earlier ∙ ap (λ (b : List DiskCall). more ++ b) (append_assoc reads first earlier))

on_up_to_after : (first earlier : List DiskCall) (moments : List Moment) (seat : Seat) (older middle newer : Option DiskState) → came_to middle false ≡ runs_on earlier older → ReadsOnUpTo first moments seat middle newer → ReadsOnUpTo (first ++ earlier) moments seat older newer
on_up_to_after first earlier moments seat older middle newer is read = record {
  reads = read.reads;
  passed = read.passed;
  closed = read.closed;
  came = after_runs (gate_reads seat false) read.reads first earlier false older middle newer is read.came;
}

fails_after : (first earlier : List DiskCall) (moments : List Moment) (older middle newer : Option DiskState) → came_to middle false ≡ runs_on earlier older → FailsReading first moments middle newer → FailsReading (first ++ earlier) moments older newer
fails_after first earlier moments older middle newer is (inl came) = inl (then_runs first earlier older middle newer true is came)
fails_after first earlier moments older middle newer is (inr read) = inr (record {
  seat = read.seat;
  moved = read.moved;
  reads = read.reads;
  passed = read.passed;
  marked = read.marked;
  came = after_runs (gate_reads read.seat read.moved) read.reads first earlier true older middle newer is read.came;
})

on_to_after : (first earlier : List DiskCall) (moments : List Moment) (place : ℕ) (older middle newer : Option DiskState) → came_to middle false ≡ runs_on earlier older → ReadsOnTo first moments place middle newer → ReadsOnTo (first ++ earlier) moments place older newer
on_to_after first earlier moments place older middle newer is (inl head) = inl (head.0, then_runs first earlier older middle newer false is head.1)
on_to_after first earlier moments place older middle newer is (inr read) = inr (record {
  seat = read.seat;
  moved = read.moved;
  reads = read.reads;
  passed = read.passed;
  marked = read.marked;
  from_gate = read.from_gate;
  within = read.within;
  came = after_runs (gate_reads read.seat read.moved) read.reads first earlier false older middle newer is read.came;
})

untold_before : (earlier : List DiskCall) (older middle : Option DiskState) → came_to middle false ≡ runs_on earlier older → middle ≡ None → older ≡ None
untold_before earlier None middle is none = refl
untold_before earlier (Some disk) None is none = cc
untold_before earlier (Some disk) (Some other) is none = cc

pub gates_after : (first earlier : List DiskCall) (moments : List Moment) (result : Result StoreState StoreError) (older middle newer : Option DiskState) → came_to middle false ≡ runs_on earlier older → ReadsGatesFrom first moments result middle newer → ReadsGatesFrom (first ++ earlier) moments result older newer
gates_after first earlier moments (Ok store) older middle newer is read = on_up_to_after first earlier moments store.seat older middle newer is read
gates_after first earlier moments (Err Fault) older middle newer is read = fails_after first earlier moments older middle newer is read
gates_after first earlier moments (Err (Taken len)) older middle newer is read = read
gates_after first earlier moments (Err (Broken place byte)) older middle newer is read = on_to_after first earlier moments place older middle newer is read
gates_after first earlier moments (Err (OtherKey place byte)) older middle newer is read = (read.0, on_up_to_after first earlier moments read.0 older middle newer is read.1)
gates_after first earlier moments (Err OutOfMemory) older middle newer is read = untold_before earlier older middle is read

-- a head that is refused
pub head_refused_on : (error : StoreError) (moments : List Moment) (older newer : Option DiskState) → RefusedInHead {T = Seat} (Err error) → came_to newer (is_fault {T = Seat} (Err error)) ≡ runs_on (ToRead 0 header_length ∷ []) older → ReadsGatesFrom (ToRead 0 header_length ∷ []) moments (Err error) older newer
head_refused_on Fault moments older newer refused is = inl is
head_refused_on (Taken len) moments older newer refused is = refused
head_refused_on (Broken place byte) moments older newer refused is = inl (refused, is)
head_refused_on (OtherKey place byte) moments older newer refused is = absurd refused
head_refused_on OutOfMemory moments older newer refused is = absurd refused

-- a file that was not opened
pub unopened_to_read : (name : List ℕ) (moments : List Moment) (error : StoreError) (older newer : Option DiskState) → OpensFile name older newer (Err error) → ReadsGatesFrom (open_calls name) moments (Err error) older newer
unopened_to_read name moments Fault older newer opened = inl (runs_on_no_further (ToRead 0 header_length ∷ ToSync ∷ []) (ToOpen name ∷ []) older newer opened)
unopened_to_read name moments (Taken len) older newer opened = opened
unopened_to_read name moments (Broken place byte) older newer opened = absurd opened
unopened_to_read name moments (OtherKey place byte) older newer opened = absurd opened
unopened_to_read name moments OutOfMemory older newer opened = opened

-- a sync that failed before anything was read
pub unsynced_to_read : (name : List ℕ) (moments : List Moment) (older middle newer : Option DiskState) → came_to middle false ≡ runs_on (ToOpen name ∷ []) older → came_to newer true ≡ runs_on (ToSync ∷ []) middle → ReadsGatesFrom (open_calls name) moments (Err Fault) older newer
unsynced_to_read name moments older middle newer opened synced =
    inl (runs_on_no_further (ToRead 0 header_length ∷ []) (ToSync ∷ ToOpen name ∷ []) older newer (then_runs (ToSync ∷ []) (ToOpen name ∷ []) older middle newer true opened synced))

-- ---- a file with the same contents was read

passes_same : (a b : List Moment) (first : Seat) (entries : List Entry) → SettlesAs same a b → PassesIn b first entries → PassesIn a first entries
passes_same [] b first entries settles passes = tt
passes_same (was ∷ older) [] first entries settles passes = absurd settles
passes_same (was ∷ older) (now ∷ past) first entries settles passes = subst (λ (image : List ℕ). Passes image first entries) (ap (λ (m : Moment). m.image) settles) passes

passed_same : (a b : List Moment) (seat : Seat) (reads : List DiskCall) → SettlesAs same a b → Passed b seat reads → Passed a seat reads
passed_same a b seat reads settles p = record { first = p.first; entries = p.entries; begins = p.begins; passes = passes_same a b p.first p.entries settles p.passes; ends = p.ends; are = p.are }

closed_same : (a b : List Moment) (seat : Seat) → SettlesAs same a b → ClosedIn b seat → ClosedIn a seat
closed_same [] b seat settles closed = tt
closed_same (was ∷ older) [] seat settles closed = absurd settles
closed_same (was ∷ older) (now ∷ past) seat settles closed = subst (λ (image : List ℕ). IsClosed (drop seat.gate image)) (ap (λ (m : Moment). m.image) settles) closed

marked_same : (a b : List Moment) (seat : Seat) (moved : Bool) → SettlesAs same a b → ReadsMark b seat moved → ReadsMark a seat moved
marked_same [] b seat moved settles marked = tt
marked_same (was ∷ older) [] seat moved settles marked = absurd settles
marked_same (was ∷ older) (now ∷ past) seat moved settles marked = subst (λ (image : List ℕ). MarkedIn image seat moved) (ap (λ (m : Moment). m.image) settles) marked

up_to_same : (first : List DiskCall) (a b : List Moment) (seat : Seat) (older newer : Option (List DiskCall)) → SettlesAs same a b → ReadsUpTo first b seat older newer → ReadsUpTo first a seat older newer
up_to_same first a b seat older newer settles r = record { reads = r.reads; passed = passed_same a b seat r.reads settles r.passed; closed = closed_same a b seat settles r.closed; made = r.made }

pub calls_same : (first : List DiskCall) (a b : List Moment) (result : Result StoreState StoreError) (older newer : Option (List DiskCall)) → SettlesAs same a b → ReadsGates first b result older newer → ReadsGates first a result older newer
calls_same first a b (Ok store) older newer settles read = up_to_same first a b store.seat older newer settles read
calls_same first a b (Err Fault) older newer settles (inl far) = inl far
calls_same first a b (Err Fault) older newer settles (inr r) = inr (record { seat = r.seat; moved = r.moved; reads = r.reads; passed = passed_same a b r.seat r.reads settles r.passed; marked = marked_same a b r.seat r.moved settles r.marked; made = r.made })
calls_same first a b (Err (Taken len)) older newer settles read = read
calls_same first a b (Err (Broken place byte)) older newer settles (inl head) = inl head
calls_same first a b (Err (Broken place byte)) older newer settles (inr r) = inr (record { seat = r.seat; moved = r.moved; reads = r.reads; passed = passed_same a b r.seat r.reads settles r.passed; marked = marked_same a b r.seat r.moved settles r.marked; from_gate = r.from_gate; within = r.within; made = r.made })
calls_same first a b (Err (OtherKey place byte)) older newer settles read = (read.0, up_to_same first a b read.0 older newer settles read.1)
calls_same first a b (Err OutOfMemory) older newer settles read = read

on_up_to_same : (first : List DiskCall) (a b : List Moment) (seat : Seat) (older newer : Option DiskState) → SettlesAs same a b → ReadsOnUpTo first b seat older newer → ReadsOnUpTo first a seat older newer
on_up_to_same first a b seat older newer settles r = record { reads = r.reads; passed = passed_same a b seat r.reads settles r.passed; closed = closed_same a b seat settles r.closed; came = r.came }

pub gates_same : (first : List DiskCall) (a b : List Moment) (result : Result StoreState StoreError) (older newer : Option DiskState) → SettlesAs same a b → ReadsGatesFrom first b result older newer → ReadsGatesFrom first a result older newer
gates_same first a b (Ok store) older newer settles read = on_up_to_same first a b store.seat older newer settles read
gates_same first a b (Err Fault) older newer settles (inl came) = inl came
gates_same first a b (Err Fault) older newer settles (inr r) = inr (record { seat = r.seat; moved = r.moved; reads = r.reads; passed = passed_same a b r.seat r.reads settles r.passed; marked = marked_same a b r.seat r.moved settles r.marked; came = r.came })
gates_same first a b (Err (Taken len)) older newer settles read = read
gates_same first a b (Err (Broken place byte)) older newer settles (inl head) = inl head
gates_same first a b (Err (Broken place byte)) older newer settles (inr r) = inr (record { seat = r.seat; moved = r.moved; reads = r.reads; passed = passed_same a b r.seat r.reads settles r.passed; marked = marked_same a b r.seat r.moved settles r.marked; from_gate = r.from_gate; within = r.within; came = r.came })
gates_same first a b (Err (OtherKey place byte)) older newer settles read = (read.0, on_up_to_same first a b read.0 older newer settles read.1)
gates_same first a b (Err OutOfMemory) older newer settles read = read
