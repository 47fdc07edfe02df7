-- What is reported of signatures, and what becomes of the key.
use Rattle.std.proofs.Common.{◌≡◌, ℕ, Bool, true, false, inl, inr, List, [], ◌∷◌, ◌++◌, length, map, refl, ap, sym, ◌∙◌, subst, append_assoc, arith, Result, Ok, Err}
use Rattle.std.specs.Prelude.{IfErr, OnOk}
use Rattle.std.proofs.lemmas.Bool.{cases_Bool, false≢true}
use Rattle.std.proofs.lemmas.List.{length-append}
use Rattle.ports.specs.Disk.{Moment}
use Rattle.ff_ids.specs.Steps.{Report}
use Rattle.records.specs.declared.Body.{Body}
use Rattle.signer.specs.Signing.{SignerState}
use Rattle.signer.specs.Lives.{Spent}
pub use Rattle.signer.proofs.OnwardLemmas.{lives-same, lives-signed, lives-trans}
use Rattle.journal.specs.declared.event.Event as journal
use Rattle.journal.specs.declared.event.What as whats
use Rattle.journal.specs.declared.event.What.TheVariants as told
use Rattle.node_rules.specs.Calls.{told_of}
use Rattle.node_core.specs.declared.NodeFault.{NodeFault}
use Rattle.node_core.specs.declared.NodeFault.TheVariants as faults
use Rattle.node_core.specs.Told.{Tellings, Adds, IsPrefix, with_event, with_report, with_sent}
use Rattle.node_core.specs.Playing.{Kept, Grows}
use Rattle.node_core.specs.Spending.{spent_by, spent_told, LivesOn, SignsNothing, IsAllButLast, TellsOf, TellsSpent, Spends, TellsSo, SpendsIn, SpendsUntold, StartSpends}
use Rattle.node_core.proofs.TellingLemmas.{nil-right, append-cancel, map-append}

-- ---- what events report

pub told-append : (xs ys : List journal.Event) → spent_told (xs ++ ys) ≡ spent_told xs ++ spent_told ys
told-append [] ys = refl
told-append (e ∷ xs) ys = ap (λ (l : List Spent). spent_by e.what ++ l) (told-append xs ys) ∙ sym (append_assoc (spent_by e.what) (spent_told xs) (spent_told ys))

pub front-told : (xs ys : List journal.Event) → IsPrefix xs ys → IsPrefix (spent_told xs) (spent_told ys)
front-told xs ys h = record { more = spent_told h.more; is = ap spent_told h.is ∙ told-append xs h.more }

left-none : (xs ys : List Spent) → [] ≡ xs ++ ys → xs ≡ []
left-none [] ys e = refl
left-none (x ∷ xs) ys e = cc

-- what adds a front of events that report no signature
pub told-none : (old new due : List journal.Event) → IsPrefix old new → IsPrefix new (old ++ due) → spent_told due ≡ [] → spent_told new ≡ spent_told old
told-none old new due a b none =
    let split : due ≡ a.more ++ b.more = append-cancel old due (a.more ++ b.more) (b.is ∙ ap (λ (z : List journal.Event). z ++ b.more) a.is ∙ append_assoc old a.more b.more) in
    let empty : spent_told a.more ≡ [] = left-none (spent_told a.more) (spent_told b.more) (sym none ∙ ap spent_told split ∙ told-append a.more b.more) in
    ap spent_told a.is ∙ told-append old a.more ∙ ap (λ (z : List Spent). spent_told old ++ z) empty ∙ nil-right (spent_told old)

event-told : (moment : ℕ) (what : whats.What) → spent_told (record { moment = moment; what = what } ∷ []) ≡ spent_by what
event-told moment what = nil-right (spent_by what)

map-none : {X : Type 0} (moment : ℕ) (f : X → whats.What) (xs : List X) → ((x : X) → spent_by (f x) ≡ []) → spent_told (map (λ what. record { moment = moment; what = what }) (map f xs)) ≡ []
map-none moment f [] none = refl
map-none moment f (x ∷ xs) none = ap (λ (z : List Spent). z ++ spent_told (map (λ what. record { moment = moment; what = what }) (map f xs))) (none x) ∙ map-none moment f xs none

both-none : (moment : ℕ) (xs ys : List whats.What) → spent_told (map (λ what. record { moment = moment; what = what }) xs) ≡ [] → spent_told (map (λ what. record { moment = moment; what = what }) ys) ≡ []
    → spent_told (map (λ what. record { moment = moment; what = what }) (xs ++ ys)) ≡ []
both-none moment xs ys a b =
    let ev : whats.What → journal.Event = λ what. record { moment = moment; what = what } in
    ap spent_told (map-append ev xs ys) ∙ told-append (map ev xs) (map ev ys) ∙ ap (λ (z : List Spent). z ++ spent_told (map ev ys)) a ∙ b

-- no report is of a signature
pub report-none : (moment : ℕ) (r : Report) → spent_told (told_of moment r) ≡ []
report-none moment r =
    let expired = map told.Expired r.expired in
    let removed = map told.Removed r.removed in
    let entered = map told.Entered r.entered in
    both-none moment (expired ++ removed ++ entered) (map told.Fell r.fell)
    (both-none moment (expired ++ removed) entered
    (both-none moment expired removed (map-none moment told.Expired r.expired (λ x. refl)) (map-none moment told.Removed r.removed (λ x. refl)))
    (map-none moment told.Entered r.entered (λ x. refl)))
    (map-none moment told.Fell r.fell (λ x. refl))

pub event-none : (moment : ℕ) (what : whats.What) (a b : Tellings) → Adds (with_event moment what) a b → spent_by what ≡ [] → spent_told b.events ≡ spent_told a.events
event-none moment what a b adds none = told-none a.events b.events (record { moment = moment; what = what } ∷ []) adds.events adds.events_due (event-told moment what ∙ none)

pub changes-none : (moment : ℕ) (r : Report) (a b : Tellings) → Adds (with_report moment r) a b → spent_told b.events ≡ spent_told a.events
changes-none moment r a b adds = told-none a.events b.events (told_of moment r) adds.events adds.events_due (report-none moment r)

pub sent-none : (moment : ℕ) (bytes : List ℕ) (to : ℕ) (a b : Tellings) → Adds (with_sent moment bytes to) a b → spent_told b.events ≡ spent_told a.events
sent-none moment bytes to a b adds = told-none a.events b.events _ adds.events adds.events_due refl

-- one more, or it is the last that lacks
but-last : (a b : List Spent) (x : Spent) → IsPrefix a b → IsPrefix b (a ++ x ∷ []) → IsAllButLast b (a ++ x ∷ [])
but-last a b x p q = record { last = q.more; is = q.is; one = omega (arith, ap length q.is, ap length p.is, length-append a (x ∷ []), length-append b q.more, length-append a p.more) }

pub event-spent : (moment index : ℕ) (body : Body) (a b : Tellings) → Adds (with_event moment (told.Spent index body)) a b → TellsOf (record { index = index; body = body } ∷ []) a.events b.events b.failed
event-spent moment index body a b adds =
    let due : journal.Event = record { moment = moment; what = told.Spent index body } in
    let whole = told-append a.events (due ∷ []) in
    record {
      all = λ fine. ap (λ (t : Tellings). spent_told t.events) (adds.going fine).1 ∙ whole;
      front = but-last (spent_told a.events) (spent_told b.events) _ (front-told a.events b.events adds.events) (subst (λ (z : List Spent). IsPrefix (spent_told b.events) z) whole (front-told b.events (a.events ++ due ∷ []) adds.events_due));
    }

-- ---- steps

pub nothing-trans : (a b c : Kept) → SignsNothing a b → SignsNothing b c → SignsNothing a c
nothing-trans a b c p q = record { signer = q.signer ∙ p.signer; told_none = q.told_none ∙ p.told_none }

pub spent-then : (index : ℕ) (body : Body) (a b c : Kept) → TellsSpent index body a b → SignsNothing b c → (c.telling.failed ≡ false → b.telling.failed ≡ false) → TellsSpent index body a c
spent-then index body a b c p q going = record {
  signer = q.signer ∙ p.signer;
  tells = record {
    all = λ fine. q.told_none ∙ p.tells.all (going fine);
    front = subst (λ (z : List Spent). IsAllButLast z (spent_told a.telling.events ++ record { index = index; body = body } ∷ [])) (sym q.told_none) p.tells.front;
  };
}

-- a step that signs nothing, beside the disk
pub spends-none : (a b : Kept) (moments : List Moment) → SignsNothing a b → Spends a b moments moments
spends-none a b moments h = record {
  spent = [];
  tells = record {
    all = λ fine. h.told_none ∙ sym (nil-right (spent_told a.telling.events));
    front = record { last = []; is = refl ∙ ap (λ (z : List Spent). z ++ []) (sym h.told_none); one = omega arith };
  };
  key = lives-same a.signer b.signer moments h.signer;
  idle = λ failed. record { spent_none = refl; signer = h.signer; moments = refl };
}

-- memory stays refused
pub still-failed : (a b : Kept) → Grows a b → a.telling.failed ≡ true → b.telling.failed ≡ true
still-failed a b grows failed = ap (λ (t : Tellings). t.failed) (grows.stuck failed) ∙ failed

pub spends-after : (a b c : Kept) (x y : List Moment) → SignsNothing a b → (a.telling.failed ≡ true → b.telling.failed ≡ true) → Spends b c x y → Spends a c x y
spends-after a b c x y p still q = record {
  spent = q.spent;
  tells = record {
    all = λ fine. q.tells.all fine ∙ ap (λ (z : List Spent). z ++ q.spent) p.told_none;
    front = subst (λ (z : List Spent). IsAllButLast (spent_told c.telling.events) (z ++ q.spent)) p.told_none q.tells.front;
  };
  key = subst (λ (s : SignerState). LivesOn q.spent s c.signer x y) p.signer q.key;
  idle = λ failed. let i = q.idle (still failed) in record { spent_none = i.spent_none; signer = i.signer ∙ p.signer; moments = i.moments };
}

pub spends-before : (a b c : Kept) (x y : List Moment) → Spends a b x y → SignsNothing b c → (c.telling.failed ≡ false → b.telling.failed ≡ false) → Spends a c x y
spends-before a b c x y p q going = record {
  spent = p.spent;
  tells = record {
    all = λ fine. q.told_none ∙ p.tells.all (going fine);
    front = subst (λ (z : List Spent). IsAllButLast z (spent_told a.telling.events ++ p.spent)) (sym q.told_none) p.tells.front;
  };
  key = subst (λ (s : SignerState). LivesOn p.spent a.signer s x y) (sym q.signer) p.key;
  idle = λ failed. let i = p.idle failed in record { spent_none = i.spent_none; signer = q.signer ∙ i.signer; moments = i.moments };
}

pub spends-trans : (a b c : Kept) (x y z : List Moment) → Grows a b → Spends a b x y → Grows b c → Spends b c y z → Spends a c x z
spends-trans a b c x y z first p grows q = record {
  spent = p.spent ++ q.spent;
  tells = record {
    all = λ fine. q.tells.all fine ∙ ap (λ (w : List Spent). w ++ q.spent) (p.tells.all (grows.going fine)) ∙ append_assoc (spent_told a.telling.events) p.spent q.spent;
    front = elim (cases_Bool b.telling.failed) [
      | inl failed ↦
          let same : spent_told c.telling.events ≡ spent_told b.telling.events = ap (λ (t : Tellings). spent_told t.events) (grows.stuck failed) in
          let none : p.spent ++ q.spent ≡ p.spent = ap (λ (l : List Spent). p.spent ++ l) (q.idle failed).spent_none ∙ nil-right p.spent in
          subst (λ (w : List Spent). IsAllButLast w (spent_told a.telling.events ++ (p.spent ++ q.spent))) (sym same) (subst (λ (l : List Spent). IsAllButLast (spent_told b.telling.events) (spent_told a.telling.events ++ l)) (sym none) p.tells.front)
      | inr fine ↦
          let whole : spent_told b.telling.events ++ q.spent ≡ spent_told a.telling.events ++ (p.spent ++ q.spent) = ap (λ (w : List Spent). w ++ q.spent) (p.tells.all fine) ∙ append_assoc (spent_told a.telling.events) p.spent q.spent in
          subst (λ (w : List Spent). IsAllButLast (spent_told c.telling.events) w) whole q.tells.front
    ];
  };
  key = lives-trans p.spent q.spent a.signer b.signer c.signer x y z p.key q.key;
  idle = λ failed.
      let i = p.idle failed in
      let j = q.idle (still-failed a b first failed) in
      record { spent_none = ap (λ (l : List Spent). l ++ q.spent) i.spent_none ∙ j.spent_none; signer = j.signer ∙ i.signer; moments = j.moments ∙ i.moments };
}

pub nothing-same : (a : Kept) → SignsNothing a a
nothing-same a = record { signer = refl; told_none = refl }

-- the signature was made, and is reported
pub signed-spends : (v w v1 : Kept) (later : SignerState) (x y : List Moment) (index : ℕ) (said body : Body) → v ≡ w → v.telling.failed ≡ false → index ≡ v.signer.state.next → said ≡ body
    → LivesOn (record { index = v.signer.state.next; body = body } ∷ []) v.signer later x y → TellsSpent index said (record v { signer = later }) v1 → Spends w v1 x y
signed-spends v w v1 later x y index said body view fine at is lives h =
    subst (λ (a : Kept). Spends a v1 x y) view (
    let one : ℕ → Body → List Spent = λ k b. record { index = k; body = b } ∷ [] in
    let same : one index said ≡ one v.signer.state.next body = ap (λ (k : ℕ). one k said) at ∙ ap (λ (b : Body). one v.signer.state.next b) is in
    record {
      spent = one v.signer.state.next body;
      tells = subst (λ (spent : List Spent). TellsOf spent v.telling.events v1.telling.events v1.telling.failed) same (record { all = h.tells.all; front = h.tells.front });
      key = subst (λ (s : SignerState). LivesOn (one v.signer.state.next body) v.signer s x y) (sym h.signer) lives;
      idle = λ failed. absurd (false≢true (sym fine ∙ failed));
    })

-- no signature was made
pub unsigned-spends : (v w v1 : Kept) (later : SignerState) (x y : List Moment) → v ≡ w → v.telling.failed ≡ false → LivesOn [] v.signer later x y → SignsNothing (record v { signer = later }) v1 → Spends w v1 x y
unsigned-spends v w v1 later x y view fine lives h =
    subst (λ (a : Kept). Spends a v1 x y) view
    (record {
      spent = [];
      tells = record {
        all = λ fine. h.told_none ∙ sym (nil-right (spent_told v.telling.events));
        front = record { last = []; is = ap (λ (z : List Spent). z ++ []) (sym h.told_none); one = omega arith };
      };
      key = subst (λ (s : SignerState). LivesOn [] v.signer s x y) (sym h.signer) lives;
      idle = λ failed. absurd (false≢true (sym fine ∙ failed));
    })

-- memory was refused
pub refused-none : (v w v1 : Kept) → v ≡ w → v1.signer ≡ v.signer → v1.telling ≡ record v.telling { failed = true } → SignsNothing w v1
refused-none v w v1 view signer telling =
    subst (λ (a : Kept). SignsNothing a v1) view (record { signer = signer; told_none = ap (λ (t : Tellings). spent_told t.events) telling })

-- ---- a call

pub tells-so : {T : Type 0} (result : Result T NodeFault) (failed : Bool) (before after added : List journal.Event) (spent : List Spent) → after ≡ before ++ added → TellsOf spent before after failed
    → (failed ≡ true → IsAllButLast (spent_told added) spent → TellsSo result spent (spent_told added)) → (failed ≡ false → spent_told added ≡ spent → TellsSo result spent (spent_told added)) → TellsSo result spent (spent_told added)
tells-so result failed before after added spent is tells whenever fine =
    let whole : spent_told after ≡ spent_told before ++ spent_told added = ap spent_told is ∙ told-append before added in
    elim (cases_Bool failed) [
      | inl refused ↦
          let h = tells.front in
          whenever refused (record { last = h.last; is = append-cancel (spent_told before) spent (spent_told added ++ h.last) (h.is ∙ ap (λ (z : List Spent). z ++ h.last) whole ∙ append_assoc (spent_told before) (spent_told added) h.last); one = h.one })
      | inr ok ↦ fine ok (append-cancel (spent_told before) (spent_told added) spent (sym whole ∙ tells.all ok))
    ]

tells-done : (result : Result (Unit {0}) NodeFault) (spent said : List Spent) → IfErr result (λ e. e ≡ faults.StoreFault) → said ≡ spent → TellsSo result spent said
tells-done (Ok x) spent said cause same = same
tells-done (Err e) spent said cause same = subst (λ (f : NodeFault). TellsSo {T = Unit {0}} (Err f) spent said) (sym cause) same

pub call-spends : (w : Kept) (v0 v1 v2 : Kept) (x y : List Moment) (done answer : Result (Unit {0}) NodeFault) (before after : List journal.Event) → v0.signer ≡ w.signer → v0.telling.events ≡ before → Spends v0 v1 x y → Grows v0 v1
    → IfErr done (λ e. e ≡ faults.StoreFault) → (v1.telling.failed ≡ true → answer ≡ Err faults.OutOfMemory) → (v1.telling.failed ≡ false → answer ≡ done)
    → v2 ≡ record v1 { telling = v2.telling; ended = v2.ended } → after ≡ v1.telling.events → SpendsIn answer w.signer v2.signer x y before after
call-spends w v0 v1 v2 x y done answer before after view from spends grows cause memory going frame given =
    let added : List journal.Event = grows.events.more in
    let tells : TellsOf spends.spent before v1.telling.events v1.telling.failed = subst (λ (es : List journal.Event). TellsOf spends.spent es v1.telling.events v1.telling.failed) from spends.tells in
    let is : v1.telling.events ≡ before ++ added = grows.events.is ∙ ap (λ (es : List journal.Event). es ++ added) from in
    record {
      spent = spends.spent;
      added = added;
      after_is = given ∙ is;
      tells = tells-so answer v1.telling.failed before v1.telling.events added spends.spent is tells
          (λ failed front. subst (λ (r : Result (Unit {0}) NodeFault). TellsSo r spends.spent (spent_told added)) (sym (memory failed)) front)
          (λ fine same. subst (λ (r : Result (Unit {0}) NodeFault). TellsSo r spends.spent (spent_told added)) (sym (going fine)) (tells-done done spends.spent (spent_told added) cause same));
      key = subst (λ (s : SignerState). LivesOn spends.spent s v2.signer x y) view (subst (λ (s : SignerState). LivesOn spends.spent v0.signer s x y) (sym (ap (λ (v : Kept). v.signer) frame)) spends.key);
    }

-- what a call's own events report, where they are what was added
pub spent-of_call : {T : Type 0} (result : Result T NodeFault) (s later : SignerState) (x y : List Moment) (before after told : List journal.Event) (h : SpendsIn result s later x y before after) → after ≡ before ++ told → TellsSo result h.spent (spent_told told)
spent-of_call result s later x y before after told h given =
    subst (λ (es : List journal.Event). TellsSo result h.spent (spent_told es)) (append-cancel before h.added told (sym h.after_is ∙ given)) h.tells

-- a call that does nothing
pub idle-spends : {T : Type 0} (result : Result T NodeFault) (s later : SignerState) (x y : List Moment) (before after : List journal.Event) → TellsSo result [] [] → later ≡ s → y ≡ x → after ≡ before → SpendsIn result s later x y before after
idle-spends result s later x y before after tells signer moments same = record {
  spent = [];
  added = [];
  after_is = same ∙ sym (nil-right before);
  tells = tells;
  key = subst (λ (z : List Moment). LivesOn [] s later x z) (sym moments) (lives-same s later x signer);
}

-- ---- the start of a life

-- the first note is reported, and the life goes on with its key
pub start-spends : (s signer : SignerState) (node : Kept) (x y : List Moment) (spent : List Spent) (over before told_by after : List journal.Event) (failed : Bool)
    → LivesOn spent s signer x y → node.signer ≡ signer → over ≡ before → TellsOf spent over told_by failed → failed ≡ false → IsPrefix over told_by → after ≡ told_by → StartSpends s x y before after (Ok node)
start-spends s signer node x y spent over before told_by after failed lives same from tells fine front given = record {
  spent = spent;
  added = front.more;
  after_is = given ∙ front.is ∙ ap (λ (es : List journal.Event). es ++ front.more) from;
  tells = append-cancel (spent_told over) (spent_told front.more) spent (sym (told-append over front.more) ∙ sym (ap spent_told front.is) ∙ tells.all fine);
  key = subst (λ (x1 : SignerState). LivesOn spent s x1 x y) (sym same) lives;
}

none-untold : (fault : NodeFault) → TellsSo {T = Unit {0}} (Err fault) [] []
none-untold faults.StoreFault = refl
none-untold faults.OutOfMemory = record { last = []; is = refl; one = omega arith }
none-untold (faults.Exhausted next) = refl
none-untold faults.Ended = refl

-- nothing was signed
pub unsigned-untold : (fault : NodeFault) (s later : SignerState) (x y : List Moment) → LivesOn [] s later x y → SpendsUntold fault s x y
unsigned-untold fault s later x y lives = record { later = later; spent = []; tells = none-untold fault; key = lives }

-- memory was refused behind the signature
pub signed-untold : (s later : SignerState) (x y : List Moment) (one : Spent) → LivesOn (one ∷ []) s later x y → SpendsUntold faults.OutOfMemory s x y
signed-untold s later x y one lives = record { later = later; spent = one ∷ []; tells = record { last = one ∷ []; is = refl; one = omega arith }; key = lives }

-- the first note, by its index
pub first-lives : (s later : SignerState) (x y : List Moment) (index : ℕ) (said body : Body) → index ≡ s.state.next → said ≡ body → LivesOn (record { index = s.state.next; body = body } ∷ []) s later x y → LivesOn (record { index = index; body = said } ∷ []) s later x y
first-lives s later x y index said body at is lives =
    let one : ℕ → Body → List Spent = λ k b. record { index = k; body = b } ∷ [] in
    let same : one index said ≡ one s.state.next body = ap (λ (k : ℕ). one k said) at ∙ ap (λ (b : Body). one s.state.next b) is in
    subst (λ (spent : List Spent). LivesOn spent s later x y) (sym same) lives

-- ---- the signer is open as before

-- where the answer is Ok it is so behind what leaves it
pub open-further : {T : Type 0} (result : Result T NodeFault) (a b c : Bool) → OnOk result (c ≡ b) → b ≡ a → OnOk result (c ≡ a)
open-further (Ok x) a b c h e = h ∙ e
open-further (Err fault) a b c h e = record {}

-- a call that is answered was done
pub open-by : (done answer : Result (Unit {0}) NodeFault) (failed a b c : Bool) → OnOk done (b ≡ a) → c ≡ b → (failed ≡ true → answer ≡ Err faults.OutOfMemory) → (failed ≡ false → answer ≡ done) → OnOk answer (c ≡ a)
open-by done answer failed a b c h same memory going =
    elim (cases_Bool failed) [
      | inl is ↦ subst (λ (r : Result (Unit {0}) NodeFault). OnOk r (c ≡ a)) (sym (memory is)) (record {})
      | inr fine ↦ subst (λ (r : Result (Unit {0}) NodeFault). OnOk r (c ≡ a)) (sym (going fine)) (subst (λ (x : Bool). OnOk done (x ≡ a)) (sym same) h)
    ]
