-- Where memory was refused: a front of what a call reports and sends.
use Rattle.std.proofs.Common.{◌≡◌, ℕ, Bool, true, false, inl, inr, List, [], ◌++◌, ap, sym, ◌∙◌, subst, Result, Ok, Err}
use Rattle.std.proofs.lemmas.Bool.{cases_Bool, false≢true}
use Rattle.journal.specs.declared.event.Event as journal
use Rattle.node_rules.specs.Nodes.{Setting}
use Rattle.node_rules.specs.Calls.{Call}
use Rattle.validate.specs.Certified.{certificate_of as kept_certificate}
use Rattle.node_core.specs.declared.NodeFault.{NodeFault}
use Rattle.node_core.specs.Told.{Tellings, Adds, IsPrefix}
use Rattle.node_core.specs.Playing.{Kept, IsAt, IsBehind, Plays, Stops, Extends, Grows}
use Rattle.node_core.specs.Signatures.{Runs}
use Rattle.node_core.proofs.TellingLemmas.{nil-right, front-trans, front-after}

pub behind-extends : (es : List journal.Event) (os : List (ℕ × List ℕ)) (v : Kept) (c d : Call) → IsBehind es os v c → Extends c d → IsBehind es os v d
behind-extends es os v c d h further = record {
  told = front-trans v.telling.events (es ++ c.told) (es ++ d.told) h.told (front-after es c.told d.told further.told);
  sent = front-trans v.telling.sent (os ++ c.sent) (os ++ d.sent) h.sent (front-after os c.sent d.sent further.sent);
}

-- where the same is reported and sent
pub behind-same : (es : List journal.Event) (os : List (ℕ × List ℕ)) (v w : Kept) (c : Call) → w.telling.events ≡ v.telling.events → w.telling.sent ≡ v.telling.sent → IsBehind es os v c → IsBehind es os w c
behind-same es os v w c events sent h = record {
  told = subst (λ (xs : List journal.Event). IsPrefix xs (es ++ c.told)) (sym events) h.told;
  sent = subst (λ (xs : List (ℕ × List ℕ)). IsPrefix xs (os ++ c.sent)) (sym sent) h.sent;
}

whole-front : {X : Type 0} (xs ys : List X) → xs ≡ ys → IsPrefix xs ys
whole-front xs ys same = record { more = []; is = sym same ∙ sym (nil-right xs) }

-- all of it is reported and sent
pub plays-at : (s : Setting) (es : List journal.Event) (os : List (ℕ × List ℕ)) (v : Kept) (c : Call) → IsAt s es os v c → Plays s es os v c
plays-at s es os v c h = record { at = λ fine. h; due = record { told = whole-front v.telling.events (es ++ c.told) h.told; sent = whole-front v.telling.sent (os ++ c.sent) h.sent } }

-- what was due is what the call reports and sends
pub behind-due : (es : List journal.Event) (os : List (ℕ × List ℕ)) (w : Kept) (d : Call) (f : Tellings → Tellings) (t : Tellings) → Adds f t w.telling → (f t).events ≡ es ++ d.told → (f t).sent ≡ os ++ d.sent → IsBehind es os w d
behind-due es os w d f t adds told sent = record {
  told = subst (λ (xs : List journal.Event). IsPrefix w.telling.events xs) told adds.events_due;
  sent = subst (λ (xs : List (ℕ × List ℕ)). IsPrefix w.telling.sent xs) sent adds.sent_due;
}

-- nothing was added, since memory was refused before
behind-stuck : (es : List journal.Event) (os : List (ℕ × List ℕ)) (v w : Kept) (c d : Call) → v.telling.failed ≡ true → Grows v w → IsBehind es os v c → Extends c d → IsBehind es os w d
behind-stuck es os v w c d failed grows h further =
    let same = grows.stuck failed in
    behind-extends es os w c d (behind-same es os v w c (ap (λ (t : Tellings). t.events) same) (ap (λ (t : Tellings). t.sent) same) h) further

refused : (v w : Kept) → v.telling.failed ≡ true → Grows v w → w.telling.failed ≡ false → ⊥
refused v w failed grows fine = false≢true (sym (grows.going fine) ∙ failed)

-- a call that ends, since memory was refused
pub plays-stuck : (s : Setting) (es : List journal.Event) (os : List (ℕ × List ℕ)) (v : Kept) (c d : Call) → v.telling.failed ≡ true → Plays s es os v c → Extends c d → Plays s es os v d
plays-stuck s es os v c d failed p further = record { at = λ fine. absurd (false≢true (sym fine ∙ failed)); due = behind-extends es os v c d p.due further }

-- a step that is the definition's, unless memory was refused before
pub from-fine : (s : Setting) (es : List journal.Event) (os : List (ℕ × List ℕ)) (v w : Kept) (c d : Call) → Plays s es os v c → Grows v w → Extends c d → (IsAt s es os v c → Plays s es os w d) → Plays s es os w d
from-fine s es os v w c d p grows further step =
    elim (cases_Bool v.telling.failed) [
      | inl failed ↦ record { at = λ fine. absurd (refused v w failed grows fine); due = behind-stuck es os v w c d failed grows p.due further }
      | inr fine ↦ step (p.at fine)
    ]

abbrev pub Ran : Setting → List journal.Event → List (ℕ × List ℕ) → Kept → (Bool → Call) → Result (Unit {0}) NodeFault → Type 0
Ran s es os v call r = Runs (Plays s es os v) (Stops s es os v) call r

ran-stuck : (s : Setting) (es : List journal.Event) (os : List (ℕ × List ℕ)) (v w : Kept) (c : Call) (call : Bool → Call) (r : Result (Unit {0}) NodeFault) → v.telling.failed ≡ true → Grows v w → IsBehind es os v c → Extends c (call true) → Ran s es os w call r
ran-stuck s es os v w c call (Ok x) failed grows h further = record { at = λ fine. absurd (refused v w failed grows fine); due = behind-stuck es os v w c (call true) failed grows h further }
ran-stuck s es os v w c call (Err e) failed grows h further =
    record { at = λ fine. absurd (refused v w failed grows fine); ended = λ fine. absurd (refused v w failed grows fine); due = λ again. behind-stuck es os v w c (call true) failed grows h further }

-- the same of a step in which the disk may fail
pub runs-from-fine : (s : Setting) (es : List journal.Event) (os : List (ℕ × List ℕ)) (v w : Kept) (c : Call) (call : Bool → Call) (r : Result (Unit {0}) NodeFault) → Plays s es os v c → Grows v w → Extends c (call true) → (IsAt s es os v c → Ran s es os w call r) → Ran s es os w call r
runs-from-fine s es os v w c call r p grows further step =
    elim (cases_Bool v.telling.failed) [
      | inl failed ↦ ran-stuck s es os v w c call r failed grows p.due further
      | inr fine ↦ step (p.at fine)
    ]

-- where the calls are the same
pub runs-same : (s : Setting) (es : List journal.Event) (os : List (ℕ × List ℕ)) (v : Kept) (call other : Bool → Call) (r : Result (Unit {0}) NodeFault) → ((works : Bool) → call works ≡ other works) → Ran s es os v call r → Ran s es os v other r
runs-same s es os v call other (Ok x) same ran = subst (Plays s es os v) (same true) ran
runs-same s es os v call other (Err e) same ran = subst (λ c. Stops s es os v c (other false)) (same true) (subst (λ c. Stops s es os v (call true) c) (same false) ran)

-- memory was refused here
pub plays-refused : (s : Setting) (es : List journal.Event) (os : List (ℕ × List ℕ)) (v w : Kept) (c d : Call) → w.telling ≡ record v.telling { failed = true } → Plays s es os v c → Extends c d → Plays s es os w d
plays-refused s es os v w c d same p further = record {
  at = λ fine. absurd (false≢true (sym fine ∙ ap (λ (t : Tellings). t.failed) same));
  due = behind-extends es os w c d (behind-same es os v w c (ap (λ (t : Tellings). t.events) same) (ap (λ (t : Tellings). t.sent) same) p.due) further;
}

pub grows-refused : (v w : Kept) → w.telling ≡ record v.telling { failed = true } → w.ended ≡ v.ended → w.group ≡ v.group
    → w.heal ≡ v.heal → w.me ≡ v.me → w.roster ≡ v.roster → Grows v w
grows-refused v w same ended group heal me roster = record {
  going = λ fine. absurd (false≢true (sym fine ∙ ap (λ (t : Tellings). t.failed) same));
  stuck = λ failed. same ∙ sym (with-failed v.telling failed);
  events = whole-front v.telling.events w.telling.events (sym (ap (λ (t : Tellings). t.events) same));
  sent = whole-front v.telling.sent w.telling.sent (sym (ap (λ (t : Tellings). t.sent) same));
  before = ap (λ (t : Tellings). t.before) same;
  ended = ended;
  group = group;
  heal = heal;
  me = me;
  roster = λ m c is. ap (λ r. kept_certificate r m) roster ∙ is;
}
  where
    with-failed : (t : Tellings) → t.failed ≡ true → t ≡ record t { failed = true }
    with-failed t failed = ap (λ (b : Bool). record t { failed = b }) failed
