-- What a call gives.
use Rattle.std.proofs.Common.{◌≡◌, ℕ, List, ◌++◌, true, false, None, Result, Ok, Err, OnOk, ap, sym, ◌∙◌, subst}
use Rattle.journal.specs.declared.event.Event as journal
use Rattle.node_rules.specs.Nodes.{Setting, Node}
use Rattle.node_rules.specs.Calls.{Call, begun, wants}
use Rattle.node_rules.specs.Deliveries.{delivered, hears}
use Rattle.node_rules.specs.Leaving.{left, leaves}
use Rattle.datagram.specs.Grammar.{read_of}
use Rattle.fields.specs.declared.NoMemory.{NoMemory}
use Rattle.audit_node.specs.Neighbours.{addressees}
use Rattle.audit_node.specs.Signatures.{next_own}
use Rattle.audit_node.specs.declared.owing.OwedEvent.{OwedEvent}
use Rattle.audit_node.specs.Owing.{told_by}
use Rattle.audit_node.specs.Answers.{Owes}
use Rattle.audit_node.specs.Learning.{Gives}
use Rattle.audit_node.specs.Told.{Tellings, IsPrefix}
use Rattle.audit_node.specs.Playing.{Kept, IsAt, IsMirror, Plays, Grows, Tells}
use Rattle.audit_node.proofs.SendableLemmas.{fair-added, tells-none}
use Rattle.audit_node.proofs.TellingLemmas.{append-cancel, told-append}

-- a call begins
pub begins-at : (s : Setting) (v : Kept) (n : Node) (t : Tellings) → IsMirror s v n → t.sent ≡ 0 → Plays s (told_by s t.events) (record v { telling = t }) (begun n)
begins-at s v n t is none = record {
  at = λ fine. record {
    is = record { setting = is.setting; signs = is.signs; holds = is.holds; stored = is.stored; records = is.records; roster = is.roster; probes = is.probes; news = is.news; since = is.since };
    told = tells-none s t.events;
    sent = none;
  };
}

-- and ends, where memory sufficed
pub owes-from : (s : Setting) (v w : Kept) (old new : List OwedEvent) (c : Call) → IsAt s (told_by s old) v c → IsPrefix old v.telling.events → new ≡ v.telling.events → w ≡ record v { telling = w.telling } → Owes s w old new c
owes-from s v w old new c at front same frame =
    let n = at.is in
    let tells : Tells s (told_by s old) (old ++ front.more) c.told = subst (λ (xs : List OwedEvent). Tells s (told_by s old) xs c.told) front.is at.told in
    record {
      is = subst (λ (x : Kept). IsMirror s x c.node) (sym frame) (record { setting = n.setting; signs = n.signs; holds = n.holds; stored = n.stored; records = n.records; roster = n.roster; probes = n.probes; news = n.news; since = n.since });
      added = front.more;
      grew = same ∙ front.is;
      owes = append-cancel (told_by s old) (told_by s front.more) c.told (sym (told-append s old front.more) ∙ tells.same);
      fair = fair-added s old front.more c.told tells;
    }

-- What a call comes to, and what it gives then.
pub record Comes (s : Setting) (es : List journal.Event) (w later : Kept) (old new : List OwedEvent) (n : Node) (c : Call) : Type 0 where
  pub so_far : Call
  pub at : IsAt s es w so_far
  pub gives : Owes s later old new so_far → Gives s n later old new c

-- a call, by its answer
pub gives-if : (self v : Kept) (over : Tellings) (w later : Kept) (old new : List OwedEvent) (answer : Result (Unit {0}) NoMemory) (call : Setting → Node → Call) → v ≡ self
    → over ≡ record { events = old; sent = 0; failed = false } → Grows (record v { telling = over }) w → new ≡ w.telling.events → OnOk answer (w.telling.failed ≡ false) → later ≡ record w { telling = later.telling }
    → ((s : Setting) (n : Node) → IsMirror s v n → w.telling.failed ≡ false → Comes s (told_by s over.events) w later old new n (call s n))
    → OnOk answer ((s : Setting) (n : Node) → IsMirror s self n → Gives s n later old new (call s n))
gives-if self v over w later old new (Ok done) call same begun grows events fine frame comes = λ s n is0.
    let is = subst (λ (x : Kept). IsMirror s x n) (sym same) is0 in
    let first : over.events ≡ old = ap (λ (t : Tellings). t.events) begun in
    let come = comes s n is fine in
    come.gives (owes-from s w later old new come.so_far (subst (λ (xs : List OwedEvent). IsAt s (told_by s xs) w come.so_far) first come.at)
    (subst (λ (xs : List OwedEvent). IsPrefix xs w.telling.events) first grows.events) events frame)
gives-if self v over w later old new (Err fault) call same begun grows events fine frame comes = tt

pub delivered-is : (s : Setting) (es : List journal.Event) (v : Kept) (n : Node) (bytes : List ℕ) → Plays s es v (hears s (read_of bytes) (begun n)) → Plays s es v (delivered s n bytes)
unfolding delivered
delivered-is s es v n bytes p = p

pub left-is : (s : Setting) (es : List journal.Event) (v : Kept) (n : Node) → Plays s es v (wants true s (next_own s n (record { 0 = 0 })) (addressees s None) (begun n)) → Plays s es v (left s n)
unfolding left leaves
left-is s es v n p = p
