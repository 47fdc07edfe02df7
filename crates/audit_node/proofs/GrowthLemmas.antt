-- What is owed grows, and a step counts only where memory was not refused.
use Rattle.std.proofs.Common.{◌≡◌, true, false, List, [], refl, ap, sym, ◌∙◌}
use Rattle.std.proofs.lemmas.Bool.{false≢true}
use Rattle.ff_ids.specs.Steps.{Event, step}
use Rattle.membership.specs.Life.{Life}
use Rattle.audit_set.specs.Sets.{HeldKnown}
use Rattle.journal.specs.declared.event.Event as journal
use Rattle.node_rules.specs.Nodes.{Setting}
use Rattle.node_rules.specs.Calls.{Call}
use Rattle.epoch_store.specs.declared.Stored.{Stored}
use Rattle.audit_node.specs.Told.{Tellings, Adds}
use Rattle.audit_node.specs.Playing.{Kept, IsAt, Plays, Grows, with_known}
use Rattle.audit_node.proofs.TellingLemmas.{front-refl, front-trans, nil-right}

pub grows-trans : (a b c : Kept) → Grows a b → Grows b c → Grows a c
grows-trans a b c p q =
    record {
      going = λ ok. p.going (q.going ok);
      events = front-trans a.telling.events b.telling.events c.telling.events p.events q.events;
      group = q.group ∙ p.group;
      heal = q.heal ∙ p.heal;
      me = q.me ∙ p.me;
    }

-- whatever is stored
pub grows-stored : (a b : Kept) (kept : Stored) → Grows (record a { stored = kept }) b → Grows a b
grows-stored a b kept h = record { going = h.going; events = h.events; group = h.group; heal = h.heal; me = h.me }

-- what adds to what is owed grows it
pub grows-adds : (v : Kept) (life next : Life) (held later : HeldKnown) (f : Tellings → Tellings) (a b : Tellings) → Adds f a b → Grows (with_known v life held a) (with_known v next later b)
grows-adds v life next held later f a b h =
    record { going = λ fine. (h.going fine).0; events = h.events; group = refl; heal = refl; me = refl }

pub grows-refl : (a : Kept) → Grows a a
grows-refl a = record { going = λ ok. ok; events = front-refl a.telling.events; group = refl; heal = refl; me = refl }

-- memory was refused
pub grows-refused : (v w : Kept) → w.telling ≡ record v.telling { failed = true } → w.group ≡ v.group → w.heal ≡ v.heal → w.me ≡ v.me → Grows v w
grows-refused v w same group heal me = record {
  going = λ fine. absurd (false≢true (sym fine ∙ ap (λ (t : Tellings). t.failed) same));
  events = record { more = []; is = ap (λ (t : Tellings). t.events) same ∙ sym (nil-right v.telling.events) };
  group = group;
  heal = heal;
  me = me;
}

pub plays-refused : (s : Setting) (es : List journal.Event) (v w : Kept) (d : Call) → w.telling ≡ record v.telling { failed = true } → Plays s es w d
plays-refused s es v w d same = record {
  at = λ fine. absurd (false≢true (sym fine ∙ ap (λ (t : Tellings). t.failed) same));
}

-- a step that is the definition's, unless memory was refused before
pub from-fine : (s : Setting) (es : List journal.Event) (v w : Kept) (c d : Call) → Plays s es v c → Grows v w → (IsAt s es v c → Plays s es w d) → Plays s es w d
from-fine s es v w c d p grows step = record { at = λ fine. (step (p.at (grows.going fine))).at fine }
