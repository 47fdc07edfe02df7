use Rattle.std.proofs.Common.{◌≡◌, ◌+◌, List, [], ◌∷◌, ◌++◌, refl, take, drop, subst, sym, ap, ◌∙◌, arith, append_assoc, take-append-drop}
use Rattle.std.proofs.lemmas.List.{take_more}
use Rattle.journal.specs.declared.event.Event as journal
use Rattle.node_core.proofs.HandleLemmas.{take-all}
use Rattle.node_loop.specs.declared.fault.ServeFault.{ServeFault}
use Rattle.node_core.specs.Spending.{spent_told}
use Rattle.node_loop.specs.Courses.{tells_all}
use Rattle.node_loop.specs.Lines.{WritesSpent}
use Rattle.node_loop.specs.Writing.{Standing, Tells, standing}
use Rattle.node_loop.proofs.TellLemmas.{extends-line, extends-trans}
use Rattle.node_loop.proofs.GatherLemmas.{owes-first, owes-next, spent-out, spent-part, written-out}
use Rattle.node_loop.proofs.SendLemmas.{told-next, told-none, told-part, thrown}
use Rattle.node_loop.proofs.telling.tell_each.Goals as goal

pub loop-event-init : goal.loop-event-init
loop-event-init g c = record {
  writable = c.requires.open;
  calm = refl;
  told = told-none c.args.node.now (g.L.Link.state c.args.link.now).contents (g.O.Sink.state c.args.out.now).taken c.args.sent.now c.args.lines.now.items;
  spent = λ spent before count owes. owes-first spent before (g.O.Sink.state c.args.out.now).taken c.args.lines.now.items count (g.L.Link.state c.args.link.now).faults owes;
}

pub loop-event-preserved : goal.loop-event-preserved
loop-event-preserved g c =
    let h = c.loop-event.invariant in
    let events : List journal.Event = c.args.events.now in
    let i = c.loop-event.event-index in
    let e : journal.Event = c.event-item.result in
    let longer : take (i + 1) events ≡ take i events ++ e ∷ [] = take_more events i e c.loop-event-test.true ∙ ap (λ (y : journal.Event). take i events ++ y ∷ []) (sym c.event-item.is) in
    record {
      writable = c.in_ok-tell.ensures.going;
      calm = c.in_ok-tell.ensures.faults ∙ h.calm;
      told = told-next c.args.node.now (take i events) (take (i + 1) events) e _ _ _ _ _ _ _ _ _ _ _ _ h.told longer c.in_ok-tell.ensures.tells c.in_ok-tell.ensures.extends;
      spent = λ spent before count owes.
          owes-next spent (take i events) (take (i + 1) events) e before _ _ count _ longer (c.in_ok-tell.ensures.spent (spent ++ spent_told (take i events)) before count (h.spent spent before count owes));
    }

pub returns-in_err-tell-clause-tells : goal.returns-in_err-tell-clause-tells
returns-in_err-tell-clause-tells g c = λ before moments r at.
    let h = c.loop-event.invariant in
    let events : List journal.Event = c.args.events.now in
    let i = c.loop-event.event-index in
    let x : journal.Event = c.event-item.result in
    let e : ServeFault = c.in_err-tell.field-0.0 in
    let longer : take (i + 1) events ≡ take i events ++ x ∷ [] = take_more events i x c.loop-event-test.true ∙ ap (λ (y : journal.Event). take i events ++ y ∷ []) (sym c.event-item.is) in
    let split : events ≡ take i events ++ (x ∷ drop (i + 1) events) =
    sym (take-append-drop (i + 1) events) ∙ ap (λ (xs : List journal.Event). xs ++ drop (i + 1) events) longer ∙ append_assoc (take i events) (x ∷ []) (drop (i + 1) events) in
    let w : Standing = standing c.args.node.now (g.L.Link.state c.tell.new.link).contents (g.O.Sink.state c.tell.new.out).taken moments c.tell.new.sent in
    subst (λ y. Tells before w (tells_all events r) y) (sym (thrown c.from_residual.result e c.from_residual.ensures.1))
    (told-part before w (take i events) events (drop (i + 1) events) x r e split (c.in_err-tell.ensures.tells before moments (tells_all (take i events) r) (h.told.tells before moments r at)))

pub returns-in_err-tell-clause-extends : goal.returns-in_err-tell-clause-extends
returns-in_err-tell-clause-extends g c = extends-trans _ _ _ _ _ _ c.loop-event.invariant.told.extends c.in_err-tell.ensures.extends

pub returns-clause-tells : goal.returns-clause-tells
returns-clause-tells g c = λ before moments r at.
    let h = c.loop-event.invariant in
    let events : List journal.Event = c.args.events.now in
    let i = c.loop-event.event-index in
    let whole : take i events ≡ events = take-all i events (omega (arith, c.loop-event-test.false)) in
    let link = (g.L.Link.state c.loop-event.link).contents in
    let after = (g.O.Sink.state c.write_gathered.new.out).taken in
    let w : Standing = standing c.args.node.now link after moments c.loop-event.sent in
    subst (λ (es : List journal.Event). Tells before w (tells_all es r) c.write_gathered.result) whole
    (written-out before c.args.node.now link (g.O.Sink.state c.loop-event.out).taken after moments c.loop-event.sent c.loop-event.lines.items (tells_all (take i events) r) c.write_gathered.result
    (h.told.tells before moments r at) c.write_gathered.ensures.wrote c.write_gathered.ensures.cause)

pub returns-clause-extends : goal.returns-clause-extends
returns-clause-extends g c =
    let link = (g.L.Link.state c.loop-event.link).contents in
    extends-trans _ _ _ _ _ _ c.loop-event.invariant.told.extends
    (extends-line (g.O.Sink.state c.loop-event.out).taken (g.O.Sink.state c.write_gathered.new.out).taken link c.loop-event.lines.items c.write_gathered.result c.write_gathered.ensures.wrote)

pub returns-in_err-tell-clause-spent : goal.returns-in_err-tell-clause-spent
returns-in_err-tell-clause-spent g c = λ spent before count owes.
    let events : List journal.Event = c.args.events.now in
    let i = c.loop-event.event-index in
    let x : journal.Event = c.event-item.result in
    let e : ServeFault = c.in_err-tell.field-0.0 in
    let longer : take (i + 1) events ≡ take i events ++ x ∷ [] = take_more events i x c.loop-event-test.true ∙ ap (λ (y : journal.Event). take i events ++ y ∷ []) (sym c.event-item.is) in
    let split : events ≡ take i events ++ (x ∷ drop (i + 1) events) =
    sym (take-append-drop (i + 1) events) ∙ ap (λ (xs : List journal.Event). xs ++ drop (i + 1) events) longer ∙ append_assoc (take i events) (x ∷ []) (drop (i + 1) events) in
    let after = (g.O.Sink.state c.tell.new.out).taken in
    let f1 = (g.L.Link.state c.tell.new.link).faults in
    subst (λ y. WritesSpent (spent ++ spent_told events) before after count f1 y) (sym (thrown c.from_residual.result e c.from_residual.ensures.1))
    (spent-part spent (take i events) events (drop (i + 1) events) x before after count f1 e c.in_err-tell.ensures.cause split
    (c.in_err-tell.ensures.spent (spent ++ spent_told (take i events)) before count (c.loop-event.invariant.spent spent before count owes)))

pub returns-clause-spent : goal.returns-clause-spent
returns-clause-spent g c = λ spent before count owes.
    let events : List journal.Event = c.args.events.now in
    let i = c.loop-event.event-index in
    let whole : take i events ≡ events = take-all i events (omega (arith, c.loop-event-test.false)) in
    let after = (g.O.Sink.state c.write_gathered.new.out).taken in
    let f1 = (g.L.Link.state c.loop-event.link).faults in
    subst (λ (es : List journal.Event). WritesSpent (spent ++ spent_told es) before after count f1 c.write_gathered.result) whole
    (spent-out (spent ++ spent_told (take i events)) before (g.O.Sink.state c.loop-event.out).taken after c.loop-event.lines.items count f1 c.write_gathered.result (c.loop-event.invariant.spent spent before count owes)
    c.write_gathered.ensures.wrote c.write_gathered.ensures.cause)
