use Rattle.std.proofs.Common.{◌≡◌, ℕ, Bool, List, ◌++◌, subst, sym, ap, ◌∙◌, length, false}
use Rattle.journal.specs.declared.event.Event as journal
use Rattle.node_rules.specs.Calls.{begun}
use Rattle.node_core.specs.Told.{Tellings}
use Rattle.node_core.specs.Playing.{Kept, IsNode, Plays}
use Rattle.node_core.specs.Answers.{CallerBuffers, Stands}
use Rattle.std.proofs.Common.{refl, Err}
use Rattle.node_core.specs.declared.NodeFault.TheVariants as faults
use Rattle.node_core.specs.contracts.Node.{the_view}
use Rattle.node_core.proofs.TellingLemmas.{nil-right}
use Rattle.node_core.proofs.DeliverLemmas.{calm-by, gives-by, hearing-ran, kept-by, stops-by}
use Rattle.node_core.proofs.SpendLemmas.{open-by, open-further, call-spends, idle-spends}
use Rattle.node_core.proofs.DueLemmas.{plays-at}
use Rattle.std.proofs.Common.{true, rules}
use Rattle.std.proofs.lemmas.Bool.{false≢true}
use Rattle.std.specs.Prelude.{is_err}
use Rattle.node_core.specs.OnDisks.{ComesTo, storage}
use Rattle.node_rules.specs.OnDisks.{Delivers, delivered_on}
use Rattle.node_core.proofs.DiskLemmas.{delivered-on-is, follows-by}
use Rattle.validate.specs.Certified.{Certificates}
use Rattle.node_core.proofs.Node.deliver_read.Goals as goal
use Rattle.epoch_store.specs.declared.seat.Seat.{Seat}

pub returns-clause-step : goal.returns-clause-step
returns-clause-step g c = λ bytes gives s n is0 going.
    let v : Kept = the_view c.self.inside in
    let es : List journal.Event = c.args.events.now in
    let os : List (ℕ × List ℕ) = c.args.out.now in
    let is = subst (λ v. IsNode s v n) (sym c.self.view_is) is0 in
    let over : c.over.result ≡ record { events = es; sent = os; before = length os; failed = false } = c.over.ensures in
    let p : Plays s es os (record v { telling = c.over.result; ended = true }) (begun n) = plays-at s es os (record v { telling = c.over.result; ended = true }) (begun n) (record {
      is = record { setting = is.setting; holds = is.holds; stored = is.stored; records = is.records; roster = is.roster; probes = is.probes; news = is.news; since = is.since };
      told = ap (λ (t : Tellings). t.events) over ∙ sym (nil-right es);
      sent = ap (λ (t : Tellings). t.sent) over ∙ sym (nil-right os);
      before = ap (λ (t : Tellings). t.before) over;
    }) in
    let ran = hearing-ran s es os n bytes c.hear_read-done.new.self c.hear_read-done.result (c.hear_read-done.ensures.plays bytes gives s es os (begun n) p) in
    let grows = c.hear_read-done.ensures.grows in
    let old : CallerBuffers = record { events = es; sent = os } in
    let new : CallerBuffers = record { events = c.finish.new.events; sent = c.finish.new.out } in
    let stands : Stands old new = record {
      events = record { more = grows.events.more; is = c.finish.ensures.events ∙ grows.events.is ∙ ap (λ (t : Tellings). t.events ++ grows.events.more) over };
      sent = record { more = grows.sent.more; is = c.finish.ensures.sent ∙ grows.sent.is ∙ ap (λ (t : Tellings). t.sent ++ grows.sent.more) over };
    } in
    gives-by s n (Delivers bytes) c.hear_read-done.new.self c.finish.new.self old new c.hear_read-done.result c.finish.result ran c.hear_read-done.ensures.cause c.finish.ensures.failed c.finish.ensures.going c.finish.ensures.frame c.finish.ensures.events c.finish.ensures.sent stands

pub returns-clause-spends : goal.returns-clause-spends
returns-clause-spends g c =
    let v0 : Kept = record (the_view c.self.inside) { telling = c.over.result; ended = true } in
    let from = ap (λ (t : Tellings). t.events) c.over.ensures in
    let h = c.hear_read-done.ensures in
    call-spends c.args.self.now v0 c.hear_read-done.new.self c.finish.new.self _ _ c.hear_read-done.result c.finish.result c.args.events.now c.finish.new.events (ap (λ (w : Kept). w.signer) c.self.view_is) from h.spends h.grows h.cause c.finish.ensures.failed c.finish.ensures.going c.finish.ensures.frame c.finish.ensures.events

pub returns-then-self-clause-spends : goal.returns-then-self-clause-spends
returns-then-self-clause-spends g c = idle-spends (Err faults.Ended) c.args.self.now.signer c.args.self.now.signer _ _ c.args.events.now c.args.events.now refl refl refl refl

pub returns-clause-no_disk_fault : goal.returns-clause-no_disk_fault
returns-clause-no_disk_fault g c = calm-by c.hear_read-done.result c.finish.result c.hear_read-done.new.self.telling.failed _ _ c.hear_read-done.ensures.faults c.finish.ensures.failed c.finish.ensures.going

pub returns-clause-closed : goal.returns-clause-closed
returns-clause-closed g c =
    let closed : Kept → Bool = λ v. v.signer.closed in
    open-by c.hear_read-done.result c.finish.result c.hear_read-done.new.self.telling.failed c.args.self.now.signer.closed c.hear_read-done.new.self.signer.closed c.finish.new.self.signer.closed
    (open-further c.hear_read-done.result _ _ _ c.hear_read-done.ensures.closed (ap closed c.self.view_is)) (ap closed c.finish.ensures.frame) c.finish.ensures.failed c.finish.ensures.going

pub returns-clause-follows : goal.returns-clause-follows
returns-clause-follows g c = λ bytes gives s n d is0 going told.
    let v : Kept = the_view c.self.inside in
    let es : List journal.Event = c.args.events.now in
    let os : List (ℕ × List ℕ) = c.args.out.now in
    let is = subst (λ v. IsNode s v n) (sym c.self.view_is) is0 in
    let over : c.over.result ≡ record { events = es; sent = os; before = length os; failed = false } = c.over.ensures in
    let p : Plays s es os (record v { telling = c.over.result; ended = true }) (begun n) = plays-at s es os (record v { telling = c.over.result; ended = true }) (begun n) (record {
      is = record { setting = is.setting; holds = is.holds; stored = is.stored; records = is.records; roster = is.roster; probes = is.probes; news = is.news; since = is.since };
      told = ap (λ (t : Tellings). t.events) over ∙ sym (nil-right es);
      sent = ap (λ (t : Tellings). t.sent) over ∙ sym (nil-right os);
      before = ap (λ (t : Tellings). t.before) over;
    }) in
    let old : CallerBuffers = record { events = es; sent = os } in
    let new : CallerBuffers = record { events = c.finish.new.events; sent = c.finish.new.out } in
    let y = (g.D.Disk.state c.hear_read-done.new.disk).model in
    let made = λ (seat : Seat). delivered_on storage s n bytes (record { disk = d; seat = seat }) in
    follows-by s c.hear_read-done.new.self c.finish.new.self old new y (made c.args.self.now.signer.seat) c.hear_read-done.result c.finish.result
    (λ fine. subst (λ (seat : Seat). ComesTo s es os c.hear_read-done.new.self y (is_err c.hear_read-done.result) (made seat)) (ap (λ (w : Kept). w.signer.seat) c.self.view_is)
    (subst (ComesTo s es os c.hear_read-done.new.self y (is_err c.hear_read-done.result)) (sym (delivered-on-is s n bytes d v.signer.seat)) (c.hear_read-done.ensures.follows bytes gives s es os (begun n) d p refl told fine)))
    c.hear_read-done.ensures.cause c.finish.ensures.failed c.finish.ensures.going c.finish.ensures.frame c.finish.ensures.events c.finish.ensures.sent

pub returns-then-self-clause-follows : goal.returns-then-self-clause-follows
returns-then-self-clause-follows g c = λ bytes gives s n d is going told. let over : c.args.self.now.ended ≡ true = search rules in absurd (false≢true (sym going ∙ over))

pub returns-clause-stops : goal.returns-clause-stops
returns-clause-stops g c = λ running. stops-by c.hear_read-done.result c.finish.result c.hear_read-done.new.self.telling.failed c.hear_read-done.ensures.cause c.finish.ensures.failed c.finish.ensures.going

pub returns-then-self-clause-stops : goal.returns-then-self-clause-stops
returns-then-self-clause-stops g c = λ running. let over : c.args.self.now.ended ≡ true = search rules in absurd (false≢true (sym running ∙ over))

pub returns-clause-kept : goal.returns-clause-kept
returns-clause-kept g c =
    let roster : Kept → Certificates = λ v. v.roster in
    kept-by c.args.self.now (record (the_view c.self.inside) { telling = c.over.result; ended = true }) c.hear_read-done.new.self c.finish.new.self (ap roster c.self.view_is) c.hear_read-done.ensures.grows (ap roster c.finish.ensures.frame)

pub returns-then-self-clause-kept : goal.returns-then-self-clause-kept
returns-then-self-clause-kept g c = λ m x is. is

pub returns-clause-unsigned : goal.returns-clause-unsigned
returns-clause-unsigned g c = λ bytes gives none.
    let heard = c.hear_read-done.ensures.unsigned bytes gives none in
    (ap (λ (w : Kept). w.signer) c.finish.ensures.frame ∙ heard.0 ∙ ap (λ (w : Kept). w.signer) c.self.view_is, heard.1)

pub returns-then-self-clause-unsigned : goal.returns-then-self-clause-unsigned
returns-then-self-clause-unsigned g c = λ bytes gives none. (refl, refl)
