use Rattle.std.proofs.Common.{rules, ◌≡◌, false, List, ◌++◌, Option, None, Some, refl, subst, sym, ap, ◌∙◌}
use Rattle.std.specs.Prelude.{is_err}
use Rattle.journal.specs.declared.event.Event as journal
use Rattle.node_rules.specs.OneExchange.{node_after}
use Rattle.node_rules.specs.Lives.{Delivers}
use Rattle.node_core.specs.Answers.{CallerBuffers}
use Rattle.node_core.specs.Playing.{Kept}
use Rattle.world_rules.specs.Settings.{setting_of}
use Rattle.world_host.specs.Answers.{CallsRunning, Ends, bodies_in}
use Rattle.world_host.specs.Holding.{HoldsHost}
use Rattle.world_host.specs.Hosts.{HostState, IsGoing}
use Rattle.world_host.proofs.CallLemmas.{called-so, going-on, some-going}
use Rattle.world_host.proofs.host.Host.deliver.Goals as goal

pub end_call-requires-clause-going : goal.end_call-requires-clause-going
end_call-requires-clause-going c =
    let runs : c.self.inside.node ≡ Some c.in-Some.node = search rules in
    let g : IsGoing c.in-Some.node = some-going c.self.inside.node c.in-Some.node c.self.invariant.2 runs in
    let old : CallerBuffers = record { events = c.new-events.result; sent = c.args.out.now } in
    let new : CallerBuffers = record { events = c.deliver_read-called.new.events; sent = c.deliver_read-called.new.out } in
    going-on g.life g.inputs (Delivers c.requires.read.0) c.deliver_read-called.new.self old new c.deliver_read-called.result g.correct (c.deliver_read-called.ensures.step c.requires.read.0 c.requires.read.1 g.life.setting (node_after g.life g.inputs) g.is g.going) c.deliver_read-called.ensures.ended

pub end_call-requires-clause-cause : goal.end_call-requires-clause-cause
end_call-requires-clause-cause c =
    let runs : c.self.inside.node ≡ Some c.in-Some.node = search rules in
    c.deliver_read-called.ensures.stops (some-going c.self.inside.node c.in-Some.node c.self.invariant.2 runs).going

pub returns-clause-calls : goal.returns-clause-calls
returns-clause-calls c = λ bytes gives s g kinds place spent w h.
    let inside = c.self.inside in
    let x : HostState = record {
      member = inside.member;
      kinds = inside.kinds;
      public = inside.public;
      key = inside.key;
      tag = inside.tag;
      disk = inside.disk;
      lives = inside.lives;
      node = inside.node;
      signed = inside.signed.items;
    } in
    let old : CallerBuffers = record { events = c.new-events.result; sent = c.args.out.now } in
    let new : CallerBuffers = record { events = c.deliver_read-called.new.events; sent = c.deliver_read-called.new.out } in
    let runs : c.self.inside.node ≡ Some c.in-Some.node = search rules in
    let ends : Ends (record x { node = None; disk = c.deliver_read-called.new.disk }) c.deliver_read-called.new.self c.end_call.new.self c.deliver_read-called.result c.end_call.result =
    subst (λ (o : Option Kept). Ends (record x { node = o; disk = c.deliver_read-called.new.disk }) c.deliver_read-called.new.self c.end_call.new.self c.deliver_read-called.result c.end_call.result) c.take.ensures.after c.end_call.ensures in
    let fine : is_err c.end_call.result ≡ false = search rules in
    let kept : c.keep_bodies.new.self ≡ record c.end_call.new.self { signed = c.end_call.new.self.signed ++ bodies_in new.events } =
    c.in_ok-keep_bodies.ensures.kept ∙ ap (λ (es : List journal.Event). record c.end_call.new.self { signed = c.end_call.new.self.signed ++ bodies_in es }) c.as_slice.ensures in
    subst (λ (y : HostState). CallsRunning s kinds (Delivers bytes) place spent place.current y c.keep_bodies.new.self old.sent new.sent new.events) c.self.view_is
    (called-so s g kinds (Delivers bytes) place spent x c.end_call.new.self c.keep_bodies.new.self c.in-Some.node c.deliver_read-called.new.self c.deliver_read-called.new.disk old new c.deliver_read-called.result c.end_call.result
    w (subst (HoldsHost s kinds place spent) (sym c.self.view_is) h) runs c.new-events.ensures
    (λ n is going. c.deliver_read-called.ensures.follows bytes gives (setting_of s inside.member) n inside.disk is going refl) c.deliver_read-called.ensures.ended c.deliver_read-called.ensures.closed ends fine kept)
