use Rattle.std.proofs.Common.{◌≡◌, Some, ℕ, List, [], ◌∷◌, subst, sym}
use Rattle.std.specs.Prelude.{IfOk}
use Rattle.records.specs.declared.Body.{Body}
use Rattle.records.specs.declared.Body.TheVariants as bodies
use Rattle.records.specs.declared.Record.{Record}
use Rattle.datagram.specs.declared.Datagram.TheVariants as kinds
use Rattle.datagram.specs.Spelling.{datagram_bytes}
use Rattle.node_core.specs.Signatures.{with_stored}
use Rattle.node_core.specs.Playing.{Kept, Plays, Grows}
use Rattle.node_core.specs.contracts.Node.{the_view}
use Rattle.node_core.proofs.PlayLemmas.{grows-trans}
use Rattle.node_core.proofs.SigningLemmas.{passed-on, kept-plays}
use Rattle.node_core.proofs.Node.pass_on_accusation.Goals as goal

pub returns-clause-plays : goal.returns-clause-plays
returns-clause-plays c = λ s es os call p at own.
    let b : Body = bodies.Accusation c.args.acc.now in
    let p0 = subst (λ v. Plays s es os v (with_stored b call)) (sym c.self.view_is) p in
    let Spelled : List ℕ → Type 0 = λ x. IfOk c.datagram_of-bytes.result (λ bytes. bytes.items ≡ x) in
    let spelled = subst (λ (r : Record). Spelled (datagram_bytes (kinds.Records c.self.inside.me (r ∷ [])))) c.rec.ensures.value c.datagram_of-bytes.ensures in
    let kept = kept-plays s es os call b c.tell_spent.new.self c.take_accusation.new.self c.args.index c.args.rec.rec at own (c.tell_spent.ensures.plays s es os (with_stored b call) p) (λ x q. c.take_accusation.ensures.plays s es os x q) in
    let grows = grows-trans c.args.self.now c.tell_spent.new.self c.send_own.new.self c.tell_spent.ensures.grows (grows-trans c.tell_spent.new.self c.take_accusation.new.self c.send_own.new.self c.take_accusation.ensures.grows c.send_own.ensures.grows) in
    passed-on s es os call b (Some c.args.acc.now.accused) (the_view c.self.inside) c.take_accusation.new.self c.send_own.new.self c.args.rec.rec Spelled p0 (subst (λ (v : Kept). Grows v c.send_own.new.self) (sym c.self.view_is) grows) own kept
    (λ x d q e. c.send_own.ensures.plays s es os x d q e) spelled

pub returns-clause-grows : goal.returns-clause-grows
returns-clause-grows c =
    grows-trans c.args.self.now c.tell_spent.new.self c.send_own.new.self c.tell_spent.ensures.grows (grows-trans c.tell_spent.new.self c.take_accusation.new.self c.send_own.new.self c.take_accusation.ensures.grows c.send_own.ensures.grows)
