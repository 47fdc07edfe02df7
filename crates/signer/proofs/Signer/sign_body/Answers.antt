use Rattle.std.proofs.Common.{◌≡◌, ap, ◌∙◌}
use Rattle.ports.specs.DiskSteps.{runs_on}
use Rattle.epoch_store.specs.declared.Stored.{Stored}
use Rattle.epoch_store.specs.declared.seat.Seat.{Seat}
use Rattle.epoch_store.specs.Asked.{put_calls}
use Rattle.signer.specs.Signing.{SignerState, stored_after}
use Rattle.signer.proofs.Signer.sign_body.Goals as goal

pub returns-in-Ok-clause-settled : goal.returns-in-Ok-clause-settled
returns-in-Ok-clause-settled g c = λ tag at.
    let state : c.self.inside.store.state ≡ c.args.self.now.state = ap (λ (s : SignerState). s.state) c.self.view_is in
    let seat : c.self.inside.store.seat ≡ c.args.self.now.seat = ap (λ (s : SignerState). s.seat) c.self.view_is in
    rw c.in-Ok.ensures.put (c.in-Ok.ensures.settled tag (rw (state, seat) at))

pub returns-in-Ok-clause-leaves : goal.returns-in-Ok-clause-leaves
returns-in-Ok-clause-leaves g c = λ tag at.
    let state : c.self.inside.store.state ≡ c.args.self.now.state = ap (λ (s : SignerState). s.state) c.self.view_is in
    let seat : c.self.inside.store.seat ≡ c.args.self.now.seat = ap (λ (s : SignerState). s.seat) c.self.view_is in
    rw c.in-Ok.ensures.put (c.in-Ok.ensures.leaves tag (rw (state, seat) at))

pub returns-in-Ok-clause-follows : goal.returns-in-Ok-clause-follows
returns-in-Ok-clause-follows g c =
    let state : c.self.inside.store.state ≡ c.args.self.now.state = ap (λ (s : SignerState). s.state) c.self.view_is in
    let seat : c.self.inside.store.seat ≡ c.args.self.now.seat = ap (λ (s : SignerState). s.seat) c.self.view_is in
    let next : c.stored_after.result ≡ stored_after c.args.self.now.state c.args.body =
    c.stored_after.ensures ∙ ap (λ (s : Stored). stored_after s c.args.body) (c.state-state.ensures.value ∙ state) in
    c.in-Ok.ensures.follows
    ∙ ap (λ (at : Seat). runs_on (put_calls at c.stored_after.result) (g.D.Disk.state c.args.disk.now).model) seat
    ∙ ap (λ (s : Stored). runs_on (put_calls c.args.self.now.seat s) (g.D.Disk.state c.args.disk.now).model) next
