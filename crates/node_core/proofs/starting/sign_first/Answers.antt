use Rattle.std.proofs.Common.{◌≡◌, ap, ◌∙◌}
use Rattle.std.specs.Prelude.{ℕ, Ok, Err}
use Rattle.records.specs.declared.Body.{Body}
use Rattle.records.specs.declared.Body.TheVariants as bodies
use Rattle.epoch_store.specs.declared.Stored.{Stored}
use Rattle.signer.specs.Signing.{SignerState, next_note}
use Rattle.node_core.proofs.SpendLemmas.{lives-signed, first-lives}
use Rattle.std.proofs.Common.{rules, subst}
use Rattle.ports.specs.DiskSteps.{runs_on}
use Rattle.epoch_store.specs.Asked.{put_calls}
use Rattle.epoch_store.specs.Seat.{next_seat}
use Rattle.records.specs.Signing.{CheckedRecord}
use Rattle.signer.specs.declared.SignFault.{SignFault}
use Rattle.signer.specs.Signing.{stored_after}
use Rattle.signer.specs.Signs.{MakesFrom}
use Rattle.node_rules.specs.Replies.{first_mask}
use Rattle.node_core.proofs.starting.sign_first.Goals as goal

pub returns-in-Ok-clause-key : goal.returns-in-Ok-clause-key
returns-in-Ok-clause-key g c =
    let s : SignerState = c.args.signer.now in
    let b : Body = next_note s.state c.args.me c.first_mask-mask.result in
    let note : ℕ → Body = λ e. bodies.Note (record { member = c.args.me; epoch = e; mask = c.first_mask-mask.result }) in
    let said : note c.new.result ≡ b = ap note (c.new.ensures ∙ ap (λ (x : Stored). x.epoch) c.state-in-Ok.ensures ∙ ap (λ (x : SignerState). x.state.epoch) c.in-Ok.ensures.after) in
    first-lives s c.sign_note.new.self _ _ c.state-index.result.next (note c.new.result) b (ap (λ (x : Stored). x.next) c.state-index.ensures) said
    (lives-signed s c.sign_note.new.self b (Ok c.in-Ok.rec) _ _ c.in-Ok.ensures)

pub returns-in-Err-StoreFault-clause-key : goal.returns-in-Err-StoreFault-clause-key
returns-in-Err-StoreFault-clause-key g c =
    lives-signed c.args.signer.now c.sign_note.new.self (next_note c.args.signer.now.state c.args.me c.first_mask-mask.result) (Err c.in-Err-StoreFault.field-0) _ _ c.in-Err-StoreFault.ensures

pub returns-in-Ok-clause-puts : goal.returns-in-Ok-clause-puts
returns-in-Ok-clause-puts g c =
    let s : SignerState = c.args.signer.now in
    let mask : c.first_mask-mask.result.0 ≡ first_mask c.args.group.now.t s.state.mask.0 = search rules in
    c.in-Ok.ensures.follows ∙ ap (λ (k : ℕ). runs_on (put_calls s.seat (stored_after s.state (next_note s.state c.args.me (record { 0 = k })))) (g.D.Disk.state c.args.disk.now).model) mask

pub returns-in-Ok-clause-seat : goal.returns-in-Ok-clause-seat
returns-in-Ok-clause-seat g c =
    let s : SignerState = c.args.signer.now in
    let mask : c.first_mask-mask.result.0 ≡ first_mask c.args.group.now.t s.state.mask.0 = search rules in
    ap (λ (x : SignerState). x.seat) c.in-Ok.ensures.after
    ∙ ap (λ (k : ℕ). next_seat s.seat (stored_after s.state (next_note s.state c.args.me (record { 0 = k })))) mask

pub returns-in-Err-Exhausted-clause-puts : goal.returns-in-Err-Exhausted-clause-puts
returns-in-Err-Exhausted-clause-puts g c =
    let s : SignerState = c.args.signer.now in
    let b : Body = next_note s.state c.args.me c.first_mask-mask.result in
    subst (λ (f : SignFault). MakesFrom {T = CheckedRecord} (Err f) (put_calls s.seat (stored_after s.state b)) (g.D.Disk.state c.args.disk.now).model (g.D.Disk.state c.sign_note.new.disk).model) c.in-Err-Exhausted.field-0-is c.in-Err-Exhausted.ensures.follows

pub returns-in-Err-StoreFault-clause-puts : goal.returns-in-Err-StoreFault-clause-puts
returns-in-Err-StoreFault-clause-puts g c =
    let s : SignerState = c.args.signer.now in
    let b : Body = next_note s.state c.args.me c.first_mask-mask.result in
    let mask : c.first_mask-mask.result.0 ≡ first_mask c.args.group.now.t s.state.mask.0 = search rules in
    let failed = subst (λ (f : SignFault). MakesFrom {T = CheckedRecord} (Err f) (put_calls s.seat (stored_after s.state b)) (g.D.Disk.state c.args.disk.now).model (g.D.Disk.state c.sign_note.new.disk).model) c.in-Err-StoreFault.field-0-is c.in-Err-StoreFault.ensures.follows in
    failed ∙ ap (λ (k : ℕ). runs_on (put_calls s.seat (stored_after s.state (next_note s.state c.args.me (record { 0 = k })))) (g.D.Disk.state c.args.disk.now).model) mask
