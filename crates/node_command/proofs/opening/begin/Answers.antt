use Rattle.std.proofs.Common.{◌≡◌, ◌≤◌, ◌∙◌, [], ap, arith}
use Rattle.secrets.specs.Secrets.{nonce_seed}
use Rattle.sign_keys.specs.Keys.{index_count}
use Rattle.epoch_store.specs.Calls.{StoreState}
use Rattle.epoch_store.specs.declared.Stored.{Stored}
use Rattle.detector.specs.Silence.{nonce}
use Rattle.node_core.specs.Playing.{Kept}
use Rattle.node_command.specs.Members.{key_of, tag_of}
use Rattle.node_command.proofs.OpenLemmas.{file-read, file-started, opened, used-up, of-opening, of-start, signer_of, started-from, not-started-from}
use Rattle.node_command.proofs.opening.begin.Goals as goal

pub returns-then-next-index_count : goal.returns-then-next-index_count
returns-then-next-index_count g c =
    let m = c.args.member in
    let tag : c.store_tag.result ≡ tag_of m = c.store_tag.ensures in
    let old = g.D.Disk.state c.args.disk.now in
    let mid = g.D.Disk.state c.open.new.disk in
    let h = opened m c.store_tag.result c.in-Ok.store old mid tag c.in-Ok.ensures.faults c.in-Ok.ensures.settles c.in-Ok.ensures.store c.in-Ok.ensures.any_moment in
    let next : c.state-next.result.next ≡ c.in-Ok.store.state.next = ap (λ (s : Stored). s.next) c.state-next.ensures.value in
    let gone : index_count (key_of m) ≤ c.state-next.result.next = let a = c.if-next-index_count.true in let b = c.index_count.ensures.value in omega (arith, a, b) in
    record { opened = tt; begins = used-up m c.in-Ok.store old mid [] c.state-next.result.next h next gone }

pub unopened-requires : goal.unopened-requires
unopened-requires g c = of-opening StoreState c.in-Err.error c.in-Err.ensures.not_taken

pub unstarted-requires : goal.unstarted-requires
unstarted-requires g c = of-start c.open-signer.result c.in-Err-start.fault c.in-Err-start.ensures.cause

pub returns-in-Err-clause-opened : goal.returns-in-Err-clause-opened
returns-in-Err-clause-opened g c =
    let m = c.args.member in
    let tag : c.store_tag.result ≡ tag_of m = c.store_tag.ensures in
    let e = c.in-Err.ensures in
    rw c.unopened.ensures (file-read Kept m c.args.name.now c.store_tag.result (g.D.Disk.state c.args.disk.now) (g.D.Disk.state c.open.new.disk) c.in-Err.error tag e.faults e.reads e.settles e.any_moment e.calls)

pub open-signer-requires-clause-within : goal.open-signer-requires-clause-within
open-signer-requires-clause-within g c =
    let m = c.args.member in
    let next : c.state-next.result.next ≡ c.in-Ok.store.state.next = ap (λ (s : Stored). s.next) c.state-next.ensures.value in
    let a = c.if-next-index_count.false in let b = c.index_count.ensures.value in omega (arith, a, b, next)

pub returns-in-Ok-start : goal.returns-in-Ok-start
returns-in-Ok-start g c =
    let m = c.args.member in
    let tag : c.store_tag.result ≡ tag_of m = c.store_tag.ensures in
    let old = g.D.Disk.state c.args.disk.now in
    let mid = g.D.Disk.state c.open.new.disk in
    let new = g.D.Disk.state c.start.new.disk in
    let st = c.in-Ok.store in
    let h = opened m c.store_tag.result st old mid tag c.in-Ok.ensures.faults c.in-Ok.ensures.settles c.in-Ok.ensures.store c.in-Ok.ensures.any_moment in
    let is : c.open-signer.result ≡ signer_of m st = c.open-signer.ensures.value in
    let next : c.state-next.result.next ≡ st.state.next = ap (λ (s : Stored). s.next) c.state-next.ensures.value in
    let nonces : nonce c.nonce_seed.result ≡ nonce (nonce_seed m.own.secret st.state.next) = ap nonce (c.nonce_seed.ensures ∙ ap (nonce_seed m.own.secret) next) in
    let e = c.in-Ok-start.ensures in
    record {
      opened = tt;
      begins = started-from m st c.in-Ok-start.node c.start.new.events c.args.events.now old mid new c.open-signer.result (nonce c.nonce_seed.result) h is nonces c.requires.untold
          c.open-signer.ensures.begins e.faults e.starts e.vouchable e.going e.closed e.spends;
    }

pub returns-in-Err-start : goal.returns-in-Err-start
returns-in-Err-start g c =
    let m = c.args.member in
    let tag : c.store_tag.result ≡ tag_of m = c.store_tag.ensures in
    let old = g.D.Disk.state c.args.disk.now in
    let mid = g.D.Disk.state c.open.new.disk in
    let new = g.D.Disk.state c.start.new.disk in
    let st = c.in-Ok.store in
    let h = opened m c.store_tag.result st old mid tag c.in-Ok.ensures.faults c.in-Ok.ensures.settles c.in-Ok.ensures.store c.in-Ok.ensures.any_moment in
    let is : c.open-signer.result ≡ signer_of m st = c.open-signer.ensures.value in
    let e = c.in-Err-start.ensures in
    record {
      opened = rw c.unstarted.ensures (file-started Kept m c.args.name.now old new c.in-Err-start.fault);
      begins = rw c.unstarted.ensures
          (not-started-from m st c.start.new.events old mid new c.open-signer.result c.in-Err-start.fault h is c.open-signer.ensures.begins e.faults e.cause e.spends);
    }
