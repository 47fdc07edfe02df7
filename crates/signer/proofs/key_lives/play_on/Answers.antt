use Rattle.std.proofs.Common.{length, arith, ap}
use Rattle.ports.specs.MemoryDisk.{now_of, past_of}
use Rattle.signer.specs.Played.{told}
use Rattle.signer.proofs.PlayLemmas.{plays_none, plays_on, length-with, once_of}
use Rattle.signer.proofs.key_lives.play_on.Goals as goal

pub loop-act-init : goal.loop-act-init
loop-act-init c =
    let disk = c.args.disk.now in
    let items = c.in_ok-records.ensures.items in
    record {
      plays = rw items (plays_none c.args.holder.now (now_of disk.start disk.log) (past_of disk.start disk.log) c.requires);
      few = omega (arith, ap length items);
      room = omega (arith, c.in_ok-records.ensures.capacity);
    }

pub loop-act-preserved : goal.loop-act-preserved
loop-act-preserved c =
    let now = now_of c.args.disk.now.start c.args.disk.now.log in
    let goes = plays_on c.args.holder.now now.image c.act-item.result c.turn-left.result.1 c.loop-act.signer c.turn-left.result.0 (told c.loop-act.disk) (told c.turn-left.new.disk) c.loop-act.records.items c.loop-act.invariant.plays c.turn-left.ensures in
    record {
      plays = rw c.keep.ensures.items goes;
      few = omega (arith, c.loop-act.invariant.few, ap length c.keep.ensures.items, length-with c.loop-act.records.items c.turn-left.result.1);
      room = omega (arith, c.loop-act.invariant.room, c.keep.ensures.capacity);
    }

pub returns : goal.returns
returns c =
    let now = now_of c.args.disk.now.start c.args.disk.now.log in
    once_of c.args.holder.now now.image c.loop-act.signer c.loop-act.disk.start c.loop-act.disk.log c.loop-act.records.items c.loop-act.invariant.plays
