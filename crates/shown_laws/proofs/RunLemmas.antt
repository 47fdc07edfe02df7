-- What a run has written is the journal of its member's life.
use Rattle.std.proofs.Common.{ℕ, ◌<◌, ◌≤◌, List, [], ◌∷◌}
use Rattle.std.proofs.KnownBytes.{Appends-trans}
use Rattle.epoch_store.specs.declared.Stored.{Stored}
use Rattle.epoch_store.specs.Calls.{HoldsStore}
use Rattle.epoch_store.specs.declared.seat.Seat.{Seat}
use Rattle.ports.specs.Disk.{Moment}
use Rattle.sign_keys.specs.Keys.{index_count}
use Rattle.node_core.specs.Playing.{setting_of}
use Rattle.node_command.specs.declared.kit.Member.{Member}
use Rattle.node_command.specs.Members.{key_of}
use Rattle.node_command.specs.Opening.{Tells, setting_for}
use Rattle.node_command.specs.Journal.{journal_of}
use Rattle.shown_laws.specs.Own.{OwnJournalsAreShown}
use Rattle.shown_laws.specs.Runs.{OwnRunsAreShown}

-- the epoch in a store isn't above its next index
kept-epoch : (tag : List ℕ) (stored : Stored) (seat : Seat) (moments : List Moment) → HoldsStore tag stored seat moments → Tells moments → stored.epoch ≤ stored.next
kept-epoch tag stored seat [] holds tells = absurd tells
kept-epoch tag stored seat (now ∷ past) holds tells = holds.chain.0.keeps.epoch_small

left-of : (m : Member) (stored : Stored) → stored.next < (setting_for m).indexes → stored.next < index_count (key_of m)
unfolding setting_of
left-of m stored left = left

pub own-runs : OwnJournalsAreShown → OwnRunsAreShown
own-runs law feed was now old new w served =
    let m : Member = w.member in
    let h = w.rest in
    let text : List ℕ = journal_of m h.stored feed.stay feed.link feed.reading feed.readings in
    record {
      member = m;
      between = w.between;
      read = w.read;
      stored = h.stored;
      found = h.found;
      text = text;
      written = Appends-trans was.taken w.between.taken new.taken [] text w.read.whole.wrote h.written;
      told = λ tells. kept-epoch _ h.stored h.found.0 old.disk.moments h.found.1 tells;
      shown = λ epoch. law m h.stored feed.stay feed.link feed.reading feed.readings (record { sound = w.read.sound; left = left-of m h.stored h.vouchable.left; epoch = epoch }) served;
    }
