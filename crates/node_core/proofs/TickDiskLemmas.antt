-- A tick over a disk whose state is modelled.
use Rattle.std.proofs.Common.{◌≡◌, ℕ, true, false, Option, List, [], ◌∷◌, refl, sym, ap, ◌∙◌, subst}
use Rattle.std.specs.Prelude.{fold}
use Rattle.ports.specs.MemoryDisk.{DiskState}
use Rattle.epoch_store.specs.declared.seat.Seat.{Seat}
use Rattle.epoch_store.specs.Placed.{PlacedStore}
use Rattle.journal.specs.declared.event.Event as journal
use Rattle.detector.specs.Silence.{silent as silent_of, pings as pings_of}
use Rattle.records.specs.declared.Record.{Record}
use Rattle.datagram.specs.declared.Datagram.{Datagram}
use Rattle.datagram.specs.declared.Datagram.TheVariants as kinds
use Rattle.node_rules.specs.Nodes.{Setting, Node, state_of, neighbours}
use Rattle.node_rules.specs.Pages.{partner}
use Rattle.node_rules.specs.Calls.{Call, sends, sends_to_all}
use Rattle.node_rules.specs.Ticking.{fresh, spreads_all, spreads, gossips, is_due, pings_all, round_of, passed, probed_at, watched_by}
use Rattle.node_rules.specs.OnDisks.{OnDisk, accuses_on, due_on, ticked_on}
use Rattle.node_rules.proofs.GoingOn.{on-pings_all, on-summary, on-probed}
use Rattle.node_core.specs.Playing.{Kept, IsAt}
use Rattle.node_core.specs.Ticks.{seen}
use Rattle.node_core.specs.OnDisks.{ComesTo, on_disk, storage}
use Rattle.node_core.proofs.TickLemmas.{FindsDue, now_of}

-- the news go out, whatever the disk
abbrev pub spread_on : Setting → OnDisk PlacedStore → OnDisk PlacedStore
spread_on s d = record d { call = spreads s d.call }

abbrev pub accused_on : Setting → List ℕ → OnDisk PlacedStore → OnDisk PlacedStore
accused_on s accused d = fold (accuses_on storage s) (spread_on s d) accused

due-going : (s : Setting) (accused : List ℕ) (pings : List (ℕ × ℕ)) (round : ℕ) (d o : OnDisk PlacedStore)
    → accused_on s accused d ≡ o → o.call.ended ≡ false
    → due_on storage s accused pings round d ≡ record { call = gossips s round (pings_all s pings o.call); disk = o.disk }
unfolding due_on
due-going s accused pings round d o is on = rw is (rw on refl)

pub due-over : (s : Setting) (accused : List ℕ) (pings : List (ℕ × ℕ)) (round : ℕ) (d o : OnDisk PlacedStore)
    → accused_on s accused d ≡ o → o.call.ended ≡ true → due_on storage s accused pings round d ≡ o
unfolding due_on
due-over s accused pings round d o is over = rw is (rw over refl)

on-sends : (s : Setting) (to : List ℕ) (d : Datagram) (c : Call) → (sends_to_all s to d c).ended ≡ c.ended
unfolding sends
on-sends s [] d c = refl
on-sends s (m ∷ to) d c = on-sends s to d (sends s d c m)

on-spreads_all : (s : Setting) (records : List Record) (c : Call) → (spreads_all s records c).ended ≡ c.ended
on-spreads_all s [] c = refl
on-spreads_all s (r ∷ records) c = on-sends s (neighbours s (state_of s c.node)) (kinds.Records s.me (r ∷ records)) c

pub on-spreads : (s : Setting) (c : Call) → (spreads s c).ended ≡ c.ended
unfolding spreads
on-spreads s c = on-spreads_all s (fresh c.node) c

on-gossips : (s : Setting) (pings : List (ℕ × ℕ)) (round : ℕ) (c : Call) → (gossips s round (pings_all s pings c)).ended ≡ c.ended
on-gossips s pings round c = let c1 : Call = pings_all s pings c in on-summary s round (partner s c1.node round) c1 ∙ on-pings_all s pings c

-- behind the accusations the disk is left alone
pub due-comes : (s : Setting) (es : List journal.Event) (os : List (ℕ × List ℕ)) (v w : Kept) (y : Option DiskState) (accused : List ℕ) (pings : List (ℕ × ℕ)) (round : ℕ) (d : OnDisk PlacedStore)
    → let o = accused_on s accused d in
    ComesTo s es os v y false o → IsAt s es os w (gossips s round (pings_all s pings o.call)) → w.signer ≡ v.signer → ComesTo s es os w y false (due_on storage s accused pings round d)
due-comes s es os v w y accused pings round d h at same =
    let o : OnDisk PlacedStore = accused_on s accused d in
    subst (ComesTo s es os w y false) (sym (due-going s accused pings round d o refl h.ended))
    (record { at = at; ended = on-gossips s pings round o.call ∙ h.ended; disk = h.disk; seat = ap (λ k. k.seat) same ∙ h.seat })

probed-is : (s : Setting) (n : Node) → probed_at s n ≡ seen s (passed s n)
unfolding probed_at
probed-is s n = refl

pub seen-on : (s : Setting) (n : Node) → (seen s (passed s n)).ended ≡ false
seen-on s n = sym (ap (λ (c : Call). c.ended) (probed-is s n)) ∙ on-probed s n

pub ticked-on-idle : (s : Setting) (n : Node) (d : DiskState) (seat : Seat) → is_due s (now_of s n) ≡ false → ticked_on storage s n (record { disk = d; seat = seat }) ≡ on_disk (seen s (passed s n)) d seat
unfolding ticked_on probed_at
ticked-on-idle s n d seat idle = rw idle refl

ticked-on-due : (s : Setting) (n : Node) (d : DiskState) (seat : Seat) → is_due s (now_of s n) ≡ true
    → ticked_on storage s n (record { disk = d; seat = seat }) ≡ due_on storage s (silent_of (passed s n).node.probes (watched_by s (now_of s n))) (pings_of (passed s n).node.probes true (watched_by s (now_of s n))) (round_of s (now_of s n)) (on_disk (seen s (passed s n)) d seat)
unfolding ticked_on probed_at
ticked-on-due s n d seat due = rw due refl

pub ticked-on-found : (s : Setting) (n : Node) (silent : List ℕ) (pings : List (ℕ × ℕ)) (round : ℕ) (d : DiskState) (seat : Seat) → FindsDue s n silent pings round
    → due_on storage s silent pings round (on_disk (seen s (passed s n)) d seat) ≡ ticked_on storage s n (record { disk = d; seat = seat })
ticked-on-found s n silent pings round d seat f =
    let o : OnDisk PlacedStore = on_disk (seen s (passed s n)) d seat in
    ap (λ (xs : List ℕ). due_on storage s xs pings round o) f.silent_is
    ∙ ap (λ (ps : List (ℕ × ℕ)). due_on storage s (silent_of (passed s n).node.probes (watched_by s (now_of s n))) ps round o) f.pings_is
    ∙ ap (λ (k : ℕ). due_on storage s (silent_of (passed s n).node.probes (watched_by s (now_of s n))) (pings_of (passed s n).node.probes true (watched_by s (now_of s n))) k o) f.round_is
    ∙ sym (ticked-on-due s n d seat f.due)
