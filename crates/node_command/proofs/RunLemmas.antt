-- How a member is run, behind its text.
use Rattle.std.proofs.Common.{◌≡◌, ℕ, ◌+◌, ◌<◌, ◌≤◌, true, false, List, [], ◌∷◌, ◌++◌, length, Option, Some, None, Result, Ok, Err, refl, sym, ap, subst, ◌∙◌, inl, inr, append_assoc, map, fold, arith}
use Rattle.std.specs.Prelude.{IfErr, OnOk}
use Rattle.std.specs.Io.KnownBytes.{Appends}
use Rattle.std.specs.List.{AllByRecursion}
use Rattle.epoch_store.specs.declared.Stored.{Stored}
use Rattle.epoch_store.specs.Store.{IsSettled, StoreOf}
use Rattle.ff_ids.specs.Steps.{Report}
use Rattle.journal.specs.declared.event.Event as journal
use Rattle.journal.specs.declared.event.What as whats
use Rattle.journal.specs.declared.event.What.TheVariants as told
use Rattle.ports.specs.Count.{Rose, counted, next_count}
use Rattle.line_text.specs.declared.bad_word.BadWord.{BadWord}
use Rattle.play.specs.Plays.{IoState}
use Rattle.play.specs.declared.stop.Stop.{Stop}
use Rattle.play.specs.declared.stop.Stop.TheVariants as stop
use Rattle.ports.specs.Link.{Binds, LinkState}
use Rattle.ports.specs.declared.Opened.TheVariants as opens
use Rattle.schedule_texts.specs.declared.kit.KitText.TheVariants as kit
use Rattle.schedule_texts.specs.declared.kit_line.KitLine.{KitLine}
use Rattle.whole_text.specs.Gathered.{IsUnfinished, IsWhole, nothing}
use Rattle.whole_text.proofs.WholeLemmas.{never-unwritten}
use Rattle.records.specs.declared.Record.{Record}
use Rattle.ports.specs.Disk.{Moment}
use Rattle.secrets.specs.Secrets.{store_tag}
use Rattle.sha2.proofs.Facts256.{length-sha256}
use Rattle.signer.specs.Lives.{EndsNow, IsLiving, Spent, indexes, note_epochs}
use Rattle.signer.specs.Signing.{SignerState}
use Rattle.signer.proofs.LivesLemmas.{living_spend}
use Rattle.signer.proofs.LivesLemmas.{Spends as SpendsTo}
use Rattle.node_rules.specs.Nodes.{Setting}
use Rattle.node_rules.specs.Calls.{Call, begun, lives, signs, takes, whats_of}
use Rattle.node_rules.specs.Starting.{blank, opened, started}
use Rattle.node_core.specs.Playing.{Kept}
use Rattle.node_core.specs.Spending.{spent_told}
use Rattle.node_loop.specs.Turns.{life_acts, pace_for}
use Rattle.turn_rules.specs.Courses.{datagram_in}
use Rattle.node_loop.specs.Courses.{served_from}
use Rattle.node_command.specs.declared.halt.NodeHalt.{NodeHalt}
use Rattle.node_command.specs.declared.halt.NodeHalt.TheVariants as halt
use Rattle.node_command.specs.declared.kit.Member.{Member}
use Rattle.node_command.specs.declared.stay.Stay.{Stay}
use Rattle.node_command.specs.Halts.{IsBehind, IsServed, halt_of, is_writable, is_write_fault}
use Rattle.node_command.specs.Members.{IsMember, kit_judging, own_port, tag_of}
use Rattle.node_command.specs.Opening.{Begins, IsBegun, OpensFile, setting_for, start_of}
use Rattle.ports.specs.Outside.{OfDisk}
use Rattle.node_command.specs.Spendings.{IsSpentFrom}
use Rattle.node_command.specs.Journal.{Environment, IsLived, IsUnsent, Lives, environment, bound_for}
use Rattle.turn_rules.specs.Journals.{end_line}
use Rattle.turn_rules.specs.Lines.{lines_of}
use Rattle.node_command.proofs.KeptLemmas.{life-bound, life-kept}
use Rattle.node_command.specs.Running.{NetInputs, HasRun, IsCaused, IsStoreCause, LivesOut, Runs, RunsBehind, RunsOnce, Takes, life_in}

-- ## A life begins without a datagram

abbrev IsUntoldOf : whats.What → Type 0
IsUntoldOf what = datagram_in what ≡ None

each-mapped : {X : Type 0} (f : X → whats.What) (xs : List X) → ((x : X) → IsUntoldOf (f x)) → AllByRecursion IsUntoldOf (map f xs)
each-mapped f [] none = tt
each-mapped f (x ∷ xs) none = (none x, each-mapped f xs none)

each-behind : {X : Type 0} (P : X → Type 0) (xs ys : List X) → AllByRecursion P xs → AllByRecursion P ys → AllByRecursion P (xs ++ ys)
each-behind P [] ys a b = b
each-behind P (x ∷ xs) ys a b = (a.0, each-behind P xs ys a.1 b)

reported : (r : Report) → AllByRecursion IsUntoldOf (whats_of r)
reported r =
    let expired = map told.Expired r.expired in
    let removed = map told.Removed r.removed in
    let entered = map told.Entered r.entered in
    let fell = map told.Fell r.fell in
    each-behind IsUntoldOf (expired ++ removed ++ entered) fell
    (each-behind IsUntoldOf (expired ++ removed) entered
    (each-behind IsUntoldOf expired removed (each-mapped told.Expired r.expired (λ x. refl)) (each-mapped told.Removed r.removed (λ x. refl)))
    (each-mapped told.Entered r.entered (λ x. refl)))
    (each-mapped told.Fell r.fell (λ x. refl))

at-moment : (moment : ℕ) (ws : List whats.What) → AllByRecursion IsUntoldOf ws → AllByRecursion IsUnsent (map (λ what. record { moment = moment; what = what }) ws)
at-moment moment [] all = tt
at-moment moment (w ∷ ws) all = (all.0, at-moment moment ws all.1)

taken-unsent : (s : Setting) (r : Record) (c : Call) → AllByRecursion IsUnsent c.told → AllByRecursion IsUnsent (takes s r c).told
unfolding takes lives
taken-unsent s r c all = each-behind IsUnsent c.told _ all (at-moment _ (whats_of _) (reported _))

opened-unsent : (s : Setting) (certificates : List Record) (c : Call) → AllByRecursion IsUnsent c.told → AllByRecursion IsUnsent (fold (λ x r. takes s r x) c certificates).told
opened-unsent s [] c all = all
opened-unsent s (r ∷ rs) c all = opened-unsent s rs (takes s r c) (taken-unsent s r c all)

pub start-unsent : (s : Setting) (nonces : ℕ → ℕ) (certificates : List Record) (stored : Stored) → AllByRecursion IsUnsent (started s nonces certificates stored).told
unfolding started signs
start-unsent s nonces certificates stored =
    taken-unsent s _ _ (each-behind IsUnsent (opened s nonces certificates stored).told _ (opened-unsent s certificates (begun (blank s nonces stored)) tt) (refl, tt))

pub begun-unsent : (m : Member) (node : Kept) (events : List journal.Event) (old new : OfDisk) → Begins m old new events (Ok node) → AllByRecursion IsUnsent events
begun-unsent m node events old new h =
    subst (AllByRecursion IsUnsent) (sym h.1.told_is) (start-unsent _ _ _ _)

-- ## What came of it

pub tag-long : (m : Member) → length (tag_of m) ≡ 32
unfolding store_tag
tag-long m = length-sha256 _

at-least : (low high : ℕ) (xs : List ℕ) → AllByRecursion (λ x. (low ≤ x) × (x < high)) xs → AllByRecursion (λ x. low ≤ x) xs
at-least low high [] all = tt
at-least low high (x ∷ xs) all = (all.0.0, at-least low high xs all.1)

above : (low high : ℕ) (xs : List ℕ) → AllByRecursion (λ x. (low + 1 ≤ x) × (x < high)) xs → AllByRecursion (λ x. low < x) xs
above low high [] all = tt
above low high (x ∷ xs) all = (omega (arith, all.0.0), above low high xs all.1)

-- what lives spend that go on from a store
pub spent-from : (m : Member) (stored : Stored) (image : List ℕ) (spent : List Spent) (s : SignerState) (moments : List Moment) → StoreOf (tag_of m) image stored → IsLiving (tag_of m) image spent s moments → IsSpentFrom stored spent
spent-from m stored image spent s moments store living =
    let a = living_spend (tag_of m) (tag_of m) image stored living.earlier living.opened living.bodies store living.are living.found living.may_come in
    let x = subst (λ (xs : List Spent). SpendsTo stored a.end xs) (sym living.spent_is) a.spends_so in
    record {
      once = record { indexes_rise = x.rising; epochs_rise = x.epochs_rising };
      above = at-least stored.next a.end.next (indexes spent) x.within;
      later = above stored.epoch (a.end.epoch + 1) (note_epochs spent) x.epochs_within;
    }

has-run : (m : Member) (feed : NetInputs) (stored : Stored) (node : Kept) (events : List journal.Event) (was now : Environment) (mid : OfDisk) → IsBegun m stored node events was.disk mid
    → IsLived (setting_for m) node events (life_in m stored feed) (record was { disk = mid }) now → HasRun m feed was now
has-run m feed stored node events was now mid b l =
    let r = life_in m stored feed in
    record {
      stored = stored;
      found = b.found;
      vouchable = b.vouchable;
      written = subst (λ es. Appends was.taken now.taken (lines_of es ++ r.text ++ end_line)) b.told_is l.written;
      given = l.given;
      bound = life-bound m stored feed;
      faults = l.faults ∙ b.faults;
      seat = l.kept.signer.seat;
      left = λ tells.
          let f = b.fresh tells in
          let living = l.key.lives (tag_of m) f.0 (spent_told (start_of m stored).told) f.2 in
          subst (λ (k : Stored). IsSettled (tag_of m) k l.kept.signer.seat now.disk.moments) l.is.stored (living.settled (l.unclosed ∙ b.unclosed));
      kept = life-kept m stored feed;
      ends = λ before spent ends.
          let living = l.key.lives (tag_of m) before (spent ++ spent_told (start_of m stored).told) (b.lives before spent ends) in
          subst (λ (xs : List Spent). EndsNow (tag_of m) before xs now.disk.moments) (append_assoc spent (spent_told (start_of m stored).told) r.spent) living.ends;
      once = λ tells.
          let f = b.fresh tells in
          spent-from m stored f.0 (spent_told (start_of m stored).told ++ r.spent) l.kept.signer now.disk.moments f.1 (l.key.lives (tag_of m) f.0 (spent_told (start_of m stored).told) f.2);
    }

lived-out : (m : Member) (feed : NetInputs) (stored : Stored) (node : Kept) (events : List journal.Event) (was now : Environment) (mid : OfDisk) (result : Result (Unit {0}) NodeHalt) → IsBegun m stored node events was.disk mid
    → Lives (setting_for m) node events (life_acts (pace_for (setting_for m) m.millis) feed.stay.turns feed.stay.leave feed.link.coming feed.reading feed.readings) (served_from (start_of m stored).node (bound_for m feed.link)) (record was { disk = mid }) now result
    → RunsOnce m feed was now result
lived-out m feed stored node events was now mid result b l = by result l
  where
    out : (result : Result (Unit {0}) NodeHalt) → Lives (setting_for m) node events (life_acts (pace_for (setting_for m) m.millis) feed.stay.turns feed.stay.leave feed.link.coming feed.reading feed.readings) (served_from (start_of m stored).node (bound_for m feed.link)) (record was { disk = mid }) now result
        → LivesOut m feed was now result
    out result l = (
      stored,
      node,
      mid,
      subst (λ es. IsBegun m stored node es was.disk mid) b.told_is b,
      subst (λ es. Lives (setting_for m) node es (life_acts (pace_for (setting_for m) m.millis) feed.stay.turns feed.stay.leave feed.link.coming feed.reading feed.readings) (served_from (start_of m stored).node (bound_for m feed.link)) (record was { disk = mid }) now result) b.told_is l,
    )

    by : (result : Result (Unit {0}) NodeHalt) → Lives (setting_for m) node events (life_acts (pace_for (setting_for m) m.millis) feed.stay.turns feed.stay.leave feed.link.coming feed.reading feed.readings) (served_from (start_of m stored).node (bound_for m feed.link)) (record was { disk = mid }) now result
        → RunsOnce m feed was now result
    by (Ok x) l = has-run m feed stored node events was now mid b l
    by (Err (halt.Refused line w)) l = absurd l
    by (Err halt.ReadFault) l = absurd l
    by (Err halt.WriteFault) l = out (Err halt.WriteFault) l
    by (Err halt.StoreFault) l = inr (out (Err halt.StoreFault) l)
    by (Err (halt.StoreBroken place byte)) l = absurd l
    by (Err halt.LinkFault) l = absurd l
    by (Err (halt.Exhausted next)) l = absurd l
    by (Err halt.OutOfMemory) l = inr (out (Err halt.OutOfMemory) l)

pub not-begun : (m : Member) (feed : NetInputs) (was : Environment) (new : OfDisk) (events : List journal.Event) (h : NodeHalt) → Begins m was.disk new events (Err h) → RunsOnce m feed was (record was { disk = new }) (Err h)
not-begun m feed was new events (halt.Refused line w) b = absurd b
not-begun m feed was new events halt.ReadFault b = absurd b
not-begun m feed was new events halt.WriteFault b = absurd b
not-begun m feed was new events halt.StoreFault b = inl (record { taken = refl; link = refl }, b)
not-begun m feed was new events (halt.StoreBroken place byte) b = (record { taken = refl; link = refl }, b)
not-begun m feed was new events halt.LinkFault b = absurd b
not-begun m feed was new events (halt.Exhausted next) b = (record { taken = refl; link = refl }, b)
not-begun m feed was new events halt.OutOfMemory b = inl (record { taken = refl; link = refl }, b)

pub begins-writable : (m : Member) (old new : OfDisk) (events : List journal.Event) (h : NodeHalt) → Begins m old new events (Err h) → (is_writable (Err h) ≡ true) × (is_write_fault (Err h) ≡ false)
begins-writable m old new events (halt.Refused line w) b = absurd b
begins-writable m old new events halt.ReadFault b = absurd b
begins-writable m old new events halt.WriteFault b = absurd b
begins-writable m old new events halt.StoreFault b = (refl, refl)
begins-writable m old new events (halt.StoreBroken place byte) b = (refl, refl)
begins-writable m old new events halt.LinkFault b = absurd b
begins-writable m old new events (halt.Exhausted next) b = (refl, refl)
begins-writable m old new events halt.OutOfMemory b = (refl, refl)

rose-by : (old new : ℕ) → new ≡ next_count old → Rose old new
rose-by old new e = omega (arith, e)

pub begins-rose : (m : Member) (old new : OfDisk) (events : List journal.Event) (h : NodeHalt) → Begins m old new events (Err h) → h ≡ halt.StoreFault → Rose old.faults new.faults
begins-rose m old new events h b e = by (subst (λ x. Begins m old new events (Err x)) e b)
  where
    by : Begins m old new events (Err halt.StoreFault) → Rose old.faults new.faults
    by (inl x) = rose-by old.faults new.faults x.faults
    by (inr x) = rose-by old.faults new.faults x.faults

pub begins-bound : (m : Member) (old new : OfDisk) (events : List journal.Event) (h : NodeHalt) → Begins m old new events (Err h) → h ≡ halt.LinkFault → ⊥
begins-bound m old new events h b e = absurd (subst (λ x. Begins m old new events (Err x)) e b)

pub lived-run : (m : Member) (feed : NetInputs) (stored : Stored) (node : Kept) (events : List journal.Event) (was now : Environment) (mid : OfDisk) (result : Result (Unit {0}) NodeHalt) (reading : ℕ) (stay : Stay) → reading ≡ feed.reading → stay ≡ feed.stay → IsBegun m stored node events was.disk mid
    → Lives (setting_for m) node events (life_acts (pace_for (setting_for m) m.millis) stay.turns stay.leave feed.link.coming reading feed.readings) (served_from (start_of m stored).node (bound_for m feed.link)) (record was { disk = mid }) now result
    → RunsOnce m feed was now result
lived-run m feed stored node events was now mid result reading stay reading_is stay_is b l =
    let start = served_from (start_of m stored).node (bound_for m feed.link) in
    let l1 = subst (λ k. Lives (setting_for m) node events (life_acts (pace_for (setting_for m) m.millis) stay.turns stay.leave feed.link.coming k feed.readings) start (record was { disk = mid }) now result) reading_is l in
    let l2 = subst (λ (x : Stay). Lives (setting_for m) node events (life_acts (pace_for (setting_for m) m.millis) x.turns x.leave feed.link.coming feed.reading feed.readings) start (record was { disk = mid }) now result) stay_is l1 in
    lived-out m feed stored node events was now mid result b l2

pub calm-behind : (result : Result (Unit {0}) NodeHalt) (old mid new : ℕ) → OnOk result (new ≡ mid) → mid ≡ old → OnOk result (new ≡ old)
calm-behind (Ok x) old mid new h e = h ∙ e
calm-behind (Err h) old mid new n e = tt

pub rose-behind : (result : Result (Unit {0}) NodeHalt) (old mid new : ℕ) → IfErr result (λ h. h ≡ halt.StoreFault → Rose mid new) → mid ≡ old → IfErr result (λ h. h ≡ halt.StoreFault → Rose old new)
rose-behind (Ok x) old mid new h e = tt
rose-behind (Err x) old mid new h e = λ is. subst (λ k. Rose k new) e (h is)

-- ## The port

pub bound : (m : Member) (link : LinkState) (port : ℕ) (was now : Option LinkState) → was ≡ Some link → port ≡ own_port m → Binds port was now opens.Done → now ≡ Some (bound_for m link)
bound m link port was now is port_is binds =
    let b = subst (λ x. Binds port x now opens.Done) is binds in
    b ∙ ap (λ (p : ℕ). Some (record link { bound = Some p })) port_is

pub unbound : (taken : Option (List ℕ)) (was now : Option LinkState) (disk : OfDisk) (link : LinkState) (port : ℕ) → was ≡ Some link → Binds port was now opens.Failed → environment taken now disk ≡ environment taken was disk
unbound taken was now disk link port is binds =
    let b : now ≡ Some link = subst (λ x. Binds port x now opens.Failed) is binds in
    ap (λ x. environment taken x disk) (b ∙ sym is)

pub unbound-starved : (taken : Option (List ℕ)) (was now : Option LinkState) (disk : OfDisk) (link : LinkState) (port : ℕ) → was ≡ Some link → Binds port was now opens.OutOfMemory → environment taken now disk ≡ environment taken was disk
unbound-starved taken was now disk link port is binds =
    let b : now ≡ Some link = subst (λ x. Binds port x now opens.OutOfMemory) is binds in
    ap (λ x. environment taken x disk) (b ∙ sym is)

pub run-behind : (m : Member) (feed : NetInputs) (taken : Option (List ℕ)) (was mid : Option LinkState) (disk : OfDisk) (now : Environment) (result : Result (Unit {0}) NodeHalt) → mid ≡ Some (bound_for m feed.link)
    → RunsOnce m feed (environment taken mid disk) now result → RunsBehind m feed (environment taken was disk) now result
run-behind m feed taken was mid disk now result is h = by result (subst (λ x. RunsOnce m feed (environment taken x disk) now result) is h)
  where
    by : (result : Result (Unit {0}) NodeHalt) → RunsOnce m feed (environment taken (Some (bound_for m feed.link)) disk) now result → RunsBehind m feed (environment taken was disk) now result
    by (Ok x) h = h
    by (Err (halt.Refused line w)) h = h
    by (Err halt.ReadFault) h = h
    by (Err halt.WriteFault) h = h
    by (Err halt.StoreFault) h = h
    by (Err (halt.StoreBroken place byte)) h = h
    by (Err halt.LinkFault) h = absurd h
    by (Err (halt.Exhausted next)) h = h
    by (Err halt.OutOfMemory) h = inr h

-- ## The text

pub went : (feed : NetInputs) (was between now : IoState) (old new : Environment) (m : Member) (result : Result (Unit {0}) NodeHalt) → IsMember was between m → now.left ≡ between.left → now.read_faults ≡ between.read_faults
    → RunsBehind m feed (record old { taken = between.taken }) new result → Runs feed was now old new result
went feed was between now old new m (Ok x) read left reads h = record { member = m; between = between; read = read; left = left; reads = reads; rest = h }
went feed was between now old new m (Err (halt.Refused line w)) read left reads h = absurd h
went feed was between now old new m (Err halt.ReadFault) read left reads h = absurd h
went feed was between now old new m (Err halt.WriteFault) read left reads h = record { member = m; between = between; read = read; left = left; reads = reads; rest = h }
went feed was between now old new m (Err halt.StoreFault) read left reads h = record { member = m; between = between; read = read; left = left; reads = reads; rest = h }
went feed was between now old new m (Err (halt.StoreBroken place byte)) read left reads h = record { member = m; between = between; read = read; left = left; reads = reads; rest = h }
went feed was between now old new m (Err halt.LinkFault) read left reads h = record { member = m; between = between; read = read; left = left; reads = reads; rest = h }
went feed was between now old new m (Err (halt.Exhausted next)) read left reads h = record { member = m; between = between; read = read; left = left; reads = reads; rest = h }
went feed was between now old new m (Err halt.OutOfMemory) read left reads h = inr (inr (record { member = m; between = between; read = read; left = left; reads = reads; rest = h }))

pub unread : (feed : NetInputs) (was now : IoState) (old new : Environment) (s : Stop BadWord) → IsUnfinished kit_judging kit.Start was now s → new.link ≡ old.link → new.disk ≡ old.disk → Runs feed was now old new (Err (halt_of s))
unread feed was now old new (stop.Refused line w) h link disk = record { unfinished = h; link = link; disk = disk }
unread feed was now old new stop.ReadFault h link disk = record { unfinished = h; link = link; disk = disk }
unread feed was now old new stop.WriteFault h link disk = absurd (never-unwritten kit_judging kit.Start was now (h nothing))
unread feed was now old new stop.OutOfMemory h link disk = inl (record { unfinished = h; link = link; disk = disk })

pub unread-writable : (was now : IoState) (s : Stop BadWord) → IsUnfinished kit_judging kit.Start was now s → is_writable (Err (halt_of s)) ≡ true
unread-writable was now (stop.Refused line w) h = refl
unread-writable was now stop.ReadFault h = refl
unread-writable was now stop.WriteFault h = absurd (never-unwritten kit_judging kit.Start was now (h nothing))
unread-writable was now stop.OutOfMemory h = refl

pub stop-unstored : (s : Stop BadWord) (P : Type 0) → halt_of s ≡ halt.StoreFault → P
stop-unstored (stop.Refused line w) P e = absurd cc
stop-unstored stop.ReadFault P e = absurd cc
stop-unstored stop.WriteFault P e = absurd cc
stop-unstored stop.OutOfMemory P e = absurd cc

pub stop-unlinked : (s : Stop BadWord) (P : Type 0) → halt_of s ≡ halt.LinkFault → P
stop-unlinked (stop.Refused line w) P e = absurd cc
stop-unlinked stop.ReadFault P e = absurd cc
stop-unlinked stop.WriteFault P e = absurd cc
stop-unlinked stop.OutOfMemory P e = absurd cc

pub begins-behind : (m : Member) (old new : OfDisk) (events : List journal.Event) (h : NodeHalt) → Begins m old new events (Err h) → IsBehind h
begins-behind m old new events (halt.Refused line w) b = absurd b
begins-behind m old new events halt.ReadFault b = absurd b
begins-behind m old new events halt.WriteFault b = absurd b
begins-behind m old new events halt.StoreFault b = tt
begins-behind m old new events (halt.StoreBroken place byte) b = tt
begins-behind m old new events halt.LinkFault b = absurd b
begins-behind m old new events (halt.Exhausted next) b = tt
begins-behind m old new events halt.OutOfMemory b = tt

-- ## The store

-- it was not opened, or the life not begun
pub begins-cause : (m : Member) (name : List ℕ) (old new : OfDisk) (events : List journal.Event) (h : NodeHalt) → Begins m old new events (Err h) → OpensFile {T = Kept} m name old new (Err h) → IsStoreCause m name old new (Err h)
begins-cause m name old new events (halt.Refused line w) b o = tt
begins-cause m name old new events halt.ReadFault b o = tt
begins-cause m name old new events halt.WriteFault b o = tt
begins-cause m name old new events halt.StoreFault b o = tt
begins-cause m name old new events (halt.StoreBroken place byte) b o = o
begins-cause m name old new events halt.LinkFault b o = tt
begins-cause m name old new events (halt.Exhausted next) b o = b
begins-cause m name old new events halt.OutOfMemory b o = tt

-- the life had begun
pub served-cause : (m : Member) (name : List ℕ) (old new : OfDisk) (result : Result (Unit {0}) NodeHalt) → IfErr result IsServed → IsStoreCause m name old new result
served-cause m name old new (Ok x) h = tt
served-cause m name old new (Err (halt.Refused line w)) h = absurd h
served-cause m name old new (Err halt.ReadFault) h = absurd h
served-cause m name old new (Err halt.WriteFault) h = tt
served-cause m name old new (Err halt.StoreFault) h = tt
served-cause m name old new (Err (halt.StoreBroken place byte)) h = absurd h
served-cause m name old new (Err halt.LinkFault) h = tt
served-cause m name old new (Err (halt.Exhausted next)) h = absurd h
served-cause m name old new (Err halt.OutOfMemory) h = tt

-- the text was read
pub read-cause : (name : List ℕ) (was between : IoState) (m : Member) (old new : OfDisk) (result : Result (Unit {0}) NodeHalt) → IsMember was between m → IsStoreCause m name old new result → IsCaused name was old new result
read-cause name was between m old new (Ok x) read h = tt
read-cause name was between m old new (Err (halt.Refused line w)) read h = tt
read-cause name was between m old new (Err halt.ReadFault) read h = tt
read-cause name was between m old new (Err halt.WriteFault) read h = tt
read-cause name was between m old new (Err halt.StoreFault) read h = tt
read-cause name was between m old new (Err (halt.StoreBroken place byte)) read h = record { member = m; between = between; read = read; cause = h }
read-cause name was between m old new (Err halt.LinkFault) read h = tt
read-cause name was between m old new (Err (halt.Exhausted next)) read h = record { member = m; between = between; read = read; cause = h }
read-cause name was between m old new (Err halt.OutOfMemory) read h = tt

-- it wasn't
pub cut-cause : (name : List ℕ) (was : IoState) (old new : OfDisk) (s : Stop BadWord) → IsCaused name was old new (Err (halt_of s))
cut-cause name was old new (stop.Refused line w) = tt
cut-cause name was old new stop.ReadFault = tt
cut-cause name was old new stop.WriteFault = tt
cut-cause name was old new stop.OutOfMemory = tt

-- what was taken where the text was cut off
pub cut-takes : (was now : IoState) (old new : OfDisk) (s : Stop BadWord) → IsUnfinished kit_judging kit.Start was now s → new ≡ old → Takes was now old new (Err (halt_of s))
cut-takes was now old new (stop.Refused line w) h same = (h, same)
cut-takes was now old new stop.ReadFault h same = (h, same)
cut-takes was now old new stop.WriteFault h same = absurd (never-unwritten kit_judging kit.Start was now (h nothing))
cut-takes was now old new stop.OutOfMemory h same = inl (h, same)

-- what was taken where it was read whole
pub whole-takes : (lines : List KitLine) (was between now : IoState) (old new : OfDisk) (result : Result (Unit {0}) NodeHalt) → IsWhole kit_judging kit.Start was between lines
    → now.left ≡ between.left → now.read_faults ≡ between.read_faults → now.write_faults ≡ counted (is_write_fault result) between.write_faults
    → IfErr result IsBehind → IfErr result (λ h. h ≡ halt.LinkFault → now ≡ between) → IfErr result (λ h. h ≡ halt.LinkFault → new ≡ old) → Takes was now old new result
whole-takes lines was between now old new (Ok x) whole left reads writes behind same undone = record { lines = lines; between = between; whole = whole; left = left; reads = reads; writes = writes }
whole-takes lines was between now old new (Err (halt.Refused line w)) whole left reads writes behind same undone = absurd behind
whole-takes lines was between now old new (Err halt.ReadFault) whole left reads writes behind same undone = absurd behind
whole-takes lines was between now old new (Err halt.WriteFault) whole left reads writes behind same undone = record { lines = lines; between = between; whole = whole; left = left; reads = reads; writes = writes }
whole-takes lines was between now old new (Err halt.StoreFault) whole left reads writes behind same undone = record { lines = lines; between = between; whole = whole; left = left; reads = reads; writes = writes }
whole-takes lines was between now old new (Err (halt.StoreBroken place byte)) whole left reads writes behind same undone = record { lines = lines; between = between; whole = whole; left = left; reads = reads; writes = writes }
whole-takes lines was between now old new (Err halt.LinkFault) whole left reads writes behind same undone =
    (record { lines = lines; whole = subst (λ x. IsWhole kit_judging kit.Start was x lines) (sym (same refl)) whole }, undone refl)
whole-takes lines was between now old new (Err (halt.Exhausted next)) whole left reads writes behind same undone = record { lines = lines; between = between; whole = whole; left = left; reads = reads; writes = writes }
whole-takes lines was between now old new (Err halt.OutOfMemory) whole left reads writes behind same undone = inr (record { lines = lines; between = between; whole = whole; left = left; reads = reads; writes = writes })

-- what is as it was looks as it did
pub same-out : {X Y : Type 0} (result : Result (Unit {0}) NodeHalt) (see : X → Y) (old new : X) → IfErr result (λ h. h ≡ halt.LinkFault → new ≡ old) → IfErr result (λ h. h ≡ halt.LinkFault → see new ≡ see old)
same-out (Ok x) see old new same = tt
same-out (Err h) see old new same = λ is. ap see (same is)
