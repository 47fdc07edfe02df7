-- What the run of a member has spent of its key, whatever ended it.
use Rattle.std.proofs.Common.{◌≡◌, ℕ, Bool, false, List, [], ◌++◌, Option, Result, Ok, Err, inl, inr, refl, ap, sym, ◌∙◌, subst, append_assoc, append-nil, take, drop, take-append-drop}
use Rattle.std.specs.Prelude.{IfErr}
use Rattle.std.specs.Io.KnownBytes.{Appends}
use Rattle.std.proofs.KnownBytes.{Appends-nil, Appends-trans}
use Rattle.epoch_store.specs.declared.Stored.{Stored}
use Rattle.journal.specs.declared.event.Event as journal
use Rattle.line_text.specs.declared.bad_word.BadWord.{BadWord}
use Rattle.play.specs.Plays.{IoState}
use Rattle.play.specs.declared.stop.Stop.{Stop}
use Rattle.play.specs.declared.stop.Stop.TheVariants as stop
use Rattle.ports.specs.Contents.{TookFront}
use Rattle.ports.specs.Count.{counted}
use Rattle.ports.specs.Disk.{Fails, Moment, stays}
use Rattle.ports.specs.Outside.{OfDisk}
use Rattle.ports.proofs.SinceLemmas.{Since-same, Since-trans, Since-weaken}
use Rattle.schedule_texts.specs.declared.kit.KitText.TheVariants as kit
use Rattle.schedule_texts.specs.declared.kit_line.KitLine.{KitLine}
use Rattle.whole_text.specs.Gathered.{IsUnfinished, IsWhole, nothing}
use Rattle.whole_text.proofs.WholeLemmas.{never-unwritten}
use Rattle.signer.specs.Lives.{EndsLives, EndsNow, EndsWithin, Spent}
use Rattle.signer.specs.Signing.{SignerState}
use Rattle.signer.proofs.LivingLemmas.{kept_by_opening}
use Rattle.signer.proofs.OnwardLemmas.{front-after, front-trans}
use Rattle.node_core.specs.Playing.{Kept}
use Rattle.node_core.specs.Spending.{spent_told}
use Rattle.node_core.proofs.SpendLemmas.{lives-same}
use Rattle.node_loop.specs.declared.fault.ServeFault.{ServeFault}
use Rattle.node_loop.specs.declared.fault.ServeFault.TheVariants as serve
use Rattle.node_loop.specs.Lines.{GoesOn, WritesLines, WritesSpent, WroteFront, spent_in}
use Rattle.turn_rules.specs.Lines.{JournalLine, bytes_of}
use Rattle.node_loop.proofs.LineLemmas.{bytes-append, faults-trans, front-behind, front-longer, spent-append, spent-unwritten}
use Rattle.node_command.specs.declared.halt.NodeHalt.{NodeHalt}
use Rattle.node_command.specs.declared.halt.NodeHalt.TheVariants as halt
use Rattle.node_command.specs.declared.kit.Member.{Member}
use Rattle.node_command.specs.Halts.{IsServed, halt_of, halt_served}
use Rattle.turn_rules.specs.Journals.{end_line}
use Rattle.node_command.specs.Members.{IsMember, kit_judging, tag_of}
use Rattle.node_command.specs.Opening.{Begins, Ends, EndsFronts, IsBegun, IsFound, IsUnstarted, start_of}
use Rattle.node_command.specs.Spendings.{IsSpentFrom, LifeSpends, MayFindNone, Spends, SpendsBehind, SpendsFrom, SpendsNone, SpendsNothing, WritesJournal, is_unbound}
use Rattle.node_command.proofs.RestLemmas.{silent-unread}
use Rattle.node_command.proofs.RunLemmas.{spent-from}

abbrev Answer : Type 0
Answer = Result (Unit {0}) NodeHalt

-- ## The lines

lines-ended : (before after : Option (List ℕ)) (lines : List JournalLine) (e : ServeFault) → WritesLines before after lines (Err e) → WritesJournal before after lines (Err (halt_served e))
lines-ended before after lines serve.StoreFault h = h
lines-ended before after lines serve.WriteFault h = front-longer before after (bytes_of lines) end_line h
lines-ended before after lines serve.OutOfMemory h = h

took-front : (before after : Option (List ℕ)) (bytes : List ℕ) → TookFront before after bytes → WroteFront before after bytes
took-front before after bytes h =
    record { text = take h.count bytes; front = record { more = drop h.count bytes; is = sym (take-append-drop h.count bytes) }; written = h.gained }

journal-trans : (before mid after : Option (List ℕ)) (xs ys : List JournalLine) (result : Answer) → IfErr result IsServed → Appends before mid (bytes_of xs) → WritesJournal mid after ys result → WritesJournal before after (xs ++ ys) result
journal-trans before mid after xs ys result served first h = by result served h
  where
    all : (more : List ℕ) → bytes_of xs ++ (bytes_of ys ++ more) ≡ bytes_of (xs ++ ys) ++ more
    all more = sym (append_assoc (bytes_of xs) (bytes_of ys) more) ∙ ap (λ t. t ++ more) (sym (bytes-append xs ys))

    by : (result : Answer) → IfErr result IsServed → WritesJournal mid after ys result → WritesJournal before after (xs ++ ys) result
    by (Ok x) s w = subst (Appends before after) (all end_line) (Appends-trans before mid after (bytes_of xs) (bytes_of ys ++ end_line) first w)
    by (Err (halt.Refused line w1)) s w = absurd s
    by (Err halt.ReadFault) s w = absurd s
    by (Err halt.WriteFault) s w = subst (WroteFront before after) (all end_line) (front-behind before mid after (bytes_of xs) (bytes_of ys ++ end_line) first w)
    by (Err halt.StoreFault) s w = subst (Appends before after) (sym (bytes-append xs ys)) (Appends-trans before mid after (bytes_of xs) (bytes_of ys) first w)
    by (Err (halt.StoreBroken place byte)) s w = absurd s
    by (Err halt.LinkFault) s w = absurd s
    by (Err (halt.Exhausted next)) s w = absurd s
    by (Err halt.OutOfMemory) s w = subst (WroteFront before after) (sym (bytes-append xs ys)) (front-behind before mid after (bytes_of xs) (bytes_of ys) first w)

-- ## A life

-- it was served to the last line
pub served-spends : (s later : SignerState) (older newer : List Moment) (before mid after : Option (List ℕ)) (i j : ℕ) (x : Unit {0}) → GoesOn s later older newer before mid i j (Ok x) → Appends mid after end_line → LifeSpends [] s older newer before after i j (Ok x)
served-spends s later older newer before mid after i j x h ended =
    record { lines = h.lines; written = Appends-trans before mid after (bytes_of h.lines) end_line h.written ended; later = later; spent = spent_in h.lines; give = refl; key = h.key; link = h.link }

pub unended-spends : (s later : SignerState) (older newer : List Moment) (before mid after : Option (List ℕ)) (i j : ℕ) (x : Unit {0}) → GoesOn s later older newer before mid i j (Ok x) → TookFront mid after end_line → LifeSpends [] s older newer before after i j (Err halt.WriteFault)
unended-spends s later older newer before mid after i j x h cut = record {
  lines = h.lines;
  written = front-behind before mid after (bytes_of h.lines) end_line h.written (took-front mid after end_line cut);
  later = later;
  spent = spent_in h.lines;
  give = refl;
  key = h.key;
  link = h.link;
}

pub unserved-spends : (s later : SignerState) (older newer : List Moment) (before after : Option (List ℕ)) (i j : ℕ) (e : ServeFault) → GoesOn s later older newer before after i j (Err e) → LifeSpends [] s older newer before after i j (Err (halt_served e))
unserved-spends s later older newer before after i j e h =
    record { lines = h.lines; written = lines-ended before after h.lines e h.written; later = later; spent = spent_in h.lines; give = refl; key = h.key; link = h.link }

-- behind what the start reports
pub told-spends : (told : List journal.Event) (s : SignerState) (older newer : List Moment) (before mid after : Option (List ℕ)) (i j k : ℕ) (x : Unit {0}) (result : Answer) → WritesSpent (spent_told told) before mid i j (Ok x) → IfErr result IsServed
    → LifeSpends [] s older newer mid after j k result → LifeSpends told s older newer before after i k result
told-spends told s older newer before mid after i j k x result first served h = record {
  lines = first.lines ++ h.lines;
  written = journal-trans before mid after first.lines h.lines result served first.written h.written;
  later = h.later;
  spent = h.spent;
  give = spent-append first.lines h.lines ∙ ap (λ xs. xs ++ spent_in h.lines) first.give ∙ ap (λ xs. spent_told told ++ xs) h.give;
  key = h.key;
  link = faults-trans first.lines h.lines i j k first.link h.link;
}

-- what the start reports broke off
pub untold-spends : (told : List journal.Event) (s : SignerState) (moments : List Moment) (before after : Option (List ℕ)) (i j : ℕ) (e : ServeFault) → WritesSpent (spent_told told) before after i j (Err e) → LifeSpends told s moments moments before after i j (Err (halt_served e))
untold-spends told s moments before after i j e h =
    record { lines = h.lines; written = lines-ended before after h.lines e h.written; later = s; spent = []; give = h.give ∙ sym (append-nil (spent_told told)); key = lives-same s s moments refl; link = h.link }

-- ## A run

none-spent : (stored : Stored) → IsSpentFrom stored []
none-spent stored = record { once = record { indexes_rise = tt; epochs_rise = tt }; above = tt; later = tt }

-- a life that began and went on
pub begun-spends : (m : Member) (stored : Stored) (node : Kept) (events : List journal.Event) (before after : Option (List ℕ)) (old mid new : OfDisk) (i j : ℕ) (result : Answer) → IsBegun m stored node events old mid
    → LifeSpends events node.signer mid.moments new.moments before after i j result → SpendsFrom m before after old new i j result
begun-spends m stored node events before after old mid new i j result b l =
    let first = spent_told (start_of m stored).told in
    let all : first ++ l.spent ≡ spent_in l.lines = ap (λ (es : List journal.Event). spent_told es ++ l.spent) (sym b.told_is) ∙ sym l.give in
    record {
      stored = stored;
      found = b.found;
      lines = l.lines;
      written = l.written;
      from = λ tells. let f = b.fresh tells in
          subst (IsSpentFrom stored) all (spent-from m stored f.0 (first ++ l.spent) l.later new.moments f.1 (l.key.lives (tag_of m) f.0 first f.2));
      ends = subst (λ (xs : List Spent). Ends m xs old new) all
          (λ image spent ends. subst (λ (xs : List Spent). EndsNow (tag_of m) image xs new.moments) (append_assoc spent first l.spent)
          (l.key.lives (tag_of m) image (spent ++ first) (b.lives image spent ends)).ends);
      any_moment = subst (λ (xs : List Spent). EndsFronts m xs old new) all
          (λ image spent ends.
          Since-trans (EndsWithin (tag_of m) image spent (first ++ l.spent)) old.moments mid.moments new.moments
          (Since-weaken (EndsWithin (tag_of m) image spent first) (EndsWithin (tag_of m) image spent (first ++ l.spent)) old.moments mid.moments
          (λ at h. record { done = h.done; front = front-trans h.done first (first ++ l.spent) h.front (record { more = l.spent; is = refl }); ends = h.ends }) (b.any_moment image spent ends))
          (Since-weaken (EndsWithin (tag_of m) image (spent ++ first) l.spent) (EndsWithin (tag_of m) image spent (first ++ l.spent)) mid.moments new.moments
          (λ at h. record {
            done = first ++ h.done;
            front = front-after first h.done l.spent h.front;
            ends = subst (λ (xs : List Spent). EndsLives (tag_of m) image xs at) (append_assoc spent first h.done) h.ends;
          }) (l.key.any_moment (tag_of m) image (spent ++ first) (b.lives image spent ends))));
      link = l.link;
    }

-- the disk is as it was
none-spends : (was now : Option (List ℕ)) (disk : OfDisk) → Appends was now [] → SpendsNone was now disk disk
none-spends was now disk unwritten = record { unwritten = unwritten; any_moment = λ tag image spent ends. Since-same (EndsLives tag image spent) disk.moments; ends = λ tag image spent ends. ends }

pub same-spends : (taken : Option (List ℕ)) (disk : OfDisk) (i j : ℕ) (result : Answer) → j ≡ counted (is_unbound result) i → SpendsNothing taken taken disk disk i j result
same-spends taken disk i j result link = record { none = none-spends taken taken disk (Appends-nil taken); link = link }

failed-spends : (taken : Option (List ℕ)) (old new : OfDisk) (i : ℕ) (result : Answer) → is_unbound result ≡ false → Fails stays old.moments new.moments → SpendsNothing taken taken old new i i result
failed-spends taken old new i result bound fails = record {
  none = record {
    unwritten = Appends-nil taken;
    any_moment = λ tag image spent ends. (kept_by_opening tag image spent old.moments new.moments ends fails).0;
    ends = λ tag image spent ends. (kept_by_opening tag image spent old.moments new.moments ends fails).1;
  };
  link = sym (ap (λ (b : Bool). counted b i) bound);
}

-- nothing was spent of a store that was found
spent-none : (m : Member) (stored : Stored) (taken : Option (List ℕ)) (old new : OfDisk) (i : ℕ) (result : Answer) → IsFound m stored old → WritesJournal taken taken [] result → Ends m [] old new → EndsFronts m [] old new → SpendsFrom m taken taken old new i i result
spent-none m stored taken old new i result found written ends fronts =
    record { stored = stored; found = found; lines = []; written = written; from = λ tells. none-spent stored; ends = ends; any_moment = fronts; link = refl }

-- memory was refused as the life began
spent-unstarted : (m : Member) (taken : Option (List ℕ)) (old new : OfDisk) (i : ℕ) → IsUnstarted m old new → SpendsFrom m taken taken old new i i (Err halt.OutOfMemory)
spent-unstarted m taken old new i start =
    let lines = spent-unwritten start.spent taken i in
    let same : start.spent ≡ spent_in lines.lines = sym lines.give in
    record {
      stored = start.stored;
      found = start.found;
      lines = lines.lines;
      written = lines.written;
      from = λ tells. let f = start.fresh tells in subst (IsSpentFrom start.stored) same (spent-from m start.stored f.0 start.spent start.signer new.moments f.1 f.2);
      ends = subst (λ (xs : List Spent). Ends m xs old new) same start.ends;
      any_moment = subst (λ (xs : List Spent). EndsFronts m xs old new) same start.any_moment;
      link = lines.link;
    }

-- no life began
pub unbegun-spends : (m : Member) (taken : Option (List ℕ)) (old new : OfDisk) (count : ℕ) (events : List journal.Event) (h : NodeHalt) → Begins m old new events (Err h) → SpendsBehind m taken taken old new count count (Err h)
unbegun-spends m taken old new count events (halt.Refused line w) b = absurd b
unbegun-spends m taken old new count events halt.ReadFault b = absurd b
unbegun-spends m taken old new count events halt.WriteFault b = absurd b
unbegun-spends m taken old new count events halt.StoreFault b =
    elim b [
      | inl opening ↦ inl (tt, failed-spends taken old new count (Err halt.StoreFault) refl opening.moments)
      | inr start ↦ inr (spent-none m start.stored taken old new count (Err halt.StoreFault) start.found (Appends-nil taken) start.ends start.any_moment)
    ]
unbegun-spends m taken old new count events (halt.StoreBroken place byte) b = inl (tt, failed-spends taken old new count (Err (halt.StoreBroken place byte)) refl b.moments)
unbegun-spends m taken old new count events halt.LinkFault b = absurd b
unbegun-spends m taken old new count events (halt.Exhausted next) b = inr (spent-none m b.stored taken old new count (Err (halt.Exhausted next)) b.found (refl, Appends-nil taken) b.ends b.any_moment)
unbegun-spends m taken old new count events halt.OutOfMemory b =
    elim b [
      | inl opening ↦ inl (tt, failed-spends taken old new count (Err halt.OutOfMemory) refl opening.moments)
      | inr start ↦ inr (spent-unstarted m taken old new count start)
    ]

-- ## The text

behind-text : (was between : Option (List ℕ)) (now : Option (List ℕ)) (bytes : List ℕ) → Appends was between [] → Appends between now bytes → Appends was now bytes
behind-text was between now bytes first h = Appends-trans was between now [] bytes first h

front-text : (was between now : Option (List ℕ)) (bytes : List ℕ) → Appends was between [] → WroteFront between now bytes → WroteFront was now bytes
front-text was between now bytes first h = record { text = h.text; front = h.front; written = behind-text was between now h.text first h.written }

-- What was spent behind the text was spent in the run.
pub read-spends : (was between now : IoState) (m : Member) (old new : OfDisk) (i j : ℕ) (result : Answer) → IsMember was between m → SpendsBehind m between.taken now.taken old new i j result → Spends was now old new i j result
read-spends was between now m old new i j result read h =
    elim h [
      | inl none ↦
          let nothing = none.1 in
          inl (none.0, record { none = record { unwritten = behind-text was.taken between.taken now.taken [] read.whole.wrote nothing.none.unwritten; any_moment = nothing.none.any_moment; ends = nothing.none.ends }; link = nothing.link })
      | inr some ↦ inr (record {
        member = m;
        between = between;
        read = read;
        spends = record { stored = some.stored; found = some.found; lines = some.lines; written = by result some.lines some.written; from = some.from; ends = some.ends; any_moment = some.any_moment; link = some.link };
      })
    ]
  where
    by : (result : Answer) (lines : List JournalLine) → WritesJournal between.taken now.taken lines result → WritesJournal was.taken now.taken lines result
    by (Ok x) lines w = behind-text was.taken between.taken now.taken (bytes_of lines ++ end_line) read.whole.wrote w
    by (Err (halt.Refused line w1)) lines w = (w.0, behind-text was.taken between.taken now.taken [] read.whole.wrote w.1)
    by (Err halt.ReadFault) lines w = (w.0, behind-text was.taken between.taken now.taken [] read.whole.wrote w.1)
    by (Err halt.WriteFault) lines w = front-text was.taken between.taken now.taken (bytes_of lines ++ end_line) read.whole.wrote w
    by (Err halt.StoreFault) lines w = behind-text was.taken between.taken now.taken (bytes_of lines) read.whole.wrote w
    by (Err (halt.StoreBroken place byte)) lines w = (w.0, behind-text was.taken between.taken now.taken [] read.whole.wrote w.1)
    by (Err halt.LinkFault) lines w = (w.0, behind-text was.taken between.taken now.taken [] read.whole.wrote w.1)
    by (Err (halt.Exhausted next)) lines w = (w.0, behind-text was.taken between.taken now.taken [] read.whole.wrote w.1)
    by (Err halt.OutOfMemory) lines w = front-text was.taken between.taken now.taken (bytes_of lines) read.whole.wrote w

-- the text wasn't read to its end
may-cut : (was now : IoState) (s : Stop BadWord) → IsUnfinished kit_judging kit.Start was now s → MayFindNone (Err (halt_of s))
may-cut was now (stop.Refused line w) h = tt
may-cut was now stop.ReadFault h = tt
may-cut was now stop.WriteFault h = absurd (never-unwritten kit_judging kit.Start was now (h nothing))
may-cut was now stop.OutOfMemory h = tt

bound-still : (s : Stop BadWord) → is_unbound (Err (halt_of s)) ≡ false
bound-still (stop.Refused line w) = refl
bound-still stop.ReadFault = refl
bound-still stop.WriteFault = refl
bound-still stop.OutOfMemory = refl

pub cut-spends : (was now : IoState) (disk : OfDisk) (count : ℕ) (s : Stop BadWord) → IsUnfinished kit_judging kit.Start was now s → Spends was now disk disk count count (Err (halt_of s))
cut-spends was now disk count s h =
    inl (may-cut was now s h, record { none = none-spends was.taken now.taken disk (silent-unread kit_judging kit.Start was now s h); link = sym (ap (λ (b : Bool). counted b count) (bound-still s)) })

-- memory was refused for what it sets up
pub ungathered-spends : (was now : IoState) (lines : List KitLine) (disk : OfDisk) (count : ℕ) → IsWhole kit_judging kit.Start was now lines → Spends was now disk disk count count (Err halt.OutOfMemory)
ungathered-spends was now lines disk count h =
    inl (tt, record { none = none-spends was.taken now.taken disk h.wrote; link = refl })
