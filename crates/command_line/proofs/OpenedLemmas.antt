-- Where the store of a member is neither broken nor used up.
use Rattle.std.proofs.Common.{◌≡◌, ℕ, ◌<◌, Bool, true, false, List, Option, Some, None, Result, Ok, Err, refl, sym, subst, ap, ◌∙◌, arith}
use Rattle.std.specs.Prelude.{IfErr, IfSome}
use Rattle.epoch_store.specs.declared.Stored.{Stored}
use Rattle.epoch_store.specs.Calls.{HoldsStore, OpensAs}
use Rattle.epoch_store.specs.Store.{StoreOf}
use Rattle.sign_keys.specs.Keys.{index_count, secret_of}
use Rattle.line_text.specs.declared.bad_word.BadWord.{BadWord}
use Rattle.play.specs.Plays.{IoState}
use Rattle.ports.specs.Count.{Rose}
use Rattle.schedule_texts.specs.declared.kit.KitText.TheVariants as kit
use Rattle.schedule_texts.specs.declared.kit_line.KitLine.{KitLine}
use Rattle.secrets.specs.Secrets.{store_tag}
use Rattle.text_trace.specs.Lines.{seen}
use Rattle.whole_text.specs.Gathered.{lines_from, nothing, told_of, unread}
use Rattle.ports.specs.Outside.{OfDisk}
use Rattle.node_command.specs.declared.halt.NodeHalt.{NodeHalt}
use Rattle.node_command.specs.declared.halt.NodeHalt.TheVariants as halt
use Rattle.node_command.specs.declared.kit.Member.{Member}
use Rattle.node_command.specs.declared.kit.Own.{Own}
use Rattle.node_command.specs.Halts.{halt_for}
use Rattle.node_command.specs.Members.{IsMember, SetUp, SetsUp, key_of, kit_judging, set_by, tag_of}
use Rattle.node_command.specs.Running.{IsCaused, Takes}
use Rattle.node_command.proofs.RunLemmas.{tag-long}
use Rattle.command_line.specs.Causes.{Says, status_of_node}
use Rattle.command_line.specs.Ends.{Counts, Tells}
use Rattle.command_line.specs.Serving.{IsNodeDone, IsNodeWhole}
use Rattle.command_line.specs.TracedAs.{NodeCompletes, NoneFailed, OnImage}
use Rattle.command_line.proofs.BehindLemmas.{same-lines}
use Rattle.command_line.proofs.CompleteLemmas.{rose}
use Rattle.command_line.proofs.EnrollLemmas.{failed, found-is, opens}
use Rattle.command_line.proofs.NodeLemmas.{node-unrefused, node-whole}
use Rattle.command_line.specs.declared.status.Status.{Status}
use Rattle.command_line.specs.declared.status.Status.TheVariants as status

abbrev Answer : Type 0
Answer = Result (Unit {0}) NodeHalt

-- the member that was read is the one that the text sets up
record IsSame (a b : Member) : Type 0 where
  group_is : a.group ≡ b.group
  own_is : a.own ≡ b.own

same-up : (u : SetUp) (a b : Member) → SetsUp u a → SetsUp u b → IsSame a b
same-up u a b x y =
    let groups : Some a.group ≡ Some b.group = ap (λ (z : SetUp). z.group) (sym x ∙ y) in
    let owns : Some a.own ≡ Some b.own = ap (λ (z : SetUp). z.own) (sym x ∙ y) in
    record { group_is = cc; own_is = cc }

same-member : (was between : IoState) (all : List ℕ) (lines : List KitLine) (a b : Member) → was.left ≡ Some all → IsMember was between a → lines_from kit_judging (unread kit.Start) (seen all) ≡ Ok lines → SetsUp (set_by lines) b → IsSame a b
same-member was between all lines a b left read are sets =
    let same = same-lines kit_judging kit.Start was between all read.lines lines left read.whole are in
    same-up (set_by lines) a b (subst (λ (ls : List KitLine). SetsUp (set_by ls) a) same read.is) sets

same-tag : (a b : Member) → IsSame a b → tag_of a ≡ tag_of b
same-tag a b same = ap (λ g. store_tag g (key_of a)) same.group_is ∙ ap (λ (o : Own). store_tag b.group (secret_of o.key)) same.own_is

node-opened : (name : List ℕ) (was mid now : IoState) (old new : OfDisk) (r : Answer) (s : Status) (all : List ℕ) (lines : List KitLine) (m : Member) (o : Stored) → was.left ≡ Some all → IsCaused name was old new r → lines_from kit_judging (unread kit.Start) (seen all) ≡ Ok lines
    → SetsUp (set_by lines) m → OnImage old.moments (λ image. StoreOf (tag_of m) image o) → o.next < index_count (key_of m) → IsNodeDone (status_of_node r) → IsNodeWhole (status_of_node r)
node-opened name was mid now old new (Ok _) s all lines m o left cause are sets there some done = tt
node-opened name was mid now old new (Err (halt.Refused line w)) s all lines m o left cause are sets there some done = absurd done
node-opened name was mid now old new (Err halt.ReadFault) s all lines m o left cause are sets there some done = absurd done
node-opened name was mid now old new (Err halt.WriteFault) s all lines m o left cause are sets there some done = absurd done
node-opened name was mid now old new (Err halt.StoreFault) s all lines m o left cause are sets there some done = absurd done
node-opened name was mid now old new (Err (halt.StoreBroken place byte)) s all lines m o left cause are sets there some done =
    let same = same-member was cause.between all lines cause.member m left cause.read are sets in
    let b = cause.cause.broken in
    absurd (opens (tag_of m) old.moments o b.error (tag-long m) there (subst (λ (t : List ℕ). OpensAs t old.moments (failed b.error)) (same-tag cause.member m same) b.reads)
    (λ e. let x : halt.StoreFault ≡ halt.StoreBroken place byte = sym (ap halt_for e) ∙ b.is in cc) (λ e. let x : halt.OutOfMemory ≡ halt.StoreBroken place byte = sym (ap halt_for e) ∙ b.is in cc))
node-opened name was mid now old new (Err halt.LinkFault) s all lines m o left cause are sets there some done = tt
node-opened name was mid now old new (Err (halt.Exhausted next)) s all lines m o left cause are sets there some done =
    let same = same-member was cause.between all lines cause.member m left cause.read are sets in
    let u = cause.cause in
    let found : u.stored ≡ o = found-is (tag_of m) old.moments u.stored o u.found.0 (tag-long m) (subst (λ (t : List ℕ). HoldsStore t u.stored u.found.0 old.moments) (same-tag cause.member m same) u.found.1) there in
    let n : u.stored.next ≡ o.next = ap (λ (x : Stored). x.next) found in
    let count : index_count (key_of cause.member) ≡ index_count (key_of m) = ap (λ (x : Own). index_count (secret_of x.key)) same.own_is in
    absurd (omega (arith, n, count, u.next_is, u.gone, some))
node-opened name was mid now old new (Err halt.OutOfMemory) s all lines m o left cause are sets there some done = tt

-- no write failed, so that the answer is the first cause
node-answered : (was now : IoState) (wrote : Bool) (first : Status) (line : List ℕ) (s : Status) → Says wrote first line s → Counts was now s → ¬ (Rose was.write_faults now.write_faults) → (s ≡ first → IsNodeWhole first) → IsNodeWhole s
node-answered was now false first line s says counts written done = subst IsNodeWhole (sym says.0) (done says.0)
node-answered was now true first line s says counts written done =
    let cut : Counts was now status.WriteFault = subst (Counts was now) says.0 counts in
    absurd (written (rose was.write_faults now.write_faults cut.1))

node-opens : (name : List ℕ) (left : Option (List ℕ)) (was mid now : IoState) (old new : OfDisk) (r : Answer) (s : Status) → was.left ≡ left → Takes was mid old new r → IfErr r (λ h. h ≡ halt.StoreFault → Rose old.faults new.faults)
    → IsCaused name was old new r → Tells (status_of_node r) mid now s → Counts was now s
    → IfSome left (λ all. (lines : List KitLine) (m : Member) (o : Stored) → lines_from kit_judging (unread kit.Start) (seen all) ≡ Ok lines → SetsUp (set_by lines) m → OnImage old.moments (λ image. StoreOf (tag_of m) image o) → o.next < index_count (key_of m)
    → NoneFailed was now old new → IsNodeWhole s)
node-opens name None was mid now old new r s left h store cause t counts = tt
node-opens name (Some all) was mid now old new r s left h store cause t counts = λ lines m o are sets there some fine.
    let none = ap (λ (x : Result (List KitLine) BadWord). (told_of nothing x).cause) are in
    node-answered was now t.failed (status_of_node r) t.line s t.says counts fine.writes
    (λ is. node-opened name was mid now old new r s all lines m o left cause are sets there some (node-whole was mid now old new r s all left h store counts none fine is))

pub node-completes : (name : List ℕ) (was mid now : IoState) (old new : OfDisk) (r : Answer) (s : Status) → Takes was mid old new r → IfErr r (λ h. h ≡ halt.StoreFault → Rose old.faults new.faults) → IsCaused name was old new r
    → Tells (status_of_node r) mid now s → Counts was now s → NodeCompletes was now old new s
node-completes name was mid now old new r s h store cause t counts = record {
  unrefused = node-unrefused was mid now old new r s h store t counts;
  opened = node-opens name was.left was mid now old new r s refl h store cause t counts;
}
