-- What is known of less that is owed.
use Rattle.std.proofs.Common.{ℕ, inl, inr, List, ◌++◌, Option, Some, None, Result, Ok, Err}
use Rattle.text_trace.specs.Trace.{Continuation, Refuses}
use Rattle.play.specs.declared.stop.Stop.{Stop}
use Rattle.play.specs.declared.stop.Stop.TheVariants as stop
use Rattle.play.specs.Plays.{Follows, IoState, IsAdmitted, Runs, Starved}

refuses-less : (C : Type 0) (A B : Continuation C → Type 0) (lines : List (List ℕ)) (last : Option (List ℕ)) (text : List ℕ) (c : C) → ((f : Continuation C) → B f → A f) → Refuses C A lines last text c → Refuses C B lines last text c
refuses-less C A B lines (Some line) text c less h = λ f b. h f (less f b)
refuses-less C A B lines None text c less h = λ f b. h f (less f b)

follows-less : (C : Type 0) (A B : Continuation C → Type 0) (lines : List (List ℕ)) (last : Option (List ℕ)) (text : List ℕ) → ((f : Continuation C) → B f → A f) → Follows C A lines last text → Follows C B lines last text
follows-less C A B lines (Some line) text less h = (h.0, λ f b. h.1 f (less f b))
follows-less C A B lines None text less h = λ f b. h f (less f b)

admitted-less : (C : Type 0) (P : C → Type 0) (A B : Continuation C → Type 0) (lines : List (List ℕ)) (last left : Option (List ℕ)) → ((f : Continuation C) → B f → A f) → IsAdmitted C P A lines last left → IsAdmitted C P B lines last left
admitted-less C P A B lines (Some line) left less h = (h.0, λ f b. h.1 f (less f b))
admitted-less C P A B lines None left less h = (h.0, λ f b. h.1 f (less f b))

starved-less : (C : Type 0) (P : C → Type 0) (A B : Continuation C → Type 0) (room : ℕ) (was now : IoState) → ((f : Continuation C) → B f → A f) → Starved C P A room was now → Starved C P B room was now
starved-less C P A B room was now less h = record {
  lines = h.lines;
  bytes = h.bytes;
  last = h.last;
  text = h.text;
  taken = h.taken;
  read = h.read;
  admitted = admitted-less C P A B h.lines h.last now.left less h.admitted;
  wrote = h.wrote;
  writes = λ f b. h.writes f (less f b);
  unfailed = h.unfailed;
}

-- what holds of all that A owes holds of all that B owes, where A owes it too
pub runs-less : (C : Type 0) (P : C → Type 0) (A B : Continuation C → Type 0) (room : ℕ) (was now : IoState) (result : Result (Unit {0}) (Stop C)) → ((f : Continuation C) → B f → A f) → Runs C P A room was now result → Runs C P B room was now result
runs-less C P A B room was now (Ok _) less h = record {
  lines = h.lines;
  bytes = h.bytes;
  text = h.text;
  taken = h.taken;
  read = h.read;
  used_up = h.used_up;
  wrote = h.wrote;
  ends = λ f b. h.ends f (less f b);
  unfailed = h.unfailed;
}
runs-less C P A B room was now (Err (stop.Refused line cause)) less h = record {
  lines = h.lines;
  bytes = h.bytes;
  last = h.last;
  text = h.text;
  taken = h.taken;
  counted = h.counted;
  read = h.read;
  stands = h.stands;
  wrote = h.wrote;
  writes = λ f b. h.writes f (less f b);
  refuses = refuses-less C A B h.lines h.last h.text cause less h.refuses;
  unfailed = h.unfailed;
}
runs-less C P A B room was now (Err stop.ReadFault) less h = record {
  lines = h.lines;
  bytes = h.bytes;
  part = h.part;
  text = h.text;
  taken = h.taken;
  read = h.read;
  clear = h.clear;
  short = h.short;
  wrote = h.wrote;
  writes = λ f b. h.writes f (less f b);
  failed = h.failed;
  kept = h.kept;
}
runs-less C P A B room was now (Err stop.WriteFault) less h = record {
  lines = h.lines;
  bytes = h.bytes;
  last = h.last;
  text = h.text;
  more = h.more;
  count = h.count;
  taken = h.taken;
  read = h.read;
  stands = h.stands;
  writes = λ f b. h.writes f (less f b);
  follows = follows-less C A B h.lines h.last (h.text ++ h.more) less h.follows;
  short = h.short;
  wrote = h.wrote;
  failed = h.failed;
  kept = h.kept;
}
runs-less C P A B room was now (Err stop.OutOfMemory) less h = elim h [ inl same ↦ inl same | inr starved ↦ inr (starved-less C P A B room was now less starved) ]
