-- What is known of causes of one kind is known of those of another, which names each of them.
use Rattle.std.proofs.Common.{◌≡◌, ℕ, List, [], ◌∷◌, ◌++◌, Option, Some, None, Result, Ok, Err, refl, ap, sym, ◌∙◌, subst}
use Rattle.std.specs.Option.{option_map}
use Rattle.text_trace.specs.Trace.{Admits, Continuation, Ends, Every, IsFree, Refuses, Steps, Trace, Waits, Writes}
use Rattle.text_trace.proofs.TraceLemmas.{free-as, steps-weaker, waits-same}
use Rattle.play.specs.declared.script.Refusal.{Refusal}
use Rattle.play.specs.declared.script.Refusal.TheVariants as refusal
use Rattle.play.specs.declared.stop.Stop.{Stop}
use Rattle.play.specs.declared.stop.Stop.TheVariants as stop
use Rattle.play.specs.Answers.{AnswersEnd, AnswersLine}
use Rattle.play.specs.Named.{IsNaming, OwesAs, answer_as, owed_as, run_as, stop_as, trace_as}
use Rattle.play.specs.Plays.{Continues, Follows, IoState, IsAdmitted, Stops}

-- ## What is owed

abbrev cause_of : {C : Type 0} → Trace C → Option C
cause_of t = t.cause

at-lines : {D : Type 0} → (f g : Continuation D) (lines : List (List ℕ)) → f ≡ g → f lines ≡ g lines
at-lines f g lines same = ap (λ (h : Continuation _). h lines) same

record Named (C D : Type 0) (name : C → D) (o : Option C) (d : D) : Type 0 where
  cause : C
  is : o ≡ Some cause
  called : name cause ≡ d

named : (C D : Type 0) (name : C → D) (o : Option C) (d : D) → option_map name o ≡ Some d → Named C D name o d
named C D name None d e = absurd cc
named C D name (Some c) d e = record { cause = c; is = refl; called = cc }

unnamed : (C D : Type 0) (name : C → D) (o : Option C) (c : C) → ((a b : C) → name a ≡ name b → a ≡ b) → option_map name o ≡ Some (name c) → o ≡ Some c
unnamed C D name None c apart e = absurd cc
unnamed C D name (Some b) c apart e = ap Some (apart b c cc)

-- no name of a cause refuses the text whatever comes, where no cause does
free-named : (C D : Type 0) (P : C → Type 0) (Q : D → Type 0) (name : C → D) (f : Continuation C) → IsNaming C D P Q name → IsFree C P f → IsFree D Q (owed_as name f)
free-named C D P Q name f naming free = λ d judged all.
    let one = named C D name (f []).cause d (all []) in
    free one.cause (naming.judged one.cause (subst Q (sym one.called) judged)) (λ lines. unnamed C D name (f lines).cause one.cause naming.apart (all lines ∙ ap Some (sym one.called)))

-- between two lines nothing is owed by any name
pub waits-named : (C D : Type 0) (name : C → D) (f : Continuation C) → ((a b : C) → name a ≡ name b → a ≡ b) → Waits C f → Waits D (owed_as name f)
waits-named C D name f apart waits = record {
  silent = waits.silent;
  unrefused = free-named C D Every Every name f (record { apart = apart; judged = λ c _. tt }) waits.unrefused;
}

steps-named : (C D : Type 0) (name : C → D) (A B : Continuation C → Type 0) (lines : List (List ℕ)) (text : List ℕ) → Steps C A B lines text → Steps D (OwesAs C D name A) (OwesAs C D name B) lines text
steps-named C D name A B lines text steps = λ f owes.
    let one = steps owes.owed owes.is in
    record {
      later = owed_as name one.later;
      owes = record { owed = one.later; is = one.owes; same = refl };
      same = λ rest. at-lines f (owed_as name owes.owed) (lines ++ rest) owes.same ∙ ap (trace_as name) (one.same rest);
    }

writes-named : (C D : Type 0) (name : C → D) (A : Continuation C → Type 0) (lines : List (List ℕ)) (text : List ℕ) → ((a b : C) → name a ≡ name b → a ≡ b) → Writes C A lines text → Writes D (OwesAs C D name A) lines text
writes-named C D name A lines text apart writes = steps-weaker D (OwesAs C D name A) (OwesAs C D name (Waits C)) (Waits D) lines text
    (λ f owes. waits-same D f (owed_as name owes.owed) owes.same (waits-named C D name owes.owed apart owes.is)) (steps-named C D name A (Waits C) lines text writes)

ends-named : (C D : Type 0) (name : C → D) (A : Continuation C → Type 0) (lines : List (List ℕ)) (text : List ℕ) → Ends C A lines text → Ends D (OwesAs C D name A) lines text
ends-named C D name A lines text ends = λ f owes. at-lines f (owed_as name owes.owed) lines owes.same ∙ ap (trace_as name) (ends owes.owed owes.is)

refuses-named : (C D : Type 0) (name : C → D) (A : Continuation C → Type 0) (lines : List (List ℕ)) (last : Option (List ℕ)) (text : List ℕ) (c : C) → Refuses C A lines last text c → Refuses D (OwesAs C D name A) lines last text (name c)
refuses-named C D name A lines (Some line) text c refuses = λ f owes rest. at-lines f (owed_as name owes.owed) (lines ++ line ∷ rest) owes.same ∙ ap (trace_as name) (refuses owes.owed owes.is rest)
refuses-named C D name A lines None text c refuses = λ f owes. at-lines f (owed_as name owes.owed) lines owes.same ∙ ap (trace_as name) (refuses owes.owed owes.is)

admits-named : (C D : Type 0) (P : C → Type 0) (Q : D → Type 0) (name : C → D) (A : Continuation C → Type 0) (lines : List (List ℕ)) (last : Option (List ℕ)) → IsNaming C D P Q name → Admits C P A lines last → Admits D Q (OwesAs C D name A) lines last
admits-named C D P Q name A lines (Some line) naming admits = λ f owes.
    free-as D Q (λ rest. f (lines ++ line ∷ rest)) (λ rest. owed_as name owes.owed (lines ++ line ∷ rest)) (λ rest. ap cause_of (at-lines f (owed_as name owes.owed) (lines ++ line ∷ rest) owes.same))
    (free-named C D P Q name (λ rest. owes.owed (lines ++ line ∷ rest)) naming (admits owes.owed owes.is))
admits-named C D P Q name A lines None naming admits = λ f owes. ap cause_of (at-lines f (owed_as name owes.owed) lines owes.same) ∙ ap (option_map name) (admits owes.owed owes.is)

-- ## What a script answers

-- a line, from what A owes to what B owes
pub line-named : (C D : Type 0) (P : C → Type 0) (Q : D → Type 0) (name : C → D) (A B : Continuation C → Type 0) (bytes text : List ℕ) (r : Result (Unit {0}) (Refusal C)) → IsNaming C D P Q name → AnswersLine C P A B bytes text r → AnswersLine D Q (OwesAs C D name A) (OwesAs C D name B) bytes text (answer_as name r)
line-named C D P Q name A B bytes text (Ok done) naming h = (h.0, steps-named C D name A B (bytes ∷ []) text h.1)
line-named C D P Q name A B bytes text (Err (refusal.Refused c)) naming h = refuses-named C D name A [] (Some bytes) [] c h
line-named C D P Q name A B bytes text (Err refusal.OutOfMemory) naming h = (h.0, admits-named C D P Q name A [] (Some bytes) naming h.1)

-- the end of a text
pub end-named : (C D : Type 0) (P : C → Type 0) (Q : D → Type 0) (name : C → D) (A : Continuation C → Type 0) (text : List ℕ) (r : Result (Unit {0}) (Refusal C)) → IsNaming C D P Q name → AnswersEnd C P A text r → AnswersEnd D Q (OwesAs C D name A) text (answer_as name r)
end-named C D P Q name A text (Ok done) naming h = ends-named C D name A [] text h
end-named C D P Q name A text (Err (refusal.Refused c)) naming h = refuses-named C D name A [] None [] c h
end-named C D P Q name A text (Err refusal.OutOfMemory) naming h = admits-named C D P Q name A [] None naming h

-- ## How a run went on

follows-named : (C D : Type 0) (name : C → D) (A : Continuation C → Type 0) (lines : List (List ℕ)) (last : Option (List ℕ)) (text : List ℕ) → ((a b : C) → name a ≡ name b → a ≡ b) → Follows C A lines last text → Follows D (OwesAs C D name A) lines last text
follows-named C D name A lines (Some line) text apart follows = (follows.0, writes-named C D name A (lines ++ line ∷ []) text apart follows.1)
follows-named C D name A lines None text apart follows = ends-named C D name A lines text follows

admitted-named : (C D : Type 0) (P : C → Type 0) (Q : D → Type 0) (name : C → D) (A : Continuation C → Type 0) (lines : List (List ℕ)) (last left : Option (List ℕ)) → IsNaming C D P Q name → IsAdmitted C P A lines last left → IsAdmitted D Q (OwesAs C D name A) lines last left
admitted-named C D P Q name A lines (Some line) left naming admitted = (admitted.0, admits-named C D P Q name A lines (Some line) naming admitted.1)
admitted-named C D P Q name A lines None left naming admitted = (admitted.0, admits-named C D P Q name A lines None naming admitted.1)

stops-named : (C D : Type 0) (P : C → Type 0) (Q : D → Type 0) (name : C → D) (A : Continuation C → Type 0) (first room : ℕ) (was now : IoState) (s : Stop C) → IsNaming C D P Q name → Stops C P A first room was now s → Stops D Q (OwesAs C D name A) first room was now (stop_as name s)
stops-named C D P Q name A first room was now (stop.Refused line cause) naming h = record {
  lines = h.lines;
  bytes = h.bytes;
  last = h.last;
  text = h.text;
  taken = h.taken;
  counted = h.counted;
  read = h.read;
  stands = h.stands;
  wrote = h.wrote;
  writes = writes-named C D name A h.lines h.text naming.apart h.writes;
  refuses = refuses-named C D name A h.lines h.last h.text cause h.refuses;
  unfailed = h.unfailed;
}
stops-named C D P Q name A first room was now stop.ReadFault naming h = record {
  lines = h.lines;
  bytes = h.bytes;
  part = h.part;
  text = h.text;
  taken = h.taken;
  read = h.read;
  clear = h.clear;
  short = h.short;
  wrote = h.wrote;
  writes = writes-named C D name A h.lines h.text naming.apart h.writes;
  failed = h.failed;
  kept = h.kept;
}
stops-named C D P Q name A first room was now stop.WriteFault naming h = record {
  lines = h.lines;
  bytes = h.bytes;
  last = h.last;
  text = h.text;
  more = h.more;
  count = h.count;
  taken = h.taken;
  read = h.read;
  stands = h.stands;
  writes = writes-named C D name A h.lines h.text naming.apart h.writes;
  follows = follows-named C D name A h.lines h.last (h.text ++ h.more) naming.apart h.follows;
  short = h.short;
  wrote = h.wrote;
  failed = h.failed;
  kept = h.kept;
}
stops-named C D P Q name A first room was now stop.OutOfMemory naming h = record {
  lines = h.lines;
  bytes = h.bytes;
  last = h.last;
  text = h.text;
  taken = h.taken;
  read = h.read;
  admitted = admitted-named C D P Q name A h.lines h.last now.left naming h.admitted;
  wrote = h.wrote;
  writes = writes-named C D name A h.lines h.text naming.apart h.writes;
  unfailed = h.unfailed;
}

-- a run that owes what A says is one that owes it with its causes by name
pub continues-named : (C D : Type 0) (P : C → Type 0) (Q : D → Type 0) (name : C → D) (A : Continuation C → Type 0) (first room : ℕ) (was now : IoState) (r : Result (Unit {0}) (Stop C)) → IsNaming C D P Q name → Continues C P A first room was now r → Continues D Q (OwesAs C D name A) first room was now (run_as name r)
continues-named C D P Q name A first room was now (Ok done) naming h = record {
  lines = h.lines;
  bytes = h.bytes;
  text = h.text;
  taken = h.taken;
  read = h.read;
  used_up = h.used_up;
  wrote = h.wrote;
  ends = ends-named C D name A h.lines h.text h.ends;
  unfailed = h.unfailed;
}
continues-named C D P Q name A first room was now (Err s) naming h = stops-named C D P Q name A first room was now s naming h
