-- What the lines rest on that a run has written.
use Rattle.std.proofs.Common.{◌≡◌, ℕ, List, [], ◌∷◌, ◌++◌, length, Option, Some, None, Result, Ok, Err, inl, inr, refl, ap, sym, ◌∙◌, subst, arith}
use Rattle.std.specs.List.{concat}
use Rattle.std.specs.Io.KnownBytes.{Appends}
use Rattle.std.proofs.KnownBytes.{Appends-nil, Appends-trans}
use Rattle.std.proofs.lemmas.List.{length-append}
use Rattle.epoch_store.specs.declared.Stored.{Stored}
use Rattle.line_text.specs.declared.bad_word.BadWord.{BadWord}
use Rattle.play.specs.Plays.{IoState}
use Rattle.play.specs.declared.stop.Stop.{Stop}
use Rattle.play.specs.declared.stop.Stop.TheVariants as stop
use Rattle.schedule_texts.specs.declared.kit.KitText.TheVariants as kit
use Rattle.secrets.specs.Secrets.{nonce_seed}
use Rattle.text_trace.specs.Trace.{Refuses, Trace, Writes}
use Rattle.trace.specs.Written.{IsLineOf}
use Rattle.whole_text.specs.Gathered.{IsUnfinished, Judging, lines_from, nothing, owed_whole, unread}
use Rattle.whole_text.specs.Laws.{told-silent}
use Rattle.whole_text.proofs.WholeLemmas.{never-unwritten}
use Rattle.sign_keys.specs.Keys.{public_key}
use Rattle.detector.specs.Silence.{nonce}
use Rattle.node_core.specs.Begins.{IsVouchable}
use Rattle.node_core.specs.Rolls.{recs_of}
use Rattle.node_loop.specs.Courses.{served_from}
use Rattle.node_rules.specs.Lives.{AreCertificates}
use Rattle.node_rules.specs.Claims.{claims_all}
use Rattle.turn_laws.specs.Resting.{MayStart}
use Rattle.turn_laws.proofs.JournalLemmas.{IsFounded, TellsOf, founded, tells-start}
use Rattle.node_command.specs.declared.halt.NodeHalt.{NodeHalt}
use Rattle.node_command.specs.declared.halt.NodeHalt.TheVariants as halt
use Rattle.node_command.specs.declared.kit.Member.{Member}
use Rattle.node_command.specs.Members.{IsMember, key_of, kit_judging}
use Rattle.node_command.specs.Opening.{IsFound, setting_for, start_of}
use Rattle.ports.specs.Outside.{OfDisk}
use Rattle.node_command.specs.Journal.{Environment, bound_for}
use Rattle.turn_rules.specs.Journals.{end_line}
use Rattle.turn_rules.specs.Lines.{lines_of}
use Rattle.node_command.specs.Running.{NetInputs, HasRun, IsUnwritten, LivesOut, Runs, RunsBehind, RunsOnce, life_in, once_bound}
use Rattle.node_command.specs.Written.{AreWholeLines, LinesRest, UnlessCut, acts_of, first_of}
use Rattle.turn_rules.specs.Lines.{event_line}
use Rattle.node_command.proofs.LineLemmas.{in-front, lines-behind}
use Rattle.node_command.proofs.WrittenLemmas.{Gives, WritesOf, end-lines, lines-all, lines-told, lives-written, writes-all}

-- ## The life that began

may-start : (m : Member) (stored : Stored) → IsVouchable (setting_for m) (public_key (key_of m)) (recs_of m.certificates.items) stored → MayStart claims_all (setting_for m) (public_key (key_of m)) (recs_of m.certificates.items) stored
may-start m stored v = record { rings = v.rings; kit = v.kit; certified = v.certified; signatures = λ index body claimed. v.signatures index body; left = v.left }

founded-for : (m : Member) (stored : Stored) → IsVouchable (setting_for m) (public_key (key_of m)) (recs_of m.certificates.items) stored → IsFounded claims_all (setting_for m) (public_key (key_of m)) (first_of m stored)
founded-for m stored v = founded claims_all (setting_for m) (public_key (key_of m)) (nonce (nonce_seed m.own.secret stored.next)) (recs_of m.certificates.items) stored (may-start m stored v)

told-for : (m : Member) (stored : Stored) (feed : NetInputs) → AreCertificates (recs_of m.certificates.items) → TellsOf claims_all (setting_for m) (first_of m stored) (acts_of m feed) (start_of m stored).told
told-for m stored feed all = tells-start claims_all (setting_for m) (nonce (nonce_seed m.own.secret stored.next)) (recs_of m.certificates.items) stored (first_of m stored) (acts_of m feed) all

-- what was written of the life
abbrev WritesIn : Member → Stored → NetInputs → Option (List ℕ) → Option (List ℕ) → Result (Unit {0}) NodeHalt → Type 0
WritesIn m stored feed was now result = WritesOf (setting_for m) (first_of m stored) (acts_of m feed) was now result

run-written : (m : Member) (feed : NetInputs) (was now : Environment) (done : Unit {0}) → (h : HasRun m feed was now) → WritesIn m h.stored feed was.taken now.taken (Ok done)
run-written m feed was now done h =
    let s = setting_for m in
    let start = first_of m h.stored in
    let begun = served_from start (bound_for m feed.link) in
    let acts = acts_of m feed in
    let told = (start_of m h.stored).told in
    let text = (life_in m h.stored feed).text in
    let first = lines-told s start acts told (told-for m h.stored feed h.vouchable.kit.all) in
    let all = lines-all s (public_key (key_of m)) begun acts (founded-for m h.stored h.vouchable) refl in
    writes-all s start acts was.taken now.taken (lines_of told ++ text ++ end_line) (Ok done) h.written
    (lines-behind (Gives s start acts) (lines_of told ++ text) end_line (lines-behind (Gives s start acts) (lines_of told) text first all) (end-lines s start acts)) (λ x. x)

out-written : (m : Member) (feed : NetInputs) (was now : Environment) (result : Result (Unit {0}) NodeHalt) → (l : LivesOut m feed was now result) → WritesIn m l.0 feed was.taken now.taken result
out-written m feed was now result l =
    let stored = l.0 in
    lives-written (setting_for m) (public_key (key_of m)) l.1 (served_from (first_of m stored) (bound_for m feed.link)) (acts_of m feed) (start_of m stored).told (record was { disk = l.2 }) now result
    (founded-for m stored l.3.vouchable) refl (told-for m stored feed l.3.vouchable.kit.all) l.4

-- ## The lines of a run

unless-cut : (result : Result (Unit {0}) NodeHalt) (P : Type 0) → P → UnlessCut result P
unless-cut (Ok x) P p = p
unless-cut (Err (halt.Refused line w)) P p = p
unless-cut (Err halt.ReadFault) P p = p
unless-cut (Err halt.WriteFault) P p = tt
unless-cut (Err halt.StoreFault) P p = p
unless-cut (Err (halt.StoreBroken place byte)) P p = p
unless-cut (Err halt.LinkFault) P p = p
unless-cut (Err (halt.Exhausted next)) P p = p
unless-cut (Err halt.OutOfMemory) P p = tt

no-lines : AreWholeLines []
no-lines = record { lines = []; joined = refl; whole = tt }

none-in : (line : List ℕ) → IsLineOf line [] → ⊥
none-in line of =
    absurd (omega (arith, ap length of.parts, length-append (concat of.earlier) (line ++ of.after), length-append line of.after, ap length of.here.ended, length-append of.here.front (10 ∷ [])))

-- nothing was written
rests-none : (feed : NetInputs) (was now : IoState) (old : OfDisk) (result : Result (Unit {0}) NodeHalt) → Appends was.taken now.taken [] → LinesRest feed was now old result
rests-none feed was now old result none =
    record { bytes = []; written = none; rests = λ moment w of. absurd (none-in (event_line moment w) of); ended = unless-cut result (AreWholeLines []) no-lines }

-- a life was written
rests-life : (feed : NetInputs) (was between now : IoState) (old : OfDisk) (m : Member) (stored : Stored) (result : Result (Unit {0}) NodeHalt) → IsMember was between m → IsFound m stored old → WritesIn m stored feed between.taken now.taken result
    → LinesRest feed was now old result
rests-life feed was between now old m stored result read found w =
    record {
      bytes = w.bytes;
      written = Appends-trans was.taken between.taken now.taken [] w.bytes read.whole.wrote w.written;
      rests = λ moment what of. record {
        member = m;
        between = between;
        read = read;
        stored = stored;
        found = found;
        gives = in-front (Gives (setting_for m) (first_of m stored) (acts_of m feed)) w.whole w.bytes w.front.more (event_line moment what) w.lines w.front.is of moment what refl;
      };
      ended = w.ended;
    }

pub same-taken : (was now : Option (List ℕ)) → now ≡ was → Appends was now []
same-taken was now same = subst (λ (x : Option (List ℕ)). Appends was x []) (sym same) (Appends-nil was)

-- the text was read, and no life written
rests-read : (feed : NetInputs) (was between now : IoState) (old : OfDisk) (m : Member) (result : Result (Unit {0}) NodeHalt) → IsMember was between m → now.taken ≡ between.taken → LinesRest feed was now old result
rests-read feed was between now old m result read same =
    rests-none feed was now old result (Appends-trans was.taken between.taken now.taken [] [] read.whole.wrote (same-taken between.taken now.taken same))

-- ## A text that wasn't read

no-front : (front rest : List ℕ) → [] ≡ front ++ rest → front ≡ []
no-front [] rest e = refl
no-front (b ∷ front) rest e = absurd (omega (arith, ap length e))

silent-refused : {F L : Type 0} (j : Judging F L) (form : F) (lines : List (List ℕ)) (last : Option (List ℕ)) (text : List ℕ) (w : BadWord) → Refuses BadWord (λ f. f ≡ owed_whole j form nothing) lines last text w → text ≡ []
silent-refused j form lines (Some line) text w h =
    sym (ap (λ (t : Trace BadWord). t.output) (h (owed_whole j form nothing) refl [])) ∙ told-silent (lines_from j (unread form) (lines ++ line ∷ []))
silent-refused j form lines None text w h =
    sym (ap (λ (t : Trace BadWord). t.output) (h (owed_whole j form nothing) refl)) ∙ told-silent (lines_from j (unread form) lines)

silent-written : {F L : Type 0} (j : Judging F L) (form : F) (lines : List (List ℕ)) (text : List ℕ) → Writes BadWord (λ f. f ≡ owed_whole j form nothing) lines text → text ≡ []
silent-written j form lines text h =
    let goes = h (owed_whole j form nothing) refl in
    no-front text (goes.later []).output (sym (told-silent (lines_from j (unread form) (lines ++ []))) ∙ ap (λ (t : Trace BadWord). t.output) (goes.same []))

-- where a text of which nothing is told before its end was cut off, nothing was written
pub silent-unread : {F L : Type 0} (j : Judging F L) (form : F) (was now : IoState) (s : Stop BadWord) → IsUnfinished j form was now s → Appends was.taken now.taken []
silent-unread j form was now (stop.Refused line w) h = let x = h nothing in subst (Appends was.taken now.taken) (silent-refused j form x.lines x.last x.text w x.refuses) x.wrote
silent-unread j form was now stop.ReadFault h = let x = h nothing in subst (Appends was.taken now.taken) (silent-written j form x.lines x.text x.writes) x.wrote
silent-unread j form was now stop.WriteFault h = absurd (never-unwritten j form was now (h nothing))
silent-unread j form was now stop.OutOfMemory h =
    elim (h nothing) [
      | inl same ↦ same-taken was.taken now.taken (ap (λ (x : IoState). x.taken) same)
      | inr x ↦ subst (Appends was.taken now.taken) (silent-written j form x.lines x.text x.writes) x.wrote
    ]

-- ## The whole

once-rests : (feed : NetInputs) (was between now : IoState) (old new : Environment) (m : Member) (result : Result (Unit {0}) NodeHalt) → IsMember was between m → new.taken ≡ now.taken
    → RunsOnce m feed (once_bound m feed (record old { taken = between.taken })) new result → LinesRest feed was now old.disk result
once-rests feed was between now old new m result read same h = by result h
  where
    o : Environment
    o = once_bound m feed (record old { taken = between.taken })

    life : (result : Result (Unit {0}) NodeHalt) (stored : Stored) → IsFound m stored old.disk → WritesIn m stored feed between.taken new.taken result → LinesRest feed was now old.disk result
    life result stored found w = rests-life feed was between now old.disk m stored result read found (subst (λ (x : Option (List ℕ)). WritesIn m stored feed between.taken x result) same w)

    out : (result : Result (Unit {0}) NodeHalt) → LivesOut m feed o new result → LinesRest feed was now old.disk result
    out result l = life result l.0 l.3.found (out-written m feed o new result l)

    none : (result : Result (Unit {0}) NodeHalt) → IsUnwritten o new → LinesRest feed was now old.disk result
    none result u = rests-read feed was between now old.disk m result read (sym same ∙ u.taken)

    by : (result : Result (Unit {0}) NodeHalt) → RunsOnce m feed o new result → LinesRest feed was now old.disk result
    by (Ok done) h = life (Ok done) h.stored h.found (run-written m feed o new done h)
    by (Err (halt.Refused line w)) h = absurd h
    by (Err halt.ReadFault) h = absurd h
    by (Err halt.WriteFault) h = out (Err halt.WriteFault) h
    by (Err halt.StoreFault) h = elim h [ inl u ↦ none (Err halt.StoreFault) u.0 | inr l ↦ out (Err halt.StoreFault) l ]
    by (Err (halt.StoreBroken place byte)) h = none (Err (halt.StoreBroken place byte)) h.0
    by (Err halt.LinkFault) h = absurd h
    by (Err (halt.Exhausted next)) h = none (Err (halt.Exhausted next)) h.0
    by (Err halt.OutOfMemory) h = elim h [ inl u ↦ none (Err halt.OutOfMemory) u.0 | inr l ↦ out (Err halt.OutOfMemory) l ]

behind-rests : (feed : NetInputs) (was between now : IoState) (old new : Environment) (m : Member) (result : Result (Unit {0}) NodeHalt) → IsMember was between m → new.taken ≡ now.taken
    → RunsBehind m feed (record old { taken = between.taken }) new result → LinesRest feed was now old.disk result
behind-rests feed was between now old new m result read same h = by result h
  where
    o : Environment
    o = record old { taken = between.taken }

    once : (result : Result (Unit {0}) NodeHalt) → RunsOnce m feed (once_bound m feed o) new result → LinesRest feed was now old.disk result
    once result h = once-rests feed was between now old new m result read same h

    still : (result : Result (Unit {0}) NodeHalt) → new ≡ o → LinesRest feed was now old.disk result
    still result is = rests-read feed was between now old.disk m result read (sym same ∙ ap (λ (x : Environment). x.taken) is)

    by : (result : Result (Unit {0}) NodeHalt) → RunsBehind m feed o new result → LinesRest feed was now old.disk result
    by (Ok done) h = once (Ok done) h
    by (Err (halt.Refused line w)) h = once (Err (halt.Refused line w)) h
    by (Err halt.ReadFault) h = once (Err halt.ReadFault) h
    by (Err halt.WriteFault) h = once (Err halt.WriteFault) h
    by (Err halt.StoreFault) h = once (Err halt.StoreFault) h
    by (Err (halt.StoreBroken place byte)) h = once (Err (halt.StoreBroken place byte)) h
    by (Err halt.LinkFault) h = still (Err halt.LinkFault) h
    by (Err (halt.Exhausted next)) h = once (Err (halt.Exhausted next)) h
    by (Err halt.OutOfMemory) h = elim h [ inl is ↦ still (Err halt.OutOfMemory) is | inr run ↦ once (Err halt.OutOfMemory) run ]

-- Whatever ended the run, each line that it wrote rests on its life.
pub run-rests : (feed : NetInputs) (was now : IoState) (old new : Environment) (result : Result (Unit {0}) NodeHalt) → new.taken ≡ now.taken → Runs feed was now old new result → LinesRest feed was now old.disk result
run-rests feed was now old new (Ok done) same h = behind-rests feed was h.between now old new h.member (Ok done) h.read same h.rest
run-rests feed was now old new (Err (halt.Refused line w)) same h = rests-none feed was now old.disk (Err (halt.Refused line w)) (silent-unread kit_judging kit.Start was now (stop.Refused line w) h.unfinished)
run-rests feed was now old new (Err halt.ReadFault) same h = rests-none feed was now old.disk (Err halt.ReadFault) (silent-unread kit_judging kit.Start was now stop.ReadFault h.unfinished)
run-rests feed was now old new (Err halt.WriteFault) same h = behind-rests feed was h.between now old new h.member (Err halt.WriteFault) h.read same h.rest
run-rests feed was now old new (Err halt.StoreFault) same h = behind-rests feed was h.between now old new h.member (Err halt.StoreFault) h.read same h.rest
run-rests feed was now old new (Err (halt.StoreBroken place byte)) same h = behind-rests feed was h.between now old new h.member (Err (halt.StoreBroken place byte)) h.read same h.rest
run-rests feed was now old new (Err halt.LinkFault) same h = behind-rests feed was h.between now old new h.member (Err halt.LinkFault) h.read same h.rest
run-rests feed was now old new (Err (halt.Exhausted next)) same h = behind-rests feed was h.between now old new h.member (Err (halt.Exhausted next)) h.read same h.rest
run-rests feed was now old new (Err halt.OutOfMemory) same h =
    elim h [
      | inl unread ↦ rests-none feed was now old.disk (Err halt.OutOfMemory) (silent-unread kit_judging kit.Start was now stop.OutOfMemory unread.unfinished)
      | inr (inl whole) ↦ rests-none feed was now old.disk (Err halt.OutOfMemory) whole.whole.wrote
      | inr (inr went) ↦ behind-rests feed was went.between now old new went.member (Err halt.OutOfMemory) went.read same went.rest
    ]
