-- What comes of a workload, line by line.
use Rattle.std.proofs.Common.{◌≡◌, ℕ, ◌+◌, ◌-◌, ◌*◌, ◌/◌, ◌≤◌, Bool, true, false, cond, List, [], ◌∷◌, ◌++◌, length, Some, None, refl, sym, ap, subst, ◌∙◌, arith, append_assoc, length-append}
use Rattle.std.specs.Prelude.{Result, Ok, Err, flat_map}
use Rattle.std.specs.List.{AllByRecursion}
use Rattle.std.proofs.lemmas.Nat.{mul-le}
use Rattle.ff_ids.specs.declared.TheConstants.{MAX_TOLERANCE}
use Rattle.line_text.specs.declared.bad_word.BadWord.{BadWord}
use Rattle.line_text.specs.declared.bad_word.BadWord.TheVariants as bad
use Rattle.line_text.specs.Answers.{Progress}
use Rattle.schedule_world.specs.declared.line.WorldLine.{WorldLine}
use Rattle.schedule_world.specs.declared.line.WorldLine.TheVariants as lines
use Rattle.schedule_world.specs.declared.text.WorldText.{WorldText}
use Rattle.schedule_world.specs.declared.text.WorldText.TheVariants as form
use Rattle.schedule_world.specs.Rows.{is_ended, tolerance}
use Rattle.schedule_world.specs.Grammar.{InRange, IsSound, after, behind, judge, opening, ticked, with_member}
use Rattle.schedule_world.proofs.GrammarLemmas.{ticks-few}
use Rattle.soak_lines.specs.Schedule.{IsSchedule}
use Rattle.soak_lines.specs.Workload.{line_count}
use Rattle.world_rules.specs.Forgeries.{Forgery}
use Rattle.world_rules.specs.Steps.{NodeEvent}
use Rattle.world_rules.specs.declared.cause.Cause.TheVariants as causes
use Rattle.world_rules.specs.Walk as walk
use Rattle.world_rules.specs.Walk.{Brought, Lists, Taken, Walk, at_end, brought, events_in, from_answer, from_line, no_roster, onto, setting_in, walk_over}
use Rattle.world_text.specs.Lines.{line_text}
use Rattle.world.specs.Counting.{AreKept}
use Rattle.world_replay.specs.declared.stage.Stage.{Stage}
use Rattle.world_replay.specs.Stages.{HoldsStage}
use Rattle.world_replay.specs.Causes.{grammar}
use Rattle.world_replay.specs.Rosters.{Fits}
use Rattle.world_replay.proofs.RosterLemmas.{fits-behind, nothing-read, taken-of}
use Rattle.world_replay.specs.declared.fault.SoakFault.{SoakFault}
use Rattle.world_replay.specs.declared.fault.SoakFault.TheVariants as faults
use Rattle.world_replay.specs.declared.summary.Summary.{Summary}
use Rattle.world_replay.specs.Soaking.{Answers, IsFoundForged, IsSummary, counts_at, counts_in, spelled_lines}
use Rattle.world_replay.specs.SoakTurning.{CanTurn, FindsForged, TakesFirst, Turns}
use Rattle.world_replay.proofs.SoakMakingLemmas.{IsOfWorkload}
use Rattle.world_replay.proofs.SoakReadingLemmas.{read-again}

-- ---- the reader's progress

small : (w : WorldText) → IsSound w → tolerance w ≤ MAX_TOLERANCE
small (form.Grouped t) sound = sound
small (form.Roster t heal names node) sound = sound
small (form.Body t ticks) sound = sound.0
small w sound = omega arith

member-sound : (m : ℕ) (node : Bool) (w : WorldText) → IsSound w → IsSound (with_member m node w)
member-sound m node (form.Roster t heal names before) sound = sound
member-sound m node form.Start sound = sound
member-sound m node form.Headed sound = sound
member-sound m node (form.Grouped t) sound = sound
member-sound m node (form.Body t ticks) sound = sound
member-sound m node form.Ended sound = sound

tick-sound : (m n : ℕ) (w : WorldText) → InRange w (lines.Tick m n) → IsSound w → IsSound (ticked n w)
tick-sound m n (form.Body t ticks) range sound = (sound.0, ticks-few (form.Body t ticks) m n range)
tick-sound m n form.Start range sound = sound
tick-sound m n form.Headed range sound = sound
tick-sound m n (form.Grouped t) range sound = sound
tick-sound m n (form.Roster t heal names before) range sound = sound
tick-sound m n form.Ended range sound = sound

sound-after : (w : WorldText) (l : WorldLine) → IsSound w → InRange w l → IsOfWorkload l → IsSound (after w l)
sound-after w lines.Header sound range is = tt
sound-after w (lines.Group g) sound range is = range.0.1
sound-after w (lines.Kinds ots tree bottom) sound range is = small w sound
sound-after w (lines.Node m) sound range is = member-sound m true w sound
sound-after w (lines.Liar m) sound range is = member-sound m false w sound
sound-after w lines.Begin sound range is = (small w sound, omega arith)
sound-after w (lines.Start m) sound range is = sound
sound-after w (lines.Tick m n) sound range is = tick-sound m n w range sound
sound-after w (lines.Flow most) sound range is = sound
sound-after w (lines.SignNote key n name) sound range is = sound
sound-after w (lines.SignAccusation key accuser accused epoch ring name) sound range is = sound
sound-after w (lines.GiveAll name) sound range is = sound
sound-after w lines.End sound range is = tt
sound-after w l sound range is = absurd is

-- ---- what was taken, and what is left

abbrev walk_from : List WorldLine → Progress WorldText → walk.Stage → Walk
walk_from ls p meant = walk.walk grammar setting_in (spelled_lines ls) p meant

-- the walk behind what was taken
abbrev after_taken : List Taken → Walk → Walk
after_taken taken w = record { taken = taken ++ w.taken; stage = w.stage; cause = w.cause }

abbrev events_of : List Taken → List NodeEvent
events_of taken = flat_map (λ (t : Taken). t.brought.told) taken

-- Of all lines some were taken, the next one has this number, and these are left.
pub record Goes (all : List WorldLine) (number : ℕ) (left : List WorldLine) (kept : Stage) : Type 0 where
  pub progress : Progress WorldText
  pub meant : walk.Stage
  pub told : List NodeEvent
  pub taken : List Taken
  pub holds : HoldsStage meant told kept
  pub fits : Fits progress.form meant
  pub sound : IsSound progress.form
  pub at : progress.number ≡ number
  pub stands : IsSchedule progress.form left
  pub made : AllByRecursion IsOfWorkload left
  pub count : number + length left ≡ length all + 1
  pub few : length all ≤ 100000
  pub many : length taken + 1 ≡ number
  pub events : events_of taken ≡ told
  pub walks : walk_over grammar setting_in (spelled_lines all) ≡ after_taken taken (walk_from left progress meant)

-- the line is read
line-read : (p : Progress WorldText) (l : WorldLine) (rest : List WorldLine) → IsSound p.form → p.number ≤ 100000 → IsSchedule p.form (l ∷ rest) → IsOfWorkload l → judge p (line_text l ++ 10 ∷ []) ≡ Ok l
line-read p l rest sound few stands is = read-again p l sound stands.0 stands.1 is few

-- the walk goes on with what the line brings
walk-on : (p : Progress WorldText) (l : WorldLine) (rest : List WorldLine) (meant : walk.Stage) → judge p (line_text l ++ 10 ∷ []) ≡ Ok l
    → walk_from (l ∷ rest) p meant ≡ from_answer meant l (brought setting_in meant l) (λ later. walk_from rest (behind p l) later)
walk-on p l rest meant read = ap (λ (r : Result WorldLine BadWord). from_line setting_in meant r (λ line later. walk.walk grammar setting_in (spelled_lines rest) (behind p line) later)) read

walk-taken : (p : Progress WorldText) (l : WorldLine) (rest : List WorldLine) (meant : walk.Stage) (b : Brought) → judge p (line_text l ++ 10 ∷ []) ≡ Ok l → brought setting_in meant l ≡ Ok b
    → walk_from (l ∷ rest) p meant ≡ onto (record { before = meant; line = l; brought = b }) (walk_from rest (behind p l) b.stage)
walk-taken p l rest meant b read is =
    walk-on p l rest meant read ∙ ap (λ (r : Result Brought Forgery). from_answer meant l r (λ later. walk_from rest (behind p l) later)) is

walk-forged : (p : Progress WorldText) (l : WorldLine) (rest : List WorldLine) (meant : walk.Stage) (found : Forgery) → judge p (line_text l ++ 10 ∷ []) ≡ Ok l → brought setting_in meant l ≡ Err found
    → walk_from (l ∷ rest) p meant ≡ walk.ends_with meant (causes.Forged found.who found.body)
walk-forged p l rest meant found read is =
    walk-on p l rest meant read ∙ ap (λ (r : Result Brought Forgery). from_answer meant l r (λ later. walk_from rest (behind p l) later)) is

one-more : (taken : List Taken) (t : Taken) (w : Walk) → after_taken taken (onto t w) ≡ after_taken (taken ++ t ∷ []) w
one-more taken t w = ap (λ (ts : List Taken). record { taken = ts; stage = w.stage; cause = w.cause }) (sym (append_assoc taken (t ∷ []) w.taken))

events-more : (taken : List Taken) (t : Taken) → events_of (taken ++ t ∷ []) ≡ events_of taken ++ t.brought.told
events-more [] t = nil-right t.brought.told
  where
    nil-right : (xs : List NodeEvent) → xs ++ [] ≡ xs
    nil-right [] = refl
    nil-right (x ∷ xs) = ap (λ (ys : List NodeEvent). x ∷ ys) (nil-right xs)
events-more (s ∷ taken) t = ap (λ (ts : List NodeEvent). s.brought.told ++ ts) (events-more taken t) ∙ sym (append_assoc s.brought.told (events_of taken) t.brought.told)

taken-nil : (taken : List Taken) → taken ++ [] ≡ taken
taken-nil [] = refl
taken-nil (t ∷ taken) = ap (λ (ts : List Taken). t ∷ ts) (taken-nil taken)

-- ---- a turn

-- The first line that is left may be taken.
can-take : (all : List WorldLine) (number : ℕ) (left : List WorldLine) (kept : Stage) → Goes all number left kept → CanTurn left kept
can-take all number [] kept h = tt
can-take all number (l ∷ rest) kept h =
    let p = h.progress in
    let few : p.number ≤ 100000 = omega (arith, h.at, h.count, h.few) in
    taken-of p (line_text l ++ 10 ∷ []) l h.meant h.told kept (line-read p l rest h.sound few h.stands h.made.0) h.holds h.fits

pub may-turn : (all : List WorldLine) (number : ℕ) (left : List WorldLine) (kept : Stage) → Goes all number left kept → CanTurn left kept
may-turn all number left kept h = can-take all number left kept h

-- Behind a line that was taken.
behind-line : (all : List WorldLine) (number : ℕ) (l : WorldLine) (later : List WorldLine) (kept new : Stage) (h : Goes all number (l ∷ later) kept)
    → (b : Brought) → brought setting_in h.meant l ≡ Ok b → HoldsStage b.stage (h.told ++ b.told) new → Goes all (number + 1) later new
behind-line all number l later kept new h b is holds =
    let p = h.progress in
    let t : Taken = record { before = h.meant; line = l; brought = b } in
    let few : p.number ≤ 100000 = omega (arith, h.at, h.count, h.few) in
    let read = line-read p l later h.sound few h.stands h.made.0 in
    record {
      progress = behind p l;
      meant = b.stage;
      told = h.told ++ b.told;
      taken = h.taken ++ t ∷ [];
      holds = holds;
      fits = fits-behind p (line_text l ++ 10 ∷ []) l h.meant b read is h.fits;
      sound = sound-after p.form l h.sound h.stands.1 h.made.0;
      at = ap (λ (n : ℕ). n + 1) h.at;
      stands = h.stands.2;
      made = h.made.1;
      count = omega (arith, h.count);
      few = h.few;
      many = omega (arith, h.many, length-append h.taken (t ∷ []));
      events = events-more h.taken t ∙ ap (λ (ts : List NodeEvent). ts ++ b.told) h.events;
      walks = h.walks ∙ ap (after_taken h.taken) (walk-taken p l later h.meant b read is) ∙ one-more h.taken t (walk_from later (behind p l) b.stage);
    }

takes-on : (all : List WorldLine) (number : ℕ) (left later : List WorldLine) (kept new : Stage) (l : WorldLine) → left ≡ l ∷ later
    → ((stage : walk.Stage) (told : List NodeEvent) → HoldsStage stage told kept → (b : Brought) × (brought setting_in stage l ≡ Ok b) × HoldsStage b.stage (told ++ b.told) new)
    → Goes all number left kept → Goes all (number + 1) later new
takes-on all number left later kept new l given takes h =
    let g : Goes all number (l ∷ later) kept = subst (λ (ls : List WorldLine). Goes all number ls kept) given h in
    let t = takes g.meant g.told g.holds in
    behind-line all number l later kept new g t.0 t.1 t.2

pub goes-on : (all : List WorldLine) (number : ℕ) (left later : List WorldLine) (kept new : Stage) → TakesFirst left kept later new → Goes all number left kept → Goes all (number + 1) later new
goes-on all number left later kept new t h = takes-on all number left later kept new t.line t.given t.takes h

pub fewer-left : (left later : List WorldLine) (kept new : Stage) → TakesFirst left kept later new → length later + 1 ≡ length left
fewer-left left later kept new t = omega (arith, ap (λ (ls : List WorldLine). length ls) t.given)

-- ---- the first line

-- nothing was taken
nothing-taken : (w : Walk) → w ≡ after_taken [] w
nothing-taken w = refl

started : (all : List WorldLine) (kept : Stage) → HoldsStage (Lists no_roster) [] kept → IsSchedule form.Start all → AllByRecursion IsOfWorkload all → length all ≤ 100000 → Goes all 1 all kept
started all kept holds stands made few = record {
  progress = opening;
  meant = Lists no_roster;
  told = [];
  taken = [];
  holds = holds;
  fits = nothing-read;
  sound = tt;
  at = refl;
  stands = stands;
  made = made;
  count = omega arith;
  few = few;
  many = refl;
  events = refl;
  walks = nothing-taken (walk_over grammar setting_in (spelled_lines all));
}

-- All lines are left.
pub begins : (all left : List WorldLine) (kept : Stage) → left ≡ all → HoldsStage (Lists no_roster) [] kept → IsSchedule form.Start left → AllByRecursion IsOfWorkload all → length left ≤ 100000 → Goes all 1 left kept
begins all left kept same holds stands made few =
    subst (λ (ls : List WorldLine). Goes ls 1 left kept) same (started left kept holds stands (subst (AllByRecursion IsOfWorkload) (sym same) made) few)

-- ---- the last

ended : (p : Progress WorldText) (meant : walk.Stage) → p.form ≡ form.Ended → walk_from [] p meant ≡ record { taken = []; stage = meant; cause = None }
ended p meant end = ap (λ (w : WorldText). at_end meant (cond (is_ended w) None (Some bad.End))) end

finished : (all : List WorldLine) (number : ℕ) (kept : Stage) (s : Summary) (h : Goes all number [] kept) → s.lines + 1 ≡ number → AreKept s.counts (counts_at h.meant h.told) → IsSummary all (walk_over grammar setting_in (spelled_lines all)) s
finished all number kept s h lines counts =
    let whole = h.walks ∙ ap (after_taken h.taken) (ended h.progress h.meant h.stands) in
    let told : events_of (h.taken ++ []) ≡ h.told = ap events_of (taken-nil h.taken) ∙ h.events in
    let same : counts_in (walk_over grammar setting_in (spelled_lines all)) ≡ counts_at h.meant h.told = ap counts_in whole ∙ ap (counts_at h.meant) told in
    record {
      whole = ap (λ (w : Walk). w.cause) whole;
      lines = omega (arith, lines, h.count);
      counts = subst (AreKept s.counts) (sym same) counts;
    }

-- Where no line is left, what was counted is what they reported.
pub is-summary : (all : List WorldLine) (number : ℕ) (left : List WorldLine) (kept : Stage) (s : Summary) → left ≡ [] → s.lines + 1 ≡ number → ((meant : walk.Stage) (told : List NodeEvent) → HoldsStage meant told kept → AreKept s.counts (counts_at meant told))
    → Goes all number left kept → IsSummary all (walk_over grammar setting_in (spelled_lines all)) s
is-summary all number left kept s none lines counts h =
    let g : Goes all number [] kept = subst (λ (ls : List WorldLine). Goes all number ls kept) none h in
    finished all number kept s g lines (counts g.meant g.told g.holds)

forged-at : (all : List WorldLine) (number : ℕ) (l : WorldLine) (rest : List WorldLine) (kept : Stage) (line : ℕ) (found : Forgery) (h : Goes all number (l ∷ rest) kept) → line ≡ number → brought setting_in h.meant l ≡ Err found
    → IsFoundForged (walk_over grammar setting_in (spelled_lines all)) line found
forged-at all number l rest kept line found h at is =
    let p = h.progress in
    let few : p.number ≤ 100000 = omega (arith, h.at, h.count, h.few) in
    let whole = h.walks ∙ ap (after_taken h.taken) (walk-forged p l rest h.meant found (line-read p l rest h.sound few h.stands h.made.0) is) in
    let count : walk.last_line (walk_over grammar setting_in (spelled_lines all)) ≡ length (h.taken ++ []) + 1 = ap walk.last_line whole in
    record {
      cause = ap (λ (w : Walk). w.cause) whole;
      line = omega (arith, at, h.many, count, length-append h.taken []);
    }

forged-first : (all : List WorldLine) (number : ℕ) (left : List WorldLine) (kept : Stage) (line : ℕ) (found : Forgery) (l : WorldLine) (rest : List WorldLine) → left ≡ l ∷ rest → line ≡ number
    → ((stage : walk.Stage) (told : List NodeEvent) → HoldsStage stage told kept → brought setting_in stage l ≡ Err found) → Goes all number left kept → IsFoundForged (walk_over grammar setting_in (spelled_lines all)) line found
forged-first all number left kept line found l rest given at forged h =
    let g : Goes all number (l ∷ rest) kept = subst (λ (ls : List WorldLine). Goes all number ls kept) given h in
    forged-at all number l rest kept line found g at (forged g.meant g.told g.holds)

-- A line that hands over what is forged ends the walk.
pub is-forged : (all : List WorldLine) (number : ℕ) (left : List WorldLine) (kept : Stage) (line : ℕ) (found : Forgery) → FindsForged left kept number line found → Goes all number left kept → IsFoundForged (walk_over grammar setting_in (spelled_lines all)) line found
is-forged all number left kept line found f h = forged-first all number left kept line found f.first f.rest f.given f.at f.forged h

-- Nothing else ends it early but want of memory.
pub stops-so : (all : List WorldLine) (number : ℕ) (left later : List WorldLine) (kept new : Stage) (fault : SoakFault) → Turns left kept number later new (Err fault) → Goes all number left kept
    → Answers all (walk_over grammar setting_in (spelled_lines all)) (Err fault)
stops-so all number left later kept new (faults.Forged line who body) t h = is-forged all number left kept line (record { who = who; body = body }) t h
stops-so all number left later kept new faults.OutOfMemory t h = tt

-- ---- how many they are

pub not-many : (members rounds : ℕ) → 3 ≤ members → members ≤ 32 → rounds ≤ 1000 → line_count members rounds ≤ 100000
not-many members rounds low high few =
    let l = members / 10 in
    let liars : l ≤ 3 = omega (arith, high) in
    let each = members - l + 2 * l + 1 in
    let some : each ≤ 36 = omega (arith, high, liars) in
    let tens : (rounds + 9) / 10 ≤ 100 = omega (arith, few) in
    let a : rounds * each ≤ 1000 * 36 = mul-le rounds each 1000 36 few some in
    let b : 2 * l * ((rounds + 9) / 10) ≤ 6 * 100 = mul-le (2 * l) ((rounds + 9) / 10) 6 100 (omega (arith, liars)) tens in
    omega (arith, high, liars, a, b)
