-- Where a life is recorded, and which lines may be run on it.
use Rattle.std.proofs.Common.{◌≡◌, ℕ, ◌+◌, ◌≤◌, true, false, Option, Some, None, refl, ap, sym, ◌∙◌, arith}
use Rattle.std.proofs.lemmas.Bool.{false≢true}
use Rattle.ff_ids.specs.declared.TheConstants.{MAX_TOLERANCE}
use Rattle.ff_ids.specs.Masks.{ring_count}
use Rattle.ff_ids.specs.Steps.{Joins, Notes, Accuses}
use Rattle.schedule_direct.specs.declared.direct.Direct.{Direct}
use Rattle.schedule_direct.specs.declared.direct.Direct.TheVariants as direct
use Rattle.schedule_direct.specs.declared.line.DirectLine.{DirectLine}
use Rattle.schedule_direct.specs.declared.line.DirectLine.TheVariants as lines
use Rattle.schedule_direct.specs.Grammar.{InRange, Stands, after}
use Rattle.text_trace.specs.Lines.{text_lines}
use Rattle.trace.specs.Answers.{Recorded, answer, places_at, state_of, with_event}
use Rattle.trace.proofs.LifeLemmas.{group-with_ticks, moment-accuses, moment-joins, moment-notes, moment-with_ticks, state_of-next_life}
use Rattle.replay.specs.declared.life.Life.{Life}
use Rattle.replay.specs.Plays.{FitsLife, FitsOn, InBody, IsPlaced, Plays, PlaysOne}

never : {X : Type 0} → false ≡ true → X
never e = absurd (false≢true e)

-- ## Which lines may be run

fits-body : (t ticks number : ℕ) (life : Life) (r : Recorded) (l : DirectLine) → PlaysOne life r → InBody t number ticks r → Stands (direct.Body t ticks) l → InRange (direct.Body t ticks) l → number ≤ text_lines → FitsLife life l
fits-body t ticks number life r lines.Header plays b stands range few = tt
fits-body t ticks number life r (lines.Group u timeout) plays b stands range few = tt
fits-body t ticks number life r (lines.Member m ps) plays b stands range few =
    let same : life.membership.group.t ≡ t = ap (λ g. g.t) plays.group ∙ b.tolerance in
    (range.1.0 ∙ ap ring_count (sym same), omega (arith, range.1.0, b.small))
fits-body t ticks number life r (lines.Note n) plays b stands range few = tt
fits-body t ticks number life r (lines.Accuse a) plays b stands range few = tt
fits-body t ticks number life r (lines.Tick n) plays b stands range few = omega (arith, range.0.0, range.0.1, b.moment, plays.holds.moment_same)
fits-body t ticks number life r lines.View plays b stands range few = tt
fits-body t ticks number life r (lines.Monitor ring m) plays b stands range few =
    let same : life.membership.group.t ≡ t = ap (λ g. g.t) plays.group ∙ b.tolerance in
    omega (arith, range.0.1, same)
fits-body t ticks number life r lines.Life plays b stands range few = omega (arith, b.life, plays.number, few)
fits-body t ticks number life r lines.End plays b stands range few = tt

fits-first : (d : Direct) (l : DirectLine) → InRange d l → FitsOn None l
fits-first d lines.Header range = tt
fits-first d (lines.Group t timeout) range = range.0.1
fits-first d (lines.Member m ps) range = tt
fits-first d (lines.Note n) range = tt
fits-first d (lines.Accuse a) range = tt
fits-first d (lines.Tick n) range = tt
fits-first d lines.View range = tt
fits-first d (lines.Monitor ring m) range = tt
fits-first d lines.Life range = tt
fits-first d lines.End range = tt

no-line : {X : Type 0} → (l : DirectLine) → Stands direct.Ended l → X
no-line lines.Header stands = never stands
no-line (lines.Group t timeout) stands = never stands
no-line (lines.Member m ps) stands = never stands
no-line (lines.Note n) stands = never stands
no-line (lines.Accuse a) stands = never stands
no-line (lines.Tick n) stands = never stands
no-line lines.View stands = never stands
no-line (lines.Monitor ring m) stands = never stands
no-line lines.Life stands = never stands
no-line lines.End stands = never stands

-- a line that stands here may be run on the life that fits the place
pub fits : (d : Direct) (number : ℕ) (life : Option Life) (r : Option Recorded) (l : DirectLine) → Plays life r → IsPlaced d number r → Stands d l → InRange d l → number ≤ text_lines → FitsOn life l
fits d number None None l plays placed stands range few = fits-first d l range
fits d number None (Some r) l plays placed stands range few = absurd plays
fits d number (Some life) None l plays placed stands range few = absurd plays
fits direct.Start number (Some life) (Some r) l plays placed stands range few = absurd placed
fits direct.Headed number (Some life) (Some r) l plays placed stands range few = absurd placed
fits (direct.Body t ticks) number (Some life) (Some r) l plays placed stands range few = fits-body t ticks number life r l plays placed stands range few
fits direct.Ended number (Some life) (Some r) l plays placed stands range few = no-line l stands

-- ## Where the life is behind a line

-- what doesn't touch the life
stays : (t number ticks : ℕ) (r : Recorded) → InBody t number ticks r → InBody t (number + 1) ticks r
stays t number ticks r b = record { small = b.small; tolerance = b.tolerance; moment = b.moment; life = omega (arith, b.life) }

-- an event other than a tick
moves : (t number ticks : ℕ) (r later : Recorded) → InBody t number ticks r → later.group.t ≡ r.group.t → later.life ≡ r.life → (state_of later).moment ≡ (state_of r).moment → InBody t (number + 1) ticks later
moves t number ticks r later b group life moment =
    record { small = b.small; tolerance = group ∙ b.tolerance; moment = omega (arith, b.moment, moment); life = omega (arith, b.life, life) }

in_body : (t number ticks : ℕ) (r : Recorded) (l : DirectLine) → InBody t number ticks r → Stands (direct.Body t ticks) l → IsPlaced (after (direct.Body t ticks) l) (number + 1) (answer (Some r) l).recorded
in_body t number ticks r lines.Header b stands = never stands
in_body t number ticks r (lines.Group u timeout) b stands = never stands
in_body t number ticks r (lines.Member m ps) b stands = moves t number ticks r (with_event r (Joins m (places_at ps))) b refl refl (moment-joins r m (places_at ps))
in_body t number ticks r (lines.Note n) b stands = moves t number ticks r (with_event r (Notes n)) b refl refl (moment-notes r n)
in_body t number ticks r (lines.Accuse a) b stands = moves t number ticks r (with_event r (Accuses a)) b refl refl (moment-accuses r a)
in_body t number ticks r (lines.Tick n) b stands =
    let same = group-with_ticks n r in
    record {
      small = b.small;
      tolerance = ap (λ g. g.t) same.0 ∙ b.tolerance;
      moment = omega (arith, b.moment, moment-with_ticks n r);
      life = omega (arith, b.life, same.1);
    }
in_body t number ticks r lines.View b stands = stays t number ticks r b
in_body t number ticks r (lines.Monitor ring m) b stands = stays t number ticks r b
in_body t number ticks r lines.Life b stands =
    record {
      small = b.small;
      tolerance = b.tolerance;
      moment = omega (arith, ap (λ s. s.moment) (state_of-next_life r));
      life = omega (arith, b.life);
    }
in_body t number ticks r lines.End b stands = tt

first-moment : (t number timeout : ℕ) → t ≤ MAX_TOLERANCE → 1 ≤ number → IsPlaced (direct.Body t 0) number (answer None (lines.Group t timeout)).recorded
unfolding state_of
first-moment t number timeout small some = record { small = small; tolerance = refl; moment = omega arith; life = some }

at_start : (number : ℕ) (l : DirectLine) → Stands direct.Start l → IsPlaced (after direct.Start l) (number + 1) (answer None l).recorded
at_start number lines.Header stands = tt
at_start number (lines.Group t timeout) stands = never stands
at_start number (lines.Member m ps) stands = never stands
at_start number (lines.Note n) stands = never stands
at_start number (lines.Accuse a) stands = never stands
at_start number (lines.Tick n) stands = never stands
at_start number lines.View stands = never stands
at_start number (lines.Monitor ring m) stands = never stands
at_start number lines.Life stands = never stands
at_start number lines.End stands = never stands

at_group : (number : ℕ) (l : DirectLine) → Stands direct.Headed l → InRange direct.Headed l → IsPlaced (after direct.Headed l) (number + 1) (answer None l).recorded
at_group number lines.Header stands range = never stands
at_group number (lines.Group t timeout) stands range = first-moment t (number + 1) timeout range.0.1 (omega arith)
at_group number (lines.Member m ps) stands range = never stands
at_group number (lines.Note n) stands range = never stands
at_group number (lines.Accuse a) stands range = never stands
at_group number (lines.Tick n) stands range = never stands
at_group number lines.View stands range = never stands
at_group number (lines.Monitor ring m) stands range = never stands
at_group number lines.Life stands range = never stands
at_group number lines.End stands range = never stands

-- the life behind a line fits the place behind it
pub placed-after : (d : Direct) (number : ℕ) (r : Option Recorded) (l : DirectLine) → IsPlaced d number r → Stands d l → InRange d l → IsPlaced (after d l) (number + 1) (answer r l).recorded
placed-after direct.Start number (Some r) l placed stands range = absurd placed
placed-after direct.Start number None l placed stands range = at_start number l stands
placed-after direct.Headed number (Some r) l placed stands range = absurd placed
placed-after direct.Headed number None l placed stands range = at_group number l stands range
placed-after (direct.Body t ticks) number None l placed stands range = absurd placed
placed-after (direct.Body t ticks) number (Some r) l placed stands range = in_body t number ticks r l placed stands
placed-after direct.Ended number r l placed stands range = no-line l stands
