use Rattle.std.proofs.Common.{◌≡◌, ℕ, ◌+◌, ◌∙◌, ap, sym, refl, map, eqb, Bool, true, false, not, ◌&&◌, ◌||◌}
use Rattle.std.specs.List.{filter}
use Rattle.std.proofs.lemmas.List.Elements.{recursion_from_All}
use Rattle.ff_ids.specs.declared.NoteBody.{NoteBody}
use Rattle.ff_ids.specs.Views.{State, in_view, viewed_by, has_expired, stands, successor, is_number}
use Rattle.ff_ids.specs.Steps.{is_due}
use Rattle.removal_timer.proofs.KeptLemmas.{All-filter}
use Rattle.ff_ids.proofs.ViewLemmas.{in_view_by-left}
use Rattle.membership.specs.Ends.{is_answered}
use Rattle.membership.specs.Touched.{IsUpheld}
use Rattle.membership.proofs.SoundLemmas.{by_number}
use Rattle.membership.proofs.MonitorLemmas.{ComesIn, GoesOut}
use Rattle.membership.proofs.TouchLemmas.{with_accepted, with_expired, newest_other, viewed-newer, stands-entered, stands-left_by, stands-outside, stands-answered, stands-expired}
use Rattle.membership.proofs.EndLemmas.{AllBy-then, filter_agree_on, filter_nothing}
use Rattle.membership.proofs.laws.only_the_touched_end.Goals as goal

turned : (b c : Bool) → b ≡ not c → not b ≡ c
turned b true e = rw e refl
turned b false e = rw e refl

pub returns-clause-newcomer : goal.returns-clause-newcomer
returns-clause-newcomer c = λ s n upheld below was is.
    let enters : ComesIn (in_view s) (in_view (with_accepted s n)) n.member = record { below = below; was = was; is = is; others = λ w apart. ap (viewed_by s.expired) (newest_other s.notes n w apart) } in
    ap (map (λ p. p.0)) (filter_agree_on (λ p. not (stands (with_accepted s n) p.0)) (λ p. is_number (successor (with_accepted s n) p.0.ring.0 n.member) p.0.accused) s.kept (AllBy-then (IsUpheld s) (λ p. not (stands (with_accepted s n) p.0) ≡ is_number (successor (with_accepted s n) p.0.ring.0 n.member) p.0.accused) (λ p u. turned _ _ (stands-entered s n p u enters)) s.kept (recursion_from_All (IsUpheld s) s.kept upheld)))

same_views : (s : State) (n : NoteBody) → in_view (with_accepted s n) n.member ≡ in_view s n.member → (k : ℕ) → in_view (with_accepted s n) k ≡ in_view s k
same_views s n same = by_number (λ k. in_view (with_accepted s n) k ≡ in_view s k) n.member same (λ k apart. ap (viewed_by s.expired) (newest_other s.notes n k apart))

pub returns-clause-note : goal.returns-clause-note
returns-clause-note c = λ s n upheld newer was stays.
    let views = same_views s n (viewed-newer s n newer stays was ∙ sym was) in
    ap (map (λ p. p.0)) (filter_agree_on (λ p. not (stands (with_accepted s n) p.0)) (is_answered n) s.kept (AllBy-then (IsUpheld s) (λ p. not (stands (with_accepted s n) p.0) ≡ is_answered n p) (λ p u. turned _ _ (stands-answered s n p u newer views)) s.kept (recursion_from_All (IsUpheld s) s.kept upheld)))

pub returns-clause-leaving : goal.returns-clause-leaving
returns-clause-leaving c = λ s n upheld newer was leaves.
    let out : GoesOut (in_view s) (in_view (with_accepted s n)) n.member = record { was = was; is = ap (viewed_by s.expired) newer ∙ in_view_by-left n (has_expired s.expired n) leaves; others = λ w apart. ap (viewed_by s.expired) (newest_other s.notes n w apart) } in
    ap (map (λ p. p.0)) (filter_agree_on (λ p. not (stands (with_accepted s n) p.0)) (λ p. eqb n.member p.0.accused || eqb n.member p.0.accuser) s.kept (AllBy-then (IsUpheld s) (λ p. not (stands (with_accepted s n) p.0) ≡ (eqb n.member p.0.accused || eqb n.member p.0.accuser)) (λ p u. turned _ _ (stands-left_by s n p u out)) s.kept (recursion_from_All (IsUpheld s) s.kept upheld)))

pub returns-clause-outside : goal.returns-clause-outside
returns-clause-outside c = λ s n upheld was is.
    let views = same_views s n (is ∙ sym was) in
    ap (map (λ p. p.0)) (filter_agree_on (λ p. not (stands (with_accepted s n) p.0)) (λ p. false) s.kept (AllBy-then (IsUpheld s) (λ p. not (stands (with_accepted s n) p.0) ≡ false) (λ p u. ap not (stands-outside s n p u was views)) s.kept (recursion_from_All (IsUpheld s) s.kept upheld)) ∙ filter_nothing s.kept)

neither : (b c : Bool) → (b && c) ≡ not (not b || not c)
neither true true = refl
neither true false = refl
neither false c = refl

pub returns-clause-removal : goal.returns-clause-removal
returns-clause-removal c = λ timeout s upheld.
    let due = map (λ p. p.0) (filter (is_due timeout (s.moment + 1)) s.kept) in
    let rest = filter (λ p. not (is_due timeout (s.moment + 1) p)) s.kept in
    let each = All-filter (IsUpheld s) (λ p. not (is_due timeout (s.moment + 1) p)) s.kept (recursion_from_All (IsUpheld s) s.kept upheld) in
    ap (map (λ p. p.0)) (filter_agree_on (λ p. not (stands (with_expired s due) p.0)) (λ p. not (in_view (with_expired s due) p.0.accused) || not (in_view (with_expired s due) p.0.accuser)) rest (AllBy-then (IsUpheld s) (λ p. not (stands (with_expired s due) p.0) ≡ (not (in_view (with_expired s due) p.0.accused) || not (in_view (with_expired s due) p.0.accuser))) (λ p u. turned _ _ (stands-expired s due p u ∙ neither (in_view (with_expired s due) p.0.accused) (in_view (with_expired s due) p.0.accuser))) rest each))
