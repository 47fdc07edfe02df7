-- The walk over a text in the world form comes to a world to which its lines lead.
use Rattle.std.proofs.Common.{◌≡◌, ◌⊎◌, ℕ, zero, suc, ◌+◌, ◌<◌, ◌≤◌, Bool, true, false, ◌||◌, eqb, List, [], ◌∷◌, ◌++◌, filter, length, Option, Some, None, inl, inr, refl, ap, sym, subst, arith, length-append}
use Rattle.std.specs.Prelude.{Result, Ok, Err, IsTrue}
use Rattle.std.specs.List.{list_any, range_with_len}
use Rattle.std.proofs.lemmas.Bool.{cases_Bool, eqb-true, false≢true, false_from_ne_true}
use Rattle.std.proofs.lemmas.Bool.Decides.{nat_tests}
use Rattle.std.proofs.lemmas.List.{append_assoc}
use Rattle.ff_ids.specs.declared.TheConstants.{MEMBERS, MAX_TOLERANCE}
use Rattle.ff_ids.specs.declared.Group.{Group}
use Rattle.ff_ids.specs.Heals.{Heal}
use Rattle.ff_ids.specs.Views.{all_numbers}
use Rattle.lms_ots.specs.declared.OtsKind.{OtsKind}
use Rattle.lms_tree.specs.declared.TreeKind.{TreeKind}
use Rattle.lms_tree.specs.declared.kind.TreeKind.TheVariants.{H5, H10, H15}
use Rattle.lms_tree.specs.Kinds.{leaf_count}
use Rattle.membership.proofs.NumberLemmas.{all_length}
use Rattle.life_laws.proofs.Lists.{In, Contains-from_In, In-append_left, In-append_right, In-append_cases, some_passes}
use Rattle.line_text.specs.declared.bad_word.BadWord.{BadWord}
use Rattle.line_text.specs.Answers.{Progress, next_line}
use Rattle.line_text.proofs.FrameLemmas.{judge-spelled}
use Rattle.schedule_world.specs.declared.line.WorldLine.{WorldLine}
use Rattle.schedule_world.specs.declared.line.WorldLine.TheVariants as lines
use Rattle.schedule_world.specs.declared.text.WorldText.{WorldText}
use Rattle.schedule_world.specs.declared.text.WorldText.TheVariants as world
use Rattle.schedule_world.specs.Rows.{has_node, is_below_kinds, is_body, is_ended, is_grouped, is_headed, is_roster, is_start, row_for}
use Rattle.schedule_world.specs.Grammar.{InRange, IsWorld, Stands, after, behind, judge, opening}
use Rattle.schedule_world.specs.Laws.{world-spelled}
use Rattle.sign_keys.specs.Kinds.{is_in_profile}
use Rattle.schedule_world.proofs.GrammarLemmas.{newcomer-in, kinds-fit, world-in_range, world-stands}
use Rattle.world_rules.specs.Settings.{Setting, members}
use Rattle.world_rules.specs.Keys.{setting_for}
use Rattle.world_rules.specs.Worlds.{World, begun_world}
use Rattle.world_rules.specs.Forgeries.{Forgery}
use Rattle.world_rules.specs.Steps.{Answer, NodeEvent, step}
use Rattle.world_rules.specs.Walk.{Brought, Lists, Plays, Roster, Stage, Walk, at_end, brought, events_in, from_answer, from_line, listed, no_roster, setting_in, stepped, walk, walk_over}
use Rattle.world_rules.specs.Laws.{IsSetting, opens_so, goes}
use Rattle.world_laws.specs.Sent.{HasIndexes}
use Rattle.world_laws.specs.Texts.{IsComeTo, IsLawful, IsLawfulStage, IsPlayed, TextsAreLawful, TextsComeToWorlds, end_fault, world_grammar}
use Rattle.world_rules.proofs.Once.{nodes-once}
use Rattle.world_rules.proofs.Telling.{lives-justified}
use Rattle.world_laws.proofs.Keyed.{keys-verify}
use Rattle.world_laws.proofs.Lawful.{accuse-silent, never-ahead, rosters}
use Rattle.world_laws.proofs.SignedBefore.{accepted-signed}
use Rattle.world_laws.proofs.AsCalled.{leave-as-called}
use Rattle.world_laws.proofs.Sent.{sent-verify}
use Rattle.world_laws.proofs.Removing.{removals-verified, told-removals-verified}
use Rattle.world_laws.proofs.Written.{authority-once, sending-told, spending-told}
use Rattle.world_laws.proofs.SignedFirst.{accepted-signed-first}
use Rattle.world_laws.proofs.Living.{accepted-lived}
use Rattle.world_laws.proofs.Flowing.{only-sent}
use Rattle.world_laws.proofs.Answered.{answers-hold, expiries-lived}
use Rattle.world_laws.proofs.Viewed.{equal-records}

-- ---- how many are listed

either : (p q : ℕ → Bool) (ms : List ℕ) → length (filter (λ m. p m || q m) ms) ≤ length (filter p ms) + length (filter q ms)
either p q [] = omega arith
either p q (m ∷ ms) =
    let rest = either p q ms in
    elim (cases_Bool (p m)) [
      | inl first ↦ elim (cases_Bool (q m)) [ inl second ↦ rw (first, second) (omega (arith, rest)) | inr other ↦ rw (first, other) (omega (arith, rest)) ]
      | inr apart ↦ elim (cases_Bool (q m)) [ inl second ↦ rw (apart, second) (omega (arith, rest)) | inr other ↦ rw (apart, other) (omega (arith, rest)) ]
    ]

none-before : (x from n : ℕ) → x < from → length (filter (λ m. eqb x m) (range_with_len from n)) ≡ 0
none-before x from zero less = refl
none-before x from (suc n) less =
    let apart : eqb x from ≡ false = grind (arith, nat_tests, less) in
    let rest = none-before x (from + 1) n (omega (arith, less)) in
    rw apart rest

at-most-one : (x from n : ℕ) → length (filter (λ m. eqb x m) (range_with_len from n)) ≤ 1
at-most-one x from zero = omega arith
at-most-one x from (suc n) =
    elim (cases_Bool (eqb x from)) [
      | inl here ↦ let rest = none-before x (from + 1) n (omega (arith, eqb-true x from here)) in rw here (omega (arith, rest))
      | inr apart ↦ let rest = at-most-one x (from + 1) n in rw apart rest
    ]

nobody : (ms : List ℕ) → length (filter (λ (m : ℕ). false) ms) ≡ 0
nobody [] = refl
nobody (m ∷ ms) = nobody ms

few-listed : (xs : List ℕ) (from n : ℕ) → length (filter (λ m. list_any (λ x. eqb x m) xs) (range_with_len from n)) ≤ length xs
few-listed [] from n = omega (arith, nobody (range_with_len from n))
few-listed (x ∷ xs) from n = omega (arith, either (λ m. eqb x m) (λ m. list_any (λ y. eqb y m) xs) (range_with_len from n), at-most-one x from n, few-listed xs from n)

-- A roster of at most as many as a tree has indexes.
many-leaves : (tree : TreeKind) → 32 ≤ leaf_count tree
many-leaves H5 = omega arith
many-leaves H10 = omega arith
many-leaves H15 = omega arith

-- ---- rosters

-- Nobody is listed.
pub record IsEmpty (r : Roster) : Type 0 where
  pub nodes : r.correct ≡ []
  pub liars : r.liars ≡ []

pub record HasGroup (r : Roster) : Type 0 where
  pub some : 1 ≤ r.group.t
  pub few : r.group.t ≤ MAX_TOLERANCE

-- There are keys of the kinds. Who is listed is among the names, and the nodes and the liars are apart.
pub record IsNamed (r : Roster) (names : List ℕ) : Type 0 where
  pub group : HasGroup r
  pub count : length r.correct + length r.liars ≤ length names
  pub few : length names ≤ 32
  pub kinds : is_in_profile r.kinds ≡ true
  pub nodes : (m : ℕ) → In r.correct m → In names m
  pub liars : (m : ℕ) → In r.liars m → In names m
  pub numbered : (m : ℕ) → In r.correct m → m < MEMBERS
  pub apart : (m : ℕ) → In r.correct m → In r.liars m → ⊥

-- What is known of a roster, by how far the text has come.
abbrev pub Fits : WorldText → Roster → Type 0
Fits world.Start r = IsEmpty r
Fits world.Headed r = IsEmpty r
Fits (world.Grouped t) r = IsEmpty r × HasGroup r
Fits (world.Roster t heal names node) r = IsNamed r names
Fits (world.Body t ticks) r = ⊥
Fits world.Ended r = ⊥

listed-in : (xs : List ℕ) (m : ℕ) → list_any (λ x. eqb x m) xs ≡ true → In xs m
listed-in xs m e = let r = some_passes _ xs e in subst (In xs) (eqb-true r.0 m r.1.1) r.1.0

setting-fits : (r : Roster) (names : List ℕ) → IsNamed r names → IsSetting (setting_in r)
unfolding setting_for
setting-fits r names h =
    record {
      some = h.group.some;
      few = h.group.few;
      numbered = λ m is. h.numbered m (listed-in r.correct m is);
      apart = λ m is. false_from_ne_true _ (λ liar. h.apart m (listed-in r.correct m is) (listed-in r.liars m liar));
    }

last-of : (xs : List ℕ) (k m : ℕ) → In (xs ++ k ∷ []) m → In xs m ⊎ (k ≡ m)
last-of xs k m i = elim (In-append_cases xs (k ∷ []) m i) [ inl old ↦ inl old | inr (inl is) ↦ inr is | inr (inr none) ↦ absurd none ]

-- ---- a line of a roster

header-line : (form : WorldText) (r : Roster) → IsTrue (is_start form) → Fits form r → Fits world.Headed r
header-line world.Start r stands h = h
header-line _ r stands h = absurd (false≢true stands)

group-line : (form : WorldText) (r : Roster) (g : Group) → IsTrue (is_headed form) → InRange form (lines.Group g) → Fits form r → Fits (world.Grouped g.t) (record r { group = g })
group-line world.Headed r g stands range h = (record { nodes = h.nodes; liars = h.liars }, record { some = range.0.0; few = range.0.1 })
group-line _ r g stands range h = absurd (false≢true stands)

kinds-line : (form : WorldText) (r : Roster) (ots : OtsKind) (tree : TreeKind) (bottom : Option TreeKind) → IsTrue (is_grouped form) → InRange form (lines.Kinds ots tree bottom) → Fits form r
    → Fits (after form (lines.Kinds ots tree bottom)) (record r { kinds = record { ots = ots; tree = tree; bottom = bottom } })
kinds-line (world.Grouped t) r ots tree bottom stands range h =
    record {
      kinds = kinds-fit (world.Grouped t) ots tree bottom range;
      group = record { some = h.1.some; few = h.1.few };
      count = omega (arith, ap (λ (xs : List ℕ). length xs) h.0.nodes, ap (λ (xs : List ℕ). length xs) h.0.liars);
      few = omega arith;
      nodes = λ m i. subst (λ xs. In xs m) h.0.nodes i;
      liars = λ m i. subst (λ xs. In xs m) h.0.liars i;
      numbered = λ m i. absurd (subst (λ xs. In xs m) h.0.nodes i);
      apart = λ m i j. subst (λ xs. In xs m) h.0.nodes i;
    }
kinds-line _ r ots tree bottom stands range h = absurd (false≢true stands)

heal-line : (form : WorldText) (r : Roster) (h : Heal) → IsTrue (is_below_kinds form) → Fits form r → Fits (after form (lines.Heal h)) (record r { heal = Some h })
heal-line (world.Roster t heal names node) r h stands fits =
    record {
      group = record { some = fits.group.some; few = fits.group.few };
      count = fits.count;
      few = fits.few;
      kinds = fits.kinds;
      nodes = fits.nodes;
      liars = fits.liars;
      numbered = fits.numbered;
      apart = fits.apart;
    }
heal-line _ r h stands fits = absurd (false≢true stands)

node-line : (form : WorldText) (r : Roster) (m : ℕ) → IsTrue (is_roster form) → InRange form (lines.Node m) → Fits form r → Fits (after form (lines.Node m)) (record r { correct = r.correct ++ m ∷ [] })
node-line (world.Roster t heal names node) r m stands range h =
    let new = newcomer-in (world.Roster t heal names node) m range in
    record {
      group = record { some = h.group.some; few = h.group.few };
      count = omega (arith, h.count, length-append r.correct (m ∷ []), length-append names (m ∷ []));
      few = omega (arith, new.few, length-append names (m ∷ []));
      kinds = h.kinds;
      nodes = λ k i. elim (last-of r.correct m k i) [ inl old ↦ In-append_left names (m ∷ []) k (h.nodes k old) | inr is ↦ In-append_right names (m ∷ []) k (inl is) ];
      liars = λ k i. In-append_left names (m ∷ []) k (h.liars k i);
      numbered = λ k i. elim (last-of r.correct m k i) [ inl old ↦ h.numbered k old | inr is ↦ omega (arith, is, new.range) ];
      apart = λ k i j. elim (last-of r.correct m k i) [ inl old ↦ h.apart k old j | inr is ↦ new.unnamed (Contains-from_In names m (h.liars m (subst (In r.liars) (sym is) j))) ];
    }
node-line _ r m stands range h = absurd (false≢true stands)

liar-line : (form : WorldText) (r : Roster) (m : ℕ) → IsTrue (is_roster form) → InRange form (lines.Liar m) → Fits form r → Fits (after form (lines.Liar m)) (record r { liars = r.liars ++ m ∷ [] })
liar-line (world.Roster t heal names node) r m stands range h =
    let new = newcomer-in (world.Roster t heal names node) m range in
    record {
      group = record { some = h.group.some; few = h.group.few };
      count = omega (arith, h.count, length-append r.liars (m ∷ []), length-append names (m ∷ []));
      few = omega (arith, new.few, length-append names (m ∷ []));
      kinds = h.kinds;
      nodes = λ k i. In-append_left names (m ∷ []) k (h.nodes k i);
      liars = λ k i. elim (last-of r.liars m k i) [ inl old ↦ In-append_left names (m ∷ []) k (h.liars k old) | inr is ↦ In-append_right names (m ∷ []) k (inl is) ];
      numbered = h.numbered;
      apart = λ k i j. elim (last-of r.liars m k j) [ inl old ↦ h.apart k i old | inr is ↦ new.unnamed (Contains-from_In names m (h.nodes m (subst (In r.correct) (sym is) i))) ];
    }
liar-line _ r m stands range h = absurd (false≢true stands)

-- Each member has an index.
has-indexes : (r : Roster) (names : List ℕ) → IsNamed r names → HasIndexes (setting_in r)
unfolding setting_for members
has-indexes r names h =
    let all : List ℕ = r.correct ++ r.liars in
    let listed : length (filter (λ m. list_any (λ x. eqb x m) all) all_numbers) ≤ length all =
    subst (λ xs. length (filter (λ m. list_any (λ x. eqb x m) all) xs) ≤ length all) (sym all_length.1.are) (few-listed all 0 all_length.0) in
    omega (arith, listed, length-append r.correct r.liars, h.count, h.few, many-leaves r.kinds.tree)

begin-line : (form : WorldText) (r : Roster) → IsTrue (has_node form) → Fits form r → IsPlayed (setting_in r) (begun_world (setting_in r)) [] × HasIndexes (setting_in r)
begin-line (world.Roster t heal names node) r stands h = (record { fits = setting-fits r names h; verify = keys-verify r.group r.kinds r.heal r.correct r.liars h.kinds; reached = opens_so }, has-indexes r names h)
begin-line _ r stands h = absurd (false≢true stands)

no-body : (form : WorldText) (r : Roster) → IsTrue (is_body form) → Fits form r → ⊥
no-body (world.Body t ticks) r stands h = h
no-body _ r stands h = absurd (false≢true stands)

abbrev pub IsAt : WorldText → Stage → List NodeEvent → Type 0
IsAt form (Lists r) told = Fits form r × (told ≡ [])
IsAt form (Plays s w) told = IsPlayed s w told × HasIndexes s

roster-line : (form : WorldText) (r : Roster) (l : WorldLine) → Stands form l → InRange form l → Fits form r → IsAt (after form l) (listed setting_in r l) []
roster-line form r lines.Header stands range h = (header-line form r stands h, refl)
roster-line form r (lines.Group g) stands range h = (group-line form r g stands range h, refl)
roster-line form r (lines.Kinds ots tree bottom) stands range h = (kinds-line form r ots tree bottom stands range h, refl)
roster-line form r (lines.Heal h) stands range fits = (heal-line form r h stands fits, refl)
roster-line form r (lines.Node m) stands range h = (node-line form r m stands range h, refl)
roster-line form r (lines.Liar m) stands range h = (liar-line form r m stands range h, refl)
roster-line form r lines.Begin stands range h = begin-line form r stands h
roster-line form r l stands range h = absurd (no-body form r stands h)

-- ---- a line

played-step : (form : WorldText) (s : Setting) (w : World) (told : List NodeEvent) (l : WorldLine) (r : Result Answer Forgery) (b : Brought) → step s w l ≡ r → stepped s r ≡ Ok b → IsPlayed s w told × HasIndexes s → IsAt form b.stage (told ++ b.told)
played-step form s w told l (Err found) b is e h = cc
played-step form s w told l (Ok a) b is e h =
    subst (λ (x : Brought). IsAt form x.stage (told ++ x.told)) (ok-is _ _ e)
    (record { fits = h.0.fits; verify = h.0.verify; reached = goes w told l a h.0.reached is }, h.1)
  where
    ok-is : (x y : Brought) → (let r : Result Brought Forgery = Ok x in r) ≡ Ok y → x ≡ y
    ok-is x y e = cc

line-at : (p : Progress WorldText) (bytes : List ℕ) (l : WorldLine) (stage : Stage) (told : List NodeEvent) (b : Brought) → judge p bytes ≡ Ok l → brought setting_in stage l ≡ Ok b → IsAt p.form stage told → IsAt (behind p l).form b.stage (told ++ b.told)
line-at p bytes l (Lists r) told b judged e h =
    let is = judge-spelled (next_line is_ended row_for p) (IsWorld p.form) (world-spelled p.form) bytes l judged in
    subst (λ (x : Brought). IsAt (after p.form l) x.stage (told ++ x.told)) (ok-is _ _ e)
    (subst (λ xs. IsAt (after p.form l) (listed setting_in r l) (xs ++ [])) (sym h.1) (roster-line p.form r l (world-stands p.form (is.first ∷ is.others) l is.spells) (world-in_range p.form (is.first ∷ is.others) l is.spells) h.0))
  where
    ok-is : (x y : Brought) → (let r : Result Brought Forgery = Ok x in r) ≡ Ok y → x ≡ y
    ok-is x y e = cc
line-at p bytes l (Plays s w) told b judged e h = played-step (after p.form l) s w told l (step s w l) b refl e h

-- ---- the walk

at-come : (form : WorldText) (stage : Stage) (told : List NodeEvent) → IsAt form stage told → IsComeTo stage told
at-come form (Lists r) told h = h.1
at-come form (Plays s w) told h = h

nil-right : {A : Type 0} (xs : List A) → xs ++ [] ≡ xs
nil-right [] = refl
nil-right (x ∷ xs) = ap (λ ys. x ∷ ys) (nil-right xs)

-- The walk ends here.
ended : (form : WorldText) (stage : Stage) (told : List NodeEvent) → IsAt form stage told → IsComeTo stage (told ++ [])
ended form stage told h = subst (IsComeTo stage) (sym (nil-right told)) (at-come form stage told h)

end-come : (form : WorldText) (stage : Stage) (told : List NodeEvent) (fault : Option BadWord) → IsAt form stage told → let w = at_end stage fault in IsComeTo w.stage (told ++ events_in w)
end-come form stage told None h = ended form stage told h
end-come form stage told (Some bad) h = ended form stage told h

-- The lines behind come to that.
abbrev Comes : (WorldLine → List ℕ) → List (List ℕ) → Progress WorldText → Type 0
Comes spelled rest p = (stage : Stage) (told : List NodeEvent) → IsAt p.form stage told → let w = walk (world_grammar spelled) setting_in rest p stage in IsComeTo w.stage (told ++ events_in w)

answer-come : (spelled : WorldLine → List ℕ) (rest : List (List ℕ)) (p : Progress WorldText) (bytes : List ℕ) (stage : Stage) (told : List NodeEvent) (l : WorldLine) (r : Result Brought Forgery)
    → judge p bytes ≡ Ok l → brought setting_in stage l ≡ r → IsAt p.form stage told → Comes spelled rest (behind p l) → let w = from_answer stage l r (λ after. walk (world_grammar spelled) setting_in rest (behind p l) after) in IsComeTo w.stage (told ++ events_in w)
answer-come spelled rest p bytes stage told l (Err found) judged is h later = ended p.form stage told h
answer-come spelled rest p bytes stage told l (Ok b) judged is h later =
    let w : Walk = walk (world_grammar spelled) setting_in rest (behind p l) b.stage in
    subst (IsComeTo w.stage) (append_assoc told b.told (events_in w)) (later b.stage (told ++ b.told) (line-at p bytes l stage told b judged is h))

line-come : (spelled : WorldLine → List ℕ) (rest : List (List ℕ)) (p : Progress WorldText) (bytes : List ℕ) (stage : Stage) (told : List NodeEvent) (r : Result WorldLine BadWord)
    → judge p bytes ≡ r → IsAt p.form stage told → ((l : WorldLine) → Comes spelled rest (behind p l)) → let w = from_line setting_in stage r (λ l after. walk (world_grammar spelled) setting_in rest (behind p l) after) in IsComeTo w.stage (told ++ events_in w)
line-come spelled rest p bytes stage told (Err bad) is h later = ended p.form stage told h
line-come spelled rest p bytes stage told (Ok l) is h later = answer-come spelled rest p bytes stage told l (brought setting_in stage l) is refl h (later l)

walk-come : (spelled : WorldLine → List ℕ) (text : List (List ℕ)) (p : Progress WorldText) → Comes spelled text p
walk-come spelled [] p = λ stage told h. end-come p.form stage told (end_fault p) h
walk-come spelled (bytes ∷ rest) p = λ stage told h. line-come spelled rest p bytes stage told (judge p bytes) refl h (λ l. walk-come spelled rest (behind p l))

pub texts-come : TextsComeToWorlds
texts-come spelled text = walk-come spelled text opening (Lists no_roster) [] (record { nodes = refl; liars = refl }, refl)

-- ---- what holds of it

pub played-lawful : (s : Setting) (w : World) (told : List NodeEvent) → IsPlayed s w told → IsLawful s w told
played-lawful s w told h =
    let accepted = accepted-signed s w told h.fits h.reached in
    record {
      lives = λ m. lives-justified s w told m h.reached;
      living = λ m. accepted-lived s w told m h.reached;
      spending = λ m is. spending-told s w told m h.fits h.reached is;
      sending = sending-told s w told h.reached;
      handing = only-sent s w told h.reached;
      rosters = λ who. rosters s w told who h.fits h.reached;
      verified = λ who. removals-verified s w told who h.fits h.verify h.reached;
      removals = λ t m among is. told-removals-verified s w told t m h.fits h.verify h.reached among is;
      once = λ m is. nodes-once s w told m h.fits h.reached is;
      issued = authority-once s w told h.reached;
      none_ahead = never-ahead s w told h.fits h.reached;
      answers = λ who. answers-hold s w who;
      expiries = λ t a among is. expiries-lived s w told t a h.reached among is;
      one_view = equal-records s w;
      signed = λ m index a is spent. accuse-silent s w told m index a h.fits h.reached is spent;
      left = λ m index n is spent leaving. leave-as-called s w told m index n h.fits h.reached is spent leaving;
      lived = accepted.0;
      accepted = accepted.1;
      signed_first = accepted-signed-first s w told h.fits h.reached;
      sent_verify = λ few. sent-verify s w told h.fits h.verify few h.reached;
    }

come-lawful : (stage : Stage) (told : List NodeEvent) → IsComeTo stage told → IsLawfulStage stage told
come-lawful (Lists r) told h = h
come-lawful (Plays s w) told h = played-lawful s w told h.0

pub texts-lawful : TextsAreLawful
texts-lawful spelled text =
    let w : Walk = walk_over (world_grammar spelled) setting_in text in
    come-lawful w.stage (events_in w) (texts-come spelled text)
