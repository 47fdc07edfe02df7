-- What a line does to a roster that was read so far.
use Rattle.std.proofs.Common.{◌≡◌, ◌⊎◌, ℕ, Bool, true, false, ◌||◌, eqb, List, [], ◌∷◌, ◌++◌, length, length-append, inl, inr, refl, ap, sym, ◌∙◌, subst, arith}
use Rattle.std.specs.Prelude.{Option, Some, Result, Ok, Err, IsTrue, Contains}
use Rattle.std.proofs.lemmas.Bool.{eqb-true, false≢true, false_from_ne_true, or_cases, or_left, or_right}
use Rattle.std.proofs.lemmas.List.Folds.{list_any-append}
use Rattle.life_laws.proofs.Lists.{In, Contains-from_In, some_passes}
use Rattle.ff_ids.specs.declared.Group.{Group}
use Rattle.ff_ids.specs.Heals.{Heal}
use Rattle.lms_ots.specs.declared.OtsKind.{OtsKind}
use Rattle.lms_tree.specs.declared.TreeKind.{TreeKind}
use Rattle.line_text.specs.Answers.{Progress}
use Rattle.schedule_world.specs.declared.line.WorldLine.{WorldLine}
use Rattle.schedule_world.specs.declared.line.WorldLine.TheVariants as lines
use Rattle.schedule_world.specs.declared.text.WorldText.{WorldText}
use Rattle.schedule_world.specs.declared.text.WorldText.TheVariants as form
use Rattle.schedule_world.specs.Rows.{has_node, is_below_kinds, is_body, is_grouped, is_headed, is_roster, is_start, tolerance}
use Rattle.schedule_world.specs.Grammar.{InRange, Stands, after, behind, judge}
use Rattle.schedule_world.proofs.GrammarLemmas.{height-low, kinds-fit, newcomer-in, world-in_range, world-stands}
use Rattle.world_rules.specs.Keys.{setting_for}
use Rattle.world_rules.specs.Settings.{Setting}
use Rattle.world_rules.specs.Forgeries.{Forgery}
use Rattle.world_rules.specs.Steps.{Answer, NodeEvent, step}
use Rattle.world_rules.specs.Walk.{Brought, Lists, Plays, Roster, Stage, brought, listed, no_roster, setting_in, stepped}
use Rattle.world.specs.Courses.{HasItsRing}
use Rattle.world.specs.Holding.{Kept as World}
use Rattle.world.specs.Opening.{IsApart}
use Rattle.world.proofs.LookLemmas.{authority-group}
use Rattle.world_replay.specs.declared.stage.Stage.{Stage as Kept}
use Rattle.world_replay.specs.declared.stage.Stage.TheVariants as kept_stages
use Rattle.world_replay.specs.Stages.{CanBegin, CanList, CanTake, HoldsStage}
use Rattle.world_replay.specs.Rosters.{AreNamed, Fits, IsPlaying, IsRead, is_listed}
use Rattle.world_replay.specs.Unfed.{line-is}

-- ---- one more member

-- who is listed with one more was listed, or is that one
listed-more : (xs : List ℕ) (m k : ℕ) → is_listed (xs ++ m ∷ []) k ≡ (is_listed xs k || (eqb m k || false))
listed-more xs m k = list_any-append (λ x. eqb x k) xs (m ∷ [])

last-of : (xs : List ℕ) (m k : ℕ) → is_listed (xs ++ m ∷ []) k ≡ true → (is_listed xs k ≡ true) ⊎ (m ≡ k)
last-of xs m k is =
    elim (or_cases (is_listed xs k) (eqb m k || false) (sym (listed-more xs m k) ∙ is)) [
      | inl old ↦ inl old
      | inr new ↦ elim (or_cases (eqb m k) false new) [ inl same ↦ inr (eqb-true m k same) | inr never ↦ absurd (false≢true never) ]
    ]

still-listed : (xs : List ℕ) (m k : ℕ) → is_listed xs k ≡ true → is_listed (xs ++ m ∷ []) k ≡ true
still-listed xs m k is = listed-more xs m k ∙ or_left (is_listed xs k) (eqb m k || false) is

eqb-same : (m : ℕ) → eqb m m ≡ true
eqb-same m = grind arith

now-listed : (xs : List ℕ) (m k : ℕ) → m ≡ k → is_listed (xs ++ m ∷ []) k ≡ true
now-listed xs m k same =
    subst (λ (n : ℕ). is_listed (xs ++ m ∷ []) n ≡ true) same
    (listed-more xs m m ∙ or_right (is_listed xs m) (eqb m m || false) (or_left (eqb m m) false (eqb-same m)))

-- a name that is new was not given
unnamed : (names : List ℕ) (m : ℕ) → (Contains names m → ⊥) → is_listed names m ≡ true → ⊥
unnamed names m new is =
    let found = some_passes (λ x. eqb x m) names is in
    new (Contains-from_In names m (subst (In names) (eqb-true found.0 m found.1.1) found.1.0))

named-more : (names listed : List ℕ) (m : ℕ) → AreNamed names listed → AreNamed (names ++ m ∷ []) listed
named-more names listed m h = λ k is. still-listed names m k (h k is)

named-too : (names listed : List ℕ) (m : ℕ) → AreNamed names listed → AreNamed (names ++ m ∷ []) (listed ++ m ∷ [])
named-too names listed m h = λ k is. elim (last-of listed m k is) [ inl old ↦ still-listed names m k (h k old) | inr same ↦ now-listed names m k same ]

-- who is new is apart from all that were named
new-apart : (names listed : List ℕ) (m k : ℕ) → (Contains names m → ⊥) → AreNamed names listed → m ≡ k → is_listed listed k ≡ true → ⊥
new-apart names listed m k new h same is = unnamed names m new (h m (subst (λ (n : ℕ). is_listed listed n ≡ true) (sym same) is))

node-apart : (names nodes liars : List ℕ) (m : ℕ) → (Contains names m → ⊥) → AreNamed names liars → IsApart nodes liars → IsApart (nodes ++ m ∷ []) liars
node-apart names nodes liars m new h apart = λ k is.
    elim (last-of nodes m k is) [ inl old ↦ apart k old | inr same ↦ false_from_ne_true (is_listed liars k) (new-apart names liars m k new h same) ]

liar-apart : (names nodes liars : List ℕ) (m : ℕ) → (Contains names m → ⊥) → AreNamed names nodes → IsApart nodes liars → IsApart nodes (liars ++ m ∷ [])
liar-apart names nodes liars m new h apart = λ k is.
    false_from_ne_true (is_listed (liars ++ m ∷ []) k) (λ liar.
    elim (last-of liars m k liar) [ inl old ↦ false≢true (sym (apart k is) ∙ old) | inr same ↦ new-apart names nodes m k new h same is ])

-- ---- a line of a roster

header-line : (w : WorldText) (r : Roster) → IsTrue (is_start w) → IsRead w r → IsRead form.Headed r
header-line form.Start r stands h = h
header-line _ r stands h = absurd (false≢true stands)

group-line : (w : WorldText) (r : Roster) (g : Group) → IsTrue (is_headed w) → InRange w (lines.Group g) → IsRead w r → IsRead (form.Grouped g.t) (record r { group = g })
group-line form.Headed r g stands range h = (
  record { nodes = h.nodes; liars = h.liars },
  record {
    some = range.0.0;
    few = range.0.1;
    waits = range.1.0.0;
    ends = range.1.0.1;
    period = omega (arith, range.1.1.0.0);
    often = range.1.1.0.1;
    missed = range.1.1.1.0.0;
    misses = range.1.1.1.0.1;
  },
  refl,
)
group-line _ r g stands range h = absurd (false≢true stands)

kinds-line : (w : WorldText) (r : Roster) (ots : OtsKind) (tree : TreeKind) (bottom : Option TreeKind) → IsTrue (is_grouped w) → InRange w (lines.Kinds ots tree bottom) → IsRead w r
    → IsRead (after w (lines.Kinds ots tree bottom)) (record r { kinds = record { ots = ots; tree = tree; bottom = bottom } })
kinds-line (form.Grouped t) r ots tree bottom stands range h =
    let nobody : (m : ℕ) → is_listed r.correct m ≡ true → ⊥ = λ m is. false≢true (ap (λ (xs : List ℕ). is_listed xs m) (sym h.0.nodes) ∙ is) in
    let no_liar : (m : ℕ) → is_listed r.liars m ≡ true → ⊥ = λ m is. false≢true (ap (λ (xs : List ℕ). is_listed xs m) (sym h.0.liars) ∙ is) in
    record {
      group = h.1;
      tolerance = h.2;
      kinds = height-low (form.Grouped t) ots tree bottom range;
      profile = kinds-fit (form.Grouped t) ots tree bottom range;
      some = λ node. absurd (false≢true node);
      count = omega (arith, ap (λ (xs : List ℕ). length xs) h.0.nodes, ap (λ (xs : List ℕ). length xs) h.0.liars);
      few = omega arith;
      nodes = λ m is. absurd (nobody m is);
      liars = λ m is. absurd (no_liar m is);
      apart = λ m is. absurd (nobody m is);
    }
kinds-line _ r ots tree bottom stands range h = absurd (false≢true stands)

heal-line : (w : WorldText) (r : Roster) (h : Heal) → IsTrue (is_below_kinds w) → IsRead w r → IsRead (after w (lines.Heal h)) (record r { heal = Some h })
heal-line (form.Roster t heal names node) r h stands read =
    record {
      group = read.group;
      tolerance = read.tolerance;
      kinds = read.kinds;
      profile = read.profile;
      some = read.some;
      count = read.count;
      few = read.few;
      nodes = read.nodes;
      liars = read.liars;
      apart = read.apart;
    }
heal-line _ r h stands read = absurd (false≢true stands)

node-line : (w : WorldText) (r : Roster) (m : ℕ) → IsTrue (is_roster w) → InRange w (lines.Node m) → IsRead w r → IsRead (after w (lines.Node m)) (record r { correct = r.correct ++ m ∷ [] })
node-line (form.Roster t heal names node) r m stands range h =
    let newcomer = newcomer-in (form.Roster t heal names node) m range in
    record {
      group = h.group;
      tolerance = h.tolerance;
      kinds = h.kinds;
      profile = h.profile;
      some = λ is. omega (arith, length-append r.correct (m ∷ []));
      count = omega (arith, h.count, length-append r.correct (m ∷ []), length-append names (m ∷ []));
      few = omega (arith, newcomer.few, length-append names (m ∷ []));
      nodes = named-too names r.correct m h.nodes;
      liars = named-more names r.liars m h.liars;
      apart = node-apart names r.correct r.liars m newcomer.unnamed h.liars h.apart;
    }
node-line _ r m stands range h = absurd (false≢true stands)

liar-line : (w : WorldText) (r : Roster) (m : ℕ) → IsTrue (is_roster w) → InRange w (lines.Liar m) → IsRead w r → IsRead (after w (lines.Liar m)) (record r { liars = r.liars ++ m ∷ [] })
liar-line (form.Roster t heal names node) r m stands range h =
    let newcomer = newcomer-in (form.Roster t heal names node) m range in
    record {
      group = h.group;
      tolerance = h.tolerance;
      kinds = h.kinds;
      profile = h.profile;
      some = λ is. h.some (same-node node is);
      count = omega (arith, h.count, length-append r.liars (m ∷ []), length-append names (m ∷ []));
      few = omega (arith, newcomer.few, length-append names (m ∷ []));
      nodes = named-more names r.correct m h.nodes;
      liars = named-too names r.liars m h.liars;
      apart = liar-apart names r.correct r.liars m newcomer.unnamed h.nodes h.apart;
    }
  where
    same-node : (b : Bool) → (b || false) ≡ true → b ≡ true
    same-node true is = refl
    same-node false is = is
liar-line _ r m stands range h = absurd (false≢true stands)

no-body : (w : WorldText) (r : Roster) → IsTrue (is_body w) → IsRead w r → ⊥
no-body (form.Body t ticks) r stands h = h
no-body _ r stands h = absurd (false≢true stands)

begin-plays : (w : WorldText) (r : Roster) → IsTrue (has_node w) → IsRead w r → IsPlaying (form.Body (tolerance w) 0) (setting_in r)
unfolding setting_for
begin-plays (form.Roster t heal names node) r stands h = h.tolerance
begin-plays _ r stands h = absurd (false≢true stands)

listed-fits : (w : WorldText) (r : Roster) (l : WorldLine) → Stands w l → InRange w l → IsRead w r → Fits (after w l) (listed setting_in r l)
listed-fits w r lines.Header stands range h = header-line w r stands h
listed-fits w r (lines.Group g) stands range h = group-line w r g stands range h
listed-fits w r (lines.Kinds ots tree bottom) stands range h = kinds-line w r ots tree bottom stands range h
listed-fits w r (lines.Heal heal) stands range h = heal-line w r heal stands h
listed-fits w r (lines.Node m) stands range h = node-line w r m stands range h
listed-fits w r (lines.Liar m) stands range h = liar-line w r m stands range h
listed-fits w r lines.Begin stands range h = begin-plays w r stands h
listed-fits w r l stands range h = absurd (no-body w r stands h)

-- ---- any line

still-playing : (w : WorldText) (s : Setting) (l : WorldLine) → Stands w l → IsPlaying w s → IsPlaying (after w l) s
still-playing (form.Body t ticks) s lines.Header stands h = absurd (false≢true stands)
still-playing (form.Body t ticks) s (lines.Group g) stands h = absurd (false≢true stands)
still-playing (form.Body t ticks) s (lines.Kinds ots tree bottom) stands h = absurd (false≢true stands)
still-playing (form.Body t ticks) s (lines.Heal heal) stands h = absurd (false≢true stands)
still-playing (form.Body t ticks) s (lines.Node m) stands h = absurd (false≢true stands)
still-playing (form.Body t ticks) s (lines.Liar m) stands h = absurd (false≢true stands)
still-playing (form.Body t ticks) s lines.Begin stands h = absurd (false≢true stands)
still-playing (form.Body t ticks) s lines.End stands h = tt
still-playing (form.Body t ticks) s l stands h = h
still-playing form.Ended s lines.Header stands h = absurd (false≢true stands)
still-playing form.Ended s (lines.Group g) stands h = absurd (false≢true stands)
still-playing form.Ended s (lines.Kinds ots tree bottom) stands h = absurd (false≢true stands)
still-playing form.Ended s (lines.Heal heal) stands h = absurd (false≢true stands)
still-playing form.Ended s (lines.Node m) stands h = absurd (false≢true stands)
still-playing form.Ended s (lines.Liar m) stands h = absurd (false≢true stands)
still-playing form.Ended s lines.Begin stands h = absurd (false≢true stands)
still-playing form.Ended s lines.End stands h = tt
still-playing form.Ended s l stands h = h
still-playing w s l stands h = absurd h

stepped-fits : (w : WorldText) (s : Setting) (r : Result Answer Forgery) (b : Brought) → stepped s r ≡ Ok b → IsPlaying w s → Fits w b.stage
stepped-fits w s (Err found) b is h = cc
stepped-fits w s (Ok a) b is h = subst (λ (x : Brought). Fits w x.stage) (ok-is _ b is) h
  where
    ok-is : (x y : Brought) → (let r : Result Brought Forgery = Ok x in r) ≡ Ok y → x ≡ y
    ok-is x y e = cc

-- What has come of a text fits behind a line.
pub fits-behind : (p : Progress WorldText) (bytes : List ℕ) (l : WorldLine) (stage : Stage) (b : Brought) → judge p bytes ≡ Ok l → brought setting_in stage l ≡ Ok b → Fits p.form stage → Fits (behind p l).form b.stage
fits-behind p bytes l (Lists r) b judged is h =
    let line = line-is p bytes l judged in
    subst (λ (x : Brought). Fits (after p.form l) x.stage) (ok-is _ b is) (listed-fits p.form r l (world-stands p.form (line.first ∷ line.others) l line.spells) (world-in_range p.form (line.first ∷ line.others) l line.spells) h)
  where
    ok-is : (x y : Brought) → (let r : Result Brought Forgery = Ok x in r) ≡ Ok y → x ≡ y
    ok-is x y e = cc
fits-behind p bytes l (Plays s w) b judged is h =
    let line = line-is p bytes l judged in
    stepped-fits (after p.form l) s (step s w l) b is (still-playing p.form s l (world-stands p.form (line.first ∷ line.others) l line.spells) h)

-- ---- the line `begin`

can-begin : (w : WorldText) (r : Roster) → IsTrue (has_node w) → IsRead w r → CanBegin r
can-begin (form.Roster t heal names node) r stands h =
    record { group = h.group; some = h.some stands; few = omega (arith, h.count, h.few); kinds = h.kinds; profile = h.profile; apart = h.apart }
can-begin _ r stands h = absurd (false≢true stands)

can-list : (w : WorldText) (l : WorldLine) (r kept : Roster) → Stands w l → kept ≡ r → IsRead w r → CanList kept l
can-list w lines.Begin r kept stands same h = subst CanBegin (sym same) (can-begin w r stands h)
can-list w l r kept stands same h = tt

-- ---- a line that is played

has-ring : (w : WorldText) (l : WorldLine) (s : Setting) (kept : World) → Stands w l → InRange w l → IsPlaying w s → kept.authority.group ≡ s.group → HasItsRing kept l
has-ring (form.Body t ticks) (lines.Monitor m ring of) s kept stands range h group =
    let same : kept.authority.group.t ≡ t = ap (λ (g : Group). g.t) group ∙ h in
    omega (arith, same, range.1.0.1)
has-ring w (lines.Monitor m ring of) s kept stands range h group = absurd (false≢true stands)
has-ring w l s kept stands range h group = tt

can-take : (w : WorldText) (l : WorldLine) (stage : Stage) (told : List NodeEvent) (kept : Kept) → Stands w l → InRange w l → HoldsStage stage told kept → Fits w stage → CanTake kept l
can-take w l (Lists r) told (kept_stages.Lists kept) stands range holds fits = can-list w l r kept stands holds.0 fits
can-take w l (Plays s world) told (kept_stages.Plays kept) stands range holds fits =
    (record { setting = s; world = world; told = told; holds = holds }, has-ring w l s kept stands range fits (authority-group s world told kept holds))
can-take w l (Lists r) told (kept_stages.Plays kept) stands range holds fits = absurd holds
can-take w l (Plays s world) told (kept_stages.Lists kept) stands range holds fits = absurd holds

-- A line that is one may be taken.
pub taken-of : (p : Progress WorldText) (bytes : List ℕ) (l : WorldLine) (stage : Stage) (told : List NodeEvent) (kept : Kept) → judge p bytes ≡ Ok l → HoldsStage stage told kept → Fits p.form stage → CanTake kept l
taken-of p bytes l stage told kept judged holds fits =
    let line = line-is p bytes l judged in
    let words = line.first ∷ line.others in
    can-take p.form l stage told kept (world-stands p.form words l line.spells) (world-in_range p.form words l line.spells) holds fits

pub nothing-read : Fits form.Start (Lists no_roster)
nothing-read = record { nodes = refl; liars = refl }
