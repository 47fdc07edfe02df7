-- What the grammar of the world form says of a line.
use Rattle.std.proofs.Common.{◌≡◌, ℕ, ◌+◌, ◌^◌, ◌<◌, ◌≤◌, Bool, true, false, not, leb, eqb, List, length, Option, Some, None, refl, subst, sym, ◌∙◌, arith, codes, lt-ltb, ltb-true}
use Rattle.std.specs.Prelude.{nat_eq}
use Rattle.std.specs.Fmt.{decimal}
use Rattle.std.specs.List.{Contains, list_any}
use Rattle.std.specs.Str.{bytes_eq}
use Rattle.std.proofs.Math.Nat.{le-min, min-le_left}
use Rattle.std.proofs.lemmas.Bool.{false≢true, and_parts, eqb-true, le-leb, leb-true, not-false, not-true}
use Rattle.std.proofs.lemmas.Cmp.{nat_eq_equiv}
use Rattle.std.proofs.lemmas.Map.Views.{Contains-from_any, list_any-from_Contains}
use Rattle.std.proofs.lemmas.Slice.Eq.{bytes_eq-Decides}
use Rattle.ff_ids.specs.declared.TheConstants.{LAST_MEMBER}
use Rattle.ff_ids.specs.Heals.{Heal, IsWithinRanges}
use Rattle.lms_ots.specs.declared.kind.OtsKind.{OtsKind}
use Rattle.lms_ots.specs.declared.kind.OtsKind.TheVariants.{W1, W2, W4, W8}
use Rattle.lms_ots.specs.Ots.{width}
use Rattle.lms_tree.specs.declared.kind.TreeKind.{TreeKind}
use Rattle.lms_tree.specs.declared.kind.TreeKind.TheVariants.{H5, H10, H15}
use Rattle.lms_tree.specs.Kinds.{height}
use Rattle.line_text.specs.Numbers.{number_of}
use Rattle.hss.specs.Keys.{is_in_profile}
use Rattle.sign_keys.specs.Kinds.{fits}
use Rattle.line_text.specs.declared.bad_word.BadWord.TheVariants as bad
use Rattle.line_text.specs.Tables as table
use Rattle.line_text.specs.Tables.{IsWhole, words_of}
use Rattle.line_text.proofs.FieldLemmas.{number_of-decimal}
use Rattle.line_text.proofs.FrameLemmas.{passed}
use Rattle.line_text.proofs.ShapeLemmas.{HasWord, has_one_digits}
use Rattle.line_text.proofs.TableLemmas.{PartsHaveWords, PartsMake, table-in_range, table-made, table-own, table-stands, table-whole}
use Rattle.schedule_world.specs.declared.line.LineWord.{LineWord}
use Rattle.schedule_world.specs.declared.line.LineWord.TheVariants as words
use Rattle.schedule_world.specs.declared.line.WorldLine.{WorldLine}
use Rattle.schedule_world.specs.declared.line.WorldLine.TheVariants as lines
use Rattle.schedule_world.specs.declared.text.WorldText.{WorldText}
use Rattle.schedule_world.specs.declared.text.WorldText.TheVariants as world
use Rattle.schedule_world.specs.Kinds.{ots_of, tree_of}
use Rattle.schedule_world.specs.Rows.{epoch_or_now, fields, is_body, is_roster, is_start, may_name, may_stand, most_members, most_ticks, parts, ticks_left, world_table}
use Rattle.schedule_world.specs.Grammar.{InRange, IsEpoch, IsNewcomer, IsWorld, Stands, named, spelled_words, ticks_of}

pub world-stands : (w : WorldText) (ws : List (List ℕ)) (l : WorldLine) → IsWorld w ws l → Stands w l
world-stands w ws l h = table-stands world_table w ws l h

pub world-in_range : (w : WorldText) (ws : List (List ℕ)) (l : WorldLine) → IsWorld w ws l → InRange w l
world-in_range w ws (lines.Kinds ots tree bottom) h =
    let l = lines.Kinds ots tree bottom in
    (table-in_range world_table w ws l h, not-false (fits ots tree bottom) (passed bad.Limit (not (fits ots tree bottom)) (table-whole world_table w ws l h)))
world-in_range w ws lines.Header h = table-in_range world_table w ws lines.Header h
world-in_range w ws l h = table-in_range world_table w ws l h

-- Words don't depend on what was read.
any_words : (w : WorldText) (digits : List ℕ) (l : WorldLine) → words_of world_table w digits l ≡ spelled_words digits l
any_words w digits lines.Header = refl
any_words w digits _ = refl

one_digits : (w : WorldText) (word : LineWord) → has_one_digits (fields w word) ≡ true
one_digits w words.End = refl
one_digits w _ = refl

-- A line has one spelling, but for the digits of its bytes.
pub world-words : (w : WorldText) (ws : List (List ℕ)) (l : WorldLine) → IsWorld w ws l → (digits : List ℕ) × (ws ≡ spelled_words digits l)
world-words w ws l h =
    let own = table-own world_table w ws l (one_digits w) h in
    (own.0, own.1 ∙ any_words w own.0 l)

start_no : (word : LineWord) → may_stand world.Start word ≡ true → ⊥
start_no words.Group may = cc
start_no words.Kinds may = cc
start_no words.Heal may = cc
start_no words.Node may = cc
start_no words.Liar may = cc
start_no words.Begin may = cc
start_no _ may = cc

started : (w : WorldText) (word : LineWord) → may_stand w word ≡ true → is_start w ≡ false
started world.Start word may = absurd (start_no word may)
started _ word may = refl

whole : (w : WorldText) (digits : List ℕ) (l : WorldLine) → PartsMake world_table w digits l (parts w l)
whole w digits lines.Header = refl
whole w digits _ = refl

-- These digits spell the bytes of the line, if it has some, and 64 bits hold each number.
abbrev pub HasWords : WorldText → List ℕ → WorldLine → Type 0
HasWords w digits l = PartsHaveWords world_table w digits l (parts w l)

-- Nothing that is in range is refused as a whole.
whole_too : (w : WorldText) (l : WorldLine) → InRange w l → IsWhole world_table w l
whole_too w (lines.Kinds ots tree bottom) range = rw range.1 refl
whole_too w lines.Header range = tt
whole_too w _ range = refl

in_table : (w : WorldText) (l : WorldLine) → InRange w l → table.InRange world_table w l
in_table w (lines.Kinds ots tree bottom) range = range.0
in_table w lines.Header range = range
in_table w _ range = range

-- The words of a line that may stand here are one.
pub world-made : (w : WorldText) (digits : List ℕ) (l : WorldLine) → Stands w l → InRange w l → HasWords w digits l → IsWorld w (spelled_words digits l) l
world-made w digits l stands range has =
    subst (λ (ws : List (List ℕ)). IsWorld w ws l) (any_words w digits l) (table-made world_table w digits l (started w) (whole w digits l) stands (in_table w l range) (whole_too w l range) has)

-- ## Members that are named

named_apart : (names : List ℕ) (n : ℕ) → list_any (λ m. eqb n m) names ≡ false → Contains names n → ⊥
named_apart names n apart has =
    let in_names : list_any (λ m. eqb n m) names ≡ true = list_any-from_Contains nat_eq_equiv n names has in
    cc

apart : (names : List ℕ) (n : ℕ) (b : Bool) → list_any (λ m. eqb n m) names ≡ b → (Contains names n → ⊥) → b ≡ false
apart names n true is un = absurd (un (Contains-from_any {eq = nat_eq} eqb-true n names is))
apart names n false is un = refl

new_member : (w : WorldText) (n : ℕ) → n ≤ LAST_MEMBER → may_name w n ≡ true → IsNewcomer (named w) n
new_member (world.Roster t heal names node) n low may =
    let q = and_parts _ _ may in
    record { range = low; few = ltb-true (length names) most_members q.0; unnamed = named_apart names n (not-true _ q.1) }
new_member _ n low may = cc

-- A node or a liar that is in range is a newcomer.
pub newcomer-in : (w : WorldText) (m : ℕ) → InRange w (lines.Node m) → IsNewcomer (named w) m
newcomer-in w m range =
    let p = and_parts (leb m LAST_MEMBER) (may_name w m) range.0 in
    new_member w m (leb-true m LAST_MEMBER p.0) p.1

-- A newcomer is in range, in a roster.
pub newcomer-again : (w : WorldText) (m : ℕ) → is_roster w ≡ true → IsNewcomer (named w) m → InRange w (lines.Node m)
newcomer-again (world.Roster t heal names node) m roster h =
    let low = le-leb m LAST_MEMBER h.range in
    let few = lt-ltb (length names) most_members h.few in
    let other = apart names m (list_any (λ n. eqb m n) names) refl h.unnamed in
    (rw (low, few, other) refl, tt)
newcomer-again _ m roster h = cc

-- ## Ticks

-- Ticks that are in range are no more than there may be.
pub ticks-few : (w : WorldText) (m n : ℕ) → InRange w (lines.Tick m n) → ticks_of w + n ≤ most_ticks
ticks-few (world.Body t ticks) m n range = omega (arith, range.1.0.0, range.1.0.1, min-le_left (ticks_left (world.Body t ticks)) 10000)
ticks-few w m n range = absurd (omega (arith, range.1.0.0, range.1.0.1, min-le_left 0 10000))

tick_low : (w : WorldText) (n : ℕ) → is_body w ≡ true → ticks_of w + n ≤ most_ticks → n ≤ ticks_left w
tick_low (world.Body t ticks) n body h = omega (arith, h)
tick_low _ n body h = cc

-- Ticks that may come are in range.
pub ticks-again : (w : WorldText) (m n : ℕ) → is_body w ≡ true → m ≤ LAST_MEMBER → 1 ≤ n → n ≤ 10000 → ticks_of w + n ≤ most_ticks → InRange w (lines.Tick m n)
ticks-again w m n body member low high few = ((omega arith, member), ((low, le-min (tick_low w n body few) high), tt))

-- ## Kinds

low_tree : (tree : TreeKind) → tree_of (height tree) ≡ Some tree → height tree ≤ 10
low_tree H5 is = omega arith
low_tree H10 is = omega arith
low_tree H15 is = cc

-- The trees of a world have 5 or 10 levels.
pub height-low : (w : WorldText) (ots : OtsKind) (tree : TreeKind) (bottom : Option TreeKind) → InRange w (lines.Kinds ots tree bottom) → height tree ≤ 10
height-low w ots tree bottom range = low_tree tree range.0.1.0

-- So have the bottom trees.
pub bottom-low : (w : WorldText) (ots : OtsKind) (tree bottom : TreeKind) → InRange w (lines.Kinds ots tree (Some bottom)) → height bottom ≤ 10
bottom-low w ots tree bottom range = low_tree bottom range.0.1.1

-- There are keys of the kinds of a world.
pub kinds-fit : (w : WorldText) (ots : OtsKind) (tree : TreeKind) (bottom : Option TreeKind) → InRange w (lines.Kinds ots tree bottom) → fits ots tree bottom ≡ true
kinds-fit w ots tree bottom range = range.1

any_width : (ots : OtsKind) → ots_of (width ots) ≡ Some ots
any_width W1 = refl
any_width W2 = refl
any_width W4 = refl
any_width W8 = refl

too_high : (tree : TreeKind) → leb (height tree + 15) 15 ≡ false
too_high H5 = refl
too_high H10 = refl
too_high H15 = refl

-- Two trees of a key have at most 15 levels together, so neither has more than 10.
bottom_again : (ots : OtsKind) (tree bottom : TreeKind) → fits ots tree (Some bottom) ≡ true → tree_of (height bottom) ≡ Some bottom
bottom_again ots tree H5 fit = refl
bottom_again ots tree H10 fit = refl
bottom_again ots tree H15 fit = absurd (false≢true (sym (too_high tree) ∙ (and_parts (is_in_profile ots) (leb (height tree + 15) 15) fit).1))

tree_again : (tree : TreeKind) → height tree ≤ 10 → tree_of (height tree) ≡ Some tree
tree_again H5 low = refl
tree_again H10 low = refl
tree_again H15 low = absurd (omega (arith, low))

-- A world may have keys of any kinds that there are, with those trees.
pub kinds-again : (w : WorldText) (ots : OtsKind) (tree : TreeKind) (bottom : Option TreeKind) → height tree ≤ 10 → fits ots tree bottom ≡ true → InRange w (lines.Kinds ots tree bottom)
kinds-again w ots tree None low fit = ((any_width ots, (tree_again tree low, tt)), fit)
kinds-again w ots tree (Some bottom) low fit = ((any_width ots, (tree_again tree low, bottom_again ots tree bottom fit)), fit)

-- ## Nodes that lost each other

-- The numbers of a line `heal` are those of the option.
pub heal-within : (w : WorldText) (h : Heal) → InRange w (lines.Heal h) → IsWithinRanges h
heal-within w h range = record { some = range.0.0; few = range.0.1; bounded = range.1.0.1 }

-- ## Epochs

abbrev there : {A : Type 0} → A → Option A
there x = Some x

abbrev nothing : {A : Type 0} → Option A
nothing = None

-- a number isn't `now`
number_apart : (n : ℕ) (b : Bool) → bytes_eq (decimal n) (codes "now") ≡ b → number_of (decimal n) ≡ Some n → b ≡ false
number_apart n true is e =
    let same = (bytes_eq-Decides (decimal n) (codes "now")).0 is in
    let none : nothing ≡ there n = subst (λ (w : List ℕ). number_of w ≡ Some n) same e in
    cc
number_apart n false is e = refl

-- An epoch that is in range has its word.
pub epoch-word : (digits : List ℕ) (epoch : Option ℕ) → IsEpoch epoch → HasWord digits epoch_or_now epoch
epoch-word digits None h = tt
epoch-word digits (Some n) h =
    let small : n < 2 ^ 64 = omega (arith, h.1) in
    (number_apart n (bytes_eq (decimal n) (codes "now")) refl (number_of-decimal n small), small)
