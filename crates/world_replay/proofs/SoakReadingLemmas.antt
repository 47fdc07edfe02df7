-- Each line of a workload, in its one spelling, is read as that line.
use Rattle.std.proofs.Common.{◌≡◌, ℕ, ◌+◌, ◌^◌, ◌<◌, ◌≤◌, true, false, leb, List, [], ◌∷◌, ◌++◌, length, Option, Some, None, refl, ap, subst, ◌∙◌, arith, codes, length-append, ne_eqb}
use Rattle.std.specs.Prelude.{◌&&◌, Ok}
use Rattle.std.specs.Fmt.{decimal}
use Rattle.std.specs.List.{join_with_byte, list_all}
use Rattle.std.proofs.Math.Nat.{min-le_right}
use Rattle.std.proofs.lemmas.Bool.{and_parts, false≢true, leb-true}
use Rattle.std.proofs.lemmas.Fmt.{length-decimal-le}
use Rattle.hex.specs.Hex.{IsBytes, encode_lower, lower_digits}
use Rattle.hex.proofs.HexLemmas.{decode_of-encode_lower, length-encode_with}
use Rattle.fields.specs.Names.{is_name, is_name_byte}
use Rattle.lms_ots.specs.declared.kind.OtsKind.{OtsKind}
use Rattle.lms_ots.specs.declared.kind.OtsKind.TheVariants.{W1, W2, W4, W8}
use Rattle.lms_ots.specs.Ots.{width}
use Rattle.lms_tree.specs.Kinds.{height}
use Rattle.line_text.specs.Answers.{Progress, next_line}
use Rattle.line_text.specs.Digits.{SpellsBytes}
use Rattle.line_text.specs.Words.{is_printable, is_word}
use Rattle.line_text.proofs.DigitLemmas.{hex-spelled}
use Rattle.line_text.proofs.FrameLemmas.{judge-taken}
use Rattle.journal.proofs.Spelled.{bytes_word, number_word}
use Rattle.text_trace.specs.Lines.{text_lines}
use Rattle.schedule_world.specs.declared.line.WorldLine.{WorldLine}
use Rattle.schedule_world.specs.declared.line.WorldLine.TheVariants as lines
use Rattle.schedule_world.specs.declared.text.WorldText.{WorldText}
use Rattle.schedule_world.specs.declared.text.WorldText.TheVariants as form
use Rattle.schedule_world.specs.Rows.{is_ended, row_for, ticks_left}
use Rattle.schedule_world.specs.Grammar.{InRange, IsEpoch, IsLine, IsSound, IsWorld, Stands, judge, spelled_epoch, spelled_words}
use Rattle.schedule_world.specs.Laws.{world-taken}
use Rattle.schedule_world.proofs.GrammarLemmas.{HasWords, epoch-word, height-low, newcomer-in, world-made}
use Rattle.world_text.specs.Lines.{digits_in, line_text}
use Rattle.world_replay.proofs.SoakMakingLemmas.{IsOfWorkload}
use Rattle.world_text.proofs.Spelled.{spelled}

-- ---- words

-- Each of the words is one, and with a space between two they have no more bytes than this.
record Fits (ws : List (List ℕ)) (most : ℕ) : Type 0 where
  all : list_all is_word ws ≡ true
  short : length (join_with_byte 32 ws) ≤ most

none-fits : Fits [] 0
none-fits = record { all = refl; short = omega arith }

word-fits : (word : List ℕ) (ws : List (List ℕ)) (most : ℕ) → is_word word ≡ true → length word ≤ 40 → Fits ws most → Fits (word ∷ ws) (most + 41)
word-fits word [] most one few h = record { all = rw one refl; short = omega (arith, few) }
word-fits word (x ∷ ws) most one few h =
    record { all = rw (one, h.all) refl; short = omega (arith, few, h.short, length-append word (32 ∷ join_with_byte 32 (x ∷ ws))) }

number-fits : (n : ℕ) (ws : List (List ℕ)) (most : ℕ) → n < 2 ^ 64 → Fits ws most → Fits (decimal n ∷ ws) (most + 41)
number-fits n ws most small h =
    let few : length (decimal n) ≤ 20 = length-decimal-le 20 n (omega arith) (omega (arith, small)) small in
    word-fits (decimal n) ws most (number_word n small) (omega (arith, few)) h

name_printable : (c : ℕ) → is_name_byte c ≡ true → is_printable c ≡ true
name_printable c h = grind arith

names_printable : (w : List ℕ) → list_all is_name_byte w ≡ true → list_all is_printable w ≡ true
names_printable [] h = refl
names_printable (c ∷ w) h =
    let p = and_parts _ _ h in
    let one : is_printable c ≡ true = name_printable c p.0 in
    let others : list_all is_printable w ≡ true = names_printable w p.1 in
    rw (one, others) refl

some-word : (c : ℕ) (w : List ℕ) → list_all is_printable (c ∷ w) ≡ true → is_word (c ∷ w) ≡ true
some-word c w h = rw (ne_eqb (length (c ∷ w)) 0 (λ e. absurd (omega (arith, e))), h) refl

name-fits : (name : List ℕ) (ws : List (List ℕ)) (most : ℕ) → is_name name ≡ true → Fits ws most → Fits (name ∷ ws) (most + 41)
name-fits [] ws most is h = absurd (false≢true is)
name-fits (c ∷ name) ws most is h =
    let p = and_parts (leb 1 (length (c ∷ name)) && leb (length (c ∷ name)) 32) (list_all is_name_byte (c ∷ name)) is in
    let q = and_parts (leb 1 (length (c ∷ name))) (leb (length (c ∷ name)) 32) p.0 in
    let few : length (c ∷ name) ≤ 32 = leb-true (length (c ∷ name)) 32 q.1 in
    word-fits (c ∷ name) ws most (some-word c name (names_printable (c ∷ name) p.1)) (omega (arith, few)) h

epoch-fits : (epoch : Option ℕ) (ws : List (List ℕ)) (most : ℕ) → IsEpoch epoch → Fits ws most → Fits (spelled_epoch epoch ∷ ws) (most + 41)
epoch-fits None ws most is h = word-fits (codes "now") ws most refl (omega arith) h
epoch-fits (Some epoch) ws most is h = number-fits epoch ws most (omega (arith, is.1)) h

width-held : (ots : OtsKind) → width ots < 2 ^ 64
width-held W1 = omega arith
width-held W2 = omega arith
width-held W4 = omega arith
width-held W8 = omega arith

-- ---- digits

digits-spell : (bytes : List ℕ) → IsBytes bytes → SpellsBytes (encode_lower bytes) bytes
digits-spell bytes are = hex-spelled (encode_lower bytes) bytes (rw (decode_of-encode_lower bytes are) refl)

tag-fits : (tag : List ℕ) (ws : List (List ℕ)) (most : ℕ) → length tag ≡ 16 → IsBytes tag → Fits ws most → Fits (encode_lower tag ∷ ws) (most + 41)
tag-fits tag ws most many are h =
    word-fits (encode_lower tag) ws most (bytes_word tag (omega (arith, many)) are) (omega (arith, many, length-encode_with lower_digits tag)) h

-- ---- the words of a line

record Spelt (w : WorldText) (l : WorldLine) : Type 0 where
  first : List ℕ
  others : List (List ℕ)
  same : spelled_words (digits_in l) l ≡ first ∷ others
  has : HasWords w (digits_in l) l
  fits : Fits (first ∷ others) 400

-- A line of this word, with the words behind it.
spelt-as : (w : WorldText) (l : WorldLine) (first : List ℕ) (others : List (List ℕ)) (most : ℕ) → spelled_words (digits_in l) l ≡ first ∷ others → HasWords w (digits_in l) l → is_word first ≡ true → length first ≤ 40 → most ≤ 350 → Fits others most → Spelt w l
spelt-as w l first others most same has is few small h =
    let whole = word-fits first others most is few h in
    record { first = first; others = others; same = same; has = has; fits = record { all = whole.all; short = omega (arith, whole.short, small) } }

spelt : (w : WorldText) (l : WorldLine) → InRange w l → IsOfWorkload l → Spelt w l
spelt w lines.Header range is = spelt-as w lines.Header (codes "fireflies") (codes "1" ∷ codes "world" ∷ []) _ refl tt refl (omega arith) (omega arith)
    (word-fits (codes "1") _ _ refl (omega arith) (word-fits (codes "world") _ _ refl (omega arith) none-fits))
spelt w (lines.Group g) range is =
    let t : g.t < 2 ^ 64 = omega (arith, range.0.1) in
    let timeout : g.timeout < 2 ^ 64 = omega (arith, range.1.0.1) in
    let period : g.period < 2 ^ 64 = omega (arith, range.1.1.0.1) in
    let misses : g.misses < 2 ^ 64 = omega (arith, range.1.1.1.0.1) in
    spelt-as w (lines.Group g) (codes "group") (decimal g.t ∷ decimal g.timeout ∷ decimal g.period ∷ decimal g.misses ∷ encode_lower g.tag ∷ []) _ refl (t, (timeout, (period, (misses, (digits-spell g.tag is, tt))))) refl (omega arith) (omega arith)
    (number-fits g.t _ _ t (number-fits g.timeout _ _ timeout (number-fits g.period _ _ period (number-fits g.misses _ _ misses (tag-fits g.tag _ _ range.1.1.1.1.0 is none-fits)))))
spelt w (lines.Kinds ots tree None) range is =
    let levels : height tree < 2 ^ 64 = omega (arith, height-low w ots tree None range) in
    spelt-as w (lines.Kinds ots tree None) (codes "kinds") (decimal (width ots) ∷ decimal (height tree) ∷ []) _ refl (width-held ots, (levels, tt)) refl (omega arith) (omega arith)
    (number-fits (width ots) _ _ (width-held ots) (number-fits (height tree) _ _ levels none-fits))
spelt w (lines.Node m) range is =
    let who : m < 2 ^ 64 = omega (arith, (newcomer-in w m range).range) in
    spelt-as w (lines.Node m) (codes "node") (decimal m ∷ []) _ refl (who, tt) refl (omega arith) (omega arith) (number-fits m _ _ who none-fits)
spelt w (lines.Liar m) range is =
    let who : m < 2 ^ 64 = omega (arith, (newcomer-in w m range).range) in
    spelt-as w (lines.Liar m) (codes "liar") (decimal m ∷ []) _ refl (who, tt) refl (omega arith) (omega arith) (number-fits m _ _ who none-fits)
spelt w lines.Begin range is = spelt-as w lines.Begin (codes "begin") [] _ refl tt refl (omega arith) (omega arith) none-fits
spelt w (lines.Start m) range is =
    let who : m < 2 ^ 64 = omega (arith, range.0.1) in
    spelt-as w (lines.Start m) (codes "start") (decimal m ∷ []) _ refl (who, tt) refl (omega arith) (omega arith) (number-fits m _ _ who none-fits)
spelt w (lines.Tick m n) range is =
    let who : m < 2 ^ 64 = omega (arith, range.0.1) in
    let many : n < 2 ^ 64 = omega (arith, range.1.0.1, min-le_right (ticks_left w) 10000) in
    spelt-as w (lines.Tick m n) (codes "tick") (decimal m ∷ decimal n ∷ []) _ refl (who, (many, tt)) refl (omega arith) (omega arith)
    (number-fits m _ _ who (number-fits n _ _ many none-fits))
spelt w (lines.Flow most) range is =
    let many : most < 2 ^ 64 = omega (arith, range.0.1) in
    spelt-as w (lines.Flow most) (codes "flow") (decimal most ∷ []) _ refl (many, tt) refl (omega arith) (omega arith) (number-fits most _ _ many none-fits)
spelt w (lines.SignNote key n name) range is =
    let signer : key < 2 ^ 64 = omega (arith, range.0.1) in
    let who : n.member < 2 ^ 64 = omega (arith, range.1.0.1) in
    let epoch : n.epoch < 2 ^ 64 = omega (arith, range.1.1.0.1) in
    let mask : n.mask.0 < 2 ^ 64 = omega (arith, range.1.1.1.0.1) in
    spelt-as w (lines.SignNote key n name) (codes "sign-note") (decimal key ∷ decimal n.member ∷ decimal n.epoch ∷ decimal n.mask.0 ∷ name ∷ []) _ refl (signer, (who, (epoch, (mask, (tt, tt))))) refl (omega arith) (omega arith)
    (number-fits key _ _ signer (number-fits n.member _ _ who (number-fits n.epoch _ _ epoch (number-fits n.mask.0 _ _ mask (name-fits name _ _ range.1.1.1.1.0 none-fits)))))
spelt w (lines.SignAccusation key accuser accused epoch ring name) range is =
    let signer : key < 2 ^ 64 = omega (arith, range.0.1) in
    let who : accuser < 2 ^ 64 = omega (arith, range.1.0.1) in
    let whom : accused < 2 ^ 64 = omega (arith, range.1.1.0.1) in
    let on : ring.0 < 2 ^ 64 = omega (arith, range.1.1.1.1.0.1) in
    spelt-as w (lines.SignAccusation key accuser accused epoch ring name) (codes "sign-accusation") (decimal key ∷ decimal accuser ∷ decimal accused ∷ spelled_epoch epoch ∷ decimal ring.0 ∷ name ∷ []) _ refl
    (signer, (who, (whom, (epoch-word [] epoch range.1.1.1.0, (on, (tt, tt)))))) refl (omega arith) (omega arith)
    (number-fits key _ _ signer (number-fits accuser _ _ who (number-fits accused _ _ whom (epoch-fits epoch _ _ range.1.1.1.0 (number-fits ring.0 _ _ on (name-fits name _ _ range.1.1.1.1.1.0 none-fits))))))
spelt w (lines.GiveAll name) range is = spelt-as w (lines.GiveAll name) (codes "give-all") (name ∷ []) _ refl (tt, tt) refl (omega arith) (omega arith) (name-fits name _ _ range.0 none-fits)
spelt w lines.End range is = spelt-as w lines.End (codes "end") [] _ refl tt refl (omega arith) (omega arith) none-fits
spelt w l range is = absurd is

-- ---- where it stands

no-end : (l : WorldLine) → Stands form.Ended l → ⊥
no-end lines.Header stands = false≢true stands
no-end (lines.Group g) stands = false≢true stands
no-end (lines.Kinds ots tree bottom) stands = false≢true stands
no-end (lines.Node m) stands = false≢true stands
no-end (lines.Liar m) stands = false≢true stands
no-end lines.Begin stands = false≢true stands
no-end l stands = false≢true stands

going : (w : WorldText) (l : WorldLine) → Stands w l → is_ended w ≡ false
going form.Ended l stands = absurd (no-end l stands)
going w l stands = refl

is-line : (p : Progress WorldText) (l : WorldLine) → Stands p.form l → InRange p.form l → p.number ≤ text_lines → Spelt p.form l → IsLine p (line_text l ++ 10 ∷ []) l
is-line p l stands range few h =
    let joined : line_text l ≡ join_with_byte 32 (h.first ∷ h.others) = spelled l ∙ ap (join_with_byte 32) h.same in
    record {
      first = h.first;
      others = h.others;
      spells = subst (λ (ws : List (List ℕ)). IsWorld p.form ws l) h.same (world-made p.form (digits_in l) l stands range h.has);
      words = h.fits.all;
      spaced = ap (λ (t : List ℕ). t ++ 10 ∷ []) joined;
      short = omega (arith, h.fits.short);
      few = few;
      going = going p.form l stands;
    }

pub read-again : (p : Progress WorldText) (l : WorldLine) → IsSound p.form → Stands p.form l → InRange p.form l → IsOfWorkload l → p.number ≤ text_lines → judge p (line_text l ++ 10 ∷ []) ≡ Ok l
read-again p l sound stands range is few =
    judge-taken (next_line is_ended row_for p) (IsWorld p.form) (λ first args line h. world-taken p.form first args line sound h) (line_text l ++ 10 ∷ []) l (is-line p l stands range few (spelt p.form l range is))
