-- Lines of a value.
use Rattle.std.proofs.Common.{◌≡◌, ℕ, Bool, true, false, ◌||◌, List, Option, Some, None, Result, Ok, Err, ap, sym}
use Rattle.std.specs.Prelude.{⊤, IsOkAnd}
use Rattle.line_text.specs.declared.bad_word.BadWord.{BadWord}
use Rattle.line_text.specs.declared.bad_word.BadWord.TheVariants as bad
use Rattle.line_text.specs.declared.bad_word.LineFault.{LineFault}
use Rattle.line_text.specs.declared.bad_word.LineFault.TheVariants as faults
use Rattle.line_text.specs.Answers.{AnswersBy}
use Rattle.line_text.specs.Fields.{Test, bad_where}
use Rattle.line_text.specs.Frame.{field_tests, fields_line, first_of, unless_bad, whole_line}

abbrev given : {L : Type 0} → L → Result L BadWord
given x = Ok x

bad_too : {V L : Type 0} (o : Option BadWord) (v : V) (l : L) (w : BadWord) → Err w ≡ unless_bad o (given v) → Err w ≡ unless_bad o (given l)
bad_too None v l w e = absurd cc
bad_too (Some x) v l w e = cc

good_too : {V L : Type 0} (o : Option BadWord) (v x : V) (of : V → L) → given x ≡ unless_bad o (given v) → given (of x) ≡ unless_bad o (given (of v))
good_too None v x of e = cc
good_too (Some w) v x of e = absurd cc

-- words that aren't a value are no line of it either
pub line_bad : {V L : Type 0} (fields : List Test) (value : List (List ℕ) → V) (line : List (List ℕ) → L) (args : List (List ℕ)) (w : BadWord) → Err w ≡ fields_line fields value args → Err w ≡ fields_line fields line args
line_bad fields value line args w e = bad_too (first_of (field_tests fields args)) (value args) (line args) w e

pub line_good : {V L : Type 0} (fields : List Test) (value : List (List ℕ) → V) (of : V → L) (args : List (List ℕ)) (x : V) → given x ≡ fields_line fields value args → given (of x) ≡ fields_line fields (λ ws. of (value ws)) args
line_good fields value of args x e = good_too (first_of (field_tests fields args)) (value args) x of e

-- ## Lines that may be refused as a whole

bad_whole : {V L : Type 0} (o p : Option BadWord) (v : V) (l : L) (w : BadWord) → Err w ≡ unless_bad o (unless_bad p (given v)) → Err w ≡ unless_bad o (unless_bad p (given l))
bad_whole None p v l w e = bad_too p v l w e
bad_whole (Some x) p v l w e = cc

good_whole : {V L : Type 0} (o p : Option BadWord) (v x : V) (of : V → L) → given x ≡ unless_bad o (unless_bad p (given v)) → given (of x) ≡ unless_bad o (unless_bad p (given (of v)))
good_whole None p v x of e = good_too p v x of e
good_whole (Some w) p v x of e = absurd cc

-- words that aren't a value, or are refused as one, are no line of it either
pub value_bad : {V L : Type 0} (fields : List Test) (fault : List (List ℕ) → Option BadWord) (value : List (List ℕ) → V) (line : List (List ℕ) → L) (args : List (List ℕ)) (w : BadWord) → Err w ≡ whole_line fields fault value args → Err w ≡ whole_line fields fault line args
value_bad fields fault value line args w e = bad_whole (first_of (field_tests fields args)) (fault args) (value args) (line args) w e

pub value_good : {V L : Type 0} (fields : List Test) (fault : List (List ℕ) → Option BadWord) (value : List (List ℕ) → V) (of : V → L) (args : List (List ℕ)) (x : V) → given x ≡ whole_line fields fault value args → given (of x) ≡ whole_line fields fault (λ ws. of (value ws)) args
value_good fields fault value of args x e = good_whole (first_of (field_tests fields args)) (fault args) (value args) x of e

-- ## Lines whose value takes memory

memory_too : {V L : Type 0} (o p : Option BadWord) (v : V) (of : V → L) (Takes : L → Type 0) → ((x : V) → Takes (of x)) → IsOkAnd (unless_bad o (unless_bad p (given v))) (λ x. ⊤) → IsOkAnd (unless_bad o (unless_bad p (given (of v)))) Takes
memory_too None None v of Takes takes h = takes v
memory_too None (Some w) v of Takes takes h = absurd h
memory_too (Some w) p v of Takes takes h = absurd h

-- what refuses a value refuses its line, be it want of memory
pub made_bad : {V L : Type 0} (fields : List Test) (fault : List (List ℕ) → Option BadWord) (value : List (List ℕ) → V) (of : V → L) (Takes : L → Type 0) → ((x : V) → Takes (of x)) → (args : List (List ℕ)) (f : LineFault) → AnswersBy (λ x. ⊤) (whole_line fields fault value args) (Err f)
    → AnswersBy Takes (whole_line fields fault (λ ws. of (value ws)) args) (Err f)
made_bad fields fault value of Takes takes args (faults.Bad w) h = sym (value_bad fields fault value (λ ws. of (value ws)) args w (sym h))
made_bad fields fault value of Takes takes args faults.OutOfMemory h = memory_too (first_of (field_tests fields args)) (fault args) (value args) of Takes takes h

pub made_good : {V L : Type 0} (fields : List Test) (fault : List (List ℕ) → Option BadWord) (value : List (List ℕ) → V) (of : V → L) (args : List (List ℕ)) (x : V) → whole_line fields fault value args ≡ given x → whole_line fields fault (λ ws. of (value ws)) args ≡ given (of x)
made_good fields fault value of args x h = sym (value_good fields fault value of args x (sym h))

-- ## Lines that are refused as a whole in one text more

limit_before : {L : Type 0} (o : Option BadWord) (u b : Bool) (l : L) (w : BadWord) → Err w ≡ unless_bad o (unless_bad (bad_where bad.Limit u) (given l)) → Err w ≡ unless_bad o (unless_bad (bad_where bad.Limit (u || b)) (given l))
limit_before None true b l w e = e
limit_before None false b l w e = absurd cc
limit_before (Some x) u b l w e = e

judged_before : {L : Type 0} (o : Option BadWord) (u : Bool) (refuses : L → Bool) (l x : L) → given x ≡ unless_bad o (unless_bad (bad_where bad.Limit u) (given l))
    → unless_bad (bad_where bad.Limit (refuses x)) (given x) ≡ unless_bad o (unless_bad (bad_where bad.Limit (u || refuses l)) (given l))
judged_before None true refuses l x e = absurd cc
judged_before {L} None false refuses l x e = (let same : x ≡ l = cc in ap (λ (y : L). unless_bad (bad_where bad.Limit (refuses y)) (given y)) same)
judged_before (Some w) u refuses l x e = absurd cc

refused : {L : Type 0} (b : Bool) (x : L) (r : Result L BadWord) → b ≡ true → unless_bad (bad_where bad.Limit b) (given x) ≡ r → Err bad.Limit ≡ r
refused true x r is h = h
refused false x r is h = absurd cc

taken : {L : Type 0} (b : Bool) (x : L) (r : Result L BadWord) → b ≡ false → unless_bad (bad_where bad.Limit b) (given x) ≡ r → given x ≡ r
taken true x r is h = absurd cc
taken false x r is h = h

module _ {L : Type 0} (fields : List Test) (unfit refuses : L → Bool) (line : List (List ℕ) → L) (args : List (List ℕ)) where
  -- what refuses a line in each text
  abbrev pub Judged : Result L BadWord → Type 0
  Judged r = r ≡ whole_line fields (λ ws. bad_where bad.Limit (unfit (line ws))) line args

  -- and what refuses it in this one
  abbrev pub JudgedHere : Result L BadWord → Type 0
  JudgedHere r = r ≡ whole_line fields (λ ws. bad_where bad.Limit (unfit (line ws) || refuses (line ws))) line args

  -- what is refused in each text is refused here
  pub refused_here : (w : BadWord) → Judged (Err w) → JudgedHere (Err w)
  refused_here w e = limit_before (first_of (field_tests fields args)) (unfit (line args)) (refuses (line args)) (line args) w e

  -- a line that is taken elsewhere is refused where it is refused here
  judged_here : (x : L) → Judged (given x) → JudgedHere (unless_bad (bad_where bad.Limit (refuses x)) (given x))
  judged_here x e = judged_before (first_of (field_tests fields args)) (unfit (line args)) refuses (line args) x e

  pub whole_bad : (x : L) → Judged (given x) → refuses x ≡ true → JudgedHere (Err bad.Limit)
  whole_bad x e is = refused (refuses x) x _ is (judged_here x e)

  pub whole_good : (x : L) → Judged (given x) → refuses x ≡ false → JudgedHere (given x)
  whole_good x e is = taken (refuses x) x _ is (judged_here x e)
