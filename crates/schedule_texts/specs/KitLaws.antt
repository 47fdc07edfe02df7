-- What is taken as a line of a member's text is one by its grammar, and what is one is taken.
use Rattle.std.proofs.Common.{◌≡◌, ℕ, Bool, true, false, not, List, ◌∷◌, Option, Some, None, Result, Ok, Err, refl}
use Rattle.std.specs.Prelude.{is_ok}
use Rattle.std.proofs.lemmas.Bool.{false≢true, and_parts, not-false, not-true}
use Rattle.std.proofs.lemmas.Slice.Eq.{bytes_eq-Decides}
use Rattle.ff_ids.specs.declared.Group.{Group}
use Rattle.sign_keys.specs.declared.kinds.Kinds.{Kinds}
use Rattle.sign_keys.specs.Kinds.{is_in_profile}
use Rattle.lms_tree.specs.declared.key.PublicKey.{PublicKey}
use Rattle.records.specs.declared.Body.TheVariants.{Certificate}
use Rattle.records.specs.declared.keys.Key.{Key}
use Rattle.records.specs.declared.keys.Key.TheVariants as keys
use Rattle.records.specs.declared.keys.RecordFault.{RecordFault}
use Rattle.records.specs.Keys.{key_bytes, verdict_of}
use Rattle.records.specs.Signing.{signed_bytes}
use Rattle.line_text.specs.declared.bad_word.BadWord.TheVariants as bad
use Rattle.line_text.specs.Frame.{row_line}
use Rattle.line_text.specs.Shapes.{Values, made_of}
use Rattle.line_text.specs.Tables.{IsSound as IsSoundTable, Line}
use Rattle.line_text.proofs.FrameLemmas.{passed}
use Rattle.line_text.proofs.TableLemmas.{table-spelled, table-taken}
use Rattle.schedule_texts.specs.Shared.{cert_of}
use Rattle.schedule_texts.specs.declared.kit.KitText.{KitText}
use Rattle.schedule_texts.specs.declared.kit.KitText.TheVariants as kit
use Rattle.schedule_texts.specs.declared.kit_line.KitLine.{KitLine}
use Rattle.schedule_texts.specs.declared.kit_line.KitLine.TheVariants as lines
use Rattle.schedule_texts.specs.declared.kit_line.LineWord.{LineWord}
use Rattle.schedule_texts.specs.declared.kit_line.LineWord.TheVariants as words
use Rattle.schedule_texts.specs.KitRows.{cert_fault, end_fault, fields, is_named, kit_table, line, line_word, parts, reads, row_for, row_of, word_text}
use Rattle.schedule_texts.specs.KitGrammar.{IsKit, IsSound}

named : (word : LineWord) → line_word (word_text word) ≡ Some word
named words.End = refl
named _ = refl

parted : (form : KitText) (word : LineWord) (vs : Values (fields word)) → parts (made_of (fields word) (line form word) vs) ≡ Line word vs
parted form words.End vs = refl
parted form _ vs = refl

sound : IsSoundTable kit_table
sound = record { named = named; headed = λ form. refl; parted = parted }

-- What is taken as a line is one.
pub kit-spelled : (form : KitText) (first : List ℕ) (args : List (List ℕ)) (l : KitLine) → row_line (row_for form (first ∷ args)) args ≡ Ok l → IsKit form (first ∷ args) l
kit-spelled form first args l e = table-spelled kit_table sound form first args l e

-- What is a line is taken, as that line.
pub kit-taken : (form : KitText) (first : List ℕ) (args : List (List ℕ)) (l : KitLine) → IsSound form → IsKit form (first ∷ args) l → row_line (row_for form (first ∷ args)) args ≡ Ok l
kit-taken form first args l good h = table-taken kit_table sound form first args l h

-- What is read is what the table says.
pub kit-reads : (form : KitText) (word : LineWord) (args : List (List ℕ)) → reads form word args ≡ row_line (Ok (row_of form word)) args
kit-reads kit.Headed words.Group args = refl
kit-reads (kit.Grouped g) words.Kinds args = refl
kit-reads (kit.Kinded g kinds heal) words.Heal args = refl
kit-reads (kit.Kinded g kinds heal) words.Own args = refl
kit-reads (kit.Owned owner) words.Authority args = refl
kit-reads (kit.Authorized owner authority) words.Tick args = refl
kit-reads (kit.Body owner authority named own) words.Cert args = refl
kit-reads (kit.Body owner authority named own) words.End args = refl
kit-reads _ _ args = refl

-- ## Lines that nothing refuses as a whole

-- There are keys of the kinds of a line.
pub kit-kinds : (form : KitText) (ws : List (List ℕ)) (k : Kinds) → IsKit form ws (lines.Kinds k) → is_in_profile k ≡ true
kit-kinds (kit.Grouped g) ws k h = not-false (is_in_profile k) (passed bad.Limit (not (is_in_profile k)) h.whole)
kit-kinds _ ws k h = absurd (false≢true h.stands)

-- The number of the certificate has none yet, and the signature is good.
pub record IsNewlySigned (g : Group) (authority : PublicKey) (named : List Bool) (vs : Values (fields words.Cert)) : Type 0 where
  pub new : is_named named vs.0 ≡ false
  pub verifies : verdict_of (keys.Lms authority) (signed_bytes g.tag g.t (Certificate (cert_of vs.0 vs.1.0 vs.1.1.0))) vs.1.1.1.0 ≡ Ok tt

verdict_ok : (r : Result (Unit {0}) RecordFault) → is_ok r ≡ true → r ≡ Ok tt
verdict_ok (Ok x) e = refl
verdict_ok (Err fault) e = absurd cc

pub cert-whole : (g : Group) (authority : PublicKey) (named : List Bool) (vs : Values (fields words.Cert)) → cert_fault g authority named vs ≡ None → IsNewlySigned g authority named vs
cert-whole g authority named vs none =
    let verdict = verdict_of (keys.Lms authority) (signed_bytes g.tag g.t (Certificate (cert_of vs.0 vs.1.0 vs.1.1.0))) vs.1.1.1.0 in
    let good = and_parts (not (is_named named vs.0)) (is_ok verdict) (not-false _ (passed bad.Cert _ none)) in
    record { new = not-true _ good.0; verifies = verdict_ok verdict good.1 }

-- The certificate of the own number has the bytes of the own key.
abbrev pub IsOwned : Key → Option Key → Type 0
IsOwned own_key (Some k) = key_bytes k ≡ key_bytes own_key
IsOwned own_key None = ⊥

pub end-whole : (own_key : Key) (own : Option Key) → end_fault own_key own ≡ None → IsOwned own_key own
end-whole own_key None none = absurd cc
end-whole own_key (Some k) none = (bytes_eq-Decides (key_bytes k) (key_bytes own_key)).0 (not-false _ (passed bad.OwnKey _ none))
