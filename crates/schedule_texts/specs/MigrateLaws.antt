-- What is taken as a line of a text that moves a store is one by its grammar, and what is one is taken.
use Rattle.std.proofs.Common.{◌≡◌, ℕ, true, ◌||◌, not, List, ◌∷◌, None, Ok, Err, refl, sym, ap, ◌∙◌, if◌then◌else◌}
use Rattle.std.proofs.lemmas.Bool.{and_from, eq-eqb, false≢true, not-false, or_parts}
use Rattle.std.proofs.lemmas.Slice.Eq.{bytes_eq-Decides}
use Rattle.ff_ids.specs.declared.Group.{Group}
use Rattle.sign_keys.specs.declared.kinds.Kinds.{Kinds}
use Rattle.sign_keys.specs.Kinds.{is_in_profile}
use Rattle.line_text.specs.declared.bad_word.BadWord.TheVariants as bad
use Rattle.line_text.specs.Frame.{row_line, whole_line}
use Rattle.line_text.specs.Tables.{IsSound as IsSoundTable, row_of}
use Rattle.line_text.proofs.FrameLemmas.{passed}
use Rattle.line_text.proofs.TableLemmas.{table-spelled, table-taken}
use Rattle.schedule_texts.specs.declared.line.SecretLine.{SecretLine}
use Rattle.schedule_texts.specs.declared.line.SecretLine.TheVariants as lines
use Rattle.schedule_texts.specs.declared.migrate.MigrateText.{MigrateText}
use Rattle.schedule_texts.specs.declared.migrate.MigrateText.TheVariants as migrate
use Rattle.schedule_texts.specs.declared.secret.LineWord.{LineWord}
use Rattle.schedule_texts.specs.SecretLaws.{line_is, named, parted}
use Rattle.schedule_texts.specs.SecretRows.{fields_of}
use Rattle.schedule_texts.specs.MigrateRows.{line_fault, may_stand, migrate_table, reads, row_for, stays}
use Rattle.schedule_texts.specs.MigrateGrammar.{IsMigrate, IsSound}

sound : IsSoundTable migrate_table
sound = record { named = named; headed = λ form. refl; parted = λ form. parted }

-- What is taken as a line is one.
pub migrate-spelled : (form : MigrateText) (first : List ℕ) (args : List (List ℕ)) (l : SecretLine) → row_line (row_for form (first ∷ args)) args ≡ Ok l → IsMigrate form (first ∷ args) l
migrate-spelled form first args l e = table-spelled migrate_table sound form first args l e

-- What is a line is taken, as that line.
pub migrate-taken : (form : MigrateText) (first : List ℕ) (args : List (List ℕ)) (l : SecretLine) → IsSound form → IsMigrate form (first ∷ args) l → row_line (row_for form (first ∷ args)) args ≡ Ok l
migrate-taken form first args l good h = table-taken migrate_table sound form first args l h

-- What is read is what the table says.
pub migrate-reads : (form : MigrateText) (word : LineWord) (args : List (List ℕ)) → reads form word args ≡ row_line (Ok (row_of migrate_table form word)) args
migrate-reads form word args = ap (λ (of : List (List ℕ) → SecretLine). if may_stand form word then whole_line (fields_of word args) (λ ws. line_fault form (of ws)) of args else Err bad.Order) (line_is word)

-- There are keys of the kinds of a line.
pub migrate-kinds : (form : MigrateText) (ws : List (List ℕ)) (k : Kinds) → IsMigrate form ws (lines.Kinds k) → is_in_profile k ≡ true
migrate-kinds form ws k h =
    let fit = not (is_in_profile k) in
    not-false (is_in_profile k) (or_parts fit (stays form (lines.Kinds k)) (passed bad.Limit (fit || stays form (lines.Kinds k)) h.whole)).0

-- ## The second group

-- It has another tolerance or another tag.
abbrev pub IsAnother : Group → Group → Type 0
IsAnother old g = g.t ≡ old.t → g.tag ≡ old.tag → ⊥

-- A second group that nothing refuses is another.
pub group-whole : (old g : Group) → line_fault (migrate.Left old) (lines.Group g) ≡ None → IsAnother old g
group-whole old g none t tag = false≢true (sym (passed bad.Limit _ none) ∙ and_from _ _ (eq-eqb g.t old.t t) ((bytes_eq-Decides g.tag old.tag).1 tag))
