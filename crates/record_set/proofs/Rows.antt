-- Worked rows: what fits, computed from the definitions alone.
use Rattle.std.proofs.Common.{◌≡◌, ℕ, ◌∷◌, [], replicate, refl}
use Rattle.lms_ots.specs.declared.kind.OtsKind.TheVariants.{W8}
use Rattle.lms_tree.specs.declared.kind.TreeKind.TheVariants.{H5}
use Rattle.records.specs.declared.Body.{Body}
use Rattle.records.specs.declared.Body.TheVariants as bodies
use Rattle.records.specs.Spelling.{note_bytes}
use Rattle.records.specs.declared.keys.Key.TheVariants as key
use Rattle.records.specs.Signing.{CheckedRecord}
use Rattle.record_set.specs.Picks.{fitting}

-- the body with a signature of so many bytes
abbrev signed : Body → ℕ → CheckedRecord
signed body n =
    record {
      rec = record { body = body; signature = replicate n 5 };
      key = key.Lms (record { tree = H5; ots = W8; id = []; root = [] });
      tag = [];
      t = 1;
    }

abbrev note : ℕ → ℕ → Body
note epoch mask = bodies.Note (record { member = 2; epoch = epoch; mask = record { 0 = mask } })

-- a note with three bytes of signature takes 20 bytes
abbrev short : CheckedRecord
short = signed (note 4 6) 3

three_fit : (fitting 60 (short ∷ short ∷ short ∷ []) ≡ 3)
    × (fitting 59 (short ∷ short ∷ short ∷ []) ≡ 2)
    × (fitting 40 (short ∷ short ∷ short ∷ []) ≡ 2)
    × (fitting 39 (short ∷ short ∷ short ∷ []) ≡ 1)
    × (fitting 20 (short ∷ short ∷ short ∷ []) ≡ 1)
    × (fitting 19 (short ∷ short ∷ short ∷ []) ≡ 0)
    × (fitting 60 [] ≡ 0)
unfolding note_bytes
three_fit = (refl, refl, refl, refl, refl, refl, refl)

-- the first that doesn't fit ends it, also where a later one would
first_ends : fitting 20 (signed (note 4 6) 4 ∷ short ∷ []) ≡ 0
unfolding note_bytes
first_ends = refl
