-- The answer says that a signature is good exactly where it verifies.
use Rattle.std.proofs.Common.{◌≡◌, ◌↔◌, ℕ, ◌+◌, ◌<◌, Bool, true, false, cond, List, [], ◌∷◌, ◌++◌, length, get_or, Option, Some, None, Result, Ok, Err, refl, sym, ap, ◌∙◌, arith, codes, eq-eqb, lt-ltb, ltb-true}
use Rattle.std.specs.Prelude.{bytes_eq}
use Rattle.std.proofs.lemmas.Bool.{eqb-true}
use Rattle.std.proofs.lemmas.Slice.Eq.{bytes_eq-Decides}
use Rattle.lms_tree.specs.declared.kind.SigFault.{SigFault}
use Rattle.lms_tree.specs.declared.kind.SigFault.TheVariants as fault
use Rattle.lms_tree.specs.declared.key.PublicKey.{PublicKey}
use Rattle.lms_tree.specs.Kinds.{signature_length}
use Rattle.lms_tree.specs.Lms as lms
use Rattle.lms_tree.specs.Lms.{root_in}
use Rattle.lms_tree.proofs.Parts.{part-below}
use Rattle.lms_tree.proofs.Verdicts.{parts-verify, verifies-has_leaf, verifies-length, verifies-ots_type, verifies-root, verifies-tree_type}
use Rattle.hss.specs.Keys.{TwoLevelKey, is_in_profile}
use Rattle.hss.specs.declared.verifying.HssFault.{HssFault}
use Rattle.hss.specs.Hss as hss
use Rattle.hss.specs.Hss.{HssVerifies, both, bottom_in, key_end, key_part, key_place, top_in, verdict_with}
use Rattle.hss.proofs.Verdicts.{parts-verify as parts-hss_verify, verdict-reached, verifies-parts}
use Rattle.records.specs.declared.keys.Key.{Key}
use Rattle.records.specs.declared.keys.Key.TheVariants as keys
use Rattle.records.specs.declared.keys.RecordFault.{RecordFault}
use Rattle.records.specs.Keys.{IsKey, Verifies, hss_verdict, lms_verdict, verdict_of}
use Rattle.verify_text.specs.declared.question.Question.{Question}
use Rattle.verify_text.specs.Answering.{answer_line, verdict_line}

-- a verdict that is good, or has no such fault
abbrev good : (F : Type 0) → Result (Unit {0}) F
good F = Ok tt

held : (F : Type 0) (b : Bool) (r : Result (Unit {0}) F) (f : F) → cond b r (Err f) ≡ good F → (b ≡ true) × (r ≡ good F)
held F true r f e = (refl, e)
held F false r f e = cc

-- ## Keys of one level

-- the verdict is good exactly where the signature verifies
lms_good : (key : PublicKey) (message signature : List ℕ) → ((k : ℕ) → get_or signature k 0 < 256) → lms.verdict_of key message signature ≡ good SigFault → lms.Verifies key message signature
unfolding lms.verdict_of
lms_good key message signature below e =
    let a = held SigFault _ _ _ e in
    let b = held SigFault _ _ _ a.1 in
    let c = held SigFault _ _ _ b.1 in
    let d = held SigFault _ _ _ c.1 in
    let f = held SigFault (bytes_eq (root_in key message signature) key.root) (good SigFault) fault.Root d.1 in
    parts-verify key message signature (record {
      below = below;
      long = eqb-true _ _ a.0;
      tree_type = eqb-true _ _ b.0;
      ots_type = eqb-true _ _ c.0;
      has_leaf = ltb-true _ _ d.0;
      opens = (bytes_eq-Decides (root_in key message signature) key.root).0 f.0;
    })

lms_verifies : (key : PublicKey) (message signature : List ℕ) → lms.Verifies key message signature → lms.verdict_of key message signature ≡ good SigFault
unfolding lms.verdict_of
lms_verifies key message signature v =
    let a = eq-eqb _ _ (verifies-length key message signature v) in
    let b = eq-eqb _ _ (verifies-tree_type key message signature v) in
    let c = eq-eqb _ _ (verifies-ots_type key message signature v) in
    let d = lt-ltb _ _ (verifies-has_leaf key message signature v) in
    let f = (bytes_eq-Decides (root_in key message signature) key.root).1 (verifies-root key message signature v) in
    rw (a, b, c, d, f) refl

-- ## Keys of two levels

not_held : (b : Bool) (r : Result (Unit {0}) HssFault) (f : HssFault) → cond b (Err f) r ≡ good HssFault → r ≡ good HssFault
not_held true r f e = cc
not_held false r f e = e

-- the bottom key of a signature without a fault
record WithBottom (key : TwoLevelKey) (message signature : List ℕ) (found : Option PublicKey) : Type 0 where
  bottom : PublicKey
  is : found ≡ Some bottom
  long : length signature ≡ key_end key + signature_length bottom.tree bottom.ots
  verdicts : both (lms.verdict_of key.top (key_part key signature) (top_in key signature)) (lms.verdict_of bottom message (bottom_in key signature)) ≡ good HssFault

with_bottom : (key : TwoLevelKey) (message signature : List ℕ) (found : Option PublicKey) → verdict_with key message signature found ≡ good HssFault → WithBottom key message signature found
with_bottom key message signature None e = absurd cc
with_bottom key message signature (Some bottom) e =
    let h = held HssFault _ _ _ e in
    record { bottom = bottom; is = refl; long = eqb-true _ _ h.0; verdicts = h.1 }

both_good : (top bottom : Result (Unit {0}) SigFault) → both top bottom ≡ good HssFault → (top ≡ good SigFault) × (bottom ≡ good SigFault)
both_good (Ok done) (Ok again) e = (refl, refl)
both_good (Ok done) (Err f) e = absurd cc
both_good (Err f) bottom e = absurd cc

hss_good : (key : TwoLevelKey) (message signature : List ℕ) → is_in_profile key.top.ots ≡ true → ((k : ℕ) → get_or signature k 0 < 256) → hss.verdict_of key message signature ≡ good HssFault → HssVerifies key message signature
unfolding hss.verdict_of
hss_good key message signature in_profile below e =
    let a = held HssFault _ _ _ (not_held _ _ _ e) in
    let b = with_bottom key message signature _ a.1 in
    let c = both_good _ _ b.verdicts in
    parts-hss_verify key message signature below in_profile (record {
      bottom_key = b.bottom;
      long = b.long;
      levels = eqb-true _ _ a.0;
      read = b.is;
      signs_key = lms_good key.top (key_part key signature) (top_in key signature) (part-below signature 4 (key_place key) below) c.0;
      signs_message = lms_good b.bottom message (bottom_in key signature) (part-below signature (key_end key) (length signature) below) c.1;
    })

hss_verifies : (key : TwoLevelKey) (message signature : List ℕ) → HssVerifies key message signature → hss.verdict_of key message signature ≡ good HssFault
hss_verifies key message signature v =
    let parts = verifies-parts key message signature v in
    sym (verdict-reached key message signature parts.bottom_key (omega (arith, parts.long)) parts.levels parts.read parts.long)
    ∙ rw (
      lms_verifies key.top (key_part key signature) (top_in key signature) parts.signs_key,
      lms_verifies parts.bottom_key message (bottom_in key signature) parts.signs_message,
    ) refl

-- ## Either

of_lms : (r : Result (Unit {0}) SigFault) → lms_verdict r ≡ good RecordFault → r ≡ good SigFault
of_lms (Ok done) e = refl
of_lms (Err f) e = absurd cc

of_hss : (r : Result (Unit {0}) HssFault) → hss_verdict r ≡ good RecordFault → r ≡ good HssFault
of_hss (Ok done) e = refl
of_hss (Err f) e = absurd cc

verdict-good : (key : Key) (message signature : List ℕ) → IsKey key → ((k : ℕ) → get_or signature k 0 < 256) → verdict_of key message signature ≡ good RecordFault → Verifies key message signature
verdict-good (keys.Lms key) message signature is below e = lms_good key message signature below (of_lms (lms.verdict_of key message signature) e)
verdict-good (keys.Hss key) message signature is below e = hss_good key message signature is.in_profile below (of_hss (hss.verdict_of key message signature) e)

verifies-verdict : (key : Key) (message signature : List ℕ) → Verifies key message signature → verdict_of key message signature ≡ good RecordFault
verifies-verdict (keys.Lms key) message signature v = ap lms_verdict (lms_verifies key message signature v)
verifies-verdict (keys.Hss key) message signature v = ap hss_verdict (hss_verifies key message signature v)

-- the first letter of the verdict
abbrev letter : List ℕ → ℕ
letter text = get_or text 10 0

line-good : (v : Result (Unit {0}) RecordFault) → verdict_line v ≡ codes "signature good" ++ 10 ∷ [] → v ≡ good RecordFault
line-good (Ok done) e = refl
line-good (Err f) e = absurd (let x : 114 ≡ 103 = ap letter e in omega (arith, x))

pub answer-good : (q : Question) → IsKey q.key → ((k : ℕ) → get_or q.signature k 0 < 256) → (answer_line q ≡ codes "signature good" ++ 10 ∷ []) ↔ Verifies q.key q.message q.signature
unfolding answer_line
answer-good q is below = (
  λ e. verdict-good q.key q.message q.signature is below (line-good (verdict_of q.key q.message q.signature) e),
  λ v. ap verdict_line (verifies-verdict q.key q.message q.signature v),
)
