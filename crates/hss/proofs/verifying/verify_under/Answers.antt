use Rattle.std.proofs.Common.{◌≡◌, ◌+◌, false, true, length, Some, sym, ◌∙◌, ap, arith}
use Rattle.std.proofs.Math.Facts.{Fits-lt-pow}
use Rattle.std.proofs.lemmas.Bool.{false≢true}
use Rattle.lms_tree.specs.Kinds.{signature_length}
use Rattle.lms_tree.specs.Lms as lms
use Rattle.lms_tree.specs.declared.key.PublicKey.{PublicKey}
use Rattle.hss.specs.Keys.{TwoLevelKey}
use Rattle.hss.specs.Hss.{in_profile, key_end, key_part}
use Rattle.hss.proofs.Verdicts.{bottom-same, bottom-verifies, parts-verify, verdict-reached, verifies-parts}
use Rattle.hss.proofs.verifying.verify_under.Goals as goal

abbrev key_of : PublicKey → TwoLevelKey
key_of top = record { top = top }

-- what does not verify is refused
refused : (G : Type 0) → (G → ⊥) → (false ≡ true → G) × (G → false ≡ true)
refused G out = (λ e. absurd (false≢true e), λ good. absurd (out good))

pub returns-then-found-key_at-clause-decides : goal.returns-then-found-key_at-clause-decides
returns-then-found-key_at-clause-decides c =
    refused _ (λ good. let parts = verifies-parts (key_of c.args.top_key.now) c.args.message.now c.args.signature.now good in omega (arith, parts.long, c.signature_length-key_at.ensures))

pub returns-then-levels-ne1-clause-decides : goal.returns-then-levels-ne1-clause-decides
returns-then-levels-ne1-clause-decides c =
    refused _ (λ good. let parts = verifies-parts (key_of c.args.top_key.now) c.args.message.now c.args.signature.now good in
    c.if-levels-ne1.true (c.number_at-levels.ensures ∙ parts.levels))

pub returns-in_default-clause-decides : goal.returns-in_default-clause-decides
returns-in_default-clause-decides c =
    refused _ (λ good. let parts = verifies-parts (key_of c.args.top_key.now) c.args.message.now c.args.signature.now good in
    c.in_default.not-Some parts.bottom_key (c.bottom_key.ensures ∙ rw c.signature_length-key_at.ensures parts.read))

pub returns-then-found-key_at-2-clause-decides : goal.returns-then-found-key_at-2-clause-decides
returns-then-found-key_at-2-clause-decides c =
    let place = c.signature_length-key_at.ensures in
    let found : in_profile (lms.key_in (key_part (key_of c.args.top_key.now) c.args.signature.now)) ≡ Some c.in-Some.bottom =
    rw (← place) (sym c.bottom_key.ensures ∙ c.in-Some.is) in
    refused _ (λ good. let parts = verifies-parts (key_of c.args.top_key.now) c.args.message.now c.args.signature.now good in
    let same = bottom-same (key_of c.args.top_key.now) c.args.message.now c.args.signature.now c.in-Some.bottom parts found in
    let long : length c.args.signature.now ≡ key_end (key_of c.args.top_key.now) + signature_length c.in-Some.bottom.tree c.in-Some.bottom.ots =
    parts.long ∙ ap (λ k. key_end (key_of c.args.top_key.now) + signature_length k.tree k.ots) same in
    c.if-found-key_at-2.true (omega (arith, long, place, c.signature_length.ensures)))

pub returns-clause-decides : goal.returns-clause-decides
returns-clause-decides c =
    let place = c.signature_length-key_at.ensures in
    let found : in_profile (lms.key_in (key_part (key_of c.args.top_key.now) c.args.signature.now)) ≡ Some c.in-Some.bottom =
    rw (← place) (sym c.bottom_key.ensures ∙ c.in-Some.is) in (
      λ good. let both = rw place at (c.verify_both.ensures.decides.0 good) in
          parts-verify (key_of c.args.top_key.now) c.args.message.now c.args.signature.now (λ k. Fits-lt-pow (c.type_inv.signature k)) c.requires.in_profile (record {
            bottom_key = c.in-Some.bottom;
            long = omega (arith, place, c.signature_length.ensures);
            levels = sym c.number_at-levels.ensures ∙ c.if-levels-ne1.false;
            read = found;
            signs_key = both.0;
            signs_message = both.1;
          }),
      λ good. let parts = verifies-parts (key_of c.args.top_key.now) c.args.message.now c.args.signature.now good in
          c.verify_both.ensures.decides.1 (rw place (
            parts.signs_key,
            bottom-verifies (key_of c.args.top_key.now) c.args.message.now c.args.signature.now c.in-Some.bottom parts found,
          )),
    )

pub returns-clause-verdict : goal.returns-clause-verdict
returns-clause-verdict c =
    let place = c.signature_length-key_at.ensures in
    let found : in_profile (lms.key_in (key_part (key_of c.args.top_key.now) c.args.signature.now)) ≡ Some c.in-Some.bottom =
    rw (← place) (sym c.bottom_key.ensures ∙ c.in-Some.is) in
    c.verify_both.ensures.verdict ∙ rw place (verdict-reached (key_of c.args.top_key.now) c.args.message.now c.args.signature.now c.in-Some.bottom
    (omega (arith, place)) (sym c.number_at-levels.ensures ∙ c.if-levels-ne1.false) found (omega (arith, place, c.signature_length.ensures)))
