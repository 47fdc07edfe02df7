use Rattle.std.proofs.Common.{◌≡◌, List, [], ◌∷◌, map, refl, ap, ◌∙◌, rules, tests}
use Rattle.std.specs.List.{list_any}
use Rattle.std.proofs.lemmas.Iterator.{YieldsList-from_slice}
use Rattle.std.proofs.lemmas.Iterator.Search.{any_from_yields_List}
use Rattle.records.specs.declared.Body.{Body}
use Rattle.records.specs.Signing.{CheckedRecord}
use Rattle.world_rules.specs.Settings.{same_body}
use Rattle.world_host.specs.Bodies.{is_among}
use Rattle.world_host.specs.Certifying.{Certifying}
use Rattle.world_host.proofs.authority.Authority.has_signed.Goals as goal

bodies-any : (body : Body) (xs : List CheckedRecord) → list_any (λ x. same_body x.rec.body body) xs ≡ is_among (map (λ x. x.rec.body) xs) body
bodies-any body [] = refl
bodies-any body (x ∷ xs) = rw (bodies-any body xs) refl

pub returns : goal.returns
returns c =
    let xs : List CheckedRecord = c.self.inside.certificates.items in
    let body : Body = c.args.body.now in
    let found : c.any.result ≡ list_any (λ x. same_body x.rec.body body) xs = any_from_yields_List (λ x. same_body x.rec.body body) _ _ c.any.result c.any.ensures.ran (YieldsList-from_slice xs cc) (λ x b q k. search (rules, tests)) in
    found ∙ bodies-any body xs ∙ ap (λ (a : Certifying). is_among (map (λ x. x.rec.body) a.certificates) body) c.self.view_is
