use Rattle.std.proofs.Common.{◌≡◌, ℕ, ◌≤◌, List, ◌++◌, length, take, subst, ap, ◌∙◌}
use Rattle.ff_ids.specs.declared.summary.RecordKey.{RecordKey}
use Rattle.records.specs.Signing.{CheckedRecord}
use Rattle.record_set.specs.Picks.{fitting, spelled, held_all}
use Rattle.node_core.proofs.GivenLemmas.{given-is}
use Rattle.node_core.proofs.exchange.given_bytes.Goals as goal

pub returns : goal.returns
returns c =
    let set = c.args.records.now in
    let ks : List RecordKey = c.args.keys.now in
    let all : held_all set c.deref.result.now ≡ held_all set ks =
    ap (λ (xs : List RecordKey). held_all set xs) c.deref.ensures.value ∙ c.in_ok-held.ensures.same in
    let n : ℕ = c.in_ok-count.count in
    let count : n ≡ fitting 32760 (held_all set ks) = c.in_ok-count.ensures.count ∙ ap (fitting 32760) all in
    let within : n ≤ length (held_all set ks) = subst (λ (xs : List CheckedRecord). n ≤ length xs) all c.in_ok-count.ensures.longest.within in
    let picked : c.pick.new.out.items ≡ spelled (take n (held_all set ks)) =
    c.in_ok-count.ensures.bytes ∙ ap (λ (xs : List ℕ). xs ++ spelled (take n (held_all set c.deref.result.now))) c.new-picked.ensures.items
    ∙ ap (λ (xs : List CheckedRecord). spelled (take n xs)) all in
    let both : c.extend_from_slice-2.new.self.items ≡ c.records_head.result ++ c.pick.new.out.items =
    c.in_ok-extend_from_slice-2.ensures.items ∙ ap (λ (xs : List ℕ). c.extend_from_slice.new.self.items ++ xs) c.deref-2.ensures.value
    ∙ ap (λ (xs : List ℕ). xs ++ c.pick.new.out.items)
    (c.in_ok-extend_from_slice.ensures.items ∙ ap (λ (xs : List ℕ). xs ++ c.records_head.result) c.new-bytes.ensures.items) in
    given-is c.args.from set ks n c.records_head.result c.pick.new.out.items c.extend_from_slice-2.new.self.items count c.if-count-eq0.false
    within c.records_head.ensures picked both
