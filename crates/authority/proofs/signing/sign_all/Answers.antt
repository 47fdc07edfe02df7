use Rattle.std.proofs.Common.{◌≡◌, ◌∙◌, ◌∷◌, ◌++◌, [], List, None, true, append-nil, append_assoc, ap, length, subst, sym}
use Rattle.schedule_texts.specs.declared.line.RosterLine.{RosterLine}
use Rattle.authority.specs.Texts.{HavePorts}
use Rattle.authority.proofs.SigningLemmas.{all-so-far, lines-more-so-far, no-lines, signed-none, stops-at, told-none}
use Rattle.authority.proofs.signing.sign_all.Goals as goal

pub loop-line-init : goal.loop-line-init
loop-line-init g c =
    let same : c.into_iter-line-iterator.result.rest.items ≡ c.args.lines.items = c.into_iter-line-iterator.ensures.into_iter_gives.0 in
    record {
      done = [];
      split = sym same;
      ports = subst HavePorts (sym same) c.requires.ports;
      sink = c.requires.sink;
      so_far = λ source. record { signed = signed-none c.args.signer.now _ c.requires.going; told = told-none _ };
    }

pub sign_line-requires-clause-going : goal.sign_line-requires-clause-going
sign_line-requires-clause-going g c = (c.loop-line.invariant.so_far (record { left = None; faults = 0; is_open = true })).signed.going

pub loop-line-preserved : goal.loop-line-preserved
loop-line-preserved g c =
    let h = c.loop-line.invariant in
    let l : RosterLine = c.in-Some.line in
    let next : c.loop-line.line-iterator.rest.items ≡ l ∷ c.next.new.self.rest.items = c.in-Some.ensures.steps.0 in
    record {
      done = h.done ++ l ∷ [];
      split = h.split ∙ ap (λ (ls : List RosterLine). h.done ++ ls) next ∙ sym (append_assoc h.done (l ∷ []) c.next.new.self.rest.items);
      ports = (subst HavePorts next h.ports).1;
      sink = c.in-Ok.ensures.sink;
      so_far = λ source. lines-more-so-far h.done l _ _ _ _ _ _ _ _ _ (h.so_far source) (c.in-Ok.ensures.signs source);
    }

pub returns-in-Err-clause-signs : goal.returns-in-Err-clause-signs
returns-in-Err-clause-signs g c = λ source.
    let h = c.loop-line.invariant in
    let l : RosterLine = c.in-Some.line in
    let next : c.loop-line.line-iterator.rest.items ≡ l ∷ c.next.new.self.rest.items = c.in-Some.ensures.steps.0 in
    stops-at c.args.lines.items h.done c.next.new.self.rest.items l _ _ _ _ _ _ _ _ _ c.in-Err.halt (h.split ∙ ap (λ (ls : List RosterLine). h.done ++ ls) next) (h.so_far source) (c.in-Err.ensures.signs source)

pub returns-clause-signs : goal.returns-clause-signs
returns-clause-signs g c = λ source.
    let h = c.loop-line.invariant in
    let long : length c.loop-line.line-iterator.rest.items ≡ 0 = sym c.loop-line.line-iterator.rest.ok.0 ∙ c.in-None.ensures.steps.0 in
    let none : c.loop-line.line-iterator.rest.items ≡ [] = no-lines c.loop-line.line-iterator.rest.items long in
    let whole : c.args.lines.items ≡ h.done = h.split ∙ ap (λ (ls : List RosterLine). h.done ++ ls) none ∙ append-nil h.done in
    all-so-far c.args.lines.items h.done c.args.signer.now c.loop-line.signer _ _ _ _ whole (h.so_far source)
