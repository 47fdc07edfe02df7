use Rattle.std.proofs.Common.{◌≡◌, true, false, None, sym, ◌∙◌, rules}
use Rattle.world.proofs.RefusalLemmas.{last-none, last-note, last-unknown, last-used}
use Rattle.world.proofs.World.why_not_signed.Goals as goal

pub returns-then-means_no_note-clause-value : goal.returns-then-means_no_note-clause-value
returns-then-means_no_note-clause-value c = λ s w told h fine.
    let is : c.means_no_note.result ≡ true = search rules in
    sym (last-note s w c.args.line.now (sym (c.means_no_note.ensures s w told h) ∙ is))

pub returns-in-Some-clause-value : goal.returns-in-Some-clause-value
returns-in-Some-clause-value c = λ s w told h fine.
    let noted : c.means_no_note.result ≡ false = search rules in
    sym (last-used s w c.args.line.now c.in-Some.first (sym (c.means_no_note.ensures s w told h) ∙ noted) (sym (c.in-Some.ensures.value s w told h fine)))

pub returns-then-asks_for_unknown-clause-value : goal.returns-then-asks_for_unknown-clause-value
returns-then-asks_for_unknown-clause-value c = λ s w told h fine.
    let noted : c.means_no_note.result ≡ false = search rules in
    let left : c.signer_used_up.result ≡ None = search rules in
    let is : c.asks_for_unknown.result ≡ true = search rules in
    sym (last-unknown s w c.args.line.now (sym (c.means_no_note.ensures s w told h) ∙ noted) (sym (c.signer_used_up.ensures.value s w told h fine) ∙ left) (sym (c.asks_for_unknown.ensures.value s w told h) ∙ is))

pub returns-clause-value : goal.returns-clause-value
returns-clause-value c = λ s w told h fine.
    let noted : c.means_no_note.result ≡ false = search rules in
    let left : c.signer_used_up.result ≡ None = search rules in
    let known : c.asks_for_unknown.result ≡ false = search rules in
    sym (last-none s w c.args.line.now (sym (c.means_no_note.ensures s w told h) ∙ noted) (sym (c.signer_used_up.ensures.value s w told h fine) ∙ left) (sym (c.asks_for_unknown.ensures.value s w told h) ∙ known))
