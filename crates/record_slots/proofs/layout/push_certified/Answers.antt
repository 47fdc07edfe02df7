use Rattle.std.proofs.Common.{◌≡◌, ℕ, refl, ◌+◌, ◌*◌, ◌<◌, ◌++◌, List, ◌∷◌, [], true, false, None, is_some, length, get_or, ap, sym, ◌∙◌, append-nil, length-append, arith}
use Rattle.std.proofs.lemmas.List.{get_or_default}
use Rattle.ff_ids.specs.declared.summary.SummaryEntry.{SummaryEntry}
use Rattle.record_slots.specs.declared.layout.TheConstants.{SLOTS_EACH}
use Rattle.record_slots.specs.Slots.{no_entry}
use Rattle.record_slots.proofs.ReadyLemmas.{ready_entries-none, entry_pushed}
use Rattle.record_slots.proofs.layout.push_certified.Goals as goal
use Rattle.record_slots.proofs.layout.push_certified.Goals.{then-is_some, else-is_some}

pub loop-index-init : goal.loop-index-init
loop-index-init g c =
    let none = ready_entries-none c.args.slots.now c.args.entries.now c.args.first in
    record {
      page = refl;
      listed = sym (ap (λ (es : List SummaryEntry). c.args.out.now.listed ++ es) none ∙ append-nil c.args.out.now.listed);
      few = omega arith;
    }

pub loop-index-preserved : goal.loop-index-preserved
loop-index-preserved g c =
    let slots = c.args.slots.now in
    let entries = c.args.entries.now in
    let number = c.args.first + c.loop-index.index in
    let inv = c.loop-index.invariant in
    let told : is_some (get_or slots (SLOTS_EACH * number) None) ≡ c.is_some.result =
    ap (λ (s : ℕ). is_some (get_or slots s None)) (sym c.certificate_slot.ensures) ∙ sym c.kept_in.ensures.variant ∙ sym c.is_some.ensures in
    let push = entry_pushed slots entries c.args.out.now.listed c.loop-index.out.listed c.if-is_some.out.listed c.args.first c.loop-index.index in
    elim c.if-is_some.branch [
      | then-is_some w ↦
          let within : number < length entries = omega (arith, c.requires.entries, c.requires.members) in
          let entry : w.index-entries-number.result ≡ get_or entries number (no_entry number) = w.index-entries-number.is ∙ get_or_default entries number _ (no_entry number) within in
          let pages : c.if-is_some.out.page ≡ w.push.new.self.page = ap (λ s. s.page) w.out-is in
          let lists : c.if-is_some.out.listed ≡ w.push.new.self.listed = ap (λ s. s.listed) w.out-is in
          let grown = lists ∙ w.push.ensures.pushed ∙ ap (λ e. c.loop-index.out.listed ++ e ∷ []) entry in
          record {
            page = pages ∙ w.push.ensures.page ∙ inv.page;
            listed = push true (told ∙ w.if-is_some.true) inv.listed grown;
            few = omega (arith, ap length grown, length-append c.loop-index.out.listed (get_or entries number (no_entry number) ∷ []), inv.few);
          }
      | else-is_some w ↦
          let pages : c.if-is_some.out.page ≡ c.loop-index.out.page = ap (λ s. s.page) w.out-is in
          let lists : c.if-is_some.out.listed ≡ c.loop-index.out.listed = ap (λ s. s.listed) w.out-is in
          record {
            page = pages ∙ inv.page;
            listed = push false (told ∙ w.if-is_some.false) inv.listed (lists ∙ sym (append-nil c.loop-index.out.listed));
            few = omega (arith, ap length lists, inv.few);
          }
    ]
