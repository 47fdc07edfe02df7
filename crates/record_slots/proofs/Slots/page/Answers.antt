use Rattle.std.proofs.Common.{◌*◌, ◌++◌, List, ap, sym, ◌∙◌, refl}
use Rattle.ff_ids.specs.declared.TheConstants.{PAGE_MEMBERS}
use Rattle.ff_ids.specs.declared.summary.SummaryEntry.{SummaryEntry}
use Rattle.record_slots.specs.Pages.{summary_of}
use Rattle.record_slots.specs.Slots.{ready_entries}
use Rattle.record_slots.proofs.ReadyLemmas.{ready-summary, no-summary, same_summary}
use Rattle.record_slots.proofs.Slots.page.Goals as goal

pub returns-then-page-lt-PAGES : goal.returns-then-page-lt-PAGES
returns-then-page-lt-PAGES g c =
    let slots = c.self.inside.slots.items in
    let entries = c.self.inside.entries.items in
    let listed = c.push_certified.ensures.listed
    ∙ ap (λ (es : List SummaryEntry). es ++ ready_entries c.deref.result.now c.deref-then-page-lt-PAGES.result.now (PAGE_MEMBERS * c.args.page) PAGE_MEMBERS) c.new.ensures.none
    ∙ ap (λ ss. ready_entries ss c.deref-then-page-lt-PAGES.result.now (PAGE_MEMBERS * c.args.page) PAGE_MEMBERS) c.deref.ensures.value
    ∙ ap (λ es. ready_entries slots es (PAGE_MEMBERS * c.args.page) PAGE_MEMBERS) c.deref-then-page-lt-PAGES.ensures.value
    ∙ ready-summary g.R.Slotted.body slots entries c.args.page c.self.invariant.0 c.if-page-lt-PAGES.true in
    same_summary _ _ _ _ c.push_certified.ensures.page listed ∙ ap (λ h. summary_of g.R.Slotted.body h c.args.page) c.self.view_is

pub returns-else-page-lt-PAGES : goal.returns-else-page-lt-PAGES
returns-else-page-lt-PAGES g c =
    same_summary c.args.page c.args.page c.new.result.listed _ refl (c.new.ensures.none ∙ sym (no-summary g.R.Slotted.body c.self.inside.slots.items c.args.page c.self.invariant.0.slots_few c.if-page-lt-PAGES.false)) ∙ ap (λ h. summary_of g.R.Slotted.body h c.args.page) c.self.view_is
