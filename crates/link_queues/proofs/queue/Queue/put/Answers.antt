use Rattle.std.proofs.Common.{[], ◌∷◌, ◌++◌, sym, ap, ◌∙◌}
use Rattle.link_queues.specs.Waiting.{fitting}
use Rattle.link_queues.proofs.WaitingLemmas.{fitting-fits, same-queue}
use Rattle.link_queues.proofs.queue.Queue.put.Goals as goal

pub returns-clause-put : goal.returns-clause-put
returns-clause-put c =
    let q = c.loop-self.self in
    let h = c.loop-self.invariant in
    let whole = q.held ++ c.args.bytes.now ∷ [] in
    let stays = fitting-fits q.slots q.room whole (sym c.is_over.ensures ∙ c.loop-self-test.false) in
    c.append.ensures ∙ same-queue _ _ _ _ _ _ (sym stays ∙ ap (λ s. fitting s q.room whole) h.slots ∙ ap (λ r. fitting c.args.self.now.slots r whole) h.room ∙ h.fits) h.slots h.room
