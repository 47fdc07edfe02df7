use Rattle.std.proofs.Common.{◌∙◌, length, drop, sym, ap, subst, arith}
use Rattle.edges.specs.Sockets.{Finds}
use Rattle.edges.specs.Looks.{kept_found}
use Rattle.edges.proofs.LookLemmas.{lent, looks-as, looks-found, reaches-kept}
use Rattle.edges.proofs.udp_link.Bound.take_in.Goals as goal

pub returns-clause-reaches : goal.returns-clause-reaches
returns-clause-reaches g c = reaches-kept c.take-found.result _ c.args.self.now.queues c.keep.new.self.queues (ap (λ b. b.queues) c.keep.ensures.kept)

pub returns-clause-looks : goal.returns-clause-looks
returns-clause-looks g c =
    let coming = g.S.Socket.coming in
    let buffer = c.args.self.now.datagram.items in
    let filled = c.take-found.new.buf in
    let f = c.take-found.result in
    let found = subst (λ b. Finds (coming c.args.self.now.socket) (coming c.take-found.new.self) b filled f) c.as_mut_slice.ensures.value c.take-found.ensures.finds in
    let finds = subst (λ x. Finds (coming c.args.self.now.socket) (coming x) buffer filled f) (sym (ap (λ b. b.socket) c.keep.ensures.kept)) found in
    let back = lent c.args.self.now.datagram.len filled (drop (length filled) buffer) (omega (arith, c.as_mut_slice.ensures.len, c.take-found.auto.buf)) in
    looks-as _ _ _ _ _ _ _ (sym c.keep.ensures.answer)
    (looks-found (coming c.args.self.now.socket) (coming c.keep.new.self.socket) buffer filled f c.args.self.now.queues c.keep.new.self.queues finds (ap (λ b. b.queues) c.keep.ensures.kept ∙ ap (λ b. kept_found f b c.args.self.now.queues) back))
