use Rattle.std.proofs.Common.{◌≡◌, ◌+◌, ◌≤◌, [], ◌∷◌, ◌++◌, length, sum, false, sym, ap, ◌∙◌, subst}
use Rattle.link_queues.specs.Waiting.{Waiting, is_over, pieces}
use Rattle.link_queues.proofs.WaitingLemmas.{filled-all, kept-all, pieces-one, room-left, same-queue, sum-one}
use Rattle.link_queues.proofs.queue.Queue.append.Goals as goal

-- there is room by the counts that are kept
abbrev there-is-room : (c : goal.After-fill_from_slice) → (length c.self.inside.lengths.items + 1 ≤ c.self.inside.lengths.capacity)
    × (length c.self.inside.bytes.items + length c.args.bytes.now ≤ c.self.inside.bytes.capacity)
there-is-room c =
    let i = c.self.inside in
    let P : Waiting → Type 0 = λ q. is_over q.slots q.room (q.held ++ c.args.bytes.now ∷ []) ≡ false in
    room-left i.lengths.items i.bytes.items c.args.bytes.now i.lengths.capacity i.bytes.capacity c.self.invariant (subst P (sym c.self.view_is) c.requires)

abbrev lengths-are : (c : goal.After-fill_from_slice) → c.push_back.new.self.items ≡ c.self.inside.lengths.items ++ length c.args.bytes.now ∷ []
lengths-are c = ap (λ b. b.items) c.push_back.ensures.items
    ∙ kept-all c.self.inside.lengths.items (length c.args.bytes.now) c.self.inside.lengths.capacity (there-is-room c).0

abbrev bytes-are : (c : goal.After-fill_from_slice) → c.fill_from_slice.new.self.items ≡ c.self.inside.bytes.items ++ c.args.bytes.now
bytes-are c = ap (λ b. b.items) c.fill_from_slice.ensures.items
    ∙ filled-all c.self.inside.bytes.items c.args.bytes.now c.self.inside.bytes.capacity c.fill_from_slice.result (there-is-room c).1 c.fill_from_slice.ensures.count

pub invariant_of-self : goal.invariant_of-self
invariant_of-self c =
    let i = c.self.inside in
    ap sum (lengths-are c) ∙ sum-one i.lengths.items i.bytes.items c.args.bytes.now c.self.invariant ∙ ap length (sym (bytes-are c))

pub returns : goal.returns
returns c =
    let i = c.self.inside in
    let ds = c.args.bytes.now in
    let held = ap (λ ns. pieces ns c.fill_from_slice.new.self.items) (lengths-are c)
    ∙ ap (λ bs. pieces (i.lengths.items ++ length ds ∷ []) bs) (bytes-are c)
    ∙ pieces-one i.lengths.items i.bytes.items ds c.self.invariant
    ∙ ap (λ q. q.held ++ ds ∷ []) c.self.view_is in
    let slots = ap (λ b. b.capacity) c.push_back.ensures.items ∙ ap (λ q. q.slots) c.self.view_is in
    let room = ap (λ b. b.capacity) c.fill_from_slice.ensures.items ∙ ap (λ q. q.room) c.self.view_is in
    same-queue _ _ _ _ _ _ held slots room
