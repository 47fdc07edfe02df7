use Rattle.std.proofs.Common.{◌≡◌, ℕ, List, [], ◌∷◌, ◌++◌, None, ap, ◌∙◌, sym, append_assoc}
use Rattle.epoch_store.specs.Seat.{needs_wide}
use Rattle.epoch_store.specs.Store.{entry_with, magic, spelled}
use Rattle.epoch_store.proofs.made_bytes.Goals as goal

joined : (m t s : List ℕ) → (m ++ t ++ 1 ∷ []) ++ (s ++ 0 ∷ []) ≡ (m ++ t ++ 1 ∷ s) ++ 0 ∷ []
joined m t s = sym (append_assoc (m ++ t ++ 1 ∷ []) s (0 ∷ [])) ∙ ap (λ (b : List ℕ). b ++ 0 ∷ []) (append_assoc (m ++ t) (1 ∷ []) s)

pub returns : goal.returns
returns c =
    let wide = needs_wide c.args.first.mask.0 in
    rw (c.put_piece-4.ensures, c.put_piece-3.ensures, c.put_piece-2.ensures, c.put_piece.ensures, c.new-bytes.ensures, c.magic.ensures, c.deref.ensures.0, c.entry_bytes.ensures, c.needs_wide-wide.ensures)
    (joined (magic wide) c.args.tag.now (spelled wide (entry_with None c.args.first)))
