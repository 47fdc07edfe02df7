-- Lines as their grammar spells them.
use Rattle.std.proofs.Common.{◌≡◌, ℕ, List, [], ◌∷◌, ◌++◌, Some, None, refl, ap, ◌∙◌, codes, append_assoc, append-nil}
use Rattle.std.specs.Fmt.{decimal}
use Rattle.hex.specs.Hex.{encode_lower}
use Rattle.lms_ots.specs.Ots.{width}
use Rattle.lms_tree.specs.Kinds.{height}
use Rattle.schedule_world.specs.Grammar.{spelled_epoch}
use Rattle.schedule_world.specs.declared.line.WorldLine.TheVariants as lines
use Rattle.world_text.specs.Lines.{LinesAreSpelled}

-- two words, and what follows them
two_words : (a b rest : List ℕ) → a ++ 32 ∷ [] ++ b ++ rest ≡ a ++ 32 ∷ (b ++ rest)
two_words a b rest = append_assoc (a ++ 32 ∷ []) b rest ∙ append_assoc a (32 ∷ []) (b ++ rest)

five_words : (a b c d e : List ℕ) → a ++ 32 ∷ [] ++ b ++ 32 ∷ (c ++ 32 ∷ [] ++ d ++ 32 ∷ [] ++ e) ≡ a ++ 32 ∷ (b ++ 32 ∷ (c ++ 32 ∷ (d ++ 32 ∷ e)))
five_words a b c d e =
    two_words a b (32 ∷ (c ++ 32 ∷ [] ++ d ++ 32 ∷ [] ++ e))
    ∙ ap (λ (z : List ℕ). a ++ 32 ∷ (b ++ 32 ∷ z)) (append_assoc (c ++ 32 ∷ [] ++ d) (32 ∷ []) e ∙ two_words c d (32 ∷ e))

six_words : (a b c d e f : List ℕ) → a ++ 32 ∷ [] ++ b ++ (32 ∷ (c ++ 32 ∷ [] ++ d ++ 32 ∷ (e ++ 32 ∷ [] ++ f))) ≡ a ++ 32 ∷ (b ++ 32 ∷ (c ++ 32 ∷ (d ++ 32 ∷ (e ++ 32 ∷ f))))
six_words a b c d e f =
    two_words a b (32 ∷ (c ++ 32 ∷ [] ++ d ++ 32 ∷ (e ++ 32 ∷ [] ++ f)))
    ∙ ap (λ (z : List ℕ). a ++ 32 ∷ (b ++ 32 ∷ z)) (two_words c d (32 ∷ (e ++ 32 ∷ [] ++ f)) ∙ ap (λ (z : List ℕ). c ++ 32 ∷ (d ++ 32 ∷ z)) (append_assoc e (32 ∷ []) f))

-- the words of kinds of one level
one_level : (w h : List ℕ) → codes "kinds " ++ w ++ codes " " ++ h ≡ codes "kinds" ++ 32 ∷ (w ++ 32 ∷ h)
one_level w h = simp append_assoc refl

pub spelled : LinesAreSpelled
spelled lines.Header = refl
spelled (lines.Group g) = ap (λ (z : List ℕ). codes "group " ++ z) (five_words (decimal g.t) (decimal g.timeout) (decimal g.period) (decimal g.misses) (encode_lower g.tag))
spelled (lines.Kinds ots tree None) =
    append-nil (codes "kinds " ++ decimal (width ots) ++ codes " " ++ decimal (height tree)) ∙ one_level (decimal (width ots)) (decimal (height tree))
spelled (lines.Kinds ots tree (Some bottom)) = simp append_assoc refl
spelled (lines.Heal h) = simp append_assoc refl
spelled (lines.Node m) = refl
spelled (lines.Liar m) = refl
spelled lines.Begin = refl
spelled (lines.Start m) = refl
spelled (lines.Stop m outcome) = simp append_assoc refl
spelled (lines.Arm m calls outcome) = simp append_assoc refl
spelled (lines.Tick m ticks) = simp append_assoc refl
spelled (lines.Leave m) = refl
spelled (lines.Deliver datagram m) = simp append_assoc refl
spelled (lines.Flow most) = refl
spelled (lines.Raw m bytes) = simp append_assoc refl
spelled (lines.SignNote key n name) = ap (λ (z : List ℕ). codes "sign-note " ++ z) (five_words (decimal key) (decimal n.member) (decimal n.epoch) (decimal n.mask.0) name)
spelled (lines.SignAccusation key accuser accused epoch ring name) =
    ap (λ (z : List ℕ). codes "sign-accusation " ++ z) (six_words (decimal key) (decimal accuser) (decimal accused) (spelled_epoch epoch) (decimal ring.0) name)
spelled (lines.Give name m) = simp append_assoc refl
spelled (lines.GiveAll name) = refl
spelled (lines.View m) = refl
spelled (lines.Monitor m ring other) = simp append_assoc refl
spelled lines.End = refl
