-- The order of notes, and the newest of a member as the greatest.
use Rattle.std.proofs.Common.{◌≡◌, ℕ, Bool, true, false, eqb, List, [], ◌∷◌, Option, Some, None, inl, inr, refl, ap, sym, ◌∙◌, subst, arith}
use Rattle.std.specs.Ordering.{is_lt}
use Rattle.std.proofs.lemmas.Bool.{cond_both, eqb-true, eqb-false}
use Rattle.std.proofs.lemmas.Bool.Decides.{nat_tests}
use Rattle.ff_ids.specs.declared.NoteBody.{NoteBody}
use Rattle.ff_ids.specs.Notes.{note_cmp, greater_note, newest}
use Rattle.life_laws.proofs.Lists.{In}

abbrev pub below : NoteBody → NoteBody → Bool
below a b = is_lt (note_cmp a b)

pub below-itself : (a : NoteBody) → below a a ≡ false
below-itself a = grind (arith, nat_tests)

pub below-back : (a b : NoteBody) → below a b ≡ true → below b a ≡ false
below-back a b e = grind (arith, nat_tests)

pub not_below-trans : (a b c : NoteBody) → below a b ≡ false → below b c ≡ false → below a c ≡ false
not_below-trans a b c e f = grind (arith, nat_tests)

pub same_mask : (a b : NoteBody) → below a b ≡ false → below b a ≡ false → (a.epoch ≡ b.epoch) × (a.mask.0 ≡ b.mask.0)
same_mask a b e f = (grind (arith, nat_tests), grind (arith, nat_tests))

pub tie : (a b : NoteBody) → below a b ≡ false → below b a ≡ false → a.member ≡ b.member → a ≡ b
tie a b e f m =
    let same = same_mask a b e f in
    λ i. record { member = m i; epoch = same.0 i; mask = record { 0 = same.1 i } }

-- what the newest is, by recursion: none of the member's is in the list, or it is there and none is greater
abbrev pub Greatest : List NoteBody → ℕ → Option NoteBody → Type 0
Greatest ns m None = (x : NoteBody) → In ns x → x.member ≡ m → ⊥
Greatest ns m (Some n) = In ns n × (n.member ≡ m) × ((x : NoteBody) → In ns x → x.member ≡ m → below n x ≡ false)

at_same : (n x y : NoteBody) → x ≡ y → below n x ≡ false → below n y ≡ false
at_same n x y e h = subst (λ z. below n z ≡ false) e h

Greatest-more : (n : NoteBody) (ns : List NoteBody) (m : ℕ) (o : Option NoteBody) → n.member ≡ m → Greatest ns m o → Greatest (n ∷ ns) m (Some (greater_note n o))
Greatest-more n ns m None e h =
    (inl refl, e, λ x i xm. elim i [ inl q ↦ at_same n n x q (below-itself n) | inr i ↦ absurd (h x i xm) ])
Greatest-more n ns m (Some o) e h =
    cond_both (below n o) o n (λ z. Greatest (n ∷ ns) m (Some z))
    (λ yes. (inr h.0, h.1, λ x i xm. elim i [ inl q ↦ at_same o n x q (below-back n o yes) | inr i ↦ h.2 x i xm ]))
    (λ no. (inl refl, e, λ x i xm. elim i [ inl q ↦ at_same n n x q (below-itself n) | inr i ↦ not_below-trans n o x no (h.2 x i xm) ]))

Greatest-other : (n : NoteBody) (ns : List NoteBody) (m : ℕ) (o : Option NoteBody) → (n.member ≡ m → ⊥) → Greatest ns m o → Greatest (n ∷ ns) m o
Greatest-other n ns m None e h = λ x i xm. elim i [ inl q ↦ absurd (e (ap (λ z. z.member) q ∙ xm)) | inr i ↦ h x i xm ]
Greatest-other n ns m (Some o) e h =
    (inr h.0, h.1, λ x i xm. elim i [ inl q ↦ absurd (e (ap (λ z. z.member) q ∙ xm)) | inr i ↦ h.2 x i xm ])

pub Greatest-newest : (ns : List NoteBody) (m : ℕ) → Greatest ns m (newest ns m)
Greatest-newest [] m = λ x i xm. i
Greatest-newest (n ∷ ns) m =
    let rest = Greatest-newest ns m in
    cond_both (eqb n.member m) (Some (greater_note n (newest ns m))) (newest ns m) (Greatest (n ∷ ns) m)
    (λ yes. Greatest-more n ns m (newest ns m) (eqb-true n.member m yes) rest)
    (λ no. Greatest-other n ns m (newest ns m) (eqb-false n.member m no) rest)

-- what is greatest in two lists with the same elements is the same
only_one : (xs ys : List NoteBody) (m : ℕ) (o p : Option NoteBody) → ((x : NoteBody) → In xs x → In ys x) → ((x : NoteBody) → In ys x → In xs x) → Greatest xs m o → Greatest ys m p → o ≡ p
only_one xs ys m None None onward back h k = refl
only_one xs ys m None (Some p) onward back h k = absurd (h p (back p k.0) k.1)
only_one xs ys m (Some o) None onward back h k = absurd (k o (onward o h.0) h.1)
only_one xs ys m (Some o) (Some p) onward back h k =
    ap (λ z. Some z) (tie o p (h.2 p (back p k.0) k.1) (k.2 o (onward o h.0) h.1) (h.1 ∙ sym k.1))

pub same_newest : (xs ys : List NoteBody) (m : ℕ) → ((x : NoteBody) → In xs x → In ys x) → ((x : NoteBody) → In ys x → In xs x) → newest xs m ≡ newest ys m
same_newest xs ys m onward back = only_one xs ys m (newest xs m) (newest ys m) onward back (Greatest-newest xs m) (Greatest-newest ys m)

pub newest-fits : (ns : List NoteBody) (m : ℕ) (o : NoteBody) → newest ns m ≡ Some o → Greatest ns m (Some o)
newest-fits ns m o e = subst (Greatest ns m) e (Greatest-newest ns m)
