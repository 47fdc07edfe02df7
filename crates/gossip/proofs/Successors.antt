-- A successor is another member, where each note is of a member.
use Rattle.std.proofs.Common.{◌≡◌, ℕ, zero, suc, ◌/◌, ◌%◌, ◌<◌, ◌↔◌, Bool, true, false, not, cond, eqb, List, [], ◌∷◌, Option, Some, None, map, refl, ap, sym, ◌∙◌, arith, length, get_or}
use Rattle.std.specs.Prelude.{◌&&◌, ◌||◌, filter, find}
use Rattle.std.specs.List.{list_all}
use Rattle.std.specs.List.{slice_get}
use Rattle.std.specs.Option.{option_map, option_or}
use Rattle.std.proofs.lemmas.Bool.{eqb-true, eq-eqb, and_parts, or_right, true≢false}
use Rattle.std.proofs.lemmas.Option.{slice_get-get_or}
use Rattle.ff_ids.specs.Heals.{Heal}
use Rattle.ff_ids.specs.declared.NoteBody.{NoteBody}
use Rattle.ff_ids.specs.Masks.{ring_count}
use Rattle.ff_ids.specs.Notes.{greater_note, newest}
use Rattle.ff_ids.specs.Rings.{Key, others}
use Rattle.ff_ids.specs.Views.{State, all_numbers, viewed_by, is_member, in_view, key_of, successor}
use Rattle.gossip.specs.Partners.{is_listed, others as other_numbers, in_turn, partner, outsiders, share, is_outward, plain_round, outsider_with, partner_with, NotesOfMembers}

-- It passes the test, and is another.
pub record IsOther (p : ℕ → Bool) (me v : ℕ) : Type 0 where
  pub passes : p v ≡ true
  pub apart : eqb v me ≡ false

abbrev numbers_of : Option Key → Option ℕ
numbers_of o = option_map (λ k. k.number) o

-- one more key: it is found, or the others are searched
found_here : (key : Key) (n : ℕ) (p : ℕ → Bool) (me : ℕ) (test : Key → Bool) (keys : List Key) (v : ℕ) (a b c : Bool) → key.number ≡ n → p n ≡ a → eqb key.number me ≡ b → (numbers_of (find test (others me keys)) ≡ Some v → IsOther p me v) → numbers_of (find test (cond (a && not b) (key ∷ others me keys) (others me keys))) ≡ Some v → c ≡ test key → IsOther p me v
found_here key n p me test keys v false b c numbered is apart rest e tested = rest e
found_here key n p me test keys v true true c numbered is apart rest e tested = rest e
found_here key n p me test keys v true false false numbered is apart rest e tested = rest (sym (ap (λ t. numbers_of (cond t (Some key) (find test (others me keys)))) (sym tested)) ∙ e)
found_here key n p me test keys v true false true numbered is apart rest e tested =
    let taken : Some key.number ≡ Some v = sym (ap (λ t. numbers_of (cond t (Some key) (find test (others me keys)))) (sym tested)) ∙ e in
    let at : n ≡ v = cc in
    record { passes = sym (ap p at) ∙ is; apart = sym (ap (λ k. eqb k me) (numbered ∙ at)) ∙ apart }

both_tests : (p : Bool) (q : Bool) (f : Key) (me : ℕ) (keys : List Key) (tail : List ℕ) → q ≡ not (eqb f.number me) → others me (cond p (f ∷ keys) keys) ≡ cond (p && q) (f ∷ others me keys) (others me keys)
both_tests false q f me keys tail e = refl
both_tests true q f me keys tail e = ap (λ b. cond b (f ∷ others me keys) (others me keys)) (sym e)

map_cond : (b : Bool) (key : ℕ → Key) (n : ℕ) (ns : List ℕ) → map key (cond b (n ∷ ns) ns) ≡ cond b (key n ∷ map key ns) (map key ns)
map_cond true key n ns = refl
map_cond false key n ns = refl

-- the one of those that pass the test and are others that is found
found : (key : ℕ → Key) → ((n : ℕ) → (key n).number ≡ n) → (p : ℕ → Bool) (me : ℕ) (test : Key → Bool) (ns : List ℕ) (v : ℕ) → numbers_of (find test (others me (map key (filter p ns)))) ≡ Some v → IsOther p me v
found key numbered p me test [] v e = absurd (cc)
found key numbered p me test (n ∷ ns) v e =
    let keys : List Key = map key (filter p ns) in
    let whole : others me (map key (filter p (n ∷ ns))) ≡ cond (p n && not (eqb (key n).number me)) (key n ∷ others me keys) (others me keys) =
    ap (others me) (map_cond (p n) key n (filter p ns)) ∙ both_tests (p n) (not (eqb (key n).number me)) (key n) me keys ns refl in
    found_here (key n) n p me test keys v (p n) (eqb (key n).number me) (test (key n)) (numbered n) refl refl (found key numbered p me test ns v) (sym (ap (λ ks. numbers_of (find test ks)) whole) ∙ e) refl

pub successor-other : (s : State) (ring me v : ℕ) → successor s ring me ≡ Some v → IsOther (in_view s) me v
successor-other s ring me v e = found (key_of s ring) (λ n. refl) (in_view s) me _ all_numbers v e

noted_here : (p : ℕ → Bool) (member m : ℕ) (n : NoteBody) (b : Bool) (greater : NoteBody) (rest : Option NoteBody) → eqb member m ≡ b → p member ≡ true → (rest ≡ Some n → p m ≡ true) → cond b (Some greater) rest ≡ Some n → p m ≡ true
noted_here p member m n true greater rest same passes others e = sym (ap p (eqb-true member m same)) ∙ passes
noted_here p member m n false greater rest apart passes others e = others e

-- who has a note is a member
noted : (p : ℕ → Bool) (notes : List NoteBody) (m : ℕ) (n : NoteBody) → list_all (λ x. p x.member) notes ≡ true → newest notes m ≡ Some n → p m ≡ true
noted p [] m n all e = absurd (cc)
noted p (x ∷ notes) m n all e =
    let parts = and_parts (p x.member) (list_all (λ y. p y.member) notes) all in
    noted_here p x.member m n (eqb x.member m) (greater_note x (newest notes m)) (newest notes m) refl parts.0 (noted p notes m n parts.1) e

viewed_member : (s : State) (m : ℕ) → NotesOfMembers s → in_view s m ≡ true → is_member s m ≡ true
viewed_member s m known here = by_note (newest s.notes m) refl here
  where
    by_note : (o : Option NoteBody) → newest s.notes m ≡ o → viewed_by s.expired o ≡ true → is_member s m ≡ true
    by_note None is h = absurd (true≢false (sym h))
    by_note (Some n) is h = noted (is_member s) s.notes m n known is

listed_here : (numbers : List ℕ) (me v x : ℕ) (a b : Bool) → eqb x v ≡ a → eqb x me ≡ b → eqb v me ≡ false → (is_listed numbers v ≡ true → is_listed (other_numbers numbers me) v ≡ true) → (a || is_listed numbers v) ≡ true → is_listed (cond (not b) (x ∷ other_numbers numbers me) (other_numbers numbers me)) v ≡ true
listed_here numbers me v x true true here same apart rest h =
    let at : x ≡ v = eqb-true x v here in
    absurd (true≢false (sym same ∙ ap (λ k. eqb k me) at ∙ apart))
listed_here numbers me v x true false here off apart rest h = ap (λ b. b || is_listed (other_numbers numbers me) v) here
listed_here numbers me v x false true gone same apart rest h = rest h
listed_here numbers me v x false false gone off apart rest h = ap (λ b. b || is_listed (other_numbers numbers me) v) gone ∙ rest h

-- another that is listed is listed among the others
pub listed_other : (numbers : List ℕ) (me v : ℕ) → eqb v me ≡ false → is_listed numbers v ≡ true → is_listed (other_numbers numbers me) v ≡ true
listed_other [] me v apart h = h
listed_other (x ∷ numbers) me v apart h = listed_here numbers me v x (eqb x v) (eqb x me) refl refl apart (listed_other numbers me v apart) h

pub in_turn-listed : (numbers : List ℕ) (i v : ℕ) → slice_get numbers i ≡ Some v → is_listed numbers v ≡ true
in_turn-listed [] i v e = absurd (cc)
in_turn-listed (x ∷ numbers) zero v e =
    let at : x ≡ v = cc in
    ap (λ b. b || is_listed numbers v) (eq-eqb x v at)
in_turn-listed (x ∷ numbers) (suc i) v e = or_right (eqb x v) (is_listed numbers v) (in_turn-listed numbers i v e)

nobody_in_turn : (numbers : List ℕ) (round : ℕ) → in_turn numbers round ≡ None → numbers ≡ []
nobody_in_turn [] round e = refl
nobody_in_turn (x ∷ numbers) round e =
    let within : round % length (x ∷ numbers) < length (x ∷ numbers) = omega arith in
    let some : slice_get (x ∷ numbers) (round % length (x ∷ numbers)) ≡ Some (get_or (x ∷ numbers) (round % length (x ∷ numbers)) 0) = slice_get-get_or (x ∷ numbers) (round % length (x ∷ numbers)) 0 within in
    absurd (cc)

-- Each member of the state is listed, and its notes are of members.
pub record IsKnown (s : State) (certified : List ℕ) : Type 0 where
  pub notes : NotesOfMembers s
  pub members : (m : ℕ) → is_member s m ≡ true → is_listed certified m ≡ true

successor_listed : (s : State) (certified : List ℕ) (ring me v : ℕ) → IsKnown s certified → successor s ring me ≡ Some v → is_listed (other_numbers certified me) v ≡ true
successor_listed s certified ring me v known e =
    let o = successor-other s ring me v e in
    listed_other certified me v o.apart (known.members v (viewed_member s v known.notes o.passes))

pub partner-listed : (t : ℕ) (s : State) (certified : List ℕ) (me round p : ℕ) → IsKnown s certified → partner t s certified me round ≡ Some p → is_listed (other_numbers certified me) p ≡ true
partner-listed t s certified me round p known e = by_successor (successor s (round % ring_count t) me) refl e
  where
    by_successor : (o : Option ℕ) → successor s (round % ring_count t) me ≡ o → option_or o (in_turn (other_numbers certified me) round) ≡ Some p → is_listed (other_numbers certified me) p ≡ true
    by_successor None is h = in_turn-listed (other_numbers certified me) (round % length (other_numbers certified me)) p h
    by_successor (Some v) is h = successor_listed s certified (round % ring_count t) me p known (is ∙ h)

pub partner-none : (t : ℕ) (s : State) (certified : List ℕ) (me round : ℕ) → IsKnown s certified → (partner t s certified me round ≡ None) ↔ (other_numbers certified me ≡ [])
partner-none t s certified me round known = (nobody, alone)
  where
    nobody : partner t s certified me round ≡ None → other_numbers certified me ≡ []
    nobody e = by_successor (successor s (round % ring_count t) me) e
      where
        by_successor : (o : Option ℕ) → option_or o (in_turn (other_numbers certified me) round) ≡ None → other_numbers certified me ≡ []
        by_successor None h = nobody_in_turn (other_numbers certified me) round h
        by_successor (Some v) h = absurd (cc)

    alone : other_numbers certified me ≡ [] → partner t s certified me round ≡ None
    alone none = by_successor (successor s (round % ring_count t) me) refl
      where
        by_successor : (o : Option ℕ) → successor s (round % ring_count t) me ≡ o → option_or o (in_turn (other_numbers certified me) round) ≡ None
        by_successor None is = ap (λ ns. in_turn ns round) none
        by_successor (Some v) is = absurd (true≢false (sym (successor_listed s certified (round % ring_count t) me v known is) ∙ ap (λ ns. is_listed ns v) none))

-- ---- where nodes are to come together again

kept_here : (x v : ℕ) (numbers kept : List ℕ) (b : Bool) → (is_listed kept v ≡ true → is_listed numbers v ≡ true) → is_listed (cond b (x ∷ kept) kept) v ≡ true → is_listed (x ∷ numbers) v ≡ true
kept_here x v numbers kept true rest h = by_number (eqb x v) h
  where
    by_number : (b : Bool) → (b || is_listed kept v) ≡ true → (b || is_listed numbers v) ≡ true
    by_number true is = refl
    by_number false is = rest is
kept_here x v numbers kept false rest h = or_right (eqb x v) (is_listed numbers v) (rest h)

kept-listed : (q : ℕ → Bool) (numbers : List ℕ) (v : ℕ) → is_listed (filter q numbers) v ≡ true → is_listed numbers v ≡ true
kept-listed q [] v h = h
kept-listed q (x ∷ numbers) v h = kept_here x v numbers (filter q numbers) (q x) (kept-listed q numbers v) h

outsider-listed : (heal : Option Heal) (s : State) (certified : List ℕ) (me round p : ℕ) → outsider_with heal s certified me round ≡ Some p → is_listed (other_numbers certified me) p ≡ true
outsider-listed None s certified me round p e = absurd (cc)
outsider-listed (Some heal) s certified me round p e = by_round (is_outward (share heal s) round) e
  where
    by_round : (b : Bool) → cond b (in_turn (outsiders s certified me) (round / share heal s)) None ≡ Some p → is_listed (other_numbers certified me) p ≡ true
    by_round true is = kept-listed (λ m. not (in_view s m)) (other_numbers certified me) p (in_turn-listed (outsiders s certified me) (round / share heal s % length (outsiders s certified me)) p is)
    by_round false is = absurd (cc)

pub partner_with-listed : (heal : Option Heal) (t : ℕ) (s : State) (certified : List ℕ) (me round p : ℕ) → IsKnown s certified → partner_with heal t s certified me round ≡ Some p → is_listed (other_numbers certified me) p ≡ true
partner_with-listed heal t s certified me round p known e = by_outsider (outsider_with heal s certified me round) refl e
  where
    by_outsider : (o : Option ℕ) → outsider_with heal s certified me round ≡ o → option_or o (partner t s certified me (plain_round heal s round)) ≡ Some p → is_listed (other_numbers certified me) p ≡ true
    by_outsider None is h = partner-listed t s certified me (plain_round heal s round) p known h
    by_outsider (Some v) is h = outsider-listed heal s certified me round p (is ∙ h)

pub partner_with-none : (heal : Option Heal) (t : ℕ) (s : State) (certified : List ℕ) (me round : ℕ) → IsKnown s certified → (partner_with heal t s certified me round ≡ None) ↔ (other_numbers certified me ≡ [])
partner_with-none heal t s certified me round known =
    (λ e. plain.0 (alone (outsider_with heal s certified me round) e), λ none. by_outsider none (outsider_with heal s certified me round) refl)
  where
    plain : (partner t s certified me (plain_round heal s round) ≡ None) ↔ (other_numbers certified me ≡ [])
    plain = partner-none t s certified me (plain_round heal s round) known

    alone : (o : Option ℕ) → option_or o (partner t s certified me (plain_round heal s round)) ≡ None → partner t s certified me (plain_round heal s round) ≡ None
    alone None h = h
    alone (Some v) h = absurd (cc)

    by_outsider : other_numbers certified me ≡ [] → (o : Option ℕ) → outsider_with heal s certified me round ≡ o → option_or o (partner t s certified me (plain_round heal s round)) ≡ None
    by_outsider none None is = plain.1 none
    by_outsider none (Some v) is = absurd (true≢false (sym (outsider-listed heal s certified me round v is) ∙ ap (λ ns. is_listed ns v) none))
