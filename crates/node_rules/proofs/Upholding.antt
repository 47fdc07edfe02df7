-- What a correct node holds throughout its life: each record under its own key, verified by its author's; the newest
-- note of each member; and a certificate of exactly those who have joined.
use Rattle.std.proofs.Common.{◌≡◌, ◌⊎◌, ℕ, Bool, true, false, not, eqb, cond, inl, inr, List, [], ◌∷◌, ◌++◌, Option, Some, None, is_some, refl, ap, sym, ◌∙◌, subst, map, eq-eqb}
use Rattle.std.specs.Prelude.{◌||◌, fold, option_map}
use Rattle.std.specs.List.{AllByRecursion}
use Rattle.std.specs.Option.{option_and_then}
use Rattle.std.specs.Ordering.{eq_by_cmp}
use Rattle.std.specs.declared.cmp.Ordering.{Ordering}
use Rattle.std.specs.declared.cmp.Ordering.TheVariants.{Less, Equal, Greater}
use Rattle.std.proofs.lemmas.Bool.{cond_both, cases_Bool, eqb-true, false≢true, not-false}
use Rattle.ff_ids.specs.declared.AccBody.{AccBody}
use Rattle.ff_ids.specs.declared.NoteBody.{NoteBody}
use Rattle.ff_ids.specs.declared.RingNo.{RingNo}
use Rattle.ff_ids.specs.declared.Group.{Group}
use Rattle.ff_ids.specs.declared.Fault.{Fault}
use Rattle.ff_ids.specs.declared.Fault.TheVariants as faults
use Rattle.ff_ids.specs.declared.summary.RecordKey.{RecordKey}
use Rattle.ff_ids.specs.declared.summary.RecordKey.TheVariants as keys
use Rattle.ff_ids.specs.Heals.{Heal}
use Rattle.ff_ids.specs.Masks.{note_mask}
use Rattle.ff_ids.specs.Notes.{note_cmp, greater_note, newest}
use Rattle.ff_ids.specs.Views.{State, is_member}
use Rattle.ff_ids.specs.Faults.{note_fault, fault_after, fault_beside, accusation_fault}
use Rattle.ff_ids.proofs.FaultLemmas.{passed}
use Rattle.ff_ids.specs.Steps.{Event, Joins, Accuses, Ticks, Report, Stepped, joined, after_note, after_accusation, unchanged, unless_fault, step}
use Rattle.records.specs.declared.CertBody.{CertBody}
use Rattle.records.specs.declared.Body.{Body}
use Rattle.records.specs.declared.Body.TheVariants.{Certificate, Note, Accusation}
use Rattle.records.specs.declared.Record.{Record}
use Rattle.record_set.specs.Held.{key_cmp, key_of}
use Rattle.record_set.specs.Pages.{note_of_body}
use Rattle.record_set.proofs.KeyLemmas.{is_key-true, is_key-same, is_key-other}
use Rattle.node_rules.specs.Nodes.{Setting, Node, Holding, state_of, event_of, with_record, without, retired, moved, retires, without_removal, key_of_accusation, certificate_in, certificate_of, is_certified, public_key_of}
use Rattle.node_rules.specs.Pages.{note_held}
use Rattle.node_rules.specs.Calls.{Call, lives, takes}
use Rattle.node_rules.specs.OneExchange.{IsFiled, IsSignedBy}
use Rattle.node_rules.proofs.Small.{state_of-lives, state-takes}
use Rattle.node_rules.proofs.Growth.{held-lives, held-takes, certificate-takes}

-- ---- what a step leaves of notes and members

-- The note is accepted: it is a member's, it may carry its mask, and it is greater than the newest.
pub record IsAccepted (t : ℕ) (st : State) (n : NoteBody) : Type 0 where
  pub member : is_member st n.member ≡ true
  pub allowed : note_mask t n.mask.0 ≡ true
  pub after : fault_after (newest st.notes n.member) n ≡ None

pub accepted-from : (t : ℕ) (st : State) (n : NoteBody) → note_fault t st n ≡ None → IsAccepted t st n
accepted-from t st n fine =
    let joined = passed (not (is_member st n.member)) faults.UnknownMember _ fine in
    let allowed = passed (not (note_mask t n.mask.0)) faults.BadMask _ joined.1 in
    record { member = not-false _ joined.0; allowed = not-false _ allowed.0; after = allowed.1 }

greater-beside : (n kept : NoteBody) (o : Ordering) → note_cmp n kept ≡ o → fault_beside kept o ≡ None → greater_note n (Some kept) ≡ n
greater-beside n kept Less e h = cc
greater-beside n kept Equal e h = cc
greater-beside n kept Greater e h = rw e refl

pub greater-accepted : (n : NoteBody) (o : Option NoteBody) → fault_after o n ≡ None → greater_note n o ≡ n
greater-accepted n None h = refl
greater-accepted n (Some kept) h = greater-beside n kept (note_cmp n kept) refl h

-- The two states have the same notes and the same members.
pub record IsSame (st next : State) : Type 0 where
  pub notes : next.notes ≡ st.notes
  pub member : (m : ℕ) → is_member next m ≡ is_member st m

same-itself : (st : State) → IsSame st st
same-itself st = record { notes = refl; member = λ m. refl }

same-unless : (st : State) (fault : Option Fault) (next : Stepped) → IsSame st next.state → IsSame st (unless_fault fault st next).state
same-unless st (Some fault) next h = same-itself st
same-unless st None next h = h

accuses-same : (g : Group) (st : State) (a : AccBody) → IsSame st (step g st (Accuses a)).state
accuses-same g st a = same-unless st (accusation_fault g.t st a) (unchanged (after_accusation st a)) (record { notes = refl; member = λ m. refl })

ticks-same : (g : Group) (st : State) → IsSame st (step g st Ticks).state
ticks-same g st = record { notes = refl; member = λ m. refl }

-- A member more, or the same.
pub record IsJoined (st next : State) (number : ℕ) : Type 0 where
  pub notes : next.notes ≡ st.notes
  pub member : (m : ℕ) → is_member next m ≡ cond (eqb number m) true (is_member st m)

pub joins-member : (g : Group) (st : State) (number : ℕ) (places : List (List ℕ)) → IsJoined st (step g st (Joins number places)).state number
joins-member g st number places =
    cond_both (is_member st number) (unchanged st) (unchanged (joined st number places)) (λ x. IsJoined st x.state number)
    (λ old. record { notes = refl; member = λ m. already m old })
    (λ new. record { notes = refl; member = λ m. or_cond (eqb number m) (is_member st m) })
  where
    or_cond : (b o : Bool) → (b || o) ≡ cond b true o
    or_cond true o = refl
    or_cond false o = refl

    already : (m : ℕ) → is_member st number ≡ true → is_member st m ≡ cond (eqb number m) true (is_member st m)
    already m old =
        elim (cases_Bool (eqb number m)) [
          | inl same ↦ rw same (sym (ap (is_member st) (eqb-true number m same)) ∙ old)
          | inr other ↦ rw other refl
        ]

-- ---- what is held under a key

pub some_is : {X : Type 0} (x y : X) → Some x ≡ Some y → x ≡ y
some_is x y e = cc

pub none_some : {X : Type 0} (x : X) → None ≡ Some x → ⊥
none_some x e = cc

kept-without : (held : Holding) (gone k : RecordKey) (r : Record) → without held gone k ≡ Some r → held k ≡ Some r
kept-without held gone k r h =
    elim (cases_Bool (eq_by_cmp key_cmp k gone)) [
      | inl same ↦ absurd (none_some r (sym (ap (λ b. cond b None (held k)) same) ∙ h))
      | inr apart ↦ sym (ap (λ b. cond b None (held k)) apart) ∙ h
    ]

pub kept-without_all : (gone : List AccBody) (held : Holding) (k : RecordKey) (r : Record) → fold without held (map key_of_accusation gone) k ≡ Some r → held k ≡ Some r
kept-without_all [] held k r h = h
kept-without_all (a ∷ gone) held k r h = kept-without held (key_of_accusation a) k r (kept-without_all gone (without held (key_of_accusation a)) k r h)

kept-without_removal : (b : Body) (held : Holding) (k : RecordKey) (r : Record) → without_removal b held k ≡ Some r → held k ≡ Some r
kept-without_removal (Certificate c) held k r h = h
kept-without_removal (Note n) held k r h = kept-without held (keys.Removal n.member) k r h
kept-without_removal (Accusation a) held k r h = h

-- The record was held, under this key or another.
abbrev pub WasHeld : Holding → Record → Type 0
WasHeld held r = (k : RecordKey) × (held k ≡ Some r)

was-retired : (held : Holding) (a : AccBody) (k : RecordKey) (r : Record) → retired held a k ≡ Some r → WasHeld held r
was-retired held a k r h =
    elim (cases_Bool (eq_by_cmp key_cmp k (keys.Removal a.accused))) [
      | inl same ↦ (key_of_accusation a, sym (ap (λ b. cond b (held (key_of_accusation a)) (held k)) same) ∙ h)
      | inr apart ↦ (k, sym (ap (λ b. cond b (held (key_of_accusation a)) (held k)) apart) ∙ h)
    ]

was-moved : (gone : List AccBody) (held : Holding) (k : RecordKey) (r : Record) → fold moved held gone k ≡ Some r → WasHeld held r
was-moved [] held k r h = (k, h)
was-moved (a ∷ gone) held k r h =
    let w = was-moved gone (moved held a) k r h in
    was-retired held a w.0 r (kept-without (retired held a) (key_of_accusation a) w.0 r w.1)

was-retires : (heal : Option Heal) (rep : Report) (held : Holding) (k : RecordKey) (r : Record) → retires heal rep held k ≡ Some r → WasHeld held r
was-retires None rep held k r h = (k, h)
was-retires (Some heal) rep held k r h = was-moved rep.expired held k r h

pub was-lives : (s : Setting) (e : Event) (c : Call) (k : RecordKey) (r : Record) → (lives s e c).node.held k ≡ Some r → WasHeld c.node.held r
unfolding lives
was-lives s e c k r h =
    let rep : Report = (step s.group (state_of s c.node) e).report in
    was-retires s.heal rep c.node.held k r (kept-without_all (rep.expired ++ rep.fell) (retires s.heal rep c.node.held) k r h)

pub was-takes : (s : Setting) (r : Record) (c : Call) (k : RecordKey) (x : Record) → (takes s r c).node.held k ≡ Some x → (r ≡ x) ⊎ WasHeld c.node.held x
unfolding takes
was-takes s r c k x h =
    let before : Holding = (lives s (event_of s r.body) c).node.held in
    let left : Holding = without_removal r.body before in
    elim (cases_Bool (eq_by_cmp key_cmp k (key_of r.body))) [
      | inl same ↦ inl (some_is r x (sym (ap (λ b. cond b (Some r) (left k)) same) ∙ h))
      | inr apart ↦ inr (was-lives s (event_of s r.body) c k x (kept-without_removal r.body before k x (sym (ap (λ b. cond b (Some r) (left k)) apart) ∙ h)))
    ]

-- ---- each record has its place

abbrev pub AreFiled : Holding → Type 0
AreFiled held = (k : RecordKey) (r : Record) → held k ≡ Some r → IsFiled r.body k

-- what has the key of an accusation accuses
accuses-filed : (b : Body) (a : AccBody) → key_of b ≡ key_of_accusation a → IsFiled b (keys.Removal a.accused)
accuses-filed (Certificate c) a e = cc
accuses-filed (Note n) a e = cc
accuses-filed (Accusation x) a e = (x, (refl, same x.accused x.ring e))
  where
    same : (m : ℕ) (ring : RingNo) → keys.Accusation m ring ≡ keys.Accusation a.accused a.ring → m ≡ a.accused
    same m ring e = cc

filed-retired : (held : Holding) (a : AccBody) → AreFiled held → AreFiled (retired held a)
filed-retired held a filed =
    λ k r h.
    elim (cases_Bool (eq_by_cmp key_cmp k (keys.Removal a.accused))) [
      | inl same ↦
          let there : held (key_of_accusation a) ≡ Some r = sym (ap (λ b. cond b (held (key_of_accusation a)) (held k)) same) ∙ h in
          subst (IsFiled r.body) (sym (is_key-true k (keys.Removal a.accused) same)) (accuses-filed r.body a (filed (key_of_accusation a) r there))
      | inr apart ↦ filed k r (sym (ap (λ b. cond b (held (key_of_accusation a)) (held k)) apart) ∙ h)
    ]

filed-moved : (gone : List AccBody) (held : Holding) → AreFiled held → AreFiled (fold moved held gone)
filed-moved [] held filed = filed
filed-moved (a ∷ gone) held filed =
    filed-moved gone (moved held a) (λ k r h. filed-retired held a filed k r (kept-without (retired held a) (key_of_accusation a) k r h))

filed-retires : (heal : Option Heal) (rep : Report) (held : Holding) → AreFiled held → AreFiled (retires heal rep held)
filed-retires None rep held filed = filed
filed-retires (Some heal) rep held filed = filed-moved rep.expired held filed

filed-lives : (s : Setting) (e : Event) (c : Call) → AreFiled c.node.held → AreFiled (lives s e c).node.held
unfolding lives
filed-lives s e c filed =
    let rep : Report = (step s.group (state_of s c.node) e).report in
    λ k r h. filed-retires s.heal rep c.node.held filed k r (kept-without_all (rep.expired ++ rep.fell) (retires s.heal rep c.node.held) k r h)

filed-own : (b : Body) → IsFiled b (key_of b)
filed-own (Certificate c) = refl
filed-own (Note n) = refl
filed-own (Accusation a) = refl

filed-with : (r : Record) (held : Holding) → AreFiled held → AreFiled (with_record r held)
filed-with r held filed =
    λ k x h.
    elim (cases_Bool (eq_by_cmp key_cmp k (key_of r.body))) [
      | inl same ↦
          let this : r ≡ x = some_is r x (sym (ap (λ b. cond b (Some r) (held k)) same) ∙ h) in
          subst (λ (y : Record). IsFiled y.body k) this (subst (IsFiled r.body) (sym (is_key-true k (key_of r.body) same)) (filed-own r.body))
      | inr apart ↦ filed k x (sym (ap (λ b. cond b (Some r) (held k)) apart) ∙ h)
    ]

filed-takes : (s : Setting) (r : Record) (c : Call) → AreFiled c.node.held → AreFiled (takes s r c).node.held
unfolding takes
filed-takes s r c filed =
    let before : Holding = (lives s (event_of s r.body) c).node.held in
    filed-with r (without_removal r.body before) (λ k x h. filed-lives s (event_of s r.body) c filed k x (kept-without_removal r.body before k x h))

-- a certificate is held under its own key alone
pub certificate-filed : (b : Body) (c : CertBody) (k : RecordKey) → b ≡ Certificate c → IsFiled b k → k ≡ keys.Certificate c.member
certificate-filed b c (keys.Certificate m) is filed = sym filed ∙ ap key_of is
certificate-filed b c (keys.Note m) is filed = sym filed ∙ ap key_of is
certificate-filed b c (keys.Accusation m ring) is filed = sym filed ∙ ap key_of is
certificate-filed b c (keys.Removal m) is filed = absurd (other c filed.0 (sym is ∙ filed.1.0))
  where
    other : (c : CertBody) (a : AccBody) → Certificate c ≡ Accusation a → ⊥
    other c a e = cc

tell-certificate : (m n : ℕ) → eq_by_cmp key_cmp (keys.Certificate m) (keys.Certificate n) ≡ eqb n m
tell-certificate m n =
    elim (cases_Bool (eqb n m)) [
      | inl same ↦ subst (λ k. eq_by_cmp key_cmp (keys.Certificate m) (keys.Certificate k) ≡ true) (sym (eqb-true n m same)) (is_key-same (keys.Certificate m)) ∙ sym same
      | inr other ↦ is_key-other (keys.Certificate m) (keys.Certificate n) (λ e. false≢true (sym other ∙ eq-eqb n m (number e))) ∙ sym other
    ]
  where
    number : keys.Certificate m ≡ keys.Certificate n → n ≡ m
    number e = cc

tell-note : (m n : ℕ) → eq_by_cmp key_cmp (keys.Note m) (keys.Note n) ≡ eqb n m
tell-note m n =
    elim (cases_Bool (eqb n m)) [
      | inl same ↦ subst (λ k. eq_by_cmp key_cmp (keys.Note m) (keys.Note k) ≡ true) (sym (eqb-true n m same)) (is_key-same (keys.Note m)) ∙ sym same
      | inr other ↦ is_key-other (keys.Note m) (keys.Note n) (λ e. false≢true (sym other ∙ eq-eqb n m (number e))) ∙ sym other
    ]
  where
    number : keys.Note m ≡ keys.Note n → n ≡ m
    number e = cc

-- what each kind of record does to the places of certificates and notes
pub certificate-certificate : (r : Record) (held : Holding) (x : CertBody) (m : ℕ) → r.body ≡ Certificate x → with_record r held (keys.Certificate m) ≡ cond (eqb x.member m) (Some r) (held (keys.Certificate m))
certificate-certificate r held x m is =
    ap (λ b. cond (eq_by_cmp key_cmp (keys.Certificate m) (key_of b)) (Some r) (held (keys.Certificate m))) is ∙ ap (λ b. cond b (Some r) (held (keys.Certificate m))) (tell-certificate m x.member)

pub certificate-note : (r : Record) (held : Holding) (x : CertBody) (m : ℕ) → r.body ≡ Certificate x → with_record r held (keys.Note m) ≡ held (keys.Note m)
certificate-note r held x m is = ap (λ b. cond (eq_by_cmp key_cmp (keys.Note m) (key_of b)) (Some r) (held (keys.Note m))) is

pub note-certificate : (r : Record) (held : Holding) (x : NoteBody) (m : ℕ) → r.body ≡ Note x → with_record r held (keys.Certificate m) ≡ held (keys.Certificate m)
note-certificate r held x m is = ap (λ b. cond (eq_by_cmp key_cmp (keys.Certificate m) (key_of b)) (Some r) (held (keys.Certificate m))) is

note-note : (r : Record) (held : Holding) (x : NoteBody) (m : ℕ) → r.body ≡ Note x → with_record r held (keys.Note m) ≡ cond (eqb x.member m) (Some r) (held (keys.Note m))
note-note r held x m is =
    ap (λ b. cond (eq_by_cmp key_cmp (keys.Note m) (key_of b)) (Some r) (held (keys.Note m))) is ∙ ap (λ b. cond b (Some r) (held (keys.Note m))) (tell-note m x.member)

pub accusation-certificate : (r : Record) (held : Holding) (a : AccBody) (m : ℕ) → r.body ≡ Accusation a → with_record r held (keys.Certificate m) ≡ held (keys.Certificate m)
accusation-certificate r held a m is = ap (λ b. cond (eq_by_cmp key_cmp (keys.Certificate m) (key_of b)) (Some r) (held (keys.Certificate m))) is

accusation-note : (r : Record) (held : Holding) (a : AccBody) (m : ℕ) → r.body ≡ Accusation a → with_record r held (keys.Note m) ≡ held (keys.Note m)
accusation-note r held a m is = ap (λ b. cond (eq_by_cmp key_cmp (keys.Note m) (key_of b)) (Some r) (held (keys.Note m))) is

-- ---- what is upheld

abbrev pub AreAllowed : ℕ → List NoteBody → Type 0
AreAllowed t notes = AllByRecursion (λ n. note_mask t n.mask.0 ≡ true) notes

pub record Upholds (s : Setting) (n : Node) : Type 0 where
  pub filed : AreFiled n.held
  pub notes : (m : ℕ) → note_held n.held m ≡ newest (state_of s n).notes m
  pub members : (m : ℕ) → is_certified n m ≡ is_member (state_of s n) m
  pub certificates : (m : ℕ) (r : Record) → n.held (keys.Certificate m) ≡ Some r → s.verifies s.authority r ≡ true
  pub signed : (m : ℕ) (r : Record) → n.held (keys.Note m) ≡ Some r → IsSignedBy s n m r
  pub allowed : AreAllowed s.group.t (state_of s n).notes

-- Why a record may be taken.
abbrev pub MayTake : Setting → Node → Record → Body → Type 0
MayTake s n r (Certificate x) = (s.verifies s.authority r ≡ true) × (n.held (keys.Note x.member) ≡ None)
MayTake s n r (Note x) = (note_fault s.group.t (state_of s n) x ≡ None) × IsSignedBy s n x.member r
MayTake s n r (Accusation a) = Unit {0}

-- The places of certificates and notes are as they were, and so are notes and members.
upholds-same : (s : Setting) (n later : Node) → AreFiled later.held → IsSame (state_of s n) (state_of s later)
    → ((m : ℕ) → later.held (keys.Certificate m) ≡ n.held (keys.Certificate m)) → ((m : ℕ) → later.held (keys.Note m) ≡ n.held (keys.Note m)) → Upholds s n → Upholds s later
unfolding certificate_of
upholds-same s n later filed same certificates notes h =
    record {
      filed = filed;
      notes = λ m. ap (option_and_then (λ r. note_of_body r.body)) (notes m) ∙ h.notes m ∙ sym (ap (λ xs. newest xs m) same.notes);
      members = λ m. ap (λ o. is_some (option_and_then (λ r. certificate_in r.body) o)) (certificates m) ∙ h.members m ∙ sym (same.member m);
      certificates = λ m r is. h.certificates m r (sym (certificates m) ∙ is);
      signed = λ m r is.
          let k = h.signed m r (sym (notes m) ∙ is) in
          record { key = k.key; author_is = ap (λ o. option_map (λ c. c.key) (option_and_then (λ r. certificate_in r.body) o)) (certificates m) ∙ k.author_is; verifies = k.verifies };
      allowed = subst (AreAllowed s.group.t) (sym same.notes) h.allowed;
    }

upholds-accusation : (s : Setting) (r : Record) (a : AccBody) (c : Call) → r.body ≡ Accusation a → Upholds s c.node → Upholds s (takes s r c).node
upholds-accusation s r a c is h =
    let st = state_of s c.node in
    let at = state-takes s r c ∙ ap (λ b. (step s.group st (event_of s b)).state) is in
    upholds-same s c.node (takes s r c).node (filed-takes s r c h.filed) (subst (IsSame st) (sym at) (accuses-same s.group st a))
    (λ m. held-takes s r c (keys.Certificate m) tt ∙ accusation-certificate r c.node.held a m is)
    (λ m. held-takes s r c (keys.Note m) tt ∙ accusation-note r c.node.held a m is)
    h

pub upholds-ticks : (s : Setting) (c : Call) → Upholds s c.node → Upholds s (lives s Ticks c).node
upholds-ticks s c h =
    let st = state_of s c.node in
    upholds-same s c.node (lives s Ticks c).node (filed-lives s Ticks c h.filed) (subst (IsSame st) (sym (state_of-lives s Ticks c)) (ticks-same s.group st))
    (λ m. held-lives s Ticks c (keys.Certificate m) tt) (λ m. held-lives s Ticks c (keys.Note m) tt) h

-- ---- a certificate

pub chosen-member : (b : Bool) (r : Record) (x : CertBody) (o : Option Record) (old : Bool) → r.body ≡ Certificate x → is_some (option_and_then (λ y. certificate_in y.body) o) ≡ old
    → is_some (option_and_then (λ y. certificate_in y.body) (cond b (Some r) o)) ≡ cond b true old
chosen-member true r x o old is h = ap (λ y. is_some (certificate_in y)) is
chosen-member false r x o old is h = h

chosen-record : (b : Bool) (r x : Record) (o : Option Record) (P : Record → Type 0) → P r → ((y : Record) → o ≡ Some y → P y) → cond b (Some r) o ≡ Some x → P x
chosen-record true r x o P here there e = subst P (some_is r x e) here
chosen-record false r x o P here there e = there x e

upholds-certificate : (s : Setting) (r : Record) (x : CertBody) (c : Call) → r.body ≡ Certificate x → s.verifies s.authority r ≡ true → c.node.held (keys.Note x.member) ≡ None → Upholds s c.node → Upholds s (takes s r c).node
unfolding certificate_of
upholds-certificate s r x c is verifies free h =
    let n : Node = c.node in
    let st = state_of s n in
    let at = state-takes s r c ∙ ap (λ b. (step s.group st (event_of s b)).state) is in
    let joins : IsJoined st (state_of s (takes s r c).node) x.member = subst (λ y. IsJoined st y x.member) (sym at) (joins-member s.group st x.member (s.places x.member)) in
    let certificates : (m : ℕ) → (takes s r c).node.held (keys.Certificate m) ≡ cond (eqb x.member m) (Some r) (n.held (keys.Certificate m)) =
    λ m. held-takes s r c (keys.Certificate m) tt ∙ certificate-certificate r n.held x m is in
    let notes : (m : ℕ) → (takes s r c).node.held (keys.Note m) ≡ n.held (keys.Note m) = λ m. held-takes s r c (keys.Note m) tt ∙ certificate-note r n.held x m is in
    record {
      filed = filed-takes s r c h.filed;
      notes = λ m. ap (option_and_then (λ r. note_of_body r.body)) (notes m) ∙ h.notes m ∙ sym (ap (λ xs. newest xs m) joins.notes);
      members = λ m.
          ap (λ o. is_some (option_and_then (λ r. certificate_in r.body) o)) (certificates m)
          ∙ chosen-member (eqb x.member m) r x (n.held (keys.Certificate m)) (is_member st m) is (h.members m) ∙ sym (joins.member m);
      certificates = λ m y e. chosen-record (eqb x.member m) r y (n.held (keys.Certificate m)) (λ z. s.verifies s.authority z ≡ true) verifies (h.certificates m) (sym (certificates m) ∙ e);
      signed = λ m y e.
          let k = h.signed m y (sym (notes m) ∙ e) in
          let other : x.member ≡ m → ⊥ = λ who. none_some y (sym (ap (λ k. n.held (keys.Note k)) (sym who) ∙ free) ∙ sym (notes m) ∙ e) in
          record { key = k.key; author_is = ap (option_map (λ c. c.key)) (certificate-takes s r c m (λ z body who. other (ap (λ (q : CertBody). q.member) (certificate_is x z (sym is ∙ body)) ∙ who))) ∙ k.author_is; verifies = k.verifies };
      allowed = subst (AreAllowed s.group.t) (sym joins.notes) h.allowed;
    }
  where
    certificate_is : (x z : CertBody) → Certificate x ≡ Certificate z → x ≡ z
    certificate_is x z e = cc

-- ---- a note

pub unless-none : (fault : Option Fault) (st : State) (next : Stepped) → fault ≡ None → unless_fault fault st next ≡ next
unless-none fault st next h = rw h refl

chosen-note : (b : Bool) (r : Record) (x kept : NoteBody) (o : Option Record) (old : Option NoteBody) → r.body ≡ Note x → (b ≡ true → kept ≡ x) → option_and_then (λ y. note_of_body y.body) o ≡ old
    → option_and_then (λ y. note_of_body y.body) (cond b (Some r) o) ≡ cond b (Some kept) old
chosen-note true r x kept o old is here h = ap note_of_body is ∙ ap (λ y. Some y) (sym (here refl))
chosen-note false r x kept o old is here h = h

upholds-note : (s : Setting) (r : Record) (x : NoteBody) (c : Call) → r.body ≡ Note x → note_fault s.group.t (state_of s c.node) x ≡ None → IsSignedBy s c.node x.member r → Upholds s c.node → Upholds s (takes s r c).node
unfolding certificate_of
upholds-note s r x c is fine by h =
    let n : Node = c.node in
    let st = state_of s n in
    let accepted = accepted-from s.group.t st x fine in
    let at : state_of s (takes s r c).node ≡ (after_note st x).state =
    state-takes s r c ∙ ap (λ b. (step s.group st (event_of s b)).state) is ∙ ap (λ (y : Stepped). y.state) (unless-none (note_fault s.group.t st x) st (after_note st x) fine) in
    let certificates : (m : ℕ) → (takes s r c).node.held (keys.Certificate m) ≡ n.held (keys.Certificate m) = λ m. held-takes s r c (keys.Certificate m) tt ∙ note-certificate r n.held x m is in
    let notes : (m : ℕ) → (takes s r c).node.held (keys.Note m) ≡ cond (eqb x.member m) (Some r) (n.held (keys.Note m)) = λ m. held-takes s r c (keys.Note m) tt ∙ note-note r n.held x m is in
    let key_is : (m : ℕ) → public_key_of (takes s r c).node m ≡ public_key_of n m = λ m. ap (λ o. option_map (λ c. c.key) (option_and_then (λ r. certificate_in r.body) o)) (certificates m) in
    let stays : (m : ℕ) (y : Record) → IsSignedBy s n m y → IsSignedBy s (takes s r c).node m y = λ m y k. record { key = k.key; author_is = key_is m ∙ k.author_is; verifies = k.verifies } in
    record {
      filed = filed-takes s r c h.filed;
      notes = λ m.
          ap (option_and_then (λ r. note_of_body r.body)) (notes m)
          ∙ chosen-note (eqb x.member m) r x (greater_note x (newest st.notes m)) (n.held (keys.Note m)) (newest st.notes m) is
          (λ same. greater-accepted x (newest st.notes m) (ap (λ k. fault_after (newest st.notes k) x) (sym (eqb-true x.member m same)) ∙ accepted.after)) (h.notes m)
          ∙ sym (ap (λ (y : State). newest y.notes m) at);
      members = λ m. ap (λ o. is_some (option_and_then (λ r. certificate_in r.body) o)) (certificates m) ∙ h.members m ∙ sym (ap (λ y. is_member y m) at);
      certificates = λ m y e. h.certificates m y (sym (certificates m) ∙ e);
      signed = λ m y e. by_place m y (stays m) (sym (notes m) ∙ e);
      allowed = subst (λ (y : State). AreAllowed s.group.t y.notes) (sym at) (accepted.allowed, h.allowed);
    }
  where
    by_place : (m : ℕ) (y : Record) → ((z : Record) → IsSignedBy s c.node m z → IsSignedBy s (takes s r c).node m z) → cond (eqb x.member m) (Some r) (c.node.held (keys.Note m)) ≡ Some y → IsSignedBy s (takes s r c).node m y
    by_place m y stays e =
        elim (cases_Bool (eqb x.member m)) [
          | inl same ↦
              let this : r ≡ y = some_is r y (sym (ap (λ b. cond b (Some r) (c.node.held (keys.Note m))) same) ∙ e) in
              subst (IsSignedBy s (takes s r c).node m) this (stays r (subst (λ k. IsSignedBy s c.node k r) (eqb-true x.member m same) by))
          | inr other ↦ stays y (h.signed m y (sym (ap (λ b. cond b (Some r) (c.node.held (keys.Note m))) other) ∙ e))
        ]

pub upholds-takes : (s : Setting) (r : Record) (b : Body) (c : Call) → r.body ≡ b → MayTake s c.node r b → Upholds s c.node → Upholds s (takes s r c).node
upholds-takes s r (Certificate x) c is may h = upholds-certificate s r x c is may.0 may.1 h
upholds-takes s r (Note x) c is may h = upholds-note s r x c is may.0 may.1 h
upholds-takes s r (Accusation a) c is may h = upholds-accusation s r a c is h
