-- The own key of a life, and the indexes that it spends.
use Rattle.std.proofs.Common.{◌≡◌, ℕ, true, false, inl, inr, List, Option, None, [], ◌∷◌, ◌++◌, Some, refl, ap, sym, ◌∙◌, subst, map, arith, ◌⊎◌, ◌+◌, ◌<◌, ◌≤◌}
use Rattle.std.specs.Prelude.{fold, option_map}
use Rattle.std.specs.List.{AllByRecursion, list_any}
use Rattle.std.specs.Option.{option_and_then}
use Rattle.std.specs.Ordering.{eq_by_cmp}
use Rattle.std.proofs.lemmas.Bool.{cases_Bool, eqb-true}
use Rattle.std.proofs.lemmas.Bool.Decides.{nat_tests}
use Rattle.ff_ids.specs.declared.AccBody.{AccBody}
use Rattle.ff_ids.specs.Heals.{Heal}
use Rattle.ff_ids.specs.declared.summary.RecordKey.TheVariants as keys
use Rattle.ff_ids.specs.Steps.{Event, Ticks, Report, step}
use Rattle.records.specs.declared.keys.Key.{Key}
use Rattle.records.specs.declared.CertBody.{CertBody}
use Rattle.records.specs.declared.Body.{Body}
use Rattle.records.specs.declared.Body.TheVariants.{Certificate, Note, Accusation}
use Rattle.records.specs.declared.Record.{Record}
use Rattle.epoch_store.specs.declared.Stored.{Stored}
use Rattle.datagram.specs.declared.Datagram.{Datagram}
use Rattle.record_set.specs.Held.{key_cmp}
use Rattle.node_rules.specs.Nodes.{Setting, Node, Holding, state_of, event_of, with_record, without, without_ended, retires, without_removal, key_of_accusation, certificate_in, certificate_of, public_key_of}
use Rattle.signer.specs.Signing.{stored_after}
use Rattle.node_rules.specs.Calls.{Call, begun, lives, takes, spends, signs, sends, own_record, is_used_up}
use Rattle.node_rules.specs.Deliveries.{answer_to, returning_note}
use Rattle.node_rules.specs.Refusals.{refusal, refusal_of}
use Rattle.detector.specs.Silence.{History}
use Rattle.node_rules.specs.Starting.{blank, opened, started, first_note}
use Rattle.node_rules.specs.Leaving.{leaving}
use Rattle.node_rules.specs.Lives.{is_certificate_for, Input, call_of, after_calls}
use Rattle.node_rules.specs.Vouching.{IsCertifiedBy}
use Rattle.node_rules.proofs.OwnNote.{option_or-none, or-second, stored-lives}
use Rattle.node_rules.proofs.Small.{stored-takes, stored-signs}
use Rattle.node_rules.proofs.Retiring.{retires-plain}
use Rattle.node_rules.proofs.Keeping.{Keeps, keeps-call}

-- ---- certificates that stay

-- The keys of the first are those of the second.
abbrev pub Stay : Node → Node → Type 0
Stay n m = (k : ℕ) (key : Key) → public_key_of n k ≡ Some key → public_key_of m k ≡ Some key

-- ---- what is held

fold-without : (gone : List AccBody) (held : Holding) (m : ℕ) → fold without held (map key_of_accusation gone) (keys.Certificate m) ≡ held (keys.Certificate m)
fold-without [] held m = refl
fold-without (a ∷ gone) held m = fold-without gone (without held (key_of_accusation a)) m

pub ended-certificate : (heal : Option Heal) (r : Report) (held : Holding) (m : ℕ) → without_ended r (retires heal r held) (keys.Certificate m) ≡ held (keys.Certificate m)
ended-certificate heal r held m = retires-plain heal r held (keys.Certificate m) tt ∙ fold-without (r.expired ++ r.fell) held m

pub removal-certificate : (b : Body) (held : Holding) (m : ℕ) → without_removal b held (keys.Certificate m) ≡ held (keys.Certificate m)
removal-certificate (Certificate c) held m = refl
removal-certificate (Note n) held m = refl
removal-certificate (Accusation a) held m = refl

same_number : (a b : ℕ) → eq_by_cmp key_cmp (keys.Certificate a) (keys.Certificate b) ≡ true → a ≡ b
same_number a b h = grind (arith, nat_tests, h)

pub certificate-with : (r : Record) (held : Holding) (b : Body) (m : ℕ) (key : Key) → r.body ≡ b
    → ((c : CertBody) → b ≡ Certificate c → c.member ≡ m → ⊥)
    → option_map (λ c. c.key) (option_and_then (λ x. certificate_in x.body) (held (keys.Certificate m))) ≡ Some key
    → option_map (λ c. c.key) (option_and_then (λ x. certificate_in x.body) (with_record r held (keys.Certificate m))) ≡ Some key
certificate-with r held (Note note) m key is free h = rw is h
certificate-with r held (Accusation a) m key is free h = rw is h
certificate-with r held (Certificate c) m key is free h =
    elim (cases_Bool (eq_by_cmp key_cmp (keys.Certificate m) (keys.Certificate c.member))) [
      | inl same ↦ absurd (free c refl (sym (same_number m c.member same)))
      | inr apart ↦ rw (is, apart) h
    ]

-- ---- steps

map-none : {X Y : Type 0} (f : X → Y) (o : Option X) → option_map f o ≡ None → o ≡ None
map-none f None h = refl
map-none f (Some x) h = cc

none-some : {X Y : Type 0} (f : X → Y) (o : Option X) (y : Y) → o ≡ None → option_map f o ≡ Some y → ⊥
none-some f o y none some = cc

not_kept : (s : Setting) (n : Node) (r : Record) (c : CertBody) (k : ℕ) (key : Key) → refusal s n r ≡ None → public_key_of n k ≡ Some key → r.body ≡ Certificate c → c.member ≡ k → ⊥
unfolding refusal
not_kept s n r c k key fine some is who =
    let fine2 : refusal_of s n r (Certificate c) ≡ None = sym (ap (refusal_of s n r) is) ∙ fine in
    let none : certificate_of n c.member ≡ None = map-none _ (certificate_of n c.member) (option_or-none _ _ fine2).0 in
    none-some (λ x. x.key) (certificate_of n k) key (sym (ap (certificate_of n) who) ∙ none) some

abbrev key_held : Holding → ℕ → Option Key
key_held held m = option_map (λ c. c.key) (option_and_then (λ x. certificate_in x.body) (held (keys.Certificate m)))

ended-key : (heal : Option Heal) (r : Report) (held : Holding) (m : ℕ) → key_held (without_ended r (retires heal r held)) m ≡ key_held held m
ended-key heal r held m = ap (λ o. option_map (λ c. c.key) (option_and_then (λ x. certificate_in x.body) o)) (ended-certificate heal r held m)

-- before a record is put
left-key : (heal : Option Heal) (r : Report) (b : Body) (held : Holding) (m : ℕ) → key_held (without_removal b (without_ended r (retires heal r held))) m ≡ key_held held m
left-key heal r b held m =
    ap (λ o. option_map (λ c. c.key) (option_and_then (λ x. certificate_in x.body) o)) (removal-certificate b (without_ended r (retires heal r held)) m)
    ∙ ended-key heal r held m

stay-takes : (s : Setting) (r : Record) (c : Call) → ((x : CertBody) (k : ℕ) (key : Key) → public_key_of c.node k ≡ Some key → r.body ≡ Certificate x → x.member ≡ k → ⊥) → Stay c.node (takes s r c).node
unfolding takes lives certificate_of
stay-takes s r c free = λ k key h.
    let rep : Report = (step s.group (state_of s c.node) (event_of s r.body)).report in
    let left : Holding = without_removal r.body (without_ended rep (retires s.heal rep c.node.held)) in
    certificate-with r left r.body k key refl (λ x is who. free x k key h is who) (left-key s.heal rep r.body c.node.held k ∙ h)

stay-lives : (s : Setting) (e : Event) (c : Call) → Stay c.node (lives s e c).node
unfolding lives certificate_of
stay-lives s e c = λ k key h. ended-key s.heal (step s.group (state_of s c.node) e).report c.node.held k ∙ h

-- The own key is held, and no index is spent that it hasn't.
pub record KeepsKey (s : Setting) (own : Key) (n : Node) : Type 0 where
  pub own_key : public_key_of n s.me ≡ Some own
  pub within : n.stored.next ≤ s.indexes

-- What was held of certificates stays.
more : (s : Setting) (own : Key) (n m : Node) → Stay n m → m.stored ≡ n.stored → KeepsKey s own n → KeepsKey s own m
more s own n m stay same h = record { own_key = stay s.me own h.own_key; within = subst (λ k. k.next ≤ s.indexes) (sym same) h.within }

IsOwnBody : Setting → Body → Type 0
IsOwnBody s (Certificate c) = ⊥
IsOwnBody s (Note note) = note.member ≡ s.me
IsOwnBody s (Accusation a) = a.accuser ≡ s.me

not_own_certificate : (s : Setting) (b : Body) (x : CertBody) → IsOwnBody s b → b ≡ Certificate x → ⊥
unfolding IsOwnBody
not_own_certificate s (Certificate c) x mine is = mine
not_own_certificate s (Note note) x mine is = cc
not_own_certificate s (Accusation a) x mine is = cc

-- an index that is left is one of the key's
index-left : (s : Setting) (n : Node) → is_used_up s n ≡ false → n.stored.next ≤ s.indexes → n.stored.next < s.indexes
index-left s n left within = grind (arith, nat_tests, left, within)

stored_after-next : (stored : Stored) (b : Body) → (stored_after stored b).next ≡ stored.next + 1
stored_after-next stored (Certificate c) = refl
stored_after-next stored (Note note) = refl
stored_after-next stored (Accusation a) = refl

within-spends : (s : Setting) (n : Node) (b : Body) → is_used_up s n ≡ false → n.stored.next ≤ s.indexes → (stored_after n.stored b).next ≤ s.indexes
within-spends s n b left within = omega (arith, stored_after-next n.stored b, index-left s n left within)

key-spends : (s : Setting) (own : Key) (b : Body) (c : Call) → is_used_up s c.node ≡ false → KeepsKey s own c.node → KeepsKey s own (spends s b c).node
unfolding certificate_of
key-spends s own b c left h = record { own_key = h.own_key; within = within-spends s c.node b left h.within }

key-signs : (s : Setting) (own : Key) (b : Body) (c : Call) → IsOwnBody s b → is_used_up s c.node ≡ false → KeepsKey s own c.node → KeepsKey s own (signs s b c).node
unfolding signs
key-signs s own b c mine left h =
    let c1 : Call = spends s b c in
    let r : Record = own_record s c.node b in
    more s own c1.node (takes s r c1).node (stay-takes s r c1 (λ x k key some is who. not_own_certificate s b x mine is)) (stored-takes s r c1) (key-spends s own b c left h)

-- ---- what each call keeps

key-takes : (s : Setting) (own : Key) (r : Record) (c : Call) → refusal s c.node r ≡ None → KeepsKey s own c.node → KeepsKey s own (takes s r c).node
key-takes s own r c fine h = more s own c.node (takes s r c).node (stay-takes s r c (λ x k key some is who. not_kept s c.node r x k key fine some is who)) (stored-takes s r c) h

key-sends : (s : Setting) (own : Key) (d : Datagram) (c : Call) (to : ℕ) → KeepsKey s own c.node → KeepsKey s own (sends s d c to).node
unfolding sends
key-sends s own d c to h = h

key-ticks : (s : Setting) (own : Key) (c : Call) → KeepsKey s own c.node → KeepsKey s own (lives s Ticks c).node
key-ticks s own c h = more s own c.node (lives s Ticks c).node (stay-lives s Ticks c) (stored-lives s Ticks c) h

key-probed : (s : Setting) (own : Key) (n : Node) (p : History) → KeepsKey s own n → KeepsKey s own (record n { probes = p })
unfolding certificate_of
key-probed s own n p h = record { own_key = h.own_key; within = h.within }

key-spanned : (s : Setting) (own : Key) (n : Node) → KeepsKey s own n → KeepsKey s own (record n { since = n.stored.epoch })
unfolding certificate_of
key-spanned s own n h = record { own_key = h.own_key; within = h.within }

key-spread : (s : Setting) (own : Key) (n : Node) → KeepsKey s own n → KeepsKey s own (record n { news = [] })
unfolding certificate_of
key-spread s own n h = record { own_key = h.own_key; within = h.within }

pub keeping-key : (s : Setting) (own : Key) → Keeps s (λ c. KeepsKey s own c.node)
unfolding IsOwnBody
keeping-key s own =
    record {
      told = λ what c other h. h;
      sent = λ d c to h. key-sends s own d c to h;
      taken = λ r c fine h. key-takes s own r c fine h;
      answered = λ r a c fine is me may left h. key-signs s own (answer_to s (takes s r c).node.stored a) (takes s r c) refl left (key-takes s own r c fine h);
      returned = λ r a c asks may left h. key-signs s own (Note (returning_note s c.node.stored)) c refl left h;
      accused = λ a c by left h. key-signs s own (Accusation a) c by left h;
      departed = λ c left h. key-signs s own (leaving s c.node.stored) c refl left h;
      stopped = λ c h. h;
      passed = λ c h. key-ticks s own c h;
      probed = λ p c h. key-probed s own c.node p h;
      spanned = λ c h. key-spanned s own c.node h;
      spread = λ c h. key-spread s own c.node h;
    }

pub key-calls : (s : Setting) (own : Key) (n : Node) (inputs : List Input) → KeepsKey s own n → KeepsKey s own (after_calls s n inputs)
key-calls s own n [] h = h
key-calls s own n (i ∷ inputs) h = key-calls s own (call_of s n i).node inputs (keeps-call s (λ c. KeepsKey s own c.node) (keeping-key s own) n i h)

-- ---- the start

abbrev takes_all : Setting → List Record → Call → Call
takes_all s records c = fold (λ c r. takes s r c) c records

abbrev Certifies : Record → Type 0
Certifies r = (x : CertBody) × (r.body ≡ Certificate x)

key-with : (r : Record) (held : Holding) (x : CertBody) (m : ℕ) (own : Key) → r.body ≡ Certificate x → (x.member ≡ m → x.key ≡ own)
    → (x.member ≡ m) ⊎ (option_map (λ c. c.key) (option_and_then (λ y. certificate_in y.body) (held (keys.Certificate m))) ≡ Some own)
    → option_map (λ c. c.key) (option_and_then (λ y. certificate_in y.body) (with_record r held (keys.Certificate m))) ≡ Some own
key-with r held x m own is mine before =
    elim (cases_Bool (eq_by_cmp key_cmp (keys.Certificate m) (keys.Certificate x.member))) [
      | inl same ↦ rw (is, same) (ap (λ k. Some k) (mine (sym (same_number m x.member same))))
      | inr apart ↦ elim before [
        | inl who ↦ absurd (not_itself m x.member who apart)
        | inr h ↦ rw (is, apart) h
      ]
    ]
  where
    not_itself : (a b : ℕ) → b ≡ a → eq_by_cmp key_cmp (keys.Certificate a) (keys.Certificate b) ≡ false → ⊥
    not_itself a b e apart = grind (arith, nat_tests, e, apart)

own-takes : (s : Setting) (own : Key) (r : Record) (c : Call) (x : CertBody) → r.body ≡ Certificate x → (x.member ≡ s.me → x.key ≡ own) → (x.member ≡ s.me) ⊎ (public_key_of c.node s.me ≡ Some own) → public_key_of (takes s r c).node s.me ≡ Some own
unfolding takes lives certificate_of
own-takes s own r c x is mine before =
    let rep : Report = (step s.group (state_of s c.node) (event_of s r.body)).report in
    let left : Holding = without_removal r.body (without_ended rep (retires s.heal rep c.node.held)) in
    key-with r left x s.me own is mine (elim before [ inl who ↦ inl who | inr h ↦ inr (left-key s.heal rep r.body c.node.held s.me ∙ h) ])

kit-keeps-own : (s : Setting) (own : Key) (records : List Record) (c : Call) → AllByRecursion Certifies records → AllByRecursion (IsCertifiedBy s own) records → public_key_of c.node s.me ≡ Some own → public_key_of (takes_all s records c).node s.me ≡ Some own
kit-keeps-own s own [] c all good h = h
kit-keeps-own s own (r ∷ records) c all good h =
    let x : CertBody = all.0.0 in
    kit-keeps-own s own records (takes s r c) all.1 good.1 (own-takes s own r c x all.0.1 (good.0.1 x all.0.1) (inr h))

kit-has-own : (s : Setting) (own : Key) (records : List Record) (c : Call) → AllByRecursion Certifies records → AllByRecursion (IsCertifiedBy s own) records → list_any (λ r. is_certificate_for s.me r.body) records ≡ true → public_key_of (takes_all s records c).node s.me ≡ Some own
kit-has-own s own [] c all good h = cc
kit-has-own s own (r ∷ records) c all good h =
    let x : CertBody = all.0.0 in
    elim (cases_Bool (is_certificate_for s.me r.body)) [
      | inl mine ↦
          let who : x.member ≡ s.me = eqb-true _ _ (sym (ap (is_certificate_for s.me) all.0.1) ∙ mine) in
          kit-keeps-own s own records (takes s r c) all.1 good.1 (own-takes s own r c x all.0.1 (good.0.1 x all.0.1) (inl who))
      | inr others ↦ kit-has-own s own records (takes s r c) all.1 good.1 (or-second (is_certificate_for s.me r.body) _ h others)
    ]

stored-takes_all : (s : Setting) (records : List Record) (c : Call) → (takes_all s records c).node.stored ≡ c.node.stored
stored-takes_all s [] c = refl
stored-takes_all s (r ∷ records) c = stored-takes_all s records (takes s r c) ∙ stored-takes s r c

pub stored-opened : (s : Setting) (nonces : ℕ → ℕ) (certificates : List Record) (stored : Stored) → (opened s nonces certificates stored).node.stored ≡ stored
stored-opened s nonces certificates stored = stored-takes_all s certificates (begun (blank s nonces stored))

opened-within : (s : Setting) (n : Node) (stored : Stored) → n.stored ≡ stored → stored.next < s.indexes → n.stored.next ≤ s.indexes
opened-within s n stored kept left = omega (arith, ap (λ k. k.next) kept, left)

opened-left : (s : Setting) (n : Node) (stored : Stored) → n.stored ≡ stored → stored.next < s.indexes → is_used_up s n ≡ false
opened-left s n stored kept left = grind (arith, nat_tests, ap (λ k. k.next) kept, left)

-- ---- the indexes that are spent

within-signs : (s : Setting) (b : Body) (c : Call) → is_used_up s c.node ≡ false → c.node.stored.next ≤ s.indexes → (signs s b c).node.stored.next ≤ s.indexes
within-signs s b c left h = subst (λ k. k.next ≤ s.indexes) (sym (stored-signs s b c)) (within-spends s c.node b left h)

within-takes : (s : Setting) (r : Record) (c : Call) → c.node.stored.next ≤ s.indexes → (takes s r c).node.stored.next ≤ s.indexes
within-takes s r c h = subst (λ k. k.next ≤ s.indexes) (sym (stored-takes s r c)) h

within-sends : (s : Setting) (d : Datagram) (c : Call) (to : ℕ) → c.node.stored.next ≤ s.indexes → (sends s d c to).node.stored.next ≤ s.indexes
unfolding sends
within-sends s d c to h = h

staying-within : (s : Setting) → Keeps s (λ c. c.node.stored.next ≤ s.indexes)
staying-within s =
    record {
      told = λ what c other h. h;
      sent = λ d c to h. within-sends s d c to h;
      taken = λ r c fine h. within-takes s r c h;
      answered = λ r a c fine is me may left h. within-signs s (answer_to s (takes s r c).node.stored a) (takes s r c) left (within-takes s r c h);
      returned = λ r a c asks may left h. within-signs s (Note (returning_note s c.node.stored)) c left h;
      accused = λ a c by left h. within-signs s (Accusation a) c left h;
      departed = λ c left h. within-signs s (leaving s c.node.stored) c left h;
      stopped = λ c h. h;
      passed = λ c h. subst (λ k. k.next ≤ s.indexes) (sym (stored-lives s Ticks c)) h;
      probed = λ p c h. h;
      spanned = λ c h. h;
      spread = λ c h. h;
    }

within-calls : (s : Setting) (n : Node) (inputs : List Input) → n.stored.next ≤ s.indexes → (after_calls s n inputs).stored.next ≤ s.indexes
within-calls s n [] h = h
within-calls s n (i ∷ inputs) h = within-calls s (call_of s n i).node inputs (keeps-call s (λ c. c.node.stored.next ≤ s.indexes) (staying-within s) n i h)

pub within-life : (s : Setting) (nonces : ℕ → ℕ) (certificates : List Record) (stored : Stored) (inputs : List Input) → stored.next < s.indexes → (after_calls s (started s nonces certificates stored).node inputs).stored.next ≤ s.indexes
unfolding started
within-life s nonces certificates stored inputs left =
    let c : Call = opened s nonces certificates stored in
    let kept : c.node.stored ≡ stored = stored-opened s nonces certificates stored in
    within-calls s (signs s (first_note s stored) c).node inputs (within-signs s (first_note s stored) c (opened-left s c.node stored kept left) (opened-within s c.node stored kept left))

pub key-started : (s : Setting) (own : Key) (nonces : ℕ → ℕ) (certificates : List Record) (stored : Stored) → AllByRecursion Certifies certificates → list_any (λ r. is_certificate_for s.me r.body) certificates ≡ true
    → AllByRecursion (IsCertifiedBy s own) certificates → stored.next < s.indexes → KeepsKey s own (started s nonces certificates stored).node
unfolding started IsOwnBody
key-started s own nonces certificates stored all mine good left =
    let c : Call = opened s nonces certificates stored in
    let kept : c.node.stored ≡ stored = stored-opened s nonces certificates stored in
    let h : KeepsKey s own c.node = record { own_key = kit-has-own s own certificates (begun (blank s nonces stored)) all good mine; within = opened-within s c.node stored kept left } in
    key-signs s own (first_note s stored) c refl (opened-left s c.node stored kept left) h
