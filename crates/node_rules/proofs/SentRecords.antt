-- Each record that a life has come by verifies under its author's key, and so does each that is sent.
use Rattle.std.proofs.Common.{◌≡◌, ℕ, ◌≤◌, ◌<◌, Bool, true, false, cond, inl, inr, ◌⊎◌, List, [], ◌∷◌, ◌++◌, Option, Some, None, map, refl, ap, sym, ◌∙◌, subst}
use Rattle.std.specs.Prelude.{Result, Ok, Err, is_some, filter_map, Contains}
use Rattle.std.specs.List.{AllByRecursion}
use Rattle.std.proofs.lemmas.Bool.{false≢true}
use Rattle.std.proofs.lemmas.List.Elements.{filter_map-append}
use Rattle.ff_ids.specs.declared.NoteBody.{NoteBody}
use Rattle.ff_ids.specs.declared.Fault.{Fault}
use Rattle.ff_ids.specs.Faults.{note_fault, accusation_fault}
use Rattle.ff_ids.specs.Steps.{Event, Ticks as Passes, Report, step}
use Rattle.life_laws.proofs.Lists.{In, In-from_Contains, All-at, All-from_In, In-append_cases, In-from_map}
use Rattle.records.specs.declared.keys.Key.{Key}
use Rattle.records.specs.declared.Body.{Body}
use Rattle.records.specs.declared.Body.TheVariants.{Certificate, Note, Accusation}
use Rattle.records.specs.declared.CertBody.{CertBody}
use Rattle.records.specs.declared.Record.{Record}
use Rattle.epoch_store.specs.declared.Stored.{Stored}
use Rattle.datagram.specs.declared.Datagram.{Datagram}
use Rattle.datagram.specs.declared.Datagram.TheVariants as kinds
use Rattle.datagram.specs.Grammar.{read_of}
use Rattle.journal.specs.declared.event.Event as journal
use Rattle.journal.specs.declared.event.What as whats
use Rattle.journal.specs.declared.event.What.TheVariants as told
use Rattle.validate.specs.Table.{certificate_fault, signature_fault}
use Rattle.node_rules.specs.Nodes.{Setting, Node, state_of, event_of, certificate_of, public_key_of}
use Rattle.node_rules.specs.Refusals.{refusal, refusal_of}
use Rattle.node_rules.specs.Calls.{Call, begun, tells, told_of, whats_of, lives, takes, spends, signs, sends, is_used_up, own_record}
use Rattle.node_rules.specs.Deliveries.{answer_to, returning_note, handles, handles_all, hears, delivered}
use Rattle.node_rules.specs.Starting.{blank, first_note, opened, started}
use Rattle.node_rules.specs.Leaving.{leaving}
use Rattle.node_rules.specs.Lives.{Input, Delivers, Ticks, IsKit, call_of, after_calls, life_of, Leaves}
use Rattle.node_rules.specs.OnDisks.{called}
use Rattle.node_rules.specs.Verdicts.{records_in, when_handled}
use Rattle.node_rules.specs.Known.{SendsKnown, IsOfKnown, accepted_in, accepted_of, gathered, known_in, made_by, records_of, signed_in}
use Rattle.node_rules.specs.Claims.{ClaimedVerify, IsOfSound, IsSound, SendsSound, claims_all, signer_of}
use Rattle.node_rules.specs.Vouching.{IsAuthentic, IsCertifiedBy, IsOfAuthentic, OwnSignaturesVerify, SendsAuthentic, author_key}
use Rattle.node_rules.proofs.Accusations.{In-from_filter_map}
use Rattle.node_rules.proofs.Called.{delivered_until, holds-called, ticked_until, left_until}
use Rattle.node_rules.proofs.Carrying.{Carries, carries-call, carries-delivered_until, carries-ticked_until, is_beside, carries-left_until}
use Rattle.node_rules.proofs.Correctness.{Certifies, Verifies, index-left, key-follows, takes_all, verified}
use Rattle.node_rules.proofs.Gathering.{call-sends, delivered_until-sends, held-life, ticked_until-sends, left_until-sends}
use Rattle.node_rules.proofs.Growth.{Follows, accusation-is_none, follows-itself, follows-signs, following, note-is_none}
use Rattle.node_rules.proofs.Handling.{node-handles}
use Rattle.node_rules.proofs.Keeping.{keeps-call, keeps-delivered_until, keeps-handles_all, keeps-ticked_until, keeps-left_until}
use Rattle.node_rules.proofs.OwnKey.{KeepsKey, key-started, keeping-key, stored-opened}
use Rattle.node_rules.proofs.OwnNote.{option_or-none}
use Rattle.node_rules.proofs.Upholding.{none_some}

-- ---- one record

authentic-follows : (s : Setting) (n later : Node) (r : Record) → Follows s n later → IsAuthentic s n r → IsAuthentic s later r
authentic-follows s n later r f h = record { key = h.key; author_is = by r.body h.author_is; verifies = h.verifies }
  where
    by : (b : Body) → author_key s n b ≡ Some h.key → author_key s later b ≡ Some h.key
    by (Certificate c) e = e
    by (Note x) e = key-follows s n later x.member h.key f e
    by (Accusation a) e = key-follows s n later a.accuser h.key f e

authentic-by : (s : Setting) (n : Node) (r : Record) (b : Body) → r.body ≡ b → Verifies s (author_key s n b) r → IsAuthentic s n r
authentic-by s n r b is v = record { key = v.key; author_is = ap (author_key s n) is ∙ v.author_is; verifies = v.verifies }

-- an accepted one
pub authentic-accepted : (s : Setting) (n : Node) (r : Record) (b : Body) → r.body ≡ b → refusal s n r ≡ None → IsAuthentic s n r
unfolding refusal
authentic-accepted s n r (Certificate x) is fine =
    let fine2 : refusal_of s n r (Certificate x) ≡ None = sym (ap (refusal_of s n r) is) ∙ fine in
    authentic-by s n r (Certificate x) is (verified s (Some s.authority) r (option_or-none (certificate_fault (certificate_of n x.member) x) _ fine2).1)
authentic-accepted s n r (Note x) is fine =
    let fine2 : refusal_of s n r (Note x) ≡ None = sym (ap (refusal_of s n r) is) ∙ fine in
    let parts = option_or-none (note_fault s.group.t (state_of s n) x) _ fine2 in
    authentic-by s n r (Note x) is
    (verified s (public_key_of n x.member) r (option_or-none (signature_fault s.verifies (public_key_of n x.member) r) _ parts.1).0)
authentic-accepted s n r (Accusation a) is fine =
    let fine2 : refusal_of s n r (Accusation a) ≡ None = sym (ap (refusal_of s n r) is) ∙ fine in
    authentic-by s n r (Accusation a) is
    (verified s (public_key_of n a.accuser) r (option_or-none (accusation_fault s.group.t (state_of s n) a) _ fine2).1)

-- ---- what a step signs

-- where the events behind bring no record
before-more : (s : Setting) (before news : List journal.Event) (r : Record) → (In (filter_map (λ (e : journal.Event). made_by s e.what) news) r → ⊥)
    → In (filter_map (λ (e : journal.Event). made_by s e.what) (before ++ news)) r → In (filter_map (λ (e : journal.Event). made_by s e.what) before) r
before-more s before news r none i =
    elim (In-append_cases (filter_map (λ (e : journal.Event). made_by s e.what) before) (filter_map (λ (e : journal.Event). made_by s e.what) news) r
    (subst (λ xs. In xs r) (filter_map-append (λ (e : journal.Event). made_by s e.what) before news) i)) [ inl j ↦ j | inr j ↦ absurd (none j) ]

made-of_life : (s : Setting) (rep : Report) (what : whats.What) (r : Record) → In (whats_of rep) what → made_by s what ≡ Some r → ⊥
made-of_life s rep what r i h =
    let removed : List whats.What = map told.Removed rep.removed in
    let entered : List whats.What = map told.Entered rep.entered in
    let fell : List whats.What = map told.Fell rep.fell in
    elim (In-append_cases ((map told.Expired rep.expired ++ removed) ++ entered) fell what i) [
      | inl j ↦ elim (In-append_cases (map told.Expired rep.expired ++ removed) entered what j) [
        | inl k ↦ elim (In-append_cases (map told.Expired rep.expired) removed what k) [
          | inl l ↦ none_some r (ap (made_by s) (In-from_map told.Expired rep.expired what l).1.1 ∙ h)
          | inr l ↦ none_some r (ap (made_by s) (In-from_map told.Removed rep.removed what l).1.1 ∙ h)
        ]
        | inr k ↦ none_some r (ap (made_by s) (In-from_map told.Entered rep.entered what k).1.1 ∙ h)
      ]
      | inr j ↦ none_some r (ap (made_by s) (In-from_map told.Fell rep.fell what j).1.1 ∙ h)
    ]

none-of_life : (s : Setting) (moment : ℕ) (rep : Report) (r : Record) → In (filter_map (λ (e : journal.Event). made_by s e.what) (told_of moment rep)) r → ⊥
none-of_life s moment rep r i =
    let k = In-from_filter_map (λ (e : journal.Event). made_by s e.what) (told_of moment rep) r i in
    let at : whats.What → journal.Event = λ what. record { moment = moment; what = what } in
    let w = In-from_map at (whats_of rep) k.0 k.1.0 in
    made-of_life s rep w.0 r w.1.0 (ap (λ (e : journal.Event). made_by s e.what) w.1.1 ∙ k.1.1)

signed-lives : (s : Setting) (e : Event) (c : Call) (r : Record) → In (signed_in s (lives s e c)) r → In (signed_in s c) r
unfolding lives
signed-lives s e c r i =
    let stepped = step s.group (state_of s c.node) e in
    before-more s c.told (told_of stepped.state.moment stepped.report) r (none-of_life s stepped.state.moment stepped.report r) i

signed-takes : (s : Setting) (x : Record) (c : Call) (r : Record) → In (signed_in s (takes s x c)) r → In (signed_in s c) r
unfolding takes
signed-takes s x c r i = signed-lives s (event_of s x.body) c r i

made-beside : (s : Setting) (what : whats.What) → is_beside what ≡ true → made_by s what ≡ None
made-beside s (told.Spent index body) h = absurd (false≢true h)
made-beside s other h = refl

one-made : (s : Setting) (e : journal.Event) (r : Record) → made_by s e.what ≡ None → In (filter_map (λ (e : journal.Event). made_by s e.what) (e ∷ [])) r → ⊥
one-made s e r none i =
    let k = In-from_filter_map (λ (e : journal.Event). made_by s e.what) (e ∷ []) r i in
    elim k.1.0 [
      | inl same ↦ none_some r (sym none ∙ ap (λ (e : journal.Event). made_by s e.what) same ∙ k.1.1)
      | inr never ↦ never
    ]

signed-tells : (s : Setting) (what : whats.What) (c : Call) (r : Record) → made_by s what ≡ None → In (signed_in s (tells s what c)) r → In (signed_in s c) r
signed-tells s what c r none i =
    let e : journal.Event = record { moment = (state_of s c.node).moment; what = what } in
    before-more s c.told (e ∷ []) r (one-made s e r none) i

signed-sends : (s : Setting) (d : Datagram) (c : Call) (to : ℕ) (r : Record) → In (signed_in s (sends s d c to)) r → In (signed_in s c) r
unfolding sends
signed-sends s d c to r i = signed-tells s (told.Sent _ to _) c r refl i

signed-spends : (s : Setting) (b : Body) (c : Call) (r : Record) → In (signed_in s (spends s b c)) r → In (signed_in s c) r ⊎ (own_record s c.node b ≡ r)
signed-spends s b c r i =
    let e : journal.Event = record { moment = (state_of s c.node).moment; what = told.Spent c.node.stored.next b } in
    elim (In-append_cases (filter_map (λ (e : journal.Event). made_by s e.what) c.told) (filter_map (λ (e : journal.Event). made_by s e.what) (e ∷ [])) r
    (subst (λ xs. In xs r) (filter_map-append (λ (e : journal.Event). made_by s e.what) c.told (e ∷ [])) i)) [
      | inl j ↦ inl j
      | inr j ↦ elim j [ inl same ↦ inr same | inr never ↦ absurd never ]
    ]

signed-signs : (s : Setting) (b : Body) (c : Call) (r : Record) → In (signed_in s (signs s b c)) r → In (signed_in s c) r ⊎ (own_record s c.node b ≡ r)
unfolding signs
signed-signs s b c r i = signed-spends s b c r (signed-takes s (own_record s c.node b) (spends s b c) r i)

-- ---- a call

sound-follows : (claimed : ℕ → Body → Bool) (s : Setting) (n later : Node) (r : Record) → Follows s n later → IsSound claimed s n r → IsSound claimed s later r
sound-follows claimed s n later r f (inl unclaimed) = inl unclaimed
sound-follows claimed s n later r f (inr h) = inr (authentic-follows s n later r f h)

-- A call of a node with the key, of which everything that it has signed verifies, where that is claimed.
record Good (claimed : ℕ → Body → Bool) (s : Setting) (own : Key) (c : Call) : Type 0 where
  all : KeepsKey s own c.node
  signed : (r : Record) → In (signed_in s c) r → IsSound claimed s c.node r

good-then : (claimed : ℕ → Body → Bool) (s : Setting) (own : Key) (c d : Call) → KeepsKey s own d.node → Follows s c.node d.node → ((r : Record) → In (signed_in s d) r → In (signed_in s c) r) → Good claimed s own c → Good claimed s own d
good-then claimed s own c d all f same h = record { all = all; signed = λ r i. sound-follows claimed s c.node d.node r f (h.signed r (same r i)) }

-- an own signature, with an index that is left
own-sound : (claimed : ℕ → Body → Bool) (s : Setting) (own : Key) (n later : Node) (b : Body) → ClaimedVerify claimed s own → signer_of b ≡ Some s.me → author_key s later b ≡ Some own → n.stored.next < s.indexes → IsSound claimed s later (own_record s n b)
own-sound claimed s own n later b sign by_me mine index = by (claimed n.stored.next b) refl
  where
    by : (k : Bool) → claimed n.stored.next b ≡ k → IsSound claimed s later (own_record s n b)
    by true is = inr (record { key = own; author_is = mine; verifies = sign n.stored.next b is index })
    by false is = inl (record { own = by_me; index = n.stored.next; unclaimed = is; signed = refl })

good-signs : (claimed : ℕ → Body → Bool) (s : Setting) (own : Key) (b : Body) (c : Call) → ClaimedVerify claimed s own → signer_of b ≡ Some s.me → author_key s c.node b ≡ public_key_of c.node s.me → ((x : CertBody) → b ≡ Certificate x → ⊥) → is_used_up s c.node ≡ false
    → KeepsKey s own (signs s b c).node → Good claimed s own c → Good claimed s own (signs s b c)
good-signs claimed s own b c sign by_me mine other left all h =
    let d : Call = signs s b c in
    let f : Follows s c.node d.node = follows-signs s c.node b c other (follows-itself s c.node) in
    let own_one : IsSound claimed s c.node (own_record s c.node b) = own-sound claimed s own c.node c.node b sign by_me (mine ∙ h.all.own_key) (index-left s c.node left h.all.within) in
    record {
      all = all;
      signed = λ r i. elim (signed-signs s b c r i) [
        | inl j ↦ sound-follows claimed s c.node d.node r f (h.signed r j)
        | inr same ↦ sound-follows claimed s c.node d.node r f (subst (IsSound claimed s c.node) same own_one)
      ];
    }

carrying : (claimed : ℕ → Body → Bool) (s : Setting) (own : Key) → ClaimedVerify claimed s own → Carries s (Good claimed s own)
carrying claimed s own sign =
    let k = keeping-key s own in
    record {
      told = λ what c beside h. record { all = h.all; signed = λ r i. h.signed r (signed-tells s what c r (made-beside s what beside) i) };
      sent = λ d c to h. good-then claimed s own c (sends s d c to) (k.sent d c to h.all) ((following s c.node).sent d c to (follows-itself s c.node)) (signed-sends s d c to) h;
      taken = λ r c fine h. good-then claimed s own c (takes s r c) (k.taken r c fine h.all) ((following s c.node).taken r c fine (follows-itself s c.node)) (signed-takes s r c) h;
      answered = λ r a c fine is me may left h.
          let c1 : Call = takes s r c in
          let h1 : Good claimed s own c1 = good-then claimed s own c c1 (k.taken r c fine h.all) ((following s c.node).taken r c fine (follows-itself s c.node)) (signed-takes s r c) h in
          good-signs claimed s own (answer_to s c1.node.stored a) c1 sign refl refl (λ x e. note-is_none _ x e) left (k.answered r a c fine is me may left h.all) h1;
      returned = λ r a c asks may left h.
          let note : NoteBody = returning_note s c.node.stored in
          good-signs claimed s own (Note note) c sign refl refl (note-is_none note) left (k.returned r a c asks may left h.all) h;
      accused = λ a c by left h. good-signs claimed s own (Accusation a) c sign (ap (λ m. Some m) by) (ap (public_key_of c.node) by) (accusation-is_none a) left (k.accused a c by left h.all) h;
      departed = λ c left h. good-signs claimed s own (leaving s c.node.stored) c sign refl refl (λ x e. note-is_none _ x e) left (k.departed c left h.all) h;
      stopped = λ c h. record { all = k.stopped c h.all; signed = λ r i. h.signed r (signed-tells s told.Stopped c r refl i) };
      passed = λ c h. good-then claimed s own c (lives s Passes c) (k.passed c h.all) ((following s c.node).passed c (follows-itself s c.node)) (signed-lives s Passes c) h;
      probed = λ p c h. good-then claimed s own c (record c { node = record c.node { probes = p } }) (k.probed p c h.all) ((following s c.node).probed p c (follows-itself s c.node)) (λ r i. i) h;
      spanned = λ c h. good-then claimed s own c (record c { node = record c.node { since = c.node.stored.epoch } }) (k.spanned c h.all) ((following s c.node).spanned c (follows-itself s c.node)) (λ r i. i) h;
      spread = λ c h. good-then claimed s own c (record c { node = record c.node { news = [] } }) (k.spread c h.all) ((following s c.node).spread c (follows-itself s c.node)) (λ r i. i) h;
    }

good-begun : (claimed : ℕ → Body → Bool) (s : Setting) (own : Key) (n : Node) → KeepsKey s own n → Good claimed s own (begun n)
good-begun claimed s own n all = record { all = all; signed = λ r i. absurd i }

-- ---- what a call accepts

accepted-authentic : (s : Setting) (records : List Record) (c : Call) (r : Record) → In (accepted_of s c.node records) r → IsAuthentic s (handles_all s records c).node r
accepted-authentic s [] c r i = absurd i
accepted-authentic s (x ∷ records) c r i =
    let d : Call = handles true s c x in
    let later : Node = (handles_all s records d).node in
    let f : Follows s c.node later = keeps-handles_all s (λ y. Follows s c.node y.node) (following s c.node) (x ∷ records) c (follows-itself s c.node) in
    elim (In-append_cases (cond (is_some (refusal s c.node x)) [] (x ∷ [])) (accepted_of s (when_handled s c.node x) records) r i) [
      | inl j ↦ here later f (refusal s c.node x) refl j
      | inr j ↦ accepted-authentic s records d r (subst (λ n. In (accepted_of s n records) r) (sym (node-handles true s c x)) j)
    ]
  where
    here : (later : Node) → Follows s c.node later → (o : Option Fault) → refusal s c.node x ≡ o → In (cond (is_some o) [] (x ∷ [])) r → IsAuthentic s later r
    here later f (Some fault) e j = absurd j
    here later f None e j =
        elim j [
          | inl same ↦ authentic-follows s c.node later r f (subst (IsAuthentic s c.node) same (authentic-accepted s c.node x x.body refl e))
          | inr never ↦ absurd never
        ]

hears-authentic : (s : Setting) (n : Node) (d : Result Datagram ℕ) (r : Record) → In (accepted_of s n (records_in d)) r → IsAuthentic s (hears s d (begun n)).node r
hears-authentic s n (Err place) r i = absurd i
hears-authentic s n (Ok (kinds.Ping from nonce)) r i = absurd i
hears-authentic s n (Ok (kinds.Pong from nonce)) r i = absurd i
hears-authentic s n (Ok (kinds.Summary from flag theirs)) r i = absurd i
hears-authentic s n (Ok (kinds.Records from records)) r i = accepted-authentic s records (begun n) r i

call-accepts : (s : Setting) (n : Node) (i : Input) (r : Record) → In (accepted_in s n i) r → IsAuthentic s (call_of s n i).node r
unfolding delivered
call-accepts s n (Delivers bytes) r i = hears-authentic s n (read_of bytes) r i
call-accepts s n Ticks r i = absurd i
call-accepts s n Leaves r i = absurd i

-- ---- lives

gathered-sound : (claimed : ℕ → Body → Bool) (s : Setting) (own : Key) → ClaimedVerify claimed s own → (n : Node) (known : List Record) (inputs : List Input) → KeepsKey s own n → ((r : Record) → In known r → IsSound claimed s n r)
    → KeepsKey s own (after_calls s n inputs) × ((r : Record) → In (gathered s n known inputs) r → IsSound claimed s (after_calls s n inputs) r)
gathered-sound claimed s own sign n known [] all h = (all, h)
gathered-sound claimed s own sign n known (i ∷ inputs) all h =
    let c : Call = call_of s n i in
    let good : Good claimed s own c = carries-call s (Good claimed s own) (carrying claimed s own sign) n i (good-begun claimed s own n all) in
    let f : Follows s n c.node = keeps-call s (λ y. Follows s n y.node) (following s n) n i (follows-itself s n) in
    gathered-sound claimed s own sign c.node (known ++ accepted_in s n i ++ signed_in s c) inputs good.all
    (λ r j. elim (In-append_cases (known ++ accepted_in s n i) (signed_in s c) r j) [
      | inl k ↦ elim (In-append_cases known (accepted_in s n i) r k) [
        | inl l ↦ sound-follows claimed s n c.node r f (h r l)
        | inr l ↦ inr (call-accepts s n i r l)
      ]
      | inr k ↦ good.signed r k
    ])

-- the kit's certificates are taken with no signature
signed-takes_all : (s : Setting) (records : List Record) (c : Call) (r : Record) → In (signed_in s (takes_all s records c)) r → In (signed_in s c) r
signed-takes_all s [] c r i = i
signed-takes_all s (x ∷ records) c r i = signed-takes s x c r (signed-takes_all s records (takes s x c) r i)

certified-authentic : (s : Setting) (own : Key) (n : Node) (records : List Record) → AllByRecursion Certifies records → AllByRecursion (IsCertifiedBy s own) records → (r : Record) → In records r → IsAuthentic s n r
certified-authentic s own n records all good r i =
    let c = All-at Certifies records r all i in
    let by = All-at (IsCertifiedBy s own) records r good i in
    record { key = s.authority; author_is = ap (author_key s n) c.1; verifies = by.0 }

-- the first note
started-signs : (claimed : ℕ → Body → Bool) (s : Setting) (own : Key) (nonces : ℕ → ℕ) (certificates : List Record) (stored : Stored) → ClaimedVerify claimed s own → stored.next < s.indexes → KeepsKey s own (started s nonces certificates stored).node
    → (r : Record) → In (signed_in s (started s nonces certificates stored)) r → IsSound claimed s (started s nonces certificates stored).node r
unfolding started
started-signs claimed s own nonces certificates stored sign left all r i =
    let c : Call = opened s nonces certificates stored in
    let b : Body = first_note s stored in
    let index : c.node.stored.next < s.indexes = subst (λ (x : Stored). x.next < s.indexes) (sym (stored-opened s nonces certificates stored)) left in
    elim (signed-signs s b c r i) [
      | inl j ↦ absurd (signed-takes_all s certificates (begun (blank s nonces stored)) r j)
      | inr same ↦
          let first : IsSound claimed s (signs s b c).node (own_record s c.node b) = own-sound claimed s own c.node (signs s b c).node b sign refl all.own_key index in
          subst (IsSound claimed s (signs s b c).node) same first
    ]

life-sound : (claimed : ℕ → Body → Bool) (s : Setting) (own : Key) (nonces : ℕ → ℕ) (certificates : List Record) (stored : Stored) (inputs : List Input) → IsKit s certificates → AllByRecursion (IsCertifiedBy s own) certificates
    → ClaimedVerify claimed s own → stored.next < s.indexes
    → KeepsKey s own (life_of s nonces certificates stored inputs) × ((r : Record) → In (known_in s nonces certificates stored inputs) r → IsSound claimed s (life_of s nonces certificates stored inputs) r)
life-sound claimed s own nonces certificates stored inputs kit good sign left =
    let d : Call = started s nonces certificates stored in
    let all : KeepsKey s own d.node = key-started s own nonces certificates stored kit.all kit.own good left in
    gathered-sound claimed s own sign d.node (certificates ++ signed_in s d) inputs all
    (λ r i. elim (In-append_cases certificates (signed_in s d) r i) [
      | inl j ↦ inr (certified-authentic s own d.node certificates kit.all good r j)
      | inr j ↦ started-signs claimed s own nonces certificates stored sign left all r j
    ])

-- ---- what is sent

sends-sound : (claimed : ℕ → Body → Bool) (s : Setting) (own : Key) (known : List Record) (n : Node) (c : Call) → ((r : Record) → In known r → IsSound claimed s n r) → Follows s n c.node → Good claimed s own c → SendsKnown s known c → SendsSound claimed s c
sends-sound claimed s own known n c are f good sent =
    let all : List Record = known ++ signed_in s c in
    let each : (r : Record) → In all r → IsSound claimed s c.node r =
    λ r i. elim (In-append_cases known (signed_in s c) r i) [ inl j ↦ sound-follows claimed s n c.node r f (are r j) | inr j ↦ good.signed r j ] in
    All-from_In (λ (d : ℕ × List ℕ). IsOfSound claimed s c.node d.1) c.sent
    (λ d i.
    let h = All-at (λ (d : ℕ × List ℕ). IsOfKnown all d.1) c.sent d sent i in
    record {
      datagram = h.datagram;
      spelled = h.spelled;
      records = All-from_In (IsSound claimed s c.node) (records_of h.datagram)
          (λ r j. each r (In-from_Contains all r (All-at (Contains all) (records_of h.datagram) r h.records j)));
    })

pub sent-sound : (claimed : ℕ → Body → Bool) (s : Setting) (own : Key) (nonces : ℕ → ℕ) (certificates : List Record) (stored : Stored) (inputs : List Input) (i : Input) (fails_at : Option ℕ) → IsKit s certificates
    → AllByRecursion (IsCertifiedBy s own) certificates → ClaimedVerify claimed s own → stored.next < s.indexes → SendsSound claimed s (called s (life_of s nonces certificates stored inputs) i fails_at)
sent-sound claimed s own nonces certificates stored inputs i fails_at kit good sign left =
    let n : Node = life_of s nonces certificates stored inputs in
    let known : List Record = known_in s nonces certificates stored inputs in
    let life = life-sound claimed s own nonces certificates stored inputs kit good sign left in
    let held = held-life s nonces certificates stored inputs in
    let k = carrying claimed s own sign in
    let begins : Good claimed s own (begun n) = good-begun claimed s own n life.0 in
    let same : Follows s n n = follows-itself s n in
    holds-called s n (λ i c. SendsSound claimed s c)
    (λ i. sends-sound claimed s own known n (call_of s n i) life.1 (keeps-call s (λ y. Follows s n y.node) (following s n) n i same)
    (carries-call s (Good claimed s own) k n i begins) (call-sends s known n i held))
    (λ bytes records r. sends-sound claimed s own known n (delivered_until s n records r) life.1 (keeps-delivered_until s (λ y. Follows s n y.node) (following s n) n records r same)
    (carries-delivered_until s (Good claimed s own) k n records r begins) (delivered_until-sends s known n records r held))
    (λ silent m. sends-sound claimed s own known n (ticked_until s n silent m) life.1 (keeps-ticked_until s (λ y. Follows s n y.node) (following s n) n silent m same)
    (carries-ticked_until s (Good claimed s own) k n silent m begins) (ticked_until-sends s known n silent m held))
    (sends-sound claimed s own known n (left_until s n) life.1 (keeps-left_until s (λ y. Follows s n y.node) (following s n) n same)
    (carries-left_until s (Good claimed s own) k n begins) (left_until-sends s known n held))
    i fails_at

-- ---- where all of it is claimed

all-claimed : (s : Setting) (n : Node) (r : Record) → IsSound claims_all s n r → IsAuthentic s n r
all-claimed s n r (inl h) = absurd (false≢true (sym h.unclaimed))
all-claimed s n r (inr h) = h

records-claimed : (s : Setting) (n : Node) (records : List Record) → AllByRecursion (IsSound claims_all s n) records → AllByRecursion (IsAuthentic s n) records
records-claimed s n [] h = tt
records-claimed s n (r ∷ records) h = (all-claimed s n r h.0, records-claimed s n records h.1)

sent-claimed : (s : Setting) (n : Node) (sent : List (ℕ × List ℕ)) → AllByRecursion (λ (d : ℕ × List ℕ). IsOfSound claims_all s n d.1) sent → AllByRecursion (λ (d : ℕ × List ℕ). IsOfAuthentic s n d.1) sent
sent-claimed s n [] h = tt
sent-claimed s n (d ∷ sent) h = (record { datagram = h.0.datagram; spelled = h.0.spelled; records = records-claimed s n (records_of h.0.datagram) h.0.records }, sent-claimed s n sent h.1)

pub sent-authentic : (s : Setting) (own : Key) (nonces : ℕ → ℕ) (certificates : List Record) (stored : Stored) (inputs : List Input) (i : Input) (fails_at : Option ℕ) → 1 ≤ s.group.t → IsKit s certificates
    → AllByRecursion (IsCertifiedBy s own) certificates → OwnSignaturesVerify s own → stored.next < s.indexes → SendsAuthentic s (called s (life_of s nonces certificates stored inputs) i fails_at)
sent-authentic s own nonces certificates stored inputs i fails_at some kit good sign left =
    let c : Call = called s (life_of s nonces certificates stored inputs) i fails_at in
    sent-claimed s c.node c.sent (sent-sound claims_all s own nonces certificates stored inputs i fails_at kit good (λ index body claimed. sign index body) left)
