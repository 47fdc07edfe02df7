-- Throughout its life a node holds just the accusations that it keeps.
use Rattle.std.proofs.Common.{◌≡◌, ℕ, true, cond, inl, inr, List, [], ◌∷◌, Option, Some, None, refl, ap, sym, ◌∙◌, subst, eq-eqb}
use Rattle.std.specs.Prelude.{◌↔◌, Result, Ok, Err}
use Rattle.std.specs.List.{AllByRecursion}
use Rattle.std.specs.Ordering.{eq_by_cmp}
use Rattle.std.proofs.lemmas.Bool.{cond_both, eqb-true, and_parts, and_from}
use Rattle.ff_ids.specs.declared.AccBody.{AccBody}
use Rattle.ff_ids.specs.declared.NoteBody.{NoteBody}
use Rattle.ff_ids.specs.declared.summary.RecordKey.{RecordKey}
use Rattle.ff_ids.specs.Heals.{Heal}
use Rattle.ff_ids.specs.declared.Fault.{Fault}
use Rattle.ff_ids.specs.Views.{State}
use Rattle.ff_ids.specs.Faults.{accusation_fault, same_accusation, is_kept}
use Rattle.ff_ids.specs.Steps.{Ticks as Passes, Report, Stepped, step}
use Rattle.life_laws.proofs.Lists.{In, some_passes, any_from_In}
use Rattle.life_laws.proofs.StepLemmas.{AllStand}
use Rattle.detector.specs.Watching.{is_watched}
use Rattle.detector.specs.Silence.{History, ponged}
use Rattle.records.specs.declared.Body.{Body}
use Rattle.records.specs.declared.Body.TheVariants.{Certificate, Note, Accusation}
use Rattle.records.specs.declared.Record.{Record}
use Rattle.record_set.specs.Held.{key_cmp, key_of}
use Rattle.epoch_store.specs.declared.Stored.{Stored}
use Rattle.datagram.specs.declared.Datagram.{Datagram}
use Rattle.datagram.specs.declared.Datagram.TheVariants as kinds
use Rattle.datagram.specs.Grammar.{read_of}
use Rattle.journal.specs.declared.event.What.TheVariants as told
use Rattle.validate.specs.Table.{signature_fault}
use Rattle.node_rules.specs.Nodes.{Setting, Node, Holding, state_of, event_of, with_record, without_ended, retires, without_removal, key_of_accusation, public_key_of, neighbours, neighbours_and}
use Rattle.node_rules.specs.Pages.{partner}
use Rattle.node_rules.specs.Refusals.{refusal, refusal_of}
use Rattle.node_rules.specs.Calls.{Call, begun, tells, lives, takes, spends, signs, own_record}
use Rattle.node_rules.specs.Deliveries.{asked_with, gives_note, settles, judged, handles, handles_all, hears, delivered}
use Rattle.node_rules.specs.Ticking.{accusation_on, ring_for, has_accused, wants_accusation, accuses, accuses_all, spreads, is_due, silent_in, pings_in, probes_after, pings_all, round_of, passed, probed_at, due_tick, silent_at, ticked}
use Rattle.node_rules.specs.Starting.{blank, opened, started, first_note}
use Rattle.node_rules.specs.Leaving.{leaving, leaves, left}
use Rattle.node_rules.specs.Lives.{Input, Delivers, Ticks, call_of, after_calls, Leaves}
use Rattle.node_rules.specs.Accusing.{MayAccuse}
use Rattle.node_rules.specs.OneExchange.{HoldsAccusation}
use Rattle.node_rules.proofs.Small.{state_of-lives, state-takes}
use Rattle.node_rules.proofs.OwnNote.{option_or-none}
use Rattle.node_rules.proofs.Accusations.{lively, own_accusation, may_accuse, only_kept-accuses, state-probed, silent-watched, step-accused}
use Rattle.node_rules.proofs.Exchanges.{node-wants}
use Rattle.node_rules.proofs.Upholding.{some_is, none_some}
use Rattle.node_rules.proofs.Correctness.{Certifies, takes_all}
use Rattle.node_rules.proofs.Retiring.{retires-plain}
use Rattle.node_rules.proofs.Growth.{removal-plain}
use Rattle.node_rules.proofs.Walks.{exchanged-keeps, pinged-keeps, spreads-keep, pings-keep, summary-keeps}
use Rattle.node_rules.proofs.KeptHeld.{Matches, matches-same, matches-joins, matches-notes, matches-ticks, alone, matches-accused, matches-certificate, matches-note}

-- It holds the accusations that it keeps, and no others.
abbrev Agrees : Setting → Node → Type 0
Agrees s n = Matches n.held (state_of s n).kept

-- An accusation that is accepted has no fault.
abbrev MayKeep : Setting → State → Body → Type 0
MayKeep s st (Certificate x) = Unit {0}
MayKeep s st (Note x) = Unit {0}
MayKeep s st (Accusation a) = accusation_fault s.group.t st a ≡ None

-- ---- a record

agrees-body : (s : Setting) (r : Record) (b : Body) (st : State) (held : Holding) → r.body ≡ b → MayKeep s st b → AllStand st → Matches held st.kept
    → Matches (with_record r (without_ended (step s.group st (event_of s b)).report held)) (step s.group st (event_of s b)).state.kept
agrees-body s r (Certificate x) st held is may stand m = matches-certificate r x _ _ is (matches-joins s.group st x.member (s.places x.member) held m)
agrees-body s r (Note x) st held is may stand m = matches-note r x _ _ is (matches-notes s.group st x held m)
agrees-body s r (Accusation a) st held is may stand m =
    subst (λ (y : Stepped). Matches (with_record r (without_ended y.report held)) y.state.kept) (sym (step-accused s.group st a may)) (matches-accused held st.kept a st.moment r is (alone s.group st a may stand) m)

-- What becomes of removals leaves the accusations that are kept.
matches-retired : (heal : Option Heal) (rep : Report) (held : Holding) (kept : List (AccBody × ℕ)) → Matches (without_ended rep held) kept
    → Matches (without_ended rep (retires heal rep held)) kept
matches-retired heal rep held kept m =
    matches-same (without_ended rep held) (without_ended rep (retires heal rep held)) kept (λ a. retires-plain heal rep held (key_of_accusation a) tt) m

matches-unremoved : (r : Record) (b : Body) (heal : Option Heal) (rep : Report) (held : Holding) (kept : List (AccBody × ℕ))
    → Matches (with_record r (without_ended rep held)) kept → Matches (with_record r (without_removal b (without_ended rep (retires heal rep held)))) kept
matches-unremoved r b heal rep held kept m =
    let left : Holding = without_ended rep (retires heal rep held) in
    matches-same (with_record r (without_ended rep held)) (with_record r (without_removal b left)) kept
    (λ a. ap (λ o. cond (eq_by_cmp key_cmp (key_of_accusation a) (key_of r.body)) (Some r) o)
    (removal-plain b left (key_of_accusation a) tt ∙ retires-plain heal rep held (key_of_accusation a) tt)) m

held-taken : (s : Setting) (r : Record) (c : Call) → let rep = (step s.group (state_of s c.node) (event_of s r.body)).report in
    (takes s r c).node.held ≡ with_record r (without_removal r.body (without_ended rep (retires s.heal rep c.node.held)))
unfolding takes lives
held-taken s r c = refl

agrees-takes : (s : Setting) (r : Record) (c : Call) → MayKeep s (state_of s c.node) r.body → Agrees s c.node → Agrees s (takes s r c).node
agrees-takes s r c may m =
    let st : State = state_of s c.node in
    let next : Stepped = step s.group st (event_of s r.body) in
    let held : Holding = with_record r (without_removal r.body (without_ended next.report (retires s.heal next.report c.node.held))) in
    let put : Matches (with_record r (without_ended next.report c.node.held)) next.state.kept = agrees-body s r r.body st c.node.held refl may (lively s c.node).upheld m in
    subst (λ h. Matches h (state_of s (takes s r c).node).kept) (sym (held-taken s r c))
    (subst (λ (x : State). Matches held x.kept) (sym (state-takes s r c)) (matches-unremoved r r.body s.heal next.report c.node.held next.state.kept put))

may-keep : (s : Setting) (n : Node) (r : Record) (b : Body) → r.body ≡ b → refusal s n r ≡ None → MayKeep s (state_of s n) b
unfolding refusal
may-keep s n r (Certificate x) is fine = tt
may-keep s n r (Note x) is fine = tt
may-keep s n r (Accusation a) is fine =
    (option_or-none (accusation_fault s.group.t (state_of s n) a) (signature_fault s.verifies (public_key_of n a.accuser) r) (sym (ap (refusal_of s n r) is) ∙ fine)).0

agrees-spends : (s : Setting) (b : Body) (c : Call) → Agrees s c.node → Agrees s (spends s b c).node
unfolding state_of
agrees-spends s b c m = m

may-spent : (s : Setting) (b : Body) (c : Call) → MayKeep s (state_of s c.node) b → MayKeep s (state_of s (spends s b c).node) b
unfolding state_of
may-spent s b c may = may

agrees-signs : (s : Setting) (b : Body) (c : Call) → MayKeep s (state_of s c.node) b → Agrees s c.node → Agrees s (signs s b c).node
unfolding signs
agrees-signs s b c may m = agrees-takes s (own_record s c.node b) (spends s b c) (may-spent s b c may) (agrees-spends s b c m)

agrees-again : (s : Setting) (n : Node) (p : History) (news : List RecordKey) (since : ℕ) → Agrees s n → Agrees s (record n { probes = p; news = news; since = since })
unfolding state_of
agrees-again s n p news since m = m

held-passed : (s : Setting) (c : Call) → let rep = (step s.group (state_of s c.node) Passes).report in (lives s Passes c).node.held ≡ without_ended rep (retires s.heal rep c.node.held)
unfolding lives
held-passed s c = refl

agrees-passes : (s : Setting) (c : Call) → Agrees s c.node → Agrees s (lives s Passes c).node
agrees-passes s c m =
    let st : State = state_of s c.node in
    let rep : Report = (step s.group st Passes).report in
    let held : Holding = without_ended rep (retires s.heal rep c.node.held) in
    subst (λ h. Matches h (state_of s (lives s Passes c).node).kept) (sym (held-passed s c))
    (subst (λ (x : State). Matches held x.kept) (sym (state_of-lives s Passes c)) (matches-retired s.heal rep c.node.held (step s.group st Passes).state.kept (matches-ticks s.group st c.node.held m)))

-- ---- deliveries

agrees-gives : (s : Setting) (note : Option NoteBody) (c : Call) → Agrees s c.node → Agrees s (gives_note true s note c).node
agrees-gives s None c m = m
agrees-gives s (Some note) c m = node-wants true s (Note note) (neighbours s) c (Agrees s) m (λ left. agrees-signs s (Note note) c tt m)

agrees-settles : (s : Setting) (f : Option Fault) (r : Record) (c : Call) → refusal s c.node r ≡ f → Agrees s c.node → Agrees s (settles s f r c).node
agrees-settles s (Some fault) r c e m = m
agrees-settles s None r c e m = agrees-takes s r (tells s (told.Took r.body None) c) (may-keep s c.node r r.body refl e) m

agrees-judged : (s : Setting) (f : Option Fault) (r : Record) (c : Call) → refusal s c.node r ≡ f → Agrees s c.node → Agrees s (judged true s f r c).node
agrees-judged s f r c e m = agrees-gives s (asked_with s c.node f r.body r) (settles s f r c) (agrees-settles s f r c e m)

agrees-handles : (s : Setting) (c : Call) (r : Record) → Agrees s c.node → Agrees s (handles true s c r).node
unfolding handles
agrees-handles s c r m = agrees-judged s (refusal s c.node r) r c refl m

agrees-handles_all : (s : Setting) (records : List Record) (c : Call) → Agrees s c.node → Agrees s (handles_all s records c).node
agrees-handles_all s [] c m = m
agrees-handles_all s (r ∷ records) c m = agrees-handles_all s records (handles true s c r) (agrees-handles s c r m)

agrees-hears : (s : Setting) (d : Result Datagram ℕ) (c : Call) → Agrees s c.node → Agrees s (hears s d c).node
agrees-hears s (Err place) c m = m
agrees-hears s (Ok (kinds.Ping from nonce)) c m = pinged-keeps s (Agrees s) from nonce c m
agrees-hears s (Ok (kinds.Pong from nonce)) c m = agrees-again s c.node (ponged c.node.probes from nonce) c.node.news c.node.since m
agrees-hears s (Ok (kinds.Summary from flag theirs)) c m = exchanged-keeps s (Agrees s) from flag theirs c m
agrees-hears s (Ok (kinds.Records from records)) c m = agrees-handles_all s records c m

agrees-delivered : (s : Setting) (n : Node) (bytes : List ℕ) → Agrees s n → Agrees s (delivered s n bytes).node
unfolding delivered
agrees-delivered s n bytes m = agrees-hears s (read_of bytes) (begun n) m

-- ---- ticks

own-fine : (s : Setting) (st : State) (m ring : ℕ) → (may : MayAccuse s st m) → ring_for s st m ≡ Some ring → accusation_fault s.group.t st (own_accusation s st m ring) ≡ None
own-fine s st m ring may e =
    let same : may.ring ≡ ring = some_is may.ring ring (sym may.found ∙ e) in
    ap (λ k. accusation_fault s.group.t st (own_accusation s st m k)) (sym same) ∙ ap (accusation_fault s.group.t st) (same_body (own_accusation s st m may.ring) may.accusation may.says) ∙ may.no_fault
  where
    same_body : (a b : AccBody) → Accusation a ≡ Accusation b → a ≡ b
    same_body a b h = cc

agrees-accuses : (s : Setting) (c : Call) (m : ℕ) → is_watched s.group.t (state_of s c.node) s.me m ≡ true → Agrees s c.node → Agrees s (accuses true s c m).node
unfolding accuses
agrees-accuses s c m watched h =
    let st : State = state_of s c.node in
    let c1 : Call = tells s (told.Silent m) c in
    cond_both (has_accused s st m) c (wants_accusation true s m (ring_for s st m) c1) (λ x. Agrees s x.node) (λ yes. h)
    (λ no. on (may_accuse s st m (lively s c.node) watched no) (ring_for s st m) refl)
  where
    on : MayAccuse s (state_of s c.node) m → (ring : Option ℕ) → ring_for s (state_of s c.node) m ≡ ring → Agrees s (wants_accusation true s m ring (tells s (told.Silent m) c)).node
    on may None e = h
    on may (Some ring) e =
        let c1 : Call = tells s (told.Silent m) c in
        let b : Body = accusation_on s (state_of s c.node) m ring in
        node-wants true s b (neighbours_and s m) c1 (Agrees s) h (λ left. agrees-signs s b c1 (own-fine s (state_of s c.node) m ring may e) h)

agrees-accuses_all : (s : Setting) (silent : List ℕ) (c : Call) → ((m : ℕ) → In silent m → is_watched s.group.t (state_of s c.node) s.me m ≡ true) → Agrees s c.node → Agrees s (accuses_all s silent c).node
agrees-accuses_all s [] c watched h = h
agrees-accuses_all s (m ∷ silent) c watched h =
    let k = only_kept-accuses s c m in
    agrees-accuses_all s silent (accuses true s c m) (λ x i. ap (λ (st : State). is_watched s.group.t st s.me x) k.1 ∙ watched x (inr i)) (agrees-accuses s c m (watched m (inl refl)) h)

state-news : (s : Setting) (n : Node) → state_of s (record n { news = [] }) ≡ state_of s n
unfolding state_of
state-news s n = refl

state-spreads : (s : Setting) (c : Call) → state_of s (spreads s c).node ≡ state_of s c.node
state-spreads s c = spreads-keep s (λ n. state_of s n ≡ state_of s c.node) (λ n e. state-news s n ∙ e) c refl

agrees-due : (s : Setting) (silent : List ℕ) (sent : List (ℕ × ℕ)) (round : ℕ) (c : Call) → ((m : ℕ) → In silent m → is_watched s.group.t (state_of s c.node) s.me m ≡ true) → Agrees s c.node → Agrees s (due_tick s silent sent round c).node
unfolding due_tick
agrees-due s silent sent round c watched h =
    let c0 : Call = spreads s c in
    let c1 : Call = accuses_all s silent c0 in
    let c2 : Call = pings_all s sent c1 in
    let h0 : Agrees s c0.node = spreads-keep s (Agrees s) (λ n m. agrees-again s n n.probes [] n.since m) c h in
    let watched0 : (m : ℕ) → In silent m → is_watched s.group.t (state_of s c0.node) s.me m ≡ true = λ m i. ap (λ (st : State). is_watched s.group.t st s.me m) (state-spreads s c) ∙ watched m i in
    summary-keeps s (Agrees s) round (partner s c2.node round) c2 (pings-keep s (Agrees s) sent c1 (agrees-accuses_all s silent c0 watched0 h0))

agrees-probed_at : (s : Setting) (n : Node) → Agrees s n → Agrees s (probed_at s n).node
unfolding probed_at passed
agrees-probed_at s n m =
    let c : Call = lives s Passes (begun n) in
    let later : Node = probes_after s c.node (state_of s c.node) in
    agrees-again s c.node later.probes c.node.news later.since (agrees-passes s (begun n) m)

agrees-ticked : (s : Setting) (n : Node) → Agrees s n → Agrees s (ticked s n).node
unfolding ticked silent_at
agrees-ticked s n m =
    let p : Node = (passed s n).node in
    let st : State = state_of s p in
    let h : Agrees s (probed_at s n).node = agrees-probed_at s n m in
    cond_both (is_due s st) (due_tick s (silent_in s p st) (pings_in s p st) (round_of s st) (probed_at s n)) (probed_at s n) (λ x. Agrees s x.node)
    (λ due. agrees-due s (silent_in s p st) (pings_in s p st) (round_of s st) (probed_at s n) (λ x i. ap (λ (y : State). is_watched s.group.t y s.me x) (state-probed s n) ∙ silent-watched s n x i) h)
    (λ never. h)

-- ---- leaving

agrees-left : (s : Setting) (n : Node) → Agrees s n → Agrees s (left s n).node
unfolding left leaves
agrees-left s n m =
    let c : Call = begun n in
    node-wants true s (leaving s n.stored) (neighbours s) c (Agrees s) m (λ left. agrees-signs s (leaving s n.stored) c tt m)

-- ---- lives

agrees-call : (s : Setting) (n : Node) (i : Input) → Agrees s n → Agrees s (call_of s n i).node
agrees-call s n (Delivers bytes) m = agrees-delivered s n bytes m
agrees-call s n Ticks m = agrees-ticked s n m
agrees-call s n Leaves m = agrees-left s n m

agrees-calls : (s : Setting) (n : Node) (inputs : List Input) → Agrees s n → Agrees s (after_calls s n inputs)
agrees-calls s n [] m = m
agrees-calls s n (i ∷ inputs) m = agrees-calls s (call_of s n i).node inputs (agrees-call s n i m)

agrees-blank : (s : Setting) (nonces : ℕ → ℕ) (stored : Stored) → Agrees s (blank s nonces stored)
unfolding state_of
agrees-blank s nonces stored = record { kept_is = λ a h. absurd (none_some h.0 h.1.0); held_is = λ a h. absurd h.1.0; unique = λ p q i j same. absurd i }

agrees-opened : (s : Setting) (records : List Record) (c : Call) → AllByRecursion Certifies records → Agrees s c.node → Agrees s (takes_all s records c).node
agrees-opened s [] c all m = m
agrees-opened s (r ∷ records) c all m = agrees-opened s records (takes s r c) all.1 (agrees-takes s r c (subst (MayKeep s (state_of s c.node)) (sym all.0.1) tt) m)

agrees-started : (s : Setting) (nonces : ℕ → ℕ) (certificates : List Record) (stored : Stored) → AllByRecursion Certifies certificates → Agrees s (started s nonces certificates stored).node
unfolding started
agrees-started s nonces certificates stored all =
    let c : Call = opened s nonces certificates stored in
    agrees-signs s (first_note s stored) c tt (agrees-opened s certificates (begun (blank s nonces stored)) all (agrees-blank s nonces stored))

-- ---- the law

same-body : (x a : AccBody) → same_accusation x a ≡ true → x ≡ a
same-body x a h =
    let third = and_parts _ _ h in
    let second = and_parts _ _ third.0 in
    let first = and_parts _ _ second.0 in
    built (eqb-true _ _ first.0) (eqb-true _ _ first.1) (eqb-true _ _ second.1) (eqb-true _ _ third.1)
  where
    built : x.accuser ≡ a.accuser → x.accused ≡ a.accused → x.epoch ≡ a.epoch → x.ring.0 ≡ a.ring.0 → x ≡ a
    built by of at on =
        ap (λ k. let y : AccBody = record { accuser = k; accused = x.accused; epoch = x.epoch; ring = x.ring } in y) by
        ∙ ap (λ k. let y : AccBody = record { accuser = a.accuser; accused = k; epoch = x.epoch; ring = x.ring } in y) of
        ∙ ap (λ k. let y : AccBody = record { accuser = a.accuser; accused = a.accused; epoch = k; ring = x.ring } in y) at
        ∙ ap (λ k. let y : AccBody = record { accuser = a.accuser; accused = a.accused; epoch = a.epoch; ring = record { 0 = k } } in y) on

itself : (a : AccBody) → same_accusation a a ≡ true
itself a =
    and_from _ _ (and_from _ _ (and_from _ _ (eq-eqb a.accuser a.accuser refl) (eq-eqb a.accused a.accused refl)) (eq-eqb a.epoch a.epoch refl)) (eq-eqb a.ring.0 a.ring.0 refl)

pub held-kept : (s : Setting) (nonces : ℕ → ℕ) (certificates : List Record) (stored : Stored) (inputs : List Input) → AllByRecursion Certifies certificates → (a : AccBody)
    → HoldsAccusation (after_calls s (started s nonces certificates stored).node inputs) a ↔ (is_kept (state_of s (after_calls s (started s nonces certificates stored).node inputs)) a ≡ true)
held-kept s nonces certificates stored inputs all a =
    let n : Node = after_calls s (started s nonces certificates stored).node inputs in
    let m : Agrees s n = agrees-calls s (started s nonces certificates stored).node inputs (agrees-started s nonces certificates stored all) in (
      λ h.
          let p = m.kept_is a (h.rec, (h.held, h.says)) in
          any_from_In (λ q. same_accusation q.0 a) (state_of s n).kept p.0 p.1.0 (ap (λ x. same_accusation x a) p.1.1 ∙ itself a),
      λ h.
          let p = some_passes (λ q. same_accusation q.0 a) (state_of s n).kept h in
          let r = m.held_is a (p.0, (p.1.0, same-body p.0.0 a p.1.1)) in
          record { rec = r.0; held = r.1.0; says = r.1.1 },
    )
