-- What a node comes to that is handed what it lacked of a page.
use Rattle.std.proofs.Common.{◌≡◌, ℕ, zero, suc, ◌+◌, ◌≤◌, ◌<◌, Bool, true, false, eqb, cond, inl, inr, List, [], ◌∷◌, Option, Some, None, is_some, refl, ap, sym, ◌∙◌, subst, arith, map, eq-eqb}
use Rattle.std.specs.Prelude.{filter_map, option_map}
use Rattle.std.specs.List.{AllByRecursion, range_with_len, cons_option}
use Rattle.std.specs.Option.{option_and_then, option_or}
use Rattle.std.specs.Ordering.{is_lt}
use Rattle.std.specs.declared.cmp.Ordering.{Ordering}
use Rattle.std.specs.declared.cmp.Ordering.TheVariants.{Less, Equal, Greater}
use Rattle.std.proofs.lemmas.Bool.{cond_both, cases_Bool, eqb-true, false≢true}
use Rattle.std.proofs.lemmas.Bool.Decides.{nat_tests}
use Rattle.ff_ids.specs.declared.NoteBody.{NoteBody}
use Rattle.ff_ids.specs.declared.Fault.{Fault}
use Rattle.ff_ids.specs.declared.Fault.TheVariants as faults
use Rattle.ff_ids.specs.declared.summary.RecordKey.{RecordKey}
use Rattle.ff_ids.specs.declared.summary.RecordKey.TheVariants as keys
use Rattle.ff_ids.specs.Masks.{note_mask}
use Rattle.ff_ids.specs.Notes.{note_cmp, greater_note, newest}
use Rattle.ff_ids.specs.Views.{State, is_member}
use Rattle.ff_ids.specs.Faults.{note_fault, note_fault_by, fault_after, fault_beside}
use Rattle.ff_ids.specs.Steps.{after_note, step, Stepped}
use Rattle.life_laws.proofs.Lists.{In}
use Rattle.life_laws.proofs.NoteLemmas.{below, below-itself, below-back, not_below-trans}
use Rattle.records.specs.declared.keys.Key.{Key}
use Rattle.records.specs.declared.CertBody.{CertBody}
use Rattle.records.specs.declared.Body.{Body}
use Rattle.records.specs.declared.Body.TheVariants.{Certificate, Note, Accusation}
use Rattle.records.specs.declared.Record.{Record}
use Rattle.validate.specs.Table.{certificate_fault, signature_fault, own_ahead}
use Rattle.journal.specs.declared.event.What.TheVariants as told
use Rattle.node_rules.specs.Nodes.{Setting, Node, state_of, event_of, certificate_in, certificate_of, is_certified, public_key_of, neighbours}
use Rattle.node_rules.specs.Refusals.{refusal, refusal_of}
use Rattle.node_rules.specs.Calls.{Call, tells, takes, signs, signs_and_sends, wants, stops, sends_to_all, is_used_up, own_record}
use Rattle.datagram.specs.declared.Datagram.{Datagram}
use Rattle.datagram.specs.declared.Datagram.TheVariants as kinds
use Rattle.node_rules.specs.Deliveries.{asked_with, gives_note, settles, judged, handles, handles_all}
use Rattle.node_rules.specs.Vouching.{OwnSignaturesVerify}
use Rattle.node_rules.specs.OneExchange.{HasAtLeast, IsKnownAmong, AgreeOnCertificates}
use Rattle.node_rules.proofs.Small.{node-sends_to_all, state-takes}
use Rattle.node_rules.proofs.Keeping.{keeps-handles}
use Rattle.node_rules.proofs.Growth.{held-takes, certificate_at, certificate-signs, Follows, follows-itself, following, note-is_none}
use Rattle.node_rules.proofs.Upholding.{some_is, AreFiled, certificate-filed, certificate-certificate, note-certificate, accusation-certificate, greater-accepted, unless-none}
use Rattle.node_rules.proofs.Correctness.{KeepsAll, keeping-all}

-- ---- lists

pub In-map : {X Y : Type 0} (f : X → Y) (xs : List X) (x : X) → In xs x → In (map f xs) (f x)
In-map f [] x i = absurd i
In-map f (z ∷ zs) x (inl e) = inl (ap f e)
In-map f (z ∷ zs) x (inr i) = inr (In-map f zs x i)

pub In-range : (n first m : ℕ) → first ≤ m → m < first + n → In (range_with_len first n) m
In-range zero first m low high = absurd (omega arith)
In-range (suc n) first m low high =
    elim (cases_Bool (eqb first m)) [
      | inl here ↦ inl (eqb-true first m here)
      | inr later ↦ inr (In-range n (first + 1) m (grind (arith, nat_tests, low, later)) (omega arith))
    ]

In-consed : {Y : Type 0} (o : Option Y) (ys : List Y) (y : Y) → In ys y → In (cons_option o ys) y
In-consed None ys y i = i
In-consed (Some w) ys y i = inr i

pub In-filter_map : {X Y : Type 0} (f : X → Option Y) (xs : List X) (x : X) (y : Y) → In xs x → f x ≡ Some y → In (filter_map f xs) y
In-filter_map f [] x y i e = absurd i
In-filter_map {X} {Y} f (z ∷ zs) x y (inl here) e = subst (λ (o : Option Y). In (cons_option o (filter_map f zs)) y) (sym (ap f here ∙ e)) (inl refl)
In-filter_map f (z ∷ zs) x y (inr later) e = In-consed (f z) (filter_map f zs) y (In-filter_map f zs x y later e)

all-consed : {X Y : Type 0} (f : X → Option Y) (z : X) (o : Option Y) (ys : List Y) → f z ≡ o → AllByRecursion (λ y. (x : X) × (f x ≡ Some y)) ys → AllByRecursion (λ y. (x : X) × (f x ≡ Some y)) (cons_option o ys)
all-consed f z None ys e all = all
all-consed f z (Some w) ys e all = ((z, e), all)

-- each of what is given has an argument
pub all-filter_map : {X Y : Type 0} (f : X → Option Y) (xs : List X) → AllByRecursion (λ y. (x : X) × (f x ≡ Some y)) (filter_map f xs)
all-filter_map f [] = tt
all-filter_map f (z ∷ zs) = all-consed f z (f z) (filter_map f zs) refl (all-filter_map f zs)

-- ---- one record is handled

pub node-wants : (works : Bool) (s : Setting) (body : Body) (addressees : State → List ℕ) (c : Call) (P : Node → Type 0) → P c.node → (is_used_up s c.node ≡ false → P (signs s body c).node) → P (wants works s body addressees c).node
unfolding wants signs_and_sends
node-wants works s body addressees c P kept signed =
    let c1 : Call = signs s body c in
    let d : Datagram = kinds.Records s.me (own_record s c.node body ∷ []) in
    let all : List ℕ = addressees (state_of s c1.node) in
    cond_both (is_used_up s c.node) (tells s (told.Exhausted c.node.stored.next) c) (cond works (sends_to_all s all d c1) (stops s c)) (λ x. P x.node)
    (λ yes. kept)
    (λ left. cond_both works (sends_to_all s all d c1) (stops s c) (λ x. P x.node) (λ yes. subst P (sym (node-sends_to_all s all d c1)) (signed left)) (λ fails. kept))

certificate-gives : (works : Bool) (s : Setting) (note : Option NoteBody) (c : Call) (m : ℕ) → certificate_of (gives_note works s note c).node m ≡ certificate_of c.node m
certificate-gives works s None c m = refl
certificate-gives works s (Some note) c m =
    node-wants works s (Note note) (neighbours s) c (λ n. certificate_of n m ≡ certificate_of c.node m) refl (λ left. certificate-signs s (Note note) c m (note-is_none note))

-- A certificate that is kept was kept, or is the record's.
data HowCertified (n : Node) (r : Record) (m : ℕ) (d : CertBody) : Type 0 where
  before : certificate_of n m ≡ Some d → HowCertified n r m d
  now : r.body ≡ Certificate d → d.member ≡ m → HowCertified n r m d

certified-with : (s : Setting) (r : Record) (c : Call) (m : ℕ) (d : CertBody) (b : Body) → r.body ≡ b → certificate_of (takes s r c).node m ≡ Some d → HowCertified c.node r m d
unfolding certificate_of
certified-with s r c m d (Note x) is e =
    before (sym (ap (option_and_then (λ y. certificate_in y.body)) (held-takes s r c (keys.Certificate m) tt ∙ note-certificate r c.node.held x m is)) ∙ e)
certified-with s r c m d (Accusation a) is e =
    before (sym (ap (option_and_then (λ y. certificate_in y.body)) (held-takes s r c (keys.Certificate m) tt ∙ accusation-certificate r c.node.held a m is)) ∙ e)
certified-with s r c m d (Certificate x) is e =
    let at : certificate_at (takes s r c).node.held m ≡ option_and_then (λ y. certificate_in y.body) (cond (eqb x.member m) (Some r) (c.node.held (keys.Certificate m))) =
    ap (option_and_then (λ y. certificate_in y.body)) (held-takes s r c (keys.Certificate m) tt ∙ certificate-certificate r c.node.held x m is) in
    elim (cases_Bool (eqb x.member m)) [
      | inl same ↦
          let this : certificate_in r.body ≡ Some d = sym (ap (λ b. option_and_then (λ y. certificate_in y.body) (cond b (Some r) (c.node.held (keys.Certificate m)))) same) ∙ sym at ∙ e in
          let that : x ≡ d = some_is x d (sym (ap certificate_in is) ∙ this) in
          now (is ∙ ap (λ y. Certificate y) that) (sym (ap (λ (y : CertBody). y.member) that) ∙ eqb-true x.member m same)
      | inr other ↦ before (sym (ap (λ b. option_and_then (λ y. certificate_in y.body) (cond b (Some r) (c.node.held (keys.Certificate m)))) other) ∙ sym at ∙ e)
    ]

certified-settled : (s : Setting) (f : Option Fault) (r : Record) (c : Call) (m : ℕ) (d : CertBody) → certificate_of (settles s f r c).node m ≡ Some d → HowCertified c.node r m d
certified-settled s (Some fault) r c m d e = before e
certified-settled s None r c m d e = certified-with s r (tells s (told.Took r.body None) c) m d r.body refl e

certified-judged : (s : Setting) (f : Option Fault) (r : Record) (c : Call) (m : ℕ) (d : CertBody) → certificate_of (judged true s f r c).node m ≡ Some d → HowCertified c.node r m d
certified-judged s f r c m d e = certified-settled s f r c m d (sym (certificate-gives true s (asked_with s c.node f r.body r) (settles s f r c) m) ∙ e)

certified-handles : (s : Setting) (c : Call) (r : Record) (m : ℕ) (d : CertBody) → certificate_of (handles true s c r).node m ≡ Some d → HowCertified c.node r m d
unfolding handles
certified-handles s c r m d e = certified-judged s (refusal s c.node r) r c m d e

-- ---- the records of the one are handed to the other

abbrev pub IsHeld : Node → Record → Type 0
IsHeld n r = (k : RecordKey) × (n.held k ≡ Some r)

certificate-held : (n : Node) (r : Record) (d : CertBody) (m : ℕ) → AreFiled n.held → IsHeld n r → r.body ≡ Certificate d → d.member ≡ m → certificate_of n m ≡ Some d
unfolding certificate_of
certificate-held n r d m filed held is who =
    let place : keys.Certificate m ≡ held.0 = sym (ap (λ k. keys.Certificate k) who) ∙ sym (certificate-filed r.body d held.0 is (filed held.0 r held.1)) in
    ap (option_and_then (λ y. certificate_in y.body)) (ap n.held place ∙ held.1) ∙ ap certificate_in is

-- Where a call stands that is handed the records of the other: what it upholds, that it goes on from where it was,
-- and that the two agree.
pub record Stands (s : Setting) (own : Key) (other earlier : Node) (c : Call) : Type 0 where
  pub all : KeepsAll s own c.node
  pub follows : Follows s earlier c.node
  pub agrees : AgreeOnCertificates other c.node

agree-handles : (s : Setting) (other : Node) (c : Call) (r : Record) → AreFiled other.held → IsHeld other r → AgreeOnCertificates other c.node → AgreeOnCertificates other (handles true s c r).node
agree-handles s other c r filed held agrees =
    λ m x d theirs ours.
    elim (certified-handles s c r m d ours) [
      | before e ↦ agrees m x d theirs e
      | now is who ↦ some_is x d (sym theirs ∙ certificate-held other r d m filed held is who)
    ]

pub record Handing (s : Setting) (own : Key) (other : Node) : Type 0 where
  pub some : 1 ≤ s.group.t
  pub signs : OwnSignaturesVerify s own
  pub filed : AreFiled other.held

pub stands-handles : (s : Setting) (own : Key) (other earlier : Node) (c : Call) (r : Record) → Handing s own other → IsHeld other r → Stands s own other earlier c → Stands s own other earlier (handles true s c r)
stands-handles s own other earlier c r handing held h =
    record {
      all = keeps-handles s (λ x. KeepsAll s own x.node) (keeping-all s own handing.some handing.signs) true c r h.all;
      follows = keeps-handles s (λ x. Follows s earlier x.node) (following s earlier) true c r h.follows;
      agrees = agree-handles s other c r handing.filed held h.agrees;
    }

pub follows-handles : (s : Setting) (c : Call) (r : Record) → Follows s c.node (handles true s c r).node
follows-handles s c r = keeps-handles s (λ x. Follows s c.node x.node) (following s c.node) true c r (follows-itself s c.node)

-- What each step keeps holds behind all of them; what one of them brings about, and each later one keeps, too.
pub all-handled : (s : Setting) (Given : Record → Type 0) (R : Call → Type 0) → ((c : Call) (r : Record) → Given r → R c → R (handles true s c r))
    → (records : List Record) → AllByRecursion Given records → (c : Call) → R c → R (handles_all s records c)
all-handled s Given R keeps [] all c h = h
all-handled s Given R keeps (r ∷ records) all c h = all-handled s Given R keeps records all.1 (handles true s c r) (keeps c r all.0 h)

pub one-handled : (s : Setting) (Given : Record → Type 0) (R Q : Call → Type 0) (r : Record) → ((c : Call) (x : Record) → Given x → R c → R (handles true s c x))
    → ((c : Call) → R c → Q (handles true s c r)) → ((c : Call) (x : Record) → Q c → Q (handles true s c x))
    → (records : List Record) → AllByRecursion Given records → In records r → (c : Call) → R c → Q (handles_all s records c)
one-handled s Given R Q r keeps brings stays [] all i c h = absurd i
one-handled s Given R Q r keeps brings stays (x ∷ records) all (inl here) c h =
    all-handled s (λ y. Unit {0}) Q (λ d y given q. stays d y q) records (anything records) (handles true s c x) (subst (λ y. Q (handles true s c y)) (sym here) (brings c h))
  where
    anything : (ys : List Record) → AllByRecursion (λ y. Unit {0}) ys
    anything [] = tt
    anything (y ∷ ys) = (tt, anything ys)
one-handled s Given R Q r keeps brings stays (x ∷ records) all (inr later) c h = one-handled s Given R Q r keeps brings stays records all.1 later (handles true s c x) (keeps c x all.0 h)

-- ---- a certificate is known from then on

pub certified-kept : (s : Setting) (n later : Node) (m : ℕ) → Follows s n later → is_certified n m ≡ true → is_certified later m ≡ true
certified-kept s n later m f h = by (certificate_of n m) refl
  where
    by : (o : Option CertBody) → certificate_of n m ≡ o → is_certified later m ≡ true
    by None e = absurd (false≢true (sym (ap is_some e) ∙ h))
    by (Some x) e = ap is_some (f.certificates m x e)

certificate-fine : (s : Setting) (n : Node) (r : Record) (x : CertBody) → r.body ≡ Certificate x → s.verifies s.authority r ≡ true → certificate_of n x.member ≡ None → refusal s n r ≡ None
unfolding refusal
certificate-fine s n r x is verifies none =
    ap (refusal_of s n r) is
    ∙ ap (λ o. option_or (certificate_fault o x) (signature_fault s.verifies (Some s.authority) r)) none
    ∙ ap (λ b. cond b None (Some faults.BadSignature)) verifies

handled-fine : (s : Setting) (c : Call) (r : Record) → refusal s c.node r ≡ None → handles true s c r ≡ gives_note true s (asked_with s c.node None r.body r) (takes s r (tells s (told.Took r.body None) c))
unfolding handles
handled-fine s c r fine = ap (λ f. judged true s f r c) fine

certified-taken : (s : Setting) (c : Call) (r : Record) (x : CertBody) → r.body ≡ Certificate x → is_certified (takes s r c).node x.member ≡ true
unfolding certificate_of
certified-taken s c r x is =
    ap (λ o. is_some (option_and_then (λ y. certificate_in y.body) o)) (held-takes s r c (keys.Certificate x.member) tt ∙ certificate-certificate r c.node.held x x.member is)
    ∙ ap (λ b. is_some (option_and_then (λ y. certificate_in y.body) (cond b (Some r) (c.node.held (keys.Certificate x.member))))) (eq-eqb x.member x.member refl)
    ∙ ap (λ b. is_some (certificate_in b)) is

pub certifies : (s : Setting) (c : Call) (r : Record) (x : CertBody) → r.body ≡ Certificate x → s.verifies s.authority r ≡ true → is_certified (handles true s c r).node x.member ≡ true
certifies s c r x is verifies = by (certificate_of c.node x.member) refl
  where
    by : (o : Option CertBody) → certificate_of c.node x.member ≡ o → is_certified (handles true s c r).node x.member ≡ true
    by (Some y) e = certified-kept s c.node (handles true s c r).node x.member (follows-handles s c r) (ap is_some e)
    by None e =
        let c1 : Call = tells s (told.Took r.body None) c in
        ap (λ (d : Call). is_certified d.node x.member) (handled-fine s c r (certificate-fine s c.node r x is verifies e))
        ∙ ap is_some (certificate-gives true s (asked_with s c.node None r.body r) (takes s r c1) x.member)
        ∙ certified-taken s c1 r x is

-- ---- a note is known from then on

-- A note is greater than the newest, or the newest is at least it.
data Compared (o : Option NoteBody) (n : NoteBody) : Type 0 where
  greater : fault_after o n ≡ None → Compared o n
  known : (kept : NoteBody) → o ≡ Some kept → below kept n ≡ false → Compared o n

equal_notes : (n k : NoteBody) → note_cmp n k ≡ Equal → below k n ≡ false
equal_notes n k e = grind (arith, nat_tests)

compared : (o : Option NoteBody) (n : NoteBody) → Compared o n
compared None n = greater refl
compared (Some kept) n = by (note_cmp n kept) refl
  where
    by : (c : Ordering) → note_cmp n kept ≡ c → Compared (Some kept) n
    by Less e = known kept refl (below-back n kept (ap is_lt e))
    by Equal e = known kept refl (equal_notes n kept e)
    by Greater e = greater (ap (fault_beside kept) e)

greater_below : (n k : NoteBody) → note_cmp n k ≡ Greater → below k n ≡ true
greater_below n k e = grind (arith, nat_tests)

not_after : (n kept : NoteBody) → fault_after (Some kept) n ≡ None → below kept n ≡ false → ⊥
not_after n kept fine most = by (note_cmp n kept) refl fine
  where
    by : (c : Ordering) → note_cmp n kept ≡ c → fault_beside kept c ≡ None → ⊥
    by Less e h = cc
    by Equal e h = cc
    by Greater e h = false≢true (sym most ∙ greater_below n kept e)

pub has-follows : (m : ℕ) (xs ys : List NoteBody) (n : NoteBody) → IsKnownAmong m xs ys → HasAtLeast xs m n → HasAtLeast ys m n
has-follows m xs ys n f h =
    let k = f h.kept h.is_newest in
    record { kept = k.kept; is_newest = k.is_newest; not_less = not_below-trans k.kept h.kept n k.not_less h.not_less }

-- What the other knows of the member whose note it is.
pub record IsNoteOf (s : Setting) (other : Node) (r : Record) (x : NoteBody) : Type 0 where
  pub is : r.body ≡ Note x
  pub cert : CertBody
  pub certified : certificate_of other x.member ≡ Some cert
  pub verifies : s.verifies cert.key r ≡ true
  pub allowed : note_mask s.group.t x.mask.0 ≡ true

note_fault-fine : (t : ℕ) (joined : Bool) (newest_note : Option NoteBody) (n : NoteBody) → joined ≡ true → note_mask t n.mask.0 ≡ true → fault_after newest_note n ≡ None → note_fault_by t joined newest_note n ≡ None
note_fault-fine t joined newest_note n j g h = rw (j, g) h

own_ahead-fine : (me : ℕ) (o : Option NoteBody) (n : NoteBody) → (eqb n.member me ≡ true → ⊥) → own_ahead me o n ≡ None
own_ahead-fine me o n other =
    cond_both (eqb n.member me) (option_map (λ kept. faults.OwnAhead kept n) o) None (λ f. f ≡ None) (λ yes. absurd (other yes)) (λ no. refl)

note-fine : (s : Setting) (n : Node) (r : Record) (x : NoteBody) (key : Key) → r.body ≡ Note x → note_fault s.group.t (state_of s n) x ≡ None → public_key_of n x.member ≡ Some key → s.verifies key r ≡ true
    → own_ahead s.me (newest (state_of s n).notes s.me) x ≡ None → refusal s n r ≡ None
unfolding refusal
note-fine s n r x key is fine author verifies not_ahead =
    ap (refusal_of s n r) is
    ∙ ap (λ o. option_or o (option_or (signature_fault s.verifies (public_key_of n x.member) r) (own_ahead s.me (newest (state_of s n).notes s.me) x))) fine
    ∙ ap (λ o. option_or (signature_fault s.verifies o r) (own_ahead s.me (newest (state_of s n).notes s.me) x)) author
    ∙ ap (λ b. option_or (cond b None (Some faults.BadSignature)) (own_ahead s.me (newest (state_of s n).notes s.me) x)) verifies
    ∙ not_ahead

notes-taken : (s : Setting) (r : Record) (x : NoteBody) (c : Call) → r.body ≡ Note x → note_fault s.group.t (state_of s c.node) x ≡ None → fault_after (newest (state_of s c.node).notes x.member) x ≡ None
    → newest (state_of s (takes s r c).node).notes x.member ≡ Some x
notes-taken s r x c is fine later =
    let st = state_of s c.node in
    let at : state_of s (takes s r c).node ≡ (after_note st x).state =
    state-takes s r c ∙ ap (λ b. (step s.group st (event_of s b)).state) is ∙ ap (λ (y : Stepped). y.state) (unless-none (note_fault s.group.t st x) st (after_note st x) fine) in
    ap (λ (y : State). newest y.notes x.member) at
    ∙ ap (λ b. cond b (Some (greater_note x (newest st.notes x.member))) (newest st.notes x.member)) (eq-eqb x.member x.member refl)
    ∙ ap (λ n. Some n) (greater-accepted x (newest st.notes x.member) later)

-- It is handled where a certificate is known: from then on a note at least as great is known.
pub notes : (s : Setting) (own : Key) (other earlier : Node) (c : Call) (r : Record) (x : NoteBody) → IsNoteOf s other r x → Stands s own other earlier c → is_certified c.node x.member ≡ true
    → (x.member ≡ s.me → HasAtLeast (state_of s c.node).notes s.me x) → HasAtLeast (state_of s (handles true s c r).node).notes x.member x
notes s own other earlier c r x of h certified own_known =
    let st = state_of s c.node in
    elim (compared (newest st.notes x.member) x) [
      | known kept e most ↦
          has-follows x.member st.notes (state_of s (handles true s c r).node).notes x ((follows-handles s c r).notes x.member) (record { kept = kept; is_newest = e; not_less = most })
      | greater later ↦
          let joined : is_member st x.member ≡ true = sym (h.all.upholds.members x.member) ∙ certified in
          let fine : note_fault s.group.t st x ≡ None = note_fault-fine s.group.t (is_member st x.member) (newest st.notes x.member) x joined of.allowed later in
          let author : public_key_of c.node x.member ≡ Some of.cert.key = key (certificate_of c.node x.member) refl in
          let ahead : own_ahead s.me (newest st.notes s.me) x ≡ None = own_ahead-fine s.me (newest st.notes s.me) x (λ mine. not_own later (eqb-true x.member s.me mine)) in
          let accepted : refusal s c.node r ≡ None = note-fine s c.node r x of.cert.key of.is fine author of.verifies ahead in
          let c1 : Call = tells s (told.Took r.body None) c in
          let whole : (handles true s c r).node ≡ (takes s r c1).node =
          ap (λ (d : Call). d.node) (handled-fine s c r accepted) ∙ ap (λ b. (gives_note true s (asked_with s c.node None b r) (takes s r c1)).node) of.is in
          record {
            kept = x;
            is_newest = ap (λ n. newest (state_of s n).notes x.member) whole ∙ notes-taken s r x c1 of.is fine later;
            not_less = below-itself x;
          }
    ]
  where
    key : (o : Option CertBody) → certificate_of c.node x.member ≡ o → public_key_of c.node x.member ≡ Some of.cert.key
    key None e = absurd (false≢true (sym (ap is_some e) ∙ certified))
    key (Some d) e = ap (option_map (λ q. q.key)) e ∙ ap (λ (q : CertBody). Some q.key) (sym (h.agrees x.member of.cert d of.certified e))

    not_own : fault_after (newest (state_of s c.node).notes x.member) x ≡ None → x.member ≡ s.me → ⊥
    not_own later mine =
        let k = own_known mine in
        not_after x k.kept (sym (ap (λ o. fault_after o x) (ap (newest (state_of s c.node).notes) mine ∙ k.is_newest)) ∙ later) k.not_less
