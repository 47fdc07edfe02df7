-- Records that are handled, and answers.
use Rattle.std.proofs.Common.{zero, ◌≡◌, ◌≢◌, ℕ, ◌+◌, ◌<◌, ◌≤◌, Bool, true, false, not, cond, eqb, leb, List, [], ◌∷◌, ◌++◌, length, suc, Option, Some, None, refl, ap, sym, ◌∙◌, subst, arith, eq-eqb, Result, Ok, Err}
use Rattle.std.proofs.lemmas.Bool.{false≢true, leb-false}
use Rattle.std.proofs.lemmas.Bool.Decides.{nat_tests}
use Rattle.std.specs.Prelude.{fold, All, take, ◌&&◌, ◌||◌, ◌==◌, is_some, nat_lt}
use Rattle.std.specs.Option.{option_map}
use Rattle.ff_ids.specs.declared.AccBody.{AccBody}
use Rattle.ff_ids.specs.declared.Mask.{Mask}
use Rattle.ff_ids.specs.declared.NoteBody.{NoteBody}
use Rattle.ff_ids.specs.Heals.{Heal}
use Rattle.ff_ids.specs.declared.Group.{Group}
use Rattle.ff_ids.specs.declared.Fault.{Fault}
use Rattle.ff_ids.specs.Masks.{ring_count}
use Rattle.membership.specs.Life.{Life, facts_in, accusation_fault_in}
use Rattle.records.specs.declared.CertBody.{CertBody}
use Rattle.records.specs.declared.Body.{Body}
use Rattle.records.specs.declared.Body.TheVariants.{Certificate, Note, Accusation}
use Rattle.records.specs.declared.Record.{Record}
use Rattle.epoch_store.specs.declared.Stored.{Stored}
use Rattle.rebuttal.specs.Rebuttals.{answering_mask}
use Rattle.journal.specs.declared.event.Event as journal
use Rattle.journal.specs.declared.event.What.TheVariants as told
use Rattle.node_rules.specs.Nodes.{Setting, Node, certificate_of}
use Rattle.node_rules.specs.Refusals.{refusal, refusal_of}
use Rattle.node_rules.specs.Calls.{Call, tells, takes, lives, wants}
use Rattle.node_rules.specs.Deliveries.{answering_note, returning_note, may_rise, is_told, asked_with, gives_note, judged, handles, hears}
use Rattle.datagram.specs.declared.Datagram.{Datagram}
use Rattle.datagram.specs.Grammar.{GivesDatagram}
use Rattle.records.specs.declared.fault.FormFault.{FormFault}
use Rattle.records.specs.declared.fault.FormFault.TheVariants as forms
use Rattle.node_rules.proofs.OwnNote.{option_or-none}
use Rattle.audit_node.specs.Playing.{Kept, IsMirror, Plays}
use Rattle.audit_node.specs.Neighbours.{addressees}
use Rattle.audit_node.specs.Signatures.{next_own}
use Rattle.audit_node.specs.Returning.{asks_return}
use Rattle.audit_node.proofs.PlayLemmas.{setting-group, setting-me}
use Rattle.audit_node.proofs.ReturnLemmas.{and-off}

-- ---- answers

pub not-against : (s : Setting) (v : Kept) (n : Node) (a : AccBody) → IsMirror s v n → a.accused ≢ v.me → eqb a.accused s.me ≡ false
not-against s v n a is apart =
    ap (λ m. eqb a.accused m) (setting-me s v n is) ∙ off a.accused v.me apart
  where
    off : (x y : ℕ) → x ≢ y → eqb x y ≡ false
    off x y h = grind (arith, nat_tests, h)

-- no answer is asked
pub asked-none : (s : Setting) (n : Node) (a : AccBody) (r : Record) → (eqb a.accused s.me && may_rise s.heal n) ≡ false
    → asked_with s n None (Accusation a) r ≡ None
asked-none s n a r off = rw off refl

pub asked-other : (s : Setting) (v : Kept) (n : Node) (a : AccBody) (r : Record) → IsMirror s v n → a.accused ≢ v.me
    → asked_with s n None (Accusation a) r ≡ None
asked-other s v n a r is apart = asked-none s n a r (and-off _ _ (not-against s v n a is apart))

pub asked-late : (s : Setting) (n : Node) (a : AccBody) (r : Record) → may_rise s.heal n ≡ false
    → asked_with s n None (Accusation a) r ≡ None
asked-late s n a r off = asked-none s n a r (both-off (eqb a.accused s.me) off)
  where
    both-off : (b : Bool) {c : Bool} → c ≡ false → (b && c) ≡ false
    both-off true off = off
    both-off false off = refl

asked-both : (s : Setting) (n : Node) (a : AccBody) (r : Record) → eqb a.accused s.me ≡ true → may_rise s.heal n ≡ true
    → asked_with s n None (Accusation a) r ≡ Some (answering_note s n.stored a)
asked-both s n a r who rises = rw (who, rises) refl

-- the answer to an accusation against this node, as it is wanted
pub answers-is : (s : Setting) (v : Kept) (c : Call) (a : AccBody) (r : Record) (mask : Mask) (works : Bool)
    → IsMirror s v c.node → a.accused ≡ v.me → may_rise s.heal c.node ≡ true
    → mask.0 ≡ answering_mask v.group.t v.stored.mask.0 a.ring.0
    → wants works s (next_own s c.node mask) (addressees s None) c ≡ gives_note works s (asked_with s c.node None (Accusation a) r) c
answers-is s v c a r mask works n who rises exact =
    let g : v.group ≡ s.group = sym (setting-group s v c.node n) in
    let me : v.me ≡ s.me = sym (setting-me s v c.node n) in
    let value : mask.0 ≡ answering_mask s.group.t c.node.stored.mask.0 a.ring.0 =
    exact
    ∙ ap (λ (x : Group). answering_mask x.t v.stored.mask.0 a.ring.0) g ∙ ap (λ (x : Stored). answering_mask s.group.t x.mask.0 a.ring.0) n.stored in
    let note : ℕ → NoteBody = λ k. record { member = s.me; epoch = c.node.stored.epoch + 1; mask = record { 0 = k } } in
    ap (λ (k : ℕ). gives_note works s (Some (note k)) c) value
    ∙ ap (λ (o : Option NoteBody). gives_note works s o c) (sym (asked-both s c.node a r (eq-eqb a.accused s.me (who ∙ me)) rises))

rise-same : (heal : Option Heal) (m n : Node) → m.stored ≡ n.stored → m.since ≡ n.since → may_rise heal m ≡ may_rise heal n
rise-same None m n stored since = refl
rise-same (Some heal) m n stored since =
    ap (λ (x : Stored). (heal.most == 0) || nat_lt x.epoch (m.since + heal.most)) stored
    ∙ ap (λ (k : ℕ). (heal.most == 0) || nat_lt n.stored.epoch (k + heal.most)) since

-- what is accepted changes no answer that is asked
pub asked-taken : (s : Setting) (c : Call) (b : Body) (r : Record)
    → asked_with s (takes s r c).node None b r ≡ asked_with s c.node None b r
unfolding takes lives
asked-taken s c (Certificate x) r = refl
asked-taken s c (Note note) r = refl
asked-taken s c (Accusation a) r =
    ap (λ (m : Bool). cond (eqb a.accused s.me && m) (Some (answering_note s c.node.stored a)) None)
    (rise-same s.heal _ c.node refl refl)

-- ---- a record that is settled

pub handles-accepts : (works : Bool) (s : Setting) (c : Call) (r : Record) → refusal s c.node r ≡ None
    → handles works s c r ≡ gives_note works s (asked_with s c.node None r.body r) (takes s r (tells s (told.Took r.body None) c))
unfolding handles
handles-accepts works s c r fine = ap (λ f. judged works s f r c) fine

pub handles-refuses : (works : Bool) (s : Setting) (c : Call) (r : Record) (f : Fault) → refusal s c.node r ≡ Some f
    → handles works s c r ≡ gives_note works s (asked_with s c.node (Some f) r.body r) (tells s (told.Took r.body (Some f)) c)
unfolding handles
handles-refuses works s c r f fault = ap (λ f. judged works s f r c) fault

-- ---- a note to come back

told-some : (s : Setting) (n : Node) (f : Fault) (a : AccBody) (r : Record) (may told : Bool)
    → is_some (cond may (cond told (Some (returning_note s n.stored)) None) None) ≡ true
    → cond may (cond told (Some (returning_note s n.stored)) None) None ≡ Some (returning_note s n.stored)
told-some s n f a r true true is = refl
told-some s n f a r true false is = absurd (false≢true is)
told-some s n f a r false told is = absurd (false≢true is)

asked-some : (s : Setting) (n : Node) (f : Fault) (b : Body) (r : Record) → is_some (asked_with s n (Some f) b r) ≡ true
    → asked_with s n (Some f) b r ≡ Some (returning_note s n.stored)
asked-some s n f (Certificate x) r is = absurd (false≢true is)
asked-some s n f (Note note) r is = absurd (false≢true is)
asked-some s n f (Accusation a) r is = told-some s n f a r (eqb a.accused s.me && may_rise s.heal n) (is_told s n f a r) is

none-of : {X : Type 0} (o : Option X) → is_some o ≡ false → o ≡ None
none-of None h = refl
none-of (Some x) h = absurd (false≢true (sym h))

-- the note to come back, as it is wanted behind the refusal
pub returns-is : (works : Bool) (s : Setting) (v : Kept) (c : Call) (r : Record) (f : Fault) (mask : Mask) → IsMirror s v c.node
    → refusal s c.node r ≡ Some f → asks_return s c.node (Some f) r ≡ true → mask ≡ v.stored.mask
    → wants works s (next_own s c.node mask) (addressees s None) (tells s (told.Took r.body (Some f)) c) ≡ handles works s c r
returns-is works s v c r f mask n fault asks same =
    let c1 : Call = tells s (told.Took r.body (Some f)) c in
    let note : Mask → NoteBody = λ m. record { member = s.me; epoch = c.node.stored.epoch + 1; mask = m } in
    ap (λ (m : Mask). gives_note works s (Some (note m)) c1) (same ∙ ap (λ (x : Stored). x.mask) n.stored)
    ∙ ap (λ (o : Option NoteBody). gives_note works s o c1) (sym (asked-some s c.node f r.body r asks))
    ∙ sym (handles-refuses works s c r f fault)

-- and where none is asked
pub refuses-is : (works : Bool) (s : Setting) (c : Call) (r : Record) (f : Fault) → refusal s c.node r ≡ Some f
    → asks_return s c.node (Some f) r ≡ false → tells s (told.Took r.body (Some f)) c ≡ handles works s c r
refuses-is works s c r f fault asks =
    let c1 : Call = tells s (told.Took r.body (Some f)) c in
    ap (λ (o : Option NoteBody). gives_note works s o c1) (sym (none-of (asked_with s c.node (Some f) r.body r) asks))
    ∙ sym (handles-refuses works s c r f fault)

-- ---- records

map-none : {X Y : Type 0} (f : X → Y) (o : Option X) → option_map f o ≡ None → o ≡ None
map-none f None h = refl
map-none f (Some x) h = cc

pub free-of : (s : Setting) (n : Node) (r : Record) (x : CertBody) → refusal s n r ≡ None → r.body ≡ Certificate x → certificate_of n x.member ≡ None
unfolding refusal
free-of s n r x fine is =
    let fine2 : refusal_of s n r (Certificate x) ≡ None = sym (ap (refusal_of s n r) is) ∙ fine in
    map-none _ (certificate_of n x.member) (option_or-none _ _ fine2).0

passed : (b : Bool) (f : Fault) (later : Option Fault) → cond b (Some f) later ≡ None → (b ≡ false) × (later ≡ None)
passed true f later e = absurd cc
passed false f later e = (refl, e)

-- the ring of an accusation without a fault is one of the group
pub ring-in : (l : Life) (g : Group) (a : AccBody) → l.group ≡ g → accusation_fault_in l a ≡ None → a.ring.0 < ring_count g.t
ring-in l g a same none =
    let apart = passed (not (facts_in l a).both_joined) _ _ none in
    let ring = passed (eqb a.accuser a.accused) _ _ apart.1 in
    let low = passed (leb (ring_count l.group.t) a.ring.0) _ _ ring.1 in
    subst (λ (x : Group). a.ring.0 < ring_count x.t) same (leb-false (ring_count l.group.t) a.ring.0 low.0)

-- ---- records in turn

pub fold-push : {A B : Type 0} (f : B → A → B) (b : B) (xs : List A) (x : A) → fold f b (xs ++ x ∷ []) ≡ f (fold f b xs) x
fold-push f b [] x = refl
fold-push f b (y ∷ xs) x = fold-push f (f b y) xs x

pub all-tail : {X : Type 0} (P : X → Type 0) (x : X) (xs : List X) → All P (x ∷ xs) → All P xs
all-tail P x xs h = λ k d lt. h (suc k) d (omega (arith, lt))

pub all-head : {X : Type 0} (P : X → Type 0) (x : X) (xs : List X) → All P (x ∷ xs) → P x
all-head P x xs h = h 0 x (omega arith)

pub no_items : {X : Type 0} (xs : List X) → length xs ≡ 0 → xs ≡ []
no_items [] h = refl
no_items (x ∷ xs) h = absurd (omega (arith, h))

err-same : (x y : FormFault) → ◌≡◌ {A = Result Datagram FormFault} (Err x) (Err y) → x ≡ y
err-same x y e = cc

pub bad-same : (x y : ℕ) → forms.BadForm x ≡ forms.BadForm y → x ≡ y
bad-same x y e = cc

pub heard-by : (s : Setting) (es : List journal.Event) (v : Kept) (read : Result Datagram ℕ) (d : Datagram) (c : Call) → GivesDatagram read (Ok d) → Plays s es v (hears s (Ok d) c) → Plays s es v (hears s read c)
heard-by s es v (Ok x) d c gives p = subst (λ y. Plays s es v (hears s (Ok y) c)) gives p
heard-by s es v (Err place) d c gives p = cc

pub fault-heard : (s : Setting) (es : List journal.Event) (v : Kept) (read : Result Datagram ℕ) (place : ℕ) (c : Call) → GivesDatagram read (Err (forms.BadForm place)) → Plays s es v (tells s (told.BadForm place) c) → Plays s es v (hears s read c)
fault-heard s es v (Ok d) place c gives p = cc
fault-heard s es v (Err x) place c gives p = subst (λ (k : ℕ). Plays s es v (tells s (told.BadForm k) c)) (bad-same place x (err-same (forms.BadForm place) (forms.BadForm x) gives)) p

pub take-all : {X : Type 0} (n : ℕ) (xs : List X) → length xs ≤ n → take n xs ≡ xs
take-all zero [] h = refl
take-all zero (x ∷ xs) h = absurd (omega (arith, h))
take-all (suc n) [] h = refl
take-all (suc n) (x ∷ xs) h = ap (λ ys. x ∷ ys) (take-all n xs (omega (arith, h)))
