-- What is read in a datagram that a node sends as its own records verifies under its key.
use Rattle.std.proofs.Common.{◌≡◌, ℕ, ◌<◌, inl, inr, Bool, true, false, cond, List, [], ◌∷◌, ◌++◌, Option, Some, None, Result, Ok, Err, refl, ap, sym, ◌∙◌, subst}
use Rattle.std.specs.List.{AllByRecursion}
use Rattle.std.specs.Prelude.{slice_index}
use Rattle.std.specs.Int.{w16, w64}
use Rattle.ff_ids.specs.declared.TheConstants.{MEMBERS}
use Rattle.ff_ids.specs.declared.summary.RecordKey.{RecordKey}
use Rattle.ff_ids.specs.declared.summary.Summary.{Summary}
use Rattle.ff_ids.specs.Steps.{Event, Ticks}
use Rattle.fields.specs.Reading.{Reading, advanced, reading_of}
use Rattle.records.specs.declared.keys.Key.{Key}
use Rattle.records.specs.declared.CertBody.{CertBody}
use Rattle.records.specs.declared.Body.{Body}
use Rattle.records.specs.declared.Body.TheVariants.{Certificate, Note, Accusation}
use Rattle.records.specs.declared.Record.{Record}
use Rattle.records.specs.Grammar.{◌>>=◌, any_number, byte_at, kept, member_number, number_at, number_within}
use Rattle.records.proofs.Fields.{bind_ok, ok_is}
use Rattle.epoch_store.specs.declared.Stored.{Stored}
use Rattle.datagram.specs.declared.Datagram.{Datagram}
use Rattle.datagram.specs.declared.Datagram.TheVariants as kinds
use Rattle.datagram.specs.Spelling.{head_bytes, datagram_bytes, is_wide, summary_kind, IsSignedRecord}
use Rattle.datagram.specs.Grammar.{content_at, datagram_at, ended, head_at, letters, longest, read_of, summary_at, whole_of}
use Rattle.node_rules.specs.Nodes.{Setting, Node, Holding, public_key_of}
use Rattle.node_rules.specs.Refusals.{refusal}
use Rattle.node_rules.specs.Calls.{Call, begun, is_used_up, lives, own_record, signs, spends, takes}
use Rattle.node_rules.specs.Starting.{blank, first_note, opened, started}
use Rattle.node_rules.specs.Lives.{AreCertificates, life_of}
use Rattle.node_rules.specs.Vouching.{IsAuthentic, OwnSignaturesVerify, author_key}
use Rattle.node_rules.specs.Claims.{signer_of}
use Rattle.node_rules.specs.Readable.{OwnReadVerify, OwnRecordsVerify, OwnVerifies}
use Rattle.node_rules.proofs.Correctness.{index-left, takes_all}
use Rattle.node_rules.proofs.Forms.{inputs-formed}
use Rattle.node_rules.proofs.OwnKey.{KeepsKey, key-started, keeping-key, stored-opened}
use Rattle.node_rules.proofs.Readable.{AllFormed, records-read, sent-kept, told-sent}
use Rattle.node_rules.proofs.Sendable.{held-all}
use Rattle.node_rules.proofs.SentRecords.{authentic-accepted}
use Rattle.node_rules.proofs.Spelled.{IsOpened, Spelled, keeping-spelled, opened-spelled, spelled-started}
use Rattle.node_rules.proofs.Upholding.{none_some, was-lives, was-takes}
use Rattle.node_rules.proofs.Walks.{KeepsNode, walk-calls}
use Rattle.node_rules.proofs.Whole.{IsOfHeld}

-- ---- one record

same-key : (a b : Key) → Some a ≡ Some b → a ≡ b
same-key a b e = cc

same-number : (a b : ℕ) → Some a ≡ Some b → a ≡ b
same-number a b e = cc

no-number : {A : Type 0} (a : ℕ) → None ≡ Some a → A
no-number a e = cc

-- what verifies under its author's key, where that is the node
own-authentic : (s : Setting) (own : Key) (n : Node) (r : Record) (b : Body) → r.body ≡ b → KeepsKey s own n → IsAuthentic s n r → signer_of b ≡ Some s.me → s.verifies own r ≡ true
own-authentic s own n r (Certificate c) is key h who = no-number s.me who
own-authentic s own n r (Note x) is key h who =
    let held = sym (ap (public_key_of n) (same-number x.member s.me who) ∙ key.own_key) in
    let author : Some own ≡ Some h.key = held ∙ sym (ap (author_key s n) is) ∙ h.author_is in
    subst (λ (k : Key). s.verifies k r ≡ true) (sym (same-key own h.key author)) h.verifies
own-authentic s own n r (Accusation a) is key h who =
    let held = sym (ap (public_key_of n) (same-number a.accuser s.me who) ∙ key.own_key) in
    let author : Some own ≡ Some h.key = held ∙ sym (ap (author_key s n) is) ∙ h.author_is in
    subst (λ (k : Key). s.verifies k r ≡ true) (sym (same-key own h.key author)) h.verifies

own-accepted : (s : Setting) (own : Key) (n : Node) (r : Record) → KeepsKey s own n → refusal s n r ≡ None → OwnVerifies s own r
own-accepted s own n r key fine who = own-authentic s own n r r.body refl key (authentic-accepted s n r r.body refl fine) who

own-certificate : (s : Setting) (own : Key) (r : Record) → (c : CertBody) × (r.body ≡ Certificate c) → OwnVerifies s own r
own-certificate s own r c who = no-number s.me (sym (ap signer_of c.1) ∙ who)

-- ---- what is held

abbrev HoldsOwn : Setting → Key → Holding → Type 0
HoldsOwn s own held = (k : RecordKey) (r : Record) → held k ≡ Some r → OwnVerifies s own r

own-lives : (s : Setting) (own : Key) (e : Event) (c : Call) → HoldsOwn s own c.node.held → HoldsOwn s own (lives s e c).node.held
own-lives s own e c h = λ k r is. let before = was-lives s e c k r is in h before.0 r before.1

own-takes : (s : Setting) (own : Key) (r : Record) (c : Call) → OwnVerifies s own r → HoldsOwn s own c.node.held → HoldsOwn s own (takes s r c).node.held
own-takes s own r c this h = λ k x is. elim (was-takes s r c k x is) [ inl same ↦ subst (OwnVerifies s own) same this | inr before ↦ h before.0 x before.1 ]

own-signs : (s : Setting) (own : Key) (b : Body) (c : Call) → OwnSignaturesVerify s own → KeepsKey s own c.node → is_used_up s c.node ≡ false → HoldsOwn s own c.node.held → HoldsOwn s own (signs s b c).node.held
unfolding signs
own-signs s own b c sign key left h =
    own-takes s own (own_record s c.node b) (spends s b c) (λ who. sign c.node.stored.next b (index-left s c.node left key.within)) h

-- ---- a node

record Upright (s : Setting) (own : Key) (n : Node) : Type 0 where
  spelled : Spelled s n
  key : KeepsKey s own n
  own_held : HoldsOwn s own n.held

keeping-upright : (s : Setting) (own : Key) → IsOpened s → OwnSignaturesVerify s own → KeepsNode s IsSignedRecord (Upright s own)
keeping-upright s own is sign =
    let k = keeping-spelled s is in
    let keys = keeping-key s own in
    record {
      taken = λ r c given fine h.
          record { spelled = k.taken r c given fine h.spelled; key = keys.taken r c fine h.key; own_held = own-takes s own r c (own-accepted s own c.node r h.key fine) h.own_held };
      answered = λ r a c given fine about me may left h.
          record {
            spelled = k.answered r a c given fine about me may left h.spelled;
            key = keys.answered r a c fine about me may left h.key;
            own_held = own-signs s own _ (takes s r c) sign (keys.taken r c fine h.key) left (own-takes s own r c (own-accepted s own c.node r h.key fine) h.own_held);
          };
      returned = λ r a c asks may left h.
          record { spelled = k.returned r a c asks may left h.spelled; key = keys.returned r a c asks may left h.key; own_held = own-signs s own _ c sign h.key left h.own_held };
      accused = λ m ring c found left h.
          record { spelled = k.accused m ring c found left h.spelled; key = keys.accused _ c refl left h.key; own_held = own-signs s own _ c sign h.key left h.own_held };
      departed = λ c left h. record { spelled = k.departed c left h.spelled; key = keys.departed c left h.key; own_held = own-signs s own _ c sign h.key left h.own_held };
      passed = λ c h. record { spelled = k.passed c h.spelled; key = keys.passed c h.key; own_held = own-lives s own Ticks c h.own_held };
      probed = λ p c h. record { spelled = k.probed p c h.spelled; key = keys.probed p c h.key; own_held = h.own_held };
      spanned = λ c h. record { spelled = k.spanned c h.spelled; key = keys.spanned c h.key; own_held = h.own_held };
      spread = λ c h. record { spelled = k.spread c h.spelled; key = keys.spread c h.key; own_held = h.own_held };
    }

-- ---- the start

own-kit : (s : Setting) (own : Key) (records : List Record) (c : Call) → AreCertificates records → HoldsOwn s own c.node.held → HoldsOwn s own (takes_all s records c).node.held
own-kit s own [] c all h = h
own-kit s own (r ∷ records) c all h = own-kit s own records (takes s r c) all.1 (own-takes s own r c (own-certificate s own r all.0) h)

own-started : (s : Setting) (own : Key) (nonces : ℕ → ℕ) (certificates : List Record) (stored : Stored) → AreCertificates certificates → OwnSignaturesVerify s own → stored.next < s.indexes → (opened s nonces certificates stored).node.stored ≡ stored
    → HoldsOwn s own (started s nonces certificates stored).node.held
unfolding started signs
own-started s own nonces certificates stored all sign left kept =
    let c : Call = opened s nonces certificates stored in
    own-takes s own (own_record s c.node (first_note s stored)) (spends s (first_note s stored) c)
    (λ who. sign c.node.stored.next (first_note s stored) (subst (λ (k : Stored). k.next < s.indexes) (sym kept) left))
    (own-kit s own certificates (begun (blank s nonces stored)) all (λ k r some. absurd (none_some r some)))

-- ---- what is read

same-read : (d e : Datagram) → ◌≡◌ {A = Result Datagram ℕ} (Ok d) (Ok e) → d ≡ e
same-read d e is = cc

same-records : (from x : ℕ) (records others : List Record) → kinds.Records from records ≡ kinds.Records x others → records ≡ others
same-records from x records others e = cc

-- the parts of a reading of the whole
within-ok : (b : Bool) (r : Result Datagram ℕ) (d : Datagram) → cond b (Err longest) r ≡ Ok d → r ≡ Ok d
within-ok true r d e = cc
within-ok false r d e = e

ended-ok : (b : Bool) (x : Datagram × Reading) (d : Datagram) → ◌≡◌ {A = Result Datagram ℕ} (cond b (Ok x.0) (Err x.1.place)) (Ok d) → x.0 ≡ d
ended-ok true x d e = same-read x.0 d e
ended-ok false x d e = cc

whole-read : (bytes : List ℕ) (d : Datagram) → read_of bytes ≡ Ok d → (left : Reading) × (datagram_at (reading_of bytes) ≡ Ok (d, left))
unfolding read_of whole_of
whole-read bytes d e =
    let a = bind_ok (datagram_at (reading_of bytes)) ended d (within-ok _ _ d e) in
    (a.0.1, a.1 ∙ ap (λ (x : Datagram). Ok (x, a.0.1)) (ended-ok _ a.0 d a.2))

abbrev with_rest : Datagram → Reading → Result (Datagram × Reading) ℕ
with_rest d left = Ok (d, left)

same-first : (d e : Datagram) (r s : Reading) → with_rest d r ≡ with_rest e s → d ≡ e
same-first d e r s is = ap (λ (p : Datagram × Reading). p.0) (ok_is (d, r) (e, s) is)

no-ping : (from nonce x : ℕ) (records : List Record) → kinds.Ping from nonce ≡ kinds.Records x records → ⊥
no-ping from nonce x records e = cc

no-pong : (from nonce x : ℕ) (records : List Record) → kinds.Pong from nonce ≡ kinds.Records x records → ⊥
no-pong from nonce x records e = cc

no-summary : (from : ℕ) (flag : Bool) (summary : Summary) (x : ℕ) (records : List Record) → kinds.Summary from flag summary ≡ kinds.Records x records → ⊥
no-summary from flag summary x records e = cc

-- what is behind the head of such a kind
abbrev IsOther : ℕ → Type 0
IsOther kind = (from : ℕ) (r : Reading) (x : ℕ) (records : List Record) (s : Reading) → content_at kind from r ≡ with_rest (kinds.Records x records) s → ⊥

other-ping : IsOther 1
unfolding content_at
other-ping from r x records s e =
    let a = bind_ok (number_at w64 any_number r) (λ n. with_rest (kinds.Ping from n.0) n.1) (kinds.Records x records, s) e in
    no-ping from a.0.0 x records (same-first (kinds.Ping from a.0.0) (kinds.Records x records) a.0.1 s a.2)

other-pong : IsOther 2
unfolding content_at
other-pong from r x records s e =
    let a = bind_ok (number_at w64 any_number r) (λ n. with_rest (kinds.Pong from n.0) n.1) (kinds.Records x records, s) e in
    no-pong from a.0.0 x records (same-first (kinds.Pong from a.0.0) (kinds.Records x records) a.0.1 s a.2)

other-narrow : IsOther 3
unfolding content_at
other-narrow from r x records s e =
    let a = bind_ok (summary_at false r) (λ q. with_rest (kinds.Summary from q.0.0 q.0.1) q.1) (kinds.Records x records, s) e in
    no-summary from a.0.0.0 a.0.0.1 x records (same-first (kinds.Summary from a.0.0.0 a.0.0.1) (kinds.Records x records) a.0.1 s a.2)

other-wide : IsOther 5
unfolding content_at
other-wide from r x records s e =
    let a = bind_ok (summary_at true r) (λ q. with_rest (kinds.Summary from q.0.0 q.0.1) q.1) (kinds.Records x records, s) e in
    no-summary from a.0.0.0 a.0.0.1 x records (same-first (kinds.Summary from a.0.0.0 a.0.0.1) (kinds.Records x records) a.0.1 s a.2)

-- ---- the kind of a datagram

-- where the test of its length was passed
guarded : {A : Type 0} (b : Bool) (place : ℕ) (r : Result A ℕ) (y : A) → cond b (Err place) r ≡ Ok y → r ≡ Ok y
guarded true place r y e = absurd cc
guarded false place r y e = e

kept-on : {A : Type 0} (n : ℕ) (r : Reading) (o : Option A) (y : A × Reading) → kept n r o ≡ Ok y → (o ≡ Some y.0) × (advanced n r ≡ y.1)
kept-on n r (Some x) y e = let same = ok_is (x, advanced n r) y e in (ap (λ p. Some p.0) same, ap (λ p. p.1) same)
kept-on n r None y e = absurd cc

within-is : (b : Bool) (n x : ℕ) → cond b (Some n) None ≡ Some x → n ≡ x
within-is true n x e = same-number n x e
within-is false n x e = no-number x e

-- a number of two bytes, and a byte
behind-number : (rule : ℕ → Option ℕ) (r : Reading) (x : ℕ) (s : Reading) → number_at w16 rule r ≡ Ok (x, s) → advanced 2 r ≡ s
behind-number rule r x s e = (kept-on 2 r _ (x, s) (guarded _ r.place _ (x, s) e)).1

behind-byte : (least most : ℕ) (r : Reading) (x : ℕ) (s : Reading) → byte_at (number_within least most) r ≡ Ok (x, s) → (slice_index r.left 0 ≡ x) × (advanced 1 r ≡ s)
behind-byte least most r x s e =
    let k = kept-on 1 r (number_within least most (slice_index r.left 0)) (x, s) (guarded _ r.place _ (x, s) e) in
    (within-is _ (slice_index r.left 0) x k.0, k.1)

-- the fields of a head behind its letters, its version, and its kind
from_at : ℕ → Reading → Result ((ℕ × ℕ) × Reading) ℕ
from_at kind r = number_at w16 member_number r >>= λ from. Ok ((kind, from.0), from.1)

kind_at : Reading → Result ((ℕ × ℕ) × Reading) ℕ
kind_at r = byte_at (number_within 1 5) r >>= λ kind. from_at kind.0 kind.1

version_at : Reading → Result ((ℕ × ℕ) × Reading) ℕ
version_at r = byte_at (number_within 1 1) r >>= λ version. kind_at version.1

-- the byte behind the letters and the version
abbrev kind_in : Reading → ℕ
kind_in r = slice_index (advanced 1 (advanced 2 r)).left 0

head-kind : (r : Reading) (h : ℕ × ℕ) (s : Reading) → head_at r ≡ Ok (h, s) → kind_in r ≡ h.0
unfolding head_at from_at kind_at version_at
head-kind r h s e =
    let a = bind_ok (number_at w16 (number_within letters letters) r) (λ name. version_at name.1) (h, s) e in
    let b = bind_ok (byte_at (number_within 1 1) a.0.1) (λ version. kind_at version.1) (h, s) a.2 in
    let c = bind_ok (byte_at (number_within 1 5) b.0.1) (λ kind. from_at kind.0 kind.1) (h, s) b.2 in
    let d = bind_ok (number_at w16 member_number c.0.1) (λ from. Ok ((c.0.0, from.0), from.1)) (h, s) c.2 in
    let letters_read = behind-number (number_within letters letters) r a.0.0 a.0.1 a.1 in
    let version_read = behind-byte 1 1 a.0.1 b.0.0 b.0.1 b.1 in
    let kind_read = behind-byte 1 5 b.0.1 c.0.0 c.0.1 c.1 in
    ap (λ (x : Reading). slice_index (advanced 1 x).left 0) letters_read ∙ ap (λ (x : Reading). slice_index x.left 0) version_read.1 ∙ kind_read.0
    ∙ ap (λ (x : (ℕ × ℕ) × Reading). x.0.0) (ok_is ((c.0.0, d.0.0), d.0.1) (h, s) d.2)

-- no records are read in the bytes
abbrev NoneRead : List ℕ → Type 0
NoneRead bytes = (x : ℕ) (records : List Record) → read_of bytes ≡ Ok (kinds.Records x records) → ⊥

none-read : (kind : ℕ) (bytes : List ℕ) → IsOther kind → kind_in (reading_of bytes) ≡ kind → NoneRead bytes
unfolding datagram_at
none-read kind bytes other is x records e =
    let a = whole-read bytes (kinds.Records x records) e in
    let h = bind_ok (head_at (reading_of bytes)) (λ head. content_at head.0.0 head.0.1 head.1) (kinds.Records x records, a.0) a.1 in
    let same : kind ≡ h.0.0.0 = sym is ∙ head-kind (reading_of bytes) h.0.0 h.0.1 h.1 in
    other h.0.0.1 h.0.1 x records a.0 (subst (λ (k : ℕ). content_at k h.0.0.1 h.0.1 ≡ with_rest (kinds.Records x records) a.0) (sym same) h.2)

none-ping : (from : ℕ) (rest : List ℕ) → NoneRead (head_bytes 1 from ++ rest)
unfolding head_bytes
none-ping from rest = none-read 1 _ other-ping refl

none-pong : (from : ℕ) (rest : List ℕ) → NoneRead (head_bytes 2 from ++ rest)
unfolding head_bytes
none-pong from rest = none-read 2 _ other-pong refl

none-summary : (wide : Bool) (from : ℕ) (rest : List ℕ) → NoneRead (head_bytes (summary_kind wide) from ++ rest)
unfolding head_bytes
none-summary false from rest = none-read 3 _ other-narrow refl
none-summary true from rest = none-read 5 _ other-wide refl

own-read : (s : Setting) (own : Key) (n : Node) (d : Datagram) → s.me < MEMBERS → AllFormed n → HoldsOwn s own n.held → IsOfHeld s n d → OwnReadVerify s own (datagram_bytes d)
own-read s own n (kinds.Ping from nonce) me formed owns held x others e = absurd (none-ping from _ x others e)
own-read s own n (kinds.Pong from nonce) me formed owns held x others e = absurd (none-pong from _ x others e)
own-read s own n (kinds.Summary from flag summary) me formed owns held x others e = absurd (none-summary (is_wide summary) from _ x others e)
own-read s own n (kinds.Records from records) me formed owns held x others e =
    let d : Datagram = kinds.Records from records in
    let here = records-read s n from records me formed held in
    let same = same-records from x records others (same-read d (kinds.Records x others) (sym here.read ∙ e)) in
    subst (AllByRecursion (OwnVerifies s own)) same (held-all (OwnVerifies s own) n.held records owns held.each)

-- ---- lives

pub own-records : OwnRecordsVerify
own-records s own nonces certificates stored inputs i given certified sign bytes last =
    let is : IsOpened s = opened-spelled s certificates stored given in
    let n : Node = life_of s nonces certificates stored inputs in
    let k = keeping-upright s own is sign in
    let start : Upright s own (started s nonces certificates stored).node =
    record {
      spelled = spelled-started s nonces certificates stored is given;
      key = key-started s own nonces certificates stored given.kit.all given.kit.own certified given.left;
      own_held = own-started s own nonces certificates stored given.kit.all sign given.left (stored-opened s nonces certificates stored);
    } in
    let h : Upright s own n = walk-calls s IsSignedRecord (Upright s own) k (started s nonces certificates stored).node inputs (inputs-formed inputs bytes) start in
    told-sent (OwnReadVerify s own) s n i
    (sent-kept (OwnReadVerify s own) (Upright s own) s n i (λ m d upright held. own-read s own m d is.me upright.spelled.held upright.own_held held) k last h)
