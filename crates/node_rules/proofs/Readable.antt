-- What a correct node sends of records is read as it sent it.
use Rattle.std.proofs.Common.{◌≡◌, ℕ, ◌+◌, ◌≤◌, ◌<◌, Bool, true, false, cond, filter, map, inl, inr, ◌⊎◌, List, [], ◌∷◌, ◌++◌, length, Some, refl, sym, ◌∙◌, subst, arith}
use Rattle.std.specs.List.{AllByRecursion, flat_map}
use Rattle.std.specs.Int.{w16, w32, w64, to_be_bytes}
use Rattle.std.proofs.lemmas.Bool.{cond_both, false≢true}
use Rattle.std.proofs.lemmas.List.{length-append}
use Rattle.ff_ids.specs.declared.TheConstants.{MEMBERS}
use Rattle.ff_ids.specs.declared.summary.RecordKey.{RecordKey}
use Rattle.ff_ids.specs.Masks.{is_wide}
use Rattle.records.specs.declared.keys.Key.{Key}
use Rattle.records.specs.declared.keys.Key.TheVariants as levels
use Rattle.records.specs.Keys.{IsKey, key_bytes}
use Rattle.records.proofs.KeyParts.{key-length}
use Rattle.records.specs.declared.Body.{Body}
use Rattle.records.specs.declared.Body.TheVariants.{Certificate, Note, Accusation}
use Rattle.records.specs.declared.Record.{Record}
use Rattle.records.specs.Spelling.{certificate_bytes, note_bytes, note_fields, accusation_bytes, body_bytes, record_bytes, IsBody}
use Rattle.datagram.specs.declared.Datagram.{Datagram}
use Rattle.datagram.specs.declared.Datagram.TheVariants as kinds
use Rattle.datagram.specs.Spelling.{datagram_bytes, IsSignedRecord, IsDatagram}
use Rattle.datagram.proofs.Readings.{read_again}
use Rattle.journal.specs.declared.event.Event as journal
use Rattle.journal.specs.declared.event.What as whats
use Rattle.journal.specs.declared.event.What.TheVariants as told
use Rattle.node_rules.specs.Nodes.{Setting, Node}
use Rattle.node_rules.specs.Pages.{room}
use Rattle.node_rules.specs.Calls.{Call, begun, lives, takes, signs, sends}
use Rattle.node_rules.specs.Ticking.{passed}
use Rattle.node_rules.specs.Lives.{Input, Delivers, Ticks as Tick, Leaves, call_of}
use Rattle.node_rules.specs.OneExchange.{node_after, IsOfBytes}
use Rattle.node_rules.specs.Readable.{AreRead, IsReadable, OfSent, SentRecordsAreRead, ToldRecordsAreRead}
use Rattle.node_rules.specs.Sending.{is_sent, sendings}
use Rattle.node_rules.proofs.Sendings.{call-sendings}
use Rattle.node_rules.proofs.Forms.{Formed, formed-life, keeping-life, read-formed}
use Rattle.node_rules.proofs.Sendable.{held-all, is-datagram}
use Rattle.node_rules.proofs.Walks.{KeepsNode, IsInput}
use Rattle.node_rules.proofs.Whole.{IsOfHeld, Goes, opens, goes-call}
use Rattle.node_rules.proofs.Told.{all-append}

-- ---- a record is short

key-short : (key : Key) → IsKey key → length (key_bytes key) ≤ 60
key-short (levels.Lms key) is = omega (arith, key-length (levels.Lms key) is)
key-short (levels.Hss key) is = omega (arith, key-length (levels.Hss key) is)

two : (n : ℕ) → length (to_be_bytes w16 n) ≡ 2
two n = refl

body-short : (b : Body) → IsBody b → length (body_bytes b) ≤ 100
unfolding certificate_bytes note_bytes accusation_bytes
body-short (Certificate c) is =
    omega (arith, key-short c.key is.key, length-append (to_be_bytes w16 c.member) (to_be_bytes w16 c.port ++ key_bytes c.key), length-append (to_be_bytes w16 c.port) (key_bytes c.key), two c.member, two c.port)
body-short (Note x) is = cond_both (is_wide x.mask.0) (4 ∷ note_fields w64 x) (2 ∷ note_fields w32 x) (λ bytes. length bytes ≤ 100) (λ yes. omega arith) (λ no. omega arith)
body-short (Accusation a) is = omega arith

record-short : (r : Record) → IsSignedRecord r → length (record_bytes r) ≤ 9200
record-short r is =
    let tail : List ℕ = to_be_bytes w16 (length r.signature) ++ r.signature in
    omega (arith, length-append (body_bytes r.body) tail, length-append (to_be_bytes w16 (length r.signature)) r.signature, two (length r.signature), body-short r.body is.body, is.signature.few)

all-short : (records : List Record) → AllByRecursion IsSignedRecord records → (length (flat_map record_bytes records) ≤ room) ⊎ (length records ≡ 1) → length (flat_map record_bytes records) ≤ room
all-short records all (inl short) = short
all-short [] all (inr one) = absurd (omega (arith, one))
all-short (r ∷ []) all (inr one) = omega (arith, length-append (record_bytes r) [], record-short r all.0)
all-short (r ∷ x ∷ records) all (inr one) = absurd (omega (arith, one))

-- ---- one datagram

abbrev pub AllFormed : Node → Type 0
AllFormed n = (k : RecordKey) (r : Record) → n.held k ≡ Some r → IsSignedRecord r

moved : (s : Setting) (bytes : List ℕ) (from x : ℕ) (records others : List Record) → kinds.Records from records ≡ kinds.Records x others → AreRead s bytes from records → AreRead s bytes x others
moved s bytes from x records others e h =
    let sender : from ≡ x = cc in
    let same : records ≡ others = cc in
    subst (λ rs. AreRead s bytes x rs) same (subst (λ k. AreRead s bytes k records) sender h)

-- records that are held are read
pub records-read : (s : Setting) (n : Node) (from : ℕ) (records : List Record) → s.me < MEMBERS → AllFormed n → IsOfHeld s n (kinds.Records from records) → AreRead s (datagram_bytes (kinds.Records from records)) from records
records-read s n from records me formed held =
    let all : AllByRecursion IsSignedRecord records = held-all IsSignedRecord n.held records formed held.each in
    let d : Datagram = kinds.Records from records in
    let is : IsDatagram (datagram_bytes d) d = is-datagram from records (subst (λ k. k < MEMBERS) (sym held.sender) me) held.some all (all-short records all held.short) in
    record { sender = held.sender; whole = is; read = read_again (datagram_bytes d) d is }

pub readable : (s : Setting) (n : Node) (d : Datagram) → s.me < MEMBERS → AllFormed n → IsOfHeld s n d → IsReadable s (datagram_bytes d)
readable s n (kinds.Ping from nonce) me formed held = record { datagram = kinds.Ping from nonce; spelled = refl; records = λ x records e. cc }
readable s n (kinds.Pong from nonce) me formed held = record { datagram = kinds.Pong from nonce; spelled = refl; records = λ x records e. cc }
readable s n (kinds.Summary from flag summary) me formed held = record { datagram = kinds.Summary from flag summary; spelled = refl; records = λ x records e. cc }
readable s n (kinds.Records from records) me formed held =
    let d : Datagram = kinds.Records from records in
    record { datagram = d; spelled = refl; records = λ x others e. moved s (datagram_bytes d) from x records others e (records-read s n from records me formed held) }

-- ---- so far

-- What the call has sent is so, and the node.
record Sends (P : List ℕ → Type 0) (Q : Node → Type 0) (c : Call) : Type 0 where
  node : Q c.node
  sent : AllByRecursion (λ d. P d.1) c.sent

-- the bytes of what such a node holds are so
abbrev pub Fits : (List ℕ → Type 0) → (Node → Type 0) → Setting → Type 0
Fits P Q s = (n : Node) (d : Datagram) → Q n → IsOfHeld s n d → P (datagram_bytes d)

sends-more : (P : List ℕ → Type 0) (Q : Node → Type 0) (s : Setting) (d : Datagram) (c : Call) (to : ℕ) → Fits P Q s → IsOfHeld s c.node d → Sends P Q c → Sends P Q (sends s d c to)
unfolding sends
sends-more P Q s d c to fits held h =
    record { node = h.node; sent = all-append (λ (x : ℕ × List ℕ). P x.1) c.sent ((to, datagram_bytes d) ∷ []) h.sent (fits c.node d h.node held, tt) }

sent-takes : (s : Setting) (r : Record) (c : Call) → (takes s r c).sent ≡ c.sent
unfolding takes lives
sent-takes s r c = refl

sent-signs : (s : Setting) (body : Body) (c : Call) → (signs s body c).sent ≡ c.sent
unfolding signs takes lives
sent-signs s body c = refl

sent-passed : (s : Setting) (n : Node) → (passed s n).sent ≡ []
unfolding passed lives
sent-passed s n = refl

same-sent : (P : List ℕ → Type 0) (xs ys : List (ℕ × List ℕ)) → xs ≡ ys → AllByRecursion (λ (d : ℕ × List ℕ). P d.1) ys → AllByRecursion (λ (d : ℕ × List ℕ). P d.1) xs
same-sent P xs ys e all = subst (AllByRecursion (λ (d : ℕ × List ℕ). P d.1)) (sym e) all

going : (P : List ℕ → Type 0) (Q : Node → Type 0) (s : Setting) → Fits P Q s → KeepsNode s IsSignedRecord Q → Goes s IsSignedRecord (Sends P Q)
going P Q s fits k =
    record {
      told = λ what c of h. record { node = h.node; sent = h.sent };
      sent = λ d c to held h. sends-more P Q s d c to fits held h;
      taken = λ r c given fine h. record { node = k.taken r c given fine h.node; sent = same-sent P _ _ (sent-takes s r c) h.sent };
      answered = λ r a c given fine is mine may left h.
          record { node = k.answered r a c given fine is mine may left h.node; sent = same-sent P _ _ (sent-signs s _ (takes s r c) ∙ sent-takes s r c) h.sent };
      returned = λ r a c asks may left h. record { node = k.returned r a c asks may left h.node; sent = same-sent P _ _ (sent-signs s _ c) h.sent };
      accused = λ m ring c found left h. record { node = k.accused m ring c found left h.node; sent = same-sent P _ _ (sent-signs s _ c) h.sent };
      departed = λ c left h. record { node = k.departed c left h.node; sent = same-sent P _ _ (sent-signs s _ c) h.sent };
      probed = λ p c h. record { node = k.probed p c h.node; sent = h.sent };
      spanned = λ c h. record { node = k.spanned c h.node; sent = h.sent };
      spread = λ c h. record { node = k.spread c h.node; sent = h.sent };
    }

-- ---- calls

sends-passed : (P : List ℕ → Type 0) (Q : Node → Type 0) (s : Setting) (n : Node) → KeepsNode s IsSignedRecord Q → Q n → Sends P Q (passed s n)
unfolding passed
sends-passed P Q s n k h = record { node = k.passed (begun n) h; sent = same-sent P _ _ (sent-passed s n) tt }

sends-opens : (P : List ℕ → Type 0) (Q : Node → Type 0) (s : Setting) (n : Node) (i : Input) → KeepsNode s IsSignedRecord Q → Q n → Sends P Q (opens s n i)
sends-opens P Q s n (Delivers bytes) k h = record { node = h; sent = tt }
sends-opens P Q s n Tick k h = sends-passed P Q s n k h
sends-opens P Q s n Leaves k h = record { node = h; sent = tt }

input-formed : (i : Input) → IsOfBytes i → IsInput IsSignedRecord i
input-formed (Delivers bytes) fits = read-formed bytes fits
input-formed Tick fits = tt
input-formed Leaves fits = tt

-- what a call sends is so
pub sent-kept : (P : List ℕ → Type 0) (Q : Node → Type 0) (s : Setting) (n : Node) (i : Input) → Fits P Q s → KeepsNode s IsSignedRecord Q → IsOfBytes i → Q n → AllByRecursion (λ (d : ℕ × List ℕ). P d.1) (call_of s n i).sent
sent-kept P Q s n i fits k last h = (goes-call s IsSignedRecord (Sends P Q) (going P Q s fits k) n i (input-formed i last) (sends-opens P Q s n i k h)).sent

pub sent-read : SentRecordsAreRead
sent-read l inputs i is within bytes last =
    let Q : Node → Type 0 = Formed l.setting l.own in
    sent-kept (IsReadable l.setting) Q l.setting (node_after l inputs) i (λ n d h held. readable l.setting n d within.me h.held held) (keeping-life l is within) last (formed-life l inputs is within bytes)

-- ---- what is reported as sent

all-sendings : (P : List ℕ → Type 0) (place : ℕ) (sent : List (ℕ × List ℕ)) → AllByRecursion (λ (d : ℕ × List ℕ). P d.1) sent → AllByRecursion (OfSent P) (sendings place sent)
all-sendings P place [] all = tt
all-sendings P place (d ∷ sent) all = (all.0, all-sendings P (place + 1) sent all.1)

of-another : (P : List ℕ → Type 0) (w : whats.What) → is_sent w ≡ false → OfSent P w
of-another P (told.Sent number to bytes) h = absurd (false≢true (sym h))
of-another P other h = tt

in-front : (P : List ℕ → Type 0) (b : Bool) (e : journal.Event) (rest : List journal.Event) → is_sent e.what ≡ b → AllByRecursion (OfSent P) (map (λ (x : journal.Event). x.what) (cond b (e ∷ rest) rest))
    → OfSent P e.what × AllByRecursion (OfSent P) (map (λ (x : journal.Event). x.what) rest)
in-front P true e rest is all = (all.0, all.1)
in-front P false e rest is all = (of-another P e.what is, all)

all-told : (P : List ℕ → Type 0) (events : List journal.Event) → AllByRecursion (OfSent P) (map (λ (e : journal.Event). e.what) (filter (λ (e : journal.Event). is_sent e.what) events)) → AllByRecursion (λ (e : journal.Event). OfSent P e.what) events
all-told P [] all = tt
all-told P (e ∷ events) all =
    let both = in-front P (is_sent e.what) e (filter (λ (x : journal.Event). is_sent x.what) events) refl all in
    (both.0, all-told P events both.1)

pub told-sent : (P : List ℕ → Type 0) (s : Setting) (n : Node) (i : Input) → AllByRecursion (λ (d : ℕ × List ℕ). P d.1) (call_of s n i).sent → AllByRecursion (λ (e : journal.Event). OfSent P e.what) (call_of s n i).told
told-sent P s n i all = all-told P (call_of s n i).told (subst (AllByRecursion (OfSent P)) (sym (call-sendings s n i)) (all-sendings P 0 (call_of s n i).sent all))

pub told-read : ToldRecordsAreRead
told-read l inputs i is within bytes last = told-sent (IsReadable l.setting) l.setting (node_after l inputs) i (sent-read l inputs i is within bytes last)
