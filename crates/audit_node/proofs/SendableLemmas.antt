-- What is owed can be read.
use Rattle.std.proofs.Common.{◌≡◌, ℕ, zero, suc, ◌+◌, ◌-◌, leb, ◌≤◌, ◌<◌, Bool, true, false, List, [], ◌∷◌, ◌++◌, length, drop, get_or, map, Some, refl, ap, sym, ◌∙◌, subst, arith}
use Rattle.std.specs.List.{AllByRecursion, flat_map}
use Rattle.std.specs.Int.{w16, w32, w64, to_be_bytes}
use Rattle.std.proofs.lemmas.Bool.{cond_both, false≢true, leb-true}
use Rattle.std.proofs.lemmas.List.Elements.{All-from_recursion}
use Rattle.node_rules.specs.Pages.{fitting}
use Rattle.std.proofs.lemmas.List.{append_assoc, length-append}
use Rattle.ff_ids.specs.declared.TheConstants.{MEMBERS}
use Rattle.ff_ids.specs.Masks.{is_wide}
use Rattle.ff_ids.specs.Steps.{Report}
use Rattle.records.proofs.Fields.{IsBytes}
use Rattle.records.specs.declared.Body.{Body}
use Rattle.records.specs.declared.Body.TheVariants.{Certificate, Note, Accusation}
use Rattle.records.specs.declared.Record.{Record}
use Rattle.records.specs.Spelling.{note_bytes, note_fields, accusation_bytes, body_bytes, record_bytes}
use Rattle.datagram.specs.declared.Datagram.{Datagram}
use Rattle.datagram.specs.declared.Datagram.TheVariants as kinds
use Rattle.datagram.specs.Spelling.{datagram_bytes, head_bytes, records_bytes, is_wide as is_wide_page, summary_kind, IsSignedRecord, IsDatagram}
use Rattle.datagram.proofs.Readings.{read_found}
use Rattle.journal.specs.declared.event.Event as journal
use Rattle.journal.specs.declared.event.What as whats
use Rattle.journal.specs.declared.event.What.TheVariants as told
use Rattle.node_rules.specs.Nodes.{Setting}
use Rattle.node_rules.specs.Calls.{told_of, whats_of}
use Rattle.node_rules.specs.Claims.{signer_of}
use Rattle.node_rules.specs.OtherNonces.{is_ping, is_of_ping, is_ping_sent}
use Rattle.node_rules.specs.Sending.{is_sent}
use Rattle.node_rules.proofs.PingsTold.{pings-apart}
use Rattle.node_rules.proofs.Told.{all-append}
use Rattle.audit_set.specs.declared.known.Unseen.{Unseen}
use Rattle.audit_node.specs.declared.owing.Item.TheVariants as parts
use Rattle.audit_node.specs.declared.owing.Owed.TheVariants as owings
use Rattle.audit_node.specs.declared.owing.OwedEvent.{OwedEvent}
use Rattle.audit_node.specs.Owing.{told_by, owed_as}
use Rattle.audit_node.specs.Sendable.{AreFair, AreSendable, IsFair, IsPlain, is_bare}
use Rattle.audit_node.specs.Playing.{IsOwn, Tells}
use Rattle.audit_node.proofs.TellingLemmas.{told-append}

-- ---- more is owed

drop-front : {X : Type 0} (n : ℕ) (xs ys : List X) → n ≤ length xs → drop n (xs ++ ys) ≡ drop n xs ++ ys
drop-front zero xs ys within = refl
drop-front (suc n) [] ys within = absurd (omega (arith, within))
drop-front (suc n) (x ∷ xs) ys within = drop-front n xs ys (omega (arith, within))

told-long : (s : Setting) (owed : List OwedEvent) → length (told_by s owed) ≡ length owed
told-long s [] = refl
told-long s (o ∷ owed) = omega (arith, told-long s owed)

-- these stand behind what was owed
pub tells-more : (s : Setting) (es : List journal.Event) (owed : List OwedEvent) (so_far : List journal.Event) (xs : List OwedEvent) (more : List journal.Event)
    → Tells s es owed so_far → told_by s xs ≡ more → AreFair s xs → Tells s es (owed ++ xs) (so_far ++ more)
tells-more s es owed so_far xs more h same fair =
    let within : length es ≤ length owed = omega (arith, told-long s owed, ap length h.same, length-append es so_far) in
    record {
      same = told-append s owed xs ∙ ap (λ (zs : List journal.Event). told_by s owed ++ zs) same
          ∙ ap (λ (zs : List journal.Event). zs ++ more) h.same ∙ append_assoc es so_far more;
      fair = subst (AreFair s) (sym (drop-front (length es) owed xs within)) (all-append (λ (o : OwedEvent). IsFair s o.owed) (drop (length es) owed) xs h.fair fair);
    }

pub tells-none : (s : Setting) (owed : List OwedEvent) → Tells s (told_by s owed) owed []
tells-none s owed =
    record {
      same = sym (nil-end (told_by s owed));
      fair = subst (AreFair s) (sym (ap (λ n. drop n owed) (told-long s owed) ∙ drop-all owed)) tt;
    }
  where
    nil-end : {X : Type 0} (xs : List X) → xs ++ [] ≡ xs
    nil-end [] = refl
    nil-end (x ∷ xs) = ap (λ ys. x ∷ ys) (nil-end xs)

    drop-all : (xs : List OwedEvent) → drop (length xs) xs ≡ []
    drop-all [] = refl
    drop-all (x ∷ xs) = drop-all xs

-- what was added
pub fair-added : (s : Setting) (old added : List OwedEvent) (so_far : List journal.Event) → Tells s (told_by s old) (old ++ added) so_far → AreFair s added
fair-added s old added so_far h = subst (AreFair s) (ap (λ n. drop n (old ++ added)) (told-long s old) ∙ drop-old old) h.fair
  where
    drop-old : (xs : List OwedEvent) → drop (length xs) (xs ++ added) ≡ added
    drop-old [] = refl
    drop-old (x ∷ xs) = drop-old xs

-- ---- what isn't sent

plain-unsent : (what : whats.What) → is_sent what ≡ false → IsPlain what
plain-unsent (told.Sent number to bytes) h = absurd (false≢true (sym h))
plain-unsent other h = tt

named-unsent : (what : whats.What) → is_sent what ≡ false → is_ping_sent what ≡ false
named-unsent (told.Sent number to bytes) h = absurd (false≢true (sym h))
named-unsent other h = refl

pub quiet-fair : (s : Setting) (what : whats.What) → is_sent what ≡ false → IsFair s (owings.What what)
quiet-fair s what unsent = record { sound = plain-unsent what unsent; named = named-unsent what unsent }

all-quiet : {X : Type 0} (f : X → whats.What) (xs : List X) → ((x : X) → is_sent (f x) ≡ false) → AllByRecursion (λ w. is_sent w ≡ false) (map f xs)
all-quiet f [] unsent = tt
all-quiet f (x ∷ xs) unsent = (unsent x, all-quiet f xs unsent)

all-fair : (s : Setting) (moment : ℕ) (ws : List whats.What) → AllByRecursion (λ w. is_sent w ≡ false) ws
    → AreFair s (map owed_as (map (λ (w : whats.What). record { moment = moment; what = w }) ws))
all-fair s moment [] all = tt
all-fair s moment (w ∷ ws) all = (quiet-fair s w all.0, all-fair s moment ws all.1)

abbrev IsQuiet : whats.What → Type 0
IsQuiet w = is_sent w ≡ false

report-quiet : (r : Report) → AllByRecursion IsQuiet (whats_of r)
report-quiet r =
    let a = all-quiet told.Expired r.expired (λ x. refl) in
    let b = all-quiet told.Removed r.removed (λ x. refl) in
    let d = all-quiet told.Entered r.entered (λ x. refl) in
    let e = all-quiet told.Fell r.fell (λ x. refl) in
    all-append IsQuiet _ _ (all-append IsQuiet _ _ (all-append IsQuiet _ _ a b) d) e

pub report-fair : (s : Setting) (moment : ℕ) (r : Report) → AreFair s (map owed_as (told_of moment r))
report-fair s moment r = all-fair s moment (whats_of r) (report-quiet r)

-- ---- datagrams with neither a nonce nor records

kind_of : Datagram → ℕ
kind_of (kinds.Ping from nonce) = 1
kind_of (kinds.Pong from nonce) = 2
kind_of (kinds.Summary from flag page) = summary_kind (is_wide_page page)
kind_of (kinds.Records from records) = 4

kind-shown : (d : Datagram) → get_or (datagram_bytes d) 3 0 ≡ kind_of d
unfolding head_bytes kind_of
kind-shown (kinds.Ping from nonce) = refl
kind-shown (kinds.Pong from nonce) = refl
kind-shown (kinds.Summary from flag page) = refl
kind-shown (kinds.Records from records) = refl

bare-kind : (d : Datagram) → is_bare d ≡ true → kind_of d ≡ 4 → ⊥
unfolding kind_of
bare-kind (kinds.Ping from nonce) bare four = false≢true bare
bare-kind (kinds.Pong from nonce) bare four = absurd (omega (arith, four))
bare-kind (kinds.Summary from flag page) bare four = by_width (is_wide_page page) four
  where
    by_width : (wide : Bool) → summary_kind wide ≡ 4 → ⊥
    by_width true h = absurd (omega (arith, h))
    by_width false h = absurd (omega (arith, h))
bare-kind (kinds.Records from records) bare four = false≢true bare

bare-no_ping : (d : Datagram) → is_bare d ≡ true → is_of_ping d ≡ false
bare-no_ping (kinds.Ping from nonce) bare = absurd (false≢true bare)
bare-no_ping (kinds.Pong from nonce) bare = refl
bare-no_ping (kinds.Summary from flag page) bare = refl
bare-no_ping (kinds.Records from records) bare = refl

records-kind : (from : ℕ) (records : List Record) → get_or (datagram_bytes (kinds.Records from records)) 3 0 ≡ 4
unfolding head_bytes
records-kind from records = refl

pub bare-fair : (s : Setting) (number to : ℕ) (bytes : List ℕ) (d : Datagram) → IsBytes bytes → bytes ≡ datagram_bytes d → is_bare d ≡ true → IsFair s (owings.What (told.Sent number to bytes))
bare-fair s number to bytes d fits spelled bare =
    record {
      sound = λ from records read.
          let is : IsDatagram bytes (kinds.Records from records) = read_found bytes (kinds.Records from records) fits read in
          bare-kind d bare (sym (kind-shown d) ∙ ap (λ (xs : List ℕ). get_or xs 3 0) (sym spelled ∙ is.spelled) ∙ records-kind from records);
      named = ap is_ping spelled ∙ pings-apart d ∙ bare-no_ping d bare;
    }

-- ---- records in a datagram

two : (n : ℕ) → length (to_be_bytes w16 n) ≡ 2
two n = refl

record-long : (r : Record) → 2 ≤ length (record_bytes r)
record-long r =
    let tail : List ℕ = to_be_bytes w16 (length r.signature) ++ r.signature in
    omega (arith, length-append (body_bytes r.body) tail, length-append (to_be_bytes w16 (length r.signature)) r.signature, two (length r.signature))

records-long : (records : List Record) → length records ≤ length (flat_map record_bytes records)
records-long [] = omega arith
records-long (r ∷ records) = omega (arith, length-append (record_bytes r) (flat_map record_bytes records), record-long r, records-long records)

head-long : (kind from : ℕ) → length (head_bytes kind from) ≡ 6
unfolding head_bytes
head-long kind from = refl

records-bytes_long : (records : List Record) → length (records_bytes records) ≡ 2 + length (flat_map record_bytes records)
unfolding records_bytes
records-bytes_long records = omega (arith, length-append (to_be_bytes w16 (length records)) (flat_map record_bytes records), two (length records))

-- Records that have a spelling, and fit, are a datagram.
pub is-datagram : (from : ℕ) (records : List Record) → from < MEMBERS → 0 < length records → AllByRecursion IsSignedRecord records → length (flat_map record_bytes records) ≤ 32760
    → IsDatagram (datagram_bytes (kinds.Records from records)) (kinds.Records from records)
is-datagram from records sender some all short =
    record {
      rules = record { sender = sender; some = some; few = omega (arith, records-long records, short); each = All-from_recursion IsSignedRecord records all };
      spelled = refl;
      few = omega (arith, length-append (head_bytes 4 from) (records_bytes records), head-long 4 from, records-bytes_long records, short);
    }

pub fitting-short : (left : ℕ) (records : List Record) → length (flat_map record_bytes (fitting left records)) ≤ left
fitting-short left [] = omega arith
fitting-short left (r ∷ records) =
    let n : ℕ = length (record_bytes r) in
    cond_both (leb n left) (r ∷ fitting (left - n) records) [] (λ xs. length (flat_map record_bytes xs) ≤ left)
    (λ yes. omega (arith, length-append (record_bytes r) (flat_map record_bytes (fitting (left - n) records)), fitting-short (left - n) records, leb-true n left yes))
    (λ no. omega arith)

-- ---- an own record alone

own-body-short : (b : Body) (me : ℕ) → signer_of b ≡ Some me → length (body_bytes b) ≤ 100
unfolding note_bytes accusation_bytes
own-body-short (Certificate c) me by = absurd cc
own-body-short (Note x) me by = cond_both (is_wide x.mask.0) (4 ∷ note_fields w64 x) (2 ∷ note_fields w32 x) (λ bytes. length bytes ≤ 100) (λ yes. omega arith) (λ no. omega arith)
own-body-short (Accusation a) me by = omega arith

pub own-sendable : (s : Setting) (o : Unseen) → IsOwn s o → AreSendable s (parts.Own o.index o.body ∷ [])
own-sendable s o own =
    let r : Record = record { body = o.body; signature = s.signature o.index o.body } in
    let tail : List ℕ = to_be_bytes w16 (length r.signature) ++ r.signature in
    let short : length (record_bytes r ++ []) ≤ 32760 =
    omega (arith, length-append (record_bytes r) [], length-append (body_bytes r.body) tail, length-append (to_be_bytes w16 (length r.signature)) r.signature, two (length r.signature), own-body-short o.body s.me own.by, own.spelled.signature.few) in
    record { own = (own.by, tt); fit = is-datagram s.me (r ∷ []) own.member (omega arith) (own.spelled, tt) short }
