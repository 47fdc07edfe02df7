-- The words of an event, and its text as these words with one space between two.
use Rattle.std.proofs.Common.{◌≡◌, ℕ, ◌<◌, ◌^◌, Bool, true, false, List, [], ◌∷◌, ◌++◌, length, Option, Some, None, refl, sym, ap, ◌∙◌, append_assoc, arith, ne_eqb}
use Rattle.std.specs.Prelude.{codes, decimal}
use Rattle.std.specs.Char.{is_ascii_digit}
use Rattle.std.specs.List.{join_with_byte, list_all}
use Rattle.std.proofs.lemmas.Bool.{and_parts}
use Rattle.std.proofs.lemmas.Fmt.{decimal_nonempty}
use Rattle.std.proofs.lemmas.List.Folds.{list_all-append}
use Rattle.hex.specs.Hex.{IsBytes, encode_lower}
use Rattle.hex.proofs.HexLemmas.{length-encode_with}
use Rattle.hex.specs.Hex.{lower_digits}
use Rattle.line_text.specs.Words.{is_printable, is_word}
use Rattle.ff_ids.specs.Keys.{listed}
use Rattle.ff_ids.specs.declared.KeyBytes.{KeyBytes}
use Rattle.ff_ids.specs.Texts.{accusation_text, fault_text, monitor_text}
use Rattle.ff_ids.specs.declared.AccBody.{AccBody}
use Rattle.ff_ids.specs.declared.NoteBody.{NoteBody}
use Rattle.ff_ids.specs.declared.Fault.{Fault}
use Rattle.ff_ids.specs.declared.Fault.TheVariants as faults
use Rattle.lms_tree.specs.Lms as lms
use Rattle.hss.specs.Hss as hss
use Rattle.records.specs.declared.keys.Key.{Key}
use Rattle.records.specs.declared.keys.Key.TheVariants as keys
use Rattle.records.specs.Keys.{key_bytes}
use Rattle.records.specs.Spelling.{IsNote}
use Rattle.records.specs.declared.CertBody.{CertBody}
use Rattle.records.specs.declared.Body.{Body}
use Rattle.records.specs.declared.Body.TheVariants as bodies
use Rattle.journal.specs.declared.event.Event.{Event}
use Rattle.journal.specs.declared.event.What.{What}
use Rattle.journal.specs.declared.event.What.TheVariants as happened
use Rattle.journal.specs.Texts.{answer_text, body_text, event_text, flag_text, verdict_text, what_text}
use Rattle.journal.specs.Grammar.{about}
use Rattle.journal.specs.Spelling.{IsAccusation, IsBody, IsCertificate, IsFault, IsKey, IsMonitor, IsVerdict, IsWhat}
use Rattle.journal.specs.Words.{is_lower_digit}
use Rattle.journal.proofs.WordLemmas.{digits_all}
use Rattle.journal.proofs.HexWords.{encoded_lower}

-- ---- words

abbrev pub certificate_words : CertBody → List (List ℕ)
certificate_words c = decimal c.member ∷ decimal c.port ∷ encode_lower (key_bytes c.key) ∷ []

abbrev pub note_words : NoteBody → List (List ℕ)
note_words n = decimal n.member ∷ decimal n.epoch ∷ decimal n.mask.0 ∷ []

abbrev pub accusation_words : AccBody → List (List ℕ)
accusation_words a = decimal a.accuser ∷ decimal a.accused ∷ decimal a.epoch ∷ decimal a.ring.0 ∷ []

abbrev pub body_words : Body → List (List ℕ)
body_words (bodies.Certificate c) = codes "cert" ∷ certificate_words c
body_words (bodies.Note n) = codes "note" ∷ note_words n
body_words (bodies.Accusation a) = codes "accuse" ∷ accusation_words a

abbrev pub fault_words : Fault → List (List ℕ)
fault_words faults.AlreadyMember = codes "already-member" ∷ []
fault_words faults.UnknownMember = codes "unknown-member" ∷ []
fault_words faults.BadMask = codes "bad-mask" ∷ []
fault_words faults.Known = codes "known" ∷ []
fault_words (faults.OtherCertificate port key) = codes "other-certificate" ∷ decimal port ∷ encode_lower (listed key) ∷ []
fault_words (faults.Older epoch mask) = codes "older" ∷ decimal epoch ∷ decimal mask.0 ∷ []
fault_words faults.SelfAccusation = codes "self-accusation" ∷ []
fault_words faults.BadRing = codes "bad-ring" ∷ []
fault_words faults.NoNote = codes "no-note" ∷ []
fault_words (faults.OtherEpoch kept) = codes "other-epoch" ∷ decimal kept ∷ []
fault_words faults.NotInView = codes "not-in-view" ∷ []
fault_words faults.RingDisabled = codes "ring-disabled" ∷ []
fault_words (faults.NotMonitor monitor) = codes "not-monitor" ∷ monitor_text monitor ∷ []
fault_words faults.Standing = codes "standing" ∷ []
fault_words faults.BadSignature = codes "bad-signature" ∷ []
fault_words (faults.OwnAhead stored seen) = codes "own-ahead" ∷ decimal stored.epoch ∷ decimal stored.mask.0 ∷ decimal seen.epoch ∷ decimal seen.mask.0 ∷ []

abbrev pub verdict_words : Option Fault → List (List ℕ)
verdict_words None = codes "accepted" ∷ []
verdict_words (Some fault) = codes "refused" ∷ fault_words fault

abbrev pub what_words : What → List (List ℕ)
what_words (happened.Entered m) = codes "entered" ∷ decimal m ∷ []
what_words (happened.Expired a) = codes "expired" ∷ accusation_words a
what_words (happened.Removed m) = codes "removed" ∷ decimal m ∷ []
what_words (happened.Fell a) = codes "fell" ∷ accusation_words a
what_words (happened.Spent index body) = codes "spent" ∷ decimal index ∷ body_words body
what_words (happened.Took body fault) = codes "took" ∷ (body_words body ++ codes ":" ∷ verdict_words fault)
what_words (happened.BadForm place) = codes "bad-form" ∷ decimal place ∷ []
what_words (happened.Ping from nonce) = codes "ping" ∷ decimal from ∷ decimal nonce ∷ []
what_words (happened.Pong from nonce counted) = codes "pong" ∷ decimal from ∷ decimal nonce ∷ answer_text counted ∷ []
what_words (happened.Summary from page flag) = codes "summary" ∷ decimal from ∷ decimal page ∷ flag_text flag ∷ []
what_words (happened.Silent m) = codes "silent" ∷ decimal m ∷ []
what_words (happened.Exhausted next) = codes "exhausted" ∷ decimal next ∷ []
what_words (happened.Sent number to bytes) = codes "sent" ∷ decimal number ∷ decimal to ∷ encode_lower bytes ∷ []
what_words (happened.Lost number) = codes "lost" ∷ decimal number ∷ []
what_words (happened.Got number) = codes "got" ∷ decimal number ∷ []
what_words happened.Stopped = codes "stopped" ∷ []

abbrev pub event_words : Event → List (List ℕ)
event_words e = codes "at" ∷ decimal e.moment ∷ what_words e.what

-- ---- the text

abbrev pub joined : List (List ℕ) → List ℕ
joined words = join_with_byte 32 words

joined_cons : (word : List ℕ) (words : List (List ℕ)) → 0 < length words → joined (word ∷ words) ≡ word ++ 32 ∷ joined words
joined_cons word [] some = absurd (omega (arith, some))
joined_cons word (next ∷ rest) some = refl

joined_append : (a b : List (List ℕ)) → 0 < length a → 0 < length b → joined (a ++ b) ≡ joined a ++ 32 ∷ joined b
joined_append [] b some more = absurd (omega (arith, some))
joined_append (x ∷ []) b some more = joined_cons x b more
joined_append (x ∷ y ∷ rest) b some more =
    ap (λ (t : List ℕ). x ++ 32 ∷ t) (joined_append (y ∷ rest) b (omega arith) more)
    ∙ sym (append_assoc x (32 ∷ joined (y ∷ rest)) (32 ∷ joined b))

-- a word before others, whose text is known
before : (word text : List ℕ) (words : List (List ℕ)) → 0 < length words → text ≡ joined words → word ++ 32 ∷ text ≡ joined (word ∷ words)
before word text words some is = ap (λ (t : List ℕ). word ++ 32 ∷ t) is ∙ sym (joined_cons word words some)

-- words in a row, regrouped
two_in_a_row : (w a b : List ℕ) → w ++ a ++ codes " " ++ b ≡ w ++ (a ++ 32 ∷ b)
two_in_a_row w a b = simp append_assoc refl

three_in_a_row : (w a b c : List ℕ) → w ++ a ++ codes " " ++ b ++ codes " " ++ c ≡ w ++ (a ++ 32 ∷ (b ++ 32 ∷ c))
three_in_a_row w a b c = simp append_assoc refl

four_in_a_row : (w a b c d : List ℕ) → w ++ a ++ codes " " ++ b ++ codes " " ++ c ++ codes " " ++ d ≡ w ++ (a ++ 32 ∷ (b ++ 32 ∷ (c ++ 32 ∷ d)))
four_in_a_row w a b c d = simp append_assoc refl

around_a_colon : (w a b : List ℕ) → w ++ a ++ codes " : " ++ b ≡ w ++ (a ++ 32 ∷ (codes ":" ++ 32 ∷ b))
around_a_colon w a b = simp append_assoc refl

accusation_joined : (a : AccBody) → accusation_text a ≡ joined (accusation_words a)
accusation_joined a = four_in_a_row [] (decimal a.accuser) (decimal a.accused) (decimal a.epoch) (decimal a.ring.0)

some_body : (b : Body) → 0 < length (body_words b)
some_body (bodies.Certificate c) = omega arith
some_body (bodies.Note n) = omega arith
some_body (bodies.Accusation a) = omega arith

body_joined : (b : Body) → body_text b ≡ joined (body_words b)
body_joined (bodies.Certificate c) = three_in_a_row (codes "cert ") (decimal c.member) (decimal c.port) (encode_lower (key_bytes c.key))
body_joined (bodies.Note n) = three_in_a_row (codes "note ") (decimal n.member) (decimal n.epoch) (decimal n.mask.0)
body_joined (bodies.Accusation a) = before (codes "accuse") (accusation_text a) (accusation_words a) (omega arith) (accusation_joined a)

some_fault : (f : Fault) → 0 < length (fault_words f)
some_fault faults.AlreadyMember = omega arith
some_fault faults.UnknownMember = omega arith
some_fault faults.BadMask = omega arith
some_fault faults.Known = omega arith
some_fault (faults.OtherCertificate port key) = omega arith
some_fault (faults.Older epoch mask) = omega arith
some_fault faults.SelfAccusation = omega arith
some_fault faults.BadRing = omega arith
some_fault faults.NoNote = omega arith
some_fault (faults.OtherEpoch kept) = omega arith
some_fault faults.NotInView = omega arith
some_fault faults.RingDisabled = omega arith
some_fault (faults.NotMonitor monitor) = omega arith
some_fault faults.Standing = omega arith
some_fault faults.BadSignature = omega arith
some_fault (faults.OwnAhead stored seen) = omega arith

fault_joined : (f : Fault) → fault_text f ≡ joined (fault_words f)
fault_joined faults.AlreadyMember = refl
fault_joined faults.UnknownMember = refl
fault_joined faults.BadMask = refl
fault_joined faults.Known = refl
fault_joined (faults.OtherCertificate port key) = two_in_a_row (codes "other-certificate ") (decimal port) (encode_lower (listed key))
fault_joined (faults.Older epoch mask) = two_in_a_row (codes "older ") (decimal epoch) (decimal mask.0)
fault_joined faults.SelfAccusation = refl
fault_joined faults.BadRing = refl
fault_joined faults.NoNote = refl
fault_joined (faults.OtherEpoch kept) = refl
fault_joined faults.NotInView = refl
fault_joined faults.RingDisabled = refl
fault_joined (faults.NotMonitor monitor) = refl
fault_joined faults.Standing = refl
fault_joined faults.BadSignature = refl
fault_joined (faults.OwnAhead stored seen) = four_in_a_row (codes "own-ahead ") (decimal stored.epoch) (decimal stored.mask.0) (decimal seen.epoch) (decimal seen.mask.0)

some_verdict : (f : Option Fault) → 0 < length (verdict_words f)
some_verdict None = omega arith
some_verdict (Some fault) = omega arith

verdict_joined : (f : Option Fault) → verdict_text f ≡ joined (verdict_words f)
verdict_joined None = refl
verdict_joined (Some fault) = before (codes "refused") (fault_text fault) (fault_words fault) (some_fault fault) (fault_joined fault)

took_joined : (b : Body) (f : Option Fault) → body_text b ++ 32 ∷ (codes ":" ++ 32 ∷ verdict_text f) ≡ joined (body_words b ++ codes ":" ∷ verdict_words f)
took_joined b f =
    let behind = before (codes ":") (verdict_text f) (verdict_words f) (some_verdict f) (verdict_joined f) in
    ap (λ (t : List ℕ). t ++ 32 ∷ (codes ":" ++ 32 ∷ verdict_text f)) (body_joined b) ∙ ap (λ (t : List ℕ). joined (body_words b) ++ 32 ∷ t) behind
    ∙ sym (joined_append (body_words b) (codes ":" ∷ verdict_words f) (some_body b) (omega arith))

some_took : (b : Body) (words : List (List ℕ)) → 0 < length (body_words b ++ words)
some_took (bodies.Certificate c) words = omega arith
some_took (bodies.Note n) words = omega arith
some_took (bodies.Accusation a) words = omega arith

what_joined : (w : What) → what_text w ≡ joined (what_words w)
what_joined (happened.Entered m) = refl
what_joined (happened.Expired a) = before (codes "expired") (accusation_text a) (accusation_words a) (omega arith) (accusation_joined a)
what_joined (happened.Removed m) = refl
what_joined (happened.Fell a) = before (codes "fell") (accusation_text a) (accusation_words a) (omega arith) (accusation_joined a)
what_joined (happened.Spent index body) =
    two_in_a_row (codes "spent ") (decimal index) (body_text body)
    ∙ ap (λ (t : List ℕ). codes "spent " ++ t) (before (decimal index) (body_text body) (body_words body) (some_body body) (body_joined body))
what_joined (happened.Took body fault) =
    around_a_colon (codes "took ") (body_text body) (verdict_text fault)
    ∙ before (codes "took") (body_text body ++ 32 ∷ (codes ":" ++ 32 ∷ verdict_text fault)) (body_words body ++ codes ":" ∷ verdict_words fault) (some_took body _) (took_joined body fault)
what_joined (happened.BadForm place) = refl
what_joined (happened.Ping from nonce) = two_in_a_row (codes "ping ") (decimal from) (decimal nonce)
what_joined (happened.Pong from nonce counted) = three_in_a_row (codes "pong ") (decimal from) (decimal nonce) (answer_text counted)
what_joined (happened.Summary from page flag) = three_in_a_row (codes "summary ") (decimal from) (decimal page) (flag_text flag)
what_joined (happened.Silent m) = refl
what_joined (happened.Exhausted next) = refl
what_joined (happened.Sent number to bytes) = three_in_a_row (codes "sent ") (decimal number) (decimal to) (encode_lower bytes)
what_joined (happened.Lost number) = refl
what_joined (happened.Got number) = refl
what_joined happened.Stopped = refl

some_what : (w : What) → 0 < length (what_words w)
some_what (happened.Entered m) = omega arith
some_what (happened.Expired a) = omega arith
some_what (happened.Removed m) = omega arith
some_what (happened.Fell a) = omega arith
some_what (happened.Spent index body) = omega arith
some_what (happened.Took body fault) = omega arith
some_what (happened.BadForm place) = omega arith
some_what (happened.Ping from nonce) = omega arith
some_what (happened.Pong from nonce counted) = omega arith
some_what (happened.Summary from page flag) = omega arith
some_what (happened.Silent m) = omega arith
some_what (happened.Exhausted next) = omega arith
some_what (happened.Sent number to bytes) = omega arith
some_what (happened.Lost number) = omega arith
some_what (happened.Got number) = omega arith
some_what happened.Stopped = omega arith

pub event_joined : (e : Event) → event_text e ≡ joined (event_words e)
event_joined e =
    two_in_a_row (codes "at ") (decimal e.moment) (what_text e.what)
    ∙ ap (λ (t : List ℕ). codes "at " ++ t) (before (decimal e.moment) (what_text e.what) (what_words e.what) (some_what e.what) (what_joined e.what))

-- ---- each word is a word

pub record Worded (words : List (List ℕ)) : Type 0 where
  pub all : list_all is_word words ≡ true

pub no_words : Worded []
no_words = record { all = refl }

pub with_word : (word : List ℕ) (words : List (List ℕ)) → is_word word ≡ true → Worded words → Worded (word ∷ words)
with_word word words one others = record { all = rw (one, others.all) refl }

pub with_words : (a b : List (List ℕ)) → Worded a → Worded b → Worded (a ++ b)
with_words a b one others = record { all = list_all-append is_word a b ∙ rw (one.all, others.all) refl }

digit_printable : (c : ℕ) → is_ascii_digit c ≡ true → is_printable c ≡ true
digit_printable c h = grind (arith)

digits_printable : (w : List ℕ) → list_all is_ascii_digit w ≡ true → list_all is_printable w ≡ true
digits_printable [] h = refl
digits_printable (c ∷ w) h =
    let p = and_parts _ _ h in
    let one : is_printable c ≡ true = digit_printable c p.0 in
    let others : list_all is_printable w ≡ true = digits_printable w p.1 in
    rw (one, others) refl

lower_printable : (c : ℕ) → is_lower_digit c ≡ true → is_printable c ≡ true
lower_printable c h = grind (arith)

lowers_printable : (w : List ℕ) → list_all is_lower_digit w ≡ true → list_all is_printable w ≡ true
lowers_printable [] h = refl
lowers_printable (c ∷ w) h =
    let p = and_parts _ _ h in
    let one : is_printable c ≡ true = lower_printable c p.0 in
    let others : list_all is_printable w ≡ true = lowers_printable w p.1 in
    rw (one, others) refl

word_of : (w : List ℕ) → 0 < length w → list_all is_printable w ≡ true → is_word w ≡ true
word_of w some h = rw (ne_eqb (length w) 0 (λ e. absurd (omega (arith, some, e))), h) refl

pub number_word : (n : ℕ) → n < 2 ^ 64 → is_word (decimal n) ≡ true
number_word n lt = word_of (decimal n) (decimal_nonempty n lt) (digits_printable (decimal n) (digits_all n lt))

pub bytes_word : (b : List ℕ) → 0 < length b → IsBytes b → is_word (encode_lower b) ≡ true
bytes_word b some h =
    let len = length-encode_with lower_digits b in
    word_of (encode_lower b) (omega (arith, len, some)) (lowers_printable (encode_lower b) (encoded_lower b h))

pub some_key : (k : Key) → 0 < length (key_bytes k)
unfolding lms.key_bytes hss.key_bytes
some_key (keys.Lms k) = omega arith
some_key (keys.Hss k) = omega arith

key_word : (k : Key) → IsKey k → is_word (encode_lower (key_bytes k)) ≡ true
key_word k good = bytes_word (key_bytes k) (some_key k) good.bytes

worded_certificate : (c : CertBody) → IsCertificate c → Worded (certificate_words c)
worded_certificate c good =
    with_word (decimal c.member) _ (number_word c.member (omega (arith, good.certificate.member_number)))
    (with_word (decimal c.port) _ (number_word c.port (omega (arith, good.certificate.port_fits)))
    (with_word (encode_lower (key_bytes c.key)) [] (bytes_word (key_bytes c.key) (some_key c.key) good.key) no_words))

worded_note : (n : NoteBody) → IsNote n → Worded (note_words n)
worded_note n good =
    with_word (decimal n.member) _ (number_word n.member (omega (arith, good.member_number)))
    (with_word (decimal n.epoch) _ (number_word n.epoch good.epoch_fits)
    (with_word (decimal n.mask.0) [] (number_word n.mask.0 (omega (arith, good.mask_fits))) no_words))

worded_accusation : (a : AccBody) → IsAccusation a → Worded (accusation_words a)
worded_accusation a good =
    with_word (decimal a.accuser) _ (number_word a.accuser (omega (arith, good.accusation.accuser_number)))
    (with_word (decimal a.accused) _ (number_word a.accused (omega (arith, good.accusation.accused_number)))
    (with_word (decimal a.epoch) _ (number_word a.epoch good.accusation.epoch_fits)
    (with_word (decimal a.ring.0) [] (number_word a.ring.0 (omega (arith, good.ring))) no_words)))

worded_body : (b : Body) → IsBody b → Worded (body_words b)
worded_body (bodies.Certificate c) good = with_word (codes "cert") _ refl (worded_certificate c good)
worded_body (bodies.Note n) good = with_word (codes "note") _ refl (worded_note n good)
worded_body (bodies.Accusation a) good = with_word (codes "accuse") _ refl (worded_accusation a good)

worded_monitor : (m : Option ℕ) → IsMonitor m → is_word (monitor_text m) ≡ true
worded_monitor None good = refl
worded_monitor (Some m) good = number_word m (omega (arith, good))

worded_fault : (m : ℕ) (f : Fault) → IsFault m f → Worded (fault_words f)
worded_fault m faults.AlreadyMember good = record { all = refl }
worded_fault m faults.UnknownMember good = record { all = refl }
worded_fault m faults.BadMask good = record { all = refl }
worded_fault m faults.Known good = record { all = refl }
worded_fault m (faults.OtherCertificate port key) good =
    with_word (codes "other-certificate") _ refl
    (with_word (decimal port) _ (number_word port (omega (arith, good.0.fits)))
    (with_word (encode_lower (listed key)) [] (ap (λ (b : KeyBytes). is_word (encode_lower (listed b))) good.1.same ∙ key_word good.1.key good.1.is_key) no_words))
worded_fault m (faults.Older epoch mask) good =
    with_word (codes "older") _ refl (with_word (decimal epoch) _ (number_word epoch good.0.fits) (with_word (decimal mask.0) [] (number_word mask.0 (omega (arith, good.1))) no_words))
worded_fault m faults.SelfAccusation good = record { all = refl }
worded_fault m faults.BadRing good = record { all = refl }
worded_fault m faults.NoNote good = record { all = refl }
worded_fault m (faults.OtherEpoch kept) good = with_word (codes "other-epoch") _ refl (with_word (decimal kept) [] (number_word kept good.fits) no_words)
worded_fault m faults.NotInView good = record { all = refl }
worded_fault m faults.RingDisabled good = record { all = refl }
worded_fault m (faults.NotMonitor monitor) good = with_word (codes "not-monitor") _ refl (with_word (monitor_text monitor) [] (worded_monitor monitor good) no_words)
worded_fault m faults.Standing good = record { all = refl }
worded_fault m faults.BadSignature good = record { all = refl }
worded_fault m (faults.OwnAhead stored seen) good =
    with_word (codes "own-ahead") _ refl
    (with_word (decimal stored.epoch) _ (number_word stored.epoch good.0.epoch.fits)
    (with_word (decimal stored.mask.0) _ (number_word stored.mask.0 (omega (arith, good.0.mask)))
    (with_word (decimal seen.epoch) _ (number_word seen.epoch good.1.epoch.fits)
    (with_word (decimal seen.mask.0) [] (number_word seen.mask.0 (omega (arith, good.1.mask))) no_words))))

worded_verdict : (m : ℕ) (f : Option Fault) → IsVerdict m f → Worded (verdict_words f)
worded_verdict m None good = record { all = refl }
worded_verdict m (Some fault) good = with_word (codes "refused") _ refl (worded_fault m fault good)

worded_answer : (b : Bool) → is_word (answer_text b) ≡ true
worded_answer true = refl
worded_answer false = refl

worded_flag : (b : Bool) → is_word (flag_text b) ≡ true
worded_flag true = refl
worded_flag false = refl

-- one number behind a word
numbered : (word : List ℕ) (n : ℕ) → is_word word ≡ true → n < 2 ^ 64 → Worded (word ∷ decimal n ∷ [])
numbered word n one lt = with_word word _ one (with_word (decimal n) [] (number_word n lt) no_words)

worded_what : (w : What) → IsWhat w → Worded (what_words w)
worded_what (happened.Entered m) good = numbered (codes "entered") m refl (omega (arith, good))
worded_what (happened.Expired a) good = with_word (codes "expired") _ refl (worded_accusation a good)
worded_what (happened.Removed m) good = numbered (codes "removed") m refl (omega (arith, good))
worded_what (happened.Fell a) good = with_word (codes "fell") _ refl (worded_accusation a good)
worded_what (happened.Spent index body) good = with_word (codes "spent") _ refl (with_word (decimal index) _ (number_word index (omega (arith, good.0))) (worded_body body good.1))
worded_what (happened.Took body fault) good =
    with_word (codes "took") _ refl
    (with_words (body_words body) (codes ":" ∷ verdict_words fault) (worded_body body good.0) (with_word (codes ":") _ refl (worded_verdict (about body) fault good.1)))
worded_what (happened.BadForm place) good = numbered (codes "bad-form") place refl good
worded_what (happened.Ping from nonce) good = with_word (codes "ping") _ refl (numbered (decimal from) nonce (number_word from (omega (arith, good.0))) good.1)
worded_what (happened.Pong from nonce counted) good =
    with_word (codes "pong") _ refl
    (with_word (decimal from) _ (number_word from (omega (arith, good.0))) (with_word (decimal nonce) _ (number_word nonce good.1) (with_word (answer_text counted) [] (worded_answer counted) no_words)))
worded_what (happened.Summary from page flag) good =
    with_word (codes "summary") _ refl
    (with_word (decimal from) _ (number_word from (omega (arith, good.0))) (with_word (decimal page) _ (number_word page (omega (arith, good.1))) (with_word (flag_text flag) [] (worded_flag flag) no_words)))
worded_what (happened.Silent m) good = numbered (codes "silent") m refl (omega (arith, good))
worded_what (happened.Exhausted next) good = numbered (codes "exhausted") next refl (omega (arith, good))
worded_what (happened.Sent number to bytes) good =
    with_word (codes "sent") _ refl
    (with_word (decimal number) _ (number_word number good.0) (with_word (decimal to) _ (number_word to (omega (arith, good.1))) (with_word (encode_lower bytes) [] (bytes_word bytes good.2 good.3) no_words)))
worded_what (happened.Lost number) good = numbered (codes "lost") number refl good
worded_what (happened.Got number) good = numbered (codes "got") number refl good
worded_what happened.Stopped good = record { all = refl }

pub worded_event : (e : Event) → e.moment < 2 ^ 64 → IsWhat e.what → Worded (event_words e)
worded_event e moment what = with_word (codes "at") _ refl (with_word (decimal e.moment) _ (number_word e.moment moment) (worded_what e.what what))
