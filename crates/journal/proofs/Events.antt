-- The two laws of the grammar: what is read is spelled so, and what is spelled so is read.
use Rattle.std.proofs.Common.{◌≡◌, ℕ, ◌<◌, ◌^◌, Bool, true, false, List, [], ◌∷◌, ◌++◌, Option, Some, None, Result, Ok, Err, refl, sym, ap, subst, ◌∙◌, arith, lit<}
use Rattle.std.specs.Prelude.{codes, decimal, IfOk}
use Rattle.std.proofs.lemmas.List.Splits.{join_with_byte-slice_split}
use Rattle.ff_ids.specs.declared.TheConstants.{LAST_MEMBER, MEMBERS, MASK_BITS, PAGES, ALL_BITS, LAST_PAGE}
use Rattle.hex.specs.Hex.{encode_lower}
use Rattle.line_text.specs.Words.{parts}
use Rattle.line_text.proofs.FrameLemmas.{parts-joined}
use Rattle.ff_ids.specs.declared.AccBody.{AccBody}
use Rattle.ff_ids.specs.declared.NoteBody.{NoteBody}
use Rattle.ff_ids.specs.Keys.{listed}
use Rattle.ff_ids.specs.declared.KeyBytes.{KeyBytes}
use Rattle.ff_ids.specs.declared.Fault.{Fault}
use Rattle.ff_ids.specs.declared.Fault.TheVariants as faults
use Rattle.records.specs.declared.keys.Key.{Key}
use Rattle.records.specs.Keys.{written}
use Rattle.records.specs.Spelling.{IsNote}
use Rattle.records.specs.declared.CertBody.{CertBody}
use Rattle.records.specs.declared.Body.{Body}
use Rattle.records.specs.declared.Body.TheVariants as bodies
use Rattle.journal.specs.declared.kinds.Kind.{Kind}
use Rattle.journal.specs.declared.kinds.Kind.TheVariants as kind
use Rattle.journal.specs.declared.kinds.BodyKind.{BodyKind}
use Rattle.journal.specs.declared.kinds.BodyKind.TheVariants as body_kind
use Rattle.journal.specs.declared.kinds.FaultKind.{FaultKind}
use Rattle.journal.specs.declared.kinds.FaultKind.TheVariants as fault_kind
use Rattle.journal.specs.declared.event.Event.{Event}
use Rattle.journal.specs.declared.event.What.{What}
use Rattle.journal.specs.declared.event.What.TheVariants as happened
use Rattle.journal.specs.declared.fault.EventFault.{EventFault}
use Rattle.journal.specs.Kinds.{body_word, every_body_kind, every_fault_kind, every_kind, fault_word, kind_word}
use Rattle.journal.specs.Words.{Reading, among, both, followed, is_literal, one_of, token_at, whole}
use Rattle.journal.specs.Grammar.{GivesEvent, TakesMemory, about, accusation_at, body_at, body_behind, certificate_at, epoch_at, event_at, fault_at, fault_behind, mask_at, member_at, note_at, number_32_at, number_64_at, own_ahead, page_at, port_at, ring_at, verdict_at, verdict_behind, what_at, what_behind}
use Rattle.journal.specs.Spelling.{IsAccusation, IsBody, IsCertificate, IsEpoch, IsEvent, IsFault, IsGiven, IsKey, IsNoteOf, IsPort, IsVerdict, IsWhat}
use Rattle.journal.proofs.Rules.{exact_answer, exact_bytes, exact_flag, exact_key, exact_literal, exact_monitor, exact_number, one_is}
use Rattle.journal.proofs.Spelled.{accusation_words, body_words, certificate_words, event_joined, event_words, fault_words, joined, note_words, verdict_words, what_words, worded_event}
use Rattle.journal.proofs.Steps.{Exact, among_is, back_as, chosen_ok, exact_both, exact_followed, exact_made, exact_nothing, exact_so, read_as, whole_back, whole_read}

-- ---- numbers

pub exact_member : Exact member_at (λ m. decimal m ∷ []) (λ m. m < MEMBERS)
exact_member = exact_so (λ m. m < MEMBERS) (λ m g. omega (arith, g.1)) (λ m g. (omega arith, omega (arith, g))) (exact_number 0 LAST_MEMBER (lit< tt))

pub exact_epoch : Exact epoch_at (λ n. decimal n ∷ []) IsEpoch
exact_epoch = exact_so IsEpoch (λ n g. record { some = omega (arith, g.0); fits = omega (arith, g.1) }) (λ n g. (omega (arith, g.some), omega (arith, g.fits))) (exact_number 1 18446744073709551615 (lit< tt))

pub exact_mask : Exact mask_at (λ n. decimal n ∷ []) (λ n. n < 2 ^ MASK_BITS)
exact_mask = exact_so (λ n. n < 2 ^ MASK_BITS) (λ n g. omega (arith, g.1)) (λ n g. (omega arith, omega (arith, g))) (exact_number 0 ALL_BITS (lit< tt))

pub exact_ring : Exact ring_at (λ n. decimal n ∷ []) (λ n. n < 256)
exact_ring = exact_so (λ n. n < 256) (λ n g. omega (arith, g.1)) (λ n g. (omega arith, omega (arith, g))) (exact_number 0 255 (lit< tt))

pub exact_port : Exact port_at (λ n. decimal n ∷ []) IsPort
exact_port = exact_so IsPort (λ n g. record { some = omega (arith, g.0); fits = omega (arith, g.1) }) (λ n g. (omega (arith, g.some), omega (arith, g.fits))) (exact_number 1 65535 (lit< tt))

pub exact_page : Exact page_at (λ n. decimal n ∷ []) (λ n. n < PAGES)
exact_page = exact_so (λ n. n < PAGES) (λ n g. omega (arith, g.1)) (λ n g. (omega arith, omega (arith, g))) (exact_number 0 LAST_PAGE (lit< tt))

pub exact_32 : Exact number_32_at (λ n. decimal n ∷ []) (λ n. n < 2 ^ 32)
exact_32 = exact_so (λ n. n < 2 ^ 32) (λ n g. omega (arith, g.1)) (λ n g. (omega arith, omega (arith, g))) (exact_number 0 4294967295 (lit< tt))

pub exact_64 : Exact number_64_at (λ n. decimal n ∷ []) (λ n. n < 2 ^ 64)
exact_64 = exact_so (λ n. n < 2 ^ 64) (λ n g. omega (arith, g.1)) (λ n g. (omega arith, omega (arith, g))) (exact_number 0 18446744073709551615 (lit< tt))

-- ---- bodies

-- what holds of a body, by its words

pub certificate_is : (c : CertBody) → (c.member < MEMBERS) × (IsPort c.port × IsKey c.key) → IsCertificate c
certificate_is c g = record {
  certificate = record { member_number = g.0; has_port = g.1.0.some; port_fits = g.1.0.fits; key = g.1.1.parts };
  key = g.1.1.bytes;
}

pub certificate_parts : (c : CertBody) → IsCertificate c → (c.member < MEMBERS) × (IsPort c.port × IsKey c.key)
certificate_parts c g =
    let is = g.certificate in
    (is.member_number, (record { some = is.has_port; fits = is.port_fits }, record { parts = is.key; bytes = g.key }))

pub note_is : (n : NoteBody) → (n.member < MEMBERS) × (IsEpoch n.epoch × (n.mask.0 < 2 ^ MASK_BITS)) → IsNote n
note_is n g = record { member_number = g.0; has_epoch = g.1.0.some; epoch_fits = g.1.0.fits; mask_fits = g.1.1 }

pub note_parts : (n : NoteBody) → IsNote n → (n.member < MEMBERS) × (IsEpoch n.epoch × (n.mask.0 < 2 ^ MASK_BITS))
note_parts n g = (g.member_number, (record { some = g.has_epoch; fits = g.epoch_fits }, g.mask_fits))

pub accusation_is : (a : AccBody) → (a.accuser < MEMBERS) × ((a.accused < MEMBERS) × (IsEpoch a.epoch × (a.ring.0 < 256))) → IsAccusation a
accusation_is a g = record {
  accusation = record { accuser_number = g.0; accused_number = g.1.0; has_epoch = g.1.1.0.some; epoch_fits = g.1.1.0.fits };
  ring = g.1.1.1;
}

pub accusation_parts : (a : AccBody) → IsAccusation a → (a.accuser < MEMBERS) × ((a.accused < MEMBERS) × (IsEpoch a.epoch × (a.ring.0 < 256)))
accusation_parts a g =
    let is = g.accusation in
    (is.accuser_number, (is.accused_number, (record { some = is.has_epoch; fits = is.epoch_fits }, g.ring)))

pub exact_certificate : Exact certificate_at certificate_words IsCertificate
unfolding certificate_at
exact_certificate =
    exact_so IsCertificate certificate_is certificate_parts
    (exact_made (λ (p : ℕ × (ℕ × Key)). let c : CertBody = record { member = p.0; port = p.1.0; key = p.1.1 } in c) (λ (c : CertBody). (c.member, (c.port, c.key))) (λ y. refl) (λ x. refl)
    (exact_both exact_member (exact_both exact_port exact_key)))

pub exact_note : Exact note_at note_words IsNote
unfolding note_at
exact_note =
    exact_so IsNote note_is note_parts
    (exact_made (λ (p : ℕ × (ℕ × ℕ)). let n : NoteBody = record { member = p.0; epoch = p.1.0; mask = record { 0 = p.1.1 } } in n) (λ (n : NoteBody). (n.member, (n.epoch, n.mask.0))) (λ y. refl) (λ x. refl)
    (exact_both exact_member (exact_both exact_epoch exact_mask)))

pub exact_accusation : Exact accusation_at accusation_words IsAccusation
unfolding accusation_at
exact_accusation =
    exact_so IsAccusation accusation_is accusation_parts
    (exact_made (λ (p : ℕ × (ℕ × (ℕ × ℕ))). let a : AccBody = record { accuser = p.0; accused = p.1.0; epoch = p.1.1.0; ring = record { 0 = p.1.1.1 } } in a) (λ (a : AccBody). (a.accuser, (a.accused, (a.epoch, a.ring.0)))) (λ y. refl) (λ x. refl)
    (exact_both exact_member (exact_both exact_member (exact_both exact_epoch exact_ring))))

body_read : (k : BodyKind) (all : List (List ℕ)) (t s : Reading) (y : Body) → all ≡ body_word k ∷ t.words → body_behind k t ≡ Ok (y, s) → (all ≡ body_words y ++ s.words) × IsBody y
body_read body_kind.Certificate all t s y head e = read_as exact_certificate bodies.Certificate body_words IsBody (codes "cert") (λ x. refl) (λ x g. g) all t s y head e
body_read body_kind.Note all t s y head e = read_as exact_note bodies.Note body_words IsBody (codes "note") (λ x. refl) (λ x g. g) all t s y head e
body_read body_kind.Accusation all t s y head e = read_as exact_accusation bodies.Accusation body_words IsBody (codes "accuse") (λ x. refl) (λ x g. g) all t s y head e

body_again : (y : Body) → IsBody y → (r : Reading) (rest : List (List ℕ)) → r.words ≡ body_words y ++ rest → (s : Reading) × (body_at r ≡ Ok (y, s)) × (s.words ≡ rest)
unfolding body_at
body_again (bodies.Certificate c) good r rest left = back_as (among body_word every_body_kind) body_behind body_kind.Certificate (codes "cert") exact_certificate bodies.Certificate (λ t. refl) refl c good r rest left
body_again (bodies.Note n) good r rest left = back_as (among body_word every_body_kind) body_behind body_kind.Note (codes "note") exact_note bodies.Note (λ t. refl) refl n good r rest left
body_again (bodies.Accusation a) good r rest left = back_as (among body_word every_body_kind) body_behind body_kind.Accusation (codes "accuse") exact_accusation bodies.Accusation (λ t. refl) refl a good r rest left

pub exact_body : Exact body_at body_words IsBody
unfolding body_at
exact_body = record {
  read = λ r s y e.
      let c = chosen_ok (among body_word every_body_kind) body_behind r s y e in
      body_read c.1 r.words c.2 s y (c.4 ∙ ap (λ (w : List ℕ). w ∷ c.2.words) (among_is body_word every_body_kind c.0 c.1 c.3)) c.5;
  back = body_again;
}

-- ---- faults

pub exact_ahead : Exact (both epoch_at (both mask_at (both epoch_at mask_at))) (λ p. decimal p.0 ∷ decimal p.1.0 ∷ decimal p.1.1.0 ∷ decimal p.1.1.1 ∷ []) (λ p. IsEpoch p.0 × ((p.1.0 < 2 ^ MASK_BITS) × (IsEpoch p.1.1.0 × (p.1.1.1 < 2 ^ MASK_BITS))))
exact_ahead = exact_both exact_epoch (exact_both exact_mask (exact_both exact_epoch exact_mask))

fault_read : (m : ℕ) (k : FaultKind) (all : List (List ℕ)) (t s : Reading) (y : Fault) → all ≡ fault_word k ∷ t.words → fault_behind m k t ≡ Ok (y, s) → (all ≡ fault_words y ++ s.words) × IsFault m y
fault_read m fault_kind.AlreadyMember all t s y head e = read_as exact_nothing (λ (_ : Unit {0}). faults.AlreadyMember) fault_words (IsFault m) (codes "already-member") (λ x. refl) (λ x g. tt) all t s y head e
fault_read m fault_kind.UnknownMember all t s y head e = read_as exact_nothing (λ (_ : Unit {0}). faults.UnknownMember) fault_words (IsFault m) (codes "unknown-member") (λ x. refl) (λ x g. tt) all t s y head e
fault_read m fault_kind.BadMask all t s y head e = read_as exact_nothing (λ (_ : Unit {0}). faults.BadMask) fault_words (IsFault m) (codes "bad-mask") (λ x. refl) (λ x g. tt) all t s y head e
fault_read m fault_kind.Known all t s y head e = read_as exact_nothing (λ (_ : Unit {0}). faults.Known) fault_words (IsFault m) (codes "known") (λ x. refl) (λ x g. tt) all t s y head e
fault_read m fault_kind.OtherCertificate all t s y head e = read_as (exact_both exact_port exact_key) (λ (p : ℕ × Key). faults.OtherCertificate p.0 (written p.1)) fault_words (IsFault m) (codes "other-certificate") (λ x. refl) (λ x g. (g.0, record { key = x.1; is_key = g.1; same = refl })) all t s y head e
fault_read m fault_kind.Older all t s y head e = read_as (exact_both exact_epoch exact_mask) (λ (p : ℕ × ℕ). faults.Older p.0 (record { 0 = p.1 })) fault_words (IsFault m) (codes "older") (λ x. refl) (λ x g. g) all t s y head e
fault_read m fault_kind.SelfAccusation all t s y head e = read_as exact_nothing (λ (_ : Unit {0}). faults.SelfAccusation) fault_words (IsFault m) (codes "self-accusation") (λ x. refl) (λ x g. tt) all t s y head e
fault_read m fault_kind.BadRing all t s y head e = read_as exact_nothing (λ (_ : Unit {0}). faults.BadRing) fault_words (IsFault m) (codes "bad-ring") (λ x. refl) (λ x g. tt) all t s y head e
fault_read m fault_kind.NoNote all t s y head e = read_as exact_nothing (λ (_ : Unit {0}). faults.NoNote) fault_words (IsFault m) (codes "no-note") (λ x. refl) (λ x g. tt) all t s y head e
fault_read m fault_kind.OtherEpoch all t s y head e = read_as exact_epoch faults.OtherEpoch fault_words (IsFault m) (codes "other-epoch") (λ x. refl) (λ x g. g) all t s y head e
fault_read m fault_kind.NotInView all t s y head e = read_as exact_nothing (λ (_ : Unit {0}). faults.NotInView) fault_words (IsFault m) (codes "not-in-view") (λ x. refl) (λ x g. tt) all t s y head e
fault_read m fault_kind.RingDisabled all t s y head e = read_as exact_nothing (λ (_ : Unit {0}). faults.RingDisabled) fault_words (IsFault m) (codes "ring-disabled") (λ x. refl) (λ x g. tt) all t s y head e
fault_read m fault_kind.NotMonitor all t s y head e = read_as exact_monitor faults.NotMonitor fault_words (IsFault m) (codes "not-monitor") (λ x. refl) (λ x g. g) all t s y head e
fault_read m fault_kind.Standing all t s y head e = read_as exact_nothing (λ (_ : Unit {0}). faults.Standing) fault_words (IsFault m) (codes "standing") (λ x. refl) (λ x g. tt) all t s y head e
fault_read m fault_kind.BadSignature all t s y head e = read_as exact_nothing (λ (_ : Unit {0}). faults.BadSignature) fault_words (IsFault m) (codes "bad-signature") (λ x. refl) (λ x g. tt) all t s y head e
fault_read m fault_kind.OwnAhead all t s y head e = read_as exact_ahead (own_ahead m) fault_words (IsFault m) (codes "own-ahead") (λ x. refl) (λ x g. (record { member = refl; epoch = g.0; mask = g.1.0 }, record { member = refl; epoch = g.1.1.0; mask = g.1.1.1 })) all t s y head e

-- the parts of an own fault of this member are those of its text
ahead_same : (m : ℕ) (stored seen : NoteBody) → stored.member ≡ m → seen.member ≡ m → own_ahead m (stored.epoch, (stored.mask.0, (seen.epoch, seen.mask.0))) ≡ faults.OwnAhead stored seen
ahead_same m stored seen one two =
    ap (λ (k : ℕ). faults.OwnAhead (record { member = k; epoch = stored.epoch; mask = stored.mask }) (record { member = m; epoch = seen.epoch; mask = seen.mask })) (sym one)
    ∙ ap (λ (k : ℕ). faults.OwnAhead stored (record { member = k; epoch = seen.epoch; mask = seen.mask })) (sym two)

abbrev done_fault : Fault → Reading → Result (Fault × Reading) ℕ
done_fault f s = Ok (f, s)

other_back : (m port : ℕ) (bytes : KeyBytes) (k : Key) → IsPort port → IsKey k → bytes ≡ written k → (r : Reading) (rest : List (List ℕ)) → r.words ≡ codes "other-certificate" ∷ decimal port ∷ encode_lower (listed bytes) ∷ rest
    → (s : Reading) × (fault_at m r ≡ Ok (faults.OtherCertificate port bytes, s)) × (s.words ≡ rest)
unfolding fault_at
other_back m port bytes k good is_key same r rest left =
    let a = back_as (among fault_word every_fault_kind) (fault_behind m) fault_kind.OtherCertificate (codes "other-certificate") (exact_both exact_port exact_key) (λ (p : ℕ × Key). faults.OtherCertificate p.0 (written p.1)) (λ t. refl) refl (port, k) (good, is_key) r rest
    (left ∙ ap (λ (b : KeyBytes). codes "other-certificate" ∷ decimal port ∷ encode_lower (listed b) ∷ rest) same) in
    (a.0, a.1 ∙ ap (λ (b : KeyBytes). done_fault (faults.OtherCertificate port b) a.0) (sym same), a.2)

ahead_back : (m : ℕ) (stored seen : NoteBody) → IsNoteOf m stored → IsNoteOf m seen → (r : Reading) (rest : List (List ℕ)) → r.words ≡ fault_words (faults.OwnAhead stored seen) ++ rest
    → (s : Reading) × (fault_at m r ≡ Ok (faults.OwnAhead stored seen, s)) × (s.words ≡ rest)
unfolding fault_at
ahead_back m stored seen one two r rest left =
    let a = back_as (among fault_word every_fault_kind) (fault_behind m) fault_kind.OwnAhead (codes "own-ahead") exact_ahead (own_ahead m) (λ t. refl) refl (stored.epoch, (stored.mask.0, (seen.epoch, seen.mask.0))) (one.epoch, (one.mask, (two.epoch, two.mask))) r rest left in
    (a.0, a.1 ∙ ap (λ (f : Fault). done_fault f a.0) (ahead_same m stored seen one.member two.member), a.2)

fault_again : (m : ℕ) (y : Fault) → IsFault m y → (r : Reading) (rest : List (List ℕ)) → r.words ≡ fault_words y ++ rest → (s : Reading) × (fault_at m r ≡ Ok (y, s)) × (s.words ≡ rest)
unfolding fault_at
fault_again m faults.AlreadyMember good r rest left = back_as (among fault_word every_fault_kind) (fault_behind m) fault_kind.AlreadyMember (codes "already-member") exact_nothing (λ (_ : Unit {0}). faults.AlreadyMember) (λ t. refl) refl tt tt r rest left
fault_again m faults.UnknownMember good r rest left = back_as (among fault_word every_fault_kind) (fault_behind m) fault_kind.UnknownMember (codes "unknown-member") exact_nothing (λ (_ : Unit {0}). faults.UnknownMember) (λ t. refl) refl tt tt r rest left
fault_again m faults.BadMask good r rest left = back_as (among fault_word every_fault_kind) (fault_behind m) fault_kind.BadMask (codes "bad-mask") exact_nothing (λ (_ : Unit {0}). faults.BadMask) (λ t. refl) refl tt tt r rest left
fault_again m faults.Known good r rest left = back_as (among fault_word every_fault_kind) (fault_behind m) fault_kind.Known (codes "known") exact_nothing (λ (_ : Unit {0}). faults.Known) (λ t. refl) refl tt tt r rest left
fault_again m (faults.OtherCertificate port key) good r rest left = other_back m port key good.1.key good.0 good.1.is_key good.1.same r rest left
fault_again m (faults.Older epoch mask) good r rest left = back_as (among fault_word every_fault_kind) (fault_behind m) fault_kind.Older (codes "older") (exact_both exact_epoch exact_mask) (λ (p : ℕ × ℕ). faults.Older p.0 (record { 0 = p.1 })) (λ t. refl) refl (epoch, mask.0) good r rest left
fault_again m faults.SelfAccusation good r rest left = back_as (among fault_word every_fault_kind) (fault_behind m) fault_kind.SelfAccusation (codes "self-accusation") exact_nothing (λ (_ : Unit {0}). faults.SelfAccusation) (λ t. refl) refl tt tt r rest left
fault_again m faults.BadRing good r rest left = back_as (among fault_word every_fault_kind) (fault_behind m) fault_kind.BadRing (codes "bad-ring") exact_nothing (λ (_ : Unit {0}). faults.BadRing) (λ t. refl) refl tt tt r rest left
fault_again m faults.NoNote good r rest left = back_as (among fault_word every_fault_kind) (fault_behind m) fault_kind.NoNote (codes "no-note") exact_nothing (λ (_ : Unit {0}). faults.NoNote) (λ t. refl) refl tt tt r rest left
fault_again m (faults.OtherEpoch kept) good r rest left = back_as (among fault_word every_fault_kind) (fault_behind m) fault_kind.OtherEpoch (codes "other-epoch") exact_epoch faults.OtherEpoch (λ t. refl) refl kept good r rest left
fault_again m faults.NotInView good r rest left = back_as (among fault_word every_fault_kind) (fault_behind m) fault_kind.NotInView (codes "not-in-view") exact_nothing (λ (_ : Unit {0}). faults.NotInView) (λ t. refl) refl tt tt r rest left
fault_again m faults.RingDisabled good r rest left = back_as (among fault_word every_fault_kind) (fault_behind m) fault_kind.RingDisabled (codes "ring-disabled") exact_nothing (λ (_ : Unit {0}). faults.RingDisabled) (λ t. refl) refl tt tt r rest left
fault_again m (faults.NotMonitor monitor) good r rest left = back_as (among fault_word every_fault_kind) (fault_behind m) fault_kind.NotMonitor (codes "not-monitor") exact_monitor faults.NotMonitor (λ t. refl) refl monitor good r rest left
fault_again m faults.Standing good r rest left = back_as (among fault_word every_fault_kind) (fault_behind m) fault_kind.Standing (codes "standing") exact_nothing (λ (_ : Unit {0}). faults.Standing) (λ t. refl) refl tt tt r rest left
fault_again m faults.BadSignature good r rest left = back_as (among fault_word every_fault_kind) (fault_behind m) fault_kind.BadSignature (codes "bad-signature") exact_nothing (λ (_ : Unit {0}). faults.BadSignature) (λ t. refl) refl tt tt r rest left
fault_again m (faults.OwnAhead stored seen) good r rest left = ahead_back m stored seen good.0 good.1 r rest left

pub exact_fault : (m : ℕ) → Exact (fault_at m) fault_words (IsFault m)
unfolding fault_at
exact_fault m = record {
  read = λ r s y e.
      let c = chosen_ok (among fault_word every_fault_kind) (fault_behind m) r s y e in
      fault_read m c.1 r.words c.2 s y (c.4 ∙ ap (λ (w : List ℕ). w ∷ c.2.words) (among_is fault_word every_fault_kind c.0 c.1 c.3)) c.5;
  back = fault_again m;
}

-- ---- verdicts

abbrev pub no_fault : Option Fault
no_fault = None

verdict_read : (m : ℕ) (k : Bool) (word : List ℕ) (all : List (List ℕ)) (t s : Reading) (y : Option Fault) → one_of (codes "accepted") (codes "refused") word ≡ Some k → all ≡ word ∷ t.words → verdict_behind m k t ≡ Ok (y, s)
    → (all ≡ verdict_words y ++ s.words) × IsVerdict m y
verdict_read m true word all t s y is head e =
    read_as exact_nothing (λ (_ : Unit {0}). no_fault) verdict_words (IsVerdict m) (codes "accepted") (λ x. refl) (λ x g. tt) all t s y (head ∙ ap (λ (w : List ℕ). w ∷ t.words) (one_is (codes "accepted") (codes "refused") word true is)) e
verdict_read m false word all t s y is head e =
    read_as (exact_fault m) Some verdict_words (IsVerdict m) (codes "refused") (λ x. refl) (λ x g. g) all t s y (head ∙ ap (λ (w : List ℕ). w ∷ t.words) (one_is (codes "accepted") (codes "refused") word false is)) e

verdict_again : (m : ℕ) (y : Option Fault) → IsVerdict m y → (r : Reading) (rest : List (List ℕ)) → r.words ≡ verdict_words y ++ rest → (s : Reading) × (verdict_at m r ≡ Ok (y, s)) × (s.words ≡ rest)
unfolding verdict_at
verdict_again m None good r rest left = back_as (one_of (codes "accepted") (codes "refused")) (verdict_behind m) true (codes "accepted") exact_nothing (λ (_ : Unit {0}). no_fault) (λ t. refl) refl tt tt r rest left
verdict_again m (Some fault) good r rest left = back_as (one_of (codes "accepted") (codes "refused")) (verdict_behind m) false (codes "refused") (exact_fault m) Some (λ t. refl) refl fault good r rest left

pub exact_verdict : (m : ℕ) → Exact (verdict_at m) verdict_words (IsVerdict m)
unfolding verdict_at
exact_verdict m = record {
  read = λ r s y e.
      let c = chosen_ok (one_of (codes "accepted") (codes "refused")) (verdict_behind m) r s y e in
      verdict_read m c.1 c.0 r.words c.2 s y c.3 c.4 c.5;
  back = verdict_again m;
}

-- ---- events

pub exact_took : Exact (followed body_at (λ body. both (token_at (is_literal (codes ":"))) (verdict_at (about body)))) (λ p. body_words p.0 ++ codes ":" ∷ verdict_words p.1.1) (λ p. IsBody p.0 × (Unit {0} × IsVerdict (about p.0) p.1.1))
exact_took = exact_followed exact_body (λ b. exact_both (exact_literal (codes ":")) (exact_verdict (about b)))

what_read : (k : Kind) (all : List (List ℕ)) (t s : Reading) (y : What) → all ≡ kind_word k ∷ t.words → what_behind k t ≡ Ok (y, s) → (all ≡ what_words y ++ s.words) × IsWhat y
what_read kind.Entered all t s y head e = read_as exact_member happened.Entered what_words IsWhat (codes "entered") (λ x. refl) (λ x g. g) all t s y head e
what_read kind.Expired all t s y head e = read_as exact_accusation happened.Expired what_words IsWhat (codes "expired") (λ x. refl) (λ x g. g) all t s y head e
what_read kind.Removed all t s y head e = read_as exact_member happened.Removed what_words IsWhat (codes "removed") (λ x. refl) (λ x g. g) all t s y head e
what_read kind.Fell all t s y head e = read_as exact_accusation happened.Fell what_words IsWhat (codes "fell") (λ x. refl) (λ x g. g) all t s y head e
what_read kind.Spent all t s y head e = read_as (exact_both exact_32 exact_body) (λ (p : ℕ × Body). happened.Spent p.0 p.1) what_words IsWhat (codes "spent") (λ x. refl) (λ x g. g) all t s y head e
what_read kind.Took all t s y head e = read_as exact_took (λ (p : Body × (Unit {0} × Option Fault)). happened.Took p.0 p.1.1) what_words IsWhat (codes "took") (λ x. refl) (λ x g. (g.0, g.1.1)) all t s y head e
what_read kind.BadForm all t s y head e = read_as exact_64 happened.BadForm what_words IsWhat (codes "bad-form") (λ x. refl) (λ x g. g) all t s y head e
what_read kind.Ping all t s y head e = read_as (exact_both exact_member exact_64) (λ (p : ℕ × ℕ). happened.Ping p.0 p.1) what_words IsWhat (codes "ping") (λ x. refl) (λ x g. g) all t s y head e
what_read kind.Pong all t s y head e = read_as (exact_both exact_member (exact_both exact_64 exact_answer)) (λ (p : ℕ × (ℕ × Bool)). happened.Pong p.0 p.1.0 p.1.1) what_words IsWhat (codes "pong") (λ x. refl) (λ x g. (g.0, g.1.0)) all t s y head e
what_read kind.Summary all t s y head e = read_as (exact_both exact_member (exact_both exact_page exact_flag)) (λ (p : ℕ × (ℕ × Bool)). happened.Summary p.0 p.1.0 p.1.1) what_words IsWhat (codes "summary") (λ x. refl) (λ x g. (g.0, g.1.0)) all t s y head e
what_read kind.Silent all t s y head e = read_as exact_member happened.Silent what_words IsWhat (codes "silent") (λ x. refl) (λ x g. g) all t s y head e
what_read kind.Exhausted all t s y head e = read_as exact_32 happened.Exhausted what_words IsWhat (codes "exhausted") (λ x. refl) (λ x g. g) all t s y head e
what_read kind.Sent all t s y head e = read_as (exact_both exact_64 (exact_both exact_member exact_bytes)) (λ (p : ℕ × (ℕ × List ℕ)). happened.Sent p.0 p.1.0 p.1.1) what_words IsWhat (codes "sent") (λ x. refl) (λ x g. (g.0, g.1.0, g.1.1.0, g.1.1.1)) all t s y head e
what_read kind.Lost all t s y head e = read_as exact_64 happened.Lost what_words IsWhat (codes "lost") (λ x. refl) (λ x g. g) all t s y head e
what_read kind.Got all t s y head e = read_as exact_64 happened.Got what_words IsWhat (codes "got") (λ x. refl) (λ x g. g) all t s y head e
what_read kind.Stopped all t s y head e = read_as exact_nothing (λ (_ : Unit {0}). happened.Stopped) what_words IsWhat (codes "stopped") (λ x. refl) (λ x g. tt) all t s y head e

what_again : (y : What) → IsWhat y → (r : Reading) (rest : List (List ℕ)) → r.words ≡ what_words y ++ rest → (s : Reading) × (what_at r ≡ Ok (y, s)) × (s.words ≡ rest)
unfolding what_at
what_again (happened.Entered m) good r rest left = back_as (among kind_word every_kind) what_behind kind.Entered (codes "entered") exact_member happened.Entered (λ t. refl) refl m good r rest left
what_again (happened.Expired a) good r rest left = back_as (among kind_word every_kind) what_behind kind.Expired (codes "expired") exact_accusation happened.Expired (λ t. refl) refl a good r rest left
what_again (happened.Removed m) good r rest left = back_as (among kind_word every_kind) what_behind kind.Removed (codes "removed") exact_member happened.Removed (λ t. refl) refl m good r rest left
what_again (happened.Fell a) good r rest left = back_as (among kind_word every_kind) what_behind kind.Fell (codes "fell") exact_accusation happened.Fell (λ t. refl) refl a good r rest left
what_again (happened.Spent index body) good r rest left = back_as (among kind_word every_kind) what_behind kind.Spent (codes "spent") (exact_both exact_32 exact_body) (λ (p : ℕ × Body). happened.Spent p.0 p.1) (λ t. refl) refl (index, body) good r rest left
what_again (happened.Took body fault) good r rest left = back_as (among kind_word every_kind) what_behind kind.Took (codes "took") exact_took (λ (p : Body × (Unit {0} × Option Fault)). happened.Took p.0 p.1.1) (λ t. refl) refl (body, (tt, fault)) (good.0, (tt, good.1)) r rest left
what_again (happened.BadForm place) good r rest left = back_as (among kind_word every_kind) what_behind kind.BadForm (codes "bad-form") exact_64 happened.BadForm (λ t. refl) refl place good r rest left
what_again (happened.Ping from nonce) good r rest left = back_as (among kind_word every_kind) what_behind kind.Ping (codes "ping") (exact_both exact_member exact_64) (λ (p : ℕ × ℕ). happened.Ping p.0 p.1) (λ t. refl) refl (from, nonce) good r rest left
what_again (happened.Pong from nonce counted) good r rest left = back_as (among kind_word every_kind) what_behind kind.Pong (codes "pong") (exact_both exact_member (exact_both exact_64 exact_answer)) (λ (p : ℕ × (ℕ × Bool)). happened.Pong p.0 p.1.0 p.1.1) (λ t. refl) refl (from, (nonce, counted)) (good.0, (good.1, tt)) r rest left
what_again (happened.Summary from page flag) good r rest left = back_as (among kind_word every_kind) what_behind kind.Summary (codes "summary") (exact_both exact_member (exact_both exact_page exact_flag)) (λ (p : ℕ × (ℕ × Bool)). happened.Summary p.0 p.1.0 p.1.1) (λ t. refl) refl (from, (page, flag)) (good.0, (good.1, tt)) r rest left
what_again (happened.Silent m) good r rest left = back_as (among kind_word every_kind) what_behind kind.Silent (codes "silent") exact_member happened.Silent (λ t. refl) refl m good r rest left
what_again (happened.Exhausted next) good r rest left = back_as (among kind_word every_kind) what_behind kind.Exhausted (codes "exhausted") exact_32 happened.Exhausted (λ t. refl) refl next good r rest left
what_again (happened.Sent number to bytes) good r rest left = back_as (among kind_word every_kind) what_behind kind.Sent (codes "sent") (exact_both exact_64 (exact_both exact_member exact_bytes)) (λ (p : ℕ × (ℕ × List ℕ)). happened.Sent p.0 p.1.0 p.1.1) (λ t. refl) refl (number, (to, bytes)) (good.0, (good.1, (good.2, good.3))) r rest left
what_again (happened.Lost number) good r rest left = back_as (among kind_word every_kind) what_behind kind.Lost (codes "lost") exact_64 happened.Lost (λ t. refl) refl number good r rest left
what_again (happened.Got number) good r rest left = back_as (among kind_word every_kind) what_behind kind.Got (codes "got") exact_64 happened.Got (λ t. refl) refl number good r rest left
what_again happened.Stopped good r rest left = back_as (among kind_word every_kind) what_behind kind.Stopped (codes "stopped") exact_nothing (λ (_ : Unit {0}). happened.Stopped) (λ t. refl) refl tt tt r rest left

pub exact_what : Exact what_at what_words IsWhat
unfolding what_at
exact_what = record {
  read = λ r s y e.
      let c = chosen_ok (among kind_word every_kind) what_behind r s y e in
      what_read c.1 r.words c.2 s y (c.4 ∙ ap (λ (w : List ℕ). w ∷ c.2.words) (among_is kind_word every_kind c.0 c.1 c.3)) c.5;
  back = what_again;
}

abbrev pub IsGood : Event → Type 0
IsGood e = (e.moment < 2 ^ 64) × IsWhat e.what

pub exact_event : Exact event_at event_words IsGood
unfolding event_at
exact_event =
    exact_so IsGood (λ e g. (g.1.0, g.1.1)) (λ e g. (tt, (g.0, g.1)))
    (exact_made (λ (p : Unit {0} × (ℕ × What)). let e : Event = record { moment = p.1.0; what = p.1.1 } in e) (λ (e : Event). (tt, (e.moment, e.what))) (λ y. refl) (λ x. refl)
    (exact_both (exact_literal (codes "at")) (exact_both exact_64 exact_what)))

-- ---- the two laws

pub event_found : (text : List ℕ) (e : Event) → whole event_at text ≡ Ok e → IsEvent text e
event_found text e is =
    let w = whole_read exact_event text e is in
    record {
      moment = w.1.0;
      what = w.1.1;
      spelled = sym (join_with_byte-slice_split 32 text) ∙ ap joined w.0 ∙ sym (event_joined e);
    }

pub event_given : (text : List ℕ) (e : Event) → IsEvent text e → whole event_at text ≡ Ok e
event_given text e is =
    let cut = parts-joined (codes "at") (decimal e.moment ∷ what_words e.what) (worded_event e is.moment is.what).all in
    whole_back exact_event text e (is.moment, is.what) (ap parts (is.spelled ∙ event_joined e) ∙ cut)

found_of : (text : List ℕ) (read : Result Event ℕ) (answer : Result Event EventFault) → whole event_at text ≡ read → GivesEvent read answer → IfOk answer (λ e. IsEvent text e)
found_of text (Ok e) (Ok given) is same = subst (IsEvent text) (sym same) (event_found text e is)
found_of text (Ok e) (Err fault) is same = tt
found_of text (Err place) answer is same = subst (λ (a : Result Event EventFault). IfOk a (λ e. IsEvent text e)) (sym same) tt

-- what is read is spelled so
pub is_found : (text : List ℕ) (answer : Result Event EventFault) → GivesEvent (whole event_at text) answer → IfOk answer (λ e. IsEvent text e)
is_found text answer given = found_of text (whole event_at text) answer refl given

given_of : (e x : Event) (answer : Result Event EventFault) → x ≡ e → GivesEvent (Ok x) answer → IsGiven e answer
given_of e x (Ok y) same given = given ∙ same
given_of e x (Err fault) same given = (given.0, subst (λ (z : Event). TakesMemory z.what) same given.1)

-- what is spelled so is read
pub is_given : (text : List ℕ) (answer : Result Event EventFault) → GivesEvent (whole event_at text) answer → (e : Event) → IsEvent text e → IsGiven e answer
is_given text answer given e is = given_of e e answer refl (subst (λ (r : Result Event ℕ). GivesEvent r answer) (event_given text e is) given)
