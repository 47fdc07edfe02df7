-- Where a text fails, told from the texts of all events.
use Rattle.std.proofs.Common.{◌≡◌, ℕ, zero, suc, ◌+◌, ◌<◌, ◌^◌, Bool, true, false, List, [], ◌∷◌, ◌++◌, length, Option, Some, None, Result, Ok, Err, refl, sym, ap, subst, ◌∙◌, append_assoc, arith, lit<, cond}
use Rattle.std.specs.Prelude.{codes, decimal, nat_lt, IfErr}
use Rattle.std.specs.List.{list_all}
use Rattle.std.proofs.lemmas.Bool.{and_parts, ltb-true}
use Rattle.std.proofs.lemmas.List.{append-nil}
use Rattle.std.proofs.lemmas.List.Splits.{join_with_byte-slice_split}
use Rattle.ff_ids.specs.declared.TheConstants.{LAST_MEMBER, MEMBERS, MASK_BITS, PAGES, ALL_BITS, LAST_PAGE}
use Rattle.hex.specs.Hex.{IsBytes, encode_lower}
use Rattle.line_text.specs.Words.{parts}
use Rattle.line_text.proofs.FrameLemmas.{parts-joined}
use Rattle.ff_ids.specs.Texts.{monitor_text}
use Rattle.ff_ids.specs.declared.AccBody.{AccBody}
use Rattle.ff_ids.specs.declared.NoteBody.{NoteBody}
use Rattle.ff_ids.specs.declared.Fault.{Fault}
use Rattle.ff_ids.specs.declared.Fault.TheVariants as faults
use Rattle.lms_ots.specs.declared.kind.OtsKind.TheVariants.{W8}
use Rattle.lms_tree.specs.declared.kind.TreeKind.TheVariants.{H5}
use Rattle.records.specs.declared.keys.Key.{Key}
use Rattle.records.specs.declared.keys.Key.TheVariants as keys
use Rattle.lms_tree.specs.Lms as lms
use Rattle.records.specs.Keys.{key_bytes, written}
use Rattle.records.specs.Spelling.{IsNote}
use Rattle.records.specs.declared.CertBody.{CertBody}
use Rattle.records.specs.declared.Body.{Body}
use Rattle.records.specs.declared.Body.TheVariants as bodies
use Rattle.journal.specs.declared.kinds.Kind.{Kind}
use Rattle.journal.specs.declared.kinds.Kind.TheVariants as kind
use Rattle.journal.specs.declared.kinds.BodyKind.{BodyKind}
use Rattle.journal.specs.declared.kinds.BodyKind.TheVariants as body_kind
use Rattle.journal.specs.declared.kinds.FaultKind.{FaultKind}
use Rattle.journal.specs.declared.kinds.FaultKind.TheVariants as fault_kind
use Rattle.journal.specs.declared.event.Event.{Event}
use Rattle.journal.specs.declared.event.What.{What}
use Rattle.journal.specs.declared.event.What.TheVariants as happened
use Rattle.journal.specs.declared.fault.EventFault.{EventFault}
use Rattle.journal.specs.Kinds.{body_word, every_body_kind, every_fault_kind, every_kind, fault_word, kind_word}
use Rattle.journal.specs.Texts.{answer_text, event_text, flag_text}
use Rattle.journal.specs.Words.{◌>>=◌, Reading, among, both, bytes_of, ended, followed, is_literal, key_of, monitor_of, number, one_of, reading_of, token_at, whole}
use Rattle.journal.specs.Grammar.{GivesEvent, about, accusation_at, body_at, body_behind, certificate_at, epoch_at, event_at, fault_at, fault_behind, mask_at, member_at, note_at, number_32_at, number_64_at, own_ahead, page_at, port_at, ring_at, verdict_at, verdict_behind, what_at, what_behind}
use Rattle.journal.specs.Places.{Begins, FailsAs, FailsAt, IsStuck, IsWhole}
use Rattle.journal.specs.Spelling.{IsAccusation, IsBody, IsCertificate, IsEpoch, IsEvent, IsFault, IsKey, IsMonitor, IsPort, IsVerdict, IsWhat}
use Rattle.journal.proofs.Events.{IsGood, accusation_is, accusation_parts, certificate_is, certificate_parts, note_is, note_parts, exact_32, exact_64, exact_body, exact_epoch, exact_event, exact_fault, exact_mask, exact_member, exact_page, exact_port, exact_ring, exact_verdict, exact_what, no_fault}
use Rattle.journal.proofs.Rules.{exact_answer, exact_bytes, exact_flag, exact_key, exact_literal, exact_monitor, one_is}
use Rattle.journal.proofs.Spelled.{accusation_words, body_words, certificate_words, event_joined, event_words, fault_words, joined, note_words, verdict_words, what_words, worded_event}
use Rattle.journal.proofs.Steps.{among_is, done}
use Rattle.journal.proofs.Firm.{Again, Branch, Firm, Stops, branch, firm_both, firm_chosen, firm_followed, firm_made, firm_nothing, firm_so, firm_token, reach, size}

-- ---- numbers and words

firm_member : Firm member_at (λ m. decimal m ∷ []) (λ m. m < MEMBERS)
firm_member = firm_token (number 0 LAST_MEMBER) 0 (omega arith) exact_member

firm_epoch : Firm epoch_at (λ n. decimal n ∷ []) IsEpoch
firm_epoch = firm_token (number 1 18446744073709551615) 1 (record { some = omega arith; fits = lit< tt }) exact_epoch

firm_mask : Firm mask_at (λ n. decimal n ∷ []) (λ n. n < 2 ^ MASK_BITS)
firm_mask = firm_token (number 0 ALL_BITS) 0 (lit< tt) exact_mask

firm_32 : Firm number_32_at (λ n. decimal n ∷ []) (λ n. n < 2 ^ 32)
firm_32 = firm_token (number 0 4294967295) 0 (lit< tt) exact_32

firm_ring : Firm ring_at (λ n. decimal n ∷ []) (λ n. n < 256)
firm_ring = firm_token (number 0 255) 0 (lit< tt) exact_ring

firm_port : Firm port_at (λ n. decimal n ∷ []) IsPort
firm_port = firm_token (number 1 65535) 1 (record { some = omega arith; fits = lit< tt }) exact_port

firm_page : Firm page_at (λ n. decimal n ∷ []) (λ n. n < PAGES)
firm_page = firm_token (number 0 LAST_PAGE) 0 (lit< tt) exact_page

firm_64 : Firm number_64_at (λ n. decimal n ∷ []) (λ n. n < 2 ^ 64)
firm_64 = firm_token (number 0 18446744073709551615) 0 (lit< tt) exact_64

pub firm_literal : (text : List ℕ) → Firm (token_at (is_literal text)) (λ x. text ∷ []) (λ x. Unit {0})
firm_literal text = firm_token (is_literal text) tt tt (exact_literal text)

firm_monitor : Firm (token_at monitor_of) (λ m. monitor_text m ∷ []) IsMonitor
firm_monitor = firm_token monitor_of None tt exact_monitor

firm_answer : Firm (token_at (one_of (codes "counted") (codes "stray"))) (λ x. answer_text x ∷ []) (λ x. Unit {0})
firm_answer = firm_token (one_of (codes "counted") (codes "stray")) true tt exact_answer

firm_flag : Firm (token_at (one_of (codes "1") (codes "0"))) (λ x. flag_text x ∷ []) (λ x. Unit {0})
firm_flag = firm_token (one_of (codes "1") (codes "0")) true tt exact_flag

are_bytes : (xs : List ℕ) → list_all (λ b. nat_lt b 256) xs ≡ true → IsBytes xs
are_bytes [] h i = omega arith
are_bytes (b ∷ rest) h zero = ltb-true b 256 (and_parts _ _ h).0
are_bytes (b ∷ rest) h (suc i) = are_bytes rest (and_parts _ _ h).1 i

pub one_byte : IsBytes (0 ∷ [])
one_byte = are_bytes (0 ∷ []) refl

firm_bytes : Firm (token_at bytes_of) (λ b. encode_lower b ∷ []) (λ b. (0 < length b) × IsBytes b)
firm_bytes = firm_token bytes_of (0 ∷ []) (omega arith, one_byte) exact_bytes

-- a key of zeros
abbrev zeros_16 : List ℕ
zeros_16 = 0 ∷ 0 ∷ 0 ∷ 0 ∷ 0 ∷ 0 ∷ 0 ∷ 0 ∷ 0 ∷ 0 ∷ 0 ∷ 0 ∷ 0 ∷ 0 ∷ 0 ∷ 0 ∷ []

abbrev zero_key : Key
zero_key = keys.Lms (record { tree = H5; ots = W8; id = zeros_16; root = zeros_16 ++ zeros_16 })

zero_bytes : IsBytes (key_bytes zero_key)
unfolding lms.key_bytes
zero_bytes = are_bytes (key_bytes zero_key) refl

firm_key : Firm (token_at key_of) (λ k. encode_lower (key_bytes k) ∷ []) IsKey
firm_key = firm_token key_of zero_key (record { parts = record { id_long = refl; root_long = refl }; bytes = zero_bytes }) exact_key

-- ---- bodies

firm_certificate : Firm certificate_at certificate_words IsCertificate
unfolding certificate_at
firm_certificate =
    firm_so IsCertificate certificate_is certificate_parts
    (firm_made (λ (p : ℕ × (ℕ × Key)). let c : CertBody = record { member = p.0; port = p.1.0; key = p.1.1 } in c) (λ (c : CertBody). (c.member, (c.port, c.key))) (λ y. refl) (λ x. refl)
    (firm_both firm_member (firm_both firm_port firm_key)))

firm_note : Firm note_at note_words IsNote
unfolding note_at
firm_note =
    firm_so IsNote note_is note_parts
    (firm_made (λ (p : ℕ × (ℕ × ℕ)). let n : NoteBody = record { member = p.0; epoch = p.1.0; mask = record { 0 = p.1.1 } } in n) (λ (n : NoteBody). (n.member, (n.epoch, n.mask.0))) (λ y. refl) (λ x. refl)
    (firm_both firm_member (firm_both firm_epoch firm_mask)))

firm_accusation : Firm accusation_at accusation_words IsAccusation
unfolding accusation_at
firm_accusation =
    firm_so IsAccusation accusation_is accusation_parts
    (firm_made (λ (p : ℕ × (ℕ × (ℕ × ℕ))). let a : AccBody = record { accuser = p.0; accused = p.1.0; epoch = p.1.1.0; ring = record { 0 = p.1.1.1 } } in a) (λ (a : AccBody). (a.accuser, (a.accused, (a.epoch, a.ring.0)))) (λ y. refl) (λ x. refl)
    (firm_both firm_member (firm_both firm_member (firm_both firm_epoch firm_ring))))

body_branch : (k : BodyKind) → Branch (body_behind k) (body_word k) body_words IsBody
body_branch body_kind.Certificate = branch firm_certificate bodies.Certificate body_words IsBody (codes "cert") (λ x. refl) (λ x g. g)
body_branch body_kind.Note = branch firm_note bodies.Note body_words IsBody (codes "note") (λ x. refl) (λ x g. g)
body_branch body_kind.Accusation = branch firm_accusation bodies.Accusation body_words IsBody (codes "accuse") (λ x. refl) (λ x g. g)

firm_body : Firm body_at body_words IsBody
unfolding body_at
firm_body = firm_chosen (among body_word every_body_kind) body_behind body_word body_words IsBody (among_is body_word every_body_kind) exact_body body_branch (bodies.Note firm_note.some) firm_note.some_good

-- ---- faults

fault_branch : (m : ℕ) (k : FaultKind) → Branch (fault_behind m k) (fault_word k) fault_words (IsFault m)
fault_branch m fault_kind.AlreadyMember = branch firm_nothing (λ (_ : Unit {0}). faults.AlreadyMember) fault_words (IsFault m) (codes "already-member") (λ x. refl) (λ x g. tt)
fault_branch m fault_kind.UnknownMember = branch firm_nothing (λ (_ : Unit {0}). faults.UnknownMember) fault_words (IsFault m) (codes "unknown-member") (λ x. refl) (λ x g. tt)
fault_branch m fault_kind.BadMask = branch firm_nothing (λ (_ : Unit {0}). faults.BadMask) fault_words (IsFault m) (codes "bad-mask") (λ x. refl) (λ x g. tt)
fault_branch m fault_kind.Known = branch firm_nothing (λ (_ : Unit {0}). faults.Known) fault_words (IsFault m) (codes "known") (λ x. refl) (λ x g. tt)
fault_branch m fault_kind.OtherCertificate = branch (firm_both firm_port firm_key) (λ (p : ℕ × Key). faults.OtherCertificate p.0 (written p.1)) fault_words (IsFault m) (codes "other-certificate") (λ x. refl) (λ x g. (g.0, record { key = x.1; is_key = g.1; same = refl }))
fault_branch m fault_kind.Older = branch (firm_both firm_epoch firm_mask) (λ (p : ℕ × ℕ). faults.Older p.0 (record { 0 = p.1 })) fault_words (IsFault m) (codes "older") (λ x. refl) (λ x g. g)
fault_branch m fault_kind.SelfAccusation = branch firm_nothing (λ (_ : Unit {0}). faults.SelfAccusation) fault_words (IsFault m) (codes "self-accusation") (λ x. refl) (λ x g. tt)
fault_branch m fault_kind.BadRing = branch firm_nothing (λ (_ : Unit {0}). faults.BadRing) fault_words (IsFault m) (codes "bad-ring") (λ x. refl) (λ x g. tt)
fault_branch m fault_kind.NoNote = branch firm_nothing (λ (_ : Unit {0}). faults.NoNote) fault_words (IsFault m) (codes "no-note") (λ x. refl) (λ x g. tt)
fault_branch m fault_kind.OtherEpoch = branch firm_epoch faults.OtherEpoch fault_words (IsFault m) (codes "other-epoch") (λ x. refl) (λ x g. g)
fault_branch m fault_kind.NotInView = branch firm_nothing (λ (_ : Unit {0}). faults.NotInView) fault_words (IsFault m) (codes "not-in-view") (λ x. refl) (λ x g. tt)
fault_branch m fault_kind.RingDisabled = branch firm_nothing (λ (_ : Unit {0}). faults.RingDisabled) fault_words (IsFault m) (codes "ring-disabled") (λ x. refl) (λ x g. tt)
fault_branch m fault_kind.NotMonitor = branch firm_monitor faults.NotMonitor fault_words (IsFault m) (codes "not-monitor") (λ x. refl) (λ x g. g)
fault_branch m fault_kind.Standing = branch firm_nothing (λ (_ : Unit {0}). faults.Standing) fault_words (IsFault m) (codes "standing") (λ x. refl) (λ x g. tt)
fault_branch m fault_kind.BadSignature = branch firm_nothing (λ (_ : Unit {0}). faults.BadSignature) fault_words (IsFault m) (codes "bad-signature") (λ x. refl) (λ x g. tt)
fault_branch m fault_kind.OwnAhead = branch (firm_both firm_epoch (firm_both firm_mask (firm_both firm_epoch firm_mask))) (own_ahead m) fault_words (IsFault m) (codes "own-ahead") (λ x. refl) (λ x g. (record { member = refl; epoch = g.0; mask = g.1.0 }, record { member = refl; epoch = g.1.1.0; mask = g.1.1.1 }))

firm_fault : (m : ℕ) → Firm (fault_at m) fault_words (IsFault m)
unfolding fault_at
firm_fault m = firm_chosen (among fault_word every_fault_kind) (fault_behind m) fault_word fault_words (IsFault m) (among_is fault_word every_fault_kind) (exact_fault m) (fault_branch m) faults.Known tt

-- ---- verdicts

abbrev verdict_word : Bool → List ℕ
verdict_word accepted = cond accepted (codes "accepted") (codes "refused")

verdict_branch : (m : ℕ) (k : Bool) → Branch (verdict_behind m k) (verdict_word k) verdict_words (IsVerdict m)
verdict_branch m true = branch firm_nothing (λ (_ : Unit {0}). no_fault) verdict_words (IsVerdict m) (codes "accepted") (λ x. refl) (λ x g. tt)
verdict_branch m false = branch (firm_fault m) Some verdict_words (IsVerdict m) (codes "refused") (λ x. refl) (λ x g. g)

firm_verdict : (m : ℕ) → Firm (verdict_at m) verdict_words (IsVerdict m)
unfolding verdict_at
firm_verdict m = firm_chosen (one_of (codes "accepted") (codes "refused")) (verdict_behind m) verdict_word verdict_words (IsVerdict m) (one_is (codes "accepted") (codes "refused")) (exact_verdict m) (verdict_branch m) None tt

-- ---- events

firm_took : Firm (followed body_at (λ body. both (token_at (is_literal (codes ":"))) (verdict_at (about body)))) (λ p. body_words p.0 ++ codes ":" ∷ verdict_words p.1.1) (λ p. IsBody p.0 × (Unit {0} × IsVerdict (about p.0) p.1.1))
firm_took = firm_followed firm_body (λ b. firm_both (firm_literal (codes ":")) (firm_verdict (about b)))

what_branch : (k : Kind) → Branch (what_behind k) (kind_word k) what_words IsWhat
what_branch kind.Entered = branch firm_member happened.Entered what_words IsWhat (codes "entered") (λ x. refl) (λ x g. g)
what_branch kind.Expired = branch firm_accusation happened.Expired what_words IsWhat (codes "expired") (λ x. refl) (λ x g. g)
what_branch kind.Removed = branch firm_member happened.Removed what_words IsWhat (codes "removed") (λ x. refl) (λ x g. g)
what_branch kind.Fell = branch firm_accusation happened.Fell what_words IsWhat (codes "fell") (λ x. refl) (λ x g. g)
what_branch kind.Spent = branch (firm_both firm_32 firm_body) (λ (p : ℕ × Body). happened.Spent p.0 p.1) what_words IsWhat (codes "spent") (λ x. refl) (λ x g. g)
what_branch kind.Took = branch firm_took (λ (p : Body × (Unit {0} × Option Fault)). happened.Took p.0 p.1.1) what_words IsWhat (codes "took") (λ x. refl) (λ x g. (g.0, g.1.1))
what_branch kind.BadForm = branch firm_64 happened.BadForm what_words IsWhat (codes "bad-form") (λ x. refl) (λ x g. g)
what_branch kind.Ping = branch (firm_both firm_member firm_64) (λ (p : ℕ × ℕ). happened.Ping p.0 p.1) what_words IsWhat (codes "ping") (λ x. refl) (λ x g. g)
what_branch kind.Pong = branch (firm_both firm_member (firm_both firm_64 firm_answer)) (λ (p : ℕ × (ℕ × Bool)). happened.Pong p.0 p.1.0 p.1.1) what_words IsWhat (codes "pong") (λ x. refl) (λ x g. (g.0, g.1.0))
what_branch kind.Summary = branch (firm_both firm_member (firm_both firm_page firm_flag)) (λ (p : ℕ × (ℕ × Bool)). happened.Summary p.0 p.1.0 p.1.1) what_words IsWhat (codes "summary") (λ x. refl) (λ x g. (g.0, g.1.0))
what_branch kind.Silent = branch firm_member happened.Silent what_words IsWhat (codes "silent") (λ x. refl) (λ x g. g)
what_branch kind.Exhausted = branch firm_32 happened.Exhausted what_words IsWhat (codes "exhausted") (λ x. refl) (λ x g. g)
what_branch kind.Sent = branch (firm_both firm_64 (firm_both firm_member firm_bytes)) (λ (p : ℕ × (ℕ × List ℕ)). happened.Sent p.0 p.1.0 p.1.1) what_words IsWhat (codes "sent") (λ x. refl) (λ x g. (g.0, g.1.0, g.1.1.0, g.1.1.1))
what_branch kind.Lost = branch firm_64 happened.Lost what_words IsWhat (codes "lost") (λ x. refl) (λ x g. g)
what_branch kind.Got = branch firm_64 happened.Got what_words IsWhat (codes "got") (λ x. refl) (λ x g. g)
what_branch kind.Stopped = branch firm_nothing (λ (_ : Unit {0}). happened.Stopped) what_words IsWhat (codes "stopped") (λ x. refl) (λ x g. tt)

firm_what : Firm what_at what_words IsWhat
unfolding what_at
firm_what = firm_chosen (among kind_word every_kind) what_behind kind_word what_words IsWhat (among_is kind_word every_kind) exact_what what_branch happened.Stopped tt

firm_event : Firm event_at event_words IsGood
unfolding event_at
firm_event =
    firm_so IsGood (λ e g. (g.1.0, g.1.1)) (λ e g. (tt, (g.0, g.1)))
    (firm_made (λ (p : Unit {0} × (ℕ × What)). let e : Event = record { moment = p.1.0; what = p.1.1 } in e) (λ (e : Event). (tt, (e.moment, e.what))) (λ y. refl) (λ x. refl)
    (firm_both (firm_literal (codes "at")) (firm_both firm_64 firm_what)))

-- ---- the place of a fault

-- the words of an event's text
event_parts : (e : Event) → IsGood e → parts (event_text e) ≡ event_words e
event_parts e good = ap parts (event_joined e) ∙ parts-joined (codes "at") (decimal e.moment ∷ what_words e.what) (worded_event e good.0 good.1).all

good_of : (e : Event) → IsEvent (event_text e) e → IsGood e
good_of e is = (is.moment, is.what)

is_of : (e : Event) → IsGood e → IsEvent (event_text e) e
is_of e good = record { moment = good.0; what = good.1; spelled = refl }

begins_of : (front : List (List ℕ)) (e : Event) (more : List (List ℕ)) → IsGood e → event_words e ≡ front ++ more → Begins front
begins_of front e more good same = record { event = e; more = more; is_event = is_of e good; same = event_parts e good ∙ same }

not_both : (r : Result (Event × Reading) ℕ) (x : Event × Reading) (place : ℕ) → r ≡ Ok x → r ≡ Err place → ⊥
not_both r x place a b = cc

stuck_of : (front behind : List (List ℕ)) → Again event_at front behind → IsStuck front behind
stuck_of front [] again = λ (w : IsWhole front).
    let good = good_of w.event w.is_event in
    let r : Reading = record { place = 0; words = front } in
    let ok = exact_event.back w.event good r [] (sym w.same ∙ event_parts w.event good ∙ sym (append-nil (event_words w.event))) in
    let wrong = again r refl in
    not_both (event_at r) (w.event, ok.0) wrong.0 ok.1 wrong.1
stuck_of front (word ∷ rest) again = λ (b : Begins (front ++ word ∷ [])).
    let good = good_of b.event b.is_event in
    let r : Reading = record { place = 0; words = front ++ word ∷ b.more } in
    let all : front ++ word ∷ b.more ≡ event_words b.event = sym (append_assoc front (word ∷ []) b.more) ∙ sym b.same ∙ event_parts b.event good in
    let ok = exact_event.back b.event good r [] (all ∙ sym (append-nil (event_words b.event))) in
    let wrong = again r b.more refl in
    not_both (event_at r) (b.event, ok.0) wrong.0 ok.1 wrong.1

start : (text : List ℕ) → reach (reading_of text) ≡ length text
start text = let same : joined (parts text) ≡ text = join_with_byte-slice_split 32 text in omega (arith, ap length same)

more_words : (x y : Event × Reading) → done x ≡ Ok y → x ≡ y
more_words x y e = cc

-- a whole event, and a word behind it
too_many : (text : List ℕ) (e : Event) (s : Reading) (word : List ℕ) (rest : List (List ℕ)) → event_at (reading_of text) ≡ Ok (e, s) → s.words ≡ word ∷ rest → FailsAt text s.place
too_many text e s word rest is left =
    let one = exact_event.read (reading_of text) s e is in
    record {
      front = event_words e;
      behind = word ∷ rest;
      words = one.0 ∙ ap (λ (w : List (List ℕ)). event_words e ++ w) left;
      at = ap (λ (w : List (List ℕ)). s.place + size w) (sym left) ∙ firm_event.keeps (reading_of text) s e is ∙ start text;
      begins = begins_of (event_words e) e [] one.1 (sym (append-nil (event_words e)));
      stuck = λ (b : Begins (event_words e ++ word ∷ [])).
          let good = good_of b.event b.is_event in
          let r : Reading = record { place = 0; words = event_words e ++ word ∷ b.more } in
          let all : event_words e ++ word ∷ b.more ≡ event_words b.event = sym (append_assoc (event_words e) (word ∷ []) b.more) ∙ sym b.same ∙ event_parts b.event good in
          let whole = exact_event.back b.event good r [] (all ∙ sym (append-nil (event_words b.event))) in
          let less = exact_event.back e one.1 r (word ∷ b.more) refl in
          let same = more_words (b.event, whole.0) (e, less.0) (sym whole.1 ∙ less.1) in
          let none : [] ≡ word ∷ b.more = sym whole.2 ∙ ap (λ (p : Event × Reading). p.1.words) same ∙ less.2 in
          absurd (cc none);
    }

abbrev wrong_at : ℕ → Result Event ℕ
wrong_at place = Err place

wrong_end : (e : Event) (a b : ℕ) → wrong_at a ≡ Err b → a ≡ b
wrong_end e a b h = cc

-- what the end of a text said
ended_wrong : (text : List ℕ) (e : Event) (s : Reading) (words : List (List ℕ)) (place : ℕ) → event_at (reading_of text) ≡ Ok (e, s) → s.words ≡ words → ended e s.place words ≡ Err place → FailsAt text place
ended_wrong text e s [] place is left wrong = absurd cc
ended_wrong text e s (word ∷ rest) place is left wrong = subst (FailsAt text) (wrong_end e s.place place wrong) (too_many text e s word rest is left)

stopped : (text : List ℕ) (place : ℕ) → Stops event_at event_words IsGood (reading_of text) place → FailsAt text place
stopped text place s = record {
  front = s.front;
  behind = s.behind;
  words = s.words;
  at = s.at ∙ start text;
  begins = begins_of s.front s.value s.more s.good s.fits;
  stuck = stuck_of s.front s.behind s.again;
}

fails_from : (text : List ℕ) (read : Result (Event × Reading) ℕ) (place : ℕ) → event_at (reading_of text) ≡ read → (read >>= λ x. ended x.0 x.1.place x.1.words) ≡ Err place → FailsAt text place
fails_from text (Ok x) place is wrong = ended_wrong text x.0 x.1 x.1.words place is refl wrong
fails_from text (Err p) place is wrong = subst (FailsAt text) (wrong_end (firm_event.some) p place wrong) (stopped text p (firm_event.stops (reading_of text) p is))

fails_at : (text : List ℕ) (place : ℕ) → whole event_at text ≡ Err place → FailsAt text place
fails_at text place e = fails_from text (event_at (reading_of text)) place refl e

fails_of : (text : List ℕ) (read : Result Event ℕ) (answer : Result Event EventFault) → whole event_at text ≡ read → GivesEvent read answer → IfErr answer (FailsAs text)
fails_of text (Ok e) (Ok given) is same = tt
fails_of text (Ok e) (Err fault) is same = subst (FailsAs text) (sym same.0) tt
fails_of text (Err place) answer is same = subst (λ (a : Result Event EventFault). IfErr a (FailsAs text)) (sym same) (fails_at text place is)

-- a fault is at the first word that fails
pub is_first : (text : List ℕ) (answer : Result Event EventFault) → GivesEvent (whole event_at text) answer → IfErr answer (FailsAs text)
is_first text answer given = fails_of text (whole event_at text) answer refl given
