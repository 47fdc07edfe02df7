-- The journal of a member's own life is Shown.
use Rattle.std.proofs.Common.{◌≡◌, ℕ, ◌+◌, ◌*◌, ◌^◌, ◌<◌, Bool, true, false, cond, eqb, List, [], ◌∷◌, ◌++◌, map, Option, Some, refl, sym, ap, ◌∙◌, subst, arith, append_assoc, append-nil}
use Rattle.std.specs.Prelude.{◌||◌, flat_map}
use Rattle.std.specs.List.{AllByRecursion, list_any}
use Rattle.std.specs.Option.{option_map_or}
use Rattle.std.specs.Result.{is_ok}
use Rattle.std.proofs.lemmas.Bool.{eqb-true}
use Rattle.rand_chacha.specs.Block.{block_word}
use Rattle.detector.specs.Silence.{nonce, word}
use Rattle.secrets.specs.Secrets.{nonce_seed}
use Rattle.ports.specs.Link.{LinkState}
use Rattle.records.specs.declared.keys.Key.{Key}
use Rattle.records.specs.declared.CertBody.{CertBody}
use Rattle.records.specs.declared.Body.{Body}
use Rattle.records.specs.declared.Body.TheVariants.{Certificate, Note, Accusation}
use Rattle.records.specs.declared.Record.{Record}
use Rattle.records.specs.Keys.{verdict_of}
use Rattle.records.specs.Signing.{signed_bytes}
use Rattle.sign_keys.specs.Keys.{index_count, public_key, signature_length, signature_of}
use Rattle.epoch_store.specs.declared.Stored.{Stored}
use Rattle.journal.specs.declared.event.Event as journal
use Rattle.journal.specs.declared.turn.Turn.{Turn}
use Rattle.trace.specs.Written.{IsWholeLine}
use Rattle.node_rules.specs.Nodes.{Setting}
use Rattle.node_rules.specs.Calls.{Call}
use Rattle.node_rules.specs.Lives.{is_certificate_for}
use Rattle.node_rules.specs.Readable.{OwnReadVerify, OwnRecordsVerify}
use Rattle.node_rules.specs.Starting.{started}
use Rattle.node_rules.specs.Vouching.{IsCertifiedBy}
use Rattle.turn_rules.specs.Lines.{JournalLine, OfTurn, OfEvent, bytes_of, line_bytes, line_of, line_text, lines_of, with_feed}
use Rattle.turn_rules.specs.Journals.{end_line, end_text, journal_over, turn_lines}
use Rattle.audit_rules.specs.Heads.{indexes, indexes_of, key_among, key_if, length_of, own_key, own_length, setting_over, setting_with}
use Rattle.audit_rules.specs.Shown.{IsSource, Source, journal_by}
use Rattle.node_core.specs.Begins.{IsVouchable}
use Rattle.node_core.specs.Playing.{setting_of}
use Rattle.node_core.specs.Rolls.{recs_of}
use Rattle.node_loop.specs.declared.turns.Pace.{Pace}
use Rattle.node_loop.specs.Turns.{pace_for, turns_brought}
use Rattle.node_loop.specs.Journals.{IsOfTurns, lost_on}
use Rattle.node_loop.proofs.JournalLemmas.{of-turns}
use Rattle.node_command.specs.declared.kit.Member.{Member}
use Rattle.node_command.specs.declared.stay.Stay.{Stay}
use Rattle.node_command.specs.Members.{key_of}
use Rattle.node_command.specs.Opening.{setting_for, start_of}
use Rattle.node_command.specs.Journal.{bound_for}
use Rattle.node_command.proofs.LineLemmas.{whole-event, whole-fed, whole-turn}
use Rattle.shown_laws.specs.Own.{IsServed, MayBegin, OwnJournalsAreShown, bottom_of, head_of}
use Rattle.shown_laws.proofs.SignatureLemmas.{indexes-counted, length-told, signature-bytes, signature-long}
use Rattle.shown_laws.proofs.TurnLemmas.{brought-bytes, brought-lines, brought-some}
use Rattle.shown_laws.proofs.VerifyLemmas.{IsOfHead, Tells, own-shown}
use Rattle.shown_laws.proofs.RangeLemmas.{spelled-for, vouchable-for}

-- ## The own key

first-of : (m : ℕ) (own : Key) (b : Body) (others : Option Key) (any : Bool) → ((c : CertBody) → b ≡ Certificate c → c.member ≡ m → c.key ≡ own) → (is_certificate_for m b || any) ≡ true → (any ≡ true → others ≡ Some own)
    → key_if m b others ≡ Some own
first-of m own (Note n) others any key among later = later among
first-of m own (Accusation a) others any key among later = later among
first-of m own (Certificate c) others any key among later = by (eqb c.member m) refl among
  where
    by : (t : Bool) → eqb c.member m ≡ t → (t || any) ≡ true → cond t (Some c.key) others ≡ Some own
    by true e a = ap Some (key c refl (eqb-true c.member m e))
    by false e a = later a

among-certified : (s : Setting) (own : Key) (records : List Record) → AllByRecursion (IsCertifiedBy s own) records → list_any (λ r. is_certificate_for s.me r.body) records ≡ true → key_among s.me records ≡ Some own
among-certified s own [] all among = absurd (none among)
  where
    none : false ≡ true → ⊥
    none e = cc
among-certified s own (r ∷ records) all among =
    first-of s.me own r.body (key_among s.me records) (list_any (λ r. is_certificate_for s.me r.body) records) all.0.1 among (λ more. among-certified s own records all.1 more)

setting-me : (m : Member) → (setting_for m).me ≡ m.own.member
unfolding setting_of
setting-me m = refl

setting-indexes : (m : Member) → (setting_for m).indexes ≡ index_count (key_of m)
unfolding setting_of
setting-indexes m = refl

setting-verifies : (m : Member) (key : Key) (r : Record) → (setting_for m).verifies key r ≡ is_ok (verdict_of key (signed_bytes m.group.tag m.group.t r.body) r.signature)
unfolding setting_of
setting-verifies m key r = refl

abbrev IsBegun : Member → Stored → Type 0
IsBegun m stored = IsVouchable (setting_for m) (public_key (key_of m)) (recs_of m.certificates.items) stored

key-is : (m : Member) (stored : Stored) → IsBegun m stored → own_key (head_of m stored) ≡ Some (public_key (key_of m))
key-is m stored v =
    ap (λ (k : ℕ). key_among k (recs_of m.certificates.items)) (sym (setting-me m)) ∙ among-certified (setting_for m) (public_key (key_of m)) (recs_of m.certificates.items) v.certified v.kit.own

indexes-is : (m : Member) (stored : Stored) → IsBegun m stored → indexes (head_of m stored) ≡ index_count (key_of m)
indexes-is m stored v = ap (λ (o : Option Key). option_map_or (λ (key : Key). indexes_of key (bottom_of (key_of m))) o 0) (key-is m stored v) ∙ indexes-counted (key_of m)

length-is : (m : Member) (stored : Stored) → IsBegun m stored → own_length (head_of m stored) ≡ signature_length (key_of m)
length-is m stored v = ap (λ (o : Option Key). option_map_or (λ (key : Key). length_of key (bottom_of (key_of m))) o 0) (key-is m stored v) ∙ length-told (key_of m)

of-head : (m : Member) (stored : Stored) → IsBegun m stored → IsOfHead (head_of m stored) (setting_for m) (public_key (key_of m))
of-head m stored v = record { me = setting-me m; key = key-is m stored v; verifies = λ r. setting-verifies m (public_key (key_of m)) r }

-- ## The setting

-- what the key signs
abbrev signs_for : Member → ℕ → Body → List ℕ
signs_for m index body = signature_of (key_of m) index (signed_bytes m.group.tag m.group.t body)

setting-with : (m : Member) → setting_for m ≡ setting_with m.group m.heal m.own.member m.authority (index_count (key_of m)) (signs_for m)
unfolding setting_of setting_with
setting-with m = refl

-- what the life is opened with is what one knows who has the head, but for the signatures
pub setting-is : (m : Member) (stored : Stored) → IsBegun m stored → setting_for m ≡ setting_over (head_of m stored) (signs_for m)
setting-is m stored v = setting-with m ∙ ap (λ (k : ℕ). setting_with m.group m.heal m.own.member m.authority k (signs_for m)) (sym (indexes-is m stored v))

-- ## The nonces

word-fits : (seed : List ℕ) (place : ℕ) → word seed place < 2 ^ 32
unfolding block_word
word-fits seed place = omega arith

nonce-fits : (seed : List ℕ) (k : ℕ) → nonce seed k < 2 ^ 64
unfolding nonce
nonce-fits seed k = omega (arith, word-fits seed (2 * k), word-fits seed (2 * k + 1))

-- ## The source

abbrev turns_of : Member → Stay → LinkState → ℕ → List ℕ → List Turn
turns_of m stay link reading readings = turns_brought (pace_for (setting_for m) m.millis) stay.turns link.coming reading readings

abbrev source_of : Member → Stored → Stay → LinkState → ℕ → List ℕ → Source
source_of m stored stay link reading readings =
    record {
      turns = turns_of m stay link reading readings;
      lost = lost_on (bound_for m link);
      leaves = stay.leave;
      nonces = nonce (nonce_seed m.own.secret stored.next);
      signature = signs_for m;
    }

abbrev told-by : Member → Stored → Stay → LinkState → ℕ → List ℕ → Type 0
told-by m stored stay link reading readings = IsOfTurns (setting_for m) (start_of m stored).node (bound_for m link) (pace_for (setting_for m) m.millis) stay.turns stay.leave reading readings

turns-told : (m : Member) (stored : Stored) (stay : Stay) (link : LinkState) (reading : ℕ) (readings : List ℕ) → told-by m stored stay link reading readings
turns-told m stored stay link reading readings = of-turns (setting_for m) (start_of m stored).node (bound_for m link) (pace_for (setting_for m) m.millis) stay.turns stay.leave reading readings

is-source : (m : Member) (stored : Stored) (stay : Stay) (link : LinkState) (reading : ℕ) (readings : List ℕ) → IsBegun m stored → IsServed stay link.coming → IsSource (head_of m stored) (source_of m stored stay link reading readings)
is-source m stored stay link reading readings v h =
    let pace : Pace = pace_for (setting_for m) m.millis in
    record {
      begins = subst (λ (k : ℕ). stored.next < k) (setting-indexes m ∙ sym (indexes-is m stored v)) v.left;
      numbered = (turns-told m stored stay link reading readings).brought;
      have_lines = brought-lines pace stay.turns link.coming reading readings h.few h.bytes;
      behind_a_turn = λ leaves none. brought-some pace stay.turns link.coming reading readings (h.behind_a_turn leaves) none;
      nonces_fit = nonce-fits (nonce_seed m.own.secret stored.next);
      signature_bytes = λ index body. signature-bytes (key_of m) index (signed_bytes m.group.tag m.group.t body);
      signature_long = λ index body. signature-long (key_of m) index (signed_bytes m.group.tag m.group.t body) ∙ sym (length-is m stored v);
    }

-- ## The text

cut-behind : (lines : List JournalLine) → flat_map with_feed (map line_text lines ++ end_text ∷ []) ≡ bytes_of lines ++ end_line
cut-behind [] = append-nil end_line
cut-behind (OfTurn t ∷ lines) = ap (λ (x : List ℕ). line_bytes (OfTurn t) ++ x) (cut-behind lines) ∙ sym (append_assoc (line_bytes (OfTurn t)) (bytes_of lines) end_line)
cut-behind (OfEvent e ∷ lines) = ap (λ (x : List ℕ). line_bytes (OfEvent e) ++ x) (cut-behind lines) ∙ sym (append_assoc (line_bytes (OfEvent e)) (bytes_of lines) end_line)

cut-lines : (events : List journal.Event) (lines : List JournalLine) → flat_map with_feed (map line_text (map OfEvent events ++ lines) ++ end_text ∷ []) ≡ lines_of events ++ bytes_of lines ++ end_line
cut-lines [] lines = cut-behind lines
cut-lines (e ∷ events) lines =
    ap (λ (x : List ℕ). line_of e ++ x) (cut-lines events lines) ∙ sym (append_assoc (line_of e) (lines_of events ++ bytes_of lines) end_line)
    ∙ ap (λ (x : List ℕ). x ++ end_line) (sym (append_assoc (line_of e) (lines_of events) (bytes_of lines)))

whole-lines : (lines : List JournalLine) → AllByRecursion (λ line. IsWholeLine (with_feed line)) (map line_text lines ++ end_text ∷ [])
whole-lines [] = (whole-fed end_text refl, tt)
whole-lines (OfTurn t ∷ lines) = (whole-turn t, whole-lines lines)
whole-lines (OfEvent e ∷ lines) = (whole-event e, whole-lines lines)

-- ## The journal

journal-same : (m : Member) (stored : Stored) (w : Source) → w.nonces ≡ nonce (nonce_seed m.own.secret stored.next) → w.signature ≡ signs_for m → IsBegun m stored
    → journal_by (head_of m stored) w ≡ journal_over (setting_for m) (start_of m stored) w.turns w.lost w.leaves
unfolding journal_by
journal-same m stored w nonces signature v =
    let certificates = recs_of m.certificates.items in
    let h = head_of m stored in
    ap (λ (sign : ℕ → Body → List ℕ). journal_over (setting_over h sign) (started (setting_over h sign) w.nonces certificates stored) w.turns w.lost w.leaves) signature
    ∙ ap (λ (ns : ℕ → ℕ). journal_over (setting_over h (signs_for m)) (started (setting_over h (signs_for m)) ns certificates stored) w.turns w.lost w.leaves) nonces
    ∙ ap (λ (s : Setting). journal_over s (started s (nonce (nonce_seed m.own.secret stored.next)) certificates stored) w.turns w.lost w.leaves) (sym (setting-is m stored v))

tells-own : OwnRecordsVerify → (m : Member) (stored : Stored) → MayBegin m stored → IsBegun m stored → Tells (OwnReadVerify (setting_for m) (public_key (key_of m))) (setting_for m) (start_of m stored).node
tells-own law m stored h v =
    record {
      tells = λ inputs i all one.
          law (setting_for m) (public_key (key_of m)) (nonce (nonce_seed m.own.secret stored.next)) (recs_of m.certificates.items) stored inputs i (spelled-for m stored h) v.certified v.signatures all one;
    }

pub own-journals : OwnRecordsVerify → OwnJournalsAreShown
own-journals law m stored stay link reading readings may h =
    let s : Setting = setting_for m in
    let v = vouchable-for m stored may in
    let start : Call = start_of m stored in
    let w : Source = source_of m stored stay link reading readings in
    let lines : List JournalLine = turn_lines s start w.turns w.lost w.leaves in
    let told = turns-told m stored stay link reading readings in
    record {
      lines = journal_over s start w.turns w.lost w.leaves;
      cut = ap (λ (x : List ℕ). lines_of start.told ++ x ++ end_line) told.course.text ∙ sym (cut-lines start.told lines);
      whole = whole-lines (map OfEvent start.told ++ lines);
      shown = record {
        source = w;
        is_source = is-source m stored stay link reading readings v h;
        same = journal-same m stored w refl refl v;
        own_verify = own-shown (head_of m stored) s (public_key (key_of m)) w.nonces (recs_of m.certificates.items) stored w.turns w.lost w.leaves (of-head m stored v) (tells-own law m stored may v)
            (brought-bytes (pace_for s m.millis) stay.turns link.coming reading readings stay.leave h.few h.bytes);
      };
      turns_are = refl;
      lost_so = refl;
      leaves_so = refl;
    }
