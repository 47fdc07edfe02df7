-- The lines of a journal that is Shown rest on its life.
use Rattle.std.proofs.Common.{◌≡◌, ℕ, suc, Bool, true, List, [], ◌∷◌, ◌++◌, map, get_or, None, refl, ap, sym, ◌∙◌, subst, inl, inr, arith}
use Rattle.std.specs.Prelude.{All, Contains}
use Rattle.std.specs.List.{AllByRecursion}
use Rattle.life_laws.proofs.Lists.{All-at, In, In-append_cases, In-from_Contains, In-from_map}
use Rattle.records.specs.declared.keys.Key.{Key}
use Rattle.records.specs.declared.keys.Key.TheVariants as keys
use Rattle.records.specs.declared.Body.{Body}
use Rattle.records.specs.declared.Body.TheVariants.{Accusation}
use Rattle.records.specs.declared.Record.{Record}
use Rattle.records.specs.Keys.{Verifies}
use Rattle.records.specs.Signing.{CheckedRecord, IsChecked, signed_bytes}
use Rattle.validate.proofs.VerdictLemmas.{good-verdict}
use Rattle.sign_keys.specs.Keys.{public_key}
use Rattle.epoch_store.specs.declared.Stored.{Stored}
use Rattle.journal.specs.declared.event.Event as journal
use Rattle.journal.specs.declared.event.What as whats
use Rattle.journal.specs.declared.event.What.TheVariants as told
use Rattle.journal.specs.declared.turn.Turn.{Turn}
use Rattle.journal.specs.Texts.{event_text}
use Rattle.node_rules.specs.Nodes.{Setting, Node}
use Rattle.node_rules.specs.Calls.{Call}
use Rattle.node_rules.specs.Starting.{started}
use Rattle.node_rules.specs.Vouching.{IsCertifiedBy}
use Rattle.node_core.specs.Begins.{HasKey, IsCheckedIn}
use Rattle.node_core.specs.Rolls.{recs_of}
use Rattle.node_core.proofs.CertificateLemmas.{apart-certificates}
use Rattle.turn_rules.specs.Turns.{Act, acts_of}
use Rattle.turn_rules.specs.Lines.{JournalLine, OfTurn, OfEvent, event_line, line_of, line_text, with_feed}
use Rattle.turn_rules.specs.Journals.{end_text, life_lines, turn_lines}
use Rattle.turn_rules.specs.Written.{GivesOf}
use Rattle.turn_laws.specs.Resting.{MayStart}
use Rattle.turn_laws.proofs.JournalLemmas.{IsOf, LineRests, course-rests, founded, tells-start}
use Rattle.node_command.specs.Members.{key_of}
use Rattle.node_command.proofs.LineLemmas.{accepted-event, expiry-event, removal-event, sent-event, signed-event}
use Rattle.audit_rules.specs.declared.Head.{Head}
use Rattle.audit_rules.specs.Heads.{IsCertifiedHead, certificates_of, setting_over, setting_with}
use Rattle.audit_rules.specs.Shown.{IsSource, Source, journal_by, setting_by, start_by}
use Rattle.shown_laws.specs.Own.{head_of}
use Rattle.shown_laws.specs.Resting.{OwnHeadsAreCertified, ShownJournalsRest, verify_under}

-- ## The start

-- what was checked under the authority's key verifies under it
verifies-checked : (h : Head) (signature : ℕ → Body → List ℕ) (x : CheckedRecord) → IsCheckedIn h.group (keys.Lms h.authority) x → IsChecked x → (setting_over h signature).verifies (setting_over h signature).authority x.rec ≡ true
unfolding setting_with
verifies-checked h signature x among good =
    let key : Key = keys.Lms h.authority in
    let signed : Verifies key (signed_bytes h.group.tag h.group.t x.rec.body) x.rec.signature =
    subst (λ (k : Key). Verifies k (signed_bytes h.group.tag h.group.t x.rec.body) x.rec.signature) among.under
    (subst (λ (tag : List ℕ). Verifies x.key (signed_bytes tag h.group.t x.rec.body) x.rec.signature) among.tag
    (subst (λ (t : ℕ). Verifies x.key (signed_bytes x.tag t x.rec.body) x.rec.signature) among.tolerance good.signed)) in
    good-verdict key (signed_bytes h.group.tag h.group.t x.rec.body) x.rec.signature signed

over-me : (h : Head) (signature : ℕ → Body → List ℕ) → (setting_over h signature).me ≡ h.me
unfolding setting_with
over-me h signature = refl

all-certified : (h : Head) (own : Key) (signature : ℕ → Body → List ℕ) (xs : List CheckedRecord) → All (IsCheckedIn h.group (keys.Lms h.authority)) xs → AllByRecursion IsChecked xs → AllByRecursion (HasKey h.me own) (recs_of xs)
    → AllByRecursion (IsCertifiedBy (setting_over h signature) own) (recs_of xs)
all-certified h own signature [] checked good held = tt
all-certified h own signature (x ∷ xs) checked good held = (
  (verifies-checked h signature x (checked 0 x (omega arith)) good.0, λ c is who. held.0 c is (who ∙ over-me h signature)),
  all-certified h own signature xs (λ k d less. checked (suc k) d (omega (arith, less))) good.1 held.1,
)

may-start : (h : Head) (own : Key) (w : Source) → IsCertifiedHead h own → IsSource h w → MayStart (verify_under own (setting_by h w)) (setting_by h w) own (certificates_of h) h.stored
unfolding setting_with
may-start h own w head source =
    record {
      rings = record { some = head.rings.some; few = head.rings.few };
      kit = record { all = head.kit.all; own = head.kit.own };
      certified = head.certified;
      signatures = λ index body claimed within. claimed;
      left = source.begins;
    }

pub own-certified : OwnHeadsAreCertified
unfolding setting_with
own-certified m stored sound =
    let h : Head = head_of m stored in
    record {
      rings = record { some = sound.numbers.some; few = sound.numbers.few };
      kit = record { all = apart-certificates (recs_of h.certificates.items) sound.certified.apart; own = sound.certified.among };
      certified = all-certified h (public_key (key_of m)) (λ index body. []) h.certificates.items sound.checked sound.certified.verify sound.certified.keys;
    }

-- ## The lines

abbrev event : ℕ → whats.What → journal.Event
event moment what = record { moment = moment; what = what }

line-rests : (claimed : ℕ → Body → Bool) (s : Setting) (own : Key) (nonces : ℕ → ℕ) (certificates : List Record) (stored : Stored) (turns : List Turn) (lost : ℕ → Bool) (leave : Bool) → MayStart claimed s own certificates stored
    → (line : JournalLine) → In (life_lines s (started s nonces certificates stored) turns lost leave) line → LineRests claimed s (started s nonces certificates stored).node (acts_of turns leave) line
line-rests claimed s own nonces certificates stored turns lost leave v line i =
    let begun : Call = started s nonces certificates stored in
    let acts : List Act = acts_of turns leave in
    let lines : List JournalLine = turn_lines s begun turns lost leave in
    elim (In-append_cases (map OfEvent begun.told) lines line i) [
      | inl first ↦
          let x = In-from_map OfEvent begun.told line first in
          subst (LineRests claimed s begun.node acts) x.1.1 (tells-start claimed s nonces certificates stored begun.node acts v.kit.all x.0.moment x.0.what x.1.0)
      | inr later ↦ All-at (LineRests claimed s begun.node acts) lines line (course-rests claimed s own begun.node acts lost (founded claimed s own nonces certificates stored v)) later
    ]

-- what an event says that has the line of another
gives-event : (claimed : ℕ → Body → Bool) (s : Setting) (start : Node) (acts : List Act) (at : ℕ) (w : whats.What) (moment : ℕ) (what : whats.What) → IsOf claimed s start acts at w → line_of (event at w) ≡ event_line moment what → GivesOf claimed s start acts moment what
gives-event claimed s start acts at w moment (told.Removed m) h same =
    let k = removal-event (event at w) moment m same in
    record { moment = at; member = k.0; spelled = sym same ∙ ap (λ x. line_of (event at x)) k.1; removal = subst (IsOf claimed s start acts at) k.1 h }
gives-event claimed s start acts at w moment (told.Expired a) h same =
    let k = expiry-event (event at w) moment a same in
    record { moment = at; accusation = k.0; spelled = sym same ∙ ap (λ x. line_of (event at x)) k.1; expiry = subst (IsOf claimed s start acts at) k.1 h }
gives-event claimed s start acts at w moment (told.Took body None) h same =
    let k = accepted-event (event at w) moment body same in
    record { moment = at; body = k.0; spelled = sym same ∙ ap (λ x. line_of (event at x)) k.1; accepted = subst (IsOf claimed s start acts at) k.1 h }
gives-event claimed s start acts at w moment (told.Spent index (Accusation a)) h same =
    let k = signed-event (event at w) moment index a same in
    record { moment = at; index = k.index; accusation = k.accusation; spelled = sym same ∙ ap (λ x. line_of (event at x)) k.is; signs = subst (IsOf claimed s start acts at) k.is h }
gives-event claimed s start acts at w moment (told.Sent number to bytes) h same =
    let k = sent-event (event at w) moment number to bytes same in
    record { moment = at; number = k.number; to = k.to; bytes = k.bytes; spelled = sym same ∙ ap (λ x. line_of (event at x)) k.is; sends = subst (IsOf claimed s start acts at) k.is h }
gives-event claimed s start acts at w moment _ h same = tt

gives-line : (claimed : ℕ → Body → Bool) (s : Setting) (start : Node) (acts : List Act) (x : JournalLine) (moment : ℕ) (what : whats.What) → LineRests claimed s start acts x → line_text x ≡ event_text (event moment what) → GivesOf claimed s start acts moment what
gives-line claimed s start acts (OfTurn t) moment what h is = absurd (omega (arith, ap (λ (x : List ℕ). get_or x 0 0) is))
gives-line claimed s start acts (OfEvent e) moment what h is = gives-event claimed s start acts e.moment e.what moment what h (ap with_feed is)

among-lines : (h : Head) (w : Source) (lines : List (List ℕ)) (line : List ℕ) → journal_by h w ≡ lines → Contains lines line → In (map line_text (life_lines (setting_by h w) (start_by h w) w.turns w.lost w.leaves) ++ end_text ∷ []) line
unfolding journal_by
among-lines h w lines line same among = In-from_Contains _ line (subst (λ (ls : List (List ℕ)). Contains ls line) (sym same) among)

pub shown-rest : ShownJournalsRest
shown-rest h own lines moment what sound x among =
    let w : Source = x.source in
    let s : Setting = setting_by h w in
    let all : List JournalLine = life_lines s (start_by h w) w.turns w.lost w.leaves in
    let line : List ℕ = event_text (event moment what) in
    elim (In-append_cases (map line_text all) (end_text ∷ []) line (among-lines h w lines line x.same among)) [
      | inl first ↦
          let y = In-from_map line_text all line first in
          gives-line (verify_under own s) s (start_by h w).node (acts_of w.turns w.leaves) y.0 moment what
          (line-rests (verify_under own s) s own w.nonces (certificates_of h) h.stored w.turns w.lost w.leaves (may-start h own w sound x.is_source) y.0 y.1.0) y.1.1
      | inr (inl last) ↦ absurd (omega (arith, ap (λ (x : List ℕ). get_or x 0 0) last))
      | inr (inr none) ↦ absurd none
    ]
