-- Pages and what the other side lacks, by what is held.
use Rattle.std.proofs.Common.{◌≡◌, ◌≢◌, ℕ, suc, ◌+◌, ◌-◌, ◌*◌, ◌<◌, Bool, inl, inr, List, [], ◌∷◌, ◌++◌, length, take, map, Option, Some, None, is_some, refl, ap, sym, ◌∙◌, subst, arith}
use Rattle.std.specs.Prelude.{filter, filter_map, nat_le}
use Rattle.std.specs.List.{range_with_len}
use Rattle.std.specs.Option.{option_map, option_and_then}
use Rattle.std.specs.FinMap.{contains_key}
use Rattle.std.proofs.lemmas.Bool.{cases_Bool}
use Rattle.ff_ids.specs.declared.TheConstants.{MAX_RINGS, PAGES, PAGE_MEMBERS}
use Rattle.ff_ids.specs.declared.summary.SummaryEntry.{SummaryEntry}
use Rattle.ff_ids.specs.declared.summary.Summary.{Summary}
use Rattle.ff_ids.specs.declared.summary.RecordKey.{RecordKey}
use Rattle.ff_ids.specs.declared.summary.RecordKey.TheVariants as keys
use Rattle.records.specs.declared.Record.{Record}
use Rattle.records.specs.Signing.{CheckedRecord}
use Rattle.records.specs.Spelling.{record_bytes}
use Rattle.gossip.specs.Differ.{differ}
use Rattle.record_set.specs.Held.{Held, held_under}
use Rattle.record_set.specs.Pages.{note_of_body, note_in, entry_with, rings_of, entry_of, certified_of, summary_of, AreNoted}
use Rattle.record_set.specs.Picks.{held_all, spelled, fitting as count_fitting}
use Rattle.ff_ids.proofs.BitLemmas.{bits_same}
use Rattle.record_set.proofs.ListedLemmas.{IsSummary-of}
use Rattle.node_rules.specs.Nodes.{Node, Holding}
use Rattle.node_rules.specs.Pages.{note_held, rings_held, entry_held, has_certificate, page, fitting, lacking}
use Rattle.datagram.specs.declared.Datagram.{Datagram}
use Rattle.datagram.specs.declared.Datagram.TheVariants as kinds
use Rattle.datagram.specs.Spelling.{datagram_bytes, IsWritable}
use Rattle.datagram.proofs.Sizes.{summary_writable}
use Rattle.journal.specs.declared.event.Event as journal
use Rattle.node_rules.specs.Nodes.{Setting}
use Rattle.node_rules.specs.Calls.{Call, sends}
use Rattle.node_rules.specs.Deliveries.{gives}
use Rattle.node_core.specs.Playing.{Kept, Plays, Grows, HoldsRecords}
use Rattle.node_core.specs.Exchanging.{wanted, given_of, IsGiven}
use Rattle.node_core.proofs.PlayLemmas.{filter-same, setting-me, grows-refl}
use Rattle.node_core.proofs.ExtendLemmas.{extends-gives, extends-sends}
use Rattle.node_core.proofs.DueLemmas.{from-fine}

some-rec : (o : Option CheckedRecord) → is_some (option_map (λ c. c.rec) o) ≡ is_some o
some-rec None = refl
some-rec (Some c) = refl

note-rec : (o : Option CheckedRecord) → option_and_then (λ r. note_of_body r.body) (option_map (λ c. c.rec) o) ≡ note_in o
note-rec None = refl
note-rec (Some c) = refl

entry-is : (set : Held) (held : Holding) (m : ℕ) → HoldsRecords set held → entry_held held m ≡ entry_of set m
unfolding rings_of
entry-is set held m h =
    let note : note_held held m ≡ note_in (held_under set (keys.Note m)) = ap (λ o. option_and_then (λ r. note_of_body r.body) o) (sym (h (keys.Note m))) ∙ note-rec (held_under set (keys.Note m)) in
    let ring : ℕ → RecordKey = λ r. keys.Accusation m (record { 0 = r }) in
    let rings : rings_held held m ≡ rings_of set m = bits_same _ _ MAX_RINGS (λ r lt. ap is_some (sym (h (ring r))) ∙ some-rec (held_under set (ring r))) in
    ap (λ o. entry_with m o (rings_held held m)) note ∙ ap (λ x. entry_with m (note_in (held_under set (keys.Note m))) x) rings

map-same : (f g : ℕ → SummaryEntry) (xs : List ℕ) → ((x : ℕ) → f x ≡ g x) → map f xs ≡ map g xs
map-same f g [] h = refl
map-same f g (x ∷ xs) h = rw (h x) (ap (λ ys. g x ∷ ys) (map-same f g xs h))

pub page-is : (set : Held) (n : Node) (number : ℕ) → HoldsRecords set n.held → page n number ≡ summary_of set number
unfolding page certified_of
page-is set n number h =
    let certified : filter (has_certificate n.held) (range_with_len (PAGE_MEMBERS * number) PAGE_MEMBERS) ≡ filter (λ m. contains_key set (keys.Certificate m)) (range_with_len (PAGE_MEMBERS * number) PAGE_MEMBERS) =
    filter-same (has_certificate n.held) (λ m. contains_key set (keys.Certificate m)) (range_with_len (PAGE_MEMBERS * number) PAGE_MEMBERS) (λ m. ap is_some (sym (h (keys.Certificate m))) ∙ some-rec (held_under set (keys.Certificate m))) in
    ap (λ xs. record { page = number; listed = map (entry_held n.held) xs }) certified
    ∙ ap (λ es. record { page = number; listed = es }) (map-same (entry_held n.held) (entry_of set) (filter (λ m. contains_key set (keys.Certificate m)) (range_with_len (PAGE_MEMBERS * number) PAGE_MEMBERS)) (λ m. entry-is set n.held m h))

-- ---- what is given of what is held

one-held : (held : Holding) (set : Held) (k : RecordKey) (ks : List RecordKey) (o : Option CheckedRecord) → held_under set k ≡ o → option_map (λ c. c.rec) o ≡ held k
    → filter_map held ks ≡ map (λ c. c.rec) (held_all set ks) → filter_map held (k ∷ ks) ≡ map (λ c. c.rec) (held_all set (k ∷ ks))
one-held held set k ks None is h rest = rw (is, sym h) rest
one-held held set k ks (Some c) is h rest = rw (is, sym h) (ap (λ xs. c.rec ∷ xs) rest)

all-held : (held : Holding) (set : Held) (ks : List RecordKey) → HoldsRecords set held → filter_map held ks ≡ map (λ c. c.rec) (held_all set ks)
all-held held set [] h = refl
all-held held set (k ∷ ks) h = one-held held set k ks (held_under set k) refl (h k) (all-held held set ks h)

fitting-is : (room : ℕ) (cs : List CheckedRecord) → fitting room (map (λ c. c.rec) cs) ≡ map (λ c. c.rec) (take (count_fitting room cs) cs)
fitting-is room [] = refl
fitting-is room (c ∷ cs) =
    let long : ℕ = length (record_bytes c.rec) in
    let rest = fitting-is (room - long) cs in
    let next : 1 + count_fitting (room - long) cs ≡ suc (count_fitting (room - long) cs) = omega arith in
    elim (cases_Bool (nat_le long room)) [
      | inl fits ↦ rw fits (ap (λ xs. c.rec ∷ xs) rest ∙ sym (ap (λ (k : ℕ). map (λ x. x.rec) (take k (c ∷ cs))) next))
      | inr not_fit ↦ rw not_fit refl
    ]

-- the records under the keys, as many as fit
pub given-held : (set : Held) (held : Holding) (ks : List RecordKey) → HoldsRecords set held → fitting 32760 (filter_map held ks) ≡ given_of set ks
given-held set held ks h = ap (fitting 32760) (all-held held set ks h) ∙ fitting-is 32760 (held_all set ks)

pub lacking-is : (set : Held) (n : Node) (to : ℕ) (theirs : Summary) → HoldsRecords set n.held → lacking n to theirs ≡ given_of set (wanted set to theirs)
unfolding lacking
lacking-is set n to theirs h =
    ap (λ (s : Summary). fitting 32760 (filter_map n.held (differ s.listed theirs.listed ++ keys.Removal to ∷ []))) (page-is set n theirs.page h)
    ∙ given-held set n.held (wanted set to theirs) h

-- ---- the code's steps

pub page-writable : (from : ℕ) (flag : Bool) (set : Held) (number : ℕ) (s : Summary) → s ≡ summary_of set number → number < PAGES → AreNoted set → IsWritable (kinds.Summary from flag s)
page-writable from flag set number s is below noted =
    subst (λ x. IsWritable (kinds.Summary from flag x)) (sym is) (summary_writable from flag (summary_of set number) (IsSummary-of set number noted below))

gives-some : (s : Setting) (to : ℕ) (records : List Record) (c : Call) → records ≢ [] → gives s to records c ≡ sends s (kinds.Records s.me records) c to
gives-some s to [] c h = absurd (h refl)
gives-some s to (r ∷ records) c h = refl

pub given-at : (s : Setting) (es : List journal.Event) (os : List (ℕ × List ℕ)) (v v1 : Kept) (c : Call) (to : ℕ) (theirs : Summary) (bytes : List ℕ)
    → Plays s es os v c → Grows v v1 → IsGiven v.me v.records (wanted v.records to theirs) bytes
    → ((d : Datagram) → bytes ≡ datagram_bytes d → Plays s es os v1 (sends s d c to)) → Plays s es os v1 (gives s to (lacking c.node to theirs) c)
given-at s es os v v1 c to theirs bytes p grows given sent =
    let lacks : List Record = lacking c.node to theirs in
    let gave : List Record = given_of v.records (wanted v.records to theirs) in
    from-fine s es os v v1 c (gives s to lacks c) p grows (extends-gives s to lacks c) (λ h.
    let n = h.is in
    let me : v.me ≡ s.me = sym (setting-me s v.group v.heal v.me v.authority v.signer.key n.setting) in
    let same : lacks ≡ gave = lacking-is v.records c.node to theirs n.records in
    let at = sent (kinds.Records v.me gave) given.spelled in
    let at2 = subst (λ m. Plays s es os v1 (sends s (kinds.Records m gave) c to)) me at in
    subst (λ x. Plays s es os v1 x) (sym (ap (λ xs. gives s to xs c) same ∙ gives-some s to gave c given.some)) at2)

pub nothing-at : (s : Setting) (es : List journal.Event) (os : List (ℕ × List ℕ)) (v : Kept) (c : Call) (to : ℕ) (theirs : Summary)
    → Plays s es os v c → given_of v.records (wanted v.records to theirs) ≡ [] → Plays s es os v (gives s to (lacking c.node to theirs) c)
nothing-at s es os v c to theirs p none =
    let lacks : List Record = lacking c.node to theirs in
    from-fine s es os v v c (gives s to lacks c) p (grows-refl v) (extends-gives s to lacks c) (λ h.
    let same = lacking-is v.records c.node to theirs h.is.records ∙ none in
    subst (λ xs. Plays s es os v (gives s to xs c)) (sym same) p)

pub page-at : (s : Setting) (es : List journal.Event) (os : List (ℕ × List ℕ)) (v v1 : Kept) (c : Call) (to : ℕ) (flag : Bool) (number : ℕ) (bytes : List ℕ)
    → Plays s es os v c → Grows v v1 → bytes ≡ datagram_bytes (kinds.Summary v.me flag (summary_of v.records number)) → ((d : Datagram) → bytes ≡ datagram_bytes d → Plays s es os v1 (sends s d c to))
    → Plays s es os v1 (sends s (kinds.Summary s.me flag (page c.node number)) c to)
page-at s es os v v1 c to flag number bytes p grows spelled sent =
    from-fine s es os v v1 c (sends s (kinds.Summary s.me flag (page c.node number)) c to) p grows (extends-sends s (kinds.Summary s.me flag (page c.node number)) c to) (λ h.
    let n = h.is in
    let me : v.me ≡ s.me = sym (setting-me s v.group v.heal v.me v.authority v.signer.key n.setting) in
    let same : page c.node number ≡ summary_of v.records number = page-is v.records c.node number n.records in
    let at = sent (kinds.Summary v.me flag (summary_of v.records number)) spelled in
    let at2 = subst (λ m. Plays s es os v1 (sends s (kinds.Summary m flag (summary_of v.records number)) c to)) me at in
    subst (λ x. Plays s es os v1 (sends s (kinds.Summary s.me flag x) c to)) (sym same) at2)
