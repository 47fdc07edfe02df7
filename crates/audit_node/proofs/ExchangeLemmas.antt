-- Pages and what the other side lacks, by what is held.
use Rattle.std.proofs.Common.{◌≡◌, ◌≢◌, ℕ, zero, suc, ◌+◌, ◌-◌, ◌*◌, ◌<◌, ◌≤◌, Bool, true, inl, inr, List, [], ◌∷◌, ◌++◌, length, take, map, Option, Some, None, is_some, refl, ap, sym, ◌∙◌, subst, arith}
use Rattle.std.specs.Prelude.{filter, filter_map, nat_le}
use Rattle.std.specs.List.{AllByRecursion, flat_map, range_with_len}
use Rattle.std.specs.Option.{option_map, option_and_then}
use Rattle.std.specs.FinMap.{contains_key}
use Rattle.std.proofs.lemmas.Bool.{cases_Bool}
use Rattle.ff_ids.specs.declared.TheConstants.{MAX_RINGS, PAGES, PAGE_MEMBERS}
use Rattle.ff_ids.specs.declared.summary.SummaryEntry.{SummaryEntry}
use Rattle.ff_ids.specs.declared.summary.Summary.{Summary}
use Rattle.ff_ids.specs.declared.summary.RecordKey.{RecordKey}
use Rattle.ff_ids.specs.declared.summary.RecordKey.TheVariants as keys
use Rattle.records.specs.declared.Record.{Record}
use Rattle.records.specs.Spelling.{record_bytes}
use Rattle.gossip.specs.Differ.{differ}
use Rattle.record_slots.specs.Held.{held_under}
use Rattle.ff_ids.proofs.BitLemmas.{bits_same}
use Rattle.node_rules.specs.Nodes.{Node, Holding}
use Rattle.node_rules.specs.Pages.{note_held, rings_held, entry_held, has_certificate, page, fitting, lacking}
use Rattle.datagram.specs.declared.Datagram.{Datagram}
use Rattle.datagram.specs.declared.Datagram.TheVariants as kinds
use Rattle.datagram.proofs.Sizes.{summary_writable}
use Rattle.journal.specs.declared.event.Event as journal
use Rattle.node_rules.specs.Nodes.{Setting}
use Rattle.node_rules.specs.Calls.{Call, sends}
use Rattle.node_rules.specs.Deliveries.{gives}
use Rattle.audit_node.specs.Playing.{Kept, Plays, Grows, HoldsRecords, IsMirror, IsSendable, record_of}
use Rattle.audit_node.specs.Sendable.{AreSendable, IsOwnItem, is_bare}
use Rattle.audit_node.proofs.SendableLemmas.{fitting-short, is-datagram}
use Rattle.std.proofs.lemmas.List.{length-map}
use Rattle.audit_node.specs.Exchanging.{wanted, given_of, item_as, items_of}
use Rattle.audit_node.proofs.PlayLemmas.{filter-same, setting-me, from-fine}
use Rattle.record_slots.specs.Pages.{note_of_body, note_in, entry_with, rings_of, entry_of, certified_of, summary_of, AreNoted}
use Rattle.record_slots.specs.Picks.{held_all, fitting as count_fitting}
use Rattle.record_slots.proofs.ListedLemmas.{IsSummary-of}
use Rattle.datagram.specs.Spelling.{datagram_bytes, IsSignedRecord, IsWritable}
use Rattle.records.specs.Spelling.{body_bytes}
use Rattle.std.specs.Int.{w16, to_be_bytes}
use Rattle.audit_set.specs.declared.known.Known.{Known}
use Rattle.audit_set.specs.declared.known.Known.TheVariants as knowns
use Rattle.audit_set.specs.Knowns.{body_of, long}
use Rattle.audit_set.specs.Sets.{HeldKnown}
use Rattle.audit_node.specs.declared.owing.Item.{Item}
use Rattle.audit_node.specs.Owing.{item_of}

some-rec : (s : Setting) (o : Option Known) → is_some (option_map (record_of s) o) ≡ is_some o
some-rec s None = refl
some-rec s (Some c) = refl

note-rec : (s : Setting) (o : Option Known) → option_and_then (λ r. note_of_body r.body) (option_map (record_of s) o) ≡ note_in body_of o
note-rec s None = refl
note-rec s (Some (knowns.Came c)) = refl
note-rec s (Some (knowns.Own o)) = refl

entry-is : (s : Setting) (set : HeldKnown) (held : Holding) (m : ℕ) → HoldsRecords s set held → entry_held held m ≡ entry_of body_of set m
unfolding rings_of
entry-is s set held m h =
    let note : note_held held m ≡ note_in body_of (held_under set (keys.Note m)) = ap (λ o. option_and_then (λ r. note_of_body r.body) o) (sym (h.are (keys.Note m))) ∙ note-rec s (held_under set (keys.Note m)) in
    let ring : ℕ → RecordKey = λ r. keys.Accusation m (record { 0 = r }) in
    let rings : rings_held held m ≡ rings_of set m = bits_same _ _ MAX_RINGS (λ r lt. ap is_some (sym (h.are (ring r))) ∙ some-rec s (held_under set (ring r))) in
    ap (λ o. entry_with m o (rings_held held m)) note ∙ ap (λ x. entry_with m (note_in body_of (held_under set (keys.Note m))) x) rings

map-same : (f g : ℕ → SummaryEntry) (xs : List ℕ) → ((x : ℕ) → f x ≡ g x) → map f xs ≡ map g xs
map-same f g [] h = refl
map-same f g (x ∷ xs) h = rw (h x) (ap (λ ys. g x ∷ ys) (map-same f g xs h))

pub page-is : (s : Setting) (set : HeldKnown) (n : Node) (number : ℕ) → HoldsRecords s set n.held → page n number ≡ summary_of body_of set number
unfolding page certified_of
page-is s set n number h =
    let certified : filter (has_certificate n.held) (range_with_len (PAGE_MEMBERS * number) PAGE_MEMBERS) ≡ filter (λ m. contains_key set (keys.Certificate m)) (range_with_len (PAGE_MEMBERS * number) PAGE_MEMBERS) =
    filter-same (has_certificate n.held) (λ m. contains_key set (keys.Certificate m)) (range_with_len (PAGE_MEMBERS * number) PAGE_MEMBERS) (λ m. ap is_some (sym (h.are (keys.Certificate m))) ∙ some-rec s (held_under set (keys.Certificate m))) in
    ap (λ xs. record { page = number; listed = map (entry_held n.held) xs }) certified
    ∙ ap (λ es. record { page = number; listed = es }) (map-same (entry_held n.held) (entry_of body_of set) (filter (λ m. contains_key set (keys.Certificate m)) (range_with_len (PAGE_MEMBERS * number) PAGE_MEMBERS)) (λ m. entry-is s set n.held m h))

-- ---- what is given of what is held

-- each can be sent, and is as long as it is held to be
abbrev AllSendable : Setting → List Known → Type 0
AllSendable s [] = Unit {0}
AllSendable s (x ∷ xs) = IsSendable s (Some x) × AllSendable s xs

one-held : (s : Setting) (held : Holding) (set : HeldKnown) (k : RecordKey) (ks : List RecordKey) (o : Option Known) → held_under set k ≡ o → option_map (record_of s) o ≡ held k
    → filter_map held ks ≡ map (record_of s) (held_all set ks) → filter_map held (k ∷ ks) ≡ map (record_of s) (held_all set (k ∷ ks))
one-held s held set k ks None is h rest = rw (is, sym h) rest
one-held s held set k ks (Some c) is h rest = rw (is, sym h) (ap (λ (xs : List Record). record_of s c ∷ xs) rest)

all-held : (s : Setting) (held : Holding) (set : HeldKnown) (ks : List RecordKey) → HoldsRecords s set held → filter_map held ks ≡ map (record_of s) (held_all set ks)
all-held s held set [] h = refl
all-held s held set (k ∷ ks) h = one-held s held set k ks (held_under set k) refl (h.are k) (all-held s held set ks h)

one-sendable : (s : Setting) (set : HeldKnown) (k : RecordKey) (ks : List RecordKey) (o : Option Known) → held_under set k ≡ o → IsSendable s o → AllSendable s (held_all set ks) → AllSendable s (held_all set (k ∷ ks))
one-sendable s set k ks None is h rest = rw is rest
one-sendable s set k ks (Some c) is h rest = rw is (h, rest)

all-sendable : (s : Setting) (held : Holding) (set : HeldKnown) (ks : List RecordKey) → HoldsRecords s set held → AllSendable s (held_all set ks)
all-sendable s held set [] h = tt
all-sendable s held set (k ∷ ks) h = one-sendable s set k ks (held_under set k) refl (h.sendable k) (all-sendable s held set ks h)

length-append : {X : Type 0} (xs ys : List X) → length (xs ++ ys) ≡ length xs + length ys
length-append [] ys = omega arith
length-append (x ∷ xs) ys = omega (arith, length-append xs ys)

two-bytes : (n : ℕ) → length (to_be_bytes w16 n) ≡ 2
two-bytes n = refl

long-is : (s : Setting) (x : Known) → IsSendable s (Some x) → length (record_bytes (record_of s x)) ≡ long x
long-is s (knowns.Came c) h = refl
long-is s (knowns.Own o) h =
    let signature : List ℕ = s.signature o.index o.body in
    let a = length-append (body_bytes o.body) (to_be_bytes w16 (length signature) ++ signature) in
    let b = length-append (to_be_bytes w16 (length signature)) signature in
    omega (arith, a, b, two-bytes (length signature), h.long)

fitting-is : (s : Setting) (room : ℕ) (cs : List Known) → AllSendable s cs → fitting room (map (record_of s) cs) ≡ map (record_of s) (take (count_fitting long room cs) cs)
fitting-is s room [] h = refl
fitting-is s room (c ∷ cs) h =
    let so : ℕ = long c in
    let same : length (record_bytes (record_of s c)) ≡ so = long-is s c h.0 in
    let rest = fitting-is s (room - so) cs h.1 in
    let next : 1 + count_fitting long (room - so) cs ≡ suc (count_fitting long (room - so) cs) = omega arith in
    elim (cases_Bool (nat_le so room)) [
      | inl fits ↦ rw (same, fits) (ap (λ (xs : List Record). record_of s c ∷ xs) rest ∙ sym (ap (λ (k : ℕ). map (record_of s) (take k (c ∷ cs))) next))
      | inr not_fit ↦ rw (same, not_fit) refl
    ]

item-same : (s : Setting) (xs : List Known) → map (item_of s) (map item_as xs) ≡ map (record_of s) xs
item-same s [] = refl
item-same s (knowns.Came c ∷ xs) = ap (λ (ys : List Record). c.rec ∷ ys) (item-same s xs)
item-same s (knowns.Own o ∷ xs) = ap (λ (ys : List Record). record_of s (knowns.Own o) ∷ ys) (item-same s xs)

-- the records under the keys, as many as fit
pub items-held : (s : Setting) (set : HeldKnown) (held : Holding) (ks : List RecordKey) → HoldsRecords s set held → map (item_of s) (items_of set ks) ≡ fitting 32760 (filter_map held ks)
items-held s set held ks h =
    item-same s (given_of set ks) ∙ sym (fitting-is s 32760 (held_all set ks) (all-sendable s held set ks h)) ∙ sym (ap (fitting 32760) (all-held s held set ks h))

pub lacking-is : (s : Setting) (set : HeldKnown) (n : Node) (to : ℕ) (theirs : Summary) → HoldsRecords s set n.held → map (item_of s) (items_of set (wanted set to theirs)) ≡ lacking n to theirs
unfolding lacking
lacking-is s set n to theirs h =
    items-held s set n.held (wanted set to theirs) h
    ∙ ap (λ (p : Summary). fitting 32760 (filter_map n.held (differ p.listed theirs.listed ++ keys.Removal to ∷ []))) (sym (page-is s set n theirs.page h))

-- ---- the code's steps

pub page-writable : (from : ℕ) (flag : Bool) (set : HeldKnown) (number : ℕ) (p : Summary) → p ≡ summary_of body_of set number → number < PAGES → AreNoted body_of set → IsWritable (kinds.Summary from flag p)
page-writable from flag set number p is below noted =
    subst (λ x. IsWritable (kinds.Summary from flag x)) (sym is) (summary_writable from flag (summary_of body_of set number) (IsSummary-of body_of set number noted below))

pub gives-some : (s : Setting) (to : ℕ) (records : List Record) (c : Call) → records ≢ [] → gives s to records c ≡ sends s (kinds.Records s.me records) c to
gives-some s to [] c h = absurd (h refl)
gives-some s to (r ∷ records) c h = refl

-- ---- what is given can be sent

some-own : (s : Setting) (n : ℕ) (xs : List Known) → AllSendable s xs → AllByRecursion (IsOwnItem s.me) (map item_as (take n xs))
some-own s zero xs all = tt
some-own s (suc n) [] all = tt
some-own s (suc n) (knowns.Came c ∷ xs) all = (tt, some-own s n xs all.1)
some-own s (suc n) (knowns.Own o ∷ xs) all = (all.0.by, some-own s n xs all.1)

some-spelled : (s : Setting) (n : ℕ) (xs : List Known) → AllSendable s xs → AllByRecursion IsSignedRecord (map (item_of s) (map item_as (take n xs)))
some-spelled s zero xs all = tt
some-spelled s (suc n) [] all = tt
some-spelled s (suc n) (knowns.Came c ∷ xs) all = (all.0, some-spelled s n xs all.1)
some-spelled s (suc n) (knowns.Own o ∷ xs) all = (all.0.spelled, some-spelled s n xs all.1)

pub given-sendable : (s : Setting) (v : Kept) (n : Node) (ks : List RecordKey) → IsMirror s v n → 0 < length (items_of v.records ks) → AreSendable s (items_of v.records ks)
given-sendable s v n ks is some =
    let set : HeldKnown = v.records in
    let all : AllSendable s (held_all set ks) = all-sendable s n.held set ks is.records in
    let count : ℕ = count_fitting long 32760 (held_all set ks) in
    let short : length (flat_map record_bytes (map (item_of s) (items_of set ks))) ≤ 32760 =
    subst (λ (rs : List Record). length (flat_map record_bytes rs) ≤ 32760) (sym (items-held s set n.held ks is.records)) (fitting-short 32760 (filter_map n.held ks)) in
    record {
      own = some-own s count (held_all set ks) all;
      fit = is-datagram s.me (map (item_of s) (items_of set ks)) is.signs.member (omega (arith, some, length-map (items_of set ks) (item_of s)))
          (some-spelled s count (held_all set ks) all) short;
    }

pub given-at : (s : Setting) (es : List journal.Event) (v v1 : Kept) (c : Call) (to : ℕ) (theirs : Summary) (items : List Item)
    → Plays s es v c → Grows v v1 → items ≡ items_of v.records (wanted v.records to theirs)
    → ((rs : List Record) → map (item_of s) items ≡ rs → (0 < length items → AreSendable s items) → Plays s es v1 (gives s to rs c)) → Plays s es v1 (gives s to (lacking c.node to theirs) c)
given-at s es v v1 c to theirs items p grows are sent =
    from-fine s es v v1 c (gives s to (lacking c.node to theirs) c) p grows (λ h.
    sent (lacking c.node to theirs) (ap (map (item_of s)) are ∙ lacking-is s v.records c.node to theirs h.is.records)
    (subst (λ (xs : List Item). 0 < length xs → AreSendable s xs) (sym are) (given-sendable s v c.node (wanted v.records to theirs) h.is)))

pub page-at : (s : Setting) (es : List journal.Event) (v v1 : Kept) (c : Call) (to : ℕ) (flag : Bool) (number : ℕ) (bytes : List ℕ)
    → Plays s es v c → Grows v v1 → bytes ≡ datagram_bytes (kinds.Summary v.me flag (summary_of body_of v.records number)) → ((d : Datagram) → bytes ≡ datagram_bytes d → is_bare d ≡ true → Plays s es v1 (sends s d c to))
    → Plays s es v1 (sends s (kinds.Summary s.me flag (page c.node number)) c to)
page-at s es v v1 c to flag number bytes p grows spelled sent =
    from-fine s es v v1 c (sends s (kinds.Summary s.me flag (page c.node number)) c to) p grows (λ h.
    let n = h.is in
    let me : v.me ≡ s.me = sym (setting-me s v c.node n) in
    let same : page c.node number ≡ summary_of body_of v.records number = page-is s v.records c.node number n.records in
    let at = sent (kinds.Summary v.me flag (summary_of body_of v.records number)) spelled refl in
    let at2 = subst (λ m. Plays s es v1 (sends s (kinds.Summary m flag (summary_of body_of v.records number)) c to)) me at in
    subst (λ x. Plays s es v1 (sends s (kinds.Summary s.me flag x) c to)) (sym same) at2)
