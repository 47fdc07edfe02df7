-- All that is lacking of a page is handed over in one datagram.
use Rattle.std.proofs.Common.{◌≡◌, ℕ, ◌+◌, ◌*◌, ◌≤◌, ◌<◌, Bool, true, false, not, eqb, ltb, cond, inl, inr, List, [], ◌∷◌, ◌++◌, Option, Some, None, is_some, refl, ap, sym, ◌∙◌, subst, arith, filter}
use Rattle.std.specs.Prelude.{◌&&◌, find, filter_map}
use Rattle.std.specs.List.{AllByRecursion, range_with_len}
use Rattle.std.specs.Option.{option_and_then, option_map_or}
use Rattle.std.specs.Ordering.{is_lt}
use Rattle.std.proofs.lemmas.Bool.{cases_Bool, eqb-true, false≢true, and_from}
use Rattle.std.proofs.lemmas.Bool.Decides.{nat_tests}
use Rattle.std.proofs.lemmas.List.{append_assoc}
use Rattle.std.proofs.lemmas.List.Elements.{filter_map-append}
use Rattle.std.proofs.lemmas.List.Sums.{fold-append}
use Rattle.ff_ids.specs.declared.TheConstants.{PAGE_MEMBERS}
use Rattle.ff_ids.specs.declared.NoteBody.{NoteBody}
use Rattle.ff_ids.specs.declared.summary.RecordKey.{RecordKey}
use Rattle.ff_ids.specs.declared.summary.RecordKey.TheVariants as keys
use Rattle.ff_ids.specs.declared.summary.SummaryEntry.{SummaryEntry}
use Rattle.ff_ids.specs.Masks.{note_mask}
use Rattle.ff_ids.specs.Notes.{note_cmp, newest}
use Rattle.ff_ids.specs.Summaries.{page_of_member}
use Rattle.life_laws.proofs.Lists.{In, In-filter, In-from_filter, In-from_map, All-at}
use Rattle.life_laws.proofs.NoteLemmas.{newest-fits}
use Rattle.records.specs.declared.keys.Key.{Key}
use Rattle.records.specs.declared.CertBody.{CertBody}
use Rattle.records.specs.declared.Body.{Body}
use Rattle.records.specs.declared.Body.TheVariants.{Certificate, Note, Accusation}
use Rattle.records.specs.declared.Record.{Record}
use Rattle.record_set.specs.Held.{key_of}
use Rattle.record_set.specs.Pages.{note_of_body, entry_with}
use Rattle.gossip.specs.Differ.{entry_of, entry_cmp, is_behind, certificates_lacking, notes_lacking, accusations_lacking, differ}
use Rattle.node_rules.specs.Nodes.{Setting, Node, Holding, state_of, certificate_in, certificate_of, is_certified}
use Rattle.node_rules.specs.Pages.{note_held, rings_held, entry_held, has_certificate, page}
use Rattle.node_rules.specs.Calls.{Call}
use Rattle.node_rules.specs.Deliveries.{handles, handles_all}
use Rattle.node_rules.specs.Vouching.{OwnSignaturesVerify}
use Rattle.node_rules.specs.OneExchange.{AreOfOneGroup, HasAtLeast, IsKnownAmong, AgreeOnCertificates, all_lacking}
use Rattle.node_rules.proofs.Keeping.{keeps-handles_all}
use Rattle.node_rules.proofs.Growth.{Follows, follows-itself, following}
use Rattle.node_rules.proofs.Upholding.{some_is, none_some}
use Rattle.node_rules.proofs.Correctness.{KeepsAll, certificate-of_key}
use Rattle.node_rules.proofs.Exchanges.{In-map, In-range, In-filter_map, all-filter_map, IsHeld, Stands, Handing, stands-handles, follows-handles, all-handled, one-handled, certified-kept, certifies, IsNoteOf, has-follows, notes}

-- ---- what is held of a member

is_note : (b : Body) (n : NoteBody) → note_of_body b ≡ Some n → b ≡ Note n
is_note (Certificate x) n e = cc
is_note (Note x) n e = ap (λ y. Note y) (some_is x n e)
is_note (Accusation a) n e = cc

is_certificate : (b : Body) (x : CertBody) → certificate_in b ≡ Some x → b ≡ Certificate x
is_certificate (Certificate y) x e = ap (λ z. Certificate z) (some_is y x e)
is_certificate (Note n) x e = cc
is_certificate (Accusation a) x e = cc

-- The record of the note is held in its place.
pub record HoldsNote (n : Node) (note : NoteBody) : Type 0 where
  pub rec : Record
  pub place : n.held (keys.Note note.member) ≡ Some rec
  pub is : rec.body ≡ Note note

pub holds-note : (n : Node) (note : NoteBody) → note_held n.held note.member ≡ Some note → HoldsNote n note
holds-note n note held = by (n.held (keys.Note note.member)) refl
  where
    by : (o : Option Record) → n.held (keys.Note note.member) ≡ o → HoldsNote n note
    by None e = absurd (none_some note (sym (ap (option_and_then (λ r. note_of_body r.body)) e) ∙ held))
    by (Some r) e = record { rec = r; place = e; is = is_note r.body note (sym (ap (option_and_then (λ r. note_of_body r.body)) e) ∙ held) }

record HoldsCertificate (n : Node) (m : ℕ) (x : CertBody) : Type 0 where
  rec : Record
  place : n.held (keys.Certificate m) ≡ Some rec
  is : rec.body ≡ Certificate x

holds-certificate : (n : Node) (m : ℕ) (x : CertBody) → certificate_of n m ≡ Some x → HoldsCertificate n m x
unfolding certificate_of
holds-certificate n m x held = by (n.held (keys.Certificate m)) refl
  where
    by : (o : Option Record) → n.held (keys.Certificate m) ≡ o → HoldsCertificate n m x
    by None e = absurd (none_some x (sym (ap (option_and_then (λ r. certificate_in r.body)) e) ∙ held))
    by (Some r) e = record { rec = r; place = e; is = is_certificate r.body x (sym (ap (option_and_then (λ r. certificate_in r.body)) e) ∙ held) }

certificate-number : (m : ℕ) (x : CertBody) → keys.Certificate x.member ≡ keys.Certificate m → x.member ≡ m
certificate-number m x e = cc

-- whoever has a certificate's place has a certificate
certified-place : (s : Setting) (own : Key) (n : Node) (m : ℕ) → KeepsAll s own n → has_certificate n.held m ≡ true → is_certified n m ≡ true
unfolding certificate_of
certified-place s own n m h has = by (n.held (keys.Certificate m)) refl
  where
    by_body : (b : Body) → key_of b ≡ keys.Certificate m → is_some (certificate_in b) ≡ true
    by_body (Certificate x) e = refl
    by_body (Note x) e = cc
    by_body (Accusation a) e = cc

    by : (o : Option Record) → n.held (keys.Certificate m) ≡ o → is_certified n m ≡ true
    by None e = absurd (false≢true (sym (ap is_some e) ∙ has))
    by (Some r) e = ap (λ o. is_some (option_and_then (λ y. certificate_in y.body) o)) e ∙ by_body r.body (h.upholds.filed (keys.Certificate m) r e)

-- ---- entries

find-in : {X : Type 0} (p : X → Bool) (xs : List X) (y : X) → find p xs ≡ Some y → In xs y × (p y ≡ true)
find-in p [] y e = absurd (none_some y e)
find-in p (x ∷ xs) y e =
    elim (cases_Bool (p x)) [
      | inl here ↦
          let this = some_is x y (sym (ap (λ b. cond b (Some x) (find p xs)) here) ∙ e) in
          (inl this, sym (ap p this) ∙ here)
      | inr there ↦
          let r = find-in p xs y (sym (ap (λ b. cond b (Some x) (find p xs)) there) ∙ e) in
          (inr r.0, r.1)
    ]

on_page : (m number : ℕ) → page_of_member m ≡ number → (PAGE_MEMBERS * number ≤ m) × (m < PAGE_MEMBERS * number + PAGE_MEMBERS)
on_page m number e = (omega (arith, e), omega (arith, e))

listed : (n : Node) (number m : ℕ) → has_certificate n.held m ≡ true → page_of_member m ≡ number → In (page n number).listed (entry_held n.held m)
unfolding page
listed n number m has of =
    let within = on_page m number of in
    In-map (entry_held n.held) (filter (has_certificate n.held) (range_with_len (PAGE_MEMBERS * number) PAGE_MEMBERS)) m
    (In-filter (has_certificate n.held) (range_with_len (PAGE_MEMBERS * number) PAGE_MEMBERS) m (In-range PAGE_MEMBERS (PAGE_MEMBERS * number) m within.0 within.1) has)

listed-of : (n : Node) (number : ℕ) (e : SummaryEntry) → In (page n number).listed e → (entry_held n.held e.member ≡ e) × (has_certificate n.held e.member ≡ true)
unfolding page
listed-of n number e i =
    let r = In-from_map (entry_held n.held) (filter (has_certificate n.held) (range_with_len (PAGE_MEMBERS * number) PAGE_MEMBERS)) e i in
    let f = In-from_filter (has_certificate n.held) (range_with_len (PAGE_MEMBERS * number) PAGE_MEMBERS) r.0 r.1.0 in
    let number_is : r.0 ≡ e.member = ap (λ (x : SummaryEntry). x.member) r.1.1 in
    (sym (ap (entry_held n.held) number_is) ∙ r.1.1, sym (ap (has_certificate n.held) number_is) ∙ f.1)

entries-compare : (m rings other : ℕ) (o p : Option NoteBody) (kept n : NoteBody) → o ≡ Some kept → p ≡ Some n → entry_cmp (entry_with m o rings) (entry_with m p other) ≡ note_cmp kept n
entries-compare m rings other o p kept n e f =
    ap (λ x. entry_cmp (entry_with m x rings) (entry_with m p other)) e ∙ ap (λ y. entry_cmp (entry_with m (Some kept) rings) (entry_with m y other)) f

none-less : (m rings other : ℕ) (o p : Option NoteBody) (n : NoteBody) → 0 < n.epoch → o ≡ None → p ≡ Some n → is_lt (entry_cmp (entry_with m o rings) (entry_with m p other)) ≡ true
none-less m rings other o p n some e f =
    ap (λ x. is_lt (entry_cmp (entry_with m x rings) (entry_with m p other))) e ∙ ap (λ y. is_lt (entry_cmp (entry_with m None rings) (entry_with m y other))) f ∙ less n.epoch n.mask.0 some
  where
    less : (epoch mask : ℕ) → 0 < epoch → is_lt (entry_cmp (entry_with m None rings) (record { member = m; epoch = epoch; mask = record { 0 = mask }; rings = other })) ≡ true
    less epoch mask some = grind (arith, nat_tests)

-- What the summary says of the member of the note: nothing, or less, or as much.
data Says (s : Setting) (n : Node) (theirs : List SummaryEntry) (here : SummaryEntry) (note : NoteBody) : Type 0 where
  nothing : entry_of theirs note.member ≡ None → Says s n theirs here note
  less : (there : SummaryEntry) → entry_of theirs note.member ≡ Some there → is_certified n note.member ≡ true → is_lt (entry_cmp there here) ≡ true → Says s n theirs here note
  enough : HasAtLeast (state_of s n).notes note.member note → Says s n theirs here note

says : (s : Setting) (own : Key) (n : Node) (number : ℕ) (mine : Holding) (note : NoteBody) → KeepsAll s own n → note_held mine note.member ≡ Some note → 0 < note.epoch
    → Says s n (page n number).listed (entry_held mine note.member) note
says s own n number mine note h held some = by (entry_of theirs m) refl
  where
    m : ℕ
    m = note.member

    theirs : List SummaryEntry
    theirs = (page n number).listed

    here : SummaryEntry
    here = entry_held mine m

    level : (o : Option NoteBody) → note_held n.held m ≡ o → is_lt (entry_cmp (entry_held n.held m) here) ≡ false → HasAtLeast (state_of s n).notes m note
    level None e most = absurd (false≢true (sym most ∙ none-less m (rings_held n.held m) (rings_held mine m) (note_held n.held m) (note_held mine m) note some e held))
    level (Some kept) e most =
        record {
          kept = kept;
          is_newest = sym (h.upholds.notes m) ∙ e;
          not_less = sym (ap is_lt (entries-compare m (rings_held n.held m) (rings_held mine m) (note_held n.held m) (note_held mine m) kept note e held)) ∙ most;
        }

    by : (o : Option SummaryEntry) → entry_of theirs m ≡ o → Says s n theirs here note
    by None e = nothing e
    by (Some there) e =
        let found = find-in (λ x. eqb x.member m) theirs there e in
        let who : there.member ≡ m = eqb-true there.member m found.1 in
        let of = listed-of n number there found.0 in
        let there_is : entry_held n.held m ≡ there = sym (ap (entry_held n.held) who) ∙ of.0 in
        elim (cases_Bool (is_lt (entry_cmp there here))) [
          | inl behind ↦ less there e (certified-place s own n m h (sym (ap (has_certificate n.held) who) ∙ of.1)) behind
          | inr most ↦ enough (level (note_held n.held m) refl (ap (λ x. is_lt (entry_cmp x here)) there_is ∙ most))
        ]

-- ---- what is lacking

lacks-certificate : (mine theirs : List SummaryEntry) (e : SummaryEntry) → In mine e → entry_of theirs e.member ≡ None → In (certificates_lacking mine theirs) (keys.Certificate e.member)
lacks-certificate mine theirs e i none =
    let p : SummaryEntry → Bool = λ x. not (is_some (entry_of theirs x.member)) in
    In-map (λ (x : SummaryEntry). keys.Certificate x.member) (filter p mine) e (In-filter p mine e i (ap (λ o. not (is_some o)) none))

lacks-note : (mine theirs : List SummaryEntry) (e : SummaryEntry) → In mine e → 0 < e.epoch → is_behind (entry_of theirs e.member) e ≡ true → In (notes_lacking mine theirs) (keys.Note e.member)
lacks-note mine theirs e i some behind =
    let p : SummaryEntry → Bool = λ x. ltb 0 x.epoch && is_behind (entry_of theirs x.member) x in
    In-map (λ (x : SummaryEntry). keys.Note x.member) (filter p mine) e (In-filter p mine e i (and_from (ltb 0 e.epoch) (is_behind (entry_of theirs e.member) e) (grind (arith, nat_tests, some)) behind))

-- ---- the whole of it is handled

-- The one's page and the other's earlier summary of it, and where the other stands as it is handed what it lacked.
pub record Meets (a b : Setting) (own other_own : Key) (n earlier : Node) (c : Call) : Type 0 where
  pub group : AreOfOneGroup a b
  pub some : 1 ≤ b.group.t
  pub signs : OwnSignaturesVerify b other_own
  pub theirs : KeepsAll a own n
  pub before : KeepsAll b other_own earlier
  pub ours : KeepsAll b other_own c.node
  pub follows : Follows b earlier c.node
  pub agrees : AgreeOnCertificates n c.node
  pub own_known : IsKnownAmong b.me (state_of a n).notes (state_of b c.node).notes

follows-handles_all : (s : Setting) (records : List Record) (c : Call) → Follows s c.node (handles_all s records c).node
follows-handles_all s records c = keeps-handles_all s (λ x. Follows s c.node x.node) (following s c.node) records c (follows-itself s c.node)

-- What the one knows of the author of its note.
record Author (a : Setting) (n : Node) (note : NoteBody) : Type 0 where
  holds : HoldsNote n note
  cert : CertBody
  certified : certificate_of n note.member ≡ Some cert
  verifies : a.verifies cert.key holds.rec ≡ true
  rec : HoldsCertificate n note.member cert
  number : cert.member ≡ note.member
  by_authority : a.verifies a.authority rec.rec ≡ true

author : (a : Setting) (own : Key) (n : Node) (note : NoteBody) → KeepsAll a own n → newest (state_of a n).notes note.member ≡ Some note → Author a n note
author a own n note h is =
    let u = h.upholds in
    let holds : HoldsNote n note = holds-note n note (u.notes note.member ∙ is) in
    let signed = u.signed note.member holds.rec holds.place in
    let cert = certificate-of_key n note.member signed.key signed.author_is in
    let rec : HoldsCertificate n note.member cert.0 = holds-certificate n note.member cert.0 cert.1.0 in
    record {
      holds = holds;
      cert = cert.0;
      certified = cert.1.0;
      verifies = ap (λ k. a.verifies k holds.rec) cert.1.1 ∙ signed.verifies;
      rec = rec;
      number = certificate-number note.member cert.0 (sym (ap key_of rec.is) ∙ u.filed (keys.Certificate note.member) rec.rec rec.place);
      by_authority = u.certificates note.member rec.rec rec.place;
    }

verdict : (a b : Setting) (key : Key) (r : Record) → AreOfOneGroup a b → a.verifies key r ≡ true → b.verifies key r ≡ true
verdict a b key r one h = sym (ap (λ f. f key r) one.verdicts) ∙ h

note-of : (a b : Setting) (own : Key) (n : Node) (note : NoteBody) → AreOfOneGroup a b → KeepsAll a own n → newest (state_of a n).notes note.member ≡ Some note → (w : Author a n note) → IsNoteOf b n w.holds.rec note
note-of a b own n note one h is w =
    let allowed : note_mask a.group.t note.mask.0 ≡ true = All-at (λ (x : NoteBody). note_mask a.group.t x.mask.0 ≡ true) (state_of a n).notes note h.upholds.allowed (newest-fits (state_of a n).notes note.member note is).0 in
    record {
      is = w.holds.is;
      cert = w.cert;
      certified = w.certified;
      verifies = verdict a b w.cert.key w.holds.rec one w.verifies;
      allowed = sym (ap (λ g. note_mask g.t note.mask.0) one.group) ∙ allowed;
    }

brings-certificate : (a b : Setting) (own other_own : Key) (n earlier : Node) (c d : Call) (note : NoteBody) (records : List Record) → Meets a b own other_own n earlier c → (w : Author a n note)
    → AllByRecursion (IsHeld n) records → In records w.rec.rec → Stands b other_own n c.node d → is_certified (handles_all b records d).node note.member ≡ true
brings-certificate a b own other_own n earlier c d note records m w all i h =
    let handing : Handing b other_own n = record { some = m.some; signs = m.signs; filed = m.theirs.upholds.filed } in
    let verifies : b.verifies b.authority w.rec.rec ≡ true = ap (λ k. b.verifies k w.rec.rec) (sym m.group.authority) ∙ verdict a b a.authority w.rec.rec m.group w.by_authority in
    one-handled b (IsHeld n) (Stands b other_own n c.node) (λ x. is_certified x.node note.member ≡ true) w.rec.rec
    (λ x r held s. stands-handles b other_own n c.node x r handing held s)
    (λ x s. sym (ap (is_certified (handles true b x w.rec.rec).node) w.number) ∙ certifies b x w.rec.rec w.cert w.rec.is verifies)
    (λ x r known. certified-kept b x.node (handles true b x r).node note.member (follows-handles b x r) known)
    records all i d h

brings-note : (a b : Setting) (own other_own : Key) (n earlier : Node) (c d : Call) (note : NoteBody) (records : List Record) → Meets a b own other_own n earlier c → newest (state_of a n).notes note.member ≡ Some note → (w : Author a n note)
    → AllByRecursion (IsHeld n) records → In records w.holds.rec → Stands b other_own n c.node d → is_certified d.node note.member ≡ true → HasAtLeast (state_of b (handles_all b records d).node).notes note.member note
brings-note a b own other_own n earlier c d note records m is w all i h certified =
    let handing : Handing b other_own n = record { some = m.some; signs = m.signs; filed = m.theirs.upholds.filed } in
    let of : IsNoteOf b n w.holds.rec note = note-of a b own n note m.group m.theirs is w in
    let own_known : note.member ≡ b.me → HasAtLeast (state_of b c.node).notes b.me note = λ mine. m.own_known note (sym (ap (newest (state_of a n).notes) mine) ∙ is) in
    one-handled b (IsHeld n) (λ x. Stands b other_own n c.node x × (is_certified x.node note.member ≡ true)) (λ x. HasAtLeast (state_of b x.node).notes note.member note) w.holds.rec
    (λ x r held s. (stands-handles b other_own n c.node x r handing held s.0, certified-kept b x.node (handles true b x r).node note.member (follows-handles b x r) s.1))
    (λ x s. notes b other_own n c.node x w.holds.rec note of s.0 s.1 (λ mine. has-follows b.me (state_of b c.node).notes (state_of b x.node).notes note (s.0.follows.notes b.me) (own_known mine)))
    (λ x r known. has-follows note.member (state_of b x.node).notes (state_of b (handles true b x r).node).notes note ((follows-handles b x r).notes note.member) known)
    records all i d (h, certified)

-- the parts of what is lacking, one behind the other, and more behind them
in-parts : (s : Setting) (held : Holding) (mine theirs : List SummaryEntry) (more : List RecordKey) (c : Call) → handles_all s (filter_map held (differ mine theirs ++ more)) c
    ≡ handles_all s (filter_map held (accusations_lacking mine theirs ++ more)) (handles_all s (filter_map held (notes_lacking mine theirs)) (handles_all s (filter_map held (certificates_lacking mine theirs)) c))
in-parts s held mine theirs more c =
    let cs : List RecordKey = certificates_lacking mine theirs in
    let ns : List RecordKey = notes_lacking mine theirs in
    let accusations : List RecordKey = accusations_lacking mine theirs in
    let last : List RecordKey = accusations ++ more in
    let apart : differ mine theirs ++ more ≡ cs ++ (ns ++ last) = append_assoc cs (ns ++ accusations) more ∙ ap (λ xs. cs ++ xs) (append_assoc ns accusations more) in
    ap (λ ks. handles_all s (filter_map held ks) c) apart
    ∙ ap (λ rs. handles_all s rs c) (filter_map-append held cs (ns ++ last) ∙ ap (λ rs. filter_map held cs ++ rs) (filter_map-append held ns last))
    ∙ fold-append (handles true s) c (filter_map held cs) (filter_map held ns ++ filter_map held last)
    ∙ fold-append (handles true s) (handles_all s (filter_map held cs) c) (filter_map held ns) (filter_map held last)

page-number : (n : Node) (number : ℕ) → (page n number).page ≡ number
unfolding page
page-number n number = refl

-- Of each member of the page a note is known that is at least the one's.
pub known-page : (a b : Setting) (own other_own : Key) (n earlier : Node) (from number : ℕ) (c : Call) (note : NoteBody) → Meets a b own other_own n earlier c
    → page_of_member note.member ≡ number → newest (state_of a n).notes note.member ≡ Some note → 0 < note.epoch
    → HasAtLeast (state_of b (handles_all b (all_lacking n from (page earlier number)) c).node).notes note.member note
known-page a b own other_own n earlier from number c note m of is some =
    let k : ℕ = note.member in
    let theirs : List SummaryEntry = (page earlier number).listed in
    let mine : List SummaryEntry = (page n number).listed in
    let here : SummaryEntry = entry_held n.held k in
    let cs : List Record = filter_map n.held (certificates_lacking mine theirs) in
    let ns : List Record = filter_map n.held (notes_lacking mine theirs) in
    let removal : List RecordKey = keys.Removal from ∷ [] in
    let accusations : List Record = filter_map n.held (accusations_lacking mine theirs ++ removal) in
    let c1 : Call = handles_all b cs c in
    let c2 : Call = handles_all b ns c1 in
    let c3 : Call = handles_all b accusations c2 in
    let paged : all_lacking n from (page earlier number) ≡ filter_map n.held (differ mine theirs ++ removal) = ap (λ p. filter_map n.held (differ (page n p).listed theirs ++ removal)) (page-number earlier number) in
    let whole : handles_all b (all_lacking n from (page earlier number)) c ≡ c3 = ap (λ rs. handles_all b rs c) paged ∙ in-parts b n.held mine theirs removal c in
    let w : Author a n note = author a own n note m.theirs is in
    let held : note_held n.held k ≡ Some note = m.theirs.upholds.notes k ∙ is in
    let entry : In mine here = listed n number k (ap is_some w.rec.place) of in
    let epoch : 0 < here.epoch = subst (λ x. 0 < x) (sym (ap (λ o. option_map_or (λ (x : NoteBody). x.epoch) o 0) held)) some in
    let handing : Handing b other_own n = record { some = m.some; signs = m.signs; filed = m.theirs.upholds.filed } in
    let s0 : Stands b other_own n c.node c = record { all = m.ours; follows = follows-itself b c.node; agrees = m.agrees } in
    let s1 : Stands b other_own n c.node c1 = all-handled b (IsHeld n) (Stands b other_own n c.node) (λ x r given s. stands-handles b other_own n c.node x r handing given s) cs (all-filter_map n.held (certificates_lacking mine theirs)) c s0 in
    let noted : is_certified c1.node k ≡ true → is_behind (entry_of theirs k) here ≡ true → HasAtLeast (state_of b c3.node).notes k note =
    λ certified behind.
    let there : In ns w.holds.rec = In-filter_map n.held (notes_lacking mine theirs) (keys.Note k) w.holds.rec (lacks-note mine theirs here entry epoch behind) w.holds.place in
    has-follows k (state_of b c2.node).notes (state_of b c3.node).notes note ((follows-handles_all b accusations c2).notes k)
    (brings-note a b own other_own n earlier c c1 note ns m is w (all-filter_map n.held (notes_lacking mine theirs)) there s1 certified) in
    let last : HasAtLeast (state_of b c3.node).notes k note =
    elim (says b other_own earlier number n.held note m.before held some) [
      | nothing none ↦
          let there : In cs w.rec.rec = In-filter_map n.held (certificates_lacking mine theirs) (keys.Certificate k) w.rec.rec (lacks-certificate mine theirs here entry none) w.rec.place in
          noted (brings-certificate a b own other_own n earlier c c note cs m w (all-filter_map n.held (certificates_lacking mine theirs)) there s0) (ap (λ o. is_behind o here) none)
      | less there found certified behind ↦
          noted (certified-kept b c.node c1.node k (follows-handles_all b cs c) (certified-kept b earlier c.node k m.follows certified)) (ap (λ o. is_behind o here) found ∙ behind)
      | enough known ↦
          let at : Follows b c.node c3.node = subst (λ (x : Call). Follows b c.node x.node) whole (follows-handles_all b (all_lacking n from (page earlier number)) c) in
          has-follows k (state_of b c.node).notes (state_of b c3.node).notes note (at.notes k) (has-follows k (state_of b earlier).notes (state_of b c.node).notes note (m.follows.notes k) known)
    ] in
    subst (λ (x : Call). HasAtLeast (state_of b x.node).notes k note) (sym whole) last
