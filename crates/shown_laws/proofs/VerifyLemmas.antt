-- The own records that the lines of a life give as sent verify.
use Rattle.std.proofs.Common.{◌≡◌, ℕ, suc, ◌+◌, ◌/◌, ◌%◌, ◌<◌, Bool, true, false, List, [], ◌∷◌, ◌++◌, map, drop, get_or, Option, Some, None, refl, sym, ap, ◌∙◌, subst, inl, inr, arith, append_assoc}
use Rattle.std.specs.Prelude.{codes, decimal, IfSome, slice_index}
use Rattle.std.specs.List.{AllByRecursion}
use Rattle.std.specs.Result.{is_ok}
use Rattle.std.proofs.lemmas.Bool.{cases_lt, cond_both}
use Rattle.std.proofs.lemmas.List.{get_or_past}
use Rattle.hex.specs.Hex.{IsBytes, encode_lower, encode_with, hex_digit_value, lower_digits}
use Rattle.hex.proofs.HexLemmas.{IsDigits-lower_digits}
use Rattle.life_laws.proofs.Lists.{All-at, In, In-append_cases, In-from_Contains, In-from_map}
use Rattle.trace.proofs.TextLemmas.{clear-hex, same-fronts, unspaced-decimal}
use Rattle.records.specs.declared.keys.Key.{Key}
use Rattle.records.specs.declared.Record.{Record}
use Rattle.records.specs.Keys.{verdict_of}
use Rattle.records.specs.Signing.{signed_bytes}
use Rattle.epoch_store.specs.declared.Stored.{Stored}
use Rattle.datagram.specs.Grammar.{read_of}
use Rattle.journal.specs.declared.event.Event as journal
use Rattle.journal.specs.declared.event.What as whats
use Rattle.journal.specs.declared.event.What.TheVariants as told
use Rattle.journal.specs.declared.turn.Turn.{Turn}
use Rattle.journal.specs.Texts.{what_text}
use Rattle.node_rules.specs.Nodes.{Setting, Node}
use Rattle.node_rules.specs.Calls.{Call}
use Rattle.node_rules.specs.Starting.{started}
use Rattle.node_rules.specs.Lives.{Input, Delivers, Ticks, Leaves, after_calls, call_of}
use Rattle.node_rules.specs.OneExchange.{IsOfBytes}
use Rattle.node_rules.specs.Readable as node
use Rattle.node_rules.specs.Readable.{OfSent}
use Rattle.node_rules.specs.Sending.{is_sent}
use Rattle.node_rules.proofs.Told.{all-append, starts-tell}
use Rattle.turn_rules.specs.Turns.{Act, Receives, Writes, Calls, acts_of}
use Rattle.turn_rules.specs.Lines.{JournalLine, OfTurn, OfEvent, line_of, line_text, with_feed}
use Rattle.turn_rules.specs.Courses.{Course, acted, adds_event, course, course_from, datagram_in, gives, may_tick, node_acted, number_of, sends_one, tells, tells_all, tells_what}
use Rattle.turn_rules.specs.Journals.{end_text, journal_over, life_lines, turn_lines}
use Rattle.turn_laws.proofs.JournalLemmas.{course-cons, course-nil, node-of-act}
use Rattle.node_command.proofs.LineLemmas.{sent-event}
use Rattle.audit_rules.specs.declared.Head.{Head}
use Rattle.audit_rules.specs.Heads.{own_key}
use Rattle.audit_rules.specs.Shown.{OwnShownVerify, OwnVerifies, Sends}

-- ## The bytes that a line gives

abbrev event : ℕ → whats.What → journal.Event
event moment what = record { moment = moment; what = what }

abbrev numbered : ℕ → List ℕ → List ℕ
numbered m x = decimal m ++ 32 ∷ x

spaced : (a b x : List ℕ) → ((a ++ codes " ") ++ b) ++ x ≡ a ++ 32 ∷ (b ++ x)
spaced a b x = append_assoc (a ++ codes " ") b x ∙ append_assoc a (codes " ") (b ++ x)

behind-number : (m n : ℕ) (x y : List ℕ) → numbered m x ≡ numbered n y → x ≡ y
behind-number m n x y e = (same-fronts 32 (decimal m) (decimal n) x y (unspaced-decimal m) (unspaced-decimal n) e).rests

event-spaced : (at k m : ℕ) (xs : List ℕ) → line_of (event at (told.Sent k m xs)) ≡ codes "at " ++ numbered at (codes "sent " ++ numbered k (numbered m (encode_lower xs ++ 10 ∷ [])))
event-spaced at k m xs =
    let one = (decimal k ++ codes " ") ++ decimal m in
    let last = encode_lower xs ++ 10 ∷ [] in
    let words : what_text (told.Sent k m xs) ++ 10 ∷ [] ≡ codes "sent " ++ numbered k (numbered m last) =
    ap (λ (x : List ℕ). codes "sent " ++ x) (spaced one (encode_lower xs) (10 ∷ []) ∙ spaced (decimal k) (decimal m) (32 ∷ last)) in
    ap (λ (x : List ℕ). codes "at " ++ x) (spaced (decimal at) (what_text (told.Sent k m xs)) (10 ∷ []) ∙ ap (λ (x : List ℕ). numbered at x) words)

same-some-number : (a b : ℕ) → Some a ≡ Some b → a ≡ b
same-some-number a b e = cc

no-digit : {A : Type 0} (b : ℕ) → None ≡ Some b → A
no-digit b e = cc

-- a digit is that of one number below sixteen
same-digit : (a b : ℕ) → b < 16 → slice_index lower_digits a ≡ slice_index lower_digits b → a ≡ b
same-digit a b below e = elim (cases_lt a 16) [
  | inl less ↦ same-some-number a b (sym (IsDigits-lower_digits a less) ∙ ap hex_digit_value e ∙ IsDigits-lower_digits b below)
  | inr past ↦ no-digit b (ap hex_digit_value (sym (get_or_past lower_digits a 0 past) ∙ e) ∙ IsDigits-lower_digits b below)
]

-- of two texts of digits that are one, and one of which is that of bytes, the other is
same-hex : (xs ys : List ℕ) → IsBytes ys → encode_lower xs ≡ encode_lower ys → xs ≡ ys
unfolding encode_with
same-hex [] [] h e = refl
same-hex [] (y ∷ ys) h e = cc
same-hex (x ∷ xs) [] h e = cc
same-hex (x ∷ xs) (y ∷ ys) h e =
    let fits : y < 256 = h 0 in
    let high = same-digit (x / 16) (y / 16) (omega (arith, fits)) (ap (λ (l : List ℕ). get_or l 0 0) e) in
    let low = same-digit (x % 16) (y % 16) (omega arith) (ap (λ (l : List ℕ). get_or l 1 0) e) in
    let first : x ≡ y = omega (arith, high, low) in
    ap (λ (k : ℕ). k ∷ xs) first ∙ ap (λ (l : List ℕ). y ∷ l) (same-hex xs ys (λ i. h (suc i)) (ap (λ (l : List ℕ). drop 2 l) e))

-- lines that give datagrams, one of them of bytes, and are one, give one
same-bytes : (at k m : ℕ) (xs : List ℕ) (moment number to : ℕ) (ys : List ℕ) → IsBytes ys → line_of (event at (told.Sent k m xs)) ≡ line_of (event moment (told.Sent number to ys)) → xs ≡ ys
same-bytes at k m xs moment number to ys bytes e =
    let all = ap (λ (x : List ℕ). drop 3 x) (sym (event-spaced at k m xs) ∙ e ∙ event-spaced moment number to ys) in
    let words = behind-number at moment _ _ all in
    let numbers = behind-number k number _ _ (ap (λ (x : List ℕ). drop 5 x) words) in
    let last = behind-number m to _ _ numbers in
    same-hex xs ys bytes (same-fronts 10 (encode_lower xs) (encode_lower ys) [] [] (clear-hex xs) (clear-hex ys) last).fronts

-- ## What a life sends

-- what the act delivers is bytes
abbrev pub ActIsOfBytes : Act → Type 0
ActIsOfBytes Receives = Unit {0}
ActIsOfBytes (Writes turn) = Unit {0}
ActIsOfBytes (Calls i) = IsOfBytes i

-- Whatever calls the node answers next, P holds of what they report as sent, where what is delivered is bytes.
pub record Tells (P : List ℕ → Type 0) (s : Setting) (n : Node) : Type 0 where
  pub tells : (inputs : List Input) (i : Input) → AllByRecursion IsOfBytes inputs → IsOfBytes i → AllByRecursion (λ (e : journal.Event). OfSent P e.what) (call_of s (after_calls s n inputs) i).told

tells-called : (P : List ℕ → Type 0) (s : Setting) (n : Node) (i : Input) → IsOfBytes i → Tells P s n → Tells P s (call_of s n i).node
tells-called P s n i are h = record { tells = λ inputs next all one. h.tells (i ∷ inputs) next (are, all) one }

tells-act : (P : List ℕ → Type 0) (s : Setting) (n : Node) (act : Act) → ActIsOfBytes act → Tells P s n → Tells P s (node_acted s n act)
tells-act P s n Receives are h = h
tells-act P s n (Writes turn) are h = h
tells-act P s n (Calls (Delivers bytes)) are h = tells-called P s n (Delivers bytes) are h
tells-act P s n (Calls Leaves) are h = tells-called P s n Leaves are h
tells-act P s n (Calls Ticks) are h = cond_both {A = Node} (may_tick s n) (call_of s n Ticks).node n (Tells P s) (λ may. tells-called P s n Ticks are h) (λ never. h)

-- ## The lines of a course

-- P holds of the datagram that the line gives, if it gives one
abbrev LineSends : (List ℕ → Type 0) → JournalLine → Type 0
LineSends P (OfTurn turn) = Unit {0}
LineSends P (OfEvent e) = OfSent P e.what

abbrev Lines : (List ℕ → Type 0) → Course → Type 0
Lines P c = AllByRecursion (LineSends P) c.lines

lines-event : (P : List ℕ → Type 0) (moment : ℕ) (what : whats.What) (c : Course) → OfSent P what → Lines P c → Lines P (adds_event moment what c)
lines-event P moment what c of h = all-append (LineSends P) c.lines (OfEvent (event moment what) ∷ []) h (of, tt)

lines-sends : (P : List ℕ → Type 0) (lost : ℕ → Bool) (moment to : ℕ) (bytes : List ℕ) (c : Course) → P bytes → Lines P c → Lines P (sends_one lost moment to bytes c)
lines-sends P lost moment to bytes c of h =
    let c0 : Course = record c { sent = c.sent + 1 } in
    let c1 : Course = adds_event moment (told.Sent (number_of c.sent) to bytes) c0 in
    let one : Lines P c1 = lines-event P moment (told.Sent (number_of c.sent) to bytes) c0 of h in
    cond_both {A = Course} (lost c.sent) (adds_event moment (told.Lost (number_of c.sent)) c1) c1 (Lines P)
    (λ gone. lines-event P moment (told.Lost (number_of c.sent)) c1 tt one) (λ came. one)

nothing-sent : {A : Type 0} (d : ℕ × List ℕ) → None ≡ Some d → A
nothing-sent d e = cc

same-datagram : (c d : ℕ × List ℕ) → Some c ≡ Some d → c ≡ d
same-datagram c d e = cc

sent-of : (P : List ℕ → Type 0) (what : whats.What) (d : ℕ × List ℕ) → datagram_in what ≡ Some d → OfSent P what → P d.1
sent-of P (told.Sent number to bytes) d is of = subst (λ (x : ℕ × List ℕ). P x.1) (same-datagram (to, bytes) d is) of
sent-of P other d is of = nothing-sent d is

lines-what : (P : List ℕ → Type 0) (lost : ℕ → Bool) (moment : ℕ) (what : whats.What) (d : Option (ℕ × List ℕ)) (c : Course) → datagram_in what ≡ d → OfSent P what → Lines P c → Lines P (tells_what lost moment what d c)
lines-what P lost moment what (Some d) c is of h = lines-sends P lost moment d.0 d.1 c (sent-of P what d is of) h
lines-what P lost moment what None c is of h = lines-event P moment what c of h

lines-tells : (P : List ℕ → Type 0) (lost : ℕ → Bool) (c : Course) (e : journal.Event) → OfSent P e.what → Lines P c → Lines P (tells lost c e)
unfolding tells
lines-tells P lost c e of h = lines-what P lost e.moment e.what (datagram_in e.what) c refl of h

lines-tells_all : (P : List ℕ → Type 0) (lost : ℕ → Bool) (events : List journal.Event) (c : Course) → AllByRecursion (λ (e : journal.Event). OfSent P e.what) events → Lines P c → Lines P (tells_all lost events c)
lines-tells_all P lost [] c all h = h
lines-tells_all P lost (e ∷ events) c all h = lines-tells_all P lost events (tells lost c e) all.1 (lines-tells P lost c e all.0 h)

lines-gives : (P : List ℕ → Type 0) (lost : ℕ → Bool) (call : Call) (c : Course) → AllByRecursion (λ (e : journal.Event). OfSent P e.what) call.told → Lines P c → Lines P (gives lost call c)
unfolding gives
lines-gives P lost call c all h = lines-tells_all P lost call.told (record c { node = call.node }) all h

lines-act : (P : List ℕ → Type 0) (s : Setting) (lost : ℕ → Bool) (c : Course) (act : Act) → ActIsOfBytes act → Tells P s c.node → Lines P c → Lines P (acted s lost c act)
lines-act P s lost c Receives are t h = h
lines-act P s lost c (Writes turn) are t h = all-append (LineSends P) c.lines (OfTurn turn ∷ []) h (tt, tt)
lines-act P s lost c (Calls (Delivers bytes)) are t h = lines-gives P lost (call_of s c.node (Delivers bytes)) c (t.tells [] (Delivers bytes) tt are) h
lines-act P s lost c (Calls Leaves) are t h = lines-gives P lost (call_of s c.node Leaves) c (t.tells [] Leaves tt are) h
lines-act P s lost c (Calls Ticks) are t h =
    cond_both {A = Course} (may_tick s c.node) (gives lost (call_of s c.node Ticks) c) c (Lines P) (λ may. lines-gives P lost (call_of s c.node Ticks) c (t.tells [] Ticks tt are) h) (λ never. h)

lines-course : (P : List ℕ → Type 0) (s : Setting) (lost : ℕ → Bool) (acts : List Act) (c : Course) → AllByRecursion ActIsOfBytes acts → Tells P s c.node → Lines P c → Lines P (course s lost acts c)
lines-course P s lost [] c all t h = subst (Lines P) (sym (course-nil s lost c)) h
lines-course P s lost (act ∷ acts) c all t h =
    subst (Lines P) (sym (course-cons s lost act acts c))
    (lines-course P s lost acts (acted s lost c act) all.1 (subst (Tells P s) (sym (node-of-act s lost c act)) (tells-act P s c.node act all.0 t)) (lines-act P s lost c act all.0 t h))

-- a start sends nothing
unsent-so : (P : List ℕ → Type 0) (what : whats.What) → is_sent what ≡ false → OfSent P what
unsent-so P (told.Sent number to bytes) e = cc
unsent-so P other e = tt

line-sends : (P : List ℕ → Type 0) (s : Setting) (nonces : ℕ → ℕ) (certificates : List Record) (stored : Stored) (turns : List Turn) (lost : ℕ → Bool) (leave : Bool) → Tells P s (started s nonces certificates stored).node
    → AllByRecursion ActIsOfBytes (acts_of turns leave) → (line : JournalLine) → In (life_lines s (started s nonces certificates stored) turns lost leave) line → LineSends P line
line-sends P s nonces certificates stored turns lost leave t all line i =
    let begun : Call = started s nonces certificates stored in
    let lines : List JournalLine = turn_lines s begun turns lost leave in
    elim (In-append_cases (map OfEvent begun.told) lines line i) [
      | inl first ↦
          let x = In-from_map OfEvent begun.told line first in
          subst (LineSends P) x.1.1 (unsent-so P x.0.what (All-at (λ (e : journal.Event). is_sent e.what ≡ false) begun.told x.0 (starts-tell s nonces certificates stored).unsent x.1.0))
      | inr later ↦ All-at (LineSends P) lines line (lines-course P s lost (acts_of turns leave) (course_from begun.node) all t tt) later
    ]

-- ## Own records

-- The setting is that of the head's member, whose key this is.
pub record IsOfHead (h : Head) (s : Setting) (own : Key) : Type 0 where
  pub me : s.me ≡ h.me
  pub key : own_key h ≡ Some own
  pub verifies : (r : Record) → s.verifies own r ≡ is_ok (verdict_of own (signed_bytes h.group.tag h.group.t r.body) r.signature)

own-verifies : (h : Head) (s : Setting) (own : Key) (r : Record) → IsOfHead h s own → node.OwnVerifies s own r → OwnVerifies h r
own-verifies h s own r of good who =
    let verified = sym (of.verifies r) ∙ good (who ∙ ap Some (sym of.me)) in
    subst (λ (o : Option Key). IfSome o (λ k. is_ok (verdict_of k (signed_bytes h.group.tag h.group.t r.body) r.signature) ≡ true)) (sym of.key) verified

all-own : (h : Head) (s : Setting) (own : Key) (records : List Record) → IsOfHead h s own → AllByRecursion (node.OwnVerifies s own) records → AllByRecursion (OwnVerifies h) records
all-own h s own [] of good = tt
all-own h s own (r ∷ records) of good = (own-verifies h s own r of good.0, all-own h s own records of good.1)

line-verifies : (h : Head) (s : Setting) (own : Key) (line : List ℕ) (from : ℕ) (records : List Record) → IsOfHead h s own → (x : JournalLine) → line_text x ≡ line → LineSends (node.OwnReadVerify s own) x → Sends line from records
    → AllByRecursion (OwnVerifies h) records
line-verifies h s own line from records of (OfTurn t) is sends g = absurd (omega (arith, ap (λ (x : List ℕ). get_or x 0 0) (is ∙ g.is.spelled)))
line-verifies h s own line from records of (OfEvent e) is sends g =
    let same : line_of e ≡ line_of (event g.moment (told.Sent g.number g.to g.bytes)) = ap with_feed (is ∙ g.is.spelled) in
    let k = sent-event e g.moment g.number g.to g.bytes same in
    let good : node.OwnReadVerify s own k.bytes = subst (OfSent (node.OwnReadVerify s own)) k.is sends in
    let one : k.bytes ≡ g.bytes = same-bytes e.moment k.number k.to k.bytes g.moment g.number g.to g.bytes g.is.what.3 (sym (ap (λ (w : whats.What). line_of (event e.moment w)) k.is) ∙ same) in
    all-own h s own records of (good from records (ap read_of one ∙ g.read))

pub own-shown : (h : Head) (s : Setting) (own : Key) (nonces : ℕ → ℕ) (certificates : List Record) (stored : Stored) (turns : List Turn) (lost : ℕ → Bool) (leave : Bool) → IsOfHead h s own
    → Tells (node.OwnReadVerify s own) s (started s nonces certificates stored).node → AllByRecursion ActIsOfBytes (acts_of turns leave) → OwnShownVerify h (journal_over s (started s nonces certificates stored) turns lost leave)
own-shown h s own nonces certificates stored turns lost leave of t all line from records among g =
    let lines : List JournalLine = life_lines s (started s nonces certificates stored) turns lost leave in
    elim (In-append_cases (map line_text lines) (end_text ∷ []) line (In-from_Contains (map line_text lines ++ end_text ∷ []) line among)) [
      | inl first ↦
          let x = In-from_map line_text lines line first in
          line-verifies h s own line from records of x.0 x.1.1 (line-sends (node.OwnReadVerify s own) s nonces certificates stored turns lost leave t all x.0 x.1.0) g
      | inr (inl last) ↦ absurd (omega (arith, ap (λ (x : List ℕ). get_or x 0 0) (last ∙ g.is.spelled)))
      | inr (inr none) ↦ absurd none
    ]
