-- The whole lines of a journal, and which event a line gives.
use Rattle.std.proofs.Common.{◌≡◌, ℕ, Bool, true, false, List, [], ◌∷◌, ◌++◌, get_or, Option, Some, None, inl, inr, refl, ap, sym, ◌∙◌, append_assoc, append-nil, drop, arith}
use Rattle.std.specs.Prelude.{codes}
use Rattle.std.specs.Fmt.{decimal}
use Rattle.std.specs.List.{AllByRecursion, concat}
use Rattle.std.proofs.lemmas.List.Folds.{concat-append}
use Rattle.ff_ids.specs.declared.AccBody.{AccBody}
use Rattle.ff_ids.specs.declared.Fault.{Fault}
use Rattle.ff_ids.specs.declared.NoteBody.{NoteBody}
use Rattle.ff_ids.specs.Texts.{accusation_text, fault_text}
use Rattle.hex.specs.Hex.{encode_lower}
use Rattle.life_events.specs.declared.event.What.TheVariants as in_life
use Rattle.life_laws.proofs.Lists.{All-at}
use Rattle.records.specs.Keys.{key_bytes}
use Rattle.records.specs.declared.CertBody.{CertBody}
use Rattle.records.specs.declared.Body.{Body}
use Rattle.records.specs.declared.Body.TheVariants.{Certificate, Note, Accusation}
use Rattle.journal.specs.declared.event.Event as journal
use Rattle.journal.specs.declared.event.What as whats
use Rattle.journal.specs.declared.event.What.TheVariants as told
use Rattle.journal.specs.declared.turn.Heard.{Heard}
use Rattle.journal.specs.declared.turn.Heard.TheVariants as heard
use Rattle.journal.specs.declared.turn.Turn.{Turn}
use Rattle.journal.specs.Texts.{answer_text, body_text, event_text, flag_text, verdict_text, what_text}
use Rattle.journal.specs.Turns.{bytes_text, heard_text, turn_text}
use Rattle.text_trace.specs.Lines.{has_no_feed}
use Rattle.trace.specs.Written.{IsLineOf, IsWholeLine}
use Rattle.trace.proofs.JustifiedLemmas.{IsTail, among-tail, line-among}
use Rattle.trace.proofs.TextLemmas.{clear-append, clear-decimal, clear-hex, same-fronts, unspaced-decimal, unspaced-hex}
use Rattle.trace.proofs.WrittenLemmas.{clear-accusation, clear-fault, clear-then}
use Rattle.trace.proofs.WrittenLemmas as written
use Rattle.turn_rules.specs.Lines.{line_of, with_feed}
use Rattle.turn_rules.specs.Removals.{removal_line}
use Rattle.turn_rules.specs.Replies.{accepted_line, expiry_line, signed_line}
use Rattle.turn_rules.specs.Sendings.{sent_line}

-- ## No line has a line feed inside it

pub clear-body : (b : Body) → has_no_feed (body_text b) ≡ true
clear-body (Certificate c) =
    let two = (codes "cert " ++ decimal c.member) ++ codes " " ++ decimal c.port in
    clear-append (two ++ codes " ") (encode_lower (key_bytes c.key))
    (clear-append two (codes " ") (clear-then (codes "cert " ++ decimal c.member) c.port (clear-append (codes "cert ") (decimal c.member) refl (clear-decimal c.member))) refl)
    (clear-hex (key_bytes c.key))
clear-body (Note n) =
    let two = (codes "note " ++ decimal n.member) ++ codes " " ++ decimal n.epoch in
    clear-then two n.mask.0 (clear-then (codes "note " ++ decimal n.member) n.epoch (clear-append (codes "note ") (decimal n.member) refl (clear-decimal n.member)))
clear-body (Accusation a) = clear-append (codes "accuse ") (accusation_text a) refl (clear-accusation a)

clear-verdict : (f : Option Fault) → has_no_feed (verdict_text f) ≡ true
clear-verdict None = refl
clear-verdict (Some f) = clear-append (codes "refused ") (fault_text f) refl (clear-fault f)

clear-answer : (counted : Bool) → has_no_feed (answer_text counted) ≡ true
clear-answer true = refl
clear-answer false = refl

clear-flag : (flag : Bool) → has_no_feed (flag_text flag) ≡ true
clear-flag true = refl
clear-flag false = refl

-- a word and a number
clear-number : (word : List ℕ) (n : ℕ) → has_no_feed word ≡ true → has_no_feed (word ++ decimal n) ≡ true
clear-number word n h = clear-append word (decimal n) h (clear-decimal n)

-- a text, a space and another one
clear-both : (a b : List ℕ) → has_no_feed a ≡ true → has_no_feed b ≡ true → has_no_feed ((a ++ codes " ") ++ b) ≡ true
clear-both a b h k = clear-append (a ++ codes " ") b (clear-append a (codes " ") h refl) k

clear-what : (w : whats.What) → has_no_feed (what_text w) ≡ true
clear-what (told.Entered m) = written.clear-what (in_life.Entered m)
clear-what (told.Expired a) = written.clear-what (in_life.Expired a)
clear-what (told.Removed m) = written.clear-what (in_life.Removed m)
clear-what (told.Fell a) = written.clear-what (in_life.Fell a)
clear-what (told.Spent index body) = clear-both (codes "spent " ++ decimal index) (body_text body) (clear-number (codes "spent ") index refl) (clear-body body)
clear-what (told.Took body fault) =
    clear-append ((codes "took " ++ body_text body) ++ codes " : ") (verdict_text fault)
    (clear-append (codes "took " ++ body_text body) (codes " : ") (clear-append (codes "took ") (body_text body) refl (clear-body body)) refl) (clear-verdict fault)
clear-what (told.BadForm place) = clear-number (codes "bad-form ") place refl
clear-what (told.Ping from nonce) = clear-then (codes "ping " ++ decimal from) nonce (clear-number (codes "ping ") from refl)
clear-what (told.Pong from nonce counted) =
    clear-both ((codes "pong " ++ decimal from) ++ codes " " ++ decimal nonce) (answer_text counted) (clear-then (codes "pong " ++ decimal from) nonce (clear-number (codes "pong ") from refl)) (clear-answer counted)
clear-what (told.Summary from page flag) =
    clear-both ((codes "summary " ++ decimal from) ++ codes " " ++ decimal page) (flag_text flag) (clear-then (codes "summary " ++ decimal from) page (clear-number (codes "summary ") from refl)) (clear-flag flag)
clear-what (told.Silent m) = clear-number (codes "silent ") m refl
clear-what (told.Exhausted next) = clear-number (codes "exhausted ") next refl
clear-what (told.Sent number to bytes) =
    clear-both ((codes "sent " ++ decimal number) ++ codes " " ++ decimal to) (encode_lower bytes) (clear-then (codes "sent " ++ decimal number) to (clear-number (codes "sent ") number refl)) (clear-hex bytes)
clear-what (told.Lost number) = clear-number (codes "lost ") number refl
clear-what (told.Got number) = clear-number (codes "got ") number refl
clear-what told.Stopped = refl

clear-event : (e : journal.Event) → has_no_feed (event_text e) ≡ true
clear-event e = clear-both (codes "at " ++ decimal e.moment) (what_text e.what) (clear-number (codes "at ") e.moment refl) (clear-what e.what)

clear-bytes : (bytes : List ℕ) → has_no_feed (bytes_text bytes) ≡ true
clear-bytes [] = refl
clear-bytes (b ∷ bytes) = clear-hex (b ∷ bytes)

clear-heard : (came : Heard) → has_no_feed (heard_text came) ≡ true
clear-heard (heard.Got bytes) = clear-append (codes "got ") (bytes_text bytes) refl (clear-bytes bytes)
clear-heard heard.Nothing = refl
clear-heard heard.Failed = refl

clear-turn : (t : Turn) → has_no_feed (turn_text t) ≡ true
clear-turn t =
    let front = (codes "turn " ++ decimal t.number) ++ codes " " ++ heard_text t.heard in
    clear-append (front ++ codes " ticks ") (decimal t.ticks)
    (clear-append front (codes " ticks ") (clear-both (codes "turn " ++ decimal t.number) (heard_text t.heard) (clear-number (codes "turn ") t.number refl) (clear-heard t.heard)) refl)
    (clear-decimal t.ticks)

pub whole-fed : (text : List ℕ) → has_no_feed text ≡ true → IsWholeLine (with_feed text)
whole-fed text clear = record { front = text; clear = clear; ended = refl }

pub whole-event : (e : journal.Event) → IsWholeLine (line_of e)
whole-event e = whole-fed (event_text e) (clear-event e)

pub whole-turn : (t : Turn) → IsWholeLine (with_feed (turn_text t))
whole-turn t = whole-fed (turn_text t) (clear-turn t)

-- ## Which line gives which event

-- a line that begins as no event does
pub other-line : (line : List ℕ) (x : journal.Event) → (get_or line 0 0 ≡ 97 → ⊥) → line ≡ line_of x → ⊥
other-line line x other e = other (ap (λ (x : List ℕ). get_or x 0 0) e)

pub turn-other : (t : Turn) → get_or (with_feed (turn_text t)) 0 0 ≡ 97 → ⊥
turn-other t e = absurd (omega (arith, e))

-- the text of what happened, where it is that of a removal
removed-word : (w : whats.What) (m : ℕ) → what_text w ++ 10 ∷ [] ≡ (codes "removed " ++ decimal m) ++ 10 ∷ [] → (k : ℕ) × (w ≡ told.Removed k)
removed-word (told.Entered k) m e = absurd (omega (arith, ap (λ (x : List ℕ). get_or x 0 0) e))
removed-word (told.Expired a) m e = absurd (omega (arith, ap (λ (x : List ℕ). get_or x 0 0) e))
removed-word (told.Removed k) m e = (k, refl)
removed-word (told.Fell a) m e = absurd (omega (arith, ap (λ (x : List ℕ). get_or x 0 0) e))
removed-word (told.Spent index body) m e = absurd (omega (arith, ap (λ (x : List ℕ). get_or x 0 0) e))
removed-word (told.Took body fault) m e = absurd (omega (arith, ap (λ (x : List ℕ). get_or x 0 0) e))
removed-word (told.BadForm place) m e = absurd (omega (arith, ap (λ (x : List ℕ). get_or x 0 0) e))
removed-word (told.Ping from nonce) m e = absurd (omega (arith, ap (λ (x : List ℕ). get_or x 0 0) e))
removed-word (told.Pong from nonce counted) m e = absurd (omega (arith, ap (λ (x : List ℕ). get_or x 0 0) e))
removed-word (told.Summary from page flag) m e = absurd (omega (arith, ap (λ (x : List ℕ). get_or x 0 0) e))
removed-word (told.Silent k) m e = absurd (omega (arith, ap (λ (x : List ℕ). get_or x 0 0) e))
removed-word (told.Exhausted next) m e = absurd (omega (arith, ap (λ (x : List ℕ). get_or x 0 0) e))
removed-word (told.Sent number to bytes) m e = absurd (omega (arith, ap (λ (x : List ℕ). get_or x 0 0) e))
removed-word (told.Lost number) m e = absurd (omega (arith, ap (λ (x : List ℕ). get_or x 0 0) e))
removed-word (told.Got number) m e = absurd (omega (arith, ap (λ (x : List ℕ). get_or x 0 0) e))
removed-word told.Stopped m e = absurd (omega (arith, ap (λ (x : List ℕ). get_or x 0 0) e))

-- the text behind the word `at` and a space
behind-at : (e : journal.Event) → line_of e ≡ codes "at " ++ (decimal e.moment ++ 32 ∷ (what_text e.what ++ 10 ∷ []))
behind-at e =
    append_assoc ((codes "at " ++ decimal e.moment) ++ codes " ") (what_text e.what) (10 ∷ [])
    ∙ append_assoc (codes "at " ++ decimal e.moment) (codes " ") (what_text e.what ++ 10 ∷ [])
    ∙ append_assoc (codes "at ") (decimal e.moment) (32 ∷ (what_text e.what ++ 10 ∷ []))

drop-at : (x y : List ℕ) → codes "at " ++ x ≡ codes "at " ++ y → x ≡ y
drop-at x y e = ap (λ (t : List ℕ). drop 3 t) e

-- what events say whose lines are one
same-what : (e x : journal.Event) → line_of e ≡ line_of x → what_text e.what ++ 10 ∷ [] ≡ what_text x.what ++ 10 ∷ []
same-what e x same =
    let behind = drop-at _ _ (sym (behind-at e) ∙ same ∙ behind-at x) in
    let s = same-fronts 32 (decimal e.moment) (decimal x.moment) _ _ (unspaced-decimal e.moment) (unspaced-decimal x.moment) behind in
    s.rests

-- an event whose line gives a removal is one
pub removal-event : (e : journal.Event) (moment m : ℕ) → line_of e ≡ removal_line moment m → (k : ℕ) × (e.what ≡ told.Removed k)
removal-event e moment m same = removed-word e.what m (same-what e (record { moment = moment; what = told.Removed m }) same)

-- the text of what happened, where it is that of an expiry
expired-word : (w : whats.What) (a : AccBody) → what_text w ++ 10 ∷ [] ≡ (codes "expired " ++ accusation_text a) ++ 10 ∷ [] → (b : AccBody) × (w ≡ told.Expired b)
expired-word (told.Entered k) a e = absurd (omega (arith, ap (λ (x : List ℕ). get_or x 1 0) e))
expired-word (told.Expired b) a e = (b, refl)
expired-word (told.Removed k) a e = absurd (omega (arith, ap (λ (x : List ℕ). get_or x 0 0) e))
expired-word (told.Fell b) a e = absurd (omega (arith, ap (λ (x : List ℕ). get_or x 0 0) e))
expired-word (told.Spent index body) a e = absurd (omega (arith, ap (λ (x : List ℕ). get_or x 0 0) e))
expired-word (told.Took body fault) a e = absurd (omega (arith, ap (λ (x : List ℕ). get_or x 0 0) e))
expired-word (told.BadForm place) a e = absurd (omega (arith, ap (λ (x : List ℕ). get_or x 0 0) e))
expired-word (told.Ping from nonce) a e = absurd (omega (arith, ap (λ (x : List ℕ). get_or x 0 0) e))
expired-word (told.Pong from nonce counted) a e = absurd (omega (arith, ap (λ (x : List ℕ). get_or x 0 0) e))
expired-word (told.Summary from page flag) a e = absurd (omega (arith, ap (λ (x : List ℕ). get_or x 0 0) e))
expired-word (told.Silent k) a e = absurd (omega (arith, ap (λ (x : List ℕ). get_or x 0 0) e))
expired-word (told.Exhausted next) a e = absurd (omega (arith, ap (λ (x : List ℕ). get_or x 2 0) e))
expired-word (told.Sent number to bytes) a e = absurd (omega (arith, ap (λ (x : List ℕ). get_or x 0 0) e))
expired-word (told.Lost number) a e = absurd (omega (arith, ap (λ (x : List ℕ). get_or x 0 0) e))
expired-word (told.Got number) a e = absurd (omega (arith, ap (λ (x : List ℕ). get_or x 0 0) e))
expired-word told.Stopped a e = absurd (omega (arith, ap (λ (x : List ℕ). get_or x 0 0) e))

-- an event whose line gives an expiry is one
pub expiry-event : (e : journal.Event) (moment : ℕ) (a : AccBody) → line_of e ≡ expiry_line moment a → (b : AccBody) × (e.what ≡ told.Expired b)
expiry-event e moment a same = expired-word e.what a (same-what e (record { moment = moment; what = told.Expired a }) same)

-- ## Which line gives what was accepted

-- behind a number and a space
behind-number : (m n : ℕ) (x y : List ℕ) → decimal m ++ 32 ∷ x ≡ decimal n ++ 32 ∷ y → x ≡ y
behind-number m n x y e = (same-fronts 32 (decimal m) (decimal n) x y (unspaced-decimal m) (unspaced-decimal n) e).rests

-- a number, a space and this
abbrev numbered : ℕ → List ℕ → List ℕ
numbered m x = decimal m ++ 32 ∷ x

-- what stands behind the body in the text of a verdict
abbrev judged : Option Fault → List ℕ
judged f = 58 ∷ 32 ∷ (verdict_text f ++ 10 ∷ [])

-- two texts with a space between them, and then this
spaced : (a b x : List ℕ) → ((a ++ codes " ") ++ b) ++ x ≡ a ++ 32 ∷ (b ++ x)
spaced a b x = append_assoc (a ++ codes " ") b x ∙ append_assoc a (codes " ") (b ++ x)

judged-behind : (b : List ℕ) (f : Option Fault) → ((b ++ codes " : ") ++ verdict_text f) ++ 10 ∷ [] ≡ b ++ 32 ∷ judged f
judged-behind b f = append_assoc (b ++ codes " : ") (verdict_text f) (10 ∷ []) ∙ append_assoc b (codes " : ") (verdict_text f ++ 10 ∷ [])

took-certificate : (c : CertBody) (f : Option Fault)
    → what_text (told.Took (Certificate c) f) ++ 10 ∷ [] ≡ codes "took cert " ++ numbered c.member (numbered c.port (encode_lower (key_bytes c.key) ++ 32 ∷ judged f))
took-certificate c f =
    let digits = encode_lower (key_bytes c.key) in
    let one = (decimal c.member ++ codes " ") ++ decimal c.port in
    let two = (one ++ codes " ") ++ digits in
    ap (λ (x : List ℕ). codes "took cert " ++ x)
    (judged-behind two f ∙ spaced one digits (32 ∷ judged f) ∙ spaced (decimal c.member) (decimal c.port) (32 ∷ (digits ++ 32 ∷ judged f)))

took-note : (n : NoteBody) (f : Option Fault) → what_text (told.Took (Note n) f) ++ 10 ∷ [] ≡ codes "took note " ++ numbered n.member (numbered n.epoch (numbered n.mask.0 (judged f)))
took-note n f =
    let one = (decimal n.member ++ codes " ") ++ decimal n.epoch in
    let two = (one ++ codes " ") ++ decimal n.mask.0 in
    ap (λ (x : List ℕ). codes "took note " ++ x)
    (judged-behind two f ∙ spaced one (decimal n.mask.0) (32 ∷ judged f) ∙ spaced (decimal n.member) (decimal n.epoch) (32 ∷ numbered n.mask.0 (judged f)))

took-accusation : (a : AccBody) (f : Option Fault)
    → what_text (told.Took (Accusation a) f) ++ 10 ∷ [] ≡ codes "took accuse " ++ numbered a.accuser (numbered a.accused (numbered a.epoch (numbered a.ring.0 (judged f))))
took-accusation a f =
    let one = (decimal a.accuser ++ codes " ") ++ decimal a.accused in
    let two = (one ++ codes " ") ++ decimal a.epoch in
    let three = (two ++ codes " ") ++ decimal a.ring.0 in
    ap (λ (x : List ℕ). codes "took accuse " ++ x)
    (judged-behind three f ∙ spaced two (decimal a.ring.0) (32 ∷ judged f) ∙ spaced one (decimal a.epoch) (32 ∷ numbered a.ring.0 (judged f))
    ∙ spaced (decimal a.accuser) (decimal a.accused) (32 ∷ numbered a.epoch (numbered a.ring.0 (judged f))))

judged-none : (f : Option Fault) → judged f ≡ judged None → f ≡ None
judged-none None e = refl
judged-none (Some fault) e = absurd (omega (arith, ap (λ (x : List ℕ). get_or x 2 0) e))

certificate-accepted : (c d : CertBody) (f : Option Fault) → what_text (told.Took (Certificate c) f) ++ 10 ∷ [] ≡ what_text (told.Took (Certificate d) None) ++ 10 ∷ [] → f ≡ None
certificate-accepted c d f e =
    let all = ap (λ (x : List ℕ). drop 10 x) (sym (took-certificate c f) ∙ e ∙ took-certificate d None) in
    let ports = behind-number c.member d.member _ _ all in
    let digits = behind-number c.port d.port _ _ ports in
    let one = encode_lower (key_bytes c.key) in
    let other = encode_lower (key_bytes d.key) in
    judged-none f (same-fronts 32 one other _ _ (unspaced-hex (key_bytes c.key)) (unspaced-hex (key_bytes d.key)) digits).rests

note-accepted : (m n : NoteBody) (f : Option Fault) → what_text (told.Took (Note m) f) ++ 10 ∷ [] ≡ what_text (told.Took (Note n) None) ++ 10 ∷ [] → f ≡ None
note-accepted m n f e =
    let all = ap (λ (x : List ℕ). drop 10 x) (sym (took-note m f) ∙ e ∙ took-note n None) in
    let epochs = behind-number m.member n.member _ _ all in
    let masks = behind-number m.epoch n.epoch _ _ epochs in
    judged-none f (behind-number m.mask.0 n.mask.0 _ _ masks)

accusation-accepted : (a b : AccBody) (f : Option Fault) → what_text (told.Took (Accusation a) f) ++ 10 ∷ [] ≡ what_text (told.Took (Accusation b) None) ++ 10 ∷ [] → f ≡ None
accusation-accepted a b f e =
    let all = ap (λ (x : List ℕ). drop 12 x) (sym (took-accusation a f) ∙ e ∙ took-accusation b None) in
    let accused = behind-number a.accuser b.accuser _ _ all in
    let epochs = behind-number a.accused b.accused _ _ accused in
    let rings = behind-number a.epoch b.epoch _ _ epochs in
    judged-none f (behind-number a.ring.0 b.ring.0 _ _ rings)

none-faulty : (b body : Body) (f : Option Fault) → what_text (told.Took b f) ++ 10 ∷ [] ≡ what_text (told.Took body None) ++ 10 ∷ [] → f ≡ None
none-faulty (Certificate c) (Certificate d) f e = certificate-accepted c d f e
none-faulty (Note m) (Certificate d) f e = absurd (omega (arith, ap (λ (x : List ℕ). get_or x 5 0) e))
none-faulty (Accusation a) (Certificate d) f e = absurd (omega (arith, ap (λ (x : List ℕ). get_or x 5 0) e))
none-faulty (Certificate c) (Note n) f e = absurd (omega (arith, ap (λ (x : List ℕ). get_or x 5 0) e))
none-faulty (Note m) (Note n) f e = note-accepted m n f e
none-faulty (Accusation a) (Note n) f e = absurd (omega (arith, ap (λ (x : List ℕ). get_or x 5 0) e))
none-faulty (Certificate c) (Accusation b) f e = absurd (omega (arith, ap (λ (x : List ℕ). get_or x 5 0) e))
none-faulty (Note m) (Accusation b) f e = absurd (omega (arith, ap (λ (x : List ℕ). get_or x 5 0) e))
none-faulty (Accusation a) (Accusation b) f e = accusation-accepted a b f e

-- the text of what happened, where it is that of such an acceptance
accepted-word : (w : whats.What) (body : Body) → what_text w ++ 10 ∷ [] ≡ what_text (told.Took body None) ++ 10 ∷ [] → (b : Body) × (w ≡ told.Took b None)
accepted-word (told.Entered k) body e = absurd (omega (arith, ap (λ (x : List ℕ). get_or x 0 0) e))
accepted-word (told.Expired b) body e = absurd (omega (arith, ap (λ (x : List ℕ). get_or x 0 0) e))
accepted-word (told.Removed k) body e = absurd (omega (arith, ap (λ (x : List ℕ). get_or x 0 0) e))
accepted-word (told.Fell b) body e = absurd (omega (arith, ap (λ (x : List ℕ). get_or x 0 0) e))
accepted-word (told.Spent index b) body e = absurd (omega (arith, ap (λ (x : List ℕ). get_or x 0 0) e))
accepted-word (told.Took b fault) body e = (b, ap (λ (f : Option Fault). told.Took b f) (none-faulty b body fault e))
accepted-word (told.BadForm place) body e = absurd (omega (arith, ap (λ (x : List ℕ). get_or x 0 0) e))
accepted-word (told.Ping from nonce) body e = absurd (omega (arith, ap (λ (x : List ℕ). get_or x 0 0) e))
accepted-word (told.Pong from nonce counted) body e = absurd (omega (arith, ap (λ (x : List ℕ). get_or x 0 0) e))
accepted-word (told.Summary from page flag) body e = absurd (omega (arith, ap (λ (x : List ℕ). get_or x 0 0) e))
accepted-word (told.Silent k) body e = absurd (omega (arith, ap (λ (x : List ℕ). get_or x 0 0) e))
accepted-word (told.Exhausted next) body e = absurd (omega (arith, ap (λ (x : List ℕ). get_or x 0 0) e))
accepted-word (told.Sent number to bytes) body e = absurd (omega (arith, ap (λ (x : List ℕ). get_or x 0 0) e))
accepted-word (told.Lost number) body e = absurd (omega (arith, ap (λ (x : List ℕ). get_or x 0 0) e))
accepted-word (told.Got number) body e = absurd (omega (arith, ap (λ (x : List ℕ). get_or x 0 0) e))
accepted-word told.Stopped body e = absurd (omega (arith, ap (λ (x : List ℕ). get_or x 0 0) e))

-- an event whose line gives that a record was accepted is one
pub accepted-event : (e : journal.Event) (moment : ℕ) (body : Body) → line_of e ≡ accepted_line moment body → (b : Body) × (e.what ≡ told.Took b None)
accepted-event e moment body same = accepted-word e.what body (same-what e (record { moment = moment; what = told.Took body None }) same)

-- ## Which line gives an accusation that is signed

-- What an event spends on an accusation.
pub record IsSigned (w : whats.What) : Type 0 where
  pub index : ℕ
  pub accusation : AccBody
  pub is : w ≡ told.Spent index (Accusation accusation)

signed-body : (k : ℕ) (b : Body) (a : AccBody) → body_text b ++ 10 ∷ [] ≡ body_text (Accusation a) ++ 10 ∷ [] → IsSigned (told.Spent k b)
signed-body k (Certificate c) a e = absurd (omega (arith, ap (λ (x : List ℕ). get_or x 0 0) e))
signed-body k (Note n) a e = absurd (omega (arith, ap (λ (x : List ℕ). get_or x 0 0) e))
signed-body k (Accusation b) a e = record { index = k; accusation = b; is = refl }

spent-word : (k index : ℕ) (b : Body) (a : AccBody) → what_text (told.Spent k b) ++ 10 ∷ [] ≡ what_text (told.Spent index (Accusation a)) ++ 10 ∷ [] → IsSigned (told.Spent k b)
spent-word k index b a e =
    let all = ap (λ (x : List ℕ). drop 6 x) e in
    signed-body k b a
    (behind-number k index (body_text b ++ 10 ∷ []) (body_text (Accusation a) ++ 10 ∷ [])
    (sym (spaced (decimal k) (body_text b) (10 ∷ [])) ∙ all ∙ spaced (decimal index) (body_text (Accusation a)) (10 ∷ [])))

signed-word : (w : whats.What) (index : ℕ) (a : AccBody) → what_text w ++ 10 ∷ [] ≡ what_text (told.Spent index (Accusation a)) ++ 10 ∷ [] → IsSigned w
signed-word (told.Entered k) index a e = absurd (omega (arith, ap (λ (x : List ℕ). get_or x 0 0) e))
signed-word (told.Expired b) index a e = absurd (omega (arith, ap (λ (x : List ℕ). get_or x 0 0) e))
signed-word (told.Removed k) index a e = absurd (omega (arith, ap (λ (x : List ℕ). get_or x 0 0) e))
signed-word (told.Fell b) index a e = absurd (omega (arith, ap (λ (x : List ℕ). get_or x 0 0) e))
signed-word (told.Spent k b) index a e = spent-word k index b a e
signed-word (told.Took b fault) index a e = absurd (omega (arith, ap (λ (x : List ℕ). get_or x 0 0) e))
signed-word (told.BadForm place) index a e = absurd (omega (arith, ap (λ (x : List ℕ). get_or x 0 0) e))
signed-word (told.Ping from nonce) index a e = absurd (omega (arith, ap (λ (x : List ℕ). get_or x 0 0) e))
signed-word (told.Pong from nonce counted) index a e = absurd (omega (arith, ap (λ (x : List ℕ). get_or x 0 0) e))
signed-word (told.Summary from page flag) index a e = absurd (omega (arith, ap (λ (x : List ℕ). get_or x 1 0) e))
signed-word (told.Silent k) index a e = absurd (omega (arith, ap (λ (x : List ℕ). get_or x 1 0) e))
signed-word (told.Exhausted next) index a e = absurd (omega (arith, ap (λ (x : List ℕ). get_or x 0 0) e))
signed-word (told.Sent number to bytes) index a e = absurd (omega (arith, ap (λ (x : List ℕ). get_or x 1 0) e))
signed-word (told.Lost number) index a e = absurd (omega (arith, ap (λ (x : List ℕ). get_or x 0 0) e))
signed-word (told.Got number) index a e = absurd (omega (arith, ap (λ (x : List ℕ). get_or x 0 0) e))
signed-word told.Stopped index a e = absurd (omega (arith, ap (λ (x : List ℕ). get_or x 1 0) e))

-- an event whose line gives an accusation that is signed is one
pub signed-event : (e : journal.Event) (moment index : ℕ) (a : AccBody) → line_of e ≡ signed_line moment index a → IsSigned e.what
signed-event e moment index a same = signed-word e.what index a (same-what e (record { moment = moment; what = told.Spent index (Accusation a) }) same)

-- ## Which line gives a datagram

-- What an event says was sent.
pub record IsSent (w : whats.What) : Type 0 where
  pub number : ℕ
  pub to : ℕ
  pub bytes : List ℕ
  pub is : w ≡ told.Sent number to bytes

sent-word : (w : whats.What) (number to : ℕ) (bytes : List ℕ) → what_text w ++ 10 ∷ [] ≡ what_text (told.Sent number to bytes) ++ 10 ∷ [] → IsSent w
sent-word (told.Entered k) number to bytes e = absurd (omega (arith, ap (λ (x : List ℕ). get_or x 0 0) e))
sent-word (told.Expired b) number to bytes e = absurd (omega (arith, ap (λ (x : List ℕ). get_or x 0 0) e))
sent-word (told.Removed k) number to bytes e = absurd (omega (arith, ap (λ (x : List ℕ). get_or x 0 0) e))
sent-word (told.Fell b) number to bytes e = absurd (omega (arith, ap (λ (x : List ℕ). get_or x 0 0) e))
sent-word (told.Spent k b) number to bytes e = absurd (omega (arith, ap (λ (x : List ℕ). get_or x 1 0) e))
sent-word (told.Took b fault) number to bytes e = absurd (omega (arith, ap (λ (x : List ℕ). get_or x 0 0) e))
sent-word (told.BadForm place) number to bytes e = absurd (omega (arith, ap (λ (x : List ℕ). get_or x 0 0) e))
sent-word (told.Ping from nonce) number to bytes e = absurd (omega (arith, ap (λ (x : List ℕ). get_or x 0 0) e))
sent-word (told.Pong from nonce counted) number to bytes e = absurd (omega (arith, ap (λ (x : List ℕ). get_or x 0 0) e))
sent-word (told.Summary from page flag) number to bytes e = absurd (omega (arith, ap (λ (x : List ℕ). get_or x 1 0) e))
sent-word (told.Silent k) number to bytes e = absurd (omega (arith, ap (λ (x : List ℕ). get_or x 1 0) e))
sent-word (told.Exhausted next) number to bytes e = absurd (omega (arith, ap (λ (x : List ℕ). get_or x 0 0) e))
sent-word (told.Sent k m xs) number to bytes e = record { number = k; to = m; bytes = xs; is = refl }
sent-word (told.Lost k) number to bytes e = absurd (omega (arith, ap (λ (x : List ℕ). get_or x 0 0) e))
sent-word (told.Got k) number to bytes e = absurd (omega (arith, ap (λ (x : List ℕ). get_or x 0 0) e))
sent-word told.Stopped number to bytes e = absurd (omega (arith, ap (λ (x : List ℕ). get_or x 1 0) e))

-- an event whose line gives a datagram is one
pub sent-event : (e : journal.Event) (moment number to : ℕ) (bytes : List ℕ) → line_of e ≡ sent_line moment number to bytes → IsSent e.what
sent-event e moment number to bytes same = sent-word e.what number to bytes (same-what e (record { moment = moment; what = told.Sent number to bytes }) same)

-- ## Texts that are whole lines

-- the text is whole lines, of each of which P holds
pub record AreLines (P : List ℕ → Type 0) (text : List ℕ) : Type 0 where
  pub lines : List (List ℕ)
  pub joined : text ≡ concat lines
  pub whole : AllByRecursion IsWholeLine lines
  pub each : AllByRecursion P lines

all-behind : (P : List ℕ → Type 0) (xs ys : List (List ℕ)) → AllByRecursion P xs → AllByRecursion P ys → AllByRecursion P (xs ++ ys)
all-behind P [] ys a b = b
all-behind P (x ∷ xs) ys a b = (a.0, all-behind P xs ys a.1 b)

pub lines-none : (P : List ℕ → Type 0) → AreLines P []
lines-none P = record { lines = []; joined = refl; whole = tt; each = tt }

pub lines-one : (P : List ℕ → Type 0) (line : List ℕ) → IsWholeLine line → P line → AreLines P line
lines-one P line whole h = record { lines = line ∷ []; joined = sym (append-nil line); whole = (whole, tt); each = (h, tt) }

pub lines-behind : (P : List ℕ → Type 0) (a b : List ℕ) → AreLines P a → AreLines P b → AreLines P (a ++ b)
lines-behind P a b x y = record {
  lines = x.lines ++ y.lines;
  joined = ap (λ (t : List ℕ). t ++ b) x.joined ∙ ap (λ (t : List ℕ). concat x.lines ++ t) y.joined ∙ sym (concat-append x.lines y.lines);
  whole = all-behind IsWholeLine x.lines y.lines x.whole y.whole;
  each = all-behind P x.lines y.lines x.each y.each;
}

all-weaker : (P Q : List ℕ → Type 0) (xs : List (List ℕ)) → ((line : List ℕ) → P line → Q line) → AllByRecursion P xs → AllByRecursion Q xs
all-weaker P Q [] f h = tt
all-weaker P Q (x ∷ xs) f h = (f x h.0, all-weaker P Q xs f h.1)

pub lines-weaker : (P Q : List ℕ → Type 0) (text : List ℕ) → ((line : List ℕ) → P line → Q line) → AreLines P text → AreLines Q text
lines-weaker P Q text f h = record { lines = h.lines; joined = h.joined; whole = h.whole; each = all-weaker P Q h.lines f h.each }

-- P holds of each whole line of a front
pub in-front : (P : List ℕ → Type 0) (whole written rest line : List ℕ) → AreLines P whole → whole ≡ written ++ rest → IsLineOf line written → P line
in-front P whole written rest line h same of = All-at P h.lines line h.each (line-among h.lines line written rest h.whole (sym h.joined ∙ same) of)

-- the same, where what stands behind the lines begins otherwise
pub in-tail : (P : List ℕ → Type 0) (text last line : List ℕ) → AreLines P text → IsTail last → (get_or last 0 0 ≡ get_or line 0 0 → ⊥) → IsLineOf line (text ++ last) → P line
in-tail P text last line h tail other of =
    elim (among-tail h.lines of.earlier line of.after last h.whole of.whole of.here tail (ap (λ (t : List ℕ). t ++ last) (sym h.joined) ∙ of.parts)) [
      | inl i ↦ All-at P h.lines line h.each i
      | inr begins ↦ absurd (other begins)
    ]
