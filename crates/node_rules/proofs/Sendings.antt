-- What is reported as sent is what is sent, and what goes out where no records are delivered.
use Rattle.std.proofs.Common.{◌≡◌, ℕ, ◌+◌, Bool, true, false, cond, List, [], ◌∷◌, ◌++◌, length, filter, map, refl, ap, sym, ◌∙◌, arith}
use Rattle.std.specs.Prelude.{Ok}
use Rattle.std.proofs.lemmas.Bool.{false≢true}
use Rattle.std.proofs.lemmas.List.Elements.{filter-append}
use Rattle.ff_ids.specs.declared.summary.Summary.{Summary}
use Rattle.ff_ids.specs.Steps.{Event, Ticks}
use Rattle.records.specs.declared.Body.{Body}
use Rattle.records.specs.declared.Body.TheVariants.{Note, Accusation}
use Rattle.records.specs.declared.Record.{Record}
use Rattle.datagram.specs.declared.Datagram.{Datagram}
use Rattle.datagram.specs.declared.Datagram.TheVariants as kinds
use Rattle.datagram.specs.Spelling.{datagram_bytes}
use Rattle.datagram.specs.Grammar.{read_of}
use Rattle.detector.specs.Silence.{counts, ponged}
use Rattle.journal.specs.declared.event.Event as journal
use Rattle.journal.specs.declared.event.What as whats
use Rattle.journal.specs.declared.event.What.TheVariants as told
use Rattle.node_rules.specs.Nodes.{Setting, Node, state_of, event_of}
use Rattle.node_rules.specs.Pages.{page, lacking}
use Rattle.node_rules.specs.Calls.{Call, begun, tells, lives, takes, spends, signs, sends, own_record}
use Rattle.node_rules.specs.Deliveries.{answer_to, returning_note, is_other, gives, replies, delivered}
use Rattle.node_rules.specs.Leaving.{leaving}
use Rattle.node_rules.specs.Lives.{is_of_life, Input, call_of}
use Rattle.node_rules.specs.Verdicts.{all_at, told_that, is_apart}
use Rattle.node_rules.specs.Sending.{is_sent, sendings, TellsSendings, SentIsTold, Brings, given, reply}
use Rattle.node_rules.proofs.Called.{delivered_until, holds-called, ticked_until, left_until}
use Rattle.node_rules.proofs.Small.{node-sends}
use Rattle.node_rules.proofs.Handling.{nil-right, that-tells, unlived, map-append, apart-over, that-sends}
use Rattle.node_rules.proofs.Carrying.{Carries, beside-apart, carries-call, carries-delivered_until, carries-ticked_until, carries-left_until}

-- ---- what is reported as sent

what_of : journal.Event → whats.What
what_of e = e.what

-- so far, and with more reported
sent-more : (c : Call) (more : List journal.Event) → filter (λ (e : journal.Event). is_sent e.what) more ≡ [] → TellsSendings c → map (λ (e : journal.Event). e.what) (filter (λ (e : journal.Event). is_sent e.what) (c.told ++ more)) ≡ sendings 0 c.sent
sent-more c more none h =
    ap (map (λ (e : journal.Event). e.what)) (filter-append (λ (e : journal.Event). is_sent e.what) c.told more ∙ ap (λ xs. told_that is_sent c ++ xs) none ∙ nil-right (told_that is_sent c)) ∙ h

unsent : (what : whats.What) → is_apart what ≡ true → is_sent what ≡ false
unsent (told.Sent place to bytes) h = absurd (false≢true h)
unsent other h = refl

unsent-life : (what : whats.What) → is_of_life what ≡ true → is_sent what ≡ false
unsent-life (told.Sent place to bytes) h = absurd (false≢true h)
unsent-life other h = refl

passed_over : (moment : ℕ) (what : whats.What) → is_sent what ≡ false → filter (λ (e : journal.Event). is_sent e.what) (record { moment = moment; what = what } ∷ []) ≡ []
passed_over moment what h = cc

sendings-tells : (s : Setting) (what : whats.What) (c : Call) → is_apart what ≡ true → TellsSendings c → TellsSendings (tells s what c)
sendings-tells s what c apart h = sent-more c (record { moment = (state_of s c.node).moment; what = what } ∷ []) (passed_over (state_of s c.node).moment what (unsent what apart)) h

sendings-lives : (s : Setting) (e : Event) (c : Call) → TellsSendings c → TellsSendings (lives s e c)
unfolding lives
sendings-lives s e c h = sent-more c _ (unlived is_sent s e c unsent-life) h

sendings-takes : (s : Setting) (r : Record) (c : Call) → TellsSendings c → TellsSendings (takes s r c)
unfolding takes
sendings-takes s r c h = sendings-lives s (event_of s r.body) c h

sendings-signs : (s : Setting) (body : Body) (c : Call) → TellsSendings c → TellsSendings (signs s body c)
unfolding signs
sendings-signs s body c h = sendings-takes s (own_record s c.node body) (spends s body c) (sendings-tells s (told.Spent c.node.stored.next body) c refl h)

sendings-push : (place : ℕ) (sent : List (ℕ × List ℕ)) (d : ℕ × List ℕ) → sendings place (sent ++ d ∷ []) ≡ sendings place sent ++ told.Sent (place + length sent) d.0 d.1 ∷ []
sendings-push place [] d = ap (λ k. told.Sent k d.0 d.1 ∷ []) (let e : place ≡ place + 0 = omega arith in e)
sendings-push place (x ∷ sent) d =
    let e : place + 1 + length sent ≡ place + length (x ∷ sent) = omega arith in
    ap (λ xs. told.Sent place x.0 x.1 ∷ xs) (sendings-push (place + 1) sent d ∙ ap (λ k. sendings (place + 1) sent ++ told.Sent k d.0 d.1 ∷ []) e)

sendings-sends : (s : Setting) (d : Datagram) (c : Call) (to : ℕ) → TellsSendings c → TellsSendings (sends s d c to)
unfolding sends
sendings-sends s d c to h =
    let what : whats.What = told.Sent (length c.sent) to (datagram_bytes d) in
    let first : 0 + length c.sent ≡ length c.sent = omega arith in
    ap (map (λ (e : journal.Event). e.what)) (that-tells is_sent s what c)
    ∙ map-append (λ (e : journal.Event). e.what) (told_that is_sent c) (record { moment = (state_of s c.node).moment; what = what } ∷ [])
    ∙ ap (λ xs. xs ++ what ∷ []) h
    ∙ ap (λ k. sendings 0 c.sent ++ told.Sent k to (datagram_bytes d) ∷ []) (sym first)
    ∙ sym (sendings-push 0 c.sent (to, datagram_bytes d))

sending : (s : Setting) → Carries s TellsSendings
sending s =
    record {
      told = λ what c beside h. sendings-tells s what c (beside-apart what beside) h;
      sent = sendings-sends s;
      taken = λ r c fine h. sendings-takes s r c h;
      answered = λ r a c fine is me may left h. sendings-signs s (answer_to s (takes s r c).node.stored a) (takes s r c) (sendings-takes s r c h);
      returned = λ r a c back may left h. sendings-signs s (Note (returning_note s c.node.stored)) c h;
      accused = λ a c by left h. sendings-signs s (Accusation a) c h;
      departed = λ c left h. sendings-signs s (leaving s c.node.stored) c h;
      stopped = λ c h. sendings-tells s told.Stopped c refl h;
      passed = λ c h. sendings-lives s Ticks c h;
      probed = λ p c h. h;
      spanned = λ c h. h;
      spread = λ c h. h;
    }

pub call-sendings : (s : Setting) (n : Node) (i : Input) → TellsSendings (call_of s n i)
call-sendings s n i = carries-call s TellsSendings (sending s) n i refl

pub delivered_until-sendings : (s : Setting) (n : Node) (records : List Record) (r : Record) → TellsSendings (delivered_until s n records r)
delivered_until-sendings s n records r = carries-delivered_until s TellsSendings (sending s) n records r refl

pub ticked_until-sendings : (s : Setting) (n : Node) (silent : List ℕ) (m : ℕ) → TellsSendings (ticked_until s n silent m)
ticked_until-sendings s n silent m = carries-ticked_until s TellsSendings (sending s) n silent m refl

pub left_until-sendings : (s : Setting) (n : Node) → TellsSendings (left_until s n)
left_until-sendings s n = carries-left_until s TellsSendings (sending s) n refl

pub called-sendings : SentIsTold
called-sendings s n = holds-called s n (λ i call. TellsSendings call) (call-sendings s n) (λ bytes. delivered_until-sendings s n) (ticked_until-sendings s n) (left_until-sendings s n)

-- ---- pings, pongs and summaries

-- one event is reported, and nothing is sent
abbrev told_one : Setting → Node → whats.What → Call
told_one s n what = tells s what (begun n)

brings-one : (s : Setting) (n : Node) (what : whats.What) → is_apart what ≡ true → Brings s n what [] n (told_one s n what)
brings-one s n what apart = record { told = kept (state_of s n).moment what apart; sent_so = refl; node_so = refl }
  where
    kept : (moment : ℕ) (w : whats.What) → is_apart w ≡ true → filter (λ (e : journal.Event). is_apart e.what) (record { moment = moment; what = w } ∷ []) ≡ all_at moment (w ∷ [])
    kept moment w h = cc

sent-sends : (s : Setting) (d : Datagram) (c : Call) (to : ℕ) → (sends s d c to).sent ≡ c.sent ++ (to, datagram_bytes d) ∷ []
unfolding sends
sent-sends s d c to = refl

brings-more : (s : Setting) (n : Node) (what : whats.What) (sent : List (ℕ × List ℕ)) (d : Datagram) (to : ℕ) (c : Call) → Brings s n what sent n c → Brings s n what (sent ++ (to, datagram_bytes d) ∷ []) n (sends s d c to)
brings-more s n what sent d to c b =
    record {
      told = that-sends is_apart s d c to apart-over ∙ b.told;
      sent_so = sent-sends s d c to ∙ ap (λ xs. xs ++ (to, datagram_bytes d) ∷ []) b.sent_so;
      node_so = node-sends s d c to ∙ b.node_so;
    }

pub ping-brings : (s : Setting) (n : Node) (bytes : List ℕ) (from nonce : ℕ) → read_of bytes ≡ Ok (kinds.Ping from nonce)
    → Brings s n (told.Ping from nonce) (cond (is_other s n from) ((from, datagram_bytes (kinds.Pong s.me nonce)) ∷ []) []) n (delivered s n bytes)
unfolding delivered
ping-brings s n bytes from nonce h =
    let what : whats.What = told.Ping from nonce in
    let c1 : Call = told_one s n what in
    let b : Brings s n what [] n c1 = brings-one s n what refl in
    rw h (by_case (is_other s n from) (sends s (kinds.Pong s.me nonce) c1 from) c1 what ((from, datagram_bytes (kinds.Pong s.me nonce)) ∷ []) (brings-more s n what [] (kinds.Pong s.me nonce) from c1 b) b)
  where
    by_case : (t : Bool) (x y : Call) (what : whats.What) (sent : List (ℕ × List ℕ)) → Brings s n what sent n x → Brings s n what [] n y → Brings s n what (cond t sent []) n (cond t x y)
    by_case true x y what sent hx hy = hx
    by_case false x y what sent hx hy = hy

pub pong-brings : (s : Setting) (n : Node) (bytes : List ℕ) (from nonce : ℕ) → read_of bytes ≡ Ok (kinds.Pong from nonce)
    → Brings s n (told.Pong from nonce (counts n.probes from nonce)) [] (record n { probes = ponged n.probes from nonce }) (delivered s n bytes)
unfolding delivered
pong-brings s n bytes from nonce h = rw h (record { told = refl; sent_so = refl; node_so = refl })

brings-given : (s : Setting) (n : Node) (what : whats.What) (to : ℕ) (records : List Record) (c : Call) → Brings s n what [] n c → Brings s n what (given s to records) n (gives s to records c)
brings-given s n what to [] c b = b
brings-given s n what to (r ∷ records) c b = brings-more s n what [] (kinds.Records s.me (r ∷ records)) to c b

brings-reply : (s : Setting) (n : Node) (what : whats.What) (sent : List (ℕ × List ℕ)) (to : ℕ) (flag : Bool) (number : ℕ) (c : Call) → Brings s n what sent n c → Brings s n what (sent ++ reply s n to flag number) n (replies s to flag number c)
brings-reply s n what sent to true number c b = record { told = b.told; sent_so = b.sent_so ∙ sym (nil-right sent); node_so = b.node_so }
brings-reply s n what sent to false number c b =
    let more = brings-more s n what sent (kinds.Summary s.me true (page c.node number)) to c b in
    record { told = more.told; sent_so = more.sent_so ∙ ap (λ x. sent ++ (to, datagram_bytes (kinds.Summary s.me true (page x number))) ∷ []) b.node_so; node_so = more.node_so }

pub summary-brings : (s : Setting) (n : Node) (bytes : List ℕ) (from : ℕ) (flag : Bool) (theirs : Summary) → read_of bytes ≡ Ok (kinds.Summary from flag theirs)
    → Brings s n (told.Summary from theirs.page flag) (cond (is_other s n from) (given s from (lacking n from theirs) ++ reply s n from flag theirs.page) []) n (delivered s n bytes)
unfolding delivered
summary-brings s n bytes from flag theirs h =
    let what : whats.What = told.Summary from theirs.page flag in
    let c1 : Call = told_one s n what in
    let b : Brings s n what [] n c1 = brings-one s n what refl in
    let out : List (ℕ × List ℕ) = given s from (lacking n from theirs) ++ reply s n from flag theirs.page in
    let c2 : Call = replies s from flag theirs.page (gives s from (lacking n from theirs) c1) in
    rw h (by_case (is_other s n from) c2 c1 what out (brings-reply s n what (given s from (lacking n from theirs)) from flag theirs.page (gives s from (lacking n from theirs) c1) (brings-given s n what from (lacking n from theirs) c1 b)) b)
  where
    by_case : (t : Bool) (x y : Call) (what : whats.What) (sent : List (ℕ × List ℕ)) → Brings s n what sent n x → Brings s n what [] n y → Brings s n what (cond t sent []) n (cond t x y)
    by_case true x y what sent hx hy = hx
    by_case false x y what sent hx hy = hy
