-- Without the option nothing is news in a life, and no removal is held, so that the rules are the plain ones.
use Rattle.std.proofs.Common.{◌≡◌, ℕ, Bool, true, false, cond, eqb, List, [], ◌∷◌, ◌++◌, Option, Some, None, refl, ap, ◌∙◌}
use Rattle.std.specs.Prelude.{◌&&◌, is_some, filter_map, fold}
use Rattle.std.specs.List.{cons_option}
use Rattle.std.specs.Ordering.{eq_by_cmp}
use Rattle.std.proofs.lemmas.Bool.{cond_both}
use Rattle.std.proofs.lemmas.List.Elements.{filter_map-append}
use Rattle.ff_ids.specs.declared.NoteBody.{NoteBody}
use Rattle.ff_ids.specs.declared.Fault.{Fault}
use Rattle.ff_ids.specs.declared.summary.RecordKey.{RecordKey}
use Rattle.ff_ids.specs.declared.summary.RecordKey.TheVariants as keys
use Rattle.ff_ids.specs.declared.summary.Summary.{Summary}
use Rattle.ff_ids.specs.Masks.{ring_count, enables}
use Rattle.ff_ids.specs.Steps.{Event, Ticks, Report, step}
use Rattle.records.specs.declared.Body.{Body}
use Rattle.records.specs.declared.Body.TheVariants.{Certificate, Note, Accusation}
use Rattle.records.specs.declared.Record.{Record}
use Rattle.record_set.specs.Held.{key_cmp}
use Rattle.epoch_store.specs.declared.Stored.{Stored}
use Rattle.gossip.specs.Differ.{differ}
use Rattle.gossip.specs.Partners as gossip
use Rattle.datagram.specs.declared.Datagram.{Datagram}
use Rattle.node_rules.specs.Nodes.{Setting, Node, Holding, state_of, event_of, certified, with_record, without_removal, with_news, retires}
use Rattle.node_rules.specs.Pages.{page, partner, page_number, highest, room, fitting, lacking}
use Rattle.node_rules.specs.Calls.{Call, begun, lives, takes, spends, signs, sends, own_record}
use Rattle.node_rules.specs.Deliveries.{answering_note, answer_to, returning_note, may_rise, is_of_place, verifies_for, is_told, asked_of, asked_with}
use Rattle.node_rules.specs.Ticking.{fresh}
use Rattle.node_rules.specs.Leaving.{leaving}
use Rattle.node_rules.specs.Starting.{blank, opened, started, first_note}
use Rattle.node_rules.specs.Lives.{Input, call_of, after_calls}
use Rattle.node_rules.specs.Plain.{answer_asked, LivesArePlain}
use Rattle.node_rules.proofs.Keeping.{Keeps, keeps-call}
use Rattle.node_rules.proofs.Retiring.{ended-removal}

-- ---- what each step keeps

-- Nothing is news, and no removal is held.
record Bare (n : Node) : Type 0 where
  news : n.news ≡ []
  removals : (m : ℕ) → n.held (keys.Removal m) ≡ None

bare-lives : (s : Setting) (e : Event) (c : Call) → s.heal ≡ None → Bare c.node → Bare (lives s e c).node
unfolding lives
bare-lives s e c none h =
    let r : Report = (step s.group (state_of s c.node) e).report in
    record {
      news = h.news;
      removals = λ m. ended-removal (r.expired ++ r.fell) (retires s.heal r c.node.held) m ∙ ap (λ heal. retires heal r c.node.held (keys.Removal m)) none ∙ h.removals m;
    }

-- no record has the key of a removal
held-removal : (r : Record) (b : Body) (held : Holding) (m : ℕ) → r.body ≡ b → held (keys.Removal m) ≡ None → with_record r (without_removal b held) (keys.Removal m) ≡ None
held-removal r (Certificate x) held m is none = rw is none
held-removal r (Note x) held m is none =
    rw is (cond_both (eq_by_cmp key_cmp (keys.Removal m) (keys.Removal x.member)) None (held (keys.Removal m)) (λ o. o ≡ None) (λ yes. refl) (λ no. none))
held-removal r (Accusation a) held m is none = rw is none

bare-takes : (s : Setting) (r : Record) (c : Call) → s.heal ≡ None → Bare c.node → Bare (takes s r c).node
unfolding takes
bare-takes s r c none h =
    let c1 : Call = lives s (event_of s r.body) c in
    let h1 : Bare c1.node = bare-lives s (event_of s r.body) c none h in
    record {
      news = ap (λ heal. with_news heal r.body c1.node.news) none ∙ h1.news;
      removals = λ m. held-removal r r.body c1.node.held m refl (h1.removals m);
    }

bare-signs : (s : Setting) (b : Body) (c : Call) → s.heal ≡ None → Bare c.node → Bare (signs s b c).node
unfolding signs
bare-signs s b c none h = bare-takes s (own_record s c.node b) (spends s b c) none (record { news = h.news; removals = h.removals })

bare-sends : (s : Setting) (d : Datagram) (c : Call) (to : ℕ) → Bare c.node → Bare (sends s d c to).node
unfolding sends
bare-sends s d c to h = h

keeping-bare : (s : Setting) → s.heal ≡ None → Keeps s (λ c. Bare c.node)
keeping-bare s none =
    record {
      told = λ what c other h. h;
      sent = λ d c to h. bare-sends s d c to h;
      taken = λ r c fine h. bare-takes s r c none h;
      answered = λ r a c fine is me may left h. bare-signs s (answer_to s (takes s r c).node.stored a) (takes s r c) none (bare-takes s r c none h);
      returned = λ r a c back may left h. bare-signs s (Note (returning_note s c.node.stored)) c none h;
      accused = λ a c by left h. bare-signs s (Accusation a) c none h;
      departed = λ c left h. bare-signs s (leaving s c.node.stored) c none h;
      stopped = λ c h. h;
      passed = λ c h. bare-lives s Ticks c none h;
      probed = λ p c h. record { news = h.news; removals = h.removals };
      spanned = λ c h. record { news = h.news; removals = h.removals };
      spread = λ c h. record { news = refl; removals = h.removals };
    }

-- ---- lives

bare-calls : (s : Setting) (n : Node) (inputs : List Input) → s.heal ≡ None → Bare n → Bare (after_calls s n inputs)
bare-calls s n [] none h = h
bare-calls s n (i ∷ inputs) none h = bare-calls s (call_of s n i).node inputs none (keeps-call s (λ c. Bare c.node) (keeping-bare s none) n i h)

bare-opened : (s : Setting) (records : List Record) (c : Call) → s.heal ≡ None → Bare c.node → Bare (fold (λ c r. takes s r c) c records).node
bare-opened s [] c none h = h
bare-opened s (r ∷ records) c none h = bare-opened s records (takes s r c) none (bare-takes s r c none h)

bare-started : (s : Setting) (nonces : ℕ → ℕ) (certificates : List Record) (stored : Stored) → s.heal ≡ None → Bare (started s nonces certificates stored).node
unfolding started
bare-started s nonces certificates stored none =
    bare-signs s (first_note s stored) (opened s nonces certificates stored) none
    (bare-opened s certificates (begun (blank s nonces stored)) none (record { news = refl; removals = λ m. refl }))

-- ---- the rules

none-fresh : (n : Node) → n.news ≡ [] → fresh n ≡ []
unfolding fresh
none-fresh n none = ap (λ news. fitting room (filter_map n.held news)) none

and-true : (x y : Bool) → y ≡ true → (x && y) ≡ x
and-true true y h = h
and-true false y h = refl

either-none : (b : Bool) (o : Option NoteBody) → o ≡ None → cond b o None ≡ None
either-none true o h = h
either-none false o h = refl

asked-plain : (s : Setting) (n : Node) (fault : Option Fault) (b : Body) (r : Record) → s.heal ≡ None → asked_with s n fault b r ≡ answer_asked s n fault b
asked-plain s n None (Certificate x) r none = refl
asked-plain s n None (Note x) r none = refl
asked-plain s n None (Accusation a) r none =
    ap (λ b. cond b (Some (answering_note s n.stored a)) None) (and-true (eqb a.accused s.me) (may_rise s.heal n) (ap (λ heal. may_rise heal n) none))
asked-plain s n (Some f) (Certificate x) r none = refl
asked-plain s n (Some f) (Note x) r none = refl
asked-plain s n (Some f) (Accusation a) r none =
    let untold : is_told s n f a r ≡ false = ap (λ heal. is_some heal && is_of_place f && enables n.stored.mask.0 a.ring.0 && verifies_for s n a.accuser r) none in
    either-none (eqb a.accused s.me && may_rise s.heal n) (asked_of s n (Some f) a r) (ap (λ b. cond b (Some (returning_note s n.stored)) None) untold)

partner-plain : (s : Setting) (n : Node) (round : ℕ) → s.heal ≡ None → partner s n round ≡ gossip.partner s.group.t (state_of s n) (certified n) s.me round
unfolding partner
partner-plain s n round none = ap (λ heal. gossip.partner_with heal s.group.t (state_of s n) (certified n) s.me round) none

page-plain : (s : Setting) (n : Node) (round : ℕ) → s.heal ≡ None → page_number s n round ≡ gossip.page_of round (ring_count s.group.t) (highest n)
unfolding page_number
page-plain s n round none = ap (λ heal. gossip.page_with heal (state_of s n) (certified n) s.me round (ring_count s.group.t) (highest n)) none

nil-right : {A : Type 0} (xs : List A) → xs ++ [] ≡ xs
nil-right [] = refl
nil-right (x ∷ xs) = ap (λ ys. x ∷ ys) (nil-right xs)

lacking-plain : (n : Node) (from : ℕ) (theirs : Summary) → n.held (keys.Removal from) ≡ None → lacking n from theirs ≡ fitting room (filter_map n.held (differ (page n theirs.page).listed theirs.listed))
unfolding lacking
lacking-plain n from theirs none =
    let all : List RecordKey = differ (page n theirs.page).listed theirs.listed in
    ap (fitting room)
    (filter_map-append n.held all (keys.Removal from ∷ []) ∙ ap (λ o. filter_map n.held all ++ cons_option o []) none ∙ nil-right (filter_map n.held all))

pub lives-plain : LivesArePlain
lives-plain s nonces certificates stored inputs none =
    let n : Node = after_calls s (started s nonces certificates stored).node inputs in
    let h : Bare n = bare-calls s (started s nonces certificates stored).node inputs none (bare-started s nonces certificates stored none) in
    record {
      no_news = h.news;
      none_fresh = none-fresh n h.news;
      no_removals = h.removals;
      asked = λ fault b r. asked-plain s n fault b r none;
      partner_so = λ round. partner-plain s n round none;
      page_so = λ round. page-plain s n round none;
      lacking_so = λ from theirs. lacking-plain n from theirs (h.removals from);
    }
