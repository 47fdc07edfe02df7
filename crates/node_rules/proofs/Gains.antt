-- What a call adds to the life of its node, and what becomes of the probes.
use Rattle.std.proofs.Common.{◌≡◌, ℕ, ◌+◌, Bool, true, false, cond, eqb, List, [], ◌∷◌, ◌++◌, Option, Some, None, inl, inr, refl, ap, sym, ◌∙◌}
use Rattle.std.specs.Prelude.{Ok}
use Rattle.std.proofs.lemmas.Bool.{cond_both, cases_Bool}
use Rattle.std.proofs.lemmas.List.{append_assoc}
use Rattle.ff_ids.specs.declared.NoteBody.{NoteBody}
use Rattle.ff_ids.specs.declared.Fault.{Fault}
use Rattle.ff_ids.specs.Views.{State}
use Rattle.ff_ids.specs.Steps.{Event, Notes, Ticks}
use Rattle.records.specs.declared.Body.{Body}
use Rattle.records.specs.declared.Body.TheVariants.{Note, Accusation}
use Rattle.records.specs.declared.Record.{Record}
use Rattle.epoch_store.specs.declared.Stored.{Stored}
use Rattle.datagram.specs.declared.Datagram.TheVariants as kinds
use Rattle.datagram.specs.Grammar.{read_of}
use Rattle.detector.specs.Silence.{History, ticked as probed}
use Rattle.journal.specs.declared.event.What.TheVariants as told
use Rattle.node_rules.specs.Nodes.{Setting, Node, state_of, event_of, neighbours, neighbours_and}
use Rattle.node_rules.specs.Pages.{partner}
use Rattle.node_rules.specs.Refusals.{refusal}
use Rattle.node_rules.specs.Calls.{Call, begun, tells, lives, takes, signs, wants, sends, is_used_up}
use Rattle.node_rules.specs.Deliveries.{asked_with, gives_note, settles, judged, handles, handles_all, delivered}
use Rattle.node_rules.specs.Ticking.{has_accused, accuses, accuses_all, spreads, is_due, watched_by, silent_in, pings_in, round_of, pings_all, passed, probed_at, spread_at, due_tick, ticked}
use Rattle.node_rules.specs.Verdicts.{when_handled}
use Rattle.node_rules.specs.Answering.{asked_by}
use Rattle.node_rules.specs.Outgoing.{at_tick, unaccused, to_accuse, accusation_of}
use Rattle.node_rules.specs.Gaining.{ComesTo, accepted_event, answer_event, gained, accusation_events}
use Rattle.node_rules.proofs.Small.{node-sends, node-spreads, stored-settles}
use Rattle.node_rules.proofs.Handling.{nil-right, node-wants, node-handles}
use Rattle.node_rules.proofs.Ticks.{Stands, Wants, wants-it, stands-on, stands-accused, accused-already, one-stored, next_index, kept_front, dropped_front, silent-never, starts, stored-spread, summary-node}

-- ---- records

lived-takes : (s : Setting) (r : Record) (c : Call) → ComesTo (c.node.lived ++ event_of s r.body ∷ []) c.node.probes (takes s r c)
unfolding takes lives
lived-takes s r c = record { lived_so = refl; probes_so = refl }

lived-signs : (s : Setting) (body : Body) (c : Call) → ComesTo (c.node.lived ++ event_of s body ∷ []) c.node.probes (signs s body c)
unfolding signs takes lives
lived-signs s body c = record { lived_so = refl; probes_so = refl }

pub lived-wants : (s : Setting) (body : Body) (addressees : State → List ℕ) (c : Call) → ComesTo (c.node.lived ++ cond (eqb c.node.stored.next s.indexes) [] (event_of s body ∷ [])) c.node.probes (wants true s body addressees c)
lived-wants s body addressees c =
    let signed = lived-signs s body c in
    let node = node-wants true s body addressees c in
    record {
      lived_so = ap (λ (n : Node). n.lived) node ∙ by_case (eqb c.node.stored.next s.indexes) c.node (signs s body c).node (event_of s body) signed.lived_so;
      probes_so = ap (λ (n : Node). n.probes) node ∙ cond_both (is_used_up s c.node) c.node (signs s body c).node (λ n. n.probes ≡ c.node.probes) (λ up. refl) (λ left. signed.probes_so);
    }
  where
    by_case : (b : Bool) (x y : Node) (e : Event) → y.lived ≡ x.lived ++ e ∷ [] → (cond b x y).lived ≡ x.lived ++ cond b [] (e ∷ [])
    by_case true x y e h = sym (nil-right x.lived)
    by_case false x y e h = h

-- by what the store keeps
abbrev event_by : Setting → Stored → Option NoteBody → List Event
event_by s kept None = []
event_by s kept (Some note) = cond (eqb kept.next s.indexes) [] (Notes note ∷ [])

lived-gives_note : (s : Setting) (note : Option NoteBody) (c : Call) → ComesTo (c.node.lived ++ event_by s c.node.stored note) c.node.probes (gives_note true s note c)
lived-gives_note s None c = record { lived_so = sym (nil-right c.node.lived); probes_so = refl }
lived-gives_note s (Some note) c = lived-wants s (Note note) (neighbours s) c

lived-settles : (s : Setting) (f : Option Fault) (r : Record) (c : Call) → ComesTo (c.node.lived ++ accepted_event s f r.body) c.node.probes (settles s f r c)
lived-settles s (Some f) r c = record { lived_so = sym (nil-right c.node.lived); probes_so = refl }
lived-settles s None r c = let t = lived-takes s r (tells s (told.Took r.body None) c) in record { lived_so = t.lived_so; probes_so = t.probes_so }

lived-judged : (s : Setting) (f : Option Fault) (r : Record) (c : Call)
    → ComesTo (c.node.lived ++ accepted_event s f r.body ++ event_by s c.node.stored (asked_with s c.node f r.body r)) c.node.probes (judged true s f r c)
lived-judged s f r c =
    let note : Option NoteBody = asked_with s c.node f r.body r in
    let c1 : Call = settles s f r c in
    let t = lived-settles s f r c in
    let a = lived-gives_note s note c1 in
    record {
      lived_so = a.lived_so ∙ ap (λ xs. xs ++ event_by s c1.node.stored note) t.lived_so ∙ ap (λ k. (c.node.lived ++ accepted_event s f r.body) ++ event_by s k note) (stored-settles s f r c);
      probes_so = a.probes_so ∙ t.probes_so;
    }

event-is : (s : Setting) (n : Node) (o : Option NoteBody) → event_by s n.stored o ≡ answer_event s n o
event-is s n None = refl
event-is s n (Some note) = refl

lived-handles : (s : Setting) (c : Call) (r : Record) → ComesTo (c.node.lived ++ accepted_event s (refusal s c.node r) r.body ++ answer_event s c.node (asked_by s c.node r)) c.node.probes (handles true s c r)
unfolding handles
lived-handles s c r =
    let j = lived-judged s (refusal s c.node r) r c in
    record { lived_so = j.lived_so ∙ ap (λ xs. (c.node.lived ++ accepted_event s (refusal s c.node r) r.body) ++ xs) (event-is s c.node (asked_by s c.node r)); probes_so = j.probes_so }

lived-all : (s : Setting) (records : List Record) (c : Call) → ComesTo (c.node.lived ++ gained s c.node records) c.node.probes (handles_all s records c)
lived-all s [] c = record { lived_so = sym (nil-right c.node.lived); probes_so = refl }
lived-all s (r ∷ records) c =
    let c1 : Call = handles true s c r in
    let first = lived-handles s c r in
    let rest = lived-all s records c1 in
    let one : List Event = accepted_event s (refusal s c.node r) r.body in
    let two : List Event = answer_event s c.node (asked_by s c.node r) in
    let last : List Event = gained s (when_handled s c.node r) records in
    record {
      lived_so = rest.lived_so ∙ ap (λ xs. xs ++ gained s c1.node records) first.lived_so ∙ ap (λ n. ((c.node.lived ++ one) ++ two) ++ gained s n records) (node-handles true s c r)
          ∙ append_assoc (c.node.lived ++ one) two last ∙ append_assoc c.node.lived one (two ++ last) ∙ ap (λ xs. c.node.lived ++ xs) (sym (append_assoc one two last));
      probes_so = rest.probes_so ∙ first.probes_so;
    }

pub lived-delivered : (s : Setting) (n : Node) (bytes : List ℕ) (from : ℕ) (records : List Record) → read_of bytes ≡ Ok (kinds.Records from records) → ComesTo (n.lived ++ gained s n records) n.probes (delivered s n bytes)
unfolding delivered
lived-delivered s n bytes from records h = rw h (lived-all s records (begun n))

-- ---- ticks

abbrev one_event : Setting → State → ℕ → ℕ → List Event
one_event s st index m = cond (eqb index s.indexes) [] (event_of s (accusation_of s st m) ∷ [])

events-more : (s : Setting) (st : State) (index m : ℕ) (ms : List ℕ) → accusation_events s st index (m ∷ ms) ≡ one_event s st index m ++ accusation_events s st (next_index s index) ms
events-more s st index m ms =
    elim (cases_Bool (eqb index s.indexes)) [
      | inl up ↦ rw up (sym (none_left ms up))
      | inr left ↦ rw left refl
    ]
  where
    none_left : (xs : List ℕ) → eqb index s.indexes ≡ true → accusation_events s st index xs ≡ []
    none_left [] up = refl
    none_left (x ∷ xs) up = rw up refl

one-lived : (s : Setting) (st : State) (c : Call) (m : ℕ) → Wants s st c m → ComesTo (c.node.lived ++ one_event s st c.node.stored.next m) c.node.probes (accuses true s c m)
one-lived s st c m w =
    let c1 : Call = tells s (told.Silent m) c in
    let it = lived-wants s (Accusation w.accusation) (neighbours_and s m) c1 in
    record {
      lived_so = ap (λ (x : Call). x.node.lived) w.call ∙ it.lived_so ∙ ap (λ b. c.node.lived ++ cond (eqb c.node.stored.next s.indexes) [] (event_of s b ∷ [])) w.body;
      probes_so = ap (λ (x : Call). x.node.probes) w.call ∙ it.probes_so;
    }

all-lived : (s : Setting) (st : State) (c : Call) (low : ℕ) (ms : List ℕ) → Stands s st c low ms → ComesTo (c.node.lived ++ accusation_events s st c.node.stored.next (unaccused s st ms)) c.node.probes (accuses_all s ms c)
all-lived s st c low [] h = record { lived_so = sym (nil-right c.node.lived); probes_so = refl }
all-lived s st c low (m ∷ ms) h =
    elim (cases_Bool (has_accused s st m)) [
      | inl already ↦
          let same : accuses true s c m ≡ c = accused-already s c m (h.same m (inl refl) ∙ already) in
          let rest = all-lived s st c (m + 1) ms (stands-on s st c low m ms h) in
          record {
            lived_so = ap (λ (x : Call). (accuses_all s ms x).node.lived) same ∙ rest.lived_so ∙ ap (λ xs. c.node.lived ++ accusation_events s st c.node.stored.next xs) (sym (dropped_front s st m ms already));
            probes_so = ap (λ (x : Call). (accuses_all s ms x).node.probes) same ∙ rest.probes_so;
          }
      | inr none ↦
          let w : Wants s st c m = wants-it s st c low m ms h none in
          let first = one-lived s st c m w in
          let rest = all-lived s st (accuses true s c m) (m + 1) ms (stands-accused s st c low m ms h w) in
          let index : ℕ = c.node.stored.next in
          let others : List ℕ = unaccused s st ms in
          record {
            lived_so = rest.lived_so ∙ ap (λ xs. xs ++ accusation_events s st (accuses true s c m).node.stored.next others) first.lived_so
                ∙ ap (λ k. (c.node.lived ++ one_event s st index m) ++ accusation_events s st k others) (one-stored s st c m w)
                ∙ append_assoc c.node.lived (one_event s st index m) (accusation_events s st (next_index s index) others)
                ∙ ap (λ xs. c.node.lived ++ xs) (sym (events-more s st index m others))
                ∙ ap (λ xs. c.node.lived ++ accusation_events s st index xs) (sym (kept_front s st m ms none));
            probes_so = rest.probes_so ∙ first.probes_so;
          }
    ]

pub node-pings : (s : Setting) (pings : List (ℕ × ℕ)) (c : Call) → (pings_all s pings c).node ≡ c.node
node-pings s [] c = refl
node-pings s (p ∷ pings) c = node-pings s pings (sends s (kinds.Ping s.me p.1) c p.0) ∙ node-sends s (kinds.Ping s.me p.1) c p.0

pub node-due : (s : Setting) (accused : List ℕ) (pings : List (ℕ × ℕ)) (round : ℕ) (c : Call) → (due_tick s accused pings round c).node ≡ (accuses_all s accused (spreads s c)).node
unfolding due_tick
node-due s accused pings round c =
    let c1 : Call = accuses_all s accused (spreads s c) in
    let c2 : Call = pings_all s pings c1 in
    summary-node s round (partner s c2.node round) c2 ∙ node-pings s pings c1

lived-probed : (s : Setting) (n : Node) → ComesTo (n.lived ++ Ticks ∷ []) (probed n.probes (is_due s (state_of s (at_tick s n))) (watched_by s (state_of s (at_tick s n)))) (probed_at s n)
unfolding probed_at passed lives
lived-probed s n = record { lived_so = refl; probes_so = refl }

lived-spread : (s : Setting) (n : Node) → ComesTo (n.lived ++ Ticks ∷ []) (probed n.probes (is_due s (state_of s (at_tick s n))) (watched_by s (state_of s (at_tick s n)))) (spread_at s n)
unfolding spread_at
lived-spread s n =
    let it = lived-probed s n in
    let node = node-spreads s (probed_at s n) in
    record { lived_so = ap (λ (x : Node). x.lived) node ∙ it.lived_so; probes_so = ap (λ (x : Node). x.probes) node ∙ it.probes_so }

tick-case : (b : Bool) (x y : Call) (lived : List Event) (probes : History) → (b ≡ true → ComesTo lived probes x) → (b ≡ false → ComesTo lived probes y) → ComesTo lived probes (cond b x y)
tick-case true x y lived probes h k = h refl
tick-case false x y lived probes h k = k refl

pub lived-ticked : (s : Setting) (n : Node)
    → ComesTo (n.lived ++ Ticks ∷ [] ++ accusation_events s (state_of s (at_tick s n)) (at_tick s n).stored.next (to_accuse s (at_tick s n) (state_of s (at_tick s n))))
    (probed n.probes (is_due s (state_of s (at_tick s n))) (watched_by s (state_of s (at_tick s n)))) (ticked s n)
unfolding ticked spread_at
lived-ticked s n =
    let p : Node = at_tick s n in
    let st : State = state_of s p in
    let c : Call = probed_at s n in
    let ms : List ℕ = silent_in s p st in
    let start = lived-probed s n in
    let c0 : Call = spread_at s n in
    let spread = lived-spread s n in
    let accused = all-lived s st c0 0 ms (starts s n) in
    let node = node-due s ms (pings_in s p st) (round_of s st) c in
    let lived : List Event = n.lived ++ Ticks ∷ [] in
    let events : ℕ → List ℕ → List Event = λ k xs. accusation_events s st k (unaccused s st xs) in
    let probes : History = probed n.probes (is_due s st) (watched_by s st) in
    tick-case (is_due s st) (due_tick s ms (pings_in s p st) (round_of s st) c) c (lived ++ events p.stored.next ms) probes
    (λ due.
    record {
      lived_so = ap (λ (x : Node). x.lived) node ∙ accused.lived_so ∙ ap (λ xs. xs ++ events c0.node.stored.next ms) spread.lived_so ∙ ap (λ (k : Stored). lived ++ events k.next ms) (stored-spread s n);
      probes_so = ap (λ (x : Node). x.probes) node ∙ accused.probes_so ∙ spread.probes_so;
    })
    (λ never.
    record {
      lived_so = start.lived_so ∙ sym (nil-right lived) ∙ ap (λ xs. lived ++ events p.stored.next xs) (sym (silent-never s p st never));
      probes_so = start.probes_so;
    })
