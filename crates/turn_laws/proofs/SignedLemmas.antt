-- What a call reports of accusations that the node signs, and that no accepted note outdates them.
use Rattle.std.proofs.Common.{◌≡◌, ℕ, ◌+◌, Bool, true, false, cond, eqb, List, [], ◌∷◌, ◌++◌, length, Option, Some, None, inl, inr, refl, ap, sym, ◌∙◌, subst, arith}
use Rattle.std.specs.Prelude.{Contains, not}
use Rattle.std.specs.Option.{option_map_or}
use Rattle.std.proofs.lemmas.List.{length-append}
use Rattle.std.proofs.lemmas.List.Elements.{filter-append}
use Rattle.ff_ids.specs.declared.AccBody.{AccBody}
use Rattle.ff_ids.specs.declared.Fault.{Fault}
use Rattle.ff_ids.specs.declared.NoteBody.{NoteBody}
use Rattle.ff_ids.specs.Notes.{newest}
use Rattle.ff_ids.specs.Views.{State}
use Rattle.ff_ids.specs.Steps.{Event, Ticks as Passes, step}
use Rattle.ff_ids.specs.Lives.{opening, state_at}
use Rattle.life_laws.specs.Removals.{IsOlderThan}
use Rattle.life_laws.proofs.AnsweredLemmas.{IsPast, past}
use Rattle.life_laws.proofs.LifeLemmas.{state_at-next}
use Rattle.life_laws.proofs.Lists.{Contains-from_In, In, In-append_cases, In-from_filter}
use Rattle.trace.proofs.JustifiedLemmas.{in-map}
use Rattle.records.specs.declared.Body.{Body}
use Rattle.records.specs.declared.Body.TheVariants.{Note, Accusation}
use Rattle.records.specs.declared.Record.{Record}
use Rattle.journal.specs.declared.event.Event as journal
use Rattle.journal.specs.declared.event.What as whats
use Rattle.journal.specs.declared.event.What.TheVariants as told
use Rattle.node_rules.specs.Nodes.{Setting, Node, state_of}
use Rattle.node_rules.specs.Calls.{Call, is_used_up}
use Rattle.node_rules.specs.Accusing.{AccusesTheSilent}
use Rattle.node_rules.specs.Ticking.{has_accused, silent_at, ticked}
use Rattle.node_rules.specs.OnDisks.{IsCut, called}
use Rattle.node_rules.specs.Lives.{Input, Delivers, Ticks, Leaves, call_of}
use Rattle.node_rules.specs.Answering.{answered_with, asked_by, records_told}
use Rattle.node_rules.specs.Outgoing.{accusation_of, accusing_told, at_tick, to_accuse, unaccused}
use Rattle.node_rules.specs.Stopping.{StopsAccusing, StopsAnswering, StopsIn, StopsLeaving}
use Rattle.node_rules.specs.Verdicts.{is_apart, told_that, verdict_on, when_all_handled, when_handled}
use Rattle.node_rules.proofs.Stopping.{delivery-stops, leaving-stops, only-signatures, tick-stops}
use Rattle.node_rules.proofs.Ticks.{only-silent, tick-tells}
use Rattle.turn_rules.specs.Turns.{Act, Calls}
use Rattle.turn_rules.specs.Courses.{node_behind}
use Rattle.turn_rules.specs.Replies.{Signs}
use Rattle.turn_laws.proofs.RemovalLemmas.{IsOfNoStart, at-last, state-at_tick}
use Rattle.turn_laws.proofs.ReplyLemmas.{in-all_at, in-told_that, none-in-report, state-last}

abbrev signed : ℕ → AccBody → whats.What
signed index a = told.Spent index (Accusation a)

-- ## What a call signs

-- the epoch of a member's newest note, or 0
abbrev pub newest_epoch : State → ℕ → ℕ
newest_epoch st m = option_map_or (λ (note : NoteBody). note.epoch) (newest st.notes m) 0

-- The accusation is of the epoch of the newest note of the accused.
record IsOfNewest (st : State) (a : AccBody) : Type 0 where
  epoch : a.epoch ≡ newest_epoch st a.accused

same-body : (x a : AccBody) → Accusation x ≡ Accusation a → x ≡ a
same-body x a e = cc

of-newest : (s : Setting) (st : State) (m : ℕ) (a : AccBody) → accusation_of s st m ≡ Accusation a → IsOfNewest st a
of-newest s st m a is =
    let same = same-body _ a is in
    record { epoch = sym (ap (λ (x : AccBody). x.epoch) same) ∙ ap (newest_epoch st) (ap (λ (x : AccBody). x.accused) same) }

silent-not : (m index : ℕ) (a : AccBody) → told.Silent m ≡ signed index a → ⊥
silent-not m index a e = cc

used-not : (next index : ℕ) (a : AccBody) → told.Exhausted next ≡ signed index a → ⊥
used-not next index a e = cc

stopped-not : (index : ℕ) (a : AccBody) → told.Stopped ≡ signed index a → ⊥
stopped-not index a e = cc

took-not : (body : Body) (f : Option Fault) (index : ℕ) (a : AccBody) → told.Took body f ≡ signed index a → ⊥
took-not body f index a e = cc

note-not : (k : ℕ) (n : NoteBody) (index : ℕ) (a : AccBody) → told.Spent k (Note n) ≡ signed index a → ⊥
note-not k n index a e = cc

spent-body : (k index : ℕ) (b : Body) (a : AccBody) → told.Spent k b ≡ signed index a → b ≡ Accusation a
spent-body k index b a e = cc

in-accusing : (s : Setting) (st : State) (next : ℕ) (ms : List ℕ) (index : ℕ) (a : AccBody) → In (accusing_told s st next ms) (signed index a) → IsOfNewest st a
in-accusing s st next [] index a i = absurd i
in-accusing s st next (m ∷ ms) index a (inl e) = absurd (silent-not m index a e)
in-accusing s st next (m ∷ ms) index a (inr i) = by (in-accusing s st next ms index a) (in-accusing s st (next + 1) ms index a) (eqb next s.indexes) i
  where
    by : (In (accusing_told s st next ms) (signed index a) → IsOfNewest st a) → (In (accusing_told s st (next + 1) ms) (signed index a) → IsOfNewest st a) → (b : Bool)
        → In (cond b (told.Exhausted next ∷ accusing_told s st next ms) (told.Spent next (accusation_of s st m) ∷ accusing_told s st (next + 1) ms)) (signed index a) → IsOfNewest st a
    by up left true (inl e) = absurd (used-not next index a e)
    by up left true (inr j) = up j
    by up left false (inl e) = of-newest s st m a (spent-body next index (accusation_of s st m) a e)
    by up left false (inr j) = left j

none-answered : (s : Setting) (n : Node) (o : Option NoteBody) (index : ℕ) (a : AccBody) → In (answered_with s n o) (signed index a) → ⊥
none-answered s n None index a i = i
none-answered s n (Some x) index a (inr none) = none
none-answered s n (Some x) index a (inl e) = by (is_used_up s n) e
  where
    by : (b : Bool) → cond b (told.Exhausted n.stored.next) (told.Spent n.stored.next (Note x)) ≡ signed index a → ⊥
    by true e = used-not n.stored.next index a e
    by false e = note-not n.stored.next _ index a e

none-handled : (s : Setting) (records : List Record) (n : Node) (index : ℕ) (a : AccBody) → In (records_told s n records) (signed index a) → ⊥
none-handled s [] n index a i = i
none-handled s (r ∷ records) n index a i =
    elim (In-append_cases (verdict_on s n r ∷ answered_with s n (asked_by s n r)) (records_told s (when_handled s n r) records) (signed index a) i) [
      | inl (inl e) ↦ took-not r.body _ index a e
      | inl (inr j) ↦ none-answered s n (asked_by s n r) index a j
      | inr later ↦ none-handled s records (when_handled s n r) index a later
    ]

-- The call is a tick, which spends the index on the accusation of a silent member, at the epoch of its newest note.
pub record SignsNow (s : Setting) (n : Node) (i : Input) (at index : ℕ) (a : AccBody) : Type 0 where
  pub tick : i ≡ Ticks
  pub same : (state_of s (at_tick s n)).moment ≡ at
  pub epoch : a.epoch ≡ newest_epoch (state_of s (at_tick s n)) a.accused
  pub spent : Contains (call_of s n Ticks).told (record { moment = at; what = signed index a })
  pub silent : AccusesTheSilent s n a

delivers-not : (bytes : List ℕ) → Delivers bytes ≡ Ticks → ⊥
delivers-not bytes e = cc

leaves-not : Leaves ≡ Ticks → ⊥
leaves-not e = cc

pub called-signed : (s : Setting) (n : Node) (i : Input) (at index : ℕ) (a : AccBody) → In (call_of s n i).told (record { moment = at; what = signed index a }) → SignsNow s n i at index a
called-signed s n (Delivers bytes) at index a i = absurd (delivers-not bytes (only-silent s n (Delivers bytes) a (at, index, Contains-from_In _ _ i)).0)
called-signed s n Leaves at index a i = absurd (leaves-not (only-silent s n Leaves a (at, index, Contains-from_In _ _ i)).0)
called-signed s n Ticks at index a i =
    let p : Node = at_tick s n in
    let st : State = state_of s p in
    let all : List ℕ = to_accuse s p st in
    let x = in-told_that is_apart (ticked s n) st.moment (accusing_told s st p.stored.next all) at (signed index a) (tick-tells s n) refl i in
    let spent = Contains-from_In (call_of s n Ticks).told (record { moment = at; what = signed index a }) i in
    record { tick = refl; same = x.same; epoch = (in-accusing s st p.stored.next all index a x.among).epoch; spent = spent; silent = (only-silent s n Ticks a (at, index, spent)).1 }

-- of what is reported of these, behind which the life is over
stopping : {A : Type 0} (ws : List whats.What) (last : whats.What) (index : ℕ) (a : AccBody) → (In ws (signed index a) → A) → (last ≡ signed index a → ⊥) → In ((ws ++ last ∷ []) ++ told.Stopped ∷ []) (signed index a) → A
stopping ws last index a f other i =
    elim (In-append_cases (ws ++ last ∷ []) (told.Stopped ∷ []) (signed index a) i) [
      | inl j ↦
          (elim (In-append_cases ws (last ∷ []) (signed index a) j) [
            | inl k ↦ f k
            | inr (inl e) ↦ absurd (other e)
            | inr (inr k) ↦ absurd k
          ])
      | inr (inl e) ↦ absurd (stopped-not index a e)
      | inr (inr k) ↦ absurd k
    ]

cut-delivery : {A : Type 0} (s : Setting) (n : Node) (bytes : List ℕ) (put at index : ℕ) (a : AccBody) → StopsAnswering s n bytes put → In (called s n (Delivers bytes) (Some put)).told (record { moment = at; what = signed index a }) → A
cut-delivery s n bytes put at index a stop i =
    let ws = records_told s n stop.before in
    let last = verdict_on s (when_all_handled s n stop.before) stop.at in
    let x = in-told_that is_apart (called s n (Delivers bytes) (Some put)) (state_of s n).moment ((ws ++ last ∷ []) ++ told.Stopped ∷ []) at (signed index a) (delivery-stops s n bytes put stop).told refl i in
    absurd (stopping ws last index a (none-handled s stop.before n index a) (took-not stop.at.body _ index a) x.among)

-- what is reported of some of the silent is reported of them and more
in-front : (s : Setting) (st : State) (next : ℕ) (ms more : List ℕ) (w : whats.What) → In (accusing_told s st next ms) w → In (accusing_told s st next (ms ++ more)) w
in-front s st next [] more w i = absurd i
in-front s st next (m ∷ ms) more w (inl e) = inl e
in-front s st next (m ∷ ms) more w (inr i) = inr (by (in-front s st next ms more w) (in-front s st (next + 1) ms more w) (eqb next s.indexes) i)
  where
    by : (In (accusing_told s st next ms) w → In (accusing_told s st next (ms ++ more)) w) → (In (accusing_told s st (next + 1) ms) w → In (accusing_told s st (next + 1) (ms ++ more)) w) → (b : Bool)
        → In (cond b (told.Exhausted next ∷ accusing_told s st next ms) (told.Spent next (accusation_of s st m) ∷ accusing_told s st (next + 1) ms)) w
        → In (cond b (told.Exhausted next ∷ accusing_told s st next (ms ++ more)) (told.Spent next (accusation_of s st m) ∷ accusing_told s st (next + 1) (ms ++ more))) w
    by up left true (inl e) = inl e
    by up left true (inr j) = inr (up j)
    by up left false (inl e) = inl e
    by up left false (inr j) = inr (left j)

-- those to accuse before the put that failed are the first of those to accuse
front-of : (s : Setting) (n : Node) (put : ℕ) (stop : StopsAccusing s n put) → let st = state_of s (at_tick s n) in
    to_accuse s (at_tick s n) st ≡ unaccused s st stop.before ++ unaccused s st (stop.at ∷ stop.behind)
unfolding silent_at
front-of s n put stop =
    let st = state_of s (at_tick s n) in
    ap (unaccused s st) stop.silent ∙ filter-append (λ m. not (has_accused s st m)) stop.before (stop.at ∷ stop.behind)

-- what the cut tick has signed the whole tick signs
whole-tick : (s : Setting) (n : Node) (put at index : ℕ) (a : AccBody) (stop : StopsAccusing s n put) → let st = state_of s (at_tick s n) in st.moment ≡ at
    → In (accusing_told s st (at_tick s n).stored.next (unaccused s st stop.before)) (signed index a) → In (call_of s n Ticks).told (record { moment = at; what = signed index a })
whole-tick s n put at index a stop same i =
    let p : Node = at_tick s n in
    let st : State = state_of s p in
    let event : ℕ → whats.What → journal.Event = λ moment what. record { moment = moment; what = what } in
    let longer = in-front s st p.stored.next (unaccused s st stop.before) (unaccused s st (stop.at ∷ stop.behind)) (signed index a) i in
    let among = subst (λ (ms : List ℕ). In (accusing_told s st p.stored.next ms) (signed index a)) (sym (front-of s n put stop)) longer in
    let told_in = in-map (event st.moment) (accusing_told s st p.stored.next (to_accuse s p st)) (signed index a) among in
    let apart : In (told_that is_apart (ticked s n)) (event st.moment (signed index a)) = subst (λ (es : List journal.Event). In es (event st.moment (signed index a))) (sym (tick-tells s n)) told_in in
    subst (λ (moment : ℕ). In (ticked s n).told (event moment (signed index a))) same (In-from_filter (λ (e : journal.Event). is_apart e.what) (ticked s n).told _ apart).0

cut-tick : (s : Setting) (n : Node) (put at index : ℕ) (a : AccBody) → StopsAccusing s n put → In (called s n Ticks (Some put)).told (record { moment = at; what = signed index a }) → SignsNow s n Ticks at index a
cut-tick s n put at index a stop i =
    let p : Node = at_tick s n in
    let st : State = state_of s p in
    let all : List ℕ = unaccused s st stop.before in
    let ws = accusing_told s st p.stored.next all in
    let x = in-told_that is_apart (called s n Ticks (Some put)) st.moment ((ws ++ told.Silent stop.at ∷ []) ++ told.Stopped ∷ []) at (signed index a) (tick-stops s n put stop).told refl i in
    called-signed s n Ticks at index a (stopping ws (told.Silent stop.at) index a (whole-tick s n put at index a stop x.same) (silent-not stop.at index a) x.among)

cut-leaving : {A : Type 0} (s : Setting) (n : Node) (put at index : ℕ) (a : AccBody) → StopsLeaving s n put → In (called s n Leaves (Some put)).told (record { moment = at; what = signed index a }) → A
cut-leaving s n put at index a stop i =
    let x = in-all_at (state_of s n).moment (told.Stopped ∷ []) at (signed index a) (subst (λ (es : List journal.Event). In es (record { moment = at; what = signed index a })) (leaving-stops s n put stop).told i) in
    elim x.among [ inl e ↦ absurd (stopped-not index a e) | inr none ↦ absurd none ]

pub cut-signed : (s : Setting) (n : Node) (i : Input) (c : Call) (at index : ℕ) (a : AccBody) → IsCut s n i c → In c.told (record { moment = at; what = signed index a }) → SignsNow s n i at index a
cut-signed s n i c at index a cut among =
    by i (only-signatures s n i cut.put (ap (λ (x : Call). x.ended) (sym cut.is) ∙ cut.ended)) (subst (λ (x : Call). In x.told (record { moment = at; what = signed index a })) cut.is among)
  where
    by : (i : Input) → StopsIn s n i cut.put → In (called s n i (Some cut.put)).told (record { moment = at; what = signed index a }) → SignsNow s n i at index a
    by (Delivers bytes) stop j = cut-delivery s n bytes cut.put at index a stop j
    by Ticks stop j = cut-tick s n cut.put at index a stop j
    by Leaves stop j = cut-leaving s n cut.put at index a stop j

-- ## The start

pub accusation-no-start : (at index : ℕ) (a : AccBody) → IsOfNoStart (record { moment = at; what = signed index a })
accusation-no-start at index a = record { no_step = λ g events x stays i. none-in-report _ _ (record { moment = at; what = signed index a }) refl i; unspent = λ k n e. note-not k n index a e }

-- ## What a course signs

-- the state that a tick behind this life leaves
tick-state : (s : Setting) (n : Node) → state_at s.group (opening []) (n.lived ++ Passes ∷ []) (length n.lived + 1) ≡ state_of s (at_tick s n)
unfolding state_of
tick-state s n =
    state_at-next s.group (opening []) (n.lived ++ Passes ∷ []) (length n.lived) Passes (at-last n.lived Passes)
    ∙ ap (λ (st : State). (step s.group st Passes).state) (state-last s.group n.lived Passes)
    ∙ sym (state-at_tick s n)

newest-is : (st : State) (m epoch : ℕ) (p : IsPast m epoch st) → newest_epoch st m ≡ p.note.epoch
newest-is st m epoch p = ap (λ o. option_map_or (λ (note : NoteBody). note.epoch) o 0) p.is_newest

none-outdates : (s : Setting) (n : Node) (a : AccBody) → a.epoch ≡ newest_epoch (state_of s (at_tick s n)) a.accused → (i : ℕ) (note : NoteBody) → IsPast note.member note.epoch (state_of s (at_tick s n)) → IsOlderThan a note → ⊥
none-outdates s n a epoch i note p older =
    let st : State = state_of s (at_tick s n) in
    let same : a.epoch ≡ p.note.epoch = epoch ∙ ap (newest_epoch st) older.against ∙ newest-is st note.member note.epoch p in
    absurd (omega (arith, same, p.reached, older.older))

-- No note outdates what a tick among the acts signs.
pub signs : (s : Setting) (start : Node) (acts before behind : List Act) (i : Input) (at index : ℕ) (a : AccBody) → acts ≡ before ++ Calls i ∷ behind → SignsNow s (node_behind s start before) i at index a → Signs s start acts at index a
signs s start acts before behind i at index a split x =
    let n = node_behind s start before in
    let life : List Event = n.lived ++ Passes ∷ [] in
    record {
      tick = record { before = before; behind = behind; ticks = split ∙ ap (λ (y : Input). before ++ Calls y ∷ behind) x.tick; at = x.same };
      spent = x.spent;
      by = x.silent.by_the_node;
      silent = x.silent;
      none_outdates = λ k note earlier noted older.
          none-outdates s n a x.epoch k note
          (subst (IsPast note.member note.epoch) (tick-state s n) (past s.group (opening []) life k (length n.lived + 1) note noted earlier (omega (arith, length-append n.lived (Passes ∷ []))))) older;
    }
