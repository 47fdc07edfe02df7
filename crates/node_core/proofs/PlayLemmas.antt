-- A small step of the code is that of the definitions.
use Rattle.std.proofs.Common.{◌≡◌, ℕ, suc, ◌+◌, ◌-◌, eqb, Bool, true, false, cond, List, [], ◌∷◌, ◌++◌, Option, Some, None, refl, ap, sym, ◌∙◌, subst, map, length, Result, Ok, Err, OnOk, OnErr}
use Rattle.std.specs.Prelude.{fold, is_some, filter, filter_map, ◌||◌}
use Rattle.std.specs.Option.{option_map, option_and_then}
use Rattle.std.specs.Ordering.{eq_by_cmp, nat_cmp}
use Rattle.std.specs.FinMap as fin
use Rattle.std.proofs.lemmas.Bool.{cond_both, cases_Bool}
use Rattle.std.proofs.lemmas.List.{append_assoc}
use Rattle.std.proofs.Common.{arith, inl, inr}
use Rattle.std.proofs.lemmas.Bool.Decides.{nat_tests}
use Rattle.std.proofs.lemmas.Cmp.{nat_cmp_total}
use Rattle.ff_ids.specs.declared.TheConstants.{MEMBERS}
use Rattle.ff_ids.specs.declared.RingNo.{RingNo}
use Rattle.ring_order.specs.Hashed.{hashed_places}
use Rattle.node_core.proofs.TellingLemmas.{front-refl, front-trans, nil-right}
use Rattle.ff_ids.specs.declared.Group.{Group}
use Rattle.ff_ids.specs.Heals.{Heal}
use Rattle.ff_ids.specs.declared.NoteBody.{NoteBody}
use Rattle.ff_ids.specs.declared.AccBody.{AccBody}
use Rattle.ff_ids.specs.declared.Fault.{Fault}
use Rattle.ff_ids.specs.declared.Fault.TheVariants as faults
use Rattle.ff_ids.specs.declared.summary.RecordKey.{RecordKey}
use Rattle.ff_ids.specs.declared.summary.RecordKey.TheVariants as keys
use Rattle.ff_ids.specs.Views.{State, is_member, successor, is_number, all_numbers}
use Rattle.ff_ids.specs.Faults.{note_fault, accusation_fault, join_fault}
use Rattle.ff_ids.specs.Steps.{Event, Joins, Notes, Accuses, Ticks, Report, Stepped, step, after_note, after_accusation, after_tick, joined, unless_fault, unchanged, nothing}
use Rattle.membership.specs.Life.{Life, has_joined}
use Rattle.membership.specs.Holds.{Holds}
use Rattle.membership.specs.Reports.{Answers}
use Rattle.lms_tree.specs.declared.key.PublicKey.{PublicKey}
use Rattle.records.specs.declared.CertBody.{CertBody}
use Rattle.records.specs.declared.Body.{Body}
use Rattle.records.specs.declared.Body.TheVariants.{Certificate, Note, Accusation}
use Rattle.records.specs.declared.Record.{Record}
use Rattle.records.specs.Signing.{CheckedRecord}
use Rattle.validate.specs.Certified.{Certificates, certificate_of as kept_certificate}
use Rattle.record_set.specs.Held.{Held, key_cmp, key_of, held_under, with_option, retired}
use Rattle.record_set.proofs.KeyLemmas.{key_cmp_total}
use Rattle.detector.specs.Kept.{DrawsFor}
use Rattle.journal.specs.declared.event.Event as journal
use Rattle.node_rules.specs.Nodes.{Setting, Node, Holding, state_of, event_of, with_record, without, without_ended, moved, retires, without_removal, with_news, key_of_accusation, certificate_in, certificate_of}
use Rattle.node_rules.specs.Calls.{Call, tells, lives, takes, told_of, sends, sends_to_all}
use Rattle.signer.specs.Signing.{SignerState}
use Rattle.sign_keys.specs.Keys.{KeySecret}
use Rattle.datagram.specs.declared.Datagram.{Datagram}
use Rattle.datagram.specs.Spelling.{datagram_bytes}
use Rattle.journal.specs.declared.event.What as whats
use Rattle.journal.specs.declared.event.What.TheVariants as told
use Rattle.node_rules.specs.Nodes.{neighbours, neighbours_and}
use Rattle.node_core.specs.Neighbours.{addressees}
use Rattle.ff_ids.specs.Masks.{ring_count}
use Rattle.peers.proofs.RangeLemmas.{range-more}
use Rattle.std.specs.List.{list_any, range_with_len}
use Rattle.node_rules.proofs.Small.{state_of-lives}
use Rattle.node_rules.proofs.OwnKey.{ended-certificate, removal-certificate}
use Rattle.node_rules.proofs.Retiring.{retires-once}
use Rattle.node_core.specs.Told.{Tellings, Adds, with_event, with_report, with_sent}
use Rattle.node_core.specs.Records.{without_all, retired_all, ended_all}
use Rattle.node_core.specs.News.{keeps, heard_as_news, fresh_with, with_fresh}
use Rattle.node_core.specs.Playing.{Kept, HoldsRecords, setting_of, IsNode, IsAt, IsBehind, Plays, Extends, Grows, with_known}
use Rattle.node_core.proofs.ExtendLemmas.{extends-tells, extends-lives, extends-keeps, extends-takes, extends-sends}
use Rattle.node_core.proofs.DueLemmas.{behind-extends, behind-same, behind-due}

-- ---- what is held

abbrev rec_of : Option CheckedRecord → Option Record
rec_of o = option_map (λ c. c.rec) o

cond-map : (b : Bool) (x y : Option CheckedRecord) → rec_of (cond b x y) ≡ cond b (rec_of x) (rec_of y)
cond-map true x y = refl
cond-map false x y = refl

pub holds-remove : (set : Held) (held : Holding) (k : RecordKey) → HoldsRecords set held → HoldsRecords (fin.remove set k) (without held k)
holds-remove set held k h = λ q. ap rec_of (fin.get-remove key_cmp_total set k q) ∙ cond-map (eq_by_cmp key_cmp q k) None (held_under set q) ∙ ap (λ x. cond (eq_by_cmp key_cmp q k) None x) (h q)

pub holds-insert : (set : Held) (held : Holding) (c : CheckedRecord) → HoldsRecords set held → HoldsRecords (fin.insert set (key_of c.rec.body) c) (with_record c.rec held)
holds-insert set held c h =
    λ q. ap rec_of (fin.get-insert key_cmp_total set (key_of c.rec.body) c q) ∙ cond-map (eq_by_cmp key_cmp q (key_of c.rec.body)) (Some c) (held_under set q) ∙ ap (λ x. cond (eq_by_cmp key_cmp q (key_of c.rec.body)) (Some c.rec) x) (h q)

pub holds-without : (set : Held) (held : Holding) (ended : List AccBody) → HoldsRecords set held → HoldsRecords (without_all set ended) (fold without held (map key_of_accusation ended))
holds-without set held [] h = h
holds-without set held (a ∷ ended) h = holds-without (fin.remove set (key_of_accusation a)) (without held (key_of_accusation a)) ended (holds-remove set held (key_of_accusation a) h)

fold-map-append : (held : Holding) (xs ys : List AccBody) → fold without held (map key_of_accusation (xs ++ ys)) ≡ fold without (fold without held (map key_of_accusation xs)) (map key_of_accusation ys)
fold-map-append held [] ys = refl
fold-map-append held (x ∷ xs) ys = fold-map-append (without held (key_of_accusation x)) xs ys

-- a removal takes the place of what its key held
retired-under : (set : Held) (m : ℕ) (ring : RingNo) (q : RecordKey) (o : Option CheckedRecord)
    → rec_of (fin.get (with_option (fin.remove set (keys.Accusation m ring)) (keys.Removal m) o) q)
    ≡ cond (eq_by_cmp key_cmp q (keys.Removal m)) (rec_of o)
    (cond (eq_by_cmp key_cmp q (keys.Accusation m ring)) None (rec_of (held_under set q)))
retired-under set m ring q None =
    let left : Held = fin.remove set (keys.Accusation m ring) in
    ap rec_of (fin.get-remove key_cmp_total left (keys.Removal m) q)
    ∙ cond-map (eq_by_cmp key_cmp q (keys.Removal m)) None (held_under left q)
    ∙ ap (λ x. cond (eq_by_cmp key_cmp q (keys.Removal m)) None x)
    (ap rec_of (fin.get-remove key_cmp_total set (keys.Accusation m ring) q) ∙ cond-map (eq_by_cmp key_cmp q (keys.Accusation m ring)) None (held_under set q))
retired-under set m ring q (Some c) =
    let left : Held = fin.remove set (keys.Accusation m ring) in
    ap rec_of (fin.get-insert key_cmp_total left (keys.Removal m) c q)
    ∙ cond-map (eq_by_cmp key_cmp q (keys.Removal m)) (Some c) (held_under left q)
    ∙ ap (λ x. cond (eq_by_cmp key_cmp q (keys.Removal m)) (Some c.rec) x)
    (ap rec_of (fin.get-remove key_cmp_total set (keys.Accusation m ring) q) ∙ cond-map (eq_by_cmp key_cmp q (keys.Accusation m ring)) None (held_under set q))

apart-keys : (m : ℕ) (ring : RingNo) (x y : Option Record) (q : RecordKey)
    → cond (eq_by_cmp key_cmp q (keys.Removal m)) x (cond (eq_by_cmp key_cmp q (keys.Accusation m ring)) None y)
    ≡ cond (eq_by_cmp key_cmp q (keys.Accusation m ring)) None (cond (eq_by_cmp key_cmp q (keys.Removal m)) x y)
apart-keys m ring x y (keys.Certificate n) = refl
apart-keys m ring x y (keys.Note n) = refl
apart-keys m ring x y (keys.Accusation n other) = refl
apart-keys m ring x y (keys.Removal n) = refl

holds-moved : (set : Held) (held : Holding) (a : AccBody) → HoldsRecords set held
    → HoldsRecords (retired set a.accused a.ring) (moved held a)
holds-moved set held a h = λ q.
    let here : RecordKey = key_of_accusation a in
    retired-under set a.accused a.ring q (held_under set here)
    ∙ ap
    (λ x. cond (eq_by_cmp key_cmp q (keys.Removal a.accused)) x (cond (eq_by_cmp key_cmp q here) None (rec_of (held_under set q))))
    (h here)
    ∙ ap (λ y. cond (eq_by_cmp key_cmp q (keys.Removal a.accused)) (held here) (cond (eq_by_cmp key_cmp q here) None y)) (h q)
    ∙ apart-keys a.accused a.ring (held here) (held q) q

holds-moved_all : (set : Held) (held : Holding) (ended : List AccBody) → HoldsRecords set held
    → HoldsRecords (retired_all set ended) (fold moved held ended)
holds-moved_all set held [] h = h
holds-moved_all set held (a ∷ ended) h =
    holds-moved_all (retired set a.accused a.ring) (moved held a) ended (holds-moved set held a h)

pub holds-ended : (heal : Option Heal) (set : Held) (held : Holding) (r : Report) → HoldsRecords set held
    → HoldsRecords (without_all (ended_all heal set r.expired) r.fell) (without_ended r (retires heal r held))
holds-ended None set held r h =
    let two = holds-without (without_all set r.expired) (fold without held (map key_of_accusation r.expired)) r.fell (holds-without set held r.expired h) in
    λ q. two q ∙ ap (λ f. f q) (sym (fold-map-append held r.expired r.fell))
holds-ended (Some heal) set held r h =
    let two = holds-without (retired_all set r.expired) (fold moved held r.expired) r.fell (holds-moved_all set held r.expired h) in
    λ q. two q ∙ sym (retires-once heal r held q)

-- the records without the removal that the body ends
abbrev pub unremoved : Body → Held → Held
unremoved (Certificate c) set = set
unremoved (Note n) set = fin.remove set (keys.Removal n.member)
unremoved (Accusation a) set = set

holds-unremoved : (b : Body) (set : Held) (held : Holding) → HoldsRecords set held
    → HoldsRecords (unremoved b set) (without_removal b held)
holds-unremoved (Certificate c) set held h = h
holds-unremoved (Note n) set held h = holds-remove set held (keys.Removal n.member) h
holds-unremoved (Accusation a) set held h = h

-- ---- the setting

pub setting-group : (s : Setting) (g : Group) (heal : Option Heal) (me : ℕ) (a : PublicKey) (k : KeySecret)
    → s ≡ setting_of g heal me a k → s.group ≡ g
unfolding setting_of
setting-group s g heal me a k e = ap (λ x. x.group) e

pub setting-me : (s : Setting) (g : Group) (heal : Option Heal) (me : ℕ) (a : PublicKey) (k : KeySecret)
    → s ≡ setting_of g heal me a k → s.me ≡ me
unfolding setting_of
setting-me s g heal me a k e = ap (λ x. x.me) e

pub setting-heal : (s : Setting) (v : Kept) (n : Node) → IsNode s v n → s.heal ≡ v.heal
unfolding setting_of
setting-heal s v n is = ap (λ x. x.heal) is.setting

-- ---- an event of the life

-- What a step of the membership makes of the life, and what it reports.
pub record Steps (g : Group) (e : Event) (life next : Life) (r : Report) : Type 0 where
  pub holds : (st : State) → Holds life st → Holds next (step g st e).state
  pub reports : (st : State) → Holds life st → r ≡ (step g st e).report

record Unlessed (fault : Option Fault) (st : State) (next : Stepped) (life after : Life) (r : Report) : Type 0 where
  holds : Holds after (unless_fault fault st next).state
  reports : r ≡ (unless_fault fault st next).report

unlessed : (fault : Option Fault) (answer : Result (Unit {0}) Fault) (st : State) (next : Stepped) (life after : Life) (r : Report)
    → Answers fault answer → OnOk answer (Holds after next.state) → OnOk answer (r ≡ next.report) → OnErr answer (after ≡ life) → OnErr answer (r ≡ nothing) → Holds life st → Unlessed fault st next life after r
unlessed None answer st next life after r is ok told same emptied h =
    record { holds = subst (λ a. OnOk a (Holds after next.state)) is ok; reports = subst (λ a. OnOk a (r ≡ next.report)) is told }
unlessed (Some fault) answer st next life after r is ok told same emptied h =
    let stays : after ≡ life = subst (λ a. OnErr a (after ≡ life)) is same in
    record { holds = subst (λ x. Holds x st) (sym stays) h; reports = subst (λ a. OnErr a (r ≡ nothing)) is emptied }

pub note-steps : (g : Group) (life next : Life) (r : Report) (n : NoteBody) (answer : Result (Unit {0}) Fault) → life.group ≡ g
    → ((st : State) → Holds life st → Answers (note_fault life.group.t st n) answer)
    → ((st : State) → Holds life st → OnOk answer (Holds next (after_note st n).state))
    → ((st : State) → Holds life st → OnOk answer (r ≡ (after_note st n).report))
    → OnErr answer (next ≡ life) → OnErr answer (r ≡ nothing) → Steps g (Notes n) life next r
note-steps g life next r n answer same is ok told stays emptied =
    record {
      holds = λ st h. (unlessed (note_fault g.t st n) answer st (after_note st n) life next r (faults st h) (ok st h) (told st h) stays emptied h).holds;
      reports = λ st h. (unlessed (note_fault g.t st n) answer st (after_note st n) life next r (faults st h) (ok st h) (told st h) stays emptied h).reports;
    }
  where
    faults : (st : State) → Holds life st → Answers (note_fault g.t st n) answer
    faults st h = subst (λ (x : Group). Answers (note_fault x.t st n) answer) same (is st h)

pub accusation-steps : (g : Group) (life next : Life) (a : AccBody) (answer : Result (Unit {0}) Fault) → life.group ≡ g
    → ((st : State) → Holds life st → Answers (accusation_fault life.group.t st a) answer)
    → ((st : State) → Holds life st → OnOk answer (Holds next (after_accusation st a)))
    → OnErr answer (next ≡ life) → Steps g (Accuses a) life next nothing
accusation-steps g life next a answer same is ok stays =
    record { holds = λ st h. (all st h).holds; reports = λ st h. (all st h).reports }
  where
    both : (answer : Result (Unit {0}) Fault) → OnOk answer (nothing ≡ nothing)
    both (Ok x) = refl
    both (Err e) = tt

    neither : (answer : Result (Unit {0}) Fault) → OnErr answer (nothing ≡ nothing)
    neither (Ok x) = tt
    neither (Err e) = refl

    all : (st : State) → Holds life st → Unlessed (accusation_fault g.t st a) st (unchanged (after_accusation st a)) life next nothing
    all st h = unlessed (accusation_fault g.t st a) answer st (unchanged (after_accusation st a)) life next nothing (subst (λ (x : Group). Answers (accusation_fault x.t st a) answer) same (is st h)) (ok st h) (both answer) stays (neither answer) h

pub tick-steps : (g : Group) (life next : Life) (r : Report) → life.group ≡ g
    → ((st : State) → Holds life st → Holds next (after_tick life.group.timeout st).state)
    → ((st : State) → Holds life st → r ≡ (after_tick life.group.timeout st).report) → Steps g Ticks life next r
tick-steps g life next r same ok told =
    record {
      holds = λ st h. subst (λ (x : Group). Holds next (after_tick x.timeout st).state) same (ok st h);
      reports = λ st h. subst (λ (x : Group). r ≡ (after_tick x.timeout st).report) same (told st h);
    }

pub join-steps : (g : Group) (life next : Life) (m : ℕ) (places : List (List ℕ)) (answer : Result (Unit {0}) Fault)
    → ((st : State) → Holds life st → Answers (join_fault st m) answer)
    → ((st : State) → Holds life st → OnOk answer (Holds next (joined st m places)))
    → OnErr answer (next ≡ life) → Steps g (Joins m places) life next nothing
join-steps g life next m places answer is ok stays =
    record { holds = λ st h. (all st h (is_member st m) refl).0; reports = λ st h. (all st h (is_member st m) refl).1 }
  where
    all : (st : State) → Holds life st → (b : Bool) → is_member st m ≡ b → Holds next (step g st (Joins m places)).state × (nothing ≡ (step g st (Joins m places)).report)
    all st h true e =
        let err : answer ≡ Err faults.AlreadyMember = subst (λ b. Answers (cond b (Some faults.AlreadyMember) None) answer) e (is st h) in
        let stays2 : next ≡ life = subst (λ a. OnErr a (next ≡ life)) err stays in
        (rw e (subst (λ x. Holds x st) (sym stays2) h), rw e refl)
    all st h false e =
        let fine : answer ≡ Ok tt = subst (λ b. Answers (cond b (Some faults.AlreadyMember) None) answer) e (is st h) in
        (rw e (subst (λ a. OnOk a (Holds next (joined st m places))) fine (ok st h)), rw e refl)

pub certificate-lives : (s : Setting) (e : Event) (c : Call) (m : ℕ) → certificate_of (lives s e c).node m ≡ certificate_of c.node m
unfolding lives certificate_of
certificate-lives s e c m =
    ap (λ o. option_and_then (λ r. certificate_in r.body) o)
    (ended-certificate s.heal (step s.group (state_of s c.node) e).report c.node.held m)

held-lives : (s : Setting) (e : Event) (c : Call) (r : Report) → r ≡ (step s.group (state_of s c.node) e).report
    → without_ended r (retires s.heal r c.node.held) ≡ (lives s e c).node.held
unfolding lives
held-lives s e c r is = ap (λ x. without_ended x (retires s.heal x c.node.held)) is

told-lives : (s : Setting) (e : Event) (c : Call) → (lives s e c).told ≡ c.told ++ told_of (step s.group (state_of s c.node) e).state.moment (step s.group (state_of s c.node) e).report
unfolding lives
told-lives s e c = refl

sent-lives : (s : Setting) (e : Event) (c : Call) → (lives s e c).sent ≡ c.sent
unfolding lives
sent-lives s e c = refl

kept-lives : (s : Setting) (e : Event) (c : Call) → ((lives s e c).node.stored ≡ c.node.stored) × ((lives s e c).node.probes ≡ c.node.probes)
unfolding lives
kept-lives s e c = (refl, refl)

news-lives : (s : Setting) (e : Event) (c : Call) → (lives s e c).node.news ≡ c.node.news
unfolding lives
news-lives s e c = refl

since-lives : (s : Setting) (e : Event) (c : Call) → (lives s e c).node.since ≡ c.node.since
unfolding lives
since-lives s e c = refl

-- What a step reports is what the call reports of it.
lives-told : (s : Setting) (es : List journal.Event) (os : List (ℕ × List ℕ)) (v : Kept) (c : Call) (e : Event) (life : Life) (r : Report)
    → IsAt s es os v c → Steps v.group e v.membership life r → v.telling.events ++ told_of life.moment r ≡ es ++ (lives s e c).told
lives-told s es os v c e life r h steps =
    let n = h.is in
    let g : s.group ≡ v.group = setting-group s v.group v.heal v.me v.authority v.signer.key n.setting in
    let st : State = state_of s c.node in
    let next : Holds life (step s.group st e).state = subst (λ x. Holds life (step x st e).state) (sym g) (steps.holds st n.holds) in
    let reported : r ≡ (step s.group st e).report = steps.reports st n.holds ∙ ap (λ x. (step x st e).report) (sym g) in
    let moment : life.moment ≡ (step s.group st e).state.moment = sym next.moment_same in
    ap (λ xs. xs ++ told_of life.moment r) h.told ∙ append_assoc es c.told (told_of life.moment r)
    ∙ ap (λ xs. es ++ (c.told ++ xs)) (ap (λ m. told_of m r) moment ∙ ap (told_of (step s.group st e).state.moment) reported) ∙ ap (λ xs. es ++ xs) (sym (told-lives s e c))

-- The code makes this step, with what it reports.
pub lives-at : (s : Setting) (es : List journal.Event) (os : List (ℕ × List ℕ)) (v : Kept) (c : Call) (e : Event) (life : Life) (records : Held) (t : Tellings) (r : Report)
    → (v.telling.failed ≡ false → IsAt s es os v c) → Steps v.group e v.membership life r
    → records ≡ without_all (ended_all v.heal v.records r.expired) r.fell → Adds (with_report life.moment r) v.telling t
    → t.failed ≡ false → IsAt s es os (record v { membership = life; records = records; telling = t }) (lives s e c)
lives-at s es os v c e life records t r p steps kept told fine =
    let on = told.going fine in
    let h = p on.0 in
    let n = h.is in
    let g : s.group ≡ v.group = setting-group s v.group v.heal v.me v.authority v.signer.key n.setting in
    let st : State = state_of s c.node in
    let next : Holds life (step s.group st e).state = subst (λ x. Holds life (step x st e).state) (sym g) (steps.holds st n.holds) in
    let reported : r ≡ (step s.group st e).report = steps.reports st n.holds ∙ ap (λ x. (step x st e).report) (sym g) in
    let left : HoldsRecords records (without_ended r (retires v.heal r c.node.held)) =
    subst (λ x. HoldsRecords x (without_ended r (retires v.heal r c.node.held))) (sym kept)
    (holds-ended v.heal v.records c.node.held r n.records) in
    let ended : HoldsRecords records (lives s e c).node.held =
    subst (λ x. HoldsRecords records x) (held-lives s e c r reported)
    (subst (λ h. HoldsRecords records (without_ended r (retires h r c.node.held))) (sym (setting-heal s v c.node n)) left) in
    record {
      is = record {
        setting = n.setting;
        holds = subst (λ x. Holds life x) (sym (state_of-lives s e c)) next;
        stored = n.stored ∙ sym (kept-lives s e c).0;
        records = ended;
        roster = λ m. n.roster m ∙ sym (certificate-lives s e c m);
        probes = subst (DrawsFor v.detector) (sym (kept-lives s e c).1) n.probes;
        news = n.news ∙ sym (news-lives s e c);
        since = n.since ∙ sym (since-lives s e c);
      };
      told = ap (λ x. x.events) on.1 ∙ lives-told s es os v c e life r h steps;
      sent = ap (λ x. x.sent) on.1 ∙ h.sent ∙ ap (λ xs. os ++ xs) (sym (sent-lives s e c));
      before = told.before ∙ h.before;
    }

pub lives-plays : (s : Setting) (es : List journal.Event) (os : List (ℕ × List ℕ)) (v : Kept) (c : Call) (e : Event) (life : Life) (records : Held) (t : Tellings) (r : Report)
    → Plays s es os v c → Steps v.group e v.membership life r
    → records ≡ without_all (ended_all v.heal v.records r.expired) r.fell → Adds (with_report life.moment r) v.telling t
    → Plays s es os (record v { membership = life; records = records; telling = t }) (lives s e c)
lives-plays s es os v c e life records t r p steps kept told =
    let w : Kept = record v { membership = life; records = records; telling = t } in
    record {
      at = λ fine. lives-at s es os v c e life records t r p.at steps kept told fine;
      due = elim (cases_Bool v.telling.failed) [
        | inl failed ↦ behind-extends es os w c (lives s e c) (behind-same es os v w c (ap (λ (x : Tellings). x.events) (told.stuck failed)) (ap (λ (x : Tellings). x.sent) (told.stuck failed)) p.due) (extends-lives s e c)
        | inr fine ↦ behind-due es os w (lives s e c) (with_report life.moment r) v.telling told (lives-told s es os v c e life r (p.at fine) steps) ((p.at fine).sent ∙ ap (λ xs. os ++ xs) (sym (sent-lives s e c)))
      ];
    }

-- an event that the node reports
pub tells-plays : (s : Setting) (es : List journal.Event) (os : List (ℕ × List ℕ)) (v : Kept) (c : Call) (what : whats.What) (moment : ℕ) (t : Tellings)
    → Plays s es os v c → moment ≡ v.membership.moment → Adds (with_event moment what) v.telling t → Plays s es os (record v { telling = t }) (tells s what c)
tells-plays s es os v c what moment t p now adds =
    let w : Kept = record v { telling = t } in
    let event : ℕ → journal.Event = λ m. record { moment = m; what = what } in
    let is = λ (h : IsAt s es os v c). ap (λ xs. xs ++ event moment ∷ []) h.told ∙ append_assoc es c.told (event moment ∷ []) ∙ ap (λ m. es ++ (c.told ++ event m ∷ [])) (now ∙ sym h.is.holds.moment_same) in
    record {
      at = λ fine.
          let on = adds.going fine in
          let h = p.at on.0 in
          let n = h.is in
          record {
            is = record { setting = n.setting; holds = n.holds; stored = n.stored; records = n.records; roster = n.roster; probes = n.probes; news = n.news; since = n.since };
            told = ap (λ (x : Tellings). x.events) on.1 ∙ is h;
            sent = ap (λ (x : Tellings). x.sent) on.1 ∙ h.sent;
            before = adds.before ∙ h.before;
          };
      due = elim (cases_Bool v.telling.failed) [
        | inl failed ↦ behind-extends es os w c (tells s what c) (behind-same es os v w c (ap (λ (x : Tellings). x.events) (adds.stuck failed)) (ap (λ (x : Tellings). x.sent) (adds.stuck failed)) p.due) (extends-tells s what c)
        | inr fine ↦ behind-due es os w (tells s what c) (with_event moment what) v.telling adds (is (p.at fine)) (p.at fine).sent
      ];
    }

-- ---- an accepted record

-- The record takes the place of what its key held.
abbrev pub holding : Record → Call → Call
holding r c = record c { node = record c.node { held = with_record r c.node.held } }

-- and what its member was removed by is held no more
abbrev pub ending : Body → Call → Call
ending b c = record c { node = record c.node { held = without_removal b c.node.held } }

keeps-is : (s : Setting) (r : Record) (b : Body) (c : Call) → r.body ≡ b
    → keeps s r c ≡ holding r (ending b (lives s (event_of s b) c))
keeps-is s r b c is = ap (λ x. holding r (ending x (lives s (event_of s x) c))) is

taken-is : (s : Setting) (r : Record) (c : Call) → takes s r c ≡ heard_as_news s r.body (keeps s r c)
unfolding takes
taken-is s r c = refl

abbrev news_in : Option Heal → Body → Call → Call
news_in heal b c = record c { node = record c.node { news = with_news heal b c.node.news } }

no-news : (heal : Option Heal) (x : CertBody) (c : Call) → news_in heal (Certificate x) c ≡ c
no-news None x c = refl
no-news (Some heal) x c = refl

pub takes-is : (s : Setting) (r : Record) (x : CertBody) (c : Call) → r.body ≡ Certificate x
    → takes s r c ≡ holding r (lives s (event_of s (Certificate x)) c)
takes-is s r x c is =
    taken-is s r c ∙ ap (λ b. heard_as_news s b (keeps s r c)) is ∙ no-news s.heal x (keeps s r c)
    ∙ keeps-is s r (Certificate x) c is

note_key-apart : (m n : ℕ) → eq_by_cmp key_cmp (keys.Certificate m) (keys.Note n) ≡ false
note_key-apart m n = refl

accusation_key-apart : (m n : ℕ) (ring : RingNo) → eq_by_cmp key_cmp (keys.Certificate m) (keys.Accusation n ring) ≡ false
accusation_key-apart m n ring = refl

abbrev pub IsNoCertificate : Body → Type 0
IsNoCertificate (Certificate c) = ⊥
IsNoCertificate (Note n) = Unit {0}
IsNoCertificate (Accusation a) = Unit {0}

other-with : (r : Record) (held : Holding) (b : Body) (m : ℕ) → r.body ≡ b → IsNoCertificate b → with_record r held (keys.Certificate m) ≡ held (keys.Certificate m)
other-with r held (Certificate c) m is other = absurd other
other-with r held (Note n) m is other = rw is refl
other-with r held (Accusation a) m is other = rw is refl

state-holding : (s : Setting) (r : Record) (c : Call) → state_of s (holding r c).node ≡ state_of s c.node
unfolding state_of
state-holding s r c = refl

certificate-holding : (r : Record) (c : Call) (b : Body) (m : ℕ) → r.body ≡ b → IsNoCertificate b → certificate_of (holding r c).node m ≡ certificate_of c.node m
unfolding certificate_of
certificate-holding r c b m is other = ap (λ o. option_and_then (λ x. certificate_in x.body) o) (other-with r c.node.held b m is other)

-- What the body ends is held no more.
state-ending : (s : Setting) (b : Body) (c : Call) → state_of s (ending b c).node ≡ state_of s c.node
unfolding state_of
state-ending s b c = refl

certificate-ending : (b : Body) (c : Call) (m : ℕ) → certificate_of (ending b c).node m ≡ certificate_of c.node m
unfolding certificate_of
certificate-ending b c m = ap (λ o. option_and_then (λ x. certificate_in x.body) o) (removal-certificate b c.node.held m)

ending-at : (s : Setting) (es : List journal.Event) (os : List (ℕ × List ℕ)) (v : Kept) (c : Call) (b : Body) → IsAt s es os v c
    → IsAt s es os (record v { records = unremoved b v.records }) (ending b c)
ending-at s es os v c b h =
    let n = h.is in
    record {
      is = record {
        setting = n.setting;
        holds = subst (Holds v.membership) (sym (state-ending s b c)) n.holds;
        stored = n.stored;
        records = holds-unremoved b v.records c.node.held n.records;
        roster = λ m. n.roster m ∙ sym (certificate-ending b c m);
        probes = n.probes;
        news = n.news;
        since = n.since;
      };
      told = h.told;
      sent = h.sent;
      before = h.before;
    }

-- a note or an accusation is held
pub holding-at : (s : Setting) (es : List journal.Event) (os : List (ℕ × List ℕ)) (v : Kept) (c : Call) (checked : CheckedRecord) (b : Body) (records : Held)
    → checked.rec.body ≡ b → IsNoCertificate b → records ≡ fin.insert v.records (key_of checked.rec.body) checked → IsAt s es os v c → IsAt s es os (record v { records = records }) (holding checked.rec c)
holding-at s es os v c checked b records is other kept h =
    let n = h.is in
    record {
      is = record {
        setting = n.setting;
        holds = subst (Holds v.membership) (sym (state-holding s checked.rec c)) n.holds;
        stored = n.stored;
        records = subst (λ x. HoldsRecords x (with_record checked.rec c.node.held)) (sym kept) (holds-insert v.records c.node.held checked n.records);
        roster = λ m. n.roster m ∙ sym (certificate-holding checked.rec c b m is other);
        probes = n.probes;
        news = n.news;
        since = n.since;
      };
      told = h.told;
      sent = h.sent;
      before = h.before;
    }

pub keeps-at : (s : Setting) (es : List journal.Event) (os : List (ℕ × List ℕ)) (v : Kept) (c : Call) (checked : CheckedRecord)
    (b : Body) (records : Held)
    → checked.rec.body ≡ b → IsNoCertificate b → records ≡ fin.insert (unremoved b v.records) (key_of checked.rec.body) checked
    → IsAt s es os v (lives s (event_of s b) c) → IsAt s es os (record v { records = records }) (keeps s checked.rec c)
keeps-at s es os v c checked b records is other kept h =
    let c1 : Call = lives s (event_of s b) c in
    subst (IsAt s es os (record v { records = records })) (sym (keeps-is s checked.rec b c is))
    (holding-at s es os (record v { records = unremoved b v.records }) (ending b c1) checked b records is other kept (ending-at s es os v c1 b h))

-- a note is held
pub keeps-plays : (s : Setting) (es : List journal.Event) (os : List (ℕ × List ℕ)) (v : Kept) (c : Call) (checked : CheckedRecord)
    (b : Body) (records : Held)
    → checked.rec.body ≡ b → IsNoCertificate b → records ≡ fin.insert (unremoved b v.records) (key_of checked.rec.body) checked
    → Plays s es os v (lives s (event_of s b) c) → Plays s es os (record v { records = records }) (keeps s checked.rec c)
keeps-plays s es os v c checked b records is other kept p = record {
  at = λ fine. keeps-at s es os v c checked b records is other kept (p.at fine);
  due = subst (IsBehind es os (record v { records = records })) (sym (keeps-is s checked.rec b c is)) (record { told = p.due.told; sent = p.due.sent });
}

-- a record is accepted, which reports nothing
quietly : (s : Setting) (es : List journal.Event) (os : List (ℕ × List ℕ)) (v w : Kept) (c d : Call) → Extends c d
    → w.telling ≡ v.telling → Plays s es os v c → (v.telling.failed ≡ false → IsAt s es os w d) → Plays s es os w d
quietly s es os v w c d further same p at = record {
  at = λ fine. at (sym (ap (λ (t : Tellings). t.failed) same) ∙ fine);
  due = behind-extends es os w c d (behind-same es os v w c (ap (λ (t : Tellings). t.events) same) (ap (λ (t : Tellings). t.sent) same) p.due) further;
}

pub takes-quietly : (s : Setting) (es : List journal.Event) (os : List (ℕ × List ℕ)) (v w : Kept) (c : Call) (r : Record)
    → w.telling ≡ v.telling → Plays s es os v c → (v.telling.failed ≡ false → IsAt s es os w (takes s r c))
    → Plays s es os w (takes s r c)
takes-quietly s es os v w c r same p at = quietly s es os v w c (takes s r c) (extends-takes s r c) same p at

pub keeps-quietly : (s : Setting) (es : List journal.Event) (os : List (ℕ × List ℕ)) (v w : Kept) (c : Call) (r : Record)
    → w.telling ≡ v.telling → Plays s es os v c → (v.telling.failed ≡ false → IsAt s es os w (keeps s r c))
    → Plays s es os w (keeps s r c)
keeps-quietly s es os v w c r same p at = quietly s es os v w c (keeps s r c) (extends-keeps s r c) same p at

-- ---- news

state-fresh : (s : Setting) (k : RecordKey) (c : Call) → state_of s (with_fresh s k c).node ≡ state_of s c.node
unfolding state_of
state-fresh s k c = refl

certificate-fresh : (s : Setting) (k : RecordKey) (c : Call) (m : ℕ)
    → certificate_of (with_fresh s k c).node m ≡ certificate_of c.node m
unfolding certificate_of
certificate-fresh s k c m = refl

-- the key is news, with the option
pub fresh-plays : (s : Setting) (es : List journal.Event) (os : List (ℕ × List ℕ)) (v : Kept) (c : Call) (k : RecordKey) (news : List RecordKey)
    → news ≡ fresh_with v.heal k v.news → Plays s es os v c → Plays s es os (record v { news = news }) (with_fresh s k c)
fresh-plays s es os v c k news is p = record {
  at = λ fine.
      let h = p.at fine in
      let n = h.is in
      record {
        is = record {
          setting = n.setting;
          holds = subst (Holds v.membership) (sym (state-fresh s k c)) n.holds;
          stored = n.stored;
          records = n.records;
          roster = λ m. n.roster m ∙ sym (certificate-fresh s k c m);
          probes = n.probes;
          news = is ∙ ap (λ (h : Option Heal). fresh_with h k v.news) (sym (setting-heal s v c.node n)) ∙ ap (λ (ks : List RecordKey). fresh_with s.heal k ks) n.news;
          since = n.since;
        };
        told = h.told;
        sent = h.sent;
        before = h.before;
      };
  due = record { told = p.due.told; sent = p.due.sent };
}

pub extends-fresh : (s : Setting) (k : RecordKey) (c : Call) → Extends c (with_fresh s k c)
extends-fresh s k c = record { told = front-refl c.told; sent = front-refl c.sent }

news-fresh : (heal : Option Heal) (b : Body) (news : List RecordKey) → IsNoCertificate b
    → with_news heal b news ≡ fresh_with heal (key_of b) news
news-fresh None b news other = refl
news-fresh (Some heal) (Certificate x) news other = absurd other
news-fresh (Some heal) (Note n) news other = refl
news-fresh (Some heal) (Accusation a) news other = refl

-- a note or an accusation is accepted: it is held, and news
pub takes-fresh : (s : Setting) (r : Record) (b : Body) (k : RecordKey) (c : Call) → r.body ≡ b → IsNoCertificate b → k ≡ key_of b
    → takes s r c ≡ with_fresh s k (keeps s r c)
takes-fresh s r b k c is other same =
    let c1 : Call = keeps s r c in
    let with : List RecordKey → Call = λ ks. record c1 { node = record c1.node { news = ks } } in
    taken-is s r c ∙ ap (λ x. with (with_news s.heal x c1.node.news)) is
    ∙ ap with (news-fresh s.heal b c1.node.news other ∙ ap (λ x. fresh_with s.heal x c1.node.news) (sym same))

adds-nothing : (moment : ℕ) (t : Tellings) → Adds (with_report moment nothing) t t
adds-nothing moment t =
    record {
      going = λ ok. (ok, ap (λ xs. record t { events = xs }) (sym (nil-right t.events)));
      stuck = λ failed. refl;
      events = front-refl t.events;
      sent = front-refl t.sent;
      events_due = record { more = []; is = refl };
      sent_due = front-refl t.sent;
      before = refl;
    }

ended-none : (heal : Option Heal) (set : Held) → set ≡ without_all (ended_all heal set []) []
ended-none None set = refl
ended-none (Some heal) set = refl

-- an event that reports nothing
pub quiet-at : (s : Setting) (es : List journal.Event) (os : List (ℕ × List ℕ)) (v : Kept) (c : Call) (e : Event) (life : Life)
    → (v.telling.failed ≡ false → IsAt s es os v c) → Steps v.group e v.membership life nothing → v.telling.failed ≡ false → IsAt s es os (record v { membership = life }) (lives s e c)
quiet-at s es os v c e life p steps fine =
    lives-at s es os v c e life v.records v.telling nothing p steps (ended-none v.heal v.records)
    (adds-nothing life.moment v.telling) fine

-- ---- a certificate

same_number : (a b : ℕ) → eq_by_cmp key_cmp (keys.Certificate a) (keys.Certificate b) ≡ eq_by_cmp nat_cmp a b
same_number a b = grind (arith, nat_tests)

certificate-cond : (b : Bool) (r : Record) (o : Option Record) (c : CertBody) → r.body ≡ Certificate c → option_and_then (λ x. certificate_in x.body) (cond b (Some r) o) ≡ cond b (Some c) (option_and_then (λ x. certificate_in x.body) o)
certificate-cond true r o c is = rw is refl
certificate-cond false r o c is = refl

pub certificate-held : (r : Record) (c : Call) (x : CertBody) (m : ℕ) → r.body ≡ Certificate x → certificate_of (holding r c).node m ≡ cond (eq_by_cmp nat_cmp m x.member) (Some x) (certificate_of c.node m)
unfolding certificate_of
certificate-held r c x m is =
    let at : eq_by_cmp key_cmp (keys.Certificate m) (key_of r.body) ≡ eq_by_cmp nat_cmp m x.member = ap (λ b. eq_by_cmp key_cmp (keys.Certificate m) (key_of b)) is ∙ same_number m x.member in
    ap (λ b. option_and_then (λ y. certificate_in y.body) (cond b (Some r) (c.node.held (keys.Certificate m)))) at ∙ certificate-cond (eq_by_cmp nat_cmp m x.member) r (c.node.held (keys.Certificate m)) x is

pub certified-at : (s : Setting) (es : List journal.Event) (os : List (ℕ × List ℕ)) (v : Kept) (c : Call) (checked : CheckedRecord) (x : CertBody) (records : Held) (roster : Certificates)
    → checked.rec.body ≡ Certificate x → records ≡ fin.insert v.records (key_of checked.rec.body) checked → roster ≡ fin.insert v.roster x.member x
    → IsAt s es os v (lives s (Joins x.member (s.places x.member)) c) → IsAt s es os (record v { records = records; roster = roster }) (takes s checked.rec c)
certified-at s es os v c checked x records roster is kept listed h =
    let n = h.is in
    let c1 : Call = lives s (Joins x.member (s.places x.member)) c in
    let at : IsAt s es os (record v { records = records; roster = roster }) (holding checked.rec c1) =
    record {
      is = record {
        setting = n.setting;
        holds = subst (Holds v.membership) (sym (state-holding s checked.rec c1)) n.holds;
        stored = n.stored;
        records = subst (λ y. HoldsRecords y (with_record checked.rec c1.node.held)) (sym kept) (holds-insert v.records c1.node.held checked n.records);
        roster = λ m. ap (λ y. kept_certificate y m) listed ∙ fin.get-insert nat_cmp_total v.roster x.member x m ∙ ap (λ o. cond (eq_by_cmp nat_cmp m x.member) (Some x) o) (n.roster m) ∙ sym (certificate-held checked.rec c1 x m is);
        probes = n.probes;
        news = n.news;
        since = n.since;
      };
      told = h.told;
      sent = h.sent;
      before = h.before;
    } in
    subst (IsAt s es os (record v { records = records; roster = roster })) (sym (takes-is s checked.rec x c is)) at

pub places-of : (s : Setting) (v : Kept) (c : Call) (m : ℕ) → IsNode s v c.node → s.places m ≡ hashed_places v.group.tag v.group.t m
unfolding setting_of
places-of s v c m n = ap (λ x. x.places m) n.setting

pub still-joined : (life next : Life) (me m : ℕ) (places : List (List ℕ)) (answer : Result (Unit {0}) Fault) → has_joined life me ≡ true → OnOk answer (next.places ≡ fin.insert life.places m places) → OnErr answer (next ≡ life) → has_joined next me ≡ true
still-joined life next me m places (Ok x) h ok err =
    ap (λ ps. fin.contains_key ps me) ok ∙ ap is_some (fin.get-insert nat_cmp_total life.places m places me) ∙ some-cond (eq_by_cmp nat_cmp me m) places (fin.get life.places me) h
  where
    some-cond : (b : Bool) (x : List (List ℕ)) (o : Option (List (List ℕ))) → is_some o ≡ true → is_some (cond b (Some x) o) ≡ true
    some-cond true x o h = refl
    some-cond false x o h = h
still-joined life next me m places (Err e) h ok err = ap (λ l. has_joined l me) err ∙ h

-- ---- a datagram

pub length-append : {X : Type 0} (xs ys : List X) → length (xs ++ ys) ≡ length xs + length ys
length-append [] ys = omega arith
length-append (x ∷ xs) ys = omega (arith, length-append xs ys)

-- What is due is what the call reports and sends.
record IsSent (s : Setting) (es : List journal.Event) (os : List (ℕ × List ℕ)) (c d : Call) (t : Tellings) : Type 0 where
  told : t.events ≡ es ++ d.told
  sent : t.sent ≡ os ++ d.sent

is-sent : (s : Setting) (es : List journal.Event) (os : List (ℕ × List ℕ)) (v : Kept) (c : Call) (d : Datagram) (to moment : ℕ) (bytes : List ℕ)
    → IsAt s es os v c → bytes ≡ datagram_bytes d → moment ≡ v.membership.moment → IsSent s es os c (sends s d c to) (with_sent moment bytes to v.telling)
unfolding sends
is-sent s es os v c d to moment bytes h spelled now =
    let n = h.is in
    let at : moment ≡ (state_of s c.node).moment = now ∙ sym n.holds.moment_same in
    let number : length v.telling.sent - v.telling.before ≡ length c.sent =
    omega (arith, ap (λ (xs : List (ℕ × List ℕ)). length xs) h.sent, length-append os c.sent, h.before) in
    let event : ℕ → ℕ → List ℕ → journal.Event = λ m k b. record { moment = m; what = told.Sent k to b } in
    let same : event moment (length v.telling.sent - v.telling.before) bytes ≡ event (state_of s c.node).moment (length c.sent) (datagram_bytes d) =
    ap (λ m. event m (length v.telling.sent - v.telling.before) bytes) at ∙ ap (λ k. event (state_of s c.node).moment k bytes) number ∙ ap (λ b. event (state_of s c.node).moment (length c.sent) b) spelled in
    record {
      told = ap (λ xs. xs ++ event moment (length v.telling.sent - v.telling.before) bytes ∷ []) h.told ∙ append_assoc es c.told _ ∙ ap (λ e. es ++ (c.told ++ e ∷ [])) same;
      sent = ap (λ xs. xs ++ (to, bytes) ∷ []) h.sent ∙ append_assoc os c.sent _ ∙ ap (λ b. os ++ (c.sent ++ (to, b) ∷ [])) spelled;
    }

node-sends : (s : Setting) (d : Datagram) (c : Call) (to : ℕ) → (sends s d c to).node ≡ c.node
unfolding sends
node-sends s d c to = refl

pub sends-plays : (s : Setting) (es : List journal.Event) (os : List (ℕ × List ℕ)) (v : Kept) (c : Call) (d : Datagram) (to moment : ℕ) (bytes : List ℕ) (t : Tellings)
    → Plays s es os v c → bytes ≡ datagram_bytes d → moment ≡ v.membership.moment → Adds (with_sent moment bytes to) v.telling t → Plays s es os (record v { telling = t }) (sends s d c to)
sends-plays s es os v c d to moment bytes t p spelled now adds =
    let w : Kept = record v { telling = t } in
    record {
      at = λ fine.
          let on = adds.going fine in
          let h = p.at on.0 in
          let n = h.is in
          let due = is-sent s es os v c d to moment bytes h spelled now in
          let is : IsNode s w c.node =
          record { setting = n.setting; holds = n.holds; stored = n.stored; records = n.records; roster = n.roster; probes = n.probes; news = n.news; since = n.since } in
          record {
            is = subst (IsNode s w) (sym (node-sends s d c to)) is;
            told = ap (λ (x : Tellings). x.events) on.1 ∙ due.told;
            sent = ap (λ (x : Tellings). x.sent) on.1 ∙ due.sent;
            before = adds.before ∙ h.before;
          };
      due = elim (cases_Bool v.telling.failed) [
        | inl failed ↦ behind-extends es os w c (sends s d c to) (behind-same es os v w c (ap (λ (x : Tellings). x.events) (adds.stuck failed)) (ap (λ (x : Tellings). x.sent) (adds.stuck failed)) p.due) (extends-sends s d c to)
        | inr fine ↦
            let due = is-sent s es os v c d to moment bytes (p.at fine) spelled now in
            behind-due es os w (sends s d c to) (with_sent moment bytes to) v.telling adds due.told due.sent
      ];
    }

-- ---- neighbours

any-one : (f : ℕ → Option ℕ) (rings : List ℕ) (m r : ℕ) (o : Option ℕ) → f r ≡ o → list_any (λ x. eqb x m) (filter_map f rings) ≡ list_any (λ o. is_number o m) (map f rings)
    → list_any (λ x. eqb x m) (filter_map f (r ∷ rings)) ≡ list_any (λ o. is_number o m) (map f (r ∷ rings))
any-one f rings m r None e h = rw e h
any-one f rings m r (Some x) e h = rw e (ap (λ b. eqb x m || b) h)

any-filter_map : (f : ℕ → Option ℕ) (rings : List ℕ) (m : ℕ) → list_any (λ x. eqb x m) (filter_map f rings) ≡ list_any (λ o. is_number o m) (map f rings)
any-filter_map f [] m = refl
any-filter_map f (r ∷ rings) m = any-one f rings m r (f r) refl (any-filter_map f rings m)

pub filter-same : (p q : ℕ → Bool) (xs : List ℕ) → ((x : ℕ) → p x ≡ q x) → filter p xs ≡ filter q xs
filter-same p q [] h = refl
filter-same p q (x ∷ xs) h = rw (h x) (ap (λ ys. cond (q x) (x ∷ ys) ys) (filter-same p q xs h))

abbrev pub listed_on : Group → ℕ → State → Option ℕ → List (Option ℕ)
listed_on g me st also = also ∷ map (λ ring. successor st ring me) (range_with_len 0 (ring_count g.t))

pub addressees-are : (s : Setting) (st : State) (also : Option ℕ) → filter (λ m. list_any (λ o. is_number o m) (listed_on s.group s.me st also)) all_numbers ≡ addressees s also st
unfolding neighbours neighbours_and
addressees-are s st None = filter-same _ _ all_numbers (λ m. sym (any-filter_map (λ ring. successor st ring s.me) (range_with_len 0 (ring_count s.group.t)) m))
addressees-are s st (Some x) = filter-same _ _ all_numbers (λ m. ap (λ b. eqb x m || b) (sym (any-filter_map (λ ring. successor st ring s.me) (range_with_len 0 (ring_count s.group.t)) m)))

abbrev pub wanted_of : List (Option ℕ) → ℕ → List ℕ
wanted_of listed n = filter (λ m. list_any (λ o. is_number o m) listed) (range_with_len 0 n)

pub filter-append : {X : Type 0} (p : X → Bool) (xs ys : List X) → filter p (xs ++ ys) ≡ filter p xs ++ filter p ys
filter-append p [] ys = refl
filter-append p (x ∷ xs) ys =
    cond_both (p x) (x ∷ filter p (xs ++ ys)) (filter p (xs ++ ys)) (λ zs. zs ≡ cond (p x) (x ∷ filter p xs) (filter p xs) ++ filter p ys)
    (λ it. rw it (ap (λ zs. x ∷ zs) (filter-append p xs ys)))
    (λ off. rw off (filter-append p xs ys))

fold-append : {A B : Type 0} (f : B → A → B) (b : B) (xs ys : List A) → fold f b (xs ++ ys) ≡ fold f (fold f b xs) ys
fold-append f b [] ys = refl
fold-append f b (x ∷ xs) ys = fold-append f (f b x) xs ys

-- one more number
pub sends-more : (s : Setting) (listed : List (Option ℕ)) (n : ℕ) (d : Datagram) (c : Call)
    → cond (list_any (λ o. is_number o n) listed) (sends s d (sends_to_all s (wanted_of listed n) d c) n) (sends_to_all s (wanted_of listed n) d c) ≡ sends_to_all s (wanted_of listed (n + 1)) d c
sends-more s listed n d c =
    let wanted : ℕ → Bool = λ m. list_any (λ o. is_number o m) listed in
    let longer : range_with_len 0 (n + 1) ≡ range_with_len 0 n ++ n ∷ [] = range-more n in
    let split : wanted_of listed (n + 1) ≡ wanted_of listed n ++ filter wanted (n ∷ []) = ap (filter wanted) longer ∙ filter-append wanted (range_with_len 0 n) (n ∷ []) in
    cond_both (wanted n) (sends s d (sends_to_all s (wanted_of listed n) d c) n) (sends_to_all s (wanted_of listed n) d c) (λ x. x ≡ sends_to_all s (wanted_of listed (n + 1)) d c)
    (λ it. sym (ap (λ xs. sends_to_all s xs d c) (split ∙ ap (λ b. wanted_of listed n ++ cond b (n ∷ []) []) it) ∙ fold-append (sends s d) c (wanted_of listed n) (n ∷ [])))
    (λ off. sym (ap (λ xs. sends_to_all s xs d c) (split ∙ ap (λ b. wanted_of listed n ++ cond b (n ∷ []) []) off ∙ nil-right (wanted_of listed n))))

pub grows-trans : (a b c : Kept) → Grows a b → Grows b c → Grows a c
grows-trans a b c p q =
    record {
      going = λ ok. p.going (q.going ok);
      stuck = λ failed. let same = p.stuck failed in q.stuck (ap (λ (t : Tellings). t.failed) same ∙ failed) ∙ same;
      events = front-trans a.telling.events b.telling.events c.telling.events p.events q.events;
      sent = front-trans a.telling.sent b.telling.sent c.telling.sent p.sent q.sent;
      before = q.before ∙ p.before;
      ended = q.ended ∙ p.ended;
      group = q.group ∙ p.group;
      heal = q.heal ∙ p.heal;
      me = q.me ∙ p.me;
      roster = λ m x is. q.roster m x (p.roster m x is);
    }

-- whatever the signer was
pub grows-signer : (a b : Kept) (signer : SignerState) → Grows (record a { signer = signer }) b → Grows a b
grows-signer a b signer h =
    record { going = h.going; stuck = h.stuck; events = h.events; sent = h.sent; before = h.before; ended = h.ended; group = h.group; heal = h.heal; me = h.me; roster = h.roster }

-- what adds to what is reported grows it
pub grows-adds : (v : Kept) (life next : Life) (held later : Held) (f : Tellings → Tellings) (a b : Tellings) → Adds f a b → Grows (with_known v life held a) (with_known v next later b)
grows-adds v life next held later f a b h =
    record { going = λ fine. (h.going fine).0; stuck = h.stuck; events = h.events; sent = h.sent; before = h.before; ended = refl; group = refl; heal = refl; me = refl; roster = λ m x is. is }

pub grows-refl : (a : Kept) → Grows a a
grows-refl a =
    record { going = λ ok. ok; stuck = λ failed. refl; events = front-refl a.telling.events; sent = front-refl a.telling.sent; before = refl; ended = refl; group = refl; heal = refl; me = refl; roster = λ m x is. is }

-- the list of all that are wanted is that of the addressees
pub all-wanted : (s : Setting) (v : Kept) (n : Node) (also : Option ℕ) (listed : List (Option ℕ)) → IsNode s v n → v.membership.group ≡ v.group
    → ((st : State) → Holds v.membership st → listed ≡ also ∷ map (λ ring. successor st ring v.me) (range_with_len 0 (ring_count v.membership.group.t)))
    → wanted_of listed MEMBERS ≡ addressees s also (state_of s n)
unfolding all_numbers
all-wanted s v n also listed is same h =
    let st : State = state_of s n in
    let g : s.group ≡ v.group = setting-group s v.group v.heal v.me v.authority v.signer.key is.setting in
    let m : s.me ≡ v.me = setting-me s v.group v.heal v.me v.authority v.signer.key is.setting in
    let these : listed ≡ listed_on s.group s.me st also =
    h st is.holds ∙ ap (λ (x : Group). listed_on x v.me st also) (same ∙ sym g) ∙ ap (λ x. listed_on s.group x st also) (sym m) in
    ap (λ xs. wanted_of xs MEMBERS) these ∙ addressees-are s st also
