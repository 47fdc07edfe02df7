-- A small step of the code is that of the definitions.
use Rattle.std.proofs.Common.{◌≡◌, ℕ, ◌≤◌, ◌+◌, eqb, Bool, true, false, cond, List, [], ◌∷◌, ◌++◌, Option, Some, None, refl, ap, sym, ◌∙◌, subst, map, length, Result, Ok, Err, OnOk, OnErr}
use Rattle.std.specs.Prelude.{fold, is_some}
use Rattle.std.specs.Option.{option_map, option_and_then}
use Rattle.std.specs.Ordering.{eq_by_cmp, nat_cmp}
use Rattle.std.specs.FinMap as fin
use Rattle.std.proofs.Common.{arith}
use Rattle.std.proofs.lemmas.Bool.Decides.{nat_tests}
use Rattle.std.proofs.lemmas.Cmp.{nat_cmp_total}
use Rattle.ff_ids.specs.declared.TheConstants.{MEMBERS}
use Rattle.ff_ids.specs.declared.RingNo.{RingNo}
use Rattle.ring_order.specs.Hashed.{hashed_places}
use Rattle.ff_ids.specs.declared.Group.{Group}
use Rattle.ff_ids.specs.Heals.{Heal}
use Rattle.ff_ids.specs.declared.AccBody.{AccBody}
use Rattle.ff_ids.specs.declared.Fault.{Fault}
use Rattle.ff_ids.specs.declared.summary.RecordKey.{RecordKey}
use Rattle.ff_ids.specs.declared.summary.RecordKey.TheVariants as keys
use Rattle.ff_ids.specs.Views.{State, successor, all_numbers}
use Rattle.ff_ids.specs.Steps.{Event, Joins, Report, step, nothing}
use Rattle.membership.specs.Life.{Life, has_joined}
use Rattle.membership.specs.Holds.{Holds}
use Rattle.records.specs.declared.CertBody.{CertBody}
use Rattle.records.specs.declared.Body.{Body}
use Rattle.records.specs.declared.Body.TheVariants.{Certificate, Note, Accusation}
use Rattle.records.specs.declared.Record.{Record}
use Rattle.records.specs.Signing.{CheckedRecord}
use Rattle.validate.specs.Certified.{Certificates, certificate_of as kept_certificate}
use Rattle.record_slots.specs.Held.{key_cmp, key_of, held_under, with_option, retired}
use Rattle.audit_set.specs.declared.known.Known.{Known}
use Rattle.audit_set.specs.declared.known.Known.TheVariants as knowns
use Rattle.audit_set.specs.Knowns.{body_of}
use Rattle.audit_set.specs.Sets.{HeldKnown}
use Rattle.record_slots.proofs.KeyLemmas.{key_cmp_total}
use Rattle.detector.specs.Kept.{StandsFor}
use Rattle.journal.specs.declared.event.Event as journal
use Rattle.node_rules.specs.Nodes.{Setting, Node, Holding, state_of, event_of, with_record, without, without_ended, moved, retires, without_removal, with_news, key_of_accusation, certificate_in, certificate_of}
use Rattle.node_rules.specs.Calls.{Call, tells, lives, takes, told_of, sends, sends_to_all, spends, signs, signs_and_sends, own_record, wants, is_used_up}
use Rattle.datagram.specs.declared.Datagram.TheVariants as kinds
use Rattle.signer.specs.Signing.{stored_after}
use Rattle.epoch_store.specs.declared.Stored.{Stored}
use Rattle.ff_ids.specs.declared.Mask.{Mask}
use Rattle.datagram.specs.declared.Datagram.{Datagram}
use Rattle.datagram.specs.Spelling.{datagram_bytes, IsSignedRecord}
use Rattle.records.specs.Spelling.{IsBody}
use Rattle.node_rules.specs.Claims.{signer_of}
use Rattle.node_rules.specs.Sending.{is_sent}
use Rattle.audit_set.specs.declared.known.Unseen.{Unseen}
use Rattle.journal.specs.declared.event.What as whats
use Rattle.journal.specs.declared.event.What.TheVariants as told
use Rattle.ff_ids.specs.Masks.{ring_count}
use Rattle.std.specs.List.{range_with_len}
use Rattle.node_rules.proofs.Small.{state_of-lives}
use Rattle.node_rules.proofs.OwnKey.{ended-certificate, removal-certificate}
use Rattle.node_rules.proofs.Retiring.{retires-once}
use Rattle.audit_node.specs.declared.owing.Owed.{Owed}
use Rattle.audit_node.specs.declared.owing.OwedEvent.{OwedEvent}
use Rattle.audit_node.specs.Owing.{reported, what_of, told_by, owed_as}
use Rattle.audit_node.specs.Neighbours.{addressees}
use Rattle.audit_node.specs.Told.{Tellings, Adds, with_event, with_report, with_sent}
use Rattle.audit_node.specs.Records.{without_all, retired_all, ended_all}
use Rattle.audit_node.specs.News.{keeps, heard_as_news, fresh_with, with_fresh}
use Rattle.audit_node.specs.Signatures.{with_stored, next_own}
use Rattle.audit_rules.specs.Heads.{setting_with}
use Rattle.audit_node.specs.Playing.{Kept, HoldsRecords, IsOwn, IsSendable, Signs, record_of, IsMirror, IsAt, Plays, Grows, Tells}
use Rattle.audit_node.specs.Sendable.{IsFair}
use Rattle.audit_node.proofs.SendableLemmas.{quiet-fair, report-fair, tells-more}
use Rattle.audit_node.proofs.TellingLemmas.{nil-right, told-as, adds-refl}
pub use Rattle.audit_node.proofs.StepLemmas.{Steps, note-steps, accusation-steps, tick-steps, join-steps}
pub use Rattle.audit_node.proofs.NeighbourLemmas.{filter-same, addressees-are, filter-append, range-more, map-more, sends-more, listed_on, wanted_of}
pub use Rattle.audit_node.proofs.GrowthLemmas.{grows-trans, grows-stored, grows-adds, grows-refl, grows-refused, plays-refused, from-fine}

-- ---- what is held

abbrev rec_of : Setting → Option Known → Option Record
rec_of s o = option_map (record_of s) o

cond-map : (s : Setting) (b : Bool) (x y : Option Known) → rec_of s (cond b x y) ≡ cond b (rec_of s x) (rec_of s y)
cond-map s true x y = refl
cond-map s false x y = refl

sendable-cond : (s : Setting) (b : Bool) (x y : Option Known) → IsSendable s x → IsSendable s y → IsSendable s (cond b x y)
sendable-cond s true x y one other = one
sendable-cond s false x y one other = other

pub holds-remove : (s : Setting) (set : HeldKnown) (held : Holding) (k : RecordKey) → HoldsRecords s set held → HoldsRecords s (fin.remove set k) (without held k)
holds-remove s set held k h = record {
  are = λ q. ap (rec_of s) (fin.get-remove key_cmp_total set k q) ∙ cond-map s (eq_by_cmp key_cmp q k) None (held_under set q) ∙ ap (λ x. cond (eq_by_cmp key_cmp q k) None x) (h.are q);
  sendable = λ q. subst (IsSendable s) (sym (fin.get-remove key_cmp_total set k q)) (sendable-cond s (eq_by_cmp key_cmp q k) None (held_under set q) tt (h.sendable q));
}

holds-put : (s : Setting) (set : HeldKnown) (held : Holding) (k : RecordKey) (x : Known) → IsSendable s (Some x) → HoldsRecords s set held → HoldsRecords s (fin.insert set k x) (λ q. cond (eq_by_cmp key_cmp q k) (Some (record_of s x)) (held q))
holds-put s set held k x can h = record {
  are = λ q. ap (rec_of s) (fin.get-insert key_cmp_total set k x q) ∙ cond-map s (eq_by_cmp key_cmp q k) (Some x) (held_under set q) ∙ ap (λ y. cond (eq_by_cmp key_cmp q k) (Some (record_of s x)) y) (h.are q);
  sendable = λ q. subst (IsSendable s) (sym (fin.get-insert key_cmp_total set k x q)) (sendable-cond s (eq_by_cmp key_cmp q k) (Some x) (held_under set q) can (h.sendable q));
}

pub holds-insert : (s : Setting) (set : HeldKnown) (held : Holding) (x : Known) → IsSendable s (Some x) → HoldsRecords s set held → HoldsRecords s (fin.insert set (key_of (body_of x)) x) (with_record (record_of s x) held)
holds-insert s set held (knowns.Came c) can h = holds-put s set held (key_of c.rec.body) (knowns.Came c) can h
holds-insert s set held (knowns.Own o) can h = holds-put s set held (key_of o.body) (knowns.Own o) can h

pub holds-without : (s : Setting) (set : HeldKnown) (held : Holding) (ended : List AccBody) → HoldsRecords s set held → HoldsRecords s (without_all set ended) (fold without held (map key_of_accusation ended))
holds-without s set held [] h = h
holds-without s set held (a ∷ ended) h = holds-without s (fin.remove set (key_of_accusation a)) (without held (key_of_accusation a)) ended (holds-remove s set held (key_of_accusation a) h)

fold-map-append : (held : Holding) (xs ys : List AccBody) → fold without held (map key_of_accusation (xs ++ ys)) ≡ fold without (fold without held (map key_of_accusation xs)) (map key_of_accusation ys)
fold-map-append held [] ys = refl
fold-map-append held (x ∷ xs) ys = fold-map-append (without held (key_of_accusation x)) xs ys

-- a removal takes the place of what its key held
retired-under : (s : Setting) (set : HeldKnown) (m : ℕ) (ring : RingNo) (q : RecordKey) (o : Option Known)
    → rec_of s (fin.get (with_option (fin.remove set (keys.Accusation m ring)) (keys.Removal m) o) q)
    ≡ cond (eq_by_cmp key_cmp q (keys.Removal m)) (rec_of s o)
    (cond (eq_by_cmp key_cmp q (keys.Accusation m ring)) None (rec_of s (held_under set q)))
retired-under s set m ring q None =
    let left : HeldKnown = fin.remove set (keys.Accusation m ring) in
    ap (rec_of s) (fin.get-remove key_cmp_total left (keys.Removal m) q)
    ∙ cond-map s (eq_by_cmp key_cmp q (keys.Removal m)) None (held_under left q)
    ∙ ap (λ x. cond (eq_by_cmp key_cmp q (keys.Removal m)) None x)
    (ap (rec_of s) (fin.get-remove key_cmp_total set (keys.Accusation m ring) q) ∙ cond-map s (eq_by_cmp key_cmp q (keys.Accusation m ring)) None (held_under set q))
retired-under s set m ring q (Some c) =
    let left : HeldKnown = fin.remove set (keys.Accusation m ring) in
    ap (rec_of s) (fin.get-insert key_cmp_total left (keys.Removal m) c q)
    ∙ cond-map s (eq_by_cmp key_cmp q (keys.Removal m)) (Some c) (held_under left q)
    ∙ ap (λ x. cond (eq_by_cmp key_cmp q (keys.Removal m)) (Some (record_of s c)) x)
    (ap (rec_of s) (fin.get-remove key_cmp_total set (keys.Accusation m ring) q) ∙ cond-map s (eq_by_cmp key_cmp q (keys.Accusation m ring)) None (held_under set q))

sendable-retired : (s : Setting) (set : HeldKnown) (m : ℕ) (ring : RingNo) (q : RecordKey) (o : Option Known) → IsSendable s o → ((k : RecordKey) → IsSendable s (held_under set k))
    → IsSendable s (fin.get (with_option (fin.remove set (keys.Accusation m ring)) (keys.Removal m) o) q)
sendable-retired s set m ring q None one h =
    let left : HeldKnown = fin.remove set (keys.Accusation m ring) in
    subst (IsSendable s) (sym (fin.get-remove key_cmp_total left (keys.Removal m) q))
    (sendable-cond s (eq_by_cmp key_cmp q (keys.Removal m)) None (held_under left q) tt
    (subst (IsSendable s) (sym (fin.get-remove key_cmp_total set (keys.Accusation m ring) q)) (sendable-cond s (eq_by_cmp key_cmp q (keys.Accusation m ring)) None (held_under set q) tt (h q))))
sendable-retired s set m ring q (Some c) one h =
    let left : HeldKnown = fin.remove set (keys.Accusation m ring) in
    subst (IsSendable s) (sym (fin.get-insert key_cmp_total left (keys.Removal m) c q))
    (sendable-cond s (eq_by_cmp key_cmp q (keys.Removal m)) (Some c) (held_under left q) one
    (subst (IsSendable s) (sym (fin.get-remove key_cmp_total set (keys.Accusation m ring) q)) (sendable-cond s (eq_by_cmp key_cmp q (keys.Accusation m ring)) None (held_under set q) tt (h q))))

apart-keys : (m : ℕ) (ring : RingNo) (x y : Option Record) (q : RecordKey)
    → cond (eq_by_cmp key_cmp q (keys.Removal m)) x (cond (eq_by_cmp key_cmp q (keys.Accusation m ring)) None y)
    ≡ cond (eq_by_cmp key_cmp q (keys.Accusation m ring)) None (cond (eq_by_cmp key_cmp q (keys.Removal m)) x y)
apart-keys m ring x y (keys.Certificate n) = refl
apart-keys m ring x y (keys.Note n) = refl
apart-keys m ring x y (keys.Accusation n other) = refl
apart-keys m ring x y (keys.Removal n) = refl

holds-moved : (s : Setting) (set : HeldKnown) (held : Holding) (a : AccBody) → HoldsRecords s set held
    → HoldsRecords s (retired set a.accused a.ring) (moved held a)
holds-moved s set held a h =
    let here : RecordKey = key_of_accusation a in
    record {
      are = λ q. retired-under s set a.accused a.ring q (held_under set here)
          ∙ ap
          (λ x. cond (eq_by_cmp key_cmp q (keys.Removal a.accused)) x (cond (eq_by_cmp key_cmp q here) None (rec_of s (held_under set q))))
          (h.are here)
          ∙ ap (λ y. cond (eq_by_cmp key_cmp q (keys.Removal a.accused)) (held here) (cond (eq_by_cmp key_cmp q here) None y)) (h.are q)
          ∙ apart-keys a.accused a.ring (held here) (held q) q;
      sendable = λ q. sendable-retired s set a.accused a.ring q (held_under set here) (h.sendable here) h.sendable;
    }

holds-moved_all : (s : Setting) (set : HeldKnown) (held : Holding) (ended : List AccBody) → HoldsRecords s set held
    → HoldsRecords s (retired_all set ended) (fold moved held ended)
holds-moved_all s set held [] h = h
holds-moved_all s set held (a ∷ ended) h =
    holds-moved_all s (retired set a.accused a.ring) (moved held a) ended (holds-moved s set held a h)

-- where the same is held
holds-same : (s : Setting) (set : HeldKnown) (held later : Holding) → ((q : RecordKey) → held q ≡ later q) → HoldsRecords s set held → HoldsRecords s set later
holds-same s set held later same h = record { are = λ q. h.are q ∙ same q; sendable = h.sendable }

pub holds-ended : (s : Setting) (heal : Option Heal) (set : HeldKnown) (held : Holding) (r : Report) → HoldsRecords s set held
    → HoldsRecords s (without_all (ended_all heal set r.expired) r.fell) (without_ended r (retires heal r held))
holds-ended s None set held r h =
    let two = holds-without s (without_all set r.expired) (fold without held (map key_of_accusation r.expired)) r.fell (holds-without s set held r.expired h) in
    holds-same s _ _ _ (λ q. ap (λ f. f q) (sym (fold-map-append held r.expired r.fell))) two
holds-ended s (Some heal) set held r h =
    let two = holds-without s (retired_all set r.expired) (fold moved held r.expired) r.fell (holds-moved_all s set held r.expired h) in
    holds-same s _ _ _ (λ q. sym (retires-once heal r held q)) two

-- the records without the removal that the body ends
abbrev pub unremoved : Body → HeldKnown → HeldKnown
unremoved (Certificate c) set = set
unremoved (Note n) set = fin.remove set (keys.Removal n.member)
unremoved (Accusation a) set = set

holds-unremoved : (s : Setting) (b : Body) (set : HeldKnown) (held : Holding) → HoldsRecords s set held
    → HoldsRecords s (unremoved b set) (without_removal b held)
holds-unremoved s (Certificate c) set held h = h
holds-unremoved s (Note n) set held h = holds-remove s set held (keys.Removal n.member) h
holds-unremoved s (Accusation a) set held h = h

-- ---- the setting

pub setting-group : (s : Setting) (v : Kept) (n : Node) → IsMirror s v n → s.group ≡ v.group
unfolding setting_with
setting-group s v n is = ap (λ x. x.group) is.setting

pub setting-me : (s : Setting) (v : Kept) (n : Node) → IsMirror s v n → s.me ≡ v.me
unfolding setting_with
setting-me s v n is = ap (λ x. x.me) is.setting

pub setting-heal : (s : Setting) (v : Kept) (n : Node) → IsMirror s v n → s.heal ≡ v.heal
unfolding setting_with
setting-heal s v n is = ap (λ x. x.heal) is.setting

pub setting-indexes : (s : Setting) (v : Kept) (n : Node) → IsMirror s v n → s.indexes ≡ v.indexes
unfolding setting_with
setting-indexes s v n is = ap (λ x. x.indexes) is.setting

-- ---- an event of the life

pub certificate-lives : (s : Setting) (e : Event) (c : Call) (m : ℕ) → certificate_of (lives s e c).node m ≡ certificate_of c.node m
unfolding lives certificate_of
certificate-lives s e c m =
    ap (λ o. option_and_then (λ r. certificate_in r.body) o)
    (ended-certificate s.heal (step s.group (state_of s c.node) e).report c.node.held m)

held-lives : (s : Setting) (e : Event) (c : Call) (r : Report) → r ≡ (step s.group (state_of s c.node) e).report
    → without_ended r (retires s.heal r c.node.held) ≡ (lives s e c).node.held
unfolding lives
held-lives s e c r is = ap (λ x. without_ended x (retires s.heal x c.node.held)) is

told-lives : (s : Setting) (e : Event) (c : Call) → (lives s e c).told ≡ c.told ++ told_of (step s.group (state_of s c.node) e).state.moment (step s.group (state_of s c.node) e).report
unfolding lives
told-lives s e c = refl

sent-lives : (s : Setting) (e : Event) (c : Call) → (lives s e c).sent ≡ c.sent
unfolding lives
sent-lives s e c = refl

kept-lives : (s : Setting) (e : Event) (c : Call) → ((lives s e c).node.stored ≡ c.node.stored) × ((lives s e c).node.probes ≡ c.node.probes)
unfolding lives
kept-lives s e c = (refl, refl)

news-lives : (s : Setting) (e : Event) (c : Call) → (lives s e c).node.news ≡ c.node.news
unfolding lives
news-lives s e c = refl

since-lives : (s : Setting) (e : Event) (c : Call) → (lives s e c).node.since ≡ c.node.since
unfolding lives
since-lives s e c = refl

-- What a step reports is what the call reports of it.
lives-told : (s : Setting) (es : List journal.Event) (v : Kept) (c : Call) (e : Event) (life : Life) (r : Report)
    → IsAt s es v c → Steps v.group e v.membership life r → Tells s es (v.telling.events ++ map owed_as (told_of life.moment r)) (lives s e c).told
lives-told s es v c e life r h steps =
    let n = h.is in
    let g : s.group ≡ v.group = setting-group s v c.node n in
    let st : State = state_of s c.node in
    let next : Holds life (step s.group st e).state = subst (λ x. Holds life (step x st e).state) (sym g) (steps.holds st n.holds) in
    let reported : r ≡ (step s.group st e).report = steps.reports st n.holds ∙ ap (λ x. (step x st e).report) (sym g) in
    let moment : life.moment ≡ (step s.group st e).state.moment = sym next.moment_same in
    let told : List journal.Event = told_of (step s.group st e).state.moment (step s.group st e).report in
    let same : told_by s (map owed_as (told_of life.moment r)) ≡ told =
    told-as s (told_of life.moment r) ∙ ap (λ m. told_of m r) moment ∙ ap (told_of (step s.group st e).state.moment) reported in
    subst (Tells s es (v.telling.events ++ map owed_as (told_of life.moment r))) (sym (told-lives s e c))
    (tells-more s es v.telling.events c.told (map owed_as (told_of life.moment r)) told h.told same (report-fair s life.moment r))

-- The code makes this step, with what it reports.
pub lives-at : (s : Setting) (es : List journal.Event) (v : Kept) (c : Call) (e : Event) (life : Life) (records : HeldKnown) (t : Tellings) (r : Report)
    → (v.telling.failed ≡ false → IsAt s es v c) → Steps v.group e v.membership life r
    → records ≡ without_all (ended_all v.heal v.records r.expired) r.fell → Adds (with_report life.moment r) v.telling t
    → t.failed ≡ false → IsAt s es (record v { membership = life; records = records; telling = t }) (lives s e c)
lives-at s es v c e life records t r p steps kept told fine =
    let on = told.going fine in
    let h = p on.0 in
    let n = h.is in
    let g : s.group ≡ v.group = setting-group s v c.node n in
    let st : State = state_of s c.node in
    let next : Holds life (step s.group st e).state = subst (λ x. Holds life (step x st e).state) (sym g) (steps.holds st n.holds) in
    let reported : r ≡ (step s.group st e).report = steps.reports st n.holds ∙ ap (λ x. (step x st e).report) (sym g) in
    let left : HoldsRecords s records (without_ended r (retires v.heal r c.node.held)) =
    subst (λ x. HoldsRecords s x (without_ended r (retires v.heal r c.node.held))) (sym kept)
    (holds-ended s v.heal v.records c.node.held r n.records) in
    let ended : HoldsRecords s records (lives s e c).node.held =
    subst (λ x. HoldsRecords s records x) (held-lives s e c r reported)
    (subst (λ h. HoldsRecords s records (without_ended r (retires h r c.node.held))) (sym (setting-heal s v c.node n)) left) in
    record {
      is = record {
        setting = n.setting;
        signs = n.signs;
        holds = subst (λ x. Holds life x) (sym (state_of-lives s e c)) next;
        stored = n.stored ∙ sym (kept-lives s e c).0;
        records = ended;
        roster = λ m. n.roster m ∙ sym (certificate-lives s e c m);
        probes = subst (StandsFor v.detector) (sym (kept-lives s e c).1) n.probes;
        news = n.news ∙ sym (news-lives s e c);
        since = n.since ∙ sym (since-lives s e c);
      };
      told = subst (λ (x : Tellings). Tells s es x.events (lives s e c).told) (sym on.1) (lives-told s es v c e life r h steps);
      sent = ap (λ (x : Tellings). x.sent) on.1 ∙ h.sent ∙ ap (λ (xs : List (ℕ × List ℕ)). length xs) (sym (sent-lives s e c));
    }

pub lives-plays : (s : Setting) (es : List journal.Event) (v : Kept) (c : Call) (e : Event) (life : Life) (records : HeldKnown) (t : Tellings) (r : Report)
    → Plays s es v c → Steps v.group e v.membership life r
    → records ≡ without_all (ended_all v.heal v.records r.expired) r.fell → Adds (with_report life.moment r) v.telling t
    → Plays s es (record v { membership = life; records = records; telling = t }) (lives s e c)
lives-plays s es v c e life records t r p steps kept told =
    record { at = λ fine. lives-at s es v c e life records t r p.at steps kept told fine }

-- an event that the node reports
pub tells-plays : (s : Setting) (es : List journal.Event) (v : Kept) (c : Call) (what : whats.What) (moment : ℕ) (t : Tellings)
    → Plays s es v c → moment ≡ v.membership.moment → is_sent what ≡ false → Adds (with_event moment what) v.telling t → Plays s es (record v { telling = t }) (tells s what c)
tells-plays s es v c what moment t p now unsent adds =
    let event : ℕ → journal.Event = λ m. record { moment = m; what = what } in
    let told : IsAt s es v c → Tells s es (v.telling.events ++ owed_as (event moment) ∷ []) (tells s what c).told =
    λ h. tells-more s es v.telling.events c.told (owed_as (event moment) ∷ []) (event (state_of s c.node).moment ∷ []) h.told
    (ap (λ m. event m ∷ []) (now ∙ sym h.is.holds.moment_same)) (quiet-fair s what unsent, tt) in
    record {
      at = λ fine.
          let on = adds.going fine in
          let h = p.at on.0 in
          let n = h.is in
          record {
            is = record { setting = n.setting; signs = n.signs; holds = n.holds; stored = n.stored; records = n.records; roster = n.roster; probes = n.probes; news = n.news; since = n.since };
            told = subst (λ (x : Tellings). Tells s es x.events (tells s what c).told) (sym on.1) (told h);
            sent = ap (λ (x : Tellings). x.sent) on.1 ∙ h.sent;
          };
    }

-- ---- an accepted record

-- The record takes the place of what its key held.
abbrev pub holding : Record → Call → Call
holding r c = record c { node = record c.node { held = with_record r c.node.held } }

-- and what its member was removed by is held no more
abbrev pub ending : Body → Call → Call
ending b c = record c { node = record c.node { held = without_removal b c.node.held } }

keeps-is : (s : Setting) (r : Record) (b : Body) (c : Call) → r.body ≡ b
    → keeps s r c ≡ holding r (ending b (lives s (event_of s b) c))
keeps-is s r b c is = ap (λ x. holding r (ending x (lives s (event_of s x) c))) is

taken-is : (s : Setting) (r : Record) (c : Call) → takes s r c ≡ heard_as_news s r.body (keeps s r c)
unfolding takes
taken-is s r c = refl

abbrev news_in : Option Heal → Body → Call → Call
news_in heal b c = record c { node = record c.node { news = with_news heal b c.node.news } }

no-news : (heal : Option Heal) (x : CertBody) (c : Call) → news_in heal (Certificate x) c ≡ c
no-news None x c = refl
no-news (Some heal) x c = refl

pub takes-is : (s : Setting) (r : Record) (x : CertBody) (c : Call) → r.body ≡ Certificate x
    → takes s r c ≡ holding r (lives s (event_of s (Certificate x)) c)
takes-is s r x c is =
    taken-is s r c ∙ ap (λ b. heard_as_news s b (keeps s r c)) is ∙ no-news s.heal x (keeps s r c)
    ∙ keeps-is s r (Certificate x) c is

note_key-apart : (m n : ℕ) → eq_by_cmp key_cmp (keys.Certificate m) (keys.Note n) ≡ false
note_key-apart m n = refl

accusation_key-apart : (m n : ℕ) (ring : RingNo) → eq_by_cmp key_cmp (keys.Certificate m) (keys.Accusation n ring) ≡ false
accusation_key-apart m n ring = refl

abbrev pub IsNoCertificate : Body → Type 0
IsNoCertificate (Certificate c) = ⊥
IsNoCertificate (Note n) = Unit {0}
IsNoCertificate (Accusation a) = Unit {0}

other-with : (r : Record) (held : Holding) (b : Body) (m : ℕ) → r.body ≡ b → IsNoCertificate b → with_record r held (keys.Certificate m) ≡ held (keys.Certificate m)
other-with r held (Certificate c) m is other = absurd other
other-with r held (Note n) m is other = rw is refl
other-with r held (Accusation a) m is other = rw is refl

state-holding : (s : Setting) (r : Record) (c : Call) → state_of s (holding r c).node ≡ state_of s c.node
unfolding state_of
state-holding s r c = refl

certificate-holding : (r : Record) (c : Call) (b : Body) (m : ℕ) → r.body ≡ b → IsNoCertificate b → certificate_of (holding r c).node m ≡ certificate_of c.node m
unfolding certificate_of
certificate-holding r c b m is other = ap (λ o. option_and_then (λ x. certificate_in x.body) o) (other-with r c.node.held b m is other)

-- What the body ends is held no more.
state-ending : (s : Setting) (b : Body) (c : Call) → state_of s (ending b c).node ≡ state_of s c.node
unfolding state_of
state-ending s b c = refl

certificate-ending : (b : Body) (c : Call) (m : ℕ) → certificate_of (ending b c).node m ≡ certificate_of c.node m
unfolding certificate_of
certificate-ending b c m = ap (λ o. option_and_then (λ x. certificate_in x.body) o) (removal-certificate b c.node.held m)

ending-at : (s : Setting) (es : List journal.Event) (v : Kept) (c : Call) (b : Body) → IsAt s es v c
    → IsAt s es (record v { records = unremoved b v.records }) (ending b c)
ending-at s es v c b h =
    let n = h.is in
    record {
      is = record {
        setting = n.setting;
        signs = n.signs;
        holds = subst (Holds v.membership) (sym (state-ending s b c)) n.holds;
        stored = n.stored;
        records = holds-unremoved s b v.records c.node.held n.records;
        roster = λ m. n.roster m ∙ sym (certificate-ending b c m);
        probes = n.probes;
        news = n.news;
        since = n.since;
      };
      told = h.told;
      sent = h.sent;
    }

-- a note or an accusation is held
pub holding-at : (s : Setting) (es : List journal.Event) (v : Kept) (c : Call) (known : Known) (b : Body) (records : HeldKnown)
    → (record_of s known).body ≡ b → IsNoCertificate b → IsSendable s (Some known) → records ≡ fin.insert v.records (key_of (body_of known)) known → IsAt s es v c → IsAt s es (record v { records = records }) (holding (record_of s known) c)
holding-at s es v c known b records is other long kept h =
    let n = h.is in
    let r : Record = record_of s known in
    record {
      is = record {
        setting = n.setting;
        signs = n.signs;
        holds = subst (Holds v.membership) (sym (state-holding s r c)) n.holds;
        stored = n.stored;
        records = subst (λ x. HoldsRecords s x (with_record r c.node.held)) (sym kept) (holds-insert s v.records c.node.held known long n.records);
        roster = λ m. n.roster m ∙ sym (certificate-holding r c b m is other);
        probes = n.probes;
        news = n.news;
        since = n.since;
      };
      told = h.told;
      sent = h.sent;
    }

-- what is known says what its record says
pub says-same : (s : Setting) (known : Known) → (record_of s known).body ≡ body_of known
says-same s (knowns.Came c) = refl
says-same s (knowns.Own o) = refl

pub keeps-at : (s : Setting) (es : List journal.Event) (v : Kept) (c : Call) (known : Known)
    (b : Body) (records : HeldKnown)
    → body_of known ≡ b → IsNoCertificate b → IsSendable s (Some known) → records ≡ fin.insert (unremoved b v.records) (key_of (body_of known)) known
    → IsAt s es v (lives s (event_of s b) c) → IsAt s es (record v { records = records }) (keeps s (record_of s known) c)
keeps-at s es v c known b records is other long kept h =
    let c1 : Call = lives s (event_of s b) c in
    let says : (record_of s known).body ≡ b = says-same s known ∙ is in
    subst (IsAt s es (record v { records = records })) (sym (keeps-is s (record_of s known) b c says))
    (holding-at s es (record v { records = unremoved b v.records }) (ending b c1) known b records says other long kept (ending-at s es v c1 b h))

-- a note is held
pub keeps-plays : (s : Setting) (es : List journal.Event) (v : Kept) (c : Call) (known : Known)
    (b : Body) (records : HeldKnown)
    → body_of known ≡ b → IsNoCertificate b → IsSendable s (Some known) → records ≡ fin.insert (unremoved b v.records) (key_of (body_of known)) known
    → Plays s es v (lives s (event_of s b) c) → Plays s es (record v { records = records }) (keeps s (record_of s known) c)
keeps-plays s es v c known b records is other long kept p = record {
  at = λ fine. keeps-at s es v c known b records is other long kept (p.at fine);
}

-- ---- news

state-fresh : (s : Setting) (k : RecordKey) (c : Call) → state_of s (with_fresh s k c).node ≡ state_of s c.node
unfolding state_of
state-fresh s k c = refl

certificate-fresh : (s : Setting) (k : RecordKey) (c : Call) (m : ℕ)
    → certificate_of (with_fresh s k c).node m ≡ certificate_of c.node m
unfolding certificate_of
certificate-fresh s k c m = refl

-- the key is news, with the option
pub fresh-plays : (s : Setting) (es : List journal.Event) (v : Kept) (c : Call) (k : RecordKey) (news : List RecordKey)
    → news ≡ fresh_with v.heal k v.news → Plays s es v c → Plays s es (record v { news = news }) (with_fresh s k c)
fresh-plays s es v c k news is p = record {
  at = λ fine.
      let h = p.at fine in
      let n = h.is in
      record {
        is = record {
          setting = n.setting;
          signs = n.signs;
          holds = subst (Holds v.membership) (sym (state-fresh s k c)) n.holds;
          stored = n.stored;
          records = n.records;
          roster = λ m. n.roster m ∙ sym (certificate-fresh s k c m);
          probes = n.probes;
          news = is ∙ ap (λ (h : Option Heal). fresh_with h k v.news) (sym (setting-heal s v c.node n)) ∙ ap (λ (ks : List RecordKey). fresh_with s.heal k ks) n.news;
          since = n.since;
        };
        told = h.told;
        sent = h.sent;
      };
}

news-fresh : (heal : Option Heal) (b : Body) (news : List RecordKey) → IsNoCertificate b
    → with_news heal b news ≡ fresh_with heal (key_of b) news
news-fresh None b news other = refl
news-fresh (Some heal) (Certificate x) news other = absurd other
news-fresh (Some heal) (Note n) news other = refl
news-fresh (Some heal) (Accusation a) news other = refl

-- a note or an accusation is accepted: it is held, and news
pub takes-fresh : (s : Setting) (r : Record) (b : Body) (k : RecordKey) (c : Call) → r.body ≡ b → IsNoCertificate b → k ≡ key_of b
    → takes s r c ≡ with_fresh s k (keeps s r c)
takes-fresh s r b k c is other same =
    let c1 : Call = keeps s r c in
    let with : List RecordKey → Call = λ ks. record c1 { node = record c1.node { news = ks } } in
    taken-is s r c ∙ ap (λ x. with (with_news s.heal x c1.node.news)) is
    ∙ ap with (news-fresh s.heal b c1.node.news other ∙ ap (λ x. fresh_with s.heal x c1.node.news) (sym same))

adds-nothing : (moment : ℕ) (t : Tellings) → Adds (with_report moment nothing) t t
adds-nothing moment t = adds-refl (with_report moment nothing) t (ap (λ (xs : List OwedEvent). record t { events = xs }) (sym (nil-right t.events)))

ended-none : (heal : Option Heal) (set : HeldKnown) → set ≡ without_all (ended_all heal set []) []
ended-none None set = refl
ended-none (Some heal) set = refl

-- an event that reports nothing
pub quiet-at : (s : Setting) (es : List journal.Event) (v : Kept) (c : Call) (e : Event) (life : Life)
    → (v.telling.failed ≡ false → IsAt s es v c) → Steps v.group e v.membership life nothing → v.telling.failed ≡ false → IsAt s es (record v { membership = life }) (lives s e c)
quiet-at s es v c e life p steps fine =
    lives-at s es v c e life v.records v.telling nothing p steps (ended-none v.heal v.records)
    (adds-nothing life.moment v.telling) fine

-- ---- a certificate

same_number : (a b : ℕ) → eq_by_cmp key_cmp (keys.Certificate a) (keys.Certificate b) ≡ eq_by_cmp nat_cmp a b
same_number a b = grind (arith, nat_tests)

certificate-cond : (b : Bool) (r : Record) (o : Option Record) (c : CertBody) → r.body ≡ Certificate c → option_and_then (λ x. certificate_in x.body) (cond b (Some r) o) ≡ cond b (Some c) (option_and_then (λ x. certificate_in x.body) o)
certificate-cond true r o c is = rw is refl
certificate-cond false r o c is = refl

pub certificate-held : (r : Record) (c : Call) (x : CertBody) (m : ℕ) → r.body ≡ Certificate x → certificate_of (holding r c).node m ≡ cond (eq_by_cmp nat_cmp m x.member) (Some x) (certificate_of c.node m)
unfolding certificate_of
certificate-held r c x m is =
    let at : eq_by_cmp key_cmp (keys.Certificate m) (key_of r.body) ≡ eq_by_cmp nat_cmp m x.member = ap (λ b. eq_by_cmp key_cmp (keys.Certificate m) (key_of b)) is ∙ same_number m x.member in
    ap (λ b. option_and_then (λ y. certificate_in y.body) (cond b (Some r) (c.node.held (keys.Certificate m)))) at ∙ certificate-cond (eq_by_cmp nat_cmp m x.member) r (c.node.held (keys.Certificate m)) x is

pub certified-at : (s : Setting) (es : List journal.Event) (v : Kept) (c : Call) (checked : CheckedRecord) (x : CertBody) (records : HeldKnown) (roster : Certificates)
    → checked.rec.body ≡ Certificate x → IsSignedRecord checked.rec → records ≡ fin.insert v.records (key_of checked.rec.body) (knowns.Came checked) → roster ≡ fin.insert v.roster x.member x
    → IsAt s es v (lives s (Joins x.member (s.places x.member)) c) → IsAt s es (record v { records = records; roster = roster }) (takes s checked.rec c)
certified-at s es v c checked x records roster is spelled kept listed h =
    let n = h.is in
    let c1 : Call = lives s (Joins x.member (s.places x.member)) c in
    let at : IsAt s es (record v { records = records; roster = roster }) (holding checked.rec c1) =
    record {
      is = record {
        setting = n.setting;
        signs = n.signs;
        holds = subst (Holds v.membership) (sym (state-holding s checked.rec c1)) n.holds;
        stored = n.stored;
        records = subst (λ y. HoldsRecords s y (with_record checked.rec c1.node.held)) (sym kept) (holds-insert s v.records c1.node.held (knowns.Came checked) spelled n.records);
        roster = λ m. ap (λ y. kept_certificate y m) listed ∙ fin.get-insert nat_cmp_total v.roster x.member x m ∙ ap (λ o. cond (eq_by_cmp nat_cmp m x.member) (Some x) o) (n.roster m) ∙ sym (certificate-held checked.rec c1 x m is);
        probes = n.probes;
        news = n.news;
        since = n.since;
      };
      told = h.told;
      sent = h.sent;
    } in
    subst (IsAt s es (record v { records = records; roster = roster })) (sym (takes-is s checked.rec x c is)) at

pub places-of : (s : Setting) (v : Kept) (c : Call) (m : ℕ) → IsMirror s v c.node → s.places m ≡ hashed_places v.group.tag v.group.t m
unfolding setting_with
places-of s v c m n = ap (λ x. x.places m) n.setting

pub still-joined : (life next : Life) (me m : ℕ) (places : List (List ℕ)) (answer : Result (Unit {0}) Fault) → has_joined life me ≡ true → OnOk answer (next.places ≡ fin.insert life.places m places) → OnErr answer (next ≡ life) → has_joined next me ≡ true
still-joined life next me m places (Ok x) h ok err =
    ap (λ ps. fin.contains_key ps me) ok ∙ ap is_some (fin.get-insert nat_cmp_total life.places m places me) ∙ some-cond (eq_by_cmp nat_cmp me m) places (fin.get life.places me) h
  where
    some-cond : (b : Bool) (x : List (List ℕ)) (o : Option (List (List ℕ))) → is_some o ≡ true → is_some (cond b (Some x) o) ≡ true
    some-cond true x o h = refl
    some-cond false x o h = h
still-joined life next me m places (Err e) h ok err = ap (λ l. has_joined l me) err ∙ h

-- ---- a datagram

pub length-append : {X : Type 0} (xs ys : List X) → length (xs ++ ys) ≡ length xs + length ys
length-append [] ys = omega arith
length-append (x ∷ xs) ys = omega (arith, length-append xs ys)

-- What is owed is what the call reports.
is-sent : (s : Setting) (es : List journal.Event) (v : Kept) (c : Call) (d : Datagram) (to moment : ℕ) (owed : ℕ → Owed)
    → IsAt s es v c → ((k : ℕ) → what_of s (owed k) ≡ told.Sent k to (datagram_bytes d)) → ((k : ℕ) → IsFair s (owed k)) → moment ≡ v.membership.moment → Tells s es (with_sent moment owed v.telling).events (sends s d c to).told
unfolding sends
is-sent s es v c d to moment owed h spelled fair now =
    let n = h.is in
    let at : moment ≡ (state_of s c.node).moment = now ∙ sym n.holds.moment_same in
    let event : ℕ → ℕ → journal.Event = λ m k. record { moment = m; what = told.Sent k to (datagram_bytes d) } in
    let one : reported s (record { moment = moment; owed = owed v.telling.sent }) ≡ event (state_of s c.node).moment (length c.sent) =
    ap (λ (w : whats.What). record { moment = moment; what = w }) (spelled v.telling.sent) ∙ ap (λ m. event m v.telling.sent) at ∙ ap (event (state_of s c.node).moment) h.sent in
    tells-more s es v.telling.events c.told (record { moment = moment; owed = owed v.telling.sent } ∷ []) (event (state_of s c.node).moment (length c.sent) ∷ []) h.told
    (ap (λ (e : journal.Event). e ∷ []) one) (fair v.telling.sent, tt)

count-sent : (s : Setting) (d : Datagram) (c : Call) (to : ℕ) → length (sends s d c to).sent ≡ length c.sent + 1
unfolding sends
count-sent s d c to = length-append c.sent ((to, datagram_bytes d) ∷ [])

node-sends : (s : Setting) (d : Datagram) (c : Call) (to : ℕ) → (sends s d c to).node ≡ c.node
unfolding sends
node-sends s d c to = refl

pub sends-plays : (s : Setting) (es : List journal.Event) (v : Kept) (c : Call) (d : Datagram) (to moment : ℕ) (owed : ℕ → Owed) (t : Tellings)
    → Plays s es v c → ((k : ℕ) → what_of s (owed k) ≡ told.Sent k to (datagram_bytes d)) → ((k : ℕ) → IsFair s (owed k)) → moment ≡ v.membership.moment → Adds (with_sent moment owed) v.telling t → Plays s es (record v { telling = t }) (sends s d c to)
sends-plays s es v c d to moment owed t p spelled fair now adds =
    let w : Kept = record v { telling = t } in
    record {
      at = λ fine.
          let on = adds.going fine in
          let h = p.at on.0 in
          let n = h.is in
          let is : IsMirror s w c.node =
          record { setting = n.setting; signs = n.signs; holds = n.holds; stored = n.stored; records = n.records; roster = n.roster; probes = n.probes; news = n.news; since = n.since } in
          record {
            is = subst (IsMirror s w) (sym (node-sends s d c to)) is;
            told = subst (λ (x : Tellings). Tells s es x.events (sends s d c to).told) (sym on.1) (is-sent s es v c d to moment owed h spelled fair now);
            sent = ap (λ (x : Tellings). x.sent) on.1 ∙ ap (λ (k : ℕ). k + 1) h.sent ∙ sym (count-sent s d c to);
          };
    }

-- ---- neighbours

-- the list of all that are wanted is that of the addressees
pub all-wanted : (s : Setting) (v : Kept) (n : Node) (also : Option ℕ) (listed : List (Option ℕ)) → IsMirror s v n → v.membership.group ≡ v.group
    → ((st : State) → Holds v.membership st → listed ≡ also ∷ map (λ ring. successor st ring v.me) (range_with_len 0 (ring_count v.membership.group.t)))
    → wanted_of listed MEMBERS ≡ addressees s also (state_of s n)
unfolding all_numbers
all-wanted s v n also listed is same h =
    let st : State = state_of s n in
    let g : s.group ≡ v.group = setting-group s v n is in
    let m : s.me ≡ v.me = setting-me s v n is in
    let these : listed ≡ listed_on s.group s.me st also =
    h st is.holds ∙ ap (λ (x : Group). listed_on x v.me st also) (same ∙ sym g) ∙ ap (λ x. listed_on s.group x st also) (sym m) in
    ap (λ xs. wanted_of xs MEMBERS) these ∙ addressees-are s st also

-- ---- signatures

-- The own record of this index can be sent.
pub own-is : (s : Setting) (next : ℕ) (o : Unseen) → Signs s next o.length → next ≤ o.index → IsBody o.body → signer_of o.body ≡ Some s.me → IsOwn s o
own-is s next o signs above spelled by =
    let long : length (s.signature o.index o.body) ≡ o.length = signs.each o.index o.body above in
    record {
      member = signs.member;
      by = by;
      spelled = record { body = spelled; signature = record { some = omega (arith, long, signs.length_is.some); few = omega (arith, long, signs.length_is.few) } };
      long = sym long;
    }

pub spends-is : (s : Setting) (b : Body) (c : Call) → spends s b c ≡ tells s (told.Spent c.node.stored.next b) (with_stored b c)
unfolding state_of
spends-is s b c = refl

pub signs-is : (s : Setting) (b : Body) (c : Call) → signs s b c ≡ takes s (own_record s c.node b) (spends s b c)
unfolding signs
signs-is s b c = refl

sends-own : (s : Setting) (b : Body) (also : Option ℕ) (c : Call) → signs_and_sends s b (addressees s also) c ≡ sends_to_all s (addressees s also (state_of s (signs s b c).node)) (kinds.Records s.me (own_record s c.node b ∷ [])) (signs s b c)
unfolding signs_and_sends
sends-own s b also c = refl

spent-plays : (s : Setting) (es : List journal.Event) (c : Call) (b : Body) (v : Kept) (index : ℕ)
    → index ≡ c.node.stored.next → Plays s es v (tells s (told.Spent index b) (with_stored b c))
    → Plays s es v (spends s b c)
spent-plays s es c b v index at p =
    subst (λ x. Plays s es v x) (ap (λ k. tells s (told.Spent k b) (with_stored b c)) at ∙ sym (spends-is s b c)) p

-- the own record is reported and kept
pub own-kept : (s : Setting) (es : List journal.Event) (c : Call) (b : Body) (v1 v2 : Kept) (index : ℕ)
    (r : Record)
    → index ≡ c.node.stored.next → r ≡ own_record s c.node b → Plays s es v1 (tells s (told.Spent index b) (with_stored b c))
    → ((x : Call) → Plays s es v1 x → Plays s es v2 (keeps s r x))
    → Plays s es v2 (keeps s (own_record s c.node b) (spends s b c))
own-kept s es c b v1 v2 index r at own p kept =
    subst (λ x. Plays s es v2 (keeps s x (spends s b c))) own (kept (spends s b c) (spent-plays s es c b v1 index at p))

pub signs-fresh : (s : Setting) (b : Body) (k : RecordKey) (c : Call) → IsNoCertificate b → k ≡ key_of b
    → with_fresh s k (keeps s (own_record s c.node b) (spends s b c)) ≡ signs s b c
signs-fresh s b k c other same = sym (signs-is s b c ∙ takes-fresh s (own_record s c.node b) b k (spends s b c) refl other same)

-- the own record is reported and accepted
pub kept-plays : (s : Setting) (es : List journal.Event) (c : Call) (b : Body) (v1 v2 : Kept) (index : ℕ) (r : Record)
    → index ≡ c.node.stored.next → r ≡ own_record s c.node b → Plays s es v1 (tells s (told.Spent index b) (with_stored b c))
    → ((x : Call) → Plays s es v1 x → Plays s es v2 (takes s r x)) → Plays s es v2 (signs s b c)
kept-plays s es c b v1 v2 index r at own p taken =
    subst (λ x. Plays s es v2 x) (ap (λ x. takes s x (spends s b c)) own ∙ sym (signs-is s b c))
    (taken (spends s b c) (spent-plays s es c b v1 index at p))

-- and sent
pub passed-on : (s : Setting) (es : List journal.Event) (c : Call) (b : Body) (also : Option ℕ) (index : ℕ) (v2 v3 : Kept)
    → index ≡ c.node.stored.next → Plays s es v2 (signs s b c)
    → ((x : Call) → Plays s es v2 x → Plays s es v3 (sends_to_all s (addressees s also (state_of s x.node)) (kinds.Records s.me (record { body = b; signature = s.signature index b } ∷ [])) x))
    → Plays s es v3 (signs_and_sends s b (addressees s also) c)
passed-on s es c b also index v2 v3 at p sent =
    let own : record { body = b; signature = s.signature index b } ≡ own_record s c.node b = ap (λ (k : ℕ). record { body = b; signature = s.signature k b }) at in
    subst (λ x. Plays s es v3 x) (sym (sends-own s b also c))
    (subst (λ (r : Record). Plays s es v3 (sends_to_all s (addressees s also (state_of s (signs s b c).node)) (kinds.Records s.me (r ∷ [])) (signs s b c))) own
    (sent (signs s b c) p))

-- an index was spent on the body
pub stored-at : (s : Setting) (es : List journal.Event) (v : Kept) (c : Call) (b : Body) (kept : Stored)
    → Plays s es v c → kept ≡ stored_after v.stored b → Plays s es (record v { stored = kept }) (with_stored b c)
unfolding state_of certificate_of
stored-at s es v c b kept p state = record {
  at = λ fine.
      let h = p.at fine in
      let n = h.is in
      record {
        is = record {
          setting = n.setting;
          signs = record { member = n.signs.member; length_is = n.signs.length_is; each = λ i body above. n.signs.each i body (omega (arith, above, ap (λ (x : Stored). x.next) state, one-more v.stored b)) };
          holds = n.holds;
          stored = state ∙ ap (λ x. stored_after x b) n.stored;
          records = n.records;
          roster = n.roster;
          probes = n.probes;
          news = n.news;
          since = n.since;
        };
        told = h.told;
        sent = h.sent;
      };
}
  where
    one-more : (kept : Stored) (b : Body) → (stored_after kept b).next ≡ kept.next + 1
    one-more kept (Certificate x) = refl
    one-more kept (Note x) = refl
    one-more kept (Accusation x) = refl

pub wants-signed : (s : Setting) (b : Body) (also : Option ℕ) (c : Call) → is_used_up s c.node ≡ false → wants true s b (addressees s also) c ≡ signs_and_sends s b (addressees s also) c
unfolding wants
wants-signed s b also c free = rw free refl

pub wants-used_up : (s : Setting) (b : Body) (also : Option ℕ) (c : Call) → is_used_up s c.node ≡ true → wants true s b (addressees s also) c ≡ tells s (told.Exhausted c.node.stored.next) c
unfolding wants
wants-used_up s b also c full = rw full refl

used-up-is : (s : Setting) (v : Kept) (n : Node) → IsMirror s v n → is_used_up s n ≡ eqb v.stored.next v.indexes
used-up-is s v n is = ap (λ (k : ℕ). eqb n.stored.next k) (setting-indexes s v n is) ∙ ap (λ (x : Stored). eqb x.next v.indexes) (sym is.stored)

-- the key was used up
pub used_up-at : (s : Setting) (es : List journal.Event) (v v1 : Kept) (c : Call) (b : Body) (also : Option ℕ) (next : ℕ)
    → Plays s es v c → next ≡ v.stored.next → eqb next v.indexes ≡ true → Grows v v1 → Plays s es v1 (tells s (told.Exhausted next) c) → Plays s es v1 (wants true s b (addressees s also) c)
used_up-at s es v v1 c b also next p at last grows q =
    from-fine s es v v1 c (wants true s b (addressees s also) c) p grows (λ h.
    let n = h.is in
    let full : is_used_up s c.node ≡ true = used-up-is s v c.node n ∙ ap (λ (k : ℕ). eqb k v.indexes) (sym at) ∙ last in
    let same : next ≡ c.node.stored.next = at ∙ ap (λ (x : Stored). x.next) n.stored in
    subst (Plays s es v1) (ap (λ k. tells s (told.Exhausted k) c) same ∙ sym (wants-used_up s b also c full)) q)

-- the record was made
pub signed-at : (s : Setting) (es : List journal.Event) (v v1 : Kept) (c : Call) (b wanted : Body) (also : Option ℕ) (kept : Stored) (index : ℕ)
    → Plays s es v c → eqb index v.indexes ≡ false → index ≡ v.stored.next → (IsMirror s v c.node → b ≡ wanted)
    → kept ≡ stored_after v.stored b → IsBody b → signer_of b ≡ Some v.me → Grows (record v { stored = kept }) v1
    → (Plays s es (record v { stored = kept }) (with_stored b c) → index ≡ c.node.stored.next → IsOwn s (record { index = index; body = b; length = v.own_length }) → Plays s es v1 (signs_and_sends s b (addressees s also) c))
    → Plays s es v1 (wants true s wanted (addressees s also) c)
signed-at s es v v1 c b wanted also kept index p left at body state spelled by grows passes =
    from-fine s es v v1 c (wants true s wanted (addressees s also) c) p (grows-stored v v1 kept grows) (λ h.
    let n = h.is in
    let free : is_used_up s c.node ≡ false = used-up-is s v c.node n ∙ ap (λ (k : ℕ). eqb k v.indexes) (sym at) ∙ left in
    let next : index ≡ c.node.stored.next = at ∙ ap (λ (x : Stored). x.next) n.stored in
    let own : IsOwn s (record { index = index; body = b; length = v.own_length }) =
    own-is s v.stored.next (record { index = index; body = b; length = v.own_length }) n.signs (omega (arith, at)) spelled (by ∙ ap (λ (m : ℕ). Some m) (sym (setting-me s v c.node n))) in
    let done = passes (stored-at s es v c b kept p state) next own in
    subst (Plays s es v1) (sym (wants-signed s b also c free) ∙ ap (λ x. wants true s x (addressees s also) c) (body n)) done)

pub next-own-is : (s : Setting) (v : Kept) (n : Node) (mask : Mask) → IsMirror s v n → Note (record { member = v.me; epoch = v.stored.epoch + 1; mask = mask }) ≡ next_own s n mask
next-own-is s v n mask is =
    ap (λ (m : ℕ). Note (record { member = m; epoch = v.stored.epoch + 1; mask = mask })) (sym (setting-me s v n is)) ∙ ap (λ (x : Stored). Note (record { member = s.me; epoch = x.epoch + 1; mask = mask })) is.stored
