-- How a life begins.
use Rattle.std.proofs.Common.{◌≡◌, ℕ, ◌+◌, refl, ap, sym, ◌∙◌, List, [], ◌++◌}
use Rattle.records.specs.declared.Record.{Record}
use Rattle.records.specs.declared.Body.{Body}
use Rattle.epoch_store.specs.declared.Stored.{Stored}
use Rattle.node_rules.specs.Nodes.{Setting, Node, state_of, event_of, certificate_of}
use Rattle.ff_ids.specs.declared.Group.{Group}
use Rattle.ff_ids.specs.Heals.{Heal}
use Rattle.ff_ids.specs.declared.summary.RecordKey.{RecordKey}
use Rattle.ff_ids.specs.Lives.{opening as life_opening}
use Rattle.membership.specs.Holds.{Holds}
use Rattle.detector.specs.Silence.{opening}
use Rattle.detector.specs.Kept.{DrawsFor}
use Rattle.record_set.specs.Held.{Held, key_cmp, held_under}
use Rattle.std.specs.Ordering.{nat_cmp}
use Rattle.validate.specs.Certified.{Certificates, certificate_of as kept_certificate}
use Rattle.std.specs.FinMap as fin
use Rattle.std.specs.Option.{option_map}
use Rattle.node_core.proofs.PlayLemmas.{setting-group, setting-me}
use Rattle.node_core.proofs.SigningLemmas.{own-signed}
use Rattle.node_rules.proofs.OwnNote.{becomes_member, step-same}
use Rattle.node_rules.specs.Lives.{is_certificate_for}
use Rattle.node_rules.specs.Replies.{first_mask}
use Rattle.membership.specs.Life.{has_joined}
use Rattle.ff_ids.specs.Views.{State, is_member}
use Rattle.ff_ids.specs.Notes.{newest}
use Rattle.ff_ids.specs.Steps.{Joins, step}
use Rattle.node_rules.proofs.Small.{state-takes}
use Rattle.node_core.specs.Noted.{own_note}
use Rattle.ff_ids.specs.declared.NoteBody.{NoteBody}
use Rattle.std.specs.List.{list_any, AllByRecursion}
use Rattle.lms_tree.specs.declared.key.PublicKey.{PublicKey}
use Rattle.sign_keys.specs.Keys.{KeySecret}
use Rattle.records.specs.declared.CertBody.{CertBody}
use Rattle.records.specs.declared.Body.TheVariants.{Certificate, Note}
use Rattle.signer.specs.Signing.{SignerState, stored_after, next_note}
use Rattle.detector.specs.Kept.{Kept as Probing}
use Rattle.node_core.specs.Rolls.{AreApart}
use Rattle.node_core.specs.declared.roll.Roll.{Roll}
use Rattle.node_core.specs.declared.starting.Ready.{Ready}
use Rattle.node_core.specs.declared.starting.Parts.{Parts}
use Rattle.node_core.specs.declared.starting.First.{First}
use Rattle.node_core.specs.Begins.{HasOpened, IsFirst, MayBegin, kept_in, kept_by}
use Rattle.std.specs.Prelude.{fold}
use Rattle.std.proofs.Common.{◌∷◌, true}
use Rattle.std.proofs.Common.{false, Option, None, subst}
use Rattle.records.specs.Signing.{CheckedRecord}
use Rattle.node_rules.specs.Calls.{Call, begun, signs, takes, lives, own_record}
use Rattle.node_rules.specs.Starting.{blank, opened, first_note, started}
use Rattle.node_core.specs.Told.{Tellings}
use Rattle.node_core.specs.Signatures.{with_stored}
use Rattle.node_core.specs.Playing.{Kept, IsNode, IsAt, setting_of}
use Rattle.node_core.proofs.RollLemmas.{nil-end}
use Rattle.std.proofs.Common.{length}

pub started-is : (s : Setting) (nonces : ℕ → ℕ) (certificates : List Record) (stored : Stored) → started s nonces certificates stored ≡ signs s (first_note s stored) (opened s nonces certificates stored)
unfolding started
started-is s nonces certificates stored = refl

-- what stands behind what was reported before
pub at-first : (s : Setting) (v : Kept) (c : Call) → IsNode s v c.node → c.told ≡ [] → c.sent ≡ [] → v.telling.before ≡ length v.telling.sent → IsAt s v.telling.events v.telling.sent v c
at-first s v c is told sent before =
    record { is = is; told = sym (ap (λ xs. v.telling.events ++ xs) told ∙ nil-end v.telling.events); sent = sym (ap (λ xs. v.telling.sent ++ xs) sent ∙ nil-end v.telling.sent); before = before }

abbrev pub nothing_told : Tellings
nothing_told = record { events = []; sent = []; before = 0; failed = false }

state-blank : (s : Setting) (nonces : ℕ → ℕ) (stored : Stored) → state_of s (blank s nonces stored) ≡ life_opening []
unfolding state_of
state-blank s nonces stored = refl

pub none-blank : (s : Setting) (nonces : ℕ → ℕ) (stored : Stored) (m : ℕ) → certificate_of (blank s nonces stored) m ≡ None
unfolding certificate_of
none-blank s nonces stored m = refl

-- a life with nothing but what its store keeps
pub at-opening : (s : Setting) (nonces : ℕ → ℕ) (v : Kept) → s ≡ setting_of v.group v.heal v.me v.authority v.signer.key → Holds v.membership (life_opening []) → v.records ≡ fin.empty → v.roster ≡ fin.empty
    → DrawsFor v.detector (opening v.group nonces) → v.news ≡ [] → v.since ≡ v.signer.state.epoch + 1 → v.telling ≡ nothing_told → IsAt s [] [] v (begun (blank s nonces v.signer.state))
at-opening s nonces v setting holds records roster probes news since told =
    record {
      is = record {
        setting = setting;
        holds = subst (Holds v.membership) (sym (state-blank s nonces v.signer.state)) holds;
        stored = refl;
        records = λ k. ap (λ (set : Held). option_map (λ x. x.rec) (held_under set k)) records ∙ ap (λ (o : Option CheckedRecord). option_map (λ x. x.rec) o) (fin.get-empty key_cmp k);
        roster = λ m. ap (λ (r : Certificates). kept_certificate r m) roster ∙ fin.get-empty nat_cmp m ∙ sym (none-blank s nonces v.signer.state m);
        probes = subst (λ (g : Group). DrawsFor v.detector (opening g nonces)) (sym (setting-group s v.group v.heal v.me v.authority v.signer.key setting)) probes;
        news = news;
        since = since;
      };
      told = ap (λ (t : Tellings). t.events) told;
      sent = ap (λ (t : Tellings). t.sent) told;
      before = ap (λ (t : Tellings). t.before) told;
    }

-- it doesn't matter what was reported
pub other-told : (s : Setting) (v : Kept) (n : Node) (t : Tellings) → IsNode s v n → IsNode s (record v { telling = t }) n
other-told s v n t is = record { setting = is.setting; holds = is.holds; stored = is.stored; records = is.records; roster = is.roster; probes = is.probes; news = is.news; since = is.since }

-- ---- the first note is signed

-- the signer has spent an index on the body
stored-node : (s : Setting) (v : Kept) (c : Call) (b : Body) (signer : SignerState)
    → IsNode s v c.node → signer.key ≡ v.signer.key → signer.state ≡ stored_after v.signer.state b → IsNode s (record v { signer = signer }) (with_stored b c).node
unfolding state_of certificate_of
stored-node s v c b signer n key state =
    record {
      setting = n.setting ∙ ap (setting_of v.group v.heal v.me v.authority) (sym key);
      holds = n.holds;
      stored = state ∙ ap (λ x. stored_after x b) n.stored;
      records = n.records;
      roster = n.roster;
      probes = n.probes;
      news = n.news;
      since = n.since;
    }

first-is : (s : Setting) (group : Group) (heal : Option Heal) (me : ℕ) (authority : PublicKey) (key : KeySecret) (stored : Stored) → s ≡ setting_of group heal me authority key
    → next_note stored me (record { 0 = first_mask group.t stored.mask.0 }) ≡ first_note s stored
first-is s group heal me authority key stored setting =
    ap (λ (m : ℕ). next_note stored m (record { 0 = first_mask group.t stored.mask.0 })) (sym (setting-me s group heal me authority key setting))
    ∙ ap (λ (g : Group). next_note stored s.me (record { 0 = first_mask g.t stored.mask.0 })) (sym (setting-group s group heal me authority key setting))

pub may-begin : (s : Setting) (nonces : ℕ → ℕ) (certificates : List Record) (r : Ready) (p : Parts) (old : SignerState) (f : First) → s ≡ setting_of r.group r.heal r.me r.authority old.key
    → HasOpened r.group nonces certificates p → IsFirst old r.signer r.group.t r.me f → old.group ≡ r.group → p.roll ≡ r.roll → p.detector ≡ r.detector
    → r.news.items ≡ [] → r.since ≡ old.state.epoch + 1 → r.index ≡ f.index → r.note ≡ f.note → r.rec ≡ f.rec → MayBegin s nonces certificates old.state r
may-begin s nonces certificates r p old f setting has first same roll detector news since index note rec =
    let o = has s r.heal r.me r.authority old setting in
    let b : Body = Note f.note in
    let call = opened s nonces certificates old.state in
    let n : Node = (with_stored b call).node in
    let note-is : Note f.note ≡ Note r.note = ap (λ (n : NoteBody). Note n) (sym note) in
    let v : Tellings → Kept = kept_in r.group r.heal r.me r.authority old p in
    let opening : Tellings → Kept = λ t. record (kept_by r t) { membership = p.roll.membership; roster = p.roll.roster; records = p.roll.records; detector = p.detector } in
    let is : (t : Tellings) → IsNode s (kept_by r t) n = λ t.
    subst (λ (x : Roll). IsNode s (record (kept_by r t) { membership = x.membership; roster = x.roster; records = x.records }) n) roll
    (subst (λ (d : Probing). IsNode s (record (opening t) { detector = d }) n) detector
    (subst (λ (ks : List RecordKey). IsNode s (record (opening t) { news = ks }) n) (sym news)
    (subst (λ (k : ℕ). IsNode s (record (opening t) { news = []; since = k }) n) (sym since)
    (stored-node s (v t) call b r.signer (o.is t) first.key first.state)))) in
    record {
      is = λ t. subst (λ (x : Body). IsNode s (kept_by r t) (with_stored x call).node) note-is (is t);
      first = sym note-is ∙ first.note ∙ first-is s r.group r.heal r.me r.authority old.key old.state setting;
      index = index ∙ first.index ∙ ap (λ (x : Stored). x.next) (o.is nothing_told).stored;
      own = ap (λ (x : CheckedRecord). x.rec) (rec ∙ first.rec) ∙ own-signed s (v nothing_told) call.node b (o.is nothing_told) same ∙ ap (λ (x : Body). own_record s call.node x) note-is;
      told_none = o.told_none;
      sent_none = o.sent_none;
    }

certificates-all : (records : List Record) → AreApart records → AllByRecursion (λ r. (x : CertBody) × (r.body ≡ Certificate x)) records
certificates-all [] apart = tt
certificates-all (r ∷ records) apart = ((apart.0.cert, apart.0.body), certificates-all records apart.1)

-- the node has joined its own life
pub own-joined : (group : Group) (me : ℕ) (authority : PublicKey) (signer : SignerState) (nonces : ℕ → ℕ) (certificates : List Record) (p : Parts)
    → HasOpened group nonces certificates p → AreApart certificates → list_any (λ r. is_certificate_for me r.body) certificates ≡ true → has_joined p.roll.membership me ≡ true
own-joined group me authority signer nonces certificates p has apart own =
    let s : Setting = setting_of group None me authority signer.key in
    let o = has s None me authority signer refl in
    let who : s.me ≡ me = setting-me s group None me authority signer.key refl in
    let member = becomes_member s certificates (begun (blank s nonces signer.state)) (certificates-all certificates apart) (subst (λ (m : ℕ). list_any (λ r. is_certificate_for m r.body) certificates ≡ true) (sym who) own) in
    sym ((o.is nothing_told).holds.at_number me).member ∙ subst (λ (m : ℕ). is_member (state_of s (opened s nonces certificates signer.state).node) m ≡ true) who member

no-notes : (s : Setting) (me : ℕ) (records : List Record) (c : Call) → AllByRecursion (λ r. (x : CertBody) × (r.body ≡ Certificate x)) records → newest (state_of s c.node).notes me ≡ None
    → newest (state_of s (fold (λ (c : Call) r. takes s r c) c records).node).notes me ≡ None
no-notes s me [] c all h = h
no-notes s me (r ∷ records) c all h =
    let x : CertBody = all.0.0 in
    let st : State = state_of s c.node in
    let at = state-takes s r c ∙ ap (λ b. (step s.group st (event_of s b)).state) all.0.1 in
    no-notes s me records (takes s r c) all.1 (ap (λ (y : State). newest y.notes me) at ∙ (step-same s.group me st (Joins x.member (s.places x.member)) tt).note ∙ h)

-- and has no note in it yet
pub own-unnoted : (group : Group) (me : ℕ) (authority : PublicKey) (signer : SignerState) (nonces : ℕ → ℕ) (certificates : List Record) (p : Parts)
    → HasOpened group nonces certificates p → AreApart certificates → fin.get p.roll.membership.notes me ≡ None
own-unnoted group me authority signer nonces certificates p has apart =
    let s : Setting = setting_of group None me authority signer.key in
    let o = has s None me authority signer refl in
    sym ((o.is nothing_told).holds.at_number me).newest_note
    ∙ no-notes s me certificates (begun (blank s nonces signer.state)) (certificates-all certificates apart) (ap (λ (y : State). newest y.notes me) (state-blank s nonces signer.state))

note_is : (x y : NoteBody) → Note x ≡ Note y → x ≡ y
note_is x y e = cc

-- the first note is the one that the store keeps then
pub first-own : (old new : SignerState) (t me : ℕ) (f : First) → IsFirst old new t me f → f.note ≡ own_note me new.state
first-own old new t me f h =
    let mine : f.note.member ≡ me = ap (λ (n : NoteBody). n.member) (note_is _ _ h.note) in
    ap (λ (m : ℕ). let n : NoteBody = record { member = m; epoch = f.note.epoch; mask = f.note.mask } in n) mine ∙ sym (ap (own_note me) h.state)

-- and its epoch follows the stored one
pub first-epoch : (old new : SignerState) (t me : ℕ) (f : First) → IsFirst old new t me f → new.state.epoch ≡ old.state.epoch + 1
first-epoch old new t me f h = ap (λ (k : Stored). k.epoch) h.state ∙ ap (λ (n : NoteBody). n.epoch) (note_is _ _ h.note)

-- a signature sends nothing
sent-signs : (s : Setting) (b : Body) (c : Call) → (signs s b c).sent ≡ c.sent
unfolding signs takes lives
sent-signs s b c = refl

pub sent-started : (s : Setting) (nonces : ℕ → ℕ) (certificates : List Record) (stored : Stored) → (opened s nonces certificates stored).sent ≡ [] → (started s nonces certificates stored).sent ≡ []
sent-started s nonces certificates stored none = ap (λ (c : Call). c.sent) (started-is s nonces certificates stored) ∙ sent-signs s (first_note s stored) (opened s nonces certificates stored) ∙ none
