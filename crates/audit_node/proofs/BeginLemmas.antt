-- How a life begins.
use Rattle.std.proofs.Common.{arith, ◌≡◌, ℕ, zero, suc, ◌+◌, ◌≤◌, ◌<◌, refl, ap, sym, ◌∙◌, subst, List, [], ◌∷◌, length, true, false, Option, Some, None}
use Rattle.std.specs.Prelude.{fold}
use Rattle.std.specs.FinMap as fin
use Rattle.std.specs.List.{list_any, AllByRecursion}
use Rattle.std.specs.Option.{option_map}
use Rattle.std.specs.Ordering.{nat_cmp}
use Rattle.ff_ids.specs.declared.Group.{Group}
use Rattle.ff_ids.specs.declared.NoteBody.{NoteBody}
use Rattle.ff_ids.specs.Heals.{Heal}
use Rattle.ff_ids.specs.Lives.{opening as life_opening}
use Rattle.ff_ids.specs.Notes.{newest}
use Rattle.ff_ids.specs.Steps.{Joins, step}
use Rattle.ff_ids.specs.Views.{State, is_member}
use Rattle.membership.specs.Holds.{Holds}
use Rattle.membership.specs.Life.{has_joined}
use Rattle.lms_tree.specs.declared.key.PublicKey.{PublicKey}
use Rattle.records.specs.declared.Body.{Body}
use Rattle.records.specs.declared.Body.TheVariants.{Certificate, Note, Accusation}
use Rattle.records.specs.declared.CertBody.{CertBody}
use Rattle.records.specs.declared.Record.{Record}
use Rattle.epoch_store.specs.declared.Stored.{Stored}
use Rattle.signer.specs.Signing.{stored_after}
use Rattle.validate.specs.Certified.{Certificates, certificate_of as kept_certificate}
use Rattle.detector.specs.Silence.{opening}
use Rattle.detector.specs.Kept.{StandsFor}
use Rattle.record_slots.specs.Held.{key_cmp, held_under}
use Rattle.audit_set.specs.declared.known.Known.{Known}
use Rattle.audit_set.specs.Sets.{HeldKnown}
use Rattle.node_rules.specs.Nodes.{Setting, Node, state_of, event_of, certificate_of}
use Rattle.node_rules.specs.Calls.{Call, begun, signs, takes}
use Rattle.node_rules.specs.Lives.{is_certificate_for}
use Rattle.node_rules.specs.Replies.{first_mask}
use Rattle.node_rules.specs.Starting.{blank, opened, first_note, started}
use Rattle.node_rules.proofs.OwnNote.{becomes_member, step-same}
use Rattle.node_rules.proofs.Small.{state-takes}
use Rattle.audit_node.specs.declared.kit.Kit.{Kit}
use Rattle.audit_node.specs.declared.starting.Ready.{Ready}
use Rattle.audit_node.specs.declared.starting.Parts.{Parts}
use Rattle.audit_node.specs.Begins.{HasOpened, IsSettingOf, MayBegin, MaySign, kept_in, kept_by}
use Rattle.audit_node.specs.Owing.{told_by}
use Rattle.audit_node.specs.Rolls.{AreApart}
use Rattle.audit_node.specs.Signatures.{with_stored}
use Rattle.audit_node.specs.Told.{Tellings}
use Rattle.audit_rules.specs.Heads.{setting_with}
use Rattle.audit_node.specs.Playing.{Kept, IsSendable, IsMirror, IsAt, HoldsRecords, Signs, Tells, record_of}
use Rattle.audit_node.proofs.PlayLemmas.{own-is}
use Rattle.audit_node.proofs.SendableLemmas.{tells-none}
use Rattle.records.specs.Spelling.{IsBody}
use Rattle.node_rules.specs.Claims.{signer_of}
use Rattle.ff_ids.specs.declared.TheConstants.{MEMBERS}

pub started-is : (s : Setting) (nonces : ℕ → ℕ) (certificates : List Record) (stored : Stored) → started s nonces certificates stored ≡ signs s (first_note s stored) (opened s nonces certificates stored)
unfolding started
started-is s nonces certificates stored = refl

-- ---- the setting

group-of : (s : Setting) (g : Group) (heal : Option Heal) (me : ℕ) (a : PublicKey) (k : ℕ) (f : ℕ → Body → List ℕ) → s ≡ setting_with g heal me a k f → s.group ≡ g
unfolding setting_with
group-of s g heal me a k f e = ap (λ x. x.group) e

me-of : (s : Setting) (g : Group) (heal : Option Heal) (me : ℕ) (a : PublicKey) (k : ℕ) (f : ℕ → Body → List ℕ) → s ≡ setting_with g heal me a k f → s.me ≡ me
unfolding setting_with
me-of s g heal me a k f e = ap (λ x. x.me) e

zeros : ℕ → List ℕ
zeros zero = []
zeros (suc n) = 0 ∷ zeros n

zeros-long : (n : ℕ) → length (zeros n) ≡ n
unfolding zeros
zeros-long zero = refl
zeros-long (suc n) = ap suc (zeros-long n)

-- there is a setting of the kit
some_setting : Kit → Setting
some_setting kit = setting_with kit.group kit.heal kit.me kit.authority kit.indexes (λ i b. zeros kit.own_length)

is-setting : (kit : Kit) → IsSettingOf (some_setting kit) kit
unfolding some_setting setting_with
is-setting kit = record { is = refl; long = λ i b. zeros-long kit.own_length }

-- ---- nothing is told

-- what stands behind what was owed before
pub at-first : (s : Setting) (v : Kept) (c : Call) → IsMirror s v c.node → c.told ≡ [] → c.sent ≡ [] → v.telling.sent ≡ 0 → IsAt s (told_by s v.telling.events) v c
at-first s v c is told sent none =
    record { is = is; told = subst (Tells s (told_by s v.telling.events) v.telling.events) (sym told) (tells-none s v.telling.events); sent = none ∙ sym (ap (λ (xs : List (ℕ × List ℕ)). length xs) sent) }

abbrev pub nothing_told : Tellings
nothing_told = record { events = []; sent = 0; failed = false }

state-blank : (s : Setting) (nonces : ℕ → ℕ) (stored : Stored) → state_of s (blank s nonces stored) ≡ life_opening []
unfolding state_of
state-blank s nonces stored = refl

pub none-blank : (s : Setting) (nonces : ℕ → ℕ) (stored : Stored) (m : ℕ) → certificate_of (blank s nonces stored) m ≡ None
unfolding certificate_of
none-blank s nonces stored m = refl

holds-none : (s : Setting) (set : HeldKnown) (nonces : ℕ → ℕ) (stored : Stored) → set ≡ fin.empty → HoldsRecords s set (blank s nonces stored).held
holds-none s set nonces stored none = record {
  are = λ k. ap (λ (x : HeldKnown). option_map (record_of s) (held_under x k)) none ∙ ap (λ (o : Option Known). option_map (record_of s) o) (fin.get-empty key_cmp k);
  sendable = λ k. subst (IsSendable s) (sym (ap (λ (x : HeldKnown). held_under x k) none ∙ fin.get-empty key_cmp k)) tt;
}

-- a life with nothing but what its store keeps
pub at-opening : (s : Setting) (nonces : ℕ → ℕ) (v : Kept) → s ≡ setting_with v.group v.heal v.me v.authority v.indexes s.signature → Signs s v.stored.next v.own_length
    → Holds v.membership (life_opening []) → v.records ≡ fin.empty → v.roster ≡ fin.empty
    → StandsFor v.detector (opening v.group nonces) → v.news ≡ [] → v.since ≡ v.stored.epoch + 1 → v.telling ≡ nothing_told → IsAt s [] v (begun (blank s nonces v.stored))
at-opening s nonces v setting signs holds records roster probes news since told =
    record {
      is = record {
        setting = setting;
        signs = signs;
        holds = subst (Holds v.membership) (sym (state-blank s nonces v.stored)) holds;
        stored = refl;
        records = holds-none s v.records nonces v.stored records;
        roster = λ m. ap (λ (r : Certificates). kept_certificate r m) roster ∙ fin.get-empty nat_cmp m ∙ sym (none-blank s nonces v.stored m);
        probes = subst (λ (g : Group). StandsFor v.detector (opening g nonces)) (sym (group-of s v.group v.heal v.me v.authority v.indexes s.signature setting)) probes;
        news = news;
        since = since;
      };
      told = subst (λ (t : Tellings). Tells s [] t.events []) (sym told) (record { same = refl; fair = tt });
      sent = ap (λ (t : Tellings). t.sent) told;
    }

-- it doesn't matter what was owed
pub other-told : (s : Setting) (v : Kept) (n : Node) (t : Tellings) → IsMirror s v n → IsMirror s (record v { telling = t }) n
other-told s v n t is = record { setting = is.setting; signs = is.signs; holds = is.holds; stored = is.stored; records = is.records; roster = is.roster; probes = is.probes; news = is.news; since = is.since }

-- ---- the first note is made

more-stored : (kept : Stored) (b : Body) → kept.next ≤ (stored_after kept b).next
more-stored kept (Certificate x) = omega arith
more-stored kept (Note x) = omega arith
more-stored kept (Accusation x) = omega arith

stored-is : (s : Setting) (v : Kept) (c : Call) (b : Body) (kept : Stored)
    → IsMirror s v c.node → kept ≡ stored_after v.stored b → IsMirror s (record v { stored = kept }) (with_stored b c).node
unfolding state_of certificate_of
stored-is s v c b kept n state =
    record {
      setting = n.setting;
      signs = record { member = n.signs.member; length_is = n.signs.length_is; each = λ i body above. n.signs.each i body (omega (arith, above, ap (λ (x : Stored). x.next) state, more-stored v.stored b)) };
      holds = n.holds;
      stored = state ∙ ap (λ x. stored_after x b) n.stored;
      records = n.records;
      roster = n.roster;
      probes = n.probes;
      news = n.news;
      since = n.since;
    }

first-is : (s : Setting) (kit : Kit) → IsSettingOf s kit
    → Note (record { member = kit.me; epoch = kit.stored.epoch + 1; mask = record { 0 = first_mask kit.group.t kit.stored.mask.0 } }) ≡ first_note s kit.stored
first-is s kit setting =
    ap (λ (m : ℕ). Note (record { member = m; epoch = kit.stored.epoch + 1; mask = record { 0 = first_mask kit.group.t kit.stored.mask.0 } })) (sym (me-of s kit.group kit.heal kit.me kit.authority kit.indexes s.signature setting.is))
    ∙ ap (λ (g : Group). Note (record { member = s.me; epoch = kit.stored.epoch + 1; mask = record { 0 = first_mask g.t kit.stored.mask.0 } })) (sym (group-of s kit.group kit.heal kit.me kit.authority kit.indexes s.signature setting.is))

-- The node of the setting may sign from each index on.
pub signs-of : (s : Setting) (kit : Kit) → MaySign kit → IsSettingOf s kit → (next : ℕ) → Signs s next kit.own_length
signs-of s kit may setting next =
    record {
      member = subst (λ (m : ℕ). m < MEMBERS) (sym (me-of s kit.group kit.heal kit.me kit.authority kit.indexes s.signature setting.is)) may.me;
      length_is = may.own_length;
      each = λ i b above. setting.long i b;
    }

pub may-begin : (s : Setting) (nonces : ℕ → ℕ) (certificates : List Record) (kit : Kit) (r : Ready) (p : Parts) → MaySign kit → IsSettingOf s kit → HasOpened kit.group nonces certificates p
    → ((t : Tellings) → record (kept_in kit p t) { stored = r.stored } ≡ kept_by r t) → r.stored ≡ stored_after kit.stored (Note r.note)
    → r.note ≡ record { member = kit.me; epoch = kit.stored.epoch + 1; mask = record { 0 = first_mask kit.group.t kit.stored.mask.0 } }
    → r.own.index ≡ kit.stored.next → r.own.length ≡ kit.own_length → r.own.body ≡ Note r.note → IsBody (Note r.note) → MayBegin s nonces certificates kit.stored r
may-begin s nonces certificates kit r p may setting has kept stored note index long body spelled =
    let o = has s kit refl may setting in
    let me : s.me ≡ kit.me = me-of s kit.group kit.heal kit.me kit.authority kit.indexes s.signature setting.is in
    let signs : Signs s r.own.index r.own.length = subst (Signs s r.own.index) (sym long) (signs-of s kit may setting r.own.index) in
    let by : signer_of r.own.body ≡ Some s.me = ap signer_of body ∙ ap (λ (n : NoteBody). Some n.member) note ∙ ap (λ (m : ℕ). Some m) (sym me) in
    let call = opened s nonces certificates kit.stored in
    record {
      is = λ t. subst (λ (x : Kept). IsMirror s x (with_stored (Note r.note) call).node) (kept t) (stored-is s (kept_in kit p t) call (Note r.note) r.stored (o.is t) stored);
      first = ap (λ (n : NoteBody). Note n) note ∙ first-is s kit setting;
      index = index ∙ ap (λ (x : Stored). x.next) (o.is nothing_told).stored;
      sendable = own-is s r.own.index r.own signs (omega arith) (subst IsBody (sym body) spelled) by;
      told_none = o.told_none;
      sent_none = o.sent_none;
    }

certificates-all : (records : List Record) → AreApart records → AllByRecursion (λ r. (x : CertBody) × (r.body ≡ Certificate x)) records
certificates-all [] apart = tt
certificates-all (r ∷ records) apart = ((apart.0.cert, apart.0.body), certificates-all records apart.1)

-- the node has joined its own life
pub own-joined : (kit : Kit) (nonces : ℕ → ℕ) (certificates : List Record) (p : Parts)
    → MaySign kit → HasOpened kit.group nonces certificates p → AreApart certificates → list_any (λ r. is_certificate_for kit.me r.body) certificates ≡ true → has_joined p.roll.membership kit.me ≡ true
own-joined kit nonces certificates p may has apart own =
    let s : Setting = some_setting kit in
    let is : IsSettingOf s kit = is-setting kit in
    let o = has s kit refl may is in
    let who : s.me ≡ kit.me = me-of s kit.group kit.heal kit.me kit.authority kit.indexes s.signature is.is in
    let member = becomes_member s certificates (begun (blank s nonces kit.stored)) (certificates-all certificates apart) (subst (λ (m : ℕ). list_any (λ r. is_certificate_for m r.body) certificates ≡ true) (sym who) own) in
    sym ((o.is nothing_told).holds.at_number kit.me).member ∙ subst (λ (m : ℕ). is_member (state_of s (opened s nonces certificates kit.stored).node) m ≡ true) who member

no-notes : (s : Setting) (me : ℕ) (records : List Record) (c : Call) → AllByRecursion (λ r. (x : CertBody) × (r.body ≡ Certificate x)) records → newest (state_of s c.node).notes me ≡ None
    → newest (state_of s (fold (λ (c : Call) r. takes s r c) c records).node).notes me ≡ None
no-notes s me [] c all h = h
no-notes s me (r ∷ records) c all h =
    let x : CertBody = all.0.0 in
    let st : State = state_of s c.node in
    let at = state-takes s r c ∙ ap (λ b. (step s.group st (event_of s b)).state) all.0.1 in
    no-notes s me records (takes s r c) all.1 (ap (λ (y : State). newest y.notes me) at ∙ (step-same s.group me st (Joins x.member (s.places x.member)) tt).note ∙ h)

-- and has no note in it yet
pub own-unnoted : (kit : Kit) (nonces : ℕ → ℕ) (certificates : List Record) (p : Parts)
    → MaySign kit → HasOpened kit.group nonces certificates p → AreApart certificates → fin.get p.roll.membership.notes kit.me ≡ None
own-unnoted kit nonces certificates p may has apart =
    let s : Setting = some_setting kit in
    let o = has s kit refl may (is-setting kit) in
    sym ((o.is nothing_told).holds.at_number kit.me).newest_note
    ∙ no-notes s kit.me certificates (begun (blank s nonces kit.stored)) (certificates-all certificates apart) (ap (λ (y : State). newest y.notes kit.me) (state-blank s nonces kit.stored))
