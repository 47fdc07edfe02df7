-- What a node accepts of a node's was signed by it, and no note is ahead of the node's own.
use Rattle.std.proofs.Common.{◌≡◌, ◌⊎◌, ℕ, ◌<◌, Bool, true, false, not, cond, eqb, List, Option, Some, None, inl, inr, refl, ap, sym, ◌∙◌, subst}
use Rattle.std.specs.Prelude.{nat_le, option_map}
use Rattle.std.specs.Option.{option_or}
use Rattle.std.specs.Ordering.{nat_cmp, ordering_then}
use Rattle.std.specs.Cmp.{nat_cmp_is}
use Rattle.std.specs.declared.cmp.Ordering.{Ordering}
use Rattle.std.specs.declared.cmp.Ordering.TheVariants.{Less, Equal, Greater}
use Rattle.std.proofs.lemmas.Bool.{cases_Bool, eq-eqb, eqb-true, false≢true}
use Rattle.ff_ids.specs.declared.AccBody.{AccBody}
use Rattle.ff_ids.specs.declared.NoteBody.{NoteBody}
use Rattle.ff_ids.specs.declared.Fault.{Fault}
use Rattle.ff_ids.specs.declared.Fault.TheVariants as faults
use Rattle.ff_ids.specs.Masks.{ring_count, enables, note_mask}
use Rattle.ff_ids.specs.Notes.{newest, note_cmp}
use Rattle.ff_ids.specs.Views.{State, is_member, is_number}
use Rattle.ff_ids.specs.Faults.{Facts, facts_of, fault_under, accusation_fault_by, accusation_fault, fault_beside, fault_after, note_fault_by, note_fault}
use Rattle.ff_ids.proofs.FaultLemmas.{passed}
use Rattle.life_laws.proofs.Lists.{In}
use Rattle.records.specs.declared.keys.Key.{Key}
use Rattle.records.specs.Keys.{written}
use Rattle.records.specs.declared.CertBody.{CertBody}
use Rattle.records.specs.declared.Body.{Body}
use Rattle.records.specs.declared.Body.TheVariants.{Certificate, Note, Accusation}
use Rattle.records.specs.declared.Record.{Record}
use Rattle.epoch_store.specs.declared.Stored.{Stored}
use Rattle.validate.specs.Table.{certificate_fault, signature_fault, own_ahead}
use Rattle.journal.specs.declared.event.What.TheVariants as told
use Rattle.node_rules.specs.Nodes as node
use Rattle.node_rules.specs.Nodes.{Node, state_of, event_of, certificate_of, public_key_of}
use Rattle.node_rules.specs.Refusals.{refusal, refusal_of}
use Rattle.node_rules.specs.Lives.{stored_note, KeepsOwnNote}
use Rattle.node_rules.proofs.OwnNote.{option_or-none}
use Rattle.world_rules.specs.Settings.{Setting, Signed, is_node, setting_of}
use Rattle.world_rules.specs.Worlds.{World}
use Rattle.world_rules.specs.Laws.{IsSetting}
use Rattle.world_laws.specs.Signing.{KeepsRoster}
use Rattle.world_laws.specs.Laws.{is_own_ahead}
use Rattle.world_laws.proofs.Rosters.{roster-key, accepted-unlisted}
use Rattle.world_laws.proofs.Signed.{IsGenuine, OnlyCertifies, SignedIn, node-signed, authority-signed}

-- ---- faults that are no own-ahead

abbrev pub is_ahead : Option Fault → Bool
is_ahead (Some (faults.OwnAhead stored seen)) = true
is_ahead fault = false

pub ahead-told : (body : Body) (fault : Option Fault) → is_own_ahead (told.Took body fault) ≡ is_ahead fault
ahead-told body None = refl
ahead-told body (Some (faults.OwnAhead stored seen)) = refl
ahead-told body (Some fault) = refl

unless-ahead : (b : Bool) (fault : Fault) (rest : Option Fault) → is_ahead (Some fault) ≡ false → is_ahead rest ≡ false → is_ahead (cond b (Some fault) rest) ≡ false
unless-ahead true fault rest h k = h
unless-ahead false fault rest h k = k

or-ahead : (a b : Option Fault) → is_ahead a ≡ false → (a ≡ None → is_ahead b ≡ false) → is_ahead (option_or a b) ≡ false
or-ahead None b h k = k refl
or-ahead (Some fault) b h k = h

under-ahead : (f : Facts) (a : AccBody) (o : Option NoteBody) → is_ahead (fault_under f a o) ≡ false
under-ahead f a None = refl
under-ahead f a (Some n) =
    unless-ahead (not (eqb n.epoch a.epoch)) (faults.OtherEpoch n.epoch) _ refl
    (unless-ahead (not f.viewed) faults.NotInView _ refl
    (unless-ahead (not (enables n.mask.0 a.ring.0)) faults.RingDisabled _ refl
    (unless-ahead (not (is_number f.ring_monitor a.accuser)) (faults.NotMonitor f.ring_monitor) _ refl
    (unless-ahead f.is_standing faults.Standing None refl refl))))

accusation-ahead : (t : ℕ) (f : Facts) (a : AccBody) → is_ahead (accusation_fault_by t f a) ≡ false
accusation-ahead t f a =
    unless-ahead (not f.both_joined) faults.UnknownMember _ refl
    (unless-ahead (eqb a.accuser a.accused) faults.SelfAccusation _ refl
    (unless-ahead (nat_le (ring_count t) a.ring.0) faults.BadRing _ refl (under-ahead f a f.newest_note)))

beside-ahead : (kept : NoteBody) (o : Ordering) → is_ahead (fault_beside kept o) ≡ false
beside-ahead kept Less = refl
beside-ahead kept Equal = refl
beside-ahead kept Greater = refl

after-ahead : (kept : Option NoteBody) (n : NoteBody) → is_ahead (fault_after kept n) ≡ false
after-ahead None n = refl
after-ahead (Some kept) n = beside-ahead kept (note_cmp n kept)

note-ahead : (t : ℕ) (joined : Bool) (kept : Option NoteBody) (n : NoteBody) → is_ahead (note_fault_by t joined kept n) ≡ false
note-ahead t joined kept n =
    unless-ahead (not joined) faults.UnknownMember _ refl (unless-ahead (not (note_mask t n.mask.0)) faults.BadMask _ refl (after-ahead kept n))

signature-ahead : (s : node.Setting) (author : Option Key) (r : Record) → is_ahead (signature_fault s.verifies author r) ≡ false
signature-ahead s None r = refl
signature-ahead s (Some key) r = either (s.verifies key r)
  where
    either : (b : Bool) → is_ahead (cond b None (Some faults.BadSignature)) ≡ false
    either true = refl
    either false = refl

certificate-ahead : (kept : Option CertBody) (c : CertBody) → is_ahead (certificate_fault kept c) ≡ false
certificate-ahead None c = refl
certificate-ahead (Some kept) c = either _
  where
    either : (b : Bool) → is_ahead (Some (cond b faults.Known (faults.OtherCertificate kept.port (written kept.key)))) ≡ false
    either true = refl
    either false = refl

-- ---- signatures

-- The record verifies under the author's key.
pub record Verifies (s : node.Setting) (author : Option Key) (r : Record) : Type 0 where
  pub key : Key
  pub author_is : author ≡ Some key
  pub verifies : s.verifies key r ≡ true

pub signature-verifies : (s : node.Setting) (author : Option Key) (r : Record) → signature_fault s.verifies author r ≡ None → Verifies s author r
signature-verifies s None r none = cc
signature-verifies s (Some key) r none =
    elim (cases_Bool (s.verifies key r)) [
      | inl good ↦ record { key = key; author_is = refl; verifies = good }
      | inr bad ↦ absurd (not-none (sym (ap (λ b. cond b None (Some faults.BadSignature)) bad) ∙ none))
    ]
  where
    not-none : Some faults.BadSignature ≡ None → ⊥
    not-none e = cc

-- What verifies as a member's, by the certificate that is kept of it, verifies under its key.
roster-verifies : (s : Setting) (m : ℕ) (n : Node) (r : Record) (k : ℕ) → KeepsRoster s n → signature_fault (setting_of s m).verifies (public_key_of n k) r ≡ None → s.verifies (s.key (Some k)) r ≡ true
roster-verifies s m n r k roster none =
    let v = signature-verifies (setting_of s m) (public_key_of n k) r none in
    sym (ap (λ key. s.verifies key r) (roster-key s n k v.key roster v.author_is)) ∙ v.verifies

-- ---- the node's own notes

-- A note that the store's state is not behind.
abbrev pub IsNoteWithin : Stored → NoteBody → Type 0
IsNoteWithin kept note = (note.epoch < kept.epoch) ⊎ ((note.epoch ≡ kept.epoch) × (note.mask.0 ≡ kept.mask.0))

-- So are all that the node's key has signed.
abbrev pub HasNotesWithin : ℕ → List Signed → Stored → Type 0
HasNotesWithin m signed kept = (index : ℕ) (note : NoteBody) → In signed (record { who = Some m; index = index; body = Note note }) → IsNoteWithin kept note

cmp-less : (a b : ℕ) → a < b → nat_cmp a b ≡ Less
cmp-less a b h = sym (nat_cmp_is a b Less h)

cmp-equal : (a b : ℕ) → a ≡ b → nat_cmp a b ≡ Equal
cmp-equal a b h = sym (nat_cmp_is a b Equal h)

not-after : (kept n : NoteBody) (o : Ordering) → note_cmp n kept ≡ o → (o ≡ Greater → ⊥) → fault_beside kept (note_cmp n kept) ≡ None → ⊥
not-after kept n Less e h none = some-none (sym (ap (fault_beside kept) e) ∙ none)
  where
    some-none : Some (faults.Older kept.epoch kept.mask) ≡ None → ⊥
    some-none e = cc
not-after kept n Equal e h none = some-none (sym (ap (fault_beside kept) e) ∙ none)
  where
    some-none : Some faults.Known ≡ None → ⊥
    some-none e = cc
not-after kept n Greater e h none = h refl

less-not : Less ≡ Greater → ⊥
less-not e = cc

equal-not : Equal ≡ Greater → ⊥
equal-not e = cc

within-refused : (s : node.Setting) (kept : Stored) (note : NoteBody) → IsNoteWithin kept note → fault_beside (stored_note s kept) (note_cmp note (stored_note s kept)) ≡ None → ⊥
within-refused s kept note (inl less) none =
    not-after (stored_note s kept) note Less (ap (λ o. ordering_then o (nat_cmp note.mask.0 kept.mask.0)) (cmp-less note.epoch kept.epoch less)) less-not none
within-refused s kept note (inr same) none =
    not-after (stored_note s kept) note Equal
    (ap (λ o. ordering_then o (nat_cmp note.mask.0 kept.mask.0)) (cmp-equal note.epoch kept.epoch same.0) ∙ cmp-equal note.mask.0 kept.mask.0 same.1) equal-not none

-- A note of the node's own that is not behind its store is refused without a look at its signature.
own-refused : (s : node.Setting) (n : Node) (note : NoteBody) → KeepsOwnNote s n → eqb note.member s.me ≡ true → IsNoteWithin n.stored note → note_fault s.group.t (state_of s n) note ≡ None → ⊥
own-refused s n note own mine within none =
    let st : State = state_of s n in
    let joined = passed (not (is_member st note.member)) faults.UnknownMember _ none in
    let allowed = passed (not (note_mask s.group.t note.mask.0)) faults.BadMask _ joined.1 in
    within-refused s n.stored note within (sym (ap (λ o. fault_after o note) (ap (newest st.notes) (eqb-true note.member s.me mine) ∙ own.own)) ∙ allowed.1)

-- ---- refusals

-- What a node knows as it looks at a record that it is handed.
pub record Knows (s : Setting) (w : World) (m : ℕ) (n : Node) : Type 0 where
  pub fits : IsSetting s
  pub is : is_node s m ≡ true
  pub only : OnlyCertifies s w.signed
  pub roster : KeepsRoster s n
  pub own : KeepsOwnNote (setting_of s m) n
  pub within : HasNotesWithin m w.signed n.stored

ahead-note : (s : Setting) (w : World) (m : ℕ) (n : Node) (r : Record) (note : NoteBody) → Knows s w m n → IsGenuine s w r → r.body ≡ Note note → note_fault s.group.t (state_of (setting_of s m) n) note ≡ None
    → signature_fault (setting_of s m).verifies (public_key_of n note.member) r ≡ None → is_ahead (own_ahead m (newest (state_of (setting_of s m) n).notes m) note) ≡ false
ahead-note s w m n r note k free is unrefused verified =
    elim (cases_Bool (eqb note.member m)) [
      | inl mine ↦
          let verifies : s.verifies (s.key (Some m)) r ≡ true = subst (λ (z : ℕ). s.verifies (s.key (Some z)) r ≡ true) (eqb-true note.member m mine) (roster-verifies s m n r note.member k.roster verified) in
          let signed : SignedIn w.signed (Some m) (Note note) = node-signed s w r m (Note note) k.fits free k.is tt is verifies in
          absurd (own-refused (setting_of s m) n note k.own mine (k.within signed.index note signed.among) unrefused)
      | inr other ↦ ap (λ b. is_ahead (cond b (option_map (λ stored. faults.OwnAhead stored note) (newest (state_of (setting_of s m) n).notes m)) None)) other
    ]

ahead-of : (s : Setting) (w : World) (m : ℕ) (n : Node) (r : Record) (b : Body) → r.body ≡ b → Knows s w m n → IsGenuine s w r → is_ahead (refusal_of (setting_of s m) n r b) ≡ false
ahead-of s w m n r (Certificate c) is k free =
    or-ahead (certificate_fault (certificate_of n c.member) c) _ (certificate-ahead (certificate_of n c.member) c) (λ none. signature-ahead (setting_of s m) (Some (s.key None)) r)
ahead-of s w m n r (Note note) is k free =
    let own : node.Setting = setting_of s m in
    or-ahead (note_fault s.group.t (state_of own n) note) _ (note-ahead s.group.t (is_member (state_of own n) note.member) (newest (state_of own n).notes note.member) note)
    (λ unrefused. or-ahead (signature_fault own.verifies (public_key_of n note.member) r) _ (signature-ahead own (public_key_of n note.member) r) (λ verified. ahead-note s w m n r note k free is unrefused verified))
ahead-of s w m n r (Accusation a) is k free =
    let own : node.Setting = setting_of s m in
    or-ahead (accusation_fault s.group.t (state_of own n) a) _ (accusation-ahead s.group.t (facts_of (state_of own n) a) a) (λ none. signature-ahead own (public_key_of n a.accuser) r)

-- No genuine record is refused for that.
pub none-ahead : (s : Setting) (w : World) (m : ℕ) (n : Node) (r : Record) → Knows s w m n → IsGenuine s w r → is_ahead (refusal (setting_of s m) n r) ≡ false
unfolding refusal
none-ahead s w m n r k free = ahead-of s w m n r r.body refl k free

-- ---- what is accepted

accepted-verifies : (s : node.Setting) (n : Node) (r : Record) (b : Body) → r.body ≡ b → refusal s n r ≡ None → refusal_of s n r b ≡ None
unfolding refusal
accepted-verifies s n r b is fine = sym (ap (refusal_of s n r) is) ∙ fine

-- An accepted note of a node's was signed by it, and so was an accepted accusation.
pub accepted-note : (s : Setting) (w : World) (m : ℕ) (n : Node) (r : Record) (note : NoteBody) → Knows s w m n → IsGenuine s w r → refusal (setting_of s m) n r ≡ None → r.body ≡ Note note → is_node s note.member ≡ true → SignedIn w.signed (Some note.member) (Note note)
accepted-note s w m n r note k free fine is by =
    let own : node.Setting = setting_of s m in
    let rest = (option_or-none (note_fault s.group.t (state_of own n) note) _ (accepted-verifies own n r (Note note) is fine)).1 in
    let verified = (option_or-none (signature_fault own.verifies (public_key_of n note.member) r) _ rest).0 in
    node-signed s w r note.member (Note note) k.fits free by tt is (roster-verifies s m n r note.member k.roster verified)

pub accepted-accusation : (s : Setting) (w : World) (m : ℕ) (n : Node) (r : Record) (a : AccBody) → Knows s w m n → IsGenuine s w r → refusal (setting_of s m) n r ≡ None → r.body ≡ Accusation a → is_node s a.accuser ≡ true → SignedIn w.signed (Some a.accuser) (Accusation a)
accepted-accusation s w m n r a k free fine is by =
    let own : node.Setting = setting_of s m in
    let verified = (option_or-none (accusation_fault s.group.t (state_of own n) a) _ (accepted-verifies own n r (Accusation a) is fine)).1 in
    node-signed s w r a.accuser (Accusation a) k.fits free by tt is (roster-verifies s m n r a.accuser k.roster verified)

-- No genuine note of the node's own is: its store is not behind it.
pub own-note-refused : (s : Setting) (w : World) (m : ℕ) (n : Node) (r : Record) (note : NoteBody) → Knows s w m n → IsGenuine s w r → refusal (setting_of s m) n r ≡ None → r.body ≡ Note note → note.member ≡ m → ⊥
own-note-refused s w m n r note k free fine is mine =
    let own : node.Setting = setting_of s m in
    let parts = option_or-none (note_fault s.group.t (state_of own n) note) _ (accepted-verifies own n r (Note note) is fine) in
    let verified = (option_or-none (signature_fault own.verifies (public_key_of n note.member) r) _ parts.1).0 in
    let verifies : s.verifies (s.key (Some m)) r ≡ true = subst (λ (z : ℕ). s.verifies (s.key (Some z)) r ≡ true) mine (roster-verifies s m n r note.member k.roster verified) in
    let signed : SignedIn w.signed (Some m) (Note note) = node-signed s w r m (Note note) k.fits free k.is tt is verifies in
    own-refused own n note k.own (eq-eqb note.member m mine) (k.within signed.index note signed.among) parts.0

-- No genuine certificate is accepted: the roster has all there are.
pub certificate-refused : (s : Setting) (w : World) (m : ℕ) (n : Node) (r : Record) (x : CertBody) → Knows s w m n → IsGenuine s w r → refusal (setting_of s m) n r ≡ None → r.body ≡ Certificate x → ⊥
certificate-refused s w m n r x k free fine is =
    let own : node.Setting = setting_of s m in
    let verified = (option_or-none (certificate_fault (certificate_of n x.member) x) _ (accepted-verifies own n r (Certificate x) is fine)).1 in
    let v = signature-verifies own (Some (s.key None)) r verified in
    let key : s.key None ≡ v.key = some-is _ _ v.author_is in
    false≢true (sym (accepted-unlisted s own n r x k.roster fine is) ∙ authority-signed s w r x k.only free is (ap (λ key. s.verifies key r) key ∙ v.verifies))
  where
    some-is : (x y : Key) → Some x ≡ Some y → x ≡ y
    some-is x y e = cc
