-- A signature that is wanted, in the code, is that of the definitions.
use Rattle.std.proofs.Common.{◌≡◌, ℕ, ◌<◌, eqb, true, false, List, [], ◌∷◌, Option, refl, ap, sym, ◌∙◌, subst, Err}
use Rattle.std.proofs.Common.{arith, eq-eqb}
use Rattle.std.proofs.lemmas.Bool.Decides.{nat_tests}
use Rattle.ff_ids.specs.declared.Group.{Group}
use Rattle.ff_ids.specs.declared.summary.RecordKey.{RecordKey}
use Rattle.records.specs.declared.Body.{Body}
use Rattle.records.specs.declared.Record.{Record}
use Rattle.records.specs.Signing.{CheckedRecord}
use Rattle.record_set.specs.Held.{key_of}
use Rattle.journal.specs.declared.event.Event as journal
use Rattle.node_rules.specs.Nodes.{Setting, Node, state_of, certificate_of}
use Rattle.node_rules.specs.Calls.{Call, tells, takes, sends_to_all, spends, signs, signs_and_sends, own_record, wants, stops, is_used_up}
use Rattle.node_core.specs.Signatures.{with_stored, next_own}
use Rattle.datagram.specs.declared.Datagram.TheVariants as kinds
use Rattle.signer.specs.Signing.{SignerState, stored_after, signed_record, next_note, after_signing}
use Rattle.signer.specs.declared.SignFault.{SignFault}
use Rattle.signer.specs.declared.SignFault.TheVariants as refusals
use Rattle.epoch_store.specs.declared.Stored.{Stored}
use Rattle.sign_keys.specs.Keys.{index_count, signature_of}
use Rattle.ff_ids.specs.declared.Mask.{Mask}
use Rattle.records.specs.Signing.{signed_bytes}
use Rattle.datagram.specs.declared.Datagram.{Datagram}
use Rattle.datagram.specs.Spelling.{datagram_bytes}
use Rattle.journal.specs.declared.event.What.TheVariants as told
use Rattle.node_core.specs.Neighbours.{addressees}
use Rattle.node_core.specs.Told.{Tellings}
use Rattle.node_core.specs.News.{keeps, with_fresh}
use Rattle.node_core.specs.Playing.{Kept, setting_of, IsNode, IsAt, Plays, Stops, Extends, Grows}
use Rattle.node_core.proofs.ExtendLemmas.{extends-signs_and_sends, extends-wants}
use Rattle.node_core.proofs.DueLemmas.{behind-extends, behind-same, from-fine, plays-refused}
use Rattle.node_core.proofs.PlayLemmas.{setting-me, IsNoCertificate, takes-fresh, grows-signer}

pub spends-is : (s : Setting) (b : Body) (c : Call) → spends s b c ≡ tells s (told.Spent c.node.stored.next b) (with_stored b c)
unfolding state_of
spends-is s b c = refl

pub signs-is : (s : Setting) (b : Body) (c : Call) → signs s b c ≡ takes s (own_record s c.node b) (spends s b c)
unfolding signs
signs-is s b c = refl

sends-own : (s : Setting) (b : Body) (also : Option ℕ) (c : Call) → signs_and_sends s b (addressees s also) c ≡ sends_to_all s (addressees s also (state_of s (signs s b c).node)) (kinds.Records s.me (own_record s c.node b ∷ [])) (signs s b c)
unfolding signs_and_sends
sends-own s b also c = refl

with-stored : (b : Body) (c d : Call) → Extends c d → Extends (with_stored b c) d
with-stored b c d h = record { told = h.told; sent = h.sent }

spent-plays : (s : Setting) (es : List journal.Event) (os : List (ℕ × List ℕ)) (c : Call) (b : Body) (v : Kept) (index : ℕ)
    → index ≡ c.node.stored.next → Plays s es os v (tells s (told.Spent index b) (with_stored b c))
    → Plays s es os v (spends s b c)
spent-plays s es os c b v index at p =
    subst (λ x. Plays s es os v x) (ap (λ k. tells s (told.Spent k b) (with_stored b c)) at ∙ sym (spends-is s b c)) p

-- the own record is reported and kept
pub own-kept : (s : Setting) (es : List journal.Event) (os : List (ℕ × List ℕ)) (c : Call) (b : Body) (v1 v2 : Kept) (index : ℕ)
    (r : Record)
    → index ≡ c.node.stored.next → r ≡ own_record s c.node b → Plays s es os v1 (tells s (told.Spent index b) (with_stored b c))
    → ((x : Call) → Plays s es os v1 x → Plays s es os v2 (keeps s r x))
    → Plays s es os v2 (keeps s (own_record s c.node b) (spends s b c))
own-kept s es os c b v1 v2 index r at own p kept =
    subst (λ x. Plays s es os v2 (keeps s x (spends s b c))) own (kept (spends s b c) (spent-plays s es os c b v1 index at p))

pub signs-fresh : (s : Setting) (b : Body) (k : RecordKey) (c : Call) → IsNoCertificate b → k ≡ key_of b
    → with_fresh s k (keeps s (own_record s c.node b) (spends s b c)) ≡ signs s b c
signs-fresh s b k c other same = sym (signs-is s b c ∙ takes-fresh s (own_record s c.node b) b k (spends s b c) refl other same)

-- the own record is reported and accepted
pub kept-plays : (s : Setting) (es : List journal.Event) (os : List (ℕ × List ℕ)) (c : Call) (b : Body) (v1 v2 : Kept) (index : ℕ) (r : Record)
    → index ≡ c.node.stored.next → r ≡ own_record s c.node b → Plays s es os v1 (tells s (told.Spent index b) (with_stored b c))
    → ((x : Call) → Plays s es os v1 x → Plays s es os v2 (takes s r x)) → Plays s es os v2 (signs s b c)
kept-plays s es os c b v1 v2 index r at own p taken =
    subst (λ x. Plays s es os v2 x) (ap (λ x. takes s x (spends s b c)) own ∙ sym (signs-is s b c))
    (taken (spends s b c) (spent-plays s es os c b v1 index at p))

-- and sent, if memory sufficed for its bytes
pub passed-on : (s : Setting) (es : List journal.Event) (os : List (ℕ × List ℕ)) (c : Call) (b : Body) (also : Option ℕ) (v0 v2 v3 : Kept) (r : Record) (Spelled : List ℕ → Type 0)
    → Plays s es os v0 (with_stored b c) → Grows v0 v3 → r ≡ own_record s c.node b → Plays s es os v2 (signs s b c)
    → ((x : Call) (d : Datagram) → Plays s es os v2 x → Spelled (datagram_bytes d) → Plays s es os v3 (sends_to_all s (addressees s also (state_of s x.node)) d x))
    → Spelled (datagram_bytes (kinds.Records v0.me (r ∷ []))) → Plays s es os v3 (signs_and_sends s b (addressees s also) c)
passed-on s es os c b also v0 v2 v3 r Spelled p grows own p2 sent spelled =
    from-fine s es os v0 v3 (with_stored b c) (signs_and_sends s b (addressees s also) c) p grows (with-stored b c (signs_and_sends s b (addressees s also) c) (extends-signs_and_sends s b (addressees s also) c)) (λ h.
    let n = h.is in
    let me : v0.me ≡ s.me = sym (setting-me s v0.group v0.heal v0.me v0.authority v0.signer.key n.setting) in
    let d : Datagram = kinds.Records s.me (own_record s c.node b ∷ []) in
    let spelled2 : Spelled (datagram_bytes d) = subst Spelled (ap (λ m. datagram_bytes (kinds.Records m (r ∷ []))) me ∙ ap (λ x. datagram_bytes (kinds.Records s.me (x ∷ []))) own) spelled in
    subst (λ x. Plays s es os v3 x) (sym (sends-own s b also c)) (sent (signs s b c) d p2 spelled2))

-- the signer has spent an index on the body
pub stored-at : (s : Setting) (es : List journal.Event) (os : List (ℕ × List ℕ)) (v : Kept) (c : Call) (b : Body) (signer : SignerState)
    → Plays s es os v c → signer.key ≡ v.signer.key → signer.state ≡ stored_after v.signer.state b → Plays s es os (record v { signer = signer }) (with_stored b c)
unfolding state_of certificate_of
stored-at s es os v c b signer p key state = record {
  at = λ fine.
      let h = p.at fine in
      let n = h.is in
      record {
        is = record {
          setting = n.setting ∙ ap (setting_of v.group v.heal v.me v.authority) (sym key);
          holds = n.holds;
          stored = state ∙ ap (λ x. stored_after x b) n.stored;
          records = n.records;
          roster = n.roster;
          probes = n.probes;
          news = n.news;
          since = n.since;
        };
        told = h.told;
        sent = h.sent;
        before = h.before;
      };
  due = record { told = p.due.told; sent = p.due.sent };
}

pub own-signed : (s : Setting) (v : Kept) (n : Node) (b : Body) → IsNode s v n → v.signer.group ≡ v.group → (signed_record v.signer b).rec ≡ own_record s n b
unfolding setting_of
own-signed s v n b is same =
    let rec-with : (ℕ → Body → List ℕ) → ℕ → Record = λ f k. record { body = b; signature = f k b } in
    ap (λ (g : Group). record { body = b; signature = signature_of v.signer.key v.signer.state.next (signed_bytes g.tag g.t b) }) same
    ∙ ap (λ k. rec-with (λ index body. signature_of v.signer.key index (signed_bytes v.group.tag v.group.t body)) k) (ap (λ x. x.next) is.stored)
    ∙ ap (λ (x : Setting). rec-with x.signature n.stored.next) (sym is.setting)

pub wants-signed : (s : Setting) (b : Body) (also : Option ℕ) (c : Call) → is_used_up s c.node ≡ false → wants true s b (addressees s also) c ≡ signs_and_sends s b (addressees s also) c
unfolding wants
wants-signed s b also c free = rw free refl

pub wants-used_up : (s : Setting) (b : Body) (also : Option ℕ) (c : Call) → is_used_up s c.node ≡ true → wants true s b (addressees s also) c ≡ tells s (told.Exhausted c.node.stored.next) c
unfolding wants
wants-used_up s b also c full = rw full refl

pub wants-stopped : (s : Setting) (b : Body) (also : Option ℕ) (c : Call) → is_used_up s c.node ≡ false → wants false s b (addressees s also) c ≡ stops s c
unfolding wants
wants-stopped s b also c free = rw free refl

used-up-is : (s : Setting) (v : Kept) (n : Node) → IsNode s v n → is_used_up s n ≡ eqb v.signer.state.next (index_count v.signer.key)
unfolding setting_of
used-up-is s v n is = ap (λ (x : Setting). eqb n.stored.next x.indexes) is.setting ∙ ap (λ (x : Stored). eqb x.next (index_count v.signer.key)) (sym is.stored)

pub free-below : (s : Setting) (v : Kept) (n : Node) → IsNode s v n → v.signer.state.next < index_count v.signer.key → is_used_up s n ≡ false
free-below s v n is lt = used-up-is s v n is ∙ apart v.signer.state.next (index_count v.signer.key) lt
  where
    apart : (a b : ℕ) → a < b → eqb a b ≡ false
    apart a b lt = grind (arith, nat_tests, lt)

pub full-at : (s : Setting) (v : Kept) (n : Node) → IsNode s v n → v.signer.state.next ≡ index_count v.signer.key → is_used_up s n ≡ true
full-at s v n is e = used-up-is s v n is ∙ eq-eqb _ _ e

-- the signer may have closed
pub signer-at : (s : Setting) (es : List journal.Event) (os : List (ℕ × List ℕ)) (v : Kept) (c : Call) (signer : SignerState)
    → Plays s es os v c → signer.key ≡ v.signer.key → signer.state ≡ v.signer.state → Plays s es os (record v { signer = signer }) c
signer-at s es os v c signer p key state = record {
  at = λ fine.
      let h = p.at fine in
      let n = h.is in
      record {
        is = record {
          setting = n.setting ∙ ap (setting_of v.group v.heal v.me v.authority) (sym key);
          holds = n.holds;
          stored = state ∙ n.stored;
          records = n.records;
          roster = n.roster;
          probes = n.probes;
          news = n.news;
          since = n.since;
        };
        told = h.told;
        sent = h.sent;
        before = h.before;
      };
  due = record { told = p.due.told; sent = p.due.sent };
}

-- the disk failed in the signature
pub stopped-at : (s : Setting) (es : List journal.Event) (os : List (ℕ × List ℕ)) (v v1 : Kept) (c : Call) (b : Body) (also : Option ℕ)
    → Plays s es os v c → v.signer.state.next < index_count v.signer.key → Grows v v1 → (v1.telling.failed ≡ true → v1.telling ≡ record v.telling { failed = true }) → Plays s es os v1 (tells s told.Stopped c)
    → Stops s es os v1 (wants true s b (addressees s also) c) (wants false s b (addressees s also) c)
stopped-at s es os v v1 c b also p lt grows refused q =
    let stopped = λ (fine : v1.telling.failed ≡ false). wants-stopped s b also c (free-below s v c.node (p.at (grows.going fine)).is lt) in
    record {
      at = λ fine. let h = q.at fine in subst (IsAt s es os v1) (sym (stopped fine)) (record { is = h.is; told = h.told; sent = h.sent; before = h.before });
      ended = λ fine. ap (λ (x : Call). x.ended) (stopped fine);
      due = λ failed.
          let same = refused failed in
          behind-extends es os v1 c (wants true s b (addressees s also) c) (behind-same es os v v1 c (ap (λ (x : Tellings). x.events) same) (ap (λ (x : Tellings). x.sent) same) p.due) (extends-wants s b (addressees s also) c);
    }

-- the key was used up
pub used_up-at : (s : Setting) (es : List journal.Event) (os : List (ℕ × List ℕ)) (v v1 : Kept) (c : Call) (b : Body) (also : Option ℕ) (next : ℕ)
    → Plays s es os v c → next ≡ v.signer.state.next → next ≡ index_count v.signer.key → Grows v v1 → Plays s es os v1 (tells s (told.Exhausted next) c) → Plays s es os v1 (wants true s b (addressees s also) c)
used_up-at s es os v v1 c b also next p at last grows q =
    from-fine s es os v v1 c (wants true s b (addressees s also) c) p grows (extends-wants s b (addressees s also) c) (λ h.
    let n = h.is in
    let full = full-at s v c.node n (sym at ∙ last) in
    let same : next ≡ c.node.stored.next = at ∙ ap (λ (x : Stored). x.next) n.stored in
    subst (Plays s es os v1) (ap (λ k. tells s (told.Exhausted k) c) same ∙ sym (wants-used_up s b also c full)) q)

-- the signature was made
pub signed-at : (s : Setting) (es : List journal.Event) (os : List (ℕ × List ℕ)) (v v1 : Kept) (c : Call) (b wanted : Body) (also : Option ℕ) (signer : SignerState) (r : CheckedRecord) (index : ℕ)
    → Plays s es os v c → v.signer.group ≡ v.group → v.signer.state.next < index_count v.signer.key → index ≡ v.signer.state.next → (IsNode s v c.node → b ≡ wanted)
    → signer.key ≡ v.signer.key → signer.state ≡ stored_after v.signer.state b → r ≡ signed_record v.signer b → Grows (record v { signer = signer }) v1
    → (Plays s es os (record v { signer = signer }) (with_stored b c) → index ≡ c.node.stored.next → r.rec ≡ own_record s c.node b → Plays s es os v1 (signs_and_sends s b (addressees s also) c))
    → Plays s es os v1 (wants true s wanted (addressees s also) c)
signed-at s es os v v1 c b wanted also signer r index p same lt at body key state signed grows passes =
    from-fine s es os v v1 c (wants true s wanted (addressees s also) c) p (grows-signer v v1 signer grows) (extends-wants s wanted (addressees s also) c) (λ h.
    let n = h.is in
    let free = free-below s v c.node n lt in
    let own : r.rec ≡ own_record s c.node b = ap (λ (x : CheckedRecord). x.rec) signed ∙ own-signed s v c.node b n same in
    let next : index ≡ c.node.stored.next = at ∙ ap (λ (x : Stored). x.next) n.stored in
    let done = passes (stored-at s es os v c b signer p key state) next own in
    subst (Plays s es os v1) (sym (wants-signed s b also c free) ∙ ap (λ x. wants true s x (addressees s also) c) (body n)) done)

-- no signature was made, for want of memory
pub wants-refused : (s : Setting) (es : List journal.Event) (os : List (ℕ × List ℕ)) (v v1 : Kept) (c : Call) (b : Body) (also : Option ℕ)
    → Plays s es os v c → v1.telling ≡ record v.telling { failed = true } → Plays s es os v1 (wants true s b (addressees s also) c)
wants-refused s es os v v1 c b also p same = plays-refused s es os v v1 c (wants true s b (addressees s also) c) same p (extends-wants s b (addressees s also) c)

pub next-own-is : (s : Setting) (v : Kept) (n : Node) (mask : Mask) → IsNode s v n → next_note v.signer.state v.me mask ≡ next_own s n mask
next-own-is s v n mask is =
    let me : v.me ≡ s.me = sym (setting-me s v.group v.heal v.me v.authority v.signer.key is.setting) in
    ap (λ (m : ℕ). next_note v.signer.state m mask) me ∙ ap (λ (x : Stored). next_note x s.me mask) is.stored

-- no refusal changes the key or what the store keeps
pub refused-keeps : (old new : SignerState) (b : Body) (f : SignFault) → new ≡ after_signing {T = CheckedRecord} old b (Err f) → (new.key ≡ old.key) × (new.state ≡ old.state)
refused-keeps old new b refusals.OutOfMemory e = (ap (λ x. x.key) e, ap (λ x. x.state) e)
refused-keeps old new b refusals.Closed e = (ap (λ x. x.key) e, ap (λ x. x.state) e)
refused-keeps old new b (refusals.Exhausted next) e = (ap (λ x. x.key) e, ap (λ x. x.state) e)
refused-keeps old new b refusals.StoreFault e = (ap (λ x. x.key) e, ap (λ x. x.state) e)
