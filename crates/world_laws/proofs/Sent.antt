-- The records of each datagram that a node of a world sends verify under the keys of those who signed them.
use Rattle.std.proofs.Common.{◌≡◌, ℕ, ◌+◌, ◌<◌, ◌≤◌, true, List, [], ◌∷◌, ◌++◌, length, map, Some, None, ap, sym, ◌∙◌, subst, arith}
use Rattle.std.specs.List.{AllByRecursion}
use Rattle.std.specs.Option.{option_map}
use Rattle.life_laws.proofs.Lists.{All-at, All-from_In}
use Rattle.records.specs.declared.keys.Key.{Key}
use Rattle.records.specs.declared.CertBody.{CertBody}
use Rattle.records.specs.declared.Body.{Body}
use Rattle.records.specs.declared.Body.TheVariants.{Certificate, Note, Accusation}
use Rattle.records.specs.declared.Record.{Record}
use Rattle.epoch_store.specs.declared.Stored.{Stored}
use Rattle.node_rules.specs.Nodes as node
use Rattle.node_rules.specs.Calls.{Call}
use Rattle.node_rules.specs.Known.{records_of}
use Rattle.node_rules.specs.Lives.{Input}
use Rattle.node_rules.specs.OnDisks.{called}
use Rattle.node_rules.specs.Vouching as vouching
use Rattle.node_rules.specs.Vouching.{IsCertifiedBy, author_key}
use Rattle.node_rules.proofs.SentRecords.{sent-authentic}
use Rattle.world_rules.specs.Settings.{Setting, by_authority, certificate, certificates, certified_from, is_node, members, record_of, setting_of}
use Rattle.world_rules.specs.Disks.{Disk}
use Rattle.world_rules.specs.Calls.{OnDisk, called_on}
use Rattle.world_rules.specs.Worlds.{Host, Life, World, begun_world}
use Rattle.world_rules.specs.Steps.{NodeEvent, first_call, first_life, host_after, life_over, with_disk, with_input}
use Rattle.world_rules.specs.Laws.{IsSetting}
use Rattle.world_rules.proofs.LineSteps.{IsFree, Keeps, keeps-reached}
use Rattle.world_rules.proofs.Once.{at-host}
use Rattle.world_rules.proofs.SoFar.{come-so-far}
use Rattle.world_laws.specs.Signing.{KeepsRoster}
use Rattle.world_laws.specs.Laws.{SignaturesVerify}
use Rattle.world_laws.specs.Sent.{HasIndexes, IsAuthentic, IsOfAuthentic, SendsAuthentic, SentRecordsVerify, signer_key}
use Rattle.world_laws.proofs.InCalls.{called-goes_on}
use Rattle.world_laws.proofs.Reaching.{after-current, in-life}
use Rattle.world_laws.proofs.Rosters.{kit-all, kit-own}
use Rattle.world_laws.proofs.Verified.{AllVerified, first-left, verified-first, verified-kept}
use Rattle.world_laws.proofs.Written.{started-sent}

-- ---- the kit

good-certified : (s : Setting) (m index : ℕ) (ms : List ℕ) → SignaturesVerify s → index + length ms ≤ s.authority_indexes → AllByRecursion (IsCertifiedBy (setting_of s m) (s.key (Some m))) (map (record_of s) (certified_from s index ms))
good-certified s m index [] verify few = tt
good-certified s m index (k ∷ ms) verify few = ((verify None index (Certificate (certificate s k)) (omega (arith, few)), own), good-certified s m (index + 1) ms verify (omega (arith, few)))
  where
    inner : (x y : CertBody) → Certificate x ≡ Certificate y → x ≡ y
    inner x y e = cc

    own : (c : CertBody) → Certificate (certificate s k) ≡ Certificate c → c.member ≡ m → c.key ≡ s.key (Some m)
    own c is who =
        let same : certificate s k ≡ c = inner (certificate s k) c is in
        sym (ap (λ (x : CertBody). x.key) same) ∙ ap (λ z. s.key (Some z)) (ap (λ (x : CertBody). x.member) same ∙ who)

good-kit : (s : Setting) (m : ℕ) → SignaturesVerify s → HasIndexes s → AllByRecursion (IsCertifiedBy (setting_of s m) (s.key (Some m))) (certificates s)
unfolding by_authority
good-kit s m verify few = good-certified s m 0 (members s) verify (omega (arith, few))

-- ---- a call

by-roster : (s : Setting) (m : ℕ) (n : node.Node) (b : Body) (key : Key) → KeepsRoster s n → author_key (setting_of s m) n b ≡ Some key → signer_key s b ≡ Some key
by-roster s m n (Certificate c) key keeps e = e
by-roster s m n (Note note) key keeps e = ap (λ o. option_map (λ c. c.key) o) (sym (keeps note.member)) ∙ e
by-roster s m n (Accusation a) key keeps e = ap (λ o. option_map (λ c. c.key) o) (sym (keeps a.accuser)) ∙ e

record-authentic : (s : Setting) (m : ℕ) (n : node.Node) (r : Record) → KeepsRoster s n → vouching.IsAuthentic (setting_of s m) n r → IsAuthentic s r
record-authentic s m n r keeps h = record { key = h.key; signer_is = by-roster s m n r.body h.key keeps h.author_is; verifies = h.verifies }

bytes-authentic : (s : Setting) (m : ℕ) (n : node.Node) (bytes : List ℕ) → KeepsRoster s n → vouching.IsOfAuthentic (setting_of s m) n bytes → IsOfAuthentic s bytes
bytes-authentic s m n bytes keeps h =
    record {
      datagram = h.datagram;
      spelled = h.spelled;
      records = All-from_In (IsAuthentic s) (records_of h.datagram) (λ r i. record-authentic s m n r keeps (All-at (vouching.IsAuthentic (setting_of s m) n) (records_of h.datagram) r h.records i));
    }

-- ---- the world

abbrev AllAuthentic : Setting → List (ℕ × List ℕ) → Type 0
AllAuthentic s sent = AllByRecursion (λ d. IsOfAuthentic s d.1) sent

all-append : (s : Setting) (xs ys : List (ℕ × List ℕ)) → AllAuthentic s xs → AllAuthentic s ys → AllAuthentic s (xs ++ ys)
all-append s [] ys h k = k
all-append s (x ∷ xs) ys h k = (h.0, all-append s xs ys h.1 k)

record Sends (s : Setting) (w : World) (told : List NodeEvent) : Type 0 where
  verified : AllVerified s w told
  found : (m : ℕ) (life : Life) → (w.hosts m).current ≡ Some life → life.found.next < s.indexes
  sent : SendsAuthentic s w

some-is : {X : Type 0} (x y : X) → Some x ≡ Some y → x ≡ y
some-is x y e = cc

none-some : {X A : Type 0} (x : X) → None ≡ Some x → A
none-some x e = cc

call-authentic : (s : Setting) (w : World) (told : List NodeEvent) (m : ℕ) (i : Input) (life : Life) → IsSetting s → SignaturesVerify s → HasIndexes s → (w.hosts m).current ≡ Some life → IsFree s w i → Sends s w told
    → AllAuthentic s (called_on (setting_of s m) life.node i (w.hosts m).disk).call.sent
call-authentic s w told m i life fits verify few running free h =
    let own : node.Setting = setting_of s m in
    let d : Disk = (w.hosts m).disk in
    let c : Call = (called_on own life.node i d).call in
    let holds = h.verified.holds in
    let is : is_node s m ≡ true = (holds.hosts m).is life running in
    let it = come-so-far own life.node i d in
    let law = sent-authentic own (s.key (Some m)) (s.nonces m life.found.next) (certificates s) life.found life.inputs i it.0 fits.some (record { all = kit-all s; own = kit-own s m fits is }) (good-kit s m verify few)
    (λ index body left. verify (Some m) index body left) (h.found m life running) in
    let sends : vouching.SendsAuthentic own c = subst (vouching.SendsAuthentic own) (sym it.1) (subst (λ n. vouching.SendsAuthentic own (called own n i it.0)) (sym ((holds.hosts m).after life running)) law) in
    let keeps : KeepsRoster s c.node = (called-goes_on s w m life.node i d (record { fits = fits; is = is; only = holds.only }) free (in-life s w told m life running holds)).roster in
    All-from_In (λ (x : ℕ × List ℕ). IsOfAuthentic s x.1) c.sent
    (λ x j. bytes-authentic s m c.node x.1 keeps (All-at (λ (x : ℕ × List ℕ). vouching.IsOfAuthentic own c.node x.1) c.sent x sends j))

sends-kept : (s : Setting) → IsSetting s → SignaturesVerify s → HasIndexes s → Keeps s (Sends s)
sends-kept s fits verify few =
    let keep : Keeps s (AllVerified s) = verified-kept s fits in
    record {
      called = λ m i life c running free h.
          let host : Host = c.world.hosts m in
          let d : OnDisk = called_on (setting_of s m) life.node i host.disk in
          let after : Life = with_input life i d.call.node in
          record {
            verified = keep.called m i life c running free h.verified;
            found = λ k l. at-host k m (host_after host after d) c.world (λ x. x.current ≡ Some l → l.found.next < s.indexes)
                (λ e is. subst (λ (x : Life). x.found.next < s.indexes) (after-current host after d l is).1 (h.found m life running)) (λ apart is. h.found k l is);
            sent = all-append s c.world.sent d.call.sent h.sent (call-authentic s c.world c.told m i life fits verify few running free h);
          };
      began = λ m d c is idle left same h.
          let host : Host = c.world.hosts m in
          let kept : Stored = host.disk.state in
          let call : Call = first_call s m kept in
          let none : call.sent ≡ [] = started-sent (setting_of s m) (s.nonces m kept.next) (certificates s) kept in
          record {
            verified = keep.began m d c is idle left same h.verified;
            found = λ k l. at-host k m (record { disk = d; past = host.past; current = Some (first_life kept call) }) c.world (λ x. x.current ≡ Some l → l.found.next < s.indexes)
                (λ e it. subst (λ (x : Life). x.found.next < s.indexes) (some-is _ l it) (first-left s host left (h.verified.hosts m).disk)) (λ apart it. h.found k l it);
            sent = all-append s c.world.sent call.sent h.sent (subst (AllAuthentic s) (sym none) tt);
          };
      tried = λ m d w told idle left may h.
          record {
            verified = keep.tried m d w told idle left may h.verified;
            found = λ k l. at-host k m (with_disk (w.hosts m) d) w (λ x. x.current ≡ Some l → l.found.next < s.indexes) (λ e it. h.found m l it) (λ apart it. h.found k l it);
            sent = h.sent;
          };
      disked = λ m d w told same h.
          record {
            verified = keep.disked m d w told same h.verified;
            found = λ k l. at-host k m (with_disk (w.hosts m) d) w (λ x. x.current ≡ Some l → l.found.next < s.indexes) (λ e it. h.found m l it) (λ apart it. h.found k l it);
            sent = h.sent;
          };
      ended = λ m life w told running h.
          record {
            verified = keep.ended m life w told running h.verified;
            found = λ k l. at-host k m (life_over (w.hosts m) (Some life)) w (λ x. x.current ≡ Some l → l.found.next < s.indexes) (λ e it. none-some {X = Life} l it) (λ apart it. h.found k l it);
            sent = h.sent;
          };
      got = λ m moment number w told h. record { verified = keep.got m moment number w told h.verified; found = h.found; sent = h.sent };
      flowed = λ number w told h. record { verified = keep.flowed number w told h.verified; found = h.found; sent = h.sent };
      lied = λ key body name w told liar h. record { verified = keep.lied key body name w told liar h.verified; found = h.found; sent = h.sent };
    }

sends-first : (s : Setting) → Sends s (begun_world s) []
unfolding begun_world
sends-first s = record { verified = verified-first s; found = λ m life none. none-some {X = Life} life none; sent = tt }

pub sent-verify : SentRecordsVerify
sent-verify s w told fits verify few reached = (keeps-reached s (Sends s) (sends-kept s fits verify few) (sends-first s) w told reached).sent
