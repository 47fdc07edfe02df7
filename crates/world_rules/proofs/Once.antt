-- What a node's key spends over all its lives rises.
use Rattle.std.proofs.Common.{◌≡◌, ◌⊎◌, ℕ, ◌+◌, ◌<◌, ◌≤◌, Bool, true, false, eqb, List, [], ◌∷◌, ◌++◌, Option, Some, None, inl, inr, refl, ap, sym, ◌∙◌, subst, arith}
use Rattle.std.specs.Prelude.{fold, filter_map}
use Rattle.std.specs.List.{cons_option, AllByRecursion}
use Rattle.std.proofs.lemmas.Bool.{cases_Bool, cond_both, eq-eqb, eqb-true}
use Rattle.std.proofs.lemmas.List.{append_assoc}
use Rattle.std.proofs.lemmas.List.Elements.{filter_map-append}
use Rattle.records.specs.declared.Body.{Body}
use Rattle.records.specs.declared.Body.TheVariants.{Certificate, Note, Accusation}
use Rattle.records.specs.declared.Record.{Record}
use Rattle.epoch_store.specs.declared.Stored.{Stored}
use Rattle.signer.specs.Signing.{stored_after}
use Rattle.signer.specs.Lives.{Spent, IsOnce, IsRising, indexes, note_epochs, epochs_of}
use Rattle.journal.specs.declared.event.Event as journal
use Rattle.journal.specs.declared.event.What as whats
use Rattle.journal.specs.declared.event.What.TheVariants as happened
use Rattle.node_rules.specs.Nodes as node
use Rattle.node_rules.specs.Calls.{Call, begun, takes}
use Rattle.node_rules.specs.Starting.{blank, opened, first_note, started}
use Rattle.node_rules.specs.Lives.{Input}
use Rattle.world_rules.specs.Settings.{Setting, Signed, is_node, is_liar, same_owner, certified_from, by_authority, certificates, members, setting_of}
use Rattle.world_rules.specs.Disks.{Disk}
use Rattle.world_rules.specs.Calls.{OnDisk, called_on}
use Rattle.world_rules.specs.Worlds.{Life, Host, World, begun_world, spent_if_by, spent_of, with_host}
use Rattle.world_rules.specs.Steps.{Execution, NodeEvent, first_call, first_life, life_over, signed_if_spent, signed_in, host_after, with_disk, with_input}
use Rattle.world_rules.specs.Laws.{IsSetting, NodesSpendOnce}
use Rattle.world_rules.proofs.CallSteps.{SpendsNothing, SpendsOne, MayFollow, nothing-same, nothing-then, nothing-takes, one-signs, one-behind}
use Rattle.world_rules.proofs.OnDisks.{IsKept, Sound, chosen, other, next-after, sound-called}
use Rattle.world_rules.proofs.LineSteps.{Keeps, keeps-reached}

-- ---- lists that rise

all-push : {X : Type 0} (P : X → Type 0) (xs : List X) (x : X) → AllByRecursion P xs → P x → AllByRecursion P (xs ++ x ∷ [])
all-push P [] x all h = (h, tt)
all-push P (y ∷ xs) x all h = (all.0, all-push P xs x all.1 h)

all-weaker : (P Q : ℕ → Type 0) (xs : List ℕ) → ((x : ℕ) → P x → Q x) → AllByRecursion P xs → AllByRecursion Q xs
all-weaker P Q [] f all = tt
all-weaker P Q (x ∷ xs) f all = (f x all.0, all-weaker P Q xs f all.1)

rising-push : (xs : List ℕ) (y : ℕ) → AllByRecursion (λ x. x < y) xs → IsRising xs → IsRising (xs ++ y ∷ [])
rising-push [] y below rise = (tt, tt)
rising-push (x ∷ xs) y below rise = (all-push (λ z. x < z) xs y rise.0 below.0, rising-push xs y below.1 rise.1)

indexes-push : (xs : List Spent) (x : Spent) → indexes (xs ++ x ∷ []) ≡ indexes xs ++ x.index ∷ []
indexes-push [] x = refl
indexes-push (y ∷ xs) x = ap (λ (zs : List ℕ). y.index ∷ zs) (indexes-push xs x)

nil-right : {A : Type 0} (xs : List A) → xs ++ [] ≡ xs
nil-right [] = refl
nil-right (x ∷ xs) = ap (λ ys. x ∷ ys) (nil-right xs)

epochs-push : (xs : List Spent) (x : Spent) → note_epochs (xs ++ x ∷ []) ≡ note_epochs xs ++ epochs_of x.body
epochs-push [] x = nil-right (epochs_of x.body)
epochs-push (y ∷ xs) x = ap (λ (zs : List ℕ). epochs_of y.body ++ zs) (epochs-push xs x) ∙ sym (append_assoc (epochs_of y.body) (note_epochs xs) (epochs_of x.body))

-- ---- what was spent is below what the store keeps

pub record Below (kept : Stored) (spent : List Spent) : Type 0 where
  pub once : IsOnce spent
  pub indexes_below : AllByRecursion (λ x. x < kept.next) (indexes spent)
  pub epochs_below : AllByRecursion (λ e. e ≤ kept.epoch) (note_epochs spent)

nothing-below : (kept : Stored) → Below kept []
nothing-below kept = record { once = record { indexes_rise = tt; epochs_rise = tt }; indexes_below = tt; epochs_below = tt }

epoch-stays : (kept : Stored) (body : Body) → MayFollow kept body → kept.epoch ≤ (stored_after kept body).epoch
epoch-stays kept (Certificate x) may = omega arith
epoch-stays kept (Note x) may = omega (arith, may)
epoch-stays kept (Accusation x) may = omega arith

below-later : (kept : Stored) (body : Body) (spent : List Spent) → MayFollow kept body → Below kept spent → Below (stored_after kept body) spent
below-later kept body spent may h =
    record {
      once = h.once;
      indexes_below = all-weaker (λ x. x < kept.next) (λ x. x < (stored_after kept body).next) (indexes spent) (λ x y. omega (arith, y, next-after kept body)) h.indexes_below;
      epochs_below = all-weaker (λ x. x ≤ kept.epoch) (λ x. x ≤ (stored_after kept body).epoch) (note_epochs spent) (λ x y. omega (arith, y, epoch-stays kept body may)) h.epochs_below;
    }

epochs-rise : (kept : Stored) (body : Body) (epochs : List ℕ) → MayFollow kept body → AllByRecursion (λ e. e ≤ kept.epoch) epochs → IsRising epochs → IsRising (epochs ++ epochs_of body)
epochs-rise kept (Certificate x) epochs may below rise = subst IsRising (sym (nil-right epochs)) rise
epochs-rise kept (Note x) epochs may below rise = rising-push epochs x.epoch (all-weaker (λ e. e ≤ kept.epoch) (λ e. e < x.epoch) epochs (λ e y. omega (arith, y, may)) below) rise
epochs-rise kept (Accusation x) epochs may below rise = subst IsRising (sym (nil-right epochs)) rise

epochs-within : (kept : Stored) (body : Body) (epochs : List ℕ) → MayFollow kept body → AllByRecursion (λ e. e ≤ kept.epoch) epochs → AllByRecursion (λ e. e ≤ (stored_after kept body).epoch) (epochs ++ epochs_of body)
epochs-within kept (Certificate x) epochs may below = subst (AllByRecursion (λ e. e ≤ kept.epoch)) (sym (nil-right epochs)) below
epochs-within kept (Note x) epochs may below = all-push (λ e. e ≤ x.epoch) epochs x.epoch (all-weaker (λ e. e ≤ kept.epoch) (λ e. e ≤ x.epoch) epochs (λ e y. omega (arith, y, may)) below) (omega arith)
epochs-within kept (Accusation x) epochs may below = subst (AllByRecursion (λ e. e ≤ kept.epoch)) (sym (nil-right epochs)) below

pub below-push : (kept : Stored) (body : Body) (spent : List Spent) → MayFollow kept body → Below kept spent → Below (stored_after kept body) (spent ++ record { index = kept.next; body = body } ∷ [])
below-push kept body spent may h =
    let x : Spent = record { index = kept.next; body = body } in
    record {
      once = record {
        indexes_rise = subst IsRising (sym (indexes-push spent x)) (rising-push (indexes spent) kept.next h.indexes_below h.once.indexes_rise);
        epochs_rise = subst IsRising (sym (epochs-push spent x)) (epochs-rise kept body (note_epochs spent) may h.epochs_below h.once.epochs_rise);
      };
      indexes_below = subst (AllByRecursion (λ z. z < (stored_after kept body).next)) (sym (indexes-push spent x))
          (all-push (λ z. z < (stored_after kept body).next) (indexes spent) kept.next
          (all-weaker (λ z. z < kept.next) (λ z. z < (stored_after kept body).next) (indexes spent) (λ z y. omega (arith, y, next-after kept body)) h.indexes_below) (omega (arith, next-after kept body)));
      epochs_below = subst (AllByRecursion (λ e. e ≤ (stored_after kept body).epoch)) (sym (epochs-push spent x)) (epochs-within kept body (note_epochs spent) may h.epochs_below);
    }

-- ---- signatures of one key

same-self : (m : ℕ) → eqb m m ≡ true
same-self m = eq-eqb m m refl

pub own-push : (m index : ℕ) (body : Body) (signed : List Signed) → filter_map (spent_if_by (Some m)) (signed ++ record { who = Some m; index = index; body = body } ∷ []) ≡ filter_map (spent_if_by (Some m)) signed ++ record { index = index; body = body } ∷ []
own-push m index body signed =
    filter_map-append (spent_if_by (Some m)) signed (record { who = Some m; index = index; body = body } ∷ [])
    ∙ ap (λ o. filter_map (spent_if_by (Some m)) signed ++ cons_option o []) (chosen (eqb m m) _ _ (same-self m))

foreign-one : (m : ℕ) (x : Signed) (k : ℕ) → x.who ≡ Some k → eqb k m ≡ false → spent_if_by (Some m) x ≡ None
foreign-one m x k is apart = other (same_owner x.who (Some m)) _ _ (ap (λ o. same_owner o (Some m)) is ∙ apart)

some-injective : {T : Type 0} (x y : T) → Some x ≡ Some y → x ≡ y
some-injective x y h = cc

signer-is : (k : ℕ) (what : whats.What) (x : Signed) → signed_if_spent k what ≡ Some x → x.who ≡ Some k
signer-is k (happened.Spent index body) x e = ap (λ (z : Signed). z.who) (sym (some-injective _ x e))
signer-is k _ x e = cc

skip-none : {X Y : Type 0} (f : X → Option Y) (o : Option X) (rest : List X) → ((x : X) → o ≡ Some x → f x ≡ None) → filter_map f (cons_option o rest) ≡ filter_map f rest
skip-none f None rest h = refl
skip-none f (Some x) rest h = ap (λ o. cons_option o (filter_map f rest)) (h x refl)

pub foreign-signed : (m k : ℕ) (events : List journal.Event) → eqb k m ≡ false → filter_map (spent_if_by (Some m)) (signed_in k events) ≡ []
foreign-signed m k [] apart = refl
foreign-signed m k (e ∷ events) apart =
    skip-none (spent_if_by (Some m)) (signed_if_spent k e.what) (signed_in k events) (λ x is. foreign-one m x k (signer-is k e.what x is) apart) ∙ foreign-signed m k events apart

pub foreign-call : (m k : ℕ) (signed : List Signed) (events : List journal.Event) → eqb k m ≡ false → filter_map (spent_if_by (Some m)) (signed ++ signed_in k events) ≡ filter_map (spent_if_by (Some m)) signed
foreign-call m k signed events apart =
    filter_map-append (spent_if_by (Some m)) signed (signed_in k events) ∙ ap (λ xs. filter_map (spent_if_by (Some m)) signed ++ xs) (foreign-signed m k events apart) ∙ nil-right _

certified-spent : (s : Setting) (m index : ℕ) (ms : List ℕ) → filter_map (spent_if_by (Some m)) (certified_from s index ms) ≡ []
certified-spent s m index [] = refl
certified-spent s m index (k ∷ ms) = certified-spent s m (index + 1) ms

pub authority-spent : (s : Setting) (m : ℕ) → filter_map (spent_if_by (Some m)) (by_authority s) ≡ []
unfolding by_authority
authority-spent s m = certified-spent s m 0 (members s)

-- ---- the first note of a life

abbrev takes_all : node.Setting → List Record → Call → Call
takes_all s records c = fold (λ c r. takes s r c) c records

nothing-takes_all : (s : node.Setting) (records : List Record) (c : Call) → SpendsNothing s c (takes_all s records c)
nothing-takes_all s [] c = nothing-same s c
nothing-takes_all s (r ∷ records) c = nothing-then s c (takes s r c) _ (nothing-takes s r c) (nothing-takes_all s records (takes s r c))

pub one-started : (s : node.Setting) (nonces : ℕ → ℕ) (records : List Record) (kept : Stored) → SpendsOne s (begun (blank s nonces kept)) (started s nonces records kept) (first_note s kept)
unfolding started
one-started s nonces records kept =
    one-behind s (begun (blank s nonces kept)) (opened s nonces records kept) _ (first_note s kept) (nothing-takes_all s records (begun (blank s nonces kept))) (one-signs s (first_note s kept) (opened s nonces records kept))

-- ---- a node's place in the world

-- What holds of a store's state and of what a key has spent, whatever is spent next, and where the store is ahead.
pub record Rises (P : Stored → List Spent → Type 0) : Type 0 where
  pub first : (kept : Stored) → P kept []
  pub push : (kept : Stored) (body : Body) (spent : List Spent) → MayFollow kept body → P kept spent → P (stored_after kept body) (spent ++ record { index = kept.next; body = body } ∷ [])
  pub later : (kept : Stored) (body : Body) (spent : List Spent) → MayFollow kept body → P kept spent → P (stored_after kept body) spent

below-rises : Rises Below
below-rises = record { first = nothing-below; push = below-push; later = below-later }

-- It holds of the store and of what was spent, and the store keeps what the running node does.
pub record Fine (P : Stored → List Spent → Type 0) (host : Host) (spent : List Spent) : Type 0 where
  pub holds : P host.disk.state spent
  pub runs : (life : Life) → host.current ≡ Some life → life.node.stored ≡ host.disk.state

none-some : {T : Type 0} {A : Type 0} (o : Option T) (x : T) → o ≡ None → o ≡ Some x → A
none-some o x e f = cc

-- What becomes of the node m where another place, or its own, is changed.
pub at-host : (m k : ℕ) (host : Host) (w : World) (Q : Host → Type 0) → (k ≡ m → Q host) → (eqb k m ≡ false → Q (w.hosts m)) → Q ((with_host k host w).hosts m)
at-host m k host w Q own apart =
    elim (cases_Bool (eqb m k)) [
      | inl same ↦ subst Q (sym (chosen (eqb m k) host (w.hosts m) same)) (own (sym (eqb-true m k same)))
      | inr differ ↦ subst Q (sym (other (eqb m k) host (w.hosts m) differ)) (apart (swapped m k differ))
    ]
  where
    clash : (b : Bool) → b ≡ true → b ≡ false → ⊥
    clash b e f = cc

    swapped : (a b : ℕ) → eqb a b ≡ false → eqb b a ≡ false
    swapped a b e = elim (cases_Bool (eqb b a)) [ inl same ↦ absurd (clash (eqb a b) (eq-eqb a b (sym (eqb-true b a same))) e) | inr differ ↦ differ ]

fine-at : (P : Stored → List Spent → Type 0) (m k : ℕ) (host : Host) (w : World) (spent : List Spent) → (k ≡ m → Fine P host spent) → (eqb k m ≡ false → Fine P (w.hosts m) spent) → Fine P ((with_host k host w).hosts m) spent
fine-at P m k host w spent own apart = at-host m k host w (λ x. Fine P x spent) own apart

abbrev pub Stands : (Stored → List Spent → Type 0) → ℕ → World → List NodeEvent → Type 0
Stands P m w told = Fine P (w.hosts m) (spent_of w (Some m))

own-kept : (P : Stored → List Spent → Type 0) (rises : Rises P) (m : ℕ) (signed : List Signed) → IsKept m (λ kept more. P kept (filter_map (spent_if_by (Some m)) (signed ++ more)))
own-kept P rises m signed =
    record {
      signs = λ kept more body may h.
          let x : Signed = record { who = Some m; index = kept.next; body = body } in
          subst (P (stored_after kept body)) (sym (ap (filter_map (spent_if_by (Some m))) (sym (append_assoc signed more (x ∷ []))) ∙ own-push m kept.next body (signed ++ more))) (rises.push kept body _ may h);
      leaves = λ kept more body may h. rises.later kept body _ may h;
    }

host-disk : (host : Host) (life : Life) (d : OnDisk) → (host_after host life d).disk ≡ d.disk
host-disk host life d = cond_both {A = Host} d.call.ended _ _ (λ x. x.disk ≡ d.disk) (λ over. refl) (λ going. refl)

host-current : (host : Host) (life : Life) (d : OnDisk) (other_life : Life) → (host_after host life d).current ≡ Some other_life → (d.call.ended ≡ false) × (life ≡ other_life)
host-current host life d other_life e =
    elim (cases_Bool d.call.ended) [
      | inl over ↦ none-some (host_after host life d).current other_life (ap (λ (x : Host). x.current) (chosen d.call.ended _ _ over)) e
      | inr going ↦ (going, some-injective life other_life (sym (ap (λ (x : Host). x.current) (other d.call.ended _ _ going)) ∙ e))
    ]

called-own : (P : Stored → List Spent → Type 0) (rises : Rises P) (s : Setting) (m : ℕ) (i : Input) (life : Life) (c : Execution) → (c.world.hosts m).current ≡ Some life → Stands P m c.world c.told
    → Fine P (host_after (c.world.hosts m) (with_input life i (called_on (setting_of s m) life.node i (c.world.hosts m).disk).call.node) (called_on (setting_of s m) life.node i (c.world.hosts m).disk))
    (filter_map (spent_if_by (Some m)) (c.world.signed ++ signed_in m (called_on (setting_of s m) life.node i (c.world.hosts m).disk).call.told))
called-own P rises s m i life c is h =
    let host : Host = c.world.hosts m in
    let d : OnDisk = called_on (setting_of s m) life.node i host.disk in
    let R : Stored → List Signed → Type 0 = λ kept more. P kept (filter_map (spent_if_by (Some m)) (c.world.signed ++ more)) in
    let first : R host.disk.state [] = subst (λ xs. P host.disk.state (filter_map (spent_if_by (Some m)) xs)) (sym (nil-right c.world.signed)) h.holds in
    let sound : Sound m R d = sound-called (setting_of s m) R life.node i host.disk (own-kept P rises m c.world.signed) (h.runs life is) first in
    let after : Life = with_input life i d.call.node in
    record {
      holds = subst (λ (x : Disk). R x.state (signed_in m d.call.told)) (sym (host-disk host after d)) sound.holds;
      runs = λ l e.
          let at = host-current host after d l e in
          ap (λ (x : Life). x.node.stored) (sym at.1) ∙ sound.same at.0 ∙ ap (λ (x : Disk). x.state) (sym (host-disk host after d));
    }

began-own : (P : Stored → List Spent → Type 0) (rises : Rises P) (s : Setting) (m : ℕ) (d : Disk) (c : Execution) → d.state ≡ (first_call s m (c.world.hosts m).disk.state).node.stored → Stands P m c.world c.told
    → Fine P (record { disk = d; past = (c.world.hosts m).past; current = Some (first_life (c.world.hosts m).disk.state (first_call s m (c.world.hosts m).disk.state)) })
    (filter_map (spent_if_by (Some m)) (c.world.signed ++ signed_in m (first_call s m (c.world.hosts m).disk.state).told))
began-own P rises s m d c same h =
    let kept : Stored = (c.world.hosts m).disk.state in
    let call : Call = first_call s m kept in
    let body : Body = first_note (setting_of s m) kept in
    let one = one-started (setting_of s m) (s.nonces m kept.next) (certificates s) kept in
    let x : Signed = record { who = Some m; index = kept.next; body = body } in
    let spent : filter_map (spent_if_by (Some m)) (c.world.signed ++ signed_in m call.told) ≡ spent_of c.world (Some m) ++ record { index = kept.next; body = body } ∷ [] =
    ap (λ xs. filter_map (spent_if_by (Some m)) (c.world.signed ++ xs)) one.signed ∙ own-push m kept.next body c.world.signed in
    record {
      holds = subst (λ k. P k (filter_map (spent_if_by (Some m)) (c.world.signed ++ signed_in m call.told))) (sym (same ∙ one.stored))
          (subst (P (stored_after kept body)) (sym spent) (rises.push kept body (spent_of c.world (Some m)) refl h.holds));
      runs = λ l e. ap (λ (z : Life). z.node.stored) (sym (some-injective _ l e)) ∙ sym same;
    }

tried-own : (P : Stored → List Spent → Type 0) (rises : Rises P) (s : Setting) (m : ℕ) (d : Disk) (w : World) (told : List NodeEvent) → (w.hosts m).current ≡ None → (d.state ≡ (w.hosts m).disk.state) ⊎ (d.state ≡ (first_call s m (w.hosts m).disk.state).node.stored) → Stands P m w told
    → Fine P (with_disk (w.hosts m) d) (spent_of w (Some m))
tried-own P rises s m d w told idle (inl same) h = record { holds = subst (λ k. P k (spent_of w (Some m))) (sym same) h.holds; runs = λ l e. none-some (w.hosts m).current l idle e }
tried-own P rises s m d w told idle (inr after) h =
    let kept : Stored = (w.hosts m).disk.state in
    let one = one-started (setting_of s m) (s.nonces m kept.next) (certificates s) kept in
    record {
      holds = subst (λ k. P k (spent_of w (Some m))) (sym (after ∙ one.stored)) (rises.later kept (first_note (setting_of s m) kept) (spent_of w (Some m)) refl h.holds);
      runs = λ l e. none-some (w.hosts m).current l idle e;
    }

disked-own : (P : Stored → List Spent → Type 0) (m : ℕ) (d : Disk) (w : World) (told : List NodeEvent) → d.state ≡ (w.hosts m).disk.state → Stands P m w told → Fine P (with_disk (w.hosts m) d) (spent_of w (Some m))
disked-own P m d w told same h = record { holds = subst (λ k. P k (spent_of w (Some m))) (sym same) h.holds; runs = λ l e. h.runs l e ∙ sym same }

ended-own : (P : Stored → List Spent → Type 0) (m : ℕ) (life : Life) (w : World) (told : List NodeEvent) → Stands P m w told → Fine P (life_over (w.hosts m) (Some life)) (spent_of w (Some m))
ended-own P m life w told h = record { holds = h.holds; runs = λ l e. none-some {T = Life} None l refl e }

liar-apart : (s : Setting) (m key : ℕ) → IsSetting s → is_node s m ≡ true → is_liar s key ≡ true → eqb key m ≡ false
liar-apart s m key fits is liar =
    elim (cases_Bool (eqb key m)) [
      | inl same ↦ absurd (clash (is_liar s m) (sym (ap (is_liar s) (eqb-true key m same)) ∙ liar) (fits.apart m is))
      | inr differ ↦ differ
    ]
  where
    clash : (b : Bool) → b ≡ true → b ≡ false → ⊥
    clash b e f = cc

pub stands-kept : (P : Stored → List Spent → Type 0) → Rises P → (s : Setting) (m : ℕ) → IsSetting s → is_node s m ≡ true → Keeps s (Stands P m)
stands-kept P rises s m fits is =
    record {
      called = λ k i life c running free h.
          let d : OnDisk = called_on (setting_of s k) life.node i (c.world.hosts k).disk in
          fine-at P m k _ c.world _
          (λ e. subst (λ (z : ℕ). Stands P z c.world c.told → Fine P (host_after (c.world.hosts k) (with_input life i d.call.node) d) (filter_map (spent_if_by (Some z)) (c.world.signed ++ signed_in k d.call.told))) e (called-own P rises s k i life c running) h)
          (λ apart. subst (Fine P (c.world.hosts m)) (sym (foreign-call m k c.world.signed d.call.told apart)) h);
      began = λ k d c it idle free same h.
          let call : Call = first_call s k (c.world.hosts k).disk.state in
          fine-at P m k _ c.world _
          (λ e. subst (λ (z : ℕ). Stands P z c.world c.told → Fine P (record { disk = d; past = (c.world.hosts k).past; current = Some (first_life (c.world.hosts k).disk.state call) }) (filter_map (spent_if_by (Some z)) (c.world.signed ++ signed_in k call.told))) e (began-own P rises s k d c same) h)
          (λ apart. subst (Fine P (c.world.hosts m)) (sym (foreign-call m k c.world.signed call.told apart)) h);
      tried = λ k d w told idle free left h.
          fine-at P m k _ w _ (λ e. subst (λ (z : ℕ). Stands P z w told → Fine P (with_disk (w.hosts k) d) (spent_of w (Some z))) e (tried-own P rises s k d w told idle left) h) (λ apart. h);
      disked = λ k d w told same h.
          fine-at P m k _ w _ (λ e. subst (λ (z : ℕ). Stands P z w told → Fine P (with_disk (w.hosts k) d) (spent_of w (Some z))) e (disked-own P k d w told same) h) (λ apart. h);
      ended = λ k life w told running h.
          fine-at P m k _ w _ (λ e. subst (λ (z : ℕ). Stands P z w told → Fine P (life_over (w.hosts k) (Some life)) (spent_of w (Some z))) e (ended-own P k life w told) h) (λ apart. h);
      got = λ k moment number w told h. h;
      flowed = λ number w told h. h;
      lied = λ key body name w told liar h.
          subst (Fine P (w.hosts m)) (sym (filter_map-append (spent_if_by (Some m)) w.signed _
          ∙ ap (λ o. spent_of w (Some m) ++ cons_option o []) (other (eqb key m) _ _ (liar-apart s m key fits is liar)) ∙ nil-right (spent_of w (Some m)))) h;
    }

pub stands-first : (P : Stored → List Spent → Type 0) → Rises P → (s : Setting) (m : ℕ) → Stands P m (begun_world s) []
unfolding begun_world
stands-first P rises s m =
    record {
      holds = subst (P _) (sym (authority-spent s m)) (rises.first _);
      runs = λ l e. none-some {T = Life} None l refl e;
    }

pub nodes-once : NodesSpendOnce
nodes-once s w told m fits reached is =
    (keeps-reached s (Stands Below m) (stands-kept Below below-rises s m fits is) (stands-first Below below-rises s m) w told reached).holds.once
