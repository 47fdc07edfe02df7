-- Each step of a world keeps what holds of it.
use Rattle.std.proofs.Common.{◌≡◌, ◌⊎◌, ℕ, ◌≤◌, Bool, true, false, eqb, List, [], ◌∷◌, ◌++◌, length, Option, Some, None, inl, inr, refl, ap, sym, ◌∙◌, subst}
use Rattle.std.specs.Prelude.{fold, option_to_list}
use Rattle.std.specs.List.{slice_get}
use Rattle.std.proofs.lemmas.Bool.{cases_Bool, cond_both, eq-eqb, false≢true}
use Rattle.ff_ids.specs.declared.AccBody.{AccBody}
use Rattle.ff_ids.specs.Steps.{Event, Accuses}
use Rattle.life_laws.proofs.Lists.{In, In-append_left, In-append_right, In-append_cases, In-from_map, Contains-from_In}
use Rattle.records.specs.declared.Body.{Body}
use Rattle.records.specs.declared.Body.TheVariants.{Certificate, Note, Accusation}
use Rattle.epoch_store.specs.declared.Stored.{Stored}
use Rattle.journal.specs.declared.event.Event as journal
use Rattle.journal.specs.declared.event.What as whats
use Rattle.journal.specs.declared.event.What.TheVariants as happened
use Rattle.node_rules.specs.Nodes as node
use Rattle.node_rules.specs.Calls.{Call}
use Rattle.node_rules.specs.Starting.{first_note}
use Rattle.node_rules.specs.Lives.{Input, Delivers, Ticks, Leaves, KeepsOwnNote, TellsItsLife, call_of}
use Rattle.node_rules.specs.Accusing.{AccusesTheSilent}
use Rattle.node_rules.proofs.Accusations.{In-from_filter_map}
use Rattle.rebuttal.proofs.Masks.{all_rings-good}
use Rattle.node_rules.proofs.OwnNote.{own-started}
use Rattle.node_rules.proofs.Ticks.{only-silent}
use Rattle.world_rules.specs.Settings.{Setting, Signed, is_node, is_liar, certificate, by_authority, certificates, setting_of}
use Rattle.world_rules.specs.Disks.{Disk}
use Rattle.world_rules.specs.Calls.{OnDisk, called_on}
use Rattle.world_rules.specs.Worlds.{Life, Host, World, begun_world, lives_of, next_of_liar, with_host}
use Rattle.world_rules.specs.Steps.{Execution, NodeEvent, comes, first_call, first_life, life_over, lies, numbered_from, signed_if_spent, signed_in, host_after, told_in, with_disk, with_input}
use Rattle.node_rules.proofs.Called.{ComesSoFar}
use Rattle.world_rules.specs.Laws.{IsSetting, Reached}
use Rattle.world_rules.proofs.OnDisks.{chosen, other}
use Rattle.world_rules.proofs.SoFar.{so_far}
use Rattle.world_rules.proofs.LineSteps.{IsFree, HasIndexLeft, Keeps, begins_life, keeps-reached}
use Rattle.world_rules.proofs.Once.{Stands, at-host, one-started, stands-kept, stands-first}
use Rattle.world_rules.proofs.Telling.{call-on-tells}
use Rattle.world_laws.specs.Signing.{KeepsRoster, SignsAtTick, TellsSpent, node_after}
use Rattle.world_laws.proofs.Rosters.{kit-all, kit-own, roster-started}
use Rattle.world_laws.proofs.Signed.{authority-of, spent-in}
use Rattle.world_laws.proofs.Rightly.{IsNoteWithin}
use Rattle.world_laws.proofs.InCalls.{ComesSigned, GoesOn, InCall, InLife, IsRight, called-goes_on, started-in_call}
use Rattle.world_laws.proofs.InWorlds.{Fits, Holds, IsThere, NotesWithin, SignedBy, comes-behind, comes-more, fits-more, lives_at, nil-right, notes-rise, right-more, signed-later, step, there-itself}
use Rattle.world_laws.proofs.Stopped.{within-whole}
use Rattle.world_laws.proofs.CameIn.{Came, came-called}

some-is : {X : Type 0} (x y : X) → Some x ≡ Some y → x ≡ y
some-is x y e = cc

none-some : {X A : Type 0} (o : Option X) (x : X) → o ≡ None → o ≡ Some x → A
none-some o x e f = cc

clash : {A : Type 0} (b : Bool) → b ≡ true → b ≡ false → A
clash b e f = absurd (false≢true (sym f ∙ e))

-- ---- nothing is signed or reported

quietly : (s : Setting) (w v : World) (told : List NodeEvent) → v.signed ≡ w.signed → ((m : ℕ) → is_node s m ≡ true → Stands NotesWithin m v told) → ((m : ℕ) → Fits s w.signed m (v.hosts m))
    → ((m : ℕ) (life : Life) → In (lives_of w m) life → IsThere (v.hosts m) life) → Holds s w told → Holds s v told
quietly s w v told same notes hosts grows h =
    record {
      only = λ x i who. h.only x (subst (λ xs. In xs x) same i) who;
      notes = notes;
      hosts = λ m. subst (λ xs. Fits s xs m (v.hosts m)) (sym same) (hosts m);
      right = λ t i. subst (λ xs. IsRight s xs t.event.what) (sym same) (h.right t i);
      accusations = λ m index a is i. signed-later s m index a (w.hosts m) (v.hosts m) (grows m) (h.accusations m index a is (subst (λ xs. In xs (record { who = Some m; index = index; body = Accusation a })) same i));
    }

-- The node's place in the world is another, and the others are as they were.
pub placed : (s : Setting) (m : ℕ) (host : Host) (w : World) (signed : List Signed) → Fits s signed m host → ((k : ℕ) → Fits s signed k (w.hosts k)) → (k : ℕ) → Fits s signed k ((with_host m host w).hosts k)
placed s m host w signed here others k = at-host k m host w (Fits s signed k) (λ e. subst (λ z. Fits s signed z host) e here) (λ apart. others k)

there : (m : ℕ) (host : Host) (w : World) → ((life : Life) → In (lives_at (w.hosts m)) life → IsThere host life) → (k : ℕ) (life : Life) → In (lives_of w k) life → IsThere ((with_host m host w).hosts k) life
there m host w here k life i =
    at-host k m host w (λ x. IsThere x life) (λ e. here life (subst (λ z. In (lives_at (w.hosts z)) life) (sym e) i)) (λ apart. there-itself (w.hosts k) life i)

-- ---- another disk

disk-fits : (s : Setting) (signed : List Signed) (m : ℕ) (host : Host) (d : Disk) → Fits s signed m host → Fits s signed m (with_disk host d)
disk-fits s signed m host d h = record { is = h.is; after = h.after; own = h.own; rosters = h.rosters; lived = h.lived }

on-disk : (s : Setting) (m : ℕ) (d : Disk) (w : World) (told : List NodeEvent) → ((k : ℕ) → is_node s k ≡ true → Stands NotesWithin k (with_host m (with_disk (w.hosts m) d) w) told) → Holds s w told → Holds s (with_host m (with_disk (w.hosts m) d) w) told
on-disk s m d w told notes h =
    quietly s w (with_host m (with_disk (w.hosts m) d) w) told refl notes
    (placed s m (with_disk (w.hosts m) d) w w.signed (disk-fits s w.signed m (w.hosts m) d (h.hosts m)) h.hosts)
    (there m (with_disk (w.hosts m) d) w (λ life i. there-itself (with_disk (w.hosts m) d) life i)) h

-- ---- a life ends

pub current-in : (host : Host) (life : Life) → host.current ≡ Some life → In (lives_at host) life
current-in host life running = In-append_right host.past (option_to_list host.current) life (subst (λ o. In (option_to_list o) life) (sym running) (inl refl))

pub lives-running : (host : Host) (life : Life) → host.current ≡ Some life → lives_at host ≡ host.past ++ life ∷ []
lives-running host life running = ap (λ o. host.past ++ option_to_list o) running

pub lives-idle : (host : Host) → host.current ≡ None → lives_at host ≡ host.past
lives-idle host idle = ap (λ o. host.past ++ option_to_list o) idle ∙ nil-right host.past

pub lives-over : (host : Host) (life : Life) → host.current ≡ Some life → lives_at (life_over host (Some life)) ≡ lives_at host
lives-over host life running = nil-right (host.past ++ life ∷ []) ∙ sym (lives-running host life running)

over-fits : (s : Setting) (signed : List Signed) (m : ℕ) (host : Host) (life : Life) → host.current ≡ Some life → Fits s signed m host → Fits s signed m (life_over host (Some life))
over-fits s signed m host life running h =
    let same = lives-over host life running in
    record {
      is = λ l none. none-some {X = Life} None l refl none;
      after = λ l none. none-some {X = Life} None l refl none;
      own = λ l none. none-some {X = Life} None l refl none;
      rosters = λ l i. h.rosters l (subst (λ xs. In xs l) same i);
      lived = λ l i e j. h.lived l (subst (λ xs. In xs l) same i) e j;
    }

over : (s : Setting) (m : ℕ) (life : Life) (w : World) (told : List NodeEvent) → (w.hosts m).current ≡ Some life → ((k : ℕ) → is_node s k ≡ true → Stands NotesWithin k (with_host m (life_over (w.hosts m) (Some life)) w) told) → Holds s w told
    → Holds s (with_host m (life_over (w.hosts m) (Some life)) w) told
over s m life w told running notes h =
    let host : Host = life_over (w.hosts m) (Some life) in
    quietly s w (with_host m host w) told refl notes (placed s m host w w.signed (over-fits s w.signed m (w.hosts m) life running (h.hosts m)) h.hosts)
    (there m host w (λ l i. there-itself host l (subst (λ xs. In xs l) (sym (lives-over (w.hosts m) life running)) i))) h

-- ---- what is reported and signed in a call

numbered-right : (s : Setting) (signed : List Signed) (before : ℕ) (what : whats.What) → IsRight s signed what → IsRight s signed (numbered_from before what)
numbered-right s signed before (happened.Sent number to bytes) h = record { fresh = refl; accepts = tt }
numbered-right s signed before _ h = h

pub told-right : (s : Setting) (signed more : List Signed) (m before : ℕ) (events : List journal.Event) → ((e : journal.Event) → In events e → IsRight s signed e.what) → (t : NodeEvent) → In (told_in m before events) t → IsRight s (signed ++ more) t.event.what
told-right s signed more m before events right t i =
    let x = In-from_map (λ (e : journal.Event). let made : NodeEvent = record { who = m; event = record e { what = numbered_from before e.what } } in made) events t i in
    subst (λ (y : NodeEvent). IsRight s (signed ++ more) y.event.what) x.1.1 (numbered-right s (signed ++ more) before x.0.what (right-more s signed more x.0.what (right x.0 x.1.0)))

-- What is signed in a call is reported in it.
pub record ToldAs (m : ℕ) (events : List journal.Event) (x : Signed) : Type 0 where
  pub who : x.who ≡ Some m
  pub moment : ℕ
  pub among : In events (record { moment = moment; what = happened.Spent x.index x.body })

told-spent : (m : ℕ) (what : whats.What) (moment : ℕ) (events : List journal.Event) (x : Signed) → In events (record { moment = moment; what = what }) → signed_if_spent m what ≡ Some x → ToldAs m events x
told-spent m (happened.Spent index body) moment events x i e =
    let is = some-is _ _ e in
    subst (ToldAs m events) is (record { who = refl; moment = moment; among = i })
told-spent m _ moment events x i e = cc

pub told-as : (m : ℕ) (events : List journal.Event) (x : Signed) → In (signed_in m events) x → ToldAs m events x
told-as m events x i =
    let e = In-from_filter_map (λ (e : journal.Event). signed_if_spent m e.what) events x i in
    told-spent m e.0.what e.0.moment events x e.1.0 e.1.1

some-number : (k m : ℕ) → Some k ≡ Some m → m ≡ k
some-number k m e = cc

not-nobody : (m : ℕ) (events : List journal.Event) (x : Signed) → In (signed_in m events) x → x.who ≡ None → ⊥
not-nobody m events x i none = none-some x.who m none (told-as m events x i).who

-- ---- a running node is called

pub in-life : (s : Setting) (w : World) (told : List NodeEvent) (m : ℕ) (life : Life) → (w.hosts m).current ≡ Some life → Holds s w told → InLife s w m life.node
in-life s w told m life running h =
    let fits = h.hosts m in
    let i : In (lives_at (w.hosts m)) life = current-in (w.hosts m) life running in
    let notes = h.notes m (fits.is life running) in
    record {
      roster = fits.rosters life i;
      own = fits.own life running;
      within = λ index note j. subst (λ k. IsNoteWithin k note) (sym (notes.runs life running)) (notes.holds index note (spent-in w (Some m) index (Note note) (eq-eqb m m refl) j));
      lived = fits.lived life i;
    }

after-past : (host : Host) (life : Life) (d : OnDisk) (x : Life) → In host.past x → In (lives_at (host_after host life d)) x
after-past host life d x i =
    cond_both {A = Host} d.call.ended _ _ (λ st. In (lives_at st) x) (λ over. In-append_left (host.past ++ life ∷ []) [] x (In-append_left host.past (life ∷ []) x i)) (λ going. In-append_left host.past (life ∷ []) x i)

after-itself : (host : Host) (life : Life) (d : OnDisk) → In (lives_at (host_after host life d)) life
after-itself host life d =
    let here : In (host.past ++ life ∷ []) life = In-append_right host.past (life ∷ []) life (inl refl) in
    cond_both {A = Host} d.call.ended _ _ (λ st. In (lives_at st) life) (λ over. In-append_left (host.past ++ life ∷ []) [] life here) (λ going. here)

pub in-last : (past : List Life) (life x : Life) → In (past ++ life ∷ []) x → In past x ⊎ (life ≡ x)
in-last past life x i = elim (In-append_cases past (life ∷ []) x i) [ inl old ↦ inl old | inr (inl is) ↦ inr is | inr (inr none) ↦ absurd none ]

pub after-lives : (host : Host) (life : Life) (d : OnDisk) (x : Life) → In (lives_at (host_after host life d)) x → In host.past x ⊎ (life ≡ x)
after-lives host life d x =
    cond_both {A = Host} d.call.ended _ _ (λ st. In (lives_at st) x → In host.past x ⊎ (life ≡ x))
    (λ over i. in-last host.past life x (subst (λ xs. In xs x) (nil-right (host.past ++ life ∷ [])) i))
    (λ going i. in-last host.past life x i)

pub after-current : (host : Host) (life : Life) (d : OnDisk) (x : Life) → (host_after host life d).current ≡ Some x → (d.call.ended ≡ false) × (life ≡ x)
after-current host life d x e =
    elim (cases_Bool d.call.ended) [
      | inl over ↦ none-some (host_after host life d).current x (ap (λ (st : Host). st.current) (chosen d.call.ended _ _ over)) e
      | inr going ↦ (going, some-is life x (sym (ap (λ (st : Host). st.current) (other d.call.ended _ _ going)) ∙ e))
    ]

fold-push : {X Y : Type 0} (f : X → Y → X) (x : X) (ys : List Y) (y : Y) → fold f x (ys ++ y ∷ []) ≡ f (fold f x ys) y
fold-push f x [] y = refl
fold-push f x (z ∷ ys) y = fold-push f (f x z) ys y

whole-node : (s : node.Setting) (n : node.Node) (i : Input) (c : Call) → ComesSoFar s n i c → c.ended ≡ false → c.node ≡ (call_of s n i).node
whole-node s n (Delivers bytes) c (inl whole) going = ap (λ (x : Call). x.node) whole.is
whole-node s n (Delivers bytes) c (inr cut) going = clash c.ended cut.over going
whole-node s n Ticks c (inl whole) going = ap (λ (x : Call). x.node) whole.is
whole-node s n Ticks c (inr cut) going = clash c.ended cut.over going
whole-node s n Leaves c (inl whole) going = ap (λ (x : Call). x.node) whole.is
whole-node s n Leaves c (inr cut) going = clash c.ended cut.over going

-- What the node has come to behind one more call that the disk didn't stop.
node-more : (s : Setting) (m : ℕ) (life : Life) (i : Input) (c : Call) → life.node ≡ node_after s m life.found life.inputs → ComesSoFar (setting_of s m) life.node i c → c.ended ≡ false → c.node ≡ node_after s m life.found (life.inputs ++ i ∷ [])
node-more s m life i c after so going =
    let own : node.Setting = setting_of s m in
    whole-node own life.node i c so going ∙ ap (λ n. (call_of own n i).node) after
    ∙ sym (fold-push (λ n x. (call_of own n x).node) _ life.inputs i)

called-fits : (s : Setting) (signed : List Signed) (m : ℕ) (life : Life) (i : Input) (host : Host) (w : World) (d : OnDisk) → d ≡ called_on (setting_of s m) life.node i host.disk → w.signed ≡ signed → host.current ≡ Some life → Fits s signed m host → GoesOn s w m d.call
    → Fits s (signed ++ signed_in m d.call.told) m (host_after host (with_input life i d.call.node) d)
called-fits s signed m life i host w d made at running h g =
    let own : node.Setting = setting_of s m in
    let after : Life = with_input life i d.call.node in
    let so : ComesSoFar own life.node i d.call = subst (λ (x : OnDisk). ComesSoFar own life.node i x.call) (sym made) (so_far own life.node i host.disk) in
    record {
      is = λ l e. h.is life running;
      after = λ l e.
          let here = after-current host after d l e in
          subst (λ (x : Life). x.node ≡ node_after s m x.found x.inputs) here.1 (node-more s m life i d.call (h.after life running) so here.0);
      own = λ l e. subst (λ (x : Life). KeepsOwnNote own x.node) (after-current host after d l e).1 g.own;
      rosters = λ l j. elim (after-lives host after d l j) [
        | inl old ↦ h.rosters l (In-append_left host.past (option_to_list host.current) l old)
        | inr is ↦ subst (λ (x : Life). KeepsRoster s x.node) is g.roster
      ];
      lived = λ l j e k. elim (after-lives host after d l j) [
        | inl old ↦ comes-more s m signed (signed_in m d.call.told) e (h.lived l (In-append_left host.past (option_to_list host.current) l old) e k)
        | inr is ↦
            comes-behind s m signed d.call.told e (subst (λ xs. ComesSigned s m xs d.call.told e) at (g.so_far.lived e (subst (λ (x : Life). In x.node.lived e) (sym is) k)))
      ];
    }

called-there : (host : Host) (life : Life) (i : Input) (n : node.Node) (events : List Event) (d : OnDisk) → n.lived ≡ life.node.lived ++ events → host.current ≡ Some life → (x : Life) → In (lives_at host) x → IsThere (host_after host (with_input life i n) d) x
called-there host life i n events d grew running x j =
    let after : Life = with_input life i n in
    elim (in-last host.past life x (subst (λ xs. In xs x) (lives-running host life running) j)) [
      | inl old ↦ there-itself (host_after host after d) x (after-past host after d x old)
      | inr is ↦ subst (IsThere (host_after host after d)) is (record { later = after; among = after-itself host after d; found = refl; more = i ∷ []; inputs = refl; events = events; grew = grew })
    ]

-- At the tick that spends the index on it the accused was silent, and the accusation came in at this place.
pub signs-here : (s : Setting) (m place index : ℕ) (a : AccBody) (life : Life) (i : Input) (d : Disk) (moment : ℕ) (next : node.Node) → life.node ≡ node_after s m life.found life.inputs → life.node.stored ≡ d.state
    → In (called_on (setting_of s m) life.node i d).call.told (record { moment = moment; what = happened.Spent index (Accusation a) })
    → length life.node.lived ≤ place → slice_get (called_on (setting_of s m) life.node i d).call.node.lived place ≡ Some (Accuses a) → (a.accuser ≡ m) × SignsAtTick s m (with_input life i next) place index a
signs-here s m place index a life i d moment next after kept told since there =
    let own : node.Setting = setting_of s m in
    let whole = (within-whole own life.node i (called_on own life.node i d).call (so_far own life.node i d)).spent moment index (Accusation a) told in
    let silent = only-silent own life.node i a (moment, index, Contains-from_In _ _ whole) in (
      silent.1.by_the_node,
      record {
        before = life.inputs;
        behind = [];
        at_tick = ap (λ x. life.inputs ++ x ∷ []) silent.0;
        disk = d;
        kept = sym kept ∙ ap (λ (n : node.Node). n.stored) after;
        signed = subst (λ n. TellsSpent (called_on own n Ticks d).call index (Accusation a)) after
            (subst (λ x. TellsSpent (called_on own life.node x d).call index (Accusation a)) silent.0 (moment, Contains-from_In _ _ told));
        silent = subst (λ n. AccusesTheSilent own n a) after silent.1;
        since = subst (λ (n : node.Node). length n.lived ≤ place) after since;
        came_in = subst (λ (n : node.Node). slice_get (called_on own n Ticks d).call.node.lived place ≡ Some (Accuses a)) after
            (subst (λ x. slice_get (called_on own life.node x d).call.node.lived place ≡ Some (Accuses a)) silent.0 there);
      },
    )

called-signed : (s : Setting) (m index : ℕ) (a : AccBody) (life : Life) (i : Input) (host : Host) (moment : ℕ) → life.node ≡ node_after s m life.found life.inputs → life.node.stored ≡ host.disk.state
    → In (called_on (setting_of s m) life.node i host.disk).call.told (record { moment = moment; what = happened.Spent index (Accusation a) })
    → let d = called_on (setting_of s m) life.node i host.disk in SignedBy s (lives_at (host_after host (with_input life i d.call.node) d)) m index a
called-signed s m index a life i host moment after kept told =
    let own : node.Setting = setting_of s m in
    let d : OnDisk = called_on own life.node i host.disk in
    let came : Came (length life.node.lived) d.call a = came-called own life.node i host.disk moment index a told in
    let signs = signs-here s m came.place index a life i host.disk moment d.call.node after kept told came.since came.there in
    record {
      own = signs.0;
      life = with_input life i d.call.node;
      lived = after-itself host (with_input life i d.call.node) d;
      place = came.place;
      signs = signs.1;
      stays = came.there;
    }

-- Of the member whose place it is.
at-place : (m : ℕ) (host : Host) (w : World) (Q : Host → Type 0) → Q host → Q ((with_host m host w).hosts m)
at-place m host w Q h = at-host m m host w Q (λ e. h) (λ apart. clash (eqb m m) (eq-eqb m m refl) apart)

holds-called : (s : Setting) → IsSetting s → (m : ℕ) (i : Input) (life : Life) (c : Execution) → (c.world.hosts m).current ≡ Some life → IsFree s c.world i → Holds s c.world c.told
    → let d = comes m (c.world.hosts m) life i (called_on (setting_of s m) life.node i (c.world.hosts m).disk) c in Holds s d.world d.told
holds-called s fits m i life c running free h =
    let w : World = c.world in
    let host : Host = w.hosts m in
    let d : OnDisk = called_on (setting_of s m) life.node i host.disk in
    let after : Host = host_after host (with_input life i d.call.node) d in
    let v : World = (comes m host life i d c).world in
    let made : List Signed = signed_in m d.call.told in
    let tells : TellsItsLife (setting_of s m) life.node d.call = call-on-tells (setting_of s m) life.node i host.disk in
    let g : GoesOn s w m d.call = called-goes_on s w m life.node i host.disk (record { fits = fits; is = (h.hosts m).is life running; only = h.only }) free (in-life s w c.told m life running h) in
    step s w v c.told (told_in m (length w.sent) d.call.told) made refl (not-nobody m d.call.told)
    (λ k is. (stands-kept NotesWithin notes-rise s k fits is).called m i life c running free (h.notes k is))
    (placed s m after w (w.signed ++ made) (called-fits s w.signed m life i host w d refl refl running (h.hosts m) g) (λ k. fits-more s w.signed made k (w.hosts k) (h.hosts k)))
    (told-right s w.signed made m (length w.sent) d.call.told g.so_far.told)
    (there m after w (called-there host life i d.call.node tells.more d tells.grew running))
    (λ k index a is j.
    let t = told-as m d.call.told _ j in
    subst (λ z. SignedBy s (lives_of v z) z index a) (some-number k m t.who)
    (at-place m after w (λ x. SignedBy s (lives_at x) m index a) (called-signed s m index a life i host t.moment ((h.hosts m).after life running) ((h.notes m ((h.hosts m).is life running)).runs life running) t.among)))
    h

-- ---- a life begins

began-fits : (s : Setting) (signed : List Signed) (m : ℕ) (d : Disk) (host : Host) (w : World) → IsSetting s → is_node s m ≡ true → w.signed ≡ signed → host.current ≡ None → Fits s signed m host → InCall s w m (first_call s m host.disk.state)
    → Fits s (signed ++ signed_in m (first_call s m host.disk.state).told) m (record { disk = d; past = host.past; current = Some (first_life host.disk.state (first_call s m host.disk.state)) })
began-fits s signed m d host w fits is at idle h g =
    let own : node.Setting = setting_of s m in
    let kept : Stored = host.disk.state in
    let call : Call = first_call s m kept in
    record {
      is = λ l e. is;
      after = λ l e. subst (λ (x : Life). x.node ≡ node_after s m x.found x.inputs) (some-is _ l e) refl;
      own = λ l e. subst (λ (x : Life). KeepsOwnNote own x.node) (some-is _ l e) (own-started own (s.nonces m kept.next) (certificates s) kept (all_rings-good s.group.t) (kit-all s) (kit-own s m fits is));
      rosters = λ l j. elim (in-last host.past (first_life kept call) l j) [
        | inl old ↦ h.rosters l (In-append_left host.past (option_to_list host.current) l old)
        | inr same ↦ subst (λ (x : Life). KeepsRoster s x.node) same (roster-started s own (s.nonces m kept.next) kept)
      ];
      lived = λ l j e k. elim (in-last host.past (first_life kept call) l j) [
        | inl old ↦ comes-more s m signed (signed_in m call.told) e (h.lived l (In-append_left host.past (option_to_list host.current) l old) e k)
        | inr same ↦ comes-behind s m signed call.told e (subst (λ xs. ComesSigned s m xs call.told e) at (g.lived e (subst (λ (x : Life). In x.node.lived e) (sym same) k)))
      ];
    }

began-there : (host : Host) (life : Life) (d : Disk) → host.current ≡ None → (x : Life) → In (lives_at host) x → IsThere (record { disk = d; past = host.past; current = Some life }) x
began-there host life d idle x i =
    let after : Host = record { disk = d; past = host.past; current = Some life } in
    there-itself after x (In-append_left host.past (life ∷ []) x (subst (λ xs. In xs x) (lives-idle host idle) i))

pub first-accuses : (s : Setting) (m k index : ℕ) (kept : Stored) (a : AccBody) → In (signed_in m (first_call s m kept).told) (record { who = Some k; index = index; body = Accusation a }) → ⊥
first-accuses s m k index kept a i =
    let one = one-started (setting_of s m) (s.nonces m kept.next) (certificates s) kept in
    never (subst (λ xs. In xs (record { who = Some k; index = index; body = Accusation a })) one.signed i)
  where
    no-note : first_note (setting_of s m) kept ≡ Accusation a → ⊥
    no-note e = cc

    never : In ((let x : Signed = record { who = Some m; index = kept.next; body = first_note (setting_of s m) kept } in x) ∷ []) (record { who = Some k; index = index; body = Accusation a }) → ⊥
    never (inl e) = no-note (ap (λ (x : Signed). x.body) e)
    never (inr none) = absurd none

holds-began : (s : Setting) → IsSetting s → (m : ℕ) (d : Disk) (c : Execution) → is_node s m ≡ true → (c.world.hosts m).current ≡ None → HasIndexLeft s (c.world.hosts m) → d.state ≡ (first_call s m (c.world.hosts m).disk.state).node.stored → Holds s c.world c.told
    → Holds s (begins_life s m d c).world (begins_life s m d c).told
holds-began s fits m d c is idle left same h =
    let w : World = c.world in
    let host : Host = w.hosts m in
    let kept : Stored = host.disk.state in
    let call : Call = first_call s m kept in
    let life : Life = first_life kept call in
    let after : Host = record { disk = d; past = host.past; current = Some life } in
    let made : List Signed = signed_in m call.told in
    let g : InCall s w m call = started-in_call s w m kept (λ index note j. (h.notes m is).holds index note (spent-in w (Some m) index (Note note) (eq-eqb m m refl) j)) in
    step s w (begins_life s m d c).world c.told (told_in m (length w.sent) call.told) made refl (not-nobody m call.told)
    (λ k it. (stands-kept NotesWithin notes-rise s k fits it).began m d c is idle left same (h.notes k it))
    (placed s m after w (w.signed ++ made) (began-fits s w.signed m d host w fits is refl idle (h.hosts m) g) (λ k. fits-more s w.signed made k (w.hosts k) (h.hosts k)))
    (told-right s w.signed made m (length w.sent) call.told g.told)
    (there m after w (began-there host life d idle))
    (λ k index a it j. absurd (first-accuses s m k index kept a j))
    h

-- ---- a liar signs

liar-apart : (s : Setting) (m key : ℕ) → IsSetting s → is_node s m ≡ true → is_liar s key ≡ true → key ≡ m → ⊥
liar-apart s m key fits is liar same = clash (is_liar s m) (sym (ap (is_liar s) same) ∙ liar) (fits.apart m is)

holds-lied : (s : Setting) → IsSetting s → (key : ℕ) (body : Body) (name : List ℕ) (w : World) (told : List NodeEvent) → is_liar s key ≡ true → Holds s w told → Holds s (lies s key body name w).world told
holds-lied s fits key body name w told liar h =
    let x : Signed = record { who = Some key; index = next_of_liar w key; body = body } in
    let v : World = (lies s key body name w).world in
    subst (Holds s v) (nil-right told)
    (step s w v told [] (x ∷ []) refl
    (λ y i who. elim i [ inl is ↦ none-some y.who key who (sym (ap (λ (z : Signed). z.who) is)) | inr none ↦ absurd none ])
    (λ k it. (stands-kept NotesWithin notes-rise s k fits it).lied key body name w told liar (h.notes k it))
    (λ k. fits-more s w.signed (x ∷ []) k (w.hosts k) (h.hosts k))
    (λ t none. absurd none)
    (λ k life i. there-itself (w.hosts k) life i)
    (λ k index a it i. elim i [ inl is ↦ absurd (liar-apart s k key fits it liar (number _ _ (ap (λ (z : Signed). z.who) is))) | inr none ↦ absurd none ])
    h)
  where
    number : (a b : ℕ) → Some a ≡ Some b → a ≡ b
    number a b e = cc

-- ---- the other steps

got-right : (s : Setting) (signed : List Signed) (m moment number : ℕ) (t : NodeEvent) → In (record { who = m; event = record { moment = moment; what = happened.Got number } } ∷ []) t → IsRight s signed t.event.what
got-right s signed m moment number t (inl is) = subst (λ (x : NodeEvent). IsRight s signed x.event.what) is (record { fresh = refl; accepts = tt })
got-right s signed m moment number t (inr none) = absurd none

holds-got : (s : Setting) → IsSetting s → (m moment number : ℕ) (w : World) (told : List NodeEvent) → Holds s w told → Holds s w (told ++ record { who = m; event = record { moment = moment; what = happened.Got number } } ∷ [])
holds-got s fits m moment number w told h =
    step s w w told (record { who = m; event = record { moment = moment; what = happened.Got number } } ∷ []) [] (sym (nil-right w.signed)) (λ x none. absurd none) (λ k it. h.notes k it)
    (λ k. fits-more s w.signed [] k (w.hosts k) (h.hosts k)) (got-right s (w.signed ++ []) m moment number) (λ k life i. there-itself (w.hosts k) life i) (λ k index a it none. absurd none) h

holds-flowed : (s : Setting) (number : ℕ) (w : World) (told : List NodeEvent) → Holds s w told → Holds s (record w { flowed = number }) told
holds-flowed s number w told h = quietly s w (record w { flowed = number }) told refl (λ k it. h.notes k it) h.hosts (λ k life i. there-itself (w.hosts k) life i) h

pub holds-kept : (s : Setting) → IsSetting s → Keeps s (Holds s)
holds-kept s fits =
    record {
      called = λ m i life c running free h. holds-called s fits m i life c running free h;
      began = λ m d c is idle left same h. holds-began s fits m d c is idle left same h;
      tried = λ m d w told idle free left h. on-disk s m d w told (λ k it. (stands-kept NotesWithin notes-rise s k fits it).tried m d w told idle free left (h.notes k it)) h;
      disked = λ m d w told same h. on-disk s m d w told (λ k it. (stands-kept NotesWithin notes-rise s k fits it).disked m d w told same (h.notes k it)) h;
      ended = λ m life w told running h. over s m life w told running (λ k it. (stands-kept NotesWithin notes-rise s k fits it).ended m life w told running (h.notes k it)) h;
      got = λ m moment number w told h. holds-got s fits m moment number w told h;
      flowed = λ number w told h. holds-flowed s number w told h;
      lied = λ key body name w told liar h. holds-lied s fits key body name w told liar h;
    }

first-fits : (s : Setting) (signed : List Signed) (m : ℕ) (d : Disk) → Fits s signed m (record { disk = d; past = []; current = None })
first-fits s signed m d =
    record {
      is = λ l none. none-some {X = Life} None l refl none;
      after = λ l none. none-some {X = Life} None l refl none;
      own = λ l none. none-some {X = Life} None l refl none;
      rosters = λ l none. absurd none;
      lived = λ l none. absurd none;
    }

no-accusation : (s : Setting) (m index : ℕ) (a : AccBody) → In (by_authority s) (record { who = Some m; index = index; body = Accusation a }) → ⊥
no-accusation s m index a i = let r = authority-of s _ i in never r.0 r.1.1
  where
    never : (k : ℕ) → Accusation a ≡ Certificate (certificate s k) → ⊥
    never k e = cc

pub holds-first : (s : Setting) → Holds s (begun_world s) []
unfolding begun_world
holds-first s =
    record {
      only = λ x i who. i;
      notes = λ m is. stands-first NotesWithin notes-rise s m;
      hosts = λ m. first-fits s (by_authority s) m _;
      right = λ t none. absurd none;
      accusations = λ m index a is i. absurd (no-accusation s m index a i);
    }

pub reached-holds : (s : Setting) (w : World) (told : List NodeEvent) → IsSetting s → Reached s w told → Holds s w told
reached-holds s w told fits reached = keeps-reached s (Holds s) (holds-kept s fits) (holds-first s) w told reached
