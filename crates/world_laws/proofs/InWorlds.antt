-- What holds in each world that lines lead to, none of which is forged.
use Rattle.std.proofs.Common.{◌≡◌, ℕ, zero, suc, ◌≤◌, true, List, [], ◌∷◌, ◌++◌, length, Some, None, inl, inr, refl, ap, sym, ◌∙◌, subst, arith}
use Rattle.std.specs.Prelude.{option_to_list}
use Rattle.std.specs.List.{slice_get}
use Rattle.std.proofs.lemmas.List.{append_assoc}
use Rattle.ff_ids.specs.declared.AccBody.{AccBody}
use Rattle.ff_ids.specs.declared.NoteBody.{NoteBody}
use Rattle.ff_ids.specs.Steps.{Event, Joins, Notes, Accuses, Ticks as Passes}
use Rattle.life_laws.proofs.Lists.{In, In-append_left, In-append_right, In-append_cases}
use Rattle.records.specs.declared.Body.{Body}
use Rattle.records.specs.declared.Body.TheVariants.{Certificate, Note, Accusation}
use Rattle.epoch_store.specs.declared.Stored.{Stored}
use Rattle.signer.specs.Signing.{stored_after}
use Rattle.signer.specs.Lives.{Spent}
use Rattle.journal.specs.declared.event.Event as journal
use Rattle.journal.specs.declared.event.What as whats
use Rattle.journal.specs.declared.event.What.TheVariants as told
use Rattle.node_rules.specs.Lives.{Input, Ticks, KeepsOwnNote}
use Rattle.node_rules.specs.Accusing.{AccusesTheSilent}
use Rattle.node_rules.proofs.Accusations.{In-filter_map}
use Rattle.world_rules.specs.Settings.{Owner, Setting, Signed, is_node, setting_of}
use Rattle.world_rules.specs.Calls.{called_on}
use Rattle.world_rules.specs.Worlds.{Life, Host, World, lives_of}
use Rattle.world_rules.specs.Steps.{NodeEvent, signed_if_spent, signed_in}
use Rattle.world_rules.proofs.CallSteps.{MayFollow}
use Rattle.world_rules.proofs.Once.{Rises, Stands}
use Rattle.world_laws.specs.Signing.{KeepsRoster, SignsAtTick, TellsSpent, node_after}
use Rattle.world_laws.proofs.Signed.{OnlyCertifies, SignedIn}
use Rattle.world_laws.proofs.Rightly.{IsNoteWithin}
use Rattle.world_laws.proofs.InCalls.{AcceptsSigned, ComesSigned, IsRight, IsSignedBy}

-- ---- what a key's notes are to its store

abbrev pub NotesWithin : Stored → List Spent → Type 0
NotesWithin kept spent = (index : ℕ) (note : NoteBody) → In spent (record { index = index; body = Note note }) → IsNoteWithin kept note

note-later : (kept : Stored) (body : Body) (note : NoteBody) → MayFollow kept body → IsNoteWithin kept note → IsNoteWithin (stored_after kept body) note
note-later kept (Certificate c) note may h = h
note-later kept (Accusation a) note may h = h
note-later kept (Note n) note may (inl less) = inl (omega (arith, less, may))
note-later kept (Note n) note may (inr same) = inl (omega (arith, same.0, may))

note-itself : (kept : Stored) (body : Body) (note : NoteBody) → body ≡ Note note → IsNoteWithin (stored_after kept body) note
note-itself kept (Certificate c) note e = absurd (cc)
note-itself kept (Accusation a) note e = absurd (cc)
note-itself kept (Note n) note e =
    let is : n ≡ note = cc in
    inr (sym (ap (λ (x : NoteBody). x.epoch) is), sym (ap (λ (x : NoteBody). x.mask.0) is))

pub notes-rise : Rises NotesWithin
notes-rise =
    record {
      first = λ kept index note none. absurd none;
      push = λ kept body spent may h index note i. elim (In-append_cases spent _ _ i) [
        | inl old ↦ note-later kept body note may (h index note old)
        | inr (inl is) ↦ note-itself kept body note (ap (λ (x : Spent). x.body) is)
        | inr (inr none) ↦ absurd none
      ];
      later = λ kept body spent may h index note i. note-later kept body note may (h index note i);
    }

-- ---- lives

abbrev pub lives_at : Host → List Life
lives_at host = host.past ++ option_to_list host.current

-- A life goes on in the host, or is there as it was.
pub record IsThere (host : Host) (life : Life) : Type 0 where
  pub later : Life
  pub among : In (lives_at host) later
  pub found : later.found ≡ life.found
  pub more : List Input
  pub inputs : later.inputs ≡ life.inputs ++ more
  pub events : List Event
  pub grew : later.node.lived ≡ life.node.lived ++ events

pub nil-right : {A : Type 0} (xs : List A) → xs ++ [] ≡ xs
nil-right [] = refl
nil-right (x ∷ xs) = ap (λ ys. x ∷ ys) (nil-right xs)

pub there-itself : (host : Host) (life : Life) → In (lives_at host) life → IsThere host life
there-itself host life i = record { later = life; among = i; found = refl; more = []; inputs = sym (nil-right life.inputs); events = []; grew = sym (nil-right life.node.lived) }

pub get-front : {X : Type 0} (xs ys : List X) (n : ℕ) (x : X) → slice_get xs n ≡ Some x → slice_get (xs ++ ys) n ≡ Some x
get-front [] ys n x h = cc
get-front (z ∷ xs) ys zero x h = h
get-front (z ∷ xs) ys (suc n) x h = get-front xs ys n x h

-- The accusation was signed with this index at a tick of one of these lives of the member, and came into the life there.
pub record SignedBy (s : Setting) (lives : List Life) (m index : ℕ) (a : AccBody) : Type 0 where
  pub own : a.accuser ≡ m
  pub life : Life
  pub lived : In lives life
  pub place : ℕ
  pub signs : SignsAtTick s m life place index a
  pub stays : slice_get life.node.lived place ≡ Some (Accuses a)

-- A life that began with the same store, and has had more calls.
pub signs-later : (s : Setting) (m place index : ℕ) (a : AccBody) (life later : Life) (more : List Input) → later.found ≡ life.found → later.inputs ≡ life.inputs ++ more → SignsAtTick s m life place index a → SignsAtTick s m later place index a
signs-later s m place index a life later more found inputs h =
    record {
      before = h.before;
      behind = h.behind ++ more;
      at_tick = inputs ∙ ap (λ xs. xs ++ more) h.at_tick ∙ append_assoc h.before (Ticks ∷ h.behind) more;
      disk = h.disk;
      kept = subst (λ k. h.disk.state ≡ (node_after s m k h.before).stored) (sym found) h.kept;
      signed = subst (λ k. TellsSpent (called_on (setting_of s m) (node_after s m k h.before) Ticks h.disk).call index (Accusation a)) (sym found) h.signed;
      silent = subst (λ k. AccusesTheSilent (setting_of s m) (node_after s m k h.before) a) (sym found) h.silent;
      since = subst (λ k. length (node_after s m k h.before).lived ≤ place) (sym found) h.since;
      came_in = subst (λ k. slice_get (called_on (setting_of s m) (node_after s m k h.before) Ticks h.disk).call.node.lived place ≡ Some (Accuses a)) (sym found) h.came_in;
    }

pub signed-later : (s : Setting) (m index : ℕ) (a : AccBody) (old new : Host) → ((life : Life) → In (lives_at old) life → IsThere new life) → SignedBy s (lives_at old) m index a → SignedBy s (lives_at new) m index a
signed-later s m index a old new grows h =
    let x = grows h.life h.lived in
    record {
      own = h.own;
      life = x.later;
      lived = x.among;
      place = h.place;
      signs = signs-later s m h.place index a h.life x.later x.more x.found x.inputs h.signs;
      stays = subst (λ (es : List Event). slice_get es h.place ≡ Some (Accuses a)) (sym x.grew) (get-front h.life.node.lived x.events h.place (Accuses a) h.stays);
    }

-- ---- a node's place in the world

-- What runs is a node, which has come to what its store's state and its calls make of it; in each life its roster is
-- kept, and what comes of nodes was signed by them.
pub record Fits (s : Setting) (signed : List Signed) (m : ℕ) (host : Host) : Type 0 where
  pub is : (life : Life) → host.current ≡ Some life → is_node s m ≡ true
  pub after : (life : Life) → host.current ≡ Some life → life.node ≡ node_after s m life.found life.inputs
  pub own : (life : Life) → host.current ≡ Some life → KeepsOwnNote (setting_of s m) life.node
  pub rosters : (life : Life) → In (lives_at host) life → KeepsRoster s life.node
  pub lived : (life : Life) → In (lives_at host) life → (e : Event) → In life.node.lived e → ComesSigned s m signed [] e

signed-more : (signed more : List Signed) (who : Owner) (body : Body) → SignedIn signed who body → SignedIn (signed ++ more) who body
signed-more signed more who body h = record { index = h.index; among = In-append_left signed more _ h.among }

by-more : (m : ℕ) (signed more : List Signed) (who : ℕ) (body : Body) → IsSignedBy m signed [] who body → IsSignedBy m (signed ++ more) [] who body
by-more m signed more who body (inl before) = inl (signed-more signed more (Some who) body before)
by-more m signed more who body (inr now) = absurd now.1.among

pub comes-more : (s : Setting) (m : ℕ) (signed more : List Signed) (e : Event) → ComesSigned s m signed [] e → ComesSigned s m (signed ++ more) [] e
comes-more s m signed more (Notes note) h = λ is. by-more m signed more note.member (Note note) (h is)
comes-more s m signed more (Accuses a) h = λ is. by-more m signed more a.accuser (Accusation a) (h is)
comes-more s m signed more (Joins number places) h = tt
comes-more s m signed more Passes h = tt

pub fits-more : (s : Setting) (signed more : List Signed) (m : ℕ) (host : Host) → Fits s signed m host → Fits s (signed ++ more) m host
fits-more s signed more m host h =
    record { is = h.is; after = h.after; own = h.own; rosters = h.rosters; lived = λ life i e j. comes-more s m signed more e (h.lived life i e j) }

accepts-more : (s : Setting) (signed more : List Signed) (what : whats.What) → AcceptsSigned s signed what → AcceptsSigned s (signed ++ more) what
accepts-more s signed more (told.Took (Accusation a) None) h = λ is. signed-more signed more (Some a.accuser) (Accusation a) (h is)
accepts-more s signed more (told.Took (Accusation a) (Some fault)) h = tt
accepts-more s signed more (told.Took (Certificate c) fault) h = tt
accepts-more s signed more (told.Took (Note n) None) h = λ is. signed-more signed more (Some n.member) (Note n) (h is)
accepts-more s signed more (told.Took (Note n) (Some fault)) h = tt
accepts-more s signed more what h = tt

pub right-more : (s : Setting) (signed more : List Signed) (what : whats.What) → IsRight s signed what → IsRight s (signed ++ more) what
right-more s signed more what h = record { fresh = h.fresh; accepts = accepts-more s signed more what h.accepts }

-- What is signed in a call is signed behind it.
by-behind : (m : ℕ) (signed : List Signed) (events : List journal.Event) (who : ℕ) (body : Body) → IsSignedBy m signed events who body → IsSignedBy m (signed ++ signed_in m events) [] who body
by-behind m signed events who body (inl before) = inl (signed-more signed (signed_in m events) (Some who) body before)
by-behind m signed events who body (inr now) =
    let x : Signed = record { who = Some m; index = now.1.index; body = body } in
    let i : In (signed_in m events) x = In-filter_map (λ (e : journal.Event). signed_if_spent m e.what) events _ x now.1.among refl in
    inl (record { index = now.1.index; among = subst (λ z. In (signed ++ signed_in m events) (record { who = Some z; index = now.1.index; body = body })) (sym now.0) (In-append_right signed (signed_in m events) x i) })

pub comes-behind : (s : Setting) (m : ℕ) (signed : List Signed) (events : List journal.Event) (e : Event) → ComesSigned s m signed events e → ComesSigned s m (signed ++ signed_in m events) [] e
comes-behind s m signed events (Notes note) h = λ is. by-behind m signed events note.member (Note note) (h is)
comes-behind s m signed events (Accuses a) h = λ is. by-behind m signed events a.accuser (Accusation a) (h is)
comes-behind s m signed events (Joins number places) h = tt
comes-behind s m signed events Passes h = tt

-- ---- the world

-- What holds of a world, and of what was reported on the way to it.
pub record Holds (s : Setting) (w : World) (told : List NodeEvent) : Type 0 where
  pub only : OnlyCertifies s w.signed
  pub notes : (m : ℕ) → is_node s m ≡ true → Stands NotesWithin m w told
  pub hosts : (m : ℕ) → Fits s w.signed m (w.hosts m)
  pub right : (t : NodeEvent) → In told t → IsRight s w.signed t.event.what
  pub accusations : (m index : ℕ) (a : AccBody) → is_node s m ≡ true → In w.signed (record { who = Some m; index = index; body = Accusation a }) → SignedBy s (lives_of w m) m index a

-- One step of a world: what is signed and reported in it, and how the lives go on.
pub step : (s : Setting) (w v : World) (told news : List NodeEvent) (made : List Signed) → v.signed ≡ w.signed ++ made → ((x : Signed) → In made x → x.who ≡ None → ⊥) → ((m : ℕ) → is_node s m ≡ true → Stands NotesWithin m v (told ++ news))
    → ((m : ℕ) → Fits s (w.signed ++ made) m (v.hosts m)) → ((t : NodeEvent) → In news t → IsRight s (w.signed ++ made) t.event.what)
    → ((m : ℕ) (life : Life) → In (lives_of w m) life → IsThere (v.hosts m) life)
    → ((m index : ℕ) (a : AccBody) → is_node s m ≡ true → In made (record { who = Some m; index = index; body = Accusation a }) → SignedBy s (lives_of v m) m index a)
    → Holds s w told → Holds s v (told ++ news)
step s w v told news made same nobody notes hosts right grows accusations h =
    record {
      only = λ x i who. elim (In-append_cases w.signed made x (subst (λ xs. In xs x) same i)) [
        | inl old ↦ h.only x old who
        | inr new ↦ absurd (nobody x new who)
      ];
      notes = notes;
      hosts = λ m. subst (λ xs. Fits s xs m (v.hosts m)) (sym same) (hosts m);
      right = λ t i. subst (λ xs. IsRight s xs t.event.what) (sym same)
          (elim (In-append_cases told news t i) [
            | inl old ↦ right-more s w.signed made t.event.what (h.right t old)
            | inr new ↦ right t new
          ]);
      accusations = λ m index a is i. elim (In-append_cases w.signed made _ (subst (λ xs. In xs (record { who = Some m; index = index; body = Accusation a })) same i)) [
        | inl old ↦ signed-later s m index a (w.hosts m) (v.hosts m) (grows m) (h.accusations m index a is old)
        | inr new ↦ accusations m index a is new
      ];
    }
