-- What is accepted in a life was signed before, as is reported: where a place of a life is reported, and what was reported as
-- signed by then.
use Rattle.std.proofs.Common.{◌≡◌, ◌⊎◌, ℕ, Bool, true, false, cond, eqb, List, [], ◌∷◌, ◌++◌, length, Option, Some, None, inl, inr, refl, ap, sym, ◌∙◌, subst, take}
use Rattle.std.specs.Prelude.{filter_map, flat_map}
use Rattle.std.specs.List.{cons_option, slice_get}
use Rattle.std.proofs.lemmas.Bool.{and_parts, eq-eqb, eqb-true}
use Rattle.std.proofs.lemmas.List.{append_assoc}
use Rattle.std.proofs.lemmas.List.Elements.{filter_map-append}
use Rattle.ff_ids.specs.declared.AccBody.{AccBody}
use Rattle.ff_ids.specs.declared.NoteBody.{NoteBody}
use Rattle.ff_ids.specs.Views.{State}
use Rattle.ff_ids.specs.Faults.{facts_of}
use Rattle.ff_ids.specs.Steps.{Event, Notes, Accuses}
use Rattle.ff_ids.specs.Lives.{opening, RestsOn, state_at}
use Rattle.ff_ids.proofs.FaultLemmas.{passes}
use Rattle.life_laws.proofs.Lists.{In, All-from_In, Contains-from_In, In-append_left, In-append_right, In-from_Contains}
use Rattle.records.specs.declared.Body.{Body}
use Rattle.records.specs.declared.Body.TheVariants.{Certificate, Note, Accusation}
use Rattle.signer.specs.Lives.{Spent}
use Rattle.journal.specs.declared.event.What as whats
use Rattle.journal.specs.declared.event.What.TheVariants as happened
use Rattle.node_rules.proofs.Accusations.{In-filter_map, In-from_filter_map}
use Rattle.world_rules.specs.Settings.{Setting, is_node}
use Rattle.world_rules.specs.Worlds.{Life, World, lives_of, spent_of}
use Rattle.world_rules.specs.Steps.{NodeEvent}
use Rattle.world_rules.specs.Laws.{IsSetting, Reached}
use Rattle.world_laws.specs.Signing.{HasSpentOn, WasSigned}
use Rattle.world_laws.specs.Laws.{AcceptedAccusationsWereSigned, AcceptsRightly, AccusesRightly, IsOnOwnNote}
use Rattle.world_laws.specs.Telling.{IsLivedAsTold, IsSignedIn, IsSpentAsTold, IsToldBehind, IsToldSigned, WasSignedFirst, said_in, spending, spent_if_told, statement, took_if_told, took_in}
use Rattle.world_laws.proofs.Signed.{spent-from}
use Rattle.world_laws.proofs.Stopped.{split-at}
use Rattle.world_laws.proofs.Places.{at-length, cut-at, split-in, take-length}
use Rattle.world_laws.proofs.Marking.{TickHere, tick-here}
use Rattle.world_laws.proofs.Lawful.{accuse-silent, newest-came}
use Rattle.world_laws.proofs.Written.{spending-told}
use Rattle.world_laws.proofs.SignedFirst.{accepted-signed-first, told-more}
use Rattle.world_laws.proofs.Living.{accepted-lived, flat-append, life_says, said, said-append}
use Rattle.world_laws.proofs.OwnBodies.{nodes-live, own-signed}

-- ---- lists

-- The element of which this comes, behind those of which the others come.
record Located {X Y : Type 0} (f : X → Option Y) (xs : List X) (front : List Y) (y : Y) : Type 0 where
  earlier : List X
  here : X
  later : List X
  among : xs ≡ earlier ++ here ∷ later
  gives : f here ≡ Some y
  till : filter_map f earlier ≡ front

located-at : {X Y : Type 0} (f : X → Option Y) (x : X) (xs : List X) (o : Option Y) (front : List Y) (y : Y) (behind : List Y) → f x ≡ o → cons_option o (filter_map f xs) ≡ front ++ y ∷ behind
    → ((front : List Y) → filter_map f xs ≡ front ++ y ∷ behind → Located f xs front y) → Located f (x ∷ xs) front y
located-at f x xs None front y behind is e rest =
    let r : Located f xs front y = rest front e in
    record { earlier = x ∷ r.earlier; here = r.here; later = r.later; among = ap (λ zs. x ∷ zs) r.among; gives = r.gives; till = ap (λ p. cons_option p (filter_map f r.earlier)) is ∙ r.till }
located-at f x xs (Some z) [] y behind is e rest =
    let head : z ≡ y = cc in
    record { earlier = []; here = x; later = xs; among = refl; gives = is ∙ ap (λ k. Some k) head; till = refl }
located-at {X} {Y} f x xs (Some z) (b ∷ front) y behind is e rest =
    let head : z ≡ b = cc in
    let tail : filter_map f xs ≡ front ++ y ∷ behind = cc in
    let r : Located f xs front y = rest front tail in
    record {
      earlier = x ∷ r.earlier;
      here = r.here;
      later = r.later;
      among = ap (λ zs. x ∷ zs) r.among;
      gives = r.gives;
      till = ap (λ p. cons_option p (filter_map f r.earlier)) is ∙ ap (λ (ys : List Y). z ∷ ys) r.till ∙ ap (λ (k : Y). k ∷ front) head;
    }

located : {X Y : Type 0} (f : X → Option Y) (xs : List X) (front : List Y) (y : Y) (behind : List Y) → filter_map f xs ≡ front ++ y ∷ behind → Located f xs front y
located f [] [] y behind e = cc
located f [] (z ∷ front) y behind e = cc
located {X} {Y} f (x ∷ xs) front y behind e = located-at f x xs (f x) front y behind refl e (λ (before : List Y) h. located f xs before y behind h)

-- ---- where a place of a life is reported

pub told-place : (w : World) (told : List NodeEvent) (who : ℕ) (life : Life) (place : ℕ) (event : Event) (body : Body) → IsLivedAsTold w told who → In (lives_of w who) life → slice_get life.node.lived place ≡ Some event → said_in event ≡ Some body
    → IsToldBehind w told who life place body
told-place w told who life place event body as_told i there says =
    let cut = split-in (lives_of w who) life i in
    let split = split-at life.node.lived place event there in
    let past : List Life = cut.0 in
    let rest : List Life = cut.1.0 in
    let till : List Body = said (take place life.node.lived) in
    let front : List Body = flat_map life_says past ++ till in
    let one : said life.node.lived ≡ till ++ body ∷ said split.0 =
    ap said split.1 ∙ said-append (take place life.node.lived) (event ∷ split.0) ∙ ap (λ o. till ++ cons_option o (said split.0)) says in
    let same : filter_map (took_if_told who) told ≡ front ++ body ∷ (said split.0 ++ flat_map life_says rest) =
    as_told ∙ ap (flat_map life_says) cut.1.1 ∙ flat-append life_says past (life ∷ rest)
    ∙ ap (λ xs. flat_map life_says past ++ (xs ++ flat_map life_says rest)) one
    ∙ ap (λ xs. flat_map life_says past ++ xs) (append_assoc till (body ∷ said split.0) (flat_map life_says rest))
    ∙ sym (append_assoc (flat_map life_says past) till (body ∷ (said split.0 ++ flat_map life_says rest))) in
    let r : Located (took_if_told who) told front body = located (took_if_told who) told front body (said split.0 ++ flat_map life_says rest) same in
    record {
      earlier = r.earlier;
      report = r.here;
      later = r.later;
      among = r.among;
      here = record { past = past; rest = rest; lives = cut.1.1; event = event; there = there; says = says; reports = r.gives; till = r.till };
    }

-- ---- which place of a life a report is of

-- The life among these into which the statement comes, behind those of which the others come.
record LocatedLife (lives : List Life) (front : List Body) (b : Body) : Type 0 where
  past : List Life
  life : Life
  rest : List Life
  among : lives ≡ past ++ life ∷ rest
  till : List Body
  behind : List Body
  says : life_says life ≡ till ++ b ∷ behind
  is : front ≡ flat_map life_says past ++ till

located-life : (lives : List Life) (front : List Body) (b : Body) (behind : List Body) → flat_map life_says lives ≡ front ++ b ∷ behind → LocatedLife lives front b
located-life [] [] b behind e = cc
located-life [] (x ∷ front) b behind e = cc
located-life (life ∷ lives) front b behind e =
    elim (cut-at (life_says life) (flat_map life_says lives) front b behind e) [
      | inl here ↦ record { past = []; life = life; rest = lives; among = refl; till = front; behind = here.0; says = here.1; is = refl }
      | inr later ↦
          let r : LocatedLife lives later.0 b = located-life lives later.0 b behind later.1.1 in
          record {
            past = life ∷ r.past;
            life = r.life;
            rest = r.rest;
            among = ap (λ ls. life ∷ ls) r.among;
            till = r.till;
            behind = r.behind;
            says = r.says;
            is = later.1.0 ∙ ap (λ xs. life_says life ++ xs) r.is ∙ sym (append_assoc (life_says life) (flat_map life_says r.past) r.till);
          }
    ]

-- What was reported as spent on a statement, among these events, was so at a place of a life.
pub signed-in : (w : World) (told earlier later : List NodeEvent) (who moment index : ℕ) (body : Body) → statement body ≡ Some body → IsLivedAsTold w told who → told ≡ earlier ++ later → In earlier (spending who moment index body) → IsSignedIn w earlier who index body
signed-in w told earlier later who moment index body states as_told among i =
    let f : NodeEvent → Option Body = took_if_told who in
    let x : NodeEvent = spending who moment index body in
    let cut = split-in earlier x i in
    let before : List NodeEvent = cut.0 in
    let rest : List NodeEvent = cut.1.0 ++ later in
    let whole : told ≡ before ++ x ∷ rest = among ∙ ap (λ xs. xs ++ later) cut.1.1 ∙ append_assoc before (x ∷ cut.1.0) later in
    let gives : f x ≡ Some body = ap (λ b. cond b (statement body) None) (eq-eqb who who refl) ∙ states in
    let said_so : flat_map life_says (lives_of w who) ≡ filter_map f before ++ body ∷ filter_map f rest =
    sym as_told ∙ ap (filter_map f) whole ∙ filter_map-append f before (x ∷ rest) ∙ ap (λ o. filter_map f before ++ cons_option o (filter_map f rest)) gives in
    let r : LocatedLife (lives_of w who) (filter_map f before) body = located-life (lives_of w who) (filter_map f before) body (filter_map f rest) said_so in
    let l : Located said_in r.life.node.lived r.till body = located said_in r.life.node.lived r.till body r.behind r.says in
    let there : slice_get r.life.node.lived (length l.earlier) ≡ Some l.here = ap (λ es. slice_get es (length l.earlier)) l.among ∙ at-length l.earlier l.later l.here in
    let front : take (length l.earlier) r.life.node.lived ≡ l.earlier = ap (take (length l.earlier)) l.among ∙ take-length l.earlier (l.here ∷ l.later) in
    record {
      moment = moment;
      before = before;
      behind = cut.1.0;
      among = cut.1.1;
      life = r.life;
      place = length l.earlier;
      here = record {
        past = r.past;
        rest = r.rest;
        lives = r.among;
        event = l.here;
        there = there;
        says = l.gives;
        reports = gives;
        till = r.is ∙ ap (λ xs. flat_map life_says r.past ++ xs) (sym (ap (filter_map said_in) front ∙ l.till));
      };
    }

-- ---- what a report of a statement is

stated : (body b : Body) → statement body ≡ Some b → body ≡ b
stated (Certificate c) b e = cc
stated (Note n) b e = cc
stated (Accusation a) b e = cc

-- The body was accepted, or an index was spent on it.
abbrev pub TookOrSpent : whats.What → Body → Type 0
TookOrSpent what b = (what ≡ happened.Took b None) ⊎ ((index : ℕ) × (what ≡ happened.Spent index b))

took-or-spent : (what : whats.What) (b : Body) → took_in what ≡ Some b → TookOrSpent what b
took-or-spent (happened.Took body None) b e = inl (ap (λ x. happened.Took x None) (stated body b e))
took-or-spent (happened.Took body (Some fault)) b e = cc
took-or-spent (happened.Spent index body) b e = inr (index, ap (λ x. happened.Spent index x) (stated body b e))
took-or-spent _ b e = cc

pub told-by : (who : ℕ) (t : NodeEvent) (b : Body) (same : Bool) → eqb t.who who ≡ same → cond same (took_in t.event.what) None ≡ Some b → (t.who ≡ who) × TookOrSpent t.event.what b
told-by who t b true is e = (eqb-true t.who who is, took-or-spent t.event.what b e)
told-by who t b false is e = cc

as-spending : (t : NodeEvent) (who index : ℕ) (b : Body) → t.who ≡ who → t.event.what ≡ happened.Spent index b → t ≡ spending who t.event.moment index b
as-spending t who index b by is =
    ap (λ k. let y : NodeEvent = record { who = k; event = t.event } in y) by
    ∙ ap (λ z. let y : NodeEvent = record { who = who; event = record { moment = t.event.moment; what = z } } in y) is

-- What is reported as spent was.
pub told-spent : (w : World) (told : List NodeEvent) (who moment index : ℕ) (body : Body) → IsSpentAsTold w told who → In told (spending who moment index body) → HasSpentOn w (Some who) index body
told-spent w told who moment index body as_told i =
    let x : Spent = record { index = index; body = body } in
    let given : spent_if_told who (spending who moment index body) ≡ Some x = ap (λ b. cond b (Some x) None) (eq-eqb who who refl) in
    Contains-from_In (spent_of w (Some who)) x (subst (λ xs. In xs x) as_told (In-filter_map (spent_if_told who) told (spending who moment index body) x i given))

-- ---- accusations

-- All that is known of a world.
pub record Known (s : Setting) (w : World) (told : List NodeEvent) : Type 0 where
  pub fits : IsSetting s
  pub reached : Reached s w told

was-signed : (s : Setting) (w : World) (told earlier later : List NodeEvent) (a : AccBody) (moment index : ℕ) → Known s w told → told ≡ earlier ++ later → is_node s a.accuser ≡ true → In earlier (spending a.accuser moment index (Accusation a)) → WasSigned s w earlier a
was-signed s w told earlier later a moment index k among is i =
    let x : NodeEvent = spending a.accuser moment index (Accusation a) in
    let cut = split-in earlier x i in
    let whole : told ≡ cut.0 ++ x ∷ (cut.1.0 ++ later) = among ∙ ap (λ xs. xs ++ later) cut.1.1 ∙ append_assoc cut.0 (x ∷ cut.1.0) later in
    let t : TickHere s w cut.0 a.accuser moment index a = tick-here s w told cut.0 (cut.1.0 ++ later) a.accuser moment index a k.fits k.reached whole in
    let all : In told x = subst (λ xs. In xs x) (sym among) (In-append_left earlier later x i) in
    record {
      index = index;
      signed = record { moment = moment; before = cut.0; behind = cut.1.0; among = cut.1.1; life = t.life; place = t.place; here = t.here };
      spent = told-spent w told a.accuser moment index (Accusation a) (spending-told s w told a.accuser k.fits k.reached is) all;
      at_tick = t.signs;
    }

accepts-rightly : (s : Setting) (w : World) (told earlier later : List NodeEvent) (what : whats.What) → Known s w told → told ≡ earlier ++ later → WasSignedFirst s earlier what → AcceptsRightly s w earlier what
accepts-rightly s w told earlier later (happened.Took (Accusation a) None) k among first = λ is.
    let x : IsToldSigned earlier a.accuser (Accusation a) = first is in
    was-signed s w told earlier later a x.moment x.index k among is (In-from_Contains _ _ x.among)
accepts-rightly s w told earlier later (happened.Took (Accusation a) (Some fault)) k among first = tt
accepts-rightly s w told earlier later (happened.Took (Certificate c) fault) k among first = tt
accepts-rightly s w told earlier later (happened.Took (Note n) fault) k among first = tt
accepts-rightly s w told earlier later what k among first = tt

signed-further : (s : Setting) (w : World) (told more : List NodeEvent) (a : AccBody) → WasSigned s w told a → WasSigned s w (told ++ more) a
signed-further s w told more a h =
    let x : IsSignedIn w told a.accuser h.index (Accusation a) = h.signed in
    record {
      index = h.index;
      signed = record {
        moment = x.moment;
        before = x.before;
        behind = x.behind ++ more;
        among = ap (λ xs. xs ++ more) x.among ∙ append_assoc x.before (spending a.accuser x.moment h.index (Accusation a) ∷ x.behind) more;
        life = x.life;
        place = x.place;
        here = x.here;
      };
      spent = h.spent;
      at_tick = h.at_tick;
    }

-- The report is that of an acceptance, or of the node's own signature.
signed-till : (s : Setting) (w : World) (told : List NodeEvent) (who : ℕ) (life : Life) (a : AccBody) (earlier later : List NodeEvent) (t : NodeEvent) → Known s w told → In (lives_of w who) life → told ≡ earlier ++ t ∷ later → is_node s a.accuser ≡ true
    → t.who ≡ who → TookOrSpent t.event.what (Accusation a) → WasSigned s w (earlier ++ t ∷ []) a
signed-till s w told who life a earlier later t k i among is by (inl took) =
    let first : WasSignedFirst s earlier t.event.what = accepted-signed-first s w told k.fits k.reached earlier later t among in
    signed-further s w earlier (t ∷ []) a ((subst (AcceptsRightly s w earlier) took (accepts-rightly s w told earlier (t ∷ later) t.event.what k among first)) is)
signed-till s w told who life a earlier later t k i among is by (inr spent) =
    let x : NodeEvent = spending who t.event.moment spent.0 (Accusation a) in
    let same : t ≡ x = as-spending t who spent.0 (Accusation a) by spent.1 in
    let node : is_node s who ≡ true = nodes-live s w told who life k.reached i in
    let whole : told ≡ (earlier ++ t ∷ []) ++ later = among ∙ sym (append_assoc earlier (t ∷ []) later) in
    let here : In (earlier ++ t ∷ []) x = In-append_right earlier (t ∷ []) x (inl same) in
    let all : In told x = subst (λ xs. In xs x) (sym whole) (In-append_left (earlier ++ t ∷ []) later x here) in
    let own : a.accuser ≡ who = (accuse-silent s w told who spent.0 a k.fits k.reached node (told-spent w told who t.event.moment spent.0 (Accusation a) (spending-told s w told who k.fits k.reached node) all)).0 in
    was-signed s w told (earlier ++ t ∷ []) later a t.event.moment spent.0 k whole is
    (subst (λ z. In (earlier ++ t ∷ []) (spending z t.event.moment spent.0 (Accusation a))) (sym own) here)

accuses-rightly : (s : Setting) (w : World) (told : List NodeEvent) (who : ℕ) (life : Life) → Known s w told → In (lives_of w who) life → AccusesRightly s w told who life
accuses-rightly s w told who life k i = λ place a there is.
    let r : IsToldBehind w told who life place (Accusation a) = told-place w told who life place (Accuses a) (Accusation a) (accepted-lived s w told who k.reached) i there refl in
    let how = told-by who r.report (Accusation a) (eqb r.report.who who) refl r.here.reports in
    record { accepted = r; was_signed = signed-till s w told who life a r.earlier r.later r.report k i r.among is how.0 how.1 }

pub accepted-signed : AcceptedAccusationsWereSigned
accepted-signed s w told fits reached =
    let k : Known s w told = record { fits = fits; reached = reached } in (
      λ who. All-from_In _ (lives_of w who) (λ life i. accuses-rightly s w told who life k i),
      λ earlier later t among. accepts-rightly s w told earlier (t ∷ later) t.event.what k among (accepted-signed-first s w told fits reached earlier later t among),
    )

-- ---- who is removed had signed the note

-- What is reported of the note, among these events, was signed in them.
pub note-signed : (s : Setting) (w : World) (told : List NodeEvent) (who : ℕ) (life : Life) (n : NoteBody) (earlier later : List NodeEvent) (t : NodeEvent) → Known s w told → In (lives_of w who) life → told ≡ earlier ++ later → In earlier t → is_node s n.member ≡ true
    → t.who ≡ who → TookOrSpent t.event.what (Note n) → IsToldSigned earlier n.member (Note n)
note-signed s w told who life n earlier later t k i among j is by (inl took) =
    let cut = split-in earlier t j in
    let whole : told ≡ cut.0 ++ t ∷ (cut.1.0 ++ later) = among ∙ ap (λ xs. xs ++ later) cut.1.1 ∙ append_assoc cut.0 (t ∷ cut.1.0) later in
    let first : WasSignedFirst s cut.0 t.event.what = accepted-signed-first s w told k.fits k.reached cut.0 (cut.1.0 ++ later) t whole in
    subst (λ xs. IsToldSigned xs n.member (Note n)) (sym cut.1.1) (told-more cut.0 (t ∷ cut.1.0) n.member (Note n) ((subst (WasSignedFirst s cut.0) took first) is))
note-signed s w told who life n earlier later t k i among j is by (inr spent) =
    let x : NodeEvent = spending who t.event.moment spent.0 (Note n) in
    let here : In earlier x = subst (In earlier) (as-spending t who spent.0 (Note n) by spent.1) j in
    let node : is_node s who ≡ true = nodes-live s w told who life k.reached i in
    let all : In told x = subst (λ xs. In xs x) (sym among) (In-append_left earlier later x here) in
    let signed = spent-from w (Some who) spent.0 (Note n) (In-from_Contains _ _ (told-spent w told who t.event.moment spent.0 (Note n) (spending-told s w told who k.fits k.reached node) all)) in
    let own : n.member ≡ who = own-signed s w told k.fits k.reached (record { who = Some who; index = spent.0; body = Note n }) who signed refl node in
    record { moment = t.event.moment; index = spent.0; among = Contains-from_In _ _ (subst (λ z. In earlier (spending z t.event.moment spent.0 (Note n))) (sym own) here) }

-- The note that was the newest at the place was reported before the place is.
newest-signed : (s : Setting) (w : World) (told : List NodeEvent) (who : ℕ) (life : Life) (place : ℕ) (n : NoteBody) (b : Body) → Known s w told → In (lives_of w who) life → In (take place life.node.lived) (Notes n) → is_node s n.member ≡ true
    → (r : IsToldBehind w told who life place b) → IsToldSigned r.earlier n.member (Note n)
newest-signed s w told who life place n b k i came is r =
    let lived : In (said (take place life.node.lived)) (Note n) = In-filter_map said_in (take place life.node.lived) (Notes n) (Note n) came refl in
    let reported : In (filter_map (took_if_told who) r.earlier) (Note n) = subst (λ xs. In xs (Note n)) (sym r.here.till) (In-append_right (flat_map life_says r.here.past) (said (take place life.node.lived)) (Note n) lived) in
    let t = In-from_filter_map (took_if_told who) r.earlier (Note n) reported in
    let how = told-by who t.0 (Note n) (eqb t.0.who who) refl t.1.1 in
    note-signed s w told who life n r.earlier (r.report ∷ r.later) t.0 k i r.among t.1.0 is how.0 how.1

pub rests-on : (s : Setting) (w : World) (told : List NodeEvent) (who : ℕ) (life : Life) (j m place : ℕ) (a : AccBody) → Known s w told → In (lives_of w who) life → is_node s m ≡ true → RestsOn s.group (opening []) life.node.lived j m place a
    → IsOnOwnNote s w told who life place a
rests-on s w told who life j m place a k i is rests =
    let st : State = state_at s.group (opening []) life.node.lived place in
    let p = passes s.group.t (facts_of st a) a rests.accepted.no_fault in
    let came = newest-came s.group life.node.lived place a.accused p.note p.newest in
    let answers = and_parts _ _ p.unanswered in
    let node : is_node s a.accused ≡ true = ap (is_node s) rests.against ∙ is in
    let r : IsToldBehind w told who life place (Accusation a) = told-place w told who life place (Accuses a) (Accusation a) (accepted-lived s w told who k.reached) i rests.accepted.event refl in
    let x : IsToldSigned r.earlier p.note.member (Note p.note) = newest-signed s w told who life place p.note (Accusation a) k i came.0 (ap (is_node s) came.1 ∙ node) r in
    let own : IsToldSigned r.earlier a.accused (Note p.note) = subst (λ z. IsToldSigned r.earlier z (Note p.note)) came.1 x in
    let all : In told (spending a.accused own.moment own.index (Note p.note)) =
    subst (λ xs. In xs (spending a.accused own.moment own.index (Note p.note))) (sym r.among) (In-append_left r.earlier (r.report ∷ r.later) _ (In-from_Contains _ _ own.among)) in
    record {
      accepted = r;
      had_signed = record {
        note = p.note;
        index = own.index;
        signed = signed-in w told r.earlier (r.report ∷ r.later) a.accused own.moment own.index (Note p.note) refl (accepted-lived s w told a.accused k.reached) r.among (In-from_Contains _ _ own.among);
        spent = told-spent w told a.accused own.moment own.index (Note p.note) (spending-told s w told a.accused k.fits k.reached node) all;
        own = came.1;
        epoch = eqb-true _ _ answers.0;
        enabled = answers.1;
      };
      is_newest = p.newest;
    }
