-- What is accepted of a node's was reported as signed before.
use Rattle.std.proofs.Common.{◌≡◌, ◌⊎◌, ℕ, Bool, true, false, eqb, cond, List, [], ◌∷◌, ◌++◌, length, Some, None, inl, inr, refl, ap, sym, ◌∙◌, subst}
use Rattle.std.proofs.lemmas.Bool.{eq-eqb, eqb-true}
use Rattle.life_laws.proofs.Lists.{In, Contains-from_In, In-append_left, In-append_right, In-from_Contains}
use Rattle.records.specs.declared.Body.{Body}
use Rattle.records.specs.declared.Body.TheVariants.{Certificate, Note, Accusation}
use Rattle.epoch_store.specs.declared.Stored.{Stored}
use Rattle.signer.specs.Lives.{Spent}
use Rattle.journal.specs.declared.event.Event as journal
use Rattle.journal.specs.declared.event.What as whats
use Rattle.journal.specs.declared.event.What.TheVariants as happened
use Rattle.node_rules.specs.Calls.{Call}
use Rattle.node_rules.proofs.Accusations.{In-from_filter_map}
use Rattle.world_rules.specs.Settings.{Setting, is_node, setting_of}
use Rattle.world_rules.specs.Calls.{OnDisk, called_on}
use Rattle.world_rules.specs.Worlds.{World, begun_world, spent_of}
use Rattle.world_rules.specs.Steps.{NodeEvent, first_call, told_in}
use Rattle.world_rules.specs.Laws.{IsSetting}
use Rattle.world_rules.proofs.LineSteps.{Keeps, keeps-reached}
use Rattle.world_laws.specs.Telling.{AcceptedWasSignedFirst, IsSpentAsTold, IsToldSigned, SignsFirst, WasSignedFirst, spending, spent_if_told, spent_in}
use Rattle.world_laws.proofs.Signed.{SignedIn, spent-in}
use Rattle.world_laws.proofs.InCalls.{AcceptsSigned, GoesOn, InCall, IsRight, called-goes_on, started-in_call}
use Rattle.world_laws.proofs.InWorlds.{Holds, nil-right}
use Rattle.world_laws.proofs.Reaching.{holds-first, holds-kept, in-life, told-right}
use Rattle.world_laws.proofs.Written.{spending-first, spending-kept}

-- ---- a report among others

-- The element comes in the first list, or in the second behind all of the first.
abbrev IsIn : {X : Type 0} → List X → List X → List X → X → Type 0
IsIn {X} xs ys before t = ((more : List X) × (xs ≡ before ++ t ∷ more)) ⊎ ((gap : List X) × (before ≡ xs ++ gap) × In ys t)

is-in : {X : Type 0} (xs ys before behind : List X) (t : X) → xs ++ ys ≡ before ++ t ∷ behind → IsIn xs ys before t
is-in [] ys before behind t e = inr (before, refl, subst (λ zs. In zs t) (sym e) (In-append_right before (t ∷ behind) t (inl refl)))
is-in (x ∷ xs) ys [] behind t e = let head : x ≡ t = cc in inl (xs, ap (λ z. z ∷ xs) head)
is-in {X} (x ∷ xs) ys (b ∷ before) behind t e =
    let head : x ≡ b = cc in
    let tail : xs ++ ys ≡ before ++ t ∷ behind = cc in
    elim (is-in xs ys before behind t tail) [
      | inl here ↦ inl (here.0, ap (λ z. z ∷ xs) head ∙ ap (λ (zs : List X). b ∷ zs) here.1)
      | inr later ↦ inr (later.0, ap (λ z. z ∷ before) (sym head) ∙ ap (λ (zs : List X). x ∷ zs) later.1, later.2)
    ]

pub told-more : (told gap : List NodeEvent) (who : ℕ) (body : Body) → IsToldSigned told who body → IsToldSigned (told ++ gap) who body
told-more told gap who body h =
    record { moment = h.moment; index = h.index; among = Contains-from_In _ _ (In-append_left told gap _ (In-from_Contains _ _ h.among)) }

first-more : (s : Setting) (told gap : List NodeEvent) (what : whats.What) → WasSignedFirst s told what → WasSignedFirst s (told ++ gap) what
first-more s told gap (happened.Took (Note n) None) h = λ is. told-more told gap n.member (Note n) (h is)
first-more s told gap (happened.Took (Note n) (Some fault)) h = tt
first-more s told gap (happened.Took (Accusation a) None) h = λ is. told-more told gap a.accuser (Accusation a) (h is)
first-more s told gap (happened.Took (Accusation a) (Some fault)) h = tt
first-more s told gap (happened.Took (Certificate c) fault) h = tt
first-more s told gap what h = tt

-- More is reported, of which that holds behind what was reported.
signs-more : (s : Setting) (told news : List NodeEvent) → ((t : NodeEvent) → In news t → WasSignedFirst s told t.event.what) → SignsFirst s told → SignsFirst s (told ++ news)
signs-more s told news right h = λ earlier later t e.
    elim (is-in told news earlier later t e) [
      | inl old ↦ h earlier old.0 t old.1
      | inr new ↦ subst (λ xs. WasSignedFirst s xs t.event.what) (sym new.1) (first-more s told new.0 t.event.what (right t new.2))
    ]

-- ---- what was signed was reported

spent-what : (what : whats.What) (x : Spent) → spent_in what ≡ Some x → what ≡ happened.Spent x.index x.body
spent-what (happened.Spent index body) x e =
    let i : index ≡ x.index = cc in
    let b : body ≡ x.body = cc in
    ap (λ k. happened.Spent k body) i ∙ ap (λ y. happened.Spent x.index y) b
spent-what _ x e = cc

pub spent-event : (t : NodeEvent) (who : ℕ) (x : Spent) (b : Bool) → eqb t.who who ≡ b → cond b (spent_in t.event.what) None ≡ Some x → t ≡ spending who t.event.moment x.index x.body
spent-event t who x true same e =
    ap (λ k. let y : NodeEvent = record { who = k; event = t.event } in y) (eqb-true t.who who same)
    ∙ ap (λ z. let y : NodeEvent = record { who = who; event = record { moment = t.event.moment; what = z } } in y) (spent-what t.event.what x e)
spent-event t who x false same e = cc

signed-told : (w : World) (told : List NodeEvent) (who : ℕ) (body : Body) → IsSpentAsTold w told who → SignedIn w.signed (Some who) body → IsToldSigned told who body
signed-told w told who body as_told h =
    let x : Spent = record { index = h.index; body = body } in
    let spent : In (spent_of w (Some who)) x = spent-in w (Some who) h.index body (eq-eqb who who refl) h.among in
    let t = In-from_filter_map (spent_if_told who) told x (subst (λ xs. In xs x) (sym as_told) spent) in
    record {
      moment = t.0.event.moment;
      index = h.index;
      among = Contains-from_In _ _ (subst (In told) (spent-event t.0 who x (eqb t.0.who who) refl t.1.1) t.1.0);
    }

-- What each node's key spent was reported.
abbrev AllTold : Setting → World → List NodeEvent → Type 0
AllTold s w told = (m : ℕ) → is_node s m ≡ true → IsSpentAsTold w told m

signed-first : (s : Setting) (w : World) (told : List NodeEvent) (what : whats.What) → AllTold s w told → AcceptsSigned s w.signed what → WasSignedFirst s told what
signed-first s w told (happened.Took (Note n) None) all h = λ is. signed-told w told n.member (Note n) (all n.member is) (h is)
signed-first s w told (happened.Took (Note n) (Some fault)) all h = tt
signed-first s w told (happened.Took (Accusation a) None) all h = λ is. signed-told w told a.accuser (Accusation a) (all a.accuser is) (h is)
signed-first s w told (happened.Took (Accusation a) (Some fault)) all h = tt
signed-first s w told (happened.Took (Certificate c) fault) all h = tt
signed-first s w told what all h = tt

-- What a call reports, behind what was reported before it.
news-first : (s : Setting) (w : World) (told : List NodeEvent) (m before : ℕ) (events : List journal.Event) → AllTold s w told → ((e : journal.Event) → In events e → IsRight s w.signed e.what)
    → (t : NodeEvent) → In (told_in m before events) t → WasSignedFirst s told t.event.what
news-first s w told m before events all right t i =
    let r : IsRight s (w.signed ++ []) t.event.what = told-right s w.signed [] m before events right t i in
    signed-first s w told t.event.what all (subst (λ xs. AcceptsSigned s xs t.event.what) (nil-right w.signed) r.accepts)

-- ---- each step

record Ordered (s : Setting) (w : World) (told : List NodeEvent) : Type 0 where
  holds : Holds s w told
  all : AllTold s w told
  first : SignsFirst s told

ordered-kept : (s : Setting) → IsSetting s → Keeps s (Ordered s)
ordered-kept s fits =
    let keep : Keeps s (Holds s) = holds-kept s fits in
    record {
      called = λ m i life c running free h.
          let w : World = c.world in
          let d : OnDisk = called_on (setting_of s m) life.node i (w.hosts m).disk in
          let g : GoesOn s w m d.call = called-goes_on s w m life.node i (w.hosts m).disk (record { fits = fits; is = (h.holds.hosts m).is life running; only = h.holds.only }) free (in-life s w c.told m life running h.holds) in
          record {
            holds = keep.called m i life c running free h.holds;
            all = λ k is. (spending-kept s k fits is).called m i life c running free (h.all k is);
            first = signs-more s c.told (told_in m (length w.sent) d.call.told) (news-first s w c.told m (length w.sent) d.call.told h.all g.so_far.told) h.first;
          };
      began = λ m d c is idle left same h.
          let w : World = c.world in
          let kept : Stored = (w.hosts m).disk.state in
          let call : Call = first_call s m kept in
          let g : InCall s w m call = started-in_call s w m kept (λ index note j. (h.holds.notes m is).holds index note (spent-in w (Some m) index (Note note) (eq-eqb m m refl) j)) in
          record {
            holds = keep.began m d c is idle left same h.holds;
            all = λ k it. (spending-kept s k fits it).began m d c is idle left same (h.all k it);
            first = signs-more s c.told (told_in m (length w.sent) call.told) (news-first s w c.told m (length w.sent) call.told h.all g.told) h.first;
          };
      tried = λ m d w told idle free left h. record { holds = keep.tried m d w told idle free left h.holds; all = h.all; first = h.first };
      disked = λ m d w told same h. record { holds = keep.disked m d w told same h.holds; all = h.all; first = h.first };
      ended = λ m life w told running h. record { holds = keep.ended m life w told running h.holds; all = h.all; first = h.first };
      got = λ m moment number w told h.
          let t : NodeEvent = record { who = m; event = record { moment = moment; what = happened.Got number } } in
          record {
            holds = keep.got m moment number w told h.holds;
            all = λ k is. (spending-kept s k fits is).got m moment number w told (h.all k is);
            first = signs-more s told (t ∷ []) (λ x i. elim i [ inl is ↦ subst (λ (y : NodeEvent). WasSignedFirst s told y.event.what) is tt | inr none ↦ absurd none ]) h.first;
          };
      flowed = λ number w told h. record { holds = keep.flowed number w told h.holds; all = h.all; first = h.first };
      lied = λ key body name w told liar h.
          record { holds = keep.lied key body name w told liar h.holds; all = λ k is. (spending-kept s k fits is).lied key body name w told liar (h.all k is); first = h.first };
    }

nothing-first : (s : Setting) → SignsFirst s []
nothing-first s = λ earlier later t e. absurd (never earlier later t e)
  where
    never : (earlier later : List NodeEvent) (t : NodeEvent) → [] ≡ earlier ++ t ∷ later → ⊥
    never [] later t e = cc
    never (x ∷ earlier) later t e = cc

ordered-first : (s : Setting) → IsSetting s → Ordered s (begun_world s) []
ordered-first s fits = record { holds = holds-first s; all = λ m is. spending-first s m; first = nothing-first s }

pub accepted-signed-first : AcceptedWasSignedFirst
accepted-signed-first s w told fits reached = (keeps-reached s (Ordered s) (ordered-kept s fits) (ordered-first s fits) w told reached).first
