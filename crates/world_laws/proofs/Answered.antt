-- What an accepted note rules out in the rest of a life, and in what is reported of it.
use Rattle.std.proofs.Common.{◌≡◌, ℕ, ◌+◌, zero, suc, ◌<◌, List, [], ◌∷◌, ◌++◌, length, map, inl, inr, refl, ap, ◌∙◌, subst, arith}
use Rattle.ff_ids.specs.declared.AccBody.{AccBody}
use Rattle.ff_ids.specs.declared.Group.{Group}
use Rattle.ff_ids.specs.Lives.{opening, state_at}
use Rattle.ff_ids.specs.Steps.{Event, Report, Stepped, step}
use Rattle.ff_ids.specs.Views.{State}
use Rattle.life_laws.specs.Removals.{ExpiresAt, RulesOut}
use Rattle.life_laws.proofs.AnsweredLemmas.{none_accepted, none_expires}
use Rattle.life_laws.proofs.Lists.{All-from_In, Contains-from_In, In, In-append_cases, In-from_Contains, In-from_map}
use Rattle.life_laws.proofs.SinceLemmas.{revokes}
use Rattle.journal.specs.declared.event.Event as journal
use Rattle.journal.specs.declared.event.What as whats
use Rattle.journal.specs.declared.event.What.TheVariants as happened
use Rattle.node_rules.specs.Calls.{told_of, whats_of}
use Rattle.node_rules.specs.Lives.{is_of_life, told_by}
use Rattle.world_rules.specs.Settings.{Setting}
use Rattle.world_rules.specs.Worlds.{Life, lives_of}
use Rattle.world_laws.specs.Replies.{AnswersHold, AnswersHoldInWorlds, ToldExpiriesAreLived}
use Rattle.world_laws.proofs.Removing.{in-told, told-moment}

-- ---- lives

rules-out : (s : Setting) (life : Life) → RulesOut s.group (opening []) life.node.lived
rules-out s life i j n a less at older = (none_accepted s.group (opening []) life.node.lived i j n a less at older, none_expires s.group (opening []) life.node.lived i j n a less at older)

pub answers-hold : AnswersHoldInWorlds
answers-hold s w who = All-from_In (AnswersHold s) (lives_of w who) (λ life i. record { rules_out = rules-out s life; ends = revokes s.group [] life.node.lived })

-- ---- what is reported of it

no-expiry : {X : Type 0} (f : X → whats.What) (xs : List X) (a : AccBody) → ((x : X) → f x ≡ happened.Expired a → ⊥) → In (map f xs) (happened.Expired a) → ⊥
no-expiry f xs a other i = let x = In-from_map f xs (happened.Expired a) i in other x.0 x.1.1

expired-here : (xs : List AccBody) (a : AccBody) → In (map happened.Expired xs) (happened.Expired a) → In xs a
expired-here xs a i =
    let x = In-from_map happened.Expired xs (happened.Expired a) i in
    subst (In xs) (accusation x.0 x.1.1) x.1.0
  where
    accusation : (b : AccBody) → happened.Expired b ≡ happened.Expired a → b ≡ a
    accusation b e = cc

expired-among : (r : Report) (a : AccBody) → In (whats_of r) (happened.Expired a) → In r.expired a
expired-among r a i =
    elim (In-append_cases (map happened.Expired r.expired ++ map happened.Removed r.removed ++ map happened.Entered r.entered) (map happened.Fell r.fell) (happened.Expired a) i) [
      | inl j ↦
          (elim (In-append_cases (map happened.Expired r.expired ++ map happened.Removed r.removed) (map happened.Entered r.entered) (happened.Expired a) j) [
            | inl k ↦
                (elim (In-append_cases (map happened.Expired r.expired) (map happened.Removed r.removed) (happened.Expired a) k) [
                  | inl l ↦ expired-here r.expired a l
                  | inr l ↦ absurd (no-expiry happened.Removed r.removed a (λ x e. removed-not x e) l)
                ])
            | inr k ↦ absurd (no-expiry happened.Entered r.entered a (λ x e. entered-not x e) k)
          ])
      | inr j ↦ absurd (no-expiry happened.Fell r.fell a (λ x e. fell-not x e) j)
    ]
  where
    removed-not : (x : ℕ) → happened.Removed x ≡ happened.Expired a → ⊥
    removed-not x e = cc

    entered-not : (x : ℕ) → happened.Entered x ≡ happened.Expired a → ⊥
    entered-not x e = cc

    fell-not : (x : AccBody) → happened.Fell x ≡ happened.Expired a → ⊥
    fell-not x e = cc

told-expired : (moment : ℕ) (r : Report) (e : journal.Event) (a : AccBody) → In (told_of moment r) e → e.what ≡ happened.Expired a → In r.expired a
told-expired moment r e a i is =
    let x = In-from_map (λ what. let made : journal.Event = record { moment = moment; what = what } in made) (whats_of r) e i in
    expired-among r a (subst (In (whats_of r)) (ap (λ (y : journal.Event). y.what) x.1.1 ∙ is) x.1.0)

-- The accusation expires at a place of the life, which has this moment behind it.
record ExpiresIn (g : Group) (st : State) (events : List Event) (a : AccBody) (moment : ℕ) : Type 0 where
  place : ℕ
  within : place < length events
  expires : ExpiresAt g st events place a
  behind : (state_at g st events (place + 1)).moment ≡ moment

expires-later : (g : Group) (st : State) (e : Event) (events : List Event) (a : AccBody) (moment : ℕ) → ExpiresIn g (step g st e).state events a moment → ExpiresIn g st (e ∷ events) a moment
expires-later g st e events a moment h =
    let same : suc h.place + 1 ≡ suc (h.place + 1) = omega arith in
    record {
      place = suc h.place;
      within = omega (arith, h.within);
      expires = record { report = h.expires.report; reported = h.expires.reported; expired = h.expires.expired };
      behind = rw same h.behind;
    }

expires-in : (g : Group) (st : State) (events : List Event) (e : journal.Event) (a : AccBody) → In (told_by g st events) e → e.what ≡ happened.Expired a → ExpiresIn g st events a e.moment
expires-in g st [] e a i is = absurd i
expires-in g st (x ∷ events) e a i is =
    let made : Stepped = step g st x in
    elim (In-append_cases (told_of made.state.moment made.report) (told_by g made.state events) e i) [
      | inl here ↦
          record {
            place = zero;
            within = omega arith;
            expires = record { report = made.report; reported = refl; expired = Contains-from_In _ _ (told-expired made.state.moment made.report e a here is) };
            behind = told-moment made.state.moment made.report e here;
          }
      | inr later ↦ expires-later g st x events a e.moment (expires-in g made.state events e a later is)
    ]

pub expiries-lived : ToldExpiriesAreLived
expiries-lived s w told t a reached among is =
    let life = in-told s w told t reached (In-from_Contains _ _ among) (ap is_of_life is) in
    let x : ExpiresIn s.group (opening []) life.0.node.lived a t.event.moment = expires-in s.group (opening []) life.0.node.lived t.event a life.1.1 is in
    record { life = life.0; lived = Contains-from_In _ _ life.1.0; place = x.place; within = x.within; expires = x.expires; moment = x.behind }
