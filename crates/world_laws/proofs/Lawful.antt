-- What each life keeps of its notes and certificates, and at which ticks nodes accuse.
use Rattle.std.proofs.Common.{◌≡◌, ◌⊎◌, ℕ, List, [], ◌∷◌, Option, Some, None, inl, inr, ap, sym, subst, take}
use Rattle.std.proofs.lemmas.Bool.{cond_both}
use Rattle.ff_ids.specs.declared.AccBody.{AccBody}
use Rattle.ff_ids.specs.declared.NoteBody.{NoteBody}
use Rattle.ff_ids.specs.declared.Group.{Group}
use Rattle.ff_ids.specs.declared.Fault.{Fault}
use Rattle.ff_ids.specs.Notes.{newest}
use Rattle.ff_ids.specs.Views.{State, is_member}
use Rattle.ff_ids.specs.Faults.{note_fault, accusation_fault}
use Rattle.ff_ids.specs.Steps.{Event, Joins, Notes, Accuses, Ticks, Stepped, joined, unchanged, after_note, after_accusation, unless_fault, step}
use Rattle.ff_ids.specs.Lives.{opening, after, state_at}
use Rattle.life_laws.proofs.Lists.{In, All-from_In, Contains-from_In, In-from_Contains}
use Rattle.life_laws.proofs.NoteLemmas.{newest-fits}
use Rattle.records.specs.declared.Body.TheVariants.{Accusation}
use Rattle.world_rules.specs.Settings.{Setting}
use Rattle.world_rules.specs.Worlds.{World, lives_of}
use Rattle.world_laws.specs.Signing.{SignedAtTick}
use Rattle.world_laws.specs.Laws.{RostersAreKept, OwnAheadNeverComes, NodesAccuseTheSilent}
use Rattle.world_laws.proofs.Signed.{spent-from}
use Rattle.world_laws.proofs.InWorlds.{SignedBy}
use Rattle.world_laws.proofs.Reaching.{reached-holds}

pub rosters : RostersAreKept
rosters s w told who fits reached = All-from_In _ (lives_of w who) (((reached-holds s w told fits reached).hosts who).rosters)

pub never-ahead : OwnAheadNeverComes
never-ahead s w told fits reached = All-from_In _ told (λ t i. ((reached-holds s w told fits reached).right t i).fresh)

-- ---- the notes of a life

-- The notes come of the state before, or of these events.
NotesCome : State → List Event → State → Type 0
NotesCome st events next = (n : NoteBody) → In next.notes n → In st.notes n ⊎ In events (Notes n)

come-unless : (fault : Option Fault) (st : State) (next : Stepped) (events : List Event) → NotesCome st events next.state → NotesCome st events (unless_fault fault st next).state
unfolding NotesCome
come-unless (Some fault) st next events h = λ n i. inl i
come-unless None st next events h = h

come-step : (g : Group) (st : State) (e : Event) → NotesCome st (e ∷ []) (step g st e).state
unfolding NotesCome
come-step g st (Joins number places) = λ n. cond_both (is_member st number) (unchanged st) (unchanged (joined st number places)) (λ x. In x.state.notes n → In st.notes n ⊎ In (Joins number places ∷ []) (Notes n)) (λ yes i. inl i) (λ no i. inl i)
come-step g st (Notes note) = come-unless (note_fault g.t st note) st (after_note st note) (Notes note ∷ []) (λ n i. elim i [ inl is ↦ inr (inl (ap (λ x. Notes x) is)) | inr old ↦ inl old ])
come-step g st (Accuses a) = come-unless (accusation_fault g.t st a) st (unchanged (after_accusation st a)) (Accuses a ∷ []) (λ n i. inl i)
come-step g st Ticks = λ n i. inl i

come-after : (g : Group) (st : State) (events : List Event) → NotesCome st events (after g st events)
unfolding NotesCome
come-after g st [] = λ n i. inl i
come-after g st (e ∷ events) = λ n i.
    elim (come-after g (step g st e).state events n i) [
      | inl earlier ↦
          (elim (come-step g st e n earlier) [
            | inl old ↦ inl old
            | inr (inl is) ↦ inr (inl is)
            | inr (inr none) ↦ absurd none
          ])
      | inr later ↦ inr (inr later)
    ]

-- The newest note of a member at a place of a life has come into it before, and is the member's.
pub newest-came : (g : Group) (events : List Event) (place m : ℕ) (note : NoteBody) → newest (state_at g (opening []) events place).notes m ≡ Some note → In (take place events) (Notes note) × (note.member ≡ m)
unfolding NotesCome
newest-came g events place m note e =
    let fits = newest-fits (state_at g (opening []) events place).notes m note e in
    (elim (come-after g (opening []) (take place events) note fits.0) [ inl none ↦ absurd none | inr i ↦ i ], fits.1)

-- ---- accusations

at-tick : (s : Setting) (w : World) (m index : ℕ) (a : AccBody) → SignedBy s (lives_of w m) m index a → SignedAtTick s w index a
at-tick s w m index a h =
    let x : SignedBy s (lives_of w a.accuser) a.accuser index a = subst (λ z. SignedBy s (lives_of w z) z index a) (sym h.own) h in
    record { life = x.life; lived = Contains-from_In _ _ x.lived; place = x.place; signs = x.signs; stays = x.stays }

pub accuse-silent : NodesAccuseTheSilent
accuse-silent s w told m index a fits reached is spent =
    let h = (reached-holds s w told fits reached).accusations m index a is (spent-from w (Some m) index (Accusation a) (In-from_Contains _ _ spent)) in
    (h.own, at-tick s w m index a h)
