-- What a call of a node in a world comes to: its roster stays, its own note is the store's, what it accepts of nodes was
-- signed by them, and what it signs is reported.
use Rattle.std.proofs.Common.{◌≡◌, ◌⊎◌, ℕ, ◌+◌, true, false, List, [], ◌∷◌, ◌++◌, Option, Some, None, inl, inr, refl, ap, sym, ◌∙◌, subst, map, arith}
use Rattle.std.specs.Prelude.{fold}
use Rattle.ff_ids.specs.declared.Fault.{Fault}
use Rattle.ff_ids.specs.Steps.{Event, Joins, Notes, Accuses, Ticks as Passes, Report, step}
use Rattle.life_laws.proofs.Lists.{In, In-append_left, In-append_right, In-append_cases, In-from_map}
use Rattle.records.specs.declared.CertBody.{CertBody}
use Rattle.records.specs.declared.Body.{Body}
use Rattle.records.specs.declared.Body.TheVariants.{Certificate, Note, Accusation}
use Rattle.records.specs.declared.Record.{Record}
use Rattle.epoch_store.specs.declared.Stored.{Stored}
use Rattle.signer.specs.Signing.{stored_after}
use Rattle.datagram.specs.declared.Datagram.{Datagram}
use Rattle.detector.specs.Silence.{History}
use Rattle.journal.specs.declared.event.Event as journal
use Rattle.journal.specs.declared.event.What as whats
use Rattle.journal.specs.declared.event.What.TheVariants as told
use Rattle.node_rules.specs.Nodes as node
use Rattle.node_rules.specs.Nodes.{Node, state_of, event_of, certificate_of}
use Rattle.node_rules.specs.Refusals.{refusal}
use Rattle.node_rules.specs.Calls.{Call, begun, tells, lives, takes, spends, signs, stops, sends, own_record, told_of, whats_of}
use Rattle.node_rules.specs.Deliveries.{answer_to, returning_note}
use Rattle.node_rules.specs.Starting.{blank, opened, first_note, started}
use Rattle.node_rules.specs.Leaving.{leaving}
use Rattle.node_rules.specs.Lives.{Input, Delivers, Ticks, Leaves, AreCertificates, KeepsOwnNote, is_of_life}
use Rattle.node_rules.proofs.Small.{stored-takes}
use Rattle.node_rules.proofs.Keeping.{Keeps}
use Rattle.node_rules.proofs.OwnNote.{keeping}
use Rattle.world_rules.specs.Settings.{Setting, Signed, is_node, certificates, setting_of}
use Rattle.world_rules.specs.Disks.{Disk}
use Rattle.world_rules.specs.Calls.{called_on}
use Rattle.world_rules.specs.Worlds.{World}
use Rattle.world_rules.specs.Steps.{first_call}
use Rattle.world_rules.specs.Laws.{IsSetting}
use Rattle.world_rules.proofs.CallSteps.{MayFollow}
use Rattle.world_rules.proofs.LineSteps.{IsFree}
use Rattle.world_laws.specs.Signing.{KeepsRoster}
use Rattle.world_laws.specs.Laws.{is_own_ahead}
use Rattle.world_laws.proofs.Handing.{Hands, IsHanded, hands-called, is_plain, joined}
use Rattle.world_laws.proofs.Rosters.{certificate-lives, certificate-takes, certificate-signs, kit-all}
use Rattle.world_laws.proofs.Signed.{IsGenuine, OnlyCertifies, SignedIn, genuine}
use Rattle.world_laws.proofs.Rightly.{HasNotesWithin, Knows, ahead-told, none-ahead, accepted-note, accepted-accusation, certificate-refused}

-- ---- what was signed before a call, or in it

-- An index was spent on the body, as these events report.
pub record IsSpentOn (events : List journal.Event) (body : Body) : Type 0 where
  pub moment : ℕ
  pub index : ℕ
  pub among : In events (record { moment = moment; what = told.Spent index body })

-- The member signed the body before the call, or it is the one that is called, and signed it in the call.
abbrev pub IsSignedBy : ℕ → List Signed → List journal.Event → ℕ → Body → Type 0
IsSignedBy m signed events who body = SignedIn signed (Some who) body ⊎ ((who ≡ m) × IsSpentOn events body)

-- What comes into a life of a node's was signed by it.
abbrev pub ComesSigned : Setting → ℕ → List Signed → List journal.Event → Event → Type 0
ComesSigned s m signed events (Notes note) = is_node s note.member ≡ true → IsSignedBy m signed events note.member (Note note)
ComesSigned s m signed events (Accuses a) = is_node s a.accuser ≡ true → IsSignedBy m signed events a.accuser (Accusation a)
ComesSigned s m signed events event = Unit {0}

abbrev pub AcceptsSigned : Setting → List Signed → whats.What → Type 0
AcceptsSigned s signed (told.Took (Accusation a) None) = is_node s a.accuser ≡ true → SignedIn signed (Some a.accuser) (Accusation a)
AcceptsSigned s signed (told.Took (Note n) None) = is_node s n.member ≡ true → SignedIn signed (Some n.member) (Note n)
AcceptsSigned s signed what = Unit {0}

-- What is reported of a record is right.
pub record IsRight (s : Setting) (signed : List Signed) (what : whats.What) : Type 0 where
  pub fresh : is_own_ahead what ≡ false
  pub accepts : AcceptsSigned s signed what

pub record InCall (s : Setting) (w : World) (m : ℕ) (c : Call) : Type 0 where
  pub within : HasNotesWithin m w.signed c.node.stored
  pub lived : (e : Event) → In c.node.lived e → ComesSigned s m w.signed c.told e
  pub told : (e : journal.Event) → In c.told e → IsRight s w.signed e.what

-- ---- more is reported

more-by : (m : ℕ) (signed : List Signed) (events more : List journal.Event) (who : ℕ) (body : Body) → IsSignedBy m signed events who body → IsSignedBy m signed (events ++ more) who body
more-by m signed events more who body (inl before) = inl before
more-by m signed events more who body (inr now) =
    inr (now.0, record { moment = now.1.moment; index = now.1.index; among = In-append_left events more _ now.1.among })

more-signed : (s : Setting) (m : ℕ) (signed : List Signed) (events more : List journal.Event) (e : Event) → ComesSigned s m signed events e → ComesSigned s m signed (events ++ more) e
more-signed s m signed events more (Notes note) h = λ is. more-by m signed events more note.member (Note note) (h is)
more-signed s m signed events more (Accuses a) h = λ is. more-by m signed events more a.accuser (Accusation a) (h is)
more-signed s m signed events more (Joins number places) h = tt
more-signed s m signed events more Passes h = tt

-- What a small step adds to the life and to what is reported.
stepped : (s : Setting) (w : World) (m : ℕ) (c d : Call) (es : List Event) (news : List journal.Event) → d.node.lived ≡ c.node.lived ++ es → d.told ≡ c.told ++ news → HasNotesWithin m w.signed d.node.stored
    → ((e : Event) → In es e → ComesSigned s m w.signed (c.told ++ news) e) → ((e : journal.Event) → In news e → IsRight s w.signed e.what) → InCall s w m c → InCall s w m d
stepped s w m c d es news lived told within signed right h =
    record {
      within = within;
      lived = λ e i. subst (λ x. ComesSigned s m w.signed x e) (sym told)
          (elim (In-append_cases c.node.lived es e (subst (λ x. In x e) lived i)) [
            | inl old ↦ more-signed s m w.signed c.told news e (h.lived e old)
            | inr new ↦ signed e new
          ]);
      told = λ e i. elim (In-append_cases c.told news e (subst (λ x. In x e) told i)) [
        | inl old ↦ h.told e old
        | inr new ↦ right e new
      ];
    }

nil-right : {A : Type 0} (xs : List A) → xs ++ [] ≡ xs
nil-right [] = refl
nil-right (x ∷ xs) = ap (λ ys. x ∷ ys) (nil-right xs)

one-right : (s : Setting) (signed : List Signed) (moment : ℕ) (what : whats.What) → IsRight s signed what → (e : journal.Event) → In (record { moment = moment; what = what } ∷ []) e → IsRight s signed e.what
one-right s signed moment what right e (inl is) = subst (λ (x : journal.Event). IsRight s signed x.what) is right
one-right s signed moment what right e (inr none) = absurd none

call-tells : (s : Setting) (w : World) (m : ℕ) (what : whats.What) (c : Call) → IsRight s w.signed what → InCall s w m c → InCall s w m (tells (setting_of s m) what c)
call-tells s w m what c right h =
    stepped s w m c (tells (setting_of s m) what c) [] (record { moment = (state_of (setting_of s m) c.node).moment; what = what } ∷ []) (sym (nil-right c.node.lived)) refl h.within (λ e none. absurd none) (one-right s w.signed _ what right) h

plain-right : (s : Setting) (signed : List Signed) (what : whats.What) → is_plain what ≡ true → IsRight s signed what
plain-right s signed (told.Took body fault) plain = cc
plain-right s signed what plain = record { fresh = refl; accepts = tt }

-- ---- the life

right-of_life : (s : Setting) (signed : List Signed) (what : whats.What) → is_of_life what ≡ true → IsRight s signed what
right-of_life s signed (told.Took body fault) it = cc
right-of_life s signed what it = record { fresh = refl; accepts = tt }

mapped-of_life : {X : Type 0} (f : X → whats.What) (xs : List X) (what : whats.What) → ((x : X) → is_of_life (f x) ≡ true) → In (map f xs) what → is_of_life what ≡ true
mapped-of_life f xs what all i = let r = In-from_map f xs what i in sym (ap is_of_life r.1.1) ∙ all r.0

report-of_life : (r : Report) (what : whats.What) → In (whats_of r) what → is_of_life what ≡ true
report-of_life r what i =
    elim (In-append_cases (map told.Expired r.expired ++ map told.Removed r.removed ++ map told.Entered r.entered) (map told.Fell r.fell) what i) [
      | inl j ↦
          (elim (In-append_cases (map told.Expired r.expired ++ map told.Removed r.removed) (map told.Entered r.entered) what j) [
            | inl k ↦
                (elim (In-append_cases (map told.Expired r.expired) (map told.Removed r.removed) what k) [
                  | inl l ↦ mapped-of_life told.Expired r.expired what (λ x. refl) l
                  | inr l ↦ mapped-of_life told.Removed r.removed what (λ x. refl) l
                ])
            | inr k ↦ mapped-of_life told.Entered r.entered what (λ x. refl) k
          ])
      | inr j ↦ mapped-of_life told.Fell r.fell what (λ x. refl) j
    ]

report-right : (s : Setting) (signed : List Signed) (moment : ℕ) (r : Report) (e : journal.Event) → In (told_of moment r) e → IsRight s signed e.what
report-right s signed moment r e i =
    let x = In-from_map (λ what. let made : journal.Event = record { moment = moment; what = what } in made) (whats_of r) e i in
    subst (λ (y : journal.Event). IsRight s signed y.what) x.1.1 (right-of_life s signed x.0 (report-of_life r x.0 x.1.0))

call-passes : (s : Setting) (w : World) (m : ℕ) (c : Call) → InCall s w m c → InCall s w m (lives (setting_of s m) Passes c)
unfolding lives
call-passes s w m c h =
    let own : node.Setting = setting_of s m in
    let made = step s.group (state_of own c.node) Passes in
    stepped s w m c (lives own Passes c) (Passes ∷ []) (told_of made.state.moment made.report) refl refl h.within
    (λ e i. elim i [ inl is ↦ subst (ComesSigned s m w.signed (c.told ++ told_of made.state.moment made.report)) is tt | inr none ↦ absurd none ])
    (report-right s w.signed made.state.moment made.report) h

call-takes : (s : Setting) (w : World) (m : ℕ) (r : Record) (c : Call) → ComesSigned s m w.signed c.told (event_of (setting_of s m) r.body) → InCall s w m c → InCall s w m (takes (setting_of s m) r c)
unfolding takes lives
call-takes s w m r c signed h =
    let own : node.Setting = setting_of s m in
    let made = step s.group (state_of own c.node) (event_of own r.body) in
    let news : List journal.Event = told_of made.state.moment made.report in
    stepped s w m c (takes own r c) (event_of own r.body ∷ []) news refl refl h.within
    (λ e i. elim i [ inl is ↦ subst (ComesSigned s m w.signed (c.told ++ news)) is (more-signed s m w.signed c.told news (event_of own r.body) signed) | inr none ↦ absurd none ])
    (report-right s w.signed made.state.moment made.report) h

-- ---- signatures

-- What a node signs: its own note, or an accusation of its own.
abbrev pub IsOwnBody : ℕ → Body → Type 0
IsOwnBody m (Certificate c) = ⊥
IsOwnBody m (Note note) = note.member ≡ m
IsOwnBody m (Accusation a) = a.accuser ≡ m

within-after : (m : ℕ) (signed : List Signed) (kept : Stored) (body : Body) → MayFollow kept body → HasNotesWithin m signed kept → HasNotesWithin m signed (stored_after kept body)
within-after m signed kept (Certificate c) may h = λ index note i. h index note i
within-after m signed kept (Accusation a) may h = λ index note i. h index note i
within-after m signed kept (Note n) may h = λ index note i. inl (elim (h index note i) [ inl less ↦ omega (arith, less, may) | inr same ↦ omega (arith, same.0, may) ])

own-signed : (s : Setting) (w : World) (m : ℕ) (b : Body) (events : List journal.Event) → IsOwnBody m b → IsSpentOn events b → ComesSigned s m w.signed events (event_of (setting_of s m) b)
own-signed s w m (Certificate c) events mine spent = tt
own-signed s w m (Note note) events mine spent = λ is. inr (mine, spent)
own-signed s w m (Accusation a) events mine spent = λ is. inr (mine, spent)

own-is_none : (m : ℕ) (b : Body) (x : CertBody) → IsOwnBody m b → b ≡ Certificate x → ⊥
own-is_none m (Certificate c) x mine e = mine
own-is_none m (Note note) x mine e = cc
own-is_none m (Accusation a) x mine e = cc

last-in : {X : Type 0} (xs : List X) (x : X) → In (xs ++ x ∷ []) x
last-in xs x = In-append_right xs (x ∷ []) x (inl refl)

call-spends : (s : Setting) (w : World) (m : ℕ) (b : Body) (c : Call) → MayFollow c.node.stored b → InCall s w m c → InCall s w m (spends (setting_of s m) b c)
call-spends s w m b c may h =
    let own : node.Setting = setting_of s m in
    let e : journal.Event = record { moment = (state_of own c.node).moment; what = told.Spent c.node.stored.next b } in
    stepped s w m c (spends own b c) [] (e ∷ []) (sym (nil-right c.node.lived)) refl (within-after m w.signed c.node.stored b may h.within) (λ x none. absurd none)
    (one-right s w.signed _ (told.Spent c.node.stored.next b) (record { fresh = refl; accepts = tt })) h

call-signs : (s : Setting) (w : World) (m : ℕ) (b : Body) (c : Call) → IsOwnBody m b → MayFollow c.node.stored b → InCall s w m c → InCall s w m (signs (setting_of s m) b c)
unfolding signs
call-signs s w m b c mine may h =
    let own : node.Setting = setting_of s m in
    let c1 : Call = spends own b c in
    let spent : IsSpentOn c1.told b = record { moment = (state_of own c.node).moment; index = c.node.stored.next; among = last-in c.told _ } in
    call-takes s w m (own_record own c.node b) c1 (own-signed s w m b c1.told mine spent) (call-spends s w m b c may h)

-- ---- the other steps

call-sends : (s : Setting) (w : World) (m : ℕ) (d : Datagram) (c : Call) (to : ℕ) → InCall s w m c → InCall s w m (sends (setting_of s m) d c to)
unfolding sends
call-sends s w m d c to h =
    let x = call-tells s w m (told.Sent _ to _) c (record { fresh = refl; accepts = tt }) h in
    record { within = x.within; lived = x.lived; told = x.told }

call-stops : (s : Setting) (w : World) (m : ℕ) (c : Call) → InCall s w m c → InCall s w m (stops (setting_of s m) c)
call-stops s w m c h =
    let x = call-tells s w m told.Stopped c (record { fresh = refl; accepts = tt }) h in
    record { within = x.within; lived = x.lived; told = x.told }

call-probed : (s : Setting) (w : World) (m : ℕ) (p : History) (c : Call) → InCall s w m c → InCall s w m (record c { node = record c.node { probes = p } })
call-probed s w m p c h = record { within = h.within; lived = h.lived; told = h.told }

call-spanned : (s : Setting) (w : World) (m : ℕ) (c : Call) → InCall s w m c → InCall s w m (record c { node = record c.node { since = c.node.stored.epoch } })
call-spanned s w m c h = record { within = h.within; lived = h.lived; told = h.told }

call-spread : (s : Setting) (w : World) (m : ℕ) (c : Call) → InCall s w m c → InCall s w m (record c { node = record c.node { news = [] } })
call-spread s w m c h = record { within = h.within; lived = h.lived; told = h.told }

-- ---- records

-- The node keeps its roster, and its own newest note is the one that its store keeps.
pub record GoesOn (s : Setting) (w : World) (m : ℕ) (c : Call) : Type 0 where
  pub roster : KeepsRoster s c.node
  pub own : KeepsOwnNote (setting_of s m) c.node
  pub so_far : InCall s w m c

pub record IsOfWorld (s : Setting) (w : World) (m : ℕ) : Type 0 where
  pub fits : IsSetting s
  pub is : is_node s m ≡ true
  pub only : OnlyCertifies s w.signed

pub knows : (s : Setting) (w : World) (m : ℕ) (c : Call) → IsOfWorld s w m → GoesOn s w m c → Knows s w m c.node
knows s w m c of h = record { fits = of.fits; is = of.is; only = of.only; roster = h.roster; own = h.own; within = h.so_far.within }

accepts-told : (s : Setting) (w : World) (m : ℕ) (n : Node) (r : Record) (b : Body) (fault : Option Fault) → Knows s w m n → IsGenuine s w r → r.body ≡ b → refusal (setting_of s m) n r ≡ fault → AcceptsSigned s w.signed (told.Took b fault)
accepts-told s w m n r (Certificate c) fault k free is e = tt
accepts-told s w m n r (Note note) None k free is e = λ by. accepted-note s w m n r note k free e is by
accepts-told s w m n r (Note note) (Some fault) k free is e = tt
accepts-told s w m n r (Accusation a) None k free is e = λ by. accepted-accusation s w m n r a k free e is by
accepts-told s w m n r (Accusation a) (Some fault) k free is e = tt

comes-signed : (s : Setting) (w : World) (m : ℕ) (n : Node) (r : Record) (b : Body) (events : List journal.Event) → Knows s w m n → IsGenuine s w r → refusal (setting_of s m) n r ≡ None → r.body ≡ b → ComesSigned s m w.signed events (event_of (setting_of s m) b)
comes-signed s w m n r (Certificate c) events k free fine is = tt
comes-signed s w m n r (Note note) events k free fine is = λ by. inl (accepted-note s w m n r note k free fine is by)
comes-signed s w m n r (Accusation a) events k free fine is = λ by. inl (accepted-accusation s w m n r a k free fine is by)

taken : (s : Setting) (w : World) (m : ℕ) (r : Record) (c : Call) → IsOfWorld s w m → IsGenuine s w r → refusal (setting_of s m) c.node r ≡ None → GoesOn s w m c → InCall s w m (takes (setting_of s m) r c)
taken s w m r c of free fine h = call-takes s w m r c (comes-signed s w m c.node r r.body c.told (knows s w m c of h) free fine refl) h.so_far

-- ---- the roster

roster-takes : (s : Setting) (w : World) (m : ℕ) (r : Record) (c : Call) → IsOfWorld s w m → IsGenuine s w r → refusal (setting_of s m) c.node r ≡ None → GoesOn s w m c → KeepsRoster s (takes (setting_of s m) r c).node
roster-takes s w m r c of free fine h = λ k. certificate-takes (setting_of s m) r c k (λ x is who. certificate-refused s w m c.node r x (knows s w m c of h) free fine is) ∙ h.roster k

roster-signs : (s : Setting) (m : ℕ) (b : Body) (c : Call) → IsOwnBody m b → KeepsRoster s c.node → KeepsRoster s (signs (setting_of s m) b c).node
roster-signs s m b c mine h = λ k. certificate-signs (setting_of s m) b c k (λ x is. own-is_none m b x mine is) ∙ h k

roster-sends : (s : Setting) (own : node.Setting) (d : Datagram) (c : Call) (to : ℕ) → KeepsRoster s c.node → KeepsRoster s (sends own d c to).node
unfolding sends
roster-sends s own d c to h = h

roster-probed : (s : Setting) (n : Node) (p : History) → KeepsRoster s n → KeepsRoster s (record n { probes = p })
unfolding certificate_of
roster-probed s n p h = h

roster-spanned : (s : Setting) (n : Node) → KeepsRoster s n → KeepsRoster s (record n { since = n.stored.epoch })
unfolding certificate_of
roster-spanned s n h = h

roster-spread : (s : Setting) (n : Node) → KeepsRoster s n → KeepsRoster s (record n { news = [] })
unfolding certificate_of
roster-spread s n h = h

pub going-on : (s : Setting) (w : World) (m : ℕ) → IsOfWorld s w m → Hands (setting_of s m) (IsGenuine s w) (GoesOn s w m)
going-on s w m of =
    let own : node.Setting = setting_of s m in
    let keep : Keeps own (λ c. KeepsOwnNote own c.node) = keeping own of.fits.some in
    joined (setting_of s m) (IsGenuine s w) (GoesOn s w m) (record {
      told = λ what c plain h. record { roster = h.roster; own = h.own; so_far = call-tells s w m what c (plain-right s w.signed what plain) h.so_far };
      judged = λ r c free h.
          let fault : Option Fault = refusal own c.node r in
          let k = knows s w m c of h in
          record {
            roster = h.roster;
            own = h.own;
            so_far = call-tells s w m (told.Took r.body fault) c
                (record { fresh = ahead-told r.body fault ∙ none-ahead s w m c.node r k free; accepts = accepts-told s w m c.node r r.body fault k free refl refl }) h.so_far;
          };
      sent = λ d c to h. record { roster = roster-sends s own d c to h.roster; own = keep.sent d c to h.own; so_far = call-sends s w m d c to h.so_far };
      taken = λ r c free fine h. record { roster = roster-takes s w m r c of free fine h; own = keep.taken r c fine h.own; so_far = taken s w m r c of free fine h };
      answered = λ r a c free fine is me may left h.
          let c1 : Call = takes own r c in
          record {
            roster = roster-signs s m (answer_to own c1.node.stored a) c1 refl (roster-takes s w m r c of free fine h);
            own = keep.answered r a c fine is me may left h.own;
            so_far = call-signs s w m (answer_to own c1.node.stored a) c1 refl refl (taken s w m r c of free fine h);
          };
      returned = λ r a c free asks may left h.
          let body : Body = Note (returning_note own c.node.stored) in
          record { roster = roster-signs s m body c refl h.roster; own = keep.returned r a c asks may left h.own; so_far = call-signs s w m body c refl refl h.so_far };
      accused = λ a c by left h. record { roster = roster-signs s m (Accusation a) c by h.roster; own = keep.accused a c by left h.own; so_far = call-signs s w m (Accusation a) c by tt h.so_far };
      departed = λ c left h. record { roster = roster-signs s m (leaving own c.node.stored) c refl h.roster; own = keep.departed c left h.own; so_far = call-signs s w m (leaving own c.node.stored) c refl refl h.so_far };
      stopped = λ c h. record { roster = h.roster; own = h.own; so_far = call-stops s w m c h.so_far };
      passed = λ c h. record { roster = λ k. certificate-lives own Passes c k ∙ h.roster k; own = keep.passed c h.own; so_far = call-passes s w m c h.so_far };
      probed = λ p c h. record { roster = roster-probed s c.node p h.roster; own = keep.probed p c h.own; so_far = call-probed s w m p c h.so_far };
      spanned = λ c h. record { roster = roster-spanned s c.node h.roster; own = keep.spanned c h.own; so_far = call-spanned s w m c h.so_far };
      spread = λ c h. record { roster = roster-spread s c.node h.roster; own = keep.spread c h.own; so_far = call-spread s w m c h.so_far };
    })

-- ---- a call

-- A life of a node, as a call of it begins.
pub record InLife (s : Setting) (w : World) (m : ℕ) (n : Node) : Type 0 where
  pub roster : KeepsRoster s n
  pub own : KeepsOwnNote (setting_of s m) n
  pub within : HasNotesWithin m w.signed n.stored
  pub lived : (e : Event) → In n.lived e → ComesSigned s m w.signed [] e

pub handed : (s : Setting) (w : World) (i : Input) → IsFree s w i → IsHanded (IsGenuine s w) i
handed s w (Delivers bytes) free = genuine s w bytes free
handed s w Ticks free = tt
handed s w Leaves free = tt

pub called-goes_on : (s : Setting) (w : World) (m : ℕ) (n : Node) (i : Input) (d : Disk) → IsOfWorld s w m → IsFree s w i → InLife s w m n → GoesOn s w m (called_on (setting_of s m) n i d).call
called-goes_on s w m n i d of free h =
    hands-called (setting_of s m) (IsGenuine s w) (GoesOn s w m) (going-on s w m of) n i d (handed s w i free)
    (record { roster = h.roster; own = h.own; so_far = record { within = h.within; lived = h.lived; told = λ e none. absurd none } })

-- ---- the start

takes_kit : (s : Setting) (w : World) (m : ℕ) (records : List Record) (c : Call) → AreCertificates records → InCall s w m c → InCall s w m (fold (λ c r. takes (setting_of s m) r c) c records)
takes_kit s w m [] c all h = h
takes_kit s w m (r ∷ records) c all h =
    takes_kit s w m records (takes (setting_of s m) r c) all.1 (call-takes s w m r c (subst (λ b. ComesSigned s m w.signed c.told (event_of (setting_of s m) b)) (sym all.0.1) tt) h)

stored-kit : (own : node.Setting) (records : List Record) (c : Call) → (fold (λ c r. takes own r c) c records).node.stored ≡ c.node.stored
stored-kit own [] c = refl
stored-kit own (r ∷ records) c = stored-kit own records (takes own r c) ∙ stored-takes own r c

pub started-in_call : (s : Setting) (w : World) (m : ℕ) (kept : Stored) → HasNotesWithin m w.signed kept → InCall s w m (first_call s m kept)
unfolding started
started-in_call s w m kept within =
    let own : node.Setting = setting_of s m in
    let c : Call = begun (blank own (s.nonces m kept.next) kept) in
    let opened_so : InCall s w m (opened own (s.nonces m kept.next) (certificates s) kept) = takes_kit s w m (certificates s) c (kit-all s) (record { within = within; lived = λ e none. absurd none; told = λ e none. absurd none }) in
    call-signs s w m (first_note own kept) (opened own (s.nonces m kept.next) (certificates s) kept) refl (sym (ap (λ (k : Stored). k.epoch + 1) (stored-kit own (certificates s) c))) opened_so
