-- What a call reports of the datagrams that it sends, and that their records verify.
use Rattle.std.proofs.Common.{◌≡◌, ℕ, ◌+◌, Bool, List, [], ◌∷◌, ◌++◌, Option, Some, None, inl, inr, refl, sym, subst}
use Rattle.ff_ids.specs.declared.NoteBody.{NoteBody}
use Rattle.records.specs.declared.Body.{Body}
use Rattle.records.specs.declared.Body.TheVariants.{Note}
use Rattle.life_laws.proofs.Lists.{All-at, Contains-from_In, In, In-filter}
use Rattle.trace.proofs.JustifiedLemmas.{in-map}
use Rattle.journal.specs.declared.event.Event as journal
use Rattle.journal.specs.declared.event.What as whats
use Rattle.journal.specs.declared.event.What.TheVariants as told
use Rattle.node_rules.specs.Nodes.{Setting, Node}
use Rattle.node_rules.specs.Calls.{Call}
use Rattle.node_rules.specs.OnDisks.{IsCut, called}
use Rattle.node_rules.specs.Lives.{Input, after_calls, call_of}
use Rattle.node_rules.specs.Sending.{TellsSendings, is_sent, sendings}
use Rattle.node_rules.specs.Verdicts.{told_that}
use Rattle.node_rules.proofs.Sendings.{called-sendings}
use Rattle.node_rules.proofs.Stopping.{whole-calls}
use Rattle.turn_rules.specs.Turns.{Act, Calls}
use Rattle.turn_rules.specs.Courses.{node_behind}
use Rattle.node_rules.specs.Claims.{IsOfSound, SendsSound}
use Rattle.turn_rules.specs.Sendings.{Sends}
use Rattle.turn_laws.proofs.OriginLemmas.{node-kept}
use Rattle.turn_laws.proofs.RemovalLemmas.{IsOfNoStart}
use Rattle.turn_laws.proofs.ReplyLemmas.{none-in-report}

abbrev sent_event : ℕ → ℕ → ℕ → List ℕ → journal.Event
sent_event moment place to bytes = record { moment = moment; what = told.Sent place to bytes }

-- ## A call

same-sent : (k m place to : ℕ) (xs bytes : List ℕ) → told.Sent k m xs ≡ told.Sent place to bytes → ◌≡◌ {A = ℕ × List ℕ} (m, xs) (to, bytes)
same-sent k m place to xs bytes e = cc

in-sendings : (k : ℕ) (sent : List (ℕ × List ℕ)) (place to : ℕ) (bytes : List ℕ) → In (sendings k sent) (told.Sent place to bytes) → In sent (to, bytes)
in-sendings k [] place to bytes i = absurd i
in-sendings k ((m, xs) ∷ sent) place to bytes (inl e) = inl (same-sent k m place to xs bytes e)
in-sendings k (d ∷ sent) place to bytes (inr i) = inr (in-sendings (k + 1) sent place to bytes i)

-- what is reported as sent is sent
sent-in : (c : Call) (moment place to : ℕ) (bytes : List ℕ) → TellsSendings c → In c.told (sent_event moment place to bytes) → In c.sent (to, bytes)
sent-in c moment place to bytes tells i =
    let among = In-filter (λ (e : journal.Event). is_sent e.what) c.told (sent_event moment place to bytes) i refl in
    in-sendings 0 c.sent place to bytes
    (subst (λ (ws : List whats.What). In ws (told.Sent place to bytes)) tells (in-map (λ (e : journal.Event). e.what) (told_that is_sent c) (sent_event moment place to bytes) among))

-- ## A course

-- Whatever calls the node answers next, each record that it sends verifies, of which that is claimed.
pub record IsUpright (claimed : ℕ → Body → Bool) (s : Setting) (n : Node) : Type 0 where
  pub sends : (inputs : List Input) (i : Input) (fails_at : Option ℕ) → SendsSound claimed s (called s (after_calls s n inputs) i fails_at)

-- a call keeps this, and so does a course
upright-called : (claimed : ℕ → Body → Bool) (s : Setting) (n : Node) (i : Input) → IsUpright claimed s n → IsUpright claimed s (call_of s n i).node
upright-called claimed s n i h = record { sends = λ inputs next fails_at. h.sends (i ∷ inputs) next fails_at }

upright-behind : (claimed : ℕ → Body → Bool) (s : Setting) (start : Node) (before : List Act) → IsUpright claimed s start → IsUpright claimed s (node_behind s start before)
upright-behind claimed s start before h = node-kept s (IsUpright claimed s) (upright-called claimed s) before start h

-- what such a node sends
upright-sends : (claimed : ℕ → Body → Bool) (s : Setting) (n : Node) (i : Input) (fails_at : Option ℕ) (to : ℕ) (bytes : List ℕ) → IsUpright claimed s n → In (called s n i fails_at).sent (to, bytes) → IsOfSound claimed s (called s n i fails_at).node bytes
upright-sends claimed s n i fails_at to bytes h among =
    All-at (λ (d : ℕ × List ℕ). IsOfSound claimed s (called s n i fails_at).node d.1) (called s n i fails_at).sent (to, bytes) (h.sends [] i fails_at) among

sends-by : (claimed : ℕ → Body → Bool) (s : Setting) (start : Node) (acts before behind : List Act) (i : Input) (fails_at : Option ℕ) (moment place to : ℕ) (bytes : List ℕ) → IsUpright claimed s start → acts ≡ before ++ Calls i ∷ behind
    → In (called s (node_behind s start before) i fails_at).told (sent_event moment place to bytes) → Sends claimed s start acts moment to bytes
sends-by claimed s start acts before behind i fails_at moment place to bytes upright split among =
    let c : Call = called s (node_behind s start before) i fails_at in
    let out = sent-in c moment place to bytes (called-sendings s (node_behind s start before) i fails_at) among in
    record {
      before = before;
      input = i;
      behind = behind;
      calls = split;
      fails_at = fails_at;
      place = place;
      sent = Contains-from_In c.told (sent_event moment place to bytes) among;
      goes_out = Contains-from_In c.sent (to, bytes) out;
      authentic = upright-sends claimed s (node_behind s start before) i fails_at to bytes (upright-behind claimed s start before upright) out;
    }

-- what a call among the acts reports as sent is sent
pub sends : (claimed : ℕ → Body → Bool) (s : Setting) (start : Node) (acts before behind : List Act) (i : Input) (moment place to : ℕ) (bytes : List ℕ) → IsUpright claimed s start → acts ≡ before ++ Calls i ∷ behind
    → In (call_of s (node_behind s start before) i).told (sent_event moment place to bytes) → Sends claimed s start acts moment to bytes
sends claimed s start acts before behind i moment place to bytes upright split among =
    let n = node_behind s start before in
    sends-by claimed s start acts before behind i None moment place to bytes upright split (subst (λ (c : Call). In c.told (sent_event moment place to bytes)) (sym (whole-calls s n i).whole) among)

-- and so is what one sends in which the disk fails
pub cut-sends : (claimed : ℕ → Body → Bool) (s : Setting) (start : Node) (acts before behind : List Act) (i : Input) (c : Call) (moment place to : ℕ) (bytes : List ℕ) → IsUpright claimed s start → acts ≡ before ++ Calls i ∷ behind
    → IsCut s (node_behind s start before) i c → In c.told (sent_event moment place to bytes) → Sends claimed s start acts moment to bytes
cut-sends claimed s start acts before behind i c moment place to bytes upright split cut among =
    sends-by claimed s start acts before behind i (Some cut.put) moment place to bytes upright split (subst (λ (x : Call). In x.told (sent_event moment place to bytes)) cut.is among)

-- ## The start

pub sent-no-start : (moment place to : ℕ) (bytes : List ℕ) → IsOfNoStart (sent_event moment place to bytes)
sent-no-start moment place to bytes = record { no_step = λ g events x stays i. none-in-report _ _ (sent_event moment place to bytes) refl i; unspent = λ k n e. spent-not k n e }
  where
    spent-not : (k : ℕ) (n : NoteBody) → told.Spent k (Note n) ≡ told.Sent place to bytes → ⊥
    spent-not k n e = cc
