-- What each call keeps that each of its steps keeps, whatever is reported.
use Rattle.std.proofs.Common.{◌≡◌, ℕ, Bool, true, false, eqb, List, [], None, refl}
use Rattle.std.proofs.lemmas.Bool.{false≢true}
use Rattle.ff_ids.specs.declared.AccBody.{AccBody}
use Rattle.ff_ids.specs.Views.{State}
use Rattle.ff_ids.specs.Steps.{Ticks}
use Rattle.records.specs.declared.Body.{Body}
use Rattle.records.specs.declared.Body.TheVariants.{Note, Accusation}
use Rattle.records.specs.declared.Record.{Record}
use Rattle.datagram.specs.declared.Datagram.{Datagram}
use Rattle.detector.specs.Silence.{History}
use Rattle.journal.specs.declared.event.What as whats
use Rattle.journal.specs.declared.event.What.TheVariants as told
use Rattle.node_rules.specs.Nodes.{Setting, Node}
use Rattle.node_rules.specs.Refusals.{refusal}
use Rattle.node_rules.specs.Calls.{Call, begun, tells, lives, takes, signs, wants, stops, sends, sends_to_all, is_used_up}
use Rattle.node_rules.specs.Deliveries.{answer_to, returning_note, may_rise, handles, handles_all, delivered}
use Rattle.node_rules.specs.Ticking.{accuses, accuses_all, probed_at, spread_at, ticked}
use Rattle.node_rules.specs.Leaving.{leaving}
use Rattle.node_rules.specs.Lives.{is_of_life, Input, call_of}
use Rattle.node_rules.specs.Verdicts.{is_apart}
use Rattle.node_rules.proofs.Called.{delivered_until, ticked_until, left_until}
use Rattle.node_rules.proofs.Carrying.{AsksBack, Carries, beside-apart, carries-sends_to_all, carries-wants, carries-handles, carries-handles_all, carries-delivered, carries-delivered_until, carries-accuses, carries-accuses_all, carries-probed_at, carries-spread_at, carries-ticked, carries-ticked_until, carries-left_until, carries-call}

-- Each step of a call keeps it.
pub record Keeps (s : Setting) (P : Call → Type 0) : Type 0 where
  pub told : (what : whats.What) (c : Call) → is_of_life what ≡ false → P c → P (tells s what c)
  pub sent : (d : Datagram) (c : Call) (to : ℕ) → P c → P (sends s d c to)
  pub taken : (r : Record) (c : Call) → refusal s c.node r ≡ None → P c → P (takes s r c)
  pub answered : (r : Record) (a : AccBody) (c : Call) → refusal s c.node r ≡ None → r.body ≡ Accusation a → eqb a.accused s.me ≡ true → may_rise s.heal c.node ≡ true → is_used_up s (takes s r c).node ≡ false → P c → P (signs s (answer_to s (takes s r c).node.stored a) (takes s r c))
  pub returned : (r : Record) (a : AccBody) (c : Call) → AsksBack s c.node r a → may_rise s.heal c.node ≡ true → is_used_up s c.node ≡ false → P c → P (signs s (Note (returning_note s c.node.stored)) c)
  pub accused : (a : AccBody) (c : Call) → a.accuser ≡ s.me → is_used_up s c.node ≡ false → P c → P (signs s (Accusation a) c)
  pub departed : (c : Call) → is_used_up s c.node ≡ false → P c → P (signs s (leaving s c.node.stored) c)
  pub stopped : (c : Call) → P c → P (stops s c)
  pub passed : (c : Call) → P c → P (lives s Ticks c)
  pub probed : (h : History) (c : Call) → P c → P (record c { node = record c.node { probes = h } })
  pub spanned : (c : Call) → P c → P (record c { node = record c.node { since = c.node.stored.epoch } })
  pub spread : (c : Call) → P c → P (record c { node = record c.node { news = [] } })

-- what is told apart from the life is not of it
apart-other : (what : whats.What) → is_apart what ≡ true → is_of_life what ≡ false
apart-other (told.Entered m) h = absurd (false≢true h)
apart-other (told.Expired a) h = absurd (false≢true h)
apart-other (told.Removed m) h = absurd (false≢true h)
apart-other (told.Fell a) h = absurd (false≢true h)
apart-other other h = refl

carries : (s : Setting) (P : Call → Type 0) → Keeps s P → Carries s P
carries s P k =
    record {
      told = λ what c beside h. k.told what c (apart-other what (beside-apart what beside)) h;
      sent = k.sent;
      taken = k.taken;
      answered = k.answered;
      returned = k.returned;
      accused = k.accused;
      departed = k.departed;
      stopped = k.stopped;
      passed = k.passed;
      probed = k.probed;
      spanned = k.spanned;
      spread = k.spread;
    }

pub keeps-sends_to_all : (s : Setting) (P : Call → Type 0) → Keeps s P → (addressees : List ℕ) (d : Datagram) (c : Call) → P c → P (sends_to_all s addressees d c)
keeps-sends_to_all s P k addressees d c h = carries-sends_to_all s P (carries s P k) addressees d c h

pub keeps-wants : (s : Setting) (P : Call → Type 0) → Keeps s P → (works : Bool) (body : Body) (addressees : State → List ℕ) (c : Call) → P c → (is_used_up s c.node ≡ false → P (signs s body c)) → P (wants works s body addressees c)
keeps-wants s P k works body addressees c h signed = carries-wants s P (carries s P k) works body addressees c h signed

pub keeps-handles : (s : Setting) (P : Call → Type 0) → Keeps s P → (works : Bool) (c : Call) (r : Record) → P c → P (handles works s c r)
keeps-handles s P k works c r h = carries-handles s P (carries s P k) works c r h

pub keeps-handles_all : (s : Setting) (P : Call → Type 0) → Keeps s P → (records : List Record) (c : Call) → P c → P (handles_all s records c)
keeps-handles_all s P k records c h = carries-handles_all s P (carries s P k) records c h

pub keeps-delivered : (s : Setting) (P : Call → Type 0) → Keeps s P → (n : Node) (bytes : List ℕ) → P (begun n) → P (delivered s n bytes)
keeps-delivered s P k n bytes h = carries-delivered s P (carries s P k) n bytes h

pub keeps-delivered_until : (s : Setting) (P : Call → Type 0) → Keeps s P → (n : Node) (records : List Record) (r : Record) → P (begun n) → P (delivered_until s n records r)
keeps-delivered_until s P k n records r h = carries-delivered_until s P (carries s P k) n records r h

pub keeps-accuses : (s : Setting) (P : Call → Type 0) → Keeps s P → (works : Bool) (c : Call) (m : ℕ) → P c → P (accuses works s c m)
keeps-accuses s P k works c m h = carries-accuses s P (carries s P k) works c m h

pub keeps-accuses_all : (s : Setting) (P : Call → Type 0) → Keeps s P → (silent : List ℕ) (c : Call) → P c → P (accuses_all s silent c)
keeps-accuses_all s P k silent c h = carries-accuses_all s P (carries s P k) silent c h

pub keeps-probed_at : (s : Setting) (P : Call → Type 0) → Keeps s P → (n : Node) → P (begun n) → P (probed_at s n)
keeps-probed_at s P k n h = carries-probed_at s P (carries s P k) n h

pub keeps-spread_at : (s : Setting) (P : Call → Type 0) → Keeps s P → (n : Node) → P (begun n) → P (spread_at s n)
keeps-spread_at s P k n h = carries-spread_at s P (carries s P k) n h

pub keeps-ticked : (s : Setting) (P : Call → Type 0) → Keeps s P → (n : Node) → P (begun n) → P (ticked s n)
keeps-ticked s P k n h = carries-ticked s P (carries s P k) n h

pub keeps-ticked_until : (s : Setting) (P : Call → Type 0) → Keeps s P → (n : Node) (silent : List ℕ) (m : ℕ) → P (begun n) → P (ticked_until s n silent m)
keeps-ticked_until s P k n silent m h = carries-ticked_until s P (carries s P k) n silent m h

pub keeps-left_until : (s : Setting) (P : Call → Type 0) → Keeps s P → (n : Node) → P (begun n) → P (left_until s n)
keeps-left_until s P k n h = carries-left_until s P (carries s P k) n h

pub keeps-call : (s : Setting) (P : Call → Type 0) → Keeps s P → (n : Node) (i : Input) → P (begun n) → P (call_of s n i)
keeps-call s P k n i h = carries-call s P (carries s P k) n i h
