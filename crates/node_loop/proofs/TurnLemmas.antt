-- How a turn is served, and the turns one after another.
use Rattle.std.proofs.Common.{◌≡◌, ℕ, Bool, true, false, zero, suc, ◌+◌, ◌-◌, ◌<◌, ◌⊎◌, inl, inr, List, [], ◌∷◌, ◌++◌, Option, Some, None, Result, Ok, Err, length, take, drop, length-append, length-drop, length-take, refl, sym, ap, ◌∙◌, subst, append_assoc, append-nil, arith}
use Rattle.std.specs.Prelude.{OnOk}
use Rattle.std.specs.Option.{option_map}
use Rattle.ff_ids.specs.declared.Group.{Group}
use Rattle.ff_ids.specs.Heals.{Heal}
use Rattle.ports.specs.Disk.{Moment}
use Rattle.ports.specs.Link.{LinkState, next_of, received_from}
use Rattle.ports.specs.Clock.{next_reading, ReadsClock}
use Rattle.fields.specs.declared.NoMemory.{NoMemory}
use Rattle.node_core.specs.Playing.{Kept, IsNode, setting_of}
use Rattle.node_core.proofs.SpendLemmas.{lives-same}
use Rattle.ports.specs.declared.link.LinkAnswer.{LinkAnswer}
use Rattle.std.proofs.KnownBytes.{Appends-nil}
use Rattle.node_rules.specs.Nodes.{Setting, Node as RulesNode}
use Rattle.node_rules.specs.Lives.{Ticks, Leaves}
use Rattle.node_loop.specs.declared.fault.ServeFault.{ServeFault}
use Rattle.node_loop.specs.declared.fault.ServeFault.TheVariants as faults
use Rattle.journal.specs.declared.turn.Heard.{Heard}
use Rattle.journal.specs.declared.turn.Heard.TheVariants as heard
use Rattle.journal.specs.declared.turn.Turn.{Turn}
use Rattle.journal.specs.Turns.{turn_text}
use Rattle.node_loop.specs.declared.turns.Pace.{Pace}
use Rattle.turn_rules.specs.Turns.{Act, Receives, Writes, Calls, leaving_acts, delivery_of, ticks_of, turn_acts}
use Rattle.node_loop.specs.Turns.{Outlook, after_turn, life_acts, forgotten_in, heard_of, most_for, pace_for, ticks_forgotten, ticks_in, ticks_owed, turn_in, turns_from}
use Rattle.node_loop.specs.Courses.{ServeState, acted, served, served_from, writes}
use Rattle.turn_rules.specs.Lines.{with_feed}
use Rattle.node_loop.specs.Writing.{Before, Hears, IsWithin, Standing, Stands, Tells, before_all, standing}
use Rattle.node_loop.specs.Serving.{Sees, Serves}
use Rattle.node_loop.proofs.CallLemmas.{served-one}
use Rattle.node_loop.proofs.CourseLemmas.{Grows, coming-turn, front-refl, grows-served, served-append, served-cons, served-nil}
use Rattle.node_loop.proofs.ServeLemmas.{breaks-off, serves-first, serves-last, serves-within}

-- ---- ticks

pub ticks-more : (done left : ℕ) → ticks_of done ++ ticks_of left ≡ ticks_of (done + left)
ticks-more zero left = let e : left ≡ 0 + left = omega arith in ap ticks_of e
ticks-more (suc done) left =
    let e : suc (done + left) ≡ suc done + left = omega arith in
    ap (λ xs. Calls Ticks ∷ xs) (ticks-more done left) ∙ ap ticks_of e

-- one more tick
pub ticks-one : (done : ℕ) → ticks_of done ++ Calls Ticks ∷ [] ≡ ticks_of (done + 1)
ticks-one done = ticks-more done 1

pub ticks-split : (done all : ℕ) → done < all → ticks_of done ++ ((Calls Ticks ∷ []) ++ ticks_of (all - (done + 1))) ≡ ticks_of all
ticks-split done all lt =
    let rest : ℕ = all - (done + 1) in
    let e : done + (1 + rest) ≡ all = omega (arith, lt) in
    ap (λ xs. ticks_of done ++ xs) (ticks-more 1 rest) ∙ ticks-more done (1 + rest) ∙ ap ticks_of e

pub ticked-none : (s : Setting) (before : Before) (w : Standing) (r : ServeState) → Stands s before w r → Stands s before w (served s (ticks_of 0) r)
ticked-none s before w r at = subst (λ x. Stands s before w x) (sym (served-nil s r)) at

pub ticked-on : (s : Setting) (before : Before) (w : Standing) (r : ServeState) (done : ℕ) → Stands s before w (served s (Calls Ticks ∷ []) (served s (ticks_of done) r)) → Stands s before w (served s (ticks_of (done + 1)) r)
ticked-on s before w r done at =
    subst (λ x. Stands s before w x) (sym (served-append s (ticks_of done) (Calls Ticks ∷ []) r) ∙ ap (λ acts. served s acts r) (ticks-one done)) at

-- a tick ended among them
pub tick-ended : (s : Setting) (before : Before) (w : Standing) (r : ServeState) (done all : ℕ) (e : ServeFault) → done < all → Serves s before (Calls Ticks ∷ []) (served s (ticks_of done) r) w (Err e) → Serves s before (ticks_of all) r w (Err e)
tick-ended s before w r done all e lt h =
    subst (λ acts. Serves s before acts r w (Err e)) (ticks-split done all lt) (serves-within s before (ticks_of done) (Calls Ticks ∷ []) (ticks_of (all - (done + 1))) r w e h)

-- ---- the parts of a turn

-- what was heard
pub at-heard : (s : Setting) (before : Before) (v : Kept) (link after : Option LinkState) (taken : Option (List ℕ)) (moments : List Moment) (sent : ℕ) (r : ServeState) (came : Heard)
    → Stands s before (standing v link taken moments sent) r → Hears link after (Ok came) → Stands s before (standing v after taken moments sent) (acted s r Receives)
at-heard s before v link after taken moments sent r came at h =
    let P : Option LinkState → Type 0 = λ o. Hears o after (Ok came) in
    record {
      node = at.node;
      at = record { knows = at.at.knows; link = (subst P at.at.link h).1; text = at.at.text; sent = at.at.sent; key = at.at.key };
    }

pub heard-is : (s : Setting) (before : Before) (v : Kept) (link after : Option LinkState) (taken : Option (List ℕ)) (moments : List Moment) (sent : ℕ) (r : ServeState) (came : Heard)
    → Stands s before (standing v link taken moments sent) r → Hears link after (Ok came) → came ≡ heard_of (next_of r.link.coming)
heard-is s before v link after taken moments sent r came at h =
    let P : Option LinkState → Type 0 = λ o. Hears o after (Ok came) in (subst P at.at.link h).0

pub within-unheard : (s : Setting) (before : Before) (v : Kept) (link after : Option LinkState) (taken : Option (List ℕ)) (moments : List Moment) (sent : ℕ) (r : ServeState) (e : NoMemory)
    → Stands s before (standing v link taken moments sent) r → Hears link after (Err e) → IsWithin before (standing v after taken moments sent) r
within-unheard s before v link after taken moments sent r e at h =
    let P : Option LinkState → Type 0 = λ o. Hears o after (Err e) in
    record {
      text = r.text;
      front = front-refl r.text;
      written = at.at.text;
      link = received_from r.link;
      told = subst P at.at.link h;
      given = front-refl r.link.given;
      spent = r.spent;
      made = front-refl r.spent;
      key = at.at.key;
    }

served-line : (s : Setting) (turn : Turn) (r : ServeState)
    → served s (turn_acts turn) r ≡ served s (delivery_of turn.heard ++ ticks_of turn.ticks) (writes (with_feed (turn_text turn)) (acted s r Receives))
served-line s turn r =
    let rest = delivery_of turn.heard ++ ticks_of turn.ticks in
    served-cons s Receives (Writes turn ∷ rest) r ∙ served-cons s (Writes turn) rest (acted s r Receives)

grows-line : (s : Setting) (turn : Turn) (r : ServeState) → Grows (writes (with_feed (turn_text turn)) (acted s r Receives)) (served s (turn_acts turn) r)
grows-line s turn r =
    let r2 = writes (with_feed (turn_text turn)) (acted s r Receives) in
    subst (λ x. Grows r2 x) (sym (served-line s turn r)) (grows-served s (delivery_of turn.heard ++ ticks_of turn.ticks) r2)

-- nothing came, and nothing is delivered
pub nothing-delivered : (came : Heard) → (came ≡ heard.Nothing) ⊎ (came ≡ heard.Failed) → delivery_of came ≡ []
nothing-delivered came (inl is) = ap delivery_of is
nothing-delivered came (inr is) = ap delivery_of is

pub undelivered : (s : Setting) (before : Before) (w : Standing) (r : ServeState) (came : Heard) → (came ≡ heard.Nothing) ⊎ (came ≡ heard.Failed) → Stands s before w r → Stands s before w (served s (delivery_of came) r)
undelivered s before w r came nothing at = subst (λ x. Stands s before w x) (sym (ap (λ acts. served s acts r) (nothing-delivered came nothing) ∙ served-nil s r)) at

-- the turn that was made is the one that was due
pub turn-due : (s : Setting) (before : Before) (r : ServeState) (w : Standing) (made due : Turn) (answer : Result (Unit {0}) ServeFault) → made ≡ due → Serves s before (turn_acts made) r w answer → Serves s before (turn_acts due) r w answer
turn-due s before r w made due answer is h = subst (λ (t : Turn). Serves s before (turn_acts t) r w answer) is h

-- memory was refused for what was heard
pub unheard-turn : (s : Setting) (before : Before) (w : Standing) (r : ServeState) (acts : List Act) → IsWithin before w r → Serves s before acts r w (Err faults.OutOfMemory)
unheard-turn s before w r acts h = inl (breaks-off s before acts r r w h (grows-served s acts r))

-- the turn's line broke off
pub unwritten-turn : (s : Setting) (before : Before) (w : Standing) (r : ServeState) (turn : Turn) (e : ServeFault)
    → Tells before w (writes (with_feed (turn_text turn)) (acted s r Receives)) (Err e) → Serves s before (turn_acts turn) r w (Err e)
unwritten-turn s before w r turn faults.StoreFault h = absurd h
unwritten-turn s before w r turn faults.WriteFault h = inl (breaks-off s before (turn_acts turn) r _ w h (grows-line s turn r))
unwritten-turn s before w r turn faults.OutOfMemory h = inl (breaks-off s before (turn_acts turn) r _ w h (grows-line s turn r))

abbrev begun_acts : Turn → List Act
begun_acts turn = Receives ∷ Writes turn ∷ []

served-begun : (s : Setting) (turn : Turn) (r : ServeState) → served s (begun_acts turn) r ≡ writes (with_feed (turn_text turn)) (acted s r Receives)
served-begun s turn r =
    served-cons s Receives (Writes turn ∷ []) r ∙ served-cons s (Writes turn) [] (acted s r Receives)
    ∙ served-nil s (writes (with_feed (turn_text turn)) (acted s r Receives))

-- the delivery ended the turn
pub undelivered-turn : (s : Setting) (before : Before) (w : Standing) (r : ServeState) (turn : Turn) (e : ServeFault)
    → Serves s before (delivery_of turn.heard) (writes (with_feed (turn_text turn)) (acted s r Receives)) w (Err e) → Serves s before (turn_acts turn) r w (Err e)
undelivered-turn s before w r turn e h =
    serves-within s before (begun_acts turn) (delivery_of turn.heard) (ticks_of turn.ticks) r w e
    (subst (λ x. Serves s before (delivery_of turn.heard) x w (Err e)) (sym (served-begun s turn r)) h)

-- the ticks of the turn
pub ticked-turn : (s : Setting) (before : Before) (w : Standing) (r : ServeState) (turn : Turn) (answer : Result (Unit {0}) ServeFault)
    → Serves s before (ticks_of turn.ticks) (served s (delivery_of turn.heard) (writes (with_feed (turn_text turn)) (acted s r Receives))) w answer
    → Serves s before (turn_acts turn) r w answer
ticked-turn s before w r turn answer h =
    let first = begun_acts turn ++ delivery_of turn.heard in
    let is : served s first r ≡ served s (delivery_of turn.heard) (writes (with_feed (turn_text turn)) (acted s r Receives)) =
    served-append s (begun_acts turn) (delivery_of turn.heard) r ∙ ap (served s (delivery_of turn.heard)) (served-begun s turn r) in
    serves-last s before first (ticks_of turn.ticks) r w answer
    (subst (λ x. Serves s before (ticks_of turn.ticks) x w answer) (sym is) h)

-- a turn of no ticks is its line and the delivery
pub unticked-turn : (s : Setting) (before : Before) (w : Standing) (r : ServeState) (turn : Turn) (answer : Result (Unit {0}) ServeFault) → turn.ticks ≡ 0
    → Serves s before (Writes turn ∷ delivery_of turn.heard) (acted s r Receives) w answer → Serves s before (turn_acts turn) r w answer
unticked-turn s before w r turn answer none h =
    let acts = Writes turn ∷ delivery_of turn.heard in
    let whole : turn_acts turn ≡ Receives ∷ acts =
    ap (λ (k : ℕ). Receives ∷ Writes turn ∷ delivery_of turn.heard ++ ticks_of k) none ∙ ap (λ (xs : List Act). Receives ∷ Writes turn ∷ xs) (append-nil (delivery_of turn.heard)) in
    subst (λ xs. Serves s before xs r w answer) (sym whole)
    (serves-last s before (Receives ∷ []) acts r w answer (subst (λ x. Serves s before acts x w answer) (sym (served-one s Receives r)) h))

-- ---- the turns

-- the clock was read
pub read-next : (o : Outlook) (r : ServeState) (reading : ℕ) (readings after : Option (List ℕ)) (made result : ℕ) → Sees o r reading readings made → ReadsClock reading readings after result
    → (result ≡ next_reading o.reading o.readings) × (after ≡ Some (drop 1 o.readings))
read-next o r reading readings after made result sees h =
    let P : Option (List ℕ) → Type 0 = λ x. ReadsClock reading x after result in
    let taken = subst P sees.readings h in
    (taken.read ∙ ap (λ k. next_reading k o.readings) sees.reading, taken.left)

-- the outlook behind a turn
pub sees-after : (s : Setting) (pace : Pace) (base number : ℕ) (o : Outlook) (r : ServeState) (reading : ℕ) (readings : Option (List ℕ)) (made now : ℕ) (later : Option (List ℕ)) (made1 : ℕ)
    → Sees o r reading readings made → now ≡ next_reading o.reading o.readings → later ≡ Some (drop 1 o.readings) → made1 ≡ made + (turn_in pace base number o).ticks + forgotten_in pace base o
    → Sees (after_turn pace base o) (served s (turn_acts (turn_in pace base number o)) r) now later made1
sees-after s pace base number o r reading readings made now later made1 sees is left more = record {
  heard = coming-turn s (turn_in pace base number o) r ∙ ap (drop 1) sees.heard;
  reading = is;
  readings = left;
  made = more ∙ ap (λ k. k + (turn_in pace base number o).ticks + forgotten_in pace base o) sees.made;
}

-- what was heard and how many ticks are made is the turn that is due
pub seen-turn : (pace : Pace) (base number : ℕ) (o : Outlook) (r : ServeState) (reading : ℕ) (readings later : Option (List ℕ)) (made now ticks : ℕ) (came : Heard)
    → Sees o r reading readings made → ReadsClock reading readings later now → came ≡ heard_of (next_of r.link.coming) → ticks ≡ ticks_owed pace base made now
    → record { number = number; heard = came; ticks = ticks } ≡ turn_in pace base number o
seen-turn pace base number o r reading readings later made now ticks came sees read is owed =
    let heard_is : came ≡ heard_of (next_of o.heard) = is ∙ ap (λ answers. heard_of (next_of answers)) sees.heard in
    let ticks_is : ticks ≡ ticks_in pace base o =
    owed ∙ ap (λ k. ticks_owed pace base k now) sees.made ∙ ap (λ k. ticks_owed pace base o.made k) (read-next o r reading readings later made now sees read).0 in
    let with_heard : Heard → Turn = λ h. record { number = number; heard = h; ticks = ticks } in
    let with_ticks : ℕ → Turn = λ k. record { number = number; heard = heard_of (next_of o.heard); ticks = k } in
    ap with_heard heard_is ∙ ap with_ticks ticks_is

-- what counts as made behind the turn that is due
pub seen-made : (pace : Pace) (base number : ℕ) (o : Outlook) (r : ServeState) (reading : ℕ) (readings later : Option (List ℕ)) (made now made1 : ℕ) (turn : Turn)
    → Sees o r reading readings made → ReadsClock reading readings later now → turn ≡ turn_in pace base number o → made1 ≡ made + turn.ticks + ticks_forgotten pace base made now
    → made1 ≡ made + (turn_in pace base number o).ticks + forgotten_in pace base o
seen-made pace base number o r reading readings later made now made1 turn sees read due is =
    let ticks : ℕ = (turn_in pace base number o).ticks in
    is ∙ ap (λ (t : Turn). made + t.ticks + ticks_forgotten pace base made now) due ∙ ap (λ k. made + ticks + ticks_forgotten pace base k now) sees.made
    ∙ ap (λ k. made + ticks + ticks_forgotten pace base o.made k) (read-next o r reading readings later made now sees read).0

pub on-any : (answer : Result (Unit {0}) ServeFault) (P : Type 0) → P → OnOk answer P
on-any (Ok x) P p = p
on-any (Err e) P p = record {}

-- some turns were made, and the rest is to come
pub record Turned (s : Setting) (before : Before) (pace : Pace) (base all done : ℕ) (o : Outlook) (start : ServeState) (w : Standing) (reading : ℕ) (readings : Option (List ℕ)) (made : ℕ) : Type 0 where
  pub acts : List Act
  pub outlook : Outlook
  pub split : turns_from pace base all 1 o ≡ acts ++ turns_from pace base (all - done) (done + 1) outlook
  pub at : Stands s before w (served s acts start)
  pub sees : Sees outlook (served s acts start) reading readings made

turns-none : (pace : Pace) (base all : ℕ) (o : Outlook) → turns_from pace base all 1 o ≡ turns_from pace base (all - 0) (0 + 1) o
turns-none pace base all o = let e : all ≡ all - 0 = omega arith in ap (λ k. turns_from pace base k 1 o) e

pub turned-first : (s : Setting) (before : Before) (pace : Pace) (base all : ℕ) (o : Outlook) (start : ServeState) (w : Standing) (reading : ℕ) (readings : Option (List ℕ)) (made : ℕ)
    → Stands s before w start → Sees o start reading readings made → Turned s before pace base all 0 o start w reading readings made
turned-first s before pace base all o start w reading readings made at sees = record {
  acts = [];
  outlook = o;
  split = turns-none pace base all o;
  at = subst (λ r. Stands s before w r) (sym (served-nil s start)) at;
  sees = subst (λ r. Sees o r reading readings made) (sym (served-nil s start)) sees;
}

turns-step : (pace : Pace) (base all done : ℕ) (o : Outlook) → done < all
    → turns_from pace base (all - done) (done + 1) o ≡ turn_acts (turn_in pace base (done + 1) o) ++ turns_from pace base (all - (done + 1)) (done + 1 + 1) (after_turn pace base o)
turns-step pace base all done o lt =
    let e : all - done ≡ suc (all - (done + 1)) = omega (arith, lt) in
    ap (λ k. turns_from pace base k (done + 1) o) e

split-step : (s : Setting) (before : Before) (pace : Pace) (base all done : ℕ) (o : Outlook) (start : ServeState) (w : Standing) (reading : ℕ) (readings : Option (List ℕ)) (made : ℕ)
    → done < all → (t : Turned s before pace base all done o start w reading readings made)
    → turns_from pace base all 1 o ≡ t.acts ++ (turn_acts (turn_in pace base (done + 1) t.outlook) ++ turns_from pace base (all - (done + 1)) (done + 1 + 1) (after_turn pace base t.outlook))
split-step s before pace base all done o start w reading readings made lt t = t.split ∙ ap (λ xs. t.acts ++ xs) (turns-step pace base all done t.outlook lt)

pub turned-next : (s : Setting) (before : Before) (pace : Pace) (base all done : ℕ) (o : Outlook) (start : ServeState) (w w1 : Standing) (reading now : ℕ) (readings later : Option (List ℕ)) (made made1 : ℕ)
    → done < all → (t : Turned s before pace base all done o start w reading readings made)
    → Stands s before w1 (served s (turn_acts (turn_in pace base (done + 1) t.outlook)) (served s t.acts start))
    → Sees (after_turn pace base t.outlook) (served s (turn_acts (turn_in pace base (done + 1) t.outlook)) (served s t.acts start)) now later made1
    → Turned s before pace base all (done + 1) o start w1 now later made1
turned-next s before pace base all done o start w w1 reading now readings later made made1 lt t at sees =
    let acts = turn_acts (turn_in pace base (done + 1) t.outlook) in
    let is : served s acts (served s t.acts start) ≡ served s (t.acts ++ acts) start = sym (served-append s t.acts acts start) in
    record {
      acts = t.acts ++ acts;
      outlook = after_turn pace base t.outlook;
      split = split-step s before pace base all done o start w reading readings made lt t ∙ sym (append_assoc t.acts acts (turns_from pace base (all - (done + 1)) (done + 1 + 1) (after_turn pace base t.outlook)));
      at = subst (λ r. Stands s before w1 r) is at;
      sees = subst (λ r. Sees (after_turn pace base t.outlook) r now later made1) is sees;
    }

pub turned-ends : (s : Setting) (before : Before) (pace : Pace) (base all done : ℕ) (o : Outlook) (start : ServeState) (w w1 : Standing) (reading : ℕ) (readings : Option (List ℕ)) (made : ℕ) (e : ServeFault)
    → done < all → (t : Turned s before pace base all done o start w reading readings made)
    → Serves s before (turn_acts (turn_in pace base (done + 1) t.outlook)) (served s t.acts start) w1 (Err e)
    → Serves s before (turns_from pace base all 1 o) start w1 (Err e)
turned-ends s before pace base all done o start w w1 reading readings made e lt t h =
    let acts = turn_acts (turn_in pace base (done + 1) t.outlook) in
    let rest = turns_from pace base (all - (done + 1)) (done + 1 + 1) (after_turn pace base t.outlook) in
    let P : List Act → Type 0 = λ xs. Serves s before xs start w1 (Err e) in
    subst P (sym (split-step s before pace base all done o start w reading readings made lt t)) (serves-within s before t.acts acts rest start w1 e h)

pub turned-last : (s : Setting) (before : Before) (pace : Pace) (base all : ℕ) (o : Outlook) (start : ServeState) (w : Standing) (reading : ℕ) (readings : Option (List ℕ)) (made : ℕ)
    → Turned s before pace base all all o start w reading readings made → Stands s before w (served s (turns_from pace base all 1 o) start)
turned-last s before pace base all o start w reading readings made t =
    let e : all - all ≡ 0 = omega arith in
    let whole : turns_from pace base all 1 o ≡ t.acts =
    t.split ∙ ap (λ k. t.acts ++ turns_from pace base k (all + 1) t.outlook) e ∙ append-nil t.acts in
    subst (λ xs. Stands s before w (served s xs start)) (sym whole) t.at

-- ---- the life

pub begins-at : (s : Setting) (v : Kept) (n : RulesNode) (link : Option LinkState) (taken : Option (List ℕ)) (moments : List Moment) (told : LinkState) → IsNode s v n → link ≡ Some told
    → Stands s (before_all taken v.signer moments) (standing v link taken moments 0) (served_from n told)
begins-at s v n link taken moments told is tells = record {
  node = is;
  at = record { knows = is.roster; link = tells; text = Appends-nil taken; sent = refl; key = lives-same v.signer v.signer moments refl };
}

-- as the base was read
abbrev pub first_outlook : List LinkAnswer → ℕ → List ℕ → Outlook
first_outlook coming base readings = record { heard = coming; reading = base; readings = drop 1 readings; made = 0 }

pub base-read : (last : ℕ) (coming later : Option (List ℕ)) (readings : List ℕ) (base : ℕ) → coming ≡ Some readings → ReadsClock last coming later base → (base ≡ next_reading last readings) × (later ≡ Some (drop 1 readings))
base-read last coming later readings base is h =
    let P : Option (List ℕ) → Type 0 = λ x. ReadsClock last x later base in
    let taken = subst P is h in (taken.read, taken.left)

pub begins-seeing : (n : RulesNode) (told : LinkState) (reading base : ℕ) (later : Option (List ℕ)) (readings : List ℕ) → reading ≡ base → later ≡ Some (drop 1 readings)
    → Sees (first_outlook told.coming base readings) (served_from n told) reading later 0
begins-seeing n told reading base later readings is left = record { heard = refl; reading = is; readings = left; made = refl }

most-is : (heal : Option Heal) (g : Group) → option_map (λ (h : Heal). g.period) heal ≡ most_for heal g
most-is None g = refl
most-is (Some h) g = refl

-- the pace of a node that keeps this
abbrev pub pace_in : Kept → ℕ → Pace
pace_in v millis = record { millis = millis; most = option_map (λ (h : Heal). v.group.period) v.heal }

abbrev with_most : ℕ → Option ℕ → Pace
with_most millis most = record { millis = millis; most = most }

pub pace-kept : (v : Kept) (millis : ℕ) (most : Option ℕ) → most ≡ option_map (λ (h : Heal). v.group.period) v.heal → record { millis = millis; most = most } ≡ pace_in v millis
pace-kept v millis most owed = ap (with_most millis) owed

pub pace-is : (s : Setting) (v : Kept) (n : RulesNode) (millis : ℕ) → IsNode s v n → pace_in v millis ≡ pace_for s millis
unfolding setting_of
pace-is s v n millis is =
    let most_is : option_map (λ (h : Heal). v.group.period) v.heal ≡ most_for s.heal s.group = most-is v.heal v.group ∙ ap (λ (x : Setting). most_for x.heal x.group) (sym is.setting) in
    ap (with_most millis) most_is

pub life-is : (pace due : Pace) (turns : ℕ) (leave : Bool) (last base : ℕ) (coming : List LinkAnswer) (readings : List ℕ) → pace ≡ due → base ≡ next_reading last readings
    → turns_from pace base turns 1 (first_outlook coming base readings) ++ leaving_acts leave ≡ life_acts due turns leave coming last readings
unfolding life_acts
life-is pace due turns leave last base coming readings paced is =
    ap (λ b. turns_from pace b turns 1 (first_outlook coming b readings) ++ leaving_acts leave) is ∙ ap (λ p. life_acts p turns leave coming last readings) paced

-- a turn ended the life
pub life-ends : (s : Setting) (before : Before) (turns : List Act) (leave : Bool) (start : ServeState) (w : Standing) (e : ServeFault) → Serves s before turns start w (Err e) → Serves s before (turns ++ leaving_acts leave) start w (Err e)
life-ends s before turns leave start w e h = serves-first s before turns (leaving_acts leave) start w e h

-- the node stays
pub life-stays : (s : Setting) (before : Before) (turns : List Act) (leave : Bool) (start : ServeState) (w : Standing) → leave ≡ false → Stands s before w (served s turns start) → Stands s before w (served s (turns ++ leaving_acts leave) start)
life-stays s before turns leave start w stays at =
    subst (λ acts. Stands s before w (served s acts start)) (sym (ap (λ b. turns ++ leaving_acts b) stays ∙ append-nil turns)) at

-- the node leaves
pub life-leaves : (s : Setting) (before : Before) (turns : List Act) (leave : Bool) (start : ServeState) (w : Standing) (answer : Result (Unit {0}) ServeFault) → leave ≡ true → Serves s before (Calls Leaves ∷ []) (served s turns start) w answer
    → Serves s before (turns ++ leaving_acts leave) start w answer
life-leaves s before turns leave start w answer leaves h =
    subst (λ b. Serves s before (turns ++ leaving_acts b) start w answer) (sym leaves) (serves-last s before turns (Calls Leaves ∷ []) start w answer h)

-- what holds of the pace that is kept holds of the one that was asked for
pub at-pace : (P : Pace → ℕ → Type 0) (m m1 : Pace) (b b1 : ℕ) → m ≡ m1 → b ≡ b1 → P m b → P m1 b1
at-pace P m m1 b b1 pace base h = subst (λ x. P m1 x) base (subst (λ x. P x b) pace h)

-- a buffer that is written over keeps its length
pub length-kept : (k n : ℕ) (xs items : List ℕ) → k ≡ length items → length xs ≡ length items → length items ≡ n → length (take k (xs ++ drop (length xs) items)) ≡ n
length-kept k n xs items counted same long =
    length-take k (xs ++ drop (length xs) items) ∙ omega (arith, length-append xs (drop (length xs) items), length-drop (length xs) items, counted, same, long)
