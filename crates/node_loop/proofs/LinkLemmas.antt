-- What one call of the link comes to.
use Rattle.std.proofs.Common.{◌≡◌, ℕ, min, true, false, List, ◌++◌, length, take, drop, Option, Some, None, Ok, Err, refl, sym, ap, ◌∙◌, arith, length-take}
use Rattle.std.proofs.Math.Seq.{take-append_seam}
use Rattle.ports.specs.declared.Received as received
use Rattle.ports.specs.declared.Sent as sent
use Rattle.ports.specs.declared.link.LinkAnswer.{LinkAnswer}
use Rattle.ports.specs.declared.link.LinkAnswer.TheVariants as answers
use Rattle.ports.specs.Link.{LinkState, Receives, Sends, answer_of, buffer_of, next_of}
use Rattle.fields.specs.declared.NoMemory.{NoMemory}
use Rattle.journal.specs.declared.turn.Heard.TheVariants as heard
use Rattle.node_loop.specs.Turns.{heard_of, room}
use Rattle.node_loop.specs.Writing.{HandsOver, Hears}

-- ---- a send

pub hands-done : (port : ℕ) (bytes : List ℕ) (link after : Option LinkState) → Sends port bytes link after sent.TheVariants.Done → HandsOver port bytes link after (Ok false)
hands-done port bytes None after h = h
hands-done port bytes (Some link) after h = (sym h.ends, h.told)

pub hands-failed : (port : ℕ) (bytes : List ℕ) (link after : Option LinkState) → Sends port bytes link after sent.TheVariants.Failed → HandsOver port bytes link after (Ok true)
hands-failed port bytes None after h = h
hands-failed port bytes (Some link) after h = (sym h.ends, h.told)

pub hands-refused : (port : ℕ) (bytes : List ℕ) (link after : Option LinkState) (e : NoMemory) → Sends port bytes link after sent.TheVariants.OutOfMemory → HandsOver port bytes link after (Err e)
hands-refused port bytes None after e h = h
hands-refused port bytes (Some link) after e h = h.told

-- ---- a receive

-- the front of the buffer is what there is room for
front-heard : (bytes buffer : List ℕ) (count : ℕ) → count ≡ min (length bytes) (length buffer) → take count (take (length buffer) bytes ++ drop (length bytes) buffer) ≡ take (length buffer) bytes
front-heard bytes buffer count is =
    let long : length (take (length buffer) bytes) ≡ count = length-take (length buffer) bytes ∙ omega (arith, is) in
    ap (λ k. take k (take (length buffer) bytes ++ drop (length bytes) buffer)) (sym long) ∙ take-append_seam (take (length buffer) bytes) (drop (length bytes) buffer)

got-is : (answer : LinkAnswer) (buffer filled : List ℕ) (count : ℕ) → length buffer ≡ room → received.TheVariants.Got count ≡ answer_of answer (length buffer) → filled ≡ buffer_of answer buffer
    → heard.Got (take count filled) ≡ heard_of answer
got-is (answers.Got bytes) buffer filled count long is lies =
    let counted : count ≡ min (length bytes) (length buffer) = cc in
    ap (λ xs. heard.Got (take count xs)) lies ∙ ap heard.Got (front-heard bytes buffer count counted) ∙ ap (λ k. heard.Got (take k bytes)) long
got-is answers.Nothing buffer filled count long is lies = cc
got-is answers.Failed buffer filled count long is lies = cc

pub hears-got : (link after : Option LinkState) (buffer filled : List ℕ) (count : ℕ) → length buffer ≡ room → Receives link after buffer filled (received.TheVariants.Got count) → Hears link after (Ok (heard.Got (take count filled)))
hears-got None after buffer filled count long h = h
hears-got (Some link) after buffer filled count long h = (got-is (next_of link.coming) buffer filled count long h.answered h.lies, h.taken)

nothing-is : (answer : LinkAnswer) (n : ℕ) → received.TheVariants.Nothing ≡ answer_of answer n → heard.Nothing ≡ heard_of answer
nothing-is (answers.Got bytes) n is = cc
nothing-is answers.Nothing n is = refl
nothing-is answers.Failed n is = cc

pub hears-nothing : (link after : Option LinkState) (buffer filled : List ℕ) → Receives link after buffer filled received.TheVariants.Nothing → Hears link after (Ok heard.Nothing)
hears-nothing None after buffer filled h = h
hears-nothing (Some link) after buffer filled h = (nothing-is (next_of link.coming) (length buffer) h.answered, h.taken)

failed-is : (answer : LinkAnswer) (n : ℕ) → received.TheVariants.Failed ≡ answer_of answer n → heard.Failed ≡ heard_of answer
failed-is (answers.Got bytes) n is = cc
failed-is answers.Nothing n is = cc
failed-is answers.Failed n is = refl

pub hears-failed : (link after : Option LinkState) (buffer filled : List ℕ) → Receives link after buffer filled received.TheVariants.Failed → Hears link after (Ok heard.Failed)
hears-failed None after buffer filled h = h
hears-failed (Some link) after buffer filled h = (failed-is (next_of link.coming) (length buffer) h.answered, h.taken)

pub hears-refused : (link after : Option LinkState) (buffer filled : List ℕ) (answer : received.Received) (e : NoMemory) → Receives link after buffer filled answer → Hears link after (Err e)
hears-refused None after buffer filled answer e h = h
hears-refused (Some link) after buffer filled answer e h = h.taken
