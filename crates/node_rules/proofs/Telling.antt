-- What a call reports of the view and of accusations is what the events report that it adds to the life.
use Rattle.std.proofs.Common.{◌≡◌, ℕ, true, false, List, [], ◌∷◌, ◌++◌, length, filter, map, refl, ap, sym, ◌∙◌}
use Rattle.std.proofs.lemmas.List.{append_assoc}
use Rattle.std.proofs.lemmas.List.Elements.{filter-append}
use Rattle.ff_ids.specs.declared.Group.{Group}
use Rattle.ff_ids.specs.Views.{State}
use Rattle.ff_ids.specs.Steps.{Event, Ticks, Report, step}
use Rattle.ff_ids.specs.Lives.{opening, after}
use Rattle.records.specs.declared.Body.{Body}
use Rattle.records.specs.declared.Record.{Record}
use Rattle.records.specs.declared.Body.TheVariants.{Accusation}
use Rattle.datagram.specs.declared.Datagram.{Datagram}
use Rattle.datagram.specs.Spelling.{datagram_bytes}
use Rattle.journal.specs.declared.event.Event as journal
use Rattle.journal.specs.declared.event.What as whats
use Rattle.journal.specs.declared.event.What.TheVariants as told
use Rattle.node_rules.specs.Nodes.{Setting, Node, state_of, event_of}
use Rattle.node_rules.specs.Calls.{Call, begun, tells, lives, takes, signs, sends, told_of}
use Rattle.node_rules.specs.Lives.{is_of_life, told_by, TellsItsLife, EachCallTellsItsLife, Input, call_of}
use Rattle.node_rules.specs.Leaving.{leaving}
use Rattle.node_rules.proofs.Called.{delivered_until, holds-called, ticked_until, left_until}
use Rattle.node_rules.proofs.Keeping.{Keeps, keeps-call, keeps-delivered_until, keeps-ticked_until, keeps-left_until}

abbrev of_life : List journal.Event → List journal.Event
of_life told = filter (λ e. is_of_life e.what) told

abbrev event : ℕ → whats.What → journal.Event
event moment what = record { moment = moment; what = what }

nil-right : {A : Type 0} (xs : List A) → xs ++ [] ≡ xs
nil-right [] = refl
nil-right (x ∷ xs) = ap (λ ys. x ∷ ys) (nil-right xs)

drops : (e : journal.Event) → is_of_life e.what ≡ false → of_life (e ∷ []) ≡ []
drops e h = cc

other-told : (told : List journal.Event) (e : journal.Event) → is_of_life e.what ≡ false → of_life (told ++ e ∷ []) ≡ of_life told
other-told told e h = filter-append (λ x. is_of_life x.what) told (e ∷ []) ∙ ap (λ xs. of_life told ++ xs) (drops e h) ∙ nil-right (of_life told)

all_of_life : {X : Type 0} (moment : ℕ) (f : X → whats.What) (xs : List X) → ((x : X) → is_of_life (f x) ≡ true) → of_life (map (event moment) (map f xs)) ≡ map (event moment) (map f xs)
all_of_life moment f [] h = refl
all_of_life moment f (x ∷ xs) h = rw (h x) (ap (λ ys. event moment (f x) ∷ ys) (all_of_life moment f xs h))

map-append : {X Y : Type 0} (f : X → Y) (xs ys : List X) → map f (xs ++ ys) ≡ map f xs ++ map f ys
map-append f [] ys = refl
map-append f (x ∷ xs) ys = ap (λ zs. f x ∷ zs) (map-append f xs ys)

both_of_life : (moment : ℕ) (xs ys : List whats.What) → of_life (map (event moment) xs) ≡ map (event moment) xs → of_life (map (event moment) ys) ≡ map (event moment) ys → of_life (map (event moment) (xs ++ ys)) ≡ map (event moment) (xs ++ ys)
both_of_life moment xs ys h k =
    ap of_life (map-append (event moment) xs ys) ∙ filter-append (λ x. is_of_life x.what) (map (event moment) xs) (map (event moment) ys)
    ∙ ap (λ zs. zs ++ of_life (map (event moment) ys)) h ∙ ap (λ zs. map (event moment) xs ++ zs) k ∙ sym (map-append (event moment) xs ys)

report-told : (moment : ℕ) (r : Report) → of_life (told_of moment r) ≡ told_of moment r
report-told moment r =
    let expired = all_of_life moment told.Expired r.expired (λ x. refl) in
    let removed = all_of_life moment told.Removed r.removed (λ x. refl) in
    let entered = all_of_life moment told.Entered r.entered (λ x. refl) in
    let fell = all_of_life moment told.Fell r.fell (λ x. refl) in
    both_of_life moment (map told.Expired r.expired ++ map told.Removed r.removed ++ map told.Entered r.entered) (map told.Fell r.fell)
    (both_of_life moment (map told.Expired r.expired ++ map told.Removed r.removed) (map told.Entered r.entered) (both_of_life moment (map told.Expired r.expired) (map told.Removed r.removed) expired removed) entered) fell

after-append : (g : Group) (st : State) (xs ys : List Event) → after g st (xs ++ ys) ≡ after g (after g st xs) ys
after-append g st [] ys = refl
after-append g st (x ∷ xs) ys = after-append g (step g st x).state xs ys

told_by-push : (g : Group) (st : State) (events : List Event) (e : Event) → told_by g st (events ++ e ∷ []) ≡ told_by g st events ++ told_of (step g (after g st events) e).state.moment (step g (after g st events) e).report
told_by-push g st [] e = nil-right _
told_by-push g st (x ∷ events) e =
    ap (λ xs. told_of (step g st x).state.moment (step g st x).report ++ xs) (told_by-push g (step g st x).state events e)
    ∙ sym (append_assoc (told_of (step g st x).state.moment (step g st x).report) _ _)

-- ---- each step

begins : (s : Setting) (n : Node) → TellsItsLife s n (begun n)
begins s n = record { more = []; grew = sym (nil-right n.lived); told_so = refl }

tells-other : (s : Setting) (n : Node) (what : whats.What) (c : Call) → is_of_life what ≡ false → TellsItsLife s n c → TellsItsLife s n (tells s what c)
tells-other s n what c other h =
    record { more = h.more; grew = h.grew; told_so = other-told c.told (event (state_of s c.node).moment what) other ∙ h.told_so }

tells-lives : (s : Setting) (n : Node) (e : Event) (c : Call) → TellsItsLife s n c → TellsItsLife s n (lives s e c)
unfolding lives state_of
tells-lives s n e c h =
    let g : Group = s.group in
    let st : State = after g (opening []) n.lived in
    let here : after g (opening []) c.node.lived ≡ after g st h.more = ap (after g (opening [])) h.grew ∙ after-append g (opening []) n.lived h.more in
    let news : State → List journal.Event = λ x. told_of (step g x e).state.moment (step g x e).report in
    record {
      more = h.more ++ e ∷ [];
      grew = ap (λ xs. xs ++ e ∷ []) h.grew ∙ append_assoc n.lived h.more (e ∷ []);
      told_so =
          filter-append (λ x. is_of_life x.what) c.told (news (after g (opening []) c.node.lived))
          ∙ ap (λ xs. of_life c.told ++ xs) (report-told _ _)
          ∙ ap (λ xs. xs ++ news (after g (opening []) c.node.lived)) h.told_so
          ∙ ap (λ x. told_by g st h.more ++ news x) here
          ∙ sym (told_by-push g st h.more e);
    }

tells-sends : (s : Setting) (n : Node) (d : Datagram) (c : Call) (to : ℕ) → TellsItsLife s n c → TellsItsLife s n (sends s d c to)
unfolding sends
tells-sends s n d c to h =
    let k = tells-other s n (told.Sent (length c.sent) to (datagram_bytes d)) c refl h in
    record { more = k.more; grew = k.grew; told_so = k.told_so }

tells-takes : (s : Setting) (n : Node) (r : Record) (c : Call) → TellsItsLife s n c → TellsItsLife s n (takes s r c)
unfolding takes
tells-takes s n r c h =
    let k = tells-lives s n (event_of s r.body) c h in
    record { more = k.more; grew = k.grew; told_so = k.told_so }

tells-signs : (s : Setting) (n : Node) (body : Body) (c : Call) → TellsItsLife s n c → TellsItsLife s n (signs s body c)
unfolding signs
tells-signs s n body c h =
    let k = tells-other s n (told.Spent c.node.stored.next body) c refl h in
    tells-takes s n _ _ (record { more = k.more; grew = k.grew; told_so = k.told_so })

telling : (s : Setting) (n : Node) → Keeps s (TellsItsLife s n)
telling s n =
    record {
      told = tells-other s n;
      sent = tells-sends s n;
      taken = λ r c fine h. tells-takes s n r c h;
      answered = λ r a c fine is me may left h. tells-signs s n _ _ (tells-takes s n r c h);
      returned = λ r a c back may left h. tells-signs s n _ c h;
      accused = λ a c by left h. tells-signs s n (Accusation a) c h;
      departed = λ c left h. tells-signs s n (leaving s c.node.stored) c h;
      stopped = λ c h. let k = tells-other s n told.Stopped c refl h in record { more = k.more; grew = k.grew; told_so = k.told_so };
      passed = λ c h. tells-lives s n Ticks c h;
      probed = λ p c h. record { more = h.more; grew = h.grew; told_so = h.told_so };
      spanned = λ c h. record { more = h.more; grew = h.grew; told_so = h.told_so };
      spread = λ c h. record { more = h.more; grew = h.grew; told_so = h.told_so };
    }

pub call-tells : (s : Setting) (n : Node) (i : Input) → TellsItsLife s n (call_of s n i)
call-tells s n i = keeps-call s (TellsItsLife s n) (telling s n) n i (begins s n)

pub delivered_until-tells : (s : Setting) (n : Node) (records : List Record) (r : Record) → TellsItsLife s n (delivered_until s n records r)
delivered_until-tells s n records r = keeps-delivered_until s (TellsItsLife s n) (telling s n) n records r (begins s n)

pub ticked_until-tells : (s : Setting) (n : Node) (silent : List ℕ) (m : ℕ) → TellsItsLife s n (ticked_until s n silent m)
ticked_until-tells s n silent m = keeps-ticked_until s (TellsItsLife s n) (telling s n) n silent m (begins s n)

pub left_until-tells : (s : Setting) (n : Node) → TellsItsLife s n (left_until s n)
left_until-tells s n = keeps-left_until s (TellsItsLife s n) (telling s n) n (begins s n)

pub called-tells : EachCallTellsItsLife
called-tells s n = holds-called s n (λ i call. TellsItsLife s n call) (call-tells s n) (λ bytes. delivered_until-tells s n) (ticked_until-tells s n) (left_until-tells s n)
