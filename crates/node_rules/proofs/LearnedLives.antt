-- A node that follows a life draws its nonces from a source of its own, and learns those of the life.
use Rattle.std.proofs.Common.{◌≡◌, ℕ, ◌+◌, Bool, true, false, cond, List, [], ◌∷◌, ◌++◌, length, get_or, map, refl, ap, sym, ◌∙◌, subst, arith}
use Rattle.std.specs.Prelude.{Result, Ok, Err}
use Rattle.std.proofs.lemmas.Bool.{false≢true}
use Rattle.std.proofs.lemmas.List.{append_assoc, length-append, length-map}
use Rattle.std.proofs.Math.Seq.{get_or-append_seam}
use Rattle.ff_ids.specs.Views.{State}
use Rattle.records.specs.declared.Record.{Record}
use Rattle.epoch_store.specs.declared.Stored.{Stored}
use Rattle.datagram.specs.declared.Datagram.{Datagram}
use Rattle.datagram.specs.declared.Datagram.TheVariants as kinds
use Rattle.datagram.specs.Grammar.{read_of}
use Rattle.detector.specs.declared.watch.Watched.{Watched}
use Rattle.detector.specs.Silence.{History, Happening, Ticked, Ponged, AreTo, pings_from, sent_in}
use Rattle.node_rules.specs.Nodes.{Setting, Node, state_of}
use Rattle.node_rules.specs.Calls.{Call, begun, lives}
use Rattle.node_rules.specs.Deliveries.{handles_all, exchanges, pinged, hears, delivered}
use Rattle.node_rules.specs.Ticking.{is_due, watched_by, silent_in, pings_in, round_of, passed, probed_at, due_tick, ticked}
use Rattle.node_rules.specs.Leaving.{leaves, left}
use Rattle.node_rules.specs.Starting.{blank, first_note, started}
use Rattle.node_rules.specs.Lives.{Input, Delivers, Ticks as Tick, Leaves, call_of, after_calls, life_of}
use Rattle.node_rules.specs.Outgoing.{at_tick}
use Rattle.node_rules.specs.OtherNonces.{with_source, call_with_source, drawn, probes_with, probed_with, ticked_sending, Gives, DrawsPings, HaveSameMembers, GivesAll, ComesToNode, GoesOnWith, CallsAreLearned}
use Rattle.node_rules.proofs.OneExchange.{calls-append}
use Rattle.node_rules.proofs.Sources.{keeps-probes, over-handles_all, over-exchanges, over-pinged, over-leaves, starts, over-started, source-delivered, source-left, source-started, source-ticked}
use Rattle.node_rules.proofs.PingsTold.{node-differs}

-- ---- the pings that are drawn

drawn-to : (b : Bool) (source : ℕ → ℕ) (k : ℕ) (watched : List Watched) → b ≡ true → AreTo watched (cond b (pings_from source k watched) [])
drawn-to false source k watched due = absurd (false≢true due)
drawn-to true source k [] due = refl
drawn-to true source k (w ∷ watched) due = ap (λ ms. w.member ∷ ms) (drawn-to true source (k + 1) watched refl)

none-drawn : (b : Bool) (pings : List (ℕ × ℕ)) → b ≡ false → cond b pings [] ≡ []
none-drawn true pings never = absurd (false≢true (sym never))
none-drawn false pings never = refl

gives-pings : (source : ℕ → ℕ) (k : ℕ) (watched : List Watched) → Gives source k (pings_from source k watched)
gives-pings source k [] = tt
gives-pings source k (w ∷ watched) = (refl, gives-pings source (k + 1) watched)

gives-case : (b : Bool) (source : ℕ → ℕ) (k : ℕ) (pings : List (ℕ × ℕ)) → Gives source k pings → Gives source k (cond b pings [])
gives-case true source k pings h = h
gives-case false source k pings h = tt

-- What the node draws from this source in the place of its own.
drawn-from : (s : Setting) (n : Node) (source : ℕ → ℕ) → drawn s (with_source source n)
    ≡ cond (is_due s (state_of s (at_tick s n))) (pings_from source (sent_in n.probes.happened) (watched_by s (state_of s (at_tick s n)))) []
unfolding drawn passed lives state_of
drawn-from s n source = refl

given-drawn : (s : Setting) (n : Node) → Gives n.probes.nonces (sent_in n.probes.happened) (drawn s n)
given-drawn s n =
    let b : Bool = is_due s (state_of s (at_tick s n)) in
    let all : List (ℕ × ℕ) = pings_from n.probes.nonces (sent_in n.probes.happened) (watched_by s (state_of s (at_tick s n))) in
    subst (Gives n.probes.nonces (sent_in n.probes.happened)) (sym (drawn-from s n n.probes.nonces))
    (gives-case b n.probes.nonces (sent_in n.probes.happened) all (gives-pings n.probes.nonces (sent_in n.probes.happened) (watched_by s (state_of s (at_tick s n)))))

probed-drawn : (s : Setting) (n : Node) → probed_at s n ≡ probed_with s n (drawn s n)
unfolding probed_at probed_with passed lives drawn
probed-drawn s n = refl

ticked-drawn : (s : Setting) (n : Node) → ticked s n ≡ ticked_sending s n (drawn s n)
unfolding ticked ticked_sending drawn
ticked-drawn s n =
    let p : Node = at_tick s n in
    let st : State = state_of s p in
    ap (λ (c : Call). cond (is_due s st) (due_tick s (silent_in s p st) (pings_in s p st) (round_of s st) c) c) (probed-drawn s n)

pub draws : (s : Setting) (n : Node) → DrawsPings s n
unfolding drawn
draws s n =
    let p : Node = at_tick s n in
    let st : State = state_of s p in
    record {
      is = ticked-drawn s n;
      due = drawn-to (is_due s st) p.probes.nonces (sent_in p.probes.happened) (watched_by s st);
      never = none-drawn (is_due s st) (pings_from p.probes.nonces (sent_in p.probes.happened) (watched_by s st));
      given = given-drawn s n;
    }

-- ---- a tick with what the source gives

-- Those are drawn from a source that it gives.
drawn-given : (source other : ℕ → ℕ) (k j : ℕ) (watched : List Watched) (sent : List (ℕ × ℕ)) → HaveSameMembers (pings_from other j watched) sent → Gives source k sent → pings_from source k watched ≡ sent
drawn-given source other k j [] [] same gives = refl
drawn-given source other k j [] (p ∷ sent) same gives = absurd (none p.0 (map (λ (p : ℕ × ℕ). p.0) sent) same)
  where
    none : (m : ℕ) (ms : List ℕ) → [] ≡ m ∷ ms → ⊥
    none m ms e = cc
drawn-given source other k j (w ∷ watched) [] same gives = absurd (none w.member (map (λ (p : ℕ × ℕ). p.0) (pings_from other (j + 1) watched)) same)
  where
    none : (m : ℕ) (ms : List ℕ) → m ∷ ms ≡ [] → ⊥
    none m ms e = cc
drawn-given source other k j (w ∷ watched) (p ∷ sent) same gives =
    let here : w.member ≡ p.0 = cc in
    let rest : HaveSameMembers (pings_from other (j + 1) watched) sent = cc in
    ap (λ m. (m, source k) ∷ pings_from source (k + 1) watched) here
    ∙ ap (λ x. (p.0, x) ∷ pings_from source (k + 1) watched) gives.0
    ∙ ap (λ xs. p ∷ xs) (drawn-given source other (k + 1) (j + 1) watched sent rest gives.1)

none-given : (sent : List (ℕ × ℕ)) → HaveSameMembers [] sent → [] ≡ sent
none-given [] same = refl
none-given (p ∷ sent) same = absurd (none p.0 (map (λ (p : ℕ × ℕ). p.0) sent) same)
  where
    none : (m : ℕ) (ms : List ℕ) → [] ≡ m ∷ ms → ⊥
    none m ms e = cc

given-case : (b : Bool) (source other : ℕ → ℕ) (k : ℕ) (watched : List Watched) (sent : List (ℕ × ℕ)) → HaveSameMembers (cond b (pings_from other k watched) []) sent → Gives source k sent
    → cond b (pings_from source k watched) [] ≡ sent
given-case true source other k watched sent same gives = drawn-given source other k k watched sent same gives
given-case false source other k watched sent same gives = none-given sent same

pub ticked-given : (s : Setting) (n : Node) (source : ℕ → ℕ) (sent : List (ℕ × ℕ)) → HaveSameMembers (drawn s n) sent → Gives source (sent_in n.probes.happened) sent
    → ticked s (with_source source n) ≡ call_with_source source (ticked_sending s n sent)
ticked-given s n source sent same gives =
    let b : Bool = is_due s (state_of s (at_tick s n)) in
    let k : ℕ = sent_in n.probes.happened in
    let watched : List Watched = watched_by s (state_of s (at_tick s n)) in
    let own : HaveSameMembers (cond b (pings_from n.probes.nonces k watched) []) sent = subst (λ ps. HaveSameMembers ps sent) (drawn-from s n n.probes.nonces) same in
    ticked-drawn s (with_source source n)
    ∙ ap (ticked_sending s (with_source source n)) (drawn-from s n source ∙ given-case b source n.probes.nonces k watched sent own gives)
    ∙ source-ticked s n source sent

-- ---- the pings of a life

probes-ticked : (s : Setting) (n : Node) (sent : List (ℕ × ℕ)) → (ticked_sending s n sent).node.probes ≡ probes_with s n sent
probes-ticked s n sent = ap (λ (m : Node). m.probes) (node-differs s n sent sent)

probes-left : (s : Setting) (n : Node) → (left s n).node.probes ≡ n.probes
unfolding left
probes-left s n = keeps-probes (leaves true s) (over-leaves true s) (begun n)

-- The pings are given by the source, which is that of the node.
record Draws (source : ℕ → ℕ) (h : History) : Type 0 where
  from : h.nonces ≡ source
  all : GivesAll source h.happened

-- What holds of the pings behind a delivery holds before it, and the other way.
hears-before : (s : Setting) (d : Result Datagram ℕ) (c : Call) (source : ℕ → ℕ) → GivesAll source (hears s d c).node.probes.happened → GivesAll source c.node.probes.happened
hears-before s (Err place) c source h = h
hears-before s (Ok (kinds.Ping from nonce)) c source h = subst (λ (p : History). GivesAll source p.happened) (keeps-probes (pinged s from nonce) (over-pinged s from nonce) c) h
hears-before s (Ok (kinds.Pong from nonce)) c source h = h
hears-before s (Ok (kinds.Summary from flag theirs)) c source h = subst (λ (p : History). GivesAll source p.happened) (keeps-probes (exchanges s from flag theirs) (over-exchanges s from flag theirs) c) h
hears-before s (Ok (kinds.Records from records)) c source h = subst (λ (p : History). GivesAll source p.happened) (keeps-probes (handles_all s records) (over-handles_all s records) c) h

hears-draws : (s : Setting) (d : Result Datagram ℕ) (c : Call) (source : ℕ → ℕ) → Draws source c.node.probes → Draws source (hears s d c).node.probes
hears-draws s (Err place) c source h = h
hears-draws s (Ok (kinds.Ping from nonce)) c source h = subst (Draws source) (sym (keeps-probes (pinged s from nonce) (over-pinged s from nonce) c)) h
hears-draws s (Ok (kinds.Pong from nonce)) c source h = record { from = h.from; all = h.all }
hears-draws s (Ok (kinds.Summary from flag theirs)) c source h = subst (Draws source) (sym (keeps-probes (exchanges s from flag theirs) (over-exchanges s from flag theirs) c)) h
hears-draws s (Ok (kinds.Records from records)) c source h = subst (Draws source) (sym (keeps-probes (handles_all s records) (over-handles_all s records) c)) h

delivered-before : (s : Setting) (n : Node) (bytes : List ℕ) (source : ℕ → ℕ) → GivesAll source (delivered s n bytes).node.probes.happened → GivesAll source n.probes.happened
unfolding delivered
delivered-before s n bytes source h = hears-before s (read_of bytes) (begun n) source h

delivered-draws : (s : Setting) (n : Node) (bytes : List ℕ) (source : ℕ → ℕ) → Draws source n.probes → Draws source (delivered s n bytes).node.probes
unfolding delivered
delivered-draws s n bytes source h = hears-draws s (read_of bytes) (begun n) source h

ticked-draws : (s : Setting) (n : Node) (source : ℕ → ℕ) → Draws source n.probes → Draws source (ticked s n).node.probes
ticked-draws s n source h =
    let sent : List (ℕ × ℕ) = drawn s n in
    subst (Draws source) (sym (ap (λ (c : Call). c.node.probes) (ticked-drawn s n) ∙ probes-ticked s n sent))
    (record { from = h.from; all = (subst (λ from. Gives from (sent_in n.probes.happened) sent) h.from (given-drawn s n), h.all) })

call-draws : (s : Setting) (n : Node) (i : Input) (source : ℕ → ℕ) → Draws source n.probes → Draws source (call_of s n i).node.probes
call-draws s n (Delivers bytes) source h = delivered-draws s n bytes source h
call-draws s n Tick source h = ticked-draws s n source h
call-draws s n Leaves source h = subst (Draws source) (sym (probes-left s n)) h

calls-draw : (s : Setting) (n : Node) (inputs : List Input) (source : ℕ → ℕ) → Draws source n.probes → Draws source (after_calls s n inputs).probes
calls-draw s n [] source h = h
calls-draw s n (i ∷ inputs) source h = calls-draw s (call_of s n i).node inputs source (call-draws s n i source h)

started-draws : (s : Setting) (source : ℕ → ℕ) (certificates : List Record) (stored : Stored) → Draws source (started s source certificates stored).node.probes
unfolding started
started-draws s source certificates stored =
    subst (Draws source) (sym (keeps-probes (starts s (first_note s stored) certificates) (over-started s (first_note s stored) certificates) (begun (blank s source stored)))) (record { from = refl; all = tt })

pub lives-give_all : (s : Setting) (source : ℕ → ℕ) (certificates : List Record) (stored : Stored) (inputs : List Input) → GivesAll source (life_of s source certificates stored inputs).probes.happened
lives-give_all s source certificates stored inputs =
    (calls-draw s (started s source certificates stored).node inputs source (started-draws s source certificates stored)).all

-- ---- a source for each list of pings

-- Their nonces, in order.
abbrev nonces_of : List (ℕ × ℕ) → List ℕ
nonces_of sent = map (λ p. p.1) sent

abbrev all_nonces : List Happening → List ℕ
all_nonces [] = []
all_nonces (Ponged sender nonce ∷ before) = all_nonces before
all_nonces (Ticked watched sent ∷ before) = all_nonces before ++ nonces_of sent

-- The source with these nonces.
abbrev listed : List ℕ → ℕ → ℕ
listed nonces k = get_or nonces k 0

as-many : (happened : List Happening) → length (all_nonces happened) ≡ sent_in happened
as-many [] = refl
as-many (Ponged sender nonce ∷ before) = as-many before
as-many (Ticked watched sent ∷ before) =
    let front : length (all_nonces before) ≡ sent_in before = as-many before in
    let both : length (all_nonces before ++ nonces_of sent) ≡ length (all_nonces before) + length (nonces_of sent) = length-append (all_nonces before) (nonces_of sent) in
    let back : length (nonces_of sent) ≡ length sent = length-map sent (λ (p : ℕ × ℕ). p.1) in
    omega (arith, front, both, back)

listed-gives : (xs : List ℕ) (sent : List (ℕ × ℕ)) (ys : List ℕ) → Gives (listed ((xs ++ nonces_of sent) ++ ys)) (length xs) sent
listed-gives xs [] ys = tt
listed-gives xs (p ∷ sent) ys =
    let rest : List ℕ = nonces_of sent in
    let longer : length (xs ++ p.1 ∷ []) ≡ length xs + 1 = length-append xs (p.1 ∷ []) in
    let same : ((xs ++ p.1 ∷ []) ++ rest) ++ ys ≡ (xs ++ p.1 ∷ rest) ++ ys = ap (λ zs. zs ++ ys) (append_assoc xs (p.1 ∷ []) rest) in (
      ap (λ zs. get_or zs (length xs) 0) (append_assoc xs (p.1 ∷ rest) ys) ∙ get_or-append_seam xs p.1 (rest ++ ys) 0,
      subst (λ k. Gives (listed ((xs ++ p.1 ∷ rest) ++ ys)) k sent) longer
          (subst (λ zs. Gives (listed zs) (length (xs ++ p.1 ∷ [])) sent) same (listed-gives (xs ++ p.1 ∷ []) sent ys)),
    )

listed-gives_all : (happened : List Happening) (ys : List ℕ) → GivesAll (listed (all_nonces happened ++ ys)) happened
listed-gives_all [] ys = tt
listed-gives_all (Ponged sender nonce ∷ before) ys = listed-gives_all before ys
listed-gives_all (Ticked watched sent ∷ before) ys = (
  subst (λ k. Gives (listed ((all_nonces before ++ nonces_of sent) ++ ys)) k sent) (as-many before) (listed-gives (all_nonces before) sent ys),
  subst (λ zs. GivesAll (listed zs) before) (sym (append_assoc (all_nonces before) (nonces_of sent) ys)) (listed-gives_all before (nonces_of sent ++ ys)),
)

pub has-source : (happened : List Happening) → (source : ℕ → ℕ) × GivesAll source happened
has-source happened = (listed (all_nonces happened ++ []), listed-gives_all happened [])

-- ---- following a life

pub begins-learned : (s : Setting) (source : ℕ → ℕ) (certificates : List Record) (stored : Stored) → ComesToNode s certificates stored [] (started s source certificates stored).node
begins-learned s source certificates stored = λ other gives. ap (λ (c : Call). c.node) (source-started s other source certificates stored)

goes-on : (s : Setting) (certificates : List Record) (stored : Stored) (inputs : List Input) (i : Input) (c : Call)
    → ((source : ℕ → ℕ) → GivesAll source c.node.probes.happened → call_of s (life_of s source certificates stored inputs) i ≡ call_with_source source c) → GoesOnWith s certificates stored inputs i c
goes-on s certificates stored inputs i c so =
    record {
      call_so = so;
      node_so = λ source gives. calls-append s (started s source certificates stored).node inputs (i ∷ []) ∙ ap (λ (x : Call). x.node) (so source gives);
    }

pub goes-on_learned : (s : Setting) (certificates : List Record) (stored : Stored) (inputs : List Input) (n : Node) → ComesToNode s certificates stored inputs n → CallsAreLearned s certificates stored inputs n
goes-on_learned s certificates stored inputs n h =
    record {
      delivery = λ bytes. goes-on s certificates stored inputs (Delivers bytes) (delivered s n bytes)
          (λ source gives. ap (λ (m : Node). delivered s m bytes) (h source (delivered-before s n bytes source gives)) ∙ source-delivered s n source bytes);
      leaving = goes-on s certificates stored inputs Leaves (left s n)
          (λ source gives. ap (left s) (h source (subst (λ (p : History). GivesAll source p.happened) (probes-left s n) gives)) ∙ source-left s n source);
      tick = λ sent same. goes-on s certificates stored inputs Tick (ticked_sending s n sent)
          (λ source gives.
          let all : GivesAll source (probes_with s n sent).happened = subst (λ (p : History). GivesAll source p.happened) (probes-ticked s n sent) gives in
          ap (ticked s) (h source all.1) ∙ ticked-given s n source sent same all.0);
    }
