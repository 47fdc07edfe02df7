-- What is given to each node that runs.
use Rattle.std.proofs.Common.{◌≡◌, ℕ, zero, suc, map, length, ◌+◌, ◌≤◌, Bool, true, false, cond, eqb, List, [], ◌∷◌, Option, Some, None, filter, inl, inr, refl, ap, sym, ◌∙◌, subst, arith}
use Rattle.std.specs.Prelude.{Result, Ok, Err, is_some}
use Rattle.std.specs.List.{slice_get}
use Rattle.std.specs.Option.{option_map}
use Rattle.std.proofs.lemmas.Option.{slice_get_past}
use Rattle.std.proofs.lemmas.Bool.{cases_Bool}
use Rattle.std.proofs.lemmas.Bool.Decides.{nat_tests}
use Rattle.node_rules.specs.Lives.{Input, Delivers}
use Rattle.node_rules.specs.OnRings.{Rises}
use Rattle.world_rules.specs.Settings.{Setting, setting_of}
use Rattle.world_rules.specs.Calls.{called_on}
use Rattle.world_rules.specs.Forgeries.{Forgery, forgery}
use Rattle.world_rules.specs.Worlds.{Life, Named, Host, World as ModelWorld, is_running}
use Rattle.world_rules.specs.Steps.{Execution, and_then, calls, calls_running, given_bytes, flows_one, gives, gives_each, hands, hands_sent, tells_got, NodeEvent, unless_forged, host_after, with_call, with_input}
use Rattle.world.specs.declared.fault.WorldFault.{WorldFault}
use Rattle.world.specs.Holding.{Kept}
use Rattle.world.specs.Courses.{At, Goes, hands_each, hands_if}
use Rattle.world.proofs.ChangeLemmas.{at-other}
use Rattle.world.proofs.CourseLemmas.{OkIs}

-- a call leaves the places of others
running-leaves : (s : Setting) (m k : ℕ) (i : Input) (host : Host) (current : Option Life) (c : Execution) → eqb k m ≡ false → (calls_running s m i host current c).world.hosts k ≡ c.world.hosts k
running-leaves s m k i host None c apart = refl
running-leaves s m k i host (Some life) c apart =
    let d = called_on (setting_of s m) life.node i host.disk in
    at-other k m (host_after host (with_input life i d.call.node) d) (with_call m d.call c).world apart

pub calls-leave : (s : Setting) (m k : ℕ) (i : Input) (c : Execution) → eqb k m ≡ false → (calls s m i c).world.hosts k ≡ c.world.hosts k
unfolding calls
calls-leave s m k i c apart = running-leaves s m k i (c.world.hosts m) (c.world.hosts m).current c apart

ok-is : (c d : Execution) → OkIs c d → c ≡ d
ok-is c d e = cc

unless-leaves : (found : Option Forgery) (c d e : Execution) (k : ℕ) → d.world.hosts k ≡ c.world.hosts k → unless_forged found d ≡ Ok e → e.world.hosts k ≡ c.world.hosts k
unless-leaves (Some found) c d e k h is = cc
unless-leaves None c d e k h is = sym (ap (λ (x : Execution). x.world.hosts k) (ok-is d e is)) ∙ h

hands-leave : (s : Setting) (m k : ℕ) (bytes : List ℕ) (c d : Execution) → eqb k m ≡ false → hands s m bytes c ≡ Ok d → d.world.hosts k ≡ c.world.hosts k
unfolding hands
hands-leave s m k bytes c d apart is = unless-leaves (forgery s c.world bytes) c (calls s m (Delivers bytes) c) d k (calls-leave s m k (Delivers bytes) c apart) is

if-leaves : (s : Setting) (m k : ℕ) (b : Bool) (bytes : List ℕ) (c d : Execution) → eqb k m ≡ false → hands_if s m b bytes c ≡ Ok d → d.world.hosts k ≡ c.world.hosts k
if-leaves s m k true bytes c d apart is = hands-leave s m k bytes c d apart is
if-leaves s m k false bytes c d apart is = sym (ap (λ (x : Execution). x.world.hosts k) (ok-is c d is))

-- Who is above this number runs here where it runs there.
abbrev RunAlike : ℕ → ModelWorld → ModelWorld → Type 0
RunAlike low w later = (k : ℕ) → low ≤ k → is_running later k ≡ is_running w k

then-same : (r : Result Execution Forgery) (f g : Execution → Result Execution Forgery) → ((d : Execution) → r ≡ Ok d → f d ≡ g d) → and_then r f ≡ and_then r g
then-same (Err found) f g h = refl
then-same (Ok d) f g h = h d refl

-- to give to each that runs at first is to give to each that runs when its turn comes
each-given : (s : Setting) (w : ModelWorld) (low : ℕ) (ms : List ℕ) (x : Named) (c : Execution) → Rises low ms → RunAlike low w c.world → gives_each s (filter (is_running w) ms) (Some x) c ≡ hands_each s ms (given_bytes x) c
each-given s w low [] x c rises alike = refl
each-given s w low (m ∷ ms) x c rises alike =
    let bytes : List ℕ = given_bytes x in
    let rest : List ℕ = filter (is_running w) ms in
    let here : is_running c.world m ≡ is_running w m = alike m rises.0 in
    let later : (d : Execution) → hands_if s m (is_running c.world m) bytes c ≡ Ok d → gives_each s rest (Some x) d ≡ hands_each s ms bytes d =
    λ d is. each-given s w (m + 1) ms x d rises.1 (λ k above. ap (λ (z : Host). is_some z.current) (if-leaves s m k (is_running c.world m) bytes c d (apart m k above) is) ∙ alike k (omega (arith, above, rises.0))) in
    elim (cases_Bool (is_running w m)) [
      | inl runs ↦
          let holds : is_running c.world m ≡ true = here ∙ runs in
          rw runs (ap (λ (z : Result Execution Forgery). and_then z (gives_each s rest (Some x))) (sym (ap (λ (b : Bool). hands_if s m b bytes c) holds)) ∙ then-same (hands_if s m (is_running c.world m) bytes c) (gives_each s rest (Some x)) (hands_each s ms bytes) later)
      | inr not ↦
          let fails : is_running c.world m ≡ false = here ∙ not in
          let same : hands_if s m (is_running c.world m) bytes c ≡ Ok c = ap (λ (b : Bool). hands_if s m b bytes c) fails in
          rw not (later c same ∙ sym (ap (λ (z : Result Execution Forgery). and_then z (hands_each s ms bytes)) same))
    ]
  where
    apart : (m k : ℕ) → m + 1 ≤ k → eqb k m ≡ false
    apart m k above = grind (arith, nat_tests)

pub all-given : (s : Setting) (ms : List ℕ) (x : Named) (c : Execution) → Rises 0 ms → gives_each s (filter (is_running c.world) ms) (Some x) c ≡ hands_each s ms (given_bytes x) c
all-given s ms x c rises = each-given s c.world 0 ms x c rises (λ k low. refl)

pub none-given : (s : Setting) (ms : List ℕ) (c : Execution) → gives_each s ms None c ≡ Ok c
none-given s [] c = refl
none-given s (m ∷ ms) c = none-given s ms c

-- ---- a datagram that was sent

sent-so : (sent : List (ℕ × List ℕ)) (i : ℕ) (b : List ℕ) → slice_get (map (λ d. d.1) sent) i ≡ Some b → (d : ℕ × List ℕ) × (slice_get sent i ≡ Some d) × (d.1 ≡ b)
sent-so [] i b is = cc
sent-so (d ∷ sent) zero b is = (d, refl, same d.1 b is)
  where
    same : (x y : List ℕ) → Some x ≡ Some y → x ≡ y
    same x y e = cc
sent-so (d ∷ sent) (suc i) b is = sent-so sent i b is

pub goes-sent : (s : Setting) (before : List NodeEvent) (base : List ℕ) (v : Kept) (out : List ℕ) (c : Execution) (m number : ℕ) (b : List ℕ) (result : Result (Unit {0}) WorldFault) → slice_get (map (λ d. d.1) c.world.sent) number ≡ Some b
    → Goes s before base v out (hands s m b (tells_got s m number c)) result → Goes s before base v out (hands_sent s m number (slice_get c.world.sent number) c) result
goes-sent s before base v out c m number b result is h =
    let so = sent-so c.world.sent number b is in
    subst (λ (o : Option (ℕ × List ℕ)). Goes s before base v out (hands_sent s m number o c) result) (sym so.1)
    (subst (λ (z : List ℕ). Goes s before base v out (hands s m z (tells_got s m number c)) result) (sym so.2) h)

-- no such datagram was sent
pub goes-unsent : (s : Setting) (before : List NodeEvent) (base : List ℕ) (v : Kept) (out : List ℕ) (c : Execution) (m number : ℕ) → length c.world.sent ≤ number → At s before base v out c → Goes s before base v out (hands_sent s m number (slice_get c.world.sent number) c) (Ok tt)
goes-unsent s before base v out c m number low h = (c, ap (λ (o : Option (ℕ × List ℕ)). hands_sent s m number o c) (slice_get_past c.world.sent number low), h)

-- ---- a datagram that is taken

abbrev pub taken_of : Execution → Execution
taken_of c = record c { world = record c.world { flowed = c.world.flowed + 1 } }

pub flows-runs : (s : Setting) (before : List NodeEvent) (base : List ℕ) (v : Kept) (out : List ℕ) (c : Execution) (d : ℕ × List ℕ) (to number : ℕ) (result : Result (Unit {0}) WorldFault) → d.0 ≡ to → number ≡ c.world.flowed → slice_get c.world.sent c.world.flowed ≡ Some d
    → is_running c.world to ≡ true → Goes s before base v out (hands_sent s to number (slice_get c.world.sent number) (taken_of c)) result → Goes s before base v out (flows_one s d c) result
flows-runs s before base v out c d to number result addressee same is runs h =
    let runs_so : is_running c.world d.0 ≡ true = ap (is_running c.world) addressee ∙ runs in
    let at_member = subst (λ (m : ℕ). Goes s before base v out (hands_sent s m number (slice_get c.world.sent number) (taken_of c)) result) (sym addressee) h in
    let at_number = subst (λ (n : ℕ). Goes s before base v out (hands_sent s d.0 n (slice_get c.world.sent n) (taken_of c)) result) same at_member in
    let at_datagram = subst (λ (o : Option (ℕ × List ℕ)). Goes s before base v out (hands_sent s d.0 c.world.flowed o (taken_of c)) result) is at_number in
    subst (λ (b : Bool). Goes s before base v out (cond b (hands_sent s d.0 c.world.flowed (Some d) (taken_of c)) (Ok (taken_of c))) result) (sym runs_so) at_datagram

pub flows-idle : (s : Setting) (c : Execution) (d : ℕ × List ℕ) (to : ℕ) → d.0 ≡ to → is_running c.world to ≡ false → flows_one s d c ≡ Ok (taken_of c)
flows-idle s c d to addressee idle =
    let idle_so : is_running c.world d.0 ≡ false = ap (is_running c.world) addressee ∙ idle in
    ap (λ (b : Bool). cond b (hands_sent s d.0 c.world.flowed (Some d) (taken_of c)) (Ok (taken_of c))) idle_so

-- ---- what is given under a name

pub gives-named : (s : Setting) (before : List NodeEvent) (base : List ℕ) (v : Kept) (out : List ℕ) (c : Execution) (m : ℕ) (o : Option Named) (b : List ℕ) (result : Result (Unit {0}) WorldFault) → Some b ≡ option_map given_bytes o
    → Goes s before base v out (hands s m b c) result → Goes s before base v out (gives s m o c) result
gives-named s before base v out c m None b result is h = cc
gives-named s before base v out c m (Some x) b result is h = subst (λ (z : List ℕ). Goes s before base v out (hands s m z c) result) (same b (given_bytes x) is) h
  where
    same : (x y : List ℕ) → Some x ≡ Some y → x ≡ y
    same x y e = cc

pub each-named : (s : Setting) (before : List NodeEvent) (base : List ℕ) (v : Kept) (out : List ℕ) (c : Execution) (ns ms : List ℕ) (o : Option Named) (b : List ℕ) (result : Result (Unit {0}) WorldFault) → ns ≡ ms → Rises 0 ms → Some b ≡ option_map given_bytes o
    → Goes s before base v out (hands_each s ns b c) result → Goes s before base v out (gives_each s (filter (is_running c.world) ms) o c) result
each-named s before base v out c ns ms None b result those rises is h = cc
each-named s before base v out c ns ms (Some x) b result those rises is h =
    let given = subst (λ (z : List ℕ). Goes s before base v out (hands_each s ns z c) result) (same b (given_bytes x) is) h in
    let listed = subst (λ (z : List ℕ). Goes s before base v out (hands_each s z (given_bytes x) c) result) those given in
    subst (λ (z : Result Execution Forgery). Goes s before base v out z result) (sym (all-given s ms x c rises)) listed
  where
    same : (x y : List ℕ) → Some x ≡ Some y → x ≡ y
    same x y e = cc

pub each-none : (s : Setting) (ms : List ℕ) (o : Option Named) (c : Execution) → None ≡ option_map given_bytes o → gives_each s ms o c ≡ Ok c
each-none s ms None c is = none-given s ms c
each-none s ms (Some x) c is = cc
