-- What is kept where nothing becomes of the nodes' places.
use Rattle.std.proofs.Common.{◌≡◌, ℕ, List, [], ◌∷◌, ◌++◌, refl, ap, sym, ◌∙◌, subst, append-nil, append_assoc}
use Rattle.std.specs.Prelude.{fold}
use Rattle.std.specs.List.{AllByRecursion}
use Rattle.sign_keys.specs.declared.kinds.Kinds.{Kinds}
use Rattle.world_rules.specs.Counts.{Counts, counts_of, nothing_counted, with_event}
use Rattle.world_rules.specs.Settings.{Setting}
use Rattle.world_rules.specs.Worlds.{World as ModelWorld}
use Rattle.world_rules.specs.Steps.{Execution, NodeEvent, tells_got}
use Rattle.world_host.specs.Hosts.{HostState}
use Rattle.world.specs.declared.counts.Counts as counted
use Rattle.world.specs.Counting.{AreKept}
use Rattle.world.specs.Telling.{told_line, told_lines}
use Rattle.world.specs.Holding.{Holds, HoldsPlace, Kept}
use Rattle.world.specs.Testing.{IsClean}
use Rattle.world.specs.Courses.{At, got_by}
use Rattle.world.proofs.Clean.{all_clean_still}
use Rattle.world.proofs.ChangeLemmas.{liars-stay}
use Rattle.world.proofs.HostLemmas.{StaysAt, host-stays}

hosts-same : (s : Setting) (kinds : Kinds) (w later : ModelWorld) (xs : List HostState) → ((k : ℕ) → StaysAt w later k) → AllByRecursion (HoldsPlace s kinds w) xs → AllByRecursion (HoldsPlace s kinds later) xs
hosts-same s kinds w later [] stays h = tt
hosts-same s kinds w later (x ∷ xs) stays h = (host-stays s kinds w later x (stays x.member) h.0, hosts-same s kinds w later xs stays h.1)

-- other events were reported, which count the same
pub holds-told : (s : Setting) (w : ModelWorld) (told later : List NodeEvent) (v : Kept) → counts_of s later ≡ counts_of s told → Holds s w told v → Holds s w later v
holds-told s w told later v same h =
    record {
      kinds = h.kinds;
      world = h.world;
      ranges = h.ranges;
      authority = h.authority;
      issued = h.issued;
      apart = h.apart;
      idle = h.idle;
      silent = h.silent;
      nodes = h.nodes;
      hosts = h.hosts;
      lying = h.lying;
      liars = h.liars;
      sent = h.sent;
      flowed = h.flowed;
      named = h.named;
      tested = h.tested;
      counts = subst (AreKept v.counts) (sym same) h.counts;
    }

counts-from : (s : Setting) (from : Counts) (xs ys : List NodeEvent) → fold (λ c t. with_event s c t.event.what) from (xs ++ ys) ≡ fold (λ c t. with_event s c t.event.what) (fold (λ c t. with_event s c t.event.what) from xs) ys
counts-from s from [] ys = refl
counts-from s from (x ∷ xs) ys = counts-from s (with_event s from x.event.what) xs ys

pub counts-append : (s : Setting) (xs ys : List NodeEvent) → counts_of s (xs ++ ys) ≡ fold (λ c t. with_event s c t.event.what) (counts_of s xs) ys
counts-append s xs ys = counts-from s nothing_counted xs ys

-- that a datagram was handed over counts nothing
pub at-got : (s : Setting) (before : List NodeEvent) (base : List ℕ) (v : Kept) (out later : List ℕ) (c : Execution) (m number : ℕ) → At s before base v out c → later ≡ out ++ told_line (got_by s c.world m number) → At s before base v later (tells_got s m number c)
at-got s before base v out later c m number h is =
    let got : NodeEvent = got_by s c.world m number in
    record {
      holds = holds-told s c.world (before ++ c.told) (before ++ (c.told ++ got ∷ [])) v
          (ap (counts_of s) (sym (append_assoc before c.told (got ∷ []))) ∙ counts-append s (before ++ c.told) (got ∷ [])) h.holds;
      written = is ∙ ap (λ (z : List ℕ). z ++ told_line got) h.written ∙ append_assoc base (told_lines c.told) (told_line got)
          ∙ ap (λ (z : List ℕ). base ++ z) (sym (lines-push c.told got));
    }
  where
    lines-push : (xs : List NodeEvent) (t : NodeEvent) → told_lines (xs ++ t ∷ []) ≡ told_lines xs ++ told_line t
    lines-push [] t = append-nil (told_line t)
    lines-push (x ∷ xs) t = ap (λ (z : List ℕ). told_line x ++ z) (lines-push xs t) ∙ sym (append_assoc (told_line x) (told_lines xs) (told_line t))

-- a datagram was taken
pub holds-flowed : (s : Setting) (w : ModelWorld) (told : List NodeEvent) (v : Kept) (number : ℕ) → Holds s w told v → Holds s (record w { flowed = number }) told (record v { flowed = number })
holds-flowed s w told v number h =
    let later : ModelWorld = record w { flowed = number } in
    record {
      kinds = h.kinds;
      world = h.world;
      ranges = h.ranges;
      authority = h.authority;
      issued = h.issued;
      apart = h.apart;
      idle = h.idle;
      silent = h.silent;
      nodes = h.nodes;
      hosts = hosts-same s h.kinds w later v.hosts (λ k. record { host = refl; spent = refl }) h.hosts;
      lying = h.lying;
      liars = liars-stay s h.kinds w later v.liars refl h.liars;
      sent = h.sent;
      flowed = refl;
      named = h.named;
      tested = all_clean_still s w later v.tested (record { more = []; is = sym (append-nil w.signed) }) h.tested;
      counts = h.counts;
    }

-- a record was tested, and is not forged
pub holds-tested : (s : Setting) (w : ModelWorld) (told : List NodeEvent) (v : Kept) (tested : List (List ℕ)) → AllByRecursion (IsClean s w) tested → Holds s w told v → Holds s w told (record v { tested = tested })
holds-tested s w told v tested clean h =
    record {
      kinds = h.kinds;
      world = h.world;
      ranges = h.ranges;
      authority = h.authority;
      issued = h.issued;
      apart = h.apart;
      idle = h.idle;
      silent = h.silent;
      nodes = h.nodes;
      hosts = h.hosts;
      lying = h.lying;
      liars = h.liars;
      sent = h.sent;
      flowed = h.flowed;
      named = h.named;
      tested = clean;
      counts = h.counts;
    }

-- other counts that are right too
pub holds-recounted : (s : Setting) (w : ModelWorld) (told : List NodeEvent) (v : Kept) (k : counted.Counts) → AreKept k (counts_of s told) → Holds s w told v → Holds s w told (record v { counts = k })
holds-recounted s w told v k kept h =
    record {
      kinds = h.kinds;
      world = h.world;
      ranges = h.ranges;
      authority = h.authority;
      issued = h.issued;
      apart = h.apart;
      idle = h.idle;
      silent = h.silent;
      nodes = h.nodes;
      hosts = h.hosts;
      lying = h.lying;
      liars = h.liars;
      sent = h.sent;
      flowed = h.flowed;
      named = h.named;
      tested = h.tested;
      counts = kept;
    }
