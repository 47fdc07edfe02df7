-- What is kept behind a call of a node.
use Rattle.std.proofs.Common.{◌≡◌, ℕ, true, false, eqb, List, [], ◌∷◌, ◌++◌, Some, None, map, length, inl, inr, refl, ap, sym, ◌∙◌, subst, append-nil, append_assoc}
use Rattle.std.proofs.Math.ListN.{set}
use Rattle.std.specs.Prelude.{fold, filter_map}
use Rattle.std.specs.List.{AllByRecursion, cons_option, list_any, slice_get}
use Rattle.std.proofs.lemmas.List.Elements.{filter_map-append}
use Rattle.std.proofs.lemmas.Bool.{cases_Bool, eqb-true, eq-eqb, false≢true}
use Rattle.sign_keys.specs.declared.kinds.Kinds.{Kinds}
use Rattle.journal.specs.declared.event.Event as journal
use Rattle.journal.specs.declared.event.What as whats
use Rattle.journal.specs.declared.event.What.TheVariants as happened
use Rattle.signer.specs.Lives.{Spent}
use Rattle.node_rules.specs.Calls.{Call}
use Rattle.node_rules.specs.OnRings.{Rises}
use Rattle.world_rules.specs.Counts.{Counts, counts_of, with_event}
use Rattle.world_rules.specs.Settings.{Setting, Signed, is_liar, is_node}
use Rattle.world_rules.specs.Worlds as worlds
use Rattle.world_rules.specs.Worlds.{World as ModelWorld, spent_if_by, spent_of, with_host}
use Rattle.world_rules.specs.Steps.{Execution, NodeEvent, in_host, numbered_from, signed_if_spent, signed_in, told_in, with_call}
use Rattle.world_rules.proofs.Once.{at-host, foreign-call}
use Rattle.world_host.specs.Hosts.{HostState}
use Rattle.world_host.specs.Holding.{HoldsHost}
use Rattle.world_host.specs.Answers.{spent_in}
use Rattle.world.specs.declared.counts.Counts as counted
use Rattle.world.specs.declared.liar.Liar.{Liar}
use Rattle.world.specs.Counting.{AreKept}
use Rattle.world.specs.Holding.{Holds, HoldsLiar, Kept, numbers}
use Rattle.world.proofs.Clean.{all_clean_still}
use Rattle.world.proofs.ChangeLemmas.{at-other, at-own, at-place}
use Rattle.world.proofs.PlaceLemmas.{listed-there, nodes-rise, place-node}
use Rattle.world.proofs.HostLemmas.{numbers-set, host-changes}
use Rattle.world.proofs.WorldLemmas.{counts-append}

-- ---- events

numbered-counts : (s : Setting) (c : Counts) (n : ℕ) (what : whats.What) → with_event s c (numbered_from n what) ≡ with_event s c what
numbered-counts s c n (happened.Sent number to bytes) = refl
numbered-counts s c n what = refl

told-counts : (s : Setting) (c : Counts) (m n : ℕ) (events : List journal.Event) → fold (λ c t. with_event s c t.event.what) c (told_in m n events) ≡ fold (λ c e. with_event s c e.what) c events
told-counts s c m n [] = refl
told-counts s c m n (e ∷ events) =
    ap (λ (z : Counts). fold (λ c t. with_event s c t.event.what) z (told_in m n events)) (numbered-counts s c n e.what) ∙ told-counts s (with_event s c e.what) m n events

pub counts-told : (s : Setting) (told : List NodeEvent) (m n : ℕ) (events : List journal.Event) → counts_of s (told ++ told_in m n events) ≡ fold (λ c e. with_event s c e.what) (counts_of s told) events
counts-told s told m n events = counts-append s told (told_in m n events) ∙ told-counts s (counts_of s told) m n events

-- ---- signatures

one-issued : (m : ℕ) (what : whats.What) (rest : List Signed) → filter_map (spent_if_by None) (cons_option (signed_if_spent m what) rest) ≡ filter_map (spent_if_by None) rest
one-issued m (happened.Spent index body) rest = refl
one-issued m what rest = refl

none-issued : (m : ℕ) (events : List journal.Event) → filter_map (spent_if_by None) (signed_in m events) ≡ []
none-issued m [] = refl
none-issued m (e ∷ events) = one-issued m e.what (signed_in m events) ∙ none-issued m events

pub still-issued : (m : ℕ) (signed : List Signed) (events : List journal.Event) → filter_map (spent_if_by None) (signed ++ signed_in m events) ≡ filter_map (spent_if_by None) signed
still-issued m signed events =
    filter_map-append (spent_if_by None) signed (signed_in m events) ∙ ap (λ (z : List Spent). filter_map (spent_if_by None) signed ++ z) (none-issued m events) ∙ append-nil (filter_map (spent_if_by None) signed)

pub own-spent : (m : ℕ) (signed : List Signed) (events : List journal.Event) → filter_map (spent_if_by (Some m)) (signed ++ signed_in m events) ≡ filter_map (spent_if_by (Some m)) signed ++ spent_in m events
own-spent m signed events = filter_map-append (spent_if_by (Some m)) signed (signed_in m events)

-- ---- liars

liars-others : (s : Setting) (kinds : Kinds) (w later : ModelWorld) (xs : List Liar) → AllByRecursion (λ x. spent_of later (Some x.member) ≡ spent_of w (Some x.member)) xs → AllByRecursion (HoldsLiar s kinds w) xs → AllByRecursion (HoldsLiar s kinds later) xs
liars-others s kinds w later [] same h = tt
liars-others s kinds w later (x ∷ xs) same h = (
  record { key = h.0.key; next = h.0.next ∙ sym (ap length same.0); signed = h.0.signed ∙ sym (ap (map (λ y. y.body)) same.0) },
  liars-others s kinds w later xs same.1 h.1,
)

number-apart : (a b : ℕ) → (a ≡ b → ⊥) → eqb a b ≡ false
number-apart a b fails = elim (cases_Bool (eqb a b)) [ inl same ↦ absurd (fails (eqb-true a b same)) | inr apart ↦ apart ]

-- each of them is listed
all-listed : (listed numbers : List ℕ) → ((k : ℕ) → list_any (λ x. eqb x k) numbers ≡ true → list_any (λ x. eqb x k) listed ≡ true) → AllByRecursion (λ k. list_any (λ x. eqb x k) listed ≡ true) numbers
all-listed listed [] h = tt
all-listed listed (k ∷ numbers) h = (h k (rw (eq-eqb k k refl) refl), all-listed listed numbers (λ j in_rest. h j (later j in_rest)))
  where
    later : (j : ℕ) → list_any (λ x. eqb x j) numbers ≡ true → list_any (λ x. eqb x j) (k ∷ numbers) ≡ true
    later j in_rest = elim (cases_Bool (eqb k j)) [ inl here ↦ rw here refl | inr there ↦ rw there in_rest ]

-- ---- the whole

-- one place changes in a call of its node, which reports and sends
pub holds-called : (s : Setting) (c : Execution) (before : List NodeEvent) (v : Kept) (m at : ℕ) (x : HostState) (place : worlds.Host) (call : Call) (sent : List (ℕ × List ℕ)) (kept : counted.Counts) → (h : Holds s c.world (before ++ c.told) v)
    → slice_get (numbers v) at ≡ Some m → x.member ≡ m → HoldsHost s h.kinds place (spent_of c.world (Some m) ++ spent_in m call.told) x → sent ≡ v.sent ++ call.sent
    → AreKept kept (fold (λ z e. with_event s z e.what) (counts_of s (before ++ c.told)) call.told)
    → let d = in_host m place (with_call m call c) in Holds s d.world (before ++ d.told) (record v { hosts = set v.hosts at x; sent = sent; counts = kept })
holds-called s c before v m at x place call sent kept h is own new sends counts =
    let w : ModelWorld = c.world in
    let d : Execution = in_host m place (with_call m call c) in
    let later : ModelWorld = d.world in
    let middle : ModelWorld = (with_call m call c).world in
    let node : is_node s m ≡ true = place-node s (numbers v) m at h.nodes is in
    let else_spent : (k : ℕ) → eqb m k ≡ false → spent_of later (Some k) ≡ spent_of w (Some k) = λ k apart. foreign-call k m w.signed call.told apart in
    record {
      kinds = h.kinds;
      world = h.world;
      ranges = h.ranges;
      authority = h.authority;
      issued = ap (map (λ y. y.body)) (still-issued m w.signed call.told) ∙ h.issued;
      apart = h.apart;
      idle = λ k not. at-host k m place middle (λ (z : worlds.Host). z.current ≡ None) (λ same. absurd (false≢true (sym not ∙ ap (is_node s) (sym same) ∙ node))) (λ apart. h.idle k not);
      silent = λ k no_node no_liar. else_spent k (number-apart m k (λ same. absurd (false≢true (sym no_node ∙ ap (is_node s) (sym same) ∙ node)))) ∙ h.silent k no_node no_liar;
      nodes = numbers-set v.hosts at x (is ∙ ap (λ (k : ℕ). Some k) (sym own)) ∙ h.nodes;
      hosts = host-changes s h.kinds w later m 0 at v.hosts x (subst (Rises 0) (sym h.nodes) (nodes-rise s)) is
          (record { others = λ k apart. record { host = at-other k m place middle apart; spent = else_spent k (swapped k m apart) } })
          (at-place s h.kinds later place x (at-own x.member m place middle own)
          (subst (λ (z : List Spent). HoldsHost s h.kinds place z x) (sym (ap (λ (k : ℕ). spent_of later (Some k)) own ∙ own-spent m w.signed call.told)) new)) h.hosts;
      lying = h.lying;
      liars = liars-others s h.kinds w later v.liars
          (liars-spent v.liars (all-listed s.liars (map (λ y. y.member) v.liars) (λ k there. listed-there s.liars (map (λ y. y.member) v.liars) k h.lying there)) else_spent node) h.liars;
      sent = sends ∙ ap (λ (z : List (ℕ × List ℕ)). z ++ call.sent) h.sent;
      flowed = h.flowed;
      named = h.named;
      tested = all_clean_still s w later v.tested (record { more = signed_in m call.told; is = refl }) h.tested;
      counts = subst (AreKept kept) (sym (ap (counts_of s) (sym (append_assoc before c.told (told_in m (length w.sent) call.told))) ∙ counts-told s (before ++ c.told) m (length w.sent) call.told)) counts;
    }
  where
    swapped : (a b : ℕ) → eqb a b ≡ false → eqb b a ≡ false
    swapped a b e = number-apart b a (λ same. absurd (false≢true (sym e ∙ eq-eqb a b (sym same))))

    liars-spent : (xs : List Liar) → AllByRecursion (λ k. is_liar s k ≡ true) (map (λ y. y.member) xs)
        → ((k : ℕ) → eqb m k ≡ false → spent_of (in_host m place (with_call m call c)).world (Some k) ≡ spent_of c.world (Some k)) → is_node s m ≡ true
        → AllByRecursion (λ y. spent_of (in_host m place (with_call m call c)).world (Some y.member) ≡ spent_of c.world (Some y.member)) xs
    liars-spent [] all same node = tt
    liars-spent (y ∷ xs) all same node = (
      same y.member (number-apart m y.member (λ is_same. absurd (false≢true (sym (h.apart m node) ∙ ap (is_liar s) is_same ∙ all.0)))),
      liars-spent xs all.1 same node,
    )
