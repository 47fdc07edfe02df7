-- Whom a node gossips with, and of which page.
use Rattle.std.proofs.Common.{◌≡◌, ℕ, ◌+◌, ◌<◌, Bool, cond, List, [], ◌∷◌, ◌++◌, Option, Some, None, is_some, filter, length, get_or, take, refl, ap, sym, ◌∙◌}
use Rattle.std.specs.Prelude.{unwrap_or}
use Rattle.std.specs.List.{last_or, range_with_len}
use Rattle.std.proofs.lemmas.Bool.{cond_both}
use Rattle.std.proofs.lemmas.List.{take_more}
use Rattle.ff_ids.specs.declared.Group.{Group}
use Rattle.ff_ids.specs.Masks.{ring_count}
use Rattle.ff_ids.specs.Heals.{Heal}
use Rattle.ff_ids.specs.Views.{State, all_numbers}
use Rattle.validate.specs.Certified.{certificate_of as kept_certificate}
use Rattle.gossip.specs.Partners as gossip
use Rattle.node_rules.specs.Nodes.{Setting, Node, state_of, certified}
use Rattle.node_rules.specs.Pages.{partner, page_number}
use Rattle.audit_node.specs.Playing.{Kept, IsMirror}
use Rattle.audit_node.proofs.TellingLemmas.{nil-right}
use Rattle.audit_node.proofs.PlayLemmas.{filter-same, filter-append, range-more, setting-group, setting-me, setting-heal}

pub filter-more : (q : ℕ → Bool) (n : ℕ) → cond (q n) (filter q (range_with_len 0 n) ++ n ∷ []) (filter q (range_with_len 0 n)) ≡ filter q (range_with_len 0 (n + 1))
filter-more q n =
    let split : filter q (range_with_len 0 (n + 1)) ≡ filter q (range_with_len 0 n) ++ filter q (n ∷ []) = ap (filter q) (range-more n) ∙ filter-append q (range_with_len 0 n) (n ∷ []) in
    cond_both (q n) (filter q (range_with_len 0 n) ++ n ∷ []) (filter q (range_with_len 0 n)) (λ x. x ≡ filter q (range_with_len 0 (n + 1)))
    (λ it. sym (split ∙ ap (λ b. filter q (range_with_len 0 n) ++ cond b (n ∷ []) []) it))
    (λ off. sym (split ∙ ap (λ b. filter q (range_with_len 0 n) ++ cond b (n ∷ []) []) off ∙ nil-right (filter q (range_with_len 0 n))))

last-push : (o : Option ℕ) (xs : List ℕ) (x : ℕ) → last_or o (xs ++ x ∷ []) ≡ Some x
last-push o [] x = refl
last-push o (y ∷ xs) x = last-push (Some y) xs x

pub last-more : (xs : List ℕ) (i x : ℕ) → i < length xs → x ≡ get_or xs i x → x ≡ unwrap_or (last_or None (take (i + 1) xs)) 0
last-more xs i x within here =
    let longer : take (i + 1) xs ≡ take i xs ++ x ∷ [] = take_more xs i x within ∙ ap (λ (y : ℕ). take i xs ++ y ∷ []) (sym here) in
    sym (ap (λ o. unwrap_or o 0) (ap (last_or None) longer ∙ last-push None (take i xs) x))

certified-is : (s : Setting) (v : Kept) (n : Node) (numbers : List ℕ) → IsMirror s v n → numbers ≡ filter (λ m. is_some (kept_certificate v.roster m)) all_numbers → numbers ≡ certified n
certified-is s v n numbers is listed = listed ∙ filter-same _ _ all_numbers (λ m. ap is_some (is.roster m))

pub partner-is : (s : Setting) (v : Kept) (n : Node) (numbers : List ℕ) (round : ℕ) → IsMirror s v n → numbers ≡ filter (λ m. is_some (kept_certificate v.roster m)) all_numbers
    → gossip.partner_with v.heal v.group.t (state_of s n) numbers v.me round ≡ partner s n round
unfolding partner
partner-is s v n numbers round is listed =
    let st : State = state_of s n in
    let g : v.group ≡ s.group = sym (setting-group s v n is) in
    let me : v.me ≡ s.me = sym (setting-me s v n is) in
    ap (λ (h : Option Heal). gossip.partner_with h v.group.t st numbers v.me round) (sym (setting-heal s v n is))
    ∙ ap (λ (x : Group). gossip.partner_with s.heal x.t st numbers v.me round) g
    ∙ ap (λ (m : ℕ). gossip.partner_with s.heal s.group.t st numbers m round) me
    ∙ ap (λ (xs : List ℕ). gossip.partner_with s.heal s.group.t st xs s.me round) (certified-is s v n numbers is listed)

pub number-is : (s : Setting) (v : Kept) (n : Node) (numbers : List ℕ) (round : ℕ) → IsMirror s v n → numbers ≡ filter (λ m. is_some (kept_certificate v.roster m)) all_numbers
    → gossip.page_with v.heal (state_of s n) numbers v.me round (ring_count v.group.t) (unwrap_or (last_or None numbers) 0) ≡ page_number s n round
unfolding page_number
number-is s v n numbers round is listed =
    let st : State = state_of s n in
    let top : List ℕ → ℕ = λ xs. unwrap_or (last_or None xs) 0 in
    let g : v.group ≡ s.group = sym (setting-group s v n is) in
    let me : v.me ≡ s.me = sym (setting-me s v n is) in
    ap (λ (h : Option Heal). gossip.page_with h st numbers v.me round (ring_count v.group.t) (top numbers)) (sym (setting-heal s v n is))
    ∙ ap (λ (x : Group). gossip.page_with s.heal st numbers v.me round (ring_count x.t) (top numbers)) g
    ∙ ap (λ (m : ℕ). gossip.page_with s.heal st numbers m round (ring_count s.group.t) (top numbers)) me
    ∙ ap (λ (xs : List ℕ). gossip.page_with s.heal st xs s.me round (ring_count s.group.t) (top xs)) (certified-is s v n numbers is listed)
