-- News: what is added to them, and how they go out.
use Rattle.std.proofs.Common.{arith, length, ◌≡◌, ◌≢◌, ◌<◌, true, false, List, [], ◌∷◌, ◌++◌, Option, Some, None, map, refl, ap, sym, ◌∙◌, subst}
use Rattle.std.specs.Prelude.{is_some}
use Rattle.std.specs.List.{list_any}
use Rattle.std.specs.Ordering.{eq_by_cmp}
use Rattle.std.proofs.lemmas.Bool.{false≢true}
use Rattle.ff_ids.specs.Heals.{Heal}
use Rattle.ff_ids.specs.declared.summary.RecordKey.{RecordKey}
use Rattle.records.specs.declared.Record.{Record}
use Rattle.record_slots.specs.Held.{key_cmp}
use Rattle.datagram.specs.declared.Datagram.TheVariants as kinds
use Rattle.journal.specs.declared.event.Event as journal
use Rattle.node_rules.specs.Nodes.{Setting, state_of, certificate_of}
use Rattle.node_rules.specs.Calls.{Call, sends_to_all}
use Rattle.node_rules.specs.Ticking.{fresh, spreads_all, spreads}
use Rattle.audit_node.specs.declared.owing.Item.{Item}
use Rattle.audit_node.specs.Owing.{item_of}
use Rattle.audit_node.specs.News.{fresh_with}
use Rattle.audit_node.specs.Neighbours.{addressees}
use Rattle.audit_node.specs.Exchanging.{items_of}
use Rattle.audit_node.specs.Playing.{Kept, IsAt, Plays, Grows}
use Rattle.audit_node.proofs.PlayLemmas.{from-fine}
use Rattle.audit_node.specs.Sendable.{AreSendable}
use Rattle.audit_node.proofs.ExchangeLemmas.{given-sendable, items-held}

-- ---- what is added

pub fresh-off : (heal : Option Heal) (k : RecordKey) (news : List RecordKey) → is_some heal ≡ false → news ≡ fresh_with heal k news
fresh-off None k news off = refl
fresh-off (Some heal) k news off = absurd (false≢true (sym off))

pub fresh-known : (heal : Option Heal) (k : RecordKey) (news : List RecordKey) → list_any (eq_by_cmp key_cmp k) news ≡ true
    → news ≡ fresh_with heal k news
fresh-known None k news known = refl
fresh-known (Some heal) k news known = rw known refl

pub fresh-more : (heal : Option Heal) (k : RecordKey) (news : List RecordKey) → is_some heal ≡ true
    → list_any (eq_by_cmp key_cmp k) news ≡ false → news ++ k ∷ [] ≡ fresh_with heal k news
fresh-more None k news on new = absurd (false≢true on)
fresh-more (Some heal) k news on new = rw new refl

-- ---- how they go out

-- records that are some
pub some-spread : (s : Setting) (records : List Record) (c : Call) → records ≢ []
    → sends_to_all s (addressees s None (state_of s c.node)) (kinds.Records s.me records) c ≡ spreads_all s records c
some-spread s [] c some = absurd (some refl)
some-spread s (r ∷ records) c some = refl

pub fresh-given : (s : Setting) (es : List journal.Event) (v : Kept) (c : Call) → IsAt s es v c
    → map (item_of s) (items_of v.records v.news) ≡ fresh c.node
unfolding fresh
fresh-given s es v c h =
    let n = h.is in
    ap (λ (ks : List RecordKey). map (item_of s) (items_of v.records ks)) n.news ∙ items-held s v.records c.node.held c.node.news n.records

pub spread-given : (s : Setting) (es : List journal.Event) (v w : Kept) (c : Call) (items : List Item)
    → Plays s es v c → Grows v w → items ≡ items_of v.records v.news
    → ((rs : List Record) → map (item_of s) items ≡ rs → (0 < length items → AreSendable s items) → Plays s es w (spreads_all s rs c))
    → Plays s es w (spreads_all s (fresh c.node) c)
spread-given s es v w c items p grows are sent =
    from-fine s es v w c (spreads_all s (fresh c.node) c) p grows (λ h.
    sent (fresh c.node) (ap (map (item_of s)) are ∙ fresh-given s es v c h)
    (subst (λ (xs : List Item). 0 < length xs → AreSendable s xs) (sym are) (given-sendable s v c.node v.news h.is)))

-- records of items
pub no-items : {X Y : Type 0} (f : X → Y) (xs : List X) (ys : List Y) → length xs ≡ 0 → map f xs ≡ ys → ys ≡ []
no-items f [] ys none are = sym are
no-items f (x ∷ xs) ys none are = absurd (omega (arith, none))

pub some-items : {X Y : Type 0} (f : X → Y) (xs : List X) (ys : List Y) → length xs ≢ 0 → map f xs ≡ ys → ys ≢ []
some-items f [] ys some are = absurd (some refl)
some-items f (x ∷ xs) ys some are = λ none. not-none (are ∙ none)
  where
    not-none : {Y : Type 0} {y : Y} {ys : List Y} → y ∷ ys ≡ [] → ⊥
    not-none e = cc

-- what went out is news no more
abbrev pub told_all : Call → Call
told_all c = record c { node = record c.node { news = [] } }

pub spreads-is : (s : Setting) (c : Call) → spreads s c ≡ told_all (spreads_all s (fresh c.node) c)
unfolding spreads
spreads-is s c = refl

pub cleared-plays : (s : Setting) (es : List journal.Event) (v : Kept) (c : Call) (news : List RecordKey)
    → news ≡ [] → Plays s es v c → Plays s es (record v { news = news }) (told_all c)
unfolding state_of certificate_of
cleared-plays s es v c news none p = record {
  at = λ fine.
      let h = p.at fine in
      let n = h.is in
      record {
        is = record { setting = n.setting; signs = n.signs; holds = n.holds; stored = n.stored; records = n.records; roster = n.roster; probes = n.probes; news = none; since = n.since };
        told = h.told;
        sent = h.sent;
      };
}
