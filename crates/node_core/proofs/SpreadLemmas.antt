-- News: what is added to them, and how they go out.
use Rattle.std.proofs.Common.{◌≡◌, ◌≢◌, ℕ, true, false, List, [], ◌∷◌, ◌++◌, Option, Some, None, refl, ap, sym, ◌∙◌, subst}
use Rattle.std.specs.Prelude.{is_some}
use Rattle.std.specs.List.{list_any}
use Rattle.std.specs.Ordering.{eq_by_cmp}
use Rattle.std.proofs.lemmas.Bool.{false≢true}
use Rattle.ff_ids.specs.Heals.{Heal}
use Rattle.ff_ids.specs.declared.summary.RecordKey.{RecordKey}
use Rattle.records.specs.declared.Record.{Record}
use Rattle.record_set.specs.Held.{key_cmp}
use Rattle.datagram.specs.declared.Datagram.{Datagram}
use Rattle.datagram.specs.declared.Datagram.TheVariants as kinds
use Rattle.datagram.specs.Spelling.{datagram_bytes}
use Rattle.journal.specs.declared.event.Event as journal
use Rattle.node_rules.specs.Nodes.{Setting, state_of, certificate_of}
use Rattle.node_rules.specs.Calls.{Call, sends_to_all}
use Rattle.node_rules.specs.Ticking.{fresh, spreads_all, spreads}
use Rattle.node_core.specs.News.{fresh_with}
use Rattle.node_core.specs.Neighbours.{addressees}
use Rattle.node_core.specs.Exchanging.{given_of, IsGiven}
use Rattle.node_core.specs.Playing.{Kept, IsAt, Plays, Grows}
use Rattle.node_core.proofs.PlayLemmas.{setting-me, grows-refl}
use Rattle.node_core.proofs.ExtendLemmas.{extends-spreads_all}
use Rattle.node_core.proofs.DueLemmas.{from-fine}
use Rattle.node_core.proofs.ExchangeLemmas.{given-held}

-- ---- what is added

pub fresh-off : (heal : Option Heal) (k : RecordKey) (news : List RecordKey) → is_some heal ≡ false → news ≡ fresh_with heal k news
fresh-off None k news off = refl
fresh-off (Some heal) k news off = absurd (false≢true (sym off))

pub fresh-known : (heal : Option Heal) (k : RecordKey) (news : List RecordKey) → list_any (eq_by_cmp key_cmp k) news ≡ true
    → news ≡ fresh_with heal k news
fresh-known None k news known = refl
fresh-known (Some heal) k news known = rw known refl

pub fresh-more : (heal : Option Heal) (k : RecordKey) (news : List RecordKey) → is_some heal ≡ true
    → list_any (eq_by_cmp key_cmp k) news ≡ false → news ++ k ∷ [] ≡ fresh_with heal k news
fresh-more None k news on new = absurd (false≢true on)
fresh-more (Some heal) k news on new = rw new refl

-- ---- how they go out

some-spread : (s : Setting) (records : List Record) (c : Call) → records ≢ []
    → sends_to_all s (addressees s None (state_of s c.node)) (kinds.Records s.me records) c ≡ spreads_all s records c
some-spread s [] c some = absurd (some refl)
some-spread s (r ∷ records) c some = refl

fresh-given : (s : Setting) (es : List journal.Event) (os : List (ℕ × List ℕ)) (v : Kept) (c : Call) → IsAt s es os v c
    → fresh c.node ≡ given_of v.records v.news
unfolding fresh
fresh-given s es os v c h =
    let n = h.is in
    given-held v.records c.node.held c.node.news n.records ∙ ap (λ (ks : List RecordKey). given_of v.records ks) (sym n.news)

pub spread-some : (s : Setting) (es : List journal.Event) (os : List (ℕ × List ℕ)) (v w : Kept) (c : Call) (bytes : List ℕ)
    → Plays s es os v c → Grows v w → IsGiven v.me v.records v.news bytes
    → ((d : Datagram) → bytes ≡ datagram_bytes d → Plays s es os w (sends_to_all s (addressees s None (state_of s c.node)) d c))
    → Plays s es os w (spreads_all s (fresh c.node) c)
spread-some s es os v w c bytes p grows given sent =
    from-fine s es os v w c (spreads_all s (fresh c.node) c) p grows (extends-spreads_all s (fresh c.node) c) (λ h.
    let records : List Record = given_of v.records v.news in
    let me : v.me ≡ s.me = sym (setting-me s v.group v.heal v.me v.authority v.signer.key h.is.setting) in
    let spelled : bytes ≡ datagram_bytes (kinds.Records s.me records) =
    given.spelled ∙ ap (λ (m : ℕ). datagram_bytes (kinds.Records m records)) me in
    subst (Plays s es os w)
    (some-spread s records c given.some ∙ ap (λ (rs : List Record). spreads_all s rs c) (sym (fresh-given s es os v c h)))
    (sent (kinds.Records s.me records) spelled))

pub spread-none : (s : Setting) (es : List journal.Event) (os : List (ℕ × List ℕ)) (v : Kept) (c : Call) → Plays s es os v c
    → given_of v.records v.news ≡ [] → Plays s es os v (spreads_all s (fresh c.node) c)
spread-none s es os v c p none =
    from-fine s es os v v c (spreads_all s (fresh c.node) c) p (grows-refl v) (extends-spreads_all s (fresh c.node) c) (λ h.
    subst (λ (rs : List Record). Plays s es os v (spreads_all s rs c)) (sym (fresh-given s es os v c h ∙ none)) p)

-- what went out is news no more
abbrev pub told_all : Call → Call
told_all c = record c { node = record c.node { news = [] } }

pub spreads-is : (s : Setting) (c : Call) → spreads s c ≡ told_all (spreads_all s (fresh c.node) c)
unfolding spreads
spreads-is s c = refl

pub cleared-plays : (s : Setting) (es : List journal.Event) (os : List (ℕ × List ℕ)) (v : Kept) (c : Call) (news : List RecordKey)
    → news ≡ [] → Plays s es os v c → Plays s es os (record v { news = news }) (told_all c)
unfolding state_of certificate_of
cleared-plays s es os v c news none p = record {
  at = λ fine.
      let h = p.at fine in
      let n = h.is in
      record {
        is = record { setting = n.setting; holds = n.holds; stored = n.stored; records = n.records; roster = n.roster; probes = n.probes; news = none; since = n.since };
        told = h.told;
        sent = h.sent;
        before = h.before;
      };
  due = record { told = p.due.told; sent = p.due.sent };
}
