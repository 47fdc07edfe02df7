-- A node: what it is opened with, what it has come to, and what can be read off that.
use Rattle.std.specs.Prelude.{ℕ, Bool, ◌==◌, if◌then◌else◌, List, [], ◌∷◌, Option, Some, None, is_some, map, filter, fold, ◌++◌, filter_map, option_map}
use Rattle.std.specs.List.{list_any, range_with_len}
use Rattle.std.specs.Option.{option_and_then}
use Rattle.std.specs.Ordering.{eq_by_cmp}
use Rattle.ff_ids.specs.declared.Group.{Group}
use Rattle.ff_ids.specs.declared.AccBody.{AccBody}
use Rattle.ff_ids.specs.Heals.{Heal}
use Rattle.ff_ids.specs.declared.summary.RecordKey.{RecordKey}
use Rattle.ff_ids.specs.declared.summary.RecordKey.TheVariants as keys
use Rattle.ff_ids.specs.Masks.{ring_count}
use Rattle.ff_ids.specs.Views.{State, all_numbers, successor}
use Rattle.ff_ids.specs.Steps.{Event, Joins, Notes, Accuses, Report}
use Rattle.ff_ids.specs.Lives.{opening, after}
use Rattle.records.specs.declared.keys.Key.{Key}
use Rattle.records.specs.declared.CertBody.{CertBody}
use Rattle.records.specs.declared.Body.{Body}
use Rattle.records.specs.declared.Body.TheVariants.{Certificate, Note, Accusation}
use Rattle.records.specs.declared.Record.{Record}
use Rattle.epoch_store.specs.declared.Stored.{Stored}
use Rattle.record_set.specs.Held.{key_cmp, key_of}
use Rattle.detector.specs.Silence.{History}

-- What a node is opened with: its group, its own number, the authority's key, and how many indexes its own key has.
-- What hashes and signatures are is no rule of membership: the places of a member on the rings, whether a record's
-- signature verifies under a key, and the node's own signature of an index over a body. And whether nodes that lost each
-- other are to come together again.
pub record Setting : Type 0 where
  pub group : Group
  pub me : ℕ
  pub authority : Key
  pub indexes : ℕ
  pub heal : Option Heal
  pub places : ℕ → List (List ℕ)
  pub verifies : Key → Record → Bool
  pub signature : ℕ → Body → List ℕ

-- The records that are held: under each key the one that was accepted or signed last.
abbrev pub Holding : Type 0
Holding = RecordKey → Option Record

-- What a node has come to: the membership events of its life so far, the records that it holds, what its store keeps,
-- and the probes of the life; the keys of the notes and accusations that it accepted since its last due tick; and the epoch
-- of its own note as the present span of one timeout began.
pub record Node : Type 0 where
  pub lived : List Event
  pub held : Holding
  pub stored : Stored
  pub probes : History
  pub news : List RecordKey
  pub since : ℕ

-- The state of its life, which opened with nobody.
unfoldable pub state_of : Setting → Node → State
state_of s n = after s.group (opening []) n.lived

-- What a record brings to the life.
abbrev pub event_of : Setting → Body → Event
event_of s (Certificate c) = Joins c.member (s.places c.member)
event_of s (Note n) = Notes n
event_of s (Accusation a) = Accuses a

-- ---- records

abbrev pub nothing_held : Holding
nothing_held k = None

-- The record takes the place of what its key held.
abbrev pub with_record : Record → Holding → Holding
with_record r held k = if eq_by_cmp key_cmp k (key_of r.body) then Some r else held k

-- Nothing is held under this key any more.
abbrev pub without : Holding → RecordKey → Holding
without held gone k = if eq_by_cmp key_cmp k gone then None else held k

abbrev pub key_of_accusation : AccBody → RecordKey
key_of_accusation a = keys.Accusation a.accused a.ring

-- What a step reports as expired or fallen is held no more.
abbrev pub without_ended : Report → Holding → Holding
without_ended r held = fold without held (map key_of_accusation (r.expired ++ r.fell))

-- What has expired against a member is held as that by which it was removed, in place of an earlier one.
abbrev pub retired : Holding → AccBody → Holding
retired held a k = if eq_by_cmp key_cmp k (keys.Removal a.accused) then held (key_of_accusation a) else held k

-- It is held so alone.
abbrev pub moved : Holding → AccBody → Holding
moved held a = without (retired held a) (key_of_accusation a)

-- With the option the accusation by which a member was removed is held on; of several, that on the highest ring.
abbrev pub retires : Option Heal → Report → Holding → Holding
retires None r held = held
retires (Some heal) r held = fold moved held r.expired

-- A note that is accepted ends the removal of its member.
abbrev pub without_removal : Body → Holding → Holding
without_removal (Certificate c) held = held
without_removal (Note n) held = without held (keys.Removal n.member)
without_removal (Accusation a) held = held

-- The keys with this one, each once.
abbrev pub with_key : RecordKey → List RecordKey → List RecordKey
with_key k news = if list_any (eq_by_cmp key_cmp k) news then news else news ++ k ∷ []

-- A note or an accusation that is accepted is news, with the option.
abbrev pub with_news : Option Heal → Body → List RecordKey → List RecordKey
with_news None b news = news
with_news (Some heal) (Certificate c) news = news
with_news (Some heal) (Note n) news = with_key (key_of (Note n)) news
with_news (Some heal) (Accusation a) news = with_key (key_of (Accusation a)) news

abbrev pub certificate_in : Body → Option CertBody
certificate_in (Certificate c) = Some c
certificate_in (Note n) = None
certificate_in (Accusation a) = None

-- The certificate of the member.
unfoldable pub certificate_of : Node → ℕ → Option CertBody
certificate_of n m = option_and_then (λ r. certificate_in r.body) (n.held (keys.Certificate m))

abbrev pub is_certified : Node → ℕ → Bool
is_certified n m = is_some (certificate_of n m)

abbrev pub public_key_of : Node → ℕ → Option Key
public_key_of n m = option_map (λ c. c.key) (certificate_of n m)

-- Those with a certificate, in order of number.
abbrev pub certified : Node → List ℕ
certified n = filter (is_certified n) all_numbers

-- ---- neighbours

-- The numbers that are listed, each once, in order.
abbrev pub in_order : List ℕ → List ℕ
in_order listed = filter (λ m. list_any (λ x. x == m) listed) all_numbers

abbrev pub rings_of : Setting → List ℕ
rings_of s = range_with_len 0 (ring_count s.group.t)

-- The node's successors on all rings, with repeats.
abbrev pub successors : Setting → State → List ℕ
successors s st = filter_map (λ ring. successor st ring s.me) (rings_of s)

-- A node's neighbours are its successors.
unfoldable pub neighbours : Setting → State → List ℕ
neighbours s st = in_order (successors s st)

-- The neighbours and this member.
unfoldable pub neighbours_and : Setting → ℕ → State → List ℕ
neighbours_and s m st = in_order (m ∷ successors s st)
