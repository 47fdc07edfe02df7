-- What a world is opened with, and whose signatures there are in it.
use Rattle.std.specs.Prelude.{ℕ, ◌+◌, Bool, false, ◌&&◌, ◌==◌, bytes_eq, List, [], ◌∷◌, ◌++◌, Option, Some, None, map}
use Rattle.std.specs.List.{list_any}
use Rattle.ff_ids.specs.declared.Group.{Group}
use Rattle.ff_ids.specs.Heals.{Heal}
use Rattle.ff_ids.specs.Faults.{same_accusation}
use Rattle.records.specs.declared.keys.Key.{Key}
use Rattle.records.specs.Keys.{key_bytes}
use Rattle.records.specs.declared.CertBody.{CertBody}
use Rattle.records.specs.declared.Body.{Body}
use Rattle.records.specs.declared.Body.TheVariants.{Certificate, Note, Accusation}
use Rattle.records.specs.declared.Record.{Record}
use Rattle.node_rules.specs.Nodes as node

-- Whose a key is: a member's, or the authority's, which has no number.
abbrev pub Owner : Type 0
Owner = Option ℕ

-- What a world is opened with: the group, whether nodes of it that lost each other are to come together again, how many
-- indexes the key of each member has, and how many the authority's, which members are correct and which lie. What hashes
-- and signatures are is no rule of a world: the places of a member on the rings, whether a record's signature verifies under
-- a key, the public half of an owner's key, the signature with it of an index over a body, and the nonces of a
-- member's life, by the next index that its store keeps as the life begins.
pub record Setting : Type 0 where
  pub group : Group
  pub heal : Option Heal
  pub indexes : ℕ
  pub authority_indexes : ℕ
  pub correct : List ℕ
  pub liars : List ℕ
  pub places : ℕ → List (List ℕ)
  pub verifies : Key → Record → Bool
  pub key : Owner → Key
  pub signature : Owner → ℕ → Body → List ℕ
  pub nonces : ℕ → ℕ → ℕ → ℕ

-- How many indexes the owner's key has.
abbrev pub indexes_for : Setting → Owner → ℕ
indexes_for s None = s.authority_indexes
indexes_for s (Some m) = s.indexes

-- ---- who there is

-- The member is a node: it is correct.
abbrev pub is_node : Setting → ℕ → Bool
is_node s m = list_any (λ x. x == m) s.correct

abbrev pub is_liar : Setting → ℕ → Bool
is_liar s m = list_any (λ x. x == m) s.liars

-- The nodes, in order of number.
unfoldable pub nodes : Setting → List ℕ
nodes s = node.in_order s.correct

-- All who have a certificate, in order of number.
unfoldable pub members : Setting → List ℕ
members s = node.in_order (s.correct ++ s.liars)

-- ---- signatures

-- A signature that was made: by whose key, its index, and over which body.
pub record Signed : Type 0 where
  pub who : Owner
  pub index : ℕ
  pub body : Body

-- The record with this signature.
abbrev pub record_of : Setting → Signed → Record
record_of s x = record { body = x.body; signature = s.signature x.who x.index x.body }

abbrev pub same_owner : Owner → Owner → Bool
same_owner None None = Bool.true
same_owner (Some a) (Some b) = a == b
same_owner _ _ = false

abbrev pub same_body : Body → Body → Bool
same_body (Certificate c) (Certificate d) = (c.member == d.member) && (c.port == d.port) && bytes_eq (key_bytes c.key) (key_bytes d.key)
same_body (Note n) (Note m) = (n.member == m.member) && (n.epoch == m.epoch) && (n.mask.0 == m.mask.0)
same_body (Accusation a) (Accusation b) = same_accusation a b
same_body _ _ = false

-- ---- certificates

-- A member's port is its number above 20,000.
abbrev pub certificate : Setting → ℕ → CertBody
certificate s m = record { member = m; port = 20000 + m; key = s.key (Some m) }

abbrev pub certified_from : Setting → ℕ → List ℕ → List Signed
certified_from s index [] = []
certified_from s index (m ∷ ms) = record { who = None; index = index; body = Certificate (certificate s m) } ∷ certified_from s (index + 1) ms

-- The authority signs the certificates of all, in order of number.
unfoldable pub by_authority : Setting → List Signed
by_authority s = certified_from s 0 (members s)

abbrev pub certificates : Setting → List Record
certificates s = map (record_of s) (by_authority s)

-- ---- a node's own

-- What a node is opened with.
abbrev pub setting_of : Setting → ℕ → node.Setting
setting_of s m =
    record {
      group = s.group;
      me = m;
      authority = s.key None;
      indexes = s.indexes;
      heal = s.heal;
      places = s.places;
      verifies = s.verifies;
      signature = s.signature (Some m);
    }
