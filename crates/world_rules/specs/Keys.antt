-- The keys of a world: each is made from a secret that the group's tag and the owner's number give.
use Rattle.std.specs.Prelude.{ℕ, ◌+◌, ◌^◌, List, Option, Some, None}
use Rattle.std.specs.Result.{is_ok}
use Rattle.ff_ids.specs.declared.Group.{Group}
use Rattle.ff_ids.specs.Heals.{Heal}
use Rattle.lms_tree.specs.declared.TreeKind.{TreeKind}
use Rattle.lms_tree.specs.Kinds.{height, leaf_count}
use Rattle.records.specs.Keys.{verdict_of}
use Rattle.records.specs.Signing.{signed_bytes}
use Rattle.ring_order.specs.Hashed.{hashed_places}
use Rattle.secrets.specs.Secrets.{key_from, nonce_seed, world_secret}
use Rattle.sign_keys.specs.declared.kinds.Kinds.{Kinds}
use Rattle.sign_keys.specs.Keys.{KeySecret, public_key, signature_of}
use Rattle.detector.specs.Silence.{nonce}
use Rattle.world_rules.specs.Settings.{Owner, Setting}

-- The authority's secret is that of a number which no member has.
abbrev pub owner_number : Owner → ℕ
owner_number None = 65535
owner_number (Some m) = m

abbrev pub owner_secret : Group → Owner → List ℕ
owner_secret g who = world_secret g.tag (owner_number who)

-- All keys are of the same kinds, but that the authority's has one level.
abbrev pub owner_kinds : Kinds → Owner → Kinds
owner_kinds kinds None = record { ots = kinds.ots; tree = kinds.tree; bottom = None }
owner_kinds kinds (Some m) = kinds

abbrev pub owner_key : Group → Kinds → Owner → KeySecret
owner_key g kinds who = key_from (owner_kinds kinds who) (owner_secret g who)

-- How many indexes a key of these kinds has.
abbrev pub indexes_by : TreeKind → Option TreeKind → ℕ
indexes_by tree None = leaf_count tree
indexes_by tree (Some bottom) = 2 ^ (height tree + height bottom)

abbrev pub indexes_of : Kinds → ℕ
indexes_of kinds = indexes_by kinds.tree kinds.bottom

-- What a world is opened with whose keys are of these kinds: hashed places, signatures over the signed bytes of a record,
-- and their verdicts.
unfoldable pub setting_for : Group → Kinds → Option Heal → List ℕ → List ℕ → Setting
setting_for g kinds heal correct liars =
    record {
      group = g;
      heal = heal;
      indexes = indexes_of kinds;
      authority_indexes = leaf_count kinds.tree;
      correct = correct;
      liars = liars;
      places = hashed_places g.tag g.t;
      verifies = λ public r. is_ok (verdict_of public (signed_bytes g.tag g.t r.body) r.signature);
      key = λ who. public_key (owner_key g kinds who);
      signature = λ who index body. signature_of (owner_key g kinds who) index (signed_bytes g.tag g.t body);
      nonces = λ m first. nonce (nonce_seed (owner_secret g (Some m)) first);
    }
