-- The fields that the lines of several texts have, and what their values make.
use Rattle.std.specs.Prelude.{◌≡◌, ℕ, ◌≤◌, not, List, [], length, Option, Some, None}
use Rattle.ff_ids.specs.declared.TheConstants.{MAX_TOLERANCE}
use Rattle.ff_ids.specs.declared.Group.{Group}
use Rattle.lms_ots.specs.Ots as ots
use Rattle.lms_ots.specs.declared.kind.OtsKind.{OtsKind}
use Rattle.lms_ots.specs.declared.kind.OtsKind.TheVariants.{W1}
use Rattle.lms_tree.specs.Kinds as tree
use Rattle.lms_tree.specs.declared.kind.TreeKind.{TreeKind}
use Rattle.lms_tree.specs.declared.kind.TreeKind.TheVariants.{H5}
use Rattle.lms_tree.specs.declared.key.PublicKey.{PublicKey}
use Rattle.lms_tree.specs.Keys as lms_keys
use Rattle.lms_tree.specs.Lms as lms
use Rattle.lms_tree.proofs.Keys as lms_proofs
use Rattle.records.specs.declared.keys.Key.{Key}
use Rattle.records.specs.declared.keys.Key.TheVariants as keys
use Rattle.records.specs.Keys.{AreKey, key_in}
use Rattle.records.proofs.KeyParts.{key-again, key-are}
use Rattle.records.specs.declared.CertBody.{CertBody}
use Rattle.sign_keys.specs.declared.kinds.Kinds.{Kinds}
use Rattle.sign_keys.specs.Kinds.{is_in_profile}
use Rattle.line_text.specs.declared.bad_word.BadWord.{BadWord}
use Rattle.line_text.specs.declared.bad_word.BadWord.TheVariants as bad
use Rattle.line_text.specs.Fields.{Test, bad_where}
use Rattle.line_text.specs.Shapes.{◌and◌, Field, Fields, Values, bytes_as, bytes_of, line_from, made_of, maybe, no_more, number_as, number_from, test, tests, tests_for, value}
use Rattle.schedule_texts.specs.KindTables.{ots_wide, tree_high}
pub use Rattle.schedule_texts.specs.KindTables.{ots_of_width, tree_of_height}

-- ## The group

-- The numbers of a group are within their limits, and its tag has 16 bytes.
pub record IsGroup (g : Group) : Type 0 where
  pub t_low : 1 ≤ g.t
  pub t_high : g.t ≤ MAX_TOLERANCE
  pub timeout_low : 1 ≤ g.timeout
  pub timeout_high : g.timeout ≤ 10000
  pub period_low : 1 ≤ g.period
  pub period_high : g.period ≤ 1000
  pub misses_low : 1 ≤ g.misses
  pub misses_high : g.misses ≤ 16
  pub tag_long : length g.tag ≡ 16

-- T TIMEOUT PERIOD MISSES TAG
abbrev pub group_shape : Fields
group_shape = number_from 1 MAX_TOLERANCE and number_from 1 10000 and number_from 1 1000 and number_from 1 16 and bytes_of 16 and no_more

abbrev pub group_of : ℕ → ℕ → ℕ → ℕ → List ℕ → Group
group_of t timeout period misses tag = record { tag = tag; t = t; timeout = timeout; period = period; misses = misses }

abbrev pub group_values : Group → Values group_shape
group_values g = (g.t, (g.timeout, (g.period, (g.misses, (g.tag, tt)))))

abbrev pub group_fields : List Test
group_fields = tests group_shape

abbrev pub group_in : List (List ℕ) → Group
group_in args = line_from group_shape group_of args

-- ## The kinds of a key

-- 1, 2, 4 or 8
abbrev pub width_field : Field
width_field = number_as ots_of_width W1 ots.width ots_wide

abbrev pub width : Test
width word = test width_field word

abbrev pub ots_in_word : List ℕ → OtsKind
ots_in_word word = value width_field word

-- 5, 10 or 15
abbrev pub height_field : Field
height_field = number_as tree_of_height H5 tree.height tree_high

abbrev pub height : Test
height word = test height_field word

abbrev pub tree_in_word : List ℕ → TreeKind
tree_in_word word = value height_field word

-- W H, or W H H1
abbrev pub kinds_shape : Fields
kinds_shape = width_field and height_field and maybe height_field

abbrev pub kinds_of : OtsKind → TreeKind → Option TreeKind → Kinds
kinds_of wide high low = record { ots = wide; tree = high; bottom = low }

abbrev pub kinds_values : Kinds → Values kinds_shape
kinds_values k = (k.ots, (k.tree, k.bottom))

abbrev pub kinds_fields : List (List ℕ) → List Test
kinds_fields args = tests_for kinds_shape args

abbrev pub kinds_in : List (List ℕ) → Kinds
kinds_in args = line_from kinds_shape kinds_of args

-- there are no keys of these kinds
abbrev pub unfit : Kinds → Option BadWord
unfit k = bad_where bad.Limit (not (is_in_profile k))

abbrev pub kinds_fault : Values kinds_shape → Option BadWord
kinds_fault vs = unfit (made_of kinds_shape kinds_of vs)

abbrev pub kinds_fault_in : List (List ℕ) → Option BadWord
kinds_fault_in args = unfit (kinds_in args)

-- W H: of a key of one level
abbrev pub one_level_shape : Fields
one_level_shape = width_field and height_field and no_more

abbrev pub one_level_of : OtsKind → TreeKind → Kinds
one_level_of wide high = kinds_of wide high None

abbrev pub one_level_values : Kinds → Values one_level_shape
one_level_values k = (k.ots, (k.tree, tt))

abbrev pub one_level_fields : List Test
one_level_fields = tests one_level_shape

abbrev pub one_level_in : List (List ℕ) → Kinds
one_level_in args = line_from one_level_shape one_level_of args

-- W H H1: of a key of two levels
abbrev pub two_level_shape : Fields
two_level_shape = width_field and height_field and height_field and no_more

abbrev pub two_level_of : OtsKind → TreeKind → TreeKind → Kinds
two_level_of wide high low = kinds_of wide high (Some low)

abbrev pub two_level_fields : List Test
two_level_fields = tests two_level_shape

abbrev pub two_level_in : List (List ℕ) → Kinds
two_level_in args = line_from two_level_shape two_level_of args

abbrev pub two_level_fault : List (List ℕ) → Option BadWord
two_level_fault args = unfit (two_level_in args)

-- ## Secrets, ports and keys

-- a secret has 32 bytes
abbrev pub secret_shape : Fields
secret_shape = bytes_of 32 and no_more

abbrev pub secret_fields : List Test
secret_fields = tests secret_shape

abbrev pub secret_in : List (List ℕ) → List ℕ
secret_in args = line_from secret_shape (λ secret. secret) args

abbrev pub port_field : Field
port_field = number_from 1 65535

abbrev pub port : Test
port word = test port_field word

-- a key in 56 bytes; where a word has none, this one stands for it, and the word is refused
abbrev pub any_lms_key : PublicKey
any_lms_key = record { tree = H5; ots = W1; id = []; root = [] }

abbrev pub lms_key_field : Field
lms_key_field = bytes_as lms.key_in any_lms_key lms_keys.AreKey lms_proofs.key-are lms_proofs.key-again

abbrev pub lms_key : Test
lms_key word = test lms_key_field word

abbrev pub lms_key_in_word : List ℕ → PublicKey
lms_key_in_word word = value lms_key_field word

-- the same of a member's key
abbrev pub any_key : Key
any_key = keys.Lms any_lms_key

abbrev pub key_field : Field
key_field = bytes_as key_in any_key AreKey key-are key-again

abbrev pub key : Test
key word = test key_field word

abbrev pub key_in_word : List ℕ → Key
key_in_word word = value key_field word

abbrev pub cert_of : ℕ → ℕ → Key → CertBody
cert_of m at own = record { member = m; port = at; key = own }
