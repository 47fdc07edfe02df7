-- The lines from the header to the line `journal` are those of a head, and what the text demands holds of it.
use Rattle.std.proofs.Common.{◌≡◌, ◌≢◌, ℕ, ◌<◌, ◌≤◌, ◌==◌, Bool, true, false, not, cond, nat_eq, List, [], ◌∷◌, ◌++◌, length, replicate, Option, Some, None, Ok, refl, sym, ap, subst, ◌∙◌, arith}
use Rattle.std.specs.Prelude.{is_some, slice_set}
use Rattle.std.specs.List.{AllByRecursion}
use Rattle.std.proofs.lemmas.Bool.{false≢true, not-false}
use Rattle.std.proofs.lemmas.List.{get_or-set_same, get_or-set_other, length-replicate, length-set}
use Rattle.ff_ids.specs.declared.Group.{Group}
use Rattle.ff_ids.specs.declared.Mask.{Mask}
use Rattle.ff_ids.specs.declared.TheConstants.{LAST_MEMBER, MEMBERS}
use Rattle.ff_ids.specs.Heals.{Heal}
use Rattle.lms_tree.specs.declared.kind.TreeKind.{TreeKind}
use Rattle.lms_tree.specs.declared.key.PublicKey.{PublicKey}
use Rattle.records.specs.declared.Body.{Body}
use Rattle.records.specs.declared.Body.TheVariants.{Certificate}
use Rattle.records.specs.declared.CertBody.{CertBody}
use Rattle.records.specs.declared.keys.Key.{Key}
use Rattle.records.specs.declared.keys.Key.TheVariants as keys
use Rattle.records.specs.Keys.{AreKey}
use Rattle.records.specs.Signing.{CheckedRecord}
use Rattle.sign_keys.specs.Kinds.{is_in_profile}
use Rattle.line_text.specs.declared.bad_word.BadWord.TheVariants as bad
use Rattle.line_text.specs.Shapes.{Values}
use Rattle.line_text.specs.Tables.{SpellsParts}
use Rattle.line_text.proofs.FrameLemmas.{passed}
use Rattle.line_text.proofs.ShapeLemmas.{all-in_range}
use Rattle.schedule_texts.proofs.FieldLemmas.{group-is}
use Rattle.schedule_texts.specs.Shared.{IsGroup, group_shape, group_values, kinds_of}
use Rattle.schedule_texts.specs.KitLaws.{cert-whole}
use Rattle.schedule_texts.specs.KitRows.{cert_shape, checked_as, is_named}
use Rattle.schedule_texts.specs.HeadGrammar.{IsHead, after, certified_by}
use Rattle.schedule_texts.specs.HeadRows.{cert_parts, head_table, may_stand, own_above, own_shape, state_of, state_parts, state_shape, state_values}
use Rattle.schedule_texts.specs.HeadValues.{AreHead, AreOfOthers, HasBottom, HeadValue, IsCertIn, IsOfAnother, IsSoundHead, IsState, Walks, body_lines, cert_lines, heal_lines, own_among, own_behind}
use Rattle.schedule_texts.specs.declared.head.HeadText.{HeadText}
use Rattle.schedule_texts.specs.declared.head.HeadText.TheVariants as head
use Rattle.schedule_texts.specs.declared.head_line.HeadLine.{HeadLine}
use Rattle.schedule_texts.specs.declared.head_line.HeadLine.TheVariants as lines
use Rattle.schedule_texts.specs.declared.head_line.LineWord.TheVariants as words

-- ## Where a line doesn't stand

no-cert : (form : HeadText) (ws : List (List ℕ)) (x : CheckedRecord) (b : Body) → may_stand form words.Cert ≡ false → SpellsParts head_table form ws (lines.Cert x) (cert_parts form b x.rec.signature) → ⊥
no-cert form ws x (Certificate c) none h = false≢true (sym none ∙ h.stands)
no-cert form ws x _ none h = absurd (let e = h.made in cc)

no-state : (form : HeadText) (ws : List (List ℕ)) (l : HeadLine) (next epoch : ℕ) (mask : Mask) (low : Option TreeKind) → l ≡ lines.State next epoch mask low → (o : Option (Values (state_shape (own_above form)))) → may_stand form words.State ≡ false → SpellsParts head_table form ws l (state_parts form o) → ⊥
no-state form ws l next epoch mask low is None none h = absurd (let e = h.made in cc)
no-state form ws l next epoch mask low is (Some vs) none h = false≢true (sym none ∙ h.stands)

-- ## From the certificates on

-- A certificate of a number that had none.
record IsNewCert (g : Group) (authority : PublicKey) (named : List Bool) (x : CheckedRecord) : Type 0 where
  good : IsCertIn g authority x
  body : x.rec.body ≡ Certificate good.cert
  new : is_named named good.cert.member ≡ false

cert-new : (g : Group) (me : ℕ) (authority : PublicKey) (named : List Bool) (own : Option Key) (ws : List (List ℕ)) (x : CheckedRecord) (b : Body)
    → SpellsParts head_table (head.Body g me authority named own) ws (lines.Cert x) (cert_parts (head.Body g me authority named own) b x.rec.signature) → IsNewCert g authority named x
cert-new g me authority named own ws x (Certificate c) h =
    let vs : Values cert_shape = (c.member, (c.port, (c.key, (x.rec.signature, tt)))) in
    let range = all-in_range cert_shape h.args vs h.spells in
    let made : lines.Cert (checked_as g authority c x.rec.signature) ≡ lines.Cert x = h.made in
    let is : x ≡ checked_as g authority c x.rec.signature = cc in
    let whole = cert-whole g authority named vs h.whole in
    let key : (bytes : List ℕ) × AreKey bytes c.key = range.1.1.0 in
    record {
      good = record { cert = c; is = is; member = range.0.1; port = range.1.0.0; key = key.1.parts; verifies = whole.verifies };
      body = ap (λ (y : CheckedRecord). y.rec.body) is;
      new = whole.new;
    }
cert-new g me authority named own ws x _ h = absurd (let e = h.made in cc)

-- Certificates that follow, of numbers that have none yet, the state and the line `journal`.
record Rest (g : Group) (me : ℕ) (authority : PublicKey) (named : List Bool) (own : Option Key) (ls : List HeadLine) : Type 0 where
  certificates : List CheckedRecord
  next : ℕ
  epoch : ℕ
  mask : ℕ
  bottom : Option TreeKind
  are : ls ≡ body_lines certificates next epoch mask bottom
  new : AllByRecursion (IsNewCert g authority named) certificates
  apart : AreOfOthers certificates
  owned : is_some (own_among me own certificates) ≡ true
  state : IsState (own_among me own certificates) next epoch mask bottom

-- of a number that has none once this one has one, and not of this one
new-before : (g : Group) (authority : PublicKey) (named : List Bool) (m : ℕ) (x : CheckedRecord) → m < length named → IsNewCert g authority (slice_set named m true) x → IsNewCert g authority named x × IsOfAnother m x
new-before g authority named m x few h = (
  record { good = h.good; body = h.body; new = sym (get_or-set_other named m h.good.cert.member true false other) ∙ h.new },
  λ c it same. other (let e : Certificate h.good.cert ≡ Certificate c = sym h.body ∙ it in let one : h.good.cert.member ≡ c.member = cc in one ∙ same),
)
  where
    other : h.good.cert.member ≢ m
    other same = false≢true (sym h.new ∙ ap (is_named (slice_set named m true)) same ∙ get_or-set_same named m true false few)

all-before : (g : Group) (authority : PublicKey) (named : List Bool) (m : ℕ) (xs : List CheckedRecord) → m < length named → AllByRecursion (IsNewCert g authority (slice_set named m true)) xs → AllByRecursion (IsNewCert g authority named) xs × AllByRecursion (IsOfAnother m) xs
all-before g authority named m [] few all = (tt, tt)
all-before g authority named m (x ∷ xs) few all =
    let one = new-before g authority named m x few all.0 in
    let others = all-before g authority named m xs few all.1 in
    ((one.0, others.0), (one.1, others.1))

one-more : (g : Group) (me : ℕ) (authority : PublicKey) (named : List Bool) (own : Option Key) (x : CheckedRecord) (ls : List HeadLine) (h : IsNewCert g authority named x) → length named ≡ MEMBERS
    → Rest g me authority (slice_set named h.good.cert.member true) (cond (h.good.cert.member == me) (Some h.good.cert.key) own) ls → Rest g me authority named own (lines.Cert x ∷ ls)
one-more g me authority named own x ls h room rest =
    let few : h.good.cert.member < length named = omega (arith, h.good.member, room) in
    let before = all-before g authority named h.good.cert.member rest.certificates few rest.new in
    let same : cond (h.good.cert.member == me) (Some h.good.cert.key) own ≡ own_behind me own x.rec.body = rw h.body refl in
    record {
      certificates = x ∷ rest.certificates;
      next = rest.next;
      epoch = rest.epoch;
      mask = rest.mask;
      bottom = rest.bottom;
      are = ap (λ (more : List HeadLine). lines.Cert x ∷ more) rest.are;
      new = (h, before.0);
      apart = (
        λ c it. let e : Certificate h.good.cert ≡ Certificate c = sym h.body ∙ it in let one : h.good.cert.member ≡ c.member = cc in subst (λ (m : ℕ). AllByRecursion (IsOfAnother m) rest.certificates) one before.1,
        rest.apart,
      );
      owned = subst (λ (o : Option Key). is_some (own_among me o rest.certificates) ≡ true) same rest.owned;
      state = subst (λ (o : Option Key). IsState (own_among me o rest.certificates) rest.next rest.epoch rest.mask rest.bottom) same rest.state;
    }

state-is : (g : Group) (me : ℕ) (authority : PublicKey) (named : List Bool) (own : Option Key) (ws : List (List ℕ)) (next epoch : ℕ) (mask : Mask) (low : Option TreeKind)
    → IsHead (head.Body g me authority named own) ws (lines.State next epoch mask low) → IsState own next epoch mask.0 low
state-is g me authority named None ws next epoch mask None h =
    let range = all-in_range (state_shape None) h.args (next, (epoch, (mask.0, tt))) h.spells in
    record { next_high = range.0; epoch_high = range.1.0; mask_high = range.1.1.0.1; height = refl }
state-is g me authority named None ws next epoch mask (Some low) h = absurd (false≢true h.stands)
state-is g me authority named (Some (keys.Lms key)) ws next epoch mask None h =
    let range = all-in_range (state_shape (Some (keys.Lms key))) h.args (next, (epoch, (mask.0, tt))) h.spells in
    record { next_high = range.0; epoch_high = range.1.0; mask_high = range.1.1.0.1; height = refl }
state-is g me authority named (Some (keys.Lms key)) ws next epoch mask (Some low) h = absurd (false≢true h.stands)
state-is g me authority named (Some (keys.Hss key)) ws next epoch mask None h = absurd (false≢true h.stands)
state-is g me authority named (Some (keys.Hss key)) ws next epoch mask (Some low) h =
    let range = all-in_range (state_shape (Some (keys.Hss key))) h.args (next, (epoch, (mask.0, (low, tt)))) h.spells in
    let fit = is_in_profile (kinds_of key.top.ots key.top.tree (Some low)) in
    record { next_high = range.0; epoch_high = range.1.0; mask_high = range.1.1.0.1; height = not-false fit (passed bad.Limit (not fit) h.whole) }

at-ended : (ls : List HeadLine) → Walks head.Ended ls head.Ended → ls ≡ []
at-ended [] w = refl
at-ended (lines.Cert x ∷ ls) w = absurd (no-cert head.Ended w.0.0 x x.rec.body refl w.0.1)
at-ended (lines.State next epoch mask low ∷ ls) w =
    absurd (no-state head.Ended w.0.0 (lines.State next epoch mask low) next epoch mask low refl (state_values None next epoch mask.0 low) refl w.0.1)
at-ended (_ ∷ ls) w = absurd (false≢true w.0.1.stands)

at-stated : (owned : Bool) (ls : List HeadLine) → Walks (head.Stated owned) ls head.Ended → (owned ≡ true) × (ls ≡ lines.Journal ∷ [])
at-stated owned [] w = absurd cc
at-stated owned (lines.Journal ∷ ls) w =
    (not-false owned (passed bad.OwnKey (not owned) w.0.1.whole), ap (λ (more : List HeadLine). lines.Journal ∷ more) (at-ended ls w.1))
at-stated owned (lines.Cert x ∷ ls) w = absurd (no-cert (head.Stated owned) w.0.0 x x.rec.body refl w.0.1)
at-stated owned (lines.State next epoch mask low ∷ ls) w =
    absurd (no-state (head.Stated owned) w.0.0 (lines.State next epoch mask low) next epoch mask low refl (state_values None next epoch mask.0 low) refl w.0.1)
at-stated owned (_ ∷ ls) w = absurd (false≢true w.0.1.stands)

at-body : (g : Group) (me : ℕ) (authority : PublicKey) (named : List Bool) (own : Option Key) (ls : List HeadLine) → length named ≡ MEMBERS → Walks (head.Body g me authority named own) ls head.Ended → Rest g me authority named own ls
at-body g me authority named own [] room w = absurd cc
at-body g me authority named own (lines.Cert x ∷ ls) room w =
    let new = cert-new g me authority named own w.0.0 x x.rec.body w.0.1 in
    let m = new.good.cert.member in
    let later : Walks (certified_by (Certificate new.good.cert) (head.Body g me authority named own)) ls head.Ended =
    subst (λ (b : Body). Walks (certified_by b (head.Body g me authority named own)) ls head.Ended) new.body w.1 in
    one-more g me authority named own x ls new room (at-body g me authority (slice_set named m true) (cond (m == me) (Some new.good.cert.key) own) ls (length-set named m true ∙ room) later)
at-body g me authority named own (lines.State next epoch mask low ∷ ls) room w =
    let rest = at-stated (is_some own) ls w.1 in
    record {
      certificates = [];
      next = next;
      epoch = epoch;
      mask = mask.0;
      bottom = low;
      are = ap (λ (more : List HeadLine). lines.State next epoch mask low ∷ more) rest.1;
      new = tt;
      apart = tt;
      owned = rest.0;
      state = state-is g me authority named own w.0.0 next epoch mask low w.0.1;
    }
at-body g me authority named own (_ ∷ ls) room w = absurd (false≢true w.0.1.stands)

-- ## From the header on

record FromOwn (g : Group) (ls : List HeadLine) : Type 0 where
  me : ℕ
  member : me ≤ LAST_MEMBER
  authority : PublicKey
  more : List HeadLine
  are : ls ≡ lines.Own me ∷ lines.Authority authority ∷ more
  rest : Rest g me authority (replicate MEMBERS false) None more

-- the authority's key
record FromKey (g : Group) (me : ℕ) (ls : List HeadLine) : Type 0 where
  authority : PublicKey
  more : List HeadLine
  are : ls ≡ lines.Authority authority ∷ more
  rest : Rest g me authority (replicate MEMBERS false) None more

at-owned : (g : Group) (me : ℕ) (ls : List HeadLine) → Walks (head.Owned g me) ls head.Ended → FromKey g me ls
at-owned g me [] w = absurd cc
at-owned g me (lines.Authority authority ∷ ls) w =
    record { authority = authority; more = ls; are = refl; rest = at-body g me authority (replicate MEMBERS false) None ls (length-replicate MEMBERS false) w.1 }
at-owned g me (lines.Cert x ∷ ls) w = absurd (no-cert (head.Owned g me) w.0.0 x x.rec.body refl w.0.1)
at-owned g me (lines.State next epoch mask low ∷ ls) w =
    absurd (no-state (head.Owned g me) w.0.0 (lines.State next epoch mask low) next epoch mask low refl (state_values None next epoch mask.0 low) refl w.0.1)
at-owned g me (_ ∷ ls) w = absurd (false≢true w.0.1.stands)

own-line : (g : Group) (heal : Bool) (me : ℕ) (ls : List HeadLine) → Walks (head.Grouped g heal) (lines.Own me ∷ ls) head.Ended → FromOwn g (lines.Own me ∷ ls)
own-line g heal me ls w =
    let key = at-owned g me ls w.1 in
    record {
      me = me;
      member = (all-in_range own_shape w.0.1.args (me, tt) w.0.1.spells).0.1;
      authority = key.authority;
      more = key.more;
      are = ap (λ (more : List HeadLine). lines.Own me ∷ more) key.are;
      rest = key.rest;
    }

at-healed : (g : Group) (ls : List HeadLine) → Walks (head.Grouped g true) ls head.Ended → FromOwn g ls
at-healed g [] w = absurd cc
at-healed g (lines.Own me ∷ ls) w = own-line g true me ls w
at-healed g (lines.Cert x ∷ ls) w = absurd (no-cert (head.Grouped g true) w.0.0 x x.rec.body refl w.0.1)
at-healed g (lines.State next epoch mask low ∷ ls) w =
    absurd (no-state (head.Grouped g true) w.0.0 (lines.State next epoch mask low) next epoch mask low refl (state_values None next epoch mask.0 low) refl w.0.1)
at-healed g (_ ∷ ls) w = absurd (false≢true w.0.1.stands)

-- a line `heal` or none
record FromGroup (g : Group) (ls : List HeadLine) : Type 0 where
  heal : Option Heal
  more : List HeadLine
  are : ls ≡ heal_lines heal ++ more
  own : FromOwn g more

at-grouped : (g : Group) (ls : List HeadLine) → Walks (head.Grouped g false) ls head.Ended → FromGroup g ls
at-grouped g [] w = absurd cc
at-grouped g (lines.Heal heal ∷ ls) w = record { heal = Some heal; more = ls; are = refl; own = at-healed g ls w.1 }
at-grouped g (lines.Own me ∷ ls) w = record { heal = None; more = lines.Own me ∷ ls; are = refl; own = own-line g false me ls w }
at-grouped g (lines.Cert x ∷ ls) w = absurd (no-cert (head.Grouped g false) w.0.0 x x.rec.body refl w.0.1)
at-grouped g (lines.State next epoch mask low ∷ ls) w =
    absurd (no-state (head.Grouped g false) w.0.0 (lines.State next epoch mask low) next epoch mask low refl (state_values None next epoch mask.0 low) refl w.0.1)
at-grouped g (_ ∷ ls) w = absurd (false≢true w.0.1.stands)

all-good : (g : Group) (authority : PublicKey) (named : List Bool) (xs : List CheckedRecord) → AllByRecursion (IsNewCert g authority named) xs → AllByRecursion (IsCertIn g authority) xs
all-good g authority named [] all = tt
all-good g authority named (x ∷ xs) all = (all.0.good, all-good g authority named xs all.1)

some-key : (me : ℕ) (o own : Option Key) (xs : List CheckedRecord) → own_among me own xs ≡ o → is_some o ≡ true → (k : Key) × (own_among me own xs ≡ Some k)
some-key me None own xs is some = absurd cc
some-key me (Some k) own xs is some = (k, is)

from-group : (g : Group) (ls : List HeadLine) → IsGroup g → FromGroup g ls → AreHead (lines.Header ∷ lines.Group g ∷ ls)
from-group g ls numbers from =
    let own = from.own in
    let rest = own.rest in
    let key = some-key own.me (own_among own.me None rest.certificates) None rest.certificates refl rest.owned in
    record {
      value = record {
        group = g;
        heal = from.heal;
        me = own.me;
        authority = own.authority;
        certificates = rest.certificates;
        next = rest.next;
        epoch = rest.epoch;
        mask = rest.mask;
        bottom = rest.bottom;
      };
      are = ap (λ (more : List HeadLine). lines.Header ∷ lines.Group g ∷ more)
          (from.are ∙ ap (λ (more : List HeadLine). heal_lines from.heal ++ more) (own.are ∙ ap (λ (more : List HeadLine). lines.Own own.me ∷ lines.Authority own.authority ∷ more) rest.are));
      sound = record {
        group = numbers;
        me = own.member;
        certified = all-good g own.authority (replicate MEMBERS false) rest.certificates rest.new;
        apart = rest.apart;
        own = key.0;
        own_is = key.1;
        state = subst (λ (o : Option Key). IsState o rest.next rest.epoch rest.mask rest.bottom) key.1 rest.state;
      };
    }

at-headed : (ls : List HeadLine) → Walks head.Headed ls head.Ended → AreHead (lines.Header ∷ ls)
at-headed [] w = absurd cc
at-headed (lines.Group g ∷ ls) w =
    from-group g ls (group-is g (all-in_range group_shape w.0.1.args (group_values g) w.0.1.spells)) (at-grouped g ls w.1)
at-headed (lines.Cert x ∷ ls) w = absurd (no-cert head.Headed w.0.0 x x.rec.body refl w.0.1)
at-headed (lines.State next epoch mask low ∷ ls) w =
    absurd (no-state head.Headed w.0.0 (lines.State next epoch mask low) next epoch mask low refl (state_values None next epoch mask.0 low) refl w.0.1)
at-headed (_ ∷ ls) w = absurd (false≢true w.0.1.stands)

-- The lines that lead to the end of a head are those of one.
pub head-walks : (ls : List HeadLine) → Walks head.Start ls head.Ended → AreHead ls
head-walks [] w = absurd cc
head-walks (lines.Header ∷ ls) w = at-headed ls w.1
head-walks (lines.Cert x ∷ ls) w = absurd (no-cert head.Start w.0.0 x x.rec.body refl w.0.1)
head-walks (lines.State next epoch mask low ∷ ls) w =
    absurd (no-state head.Start w.0.0 (lines.State next epoch mask low) next epoch mask low refl (state_values None next epoch mask.0 low) refl w.0.1)
head-walks (_ ∷ ls) w = absurd (false≢true w.0.1.stands)
