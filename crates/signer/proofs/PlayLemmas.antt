-- How what was handed out goes on, act after act.
use Rattle.std.proofs.Common.{◌≡◌, ℕ, Option, None, Some, List, [], ◌∷◌, ◌++◌, map, length, ◌+◌, ◌<◌, ◌≤◌, inl, inr, Ok, Err, arith, append-nil, length-append, refl, sym, ap, ◌∙◌, subst}
use Rattle.std.specs.List.{AllByRecursion}
use Rattle.std.proofs.lemmas.List.{map-append}
use Rattle.ports.specs.Disk.{Fails, IsAmong, Leaves, Moment, Since, settled, stays}
use Rattle.ports.specs.DiskLaws.{now_leaves}
use Rattle.ports.proofs.MomentLemmas.{settled_only}
use Rattle.ports.specs.MemoryDisk.{now_of, moments_of}
use Rattle.ports.specs.Outside.{OfDisk}
use Rattle.ports.specs.declared.memory_disk.Change.{Change}
use Rattle.ports.proofs.SinceLemmas.{Since-weaken, newest_has}
use Rattle.ff_ids.specs.declared.Group.{Group}
use Rattle.ff_ids.specs.declared.Mask.{Mask}
use Rattle.sign_keys.proofs.Tops.{top-signs}
use Rattle.sign_keys.specs.Keys.{KeySecret, index_count}
use Rattle.records.specs.Signing.{CheckedRecord, signed_bytes}
use Rattle.records.specs.declared.Body.{Body}
use Rattle.epoch_store.specs.declared.Stored.{Stored}
use Rattle.epoch_store.specs.declared.seat.Seat.{Seat}
use Rattle.epoch_store.specs.Calls.{SettlesAs}
use Rattle.epoch_store.specs.Store.{IsSettled, LeavesOneOf, migrated}
use Rattle.signer.specs.declared.SignFault.{SignFault}
use Rattle.signer.specs.declared.SignFault.TheVariants.{OutOfMemory, Closed, Exhausted, StoreFault}
use Rattle.signer.specs.Signing.{SignerState, after_signing, signed_record, signed_by}
use Rattle.signer.specs.Signs.{Signs}
use Rattle.signer.specs.Lives.{Spent, EndsEither, EndsNow, IsLiving, Lived}
use Rattle.signer.specs.declared.key_lives.Act.{Act}
use Rattle.signer.specs.declared.key_lives.Holder.{Holder}
use Rattle.signer.specs.Played.{HasTop, IsQuiet, IsWithin, key_of, EndsSome, EndsSomeNow, Stands, Handed, HandsOut, AreOnce, Under, record_of, spent_for, under_after, with_record}
use Rattle.signer.proofs.LivesLemmas.{spent_once}
use Rattle.signer.proofs.LivingLemmas.{ends-settled, kept_by_move, lived-under, nothing_spent, settled-leaves}

-- what ends lives of one tag, ends some
some-of : (tag before : List ℕ) (spent : List Spent) (moments : List Moment) → EndsNow tag before spent moments → EndsSomeNow before spent moments
some-of tag before spent [] ends = ends
some-of tag before spent (now ∷ past) ends = λ c leaves. (tag, ends c leaves)

-- a crash ends what stands
pub ends_of : (h : Holder) (under : Under) (before : List ℕ) (spent : List Spent) (signer : Option SignerState) (moments : List Moment) → Stands h under before spent signer moments → EndsSomeNow before spent moments
ends_of h under before spent None moments stands = stands
ends_of h under before spent (Some s) moments stands = some-of under.tag before spent moments stands.0.ends

none_left : (now : Moment) (past more : List Moment) → [] ≡ more ++ now ∷ past → ⊥
none_left now past [] is = cc
none_left now past (m ∷ more) is = cc

newest-some : (before : List ℕ) (spent : List Spent) (older newer : List Moment) → EndsSomeNow before spent older → Since (EndsSome before spent) older newer → EndsSomeNow before spent newer
newest-some before spent [] newer ends since = absurd ends
newest-some before spent (now ∷ past) [] ends since = none_left now past since.more since.grew
newest-some before spent (now ∷ past) (m ∷ later) ends since = newest_has (EndsSome before spent) now m past later ends since

-- an opening
pub some-opened : (before : List ℕ) (spent : List Spent) (older newer : List Moment) → EndsSomeNow before spent older → Fails stays older newer → EndsSomeNow before spent newer
some-opened before spent [] newer ends fails = absurd ends
some-opened before spent (now ∷ past) newer ends fails =
    newest-some before spent (now ∷ past) newer ends
    (Since-weaken (IsAmong now) (EndsSome before spent) (now ∷ past) newer (λ m among c leaves. ends c (among c leaves)) fails)

-- where the store is settled, it tells the tag
pub some-settled : (tag before : List ℕ) (spent : List Spent) (state : Stored) (seat : Seat) (moments : List Moment) → EndsSomeNow before spent moments → IsSettled tag state seat moments → EndsNow tag before spent moments
some-settled tag before spent state seat [] ends at = ends
some-settled tag before spent state seat (now ∷ past) ends at =
    let some = ends now.image (settled-leaves now at.0) in
    ends-settled tag before spent now at.0 (lived-under some.0 tag before now.image spent state (seat, at.1) some.1)

-- a move
either-some : (tag other before : List ℕ) (spent : List Spent) (m : Moment) → EndsEither tag other before spent m → EndsSome before spent m
either-some tag other before spent m ends c leaves = elim (ends c leaves) [ inl one ↦ (tag, one) | inr moved ↦ (other, moved) ]

pub some-moved : (tag other before : List ℕ) (spent : List Spent) (state : Stored) (seat : Seat) (mask : Mask) (older newer : List Moment) → EndsSomeNow before spent older → IsSettled tag state seat older → Since (LeavesOneOf tag state other (migrated state mask)) older newer → EndsSomeNow before spent newer
some-moved tag other before spent state seat mask older newer ends at since =
    newest-some before spent older newer ends
    (Since-weaken (EndsEither tag other before spent) (EndsSome before spent) older newer (either-some tag other before spent)
    ((kept_by_move tag other state seat mask older newer at since).0 before spent (some-settled tag before spent state seat older ends at)))

-- a crash
pub some-crashed : (before : List ℕ) (spent : List Spent) (now : Moment) (c : List ℕ) → EndsSome before spent now → Leaves now c → EndsSome before spent (settled c)
some-crashed before spent now c ends leaves = λ d left.
    subst (λ (file : List ℕ). (tag : List ℕ) × Lived tag before file spent) (sym (settled_only c d left)) (ends c leaves)

-- so much has come about: what was spent stands, and its records were handed out
pub record Plays (h : Holder) (before : List ℕ) (signer : Option SignerState) (moments : List Moment) (records : List CheckedRecord) : Type 0 where
  pub under : Under
  pub handed : List Handed
  pub are : records ≡ map (record_of h) handed
  pub within : AllByRecursion (IsWithin h) (spent_for handed)
  pub stands : Stands h under before (spent_for handed) signer moments

within-append : (h : Holder) (xs : List Spent) (last : Spent) → AllByRecursion (IsWithin h) xs → IsWithin h last → AllByRecursion (IsWithin h) (xs ++ last ∷ [])
within-append h [] last all one = (one, tt)
within-append h (x ∷ xs) last all one = (all.0, within-append h xs last all.1 one)

pub plays_on : (h : Holder) (before : List ℕ) (act : Act) (rec : Option CheckedRecord) (signer later : Option SignerState) (older newer : List Moment) (records : List CheckedRecord) → Plays h before signer older records
    → ((under : Under) (b : List ℕ) (spent : List Spent) → Stands h under b spent signer older → HandsOut h (under_after act under) b spent rec later newer) → Plays h before later newer (with_record records rec)
plays_on h before act None signer later older newer records plays goes = record {
  under = under_after act plays.under;
  handed = plays.handed;
  are = plays.are;
  within = plays.within;
  stands = goes plays.under before (spent_for plays.handed) plays.stands;
}
plays_on h before act (Some rec) signer later older newer records plays goes =
    let under = under_after act plays.under in
    let one = goes plays.under before (spent_for plays.handed) plays.stands in
    let last : Handed = record { group = under.group; spent = one.0 } in
    let spent : spent_for (plays.handed ++ last ∷ []) ≡ spent_for plays.handed ++ one.0 ∷ [] = map-append (λ (x : Handed). x.spent) plays.handed (last ∷ []) in
    record {
      under = under;
      handed = plays.handed ++ last ∷ [];
      are = ap (λ (xs : List CheckedRecord). xs ++ rec ∷ []) plays.are
          ∙ ap (λ (r : CheckedRecord). map (record_of h) plays.handed ++ r ∷ []) one.1
          ∙ sym (map-append (record_of h) plays.handed (last ∷ []));
      within = subst (λ (z : List Spent). AllByRecursion (IsWithin h) z) (sym spent) (within-append h (spent_for plays.handed) one.0 plays.within one.2);
      stands = subst (λ (z : List Spent). Stands h under before z later newer) (sym spent) one.3;
    }

-- what a signer hands out, it has spent
pub signs_on : (h : Holder) (under : Under) (before : List ℕ) (spent : List Spent) (s later : SignerState) (body : Body) (rec : CheckedRecord) (old new : OfDisk) → Signs s later body (Ok rec) old new → Stands h under before spent (Some s) old.moments → HandsOut h under before spent (Some rec) (Some later) new.moments
signs_on h under before spent s later body rec old new signs stands =
    let key : later.key ≡ key_of h = ap (λ (z : SignerState). z.key) signs.after ∙ stands.1 in
    let group : later.group ≡ under.group = ap (λ (z : SignerState). z.group) signs.after ∙ stands.2 in
    let by_key : signed_record s body ≡ signed_by s.group (key_of h) s.state.next body = ap (λ (k : KeySecret). signed_by s.group k s.state.next body) stands.1 in
    let by_group : signed_by s.group (key_of h) s.state.next body ≡ signed_by under.group (key_of h) s.state.next body = ap (λ (g : Group). signed_by g (key_of h) s.state.next body) stands.2 in
    let last : Spent = record { index = s.state.next; body = body } in
    let within : IsWithin h last = subst (λ (k : KeySecret). s.state.next < index_count k) stands.1 signs.answers.1 in
    (last, signs.signed ∙ by_key ∙ by_group, within, (signs.lives under.tag before spent stands.0, key, group))

-- a call that hands out nothing
same_key : (s : SignerState) (body : Body) (fault : SignFault) → (after_signing {T = CheckedRecord} s body (Err fault)).key ≡ s.key
same_key s body OutOfMemory = refl
same_key s body Closed = refl
same_key s body (Exhausted next) = refl
same_key s body StoreFault = refl

same_group : (s : SignerState) (body : Body) (fault : SignFault) → (after_signing {T = CheckedRecord} s body (Err fault)).group ≡ s.group
same_group s body OutOfMemory = refl
same_group s body Closed = refl
same_group s body (Exhausted next) = refl
same_group s body StoreFault = refl

pub signs_none : (h : Holder) (under : Under) (before : List ℕ) (spent : List Spent) (s later : SignerState) (body : Body) (fault : SignFault) (old new : OfDisk) → Signs s later body (Err fault) old new → Stands h under before spent (Some s) old.moments → Stands h under before spent (Some later) new.moments
signs_none h under before spent s later body fault old new signs stands =
    let key : later.key ≡ key_of h = ap (λ (z : SignerState). z.key) signs.after ∙ same_key s body fault ∙ stands.1 in
    let group : later.group ≡ under.group = ap (λ (z : SignerState). z.group) signs.after ∙ same_group s body fault ∙ stands.2 in
    (subst (λ (xs : List Spent). IsLiving under.tag before xs later new.moments) (append-nil spent) (signs.lives under.tag before spent stands.0), key, group)

pub length-with : (records : List CheckedRecord) (handed : Option CheckedRecord) → length (with_record records handed) ≤ length records + 1
length-with records None = omega arith
length-with records (Some rec) = omega (arith, length-append records (rec ∷ []))

-- nothing has come about yet
pub plays_none : (h : Holder) (now : Moment) (past : List Moment) → IsQuiet (now ∷ past) → Plays h now.image None (now ∷ past) []
plays_none h now past quiet = record {
  under = record { group = record { tag = []; t = 0; timeout = 0; period = 0; misses = 0 }; tag = quiet.1 };
  handed = [];
  are = refl;
  within = tt;
  stands = some-of quiet.1 now.image [] (now ∷ past) (nothing_spent quiet.1 quiet.2 now past quiet.0 quiet.3);
}

tops : (h : Holder) (handed : List Handed) → AllByRecursion (IsWithin h) (spent_for handed) → AllByRecursion (HasTop h) handed
tops h [] within = tt
tops h (x ∷ xs) within = (top-signs (key_of h) x.spent.index (signed_bytes x.group.tag x.group.t x.spent.body) within.0, tops h xs within.1)

-- what was handed out in all
pub once_of : (h : Holder) (before : List ℕ) (signer : Option SignerState) (start : List ℕ) (log : List Change) (records : List CheckedRecord) → Plays h before signer (moments_of start log) records → AreOnce h records
once_of h before signer start log records plays =
    let now = now_of start log in
    let lived = ends_of h plays.under before (spent_for plays.handed) signer (moments_of start log) plays.stands now.image (now_leaves start log) in
    record { handed = plays.handed; are = plays.are; within = plays.within; once = spent_once lived.0 before now.image (spent_for plays.handed) lived.1; tops = tops h plays.handed plays.within }

pub none_once : (h : Holder) → AreOnce h []
none_once h = record { handed = []; are = refl; within = tt; once = record { indexes_rise = tt; epochs_rise = tt }; tops = tt }

-- a file that was made is a settled store
pub quiet_after : (change : List ℕ → List ℕ) (tag : List ℕ) (state : Stored) (seat : Seat) (was : Moment) (older : List Moment) (moments : List Moment) → SettlesAs change (was ∷ older) moments → IsSettled tag state seat moments → IsQuiet moments
quiet_after change tag state seat was older [] is at = is
quiet_after change tag state seat was older (now ∷ past) is at = (at.0, tag, state, (seat, at.1))
