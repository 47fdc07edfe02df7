-- What the making of a store does: what is owed to the text, what comes of the disk, and what was taken and written, by the
-- answer.
use Rattle.std.specs.Prelude.{◌≡◌, ℕ, ◌⊎◌, List, [], ◌∷◌, ◌++◌, length, Result, Ok, Err, codes, string_bytes}
use Rattle.hex.specs.Hex.{encode_lower}
use Rattle.ff_ids.specs.Masks.{all_rings}
use Rattle.line_text.specs.declared.bad_word.BadWord.{BadWord}
use Rattle.epoch_store.specs.declared.Stored.{Stored}
use Rattle.epoch_store.specs.Asked.{make_calls}
use Rattle.epoch_store.specs.Calls.{HasLength, SettlesAs}
use Rattle.epoch_store.specs.Seat.{made_seat}
use Rattle.epoch_store.specs.Store.{IsSettled, first_entry, made}
use Rattle.play.specs.Plays.{IoState}
use Rattle.play.specs.declared.stop.Stop.{Stop}
use Rattle.play.specs.declared.stop.Stop.TheVariants as stop
use Rattle.ports.specs.Count.{next_count}
use Rattle.ports.specs.Disk.{Fails, torn_at}
use Rattle.ports.specs.DiskCalls.{AsFarAs, ToMeasure, ToOpen, with_calls}
use Rattle.records.specs.declared.keys.Key.{Key}
use Rattle.records.specs.Keys.{key_bytes}
use Rattle.schedule_texts.specs.declared.line.SecretLine.{SecretLine}
use Rattle.schedule_texts.specs.declared.secret.SecretText.TheVariants as secret
use Rattle.sign_keys.specs.Keys.{public_key}
use Rattle.text_trace.specs.Trace.{Continuation}
use Rattle.whole_text.specs.Gathered.{IsUnfinished, owed_whole}
use Rattle.authority.specs.declared.halt.Halt.{Halt}
use Rattle.authority.specs.declared.halt.Halt.TheVariants as halt
use Rattle.authority.specs.declared.setting.Setting.{Setting}
use Rattle.ports.specs.Outside.{OfDisk}
use Rattle.authority.specs.Settings.{key_of, secret_judging, secret_setting, tag_of, told_for}
use Rattle.authority.specs.Telling.{IsCut, IsTold}
use Rattle.authority.specs.Texts.{IsSecret}
use Rattle.authority.specs.declared.making.Prepared.{Prepared}

-- ## What is owed

-- the line that gives a key
abbrev pub key_line : Key → List ℕ
key_line key = codes "key " ++ encode_lower (key_bytes key) ++ 10 ∷ []

-- the line of the setting's key
abbrev pub key_line_of : Setting → List ℕ
key_line_of s = key_line (public_key (key_of s))

abbrev pub told_at_end : List SecretLine → List ℕ
told_at_end lines = told_for (secret_setting lines) key_line_of

-- What a text is owed that makes a store: at its end, the line of the key.
abbrev pub stored : Continuation BadWord
stored = owed_whole secret_judging secret.Start told_at_end

-- all that is needed of a setting
pub record IsPrepared (s : Setting) (p : Prepared) : Type 0 where
  pub tag : p.tag ≡ tag_of s
  pub line : string_bytes p.line ≡ key_line_of s

-- ## The disk

-- the entry of a new store: next 0, epoch 0, and each ring of the group enabled
abbrev pub first_of : Setting → Stored
first_of s = first_entry (record { 0 = all_rings s.group.t })

-- The file was empty, and is now the store of the setting's key, just those bytes, settled: each crash leaves them.
pub record IsMade (name : List ℕ) (s : Setting) (old new : OfDisk) : Type 0 where
  pub faults : new.faults ≡ old.faults
  pub calls : new.calls ≡ with_calls (make_calls name (tag_of s) (first_of s)) old.calls
  pub empty : HasLength old.moments 0
  pub image : SettlesAs (λ _. made (tag_of s) (first_of s)) old.moments new.moments
  pub store : IsSettled (tag_of s) (first_of s) (made_seat (tag_of s) (first_of s)) new.moments

-- The file has so many bytes, and was opened and measured alone.
pub record IsTaken (name : List ℕ) (len : ℕ) (old new : OfDisk) : Type 0 where
  pub faults : new.faults ≡ old.faults
  pub calls : new.calls ≡ with_calls (ToMeasure ∷ ToOpen name ∷ []) old.calls
  pub has : HasLength old.moments len
  pub some : len ≡ 0 → ⊥
  pub same : new.moments ≡ old.moments

-- The disk failed in one of the calls that make a store, and none came behind it: each crash leaves what it would have left
-- before, but that any bytes may stand in the place of a new store's.
pub record HasFailed (name : List ℕ) (s : Setting) (old new : OfDisk) : Type 0 where
  pub faults : new.faults ≡ next_count old.faults
  pub calls : AsFarAs (make_calls name (tag_of s) (first_of s)) old.calls new.calls
  pub moments : Fails (torn_at 0 (length (made (tag_of s) (first_of s)))) old.moments new.moments

-- Memory was refused as the file of this name was opened, or before, and it is as it was.
pub record IsUnmade (name : List ℕ) (old new : OfDisk) : Type 0 where
  pub faults : new.faults ≡ old.faults
  pub calls : AsFarAs (ToOpen name ∷ []) old.calls new.calls
  pub same : new.moments ≡ old.moments

-- ## The whole

-- What comes behind the reading of a text that sets this up.
abbrev pub MakesBehind : List ℕ → Setting → IoState → IoState → OfDisk → OfDisk → Result (Unit {0}) Halt → Type 0
MakesBehind name s between now old new (Ok _) = IsMade name s old new × IsTold between now (key_line_of s)
MakesBehind name s between now old new (Err (halt.Refused line w)) = ⊥
MakesBehind name s between now old new (Err halt.ReadFault) = ⊥
MakesBehind name s between now old new (Err halt.WriteFault) = IsMade name s old new × IsCut between now (key_line_of s)
MakesBehind name s between now old new (Err halt.StoreFault) = (now ≡ between) × HasFailed name s old new
MakesBehind name s between now old new (Err (halt.StoreBroken place byte)) = ⊥
MakesBehind name s between now old new (Err (halt.StoreTaken len)) = (now ≡ between) × IsTaken name len old new
MakesBehind name s between now old new (Err (halt.Exhausted next)) = ⊥
MakesBehind name s between now old new (Err halt.OutOfMemory) = (now ≡ between) × IsUnmade name old new

-- The text was read whole, and nothing written or done for it yet; and so it went on.
pub record Went (was : IoState) (Rest : Setting → IoState → Type 0) : Type 0 where
  pub setting : Setting
  pub between : IoState
  pub read : IsSecret was between setting
  pub rest : Rest setting between

-- The text wasn't read to its end, and the disk wasn't touched.
abbrev pub IsUnread : IoState → IoState → OfDisk → OfDisk → Stop BadWord → Type 0
IsUnread was now old new s = IsUnfinished secret_judging secret.Start was now s × (new ≡ old)

-- What the making of a store took, wrote, did and left, by its answer.
abbrev pub Makes : List ℕ → IoState → IoState → OfDisk → OfDisk → Result (Unit {0}) Halt → Type 0
Makes name was now old new (Err (halt.Refused line w)) = IsUnread was now old new (stop.Refused line w)
Makes name was now old new (Err halt.ReadFault) = IsUnread was now old new stop.ReadFault
Makes name was now old new (Err halt.OutOfMemory) =
    IsUnread was now old new stop.OutOfMemory ⊎ Went was (λ s between. MakesBehind name s between now old new (Err halt.OutOfMemory))
Makes name was now old new result = Went was (λ s between. MakesBehind name s between now old new result)
