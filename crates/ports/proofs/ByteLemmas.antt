-- How the bytes of a file in memory change, step by step.
use Rattle.std.proofs.Common.{◌≡◌, ℕ, ◌+◌, ◌-◌, ◌<◌, ◌≤◌, inl, inr, List, [], ◌∷◌, ◌++◌, length, take, drop, set, replicate, get_or, refl, sym, ap, arith, append_assoc, length-append, length-take, length-drop, append-nil}
use Rattle.std.proofs.lemmas.List.{take_more_set, drop-set-lt, drop_more, length-replicate, take_all, drop_all, take-append-le, take-replicate}
use Rattle.std.proofs.Math.Seq.{take-append-add}
use Rattle.std.proofs.lemmas.Bool.{cases_lt}
use Rattle.ports.specs.Disk.{written}
use Rattle.ports.specs.MemoryDisk.{garbled, garbled_byte}

-- one more byte is garbled
pub garbled_more : (outcome : ℕ) (torn : List (ℕ × ℕ)) (kept place v : ℕ) (image : List ℕ) {whole : List ℕ} → place < length image → v ≡ garbled_byte outcome torn kept place (get_or image place 0) → take place image ++ garbled outcome torn kept place (drop place image) ≡ whole → take (place + 1) (set image place v) ++ garbled outcome torn kept (place + 1) (drop (place + 1) (set image place v)) ≡ whole
garbled_more outcome torn kept place v image within is so_far =
    let front = take_more_set image place v within in
    let below : place < place + 1 = omega arith in
    let rest = drop-set-lt (place + 1) image place v below in
    let here = drop_more image place 0 within in
    rw (front, rest, append_assoc, is) (rw here at so_far)

-- the front of a file that was made longer by zeros
front_of_long : (place k : ℕ) (image : List ℕ) → place ≤ length image + k → take place (image ++ replicate k 0) ≡ take place image ++ replicate (place - length image) 0
front_of_long place k image within =
    elim (cases_lt place (length image)) [
      | inl below ↦
          let inside : place ≤ length image = omega arith in
          let none : place - length image ≡ 0 = omega arith in
          let front = take-append-le place image (replicate k 0) inside in
          rw (front, none) (sym (append-nil (take place image)))
      | inr past ↦
          let size : length image + (place - length image) ≡ place = omega arith in
          let front = take-append-add image (replicate k 0) (place - length image) in
          let fewer : place - length image ≤ k = omega arith in
          let all = take_all place image past in
          let zeros = take-replicate {X = ℕ} (place - length image) k 0 fewer in
          rw (all, ← zeros) (rw size at front)
    ]

-- the end of a file that was made longer by zeros, up to there
end_of_long : (at : ℕ) (image : List ℕ) → drop at (image ++ replicate (at - length image) 0) ≡ drop at image
end_of_long at image =
    elim (cases_lt at (length image)) [
      | inl below ↦
          let none : at - length image ≡ 0 = omega arith in
          rw none (ap (drop at) (append-nil image))
      | inr past ↦
          let long : length (image ++ replicate (at - length image) 0) ≤ at = simp (length-append, length-replicate) (omega arith) in
          rw (drop_all at image past, drop_all at (image ++ replicate (at - length image) 0) long) refl
    ]

written_from_long : (place : ℕ) (bytes image : List ℕ) → 0 < length bytes → let long = image ++ replicate (place + length bytes - length image) 0 in take place long ++ bytes ++ drop (place + length bytes) long ≡ written place bytes image
written_from_long place [] image some = absurd (omega arith)
written_from_long place (b ∷ bytes) image some =
    let k = place + length (b ∷ bytes) - length image in
    let within : place ≤ length image + k = omega arith in
    let front = front_of_long place k image within in
    let rest = end_of_long (place + length (b ∷ bytes)) image in
    rw (front, rest) refl

-- a file that is long enough already, with bytes copied into it
pub wrote_over : (place n : ℕ) (bytes image long copied : List ℕ) → 0 < length bytes → long ≡ image ++ replicate (place + length bytes - length image) 0 → copied ≡ take place long ++ bytes ++ drop (place + length bytes) long → n ≡ length long → take n (copied ++ drop (length copied) long) ≡ written place bytes image
wrote_over place n bytes image long copied some grown is whole =
    let size : length copied ≡ length long =
    let long_enough : place + length bytes ≤ length long = rw grown (simp (length-append, length-replicate) (omega arith)) in
    rw is (simp (length-append, length-take, length-drop) (omega arith)) in
    let past : length long ≤ length copied = omega arith in
    let fits : length copied ≤ n = omega arith in
    let rest = drop_all (length copied) long past in
    let all = take_all n copied fits in
    rw (rest, append-nil, all, is, grown) (written_from_long place bytes image some)
