-- What comes of an enrolment, by its answer.
use Rattle.std.proofs.Common.{◌≡◌, ℕ, ◌+◌, ◌<◌, ◌≤◌, max, true, false, ltb, List, [], ◌∷◌, ◌++◌, length, map, Result, Ok, Err, refl, sym, ap, subst, ◌∙◌, inl, inr, arith, length-append, lt-ltb}
use Rattle.std.proofs.Math.Nat.{max-eq_left, max-eq_right}
use Rattle.std.proofs.lemmas.Bool.{ltb-true}
use Rattle.std.proofs.lemmas.Bool.Decides.{nat_tests}
use Rattle.epoch_store.specs.declared.seat.Seat.{Seat}
use Rattle.epoch_store.specs.declared.Stored.{Stored}
use Rattle.epoch_store.specs.Store.{IsSettled}
use Rattle.ff_ids.specs.declared.Group.{Group}
use Rattle.line_text.specs.declared.bad_word.BadWord.{BadWord}
use Rattle.play.specs.Plays.{IoState}
use Rattle.play.specs.declared.stop.Stop.{Stop}
use Rattle.play.specs.declared.stop.Stop.TheVariants as stop
use Rattle.ports.specs.Count.{next_count}
use Rattle.ports.specs.DiskCalls.{AsFarAs}
use Rattle.ports.proofs.SinceLemmas.{Since-trans, Since-weaken}
use Rattle.records.specs.declared.Body.TheVariants.{Certificate}
use Rattle.records.specs.declared.CertBody.{CertBody}
use Rattle.schedule_texts.specs.declared.line.RosterLine.{RosterLine}
use Rattle.schedule_texts.specs.declared.roster.RosterText.TheVariants as roster
use Rattle.sign_keys.specs.Keys.{KeySecret, index_count}
use Rattle.signer.specs.Lives.{EndsLives, EndsNow, EndsWithin, IsLiving, LivesOn, Spent, spent_by}
use Rattle.signer.specs.Signing.{SignerState}
use Rattle.signer.proofs.LivingLemmas.{begins_life, kept_by_opening}
use Rattle.signer.proofs.OnwardLemmas.{within-none}
use Rattle.whole_text.specs.Gathered.{IsUnfinished, nothing}
use Rattle.whole_text.proofs.WholeLemmas.{never-unwritten}
use Rattle.authority.specs.declared.halt.Halt.{Halt}
use Rattle.authority.specs.declared.halt.Halt.TheVariants as halt
use Rattle.authority.specs.declared.setting.Setting.{Setting}
use Rattle.authority.specs.Halts.{halt_of}
use Rattle.ports.specs.Outside.{OfDisk}
use Rattle.authority.specs.Settings.{asked_in, key_of, roster_judging, tag_of}
use Rattle.authority.specs.Telling.{IsCut, IsTold, is_writable}
use Rattle.authority.specs.Texts.{IsRoster}
use Rattle.authority.specs.Lines.{lines_for, lines_within, signed_line, signed_lines}
use Rattle.authority.specs.Signing.{AreSigned, SignsAll, lines_of}
use Rattle.authority.specs.Enrolling.{AreEnrolled, Enrols, EnrolsBehind, IsEnough, IsOpened, OpensAndPuts, OpensStore, Spends, SpendsFronts}
use Rattle.authority.proofs.SigningLemmas.{fails-behind, next-line, put-next, signed-more, signed-none, signed-nothing, stored-is, told-none}

-- the key with the store that was opened
abbrev pub begun : Setting → Stored → Seat → SignerState
begun s o seat = record { group = s.group; key = key_of s; leaf = o.next; state = o; seat = seat; closed = false }

living : (name : List ℕ) (s : Setting) (o : Stored) (seat : Seat) (old mid : OfDisk) → IsOpened name s o seat old mid → (before : List ℕ) (spent : List Spent) → EndsNow (tag_of s) before spent old.moments → IsLiving (tag_of s) before spent (begun s o seat) mid.moments
living name s o seat old mid open_ before spent ends = begins_life (tag_of s) before spent (begun s o seat) mid.moments open_.settled (kept_by_opening (tag_of s) before spent old.moments mid.moments ends open_.kept).1

-- what is spent behind the opening
spent-behind : (name : List ℕ) (s : Setting) (o : Stored) (seat : Seat) (certs : List CertBody) (later : SignerState) (old mid new : OfDisk) → IsOpened name s o seat old mid → LivesOn (spent_by o (map Certificate certs)) (begun s o seat) later mid.moments new.moments → Spends s o certs old new
spent-behind name s o seat certs later old mid new open_ lives before spent ends = (lives.lives (tag_of s) before spent (living name s o seat old mid open_ before spent ends)).ends

fronts-behind : (name : List ℕ) (s : Setting) (o : Stored) (seat : Seat) (certs : List CertBody) (later : SignerState) (old mid new : OfDisk) → IsOpened name s o seat old mid → LivesOn (spent_by o (map Certificate certs)) (begun s o seat) later mid.moments new.moments → SpendsFronts s o certs old new
fronts-behind name s o seat certs later old mid new open_ lives before spent ends =
    let more = spent_by o (map Certificate certs) in
    Since-trans (EndsWithin (tag_of s) before spent more) old.moments mid.moments new.moments
    (Since-weaken (EndsLives (tag_of s) before spent) (EndsWithin (tag_of s) before spent more) old.moments mid.moments (within-none (tag_of s) before spent more) (kept_by_opening (tag_of s) before spent old.moments mid.moments ends open_.kept).0)
    (lives.any_moment (tag_of s) before spent (living name s o seat old mid open_ before spent ends))

-- the calls that were made
calls-behind : (name : List ℕ) (s : Setting) (o : Stored) (seat : Seat) (certs : List CertBody) (later : SignerState) (old mid new : OfDisk) → IsOpened name s o seat old mid → AreSigned certs (begun s o seat) later mid new → OpensAndPuts name old.moments o seat (length certs) old.calls new.calls
calls-behind name s o seat certs later old mid new open_ signed = record { between = mid.calls; opened = open_.calls; made = signed.calls }

-- what was signed stands in the store
enrolled : (name : List ℕ) (s : Setting) (o : Stored) (seat : Seat) (certs : List CertBody) (later : SignerState) (old mid new : OfDisk) → IsEnough s o.next certs → IsOpened name s o seat old mid → AreSigned certs (begun s o seat) later mid new → AreEnrolled name s o certs old new
enrolled name s o seat certs later old mid new enough open_ signed = record {
  faults = signed.faults ∙ open_.faults;
  seat = seat;
  found = open_.found;
  calls = calls-behind name s o seat certs later old mid new open_ signed;
  enough = enough;
  left =
      subst (λ at. IsSettled (tag_of s) (record o { next = o.next + length certs }) at new.moments) signed.seat
      (subst (λ st. IsSettled (tag_of s) st later.seat new.moments) (stored-is later.state (o.next + length certs) o.epoch o.mask signed.next signed.epoch signed.mask) (signed.settled (tag_of s) open_.settled));
  spends = spent-behind name s o seat certs later old mid new open_ signed.lives;
  any_moment = fronts-behind name s o seat certs later old mid new open_ signed.lives;
}

-- the key has a leaf for each that was signed
enough-for : (s : Setting) (o : Stored) (seat : Seat) (certs : List CertBody) (later : SignerState) (mid new : OfDisk) → o.next ≤ index_count (key_of s) → AreSigned certs (begun s o seat) later mid new → o.next + length certs ≤ index_count (key_of s)
enough-for s o seat certs later mid new few signed = let n = signed.next in let w = signed.within few in omega (arith, n, w)

-- the key has just so many leaves
end-is : (a n : ℕ) (next : ℕ) → a ≤ n → next ≡ n → next ≡ max a n
end-is a n next few is = is ∙ sym (max-eq_right few)

end-found : (a n : ℕ) → n < a → a ≡ max a n
end-found a n gone = sym (max-eq_left (omega (arith, gone)))

-- ## The lines, as far as there are leaves

within-all : (g : Group) (k : KeySecret) (i : ℕ) (certs : List CertBody) → i + length certs ≤ index_count k → lines_within g k i certs ≡ signed_lines g k i certs
within-all g k i [] few = refl
within-all g k i (c ∷ certs) few =
    let has : ltb i (index_count k) ≡ true = lt-ltb i (index_count k) (omega arith) in
    rw has (ap (λ (t : List ℕ). signed_line g k i c ++ t) (within-all g k (i + 1) certs (omega arith)))

no-leaf : (i n : ℕ) → n ≤ i → ltb i n ≡ false
no-leaf i n h = grind (arith, nat_tests)

within-end : (g : Group) (k : KeySecret) (i : ℕ) (c : CertBody) (rest : List CertBody) → index_count k ≤ i → lines_within g k i (c ∷ rest) ≡ []
within-end g k i c rest gone = rw (no-leaf i (index_count k) gone) refl

within-stop : (g : Group) (k : KeySecret) (i : ℕ) (done : List CertBody) (c : CertBody) (rest : List CertBody) → i + length done ≡ index_count k → lines_within g k i (done ++ c ∷ rest) ≡ signed_lines g k i done
within-stop g k i [] c rest gone = within-end g k i c rest (omega (arith, gone))
within-stop g k i (x ∷ done) c rest gone =
    let has : ltb i (index_count k) ≡ true = lt-ltb i (index_count k) (omega (arith, gone)) in
    rw has (ap (λ (t : List ℕ). signed_line g k i x ++ t) (within-stop g k (i + 1) done c rest (omega (arith, gone))))

-- ## Behind the opening

abbrev Answer : Type 0
Answer = Result (Unit {0}) Halt

cert-signed : (name : List ℕ) (s : Setting) (o : Stored) (seat : Seat) (certs : List CertBody) (between now : IoState) (old mid new : OfDisk) (r : Answer) → o.next ≤ index_count (key_of s) → IsOpened name s o seat old mid → SignsAll certs (begun s o seat) between now mid new r → EnrolsBehind name s certs between now old new r
cert-signed name s o seat certs between now old mid new (Ok _) few open_ h =
    let enough = enough-for s o seat certs h.0 mid new few h.1 in
    record {
      opened = o;
      enrolled = enrolled name s o seat certs h.0 old mid new (inl enough) open_ h.1;
      told = subst (IsTold between now) (sym (within-all s.group (key_of s) o.next certs enough)) h.2;
    }
cert-signed name s o seat certs between now old mid new (Err (halt.Refused line w)) few open_ h = absurd h.ends.1
cert-signed name s o seat certs between now old mid new (Err halt.ReadFault) few open_ h = absurd h.ends.1
cert-signed name s o seat certs between now old mid new (Err halt.WriteFault) few open_ h =
    let e = h.ends.1 in
    let all = signed-more h.done h.one (begun s o seat) h.then h.ends.0 mid h.disk new h.signed e.0 in
    let enough = enough-for s o seat (h.done ++ h.one ∷ []) h.ends.0 mid new few all in
    record {
      opened = o;
      done = h.done;
      one = h.one;
      part = h.part;
      within = let l = length-append h.done (h.one ∷ []) in omega (arith, enough, l);
      enrolled = enrolled name s o seat (h.done ++ h.one ∷ []) h.ends.0 old mid new (inl enough) open_ all;
      mid = h.mid;
      told = h.told;
      cut = subst (IsCut h.mid now) (next-line h.done h.one (begun s o seat) h.then mid h.disk h.signed) e.1;
    }
cert-signed name s o seat certs between now old mid new (Err halt.StoreFault) few open_ h =
    let e = h.ends.1 in
    let lives = fails-behind h.done (begun s o seat) h.then h.ends.0 mid h.disk new h.signed e.1 in
    inr (record {
      opened = o;
      done = h.done;
      one = h.one;
      part = h.part;
      seat = seat;
      found = open_.found;
      within = let n = h.signed.next in let left = subst (λ k. h.then.state.next < index_count k) h.signed.key e.1.left in omega (arith, n, left);
      faults = e.1.faults ∙ ap next_count (h.signed.faults ∙ open_.faults);
      calls = record {
        between = h.disk.calls;
        before = calls-behind name s o seat h.done h.then old mid h.disk open_ h.signed;
        last = subst (λ calls. AsFarAs calls h.disk.calls new.calls) (put-next h.done (begun s o seat) h.then mid h.disk h.signed) e.1.calls;
      };
      spends = spent-behind name s o seat h.done h.ends.0 old mid new open_ lives;
      any_moment = fronts-behind name s o seat h.done h.ends.0 old mid new open_ lives;
      told = subst (λ m. IsTold between m (lines_of (begun s o seat) h.done)) (sym e.0) h.told;
    })
cert-signed name s o seat certs between now old mid new (Err (halt.StoreBroken place byte)) few open_ h = absurd h.ends.1
cert-signed name s o seat certs between now old mid new (Err (halt.StoreTaken len)) few open_ h = absurd h.ends.1
cert-signed name s o seat certs between now old mid new (Err (halt.Exhausted next)) few open_ h =
    let e = h.ends.1 in
    let all = signed-nothing h.done (begun s o seat) h.then h.ends.0 mid h.disk new h.signed e.1 in
    let next_is : next ≡ o.next + length h.done = e.2 ∙ h.signed.next in
    let gone : next ≡ index_count (key_of s) = e.3 ∙ ap (λ k. index_count k) h.signed.key in
    record {
      opened = o;
      done = h.done;
      one = h.one;
      part = h.part;
      enrolled = enrolled name s o seat h.done h.ends.0 old mid new (inl (enough-for s o seat h.done h.ends.0 mid new few all)) open_ all;
      next_is = next_is;
      gone = end-is o.next (index_count (key_of s)) next few gone;
      told = subst (λ m. IsTold between m (lines_for o.next certs s)) (sym e.0)
          (subst (IsTold between h.mid) (sym (ap (lines_within s.group (key_of s) o.next) h.part.are ∙ within-stop s.group (key_of s) o.next h.done h.one h.part.rest (sym next_is ∙ gone))) h.told);
    }
cert-signed name s o seat certs between now old mid new (Err halt.OutOfMemory) few open_ h =
    let e = h.ends.1 in
    inr (record {
      opened = o;
      done = h.done;
      one = h.one;
      part = h.part;
      within = enough-for s o seat h.done h.then mid h.disk few h.signed;
      enrolled = elim e.1 [
        | inl none ↦
            let all = signed-nothing h.done (begun s o seat) h.then h.ends.0 mid h.disk new h.signed none in
            inl (enrolled name s o seat h.done h.ends.0 old mid new (inl (enough-for s o seat h.done h.ends.0 mid new few all)) open_ all)
        | inr one ↦
            let all = signed-more h.done h.one (begun s o seat) h.then h.ends.0 mid h.disk new h.signed one in
            inr (enrolled name s o seat (h.done ++ h.one ∷ []) h.ends.0 old mid new (inl (enough-for s o seat (h.done ++ h.one ∷ []) h.ends.0 mid new few all)) open_ all)
      ];
      told = subst (λ m. IsTold between m (lines_of (begun s o seat) h.done)) (sym e.0) h.told;
    })

pub signed-behind : (name : List ℕ) (s : Setting) (o : Stored) (seat : Seat) (signer : SignerState) (certs : List CertBody) (between now : IoState) (old mid new : OfDisk) (r : Answer) → signer ≡ begun s o seat → o.next ≤ index_count (key_of s) → IsOpened name s o seat old mid → SignsAll certs signer between now mid new r → EnrolsBehind name s certs between now old new r
signed-behind name s o seat signer certs between now old mid new r is few open_ h =
    cert-signed name s o seat certs between now old mid new r few open_ (subst (λ x. SignsAll certs x between now mid new r) is h)

-- the store wasn't opened
pub unopened-behind : (name : List ℕ) (s : Setting) (certs : List CertBody) (between : IoState) (old new : OfDisk) (h : Halt) → OpensStore name s old new (Err h) → EnrolsBehind name s certs between between old new (Err h)
unopened-behind name s certs between old new (halt.Refused line w) o = absurd o
unopened-behind name s certs between old new halt.ReadFault o = absurd o
unopened-behind name s certs between old new halt.WriteFault o = absurd o
unopened-behind name s certs between old new halt.StoreFault o = inl (refl, o)
unopened-behind name s certs between old new (halt.StoreBroken place byte) o = (refl, o)
unopened-behind name s certs between old new (halt.StoreTaken len) o = absurd o
unopened-behind name s certs between old new (halt.Exhausted next) o = absurd o
unopened-behind name s certs between old new halt.OutOfMemory o = inl (refl, o)

pub unopened-writable : (name : List ℕ) (s : Setting) (old new : OfDisk) (h : Halt) → OpensStore name s old new (Err h) → is_writable (Err h) ≡ true
unopened-writable name s old new (halt.Refused line w) o = refl
unopened-writable name s old new halt.ReadFault o = refl
unopened-writable name s old new halt.WriteFault o = absurd o
unopened-writable name s old new halt.StoreFault o = refl
unopened-writable name s old new (halt.StoreBroken place byte) o = refl
unopened-writable name s old new (halt.StoreTaken len) o = refl
unopened-writable name s old new (halt.Exhausted next) o = refl
unopened-writable name s old new halt.OutOfMemory o = refl

-- the store has a next index that the key hasn't
none-enrolled : (name : List ℕ) (s : Setting) (o : Stored) (seat : Seat) (old mid : OfDisk) → IsOpened name s o seat old mid → AreEnrolled name s o [] old mid
none-enrolled name s o seat old mid open_ = enrolled name s o seat [] (begun s o seat) old mid mid (inr refl) open_ (signed-none (begun s o seat) mid refl)

pub gone-asked : (name : List ℕ) (s : Setting) (o : Stored) (seat : Seat) (certs : List CertBody) (between : IoState) (old new : OfDisk) → index_count (key_of s) < o.next → IsOpened name s o seat old new → ltb 0 (length certs) ≡ true → EnrolsBehind name s certs between between old new (Err (halt.Exhausted o.next))
gone-asked name s o seat [] between old new gone open_ some = absurd (let h = ltb-true 0 0 some in omega (arith, h))
gone-asked name s o seat (c ∷ certs) between old new gone open_ some = record {
  opened = o;
  done = [];
  one = c;
  part = record { rest = certs; are = refl };
  enrolled = none-enrolled name s o seat old new open_;
  next_is = omega arith;
  gone = end-found o.next (index_count (key_of s)) gone;
  told = subst (IsTold between between) (sym (within-end s.group (key_of s) o.next c certs (omega arith))) (told-none between);
}

pub gone-unasked : (name : List ℕ) (s : Setting) (o : Stored) (seat : Seat) (certs : List CertBody) (between : IoState) (old new : OfDisk) → IsOpened name s o seat old new → ltb 0 (length certs) ≡ false → EnrolsBehind name s certs between between old new (Ok tt)
gone-unasked name s o seat [] between old new open_ none = record { opened = o; enrolled = none-enrolled name s o seat old new open_; told = told-none between }
gone-unasked name s o seat (c ∷ certs) between old new open_ none = absurd (grind (arith, nat_tests))

-- ## The whole

-- a roster that was read whole, and what came behind that
pub went : (name : List ℕ) (s : Setting) (lines : List RosterLine) (was between now : IoState) (old new : OfDisk) (r : Answer) → IsRoster was between s lines → EnrolsBehind name s (asked_in lines) between now old new r → Enrols name was now old new r
went name s lines was between now old new (Ok _) read h = record { setting = s; lines = lines; between = between; read = read; rest = h }
went name s lines was between now old new (Err (halt.Refused line w)) read h = absurd h
went name s lines was between now old new (Err halt.ReadFault) read h = absurd h
went name s lines was between now old new (Err halt.WriteFault) read h = record { setting = s; lines = lines; between = between; read = read; rest = h }
went name s lines was between now old new (Err halt.StoreFault) read h = record { setting = s; lines = lines; between = between; read = read; rest = h }
went name s lines was between now old new (Err (halt.StoreBroken place byte)) read h = record { setting = s; lines = lines; between = between; read = read; rest = h }
went name s lines was between now old new (Err (halt.StoreTaken len)) read h = absurd h
went name s lines was between now old new (Err (halt.Exhausted next)) read h = record { setting = s; lines = lines; between = between; read = read; rest = h }
went name s lines was between now old new (Err halt.OutOfMemory) read h = inr (record { setting = s; lines = lines; between = between; read = read; rest = h })

-- a roster that wasn't read to its end
pub unread : (name : List ℕ) (was now : IoState) (disk : OfDisk) (s : Stop BadWord) → IsUnfinished roster_judging roster.Start was now s → Enrols name was now disk disk (Err (halt_of s))
unread name was now disk (stop.Refused line w) h = (h, refl)
unread name was now disk stop.ReadFault h = (h, refl)
unread name was now disk stop.WriteFault h = absurd (never-unwritten roster_judging roster.Start was now (h nothing))
unread name was now disk stop.OutOfMemory h = inl (h, refl)

pub unread-writable : (was now : IoState) (s : Stop BadWord) → IsUnfinished roster_judging roster.Start was now s → is_writable (Err (halt_of s)) ≡ true
unread-writable was now (stop.Refused line w) h = refl
unread-writable was now stop.ReadFault h = refl
unread-writable was now stop.WriteFault h = absurd (never-unwritten roster_judging roster.Start was now (h nothing))
unread-writable was now stop.OutOfMemory h = refl
