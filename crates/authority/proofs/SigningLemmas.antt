-- Certificates that are signed one after the other.
use Rattle.std.proofs.Common.{◌≡◌, ℕ, suc, ◌+◌, ◌≤◌, false, List, [], ◌∷◌, ◌++◌, length, map, Result, Ok, Err, refl, sym, ap, subst, ◌∙◌, inl, arith, append_assoc, append-nil, length-append}
use Rattle.std.proofs.KnownBytes.{Appends-nil, Appends-trans}
use Rattle.std.proofs.lemmas.Bool.{false≢true}
use Rattle.epoch_store.specs.declared.Stored.{Stored}
use Rattle.epoch_store.specs.declared.seat.Seat.{Seat}
use Rattle.epoch_store.specs.Seat.{next_seat}
use Rattle.epoch_store.specs.Asked.{put_calls}
use Rattle.epoch_store.specs.Store.{IsSettled}
use Rattle.epoch_store.proofs.CallLemmas.{with_calls-append}
use Rattle.ff_ids.specs.declared.Mask.{Mask}
use Rattle.play.specs.Plays.{IoState}
use Rattle.ports.specs.Disk.{Moment}
use Rattle.ports.specs.DiskCalls.{AsFarAs, with_calls}
use Rattle.records.specs.declared.Body.TheVariants.{Certificate}
use Rattle.records.specs.declared.CertBody.{CertBody}
use Rattle.records.specs.Signing.{CheckedRecord}
use Rattle.schedule_texts.specs.declared.line.RosterLine.{RosterLine}
use Rattle.schedule_texts.specs.declared.line.RosterLine.TheVariants as asked
use Rattle.sign_keys.specs.Keys.{index_count}
use Rattle.signer.specs.declared.SignFault.{SignFault}
use Rattle.signer.specs.declared.SignFault.TheVariants as fault
use Rattle.signer.specs.Lives.{LivesOn, Spent, spent_by}
use Rattle.signer.proofs.OnwardLemmas.{lives-same, lives-signed, lives-trans}
use Rattle.signer.specs.Signing.{SignerState}
use Rattle.signer.specs.Signs.{Signs}
use Rattle.authority.specs.declared.halt.Halt.{Halt}
use Rattle.ports.specs.Outside.{OfDisk}
use Rattle.authority.specs.Settings.{asked_in}
use Rattle.authority.specs.Telling.{IsTold}
use Rattle.authority.specs.Lines.{signed_line, signed_lines}
use Rattle.authority.specs.Signing.{AreSigned, FailsToPut, SignsAll, SignsLine, SignsOne, Upto, halt_of_fault, entry_behind, line_next, lines_of, put_behind, puts, seat_after}

-- ## One signature

-- the call of a signer that signs the certificate
abbrev SignsCert : CertBody → SignerState → SignerState → OfDisk → OfDisk → Result CheckedRecord SignFault → Type 0
SignsCert c s later old new r = Signs s later (Certificate c) r old new

pub stored-is : (a : Stored) (n e : ℕ) (m : Mask) → a.next ≡ n → a.epoch ≡ e → a.mask ≡ m → a ≡ record { next = n; epoch = e; mask = m }
stored-is a n e m x y z =
    ap (λ (i : ℕ). record { next = i; epoch = a.epoch; mask = a.mask }) x ∙ ap (λ (i : ℕ). record { next = n; epoch = i; mask = a.mask }) y ∙ ap (λ (i : Mask). record { next = n; epoch = e; mask = i }) z

-- nothing was signed, and nothing changed
none-signed : (s later : SignerState) (old new : OfDisk) → s.closed ≡ false → later ≡ s → new.faults ≡ old.faults → new.calls ≡ old.calls → new.moments ≡ old.moments → AreSigned [] s later old new
unfolding seat_after
none-signed s later old new going same faults calls moments = record {
  group = ap (λ x. x.group) same;
  key = ap (λ x. x.key) same;
  going = ap (λ x. x.closed) same ∙ going;
  next = ap (λ x. x.state.next) same ∙ omega arith;
  epoch = ap (λ x. x.state.epoch) same;
  mask = ap (λ x. x.state.mask) same;
  seat = ap (λ x. x.seat) same;
  within = λ few. subst (λ x. x.state.next ≤ index_count s.key) (sym same) few;
  faults = faults;
  calls = calls;
  settled = λ tag is. subst (λ ms. IsSettled tag later.state later.seat ms) (sym moments) (subst (λ x. IsSettled tag x.state x.seat old.moments) (sym same) is);
  lives = subst (λ ms. LivesOn [] s later old.moments ms) (sym moments) (lives-same s later old.moments same);
}

-- where a signer stands, the next put goes
put-same : (o a : Stored) (seat at : Seat) (behind signed : ℕ) → a.next + signed ≡ o.next + behind → a.epoch ≡ o.epoch → a.mask ≡ o.mask → seat_after a at signed ≡ seat_after o seat behind → put_behind a at signed ≡ put_behind o seat behind
unfolding put_behind
put-same o a seat at behind signed next epoch mask place =
    ap (λ g. put_calls g (record a { next = a.next + signed + 1 })) place
    ∙ ap (put_calls (seat_after o seat behind)) (stored-is (record a { next = a.next + signed + 1 }) (o.next + behind + 1) o.epoch o.mask (omega (arith, next)) epoch mask)

-- one put behind the gate
one-put : (o : Stored) (seat : Seat) → put_calls seat (record o { next = o.next + 1 }) ≡ put_behind o seat 0
unfolding put_behind seat_after
one-put o seat = ap (λ (n : ℕ). put_calls seat (record o { next = n })) (omega arith)

pub one-signed : (c : CertBody) (s later : SignerState) (old new : OfDisk) (rec : CheckedRecord) → s.closed ≡ false → SignsCert c s later old new (Ok rec) → AreSigned (c ∷ []) s later old new
unfolding seat_after put_behind
one-signed c s later old new rec going h = record {
  group = ap (λ x. x.group) h.after;
  key = ap (λ x. x.key) h.after;
  going = ap (λ x. x.closed) h.after ∙ going;
  next = ap (λ x. x.state.next) h.after;
  epoch = ap (λ x. x.state.epoch) h.after;
  mask = ap (λ x. x.state.mask) h.after;
  seat = ap (λ x. x.seat) h.after;
  within = λ few. let n : later.state.next ≡ s.state.next + 1 = ap (λ x. x.state.next) h.after in omega (arith, n, h.answers.1);
  faults = h.faults;
  calls = h.calls ∙ ap (λ calls. with_calls calls old.calls) (one-put s.state s.seat);
  settled = h.settled;
  lives = lives-signed s later (Certificate c) (Ok rec) _ _ h;
}

pub not-signed : (c : CertBody) (s later : SignerState) (between : IoState) (old new : OfDisk) (f : SignFault) → s.closed ≡ false → SignsCert c s later old new (Err f) → SignsOne c s later between between old new (Err (halt_of_fault f))
not-signed c s later between old new fault.OutOfMemory going h = (refl, inl (none-signed s later old new going h.after h.faults h.calls h.same))
not-signed c s later between old new fault.Closed going h = absurd (false≢true (sym going ∙ h.answers))
not-signed c s later between old new (fault.Exhausted next) going h = (refl, none-signed s later old new going h.after h.faults h.calls h.same, h.answers.1, h.answers.2)
not-signed c s later between old new fault.StoreFault going h = (
  refl,
  record {
    left = h.answers.1;
    faults = h.faults;
    calls = subst (λ calls. AsFarAs calls old.calls new.calls) (one-put s.state s.seat) h.calls;
    lives = lives-signed s later (Certificate c) (Err fault.StoreFault) _ _ h;
  },
)

-- ## One after the other

spent-more : (st : Stored) (certs : List CertBody) (c : CertBody) → spent_by st (map Certificate (certs ++ c ∷ [])) ≡ spent_by st (map Certificate certs) ++ record { index = st.next + length certs; body = Certificate c } ∷ []
spent-more st [] c = ap (λ (i : ℕ). record { index = i; body = Certificate c } ∷ []) (omega arith)
spent-more st (x ∷ certs) c =
    ap (λ (sp : List Spent). record { index = st.next; body = Certificate x } ∷ sp)
    (spent-more (record st { next = st.next + 1 }) certs c ∙ ap (λ (i : ℕ). spent_by (record st { next = st.next + 1 }) (map Certificate certs) ++ record { index = i; body = Certificate c } ∷ []) (omega arith))

pub signed-none : (s : SignerState) (old : OfDisk) → s.closed ≡ false → AreSigned [] s s old old
signed-none s old going = none-signed s s old old going refl refl refl refl

-- where the signatures end, the next put goes
pub put-next : (certs : List CertBody) (s then : SignerState) (old mid : OfDisk) → AreSigned certs s then old mid → put_behind then.state then.seat 0 ≡ put_behind s.state s.seat (length certs)
unfolding seat_after
put-next certs s then old mid a = put-same s.state then.state s.seat then.seat (length certs) 0 (omega (arith, a.next)) a.epoch a.mask a.seat

one-longer : (certs : List CertBody) (c : CertBody) → length (certs ++ c ∷ []) ≡ suc (length certs)
one-longer certs c = length-append certs (c ∷ []) ∙ omega arith

pub signed-more : (certs : List CertBody) (c : CertBody) (s then later : SignerState) (old mid new : OfDisk) → AreSigned certs s then old mid → AreSigned (c ∷ []) then later mid new → AreSigned (certs ++ c ∷ []) s later old new
unfolding seat_after put_behind
signed-more certs c s then later old mid new a b = record {
  group = b.group ∙ a.group;
  key = b.key ∙ a.key;
  going = b.going;
  next = let n = length-append certs (c ∷ []) in omega (arith, a.next, b.next, n);
  epoch = b.epoch ∙ a.epoch;
  mask = b.mask ∙ a.mask;
  seat =
      b.seat
      ∙ ap (λ (x : Seat). next_seat x (entry_behind then.state 0)) a.seat
      ∙ ap (λ (m : Mask). next_seat (seat_after s.state s.seat (length certs)) (record (entry_behind s.state (length certs)) { mask = m })) a.mask
      ∙ ap (seat_after s.state s.seat) (sym (one-longer certs c));
  within = λ few. subst (λ k. later.state.next ≤ index_count k) a.key (b.within (subst (λ k. then.state.next ≤ index_count k) (sym a.key) (a.within few)));
  faults = b.faults ∙ a.faults;
  calls =
      b.calls
      ∙ ap (λ calls. with_calls (calls ++ []) mid.calls) (put-next certs s then old mid a)
      ∙ ap (λ calls. with_calls (put_behind s.state s.seat (length certs)) calls) a.calls
      ∙ sym (with_calls-append (put_behind s.state s.seat (length certs)) (puts s.state s.seat (length certs)) old.calls)
      ∙ ap (λ n. with_calls (puts s.state s.seat n) old.calls) (sym (one-longer certs c));
  settled = λ tag is. b.settled tag (a.settled tag is);
  lives =
      let first = spent_by s.state (map Certificate certs) in
      let one : spent_by then.state (map Certificate (c ∷ [])) ≡ record { index = s.state.next + length certs; body = Certificate c } ∷ [] =
      ap (λ (i : ℕ). record { index = i; body = Certificate c } ∷ []) a.next in
      subst (λ sp. LivesOn sp s later old.moments new.moments) (ap (λ sp. first ++ sp) one ∙ sym (spent-more s.state certs c))
      (lives-trans first (spent_by then.state (map Certificate (c ∷ []))) s then later old.moments mid.moments new.moments a.lives b.lives);
}

lines-more : (s : SignerState) (next : ℕ) (certs : List CertBody) (c : CertBody) → signed_lines s.group s.key next (certs ++ c ∷ []) ≡ signed_lines s.group s.key next certs ++ signed_line s.group s.key (next + length certs) c
lines-more s next [] c = append-nil (signed_line s.group s.key next c) ∙ ap (λ (i : ℕ). signed_line s.group s.key i c) (omega arith)
lines-more s next (x ∷ certs) c =
    ap (λ (t : List ℕ). signed_line s.group s.key next x ++ t)
    (lines-more s (next + 1) certs c ∙ ap (λ (i : ℕ). signed_lines s.group s.key (next + 1) certs ++ signed_line s.group s.key i c) (omega arith))
    ∙ sym (append_assoc (signed_line s.group s.key next x) (signed_lines s.group s.key (next + 1) certs) (signed_line s.group s.key (next + length (x ∷ certs)) c))

-- the line of the next one
pub next-line : (certs : List CertBody) (c : CertBody) (s then : SignerState) (old mid : OfDisk) → AreSigned certs s then old mid → line_next then c ≡ signed_line s.group s.key (s.state.next + length certs) c
next-line certs c s then old mid a =
    ap (λ g. signed_line g then.key then.state.next c) a.group ∙ ap (λ k. signed_line s.group k then.state.next c) a.key ∙ ap (λ i. signed_line s.group s.key i c) a.next

pub told-trans : (was mid now : IoState) (first second : List ℕ) → IsTold was mid first → IsTold mid now second → IsTold was now (first ++ second)
told-trans was mid now first second a b = record {
  wrote = Appends-trans was.taken mid.taken now.taken first second a.wrote b.wrote;
  left = b.left ∙ a.left;
  unfailed = record { reads = b.unfailed.reads ∙ a.unfailed.reads; writes = b.unfailed.writes ∙ a.unfailed.writes };
}

pub told-none : (was : IoState) → IsTold was was []
told-none was = record { wrote = Appends-nil was.taken; left = refl; unfailed = record { reads = refl; writes = refl } }

asked-append : (a b : List RosterLine) → asked_in (a ++ b) ≡ asked_in a ++ asked_in b
asked-append [] b = refl
asked-append (asked.Header ∷ a) b = asked-append a b
asked-append (asked.Group g ∷ a) b = asked-append a b
asked-append (asked.Kinds k ∷ a) b = asked-append a b
asked-append (asked.Secret s ∷ a) b = asked-append a b
asked-append (asked.Cert c ∷ a) b = ap (λ (cs : List CertBody). c ∷ cs) (asked-append a b)
asked-append (asked.End ∷ a) b = asked-append a b

-- these lines, so far
pub record SoFar (certs : List CertBody) (s then : SignerState) (was now : IoState) (old new : OfDisk) : Type 0 where
  pub signed : AreSigned certs s then old new
  pub told : IsTold was now (lines_of s certs)

so-far-more : (certs : List CertBody) (c : CertBody) (s then later : SignerState) (was mid now : IoState) (old disk new : OfDisk) → SoFar certs s then was mid old disk → SignsOne c then later mid now disk new (Ok tt) → SoFar (certs ++ c ∷ []) s later was now old new
so-far-more certs c s then later was mid now old disk new a b = record {
  signed = signed-more certs c s then later old disk new a.signed b.0;
  told = subst (IsTold was now)
      (ap (λ t. lines_of s certs ++ t) (next-line certs c s then old disk a.signed) ∙ sym (lines-more s s.state.next certs c))
      (told-trans was mid now (lines_of s certs) (line_next then c) a.told b.1);
}

same-so-far : (certs : List CertBody) (s then later : SignerState) (was mid now : IoState) (old disk new : OfDisk) → SoFar certs s then was mid old disk → later ≡ then → now ≡ mid → new ≡ disk → SoFar certs s later was now old new
same-so-far certs s then later was mid now old disk new a x y z =
    subst (λ l. SoFar certs s l was now old new) (sym x) (subst (λ n. SoFar certs s then was n old new) (sym y) (subst (λ d. SoFar certs s then was mid old d) (sym z) a))

-- one line more
line-more : (certs : List CertBody) (l : RosterLine) (s then later : SignerState) (was mid now : IoState) (old disk new : OfDisk) → SoFar certs s then was mid old disk → SignsLine l then later mid now disk new (Ok tt) → SoFar (certs ++ asked_in (l ∷ [])) s later was now old new
line-more certs (asked.Cert c) s then later was mid now old disk new a b = so-far-more certs c s then later was mid now old disk new a b
line-more certs asked.Header s then later was mid now old disk new a b = subst (λ cs. SoFar cs s later was now old new) (sym (append-nil certs)) (same-so-far certs s then later was mid now old disk new a b.1 b.2 b.3)
line-more certs (asked.Group g) s then later was mid now old disk new a b = subst (λ cs. SoFar cs s later was now old new) (sym (append-nil certs)) (same-so-far certs s then later was mid now old disk new a b.1 b.2 b.3)
line-more certs (asked.Kinds k) s then later was mid now old disk new a b = subst (λ cs. SoFar cs s later was now old new) (sym (append-nil certs)) (same-so-far certs s then later was mid now old disk new a b.1 b.2 b.3)
line-more certs (asked.Secret x) s then later was mid now old disk new a b = subst (λ cs. SoFar cs s later was now old new) (sym (append-nil certs)) (same-so-far certs s then later was mid now old disk new a b.1 b.2 b.3)
line-more certs asked.End s then later was mid now old disk new a b = subst (λ cs. SoFar cs s later was now old new) (sym (append-nil certs)) (same-so-far certs s then later was mid now old disk new a b.1 b.2 b.3)

pub lines-more-so-far : (done : List RosterLine) (l : RosterLine) (s then later : SignerState) (was mid now : IoState) (old disk new : OfDisk) → SoFar (asked_in done) s then was mid old disk → SignsLine l then later mid now disk new (Ok tt) → SoFar (asked_in (done ++ l ∷ [])) s later was now old new
lines-more-so-far done l s then later was mid now old disk new a b =
    subst (λ cs. SoFar cs s later was now old new) (sym (asked-append done (l ∷ []))) (line-more (asked_in done) l s then later was mid now old disk new a b)

-- a line at which the signing stops
abbrev stopped : Halt → Result (Unit {0}) Halt
stopped h = Err h

never-stops : (h : Halt) → stopped h ≡ Ok tt → ⊥
never-stops h is = cc

pub stops-at : (lines done rest : List RosterLine) (l : RosterLine) (s then later : SignerState) (was mid now : IoState) (old disk new : OfDisk) (h : Halt) → lines ≡ done ++ l ∷ rest → SoFar (asked_in done) s then was mid old disk → SignsLine l then later mid now disk new (stopped h)
    → Upto (asked_in lines) s was old (λ c t m d. (x : SignerState) × SignsOne c t x m now d new (stopped h))
stops-at lines done rest (asked.Cert c) s then later was mid now old disk new h split a b = record {
  done = asked_in done;
  one = c;
  part = record { rest = asked_in rest; are = ap asked_in split ∙ asked-append done (asked.Cert c ∷ rest) };
  then = then;
  mid = mid;
  disk = disk;
  signed = a.signed;
  told = a.told;
  ends = (later, b);
}
stops-at lines done rest asked.Header s then later was mid now old disk new h split a b = absurd (never-stops h b.0)
stops-at lines done rest (asked.Group g) s then later was mid now old disk new h split a b = absurd (never-stops h b.0)
stops-at lines done rest (asked.Kinds k) s then later was mid now old disk new h split a b = absurd (never-stops h b.0)
stops-at lines done rest (asked.Secret x) s then later was mid now old disk new h split a b = absurd (never-stops h b.0)
stops-at lines done rest asked.End s then later was mid now old disk new h split a b = absurd (never-stops h b.0)

-- nothing more is spent
nothing-more : (first : List Spent) (a b c : SignerState) (x y z : List Moment) → LivesOn first a b x y → LivesOn [] b c y z → LivesOn first a c x z
nothing-more first a b c x y z p q = subst (λ sp. LivesOn sp a c x z) (append-nil first) (lives-trans first [] a b c x y z p q)

-- nothing more was signed
pub signed-nothing : (certs : List CertBody) (s then later : SignerState) (old mid new : OfDisk) → AreSigned certs s then old mid → AreSigned [] then later mid new → AreSigned certs s later old new
unfolding seat_after
signed-nothing certs s then later old mid new a b = record {
  group = b.group ∙ a.group;
  key = b.key ∙ a.key;
  going = b.going;
  next = omega (arith, a.next, b.next);
  epoch = b.epoch ∙ a.epoch;
  mask = b.mask ∙ a.mask;
  seat = b.seat ∙ a.seat;
  within = λ few. subst (λ k. later.state.next ≤ index_count k) a.key (b.within (subst (λ k. then.state.next ≤ index_count k) (sym a.key) (a.within few)));
  faults = b.faults ∙ a.faults;
  calls = b.calls ∙ a.calls;
  settled = λ tag is. b.settled tag (a.settled tag is);
  lives = nothing-more (spent_by s.state (map Certificate certs)) s then later old.moments mid.moments new.moments a.lives b.lives;
}

-- the disk failed behind these signatures
pub fails-behind : (certs : List CertBody) (s then later : SignerState) (old mid new : OfDisk) → AreSigned certs s then old mid → FailsToPut then later mid new → LivesOn (spent_by s.state (map Certificate certs)) s later old.moments new.moments
fails-behind certs s then later old mid new a b = nothing-more (spent_by s.state (map Certificate certs)) s then later old.moments mid.moments new.moments a.lives b.lives

pub no-lines : (lines : List RosterLine) → length lines ≡ 0 → lines ≡ []
no-lines [] h = refl
no-lines (l ∷ lines) h = absurd (omega (arith, h))

-- all of the lines
pub all-so-far : (lines done : List RosterLine) (s later : SignerState) (was now : IoState) (old new : OfDisk) → lines ≡ done → SoFar (asked_in done) s later was now old new → SignsAll (asked_in lines) s was now old new (Ok tt)
all-so-far lines done s later was now old new same far =
    let here : SoFar (asked_in lines) s later was now old new = subst (λ ls. SoFar (asked_in ls) s later was now old new) (sym same) far in
    (later, here.signed, here.told)
