-- What an enrolment has spent of its key, whatever ended it.
use Rattle.std.proofs.Common.{◌≡◌, ◌+◌, ◌<◌, ◌≤◌, ◌⊎◌, ℕ, false, length, map, take, drop, ltb, Option, List, [], ◌∷◌, ◌++◌, Result, Ok, Err, refl, sym, subst, ap, ◌∙◌, inl, inr, arith, append-nil, append_assoc, take-append-drop}
use Rattle.std.specs.List.{AllByRecursion}
use Rattle.std.specs.Io.KnownBytes.{Appends}
use Rattle.std.proofs.Math.Nat.{le-max_right}
use Rattle.std.proofs.KnownBytes.{Appends-trans}
use Rattle.std.proofs.lemmas.Bool.Decides.{nat_tests}
use Rattle.sign_keys.specs.Keys.{index_count}
use Rattle.ports.specs.Contents.{TookFront}
use Rattle.ports.specs.Disk.{Fails, stays}
use Rattle.ports.specs.Outside.{OfDisk}
use Rattle.ports.proofs.SinceLemmas.{Fails-same}
use Rattle.epoch_store.specs.declared.seat.Seat.{Seat}
use Rattle.epoch_store.specs.declared.Stored.{Stored}
use Rattle.epoch_store.specs.Calls.{HoldsStore}
use Rattle.line_text.specs.declared.bad_word.BadWord.{BadWord}
use Rattle.play.specs.Plays.{IoState}
use Rattle.play.specs.declared.stop.Stop.{Stop}
use Rattle.play.specs.declared.stop.Stop.TheVariants as stop
use Rattle.records.specs.declared.Body.TheVariants.{Certificate}
use Rattle.records.specs.declared.CertBody.{CertBody}
use Rattle.schedule_texts.specs.declared.line.RosterLine.{RosterLine}
use Rattle.schedule_texts.specs.declared.roster.RosterText.TheVariants as roster
use Rattle.signer.specs.Lives.{IsRising, Spent, indexes, note_epochs, spent_by}
use Rattle.signer.proofs.LivingLemmas.{kept_by_opening}
use Rattle.whole_text.specs.Gathered.{IsUnfinished, Judging}
use Rattle.authority.specs.declared.halt.Halt.{Halt}
use Rattle.authority.specs.declared.halt.Halt.TheVariants as halt
use Rattle.authority.specs.declared.setting.Setting.{Setting}
use Rattle.authority.specs.Settings.{asked_in, key_of, roster_judging, tag_of}
use Rattle.authority.specs.Texts.{IsRoster}
use Rattle.authority.specs.Lines.{lines_for, lines_within, signed_line}
use Rattle.authority.specs.Signing.{IsPart}
use Rattle.authority.specs.Enrolling.{AreEnrolled, Enrols, IsEnough, Spends, SpendsFronts}
use Rattle.node_command.proofs.RestLemmas.{silent-unread}
use Rattle.command_line.specs.Causes.{status_of_halt}
use Rattle.command_line.specs.Ends.{Tells}
use Rattle.node_command.specs.Spendings.{SpendsNone}
use Rattle.command_line.specs.Enrolment.{Enrolment, SpendsCerts, WritesCerts, cert_lines}
use Rattle.command_line.specs.declared.status.Status.{Status}
use Rattle.command_line.proofs.EnrollLemmas.{split-within}

abbrev Answer : Type 0
Answer = Result (Unit {0}) Halt

-- ## The indexes

record Rises (low : ℕ) (spent : List Spent) : Type 0 where
  rising : IsRising (indexes spent)
  above : AllByRecursion (λ i. low ≤ i) (indexes spent)

all-above : (low high : ℕ) (xs : List ℕ) → high ≡ low + 1 → AllByRecursion (λ i. high ≤ i) xs → AllByRecursion (λ i. low < i) xs × AllByRecursion (λ i. low ≤ i) xs
all-above low high [] step above = (tt, tt)
all-above low high (x ∷ xs) step above =
    let more = all-above low high xs step above.1 in ((omega (arith, step, above.0), more.0), (omega (arith, step, above.0), more.1))

-- the indexes of certificates that are signed from a state on
rises : (o : Stored) (certs : List CertBody) → Rises o.next (spent_by o (map Certificate certs))
rises o [] = record { rising = tt; above = tt }
rises o (c ∷ certs) =
    let rest = rises (record o { next = o.next + 1 }) certs in
    let up = all-above o.next (o.next + 1) (indexes (spent_by (record o { next = o.next + 1 }) (map Certificate certs))) refl rest.above in
    record { rising = (up.0, rest.rising); above = (omega arith, up.1) }

-- certificates have no epoch
no-epochs : (o : Stored) (certs : List CertBody) → IsRising (note_epochs (spent_by o (map Certificate certs)))
no-epochs o [] = tt
no-epochs o (c ∷ certs) = no-epochs (record o { next = o.next + 1 }) certs

-- ## The lines

all-written : (s : Setting) (next : ℕ) (certs : List CertBody) (before after : Option (List ℕ)) → Appends before after (cert_lines s next certs) → WritesCerts s next certs before after
all-written s next certs before after wrote = record {
  told = certs;
  last = [];
  are = sym (append-nil certs);
  most = omega arith;
  part = [];
  front = record { more = []; is = refl };
  written = subst (Appends before after) (sym (append-nil (cert_lines s next certs))) wrote;
}

-- all but the last one's line
but-last : (s : Setting) (next : ℕ) (done : List CertBody) (one : CertBody) (before after : Option (List ℕ)) → Appends before after (cert_lines s next done) → WritesCerts s next (done ++ one ∷ []) before after
but-last s next done one before after wrote = record {
  told = done;
  last = one ∷ [];
  are = refl;
  most = omega arith;
  part = [];
  front = record { more = cert_lines s (next + length done) (one ∷ []); is = refl };
  written = subst (Appends before after) (sym (append-nil (cert_lines s next done))) wrote;
}

cut-last : (s : Setting) (next : ℕ) (done : List CertBody) (one : CertBody) (before mid after : Option (List ℕ)) → Appends before mid (cert_lines s next done) → TookFront mid after (signed_line s.group (key_of s) (next + length done) one)
    → WritesCerts s next (done ++ one ∷ []) before after
cut-last s next done one before mid after wrote cut =
    let line = signed_line s.group (key_of s) (next + length done) one in
    record {
      told = done;
      last = one ∷ [];
      are = refl;
      most = omega arith;
      part = take cut.count line;
      front = record { more = drop cut.count line; is = append-nil line ∙ sym (take-append-drop cut.count line) };
      written = Appends-trans before mid after (cert_lines s next done) (take cut.count line) wrote cut.gained;
    }

-- as far as the key has indexes, which is as far as they were signed
no-more : (s : Setting) (i : ℕ) (c : CertBody) (rest : List CertBody) → index_count (key_of s) ≤ i → lines_within s.group (key_of s) i (c ∷ rest) ≡ []
no-more s i c rest gone = let none : ltb i (index_count (key_of s)) ≡ false = grind (arith, nat_tests) in rw none refl

lines-all : (s : Setting) (o : Stored) (certs : List CertBody) → IsEnough s o.next certs → lines_for o.next certs s ≡ cert_lines s o.next certs
lines-all s o certs (inr none) = rw none refl
lines-all s o certs (inl enough) =
    ap (lines_within s.group (key_of s) o.next) (sym (append-nil certs)) ∙ split-within s o.next certs [] enough ∙ append-nil (cert_lines s o.next certs)

lines-gone : (s : Setting) (o : Stored) (certs done : List CertBody) (one : CertBody) (part : IsPart certs done one) → IsEnough s o.next done → index_count (key_of s) ≤ o.next + length done → lines_for o.next certs s ≡ cert_lines s o.next done
lines-gone s o certs done one part (inl enough) gone =
    ap (lines_within s.group (key_of s) o.next) part.are ∙ split-within s o.next done (one ∷ part.rest) enough
    ∙ ap (λ (t : List ℕ). cert_lines s o.next done ++ t) (no-more s (o.next + length done) one part.rest gone) ∙ append-nil (cert_lines s o.next done)
lines-gone s o certs done one part (inr none) gone =
    let at : index_count (key_of s) ≤ o.next = let n = ap length none in omega (arith, n, gone) in
    ap (lines_within s.group (key_of s) o.next) part.are ∙ ap (λ (ds : List CertBody). lines_within s.group (key_of s) o.next (ds ++ one ∷ part.rest)) none
    ∙ no-more s o.next one part.rest at ∙ sym (ap (cert_lines s o.next) none)

-- ## The answers

-- these certificates were signed
spends-certs : (was between mid : IoState) (s : Setting) (lines : List RosterLine) (o : Stored) (seat : Seat) (certs others : List CertBody) (old new : OfDisk) → IsRoster was between s lines → HoldsStore (tag_of s) o seat old.moments → asked_in lines ≡ certs ++ others
    → WritesCerts s o.next certs between.taken mid.taken → Spends s o certs old new → SpendsFronts s o certs old new → SpendsCerts was mid old new
spends-certs was between mid s lines o seat certs others old new read found first wrote spends fronts =
    let up = rises o certs in
    inr (record {
      setting = s;
      lines = lines;
      between = between;
      read = read;
      opened = o;
      seat = seat;
      found = found;
      certs = certs;
      others = others;
      first = first;
      written = record {
        told = wrote.told;
        last = wrote.last;
        are = wrote.are;
        most = wrote.most;
        part = wrote.part;
        front = wrote.front;
        written = Appends-trans was.taken between.taken mid.taken [] (cert_lines s o.next wrote.told ++ wrote.part) read.whole.wrote wrote.written;
      };
      once = record { indexes_rise = up.rising; epochs_rise = no-epochs o certs };
      above = up.above;
      lives = spends;
      any_moment = fronts;
    })

-- nothing was written or put
pub spends-none : (before after : Option (List ℕ)) (old new : OfDisk) → Appends before after [] → Fails stays old.moments new.moments → SpendsNone before after old new
spends-none before after old new unwritten fails = record {
  unwritten = unwritten;
  any_moment = λ tag image spent ends. (kept_by_opening tag image spent old.moments new.moments ends fails).0;
  ends = λ tag image spent ends. (kept_by_opening tag image spent old.moments new.moments ends fails).1;
}

pub spends-none-unread : {F L : Type 0} (j : Judging F L) (form : F) (was now : IoState) (old new : OfDisk) (s : Stop BadWord) → IsUnfinished j form was now s → new ≡ old → SpendsNone was.taken now.taken old new
spends-none-unread j form was now old new s cut same =
    spends-none was.taken now.taken old new (silent-unread j form was now s cut) (Fails-same old.moments new.moments (ap (λ (d : OfDisk). d.moments) same))

unread : (was now : IoState) (old new : OfDisk) (s : Stop BadWord) → IsUnfinished roster_judging roster.Start was now s × (new ≡ old) → SpendsCerts was now old new
unread was now old new s h = inl (spends-none-unread roster_judging roster.Start was now old new s h.0 h.1)

kept-over : (was between mid : IoState) (s : Setting) (lines : List RosterLine) (old new : OfDisk) → IsRoster was between s lines → mid ≡ between → Fails stays old.moments new.moments → SpendsCerts was mid old new
kept-over was between mid s lines old new read same fails =
    inl (spends-none was.taken mid.taken old new (subst (λ (m : IoState). Appends was.taken m.taken []) (sym same) read.whole.wrote) fails)

-- the first ones, or one more
one-more : (certs done : List CertBody) (one : CertBody) (part : IsPart certs done one) → certs ≡ (done ++ one ∷ []) ++ part.rest
one-more certs done one part = part.are ∙ sym (append_assoc done (one ∷ []) part.rest)

spends-either : (name : List ℕ) (was between mid : IoState) (s : Setting) (lines : List RosterLine) (o : Stored) (done : List CertBody) (one : CertBody) (part : IsPart (asked_in lines) done one) (old new : OfDisk) → IsRoster was between s lines → Appends between.taken mid.taken (cert_lines s o.next done)
    → AreEnrolled name s o done old new ⊎ AreEnrolled name s o (done ++ one ∷ []) old new → SpendsCerts was mid old new
spends-either name was between mid s lines o done one part old new read wrote (inl e) =
    spends-certs was between mid s lines o e.seat done (one ∷ part.rest) old new read e.found part.are (all-written s o.next done between.taken mid.taken wrote) e.spends e.any_moment
spends-either name was between mid s lines o done one part old new read wrote (inr e) =
    spends-certs was between mid s lines o e.seat (done ++ one ∷ []) part.rest old new read e.found (one-more (asked_in lines) done one part) (but-last s o.next done one between.taken mid.taken wrote) e.spends e.any_moment

spends-by : (name : List ℕ) (was mid : IoState) (old new : OfDisk) (r : Answer) → Enrols name was mid old new r → SpendsCerts was mid old new
spends-by name was mid old new (Ok _) h =
    let e = h.rest in
    let asked = asked_in h.lines in
    let wrote = subst (Appends h.between.taken mid.taken) (lines-all h.setting e.opened asked e.enrolled.enough) e.told.wrote in
    spends-certs was h.between mid h.setting h.lines e.opened e.enrolled.seat asked [] old new h.read e.enrolled.found (sym (append-nil asked))
    (all-written h.setting e.opened.next asked h.between.taken mid.taken wrote) e.enrolled.spends e.enrolled.any_moment
spends-by name was mid old new (Err (halt.Refused line w)) h = unread was mid old new (stop.Refused line w) h
spends-by name was mid old new (Err halt.ReadFault) h = unread was mid old new stop.ReadFault h
spends-by name was mid old new (Err halt.WriteFault) h =
    let e = h.rest in
    spends-certs was h.between mid h.setting h.lines e.opened e.enrolled.seat (e.done ++ e.one ∷ []) e.part.rest old new h.read e.enrolled.found (one-more (asked_in h.lines) e.done e.one e.part)
    (cut-last h.setting e.opened.next e.done e.one h.between.taken e.mid.taken mid.taken e.told.wrote e.cut.wrote) e.enrolled.spends e.enrolled.any_moment
spends-by name was mid old new (Err halt.StoreFault) h =
    elim h.rest [
      | inl opening ↦ kept-over was h.between mid h.setting h.lines old new h.read opening.0 opening.1.moments
      | inr e ↦ spends-certs was h.between mid h.setting h.lines e.opened e.seat e.done (e.one ∷ e.part.rest) old new h.read e.found e.part.are
          (all-written h.setting e.opened.next e.done h.between.taken mid.taken e.told.wrote) e.spends e.any_moment
    ]
spends-by name was mid old new (Err (halt.StoreBroken place byte)) h = kept-over was h.between mid h.setting h.lines old new h.read h.rest.0 h.rest.1.kept
spends-by name was mid old new (Err (halt.StoreTaken len)) h = absurd h.rest
spends-by name was mid old new (Err (halt.Exhausted next)) h =
    let e = h.rest in
    let gone : index_count (key_of h.setting) ≤ e.opened.next + length e.done =
    let m = le-max_right e.opened.next (index_count (key_of h.setting)) in omega (arith, m, e.gone, e.next_is) in
    let wrote = subst (Appends h.between.taken mid.taken) (lines-gone h.setting e.opened (asked_in h.lines) e.done e.one e.part e.enrolled.enough gone) e.told.wrote in
    spends-certs was h.between mid h.setting h.lines e.opened e.enrolled.seat e.done (e.one ∷ e.part.rest) old new h.read e.enrolled.found e.part.are
    (all-written h.setting e.opened.next e.done h.between.taken mid.taken wrote) e.enrolled.spends e.enrolled.any_moment
spends-by name was mid old new (Err halt.OutOfMemory) h =
    elim h [
      | inl cut ↦ unread was mid old new stop.OutOfMemory cut
      | inr w ↦ elim w.rest [
        | inl opening ↦ kept-over was w.between mid w.setting w.lines old new w.read opening.0 opening.1.moments
        | inr e ↦ spends-either name was w.between mid w.setting w.lines e.opened e.done e.one e.part old new w.read e.told.wrote e.enrolled
      ]
    ]

pub enroll-upheld : (name : List ℕ) (was mid now : IoState) (old new : OfDisk) (r : Answer) (s : Status) → Enrols name was mid old new r → Tells (status_of_halt r) mid now s → Enrolment was now old new s
enroll-upheld name was mid now old new r s h t = record { result = r; between = mid; spends = spends-by name was mid old new r h; tells = t }
