-- One exchange is enough.
use Rattle.std.proofs.Common.{◌≡◌, ℕ, ◌≤◌, ◌<◌, inl, inr, List, [], ◌∷◌, ◌++◌, length, Some, refl, ap, sym, ◌∙◌, subst, arith}
use Rattle.std.proofs.lemmas.Bool.{cases_lt}
use Rattle.std.proofs.lemmas.List.Sums.{fold-append}
use Rattle.std.specs.List.{AllByRecursion}
use Rattle.ff_ids.specs.declared.NoteBody.{NoteBody}
use Rattle.ff_ids.specs.declared.summary.RecordKey.TheVariants as keys
use Rattle.ff_ids.specs.declared.summary.Summary.{Summary}
use Rattle.ff_ids.specs.Notes.{newest}
use Rattle.ff_ids.specs.Summaries.{page_of_member}
use Rattle.life_laws.proofs.NoteLemmas.{newest-fits}
use Rattle.records.specs.declared.Body.TheVariants.{Note}
use Rattle.records.specs.declared.Record.{Record}
use Rattle.records.specs.Spelling.{IsBody}
use Rattle.datagram.specs.Spelling.{datagram_bytes, IsDatagram}
use Rattle.datagram.proofs.Readings.{read_again}
use Rattle.node_rules.specs.Nodes.{Setting, Node, state_of}
use Rattle.node_rules.specs.Pages.{page, lacking}
use Rattle.node_rules.specs.Calls.{Call, begun}
use Rattle.node_rules.specs.Deliveries.{hears, handles_all, delivered}
use Rattle.node_rules.specs.Lives.{Input, Delivers, call_of, after_calls}
use Rattle.node_rules.specs.OneExchange.{Life, node_after, notes_after, IsCorrect, IsWithinRanges, IsOfBytes, given_to, CanBeSent, all_lacking, HoldsAllLacking, HasAtLeast, IsKnownAmong, Meet}
use Rattle.node_rules.proofs.Keeping.{keeps-call}
use Rattle.node_rules.proofs.Growth.{Follows, follows-itself, following, follows-calls}
use Rattle.node_rules.proofs.Correctness.{all-life}
use Rattle.node_rules.proofs.Exchanges.{has-follows}
use Rattle.node_rules.proofs.WholePages.{HoldsNote, holds-note, Meets, known-page}
use Rattle.node_rules.proofs.Forms.{Formed, formed-life}
use Rattle.node_rules.proofs.Sendable.{lacking-datagram}

pub sendable : (l : Life) (inputs : List Input) → IsCorrect l → IsWithinRanges l → AllByRecursion IsOfBytes inputs → CanBeSent l.setting (node_after l inputs)
sendable l inputs correct ranges bytes =
    let formed : Formed l.setting l.own (node_after l inputs) = formed-life l inputs correct ranges bytes in
    record {
      held = formed.held;
      given = λ from theirs some. lacking-datagram l.setting (node_after l inputs) from theirs ranges.me formed.held some;
    }

-- epochs are counted from 1
noted : (l : Life) (inputs : List Input) (note : NoteBody) → IsCorrect l → IsWithinRanges l → AllByRecursion IsOfBytes inputs → newest (notes_after l inputs) note.member ≡ Some note → 0 < note.epoch
noted l inputs note correct ranges bytes is =
    let n : Node = node_after l inputs in
    let formed : Formed l.setting l.own n = formed-life l inputs correct ranges bytes in
    let holds : HoldsNote n note = holds-note n note (formed.all.upholds.notes note.member ∙ is) in
    let body : IsBody (Note note) = subst IsBody holds.is (formed.held (keys.Note note.member) holds.rec holds.place).body in
    body.has_epoch

pub calls-append : (s : Setting) (n : Node) (xs ys : List Input) → after_calls s n (xs ++ ys) ≡ after_calls s (after_calls s n xs) ys
calls-append s n xs ys = fold-append (λ m i. (call_of s m i).node) n xs ys

meets : (a b : Life) (made before between : List Input) → Meet a b made before between → Meets a.setting b.setting a.own b.own (node_after a made) (node_after b before) (begun (node_after b (before ++ between)))
meets a b made before between m =
    let s : Setting = b.setting in
    let earlier : Node = node_after b before in
    record {
      group = m.group;
      some = m.other_correct.rings.some;
      signs = m.other_correct.signs;
      theirs = all-life a made m.correct;
      before = all-life b before m.other_correct;
      ours = all-life b (before ++ between) m.other_correct;
      follows = subst (Follows s earlier) (sym (calls-append s (node_after b []) before between)) (follows-calls s earlier earlier between (follows-itself s earlier));
      agrees = m.agree;
      own_known = m.own_known;
    }

-- Once the records are handled.
known-handled : (a b : Life) (made before between : List Input) (number : ℕ) → Meet a b made before between → (m : ℕ) → page_of_member m ≡ number
    → IsKnownAmong m (notes_after a made) (state_of b.setting (handles_all b.setting (all_lacking (node_after a made) b.setting.me (page (node_after b before) number)) (begun (node_after b (before ++ between)))).node).notes
known-handled a b made before between number meet m of =
    λ note is.
    let s : Setting = b.setting in
    let n : Node = node_after a made in
    let earlier : Node = node_after b before in
    let c : Call = begun (node_after b (before ++ between)) in
    let who : note.member ≡ m = (newest-fits (notes_after a made) m note is).1 in
    let there : newest (notes_after a made) note.member ≡ Some note = ap (newest (notes_after a made)) who ∙ is in
    subst (λ k. HasAtLeast (state_of s (handles_all s (all_lacking n s.me (page earlier number)) c).node).notes k note) who
    (known-page a.setting s a.own b.own n earlier s.me number c note (meets a b made before between meet) (ap page_of_member who ∙ of) there (noted a made note meet.correct meet.ranges meet.bytes there))

pub nothing-lacking : (a b : Life) (made before between : List Input) (number : ℕ) → Meet a b made before between → all_lacking (node_after a made) b.setting.me (page (node_after b before) number) ≡ []
    → (m : ℕ) → page_of_member m ≡ number → IsKnownAmong m (notes_after a made) (notes_after b (before ++ between))
nothing-lacking a b made before between number meet none m of =
    let c : Call = begun (node_after b (before ++ between)) in
    subst (λ rs. IsKnownAmong m (notes_after a made) (state_of b.setting (handles_all b.setting rs c).node).notes) none (known-handled a b made before between number meet m of)

delivered-whole : (s other : Setting) (n giver : Node) (from : ℕ) (theirs : Summary) (bytes : List ℕ) → IsDatagram (datagram_bytes (given_to other giver from theirs)) (given_to other giver from theirs) → HoldsAllLacking other giver from theirs bytes
    → delivered s n bytes ≡ handles_all s (all_lacking giver from theirs) (begun n)
unfolding delivered
delivered-whole s other n giver from theirs bytes is h =
    ap (λ d. hears s d (begun n)) (read_again bytes (given_to other giver from theirs) (subst (λ xs. IsDatagram xs (given_to other giver from theirs)) (sym h.spelled) is)) ∙ ap (λ rs. handles_all s rs (begun n)) h.whole

no-records : (records : List Record) → length records ≤ 0 → records ≡ []
no-records [] le = refl
no-records (r ∷ records) le = absurd (omega (arith, le))

follows-call : (s : Setting) (n : Node) (i : Input) → Follows s n (call_of s n i).node
follows-call s n i = keeps-call s (λ c. Follows s n c.node) (following s n) n i (follows-itself s n)

pub one-exchange : (a b : Life) (made before between : List Input) (number : ℕ) (bytes : List ℕ) → Meet a b made before between
    → HoldsAllLacking a.setting (node_after a made) b.setting.me (page (node_after b before) number) bytes
    → (m : ℕ) → page_of_member m ≡ number → IsKnownAmong m (notes_after a made) (notes_after b ((before ++ between) ++ Delivers bytes ∷ []))
one-exchange a b made before between number bytes meet holds m of =
    let s : Setting = b.setting in
    let n : Node = node_after a made in
    let theirs : Summary = page (node_after b before) number in
    let handed : Node = node_after b (before ++ between) in
    let last : node_after b ((before ++ between) ++ Delivers bytes ∷ []) ≡ (delivered s handed bytes).node = calls-append s (node_after b []) (before ++ between) (Delivers bytes ∷ []) in
    subst (λ (x : Node). IsKnownAmong m (notes_after a made) (state_of s x).notes) (sym last)
    (elim (cases_lt 0 (length (lacking n s.me theirs))) [
      | inl some ↦
          let is = (sendable a made meet.correct meet.ranges meet.bytes).given s.me theirs some in
          subst (λ (c : Call). IsKnownAmong m (notes_after a made) (state_of s c.node).notes) (sym (delivered-whole s a.setting handed n s.me theirs bytes is holds)) (known-handled a b made before between number meet m of)
      | inr none ↦
          let known = nothing-lacking a b made before between number meet (sym holds.whole ∙ no-records (lacking n s.me theirs) none) m of in
          λ note is. has-follows m (state_of s handed).notes (state_of s (delivered s handed bytes).node).notes note ((follows-call s handed (Delivers bytes)).notes m) (known note is)
    ])
