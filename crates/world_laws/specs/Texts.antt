-- Whole texts in the world form: what comes of one is a world to which its lines lead.
use Rattle.std.specs.Prelude.{◌≡◌, ℕ, ◌+◌, true, false, if◌then◌else◌, List, [], ◌∷◌, length, Contains, Option, Some, None, Ok, Err}
use Rattle.std.specs.List.{AllByRecursion, slice_get}
use Rattle.ff_ids.specs.declared.AccBody.{AccBody}
use Rattle.ff_ids.specs.declared.NoteBody.{NoteBody}
use Rattle.ff_ids.specs.Notes.{is_leaving}
use Rattle.records.specs.declared.Body.TheVariants.{Accusation, Note}
use Rattle.signer.specs.Lives.{IsOnce, IsRising}
use Rattle.journal.specs.declared.event.What.TheVariants as happened
use Rattle.line_text.specs.declared.bad_word.BadWord.{BadWord}
use Rattle.line_text.specs.declared.bad_word.BadWord.TheVariants as bad
use Rattle.line_text.specs.Answers.{Progress}
use Rattle.schedule_world.specs.declared.line.WorldLine.{WorldLine}
use Rattle.schedule_world.specs.declared.text.WorldText.{WorldText}
use Rattle.schedule_world.specs.Rows.{is_ended}
use Rattle.schedule_world.specs.Grammar.{behind, judge, opening}
use Rattle.world_rules.specs.Settings.{Setting, is_node}
use Rattle.world_rules.specs.Worlds.{World, lives_of, spent_of}
use Rattle.world_rules.specs.Forgeries.{Forgery}
use Rattle.world_rules.specs.Steps.{NodeEvent, step}
use Rattle.world_rules.specs.declared.cause.Cause.TheVariants as causes
use Rattle.world_rules.specs.Walk.{Grammar, Stage, Lists, Plays, Taken, Walk, events_in, last_line, setting_in, walk_over}
use Rattle.world_rules.specs.Laws.{IsSetting, Reached, TellsLives}
use Rattle.world_laws.specs.Signing.{HasSpentOn, KeepsRoster, SignedAsCalled, SignedAtTick}
use Rattle.world_laws.specs.Laws.{is_own_ahead, AccusesRightly, AllAcceptRightly, IsVerifiedRemoval, RemovesVerified, SignaturesVerify}
use Rattle.world_laws.specs.Sent.{HasIndexes, SendsAuthentic}
use Rattle.world_laws.specs.Telling.{IsIssued, IsLivedAsTold, IsSentAsTold, IsSpentAsTold, SignsFirst}
use Rattle.world_laws.specs.Flows.{HandsOverSent, flowed_in}
use Rattle.world_laws.specs.Forged.{IsForgedIn}
use Rattle.world_laws.specs.Replies.{AnswersHold, IsExpiryInLife}
use Rattle.world_laws.specs.Views.{AnswersViewsAt, HaveOneView}

-- The text may end only behind its last line.
abbrev pub end_fault : Progress WorldText → Option BadWord
end_fault p = if is_ended p.form then None else Some bad.End

-- The grammar of the world form, whatever the one spelling of a line is.
abbrev pub world_grammar : (WorldLine → List ℕ) → Grammar (Progress WorldText)
world_grammar spelled = record { start = opening; behind = behind; judge = judge; end_fault = end_fault; spelled = spelled }

-- The world has a setting, under whose keys verifies what is signed with them; and lines lead to it, none of which is
-- forged, with these events on the way.
pub record IsPlayed (s : Setting) (w : World) (told : List NodeEvent) : Type 0 where
  pub fits : IsSetting s
  pub verify : SignaturesVerify s
  pub reached : Reached s w told

-- What has come of a text is such a world, whose authority has an index for each certificate; or it is a roster, and nothing was
-- reported.
abbrev pub IsComeTo : Stage → List NodeEvent → Type 0
IsComeTo (Lists roster) told = told ≡ []
IsComeTo (Plays s w) told = IsPlayed s w told × HasIndexes s

-- Whatever the text is, and whatever ends it: with the lines that were taken it has come to that.
abbrev pub TextsComeToWorlds : Type 0
TextsComeToWorlds = (spelled : WorldLine → List ℕ) (text : List (List ℕ)) → let w = walk_over (world_grammar spelled) setting_in text in IsComeTo w.stage (events_in w)

-- ---- what holds of all of them

-- What was reported of each node's view is what its lives report, one after another; the notes and accusations that were reported of
-- it as accepted or as its own are those that came into its lives, in order; what was reported of it as spent is what its key
-- has spent, in order; what was reported as sent is all datagrams, each with its number; and what was reported as handed over is
-- among these.
--
-- Each removal in a life has a note for its cause by which the member left, or rests on an accusation that stood for the timeout;
-- and the record that the node accepted of it, or made of it, verifies under the key of the certificate of the member or of the
-- accuser. Where a node was removed, it had itself signed that note, as it was called to leave; or the note of that accusation's
-- epoch with that accusation's ring enabled, as is reported before the acceptance there. The certificates that a node keeps are
-- the authority's.
-- Each removal that was reported is one of these, at the reported moment. What each node's key spent, over all its lives, rises
-- in index and, for notes, in epoch; and the authority's key has spent an index on each member's certificate alone. No
-- verdict reported that a note was ahead of a node's own. Behind an accepted note nothing that it answers expires unless it
-- is accepted again, nothing older is accepted, and each expiry that was reported is one in a life. Two lives that accept the same
-- notes, and in which the same accusations expire, have the same view.
--
-- Each accusation of a node's, signed by it or accepted by anyone, was signed by it at a tick at which the accused was silent
-- there, as is reported before its acceptance; and each note of no ring that a node's key signed, as the node was called to
-- leave. And what was reported as accepted of a node's was reported as signed by it before.
-- Each record in each datagram that was sent verifies under the key of who signed it.
pub record IsLawful (s : Setting) (w : World) (told : List NodeEvent) : Type 0 where
  pub lives : (m : ℕ) → TellsLives s w told m
  pub living : (m : ℕ) → IsLivedAsTold w told m
  pub spending : (m : ℕ) → is_node s m ≡ true → IsSpentAsTold w told m
  pub sending : IsSentAsTold w told
  pub handing : HandsOverSent w told
  pub rosters : (who : ℕ) → AllByRecursion (λ life. KeepsRoster s life.node) (lives_of w who)
  pub verified : (who : ℕ) → AllByRecursion (RemovesVerified s w told who) (lives_of w who)
  pub removals : (t : NodeEvent) (m : ℕ) → Contains told t → t.event.what ≡ happened.Removed m → IsVerifiedRemoval s w told t m
  pub once : (m : ℕ) → is_node s m ≡ true → IsOnce (spent_of w (Some m))
  pub issued : IsIssued s w
  pub none_ahead : AllByRecursion (λ t. is_own_ahead t.event.what ≡ false) told
  pub answers : (who : ℕ) → AllByRecursion (AnswersHold s) (lives_of w who)
  pub expiries : (t : NodeEvent) (a : AccBody) → Contains told t → t.event.what ≡ happened.Expired a → IsExpiryInLife s w t a
  pub one_view : HaveOneView s w
  pub signed : (m index : ℕ) (a : AccBody) → is_node s m ≡ true → HasSpentOn w (Some m) index (Accusation a) → (a.accuser ≡ m) × SignedAtTick s w index a
  pub left : (m index : ℕ) (n : NoteBody) → is_node s m ≡ true → HasSpentOn w (Some m) index (Note n) → is_leaving n ≡ true → (n.member ≡ m) × SignedAsCalled s w m index n
  pub lived : (who : ℕ) → AllByRecursion (AccusesRightly s w told who) (lives_of w who)
  pub accepted : AllAcceptRightly s w told
  pub signed_first : SignsFirst s told
  pub sent_verify : HasIndexes s → SendsAuthentic s w

abbrev pub IsLawfulStage : Stage → List NodeEvent → Type 0
IsLawfulStage (Lists roster) told = told ≡ []
IsLawfulStage (Plays s w) told = IsLawful s w told

-- So is what comes of any text.
abbrev pub TextsAreLawful : Type 0
TextsAreLawful = (spelled : WorldLine → List ℕ) (text : List (List ℕ)) → let w = walk_over (world_grammar spelled) setting_in text in IsLawfulStage w.stage (events_in w)

-- Over a whole text the numbers of the datagrams that its flows hand over rise: each is handed over once.
abbrev pub FlowsTakeEachOnce : Type 0
FlowsTakeEachOnce = (spelled : WorldLine → List ℕ) (text : List (List ℕ)) → IsRising (flowed_in (walk_over (world_grammar spelled) setting_in text).taken)

-- In a text each line that is answered by members asks for a view, and is answered by that view. Lives with the same records
-- answer alike.
abbrev pub TextsAnswerViews : Type 0
TextsAnswerViews = (spelled : WorldLine → List ℕ) (text : List (List ℕ))
    → let w = walk_over (world_grammar spelled) setting_in text in AnswersViewsAt w.stage w.taken

-- ---- the line that is forged

-- What a reader of the form keeps behind these lines.
abbrev pub behind_taken : {P : Type 0} → Grammar P → P → List Taken → P
behind_taken g p [] = p
behind_taken g p (t ∷ taken) = behind_taken g (g.behind p t.line) taken

-- The line of this number is the first of the text that isn't taken: those before it are taken, one after another, and behind
-- them it is read as this line.
pub record StopsAt {P : Type 0} (g : Grammar P) (text : List (List ℕ)) (taken : List Taken) (number : ℕ) (line : WorldLine) : Type 0 where
  pub bytes : List ℕ
  pub behind : number ≡ length taken + 1
  pub there : slice_get text (length taken) ≡ Some bytes
  pub read : g.judge (behind_taken g g.start taken) bytes ≡ Ok line

-- The text has come to this world, and the line of this number, which is read behind the lines that led there, ends so in it:
-- what is named was found in bytes that this very line hands over.
pub record IsForgedAt {P : Type 0} (g : Grammar P) (text : List (List ℕ)) (w : Walk) (number : ℕ) (f : Forgery) : Type 0 where
  pub setting : Setting
  pub world : World
  pub come : w.stage ≡ Plays setting world
  pub line : WorldLine
  pub stops : StopsAt g text w.taken number line
  pub ends : step setting world line ≡ Err f
  pub handed : IsForgedIn setting world line f

-- Where a text ends as forged, the line behind those that were taken ends so in the world that the text has come to, and hands
-- the forged record over.
abbrev pub ForgedTextsHandItOver : Type 0
ForgedTextsHandItOver = (spelled : WorldLine → List ℕ) (text : List (List ℕ)) (f : Forgery) → let w = walk_over (world_grammar spelled) setting_in text in
    w.cause ≡ Some (causes.Forged f.who f.body) → IsForgedAt (world_grammar spelled) text w (last_line w) f
