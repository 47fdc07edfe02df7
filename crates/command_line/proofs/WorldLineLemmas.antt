-- The lines of a schedule as they are written back: none has a line feed inside it, or begins as that of an event.
use Rattle.std.proofs.Common.{◌≡◌, ℕ, true, List, [], ◌∷◌, ◌++◌, get_or, Option, Some, None, refl, ap, sym, ◌∙◌, subst, append_assoc, arith}
use Rattle.std.specs.Prelude.{codes, flat_map}
use Rattle.std.specs.Fmt.{decimal}
use Rattle.std.specs.List.{list_all}
use Rattle.hex.specs.Hex.{encode_lower}
use Rattle.ff_ids.specs.declared.Group.{Group}
use Rattle.ff_ids.specs.Texts.{monitor_text}
use Rattle.line_text.specs.Words.{is_word}
use Rattle.life_events.specs.Events.{members_text}
use Rattle.schedule_world.specs.declared.line.WorldLine.{WorldLine}
use Rattle.schedule_world.specs.declared.line.WorldLine.TheVariants as lines
use Rattle.schedule_world.specs.Grammar.{spelled_words}
use Rattle.text_trace.specs.Lines.{has_no_feed}
use Rattle.trace.specs.Written.{IsWholeLine}
use Rattle.trace.proofs.TextLemmas.{clear-append, clear-decimal, clear-hex, clear-numbers, clear-words}
use Rattle.trace.proofs.WrittenLemmas.{clear-then}
use Rattle.world_rules.specs.declared.verdict.RefusalReason.{RefusalReason}
use Rattle.world_rules.specs.declared.verdict.RefusalReason.TheVariants as whys
use Rattle.world_rules.specs.declared.verdict.Verdict.{Verdict}
use Rattle.world_rules.specs.declared.verdict.Verdict.TheVariants as verdicts
use Rattle.world_rules.specs.Verdicts.{verdict_text, why_text}
use Rattle.world_rules.specs.Walk.{behind_line}
use Rattle.world_text.specs.Lines.{bytes_text, digits_in, group_start, line_text}
use Rattle.world_text.proofs.Spelled.{spelled}

-- ## A line

-- a text, a space and another one
clear-both : (a b : List ℕ) → has_no_feed a ≡ true → has_no_feed b ≡ true → has_no_feed ((a ++ codes " ") ++ b) ≡ true
clear-both a b h k = clear-append (a ++ codes " ") b (clear-append a (codes " ") h refl) k

-- a word and a number
clear-number : (word : List ℕ) (n : ℕ) → has_no_feed word ≡ true → has_no_feed (word ++ decimal n) ≡ true
clear-number word n h = clear-append word (decimal n) h (clear-decimal n)

clear-group : (g : Group) → has_no_feed (line_text (lines.Group g)) ≡ true
clear-group g =
    let period = codes " " ++ decimal g.period in
    let misses = (period ++ codes " ") ++ decimal g.misses in
    clear-append (group_start g.t g.timeout) ((misses ++ codes " ") ++ encode_lower g.tag) (clear-then (codes "group " ++ decimal g.t) g.timeout (clear-number (codes "group ") g.t refl))
    (clear-both misses (encode_lower g.tag) (clear-then period g.misses (clear-number (codes " ") g.period refl)) (clear-hex g.tag))

clear-bytes : (bytes : List ℕ) → has_no_feed (bytes_text bytes) ≡ true
clear-bytes [] = refl
clear-bytes (b ∷ bytes) = clear-hex (b ∷ bytes)

clear-raw : (m : ℕ) (bytes : List ℕ) → has_no_feed (line_text (lines.Raw m bytes)) ≡ true
clear-raw m bytes = clear-both (codes "raw " ++ decimal m) (bytes_text bytes) (clear-number (codes "raw ") m refl) (clear-bytes bytes)

-- the words that were read are those that are written back, but for the digits of bytes
by-words : (l : WorldLine) → list_all is_word (spelled_words (digits_in l) l) ≡ true → has_no_feed (line_text l) ≡ true
by-words l words = subst (λ (t : List ℕ). has_no_feed t ≡ true) (sym (spelled l)) (clear-words (spelled_words (digits_in l) l) words)

pub clear-line : (digits : List ℕ) (l : WorldLine) → list_all is_word (spelled_words digits l) ≡ true → has_no_feed (line_text l) ≡ true
clear-line digits lines.Header words = by-words lines.Header words
clear-line digits (lines.Group g) words = clear-group g
clear-line digits (lines.Kinds ots tree bottom) words = by-words (lines.Kinds ots tree bottom) words
clear-line digits (lines.Heal h) words = by-words (lines.Heal h) words
clear-line digits (lines.Node m) words = by-words (lines.Node m) words
clear-line digits (lines.Liar m) words = by-words (lines.Liar m) words
clear-line digits lines.Begin words = by-words lines.Begin words
clear-line digits (lines.Start m) words = by-words (lines.Start m) words
clear-line digits (lines.Stop m outcome) words = by-words (lines.Stop m outcome) words
clear-line digits (lines.Arm m calls outcome) words = by-words (lines.Arm m calls outcome) words
clear-line digits (lines.Tick m ticks) words = by-words (lines.Tick m ticks) words
clear-line digits (lines.Leave m) words = by-words (lines.Leave m) words
clear-line digits (lines.Deliver datagram m) words = by-words (lines.Deliver datagram m) words
clear-line digits (lines.Flow most) words = by-words (lines.Flow most) words
clear-line digits (lines.Raw m bytes) words = clear-raw m bytes
clear-line digits (lines.SignNote key n name) words = by-words (lines.SignNote key n name) words
clear-line digits (lines.SignAccusation key accuser accused epoch ring name) words = by-words (lines.SignAccusation key accuser accused epoch ring name) words
clear-line digits (lines.Give name m) words = by-words (lines.Give name m) words
clear-line digits (lines.GiveAll name) words = by-words (lines.GiveAll name) words
clear-line digits (lines.View m) words = by-words (lines.View m) words
clear-line digits (lines.Monitor m ring other) words = by-words (lines.Monitor m ring other) words
clear-line digits lines.End words = by-words lines.End words

-- ## A verdict

clear-members : (ms : List ℕ) → has_no_feed (members_text ms) ≡ true
clear-members [] = refl
clear-members (m ∷ ms) = clear-append (decimal m) (flat_map (λ m. codes " " ++ decimal m) ms) (clear-decimal m) (clear-numbers ms)

clear-monitor : (m : Option ℕ) → has_no_feed (monitor_text m) ≡ true
clear-monitor (Some m) = clear-decimal m
clear-monitor None = refl

clear-why : (w : RefusalReason) → has_no_feed (why_text w) ≡ true
clear-why whys.NotNode = refl
clear-why whys.NotLiar = refl
clear-why whys.NoName = refl
clear-why whys.NoDatagram = refl
clear-why whys.Running = refl
clear-why whys.NotRunning = refl
clear-why whys.NoNote = refl
clear-why whys.Left = refl
clear-why (whys.UsedUp first) = clear-number (codes "exhausted ") first refl
clear-why whys.UnknownMember = refl

clear-verdict : (v : Verdict) → has_no_feed (verdict_text v) ≡ true
clear-verdict (verdicts.Began life) = clear-number (codes "life ") life refl
clear-verdict verdicts.DiskStopped = refl
clear-verdict (verdicts.Spends index) = clear-number (codes "signed ") index refl
clear-verdict (verdicts.Sees members) = clear-members members
clear-verdict (verdicts.MonitoredBy monitor) = clear-monitor monitor
clear-verdict (verdicts.Refused why) = clear-append (codes "refused ") (why_text why) refl (clear-why why)

clear-behind : (v : Option Verdict) → has_no_feed (behind_line v) ≡ true
clear-behind None = refl
clear-behind (Some v) = clear-append (codes " : ") (verdict_text v) refl (clear-verdict v)

-- ## Both

abbrev pub line_of : WorldLine → Option Verdict → List ℕ
line_of l v = line_text l ++ behind_line v ++ 10 ∷ []

pub whole-line : (l : WorldLine) (v : Option Verdict) → has_no_feed (line_text l) ≡ true → IsWholeLine (line_of l v)
whole-line l v clear = record { front = line_text l ++ behind_line v; clear = clear-append (line_text l) (behind_line v) clear (clear-behind v); ended = refl }

-- no line begins as that of an event
begins : (l : WorldLine) (rest : List ℕ) → get_or (line_text l ++ rest) 0 0 ≡ 64 → ⊥
begins lines.Header rest e = absurd (omega (arith, e))
begins (lines.Group g) rest e = absurd (omega (arith, e))
begins (lines.Kinds ots tree bottom) rest e = absurd (omega (arith, e))
begins (lines.Heal h) rest e = absurd (omega (arith, e))
begins (lines.Node m) rest e = absurd (omega (arith, e))
begins (lines.Liar m) rest e = absurd (omega (arith, e))
begins lines.Begin rest e = absurd (omega (arith, e))
begins (lines.Start m) rest e = absurd (omega (arith, e))
begins (lines.Stop m outcome) rest e = absurd (omega (arith, e))
begins (lines.Arm m calls outcome) rest e = absurd (omega (arith, e))
begins (lines.Tick m ticks) rest e = absurd (omega (arith, e))
begins (lines.Leave m) rest e = absurd (omega (arith, e))
begins (lines.Deliver datagram m) rest e = absurd (omega (arith, e))
begins (lines.Flow most) rest e = absurd (omega (arith, e))
begins (lines.Raw m bytes) rest e = absurd (omega (arith, e))
begins (lines.SignNote key n name) rest e = absurd (omega (arith, e))
begins (lines.SignAccusation key accuser accused epoch ring name) rest e = absurd (omega (arith, e))
begins (lines.Give name m) rest e = absurd (omega (arith, e))
begins (lines.GiveAll name) rest e = absurd (omega (arith, e))
begins (lines.View m) rest e = absurd (omega (arith, e))
begins (lines.Monitor m ring other) rest e = absurd (omega (arith, e))
begins lines.End rest e = absurd (omega (arith, e))

pub line-other : (l : WorldLine) (v : Option Verdict) → get_or (line_of l v) 0 0 ≡ 64 → ⊥
line-other l v e = begins l (behind_line v ++ 10 ∷ []) (ap (λ (t : List ℕ). get_or t 0 0) (sym (append_assoc (line_text l) (behind_line v) (10 ∷ []))) ∙ e)
