use Rattle.std.proofs.Common.{◌≡◌, ℕ, true, List, Option, None, refl, ap, sym, ◌∙◌, subst, inl, inr, ◌⊎◌}
use Rattle.std.specs.Prelude.{Ok}
use Rattle.world_rules.specs.Settings.{Setting, is_liar}
use Rattle.world_rules.specs.Steps.{flows, gives_each}
use Rattle.world_rules.specs.Worlds.{World as ModelWorld}
use Rattle.schedule_world.specs.declared.line.WorldLine.TheVariants as lines
use Rattle.schedule_world.specs.declared.line.WorldLine.{WorldLine}
use Rattle.ff_ids.specs.declared.NoteBody.{NoteBody}
use Rattle.ff_ids.specs.declared.RingNo.{RingNo}
use Rattle.world_rules.specs.Refusals.{node_named}
use Rattle.world_rules.specs.Steps.{answered, begun, does, quiet}
use Rattle.world_rules.specs.Worlds.{named_so, running}
use Rattle.world.specs.Courses.{NamesLiar, body_in, signs}
use Rattle.world.proofs.AnswerLemmas.{SignsSo, does-signs, ends-replies, replies-same}
use Rattle.world.proofs.World.do_other.Goals as goal

quiet-other : (s : Setting) (w : ModelWorld) (line : WorldLine) → ((a : ℕ) → line ≡ lines.Flow a → ⊥) → ((key : ℕ) (note : NoteBody) (name : List ℕ) → line ≡ lines.SignNote key note name → ⊥)
    → ((key accuser accused : ℕ) (epoch : Option ℕ) (ring : RingNo) (name : List ℕ) → line ≡ lines.SignAccusation key accuser accused epoch ring name → ⊥)
    → ((name : List ℕ) → line ≡ lines.GiveAll name → ⊥) → node_named line ≡ None → does s w line ≡ Ok (quiet (begun w))
quiet-other s w (lines.Start a) no-flow no-note no-accusation no-gift named = cc
quiet-other s w (lines.Stop a outcome) no-flow no-note no-accusation no-gift named = cc
quiet-other s w (lines.Arm a calls outcome) no-flow no-note no-accusation no-gift named = cc
quiet-other s w (lines.Tick a n) no-flow no-note no-accusation no-gift named = cc
quiet-other s w (lines.Leave a) no-flow no-note no-accusation no-gift named = cc
quiet-other s w (lines.Deliver number a) no-flow no-note no-accusation no-gift named = cc
quiet-other s w (lines.Flow most) no-flow no-note no-accusation no-gift named = absurd (no-flow most refl)
quiet-other s w (lines.Raw a bytes) no-flow no-note no-accusation no-gift named = cc
quiet-other s w (lines.Give name a) no-flow no-note no-accusation no-gift named = cc
quiet-other s w (lines.GiveAll name) no-flow no-note no-accusation no-gift named = absurd (no-gift name refl)
quiet-other s w (lines.View a) no-flow no-note no-accusation no-gift named = cc
quiet-other s w (lines.Monitor a ring of) no-flow no-note no-accusation no-gift named = cc
quiet-other s w (lines.SignNote key note name) no-flow no-note no-accusation no-gift named = absurd (no-note key note name refl)
quiet-other s w (lines.SignAccusation key accuser accused epoch ring name) no-flow no-note no-accusation no-gift named = absurd (no-accusation key accuser accused epoch ring name refl)
quiet-other s w line no-flow no-note no-accusation no-gift named = refl

signs-so : (line : WorldLine) (key : ℕ) (name : List ℕ) → ((x : NoteBody) × line ≡ lines.SignNote key x name) ⊎ ((a : ℕ) × (b : ℕ) × (e : Option ℕ) × (r : RingNo) × line ≡ lines.SignAccusation key a b e r name) → SignsSo line key name
signs-so line key name (inl h) = subst (λ (l : WorldLine). SignsSo l key name) (sym h.1) (refl, refl)
signs-so line key name (inr h) = subst (λ (l : WorldLine). SignsSo l key name) (sym h.4) (refl, refl)

named-liar : (s : Setting) (line : WorldLine) (key : ℕ) (name : List ℕ) → SignsSo line key name → NamesLiar s line → is_liar s key ≡ true
named-liar s (lines.SignNote k note n) key name so liar = subst (λ (z : ℕ). is_liar s z ≡ true) so.0 liar
named-liar s (lines.SignAccusation k accuser accused epoch ring n) key name so liar = subst (λ (z : ℕ). is_liar s z ≡ true) so.0 liar
named-liar s line key name so liar = absurd so

pub returns-in-Flow-clause-does : goal.returns-in-Flow-clause-does
returns-in-Flow-clause-does c = λ s w before h named liar.
    replies-same s before c.end_and_flow.new.self c.args.out.now.items c.end_and_flow.new.out.items (does s w c.args.line.now) (answered (flows s c.in-Flow.most (begun w))) c.end_and_flow.result
    (ap (λ (l : WorldLine). does s w l) c.in-Flow.is) (c.end_and_flow.ensures.flows s w before h)

pub returns-in-GiveAll-clause-does : goal.returns-in-GiveAll-clause-does
returns-in-GiveAll-clause-does c = λ s w before h named liar.
    replies-same s before c.end_and_give.new.self c.args.out.now.items c.end_and_give.new.out.items (does s w c.args.line.now) (answered (gives_each s (running s w) (named_so w c.as_slice.result.now) (begun w))) c.end_and_give.result
    (ap (λ (l : WorldLine). does s w l) c.in-GiveAll.is ∙ ap (λ (z : List ℕ). answered (gives_each s (running s w) (named_so w z) (begun w))) (sym c.as_slice.ensures.bytes)) (c.end_and_give.ensures.gives s w before h)

pub returns-in_default : goal.returns-in_default
returns-in_default c = record {
  numbers = refl;
  does = λ s w before h named liar.
      replies-same s before c.args.self.now c.args.out.now.items c.end_line.new.out.items (does s w c.args.line.now) (Ok (quiet (begun w))) c.end_line.result
      (quiet-other s w c.args.line.now c.in_default.not-Flow c.in_default.not-SignNote c.in_default.not-SignAccusation c.in_default.not-GiveAll named)
      (ends-replies s w before c.args.self.now c.args.out.now.items c.end_line.new.out.items c.end_line.result h c.end_line.ensures.ok c.end_line.ensures.refused c.end_line.ensures.cause);
}

pub returns-in-SignNote-clause-does : goal.returns-in-SignNote-clause-does
returns-in-SignNote-clause-does c = λ s w before h named liar.
    let so : SignsSo c.args.line.now c.in-SignNote.key c.in-SignNote.name = signs-so c.args.line.now c.in-SignNote.key c.in-SignNote.name c.in-SignNote.is in
    replies-same s before c.sign.new.self c.args.out.now.items c.sign.new.out.items (does s w c.args.line.now) (Ok (signs s c.in-SignNote.key c.in-SignNote.name w (body_in w c.args.line.now))) c.sign.result
    (does-signs s w c.args.line.now c.in-SignNote.key c.in-SignNote.name so)
    (c.sign.ensures.signs s w before h (named-liar s c.args.line.now c.in-SignNote.key c.in-SignNote.name so liar))
