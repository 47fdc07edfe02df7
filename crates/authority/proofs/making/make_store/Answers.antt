use Rattle.std.proofs.Common.{◌∙◌, refl, sym, inr, Err, ap}
use Rattle.authority.specs.declared.halt.Halt.{Halt}
use Rattle.play.specs.Plays.{io}
use Rattle.authority.specs.Telling.{is_writable}
use Rattle.authority.proofs.MakingLemmas.{unread, unread-writable, went}
use Rattle.authority.proofs.making.make_store.Goals as goal

pub returns-in-Err-clause-sink : goal.returns-in-Err-clause-sink
returns-in-Err-clause-sink g c =
    c.in-Err.ensures.sink ∙ sym (ap (λ (h : Halt). is_writable (Err h)) c.from.ensures ∙ unread-writable _ _ c.in-Err.stop c.in-Err.ensures.unfinished)

pub returns-in-Err-clause-makes : goal.returns-in-Err-clause-makes
returns-in-Err-clause-makes g c =
    rw c.from.ensures (unread c.args.name.now _ _ _ c.in-Err.stop c.in-Err.ensures.unfinished)

pub returns-in-Ok-prepare-clause-makes : goal.returns-in-Ok-prepare-clause-makes
returns-in-Ok-prepare-clause-makes g c =
    went c.args.name.now c.in-Ok.setting _ _ _ _ _ c.make_and_tell.result c.in-Ok.ensures.sets
    (c.make_and_tell.ensures.makes (g.S.Source.state c.read_secret_text.new.input))

pub returns-in-Err-prepare-clause-makes : goal.returns-in-Err-prepare-clause-makes
returns-in-Err-prepare-clause-makes g c = inr (record {
  setting = c.in-Ok.setting;
  between = io (g.S.Source.state c.read_secret_text.new.input) (g.O.Sink.state c.read_secret_text.new.out);
  read = c.in-Ok.ensures.sets;
  rest = (refl, record { faults = refl; calls = record { left_out = 1; made = refl }; same = refl });
})
