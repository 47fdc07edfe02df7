use Rattle.std.proofs.Common.{ap, sym, subst, ◌∙◌}
use Rattle.record_slots.specs.Held.{key_of}
use Rattle.record_slots.specs.Slots.{HasSlot}
use Rattle.record_slots.proofs.Slots.put.Goals as goal

pub hold-requires : goal.hold-requires
hold-requires g c = subst HasSlot (sym (c.key_of-key.ensures ∙ ap key_of c.body.ensures)) c.requires
