use Rattle.std.proofs.Common.{◌≡◌, ap, ◌∙◌}
use Rattle.signer.specs.Signing.{SignerState}
use Rattle.signer.proofs.PlayLemmas.{some-opened, some-settled}
use Rattle.signer.specs.Played.{told, key_of}
use Rattle.signer.proofs.key_lives.reopen.Goals as goal

pub returns-in_default : goal.returns-in_default
returns-in_default c = λ before spent ends. some-opened before spent (told c.args.disk.now) (told c.open.new.disk) ends c.in_default.ensures.any_moment

pub returns-then-not-is_in_profile : goal.returns-then-not-is_in_profile
returns-then-not-is_in_profile c = λ before spent ends. some-opened before spent (told c.args.disk.now) (told c.open.new.disk) ends c.in-Ok.ensures.any_moment

pub returns-in_default-make : goal.returns-in_default-make
returns-in_default-make c = λ before spent ends. some-opened before spent (told c.args.disk.now) (told c.open.new.disk) ends c.in-Ok.ensures.any_moment

pub returns-then-state-index_count : goal.returns-then-state-index_count
returns-then-state-index_count c = λ before spent ends. some-opened before spent (told c.args.disk.now) (told c.open.new.disk) ends c.in-Ok.ensures.any_moment

pub returns : goal.returns
returns c = λ before spent ends.
    let mid = told c.open.new.disk in
    let store = c.in-Ok.ensures.store in
    let kept = some-settled c.args.tag.now before spent c.in-Ok.store.state c.in-Ok.store.seat mid (some-opened before spent (told c.args.disk.now) mid ends c.in-Ok.ensures.any_moment) store in
    let key : c.open-2.result.key ≡ key_of c.args.holder.now = ap (λ (s : SignerState). s.key) c.open-2.ensures.value ∙ c.in-Ok-make.ensures.is in
    (c.open-2.ensures.begins c.args.tag.now before spent mid store kept, key, ap (λ (s : SignerState). s.group) c.open-2.ensures.value)
