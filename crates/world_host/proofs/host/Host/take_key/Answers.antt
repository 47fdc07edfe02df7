use Rattle.std.proofs.Common.{rules, ◌≡◌, ℕ, Some, ap, ◌∙◌, subst}
use Rattle.std.specs.Prelude.{IfOk}
use Rattle.secrets.specs.Secrets.{key_from, world_secret}
use Rattle.sign_keys.specs.Keys.{IsNew}
use Rattle.world_rules.specs.Keys.{indexes_of, owner_key}
use Rattle.world_host.specs.Hosts.{HostState}
use Rattle.world_host.proofs.WorldLemmas.{kept-key, made-indexes, made-key, made-new, made-public, untaken}
use Rattle.world_host.proofs.host.Host.take_key.Goals as goal

pub returns-in-Some-clause-key : goal.returns-in-Some-clause-key
returns-in-Some-clause-key c = λ s kinds place spent w h.
    let is : c.args.self.now.key ≡ Some c.in-Some.key = search rules in
    kept-key s c.args.group.now kinds place spent c.args.self.now c.in-Some.key w h is

pub returns-in-Some-clause-fresh : goal.returns-in-Some-clause-fresh
returns-in-Some-clause-fresh c =
    let is : c.self.inside.key ≡ Some c.in-Some.key = search rules in
    (untaken c.self.inside.kinds c.self.inside.public c.self.inside.key c.in-Some.key c.self.invariant.1 is).fresh

pub returns-in-Some-clause-indexes : goal.returns-in-Some-clause-indexes
returns-in-Some-clause-indexes c =
    let is : c.self.inside.key ≡ Some c.in-Some.key = search rules in
    (untaken c.self.inside.kinds c.self.inside.public c.self.inside.key c.in-Some.key c.self.invariant.1 is).indexes ∙ ap (λ (x : HostState). indexes_of x.kinds) c.self.view_is

pub returns-in-Some-clause-own : goal.returns-in-Some-clause-own
returns-in-Some-clause-own c = λ public.
    let is : c.self.inside.key ≡ Some c.in-Some.key = search rules in
    (untaken c.self.inside.kinds c.self.inside.public c.self.inside.key c.in-Some.key c.self.invariant.1 is).half ∙ ap (λ (x : HostState). x.public) c.self.view_is

pub returns-clause-key : goal.returns-clause-key
returns-clause-key c = λ s kinds place spent w h.
    let tag = c.args.group.now.tag in
    let made = subst (λ (n : ℕ). IfOk c.key_of.result (λ k. IsNew k (key_from c.self.inside.kinds (world_secret tag n)))) c.get.ensures.value c.key_of.ensures in
    made-key s c.args.group.now kinds place spent c.args.self.now c.key_of.result h
    (subst (λ (x : HostState). IfOk c.key_of.result (λ k. IsNew k (key_from x.kinds (world_secret tag x.member)))) c.self.view_is made)

pub returns-clause-fresh : goal.returns-clause-fresh
returns-clause-fresh c = made-new _ c.key_of.result c.key_of.ensures

pub returns-clause-indexes : goal.returns-clause-indexes
returns-clause-indexes c =
    let tag = c.args.group.now.tag in
    let made = subst (λ (n : ℕ). IfOk c.key_of.result (λ k. IsNew k (key_from c.self.inside.kinds (world_secret tag n)))) c.get.ensures.value c.key_of.ensures in
    made-indexes c.args.group.now c.args.self.now.kinds c.args.self.now.member c.key_of.result
    (subst (λ (x : HostState). IfOk c.key_of.result (λ k. IsNew k (key_from x.kinds (world_secret tag x.member)))) c.self.view_is made)

pub returns-clause-own : goal.returns-clause-own
returns-clause-own c = λ public.
    let tag = c.args.group.now.tag in
    let made = subst (λ (n : ℕ). IfOk c.key_of.result (λ k. IsNew k (key_from c.self.inside.kinds (world_secret tag n)))) c.get.ensures.value c.key_of.ensures in
    made-public (owner_key c.args.group.now c.args.self.now.kinds (Some c.args.self.now.member)) c.args.self.now.public c.key_of.result public
    (subst (λ (x : HostState). IfOk c.key_of.result (λ k. IsNew k (key_from x.kinds (world_secret tag x.member)))) c.self.view_is made)
