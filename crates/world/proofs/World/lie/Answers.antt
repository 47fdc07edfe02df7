use Rattle.std.proofs.Common.{◌≡◌, ◌<◌, ◌∷◌, [], Option, Some, length, map, refl, ap, sym, ◌∙◌, subst, rules}
use Rattle.std.specs.Prelude.{IfSome}
use Rattle.std.proofs.Math.ListN.{set}
use Rattle.std.specs.List.{slice_get}
use Rattle.std.proofs.lemmas.Option.{slice_get_read}
use Rattle.ff_ids.specs.declared.Group.{Group}
use Rattle.datagram.specs.Spelling.{datagram_bytes}
use Rattle.datagram.specs.declared.Datagram.TheVariants as datagrams
use Rattle.records.specs.Signing.{CheckedRecord}
use Rattle.signer.specs.Signing.{signed_by}
use Rattle.world_rules.specs.Steps.{lies}
use Rattle.world.specs.contracts.World.{the_view}
use Rattle.world.specs.declared.liar.Liar.{Liar}
use Rattle.world.specs.Holding.{Holds, Kept, liar_numbers}
use Rattle.world.specs.Lying.{Lied}
use Rattle.world.proofs.LyingLemmas.{Signs, lie-holds}
use Rattle.world.proofs.NameLemmas.{Entries, entries_of, put}
use Rattle.world.proofs.World.lie.Goals as goal

pub returns-clause-lies : goal.returns-clause-lies
returns-clause-lies c = λ s w told key h is.
    let v : Kept = the_view c.self.inside in
    let x : Liar = c.index_mut-liar.result.now in
    let later : Liar = c.sign.new.self in
    let within : c.args.at < length v.liars = subst (λ (z : Kept). c.args.at < length z.liars) (sym c.self.view_is) c.requires.liar in
    let found : slice_get v.liars c.args.at ≡ Some x = slice_get_read v.liars (length v.liars) c.args.at x refl within c.index_mut-liar.ensures.value in
    let held : Holds s w told v = subst (Holds s w told) (sym c.self.view_is) h in
    let there : slice_get (map (λ y. y.member) v.liars) c.args.at ≡ Some key = subst (λ (z : Kept). slice_get (liar_numbers z) c.args.at ≡ Some key) (sym c.self.view_is) is in
    let items : c.in_ok-name.name.items ≡ c.as_slice.result.now = search rules in
    let by_group : c.in-Some.checked ≡ signed_by c.group.result.now x.key.key x.key.next c.args.body =
    subst (λ (o : Option CheckedRecord). IfSome o (λ k. k ≡ signed_by c.group.result.now x.key.key x.key.next c.args.body)) c.in-Some.is c.in_ok-checked.ensures.signed in
    let signed : c.in-Some.checked ≡ signed_by v.authority.group x.key.key x.key.next c.args.body =
    by_group ∙ ap (λ (g : Group). signed_by g x.key.key x.key.next c.args.body) c.group.ensures in
    let lied : Lied x later c.args.body = subst (λ (o : Option CheckedRecord). IfSome o (λ _. Lied x later c.args.body)) c.in-Some.is c.in_ok-checked.ensures.lied in
    let given : c.in_ok-given.given.bytes ≡ datagram_bytes (datagrams.Records later.member (c.in-Some.checked.rec ∷ [])) = c.in_ok-given.ensures in
    let entries : c.insert.new.self.entries ≡ put c.self.inside.named.entries c.in_ok-name.name c.in_ok-given.given = c.in_ok-insert.ensures.entries in
    let signs : Signs v c.args.at x later c.args.body c.in-Some.checked c.args.name.now c.in_ok-name.name c.in_ok-given.given =
    record { found = found; lied = lied; signed = signed; bytes = given; key = items ∙ c.as_slice.ensures.bytes } in
    let done = lie-holds s w told v key c.args.at x later c.args.body c.in-Some.checked c.args.name.now c.in_ok-name.name c.in_ok-given.given c.self.inside.named.entries held there refl signs in (
      c.next-index.ensures ∙ done.0,
      subst (λ (es : Entries). Holds s (lies s key c.args.body c.args.name.now w).world told (record v { liars = set v.liars c.args.at later; named = entries_of es })) (sym entries) done.1,
    )
