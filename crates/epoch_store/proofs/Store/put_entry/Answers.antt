use Rattle.std.proofs.Common.{◌≡◌, ap, ◌∙◌}
use Rattle.epoch_store.specs.Calls.{StoreState}
use Rattle.epoch_store.proofs.PutLemmas.{while_entry, while_gate, after_gate}
use Rattle.ports.proofs.SinceLemmas.{Since-trans}
use Rattle.std.proofs.Common.{◌∷◌, [], ◌+◌, ℕ, List, subst}
use Rattle.std.proofs.lemmas.Result.{err_from_is_err_and}
use Rattle.ports.specs.DiskCalls.{ToSync, ToWrite, AsFarAs}
use Rattle.epoch_store.proofs.CallLemmas.{further, joined}
use Rattle.std.proofs.Common.{true, false}
use Rattle.ports.specs.DiskSteps.{came_to, runs_on}
use Rattle.ports.proofs.RunLemmas.{then_runs}
use Rattle.epoch_store.proofs.Store.put_entry.Goals as goal

pub returns-in_err-write_synced-clause-any_moment : goal.returns-in_err-write_synced-clause-any_moment
returns-in_err-write_synced-clause-any_moment g c = λ tag other at moves.
    let seat : c.self.inside.seat ≡ c.args.self.now.seat = ap (λ (s : StoreState). s.seat) c.self.view_is in
    while_entry tag other c.args.self.now.state c.args.entry.kept c.args.self.now.seat _ (g.D.Disk.state c.args.disk.now).moments (g.D.Disk.state c.write_synced.new.disk).moments at (rw seat at c.write_synced.ensures.tears)

pub returns-in_err-write_synced-2-clause-any_moment : goal.returns-in_err-write_synced-2-clause-any_moment
returns-in_err-write_synced-2-clause-any_moment g c = λ tag other at moves.
    let seat : c.self.inside.seat ≡ c.args.self.now.seat = ap (λ (s : StoreState). s.seat) c.self.view_is in
    let bytes = c.deref.ensures.0 ∙ rw seat at c.entry_bytes.ensures in
    let state = c.args.self.now.state in
    let place = c.args.self.now.seat in
    let first = (g.D.Disk.state c.args.disk.now).moments in
    let middle = (g.D.Disk.state c.write_synced.new.disk).moments in
    let last = (g.D.Disk.state c.write_synced-2.new.disk).moments in
    Since-trans _ first middle last
    (while_entry tag other state c.args.entry.kept place _ first middle at (rw seat at c.write_synced.ensures.tears))
    (while_gate tag other c.deref.result.now state place c.args.entry first middle last c.requires.entry c.requires.follows bytes at moves (rw seat at c.in_ok-write_synced.ensures.stores) (rw seat at c.write_synced-2.ensures.tears))

pub returns-clause-any_moment : goal.returns-clause-any_moment
returns-clause-any_moment g c = λ tag other at moves.
    let seat : c.self.inside.seat ≡ c.args.self.now.seat = ap (λ (s : StoreState). s.seat) c.self.view_is in
    let bytes = c.deref.ensures.0 ∙ rw seat at c.entry_bytes.ensures in
    let state = c.args.self.now.state in
    let place = c.args.self.now.seat in
    let first = (g.D.Disk.state c.args.disk.now).moments in
    let middle = (g.D.Disk.state c.write_synced.new.disk).moments in
    let last = (g.D.Disk.state c.write_synced-2.new.disk).moments in
    Since-trans _ first middle last
    (while_entry tag other state c.args.entry.kept place _ first middle at (rw seat at c.write_synced.ensures.tears))
    (while_gate tag other c.deref.result.now state place c.args.entry first middle last c.requires.entry c.requires.follows bytes at moves (rw seat at c.in_ok-write_synced.ensures.stores) (rw seat at c.write_synced-2.ensures.tears))

pub returns-clause-settled : goal.returns-clause-settled
returns-clause-settled g c = λ tag other at moves.
    let seat : c.self.inside.seat ≡ c.args.self.now.seat = ap (λ (s : StoreState). s.seat) c.self.view_is in
    let bytes = c.deref.ensures.0 ∙ rw seat at c.entry_bytes.ensures in
    let first = (g.D.Disk.state c.args.disk.now).moments in
    let middle = (g.D.Disk.state c.write_synced.new.disk).moments in
    let last = (g.D.Disk.state c.write_synced-2.new.disk).moments in
    after_gate tag other c.deref.result.now c.args.self.now.state c.args.self.now.seat c.args.entry first middle last c.requires.entry c.requires.follows bytes at moves (rw seat at c.in_ok-write_synced.ensures.stores) (rw seat at c.in_ok-write_synced-2.ensures.stores)

pub returns-in_err-write_synced-clause-calls : goal.returns-in_err-write_synced-clause-calls
returns-in_err-write_synced-clause-calls g c =
    let p = err_from_is_err_and c.from_residual.result c.from_residual.ensures.1 in
    let seat : c.self.inside.seat ≡ c.args.self.now.seat = ap (λ (s : StoreState). s.seat) c.self.view_is in
    let bytes = c.deref.ensures.0 ∙ rw seat at c.entry_bytes.ensures in
    let older = (g.D.Disk.state c.args.disk.now).calls in
    let newer = (g.D.Disk.state c.write_synced.new.disk).calls in
    let P : List ℕ → Type 0 = λ bytes. AsFarAs (ToSync ∷ ToWrite (c.args.self.now.seat.gate + 1) bytes ∷ []) older newer in
    let first = subst P bytes (rw seat at c.in_err-write_synced.ensures.calls) in
    rw p.1 (further (ToSync ∷ ToWrite c.args.self.now.seat.gate (1 ∷ []) ∷ []) _ older newer first)

pub returns-in_err-write_synced-2-clause-calls : goal.returns-in_err-write_synced-2-clause-calls
returns-in_err-write_synced-2-clause-calls g c =
    let p = err_from_is_err_and c.from_residual-in_err-write_synced-2.result c.from_residual-in_err-write_synced-2.ensures.1 in
    let seat : c.self.inside.seat ≡ c.args.self.now.seat = ap (λ (s : StoreState). s.seat) c.self.view_is in
    let bytes = c.deref.ensures.0 ∙ rw seat at c.entry_bytes.ensures in
    let older = (g.D.Disk.state c.args.disk.now).calls in
    let middle = (g.D.Disk.state c.write_synced.new.disk).calls in
    let newer = (g.D.Disk.state c.write_synced-2.new.disk).calls in
    let P : List ℕ → Type 0 = λ bytes. AsFarAs (ToSync ∷ ToWrite c.args.self.now.seat.gate (1 ∷ []) ∷ ToSync ∷ ToWrite (c.args.self.now.seat.gate + 1) bytes ∷ []) older newer in
    rw p.1 (subst P bytes
    (joined (ToSync ∷ ToWrite c.args.self.now.seat.gate (1 ∷ []) ∷ []) (ToSync ∷ ToWrite (c.args.self.now.seat.gate + 1) c.deref.result.now ∷ []) older middle newer (rw seat at c.in_ok-write_synced.ensures.calls) (rw seat at c.in_err-write_synced-2.ensures.calls)))

pub returns-in_err-write_synced-2-clause-follows : goal.returns-in_err-write_synced-2-clause-follows
returns-in_err-write_synced-2-clause-follows g c =
    let p = err_from_is_err_and c.from_residual-in_err-write_synced-2.result c.from_residual-in_err-write_synced-2.ensures.1 in
    let seat : c.self.inside.seat ≡ c.args.self.now.seat = ap (λ (s : StoreState). s.seat) c.self.view_is in
    let bytes = c.deref.ensures.0 ∙ rw seat at c.entry_bytes.ensures in
    let older = (g.D.Disk.state c.args.disk.now).model in
    let middle = (g.D.Disk.state c.write_synced.new.disk).model in
    let newer = (g.D.Disk.state c.write_synced-2.new.disk).model in
    let P : List ℕ → Type 0 = λ bytes. came_to newer true ≡ runs_on (ToSync ∷ ToWrite c.args.self.now.seat.gate (1 ∷ []) ∷ ToSync ∷ ToWrite (c.args.self.now.seat.gate + 1) bytes ∷ []) older in
    rw p.1 (subst P bytes
    (then_runs (ToSync ∷ ToWrite c.args.self.now.seat.gate (1 ∷ []) ∷ []) (ToSync ∷ ToWrite (c.args.self.now.seat.gate + 1) c.deref.result.now ∷ []) older middle newer true (rw seat at c.in_ok-write_synced.ensures.follows) (rw seat at c.in_err-write_synced-2.ensures.follows)))

pub returns-clause-follows : goal.returns-clause-follows
returns-clause-follows g c =
    let seat : c.self.inside.seat ≡ c.args.self.now.seat = ap (λ (s : StoreState). s.seat) c.self.view_is in
    let bytes = c.deref.ensures.0 ∙ rw seat at c.entry_bytes.ensures in
    let older = (g.D.Disk.state c.args.disk.now).model in
    let middle = (g.D.Disk.state c.write_synced.new.disk).model in
    let newer = (g.D.Disk.state c.write_synced-2.new.disk).model in
    let P : List ℕ → Type 0 = λ bytes. came_to newer false ≡ runs_on (ToSync ∷ ToWrite c.args.self.now.seat.gate (1 ∷ []) ∷ ToSync ∷ ToWrite (c.args.self.now.seat.gate + 1) bytes ∷ []) older in
    subst P bytes
    (then_runs (ToSync ∷ ToWrite c.args.self.now.seat.gate (1 ∷ []) ∷ []) (ToSync ∷ ToWrite (c.args.self.now.seat.gate + 1) c.deref.result.now ∷ []) older middle newer false (rw seat at c.in_ok-write_synced.ensures.follows) (rw seat at c.in_ok-write_synced-2.ensures.follows))
