use Rattle.std.specs.Option.{option_copied}
use Rattle.std.proofs.Common.{sym, subst}
use Rattle.fab_tree.specs.declared.resolved.Resolved.{Resolved}
use Rattle.fab_threads.specs.Rounds.{AreKept}
use Rattle.fab_threads.proofs.Keeping.{IsKept, kept_at}
use Rattle.fab_threads.proofs.bench.Bench.kept_of.Goals as goal

pub returns : goal.returns
returns c =
    let i = c.self.inside in
    let program = i.evaluators.program in
    subst (λ (p : Resolved). IsKept p (option_copied c.done_in.result)) c.self.view_is
    (subst (IsKept program) (sym c.done_in.ensures)
    (kept_at program c.as_slice.result.now c.from.result (subst (AreKept program) (sym c.as_slice.ensures.value) c.self.invariant)))
