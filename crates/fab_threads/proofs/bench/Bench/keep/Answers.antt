use Rattle.std.proofs.Common.{sym, ◌∙◌}
use Rattle.fab_threads.proofs.Keeping.{one_kept}
use Rattle.fab_threads.proofs.bench.Bench.keep.Goals as goal

pub invariant_of-self-then-place-len-2 : goal.invariant_of-self-then-place-len-2
invariant_of-self-then-place-len-2 c =
    let i = c.self.inside in
    one_kept i.evaluators.program i.kept.items c.from-place.result c.args.done (c.requires ∙ sym c.self.view_is) c.self.invariant
