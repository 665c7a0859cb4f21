use Rattle.std.specs.Vec.Iter.{into_iter_items}
use Rattle.std.proofs.Common.{sym, ◌∙◌}
use Rattle.std.proofs.lemmas.List.Elements.{All-head, All-rest, All-same}
use Rattle.fab_eval.specs.declared.done.Done.{Done}
use Rattle.fab_pauses.specs.Evaluations.{IsOf}
use Rattle.fab_threads.proofs.bench.Bench.keep_all.Goals as goal

pub keep-requires : goal.keep-requires
keep-requires c =
    let fits : Done → Type 0 = λ done. IsOf c.args.self.now done.job in
    let i = c.loop-done.invariant in
    let next = c.in-Some.ensures.steps in
    All-head fits c.in-Some.done (into_iter_items c.next.new.self) (All-same fits _ (into_iter_items c.loop-done.done-iterator) (sym next.0) i.1) ∙ sym i.0

pub loop-done-preserved : goal.loop-done-preserved
loop-done-preserved c =
    let fits : Done → Type 0 = λ done. IsOf c.args.self.now done.job in
    let i = c.loop-done.invariant in
    let next = c.in-Some.ensures.steps in
    (c.keep.ensures ∙ i.0, All-rest fits c.in-Some.done (into_iter_items c.next.new.self) (into_iter_items c.loop-done.done-iterator) next.0 i.1)
