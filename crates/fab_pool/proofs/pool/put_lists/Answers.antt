use Rattle.std.specs.Prelude.{All}
use Rattle.std.specs.Vec.Iter.{into_iter_items}
use Rattle.std.proofs.Common.{Global, Vec, ◌∙◌}
use Rattle.std.proofs.lemmas.List.Elements.{All-rest}
use Rattle.fab_pool.specs.Jobs.{IsAt}
use Rattle.fab_pool.specs.declared.pool.Placed.{Placed}
use Rattle.fab_pool.proofs.pool.put_lists.Goals as goal

pub loop-list-preserved : goal.loop-list-preserved
loop-list-preserved c =
    let fits : Placed → Type 0 = λ placed. IsAt c.args.slots.now.items placed.place placed.done.job in
    let all : Vec Placed Global → Type 0 = λ list. All fits list.items in
    let i = c.loop-list.invariant in
    let next = c.in-Some.ensures.steps in
    (c.put_all.ensures ∙ i.0, All-rest all c.in-Some.list (into_iter_items c.next.new.self) (into_iter_items c.loop-list.list-iterator) next.0 i.1)
