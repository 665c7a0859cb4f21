use Rattle.std.specs.Vec.Iter.{into_iter_items}
use Rattle.std.proofs.Common.{◌∙◌}
use Rattle.std.proofs.lemmas.List.Elements.{All-rest}
use Rattle.fab_pool.specs.Jobs.{IsAt}
use Rattle.fab_pool.specs.declared.pool.Placed.{Placed}
use Rattle.fab_pool.proofs.Lists.{put_same}
use Rattle.fab_pool.proofs.pool.put_all.Goals as goal

pub loop-place-preserved-then-place-len : goal.loop-place-preserved-then-place-len
loop-place-preserved-then-place-len c =
    let fits : Placed → Type 0 = λ placed. IsAt c.args.slots.now.items placed.place placed.done.job in
    let i = c.loop-place.invariant in
    let next = c.in-Some.ensures.steps in (
      put_same c.loop-place.slots.items c.in-Some.field-0.place _ c.put.new.self (c.put.ensures ∙ c.index_mut.ensures.value) ∙ i.0,
      All-rest fits c.in-Some.field-0 (into_iter_items c.next.new.self) (into_iter_items c.loop-place.place-iterator) next.0 i.1,
    )

pub loop-place-preserved : goal.loop-place-preserved
loop-place-preserved c =
    let fits : Placed → Type 0 = λ placed. IsAt c.args.slots.now.items placed.place placed.done.job in
    let i = c.loop-place.invariant in
    let next = c.in-Some.ensures.steps in
    (i.0, All-rest fits c.in-Some.field-0 (into_iter_items c.next.new.self) (into_iter_items c.loop-place.place-iterator) next.0 i.1)
