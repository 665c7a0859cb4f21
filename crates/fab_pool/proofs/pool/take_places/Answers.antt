use Rattle.std.specs.Prelude.{◌++◌, ◌∷◌, [], List}
use Rattle.std.proofs.Common.{ap, ◌∙◌}
use Rattle.std.proofs.lemmas.List.Elements.{All-push, All-same}
use Rattle.fab_pool.specs.Jobs.{IsOf}
use Rattle.fab_pool.specs.declared.pool.Placed.{Placed}
use Rattle.fab_pool.proofs.pool.take_places.Goals as goal

pub loop-preserved : goal.loop-preserved
loop-preserved g c =
    let fits : Placed → Type 0 = λ placed. IsOf g.S.Waiting.job c.args.slots.now placed.place placed.done.job in
    let taken = c.loop.taken.items in
    let placed = c.in-Ok-evaluate_at.placed in (
      tt,
      tt,
      All-same fits c.push_reserved.new.self.items (taken ++ placed ∷ []) (◌∙◌ {A = List Placed} c.push_reserved.ensures.items (ap (λ (l : List Placed). l ++ placed ∷ []) c.reserve.ensures.items))
          (All-push fits taken placed c.loop.invariant.2 c.in-Ok-evaluate_at.ensures),
    )
