use Rattle.std.proofs.Common.{ℕ, ◌++◌, ◌∷◌, [], get_or, arith, sym, ◌∙◌}
use Rattle.fab_base.specs.declared.message.Message.TheVariants.{Prepare}
use Rattle.fab_protocol.specs.Parts.{items_at}
use Rattle.fab_parts.proofs.Spelled.{each_more}
use Rattle.fab_parts.proofs.asking.prepares.Goals as goal

-- one store more
pub loop-store-preserved : goal.loop-store-preserved
loop-store-preserved c =
    let i = c.loop-store.store-index in
    let stores = c.args.stores.now in
    c.in_ok-push.ensures.ok
    ∙ (λ j. c.loop-store.invariant j ++ (get_or stores i 0, c.in_ok-prepare_at.ensures j) ∷ [])
    ∙ sym (each_more (λ (s : ℕ). (s, Prepare c.args.tid (items_at c.args.parts.now s))) stores i 0 (omega arith))
