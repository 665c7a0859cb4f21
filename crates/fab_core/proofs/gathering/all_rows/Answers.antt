use Rattle.std.proofs.Common.{[], ◌∷◌, ◌++◌, map, ap, sym, ◌∙◌}
use Rattle.std.specs.List.{range_with_len}
use Rattle.fab_nodes.specs.Seen.{held_in}
use Rattle.fab_core.proofs.Ranges.{map_more}
use Rattle.fab_core.proofs.gathering.all_rows.Goals as goal

pub loop-number-preserved : goal.loop-number-preserved
loop-number-preserved g c =
    c.in_ok-push.ensures.ok
    ∙ ap (λ all. all ++ c.in_ok-rows_held.field-0 ∷ []) c.loop-number.invariant
    ∙ ap (λ rows. map (held_in c.args.nodes.now) (range_with_len 0 c.loop-number.number) ++ rows ∷ []) c.in_ok-rows_held.ensures
    ∙ sym (map_more (held_in c.args.nodes.now) c.loop-number.number)
