use Rattle.std.proofs.Common.{◌++◌, ◌∷◌, [], append-nil, sym, ap, ◌∙◌}
use Rattle.fab_versions.specs.Blocked.{rows_in}
use Rattle.fab_versions.proofs.Standing.{rows_append}
use Rattle.fab_versions.proofs.blocks.joined.Goals as goal

-- the rows of the block go behind those so far
pub loop-block-preserved : goal.loop-block-preserved
loop-block-preserved c =
    let done = c.loop-block.yielded in
    c.in_ok-append.ensures.items
    ∙ ap (λ l. l ++ c.into_vec-more.result.items) c.loop-block.invariant
    ∙ ap (λ l. rows_in done ++ l) (c.into_vec-more.ensures.rows ∙ sym (append-nil c.in-Some.block.rows))
    ∙ sym (rows_append done ((c.in-Some.field-0-0, c.in-Some.block) ∷ []))
