use Rattle.std.proofs.Common.{◌≡◌, ◌++◌, [], append-nil, ap, sym, ◌∙◌}
use Rattle.fab_versions.proofs.Standing.{under_keys, nothing_left, same_rows, same_order}
use Rattle.fab_versions.proofs.blocks.copied.Goals as goal

-- at the end these are all
pub returns-clause-rows : goal.returns-clause-rows
returns-clause-rows c =
    let none : c.copies.rest.now ≡ [] = nothing_left c.copies.rest.now c.in_default.ensures.cases in
    same_rows c.copies.copy.items c.args.blocks.now
    (sym (append-nil (under_keys c.copies.copy.items)) ∙ ap (λ l. under_keys c.copies.copy.items ++ under_keys l) (sym none) ∙ c.copies.invariant)

pub returns-clause-in_order : goal.returns-clause-in_order
returns-clause-in_order c =
    let none : c.copies.rest.now ≡ [] = nothing_left c.copies.rest.now c.in_default.ensures.cases in
    same_order c.copies.copy.items c.args.blocks.now
    (sym (append-nil (under_keys c.copies.copy.items)) ∙ ap (λ l. under_keys c.copies.copy.items ++ under_keys l) (sym none) ∙ c.copies.invariant) c.requires
