use Rattle.std.proofs.Common.{◌≡◌, List, [], ◌∷◌, ◌++◌, map, refl, ap, ◌∙◌}
use Rattle.std.specs.List.{flat_map}
use Rattle.fab_tree.specs.declared.resolved.Statement.{Statement}
use Rattle.fab_downgrades.specs.declared.rows.Downgraded.{Downgraded}
use Rattle.fab_downgrades.specs.Downgraded.{all_in, downgraded_in}
use Rattle.fab_downgrades.proofs.downgrades.put_method.Goals as goal

one_by_one : (xs : List Statement) → all_in (map downgraded_in xs) ≡ flat_map downgraded_in xs
one_by_one [] = refl
one_by_one (x ∷ xs) = ap (λ (ds : List Downgraded). downgraded_in x ++ ds) (one_by_one xs)

pub returns : goal.returns
returns c =
    c.in_ok-put_block.ensures
    ∙ ap (λ (ds : List Downgraded). c.args.out.now ++ ds) (one_by_one c.as_slice.result.now ∙ ap (λ (xs : List Statement). flat_map downgraded_in xs) c.as_slice.ensures)
