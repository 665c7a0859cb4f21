use Rattle.std.proofs.Common.{ap, sym, subst, ◌∙◌}
use Rattle.std.specs.List.{IsDistinct}
use Rattle.std.specs.Map.{keys_of}
use Rattle.fab_base.specs.FlatMap.{FlatMap, is_same, map_of}
use Rattle.fab_nested.specs.Logs.{heap_of}
use Rattle.fab_nested.proofs.Starting.{distinct_rows, answers_known_as, framed_start}
use Rattle.fab_nested.proofs.frames.Frames.make.Goals as goal

pub from_rows-requires : goal.from_rows-requires
from_rows-requires c = subst (λ (rows : FlatMap). IsDistinct is_same (keys_of rows)) (sym c.in_ok-rows.ensures) (distinct_rows c.args.answers.now c.requires)

pub invariant_of-result : goal.invariant_of-result
invariant_of-result c =
    framed_start c.in_ok-versions.versions.entries c.from_rows.result c.new.result.items (heap_of c.none.result) c.new-2.result.items c.new.ensures.items c.none.ensures c.new-2.ensures.items
    (answers_known_as c.args.answers.now c.requires c.in_ok-versions.versions.entries c.from_rows.result c.in_ok-versions.ensures (c.from_rows.ensures ∙ ap map_of c.in_ok-rows.ensures))
