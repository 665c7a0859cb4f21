-- What a request comes to over a map.
use Rattle.std.specs.Prelude.{◌≡◌, [], Ok, Err}
use Rattle.fab_base.specs.FlatMap.{FlatMap, put_all}
use Rattle.fab_tree.specs.declared.resolved.Resolved.{Resolved}
use Rattle.fab_tree.specs.declared.resolved.Request.{Request}
use Rattle.fab_language.specs.declared.ending.Ending.{Ending}
use Rattle.fab_language.specs.declared.ending.Ending.TheVariants.{Ended, Missing}
use Rattle.fab_language.specs.Heaps.{Heap}
use Rattle.fab_language.specs.Meaning.{ending_at}
use Rattle.fab_language.specs.Evaluation.{if_ended, meant, map_behind}
use Rattle.fab_nested.specs.Nested.{changed_in}
use Rattle.fab_stack.specs.declared.stepping.Way.{Way}
use Rattle.fab_stack.specs.declared.stepping.Way.TheVariants.{Over, Lacks}
use Rattle.fab_stack.specs.Gives.{end_of}
use Rattle.fab_evaluation.specs.declared.single.Single.{Single}

-- it ended as it is meant to, and what it changed makes the map behind it
pub record IsSingle (program : Resolved) (known : FlatMap) (request : Request) (single : Single) : Type 0 where
  pub ending : single.ending ≡ (meant program known request).ending
  pub map : put_all single.changed known ≡ map_behind program known request

-- the ending of a request that was run this way; one that lacks an object ended there
abbrev pub ending_of : Way → Ending
ending_of (Over (Ok v)) = Ended v
ending_of (Over (Err end)) = ending_at (end_of end)
ending_of (Lacks site o fuel pairs objects) = Missing site o

-- what a request changed that ended so and left this heap: nothing, unless it ended
abbrev pub changes_at : Ending → Heap → FlatMap
changes_at ending h = if_ended ending (changed_in h) []
