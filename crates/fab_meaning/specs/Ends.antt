-- What was found of a request, beside what it means.
use Rattle.std.specs.Prelude.{◌≡◌, ◌++◌, true, Option, Result, Ok, Err}
use Rattle.fab_base.specs.declared.object.Value.{Value}
use Rattle.fab_base.specs.FlatMap.{ascends}
use Rattle.fab_language.specs.declared.ending.Ending.{Ending}
use Rattle.fab_language.specs.declared.ending.Ending.TheVariants as e
use Rattle.fab_language.specs.Meaning as m
use Rattle.fab_meaning.specs.declared.whole.Changes.{Changes}
use Rattle.fab_meaning.specs.declared.whole.Meant.{Meant}
use Rattle.fab_meaning.specs.Effects.{objects_at}
use Rattle.fab_stack.specs.declared.halt.End.{End}
use Rattle.fab_stack.specs.declared.halt.End.TheVariants.{Missing}
use Rattle.fab_stack.specs.declared.stepping.Way.{Way}
use Rattle.fab_stack.specs.declared.stepping.Way.TheVariants.{Over, Lacks}
use Rattle.fab_stack.specs.Gives.{end_of}

-- what was found is what was meant
pub record IsMeant (found : Meant) (meant : m.Meant) : Type 0 where
  pub ending : found.ending ≡ meant.ending
  pub map : found.map ≡ meant.map
  pub written : found.written ≡ meant.written
  pub made : found.made ≡ meant.made
  pub touches : found.touches ≡ meant.touches
  pub downs : found.downs ≡ meant.downs

-- what was found changed is what was meant to be: what was written, and then what was made
pub record AreChanges (found : Changes) (meant : m.Meant) : Type 0 where
  pub ending : found.ending ≡ meant.ending
  pub changed : found.changed ≡ objects_at meant.map (meant.written ++ meant.made)
  pub ascends : ascends meant.map ≡ true

-- how a run ended; one that lacks an object ended there
abbrev pub ended_by : Way → Result (Option Value) End
ended_by (Over ended) = ended
ended_by (Lacks site o fuel pairs objects) = Err (Missing site o)

-- the ending of a request that a run ended so
abbrev pub ending_of : Result (Option Value) End → Ending
ending_of (Ok v) = e.Ended v
ending_of (Err end) = m.ending_at (end_of end)
