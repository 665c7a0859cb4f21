-- What the calling thread has kept, and what it finds left, where it does what the threads left.
use Rattle.std.specs.Prelude.{List, Option, IfSome}
use Rattle.std.specs.List.{All}
use Rattle.fab_eval.specs.declared.done.Done.{Done}
use Rattle.fab_tree.specs.declared.resolved.Resolved.{Resolved}
use Rattle.fab_pauses.specs.Evaluations.{IsOf}
use Rattle.fab_threads.specs.Counts.{IsReady}
use Rattle.fab_threads.specs.declared.alone.Left.{Left}
use Rattle.fab_threads.specs.declared.alone.Left.TheVariants as left

-- what came of jobs of this program, a place for each node
abbrev pub AreKept : Resolved → List (Option Done) → Type 0
AreKept program kept = All (λ (kept_one : Option Done). IfSome kept_one (λ (done : Done). IsOf program done.job)) kept

-- nothing is left where all is over, and else jobs of this program
abbrev pub IsLeft : Resolved → Type 0 → Left → Type 0
IsLeft program over left.Nothing = over
IsLeft program over (left.Jobs jobs) = All (IsReady program) jobs
