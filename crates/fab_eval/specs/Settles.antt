-- What a run came to, beside what it means.
use Rattle.std.specs.Prelude.{◌≡◌, ℕ, List, Option, Result, Ok, Err}
use Rattle.fab_base.specs.declared.object.Oid.{Oid}
use Rattle.fab_base.specs.declared.object.Value.{Value}
use Rattle.fab_language.specs.declared.ending.Ending.{Ending}
use Rattle.fab_language.specs.declared.ending.Ending.TheVariants.{Ended}
use Rattle.fab_language.specs.Meaning.{Meant, meant_at, ending_at}
use Rattle.fab_stack.specs.declared.halt.End.{End}
use Rattle.fab_stack.specs.Gives.{end_of}
use Rattle.fab_stack.specs.Points.{Point}
use Rattle.fab_eval.specs.declared.job.Outcome.{Outcome}
use Rattle.fab_eval.specs.Outcomes.{outcome_by}

-- these are the parts of what was meant
pub record Comes (versions : List (Oid × ℕ)) (meant : Meant) (outcome : Outcome) (touches : List (ℕ × Oid)) (downs : List (ℕ × Value)) : Type 0 where
  pub outcome_is : outcome ≡ outcome_by versions meant
  pub touches_are : touches ≡ meant.touches
  pub downs_are : downs ≡ meant.downs

-- how a run ended
abbrev pub ending_of : Result (Option Value) End → Ending
ending_of (Ok v) = Ended v
ending_of (Err end) = ending_at (end_of end)

-- the same at the end of a run
abbrev pub Settles : Result (Option Value) End → Point → Outcome → List (ℕ × Oid) → List (ℕ × Value) → Type 0
Settles ended p outcome touches downs = Comes p.base.versions (meant_at (ending_of ended) p.state) outcome touches downs
