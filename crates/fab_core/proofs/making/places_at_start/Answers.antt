use Rattle.std.proofs.Common.{ap, ◌∙◌}
use Rattle.std.specs.Prelude.{slice_index_or}
use Rattle.fab_core.proofs.AtStart.{zeros_at}
use Rattle.fab_core.proofs.making.places_at_start.Goals as goal

pub returns-clause-first : goal.returns-clause-first
returns-clause-first c h = ap (λ xs. slice_index_or xs h 0) c.in_ok-places.ensures.items ∙ zeros_at h 64
