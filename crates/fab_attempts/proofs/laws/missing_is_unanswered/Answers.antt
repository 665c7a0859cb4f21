use Rattle.fab_base.specs.FlatMap.{map_of}
use Rattle.fab_laws.proofs.Changes.{missing_is_absent}
use Rattle.fab_protocol.specs.Versions.{objects_of}
use Rattle.fab_attempts.proofs.Rows.{none_among}
use Rattle.fab_attempts.proofs.laws.missing_is_unanswered.Goals as goal

pub returns : goal.returns
returns c = λ program t answers request fuel site o e. none_among answers o (missing_is_absent (map_of (objects_of answers)) program t request fuel site o e)
