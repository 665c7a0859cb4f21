use Rattle.std.proofs.Common.{◌≡◌, ◌++◌, length}
use Rattle.std.specs.Prelude.{flat_map}
use Rattle.fab_language.specs.Evaluation.{asked_at}
use Rattle.fab_evaluation.specs.Asking.{asked}
use Rattle.fab_evaluation.proofs.sequence.add_sessions.Given as goal

abbrev pub invariant-sessions : goal.invariant-sessions
invariant-sessions l = asked l.requests ++ flat_map (asked_at l.node) l.rest ≡ asked l.fn.requests ++ flat_map (asked_at l.node) l.sessions

abbrev pub decreases-sessions : goal.decreases-sessions
decreases-sessions l = length l.rest
