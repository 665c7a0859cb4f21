use Rattle.std.proofs.Common.{◌≡◌, drop}
use Rattle.std.specs.List.{flat_map}
use Rattle.fab_language.specs.Arity.{in_request}
use Rattle.fab_rules.specs.First.{first_from}
use Rattle.fab_types.proofs.arity.in_session.Given as goal

abbrev pub invariant-loop-request : goal.invariant-loop-request
invariant-loop-request l =
    first_from l.first (flat_map (in_request l.tables) (drop l.request-index l.request-items)) ≡ first_from l.initial.first (flat_map (in_request l.tables) l.request-items)
