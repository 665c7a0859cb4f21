use Rattle.std.proofs.Common.{◌≡◌, drop, map}
use Rattle.fab_language.specs.Kinds.{kind_of_sort}
use Rattle.fab_language.specs.Types.{each_given, typed}
use Rattle.fab_rules.specs.First.{first_from}
use Rattle.fab_types.proofs.statements.each_given.Given as goal

abbrev pub invariant-loop-taker : goal.invariant-loop-taker
invariant-loop-taker g l =
    first_from l.first (each_given (map (λ t. kind_of_sort l.tables (g.T.Taker.sort t)) (drop l.taker-index l.takers)) (map (typed l.tables l.known) l.values)) ≡ first_from l.initial.first (each_given (map (λ t. kind_of_sort l.tables (g.T.Taker.sort t)) l.takers) (map (typed l.tables l.known) l.initial.values))
