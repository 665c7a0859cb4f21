use Rattle.std.proofs.Common.{◌≡◌, ◌++◌, drop}
use Rattle.fab_language.specs.MethodNumbers.{expressions_of}
use Rattle.fab_numbers.proofs.expressions.numbered_expressions.Given as goal

abbrev pub invariant-loop-expression : goal.invariant-loop-expression
invariant-loop-expression l =
    let rest = expressions_of l.scope.tables.now l.scope.locals (drop l.expression-index l.expressions) l.sites in
    let whole = expressions_of l.scope.tables.now l.scope.locals l.expressions l.initial.sites in
    record {
      made : l.made ++ rest.0 ≡ whole.0;
      next : rest.1 ≡ whole.1;
    }
