use Rattle.std.proofs.Common.{◌≡◌, ◌++◌, List, map, drop}
use Rattle.fab_tree.specs.Print.{Ink, text_of, all, statement}
use Rattle.fab_print.proofs.statement.+statement.Given as goal

abbrev pub invariant-put_statements-statements : goal.invariant-put_statements-statements
invariant-put_statements-statements l = (more : List Ink) → l.out ++ text_of (all (map (λ x. statement x l.level) (drop l.statement-index l.statements)) more) ≡ l.fn.out ++ text_of (all (map (λ x. statement x l.level) l.statements) more)
