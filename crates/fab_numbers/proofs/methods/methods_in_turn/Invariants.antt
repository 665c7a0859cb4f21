use Rattle.std.proofs.Common.{◌≡◌, ◌++◌, drop}
use Rattle.fab_language.specs.MethodNumbers.{methods_of}
use Rattle.fab_numbers.proofs.methods.methods_in_turn.Given as goal

abbrev pub invariant-loop-method : goal.invariant-loop-method
invariant-loop-method l =
    let rest = methods_of l.tables (drop l.method-index l.methods) l.sites in
    let whole = methods_of l.tables l.methods l.initial.sites in
    record {
      made : l.made ++ rest.0 ≡ whole.0;
      next : rest.1 ≡ whole.1;
    }
