use Rattle.std.proofs.Common.{◌≡◌, ◌++◌, length}
use Rattle.std.specs.List.{flat_map}
use Rattle.fab_language.specs.Flows.{principal_text}
use Rattle.fab_flows.proofs.names.put_behind.Given as goal

abbrev pub invariant-numbers : goal.invariant-numbers
invariant-numbers l = l.out ++ flat_map (λ m. l.mark ++ principal_text l.start m) l.rest ≡ l.fn.out ++ flat_map (λ m. l.mark ++ principal_text l.start m) l.numbers

abbrev pub decreases-numbers : goal.decreases-numbers
decreases-numbers l = length l.rest
