use Rattle.std.proofs.Common.{◌≡◌, ◌==◌, ℕ, take}
use Rattle.std.specs.List.{list_any}
use Rattle.fab_principals.specs.Sets.{in_set}
use Rattle.fab_authority.specs.Authority.{numbers_of}
use Rattle.fab_authority.proofs.sets.set_of.Given as goal

abbrev pub invariant-loop-principal : goal.invariant-loop-principal
invariant-loop-principal l = (p : ℕ) → in_set l.set p ≡ list_any (λ q. q == p) (numbers_of (take l.principal-index l.principals))
