-- Bundles with numbers for names.
use Rattle.std.specs.Prelude.{◌≡◌, [], None}
use Rattle.fab_tree.specs.declared.start.Start.{Start}
use Rattle.fab_tree.specs.declared.resolved.Resolved.{Resolved}
use Rattle.fab_tree.specs.Limits.{first_passed}
use Rattle.fab_language.specs.Faults.{faults}
use Rattle.fab_language.specs.Numbers.{resolved}

-- these are the numbers of a bundle within the limits that keeps the rules of names and types
pub record IsResolved (r : Resolved) : Type 0 where
  pub start : Start
  pub within : first_passed start ≡ None
  pub right : faults start ≡ []
  pub is : r ≡ resolved start
