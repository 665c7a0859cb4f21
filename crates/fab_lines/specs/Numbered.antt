-- Roots that stand at their numbers.
use Rattle.std.specs.Prelude.{◌≡◌, ℕ, List, Some, slice_get}
use Rattle.fab_tree.specs.declared.resolved.Root.{Root}

abbrev pub AreNumbered : List Root → Type 0
AreNumbered roots = (n : ℕ) (x : Root) → slice_get roots n ≡ Some x → x.oid.number ≡ n
