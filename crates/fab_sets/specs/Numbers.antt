-- Numbers among others.
use Rattle.std.specs.Prelude.{ℕ, Bool, ◌==◌, List}
use Rattle.std.specs.List.{list_any}

abbrev pub is_listed : ℕ → List ℕ → Bool
is_listed n ns = list_any (λ m. m == n) ns
