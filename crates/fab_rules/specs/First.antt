-- The first of some faults, in whatever order they come.
use Rattle.std.specs.Prelude.{Bool, ◌&&◌, ◌||◌, ◌==◌, nat_lt, List, [], ◌∷◌, Option, Some, None, if◌then◌else◌}
use Rattle.fab_language.specs.declared.rule.Fault.{Fault}
use Rattle.fab_language.specs.Faults.{rank}

-- the one comes before the other: by its place, and at one place by its rule
abbrev pub is_sooner : Fault → Fault → Bool
is_sooner x y = nat_lt x.at y.at || ((x.at == y.at) && nat_lt (rank x.rule) (rank y.rule))

-- the first of the fault so far and this one
abbrev pub sooner : Option Fault → Fault → Option Fault
sooner None x = Some x
sooner (Some y) x = if is_sooner x y then Some x else Some y

-- the first of the fault so far and these
abbrev pub first_from : Option Fault → List Fault → Option Fault
first_from first [] = first
first_from first (x ∷ xs) = first_from (sooner first x) xs
