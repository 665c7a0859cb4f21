-- What a request changed, by example.
use Rattle.std.proofs.Common.{◌≡◌, ℕ, [], ◌∷◌, None, refl}
use Rattle.fab_base.specs.declared.object.Object.{Object}
use Rattle.fab_base.specs.declared.object.Oid.{Oid}
use Rattle.fab_base.specs.FlatMap.{FlatMap}
use Rattle.fab_language.specs.declared.ending.Ending.TheVariants.{Ended, Failed}
use Rattle.fab_language.specs.Heaps.{Heap}
use Rattle.fab_language.specs.Meaning.{unchanged}
use Rattle.fab_nested.specs.Nested.{changed_in}
use Rattle.fab_evaluation.specs.Singles.{changes_at}

abbrev name : ℕ → Oid
name n = record { store = 1; class = 0; worker = 65535; boot = 0; number = n; site = 65535; index = 0 }

-- objects that differ in their class
abbrev row : ℕ → Oid × Object
row n = (name n, record { class = n; fields = [] })

abbrev rows : FlatMap
rows = row 0 ∷ row 1 ∷ row 2 ∷ row 3 ∷ []

abbrev heap : Heap
heap = record { rows = rows; written = name 3 ∷ name 1 ∷ []; made = name 0 ∷ [] }

-- in the order of names, whether written or made, and however they came
by_name : changed_in heap ≡ row 0 ∷ row 1 ∷ row 3 ∷ []
by_name = refl

-- what is only known isn't there
only_known : changed_in (unchanged rows) ≡ []
only_known = refl

-- nor is a name without an object
no_object : changed_in (record { rows = row 2 ∷ []; written = name 1 ∷ []; made = name 2 ∷ [] }) ≡ row 2 ∷ []
no_object = refl

-- one that ended leaves them, and one that failed nothing
ended : changes_at (Ended None) heap ≡ row 0 ∷ row 1 ∷ row 3 ∷ []
ended = refl

failed : changes_at Failed heap ≡ []
failed = refl
