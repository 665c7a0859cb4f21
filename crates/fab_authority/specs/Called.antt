-- Which methods call which, and the sets of those whose authority they use.
use Rattle.std.specs.Prelude.{◌≡◌, ℕ, ◌<◌, true, List, ◌++◌, map, length, slice_index}
use Rattle.fab_base.specs.Principals.{Leads}
use Rattle.fab_tree.specs.declared.resolved.Statement.{Statement}
use Rattle.fab_labelling.specs.Claims.{all_called, called_in}
use Rattle.fab_principals.specs.Sets.{in_set}

abbrev pub Calls : Type 0
Calls = List (ℕ × ℕ)

-- behind these a method with each of those
unfoldable pub with_calls : Calls → ℕ → List ℕ → Calls
with_calls out n ks = out ++ map (λ k. (n, k)) ks

-- the methods that are called in a block
abbrev pub block_calls : List Statement → List ℕ
block_calls xs = all_called (map called_in xs)

-- each set has what it had, and what a method had that is reached
pub record AreGrown (calls : Calls) (old new : List ℕ) : Type 0 where
  pub size : length new ≡ length old
  pub kept : (m p : ℕ) → in_set (slice_index old m) p ≡ true → in_set (slice_index new m) p ≡ true
  pub from : (m p : ℕ) → in_set (slice_index new m) p ≡ true → (n : ℕ) × ((way : List ℕ) × Leads calls m way n) × (in_set (slice_index old n) p ≡ true)

-- the set of the one who calls has what that of the one who is called has
abbrev pub IsSettled : List ℕ → ℕ × ℕ → Type 0
IsSettled sets call = (p : ℕ) → call.0 < length sets → in_set (slice_index sets call.1) p ≡ true → in_set (slice_index sets call.0) p ≡ true
