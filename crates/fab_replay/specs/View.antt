-- What is wanted of a run to view what is sent into a set.
use Rattle.std.specs.Prelude.{◌≡◌, ◌<◌, ◌≤◌, ℕ, length, Some, slice_get}
use Rattle.fab_flows.specs.Numbers.{HasPrincipals}
use Rattle.fab_tree.specs.declared.resolved.Class.{Class}
use Rattle.fab_rights.specs.Computed.{has_bit}
use Rattle.fab_tree.specs.declared.resolved.Resolved.{Resolved}
use Rattle.fab_release.specs.Bundles.{public_part}
use Rattle.fab_views.specs.Views.{IsSeenBy}
use Rattle.fab_places.specs.declared.masks.Seen.{Seen}
use Rattle.fab_replay.specs.declared.replayed.Wanted.{Wanted}
use Rattle.fab_replay.specs.declared.replayed.Wanted.TheVariants.{Report, Run, Trust, View}

-- of a program within the limits, whose principals and classes have what they name, masks say what a set sees
pub record CanBeSeen (r : Resolved) : Type 0 where
  pub principals : HasPrincipals r
  pub labels : length r.labels ≤ 64
  pub classes : length r.classes ≤ 64
  pub declared : (n : ℕ) (class : Class) → slice_get r.classes n ≡ Some class → class.label.number < length r.labels

-- what these nodes see of the program, and what of it everybody may know
pub record IsViewOf (r : Resolved) (nodes mask : ℕ) (seen : Seen) (part : Resolved) : Type 0 where
  pub nodes_are : mask ≡ nodes
  pub sees : IsSeenBy r nodes (has_bit seen.labels) (has_bit seen.classes)
  pub part_is : part ≡ public_part (has_bit seen.labels) (has_bit seen.classes) r

abbrev pub IsViewInto : Resolved → ℕ → Wanted → Type 0
IsViewInto r nodes Report = ⊥
IsViewInto r nodes (Run x) = ⊥
IsViewInto r nodes (View mask seen part) = IsViewOf r nodes mask seen part
IsViewInto r nodes (Trust mask part) = ⊥
