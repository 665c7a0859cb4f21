-- Roots that may be read beside a run.
use Rattle.std.specs.Prelude.{◌≡◌, ℕ, Bool, true, false, List, Some, find, option_map, unwrap_or, slice_get, IsSomeAnd}
use Rattle.std.specs.Str.{bytes_eq}
use Rattle.fab_base.specs.declared.label.Label.{Label}
use Rattle.fab_base.specs.declared.object.Oid.{Oid}
use Rattle.fab_tree.specs.declared.resolved.Resolved.{Resolved}
use Rattle.fab_tree.specs.declared.resolved.Root.{Root}
use Rattle.fab_language.specs.Flows.{delegations_of}
use Rattle.fab_language.specs.Names.{is_hostile}
use Rattle.fab_labelling.specs.Placement.{role_of}
use Rattle.fab_labelling.specs.Readers.{IsWriter, label_at, principal_of}

-- the worker or store of this number was declared hostile
abbrev pub is_declared_hostile : Resolved → ℕ → Bool
is_declared_hostile r n = unwrap_or (option_map is_hostile (role_of r n)) false

-- no hostile node may have influenced what has this label
abbrev pub ExcludesHostile : Resolved → Label → Type 0
ExcludesHostile r label = (n : ℕ) → is_declared_hostile r n ≡ true → ¬ IsWriter (delegations_of r) label (principal_of r n)

-- the class of this number has such a label
abbrev pub ClassExcludesHostile : Resolved → ℕ → Type 0
ClassExcludesHostile r class = IsSomeAnd (slice_get r.classes class) (λ c. ExcludesHostile r (label_at r c.label.number))

-- A root has this name, and this object; its store wasn't declared hostile, and no hostile node may have influenced objects of its class.
pub record IsReadable (r : Resolved) (name : List ℕ) (oid : Oid) : Type 0 where
  pub root : Root
  pub found : find (λ x. bytes_eq x.name.text name) r.roots ≡ Some root
  pub object : oid ≡ root.oid
  pub honest : is_declared_hostile r root.oid.store ≡ false
  pub trusted : ClassExcludesHostile r root.oid.class
