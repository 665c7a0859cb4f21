-- Rights over one class of a bundle.
use Rattle.std.specs.Prelude.{◌≡◌, ℕ, ◌↔◌, map, IsBitSet}
use Rattle.fab_tree.specs.declared.resolved.Class.{Class}
use Rattle.fab_tree.specs.declared.resolved.Resolved.{Resolved}
use Rattle.fab_language.specs.Flows.{delegations_of}
use Rattle.fab_labelling.specs.Placement.{IsWorker, IsStore, FetchesClass, WritesClass, HoldsClass}
use Rattle.fab_rights.specs.declared.rights.ClassRights.{ClassRights}
use Rattle.fab_places.specs.Places.{shape_of}

pub record IsClassRights (r : Resolved) (class : Class) (x : ClassRights) : Type 0 where
  pub fetchers : (n : ℕ) → IsBitSet x.fetchers n ↔ (IsWorker r n × FetchesClass r (delegations_of r) n class)
  pub writers : (n : ℕ) → IsBitSet x.writers n ↔ (IsWorker r n × WritesClass r (delegations_of r) n class)
  pub holders : (n : ℕ) → IsBitSet x.holders n ↔ (IsStore r n × HoldsClass r (delegations_of r) n class)
  pub fields : x.fields ≡ map shape_of class.fields
