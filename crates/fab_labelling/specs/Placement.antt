-- Which store may hold a class, and which worker may fetch and write its objects.
use Rattle.std.specs.Prelude.{ℕ, IsTrue, Option, option_map, slice_get, IsSomeAnd}
use Rattle.fab_base.specs.declared.label.Label.{Label}
use Rattle.fab_base.specs.Principals.{Delegations}
use Rattle.fab_tree.specs.declared.declaration.Role.{Role}
use Rattle.fab_tree.specs.declared.resolved.Class.{Class}
use Rattle.fab_tree.specs.declared.resolved.Resolved.{Resolved}
use Rattle.fab_language.specs.Names.{is_store, is_worker}
use Rattle.fab_labelling.specs.Readers.{IsReader, IsWriter, label_at, principal_of}

-- A store may hold objects with this label, which are asked for under that one: it may read both, and it may have
-- influenced the objects, since it can answer for them what it likes.
pub record MayHold (d : Delegations) (store : ℕ) (label access : Label) : Type 0 where
  pub reads : IsReader d label store
  pub learns : IsReader d access store
  pub writes : IsWriter d label store

-- what a worker or store is, by its number among them
abbrev pub role_of : Resolved → ℕ → Option Role
role_of r n = option_map (λ x. x.role) (slice_get r.nodes (principal_of r n))

abbrev pub IsWorker : Resolved → ℕ → Type 0
IsWorker r n = IsSomeAnd (role_of r n) (λ x. IsTrue (is_worker x))

abbrev pub IsStore : Resolved → ℕ → Type 0
IsStore r n = IsSomeAnd (role_of r n) (λ x. IsTrue (is_store x))

-- the store of this number may hold this class
abbrev pub HoldsClass : Resolved → Delegations → ℕ → Class → Type 0
HoldsClass r d store class = MayHold d (principal_of r store) (label_at r class.label.number) (label_at r class.access.number)

-- the worker of this number may fetch objects of this class
abbrev pub FetchesClass : Resolved → Delegations → ℕ → Class → Type 0
FetchesClass r d worker class = IsReader d (label_at r class.label.number) (principal_of r worker)

-- and may write and make them
abbrev pub WritesClass : Resolved → Delegations → ℕ → Class → Type 0
WritesClass r d worker class = FetchesClass r d worker class × IsWriter d (label_at r class.label.number) (principal_of r worker)

-- ---- by the numbers of classes

abbrev pub MayHoldNumber : Resolved → Delegations → ℕ → ℕ → Type 0
MayHoldNumber r d store class = IsStore r store × IsSomeAnd (slice_get r.classes class) (λ c. HoldsClass r d store c)

abbrev pub MayFetchNumber : Resolved → Delegations → ℕ → ℕ → Type 0
MayFetchNumber r d worker class = IsWorker r worker × IsSomeAnd (slice_get r.classes class) (λ c. FetchesClass r d worker c)

abbrev pub MayWriteNumber : Resolved → Delegations → ℕ → ℕ → Type 0
MayWriteNumber r d worker class = IsWorker r worker × IsSomeAnd (slice_get r.classes class) (λ c. WritesClass r d worker c)
