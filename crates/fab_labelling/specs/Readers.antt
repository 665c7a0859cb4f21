-- Who may read what has a label, and who may have influenced it.
use Rattle.std.specs.Prelude.{ℕ, ◌<◌, suc, Bool, false, ◌==◌, if◌then◌else◌, List, [], ◌∷◌, length, Option, Some, None, option_map, unwrap_or, slice_get, All, IsBitSet}
use Rattle.fab_base.specs.declared.label.Label.{Label}
use Rattle.fab_base.specs.Principals.{Delegations}
use Rattle.fab_base.specs.Labels.{ActsForOne}
use Rattle.fab_tree.specs.declared.resolved.Principal.{Principal}
use Rattle.fab_tree.specs.declared.resolved.Resolved.{Resolved}

-- A principal may read where, for each policy of confidentiality, it acts for the owner or for one of the readers.
-- So anybody may where there is no policy.
abbrev pub IsReader : Delegations → Label → ℕ → Type 0
IsReader d label p = All (λ policy. ActsForOne d p (policy.owner ∷ policy.others)) label.conf

-- a principal may have influenced a value where, for each policy of integrity, it acts for the owner or for one of the writers
abbrev pub IsWriter : Delegations → Label → ℕ → Type 0
IsWriter d label p = All (λ policy. ActsForOne d p (policy.owner ∷ policy.others)) label.integ

-- ---- what numbers stand for

-- the label of a number; one that isn't there says nothing
abbrev pub label_at : Resolved → ℕ → Label
label_at r n = unwrap_or (option_map (λ x. x.label) (slice_get r.labels n)) (record { conf = []; integ = [] })

-- a principal is the worker or store of this number
abbrev pub is_numbered : ℕ → Option ℕ → Bool
is_numbered n None = false
is_numbered n (Some m) = n == m

-- the place of the worker or store of this number among principals, of which the first has that place
abbrev pub place_from : ℕ → ℕ → List Principal → ℕ
place_from place n [] = place
place_from place n (x ∷ xs) = if is_numbered n x.node then place else place_from (suc place) n xs

-- workers and stores are numbered among themselves; this is the number among all principals
abbrev pub principal_of : Resolved → ℕ → ℕ
principal_of r n = place_from 0 n r.nodes

-- there is a worker or store of this number
abbrev pub IsNode : Resolved → ℕ → Type 0
IsNode r n = principal_of r n < length r.nodes

-- ---- sets of workers and stores; bit n of a set stands for number n

-- one of the set may read
abbrev pub IsVisible : Resolved → Delegations → ℕ → Label → Type 0
IsVisible r d nodes label = (n : ℕ) × IsBitSet nodes n × IsNode r n × IsReader d label (principal_of r n)

-- none of the set may have influenced it
abbrev pub Excludes : Resolved → Delegations → ℕ → Label → Type 0
Excludes r d nodes label = (n : ℕ) → IsBitSet nodes n → IsNode r n → ¬ IsWriter d label (principal_of r n)
