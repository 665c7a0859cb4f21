-- Sets of principals as bits, and the authority that methods use.
use Rattle.std.specs.Prelude.{◌≡◌, ◌==◌, ℕ, ◌<◌, ◌≤◌, List, length, map, slice_get, slice_index, All}
use Rattle.std.specs.List.{list_any}
use Rattle.fab_tree.specs.declared.resolved.Use.{Use}
use Rattle.fab_tree.specs.declared.resolved.Method.{Method}
use Rattle.fab_tree.specs.declared.resolved.Resolved.{Resolved}
use Rattle.fab_labelling.specs.Claims.{ReachesMethod, HasAuthorityOf}
use Rattle.fab_principals.specs.Sets.{in_set}
use Rattle.fab_authority.specs.Decided.{has_authority, uses_authority}

abbrev pub numbers_of : List Use → List ℕ
numbers_of xs = map (λ x. x.number) xs

-- the principals that give a method authority are some of the first 64
abbrev pub IsFew : Method → Type 0
IsFew m = All (λ x. x.number < 64) m.authority

-- at most 64 principals, and no others in the authority of methods
pub record HasFew (r : Resolved) : Type 0 where
  pub principals : length r.nodes ≤ 64
  pub authority : All IsFew r.methods

-- the bits of the set are those of these numbers
abbrev pub IsMask : List ℕ → ℕ → Type 0
IsMask ps set = (p : ℕ) → in_set set p ≡ list_any (λ q. q == p) ps

-- the set of each method has those who give it authority
pub record AreOwn (methods : List Method) (sets : List ℕ) : Type 0 where
  pub size : length sets ≡ length methods
  pub bits : (m p : ℕ) → in_set (slice_index sets m) p ≡ has_authority (slice_get methods m) p

-- some method that is reached from this one has the authority of the principal
abbrev pub UsesAuthority : Resolved → ℕ → ℕ → Type 0
UsesAuthority r m p = (n : ℕ) × ReachesMethod r m n × HasAuthorityOf r n p

-- the set of each method has those whose authority it uses
abbrev pub AreUsed : Resolved → List ℕ → Type 0
AreUsed r sets = (m p : ℕ) → in_set (slice_index sets m) p ≡ uses_authority r m p
