-- Worked examples of sites and of limits.
use Rattle.std.proofs.Common.{◌≡◌, ℕ, List, [], ◌∷◌, Some, None, refl, false}
use Rattle.std.specs.Prelude.{replicate}
use Rattle.fab_base.specs.declared.limit.What.TheVariants as w
use Rattle.fab_base.specs.declared.object.Width.TheVariants as widths
use Rattle.fab_tree.specs.declared.declaration.Sort.TheVariants as sorts
use Rattle.fab_tree.specs.declared.declaration.Class.{Class}
use Rattle.fab_tree.specs.declared.declaration.Node.{Node}
use Rattle.fab_tree.specs.declared.declaration.Role.TheVariants as roles
use Rattle.fab_tree.specs.declared.start.Start.{Start}
use Rattle.fab_tree.specs.Limits.{first_passed}

abbrev a_class : ℕ → Class
a_class n = record { name = record { text = []; at = 0 }; label = record { text = []; at = 0 }; access = record { text = []; at = 0 }; fields = replicate n (record { sort = sorts.Number widths.Int; name = record { text = []; at = 0 } }) }

abbrev workers : ℕ → List Node
workers n = replicate n (record { role = roles.Worker false; name = record { text = []; at = 0 } })

-- a bundle of so many workers and a class of so many fields, with this cache
abbrev with : ℕ → ℕ → ℕ → Start
with nodes fields cache =
    record {
      program = record { nodes = workers nodes; delegations = []; labels = []; classes = a_class fields ∷ []; methods = [] };
      roots = [];
      sessions = [];
      posts = [];
      crashes = [];
      cache = cache;
      schedule = [];
    }

at_the_limits : first_passed (with 32 16 4096) ≡ None
at_the_limits = refl

a_cache_too_large : first_passed (with 32 16 4097) ≡ Some w.Cache
a_cache_too_large = refl

seventeen_fields : first_passed (with 32 17 4097) ≡ Some w.Fields
seventeen_fields = refl

thirty_three_workers : first_passed (with 33 17 4097) ≡ Some w.Nodes
thirty_three_workers = refl

sixty_five_principals : first_passed (with 65 17 4097) ≡ Some w.Principals
sixty_five_principals = refl
