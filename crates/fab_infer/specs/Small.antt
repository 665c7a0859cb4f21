-- The bounds on what inference looks at.
use Rattle.std.specs.Prelude.{◌≤◌, length, All}
use Rattle.fab_tree.specs.declared.resolved.Resolved.{Resolved}

-- at most 64 labels, and 256 methods of at most 256 locals each
pub record IsSmall (r : Resolved) : Type 0 where
  pub labels : length r.labels ≤ 64
  pub methods : length r.methods ≤ 256
  pub locals : All (λ m. length m.locals ≤ 256) r.methods
