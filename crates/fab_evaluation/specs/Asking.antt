-- Requests that aren't copied.
use Rattle.std.specs.Prelude.{List, map}
use Rattle.std.specs.Borrow.{Bor}
use Rattle.fab_tree.specs.declared.resolved.Request.{Request}

-- the requests that these refer to
abbrev pub asked : List (Bor Request) → List Request
asked requests = map (λ r. r.now) requests
