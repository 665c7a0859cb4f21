-- Objects by name and version.
use Rattle.std.specs.Prelude.{◌≡◌, ℕ, [], ◌∷◌, Option, Some, None}
use Rattle.fab_base.specs.declared.object.Object.{Object}
use Rattle.fab_base.specs.declared.object.Oid.{Oid}
use Rattle.fab_protocol.specs.Versions.{Row, Rows}
use Rattle.fab_release.specs.Replay.{row_at}
use Rattle.fab_known.specs.declared.table.Place.{Place}

abbrev pub row_in : Place × Object → Row
row_in entry = (entry.0.oid, entry.0.version, entry.1)

-- the row of an object that was found at a version, if there is one
abbrev pub row_found : Oid → ℕ → Option Object → Rows
row_found o version None = []
row_found o version (Some x) = (o, version, x) ∷ []

-- the same rows are found in these and those
abbrev pub AreAlike : Rows → Rows → Type 0
AreAlike rows others = (o : Oid) (version : ℕ) → row_at rows o version ≡ row_at others o version
