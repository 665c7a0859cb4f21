-- A small setting, made by hand: workers, stores, and accounts.
use Rattle.std.proofs.Common.{ℕ, [], ◌∷◌, ℤ}
use Rattle.fab_base.specs.declared.object.Oid.{Oid}
use Rattle.fab_base.specs.declared.object.Object.{Object as Thing}
use Rattle.fab_base.specs.declared.object.Tid.{Tid}
use Rattle.fab_base.specs.declared.object.Value.TheVariants.{Int}
use Rattle.fab_base.specs.FlatMap.{FlatMap}
use Rattle.fab_base.specs.declared.object.Width.TheVariants as widths
use Rattle.fab_rights.specs.declared.rights.Rights.{Rights}
use Rattle.fab_rights.specs.declared.rights.Shape.TheVariants as shapes

-- accounts 0 and 1, at store 1
abbrev pub account : ℕ → Oid
account n = record { store = 1; class = 0; worker = 65535; boot = 0; number = n; site = 65535; index = 0 }

abbrev pub holding : ℤ → Thing
holding n = record { class = 0; fields = Int n ∷ [] }

abbrev pub accounts : ℤ → ℤ → FlatMap
accounts n m = (account 0, holding n) ∷ (account 1, holding m) ∷ []

-- an attempt: worker, boot, number
abbrev pub attempt : ℕ → ℕ → ℕ → Tid
attempt worker boot number = record { worker = worker; boot = boot; number = number }

-- a box, at store 4
abbrev pub box : Oid
box = record { store = 4; class = 1; worker = 65535; boot = 0; number = 0; site = 65535; index = 0 }

-- Node 0 is a worker, 1 a store, 2 a hostile worker, 3 another worker, 4 a hostile store.
-- Workers 0 and 3 may fetch and write accounts, which store 1 may hold; 0 and 3 may fetch boxes, which 4 may hold, and 0
-- may write them. A note, at store 1, refers to an account.
abbrev pub rights : Rights
rights = record {
  workers = 13;
  stores = 18;
  classes =
      record { fetchers = 9; writers = 9; holders = 2; fields = shapes.Number widths.Int ∷ [] }
      ∷ record { fetchers = 9; writers = 1; holders = 16; fields = shapes.Number widths.Int ∷ [] }
      ∷ record { fetchers = 9; writers = 9; holders = 2; fields = shapes.Class 0 ∷ [] } ∷ [];
}

-- the first account that this attempt makes, at site 7
abbrev pub made : Tid → Oid
made t = record { store = 1; class = 0; worker = t.worker; boot = t.boot; number = t.number; site = 7; index = 0 }
