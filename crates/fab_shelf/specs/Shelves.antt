-- A store outside the set, in parts: what a message leaves there, and which Fetch it answers.
use Rattle.std.specs.Prelude.{ℕ, ◌&&◌, ◌==◌, nat_lt, if◌then◌else◌, Option, Some, None, List, []}
use Rattle.std.specs.List.{flat_map}
use Rattle.fab_base.specs.declared.object.Oid.{Oid}
use Rattle.fab_base.specs.declared.object.Tid.{Tid}
use Rattle.fab_base.specs.declared.message.Message.{Message}
use Rattle.fab_base.specs.declared.message.Message.TheVariants as m
use Rattle.fab_base.specs.declared.entry.Entry.{Entry}
use Rattle.fab_base.specs.declared.entry.Entry.TheVariants as e
use Rattle.fab_rights.specs.declared.rights.Rights.{Rights}
use Rattle.fab_rights.specs.Computed.{is_worker}
use Rattle.fab_protocol.specs.declared.sender.Sender.{Sender}
use Rattle.fab_protocol.specs.Stores.{Prepared, Shelf, boot_of, is_prepared, prepared_as}
use Rattle.fab_protocol.specs.Versions.{Rows, left_by}
use Rattle.fab_release.specs.Replay.{StoreSeen}

-- a shelf of these parts
abbrev pub shelf_in : Rows → List Prepared → List Sender → Shelf
shelf_in rows prepared senders = record { rows = rows; prepared = prepared; senders = senders }

-- the record of a message of sender n, but for a Prepare
abbrev pub entry_of : Rights → ℕ → Message → Shelf → Option Entry
entry_of rights n (m.Commit t) shelf = if is_worker rights n && (t.worker == n) && is_prepared t shelf then Some (e.Applied t) else None
entry_of rights n (m.Abort t) shelf = if is_worker rights n && (t.worker == n) && is_prepared t shelf then Some (e.Released t) else None
entry_of rights n (m.Boot b) shelf = if is_worker rights n && nat_lt (boot_of shelf n) b then Some (e.BootSeen n b) else None
entry_of rights n _ shelf = None

-- what is kept of a message that leaves no record
abbrev pub remembered : Message → StoreSeen → StoreSeen
remembered (m.Prepare t items) x = record x { asked = Some (t, items) }
remembered _ x = x

-- the Fetch that sender n may ask
abbrev pub fetch_of : Rights → ℕ → Message → Option (Tid × Oid)
fetch_of rights n (m.Fetch t o) = if is_worker rights n && (t.worker == n) then Some (t, o) else None
fetch_of rights n _ = None

-- what a worker's Commit leaves of what is prepared
abbrev pub left_behind : ℕ → Message → List Prepared → Rows
left_behind n (m.Commit t) ps = if t.worker == n then flat_map (λ p. left_by p.1) (prepared_as t ps) else []
left_behind n _ ps = []
