-- The two ends may go to another thread. A type has two lemmas where it stands in another one as a field.
use denote.RattleType.{RattleType}
use denote.Param.Send.{IsSend, IsSync, sendable}
use Rattle.std.proofs.Crossing.{crosses, frees, send, sync}
use Rattle.std.specs.contracts.alloc.Global as Heap
use Rattle.std.specs.contracts.impls.GlobalAllocator.TheImpl.{ghosts}
use Rattle.crossbeam_utils.specs.declared.rule.Protocol as Protocol
use Rattle.atomic_table.specs.declared.shared.TableRule as TableRule
use Rattle.atomic_table.specs.contracts.owned.Table as Owned
use Rattle.atomic_table.specs.contracts.send_lease.SendLease as SendLease
use Rattle.atomic_table.proofs.send_lease.SendLease.TheSendSync as Lease
use Rattle.atomic_table.proofs.shared.Seat.TheSendSync as Seat
use Rattle.atomic_table.proofs.shared.Shared.TheSendSync as Shared
use Rattle.left_right.specs.contracts.part.Deed as DeedRow
use Rattle.left_right.proofs.part.Part.TheSendSync as Part
use Rattle.left_right.proofs.part.Deed.TheSendSync as Deed
use Rattle.left_right.specs.contracts.reader.Reader as Reader
use Rattle.left_right.specs.contracts.reader.Factory as Factory
use Rattle.left_right.specs.contracts.desk.Desk as Desk
use Rattle.fab_versions.proofs.table.Table.TheSendSync as Table
use Rattle.fab_snap.specs.contracts.state.Snap as Snap
use Rattle.fab_snap.specs.contracts.state.Change as Change
use Rattle.fab_snap.specs.contracts.pair.SnapReader as SnapReader
use Rattle.fab_snap.specs.contracts.pair.SnapWriter as SnapWriter
use Rattle.fab_snap.proofs.write_set.WriteSet.TheSendSync as WriteSet

pub Snap-send : IsSend Snap.the_row
Snap-send = search (sendable, crosses, Table.the_send) depth 30 fits 5000

pub Snap-sync : IsSync Snap.the_row
Snap-sync = search (sendable, crosses, Table.the_sync) depth 30 fits 5000

pub Change-send : IsSend Change.the_row
Change-send = search (sendable, crosses, WriteSet.the_field_send) depth 30 fits 5000

-- ---- what the ends consist of, over the heap

pub Lease-send : (T : RattleType) → IsSend (SendLease.the_row T Heap.the_row ghosts)
Lease-send T = Lease.the_send T Heap.the_row ghosts send frees

pub Lease-sync : (T : RattleType) → IsSync (SendLease.the_row T Heap.the_row ghosts)
Lease-sync T = Lease.the_sync T Heap.the_row ghosts send frees

pub Deed-send : (T : RattleType) → IsSend T → IsSend (DeedRow.the_row T Heap.the_row ghosts)
Deed-send T s = Deed.the_send T Heap.the_row ghosts s send frees

pub Owned-send : (S V K P : RattleType) (g : TableRule.Ghosts P.Denot S.Denot V.Denot K.Denot) → IsSend S → IsSend (Owned.the_row S V K P Heap.the_row g ghosts)
Owned-send S V K P g s = search (sendable, crosses, Shared.the_send, Lease-send, send) depth 30 fits 5000

pub Owned-sync : (S V K P : RattleType) (g : TableRule.Ghosts P.Denot S.Denot V.Denot K.Denot) → IsSend S → IsSync (Owned.the_row S V K P Heap.the_row g ghosts)
Owned-sync S V K P g s = search (sendable, crosses, Shared.the_sync, Lease-sync, sync) depth 30 fits 5000

pub Factory-field-send : (T V P : RattleType) (g : Protocol.Ghosts P.Denot T.Denot V.Denot) → IsSync T → IsSend (Factory.the_field T V P Heap.the_row g ghosts).row
Factory-field-send T V P g y = search (sendable, crosses, Owned-send, Owned-sync, Part.the_send) depth 30 fits 5000

pub Reader-field-send : (T V P : RattleType) (g : Protocol.Ghosts P.Denot T.Denot V.Denot) → IsSync T → IsSend (Reader.the_field T V P Heap.the_row g ghosts).row
Reader-field-send T V P g y = search (sendable, crosses, Factory-field-send, Seat.the_send, Part.the_send) depth 30 fits 5000

pub Desk-field-send : (T V P : RattleType) (g : Protocol.Ghosts P.Denot T.Denot V.Denot) → IsSend T → IsSync T → IsSend (Desk.the_field T V P Heap.the_row g ghosts).row
Desk-field-send T V P g s y = search (sendable, crosses, Factory-field-send, Seat.the_send, Part.the_send, Deed-send) depth 30 fits 5000

-- ---- the two ends

pub SnapReader-send : IsSend SnapReader.the_row
SnapReader-send = search (sendable, crosses, Reader-field-send, Snap-sync) depth 30 fits 5000

pub SnapWriter-send : IsSend SnapWriter.the_row
SnapWriter-send = search (sendable, crosses, Desk-field-send, Change-send, WriteSet.the_send, Snap-send, Snap-sync) depth 30 fits 5000
