-- Jobs and what they come to may be shared by threads and go to another one. A type has two lemmas where it stands in another one as a field.
use denote.Param.Send.{IsSend, IsSync, sendable}
use Rattle.std.proofs.Crossing.{crosses}
use Rattle.fab_base.proofs.object.Object.TheSendSync as Object
use Rattle.fab_base.proofs.object.Oid.TheSendSync as Oid
use Rattle.fab_base.proofs.object.Value.TheSendSync as Value
use Rattle.fab_tree.proofs.resolved.Statement.TheLaws.TheKnot as statement
use Rattle.fab_tree.proofs.resolved.Form.TheLaws.TheKnot as expression
use Rattle.fab_tree.proofs.resolved.Principal.TheSendSync as Principal
use Rattle.fab_tree.proofs.resolved.NamedLabel.TheSendSync as NamedLabel
use Rattle.fab_tree.proofs.resolved.Class.TheSendSync as Class
use Rattle.fab_tree.proofs.resolved.Root.TheSendSync as Root
use Rattle.fab_tree.proofs.resolved.Session.TheSendSync as Session
use Rattle.fab_tree.proofs.resolved.Local.TheSendSync as Local
use Rattle.fab_tree.proofs.resolved.Post.TheSendSync as Post
use Rattle.fab_tree.proofs.resolved.Crash.TheSendSync as Crash
use Rattle.fab_tree.proofs.resolved.Event.TheSendSync as Event
use Rattle.fab_tree.specs.contracts.resolved.Return as Return
use Rattle.fab_tree.specs.contracts.resolved.Statement as Statement
use Rattle.fab_tree.specs.contracts.resolved.Method as Method
use Rattle.fab_tree.specs.contracts.resolved.Resolved as Resolved
use Rattle.fab_eval.proofs.job.Outcome.TheSendSync as Outcome
use Rattle.fab_eval.specs.contracts.job.Job as Job
use Rattle.fab_eval.specs.contracts.done.Done as Done
use Rattle.fab_pool.specs.contracts.slot.Slot as Slot
use Rattle.fab_pool.specs.contracts.pool.Placed as Placed

-- ---- bundles

Return-send : IsSend Return.the_row
Return-send = search (sendable, crosses, expression.crosses) depth 30 fits 5000

Statement-send : IsSend Statement.the_row
Statement-send = search (sendable, crosses, statement.crosses, expression.crosses) depth 30 fits 5000

Method-send : IsSend Method.the_row
Method-send = search (sendable, crosses, Statement-send, Local.the_send, Return-send) depth 30 fits 5000

Resolved-send : IsSend Resolved.the_row
Resolved-send = search (sendable, crosses, Principal.the_send, NamedLabel.the_send, Class.the_send, Root.the_send, Session.the_send, Post.the_send, Crash.the_send, Event.the_send, Method-send) depth 30 fits 5000

Return-sync : IsSync Return.the_row
Return-sync = search (sendable, crosses, expression.crosses) depth 30 fits 5000

Statement-sync : IsSync Statement.the_row
Statement-sync = search (sendable, crosses, statement.crosses, expression.crosses) depth 30 fits 5000

Method-sync : IsSync Method.the_row
Method-sync = search (sendable, crosses, Statement-sync, Local.the_sync, Return-sync) depth 30 fits 5000

Resolved-sync : IsSync Resolved.the_row
Resolved-sync = search (sendable, crosses, Principal.the_sync, NamedLabel.the_sync, Class.the_sync, Root.the_sync, Session.the_sync, Post.the_sync, Crash.the_sync, Event.the_sync, Method-sync) depth 30 fits 5000

-- ---- jobs, and what they come to

Job-field-send : IsSend (Job.the_field).row
Job-field-send = search (sendable, crosses, Resolved-send, Resolved-sync, Oid.the_send, Object.the_send) depth 30 fits 5000

Job-field-sync : IsSync (Job.the_field).row
Job-field-sync = search (sendable, crosses, Resolved-send, Resolved-sync, Oid.the_sync, Object.the_sync) depth 30 fits 5000

Done-sync : IsSync Done.the_row
Done-sync = search (sendable, crosses, Job-field-sync, Outcome.the_field_sync, Value.the_sync, Oid.the_sync) depth 30 fits 5000

Done-field-send : IsSend (Done.the_field).row
Done-field-send = search (sendable, crosses, Job-field-send, Outcome.the_field_send, Value.the_send, Oid.the_send) depth 30 fits 5000

-- ---- slots, and what is brought back

pub Slot-sync : IsSync Slot.the_row
Slot-sync = search (sendable, crosses, Job-field-sync, Done-sync) depth 30 fits 5000

pub Placed-send : IsSend Placed.the_row
Placed-send = search (sendable, crosses, Done-field-send) depth 30 fits 5000
