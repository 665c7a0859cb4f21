-- Bundles, nodes and jobs may go to another thread, and so may an exchange; bundles may be shared. A type has two lemmas where it stands in another one as a field.
use denote.RattleType.{RattleType}
use denote.Param.Send.{IsSend, IsSync, sendable}
use Rattle.std.proofs.Crossing.{crosses}
use Rattle.fab_base.proofs.object.Object.TheSendSync as Object
use Rattle.fab_base.proofs.object.Oid.TheSendSync as Oid
use Rattle.fab_base.proofs.object.Value.TheSendSync as Value
use Rattle.fab_tree.proofs.resolved.Statement.TheLaws.TheKnot as statement
use Rattle.fab_tree.proofs.resolved.Form.TheLaws.TheKnot as expression
use Rattle.fab_tree.proofs.resolved.Principal.TheSendSync as Principal
use Rattle.fab_tree.proofs.resolved.NamedLabel.TheSendSync as NamedLabel
use Rattle.fab_tree.proofs.resolved.Class.TheSendSync as Class
use Rattle.fab_tree.proofs.resolved.Root.TheSendSync as Root
use Rattle.fab_tree.proofs.resolved.Session.TheSendSync as Session
use Rattle.fab_tree.proofs.resolved.Local.TheSendSync as Local
use Rattle.fab_tree.proofs.resolved.Post.TheSendSync as Post
use Rattle.fab_tree.proofs.resolved.Crash.TheSendSync as Crash
use Rattle.fab_tree.proofs.resolved.Event.TheSendSync as Event
use Rattle.fab_tree.specs.contracts.resolved.Return as Return
use Rattle.fab_tree.specs.contracts.resolved.Right as Right
use Rattle.fab_tree.specs.contracts.resolved.Statement as Statement
use Rattle.fab_tree.specs.contracts.resolved.Method as Method
use Rattle.fab_tree.specs.contracts.resolved.Resolved as Resolved
use Rattle.fab_eval.proofs.job.Outcome.TheSendSync as Outcome
use Rattle.fab_eval.specs.contracts.job.Job as Job
use Rattle.fab_eval.specs.contracts.done.Done as Done
use Rattle.fab_rights.proofs.rights.Rights.TheSendSync as Rights
use Rattle.fab_map.proofs.map.ObjectMap.TheSendSync as ObjectMap
use Rattle.fab_session.proofs.session.Session.TheSendSync as Requests
use Rattle.fab_protocol.proofs.parts.Decision.TheSendSync as Decision
use Rattle.fab_cache.proofs.caches.Caches.TheSendSync as Caches
use Rattle.fab_worker.proofs.stage.Stage.TheSendSync as Stage
use Rattle.fab_worker.specs.contracts.worker.Worker as Worker
use Rattle.fab_store.proofs.store.Store.TheSendSync as Store
use Rattle.fab_device.specs.declared.traits.Journal as Journal
use Rattle.fab_queues.proofs.queues.Queues.TheSendSync as Queues
use Rattle.fab_net.proofs.note.Logged.TheSendSync as Logged
use Rattle.fab_node.specs.contracts.given.Given as Given
use Rattle.fab_node.specs.contracts.role.Role as Role
use Rattle.fab_node.specs.contracts.node.Node as Node
use Rattle.fab_core.specs.contracts.core_state.Core as Core
use Rattle.fab_exchange.proofs.counting.Count.TheSendSync as Count
use Rattle.fab_exchange.specs.contracts.exchange.Exchange as Exchange

-- ---- bundles

pub Return-send : IsSend Return.the_row
Return-send = search (sendable, crosses, expression.crosses) depth 30 fits 5000

pub Right-send : IsSend Right.the_row
Right-send = search (sendable, crosses, expression.crosses) depth 30 fits 5000

pub Statement-send : IsSend Statement.the_row
Statement-send = search (sendable, crosses, statement.crosses, expression.crosses) depth 30 fits 5000

pub Method-send : IsSend Method.the_row
Method-send = search (sendable, crosses, Statement-send, Local.the_send, Return-send) depth 30 fits 5000

pub Resolved-send : IsSend Resolved.the_row
Resolved-send = search (sendable, crosses, Principal.the_send, NamedLabel.the_send, Class.the_send, Root.the_send, Session.the_send, Post.the_send, Crash.the_send, Event.the_send, Method-send) depth 30 fits 5000

pub Return-sync : IsSync Return.the_row
Return-sync = search (sendable, crosses, expression.crosses) depth 30 fits 5000

pub Right-sync : IsSync Right.the_row
Right-sync = search (sendable, crosses, expression.crosses) depth 30 fits 5000

pub Statement-sync : IsSync Statement.the_row
Statement-sync = search (sendable, crosses, statement.crosses, expression.crosses) depth 30 fits 5000

pub Method-sync : IsSync Method.the_row
Method-sync = search (sendable, crosses, Statement-sync, Local.the_sync, Return-sync) depth 30 fits 5000

pub Resolved-sync : IsSync Resolved.the_row
Resolved-sync = search (sendable, crosses, Principal.the_sync, NamedLabel.the_sync, Class.the_sync, Root.the_sync, Session.the_sync, Post.the_sync, Crash.the_sync, Event.the_sync, Method-sync) depth 30 fits 5000

-- ---- jobs, and what they come to

pub Job-send : IsSend Job.the_row
Job-send = search (sendable, crosses, Resolved-send, Resolved-sync, Oid.the_send, Object.the_send) depth 30 fits 5000

pub Job-field-send : IsSend (Job.the_field).row
Job-field-send = search (sendable, crosses, Resolved-send, Resolved-sync, Oid.the_send, Object.the_send) depth 30 fits 5000

pub Done-send : IsSend Done.the_row
Done-send = search (sendable, crosses, Job-field-send, Outcome.the_field_send, Value.the_send, Oid.the_send) depth 30 fits 5000

-- ---- nodes

pub Given-send : IsSend Given.the_row
Given-send = search (sendable, crosses, Resolved-send, Resolved-sync, Rights.the_field_send, ObjectMap.the_send) depth 30 fits 5000

pub Worker-send : IsSend Worker.the_row
Worker-send = search (sendable, crosses, Resolved-send, Resolved-sync, Rights.the_field_send, Requests.the_send, Decision.the_send, Caches.the_send, Stage.the_field_send, Oid.the_send, Object.the_send) depth 30 fits 5000

pub Role-send : IsSend Role.the_row
Role-send = search (sendable, crosses, Store.the_send, Worker-send) depth 30 fits 5000

pub Role-field-send : IsSend (Role.the_field).row
Role-field-send = search (sendable, crosses, Store.the_send, Worker-send) depth 30 fits 5000

pub Node-send : (J : RattleType) (g : Journal.Ghosts J.Denot) → IsSend J → IsSend (Node.the_row J g)
Node-send J g s = search (sendable, crosses, Role-field-send) depth 30 fits 5000

pub Core-send : (J : RattleType) (g : Journal.Ghosts J.Denot) → IsSend J → IsSend (Core.the_row J g)
Core-send J g s = search (sendable, crosses, Given-send, Node-send, Queues.the_send, Logged.the_send) depth 30 fits 5000

-- ---- exchanges

pub Exchange-send : (J : RattleType) (g : Journal.Ghosts J.Denot) → IsSend J → IsSend (Exchange.the_row J g)
Exchange-send J g s = search (sendable, crosses, Core-send, Count.the_send) depth 30 fits 5000
