-- What is read of nodes, queues and posts: the same as is said of the machine, by what the code has.
use Rattle.std.specs.Prelude.{◌≡◌, ℕ, ◌+◌, Bool, true, false, not, ◌&&◌, ◌||◌, ◌==◌, nat_lt, if◌then◌else◌, List, [], ◌∷◌, map, drop, length, Option, Some, None}
use Rattle.std.specs.Prelude.{is_some, IsFalse, slice_index_or}
use Rattle.std.specs.List.{filter, list_any, list_all, range_with_len}
use Rattle.fab_base.specs.declared.object.Object.{Object}
use Rattle.fab_base.specs.declared.object.Oid.{Oid}
use Rattle.fab_base.specs.declared.object.Tid.{Tid}
use Rattle.fab_net.specs.declared.event.Inner.{Inner}
use Rattle.fab_net.specs.declared.event.Inner.TheVariants as i
use Rattle.fab_net.specs.declared.outcome.ReqOutcome.{ReqOutcome}
use Rattle.fab_net.specs.declared.outcome.ReqOutcome.TheVariants.{NodeDown, Unfinished}
use Rattle.fab_tree.specs.declared.resolved.Resolved.{Resolved}
use Rattle.fab_rights.specs.Computed.{is_node, nodes_in}
use Rattle.fab_protocol.specs.Stores.{Prepared, behind}
use Rattle.fab_protocol.specs.Versions.{Rows, is_tid, left_by}
use Rattle.fab_session.specs.Sittings as sittings
use Rattle.fab_attempts.specs.Sessions.{requests_of}
use Rattle.fab_eval.specs.declared.job.Job.{Job}
use Rattle.fab_store.specs.Stock.{Stock}
use Rattle.fab_worker.specs.Models.{IsJobOf, WorkerModel}
use Rattle.fab_world.specs.Workers.{Evaluating}
use Rattle.fab_queues.specs.Channels.{Network, queue_of}
use Rattle.fab_world.specs.Machine.{is_empty, is_idle, is_evaluating, lacks}
use Rattle.fab_node.specs.declared.role.Role.{Role}
use Rattle.fab_node.specs.declared.role.Role.TheVariants as roles
use Rattle.fab_node.specs.Standing.{GivenModel, NodeModel}
use Rattle.fab_nodes.specs.Slots.{slot}
use Rattle.fab_nodes.specs.Transit.{is_up_in}
use Rattle.fab_nodes.specs.Under.{last_under}

-- ---- one node

abbrev pub begins_as : Role → Bool
begins_as (roles.Worker w) = is_idle w.attempt.phase && nat_lt (length w.kept.outcomes) (length (requests_of w.program w.node))
begins_as (roles.Store s) = false

abbrev pub evaluates_as : Role → Bool
evaluates_as (roles.Worker w) = is_evaluating w.attempt.phase
evaluates_as (roles.Store s) = false

abbrev pub lacks_as : ℕ → Role → Bool
lacks_as s (roles.Worker w) = lacks s w.attempt.phase
lacks_as s (roles.Store x) = false

-- it is up, and so
abbrev pub is_up_and : (Role → Bool) → Option NodeModel → Bool
is_up_and test None = false
is_up_and test (Some x) = x.up && test x.role

abbrev pub recovers_in : Option NodeModel → Bool
recovers_in None = false
recovers_in (Some x) = not x.up && not x.failed

-- ---- all nodes

abbrev pub waits_in : Network → ℕ → ℕ → Bool
waits_in queues a b = not (is_empty (queue_of queues a b))

abbrev pub place_of : List ℕ → ℕ → ℕ
place_of places h = slice_index_or places h 0

-- a post of this node stands at its place or behind it
abbrev pub has_post : Resolved → List ℕ → ℕ → Bool
has_post program places h = list_any (λ p. p.sender == h) (drop (place_of places h) program.posts)

-- no message of a node waits for it
abbrev pub none_wait_in : GivenModel → Network → ℕ → Bool
none_wait_in g queues n = list_all (λ a. is_empty (queue_of queues a n)) (nodes_in g.rights)

-- of a hostile node no post is left; an honest one has failed for good, or is up, doesn't evaluate, and has heard all
abbrev pub settles_in : GivenModel → Network → List ℕ → ℕ → Option NodeModel → Bool
settles_in g queues places n None = not (has_post g.program places n)
settles_in g queues places n (Some x) = x.failed || (x.up && not (evaluates_as x.role) && none_wait_in g queues n)

abbrev pub all_settled_in : GivenModel → List (Option NodeModel) → Network → List ℕ → Bool
all_settled_in g nodes queues places = list_all (λ n. settles_in g queues places n (slot nodes n)) (nodes_in g.rights)

abbrev pub may_in : GivenModel → List (Option NodeModel) → Network → List ℕ → Inner → Bool
may_in g nodes queues places (i.Begin n) = is_up_and begins_as (slot nodes n)
may_in g nodes queues places (i.Resume n) = is_up_and evaluates_as (slot nodes n)
may_in g nodes queues places (i.Deliver a b) = is_up_in (slot nodes b) && is_node g.rights a && waits_in queues a b
may_in g nodes queues places (i.Idle n s) = is_up_and (lacks_as s) (slot nodes n) && is_node g.rights s && all_settled_in g nodes queues places
may_in g nodes queues places (i.Recover n) = recovers_in (slot nodes n)

abbrev pub may_post_in : GivenModel → List (Option NodeModel) → List ℕ → ℕ → Bool
may_post_in g nodes places h = is_node g.rights h && not (is_some (slot nodes h)) && has_post g.program places h

-- ---- how requests ended, and what is held

abbrev pub ended_as : Role → ℕ → Option ReqOutcome
ended_as (roles.Worker w) request = sittings.outcome_of w.kept.outcomes request
ended_as (roles.Store s) request = None

abbrev pub outcome_by : Option ReqOutcome → Bool → ReqOutcome
outcome_by (Some outcome) failed = outcome
outcome_by None true = NodeDown
outcome_by None false = Unfinished

abbrev pub outcome_in : Option NodeModel → ℕ → ReqOutcome
outcome_in None request = Unfinished
outcome_in (Some x) request = outcome_by (ended_as x.role request) x.failed

-- of the first so many requests, in order
abbrev pub outcomes_in : Option NodeModel → ℕ → List ReqOutcome
outcomes_in node count = map (λ k. outcome_in node (k + 1)) (range_with_len 0 count)

abbrev pub decided_as : Role → Tid → Bool
decided_as (roles.Worker w) t = list_any (λ d. is_tid d.tid t) w.kept.decided
decided_as (roles.Store s) t = false

abbrev pub decided_by : Option NodeModel → Tid → Bool
decided_by None t = false
decided_by (Some x) t = decided_as x.role t

-- its worker decided for it
abbrev pub decided_in : List (Option NodeModel) → Tid → Bool
decided_in nodes t = decided_by (slot nodes t.worker) t

-- of some transactions those that their workers decided for
abbrev pub only_decided : List (Option NodeModel) → List Prepared → List Prepared
only_decided nodes ps = filter (λ p. decided_in nodes p.0) ps

-- what a transaction leaves under a name, if its worker decided for it
abbrev pub left_if_decided : List (Option NodeModel) → Prepared → Oid → Option (ℕ × Object)
left_if_decided nodes p o = if decided_in nodes p.0 then last_under (left_by p.1) o else None

abbrev pub stock_as : Role → Option Stock
stock_as (roles.Store s) = Some s
stock_as (roles.Worker w) = None

abbrev pub stock_of : Option NodeModel → Option Stock
stock_of None = None
stock_of (Some x) = stock_as x.role

abbrev pub held_by : List (Option NodeModel) → Option Stock → Rows
held_by nodes None = []
held_by nodes (Some s) = behind (only_decided nodes s.shelf.prepared) s.shelf.rows

-- what the node of this number holds
abbrev pub held_in : List (Option NodeModel) → ℕ → Rows
held_in nodes n = held_by nodes (stock_of (slot nodes n))

-- ---- jobs

-- a worker that evaluates, with its job
pub record IsTelling (w : WorkerModel) (job : Job) : Type 0 where
  pub evaluating : w.attempt.phase ≡ Evaluating
  pub is : IsJobOf job w

abbrev pub TellsJobOf : Role → Option Job → Type 0
TellsJobOf (roles.Worker w) None = IsFalse (is_evaluating w.attempt.phase)
TellsJobOf (roles.Worker w) (Some job) = IsTelling w job
TellsJobOf (roles.Store s) None = Unit {0}
TellsJobOf (roles.Store s) (Some job) = ⊥

-- of a node that is up
abbrev pub TellsWhere : Bool → Role → Option Job → Type 0
TellsWhere true role told = TellsJobOf role told
TellsWhere false role None = Unit {0}
TellsWhere false role (Some job) = ⊥

abbrev pub TellsJobAt : Option NodeModel → Option Job → Type 0
TellsJobAt None None = Unit {0}
TellsJobAt None (Some job) = ⊥
TellsJobAt (Some x) told = TellsWhere x.up x.role told
