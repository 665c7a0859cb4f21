-- The third rule of names: a principal isn't of the kind that its place needs. It speaks of declared names alone.
use Rattle.std.specs.Prelude.{Bool, List, [], ◌∷◌, ◌++◌, Option, Some, None, if◌then◌else◌}
use Rattle.std.specs.List.{flat_map}
use Rattle.fab_tree.specs.declared.name.Name.{Name}
use Rattle.fab_tree.specs.declared.declaration.Role.{Role}
use Rattle.fab_tree.specs.declared.declaration.Node.{Node}
use Rattle.fab_tree.specs.declared.statement.Right.{Right}
use Rattle.fab_tree.specs.declared.statement.Right.TheVariants as rights
use Rattle.fab_tree.specs.declared.program.Method.{Method}
use Rattle.fab_tree.specs.declared.event.PostLine.{PostLine}
use Rattle.fab_tree.specs.declared.event.CrashLine.{CrashLine}
use Rattle.fab_tree.specs.declared.event.Step.{Step}
use Rattle.fab_tree.specs.declared.event.Step.TheVariants as steps
use Rattle.fab_tree.specs.declared.event.Event.{Event}
use Rattle.fab_tree.specs.declared.event.Event.TheVariants as events
use Rattle.fab_tree.specs.declared.start.Root.{Root}
use Rattle.fab_tree.specs.declared.start.Session.{Session}
use Rattle.fab_tree.specs.declared.start.Start.{Start}
use Rattle.fab_tree.specs.Limits.{is_node}
use Rattle.fab_language.specs.declared.rule.Fault.{Fault}
use Rattle.fab_language.specs.declared.rule.NameRule.TheVariants as rule
use Rattle.fab_language.specs.Heads.{Head, declare, assign, write, call, test, atomic, result, heads_of}
use Rattle.fab_language.specs.Names.{named, node_name, is_store, is_hostile, is_honest, is_honest_worker}

-- what a name stands for is of this kind, or it is a fault
abbrev pub if_of_kind : (Role → Bool) → Option Node → Name → List Fault
if_of_kind fits None x = []
if_of_kind fits (Some n) x = if fits n.role then [] else record { rule = rule.Node; at = x.at } ∷ []

module _ (s : Start) where
  abbrev pub need : (Role → Bool) → Name → List Fault
  need fits x = if_of_kind fits (named node_name s.program.nodes x) x

  -- a new object is at a store
  abbrev pub in_right : Right → List Fault
  in_right (rights.Plain e) = []
  in_right (rights.Call m es) = []
  in_right (rights.New c st es at) = need is_store st
  in_right (rights.Downgrade d e x y at) = []

  abbrev pub in_head : Head → List Fault
  in_head (declare t x l e) = []
  in_head (assign x r) = in_right r
  in_head (write x y e) = []
  in_head (call m es) = []
  in_head (test e) = []
  in_head (atomic l) = []
  in_head (result x) = []

  abbrev pub in_method : Method → List Fault
  in_method m = flat_map (λ h. in_head h.1) (heads_of m)

  abbrev pub in_root : Root → List Fault
  in_root x = need is_store x.store

  abbrev pub in_session : Session → List Fault
  in_session x = need is_honest_worker x.worker

  -- a post is from a hostile node to an honest one
  abbrev pub in_post : PostLine → List Fault
  in_post x = need is_hostile x.sender ++ need is_honest x.receiver

  abbrev pub in_crash : CrashLine → List Fault
  in_crash x = need is_honest x.node

  -- an honest worker begins, resumes and is idle, an honest node is delivered to and recovers; who sent, and whom one waits for, is any node
  abbrev pub in_step : Step → List Fault
  in_step (steps.Begin x) = need is_honest_worker x
  in_step (steps.Resume x) = need is_honest_worker x
  in_step (steps.Deliver x y) = need is_node x ++ need is_honest y
  in_step (steps.Idle x y) = need is_honest_worker x ++ need is_node y
  in_step (steps.Recover x) = need is_honest x

  abbrev pub in_event : Event → List Fault
  in_event (events.Step x) = in_step x
  in_event (events.CrashIn n x) = in_step x
  in_event (events.Post x) = need is_hostile x
  in_event (events.Crash x) = need is_honest x

  -- the names of principals of another kind than their places need
  abbrev pub misplaced : List Fault
  misplaced =
      flat_map in_method s.program.methods
      ++ flat_map in_root s.roots
      ++ flat_map in_session s.sessions
      ++ flat_map in_post s.posts
      ++ flat_map in_crash s.crashes
      ++ flat_map in_event s.schedule
