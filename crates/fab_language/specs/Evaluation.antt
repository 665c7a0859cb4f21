-- What requests do one after the other over a flat map, and the text of an evaluation.
use Rattle.std.specs.Prelude.{ℕ, ◌==◌, if◌then◌else◌, List, [], ◌∷◌, ◌++◌, map, codes, flat_map, filter_map}
use Rattle.std.specs.Fmt.{decimal}
use Rattle.fab_base.specs.declared.object.Oid.{Oid}
use Rattle.fab_base.specs.declared.object.Object.{Object}
use Rattle.fab_base.specs.declared.object.Tid.{Tid}
use Rattle.fab_base.specs.FlatMap.{FlatMap, map_of}
use Rattle.fab_tree.specs.declared.resolved.Resolved.{Resolved}
use Rattle.fab_tree.specs.declared.resolved.Request.{Request}
use Rattle.fab_tree.specs.declared.resolved.Root.{Root}
use Rattle.fab_tree.specs.declared.resolved.Session.{Session}
use Rattle.fab_language.specs.declared.ending.Ending.{Ending}
use Rattle.fab_language.specs.declared.ending.Ending.TheVariants.{Ended, Failed, Stopped, Missing}
use Rattle.fab_language.specs.Meaning.{Meant, meaning}
use Rattle.fab_language.specs.Words.{line, spaced, node_text, class_text, name_text, value_text, result_text, stop_text}

-- ---- requests one after the other

-- the attempt of a request: its worker's, in boot 1, with the request's number
abbrev pub tid_of : Request → Tid
tid_of request = record { worker = request.worker; boot = 1; number = request.number }

-- a request has 1,000,000 of fuel
abbrev pub meant : Resolved → FlatMap → Request → Meant
meant program known request = meaning program known request (tid_of request) 1000000

-- the first of these maps behind a request that ended, the other behind any other ending
abbrev pub if_ended : Ending → FlatMap → FlatMap → FlatMap
if_ended (Ended result) after before = after
if_ended Failed after before = before
if_ended (Stopped stop) after before = before
if_ended (Missing site o) after before = before

-- the map behind a request
abbrev pub map_behind : Resolved → FlatMap → Request → FlatMap
map_behind program known request = if_ended (meant program known request).ending (meant program known request).map known

-- how requests ended, in their order, and the map behind the last
pub record Course : Type 0 where
  pub endings : List Ending
  pub map : FlatMap

abbrev pub preceded : Ending → Course → Course
preceded ending course = record { endings = ending ∷ course.endings; map = course.map }

-- each request runs over the map behind the one before
abbrev pub in_turn : Resolved → FlatMap → List Request → Course
in_turn program known [] = record { endings = []; map = known }
in_turn program known (request ∷ requests) = preceded (meant program known request).ending (in_turn program (map_behind program known request) requests)

-- ---- what a bundle has to do

-- the objects of roots, in the order of the text
abbrev pub rows_of : List Root → List (Oid × Object)
rows_of roots = map (λ x. (x.oid, record { class = x.oid.class; fields = x.values })) roots

-- the objects that there are from the start
abbrev pub map_at_start : Resolved → FlatMap
map_at_start r = map_of (rows_of r.roots)

-- the requests of a session, if it is this node's
abbrev pub asked_at : ℕ → Session → List Request
asked_at node x = if x.worker.number == node then map (λ a. a.request) x.requests else []

-- the numbers of the workers and stores, in the order of the text
abbrev pub nodes_of : Resolved → List ℕ
nodes_of r = filter_map (λ x. x.node) r.nodes

-- the requests of all sessions, in the order of their workers' numbers
abbrev pub requests_of : Resolved → List Request
requests_of r = flat_map (λ node. flat_map (asked_at node) r.sessions) (nodes_of r)

-- what these requests do one after the other, over the objects that there are from the start
abbrev pub course_of : Resolved → Course
course_of r = in_turn r (map_at_start r) (requests_of r)

-- ---- the text

-- `ended` and the result, `failed`, or `stopped` and the limit. The ending with a missing object has no words: where
-- each reference leads to an object, as in a bundle without faults, no object is missing and no request ends so.
abbrev pub ending_words : Resolved → Ending → List (List ℕ)
ending_words r (Ended result) = codes "ended" ∷ result_text r result ∷ []
ending_words r Failed = codes "failed" ∷ []
ending_words r (Stopped stop) = codes "stopped" ∷ stop_text stop ∷ []
ending_words r (Missing site o) = []

-- `outcome`, the worker, the request's number, and how it ended
abbrev pub outcome_line : Resolved → Request → Ending → List ℕ
outcome_line r request ending = line (codes "outcome" ++ spaced (node_text r request.worker ∷ decimal request.number ∷ ending_words r ending))

-- a line for each of these requests, with its ending
abbrev pub outcomes_text : Resolved → List Request → List Ending → List ℕ
outcomes_text r [] endings = []
outcomes_text r (request ∷ requests) [] = []
outcomes_text r (request ∷ requests) (ending ∷ endings) = outcome_line r request ending ++ outcomes_text r requests endings

-- `object`, the store, the name, the class and the values
abbrev pub object_line : Resolved → Oid × Object → List ℕ
object_line r row = line (codes "object" ++ spaced (node_text r row.0.store ∷ name_text r row.0 ∷ class_text r row.0.class ∷ map (value_text r) row.1.fields))

abbrev pub objects_text : Resolved → FlatMap → List ℕ
objects_text r m = flat_map (object_line r) m

-- the text of an evaluation: how each request ended, the objects behind the last in the order of their names, and that it ended
abbrev pub evaluation_text : Resolved → List ℕ
evaluation_text r = let c = course_of r in outcomes_text r (requests_of r) c.endings ++ objects_text r c.map ++ line (codes "end")
