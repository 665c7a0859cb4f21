-- What is left of a job at a point.
use Rattle.std.specs.Prelude.{◌≡◌, List, Option}
use Rattle.fab_base.specs.declared.object.Value.{Value}
use Rattle.fab_base.specs.FlatMap.{FlatMap, map_of}
use Rattle.fab_tree.specs.declared.resolved.Method.{Method}
use Rattle.fab_language.specs.Meaning.{Run}
use Rattle.fab_left.specs.Acts.{meanings, asked}
use Rattle.fab_left.specs.Left.{AllStem, IsBegun, at_start}
use Rattle.fab_nested.specs.Nested.{objects_of, versions_of}
use Rattle.fab_stack.specs.declared.stack.Entry.{Entry}
use Rattle.fab_stack.specs.Points.{Point}
use Rattle.fab_stack.specs.Stacks.{entries_of}
use Rattle.fab_stack.specs.Stepping.{IsMatched}
use Rattle.fab_eval.specs.declared.job.Job.{Job}

-- the objects of a job's answers
abbrev pub known_of : Job → FlatMap
known_of job = map_of (objects_of job.answers)

-- what a job's request does over a map, in its attempt and with 1,000,000 of fuel
abbrev pub asked_by : Job → FlatMap → Run (Option Value)
asked_by job = asked job.program.value job.tid job.request 1000000

-- a stack and a state have all that is left of a job, behind its method, over whatever more objects that are new
pub record IsLeftOf (job : Job) (first : Method) (items : List Entry) (p : Point) : Type 0 where
  pub begun : IsBegun (meanings job.program.value job.tid) (at_start first) job.tid (asked_by job) (known_of job) (entries_of items p.base.saved) p.state
  pub stem : AllStem job.tid (known_of job) (entries_of items p.base.saved) p.state
  pub matched : IsMatched items p
  pub tid : p.base.tid ≡ job.tid
  pub versions : p.base.versions ≡ versions_of job.answers
