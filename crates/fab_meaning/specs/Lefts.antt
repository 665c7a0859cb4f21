-- What is left of a job at a point.
use Rattle.std.specs.Prelude.{◌≡◌, List, Option}
use Rattle.fab_base.specs.declared.object.Value.{Value}
use Rattle.fab_base.specs.FlatMap.{FlatMap}
use Rattle.fab_rights.specs.Computed.{has_bit}
use Rattle.fab_tree.specs.declared.resolved.Method.{Method}
use Rattle.fab_language.specs.Meaning.{Run}
use Rattle.fab_left.specs.ErasedActs.{asked, meanings}
use Rattle.fab_left.specs.Left.{AllStem, IsBegun, Means, at_start}
use Rattle.fab_stack.specs.declared.stack.Entry.{Entry}
use Rattle.fab_stack.specs.Points.{Point}
use Rattle.fab_stack.specs.Stacks.{entries_of}
use Rattle.fab_stack.specs.Stepping.{IsMatched}
use Rattle.fab_meaning.specs.Jobs.{Job}

-- what the parts of its program mean in its attempt
abbrev pub means_in : Job → Means
means_in job = meanings (has_bit job.seen.labels) (has_bit job.seen.classes) job.program job.tid

-- what its request does over a map
abbrev pub asked_by : Job → FlatMap → Run (Option Value)
asked_by job = asked (has_bit job.seen.labels) (has_bit job.seen.classes) job.program job.tid job.request job.fuel job.given

-- a stack and a state have all that is left of a job, behind its method, over whatever more objects that are new
pub record IsLeftOf (job : Job) (first : Method) (items : List Entry) (p : Point) : Type 0 where
  pub begun : IsBegun (means_in job) (at_start first) job.tid (asked_by job) job.known (entries_of items p.base.saved) p.state
  pub stem : AllStem job.tid job.known (entries_of items p.base.saved) p.state
  pub matched : IsMatched items p
  pub tid : p.base.tid ≡ job.tid
