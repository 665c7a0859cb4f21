-- What a request comes to over the objects that were answered, each with its version.
use Rattle.std.specs.Prelude.{ℕ, List}
use Rattle.fab_base.specs.declared.object.Oid.{Oid}
use Rattle.fab_base.specs.FlatMap.{map_of}
use Rattle.fab_language.specs.Heaps.{Heap}
use Rattle.fab_language.specs.Meaning.{Meant, meaning}
use Rattle.fab_language.specs.declared.ending.Ending.{Ending}
use Rattle.fab_language.specs.declared.ending.Ending.TheVariants as e
use Rattle.fab_nested.specs.Nested.{objects_of, versions_of, writes_in, creates_in}
use Rattle.fab_eval.specs.declared.job.Job.{Job}
use Rattle.fab_eval.specs.declared.job.Outcome.{Outcome}
use Rattle.fab_eval.specs.declared.job.Outcome.TheVariants.{Need, Ended, Failed, Stopped}

-- what a request comes to that ends so over answers of these versions and leaves this heap
abbrev pub outcome_at : List (Oid × ℕ) → Ending → Heap → Outcome
outcome_at versions (e.Ended v) h = Ended v (writes_in versions h.written h.rows) (creates_in h.made h.rows)
outcome_at versions e.Failed h = Failed
outcome_at versions (e.Stopped stop) h = Stopped stop
outcome_at versions (e.Missing site o) h = Need site o

abbrev pub outcome_by : List (Oid × ℕ) → Meant → Outcome
outcome_by versions meant = outcome_at versions meant.ending (record { rows = meant.map; written = meant.written; made = meant.made })

-- the meaning of a job's request over its answers, in its attempt and with 1,000,000 of fuel
abbrev pub meant_of : Job → Meant
meant_of job = meaning job.program.value (map_of (objects_of job.answers)) job.request job.tid 1000000

abbrev pub outcome_of : Job → Outcome
outcome_of job = outcome_by (versions_of job.answers) (meant_of job)
