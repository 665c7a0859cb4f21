-- What is run, and what it means.
use Rattle.std.specs.Prelude.{ℕ, List}
use Rattle.fab_base.specs.declared.object.Object.{Object}
use Rattle.fab_base.specs.declared.object.Oid.{Oid}
use Rattle.fab_base.specs.declared.object.Tid.{Tid}
use Rattle.fab_base.specs.declared.object.Value.{Value}
use Rattle.fab_base.specs.FlatMap.{FlatMap, put}
use Rattle.fab_places.specs.declared.masks.Seen.{Seen}
use Rattle.fab_rights.specs.Computed.{has_bit}
use Rattle.fab_tree.specs.declared.resolved.Request.{Request}
use Rattle.fab_tree.specs.declared.resolved.Resolved.{Resolved}
use Rattle.fab_language.specs.Meaning.{Meant}
use Rattle.fab_erasure.specs.Erased.{erased}

-- a request in a program, for who sees these labels and classes, over what is known and given, in an attempt and with so much fuel
pub record Job : Type 0 where
  pub program : Resolved
  pub seen : Seen
  pub known : FlatMap
  pub given : List Value
  pub request : Request
  pub tid : Tid
  pub fuel : ℕ

abbrev pub meant_of : Job → Meant
meant_of job = erased (has_bit job.seen.labels) (has_bit job.seen.classes) job.program job.known job.request job.tid job.fuel job.given

-- the same job with one object more
abbrev pub answered : Oid → Object → Job → Job
answered o x job = record job { known = put o x job.known }
