-- Outcomes that a worker's own record tells.
use Rattle.fab_net.specs.declared.outcome.ReqOutcome.{ReqOutcome}
use Rattle.fab_net.specs.declared.outcome.ReqOutcome.TheVariants.{Committed, NodeDown, Unfinished}

-- an outcome without a commit that a record can close a request with
abbrev pub HasRecord : ReqOutcome → Type 0
HasRecord (Committed t value) = ⊥
HasRecord NodeDown = ⊥
HasRecord Unfinished = ⊥
HasRecord _ = Unit {0}
