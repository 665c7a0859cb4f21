use Rattle.std.proofs.Common.{◌≡◌, ◌++◌, drop}
use Rattle.fab_rights.specs.Computed.{has_bit}
use Rattle.fab_trust.specs.Endorsing.{sites_let_in}
use Rattle.fab_trust.proofs.endorsing.put_sites.Given as goal

abbrev pub invariant-loop-row : goal.invariant-loop-row
invariant-loop-row l = l.out ++ sites_let_in (has_bit l.labels) (drop l.row-index l.rows) ≡ l.initial.out ++ sites_let_in (has_bit l.labels) l.rows
