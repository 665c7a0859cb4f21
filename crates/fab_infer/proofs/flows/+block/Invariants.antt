use Rattle.std.proofs.Common.{◌≡◌, drop}
use Rattle.fab_infer.specs.Shown.{block_flows}
use Rattle.fab_infer.proofs.Gathering.{with_flows}
use Rattle.fab_infer.proofs.flows.+block.Given as goal

abbrev pub invariant-put_block-loop-statement : goal.invariant-put_block-loop-statement
invariant-put_block-loop-statement l = with_flows l.scope.count l.flows (block_flows l.scope l.pc (drop l.statement-index l.statements)) ≡ with_flows l.scope.count l.initial.flows (block_flows l.scope l.pc l.statements)
