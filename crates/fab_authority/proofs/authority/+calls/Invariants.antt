use Rattle.std.proofs.Common.{◌≡◌, drop}
use Rattle.fab_authority.specs.Called.{block_calls, with_calls}
use Rattle.fab_authority.proofs.authority.+calls.Given as goal

abbrev pub invariant-put_calls-loop-statement : goal.invariant-put_calls-loop-statement
invariant-put_calls-loop-statement l = with_calls l.out.items l.caller (block_calls (drop l.statement-index l.statements)) ≡ with_calls l.initial.out.items l.caller (block_calls l.statements)
