use Rattle.std.proofs.Common.{◌≡◌, ◌++◌, drop}
use Rattle.fab_record.specs.Scopes.{hidden_block}
use Rattle.fab_record.proofs.hidden.+blocks.Given as goal

abbrev pub invariant-hide_block-loop-statement : goal.invariant-hide_block-loop-statement
invariant-hide_block-loop-statement l =
    l.out ++ hidden_block l.scope (drop l.statement-index l.statements) l.seen ≡ l.initial.out ++ hidden_block l.scope l.statements l.seen
