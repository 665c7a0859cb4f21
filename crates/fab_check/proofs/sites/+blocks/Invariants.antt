use Rattle.std.proofs.Common.{◌≡◌, drop}
use Rattle.fab_labelling.specs.Sites.{block_sites}
use Rattle.fab_check.specs.Sited.{all_sited}
use Rattle.fab_check.proofs.sites.+blocks.Given as goal

abbrev pub invariant-put_block-loop-statement : goal.invariant-put_block-loop-statement
invariant-put_block-loop-statement l =
    all_sited l.out (block_sites l.names.classes.now l.names.locals.now (drop l.statement-index l.statements) l.pc) ≡ all_sited l.initial.out (block_sites l.names.classes.now l.names.locals.now l.statements l.pc)
