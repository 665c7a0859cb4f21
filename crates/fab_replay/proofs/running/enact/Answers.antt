use Rattle.std.specs.declared.alloc.AllocError.{AllocError}
use Rattle.fab_replay.proofs.Behind.{came_cut, came_whole}
use Rattle.fab_replay.proofs.running.enact.Goals as goal

pub returns-in-Whole-clause-journals : goal.returns-in-Whole-clause-journals
returns-in-Whole-clause-journals g c =
    came_whole AllocError c.args.event c.args.core.now.journals c.apply.new.self.journals c.in_ok-apply.field-0 c.in-Whole.is c.in_ok-apply.ensures.cause

pub returns-in-Cut-clause-journals : goal.returns-in-Cut-clause-journals
returns-in-Cut-clause-journals g c =
    came_cut AllocError c.args.event c.args.core.now.journals c.apply.new.self.journals c.in_ok-apply.field-0 c.in-Cut.is c.in_ok-apply.ensures.cause
