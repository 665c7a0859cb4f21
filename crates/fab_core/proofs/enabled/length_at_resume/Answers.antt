use Rattle.std.proofs.Common.{◌∙◌}
use Rattle.fab_core.proofs.Lengths.{planned_length, planned_small}
use Rattle.fab_core.proofs.enabled.length_at_resume.Goals as goal

pub length_of-requires : goal.length_of-requires
length_of-requires g c =
    let s = c.requires.stands in planned_small s.0 s.1 _ _ _ (c.in_ok-plan.ensures.plan s.0 s.1 s.2 s.3).is

pub returns-clause-length : goal.returns-clause-length
returns-clause-length g c = λ k x s up. c.length_of.ensures ∙ planned_length k x _ _ _ (c.in_ok-plan.ensures.plan k x s up).is
