use Rattle.std.proofs.Common.{ap, ◌∙◌}
use Rattle.fab_language.specs.Meaning.{Meant}
use Rattle.fab_pool.proofs.Same.{same_meant, same_outcome}
use Rattle.fab_pool.proofs.copies.done_of.Goals as goal

pub invariant_of-result : goal.invariant_of-result
invariant_of-result c =
    let d = c.args.done in
    record {
      outcome_meant = d.outcome_meant ∙ same_outcome c.args.job d.job c.requires;
      touches_meant = d.touches_meant ∙ ap (λ (m : Meant). m.touches) (same_meant c.args.job d.job c.requires);
      downs_meant = d.downs_meant ∙ ap (λ (m : Meant). m.downs) (same_meant c.args.job d.job c.requires);
    }
