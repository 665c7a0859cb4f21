use Rattle.std.proofs.Common.{rules, not, ◌==◌}
use Rattle.std.proofs.lemmas.Fn.{filter_same}
use Rattle.fab_shelf.proofs.changes.release_all.Goals as goal

-- those of other workers stay
pub returns : goal.returns
returns c = filter_same _ (λ p. not (p.0.worker == c.args.worker)) _ (λ x b f' k. search rules) _ _ c.retain.ensures.filtered
