use Rattle.std.proofs.Common.{rules, not, ◌==◌}
use Rattle.std.proofs.lemmas.Fn.{filter_same}
use Rattle.fab_commit.proofs.coordinator.wait_no_longer.Goals as goal

pub returns : goal.returns
returns c = filter_same _ (λ s. not (s == c.args.store)) _ (λ x b f' k. search rules) _ _ c.retain.ensures.filtered
