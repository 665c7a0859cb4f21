use Rattle.std.proofs.Common.{sym, ◌∙◌}
use Rattle.std.specs.List.{flat_map}
use Rattle.fab_serial.specs.Replays.{commits_at}
use Rattle.fab_serial.proofs.Steps.{all_pass}
use Rattle.fab_serial.proofs.decisions.commits.Goals as goal

pub returns-clause-all : goal.returns-clause-all
returns-clause-all c = c.from_vec.ensures ∙ c.in_ok-decided.ensures ∙ sym (all_pass (flat_map commits_at c.args.log.now))
