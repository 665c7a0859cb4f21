use Rattle.std.specs.Option.{option_copied}
use Rattle.fab_replay.proofs.running.come_next.Goals as goal

pub come-requires-clause-done : goal.come-requires-clause-done
come-requires-clause-done g c = c.in_ok-at.ensures.done (option_copied c.done_at.result) c.done_at.ensures
