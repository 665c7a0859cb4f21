use Rattle.std.proofs.Common.{Err, ap, ◌∙◌}
use Rattle.fab_front.proofs.Refusals.{none_refused}
use Rattle.fab_replay.proofs.trust.checked.Goals as goal

pub unreachable-requires : goal.unreachable-requires
unreachable-requires c =
    let x = c.in-Err-Refused in
    none_refused c.args.program.now _ c.requires.labelled (c.check.ensures.refused x.field-0-0 x.field-0-1 x.field-0-2 x.field-0-3 (x.is ∙ ap Err x.field-0-is))
