use Rattle.std.proofs.Common.{ap, ◌∙◌}
use Rattle.fab_sets.specs.Numbers.{is_listed}
use Rattle.fab_trust.proofs.Letting.{opened}
use Rattle.fab_trust.proofs.endorsing.Doors.make.Goals as goal

pub returns : goal.returns
returns c =
    opened c.args.part.now c.args.checked.now.start.now c.as_slice-2.result.now c.as_slice.result.now c.in_ok-sites.sites c.in_ok-set_of.field-0.keys
    (c.as_slice-2.ensures ∙ c.requires.pcs) c.requires.numbered c.as_slice.ensures c.in_ok-sites.ensures (λ n. c.in_ok-set_of.ensures n ∙ ap (is_listed n) c.as_slice-3.ensures)
