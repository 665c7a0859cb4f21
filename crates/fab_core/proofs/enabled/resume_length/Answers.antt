use Rattle.std.proofs.Common.{◌≡◌, ◌<◌, [], length, ap, sym, subst, ◌∙◌}
use Rattle.std.specs.Prelude.{Some}
use Rattle.fab_net.specs.declared.event.Inner.TheVariants.{Resume}
use Rattle.fab_core.specs.Cores.{slot}
use Rattle.fab_core.proofs.Filled.{slot_within}
use Rattle.fab_core.proofs.Gaining.{one_gains}
use Rattle.fab_core.proofs.Measured.{measured_at, slot_at}
use Rattle.fab_core.proofs.enabled.resume_length.Goals as goal

pub returns-clause-length : goal.returns-clause-length
returns-clause-length g c =
    let nodes = c.args.nodes.now in
    let within = slot_within nodes c.args.worker c.requires.can.0 c.requires.can.1 in
    let here = slot_at nodes c.from.result c.index-nodes-from.result c.in-Some.node (subst (λ n. n < length nodes) (sym c.from.ensures) within)
    c.in-Some.is in
    measured_at c.length_at_resume.result nodes c.args.worker c.in-Some.node (λ n. Resume n) [] (ap (slot nodes) (sym c.from.ensures) ∙ here) c.length_at_resume.ensures.length

pub returns-clause-kept : goal.returns-clause-kept
returns-clause-kept g c =
    let nodes = c.args.nodes.now in
    let within = slot_within nodes c.args.worker c.requires.can.0 c.requires.can.1 in
    one_gains nodes c.from.result c.in-Some.node c.length_at_resume.new.node
    (slot_at nodes c.from.result c.index-nodes-from.result c.in-Some.node (subst (λ n. n < length nodes) (sym c.from.ensures) within)
    c.in-Some.is)
    c.length_at_resume.ensures.kept
