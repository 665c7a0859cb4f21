use Rattle.std.proofs.Common.{◌≡◌, ◌<◌, length, ap, sym, subst, ◌∙◌}
use Rattle.std.specs.Prelude.{Some}
use Rattle.fab_net.specs.declared.event.Inner.TheVariants.{Deliver}
use Rattle.fab_core.specs.Cores.{slot}
use Rattle.fab_core.proofs.Filled.{slot_within}
use Rattle.fab_core.proofs.Gaining.{one_gains}
use Rattle.fab_core.proofs.Measured.{measured_at, slot_at}
use Rattle.fab_core.proofs.enabled.delivery_length.Goals as goal

pub returns-clause-length : goal.returns-clause-length
returns-clause-length g c =
    let nodes = c.args.nodes.now in
    let within = slot_within nodes c.args.receiver c.requires.can.0 c.requires.can.1 in
    let here = slot_at nodes c.from.result c.index-nodes-from.result c.in-Some.node (subst (λ n. n < length nodes) (sym c.from.ensures) within)
    c.in-Some.is in
    measured_at c.length_at_delivery.result nodes c.args.receiver c.in-Some.node (λ n. Deliver c.args.sender n) c.args.bytes.now (ap (slot nodes) (sym c.from.ensures) ∙ here) c.length_at_delivery.ensures.length

pub returns-clause-kept : goal.returns-clause-kept
returns-clause-kept g c =
    let nodes = c.args.nodes.now in
    let within = slot_within nodes c.args.receiver c.requires.can.0 c.requires.can.1 in
    one_gains nodes c.from.result c.in-Some.node c.length_at_delivery.new.node
    (slot_at nodes c.from.result c.index-nodes-from.result c.in-Some.node (subst (λ n. n < length nodes) (sym c.from.ensures) within)
    c.in-Some.is)
    c.length_at_delivery.ensures.kept
