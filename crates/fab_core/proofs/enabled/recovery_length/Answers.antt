use Rattle.std.proofs.Common.{ap, sym, ◌∙◌}
use Rattle.std.specs.Option.{option_copied}
use Rattle.fab_core.specs.Cores.{slot}
use Rattle.fab_core.proofs.Recovering.{store_recovers, worker_recovers}
use Rattle.fab_core.proofs.enabled.recovery_length.Goals as goal

pub returns-in-Worker : goal.returns-in-Worker
returns-in-Worker g c = λ given w is stand.
    worker_recovers given w c.args.nodes.now stand c.args.number c.in-Some.node.now
    (ap (slot c.args.nodes.now) (sym c.from.ensures) ∙ sym c.node_at.ensures ∙ ap option_copied c.in-Some.is)
    c.in-Worker.field-0 (sym c.role.ensures ∙ c.in-Worker.is)

pub returns-in-Store : goal.returns-in-Store
returns-in-Store g c = λ given w is stand.
    store_recovers given w c.args.nodes.now stand c.args.number c.in-Some.node.now
    (ap (slot c.args.nodes.now) (sym c.from.ensures) ∙ sym c.node_at.ensures ∙ ap option_copied c.in-Some.is)
    c.in-Store.field-0 (sym c.role.ensures ∙ c.in-Store.is)
