use Rattle.std.proofs.Common.{◌≡◌, List, ap, sym, ◌∙◌}
use Rattle.std.specs.Prelude.{Option, Some, option_map}
use Rattle.fab_node.specs.Standing.{NodeModel}
use Rattle.fab_core.specs.Cores.{CoreModel, slot}
use Rattle.fab_core.proofs.Filled.{journal_slot}
use Rattle.fab_core.proofs.core_state.Core.journal.Goals as goal

pub returns : goal.returns
returns g c =
    let nodes : List (Option NodeModel) = c.self.inside.nodes.items in
    let there : slot nodes c.args.node ≡ Some c.in-Some.node.now =
    ap (slot nodes) (sym c.from.ensures) ∙ ap (λ (ns : List (Option NodeModel)). slot ns c.from.result) (sym c.deref.ensures.value) ∙ sym c.in-Some.ensures in
    ap (λ (m : CoreModel). slot m.journals c.args.node) (sym c.self.view_is)
    ∙ journal_slot nodes c.args.node
    ∙ ap (option_map (λ (x : NodeModel). x.journal)) there
    ∙ ap Some c.journal.ensures
