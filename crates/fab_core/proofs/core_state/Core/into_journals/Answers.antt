use Rattle.std.proofs.Common.{ap, ◌∙◌}
use Rattle.fab_node.specs.Standing.{NodeModel}
use Rattle.fab_core.specs.Cores.{CoreModel}
use Rattle.fab_core.specs.Telling.{those_in}
use Rattle.fab_core.proofs.Between.{those_map}
use Rattle.fab_core.proofs.core_state.Core.into_journals.Goals as goal

pub returns : goal.returns
returns g c =
    rw c.from_vec.ensures
    (c.journals_of.ensures ∙ those_map (λ (x : NodeModel). x.journal) c.self.inside.nodes.items ∙ ap (λ (m : CoreModel). those_in m.journals) c.self.view_is)
