use Rattle.std.proofs.Common.{◌||◌, ◌∙◌, ap, rules, tests}
use Rattle.std.specs.Prelude.{is_some}
use Rattle.std.specs.List.{list_any}
use Rattle.std.proofs.lemmas.Iterator.{YieldsList-from_slice}
use Rattle.std.proofs.lemmas.Iterator.Search.{any_from_yields_List}
use Rattle.fab_rights.specs.Computed.{nodes_in}
use Rattle.fab_core.specs.Cores.{CoreModel}
use Rattle.fab_exchange.specs.Dues.{own_at, posts}
use Rattle.fab_exchange.proofs.exchange.Exchange.is_some_due.Goals as goal

pub returns : goal.returns
returns g c =
    let m = c.args.self.now in
    any_from_yields_List (λ n. is_some (own_at m.given m.moves n) || posts m.given m.moves n) _ _ c.any.result c.any.ensures.ran
    (YieldsList-from_slice c.self.inside.nodes.items cc) (λ x b q k. search (rules, tests))
    ∙ ap (list_any (λ n. is_some (own_at m.given m.moves n) || posts m.given m.moves n))
    (c.self.invariant.nodes_are ∙ ap (λ (k : CoreModel). nodes_in k.given.rights) c.self.view_is)
