use Rattle.std.proofs.Common.{sym, ap, ◌∙◌, List, ℕ, Option}
use Rattle.std.specs.Prelude.{option_map}
use Rattle.fab_rights.specs.Computed.{nodes_in}
use Rattle.fab_core.specs.Cores.{CoreModel}
use Rattle.fab_exchange.specs.Dues.{or_else, poster}
use Rattle.fab_exchange.specs.declared.found.Found.{Found}
use Rattle.fab_exchange.specs.declared.found.Found.TheVariants as f
use Rattle.fab_exchange.proofs.exchange.Exchange.found.Goals as goal

pub returns-in-None : goal.returns-in-None
returns-in-None g c =
    let m = c.args.self.now in
    let k = c.self.inside.core in
    let Post : CoreModel → List ℕ → Option Found = λ m ns. option_map (λ h. f.Post h) (poster m.given m.moves c.args.node ns) in
    c.post_to.ensures ∙ ap (Post k) (c.as_slice.ensures.value ∙ c.self.invariant.nodes_are) ∙ ap (λ (m : CoreModel). Post m (nodes_in m.given.rights)) c.self.view_is
    ∙ ap (λ o. or_else o (Post m (nodes_in m.given.rights))) (sym c.in-None.is ∙ c.own.ensures)
