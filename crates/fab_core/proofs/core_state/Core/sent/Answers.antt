use Rattle.std.proofs.Common.{ap, sym, ◌∙◌, inl, inr}
use Rattle.fab_core.specs.Cores.{CoreModel, world}
use Rattle.fab_nodes.proofs.Far.{far_sent}
use Rattle.fab_core.proofs.core_state.Core.sent.Goals as goal

pub returns-then-receiver-lt64 : goal.returns-then-receiver-lt64
returns-then-receiver-lt64 g c =
    c.sent.ensures ∙ c.self.invariant.0.stands.sent c.args.sender c.args.receiver
    ∙ ap (λ (m : CoreModel). (world m).sent c.args.sender c.args.receiver) c.self.view_is

pub returns-else-sender-lt64 : goal.returns-else-sender-lt64
returns-else-sender-lt64 g c =
    let stands = c.self.invariant.0.stands in
    sym (far_sent c.self.inside.queues c.args.sender c.args.receiver stands.lanes (elim c.else-sender-lt64.either [ inl p ↦ inr p.1 | inr h ↦ inl h ]))
    ∙ stands.sent c.args.sender c.args.receiver
    ∙ ap (λ (m : CoreModel). (world m).sent c.args.sender c.args.receiver) c.self.view_is
