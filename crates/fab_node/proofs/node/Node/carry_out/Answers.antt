use Rattle.std.proofs.Common.{refl, sym, ap, subst}
use Rattle.fab_node.specs.declared.role.Role.{Role}
use Rattle.fab_node.specs.Standing.{NodeModel, RoleStands}
use Rattle.fab_node.specs.Deeds.{IsPlanOf}
use Rattle.fab_node.proofs.Carried.{done_stands, failed_stands, writes_here}
use Rattle.fab_node.proofs.node.Node.carry_out.Goals as goal

pub accept-step-requires : goal.accept-step-requires
accept-step-requires g c =
    let node = c.args.self.now in
    let role = ap (λ (m : NodeModel). m.role) c.self.view_is in
    let p = c.requires.plan in
    record { plan = (p.0, p.1, p.2, node.number, subst (λ (r : Role). IsPlanOf p.0 p.1 p.2 node.number r c.args.plan) (sym role) p.4.is) }

pub returns-in-Ok-clause-step : goal.returns-in-Ok-clause-step
returns-in-Ok-clause-step g c = λ given x act s p.
    let node = c.args.self.now in
    let role = ap (λ (m : NodeModel). m.role) c.self.view_is in
    c.accept-step.ensures.step given x act node.number (subst (λ (r : Role). IsPlanOf given x act node.number r c.args.plan) (sym role) p.is)

pub returns-in-Ok-clause-ok : goal.returns-in-Ok-clause-ok
returns-in-Ok-clause-ok g c = λ given x act s p.
    let node = c.args.self.now in
    let role = ap (λ (m : NodeModel). m.role) c.self.view_is in
    let content = ap (λ (m : NodeModel). m.journal.content) c.self.view_is in
    let synced = ap (λ (m : NodeModel). m.journal.synced) c.self.view_is in
    done_stands given x act node s c.args.plan p c.requires.can _ (ap (λ (m : NodeModel). m.number) c.self.view_is) (ap (λ (m : NodeModel). m.failed) c.self.view_is) refl
    (c.accept-step.ensures.role given x act node.number (subst (λ (r : Role). RoleStands given node.number x r) (sym role) s.role)
    (subst (λ (r : Role). IsPlanOf given x act node.number r c.args.plan) (sym role) p.is))
    (c.in-Ok.ensures.ok node.number x act
    (writes_here given x act node s c.args.plan p c.requires.can (g.J.Journal.content c.self.inside.journal) (g.J.Journal.synced c.self.inside.journal) content synced))

pub returns-in-Err-clause-err : goal.returns-in-Err-clause-err
returns-in-Err-clause-err g c = λ given x act s p.
    let node = c.args.self.now in
    let content = ap (λ (m : NodeModel). m.journal.content) c.self.view_is in
    let synced = ap (λ (m : NodeModel). m.journal.synced) c.self.view_is in
    failed_stands given x node _ (ap (λ (m : NodeModel). m.number) c.self.view_is) (ap (λ (m : NodeModel). m.role) c.self.view_is) c.fail.ensures.up s c.fail.ensures.failed
    (c.in-Err.ensures.err node.number x act
    (writes_here given x act node s c.args.plan p c.requires.can (g.J.Journal.content c.self.inside.journal) (g.J.Journal.synced c.self.inside.journal) content synced))
