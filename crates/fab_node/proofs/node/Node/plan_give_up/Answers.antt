use Rattle.std.proofs.Common.{[], refl, sym, ap, subst, ◌∙◌}
use Rattle.fab_net.specs.declared.event.Inner.TheVariants as i
use Rattle.fab_node.specs.declared.role.Role.{Role}
use Rattle.fab_node.specs.Standing.{NodeModel, RoleStands}
use Rattle.fab_node.proofs.RolePlans.{plan_at}
use Rattle.fab_node.proofs.node.Node.plan_give_up.Goals as goal

pub returns-clause-plan : goal.returns-clause-plan
returns-clause-plan g c = λ given x s up.
    let node = c.args.self.now in
    let kept = c.in_ok-make_room_for.ensures.kept in
    let role = ap (λ (m : NodeModel). m.role) c.self.view_is in
    plan_at given x (i.Idle c.args.self.now.number c.args.store) [] node.number c.given_up.new.role c.make_room_for.new.self c.in_ok-plan.plan
    (c.in_ok-plan.ensures.plan given node.number x (subst (λ (r : Role). RoleStands given node.number x r) (sym role) s.role) up) refl refl
    (kept.number ∙ ap (λ (m : NodeModel). m.number) c.self.view_is) kept.role (kept.up ∙ ap (λ (m : NodeModel). m.up) c.self.view_is ∙ s.up ∙ up)
