use Rattle.std.proofs.Common.{sym, subst}
use Rattle.fab_node.specs.declared.plan.NodePlan.{NodePlan}
use Rattle.fab_node.specs.Standing.{RoleStands}
use Rattle.fab_node.specs.Deeds.{IsPlanOf, done_by, readied_for}
use Rattle.fab_node.proofs.plan.NodePlan.accept.Goals as goal

pub returns-in-Begins-clause-role : goal.returns-in-Begins-clause-role
returns-in-Begins-clause-role c = λ g x act n s p.
    subst (λ (q : NodePlan). RoleStands g n (done_by act (readied_for q x)) c.begin.new.role) (sym c.in-Begins.is)
    (c.begin.ensures.role g n x act s (subst (λ (q : NodePlan). IsPlanOf g x act n c.args.role.now q) c.in-Begins.is p))

pub returns-in-Store-clause-role : goal.returns-in-Store-clause-role
returns-in-Store-clause-role c = λ g x act n s p.
    subst (λ (q : NodePlan). RoleStands g n (done_by act (readied_for q x)) c.accept_store.new.role) (sym c.in-Store.is)
    (c.accept_store.ensures.role g n x act s (subst (λ (q : NodePlan). IsPlanOf g x act n c.args.role.now q) c.in-Store.is p))

pub returns-in-Worker-clause-role : goal.returns-in-Worker-clause-role
returns-in-Worker-clause-role c = λ g x act n s p.
    subst (λ (q : NodePlan). RoleStands g n (done_by act (readied_for q x)) c.accept_worker.new.role) (sym c.in-Worker.is)
    (c.accept_worker.ensures.role g n x act s (subst (λ (q : NodePlan). IsPlanOf g x act n c.args.role.now q) c.in-Worker.is p))
