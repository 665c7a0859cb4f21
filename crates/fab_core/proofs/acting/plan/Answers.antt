use Rattle.std.proofs.Common.{ap, sym, subst, ◌∙◌}
use Rattle.fab_net.specs.declared.event.Inner.{Inner}
use Rattle.fab_world.specs.Machine.{Node, node_of}
use Rattle.fab_node.specs.Standing.{Stands}
use Rattle.fab_node.specs.Deeds.{IsPlanAt}
use Rattle.fab_nodes.specs.Acts.{IsAbout}
use Rattle.fab_core.proofs.OfPlans.{begin_at, deliver_at, idle_at, resume_at}
use Rattle.fab_core.proofs.acting.plan.Goals as goal

pub returns-in_ok-plan_begin-in-Begin-clause-plan : goal.returns-in_ok-plan_begin-in-Begin-clause-plan
returns-in_ok-plan_begin-in-Begin-clause-plan g c =
    subst (λ (k : Inner). (x : Node) → Stands c.args.given.now x c.args.node.now → IsAbout k x → IsPlanAt c.args.given.now x k c.args.bytes.now c.plan_begin.new.self
    c.in_ok-plan_begin-in-Begin.field-0) (sym c.in-Begin.is)
    (begin_at _ _ _ _ _ _ _ (c.requires.number ∙ ap node_of c.in-Begin.is) (c.in_ok-plan_begin-in-Begin.ensures.plan c.args.given.now))

pub returns-in_ok-plan_resume-in-Some-clause-plan : goal.returns-in_ok-plan_resume-in-Some-clause-plan
returns-in_ok-plan_resume-in-Some-clause-plan g c =
    subst (λ (k : Inner). (x : Node) → Stands c.args.given.now x c.args.node.now → IsAbout k x → IsPlanAt c.args.given.now x k c.args.bytes.now c.plan_resume.new.self
    c.in_ok-plan_resume-in-Some.field-0) (sym c.in-Resume.is)
    (resume_at _ _ _ _ _ _ _ (c.requires.number ∙ ap node_of c.in-Resume.is) (c.in_ok-plan_resume-in-Some.ensures.plan c.args.given.now))

pub returns-in_ok-plan_deliver-in-Deliver-clause-plan : goal.returns-in_ok-plan_deliver-in-Deliver-clause-plan
returns-in_ok-plan_deliver-in-Deliver-clause-plan g c =
    subst (λ (k : Inner). (x : Node) → Stands c.args.given.now x c.args.node.now → IsAbout k x → IsPlanAt c.args.given.now x k c.args.bytes.now c.plan_deliver.new.self
    c.in_ok-plan_deliver-in-Deliver.field-0) (sym c.in-Deliver.is)
    (deliver_at _ _ _ _ _ _ _ _ (c.requires.number ∙ ap node_of c.in-Deliver.is) (c.in_ok-plan_deliver-in-Deliver.ensures.plan c.args.given.now))

pub returns-in_ok-plan_give_up-in-Idle-clause-plan : goal.returns-in_ok-plan_give_up-in-Idle-clause-plan
returns-in_ok-plan_give_up-in-Idle-clause-plan g c =
    subst (λ (k : Inner). (x : Node) → Stands c.args.given.now x c.args.node.now → IsAbout k x → IsPlanAt c.args.given.now x k c.args.bytes.now c.plan_give_up.new.self
    c.in_ok-plan_give_up-in-Idle.field-0) (sym c.in-Idle.is)
    (idle_at _ _ _ _ _ _ _ _ (c.requires.number ∙ ap node_of c.in-Idle.is) (c.in_ok-plan_give_up-in-Idle.ensures.plan c.args.given.now))

pub returns-in-Recover-clause-failed : goal.returns-in-Recover-clause-failed
returns-in-Recover-clause-failed g c h x s = c.plan_recover.ensures.err h c.args.given.now x s
