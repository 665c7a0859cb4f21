use Rattle.std.proofs.Common.{◌≡◌, Err, ap, subst}
use Rattle.fab_device.specs.declared.traits.JournalError.TheVariants.{Failed}
use Rattle.fab_world.specs.Machine.{Node}
use Rattle.fab_node.specs.Standing.{Stands}
use Rattle.fab_node.specs.Deeds.{cut_at, deed}
use Rattle.fab_core.proofs.acting.act_cut.Goals as goal

pub returns-in-Ok-cut-clause-done : goal.returns-in-Ok-cut-clause-done
returns-in-Ok-cut-clause-done g c x s a =
    let p = c.in-Ok.ensures.plan x s a in
    let act = deed c.args.given.now x c.args.inner c.args.bytes.now in
    record {
      stands = subst (λ (y : Node). Stands c.args.given.now (cut_at c.args.given.now c.args.keep act y) c.cut.new.self) p.ready
          (c.in-Ok-cut.ensures.ok c.args.given.now x act (c.in-Ok.ensures.stands (λ h. absurd (cc h)) x s) p.is);
      step_is = c.in-Ok-cut.ensures.step c.args.given.now x act (c.in-Ok.ensures.stands (λ h. absurd (cc h)) x s) p.is;
    }

pub returns-in-Err-cut-clause-failed : goal.returns-in-Err-cut-clause-failed
returns-in-Err-cut-clause-failed g c h x s a =
    c.in-Err-cut.ensures.err c.args.given.now x (deed c.args.given.now x c.args.inner c.args.bytes.now) (c.in-Ok.ensures.stands (λ h. absurd (cc h)) x s)
    (c.in-Ok.ensures.plan x s a).is

pub returns-in-Err-clause-failed : goal.returns-in-Err-clause-failed
returns-in-Err-clause-failed g c h x s a = let e : c.in-Err.problem ≡ Failed = cc h in c.in-Err.ensures.failed (ap Err e) x s
