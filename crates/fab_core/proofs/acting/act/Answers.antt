use Rattle.std.proofs.Common.{◌≡◌, ◌≤◌, ℕ, List, length, Err, sym, ap, subst, ◌∙◌}
use Rattle.fab_device.specs.declared.traits.JournalError.TheVariants.{Failed}
use Rattle.fab_net.specs.declared.note.Step.{Step}
use Rattle.fab_queues.specs.Channels.{spare_of}
use Rattle.fab_world.specs.Machine.{Node}
use Rattle.fab_node.specs.Standing.{Stands}
use Rattle.fab_node.specs.Deeds.{deed, done_by}
use Rattle.fab_nodes.specs.Transit.{bytes_to}
use Rattle.fab_core.proofs.OfPlans.{plan_calls, recovers_calls, sends_are}
use Rattle.fab_core.proofs.acting.act.Goals as goal

pub returns-in-Ok-carry_out-clause-done : goal.returns-in-Ok-carry_out-clause-done
returns-in-Ok-carry_out-clause-done g c x s a =
    let p = c.in-Ok.ensures.plan x s a in
    let act = deed c.args.given.now x c.args.inner c.args.bytes.now in
    record {
      stands = subst (λ (y : Node). Stands c.args.given.now (done_by act y) c.carry_out.new.self) p.ready
          (c.in-Ok-carry_out.ensures.ok c.args.given.now x act (c.in-Ok.ensures.stands (λ h. absurd (cc h)) x s) p.is);
      step_is = c.in-Ok-carry_out.ensures.step c.args.given.now x act (c.in-Ok.ensures.stands (λ h. absurd (cc h)) x s) p.is;
    }

pub returns-in-Ok-carry_out-clause-room : goal.returns-in-Ok-carry_out-clause-room
returns-in-Ok-carry_out-clause-room g c b below =
    let x = c.requires.ready.0 in
    let p = c.in-Ok.ensures.plan x c.requires.ready.1 c.requires.ready.2 in
    let act = deed c.args.given.now x c.args.inner c.args.bytes.now in
    let sends : c.sends.result.now ≡ c.in-Ok-carry_out.step.sends =
    c.sends.ensures ∙ sends_are c.args.given.now x act c.plan.new.node c.in-Ok.plan p.is
    ∙ sym (ap (λ (st : Step). st.sends) (c.in-Ok-carry_out.ensures.step c.args.given.now x act (c.in-Ok.ensures.stands (λ h. absurd (cc h)) x c.requires.ready.1) p.is)) in
    subst (λ k. length (bytes_to b c.in-Ok-carry_out.step.sends) ≤ spare_of c.make_room.new.queues k b) (c.node_of.ensures ∙ sym c.requires.number)
    (subst (λ (ss : List (ℕ × List ℕ)). length (bytes_to b ss) ≤ spare_of c.make_room.new.queues c.node_of.result b) sends (c.in_ok-make_room-in-Ok.ensures.room b below))

pub returns-in-Err-carry_out-clause-failed : goal.returns-in-Err-carry_out-clause-failed
returns-in-Err-carry_out-clause-failed g c h x s a =
    let p = c.in-Ok.ensures.plan x s a in
    let act = deed c.args.given.now x c.args.inner c.args.bytes.now in
    record {
      stands = c.in-Err-carry_out.ensures.err c.args.given.now x act (c.in-Ok.ensures.stands (λ h. absurd (cc h)) x s) p.is;
      called = plan_calls c.args.given.now c.args.inner c.args.bytes.now x c.plan.new.node c.in-Ok.plan p c.in-Err-carry_out.ensures.called;
    }

pub returns-in-Err-clause-failed : goal.returns-in-Err-clause-failed
returns-in-Err-clause-failed g c h x s a =
    let e : c.in-Err.problem ≡ Failed = cc h in
    record {
      stands = c.in-Err.ensures.failed (ap Err e) x s;
      called = recovers_calls c.args.given.now c.args.inner c.args.bytes.now x (c.in-Err.ensures.read (ap Err e));
    }
