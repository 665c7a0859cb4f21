use Rattle.std.proofs.Common.{Option, sym, ap, ◌∙◌}
use Rattle.fab_protocol.specs.declared.parts.Parts.{Parts}
use Rattle.fab_public.specs.States.{worker_of}
use Rattle.fab_public.proofs.Asking.{ran_is}
use Rattle.fab_public.proofs.Committing.{ends_with, voting}
use Rattle.fab_public.proofs.states.Watched.come_to_vote.Goals as goal

pub returns-in-Some-clause-seen : goal.returns-in-Some-clause-seen
returns-in-Some-clause-seen c = λ sight P by.
    let n = c.args.worker in
    let v = worker_of c.args.self.now in
    ap (λ (o : Option Parts). voting o v) (sym c.in-Some.is)
    ∙ ends_with sight P n v _ _ (ran_is sight P n v c.args.self.now.known.by c.tid_of-tid.result by (c.tid_of-tid.ensures sight P)) c.in_ok-parts.ensures

pub returns-in_default-clause-seen : goal.returns-in_default-clause-seen
returns-in_default-clause-seen c = λ sight P by.
    let n = c.args.worker in
    let v = worker_of c.args.self.now in
    ap (λ (o : Option Parts). voting o v) (sym c.in_default.is)
    ∙ ends_with sight P n v _ _ (ran_is sight P n v c.args.self.now.known.by c.tid_of-tid.result by (c.tid_of-tid.ensures sight P)) c.in_ok-parts.ensures
