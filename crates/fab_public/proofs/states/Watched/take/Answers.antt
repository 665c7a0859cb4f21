use Rattle.std.proofs.Common.{sym, ap, ◌∙◌}
use Rattle.fab_base.specs.declared.object.Tid.{Tid}
use Rattle.fab_release.specs.Replay as replay
use Rattle.fab_known.specs.Answers.{is_answer}
use Rattle.fab_known.specs.Knowing.{Knows}
use Rattle.fab_public.specs.Settings.{public_at, sight_at}
use Rattle.fab_public.specs.States.{stage_of, worker_of}
use Rattle.fab_public.proofs.Committing.{left_alone, taken}
use Rattle.fab_public.proofs.states.Watched.take.Goals as goal

pub returns-in_ok-learn-clause-seen : goal.returns-in_ok-learn-clause-seen
returns-in_ok-learn-clause-seen c =
    let sight = sight_at c.args.setting.now in
    let P = public_at c.args.setting.now in
    taken sight P c.args.worker c.args.sender c.args.tid c.args.row (stage_of c.args.self.now.stage) c.in-Waits.wanted (worker_of c.args.self.now) _ (ap stage_of c.in-Waits.is)
    (sym (c.is_answer-is_answer.ensures ∙ ap (λ (own : Tid). is_answer P.rights own c.in-Waits.wanted c.args.sender c.args.tid c.args.row) (c.tid_of-own.ensures sight P)) ∙ c.if-is_answer.true)
    (ap (λ (k : Knows). record (worker_of c.args.self.now) { known = k.rows; given = k.given; stage = replay.Runs }) c.in_ok-learn.ensures.ok)

pub returns-else-is_answer-clause-seen : goal.returns-else-is_answer-clause-seen
returns-else-is_answer-clause-seen c =
    let sight = sight_at c.args.setting.now in
    let P = public_at c.args.setting.now in
    left_alone sight P c.args.worker c.args.sender c.args.tid c.args.row (stage_of c.args.self.now.stage) c.in-Waits.wanted (worker_of c.args.self.now) (ap stage_of c.in-Waits.is)
    (sym (c.is_answer-is_answer.ensures ∙ ap (λ (own : Tid). is_answer P.rights own c.in-Waits.wanted c.args.sender c.args.tid c.args.row) (c.tid_of-own.ensures sight P)) ∙ c.if-is_answer.false)
