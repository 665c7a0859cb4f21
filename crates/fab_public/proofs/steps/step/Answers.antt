use Rattle.std.proofs.Common.{sym, ap, ◌∙◌}
use Rattle.fab_release.specs.declared.release.Release.TheVariants as releases
use Rattle.fab_public.specs.Settings.{public_at, sight_at}
use Rattle.fab_public.proofs.Stepping.{kept_as, kept_either, sent_as, sent_either}
use Rattle.fab_public.proofs.steps.step.Goals as goal

pub returns-in-Received-clause-kept : goal.returns-in-Received-clause-kept
returns-in-Received-clause-kept c =
    let i = c.in-Received in
    kept_as (sight_at c.args.setting.now) (public_at c.args.setting.now) c.args.kept.now c.receive.new.kept c.receive.result (releases.Received i.node i.sender c.as_slice.result.now) c.args.release.now (ap (releases.Received i.node i.sender) c.as_slice.ensures ∙ sym i.is) c.receive.ensures.kept

pub returns-in-Received-clause-sent : goal.returns-in-Received-clause-sent
returns-in-Received-clause-sent c =
    let i = c.in-Received in
    sent_as (sight_at c.args.setting.now) (public_at c.args.setting.now) c.args.kept.now c.receive.new.kept c.receive.result (releases.Received i.node i.sender c.as_slice.result.now) c.args.release.now (ap (releases.Received i.node i.sender) c.as_slice.ensures ∙ sym i.is) c.receive.ensures.sent

pub returns-in-Begin-clause-kept : goal.returns-in-Begin-clause-kept
returns-in-Begin-clause-kept c =
    let i = c.in-Begin in
    kept_as (sight_at c.args.setting.now) (public_at c.args.setting.now) c.args.kept.now c.change_worker.new.kept c.change_worker.result (releases.Begin i.worker i.request) c.args.release.now (sym i.is) c.change_worker.ensures.kept

pub returns-in-Begin-clause-sent : goal.returns-in-Begin-clause-sent
returns-in-Begin-clause-sent c =
    let i = c.in-Begin in
    sent_as (sight_at c.args.setting.now) (public_at c.args.setting.now) c.args.kept.now c.change_worker.new.kept c.change_worker.result (releases.Begin i.worker i.request) c.args.release.now (sym i.is) c.change_worker.ensures.sent

pub returns-in-Down-clause-kept : goal.returns-in-Down-clause-kept
returns-in-Down-clause-kept c =
    let i = c.in-Down in
    kept_as (sight_at c.args.setting.now) (public_at c.args.setting.now) c.args.kept.now c.change_worker-in-Down.new.kept c.change_worker-in-Down.result (releases.Down i.worker i.value) c.args.release.now (sym i.is) c.change_worker-in-Down.ensures.kept

pub returns-in-Down-clause-sent : goal.returns-in-Down-clause-sent
returns-in-Down-clause-sent c =
    let i = c.in-Down in
    sent_as (sight_at c.args.setting.now) (public_at c.args.setting.now) c.args.kept.now c.change_worker-in-Down.new.kept c.change_worker-in-Down.result (releases.Down i.worker i.value) c.args.release.now (sym i.is) c.change_worker-in-Down.ensures.sent

pub returns-in-Got-clause-kept : goal.returns-in-Got-clause-kept
returns-in-Got-clause-kept c =
    let i = c.in-Got in
    kept_as (sight_at c.args.setting.now) (public_at c.args.setting.now) c.args.kept.now c.get.new.kept c.get.result (releases.Got i.worker i.version) c.args.release.now (sym i.is) c.get.ensures.kept

pub returns-in-Got-clause-sent : goal.returns-in-Got-clause-sent
returns-in-Got-clause-sent c =
    let i = c.in-Got in
    sent_as (sight_at c.args.setting.now) (public_at c.args.setting.now) c.args.kept.now c.get.new.kept c.get.result (releases.Got i.worker i.version) c.args.release.now (sym i.is) c.get.ensures.sent

pub returns-in-Applied-clause-kept : goal.returns-in-Applied-clause-kept
returns-in-Applied-clause-kept c =
    let i = c.in-Applied in
    kept_as (sight_at c.args.setting.now) (public_at c.args.setting.now) c.args.kept.now c.apply.new.kept c.apply.result (releases.Applied i.store i.tid) c.args.release.now (sym i.is) c.apply.ensures.kept

pub returns-in-Applied-clause-sent : goal.returns-in-Applied-clause-sent
returns-in-Applied-clause-sent c =
    let i = c.in-Applied in
    sent_as (sight_at c.args.setting.now) (public_at c.args.setting.now) c.args.kept.now c.apply.new.kept c.apply.result (releases.Applied i.store i.tid) c.args.release.now (sym i.is) c.apply.ensures.sent

pub returns-in-Voted-clause-kept : goal.returns-in-Voted-clause-kept
returns-in-Voted-clause-kept c =
    let i = c.in-Voted in
    kept_as (sight_at c.args.setting.now) (public_at c.args.setting.now) c.args.kept.now c.vote.new.kept c.vote.result (releases.Voted i.store i.tid i.answer) c.args.release.now (sym i.is) c.vote.ensures.kept

pub returns-in-Voted-clause-sent : goal.returns-in-Voted-clause-sent
returns-in-Voted-clause-sent c =
    let i = c.in-Voted in
    sent_as (sight_at c.args.setting.now) (public_at c.args.setting.now) c.args.kept.now c.vote.new.kept c.vote.result (releases.Voted i.store i.tid i.answer) c.args.release.now (sym i.is) c.vote.ensures.sent

pub returns-in-Crash-clause-kept : goal.returns-in-Crash-clause-kept
returns-in-Crash-clause-kept c =
    let i = c.in-Crash in
    kept_as (sight_at c.args.setting.now) (public_at c.args.setting.now) c.args.kept.now c.change_worker-in-Crash.new.kept c.change_worker-in-Crash.result (releases.Crash i.node) c.args.release.now (sym i.is) c.change_worker-in-Crash.ensures.kept

pub returns-in-Crash-clause-sent : goal.returns-in-Crash-clause-sent
returns-in-Crash-clause-sent c =
    let i = c.in-Crash in
    sent_as (sight_at c.args.setting.now) (public_at c.args.setting.now) c.args.kept.now c.change_worker-in-Crash.new.kept c.change_worker-in-Crash.result (releases.Crash i.node) c.args.release.now (sym i.is) c.change_worker-in-Crash.ensures.sent

pub returns-in-Failed-clause-kept : goal.returns-in-Failed-clause-kept
returns-in-Failed-clause-kept c =
    let i = c.in-Failed in
    kept_either (sight_at c.args.setting.now) (public_at c.args.setting.now) c.args.kept.now c.change_worker-in-Failed.new.kept c.change_worker-in-Failed.result c.args.release.now (releases.Failed i.worker) (releases.Stopped i.worker) i.is
    c.change_worker-in-Failed.ensures.kept c.change_worker-in-Failed.ensures.kept

pub returns-in-Failed-clause-sent : goal.returns-in-Failed-clause-sent
returns-in-Failed-clause-sent c =
    let i = c.in-Failed in
    sent_either (sight_at c.args.setting.now) (public_at c.args.setting.now) c.args.kept.now c.change_worker-in-Failed.new.kept c.change_worker-in-Failed.result c.args.release.now (releases.Failed i.worker) (releases.Stopped i.worker) i.is
    c.change_worker-in-Failed.ensures.sent c.change_worker-in-Failed.ensures.sent
