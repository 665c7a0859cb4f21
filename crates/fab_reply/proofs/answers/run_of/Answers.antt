use Rattle.std.proofs.Common.{Some, sym, ◌∙◌, subst}
use Rattle.fab_device.specs.Kept.{Makers}
use Rattle.fab_core.specs.Starts.{given_by}
use Rattle.fab_replay.specs.Kept.{IsCutShort, IsMade, IsPossible}
use Rattle.fab_replay.specs.Replays.{IsReady, with_counts}
use Rattle.fab_replay.proofs.Viewing.{any_err}
use Rattle.fab_reply.specs.Reply.{Answers, AreLeft, status_of, text_of}
use Rattle.fab_front.proofs.Accepting.{if_told, within}
use Rattle.fab_reply.proofs.Replaying.{answered, cut_answer, cut_replay, left_behind, unless_told}
use Rattle.fab_reply.proofs.Wishes.{any_counts}
use Rattle.fab_reply.proofs.answers.run_of.Goals as goal

pub wanted_of-requires-clause-within : goal.wanted_of-requires-clause-within
wanted_of-requires-clause-within g c = within c.requires.front.is

pub accepted_setup-requires : goal.accepted_setup-requires
accepted_setup-requires g c =
    let p = c.requires.accepted in
    (c.args.start.now, sym p.1, record { within = within c.requires.front.is; named = p.0; labelled = p.2 })

pub make_run-requires-clause-made : goal.make_run-requires-clause-made
make_run-requires-clause-made g c κs bounds = c.requires.made c.args.start.now c.in_ok-wanted.wanted c.in_ok-wanted.ensures.0

pub make_run-requires-clause-accepted : goal.make_run-requires-clause-accepted
make_run-requires-clause-accepted g c κs bounds =
    let p = c.requires.accepted in
    let e = c.in_ok-setup.ensures in
    (c.args.start.now, sym (e.program ∙ p.1), e.accepted c.args.start.now (sym p.1) (record { within = within c.requires.front.is; named = p.0; labelled = p.2 }))

pub make_run-requires-clause-ready : goal.make_run-requires-clause-ready
make_run-requires-clause-ready g c κs bounds =
    let p = c.requires.accepted in
    let e = c.in_ok-setup.ensures in
    let accepted = e.accepted c.args.start.now (sym p.1) (record { within = within c.requires.front.is; named = p.0; labelled = p.2 }) in
    subst (λ r. IsReady (given_by r c.in_ok-setup.setup.rights) c.in_ok-wanted.wanted) (sym (e.program ∙ p.1)) (c.in_ok-wanted.ensures.1 c.in_ok-setup.setup.rights accepted)

pub returns-in_err-answer-clause-cut : goal.returns-in_err-answer-clause-cut
returns-in_err-answer-clause-cut g c =
    let J = g.M.Journals in
    let p = c.requires.accepted in
    let e = c.in_ok-setup.ensures in
    let rights = c.in_ok-setup.setup.rights in
    let wanted = c.in_ok-wanted.wanted in
    let accepted = e.accepted c.args.start.now (sym p.1) (record { within = within c.requires.front.is; named = p.0; labelled = p.2 }) in
    let old : Makers = J.seen c.args.journals.now in
    let new : Makers = J.seen c.make_run.new.journals in
    any_err c.from_residual-in_err-answer.result
    (cut_replay c.requires.front rights accepted c.args.command.now wanted c.in_ok-wanted.ensures.0 old new
    (subst (λ r. IsCutShort (given_by r rights) wanted old new) (e.program ∙ p.1) c.in_err-answer.ensures.memory) c.in_err-answer.ensures.told)

pub returns-clause-replies : goal.returns-clause-replies
returns-clause-replies g c =
    let J = g.M.Journals in
    let p = c.requires.accepted in
    let e = c.in_ok-setup.ensures in
    let rights = c.in_ok-setup.setup.rights in
    let wanted = c.in_ok-wanted.wanted in
    let accepted = e.accepted c.args.start.now (sym p.1) (record { within = within c.requires.front.is; named = p.0; labelled = p.2 }) in
    let old : Makers = J.seen c.args.journals.now in
    let new : Makers = J.seen c.make_run.new.journals in
    let answer = c.in_ok-answer.answer in
    let there = subst (λ r. IsMade (given_by r rights) wanted answer old new) (e.program ∙ p.1) c.in_ok-answer.ensures.answer in
    if_told (Answers (Some c.args.command.now) c.args.text.now) (status_of answer) (text_of answer) c.told.result c.told.ensures.told
    (answered c.requires.front rights accepted c.args.command.now (with_counts wanted there.0) (any_counts c.args.start.now c.args.command.now wanted there.0 c.in_ok-wanted.ensures.0) answer old new there.1)

pub returns-clause-journals : goal.returns-clause-journals
returns-clause-journals g c =
    let J = g.M.Journals in
    let p = c.requires.accepted in
    let e = c.in_ok-setup.ensures in
    let rights = c.in_ok-setup.setup.rights in
    let wanted = c.in_ok-wanted.wanted in
    let accepted = e.accepted c.args.start.now (sym p.1) (record { within = within c.requires.front.is; named = p.0; labelled = p.2 }) in
    let old : Makers = J.seen c.args.journals.now in
    let new : Makers = J.seen c.make_run.new.journals in
    let answer = c.in_ok-answer.answer in
    let there = subst (λ r. IsMade (given_by r rights) wanted answer old new) (e.program ∙ p.1) c.in_ok-answer.ensures.answer in
    let possible = subst (λ r. IsPossible old.may_fail r answer) (e.program ∙ p.1) c.in_ok-answer.ensures.possible in
    if_told (AreLeft c.args.command.now c.args.text.now old new) (status_of answer) (text_of answer) c.told.result c.told.ensures.told
    (left_behind c.requires.front rights accepted c.args.command.now (with_counts wanted there.0) (any_counts c.args.start.now c.args.command.now wanted there.0 c.in_ok-wanted.ensures.0) answer old new there.1 possible)

pub returns-clause-cut : goal.returns-clause-cut
returns-clause-cut g c =
    let J = g.M.Journals in
    let p = c.requires.accepted in
    let e = c.in_ok-setup.ensures in
    let rights = c.in_ok-setup.setup.rights in
    let wanted = c.in_ok-wanted.wanted in
    let accepted = e.accepted c.args.start.now (sym p.1) (record { within = within c.requires.front.is; named = p.0; labelled = p.2 }) in
    let old : Makers = J.seen c.args.journals.now in
    let new : Makers = J.seen c.make_run.new.journals in
    let answer = c.in_ok-answer.answer in
    let there = subst (λ r. IsMade (given_by r rights) wanted answer old new) (e.program ∙ p.1) c.in_ok-answer.ensures.answer in
    unless_told c.told.result (cut_answer c.requires.front rights accepted c.args.command.now (with_counts wanted there.0) (any_counts c.args.start.now c.args.command.now wanted there.0 c.in_ok-wanted.ensures.0) answer old new there.1) c.told.ensures.failed c.in_ok-answer.ensures.told
