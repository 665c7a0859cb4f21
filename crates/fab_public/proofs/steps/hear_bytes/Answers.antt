use Rattle.std.proofs.Common.{Option, sym, ap, subst, ◌∙◌}
use Rattle.std.proofs.lemmas.Result.{on_ok_weaker}
use Rattle.fab_base.specs.declared.message.Message.{Message}
use Rattle.fab_release.specs.Replay.{hears, told}
use Rattle.fab_sent.specs.Messages.{all_spelled}
use Rattle.fab_public.specs.Settings.{public_at, sight_at}
use Rattle.fab_public.specs.States.{IsKept}
use Rattle.fab_public.proofs.Outcomes.{if_ok_weaker}
use Rattle.fab_public.proofs.steps.hear_bytes.Goals as goal

pub returns-in-Some-clause-kept : goal.returns-in-Some-clause-kept
returns-in-Some-clause-kept c =
    let sight = sight_at c.args.setting.now in
    let P = public_at c.args.setting.now in
    on_ok_weaker c.hear.result
    (λ h k is. subst (λ (m : Option Message). IsKept sight P c.hear.new.kept (hears sight P c.args.node c.args.sender m k)) (sym (sym c.in_ok-read.ensures ∙ c.in-Some.is)) (h k is))
    c.hear.ensures.kept

pub returns-in-Some-clause-sent : goal.returns-in-Some-clause-sent
returns-in-Some-clause-sent c =
    let sight = sight_at c.args.setting.now in
    let P = public_at c.args.setting.now in
    if_ok_weaker c.hear.result
    (λ sent h k is. h k is ∙ ap (λ (m : Option Message). all_spelled (told sight P c.args.node c.args.sender m k)) (sym (sym c.in_ok-read.ensures ∙ c.in-Some.is)))
    c.hear.ensures.sent

pub returns-in-None-clause-kept : goal.returns-in-None-clause-kept
returns-in-None-clause-kept c = λ k is.
    let sight = sight_at c.args.setting.now in
    let P = public_at c.args.setting.now in
    subst (λ (m : Option Message). IsKept sight P c.args.kept.now (hears sight P c.args.node c.args.sender m k)) (sym (sym c.in_ok-read.ensures ∙ c.in-None.is)) is

pub returns-in-None-clause-sent : goal.returns-in-None-clause-sent
returns-in-None-clause-sent c = λ k is.
    let sight = sight_at c.args.setting.now in
    let P = public_at c.args.setting.now in
    c.new.ensures ∙ ap (λ (m : Option Message). all_spelled (told sight P c.args.node c.args.sender m k)) (sym (sym c.in_ok-read.ensures ∙ c.in-None.is))
