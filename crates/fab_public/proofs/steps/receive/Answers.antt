use Rattle.std.proofs.Common.{Bool, if◌then◌else◌, [], refl, sym, ap, subst, ◌∙◌}
use Rattle.std.proofs.lemmas.Result.{on_ok_weaker}
use Rattle.fab_release.specs.Replay.{hears, told}
use Rattle.fab_sent.specs.Messages.{all_spelled}
use Rattle.fab_wire.specs.Reading.{read_message}
use Rattle.fab_public.specs.Settings.{public_at, sight_at}
use Rattle.fab_public.specs.States.{IsKept}
use Rattle.fab_public.proofs.Outcomes.{if_ok_weaker}
use Rattle.fab_public.proofs.steps.receive.Goals as goal

pub returns-then-is_heard-clause-kept : goal.returns-then-is_heard-clause-kept
returns-then-is_heard-clause-kept c =
    let sight = sight_at c.args.setting.now in
    let P = public_at c.args.setting.now in
    on_ok_weaker c.hear_bytes.result
    (λ h k is. subst (λ (b : Bool). IsKept sight P c.hear_bytes.new.kept (if b then hears sight P c.args.node c.args.sender (read_message c.args.bytes.now) k else k))
    (sym (sym (c.is_heard.ensures sight P refl) ∙ c.if-is_heard.true)) (h k is))
    c.hear_bytes.ensures.kept

pub returns-then-is_heard-clause-sent : goal.returns-then-is_heard-clause-sent
returns-then-is_heard-clause-sent c =
    let sight = sight_at c.args.setting.now in
    let P = public_at c.args.setting.now in
    if_ok_weaker c.hear_bytes.result
    (λ sent h k is. h k is ∙ ap (λ (b : Bool). all_spelled (if b then told sight P c.args.node c.args.sender (read_message c.args.bytes.now) k else []))
    (sym (sym (c.is_heard.ensures sight P refl) ∙ c.if-is_heard.true)))
    c.hear_bytes.ensures.sent

pub returns-else-is_heard-clause-kept : goal.returns-else-is_heard-clause-kept
returns-else-is_heard-clause-kept c = λ k is.
    let sight = sight_at c.args.setting.now in
    let P = public_at c.args.setting.now in
    subst (λ (b : Bool). IsKept sight P c.args.kept.now (if b then hears sight P c.args.node c.args.sender (read_message c.args.bytes.now) k else k))
    (sym (sym (c.is_heard.ensures sight P refl) ∙ c.if-is_heard.false)) is

pub returns-else-is_heard-clause-sent : goal.returns-else-is_heard-clause-sent
returns-else-is_heard-clause-sent c = λ k is.
    let sight = sight_at c.args.setting.now in
    let P = public_at c.args.setting.now in
    c.new.ensures ∙ ap (λ (b : Bool). all_spelled (if b then told sight P c.args.node c.args.sender (read_message c.args.bytes.now) k else []))
    (sym (sym (c.is_heard.ensures sight P refl) ∙ c.if-is_heard.false))
