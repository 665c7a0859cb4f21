use Rattle.std.proofs.Common.{List, append-nil, arith, sym, ap, ◌++◌, ◌∙◌, ℕ}
use Rattle.std.proofs.lemmas.List.{drop_all}
use Rattle.fab_release.specs.declared.release.Released.{Released}
use Rattle.fab_release.specs.Replay.{at_start, public, sent_behind}
use Rattle.fab_sent.specs.Messages.{messages_in}
use Rattle.fab_public.specs.Settings.{public_at, sight_at}
use Rattle.fab_public.specs.States.{IsKept}
use Rattle.fab_public.proofs.Fronts.{step_on}
use Rattle.fab_public.proofs.whole.replay.Goals as goal

pub loop-entry-init : goal.loop-entry-init
loop-entry-init c =
    let s = c.args.setting.now in (
      at_start (sight_at s) (public_at s),
      c.in_ok-kept.ensures,
      λ n d few fewer. ap (λ (l : List (List ℕ)). l ++ sent_behind (sight_at s) (public_at s) (at_start (sight_at s) (public_at s)) c.args.released.now n d) (c.in_ok-sent.ensures n d),
    )

pub loop-entry-preserved : goal.loop-entry-preserved
loop-entry-preserved c =
    let sight = sight_at c.args.setting.now in
    let P = public_at c.args.setting.now in
    let is = c.loop-entry.invariant in
    step_on sight P c.args.released.now c.loop-entry.entry-index c.entry-item.result is.0 (IsKept sight P c.replay_one.new.kept)
    (messages_in c.loop-entry.sent) (messages_in c.replay_one.new.sent) (public sight P c.args.released.now)
    c.loop-entry-test.true c.entry-item.is (c.in_ok-replay_one.ensures is.0 is.1) is.2

pub returns : goal.returns
returns c = λ n d few fewer.
    let sight = sight_at c.args.setting.now in
    let P = public_at c.args.setting.now in
    let is = c.loop-entry.invariant in
    sym (append-nil (messages_in c.loop-entry.sent n d))
    ∙ ap (λ (l : List Released). messages_in c.loop-entry.sent n d ++ sent_behind sight P is.0 l n d) (sym (drop_all c.loop-entry.entry-index c.args.released.now (omega arith)))
    ∙ is.2 n d few fewer
