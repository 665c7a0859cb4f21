use Rattle.std.proofs.Common.{ap, ◌∙◌}
use Rattle.fab_public.proofs.Outcomes.{if_ok_weaker, on_ok_from}
use Rattle.fab_release.specs.Replay.{StoreSeen}
use Rattle.fab_protocol.specs.Stores.{asks}
use Rattle.fab_sent.specs.Messages.{all_spelled}
use Rattle.fab_public.specs.Settings.{public_at, sight_at}
use Rattle.fab_public.specs.States.{unstored}
use Rattle.fab_public.proofs.Standing.{seen_at}
use Rattle.fab_public.proofs.stores.wake.Goals as goal

pub returns-clause-kept : goal.returns-clause-kept
returns-clause-kept c = on_ok_from c.asks.result (λ k roots is. c.in_ok-make_room.ensures.kept k roots is)

pub returns-clause-sent : goal.returns-clause-sent
returns-clause-sent c =
    let sight = sight_at c.args.setting.now in
    let P = public_at c.args.setting.now in
    if_ok_weaker c.asks.result
    (λ sent h k roots is. h
    ∙ ap (λ (x : StoreSeen). all_spelled (asks x.shelf).sends)
    (seen_at (unstored sight P) (λ x. x) (λ x. Unit {0}) c.make_room.new.stores.items k c.args.store c.from.result c.index.result.now
    (c.in_ok-make_room.ensures.kept k roots is) c.in_ok-make_room.ensures.made c.from.ensures c.index.ensures))
    c.asks.ensures
