use Rattle.std.proofs.Common.{◌≡◌, ◌∷◌, [], sym, subst, MatchOption}
use Rattle.fab_queues.specs.Channels.{Traffic, queue_of, rest_of}
use Rattle.fab_queues.proofs.Pairs.{here_is, opened}
use Rattle.fab_queues.proofs.queues.Queues.front.Goals as goal

pub returns : goal.returns
unfolding queue_of
returns c =
    let o = opened c.self.view_is c.requires.from c.requires.to c.self.invariant c.place.ensures.place c.index.ensures in
    subst (λ (t : Traffic). MatchOption c.front.result (t.waiting ≡ []) (λ m. t.waiting ≡ m.now ∷ rest_of t.waiting)) (sym (here_is o)) c.front.ensures
