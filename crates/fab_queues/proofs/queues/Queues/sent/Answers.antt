use Rattle.std.proofs.Common.{sym, ap, ◌∙◌}
use Rattle.fab_queues.specs.Channels.{Traffic, sent_of}
use Rattle.fab_queues.proofs.Pairs.{here_is, opened}
use Rattle.fab_queues.proofs.queues.Queues.sent.Goals as goal

pub returns : goal.returns
unfolding sent_of
returns c =
    let o = opened c.self.view_is c.requires.from c.requires.to c.self.invariant c.place.ensures.place c.index.ensures in
    c.sent.ensures ∙ ap (λ (t : Traffic). t.sent) (sym (here_is o))
