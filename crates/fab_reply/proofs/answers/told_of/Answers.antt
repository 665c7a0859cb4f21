use Rattle.std.proofs.Common.{sym, subst}
use Rattle.fab_tree.specs.declared.resolved.Resolved.{Resolved}
use Rattle.fab_places.specs.Places.{HasNumbers}
use Rattle.fab_setup.proofs.Numbers.{numbered}
use Rattle.fab_reply.proofs.Watching.{can_be_seen, not_unread, ready_read}
use Rattle.fab_reply.proofs.answers.told_of.Goals as goal

pub read_in-requires-clause-seen : goal.read_in-requires-clause-seen
read_in-requires-clause-seen c =
    let p = rw c.in-Ok.is at c.in_ok-program-in-Reads.ensures in
    can_be_seen c.args.start.now c.in-Ok.program c.requires.within c.requires.right p.1

pub read_in-requires-clause-numbers : goal.read_in-requires-clause-numbers
read_in-requires-clause-numbers c =
    let p = rw c.in-Ok.is at c.in_ok-program-in-Reads.ensures in
    subst (λ (r : Resolved). HasNumbers r) (sym p.1) (numbered c.args.start.now c.requires.within)

pub returns-in-Some : goal.returns-in-Some
returns-in-Some c =
    let p = rw c.in-Ok.is at c.in_ok-program-in-Reads.ensures in
    let h = rw c.in-Some.is at c.in_ok-reading-in-Ok.ensures in
    ready_read c.args.start.now c.in-Ok.program p.1 _ _ c.args.telling.now c.in-Some.reading _ c.in-Reads.is h

pub unreachable-requires : goal.unreachable-requires
unreachable-requires c =
    let p = rw c.in-Ok.is at c.in_ok-program-in-Reads.ensures in
    let h = rw c.in-None.is at c.in_ok-reading-in-Ok.ensures in
    not_unread c.args.start.now c.in-Ok.program p.1 _ _ c.args.telling.now c.in-Reads.is c.requires.named h
