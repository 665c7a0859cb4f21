use Rattle.fab_reply.proofs.Watching.{set_unread}
use Rattle.fab_reply.proofs.answers.set_read.Goals as goal

pub returns-in-None : goal.returns-in-None
returns-in-None c s is =
    let h = rw c.in-None.is at c.in_ok-read_in-in-Reads.ensures in
    set_unread s c.args.program.now is _ _ c.args.telling.now c.in-Reads.is h
