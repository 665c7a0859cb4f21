use Rattle.std.proofs.Common.{refl, ◌∙◌, length}
use Rattle.fab_stack.proofs.Stacks.{put_try, counts_more}
use Rattle.fab_stack.proofs.stepping.attempt.Goals as goal

pub returns-clause-entries : goal.returns-clause-entries
returns-clause-entries c =
    let heaps = c.args.state.now.base.saved in
    rw c.in_ok-locals.ensures.saved
    (put_try c.put.new.stack.items c.push.new.self.items _ c.args.state.now.state.heap heaps c.in_ok-push.ensures.items refl ∙ rw (c.in_ok-put.ensures.entries heaps, c.in_ok-locals.ensures.locals) refl)

pub returns-clause-matched : goal.returns-clause-matched
returns-clause-matched c =
    rw c.in_ok-locals.ensures.saved (counts_more c.put.new.stack.items c.push.new.self.items _ (length c.args.state.now.base.saved) c.in_ok-push.ensures.items refl (c.in_ok-put.ensures.trials ∙ c.requires.matched))
