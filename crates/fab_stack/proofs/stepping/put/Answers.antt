use Rattle.std.proofs.Common.{refl, sym, ◌∙◌}
use Rattle.fab_stack.specs.Stacks.{place, trials}
use Rattle.fab_stack.proofs.Stacks.{counts_same}
use Rattle.fab_stack.proofs.Behind.{put_behind}
use Rattle.fab_stack.proofs.stepping.put.Goals as goal

pub returns-clause-entries : goal.returns-clause-entries
returns-clause-entries c = λ heaps.
    put_behind c.args.stack.now.items c.push.new.self.items _ (place c.args.method.now c.args.depth) c.args.statements.now heaps (sym c.is_empty.ensures ∙ c.if-is_empty.false) c.in_ok-push.ensures.items refl refl

pub returns-clause-trials : goal.returns-clause-trials
returns-clause-trials c = counts_same c.args.stack.now.items c.push.new.self.items _ (trials c.args.stack.now.items) c.in_ok-push.ensures.items refl refl
