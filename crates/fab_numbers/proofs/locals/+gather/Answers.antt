use Rattle.std.proofs.Common.{◌≡◌, ◌++◌}
use Rattle.std.specs.List.{flat_map}
use Rattle.fab_tree.specs.Limits.{declared_in}
use Rattle.fab_numbers.proofs.DeclaredLocals.{gathered_none, gathered_some, gathered_while, gathered_atomic, on_ok}
use Rattle.fab_numbers.proofs.locals.+gather.Goals as goal

pub gather-returns-in-None : goal.gather-returns-in-None
gather-returns-in-None t c = gathered_none c.args.locals.now.items c.gather_block.new.locals.items c.args.statement.now c.in-If.condition c.in-If.block c.as_slice.result.now c.in-If.otherwise c.in-If.is c.in-None.is c.in_ok-gather_block-in-If.ensures c.as_slice.ensures

pub gather-returns-in-Some : goal.gather-returns-in-Some
gather-returns-in-Some t c =
    on_ok c.gather_block-in-Some.result (c.gather_block-in-Some.new.locals.items ≡ c.gather_block.new.locals.items ++ flat_map declared_in c.as_slice-in-Some.result.now) (c.gather_block-in-Some.new.locals.items ≡ c.args.locals.now.items ++ declared_in c.args.statement.now)
    c.gather_block-in-Some.ensures
    (λ h. gathered_some c.args.locals.now.items c.gather_block-in-Some.new.locals.items c.args.statement.now c.in-If.condition c.in-If.block c.as_slice.result.now c.gather_block.new.locals.items c.in-Some.other c.as_slice-in-Some.result.now c.in-If.otherwise c.in-If.is c.in-Some.is c.in_ok-gather_block-in-If.ensures c.as_slice.ensures h c.as_slice-in-Some.ensures)

pub gather-returns-in-While : goal.gather-returns-in-While
gather-returns-in-While t c =
    on_ok c.gather_block-in-While.result (c.gather_block-in-While.new.locals.items ≡ c.args.locals.now.items ++ flat_map declared_in c.as_slice-in-While.result.now) (c.gather_block-in-While.new.locals.items ≡ c.args.locals.now.items ++ declared_in c.args.statement.now)
    c.gather_block-in-While.ensures
    (λ h. gathered_while c.args.locals.now.items c.gather_block-in-While.new.locals.items c.args.statement.now c.in-While.condition c.in-While.block c.as_slice-in-While.result.now c.in-While.is h c.as_slice-in-While.ensures)

pub gather-returns-in_ok-gather_block-in-Atomic : goal.gather-returns-in_ok-gather_block-in-Atomic
gather-returns-in_ok-gather_block-in-Atomic t c =
    on_ok c.gather_block-in-Atomic-2.result (c.gather_block-in-Atomic-2.new.locals.items ≡ c.gather_block-in-Atomic.new.locals.items ++ flat_map declared_in c.as_slice-in-Atomic-2.result.now) (c.gather_block-in-Atomic-2.new.locals.items ≡ c.args.locals.now.items ++ declared_in c.args.statement.now)
    c.gather_block-in-Atomic-2.ensures
    (λ h. gathered_atomic c.args.locals.now.items c.gather_block-in-Atomic.new.locals.items c.gather_block-in-Atomic-2.new.locals.items c.args.statement.now
    c.in-Atomic.label c.in-Atomic.at c.in-Atomic.block c.as_slice-in-Atomic.result.now c.in-Atomic.otherwise c.as_slice-in-Atomic-2.result.now c.in-Atomic.is c.in_ok-gather_block-in-Atomic.ensures c.as_slice-in-Atomic.ensures h c.as_slice-in-Atomic-2.ensures)
