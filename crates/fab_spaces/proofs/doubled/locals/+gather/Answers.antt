use Rattle.std.proofs.Common.{◌++◌, ap, ◌∙◌}
use Rattle.std.specs.List.{flat_map}
use Rattle.fab_tree.specs.Limits.{declared_in}
use Rattle.fab_rules.specs.Known.{shown}
use Rattle.fab_spaces.proofs.Gathered.{in_while, without_else, with_else, in_atomic, behind, behind_both}
use Rattle.fab_spaces.proofs.doubled.locals.+gather.Goals as goal

pub gather-returns-in-Some : goal.gather-returns-in-Some
gather-returns-in-Some t c =
    behind_both c.gather_block-in-Some.result (shown c.args.locals.now.items) (shown c.gather_block-in-Some.new.locals.items) (flat_map declared_in c.as_slice.result.now)
    (shown c.gather_block.new.locals.items) (flat_map declared_in c.as_slice-in-Some.result.now) (declared_in c.args.statement.now)
    c.in_ok-gather_block-in-If.ensures
    (with_else c.args.statement.now c.in-If.block c.as_slice.result.now c.as_slice.ensures c.in-Some.other c.as_slice-in-Some.result.now c.as_slice-in-Some.ensures c.in-If.condition c.in-If.otherwise c.in-If.is c.in-Some.is)
    c.gather_block-in-Some.ensures

pub gather-returns-in-None : goal.gather-returns-in-None
gather-returns-in-None t c =
    c.in_ok-gather_block-in-If.ensures
    ∙ ap (λ l. shown c.args.locals.now.items ++ l) (without_else c.args.statement.now c.in-If.block c.as_slice.result.now c.as_slice.ensures c.in-If.condition c.in-If.otherwise c.in-If.is c.in-None.is)

pub gather-returns-in-While : goal.gather-returns-in-While
gather-returns-in-While t c =
    behind c.gather_block-in-While.result (shown c.args.locals.now.items) (shown c.gather_block-in-While.new.locals.items) (flat_map declared_in c.as_slice-in-While.result.now) (declared_in c.args.statement.now)
    (in_while c.args.statement.now c.in-While.block c.as_slice-in-While.result.now c.as_slice-in-While.ensures c.in-While.condition c.in-While.is)
    c.gather_block-in-While.ensures

pub gather-returns-in_ok-gather_block-in-Atomic : goal.gather-returns-in_ok-gather_block-in-Atomic
gather-returns-in_ok-gather_block-in-Atomic t c =
    behind_both c.gather_block-in-Atomic-2.result (shown c.args.locals.now.items) (shown c.gather_block-in-Atomic-2.new.locals.items) (flat_map declared_in c.as_slice-in-Atomic.result.now)
    (shown c.gather_block-in-Atomic.new.locals.items) (flat_map declared_in c.as_slice-in-Atomic-2.result.now) (declared_in c.args.statement.now)
    c.in_ok-gather_block-in-Atomic.ensures
    (in_atomic c.args.statement.now c.in-Atomic.block c.as_slice-in-Atomic.result.now c.as_slice-in-Atomic.ensures c.in-Atomic.otherwise c.as_slice-in-Atomic-2.result.now c.as_slice-in-Atomic-2.ensures c.in-Atomic.label c.in-Atomic.at c.in-Atomic.is)
    c.gather_block-in-Atomic-2.ensures
