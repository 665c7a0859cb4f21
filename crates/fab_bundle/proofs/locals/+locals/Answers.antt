use Rattle.std.proofs.Common.{ap, arith}
use Rattle.fab_tree.specs.Limits.{declared_in}
use Rattle.fab_bundle.proofs.CountRules.{in_all, locals_in_if, locals_in_while, locals_in_atomic, other_there, other_none, after_both, after_one}
use Rattle.fab_bundle.proofs.locals.+locals.Goals as goal

pub room_after_locals-returns-in_err-left-in-If : goal.room_after_locals-returns-in_err-left-in-If
room_after_locals-returns-in_err-left-in-If t c =
    let size = locals_in_if c.in-If.condition c.in-If.block c.as_slice-in-If.result.now c.as_slice-in-If.ensures c.in-If.otherwise c.in-If.is in
    rw c.from_residual.ensures (omega (arith, c.in_err-left-in-If.ensures, size))

pub room_after_locals-returns-in_err-left-in-Atomic :
    goal.room_after_locals-returns-in_err-left-in-Atomic
room_after_locals-returns-in_err-left-in-Atomic t c =
    let size = locals_in_atomic c.in-Atomic.label c.in-Atomic.at c.in-Atomic.block c.as_slice-in-Atomic.result.now c.in-Atomic.otherwise c.as_slice-in-Atomic.ensures c.in-Atomic.is in
    rw c.from_residual-in_err-left-in-Atomic.ensures (omega (arith, c.in_err-left-in-Atomic.ensures, size))

pub room_after_locals-returns-in-While : goal.room_after_locals-returns-in-While
room_after_locals-returns-in-While t c =
    after_one _ _ _ _ (locals_in_while c.in-While.condition c.in-While.block c.as_slice.result.now c.as_slice.ensures c.in-While.is) c.room_after_locals_of_block.ensures

pub room_after_locals-returns-in-Some : goal.room_after_locals-returns-in-Some
room_after_locals-returns-in-Some t c =
    let size = locals_in_if c.in-If.condition c.in-If.block c.as_slice-in-If.result.now c.as_slice-in-If.ensures c.in-If.otherwise c.in-If.is in
    let other = other_there declared_in c.in-Some.other c.as_slice-in-Some.result.now c.in-Some.is c.as_slice-in-Some.ensures in
    after_both _ _ _ _ _ _ c.in_ok-left-in-If.ensures (omega (arith, size, other)) c.room_after_locals_of_block-in-Some.ensures

pub room_after_locals-returns-in-None : goal.room_after_locals-returns-in-None
room_after_locals-returns-in-None t c =
    let size = locals_in_if c.in-If.condition c.in-If.block c.as_slice-in-If.result.now c.as_slice-in-If.ensures c.in-If.otherwise c.in-If.is in
    omega (arith, c.in_ok-left-in-If.ensures, size, other_none declared_in c.in-None.is)

pub room_after_locals-returns-in_ok-left-in-Atomic :
    goal.room_after_locals-returns-in_ok-left-in-Atomic
room_after_locals-returns-in_ok-left-in-Atomic t c =
    let size = locals_in_atomic c.in-Atomic.label c.in-Atomic.at c.in-Atomic.block c.as_slice-in-Atomic.result.now c.in-Atomic.otherwise c.as_slice-in-Atomic.ensures c.in-Atomic.is in
    after_both _ _ _ _ _ _ c.in_ok-left-in-Atomic.ensures (omega (arith, size, ap (in_all declared_in) c.as_slice-in-Atomic-2.ensures)) c.room_after_locals_of_block-in-Atomic-2.ensures
