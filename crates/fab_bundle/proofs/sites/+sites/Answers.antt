use Rattle.std.proofs.Common.{◌+◌, length, refl, ap, arith}
use Rattle.fab_tree.specs.Sites.{in_expression, in_statement}
use Rattle.fab_bundle.proofs.CountRules.{in_all, sites_in_if, sites_in_while, sites_in_atomic, other_there, other_none, after_both}
use Rattle.fab_bundle.proofs.sites.+sites.Goals as goal

pub room_after_statement-returns-in_err-left-in-If-2 :
    goal.room_after_statement-returns-in_err-left-in-If-2
room_after_statement-returns-in_err-left-in-If-2 t c =
    let size = sites_in_if c.in-If.condition c.in-If.block c.as_slice-in-If.result.now c.as_slice-in-If.ensures c.in-If.otherwise c.in-If.is in
    rw c.from_residual-in_err-left-in-If-2.ensures (omega (arith, c.in_ok-left-in-If.ensures, c.in_err-left-in-If-2.ensures, size))

pub room_after_statement-returns-in_err-left-in-While :
    goal.room_after_statement-returns-in_err-left-in-While
room_after_statement-returns-in_err-left-in-While t c =
    let size = sites_in_while c.in-While.condition c.in-While.block c.in-While.block refl c.in-While.is in
    rw c.from_residual-in_err-left-in-While.ensures (omega (arith, c.in_err-left-in-While.ensures, size))

pub room_after_statement-returns-in_err-left-in-Atomic :
    goal.room_after_statement-returns-in_err-left-in-Atomic
room_after_statement-returns-in_err-left-in-Atomic t c =
    let size = sites_in_atomic c.in-Atomic.label c.in-Atomic.at c.in-Atomic.block c.as_slice-in-Atomic.result.now c.in-Atomic.otherwise c.as_slice-in-Atomic.ensures c.in-Atomic.is in
    rw c.from_residual-in_err-left-in-Atomic.ensures (omega (arith, c.in_err-left-in-Atomic.ensures, size))

pub room_after_statement-returns-in-Some : goal.room_after_statement-returns-in-Some
room_after_statement-returns-in-Some t c =
    let size = sites_in_if c.in-If.condition c.in-If.block c.as_slice-in-If.result.now c.as_slice-in-If.ensures c.in-If.otherwise c.in-If.is in
    let other = other_there in_statement c.in-Some.other c.as_slice-in-Some.result.now c.in-Some.is c.as_slice-in-Some.ensures in
    after_both _ _ _ (length (in_expression c.in-If.condition) + in_all in_statement c.as_slice-in-If.result.now) _ _ (omega (arith, c.in_ok-left-in-If.ensures, c.in_ok-left-in-If-2.ensures)) (omega (arith, size, other)) c.room_after_block-in-Some.ensures

pub room_after_statement-returns-in-None : goal.room_after_statement-returns-in-None
room_after_statement-returns-in-None t c =
    let size = sites_in_if c.in-If.condition c.in-If.block c.as_slice-in-If.result.now c.as_slice-in-If.ensures c.in-If.otherwise c.in-If.is in
    omega (arith, c.in_ok-left-in-If.ensures, c.in_ok-left-in-If-2.ensures, size, other_none in_statement c.in-None.is)

pub room_after_statement-returns-in_ok-left-in-While :
    goal.room_after_statement-returns-in_ok-left-in-While
room_after_statement-returns-in_ok-left-in-While t c =
    let size = sites_in_while c.in-While.condition c.in-While.block c.as_slice-in-While.result.now c.as_slice-in-While.ensures c.in-While.is in
    after_both _ _ _ _ _ _ c.in_ok-left-in-While.ensures size c.room_after_block-in-While.ensures

pub room_after_statement-returns-in_ok-left-in-Atomic :
    goal.room_after_statement-returns-in_ok-left-in-Atomic
room_after_statement-returns-in_ok-left-in-Atomic t c =
    let size = sites_in_atomic c.in-Atomic.label c.in-Atomic.at c.in-Atomic.block c.as_slice-in-Atomic.result.now c.in-Atomic.otherwise c.as_slice-in-Atomic.ensures c.in-Atomic.is in
    after_both _ _ _ _ _ _ c.in_ok-left-in-Atomic.ensures (omega (arith, size, ap (in_all in_statement) c.as_slice-in-Atomic-2.ensures)) c.room_after_block-in-Atomic-2.ensures
