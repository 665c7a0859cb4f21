use Rattle.std.proofs.Common.{refl, arith}
use Rattle.fab_base.specs.declared.token.Piece.TheVariants as p
use Rattle.fab_lexer.proofs.Lexing.{came, came_none, after_blank, after_token, smaller, fitting_within, nothing_at, all_read, only_tokens, lexed_len}
use Rattle.fab_lexer.proofs.lexer.tokens.Goals as goal

pub overflow_add-at : goal.overflow_add-at
overflow_add-at c =
    let e = came c.args.bytes.now c.text.at c.in_ok-len.ensures c.in-Stands-Blank.is c.in-Stands-Blank.field-0-is in
    let s = smaller (p.Blank c.in-Stands-Blank.len) c.text.invariant e in
    omega (arith, s.0, s.1, c.requires)

pub text-smaller-in-Stands-Blank : goal.text-smaller-in-Stands-Blank
text-smaller-in-Stands-Blank c =
    let e = came c.args.bytes.now c.text.at c.in_ok-len.ensures c.in-Stands-Blank.is c.in-Stands-Blank.field-0-is in
    let s = smaller (p.Blank c.in-Stands-Blank.len) c.text.invariant e in
    omega (arith, s.0, s.1)

pub text-preserved-in-Stands-Blank : goal.text-preserved-in-Stands-Blank
text-preserved-in-Stands-Blank c =
    let e = came c.args.bytes.now c.text.at c.in_ok-len.ensures c.in-Stands-Blank.is c.in-Stands-Blank.field-0-is in
    after_blank c.in-Stands-Blank.len c.text.invariant e

pub overflow_add-end : goal.overflow_add-end
overflow_add-end c =
    let e = came c.args.bytes.now c.text.at c.in_ok-len.ensures c.in-Stands-Spelled.is c.in-Stands-Spelled.field-0-is in
    let s = smaller (p.Spelled c.in-Stands-Spelled.kind c.in-Stands-Spelled.len) c.text.invariant e in
    omega (arith, s.0, s.1, c.requires)

pub overflow_cast-end : goal.overflow_cast-end
overflow_cast-end c =
    let e = came c.args.bytes.now c.text.at c.in_ok-len.ensures c.in-Stands-Spelled.is c.in-Stands-Spelled.field-0-is in
    let s = smaller (p.Spelled c.in-Stands-Spelled.kind c.in-Stands-Spelled.len) c.text.invariant e in
    omega (arith, s.0, s.1, c.requires)

pub text-smaller : goal.text-smaller
text-smaller c =
    let e = came c.args.bytes.now c.text.at c.in_ok-len.ensures c.in-Stands-Spelled.is c.in-Stands-Spelled.field-0-is in
    let s = smaller (p.Spelled c.in-Stands-Spelled.kind c.in-Stands-Spelled.len) c.text.invariant e in
    omega (arith, s.0, s.1)

pub text-preserved : goal.text-preserved
text-preserved c =
    let e = came c.args.bytes.now c.text.at c.in_ok-len.ensures c.in-Stands-Spelled.is c.in-Stands-Spelled.field-0-is in
    after_token c.in-Stands-Spelled.kind c.in-Stands-Spelled.len _ _ c.text.invariant e refl c.in_ok-push-in-Stands-Spelled.ensures.ok

pub overflow_add-result : goal.overflow_add-result
overflow_add-result c =
    let e = came_none c.args.bytes.now c.text.at c.in_ok-len.ensures c.in-Unfit.is in
    let w = fitting_within c.in-Unfit.fitting c.text.invariant e in
    omega (arith, w, c.requires)

pub overflow_cast-result : goal.overflow_cast-result
overflow_cast-result c =
    let e = came_none c.args.bytes.now c.text.at c.in_ok-len.ensures c.in-Unfit.is in
    let w = fitting_within c.in-Unfit.fitting c.text.invariant e in
    omega (arith, w, c.requires)

pub returns-in-Unfit-clause-refused : goal.returns-in-Unfit-clause-refused
returns-in-Unfit-clause-refused c =
    let e = came_none c.args.bytes.now c.text.at c.in_ok-len.ensures c.in-Unfit.is in
    nothing_at c.in-Unfit.fitting c.text.invariant c.text-test.true e

pub returns-clause-found : goal.returns-clause-found
returns-clause-found c = all_read c.text.invariant c.text-test.false

pub returns-clause-only : goal.returns-clause-only
returns-clause-only c = only_tokens c.text.invariant c.text-test.false

pub returns-clause-count : goal.returns-clause-count
returns-clause-count c = lexed_len (all_read c.text.invariant c.text-test.false)
