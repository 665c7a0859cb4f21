use Rattle.std.proofs.Common.{◌*◌, ◌<◌, List, length, refl, arith, ◌∙◌, ap}
use Rattle.std.proofs.lemmas.Iterator.Adapters.{YieldsList-from_vec}
use Rattle.std.proofs.lemmas.Iterator.Consumers.{YieldsList-turn}
use Rattle.fab_tree.specs.declared.statement.Statement.{Statement}
use Rattle.fab_tree.specs.declared.statement.Statement.TheVariants.{Atomic, If}
use Rattle.fab_language.proofs.Weights.{weight, weight_within}
use Rattle.fab_holes.specs.Holes.{filled_statement}
use Rattle.fab_infer.specs.Fill.{of_labels}
use Rattle.fab_infer.proofs.Fills.{of_atomic, of_if, of_more, of_while}
use Rattle.fab_infer.proofs.filled.+fill.Goals as goal

pub fill_choice-returns : goal.fill_choice-returns
fill_choice-returns t c =
    let s = of_labels c.args.declared.now.labels.now in
    let a = c.args in
    let h = c.in_ok-block in
    let g = c.in_ok-otherwise in
    of_if s (If a.condition a.block a.otherwise) a.condition a.block h.block a.otherwise g.otherwise a.choice.now h.left.now g.left.now refl h.ensures g.ensures

pub fill_atomic-returns : goal.fill_atomic-returns
fill_atomic-returns t c =
    let s = of_labels c.args.declared.now.labels.now in
    let a = c.args in
    let h = c.in_ok-block in
    let g = c.in_ok-otherwise in
    of_atomic s (Atomic a.label a.block a.otherwise a.at) a.label a.block h.block a.otherwise g.otherwise a.at a.choice.now h.left.now g.left.now refl h.ensures g.ensures

pub fill_statement-returns-in_ok-block-in-While : goal.fill_statement-returns-in_ok-block-in-While
fill_statement-returns-in_ok-block-in-While t c =
    let s = of_labels c.args.declared.now.labels.now in
    let w = c.in-While in
    let h = c.in_ok-block-in-While in
    of_while s c.args.statement w.condition w.block h.block c.args.choice.now h.left.now w.is h.ensures

pub fill_block-statements-preserved : goal.fill_block-statements-preserved
fill_block-statements-preserved t c =
    of_more (filled_statement (of_labels c.args.declared.now.labels.now)) c.statements.yielded c.in-Some.statement c.args.choice.now c.statements.left.now c.in_ok-statement.after.now c.statements.out c.push.new.self c.in_ok-statement.statement
    c.statements.invariant c.in_ok-statement.ensures c.in_ok-push.ensures.ok

pub fill_block-fill_statement-requires : goal.fill_block-fill_statement-requires
fill_block-fill_statement-requires t c =
    let all = c.args.block in
    let given = c.into_iter-statement-iterator.ensures.into_iter_gives in
    let vec_long = c.into_vec-statement-items.result.ok.0 in
    let is_long = given.1 ∙ vec_long ∙ ap (λ (l : List Statement). length l) c.into_vec-statement-items.ensures in
    let yields = YieldsList-from_vec {s = c.into_iter-statement-iterator.result} all (given.0 ∙ c.into_vec-statement-items.ensures) is_long in
    let turn = YieldsList-turn yields c.statements.yielded c.statements.statement-iterator c.statements.yielded_by c.next.result c.next.new.self c.in-Some.statement
    c.in-Some.is c.next.ensures.steps in
    let w = weight_within all (length c.statements.yielded) c.in-Some.statement turn.0 turn.1 in
    let h : 4 * weight c.in-Some.statement < t = omega (arith, w, c.decreases) in
    (h, tt)
