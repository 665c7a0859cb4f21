use Rattle.std.proofs.Common.{◌≡◌, ◌∷◌, ◌+◌, ◌*◌, ◌<◌, arith, rules, drop, sym, ap, ◌∙◌, subst, Option, IfOk}
use Rattle.fab_tree.specs.declared.statement.Statement.{Statement}
use Rattle.fab_language.specs.declared.rule.Fault.{Fault}
use Rattle.fab_language.specs.Heads.{heads_in, walk}
use Rattle.fab_language.proofs.Weights.{weight, weight_within}
use Rattle.fab_faults.specs.HeadFaults.{among}
use Rattle.fab_rules.specs.First.{first_from}
use Rattle.fab_faults.proofs.Walks.{found_atomic, found_next, kept_further, next_left}
use Rattle.fab_faults.proofs.walk.+walk.Goals as goal

pub in_row-in_statement-requires : goal.in_row-in_statement-requires
in_row-in_statement-requires g t c =
    let w = weight_within c.args.statements.now c.loop-statement.statement-index c.statement-item.result c.loop-statement-test.true c.statement-item.is in
    let h : 4 * weight c.statement-item.result < t = omega (arith, w, c.decreases) in
    λ κs lives. (h, search rules)

pub in_statement-returns-in-Atomic-clause-first : goal.in_statement-returns-in-Atomic-clause-first
in_statement-returns-in-Atomic-clause-first g t c =
    let says = g.R.HeadRule.says c.args.rule.now in
    let known = c.args.known.now in
    let parts = ap (λ (x : Statement). first_from c.args.first (among says (walk x known).heads)) c.in-Atomic.is ∙ found_atomic says c.args.first known c.in-Atomic.label c.in-Atomic.block c.in-Atomic.otherwise c.in-Atomic.at in
    subst (λ (f : Option Fault). IfOk c.in_attempt.result (λ r. r ≡ f)) (sym parts) c.in_attempt.ensures.first

pub in_row-loop-statement-preserved : goal.in_row-loop-statement-preserved
in_row-loop-statement-preserved g t c =
    let i = c.loop-statement.statement-index in
    let xs = c.args.statements.now in
    let x = c.statement-item.result in
    let says = g.R.HeadRule.says c.args.rule.now in
    let left : drop i xs ≡ x ∷ drop (i + 1) xs = next_left xs i x c.loop-statement-test.true c.statement-item.is in
    let rest = drop (i + 1) xs in
    record {
      found =
          ap (λ f. first_from f (among says (heads_in rest c.in_statement.new.known).heads)) c.in_ok-first.ensures.first
          ∙ ap (λ k. first_from (first_from c.loop-statement.first (among says (walk x c.loop-statement.known).heads)) (among says (heads_in rest k).heads)) c.in_ok-first.ensures.behind
          ∙ sym (found_next says c.loop-statement.first c.loop-statement.known x rest)
          ∙ ap (λ ys. first_from c.loop-statement.first (among says (heads_in ys c.loop-statement.known).heads)) (sym left)
          ∙ c.loop-statement.invariant.found;
      behind =
          ap (λ k. (heads_in rest k).behind) c.in_ok-first.ensures.behind
          ∙ ap (λ ys. (heads_in ys c.loop-statement.known).behind) (sym left)
          ∙ c.loop-statement.invariant.behind;
      kept = kept_further c.args.known.now c.loop-statement.known c.in_statement.new.known c.loop-statement.invariant.kept c.in_ok-first.ensures.kept;
    }
