use Rattle.std.proofs.Common.{◌≡◌, ℕ, ◌+◌, List, length, sym, subst, arith}
use Rattle.fab_infer.specs.Masks.{AreRows, IsRow}
use Rattle.fab_infer.specs.declared.rows.Row.{Row}
use Rattle.fab_infer.proofs.Tabled.{row_push, rows_more}
use Rattle.fab_infer.proofs.rows.rows.Goals as goal

pub loop-k-preserved : goal.loop-k-preserved
loop-k-preserved c =
    let r = c.args.start.now in
    let row : Row = record { below = c.below.result; above = c.above.result } in
    let many = c.loop-k.invariant.many in
    let long = row_push c.loop-k.rows.items row c.push.new.self.items c.in_ok-push.ensures.items in
    let at : c.loop-k.k ≡ 0 + length c.loop-k.rows.items = omega (arith, many) in
    record {
      many = omega (arith, many, long);
      rows = subst (λ (rs : List Row). AreRows r 0 rs) (sym c.in_ok-push.ensures.items)
          (rows_more r 0 c.loop-k.rows.items row c.loop-k.invariant.rows (subst (λ (k : ℕ). IsRow r k row) at (record { below = c.below.ensures; above = c.above.ensures })));
    }
