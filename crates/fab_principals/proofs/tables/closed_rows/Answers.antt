use Rattle.std.proofs.Common.{◌≡◌, ℕ, length, subst, sym, ap, ◌∙◌, List, arith}
use Rattle.std.proofs.lemmas.List.{take_all, with_items_is}
use Rattle.fab_principals.specs.Tables.{IsTable, Reaches}
use Rattle.fab_principals.proofs.TableLemmas.{IsTable-start, closed_more, closed_same}
use Rattle.fab_principals.proofs.tables.closed_rows.Goals as goal
use Rattle.fab_principals.proofs.tables.closed_rows.Goals.{then-not-contains, else-not-contains}

pub loop-pair-init : goal.loop-pair-init
loop-pair-init c = IsTable-start c.in_ok-rows.rows.items c.args.count c.in_ok-rows.ensures

pub loop-pair-preserved : goal.loop-pair-preserved
loop-pair-preserved c =
    elim c.if-not-contains.branch [
      | then-not-contains w ↦
          let granted = rw w.deref_mut.ensures.value at w.grant.ensures in
          let size : length w.grant.new.rows ≡ length c.loop-pair.rows.items = omega (arith, ap length w.deref_mut.ensures.value) in
          let length_is : length w.grant.new.rows ≡ c.loop-pair.rows.len = omega (arith, size, c.loop-pair.rows.ok) in
          let more = closed_more c.loop-pair.rows.items w.grant.new.rows c.args.count c.args.pairs.now c.loop-pair.pair-index w.index-gained.result.now c.loop-pair-test.true
          (c.requires.declared c.loop-pair.pair-index (0, 0) c.loop-pair-test.true).1 c.loop-pair.invariant size w.index-gained.ensures granted in
          rw (w.rows-is, with_items_is c.loop-pair.rows w.grant.new.rows length_is) more
      | else-not-contains w ↦ rw (w.rows-is) (closed_same c.loop-pair.rows.items c.args.count c.args.pairs.now c.loop-pair.pair-index c.index.result.now c.loop-pair-test.true
          (c.requires.declared c.loop-pair.pair-index (0, 0) c.loop-pair-test.true).0 c.loop-pair.invariant c.index.ensures (sym c.contains.ensures ∙ w.if-not-contains.false))
    ]

pub returns : goal.returns
returns c =
    subst (λ (w : List (ℕ × ℕ)). IsTable c.loop-pair.rows.items c.args.count (λ p q. Reaches w p q)) (take_all c.loop-pair.pair-index c.args.pairs.now (omega arith)) c.loop-pair.invariant
