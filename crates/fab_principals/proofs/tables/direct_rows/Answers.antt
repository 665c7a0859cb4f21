use Rattle.std.proofs.Common.{◌<◌, ◌^◌, All, lit<, replicate, get_or, ℕ, [], Contains, subst, sym, ap, ◌∙◌, List, ◌||◌, arith}
use Rattle.std.proofs.lemmas.List.{take_all}
use Rattle.std.proofs.lemmas.List.Elements.{All-set, All-replicate}
use Rattle.fab_principals.specs.Sets.{in_set}
use Rattle.fab_principals.specs.Tables.{IsTable}
use Rattle.fab_principals.proofs.TableLemmas.{IsTable-zero, direct_more}
use Rattle.fab_principals.proofs.tables.direct_rows.Goals as goal

-- the empty table, of rows that fit
abbrev StartsWell : List ℕ → ℕ → Type 0
StartsWell rows count = record { table : IsTable rows count (λ p q. Contains {X = ℕ × ℕ} [] (p, q)); fits : All (λ row. row < 2 ^ 64) rows }

starts_well : (count : ℕ) → StartsWell (replicate count 0) count
starts_well count = record { table = IsTable-zero count; fits = All-replicate (λ row. row < 2 ^ 64) count 0 (lit< tt) }

pub loop-pair-init : goal.loop-pair-init
loop-pair-init c = subst (λ (w : List ℕ). StartsWell w c.args.count) (sym (c.in_ok-rows.ensures.items_if_clones_equal (λ y e. e))) (starts_well c.args.count)

pub loop-pair-preserved : goal.loop-pair-preserved
loop-pair-preserved c = record {
  table = direct_more c.loop-pair.rows.items c.args.count c.args.pairs.now c.loop-pair.pair-index c.index.result.now c.union.result c.loop-pair-test.true
      (c.requires.declared c.loop-pair.pair-index (0, 0) c.loop-pair-test.true).0 c.loop-pair.invariant.table c.index.ensures
      (λ q. c.union.ensures.either q ∙ ap (λ t. in_set c.index.result.now q || t) (c.only.ensures q));
  fits = All-set (λ row. row < 2 ^ 64) c.loop-pair.rows.items (get_or c.args.pairs.now c.loop-pair.pair-index (0, 0)).0 c.union.result (omega arith) c.loop-pair.invariant.fits;
}

pub returns-clause-table : goal.returns-clause-table
returns-clause-table c =
    subst (λ (w : List (ℕ × ℕ)). IsTable c.loop-pair.rows.items c.args.count (λ p q. Contains w (p, q))) (take_all c.loop-pair.pair-index c.args.pairs.now (omega arith)) c.loop-pair.invariant.table
