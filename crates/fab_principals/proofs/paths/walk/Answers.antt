use Rattle.std.proofs.Common.{◌≡◌, ℕ, ◌<◌, ◌-◌, [], ◌∷◌, ◌++◌, IsTrue, List, slice_index, arith, sym, ap, ◌∙◌, append_assoc}
use Rattle.std.proofs.lemmas.Bool.{both_ways, and_parts, and_from}
use Rattle.fab_principals.specs.Sets.{in_set}
use Rattle.fab_principals.specs.Tables.{inward}
use Rattle.fab_principals.proofs.RingLemmas.{walk_end, AreRings-away, AreRings-there, AreRings-suc, AreRings-meets, AreRings-next, inward-next}
use Rattle.fab_principals.proofs.paths.walk.Goals as goal

pub overflow_sub-left : goal.overflow_sub-left
overflow_sub-left c = AreRings-away c.args.rows.now c.args.q c.args.rings.now c.loop-at.left c.loop-at.at c.loop-at.invariant.rings c.loop-at-test.true

pub bounds-rows-at : goal.bounds-rows-at
bounds-rows-at c =
    let some : 0 < c.loop-at.left = AreRings-away c.args.rows.now c.args.q c.args.rings.now c.loop-at.left c.loop-at.at c.loop-at.invariant.rings c.loop-at-test.true in
    (AreRings-meets c.args.rows.now c.args.q c.args.rings.now (c.loop-at.left - 1) c.loop-at.at (AreRings-suc c.args.rows.now c.args.q c.args.rings.now c.loop-at.left c.loop-at.at some c.loop-at.invariant.rings)).0

pub unreachable-requires : goal.unreachable-requires
unreachable-requires c =
    let some : 0 < c.loop-at.left = AreRings-away c.args.rows.now c.args.q c.args.rings.now c.loop-at.left c.loop-at.at c.loop-at.invariant.rings c.loop-at-test.true in
    let meets = (AreRings-meets c.args.rows.now c.args.q c.args.rings.now (c.loop-at.left - 1) c.loop-at.at
    (AreRings-suc c.args.rows.now c.args.q c.args.rings.now c.loop-at.left c.loop-at.at some c.loop-at.invariant.rings)).1 in
    both_ways _ (c.in-None.ensures.none meets.0) (and_from _ _ meets.1 meets.2)

pub loop-at-preserved : goal.loop-at-preserved
loop-at-preserved c =
    let some : 0 < c.loop-at.left = AreRings-away c.args.rows.now c.args.q c.args.rings.now c.loop-at.left c.loop-at.at c.loop-at.invariant.rings c.loop-at-test.true in
    let rows = c.args.rows.now in
    let rings = c.args.rings.now in
    let left = c.loop-at.left in
    let at = c.loop-at.at in
    let both : IsTrue (in_set (slice_index rows at) c.in-Some.next) × IsTrue (in_set (slice_index rings (left - 1)) c.in-Some.next) = and_parts _ _ c.in-Some.ensures.found in
    let step : inward rows rings left at ≡ c.in-Some.next ∷ inward rows rings (left - 1) c.in-Some.next =
    inward-next rows rings left (left - 1) at (omega arith) ∙ ap (λ (n : ℕ). n ∷ inward rows rings (left - 1) n) (sym c.in-Some.ensures.lowest) in
    record {
      within = omega arith;
      rings = AreRings-next rows c.args.q rings (left - 1) at c.in-Some.next (AreRings-suc rows c.args.q rings left at some c.loop-at.invariant.rings) both.0 both.1;
      walked = ap (λ (xs : List ℕ). xs ++ inward rows rings (left - 1) c.in-Some.next) c.in_ok-push-2.ensures.items
          ∙ append_assoc c.loop-at.chain.items (c.in-Some.next ∷ []) (inward rows rings (left - 1) c.in-Some.next) ∙ ap (λ (xs : List ℕ). c.loop-at.chain.items ++ xs) (sym step) ∙ c.loop-at.invariant.walked;
    }

pub returns : goal.returns
returns c = walk_end c.args.rows.now c.args.rings.now c.loop-at.chain.items _ c.loop-at.left c.loop-at.at (AreRings-there c.args.rows.now c.args.q c.args.rings.now c.loop-at.left c.loop-at.at c.loop-at.invariant.rings c.loop-at-test.false) c.loop-at.invariant.walked
