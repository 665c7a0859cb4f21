use Rattle.std.proofs.Common.{◌≡◌, ℕ, ◌+◌, ◌++◌, ◌∷◌, [], ◌↔◌, IsTrue, length, slice_index, arith, List, inl, inr, subst, sym, ap, ◌∙◌}
use Rattle.std.proofs.lemmas.Bool.{both_ways, cases_lt}
use Rattle.std.proofs.lemmas.List.{length-append}
use Rattle.fab_principals.specs.Sets.{in_set}
use Rattle.fab_principals.specs.Tables.{IsNear}
use Rattle.fab_principals.proofs.RingLemmas.{ring_more, ring_whole, rings_push}
use Rattle.fab_principals.proofs.paths.rings.Goals as goal

pub returns-then-wider-near-clause-none : goal.returns-then-wider-near-clause-none
returns-then-wider-near-clause-none c = λ rest lead.
    let reached = ring_whole c.args.rows.now c.args.q (length c.loop-wider.rings.items) c.loop-wider.near c.sources.result c.union-wider.result c.loop-wider.invariant.newest c.sources.ensures c.union-wider.ensures.either c.if-wider-near.true c.args.p rest lead in
    both_ways _ (sym c.contains.ensures ∙ c.loop-wider-test.true) reached

pub loop-wider-preserved : goal.loop-wider-preserved
loop-wider-preserved c =
    let rows = c.args.rows.now in
    let old = c.loop-wider.rings.items in
    let pushed : c.push.new.self.items ≡ old ++ c.loop-wider.near ∷ [] = c.in_ok-push.ensures.items in
    let longer : length c.push.new.self.items ≡ length old + 1 = omega (arith, ap length pushed, length-append old (c.loop-wider.near ∷ [])) in
    record {
      ring = λ j x below. subst (λ (rings : List ℕ). IsTrue (in_set (slice_index rings j) x) ↔ IsNear rows c.args.q j x) (sym pushed)
          (rings_push rows c.args.q old c.loop-wider.near c.loop-wider.invariant.ring c.loop-wider.invariant.newest j x (omega arith));
      far = λ j below near. elim (cases_lt j (length old)) [
        | inl inside ↦ c.loop-wider.invariant.far j inside near
        | inr past ↦
            let last : j ≡ length old = omega arith in
            let there : IsNear rows c.args.q (length old) c.args.p = subst (λ (k : ℕ). IsNear rows c.args.q k c.args.p) last near in
            both_ways _ (sym c.contains.ensures ∙ c.loop-wider-test.true) ((c.loop-wider.invariant.newest c.args.p).1 there)
      ];
      newest = λ x. subst (λ (k : ℕ). IsTrue (in_set c.union-wider.result x) ↔ IsNear rows c.args.q k x) (sym longer)
          (ring_more rows c.args.q (length old) c.loop-wider.near c.sources.result c.union-wider.result c.loop-wider.invariant.newest c.sources.ensures c.union-wider.ensures.either x);
      fits = omega arith;
    }
