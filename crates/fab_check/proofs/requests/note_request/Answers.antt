use Rattle.std.proofs.Common.{◌≡◌, ℕ, ◌+◌, ◌-◌, ◌<◌, suc, List, [], ◌∷◌, map, refl, sym, ap, ◌∙◌, arith}
use Rattle.std.specs.List.{range_with_len}
use Rattle.std.proofs.lemmas.List.FromFn.{length-range_with_len}
use Rattle.fab_labelling.specs.Obligations.{answers_for, owe, request_owes}
use Rattle.fab_labelling.specs.declared.rule.LabelRule.TheVariants.{Authority}
use Rattle.fab_check.specs.Noted.{Noting, all_noted}
use Rattle.fab_check.proofs.Parts.{at_none, behind_one, start_stays}
use Rattle.fab_check.proofs.requests.note_request.Goals as goal

range_first : (a b : ℕ) → a < b → range_with_len a (b - a) ≡ a ∷ range_with_len (a + 1) (b - (a + 1))
range_first a b below = let e : b - a ≡ suc (b - (a + 1)) = omega arith in ap (range_with_len a) e

pub loop-p-preserved : goal.loop-p-preserved
loop-p-preserved c =
    let x = c.args.asked.now in
    let owes = λ (p : ℕ). owe Authority x.at (answers_for x.request.worker x.request.method p) in
    let v = c.loop-p.verdicts in
    let p = c.loop-p.p in
    record {
      owes = behind_one (map owes) (λ (q : ℕ). owes q ∷ []) (λ _ _. refl) v c.note_answer.new.verdicts (all_noted c.args.verdicts.now (request_owes c.args.count x)) p (range_with_len (p + 1) (c.args.count - (p + 1))) c.note_answer.ensures
          (ap (λ (ps : List ℕ). all_noted v (map owes ps)) (sym (range_first p c.args.count (omega arith))) ∙ c.loop-p.invariant.owes);
      start = ap (λ (n : Noting). n.start) c.note_answer.ensures ∙ start_stays v (owes p ∷ []) ∙ c.loop-p.invariant.start;
    }

pub returns : goal.returns
returns c =
    let x = c.args.asked.now in
    let owes = λ (p : ℕ). owe Authority x.at (answers_for x.request.worker x.request.method p) in
    let p = c.loop-p.p in
    at_none (map owes) c.loop-p.verdicts (all_noted c.args.verdicts.now (request_owes c.args.count x)) (range_with_len p (c.args.count - p)) refl (length-range_with_len p (c.args.count - p) ∙ omega arith) c.loop-p.invariant.owes
