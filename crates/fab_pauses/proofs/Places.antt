-- The evaluators of all numbers, by their places.
use Rattle.std.specs.Prelude.{◌≡◌, ℕ, ◌%◌, ◌<◌, List, map, Option, None, Result, Ok, Err, IfOk, OnErr, length, slice_index_or, slice_set, replicate}
use Rattle.std.proofs.Common.{refl, sym, ap, ◌∙◌, subst, arith}
use Rattle.std.proofs.lemmas.List.{get_or-map, get_or-set_same, get_or-set_other, get_or-replicate, length-map, length-replicate, map-set}
use Rattle.std.proofs.lemmas.List.Elements.{All-replicate}
use Rattle.fab_tree.specs.declared.resolved.Resolved.{Resolved}
use Rattle.fab_eval.specs.declared.job.Job.{Job}
use Rattle.fab_pauses.specs.Evaluations.{AreOf, EvaluatorModel, EvaluatorsModel, last_of}
use Rattle.fab_pauses.specs.Jobs.{IsThere}

abbrev pub lasts_of : List EvaluatorModel → List (Option Job)
lasts_of all = map (λ e. e.last) all

abbrev pub new_of : Resolved → EvaluatorModel
new_of program = record { program = program; last = None }

-- none has evaluated anything
pub all_new : (program : Resolved) → AreOf program (replicate 64 (new_of program))
all_new program = record { long = length-replicate 64 (new_of program); each = All-replicate (λ e. e.program ≡ program) 64 (new_of program) refl }

pub none_last : (program : Resolved) (all : List EvaluatorModel) → all ≡ replicate 64 (new_of program) → (worker : ℕ) → slice_index_or (lasts_of all) (worker % 64) None ≡ None
none_last program all is worker =
    let new = new_of program in
    let low : worker % 64 < 64 = omega arith in
    let here : worker % 64 < length (replicate 64 new) = omega (arith, low, length-replicate 64 new) in
    ap (λ (l : List EvaluatorModel). slice_index_or (lasts_of l) (worker % 64) None) is
    ∙ get_or-map (λ (e : EvaluatorModel). e.last) (replicate 64 new) (worker % 64) new None here
    ∙ ap (λ (e : EvaluatorModel). e.last) (get_or-replicate 64 (worker % 64) new new low)

-- one of them has evaluated
module _ (program : Resolved) (all : List EvaluatorModel) (are : AreOf program all) (worker place : ℕ) (is : place ≡ worker % 64) (e : EvaluatorModel) where
  lasts_set : lasts_of (slice_set all place e) ≡ slice_set (lasts_of all) place e.last
  lasts_set = map-set (λ (x : EvaluatorModel). x.last) all place e

  here : place < length (lasts_of all)
  here = let l = are.long in omega (arith, l, is, length-map all (λ (x : EvaluatorModel). x.last))

  its_last : slice_index_or (lasts_of (slice_set all place e)) (worker % 64) None ≡ e.last
  its_last =
      ap (λ (n : ℕ). slice_index_or (lasts_of (slice_set all place e)) n None) (sym is)
      ∙ ap (λ (l : List (Option Job)). slice_index_or l place None) lasts_set ∙ get_or-set_same (lasts_of all) place e.last None here

  pub there : {E : Type 0} (result : Result (Unit {0}) E) (job : Job) → IfOk result (λ _. IsThere e.last job) → IfOk result (λ _. IsThere (slice_index_or (lasts_of (slice_set all place e)) (worker % 64) None) job)
  there (Ok u) job h = subst (λ (o : Option Job). IsThere o job) (sym its_last) h
  there (Err x) job h = tt

  pub others_stay : (other : ℕ) → (other % 64 ≡ worker % 64 → ⊥) → slice_index_or (lasts_of (slice_set all place e)) (other % 64) None ≡ slice_index_or (lasts_of all) (other % 64) None
  others_stay other apart =
      ap (λ (l : List (Option Job)). slice_index_or l (other % 64) None) lasts_set
      ∙ get_or-set_other (lasts_of all) place (other % 64) e.last None (λ same. apart (same ∙ is))

  -- what holds of its last jobs before and now holds of the worker's
  module _ (r : EvaluatorModel) (was : r ≡ slice_index_or all place r) where
    within : place < length all
    within = let l = are.long in omega (arith, l, is)

    was_last : slice_index_or (lasts_of all) (worker % 64) None ≡ r.last
    was_last =
        ap (λ (n : ℕ). slice_index_or (lasts_of all) n None) (sym is) ∙ get_or-map (λ (x : EvaluatorModel). x.last) all place r None within
        ∙ ap (λ (x : EvaluatorModel). x.last) (sym was)

    module _ (self : EvaluatorsModel) (view : lasts_of all ≡ self.lasts) where
      both : (P : Option Job → Option Job → Type 0) → P r.last e.last → P (last_of self worker) (slice_index_or (lasts_of (slice_set all place e)) (worker % 64) None)
      both P h =
          let now = slice_index_or (lasts_of (slice_set all place e)) (worker % 64) None in
          subst (λ (l : List (Option Job)). P (slice_index_or l (worker % 64) None) now) view
          (subst (λ (o : Option Job). P o now) (sym was_last) (subst (λ (o : Option Job). P r.last o) (sym its_last) h))

      pub both_in : {T E : Type 0} (P : T → Option Job → Option Job → Type 0) (result : Result T E) → IfOk result (λ x. P x r.last e.last)
          → IfOk result (λ x. P x (last_of self worker) (slice_index_or (lasts_of (slice_set all place e)) (worker % 64) None))
      both_in P (Ok x) h = both (P x) h
      both_in P (Err x) h = tt

      pub both_on : {T E : Type 0} (P : Option Job → Option Job → Type 0) (result : Result T E) → OnErr result (P r.last e.last)
          → OnErr result (P (last_of self worker) (slice_index_or (lasts_of (slice_set all place e)) (worker % 64) None))
      both_on P (Ok x) h = tt
      both_on P (Err x) h = both P h
