-- Lists of jobs, one by one.
use Rattle.std.specs.Prelude.{◌≡◌, ◌++◌, ◌∷◌, [], ℕ, List, slice_index_or, slice_set}
use Rattle.std.proofs.Common.{sym, ap, ◌∙◌, append_assoc}
use Rattle.std.proofs.lemmas.List.{set-get_or}

-- one is taken from the rest and put behind the others
pub one_further : {X : Type 0} (front before after all : List X) (x : X) → front ++ before ≡ all → before ≡ x ∷ after → (front ++ x ∷ []) ++ after ≡ all
one_further front before after all x whole is = append_assoc front (x ∷ []) after ∙ ap (λ l. front ++ l) (sym is) ∙ whole

-- the same one is put in its place
pub put_same : {X : Type 0} (xs : List X) (place : ℕ) (d new : X) → new ≡ slice_index_or xs place d → slice_set xs place new ≡ xs
put_same xs place d new is = ap (λ x. slice_set xs place x) is ∙ set-get_or xs place d
