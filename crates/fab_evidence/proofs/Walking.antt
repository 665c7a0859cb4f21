-- One line more of two texts, side by side.
use Rattle.std.proofs.Common.{◌≡◌, ℕ, zero, suc, ◌-◌, ◌<◌, Bool, true, cond, List, [], ◌∷◌, map, Option, Result, sym, ap, subst, ◌∙◌, arith}
use Rattle.std.specs.Prelude.{IfOk, nat_lt}
use Rattle.std.specs.Str.{bytes_eq}
use Rattle.fab_evidence.specs.declared.shown.Difference.{Difference}
use Rattle.fab_evidence.specs.First.{Row, differ_at, first_from, lines_in, row_of, rows_of, up_to_barred}

-- two lines that aren't the same
pub differ_rows : {E : Type 0} (result : Result (Option Difference) E) (line : ℕ) (left first left_rest : List ℕ) (ys zs : List Row) (y : Row) (all : Option Difference)
    → lines_in left ≡ first ∷ lines_in left_rest → ys ≡ y ∷ zs → first_from line (rows_of left) ys ≡ all
    → IfOk result (λ x. x ≡ first_from line (row_of first ∷ rows_of left_rest) (y ∷ zs)) → IfOk result (λ x. x ≡ all)
differ_rows result line left first left_rest ys zs y all one two whole h =
    let both : first_from line (row_of first ∷ rows_of left_rest) (y ∷ zs) ≡ all =
    ap (λ (ls : List (List ℕ)). first_from line (map row_of ls) (y ∷ zs)) (sym one) ∙ ap (λ (rows : List Row). first_from line (rows_of left) rows) (sym two) ∙ whole in
    subst (λ (z : Option Difference). IfOk result (λ x. x ≡ z)) both h

-- two lines that are the same
pub same_rows : (line : ℕ) (left first left_rest : List ℕ) (ys zs : List Row) (y : Row) → lines_in left ≡ first ∷ lines_in left_rest → ys ≡ y ∷ zs
    → bytes_eq first y.text ≡ true → first_from line (rows_of left) ys ≡ first_from (suc line) (rows_of left_rest) zs
same_rows line left first left_rest ys zs y one two same =
    ap (λ (ls : List (List ℕ)). first_from line (map row_of ls) ys) one ∙ ap (λ (rows : List Row). first_from line (row_of first ∷ rows_of left_rest) rows) two
    ∙ ap
    (λ (b : Bool).
    cond b (first_from (suc line) (rows_of left_rest) zs)
    (cond (nat_lt y.kind (row_of first).kind) (differ_at line [] y.text)
    (cond (nat_lt (row_of first).kind y.kind) (differ_at line first []) (differ_at line first y.text))))
    same

-- of so many lines, of which there is one at least, the first
pub first_up_to : (n : ℕ) (y : Row) (ys : List Row) → 0 < n → up_to_barred n (y ∷ ys) ≡ y ∷ up_to_barred (n - 1) ys
first_up_to zero y ys h = absurd (omega arith)
first_up_to (suc n) y ys h = ap (λ (k : ℕ). y ∷ up_to_barred k ys) (omega arith)
