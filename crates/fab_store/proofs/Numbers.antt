-- Numbers in a row.
use Rattle.std.proofs.Common.{◌≡◌, ℕ, suc, ◌+◌, [], ◌∷◌, ◌++◌, ◌∙◌, ap, arith}
use Rattle.std.specs.List.{range_with_len}
use Rattle.fab_base.proofs.Lists.{range_more}

pub one_more_from_zero : (n : ℕ) → range_with_len 0 (suc n) ≡ range_with_len 0 n ++ n ∷ []
one_more_from_zero n =
    let here : 0 + n ≡ n = omega arith in
    range_more 0 n ∙ ap (λ (k : ℕ). range_with_len 0 n ++ k ∷ []) here
