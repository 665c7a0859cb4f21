-- Fronts and rests of lists that are cut at places that are no further than their ends.
use Rattle.std.proofs.Common.{◌≡◌, ℕ, ◌-◌, List, length, take, drop, ap, ◌∙◌, arith}
use Rattle.std.specs.Prelude.{min}
use Rattle.std.proofs.lemmas.List.{drop_min, length-drop, take_all, take_min}

pub windowed : {A : Type 0} (from to front_end skipped start most end : ℕ) (xs : List A)
    → front_end ≡ min to (length xs) → skipped ≡ from - 1 → start ≡ min skipped (length (take front_end xs))
    → end ≡ min most (length (take (length (take front_end xs) - start) (drop start (take front_end xs))))
    → take end (take (length (take front_end xs) - start) (drop start (take front_end xs))) ≡ take most (drop (from - 1) (take to xs))
windowed from to front_end skipped start most end xs e1 e2 e3 e4 =
    let front = take front_end xs in
    let rest = take (length front - start) (drop start front) in
    let whole : rest ≡ drop start front = take_all (length front - start) (drop start front) (omega (arith, length-drop start front)) in
    ap (λ n. take n rest) e4
    ∙ take_min most rest
    ∙ ap (λ l. take most l) (whole ∙ ap (λ n. drop n front) e3 ∙ drop_min skipped front ∙ ap (λ n. drop n front) e2
    ∙ ap (λ l. drop (from - 1) l) (ap (λ n. take n xs) e1 ∙ take_min to xs))
