-- Messages that are put behind others.
use Rattle.std.proofs.Common.{◌≡◌, ◌≢◌, ℕ, zero, suc, ◌+◌, ◌*◌, ◌<◌, Bool, true, false, ◌&&◌, ◌==◌, if◌then◌else◌}
use Rattle.std.proofs.Common.{List, [], ◌∷◌, ◌++◌, length, get_or, refl, sym, ap, ◌∙◌, append-nil, arith}
use Rattle.std.specs.Prelude.{slice_set}
use Rattle.std.proofs.lemmas.Bool.Decides.{nat_tests}
use Rattle.std.proofs.lemmas.Grind.{get_or-set_at}
use Rattle.std.proofs.lemmas.List.{get_or-set_other}
use Rattle.std.proofs.lemmas.Option.{unwrap_or-slice_get}
use Rattle.fab_sent.specs.Messages.{messages_in}

any_default : {A : Type 0} (xs : List A) (i : ℕ) (d e : A) → i < length xs → get_or xs i d ≡ get_or xs i e
any_default [] i d e h = absurd (omega arith)
any_default (x ∷ xs) zero d e h = refl
any_default (x ∷ xs) (suc i) d e h = any_default xs i d e (omega arith)

-- one more message of a pair
pub one_put : (lists : List (List (List ℕ))) (s r at : ℕ) (x y : List (List ℕ)) (bytes : List ℕ) → ◌≡◌ {A = ℕ} (length lists) 4096 → s < 64 → r < 64 → at ≡ s * 64 + r
    → x ≡ get_or lists at x → y ≡ x ++ bytes ∷ [] → (n d : ℕ) → n < 64 → d < 64
    → messages_in (slice_set lists at y) n d ≡ messages_in lists n d ++ (if (s == n) && (r == d) then bytes ∷ [] else [])
one_put lists s r at x y bytes long below within is first next n d few fewer =
    unwrap_or-slice_get (slice_set lists at y) (n * 64 + d) [] ∙ by (s == n) (r == d) refl refl
    ∙ ap (λ l. l ++ (if (s == n) && (r == d) then bytes ∷ [] else [])) (sym (unwrap_or-slice_get lists (n * 64 + d) []))
  where
    by : (b c : Bool) → (s == n) ≡ b → (r == d) ≡ c
        → get_or (slice_set lists at y) (n * 64 + d) [] ≡ get_or lists (n * 64 + d) [] ++ (if b && c then bytes ∷ [] else [])
    by true true e f =
        get_or-set_at lists at (n * 64 + d) y [] here inside ∙ next ∙ ap (λ l. l ++ bytes ∷ []) (first ∙ any_default lists at x [] inside ∙ ap (λ i. get_or lists i []) (sym here))
      where
        sender : s ≡ n
        sender = grind (arith, nat_tests)

        receiver : r ≡ d
        receiver = grind (arith, nat_tests)

        here : n * 64 + d ≡ at
        here = omega (arith, sender, receiver, is)

        inside : at < length lists
        inside = omega (arith, is, long, below, within)
    by true false e f = get_or-set_other lists at (n * 64 + d) y [] other ∙ sym (append-nil _)
      where
        apart : r ≢ d
        apart = λ g. grind (arith, nat_tests)

        other : n * 64 + d ≢ at
        other = λ g. apart (omega (arith, is, g, few, fewer, below, within))
    by false c e f = get_or-set_other lists at (n * 64 + d) y [] other ∙ sym (append-nil _)
      where
        apart : s ≢ n
        apart = λ g. grind (arith, nat_tests)

        other : n * 64 + d ≢ at
        other = λ g. apart (omega (arith, is, g, few, fewer, below, within))
