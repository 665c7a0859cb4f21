-- What an entry's node sends.
use Rattle.std.proofs.Common.{◌≡◌, ℕ, Bool, true, false, not, ◌||◌, ◌==◌, if◌then◌else◌}
use Rattle.std.proofs.Common.{List, [], ◌∷◌, map, refl, sym, ap, ◌∙◌}
use Rattle.std.specs.List.{filter}
use Rattle.fab_base.specs.declared.message.Message.{Message}
use Rattle.fab_base.specs.MessageSpelling.{spelled}
use Rattle.fab_release.specs.declared.release.Released.{Released}
use Rattle.fab_release.specs.Replay.{Rebuilt, node_in, sends, sent_at}
use Rattle.fab_release.specs.Sights.{Public, Sight}
use Rattle.fab_sent.specs.Messages.{all_spelled, messages_to}

to_spelled : (d : ℕ) (xs : List (ℕ × Message)) → messages_to d (all_spelled xs) ≡ map (λ (y : ℕ × Message). spelled y.1) (filter (λ (y : ℕ × Message). y.0 == d) xs)
to_spelled d [] = refl
to_spelled d (x ∷ xs) = by (x.0 == d) (to_spelled d xs)
  where
    by : (b : Bool) → messages_to d (all_spelled xs) ≡ map (λ (y : ℕ × Message). spelled y.1) (filter (λ (y : ℕ × Message). y.0 == d) xs)
        → map (λ (y : ℕ × List ℕ). y.1) (if b then (x.0, spelled x.1) ∷ filter (λ (y : ℕ × List ℕ). y.0 == d) (all_spelled xs) else filter (λ (y : ℕ × List ℕ). y.0 == d) (all_spelled xs))
        ≡ map (λ (y : ℕ × Message). spelled y.1) (if b then x ∷ filter (λ (y : ℕ × Message). y.0 == d) xs else filter (λ (y : ℕ × Message). y.0 == d) xs)
    by true e = ap (λ l. spelled x.1 ∷ l) e
    by false e = e

-- an entry that isn't quiet
pub told_at : (sight : Sight) (P : Public) (entry : Released) (k : Rebuilt) (m : ℕ) (told : List (ℕ × List ℕ)) → entry.quiet ≡ false → m ≡ node_in sight P entry.release
    → told ≡ all_spelled (sends sight P entry.release k) → (n d : ℕ) → (if m == n then messages_to d told else []) ≡ sent_at sight P entry k n d
told_at sight P entry k m told loud node is n d =
    ap (λ j. if j == n then messages_to d told else []) node
    ∙ ap (λ l. if node_in sight P entry.release == n then l else []) (ap (messages_to d) is ∙ to_spelled d (sends sight P entry.release k))
    ∙ turned (node_in sight P entry.release == n)
    ∙ ap (λ b. if b || not (node_in sight P entry.release == n) then [] else map (λ (y : ℕ × Message). spelled y.1) (filter (λ (y : ℕ × Message). y.0 == d) (sends sight P entry.release k))) (sym loud)
  where
    turned : (b : Bool) → (if b then map (λ (y : ℕ × Message). spelled y.1) (filter (λ (y : ℕ × Message). y.0 == d) (sends sight P entry.release k)) else [])
        ≡ (if false || not b then [] else map (λ (y : ℕ × Message). spelled y.1) (filter (λ (y : ℕ × Message). y.0 == d) (sends sight P entry.release k)))
    turned true = refl
    turned false = refl

-- a quiet one sends nothing
pub quiet_at : (sight : Sight) (P : Public) (entry : Released) (k : Rebuilt) (n d : ℕ) → entry.quiet ≡ true → [] ≡ sent_at sight P entry k n d
quiet_at sight P entry k n d quiet =
    ap (λ b. if b || not (node_in sight P entry.release == n) then [] else map (λ (y : ℕ × Message). spelled y.1) (filter (λ (y : ℕ × Message). y.0 == d) (sends sight P entry.release k))) (sym quiet)
