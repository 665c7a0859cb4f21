-- What stands under a name.
use Rattle.std.proofs.Common.{◌≡◌, ℕ, suc, Bool, true, false, List, [], ◌∷◌, map, refl, arith}
use Rattle.std.specs.List.{Contains}
use Rattle.std.specs.Bool.{Decides}
use Rattle.std.specs.Str.{bytes_eq}
use Rattle.std.proofs.lemmas.Slice.Eq.{bytes_eq-Decides}
use Rattle.fab_device.specs.Kept.{all_under}

not_so : (b : Bool) (P : Type 0) → Decides b P → (P → ⊥) → b ≡ false
not_so false P decides never = refl
not_so true P decides never = absurd (never (decides.0 refl))

-- at a name that no pair has, nothing
pub none_under : {T : Type 0} (node : List ℕ) (pairs : List (List ℕ × T)) → (Contains (map (λ pair. pair.0) pairs) node → ⊥) → all_under node pairs ≡ []
none_under node [] never = refl
none_under {T} node (pair ∷ pairs) never =
    let skipped : bytes_eq pair.0 node ≡ false = not_so _ _ (bytes_eq-Decides pair.0 node) (λ same. never (0, omega arith, same)) in
    rw skipped (none_under node pairs (λ found. never (suc found.0, omega (arith, found.1), found.2)))
