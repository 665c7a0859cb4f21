-- Text that is escaped is plain.
use Rattle.std.proofs.Common.{◌≡◌, ℕ, ◌==◌, ◌&&◌, nat_le, true, false, List, [], ◌∷◌, codes, refl, ap, ◌∙◌, if◌then◌else◌}
use Rattle.std.specs.List.{list_all}
use Rattle.std.proofs.lemmas.List.Folds.{list_all-append}
use Rattle.fab_svg.specs.Escaped.{escaped, escaped_byte, is_plain}

-- what can be written as it stands
itself : (b : ℕ) → (b == 60) ≡ false → (b == 62) ≡ false → (b == 34) ≡ false → (b == 39) ≡ false
    → list_all is_plain (if nat_le 32 b && nat_le b 126 then b ∷ [] else codes "?") ≡ true
itself b less more double single =
    elim (nat_le 32 b) as (λ p. nat_le 32 b ≡ p → list_all is_plain (if p && nat_le b 126 then b ∷ [] else codes "?") ≡ true) [
      | true ↦ λ low. elim (nat_le b 126) as (λ p. nat_le b 126 ≡ p → list_all is_plain (if p then b ∷ [] else codes "?") ≡ true) [
        | true ↦ λ high. rw low (rw high (rw less (rw more (rw double (rw single refl)))))
        | false ↦ λ high. refl
      ] refl
      | false ↦ λ low. refl
    ] refl

plain_byte : (b : ℕ) → list_all is_plain (escaped_byte b) ≡ true
plain_byte b =
    elim (b == 38) as (λ p. list_all is_plain (if p then codes "&amp;" else (if b == 60 then codes "&lt;" else (if b == 62 then codes "&gt;"
    else (if b == 34 then codes "&quot;" else (if b == 39 then codes "&#39;" else (if nat_le 32 b && nat_le b 126 then b ∷ [] else codes "?")))))) ≡ true) [
      | true ↦ refl
      | false ↦ elim (b == 60) as (λ p. b == 60 ≡ p → list_all is_plain (if p then codes "&lt;" else (if b == 62 then codes "&gt;"
          else (if b == 34 then codes "&quot;" else (if b == 39 then codes "&#39;" else (if nat_le 32 b && nat_le b 126 then b ∷ [] else codes "?"))))) ≡ true) [
            | true ↦ λ less. refl
            | false ↦ λ less. elim (b == 62) as (λ p. b == 62 ≡ p → list_all is_plain (if p then codes "&gt;"
                else (if b == 34 then codes "&quot;" else (if b == 39 then codes "&#39;" else (if nat_le 32 b && nat_le b 126 then b ∷ [] else codes "?")))) ≡ true) [
                  | true ↦ λ more. refl
                  | false ↦ λ more. elim (b == 34) as (λ p. b == 34 ≡ p → list_all is_plain (if p then codes "&quot;"
                      else (if b == 39 then codes "&#39;" else (if nat_le 32 b && nat_le b 126 then b ∷ [] else codes "?"))) ≡ true) [
                        | true ↦ λ double. refl
                        | false ↦ λ double. elim (b == 39) as (λ p. b == 39 ≡ p → list_all is_plain (if p then codes "&#39;"
                            else (if nat_le 32 b && nat_le b 126 then b ∷ [] else codes "?")) ≡ true) [
                              | true ↦ λ single. refl
                              | false ↦ λ single. itself b less more double single
                            ] refl
                      ] refl
                ] refl
          ] refl
    ]

pub plain_text : (text : List ℕ) → list_all is_plain (escaped text) ≡ true
plain_text [] = refl
plain_text (b ∷ bs) =
    list_all-append is_plain (escaped_byte b) (escaped bs) ∙ ap (λ p. p && list_all is_plain (escaped bs)) (plain_byte b) ∙ plain_text bs
