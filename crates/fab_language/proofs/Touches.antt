-- Names among names, and each name once.
use Rattle.std.proofs.Common.{◌≡◌, Bool, true, false, ◌||◌, if◌then◌else◌, List, [], ◌∷◌, ◌++◌, refl, sym, ap, ◌∙◌, append-nil}
use Rattle.fab_base.specs.declared.object.Oid.{Oid}
use Rattle.fab_base.specs.FlatMap.{is_same}
use Rattle.fab_base.proofs.Names.{same_flips}
use Rattle.fab_base.proofs.NameOrder.{one_name}
use Rattle.fab_language.specs.Heaps.{is_among, without, each_once}

pub among_without : (o p : Oid) (xs : List Oid) → is_same p o ≡ false → is_among o (without p xs) ≡ is_among o xs
among_without o p [] h = refl
among_without o p (x ∷ xs) h =
    elim (is_same x p) as (λ b. is_same x p ≡ b → is_among o (if b then without p xs else x ∷ without p xs) ≡ is_among o (x ∷ xs)) [
      | true ↦ λ e. among_without o p xs h ∙ sym (ap (λ b. b || is_among o xs) (ap (λ q. is_same q o) (one_name x p e) ∙ h))
      | false ↦ λ e. ap (λ b. is_same x o || b) (among_without o p xs h)
    ] refl

pub among_once : (o : Oid) (xs : List Oid) → is_among o (each_once xs) ≡ is_among o xs
among_once o [] = refl
among_once o (p ∷ ps) =
    elim (is_same p o) as (λ b. is_same p o ≡ b → (b || is_among o (without p (each_once ps))) ≡ (b || is_among o ps)) [
      | true ↦ λ e. refl
      | false ↦ λ e. among_without o p (each_once ps) e ∙ among_once o ps
    ] refl

pub without_more : (p o : Oid) (xs : List Oid) → without p (xs ++ o ∷ []) ≡ without p xs ++ (if is_same o p then [] else o ∷ [])
without_more p o [] = refl
without_more p o (x ∷ xs) =
    elim (is_same x p) as (λ b. (if b then without p (xs ++ o ∷ []) else x ∷ without p (xs ++ o ∷ [])) ≡ (if b then without p xs else x ∷ without p xs) ++ (if is_same o p then [] else o ∷ [])) [
      | true ↦ without_more p o xs
      | false ↦ ap (λ l. x ∷ l) (without_more p o xs)
    ]

-- one name more at the end
pub once_more : (o : Oid) (xs : List Oid) → each_once (xs ++ o ∷ []) ≡ (if is_among o xs then each_once xs else each_once xs ++ o ∷ [])
once_more o [] = refl
once_more o (p ∷ ps) = rw (once_more o ps) (split (is_among o ps))
  where
    split : (b : Bool) → p ∷ without p (if b then each_once ps else each_once ps ++ o ∷ []) ≡ (if is_same p o || b then p ∷ without p (each_once ps) else p ∷ without p (each_once ps) ++ o ∷ [])
    split true = elim (is_same p o) as (λ c. p ∷ without p (each_once ps) ≡ (if c || true then p ∷ without p (each_once ps) else p ∷ without p (each_once ps) ++ o ∷ [])) [ true ↦ refl | false ↦ refl ]
    split false = rw (without_more p o (each_once ps), same_flips o p) (last (is_same p o))
      where
        last : (c : Bool) → p ∷ without p (each_once ps) ++ (if c then [] else o ∷ []) ≡ (if c || false then p ∷ without p (each_once ps) else p ∷ without p (each_once ps) ++ o ∷ [])
        last true = ap (λ l. p ∷ l) (append-nil _)
        last false = refl
