-- What a name stands for, and its number.
use Rattle.std.proofs.Common.{◌≡◌, zero, suc, Bool, true, false, cond, List, [], ◌∷◌, ◌++◌, length, Option, Some, None, refl, ap, ◌∙◌, subst, append_assoc, arith}
use Rattle.std.specs.Prelude.{slice_get}
use Rattle.std.specs.List.{AllByRecursion, list_any}
use Rattle.std.specs.Str.{bytes_eq}
use Rattle.std.proofs.lemmas.Bool.{or_parts}
use Rattle.std.proofs.lemmas.Slice.Eq.{bytes_eq-Decides}
use Rattle.fab_base.proofs.Lists.{right_nil}
use Rattle.fab_tree.specs.declared.name.Name.{Name}
use Rattle.fab_language.specs.declared.rule.Fault.{Fault}
use Rattle.fab_language.specs.declared.rule.NameRule.TheVariants.{Doubled}
use Rattle.fab_language.specs.Names.{is_same_name, named, number_of}
use Rattle.fab_language.specs.Unknown.{if_found}
use Rattle.fab_language.specs.Doubled.{repeats_behind, repeats}
use Rattle.fab_language.proofs.Named.{same_text}

pub same_name : (x y : Name) → x.text ≡ y.text → is_same_name x y ≡ true
same_name x y e = (bytes_eq-Decides x.text y.text).1 e

-- a name that isn't unknown stands for an item
pub found : {A : Type 0} (o : Option A) (x : Name) → if_found o x ≡ [] → (y : A) × (o ≡ Some y)
found None x e = absurd (omega (arith, ap length e))
found (Some y) x e = (y, refl)

module _ {A : Type 0} (name : A → Name) where
  -- names of one text stand for one item, and have one number
  pub named_same : (items : List A) (x y : Name) → x.text ≡ y.text → named name items x ≡ named name items y
  named_same [] x y e = refl
  named_same (z ∷ zs) x y e =
      ap (λ t. cond (bytes_eq (name z).text t) (Some z) (named name zs x)) e
      ∙ ap (λ r. cond (bytes_eq (name z).text y.text) (Some z) r) (named_same zs x y e)

  pub number_same : (items : List A) (x y : Name) → x.text ≡ y.text → number_of name items x ≡ number_of name items y
  number_same [] x y e = refl
  number_same (z ∷ zs) x y e =
      ap (λ t. cond (bytes_eq (name z).text t) zero (suc (number_of name zs x))) e
      ∙ ap (λ r. cond (bytes_eq (name z).text y.text) zero (suc r)) (number_same zs x y e)

  -- what a name stands for has it
  pub has_name : (items : List A) (x : Name) (y : A) → named name items x ≡ Some y → (name y).text ≡ x.text
  has_name [] x y e = absurd (cc)
  has_name (z ∷ zs) x y e = by (is_same_name (name z) x) refl e (λ h. has_name zs x y h)
    where
      by : (b : Bool) → is_same_name (name z) x ≡ b → cond b (Some z) (named name zs x) ≡ Some y → (named name zs x ≡ Some y → (name y).text ≡ x.text) → (name y).text ≡ x.text
      by true g h later = let s : z ≡ y = cc in subst (λ w. (name w).text ≡ x.text) s (same_text (name z) x g)
      by false g h later = later h

  -- what holds of each item holds of the one that a name stands for
  pub of_named : (P : A → Type 0) (items : List A) (x : Name) (y : A) → AllByRecursion P items → named name items x ≡ Some y → P y
  of_named P [] x y h e = absurd (cc)
  of_named P (z ∷ zs) x y h e = by (is_same_name (name z) x) e (λ g. of_named P zs x y h.1 g)
    where
      by : (b : Bool) → cond b (Some z) (named name zs x) ≡ Some y → (named name zs x ≡ Some y → P y) → P y
      by true g later = let s : z ≡ y = cc in subst P s h.0
      by false g later = later g

  -- the item stands at the name's number
  pub at_number : (items : List A) (x : Name) (y : A) → named name items x ≡ Some y → slice_get items (number_of name items x) ≡ Some y
  at_number [] x y e = absurd (cc)
  at_number (z ∷ zs) x y e = by (is_same_name (name z) x) e (λ g. at_number zs x y g)
    where
      by : (b : Bool) → cond b (Some z) (named name zs x) ≡ Some y → (named name zs x ≡ Some y → slice_get zs (number_of name zs x) ≡ Some y) → slice_get (z ∷ zs) (cond b zero (suc (number_of name zs x))) ≡ Some y
      by true g later = g
      by false g later = later g

  -- ---- names that are declared once

  behind_front : (front items : List A) (x : Name) → list_any (λ y. is_same_name (name y) x) front ≡ false → named name (front ++ items) x ≡ named name items x
  behind_front [] items x e = refl
  behind_front (z ∷ zs) items x e =
      let t = or_parts (is_same_name (name z) x) (list_any (λ y. is_same_name (name y) x) zs) e in
      ap (λ b. cond b (Some z) (named name (zs ++ items) x)) t.0 ∙ behind_front zs items x t.1

  first_here : (x : A) (items : List A) → named name (x ∷ items) (name x) ≡ Some x
  first_here x items = ap (λ b. cond b (Some x) (named name items (name x))) (same_name (name x) (name x) refl)

  none_before : (b : Bool) (x : Fault) (rest : List Fault) → cond b (x ∷ []) [] ++ rest ≡ [] → b ≡ false
  none_before true x rest e = absurd (omega (arith, ap length e))
  none_before false x rest e = refl

  behind_each : (front items : List A) → repeats_behind name front items ≡ [] → AllByRecursion (λ x. named name (front ++ items) (name x) ≡ Some x) items
  behind_each front [] e = tt
  behind_each front (x ∷ xs) e =
      let b = list_any (λ y. is_same_name (name y) (name x)) front in
      let f : Fault = record { rule = Doubled; at = (name x).at } in (
        behind_front front (x ∷ xs) (name x) (none_before b f (repeats_behind name (front ++ x ∷ []) xs) e) ∙ first_here x xs,
        subst (λ l. AllByRecursion (λ y. named name l (name y) ≡ Some y) xs) (append_assoc front (x ∷ []) xs)
            (behind_each (front ++ x ∷ []) xs (right_nil (cond b (f ∷ []) []) (repeats_behind name (front ++ x ∷ []) xs) e)),
      )

  -- each item is the one that its name stands for
  pub stands_for_itself : (items : List A) → repeats name items ≡ [] → AllByRecursion (λ x. named name items (name x) ≡ Some x) items
  stands_for_itself items e = behind_each [] items e
