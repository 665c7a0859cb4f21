-- Names, and trees that are one mark.
use Rattle.std.proofs.Common.{◌≡◌, ℕ, Bool, IsTrue, List, [], ◌∷◌, Some, refl, ap, ◌∙◌}
use Rattle.fab_base.specs.declared.token.Mark.{Mark}
use Rattle.fab_base.specs.declared.token.Kind.{Kind}
use Rattle.fab_base.specs.declared.token.Kind.TheVariants as k
use Rattle.fab_base.specs.declared.token.Token.{Token}
use Rattle.fab_tree.specs.declared.name.Name.{Name}
use Rattle.fab_tree.specs.Depth.{room_by}
use Rattle.fab_tree.specs.Lists.{Is, is, IsName, name}
use Rattle.fab_reading.specs.Reading.{BeginsWith, Read, any, begins_name}
use Rattle.fab_reading.proofs.Rules.{HasText, leaf, never}

-- ---- names

pub no_name_begins : (x : Kind) → ((y : List ℕ) → x ≡ k.Name y → ⊥) → IsTrue (begins_name x) → ⊥
no_name_begins (k.Name y) h i = h y refl
no_name_begins _ h i = never i

pub name_text : HasText IsName
name_text = (record { kind = k.Name []; at = 0; end = 0 } ∷ [], record { text = []; at = 0 }, λ after. name refl)

pub name_only : {x : List ℕ} {t : Token} {more : List Token} {v : Name} {after : List Token} → t.kind ≡ k.Name x → IsName (t ∷ more) v after → (v ≡ record { text = x; at = t.at }) × (after ≡ more)
name_only {x = x} {t = t} h (name {x = y} g) = let same : y ≡ x = cc in (ap (λ z. let n : Name = record { text = z; at = t.at } in n) same, refl)

pub name_read : {room : ℕ} {x : List ℕ} {a b : List Token} {t : Token} → a ≡ t ∷ b → t.kind ≡ k.Name x → Read IsName any room a (record { text = x; at = t.at }) b
name_read {room = room} cut h = leaf cut (ap (λ x. room_by x room) h) (λ more. name h) (λ more v after d. name_only h d)

-- ---- one mark

-- a tree that is one mark, which is no bracket
pub mark_read : {A : Type 0} {R : List Token → A → List Token → Type 0} {may : Kind → Bool} {room : ℕ} {a b : List Token} {t : A} (mark : Mark)
    → Is mark a b → room_by (k.Fixed mark) room ≡ Some room → ((x y : List Token) → Is mark x y → R x t y)
    → ((x : List Token) (v : A) (y : List Token) → BeginsWith mark x → R x v y → (v ≡ t) × Is mark x y) → Read R may room a t b
mark_read {room = room} mark (is {t = u} e) level reads only = leaf refl (ap (λ x. room_by x room) e ∙ level) (λ more. reads _ _ (is e)) (λ more v after d. let x = only _ v after e d in (x.0, behind_same x.1))
  where
    behind_same : {u : Token} {x y : List Token} → Is mark (u ∷ x) y → y ≡ x
    behind_same (is h) = refl
