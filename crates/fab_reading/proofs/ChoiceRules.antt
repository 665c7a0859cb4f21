-- What may stand behind a mark, or not at all.
use Rattle.std.proofs.Common.{◌≡◌, ℕ, Bool, IsTrue, List, [], Option, Some, None, refl, subst}
use Rattle.fab_base.specs.declared.token.Mark.{Mark}
use Rattle.fab_base.specs.declared.token.Kind.{Kind}
use Rattle.fab_base.specs.declared.token.Kind.TheVariants as k
use Rattle.fab_base.specs.declared.token.Token.{Token}
use Rattle.fab_tree.specs.Lists.{Is, Perhaps, without, with_it}
use Rattle.fab_reading.specs.Reading.{Lacks, Follows}
use Rattle.fab_reading.proofs.Rules.{Then, End, Sign, HasText, Going, turn, lacks_too, lacks_sign, same_sign}

pub perhaps_text : {A : Type 0} {mark : Mark} {P : List Token → A → List Token → Type 0} → HasText (Perhaps mark P)
perhaps_text = ([], None, λ after. without)

none_back : {A : Type 0} {mark : Mark} {P : List Token → A → List Token → Type 0} {a : List Token} {v : Option A} {b : List Token} → Lacks mark a → Perhaps mark P a v b → (x : Unit {0}) × (v ≡ None) × (a ≡ b)
none_back h without = (tt, refl, refl)
none_back h (with_it i p) = absurd (h _ i)

some_back : {A : Type 0} {mark : Mark} {P : List Token → A → List Token → Type 0} (may : Kind → Bool) → (IsTrue (may (k.Fixed mark)) → ⊥) → {a c : List Token} {v : Option A} {b : List Token} → Is mark a c → Perhaps mark P a v b → Follows may b → (x : Unit {0} × A) × (v ≡ Some x.1) × Then (Sign mark) P a x b
some_back {mark = mark} may never i without h = absurd (lacks_sign mark may never i h)
some_back may never i (with_it {b = b} {x = x} j p) h = ((tt, x), refl, record { mid = b; first = j; second = p })

module _ {A B : Type 0} {mark : Mark} {P : List Token → A → List Token → Type 0} {R : List Token → B → List Token → Type 0} {room : ℕ} {a : List Token} {f : Option A → B} {left : ℕ} {b : List Token} where
  -- the mark doesn't come
  pub perhaps_none : {may : Kind → Bool} → Going R may room a (Perhaps mark P) f left b → Lacks mark b → Going R may room a End (λ x. f None) left b
  perhaps_none r lacks = turn (λ x. None) r (λ more v after p. subst (λ y. Perhaps mark P more None y) p without) (λ more v after same p h. none_back (λ c i. lacks_too b more c lacks same i) p)

  -- it comes, where it may not follow
  pub perhaps_some : (may : Kind → Bool) → (IsTrue (may (k.Fixed mark)) → ⊥) → {c : List Token} → Going R may room a (Perhaps mark P) f left b → Is mark b c → Going R may room a (Then (Sign mark) P) (λ v. f (Some v.1)) left b
  perhaps_some may never r i = turn (λ v. Some v.1) r (λ more v after p. with_it p.first p.second) (λ more v after same p h. some_back may never (same_sign b more i same).1 p h)
