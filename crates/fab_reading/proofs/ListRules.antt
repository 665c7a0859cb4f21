-- Lists of any number of items.
use Rattle.std.proofs.Common.{◌≡◌, ℕ, Bool, true, false, not, ◌&&◌, IsTrue, List, [], ◌∷◌, refl, sym, subst}
use Rattle.std.specs.Cmp.{second_so}
use Rattle.fab_base.specs.declared.token.Kind.{Kind}
use Rattle.fab_base.specs.declared.token.Token.{Token}
use Rattle.fab_tree.specs.Lists.{Repeated, no_more, one_more}
use Rattle.fab_reading.specs.Reading.{Starts, SameHead, Follows, behind_list}
use Rattle.fab_reading.proofs.Rules.{Then, End, Going, HasText, turn}

pub repeated_text : {A : Type 0} {P : List Token → A → List Token → Type 0} → HasText (Repeated P)
repeated_text = ([], [], λ after. no_more)

not_both : (b c : Bool) → IsTrue b → IsTrue (not b && c) → ⊥
not_both true c h i = cc
not_both false c h i = cc

-- what begins an item doesn't follow the list
pub apart : (first may : Kind → Bool) (a more : List Token) → SameHead a more → Starts first a → Follows (behind_list first may) more → ⊥
apart first may a [] same s h = gone a same s
  where
    gone : (a : List Token) → SameHead a [] → Starts first a → ⊥
    gone [] same s = s
    gone (t ∷ ts) same s = same
apart first may [] (u ∷ us) same s h = s
apart first may (t ∷ ts) (u ∷ us) same s h = not_both (first t.kind) (may t.kind) s (subst (λ x. IsTrue (not (first x.kind) && may x.kind)) (sym same) h)

module _ {A : Type 0} {P : List Token → A → List Token → Type 0} (first may : Kind → Bool) where
  more_back : (a : List Token) {more : List Token} {v : List A} {b : List Token} → SameHead a more → Starts first a → Repeated P more v b → Follows (behind_list first may) b → (x : A × List A) × (v ≡ x.0 ∷ x.1) × Then P (Repeated P) more x b
  more_back a {more = more} same s no_more h = absurd (apart first may a more same s h)
  more_back a same s (one_more {b = b} {x = x} {xs = xs} p q) h = ((x, xs), refl, record { mid = b; first = p; second = q })

module _ {A B : Type 0} {P : List Token → A → List Token → Type 0} {R : List Token → B → List Token → Type 0} {room : ℕ} {a : List Token} {f : List A → B} {left : ℕ} {b : List Token} (first may : Kind → Bool) where
  -- one more comes
  pub list_more : Going R (behind_list first may) room a (Repeated P) f left b → Starts first b → Going R (behind_list first may) room a (Then P (Repeated P)) (λ v. f (v.0 ∷ v.1)) left b
  list_more r s = turn (λ v. v.0 ∷ v.1) r (λ more v after p. one_more p.first p.second) (λ more v after same p h. more_back first may b same s p h)

starts_back : (first : Kind → Bool) (a more : List Token) → SameHead a more → Starts first more → Starts first a
starts_back first [] [] same h = h
starts_back first [] (u ∷ us) same h = same
starts_back first (t ∷ ts) [] same h = absurd h
starts_back first (t ∷ ts) (u ∷ us) same h = subst (λ x. IsTrue (first x.kind)) (sym same) h

none_back : {A : Type 0} {P : List Token → A → List Token → Type 0} (first : Kind → Bool) → ((x : List Token) (t : A) (y : List Token) → P x t y → Starts first x) → {more : List Token} {v : List A} {after : List Token} → (Starts first more → ⊥) → Repeated P more v after → (x : Unit {0}) × (v ≡ []) × (more ≡ after)
none_back first begins none no_more = (tt, refl, refl)
none_back first begins none (one_more {b = c} {x = x} p q) = absurd (none (begins _ x c p))

module _ {A B : Type 0} {P : List Token → A → List Token → Type 0} {R : List Token → B → List Token → Type 0} {may : Kind → Bool} {room : ℕ} {a : List Token} {f : List A → B} {left : ℕ} {b : List Token} (first : Kind → Bool) where
  -- no more comes
  pub list_end : ((x : List Token) (t : A) (y : List Token) → P x t y → Starts first x) → Going R may room a (Repeated P) f left b → (Starts first b → ⊥) → Going R may room a End (λ x. f []) left b
  list_end begins r none = turn (λ x. []) r (λ more v after p. subst (λ y. Repeated P more [] y) p no_more) (λ more v after same p h. none_back first begins (λ s. none (starts_back first b more same s)) p)

pub starts_follows : (first may : Kind → Bool) → ((k : Kind) → IsTrue (first k) → IsTrue (may k)) → (a : List Token) → Starts first a → Follows may a
starts_follows first may meets [] s = tt
starts_follows first may meets (t ∷ ts) s = meets t.kind s

pub weaker : (first may : Kind → Bool) (a : List Token) → Follows (behind_list first may) a → Follows may a
weaker first may [] h = tt
weaker first may (t ∷ ts) h = second_so (not (first t.kind)) (may t.kind) h

-- what comes behind an item may follow it
pub list_meets : {A : Type 0} {P : List Token → A → List Token → Type 0} (first may : Kind → Bool) → ((x : List Token) (t : A) (y : List Token) → P x t y → Starts first x) → ((k : Kind) → IsTrue (first k) → IsTrue (may k)) → (more : List Token) (v : List A) (after : List Token) → Repeated P more v after → Follows (behind_list first may) after → Follows may more
list_meets first may begins meets more v after no_more h = weaker first may more h
list_meets first may begins meets more v after (one_more {b = c} {x = x} p q) h = starts_follows first may meets more (begins more x c p)
