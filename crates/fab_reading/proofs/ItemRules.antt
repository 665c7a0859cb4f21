-- Lists of items with a mark between them.
use Rattle.std.proofs.Common.{◌≡◌, ℕ, Bool, true, false, not, ◌&&◌, IsTrue, List, [], ◌∷◌, refl, sym, subst}
use Rattle.fab_base.specs.declared.token.Mark.{Mark}
use Rattle.fab_base.specs.declared.token.Kind.{Kind}
use Rattle.fab_base.specs.declared.token.Kind.TheVariants as k
use Rattle.fab_base.specs.declared.token.Token.{Token}
use Rattle.fab_tree.specs.Lists.{Is, is, Repeated, no_more, one_more, Behind, behind, Separated, none, some}
use Rattle.fab_reading.specs.Reading.{Lacks, Starts, SameHead, Follows, behind_items}
use Rattle.fab_reading.proofs.Rules.{Then, End, Sign, Going, HasText, start, turn, lacks_too, same_sign, starts_too}

-- the three parts of what may follow
no_first : (b c d : Bool) → IsTrue b → IsTrue (not b && (not c && d)) → ⊥
no_first true c d h i = cc
no_first false c d h i = cc

no_mark : (b c d : Bool) → IsTrue c → IsTrue (not b && (not c && d)) → ⊥
no_mark true c d h i = cc
no_mark false true d h i = cc
no_mark false false d h i = cc

the_third : (b c d : Bool) → IsTrue (not b && (not c && d)) → IsTrue d
the_third true c d i = absurd (cc)
the_third false true d i = absurd (cc)
the_third false false d i = i

module _ (first parts may : Kind → Bool) where
  first_follows : (a : List Token) → Starts first a → Follows (behind_items first parts may) a → ⊥
  first_follows [] s h = s
  first_follows (t ∷ ts) s h = no_first (first t.kind) (parts t.kind) (may t.kind) s h

  mark_follows : (mark : Mark) → IsTrue (parts (k.Fixed mark)) → {a b : List Token} → Is mark a b → Follows (behind_items first parts may) a → ⊥
  mark_follows mark part (is {t = t} e) h = no_mark (first t.kind) (parts t.kind) (may t.kind) (subst (λ x. IsTrue (parts x)) (sym e) part) h

  may_follow : (a : List Token) → Follows (behind_items first parts may) a → Follows may a
  may_follow [] h = tt
  may_follow (t ∷ ts) h = the_third (first t.kind) (parts t.kind) (may t.kind) h

pub same_starts : (first : Kind → Bool) (a more : List Token) → SameHead a more → Starts first a → Starts first more
same_starts first [] more same s = absurd s
same_starts first (t ∷ ts) [] same s = same
same_starts first (t ∷ ts) (u ∷ us) same s = subst (λ x. IsTrue (first x.kind)) same s

module _ {A : Type 0} {P : List Token → A → List Token → Type 0} (first parts may : Kind → Bool) (mark : Mark) where
  -- what comes behind an item may follow it
  pub items_meet : IsTrue (parts (k.Fixed mark)) → IsTrue (may (k.Fixed mark)) → (more : List Token) (v : List A) (after : List Token) → Repeated (Behind mark P) more v after → Follows (behind_items first parts may) after → Follows may more
  items_meet part m more v after no_more h = may_follow first parts may more h
  items_meet part m more v after (one_more (behind (is e) p) q) h = subst (λ x. IsTrue (may x)) (sym e) m

  some_back : {more : List Token} {v : List A} {b : List Token} → Starts first more → Separated mark P more v b → Follows (behind_items first parts may) b → (x : A × List A) × (v ≡ x.0 ∷ x.1) × Then P (Repeated (Behind mark P)) more x b
  some_back {more = more} s none h = absurd (first_follows first parts may more s h)
  some_back s (some {b = b} {x = x} {xs = xs} p q) h = ((x, xs), refl, record { mid = b; first = p; second = q })

  more_back : IsTrue (parts (k.Fixed mark)) → {more c : List Token} {v : List A} {b : List Token} → Is mark more c → Repeated (Behind mark P) more v b → Follows (behind_items first parts may) b → (x : Unit {0} × (A × List A)) × (v ≡ x.1.0 ∷ x.1.1) × Then (Sign mark) (Then P (Repeated (Behind mark P))) more x b
  more_back part i no_more h = absurd (mark_follows first parts may mark part i h)
  more_back part i (one_more {b = d} {x = x} {xs = xs} (behind {b = c} j p) q) h = ((tt, (x, xs)), refl, record { mid = c; first = j; second = record { mid = d; first = p; second = q } })

none_back : {A : Type 0} {P : List Token → A → List Token → Type 0} {mark : Mark} (first : Kind → Bool) → ((x : List Token) (t : A) (y : List Token) → P x t y → Starts first x) → {more : List Token} {v : List A} {after : List Token} → (Starts first more → ⊥) → Separated mark P more v after → (x : Unit {0}) × (v ≡ []) × (more ≡ after)
none_back first begins lacks none = (tt, refl, refl)
none_back first begins lacks (some {b = c} {x = x} p q) = absurd (lacks (begins _ x c p))

end_back : {A : Type 0} {P : List Token → A → List Token → Type 0} {mark : Mark} {more : List Token} {v : List A} {after : List Token} → ((c : List Token) → Is mark more c → ⊥) → Repeated (Behind mark P) more v after → (x : Unit {0}) × (v ≡ []) × (more ≡ after)
end_back lacks no_more = (tt, refl, refl)
end_back lacks (one_more (behind {b = c} i p) q) = absurd (lacks c i)

module _ {A : Type 0} {P : List Token → A → List Token → Type 0} (first parts may : Kind → Bool) (mark : Mark) {room : ℕ} where
  -- no item comes
  pub no_items : ((x : List Token) (t : A) (y : List Token) → P x t y → Starts first x) → (a : List Token) → (Starts first a → ⊥) → Going (Separated mark P) (behind_items first parts may) room a End (λ x. []) room a
  no_items begins a lacks = turn (λ x. []) (start (Separated mark P) (behind_items first parts may) room a) (λ more v after p. subst (λ y. Separated mark P more [] y) p none) (λ more v after same p h. none_back first begins (λ s. lacks (starts_too first a more same s)) p)

  -- one comes
  pub first_item : (a : List Token) → Starts first a → Going (Separated mark P) (behind_items first parts may) room a (Then P (Repeated (Behind mark P))) (λ v. v.0 ∷ v.1) room a
  first_item a s = turn (λ v. v.0 ∷ v.1) (start (Separated mark P) (behind_items first parts may) room a) (λ more v after p. some p.first p.second) (λ more v after same p h. some_back first parts may mark (same_starts first a more same s) p h)

module _ {A B : Type 0} {P : List Token → A → List Token → Type 0} {R : List Token → B → List Token → Type 0} {room : ℕ} {a : List Token} {f : List A → B} {left : ℕ} {b : List Token} (first parts may : Kind → Bool) (mark : Mark) where
  -- the mark comes, and one more behind it
  pub next_item : IsTrue (parts (k.Fixed mark)) → {c : List Token} → Going R (behind_items first parts may) room a (Repeated (Behind mark P)) f left b → Is mark b c → Going R (behind_items first parts may) room a (Then (Sign mark) (Then P (Repeated (Behind mark P)))) (λ v. f (v.1.0 ∷ v.1.1)) left b
  next_item part r i = turn (λ v. v.1.0 ∷ v.1.1) r (λ more v after p. one_more (behind p.first p.second.first) p.second.second) (λ more v after same p h. more_back first parts may mark part (same_sign b more i same).1 p h)

  -- the mark doesn't come
  pub last_item : Going R (behind_items first parts may) room a (Repeated (Behind mark P)) f left b → Lacks mark b → Going R (behind_items first parts may) room a End (λ x. f []) left b
  last_item r lacks = turn (λ x. []) r (λ more v after p. subst (λ y. Repeated (Behind mark P) more [] y) p no_more) (λ more v after same p h. end_back (λ c i. lacks_too b more c lacks same i) p)

pub items_text : {A : Type 0} {P : List Token → A → List Token → Type 0} {mark : Mark} → HasText (Repeated (Behind mark P))
items_text = ([], [], λ after. no_more)

pub separated_text : {A : Type 0} {P : List Token → A → List Token → Type 0} {mark : Mark} → HasText (Separated mark P)
separated_text = ([], [], λ after. none)
