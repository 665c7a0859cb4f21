-- A rule as a chain of parts, none of which has a name of its own.
use Rattle.std.proofs.Common.{◌≡◌, ◌+◌, ℕ, Bool, IsTrue, List, [], ◌∷◌, Some, suc, Result, Ok, Err, refl, sym, subst}
use Rattle.std.specs.Result.{IsErrAnd, MatchResult}
use Rattle.fab_base.specs.declared.token.Mark.{Mark}
use Rattle.fab_base.specs.declared.token.Kind.{Kind}
use Rattle.fab_base.specs.declared.token.Kind.TheVariants as k
use Rattle.fab_base.specs.declared.token.Token.{Token}
use Rattle.fab_tree.specs.Depth.{room_by}
use Rattle.fab_tree.specs.Lists.{Is, is, Ended, ended}
use Rattle.fab_reading.specs.declared.refusal.Refusal.{Refusal}
use Rattle.fab_reading.specs.Reading.{Rule, Follows, Read, Stops, CannotRead, any}
use Rattle.fab_reading.proofs.Rules.{Then, Sign, HasText, Going, start, turn, part, sign, opened, closed, whole, ending, end_text, token_of, sign_text, then_text, stop_part, stop_sign, sign_follows, any_follows}
use Rattle.fab_reading.proofs.TokenRules.{name_text}
use Rattle.fab_reading.proofs.ListRules.{repeated_text}
use Rattle.fab_reading.proofs.ItemRules.{separated_text}
use Rattle.fab_reading.proofs.ChoiceRules.{perhaps_text}

-- what a rule with one form comes to
pub chain : {A B : Type 0} {R : Rule A} {may : Kind → Bool} {room : ℕ} {S : Rule B} (f : B → A)
    → ((more : List Token) (v : B) (after : List Token) → S more v after → R more (f v) after)
    → ((more : List Token) (u : A) (after : List Token) → R more u after → (v : B) × (u ≡ f v) × S more v after)
    → (a : List Token) → Going R may room a S f room a
chain {R = R} {may = may} {room = room} f to from a = turn f (start R may room a) to (λ more u after same d h. from more u after d)

-- ---- from part to part

-- The next part is read, and what comes behind it may follow it.
pub record Fits {A C : Type 0} (P : Rule A) (Q : Rule C) (may : Kind → Bool) (left : ℕ) (b : List Token) (t : A) (c : List Token) : Type 0 where
  pub behind : Kind → Bool
  pub read : Read P behind left b t c
  pub meets : (more : List Token) (v : C) (after : List Token) → Q more v after → Follows may after → Follows behind more

module _ {A C : Type 0} {P : Rule A} {Q : Rule C} {may : Kind → Bool} {left : ℕ} {b : List Token} {t : A} {c : List Token} where
  pub fitting : {may' : Kind → Bool} → Read P may' left b t c
      → ((more : List Token) (v : C) (after : List Token) → Q more v after → Follows may after → Follows may' more) → Fits P Q may left b t c
  fitting {may' = may'} x meets = record { behind = may'; read = x; meets = meets }

  -- any token may follow it
  pub free : Read P any left b t c → Fits P Q may left b t c
  free x = fitting x (λ more v after q h. any_follows more)

module _ {A : Type 0} {P : Rule A} {may may' : Kind → Bool} {left : ℕ} {b : List Token} {t : A} {c : List Token} {mark : Mark} where
  -- this sign comes, and others behind it
  pub led : {C : Type 0} {Q : Rule C} → Read P may' left b t c → IsTrue (may' (k.Fixed mark)) → Fits P (Then (Sign mark) Q) may left b t c
  led x h = fitting x (λ more v after q f. sign_follows mark may' h q.first)

  -- this sign comes, and nothing behind it
  pub led_last : Read P may' left b t c → IsTrue (may' (k.Fixed mark)) → Fits P (Sign mark) may left b t c
  led_last x h = fitting x (λ more v after q f. sign_follows mark may' h q)

-- the next part is read
infixl 10 ◌>>◌
pub ◌>>◌ : {A B C : Type 0} {R : Rule A} {may : Kind → Bool} {room : ℕ} {a : List Token}
    {P : Rule B} {Q : Rule C} {f : B × C → A} {left : ℕ} {b c : List Token} {t : B}
    → Going R may room a (Then P Q) f left b → Fits P Q may left b t c → Going R may room a Q (λ v. f (t, v)) left c
g >> x = part g x.read x.meets

-- the next sign comes
infixl 10 ◌>|◌
pub ◌>|◌ : {A C : Type 0} {R : Rule A} {may : Kind → Bool} {room : ℕ} {a : List Token}
    {Q : Rule C} {f : Unit {0} × C → A} {left n : ℕ} {mark : Mark} {b c : List Token}
    → Going R may room a (Then (Sign mark) Q) f left b → Is mark b c × (room_by (k.Fixed mark) left ≡ Some n) → Going R may room a Q (λ v. f (tt, v)) n c
g >| i = sign g i.0 i.1

-- it opens a bracket
pub inside : {mark : Mark} {b c : List Token} {left n : ℕ} → Is mark b c × (left ≡ n + 1) → ((r : ℕ) → room_by (k.Fixed mark) (suc r) ≡ Some r)
    → Is mark b c × (room_by (k.Fixed mark) left ≡ Some n)
inside {mark = mark} i opens = (i.0, opened mark opens i.1)

-- it closes one
pub outside : {mark : Mark} {b c : List Token} {left : ℕ} (n : ℕ) → Is mark b c → left ≡ n + 1 → ((r : ℕ) → room_by (k.Fixed mark) r ≡ Some (suc r))
    → Is mark b c × (room_by (k.Fixed mark) n ≡ Some left)
outside {mark = mark} n i e closes = (i, closed mark n closes e)

-- ---- what stops

-- what a `?` hands on
pub exit : {T E : Type 0} (P : T → Type 0) (Q : E → Type 0) (e : E) (r : Result T E) → IsErrAnd r (λ y. y ≡ e) → Q e → MatchResult r P Q
exit P Q e (Ok x) h q = absurd h
exit P Q e (Err y) h q = subst Q (sym h) q

pub mark_text : (mark : Mark) → HasText (Sign mark)
mark_text mark = (token_of mark ∷ [], tt, λ after. is refl)

-- some text of the parts that are to come
pub ruleset texts = (then_text, mark_text, name_text, repeated_text, separated_text, perhaps_text)

module _ {A B C : Type 0} {R : Rule A} {may : Kind → Bool} {room : ℕ} {a : List Token} {P : Rule B} {Q : Rule C} {left : ℕ} {b : List Token} where
  -- a part that any token may follow
  pub free_stops : {f : B × C → A} (e : Refusal) → Going R may room a (Then P Q) f left b → Stops P any left b e → HasText Q → Stops R may room a e
  free_stops e g x some = stop_part any e g x (λ more v after q h. any_follows more) some

  -- a part before a sign
  pub led_stops : {mark : Mark} {f : B × (Unit {0} × C) → A} (may' : Kind → Bool) (e : Refusal) → Going R may room a (Then P (Then (Sign mark) Q)) f left b
      → Stops P may' left b e → IsTrue (may' (k.Fixed mark)) → HasText Q → Stops R may room a e
  led_stops {mark = mark} may' e g x h some = stop_part may' e g x (λ more v after q f. sign_follows mark may' h q.first) (sign_text mark some)

module _ {A B : Type 0} {R : Rule A} {may : Kind → Bool} {room : ℕ} {a : List Token} {P : Rule B} {mark : Mark} {left : ℕ} {b : List Token} where
  -- a part before the last sign
  pub led_last_stops : {f : B × Unit {0} → A} (may' : Kind → Bool) (e : Refusal) → Going R may room a (Then P (Sign mark)) f left b → Stops P may' left b e
      → IsTrue (may' (k.Fixed mark)) → Stops R may room a e
  led_last_stops may' e g x h = stop_part may' e g x (λ more v after q f. sign_follows mark may' h q) (mark_text mark)

module _ {A : Type 0} {R : Rule A} {may : Kind → Bool} {room : ℕ} {a : List Token} {mark : Mark} {f : Unit {0} → A} {left : ℕ} {b : List Token} where
  -- the last sign
  pub last_sign : {c : List Token} → Going R may room a (Sign mark) f left b → Is mark b c × (room_by (k.Fixed mark) left ≡ Some room) → Read R may room a (f tt) c
  last_sign g i = whole (sign (ending g) i.0 i.1)

  pub last_sign_stops : (e : Refusal) → Going R may room a (Sign mark) f left b → CannotRead mark b e → Stops R may room a e
  last_sign_stops e g x = stop_sign e (ending g) x end_text

-- ---- x mark

ended_back : {A : Type 0} {P : Rule A} {mark : Mark} (a : List Token) (v : A) (b : List Token) → Ended mark P a v b
    → (x : A × Unit {0}) × (v ≡ x.0) × Then P (Sign mark) a x b
ended_back a v b (ended {x = x} p q) = ((x, tt), refl, record { mid = _; first = p; second = q })

pub ended_start : {A : Type 0} {P : Rule A} {mark : Mark} {may : Kind → Bool} {room : ℕ} (a : List Token)
    → Going (Ended mark P) may room a (Then P (Sign mark)) (λ v. v.0) room a
ended_start = chain (λ v. v.0) (λ more v after p. ended p.first p.second) ended_back
