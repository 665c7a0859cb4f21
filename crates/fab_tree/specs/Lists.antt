-- The pieces of the grammar: marks, names, numbers and lists.
--
-- IsX a t b says: the tokens a begin with those of the tree t, and b is what follows. In the rules in comments, [x]
-- is at most one x, {x} any number, and quoted marks stand for themselves.
use Rattle.std.specs.Prelude.{◌≡◌, ◌<◌, ℕ, List, [], ◌∷◌, Option, Some, None, ℤ, pos, negsuc, zero, suc}
use Rattle.fab_base.specs.declared.token.Mark.{Mark}
use Rattle.fab_base.specs.declared.token.Kind.TheVariants as k
use Rattle.fab_base.specs.declared.token.Token.{Token}
use Rattle.fab_tree.specs.declared.name.Name.{Name}
use Rattle.fab_tree.specs.declared.expression.Number.{Number}
use Rattle.fab_tree.specs.declared.expression.Number.TheVariants as numbers

-- this sign or keyword
pub data Is : Mark → List Token → List Token → Type 0 where
  is : {mark : Mark} {t : Token} {ts : List Token} → t.kind ≡ k.Fixed mark → Is mark (t ∷ ts) ts

-- a name, with its place
pub data IsName : List Token → Name → List Token → Type 0 where
  name : {t : Token} {ts : List Token} {x : List ℕ} → t.kind ≡ k.Name x → IsName (t ∷ ts) (record { text = x; at = t.at }) ts

-- a number behind a minus sign
abbrev pub minus : ℕ → ℤ
minus zero = pos 0
minus (suc n) = negsuc n

-- a number, one that has 31 bits, as every number of a text
pub data IsNumeral : List Token → ℕ → List Token → Type 0 where
  numeral : {t : Token} {ts : List Token} {n : ℕ} → t.kind ≡ k.Number n → n < 2147483648 → IsNumeral (t ∷ ts) n ts

-- a number of a width, by how it is written
pub data IsNumber : List Token → Number → List Token → Type 0 where
  int : {a b : List Token} {n : ℕ} → IsNumeral a n b → IsNumber a (numbers.Int (pos n)) b

-- the digits of the least number of a width, which stand for it behind a minus sign
pub data IsLeast : List Token → Number → List Token → Type 0 where
  least_int : {t : Token} {ts : List Token} → t.kind ≡ k.Least → IsLeast (t ∷ ts) (numbers.Int (minus 2147483648)) ts

-- bytes in quotation marks
pub data IsBytes : List Token → List ℕ → List Token → Type 0 where
  bytes : {t : Token} {ts : List Token} {x : List ℕ} → t.kind ≡ k.Bytes x → IsBytes (t ∷ ts) x ts

-- {x}
pub data Repeated {A : Type 0} (P : List Token → A → List Token → Type 0) : List Token → List A → List Token → Type 0 where
  no_more : {a : List Token} → Repeated P a [] a
  one_more : {a b c : List Token} {x : A} {xs : List A} → P a x b → Repeated P b xs c → Repeated P a (x ∷ xs) c

-- mark x
pub data Behind {A : Type 0} (mark : Mark) (P : List Token → A → List Token → Type 0) : List Token → A → List Token → Type 0 where
  behind : {a b c : List Token} {x : A} → Is mark a b → P b x c → Behind mark P a x c

-- x mark
pub data Ended {A : Type 0} (mark : Mark) (P : List Token → A → List Token → Type 0) : List Token → A → List Token → Type 0 where
  ended : {a b c : List Token} {x : A} → P a x b → Is mark b c → Ended mark P a x c

-- [mark x]
pub data Perhaps {A : Type 0} (mark : Mark) (P : List Token → A → List Token → Type 0) : List Token → Option A → List Token → Type 0 where
  without : {a : List Token} → Perhaps mark P a None a
  with_it : {a b c : List Token} {x : A} → Is mark a b → P b x c → Perhaps mark P a (Some x) c

-- [x {mark x}]
pub data Separated {A : Type 0} (mark : Mark) (P : List Token → A → List Token → Type 0) : List Token → List A → List Token → Type 0 where
  none : {a : List Token} → Separated mark P a [] a
  some : {a b c : List Token} {x : A} {xs : List A} → P a x b → Repeated (Behind mark P) b xs c → Separated mark P a (x ∷ xs) c
