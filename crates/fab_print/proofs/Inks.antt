-- Inks as tokens, and which inks can be cut into these tokens again.
use Rattle.std.proofs.Common.{◌≡◌, ℕ, zero, suc, ◌-◌, ◌*◌, ◌<◌, Bool, true, false, not, List, [], ◌∷◌, length, Some, sym, subst, arith}
use Rattle.std.specs.Prelude.{if◌then◌else◌, ◌==◌, replicate}
use Rattle.std.proofs.lemmas.Bool.Decides.{nat_tests}
use Rattle.std.specs.List.{list_all}
use Rattle.fab_base.specs.declared.token.Mark.{Mark}
use Rattle.fab_base.specs.declared.token.Mark.TheVariants as m
use Rattle.fab_base.specs.declared.token.Kind.{Kind}
use Rattle.fab_base.specs.declared.token.Kind.TheVariants as k
use Rattle.fab_base.specs.declared.token.Token.{Token}
use Rattle.fab_base.specs.Tokens.{is_space, is_word_byte, word_kind}
use Rattle.fab_tree.specs.declared.name.Name.{Name}
use Rattle.fab_tree.specs.Lists.{Is, is, IsName, name, IsNumeral, numeral}
use Rattle.fab_tree.specs.Print.{Ink, token, blank, Inks, text_of, number}
use Rattle.fab_tree.specs.Print as print

-- ---- tokens

-- The tokens of inks, in a text of so many bytes at whose end they stand. So the tokens of what follows are the same whatever stands before it.
abbrev pub tokens : ℕ → List Ink → List Token
tokens n [] = []
tokens n (blank bs ∷ more) = tokens n more
tokens n (token x ∷ more) = record { kind = x; at = n - length (text_of (token x ∷ more)); end = n - length (text_of more) } ∷ tokens n more

-- ---- what may touch

-- What the last token asks of what touches it: nothing, or to be no word, or no more of a sign.
pub data Edge : Type 0 where
  free : Edge
  word : Edge
  sign : Edge

abbrev pub mark_edge : Mark → Edge
mark_edge m.Minus = sign
mark_edge m.Less = sign
mark_edge m.Greater = sign
mark_edge m.Equal = sign
mark_edge m.Bang = sign
mark_edge m.Slash = sign
mark_edge m.Arrow = free
mark_edge m.BackArrow = free
mark_edge m.EqualEqual = free
mark_edge m.NotEqual = free
mark_edge m.LessEqual = free
mark_edge m.GreaterEqual = free
mark_edge m.Plus = free
mark_edge m.Star = free
mark_edge m.And = free
mark_edge m.Bar = free
mark_edge m.LeftParen = free
mark_edge m.RightParen = free
mark_edge m.LeftBrace = free
mark_edge m.RightBrace = free
mark_edge m.Comma = free
mark_edge m.Semicolon = free
mark_edge m.Colon = free
mark_edge m.Dot = free
mark_edge m.At = free
mark_edge _ = word

abbrev pub edge_of : Kind → Edge
edge_of (k.Name x) = word
edge_of (k.Number n) = word
edge_of k.Least = word
edge_of (k.Bytes bs) = free
edge_of (k.Fixed x) = mark_edge x

abbrev pub is_word : Edge → Bool
is_word free = false
is_word word = true
is_word sign = false

-- behind a sign that could go on, a word or an opening bracket
abbrev pub fits : Edge → Kind → Bool
fits free x = true
fits word x = not (is_word (edge_of x))
fits sign (k.Fixed m.LeftParen) = true
fits sign x = is_word (edge_of x)

-- ---- what a text can have

abbrev pub Small : List ℕ → Type 0
Small [] = Unit {0}
Small (b ∷ bs) = (b < 256) × Small bs

abbrev pub Well : Kind → Type 0
Well (k.Name x) = (list_all is_word_byte x ≡ true) × (word_kind x ≡ Some (k.Name x))
Well (k.Number n) = n < 2147483648
Well k.Least = Unit {0}
Well (k.Bytes bs) = Small bs
Well (k.Fixed x) = Unit {0}

abbrev pub Holds : Bool → Type 0
Holds true = Unit {0}
Holds false = ⊥

-- inks behind an edge, none of which runs into the next
abbrev pub Clean : Edge → List Ink → Type 0
Clean e [] = Unit {0}
Clean e (blank [] ∷ more) = Clean e more
Clean e (blank (b ∷ bs) ∷ more) = Holds (list_all is_space (b ∷ bs)) × Clean free more
Clean e (token x ∷ more) = Holds (fits e x) × Well x × Clean (edge_of x) more

abbrev pub Wells : List Token → Type 0
Wells [] = Unit {0}
Wells (t ∷ ts) = Well t.kind × Wells ts

-- what stands behind an edge stands behind none
pub freed : (e : Edge) (x : List Ink) → Clean e x → Clean free x
freed e [] c = tt
freed e (blank [] ∷ more) c = freed e more c
freed e (blank (b ∷ bs) ∷ more) c = c
freed e (token x ∷ more) c = (tt, c.1, c.2)

-- ---- what is printed for a tree

-- tokens that stand for the tree but for its places
pub record Again {A : Type 0} (P : List Token → A → List Token → Type 0) (f : A → A) (t : A) (a b : List Token) : Type 0 where
  pub tree : A
  pub reads : P a tree b
  pub same : f tree ≡ f t

-- What is shown of a tree is clean behind one edge, where what follows is clean behind the other, and it is read again; places change nothing in it.
pub record Printed {A : Type 0} (P : List Token → A → List Token → Type 0) (f : A → A) (e g : Edge) (show : A → Inks) (t : A) (b : List Token) : Type 0 where
  pub rest : Wells b
  pub clean : (more : List Ink) → Clean g more → Clean e (show t more)
  pub again : (n : ℕ) (more : List Ink) → Again P f t (tokens n (show t more)) (tokens n more)
  pub steady : show (f t) ≡ show t

-- behind a mark
pub behind_it : {x : Mark} {a b : List Token} → Is x a b → Wells a → Wells b
behind_it (is e) w = w.1

pub well_name : {a b : List Token} {x : Name} → IsName a x b → Wells a → Well (k.Name x.text)
well_name (name e) w = subst Well e w.0

pub behind_name : {a b : List Token} {x : Name} → IsName a x b → Wells a → Wells b
behind_name (name e) w = w.1

pub behind_numeral : {a b : List Token} {n : ℕ} → IsNumeral a n b → Wells a → Wells b
behind_numeral (numeral e h) w = w.1

-- ---- numbers

pub few : (n : ℕ) → n < 2147483648 → (if n == 2147483648 then k.Least else k.Number n) ≡ k.Number n
few n h = grind (arith, nat_tests)

few_more : (e : Edge) (more : List Ink) (n : ℕ) (x : Kind) → x ≡ k.Number n → n < 2147483648 → Holds (fits e (k.Number n)) → Clean word more → Clean e (token x ∷ more)
few_more e more n x same h i c = subst (λ y. Clean e (token y ∷ more)) (sym same) (i, h, c)

-- a number is clean where a word fits
pub number_clean : (e : Edge) (more : List Ink) (n : ℕ) → n < 2147483648 → Holds (fits e (k.Number n)) → Clean word more → Clean e (number n more)
number_clean e more n h i c = few_more e more n _ (few n h) h i c

-- ---- blanks

spaces : (n : ℕ) → Holds (list_all is_space (replicate n 32))
spaces zero = tt
spaces (suc n) = spaces n

blanks_clean : (n : ℕ) (more : List Ink) → Clean free more → Clean free (blank (replicate n 32) ∷ more)
blanks_clean zero more c = c
blanks_clean (suc n) more c = (spaces n, c)

pub indent_clean : (n : ℕ) (more : List Ink) → Clean free more → Clean free (print.indent n more)
indent_clean n more c = blanks_clean (2 * n) more c
