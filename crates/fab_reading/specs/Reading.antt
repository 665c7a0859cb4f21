-- What a reader of one rule of the grammar answers.
use Rattle.std.specs.Prelude.{◌≡◌, ℕ, Bool, true, false, not, ◌&&◌, nat_lt, IsTrue, List, [], ◌∷◌, ◌++◌, length, Some, None}
use Rattle.fab_base.specs.declared.token.Mark.{Mark}
use Rattle.fab_base.specs.declared.token.Mark.TheVariants as m
use Rattle.fab_base.specs.declared.token.Kind.{Kind}
use Rattle.fab_base.specs.declared.token.Kind.TheVariants as k
use Rattle.fab_base.specs.declared.token.Token.{Token}
use Rattle.fab_tree.specs.Lists.{Is}
use Rattle.fab_tree.specs.Depth.{room_by, room_after}
use Rattle.fab_reading.specs.declared.refusal.Refusal.{Refusal}
use Rattle.fab_reading.specs.declared.refusal.Refusal.TheVariants as refusal

-- a begins with this mark
abbrev pub BeginsWith : Mark → List Token → Type 0
BeginsWith mark [] = ⊥
BeginsWith mark (t ∷ ts) = t.kind ≡ k.Fixed mark

-- a doesn't begin with this mark
abbrev pub Lacks : Mark → List Token → Type 0
Lacks mark a = (b : List Token) → Is mark a b → ⊥

-- where the first token begins
abbrev pub first_place : List Token → ℕ
first_place [] = 0
first_place (t ∷ ts) = t.at

-- a begins with a token of one of these kinds
abbrev pub Starts : (Kind → Bool) → List Token → Type 0
Starts first [] = ⊥
Starts first (t ∷ ts) = IsTrue (first t.kind)

-- what stands in the grammar for a rule: the tokens, the tree that they begin with, and the tokens behind it
abbrev pub Rule : Type 0 → Type 1
Rule A = List Token → A → List Token → Type 0

-- both begin with one token, or both are over
abbrev pub SameHead : List Token → List Token → Type 0
SameHead [] [] = Unit {0}
SameHead [] (u ∷ us) = ⊥
SameHead (t ∷ ts) [] = ⊥
SameHead (t ∷ ts) (u ∷ us) = t ≡ u

-- what follows is over, or begins with a token that may follow
abbrev pub Follows : (Kind → Bool) → List Token → Type 0
Follows may [] = Unit {0}
Follows may (t ∷ ts) = IsTrue (may t.kind)

-- The rule R reads t from the tokens a, and b is what follows. Whatever follows the same token, it reads nothing else.
pub record Read {A : Type 0} (R : List Token → A → List Token → Type 0) (may : Kind → Bool) (room : ℕ) (a : List Token) (t : A) (b : List Token) : Type 0 where
  pub front : List Token
  pub cut : a ≡ front ++ b
  pub level : room_after front room ≡ Some room
  pub reads : (more : List Token) → R (front ++ more) t more
  pub only : (more : List Token) → SameHead b more → (u : A) (after : List Token)
      → R (front ++ more) u after → Follows may after → (u ≡ t) × (after ≡ more)

-- The tokens up to the last so many begin something that R reads, and with the next token they begin nothing of it.
pub record Refused {A : Type 0} (R : List Token → A → List Token → Type 0) (may : Kind → Bool) (room : ℕ) (a : List Token) (left : ℕ) : Type 0 where
  pub front : List Token
  pub back : List Token
  pub cut : a ≡ front ++ back
  pub left_is : length back ≡ left
  pub level : (r : ℕ) × (room_after front room ≡ Some r)
  pub begins : (more : List Token) × (t : A) × ((after : List Token) → R (front ++ (more ++ after)) t after)
  pub bad : (more : List Token) → SameHead back more → (t : A) (after : List Token) → R (front ++ more) t after → Follows may after → ⊥

-- The next token opens a bracket too many, and the tokens with it begin something that R reads.
pub record Deep {A : Type 0} (R : List Token → A → List Token → Type 0) (room : ℕ) (a : List Token) (left : ℕ) : Type 0 where
  pub front : List Token
  pub next : Token
  pub back : List Token
  pub cut : a ≡ front ++ (next ∷ back)
  pub left_is : length (next ∷ back) ≡ left
  pub level : room_after front room ≡ Some 0
  pub opens : room_by next.kind 0 ≡ None
  pub begins : (more : List Token) × (t : A) × ((after : List Token) → R (front ++ (next ∷ (more ++ after))) t after)

-- why it reads nothing
abbrev pub Stops : {A : Type 0} → (R : List Token → A → List Token → Type 0) → (Kind → Bool) → ℕ → List Token → Refusal → Type 0
Stops R may room a refusal.Memory = Unit {0}
Stops R may room a (refusal.Syntax left) = Refused R may room a left
Stops R may room a (refusal.Deep left) = Deep R room a left

-- any token may follow
abbrev pub any : Kind → Bool
any kind = true

-- a principal, a worker or a store begins with one of these
abbrev pub begins_node : Kind → Bool
begins_node (k.Fixed m.Principal) = true
begins_node (k.Fixed m.Worker) = true
begins_node (k.Fixed m.Store) = true
begins_node (k.Fixed m.Hostile) = true
begins_node _ = false

-- a name
abbrev pub begins_name : Kind → Bool
begins_name (k.Name x) = true
begins_name _ = false

-- a label
abbrev pub begins_label : Kind → Bool
begins_label (k.Fixed m.Label) = true
begins_label _ = false

-- a class
abbrev pub begins_class : Kind → Bool
begins_class (k.Fixed m.Class) = true
begins_class _ = false

-- a type, and a field
abbrev pub begins_sort : Kind → Bool
begins_sort (k.Fixed m.Int) = true
begins_sort (k.Name x) = true
begins_sort _ = false

-- a root
abbrev pub begins_root : Kind → Bool
begins_root (k.Fixed m.Root) = true
begins_root _ = false

-- a method
abbrev pub begins_method : Kind → Bool
begins_method (k.Fixed m.Method) = true
begins_method _ = false

-- a session
abbrev pub begins_session : Kind → Bool
begins_session (k.Fixed m.Session) = true
begins_session _ = false

-- a number
abbrev pub begins_numeral : Kind → Bool
begins_numeral (k.Number n) = nat_lt n 2147483648
begins_numeral _ = false

-- the digits of the least number of a width
abbrev pub begins_least : Kind → Bool
begins_least k.Least = true
begins_least _ = false

-- what stands behind a minus sign
abbrev pub begins_negated : Kind → Bool
begins_negated (k.Number n) = nat_lt n 2147483648
begins_negated k.Least = true
begins_negated _ = false

-- a literal
abbrev pub begins_literal : Kind → Bool
begins_literal (k.Number n) = nat_lt n 2147483648
begins_literal (k.Fixed m.Minus) = true
begins_literal (k.Fixed m.Null) = true
begins_literal (k.Name x) = true
begins_literal _ = false

abbrev pub is_comma : Kind → Bool
is_comma (k.Fixed m.Comma) = true
is_comma _ = false

abbrev pub is_semicolon : Kind → Bool
is_semicolon (k.Fixed m.Semicolon) = true
is_semicolon _ = false

-- what may follow a list whose items begin so and are followed so: nothing that begins one more
abbrev pub behind_list : (Kind → Bool) → (Kind → Bool) → Kind → Bool
behind_list first may kind = not (first kind) && may kind

-- what may follow items with marks between them: no item, no mark
abbrev pub behind_items : (Kind → Bool) → (Kind → Bool) → (Kind → Bool) → Kind → Bool
behind_items first parts may kind = not (first kind) && (not (parts kind) && may kind)

-- nothing may follow
abbrev pub nothing : Kind → Bool
nothing kind = false

-- why a sign isn't read
abbrev pub CannotRead : Mark → List Token → Refusal → Type 0
CannotRead mark a refusal.Memory = ⊥
CannotRead mark a (refusal.Syntax left) = (left ≡ length a) × Lacks mark a
CannotRead mark a (refusal.Deep left) = ⊥

-- why a bracket isn't opened
abbrev pub CannotOpen : Mark → ℕ → List Token → Refusal → Type 0
CannotOpen mark room a refusal.Memory = ⊥
CannotOpen mark room a (refusal.Syntax left) = (left ≡ length a) × Lacks mark a
CannotOpen mark room a (refusal.Deep left) = (left ≡ length a) × (room ≡ 0) × BeginsWith mark a

-- what may follow fields
abbrev pub behind_fields : Kind → Bool
behind_fields = behind_list begins_sort any

-- what may follow literals with commas between them
abbrev pub behind_literals : Kind → Bool
behind_literals = behind_items begins_literal is_comma any

-- what may follow names with commas between them
abbrev pub behind_names : Kind → Bool
behind_names = behind_items begins_name is_comma any
