-- Which texts are refused, and where.
use Rattle.std.specs.Prelude.{◌≡◌, ℕ, List, [], ◌∷◌, ◌++◌, length, Some, None}
use Rattle.fab_base.specs.declared.limit.What.{What}
use Rattle.fab_base.specs.declared.token.Token.{Token}
use Rattle.fab_tree.specs.declared.start.Start.{Start}
use Rattle.fab_tree.specs.Syntax.{IsText}
use Rattle.fab_tree.specs.Depth.{room_by, room_after, KeepsDepth}
use Rattle.fab_tree.specs.Limits.{first_passed}
use Rattle.fab_bundle.specs.declared.error.BundleError.{BundleError}
use Rattle.fab_bundle.specs.declared.error.BundleError.TheVariants as error

-- some text begins with these tokens
abbrev pub BeginsText : List Token → Type 0
BeginsText ts = (more : List Token) × (s : Start) × IsText (ts ++ more) s

-- with the next token they begin no text; where there is none, they are no text
abbrev pub BadNext : List Token → List Token → Type 0
BadNext front [] = (s : Start) → IsText front s → ⊥
BadNext front (t ∷ ts) = BeginsText (front ++ (t ∷ [])) → ⊥

-- So many tokens begin a text, and with the next one they begin none.
pub record BadToken (ts : List Token) (token : ℕ) : Type 0 where
  pub front : List Token
  pub back : List Token
  pub cut : ts ≡ front ++ back
  pub token_is : length front ≡ token
  pub before : BeginsText front
  pub with_it : BadNext front back
  pub level : (r : ℕ) × (room_after front 64 ≡ Some r)

-- Behind so many tokens one opens a 65th bracket, and with it they begin a text.
pub record BadBracket (ts : List Token) (token : ℕ) : Type 0 where
  pub front : List Token
  pub next : Token
  pub back : List Token
  pub cut : ts ≡ front ++ (next ∷ back)
  pub token_is : length front ≡ token
  pub before : BeginsText (front ++ (next ∷ []))
  pub level : room_after front 64 ≡ Some 0
  pub opens : room_by next.kind 0 ≡ None

-- The tokens stand for one tree alone, no more than 64 brackets are open at once, and this is the first limit that the tree passes.
pub record TooMany (ts : List Token) (what : What) : Type 0 where
  pub tree : Start
  pub is_text : IsText ts tree
  pub single : (s : Start) → IsText ts s → s ≡ tree
  pub level : KeepsDepth ts
  pub passed : first_passed tree ≡ Some what

-- where and why a list of tokens is refused
abbrev pub RefusedAt : List Token → BundleError → Type 0
RefusedAt ts error.Memory = Unit {0}
RefusedAt ts (error.Syntax token) = BadToken ts token
RefusedAt ts (error.DepthLimit token) = BadBracket ts token
RefusedAt ts (error.Limit what) = TooMany ts what

-- why a text that stands for this tree isn't taken: memory or brackets ran out, or this is the first limit that it passes
abbrev pub CannotTake : Start → BundleError → Type 0
CannotTake s error.Memory = Unit {0}
CannotTake s (error.DepthLimit token) = Unit {0}
CannotTake s (error.Limit what) = first_passed s ≡ Some what
CannotTake s (error.Syntax token) = ⊥

-- a fact where the limit on brackets is refused
abbrev pub OnDepthLimit : BundleError → Type 0 → Type 0
OnDepthLimit (error.DepthLimit token) P = P
OnDepthLimit error.Memory P = Unit {0}
OnDepthLimit (error.Syntax token) P = Unit {0}
OnDepthLimit (error.Limit what) P = Unit {0}
