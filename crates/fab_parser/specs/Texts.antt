-- Which tokens begin with those of a program, and where they are refused.
use Rattle.std.specs.Prelude.{◌≡◌, ◌+◌, ◌-◌, ◌≤◌, ℕ, List, [], ◌∷◌, ◌++◌, length, take, drop, Some, None}
use Rattle.fab_base.specs.declared.token.Token.{Token}
use Rattle.fab_tree.specs.declared.program.Program.{Program}
use Rattle.fab_tree.specs.Programs.{IsProgram}
use Rattle.fab_tree.specs.Depth.{room_by, room_after, KeepsDepth}
use Rattle.fab_reading.specs.declared.refusal.Refusal.{Refusal}
use Rattle.fab_reading.specs.declared.refusal.Refusal.TheVariants as refusal
use Rattle.fab_reading.specs.Reading.{Follows}
use Rattle.fab_parser.specs.Pieces.{after_program}
use Rattle.fab_parser.specs.declared.error.ParseError.{ParseError}
use Rattle.fab_parser.specs.declared.error.ParseError.TheVariants as error

-- behind so many tokens stand those of a program, and behind so many its end is
pub record IsPart (ts : List Token) (from : ℕ) (p : Program) (next : ℕ) : Type 0 where
  pub reads : IsProgram (drop from ts) p (drop next ts)
  pub within : next ≤ length ts

-- the tokens from one on, up to another
abbrev pub between : List Token → ℕ → ℕ → List Token
between ts from next = take (next - from) (drop from ts)

-- no further part of a program stands behind so many tokens
abbrev pub Ends : List Token → ℕ → Type 0
Ends ts next = Follows after_program (drop next ts)

-- some program begins with these tokens
abbrev pub BeginsProgram : List Token → Type 0
BeginsProgram ts = (more : List Token) × (p : Program) × IsProgram (ts ++ more) p []

-- no program begins with these tokens and the next one, if there is a next one
abbrev pub GoesNoFurther : List Token → List Token → Type 0
GoesNoFurther front [] = Unit {0}
GoesNoFurther front (t ∷ ts) = BeginsProgram (front ++ (t ∷ [])) → ⊥

-- The tokens from one on, up to another, begin a program and are none, and with this other one they begin none.
pub record BadToken (ts : List Token) (from token : ℕ) : Type 0 where
  pub front : List Token
  pub back : List Token
  pub cut : drop from ts ≡ front ++ back
  pub token_is : from + length front ≡ token
  pub before : BeginsProgram front
  pub no_program : (p : Program) → IsProgram front p [] → ⊥
  pub with_it : GoesNoFurther front back
  pub level : (r : ℕ) × (room_after front 64 ≡ Some r)

-- The tokens from one on, up to another, which opens a 65th bracket, begin a program with this other one.
pub record BadBracket (ts : List Token) (from token : ℕ) : Type 0 where
  pub front : List Token
  pub next : Token
  pub back : List Token
  pub cut : drop from ts ≡ front ++ (next ∷ back)
  pub token_is : from + length front ≡ token
  pub before : BeginsProgram (front ++ (next ∷ []))
  pub level : room_after front 64 ≡ Some 0
  pub opens : room_by next.kind 0 ≡ None

-- where and why tokens are refused
abbrev pub RefusedAt : List Token → ℕ → ParseError → Type 0
RefusedAt ts from error.Memory = Unit {0}
RefusedAt ts from (error.Syntax token) = BadToken ts from token
RefusedAt ts from (error.DepthLimit token) = BadBracket ts from token

-- memory or brackets ran out
abbrev pub IsLimit : ParseError → Type 0
IsLimit error.Memory = Unit {0}
IsLimit (error.DepthLimit token) = Unit {0}
IsLimit (error.Syntax token) = ⊥

-- where brackets ran out, the tokens up to and with the refused one open more than 64 at once
abbrev pub TooDeep : List Token → ℕ → ParseError → Type 0
TooDeep ts from (error.DepthLimit token) = KeepsDepth (between ts from (token + 1)) → ⊥
TooDeep ts from error.Memory = Unit {0}
TooDeep ts from (error.Syntax token) = Unit {0}

-- the tokens before one that is refused are no program
abbrev pub NoneYet : List Token → Refusal → Type 0
NoneYet ts (refusal.Syntax left) = (p : Program) → IsProgram (take (length ts - left) ts) p [] → ⊥
NoneYet ts refusal.Memory = Unit {0}
NoneYet ts (refusal.Deep left) = Unit {0}
