-- Which texts have no tokens, and where.
use Rattle.std.specs.Prelude.{◌≡◌, ℕ, ◌+◌, ◌<◌, ◌≤◌, List, length, drop}
use Rattle.fab_base.specs.declared.token.Token.{Token}
use Rattle.fab_base.specs.declared.token.Piece.{Piece}
use Rattle.fab_base.specs.declared.token.Piece.TheVariants as p
use Rattle.fab_base.specs.Tokens.{Lexes, front_at, stands, unfit}
use Rattle.fab_lexer.specs.declared.error.LexError.{LexError}
use Rattle.fab_lexer.specs.declared.error.LexError.TheVariants as error

-- how many bytes a piece takes
abbrev pub len_of : Piece → ℕ
len_of (p.Blank len) = len
len_of (p.Spelled kind len) = len

-- From a place, at which the bytes begin, one comes to another by pieces, each the longest at its place.
pub data Cut : ℕ → List ℕ → ℕ → Type 0 where
  here : {at : ℕ} {bytes : List ℕ} → Cut at bytes at
  further : {at there : ℕ} {bytes : List ℕ} {x : Piece}
      → front_at bytes ≡ stands x → Cut (at + len_of x) (drop (len_of x) bytes) there → Cut at bytes there

-- The bytes before a place inside the text are cut into pieces, and from there on they begin with none: so many fit, and the first that
-- doesn't, or the end of the text, is at this place. So the text has no tokens.
pub record IsUncut (text : List ℕ) (at : ℕ) : Type 0 where
  pub place : ℕ
  pub fitting : ℕ
  pub inside : place < length text
  pub before : Cut 0 text place
  pub nothing : front_at (drop place text) ≡ unfit fitting
  pub there : at ≡ place + fitting
  pub within : at ≤ length text
  pub no_tokens : (ts : List Token) → Lexes 0 text ts → ⊥

abbrev pub CutError : List ℕ → LexError → Type 0
CutError text error.Memory = Unit {0}
CutError text (error.Bad at) = IsUncut text at
