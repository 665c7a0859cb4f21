-- The canonical text, read again.
use Rattle.std.specs.Prelude.{◌≡◌, ℕ, List}
use Rattle.fab_base.specs.declared.token.Token.{Token}
use Rattle.fab_base.specs.Tokens.{Lexes}
use Rattle.fab_tree.specs.declared.start.Start.{Start}
use Rattle.fab_tree.specs.Syntax.{IsText}
use Rattle.fab_tree.specs.Print.{canonical}
use Rattle.fab_tree.specs.Unplaced.{unplaced}

-- The canonical text of a bundle has tokens, which stand for a bundle that differs from it in places alone and has the same canonical text.
pub record IsReadAgain (s : Start) : Type 0 where
  pub tokens : List Token
  pub tree : Start
  pub lexes : Lexes 0 (canonical s) tokens
  pub reads : IsText tokens tree
  pub same : unplaced tree ≡ unplaced s
  pub stable : canonical tree ≡ canonical s

-- so it is for every bundle that some text stands for
abbrev pub PrintIsRead : Type 0
PrintIsRead = (text : List ℕ) (tokens : List Token) (s : Start) → Lexes 0 text tokens → IsText tokens s → IsReadAgain s
