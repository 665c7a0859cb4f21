-- What a call found at the front of a text.
use Rattle.fab_base.specs.Tokens.{Front, stands, unfit}
use Rattle.fab_lexer.specs.declared.front.Front.{Front as FoundFront}
use Rattle.fab_lexer.specs.declared.front.Front.TheVariants as f

abbrev pub shown : FoundFront → Front
shown (f.Stands x) = stands x
shown (f.Unfit n) = unfit n
