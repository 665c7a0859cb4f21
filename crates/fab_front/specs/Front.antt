-- What a text comes to before a command does anything with it: a bundle, or a refusal.
use Rattle.std.specs.Prelude.{◌≡◌, ℕ, ◌≤◌, ◌<◌, List, [], ◌∷◌, length, drop, Some, None}
use Rattle.fab_base.specs.declared.limit.What.{What}
use Rattle.fab_base.specs.declared.limit.What.TheVariants.{Bytes, Depth}
use Rattle.fab_base.specs.declared.token.Token.{Token}
use Rattle.fab_base.specs.Tokens.{Lexes}
use Rattle.fab_tree.specs.declared.start.Start.{Start}
use Rattle.fab_tree.specs.Syntax.{IsText}
use Rattle.fab_tree.specs.Depth.{KeepsDepth}
use Rattle.fab_tree.specs.Limits.{limit_of, first_passed}
use Rattle.fab_lexer.specs.Cuts.{IsUncut}
use Rattle.fab_bundle.specs.Texts.{BadToken, BadBracket}
use Rattle.fab_front.specs.declared.texts.Outcome.{Outcome}
use Rattle.fab_front.specs.declared.texts.Outcome.TheVariants.{Syntax, Limit, Bundle}

-- the place of the token with so many before it, the text's end where there is none
abbrev pub place_among : List Token → ℕ → ℕ
place_among [] end = end
place_among (t ∷ ts) end = t.at

-- a text of more bytes than one may have
abbrev pub IsTooLong : List ℕ → Type 0
IsTooLong text = limit_of Bytes < length text

-- Front text outcome: a text is refused for its length; then at the first place from which its bytes can't be cut into
-- tokens, whatever stands before it, else by what comes first of a token with which it begins no text of the language and
-- a bracket too deep; and then for the first limit that its bundle passes. Else it comes to its bundle.
pub data Front (text : List ℕ) : Outcome → Type 0 where
  too_long : IsTooLong text → Front text (Limit Bytes)
  uncut : {at : ℕ} → length text ≤ limit_of Bytes → IsUncut text at → Front text (Syntax at)
  no_text : {ts : List Token} {token : ℕ}
      → length text ≤ limit_of Bytes → Lexes 0 text ts → BadToken ts token
      → Front text (Syntax (place_among (drop token ts) (length text)))
  too_deep : {ts : List Token} {token : ℕ}
      → length text ≤ limit_of Bytes → Lexes 0 text ts → BadBracket ts token → Front text (Limit Depth)
  too_many : {ts : List Token} {s : Start} {what : What}
      → length text ≤ limit_of Bytes → Lexes 0 text ts → KeepsDepth ts → IsText ts s → first_passed s ≡ Some what
      → Front text (Limit what)
  whole : {ts : List Token} {s : Start}
      → length text ≤ limit_of Bytes → Lexes 0 text ts → KeepsDepth ts → IsText ts s → first_passed s ≡ None
      → Front text (Bundle s)

-- the text comes to this, and to nothing else
pub record IsFront (text : List ℕ) (x : Outcome) : Type 0 where
  pub is : Front text x
  pub only : (y : Outcome) → Front text y → y ≡ x
