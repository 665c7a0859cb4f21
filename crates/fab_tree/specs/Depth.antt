-- How deep brackets are nested.
use Rattle.std.specs.Prelude.{ℕ, zero, suc, List, [], ◌∷◌, Option, Some, None, option_and_then, IsSome}
use Rattle.fab_base.specs.declared.token.Mark.TheVariants as m
use Rattle.fab_base.specs.declared.token.Kind.{Kind}
use Rattle.fab_base.specs.declared.token.Kind.TheVariants as k
use Rattle.fab_base.specs.declared.token.Token.{Token}

-- how many more brackets may be opened behind a token, where so many may be before it; none where it opens one too many
abbrev pub room_by : Kind → ℕ → Option ℕ
room_by (k.Fixed m.LeftParen) zero = None
room_by (k.Fixed m.LeftParen) (suc room) = Some room
room_by (k.Fixed m.LeftBrace) zero = None
room_by (k.Fixed m.LeftBrace) (suc room) = Some room
room_by (k.Fixed m.RightParen) room = Some (suc room)
room_by (k.Fixed m.RightBrace) room = Some (suc room)
room_by _ room = Some room

-- the same behind several tokens
abbrev pub room_after : List Token → ℕ → Option ℕ
room_after [] room = Some room
room_after (t ∷ ts) room = option_and_then (room_after ts) (room_by t.kind room)

-- no more than 64 brackets are open at once
abbrev pub KeepsDepth : List Token → Type 0
KeepsDepth ts = IsSome (room_after ts 64)
