use Rattle.std.proofs.Common.{◌++◌, length}
use Rattle.fab_base.specs.declared.token.Mark.TheVariants as m
use Rattle.fab_tree.specs.Lists.{IsName, Repeated, Behind}
use Rattle.fab_tree.specs.Programs.{IsAuthority}
use Rattle.fab_reading.proofs.Rules.{Going}
use Rattle.fab_parser.specs.Pieces.{after_authority}
use Rattle.fab_parser.proofs.methods.authority.Given as goal

abbrev pub invariant-list : goal.invariant-list
invariant-list l = Going IsAuthority after_authority l.room l.tokens (Repeated (Behind m.Comma IsName)) (λ xs. l.found ++ xs) l.room l.rest

abbrev pub decreases-list : goal.decreases-list
decreases-list l = length l.rest
