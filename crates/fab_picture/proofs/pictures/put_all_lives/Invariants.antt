use Rattle.std.proofs.Common.{◌≡◌, ◌++◌, length}
use Rattle.fab_picture.specs.Picture.{all_lives}
use Rattle.fab_picture.proofs.pictures.put_all_lives.Given as goal

abbrev pub invariant-lives : goal.invariant-lives
invariant-lives l = l.out ++ all_lives l.past l.drawn l.rest ≡ l.fn.out ++ all_lives l.past l.drawn l.principals

abbrev pub decreases-lives : goal.decreases-lives
decreases-lives l = length l.rest
