use Rattle.std.proofs.Common.{◌≡◌, ◌-◌, length}
use Rattle.fab_core.specs.Posts.{left_in}
use Rattle.fab_core.proofs.posting.next_post.Given as goal

abbrev pub invariant-posts : goal.invariant-posts
invariant-posts l = left_in l.posts l.from l.sender ≡ left_in l.posts l.at l.sender

abbrev pub decreases-posts : goal.decreases-posts
decreases-posts l = length l.posts - l.at
