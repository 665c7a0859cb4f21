use Rattle.fab_named.proofs.Posts.{posts_have_numbers, crashes_have_numbers, events_have_numbers}
use Rattle.fab_named.proofs.laws.events_and_posts_have_nodes.Goals as goal

pub returns : goal.returns
returns c = record { posts = posts_have_numbers; crashes = crashes_have_numbers; events = events_have_numbers }
