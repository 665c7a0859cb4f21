-- To whom nodes post, by the places behind which each one's posts are left.
use Rattle.std.specs.Prelude.{ℕ, ◌==◌, cond, List, [], ◌∷◌, map, drop}
use Rattle.std.specs.List.{filter}
use Rattle.std.specs.Option.{unwrap_or}
use Rattle.std.specs.Ordering.{nat_cmp}
use Rattle.std.specs.BTreeMap.{BTreeMap, get}
use Rattle.fab_tree.specs.declared.resolved.Post.{Post}
use Rattle.fab_net.specs.declared.event.Event.{Event}
use Rattle.fab_net.specs.declared.event.Event.TheVariants as e
use Rattle.fab_trace.specs.Report.{is_post_of}

abbrev pub targets_in : ℕ → List Post → List ℕ
targets_in h posts = map (λ p. p.receiver) (filter (λ p. p.sender == h) posts)

-- of node h, those of the posts behind its place
abbrev pub left_at : List Post → BTreeMap ℕ ℕ → ℕ → List ℕ
left_at posts places h = targets_in h (drop (unwrap_or (get nat_cmp places h) 0) posts)

abbrev pub first_of : List ℕ → ℕ
first_of [] = 0
first_of (x ∷ xs) = x

abbrev pub others_of : List ℕ → List ℕ
others_of [] = []
others_of (x ∷ xs) = xs

-- what is left of node h behind an event
abbrev pub left_behind : Event → List ℕ → ℕ → List ℕ
left_behind event left h = cond (is_post_of h event) (others_of left) left

abbrev pub target_left : (ℕ → List ℕ) → Event → ℕ
target_left left (e.Post h) = first_of (left h)
target_left left _ = 0
