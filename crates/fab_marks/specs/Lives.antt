-- When nodes are up and when they are down.
use Rattle.std.specs.Prelude.{ℕ, suc, ◌==◌, not, Bool, true, false, List, [], ◌∷◌, is_some, if◌then◌else◌}
use Rattle.fab_marks.specs.declared.shape.Sign.{Sign}
use Rattle.fab_marks.specs.declared.shape.Sign.TheVariants as s
use Rattle.fab_marks.specs.declared.shape.Shape.{Shape}
use Rattle.fab_marks.specs.declared.shape.Shape.TheVariants.{Life}
use Rattle.fab_marks.specs.declared.moves.Move.{Move}

-- whether a node is up behind what happens at it
abbrev pub up_at : Sign → Bool → Bool
up_at s.Crash up = false
up_at s.Recover up = true
up_at _ up = up

-- an event that is cut is a crash
abbrev pub up_behind : ℕ → Bool → Move → Bool
up_behind n up x = if x.node == n then (if is_some x.cut then false else up_at x.sign up) else up

-- behind several events
abbrev pub is_up : ℕ → Bool → List Move → Bool
is_up n up [] = up
is_up n up (x ∷ xs) = is_up n (up_behind n up x) xs

abbrev pub same : Bool → Bool → Bool
same true b = b
same false b = not b

-- The parts of a node's line: from row `start` on it is up or not, and from `row` on stand these events.
abbrev pub lives : ℕ → Bool → ℕ → ℕ → List Move → List Shape
lives n up start row [] = Life n start row up ∷ []
lives n up start row (x ∷ xs) =
    if same (up_behind n up x) up then lives n up start (suc row) xs
    else Life n start row up ∷ lives n (not up) row (suc row) xs
