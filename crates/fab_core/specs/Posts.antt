-- What a node has to post, in the order of the text.
use Rattle.std.specs.Prelude.{◌≡◌, ◌==◌, ◌<◌, ℕ, List, [], ◌∷◌, map, drop, length}
use Rattle.std.specs.List.{filter}
use Rattle.fab_tree.specs.declared.resolved.Post.{Post}

-- behind a place of the text
abbrev pub left_in : List Post → ℕ → ℕ → List (ℕ × List ℕ)
left_in posts place h = map (λ p. (p.receiver, p.bytes)) (filter (λ p. p.sender == h) (drop place posts))

-- the next of them, and the place behind it
pub record IsNext (posts : List Post) (place h : ℕ) (to : ℕ) (bytes : List ℕ) (behind : ℕ) : Type 0 where
  pub left : left_in posts place h ≡ (to, bytes) ∷ left_in posts behind h
