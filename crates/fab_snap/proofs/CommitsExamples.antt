-- Commits by example: two payments between accounts, and an account that is made between them.
use Rattle.std.proofs.Common.{◌≡◌, ℕ, List, [], ◌∷◌, length, take, pos, Some, None, refl, ap, arith}
use Rattle.fab_protocol.specs.Versions.{Rows, version_of}
use Rattle.fab_protocol.proofs.Toy.{account, holding}
use Rattle.fab_snap.specs.declared.write_set.WriteSet.{WriteSet}
use Rattle.fab_snap.specs.Commits.{StartsWith, object_at, rows_after}

-- 100 and 0
abbrev start : Rows
start = (account 0, 1, holding (pos 100)) ∷ (account 1, 1, holding (pos 0)) ∷ []

-- 5 go from the first to the second, a third account is made, and 20 go from the first to the third
abbrev payment : WriteSet
payment = record { leaves = (account 0, 2, holding (pos 95)) ∷ (account 1, 2, holding (pos 5)) ∷ [] }

abbrev opening : WriteSet
opening = record { leaves = (account 2, 1, holding (pos 0)) ∷ [] }

abbrev second : WriteSet
second = record { leaves = (account 2, 2, holding (pos 20)) ∷ (account 0, 3, holding (pos 75)) ∷ [] }

abbrev commits : List WriteSet
commits = payment ∷ opening ∷ second ∷ []

nothing_yet : rows_after start (take 0 commits) ≡ start
nothing_yet = refl

-- what a commit leaves comes all at once
one_commit : rows_after start (take 1 commits) ≡ (account 0, 2, holding (pos 95)) ∷ (account 1, 2, holding (pos 5)) ∷ []
one_commit = refl

-- a new name comes to its place, and rows stand in the order of names, in whatever order they are left
all_commits : rows_after start commits ≡ (account 0, 3, holding (pos 75)) ∷ (account 1, 2, holding (pos 5)) ∷ (account 2, 2, holding (pos 20)) ∷ []
all_commits = refl

-- an object is there from its commit on
not_yet : object_at (account 2) (rows_after start (take 1 commits)) ≡ None
not_yet = refl

opened : object_at (account 2) (rows_after start (take 2 commits)) ≡ Some (holding (pos 0))
opened = refl

last_write : object_at (account 0) (rows_after start commits) ≡ Some (holding (pos 75))
last_write = refl

-- no state has one half of a commit without the other
not_half : rows_after start (take 1 commits) ≡ (account 0, 2, holding (pos 95)) ∷ (account 1, 1, holding (pos 0)) ∷ [] → ⊥
not_half e = let same : 2 ≡ 1 = ap (λ (rows : Rows). version_of rows (account 1)) e in omega (arith, same)

begins : StartsWith commits (take 2 commits)
begins = (second ∷ [], refl)

-- fewer commits don't begin with more, nor with others
not_fewer : StartsWith (take 1 commits) (take 2 commits) → ⊥
not_fewer s = let other : payment ∷ [] ≡ payment ∷ opening ∷ s.0 = s.1 in cc

-- how many names the first of these leaves
abbrev first_leaves : List WriteSet → ℕ
first_leaves [] = 0
first_leaves (c ∷ cs) = length c.leaves

not_others : StartsWith commits (opening ∷ []) → ⊥
not_others s = let same : 2 ≡ 1 = ap first_leaves s.1 in omega (arith, same)
