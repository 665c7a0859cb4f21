-- How long runs can be: a number of the setting and of how often attempts begin and nodes come back; and where crash lines are
-- kept, a number of the setting and the lines alone.
use Rattle.std.specs.Prelude.{◌≡◌, ℕ, ◌+◌, ◌*◌, ◌<◌, ◌≤◌, IsTrue, List, length}
use Rattle.std.specs.List.{range_with_len, sum_by}
use Rattle.fab_base.specs.declared.object.Oid.{Oid}
use Rattle.fab_base.specs.declared.object.Object.{Object}
use Rattle.fab_base.specs.declared.object.Tid.{Tid}
use Rattle.fab_base.specs.FlatMap.{FlatMap, put}
use Rattle.fab_language.specs.declared.ending.Ending.TheVariants.{Missing}
use Rattle.fab_language.specs.Heaps.{touched}
use Rattle.fab_rights.specs.Computed.{nodes_in}
use Rattle.fab_world.specs.Machine.{Setting, Move, at_start, are_enabled}
use Rattle.fab_world.specs.Serial.{attempts}
use Rattle.fab_world.specs.Crashing.{CrashLine, KeepsLines}

-- ---- a law that the real meaning owes

-- an evaluation that lacks an object touches more once the object is there, if it then lacks another one
abbrev pub TouchesWhatWasMissing : Setting → Type 0
TouchesWhatWasMissing S =
    (w r : ℕ) (t : Tid) (N : FlatMap) (site other : ℕ) (o p : Oid) (x : Object)
    → (S.means w r t N).ending ≡ Missing site o → (S.means w r t (put o x N)).ending ≡ Missing other p
    → length (touched (S.means w r t N).touches) < length (touched (S.means w r t (put o x N)).touches)

-- ---- how many moves there can be

-- Each of these is of one node toward one other, where attempts begin and nodes come back so often at most: each of
-- these is a start.

-- An object that an attempt lacks: the attempt is resumed, the other hears the Fetch, and answers. It lacks at most 1,025,
-- since no more than 1,024 are touched.
abbrev pub of_objects : ℕ
of_objects = 3 * 1025

-- A Prepare: it is heard, and so is the vote; and at each start of the other this asks what became of it, and is told. No
-- other message brings more.
abbrev pub of_prepare : ℕ → ℕ
of_prepare starts = 2 + 2 * starts

-- what is decided: it is heard, and again at each start of the worker
abbrev pub of_decision : ℕ → ℕ
of_decision starts = 1 + starts

-- A start: an attempt begins, is resumed once more than it lacks objects, and the other may be silent. A node that comes
-- back has less to do by itself.
abbrev pub of_start : ℕ → ℕ
of_start starts = 3 + of_objects + of_prepare starts + of_decision starts

-- without a start: a node crashes, and fails for good; and what it has to post comes, and may be a Prepare
abbrev pub of_node : Setting → ℕ → ℕ → ℕ
of_node S starts n = 2 + (1 + of_prepare starts) * length (S.posts n)

-- all that, of each node toward each, with so many starts
abbrev pub most_moves : Setting → ℕ → ℕ
most_moves S starts = length (nodes_in S.rights) * (sum_by (of_node S starts) (nodes_in S.rights) + starts * of_start starts)

-- ---- where crash lines are kept

-- Eight attempts for each request of a node; and eight more for each of its crash lines, and one recovery. Nodes have
-- numbers below 64.
abbrev pub most_starts : Setting → (ℕ → List CrashLine) → ℕ
most_starts S lines = sum_by (λ n. 8 * S.requests n + 9 * length (lines n)) (range_with_len 0 64)

abbrev pub most : Setting → (ℕ → List CrashLine) → ℕ
most S lines = most_moves S (most_starts S lines)

-- ---- the statements

abbrev pub EndsByStarts : Setting → Type 0
EndsByStarts S = (moves : List Move) → IsTrue (are_enabled S (at_start S) moves) → length moves ≤ most_moves S (attempts moves)

abbrev pub EndsByLines : Setting → Type 0
EndsByLines S =
    (lines : ℕ → List CrashLine) (moves : List Move) → KeepsLines S lines moves → length moves ≤ most S lines
