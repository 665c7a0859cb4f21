-- Reads in the order of names: where a search finds one, and what one more leaves; and the names of writes.
use Rattle.std.proofs.Common.{◌≡◌, ℕ, ◌+◌, ◌<◌, ◌≤◌, ◌||◌, Bool, true, false, cond, if◌then◌else◌, IsTrue}
use Rattle.std.proofs.Common.{List, [], ◌∷◌, length, take, get_or, set, fold, Result, Ok, Err, IfOk, IfErr, refl, ap, ◌∙◌}
use Rattle.std.specs.List.{filter, insert, list_any}
use Rattle.std.proofs.lemmas.List.Elements.{filter_more}
use Rattle.std.proofs.lemmas.List.Sums.{fold-append}
use Rattle.std.specs.List.Sorted.{IsSearchInRange, IsBinarySearchResult}
use Rattle.fab_base.specs.declared.object.Oid.{Oid}
use Rattle.fab_base.specs.FlatMap.{is_among, is_same}
use Rattle.fab_base.proofs.NameOrder.{derived_cmp}
use Rattle.fab_protocol.specs.Tables.{ascends, placed, placed_all}
use Rattle.fab_protocol.specs.Versions.{Rows, names_of}
use Rattle.fab_protocol.proofs.TableLaws.{ascends_placed}
use Rattle.fab_versions.proofs.Found.{searched_by_derived, placed_at, placed_in_gap}

abbrev pub Read : Type 0
Read = Oid × ℕ

abbrev pub read_name : Read → Oid
read_name r = r.0

-- what a search answers
pub record IsPlaced (reads : List Read) (read : Read) (r : Result ℕ ℕ) : Type 0 where
  pub within : IfOk r (λ at. at < length reads)
  pub found : IfOk r (λ at. placed read_name read reads ≡ set reads at read)
  pub range : IfErr r (λ at. at ≤ length reads)
  pub absent : IfErr r (λ at. placed read_name read reads ≡ insert reads at read)

pub read_placed : (reads : List Read) → ascends read_name reads ≡ true → (read : Read) (r : Result ℕ ℕ) → IsSearchInRange r (length reads)
    → IsBinarySearchResult (λ other. derived_cmp (read_name other) (read_name read)) reads r → IsPlaced reads read r
read_placed reads h read (Ok at) bound by =
    let g = searched_by_derived read_name reads h (read_name read) (Ok at) bound by in
    record { within = bound; found = placed_at read_name reads h (read_name read) at g.found read refl; range = tt; absent = tt }
read_placed reads h read (Err at) bound by =
    let g = searched_by_derived read_name reads h (read_name read) (Err at) bound by in
    record { within = tt; found = tt; range = bound; absent = placed_in_gap read_name reads (read_name read) at g.absent read refl }

pub read_ascends : (reads : List Read) (read : Read) → IsTrue (ascends read_name reads) → IsTrue (ascends read_name (placed read_name read reads))
read_ascends reads read h = ascends_placed read_name read reads h

pub among_writes : (o : Oid) (rows : Rows) → is_among o (names_of rows) ≡ list_any (λ w. is_same w.0 o) rows
among_writes o [] = refl
among_writes o (w ∷ ws) = ap (λ b. is_same w.0 o || b) (among_writes o ws)

-- one more of those that pass a test
pub one_more : (test : Read → Bool) (xs : List Read) (i : ℕ) (d : Read) → i < length xs
    → placed_all read_name (filter test (take (i + 1) xs)) []
    ≡ (if test (get_or xs i d) then placed read_name (get_or xs i d) (placed_all read_name (filter test (take i xs)) []) else placed_all read_name (filter test (take i xs)) [])
one_more test xs i d h =
    ap (λ rs. placed_all read_name rs []) (filter_more test xs i d h)
    ∙ fold-append (λ rows r. placed read_name r rows) [] (filter test (take i xs)) (cond (test (get_or xs i d)) (get_or xs i d ∷ []) [])
    ∙ by_test (test (get_or xs i d))
  where
    by_test : (b : Bool) → fold (λ rows r. placed read_name r rows) (placed_all read_name (filter test (take i xs)) []) (cond b (get_or xs i d ∷ []) [])
        ≡ (if b then placed read_name (get_or xs i d) (placed_all read_name (filter test (take i xs)) []) else placed_all read_name (filter test (take i xs)) [])
    by_test true = refl
    by_test false = refl
