-- The objects that an attempt makes, by their names.
use Rattle.std.specs.Prelude.{◌≡◌, ◌<◌, Bool, true, ◌&&◌, ◌==◌, List, [], ◌∷◌}
use Rattle.fab_base.specs.declared.object.Oid.{Oid}
use Rattle.fab_base.specs.declared.object.Tid.{Tid}
use Rattle.fab_language.specs.Heaps.{Heap, is_among, index_at}

-- an object of this name is made in this attempt
abbrev pub is_made_in : Tid → Oid → Bool
is_made_in t o = (o.worker == t.worker) && ((o.boot == t.boot) && (o.number == t.number))

-- Each object that was made in a heap has an index below the number of those of its site. So none was made of the next name
-- of a site.
abbrev pub IsCounted : Heap → Type 0
IsCounted h = (o : Oid) → is_among o h.made ≡ true → o.index < index_at o.site h

-- so it is in each of these heaps
abbrev pub AreCounted : List Heap → Type 0
AreCounted [] = Unit {0}
AreCounted (h ∷ heaps) = IsCounted h × AreCounted heaps
