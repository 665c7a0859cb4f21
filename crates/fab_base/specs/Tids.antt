-- The order of one worker's transactions.
use Rattle.std.specs.Prelude.{Bool, ◌||◌, ◌&&◌, ◌==◌, nat_lt}
use Rattle.fab_base.specs.declared.object.Tid.{Tid}

-- it comes after that one: in a later boot, or with a greater number in the same; the worker isn't compared
abbrev pub is_above : Tid → Tid → Bool
is_above t last = nat_lt last.boot t.boot || ((t.boot == last.boot) && nat_lt last.number t.number)
