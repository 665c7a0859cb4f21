-- Text that stands in markup: what could be taken for markup is written by its name, and what is no printable ASCII as `?`.
use Rattle.std.specs.Prelude.{ℕ, ◌==◌, ◌&&◌, not, nat_le, Bool, List, [], ◌∷◌, codes, flat_map, if◌then◌else◌}

abbrev pub escaped_byte : ℕ → List ℕ
escaped_byte b =
    if b == 38 then codes "&amp;" else (if b == 60 then codes "&lt;" else (if b == 62 then codes "&gt;"
    else (if b == 34 then codes "&quot;" else (if b == 39 then codes "&#39;" else (if nat_le 32 b && nat_le b 126 then b ∷ [] else codes "?")))))

abbrev pub escaped : List ℕ → List ℕ
escaped = flat_map escaped_byte

-- printable ASCII that begins and ends no tag and no value of an attribute
abbrev pub is_plain : ℕ → Bool
is_plain b = nat_le 32 b && nat_le b 126 && not (b == 60) && not (b == 62) && not (b == 34) && not (b == 39)
