-- Names and values as they are printed.
use Rattle.std.specs.Prelude.{ℕ, ◌/◌, ◌%◌, ◌==◌, Bool, false, option_map, slice_get, List, [], ◌∷◌, ◌++◌, codes, Option, Some, None, find, flat_map}
use Rattle.std.specs.Fmt.{signed_decimal, digit_glyph}
use Rattle.fab_base.specs.declared.object.Oid.{Oid}
use Rattle.fab_base.specs.declared.object.Value.{Value}
use Rattle.fab_base.specs.declared.object.Value.TheVariants.{Int, Null, Ref}
use Rattle.fab_base.specs.declared.object.Stop.{Stop}
use Rattle.fab_base.specs.declared.object.Stop.TheVariants.{Fuel, Depth, Reads, Writes}
use Rattle.fab_base.specs.FieldSpelling.{oid_bytes}
use Rattle.fab_base.specs.FlatMap.{is_same}
use Rattle.fab_tree.specs.declared.resolved.Resolved.{Resolved}

-- a line of a text
abbrev pub line : List ℕ → List ℕ
line letters = letters ++ 10 ∷ []

-- words with a space before each
abbrev pub spaced : List (List ℕ) → List ℕ
spaced = flat_map (λ w. 32 ∷ w)

-- two digits of 0 to 9 and a to f for each byte
abbrev pub hex : List ℕ → List ℕ
hex = flat_map (λ b. digit_glyph false (b / 16) ∷ digit_glyph false (b % 16) ∷ [])

abbrev pub text_or : List ℕ → Option (List ℕ) → List ℕ
text_or other None = other
text_or other (Some text) = text

abbrev pub has_number : ℕ → Option ℕ → Bool
has_number n None = false
has_number n (Some k) = n == k

-- the name of the worker or store of a number
abbrev pub node_text : Resolved → ℕ → List ℕ
node_text r n = text_or [] (option_map (λ x. x.name.text) (find (λ x. has_number n x.node) r.nodes))

abbrev pub class_text : Resolved → ℕ → List ℕ
class_text r n = text_or [] (option_map (λ c. c.name.text) (slice_get r.classes n))

-- an object's name: that of its root, else # and the 36 digits of its 18 bytes
abbrev pub name_text : Resolved → Oid → List ℕ
name_text r o = text_or (35 ∷ hex (oid_bytes o)) (option_map (λ x. x.name.text) (find (λ x. is_same x.oid o) r.roots))

abbrev pub value_text : Resolved → Value → List ℕ
value_text r (Int n) = signed_decimal n
value_text r Null = codes "null"
value_text r (Ref o) = name_text r o

-- what a method returned
abbrev pub result_text : Resolved → Option Value → List ℕ
result_text r None = codes "none"
result_text r (Some v) = value_text r v

abbrev pub stop_text : Stop → List ℕ
stop_text Fuel = codes "fuel"
stop_text Depth = codes "depth"
stop_text Reads = codes "reads"
stop_text Writes = codes "writes"
