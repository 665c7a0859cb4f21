-- A text that is a bundle with a report behind it.
use Rattle.std.specs.Prelude.{ℕ, suc, ◌||◌, ◌&&◌, ◌==◌, Bool, true, List, [], ◌∷◌, ◌++◌, codes, nat_eq, take, drop, if◌then◌else◌}
use Rattle.std.specs.List.{starts_with}
use Rattle.std.specs.Str.{bytes_eq}
use Rattle.fab_language.specs.Words.{line}

-- the first line is exactly `fab report 1`
abbrev pub begins_report : List ℕ → Bool
begins_report bytes = starts_with nat_eq bytes (line (codes "fab report 1")) || bytes_eq bytes (codes "fab report 1")

-- how many bytes stand in front of the first such line; all where there is none. Whether they begin a line is told.
abbrev pub bundle_length : Bool → List ℕ → ℕ
bundle_length fresh [] = 0
bundle_length fresh (b ∷ bytes) = if fresh && begins_report (b ∷ bytes) then 0 else suc (bundle_length (b == 10) bytes)

abbrev pub bundle_part : List ℕ → List ℕ
bundle_part text = take (bundle_length true text) text

abbrev pub report_part : List ℕ → List ℕ
report_part text = drop (bundle_length true text) text
