-- What a call that numbers gave, beside the definition.
use Rattle.std.specs.Prelude.{◌≡◌, ◌<◌, ℕ, Result, Ok, Err}
use Rattle.fab_numbers.specs.declared.sites.Refusal.{Refusal}
use Rattle.fab_numbers.specs.declared.sites.Refusal.TheVariants.{Memory, Sites}

-- A call gave what is numbered and left the number of the next site, or that number doesn't fit 16 bits in the end.
-- Want of memory may come at any point.
abbrev pub Gives : {A : Type 0} → Result A Refusal → ℕ → A × ℕ → Type 0
Gives (Ok a) next run = run ≡ (a, next)
Gives (Err Memory) next run = Unit {0}
Gives (Err Sites) next run = 65535 < run.1
