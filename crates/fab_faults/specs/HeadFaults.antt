-- The faults of one rule in what a method holds.
use Rattle.std.specs.Prelude.{List}
use Rattle.std.specs.List.{flat_map}
use Rattle.fab_language.specs.declared.rule.Fault.{Fault}
use Rattle.fab_language.specs.Heads.{Locals, Head}

-- what a rule says of a head, over the locals known there
abbrev pub Says : Type 0
Says = Locals → Head → List Fault

abbrev pub among : Says → List (Locals × Head) → List Fault
among says heads = flat_map (λ h. says h.0 h.1) heads
