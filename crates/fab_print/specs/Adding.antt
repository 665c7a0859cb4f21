-- What is added to a text.
use Rattle.std.specs.Prelude.{◌≡◌, ℕ, List, ◌++◌}
use Rattle.fab_base.specs.declared.token.Mark.{Mark}
use Rattle.fab_tree.specs.declared.expression.Operand.{Operand, fold-Operand}
use Rattle.fab_base.specs.declared.token.Mark.TheVariants as m
use Rattle.fab_tree.specs.declared.name.Name.{Name}
use Rattle.fab_tree.specs.declared.expression.Expression.{Expression}
use Rattle.fab_tree.specs.declared.event.Event.{Event}
use Rattle.fab_tree.specs.Print.{Ink, Inks, ◌>>◌, text_of, line, line_end, space, mark, name, event, indent, head, block, Shown, ShownOperand, shown_form}

-- Behind the old bytes stands what these inks are spelled as: whatever follows the new bytes, with these inks in front of it, follows the old ones.
pub record Adds (x : Inks) (old new : List ℕ) : Type 0 where
  pub grows : (more : List Ink) → new ++ text_of more ≡ old ++ text_of (x more)

-- these inks are spelled so
pub record IsSpelled (x : Inks) (bytes : List ℕ) : Type 0 where
  pub is : (more : List Ink) → text_of (x more) ≡ bytes ++ text_of more

-- what is shown of an operand
abbrev pub beside : Operand → ShownOperand
beside =
    fold-Operand Shown Shown ShownOperand shown_form (λ e. e.form)
    (λ u. record { operator = u.operator; operand = u.operand })

-- the line of an event in a schedule
abbrev pub event_line : Event → Inks
event_line x = line 2 (event x >> mark m.Semicolon)

-- between two spaces
abbrev pub spaced : Inks → Inks
spaced x = space >> x >> space

-- a field of a local
abbrev pub field_of : Name → Name → Inks
field_of x y = name x >> mark m.Dot >> name y

-- a block behind a keyword and a condition
abbrev pub guarded : ℕ → Mark → Expression → List (ℕ → Inks) → Inks
guarded n x e us = indent n >> head x e >> block n us

-- an atomic block
abbrev pub atomic : ℕ → Name → List (ℕ → Inks) → Inks
atomic n x us = indent n >> mark m.Atomic >> space >> name x >> space >> block n us

-- at the end of its line
abbrev pub ended : Inks → Inks
ended x = x >> line_end
