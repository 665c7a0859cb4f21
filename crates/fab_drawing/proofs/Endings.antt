-- What a reply that was written whole says, by its ending.
use Rattle.std.proofs.Common.{◌≡◌, ℕ, List, Option}
use Rattle.std.specs.Io.KnownBytes.{Appends}
use Rattle.fab_base.specs.declared.limit.What.{What}
use Rattle.fab_language.specs.declared.rule.NameRule.{NameRule}
use Rattle.fab_tree.specs.declared.start.Start.{Start}
use Rattle.fab_tree.specs.declared.resolved.Resolved.{Resolved}
use Rattle.fab_front.specs.declared.status.Status.TheVariants as status
use Rattle.fab_drawing.specs.declared.asked.Asked.{Asked}
use Rattle.fab_drawing.specs.declared.ending.Ending.{Ending}
use Rattle.fab_drawing.specs.declared.ending.Ending.TheVariants.{Plain, Trace}
use Rattle.fab_drawing.specs.Drawing.{Draws, Says, Traces, untraced, unfit, drawn, misnamed, unknown, traced, too_long, syntax, limit, of_bundle}
use Rattle.fab_drawing.specs.Endings.{Ends, Replies, Whole, usage, reply}

-- no reply has the ending of a fault or of want of memory
pub data IsOfReply : Ending → Type 0 where
  IsOk : IsOfReply (Plain status.Ok)
  IsUsage : IsOfReply (Plain status.Usage)
  IsSyntax : {at : ℕ} → IsOfReply (Plain (status.Syntax at))
  IsLimit : {what : What} → IsOfReply (Plain (status.Limit what))
  IsName : {rule : NameRule} {at : ℕ} → IsOfReply (Plain (status.Name rule at))
  IsTrace : {at : ℕ} → IsOfReply (Trace at)

of_traces : {r : Resolved} {asked : Asked} {bundle report l : List ℕ} {e : Ending} → Traces r asked bundle report e l → IsOfReply e
of_traces (untraced g) = IsTrace
of_traces (unfit g h) = IsTrace
of_traces (drawn g h) = IsOk

of_draws : {s : Start} {asked : Asked} {bundle report l : List ℕ} {e : Ending} → Draws s asked bundle report e l → IsOfReply e
of_draws (misnamed g) = IsName
of_draws (unknown g h) = IsName
of_draws (traced g h k) = of_traces k

of_says : {asked : Asked} {text l : List ℕ} {e : Ending} → Says asked text e l → IsOfReply e
of_says (too_long g) = IsLimit
of_says (syntax g h) = IsSyntax
of_says (limit g h) = IsLimit
of_says (of_bundle g h k) = of_draws k

pub of_replies : {asked : Option Asked} {left left' : Option (List ℕ)} {l : List ℕ} {e : Ending} → Replies asked left left' e l → IsOfReply e
of_replies usage = IsUsage
of_replies (reply g h) = of_says h

-- a reply that was written whole says what its ending says
pub ends_so : (asked : Option Asked) (e : Ending) (left left' w w' : Option (List ℕ)) → IsOfReply e → Whole asked e left left' w w' → Ends asked e left left' w w'
ends_so asked e left left' w w' IsOk h = h
ends_so asked e left left' w w' IsUsage h = h
ends_so asked e left left' w w' IsSyntax h = h
ends_so asked e left left' w w' IsLimit h = h
ends_so asked e left left' w w' IsName h = h
ends_so asked e left left' w w' IsTrace h = h

pub no_read_fault : {e : Ending} {A : Type 0} → IsOfReply e → e ≡ Plain status.ReadFault → A
no_read_fault IsOk e = absurd (cc)
no_read_fault IsUsage e = absurd (cc)
no_read_fault IsSyntax e = absurd (cc)
no_read_fault IsLimit e = absurd (cc)
no_read_fault IsName e = absurd (cc)
no_read_fault IsTrace e = absurd (cc)

pub no_write_fault : {e : Ending} {A : Type 0} → IsOfReply e → e ≡ Plain status.WriteFault → A
no_write_fault IsOk e = absurd (cc)
no_write_fault IsUsage e = absurd (cc)
no_write_fault IsSyntax e = absurd (cc)
no_write_fault IsLimit e = absurd (cc)
no_write_fault IsName e = absurd (cc)
no_write_fault IsTrace e = absurd (cc)
