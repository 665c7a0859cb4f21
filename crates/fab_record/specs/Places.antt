-- What is told of an event, and entries behind others.
use Rattle.std.specs.Prelude.{ℕ, Bool, not, ◌&&◌, if◌then◌else◌, List, [], ◌∷◌, ◌++◌, map}
use Rattle.fab_base.specs.declared.object.Oid.{Oid}
use Rattle.fab_base.specs.declared.object.Value.{Value}
use Rattle.fab_base.specs.FlatMap.{is_among}
use Rattle.fab_net.specs.declared.note.Note.{Note}
use Rattle.fab_release.specs.declared.release.Release.{Release}
use Rattle.fab_release.specs.declared.release.Released.{Released}
use Rattle.fab_release.specs.declared.release.Release.TheVariants.{Ask}
use Rattle.fab_release.specs.Record.{downs_to, gots_to}
use Rattle.fab_release.specs.Sights.{Sight}
use Rattle.fab_record.specs.declared.entries.Place.{Place}
use Rattle.fab_record.specs.Kept as kept
use Rattle.fab_record.specs.Views.{sight_in}

abbrev pub sight_at : Place → Sight
sight_at p = sight_in p.sights.now

-- the objects that the node's attempt has touched in view before the event
abbrev pub touched_at : Place → List Oid
touched_at p = kept.touched_at p.past.now p.node

-- what a note releases there
abbrev pub of_note : Place → Note → List Release
of_note p x = kept.kept_note (sight_at p) p.past.now p.node x

-- more entries behind others
unfoldable pub told : Bool → List Released → List Release → List Released
told quiet out xs = out ++ map (λ x. record { quiet = quiet; release = x }) xs

-- an entry, if it is one
abbrev pub entry_if : Bool → Release → List Release
entry_if b x = if b then x ∷ [] else []

-- touched at a store outside the set and not before, neither in the event nor earlier in the attempt
abbrev pub is_new : Place → List Oid → Oid → Bool
is_new p fresh o = not ((sight_at p).has o.store) && not (is_among o (fresh ++ touched_at p))

-- what an evaluation releases that lacks this object
abbrev pub lacking : Sight → ℕ → List Oid → List (ℕ × Oid × ℕ) → List (ℕ × Value) → Oid → List Release
lacking sight n os touches downs o = downs_to sight n downs ++ gots_to sight n os touches ++ entry_if (sight.has o.store) (Ask n)
