-- What an honest store does: its record is one that its rules let it keep, and what it sends has no more of anything than a message may have.
use Rattle.std.proofs.Common.{ℕ, ◌≤◌, List, [], ◌∷◌, map, length}
use Rattle.std.specs.List.{AllByRecursion}
use Rattle.fab_base.specs.declared.message.Message.{Message}
use Rattle.fab_base.specs.declared.message.Message.TheVariants as m
use Rattle.fab_base.specs.MessageSpelling.{KeepsCounts}
use Rattle.fab_rights.specs.declared.rights.Rights.{Rights}
use Rattle.fab_protocol.specs.declared.said.Said.{Said}
use Rattle.fab_protocol.specs.Stores.{Prepared, Shelf, asks, says}
use Rattle.fab_protocol.specs.Versions.{Row, name_of}
use Rattle.fab_protocol.proofs.StoreActs.{answered}
use Rattle.fab_protocol.proofs.TableLaws.{row_of_all}

-- what is sent keeps its counts
pub record IsModest (said : Said) : Type 0 where
  pub sends : AllByRecursion (λ (y : ℕ × Message). KeepsCounts y.1) said.sends

module _ (rights : Rights) (s : ℕ) (shelf : Shelf) (few : AllByRecursion (λ (row : Row). length row.2.fields ≤ 16) shelf.rows) where
  pub modest_says : (n : ℕ) (message : Message) → IsModest (says rights s n message shelf)
  modest_says n message = answered rights s n shelf IsModest message (record {
    rests = λ h. record { sends = tt };
    lacks = λ t o h. record { sends = (tt, tt) };
    bars = λ t o h. record { sends = (tt, tt) };
    shows = λ t o row h there. record { sends = (row_of_all name_of (λ (x : Row). length x.2.fields ≤ 16) shelf.rows o row few there, tt) };
    too_late = λ t items h. record { sends = (tt, tt) };
    votes_on = λ t items h above. record { sends = (tt, tt) };
    applies = λ t h there. record { sends = tt };
    releases = λ t h there. record { sends = tt };
    boots = λ b h later. record { sends = tt };
  })

  modest_all : (ps : List Prepared) → AllByRecursion (λ (y : ℕ × Message). KeepsCounts y.1) (map (λ p. (p.0.worker, m.Inquire p.0)) ps)
  modest_all [] = tt
  modest_all (p ∷ ps) = (tt, modest_all ps)

  pub modest_asks : IsModest (asks shelf)
  modest_asks = record { sends = modest_all shelf.prepared }
