-- What an honest store says: its record owes nothing, and each object that it answers is one that it has.
use Rattle.std.proofs.Common.{◌≡◌, ℕ, [], ◌∷◌, true}
use Rattle.std.proofs.Common.{Option, Some, None, sym, ap, subst, arith}
use Rattle.std.specs.List.{AllByRecursion}
use Rattle.std.proofs.lemmas.Bool.{eqb-true}
use Rattle.fab_base.specs.declared.entry.Entry.{Entry}
use Rattle.fab_base.specs.declared.message.Answer.{Answer}
use Rattle.fab_base.specs.declared.message.Answer.TheVariants as answers
use Rattle.fab_base.specs.declared.message.Items.{Items}
use Rattle.fab_base.specs.declared.message.Message.{Message}
use Rattle.fab_base.specs.declared.message.Message.TheVariants as m
use Rattle.fab_base.specs.declared.message.Why.{Why}
use Rattle.fab_base.specs.declared.message.Why.TheVariants as why
use Rattle.fab_base.specs.declared.object.Object.{Object}
use Rattle.fab_base.specs.declared.object.Oid.{Oid}
use Rattle.fab_base.specs.declared.object.Tid.{Tid}
use Rattle.fab_base.specs.FieldSpelling.{IsOid, IsTid, sent_version}
use Rattle.fab_base.specs.MessageSpelling.{IsBody, spelled}
use Rattle.fab_rights.specs.Computed.{is_worker}
use Rattle.fab_protocol.specs.declared.said.Said.{Said}
use Rattle.fab_protocol.specs.Stores.{Prepared, Shelf, asks, hears, last_of, replies, silent}
use Rattle.fab_protocol.specs.Stores.{vote, voted}
use Rattle.fab_protocol.specs.Tables.{row_of}
use Rattle.fab_protocol.specs.Versions.{Row, is_made_in, name_of}
use Rattle.fab_protocol.specs.Shelves.{IsShelf}
use Rattle.fab_protocol.proofs.StoreActs.{answered}
use Rattle.fab_protocol.proofs.TableLaws.{row_of_all, row_of_name}
use Rattle.fab_world.specs.Machine.{Setting}
use Rattle.fab_world.specs.Serial.{IsSetting}
use Rattle.fab_integrity.proofs.Invariant.{In}
use Rattle.fab_integrity.proofs.Lists.{in_map, in_one}
use Rattle.fab_integrity.proofs.Readings.{read_back, same_kind}
use Rattle.fab_outcomes.proofs.Stored.{IsGood, IsSpelled, Owes}

module _ (S : Setting) (given : IsSetting S) (Made : Oid → Type 0) (s : ℕ) (shelf : Shelf) (ok : IsShelf S.rights s shelf)
    (rows : AllByRecursion (IsGood S.rights Made) shelf.rows) where
  -- what an Object says of its object holds
  abbrev pub Holds : Message → Type 0
  Holds (m.Object t o version x) = IsGood S.rights Made (o, version, x)
  Holds (m.Fetch t o) = Unit {0}
  Holds (m.Deny t o reason) = Unit {0}
  Holds (m.Prepare t items) = Unit {0}
  Holds (m.Vote t answer) = Unit {0}
  Holds (m.Commit t) = Unit {0}
  Holds (m.Abort t) = Unit {0}
  Holds (m.Boot b) = Unit {0}
  Holds (m.Inquire t) = Unit {0}

  -- of a message that is sent: however it is read, that holds
  abbrev pub IsHonest : Message → Type 0
  IsHonest sent = (read : Message) → S.read (spelled sent) ≡ Some read → Holds read

  -- of a record, if there is one
  abbrev pub OwesIf : Option Entry → Type 0
  OwesIf None = Unit {0}
  OwesIf (Some entry) = Owes S.rights Made s shelf ok entry

  -- of what it says
  pub record IsFair (said : Said) : Type 0 where
    pub owes : OwesIf said.entry
    pub sends : (n : ℕ) (message : Message) → In (n, message) said.sends → IsHonest message

  -- a message of another kind is read as no Object
  honest_kind : (sent : Message) → ((t : Tid) (o : Oid) (version : ℕ) (x : Object) → S.read (spelled sent) ≡ Some (m.Object t o version x) → ⊥) → IsHonest sent
  honest_kind sent none (m.Object t o version x) h = absurd (none t o version x h)
  honest_kind sent none (m.Fetch t o) h = tt
  honest_kind sent none (m.Deny t o reason) h = tt
  honest_kind sent none (m.Prepare t items) h = tt
  honest_kind sent none (m.Vote t answer) h = tt
  honest_kind sent none (m.Commit t) h = tt
  honest_kind sent none (m.Abort t) h = tt
  honest_kind sent none (m.Boot b) h = tt
  honest_kind sent none (m.Inquire t) h = tt

  honest_deny : (t : Tid) (o : Oid) (reason : Why) → IsHonest (m.Deny t o reason)
  honest_deny t o reason =
      honest_kind (m.Deny t o reason) (λ u p version x h. let differs : 3 ≡ 2 = same_kind S given (m.Deny t o reason) (m.Object u p version x) h in omega (arith, differs))

  honest_vote : (t : Tid) (answer : Answer) → IsHonest (m.Vote t answer)
  honest_vote t answer =
      honest_kind (m.Vote t answer) (λ u p version x h. let differs : 5 ≡ 2 = same_kind S given (m.Vote t answer) (m.Object u p version x) h in omega (arith, differs))

  honest_inquire : (t : Tid) → IsHonest (m.Inquire t)
  honest_inquire t =
      honest_kind (m.Inquire t) (λ u p version x h. let differs : 9 ≡ 2 = same_kind S given (m.Inquire t) (m.Object u p version x) h in omega (arith, differs))

  -- an object that it has
  honest_object : (t : Tid) (o : Oid) (row : Row) → IsTid t → IsOid o → row_of name_of shelf.rows o ≡ Some row → IsHonest (m.Object t o row.1 row.2)
  honest_object t o row tid name there read h =
      let good : IsGood S.rights Made row = row_of_all name_of (IsGood S.rights Made) shelf.rows o row rows there in
      let own : IsGood S.rights Made (o, row.1, row.2) = subst (λ p. IsGood S.rights Made (p, row.1, row.2)) (row_of_name name_of shelf.rows o row there) good in
      subst Holds (sym (read_back S given (m.Object t o row.1 row.2) read (tid, name, own.high, own.object) h)) own

  one_reply : (n : ℕ) (sent : Message) → IsHonest sent → (k : ℕ) (message : Message) → In {A = ℕ × Message} (k, message) ((n, sent) ∷ []) → IsHonest message
  one_reply n sent h k message i = subst IsHonest (sym (ap (λ (x : ℕ × Message). x.1) (in_one (k, message) (n, sent) i))) h

  fair_silent : IsFair silent
  fair_silent = record { owes = tt; sends = λ n message h. absurd h }

  fair_replies : (n : ℕ) (sent : Message) → IsHonest sent → IsFair (replies n sent)
  fair_replies n sent h = record { owes = tt; sends = one_reply n sent h }

  owes_vote : (t : Tid) (items : Items) → IsSpelled (t, items) → (answer : Answer) → Owes S.rights Made s shelf ok (voted t items answer)
  owes_vote t items h answers.Yes = h
  owes_vote t items h _ = tt

  -- to a message that can be spelled, and of which, if it is a Commit of its worker, what it commits has a maker
  pub fair_hears : (n : ℕ) (heard : Option Message) → ((message : Message) → heard ≡ Some message → IsBody sent_version message)
      → ((t : Tid) → heard ≡ Some (m.Commit t) → is_worker S.rights n ≡ true → t.worker ≡ n → (o : Oid) → is_made_in t o ≡ true → Made o)
      → IsFair (hears S.rights s n heard shelf)
  fair_hears n None body made = fair_silent
  fair_hears n (Some message) body made = answered S.rights s n shelf IsFair message (record {
    rests = λ h. fair_silent;
    lacks = λ t o h. fair_replies n (m.Deny t o why.Missing) (honest_deny t o why.Missing);
    bars = λ t o h. fair_replies n (m.Deny t o why.Rights) (honest_deny t o why.Rights);
    shows = λ t o row h there.
        let fits = body (m.Fetch t o) (ap Some h.is) in
        fair_replies n (m.Object t o row.1 row.2) (honest_object t o row fits.0 fits.1 there);
    too_late = λ t items h. record {
      owes = tt;
      sends = one_reply n (m.Vote t (answers.OldTid (last_of shelf n))) (honest_vote t (answers.OldTid (last_of shelf n)));
    };
    votes_on = λ t items h above.
        let fits = body (m.Prepare t items) (ap Some h.is) in
        record {
          owes = owes_vote t items (fits.0, fits.1) (vote S.rights s n t items shelf);
          sends = one_reply n (m.Vote t (vote S.rights s n t items shelf)) (honest_vote t (vote S.rights s n t items shelf));
        };
    applies = λ t h there. record { owes = made t (ap Some h.is) h.worker (eqb-true t.worker n h.sender); sends = λ k sent i. absurd i };
    releases = λ t h there. record { owes = tt; sends = λ k sent i. absurd i };
    boots = λ b h later. record { owes = tt; sends = λ k sent i. absurd i };
  })

  pub fair_asks : IsFair (asks shelf)
  fair_asks = record {
    owes = tt;
    sends = λ n message h.
        let f = in_map (λ (p : Prepared). (p.0.worker, m.Inquire p.0)) (n, message) shelf.prepared h in
        subst IsHonest (sym (ap (λ (x : ℕ × Message). x.1) f.2)) (honest_inquire f.0.0);
  }
