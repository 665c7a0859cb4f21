-- What an honest store answers: each Fetch by an object or a denial, each Prepare by a vote, and all of it can be read.
use Rattle.std.proofs.Common.{◌≡◌, ℕ, ◌<◌, ◌^◌, List, [], ◌∷◌, ◌++◌, map, Bool, not, ◌||◌, ◌==◌}
use Rattle.std.proofs.Common.{Option, Some, None, inl, refl, subst, sym, arith}
use Rattle.std.specs.List.{AllByRecursion}
use Rattle.std.proofs.lemmas.Bool.{cond_both}
use Rattle.fab_base.specs.declared.message.Answer.{Answer}
use Rattle.fab_base.specs.declared.message.Answer.TheVariants as answers
use Rattle.fab_base.specs.declared.message.Items.{Items}
use Rattle.fab_base.specs.declared.message.Message.{Message}
use Rattle.fab_base.specs.declared.message.Message.TheVariants as m
use Rattle.fab_base.specs.declared.message.Why.{Why}
use Rattle.fab_base.specs.declared.message.Why.TheVariants as why
use Rattle.fab_base.specs.declared.object.Oid.{Oid}
use Rattle.fab_base.specs.declared.object.Tid.{Tid}
use Rattle.fab_base.specs.FieldSpelling.{AreItems, IsCreate, IsObject, IsOid, IsRead, IsTid, IsWrite, sent_version}
use Rattle.fab_base.specs.MessageSpelling.{IsAnswer, IsBody}
use Rattle.fab_base.specs.Tids.{is_above}
use Rattle.fab_base.proofs.Lists.{all_along, all_append, all_map}
use Rattle.fab_rights.specs.declared.rights.Rights.{Rights}
use Rattle.fab_rights.specs.Computed.{knows, may_fetch}
use Rattle.fab_protocol.specs.declared.said.Said.{Said}
use Rattle.fab_protocol.specs.Stores.{Item, Prepared, Read, Shelf, Write, Create, asked, creates_in, fetched, first_of, found, item_name, last_of, locked, out_of_date}
use Rattle.fab_protocol.specs.Stores.{reads_in, reasons, reasons_in, reasons_of, replies, vote, voted, votes, writes_in}
use Rattle.fab_protocol.specs.Tables.{row_of}
use Rattle.fab_protocol.specs.Versions.{Row, name_of, version_of}
use Rattle.fab_protocol.proofs.TableLaws.{row_of_all}
use Rattle.fab_protocol.proofs.VersionLaws.{version_by_row, version_in}
use Rattle.fab_integrity.proofs.Invariant.{In}
use Rattle.fab_ended.proofs.Short.{IsShort, deny_short, object_short, vote_short}

-- ---- replies

-- it answers a Fetch of this tid and name
abbrev pub IsReply : Tid → Oid → Message → Type 0
IsReply t o (m.Object u p version x) = (u ≡ t) × (p ≡ o)
IsReply t o (m.Deny u p reason) = (u ≡ t) × (p ≡ o)
IsReply t o _ = ⊥

-- it is a vote on this tid
abbrev pub IsVote : Tid → Message → Type 0
IsVote t (m.Vote u answer) = u ≡ t
IsVote t _ = ⊥

-- among what is said is such a message for node n, which can be read
pub record Replies (n : ℕ) (Fits : Message → Type 0) (said : Said) : Type 0 where
  pub message : Message
  pub listed : In {A = ℕ × Message} (n, message) said.sends
  pub body : IsBody sent_version message
  pub short : IsShort message
  pub fits : Fits message

-- a row that an Object can carry
pub record CanAnswer (row : Row) : Type 0 where
  pub version : row.1 < 2 ^ 32
  pub object : IsObject sent_version row.2

-- the first reason's answer, if it is one of these
first_answers : (rs : List (Bool × Answer)) → AllByRecursion (λ r. IsAnswer r.1) rs → IsAnswer (first_of rs)
first_answers [] h = tt
first_answers (r ∷ rs) h = cond_both r.0 r.1 (first_of rs) IsAnswer (λ _. h.0) (λ _. first_answers rs h.1)

module _ (rights : Rights) (s n : ℕ) (shelf : Shelf) (rows : AllByRecursion CanAnswer shelf.rows) where
  -- ---- what is fetched

  replies_denied : (t : Tid) (o : Oid) (reason : Why) → IsTid t → IsOid o → Replies n (IsReply t o) (replies n (m.Deny t o reason))
  replies_denied t o reason tid name =
      record { message = m.Deny t o reason; listed = inl refl; body = (tid, name); short = deny_short t o reason; fits = (refl, refl) }

  replies_found : (t : Tid) (o : Oid) → IsTid t → IsOid o → (row : Option Row) → row_of name_of shelf.rows o ≡ row → Replies n (IsReply t o) (found n t o row)
  replies_found t o tid name None there = replies_denied t o why.Missing tid name
  replies_found t o tid name (Some row) there =
      let can : CanAnswer row = row_of_all name_of CanAnswer shelf.rows o row rows there in
      record {
        message = m.Object t o row.1 row.2;
        listed = inl refl;
        body = (tid, name, can.version, can.object);
        short = object_short t o row.1 row.2 can.object;
        fits = (refl, refl);
      }

  -- a Fetch is answered
  pub replies_fetched : (t : Tid) (o : Oid) → IsTid t → IsOid o → Replies n (IsReply t o) (fetched rights s n t o shelf)
  replies_fetched t o tid name =
      cond_both (not (o.store == s) || not (knows rights o.class)) (replies n (m.Deny t o why.Missing)) _ (Replies n (IsReply t o))
      (λ _. replies_denied t o why.Missing tid name)
      (λ _. cond_both (not (may_fetch rights n o.class)) (replies n (m.Deny t o why.Rights)) (found n t o (row_of name_of shelf.rows o)) (Replies n (IsReply t o))
      (λ _. replies_denied t o why.Rights tid name)
      (λ _. replies_found t o tid name (row_of name_of shelf.rows o) refl))

  -- ---- votes

  low_version : (o : Oid) → version_of shelf.rows o < 2 ^ 32
  low_version o = subst (λ v. v < 2 ^ 32) (sym (version_by_row shelf.rows o)) (by (row_of name_of shelf.rows o) refl)
    where
      by : (row : Option Row) → row_of name_of shelf.rows o ≡ row → version_in row < 2 ^ 32
      by None is = omega arith
      by (Some row) is = let can : CanAnswer row = row_of_all name_of CanAnswer shelf.rows o row rows is in can.version

  module _ (prepared : AllByRecursion (λ (p : Prepared). IsTid p.0) shelf.prepared) (t : Tid) where
    abbrev Spells : Bool × Answer → Type 0
    Spells r = IsAnswer r.1

    spells_date : (i : Item) → IsOid (item_name i) → Spells (out_of_date shelf.rows i)
    spells_date (Read o version) h = (h, low_version o)
    spells_date (Write o version x) h = (h, low_version o)
    spells_date (Create o x) h = h

    spells_locks : (i : Item) (ps : List Prepared) → AllByRecursion (λ (p : Prepared). IsTid p.0) ps → AllByRecursion Spells (locked ps i)
    spells_locks i [] h = tt
    spells_locks i (p ∷ ps) h = (h.0, spells_locks i ps h.1)

    spells_reasons : (earlier : List Oid) (before : Option Oid) (is : List Item) → AllByRecursion (λ i. IsOid (item_name i)) is
        → AllByRecursion Spells (reasons_in rights s n t shelf earlier before is)
    spells_reasons earlier before [] h = tt
    spells_reasons earlier before (i ∷ is) h =
        all_append Spells (reasons_of rights s n t shelf earlier before i) (reasons_in rights s n t shelf earlier (Some (item_name i)) is)
        (h.0, (h.0, (spells_date i h.0, spells_locks i shelf.prepared prepared)))
        (spells_reasons earlier (Some (item_name i)) is h.1)

    spells_all : (items : Items) → AreItems sent_version items → AllByRecursion Spells (reasons rights s n t items shelf)
    spells_all items are =
        let rs = reasons_in rights s n t shelf [] None (reads_in items) in
        let ws = reasons_in rights s n t shelf (map item_name (reads_in items)) None (writes_in items) in
        let cs = reasons_in rights s n t shelf (map item_name (reads_in items ++ writes_in items)) None (creates_in items) in
        all_append Spells (rs ++ ws) cs
        (all_append Spells rs ws
        (spells_reasons [] None (reads_in items)
        (all_map (λ (i : Item). IsOid (item_name i)) (λ r. Read r.0 r.1) items.reads (all_along IsRead (λ r. IsOid r.0) (λ r h. h.oid) items.reads are.reads)))
        (spells_reasons (map item_name (reads_in items)) None (writes_in items)
        (all_map (λ (i : Item). IsOid (item_name i)) (λ w. Write w.0 w.1 w.2) items.writes
        (all_along (IsWrite sent_version) (λ w. IsOid w.0) (λ w h. h.oid) items.writes are.writes))))
        (spells_reasons (map item_name (reads_in items ++ writes_in items)) None (creates_in items)
        (all_map (λ (i : Item). IsOid (item_name i)) (λ c. Create c.0 c.1) items.creates
        (all_along (IsCreate sent_version) (λ c. IsOid c.0) (λ c h. h.oid) items.creates are.creates)))

    replies_vote : IsTid t → (answer : Answer) → IsAnswer answer → (said : Said) → In {A = ℕ × Message} (n, m.Vote t answer) said.sends
        → Replies n (IsVote t) said
    replies_vote tid answer spells said listed =
        record { message = m.Vote t answer; listed = listed; body = (tid, spells); short = vote_short t answer; fits = refl }

    -- a Prepare is answered
    pub replies_asked : (items : Items) → IsTid t → AreItems sent_version items → IsTid (last_of shelf n) → Replies n (IsVote t) (asked rights s n t items shelf)
    replies_asked items tid are last =
        cond_both (not (is_above t (last_of shelf n))) (votes n t (answers.OldTid (last_of shelf n)) None)
        (votes n t (vote rights s n t items shelf) (Some (voted t items (vote rights s n t items shelf)))) (Replies n (IsVote t))
        (λ _. replies_vote tid (answers.OldTid (last_of shelf n)) last (votes n t (answers.OldTid (last_of shelf n)) None) (inl refl))
        (λ _. replies_vote tid (vote rights s n t items shelf) (first_answers (reasons rights s n t items shelf) (spells_all items are))
        (votes n t (vote rights s n t items shelf) (Some (voted t items (vote rights s n t items shelf)))) (inl refl))
