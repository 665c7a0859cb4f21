-- What is told where there is no core, and what one is made of.
use Rattle.std.specs.Prelude.{◌≡◌, ℕ, IsTrue, List, [], ◌∷◌, ◌++◌, map, length, take, Bool, Contains, Option, Some, None, Result, Ok, Err, IfErr, OnOk}
use Rattle.std.specs.List.{AllByRecursion}
use Rattle.std.proofs.Common.{refl, sym, ap, ◌∙◌, subst, inl, arith}
use Rattle.std.proofs.lemmas.List.{length-map, take-map}
use Rattle.std.proofs.Math.Seq.{take-length}
use Rattle.fab_base.specs.Faults.{Rose}
use Rattle.fab_device.specs.Kept.{CannotFail, Makers}
use Rattle.fab_language.specs.Words.{node_text}
use Rattle.fab_tree.specs.declared.resolved.Resolved.{Resolved}
use Rattle.fab_world.specs.Machine.{Move}
use Rattle.fab_node.specs.Standing.{GivenModel, IsGiven, IsJournalOf, JournalModel}
use Rattle.fab_core.specs.Cores.{CoreModel, is_honest, slot, world_by}
use Rattle.fab_core.specs.Starts.{AreBack, IsFresh, IsLeft, honest_below, journals_faults}
use Rattle.fab_core.specs.Telling.{IsJournalAt, those_in}
use Rattle.fab_core.proofs.AtStart.{key_of}
use Rattle.fab_core.specs.Honest.{AreFor, honest_in, honest_up}
use Rattle.fab_core.proofs.Honest.{IsPlace, for_long, place_of}
use Rattle.fab_replay.specs.Kept.{HandsBack, IsEntryBehind, IsEntryFresh, IsReplayed, IsStartShort, Unmade as CouldNotBeMade, Unwritten, names_in, with_more}
use Rattle.fab_replay.specs.Making.{HasFailedAt, HasMadeSome, HasNoCore, HasNoJournal, HaveMade, IsUnstarted}
use Rattle.fab_replay.specs.Running.{AreNew, AreUnfailed, GivesBack, IsNew, IsUnfailed, entries_of}
use Rattle.fab_replay.specs.declared.journals.Unstarted.{Unstarted}
use Rattle.fab_replay.specs.declared.journals.Unstarted.TheVariants as u
use Rattle.fab_replay.specs.declared.replayed.Replayed.TheVariants as r
use Rattle.fab_replay.specs.declared.replayed.Wanted.{Wanted}
use Rattle.fab_replay.proofs.Aligned.{StandsAt}
use Rattle.fab_replay.proofs.Numbered.{at_place, honest_member, honest_within}
use Rattle.fab_replay.proofs.Keeping.{apart_above, apart_below, back_entries, back_possible, behind_first, entries_front, fresh_entries, front_of, handed_back, hands_from, more_none, new_entries, new_keys, new_many, unfailed}

-- ---- no journal has failed

stands_for : (g : GivenModel) (moves : List Move) (n : ℕ) (o : Option JournalModel) → IsJournalAt g ((world_by g moves).node n) n o
    → StandsAt (is_honest g) (λ m j. IsJournalOf m ((world_by g moves).node m) j.content j.synced) n o
stands_for g moves n None h = h
stands_for g moves n (Some j) h = h

-- what is known of the journals in their order is known at each place
are_unfailed : (told : Option (List (List ℕ))) (g : GivenModel) (moves : List Move) (js : List (Option JournalModel)) → IsGiven g
    → ((n : ℕ) → IsJournalAt g ((world_by g moves).node n) n (slot js n))
    → AreFor (λ n j. IsUnfailed told (node_text g.program n) (Some j)) (honest_in g) (those_in js) → AreUnfailed told g js
are_unfailed told g moves js given at h n = by (slot js n) refl
  where
    by : (o : Option JournalModel) → slot js n ≡ o → IsUnfailed told (node_text g.program n) (slot js n)
    by None e = subst (IsUnfailed told (node_text g.program n)) (sym e) (record { faults = refl; sure = λ cannot. refl })
    by (Some j) e =
        subst (IsUnfailed told (node_text g.program n)) (sym e)
        (at_place g 64 (honest_within g given) (λ m j. IsJournalOf m ((world_by g moves).node m) j.content j.synced) js (λ m. stands_for g moves m (slot js m) (at m))
        (λ m j. IsUnfailed told (node_text g.program m) (Some j)) h n j e)

-- ---- journals that couldn't all be made

-- a list that has a number once has the same before it, however it is parted there
before_it : (n : ℕ) (xs ys front rest : List ℕ) → AllByRecursion (λ k. k ≡ n → ⊥) front → AllByRecursion (λ k. k ≡ n → ⊥) rest → xs ++ n ∷ ys ≡ front ++ n ∷ rest → xs ≡ front
before_it n [] ys [] rest far apart e = refl
before_it n [] ys (k ∷ front) rest far apart e = let here : k ≡ n = cc in absurd (far.0 here)
before_it n (x ∷ xs) ys [] rest far apart e = let there : xs ++ n ∷ ys ≡ rest = cc in absurd (within xs (subst (AllByRecursion (λ k. k ≡ n → ⊥)) (sym there) apart))
  where
    within : (zs : List ℕ) → AllByRecursion (λ k. k ≡ n → ⊥) (zs ++ n ∷ ys) → ⊥
    within [] h = h.0 refl
    within (z ∷ zs) h = within zs h.1
before_it n (x ∷ xs) ys (k ∷ front) rest far apart e =
    let first : x ≡ k = cc in
    let later : xs ++ n ∷ ys ≡ front ++ n ∷ rest = cc in
    ap (λ m. m ∷ xs) first ∙ ap (λ ms. k ∷ ms) (before_it n xs ys front rest far.1 apart later)

among : (n : ℕ) (front rest : List ℕ) → Contains (front ++ n ∷ rest) n
among n [] rest = (0, omega arith, refl)
among n (x ∷ front) rest = behind_first x n (front ++ n ∷ rest) (among n front rest)

-- the names of all nodes for which one is made
pub names_of : (g : GivenModel) (made : Option (List (List ℕ))) (program : Resolved) (nodes : List ℕ) → program ≡ g.program → nodes ≡ honest_in g
    → with_more made (map (node_text program) nodes) ≡ with_more made (names_in g)
names_of g made program nodes is are = ap (λ (p : Resolved). with_more made (map (node_text p) nodes)) is ∙ ap (λ ns. with_more made (map (node_text g.program) ns)) are

-- memory ran out before
pub none_made : (g : GivenModel) (old : Makers) → IsStartShort g old old
none_made g old = record {
  many = 0;
  made = more_none old.made;
  kept = record { entries = []; each = tt; losses = []; long = refl; kept = more_none old.kept; lost = refl };
  faults = refl;
}

-- or behind some, which are handed back
module _ {J T E : Type 0} (seen : J → JournalModel) (g : GivenModel) (program : Resolved) (nodes : List ℕ) (is : program ≡ g.program) (are : nodes ≡ honest_in g)
    (old mid new : Makers) (js : List J) {result : Result T E} (kept : mid.kept ≡ old.kept) (lost : mid.lost ≡ old.lost)
    (made : new.made ≡ mid.made) (faults : new.faults ≡ mid.faults) (back : GivesBack result (entries_of program nodes (map seen js)) mid new) where
  -- those of nodes that stand in front
  module _ (before behind : List ℕ) (parts : nodes ≡ before ++ behind) (new_ones : AreNew old.may_fail program before (map seen js)) where
    fresh_ones : AreNew old.may_fail g.program before (map seen js)
    fresh_ones = subst (λ (p : Resolved). AreNew old.may_fail p before (map seen js)) is new_ones

    those : entries_of program nodes (map seen js) ≡ entries_of g.program before (map seen js)
    those =
        ap (λ (p : Resolved). entries_of p nodes (map seen js)) is ∙ ap (λ ns. entries_of g.program ns (map seen js)) parts
        ∙ entries_front g.program before behind (map seen js) (for_long (λ n j. IsNew old.may_fail (node_text g.program n) j) before (map seen js) fresh_ones)

    front_back : HandsBack (IsEntryFresh g) before old new
    front_back =
        hands_from (IsEntryFresh g) before old mid new kept lost
        (handed_back (IsEntryFresh g) before (entries_of g.program before (map seen js)) (entries_of program nodes (map seen js)) mid new
        (new_entries old.may_fail g before (map seen js) fresh_ones) those back)

  pub some_short : HasMadeSome program nodes old mid (map seen js) → IsStartShort g old new
  some_short h =
      let front : h.before ≡ take (length h.before) (honest_in g) = front_of h.before h.behind (honest_in g) (sym h.parts ∙ are) in
      record {
        many = length h.before;
        made =
            made ∙ h.made ∙ ap (λ (p : Resolved). with_more old.made (map (node_text p) h.before)) is
            ∙ ap (with_more old.made) (ap (map (node_text g.program)) front ∙ sym (take-map (node_text g.program) (length h.before) (honest_in g)));
        kept = subst (λ ns. HandsBack (IsEntryFresh g) ns old new) front (front_back h.before h.behind h.parts h.are);
        faults = faults ∙ h.same;
      }

  pub no_journal : IsGiven g → (node : ℕ) → HasFailedAt program nodes old mid (map seen js) node → HasNoJournal g old new node
  no_journal given node h =
      let parts : honest_in g ≡ h.before ++ node ∷ h.behind = sym are ∙ h.parts in
      let honest : IsTrue (is_honest g node) = honest_member g 64 node (subst (λ ns. Contains ns node) (sym parts) (among node h.before h.behind)) in
      let place : IsPlace g node 64 = place_of g node 64 honest (honest_within g given node honest) in
      let before : h.before ≡ honest_up g node =
      before_it node h.before h.behind (honest_up g node) place.rest (apart_below node (honest_up g node) place.front) (apart_above node place.rest place.others) (sym parts ∙ place.parts)
      in
      record {
        honest = honest;
        unmade = CouldNotBeMade (subst (λ ns. HandsBack (IsEntryFresh g) ns old new) before (front_back h.before (node ∷ h.behind) h.parts h.are))
            (made ∙ h.made ∙ ap (λ (p : Resolved). with_more old.made (map (node_text p) h.before)) is ∙ ap (λ ns. with_more old.made (map (node_text g.program) ns)) before)
            (subst (λ n. Rose old.faults n) (sym faults) h.rose);
        possible = λ cannot. h.possible (subst (λ (p : Resolved). CannotFail old.may_fail (node_text p node)) (sym is) cannot);
      }

-- ---- a core of journals that were made

module _ {J : Type 0} (seen : J → JournalModel) (told : Option (List (List ℕ))) (g : GivenModel) (program : Resolved) (nodes : List ℕ) (made : List J)
    (is : program ≡ g.program) (are : nodes ≡ honest_in g) (new : AreNew told program nodes (map seen made)) where
  news : AreNew told g.program (honest_in g) (map seen made)
  news = subst (λ ns. AreNew told g.program ns (map seen made)) are (subst (λ (p : Resolved). AreNew told p nodes (map seen made)) is new)

  pub many : length made ≡ honest_below g 64
  many = new_many seen told g.program g (honest_in g) made 64 (λ i. honest_in g) news

  -- those of a core that was made of them
  pub taken : (core : CoreModel) → core.given ≡ g → journals_faults core.journals ≡ map (λ j. key_of (seen j)) made → IsGiven core.given
      → ((n : ℕ) → IsJournalAt core.given ((world_by core.given core.moves).node n) n (slot core.journals n)) → AreUnfailed told core.given core.journals
  taken core same keys given at =
      let all = unfailed seen told g.program (honest_in g) made _ news keys in
      are_unfailed told core.given core.moves core.journals given at
      (subst (λ (x : GivenModel). AreFor (λ n j. IsUnfailed told (node_text x.program n) (Some j)) (honest_in x) (those_in core.journals)) (sym same) all)

  those_of : (js : List J) → entries_of program nodes (map seen js) ≡ entries_of g.program (honest_in g) (map seen js)
  those_of js = ap (λ (p : Resolved). entries_of p nodes (map seen js)) is ∙ ap (λ ns. entries_of g.program ns (map seen js)) are

  -- ---- a header that couldn't be written

  module _ (given : IsGiven g) (node : ℕ) (back : List J) (h : AreBack g node (map (λ j. key_of (seen j)) made) (map (λ j. key_of (seen j)) back))
      (left : AreFor (λ n j. IsLeft node n (seen j).content (seen j).synced) (honest_in g) back) where
    are_left : AreFor (IsEntryBehind g node) (honest_in g) (entries_of g.program (honest_in g) (map seen back))
    are_left = back_entries seen told g node 64 (honest_within g given node h.honest) made back news h left

    -- they are handed back, and the fault is one that may be
    pub unwritten : {T E : Type 0} {result : Result T E} (old last : Makers) → old.may_fail ≡ told → GivesBack result (entries_of program nodes (map seen back)) old last
        → HasNoCore g old last (u.Failed node)
    unwritten old last tells gives = (
      h.honest,
      handed_back (IsEntryBehind g node) (honest_in g) (entries_of g.program (honest_in g) (map seen back)) (entries_of program nodes (map seen back)) old last are_left (those_of back) gives,
      λ cannot. back_possible seen told g node 64 (honest_within g given node h.honest) made back news h (subst (λ t. CannotFail t (node_text g.program node)) tells cannot),
    )

  -- ---- memory ran out

  pub no_memory : {T E : Type 0} {result : Result T E} (back : List J) (old last : Makers) → AreFor (λ n j. IsFresh n (seen j).content (seen j).synced) (honest_in g) back
      → map (λ j. key_of (seen j)) back ≡ map (λ j. key_of (seen j)) made → GivesBack result (entries_of program nodes (map seen back)) old last → HasNoCore g old last u.Memory
  no_memory back old last fresh keys gives =
      let none = subst (AllByRecursion (λ (k : ℕ × Bool). k.0 ≡ 0)) (sym keys) (new_keys seen told g.program (honest_in g) made news) in
      handed_back (IsEntryFresh g) (honest_in g) (entries_of g.program (honest_in g) (map seen back)) (entries_of program nodes (map seen back)) old last
      (fresh_entries seen g (honest_in g) back fresh none) (those_of back) gives

-- there is no core of all that were made
module _ (g : GivenModel) (old mid new : Makers) (begun : HaveMade g old mid) (made : new.made ≡ mid.made) (faults : new.faults ≡ mid.faults) where
  pub unstarted : (why : Unstarted) → HasNoCore g mid new why → IsUnstarted g old new why
  unstarted (u.Failed node) h = record {
    honest = h.0;
    unmade = Unwritten (hands_from (IsEntryBehind g node) (honest_in g) old mid new begun.kept begun.lost h.1) (made ∙ begun.made) (faults ∙ begun.faults);
    possible = λ cannot. h.2 (subst (λ t. CannotFail t (node_text g.program node)) (sym begun.told) cannot);
  }
  unstarted u.Memory h =
      let many = length-map (honest_in g) (node_text g.program) in
      let whole : take (length (names_in g)) (honest_in g) ≡ honest_in g = ap (λ k. take k (honest_in g)) many ∙ take-length (honest_in g) in
      record {
        many = length (names_in g);
        made = made ∙ begun.made ∙ ap (with_more old.made) (sym (take-length (names_in g)));
        kept = subst (λ ns. HandsBack (IsEntryFresh g) ns old new) (sym whole) (hands_from (IsEntryFresh g) (honest_in g) old mid new begun.kept begun.lost h);
        faults = faults ∙ begun.faults;
      }

  pub all_unstarted : {T : Type 0} (result : Result T Unstarted) → IfErr result (HasNoCore g mid new) → IfErr result (IsUnstarted g old new)
  all_unstarted (Ok core) h = tt
  all_unstarted (Err why) h = unstarted why h

-- or there is one, and nothing more came of the makers
pub still_made : {T E : Type 0} (result : Result T E) (g : GivenModel) (old mid new : Makers) → HaveMade g old mid → OnOk result (new ≡ mid) → OnOk result (HaveMade g old new)
still_made (Ok core) g old mid new h same = subst (HaveMade g old) (sym same) h
still_made (Err why) g old mid new h same = tt

-- ---- what a run comes to that has no start

pub no_start : (g : GivenModel) (old new : Makers) (node : ℕ) (wanted : Wanted) → HasNoJournal g old new node → IsReplayed g wanted (r.JournalFault node None) old new
no_start g old new node wanted h = (h.honest, inl h.unmade)
