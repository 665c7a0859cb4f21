-- What is kept of journals, one after the other.
use Rattle.std.specs.Prelude.{◌≡◌, ◌⊎◌, ◌<◌, ◌≤◌, ◌-◌, ◌^◌, ℕ, zero, suc, Bool, true, false, IsTrue, List, [], ◌∷◌, ◌++◌, map, length, take, reverse, Contains, Option, Some, None, Result, Ok, Err, OnOk}
use Rattle.std.specs.List.{AllByRecursion}
use Rattle.std.proofs.Common.{refl, sym, ap, ◌∙◌, subst, inl, inr, arith, append_assoc, true≢false}
use Rattle.std.proofs.lemmas.List.{map-append, length-append, append-nil, length-map, reverse-append, take-map}
use Rattle.std.proofs.Math.Seq.{take-append_seam, take-length}
use Rattle.fab_base.specs.Faults.{Rose}
use Rattle.fab_device.specs.Kept.{CannotFail, Entry, Makers, one_more, with_entry, with_name}
use Rattle.fab_language.specs.Words.{node_text}
use Rattle.fab_tree.specs.declared.resolved.Resolved.{Resolved}
use Rattle.fab_node.specs.Standing.{GivenModel, JournalModel}
use Rattle.fab_core.specs.Starts.{AreBack, Empty, IsFresh, IsLeft, honest_below}
use Rattle.fab_core.proofs.AtStart.{key_of}
use Rattle.fab_core.specs.Honest.{AreFor, honest_in, honest_up}
use Rattle.fab_replay.specs.Kept.{HandsBack, HidesNone, IsCutShort, IsEntryAt, IsEntryBehind, IsEntryFresh, lost_behind, unlost, with_more}
use Rattle.fab_replay.specs.declared.replayed.Wanted.{Wanted}
use Rattle.fab_replay.specs.Running.{AreNew, GivesBack, IsNew, IsUnfailed, entries_of, entry_of}
use Rattle.fab_replay.proofs.Marks.{none_has}
use Rattle.fab_core.proofs.Honest.{IsPlace, for_both, for_long, honest_long, place_of}

-- ---- journals that were made

pub behind_first : (n x : ℕ) (ns : List ℕ) → Contains ns x → Contains (n ∷ ns) x
behind_first n x ns c = let within = c.1 in (suc c.0, omega (arith, within), c.2)

pub new_one : (told before : Option (List (List ℕ))) (name text : List ℕ) (j : JournalModel) → before ≡ told → text ≡ name → j.content ≡ [] → j.synced ≡ 0 → j.faults ≡ 0
    → (CannotFail before text → IsTrue j.sure) → IsNew told name j
new_one told before name text j same is content synced faults sure = record {
  content = content;
  synced = synced;
  faults = faults;
  sure = subst (λ t. CannotFail t name → IsTrue j.sure) same (subst (λ bytes. CannotFail before bytes → IsTrue j.sure) is sure);
}

module _ {J : Type 0} (seen : J → JournalModel) (told : Option (List (List ℕ))) (r : Resolved) where
  -- one more
  pub new_on : (ns : List ℕ) (made : List J) (n : ℕ) (x : J) → AreNew told r ns (map seen made) → IsNew told (node_text r n) (seen x)
      → AreNew told r (ns ++ n ∷ []) (map seen (made ++ x ∷ []))
  new_on ns made n x h new =
      subst (AreNew told r (ns ++ n ∷ [])) (sym (map-append seen made (x ∷ [])))
      (for_both (λ m j. IsNew told (node_text r m) j) ns (n ∷ []) (map seen made) (seen x ∷ []) h (new, tt))

  -- none of them has failed
  pub new_keys : (ns : List ℕ) (js : List J) → AreNew told r ns (map seen js) → AllByRecursion (λ (k : ℕ × Bool). k.0 ≡ 0) (map (λ j. key_of (seen j)) js)
  new_keys [] [] h = tt
  new_keys (n ∷ ns) (j ∷ js) h = (h.0.faults, new_keys ns js h.1)
  new_keys [] (j ∷ js) h = absurd h
  new_keys (n ∷ ns) [] h = absurd h

  -- with them a core may be made: they are empty, and one for each honest node
  pub new_empty : (ns : List ℕ) (js : List J) → AreNew told r ns (map seen js) → AllByRecursion (λ j. (seen j).content ≡ []) js
  new_empty [] [] h = tt
  new_empty (n ∷ ns) (j ∷ js) h = (h.0.content, new_empty ns js h.1)
  new_empty [] (j ∷ js) h = absurd h
  new_empty (n ∷ ns) [] h = absurd h

  -- a core that was made of them has their counts
  pub unfailed : (ns : List ℕ) (olds : List J) (news : List JournalModel) → AreNew told r ns (map seen olds)
      → map key_of news ≡ map (λ j. key_of (seen j)) olds → AreFor (λ n j. IsUnfailed told (node_text r n) (Some j)) ns news
  unfailed [] [] [] h e = tt
  unfailed (n ∷ ns) (old ∷ olds) (new ∷ news) h e =
      let key : key_of new ≡ key_of (seen old) = cc in
      let faults : new.faults ≡ (seen old).faults = ap (λ (k : ℕ × Bool). k.0) key in
      let sure : new.sure ≡ (seen old).sure = ap (λ (k : ℕ × Bool). k.1) key in
      (record { faults = faults ∙ h.0.faults; sure = λ cannot. sure ∙ h.0.sure cannot }, unfailed ns olds news h.1 (cc))
  unfailed [] [] (new ∷ news) h e = absurd (cc)
  unfailed (n ∷ ns) (old ∷ olds) [] h e = absurd (cc)
  unfailed [] (old ∷ olds) news h e = absurd h
  unfailed (n ∷ ns) [] news h e = absurd h

  pub new_many : (g : GivenModel) (ns : List ℕ) (js : List J) (m : ℕ) → ns ≡ honest_up g m → AreNew told r ns (map seen js) → length js ≡ honest_below g m
  new_many g ns js m e h = sym (length-map js seen) ∙ for_long (λ n j. IsNew told (node_text r n) j) ns (map seen js) h ∙ ap length e ∙ honest_long g m

-- ---- journals that are kept

-- what was done is a front of the whole
pub front_of : {T : Type 0} (done rest all : List T) → done ++ rest ≡ all → done ≡ take (length done) all
front_of done rest all e = sym (take-append_seam done rest) ∙ ap (take (length done)) e

pub more_none : {T : Type 0} (k : Option (List T)) → k ≡ with_more k []
more_none None = refl
more_none (Some xs) = ap Some (sym (append-nil xs))

-- one more was made
pub named_one : (r : Resolved) (made : Option (List (List ℕ))) (done : List ℕ) (n : ℕ) (name : List ℕ) → name ≡ node_text r n
    → with_name (with_more made (map (node_text r) done)) name ≡ with_more made (map (node_text r) (done ++ n ∷ []))
named_one r None done n name e = refl
named_one r (Some xs) done n name e =
    ap Some
    (append_assoc xs (map (node_text r) done) (name ∷ []) ∙ ap (λ t. xs ++ (map (node_text r) done ++ t ∷ [])) e
    ∙ ap (λ ys. xs ++ ys) (sym (map-append (node_text r) done (n ∷ []))))

pub more_one : (k : Option (List Entry)) (done : List Entry) (x : Entry) → with_entry (with_more k done) x ≡ with_more k (done ++ x ∷ [])
more_one None done x = refl
more_one (Some xs) done x = ap Some (append_assoc xs done (x ∷ []))

-- one of those that are left is kept
pub kept_on : {J : Type 0} (seen : J → JournalModel) (r : Resolved) (done : List Entry) (n : ℕ) (after rest : List ℕ) (items more : List J) (j : J) (name : List ℕ) (all : List Entry)
    → rest ≡ n ∷ after → items ≡ more ++ j ∷ [] → name ≡ node_text r n → done ++ entries_of r rest (map seen (reverse items)) ≡ all
    → (done ++ record { node = name; content = (seen j).content; synced = (seen j).synced; faults = (seen j).faults } ∷ []) ++ entries_of r after (map seen (reverse more)) ≡ all
kept_on seen r done n after rest items more j name all parts last named h =
    append_assoc done (record { node = name; content = (seen j).content; synced = (seen j).synced; faults = (seen j).faults } ∷ []) (entries_of r after (map seen (reverse more)))
    ∙ ap (λ t. done ++ record { node = t; content = (seen j).content; synced = (seen j).synced; faults = (seen j).faults } ∷ entries_of r after (map seen (reverse more))) named
    ∙ ap (λ js. done ++ entries_of r (n ∷ after) (map seen js)) (sym (ap reverse last ∙ reverse-append more (j ∷ [])))
    ∙ ap (λ ns. done ++ entries_of r ns (map seen (reverse items))) (sym parts)
    ∙ h

-- ---- journals that are handed back

-- as many nodes have entries as there are journals
pub entries_front : (r : Resolved) (before behind : List ℕ) (js : List JournalModel) → length js ≡ length before → entries_of r (before ++ behind) js ≡ entries_of r before js
entries_front r [] [] [] e = refl
entries_front r [] (n ∷ ns) [] e = refl
entries_front r [] behind (j ∷ js) e = absurd (omega (arith, e))
entries_front r (n ∷ ns) behind (j ∷ js) e = ap (λ xs. entry_of r n j ∷ xs) (entries_front r ns behind js (omega (arith, e)))
entries_front r (n ∷ ns) behind [] e = absurd (omega (arith, e))

-- one journal more
pub unlost_on : (losses : List Bool) (done : List Entry) (lost : Bool) (x : Entry) → length losses ≡ length done
    → unlost (losses ++ lost ∷ []) (done ++ x ∷ []) ≡ unlost losses done ++ unlost (lost ∷ []) (x ∷ [])
unlost_on [] [] lost x e = refl
unlost_on (true ∷ losses) (y ∷ done) lost x e = unlost_on losses done lost x (omega (arith, e))
unlost_on (false ∷ losses) (y ∷ done) lost x e = ap (λ xs. y ∷ xs) (unlost_on losses done lost x (omega (arith, e)))
unlost_on [] (y ∷ done) lost x e = absurd (omega (arith, e))
unlost_on (b ∷ losses) [] lost x e = absurd (omega (arith, e))

pub lost_on : (losses : List Bool) (count : ℕ) (lost : Bool) → lost_behind count (losses ++ lost ∷ []) ≡ lost_behind (lost_behind count losses) (lost ∷ [])
lost_on [] count lost = refl
lost_on (true ∷ losses) count lost = lost_on losses (one_more count) lost
lost_on (false ∷ losses) count lost = lost_on losses count lost

pub one_longer : (losses : List Bool) (done : List Entry) (lost : Bool) (x : Entry) → length losses ≡ length done → length (losses ++ lost ∷ []) ≡ length (done ++ x ∷ [])
one_longer losses done lost x long =
    let a = length-append losses (lost ∷ []) in
    let b = length-append done (x ∷ []) in
    omega (arith, long, a, b)

-- where none was lost and one more is kept
pub still_none : {T E : Type 0} {now next : ℕ} (first : ℕ) (result : Result T E) (losses : List Bool) (done : List Entry) (x : Entry) → length losses ≡ length done → next ≡ now
    → OnOk result ((unlost losses done ≡ done) × (now ≡ first)) → OnOk result ((unlost (losses ++ false ∷ []) (done ++ x ∷ []) ≡ done ++ x ∷ []) × (next ≡ first))
still_none first (Err e) losses done x long same h = tt
still_none first (Ok t) losses done x long same h = (unlost_on losses done false x long ∙ ap (λ xs. xs ++ x ∷ []) h.0, same ∙ h.1)

-- such as are given back
pub handed_back : {T E : Type 0} {result : Result T E} (P : ℕ → Entry → Type 0) (nodes : List ℕ) (entries those : List Entry) (old new : Makers) → AreFor P nodes entries
    → those ≡ entries → GivesBack result those old new → HandsBack P nodes old new
handed_back P nodes entries those old new are same back = record {
  entries = entries;
  each = are;
  losses = back.losses;
  long = back.long ∙ ap length same;
  kept = back.kept ∙ ap (λ xs. with_more old.kept (unlost back.losses xs)) same;
  lost = back.lost;
}

pub hands_from : (P : ℕ → Entry → Type 0) (nodes : List ℕ) (old mid new : Makers) → mid.kept ≡ old.kept → mid.lost ≡ old.lost → HandsBack P nodes mid new → HandsBack P nodes old new
hands_from P nodes old mid new kept lost h = record {
  entries = h.entries;
  each = h.each;
  losses = h.losses;
  long = h.long;
  kept = h.kept ∙ ap (λ k. with_more k (unlost h.losses h.entries)) kept;
  lost = h.lost ∙ ap (λ n. lost_behind n h.losses) lost;
}

-- where none is lost
pub all_kept : (P : ℕ → Entry → Type 0) (nodes : List ℕ) (entries : List Entry) (old new : Makers) → AreFor P nodes entries → new.kept ≡ with_more old.kept entries
    → new.lost ≡ old.lost → HandsBack P nodes old new
all_kept P nodes entries old new are kept lost = record {
  entries = entries;
  each = are;
  losses = map (λ x. false) entries;
  long = length-map entries (λ x. false);
  kept = kept ∙ ap (with_more old.kept) (sym (whole entries));
  lost = lost ∙ sym (same entries);
}
  where
    whole : (xs : List Entry) → unlost (map (λ x. false) xs) xs ≡ xs
    whole [] = refl
    whole (x ∷ xs) = ap (λ ys. x ∷ ys) (whole xs)

    same : (xs : List Entry) → lost_behind old.lost (map (λ x. false) xs) ≡ old.lost
    same [] = refl
    same (x ∷ xs) = same xs

-- journals that have their headers or nothing
pub fresh_entries : {J : Type 0} (seen : J → JournalModel) (g : GivenModel) (ns : List ℕ) (js : List J) → AreFor (λ n j. IsFresh n (seen j).content (seen j).synced) ns js
    → AllByRecursion (λ (k : ℕ × Bool). k.0 ≡ 0) (map (λ j. key_of (seen j)) js) → AreFor (IsEntryFresh g) ns (entries_of g.program ns (map seen js))
fresh_entries seen g [] [] h k = tt
fresh_entries seen g (n ∷ ns) (j ∷ js) h k = (record { name = refl; fresh = h.0; unfailed = k.0 }, fresh_entries seen g ns js h.1 k.1)
fresh_entries seen g [] (j ∷ js) h k = absurd h
fresh_entries seen g (n ∷ ns) [] h k = absurd h

-- and such as were just made
pub new_entries : (told : Option (List (List ℕ))) (g : GivenModel) (ns : List ℕ) (js : List JournalModel) → AreNew told g.program ns js → AreFor (IsEntryFresh g) ns (entries_of g.program ns js)
new_entries told g [] [] h = tt
new_entries told g (n ∷ ns) (j ∷ js) h =
    (record { name = refl; fresh = Empty (record { content_is = h.0.content; synced_is = h.0.synced }); unfailed = h.0.faults }, new_entries told g ns js h.1)
new_entries told g [] (j ∷ js) h = absurd h
new_entries told g (n ∷ ns) [] h = absurd h

-- ---- where memory ran out no fault is hidden

none_of : (P : ℕ → Entry → Type 0) → ((n : ℕ) (x : Entry) → P n x → x.faults ≡ 0) → (nodes : List ℕ) (xs : List Entry) → AreFor P nodes xs → AllByRecursion (λ x. x.faults ≡ 0) xs
none_of P none [] [] h = tt
none_of P none (n ∷ ns) (x ∷ xs) h = (none n x h.0, none_of P none ns xs h.1)
none_of P none [] (x ∷ xs) h = absurd h
none_of P none (n ∷ ns) [] h = absurd h

unlost_none : (losses : List Bool) (xs : List Entry) → AllByRecursion (λ x. x.faults ≡ 0) xs → AllByRecursion (λ x. x.faults ≡ 0) (unlost losses xs)
unlost_none [] xs h = h
unlost_none (true ∷ losses) [] h = tt
unlost_none (false ∷ losses) [] h = tt
unlost_none (true ∷ losses) (x ∷ xs) h = unlost_none losses xs h.1
unlost_none (false ∷ losses) (x ∷ xs) h = (h.0, unlost_none losses xs h.1)

names_are : (g : GivenModel) (P : ℕ → Entry → Type 0) → ((n : ℕ) (x : Entry) → P n x → x.node ≡ node_text g.program n) → (nodes : List ℕ) (xs : List Entry) → AreFor P nodes xs
    → map (λ (x : Entry). x.node) xs ≡ map (node_text g.program) nodes
names_are g P named [] [] h = refl
names_are g P named (n ∷ ns) (x ∷ xs) h = ap (λ t. t ∷ map (λ (x : Entry). x.node) xs) (named n x h.0) ∙ ap (λ ts. node_text g.program n ∷ ts) (names_are g P named ns xs h.1)
names_are g P named [] (x ∷ xs) h = absurd h
names_are g P named (n ∷ ns) [] h = absurd h

-- a count below its last value that stays counts none
pub rises : (count : ℕ) (losses : List Bool) → count < 2 ^ 64 - 1 → (count ≤ lost_behind count losses) × (lost_behind count losses ≡ count → (xs : List Entry) → unlost losses xs ≡ xs)
rises count losses few = (above count losses (omega (arith, few)), λ same. whole losses same)
  where
    above : (n : ℕ) (ls : List Bool) → n ≤ 2 ^ 64 - 1 → n ≤ lost_behind n ls
    above n [] most = omega arith
    above n (true ∷ ls) most = let more = above (one_more n) ls (omega arith) in omega (arith, more, most)
    above n (false ∷ ls) most = above n ls most

    whole : (ls : List Bool) → lost_behind count ls ≡ count → (xs : List Entry) → unlost ls xs ≡ xs
    whole [] same xs = refl
    whole (true ∷ ls) same xs = absurd (let more = above (one_more count) ls (omega arith) in omega (arith, more, same, few))
    whole (false ∷ ls) same [] = refl
    whole (false ∷ ls) same (x ∷ xs) = ap (λ ys. x ∷ ys) (whole ls same xs)

handed_none : (g : GivenModel) (P : ℕ → Entry → Type 0) (nodes : List ℕ) (old new : Makers) (had : List Entry) → ((n : ℕ) (x : Entry) → P n x → x.faults ≡ 0)
    → ((n : ℕ) (x : Entry) → P n x → x.node ≡ node_text g.program n) → new.made ≡ with_more old.made (map (node_text g.program) nodes) → HandsBack P nodes old new
    → old.kept ≡ Some had → HidesNone old new had
handed_none g P nodes old new had none named made h was = (
  unlost h.losses h.entries,
  h.kept ∙ ap (λ k. with_more k (unlost h.losses h.entries)) was,
  unlost_none h.losses h.entries (none_of P none nodes h.entries h.each),
  λ same few. made ∙ ap (with_more old.made) (sym (names_are g P named nodes h.entries h.each) ∙ ap (map (λ (x : Entry). x.node)) (sym ((rises old.lost h.losses few).1 (sym h.lost ∙ same) h.entries))),
)

pub none_hidden : (g : GivenModel) (wanted : Wanted) (old new : Makers) (had : List Entry) → IsCutShort g wanted old new → old.kept ≡ Some had → HidesNone old new had
none_hidden g wanted old new had (inl h) was =
    handed_none g (IsEntryFresh g) (take h.many (honest_in g)) old new had (λ n x k. k.unfailed) (λ n x k. k.name)
    (h.made ∙ ap (with_more old.made) (take-map (node_text g.program) h.many (honest_in g))) h.kept was
none_hidden g wanted old new had (inr h) was =
    handed_none g (IsEntryAt g h.0.moves) (honest_in g) old new had (λ n x k. k.sound (none_has h.0.moves n h.0.first)) (λ n x k. k.name) h.1 h.0.kept was

-- ---- a count that rose

pub positive : (before now : ℕ) → before ≡ 0 → Rose before now → 0 < now
positive before now e h = let P : ℕ → Type 0 = λ n. Rose n now in let k : Rose 0 now = subst P e h in omega (arith, k)

-- ---- journals that came back

-- a count is above 0 at this node, and 0 elsewhere
abbrev IsCount : ℕ → ℕ → ℕ × Bool → Type 0
IsCount node n key = ((n ≡ node → ⊥) → key.0 ≡ 0) × (n ≡ node → 0 < key.0)

others : (node : ℕ) (ns : List ℕ) (keys : List (ℕ × Bool)) → length ns ≡ length keys → AllByRecursion (λ k. k ≡ node → ⊥) ns → AllByRecursion (λ k. k.0 ≡ 0) keys
    → AreFor (IsCount node) ns keys
others node [] [] long apart none = tt
others node (n ∷ ns) (k ∷ keys) long apart none = ((λ e. none.0, λ e. absurd (apart.0 e)), others node ns keys (omega (arith, long)) apart.1 none.1)
others node [] (k ∷ keys) long apart none = absurd (omega (arith, long))
others node (n ∷ ns) [] long apart none = absurd (omega (arith, long))

counted : (node was now : ℕ) (front rest : List ℕ) (before behind : List (ℕ × Bool)) → length front ≡ length before → length rest ≡ length behind
    → AllByRecursion (λ k. k ≡ node → ⊥) front → AllByRecursion (λ k. k ≡ node → ⊥) rest
    → AllByRecursion (λ k. k.0 ≡ 0) (before ++ (was, false) ∷ behind) → Rose was now
    → AreFor (IsCount node) (front ++ node ∷ rest) (before ++ (now, false) ∷ behind)
counted node was now [] rest [] behind long more apart far none rose =
    ((λ e. absurd (e refl), λ e. positive was now none.0 rose), others node rest behind more far none.1)
counted node was now (n ∷ front) rest (k ∷ before) behind long more apart far none rose =
    ((λ e. none.0, λ e. absurd (apart.0 e)), counted node was now front rest before behind (omega (arith, long)) more apart.1 far none.1 rose)
counted node was now [] rest (k ∷ before) behind long more apart far none rose = absurd (omega (arith, long))
counted node was now (n ∷ front) rest [] behind long more apart far none rose = absurd (omega (arith, long))

-- what stands at this place
at_its_place : {A : Type 0} (P : ℕ → A → Type 0) (key : A → ℕ × Bool) (node : ℕ) (k : ℕ × Bool) (front rest : List ℕ) (before behind : List (ℕ × Bool)) (xs : List A)
    → length front ≡ length before → map key xs ≡ before ++ k ∷ behind → AreFor P (front ++ node ∷ rest) xs → (x : A) × P node x × (key x ≡ k)
at_its_place P key node k [] rest [] behind (x ∷ xs) long e h = (x, h.0, cc)
at_its_place P key node k (n ∷ front) rest (b ∷ before) behind (x ∷ xs) long e h =
    at_its_place P key node k front rest before behind xs (omega (arith, long)) (cc) h.1
at_its_place P key node k [] rest [] behind [] long e h = absurd h
at_its_place P key node k (n ∷ front) rest (b ∷ before) behind [] long e h = absurd h
at_its_place P key node k [] rest (b ∷ before) behind xs long e h = absurd (omega (arith, long))
at_its_place P key node k (n ∷ front) rest [] behind xs long e h = absurd (omega (arith, long))

pub apart_below : (node : ℕ) (ks : List ℕ) → AllByRecursion (λ k. k < node) ks → AllByRecursion (λ k. k ≡ node → ⊥) ks
apart_below node [] h = tt
apart_below node (k ∷ ks) h = let first = h.0 in ((λ e. omega (arith, first, e)), apart_below node ks h.1)

pub apart_above : (node : ℕ) (ks : List ℕ) → AllByRecursion (λ k. node < k) ks → AllByRecursion (λ k. k ≡ node → ⊥) ks
apart_above node [] h = tt
apart_above node (k ∷ ks) h = let first = h.0 in ((λ e. omega (arith, first, e)), apart_above node ks h.1)

module _ {J : Type 0} (seen : J → JournalModel) (told : Option (List (List ℕ))) (g : GivenModel) (node m : ℕ) (few : node < m)
    (olds backs : List J) (new : AreNew told g.program (honest_up g m) (map seen olds))
    (back : AreBack g node (map (λ j. key_of (seen j)) olds) (map (λ j. key_of (seen j)) backs)) where
  place : IsPlace g node m
  place = place_of g node m back.honest few

  long : length (honest_up g node) ≡ length back.before
  long = honest_long g node ∙ sym back.place

  more : length place.rest ≡ length back.behind
  more =
      let all = for_long (λ n j. IsNew told (node_text g.program n) j) (honest_up g m) (map seen olds) new in
      let seen_long = length-map olds seen in
      let keys_long = length-map olds (λ j. key_of (seen j)) in
      let parts = ap length place.parts ∙ length-append (honest_up g node) (node ∷ place.rest) in
      let was = ap length back.old_is ∙ length-append back.before ((back.was, false) ∷ back.behind) in
      omega (arith, all, seen_long, keys_long, parts, was, long)

  counts : AreFor (IsCount node) (honest_up g m) (map (λ j. key_of (seen j)) backs)
  counts =
      let none = subst (AllByRecursion (λ (k : ℕ × Bool). k.0 ≡ 0)) back.old_is (new_keys seen told g.program (honest_up g m) olds new) in
      let all = counted node back.was back.now (honest_up g node) place.rest back.before back.behind long more (apart_below node (honest_up g node) place.front)
      (apart_above node place.rest place.others) none back.rose
      in
      subst (λ ns. AreFor (IsCount node) ns (map (λ j. key_of (seen j)) backs)) (sym place.parts)
      (subst (AreFor (IsCount node) (honest_up g node ++ node ∷ place.rest)) (sym back.new_is) all)

  entries : (ns : List ℕ) (js : List J) → AreFor (IsCount node) ns (map (λ j. key_of (seen j)) js) → AreFor (λ n j. IsLeft node n (seen j).content (seen j).synced) ns js
      → AreFor (IsEntryBehind g node) ns (entries_of g.program ns (map seen js))
  entries [] [] h k = tt
  entries (n ∷ ns) (j ∷ js) h k = (record { name = refl; left = k.0; sound = h.0.0; failed = h.0.1 }, entries ns js h.1 k.1)
  entries [] (j ∷ js) h k = absurd h
  entries (n ∷ ns) [] h k = absurd h

  -- the journals are as behind a header that couldn't be written
  pub back_entries : AreFor (λ n j. IsLeft node n (seen j).content (seen j).synced) (honest_up g m) backs
      → AreFor (IsEntryBehind g node) (honest_up g m) (entries_of g.program (honest_up g m) (map seen backs))
  back_entries left = entries (honest_up g m) backs counts left

  -- and the one that failed isn't one of which it is told that it can't
  pub back_possible : CannotFail told (node_text g.program node) → ⊥
  back_possible cannot =
      let there = subst (λ ns. AreNew told g.program ns (map seen olds)) place.parts new in
      let one = at_its_place (λ n (j : JournalModel). IsNew told (node_text g.program n) j) key_of node (back.was, false) (honest_up g node) place.rest
      back.before back.behind (map seen olds) long (keys olds ∙ back.old_is) there in
      let same : one.0.sure ≡ false = ap (λ (k : ℕ × Bool). k.1) one.2 in
      true≢false (sym (one.1.sure cannot) ∙ same)
    where
      keys : (js : List J) → map key_of (map seen js) ≡ map (λ j. key_of (seen j)) js
      keys [] = refl
      keys (j ∷ js) = ap (λ ks. key_of (seen j) ∷ ks) (keys js)
