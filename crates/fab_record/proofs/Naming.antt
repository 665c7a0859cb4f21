-- Names in sets.
use Rattle.std.proofs.Common.{◌≡◌, ℕ, Bool, true, false, ◌+◌, ◌<◌, ◌≤◌, ◌||◌, if◌then◌else◌, List, [], ◌∷◌, ◌++◌, map, fold, drop, length, get_or, refl, sym, ap, ◌∙◌, append-nil, append_assoc, arith}
use Rattle.std.specs.List.{filter, list_any}
use Rattle.std.proofs.lemmas.List.Folds.{list_any-append}
use Rattle.std.proofs.lemmas.Bool.Decides.{nat_tests}
use Rattle.indexmap.specs.IndexSet.{insert_key}
use Rattle.fab_base.specs.declared.object.Oid.{Oid}
use Rattle.fab_base.specs.FlatMap.{is_among, is_same}
use Rattle.fab_base.specs.contracts.object.OidPartialEq as oids
use Rattle.fab_base.proofs.Lists.{front_at}
use Rattle.fab_net.specs.declared.note.Note.{Note}
use Rattle.fab_net.specs.declared.note.Note.TheVariants as note
use Rattle.fab_release.specs.Record.{is_in_view, seen_behind}
use Rattle.fab_release.specs.Sights.{Sight}
use Rattle.fab_authority.proofs.Walks.{front}
use Rattle.fab_nested.proofs.Naming as nested
use Rattle.fab_record.proofs.Gathering.{past_end}
use Rattle.fab_sets.proofs.Listing.{insert_more, or_false}
use Rattle.fab_record.specs.Kept.{AreSame, seen_touch}

-- what a set of names answers
pub among_by : (o : Oid) (os : List Oid) → list_any (λ (p : Oid). oids.TheImpl.ghosts.eq o p) os ≡ is_among o os
among_by = nested.among_by

same_along : (p k a : Oid) → is_same p k ≡ true → is_same k a ≡ true → is_same p a ≡ true
same_along p k a e f = grind (arith, nat_tests)

-- one name more
pub names_more : (o p : Oid) (os : List Oid) → is_among o (insert_key oids.TheImpl.ghosts.eq os p) ≡ (is_among o os || is_same p o)
names_more o p os = insert_more oids.TheImpl.ghosts.eq is_same nested.eq_is same_along o p os

pub among_append : (o : Oid) (os ps : List Oid) → is_among o (os ++ ps) ≡ (is_among o os || is_among o ps)
among_append o os ps = list_any-append (λ q. is_same q o) os ps

pub same_behind : (os ps qs : List Oid) → AreSame os ps → AreSame (os ++ qs) (ps ++ qs)
same_behind os ps qs h o = among_append o os qs ∙ ap (λ b. b || is_among o qs) (h o) ∙ sym (among_append o ps qs)

pub same_then : (os ps qs : List Oid) → AreSame os ps → AreSame ps qs → AreSame os qs
same_then os ps qs h k o = h o ∙ k o

pub same_lists : (os ps : List Oid) → os ≡ ps → AreSame os ps
same_lists os ps e o = ap (is_among o) e

-- a touch that is in view, and one that isn't
pub touch_put : (sight : Sight) (t : ℕ × Oid × ℕ) (b : Bool) (old new : List Oid) → b ≡ is_in_view sight t → b ≡ true
    → new ≡ insert_key oids.TheImpl.ghosts.eq old t.1 → AreSame new (old ++ seen_touch sight t)
touch_put sight t b old new is holds next p =
    ap (is_among p) next ∙ names_more p t.1 old ∙ ap (λ c. is_among p old || c) (sym (or_false (is_same t.1 p)))
    ∙ sym (among_append p old (t.1 ∷ []))
    ∙ ap (λ c. is_among p (old ++ (if c then t.1 ∷ [] else []))) (sym holds ∙ is)

pub touch_left : (sight : Sight) (t : ℕ × Oid × ℕ) (b : Bool) (old : List Oid) → b ≡ is_in_view sight t → b ≡ false → AreSame old (old ++ seen_touch sight t)
touch_left sight t b old is fails p = ap (is_among p) (sym (append-nil old)) ∙ ap (λ c. is_among p (old ++ (if c then t.1 ∷ [] else []))) (sym fails ∙ is)

-- ---- loops

module _ (sight : Sight) where
  abbrev seen_in : List (ℕ × Oid × ℕ) → List Oid
  seen_in ts = map (λ (x : ℕ × Oid × ℕ). x.1) (filter (is_in_view sight) ts)

  seen_first : (t : ℕ × Oid × ℕ) (ts : List (ℕ × Oid × ℕ)) → seen_touch sight t ++ seen_in ts ≡ seen_in (t ∷ ts)
  seen_first t ts = by (is_in_view sight t)
    where
      by : (b : Bool) → (if b then t.1 ∷ [] else []) ++ seen_in ts ≡ map (λ (x : ℕ × Oid × ℕ). x.1) (if b then t ∷ filter (is_in_view sight) ts else filter (is_in_view sight) ts)
      by true = refl
      by false = refl

  pub touch_step : (old new whole : List Oid) (ts : List (ℕ × Oid × ℕ)) (i : ℕ) (d : ℕ × Oid × ℕ) → i < length ts
      → AreSame new (old ++ seen_touch sight (get_or ts i d)) → AreSame (old ++ seen_in (drop i ts)) whole → AreSame (new ++ seen_in (drop (i + 1) ts)) whole
  touch_step old new whole ts i d within next so_far o =
      let t = get_or ts i d in
      same_behind new (old ++ seen_touch sight t) (seen_in (drop (i + 1) ts)) next o
      ∙ ap (is_among o) (append_assoc old (seen_touch sight t) (seen_in (drop (i + 1) ts)) ∙ ap (λ (l : List Oid). old ++ l) (seen_first t (drop (i + 1) ts)
      ∙ ap seen_in (sym (front_at ts i d within))))
      ∙ so_far o

  pub touch_end : (now whole : List Oid) (ts : List (ℕ × Oid × ℕ)) (i : ℕ) → length ts ≤ i → AreSame (now ++ seen_in (drop i ts)) whole → AreSame now whole
  touch_end now whole ts i past so_far o = ap (is_among o) (sym (ap (λ (l : List (ℕ × Oid × ℕ)). now ++ seen_in l) (past_end ts i past) ∙ append-nil now)) ∙ so_far o

  behind_same : (os ps : List Oid) (x : Note) → AreSame os ps → AreSame (seen_behind sight os x) (seen_behind sight ps x)
  behind_same os ps (note.Begun t request) h o = refl
  behind_same os ps (note.Need t site p cached touches downs) h o = same_behind os ps (seen_in touches) h o
  behind_same os ps (note.Ended t value touches downs writes creates) h o = same_behind os ps (seen_in touches) h o
  behind_same os ps (note.Failed t touches downs) h o = same_behind os ps (seen_in touches) h o
  behind_same os ps (note.Stopped t stop touches downs) h o = same_behind os ps (seen_in touches) h o
  behind_same os ps (note.Decided t request commit answers) h o = h o
  behind_same os ps (note.Applied t) h o = h o
  behind_same os ps (note.Voted t to answer) h o = h o
  behind_same os ps (note.Closed request outcome) h o = h o

  pub fold_same : (os ps : List Oid) (xs : List Note) → AreSame os ps → AreSame (fold (seen_behind sight) os xs) (fold (seen_behind sight) ps xs)
  fold_same os ps [] h = h
  fold_same os ps (x ∷ xs) h = fold_same (seen_behind sight os x) (seen_behind sight ps x) xs (behind_same os ps x h)

  pub note_step : (old new whole : List Oid) (xs : List Note) (i : ℕ) (x : Note) → i < length xs → x ≡ get_or xs i x → AreSame new (seen_behind sight old x)
      → AreSame (fold (seen_behind sight) old (drop i xs)) whole → AreSame (fold (seen_behind sight) new (drop (i + 1) xs)) whole
  note_step old new whole xs i x within is next so_far o =
      fold_same new (seen_behind sight old x) (drop (i + 1) xs) next o ∙ ap (λ (l : List Note). is_among o (fold (seen_behind sight) old l)) (sym (front xs i x within is)) ∙ so_far o

  pub note_end : (now whole : List Oid) (xs : List Note) (i : ℕ) → length xs ≤ i → AreSame (fold (seen_behind sight) now (drop i xs)) whole → AreSame now whole
  note_end now whole xs i past so_far o = ap (λ (l : List Note). is_among o (fold (seen_behind sight) now l)) (sym (past_end xs i past)) ∙ so_far o
