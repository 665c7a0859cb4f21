-- Rings round a goal, and the walk inward through them.
use Rattle.std.proofs.Common.{◌≡◌, ℕ, zero, suc, ◌+◌, ◌-◌, ◌^◌, ◌<◌, ◌≤◌, true, false, ◌||◌, ◌&&◌, ◌⊎◌, ◌↔◌, List, [], ◌∷◌, ◌++◌, length, slice_index, inl, inr, refl, sym, ap, ◌∙◌, append-nil, subst, arith, lit<, IsTrue, bit_and, Contains, All}
use Rattle.std.specs.Int.{trailing_zeros, w64}
use Rattle.std.proofs.lemmas.Bool.{or_cases, or_left, or_right, and_parts, and_from, both_ways, cases_lt, cases_eq}
use Rattle.std.proofs.lemmas.List.{get_or_past, get_or_push, get_or_append_left}
use Rattle.std.proofs.lemmas.List.Elements.{All-contains}
use Rattle.fab_base.specs.Principals.{Delegations, Leads, IsChain, ActsFor, IsNoGreater, IsBestChain}
use Rattle.fab_principals.specs.Sets.{in_set, Meets}
use Rattle.fab_principals.specs.Tables.{IsTable, RowsLead, IsNear, AreRings, inward}
use Rattle.fab_principals.proofs.SetLemmas.{common-none, common-lowest}

-- who is near by one more step
pub IsNear-more : (rows : List ℕ) (q k x : ℕ) → IsNear rows q (k + 1) x ↔ (IsNear rows q k x ⊎ ((x < length rows) × ((y : ℕ) × IsTrue (in_set (slice_index rows x) y) × IsNear rows q k y)))
IsNear-more rows q k x = (
  λ near. split near.0 near.1 near.2,
  λ either. elim either [
    | inl old ↦ (old.0, old.1, omega (arith, old.2))
    | inr step ↦ (step.1.0 ∷ step.1.2.0, (step.0, step.1.1, step.1.2.1), omega (arith, step.1.2.2))
  ],
)
  where
    split : (rest : List ℕ) → RowsLead rows x rest q → length rest ≤ k + 1 → IsNear rows q k x ⊎ ((x < length rows) × ((y : ℕ) × IsTrue (in_set (slice_index rows x) y) × IsNear rows q k y))
    split [] lead short = inl ([], lead, omega arith)
    split (y ∷ rest) lead short = inr (lead.0, (y, lead.1, (rest, lead.2, omega arith)))

-- the next ring
pub ring_more : (rows : List ℕ) (q k near found wider : ℕ) → ((x : ℕ) → IsTrue (in_set near x) ↔ IsNear rows q k x) → ((x : ℕ) → IsTrue (in_set found x) ↔ ((x < length rows) × Meets (slice_index rows x) near))
    → ((x : ℕ) → in_set wider x ≡ (in_set near x || in_set found x)) → (x : ℕ) → IsTrue (in_set wider x) ↔ IsNear rows q (k + 1) x
ring_more rows q k near found wider newest sources either x =
    let more = IsNear-more rows q k x in (
      λ t. more.1 (elim (or_cases _ _ (sym (either x) ∙ t)) [
        | inl old ↦ inl ((newest x).0 old)
        | inr step ↦ let from = (sources x).0 step in inr (from.0, (from.1.0, from.1.1, (newest from.1.0).0 from.1.2))
      ]),
      λ h. either x ∙ elim (more.0 h) [
        | inl old ↦ or_left _ _ ((newest x).1 old)
        | inr step ↦ or_right _ _ ((sources x).1 (step.0, (step.1.0, step.1.1, (newest step.1.0).1 step.1.2)))
      ],
    )

-- where the next ring is the same, whoever has a way to q is in it
pub ring_whole : (rows : List ℕ) (q k near found wider : ℕ) → ((x : ℕ) → IsTrue (in_set near x) ↔ IsNear rows q k x) → ((x : ℕ) → IsTrue (in_set found x) ↔ ((x < length rows) × Meets (slice_index rows x) near))
    → ((x : ℕ) → in_set wider x ≡ (in_set near x || in_set found x)) → wider ≡ near → (p : ℕ) (rest : List ℕ) → RowsLead rows p rest q → IsTrue (in_set near p)
ring_whole rows q k near found wider newest sources either same p [] lead = (newest p).1 ([], lead, omega arith)
ring_whole rows q k near found wider newest sources either same p (x ∷ rest) lead =
    let further : IsTrue (in_set near x) = ring_whole rows q k near found wider newest sources either same x rest lead.2 in
    let step : IsTrue (in_set found p) = (sources p).1 (lead.0, (x, lead.1, further)) in
    ap (λ set. in_set set p) (sym same) ∙ either p ∙ or_right _ _ step

-- one more ring in the list
pub rings_push : (rows : List ℕ) (q : ℕ) (rings : List ℕ) (near : ℕ) → ((j x : ℕ) → j < length rings → IsTrue (in_set (slice_index rings j) x) ↔ IsNear rows q j x) → ((x : ℕ) → IsTrue (in_set near x) ↔ IsNear rows q (length rings) x)
    → (j x : ℕ) → j < length rings + 1 → IsTrue (in_set (slice_index (rings ++ near ∷ []) j) x) ↔ IsNear rows q j x
rings_push rows q rings near ring newest j x below = elim (cases_lt j (length rings)) [
  | inl inside ↦ rw (get_or_append_left rings (near ∷ []) 0 j inside) (ring j x inside)
  | inr past ↦
      let last : j ≡ length rings = omega arith in
      rw (last, get_or_push rings near 0 (length rings) refl) (newest x)
]

-- from outside the inner rings one step leads into the next one
pub AreRings-meets : (rows : List ℕ) (q : ℕ) (rings : List ℕ) (k p : ℕ) → AreRings rows q rings (suc k) p → (p < length rows) × Meets (slice_index rows p) (slice_index rings k)
AreRings-meets rows q rings k p rs = go rs.near.0 rs.near.1 rs.near.2
  where
    go : (rest : List ℕ) → RowsLead rows p rest q → length rest ≤ suc k → (p < length rows) × Meets (slice_index rows p) (slice_index rings k)
    go [] lead short = absurd (rs.far 0 (omega arith) ([], lead, omega arith))
    go (y ∷ rest) lead short = (lead.0, (y, lead.1, (rs.ring k y (omega arith)).1 (rest, lead.2, omega arith)))

pub AreRings-next : (rows : List ℕ) (q : ℕ) (rings : List ℕ) (k p next : ℕ) → AreRings rows q rings (suc k) p → IsTrue (in_set (slice_index rows p) next) → IsTrue (in_set (slice_index rings k) next) → AreRings rows q rings k next
AreRings-next rows q rings k p next rs step inner = record {
  ring = λ j x below. rs.ring j x (omega arith);
  far = λ j below near. rs.far (j + 1) (omega arith) ((IsNear-more rows q j p).1 (inr ((AreRings-meets rows q rings k p rs).0, (next, step, near))));
  near = (rs.ring k next (omega arith)).0 inner;
}

-- who isn't q has a step to go, and q has none
pub AreRings-away : (rows : List ℕ) (q : ℕ) (rings : List ℕ) (k p : ℕ) → AreRings rows q rings k p → (p ≡ q → ⊥) → 0 < k
AreRings-away rows q rings zero p rs away = absurd (away (here rs.near.0 rs.near.1 rs.near.2))
  where
    here : (rest : List ℕ) → RowsLead rows p rest q → length rest ≤ 0 → p ≡ q
    here [] lead short = lead
    here (x ∷ rest) lead short = absurd (omega arith)
AreRings-away rows q rings (suc k) p rs away = omega arith

pub AreRings-there : (rows : List ℕ) (q : ℕ) (rings : List ℕ) (k p : ℕ) → AreRings rows q rings k p → p ≡ q → k ≡ 0
AreRings-there rows q rings zero p rs there = refl
AreRings-there rows q rings (suc k) p rs there = absurd (rs.far 0 (omega arith) ([], there, omega arith))

-- a number of steps that isn't 0
pub AreRings-suc : (rows : List ℕ) (q : ℕ) (rings : List ℕ) (left p : ℕ) → 0 < left → AreRings rows q rings left p → AreRings rows q rings (suc (left - 1)) p
AreRings-suc rows q rings left p some rs = let e : left ≡ suc (left - 1) = omega arith in subst (λ (n : ℕ). AreRings rows q rings n p) e rs

pub inward-next : (rows rings : List ℕ) (left k p : ℕ) → left ≡ k + 1 → inward rows rings left p ≡ trailing_zeros w64 (bit_and (slice_index rows p) (slice_index rings k)) ∷ inward rows rings k (trailing_zeros w64 (bit_and (slice_index rows p) (slice_index rings k)))
inward-next rows rings zero k p e = absurd (omega arith)
inward-next rows rings (suc left) k p e =
    let same : left ≡ k = omega arith in
    ap (λ (m : ℕ). trailing_zeros w64 (bit_and (slice_index rows p) (slice_index rings m)) ∷ inward rows rings m (trailing_zeros w64 (bit_and (slice_index rows p) (slice_index rings m)))) same

-- what a walk inward is: a way to q, of k steps, and no other of k steps comes before it
pub record IsBestWay (rows : List ℕ) (q k p : ℕ) (way : List ℕ) : Type 0 where
  pub leads : RowsLead rows p way q
  pub steps : length way ≡ k
  pub least : (other : List ℕ) → RowsLead rows p other q → length other ≡ k → IsNoGreater way other

-- one step more, where each walk of k steps is best
best_more : (rows : List ℕ) (q : ℕ) (rings : List ℕ) (fits : (i : ℕ) → slice_index rows i < 2 ^ 64) (k p : ℕ) → AreRings rows q rings (suc k) p
    → ((next : ℕ) → AreRings rows q rings k next → IsBestWay rows q k next (inward rows rings k next)) → IsBestWay rows q (suc k) p (inward rows rings (suc k) p)
best_more rows q rings fits k p rs rest_best = record { leads = (meets.0, both.0, inner.leads); steps = ap suc inner.steps; least = least }
  where
    next : ℕ
    next = trailing_zeros w64 (bit_and (slice_index rows p) (slice_index rings k))

    meets : (p < length rows) × Meets (slice_index rows p) (slice_index rings k)
    meets = AreRings-meets rows q rings k p rs

    some : bit_and (slice_index rows p) (slice_index rings k) ≡ 0 → ⊥
    some e = both_ways _ (common-none _ _ e meets.1.0) (and_from _ _ meets.1.1 meets.1.2)

    lowest : ((in_set (slice_index rows p) next && in_set (slice_index rings k) next) ≡ true) × ((i : ℕ) → i < next → (in_set (slice_index rows p) i && in_set (slice_index rings k) i) ≡ false)
    lowest = common-lowest (slice_index rows p) (slice_index rings k) some (fits p)

    both : IsTrue (in_set (slice_index rows p) next) × IsTrue (in_set (slice_index rings k) next)
    both = and_parts _ _ lowest.0

    inner : IsBestWay rows q k next (inward rows rings k next)
    inner = rest_best next (AreRings-next rows q rings k p next rs both.0 both.1)

    least : (other : List ℕ) → RowsLead rows p other q → length other ≡ suc k → IsNoGreater (next ∷ inward rows rings k next) other
    least [] lead same = absurd (omega arith)
    least (y ∷ rest) lead same =
        let short : length rest ≡ k = omega arith in
        let in_ring : IsTrue (in_set (slice_index rings k) y) = (rs.ring k y (omega arith)).1 (rest, lead.2, omega arith) in
        let not_below : y < next → ⊥ = λ below. both_ways _ (lowest.1 y below) (and_from _ _ lead.1 in_ring) in
        elim (cases_eq next y) [
          | inl same_next ↦ inr (same_next, inner.least rest (subst (λ (w : ℕ). RowsLead rows w rest q) (sym same_next) lead.2) short)
          | inr other ↦ inl (elim (cases_lt next y) [ inl above ↦ above | inr below ↦ absurd (not_below (omega arith)) ])
        ]

pub inward-best : (rows : List ℕ) (q : ℕ) (rings : List ℕ) (fits : (i : ℕ) → slice_index rows i < 2 ^ 64) (k p : ℕ) → AreRings rows q rings k p → IsBestWay rows q k p (inward rows rings k p)
inward-best rows q rings fits zero p rs = record { leads = here rs.near.0 rs.near.1 rs.near.2; steps = refl; least = λ other lead same. tt }
  where
    here : (rest : List ℕ) → RowsLead rows p rest q → length rest ≤ 0 → p ≡ q
    here [] lead short = lead
    here (x ∷ rest) lead short = absurd (omega arith)
inward-best rows q rings fits (suc k) p rs = best_more rows q rings fits k p rs (λ next inner. inward-best rows q rings fits k next inner)

-- no way from p is shorter than k steps
pub AreRings-shortest : (rows : List ℕ) (q : ℕ) (rings : List ℕ) (k p : ℕ) → AreRings rows q rings k p → (other : List ℕ) → RowsLead rows p other q → k ≤ length other
AreRings-shortest rows q rings k p rs other lead = elim (cases_lt (length other) k) [ inl shorter ↦ absurd (rs.far (length other) shorter (other, lead, omega arith)) | inr enough ↦ enough ]

-- ways by declared pairs are ways over the rows of their table
pub Leads-rows : (rows : List ℕ) (n : ℕ) (pairs : List (ℕ × ℕ)) → IsTable rows n (λ p q. Contains pairs (p, q)) → All (λ d. (d.0 < n) × (d.1 < n)) pairs → (p : ℕ) (rest : List ℕ) (q : ℕ) → Leads pairs p rest q → RowsLead rows p rest q
Leads-rows rows n pairs table declared p [] q lead = lead
Leads-rows rows n pairs table declared p (x ∷ rest) q lead =
    let within : (p < n) × (x < n) = All-contains (λ d. (d.0 < n) × (d.1 < n)) pairs (p, x) declared lead.0 in
    (omega (arith, table.size), (table.bits p x within.0).1 lead.0, Leads-rows rows n pairs table declared x rest q lead.1)

pub rows-Leads : (rows : List ℕ) (n : ℕ) (pairs : List (ℕ × ℕ)) → IsTable rows n (λ p q. Contains pairs (p, q)) → (p : ℕ) (rest : List ℕ) (q : ℕ) → RowsLead rows p rest q → Leads pairs p rest q
rows-Leads rows n pairs table p [] q lead = lead
rows-Leads rows n pairs table p (x ∷ rest) q lead =
    let within : p < n = omega (arith, table.size, lead.0) in
    ((table.bits p x within).0 lead.1, rows-Leads rows n pairs table x rest q lead.2)

-- the walk is over where no step is left
pub walk_end : (rows rings xs ys : List ℕ) (left at : ℕ) → left ≡ 0 → xs ++ inward rows rings left at ≡ ys → xs ≡ ys
walk_end rows rings xs ys zero at e h = sym (append-nil xs) ∙ h
walk_end rows rings xs ys (suc left) at e h = absurd (omega arith)

-- the walk inward is the best chain
pub walk-best : (rows : List ℕ) (d : Delegations) (rings : List ℕ) (fits : (i : ℕ) → slice_index rows i < 2 ^ 64) → IsTable rows d.count (λ p q. Contains d.pairs (p, q)) → All (λ w. (w.0 < d.count) × (w.1 < d.count)) d.pairs
    → (k p q : ℕ) → AreRings rows q rings k p → (chain : List ℕ) → chain ≡ p ∷ inward rows rings k p → IsBestChain d p q chain
walk-best rows d rings fits table declared k p q rs chain walked = subst (λ (c : List ℕ). IsBestChain d p q c) (sym walked) (record { is_chain = (refl, rows-Leads rows d.count d.pairs table p way q best.leads); shortest = shortest; least = least })
  where
    way : List ℕ
    way = inward rows rings k p

    best : IsBestWay rows q k p way
    best = inward-best rows q rings fits k p rs

    shortest : (other : List ℕ) → IsChain d p q other → length (p ∷ way) ≤ length other
    shortest [] h = absurd h
    shortest (x ∷ rest) h = let enough : k ≤ length rest = AreRings-shortest rows q rings k p rs rest (Leads-rows rows d.count d.pairs table declared p rest q h.1) in omega (arith, best.steps)

    least : (other : List ℕ) → IsChain d p q other → length other ≡ length (p ∷ way) → IsNoGreater (p ∷ way) other
    least [] h same = absurd h
    least (x ∷ rest) h same = inr (sym h.0, best.least rest (Leads-rows rows d.count d.pairs table declared p rest q h.1) (omega (arith, best.steps)))

-- without a way over the rows there is no chain
pub no_chain : (rows : List ℕ) (d : Delegations) → IsTable rows d.count (λ p q. Contains d.pairs (p, q)) → All (λ w. (w.0 < d.count) × (w.1 < d.count)) d.pairs → (p q : ℕ) → ((rest : List ℕ) → RowsLead rows p rest q → ⊥) → ActsFor d p q → ⊥
no_chain rows d table declared p q none acts = go acts.0 acts.1
  where
    go : (chain : List ℕ) → IsChain d p q chain → ⊥
    go [] h = h
    go (x ∷ rest) h = none rest (Leads-rows rows d.count d.pairs table declared p rest q h.1)

-- what All says of a list of numbers holds past its end too, where 0 has it
pub rows_fit : (rows : List ℕ) → All (λ row. row < 2 ^ 64) rows → (i : ℕ) → slice_index rows i < 2 ^ 64
rows_fit rows fits i = elim (cases_lt i (length rows)) [ inl within ↦ fits i 0 within | inr past ↦ rw (get_or_past rows i 0 past) (lit< tt) ]
