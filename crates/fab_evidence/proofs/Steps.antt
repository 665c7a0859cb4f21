-- Journals are read one after the other: what one step says of the bytes, and of those behind it.
use Rattle.std.proofs.Common.{◌≡◌, ℕ, ◌==◌, ◌<◌, ◌||◌, if◌then◌else◌, Bool, true, false, List, [], ◌∷◌, ◌++◌, length, Ok, Err, refl, sym, ap, subst, ◌∙◌, append_assoc, length-append, arith, inl, inr, ◌⊎◌}
use Rattle.std.proofs.lemmas.Bool.{eqb-true}
use Rattle.std.proofs.lemmas.List.{append-nil}
use Rattle.std.specs.List.{list_any}
use Rattle.std.specs.Prelude.{codes}
use Rattle.fab_tree.specs.declared.resolved.Resolved.{Resolved}
use Rattle.fab_language.specs.Words.{hex, node_text}
use Rattle.fab_wire.specs.Reading.{Fails}
use Rattle.fab_wire.specs.declared.stop.Stop.{Stop}
use Rattle.fab_wire.specs.declared.stop.Stop.TheVariants as stops
use Rattle.fab_wire.proofs.ReaderLaws.{IsBytes, IsBytes-rest, Reads, Stops, both_reads, made_reads, one_reading}
use Rattle.fab_reports.specs.Lines.{AreBytes}
use Rattle.fab_reports.proofs.FieldLaws.{bytes_before_reads, line_ends}
use Rattle.fab_reports.proofs.Given.{IsIn, eqb-refl, exact_reads, kind_reads, small_bytes}
use Rattle.fab_evidence.specs.declared.shown.ShownJournal.{ShownJournal}
use Rattle.fab_evidence.specs.Reading.{AnswersJournals, AreJournals, AreNamed, AreNone, journal_at, name_before}
use Rattle.fab_evidence.specs.Texts.{AreOf, behind, journal_line, journals_text}
use Rattle.fab_evidence.proofs.Names.{name_bytes, names_apart}

-- ---- one journal

joined : (a b : List ℕ) → (a ++ (32 ∷ (b ++ []))) ++ 10 ∷ [] ≡ (a ++ 32 ∷ []) ++ (b ++ 10 ∷ [])
joined a b =
    append_assoc a (32 ∷ (b ++ [])) (10 ∷ []) ∙ ap (λ (x : List ℕ). a ++ (32 ∷ (x ++ 10 ∷ []))) (append-nil b) ∙ sym (append_assoc a (32 ∷ []) (b ++ 10 ∷ []))

among_in : (n : ℕ) (nodes : List ℕ) → IsIn n nodes → list_any (λ m. m == n) nodes ≡ true
among_in n [] i = absurd i
among_in n (m ∷ ms) (inl same) = rw (ap (λ (k : ℕ). m == k) same ∙ eqb-refl m) refl
among_in n (m ∷ ms) (inr i) = by (among_in n ms i) (m == n)
  where
    by : list_any (λ k. k == n) ms ≡ true → (t : Bool) → (t || list_any (λ k. k == n) ms) ≡ true
    by later true = refl
    by later false = later

pub in_among : (n : ℕ) (nodes : List ℕ) → list_any (λ m. m == n) nodes ≡ true → IsIn n nodes
in_among n [] h = absurd cc
in_among n (m ∷ ms) h = by (λ g. in_among n ms g) (m == n) refl h
  where
    by : (list_any (λ k. k == n) ms ≡ true → IsIn n ms) → (t : Bool) → (m == n) ≡ t → (t || list_any (λ k. k == n) ms) ≡ true → (n ≡ m) ⊎ IsIn n ms
    by later true e g = inl (sym (eqb-true m n e))
    by later false e g = inr (later g)

module _ (r : Resolved) where
  -- a journal that may come first of these nodes
  abbrev pub IsFirst : List ℕ → ShownJournal → Type 0
  IsFirst nodes journal = (list_any (λ n. n == journal.node) nodes ≡ true) × AreBytes journal.bytes

  spelled : (journal : ShownJournal) → journal_line r journal ≡ codes "journal " ++ (name_before r journal.node ++ (hex journal.bytes ++ 10 ∷ []))
  spelled journal = ap (λ (x : List ℕ). codes "journal " ++ x) (joined (node_text r journal.node) (hex journal.bytes))

  pub journal_reads : (nodes : List ℕ) (n : ℕ) → IsIn n nodes → AreNamed r nodes → Reads (journal_at r nodes) (journal_line r) (IsFirst nodes)
  unfolding journal_at
  journal_reads nodes n some named =
      made_reads (λ p. record { node = p.1.0; bytes = p.1.1 }) (journal_line r) (IsFirst nodes)
      (both_reads (exact_reads (codes "journal ") (small_bytes (codes "journal ") refl))
      (both_reads (kind_reads (name_before r) nodes (names_apart r nodes named) (name_bytes r nodes named) n some) (bytes_before_reads 10 line_ends)))
      (λ p fp. (
        spelled (record { node = p.1.0; bytes = p.1.1 }) ∙ ap (λ (x : List ℕ). x ++ (name_before r p.1.0 ++ (hex p.1.1 ++ 10 ∷ []))) (sym fp.0),
        (among_in p.1.0 nodes fp.1.0, fp.1.1),
      ))
      (λ journal fits. ((codes "journal ", (journal.node, journal.bytes)), (refl, (in_among journal.node nodes fits.0, fits.1)), refl))

  pub line_long : (journal : ShownJournal) → 0 < length (journal_line r journal)
  line_long journal = omega arith

  -- ---- one step

  abbrev text : List ShownJournal → List ℕ
  text journals = journals_text r journals

  module _ (nodes bytes after : List ℕ) (journal : ShownJournal) (n : ℕ) (some : IsIn n nodes) (named : AreNamed r nodes) (are_bytes : IsBytes bytes)
      (is : journal_at r nodes bytes ≡ Ok (journal, after)) where
    reads : Reads (journal_at r nodes) (journal_line r) (IsFirst nodes)
    reads = journal_reads nodes n some named

    abbrev nodes_left : List ℕ
    nodes_left = behind journal.node nodes

    found : (bytes ≡ journal_line r journal ++ after) × IsFirst nodes journal
    found = reads.found bytes journal after are_bytes is

    pub bytes_after : IsBytes after
    bytes_after = IsBytes-rest (journal_line r journal) after (subst IsBytes found.0 are_bytes)

    pub shorter : length after < length bytes
    shorter = omega (arith, ap length found.0, length-append (journal_line r journal) after, line_long journal)

    -- what goes on behind it, goes on in all
    with_first : (first second : List ℕ) (journals : List ShownJournal) → first ≡ journal_line r journal ++ second → AreJournals r nodes_left second journals
        → AreJournals r nodes first (journal ∷ journals)
    with_first first second journals cut h = record { order = (found.1.0, found.1.1, h.order); spelled = cut ∙ ap (λ (x : List ℕ). journal_line r journal ++ x) h.spelled }

    pub on_more : (journals : List ShownJournal) → AreJournals r nodes_left after journals → AreJournals r nodes bytes (journal ∷ journals)
    on_more journals h = with_first bytes after journals found.0 h

    -- whatever begins with the line of the journal has it first
    without_first : (second : List ℕ) (journals : List ShownJournal) → AreJournals r nodes (journal_line r journal ++ second) journals
        → (others : List ShownJournal) × (journals ≡ journal ∷ others) × AreJournals r nodes_left second others
    without_first second [] h = let long = line_long journal in absurd (omega (arith, ap length h.spelled, length-append (journal_line r journal) second))
    without_first second (x ∷ xs) h =
        let one = one_reading reads journal x second (text xs) found.1 (h.order.0, h.order.1) h.spelled in (
          xs,
          ap (λ (y : ShownJournal). y ∷ xs) (sym one.0),
          record { order = subst (λ (y : ShownJournal). AreOf (behind y.node nodes) xs) (sym one.0) h.order.2; spelled = one.1 },
        )

    pub on_only : (journals : List ShownJournal) → AreJournals r nodes bytes journals
        → (others : List ShownJournal) × (journals ≡ journal ∷ others) × AreJournals r nodes_left after others
    on_only journals h = without_first after journals (record { order = h.order; spelled = sym found.0 ∙ h.spelled })

    -- where none goes on behind it, none is in all
    pub on_none : (k : ℕ) → AreNone r nodes_left after k → AreNone r nodes bytes k
    on_none k h = record {
      front = journal_line r journal ++ h.front;
      back = h.back;
      cut = found.0 ∙ ap (λ (x : List ℕ). journal_line r journal ++ x) h.cut ∙ sym (append_assoc (journal_line r journal) h.front h.back);
      left_is = h.left_is;
      next = journal ∷ h.next;
      more = h.more;
      begins = with_first ((journal_line r journal ++ h.front) ++ h.more) (h.front ++ h.more) h.next (append_assoc (journal_line r journal) h.front h.more) h.begins;
      bad = λ b rest tail journals eb g.
          let f = without_first (h.front ++ b ∷ tail) journals (record { order = g.order; spelled = sym (append_assoc (journal_line r journal) h.front (b ∷ tail)) ∙ g.spelled }) in
          h.bad b rest tail f.0 eb f.2;
      unread = λ journals g. let f = on_only journals g in h.unread f.0 f.2;
    }

  -- ---- where it stops

  pub wrong : (nodes bytes : List ℕ) (n : ℕ) → IsIn n nodes → AreNamed r nodes → IsBytes bytes → 0 < length bytes → (k : ℕ) → journal_at r nodes bytes ≡ Err k → AreNone r nodes bytes k
  wrong nodes bytes n some named are_bytes long k e =
      let reads = journal_reads nodes n some named in
      let s = reads.stops bytes k are_bytes e in
      record {
        front = s.front;
        back = s.back;
        cut = s.cut;
        left_is = s.left_is;
        next = s.next ∷ [];
        more = s.more;
        begins = record { order = (s.next_fits.0, s.next_fits.1, tt); spelled = sym s.begins ∙ sym (append-nil (journal_line r s.next)) };
        bad = λ b rest tail journals eb g. bad_one s b rest tail journals eb g;
        unread = λ journals g. unread_one reads journals g;
      }
    where
      bad_one : (s : Stops (journal_line r) (IsFirst nodes) bytes k) (b : ℕ) (rest tail : List ℕ) (journals : List ShownJournal) → s.back ≡ b ∷ rest
          → AreJournals r nodes (s.front ++ b ∷ tail) journals → ⊥
      bad_one s b rest tail [] eb g = omega (arith, ap length g.spelled, length-append s.front (b ∷ tail))
      bad_one s b rest tail (x ∷ xs) eb g = s.bad b rest tail eb x (text xs) (g.order.0, g.order.1) (sym g.spelled)

      unread_one : Reads (journal_at r nodes) (journal_line r) (IsFirst nodes) → (journals : List ShownJournal) → AreJournals r nodes bytes journals → ⊥
      unread_one reads [] g = omega (arith, ap length g.spelled)
      unread_one reads (x ∷ xs) g =
          let again : journal_at r nodes (journal_line r x ++ text xs) ≡ Ok (x, text xs) = reads.again x (text xs) (g.order.0, g.order.1) in
          let same : journal_at r nodes bytes ≡ Ok (x, text xs) = ap (journal_at r nodes) g.spelled ∙ again in
          cc

  -- of no node there is none
  pub no_node : (bytes : List ℕ) → 0 < length bytes → AreNone r [] bytes (length bytes)
  no_node bytes long = record {
    front = [];
    back = bytes;
    cut = refl;
    left_is = refl;
    next = [];
    more = [];
    begins = record { order = tt; spelled = refl };
    bad = λ b rest tail journals eb g. none (b ∷ tail) (omega arith) journals g;
    unread = λ journals g. none bytes long journals g;
  }
    where
      none : (all : List ℕ) → 0 < length all → (journals : List ShownJournal) → AreJournals r [] all journals → ⊥
      none all some [] g = omega (arith, ap length g.spelled)
      none all some (x ∷ xs) g = let found : false ≡ true = g.order.0 in cc

  -- ---- so many steps

  pub record Goes (nodes bytes left rest : List ℕ) (done : List ShownJournal) : Type 0 where
    pub named : AreNamed r left
    pub are_bytes : IsBytes rest
    pub more : (journals : List ShownJournal) → AreJournals r left rest journals → AreJournals r nodes bytes (done ++ journals)
    pub only : (journals : List ShownJournal) → AreJournals r nodes bytes journals → (others : List ShownJournal) × (journals ≡ done ++ others) × AreJournals r left rest others
    pub none : (k : ℕ) → AreNone r left rest k → AreNone r nodes bytes k

  pub at_first : (nodes bytes : List ℕ) → AreNamed r nodes → IsBytes bytes → Goes nodes bytes nodes bytes []
  at_first nodes bytes named are_bytes = record {
    named = named;
    are_bytes = are_bytes;
    more = λ journals h. h;
    only = λ journals h. (journals, refl, h);
    none = λ k h. h;
  }

  pub named_behind : (n : ℕ) (nodes : List ℕ) → AreNamed r nodes → AreNamed r (behind n nodes)
  named_behind n [] named = tt
  named_behind n (m ∷ ms) named = by (named_behind n ms named.2) (m == n)
    where
      by : AreNamed r (behind n ms) → (t : Bool) → AreNamed r (if t then ms else behind n ms)
      by later true = named.2
      by later false = later

  pub goes_on : (nodes bytes left rest after : List ℕ) (done : List ShownJournal) (journal : ShownJournal) (n : ℕ) → IsIn n left → journal_at r left rest ≡ Ok (journal, after)
      → Goes nodes bytes left rest done → Goes nodes bytes (behind journal.node left) after (done ++ journal ∷ [])
  goes_on nodes bytes left rest after done journal n some is h = record {
    named = named_behind journal.node left h.named;
    are_bytes = bytes_after left rest after journal n some h.named h.are_bytes is;
    more = λ journals g.
        subst (λ (xs : List ShownJournal). AreJournals r nodes bytes xs) (sym (append_assoc done (journal ∷ []) journals))
        (h.more (journal ∷ journals) (on_more left rest after journal n some h.named h.are_bytes is journals g));
    only = λ journals g.
        let one = h.only journals g in
        let two = on_only left rest after journal n some h.named h.are_bytes is one.0 one.2 in
        (two.0, one.1 ∙ ap (λ (xs : List ShownJournal). done ++ xs) two.1 ∙ sym (append_assoc done (journal ∷ []) two.0), two.2);
    none = λ k g. h.none k (on_none left rest after journal n some h.named h.are_bytes is k g);
  }

  pub smaller : (nodes bytes left rest after : List ℕ) (done : List ShownJournal) (journal : ShownJournal) (n : ℕ) → IsIn n left → journal_at r left rest ≡ Ok (journal, after)
      → Goes nodes bytes left rest done → length after < length rest
  smaller nodes bytes left rest after done journal n some is h = shorter left rest after journal n some h.named h.are_bytes is

  -- ---- the end

  nothing_left : (left rest : List ℕ) → rest ≡ [] → (journals : List ShownJournal) → AreJournals r left rest journals → journals ≡ []
  nothing_left left rest e [] h = refl
  nothing_left left rest e (x ∷ xs) h =
      let long = line_long x in
      absurd (omega (arith, ap length e, ap length h.spelled, length-append (journal_line r x) (text xs)))

  pub ended : (nodes bytes left rest : List ℕ) (done : List ShownJournal) → Goes nodes bytes left rest done → rest ≡ [] → AnswersJournals r nodes bytes (Ok done)
  ended nodes bytes left rest done h e = (
    subst (λ (xs : List ShownJournal). AreJournals r nodes bytes xs) (append-nil done) (h.more [] (record { order = tt; spelled = e })),
    λ others g.
        let one = h.only others g in
        one.1 ∙ ap (λ (xs : List ShownJournal). done ++ xs) (nothing_left left rest e one.0 one.2) ∙ append-nil done,
  )

  pub stopped : (stop : Stop) (nodes bytes left rest : List ℕ) (done : List ShownJournal) (n : ℕ) → IsIn n left → Goes nodes bytes left rest done → 0 < length rest
      → Fails stop (journal_at r left rest) → AnswersJournals r nodes bytes (Err stop)
  stopped stops.Memory nodes bytes left rest done n some h long e = tt
  stopped (stops.Bad k) nodes bytes left rest done n some h long e = h.none k (wrong left rest n some h.named h.are_bytes long k e)

  pub no_more : (nodes bytes left rest : List ℕ) (done : List ShownJournal) → Goes nodes bytes left rest done → left ≡ [] → 0 < length rest
      → AnswersJournals r nodes bytes (Err (stops.Bad (length rest)))
  no_more nodes bytes left rest done h none_left long =
      h.none (length rest) (subst (λ (ns : List ℕ). AreNone r ns rest (length rest)) (sym none_left) (no_node rest long))

pub first_in : (nodes : List ℕ) → 0 < length nodes → (n : ℕ) × IsIn n nodes
first_in [] h = absurd (omega arith)
first_in (n ∷ ns) h = (n, inl refl)

pub some_length : {A : Type 0} (xs : List A) → (length xs == 0) ≡ false → 0 < length xs
some_length [] h = absurd cc
some_length (x ∷ xs) h = omega arith
