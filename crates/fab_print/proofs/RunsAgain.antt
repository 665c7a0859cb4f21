-- What is printed for the run part is read again.
use Rattle.std.proofs.Common.{◌≡◌, ℕ, zero, suc, ◌+◌, ◌<◌, List, [], ◌∷◌, map, refl, sym, ap, subst, arith, add-one, false, Option}
use Rattle.std.specs.Prelude.{if◌then◌else◌, ◌==◌}
use Rattle.std.proofs.lemmas.Bool.Decides.{nat_tests}
use Rattle.fab_base.specs.declared.token.Mark.TheVariants as m
use Rattle.fab_base.specs.declared.token.Kind.TheVariants as k
use Rattle.fab_base.specs.declared.token.Token.{Token}
use Rattle.fab_tree.specs.declared.event.PostLine.{PostLine}
use Rattle.fab_tree.specs.declared.event.CrashLine.{CrashLine}
use Rattle.fab_tree.specs.declared.event.Step.{Step}
use Rattle.fab_tree.specs.declared.event.Event.{Event}
use Rattle.fab_tree.specs.declared.start.Given.{Given}
use Rattle.fab_tree.specs.declared.start.Root.{Root}
use Rattle.fab_tree.specs.declared.start.RequestText.{RequestText}
use Rattle.fab_tree.specs.declared.start.Session.{Session}
use Rattle.fab_tree.specs.Lists.{Is, is, name, IsNumeral, numeral, int, least_int, IsBytes, bytes, Repeated, Ended, ended, Perhaps, without, with_it}
use Rattle.fab_tree.specs.Runs.{IsNegated, IsLiteral, IsGiven, IsRoot, IsRequest, IsSession, IsPost, IsCrash, IsCache, IsStep, IsEvent, IsSchedule}
use Rattle.fab_tree.specs.Runs as r
use Rattle.fab_tree.specs.Print.{Ink, Inks, ◌>>◌, mark, space, line, indent, line_end}
use Rattle.fab_tree.specs.Print as print
use Rattle.fab_tree.specs.Unplaced as unplaced
use Rattle.fab_print.proofs.Inks.{free, word, sign, Clean, Well, Wells, Printed, Again, tokens, behind_it, well_name, behind_name, few, number_clean}
use Rattle.fab_print.proofs.ListsAgain.{repeated_again, separated_again}

pub given_again : (a b : List Token) (x : Given) → IsGiven a x b → Wells a → Printed IsGiven unplaced.given free word (λ y. print.literal y.literal) x b
given_again a b x (r.given (r.number (int (numeral {n} e h)))) w = record {
  rest = w.1;
  clean = λ more c. number_clean free more n h tt c;
  again = λ n0 more. record { tree = _; reads = r.given (r.number (int (numeral (few n h) h))); same = refl };
  steady = refl;
}
given_again a b x (r.given (r.negated i (r.negative (numeral {n = zero} e h)))) w = record {
  rest = (behind_it i w).1;
  clean = λ more c. (tt, omega arith, c);
  again = λ n0 more. record { tree = _; reads = r.given (r.number (int (numeral refl (omega arith)))); same = refl };
  steady = refl;
}
given_again a b x (r.given (r.negated i (r.negative (numeral {n = suc n} e h)))) w = record {
  rest = (behind_it i w).1;
  clean = λ more c. (tt, tt, number_clean sign more (n + 1) (omega arith) tt c);
  again = λ n0 more. record {
    tree = _;
    reads = r.given (r.negated (is refl) (r.negative (numeral (few (n + 1) (omega arith)) (omega arith))));
    same = rw add-one refl;
  };
  steady = refl;
}
given_again a b x (r.given (r.negated i (r.least (least_int e)))) w = record {
  rest = (behind_it i w).1;
  clean = λ more c. (tt, tt, (tt, tt, c));
  again = λ n0 more. record { tree = _; reads = r.given (r.negated (is refl) (r.least (least_int refl))); same = refl };
  steady = refl;
}
given_again a b x (r.given (r.null h)) w = record {
  rest = behind_it h w;
  clean = λ more c. (tt, tt, c);
  again = λ n0 more. record { tree = _; reads = r.given (r.null (is refl)); same = refl };
  steady = refl;
}
given_again a b x (r.given (r.root p)) w = record {
  rest = behind_name p w;
  clean = λ more c. (tt, well_name p w, c);
  again = λ n0 more. record { tree = _; reads = r.given (r.root (name refl)); same = refl };
  steady = refl;
}

pub root_again : (a b : List Token) (x : Root) → IsRoot a x b → Wells a → Printed IsRoot unplaced.root free free print.root x b
root_again a b x (r.root h p i q j s k v l o) w =
    let w1 = behind_it h w in
    let w2 = behind_it i (behind_name p w1) in
    let w3 = behind_it j (behind_name q w2) in
    let values = separated_again m.Comma tt given_again v (behind_it k (behind_name s w3)) in
    record {
      rest = behind_it o (behind_it l values.rest);
      clean = λ more c.
          (tt, (tt, tt, (tt, (tt, well_name p w1, (tt, (tt, tt, (tt, (tt, well_name q w2, (tt, (tt, tt, (tt, (tt, well_name s w3, (tt, (tt, tt, values.clean _ ((tt, tt, (tt, tt, (tt, c))))))))))))))))));
      again = λ n more.
          let one = values.again n _ in
          record { tree = _; reads = r.root (is refl) (name refl) (is refl) (name refl) (is refl) (name refl) (is refl) one.reads (is refl) (is refl); same = cc };
      steady = λ i.
          line 1 (mark m.Root >> space >> print.name x.name >> space >> mark m.Colon >> space >> print.name x.class >> space
          >> mark m.At >> space >> print.name x.store >> space >> print.in_brackets (values.steady i) >> mark m.Semicolon);
    }

pub request_again : (a b : List Token) (x : RequestText) → IsRequest a x b → Wells a → Printed IsRequest unplaced.request free free print.request x b
request_again a b x (r.request p h v l o) w =
    let values = separated_again m.Comma tt given_again v (behind_it h (behind_name p w)) in
    record {
      rest = behind_it o (behind_it l values.rest);
      clean = λ more c. (tt, (tt, well_name p w, (tt, tt, values.clean _ ((tt, tt, (tt, tt, (tt, c)))))));
      again = λ n more.
          let one = values.again n _ in
          record { tree = _; reads = r.request (name refl) (is refl) one.reads (is refl) (is refl); same = cc };
      steady = λ i. line 2 (print.name x.method >> print.in_brackets (values.steady i) >> mark m.Semicolon);
    }

pub session_again : (a b : List Token) (x : Session) → IsSession a x b → Wells a → Printed IsSession unplaced.session free free print.session x b
session_again a b x (r.session h p i v l) w =
    let w1 = behind_it h w in
    let requests = repeated_again request_again v (behind_it i (behind_name p w1)) in
    record {
      rest = behind_it l requests.rest;
      clean = λ more c. (tt, (tt, tt, (tt, (tt, well_name p w1, (tt, (tt, tt, (tt, requests.clean _ ((tt, (tt, tt, (tt, c)))))))))));
      again = λ n more.
          let one = requests.again n _ in
          record { tree = _; reads = r.session (is refl) (name refl) (is refl) one.reads (is refl); same = cc };
      steady = λ i.
          line 1 (mark m.Session >> space >> print.name x.worker >> space
          >> mark m.LeftBrace >> line_end >> requests.steady i >> indent 1 >> mark m.RightBrace);
    }

well_bytes : {a b : List Token} {x : List ℕ} → IsBytes a x b → Wells a → Well (k.Bytes x)
well_bytes (bytes e) w = subst Well e w.0

behind_bytes : {a b : List Token} {x : List ℕ} → IsBytes a x b → Wells a → Wells b
behind_bytes (bytes e) w = w.1

pub post_again : (a b : List Token) (x : PostLine) → IsPost a x b → Wells a → Printed IsPost unplaced.post free free print.post x b
post_again a b x (r.post h p i q v l) w =
    let w1 = behind_it h w in
    let w2 = behind_it i (behind_name p w1) in
    let w3 = behind_name q w2 in
    record {
      rest = behind_it l (behind_bytes v w3);
      clean = λ more c. (tt, (tt, tt, (tt, (tt, well_name p w1, (tt, (tt, tt, (tt, (tt, well_name q w2, (tt, (tt, well_bytes v w3, (tt, tt, (tt, c))))))))))));
      again = λ n more. record { tree = _; reads = r.post (is refl) (name refl) (is refl) (name refl) (bytes refl) (is refl); same = refl };
      steady = refl;
    }

keep_again : {a b : List Token} {x : Option ℕ} → Perhaps m.Keep IsNumeral a x b → Wells a → Printed (Perhaps m.Keep IsNumeral) (λ y. y) word word print.keep x b
keep_again without w = record {
  rest = w;
  clean = λ more c. c;
  again = λ n more. record { tree = _; reads = without; same = refl };
  steady = refl;
}
keep_again (with_it h (numeral {n} e i)) w = record {
  rest = (behind_it h w).1;
  clean = λ more c. (tt, (tt, tt, (tt, number_clean free more n i tt c)));
  again = λ n0 more. record { tree = _; reads = with_it (is refl) (numeral (few n i) i); same = refl };
  steady = refl;
}

pub crash_again : (a b : List Token) (x : CrashLine) → IsCrash a x b → Wells a → Printed IsCrash unplaced.crash free free print.crash x b
crash_again a b x (r.crash h p i (numeral {n} e f) v l) w =
    let w1 = behind_it h w in
    let w2 = behind_it i (behind_name p w1) in
    let keep = keep_again v w2.1 in
    record {
      rest = behind_it l keep.rest;
      clean = λ more c.
          (tt, (tt, tt, (tt, (tt, well_name p w1, (tt, (tt, tt, (tt, number_clean free (print.keep x.keep (mark m.Semicolon (line_end more))) n f tt (keep.clean _ (tt, tt, (tt, c))))))))));
      again = λ n0 more.
          let one = keep.again n0 _ in
          record { tree = _; reads = r.crash (is refl) (name refl) (is refl) (numeral (few n f) f) one.reads (is refl); same = cc };
      steady = refl;
    }

cache_shown : (n : ℕ) → print.cache (suc n) ≡ line 1 (mark m.Cache >> space >> print.number (suc n) >> mark m.Semicolon)
cache_shown n = let e : (suc n == 0) ≡ false = grind (arith, nat_tests) in ap (λ b. if b then print.nothing else line 1 (mark m.Cache >> space >> print.number (suc n) >> mark m.Semicolon)) e

cache_line : (b : List Token) (n : ℕ) → n < 2147483648 → Wells b → Printed IsCache (λ y. y) free free print.cache n b
cache_line b zero h w = record { rest = w; clean = λ more c. c; again = λ n more. record { tree = _; reads = r.no_cache; same = refl }; steady = refl }
cache_line b (suc n) h w = record {
  rest = w;
  clean = λ more c.
      let shown : Clean free (line 1 (mark m.Cache >> space >> print.number (suc n) >> mark m.Semicolon) more) =
      (tt, (tt, tt, (tt, number_clean free (mark m.Semicolon (line_end more)) (suc n) h tt (tt, tt, (tt, c))))) in
      subst (λ (x : Inks). Clean free (x more)) (sym (cache_shown n)) shown;
  again = λ n0 more.
      let shown : Again IsCache (λ y. y) (suc n) (tokens n0 (line 1 (mark m.Cache >> space >> print.number (suc n) >> mark m.Semicolon) more)) (tokens n0 more) =
      record { tree = _; reads = r.cache (is refl) (numeral (few (suc n) h) h) (is refl); same = refl } in
      subst (λ (x : Inks). Again IsCache (λ y. y) (suc n) (tokens n0 (x more)) (tokens n0 more)) (sym (cache_shown n)) shown;
  steady = refl;
}

pub cache_again : {a b : List Token} {n : ℕ} → IsCache a n b → Wells a → Printed IsCache (λ y. y) free free print.cache n b
cache_again r.no_cache w = cache_line _ 0 (omega arith) w
cache_again (r.cache h (numeral {n} e f) l) w = cache_line _ n f (behind_it l (behind_it h w).1)

step_again : {a b : List Token} {x : Step} → IsStep a x b → Wells a → Printed IsStep unplaced.step free word print.step x b
step_again (r.begin h p) w = record {
  rest = behind_name p (behind_it h w);
  clean = λ more c. (tt, tt, (tt, (tt, well_name p (behind_it h w), c)));
  again = λ n more. record { tree = _; reads = r.begin (is refl) (name refl); same = refl };
  steady = refl;
}
step_again (r.resume h p) w = record {
  rest = behind_name p (behind_it h w);
  clean = λ more c. (tt, tt, (tt, (tt, well_name p (behind_it h w), c)));
  again = λ n more. record { tree = _; reads = r.resume (is refl) (name refl); same = refl };
  steady = refl;
}
step_again (r.deliver h p q) w = record {
  rest = behind_name q (behind_name p (behind_it h w));
  clean = λ more c. (tt, tt, (tt, (tt, well_name p (behind_it h w), (tt, (tt, well_name q (behind_name p (behind_it h w)), c)))));
  again = λ n more. record { tree = _; reads = r.deliver (is refl) (name refl) (name refl); same = refl };
  steady = refl;
}
step_again (r.idle h p q) w = record {
  rest = behind_name q (behind_name p (behind_it h w));
  clean = λ more c. (tt, tt, (tt, (tt, well_name p (behind_it h w), (tt, (tt, well_name q (behind_name p (behind_it h w)), c)))));
  again = λ n more. record { tree = _; reads = r.idle (is refl) (name refl) (name refl); same = refl };
  steady = refl;
}
step_again (r.recover h p) w = record {
  rest = behind_name p (behind_it h w);
  clean = λ more c. (tt, tt, (tt, (tt, well_name p (behind_it h w), c)));
  again = λ n more. record { tree = _; reads = r.recover (is refl) (name refl); same = refl };
  steady = refl;
}

event_again : {a b : List Token} {x : Event} → IsEvent a x b → Wells a → Printed IsEvent unplaced.event free word print.event x b
event_again (r.step p) w =
    let one = step_again p w in
    record {
      rest = one.rest;
      clean = one.clean;
      again = λ n more.
          let two = one.again n more in
          record { tree = _; reads = r.step two.reads; same = cc };
      steady = one.steady;
    }
event_again (r.crash_in {x = y} h (numeral {n} e f) p) w =
    let one = step_again p (behind_it h w).1 in
    record {
      rest = one.rest;
      clean = λ more c. (tt, tt, (tt, number_clean free (space (print.step y more)) n f tt (tt, one.clean _ c)));
      again = λ n0 more.
          let two = one.again n0 more in
          record { tree = _; reads = r.crash_in (is refl) (numeral (few n f) f) two.reads; same = cc };
      steady = λ i. mark m.CrashIn >> space >> print.number n >> space >> one.steady i;
    }
event_again (r.post h p) w = record {
  rest = behind_name p (behind_it h w);
  clean = λ more c. (tt, tt, (tt, (tt, well_name p (behind_it h w), c)));
  again = λ n more. record { tree = _; reads = r.post (is refl) (name refl); same = refl };
  steady = refl;
}
event_again (r.crash h p) w = record {
  rest = behind_name p (behind_it h w);
  clean = λ more c. (tt, tt, (tt, (tt, well_name p (behind_it h w), c)));
  again = λ n more. record { tree = _; reads = r.crash (is refl) (name refl); same = refl };
  steady = refl;
}

-- an event in a line of its own
abbrev event_line : Event → Inks
event_line x = line 2 (print.event x >> mark m.Semicolon)

line_again : (a b : List Token) (x : Event) → Ended m.Semicolon IsEvent a x b → Wells a → Printed (Ended m.Semicolon IsEvent) unplaced.event free free event_line x b
line_again a b x (ended p h) w =
    let one = event_again p w in
    record {
      rest = behind_it h one.rest;
      clean = λ more c. (tt, one.clean _ (tt, tt, (tt, c)));
      again = λ n more.
          let two = one.again n _ in
          record { tree = _; reads = ended two.reads (is refl); same = two.same };
      steady = λ i. line 2 (one.steady i >> mark m.Semicolon);
    }

schedule_lines : (a b c : List Token) (xs : List Event) → Repeated (Ended m.Semicolon IsEvent) a xs b → Wells a → Is m.RightBrace b c → Printed IsSchedule (map unplaced.event) free free print.schedule xs c
schedule_lines a b c [] p w h =
    let lines = repeated_again line_again p w in
    record { rest = behind_it h lines.rest; clean = λ more c. c; again = λ n more. record { tree = []; reads = r.no_schedule; same = refl }; steady = refl }
schedule_lines a b c (x ∷ xs) p w h =
    let lines = repeated_again line_again p w in
    record {
      rest = behind_it h lines.rest;
      clean = λ more c. (tt, (tt, tt, (tt, (tt, tt, (tt, lines.clean _ ((tt, (tt, tt, (tt, c)))))))));
      again = λ n more.
          let one = lines.again n _ in
          record { tree = one.tree; reads = r.schedule (is refl) (is refl) one.reads (is refl); same = one.same };
      steady = λ i.
          line 1 (mark m.Schedule >> space >> mark m.LeftBrace >> line_end >> lines.steady i >> indent 1 >> mark m.RightBrace);
    }

pub schedule_again : {a b : List Token} {xs : List Event} → IsSchedule a xs b → Wells a → Printed IsSchedule (map unplaced.event) free free print.schedule xs b
schedule_again r.no_schedule w = record { rest = w; clean = λ more c. c; again = λ n more. record { tree = []; reads = r.no_schedule; same = refl }; steady = refl }
schedule_again (r.schedule h i p j) w = schedule_lines _ _ _ _ p (behind_it i (behind_it h w)) j
