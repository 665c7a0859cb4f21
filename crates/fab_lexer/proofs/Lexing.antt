-- How far a text is cut into tokens.
use Rattle.std.proofs.Common.{◌≡◌, ℕ, ◌+◌, ◌-◌, ◌<◌, ◌≤◌, List, [], ◌∷◌, ◌++◌, length, take, drop, refl, sym, ap, ◌∙◌, subst, arith, append_assoc, append-nil, length-drop}
use Rattle.std.proofs.Math.ListN.{drop_of_length-le}
use Rattle.fab_base.specs.declared.token.Kind.{Kind}
use Rattle.fab_base.specs.declared.token.Token.{Token}
use Rattle.fab_base.specs.declared.token.Piece.{Piece}
use Rattle.fab_base.specs.declared.token.Piece.TheVariants as p
use Rattle.fab_base.specs.Tokens.{stands, unfit, front_at, Lexes, over, blank, token}
use Rattle.fab_lexer.specs.Cuts.{len_of, Cut, here, further, IsUncut}
use Rattle.fab_lexer.specs.Fronts.{shown}
use Rattle.fab_lexer.specs.declared.front.Front.{Front as FoundFront}
use Rattle.fab_lexer.specs.declared.front.Front.TheVariants as f
use Rattle.fab_lexer.proofs.PieceLemmas.{from_here, piece_takes, unfit_within}
use Rattle.fab_lexer.proofs.TokenLists.{behind, no_tokens_behind, one_list}

-- the tokens so far, and what is left
pub record Lexing (bytes : List ℕ) (found : List Token) (at : ℕ) : Type 0 where
  pub within : at ≤ length bytes
  pub cuts : (there : ℕ) → Cut at (drop at bytes) there → Cut 0 bytes there
  pub builds : (us : List Token) → Lexes at (drop at bytes) us → Lexes 0 bytes (found ++ us)

-- what a call found at the front of the slice from a place on
pub came : (bytes : List ℕ) (at : ℕ) {o : FoundFront} {x y : Piece} → shown o ≡ front_at (take (length bytes - at) (drop at bytes)) → o ≡ f.Stands x → x ≡ y → front_at (drop at bytes) ≡ stands y
came bytes at e h i = sym (ap front_at (from_here bytes at)) ∙ sym e ∙ ap shown h ∙ ap (λ z. stands z) i

pub came_none : (bytes : List ℕ) (at : ℕ) {o : FoundFront} {n : ℕ} → shown o ≡ front_at (take (length bytes - at) (drop at bytes)) → o ≡ f.Unfit n → front_at (drop at bytes) ≡ unfit n
came_none bytes at e h = sym (ap front_at (from_here bytes at)) ∙ sym e ∙ ap shown h

-- what is left is as long as it takes to be
fits : (bytes : List ℕ) (at : ℕ) (x : Piece) → at ≤ length bytes → front_at (drop at bytes) ≡ stands x → (at < at + len_of x) × (at + len_of x ≤ length bytes)
fits bytes at x h e = let t = piece_takes (drop at bytes) x e in (omega (arith, t.some), omega (arith, t.within, length-drop at bytes))

module _ {bytes : List ℕ} {found : List Token} {at : ℕ} where
  further_on : (x : Piece) → Lexing bytes found at → front_at (drop at bytes) ≡ stands x → (there : ℕ) → Cut (at + len_of x) (drop (at + len_of x) bytes) there → Cut 0 bytes there
  further_on x r e there d = r.cuts there (further e (subst (λ y. Cut (at + len_of x) y there) (sym (behind bytes at (len_of x))) d))

  pub after_blank : (n : ℕ) → Lexing bytes found at → front_at (drop at bytes) ≡ stands (p.Blank n) → Lexing bytes found (at + n)
  after_blank n r e = record {
    within = (fits bytes at (p.Blank n) r.within e).1;
    cuts = further_on (p.Blank n) r e;
    builds = λ us d. r.builds us (blank e (subst (λ x. Lexes (at + n) x us) (sym (behind bytes at n)) d));
  }

  pub after_token : (kind : Kind) (n end : ℕ) (new : List Token) → Lexing bytes found at → front_at (drop at bytes) ≡ stands (p.Spelled kind n) → end ≡ at + n → new ≡ found ++ (record { kind = kind; at = at; end = end } ∷ []) → Lexing bytes new end
  after_token kind n end new r e f push = subst (λ x. Lexing bytes new x) (sym f) (record {
    within = (fits bytes at (p.Spelled kind n) r.within e).1;
    cuts = further_on (p.Spelled kind n) r e;
    builds = λ us d. subst (λ x. Lexes 0 bytes x) (longer us) (r.builds (new_token ∷ us) (token e (subst (λ x. Lexes (at + n) x us) (sym (behind bytes at n)) d)));
  })
    where
      new_token : Token
      new_token = record { kind = kind; at = at; end = at + n }

      longer : (us : List Token) → found ++ (record { kind = kind; at = at; end = at + n } ∷ us) ≡ new ++ us
      longer us = subst (λ x. found ++ (record { kind = kind; at = at; end = x } ∷ us) ≡ new ++ us) f (sym (append_assoc found _ us) ∙ ap (λ z. z ++ us) (sym push))

  pub fitting_within : (n : ℕ) → Lexing bytes found at → front_at (drop at bytes) ≡ unfit n → at + n ≤ length bytes
  fitting_within n r e = let h = unfit_within (drop at bytes) n e in let w = r.within in omega (arith, h, w, length-drop at bytes)

  pub nothing_at : (n : ℕ) → Lexing bytes found at → at < length bytes → front_at (drop at bytes) ≡ unfit n → IsUncut bytes (at + n)
  nothing_at n r h e = record {
    place = at;
    fitting = n;
    inside = h;
    before = r.cuts at here;
    nothing = e;
    there = refl;
    within = fitting_within n r e;
    no_tokens = no_tokens_behind bytes at n h (r.cuts at here) e;
  }

  pub smaller : (x : Piece) → Lexing bytes found at → front_at (drop at bytes) ≡ stands x → (at < at + len_of x) × (at + len_of x ≤ length bytes)
  smaller x r e = fits bytes at x r.within e

-- the end of the text
pub all_read : {bytes : List ℕ} {found : List Token} {at : ℕ} → Lexing bytes found at → length bytes ≤ at → Lexes 0 bytes found
all_read {bytes = bytes} {found = found} {at = at} r h = subst (λ z. Lexes 0 bytes z) (append-nil found) (r.builds [] (subst (λ z. Lexes at z []) (sym (drop_of_length-le bytes h)) over))

pub only_tokens : {bytes : List ℕ} {found : List Token} {at : ℕ} → Lexing bytes found at → length bytes ≤ at → (us : List Token) → Lexes 0 bytes us → us ≡ found
only_tokens r h us d = one_list d (all_read r h)

-- each token takes a byte at least
pub lexed_len : {at : ℕ} {bytes : List ℕ} {ts : List Token} → Lexes at bytes ts → length ts ≤ length bytes
lexed_len over = omega arith
lexed_len (blank {len = n} {bytes = bytes} e d) = omega (arith, lexed_len d, length-drop n bytes)
lexed_len (token {len = n} {bytes = bytes} {kind = kind} e d) =
    let t = piece_takes bytes (p.Spelled kind n) e in
    omega (arith, lexed_len d, length-drop n bytes, t.some, t.within)
