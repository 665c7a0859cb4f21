-- Worked example: a text with every sign and every keyword.
use Rattle.std.proofs.Common.{ℕ, List, [], ◌∷◌, ◌++◌, codes, refl}
use Rattle.fab_base.specs.declared.token.Mark.{Mark}
use Rattle.fab_base.specs.declared.token.Mark.TheVariants as m
use Rattle.fab_base.specs.declared.token.Kind.TheVariants as k
use Rattle.fab_base.specs.declared.token.Token.{Token}
use Rattle.fab_base.specs.Tokens.{Lexes, over, blank, token}

abbrev mark : Mark → ℕ → ℕ → Token
mark x at end = record { kind = k.Fixed x; at = at; end = end }

abbrev all_marks : List ℕ
all_marks =
    codes "-> <- == != <= >= < > = + - * / ! & | ( ) { } , ; : . @"
    ++ codes " access actsfor after atomic authority begin cache class crash crashin declassify deliver else endorse fail"
    ++ codes " fails hostile idle if int keep label method new null post principal recover resume return returns root run"
    ++ codes " schedule session store to while worker"

abbrev all_tokens : List Token
all_tokens =
    mark m.Arrow 0 2 ∷ mark m.BackArrow 3 5 ∷ mark m.EqualEqual 6 8 ∷ mark m.NotEqual 9 11 ∷ mark m.LessEqual 12 14
    ∷ mark m.GreaterEqual 15 17 ∷ mark m.Less 18 19 ∷ mark m.Greater 20 21 ∷ mark m.Equal 22 23 ∷ mark m.Plus 24 25
    ∷ mark m.Minus 26 27 ∷ mark m.Star 28 29 ∷ mark m.Slash 30 31 ∷ mark m.Bang 32 33 ∷ mark m.And 34 35 ∷ mark m.Bar 36 37
    ∷ mark m.LeftParen 38 39 ∷ mark m.RightParen 40 41 ∷ mark m.LeftBrace 42 43 ∷ mark m.RightBrace 44 45 ∷ mark m.Comma 46 47
    ∷ mark m.Semicolon 48 49 ∷ mark m.Colon 50 51 ∷ mark m.Dot 52 53 ∷ mark m.At 54 55 ∷ mark m.Access 56 62 ∷ mark m.ActsFor 63 70
    ∷ mark m.After 71 76 ∷ mark m.Atomic 77 83 ∷ mark m.Authority 84 93 ∷ mark m.Begin 94 99 ∷ mark m.Cache 100 105
    ∷ mark m.Class 106 111 ∷ mark m.Crash 112 117 ∷ mark m.CrashIn 118 125 ∷ mark m.Declassify 126 136 ∷ mark m.Deliver 137 144
    ∷ mark m.Else 145 149 ∷ mark m.Endorse 150 157 ∷ mark m.Fail 158 162 ∷ mark m.Fails 163 168 ∷ mark m.Hostile 169 176
    ∷ mark m.Idle 177 181 ∷ mark m.If 182 184 ∷ mark m.Int 185 188 ∷ mark m.Keep 189 193 ∷ mark m.Label 194 199
    ∷ mark m.Method 200 206 ∷ mark m.New 207 210 ∷ mark m.Null 211 215 ∷ mark m.Post 216 220 ∷ mark m.Principal 221 230
    ∷ mark m.Recover 231 238 ∷ mark m.Resume 239 245 ∷ mark m.Return 246 252 ∷ mark m.Returns 253 260 ∷ mark m.Root 261 265
    ∷ mark m.Run 266 269 ∷ mark m.Schedule 270 278 ∷ mark m.Session 279 286 ∷ mark m.Store 287 292 ∷ mark m.To 293 295
    ∷ mark m.While 296 301 ∷ mark m.Worker 302 308 ∷ []

all_are_cut : Lexes 0 all_marks all_tokens
all_are_cut =
    token refl (blank refl (token refl (blank refl (token refl (blank refl (token refl (blank refl (token refl (blank refl (token refl (blank refl (
    token refl (blank refl (token refl (blank refl (token refl (blank refl (token refl (blank refl (token refl (blank refl (token refl (blank refl (
    token refl (blank refl (token refl (blank refl (token refl (blank refl (token refl (blank refl (token refl (blank refl (token refl (blank refl (
    token refl (blank refl (token refl (blank refl (token refl (blank refl (token refl (blank refl (token refl (blank refl (token refl (blank refl (
    token refl (blank refl (token refl (blank refl (token refl (blank refl (token refl (blank refl (token refl (blank refl (token refl (blank refl (
    token refl (blank refl (token refl (blank refl (token refl (blank refl (token refl (blank refl (token refl (blank refl (token refl (blank refl (
    token refl (blank refl (token refl (blank refl (token refl (blank refl (token refl (blank refl (token refl (blank refl (token refl (blank refl (
    token refl (blank refl (token refl (blank refl (token refl (blank refl (token refl (blank refl (token refl (blank refl (token refl (blank refl (
    token refl (blank refl (token refl (blank refl (token refl (blank refl (token refl (blank refl (token refl (blank refl (token refl (blank refl (
    token refl (blank refl (token refl (blank refl (token refl (blank refl (token refl (blank refl (token refl (blank refl (token refl (blank refl (
    token refl (blank refl (token refl (blank refl (token refl (blank refl (token refl over))))))))))))))))))))))))))))))))))))))))))))))))))))))))))))))))))))))))))))))))))))))))))))))))))))))))))))))))))))))))))))))
