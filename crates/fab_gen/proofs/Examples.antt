-- Worked examples of the text that is made up.
use Rattle.std.proofs.Common.{◌≡◌, ◌==◌, ◌++◌, false, refl, codes, length}
use Rattle.std.specs.Fmt.{digits}
use Rattle.fab_gen.specs.Generated.{account, balance, amount, root_line, request_line, generated_lines, generated_text}

-- ---- accounts

-- the third account of the fourth worker lies at the first store: 14 + 39 above 1000
third_account : root_line 0 3 2 ≡ codes "  root a3_2 : Account @ s0 (1053);"
unfolding digits account
third_account = refl

-- the balance begins anew behind 1099
last_hundred : root_line 92 0 1 ≡ codes "  root a0_1 : Account @ s1 (1099);"
unfolding digits account
last_hundred = refl

begins_anew : root_line 93 0 1 ≡ codes "  root a0_1 : Account @ s1 (1000);"
unfolding digits account
begins_anew = refl

-- a worker counts 13 and an account 7, and not the other way
not_exchanged : (balance 0 1 0 == 1007) ≡ false
not_exchanged = refl

-- ---- requests

-- the last account's is to the first
back_to_the_first : request_line 7 3 2 2 ≡ codes "    move(a2_2, a2_0, 1);"
unfolding digits account
back_to_the_first = refl

-- of one account, to itself
to_itself : request_line 8 1 1 0 ≡ codes "    move(a1_0, a1_0, 9);"
unfolding digits account
to_itself = refl

-- at the greatest number and size
greatest : request_line 4294967295 1000 3 999 ≡ codes "    move(a3_999, a3_0, 4);"
unfolding digits account
greatest = refl

never_nothing : (amount 0 9 == 0) ≡ false
never_nothing = refl

-- ---- the whole

-- 20 lines at the head, 12 accounts, four sessions of 3 requests and two lines more, and one at the end
as_many_lines : length (generated_lines 5 3) ≡ 53
as_many_lines = refl

smallest : generated_text 0 1 ≡
    codes "principal Bank;\nworker w0;\nworker w1;\nworker w2;\nworker w3;\nstore s0;\nstore s1;\n"
    ++ codes "w0 actsfor Bank;\nw1 actsfor Bank;\nw2 actsfor Bank;\nw3 actsfor Bank;\ns0 actsfor Bank;\ns1 actsfor Bank;\n"
    ++ codes "label T = {Bank ->; Bank <-};\nclass Account label T access T { int balance; }\n"
    ++ codes "method move(Account a : T, Account b : T, int n : T) begin T fails {\n  a.balance = a.balance - n;\n  b.balance = b.balance + n;\n}\nrun {\n"
    ++ codes "  root a0_0 : Account @ s0 (1000);\n  root a1_0 : Account @ s0 (1013);\n  root a2_0 : Account @ s0 (1026);\n  root a3_0 : Account @ s0 (1039);\n"
    ++ codes "  session w0 {\n    move(a0_0, a0_0, 1);\n  }\n"
    ++ codes "  session w1 {\n    move(a1_0, a1_0, 1);\n  }\n"
    ++ codes "  session w2 {\n    move(a2_0, a2_0, 1);\n  }\n"
    ++ codes "  session w3 {\n    move(a3_0, a3_0, 1);\n  }\n}\n"
unfolding digits account
smallest = refl
