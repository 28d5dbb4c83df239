-- Signs: what is read as one is one, and what is one is read.
use Rattle.std.proofs.Common.{◌≡◌, ℕ, Bool, true, false, ◌&&◌, ◌||◌, List, [], ◌∷◌, ◌++◌, Option, Some, None, refl, ap}
use Rattle.std.proofs.Common.{◌∙◌, subst, ◌==◌, eqb-true, arith}
use Rattle.std.proofs.lemmas.Bool.{and_parts}
use Rattle.std.proofs.lemmas.Bool.Decides.{nat_tests}
use Rattle.wh_grammar.specs.Token.{Sign, LParen, RParen, Comma, Dot, Star, Plus, Minus, Equal, Unequal, Less, AtMost}
use Rattle.wh_grammar.specs.Token.{Greater, AtLeast, Arrow, SignToken}
use Rattle.wh_grammar.specs.Lexing.{IsToken, signed, sign, other_unequal, sign_bytes, extends, begins_with, is_byte}
use Rattle.wh_lex.proofs.Standing.{by_test, Stands, or_false}
use Rattle.wh_lex.specs.Front.{single, double, sign_if, sign_front, front_of, front_behind, token}

none_begins : (bytes : List ℕ) → begins_with (λ b. false) bytes ≡ false
none_begins [] = refl
none_begins (b ∷ bytes) = refl

-- ---- two bytes

abbrev IsDouble : ℕ → ℕ → Option Sign → Type 0
IsDouble b c None = Unit {0}
IsDouble b c (Some s) = (bytes : List ℕ) → IsToken (b ∷ c ∷ bytes) (SignToken s) bytes

two : (b c x y : ℕ) → (b == x && c == y) ≡ true → (bytes : List ℕ) → b ∷ c ∷ bytes ≡ x ∷ y ∷ bytes
two b c x y h bytes =
    let both = and_parts (b == x) (c == y) h in
    ap (λ n. n ∷ c ∷ bytes) (eqb-true b x both.0) ∙ ap (λ n. x ∷ n ∷ bytes) (eqb-true c y both.1)

double-IsDouble : (b c : ℕ) → IsDouble b c (double b c)
double-IsDouble b c =
    by_test (IsDouble b c) (b == 60 && c == 61) _ _
    (λ h bytes. signed (sign AtMost (two b c 60 61 h bytes) (none_begins bytes) refl)) (λ _.
    by_test (IsDouble b c) (b == 60 && c == 62) _ _
    (λ h bytes. signed (sign Unequal (two b c 60 62 h bytes) (none_begins bytes) refl)) (λ _.
    by_test (IsDouble b c) (b == 62 && c == 61) _ _
    (λ h bytes. signed (sign AtLeast (two b c 62 61 h bytes) (none_begins bytes) refl)) (λ _.
    by_test (IsDouble b c) (b == 61 && c == 62) _ _
    (λ h bytes. signed (sign Arrow (two b c 61 62 h bytes) (none_begins bytes) refl)) (λ _.
    by_test (IsDouble b c) (b == 33 && c == 61) _ _
    (λ h bytes. signed (other_unequal (two b c 33 61 h bytes) refl)) (λ _. tt)))))

-- ---- one byte

abbrev IsSingle : ℕ → Option Sign → Type 0
IsSingle b None = Unit {0}
IsSingle b (Some s) = (bytes : List ℕ) → begins_with (extends s) bytes ≡ false → IsToken (b ∷ bytes) (SignToken s) bytes

one : (b x : ℕ) → (b == x) ≡ true → (bytes : List ℕ) → b ∷ bytes ≡ x ∷ bytes
one b x h bytes = ap (λ n. n ∷ bytes) (eqb-true b x h)

single-IsSingle : (b : ℕ) → IsSingle b (single b)
single-IsSingle b =
    by_test (IsSingle b) (b == 40) _ _ (λ h bytes stop. signed (sign LParen (one b 40 h bytes) stop refl)) (λ _.
    by_test (IsSingle b) (b == 41) _ _ (λ h bytes stop. signed (sign RParen (one b 41 h bytes) stop refl)) (λ _.
    by_test (IsSingle b) (b == 44) _ _ (λ h bytes stop. signed (sign Comma (one b 44 h bytes) stop refl)) (λ _.
    by_test (IsSingle b) (b == 46) _ _ (λ h bytes stop. signed (sign Dot (one b 46 h bytes) stop refl)) (λ _.
    by_test (IsSingle b) (b == 42) _ _ (λ h bytes stop. signed (sign Star (one b 42 h bytes) stop refl)) (λ _.
    by_test (IsSingle b) (b == 43) _ _ (λ h bytes stop. signed (sign Plus (one b 43 h bytes) stop refl)) (λ _.
    by_test (IsSingle b) (b == 45) _ _ (λ h bytes stop. signed (sign Minus (one b 45 h bytes) stop refl)) (λ _.
    by_test (IsSingle b) (b == 61) _ _ (λ h bytes stop. signed (sign Equal (one b 61 h bytes) stop refl)) (λ _.
    by_test (IsSingle b) (b == 60) _ _ (λ h bytes stop. signed (sign Less (one b 60 h bytes) stop refl)) (λ _.
    by_test (IsSingle b) (b == 62) _ _ (λ h bytes stop. signed (sign Greater (one b 62 h bytes) stop refl))
    (λ _. tt))))))))))

-- a sign of one byte, where two bytes are none and no comment
abbrev Stops : ℕ → Option Sign → Type 0
Stops c None = Unit {0}
Stops c (Some s) = extends s c ≡ false

no_arrow : (c : ℕ) (r : Bool) → (c == 62) ≡ r → double 61 c ≡ None → r ≡ false
no_arrow c true e h = absurd (let k = rw e at h in cc)
no_arrow c false e h = refl

no_longer : (c : ℕ) (r s : Bool) → (c == 61) ≡ r → (c == 62) ≡ s → double 60 c ≡ None → (r || s) ≡ false
no_longer c true s e f h = absurd (let k = rw e at h in cc)
no_longer c false true e f h = absurd (let k = rw (e, f) at h in cc)
no_longer c false false e f h = refl

no_at_least : (c : ℕ) (r : Bool) → (c == 61) ≡ r → double 62 c ≡ None → r ≡ false
no_at_least c true e h = absurd (let k = rw e at h in cc)
no_at_least c false e h = refl

no_comment : (b c : ℕ) → (b == 45) ≡ true → (b == 45 && is_byte 45 c) ≡ false → (c == 45) ≡ false
no_comment b c e h = grind (arith, nat_tests)

single-Stops : (b c : ℕ) → double b c ≡ None → (b == 45 && is_byte 45 c) ≡ false → Stops c (single b)
single-Stops b c none other =
    let at : (x : ℕ) → (b == x) ≡ true → double x c ≡ None =
    λ x h. subst (λ (n : ℕ). double n c ≡ None) (eqb-true b x h) none in
    by_test (Stops c) (b == 40) _ _ (λ _. refl) (λ _.
    by_test (Stops c) (b == 41) _ _ (λ _. refl) (λ _.
    by_test (Stops c) (b == 44) _ _ (λ _. refl) (λ _.
    by_test (Stops c) (b == 46) _ _ (λ _. refl) (λ _.
    by_test (Stops c) (b == 42) _ _ (λ _. refl) (λ _.
    by_test (Stops c) (b == 43) _ _ (λ _. refl) (λ _.
    by_test (Stops c) (b == 45) _ _ (λ h. no_comment b c h other) (λ _.
    by_test (Stops c) (b == 61) _ _ (λ h. no_arrow c _ refl (at 61 h)) (λ _.
    by_test (Stops c) (b == 60) _ _ (λ h. no_longer c _ _ refl refl (at 60 h)) (λ _.
    by_test (Stops c) (b == 62) _ _ (λ h. no_at_least c _ refl (at 62 h)) (λ _. tt))))))))))

-- ---- all of them

last_sign : (b : ℕ) (o : Option Sign) → IsSingle b o → Stands (b ∷ []) (sign_if o [] None)
last_sign b None h = tt
last_sign b (Some s) h = h [] refl

one_sign : (b c : ℕ) (bytes : List ℕ) (o : Option Sign) → IsSingle b o → Stops c o
    → Stands (b ∷ c ∷ bytes) (sign_if o (c ∷ bytes) None)
one_sign b c bytes None h stop = tt
one_sign b c bytes (Some s) h stop = h (c ∷ bytes) stop

either_sign : (b c : ℕ) (bytes : List ℕ) (o : Option Sign) → double b c ≡ o → IsDouble b c o
    → (b == 45 && is_byte 45 c) ≡ false
    → Stands (b ∷ c ∷ bytes) (sign_if o bytes (sign_if (single b) (c ∷ bytes) None))
either_sign b c bytes None e h other = one_sign b c bytes (single b) (single-IsSingle b) (single-Stops b c e other)
either_sign b c bytes (Some s) e h other = h bytes

pub sign-stands : (b : ℕ) (bytes : List ℕ) → (b == 45 && begins_with (is_byte 45) bytes) ≡ false
    → Stands (b ∷ bytes) (sign_front b bytes)
unfolding sign_front
sign-stands b [] other = last_sign b (single b) (single-IsSingle b)
sign-stands b (c ∷ bytes) other = either_sign b c bytes (double b c) refl (double-IsDouble b c) other

-- ---- what is a sign is read as one

abbrev ReadAs : Sign → List ℕ → Type 0
ReadAs s rest = front_of (sign_bytes s ++ rest) ≡ Some (token (SignToken s) rest)

sign_read : (s : Sign) (rest : List ℕ) → begins_with (extends s) rest ≡ false → ReadAs s rest
unfolding front_behind sign_front
sign_read Minus (c ∷ rest) h = let k : is_byte 45 c ≡ false = grind (arith, nat_tests) in rw k refl
sign_read Equal (c ∷ rest) h = rw h refl
sign_read Less (c ∷ rest) h = let both = or_false (c == 61) (c == 62) h in rw (both.0, both.1) refl
sign_read Greater (c ∷ rest) h = rw h refl
sign_read LParen [] h = refl
sign_read _ [] h = refl
sign_read _ (c ∷ rest) h = refl

pub sign_is_read : (s : Sign) (bytes rest : List ℕ) → bytes ≡ sign_bytes s ++ rest
    → begins_with (extends s) rest ≡ false
    → front_of bytes ≡ Some (token (SignToken s) rest)
sign_is_read s bytes rest e h = ap front_of e ∙ sign_read s rest h

pub unequal_is_read : (bytes rest : List ℕ) → bytes ≡ 33 ∷ 61 ∷ rest
    → front_of bytes ≡ Some (token (SignToken Unequal) rest)
unfolding front_behind sign_front
unequal_is_read bytes rest e = ap front_of e
