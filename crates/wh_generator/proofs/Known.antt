-- Known values of the generated script, worked by hand.
--     known_draws      the first four draws of seed 1
--     known_script     the scripts of no row and of two rows
--     known_ends       in front of rows 0, 499 and 500, and behind rows 498 and 499, with and without rows left
use Rattle.std.proofs.Common.{◌≡◌, ◌++◌, [], codes, refl}
use Rattle.std.specs.Fmt.{digits}
use Rattle.wh_generator.specs.Generated.{draw, front, back, generated, opening, closing}

pub known_draws : (draw 1 ≡ 16807) × (draw 16807 ≡ 282475249) × (draw 282475249 ≡ 1622650073)
    × (draw 1622650073 ≡ 984943658)
known_draws = (refl, refl, refl, refl)

pub known_script : (generated 0 1 ≡ opening ++ closing) × (generated 2 1 ≡ opening
    ++ (codes "INSERT INTO BENCH VALUES (7,249),(73,658);\nINSERT INTO BENCH_T SELECT K, V FROM BENCH_S;\n!tick 48000\n"
    ++ closing))
unfolding digits
known_script = (refl, refl)

pub known_ends : (front 0 ≡ codes "INSERT INTO BENCH VALUES ") × (front 499 ≡ codes ",")
    × (front 500 ≡ codes "INSERT INTO BENCH VALUES ") × (back 1 498 ≡ [])
    × (back 1 499 ≡ codes ";\nINSERT INTO BENCH_T SELECT K, V FROM BENCH_S;\n!tick 48000\n")
    × (back 0 500 ≡ codes ";\nINSERT INTO BENCH_T SELECT K, V FROM BENCH_S;\n!tick 96000\n")
unfolding digits
known_ends = (refl, refl, refl, refl, refl, refl)
