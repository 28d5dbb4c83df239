-- The generated script.
--     draw          the draw behind one
--     row_text      the row of the two draws behind one, as a command has it
--     piece         what stands in the script for a row, with its separator and the end of its batch
--     rows_from     for the rows that are left
--     generated     the script of so many rows from a seed
use Rattle.std.specs.Prelude.{ℕ, zero, suc, ◌+◌, ◌*◌, ◌/◌, ◌%◌, nat_eq, ◌||◌, if◌then◌else◌}
use Rattle.std.specs.Prelude.{List, [], ◌++◌, codes, decimal}

-- ---- the rows

abbrev pub draw : ℕ → ℕ
draw x = x * 16807 % 2147483647

-- the key is the first of the two draws modulo 100, and the value the second modulo 1000
abbrev pub row_text : ℕ → List ℕ
row_text x = codes "(" ++ (decimal (draw x % 100) ++ (codes "," ++ (decimal (draw (draw x) % 1000) ++ codes ")")))

-- ---- their commands, of 500 rows each and the last one of the rest

-- in front of row number r, from 0: the first row of a batch begins its command
abbrev pub front : ℕ → List ℕ
front r = if nat_eq (r % 500) 0 then codes "INSERT INTO BENCH VALUES " else codes ","

-- of batch number b, from 1
abbrev pub batch_end : ℕ → List ℕ
batch_end b = codes ";\nINSERT INTO BENCH_T SELECT K, V FROM BENCH_S;\n!tick " ++ (decimal (48000 * b) ++ codes "\n")

-- behind row number r, behind which so many rows are left: the last row of a batch ends it
abbrev pub back : ℕ → ℕ → List ℕ
back left r = if nat_eq left 0 || nat_eq (r % 500) 499 then batch_end (r / 500 + 1) else []

abbrev pub piece : ℕ → ℕ → ℕ → List ℕ
piece left r x = front r ++ (row_text x ++ back left r)

-- from row number r on, whose two draws are those behind x
abbrev pub rows_from : ℕ → ℕ → ℕ → List ℕ
rows_from zero r x = []
rows_from (suc left) r x = piece left r x ++ rows_from left (r + 1) (draw (draw x))

-- ---- the script

unfoldable pub opening : List ℕ
opening = codes "CREATE TABLE BENCH(K NUMBER, V NUMBER);\nCREATE STREAM BENCH_S ON TABLE BENCH;\nCREATE TABLE BENCH_T(K NUMBER, V NUMBER);\nCREATE DYNAMIC TABLE BENCH_D TARGET_LAG = '60 seconds' AS SELECT K, COUNT(*) AS N, SUM(V) AS TOTAL FROM BENCH_T GROUP BY K;\n"

unfoldable pub closing : List ℕ
closing = codes "SELECT COUNT(*) AS N, SUM(TOTAL) AS TOTAL FROM BENCH_D;\n"

abbrev pub generated : ℕ → ℕ → List ℕ
generated rows seed = opening ++ (rows_from rows 0 seed ++ closing)
