-- Partitions that are made in place of others, and of rows that are added.
--     made_all       both, one behind the other
--     made_for       as the machine says it
--     made_numbered  as wh_state has it: their numbers rise by one from the next on
use Rattle.std.proofs.Common.{◌≡◌, ℕ, ◌+◌, List, ◌++◌, length, ap, ◌∙◌}
use Rattle.wh_value.specs.Value.{Row}
use Rattle.wh_frame.specs.Partition.{Partition, numbered, cut}
use Rattle.wh_state.specs.Edits.{Edits, touched, by_rows, made_of, with_added, partitions_made}
pub use Rattle.wh_state.proofs.PartLaws.{made_numbered}
use Rattle.wh_version.proofs.Left.{lefts}

module _ (next next_row : ℕ) (added : List Row) (left made first more : List Partition) (behind : ℕ)
    (first_is : first ≡ left) (behind_is : behind ≡ next + length first)
    (more_is : more ≡ cut behind (numbered next_row added)) (made_is : made ≡ first ++ more) where
  pub made_all : made ≡ with_added next next_row added left
  made_all =
      made_is
      ∙ ap (λ l. first ++ l) (more_is ∙ ap (λ n. cut n (numbered next_row added)) behind_is)
      ∙ ap (λ l. l ++ cut (next + length l) (numbered next_row added)) first_is

pub made_for : (n next next_row : ℕ) (e : Edits) (found standing : List Partition) → n ≡ next
    → found ≡ touched e.rows standing
    → with_added n next_row e.added (made_of n (lefts e.rows (by_rows found)))
    ≡ partitions_made next next_row e standing
unfolding partitions_made
made_for n next next_row e found standing n_is found_is =
    λ i. with_added (n_is i) next_row e.added (made_of (n_is i) (lefts e.rows (by_rows (found_is i))))
