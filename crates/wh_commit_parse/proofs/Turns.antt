-- The changes of a commit, one after the other: what is made stands before what is left.
--     more_made       one more change
--     all_made        nothing is left
--     not_made        the next one means nothing
use Rattle.std.proofs.Common.{◌≡◌, List, [], ◌∷◌, ◌++◌, Option, Some, None, option_map, refl, sym, ap, ◌∙◌}
use Rattle.std.proofs.Common.{append_assoc, append-nil}
use Rattle.wh_cursor.specs.declared.fault.ParseFault.{ParseFault}
use Rattle.wh_cursor.specs.declared.fault.ParseFault.TheVariants as faults
use Rattle.wh_cursor.specs.Gives.{Fails}
use Rattle.wh_state.specs.Commit.{Change, TextChange}
use Rattle.wh_commit_parse.specs.Meant.{change_meant, one_more, changes_meant}

abbrev pub behind : List Change → Option (List Change) → Option (List Change)
behind made left = option_map (λ cs. made ++ cs) left

behind_one : (made : List Change) (c : Change) (left : Option (List Change))
    → behind made (one_more (Some c) left) ≡ behind (made ++ c ∷ []) left
behind_one made c None = refl
behind_one made c (Some cs) = ap Some (sym (append_assoc made (c ∷ []) cs))

pub more_made : (whole : Option (List Change)) (made : List Change) (t : TextChange) (ts : List TextChange) (c : Change)
    → whole ≡ behind made (changes_meant (t ∷ ts)) → change_meant t ≡ Some c
    → whole ≡ behind (made ++ c ∷ []) (changes_meant ts)
more_made whole made t ts c so_far first =
    so_far ∙ ap (λ (o : Option Change). behind made (one_more o (changes_meant ts))) first
    ∙ behind_one made c (changes_meant ts)

pub all_made : (whole : Option (List Change)) (made : List Change) → whole ≡ behind made (changes_meant [])
    → whole ≡ Some made
all_made whole made so_far = so_far ∙ ap Some (append-nil made)

pub not_made : (whole : Option (List Change)) (made : List Change) (t : TextChange) (ts : List TextChange)
    (fault : ParseFault) → whole ≡ behind made (changes_meant (t ∷ ts)) → Fails fault (change_meant t)
    → Fails fault whole
not_made whole made t ts faults.SyntaxError so_far none =
    so_far ∙ ap (λ (o : Option Change). behind made (one_more o (changes_meant ts))) none
not_made whole made t ts faults.OutOfMemory so_far none = tt
