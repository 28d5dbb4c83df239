use Rattle.std.proofs.Common.{◌≡◌, ◌∙◌, ◌++◌, true, take, drop, sym, ap, append_assoc}
use Rattle.std.specs.List.{list_all}
use Rattle.std.proofs.lemmas.List.{take-append-drop}
use Rattle.wh_text.specs.Area.{is_plain}
use Rattle.wh_text.specs.ScriptPlace.{lines_at}
use Rattle.wh_text.specs.declared.area.Area.TheVariants as areas
use Rattle.wh_text.specs.declared.place.ScriptPlace.TheVariants.{Command}
use Rattle.wh_text.proofs.PlaceLaws.{plain_run}
use Rattle.wh_text.proofs.lines.take_plain.Goals as goal

pub returns-clause-same : goal.returns-clause-same
returns-clause-same c rest =
    let bytes = c.args.ahead.now.bytes in
    let text = c.args.text.now in
    let count = c.plain_len-count.result in
    let ahead = c.bytes-bytes.ensures in
    let all : list_all is_plain (take count bytes) ≡ true
    = ap (λ xs. list_all is_plain (take count xs)) (sym ahead) ∙ c.plain_len-count.ensures.plain in
    ap (λ t. lines_at (Command areas.Plain) t (c.skip.new.self.bytes ++ rest))
    (c.in-Ok.ensures.ok ∙ ap (λ xs. text ++ take count xs) ahead)
    ∙ ap (λ xs. lines_at (Command areas.Plain) (text ++ take count bytes) (xs ++ rest)) c.skip.ensures.bytes
    ∙ plain_run (take count bytes) text (drop count bytes ++ rest) all
    ∙ ap (λ xs. lines_at (Command areas.Plain) text xs)
    (sym (append_assoc (take count bytes) (drop count bytes) rest)
    ∙ ap (λ xs. xs ++ rest) (take-append-drop count bytes))
