use Rattle.std.proofs.Common.{◌≡◌, true, false, length, sym, rules, option_map, ℕ, List, [], Err, ap}
use Rattle.wh_cursor.specs.declared.fault.ParseFault.{ParseFault}
use Rattle.wh_cursor.specs.Steps.{read_name}
use Rattle.wh_option_parse.specs.Alone.{is_alone}
use Rattle.wh_option_parse.specs.Read.{name_text_of}
use Rattle.wh_option_parse.proofs.NameTexts.{none_named, part_named, alone_named, name_found, name_none}
use Rattle.wh_option_parse.proofs.names.name_text.Goals as goal

pub returns-in_err-found-clause-none : goal.returns-in_err-found-clause-none
returns-in_err-found-clause-none c failed =
    let same = rw failed at c.from_residual.ensures.1 in
    none_named c.args.text.now (λ ts h. c.in_err-found.ensures.none
    (ap (λ (fault : ParseFault). Err fault) (sym same)) ts (rw c.as_bytes-bytes.ensures.value h))

pub returns-then-not-is_alone-clause-none : goal.returns-then-not-is_alone-clause-none
returns-then-not-is_alone-clause-none c failed =
    let part : is_alone (length c.args.text.now) c.in_ok-found.found.items ≡ false = search rules in
    let has = rw c.as_bytes-bytes.ensures.value at c.in_ok-found.ensures.found in
    part_named c.args.text.now c.in_ok-found.found.items has part

pub returns-clause-found : goal.returns-clause-found
returns-clause-found c =
    let whole : is_alone (length c.args.text.now) c.in_ok-found.found.items ≡ true = search rules in
    let has = rw c.as_bytes-bytes.ensures.value at c.in_ok-found.ensures.found in
    let read = alone_named c.args.text.now c.in_ok-found.found.items has whole in
    let at_words : read_name c.new-words.result ≡ option_map (λ (w : List ℕ). (w, [])) (name_text_of c.args.text.now) =
    search rules in
    name_found _ _ at_words c.name.result c.name.new.words c.name.ensures.reads

pub returns-clause-none : goal.returns-clause-none
returns-clause-none c failed =
    let whole : is_alone (length c.args.text.now) c.in_ok-found.found.items ≡ true = search rules in
    let has = rw c.as_bytes-bytes.ensures.value at c.in_ok-found.ensures.found in
    let read = alone_named c.args.text.now c.in_ok-found.found.items has whole in
    let at_words : read_name c.new-words.result ≡ option_map (λ (w : List ℕ). (w, [])) (name_text_of c.args.text.now) =
    search rules in
    name_none _ _ at_words c.name.result c.name.new.words c.name.ensures.reads failed
