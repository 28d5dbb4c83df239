use Rattle.std.proofs.Common.{◌≡◌, ◌<◌, length, rules, option_map}
use Rattle.wh_lex.specs.View.{token_of}
use Rattle.wh_lex.specs.Read.{read_tokens}
use Rattle.wh_lex.proofs.TokenLaws.{left-more, left-end, left-none, front-shorter, front-IsWithin, not_read}
use Rattle.wh_lex.proofs.ReadLaws.{tokens_read, none_read, gives_err}
use Rattle.wh_lex.proofs.lexing.tokens.Goals as goal

pub returns-then-is_empty-clause-found : goal.returns-then-is_empty-clause-found
returns-then-is_empty-clause-found c =
    let none : length c.fronts.rest.now ≡ 0 = search rules in
    left-end c.fronts.made.items c.fronts.rest.now c.args.text.now c.fronts.invariant none

pub returns-then-is_empty-clause-reads : goal.returns-then-is_empty-clause-reads
returns-then-is_empty-clause-reads c =
    let none : length c.fronts.rest.now ≡ 0 = search rules in
    (tokens_read c.args.text.now c.fronts.made.items).1
    (left-end c.fronts.made.items c.fronts.rest.now c.args.text.now c.fronts.invariant none)

pub returns-in_err-front-clause-reads : goal.returns-in_err-front-clause-reads
returns-in_err-front-clause-reads c =
    let long : 0 < length c.fronts.rest.now = search rules in
    let left = c.fronts.invariant in
    gives_err (λ ts. ts.items) c.from_residual-in_err-front.result c.in_err-front.field-0.0
    (read_tokens c.args.text.now) c.from_residual-in_err-front.ensures.0 c.from_residual-in_err-front.ensures.1
    (λ failed. none_read c.args.text.now (λ ts has.
    left-none c.fronts.made.items c.fronts.rest.now c.args.text.now ts left long
    (not_read _ c.in_err-front.field-0.0 failed c.in_err-front.ensures) has))

pub returns-in_err-front-clause-none : goal.returns-in_err-front-clause-none
returns-in_err-front-clause-none c failed vs has =
    let long : 0 < length c.fronts.rest.now = search rules in
    let same = rw failed at c.from_residual-in_err-front.ensures.1 in
    left-none c.fronts.made.items c.fronts.rest.now c.args.text.now vs c.fronts.invariant long
    (not_read _ c.in_err-front.field-0.0 same c.in_err-front.ensures) has

pub push_token-requires : goal.push_token-requires
push_token-requires c =
    front-IsWithin c.fronts.rest.now c.in_ok-front.front.token c.in_ok-front.front.rest.now c.in_ok-front.ensures

pub fronts-smaller : goal.fronts-smaller
fronts-smaller c = front-shorter c.fronts.rest.now
    (option_map token_of c.in_ok-front.front.token) c.in_ok-front.front.rest.now c.in_ok-front.ensures

pub fronts-preserved : goal.fronts-preserved
fronts-preserved c =
    let rest = c.fronts.rest.now in
    let token = option_map token_of c.in_ok-front.front.token in
    let after = c.in_ok-front.front.rest.now in
    left-more c.fronts.made.items _ rest c.args.text.now token after c.fronts.invariant c.in_ok-front.ensures
    c.in_ok-push_token.ensures.ok
