use Rattle.std.proofs.Common.{◌≡◌, Some, None, ap, sym, ◌∙◌, ℕ, Option}
use Rattle.wh_lex.specs.Front.{inside_first}
use Rattle.wh_lex.proofs.QuoteLemmas.{quoted-open, quoted-end, quoted-more}
use Rattle.wh_lex.proofs.quotes.quoted.Goals as goal

pub returns-in_default : goal.returns-in_default
returns-in_default c = quoted-open c.args.quote c.bytes.inside.items c.bytes.rest.now c.args.bytes.now c.bytes.invariant
    c.in_default.ensures.is

pub returns-in_default-byte : goal.returns-in_default-byte
returns-in_default-byte c =
    let after = c.in-Some.after.now in
    let e : Some (None, after) ≡ inside_first c.args.quote c.bytes.rest.now =
    ap (λ (b : Option ℕ). Some (b, after)) (sym c.in_default-byte.is) ∙ c.in-Some.ensures.is in
    quoted-end c.args.quote c.bytes.inside.items c.bytes.rest.now c.args.bytes.now after c.bytes.invariant e

pub bytes-preserved : goal.bytes-preserved
bytes-preserved c =
    let after = c.in-Some.after.now in
    let e : Some (Some c.in-Some-byte.byte, after) ≡ inside_first c.args.quote c.bytes.rest.now =
    ap (λ (b : Option ℕ). Some (b, after)) (sym c.in-Some-byte.is) ∙ c.in-Some.ensures.is in
    quoted-more c.args.quote c.in-Some-byte.byte c.bytes.inside.items c.bytes.rest.now c.args.bytes.now after _
    c.bytes.invariant e c.in_ok-push.ensures.items
