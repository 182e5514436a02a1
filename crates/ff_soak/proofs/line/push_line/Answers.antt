use Rattle.std.proofs.Common.{◌*◌, ◌≤◌, length, sym, ◌∙◌, subst, arith}
use Rattle.ff_soak.proofs.Limits.{length-word, length-number}
use Rattle.ff_soak.proofs.line.push_line.Goals as goal

pub append-requires-2 : goal.append-requires-2
append-requires-2 c =
    let word = subst (λ bytes. length bytes ≤ 2) (sym (c.as_bytes.ensures.value ∙ c.format.ensures.text)) (length-word (c.args.i * c.args.i)) in
    omega arith

pub append-requires-3 : goal.append-requires-3
append-requires-3 c =
    let word = subst (λ bytes. length bytes ≤ 2) (sym (c.as_bytes.ensures.value ∙ c.format.ensures.text)) (length-word (c.args.i * c.args.i)) in
    omega arith

pub append-requires-4 : goal.append-requires-4
append-requires-4 c =
    let word = subst (λ bytes. length bytes ≤ 2) (sym (c.as_bytes.ensures.value ∙ c.format.ensures.text)) (length-word (c.args.i * c.args.i)) in
    let number = subst (λ bytes. length bytes ≤ 3) (sym (c.as_bytes-2.ensures.value ∙ c.format-2.ensures.text)) (length-number (617 * c.args.i)) in
    omega arith

pub append-requires-5 : goal.append-requires-5
append-requires-5 c =
    let word = subst (λ bytes. length bytes ≤ 2) (sym (c.as_bytes.ensures.value ∙ c.format.ensures.text)) (length-word (c.args.i * c.args.i)) in
    let number = subst (λ bytes. length bytes ≤ 3) (sym (c.as_bytes-2.ensures.value ∙ c.format-2.ensures.text)) (length-number (617 * c.args.i)) in
    omega arith

pub returns-clause-short : goal.returns-clause-short
returns-clause-short c =
    let word = subst (λ bytes. length bytes ≤ 2) (sym (c.as_bytes.ensures.value ∙ c.format.ensures.text)) (length-word (c.args.i * c.args.i)) in
    let number = subst (λ bytes. length bytes ≤ 3) (sym (c.as_bytes-2.ensures.value ∙ c.format-2.ensures.text)) (length-number (617 * c.args.i)) in
    omega arith
