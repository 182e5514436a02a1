-- Where the network or the end stops is the first fault of the text.
use Rattle.std.proofs.Common.{◌≡◌, ◌≤◌, List, [], ◌∷◌, ◌++◌, length, Err, sym, ap, subst, ◌∙◌, arith}
use Rattle.std.proofs.lemmas.Result.{err_from_is_err_and}
use Rattle.ff_ops.specs.Operation.{OpState}
use Rattle.ff_net.specs.declared.net.Net.{Net}
use Rattle.ff_net.specs.Tree.{tree_of}
use Rattle.ff_text.specs.Grammar.{spelling}
use Rattle.ff_text.specs.Names.{Context}
use Rattle.ff_text.specs.Printing.{tokens_of}
use Rattle.ff_text.specs.Reading.{IsEaten, IsStopped}
use Rattle.ff_text.specs.Spelling.{Spells}
use Rattle.ff_text.specs.Wants.{Want, Network, Finish, walk}
use Rattle.ff_text.proofs.Unnamed.{Spells-unnamed}
use Rattle.ff_text.proofs.Opened.{opened-net}
use Rattle.ff_text.proofs.SpelledTexts.{CanPrint-text}
use Rattle.ff_text.proofs.ReadFaults.{fault-network, fault-finish}
use Rattle.ff_text.proofs.described.read_net.Goals as goal

pub returns-in_err-net-clause-fault : goal.returns-in_err-net-clause-fault
returns-in_err-net-clause-fault c =
    let fault = c.in_err-net.field-0.0 in
    let old = c.new-reader.result in
    let new = c.network.new.reader in
    let h = subst (λ context. IsEaten {A = Net OpState} context (Network 15 ∷ []) (Err fault) old new) c.new-context.ensures c.in_err-net.ensures.eaten in
    let p = err_from_is_err_and c.from_residual.result c.from_residual.ensures.1 in
    let within : length c.args.text.now ≤ 65536 = omega arith in
    rw (p.1, p.2) (fault-network (Net OpState) c.args.text.now fault old new within c.new-reader.ensures h)

pub returns-in_err-finish-clause-fault : goal.returns-in_err-finish-clause-fault
returns-in_err-finish-clause-fault c =
    let fault = c.in_err-finish.field-0.0 in
    let old = c.new-reader.result in
    let mid = c.network.new.reader in
    let before = subst (λ context. (ws : List Want) → walk context old (Network 15 ∷ ws) ≡ walk context mid ws) c.new-context.ensures c.in_ok-net.ensures.eaten in
    let h = subst (λ context. IsStopped context (Finish ∷ []) fault mid) c.new-context.ensures c.in_err-finish.ensures.stopped in
    let p = err_from_is_err_and c.from_residual-in_err-finish.result c.from_residual-in_err-finish.ensures.1 in
    let within : length c.args.text.now ≤ 65536 = omega arith in
    rw (p.1, p.2) (fault-finish c.args.text.now fault old mid within c.new-reader.ensures before h)

-- the tokens of the text spell the network
spelled : goal.returns-clause-text
spelled c =
    let tree = tree_of c.in_ok-net.net in
    let old = tokens_of c.new-reader.result in
    let rest = tokens_of c.network.new.reader in
    let spells : Spells [] tree old rest = subst (λ (context : Context). Spells context.names tree old rest) c.new-context.ensures c.in_ok-net.ensures.text in
    ap tokens_of (sym c.new-reader.ensures) ∙ Spells-unnamed tree old rest spells ∙ ap (λ ts. spelling tree ++ ts) c.in_ok-finish.ensures.text

pub returns-clause-text : goal.returns-clause-text
returns-clause-text c = spelled c

pub returns-clause-opening : goal.returns-clause-opening
returns-clause-opening c = opened-net (tree_of c.in_ok-net.net) 15 c.in_ok-net.ensures.net

pub returns-clause-printable : goal.returns-clause-printable
returns-clause-printable c = CanPrint-text c.args.text.now (tree_of c.in_ok-net.net) (spelled c)
