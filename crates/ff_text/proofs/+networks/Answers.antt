-- A form is eaten from its word on, and parts one after another.
use Rattle.std.proofs.Common.{◌≡◌, List, [], ◌∷◌, ◌++◌, length, codes, refl, sym, ap, subst, ◌∙◌, inr, IfOk, arith}
use Rattle.std.proofs.lemmas.Result.{err_from_is_err_and}
use Rattle.std.specs.declared.vec.Vec.{Vec}
use Rattle.std.specs.declared.alloc.Global.{Global}
use Rattle.ff_ops.specs.Operation.{OpState}
use Rattle.ff_net.specs.Tree.{Pipe, Comb, tree_of, trees_of, tree_of-Pipe, tree_of-Comb}
use Rattle.ff_net.specs.declared.net.Net.{Net, Pipe as NetPipe, Comb as NetComb}
use Rattle.ff_text.specs.declared.token.Token.{Token as Borrowed}
use Rattle.ff_text.specs.Tokens.{Word}
use Rattle.ff_text.specs.Grammar.{form_word}
use Rattle.ff_text.specs.Printing.{tokens_of}
use Rattle.ff_text.specs.Seen.{token_of, behind, context_of}
use Rattle.ff_text.specs.Spelling.{Spells}
use Rattle.ff_text.specs.Wants.{Want, Network, Parts, Opening, walk}
use Rattle.ff_ops.proofs.RowLaws.{name_of-row_named}
use Rattle.ff_text.proofs.Named.{form_word-form_named}
use Rattle.ff_text.proofs.Parts.{left, ArePartsSoFar, ArePartsSoFar-push, SpellsSoFar, SpellsSoFar-push}
use Rattle.ff_text.proofs.Shorter.{Spells-shorter}
use Rattle.ff_text.proofs.Eaten.{eaten-form, eaten-another, eaten-no_other}
use Rattle.ff_text.proofs.+networks.Goals as goal

pub network::network-returns-in-Some-clause-eaten : goal.network::network-returns-in-Some-clause-eaten
network::network-returns-in-Some-clause-eaten t c =
    let spot = c.next-spot.result in
    let mid = c.next-spot.new.self in
    let front = c.next-spot.ensures.first ∙ ap (λ (u : Borrowed). record { token = token_of u; at = spot.at } ∷ behind (token_of u) mid) c.in-Word.is in
    eaten-form (context_of c.args.context.now) c.formed.result c.args.reader.now mid c.formed.new.reader spot.at c.in-Word.name.now c.in-Some.form c.args.room front (sym c.in-Some.ensures) c.if-room-eq0.false c.formed.ensures.eaten

pub network::network-returns-in-Some-clause-text : goal.network::network-returns-in-Some-clause-text
network::network-returns-in-Some-clause-text t c =
    let spot = c.next-spot.result in
    let mid = c.next-spot.new.self in
    let front = c.next-spot.ensures.first ∙ ap (λ (u : Borrowed). record { token = token_of u; at = spot.at } ∷ behind (token_of u) mid) c.in-Word.is in
    let tokens = ap tokens_of front ∙ ap (λ name. Word name ∷ tokens_of mid) (sym (form_word-form_named c.in-Word.name.now c.in-Some.form (sym c.in-Some.ensures))) in
    subst (λ ts. IfOk c.formed.result (λ (net : Net OpState). Spells (context_of c.args.context.now).names (tree_of net) ts (tokens_of c.formed.new.reader))) (sym tokens) c.formed.ensures.text

pub network::network-returns-in_ok-operation-in-Some-named-clause-text : goal.network::network-returns-in_ok-operation-in-Some-named-clause-text
network::network-returns-in_ok-operation-in-Some-named-clause-text t c =
    let spot = c.next-spot.result in
    let mid = c.next-spot.new.self in
    let front = c.next-spot.ensures.first ∙ ap (λ (u : Borrowed). record { token = token_of u; at = spot.at } ∷ behind (token_of u) mid) c.in-Word.is in
    inr (ap tokens_of front
    ∙ ap (λ name. Word name ∷ tokens_of mid) (sym (name_of-row_named c.in-Word.name.now c.in-Some-named.row (sym c.in-Some-named.ensures)))
    ∙ c.in_ok-operation-in-Some-named.ensures.text)

pub form_body::parts-returns-in_err-more-clause-eaten : goal.form_body::parts-returns-in_err-more-clause-eaten
form_body::parts-returns-in_err-more-clause-eaten t c =
    let context = context_of c.args.context.now in
    let h = c.in_err-more.ensures.eaten c.args.room in
    let room = c.args.room in
    let so = subst (λ more. (ws : List Want) → walk context c.opening.new.reader (Network room ∷ Parts room ∷ ws) ≡ walk context c.loop-more.reader (left more room ++ ws)) c.loop-more-test.true c.loop-more.invariant.eaten in
    let p = err_from_is_err_and c.from_residual-in_err-more.result c.from_residual-in_err-more.ensures.1 in
    rw (p.1, p.2)
    (eaten-no_other (Vec (Net OpState) Global) context room c.in_err-more.field-0.0 (Opening ∷ Network room ∷ Parts room ∷ []) c.args.reader.now c.network.new.reader c.another.new.reader
    (λ ws. c.in_ok-opening.ensures.eaten (Network room ∷ Parts room ∷ ws) ∙ so ws ∙ c.in_ok-network.ensures.eaten (Parts room ∷ ws)) h)

pub form_body::parts-loop-more-preserved : goal.form_body::parts-loop-more-preserved
form_body::parts-loop-more-preserved t c =
    let context = context_of c.args.context.now in
    let room = c.args.room in
    let net = c.in_ok-network.field-0 in
    let done = c.loop-more.parts.items in
    let another = c.in_ok-more.more in
    let start = tokens_of c.opening.new.reader in
    let rest = tokens_of c.another.new.reader in
    let so = subst (λ more. (ws : List Want) → walk context c.opening.new.reader (Network room ∷ Parts room ∷ ws) ≡ walk context c.loop-more.reader (left more room ++ ws)) c.loop-more-test.true c.loop-more.invariant.eaten in
    let nets = subst (λ more. ArePartsSoFar more (trees_of done) room) c.loop-more-test.true c.loop-more.invariant.nets in
    let text = subst (λ more. SpellsSoFar context.names more (trees_of done) start (tokens_of c.loop-more.reader)) c.loop-more-test.true c.loop-more.invariant.text in
    let last = subst (λ ts. Spells context.names (tree_of net) (tokens_of c.loop-more.reader) ts) c.in_ok-more.ensures.text c.in_ok-network.ensures.text in
    record {
      eaten = λ ws. so ws ∙ c.in_ok-network.ensures.eaten (Parts room ∷ ws) ∙ eaten-another context room another c.network.new.reader c.another.new.reader (c.in_ok-more.ensures.eaten room) ws;
      nets = subst (λ items. ArePartsSoFar another (trees_of items) room) (sym {A = List (Net OpState)} c.in_ok-push.ensures.items) (ArePartsSoFar-push another done net room nets c.in_ok-network.ensures.net);
      text = subst (λ items. SpellsSoFar context.names another (trees_of items) start rest) (sym {A = List (Net OpState)} c.in_ok-push.ensures.items)
          (SpellsSoFar-push context.names net (tokens_of c.loop-more.reader) another done start rest text last);
    }

pub form_body::parts-loop-more-smaller : goal.form_body::parts-loop-more-smaller
form_body::parts-loop-more-smaller t c =
    let names = (context_of c.args.context.now).names in
    let shorter = Spells-shorter names (tree_of c.in_ok-network.field-0) (tokens_of c.loop-more.reader) (tokens_of c.network.new.reader) c.in_ok-network.ensures.text in
    omega (arith, shorter, ap length c.in_ok-more.ensures.text)

pub form_body::formed-returns-in_ok-parts-in-Pipe-clause-text : goal.form_body::formed-returns-in_ok-parts-in-Pipe-clause-text
form_body::formed-returns-in_ok-parts-in-Pipe-clause-text t c =
    let names = (context_of c.args.context.now).names in
    let old = tokens_of c.args.reader.now in
    let new = tokens_of c.parts.new.reader in
    let parts = c.in_ok-parts-in-Pipe.field-0 in
    let made : Spells names (Pipe (trees_of parts.items)) (Word (codes "pipe") ∷ old) new = inr (old, refl, c.in_ok-parts-in-Pipe.ensures.text) in
    subst (λ form. Spells names (tree_of (NetPipe parts)) (Word (form_word form) ∷ old) new) (sym c.in-Pipe.is)
    (subst (λ net. Spells names net (Word (codes "pipe") ∷ old) new) (sym (tree_of-Pipe parts)) made)

pub form_body::formed-returns-in_ok-parts-in-Comb-clause-text : goal.form_body::formed-returns-in_ok-parts-in-Comb-clause-text
form_body::formed-returns-in_ok-parts-in-Comb-clause-text t c =
    let names = (context_of c.args.context.now).names in
    let old = tokens_of c.args.reader.now in
    let new = tokens_of c.parts-in-Comb.new.reader in
    let parts = c.in_ok-parts-in-Comb.field-0 in
    let made : Spells names (Comb (trees_of parts.items)) (Word (codes "comb") ∷ old) new = inr (old, refl, c.in_ok-parts-in-Comb.ensures.text) in
    subst (λ form. Spells names (tree_of (NetComb parts)) (Word (form_word form) ∷ old) new) (sym c.in-Comb.is)
    (subst (λ net. Spells names net (Word (codes "comb") ∷ old) new) (sym (tree_of-Comb parts)) made)
