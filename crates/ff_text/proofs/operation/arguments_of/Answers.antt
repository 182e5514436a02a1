-- One argument more is of one kind more.
use Rattle.std.proofs.Common.{◌+◌, ◌<◌, List, [], ◌∷◌, ◌++◌, map, length, take, drop, get_or, IsTrue, sym, ap, subst, ◌∙◌, arith, append_assoc}
use Rattle.std.proofs.lemmas.List.{drop_more, take_more, map-append}
use Rattle.ff_ops.specs.declared.arg.Arg.{Arg}
use Rattle.ff_ops.specs.declared.arg.ArgKind.{ArgKind}
use Rattle.ff_ops.specs.declared.arg.ArgKind.TheVariants.{Field}
use Rattle.ff_ops.specs.Arguments.{fits, AllFit}
use Rattle.ff_text.specs.OperationTokens.{argument_token}
use Rattle.ff_text.specs.Printing.{tokens_of}
use Rattle.ff_text.specs.Seen.{context_of}
use Rattle.ff_text.specs.Wants.{Argument, walk}
use Rattle.ff_text.proofs.operation.arguments_of.Goals as goal

AllFit-push : (args : List Arg) (kinds : List ArgKind) (a : Arg) (kind : ArgKind) → AllFit args kinds → IsTrue (fits a kind) → AllFit (args ++ a ∷ []) (kinds ++ kind ∷ [])
AllFit-push [] [] a kind h fit = (fit, tt)
AllFit-push [] (k ∷ ks) a kind h fit = absurd h
AllFit-push (b ∷ args) [] a kind h fit = absurd h
AllFit-push (b ∷ args) (k ∷ ks) a kind h fit = (h.0, AllFit-push args ks a kind h.1 fit)

pub loop-kind-preserved : goal.loop-kind-preserved
loop-kind-preserved c =
    let h = c.in_ok-argument_of.ensures in
    let i = c.loop-kind.kind-index in
    let a = c.in_ok-argument_of.field-0 in
    let kinds = c.args.kinds.now in
    let kind = get_or kinds i Field in
    let within : i < length kinds = omega arith in
    record {
      eaten = λ ws.
          c.loop-kind.invariant.eaten ws
          ∙ ap (λ ks. walk (context_of c.args.context.now) c.loop-kind.reader (map (λ k. Argument k) ks ++ ws)) (drop_more kinds i Field within)
          ∙ h.eaten (map (λ k. Argument k) (drop (i + 1) kinds) ++ ws);
      fit = subst (λ args. AllFit args (take (i + 1) kinds)) (sym {A = List Arg} c.in_ok-push.ensures.items)
          (subst (λ ks. AllFit (c.loop-kind.args.items ++ a ∷ []) ks) (sym (take_more kinds i Field within))
          (AllFit-push c.loop-kind.args.items (take i kinds) a kind c.loop-kind.invariant.fit h.fits));
      text =
          c.loop-kind.invariant.text
          ∙ ap (λ ts. map argument_token c.loop-kind.args.items ++ ts) h.text
          ∙ sym (append_assoc (map argument_token c.loop-kind.args.items) (argument_token a ∷ []) (tokens_of c.argument_of.new.reader))
          ∙ ap (λ ts. ts ++ tokens_of c.argument_of.new.reader) (sym (map-append argument_token c.loop-kind.args.items (a ∷ [])))
          ∙ ap (λ args. map argument_token args ++ tokens_of c.argument_of.new.reader) (sym {A = List Arg} c.in_ok-push.ensures.items);
    }
