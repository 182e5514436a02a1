-- A record more, the end, and the text of what was sent.
use Rattle.std.proofs.Common.{◌≡◌, Bool, true, List, ℕ, [], ◌++◌, sym, ap, ◌∙◌}
use Rattle.ff_rec.specs.Lines.{Rec, text}
use Rattle.ff_node.specs.Behaviour.{Behaviour}
use Rattle.ff_node.specs.Feeds.{sent_after, in_all}
use Rattle.ff_node.specs.Sends.{Sent}
use Rattle.ff_stream.specs.Flows.{due, told}
use Rattle.ff_stream.specs.declared.flow.Flow.{Flow}

-- a node that ended takes no record
pub due-ended : {S : Type 0} (b : Behaviour S) (w : Flow S) (rs : List Rec) → w.ended ≡ true → (zs : List Rec) → due b w (rs ++ zs) ≡ due b w zs
due-ended b w rs ended zs =
    let by_mark : Bool → List Rec → List ℕ = λ e xs. w.text ++ text (w.sends.sends ++ sent_after b e w.node xs) in
    ap (λ e. by_mark e (rs ++ zs)) ended ∙ ap (λ e. by_mark e zs) (sym ended)

pub told-ended : {S : Type 0} (b : Behaviour S) (w : Flow S) (rs : List Rec) → w.ended ≡ true → (zs : List Rec) → told b w (rs ++ zs) ≡ told b w zs
told-ended b w rs ended zs =
    let by_mark : Bool → List Rec → Sent = λ e xs. record (in_all b e w.node w.sends xs) { sends = [] } in
    ap (λ e. by_mark e (rs ++ zs)) ended ∙ ap (λ e. by_mark e zs) (sym ended)
