-- Stages, and workers of wraps, of which either is the other before its first record.
use Rattle.std.proofs.Common.{◌≡◌, List, [], ◌∷◌, ◌++◌, flat_map, refl, sym, ap, ap₂, ◌∙◌}
use Rattle.ff_rec.specs.Lines.{Rec}
use Rattle.ff_rec.specs.Streams.{at, carried}
use Rattle.ff_rec.specs.declared.msg.Msg.TheVariants.{Item, Mark, Pick, Eos as EosMsg, Abort as AbortMsg}
use Rattle.ff_node.specs.Behaviour.{Behaviour, KeepsKind, sent_from, rejected_from, node_rejected}
use Rattle.ff_node.specs.Fits.{FitsStage, FitsWorker, replaced}
use Rattle.ff_node.specs.Runs.{Message}

-- what is said of a node holds of any other that is the same before its first record
module _ {S : Type 0} (b : Behaviour S) (kind : KeepsKind b) (n o : S) (same : b.opening n ≡ b.opening o) where
  replaced-same : (m : Message) → replaced b n m ≡ replaced b o m
  replaced-same (Item x) = ap (λ s. carried (b.sends s x)) same
  replaced-same Mark = refl
  replaced-same (Pick w) = refl
  replaced-same EosMsg = refl
  replaced-same AbortMsg = refl

  all_replaced-same : (ms : List Message) → flat_map (replaced b n) ms ≡ flat_map (replaced b o) ms
  all_replaced-same [] = refl
  all_replaced-same (m ∷ ms) = ap₂ (λ here rest. here ++ rest) (replaced-same m) (all_replaced-same ms)

  pub FitsStage-same : (ins outs : List (List Message)) → FitsStage b n ins outs → FitsStage b o ins outs
  FitsStage-same ins outs fits = record {
    one_in = fits.one_in;
    one_out = fits.one_out;
    unmarked = λ xs are. fits.unmarked xs are ∙ ap (λ s. carried (sent_from b s xs)) same;
    plain = λ plain marked. fits.plain (sym (kind.class_of_opening n) ∙ ap b.class same ∙ kind.class_of_opening o ∙ plain) marked ∙ all_replaced-same (at ins 0);
  }

  pub FitsWorker-same : (ins outs : List (List Message)) → FitsWorker b n ins outs → FitsWorker b o ins outs
  FitsWorker-same ins outs fits = record {
    one_in = fits.one_in;
    one_out = fits.one_out;
    tasks = λ xs are. fits.tasks xs are ∙ ap (λ s. flat_map (λ x. carried (b.sends s x) ++ Mark ∷ []) xs) same;
  }

  pub node_rejected-same : (xs : List Rec) → node_rejected b n xs ≡ node_rejected b o xs
  node_rejected-same xs = ap (λ s. rejected_from b s xs) same
