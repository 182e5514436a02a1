-- What a unit fits by what it was before its first step, as a master does by its log, and that a master is over its limit where its log is.
use Rattle.std.proofs.Common.{◌≡◌, ℕ, true, List, [], length, sym, ◌∙◌, subst}
use Rattle.std.proofs.lemmas.Bool.{false≢true, ltb-true, lt-ltb}
use Rattle.std.proofs.lemmas.List.{length-replicate}
use Rattle.ff_loop.specs.Rounds.{test_of, limit_of, workers_of, log_of}
use Rattle.ff_node.specs.Behaviour.{Behaviour, KeepsKind}
use Rattle.ff_node.specs.Comb.{comb_node}
use Rattle.ff_node.specs.CombKindLaws.{comb_keeps_kind}
use Rattle.ff_node.specs.Fits.{FitsMerge}
use Rattle.ff_node.specs.Runs.{Message, BeginsToFit}
use Rattle.ff_net.specs.Logs.{Event, FitsMaster, BeginsMaster, IsOverLimit, came}
use Rattle.ff_net.specs.declared.net.Test.{Test}
use Rattle.ff_unit.specs.Units.{Ran}
use Rattle.ff_steps.specs.NetUnitLaws.{Ran-over-master}
use Rattle.ff_steps.specs.NetUnits.{NetState, AsStage, AsDeal, AsMerge, AsOMerge, AsMaster, AsWorker, net_does, opening_net, over_net, log_of_net}
use Rattle.ff_loop.specs.WrapMasters.{WrapState, opened_round}
use Rattle.ff_steps.proofs.StageSame.{FitsStage-same, FitsWorker-same}

-- what fits less begins to fit less
pub begins-to : (F G : List (List Message) → List (List Message) → Type 0) (gots puts : List (List Message)) → ((ins outs : List (List Message)) → F ins outs → G ins outs)
    → BeginsToFit F gots puts → BeginsToFit G gots puts
begins-to F G gots puts by begins = λ ins goes. let h = begins ins goes in record { outs = h.outs; goes_on = h.goes_on; fits = by ins h.outs h.fits }

-- the number of workers of a master that made no step
pub workers-opened : (p : Test) (m n : ℕ) → workers_of (opened_round p m n) ≡ n
workers-opened p m n = length-replicate n []

module _ {N : Type 0} (b : Behaviour N) where
  -- by what a unit was before its first step and by its log: what it fits, what it begins to fit, and that it is over its limit
  abbrev pub FitsBy : NetState N → List Event → List (List Message) → List (List Message) → Type 0
  FitsBy (AsStage u) log ins outs = (net_does b).Fits (AsStage u) ins outs
  FitsBy (AsDeal u) log ins outs = (net_does b).Fits (AsDeal u) ins outs
  FitsBy (AsMerge u) log ins outs = (net_does b).Fits (AsMerge u) ins outs
  FitsBy (AsOMerge u) log ins outs = (net_does b).Fits (AsOMerge u) ins outs
  FitsBy (AsMaster u) log ins outs = FitsMaster (workers_of u.round) (limit_of u.round) (test_of u.round) log ins outs
  FitsBy (AsWorker u) log ins outs = (net_does b).Fits (AsWorker u) ins outs

  abbrev pub BeginsBy : NetState N → List Event → List (List Message) → List (List Message) → Type 0
  BeginsBy (AsStage u) log gots puts = BeginsToFit (FitsBy (AsStage u) log) gots puts
  BeginsBy (AsDeal u) log gots puts = BeginsToFit (FitsBy (AsDeal u) log) gots puts
  BeginsBy (AsMerge u) log gots puts = BeginsToFit (FitsBy (AsMerge u) log) gots puts
  BeginsBy (AsOMerge u) log gots puts = BeginsToFit (FitsBy (AsOMerge u) log) gots puts
  BeginsBy (AsMaster u) log gots puts = BeginsMaster (workers_of u.round) (limit_of u.round) (test_of u.round) log gots puts
  BeginsBy (AsWorker u) log gots puts = BeginsToFit (FitsBy (AsWorker u) log) gots puts

  abbrev pub PastBy : NetState N → List Event → Type 0
  PastBy (AsStage u) log = ⊥
  PastBy (AsDeal u) log = ⊥
  PastBy (AsMerge u) log = ⊥
  PastBy (AsOMerge u) log = ⊥
  PastBy (AsMaster u) log = IsOverLimit (limit_of u.round) (test_of u.round) log
  PastBy (AsWorker u) log = ⊥

  -- a master is so by its own log
  past-master : (u : WrapState) (gots puts : List (List Message)) → Ran (net_does b) (AsMaster u) gots puts → u.over ≡ true → IsOverLimit (limit_of u.round) (test_of u.round) (log_of u.round)
  past-master u gots puts ran over =
      ltb-true (limit_of u.round) (length (came (test_of u.round) (log_of u.round))) (sym (Ran-over-master b u gots puts ran) ∙ over)

  over-master : (u : WrapState) (gots puts : List (List Message)) → Ran (net_does b) (AsMaster u) gots puts → IsOverLimit (limit_of u.round) (test_of u.round) (log_of u.round) → u.over ≡ true
  over-master u gots puts ran past =
      Ran-over-master b u gots puts ran ∙ lt-ltb (limit_of u.round) (length (came (test_of u.round) (log_of u.round))) past

  pub past-opening : (u : NetState N) (gots puts : List (List Message)) → Ran (net_does b) u gots puts → over_net u ≡ true → PastBy (opening_net b u) (log_of_net u)
  past-opening (AsStage u) gots puts ran over = absurd (false≢true over)
  past-opening (AsDeal u) gots puts ran over = absurd (false≢true over)
  past-opening (AsMerge u) gots puts ran over = absurd (false≢true over)
  past-opening (AsOMerge u) gots puts ran over = absurd (false≢true over)
  past-opening (AsMaster u) gots puts ran over = past-master u gots puts ran over
  past-opening (AsWorker u) gots puts ran over = absurd (false≢true over)

  pub over-opening : (u : NetState N) (gots puts : List (List Message)) → Ran (net_does b) u gots puts → PastBy (opening_net b u) (log_of_net u) → over_net u ≡ true
  over-opening (AsStage u) gots puts ran past = absurd past
  over-opening (AsDeal u) gots puts ran past = absurd past
  over-opening (AsMerge u) gots puts ran past = absurd past
  over-opening (AsOMerge u) gots puts ran past = absurd past
  over-opening (AsMaster u) gots puts ran past = over-master u gots puts ran past
  over-opening (AsWorker u) gots puts ran past = absurd past

module _ {N : Type 0} (b : Behaviour N) (kind : KeepsKind b) where
  -- a unit fits, and begins to fit, what it fitted before its first step
  pub Fits-opening : (u : NetState N) (ins outs : List (List Message)) → (net_does b).Fits u ins outs → FitsBy b (opening_net b u) (log_of_net u) ins outs
  Fits-opening (AsStage u) ins outs fits =
      FitsStage-same (comb_node b) (comb_keeps_kind b kind) u.node ((comb_node b).opening u.node) (sym ((comb_keeps_kind b kind).opening_of_opening u.node)) ins outs fits
  Fits-opening (AsDeal u) ins outs fits = fits
  Fits-opening (AsMerge u) ins outs fits = subst (λ n. FitsMerge n ins outs) (sym (length-replicate (length u.live) true)) fits
  Fits-opening (AsOMerge u) ins outs fits = fits
  Fits-opening (AsMaster u) ins outs fits =
      subst (λ n. FitsMaster n (limit_of u.round) (test_of u.round) (log_of u.round) ins outs) (sym (workers-opened (test_of u.round) (limit_of u.round) (workers_of u.round))) fits
  Fits-opening (AsWorker u) ins outs fits =
      FitsWorker-same (comb_node b) (comb_keeps_kind b kind) u.node ((comb_node b).opening u.node) (sym ((comb_keeps_kind b kind).opening_of_opening u.node)) ins outs fits

  pub Begins-opening : (u : NetState N) (gots puts : List (List Message)) → (net_does b).Begins u gots puts → BeginsBy b (opening_net b u) (log_of_net u) gots puts
  Begins-opening (AsStage u) gots puts begins =
      begins-to ((net_does b).Fits (AsStage u)) (FitsBy b (opening_net b (AsStage u)) []) gots puts (Fits-opening (AsStage u)) begins
  Begins-opening (AsDeal u) gots puts begins =
      begins-to ((net_does b).Fits (AsDeal u)) (FitsBy b (opening_net b (AsDeal u)) []) gots puts (Fits-opening (AsDeal u)) begins
  Begins-opening (AsMerge u) gots puts begins =
      begins-to ((net_does b).Fits (AsMerge u)) (FitsBy b (opening_net b (AsMerge u)) []) gots puts (Fits-opening (AsMerge u)) begins
  Begins-opening (AsOMerge u) gots puts begins =
      begins-to ((net_does b).Fits (AsOMerge u)) (FitsBy b (opening_net b (AsOMerge u)) []) gots puts (Fits-opening (AsOMerge u)) begins
  Begins-opening (AsMaster u) gots puts begins =
      subst (λ n. BeginsMaster n (limit_of u.round) (test_of u.round) (log_of u.round) gots puts) (sym (workers-opened (test_of u.round) (limit_of u.round) (workers_of u.round))) begins.begins
  Begins-opening (AsWorker u) gots puts begins =
      begins-to ((net_does b).Fits (AsWorker u)) (FitsBy b (opening_net b (AsWorker u)) []) gots puts (Fits-opening (AsWorker u)) begins
