-- What a master goes on to next. In these lemmas `u` is the state as its fields show it.
use Rattle.std.specs.Prelude.{Result, Ok, Err, OnErr}
use Rattle.std.proofs.Common.{◌≡◌, ℕ, Bool, true, false, List, [], length, slice_set, refl, sym, ap, ap₂, subst, ◌∙◌}
use Rattle.ff_rec.specs.declared.msg.Msg.TheVariants.{Eos as EosMsg}
use Rattle.ff_node.specs.Runs.{Message}
use Rattle.ff_unit.specs.Closing.{any_live, all_live}
use Rattle.ff_unit.specs.Deals.{on_outs}
use Rattle.ff_unit.specs.declared.mode.Mode.TheVariants.{Shut}
use Rattle.ff_loop.specs.Rounds.{RoundState, workers_of, log_of, taken_of, results_of, IsRound, GoesRound, NoneToGive}
use Rattle.ff_loop.specs.WrapMasters.{WrapState, IsSized, TellsWorkers, ReadsOn, KeepsRound}
use Rattle.ff_loop.proofs.RoundSteps.{IsLogged-round}

-- what holds anyway holds where there is an error
pub OnErr-anyway : {T E P : Type 0} (r : Result T E) → P → OnErr r P
OnErr-anyway (Ok x) p = tt
OnErr-anyway (Err e) p = p

-- where nothing is done
pub GoesRound-same : (s : RoundState) → IsRound s → GoesRound s s (log_of s) (taken_of s)
GoesRound-same s round = record {
  round = round;
  logged = IsLogged-round s round;
  log = refl;
  taken = refl;
  test = refl;
  limit = refl;
  workers = refl;
}

-- nothing changed
pub KeepsRound-stays : (w v : WrapState) → IsSized w → v ≡ w → KeepsRound w v
KeepsRound-stays w v sized same = subst (KeepsRound w) (sym same) (GoesRound-same w.round sized.round, refl)

module _ (u w : WrapState) (is : u ≡ w) (sized : IsSized w) where
  -- memory was refused
  pub KeepsRound-same : (r : RoundState) → r ≡ u.round → KeepsRound w (record u { round = r })
  KeepsRound-same r same =
      subst (λ (x : WrapState). KeepsRound w (record x { round = r })) (sym is)
      (subst (λ (s : RoundState). KeepsRound w (record w { round = s })) (sym (same ∙ ap (λ x. x.round) is)) (GoesRound-same w.round sized.round, refl))

  -- something is to be read
  pub ReadsOn-same : any_live u.live ≡ true → ReadsOn w w
  ReadsOn-same some = record { some_live = sym (ap (λ x. any_live x.live) is) ∙ some; round = GoesRound-same w.round sized.round; same = refl }

  -- all was done
  pub TellsWorkers-told : (live : List Bool) (held : List (ℕ × Message)) → any_live u.live ≡ false → NoneToGive w.round → results_of w.round ≡ []
      → live ≡ slice_set (all_live (length u.live)) 0 false → held ≡ on_outs 0 (workers_of w.round) EosMsg
      → TellsWorkers w (record u { live = live; held = held; mode = Shut })
  TellsWorkers-told live held none none_left no_result lives helds =
      subst (λ (x : WrapState). TellsWorkers w (record x { live = live; held = held; mode = Shut })) (sym is) (record {
        none_live = sym (ap (λ x. any_live x.live) is) ∙ none;
        none_left = none_left;
        round = GoesRound-same w.round sized.round;
        no_result = no_result;
        same = ap₂ (λ (l : List Bool) (h : List (ℕ × Message)). record w { live = l; held = h; mode = Shut })
            (lives ∙ ap (λ (n : ℕ). slice_set (all_live n) 0 false) (ap (λ x. length x.live) is ∙ sized.flags)) helds;
      })
