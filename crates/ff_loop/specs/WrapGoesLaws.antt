-- A wrap's master is tied to its ports again once it has found what is to be put next.
use Rattle.std.specs.Prelude.{◌≡◌, ◌≢◌, ◌⊎◌, ◌≤◌, suc, Bool, true, false, nat_lt, List, [], ◌∷◌, length, slice_set}
use Rattle.std.proofs.Common.{refl, sym, ap, ap₂, ◌∙◌, subst, inl, inr, length-set}
use Rattle.std.proofs.lemmas.Bool.{false≢true}
use Rattle.ff_rec.specs.Lines.{Rec}
use Rattle.ff_rec.specs.declared.msg.Msg.TheVariants.{Item}
use Rattle.ff_net.specs.Logs.{Event, came}
use Rattle.ff_node.specs.Runs.{Message}
use Rattle.ff_port.specs.declared.answers.End.{End}
use Rattle.ff_port.specs.declared.answers.End.TheVariants.{Eos, Abort, Memory}
use Rattle.ff_unit.specs.Closing.{all_live}
use Rattle.ff_unit.specs.DealPairLaws.{Pair}
use Rattle.ff_unit.specs.DealRowLaws.{ArePut}
use Rattle.ff_unit.specs.FlagLaws.{length-all_live}
use Rattle.ff_unit.specs.Units.{TookAbort}
use Rattle.ff_unit.specs.declared.mode.Mode.{Mode}
use Rattle.ff_unit.specs.declared.mode.Mode.TheVariants.{Live, Shut, Cut}
use Rattle.ff_loop.specs.Rounds.{RoundState, test_of, workers_of, log_of, GoesRound}
use Rattle.ff_loop.specs.WrapMasters.{WrapState, is_past, cut_off, to_ends, GivesNext, SendsNext, TellsWorkers, ReadsOn, KeepsRound, GoesNext, Pulls}
use Rattle.ff_loop.specs.WrapCutLaws.{TiedCut-works}
use Rattle.ff_loop.specs.WrapNextLaws.{TiedWorks-kept, TiedWorks-gives, TiedWorks-sends}
use Rattle.ff_loop.specs.WrapTellsLaws.{TiedShut-tells}
use Rattle.ff_loop.specs.WrapTiedLaws.{TiedWorks, TiedAt, BareAt, IsBare, IsTied}
use Rattle.ff_loop.specs.WrapWorkingLaws.{length-to_ends}

-- no task came
pub is_past-goes : (s s' : RoundState) (events : List Event) (out : List Rec) → GoesRound s s' events out → came (test_of s) events ≡ came (test_of s) (log_of s)
    → is_past s' ≡ is_past s
is_past-goes s s' events out goes same = ap₂ (λ m n. nat_lt m n) goes.limit (ap length (ap₂ came goes.test goes.log ∙ same))

-- within an act a master that doesn't work, or holds something, is tied as it is between two
pub IsTied-bare : (w : WrapState) (gots puts : List (List Message)) (b : IsBare w gots puts) → TiedAt w.mode w gots b.given → IsTied w gots puts
IsTied-bare w gots puts b tied = record {
  some = b.some;
  ins = b.ins;
  flags = b.flags;
  parts_are = b.parts_are;
  round = b.round;
  logged = b.logged;
  over = b.over;
  cause = b.cause;
  ended = b.ended;
  given = b.given;
  puts_are = b.puts_are;
  tied = tied;
}

module _ (w : WrapState) (gots puts : List (List Message)) (b : IsBare w gots puts) where
  -- it goes on with other tasks, of which none came
  IsTied-goes : (r : RoundState) (events : List Event) (out : List Rec) → GoesRound w.round r events out → came (test_of w.round) events ≡ came (test_of w.round) (log_of w.round)
      → (live : List Bool) (held : List Pair) (mode : Mode) (end : End) → length live ≡ length w.live → (end ≡ Abort → (w.told ≡ true) ⊎ TookAbort gots) → w.done ≡ false
      → TiedAt mode (record w { round = r; live = live; held = held; mode = mode; end = end }) gots b.given
      → IsTied (record w { round = r; live = live; held = held; mode = mode; end = end }) gots puts
  IsTied-goes r events out goes same live held mode end flags cause goes_on tied = record {
    some = subst (λ n. 1 ≤ n) (sym goes.workers) b.some;
    ins = b.ins ∙ ap suc (sym goes.workers);
    flags = flags ∙ b.flags ∙ ap suc (sym goes.workers);
    parts_are = b.parts_are ∙ sym goes.workers;
    round = goes.round;
    logged = goes.logged;
    over = b.over ∙ sym (is_past-goes w.round r events out goes same);
    cause = cause;
    ended = λ done. absurd (false≢true (sym goes_on ∙ done));
    given = b.given;
    puts_are = subst (λ n. ArePut (suc n) puts b.given) (sym goes.workers) b.puts_are;
    tied = tied;
  }

  tied_works : w.mode ≡ Live → TiedWorks w gots b.given
  tied_works works = subst (λ m. BareAt m w gots b.given) works b.tied

  module _ (works : w.mode ≡ Live) (none : w.held ≡ []) where
    gives-tied : (v : WrapState) → GivesNext w v → IsTied v gots puts
    gives-tied v s =
        let live = slice_set w.live (suc s.worker) true in
        subst (λ x. IsTied x gots puts) (sym s.same)
        (IsTied-goes v.round _ _ s.gives refl live _ w.mode w.end (length-set w.live (suc s.worker) true) b.cause (tied_works works).goes_on
        (subst (λ m. TiedAt m (record w { round = v.round; live = live; held = (s.worker, Item s.task) ∷ [] }) gots b.given) (sym works) (
          TiedWorks-gives w gots b.given (tied_works works) none v.round s.worker s.task s.below b.flags s.free s.gives,
          λ e. absurd (cc),
        )))

    sends-tied : (v : WrapState) → SendsNext w v → IsTied v gots puts
    sends-tied v s =
        subst (λ x. IsTied x gots puts) (sym s.same)
        (IsTied-goes v.round _ _ s.round refl w.live _ w.mode w.end refl b.cause (tied_works works).goes_on
        (subst (λ m. TiedAt m (record w { round = v.round; held = (workers_of w.round, Item s.result) ∷ [] }) gots b.given) (sym works) (
          TiedWorks-sends w gots b.given (tied_works works) none v.round s.result s.round,
          λ e. absurd (cc),
        )))

    tells-tied : (v : WrapState) → TellsWorkers w v → IsTied v gots puts
    tells-tied v s =
        let live = false ∷ all_live (workers_of w.round) in
        subst (λ x. IsTied x gots puts) (sym s.same)
        (IsTied-goes v.round _ _ s.round refl live _ Shut w.end (ap suc (length-all_live (workers_of w.round)) ∙ sym b.flags) b.cause (tied_works works).goes_on
        (TiedShut-tells w gots b.given (tied_works works) none b.some s.none_live v.round s.none_left s.round s.no_result))

    reads-tied : (v : WrapState) → ReadsOn w v → IsTied v gots puts
    reads-tied v s =
        subst (λ x. IsTied x gots puts) (sym s.same)
        (IsTied-goes v.round _ _ s.round refl w.live w.held w.mode w.end refl b.cause (tied_works works).goes_on
        (subst (λ m. TiedAt m (record w { round = v.round }) gots b.given) (sym works) (TiedWorks-kept w gots b.given (tied_works works) v.round s.round, λ e. s.some_live)))

    -- memory is refused
    kept-tied : (x v : WrapState) → KeepsRound w x → v ≡ cut_off x Memory → IsTied v gots puts
    kept-tied x v s same =
        let u : WrapState = record w { round = x.round } in
        let short : Memory ≢ Eos = λ e. absurd cc in
        subst (λ x. IsTied x gots puts) (sym (same ∙ ap (λ y. cut_off y Memory) s.1))
        (IsTied-goes x.round _ _ s.0 refl (to_ends w.live) _ Cut Memory (length-to_ends w.live) (λ e. absurd cc) (tied_works works).goes_on
        (TiedCut-works u gots b.given (to_ends w.live) w.parts Memory s.0.logged (TiedWorks-kept w gots b.given (tied_works works) x.round s.0) short))

    pub next-tied : (v : WrapState) → GoesNext w v → IsTied v gots puts
    next-tied v (inl (inl s)) = gives-tied v s
    next-tied v (inl (inr (inl s))) = sends-tied v s
    next-tied v (inl (inr (inr (inl s)))) = tells-tied v s
    next-tied v (inl (inr (inr (inr s)))) = reads-tied v s
    next-tied v (inr s) = kept-tied s.0 v s.1 s.2

  -- an act ends
  pub pulls-tied : (v : WrapState) → Pulls w.mode w.held w v → IsTied v gots puts
  pulls-tied v = by w.mode refl w.held refl
    where
      still : TiedAt w.mode w gots b.given → v ≡ w → IsTied v gots puts
      still tied same = subst (λ x. IsTied x gots puts) (sym same) (IsTied-bare w gots puts b tied)

      by : (mode : Mode) → w.mode ≡ mode → (held : List Pair) → w.held ≡ held → Pulls mode held w v → IsTied v gots puts
      by Live works [] none s = next-tied works none v s
      by Live works (pair ∷ held) some s =
          still (subst (λ m. TiedAt m w gots b.given) (sym works) (tied_works works, λ none. absurd (cc))) s
      by Shut shut held is s = still (subst (λ m. TiedAt m w gots b.given) (sym shut) (subst (λ m. BareAt m w gots b.given) shut b.tied)) s
      by Cut cut held is s = still (subst (λ m. TiedAt m w gots b.given) (sym cut) (subst (λ m. BareAt m w gots b.given) cut b.tied)) s
