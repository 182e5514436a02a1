-- A master that did nothing yet holds nothing.
use Rattle.std.proofs.Common.{◌≡◌, ℕ, zero, suc, ◌<◌, [], replicate, refl, sym, ap, subst, arith}
use Rattle.std.proofs.lemmas.List.{length-replicate, get_or-replicate}
use Rattle.std.specs.List.{concat}
use Rattle.ff_rec.specs.Weights.{weigh}
use Rattle.ff_rec.proofs.WeightLaws.{weigh-append}
use Rattle.ff_loop.specs.Events.{backs, NoneOut}
use Rattle.ff_loop.specs.Scheduling.{Scheduling, IsScheduling}
use Rattle.ff_loop.specs.Masters.{opened_master, IsKept}

-- nothing in queues that hold nothing
pub concat-none : (n : ℕ) → concat (replicate n []) ≡ []
concat-none zero = refl
concat-none (suc n) = concat-none n

-- where no number of its scheduler is out, what it holds is as its log says
pub IsKept-opened : {T A S : Type 0} (d : Scheduling T A S) (s : S) (n : ℕ) → IsScheduling d → d.IsRight s → NoneOut (d.events s) → IsKept d (opened_master s n)
IsKept-opened d s n sound right none_out = record {
  right = right;
  kind = refl;
  events = refl;
  queues = λ j under. sym (get_or-replicate n j [] [] (subst (λ k. j < k) (length-replicate n []) under));
  balance = record {
    by = λ h. omega (
      arith,
      (sound.keeps_numbers s right).by h,
      none_out.by h,
      weigh-append h (backs (d.events s)) (concat (replicate n [])),
      ap (weigh h) (concat-none n),
    );
  };
  legal = tt;
}
