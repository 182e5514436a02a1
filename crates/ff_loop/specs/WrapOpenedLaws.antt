-- A wrap's master that made no step is tied to its ports.
use Rattle.std.specs.Prelude.{◌≡◌, ◌<◌, ◌≤◌, ℕ, suc, false, List, [], length, replicate, slice_index_or}
use Rattle.std.proofs.Common.{refl, sym, ap, ◌∙◌, subst, arith, le-ltb}
use Rattle.std.proofs.lemmas.Bool.{false≢true}
use Rattle.std.proofs.lemmas.List.{length-replicate, get_or-replicate}
use Rattle.ff_rec.specs.Streams.{at}
use Rattle.ff_net.specs.declared.net.Test.{Test}
use Rattle.ff_node.specs.Runs.{Message}
use Rattle.ff_node.specs.Sends.{Sent, nothing_sent}
use Rattle.ff_unit.specs.Closing.{none_live}
use Rattle.ff_unit.specs.DealRowLaws.{ArePut, ArePut-none}
use Rattle.ff_unit.specs.FlagLaws.{any_live-none, live-none, length-none_live}
use Rattle.ff_unit.specs.TakenLaws.{at-none}
use Rattle.ff_loop.specs.MasterLaws.{IsKept-opened}
use Rattle.ff_loop.specs.Rounds.{IsRound, IsLogged}
use Rattle.ff_loop.specs.WorkLaws.{IsScheduling-work}
use Rattle.ff_loop.specs.Worklists.{IsRight, opened_work, work_does}
use Rattle.ff_loop.specs.WrapMasters.{opened_round, opened_wrap, owed}
use Rattle.ff_loop.specs.WrapTiedLaws.{AnswersWhole, TiedWorks, IsTied}

-- of the tasks none came
IsRight-opened : (p : Test) (m : ℕ) → IsRight (opened_work p m)
IsRight-opened p m = record {
  numbers_below = tt;
  next_is = refl;
  balance = record { by = λ h. omega arith };
  out_is = omega arith;
  holds = record { tasks = refl; room = omega arith; results = refl };
}

pub IsRound-opened : (p : Test) (m n : ℕ) → IsRound (opened_round p m n)
IsRound-opened p m n = record {
  kept = IsKept-opened work_does (opened_work p m) n IsScheduling-work (IsRight-opened p m) (record { by = λ h. omega arith });
  none_before = refl;
}

pub IsLogged-opened : (p : Test) (m n : ℕ) → IsLogged (opened_round p m n)
IsLogged-opened p m n = record {
  legal = tt;
  given_came = record { by = λ h. omega arith };
  results = λ few. refl;
  dropped = λ many. refl;
}

-- it works
TiedWorks-opened : (p : Test) (m n : ℕ) → TiedWorks (opened_wrap p m n) (replicate (suc n) []) []
TiedWorks-opened p m n = record {
  end = refl;
  goes_on = refl;
  inner = tt;
  tasks = λ j below. refl;
  results = refl;
  fed_in = (tt, refl);
  answers = λ j below. answers j (subst (λ k. j < k) (length-replicate n []) below);
  owes = λ j below. omega (arith, ap owed (live-none (none_live n) j (any_live-none n)));
}
  where
    answers : (j : ℕ) → j < n → AnswersWhole [] j (slice_index_or (replicate n (nothing_sent false)) j (nothing_sent false)).sends (at (replicate {A = List Message} n []) j)
    answers j below =
        subst (λ (part : Sent). AnswersWhole [] j part.sends (at (replicate {A = List Message} n []) j)) (sym (get_or-replicate n j (nothing_sent false) (nothing_sent false) below))
        (subst (AnswersWhole [] j []) (sym (at-none n j)) (record { inner = tt; answers = λ all. refl }))

pub IsTied-opened : (p : Test) (m n : ℕ) → 1 ≤ n → IsTied (opened_wrap p m n) (replicate (suc n) []) (replicate (suc n) [])
IsTied-opened p m n some =
    let number : length (replicate {A = List ℕ} n []) ≡ n = length-replicate n [] in record {
      some = omega (arith, some, number);
      ins = length-replicate (suc n) [] ∙ ap suc (sym number);
      flags = ap suc (length-none_live n) ∙ ap suc (sym number);
      parts_are = length-replicate n (nothing_sent false) ∙ sym number;
      round = IsRound-opened p m n;
      logged = IsLogged-opened p m n;
      over = sym (le-ltb m 0 (omega arith));
      cause = λ e. absurd cc;
      ended = λ done. absurd (false≢true done);
      given = [];
      puts_are = subst (λ k. ArePut (suc k) (replicate (suc n) []) []) (sym number) (ArePut-none (suc n));
      tied = (TiedWorks-opened p m n, λ none. refl);
    }
