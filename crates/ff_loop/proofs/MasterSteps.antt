-- What a master holds stays as its log says.
use Rattle.std.proofs.Common.{◌≡◌, ℕ, ◌+◌, ◌<◌, List, [], ◌∷◌, ◌++◌, length, get_or, refl, sym, ap, subst, ◌∙◌, arith, length-append}
use Rattle.std.proofs.Math.ListN.{set}
use Rattle.std.proofs.lemmas.List.{length-set}
use Rattle.std.specs.List.{concat}
use Rattle.ff_rec.specs.Weights.{Same, weigh}
use Rattle.ff_rec.proofs.WeightLaws.{weigh-append}
use Rattle.ff_loop.specs.Events.{Offered, Given, Back, numbers, backs, IsReady, IsOut}
use Rattle.ff_loop.specs.Scheduling.{Scheduling, Goes, made_by}
use Rattle.ff_loop.specs.Moves.{Fed, Gave, Got, asked, answered, numbers_to, numbers_from, IsLegal}
use Rattle.ff_loop.specs.Masters.{MasterState, IsKept, Moves}
use Rattle.ff_loop.proofs.Queues.{concat-at, concat-set, queue-more, queue-less}
use Rattle.ff_loop.proofs.MasterCounts.{numbers_to-length, numbers_from-length}

module _ {T A S : Type 0} (d : Scheduling T A S) where
  -- a task is fed in
  pub Moves-fed : (m : MasterState T A S) (s : S) (t : T) → IsKept d m → Goes d m.scheduler s (Offered t ∷ d.events m.scheduler)
      → Moves d m (record m { scheduler = s; log = Fed t ∷ m.log }) (Fed t)
  Moves-fed m s t kept goes = record {
    kept = record {
      right = goes.right;
      kind = goes.kind ∙ kept.kind;
      events = goes.events ∙ ap (λ e. Offered t ∷ e) kept.events;
      queues = kept.queues;
      balance = subst (λ e. Same (backs e ++ concat m.held) (numbers e)) (sym goes.events) kept.balance;
      legal = kept.legal;
    };
    log = refl;
    start = refl;
    taken = goes.taken;
    workers = refl;
  }

  -- a task is given
  pub Moves-gave : (m : MasterState T A S) (s : S) (w id : ℕ) (t : T) → IsKept d m → w < length m.held
      → IsReady (made_by d m.scheduler) t (d.events m.scheduler) → Goes d m.scheduler s (Given id t ∷ d.events m.scheduler)
      → Moves d m (record m { scheduler = s; held = set m.held w (get_or m.held w [] ++ id ∷ []); log = Gave w id t ∷ m.log }) (Gave w id t)
  Moves-gave m s w id t kept below ready goes = record {
    kept = record {
      right = goes.right;
      kind = goes.kind ∙ kept.kind;
      events = goes.events ∙ ap (λ e. Given id t ∷ e) kept.events;
      queues = λ j under. queue-more m.held w j id (numbers_from j m.log) (numbers_to j m.log) below
          (kept.queues j (subst (λ n. j < n) (length-set m.held w more) under));
      balance = subst (λ e. Same (backs e ++ concat (set m.held w more)) (numbers e)) (sym goes.events) (record {
        by = λ h. omega (
          arith,
          kept.balance.by h,
          weigh-append h (backs (d.events m.scheduler)) (concat m.held),
          weigh-append h (backs (d.events m.scheduler)) (concat (set m.held w more)),
          weigh-append h (get_or m.held w []) (id ∷ []),
          concat-set h m.held w more below,
        );
      });
      legal = subst (λ n. IsLegal n (d.made (d.kind m.start)) (d.events m.start) (Gave w id t ∷ m.log)) (sym (length-set m.held w more)) (
        below,
        subst (λ e. IsReady (d.made (d.kind m.start) e) t e) kept.events
            (subst (λ k. IsReady (d.made k (d.events m.scheduler)) t (d.events m.scheduler)) kept.kind ready),
        kept.legal,
      );
    };
    log = refl;
    start = refl;
    taken = goes.taken;
    workers = length-set m.held w more;
  }
    where
      more : List ℕ
      more = get_or m.held w [] ++ id ∷ []

  -- what a worker holds is out
  pub IsOut-first : (m : MasterState T A S) (w id : ℕ) (rest : List ℕ) → IsKept d m → w < length m.held → get_or m.held w [] ≡ id ∷ rest
      → IsOut id (d.events m.scheduler)
  IsOut-first m w id rest kept below first = record {
    by = λ h. omega (
      arith,
      kept.balance.by h,
      weigh-append h (backs (d.events m.scheduler)) (concat m.held),
      concat-at h m.held w below,
      ap (weigh h) first,
    );
  }

  -- a worker holds as many numbers as it owes answers
  pub held-length : (m : MasterState T A S) (w : ℕ) → IsKept d m → w < length m.held
      → length (get_or m.held w []) + length (answered w m.log) ≡ length (asked w m.log)
  held-length m w kept below = omega (
    arith,
    ap length (kept.queues w below),
    length-append (numbers_from w m.log) (get_or m.held w []),
    numbers_to-length w m.log,
    numbers_from-length w m.log,
  )

  pub owed-held : (m : MasterState T A S) (w : ℕ) → IsKept d m → w < length m.held → length (answered w m.log) < length (asked w m.log)
      → 0 < length (get_or m.held w [])
  owed-held m w kept below owed = omega (arith, held-length m w kept below)

  -- an answer is got
  pub Moves-got : (m : MasterState T A S) (s : S) (w id : ℕ) (rest : List ℕ) (a : A) → IsKept d m → w < length m.held
      → length (answered w m.log) < length (asked w m.log) → get_or m.held w [] ≡ id ∷ rest
      → Goes d m.scheduler s (Back id a ∷ d.events m.scheduler)
      → Moves d m (record m { scheduler = s; held = set m.held w rest; log = Got w id a ∷ m.log }) (Got w id a)
  Moves-got m s w id rest a kept below owed first goes = record {
    kept = record {
      right = goes.right;
      kind = goes.kind ∙ kept.kind;
      events = goes.events ∙ ap (λ e. Back id a ∷ e) kept.events;
      queues = λ j under. queue-less m.held w j id rest (numbers_from j m.log) (numbers_to j m.log) below first
          (kept.queues j (subst (λ n. j < n) (length-set m.held w rest) under));
      balance = subst (λ e. Same (backs e ++ concat (set m.held w rest)) (numbers e)) (sym goes.events) (record {
        by = λ h. omega (
          arith,
          kept.balance.by h,
          weigh-append h (backs (d.events m.scheduler)) (concat m.held),
          weigh-append h (backs (d.events m.scheduler)) (concat (set m.held w rest)),
          concat-set h m.held w rest below,
          ap (weigh h) first,
        );
      });
      legal = subst (λ n. IsLegal n (d.made (d.kind m.start)) (d.events m.start) (Got w id a ∷ m.log)) (sym (length-set m.held w rest))
          (below, owed, kept.legal);
    };
    log = refl;
    start = refl;
    taken = goes.taken;
    workers = length-set m.held w rest;
  }
