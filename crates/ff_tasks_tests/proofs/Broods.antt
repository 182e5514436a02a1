-- What a brood holds stays as its events say.
use Rattle.std.proofs.Common.{◌≡◌, ℕ, ◌+◌, ◌<◌, ◌≤◌, ◌/◌, ◌%◌, ◌^◌, List, [], ◌∷◌, ◌++◌, length, refl, sym, ap, subst, ◌∙◌, arith, length-append}
use Rattle.std.specs.Prelude.{Some, None}
use Rattle.std.specs.List.{AllByRecursion}
use Rattle.std.proofs.lemmas.List.{nil_from_length, length-replicate}
use Rattle.ff_rec.specs.Weights.{weigh}
use Rattle.ff_rec.proofs.Joins.{AllByRecursion-weaker}
use Rattle.ff_rec.proofs.WeightLaws.{weigh-append, weigh-one}
use Rattle.ff_loop.specs.Events.{SchedEvent, Offered, Given, Back, given, numbers, backs, IsIdle, IsOut}
use Rattle.ff_loop.specs.Scheduling.{Goes, Nexts}
use Rattle.ff_loop.proofs.Fewer.{Within-back}
use Rattle.ff_tasks_tests.specs.declared.brood.Brood.{Brood}
use Rattle.ff_tasks_tests.specs.Broods.{young, came, Holds, IsRight, HasGrown, brood_does}

-- by equations of its parts
Goes-by : (b b' : Brood) (log : List (SchedEvent ℕ ℕ))
    → Holds b'.ready.items b'.answers.items b'.came b'.given b'.back log → b'.events ≡ log
    → Goes brood_does b b' log
Goes-by b b' log holds noted = record {
  right = subst (λ e. Holds b'.ready.items b'.answers.items b'.came b'.given b'.back e) (sym noted) holds;
  kind = refl;
  events = noted;
  taken = refl;
}

-- the numbers below this one
below : (n n' : ℕ) (ks : List ℕ) → n ≤ n' → AllByRecursion (λ k. k < n) ks → AllByRecursion (λ k. k < n') ks
below n n' ks less all = AllByRecursion-weaker (λ k. k < n) (λ k. k < n') (λ k under. omega (arith, under, less)) ks all

module _ (b : Brood) (right : IsRight b) where
  -- a task is fed in
  pub Goes-fed : (u b' : Brood) (t : ℕ) → u.ready.items ≡ b.ready.items → u.answers.items ≡ b.answers.items
      → u.came ≡ b.came → u.given ≡ b.given → u.back ≡ b.back → u.events ≡ Offered t ∷ b.events
      → HasGrown u b' 1 t → Goes brood_does b b' (Offered t ∷ b.events)
  Goes-fed u b' t ready answers all out back noted grown =
      let more : b'.ready.items ≡ b.ready.items ++ t ∷ [] = grown.ready_is ∙ ap (λ r. r ++ t ∷ []) ready in
      Goes-by b b' (Offered t ∷ b.events) (record {
        tasks = λ h. omega (arith, right.tasks h, weigh-append h (came b.events) (t ∷ []), weigh-append h b.ready.items (t ∷ []), ap (weigh h) more);
        answers_are = grown.answers_stay ∙ answers ∙ right.answers_are;
        all_is = omega (arith, right.all_is, grown.came_is, all, grown.given_stays, out, ap length more, length-append b.ready.items (t ∷ []));
        few = grown.few;
        given_is = grown.given_stays ∙ out ∙ right.given_is;
        back_is = grown.back_stays ∙ back ∙ right.back_is;
        numbers_below = below b.given b'.given (numbers b.events) (omega (arith, grown.given_stays, out)) right.numbers_below;
        balance = right.balance;
      }) (grown.events_stay ∙ noted)

  -- an answer is back, and its tasks come
  pub Goes-back : (u b' : Brood) (id a : ℕ) → IsOut id b.events → u.ready.items ≡ b.ready.items
      → u.answers.items ≡ b.answers.items ++ a ∷ [] → u.came ≡ b.came → u.given ≡ b.given → u.back ≡ b.back + 1
      → u.events ≡ Back id a ∷ b.events → HasGrown u b' (a % 1000) (a / 1000) → Goes brood_does b b' (Back id a ∷ b.events)
  Goes-back u b' id a is_out ready answers all out back noted grown =
      let more : b'.ready.items ≡ b.ready.items ++ young a = grown.ready_is ∙ ap (λ r. r ++ young a) ready in
      Goes-by b b' (Back id a ∷ b.events) (record {
        tasks = λ h. omega (arith, right.tasks h, weigh-append h (came b.events) (young a), weigh-append h b.ready.items (young a), ap (weigh h) more);
        answers_are = grown.answers_stay ∙ answers ∙ ap (λ l. l ++ a ∷ []) right.answers_are;
        all_is = omega (arith, right.all_is, grown.came_is, all, grown.given_stays, out, ap length more, length-append b.ready.items (young a), length-replicate (a % 1000) (a / 1000));
        few = grown.few;
        given_is = grown.given_stays ∙ out ∙ right.given_is;
        back_is = omega (arith, grown.back_stays, back, right.back_is);
        numbers_below = below b.given b'.given (numbers b.events) (omega (arith, grown.given_stays, out)) right.numbers_below;
        balance = is_out;
      }) (grown.events_stay ∙ noted)

  -- one that is out is counted
  pub back-below : (id : ℕ) → IsOut id b.events → b.back < b.given
  back-below id is_out = omega (arith, right.given_is, right.back_is, is_out.by (λ _. 1), weigh-one (backs b.events), weigh-one (numbers b.events))

  pub back-fits : (id : ℕ) → IsOut id b.events → b.back + 1 < 2 ^ 64
  back-fits id is_out = omega (arith, back-below id is_out, right.all_is, right.few)

  -- none is ready
  pub Nexts-none : (b' : Brood) → b.ready.items ≡ [] → b'.ready.items ≡ b.ready.items
      → b'.answers.items ≡ b.answers.items → b'.came ≡ b.came → b'.given ≡ b.given → b'.back ≡ b.back
      → b'.events ≡ b.events
      → Nexts brood_does b None b'
  Nexts-none b' none ready answers all out back noted = (
    record { by = λ h. omega (arith, right.tasks h, ap (weigh h) none) },
    Goes-by b b' b.events (record {
      tasks = λ h. omega (arith, right.tasks h, ap (weigh h) ready);
      answers_are = answers ∙ right.answers_are;
      all_is = omega (arith, right.all_is, all, out, ap length ready);
      few = omega (arith, right.few, all);
      given_is = out ∙ right.given_is;
      back_is = back ∙ right.back_is;
      numbers_below = below b.given b'.given (numbers b.events) (omega (arith, out)) right.numbers_below;
      balance = right.balance;
    }) noted,
  )

  pub given-fits : (t : ℕ) (rest : List ℕ) → b.ready.items ≡ rest ++ t ∷ [] → b.given + 1 < 2 ^ 64
  given-fits t rest last = omega (arith, right.all_is, right.few, ap length last, length-append rest (t ∷ []))

  -- the last ready task is given
  pub Nexts-some : (b' : Brood) (t : ℕ) → b.ready.items ≡ b'.ready.items ++ t ∷ []
      → b'.answers.items ≡ b.answers.items → b'.came ≡ b.came → b'.given ≡ b.given + 1 → b'.back ≡ b.back
      → b'.events ≡ Given b.given t ∷ b.events → Nexts brood_does b (Some (b.given, t)) b'
  Nexts-some b' t last answers all out back noted = (
    record { by = λ h. omega (arith, right.tasks h, ap (weigh h) last, weigh-append h b'.ready.items (t ∷ [])) },
    AllByRecursion-weaker (λ n. n < b.given) (λ n. ¬ (n ≡ b.given)) (λ n under same. omega (arith, under, same)) (numbers b.events) right.numbers_below,
    Goes-by b b' (Given b.given t ∷ b.events) (record {
      tasks = λ h. omega (arith, right.tasks h, ap (weigh h) last, weigh-append h b'.ready.items (t ∷ []), weigh-append h (given b.events) (t ∷ []));
      answers_are = answers ∙ right.answers_are;
      all_is = omega (arith, right.all_is, all, out, ap length last, length-append b'.ready.items (t ∷ []));
      few = omega (arith, right.few, all);
      given_is = omega (arith, out, right.given_is);
      back_is = back ∙ right.back_is;
      numbers_below = (omega (arith, out), below b.given b'.given (numbers b.events) (omega (arith, out)) right.numbers_below);
      balance = record { by = λ h. omega (arith, right.balance.by h) };
    }) noted,
  )

  -- a task that was just given is out
  pub IsOut-next : (b' : Brood) (id t : ℕ) → Nexts brood_does b (Some (id, t)) b' → IsOut id b'.events
  IsOut-next b' id t nexts = subst (IsOut id) (sym nexts.2.events) (record { by = λ h. omega (arith, right.balance.by h) })

  -- all that came is back
  pub IsIdle-back : b.back ≡ b.came → IsIdle (came b.events) b.events
  IsIdle-back same =
      let counted : length (backs b.events) ≤ length (numbers b.events) =
      omega (arith, right.balance.by (λ _. 1), weigh-one (backs b.events), weigh-one (numbers b.events)) in
      let none : b.ready.items ≡ [] = nil_from_length b.ready.items (omega (arith, right.all_is, right.given_is, right.back_is, same, counted)) in (
        record { by = λ h. omega (arith, right.tasks h, ap (weigh h) none) },
        Within-back (backs b.events) (numbers b.events) right.balance (omega (arith, right.all_is, right.given_is, right.back_is, same)),
      )

  pub back-idle : IsIdle (came b.events) b.events → b.back ≡ b.came
  back-idle idle = omega (
    arith,
    right.all_is,
    right.given_is,
    right.back_is,
    right.tasks (λ _. 1),
    right.balance.by (λ _. 1),
    idle.0.by (λ _. 1),
    idle.1.by (λ _. 1),
    weigh-one b.ready.items,
    weigh-one (backs b.events),
    weigh-one (numbers b.events),
  )
