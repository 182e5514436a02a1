-- How workers end, and what is known of their answers then.
use Rattle.std.proofs.Common.{◌≡◌, ℕ, zero, suc, ◌+◌, ◌<◌, ◌≤◌, ◌⊎◌, false, Option, None, Some, List, [], ◌∷◌, ◌++◌, length, map, set, get_or, refl, sym, ap, ap₂, subst, ◌∙◌, arith, inl, inr, length-append, append_assoc, append-nil}
use Rattle.std.proofs.lemmas.List.{map-append, same_from_push}
use Rattle.std.proofs.lemmas.List.Sums.{sum_by-cons}
use Rattle.std.proofs.lemmas.List.Elements.{All-head, All-tail}
use Rattle.std.specs.List.{All, AllByRecursion, AllZip, sum_by}
use Rattle.ff_rec.specs.Counts.{counted}
use Rattle.ff_rec.specs.Streams.{items}
use Rattle.ff_spawn.specs.Counts.{RoseBy, worked_after}
use Rattle.ff_spawn.specs.CountLaws.{RoseBy-worked_after}
use Rattle.ff_tasks.specs.Crews.{AreSound, IsSettled, came}
use Rattle.ff_tasks.specs.Jobs.{JobState, Begins, HasAnswered, HasClosed, HasCutOff, handled}
use Rattle.ff_tasks.specs.Seats.{SeatState, Outlives, AllOutlive, TakesOne, links}
use Rattle.ff_rec.specs.declared.msg.Msg.{Msg}
use Rattle.ff_tasks.proofs.Firsts.{Begins-refl, Begins-same, Begins-trans, Begins-items, Begins-map}

-- no more than all of them
length-begins : {X : Type 0} (xs ys : List X) → Begins xs ys → length xs ≤ length ys
length-begins xs ys begins = omega (arith, ap length begins.is, length-append xs begins.more)

module _ {T A : Type 0} where
  pub Outlives-refl : (s : SeatState T A) → Outlives s s
  Outlives-refl s = record { put = refl; got = Begins-refl s.got; link = refl }

  pub Outlives-trans : (s s' s'' : SeatState T A) → Outlives s s' → Outlives s' s'' → Outlives s s''
  Outlives-trans s s' s'' a b = record { put = b.put ∙ a.put; got = Begins-trans s.got s'.got s''.got a.got b.got; link = b.link ∙ a.link }

  pub AllOutlive-refl : (ss : List (SeatState T A)) → AllOutlive ss ss
  AllOutlive-refl [] = tt
  AllOutlive-refl (s ∷ ss) = (Outlives-refl s, AllOutlive-refl ss)

  pub AllOutlive-trans : (ss ss' ss'' : List (SeatState T A)) → AllOutlive ss ss' → AllOutlive ss' ss'' → AllOutlive ss ss''
  AllOutlive-trans [] [] ss'' a b = b
  AllOutlive-trans [] (s' ∷ ss') ss'' a b = absurd a
  AllOutlive-trans (s ∷ ss) [] ss'' a b = absurd a
  AllOutlive-trans (s ∷ ss) (s' ∷ ss') [] a b = absurd b
  AllOutlive-trans (s ∷ ss) (s' ∷ ss') (s'' ∷ ss'') a b = (Outlives-trans s s' s'' a.0 b.0, AllOutlive-trans ss ss' ss'' a.1 b.1)

  -- one seat more
  pub AllOutlive-set : (ss ss' : List (SeatState T A)) (k : ℕ) (s s' : SeatState T A) → AllOutlive ss ss' → k < length ss' → s ≡ get_or ss' k s → Outlives s s'
      → AllOutlive ss (set ss' k s')
  AllOutlive-set [] [] k s s' all below here more = absurd (omega arith)
  AllOutlive-set [] (y ∷ ys) k s s' all below here more = absurd all
  AllOutlive-set (x ∷ xs) [] k s s' all below here more = absurd all
  AllOutlive-set (x ∷ xs) (y ∷ ys) zero s s' all below here more =
      (Outlives-trans x y s' all.0 (subst (λ z. Outlives z s') here more), all.1)
  AllOutlive-set (x ∷ xs) (y ∷ ys) (suc k) s s' all below here more =
      (all.0, AllOutlive-set xs ys k s s' all.1 (omega (arith, below)) here more)

  module _ {H : Type 0} (answers : H → T → A) where
    -- what a job put is the first of its handler's answers
    first-answered : (before after : JobState T A H) → before.ended ≡ false → HasAnswered answers before after
        → Begins (items after.put) (map (answers before.handler) (items after.got))
    first-answered before after begin answered = elim (answered.ends begin) [
      | inl closed ↦ Begins-same (items after.put) (map (answers before.handler) (items after.got)) (sym closed.all)
      | inr cut ↦ cut.first
    ]

    -- so what came from it is the first of what the function gives for what it was given
    seat_sound : (f : T → A) (s s' : SeatState T A) (before after : JobState T A H) → Outlives s s' → IsSettled s' after → before.ended ≡ false → HasAnswered answers before after
        → answers before.handler ≡ f → Begins (items s.got) (map f (items s.put))
    seat_sound f s s' before after out settled begin answered is =
        let come : Begins (items s.got) (items after.put) =
        Begins-trans (items s.got) (items s'.got) (items after.put) (Begins-items s.got s'.got out.got) (Begins-items s'.got after.put settled.back) in
        let first : Begins (items after.put) (map f (items after.got)) =
        subst (λ g. Begins (items after.put) (map g (items after.got))) is (first-answered before after begin answered) in
        let there : Begins (map f (items after.got)) (map f (items s'.put)) =
        Begins-map f (items after.got) (items s'.put) (Begins-items after.got s'.put settled.there) in
        subst (λ ts. Begins (items s.got) (map f ts)) out.put
        (Begins-trans (items s.got) (map f (items after.got)) (map f (items s'.put))
        (Begins-trans (items s.got) (items after.put) (map f (items after.got)) come first) there)

    pub AreSound-ended : (f : T → A) (ss ss' : List (SeatState T A)) (started finished : List (JobState T A H)) → AllOutlive ss ss' → AllZip IsSettled ss' finished
        → AllZip (HasAnswered answers) started finished → AllByRecursion (λ job. job.ended ≡ false) started → AllByRecursion (λ job. answers job.handler ≡ f) started
        → AreSound f ss
    AreSound-ended f [] ss' started finished out settled answered begin is = tt
    AreSound-ended f (s ∷ ss) [] started finished out settled answered begin is = absurd out
    AreSound-ended f (s ∷ ss) (s' ∷ ss') started [] out settled answered begin is = absurd settled
    AreSound-ended f (s ∷ ss) (s' ∷ ss') [] (j ∷ finished) out settled answered begin is = absurd answered
    AreSound-ended f (s ∷ ss) (s' ∷ ss') (i ∷ started) (j ∷ finished) out settled answered begin is = (
      seat_sound f s s' i j out.0 settled.0 begin.0 answered.0 is.0,
      AreSound-ended f ss ss' started finished out.1 settled.1 answered.1 begin.1 is.1,
    )

  came-handled : {H : Type 0} (ss ss' : List (SeatState T A)) (finished : List (JobState T A H)) → AllOutlive ss ss' → AllZip IsSettled ss' finished
      → counted (came ss) ≤ sum_by handled finished
  came-handled [] ss' finished out settled = omega arith
  came-handled (s ∷ ss) [] finished out settled = absurd out
  came-handled (s ∷ ss) (s' ∷ ss') [] out settled = absurd settled
  came-handled {H} (s ∷ ss) (s' ∷ ss') (j ∷ finished) out settled =
      let here : length (items s.got) ≤ length (items j.put) =
      length-begins (items s.got) (items j.put)
      (Begins-trans (items s.got) (items s'.got) (items j.put) (Begins-items s.got s'.got out.0.got) (Begins-items s'.got j.put settled.0.back)) in
      let rest : counted (came ss) ≤ sum_by handled finished = came-handled ss ss' finished out.1 settled.1 in
      omega (arith, here, rest, sum_by-cons (λ (s : SeatState T A). length (items s.got)) s ss, sum_by-cons (λ (j : JobState T A H). handled j) j finished)

  -- the count of work rose by as many as came
  pub RoseBy-came : {H : Type 0} (ss ss' : List (SeatState T A)) (finished : List (JobState T A H)) (worked worked' : ℕ) → AllOutlive ss ss' → AllZip IsSettled ss' finished
      → worked' ≡ worked_after handled worked finished → RoseBy (came ss) worked worked'
  RoseBy-came ss ss' finished worked worked' out settled is =
      omega (arith, is, came-handled ss ss' finished out settled, RoseBy-worked_after handled worked finished)

-- what was settled of two lists of seats and jobs, of which these are left
pub record SettledBehind {T A H : Type 0} (ss : List (SeatState T A)) (jobs : List (JobState T A H)) (left : List (SeatState T A)) (jobs_left : List (JobState T A H)) : Type 0 where
  pub seats : List (SeatState T A)
  pub finished : List (JobState T A H)
  pub seats_are : ss ≡ left ++ seats
  pub jobs_are : jobs ≡ jobs_left ++ finished
  pub each : AllZip IsSettled seats finished

-- the rings of seats and jobs stay
pub links-outlive : {T A : Type 0} (ss ss' : List (SeatState T A)) → AllOutlive ss ss' → links ss' ≡ links ss
links-outlive [] [] all = refl
links-outlive [] (s' ∷ ss') all = absurd all
links-outlive (s ∷ ss) [] all = absurd all
links-outlive (s ∷ ss) (s' ∷ ss') all = ap₂ (λ l ls. l ∷ ls) all.0.link (links-outlive ss ss' all.1)

pub links-finished : {T A H : Type 0} (answers : H → T → A) (started finished : List (JobState T A H)) → AllZip (HasAnswered answers) started finished
    → map (λ job. job.link) finished ≡ map (λ job. job.link) started
links-finished answers [] [] each = refl
links-finished answers [] (j ∷ finished) each = absurd each
links-finished answers (i ∷ started) [] each = absurd each
links-finished answers (i ∷ started) (j ∷ finished) each = ap₂ (λ l ls. l ∷ ls) each.0.link (links-finished answers started finished each.1)

-- the last of the seats and the last of the jobs have the same rings
pub links-last : {T A H : Type 0} (ss : List (SeatState T A)) (s : SeatState T A) (jobs : List (JobState T A H)) (job : JobState T A H)
    → links (ss ++ s ∷ []) ≡ map (λ j. j.link) (jobs ++ job ∷ []) → (links ss ≡ map (λ j. j.link) jobs) × (s.link ≡ job.link)
links-last {T} {A} {H} ss s jobs job same = same_from_push (links ss) (map (λ j. j.link) jobs) s.link job.link
    (sym (map-append (λ (s : SeatState T A). s.link) ss (s ∷ [])) ∙ same ∙ map-append (λ (j : JobState T A H). j.link) jobs (job ∷ []))

pub SettledBehind-none : {T A H : Type 0} (ss : List (SeatState T A)) (jobs : List (JobState T A H)) → SettledBehind ss jobs ss jobs
SettledBehind-none ss jobs = record { seats = []; finished = []; seats_are = sym (append-nil ss); jobs_are = sym (append-nil jobs); each = tt }

pub SettledBehind-more : {T A H : Type 0} (ss : List (SeatState T A)) (jobs : List (JobState T A H)) (left left' : List (SeatState T A)) (jobs_left jobs_left' : List (JobState T A H))
    (s : SeatState T A) (job : JobState T A H) → SettledBehind ss jobs left jobs_left → left ≡ left' ++ s ∷ [] → jobs_left ≡ jobs_left' ++ job ∷ [] → IsSettled s job
    → SettledBehind ss jobs left' jobs_left'
SettledBehind-more ss jobs left left' jobs_left jobs_left' s job behind last last' settled = record {
  seats = s ∷ behind.seats;
  finished = job ∷ behind.finished;
  seats_are = behind.seats_are ∙ ap (λ l. l ++ behind.seats) last ∙ append_assoc left' (s ∷ []) behind.seats;
  jobs_are = behind.jobs_are ∙ ap (λ l. l ++ behind.finished) last' ∙ append_assoc jobs_left' (job ∷ []) behind.finished;
  each = (settled, behind.each);
}

pub SettledBehind-all : {T A H : Type 0} (ss : List (SeatState T A)) (jobs : List (JobState T A H)) (left : List (SeatState T A)) → SettledBehind ss jobs left []
    → left ≡ [] → AllZip IsSettled ss jobs
SettledBehind-all ss jobs left behind none =
    subst (λ l. AllZip IsSettled l jobs) (sym (behind.seats_are ∙ ap (λ l. l ++ behind.seats) none))
    (subst (λ l. AllZip IsSettled behind.seats l) (sym behind.jobs_are) behind.each)

-- the handlers of jobs answer as `f` does
pub handlers-answer : {T A H : Type 0} (answers : H → T → A) (f : T → A) (jobs : List (JobState T A H)) → All (λ h. answers h ≡ f) (map (λ job. job.handler) jobs)
    → AllByRecursion (λ job. answers job.handler ≡ f) jobs
handlers-answer answers f [] all = tt
handlers-answer answers f (job ∷ jobs) all = (
  All-head (λ h. answers h ≡ f) job.handler (map (λ job. job.handler) jobs) all,
  handlers-answer answers f jobs (All-tail (λ h. answers h ≡ f) job.handler (map (λ job. job.handler) jobs) all),
)

-- a message more came, or none
pub Outlives-took : {T A : Type 0} (s s' : SeatState T A) (m : Option (Msg A)) (s'' : SeatState T A) → Outlives s s' → TakesOne s' m s'' → Outlives s s''
Outlives-took {T} {A} s s' None s'' out took = subst (λ z. Outlives s z) (sym took) out
Outlives-took {T} {A} s s' (Some m) s'' out took = Outlives-trans s s' s'' out (record {
  put = ap (λ (z : SeatState T A). items z.put) took;
  got = record { more = m ∷ []; is = ap (λ (z : SeatState T A). z.got) took };
  link = ap (λ (z : SeatState T A). z.link) took;
})
