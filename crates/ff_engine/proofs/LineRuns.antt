-- What the jobs of a network that have ended have done.
use Rattle.std.proofs.Common.{◌≡◌, ℕ, ◌+◌, ◌≤◌, Bool, true, false, List, [], ◌∷◌, ◌++◌, length, map, sum_by, flat_map, Some, refl, sym, ap, ap₂, ◌∙◌, inl, inr, subst, append_assoc, append-nil, arith}
use Rattle.std.proofs.lemmas.Bool.{and_parts, both_ways}
use Rattle.std.proofs.lemmas.Grind.{flat_map-append}
use Rattle.std.specs.List.{AllByRecursion, list_all}
use Rattle.std.specs.Prelude.{Option, None, ◌⊎◌, if◌then◌else◌}
use Rattle.std.specs.Io.KnownBytes.{Appends}
use Rattle.ff_rec.specs.Counts.{counted}
use Rattle.ff_rec.specs.Lines.{Rec, line_of, text}
use Rattle.ff_rec.specs.Streams.{items, carried, closed, unaborted, GoesOn}
use Rattle.ff_rec.specs.declared.msg.Msg.TheVariants.{Eos as EosMsg, Abort as AbortMsg}
use Rattle.ff_rec.specs.Weights.{Same}
use Rattle.ff_rec.proofs.WeightLaws.{Same-trans, Same-sym, Same-≡}
use Rattle.ff_node.specs.Behaviour.{Behaviour}
use Rattle.ff_node.specs.Runs.{Message}
use Rattle.ff_port.specs.declared.answers.End.{End}
use Rattle.ff_port.specs.declared.answers.End.TheVariants.{Eos, Abort, Memory}
use Rattle.ff_net.specs.Counts.{units}
use Rattle.ff_net.specs.Forms.{has_wrap}
use Rattle.ff_net.specs.Meaning.{mean_rejected, mean_rejected_count, Answers, Fine}
use Rattle.ff_plan.specs.PlanLaws.{BeginsAnswer}
use Rattle.ff_plan.proofs.MeanPlain.{no_wrap_fine}
use Rattle.ff_plan.specs.Plans.{rows_of}
use Rattle.ff_spawn.specs.Counts.{RoseBy}
use Rattle.ff_spawn.specs.CountLaws.{RoseBy-worked_after}
use Rattle.ff_steps.proofs.Heads.{head-same, tail-same, cons≢nil}
use Rattle.ff_steps.proofs.MessageLists.{closed-front, items-closed, carried-append}
use Rattle.ff_steps.proofs.OverBegins.{BeginsAnswer-over}
use Rattle.ff_steps.proofs.OverWhole.{HasAnswered-over, LogsAreRight-over, Over-over}
use Rattle.ff_steps.specs.OverEdges.{HasAnswered, RanAlong, RanOver}
use Rattle.ff_steps.specs.NetUnits.{net_does, any_over}
use Rattle.ff_steps.proofs.OverEnds.{HasEndedWell}
use Rattle.ff_stream.specs.Endings.{Begun, IsBeginning, IsReported}
use Rattle.ff_stream.specs.FlowLaws.{Begun-beginning}
use Rattle.ff_stream.specs.Jobs.{Job}
use Rattle.ff_stream.specs.Works.{HasBroken, HasEnded as RunEnded, IsOpen as IsOpenRun}
use Rattle.ff_stream.specs.declared.ending.Report.{Report}
use Rattle.ff_stream.specs.declared.fault.Halt.{Halt}
use Rattle.ff_stream.specs.declared.fault.Halt.TheVariants.{Write, NoMemory}
use Rattle.ff_unit.specs.MessageLaws.{IsOpen-carried, items-append, unaborted-closed, unaborted-cut}
use Rattle.ff_unit.specs.Units.{Doing, end_of}
use Rattle.ff_engine.specs.Crews.{IsJoined}
use Rattle.ff_engine.specs.Ends.{ends_by_eos}
use Rattle.ff_engine.specs.Jobs.{JobState, handled}
use Rattle.ff_engine.specs.Networks.{UnitOf, AreJobsOf, HasDoneTasks}
use Rattle.ff_engine.proofs.Finished.{openings-finished, rows-finished, taken-finished, RanAlong-finished}
use Rattle.ff_engine.proofs.Handled.{handled-all}
use Rattle.ff_engine.proofs.NetLaws.{IsUnit-laws}
use Rattle.ff_engine.proofs.Opened.{opened-again, untaken}

-- records that were put go on to all that follow, whether Abort was put behind them
pub GoesOn-open : (before : List Message) (xs zs : List Rec) → before ≡ carried xs ++ AbortMsg ∷ [] → GoesOn (unaborted before) (carried (xs ++ zs))
GoesOn-open before xs zs is = record {
  inner = IsOpen-carried (xs ++ zs);
  more = closed (carried zs);
  is = ap closed (carried-append xs zs) ∙ append_assoc (carried xs) (carried zs) (EosMsg ∷ [])
      ∙ ap (λ ms. ms ++ closed (carried zs)) (sym (ap unaborted is ∙ unaborted-cut (carried xs) (IsOpen-carried xs)));
}

-- or Eos
pub GoesOn-closed : (before : List Message) (xs : List Rec) → before ≡ closed (carried xs) → GoesOn (unaborted before) (carried xs)
GoesOn-closed before xs is = record {
  inner = IsOpen-carried xs;
  more = [];
  is = sym (ap unaborted is ∙ unaborted-closed (carried xs) (IsOpen-carried xs)) ∙ sym (append-nil (unaborted before));
}

-- a unit that ends by Eos
ends-parts : (done : Bool) (fin : Option End) → ends_by_eos (if done then fin else None) ≡ true → (done ≡ true) × (fin ≡ Some Eos)
ends-parts true (Some Eos) is = (refl, refl)
ends-parts true (Some Abort) is = absurd (both_ways false refl is)
ends-parts true (Some Memory) is = absurd (both_ways false refl is)
ends-parts true None is = absurd (both_ways false refl is)
ends-parts false fin is = absurd (both_ways false refl is)

-- with a wrap nothing was written, and without one it begins an answer
Begun-either : {N : Type 0} (j : Job N) (halt : Halt) (xs : List Rec) (front : List ℕ) (wraps : Bool) → (wraps ≡ true → (front ≡ []) × (halt ≡ NoMemory))
    → (wraps ≡ false → IsBeginning j xs front) → Begun j halt xs front
Begun-either j halt xs front true waits begins = let w = waits refl in subst (λ h. Begun j h xs front) (sym w.1) (inl w.0)
Begun-either j halt xs front false waits begins = Begun-beginning j halt xs front (begins refl)

module _ {N : Type 0} (b : Behaviour N) where
  abbrev d : Doing (UnitOf N)
  d = net_does b

  pub AllEnded : (us : List (UnitOf N)) → list_all (λ u. ends_by_eos (end_of (net_does b) u)) us ≡ true → AllByRecursion (HasEndedWell (net_does b)) us
  AllEnded [] all = tt
  AllEnded (u ∷ us) all =
      let parts = and_parts (ends_by_eos (end_of d u)) (list_all (λ v. ends_by_eos (end_of d v)) us) all in
      (ends-parts (d.done u) (d.fin u) parts.0, AllEnded us parts.1)

  flat-taken : (us vs : List (UnitOf N)) → map d.taken us ≡ map d.taken vs → flat_map d.taken us ≡ flat_map d.taken vs
  flat-taken [] [] same = refl
  flat-taken [] (v ∷ vs) same = absurd (cons≢nil (sym same))
  flat-taken (u ∷ us) [] same = absurd (cons≢nil same)
  flat-taken (u ∷ us) (v ∷ vs) same = ap₂ (λ l m. l ++ m) (head-same same) (flat-taken us vs (tail-same same))

  module _ (j : Job N) (was : List (JobState (UnitOf N))) (made : AreJobsOf b j was) (before : List Message) (us : List (UnitOf N)) (taken : List Message)
      (worked worked' : ℕ) (joined : IsJoined d before was us taken worked worked') where
    abbrev got : ℕ → List Message
    got = joined.settled.got

    abbrev put : ℕ → List Message
    put = joined.settled.put

    ran : RanAlong d got put (rows_of j.net) us
    ran =
        subst (λ rows. RanAlong d got put rows us) (rows-finished d was joined.finished joined.each ∙ made.rows_are)
        (subst (λ vs. RanAlong d got put (map (λ job. job.row) joined.finished) vs) (sym joined.units_are)
        (RanAlong-finished d got put was joined.finished joined.each joined.settled.each))

    -- the units ran over the edges of the network's plan
    over : RanOver b j.tasks j.keep j.net us got put
    over = record {
      made = ap (map d.opening) joined.units_are ∙ openings-finished d was joined.finished joined.each
          ∙ ap (map d.opening) made.units_are ∙ opened-again b j.tasks j.keep made.laws.kind j.net made.laws.good;
      first = joined.settled.first;
      ran = ran;
    }

    -- without a wrap what was taken behind them is the first of an answer
    begins : has_wrap j.net ≡ false → (xs : List Rec) → GoesOn (unaborted before) (carried xs) → BeginsAnswer b j.tasks j.net xs (items (put 1))
    begins free xs goes =
        BeginsAnswer-over b made.laws.kind (IsUnit-laws b made.laws.kind made.laws.class) j.tasks j.keep j.net made.laws.good (made.laws.cut_runs j.tasks) us got put over xs
        (subst (λ ms. GoesOn (unaborted ms) (carried xs)) (sym joined.settled.fed) goes) (no_wrap_fine b j.tasks j.net free xs)

    -- the text of it begins an answer
    IsBeginning-joined : has_wrap j.net ≡ false → (xs : List Rec) → GoesOn (unaborted before) (carried xs) → (front back : List ℕ)
        → text (items taken) ≡ front ++ back → IsBeginning j xs front
    IsBeginning-joined free xs goes front back splits =
        let begun = begins free xs goes in
        let more = joined.settled.first 1 in
        let came : begun.all ≡ items taken ++ (items more.0 ++ begun.rest) =
        begun.splits ∙ ap (λ l. l ++ begun.rest) (ap items more.1 ∙ items-append (got 1) more.0 ∙ ap (λ ms. items ms ++ items more.0) joined.settled.drained)
        ∙ append_assoc (items taken) (items more.0) begun.rest in
        record {
          sent = begun.all;
          back = back ++ text (items more.0 ++ begun.rest);
          answers = subst (λ does. Answers does j.tasks j.net xs begun.all) (sym made.does_is) begun.answers;
          splits = ap text came ∙ flat_map-append line_of (items taken) (items more.0 ++ begun.rest)
              ∙ ap (λ l. l ++ text (items more.0 ++ begun.rest)) splits ∙ append_assoc front back (text (items more.0 ++ begun.rest));
        }

    -- where Abort was put behind the records, it begins one whatever follows
    pub IsOpen-joined : (halt : Halt) (xs : List Rec) → before ≡ carried xs ++ AbortMsg ∷ [] → (front back : List ℕ) → text (items taken) ≡ front ++ back
        → (has_wrap j.net ≡ true → (front ≡ []) × (halt ≡ NoMemory)) → IsOpenRun j halt xs front
    IsOpen-joined halt xs put front back splits waits = record {
      begun = λ zs. Begun-either j halt (xs ++ zs) front (has_wrap j.net) waits
          (λ free. IsBeginning-joined free (xs ++ zs) (GoesOn-open before xs zs put) front back splits);
      waits = waits;
    }

    -- where it broke off at its end
    pub Begun-joined : (halt : Halt) (xs : List Rec) → (before ≡ carried xs ++ EosMsg ∷ []) ⊎ (before ≡ carried xs ++ AbortMsg ∷ []) → (front back : List ℕ)
        → text (items taken) ≡ front ++ back → (has_wrap j.net ≡ true → (front ≡ []) × (halt ≡ NoMemory)) → Begun j halt xs front
    Begun-joined halt xs put front back splits waits =
        Begun-either j halt xs front (has_wrap j.net) waits (λ free. IsBeginning-joined free xs goes front back splits)
      where
        goes : GoesOn (unaborted before) (carried xs)
        goes = elim put [
          | inl eos ↦ GoesOn-closed before xs eos
          | inr abort ↦ subst (λ l. GoesOn (unaborted before) (carried l)) (append-nil xs) (GoesOn-open before xs [] abort)
        ]

    module _ (xs : List Rec) (put_is : before ≡ closed (carried xs)) (all : AllByRecursion (HasEndedWell (net_does b)) us) where
      fed : put 0 ≡ closed (carried xs)
      fed = joined.settled.fed ∙ put_is

      -- more tasks came to a master than the limit allows
      pub Over-joined : any_over us ≡ true → Fine j.does j.tasks j.net xs → ⊥
      Over-joined is_over fine =
          Over-over b made.laws.kind (IsUnit-laws b made.laws.kind made.laws.class) j.tasks j.keep j.net made.laws.good us got put over all xs fed (made.laws.whole_runs j.tasks) is_over
          (subst (λ does. Fine does j.tasks j.net xs) made.does_is fine)

      -- none was taken out of the units while they ran
      none_taken : flat_map d.taken us ≡ []
      none_taken =
          ap (λ vs. flat_map d.taken vs) joined.units_are
          ∙ flat-taken (map (λ job. job.unit) joined.finished) (map (λ job. job.unit) was) (taken-finished d was joined.finished joined.each)
          ∙ ap (λ vs. flat_map d.taken vs) made.units_are ∙ untaken b j.tasks j.keep j.net

      -- the jobs handled each record, and an end for each unit
      pub WorkedThrough-joined : RoseBy (units j.net + length xs) worked worked'
      WorkedThrough-joined =
          let more = joined.settled.first 0 in
          let many : counted (units j.net + length xs) ≤ sum_by handled joined.finished =
          handled-all b (IsUnit-laws b made.laws.kind made.laws.class) j.net made.laws got put us joined.finished joined.settled.each (rows-finished d was joined.finished joined.each ∙ made.rows_are)
          ran all xs more.0 more.1 fed in
          let rose : RoseBy (sum_by handled joined.finished) worked worked' =
          subst (λ n. RoseBy (sum_by handled joined.finished) worked n) (sym joined.work) (RoseBy-worked_after handled worked joined.finished) in
          omega (arith, many, rose)

      -- where none is over its limit
      module _ (within : any_over us ≡ false) where
        answered : HasAnswered b j.tasks j.keep j.net xs us put
        answered =
            HasAnswered-over b made.laws.kind (IsUnit-laws b made.laws.kind made.laws.class) j.tasks j.keep j.net made.laws.good us got put over all xs fed (made.laws.whole_runs j.tasks) within

        -- by the logs of its wraps each task was done once
        pub HasDoneTasks-joined : HasDoneTasks b j xs
        HasDoneTasks-joined = record {
          units = us;
          got = got;
          put = put;
          ran = over;
          fed = fed;
          within = within;
          logs = LogsAreRight-over b made.laws.kind (IsUnit-laws b made.laws.kind made.laws.class) j.tasks j.keep j.net made.laws.good us got put over all xs fed (made.laws.log_laws j.tasks);
        }

        -- all that the network sends was taken, where Eos was
        items-joined : (front : List Message) → taken ≡ closed front → items taken ≡ answered.ys
        items-joined front is =
            let more = joined.settled.first 1 in
            let same : front ≡ carried answered.ys =
            closed-front front more.0 answered.ys (ap (λ ms. ms ++ more.0) (sym is ∙ sym joined.settled.drained) ∙ sym more.1 ∙ answered.carries) in
            ap items (is ∙ ap closed same) ∙ items-closed answered.ys

        -- the report of the units is that of the network
        IsReported-joined : (report : Report) → report.rejected ≡ counted (sum_by d.rejects us) → report.kept ≡ flat_map d.kept us → IsReported j xs report
        IsReported-joined report number kept = record {
          rejected = number ∙ answered.number ∙ ap (λ does. mean_rejected_count does j.tasks j.net xs) (sym made.does_is);
          kept = record {
            all = λ keep. subst (λ does. Same (mean_rejected does j.tasks j.net xs) report.kept) (sym made.does_is)
                (Same-trans (Same-sym (answered.kept keep)) (Same-≡ _ _ (ap (λ l. l ++ flat_map d.kept us) none_taken ∙ sym kept)));
            none = λ none. kept ∙ answered.none none;
          };
        }

        -- all of an answer was written
        pub RunEnded-joined : (report : Report) → report.rejected ≡ counted (sum_by d.rejects us) → report.kept ≡ flat_map d.kept us
            → (front last written : _) → taken ≡ closed last → text (items taken) ≡ front ++ written → (t t' : Option (List ℕ)) → Appends t t' written
            → RunEnded j xs front t t' report
        RunEnded-joined report number kept front last written eos splits t t' appended = record {
          put = written;
          taken = appended;
          sent = answered.ys;
          answers = subst (λ does. Answers does j.tasks j.net xs answered.ys) (sym made.does_is) answered.answers;
          whole = ap text (sym (items-joined last eos)) ∙ splits;
          reports = IsReported-joined report number kept;
        }

        -- a part of one
        pub HasBroken-joined : (front last written back : _) → taken ≡ closed last → text (items taken) ≡ (front ++ written) ++ back
            → (t t' : Option (List ℕ)) → Appends t t' written → HasBroken j Write xs front t t'
        HasBroken-joined front last written back eos splits t t' appended = record {
          put = written;
          taken = appended;
          begun = record {
            sent = answered.ys;
            back = back;
            answers = subst (λ does. Answers does j.tasks j.net xs answered.ys) (sym made.does_is) answered.answers;
            splits = ap text (sym (items-joined last eos)) ∙ splits;
          };
        }
