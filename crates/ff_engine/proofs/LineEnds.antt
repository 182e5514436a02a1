-- How a line of threads takes records, and how it ends, in the words of a run.
use Rattle.std.proofs.Common.{◌≡◌, ℕ, Bool, true, false, List, [], ◌∷◌, ◌++◌, Some, refl, sym, ap, ap₂, ◌∙◌, inl, inr, subst, append_assoc, append-nil}
use Rattle.std.proofs.KnownBytes.{Appends-nil, Appends-trans}
use Rattle.std.proofs.lemmas.Bool.{both_ways}
use Rattle.std.proofs.lemmas.Grind.{flat_map-append}
use Rattle.std.proofs.lemmas.List.{map-append}
use Rattle.std.specs.Io.KnownBytes.{Appends, Keeps}
use Rattle.std.specs.List.{list_all}
use Rattle.std.specs.Prelude.{Option, None, Result, Ok, Err, OnOk, OnErr, IfErr, sum_by}
use Rattle.std.specs.List.{flat_map}
use Rattle.ff_rec.specs.Counts.{counted}
use Rattle.ff_rec.specs.Lines.{Rec, line_of, text}
use Rattle.ff_rec.specs.Streams.{IsOpen, items, carried}
use Rattle.ff_rec.specs.declared.msg.Msg.TheVariants.{Item, Eos, Abort}
use Rattle.ff_node.specs.Behaviour.{Behaviour}
use Rattle.ff_node.specs.Runs.{Message}
use Rattle.ff_net.specs.Forms.{has_wrap}
use Rattle.ff_net.specs.Meaning.{Fine}
use Rattle.ff_plan.proofs.MeanPlain.{no_wrap_fine}
use Rattle.ff_port.specs.declared.answers.End.{End}
use Rattle.ff_port.specs.declared.answers.End.TheVariants.{Eos as EndEos, Abort as EndAbort, Memory as EndMemory}
use Rattle.ff_ring.specs.Bundles.{ahead_of}
use Rattle.ff_steps.specs.NetUnits.{net_does, any_over}
use Rattle.ff_stream.specs.Endings.{halted, output_count}
use Rattle.ff_stream.specs.Jobs.{Job}
use Rattle.ff_stream.specs.Texts.{Writes, WritesSome}
use Rattle.ff_stream.specs.Works.{Ends, Goes, HasBroken, Halts, IsOpen as IsOpenRun, halt_count}
use Rattle.ff_stream.specs.declared.ending.Report.{Report}
use Rattle.ff_stream.specs.declared.fault.Halt.{Halt}
use Rattle.ff_stream.specs.declared.fault.Halt.TheVariants.{Write, NoMemory}
use Rattle.ff_stream.specs.declared.fault.RunFault.{RunFault}
use Rattle.ff_stream.specs.declared.fault.RunFault.TheVariants.{Tasks, Write as WriteFault, NoMemory as NoMemoryFault}
use Rattle.ff_unit.specs.MessageLaws.{IsOpen-carried, items-append}
use Rattle.ff_unit.specs.Units.{Doing, end_of}
use Rattle.ff_engine.specs.Callers.{CallerState, Moves, Breaks, SameRings, EndsOnce, EndsWithEos, TakesMore, Waits}
use Rattle.ff_engine.specs.Conclusions.{Concludes}
use Rattle.ff_engine.specs.Crews.{IsJoined}
use Rattle.ff_engine.specs.Ends.{ends_by_eos}
use Rattle.ff_engine.specs.Jobs.{JobState}
use Rattle.ff_engine.specs.Lines.{Linked}
use Rattle.ff_engine.specs.Networks.{UnitOf, HasDoneTasks, HasFed, HasStopped, WorkedThrough}
use Rattle.ff_engine.proofs.LineRuns.{AllEnded, Begun-joined, HasBroken-joined, HasDoneTasks-joined, IsOpen-joined, Over-joined, RunEnded-joined, WorkedThrough-joined}

-- what holds at every answer
pub on_err : {A E P : Type 0} (answer : Result A E) → P → OnErr answer P
on_err (Ok a) p = tt
on_err (Err e) p = p

pub on_ok : {A E P : Type 0} (answer : Result A E) → P → OnOk answer P
on_ok (Ok a) p = p
on_ok (Err e) p = tt

-- where records alone were put, more may be
pub IsOpen-put : (put : List Message) → put ≡ carried (items put) → IsOpen put
IsOpen-put put is = subst (λ ms. IsOpen ms) (sym is) (IsOpen-carried (items put))

-- and a record more is one of them
pub carried-fed : {A E : Type 0} (answer : Result A E) (put put' : List Message) (r : Rec) → put ≡ carried (items put)
    → OnOk answer (put' ≡ put ++ Item r ∷ []) → OnErr answer (put' ≡ put) → put' ≡ carried (items put')
carried-fed (Ok a) put put' r is fed stays =
    fed ∙ ap (λ ms. ms ++ Item r ∷ []) is ∙ sym (map-append (λ x. Item x) (items put) (r ∷ []))
    ∙ ap carried (sym (items-append put (Item r ∷ []))) ∙ ap (λ ms. carried (items ms)) (sym fed)
carried-fed (Err e) put put' r is fed stays = stays ∙ is ∙ ap (λ ms. carried (items ms)) (sym stays)

module _ {N : Type 0} (b : Behaviour N) where
  -- rings that stay are linked as before
  Linked-same : (c c' : CallerState) (jobs : List (JobState (UnitOf N))) → SameRings c c' → Linked c.writes jobs c.reads → Linked c'.writes jobs c'.reads
  Linked-same c c' jobs same linked = subst (λ w. Linked w jobs c'.reads) (sym same.writes) (subst (λ r. Linked c.writes jobs r) (sym same.reads) linked)

  -- what stands may be broken off for want of memory
  pub HasStopped-fed : (j : Job N) (c : CallerState) (jobs : List (JobState (UnitOf N))) (xs : List Rec) (front : List ℕ) → HasFed b j c jobs xs front
      → HasStopped b j c jobs NoMemory xs front
  HasStopped-fed j c jobs xs front at = record {
    put = at.put;
    linked = at.linked;
    back = c.text;
    splits = at.shows;
    waits = λ wraps. (at.waits wraps, refl);
    made = at.made;
  }

  -- with a wrap nothing is written, on and on
  waits-on : (j : Job N) (c : CallerState) (jobs : List (JobState (UnitOf N))) (xs : List Rec) (front written : List ℕ) → HasFed b j c jobs xs front → Waits c written
      → has_wrap j.net ≡ true → front ++ written ≡ []
  waits-on j c jobs xs front written at waits wraps = ap₂ (λ l k. l ++ k) (at.waits wraps) (waits (at.holds ∙ wraps))

  -- what stands goes on
  HasFed-moves : (j : Job N) (c c' : CallerState) (jobs : List (JobState (UnitOf N))) (xs rs : List Rec) (front : List ℕ) (t t' : Option (List ℕ)) → HasFed b j c jobs xs front
      → (moved : Moves c c' t t') → c'.put ≡ c.put ++ carried rs → SameRings c c' → HasFed b j c' jobs (xs ++ rs) (front ++ moved.written)
  HasFed-moves j c c' jobs xs rs front t t' at moved put same = record {
    put = put ∙ ap (λ ms. ms ++ carried rs) at.put ∙ sym (map-append (λ x. Item x) xs rs);
    linked = Linked-same c c' jobs same at.linked;
    shows = moved.shows front at.shows;
    holds = same.holds ∙ at.holds;
    waits = waits-on j c jobs xs front moved.written at moved.waits;
    made = at.made;
  }

  HasStopped-breaks : (j : Job N) (halt : Halt) (c c' : CallerState) (jobs : List (JobState (UnitOf N))) (xs : List Rec) (front : List ℕ) (t t' : Option (List ℕ))
      → HasFed b j c jobs xs front → (broke : Breaks c c' t t') → (c.holds ≡ true → halt ≡ NoMemory) → c'.put ≡ c.put → SameRings c c'
      → HasStopped b j c' jobs halt (xs ++ []) (front ++ broke.written)
  HasStopped-breaks j halt c c' jobs xs front t t' at broke starves put same =
      let rest = broke.shows front at.shows in
      record {
        put = put ∙ at.put ∙ ap carried (sym (append-nil xs));
        linked = Linked-same c c' jobs same at.linked;
        back = rest.0;
        splits = rest.1;
        waits = λ wraps. (waits-on j c jobs xs front broke.written at broke.waits wraps, starves (at.holds ∙ wraps));
        made = at.made;
      }

  module _ {W : Type 0} (seen : W → CallerState) (jobs : W → List (JobState (UnitOf N))) where
    abbrev stands : Job N → W → List Rec → List ℕ → Type 0
    stands = λ j w xs front. HasFed b j (seen w) (jobs w) xs front

    abbrev broken : Job N → W → Halt → List Rec → List ℕ → Type 0
    broken = λ j w halt xs front. HasStopped b j (seen w) (jobs w) halt xs front

    -- it took these records
    pub Goes-moves : (w v : W) (rs : List Rec) (t t' : Option (List ℕ)) → jobs v ≡ jobs w → Moves (seen w) (seen v) t t' → (seen v).put ≡ (seen w).put ++ carried rs
        → SameRings (seen w) (seen v) → Goes stands w rs v t t'
    Goes-moves w v rs t t' crew moved put same = record {
      put = moved.written;
      taken = moved.taken;
      keeps = λ j xs front at. subst (λ js. HasFed b j (seen v) js (xs ++ rs) (front ++ moved.written)) (sym crew)
          (HasFed-moves j (seen w) (seen v) (jobs w) xs rs front t t' at moved put same);
    }

    pub OnOk-moves : {A : Type 0} (answer : Result A Halt) (w v : W) (rs : List Rec) (t t' : Option (List ℕ)) → jobs v ≡ jobs w → OnOk answer (Moves (seen w) (seen v) t t')
        → OnOk answer ((seen v).put ≡ (seen w).put ++ carried rs) → SameRings (seen w) (seen v) → OnOk answer (Goes stands w rs v t t')
    OnOk-moves (Ok a) w v rs t t' crew moved put same = Goes-moves w v rs t t' crew moved put same
    OnOk-moves (Err halt) w v rs t t' crew moved put same = tt

    -- it broke off before it took the first of these records
    pub Halts-breaks : (w v : W) (rs : List Rec) (halt : Halt) (t t' : Option (List ℕ)) → jobs v ≡ jobs w → Breaks (seen w) (seen v) t t'
        → ((seen w).holds ≡ true → halt ≡ NoMemory) → (seen v).put ≡ (seen w).put → SameRings (seen w) (seen v) → Halts stands broken w rs halt v t t'
    Halts-breaks w v rs halt t t' crew broke starves put same = record {
      put = broke.written;
      taken = broke.taken;
      first = [];
      rest = rs;
      splits = refl;
      leaves = λ j xs front at. inr (subst (λ js. HasStopped b j (seen v) js halt (xs ++ []) (front ++ broke.written)) (sym crew)
          (HasStopped-breaks j halt (seen w) (seen v) (jobs w) xs front t t' at broke starves put same));
    }

    pub IfErr-breaks : {A : Type 0} (answer : Result A Halt) (w v : W) (rs : List Rec) (t t' : Option (List ℕ)) → jobs v ≡ jobs w → OnErr answer (Breaks (seen w) (seen v) t t')
        → IfErr answer (λ halt. (seen w).holds ≡ true → halt ≡ NoMemory) → OnErr answer ((seen v).put ≡ (seen w).put) → SameRings (seen w) (seen v)
        → IfErr answer (λ halt. Halts stands broken w rs halt v t t')
    IfErr-breaks (Ok a) w v rs t t' crew broke starves put same = tt
    IfErr-breaks (Err halt) w v rs t t' crew broke starves put same = Halts-breaks w v rs halt t t' crew broke starves put same

    -- a unit was short of memory, which came with what was shown
    pub Halts-shown : (w v : W) (t t' : Option (List ℕ)) → Goes stands w [] v t t' → Halts stands broken w [] NoMemory v t t'
    Halts-shown w v t t' goes = record {
      put = goes.put;
      taken = goes.taken;
      first = [];
      rest = [];
      splits = refl;
      leaves = λ j xs front at. inl (refl, goes.keeps j xs front at);
    }

    -- a unit was short of memory
    pub Halts-cut : (w v : W) (rs : List Rec) (t : Option (List ℕ)) → jobs v ≡ jobs w → seen v ≡ seen w → Halts stands broken w rs NoMemory v t t
    Halts-cut w v rs t crew same = record {
      put = [];
      taken = Appends-nil t;
      first = [];
      rest = rs;
      splits = refl;
      leaves = λ j xs front at. inr (
          subst (λ js. HasStopped b j (seen v) js NoMemory (xs ++ []) (front ++ [])) (sym crew)
          (subst (λ s. HasStopped b j s (jobs w) NoMemory (xs ++ []) (front ++ [])) (sym same)
          (subst (λ l. HasStopped b j (seen w) (jobs w) NoMemory l (front ++ [])) (sym (append-nil xs))
          (subst (λ l. HasStopped b j (seen w) (jobs w) NoMemory xs l) (sym (append-nil front)) (HasStopped-fed j (seen w) (jobs w) xs front at)))));
    }

-- a run broke off at its end
Ends-halted : {N : Type 0} (j : Job N) (halt : Halt) (xs : List Rec) (front : List ℕ) (t t' : Option (List ℕ)) → HasBroken j halt xs front t t' → Ends j xs front t t' (Err (halted halt))
Ends-halted j Write xs front t t' broken = broken
Ends-halted j NoMemory xs front t t' broken = broken

-- a network without a wrap has no limit
wraps-over : {N : Type 0} (j : Job N) (xs : List Rec) → (Fine j.does j.tasks j.net xs → ⊥) → (wraps : Bool) → has_wrap j.net ≡ wraps → wraps ≡ true
wraps-over j xs over true is = refl
wraps-over j xs over false is = absurd (over (no_wrap_fine j.does j.tasks j.net is xs))

-- where nothing was written, the bytes stay
Keeps-none : (t t' : Option (List ℕ)) (written : List ℕ) → Appends t t' written → written ≡ [] → Keeps t t'
Keeps-none None t' written appended none = tt
Keeps-none (Some xs) None written appended none = absurd appended
Keeps-none (Some xs) (Some ys) written appended none = appended ∙ ap (λ l. xs ++ l) none ∙ append-nil xs

-- an end by Eos
by-eos : (end : Option End) → ends_by_eos end ≡ true → end ≡ Some EndEos
by-eos None is = absurd (both_ways false refl is)
by-eos (Some EndEos) is = refl
by-eos (Some EndAbort) is = absurd (both_ways false refl is)
by-eos (Some EndMemory) is = absurd (both_ways false refl is)

-- a report is no fault
ok_err : {report : Report} {fault : RunFault} → Ok report ≡ Err fault → ⊥
ok_err both = cc

-- the sink's faults are counted as they were when what came was shown
pub counts-concluded : {A U : Type 0} (d : Doing U) (shown : Result A Halt) (end : Option End) (over : Bool) (us : List U) (answer : Result Report RunFault)
    → Concludes d shown end over us answer → (n n' : ℕ) → n' ≡ halt_count n shown → n' ≡ output_count n answer
counts-concluded d (Err Write) end over us answer concluded n n' counts = counts ∙ ap (λ a. output_count n a) (sym concluded)
counts-concluded d (Err NoMemory) end over us answer concluded n n' counts = counts ∙ ap (λ a. output_count n a) (sym concluded)
counts-concluded d (Ok a) end over us (Ok report) concluded n n' counts = counts
counts-concluded d (Ok a) end over us (Err Tasks) concluded n n' counts = counts
counts-concluded d (Ok a) end over us (Err WriteFault) concluded n n' counts = absurd concluded
counts-concluded d (Ok a) end over us (Err NoMemoryFault) concluded n n' counts = counts

module _ {N : Type 0} (b : Behaviour N) (j : Job N) (c c' : CallerState)
    (jobs : List (JobState (UnitOf N))) (xs : List Rec) (front : List ℕ) (at : HasFed b j c jobs xs front) (before : List Message) (us : List (UnitOf N)) (taken : List Message)
    (worked worked' : ℕ) (joined : IsJoined (net_does b) before jobs us taken worked worked') (puts : before ≡ c'.put) (gots : taken ≡ c'.got)
    (t t' : Option (List ℕ)) where
  once : EndsOnce c.put c'.put → EndsOnce (carried xs) before
  once ends = subst (λ ms. EndsOnce (carried xs) ms) (sym puts) (subst (λ ms. EndsOnce ms c'.put) at.put ends)

  -- what comes was shown in part
  pub Ends-broken : (halt : Halt) → EndsOnce c.put c'.put → Breaks c c' t t' → (c.holds ≡ true → halt ≡ NoMemory) → Ends j xs front t t' (Err (halted halt))
  Ends-broken halt ends broke starves =
      let rest = broke.shows front at.shows in
      Ends-halted j halt xs front t t' (record {
        put = broke.written;
        taken = broke.taken;
        begun = Begun-joined b j jobs at.made before us taken worked worked' joined halt xs (once ends) (front ++ broke.written) rest.0
            (ap (λ ms. text (items ms)) gots ∙ rest.1)
            (λ wraps. (waits-on b j c jobs xs front broke.written at broke.waits wraps, starves (at.holds ∙ wraps)));
      })

  -- all that comes was printed, and memory was short
  pub Ends-short : c'.put ≡ c.put ++ Eos ∷ [] → Moves c c' t t' → Ends j xs front t t' (Err (halted NoMemory))
  Ends-short put moved = record {
    put = moved.written;
    taken = moved.taken;
    begun = Begun-joined b j jobs at.made before us taken worked worked' joined NoMemory xs (once (inl put)) (front ++ moved.written) c'.text
        (ap (λ ms. text (items ms)) gots ∙ moved.shows front at.shows)
        (λ wraps. (waits-on b j c jobs xs front moved.written at moved.waits wraps, refl));
  }

  module _ (put : c'.put ≡ c.put ++ Eos ∷ []) (all : list_all (λ u. ends_by_eos (end_of (net_does b) u)) us ≡ true) where
    closed-put : before ≡ carried xs ++ Eos ∷ []
    closed-put = puts ∙ put ∙ ap (λ ms. ms ++ Eos ∷ []) at.put

    module _ (within : any_over us ≡ false) (report : Report) (eos : EndsWithEos c'.got) (moved : Moves c c' t t') (number : report.rejected ≡ counted (sum_by (net_does b).rejects us))
        (kept : report.kept ≡ flat_map (net_does b).kept us) where
      -- what came, behind what was written and before what is held
      split : (put back : List ℕ) → c'.text ≡ put ++ back → text (items taken) ≡ (front ++ (moved.written ++ put)) ++ back
      split put back splits =
          ap (λ ms. text (items ms)) gots ∙ moved.shows front at.shows ∙ ap (λ l. (front ++ moved.written) ++ l) splits
          ∙ sym (append_assoc (front ++ moved.written) put back) ∙ ap (λ l. l ++ back) (append_assoc front moved.written put)

      -- all that came was printed, to the end, and all of it was written
      pub Ends-ended : (t'' : Option (List ℕ)) → Writes c'.text [] t' t'' → Ends j xs front t t'' (Ok report)
      Ends-ended t'' wrote =
          RunEnded-joined b j jobs at.made before us taken worked worked' joined xs closed-put (AllEnded b us all) within report number kept
          front (ahead_of (Eos ∷ []) c'.got) (moved.written ++ wrote.put) (gots ∙ eos)
          (split wrote.put [] wrote.splits ∙ append-nil (front ++ (moved.written ++ wrote.put))) t t''
          (Appends-trans t t' t'' moved.written wrote.put moved.taken wrote.taken)

      -- or a part of it
      pub Ends-unwritten : (t'' : Option (List ℕ)) → WritesSome c'.text t' t'' → Ends j xs front t t'' (Err WriteFault)
      Ends-unwritten t'' wrote =
          HasBroken-joined b j jobs at.made before us taken worked worked' joined xs closed-put (AllEnded b us all) within
          front (ahead_of (Eos ∷ []) c'.got) (moved.written ++ wrote.put) wrote.back (gots ∙ eos)
          (split wrote.put wrote.back wrote.splits) t t'' (Appends-trans t t' t'' moved.written wrote.put moved.taken wrote.taken)

    -- or a unit was over its limit of tasks, and none of it was
    pub Ends-over : any_over us ≡ true → Moves c c' t t' → Ends j xs front t t' (Err Tasks)
    Ends-over is_over moved =
        let over : Fine j.does j.tasks j.net xs → ⊥ = Over-joined b j jobs at.made before us taken worked worked' joined xs closed-put (AllEnded b us all) is_over in
        let wraps = wraps-over j xs over (has_wrap j.net) refl in record {
          over = over;
          nothing = at.waits wraps;
          untouched = Keeps-none t t' moved.written moved.taken (moved.waits (at.holds ∙ wraps));
        }

    -- and the jobs handled all records
    pub WorkedThrough-ended : WorkedThrough j xs worked worked'
    WorkedThrough-ended = WorkedThrough-joined b j jobs at.made before us taken worked worked' joined xs closed-put (AllEnded b us all)

  -- it ended without a report
  pub Ends-unreported : {A : Type 0} (shown : Result A Halt) (end : Option End) (over : Bool) (fault : RunFault) → Concludes (net_does b) shown end over us (Err fault)
      → over ≡ any_over us
      → OnOk shown (c'.put ≡ c.put ++ Eos ∷ []) → OnOk shown (Moves c c' t t') → OnErr shown (EndsOnce c.put c'.put) → OnErr shown (Breaks c c' t t')
      → IfErr shown (λ halt. c.holds ≡ true → halt ≡ NoMemory) → Ends j xs front t t' (Err fault)
  Ends-unreported (Err halt) end over fault concluded is put moved ends broke starves =
      subst (λ (a : Result Report RunFault). Ends j xs front t t' a) (sym concluded) (Ends-broken halt ends broke starves)
  Ends-unreported (Ok a) end over Tasks concluded is put moved ends broke starves = Ends-over put concluded.units_ended (sym is ∙ concluded.over_is) moved
  Ends-unreported (Ok a) end over WriteFault concluded is put moved ends broke starves = absurd concluded
  Ends-unreported (Ok a) end over NoMemoryFault concluded is put moved ends broke starves = Ends-short put moved

  -- it ended with one, and what is held was written, all or a part of it
  pub Ends-reported : {A : Type 0} (shown : Result A Halt) (end : Option End) (over : Bool) (report : Report) → Concludes (net_does b) shown end over us (Ok report) → over ≡ any_over us
      → (end ≡ Some EndEos → EndsWithEos c'.got) → OnOk shown (c'.put ≡ c.put ++ Eos ∷ []) → OnOk shown (Moves c c' t t')
      → (t'' : Option (List ℕ)) → Writes c'.text [] t' t'' → Ends j xs front t t'' (Ok report)
  Ends-reported (Err halt) end over report concluded is eos put moved t'' wrote = absurd (ok_err concluded)
  Ends-reported (Ok a) end over report concluded is eos put moved t'' wrote =
      Ends-ended put concluded.out.units_ended (sym is ∙ concluded.out.over_is) report (eos (by-eos end concluded.out.stream)) moved concluded.rejected concluded.kept t'' wrote

  pub Ends-cut : {A : Type 0} (shown : Result A Halt) (end : Option End) (over : Bool) (report : Report) → Concludes (net_does b) shown end over us (Ok report) → over ≡ any_over us
      → (end ≡ Some EndEos → EndsWithEos c'.got) → OnOk shown (c'.put ≡ c.put ++ Eos ∷ []) → OnOk shown (Moves c c' t t')
      → (t'' : Option (List ℕ)) → WritesSome c'.text t' t'' → Ends j xs front t t'' (Err WriteFault)
  Ends-cut (Err halt) end over report concluded is eos put moved t'' wrote = absurd (ok_err concluded)
  Ends-cut (Ok a) end over report concluded is eos put moved t'' wrote =
      Ends-unwritten put concluded.out.units_ended (sym is ∙ concluded.out.over_is) report (eos (by-eos end concluded.out.stream)) moved concluded.rejected concluded.kept t'' wrote

  pub WorkedThrough-concluded : {A : Type 0} (shown : Result A Halt) (end : Option End) (over : Bool) (answer : Result Report RunFault)
      → Concludes (net_does b) shown end over us answer → OnOk shown (c'.put ≡ c.put ++ Eos ∷ []) → OnOk answer (WorkedThrough j xs worked worked')
  WorkedThrough-concluded (Err halt) end over answer concluded put = subst (λ (a : Result Report RunFault). OnOk a (WorkedThrough j xs worked worked')) (sym concluded) tt
  WorkedThrough-concluded (Ok a) end over (Ok report) concluded put = WorkedThrough-ended put concluded.out.units_ended
  WorkedThrough-concluded (Ok a) end over (Err fault) concluded put = tt

  HasDoneTasks-concluded : {A : Type 0} (shown : Result A Halt) (end : Option End) (over : Bool) (answer : Result Report RunFault)
      → Concludes (net_does b) shown end over us answer → over ≡ any_over us → OnOk shown (c'.put ≡ c.put ++ Eos ∷ []) → OnOk answer (HasDoneTasks b j xs)
  HasDoneTasks-concluded (Err halt) end over answer concluded is put = subst (λ (a : Result Report RunFault). OnOk a (HasDoneTasks b j xs)) (sym concluded) tt
  HasDoneTasks-concluded (Ok a) end over (Ok report) concluded is put =
      let all = concluded.out.units_ended in
      HasDoneTasks-joined b j jobs at.made before us taken worked worked' joined xs (closed-put put all) (AllEnded b us all) (sym is ∙ concluded.out.over_is)
  HasDoneTasks-concluded (Ok a) end over (Err fault) concluded is put = tt

-- the jobs handled all records, wherever a report came of it
pub WorkedThrough-all : {N A : Type 0} (b : Behaviour N) (c c' : CallerState)
    (jobs : List (JobState (UnitOf N))) (before : List Message) (us : List (UnitOf N)) (taken : List Message)
    (worked worked' : ℕ) → IsJoined (net_does b) before jobs us taken worked worked' → before ≡ c'.put → taken ≡ c'.got
    → (shown : Result A Halt) (end : Option End) (over : Bool) (answer : Result Report RunFault) → Concludes (net_does b) shown end over us answer
    → OnOk shown (c'.put ≡ c.put ++ Eos ∷ [])
    → OnOk answer ((j : Job N) (xs : List Rec) (front : List ℕ) → HasFed b j c jobs xs front → WorkedThrough j xs worked worked')
WorkedThrough-all b c c' jobs before us taken worked worked' joined puts gots shown end over (Ok report) concluded put = λ j xs front at.
    WorkedThrough-concluded b j c c' jobs xs front at before us taken worked worked' joined puts gots None None shown end over (Ok report) concluded put
WorkedThrough-all b c c' jobs before us taken worked worked' joined puts gots shown end over (Err fault) concluded put = tt

-- and did each task once
pub HasDoneTasks-all : {N A : Type 0} (b : Behaviour N) (c c' : CallerState)
    (jobs : List (JobState (UnitOf N))) (before : List Message) (us : List (UnitOf N)) (taken : List Message)
    (worked worked' : ℕ) → IsJoined (net_does b) before jobs us taken worked worked' → before ≡ c'.put → taken ≡ c'.got
    → (shown : Result A Halt) (end : Option End) (over : Bool) (answer : Result Report RunFault) → Concludes (net_does b) shown end over us answer → over ≡ any_over us
    → OnOk shown (c'.put ≡ c.put ++ Eos ∷ [])
    → OnOk answer ((j : Job N) (xs : List Rec) (front : List ℕ) → HasFed b j c jobs xs front → HasDoneTasks b j xs)
HasDoneTasks-all b c c' jobs before us taken worked worked' joined puts gots shown end over (Ok report) concluded is put = λ j xs front at.
    HasDoneTasks-concluded b j c c' jobs xs front at before us taken worked worked' joined puts gots None None shown end over (Ok report) concluded is put
HasDoneTasks-all b c c' jobs before us taken worked worked' joined puts gots shown end over (Err fault) concluded is put = tt

-- where Abort was put behind the records
pub IsOpen-stopped : {N : Type 0} (b : Behaviour N) (j : Job N) (halt : Halt) (c c' : CallerState)
    (jobs : List (JobState (UnitOf N))) (xs : List Rec) (front : List ℕ) → HasStopped b j c jobs halt xs front → (before : List Message) (us : List (UnitOf N)) (taken : List Message)
    (worked worked' : ℕ) → IsJoined (net_does b) before jobs us taken worked worked' → before ≡ c'.put → taken ≡ c'.got
    → c'.put ≡ c.put ++ Abort ∷ [] → (more : TakesMore c c') → IsOpenRun j halt xs front
IsOpen-stopped b j halt c c' jobs xs front at before us taken worked worked' joined puts gots put more =
    IsOpen-joined b j jobs at.made before us taken worked worked' joined halt xs (puts ∙ put ∙ ap (λ ms. ms ++ Abort ∷ []) at.put)
    front (at.back ++ text (items more.more))
    (ap (λ ms. text (items ms)) (gots ∙ more.is) ∙ ap text (items-append c.got more.more) ∙ flat_map-append line_of (items c.got) (items more.more)
    ∙ ap (λ l. l ++ text (items more.more)) at.splits ∙ append_assoc front at.back (text (items more.more)))
    at.waits
