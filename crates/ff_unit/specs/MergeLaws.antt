-- A merge keeps the laws of a unit.
use Rattle.std.specs.Prelude.{◌⊎◌, IsSome}
use Rattle.std.proofs.Common.{◌≡◌, ◌≤◌, Bool, true, false, if◌then◌else◌, List, [], ◌∷◌, ◌++◌, length, Some, refl, sym, ap, ◌∙◌, subst, slice_set, length-set, arith, inl, inr}
use Rattle.std.proofs.lemmas.Option.{none-some}
use Rattle.ff_rec.specs.Streams.{IsOpen, at}
use Rattle.ff_rec.specs.declared.msg.Msg.TheVariants.{Item, Mark, Pick, Eos as EosMsg, Abort as AbortMsg}
use Rattle.ff_node.specs.Runs.{Message, Act, Took, Gave, Refused, Idle, Told, Handed, Leads}
use Rattle.ff_port.specs.declared.answers.End.{End}
use Rattle.ff_port.specs.declared.answers.End.TheVariants.{Eos, Abort, Memory}
use Rattle.ff_unit.specs.Closing.{any_live, none_live, told_well, decided}
use Rattle.ff_unit.specs.Merges.{MergeState, MergeStep, MergeReady, merge_takes, opened_merge, opening_merge, aborted_merge, merge_does}
use Rattle.ff_unit.specs.Units.{IsUnit, Ran, taken_by, told_by, told_acts}
use Rattle.ff_unit.specs.CarriedLaws.{BeginsCarried-open}
use Rattle.ff_unit.specs.FlagLaws.{any_live-none, length-all_live, length-none_live}
use Rattle.ff_unit.specs.MergeFitsLaws.{BeginsToFit-tied, FitsWhole-tied}
use Rattle.ff_unit.specs.MergeKeptLaws.{HasRun-merge}
use Rattle.ff_unit.specs.ShortLaws.{decided-memory, short_merge-step}
use Rattle.ff_unit.specs.MergeTiedLaws.{MergeTied, OutTied, OutTied-begun}

-- no act changes how many ins it has
length-closes : (w : MergeState) (any : Bool) → length (if any then w else record w { held = told_well w.end }).live ≡ length w.live
length-closes w true = refl
length-closes w false = refl

length-takes : (u : MergeState) (k : _) (m : Message) → length (merge_takes u k m).live ≡ length u.live
length-takes u k (Item x) = refl
length-takes u k Mark = refl
length-takes u k (Pick w) = refl
length-takes u k EosMsg = length-closes (record u { live = slice_set u.live k false }) (any_live (slice_set u.live k false)) ∙ length-set u.live k false
length-takes u k AbortMsg = length-set u.live k false

length-step : (u : MergeState) (act : Act) (v : MergeState) → MergeStep u act v → length v.live ≡ length u.live
length-step u (Took k m) v s = ap (λ w. length w.live) s.2 ∙ length-takes u k m
length-step u (Gave k m) v s = ap (λ w. length w.live) s.2
length-step u Refused v s = ap (λ w. length w.live) s.1
length-step u Idle v (inl e) = ap (λ w. length w.live) e
length-step u Idle v (inr s) = ap (λ w. length w.live) s.2
length-step u Told v s = ap (λ w. length w.live) s.1 ∙ length-none_live (length u.live)
length-step u (Handed x) v s = absurd s

-- only being told tells it
told-closes : (w : MergeState) (any : Bool) → (if any then w else record w { held = told_well w.end }).told ≡ w.told
told-closes w true = refl
told-closes w false = refl

told-takes : (u : MergeState) (k : _) (m : Message) → (merge_takes u k m).told ≡ u.told
told-takes u k (Item x) = refl
told-takes u k Mark = refl
told-takes u k (Pick w) = refl
told-takes u k EosMsg = told-closes (record u { live = slice_set u.live k false }) (any_live (slice_set u.live k false))
told-takes u k AbortMsg = refl

told-step : (u : MergeState) (act : Act) (v : MergeState) → MergeStep u act v → v.told ≡ told_by act u.told
told-step u (Took k m) v s = ap (λ w. w.told) s.2 ∙ told-takes u k m
told-step u (Gave k m) v s = ap (λ w. w.told) s.2
told-step u Refused v s = ap (λ w. w.told) s.1
told-step u Idle v (inl e) = ap (λ w. w.told) e
told-step u Idle v (inr s) = ap (λ w. w.told) s.2
told-step u Told v s = ap (λ w. w.told) s.1
told-step u (Handed x) v s = absurd s

taken-step : (u : MergeState) (act : Act) (v : MergeState) → MergeStep u act v → merge_does.taken v ≡ taken_by act (merge_does.taken u)
taken-step u (Took k m) v s = refl
taken-step u (Gave k m) v s = refl
taken-step u Refused v s = refl
taken-step u Idle v s = refl
taken-step u Told v s = refl
taken-step u (Handed x) v s = absurd s

-- what its run tied
tied : (u : MergeState) (gots puts : List (List Message)) → Ran merge_does u gots puts → MergeTied (length u.live) u gots puts
tied u gots puts ran =
    let some : 1 ≤ length u.live = omega (arith, ran.0.0, length-all_live (length u.live)) in
    HasRun-merge u gots puts some ran.1

-- its ports are as its code asks
MergeReady-run : (u : MergeState) (gots puts : List (List Message)) → MergeTied (length u.live) u gots puts → MergeReady u gots puts
MergeReady-run u gots puts t = record {
  ins = t.ins.ins;
  one_out = ap length t.puts_are;
  open_out = subst (λ ls. (u.held ≡ []) ⊎ IsOpen (at ls 0)) (sym t.puts_are) (open_put u.held refl);
  ended = t.ended;
}
  where
    open_put : (held : List Message) → u.held ≡ held → (u.held ≡ []) ⊎ IsOpen t.put
    open_put [] e = inl e
    open_put (m ∷ held) e =
        inr (BeginsCarried-open t.put t.ys (OutTied-begun u.end (any_live u.live) t.put held t.ys m
        (subst (λ l. OutTied u.end (any_live u.live) (t.put ++ l) t.ys) e t.out)))

-- one that has ended has decided how
decided-some : (any : Bool) (end : End) → any ≡ false → IsSome (decided any end)
decided-some true end e = absurd cc
decided-some false end e = refl

-- it ends by Abort only where it was told to or took one
decided-abort : (any : Bool) (end : End) → decided any end ≡ Some Abort → end ≡ Abort
decided-abort true end e = absurd (none-some Abort e)
decided-abort false Eos e = absurd cc
decided-abort false Abort e = refl
decided-abort false Memory e = absurd cc

-- one that is told to abort puts Abort on its out and ends
Leads-aborted : (u : MergeState) → u ≡ opening_merge u → Leads MergeStep u (told_acts 1) (aborted_merge u)
Leads-aborted u fresh =
    let none : u.held ≡ [] = ap (λ s. s.held) fresh in
    let told = record u { live = none_live (length u.live); held = AbortMsg ∷ []; end = Abort; told = true } in
    let given = record u { live = none_live (length u.live); held = []; end = Abort; told = true } in (
      given,
      (told, (u, refl, (fresh, refl)), (refl, refl, refl)),
      inr (
        refl,
        any_live-none (length u.live),
        ap (λ (h : List Message). record u { live = none_live (length u.live); held = h; end = Abort; done = true; told = true }) none,
      ),
    )

pub IsUnit-merge : IsUnit merge_does
IsUnit-merge = record {
  opening_kept = λ u act v s. ap (λ n. opened_merge n) (length-step u act v s);
  taken_kept = taken-step;
  told_kept = told-step;
  opened = λ u. (refl, refl, refl);
  ready = λ u gots puts ran. MergeReady-run u gots puts (tied u gots puts ran);
  ends = λ u gots puts ran done. decided-some (any_live u.live) u.end ((tied u gots puts ran).ended done).1;
  begins = λ u gots puts ran. BeginsToFit-tied (length u.live) u gots puts (tied u gots puts ran);
  whole = λ u gots puts ran. FitsWhole-tied (length u.live) u gots puts (tied u gots puts ran);
  rejects_are = λ u gots puts ran done fin. record { number_is = refl; kept_are = λ e. absurd cc; none = λ e. refl };
  causes = λ u gots puts ran fin. (tied u gots puts ran).ins.cause (decided-abort (any_live u.live) u.end fin);
  not_short = λ u. (refl, refl);
  short_ends = λ u. decided-memory (any_live u.live) u.end;
  short_by = short_merge-step;
  asks_kept = λ u act v s asks. asks;
  aborts_by = Leads-aborted;
}
