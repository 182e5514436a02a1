-- A merge that waits, or has ended, passed on what came.
use Rattle.std.specs.Prelude.{◌≤◌, slice_set}
use Rattle.std.proofs.Common.{◌≡◌, ℕ, ◌<◌, Bool, true, false, List, [], ◌∷◌, ◌++◌, length, replicate, refl, sym, ap, ◌∙◌, subst, inl, inr, arith, append-nil}
use Rattle.std.proofs.lemmas.Bool.{false≢true}
use Rattle.ff_rec.specs.Streams.{at, added, carried}
use Rattle.ff_rec.specs.declared.msg.Msg.TheVariants.{Item, Mark, Pick, Eos as EosMsg, Abort as AbortMsg}
use Rattle.ff_node.specs.Runs.{Message, Act, Took, Gave, Refused, Idle, Told, Handed, took, gave, HasRun}
use Rattle.ff_port.specs.declared.answers.End.{End}
use Rattle.ff_port.specs.declared.answers.End.TheVariants.{Eos, Abort, Memory}
use Rattle.ff_unit.specs.Closing.{IsLive, any_live, all_live}
use Rattle.ff_unit.specs.FlagLaws.{length-all_live}
use Rattle.ff_unit.specs.MergeKeptLaws.{HasRun-merge}
use Rattle.ff_unit.specs.MergeTiedLaws.{MergeTied, OutTied, IsCutOff}
use Rattle.ff_unit.specs.Merges.{MergeState, MergeStep, MergeStalls, merge_takes, merge_closes, merge_does, opened_merge, opening_merge}
use Rattle.ff_unit.specs.RunLaws.{HasRun-keeps}
use Rattle.ff_unit.specs.Units.{Ran, Known}
use Rattle.ff_unit.proofs.Rests.{HasEnd}
use Rattle.ff_unit.proofs.Rests.{AtRest, IsFree, Rested}
use Rattle.ff_unit.proofs.FlagEnds.{FlagEnds, FlagEnds-start, FlagEnds-item, FlagEnds-end, live_or_ended, none_ended, all_ended-none}
use Rattle.ff_unit.proofs.HasEnds.{HasEnd-right}

-- while it wasn't told to abort its flags tell which ins ended
abbrev MergeFlags : MergeState → List (List Message) → List (List Message) → Type 0
MergeFlags u gots puts = u.told ≡ false → FlagEnds u.live gots

closes-flags : (w : MergeState) (gots puts : List (List Message)) → MergeFlags w gots puts → MergeFlags (merge_closes w) gots puts
closes-flags w gots puts h = by (any_live w.live) refl
  where
    by : (any : Bool) → any_live w.live ≡ any → MergeFlags (merge_closes w) gots puts
    by true e = rw e h
    by false e = rw e h

takes-flags : (u : MergeState) (gots puts : List (List Message)) (k : ℕ) (m : Message) → IsLive u.live k → MergeFlags u gots puts → MergeFlags (merge_takes u k m) (added gots k m) puts
takes-flags u gots puts k (Item x) on h = λ told. FlagEnds-item u.live gots k (Item x) (h told) on (λ e. e)
takes-flags u gots puts k Mark on h = λ told. FlagEnds-item u.live gots k Mark (h told) on (λ e. e)
takes-flags u gots puts k (Pick w) on h = λ told. FlagEnds-item u.live gots k (Pick w) (h told) on (λ e. e)
takes-flags u gots puts k EosMsg on h =
    closes-flags (record u { live = slice_set u.live k false }) (added gots k EosMsg) puts (λ told. FlagEnds-end u.live gots k EosMsg (h told) on tt)
takes-flags u gots puts k AbortMsg on h = λ told. FlagEnds-end u.live gots k AbortMsg (h told) on tt

step-flags : (u : MergeState) (gots puts : List (List Message)) (act : Act) (v : MergeState) → MergeFlags u gots puts → MergeStep u act v → MergeFlags v (took act gots) (gave act puts)
step-flags u gots puts (Took k m) v h s = subst (λ w. MergeFlags w (added gots k m) puts) (sym s.2) (takes-flags u gots puts k m s.1 h)
step-flags u gots puts (Gave k m) v h s = subst (λ w. MergeFlags w gots (added puts k m)) (sym s.2) h
step-flags u gots puts Refused v h s = subst (λ w. MergeFlags w gots puts) (sym s.1) h
step-flags u gots puts Idle v h (inl e) = subst (λ w. MergeFlags w gots puts) (sym e) h
step-flags u gots puts Idle v h (inr s) = subst (λ w. MergeFlags w gots puts) (sym s.2) h
step-flags u gots puts Told v h s = subst (λ w. MergeFlags w gots puts) (sym s.1) (λ told. absurd (false≢true (sym told)))
step-flags u gots puts (Handed x) v h s = absurd s

pub merge-flags : (u : MergeState) (gots puts : List (List Message)) → HasRun MergeStep (opening_merge u) (length (all_live (length u.live))) 1 u gots puts → MergeFlags u gots puts
merge-flags u gots puts run =
    let n = length u.live in
    HasRun-keeps MergeStep MergeFlags (opened_merge n) (length (all_live n)) 1
    (λ told. subst (λ k. FlagEnds (all_live n) (replicate k [])) (sym (length-all_live n)) (FlagEnds-start n)) step-flags u gots puts run

cut-end : {ys : _} (t : List Message) → IsCutOff t ys → HasEnd t
cut-end t c = subst HasEnd (sym c.is) (HasEnd-right c.put (AbortMsg ∷ []) tt)

-- where no in gives any more, the end was told or is held
told-end : (end : End) (any : Bool) (t : List Message) (ys : _) → any ≡ false → OutTied end any t ys → HasEnd t
told-end Eos true t ys none out = absurd (false≢true (sym none))
told-end Eos false t ys none out = subst HasEnd (sym out) (HasEnd-right (carried ys) (EosMsg ∷ []) tt)
told-end Abort any t ys none out = cut-end t out
told-end Memory any t ys none out = cut-end t out

pub merge_rests : (u : MergeState) (gots puts : List (List Message)) (before after : Known) → Ran merge_does u gots puts → u.told ≡ false
    → AtRest merge_does u before after → IsFree 1 after → Rested (length u.live) 1 gots puts after u.done
merge_rests u gots puts before after ran told rest free = by rest
  where
    flags : FlagEnds u.live gots
    flags = merge-flags u gots puts ran.1 told

    tied : MergeTied (length u.live) u gots puts
    tied = HasRun-merge u gots puts (subst (λ n. 1 ≤ n) (length-all_live (length u.live)) ran.0.0) ran.1

    stalled : (held : List Message) (any : Bool) → u.held ≡ held → any_live u.live ≡ any → MergeStalls held any u.live before after → Rested (length u.live) 1 gots puts after u.done
    stalled (m ∷ held) any is_held is stalls = absurd (free.rooms 0 (omega arith) stalls.1)
    stalled [] false is_held is stalls = absurd (stalls free.idle)
    stalled [] true is_held is stalls = record {
      dry = λ k below. elim (live_or_ended u.live gots k flags below) [ inl live ↦ inr (stalls k live).1 | inr ended ↦ inl ended ];
      ends = λ each. absurd (false≢true (sym (all_ended-none u.live gots flags each) ∙ is));
    }

    by : AtRest merge_does u before after → Rested (length u.live) 1 gots puts after u.done
    by (inr stalls) = stalled u.held (any_live u.live) refl refl stalls
    by (inl done) =
        let ended = tied.ended done in
        let put : HasEnd tied.put =
        subst HasEnd (ap (λ h. tied.put ++ h) ended.0 ∙ append-nil tied.put) (told-end u.end (any_live u.live) (tied.put ++ u.held) tied.ys ended.1 tied.out) in
        record {
          dry = λ k below. inl (none_ended u.live gots k flags ended.1 below);
          ends = λ each. (done, λ k below. by_out k below (subst (λ ps. HasEnd (at ps 0)) (sym tied.puts_are) put));
        }
      where
        by_out : (k : ℕ) → k < 1 → HasEnd (at puts 0) → HasEnd (at puts k)
        by_out k below h = let none : k ≡ 0 = omega (arith, below) in subst (λ j. HasEnd (at puts j)) (sym none) h
