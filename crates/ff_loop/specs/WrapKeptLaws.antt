-- Every run of a wrap's master keeps it tied to its ports.
use Rattle.std.specs.Prelude.{◌≡◌, ◌≢◌, ◌≤◌, ℕ, suc, true, false, List, [], None}
use Rattle.std.proofs.Common.{refl, sym, ap, ◌∙◌, subst, inl, inr}
use Rattle.std.proofs.lemmas.Bool.{false≢true}
use Rattle.ff_rec.specs.Streams.{added}
use Rattle.ff_rec.specs.declared.msg.Msg.TheVariants.{Eos as EosMsg, Abort as AbortMsg}
use Rattle.ff_node.specs.Runs.{Message, Act, Took, Gave, Refused, Idle, Told, Handed, HasRun, took, gave}
use Rattle.ff_port.specs.declared.answers.End.TheVariants.{Eos, Abort, Memory}
use Rattle.ff_unit.specs.Closing.{IsLive, any_live, none_live}
use Rattle.ff_unit.specs.Deals.{on_outs, MayBeRefused}
use Rattle.ff_unit.specs.FlagLaws.{length-none_live}
use Rattle.ff_unit.specs.RunLaws.{HasRun-keeps}
use Rattle.ff_unit.specs.declared.mode.Mode.{Mode}
use Rattle.ff_unit.specs.declared.mode.Mode.TheVariants.{Live, Shut, Cut}
use Rattle.ff_loop.specs.Rounds.{test_of, limit_of, workers_of}
use Rattle.ff_loop.specs.WrapMasters.{WrapState, WrapStep, WrapTakes, cut_off, to_ends, opening_wrap}
use Rattle.ff_loop.specs.WrapCutLaws.{TiedCut-works, TiedCut-told}
use Rattle.ff_loop.specs.WrapGaveLaws.{IsTold-refuses, gave-bare}
use Rattle.ff_loop.specs.WrapGoesLaws.{pulls-tied}
use Rattle.ff_loop.specs.WrapOpenedLaws.{IsTied-opened}
use Rattle.ff_loop.specs.WrapShutTakesLaws.{shut-tied}
use Rattle.ff_loop.specs.WrapTakenLaws.{cut-tied}
use Rattle.ff_loop.specs.WrapTiedLaws.{TiedWorks, TiedCut, TiedAt, IsBare, IsTied}
use Rattle.ff_loop.specs.WrapWorkingLaws.{length-to_ends, working-bare}

module _ (u : WrapState) (gots puts : List (List Message)) (t : IsTied u gots puts) where
  -- a message is taken
  took-bare : (k : ℕ) (m : Message) (w : WrapState) → u.held ≡ [] → IsLive u.live k → WrapTakes u.mode u k m w → IsBare w (added gots k m) puts
  took-bare k m w none on = by u.mode refl
    where
      by : (mode : Mode) → u.mode ≡ mode → WrapTakes mode u k m w → IsBare w (added gots k m) puts
      by Live is s = working-bare u gots puts t is none k m w on s
      by Shut is s = subst (λ x. IsBare x (added gots k m) puts) (sym s) (shut-tied u gots puts t is none k m on)
      by Cut is s = subst (λ x. IsBare x (added gots k m) puts) (sym s) (cut-tied u gots puts t is k m on)

  -- a put is refused memory: what is told isn't
  refused_cut : (mode : Mode) → TiedAt mode u gots t.given → MayBeRefused None u.held → TiedCut (cut_off u Memory) gots t.given
  refused_cut Live tied may = let short : Memory ≢ Eos = λ e. absurd cc in TiedCut-works u gots t.given (to_ends u.live) u.parts Memory t.logged tied.0 short
  refused_cut Shut tied may = absurd (IsTold-refuses EosMsg (suc (workers_of u.round)) u.held t.given (λ open_msg. open_msg) tied.telling may)
  refused_cut Cut tied may = absurd (IsTold-refuses AbortMsg (suc (workers_of u.round)) u.held t.given (λ open_msg. open_msg) tied.telling may)

  refused-tied : MayBeRefused None u.held → IsTied (cut_off u Memory) gots puts
  refused-tied may = record {
    some = t.some;
    ins = t.ins;
    flags = length-to_ends u.live ∙ t.flags;
    parts_are = t.parts_are;
    round = t.round;
    logged = t.logged;
    over = t.over;
    cause = λ e. absurd cc;
    ended = λ done. absurd (subst (MayBeRefused None) (t.ended done).0 may);
    given = t.given;
    puts_are = t.puts_are;
    tied = refused_cut u.mode t.tied may;
  }

  -- it ends
  done_at : (mode : Mode) → u.held ≡ [] → any_live u.live ≡ false → TiedAt mode u gots t.given → TiedAt mode (record u { done = true }) gots t.given
  done_at Live held off tied = absurd (false≢true (sym off ∙ tied.1 held))
  done_at Shut held off tied = record {
    end = tied.end;
    none_left = tied.none_left;
    no_result = tied.no_result;
    all_got = tied.all_got;
    tasks = tied.tasks;
    results = tied.results;
    fed_in = tied.fed_in;
    ended_0 = tied.ended_0;
    answers = tied.answers;
    telling = tied.telling;
    last_alone = tied.last_alone;
  }
  done_at Cut held off tied = record {
    end = tied.end;
    tasks = tied.tasks;
    results = tied.results;
    ends = tied.ends;
    last_open = tied.last_open;
    fed_in = tied.fed_in;
    answers = tied.answers;
    telling = tied.telling;
  }

  done-tied : u.held ≡ [] → any_live u.live ≡ false → IsTied (record u { done = true }) gots puts
  done-tied held off = record {
    some = t.some;
    ins = t.ins;
    flags = t.flags;
    parts_are = t.parts_are;
    round = t.round;
    logged = t.logged;
    over = t.over;
    cause = t.cause;
    ended = λ _. (held, off);
    given = t.given;
    puts_are = t.puts_are;
    tied = done_at u.mode held off t.tied;
  }

  -- it is told to abort before its first step
  told-tied : u ≡ opening_wrap u
      → IsTied (record u { live = none_live (suc (workers_of u.round)); held = on_outs 0 (suc (workers_of u.round)) AbortMsg; mode = Cut; end = Abort; told = true }) gots puts
  told-tied fresh =
      let live : u.mode ≡ Live = ap (λ w. w.mode) fresh in
      let works : TiedWorks u gots t.given = (subst (λ m. TiedAt m u gots t.given) live t.tied).0 in record {
        some = t.some;
        ins = t.ins;
        flags = length-none_live (suc (workers_of u.round));
        parts_are = t.parts_are;
        round = t.round;
        logged = t.logged;
        over = t.over;
        cause = λ e. inl refl;
        ended = λ done. absurd (false≢true (sym works.goes_on ∙ done));
        given = t.given;
        puts_are = t.puts_are;
        tied = TiedCut-told u gots t.given (none_live (suc (workers_of u.round))) t.logged works;
      }

-- one act
pub IsTied-step : (u : WrapState) (gots puts : List (List Message)) (act : Act) (v : WrapState) → IsTied u gots puts → WrapStep u act v → IsTied v (took act gots) (gave act puts)
IsTied-step u gots puts (Took k m) v t s = pulls-tied s.2 (added gots k m) puts (took-bare u gots puts t k m s.2 s.0 s.1 s.3) v s.4
IsTied-step u gots puts (Gave k m) v t s = pulls-tied s.0 gots (added puts k m) (gave-bare u s.0 gots puts t k m s.1 s.2) v s.3
IsTied-step u gots puts Refused v t s = subst (λ w. IsTied w gots puts) (sym s.1) (refused-tied u gots puts t s.0)
IsTied-step u gots puts Idle v t (inl e) = subst (λ w. IsTied w gots puts) (sym e) t
IsTied-step u gots puts Idle v t (inr s) = subst (λ w. IsTied w gots puts) (sym s.2) (done-tied u gots puts t s.0 s.1)
IsTied-step u gots puts Told v t s = subst (λ w. IsTied w gots puts) (sym s.1) (told-tied u gots puts t s.0)
IsTied-step u gots puts (Handed x) v t s = absurd s

-- every run
pub HasRun-tied_wrap : (u : WrapState) (gots puts : List (List Message)) → 1 ≤ workers_of u.round
    → HasRun WrapStep (opening_wrap u) (suc (workers_of u.round)) (suc (workers_of u.round)) u gots puts → IsTied u gots puts
HasRun-tied_wrap u gots puts some run =
    let n = workers_of u.round in
    HasRun-keeps WrapStep IsTied (opening_wrap u) (suc n) (suc n) (IsTied-opened (test_of u.round) (limit_of u.round) n some) IsTied-step u gots puts run
