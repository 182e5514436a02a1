-- A unit of a network may go to another thread where its nodes may. Its parts are shown one by one, since a search through all of them at
-- once runs out of steps.
use denote.RattleType.{RattleType}
use denote.Param.Send.{IsSend, sendable, view_send}
use denote.Param.SendFields.{declared_send, as_row_send}
use Rattle.std.specs.contracts.option.Option as Option
use Rattle.std.proofs.Crossing.{crosses}
use Rattle.ff_rec.specs.contracts.msg.Msg as Msg
use Rattle.ff_rec.specs.contracts.record.Record as Record
use Rattle.ff_port.specs.contracts.past.Past as Past
use Rattle.ff_port.proofs.past.Past.TheLaws.TheKnot.{crosses as past_crosses}
use Rattle.ff_node.specs.contracts.comb.Comb as Comb
use Rattle.ff_node.specs.contracts.sends.Sends as Sends
use Rattle.ff_unit.specs.contracts.stage.Stage as Stage
use Rattle.ff_unit.specs.contracts.deal.Deal as Deal
use Rattle.ff_unit.specs.contracts.deal.held.Held as Held
use Rattle.ff_unit.specs.contracts.flags.Flags as Flags
use Rattle.ff_unit.specs.contracts.merge.Merge as Merge
use Rattle.ff_order.specs.contracts.odeal.ODeal as ODeal
use Rattle.ff_order.specs.contracts.omerge.OMerge as OMerge
use Rattle.ff_unit.specs.contracts.runner.NodeRunner as Runner
use Rattle.ff_unit.specs.contracts.runner.working.Working as Working
use Rattle.ff_unit.specs.contracts.mode.Mode as Mode
use Rattle.ff_port.specs.contracts.answers.End as End
use Rattle.ff_rec.specs.contracts.records.Records as Records
use Rattle.ff_net.specs.contracts.net.Test as Test
use Rattle.ff_net.specs.contracts.tasks.Tasks as Tasks
use Rattle.ff_loop.specs.contracts.events.Events as Events
use Rattle.ff_loop.specs.contracts.events.Happened as Happened
use Rattle.ff_loop.specs.contracts.log.Log as Log
use Rattle.ff_loop.specs.contracts.log.Moved as Moved
use Rattle.ff_loop.specs.contracts.numbers.Numbers as Numbers
use Rattle.ff_loop.specs.contracts.worklist.Worklist as Worklist
use Rattle.ff_loop.specs.contracts.master.Master as Master
use Rattle.ff_loop.specs.contracts.rounds.Rounds as Rounds
use Rattle.ff_loop.specs.contracts.work.Work as Work
use Rattle.ff_loop.specs.contracts.wrap_master.WrapMaster as WrapMaster
use Rattle.ff_loop.specs.contracts.wrap_master.WrapMaster.TheInside as WrapInside
use Rattle.ff_loop.specs.contracts.worker.WrapWorker as WrapWorker
use Rattle.ff_steps.specs.contracts.net_unit.Part as Part
use Rattle.ff_steps.specs.contracts.net_unit.NetUnit as NetUnit
use Rattle.ff_steps.specs.contracts.net_unit.NetUnit.TheInside as Inside

IsSend-record : IsSend Record.the_row
IsSend-record = search (sendable, crosses) depth 24

IsSend-message : IsSend (Msg.the_row Record.the_row)
IsSend-message = let r = IsSend-record in search (sendable, crosses) depth 20

IsSend-one : IsSend (Option.the_row (Msg.the_row Record.the_row))
IsSend-one = let m = IsSend-message in search (sendable, crosses) depth 20

IsSend-flags : IsSend Flags.the_row
IsSend-flags = search (sendable, crosses) depth 20

IsSend-held : IsSend Held.the_row
IsSend-held = let m = IsSend-message in search (sendable, crosses) depth 20

IsSend-deal : IsSend Deal.the_row
IsSend-deal = let r = IsSend-record in let h = IsSend-held in search (sendable, crosses) depth 20

IsSend-odeal : IsSend ODeal.the_row
IsSend-odeal = let d = IsSend-deal in search (sendable, crosses) depth 20

IsSend-merge : IsSend Merge.the_row
IsSend-merge = let o = IsSend-one in let f = IsSend-flags in search (sendable, crosses) depth 40

IsSend-omerge : IsSend OMerge.the_row
IsSend-omerge = let o = IsSend-one in let f = IsSend-flags in search (sendable, crosses) depth 40

IsSend-sends : IsSend Sends.the_row
IsSend-sends = let r = IsSend-record in search (sendable, crosses) depth 40

IsSend-past : IsSend (Past.the_row Record.the_row)
IsSend-past = let r = IsSend-record in search (sendable, crosses, past_crosses) depth 40

-- what a master keeps of its tasks
IsSend-records : IsSend Records.the_row
IsSend-records = let r = IsSend-record in search (sendable, crosses) depth 40

IsSend-test : IsSend Test.the_row
IsSend-test = search (sendable, crosses) depth 40

IsSend-tasks : IsSend Tasks.the_row
IsSend-tasks = let r = IsSend-records in search (sendable, crosses) depth 40

IsSend-happened : IsSend (Happened.the_row Record.the_row Sends.the_row)
IsSend-happened = let r = IsSend-record in let s = IsSend-sends in search (sendable, crosses) depth 40

IsSend-events : IsSend (Events.the_row Record.the_row Sends.the_row)
IsSend-events = let h = IsSend-happened in search (sendable, crosses, past_crosses) depth 40

IsSend-moved : IsSend (Moved.the_row Record.the_row Sends.the_row)
IsSend-moved = let r = IsSend-record in let s = IsSend-sends in search (sendable, crosses) depth 40

IsSend-log : IsSend (Log.the_row Record.the_row Sends.the_row)
IsSend-log = let m = IsSend-moved in search (sendable, crosses, past_crosses) depth 40

IsSend-numbers : IsSend Numbers.the_row
IsSend-numbers = search (sendable, crosses) depth 40

IsSend-worklist : IsSend Worklist.the_row
IsSend-worklist =
    let c = IsSend-test in let t = IsSend-tasks in let e = IsSend-events in let p = IsSend-past in search (sendable, crosses) depth 40 fits 8000

IsSend-master : IsSend (Master.the_row Record.the_row Sends.the_row Worklist.the_row)
IsSend-master = let w = IsSend-worklist in let n = IsSend-numbers in let l = IsSend-log in search (sendable, crosses) depth 40

IsSend-rounds : IsSend Rounds.the_row
IsSend-rounds = let m = IsSend-master in search (sendable, crosses) depth 40

IsSend-work : IsSend Work.the_row
IsSend-work = let r = IsSend-rounds in search (sendable, crosses) depth 40

IsSend-mode : IsSend Mode.the_row
IsSend-mode = search (sendable, crosses) depth 40

IsSend-end : IsSend End.the_row
IsSend-end = search (sendable, crosses) depth 40

IsSend-wrap_inside : IsSend WrapInside.the_row
IsSend-wrap_inside =
    let w = IsSend-work in let s = IsSend-sends in let f = IsSend-flags in let h = IsSend-held in let m = IsSend-mode in let e = IsSend-end in
    declared_send WrapInside.the_type (
      search (sendable, crosses) depth 40,
      (
        search (sendable, crosses) depth 40,
        (
          search (sendable, crosses) depth 40,
          (
            search (sendable, crosses) depth 40,
            (
              search (sendable, crosses) depth 40,
              (
                search (sendable, crosses) depth 40,
                (
                  search (sendable, crosses) depth 40,
                  (
                    search (sendable, crosses) depth 40,
                    (
                      search (sendable, crosses) depth 40,
                      (search (sendable, crosses) depth 40, tt),
                    ),
                  ),
                ),
              ),
            ),
          ),
        ),
      ),
    )

IsSend-wrap : IsSend WrapMaster.the_row
IsSend-wrap = view_send WrapInside.the_row _ _ _ _ IsSend-wrap_inside

module _ (N : RattleType) (sent : IsSend N) where
  IsSend-comb : IsSend (Comb.the_row N)
  IsSend-comb = search (sendable, crosses) depth 40

  IsSend-working : IsSend (Working.the_row (Comb.the_row N))
  IsSend-working = let o = IsSend-one in let s = IsSend-sends in let p = IsSend-past in let c = IsSend-comb in search (sendable, crosses) depth 40

  IsSend-runner : IsSend (Runner.the_row (Comb.the_row N))
  IsSend-runner = let o = IsSend-one in let w = IsSend-working in search (sendable, crosses) depth 40

  IsSend-stage : IsSend (Stage.the_row (Comb.the_row N))
  IsSend-stage = let r = IsSend-runner in search (sendable, crosses) depth 40

  IsSend-worker : IsSend (WrapWorker.the_row (Comb.the_row N))
  IsSend-worker = let r = IsSend-runner in search (sendable, crosses) depth 40

  IsSend-part : IsSend (Part.the_field N).row
  IsSend-part =
      let d = IsSend-deal in let g = IsSend-odeal in let j = IsSend-merge in let o = IsSend-omerge in let s = IsSend-stage in
      let m = IsSend-wrap in let w = IsSend-worker in
      search (sendable, crosses) depth 40

  IsSend-inside : IsSend (Inside.the_row N)
  IsSend-inside = declared_send (Inside.the_type N) (as_row_send (Part.the_field N) IsSend-part, tt)

  pub IsSend-unit : IsSend (NetUnit.the_row N)
  IsSend-unit = view_send (Inside.the_row N) _ _ _ _ IsSend-inside
